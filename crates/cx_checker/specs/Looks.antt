-- The looks of a record, object by object, and which of them are shown.
use Rattle.std.specs.Prelude.{◌≡◌, ℕ, ◌<◌, ◌==◌, ◌&&◌, Bool, true, false, List, [], ◌∷◌, ◌++◌, map, drop, length, slice_get, Option, Some, None, nat_le, if◌then◌else◌}
use Rattle.cx_machine.specs.declared.kind.Kind.{Kind}
use Rattle.cx_machine.specs.declared.kind.Look.{Look}
use Rattle.cx_machine.specs.Machine.{after}
use Rattle.cx_scene.specs.Scene.{Scene}
use Rattle.cx_items.specs.declared.item.Item.{Item}
use Rattle.cx_items.specs.declared.item.Item.TheVariants as items
use Rattle.cx_history.specs.Histories.{Recorded, Placed, items_of, in_order, entries}
use Rattle.cx_history.specs.Legal.{is_shown, shows_to}
use Rattle.cx_checker.specs.declared.looks.Looks.{Looks}
use Rattle.cx_checker.specs.declared.verdicts.Verdicts.{Verdicts}

-- the looks at an object, in order of thread and item
abbrev pub look_on : ℕ → Item → List Look
look_on o (items.Look q l) = if q.0 == o then l ∷ [] else []
look_on o _ = []

abbrev pub looks_in : ℕ → List Item → List Look
looks_in o [] = []
looks_in o (x ∷ xs) = look_on o x ++ looks_in o xs

abbrev pub looks_from : ℕ → List (Option (List Item)) → List Look
looks_from o [] = []
looks_from o (l ∷ ls) = looks_in o (items_of l) ++ looks_from o ls

abbrev pub looked : Option Looks → List Look
looked None = []
looked (Some ls) = ls.looks.items

abbrev pub looks_at : List Looks → ℕ → List Look
looks_at all o = looked (slice_get all o)

-- whether a look at an object of this kind with these changes is shown
abbrev pub verdict : Kind → List Placed → Look → Bool
verdict kind cs l = nat_le l.at (length (entries (in_order cs))) && shows_to (after kind (entries (in_order cs)) l.at) l

-- a verdict for each of these looks
abbrev pub AreVerdicts : Kind → List Placed → List Look → List Bool → Type 0
AreVerdicts kind cs ls verdicts = verdicts ≡ map (verdict kind cs) ls

-- whether the record shows a look at object q
abbrev pub told : Scene → Recorded → ℕ → Look → Bool
told s r q l = is_shown s r (items.Look (record { 0 = q }) l)

-- the verdicts that are left of an object
abbrev pub left_in : Option Verdicts → List Bool
left_in None = []
left_in (Some v) = drop v.next v.verdicts.items

abbrev pub left_at : List Verdicts → ℕ → List Bool
left_at all o = left_in (slice_get all o)

-- the verdicts that are left are those on these looks
abbrev pub Tell : Scene → Recorded → List Verdicts → (ℕ → List Look) → Type 0
Tell s r all looks = (q : ℕ) → q < length all → left_at all q ≡ map (told s r q) (looks q)

-- the first of these is taken, and the others are left; of none, any answer
abbrev pub TakesNext : List Bool → Bool → List Bool → Type 0
TakesNext old b new = (c : Bool) (rest : List Bool) → old ≡ c ∷ rest → (b ≡ c) × (new ≡ rest)
