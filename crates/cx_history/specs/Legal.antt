-- Legal records.
use Rattle.std.specs.Prelude.{◌≡◌, ℕ, ◌<◌, ◌&&◌, Bool, true, false, IsTrue, List, [], ◌∷◌, ◌++◌, length, slice_get, Option, Some, None, nat_lt, nat_le, option_and_then}
use Rattle.cx_names.specs.declared.ObjectNo.{ObjectNo}
use Rattle.cx_scene.specs.declared.declared.Object.{Object}
use Rattle.cx_scene.specs.Scene.{Scene, kind_of}
use Rattle.cx_items.specs.declared.item.Item.{Item}
use Rattle.cx_items.specs.declared.item.Item.TheVariants as items
use Rattle.cx_machine.specs.declared.kind.Entry.{Entry}
use Rattle.cx_machine.specs.declared.kind.Look.{Look}
use Rattle.cx_machine.specs.Machine.{State, step, shows, run, after, IsLegal}
use Rattle.cx_history.specs.Histories.{Recorded, Placed, item_at, changes_of, in_order, history, holders, place, owed}
use Rattle.std.specs.List.{list_all}

-- P holds of each item
abbrev pub EachItem : Recorded → (ℕ → ℕ → Item → Type 0) → Type 0
EachItem r P = (t i : ℕ) (x : Item) → item_at r t i ≡ Some x → P t i x

-- the state of an object after the first k changes
abbrev pub state_after : Scene → Recorded → ObjectNo → ℕ → Option State
state_after s r o k = option_and_then (λ d. after (kind_of d) (history r o.0) k) (slice_get s.objects o.0)

abbrev pub shows_to : Option State → Look → Bool
shows_to None l = false
shows_to (Some state) l = shows state l

-- a look is shown after as many changes as its stamp says
abbrev pub is_shown : Scene → Recorded → Item → Bool
is_shown s r (items.Look o l) = nat_le l.at (length (history r o.0)) && shows_to (state_after s r o l.at) l
is_shown s r _ = true

-- the position or the stamp of an item is at least what this says of its object
abbrev pub is_at_least : (ℕ → ℕ) → Item → Bool
is_at_least least (items.Change o p e) = nat_le (least o.0) p
is_at_least least (items.Look o l) = nat_le (least o.0) l.at
is_at_least least _ = true

pub record LegalRecord (s : Scene) (r : Recorded) : Type 0 where
  -- each number below the number of changes is the position of exactly one
  pub gapless : (o : ℕ) (d : Object) → slice_get s.objects o ≡ Some d → (k : ℕ) → k < length (changes_of r o) → holders r o k ≡ 1
  -- the changes of each object are a legal history
  pub stepwise : (o : ℕ) (d : Object) → slice_get s.objects o ≡ Some d → IsLegal (kind_of d) (history r o)
  pub shown : EachItem r (λ t i x. IsTrue (is_shown s r x))
  -- no thread goes back
  pub never_falling : EachItem r (λ t i x. IsTrue (is_at_least (place r t i) x))
  -- nor behind what it knows by starts and joins
  pub ordered : EachItem r (λ t i x. IsTrue (is_at_least (owed r t i) x))

-- ---- laws

-- one more change is one more step
abbrev pub OneMoreStep : Type 0
OneMoreStep = (s : State) (es : List Entry) (e : Entry) → run s (es ++ e ∷ []) ≡ option_and_then (λ t. step t e) (run s es)

-- a change with the greatest position is the last of the sequence, wherever it stands among the others
abbrev pub GreatestIsLast : Type 0
GreatestIsLast = (c : Placed) (xs ys : List Placed) → list_all (λ d. nat_lt d.position c.position) (xs ++ ys) ≡ true → in_order (xs ++ c ∷ ys) ≡ in_order (xs ++ ys) ++ c ∷ []
