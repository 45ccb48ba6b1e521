-- The first flaw of a record, by its six causes in their order.
use Rattle.std.specs.Prelude.{◌≡◌, ℕ, ◌+◌, ◌<◌, Bool, List, [], ◌∷◌, ◌++◌, length, Option, Some, None, if◌then◌else◌, option_map, option_and_then}
use Rattle.cx_scene.specs.declared.declared.Object.{Object}
use Rattle.cx_scene.specs.Scene.{Scene, kind_of}
use Rattle.cx_items.specs.declared.item.Item.{Item}
use Rattle.cx_machine.specs.Machine.{State, opening, step, run}
use Rattle.cx_history.specs.Histories.{Recorded, Placed, items_of, in_order, sequence, entries, is_at, place, owed}
use Rattle.cx_items.specs.Next.{Local, after_item, local_at_start, is_ended}
use Rattle.cx_history.specs.declared.flaw.Flaw.{Flaw}
use Rattle.cx_history.specs.declared.flaw.Cause.{Cause}
use Rattle.cx_history.specs.declared.flaw.Cause.TheVariants as causes
use Rattle.cx_history.specs.Legal.{LegalRecord, is_shown, is_at_least}
use Rattle.cx_history.specs.Follows.{Follows, completes, completes_by, is_completing, after_items, has_started}

abbrev pub flaw : Cause → ℕ → ℕ → Flaw
flaw cause t i = record { thread = record { 0 = t }; item = i; cause = cause }

abbrev pub or_flaw : Option Flaw → Option Flaw → Option Flaw
or_flaw None f = f
or_flaw (Some e) f = Some e

-- ---- text: the first item after which no continuation is allowed

abbrev pub stop_at : Scene → (ℕ → ℕ → Bool) → ℕ → ℕ → Local → List Item → Option ℕ
stop_at s leaves_completing t i l [] = if is_ended l then None else Some i
stop_at s leaves_completing t i l (x ∷ xs) = elim (after_item s leaves_completing t l x) [ None ↦ Some i | Some k ↦ stop_at s leaves_completing t (i + 1) k xs ]

abbrev pub text_flaw : Scene → Recorded → ℕ → Option (List Item) → Option Flaw
text_flaw s r t None = if has_started r t then Some (flaw causes.Text t 0) else None
text_flaw s r t (Some xs) = if has_started r t then option_map (flaw causes.Text t) (stop_at s (completes s r) t 0 (local_at_start s t) xs) else Some (flaw causes.Text t 0)

abbrev pub text_flaw_from : Scene → Recorded → ℕ → List (Option (List Item)) → Option Flaw
text_flaw_from s r t [] = None
text_flaw_from s r t (l ∷ ls) = or_flaw (text_flaw s r t l) (text_flaw_from s r (t + 1) ls)

-- ---- gap and step: by the least object, and its changes in order of position

abbrev pub placed_flaw : Cause → Placed → Flaw
placed_flaw cause c = flaw cause c.thread c.item

-- the first change whose position isn't its place in the order: its position is held twice, or one before it is missing
abbrev pub gap_from : ℕ → List Placed → Option Placed
gap_from k [] = None
gap_from k (c ∷ cs) = if is_at k c then gap_from (k + 1) cs else Some c

abbrev pub bad_step_from : State → List Placed → Option Placed
bad_step_from state [] = None
bad_step_from state (c ∷ cs) = elim (step state c.entry) [ None ↦ Some c | Some next ↦ bad_step_from next cs ]

abbrev pub gap_of : Recorded → ℕ → Object → Option Flaw
gap_of r o d = option_map (placed_flaw causes.Gap) (gap_from 0 (sequence r o))

abbrev pub bad_step_of : Recorded → ℕ → Object → Option Flaw
bad_step_of r o d = option_map (placed_flaw causes.Step) (bad_step_from (opening (kind_of d)) (sequence r o))

abbrev pub first_of_objects : (ℕ → Object → Option Flaw) → ℕ → List Object → Option Flaw
first_of_objects f o [] = None
first_of_objects f o (d ∷ ds) = or_flaw (f o d) (first_of_objects f (o + 1) ds)

-- ---- shown, fell and order: by the least thread and item

abbrev pub first_in : Cause → (ℕ → ℕ → Item → Bool) → ℕ → ℕ → List Item → Option Flaw
first_in cause good t i [] = None
first_in cause good t i (x ∷ xs) = if good t i x then first_in cause good t (i + 1) xs else Some (flaw cause t i)

abbrev pub first_of_items : Cause → (ℕ → ℕ → Item → Bool) → ℕ → List (Option (List Item)) → Option Flaw
first_of_items cause good t [] = None
first_of_items cause good t (l ∷ ls) = or_flaw (first_in cause good t 0 (items_of l)) (first_of_items cause good (t + 1) ls)

-- the causes in the order in which they are tried
abbrev pub first_flaw : Scene → Recorded → Option Flaw
first_flaw s r =
    let shown = first_of_items causes.Shown (λ t i x. is_shown s r x) 0 r.lists in
    let fell = first_of_items causes.Fell (λ t i x. is_at_least (place r t i) x) 0 r.lists in
    let order = first_of_items causes.Order (λ t i x. is_at_least (owed r t i) x) 0 r.lists in
    or_flaw (text_flaw_from s r 0 r.lists)
    (or_flaw (first_of_objects (gap_of r) 0 s.objects)
    (or_flaw (first_of_objects (bad_step_of r) 0 s.objects)
    (or_flaw shown (or_flaw fell order))))

-- ---- laws

-- a record without a flaw is legal and follows its text
abbrev pub FlawlessIsLegal : Type 0
FlawlessIsLegal = (s : Scene) (r : Recorded) → length r.lists ≡ length s.threads → first_flaw s r ≡ None → LegalRecord s r × Follows s r

-- and a record that is legal and follows its text has no flaw
abbrev pub LegalIsFlawless : Type 0
LegalIsFlawless = (s : Scene) (r : Recorded) → LegalRecord s r → Follows s r → first_flaw s r ≡ None

-- the changes on an object so far: no gap, and the machine's state after them
pub record IsSoFar (from : State) (changes : List Placed) (state : State) : Type 0 where
  pub gapless : gap_from 0 (in_order changes) ≡ None
  pub reaches : run from (entries (in_order changes)) ≡ Some state

-- a change at the next position that the machine allows, wherever it stands in the record, keeps that
abbrev pub OneStepMore : Type 0
OneStepMore = (from state next : State) (xs ys : List Placed) (c : Placed) → IsSoFar from (xs ++ ys) state → c.position ≡ length (xs ++ ys) → step state c.entry ≡ Some next → IsSoFar from (xs ++ c ∷ ys) next

-- whether the last change so far leaves a barrier completing is known at once
abbrev pub CompletionIsKnown : Type 0
CompletionIsKnown = (from state : State) (changes : List Placed) (p : ℕ) → IsSoFar from changes state → p + 1 ≡ length changes → completes_by from changes p ≡ is_completing (Some state)

-- and stays so, whatever is changed later
abbrev pub CompletionStays : Type 0
CompletionStays = (from state : State) (xs ys : List Placed) (c : Placed) (p : ℕ) → IsSoFar from (xs ++ ys) state → c.position ≡ length (xs ++ ys) → p < c.position → completes_by from (xs ++ c ∷ ys) p ≡ completes_by from (xs ++ ys) p

-- a list goes on by one item
abbrev pub OneItemMore : Type 0
OneItemMore = (s : Scene) (leaves_completing : ℕ → ℕ → Bool) (t : ℕ) (l : Local) (xs : List Item) (x : Item) → after_items s leaves_completing t l (xs ++ x ∷ []) ≡ option_and_then (λ k. after_item s leaves_completing t k x) (after_items s leaves_completing t l xs)
