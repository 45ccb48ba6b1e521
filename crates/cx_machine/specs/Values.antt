-- The values of a stop state's registered callbacks, and how a change moves one between them and the hand.
use Rattle.std.specs.Prelude.{◌≡◌, ℕ, ◌==◌, ◌<◌, ◌≤◌, not, Bool, true, false, List, [], ◌∷◌, ◌++◌, length, filter, Option, Some, None, IsSome, if◌then◌else◌}
use Rattle.std.specs.List.{position}
use Rattle.cx_names.specs.declared.Reply.{Reply}
use Rattle.cx_names.specs.declared.Reply.TheVariants as replies
use Rattle.cx_machine.specs.declared.kind.Op.{Op}
use Rattle.cx_machine.specs.declared.kind.Op.TheVariants as ops
use Rattle.cx_machine.specs.declared.registry.Callback.{Callback}
use Rattle.cx_machine.specs.Words.{has}
use Rattle.cx_machine.specs.Meaning.{times}

abbrev pub truth : Bool → Reply
truth true = replies.True
truth false = replies.False

abbrev pub ids_of : {C : Type 0} → List (Callback C) → List ℕ
ids_of [] = []
ids_of (c ∷ cs) = c.id ∷ ids_of cs

-- the value of the callback with this ID, and the callbacks without it
abbrev pub value_of : {C : Type 0} → List (Callback C) → ℕ → Option C
value_of [] id = None
value_of (c ∷ cs) id = if c.id == id then Some c.value else value_of cs id

abbrev pub others : {C : Type 0} → List (Callback C) → ℕ → List (Callback C)
others {C} cs id = filter (λ (c : Callback C). not (c.id == id)) cs

-- where the first callback with this ID stands
abbrev pub place_of : {C : Type 0} → List (Callback C) → ℕ → Option ℕ
place_of {C} cs id = position (λ (c : Callback C). c.id == id) cs

-- the value leaves the hand and comes last in the list
pub record PutsIn {C : Type 0} (old : List (Callback C)) (number : ℕ) (hand : Option C) (new : List (Callback C)) (rest : Option C) : Type 0 where
  pub list : (v : C) → hand ≡ Some v → new ≡ old ++ record { id = number; value = v } ∷ []
  pub emptied : rest ≡ None

-- the callback leaves the list, and its value comes into the hand
pub record TakesOut {C : Type 0} (old : List (Callback C)) (number : ℕ) (new : List (Callback C)) (out : Option C) : Type 0 where
  pub list : new ≡ others old number
  pub taken : out ≡ value_of old number
  pub is_one : IsSome out

-- a registration finds a value in the hand, and a change that brings one there finds it empty
abbrev pub Ready : {C : Type 0} → Option C → Op → Reply → Type 0
Ready hand ops.Register r = IsSome hand
Ready hand ops.Begin r = hand ≡ None
Ready hand ops.Deregister replies.Removed = hand ≡ None
Ready hand _ _ = Unit {0}

-- a registration takes the value from the hand; the begin of a callback, and the deregistration of one that hasn't begun, put it there
abbrev pub Moves : {C : Type 0} → List (Callback C) → Option C → Op → Option ℕ → Reply → List (Callback C) → Option C → Type 0
Moves old hand ops.Register (Some id) r new rest = PutsIn old id hand new rest
Moves old hand ops.Begin (Some id) r new rest = TakesOut old id new rest
Moves old hand ops.Deregister (Some id) replies.Removed new rest = TakesOut old id new rest
Moves old hand _ _ _ new rest = (new ≡ old) × (rest ≡ hand)

-- what such a move needs: room for the value, or one callback with this ID
abbrev pub IsThere : {C : Type 0} → List (Callback C) → ℕ → Type 0
IsThere cs id = (has (ids_of cs) id ≡ true) × (times id (ids_of cs) ≤ 1)

abbrev pub MayMove : {C : Type 0} → List (Callback C) → ℕ → Op → Option ℕ → Reply → Type 0
MayMove old room ops.Register (Some id) r = length old < room
MayMove old room ops.Begin (Some id) r = IsThere old id
MayMove old room ops.Deregister (Some id) replies.Removed = IsThere old id
MayMove old room _ _ _ = Unit {0}
