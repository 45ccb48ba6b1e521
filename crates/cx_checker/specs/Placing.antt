-- The changes of an object, placed by their positions.
use Rattle.std.specs.Prelude.{◌≡◌, ℕ, ◌<◌, Bool, List, [], ◌∷◌, length, filter, slice_get, slice_set, Option, Some, None, nat_le, if◌then◌else◌}
use Rattle.cx_history.specs.Histories.{Placed, is_at}
use Rattle.cx_checker.specs.declared.placing.Slot.{Slot}
use Rattle.cx_checker.specs.declared.placing.Slot.TheVariants as slots

abbrev pub is_from : ℕ → Placed → Bool
is_from k c = nat_le k c.position

-- the one of lower position, the first of two with the same
abbrev pub sooner : Placed → Option Placed → Placed
sooner c None = c
sooner c (Some d) = if nat_le c.position d.position then c else d

abbrev pub or_change : Option Placed → Option Placed → Option Placed
or_change None c = c
or_change (Some b) c = Some b

-- what a slot says of the changes that hold its position
abbrev pub IsHeld : List Placed → Slot → List Placed → Type 0
IsHeld cs slots.Free xs = xs ≡ []
IsHeld cs (slots.Once j) xs = (j < length cs) × ((c : Placed) → slice_get cs j ≡ Some c → xs ≡ c ∷ [])
IsHeld cs slots.Twice xs = 1 < length xs

-- there is a slot for each change; that at k says who holds position k
pub record IsPlacing (cs : List Placed) (placed : List Slot) : Type 0 where
  pub count : length placed ≡ length cs
  pub each : (k : ℕ) (slot : Slot) → slice_get placed k ≡ Some slot → IsHeld cs slot (filter (is_at k) cs)

-- the only change at a level, or none where there isn't exactly one
abbrev pub IsOnly : Option Placed → List Placed → Type 0
IsOnly None xs = length xs ≡ 1 → ⊥
IsOnly (Some c) xs = xs ≡ c ∷ []

-- a slot with one more change
abbrev pub with_one : Slot → ℕ → Slot
with_one slots.Free i = slots.Once i
with_one _ i = slots.Twice

-- a change of this index is put into the slot of its position, if there is one
abbrev pub put_slot : List Slot → ℕ → ℕ → List Slot
put_slot placed p i = elim (slice_get placed p) [ None ↦ placed | Some old ↦ slice_set placed p (with_one old i) ]
