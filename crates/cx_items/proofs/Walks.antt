-- One step of a walk along a list.
use Rattle.std.proofs.Common.{◌≡◌, ℕ, ◌+◌, ◌<◌, ◌==◌, ◌||◌, List, length, drop, get_or, Some, if◌then◌else◌}
use Rattle.std.proofs.lemmas.List.{at_drop_more}
use Rattle.cx_names.specs.declared.CallbackNo.{CallbackNo}
use Rattle.cx_machine.specs.Words.{has}
use Rattle.cx_scene.specs.Scene.{Scene, registration}
use Rattle.cx_items.specs.Memory.{Memory, owns}
use Rattle.cx_items.specs.Calls.{is_of, held_id, has_one}

pub has_walk : (ns : List ℕ) (i n : ℕ) → i < length ns → has (drop i ns) n ≡ ((get_or ns i 0 == n) || has (drop (i + 1) ns) n)
has_walk ns i n h = at_drop_more (λ ms. has ms n) ns i 0 h

pub has_one_walk : (m : Memory) (ns : List ℕ) (i : ℕ) → i < length ns → has_one m (drop i ns) ≡ (owns m (record { 0 = get_or ns i 0 }) || has_one m (drop (i + 1) ns))
has_one_walk m ns i h = at_drop_more (λ ms. has_one m ms) ns i 0 h

pub held_walk : (s : Scene) (ids : List ℕ) (k : CallbackNo) (i : ℕ) → i < length ids → held_id s (drop i ids) k ≡ (if is_of k (registration s (get_or ids i 0)) then Some (get_or ids i 0) else held_id s (drop (i + 1) ids) k)
held_walk s ids k i h = at_drop_more (λ ms. held_id s ms k) ids i 0 h
