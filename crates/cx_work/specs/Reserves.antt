-- What a thread's accesses hold, by its list, and what they have left for what its text may still ask.
use Rattle.std.specs.Prelude.{◌≡◌, ℕ, ◌+◌, ◌≤◌, ◌==◌, List, [], ◌∷◌, length, slice_get, Some, if◌then◌else◌}
use Rattle.cx_machine.specs.Machine.{State}
use Rattle.cx_turn.specs.declared.view.View.{View}
use Rattle.cx_scene.specs.Scene.{Scene}
use Rattle.cx_items.specs.declared.kept.Kept.{Kept}
use Rattle.cx_items.specs.declared.item.Item.{Item}
use Rattle.cx_items.specs.declared.item.Item.TheVariants as items
use Rattle.cx_items.specs.Memory.{nothing, kept_after}
use Rattle.cx_asks.specs.Scenes.{taken_in}
use Rattle.cx_asks.specs.Spent.{spent, changes_by, takes_by}
use Rattle.cx_kinds.specs.declared.access.Access.{Access}
use Rattle.cx_kinds.specs.Accesses.{Knows, kept_of, share_of}
use Rattle.cx_kinds.specs.Holding.{in_hand}

-- what is held of object o after an item, where this was held before
abbrev pub held_after : ℕ → Kept → Item → Kept
held_after o k (items.Change q p e) = if q.0 == o then in_hand (kept_after e.op k) else k
held_after o k _ = k

-- what is held of it after these items
abbrev pub held_by : ℕ → Kept → List Item → Kept
held_by o k [] = k
held_by o k (x ∷ xs) = held_by o (held_after o k x) xs

-- the access to object o, which each thread has a part in, holds what the items tell, and what they leave of its changes and of its share is enough for the rest of thread t's text
pub record IsEnough (s : Scene) (t o : ℕ) (k : Access) (xs : List Item) : Type 0 where
  pub seats : (v : View State) → Knows k v → v.seats ≡ length s.threads
  pub holds : kept_of k ≡ held_by o nothing xs
  pub left : (v : View State) → Knows k v → 131072 ≤ v.left + spent (changes_by o) xs
  pub share : taken_in s t o ≤ share_of k + spent (takes_by o) xs

abbrev pub AreEnough : Scene → ℕ → List Access → List Item → Type 0
AreEnough s t ks xs = (o : ℕ) (k : Access) → slice_get ks o ≡ Some k → IsEnough s t o k xs
