-- A call of which only the fronts before and after are known, with a log of its acts on one object.
use Rattle.std.specs.Prelude.{◌≡◌, ℕ, ◌+◌, ◌≤◌, IsTrue, List, [], ◌∷◌, ◌++◌, length, slice_get, Some}
use mathlib.Core.List.{IsPrefix}
use Rattle.cx_names.specs.declared.ObjectNo.{ObjectNo}
use Rattle.cx_machine.specs.declared.kind.Entry.{Entry}
use Rattle.cx_machine.specs.declared.kind.Look.{Look}
use Rattle.cx_scene.specs.Scene.{Scene}
use Rattle.cx_items.specs.declared.item.Item.{Item}
use Rattle.cx_items.specs.declared.item.Item.TheVariants as items
use Rattle.cx_fronts.specs.Positions.{positions}
use Rattle.cx_fronts.specs.Paths.{Fronts, put, shown_in, Path}

-- a change at its position, or a look
pub data Act : Type 0 where
  Made : ℕ → Entry → Act
  Saw : Look → Act

abbrev pub log_items : ObjectNo → List Act → List Item
log_items q [] = []
log_items q (Made n e ∷ acts) = items.Change q n e ∷ log_items q acts
log_items q (Saw l ∷ acts) = items.Look q l ∷ log_items q acts

abbrev pub log_own : List Act → List ℕ
log_own [] = []
log_own (Made n e ∷ acts) = n ∷ log_own acts
log_own (Saw l ∷ acts) = log_own acts

-- acts of t whose positions and stamps don't fall from m on nor pass the front's length; each change stands in the front, and
-- each look is shown by it
abbrev pub FitsFrom : Scene → ℕ → ObjectNo → List Entry → ℕ → List Act → Type 0
FitsFrom s t q H m [] = m ≤ length H
FitsFrom s t q H m (Made n e ∷ acts) = (m ≤ n) × (slice_get H n ≡ Some e) × FitsFrom s t q H (n + 1) acts
FitsFrom s t q H m (Saw l ∷ acts) = (l.by.0 ≡ t) × (m ≤ l.at) × IsTrue (shown_in s H q l) × FitsFrom s t q H l.at acts

-- a path goes on by the log
abbrev pub OneCallMore : Type 0
OneCallMore = (s : Scene) (first last : ℕ → Fronts) (t : ℕ) (f g : Fronts) (xs : List Item) (q : ObjectNo) (H : List Entry) (acts : List Act) → Path s first last t f xs g → IsPrefix (g q.0) H → FitsFrom s t q H (length (g q.0)) acts → positions t 0 H ≡ positions t 0 (g q.0) ++ log_own acts → Path s first last t f (xs ++ log_items q acts) (put g q.0 H)
