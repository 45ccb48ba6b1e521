-- Which changes leave their barrier completing, and which threads are started.
use Rattle.std.specs.Prelude.{◌≡◌, ℕ, ◌<◌, Bool, true, false, List, length, filter, slice_get, Option, Some, None, unwrap_or}
use Rattle.cx_machine.specs.Machine.{State, opening}
use Rattle.cx_scene.specs.declared.declared.Object.{Object}
use Rattle.cx_scene.specs.Scene.{Scene, kind_of}
use Rattle.cx_history.specs.Histories.{Recorded, Placed, is_at, changes_of}
use Rattle.cx_history.specs.Follows.{completes_by, has_started}
use Rattle.cx_checker.specs.declared.marking.Marks.{Marks}

-- a mark that isn't there is none
abbrev pub marked : List Bool → ℕ → Bool
marked marks p = unwrap_or (slice_get marks p) false

-- the position is held
abbrev pub IsHeldAt : ℕ → List Placed → Type 0
IsHeldAt p changes = 0 < length (filter (is_at p) changes)

-- each position that is held has a mark where the change there leaves the machine completing
abbrev pub AreCompletions : State → List Placed → List Bool → Type 0
AreCompletions from changes marks = (p : ℕ) → IsHeldAt p changes → marked marks p ≡ completes_by from changes p

-- of each object
pub record AreMarks (s : Scene) (r : Recorded) (marks : List Marks) : Type 0 where
  pub count_is : length marks ≡ length s.objects
  pub each : (o : ℕ) (d : Object) (m : Marks) → slice_get s.objects o ≡ Some d → slice_get marks o ≡ Some m → AreCompletions (opening (kind_of d)) (changes_of r o) m.marks.items

-- a flag for each thread, whether it is started
abbrev pub AreStarted : Recorded → List Bool → Type 0
AreStarted r flags = (t : ℕ) → t < length flags → marked flags t ≡ has_started r t

-- whether the change of an object at a position is marked
abbrev pub marked_at : List Marks → ℕ → ℕ → Bool
marked_at all o p = elim (slice_get all o) [ None ↦ false | Some m ↦ marked m.marks.items p ]
