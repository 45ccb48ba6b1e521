-- How a path goes on: by one item more, by a start, by a join.
use Rattle.std.specs.Prelude.{◌≡◌, ◌≢◌, ℕ, ◌≤◌, ◌==◌, ◌||◌, Bool, true, false, IsTrue, List, [], ◌∷◌, ◌++◌, length, slice_get, Some, if◌then◌else◌}
use mathlib.Core.List.{IsPrefix}
use Rattle.cx_names.specs.declared.ObjectNo.{ObjectNo}
use Rattle.cx_names.specs.declared.ThreadNo.{ThreadNo}
use Rattle.cx_names.specs.declared.Reply.{Reply}
use Rattle.cx_machine.specs.declared.kind.Entry.{Entry}
use Rattle.cx_machine.specs.declared.kind.Look.{Look}
use Rattle.cx_scene.specs.Scene.{Scene}
use Rattle.cx_items.specs.declared.item.Control.TheVariants as controls
use Rattle.cx_items.specs.declared.item.Item.{Item}
use Rattle.cx_items.specs.declared.item.Item.TheVariants as items
use Rattle.cx_history.specs.Follows.{any_starts}
use Rattle.cx_fronts.specs.Positions.{positions}
use Rattle.cx_fronts.specs.Paths.{Fronts, Grows, put, none_own, shown_in, Moved, Goes, Path}

-- what threads begin or end with, with that of one more
abbrev pub with_thread : (ℕ → Fronts) → ℕ → Fronts → ℕ → Fronts
with_thread fs u h v = if v == u then h else fs v

abbrev pub joins : ℕ → Item → Bool
joins u (items.Control (controls.Join v)) = v.0 == u
joins u _ = false

abbrev pub any_joins : ℕ → List Item → Bool
any_joins u [] = false
any_joins u (x ∷ xs) = joins u x || any_joins u xs

-- ---- laws

abbrev pub PathsCompose : Type 0
PathsCompose = (s : Scene) (first last : ℕ → Fronts) (t : ℕ) (f g h : Fronts) (xs ys : List Item) → Path s first last t f xs g → Path s first last t g ys h → Path s first last t f (xs ++ ys) h

-- fronts that grow without own changes, as where another pass is met
abbrev pub PathsDrift : Type 0
PathsDrift = (s : Scene) (first last : ℕ → Fronts) (t : ℕ) (f g h : Fronts) (xs : List Item) → Path s first last t f xs g → Moved t g h none_own → Path s first last t f xs h

abbrev pub OneItemMore : Type 0
OneItemMore = (s : Scene) (first last : ℕ → Fronts) (t : ℕ) (f g h : Fronts) (xs : List Item) (x : Item) → Path s first last t f xs g → Goes s first last t g h x → Path s first last t f (xs ++ x ∷ []) h

-- a change of t: behind all that was seen, and in the front after it
abbrev pub ChangeGoes : Type 0
ChangeGoes = (s : Scene) (first last : ℕ → Fronts) (t : ℕ) (f : Fronts) (q : ObjectNo) (F : List Entry) (n : ℕ) (e : Entry) → IsPrefix (f q.0) F → length (f q.0) ≤ n → slice_get F n ≡ Some e → positions t 0 F ≡ positions t 0 (f q.0) ++ n ∷ [] → Goes s first last t f (put f q.0 F) (items.Change q n e)

-- a look of t: shown by the front after it, at a stamp not behind what was seen
abbrev pub LookGoes : Type 0
LookGoes = (s : Scene) (first last : ℕ → Fronts) (t : ℕ) (f : Fronts) (q : ObjectNo) (F : List Entry) (l : Look) → l.by.0 ≡ t → IsPrefix (f q.0) F → length (f q.0) ≤ l.at → l.at ≤ length F → IsTrue (shown_in s F q l) → positions t 0 F ≡ positions t 0 (f q.0) → Goes s first last t f (put f q.0 F) (items.Look q l)

abbrev pub ReplyGoes : Type 0
ReplyGoes = (s : Scene) (first last : ℕ → Fronts) (t : ℕ) (f : Fronts) (r : Reply) → Goes s first last t f f (items.Said r)

-- a thread that was not started before is handed fronts that begin with the starter's
abbrev pub OneStartMore : Type 0
OneStartMore = (s : Scene) (first last : ℕ → Fronts) (t : ℕ) (f g g' h : Fronts) (xs : List Item) (u : ThreadNo) → Path s first last t f xs g → any_starts u.0 xs ≡ false → Moved t g g' none_own → Grows g h → Path s (with_thread first u.0 h) last t f (xs ++ items.Control (controls.Start u true) ∷ []) g'

abbrev pub OneLaunchMore : Type 0
OneLaunchMore = (s : Scene) (first last : ℕ → Fronts) (t : ℕ) (f g g' h : Fronts) (xs : List Item) (u : ThreadNo) → Path s first last t f xs g → any_starts u.0 xs ≡ false → Moved t g g' none_own → Grows g h → Path s (with_thread first u.0 h) last t f (xs ++ items.Control (controls.Launch u true) ∷ []) g'

-- where there was no thread to be had
abbrev pub RefusalGoes : Type 0
RefusalGoes = (s : Scene) (first last : ℕ → Fronts) (t : ℕ) (f : Fronts) (u : ThreadNo) → Goes s first last t f f (items.Control (controls.Start u false)) × Goes s first last t f f (items.Control (controls.Launch u false))

-- a thread that was not joined before: the joiner's fronts then begin with its last ones
abbrev pub OneJoinMore : Type 0
OneJoinMore = (s : Scene) (first last : ℕ → Fronts) (t : ℕ) (f g g' k : Fronts) (xs : List Item) (u : ThreadNo) → Path s first last t f xs g → any_joins u.0 xs ≡ false → Moved t g g' none_own → Grows k g' → Path s first (with_thread last u.0 k) t f (xs ++ items.Control (controls.Join u) ∷ []) g'
