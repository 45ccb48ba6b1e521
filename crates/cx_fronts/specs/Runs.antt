-- What the lists and the passes of a run give, and what is so of its record.
use Rattle.std.specs.Prelude.{◌≡◌, ℕ, ◌+◌, ◌<◌, Bool, true, false, IsTrue, List, [], length, slice_get, Option, Some, None}
use mathlib.Core.List.{IsPrefix}
use Rattle.cx_names.specs.declared.ObjectNo.{ObjectNo}
use Rattle.cx_machine.specs.declared.kind.Entry.{Entry}
use Rattle.cx_machine.specs.declared.kind.Look.{Look}
use Rattle.cx_machine.specs.Machine.{after, IsLegal}
use Rattle.cx_scene.specs.declared.declared.Object.{Object}
use Rattle.cx_scene.specs.declared.declared.Object.TheVariants as objects
use Rattle.cx_scene.specs.Scene.{Scene, kind_of}
use Rattle.cx_items.specs.declared.item.Item.{Item}
use Rattle.cx_items.specs.declared.item.Item.TheVariants as items
use Rattle.cx_items.specs.Next.{local_at_start}
use Rattle.cx_history.specs.Histories.{Recorded, list_of, item_at, history}
use Rattle.cx_history.specs.Follows.{Follows, completes, is_completing, has_started, after_items, is_whole}
use Rattle.cx_history.specs.Legal.{LegalRecord}
use Rattle.cx_history.specs.IsRecord.{IsRecord}
use Rattle.cx_fronts.specs.Positions.{positions}
use Rattle.cx_fronts.specs.Paths.{Fronts, none_own, Moved, Path, AreItems}

-- main's last fronts are those that have taken in all the others
pub record FromPasses (s : Scene) (r : Recorded) : Type 0 where
  -- what each thread has seen when it begins, and at its list's end
  pub first : ℕ → Fronts
  pub last : ℕ → Fronts
  pub legal : (o : ℕ) (d : Object) → slice_get s.objects o ≡ Some d → IsLegal (kind_of d) (last 0 o)
  pub paths : (t : ℕ) → Path s first last t (first t) (list_of r t) (last t)
  -- nobody has used a thread's number before it begins, nor after it has ended
  pub unused : (t o : ℕ) → positions t 0 (first t o) ≡ []
  pub taken : (t : ℕ) → Moved t (last t) (last 0) none_own

-- ---- completions

abbrev pub is_barrier : Option Object → Bool
is_barrier (Some (objects.Barrier count small)) = true
is_barrier _ = false

-- only a change on a barrier leaves one completing
abbrev pub OnlyBarriersComplete : Scene → (ℕ → ℕ → Bool) → Type 0
OnlyBarriersComplete s leaves_completing = (o p : ℕ) → is_barrier (slice_get s.objects o) ≡ false → leaves_completing o p ≡ false

-- of the changes in these fronts it says what the state after them is
abbrev pub AgreesWith : Scene → Fronts → (ℕ → ℕ → Bool) → Type 0
AgreesWith s f leaves_completing = (o p : ℕ) (d : Object) → slice_get s.objects o ≡ Some d → p < length (f o) → leaves_completing o p ≡ is_completing (after (kind_of d) (f o) (p + 1))

-- ---- a thread's text

-- the items are those of t's whole body, by what it has seen at its end
abbrev pub IsWholeBy : Scene → ℕ → Fronts → List Item → Type 0
IsWholeBy s t f xs = (leaves_completing : ℕ → ℕ → Bool) → AgreesWith s f leaves_completing → IsTrue (is_whole (after_items s leaves_completing t (local_at_start s t) xs))

-- a thread that was started has a list of its whole body, and no other has one
abbrev pub KeepsText : Scene → Recorded → ℕ → Fronts → Option (List Item) → Type 0
KeepsText s r t f None = has_started r t ≡ false
KeepsText s r t f (Some xs) = (has_started r t ≡ true) × IsWholeBy s t f xs

-- ---- a run

pub record FromRun (s : Scene) (r : Recorded) : Type 0 where
  pub passes : FromPasses s r
  pub version : r.version ≡ s.version
  pub count : length r.lists ≡ length s.threads
  pub texts : (t : ℕ) (l : Option (List Item)) → slice_get r.lists t ≡ Some l → KeepsText s r t (passes.last t) l
  pub formed : (t : ℕ) → AreItems s t (list_of r t)

-- the record is legal, follows the scenario and is well formed, and its histories are these fronts
pub record IsRight (s : Scene) (r : Recorded) (f : Fronts) : Type 0 where
  pub legal : LegalRecord s r
  pub follows : Follows s r
  pub formed : IsRecord s r
  pub histories : (o : ℕ) → history r o ≡ f o

-- ---- laws

abbrev pub PassesAreLegal : Type 0
PassesAreLegal = (s : Scene) (r : Recorded) → FromPasses s r → LegalRecord s r

-- main's last fronts are the histories
abbrev pub FrontsAreHistories : Type 0
FrontsAreHistories = (s : Scene) (r : Recorded) (given : FromPasses s r) (o : ℕ) → history r o ≡ given.last 0 o

-- whether a change leaves its barrier completing is, in the whole record, what any front says that holds it
abbrev pub CompletionsAreSeen : Type 0
CompletionsAreSeen = (s : Scene) (r : Recorded) (given : FromPasses s r) (o p : ℕ) (d : Object) (G : List Entry) → slice_get s.objects o ≡ Some d → IsPrefix G (given.last 0 o) → p < length G → completes s r o p ≡ is_completing (after (kind_of d) G (p + 1))

-- no change on another object completes anything, in any record
abbrev pub OthersDontComplete : Type 0
OthersDontComplete = (s : Scene) (r : Recorded) → OnlyBarriersComplete s (completes s r)

-- so each thread may judge by its own last fronts
abbrev pub RecordsAgree : Type 0
RecordsAgree = (s : Scene) (r : Recorded) (given : FromPasses s r) (t : ℕ) → AgreesWith s (given.last t) (completes s r)

-- each change of a list is by its thread
abbrev pub ChangesAreOwn : Type 0
ChangesAreOwn = (s : Scene) (r : Recorded) → FromPasses s r → (t i p : ℕ) (q : ObjectNo) (e : Entry) → item_at r t i ≡ Some (items.Change q p e) → e.by.0 ≡ t

-- and so is each look
abbrev pub LooksAreOwn : Type 0
LooksAreOwn = (s : Scene) (r : Recorded) → FromPasses s r → (t i : ℕ) (q : ObjectNo) (l : Look) → item_at r t i ≡ Some (items.Look q l) → l.by.0 ≡ t

abbrev pub RunsAreRight : Type 0
RunsAreRight = (s : Scene) (r : Recorded) (given : FromRun s r) → IsRight s r (given.passes.last 0)
