-- What a thread's body promises of its list and its accesses.
use Rattle.std.specs.Prelude.{◌≡◌, ◌<◌, ℕ, true, false, List, [], length}
use Rattle.std.specs.Arc.{arc_value}
use Rattle.cx_scene.specs.Scene.{Scene, scene_of}
use Rattle.cx_items.specs.declared.item.Item.{Item}
use Rattle.cx_items.specs.declared.local.Local.{Local as Place}
use Rattle.cx_fronts.specs.Counts.{change_count}
use Rattle.cx_fronts.specs.Paths.{Fronts, AreItems}
use Rattle.cx_fronts.specs.Promises.{Promised}
use Rattle.cx_fronts.specs.Runs.{IsWholeBy}
use Rattle.cx_asks.specs.Scenes.{IsAskable}
use Rattle.cx_kinds.specs.declared.access.Access.{Access}
use Rattle.cx_kinds.specs.Accesses.{RunObject}
use Rattle.cx_work.specs.declared.objects.Objects.{Objects}
use Rattle.cx_work.specs.declared.standing.Standing.{Standing}
use Rattle.cx_work.specs.declared.work.Work.{Work}
use Rattle.cx_work.specs.declared.work.Ended.{Ended}
use Rattle.cx_work.specs.Accesses.{AreMadeAs, AreAccesses, AreShown, AreSeated, HoldNothing, objects_of}
use Rattle.cx_work.specs.Steps.{StandsAt, IsAt}

-- the thread has gone from the accesses that it had before to these by its list, and stands where the list leads
pub record Goes (s : Scene) (before : List Access) (t : ℕ) (ks : List Access) (list : List Item) (l : Place) : Type 0 where
  pub accesses : AreAccesses (objects_of before) t ks
  pub at_ : StandsAt s t ks list l
  pub promised : Promised s t (AreShown before) list (AreShown ks)

abbrev pub IsUnderway : Scene → List Access → Standing → Type 0
IsUnderway s before x = Goes s before x.thread.0 x.accesses.items x.list.items x.local

-- the thread's list is that of its whole body, and leads from what its accesses showed to what they show, which threads of the scenario made
pub record IsBody (s : Scene) (t : ℕ) (before : List Access) (list : List Item) (later : List Access) : Type 0 where
  pub promised : Promised s t (AreShown before) list (AreShown later)
  pub whole : (f : Fronts) → AreShown later f → IsWholeBy s t f list
  pub formed : AreItems s t list
  pub seated : AreSeated (length s.threads) later

abbrev pub scene_in : Objects → Scene
scene_in o = scene_of (arc_value o.plan)

-- ---- the job of a thread

module _ {G : Type 0} where
  -- the objects that the job's thread has access to
  abbrev pub objects_in : Work G → List RunObject
  objects_in w = objects_of w.standing.accesses.items

  -- what the job needs: the objects are those of the scenario, and a thread other than main stands at the start of its body with its accesses
  pub record Needs (w : Work G) : Type 0 where
    pub asks : IsAskable (scene_in w.objects)
    pub other : 0 < w.standing.thread.0
    pub made : AreMadeAs (scene_in w.objects).objects (objects_in w)
    pub accesses : AreAccesses (objects_in w) w.standing.thread.0 w.standing.accesses.items
    pub at_ : IsAt (scene_in w.objects) w.standing
    pub fresh : w.standing.list.items ≡ []

  -- what it gives: the thread's accesses, and its list, which is whole unless memory ran out; then the list is empty, and nothing is held
  pub record Gives (w : Work G) (e : Ended) : Type 0 where
    pub thread : e.thread ≡ w.standing.thread
    pub accesses : AreAccesses (objects_in w) e.thread.0 e.accesses.items
    pub made : e.made ≡ change_count e.list.items
    pub dropped : e.failed ≡ true → e.list.items ≡ []
    pub free : e.failed ≡ true → HoldNothing e.accesses.items
    pub body : e.failed ≡ false → IsBody (scene_in w.objects) e.thread.0 w.standing.accesses.items e.list.items e.accesses.items
