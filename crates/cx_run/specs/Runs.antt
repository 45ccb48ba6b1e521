-- What is so of a run, while main's list grows and at its end.
use Rattle.std.specs.Prelude.{◌≡◌, ℕ, suc, ◌+◌, ◌-◌, ◌<◌, ◌≤◌, true, false, IsTrue, List, [], ◌∷◌, map, length, slice_get, slice_set, Option, Some, None, Bool}
use Rattle.cx_names.specs.declared.ThreadNo.{ThreadNo}
use Rattle.cx_machine.specs.Machine.{IsLegal}
use Rattle.cx_scene.specs.declared.declared.Object.{Object}
use Rattle.cx_scene.specs.Scene.{Scene, kind_of}
use Rattle.cx_items.specs.declared.form.Form.{Form}
use Rattle.cx_items.specs.declared.form.Form.TheVariants.{Does}
use Rattle.cx_items.specs.declared.item.Control.{Control}
use Rattle.cx_items.specs.declared.item.Control.TheVariants as controls
use Rattle.cx_items.specs.declared.item.Item.{Item}
use Rattle.cx_items.specs.declared.item.Item.TheVariants as items
use Rattle.cx_items.specs.Next.{is_ended}
use Rattle.cx_items.specs.Steps.{local_of}
use Rattle.cx_history.specs.Histories.{Recorded}
use Rattle.cx_history.specs.Follows.{any_starts}
use Rattle.cx_fronts.specs.Positions.{positions}
use Rattle.cx_fronts.specs.Paths.{Fronts, Grows, Path, AreItems}
use Rattle.cx_fronts.specs.Growing.{any_joins}
use Rattle.cx_fronts.specs.Mains.{Main}
use Rattle.cx_fronts.specs.Runs.{IsWholeBy}
use Rattle.cx_fronts.specs.Counts.{change_count}
use Rattle.cx_io.specs.Spawning.{Raised, RaisedAtLeast}
use Rattle.cx_jthread.specs.declared.thread.Thread.{Thread}
use Rattle.cx_jthread.specs.Threads.{job_to_join}
use Rattle.cx_kinds.specs.Accesses.{RunObject}
use Rattle.cx_kinds.specs.declared.access.Access.{Access}
use Rattle.cx_work.specs.declared.work.Work.{Work}
use Rattle.cx_work.specs.declared.work.Ended.{Ended}
use Rattle.cx_work.specs.Accesses.{AreMadeAs, AreAccesses, AreShown, objects_of}
use Rattle.cx_work.specs.Steps.{IsAt}
use Rattle.cx_work.specs.Bodies.{IsBody, Needs, Gives, scene_in, objects_in}
use Rattle.cx_work.specs.RunNow.{IsRunNow}
use Rattle.cx_run.specs.declared.place.Place.{Place}
use Rattle.cx_run.specs.declared.place.Place.TheVariants as places
use Rattle.cx_run.specs.declared.run.Run.{Run}
use Rattle.cx_run.specs.Handing.{AllTakeIn, HaveTaken, IsSplit}

-- ---- what a list counts

abbrev pub starts_in : List Item → ℕ
starts_in [] = 0
starts_in (items.Control (controls.Start u true) ∷ xs) = 1 + starts_in xs
starts_in (items.Control (controls.Launch u true) ∷ xs) = 1 + starts_in xs
starts_in (x ∷ xs) = starts_in xs

abbrev pub refusals_in : List Item → ℕ
refusals_in [] = 0
refusals_in (items.Control (controls.Start u false) ∷ xs) = 1 + refusals_in xs
refusals_in (items.Control (controls.Launch u false) ∷ xs) = 1 + refusals_in xs
refusals_in (x ∷ xs) = refusals_in xs

-- ---- a spawner's counts

pub record Tally : Type 0 where
  pub faults : ℕ
  pub started : ℕ
  pub carried : ℕ

abbrev pub tally : ℕ → ℕ → ℕ → Tally
tally f s c = record { faults = f; started = s; carried = c }

-- from one tally to the other: a start for each item that says so, so many steps, and at least a fault for each refusal
pub record IsTallied (before now : Tally) (xs : List Item) (steps : ℕ) : Type 0 where
  pub faults : RaisedAtLeast before.faults now.faults (refusals_in xs)
  pub started : Raised before.started now.started (starts_in xs)
  pub carried : Raised before.carried now.carried steps

-- since these counts of starts and joins, all threads that were started were joined but for n
pub record AreOut (started joined started' joined' n : ℕ) : Type 0 where
  pub ended : ℕ
  pub starts : Raised started started' (ended + n)
  pub joins : Raised joined joined' ended

-- as many threads were joined as were started
abbrev pub AreJoined : ℕ → ℕ → ℕ → ℕ → Type 0
AreJoined started joined started' joined' = AreOut started joined started' joined' 0

-- ---- threads other than main

-- the list of a thread's whole body, by what the thread had seen at its end
pub record IsWholeList (s : Scene) (u : ℕ) (f : Fronts) (xs : List Item) : Type 0 where
  pub whole : IsWholeBy s u f xs
  pub formed : AreItems s u xs

module _ {G : Type 0} (s : Scene) (xs : List RunObject) where
  -- the work of thread u of this scene on these objects, which has done nothing
  pub record IsReady (u : ℕ) (w : Work G) : Type 0 where
    pub number : w.standing.thread.0 ≡ u
    pub scene : scene_in w.objects ≡ s
    pub objects : objects_in w ≡ xs
    pub needs : Needs w
    pub h : Fronts
    pub shown : AreShown w.standing.accesses.items h
    pub fresh : (o : ℕ) → positions u 0 (h o) ≡ []

  -- the thread was started with such work, which showed these fronts
  pub record IsOff (u : ℕ) (first : Fronts) (thread : Thread (Work G) Ended) : Type 0 where
    pub number : thread.number.0 ≡ u
    pub job : Work G
    pub to_join : job_to_join thread ≡ Some job
    pub is_of : job.standing.thread.0 ≡ u
    pub scene : scene_in job.objects ≡ s
    pub objects : objects_in job ≡ xs
    pub needs : Needs job
    pub shown : AreShown job.standing.accesses.items first

-- the thread was started with this work, or it waits on with it
abbrev pub IsBegun : {G : Type 0} → ThreadNo → Work G → Bool → Place G → Type 0
IsBegun u work true (places.Running thread) = (thread.number ≡ u) × (job_to_join thread ≡ Some work)
IsBegun u work false (places.Waiting kept) = kept ≡ work
IsBegun u work _ _ = ⊥

-- the thread is not main, and may be joined: its job may be run
pub record MayJoin {G : Type 0} (thread : Thread (Work G) Ended) : Type 0 where
  pub other : 0 < thread.number.0
  pub job : Work G
  pub to_join : job_to_join thread ≡ Some job
  pub needs : Needs job

module _ {G : Type 0} where
  -- this is what the thread's job gave
  abbrev pub IsOfJob : Thread (Work G) Ended → Ended → Type 0
  IsOfJob thread e = (w : Work G) → job_to_join thread ≡ Some w → Gives w e

-- a thread that was started may be joined
abbrev pub MayRun : {G : Type 0} → Place G → Type 0
MayRun (places.Running thread) = MayJoin thread
MayRun _ = Unit {0}

-- it may be joined, and its job is of this scene on these objects
pub record MayAwait {G : Type 0} (s : Scene) (xs : List RunObject) (thread : Thread (Work G) Ended) : Type 0 where
  pub may : MayJoin thread
  pub scene : scene_in may.job.objects ≡ s
  pub objects : objects_in may.job ≡ xs

-- ---- a thread that has ended

-- it made its list, that of its whole body, from `first` to `last`, which these accesses, that show f, have taken in
pub record HasEnded (s : Scene) (u : ℕ) (first last : Fronts) (ys : List Item) (accesses : List Access) (f : Fronts) : Type 0 where
  pub list : IsWholeList s u last ys
  pub made : (firsts lasts : ℕ → Fronts) → Path s firsts lasts u first ys last
  pub grows : Grows last f
  pub taken : HaveTaken accesses u last

-- main's list tells of its join, and it ended with `last`; or it was joined after main's end
abbrev pub HasCome : Scene → ℕ → Bool → Fronts → Fronts → List Item → List Item → List Access → Fronts → Type 0
HasCome s u true first last list ys accesses f = (list ≡ ys) × HaveTaken accesses u last × IsWholeList s u last ys
HasCome s u false first last list ys accesses f = (end : Fronts) × HasEnded s u first end ys accesses f

-- it was never started, and its passes, that showed this, were taken in
pub record WasIdle (u : ℕ) (accesses : List Access) (f : Fronts) : Type 0 where
  pub h : Fronts
  pub fresh : (o : ℕ) → positions u 0 (h o) ≡ []
  pub grows : Grows h f
  pub taken : HaveTaken accesses u h

module _ {G : Type 0} (s : Scene) (xs : List RunObject) (first last : ℕ → Fronts) (lists : ℕ → List Item) (list : List Item) (accesses : List Access) (f : Fronts) where
  -- where thread u is, when main has made this list
  abbrev pub IsPlace : ℕ → Place G → Type 0
  IsPlace u (places.Waiting work) = (any_starts u list ≡ false) × IsReady s xs u work
  IsPlace u (places.Running thread) = (any_starts u list ≡ true) × (any_joins u list ≡ false) × IsOff s xs u (first u) thread
  IsPlace u (places.Ended ys) = (any_starts u list ≡ true) × HasCome s u (any_joins u list) (first u) (last u) (lists u) ys.items accesses f
  IsPlace u places.Idle = (any_starts u list ≡ false) × WasIdle u accesses f

-- ---- a run

-- main has made this list and its accesses show f; each other thread, u at u - 1, is where the list says
pub record RunOf {G : Type 0} (s : Scene) (xs : List RunObject) (list : List Item) (accesses : List Access) (others : List (Place G)) : Type 0 where
  pub count : suc (length others) ≡ length s.threads
  pub splits : (o : ℕ) (k : Access) → slice_get accesses o ≡ Some k → IsSplit k (length others)
  pub first : ℕ → Fronts
  pub last : ℕ → Fronts
  pub lists : ℕ → List Item
  pub f : Fronts
  pub shown : AreShown accesses f
  pub main : Main s first last lists list f
  pub started : (u : ℕ) → any_starts u list ≡ true → (0 < u) × (u ≤ length others)
  pub places : (i : ℕ) (p : Place G) → slice_get others i ≡ Some p → IsPlace s xs first last lists list accesses f (suc i) p

-- the job of the thread was done from its accesses to these, with this list, and main's accesses have taken them in
pub record IsAwaited {G : Type 0} (s : Scene) (xs : List RunObject) (thread : Thread (Work G) Ended) (ys : List Item) (accesses accesses' : List Access) : Type 0 where
  pub job : Work G
  pub to_join : job_to_join thread ≡ Some job
  pub ended : List Access
  pub theirs : AreAccesses xs job.standing.thread.0 ended
  pub body : IsBody s job.standing.thread.0 job.standing.accesses.items ys ended
  pub takes : AllTakeIn ended accesses accesses'

-- what main's accesses know of their fronts at the end: each is legal, shows of a thread that they have taken in what that thread
-- showed, and nothing of numbers above n
pub record AreSettled (s : Scene) (accesses : List Access) (f : Fronts) (n : ℕ) : Type 0 where
  pub legal : (o : ℕ) (d : Object) → slice_get s.objects o ≡ Some d → IsLegal (kind_of d) (f o)
  pub gone : (u : ℕ) (h : Fronts) → Grows h f → HaveTaken accesses u h → (o : ℕ) → positions u 0 (f o) ≡ positions u 0 (h o)
  pub above : (u : ℕ) → n < u → (o : ℕ) → positions u 0 (f o) ≡ []

-- the start or the join that comes first, if one does
abbrev pub IsControlIn : List Form → Option Control → Type 0
IsControlIn (Does c ∷ fs) r = r ≡ Some c
IsControlIn _ r = r ≡ None

module _ {G : Type 0} where
  -- the objects that main has access to
  abbrev pub objects_at : Run G → List RunObject
  objects_at run = objects_of run.main.accesses.items

  -- what is always so of it, on these objects, also where no more items are made
  pub record IsKept (xs : List RunObject) (run : Run G) : Type 0 where
    pub made : AreMadeAs (scene_in run.objects).objects xs
    pub accesses : AreAccesses xs 0 run.main.accesses.items
    pub thread : run.main.thread.0 ≡ 0
    pub may_run : (i : ℕ) (p : Place G) → slice_get run.others.items i ≡ Some p → MayRun p

  pub record IsRun (xs : List RunObject) (run : Run G) : Type 0 where
    pub kept : IsKept xs run
    pub runs_now : IsRunNow (scene_in run.objects)
    pub at_ : IsAt (scene_in run.objects) run.main
    pub goes : RunOf (scene_in run.objects) xs run.main.list.items run.main.accesses.items run.others.items

  -- main has made all of its body
  abbrev pub IsAtEnd : Run G → Type 0
  IsAtEnd run = IsTrue (is_ended (local_of (scene_in run.objects) 0 run.main.local))

  -- thread u's place was this one, and is idle now
  pub record IsHere (u : ℕ) (p : Place G) (old new : List (Place G)) : Type 0 where
    pub above : 0 < u
    pub was : slice_get old (u - 1) ≡ Some p
    pub is : new ≡ slice_set old (u - 1) places.Idle

  -- every other thread's passes were taken in
  abbrev pub has_come : Place G → Bool
  has_come (places.Ended ys) = true
  has_come places.Idle = true
  has_come _ = false

  -- main's list tells of thread u's join where it has come
  abbrev pub IsMains : List Item → ℕ → Place G → Type 0
  IsMains list u (places.Ended ys) = any_joins u list ≡ true
  IsMains list u places.Idle = ⊥
  IsMains list u _ = Unit {0}

  -- so it does of every thread that has come
  abbrev pub AreMains : List Item → List (Place G) → Type 0
  AreMains list ps = (i : ℕ) (p : Place G) → slice_get ps i ≡ Some p → IsMains list (suc i) p

  -- one more has come, and the others are where they were
  abbrev pub HasComeAt : ℕ → List (Place G) → List (Place G) → Type 0
  HasComeAt i old new = (p : Place G) × (new ≡ slice_set old i p) × (has_come p ≡ true)

  abbrev pub AllHaveCome : Run G → Type 0
  AllHaveCome run = (i : ℕ) (p : Place G) → slice_get run.others.items i ≡ Some p → has_come p ≡ true

  -- the list of a thread, in the record
  abbrev pub list_at : Place G → Option (List Item)
  list_at (places.Ended ys) = Some ys.items
  list_at _ = None

  -- the record of main's list and of the others'
  abbrev pub record_of : Scene → List Item → List (Place G) → Recorded
  record_of s list others = record { version = s.version; lists = Some list ∷ map list_at others }

  -- how many changes the ended threads made
  abbrev pub steps_at : Place G → ℕ
  steps_at (places.Ended ys) = change_count ys.items
  steps_at _ = 0

  abbrev pub steps_in : List (Place G) → ℕ
  steps_in [] = 0
  steps_in (p ∷ ps) = steps_at p + steps_in ps

  -- the spawner's counts went on as far as the run did
  abbrev pub KeepsTally : Run G → Tally → Run G → Tally → Type 0
  KeepsTally old before new now = (base : Tally) → IsTallied base before old.main.list.items (steps_in old.others.items) → IsTallied base now new.main.list.items (steps_in new.others.items)

  abbrev pub is_waiting : Place G → Bool
  is_waiting (places.Waiting work) = true
  is_waiting _ = false

  abbrev pub is_running : Place G → Bool
  is_running (places.Running thread) = true
  is_running _ = false

  -- how many threads were started and not joined
  abbrev pub running_at : Place G → ℕ
  running_at (places.Running thread) = 1
  running_at _ = 0

  abbrev pub running_in : List (Place G) → ℕ
  running_in [] = 0
  running_in (p ∷ ps) = running_at p + running_in ps

  -- the spawner's counts of starts and joins went on as the threads that run did
  abbrev pub KeepsOut : List (Place G) → ℕ → ℕ → List (Place G) → ℕ → ℕ → Type 0
  KeepsOut ps started joined ps' started' joined' = (a b : ℕ) → AreOut a b started joined (running_in ps) → AreOut a b started' joined' (running_in ps')
