-- Which scenarios are run on real objects.
use Rattle.std.specs.Prelude.{◌≡◌, ℕ, min, zero, suc, Bool, true, false, List, ◌∷◌, ◌-◌, ◌<◌, [], length, slice_get, Some}
use Rattle.std.specs.Global.{Vec}
use Rattle.cx_scene.specs.declared.call.Call.{Call}
use Rattle.cx_scene.specs.declared.call.Call.TheVariants as calls
use Rattle.cx_scene.specs.Scene.{Scene}
use Rattle.cx_turn.specs.declared.view.View.{View}
use Rattle.cx_machine.specs.Machine.{State}
use Rattle.cx_asks.specs.Scenes.{IsAskable, taken_in, left_with_main}
use Rattle.cx_items.specs.Memory.{nothing}
use Rattle.cx_kinds.specs.declared.access.Access.{Access}
use Rattle.cx_kinds.specs.Accesses.{RunObject, object_of, Knows, kept_of, share_of}
use Rattle.cx_work.specs.Accesses.{objects_of}

-- a call on such objects, or of threads
abbrev pub is_call_now : Call → Bool
is_call_now (calls.Lock o) = true
is_call_now (calls.LockRecursive o) = true
is_call_now (calls.TryLock o) = true
is_call_now (calls.TryLockRecursive o) = true
is_call_now (calls.Unlock o) = true
is_call_now (calls.LockAll os) = true
is_call_now (calls.TryLockAll os) = true
is_call_now (calls.Release q n) = true
is_call_now (calls.Acquire q) = true
is_call_now (calls.TryAcquire q) = true
is_call_now (calls.CountDown l n) = true
is_call_now (calls.WaitLatch l) = true
is_call_now (calls.TryWait l) = true
is_call_now (calls.ArriveAndWaitLatch l) = true
is_call_now (calls.LockShared o) = true
is_call_now (calls.TryLockShared o) = true
is_call_now (calls.UnlockShared o) = true
is_call_now (calls.CallOnceReturn o) = true
is_call_now (calls.CallOnceThrow o n) = true
is_call_now (calls.Arrive b n) = true
is_call_now (calls.WaitBarrier b) = true
is_call_now (calls.ArriveAndWait b) = true
is_call_now (calls.ArriveAndDrop b) = true
is_call_now (calls.Start u) = true
is_call_now (calls.Join u) = true
is_call_now _ = false

-- the scenario asks what is served, and has no callbacks
pub record IsRunNow (s : Scene) : Type 0 where
  pub asks : IsAskable s
  pub callbacks : s.callbacks ≡ []

-- ---- accesses as they are made

-- the pass has seen nothing and made nothing, and may make so many changes; so many of at most so many passes were split off it
pub record IsNew (v : View State) (seats t left splits : ℕ) : Type 0 where
  pub seated : v.seats ≡ seats
  pub numbered : v.number ≡ t
  pub front : v.front ≡ []
  pub mine : v.mine ≡ []
  pub taken : v.taken ≡ []
  pub may : v.left ≡ left
  pub split : v.splits ≡ splits

-- the access is a new one of thread t to this object, and holds nothing of it
pub record IsNewAccess (x : RunObject) (seats t left splits : ℕ) (k : Access) : Type 0 where
  pub object : object_of k ≡ x
  pub free : kept_of k ≡ nothing
  pub view : View State
  pub seen : Knows k view
  pub new : IsNew view seats t left splits

-- the accesses of one thread are new
pub record AreNew (xs : List RunObject) (seats t left splits : ℕ) (ks : List Access) : Type 0 where
  pub count : length ks ≡ length xs
  pub each : (o : ℕ) (x : RunObject) (k : Access) → slice_get xs o ≡ Some x → slice_get ks o ≡ Some k → IsNewAccess x seats t left splits k

-- the accesses of all threads are new: each may make 131,072 changes of each object, and main's were split once for each other thread
pub record AreAllNew (xs : List RunObject) (threads : ℕ) (all : List (Vec Access)) : Type 0 where
  pub count : length all ≡ threads
  pub main : (ks : Vec Access) → slice_get all 0 ≡ Some ks → AreNew xs threads 0 131072 (threads - 1) ks.items
  pub others : (t : ℕ) (ks : Vec Access) → 0 < t → slice_get all t ≡ Some ks → AreNew xs threads t 131072 0 ks.items

-- the objects of the first thread's accesses
abbrev pub objects_of_all : List (Vec Access) → List RunObject
objects_of_all [] = []
objects_of_all (ks ∷ all) = objects_of ks.items

-- ---- shares of latches

-- the share of the access at a place; 0 where there is none
abbrev pub share_at : List Access → ℕ → ℕ
share_at [] o = 0
share_at (k ∷ ks) zero = share_of k
share_at (k ∷ ks) (suc o) = share_at ks o

-- thread t got of each latch what its text takes, as far as main had it
pub record AreGiven (s : Scene) (t : ℕ) (before main row : List Access) : Type 0 where
  pub less : (o : ℕ) → share_at main o ≡ share_at before o - taken_in s t o
  pub given : (o : ℕ) → share_at row o ≡ min (taken_in s t o) (share_at before o)

-- each thread has of each latch what its text takes, as far as main had it, and main has what is left
pub record AreShared (s : Scene) (all : List (Vec Access)) : Type 0 where
  pub main : (ks : Vec Access) → slice_get all 0 ≡ Some ks → (o : ℕ) → share_at ks.items o ≡ left_with_main s (length all - 1) o
  pub others : (t : ℕ) (ks : Vec Access) → slice_get all (suc t) ≡ Some ks → (o : ℕ) → share_at ks.items o ≡ min (taken_in s (suc t) o) (left_with_main s t o)
