-- What holds of each scenario that a text means, by its numbers.
use Rattle.std.specs.Prelude.{◌≡◌, ℕ, ◌≤◌, Bool, true, false, ◌==◌, ◌&&◌, not, length, Option, Some, None, nat_lt, slice_get}
use Rattle.std.specs.List.{list_all, list_any}
use Rattle.cx_names.specs.declared.ObjectNo.{ObjectNo}
use Rattle.cx_scene.specs.declared.declared.Object.{Object}
use Rattle.cx_scene.specs.declared.declared.Object.TheVariants as objects
use Rattle.cx_scene.specs.declared.declared.Thread.{Thread}
use Rattle.cx_scene.specs.declared.declared.Thread.TheVariants as threads
use Rattle.cx_scene.specs.declared.call.Call.{Call}
use Rattle.cx_scene.specs.declared.call.Call.TheVariants as calls
use Rattle.cx_scene.specs.Scene.{Scene, body_of}
use Rattle.cx_text.specs.declared.form.Sort.{Sort}
use Rattle.cx_text.specs.declared.form.Sort.TheVariants as sorts
use Rattle.cx_text.specs.declared.form.Made.{Made}
use Rattle.cx_text.specs.declared.form.Made.TheVariants as mades
use Rattle.cx_text.specs.declared.form.Caller.{Caller}
use Rattle.cx_text.specs.declared.form.Caller.TheVariants as callers
use Rattle.cx_text.specs.Table.{who_may}
use Rattle.cx_script.specs.Script.{Script}
use Rattle.cx_script.specs.Numbered.{numbered, IsScript}

-- what declares an object
abbrev pub made_as : Object → Made
made_as (objects.Mutex numbers) = mades.Mutex
made_as objects.Recursive = mades.Recursive
made_as objects.Shared = mades.Shared
made_as (objects.Semaphore count max) = mades.Semaphore
made_as (objects.Latch count) = mades.Latch
made_as (objects.Barrier count small) = mades.Barrier
made_as objects.Once = mades.Once
made_as objects.Condition = mades.Condition
made_as (objects.Stop holders) = mades.Stop
made_as objects.StopOfThread = mades.JThread
made_as (objects.Promise owner reader) = mades.Promise
made_as (objects.SharedPromise owner readers) = mades.SharedPromise
made_as (objects.Task owner reader function) = mades.Task
made_as (objects.Async policy function thread) = mades.Async

-- the thread that sets an object's outcome
abbrev pub is_owned_by : Object → ℕ → Bool
is_owned_by (objects.Promise owner reader) t = owner.0 == t
is_owned_by (objects.SharedPromise owner readers) t = owner.0 == t
is_owned_by (objects.Task owner reader function) t = owner.0 == t
is_owned_by _ t = false

-- a thread that reads an object's outcome
abbrev pub is_read_by : Object → ℕ → Bool
is_read_by (objects.Promise owner reader) t = reader.0 == t
is_read_by (objects.SharedPromise owner readers) t = list_any (λ r. r == t) readers
is_read_by (objects.Task owner reader function) t = reader.0 == t
is_read_by _ t = false

-- whether thread t may make a call on an object, where only such callers may
abbrev pub may_call : Object → ℕ → Caller → Bool
may_call x t callers.Anyone = true
may_call x t callers.OnlyMain = t == 0
may_call x t callers.Owner = is_owned_by x t
may_call x t callers.Reader = is_read_by x t

-- a test of a caller; it fails where there is none
abbrev pub on_caller : (Caller → Bool) → Option Caller → Bool
on_caller test None = false
on_caller test (Some c) = test c

-- an object that may stand in a place of this sort in a call of thread t
abbrev pub object_fits : ℕ → Sort → Option Object → Bool
object_fits t sort None = false
object_fits t sort (Some x) = on_caller (may_call x t) (who_may sort (made_as x))

-- the object of a number may stand in a place of this sort
abbrev pub fits_object : Scene → ℕ → Sort → ObjectNo → Bool
fits_object s t sort o = object_fits t sort (slice_get s.objects o.0)

-- whether an object is of this kind
abbrev pub is_made : Made → Option Object → Bool
is_made mades.Recursive (Some objects.Recursive) = true
is_made mades.Latch (Some (objects.Latch count)) = true
is_made mades.Barrier (Some (objects.Barrier count small)) = true
is_made mades.Stop (Some (objects.Stop holders)) = true
is_made mades.Async (Some (objects.Async policy function thread)) = true
is_made _ _ = false

-- whether the object of a number is of this kind
abbrev pub is_kind : Scene → Made → ObjectNo → Bool
is_kind s made o = is_made made (slice_get s.objects o.0)

-- a mutex has a number i
abbrev pub numbers_beyond : Option Object → ℕ → Bool
numbers_beyond (Some (objects.Mutex numbers)) i = nat_lt i numbers
numbers_beyond _ i = false

-- the mutex of a number has a number i
abbrev pub has_number : Scene → ObjectNo → ℕ → Bool
has_number s o i = numbers_beyond (slice_get s.objects o.0) i

-- a thread number that may be started or joined
abbrev pub is_run : Option Thread → Bool
is_run (Some threads.Plain) = true
is_run (Some (threads.Stoppable o)) = true
is_run _ = false

-- whether thread t may make this call
abbrev pub fits_call : Scene → ℕ → Call → Bool
fits_call s t (calls.Lock o) = fits_object s t sorts.Exclusives o
fits_call s t (calls.LockRecursive o) = is_kind s mades.Recursive o
fits_call s t (calls.LockShared o) = fits_object s t sorts.SharedMutexes o
fits_call s t (calls.TryLock o) = fits_object s t sorts.Exclusives o
fits_call s t (calls.TryLockRecursive o) = is_kind s mades.Recursive o
fits_call s t (calls.TryLockShared o) = fits_object s t sorts.SharedMutexes o
fits_call s t (calls.Unlock o) = fits_object s t sorts.Lockables o
fits_call s t (calls.UnlockShared o) = fits_object s t sorts.SharedMutexes o
fits_call s t (calls.Get o i) = has_number s o i
fits_call s t (calls.Set o i v) = has_number s o i
fits_call s t (calls.Add o i v) = has_number s o i
fits_call s t (calls.LockAll os) = list_all (λ o. fits_object s t sorts.Mutexes (record { 0 = o })) os
fits_call s t (calls.TryLockAll os) = list_all (λ o. fits_object s t sorts.Mutexes (record { 0 = o })) os
fits_call s t (calls.Release o n) = fits_object s t sorts.Semaphores o
fits_call s t (calls.Acquire o) = fits_object s t sorts.Semaphores o
fits_call s t (calls.TryAcquire o) = fits_object s t sorts.Semaphores o
fits_call s t (calls.CountDown o n) = fits_object s t sorts.Latches o
fits_call s t (calls.WaitLatch o) = is_kind s mades.Latch o
fits_call s t (calls.TryWait o) = fits_object s t sorts.Latches o
fits_call s t (calls.ArriveAndWaitLatch o) = is_kind s mades.Latch o
fits_call s t (calls.Arrive o n) = fits_object s t sorts.Barriers o
fits_call s t (calls.WaitBarrier o) = is_kind s mades.Barrier o
fits_call s t (calls.ArriveAndWait o) = is_kind s mades.Barrier o
fits_call s t (calls.ArriveAndDrop o) = fits_object s t sorts.Barriers o
fits_call s t (calls.CallOnceReturn o) = fits_object s t sorts.Onces o
fits_call s t (calls.CallOnceThrow o e) = fits_object s t sorts.Onces o
fits_call s t (calls.WaitCondition c m) = fits_object s t sorts.Conditions c && fits_object s t sorts.Exclusives m
fits_call s t (calls.WaitPredicate c m p) = fits_object s t sorts.Conditions c && has_number s m p.number
fits_call s t (calls.WaitStop c m st p) = fits_object s t sorts.Conditions c && has_number s m p.number && fits_object s t sorts.StopStates st
fits_call s t (calls.NotifyOne o) = fits_object s t sorts.Conditions o
fits_call s t (calls.NotifyAll o) = fits_object s t sorts.Conditions o
fits_call s t (calls.RequestStop o) = fits_object s t sorts.StopStates o
fits_call s t (calls.StopRequested o) = fits_object s t sorts.StopStates o
fits_call s t (calls.StopPossible o) = fits_object s t sorts.StopStates o
fits_call s t (calls.Another o) = fits_object s t sorts.Sources o
fits_call s t (calls.DropSource o) = is_kind s mades.Stop o
fits_call s t (calls.Register k) = nat_lt k.0 (length s.callbacks)
fits_call s t (calls.Deregister k) = nat_lt k.0 (length s.callbacks)
fits_call s t (calls.SetValue o v) = fits_object s t sorts.Settled o
fits_call s t (calls.SetException o e) = fits_object s t sorts.Settled o
fits_call s t (calls.Invoke o) = fits_object s t sorts.Invoked o
fits_call s t (calls.DropPromise o) = fits_object s t sorts.Dropped o && not (is_kind s mades.Stop o) && not (is_kind s mades.Async o)
fits_call s t (calls.GetFuture o) = fits_object s t sorts.Promised o
fits_call s t (calls.Share o) = fits_object s t sorts.Promised o
fits_call s t (calls.WaitFuture o) = fits_object s t sorts.Waited o && not (is_kind s mades.Latch o) && not (is_kind s mades.Barrier o)
fits_call s t (calls.GetOutcome o) = fits_object s t sorts.Futures o
fits_call s t (calls.DropAsync o) = is_kind s mades.Async o && (t == 0)
fits_call s t (calls.Start th) = (t == 0) && not (th.0 == 0) && is_run (slice_get s.threads th.0)
fits_call s t (calls.Join th) = (t == 0) && is_run (slice_get s.threads th.0)
fits_call s t (calls.Launch o) = fits_object s t sorts.Launched o

-- a scenario within its limits, of which each thread makes only calls that fit
pub record IsScene (s : Scene) : Type 0 where
  pub threads : length s.threads ≤ 64
  pub objects : length s.objects ≤ 128
  pub callbacks : length s.callbacks ≤ 64
  pub bodies : length s.bodies ≡ length s.threads
  pub few : (t : ℕ) → length (body_of s t) ≤ 4096
  pub calls : (t : ℕ) → list_all (fits_call s t) (body_of s t) ≡ true

-- each scenario that a text means is such
abbrev pub ScriptIsScene : Type 0
ScriptIsScene = (s : Script) → IsScript s → IsScene (numbered s)
