-- Scenarios of which each thread asks only what is served, whatever came before.
use Rattle.std.specs.Prelude.{◌≡◌, ℕ, zero, suc, ◌+◌, ◌-◌, ◌^◌, ◌<◌, ◌≤◌, Bool, true, false, ◌==◌, ◌&&◌, ◌||◌, not, List, [], ◌∷◌, length, slice_get, Option, Some, None, nat_lt, nat_le, if◌then◌else◌}
use Rattle.std.specs.List.{list_all}
use Rattle.cx_machine.specs.Words.{has}
use Rattle.cx_machine.specs.Meaning.{bit}
use Rattle.cx_scene.specs.declared.declared.Object.{Object}
use Rattle.cx_scene.specs.declared.declared.Object.TheVariants as objects
use Rattle.cx_scene.specs.declared.declared.Small.{Small}
use Rattle.cx_scene.specs.declared.declared.Small.TheVariants as smalls
use Rattle.cx_scene.specs.declared.declared.Thread.{Thread}
use Rattle.cx_scene.specs.declared.declared.Thread.TheVariants as threads
use Rattle.cx_scene.specs.declared.call.Call.{Call}
use Rattle.cx_scene.specs.declared.call.Call.TheVariants as calls
use Rattle.cx_scene.specs.Scene.{Scene, body_of}

-- ---- what is declared

-- a completion that releases a semaphore, or none
abbrev pub is_completion_now : Option Small → Bool
is_completion_now None = true
is_completion_now (Some (smalls.Release q n)) = nat_le n 65535
is_completion_now _ = false

-- an object of a kind that threads are run on, with its numbers in their ranges
abbrev pub is_object_now : Object → Bool
is_object_now (objects.Mutex numbers) = numbers == 0
is_object_now objects.Recursive = true
is_object_now (objects.Semaphore count max) = nat_le count max && nat_le 1 max && nat_le max 65535
is_object_now (objects.Latch count) = nat_le count 65535
is_object_now objects.Shared = true
is_object_now (objects.Barrier count small) = nat_le 1 count && nat_le count 4096 && is_completion_now small
is_object_now objects.Once = true
is_object_now _ = false

-- a thread that is started and joined, with no stop state and no async
abbrev pub is_thread_now : Thread → Bool
is_thread_now threads.Plain = true
is_thread_now _ = false

-- a plain mutex
abbrev pub is_plain : Option Object → Bool
is_plain (Some (objects.Mutex numbers)) = true
is_plain _ = false

-- a recursive mutex
abbrev pub is_recursive : Option Object → Bool
is_recursive (Some objects.Recursive) = true
is_recursive _ = false

-- a shared mutex
abbrev pub is_shared : Option Object → Bool
is_shared (Some objects.Shared) = true
is_shared _ = false

-- a mutex that a thread owns alone
abbrev pub is_lockable : Option Object → Bool
is_lockable (Some (objects.Mutex numbers)) = true
is_lockable (Some objects.Recursive) = true
is_lockable (Some objects.Shared) = true
is_lockable _ = false

-- a semaphore
abbrev pub is_semaphore : Option Object → Bool
is_semaphore (Some (objects.Semaphore count max)) = true
is_semaphore _ = false

-- a latch
abbrev pub is_latch : Option Object → Bool
is_latch (Some (objects.Latch count)) = true
is_latch _ = false

-- a barrier
abbrev pub is_barrier : Option Object → Bool
is_barrier (Some (objects.Barrier count small)) = true
is_barrier _ = false

-- a once flag
abbrev pub is_once : Option Object → Bool
is_once (Some objects.Once) = true
is_once _ = false

-- what a completion releases is a declared semaphore
abbrev pub completes_on : Scene → Option Small → Bool
completes_on s (Some (smalls.Release q n)) = is_semaphore (slice_get s.objects q.0)
completes_on s _ = true

-- an object whose completion, if it has one, releases a declared semaphore
abbrev pub is_completed_on : Scene → Object → Bool
is_completed_on s (objects.Barrier count small) = completes_on s small
is_completed_on s _ = true

-- a thread that may be started and joined
abbrev pub is_plain_thread : Option Thread → Bool
is_plain_thread (Some threads.Plain) = true
is_plain_thread _ = false

-- ---- calls

-- each number stands once
abbrev pub are_apart : List ℕ → Bool
are_apart [] = true
are_apart (o ∷ os) = not (has os o) && are_apart os

-- plain mutexes, each once
abbrev pub are_plain : Scene → List ℕ → Bool
are_plain s os = list_all (λ o. is_plain (slice_get s.objects o)) os && are_apart os

-- a call of thread t on objects of the kinds that it is for, with its counts in their ranges; main alone starts and joins
abbrev pub is_fit : Scene → ℕ → Call → Bool
is_fit s t (calls.Lock o) = is_plain (slice_get s.objects o.0) || is_shared (slice_get s.objects o.0)
is_fit s t (calls.LockRecursive o) = is_recursive (slice_get s.objects o.0)
is_fit s t (calls.TryLock o) = is_plain (slice_get s.objects o.0) || is_shared (slice_get s.objects o.0)
is_fit s t (calls.TryLockRecursive o) = is_recursive (slice_get s.objects o.0)
is_fit s t (calls.Unlock o) = is_lockable (slice_get s.objects o.0)
is_fit s t (calls.LockShared o) = is_shared (slice_get s.objects o.0)
is_fit s t (calls.TryLockShared o) = is_shared (slice_get s.objects o.0)
is_fit s t (calls.UnlockShared o) = is_shared (slice_get s.objects o.0)
is_fit s t (calls.LockAll os) = nat_lt 1 (length os) && are_plain s os
is_fit s t (calls.TryLockAll os) = nat_lt 0 (length os) && are_plain s os
is_fit s t (calls.Release q n) = is_semaphore (slice_get s.objects q.0) && nat_le n 65535
is_fit s t (calls.Acquire q) = is_semaphore (slice_get s.objects q.0)
is_fit s t (calls.TryAcquire q) = is_semaphore (slice_get s.objects q.0)
is_fit s t (calls.CountDown l n) = is_latch (slice_get s.objects l.0) && nat_le n 65535
is_fit s t (calls.WaitLatch l) = is_latch (slice_get s.objects l.0)
is_fit s t (calls.TryWait l) = is_latch (slice_get s.objects l.0)
is_fit s t (calls.ArriveAndWaitLatch l) = is_latch (slice_get s.objects l.0)
is_fit s t (calls.Arrive b n) = is_barrier (slice_get s.objects b.0) && nat_le 1 n && nat_le n 4096
is_fit s t (calls.WaitBarrier b) = is_barrier (slice_get s.objects b.0)
is_fit s t (calls.ArriveAndWait b) = is_barrier (slice_get s.objects b.0)
is_fit s t (calls.ArriveAndDrop b) = is_barrier (slice_get s.objects b.0)
is_fit s t (calls.CallOnceReturn o) = is_once (slice_get s.objects o.0)
is_fit s t (calls.CallOnceThrow o e) = is_once (slice_get s.objects o.0) && nat_lt e (2 ^ 32)
is_fit s t (calls.Start u) = (t == 0) && not (u.0 == 0) && is_plain_thread (slice_get s.threads u.0)
is_fit s t (calls.Join u) = (t == 0) && is_plain_thread (slice_get s.threads u.0)
is_fit s t _ = false

-- ---- latches

-- how much of the counter of latch o a call takes
abbrev pub takes_of : ℕ → Call → ℕ
takes_of o (calls.CountDown l n) = if l.0 == o then n else 0
takes_of o (calls.ArriveAndWaitLatch l) = if l.0 == o then 1 else 0
takes_of o _ = 0

-- how much of it these calls take
abbrev pub takings : ℕ → List Call → ℕ
takings o [] = 0
takings o (c ∷ cs) = takes_of o c + takings o cs

-- how much of it the text of thread t takes
abbrev pub taken_in : Scene → ℕ → ℕ → ℕ
taken_in s t o = takings o (body_of s t)

-- how much of it the texts of the first n threads take
abbrev pub taken_below : Scene → ℕ → ℕ → ℕ
taken_below s zero o = 0
taken_below s (suc n) o = taken_below s n o + taken_in s n o

-- the counter of a latch as it opens
abbrev pub count_of : Object → ℕ
count_of (objects.Latch count) = count
count_of _ = 0

-- the count of the latch that is declared at a place; 0 where there is none
abbrev pub count_at : List Object → ℕ → ℕ
count_at [] o = 0
count_at (d ∷ ds) zero = count_of d
count_at (d ∷ ds) (suc o) = count_at ds o

-- what main has of latch o once the first n other threads have got their shares
abbrev pub left_with_main : Scene → ℕ → ℕ → ℕ
left_with_main s zero o = count_at s.objects o
left_with_main s (suc n) o = left_with_main s n o - taken_in s (suc n) o

-- what each thread's text takes of latch o is left for it
pub record SharesAre (s : Scene) (o : ℕ) : Type 0 where
  pub main : taken_in s 0 o ≤ left_with_main s (length s.threads - 1) o
  pub others : (t : ℕ) → suc t < length s.threads → taken_in s (suc t) o ≤ left_with_main s t o

-- ---- starts

-- 1 where the call starts thread u
abbrev pub starts_of : ℕ → Call → ℕ
starts_of u (calls.Start v) = bit (v.0 == u)
starts_of u _ = 0

-- how often these calls start thread u
abbrev pub startings : ℕ → List Call → ℕ
startings u [] = 0
startings u (c ∷ cs) = starts_of u c + startings u cs

-- ---- scenarios

-- objects and threads of these kinds, completions that release semaphores, at most 4,096 calls a thread, which are fit, each thread started at most once, and latches that count as much as is taken from them
pub record IsAskable (s : Scene) : Type 0 where
  pub objects : list_all is_object_now s.objects ≡ true
  pub completions : list_all (is_completed_on s) s.objects ≡ true
  pub threads : list_all is_thread_now s.threads ≡ true
  pub few : (t : ℕ) → length (body_of s t) ≤ 4096
  pub calls : (t : ℕ) → list_all (is_fit s t) (body_of s t) ≡ true
  pub started : (u : ℕ) → startings u (body_of s 0) ≤ 1
  pub latches : (o : ℕ) → taken_below s (length s.threads) o ≤ count_at s.objects o
