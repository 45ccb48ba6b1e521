-- A call that fits its thread and what it names, with its numbers kept, asks only what is served.
use Rattle.std.proofs.Common.{◌≡◌, ℕ, zero, suc, Bool, true, false, ◌==◌, ◌&&◌, ◌||◌, not, List, [], ◌∷◌, length, Option, Some, None, slice_get, refl, arith, ltb-true, eqb-true}
use Rattle.std.specs.Prelude.{◌^◌, nat_lt, nat_le}
use Rattle.std.specs.List.{list_all}
use Rattle.std.proofs.lemmas.Bool.{and_from, and_parts}
use Rattle.cx_scene.specs.declared.declared.Callback.{Callback}
use Rattle.cx_scene.specs.declared.declared.Object.{Object}
use Rattle.cx_scene.specs.declared.declared.Object.TheVariants as objects
use Rattle.cx_scene.specs.declared.declared.Thread.{Thread}
use Rattle.cx_scene.specs.declared.declared.Thread.TheVariants as threads
use Rattle.cx_scene.specs.declared.call.Call.{Call}
use Rattle.cx_scene.specs.declared.call.Call.TheVariants as calls
use Rattle.cx_scene.specs.Scene.{Scene}
use Rattle.cx_text.specs.declared.form.Made.{Made}
use Rattle.cx_text.specs.declared.form.Made.TheVariants as mades
use Rattle.cx_text.specs.declared.form.Sort.{Sort}
use Rattle.cx_text.specs.declared.form.Sort.TheVariants as sorts
use Rattle.cx_text.specs.Table.{who_may}
use Rattle.cx_script.specs.WellFormed.{made_as, object_fits, fits_object, is_made, numbers_beyond, is_run, fits_call}
use Rattle.cx_asks.specs.Scenes.{is_object_now, is_thread_now, is_plain, is_recursive, is_shared, is_lockable, is_semaphore, is_latch, is_barrier, is_once, is_plain_thread, are_apart, is_fit}

-- the counts of a call are in their ranges, and the mutexes of a call on several are others
abbrev pub is_kept : Call → Bool
is_kept (calls.Release q n) = nat_le n 65535
is_kept (calls.CountDown l n) = nat_le n 65535
is_kept (calls.Arrive b n) = nat_le 1 n && nat_le n 4096
is_kept (calls.CallOnceThrow o e) = nat_lt e (2 ^ 32)
is_kept (calls.LockAll os) = nat_lt 1 (length os) && are_apart os
is_kept (calls.TryLockAll os) = nat_lt 0 (length os) && are_apart os
is_kept _ = true

-- ---- objects of now

abbrev on_now : Option Object → Bool
on_now None = true
on_now (Some x) = is_object_now x

now_at : (xs : List Object) (i : ℕ) → list_all is_object_now xs ≡ true → on_now (slice_get xs i) ≡ true
now_at [] i h = refl
now_at (x ∷ xs) zero h = (and_parts (is_object_now x) (list_all is_object_now xs) h).0
now_at (x ∷ xs) (suc i) h = now_at xs i (and_parts (is_object_now x) (list_all is_object_now xs) h).1

abbrev on_thread : Option Thread → Bool
on_thread None = true
on_thread (Some u) = is_thread_now u

thread_at : (us : List Thread) (i : ℕ) → list_all is_thread_now us ≡ true → on_thread (slice_get us i) ≡ true
thread_at [] i h = refl
thread_at (u ∷ us) zero h = (and_parts (is_thread_now u) (list_all is_thread_now us) h).0
thread_at (u ∷ us) (suc i) h = thread_at us i (and_parts (is_thread_now u) (list_all is_thread_now us) h).1

exclusive_where : (t : ℕ) (d : Option Object) → on_now d ≡ true → object_fits t sorts.Exclusives d ≡ true → (is_plain d || is_shared d) ≡ true
exclusive_where t None h k = cc
exclusive_where t (Some (objects.Mutex numbers)) h k = refl
exclusive_where t (Some objects.Shared) h k = refl
exclusive_where t (Some _) h k = cc

shared_where : (t : ℕ) (d : Option Object) → object_fits t sorts.SharedMutexes d ≡ true → is_shared d ≡ true
shared_where t None k = cc
shared_where t (Some objects.Shared) k = refl
shared_where t (Some _) k = cc

barrier_where : (t : ℕ) (d : Option Object) → object_fits t sorts.Barriers d ≡ true → is_barrier d ≡ true
barrier_where t None k = cc
barrier_where t (Some (objects.Barrier count small)) k = refl
barrier_where t (Some _) k = cc

barrier_made : (d : Option Object) → is_made mades.Barrier d ≡ true → is_barrier d ≡ true
barrier_made (Some (objects.Barrier count small)) k = refl
barrier_made None k = cc
barrier_made (Some _) k = cc

once_where : (t : ℕ) (d : Option Object) → object_fits t sorts.Onces d ≡ true → is_once d ≡ true
once_where t None k = cc
once_where t (Some objects.Once) k = refl
once_where t (Some _) k = cc

mutex_where : (t : ℕ) (d : Option Object) → object_fits t sorts.Mutexes d ≡ true → is_plain d ≡ true
mutex_where t None k = cc
mutex_where t (Some (objects.Mutex numbers)) k = refl
mutex_where t (Some _) k = cc

lockable_where : (t : ℕ) (d : Option Object) → on_now d ≡ true → object_fits t sorts.Lockables d ≡ true → is_lockable d ≡ true
lockable_where t None h k = cc
lockable_where t (Some (objects.Mutex numbers)) h k = refl
lockable_where t (Some objects.Recursive) h k = refl
lockable_where t (Some objects.Shared) h k = refl
lockable_where t (Some _) h k = cc

recursive_where : (d : Option Object) → is_made mades.Recursive d ≡ true → is_recursive d ≡ true
recursive_where (Some objects.Recursive) k = refl
recursive_where None k = cc
recursive_where (Some _) k = cc

pub semaphore_where : (t : ℕ) (d : Option Object) → object_fits t sorts.Semaphores d ≡ true → is_semaphore d ≡ true
semaphore_where t None k = cc
semaphore_where t (Some (objects.Semaphore count max)) k = refl
semaphore_where t (Some _) k = cc

latch_where : (t : ℕ) (d : Option Object) → object_fits t sorts.Latches d ≡ true → is_latch d ≡ true
latch_where t None k = cc
latch_where t (Some (objects.Latch count)) k = refl
latch_where t (Some _) k = cc

latch_made : (d : Option Object) → is_made mades.Latch d ≡ true → is_latch d ≡ true
latch_made (Some (objects.Latch count)) k = refl
latch_made None k = cc
latch_made (Some _) k = cc

plain_run : (d : Option Thread) → on_thread d ≡ true → is_run d ≡ true → is_plain_thread d ≡ true
plain_run None h k = cc
plain_run (Some threads.Plain) h k = refl
plain_run (Some _) h k = cc

-- a kind of object that threads are run on
abbrev runs : Made → Bool
runs mades.Mutex = true
runs mades.Recursive = true
runs mades.Shared = true
runs mades.Semaphore = true
runs mades.Latch = true
runs mades.Barrier = true
runs mades.Once = true
runs _ = false

runs_now : (x : Object) → is_object_now x ≡ true → runs (made_as x) ≡ true
runs_now (objects.Mutex numbers) h = refl
runs_now objects.Recursive h = refl
runs_now objects.Shared h = refl
runs_now (objects.Semaphore count max) h = refl
runs_now (objects.Latch count) h = refl
runs_now (objects.Barrier count small) h = refl
runs_now objects.Once h = refl
runs_now _ h = cc

-- no object of now fits a place in which none of their kinds may stand
none_fits : (t : ℕ) (sort : Sort) (o : Option Object) → ((m : Made) → runs m ≡ true → who_may sort m ≡ None) → on_now o ≡ true → object_fits t sort o ≡ true → ⊥
none_fits t sort None none h k = cc
none_fits t sort (Some x) none h k = let q : false ≡ true = rw (none (made_as x) (runs_now x h)) at k in cc

none_conditions : (m : Made) → runs m ≡ true → who_may sorts.Conditions m ≡ None
none_conditions mades.Mutex h = refl
none_conditions mades.Recursive h = refl
none_conditions mades.Shared h = refl
none_conditions mades.Semaphore h = refl
none_conditions mades.Latch h = refl
none_conditions mades.Barrier h = refl
none_conditions mades.Once h = refl
none_conditions _ h = cc

none_dropped : (m : Made) → runs m ≡ true → who_may sorts.Dropped m ≡ None
none_dropped mades.Mutex h = refl
none_dropped mades.Recursive h = refl
none_dropped mades.Shared h = refl
none_dropped mades.Semaphore h = refl
none_dropped mades.Latch h = refl
none_dropped mades.Barrier h = refl
none_dropped mades.Once h = refl
none_dropped _ h = cc

none_futures : (m : Made) → runs m ≡ true → who_may sorts.Futures m ≡ None
none_futures mades.Mutex h = refl
none_futures mades.Recursive h = refl
none_futures mades.Shared h = refl
none_futures mades.Semaphore h = refl
none_futures mades.Latch h = refl
none_futures mades.Barrier h = refl
none_futures mades.Once h = refl
none_futures _ h = cc

none_invoked : (m : Made) → runs m ≡ true → who_may sorts.Invoked m ≡ None
none_invoked mades.Mutex h = refl
none_invoked mades.Recursive h = refl
none_invoked mades.Shared h = refl
none_invoked mades.Semaphore h = refl
none_invoked mades.Latch h = refl
none_invoked mades.Barrier h = refl
none_invoked mades.Once h = refl
none_invoked _ h = cc

none_launched : (m : Made) → runs m ≡ true → who_may sorts.Launched m ≡ None
none_launched mades.Mutex h = refl
none_launched mades.Recursive h = refl
none_launched mades.Shared h = refl
none_launched mades.Semaphore h = refl
none_launched mades.Latch h = refl
none_launched mades.Barrier h = refl
none_launched mades.Once h = refl
none_launched _ h = cc

none_promised : (m : Made) → runs m ≡ true → who_may sorts.Promised m ≡ None
none_promised mades.Mutex h = refl
none_promised mades.Recursive h = refl
none_promised mades.Shared h = refl
none_promised mades.Semaphore h = refl
none_promised mades.Latch h = refl
none_promised mades.Barrier h = refl
none_promised mades.Once h = refl
none_promised _ h = cc

none_settled : (m : Made) → runs m ≡ true → who_may sorts.Settled m ≡ None
none_settled mades.Mutex h = refl
none_settled mades.Recursive h = refl
none_settled mades.Shared h = refl
none_settled mades.Semaphore h = refl
none_settled mades.Latch h = refl
none_settled mades.Barrier h = refl
none_settled mades.Once h = refl
none_settled _ h = cc

none_sources : (m : Made) → runs m ≡ true → who_may sorts.Sources m ≡ None
none_sources mades.Mutex h = refl
none_sources mades.Recursive h = refl
none_sources mades.Shared h = refl
none_sources mades.Semaphore h = refl
none_sources mades.Latch h = refl
none_sources mades.Barrier h = refl
none_sources mades.Once h = refl
none_sources _ h = cc

none_stopstates : (m : Made) → runs m ≡ true → who_may sorts.StopStates m ≡ None
none_stopstates mades.Mutex h = refl
none_stopstates mades.Recursive h = refl
none_stopstates mades.Shared h = refl
none_stopstates mades.Semaphore h = refl
none_stopstates mades.Latch h = refl
none_stopstates mades.Barrier h = refl
none_stopstates mades.Once h = refl
none_stopstates _ h = cc

no_number : (o : Option Object) (i : ℕ) → on_now o ≡ true → numbers_beyond o i ≡ true → ⊥
no_number (Some (objects.Mutex numbers)) i h k =
    let none = eqb-true numbers 0 h in
    let under = ltb-true i numbers k in
    omega (arith, none, under)
no_number None i h k = cc
no_number (Some _) i h k = cc

no_stop : (o : Option Object) → on_now o ≡ true → is_made mades.Stop o ≡ true → ⊥
no_stop None h k = cc
no_stop (Some (objects.Stop holders)) h k = cc
no_stop (Some _) h k = cc

no_async : (o : Option Object) → on_now o ≡ true → is_made mades.Async o ≡ true → ⊥
no_async None h k = cc
no_async (Some (objects.Async policy function thread)) h k = cc
no_async (Some _) h k = cc

no_future : (t : ℕ) (o : Option Object) → on_now o ≡ true → (object_fits t sorts.Waited o && not (is_made mades.Latch o) && not (is_made mades.Barrier o)) ≡ true → ⊥
no_future t None h k = cc
no_future t (Some (objects.Mutex numbers)) h k = cc
no_future t (Some (objects.Semaphore count max)) h k = cc
no_future t (Some (objects.Latch count)) h k = cc
no_future t (Some (objects.Barrier count small)) h k = cc
no_future t (Some _) h k = cc

no_callback : (i : ℕ) (ks : List Callback) → ks ≡ [] → nat_lt i (length ks) ≡ true → ⊥
no_callback i [] e k = let under = ltb-true i 0 k in omega (arith, under)
no_callback i (c ∷ ks) e k = cc

three : (a b c : Bool) → (a && b && c) ≡ true → (a ≡ true) × (b ≡ true) × (c ≡ true)
three true true true h = (refl, refl, refl)
three true true false h = cc
three true false c h = cc
three false b c h = cc

three_from : (a b c : Bool) → a ≡ true → b ≡ true → c ≡ true → (a && b && c) ≡ true
three_from a b c h k m = rw (h, k, m) refl

module _ (s : Scene) (t : ℕ) (now : list_all is_object_now s.objects ≡ true) (run : list_all is_thread_now s.threads ≡ true) (none : s.callbacks ≡ []) where
  here : (i : ℕ) → on_now (slice_get s.objects i) ≡ true
  here i = now_at s.objects i now

  no_fit : (sort : Sort) (i : ℕ) → ((m : Made) → runs m ≡ true → who_may sort m ≡ None) → object_fits t sort (slice_get s.objects i) ≡ true → ⊥
  no_fit sort i none_ h = none_fits t sort (slice_get s.objects i) none_ (here i) h

  all_plain : (os : List ℕ) → list_all (λ o. fits_object s t sorts.Mutexes (record { 0 = o })) os ≡ true → list_all (λ o. is_plain (slice_get s.objects o)) os ≡ true
  all_plain [] h = refl
  all_plain (o ∷ os) h =
      let p = and_parts (object_fits t sorts.Mutexes (slice_get s.objects o)) (list_all (λ x. fits_object s t sorts.Mutexes (record { 0 = x })) os) h in
      and_from (is_plain (slice_get s.objects o)) (list_all (λ x. is_plain (slice_get s.objects x)) os) (mutex_where t (slice_get s.objects o) p.0) (all_plain os p.1)

  several : (n : ℕ) (os : List ℕ) → (nat_lt n (length os) && are_apart os) ≡ true → list_all (λ o. fits_object s t sorts.Mutexes (record { 0 = o })) os ≡ true → (nat_lt n (length os) && (list_all (λ o. is_plain (slice_get s.objects o)) os && are_apart os)) ≡ true
  several n os k h =
      let p = and_parts (nat_lt n (length os)) (are_apart os) k in
      and_from (nat_lt n (length os)) (list_all (λ o. is_plain (slice_get s.objects o)) os && are_apart os) p.0 (and_from (list_all (λ o. is_plain (slice_get s.objects o)) os) (are_apart os) (all_plain os h) p.1)

  call_fit : (c : Call) → fits_call s t c ≡ true → is_kept c ≡ true → is_fit s t c ≡ true
  call_fit (calls.Lock o) h k = exclusive_where t (slice_get s.objects o.0) (here o.0) h
  call_fit (calls.TryLock o) h k = exclusive_where t (slice_get s.objects o.0) (here o.0) h
  call_fit (calls.LockRecursive o) h k = recursive_where (slice_get s.objects o.0) h
  call_fit (calls.TryLockRecursive o) h k = recursive_where (slice_get s.objects o.0) h
  call_fit (calls.Unlock o) h k = lockable_where t (slice_get s.objects o.0) (here o.0) h
  call_fit (calls.LockAll os) h k = several 1 os k h
  call_fit (calls.TryLockAll os) h k = several 0 os k h
  call_fit (calls.Release q n) h k = and_from (is_semaphore (slice_get s.objects q.0)) (nat_le n 65535) (semaphore_where t (slice_get s.objects q.0) h) k
  call_fit (calls.Acquire q) h k = semaphore_where t (slice_get s.objects q.0) h
  call_fit (calls.TryAcquire q) h k = semaphore_where t (slice_get s.objects q.0) h
  call_fit (calls.CountDown l n) h k = and_from (is_latch (slice_get s.objects l.0)) (nat_le n 65535) (latch_where t (slice_get s.objects l.0) h) k
  call_fit (calls.WaitLatch l) h k = latch_made (slice_get s.objects l.0) h
  call_fit (calls.TryWait l) h k = latch_where t (slice_get s.objects l.0) h
  call_fit (calls.ArriveAndWaitLatch l) h k = latch_made (slice_get s.objects l.0) h
  call_fit (calls.Start u) h k =
      let p = three (t == 0) (not (u.0 == 0)) (is_run (slice_get s.threads u.0)) h in
      three_from (t == 0) (not (u.0 == 0)) (is_plain_thread (slice_get s.threads u.0)) p.0 p.1 (plain_run (slice_get s.threads u.0) (thread_at s.threads u.0 run) p.2)
  call_fit (calls.Join u) h k =
      let p = and_parts (t == 0) (is_run (slice_get s.threads u.0)) h in
      and_from (t == 0) (is_plain_thread (slice_get s.threads u.0)) p.0 (plain_run (slice_get s.threads u.0) (thread_at s.threads u.0 run) p.1)
  call_fit (calls.LockShared o) h k = shared_where t (slice_get s.objects o.0) h
  call_fit (calls.TryLockShared o) h k = shared_where t (slice_get s.objects o.0) h
  call_fit (calls.UnlockShared o) h k = shared_where t (slice_get s.objects o.0) h
  call_fit (calls.Arrive o n) h k =
      let p = and_parts (nat_le 1 n) (nat_le n 4096) k in
      three_from (is_barrier (slice_get s.objects o.0)) (nat_le 1 n) (nat_le n 4096) (barrier_where t (slice_get s.objects o.0) h) p.0 p.1
  call_fit (calls.ArriveAndDrop o) h k = barrier_where t (slice_get s.objects o.0) h
  call_fit (calls.CallOnceReturn o) h k = once_where t (slice_get s.objects o.0) h
  call_fit (calls.CallOnceThrow o e) h k = and_from (is_once (slice_get s.objects o.0)) (nat_lt e (2 ^ 32)) (once_where t (slice_get s.objects o.0) h) k
  call_fit (calls.NotifyOne o) h k = absurd (no_fit sorts.Conditions o.0 none_conditions h)
  call_fit (calls.NotifyAll o) h k = absurd (no_fit sorts.Conditions o.0 none_conditions h)
  call_fit (calls.RequestStop o) h k = absurd (no_fit sorts.StopStates o.0 none_stopstates h)
  call_fit (calls.StopRequested o) h k = absurd (no_fit sorts.StopStates o.0 none_stopstates h)
  call_fit (calls.StopPossible o) h k = absurd (no_fit sorts.StopStates o.0 none_stopstates h)
  call_fit (calls.Another o) h k = absurd (no_fit sorts.Sources o.0 none_sources h)
  call_fit (calls.SetValue o v) h k = absurd (no_fit sorts.Settled o.0 none_settled h)
  call_fit (calls.SetException o e) h k = absurd (no_fit sorts.Settled o.0 none_settled h)
  call_fit (calls.Invoke o) h k = absurd (no_fit sorts.Invoked o.0 none_invoked h)
  call_fit (calls.GetFuture o) h k = absurd (no_fit sorts.Promised o.0 none_promised h)
  call_fit (calls.Share o) h k = absurd (no_fit sorts.Promised o.0 none_promised h)
  call_fit (calls.GetOutcome o) h k = absurd (no_fit sorts.Futures o.0 none_futures h)
  call_fit (calls.Launch o) h k = absurd (no_fit sorts.Launched o.0 none_launched h)
  call_fit (calls.Get o i) h k = absurd (no_number (slice_get s.objects o.0) i (here o.0) h)
  call_fit (calls.Set o i v) h k = absurd (no_number (slice_get s.objects o.0) i (here o.0) h)
  call_fit (calls.Add o i v) h k = absurd (no_number (slice_get s.objects o.0) i (here o.0) h)
  call_fit (calls.WaitBarrier o) h k = barrier_made (slice_get s.objects o.0) h
  call_fit (calls.ArriveAndWait o) h k = barrier_made (slice_get s.objects o.0) h
  call_fit (calls.WaitCondition o m) h k = absurd (no_fit sorts.Conditions o.0 none_conditions (and_parts _ _ h).0)
  call_fit (calls.WaitPredicate o m p) h k = absurd (no_fit sorts.Conditions o.0 none_conditions (and_parts _ _ h).0)
  call_fit (calls.WaitStop o m st p) h k = absurd (no_fit sorts.Conditions o.0 none_conditions (and_parts _ _ (and_parts _ _ h).0).0)
  call_fit (calls.DropSource o) h k = absurd (no_stop (slice_get s.objects o.0) (here o.0) h)
  call_fit (calls.DropPromise o) h k = absurd (no_fit sorts.Dropped o.0 none_dropped (and_parts _ _ (and_parts _ _ h).0).0)
  call_fit (calls.DropAsync o) h k = absurd (no_async (slice_get s.objects o.0) (here o.0) (and_parts _ _ h).0)
  call_fit (calls.WaitFuture o) h k = absurd (no_future t (slice_get s.objects o.0) (here o.0) h)
  call_fit (calls.Register c) h k = absurd (no_callback c.0 s.callbacks none h)
  call_fit (calls.Deregister c) h k = absurd (no_callback c.0 s.callbacks none h)

  pub calls_fit : (cs : List Call) → list_all (fits_call s t) cs ≡ true → list_all is_kept cs ≡ true → list_all (is_fit s t) cs ≡ true
  calls_fit [] h k = refl
  calls_fit (c ∷ cs) h k =
      let p = and_parts (fits_call s t c) (list_all (fits_call s t) cs) h in
      let q = and_parts (is_kept c) (list_all is_kept cs) k in
      and_from (is_fit s t c) (list_all (is_fit s t) cs) (call_fit c p.0 q.0) (calls_fit cs p.1 q.1)
