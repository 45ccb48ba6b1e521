-- A call that is fit begins with tasks that are served, and so does the end of a body.
use Rattle.std.proofs.Common.{◌≡◌, ℕ, zero, suc, ◌+◌, ◌-◌, ◌<◌, ◌≤◌, ◌==◌, ◌&&◌, ◌||◌, not, Bool, true, false, List, [], ◌∷◌, ◌++◌, length, replicate, Option, Some, None, slice_get, if◌then◌else◌, refl, sym, ap, ◌∙◌, subst, arith, inl, inr, append-nil, append_assoc, eqb-true, ltb-true, lt-ltb, eq-eqb, ne_eqb, ◌⊎◌}
use Rattle.std.specs.Prelude.{◌^◌, pos, is_none, unwrap_or, nat_lt, nat_le, nat_eq}
use Rattle.std.specs.List.{list_all}
use Rattle.std.proofs.lemmas.Bool.{and_parts, cases_Bool, leb-true}
use Rattle.std.proofs.lemmas.Option.{slice_get_within}
use Rattle.cx_names.specs.declared.ObjectNo.{ObjectNo}
use Rattle.cx_names.specs.declared.Reply.{Reply}
use Rattle.cx_names.specs.declared.Reply.TheVariants as replies
use Rattle.cx_machine.specs.declared.kind.Op.TheVariants as ops
use Rattle.cx_machine.specs.Meaning.{bit, times, IsOnceEach}
use Rattle.cx_machine.specs.Words.{when, has}
use Rattle.cx_machine.specs.Distinct.{times_none, bit_le}
use Rattle.cx_scene.specs.declared.declared.Object.{Object}
use Rattle.cx_scene.specs.declared.declared.Object.TheVariants as objects
use Rattle.cx_scene.specs.declared.declared.Thread.{Thread}
use Rattle.cx_scene.specs.declared.declared.Thread.TheVariants as threads
use Rattle.cx_scene.specs.declared.call.Call.{Call}
use Rattle.cx_scene.specs.declared.call.Call.TheVariants as calls
use Rattle.cx_scene.specs.Scene.{Scene}
use Rattle.cx_items.specs.declared.form.Forms.TheVariants.{One, Two}
use Rattle.cx_items.specs.declared.task.Task.{Task}
use Rattle.cx_items.specs.declared.form.Form.TheVariants.{Look}
use Rattle.cx_items.specs.declared.form.Wanted.TheVariants.{Just}
use Rattle.cx_items.specs.Form.{change, look}
use Rattle.cx_items.specs.Memory.{Memory, of, owns, has_any, is_joinable, kept_after}
use Rattle.cx_items.specs.Calls.{or_else, has_one, refusal, tasks, opened, one, unlock as unlock_task, unshares, each_object, each_thread, gives_up, breaks, awaits, stops, end_of_main, end_tasks}
use Rattle.cx_asks.specs.Scenes.{is_object_now, is_thread_now, is_lockable, is_plain_thread, are_apart, are_plain, is_plain, is_shared, is_semaphore, is_latch, is_barrier, is_once, is_fit, IsAskable}
use Rattle.cx_asks.specs.Offers.{names_nobody}
use Rattle.cx_asks.proofs.Kept.{levels, reads, acted, loses_unlock, shares_set, IsKept, kept_loses, kept_shares}
use Rattle.cx_asks.proofs.Served.{kept_within, plain_lock, plain_try, recursive_lock, recursive_try, unlock, release, acquire, try_acquire, count_down, wait, try_wait}
use Rattle.cx_asks.proofs.Sharing.{shared_lock, shared_try, lock_shared, try_lock_shared, unlock_shared}
use Rattle.cx_asks.proofs.Calling.{finish, fail}
use Rattle.cx_asks.proofs.Arriving.{barrier_is, wait_phase}
use Rattle.cx_asks.proofs.Standing.{AreLocked, Good, asks, starts, joins}

-- ---- refusals

-- what isn't refused at first isn't refused later
not_refused : (b : Bool) (r : Reply) (rest : Option Reply) → or_else (when b r) rest ≡ None → (b ≡ false) × (rest ≡ None)
not_refused true r rest h = cc
not_refused false r rest h = (refl, h)

abbrev is_nobody : Option Reply → Bool
is_nobody None = true
is_nobody (Some r) = names_nobody r

nobody_when : (b : Bool) (r : Reply) (rest : Option Reply) → names_nobody r ≡ true → is_nobody rest ≡ true → is_nobody (or_else (when b r) rest) ≡ true
nobody_when true r rest h k = h
nobody_when false r rest h k = k

nobody_first : (o rest : Option Reply) → is_nobody o ≡ true → is_nobody rest ≡ true → is_nobody (or_else o rest) ≡ true
nobody_first None rest h k = k
nobody_first (Some r) rest h k = h

nobody_refused : (s : Scene) (t : ℕ) (m : Memory) (c : Call) → is_fit s t c ≡ true → is_nobody (refusal s m c) ≡ true
nobody_refused s t m (calls.Lock o) h = nobody_when (has_any m o) replies.ResourceDeadlockWouldOccur None refl refl
nobody_refused s t m (calls.TryLock o) h = nobody_when (has_any m o) replies.ResourceDeadlockWouldOccur None refl refl
nobody_refused s t m (calls.LockRecursive o) h = refl
nobody_refused s t m (calls.TryLockRecursive o) h = refl
nobody_refused s t m (calls.Unlock o) h = nobody_when (not (owns m o)) replies.OperationNotPermitted None refl refl
nobody_refused s t m (calls.LockShared o) h = nobody_when (has_any m o) replies.ResourceDeadlockWouldOccur None refl refl
nobody_refused s t m (calls.TryLockShared o) h = nobody_when (has_any m o) replies.ResourceDeadlockWouldOccur None refl refl
nobody_refused s t m (calls.UnlockShared o) h = nobody_when (not (of m o).reads) replies.OperationNotPermitted None refl refl
nobody_refused s t m (calls.LockAll os) h = nobody_when (has_one m os) replies.ResourceDeadlockWouldOccur None refl refl
nobody_refused s t m (calls.TryLockAll os) h = nobody_when (has_one m os) replies.ResourceDeadlockWouldOccur None refl refl
nobody_refused s t m (calls.Release q n) h = refl
nobody_refused s t m (calls.Acquire q) h = refl
nobody_refused s t m (calls.TryAcquire q) h = refl
nobody_refused s t m (calls.CountDown l n) h = refl
nobody_refused s t m (calls.WaitLatch l) h = refl
nobody_refused s t m (calls.TryWait l) h = refl
nobody_refused s t m (calls.ArriveAndWaitLatch l) h = refl
nobody_refused s t m (calls.Arrive b n) h = refl
nobody_refused s t m (calls.WaitBarrier b) h = nobody_when (is_none (of m b).arrival) replies.NoToken None refl refl
nobody_refused s t m (calls.ArriveAndWait b) h = refl
nobody_refused s t m (calls.ArriveAndDrop b) h = refl
nobody_refused s t m (calls.CallOnceReturn o) h = refl
nobody_refused s t m (calls.CallOnceThrow o e) h = refl
nobody_refused s t m (calls.Start u) h = refl
nobody_refused s t m (calls.Join u) h = nobody_first (or_else (when (u.0 == 0) replies.ResourceDeadlockWouldOccur) (when (not (is_joinable m u)) replies.InvalidArgument)) None (nobody_when (u.0 == 0) replies.ResourceDeadlockWouldOccur (when (not (is_joinable m u)) replies.InvalidArgument) refl (nobody_last (not (is_joinable m u)))) refl
  where
    nobody_last : (b : Bool) → is_nobody (when b replies.InvalidArgument) ≡ true
    nobody_last true = refl
    nobody_last false = refl
nobody_refused s t m _ h = cc

or_false : (a b : Bool) → (a || b) ≡ false → (a ≡ false) × (b ≡ false)
or_false true b h = cc
or_false false b h = (refl, h)

not_false : (b : Bool) → not b ≡ false → b ≡ true
not_false true h = refl
not_false false h = cc

not_true : (b : Bool) → not b ≡ true → b ≡ false
not_true true h = cc
not_true false h = refl

none_below : (n : ℕ) → nat_lt 0 n ≡ false → n ≡ 0
none_below zero h = refl
none_below (suc n) h = absurd (let no : true ≡ false = sym (some_below n) ∙ h in cc)
  where
    some_below : (k : ℕ) → nat_lt 0 (suc k) ≡ true
    some_below k = lt-ltb 0 (suc k) (omega arith)

-- what a thread doesn't hold it doesn't share either
unread : (m : Memory) (o : ObjectNo) → has_any m o ≡ false → reads m o.0 ≡ false
unread m o h = (or_false (owns m o) (of m o).reads h).1

-- a mutex that isn't owned has no level
unowned : (m : Memory) (o : ObjectNo) → has_any m o ≡ false → levels m o.0 ≡ 0
unowned m o h = none_below (levels m o.0) (or_false (owns m o) (of m o).reads h).0

owned : (m : Memory) (o : ObjectNo) → owns m o ≡ true → (n : ℕ) × (levels m o.0 ≡ suc n)
owned m o h = (levels m o.0 - 1, some_level (levels m o.0) (ltb-true 0 (levels m o.0) h))
  where
    some_level : (k : ℕ) → 0 < k → k ≡ suc (k - 1)
    some_level k lt = omega (arith, lt)

-- ---- mutexes of a call on several

first_none : (n : ℕ) (os : List ℕ) → has os n ≡ false → times n os ≤ 1
first_none n os h = let z = times_none n os h in omega (arith, z)

pub once_each : (os : List ℕ) → are_apart os ≡ true → IsOnceEach os
once_each [] h n = omega arith
once_each (o ∷ os) h n =
    let p = and_parts (not (has os o)) (are_apart os) h in
    go (cases_Bool (nat_eq o n)) (times_none o os (not_true (has os o) p.0)) (once_each os p.1 n)
  where
    go : ((nat_eq o n ≡ true) ⊎ (nat_eq o n ≡ false)) → times o os ≡ 0 → times n os ≤ 1 → times n (o ∷ os) ≤ 1
    go (inl e) lacks rest =
        let none : times n os ≡ 0 = subst (λ (x : ℕ). times x os ≡ 0) (eqb-true o n e) lacks in
        let le = bit_le (nat_eq o n) in
        omega (arith, none, le)
    go (inr e) lacks rest = rw e (omega (arith, rest))

none_owned : (m : Memory) (n : ℕ) (os : List ℕ) → has_one m os ≡ false → 1 ≤ times n os → levels m n ≡ 0
none_owned m n [] h k = absurd (let no : ⊥ = omega (arith, k) in no)
none_owned m n (o ∷ os) h k =
    let p = or_false (owns m (record { 0 = o })) (has_one m os) h in
    go (cases_Bool (nat_eq o n)) (none_below (levels m o) p.0) (λ among. none_owned m n os p.1 among)
  where
    go : ((nat_eq o n ≡ true) ⊎ (nat_eq o n ≡ false)) → levels m o ≡ 0 → (1 ≤ times n os → levels m n ≡ 0) → levels m n ≡ 0
    go (inl e) first rest = subst (λ (x : ℕ). levels m x ≡ 0) (eqb-true o n e) first
    go (inr e) first rest = let among : 1 ≤ 0 + times n os = rw e at k in rest (omega (arith, among))

none_locked : (s : Scene) (m : Memory) (os : List ℕ) → 0 < length os → are_plain s os ≡ true → has_one m os ≡ false → AreLocked s m os 0
none_locked s m os some fit free =
    let p = and_parts (list_all (λ o. is_plain (slice_get s.objects o)) os) (are_apart os) fit in
    record { below = some; plain = p.0; once = once_each os p.1; held = λ n among. none_owned m n os free among }

-- ---- calls

two_parts : (a b c : Bool) → (a && b && c) ≡ true → (a ≡ true) × (b ≡ true) × (c ≡ true)
two_parts true true true h = (refl, refl, refl)
two_parts true true false h = cc
two_parts true false c h = cc
two_parts false b c h = cc

plain_thread_there : (us : List Thread) (d : Option Thread) (u : ℕ) → slice_get us u ≡ d → is_plain_thread d ≡ true → u < length us
plain_thread_there us None u e h = cc
plain_thread_there us (Some d) u e h = slice_get_within us u d e

above_zero : (u : ℕ) → (u == 0) ≡ false → 0 < u
above_zero zero h = absurd (let no : true ≡ false = h in cc)
above_zero (suc u) h = omega arith

less_than : (a b : ℕ) → 1 < a → 0 < a
less_than a b h = omega (arith, h)

-- a call on a mutex that is owned alone, or on a shared one
either_good : (a b : Bool) (G : Type 0) → (a || b) ≡ true → (a ≡ true → G) → (b ≡ true → G) → G
either_good true b G h p q = p refl
either_good false b G h p q = q h

good_tasks : (s : Scene) (t n : ℕ) (last : Bool) (m : Memory) (c : Call) → IsAskable s → is_fit s t c ≡ true → refusal s m c ≡ None → Good s t last m (tasks s t n m c)
good_tasks s t n last m (calls.Lock o) a h free =
    let none = (not_refused (has_any m o) replies.ResourceDeadlockWouldOccur None free).0 in
    either_good (is_plain (slice_get s.objects o.0)) (is_shared (slice_get s.objects o.0)) (Good s t last m (tasks s t n m (calls.Lock o))) h
    (λ plain. asks (One (change o ops.Lock 0 replies.Ok)) (plain_lock s m o plain (unowned m o none)))
    (λ shared. asks (One (change o ops.Lock 0 replies.Ok)) (shared_lock s m o shared (unowned m o none) (unread m o none)))
good_tasks s t n last m (calls.TryLock o) a h free =
    let none = (not_refused (has_any m o) replies.ResourceDeadlockWouldOccur None free).0 in
    either_good (is_plain (slice_get s.objects o.0)) (is_shared (slice_get s.objects o.0)) (Good s t last m (tasks s t n m (calls.TryLock o))) h
    (λ plain. asks (Two (change o ops.TryLock 0 replies.True) (look o ops.TryLock 0 replies.False)) (plain_try s m o plain (unowned m o none)))
    (λ shared. asks (Two (change o ops.TryLock 0 replies.True) (look o ops.TryLock 0 replies.False)) (shared_try s m o shared (unowned m o none) (unread m o none)))
good_tasks s t n last m (calls.LockShared o) a h free =
    let none = (not_refused (has_any m o) replies.ResourceDeadlockWouldOccur None free).0 in
    asks (One (change o ops.LockShared 0 replies.Ok)) (lock_shared s m o h (unowned m o none) (unread m o none))
good_tasks s t n last m (calls.TryLockShared o) a h free =
    let none = (not_refused (has_any m o) replies.ResourceDeadlockWouldOccur None free).0 in
    asks (Two (change o ops.TryLockShared 0 replies.True) (look o ops.TryLockShared 0 replies.False)) (try_lock_shared s m o h (unowned m o none) (unread m o none))
good_tasks s t n last m (calls.UnlockShared o) a h free =
    asks (One (change o ops.UnlockShared 0 replies.Ok)) (unlock_shared s m o h (not_false (of m o).reads (not_refused (not (of m o).reads) replies.OperationNotPermitted None free).0))
good_tasks s t n last m (calls.LockRecursive o) a h free = asks (Two (change o ops.Lock 0 replies.Ok) (look o ops.Lock 0 replies.MaxLevels)) (recursive_lock s m o h)
good_tasks s t n last m (calls.TryLockRecursive o) a h free = asks (Two (change o ops.TryLock 0 replies.True) (look o ops.TryLock 0 replies.False)) (recursive_try s m o h)
good_tasks s t n last m (calls.Unlock o) a h free =
    let own = owned m o (not_false (owns m o) (not_refused (not (owns m o)) replies.OperationNotPermitted None free).0) in
    asks (One (change o ops.Unlock 0 replies.Ok)) (unlock s m o own.0 h own.1)
good_tasks s t n last m (calls.LockAll os) a h free =
    let p = and_parts (nat_lt 1 (length os)) (are_plain s os) h in
    let many = ltb-true 1 (length os) p.0 in
    (many, none_locked s m os (less_than (length os) 1 many) p.1 (not_refused (has_one m os) replies.ResourceDeadlockWouldOccur None free).0)
good_tasks s t n last m (calls.TryLockAll os) a h free =
    let p = and_parts (nat_lt 0 (length os)) (are_plain s os) h in
    none_locked s m os (ltb-true 0 (length os) p.0) p.1 (not_refused (has_one m os) replies.ResourceDeadlockWouldOccur None free).0
good_tasks s t n last m (calls.Release q k) a h free =
    let p = and_parts (is_semaphore (slice_get s.objects q.0)) (nat_le k 65535) h in
    asks (Two (change q ops.Release k replies.Ok) (look q ops.Release k replies.Over)) (release s m q k p.0 (leb-true k 65535 p.1))
good_tasks s t n last m (calls.Acquire q) a h free = asks (One (change q ops.Acquire 0 replies.Ok)) (acquire s m q h)
good_tasks s t n last m (calls.TryAcquire q) a h free = asks (Two (change q ops.TryAcquire 0 replies.True) (look q ops.TryAcquire 0 replies.False)) (try_acquire s m q h)
good_tasks s t n last m (calls.CountDown l k) a h free =
    let p = and_parts (is_latch (slice_get s.objects l.0)) (nat_le k 65535) h in
    asks (One (change l ops.CountDown k replies.Ok)) (count_down s m l k p.0 (leb-true k 65535 p.1))
good_tasks s t n last m (calls.WaitLatch l) a h free = asks (One (look l ops.Wait 0 replies.Ok)) (wait s m l h)
good_tasks s t n last m (calls.TryWait l) a h free = asks (Two (look l ops.TryWait 0 replies.True) (look l ops.TryWait 0 replies.False)) (try_wait s m l h)
good_tasks s t n last m (calls.ArriveAndWaitLatch l) a h free = (count_down s m l 1 h (omega arith), asks (One (look l ops.Wait 0 replies.Ok)) (wait s (acted m l ops.CountDown) l h))
good_tasks s t n last m (calls.Arrive b k) a h free =
    let p = two_parts (is_barrier (slice_get s.objects b.0)) (nat_le 1 k) (nat_le k 4096) h in
    (barrier_is s b a p.0, leb-true 1 k p.1, leb-true k 4096 p.2)
good_tasks s t n last m (calls.WaitBarrier b) a h free = asks (One (Look b ops.Wait (unwrap_or (of m b).arrival (pos 0)) (pos 0) (Just replies.Ok))) (wait_phase s m b (unwrap_or (of m b).arrival (pos 0)) (barrier_is s b a h))
good_tasks s t n last m (calls.ArriveAndWait b) a h free = barrier_is s b a h
good_tasks s t n last m (calls.ArriveAndDrop b) a h free = barrier_is s b a h
good_tasks s t n last m (calls.CallOnceReturn o) a h free = (h, λ k. finish s k o h, refl)
good_tasks s t n last m (calls.CallOnceThrow o e) a h free =
    let p = and_parts (is_once (slice_get s.objects o.0)) (nat_lt e (2 ^ 32)) h in
    (p.0, λ k. fail s k o e p.0 (ltb-true e (2 ^ 32) p.1), refl)
good_tasks s t n last m (calls.Start u) a h free =
    let p = two_parts (t == 0) (not (u.0 == 0)) (is_plain_thread (slice_get s.threads u.0)) h in
    starts u (record { main = eqb-true t 0 p.0; other = above_zero u.0 (not_true (u.0 == 0) p.1); there = plain_thread_there s.threads (slice_get s.threads u.0) u.0 refl p.2 })
good_tasks s t n last m (calls.Join u) a h free =
    let p = and_parts (t == 0) (is_plain_thread (slice_get s.threads u.0)) h in
    let r = join_free (u.0 == 0) (is_joinable m u) free in
    joins u (record { main = eqb-true t 0 p.0; other = above_zero u.0 r.0; there = plain_thread_there s.threads (slice_get s.threads u.0) u.0 refl p.1; joinable = r.1 })
  where
    join_free : (a b : Bool) → or_else (or_else (when a replies.ResourceDeadlockWouldOccur) (when (not b) replies.InvalidArgument)) None ≡ None → (a ≡ false) × (b ≡ true)
    join_free true b e = cc
    join_free false true e = (refl, refl)
    join_free false false e = cc
good_tasks s t n last m _ a h free = cc

pub good_opened : (s : Scene) (t n : ℕ) (last : Bool) (m : Memory) (c : Call) → IsAskable s → is_fit s t c ≡ true → Good s t last m (opened s t n m c)
good_opened s t n last m c a h = go (refusal s m c) refl (nobody_refused s t m c h)
  where
    go : (o : Option Reply) → refusal s m c ≡ o → is_nobody (refusal s m c) ≡ true → Good s t last m (opened s t n m c)
    go None e nobody = rw e (good_tasks s t n last m c a h e)
    go (Some r) e nobody = rw e (let k : is_nobody (Some r) ≡ true = rw e at nobody in k)

-- ---- the end of a body

no_breaks : (t : ℕ) (m : Memory) (i : ℕ) (ds : List Object) → list_all is_object_now ds ≡ true → each_object (breaks t m) i ds ≡ []
no_breaks t m i [] h = refl
no_breaks t m i (objects.Mutex numbers ∷ ds) h = no_breaks t m (i + 1) ds (and_parts (is_object_now (objects.Mutex numbers)) (list_all is_object_now ds) h).1
no_breaks t m i (objects.Recursive ∷ ds) h = no_breaks t m (i + 1) ds h
no_breaks t m i (objects.Semaphore count max ∷ ds) h = no_breaks t m (i + 1) ds (and_parts (is_object_now (objects.Semaphore count max)) (list_all is_object_now ds) h).1
no_breaks t m i (objects.Shared ∷ ds) h = no_breaks t m (i + 1) ds h
no_breaks t m i (objects.Barrier count small ∷ ds) h = no_breaks t m (i + 1) ds (and_parts (is_object_now (objects.Barrier count small)) (list_all is_object_now ds) h).1
no_breaks t m i (objects.Once ∷ ds) h = no_breaks t m (i + 1) ds h
no_breaks t m i (objects.Latch count ∷ ds) h = no_breaks t m (i + 1) ds (and_parts (is_object_now (objects.Latch count)) (list_all is_object_now ds) h).1
no_breaks t m i (_ ∷ ds) h = cc

no_awaits : (s : Scene) (m : Memory) (i : ℕ) (ds : List Object) → IsKept s m → each_object (awaits m) i ds ≡ []
no_awaits s m i [] k = refl
no_awaits s m i (d ∷ ds) k = rw (k.launched i) (no_awaits s m (i + 1) ds k)

no_stops : (m : Memory) (i : ℕ) (us : List Thread) → list_all is_thread_now us ≡ true → each_thread (stops m) i us ≡ []
no_stops m i [] h = refl
no_stops m i (threads.Plain ∷ us) h = ap (λ (ts : List Task). ts ++ []) (no_stops m (i + 1) us h)
no_stops m i (_ ∷ us) h = cc

nothing_after : (s : Scene) (t : ℕ) (m : Memory) → IsAskable s → IsKept s m → each_object (breaks t m) 0 s.objects ++ (if t == 0 then end_of_main s m else []) ≡ []
nothing_after s t m a k = rw (no_breaks t m 0 s.objects a.objects) (go (t == 0))
  where
    go : (b : Bool) → (if b then end_of_main s m else []) ≡ []
    go true = rw (no_awaits s m 0 s.objects k) (no_stops m 0 s.threads a.threads)
    go false = refl

-- a mutex with a level is one that is owned alone
lockable_where : (s : Scene) (m : Memory) (o n : ℕ) → IsKept s m → levels m o ≡ suc n → is_lockable (slice_get s.objects o) ≡ true
lockable_where s m o n k own = go (cases_Bool (is_lockable (slice_get s.objects o)))
  where
    go : ((is_lockable (slice_get s.objects o) ≡ true) ⊎ (is_lockable (slice_get s.objects o) ≡ false)) → is_lockable (slice_get s.objects o) ≡ true
    go (inl h) = h
    go (inr h) = absurd (let none = k.free o h in let no : ⊥ = omega (arith, none, own) in no)

one_less : (l l' b n : ℕ) → l' ≡ l - b → b ≡ 1 → l ≡ suc n → l' ≡ n
one_less l l' b n h k e = omega (arith, h, k, e)

as_many : (l l' b : ℕ) → l' ≡ l - b → b ≡ 0 → l' ≡ l
as_many l l' b h k = omega (arith, h, k)

-- a mutex that is shared is a shared mutex
shared_where : (s : Scene) (m : Memory) (o : ℕ) → IsKept s m → reads m o ≡ true → is_shared (slice_get s.objects o) ≡ true
shared_where s m o k shares = go (cases_Bool (is_shared (slice_get s.objects o)))
  where
    go : ((is_shared (slice_get s.objects o) ≡ true) ⊎ (is_shared (slice_get s.objects o) ≡ false)) → is_shared (slice_get s.objects o) ≡ true
    go (inl h) = h
    go (inr h) = absurd (let no : true ≡ false = sym shares ∙ k.unshared o h in cc)

-- from object i on, the two memories hold the same of each
pub record HoldSame (i : ℕ) (m m' : Memory) : Type 0 where
  pub levels_are : (q : ℕ) → i ≤ q → levels m q ≡ levels m' q
  pub reads_are : (q : ℕ) → i ≤ q → reads m q ≡ reads m' q

-- so many unlocks of one mutex, and the rest where only its levels are others
good_levels : (s : Scene) (t : ℕ) (o : ObjectNo) (n : ℕ) (rest : List Task) (m : Memory) → IsKept s m → levels m o.0 ≡ n → ((m' : Memory) → IsKept s m' → ((q : ℕ) → nat_eq o.0 q ≡ false → levels m' q ≡ levels m q) → ((q : ℕ) → reads m' q ≡ reads m q) → Good s t true m' rest) → Good s t true m (replicate n (unlock_task o) ++ rest)
good_levels s t o zero rest m k is then_ = then_ m k (λ q h. refl) (λ q. refl)
good_levels s t o (suc n) rest m k is then_ =
    let lockable = lockable_where s m o.0 n k is in
    let l = loses_unlock m o (kept_within s m o lockable k) in
    let m' : Memory = acted m o ops.Unlock in
    let own : levels m' o.0 ≡ n = one_less (levels m o.0) (levels m' o.0) (bit (nat_eq o.0 o.0)) n (l.levels_are o.0) (bit_one o.0) is in
    (unlock s m o n lockable is, good_levels s t o n rest m' (kept_loses s m m' o.0 l k) own (λ m'' k'' same alike. then_ m'' k'' (λ q h. same q h ∙ as_many (levels m q) (levels m' q) (bit (nat_eq o.0 q)) (l.levels_are q) (rw h refl)) (λ q. alike q ∙ l.alike.reads_are q)))
  where
    bit_one : (i : ℕ) → bit (nat_eq i i) ≡ 1
    bit_one i = let e : nat_eq i i ≡ true = eq-eqb i i refl in rw e refl

below_next : (i q : ℕ) → i + 1 ≤ q → nat_eq i q ≡ false
below_next i q h = ne_eqb i q (λ e. (let no : ⊥ = omega (arith, h, e) in no))

later_index : (i q : ℕ) → i + 1 ≤ q → i ≤ q
later_index i q h = omega (arith, h)

-- an unlock of a shared mutex where it is shared, and the rest where only that is another
good_shared : (s : Scene) (t : ℕ) (o : ObjectNo) (b : Bool) (rest : List Task) (m : Memory) → IsKept s m → reads m o.0 ≡ b → ((m' : Memory) → IsKept s m' → ((q : ℕ) → levels m' q ≡ levels m q) → ((q : ℕ) → nat_eq o.0 q ≡ false → reads m' q ≡ reads m q) → Good s t true m' rest) → Good s t true m ((if b then one (change o ops.UnlockShared 0 replies.Ok) ∷ [] else []) ++ rest)
good_shared s t o false rest m k is then_ = then_ m k (λ q. refl) (λ q h. refl)
good_shared s t o true rest m k is then_ =
    let shared = shared_where s m o.0 k is in
    let m' : Memory = acted m o ops.UnlockShared in
    let g = shares_set m o (kept_after ops.UnlockShared (of m o)) refl refl in
    (unlock_shared s m o shared is, then_ m' (kept_shares s m m' o.0 g shared k) g.levels_are g.others)

-- the memory m0 of which the tasks are made, and the memory m of now, agree from object i on
good_gives : (s : Scene) (t : ℕ) (m0 : Memory) (i : ℕ) (ds : List Object) (m : Memory) → IsKept s m → HoldSame i m m0 → Good s t true m (each_object (gives_up m0) i ds)
good_gives s t m0 i [] m k same = refl
good_gives s t m0 i (d ∷ ds) m k same =
    let o : ObjectNo = record { 0 = i } in
    let rest : List Task = each_object (gives_up m0) (i + 1) ds in
    subst (λ (ts : List Task). Good s t true m ts) (sym (append_assoc (replicate (levels m0 i) (unlock_task o)) (unshares m0 o) rest))
    (good_levels s t o (levels m0 i) (unshares m0 o ++ rest) m k (same.levels_are i (omega arith)) (λ m' k' others alike.
    good_shared s t o (reads m0 i) rest m' k' (alike i ∙ same.reads_are i (omega arith)) (λ m'' k'' levels_ others'.
    good_gives s t m0 (i + 1) ds m'' k'' (record {
      levels_are = λ q h. levels_ q ∙ (others q (below_next i q h) ∙ same.levels_are q (later_index i q h));
      reads_are = λ q h. others' q (below_next i q h) ∙ (alike q ∙ same.reads_are q (later_index i q h));
    }))))

-- an unlock for each level, one for sharing, and nothing else
pub end_is : (s : Scene) (t : ℕ) (m : Memory) → IsAskable s → IsKept s m → end_tasks s t m ≡ each_object (gives_up m) 0 s.objects
end_is s t m a k = ap (λ (ts : List Task). each_object (gives_up m) 0 s.objects ++ ts) (nothing_after s t m a k) ∙ append-nil (each_object (gives_up m) 0 s.objects)

pub good_end : (s : Scene) (t : ℕ) (m : Memory) → IsAskable s → IsKept s m → Good s t true m (end_tasks s t m)
good_end s t m a k = subst (λ (ts : List Task). Good s t true m ts) (sym (end_is s t m a k)) (good_gives s t m 0 s.objects m k (record { levels_are = λ q h. refl; reads_are = λ q h. refl }))
