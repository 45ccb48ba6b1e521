-- Each act of a thread has its counts in range, and starts and names threads that there are.
use Rattle.std.proofs.Common.{◌≡◌, ◌<◌, ℕ, zero, suc, ◌+◌, ◌==◌, ◌&&◌, not, ℤ, pos, negsuc, Bool, true, false, List, [], ◌∷◌, ◌++◌, map, length, reverse, take, drop, replicate, Option, Some, None, option_map, slice_get, nat_lt, if◌then◌else◌, refl, sym, subst, arith, lt-ltb, eqb-true, zero-add, add-zero}
use Rattle.std.specs.List.{list_all}
use Rattle.std.proofs.lemmas.List.Folds.{list_all-append}
use Rattle.std.proofs.lemmas.Bool.{and_parts}
use Rattle.std.proofs.lemmas.Bool.Decides.{Decides-int_eq}
use Rattle.cx_names.specs.declared.Reply.{Reply}
use Rattle.cx_names.specs.declared.Reply.TheVariants as replies
use Rattle.cx_names.specs.declared.ObjectNo.{ObjectNo}
use Rattle.cx_names.specs.declared.CallbackNo.{CallbackNo}
use Rattle.cx_names.specs.declared.ThreadNo.{ThreadNo}
use Rattle.cx_names.specs.Replies.{int_eq, reply_eq}
use Rattle.cx_names.proofs.Equal.{replies_are_equal}
use Rattle.cx_machine.specs.declared.kind.Op.{Op}
use Rattle.cx_machine.specs.declared.kind.Op.TheVariants as ops
use Rattle.cx_machine.specs.Words.{has, when}
use Rattle.cx_names.specs.declared.Outcome.TheVariants as outcomes
use Rattle.cx_scene.specs.declared.declared.Object.{Object}
use Rattle.cx_scene.specs.declared.declared.Object.TheVariants as objects
use Rattle.cx_scene.specs.declared.declared.Thread.{Thread}
use Rattle.cx_scene.specs.declared.declared.Thread.TheVariants as threads
use Rattle.cx_scene.specs.declared.declared.Small.TheVariants as smalls
use Rattle.cx_scene.specs.declared.declared.Small.{Small}
use Rattle.cx_scene.specs.declared.declared.Function.{Function}
use Rattle.cx_scene.specs.declared.declared.Policy.{Policy}
use Rattle.cx_scene.specs.declared.declared.Policy.TheVariants as policies
use Rattle.cx_scene.specs.declared.declared.Callback.{Callback}
use Rattle.cx_scene.specs.declared.declared.Action.{Action}
use Rattle.cx_scene.specs.declared.declared.Action.TheVariants as actions
use Rattle.cx_scene.specs.declared.call.Call.{Call}
use Rattle.cx_scene.specs.declared.call.Call.TheVariants as calls
use Rattle.cx_scene.specs.declared.call.Predicate.{Predicate}
use Rattle.cx_scene.specs.declared.declared.Registration.{Registration}
use Rattle.cx_scene.specs.declared.declared.Registration.TheVariants.{OfCallback, OfWait}
use Rattle.cx_scene.specs.Scene.{Scene, registration, body_of}
use Rattle.cx_items.specs.declared.item.Control.{Control}
use Rattle.cx_items.specs.declared.item.Control.TheVariants as controls
use Rattle.cx_items.specs.declared.item.Item.{Item}
use Rattle.cx_items.specs.declared.item.Item.TheVariants as items
use Rattle.cx_items.specs.declared.form.Wanted.TheVariants.{Just, AnOutcome}
use Rattle.cx_items.specs.declared.form.Wanted.{Wanted}
use Rattle.cx_items.specs.declared.form.Form.{Form}
use Rattle.cx_items.specs.declared.form.Form.TheVariants.{Change, Look, Begin, Does, Says as SaysForm}
use Rattle.cx_items.specs.declared.task.StopWait.{StopWait}
use Rattle.cx_items.specs.declared.task.Task.{Task}
use Rattle.cx_items.specs.declared.task.Task.TheVariants.{Makes, Answers, Says, Arrives, ArrivesAndWaits, ArrivesAndDrops, Completes, CallsOnce, LocksFrom, LocksRest, TriesAll, Tests, RegistersWait, AsksStop, TestsStop, TestsLast, AsksAgain, Requests, Drains, Registers, Launches}
use Rattle.cx_items.specs.declared.form.Forms.{Forms}
use Rattle.cx_items.specs.declared.form.Forms.TheVariants.{Two}
use Rattle.cx_items.specs.Form.{forms_in, or_first, change, fits, op_number, op_eq, same_words, is_wanted, is_registered_on, control_eq, control_reply}
use Rattle.cx_items.specs.Memory.{Memory, of, owns, has_any, is_joinable, memory_at_start, remembering}
use Rattle.cx_items.specs.Calls.{one, small_forms, or_else, has_one, unblocks, waits, readies, looks, launches, registers, deregisters, held_id, id_of, lock_refusal, stop_refusal, satisfied, future_refusal, refusal, tasks, opened, each_object, each_thread, gives_up, breaks, is_number_of, owner_of, awaits, stops, end_of_main, end_tasks, set_form}
use Rattle.cx_items.specs.Next.{Local, Alternative, goes, to, says, has_turns, turned, next_tasks, next_call, past, replied, action_tasks, declared_tasks, registered_tasks, callback_tasks, begun, passes, yes_or_no, end_of_wait, ends, enters, wake_tasks, wakes, unlocks, backs_off, completion, number_of, alternatives, offered_by, offered, or_then, reached, due, with_due, with_item, is_due, after_item, start_of_body, local_at_start}
use Rattle.cx_history.specs.IsRecord.{is_within, can_launch, can_start, is_control}
use Rattle.cx_replay.proofs.Acting.{in_range, in_range_of, fine_reply}

-- ---- what a text says in its scene

-- a reply that names no other thread than those of the scene
abbrev pub fine : Scene → Reply → Bool
fine s r = fine_reply (length s.threads) r

abbrev pub apt_form : Scene → Form → Bool
apt_form s (Change o op a b w) = in_range op a
apt_form s (Look o op a b w) = in_range op a
apt_form s (Begin o) = true
apt_form s (Does c) = is_control s c
apt_form s (SaysForm r) = fine s r

abbrev pub apt_small : Small → Bool
apt_small (smalls.Release q n) = is_within 0 65535 (pos n)
apt_small (smalls.NotifyOne c) = true
apt_small (smalls.NotifyAll c) = true

abbrev pub apt_action : Action → Bool
apt_action (actions.Small x) = apt_small x
apt_action actions.Deregister = true

abbrev pub apt_task : Scene → Task → Bool
apt_task s (Makes fs) = list_all (apt_form s) (forms_in fs)
apt_task s (Answers fs) = list_all (apt_form s) (forms_in fs)
apt_task s (Says r) = fine s r
apt_task s (Arrives b n) = is_within 1 4096 (pos n)
apt_task s (CallsOnce o f r) = apt_form s f && fine s r
apt_task s (Launches a u p) = can_launch (slice_get s.threads u.0)
apt_task s _ = true

abbrev pub apt_call : Scene → Call → Bool
apt_call s (calls.Release q n) = is_within 0 65535 (pos n)
apt_call s (calls.CountDown l n) = is_within 0 65535 (pos n)
apt_call s (calls.Arrive b n) = is_within 1 4096 (pos n)
apt_call s (calls.Start t) = nat_lt 0 t.0 && can_start (slice_get s.threads t.0)
apt_call s (calls.Join t) = can_start (slice_get s.threads t.0)
apt_call s _ = true

-- a scene of which all that is said is so
pub record AptScene (s : Scene) : Type 0 where
  pub calls : (t : ℕ) → list_all (apt_call s) (body_of s t) ≡ true
  pub main : (st : ObjectNo) → slice_get s.threads 0 ≡ Some (threads.Stoppable st) → ⊥
  pub launched : (o : ℕ) (p : Policy) (f : Function) (u : ThreadNo) → slice_get s.objects o ≡ Some (objects.Async p f u) → can_launch (slice_get s.threads u.0) ≡ true
  pub barriers : (o count : ℕ) (x : Small) → slice_get s.objects o ≡ Some (objects.Barrier count (Some x)) → apt_small x ≡ true
  pub callbacks : (k : ℕ) (c : Callback) → slice_get s.callbacks k ≡ Some c → apt_action c.action ≡ true

abbrev Apt : Scene → List Task → Type 0
Apt s ts = list_all (apt_task s) ts ≡ true

pub record IsApt (s : Scene) (l : Local) : Type 0 where
  pub agenda : list_all (apt_task s) l.agenda ≡ true
  pub calls : list_all (apt_call s) l.calls ≡ true

both : (a b : Bool) → (a && b) ≡ true → (a ≡ true) × (b ≡ true)
both a b h = and_parts a b h

apt-append : (s : Scene) (ts us : List Task) → Apt s ts → Apt s us → Apt s (ts ++ us)
apt-append s ts us h k = rw (list_all-append (apt_task s) ts us, h, k) refl

apt-if : (s : Scene) (b : Bool) (ts us : List Task) → Apt s ts → Apt s us → Apt s (if b then ts else us)
apt-if s true ts us h k = h
apt-if s false ts us h k = k

apt-replicate : (s : Scene) (n : ℕ) (t : Task) → apt_task s t ≡ true → Apt s (replicate n t)
apt-replicate s zero t h = refl
apt-replicate s (suc n) t h = rw (h, apt-replicate s n t h) refl

apt-unlocks : (s : Scene) (os : List ℕ) → Apt s (unlocks os)
apt-unlocks s [] = refl
apt-unlocks s (o ∷ os) = apt-unlocks s os

-- ---- calls

-- a refusal names no thread
abbrev fine_if : Scene → Option Reply → Bool
fine_if s None = true
fine_if s (Some r) = fine s r

fine_when : (s : Scene) (b : Bool) (r : Reply) → fine s r ≡ true → fine_if s (when b r) ≡ true
fine_when s true r h = h
fine_when s false r h = refl

fine_else : (s : Scene) (a b : Option Reply) → fine_if s a ≡ true → fine_if s b ≡ true → fine_if s (or_else a b) ≡ true
fine_else s None b h k = k
fine_else s (Some r) b h k = h

fine_satisfied : (s : Scene) (m : Memory) (p : ObjectNo) (r : Reply) → fine s r ≡ true → fine_if s (satisfied m p r) ≡ true
fine_satisfied s m p r h = fine_else s (when (of m p).is_dropped replies.NoState) (when (of m p).is_set r) (fine_when s (of m p).is_dropped replies.NoState refl) (fine_when s (of m p).is_set r h)

fine_lock : (s : Scene) (m : Memory) (c : Call) → fine_if s (lock_refusal m c) ≡ true
fine_lock s m (calls.Lock o) = fine_when s (has_any m o) replies.ResourceDeadlockWouldOccur refl
fine_lock s m (calls.LockShared o) = fine_when s (has_any m o) replies.ResourceDeadlockWouldOccur refl
fine_lock s m (calls.TryLock o) = fine_when s (has_any m o) replies.ResourceDeadlockWouldOccur refl
fine_lock s m (calls.TryLockShared o) = fine_when s (has_any m o) replies.ResourceDeadlockWouldOccur refl
fine_lock s m (calls.Unlock o) = fine_when s (not (owns m o)) replies.OperationNotPermitted refl
fine_lock s m (calls.UnlockShared o) = fine_when s (not (of m o).reads) replies.OperationNotPermitted refl
fine_lock s m (calls.Get o i) = fine_when s (not (owns m o)) replies.OperationNotPermitted refl
fine_lock s m (calls.Set o i v) = fine_when s (not (owns m o)) replies.OperationNotPermitted refl
fine_lock s m (calls.Add o i v) = fine_when s (not (owns m o)) replies.OperationNotPermitted refl
fine_lock s m (calls.LockAll os) = fine_when s (has_one m os) replies.ResourceDeadlockWouldOccur refl
fine_lock s m (calls.TryLockAll os) = fine_when s (has_one m os) replies.ResourceDeadlockWouldOccur refl
fine_lock s m (calls.WaitCondition c x) = fine_when s (not (owns m x)) replies.OperationNotPermitted refl
fine_lock s m (calls.WaitPredicate c x p) = fine_when s (not (owns m x)) replies.OperationNotPermitted refl
fine_lock s m (calls.WaitStop c x st p) = fine_when s (not (owns m x)) replies.OperationNotPermitted refl
fine_lock s m _ = refl

fine_stop : (s : Scene) (m : Memory) (c : Call) → fine_if s (stop_refusal s m c) ≡ true
fine_stop s m (calls.WaitBarrier b) = fine_when s _ replies.NoToken refl
fine_stop s m (calls.RequestStop st) = fine_when s ((of m st).sources == 0) replies.NoState refl
fine_stop s m (calls.Another st) = fine_when s ((of m st).sources == 0) replies.NoState refl
fine_stop s m (calls.DropSource st) = fine_when s ((of m st).sources == 0) replies.NoState refl
fine_stop s m (calls.Deregister k) = fine_when s _ replies.NotHeld refl
fine_stop s m (calls.Join t) = fine_else s (when (t.0 == 0) replies.ResourceDeadlockWouldOccur) (when (not (is_joinable m t)) replies.InvalidArgument) (fine_when s (t.0 == 0) replies.ResourceDeadlockWouldOccur refl) (fine_when s (not (is_joinable m t)) replies.InvalidArgument refl)
fine_stop s m _ = refl

fine_either : (s : Scene) (b : Bool) (q r : Reply) → fine s q ≡ true → fine s r ≡ true → fine s (if b then q else r) ≡ true
fine_either s true q r h k = h
fine_either s false q r h k = k

fine_future : (s : Scene) (m : Memory) (c : Call) → fine_if s (future_refusal m c) ≡ true
fine_future s m (calls.SetValue p v) = fine_satisfied s m p replies.PromiseAlreadySatisfied refl
fine_future s m (calls.SetException p e) = fine_satisfied s m p replies.PromiseAlreadySatisfied refl
fine_future s m (calls.Invoke p) = fine_satisfied s m p replies.PromiseAlreadySatisfied refl
fine_future s m (calls.DropPromise p) = fine_satisfied s m p replies.Ok refl
fine_future s m (calls.GetFuture p) = fine_either s (of m p).is_retrieved replies.FutureAlreadyRetrieved replies.Ok refl refl
fine_future s m (calls.Share p) = fine_either s ((of m p).is_valid && not (of m p).is_shared) replies.Ok replies.NoState refl refl
fine_future s m (calls.WaitFuture p) = fine_when s (not (of m p).is_valid) replies.NoState refl
fine_future s m (calls.GetOutcome p) = fine_when s (not (of m p).is_valid) replies.NoState refl
fine_future s m (calls.DropAsync a) = fine_else s (when (not (of m a).is_valid) replies.NoState) (when (not (of m a).is_launched) replies.Ok) (fine_when s (not (of m a).is_valid) replies.NoState refl) (fine_when s (not (of m a).is_launched) replies.Ok refl)
fine_future s m _ = refl

fine_refusal : (s : Scene) (m : Memory) (c : Call) → fine_if s (refusal s m c) ≡ true
fine_refusal s m c = fine_else s (lock_refusal m c) (or_else (stop_refusal s m c) (future_refusal m c)) (fine_lock s m c) (fine_else s (stop_refusal s m c) (future_refusal m c) (fine_stop s m c) (fine_future s m c))

apt_registers : (s : Scene) (id : ℕ) (k : CallbackNo) (c : Option Callback) → Apt s (registers s id k c)
apt_registers s id k None = refl
apt_registers s id k (Some c) = refl

apt_deregisters : (s : Scene) (c : Option Callback) (id : Option ℕ) → Apt s (deregisters c id)
apt_deregisters s None id = refl
apt_deregisters s (Some c) None = refl
apt_deregisters s (Some c) (Some id) = refl

apt_readies : (s : Scene) (m : Memory) (p : ObjectNo) (then_ : Form → List Task) → ((f : Form) → apt_form s f ≡ true → Apt s (then_ f)) → (b : Bool) → (of m p).is_unrun ≡ b → Apt s (readies s m p then_)
apt_readies s m p then_ h true e = rw e (h _ refl)
apt_readies s m p then_ h false e = rw e (h _ refl)

apt_launches : (s : Scene) (a : ObjectNo) (o : Option Object) → AptScene s → slice_get s.objects a.0 ≡ o → Apt s (launches a o)
apt_launches s a (Some (objects.Async policy f u)) scene e = rw (scene.launched a.0 policy f u e) refl
apt_launches s a _ scene e = refl

-- main is joined by nobody
joins_other : (s : Scene) (m : Memory) (t : ThreadNo) → refusal s m (calls.Join t) ≡ None → 0 < t.0
joins_other s m t e = go t.0 refl e
  where
    go : (n : ℕ) → t.0 ≡ n → or_else (or_else (when (n == 0) replies.ResourceDeadlockWouldOccur) (when (not (is_joinable m t)) replies.InvalidArgument)) None ≡ None → 0 < t.0
    go zero p q = cc
    go (suc n) p q = omega (arith, p)

joined : (s : Scene) (m : Memory) (t : ThreadNo) → refusal s m (calls.Join t) ≡ None → can_start (slice_get s.threads t.0) ≡ true → is_control s (controls.Join t) ≡ true
joined s m t e can = let low : nat_lt 0 t.0 ≡ true = lt-ltb 0 t.0 (joins_other s m t e) in rw (low, can) refl

apt_tasks : (s : Scene) (t n : ℕ) (m : Memory) (c : Call) → AptScene s → refusal s m c ≡ None → apt_call s c ≡ true → Apt s (tasks s t n m c)
apt_tasks s t n m (calls.Lock o) scene free h = refl
apt_tasks s t n m (calls.LockRecursive o) scene free h = refl
apt_tasks s t n m (calls.LockShared o) scene free h = refl
apt_tasks s t n m (calls.TryLock o) scene free h = refl
apt_tasks s t n m (calls.TryLockRecursive o) scene free h = refl
apt_tasks s t n m (calls.TryLockShared o) scene free h = refl
apt_tasks s t n m (calls.Unlock o) scene free h = refl
apt_tasks s t n m (calls.UnlockShared o) scene free h = refl
apt_tasks s t n m (calls.Get o i) scene free h = refl
apt_tasks s t n m (calls.Set o i v) scene free h = refl
apt_tasks s t n m (calls.Add o i v) scene free h = refl
apt_tasks s t n m (calls.LockAll os) scene free h = refl
apt_tasks s t n m (calls.TryLockAll os) scene free h = refl
apt_tasks s t n m (calls.Release q c) scene free h = rw h refl
apt_tasks s t n m (calls.Acquire q) scene free h = refl
apt_tasks s t n m (calls.TryAcquire q) scene free h = refl
apt_tasks s t n m (calls.CountDown l c) scene free h = rw h refl
apt_tasks s t n m (calls.WaitLatch l) scene free h = refl
apt_tasks s t n m (calls.TryWait l) scene free h = refl
apt_tasks s t n m (calls.ArriveAndWaitLatch l) scene free h = refl
apt_tasks s t n m (calls.Arrive b c) scene free h = rw h refl
apt_tasks s t n m (calls.WaitBarrier b) scene free h = refl
apt_tasks s t n m (calls.ArriveAndWait b) scene free h = refl
apt_tasks s t n m (calls.ArriveAndDrop b) scene free h = refl
apt_tasks s t n m (calls.CallOnceReturn o) scene free h = refl
apt_tasks s t n m (calls.CallOnceThrow o e) scene free h = refl
apt_tasks s t n m (calls.WaitCondition c x) scene free h = refl
apt_tasks s t n m (calls.WaitPredicate c x p) scene free h = refl
apt_tasks s t n m (calls.WaitStop c x st p) scene free h = refl
apt_tasks s t n m (calls.NotifyOne c) scene free h = refl
apt_tasks s t n m (calls.NotifyAll c) scene free h = refl
apt_tasks s t n m (calls.RequestStop st) scene free h = refl
apt_tasks s t n m (calls.StopRequested st) scene free h = refl
apt_tasks s t n m (calls.StopPossible st) scene free h = refl
apt_tasks s t n m (calls.Another st) scene free h = refl
apt_tasks s t n m (calls.DropSource st) scene free h = refl
apt_tasks s t n m (calls.Register k) scene free h = apt-append s (registers s (id_of t n) k (slice_get s.callbacks k.0)) [] (apt_registers s (id_of t n) k (slice_get s.callbacks k.0)) refl
apt_tasks s t n m (calls.Deregister k) scene free h = apt-append s (deregisters (slice_get s.callbacks k.0) (held_id s m.held k)) [] (apt_deregisters s (slice_get s.callbacks k.0) (held_id s m.held k)) refl
apt_tasks s t n m (calls.SetValue p v) scene free h = refl
apt_tasks s t n m (calls.SetException p e) scene free h = refl
apt_tasks s t n m (calls.Invoke p) scene free h = refl
apt_tasks s t n m (calls.DropPromise p) scene free h = refl
apt_tasks s t n m (calls.GetFuture p) scene free h = refl
apt_tasks s t n m (calls.Share p) scene free h = refl
apt_tasks s t n m (calls.WaitFuture p) scene free h = apt_readies s m p (looks true) (λ f k. rw k refl) (of m p).is_unrun refl
apt_tasks s t n m (calls.GetOutcome p) scene free h = apt_readies s m p (looks false) (λ f k. rw k refl) (of m p).is_unrun refl
apt_tasks s t n m (calls.DropAsync a) scene free h = refl
apt_tasks s t n m (calls.Start u) scene free h = rw h refl
apt_tasks s t n m (calls.Join u) scene free h = rw (joined s m u free h) refl
apt_tasks s t n m (calls.Launch a) scene free h = apt_launches s a (slice_get s.objects a.0) scene refl

apt_opened : (s : Scene) (t n : ℕ) (m : Memory) (c : Call) → AptScene s → apt_call s c ≡ true → Apt s (opened s t n m c)
apt_opened s t n m c scene h = go (refusal s m c) refl (fine_refusal s m c)
  where
    go : (o : Option Reply) → refusal s m c ≡ o → fine_if s o ≡ true → Apt s (opened s t n m c)
    go None e k = rw e (apt_tasks s t n m c scene e h)
    go (Some r) e k = rw (e, k) refl

-- ---- ends of bodies

apt_gives_up : (s : Scene) (m : Memory) (o : ObjectNo) (d : Object) → Apt s (gives_up m o d)
apt_gives_up s m o d = apt-append s (replicate (of m o).levels (one (change o ops.Unlock 0 replies.Ok))) (if (of m o).reads then one (change o ops.UnlockShared 0 replies.Ok) ∷ [] else []) (apt-replicate s (of m o).levels (one (change o ops.Unlock 0 replies.Ok)) refl) (apt-if s (of m o).reads (one (change o ops.UnlockShared 0 replies.Ok) ∷ []) [] refl refl)

apt_breaks : (s : Scene) (t : ℕ) (m : Memory) (o : ObjectNo) (d : Object) → Apt s (breaks t m o d)
apt_breaks s t m o d = apt-if s (is_number_of t (owner_of d) && not (of m o).is_set && not (of m o).is_dropped) (one (set_form o outcomes.Broken) ∷ []) [] refl refl

apt_awaits : (s : Scene) (m : Memory) (o : ObjectNo) (d : Object) → Apt s (awaits m o d)
apt_awaits s m o d = apt-if s ((of m o).is_launched && (of m o).is_valid) (one (Look o ops.Ready (pos 0) (pos 0) AnOutcome) ∷ []) [] refl refl

-- a jthread is no main, and can be joined
joins_jthread : (s : Scene) (u : ℕ) (st : ObjectNo) → AptScene s → slice_get s.threads u ≡ Some (threads.Stoppable st) → is_control s (controls.Join (record { 0 = u })) ≡ true
joins_jthread s zero st scene e = absurd (scene.main st e)
joins_jthread s (suc u) st scene e = let low : nat_lt 0 (suc u) ≡ true = lt-ltb 0 (suc u) (omega arith) in rw (low, e) refl

apt_stops : (s : Scene) (m : Memory) (u : ℕ) (d : Thread) → AptScene s → slice_get s.threads u ≡ Some d → Apt s (stops m u d)
apt_stops s m u threads.Plain scene e = refl
apt_stops s m u (threads.Stoppable st) scene e = apt-if s (has m.joinable u) (Requests st false ∷ one (Does (controls.Join (record { 0 = u }))) ∷ []) [] (rw (joins_jthread s u st scene e) refl) refl
apt_stops s m u (threads.Launched o) scene e = refl

apt_objects : (s : Scene) (f : ObjectNo → Object → List Task) → ((o : ObjectNo) (d : Object) → Apt s (f o d)) → (i : ℕ) (ds : List Object) → Apt s (each_object f i ds)
apt_objects s f h i [] = refl
apt_objects s f h i (d ∷ ds) = apt-append s (f (record { 0 = i }) d) (each_object f (i + 1) ds) (h (record { 0 = i }) d) (apt_objects s f h (i + 1) ds)

one_on : (i j : ℕ) → i + suc j ≡ (i + 1) + j
one_on i j = omega arith

apt_threads : (s : Scene) (f : ℕ → Thread → List Task) → ((u : ℕ) (d : Thread) → slice_get s.threads u ≡ Some d → Apt s (f u d)) → (i : ℕ) (us : List Thread) → ((j : ℕ) (d : Thread) → slice_get us j ≡ Some d → slice_get s.threads (i + j) ≡ Some d) → Apt s (each_thread f i us)
apt_threads s f h i [] there = refl
apt_threads s f h i (u ∷ us) there =
    apt-append s (each_thread f (i + 1) us) (f i u) (apt_threads s f h (i + 1) us (λ j d e. subst (λ n. slice_get s.threads n ≡ Some d) (one_on i j) (there (suc j) d e))) (h i u (subst (λ n. slice_get s.threads n ≡ Some u) (add-zero i) (there zero u refl)))

apt_end : (s : Scene) (t : ℕ) (m : Memory) → AptScene s → Apt s (end_tasks s t m)
apt_end s t m scene =
    let waited = apt_objects s (awaits m) (apt_awaits s m) 0 s.objects in
    let stopped = apt_threads s (stops m) (λ u d e. apt_stops s m u d scene e) 0 s.threads (λ j d e. subst (λ n. slice_get s.threads n ≡ Some d) (sym (zero-add j)) e) in
    let main = apt-if s (t == 0) (end_of_main s m) [] (apt-append s (each_object (awaits m) 0 s.objects) (each_thread (stops m) 0 s.threads) waited stopped) refl in
    let broken = apt-append s (each_object (breaks t m) 0 s.objects) (if t == 0 then end_of_main s m else []) (apt_objects s (breaks t m) (apt_breaks s t m) 0 s.objects) main in
    apt-append s (each_object (gives_up m) 0 s.objects) (each_object (breaks t m) 0 s.objects ++ (if t == 0 then end_of_main s m else [])) (apt_objects s (gives_up m) (apt_gives_up s m) 0 s.objects) broken

-- ---- what the next item may be

apt-goes : (s : Scene) (l : Local) (ts : List Task) → Apt s ts → IsApt s l → IsApt s (goes l ts)
apt-goes s l ts h q = record { agenda = apt-append s ts l.agenda h q.agenda; calls = q.calls }

apt-turned : (s : Scene) (l : Local) → IsApt s l → IsApt s (turned l)
apt-turned s l q = record { agenda = q.agenda; calls = q.calls }

apt_first : (s : Scene) (t : ℕ) (l : Local) → AptScene s → list_all (apt_call s) l.calls ≡ true → IsApt s (next_call s t l)
apt_first s t l scene h = record { agenda = go l.calls h; calls = h }
  where
    go : (cs : List Call) → list_all (apt_call s) cs ≡ true → Apt s (next_tasks s t l cs)
    go [] k = apt_end s t l.memory scene
    go (c ∷ cs) k = apt_opened s t l.number l.memory c scene (both (apt_call s c) (list_all (apt_call s) cs) k).0

apt_replied : (s : Scene) (t : ℕ) (l : Local) (r : Reply) → AptScene s → IsApt s l → IsApt s (replied s t l r)
apt_replied s t l r scene q = go l.calls q.calls
  where
    go : (cs : List Call) → list_all (apt_call s) cs ≡ true → IsApt s (next_call s t (past l r cs))
    go [] k = apt_first s t l scene q.calls
    go (c ∷ cs) k = apt_first s t (past l r (c ∷ cs)) scene (both (apt_call s c) (list_all (apt_call s) cs) k).1

apt_smalls : (s : Scene) (x : Small) → apt_small x ≡ true → list_all (apt_form s) (forms_in (small_forms x)) ≡ true
apt_smalls s (smalls.Release q n) h = rw h refl
apt_smalls s (smalls.NotifyOne q) h = refl
apt_smalls s (smalls.NotifyAll q) h = refl

apt_acts : (s : Scene) (m : Memory) (id : ℕ) (st : ObjectNo) (a : Action) → apt_action a ≡ true → Apt s (action_tasks m id st a)
apt_acts s m id st (actions.Small x) h = rw (apt_smalls s x h) refl
apt_acts s m id st actions.Deregister h = apt-if s (has m.held id) (one (change st ops.Deregister id replies.Inside) ∷ []) [] refl refl

apt_declared : (s : Scene) (m : Memory) (id k : ℕ) (c : Option Callback) → AptScene s → slice_get s.callbacks k ≡ c → Apt s (declared_tasks m id c)
apt_declared s m id k None scene e = refl
apt_declared s m id k (Some c) scene e = apt_acts s m id c.stop c.action (scene.callbacks k c e)

apt_registered : (s : Scene) (m : Memory) (id : ℕ) (r : Option Registration) → AptScene s → Apt s (registered_tasks s m id r)
apt_registered s m id None scene = refl
apt_registered s m id (Some (OfWait c st)) scene = refl
apt_registered s m id (Some (OfCallback k)) scene = apt_declared s m id k.0 (slice_get s.callbacks k.0) scene refl

apt_callback : (s : Scene) (m : Memory) (id : ℤ) → AptScene s → Apt s (callback_tasks s m id)
apt_callback s m (negsuc n) scene = refl
apt_callback s m (pos id) scene = apt_registered s m id (registration s id) scene

-- each of these is so, and leads to what is so by each reply that names no other thread
data AllApt (s : Scene) : List Alternative → Type 0 where
  no_more : AllApt s []
  and_more : (a : Alternative) (rest : List Alternative) → apt_form s a.form ≡ true → ((r : Reply) → fine s r ≡ true → IsApt s (a.next r)) → AllApt s rest → AllApt s (a ∷ rest)

all-append : (s : Scene) (a b : List Alternative) → AllApt s a → AllApt s b → AllApt s (a ++ b)
all-append s [] b no_more k = k
all-append s (x ∷ xs) b (and_more x' xs' form next h) k = and_more x (xs ++ b) form next (all-append s xs b h k)

all_makes : (s : Scene) (l : Local) (fs : List Form) → IsApt s l → list_all (apt_form s) fs ≡ true → AllApt s (map (λ f. to f l) fs)
all_makes s l [] q h = no_more
all_makes s l (f ∷ fs) q h = let p = both (apt_form s f) (list_all (apt_form s) fs) h in and_more (to f l) (map (λ f. to f l) fs) p.0 (λ r k. q) (all_makes s l fs q p.1)

all_answers : (s : Scene) (l : Local) (fs : List Form) → IsApt s l → list_all (apt_form s) fs ≡ true → AllApt s (map (λ f. record { form = f; next = says l }) fs)
all_answers s l [] q h = no_more
all_answers s l (f ∷ fs) q h = let p = both (apt_form s f) (list_all (apt_form s) fs) h in and_more (record { form = f; next = says l }) (map (λ f. record { form = f; next = says l }) fs) p.0 (λ r k. apt-goes s l (Says r ∷ []) (rw k refl) q) (all_answers s l fs q p.1)

-- one or more of them
all_one : (s : Scene) (a : Alternative) → apt_form s a.form ≡ true → ((r : Reply) → fine s r ≡ true → IsApt s (a.next r)) → AllApt s (a ∷ [])
all_one s a h next = and_more a [] h next no_more

all_two : (s : Scene) (a b : Alternative) → apt_form s a.form ≡ true → ((r : Reply) → fine s r ≡ true → IsApt s (a.next r)) → apt_form s b.form ≡ true → ((r : Reply) → fine s r ≡ true → IsApt s (b.next r)) → AllApt s (a ∷ b ∷ [])
all_two s a b h next k after = and_more a (b ∷ []) h next (all_one s b k after)

all_three : (s : Scene) (a b c : Alternative) → apt_form s a.form ≡ true → ((r : Reply) → fine s r ≡ true → IsApt s (a.next r)) → apt_form s b.form ≡ true → ((r : Reply) → fine s r ≡ true → IsApt s (b.next r)) → apt_form s c.form ≡ true → ((r : Reply) → fine s r ≡ true → IsApt s (c.next r)) → AllApt s (a ∷ b ∷ c ∷ [])
all_three s a b c h next k after m last = and_more a (b ∷ c ∷ []) h next (all_two s b c k after m last)

apt-either : (s : Scene) (b : Bool) (k l : Local) → IsApt s k → IsApt s l → IsApt s (if b then k else l)
apt-either s true k l p q = p
apt-either s false k l p q = q

all_completion : (s : Scene) (l : Local) (b : ObjectNo) (d : Option Object) → AptScene s → slice_get s.objects b.0 ≡ d → IsApt s l → AllApt s (completion l b d)
all_completion s l b (Some (objects.Barrier count (Some x))) scene e h = all_makes s (goes l (one (change b ops.Complete 0 replies.Ok) ∷ [])) (forms_in (small_forms x)) (apt-goes s l (one (change b ops.Complete 0 replies.Ok) ∷ []) refl h) (apt_smalls s x (scene.barriers b.0 count x e))
all_completion s l b _ scene e h = all_one s _ refl (λ r k. h)

apt_backs_off : (s : Scene) (l : Local) (os : List ℕ) (k : ℕ) → IsApt s l → IsApt s (backs_off l os k)
apt_backs_off s l os k q =
    let undone = apt-unlocks s (reverse (take k os)) in
    apt-either s (has_turns l) (goes (turned l) (unlocks (reverse (take k os)) ++ LocksFrom (drop k os ++ take k os) ∷ [])) (goes l (unlocks (reverse (take k os)) ++ Says replies.Spent ∷ []))
    (apt-goes s (turned l) _ (apt-append s (unlocks (reverse (take k os))) (LocksFrom (drop k os ++ take k os) ∷ []) undone refl) (apt-turned s l q))
    (apt-goes s l _ (apt-append s (unlocks (reverse (take k os))) (Says replies.Spent ∷ []) undone refl) q)

apt_begun : (s : Scene) (l : Local) (st : ObjectNo) (aloud : Bool) (r : Reply) → AptScene s → IsApt s l → IsApt s (begun s l st aloud r)
apt_begun s l st aloud (replies.Number id) scene q = apt-goes s l (callback_tasks s l.memory id ++ one (Change st ops.Finish id (pos 0) (Just replies.Ok)) ∷ Drains st aloud ∷ []) (apt-append s (callback_tasks s l.memory id) (one (Change st ops.Finish id (pos 0) (Just replies.Ok)) ∷ Drains st aloud ∷ []) (apt_callback s l.memory id scene) refl) q
apt_begun s l st aloud _ scene q = q

apt_ends : (s : Scene) (l : Local) (w : StopWait) (r : Reply) → fine s r ≡ true → IsApt s l → IsApt s (ends l w r)
apt_ends s l w r k q =
    let off : List Task = Makes (Two (change w.stop ops.Deregister w.id replies.Removed) (change w.stop ops.Deregister w.id replies.Ran)) ∷ [] in
    apt-goes s l (end_of_wait w r) (apt-append s (if w.queued then off else []) (Says r ∷ []) (apt-if s w.queued off [] refl refl) (rw k refl)) q

apt_enters : (s : Scene) (l : Local) (w : StopWait) → IsApt s l → IsApt s (enters l w)
apt_enters s l w q = apt-goes s l (one (change w.condition ops.Enter 0 replies.Ok) ∷ one (change w.mutex ops.Unlock 0 replies.Ok) ∷ AsksAgain w ∷ []) refl q

apt_wakes : (s : Scene) (l : Local) (w : StopWait) (fs : Forms) → list_all (apt_form s) (forms_in fs) ≡ true → IsApt s l → IsApt s (wakes l w fs)
apt_wakes s l w fs h q = apt-goes s l (wake_tasks w fs) (rw h refl) q

-- what may follow a request that is made or not, or a callback list that is drained
apt_word : (s : Scene) (l : Local) (aloud : Bool) (r : Reply) → fine s r ≡ true → IsApt s l → IsApt s (goes l (if aloud then Says r ∷ [] else []))
apt_word s l aloud r k q = apt-goes s l (if aloud then Says r ∷ [] else []) (apt-if s aloud (Says r ∷ []) [] (rw k refl) refl) q

apt_tests : (s : Scene) (l : Local) (c m : ObjectNo) (p : Predicate) (x : Reply) → IsApt s l → IsApt s (if passes p x then says l replies.True else if has_turns l then goes (turned l) (waits s c m ++ Tests c m p ∷ []) else says l replies.Spent)
apt_tests s l c m p x q = apt-either s (passes p x) (says l replies.True) (if has_turns l then goes (turned l) (waits s c m ++ Tests c m p ∷ []) else says l replies.Spent) (apt-goes s l (Says replies.True ∷ []) refl q)
    (apt-either s (has_turns l) (goes (turned l) (waits s c m ++ Tests c m p ∷ [])) (says l replies.Spent) (apt-goes s (turned l) (waits s c m ++ Tests c m p ∷ []) refl (apt-turned s l q)) (apt-goes s l (Says replies.Spent ∷ []) refl q))

apt_tests_stop : (s : Scene) (l : Local) (w : StopWait) (x : Reply) → IsApt s l → IsApt s (if passes w.test x then ends l w replies.True else if has_turns l then enters l w else ends l w replies.Spent)
apt_tests_stop s l w x q = apt-either s (passes w.test x) (ends l w replies.True) (if has_turns l then enters l w else ends l w replies.Spent) (apt_ends s l w replies.True refl q) (apt-either s (has_turns l) (enters l w) (ends l w replies.Spent) (apt_enters s l w q) (apt_ends s l w replies.Spent refl q))

apt_rest : (s : Scene) (b : Bool) (l : Local) (ts us : List Task) → Apt s ts → Apt s us → IsApt s l → IsApt s (if b then goes l ts else goes l us)
apt_rest s b l ts us h k q = apt-either s b (goes l ts) (goes l us) (apt-goes s l ts h q) (apt-goes s l us k q)

fine_yes_or_no : (s : Scene) (b : Bool) → fine s (yes_or_no b) ≡ true
fine_yes_or_no s true = refl
fine_yes_or_no s false = refl

all_launches : (s : Scene) (l : Local) (a : ObjectNo) (u : ThreadNo) (p : Policy) → IsApt s l → can_launch (slice_get s.threads u.0) ≡ true → (t : ℕ) → AllApt s (alternatives s t l (Launches a u p))
all_launches s l a u policies.Async q h t = all_two s _ _ h (λ r k. apt-goes s l (Says replies.Launched ∷ []) refl q) h (λ r k. apt-goes s l (Says replies.NoThread ∷ []) refl q)
all_launches s l a u policies.Both q h t = all_two s _ _ h (λ r k. apt-goes s l (Says replies.Launched ∷ []) refl q) h (λ r k. apt-goes s l (one (change a ops.Defer 0 replies.Ok) ∷ Says replies.Deferred ∷ []) refl q)
all_launches s l a u policies.Deferred q h t = all_one s _ refl (λ r k. apt-goes s l (Says replies.Deferred ∷ []) refl q)

all_apt : (s : Scene) (t : ℕ) (l : Local) (task : Task) → AptScene s → IsApt s l → apt_task s task ≡ true → AllApt s (alternatives s t l task)
all_apt s t l (Makes fs) scene q h = all_makes s l (forms_in fs) q h
all_apt s t l (Answers fs) scene q h = all_answers s l (forms_in fs) q h
all_apt s t l (Says r) scene q h = all_one s _ h (λ r k_. apt_replied s t l r scene q)
all_apt s t l (Arrives b n) scene q h = all_two s _ _ h (λ p k. apt-goes s l (Completes b false ∷ Says p ∷ []) (rw k refl) q) h (λ p k. apt-goes s l (Says replies.OverExpected ∷ []) refl q)
all_apt s t l (ArrivesAndWaits b) scene q h = all_two s _ _ refl (λ p k_. apt-goes s l (Completes b false ∷ one (Look b ops.Wait (number_of p) (pos 0) (Just replies.Ok)) ∷ Says replies.Ok ∷ []) refl q) refl (λ p k_. apt-goes s l (Says replies.OverExpected ∷ []) refl q)
all_apt s t l (ArrivesAndDrops b) scene q h = all_two s _ _ refl (λ p k_. apt-goes s l (Completes b false ∷ Says replies.Ok ∷ []) refl q) refl (λ p k_. apt-goes s l (Says replies.OverExpected ∷ []) refl q)
all_apt s t l (Completes b must) scene q h = all_completion s l b (slice_get s.objects b.0) scene refl q
all_apt s t l (CallsOnce o f r) scene q h = (let p = both (apt_form s f) (fine s r) h in all_two s _ _ refl (λ x k. apt-goes s l (one f ∷ Says r ∷ []) (rw (p.0, p.1) refl) q) refl (λ x k. apt-goes s l (Says replies.Passive ∷ []) refl q))
all_apt s t l (LocksFrom os) scene q h = all_one s _ refl (λ r k_. apt-goes s l (LocksRest os 1 ∷ []) refl q)
all_apt s t l (LocksRest os k) scene q h = all_two s _ _ refl (λ r k_. apt_rest s (k + 1 == length os) l (Says replies.Ok ∷ []) (LocksRest os (k + 1) ∷ []) refl refl q) refl (λ r k_. apt_backs_off s l os k q)
all_apt s t l (TriesAll os k) scene q h = all_two s _ _ refl (λ r k_. apt_rest s (k + 1 == length os) l (Says (replies.Number (negsuc 0)) ∷ []) (TriesAll os (k + 1) ∷ []) refl refl q) refl (λ r k_. apt-goes s l _ (apt-append s (unlocks (reverse (take k os))) (Says (replies.Number (pos k)) ∷ []) (apt-unlocks s (reverse (take k os))) refl) q)
all_apt s t l (Tests c m p) scene q h = all_one s _ refl (λ x k_. apt_tests s l c m p x q)
all_apt s t l (RegistersWait w) scene q h = all_three s _ _ _ refl (λ r k_. apt-goes s l (AsksStop (record w { queued = true }) ∷ []) refl q) refl (λ r k_. apt-goes s l _ (apt-append s (callback_tasks s l.memory (pos w.id)) (one (change w.stop ops.Finish w.id replies.Ok) ∷ AsksStop w ∷ []) (apt_callback s l.memory (pos w.id) scene) refl) q) refl (λ r k_. apt-goes s l (AsksStop w ∷ []) refl q)
all_apt s t l (AsksStop w) scene q h = all_two s _ _ refl (λ r k_. apt-goes s l (TestsLast w ∷ []) refl q) refl (λ r k_. apt-goes s l (TestsStop w ∷ []) refl q)
all_apt s t l (TestsLast w) scene q h = all_one s _ refl (λ x k_. apt_ends s l w (yes_or_no (passes w.test x)) (fine_yes_or_no s (passes w.test x)) q)
all_apt s t l (TestsStop w) scene q h = all_one s _ refl (λ x k_. apt_tests_stop s l w x q)
all_apt s t l (AsksAgain w) scene q h = all_two s _ _ refl (λ r k_. apt_wakes s l w (or_first (change w.condition ops.Withdraw 0 replies.Ok) (unblocks s w.condition)) refl q) refl (λ r k_. apt_wakes s (turned l) w (unblocks s w.condition) refl (apt-turned s l q))
all_apt s t l (Requests st aloud) scene q h = all_two s _ _ refl (λ r k_. apt-goes s l (Drains st aloud ∷ []) refl q) refl (λ r k_. apt_word s l aloud replies.Already refl q)
all_apt s t l (Drains st aloud) scene q h = all_two s _ _ refl (λ r k_. apt_begun s l st aloud r scene q) refl (λ r k_. apt_word s l aloud replies.Made refl q)
all_apt s t l (Registers st id) scene q h = all_three s _ _ _ refl (λ r k_. apt-goes s l (Says replies.Queued ∷ []) refl q) refl (λ r k_. apt-goes s l _ (apt-append s (callback_tasks s l.memory (pos id)) (one (change st ops.Finish id replies.Ok) ∷ Says replies.Ran ∷ []) (apt_callback s l.memory (pos id) scene) refl) q) refl (λ r k_. apt-goes s l (Says replies.Never ∷ []) refl q)
all_apt s t l (Launches a u p) scene q h = all_launches s l a u p q h t

all_offered : (s : Scene) (t : ℕ) (l : Local) (ts : List Task) → AptScene s → Apt s ts → list_all (apt_call s) l.calls ≡ true → AllApt s (offered_by s t l ts)
all_offered s t l [] scene h k = no_more
all_offered s t l (Completes b false ∷ ts) scene h k =
    let after : Local = record l { agenda = ts } in
    all-append s (alternatives s t after (Completes b false)) (offered_by s t l ts) (all_apt s t after (Completes b false) scene (record { agenda = h; calls = k }) refl) (all_offered s t l ts scene h k)
all_offered s t l (task ∷ ts) scene h k = let p = both (apt_task s task) (list_all (apt_task s) ts) h in all_apt s t (record l { agenda = ts }) task scene (record { agenda = p.1; calls = k }) p.0

-- ---- one item

abbrev pub apt_item : Scene → Item → Bool
apt_item s (items.Change o p e) = in_range e.op e.a
apt_item s (items.Look o l) = in_range l.op l.a
apt_item s (items.Control c) = is_control s c
apt_item s (items.Said r) = fine s r

-- the reply of an act names no other thread
abbrev pub tells_fine : Scene → Item → Bool
tells_fine s (items.Change o p e) = fine s e.reply
tells_fine s (items.Look o l) = fine s l.reply
tells_fine s _ = true

same_range : (op p : Op) (a b : ℤ) → op_eq op p ≡ true → int_eq a b ≡ true → in_range op a ≡ true → in_range p b ≡ true
same_range op p a b h k r =
    let number : op_number op ≡ op_number p = eqb-true (op_number op) (op_number p) h in
    let same : a ≡ b = (Decides-int_eq a b).0 k in
    subst (λ n. in_range_of n b ≡ true) number (subst (λ z. in_range op z ≡ true) same r)

words_range : (op p : Op) (a a' b b' : ℤ) (w : Wanted) (r : Reply) → same_words op a b w p a' b' r ≡ true → in_range op a ≡ true → in_range p a' ≡ true
words_range op p a a' b b' w r h k =
    let three = and_parts (op_eq op p && int_eq a a' && int_eq b b') (is_wanted w r) h in
    let two = and_parts (op_eq op p && int_eq a a') (int_eq b b') three.0 in
    let words = and_parts (op_eq op p) (int_eq a a') two.0 in
    same_range op p a a' words.0 words.1 k

begins_range : (p : Op) (a : ℤ) → op_eq ops.Begin p ≡ true → in_range p a ≡ true
begins_range p a h = subst (λ n. in_range_of n a ≡ true) (eqb-true (op_number ops.Begin) (op_number p) h) refl

chosen : {X : Type 0} (b : Bool) (x y : X) → (if b then Some x else None) ≡ Some y → (b ≡ true) × (x ≡ y)
chosen true x y e = (refl, (let same : x ≡ y = cc in same))
chosen false x y e = cc

same_control : (s : Scene) (c d : Control) → is_control s c ≡ true → control_eq c d ≡ true → is_control s d ≡ true
same_control s (controls.Start t ok) (controls.Start u ok') h k = subst (λ n. (nat_lt 0 n && can_start (slice_get s.threads n)) ≡ true) (eqb-true t.0 u.0 (and_parts (t.0 == u.0) _ k).0) h
same_control s (controls.Launch t ok) (controls.Launch u ok') h k = subst (λ n. can_launch (slice_get s.threads n) ≡ true) (eqb-true t.0 u.0 (and_parts (t.0 == u.0) _ k).0) h
same_control s (controls.Join t) (controls.Join u) h k = subst (λ n. (nat_lt 0 n && can_start (slice_get s.threads n)) ≡ true) (eqb-true t.0 u.0 k) h
same_control s _ _ h k = cc k

apt_fit : (s : Scene) (f : Form) (x : Item) (r : Reply) → apt_form s f ≡ true → fits s f x ≡ Some r → apt_item s x ≡ true
apt_fit s (Change o op a b w) (items.Change q p e) r h k = words_range op e.op a e.a b e.b w e.reply (and_parts (o.0 == q.0) (same_words op a b w e.op e.a e.b e.reply) (chosen _ e.reply r k).0).1 h
apt_fit s (Look o op a b w) (items.Look q l) r h k = words_range op l.op a l.a b l.b w l.reply (and_parts (o.0 == q.0) (same_words op a b w l.op l.a l.b l.reply) (chosen _ l.reply r k).0).1 h
apt_fit s (Begin o) (items.Change q p e) r h k =
    let both_ = and_parts ((o.0 == q.0) && same_words ops.Begin e.a (pos 0) (Just replies.Ok) e.op e.a e.b e.reply) (is_registered_on s o e.a) (chosen _ (replies.Number e.a) r k).0 in
    let words = and_parts (o.0 == q.0) (same_words ops.Begin e.a (pos 0) (Just replies.Ok) e.op e.a e.b e.reply) both_.0 in
    let three = and_parts (op_eq ops.Begin e.op && int_eq e.a e.a && int_eq (pos 0) e.b) (is_wanted (Just replies.Ok) e.reply) words.1 in
    let two = and_parts (op_eq ops.Begin e.op && int_eq e.a e.a) (int_eq (pos 0) e.b) three.0 in
    begins_range e.op e.a (and_parts (op_eq ops.Begin e.op) (int_eq e.a e.a) two.0).0
apt_fit s (Does c) (items.Control d) r h k = same_control s c d h (chosen (control_eq c d) (control_reply c) r k).0
apt_fit s (SaysForm q) (items.Said v) r h k = let same : q ≡ v = (replies_are_equal q v).0 (chosen (reply_eq q v) q r k).0 in subst (λ z. fine s z ≡ true) same h
apt_fit s _ _ r h k = cc k

fine_control : (s : Scene) (c : Control) → fine s (control_reply c) ≡ true
fine_control s (controls.Start t true) = refl
fine_control s (controls.Start t false) = refl
fine_control s (controls.Launch t true) = refl
fine_control s (controls.Launch t false) = refl
fine_control s (controls.Join t) = refl

-- the word that the form left open names no other thread
fine_fit : (s : Scene) (f : Form) (x : Item) (r : Reply) → apt_form s f ≡ true → tells_fine s x ≡ true → fits s f x ≡ Some r → fine s r ≡ true
fine_fit s (Change o op a b w) (items.Change q p e) r h t k = subst (λ z. fine s z ≡ true) (chosen _ e.reply r k).1 t
fine_fit s (Look o op a b w) (items.Look q l) r h t k = subst (λ z. fine s z ≡ true) (chosen _ l.reply r k).1 t
fine_fit s (Begin o) (items.Change q p e) r h t k = subst (λ z. fine s z ≡ true) (chosen _ (replies.Number e.a) r k).1 refl
fine_fit s (Does c) (items.Control d) r h t k = subst (λ z. fine s z ≡ true) (chosen (control_eq c d) (control_reply c) r k).1 (fine_control s c)
fine_fit s (SaysForm q) (items.Said v) r h t k = subst (λ z. fine s z ≡ true) (chosen (reply_eq q v) q r k).1 h
fine_fit s _ _ r h t k = cc k

reached_apt : (s : Scene) (others : List Alternative) (x : Item) (k : Local) → AllApt s others → reached s others x ≡ Some k → (apt_item s x ≡ true) × (tells_fine s x ≡ true → IsApt s k)
reached_apt s [] x k h e = cc
reached_apt s (a ∷ others) x k (and_more a' rest form next h) e = go (fits s a.form x) refl e (λ w. reached_apt s others x k h w)
  where
    go : (o : Option Reply) → fits s a.form x ≡ o → or_then (option_map a.next o) (reached s others x) ≡ Some k → (reached s others x ≡ Some k → (apt_item s x ≡ true) × (tells_fine s x ≡ true → IsApt s k)) → (apt_item s x ≡ true) × (tells_fine s x ≡ true → IsApt s k)
    go None p w later = later w
    go (Some r) p w later =
        let same : a.next r ≡ k = cc in
        (apt_fit s a.form x r form p, λ told. subst (IsApt s) same (next r (fine_fit s a.form x r form told p)))

apt_due : (s : Scene) (ts : List Task) → Apt s ts → Apt s (due ts)
apt_due s [] h = h
apt_due s (Completes b must ∷ ts) h = h
apt_due s (t ∷ ts) h = h

apt_with_due : (s : Scene) (b : Bool) (l : Local) → IsApt s l → IsApt s (with_due b l)
apt_with_due s true l q = record { agenda = apt_due s l.agenda q.agenda; calls = q.calls }
apt_with_due s false l q = record { agenda = q.agenda; calls = q.calls }

-- an item that the thread may make, and where it stands then
pub apt_after : (s : Scene) (completes : ℕ → ℕ → Bool) (t : ℕ) (l k : Local) (x : Item) → AptScene s → IsApt s l → after_item s completes t l x ≡ Some k → (apt_item s x ≡ true) × (tells_fine s x ≡ true → IsApt s k)
apt_after s completes t l k x scene q h = go (reached s (offered s t l) x) refl h
  where
    go : (o : Option Local) → reached s (offered s t l) x ≡ o → option_map (with_item s (is_due completes x) x) o ≡ Some k → (apt_item s x ≡ true) × (tells_fine s x ≡ true → IsApt s k)
    go None p w = cc
    go (Some m) p w =
        let r = reached_apt s (offered s t l) x m (all_offered s t l l.agenda scene q.agenda q.calls) p in
        let same : with_item s (is_due completes x) x m ≡ k = cc in
        (r.0, λ told. (let went = r.1 told in let kept : IsApt s (record m { memory = remembering s m.memory x }) = record { agenda = went.agenda; calls = went.calls } in subst (IsApt s) same (apt_with_due s (is_due completes x) (record m { memory = remembering s m.memory x }) kept)))

pub apt_at_start : (s : Scene) (t : ℕ) → AptScene s → IsApt s (local_at_start s t)
apt_at_start s t scene = go (slice_get s.threads t) refl
  where
    of_body : IsApt s (start_of_body s t)
    of_body = apt_first s t (record { memory = memory_at_start s t; agenda = []; calls = body_of s t; number = 0 }) scene (scene.calls t)

    go : (o : Option Thread) → slice_get s.threads t ≡ o → IsApt s (local_at_start s t)
    go None e = rw e of_body
    go (Some threads.Plain) e = rw e of_body
    go (Some (threads.Stoppable o)) e = rw e of_body
    go (Some (threads.Launched o)) e = rw e (record { agenda = refl; calls = scene.calls t })
