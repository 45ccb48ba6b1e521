-- What a call makes: the replies without an act, and the acts in their order.
use Rattle.std.specs.Prelude.{ℕ, ◌+◌, ◌*◌, ◌==◌, ◌&&◌, ◌||◌, not, pos, Bool, true, false, List, [], ◌∷◌, ◌++◌, replicate, slice_get, Option, Some, None, is_none, if◌then◌else◌, unwrap_or}
use Rattle.cx_names.specs.declared.ObjectNo.{ObjectNo}
use Rattle.cx_names.specs.declared.CallbackNo.{CallbackNo}
use Rattle.cx_names.specs.declared.Outcome.{Outcome}
use Rattle.cx_names.specs.declared.Outcome.TheVariants as outcomes
use Rattle.cx_names.specs.declared.Reply.{Reply}
use Rattle.cx_names.specs.declared.Reply.TheVariants as replies
use Rattle.cx_names.specs.Replies.{outcome_word, outcome_number}
use Rattle.cx_machine.specs.declared.kind.Op.TheVariants as ops
use Rattle.cx_machine.specs.Words.{when, has}
use Rattle.cx_scene.specs.declared.declared.Object.{Object}
use Rattle.cx_scene.specs.declared.declared.Object.TheVariants as objects
use Rattle.cx_scene.specs.declared.declared.Thread.{Thread}
use Rattle.cx_scene.specs.declared.declared.Thread.TheVariants as threads
use Rattle.cx_scene.specs.declared.declared.Small.{Small}
use Rattle.cx_scene.specs.declared.declared.Small.TheVariants as smalls
use Rattle.cx_scene.specs.declared.declared.Callback.{Callback}
use Rattle.cx_scene.specs.declared.declared.Registration.{Registration}
use Rattle.cx_scene.specs.declared.declared.Registration.TheVariants.{OfCallback}
use Rattle.cx_scene.specs.declared.call.Call.{Call}
use Rattle.cx_scene.specs.declared.call.Call.TheVariants as calls
use Rattle.cx_scene.specs.Scene.{Scene, outcome_of, registration}
use Rattle.cx_items.specs.declared.item.Control.TheVariants as controls
use Rattle.cx_items.specs.declared.form.Wanted.TheVariants.{Just, ANumber, AThread, AnOutcome}
use Rattle.cx_items.specs.declared.form.Form.{Form}
use Rattle.cx_items.specs.declared.form.Form.TheVariants.{Change, Look, Does}
use Rattle.cx_items.specs.declared.form.Forms.{Forms}
use Rattle.cx_items.specs.declared.form.Forms.TheVariants.{One, Two}
use Rattle.cx_items.specs.declared.task.Task.{Task}
use Rattle.cx_items.specs.declared.task.Task.TheVariants.{Makes, Answers, Says, Arrives, ArrivesAndWaits, ArrivesAndDrops, CallsOnce, LocksFrom, TriesAll, Tests, RegistersWait, Requests, Registers, Launches}
use Rattle.cx_items.specs.Form.{change, look}
use Rattle.cx_items.specs.Memory.{Memory, of, owns, has_any, is_joinable}

-- ---- replies without an act

abbrev pub or_else : Option Reply → Option Reply → Option Reply
or_else None r = r
or_else (Some q) r = Some q

abbrev pub has_one : Memory → List ℕ → Bool
has_one m [] = false
has_one m (o ∷ os) = owns m (record { 0 = o }) || has_one m os

-- the registration of a callback among these IDs
abbrev pub is_of : CallbackNo → Option Registration → Bool
is_of k (Some (OfCallback j)) = k.0 == j.0
is_of k _ = false

abbrev pub held_id : Scene → List ℕ → CallbackNo → Option ℕ
held_id s [] k = None
held_id s (id ∷ ids) k = if is_of k (registration s id) then Some id else held_id s ids k

-- of calls on mutexes
abbrev pub lock_refusal : Memory → Call → Option Reply
lock_refusal m (calls.Lock o) = when (has_any m o) replies.ResourceDeadlockWouldOccur
lock_refusal m (calls.LockShared o) = when (has_any m o) replies.ResourceDeadlockWouldOccur
lock_refusal m (calls.TryLock o) = when (has_any m o) replies.ResourceDeadlockWouldOccur
lock_refusal m (calls.TryLockShared o) = when (has_any m o) replies.ResourceDeadlockWouldOccur
lock_refusal m (calls.Unlock o) = when (not (owns m o)) replies.OperationNotPermitted
lock_refusal m (calls.UnlockShared o) = when (not (of m o).reads) replies.OperationNotPermitted
lock_refusal m (calls.Get o i) = when (not (owns m o)) replies.OperationNotPermitted
lock_refusal m (calls.Set o i v) = when (not (owns m o)) replies.OperationNotPermitted
lock_refusal m (calls.Add o i v) = when (not (owns m o)) replies.OperationNotPermitted
lock_refusal m (calls.LockAll os) = when (has_one m os) replies.ResourceDeadlockWouldOccur
lock_refusal m (calls.TryLockAll os) = when (has_one m os) replies.ResourceDeadlockWouldOccur
lock_refusal m (calls.WaitCondition c x) = when (not (owns m x)) replies.OperationNotPermitted
lock_refusal m (calls.WaitPredicate c x p) = when (not (owns m x)) replies.OperationNotPermitted
lock_refusal m (calls.WaitStop c x st p) = when (not (owns m x)) replies.OperationNotPermitted
lock_refusal m _ = None

-- of calls on barriers, stop states and threads
abbrev pub stop_refusal : Scene → Memory → Call → Option Reply
stop_refusal s m (calls.WaitBarrier b) = when (is_none (of m b).arrival) replies.NoToken
stop_refusal s m (calls.RequestStop st) = when ((of m st).sources == 0) replies.NoState
stop_refusal s m (calls.Another st) = when ((of m st).sources == 0) replies.NoState
stop_refusal s m (calls.DropSource st) = when ((of m st).sources == 0) replies.NoState
stop_refusal s m (calls.Deregister k) = when (is_none (held_id s m.held k)) replies.NotHeld
stop_refusal s m (calls.Join t) = or_else (when (t.0 == 0) replies.ResourceDeadlockWouldOccur) (when (not (is_joinable m t)) replies.InvalidArgument)
stop_refusal s m _ = None

-- of a promise that is dropped, or already satisfied
abbrev pub satisfied : Memory → ObjectNo → Reply → Option Reply
satisfied m p r = or_else (when (of m p).is_dropped replies.NoState) (when (of m p).is_set r)

-- of calls on futures and promises
abbrev pub future_refusal : Memory → Call → Option Reply
future_refusal m (calls.SetValue p v) = satisfied m p replies.PromiseAlreadySatisfied
future_refusal m (calls.SetException p e) = satisfied m p replies.PromiseAlreadySatisfied
future_refusal m (calls.Invoke p) = satisfied m p replies.PromiseAlreadySatisfied
future_refusal m (calls.DropPromise p) = satisfied m p replies.Ok
future_refusal m (calls.GetFuture p) = Some (if (of m p).is_retrieved then replies.FutureAlreadyRetrieved else replies.Ok)
future_refusal m (calls.Share p) = Some (if (of m p).is_valid && not (of m p).is_shared then replies.Ok else replies.NoState)
future_refusal m (calls.WaitFuture p) = when (not (of m p).is_valid) replies.NoState
future_refusal m (calls.GetOutcome p) = when (not (of m p).is_valid) replies.NoState
future_refusal m (calls.DropAsync a) = or_else (when (not (of m a).is_valid) replies.NoState) (when (not (of m a).is_launched) replies.Ok)
future_refusal m _ = None

abbrev pub refusal : Scene → Memory → Call → Option Reply
refusal s m c = or_else (lock_refusal m c) (or_else (stop_refusal s m c) (future_refusal m c))

-- ---- the acts

abbrev pub one : Form → Task
one f = Makes (One f)

abbrev pub answer : Form → List Task
answer f = Answers (One f) ∷ []

abbrev pub either : Form → Form → List Task
either f g = Answers (Two f g) ∷ []

abbrev pub number : ℕ → Reply
number n = replies.Number (pos n)

abbrev pub set_form : ObjectNo → Outcome → Form
set_form p o = Change p ops.Set (pos (outcome_word o)) (outcome_number o) (Just replies.Ok)

-- the one act of a callback or a completion
abbrev pub small_forms : Small → Forms
small_forms (smalls.Release q n) = Two (change q ops.Release n replies.Ok) (look q ops.Release n replies.Over)
small_forms (smalls.NotifyOne c) = One (Change c ops.NotifyOne (pos 0) (pos 0) AThread)
small_forms (smalls.NotifyAll c) = One (Change c ops.NotifyAll (pos 0) (pos 0) ANumber)

abbrev pub unblocks : Scene → ObjectNo → Forms
unblocks s c = One (change c ops.Unblock 0 replies.Ok)

-- the four acts of a wait
abbrev pub waits : Scene → ObjectNo → ObjectNo → List Task
waits s c m = one (change c ops.Enter 0 replies.Ok) ∷ one (change m ops.Unlock 0 replies.Ok) ∷ Makes (unblocks s c) ∷ one (change m ops.Lock 0 replies.Ok) ∷ []

abbrev pub function_outcome : Option Object → Outcome
function_outcome (Some (objects.Task owner reader f)) = outcome_of f
function_outcome (Some (objects.Async policy f thread)) = outcome_of f
function_outcome _ = outcomes.Broken

-- a look at an outcome, after the deferred function where it hasn't run
abbrev pub readies : Scene → Memory → ObjectNo → (Form → List Task) → List Task
readies s m p looks_at =
    let o = function_outcome (slice_get s.objects p.0) in
    if (of m p).is_unrun
    then one (change p ops.Run 0 replies.Ok) ∷ one (set_form p o) ∷ looks_at (look p ops.Ready 0 (replies.Outcome o))
    else looks_at (Look p ops.Ready (pos 0) (pos 0) AnOutcome)

-- a look that a wait answers with ok, or whose reply is the call's
abbrev pub looks : Bool → Form → List Task
looks true f = one f ∷ Says replies.Ok ∷ []
looks false f = answer f

abbrev pub launches : ObjectNo → Option Object → List Task
launches a (Some (objects.Async policy f t)) = Launches a t policy ∷ []
launches a _ = []

abbrev pub registers : Scene → ℕ → CallbackNo → Option Callback → List Task
registers s id k (Some c) = Registers c.stop id ∷ []
registers s id k None = []

abbrev pub deregisters : Option Callback → Option ℕ → List Task
deregisters (Some c) (Some id) = either (change c.stop ops.Deregister id replies.Removed) (change c.stop ops.Deregister id replies.Ran)
deregisters _ _ = []

-- the number of the registering thread times 4,096 plus the number of its call
abbrev pub id_of : ℕ → ℕ → ℕ
id_of t n = t * 4096 + n

-- the acts and the reply of a call on a mutex
abbrev pub lock_tasks : Call → List Task
lock_tasks (calls.Lock o) = answer (change o ops.Lock 0 replies.Ok)
lock_tasks (calls.LockRecursive o) = either (change o ops.Lock 0 replies.Ok) (look o ops.Lock 0 replies.MaxLevels)
lock_tasks (calls.LockShared o) = answer (change o ops.LockShared 0 replies.Ok)
lock_tasks (calls.TryLock o) = either (change o ops.TryLock 0 replies.True) (look o ops.TryLock 0 replies.False)
lock_tasks (calls.TryLockRecursive o) = either (change o ops.TryLock 0 replies.True) (look o ops.TryLock 0 replies.False)
lock_tasks (calls.TryLockShared o) = either (change o ops.TryLockShared 0 replies.True) (look o ops.TryLockShared 0 replies.False)
lock_tasks (calls.Unlock o) = answer (change o ops.Unlock 0 replies.Ok)
lock_tasks (calls.UnlockShared o) = answer (change o ops.UnlockShared 0 replies.Ok)
lock_tasks (calls.Get o i) = answer (Look o ops.Get (pos i) (pos 0) ANumber)
lock_tasks (calls.Set o i v) = answer (Change o ops.Set (pos i) v (Just replies.Ok))
lock_tasks (calls.Add o i v) = either (Change o ops.Add (pos i) v ANumber) (Look o ops.Add (pos i) v (Just replies.Overflow))
lock_tasks (calls.LockAll os) = LocksFrom os ∷ []
lock_tasks (calls.TryLockAll os) = TriesAll os 0 ∷ []
lock_tasks _ = []

-- of a call on a semaphore, a latch, a barrier or a once flag
abbrev pub count_tasks : Memory → Call → List Task
count_tasks m (calls.Release q c) = either (change q ops.Release c replies.Ok) (look q ops.Release c replies.Over)
count_tasks m (calls.Acquire q) = answer (change q ops.Acquire 0 replies.Ok)
count_tasks m (calls.TryAcquire q) = either (change q ops.TryAcquire 0 replies.True) (look q ops.TryAcquire 0 replies.False)
count_tasks m (calls.CountDown l c) = answer (change l ops.CountDown c replies.Ok)
count_tasks m (calls.WaitLatch l) = answer (look l ops.Wait 0 replies.Ok)
count_tasks m (calls.TryWait l) = either (look l ops.TryWait 0 replies.True) (look l ops.TryWait 0 replies.False)
count_tasks m (calls.ArriveAndWaitLatch l) = one (change l ops.CountDown 1 replies.Ok) ∷ answer (look l ops.Wait 0 replies.Ok)
count_tasks m (calls.Arrive b c) = Arrives b c ∷ []
count_tasks m (calls.WaitBarrier b) = answer (Look b ops.Wait (unwrap_or (of m b).arrival (pos 0)) (pos 0) (Just replies.Ok))
count_tasks m (calls.ArriveAndWait b) = ArrivesAndWaits b ∷ []
count_tasks m (calls.ArriveAndDrop b) = ArrivesAndDrops b ∷ []
count_tasks m (calls.CallOnceReturn o) = CallsOnce o (change o ops.Finish 0 replies.Ok) replies.Returned ∷ []
count_tasks m (calls.CallOnceThrow o e) = CallsOnce o (change o ops.Fail e replies.Ok) (replies.Threw e) ∷ []
count_tasks m _ = []

-- of a call on a condition or a stop state, which is call n of thread t
abbrev pub stop_tasks : Scene → ℕ → ℕ → Memory → Call → List Task
stop_tasks s t n m (calls.WaitCondition c x) = waits s c x ++ Says replies.Ok ∷ []
stop_tasks s t n m (calls.WaitPredicate c x p) = Tests c x p ∷ []
stop_tasks s t n m (calls.WaitStop c x st p) = RegistersWait (record { condition = c; mutex = x; stop = st; test = p; id = id_of t n; queued = false }) ∷ []
stop_tasks s t n m (calls.NotifyOne c) = answer (Change c ops.NotifyOne (pos 0) (pos 0) AThread)
stop_tasks s t n m (calls.NotifyAll c) = answer (Change c ops.NotifyAll (pos 0) (pos 0) ANumber)
stop_tasks s t n m (calls.RequestStop st) = Requests st true ∷ []
stop_tasks s t n m (calls.StopRequested st) = either (look st ops.StopRequested 0 replies.True) (look st ops.StopRequested 0 replies.False)
stop_tasks s t n m (calls.StopPossible st) = either (look st ops.StopPossible 0 replies.True) (look st ops.StopPossible 0 replies.False)
stop_tasks s t n m (calls.Another st) = answer (change st ops.Another 0 replies.Ok)
stop_tasks s t n m (calls.DropSource st) = answer (change st ops.Drop 0 replies.Ok)
stop_tasks s t n m (calls.Register k) = registers s (id_of t n) k (slice_get s.callbacks k.0)
stop_tasks s t n m (calls.Deregister k) = deregisters (slice_get s.callbacks k.0) (held_id s m.held k)
stop_tasks s t n m _ = []

-- of a call on a future, a promise or a thread
abbrev pub future_tasks : Scene → Memory → Call → List Task
future_tasks s m (calls.SetValue p v) = answer (set_form p (outcomes.Value v))
future_tasks s m (calls.SetException p e) = answer (set_form p (outcomes.Exception e))
future_tasks s m (calls.Invoke p) = answer (set_form p (function_outcome (slice_get s.objects p.0)))
future_tasks s m (calls.DropPromise p) = answer (set_form p outcomes.Broken)
future_tasks s m (calls.WaitFuture p) = readies s m p (looks true)
future_tasks s m (calls.GetOutcome p) = readies s m p (looks false)
future_tasks s m (calls.DropAsync a) = looks true (Look a ops.Ready (pos 0) (pos 0) AnOutcome)
future_tasks s m (calls.Start u) = either (Does (controls.Start u true)) (Does (controls.Start u false))
future_tasks s m (calls.Join u) = answer (Does (controls.Join u))
future_tasks s m (calls.Launch a) = launches a (slice_get s.objects a.0)
future_tasks s m _ = []

-- the acts and the reply of call n of thread t: only one of the four is not empty
abbrev pub tasks : Scene → ℕ → ℕ → Memory → Call → List Task
tasks s t n m c = lock_tasks c ++ (count_tasks m c ++ (stop_tasks s t n m c ++ future_tasks s m c))

-- a call at its beginning
abbrev pub opened : Scene → ℕ → ℕ → Memory → Call → List Task
opened s t n m c = agenda (refusal s m c)
  where
    agenda : Option Reply → List Task
    agenda (Some r) = Says r ∷ []
    agenda None = tasks s t n m c

-- ---- the end of a body

-- for the objects in their order, of which the first has number i
abbrev pub each_object : (ObjectNo → Object → List Task) → ℕ → List Object → List Task
each_object f i [] = []
each_object f i (d ∷ ds) = f (record { 0 = i }) d ++ each_object f (i + 1) ds

-- for the threads, the last first
abbrev pub each_thread : (ℕ → Thread → List Task) → ℕ → List Thread → List Task
each_thread f i [] = []
each_thread f i (u ∷ us) = each_thread f (i + 1) us ++ f i u

abbrev pub unlock : ObjectNo → Task
unlock o = one (change o ops.Unlock 0 replies.Ok)

abbrev pub unshares : Memory → ObjectNo → List Task
unshares m o = if (of m o).reads then one (change o ops.UnlockShared 0 replies.Ok) ∷ [] else []

-- an unlock for each level, and one for sharing
abbrev pub gives_up : Memory → ObjectNo → Object → List Task
gives_up m o d = replicate (of m o).levels (unlock o) ++ unshares m o

abbrev pub owner_of : Object → Option ℕ
owner_of (objects.Promise owner reader) = Some owner.0
owner_of (objects.SharedPromise owner readers) = Some owner.0
owner_of (objects.Task owner reader function) = Some owner.0
owner_of _ = None

abbrev pub is_number_of : ℕ → Option ℕ → Bool
is_number_of t None = false
is_number_of t (Some u) = t == u

abbrev pub breaks : ℕ → Memory → ObjectNo → Object → List Task
breaks t m o d = if is_number_of t (owner_of d) && not (of m o).is_set && not (of m o).is_dropped then one (set_form o outcomes.Broken) ∷ [] else []

abbrev pub awaits : Memory → ObjectNo → Object → List Task
awaits m o d = if (of m o).is_launched && (of m o).is_valid then one (Look o ops.Ready (pos 0) (pos 0) AnOutcome) ∷ [] else []

-- main stops and joins a jthread that it has started and not joined
abbrev pub stops : Memory → ℕ → Thread → List Task
stops m u (threads.Stoppable st) = if has m.joinable u then Requests st false ∷ one (Does (controls.Join (record { 0 = u }))) ∷ [] else []
stops m u _ = []

abbrev pub end_of_main : Scene → Memory → List Task
end_of_main s m = each_object (awaits m) 0 s.objects ++ each_thread (stops m) 0 s.threads

abbrev pub end_tasks : Scene → ℕ → Memory → List Task
end_tasks s t m = each_object (gives_up m) 0 s.objects ++ (each_object (breaks t m) 0 s.objects ++ (if t == 0 then end_of_main s m else []))
