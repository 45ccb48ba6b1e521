-- A thread whose calls start nobody makes no item that does.
use Rattle.std.proofs.Common.{◌≡◌, ◌<◌, ℕ, zero, suc, ◌+◌, ◌==◌, ◌&&◌, ◌||◌, not, ℤ, pos, negsuc, Bool, true, false, List, [], ◌∷◌, ◌++◌, map, length, reverse, take, drop, replicate, Option, Some, None, option_map, slice_get, if◌then◌else◌, refl, subst}
use Rattle.std.specs.List.{list_all, list_any}
use Rattle.std.proofs.lemmas.List.Folds.{list_all-append}
use Rattle.cx_names.specs.declared.Reply.{Reply}
use Rattle.cx_names.specs.declared.Reply.TheVariants as replies
use Rattle.cx_names.specs.declared.ObjectNo.{ObjectNo}
use Rattle.cx_names.specs.declared.CallbackNo.{CallbackNo}
use Rattle.cx_machine.specs.declared.kind.Op.TheVariants as ops
use Rattle.cx_machine.specs.Words.{has}
use Rattle.cx_names.specs.declared.Outcome.TheVariants as outcomes
use Rattle.cx_scene.specs.declared.declared.Object.{Object}
use Rattle.cx_scene.specs.declared.declared.Object.TheVariants as objects
use Rattle.cx_scene.specs.declared.declared.Thread.{Thread}
use Rattle.cx_scene.specs.declared.declared.Thread.TheVariants as threads
use Rattle.cx_scene.specs.declared.declared.Small.TheVariants as smalls
use Rattle.cx_scene.specs.declared.declared.Callback.{Callback}
use Rattle.cx_scene.specs.declared.declared.Action.{Action}
use Rattle.cx_scene.specs.declared.declared.Action.TheVariants as actions
use Rattle.cx_scene.specs.declared.call.Call.{Call}
use Rattle.cx_scene.specs.declared.call.Call.TheVariants as calls
use Rattle.cx_scene.specs.declared.call.Predicate.{Predicate}
use Rattle.cx_scene.specs.declared.declared.Registration.{Registration}
use Rattle.cx_scene.specs.declared.declared.Registration.TheVariants.{OfCallback, OfWait}
use Rattle.cx_scene.specs.Scene.{Scene, registration, body_of}
use Rattle.cx_items.specs.declared.item.Control.{Control}
use Rattle.cx_items.specs.declared.item.Control.TheVariants as controls
use Rattle.cx_items.specs.declared.item.Item.{Item}
use Rattle.cx_items.specs.declared.item.Item.TheVariants as items
use Rattle.cx_items.specs.declared.form.Wanted.TheVariants.{Just, AnOutcome}
use Rattle.cx_items.specs.declared.form.Form.{Form}
use Rattle.cx_items.specs.declared.form.Form.TheVariants.{Change, Look, Begin, Does, Says as SaysForm}
use Rattle.cx_items.specs.declared.task.StopWait.{StopWait}
use Rattle.cx_items.specs.declared.task.Task.{Task}
use Rattle.cx_items.specs.declared.task.Task.TheVariants.{Makes, Answers, Says, Arrives, ArrivesAndWaits, ArrivesAndDrops, Completes, CallsOnce, LocksFrom, LocksRest, TriesAll, Tests, RegistersWait, AsksStop, TestsStop, TestsLast, AsksAgain, Requests, Drains, Registers, Launches}
use Rattle.cx_items.specs.declared.form.Forms.{Forms}
use Rattle.cx_items.specs.declared.form.Forms.TheVariants.{Two}
use Rattle.cx_items.specs.Form.{forms_in, or_first, change, fits, control_eq, control_reply}
use Rattle.cx_items.specs.Memory.{Memory, of, memory_at_start, remembering}
use Rattle.cx_items.specs.Calls.{one, unblocks, waits, readies, looks, registers, deregisters, held_id, id_of, refusal, tasks, opened, each_object, each_thread, gives_up, breaks, is_number_of, owner_of, awaits, stops, end_of_main, end_tasks, set_form}
use Rattle.cx_items.specs.Next.{Local, Alternative, goes, to, says, has_turns, turned, next_tasks, next_call, past, replied, action_tasks, declared_tasks, registered_tasks, callback_tasks, begun, passes, end_of_wait, ends, enters, wake_tasks, wakes, unlocks, backs_off, completion, number_of, alternatives, offered_by, offered, or_then, reached, due, with_due, with_item, is_due, after_item, start_of_body, local_at_start}
use Rattle.cx_replay.specs.Starting.{starts_a_thread, OnlyMainStarts}

-- ---- what starts nobody

abbrev pub quiet_control : Control → Bool
quiet_control (controls.Start u ok) = false
quiet_control (controls.Launch u ok) = false
quiet_control (controls.Join u) = true

abbrev pub quiet_item : Item → Bool
quiet_item (items.Control c) = quiet_control c
quiet_item _ = true

abbrev pub quiet_form : Form → Bool
quiet_form (Does c) = quiet_control c
quiet_form _ = true

abbrev pub quiet_task : Task → Bool
quiet_task (Makes fs) = list_all quiet_form (forms_in fs)
quiet_task (Answers fs) = list_all quiet_form (forms_in fs)
quiet_task (CallsOnce o f r) = quiet_form f
quiet_task (Launches a u p) = false
quiet_task _ = true

abbrev Quiet : List Task → Type 0
Quiet ts = list_all quiet_task ts ≡ true

pub record IsQuiet (l : Local) : Type 0 where
  pub agenda : list_all quiet_task l.agenda ≡ true
  pub calls : list_any starts_a_thread l.calls ≡ false

both : (a b : Bool) → (a && b) ≡ true → (a ≡ true) × (b ≡ true)
both true b h = (refl, h)
both false b h = cc

neither : (a b : Bool) → (a || b) ≡ false → (a ≡ false) × (b ≡ false)
neither true b h = cc
neither false b h = (refl, h)

quiet-append : (ts us : List Task) → Quiet ts → Quiet us → Quiet (ts ++ us)
quiet-append ts us h k = rw (list_all-append quiet_task ts us, h, k) refl

quiet-if : (b : Bool) (ts us : List Task) → Quiet ts → Quiet us → Quiet (if b then ts else us)
quiet-if true ts us h k = h
quiet-if false ts us h k = k

quiet-replicate : (n : ℕ) (t : Task) → quiet_task t ≡ true → Quiet (replicate n t)
quiet-replicate zero t h = refl
quiet-replicate (suc n) t h = rw (h, quiet-replicate n t h) refl

quiet-unlocks : (os : List ℕ) → Quiet (unlocks os)
quiet-unlocks [] = refl
quiet-unlocks (o ∷ os) = quiet-unlocks os

-- ---- calls

quiet_registers : (s : Scene) (id : ℕ) (k : CallbackNo) (c : Option Callback) → Quiet (registers s id k c)
quiet_registers s id k None = refl
quiet_registers s id k (Some c) = refl

quiet_deregisters : (c : Option Callback) (id : Option ℕ) → Quiet (deregisters c id)
quiet_deregisters None id = refl
quiet_deregisters (Some c) None = refl
quiet_deregisters (Some c) (Some id) = refl

quiet_readies : (s : Scene) (m : Memory) (p : ObjectNo) (then_ : Form → List Task) → ((f : Form) → quiet_form f ≡ true → Quiet (then_ f)) → (b : Bool) → (of m p).is_unrun ≡ b → Quiet (readies s m p then_)
quiet_readies s m p then_ h true e = rw e (h _ refl)
quiet_readies s m p then_ h false e = rw e (h _ refl)

quiet_tasks : (s : Scene) (t n : ℕ) (m : Memory) (c : Call) → starts_a_thread c ≡ false → Quiet (tasks s t n m c)
quiet_tasks s t n m (calls.Lock o) h = refl
quiet_tasks s t n m (calls.LockRecursive o) h = refl
quiet_tasks s t n m (calls.LockShared o) h = refl
quiet_tasks s t n m (calls.TryLock o) h = refl
quiet_tasks s t n m (calls.TryLockRecursive o) h = refl
quiet_tasks s t n m (calls.TryLockShared o) h = refl
quiet_tasks s t n m (calls.Unlock o) h = refl
quiet_tasks s t n m (calls.UnlockShared o) h = refl
quiet_tasks s t n m (calls.Get o i) h = refl
quiet_tasks s t n m (calls.Set o i v) h = refl
quiet_tasks s t n m (calls.Add o i v) h = refl
quiet_tasks s t n m (calls.LockAll os) h = refl
quiet_tasks s t n m (calls.TryLockAll os) h = refl
quiet_tasks s t n m (calls.Release q c) h = refl
quiet_tasks s t n m (calls.Acquire q) h = refl
quiet_tasks s t n m (calls.TryAcquire q) h = refl
quiet_tasks s t n m (calls.CountDown l c) h = refl
quiet_tasks s t n m (calls.WaitLatch l) h = refl
quiet_tasks s t n m (calls.TryWait l) h = refl
quiet_tasks s t n m (calls.ArriveAndWaitLatch l) h = refl
quiet_tasks s t n m (calls.Arrive b c) h = refl
quiet_tasks s t n m (calls.WaitBarrier b) h = refl
quiet_tasks s t n m (calls.ArriveAndWait b) h = refl
quiet_tasks s t n m (calls.ArriveAndDrop b) h = refl
quiet_tasks s t n m (calls.CallOnceReturn o) h = refl
quiet_tasks s t n m (calls.CallOnceThrow o e) h = refl
quiet_tasks s t n m (calls.WaitCondition c x) h = refl
quiet_tasks s t n m (calls.WaitPredicate c x p) h = refl
quiet_tasks s t n m (calls.WaitStop c x st p) h = refl
quiet_tasks s t n m (calls.NotifyOne c) h = refl
quiet_tasks s t n m (calls.NotifyAll c) h = refl
quiet_tasks s t n m (calls.RequestStop st) h = refl
quiet_tasks s t n m (calls.StopRequested st) h = refl
quiet_tasks s t n m (calls.StopPossible st) h = refl
quiet_tasks s t n m (calls.Another st) h = refl
quiet_tasks s t n m (calls.DropSource st) h = refl
quiet_tasks s t n m (calls.Register k) h = quiet-append (registers s (id_of t n) k (slice_get s.callbacks k.0)) [] (quiet_registers s (id_of t n) k (slice_get s.callbacks k.0)) refl
quiet_tasks s t n m (calls.Deregister k) h = quiet-append (deregisters (slice_get s.callbacks k.0) (held_id s m.held k)) [] (quiet_deregisters (slice_get s.callbacks k.0) (held_id s m.held k)) refl
quiet_tasks s t n m (calls.SetValue p v) h = refl
quiet_tasks s t n m (calls.SetException p e) h = refl
quiet_tasks s t n m (calls.Invoke p) h = refl
quiet_tasks s t n m (calls.DropPromise p) h = refl
quiet_tasks s t n m (calls.GetFuture p) h = refl
quiet_tasks s t n m (calls.Share p) h = refl
quiet_tasks s t n m (calls.WaitFuture p) h = quiet_readies s m p (looks true) (λ f h. rw h refl) (of m p).is_unrun refl
quiet_tasks s t n m (calls.GetOutcome p) h = quiet_readies s m p (looks false) (λ f h. rw h refl) (of m p).is_unrun refl
quiet_tasks s t n m (calls.DropAsync a) h = refl
quiet_tasks s t n m (calls.Start u) h = cc
quiet_tasks s t n m (calls.Join u) h = refl
quiet_tasks s t n m (calls.Launch a) h = cc

quiet_opened : (s : Scene) (t n : ℕ) (m : Memory) (c : Call) → starts_a_thread c ≡ false → Quiet (opened s t n m c)
quiet_opened s t n m c h = go (refusal s m c) refl
  where
    go : (o : Option Reply) → refusal s m c ≡ o → Quiet (opened s t n m c)
    go None e = rw e (quiet_tasks s t n m c h)
    go (Some r) e = rw e refl

-- ---- ends of bodies

quiet_gives_up : (m : Memory) (o : ObjectNo) (d : Object) → Quiet (gives_up m o d)
quiet_gives_up m o d = quiet-append (replicate (of m o).levels (one (change o ops.Unlock 0 replies.Ok))) (if (of m o).reads then one (change o ops.UnlockShared 0 replies.Ok) ∷ [] else []) (quiet-replicate (of m o).levels (one (change o ops.Unlock 0 replies.Ok)) refl) (quiet-if (of m o).reads (one (change o ops.UnlockShared 0 replies.Ok) ∷ []) [] refl refl)

quiet_breaks : (t : ℕ) (m : Memory) (o : ObjectNo) (d : Object) → Quiet (breaks t m o d)
quiet_breaks t m o d = quiet-if (is_number_of t (owner_of d) && not (of m o).is_set && not (of m o).is_dropped) (one (set_form o outcomes.Broken) ∷ []) [] refl refl

quiet_awaits : (m : Memory) (o : ObjectNo) (d : Object) → Quiet (awaits m o d)
quiet_awaits m o d = quiet-if ((of m o).is_launched && (of m o).is_valid) (one (Look o ops.Ready (pos 0) (pos 0) AnOutcome) ∷ []) [] refl refl

quiet_stops : (m : Memory) (u : ℕ) (d : Thread) → Quiet (stops m u d)
quiet_stops m u threads.Plain = refl
quiet_stops m u (threads.Stoppable st) = quiet-if (has m.joinable u) (Requests st false ∷ one (Does (controls.Join (record { 0 = u }))) ∷ []) [] refl refl
quiet_stops m u (threads.Launched o) = refl

quiet_objects : (f : ObjectNo → Object → List Task) → ((o : ObjectNo) (d : Object) → Quiet (f o d)) → (i : ℕ) (ds : List Object) → Quiet (each_object f i ds)
quiet_objects f h i [] = refl
quiet_objects f h i (d ∷ ds) = quiet-append (f (record { 0 = i }) d) (each_object f (i + 1) ds) (h (record { 0 = i }) d) (quiet_objects f h (i + 1) ds)

quiet_threads : (f : ℕ → Thread → List Task) → ((u : ℕ) (d : Thread) → Quiet (f u d)) → (i : ℕ) (us : List Thread) → Quiet (each_thread f i us)
quiet_threads f h i [] = refl
quiet_threads f h i (u ∷ us) = quiet-append (each_thread f (i + 1) us) (f i u) (quiet_threads f h (i + 1) us) (h i u)

quiet_end : (s : Scene) (t : ℕ) (m : Memory) → Quiet (end_tasks s t m)
quiet_end s t m =
    let waited = quiet_objects (awaits m) (quiet_awaits m) 0 s.objects in
    let stopped = quiet_threads (stops m) (quiet_stops m) 0 s.threads in
    let main = quiet-if (t == 0) (end_of_main s m) [] (quiet-append (each_object (awaits m) 0 s.objects) (each_thread (stops m) 0 s.threads) waited stopped) refl in
    let broken = quiet-append (each_object (breaks t m) 0 s.objects) (if t == 0 then end_of_main s m else []) (quiet_objects (breaks t m) (quiet_breaks t m) 0 s.objects) main in
    quiet-append (each_object (gives_up m) 0 s.objects) (each_object (breaks t m) 0 s.objects ++ (if t == 0 then end_of_main s m else [])) (quiet_objects (gives_up m) (quiet_gives_up m) 0 s.objects) broken

-- ---- what the next item may be

quiet-goes : (l : Local) (ts : List Task) → Quiet ts → IsQuiet l → IsQuiet (goes l ts)
quiet-goes l ts h q = record { agenda = quiet-append ts l.agenda h q.agenda; calls = q.calls }

quiet-turned : (l : Local) → IsQuiet l → IsQuiet (turned l)
quiet-turned l q = record { agenda = q.agenda; calls = q.calls }

quiet_first : (s : Scene) (t : ℕ) (l : Local) → list_any starts_a_thread l.calls ≡ false → IsQuiet (next_call s t l)
quiet_first s t l h = record { agenda = go l.calls h; calls = h }
  where
    go : (cs : List Call) → list_any starts_a_thread cs ≡ false → Quiet (next_tasks s t l cs)
    go [] k = quiet_end s t l.memory
    go (c ∷ cs) k = quiet_opened s t l.number l.memory c (neither (starts_a_thread c) (list_any starts_a_thread cs) k).0

quiet_replied : (s : Scene) (t : ℕ) (l : Local) (r : Reply) → IsQuiet l → IsQuiet (replied s t l r)
quiet_replied s t l r q = go l.calls q.calls
  where
    go : (cs : List Call) → list_any starts_a_thread cs ≡ false → IsQuiet (next_call s t (past l r cs))
    go [] k = quiet_first s t l q.calls
    go (c ∷ cs) k = quiet_first s t (past l r (c ∷ cs)) (neither (starts_a_thread c) (list_any starts_a_thread cs) k).1

quiet_action : (m : Memory) (id : ℕ) (st : ObjectNo) (a : Action) → Quiet (action_tasks m id st a)
quiet_action m id st (actions.Small (smalls.Release q n)) = refl
quiet_action m id st (actions.Small (smalls.NotifyOne q)) = refl
quiet_action m id st (actions.Small (smalls.NotifyAll q)) = refl
quiet_action m id st actions.Deregister = quiet-if (has m.held id) (one (change st ops.Deregister id replies.Inside) ∷ []) [] refl refl

quiet_declared : (m : Memory) (id : ℕ) (c : Option Callback) → Quiet (declared_tasks m id c)
quiet_declared m id None = refl
quiet_declared m id (Some c) = quiet_action m id c.stop c.action

quiet_registered : (s : Scene) (m : Memory) (id : ℕ) (r : Option Registration) → Quiet (registered_tasks s m id r)
quiet_registered s m id None = refl
quiet_registered s m id (Some (OfWait c st)) = refl
quiet_registered s m id (Some (OfCallback k)) = quiet_declared m id (slice_get s.callbacks k.0)

quiet_callback : (s : Scene) (m : Memory) (id : ℤ) → Quiet (callback_tasks s m id)
quiet_callback s m (negsuc n) = refl
quiet_callback s m (pos id) = quiet_registered s m id (registration s id)

-- each of these starts nobody, whatever is replied
data AllFine : List Alternative → Type 0 where
  no_more : AllFine []
  and_more : (a : Alternative) (rest : List Alternative) → quiet_form a.form ≡ true → ((r : Reply) → IsQuiet (a.next r)) → AllFine rest → AllFine (a ∷ rest)

fine-append : (a b : List Alternative) → AllFine a → AllFine b → AllFine (a ++ b)
fine-append [] b no_more k = k
fine-append (x ∷ xs) b (and_more x' xs' form next h) k = and_more x (xs ++ b) form next (fine-append xs b h k)

fine_makes : (l : Local) (fs : List Form) → IsQuiet l → list_all quiet_form fs ≡ true → AllFine (map (λ f. to f l) fs)
fine_makes l [] q h = no_more
fine_makes l (f ∷ fs) q h = let p = both (quiet_form f) (list_all quiet_form fs) h in and_more (to f l) (map (λ f. to f l) fs) p.0 (λ r. q) (fine_makes l fs q p.1)

fine_answers : (l : Local) (fs : List Form) → IsQuiet l → list_all quiet_form fs ≡ true → AllFine (map (λ f. record { form = f; next = says l }) fs)
fine_answers l [] q h = no_more
fine_answers l (f ∷ fs) q h = let p = both (quiet_form f) (list_all quiet_form fs) h in and_more (record { form = f; next = says l }) (map (λ f. record { form = f; next = says l }) fs) p.0 (λ r. quiet-goes l (Says r ∷ []) refl q) (fine_answers l fs q p.1)

-- one or more of them
fine_one : (a : Alternative) → quiet_form a.form ≡ true → ((r : Reply) → IsQuiet (a.next r)) → AllFine (a ∷ [])
fine_one a h next = and_more a [] h next no_more

fine_two : (a b : Alternative) → quiet_form a.form ≡ true → ((r : Reply) → IsQuiet (a.next r)) → quiet_form b.form ≡ true → ((r : Reply) → IsQuiet (b.next r)) → AllFine (a ∷ b ∷ [])
fine_two a b h next k after = and_more a (b ∷ []) h next (fine_one b k after)

fine_three : (a b c : Alternative) → quiet_form a.form ≡ true → ((r : Reply) → IsQuiet (a.next r)) → quiet_form b.form ≡ true → ((r : Reply) → IsQuiet (b.next r)) → quiet_form c.form ≡ true → ((r : Reply) → IsQuiet (c.next r)) → AllFine (a ∷ b ∷ c ∷ [])
fine_three a b c h next k after m last = and_more a (b ∷ c ∷ []) h next (fine_two b c k after m last)

quiet-either : (b : Bool) (k l : Local) → IsQuiet k → IsQuiet l → IsQuiet (if b then k else l)
quiet-either true k l p q = p
quiet-either false k l p q = q

fine_completion : (l : Local) (b : ObjectNo) (d : Option Object) → IsQuiet l → AllFine (completion l b d)
fine_completion l b (Some (objects.Barrier count (Some (smalls.Release q n)))) h = fine_two _ _ refl (λ r. quiet-goes l (one (change b ops.Complete 0 replies.Ok) ∷ []) refl h) refl (λ r. quiet-goes l (one (change b ops.Complete 0 replies.Ok) ∷ []) refl h)
fine_completion l b (Some (objects.Barrier count (Some (smalls.NotifyOne q)))) h = fine_one _ refl (λ r. quiet-goes l (one (change b ops.Complete 0 replies.Ok) ∷ []) refl h)
fine_completion l b (Some (objects.Barrier count (Some (smalls.NotifyAll q)))) h = fine_one _ refl (λ r. quiet-goes l (one (change b ops.Complete 0 replies.Ok) ∷ []) refl h)
fine_completion l b _ h = fine_one _ refl (λ r. h)

quiet_backs_off : (l : Local) (os : List ℕ) (k : ℕ) → IsQuiet l → IsQuiet (backs_off l os k)
quiet_backs_off l os k q =
    let undone = quiet-unlocks (reverse (take k os)) in
    quiet-either (has_turns l) (goes (turned l) (unlocks (reverse (take k os)) ++ LocksFrom (drop k os ++ take k os) ∷ [])) (goes l (unlocks (reverse (take k os)) ++ Says replies.Spent ∷ []))
    (quiet-goes (turned l) _ (quiet-append (unlocks (reverse (take k os))) (LocksFrom (drop k os ++ take k os) ∷ []) undone refl) (quiet-turned l q))
    (quiet-goes l _ (quiet-append (unlocks (reverse (take k os))) (Says replies.Spent ∷ []) undone refl) q)

quiet_begun : (s : Scene) (l : Local) (st : ObjectNo) (aloud : Bool) (r : Reply) → IsQuiet l → IsQuiet (begun s l st aloud r)
quiet_begun s l st aloud (replies.Number id) q = quiet-goes l (callback_tasks s l.memory id ++ one (Change st ops.Finish id (pos 0) (Just replies.Ok)) ∷ Drains st aloud ∷ []) (quiet-append (callback_tasks s l.memory id) (one (Change st ops.Finish id (pos 0) (Just replies.Ok)) ∷ Drains st aloud ∷ []) (quiet_callback s l.memory id) refl) q
quiet_begun s l st aloud _ q = q

quiet_ends : (l : Local) (w : StopWait) (r : Reply) → IsQuiet l → IsQuiet (ends l w r)
quiet_ends l w r q =
    let off : List Task = Makes (Two (change w.stop ops.Deregister w.id replies.Removed) (change w.stop ops.Deregister w.id replies.Ran)) ∷ [] in
    quiet-goes l (end_of_wait w r) (quiet-append (if w.queued then off else []) (Says r ∷ []) (quiet-if w.queued off [] refl refl) refl) q

quiet_enters : (l : Local) (w : StopWait) → IsQuiet l → IsQuiet (enters l w)
quiet_enters l w q = quiet-goes l (one (change w.condition ops.Enter 0 replies.Ok) ∷ one (change w.mutex ops.Unlock 0 replies.Ok) ∷ AsksAgain w ∷ []) refl q

quiet_wakes : (l : Local) (w : StopWait) (fs : Forms) → list_all quiet_form (forms_in fs) ≡ true → IsQuiet l → IsQuiet (wakes l w fs)
quiet_wakes l w fs h q = quiet-goes l (wake_tasks w fs) (rw h refl) q

-- what may follow a request that is made or not, or a callback list that is drained
quiet_word : (l : Local) (aloud : Bool) (r : Reply) → IsQuiet l → IsQuiet (goes l (if aloud then Says r ∷ [] else []))
quiet_word l aloud r q = quiet-goes l (if aloud then Says r ∷ [] else []) (quiet-if aloud (Says r ∷ []) [] refl refl) q

quiet_tests : (s : Scene) (l : Local) (c m : ObjectNo) (p : Predicate) (x : Reply) → IsQuiet l → IsQuiet (if passes p x then says l replies.True else if has_turns l then goes (turned l) (waits s c m ++ Tests c m p ∷ []) else says l replies.Spent)
quiet_tests s l c m p x q = quiet-either (passes p x) (says l replies.True) (if has_turns l then goes (turned l) (waits s c m ++ Tests c m p ∷ []) else says l replies.Spent) (quiet-goes l (Says replies.True ∷ []) refl q)
    (quiet-either (has_turns l) (goes (turned l) (waits s c m ++ Tests c m p ∷ [])) (says l replies.Spent) (quiet-goes (turned l) (waits s c m ++ Tests c m p ∷ []) refl (quiet-turned l q)) (quiet-goes l (Says replies.Spent ∷ []) refl q))

quiet_tests_stop : (l : Local) (w : StopWait) (x : Reply) → IsQuiet l → IsQuiet (if passes w.test x then ends l w replies.True else if has_turns l then enters l w else ends l w replies.Spent)
quiet_tests_stop l w x q = quiet-either (passes w.test x) (ends l w replies.True) (if has_turns l then enters l w else ends l w replies.Spent) (quiet_ends l w replies.True q) (quiet-either (has_turns l) (enters l w) (ends l w replies.Spent) (quiet_enters l w q) (quiet_ends l w replies.Spent q))

quiet_rest : (b : Bool) (l : Local) (ts us : List Task) → Quiet ts → Quiet us → IsQuiet l → IsQuiet (if b then goes l ts else goes l us)
quiet_rest b l ts us h k q = quiet-either b (goes l ts) (goes l us) (quiet-goes l ts h q) (quiet-goes l us k q)

fine : (s : Scene) (t : ℕ) (l : Local) (task : Task) → IsQuiet l → quiet_task task ≡ true → AllFine (alternatives s t l task)
fine s t l (Makes fs) q h = fine_makes l (forms_in fs) q h
fine s t l (Answers fs) q h = fine_answers l (forms_in fs) q h
fine s t l (Says r) q h = fine_one _ refl (λ r. quiet_replied s t l r q)
fine s t l (Arrives b n) q h = fine_two _ _ refl (λ p. quiet-goes l (Completes b false ∷ Says p ∷ []) refl q) refl (λ p. quiet-goes l (Says replies.OverExpected ∷ []) refl q)
fine s t l (ArrivesAndWaits b) q h = fine_two _ _ refl (λ p. quiet-goes l (Completes b false ∷ one (Look b ops.Wait (number_of p) (pos 0) (Just replies.Ok)) ∷ Says replies.Ok ∷ []) refl q) refl (λ p. quiet-goes l (Says replies.OverExpected ∷ []) refl q)
fine s t l (ArrivesAndDrops b) q h = fine_two _ _ refl (λ p. quiet-goes l (Completes b false ∷ Says replies.Ok ∷ []) refl q) refl (λ p. quiet-goes l (Says replies.OverExpected ∷ []) refl q)
fine s t l (Completes b must) q h = fine_completion l b (slice_get s.objects b.0) q
fine s t l (CallsOnce o f r) q h = fine_two _ _ refl (λ p. quiet-goes l (one f ∷ Says r ∷ []) (rw h refl) q) refl (λ p. quiet-goes l (Says replies.Passive ∷ []) refl q)
fine s t l (LocksFrom os) q h = fine_one _ refl (λ r. quiet-goes l (LocksRest os 1 ∷ []) refl q)
fine s t l (LocksRest os k) q h = fine_two _ _ refl (λ r. quiet_rest (k + 1 == length os) l (Says replies.Ok ∷ []) (LocksRest os (k + 1) ∷ []) refl refl q) refl (λ r. quiet_backs_off l os k q)
fine s t l (TriesAll os k) q h = fine_two _ _ refl (λ r. quiet_rest (k + 1 == length os) l (Says (replies.Number (negsuc 0)) ∷ []) (TriesAll os (k + 1) ∷ []) refl refl q) refl (λ r. quiet-goes l _ (quiet-append (unlocks (reverse (take k os))) (Says (replies.Number (pos k)) ∷ []) (quiet-unlocks (reverse (take k os))) refl) q)
fine s t l (Tests c m p) q h = fine_one _ refl (λ x. quiet_tests s l c m p x q)
fine s t l (RegistersWait w) q h = fine_three _ _ _ refl (λ r. quiet-goes l (AsksStop (record w { queued = true }) ∷ []) refl q) refl (λ r. quiet-goes l _ (quiet-append (callback_tasks s l.memory (pos w.id)) (one (change w.stop ops.Finish w.id replies.Ok) ∷ AsksStop w ∷ []) (quiet_callback s l.memory (pos w.id)) refl) q) refl (λ r. quiet-goes l (AsksStop w ∷ []) refl q)
fine s t l (AsksStop w) q h = fine_two _ _ refl (λ r. quiet-goes l (TestsLast w ∷ []) refl q) refl (λ r. quiet-goes l (TestsStop w ∷ []) refl q)
fine s t l (TestsLast w) q h = fine_one _ refl (λ x. quiet_ends l w _ q)
fine s t l (TestsStop w) q h = fine_one _ refl (λ x. quiet_tests_stop l w x q)
fine s t l (AsksAgain w) q h = fine_two _ _ refl (λ r. quiet_wakes l w (or_first (change w.condition ops.Withdraw 0 replies.Ok) (unblocks s w.condition)) refl q) refl (λ r. quiet_wakes (turned l) w (unblocks s w.condition) refl (quiet-turned l q))
fine s t l (Requests st aloud) q h = fine_two _ _ refl (λ r. quiet-goes l (Drains st aloud ∷ []) refl q) refl (λ r. quiet_word l aloud replies.Already q)
fine s t l (Drains st aloud) q h = fine_two _ _ refl (λ r. quiet_begun s l st aloud r q) refl (λ r. quiet_word l aloud replies.Made q)
fine s t l (Registers st id) q h = fine_three _ _ _ refl (λ r. quiet-goes l (Says replies.Queued ∷ []) refl q) refl (λ r. quiet-goes l _ (quiet-append (callback_tasks s l.memory (pos id)) (one (change st ops.Finish id replies.Ok) ∷ Says replies.Ran ∷ []) (quiet_callback s l.memory (pos id)) refl) q) refl (λ r. quiet-goes l (Says replies.Never ∷ []) refl q)
fine s t l (Launches a u p) q h = cc

fine_offered : (s : Scene) (t : ℕ) (l : Local) (ts : List Task) → Quiet ts → list_any starts_a_thread l.calls ≡ false → AllFine (offered_by s t l ts)
fine_offered s t l [] h k = no_more
fine_offered s t l (Completes b false ∷ ts) h k =
    let after : Local = record l { agenda = ts } in
    fine-append (alternatives s t after (Completes b false)) (offered_by s t l ts) (fine s t after (Completes b false) (record { agenda = h; calls = k }) refl) (fine_offered s t l ts h k)
fine_offered s t l (task ∷ ts) h k = let p = both (quiet_task task) (list_all quiet_task ts) h in fine s t (record l { agenda = ts }) task (record { agenda = p.1; calls = k }) p.0

-- ---- one item

quiet_control_same : (c d : Control) → quiet_control c ≡ true → control_eq c d ≡ true → quiet_control d ≡ true
quiet_control_same (controls.Join t) (controls.Join u) h k = refl
quiet_control_same (controls.Join t) (controls.Start u ok) h k = cc
quiet_control_same (controls.Join t) (controls.Launch u ok) h k = cc
quiet_control_same (controls.Start t ok) d h k = cc
quiet_control_same (controls.Launch t ok) d h k = cc

quiet_fit : (s : Scene) (f : Form) (x : Item) (r : Reply) → quiet_form f ≡ true → fits s f x ≡ Some r → quiet_item x ≡ true
quiet_fit s (Does c) (items.Control d) r h k = go (control_eq c d) refl k
  where
    go : (b : Bool) → control_eq c d ≡ b → (if b then Some (control_reply c) else None) ≡ Some r → quiet_control d ≡ true
    go true e w = quiet_control_same c d h e
    go false e w = cc
quiet_fit s (Change o op a b w) (items.Control d) r h k = cc
quiet_fit s (Look o op a b w) (items.Control d) r h k = cc
quiet_fit s (Begin o) (items.Control d) r h k = cc
quiet_fit s (SaysForm q) (items.Control d) r h k = cc
quiet_fit s f (items.Change o p e) r h k = refl
quiet_fit s f (items.Look o l) r h k = refl
quiet_fit s f (items.Said q) r h k = refl

quiet_reached : (s : Scene) (others : List Alternative) (x : Item) (k : Local) → AllFine others → reached s others x ≡ Some k → IsQuiet k × (quiet_item x ≡ true)
quiet_reached s [] x k h e = cc
quiet_reached s (a ∷ others) x k (and_more a' rest form next h) e = go (fits s a.form x) refl e (λ w. quiet_reached s others x k h w)
  where
    go : (o : Option Reply) → fits s a.form x ≡ o → or_then (option_map a.next o) (reached s others x) ≡ Some k → (reached s others x ≡ Some k → IsQuiet k × (quiet_item x ≡ true)) → IsQuiet k × (quiet_item x ≡ true)
    go None p w later = later w
    go (Some r) p w later =
        let same : a.next r ≡ k = cc in
        (subst IsQuiet same (next r), quiet_fit s a.form x r form p)

quiet_due : (ts : List Task) → Quiet ts → Quiet (due ts)
quiet_due [] h = h
quiet_due (Completes b must ∷ ts) h = h
quiet_due (t ∷ ts) h = h

quiet_with_due : (b : Bool) (l : Local) → IsQuiet l → IsQuiet (with_due b l)
quiet_with_due true l q = record { agenda = quiet_due l.agenda q.agenda; calls = q.calls }
quiet_with_due false l q = record { agenda = q.agenda; calls = q.calls }

-- a thread that starts nobody goes on so, and its item starts nobody
pub quiet_item_after : (s : Scene) (completes : ℕ → ℕ → Bool) (t : ℕ) (l k : Local) (x : Item) → IsQuiet l → after_item s completes t l x ≡ Some k → IsQuiet k × (quiet_item x ≡ true)
quiet_item_after s completes t l k x q h = go (reached s (offered s t l) x) refl h
  where
    go : (o : Option Local) → reached s (offered s t l) x ≡ o → option_map (with_item s (is_due completes x) x) o ≡ Some k → IsQuiet k × (quiet_item x ≡ true)
    go None p w = cc
    go (Some m) p w =
        let r = quiet_reached s (offered s t l) x m (fine_offered s t l l.agenda q.agenda q.calls) p in
        let kept : IsQuiet (record m { memory = remembering s m.memory x }) = record { agenda = r.0.agenda; calls = r.0.calls } in
        let same : with_item s (is_due completes x) x m ≡ k = cc in
        (subst IsQuiet same (quiet_with_due (is_due completes x) (record m { memory = remembering s m.memory x }) kept), r.1)

pub quiet_at_start : (s : Scene) (t : ℕ) → OnlyMainStarts s → 0 < t → IsQuiet (local_at_start s t)
quiet_at_start s t only other = go (slice_get s.threads t) refl
  where
    of_body : IsQuiet (start_of_body s t)
    of_body = quiet_first s t (record { memory = memory_at_start s t; agenda = []; calls = body_of s t; number = 0 }) (only t other)

    go : (o : Option Thread) → slice_get s.threads t ≡ o → IsQuiet (local_at_start s t)
    go None e = rw e of_body
    go (Some threads.Plain) e = rw e of_body
    go (Some (threads.Stoppable o)) e = rw e of_body
    go (Some (threads.Launched o)) e = rw e (record { agenda = refl; calls = only t other })
