-- The tasks of a call, and of the end of a body, come to a reply or to no task.
use Rattle.std.proofs.Common.{◌≡◌, ℕ, zero, suc, ◌+◌, ◌==◌, ◌&&◌, not, ℤ, pos, negsuc, Bool, true, false, List, [], ◌∷◌, ◌++◌, replicate, Option, Some, None, slice_get, if◌then◌else◌, refl, append_assoc}
use Rattle.std.specs.Prelude.{is_some}
use Rattle.std.specs.List.{list_all}
use Rattle.std.proofs.lemmas.Bool.{and_parts}
use Rattle.std.proofs.lemmas.List.Folds.{list_all-append}
use Rattle.cx_names.specs.declared.ObjectNo.{ObjectNo}
use Rattle.cx_names.specs.declared.CallbackNo.{CallbackNo}
use Rattle.cx_names.specs.declared.Outcome.TheVariants as outcomes
use Rattle.cx_names.specs.declared.Reply.{Reply}
use Rattle.cx_names.specs.declared.Reply.TheVariants as replies
use Rattle.cx_machine.specs.declared.kind.Op.TheVariants as ops
use Rattle.cx_machine.specs.Words.{when, has}
use Rattle.cx_scene.specs.declared.declared.Object.{Object}
use Rattle.cx_scene.specs.declared.declared.Object.TheVariants as objects
use Rattle.cx_scene.specs.declared.declared.Thread.{Thread}
use Rattle.cx_scene.specs.declared.declared.Thread.TheVariants as threads
use Rattle.cx_scene.specs.declared.declared.Small.TheVariants as smalls
use Rattle.cx_scene.specs.declared.declared.Callback.{Callback}
use Rattle.cx_scene.specs.declared.declared.Action.{Action}
use Rattle.cx_scene.specs.declared.declared.Action.TheVariants as actions
use Rattle.cx_scene.specs.declared.declared.Registration.{Registration}
use Rattle.cx_scene.specs.declared.declared.Registration.TheVariants.{OfCallback, OfWait}
use Rattle.cx_scene.specs.declared.call.Call.{Call}
use Rattle.cx_scene.specs.declared.call.Call.TheVariants as calls
use Rattle.cx_scene.specs.Scene.{Scene, registration}
use Rattle.cx_items.specs.declared.item.Control.TheVariants as controls
use Rattle.cx_items.specs.declared.form.Wanted.{Wanted}
use Rattle.cx_items.specs.declared.form.Wanted.TheVariants.{Just, ANumber, AThread, AnOutcome}
use Rattle.cx_items.specs.declared.form.Form.{Form}
use Rattle.cx_items.specs.declared.form.Form.TheVariants.{Change, Look, Begin, Does, Says as SaysForm}
use Rattle.cx_items.specs.declared.form.Forms.{Forms}
use Rattle.cx_items.specs.declared.form.Forms.TheVariants.{One, Two, Three}
use Rattle.cx_items.specs.declared.task.Task.{Task}
use Rattle.cx_items.specs.declared.task.Task.TheVariants.{Makes, Answers, CallsOnce, Requests}
use Rattle.cx_items.specs.Form.{change, op_eq}
use Rattle.cx_items.specs.Memory.{Memory, of}
use Rattle.cx_items.specs.Calls.{one, or_else, readies, looks, launches, registers, deregisters, held_id, id_of, refusal, tasks, opened, each_object, each_thread, gives_up, breaks, is_number_of, owner_of, awaits, stops, end_of_main, end_tasks, set_form}
use Rattle.cx_items.specs.Next.{action_tasks, declared_tasks, registered_tasks, callback_tasks, unlocks}
use Rattle.cx_weights.specs.Weights.{is_replying, is_true_look}

-- ---- forms of which there is always an item

-- a reply that is wanted
abbrev pub sample : Wanted → Reply
sample (Just r) = r
sample ANumber = replies.Number (pos 0)
sample AThread = replies.Nobody
sample AnOutcome = replies.Outcome outcomes.Broken

-- an item of the form takes no callback that has to begin, nor does it earn; where each stop is requested it is true
abbrev pub is_free : Form → Bool
is_free (Change o op a b w) = not (op_eq op ops.Begin)
is_free (Look o op a b w) = is_true_look op (sample w) true
is_free (Begin o) = false
is_free (Does c) = true
is_free (SaysForm r) = true

abbrev pub first_form : Forms → Form
first_form (One f) = f
first_form (Two f g) = f
first_form (Three f g h) = f

abbrev pub is_free_task : Task → Bool
is_free_task (Makes fs) = is_free (first_form fs)
is_free_task (Answers fs) = is_free (first_form fs)
is_free_task (CallsOnce o f r) = is_free f
is_free_task _ = true

-- ---- agendas

-- the tasks come to a reply; where no call is left, they may come to no task instead
abbrev pub leads : Bool → List Task → Bool
leads last [] = last
leads last (task ∷ ts) = is_free_task task && (if is_replying task then true else leads last ts)

abbrev pub is_last : List Call → Bool
is_last [] = true
is_last (c ∷ cs) = false

-- tasks that are done on the way
abbrev pub is_passing : Task → Bool
is_passing task = is_free_task task && not (is_replying task)

abbrev pub Passing : List Task → Type 0
Passing ts = list_all is_passing ts ≡ true

pub not_so : (b : Bool) → not b ≡ true → b ≡ false
not_so true h = cc
not_so false h = refl

pub pass : (last : Bool) (ts rest : List Task) → Passing ts → leads last (ts ++ rest) ≡ leads last rest
pass last [] rest h = refl
pass last (task ∷ ts) rest h =
    let p = and_parts (is_passing task) (list_all is_passing ts) h in
    let q = and_parts (is_free_task task) (not (is_replying task)) p.0 in
    rw (q.0, not_so (is_replying task) q.1) (pass last ts rest p.1)

-- before others
pub pass_then : (last : Bool) (ts us rest : List Task) → Passing ts → leads last ((ts ++ us) ++ rest) ≡ leads last (us ++ rest)
pass_then last ts us rest h = rw (append_assoc ts us rest) (pass last ts (us ++ rest) h)

pass_all : (ts : List Task) → Passing ts → leads true ts ≡ true
pass_all [] h = refl
pass_all (task ∷ ts) h =
    let p = and_parts (is_passing task) (list_all is_passing ts) h in
    let q = and_parts (is_free_task task) (not (is_replying task)) p.0 in
    rw (q.0, not_so (is_replying task) q.1) (pass_all ts p.1)

passing-append : (ts us : List Task) → Passing ts → Passing us → Passing (ts ++ us)
passing-append ts us h k = rw (list_all-append is_passing ts us, h, k) refl

pub passing-if : (b : Bool) (ts us : List Task) → Passing ts → Passing us → Passing (if b then ts else us)
passing-if true ts us h k = h
passing-if false ts us h k = k

passing-replicate : (n : ℕ) (task : Task) → is_passing task ≡ true → Passing (replicate n task)
passing-replicate zero task h = refl
passing-replicate (suc n) task h = rw (h, passing-replicate n task h) refl

pub passing-unlocks : (os : List ℕ) → Passing (unlocks os)
passing-unlocks [] = refl
passing-unlocks (o ∷ os) = passing-unlocks os

-- ---- callbacks

passing_action : (m : Memory) (id : ℕ) (st : ObjectNo) (a : Action) → Passing (action_tasks m id st a)
passing_action m id st (actions.Small (smalls.Release q n)) = refl
passing_action m id st (actions.Small (smalls.NotifyOne q)) = refl
passing_action m id st (actions.Small (smalls.NotifyAll q)) = refl
passing_action m id st actions.Deregister = passing-if (has m.held id) (one (change st ops.Deregister id replies.Inside) ∷ []) [] refl refl

passing_declared : (m : Memory) (id : ℕ) (c : Option Callback) → Passing (declared_tasks m id c)
passing_declared m id None = refl
passing_declared m id (Some c) = passing_action m id c.stop c.action

passing_registered : (s : Scene) (m : Memory) (id : ℕ) (r : Option Registration) → Passing (registered_tasks s m id r)
passing_registered s m id None = refl
passing_registered s m id (Some (OfWait c st)) = refl
passing_registered s m id (Some (OfCallback k)) = passing_declared m id (slice_get s.callbacks k.0)

pub passing_callback : (s : Scene) (m : Memory) (id : ℤ) → Passing (callback_tasks s m id)
passing_callback s m (negsuc n) = refl
passing_callback s m (pos id) = passing_registered s m id (registration s id)

-- ---- ends of bodies

passing_gives_up : (m : Memory) (o : ObjectNo) (d : Object) → Passing (gives_up m o d)
passing_gives_up m o d = passing-append (replicate (of m o).levels (one (change o ops.Unlock 0 replies.Ok))) (if (of m o).reads then one (change o ops.UnlockShared 0 replies.Ok) ∷ [] else []) (passing-replicate (of m o).levels (one (change o ops.Unlock 0 replies.Ok)) refl) (passing-if (of m o).reads (one (change o ops.UnlockShared 0 replies.Ok) ∷ []) [] refl refl)

passing_breaks : (t : ℕ) (m : Memory) (o : ObjectNo) (d : Object) → Passing (breaks t m o d)
passing_breaks t m o d = passing-if (is_number_of t (owner_of d) && not (of m o).is_set && not (of m o).is_dropped) (one (set_form o outcomes.Broken) ∷ []) [] refl refl

passing_awaits : (m : Memory) (o : ObjectNo) (d : Object) → Passing (awaits m o d)
passing_awaits m o d = passing-if ((of m o).is_launched && (of m o).is_valid) (one (Look o ops.Ready (pos 0) (pos 0) AnOutcome) ∷ []) [] refl refl

passing_stops : (m : Memory) (u : ℕ) (d : Thread) → Passing (stops m u d)
passing_stops m u threads.Plain = refl
passing_stops m u (threads.Stoppable st) = passing-if (has m.joinable u) (Requests st false ∷ one (Does (controls.Join (record { 0 = u }))) ∷ []) [] refl refl
passing_stops m u (threads.Launched o) = refl

passing_objects : (f : ObjectNo → Object → List Task) → ((o : ObjectNo) (d : Object) → Passing (f o d)) → (i : ℕ) (ds : List Object) → Passing (each_object f i ds)
passing_objects f h i [] = refl
passing_objects f h i (d ∷ ds) = passing-append (f (record { 0 = i }) d) (each_object f (i + 1) ds) (h (record { 0 = i }) d) (passing_objects f h (i + 1) ds)

passing_threads : (f : ℕ → Thread → List Task) → ((u : ℕ) (d : Thread) → Passing (f u d)) → (i : ℕ) (us : List Thread) → Passing (each_thread f i us)
passing_threads f h i [] = refl
passing_threads f h i (u ∷ us) = passing-append (each_thread f (i + 1) us) (f i u) (passing_threads f h (i + 1) us) (h i u)

passing_end : (s : Scene) (t : ℕ) (m : Memory) → Passing (end_tasks s t m)
passing_end s t m =
    let waited = passing_objects (awaits m) (passing_awaits m) 0 s.objects in
    let stopped = passing_threads (stops m) (passing_stops m) 0 s.threads in
    let main = passing-if (t == 0) (end_of_main s m) [] (passing-append (each_object (awaits m) 0 s.objects) (each_thread (stops m) 0 s.threads) waited stopped) refl in
    let broken = passing-append (each_object (breaks t m) 0 s.objects) (if t == 0 then end_of_main s m else []) (passing_objects (breaks t m) (passing_breaks t m) 0 s.objects) main in
    passing-append (each_object (gives_up m) 0 s.objects) (each_object (breaks t m) 0 s.objects ++ (if t == 0 then end_of_main s m else [])) (passing_objects (gives_up m) (passing_gives_up m) 0 s.objects) broken

pub leads_end : (s : Scene) (t : ℕ) (m : Memory) → leads true (end_tasks s t m) ≡ true
leads_end s t m = pass_all (end_tasks s t m) (passing_end s t m)

-- ---- calls

abbrev pub is_async : Option Object → Bool
is_async (Some (objects.Async policy f u)) = true
is_async _ = false

-- what the call registers or launches is there
abbrev pub is_found : Scene → Call → Bool
is_found s (calls.Register k) = is_some (slice_get s.callbacks k.0)
is_found s (calls.Deregister k) = is_some (slice_get s.callbacks k.0)
is_found s (calls.Launch a) = is_async (slice_get s.objects a.0)
is_found s _ = true

leads_registers : (s : Scene) (last : Bool) (id : ℕ) (k : CallbackNo) (c : Option Callback) → is_some c ≡ true → leads last (registers s id k c ++ []) ≡ true
leads_registers s last id k None h = cc
leads_registers s last id k (Some c) h = refl

-- a registration that the thread doesn't hold is refused
leads_deregisters : (last : Bool) (c : Option Callback) (id : Option ℕ) → is_some c ≡ true → is_some id ≡ true → leads last (deregisters c id ++ []) ≡ true
leads_deregisters last None id h k = cc
leads_deregisters last (Some c) None h k = cc
leads_deregisters last (Some c) (Some id) h k = refl

held_where_free : (s : Scene) (m : Memory) (k : CallbackNo) (o : Option ℕ) → held_id s m.held k ≡ o → refusal s m (calls.Deregister k) ≡ None → is_some (held_id s m.held k) ≡ true
held_where_free s m k None e free = absurd (let refused : or_else (when true replies.NotHeld) None ≡ None = rw e at free in cc)
held_where_free s m k (Some id) e free = rw e refl

leads_launches : (last : Bool) (a : ObjectNo) (d : Option Object) → is_async d ≡ true → leads last (launches a d) ≡ true
leads_launches last a (Some (objects.Async policy f u)) h = refl
leads_launches last a _ h = cc

leads_waits : (s : Scene) (last : Bool) (m : Memory) (p : ObjectNo) (b : Bool) → (of m p).is_unrun ≡ b → leads last (readies s m p (looks true)) ≡ true
leads_waits s last m p true e = rw e refl
leads_waits s last m p false e = rw e refl

leads_outcome : (s : Scene) (last : Bool) (m : Memory) (p : ObjectNo) (b : Bool) → (of m p).is_unrun ≡ b → leads last (readies s m p (looks false)) ≡ true
leads_outcome s last m p true e = rw e refl
leads_outcome s last m p false e = rw e refl

leads_tasks : (s : Scene) (last : Bool) (t n : ℕ) (m : Memory) (c : Call) → is_found s c ≡ true → refusal s m c ≡ None → leads last (tasks s t n m c) ≡ true
leads_tasks s last t n m (calls.Register k) h free = leads_registers s last (id_of t n) k (slice_get s.callbacks k.0) h
leads_tasks s last t n m (calls.Deregister k) h free = leads_deregisters last (slice_get s.callbacks k.0) (held_id s m.held k) h (held_where_free s m k (held_id s m.held k) refl free)
leads_tasks s last t n m (calls.Launch a) h free = leads_launches last a (slice_get s.objects a.0) h
leads_tasks s last t n m (calls.WaitFuture p) h free = leads_waits s last m p (of m p).is_unrun refl
leads_tasks s last t n m (calls.GetOutcome p) h free = leads_outcome s last m p (of m p).is_unrun refl
leads_tasks s last t n m (calls.GetFuture p) h free = cc
leads_tasks s last t n m (calls.Share p) h free = cc
leads_tasks s last t n m _ h free = refl

pub leads_opened : (s : Scene) (last : Bool) (t n : ℕ) (m : Memory) (c : Call) → is_found s c ≡ true → leads last (opened s t n m c) ≡ true
leads_opened s last t n m c h = go (refusal s m c) refl
  where
    go : (o : Option Reply) → refusal s m c ≡ o → leads last (opened s t n m c) ≡ true
    go None e = rw e (leads_tasks s last t n m c h e)
    go (Some r) e = rw e refl
