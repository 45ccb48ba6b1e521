-- What the next item of a thread may be, and where the thread stands after it.
use Rattle.std.specs.Prelude.{ℕ, ◌+◌, ◌==◌, ◌&&◌, ℤ, pos, negsuc, Bool, true, false, List, [], ◌∷◌, ◌++◌, map, reverse, length, take, drop, slice_get, Option, Some, None, nat_lt, if◌then◌else◌, unwrap_or, option_map}
use Rattle.cx_names.specs.declared.ObjectNo.{ObjectNo}
use Rattle.cx_names.specs.declared.Reply.{Reply}
use Rattle.cx_names.specs.declared.Reply.TheVariants as replies
use Rattle.cx_machine.specs.declared.kind.Op.TheVariants as ops
use Rattle.cx_machine.specs.Words.{has}
use Rattle.cx_scene.specs.declared.declared.Object.{Object}
use Rattle.cx_scene.specs.declared.declared.Object.TheVariants as objects
use Rattle.cx_scene.specs.declared.declared.Thread.{Thread}
use Rattle.cx_scene.specs.declared.declared.Thread.TheVariants as threads
use Rattle.cx_scene.specs.declared.declared.Policy.TheVariants as policies
use Rattle.cx_scene.specs.declared.declared.Action.{Action}
use Rattle.cx_scene.specs.declared.declared.Action.TheVariants as actions
use Rattle.cx_scene.specs.declared.declared.Callback.{Callback}
use Rattle.cx_scene.specs.declared.declared.Registration.{Registration}
use Rattle.cx_scene.specs.declared.declared.Registration.TheVariants.{OfCallback, OfWait}
use Rattle.cx_scene.specs.declared.call.Call.{Call}
use Rattle.cx_scene.specs.declared.call.Predicate.{Predicate}
use Rattle.cx_scene.specs.Scene.{Scene, holds, body_of, registration}
use Rattle.cx_items.specs.declared.item.Control.TheVariants as controls
use Rattle.cx_items.specs.declared.item.Item.{Item}
use Rattle.cx_items.specs.declared.item.Item.TheVariants as items
use Rattle.cx_items.specs.declared.form.Wanted.TheVariants.{Just, ANumber}
use Rattle.cx_items.specs.declared.form.Form.{Form}
use Rattle.cx_items.specs.declared.form.Form.TheVariants.{Change, Look, Begin, Does, Says as SaysForm}
use Rattle.cx_items.specs.declared.form.Forms.{Forms}
use Rattle.cx_items.specs.declared.form.Forms.TheVariants.{Two}
use Rattle.cx_items.specs.declared.task.StopWait.{StopWait}
use Rattle.cx_items.specs.declared.task.Task.{Task}
use Rattle.cx_items.specs.declared.task.Task.TheVariants.{Makes, Answers, Says, Arrives, ArrivesAndWaits, ArrivesAndDrops, Completes, CallsOnce, LocksFrom, LocksRest, TriesAll, Tests, RegistersWait, AsksStop, TestsStop, TestsLast, AsksAgain, Requests, Drains, Registers, Launches}
use Rattle.cx_items.specs.Form.{change, look, forms_in, or_first, fits}
use Rattle.cx_items.specs.Calls.{one, number, set_form, small_forms, unblocks, waits, opened, end_tasks, function_outcome}
use Rattle.cx_items.specs.Memory.{Memory, memory_at_start, remembering, settled}

-- where a thread stands: what it remembers, what is left of its call, and the calls from that one on
pub record Local : Type 0 where
  pub memory : Memory
  pub agenda : List Task
  pub calls : List Call
  pub number : ℕ

-- what the next item may be, and where the thread stands then, by the word that the form left open
pub record Alternative : Type 0 where
  pub form : Form
  pub next : Reply → Local

abbrev pub goes : Local → List Task → Local
goes l ts = record l { agenda = ts ++ l.agenda }

abbrev pub to : Form → Local → Alternative
to f l = record { form = f; next = λ r. l }

abbrev pub says : Local → Reply → Local
says l r = goes l (Says r ∷ [])

-- ---- turns

abbrev pub has_turns : Local → Bool
has_turns l = nat_lt l.memory.turns 16384

abbrev pub turned : Local → Local
turned l = record l { memory = record l.memory { turns = l.memory.turns + 1 } }

-- ---- calls

-- the tasks of the next call, or of the end of the body
abbrev pub next_tasks : Scene → ℕ → Local → List Call → List Task
next_tasks s t l [] = end_tasks s t l.memory
next_tasks s t l (c ∷ cs) = opened s t l.number l.memory c

abbrev pub next_call : Scene → ℕ → Local → Local
next_call s t l = record l { agenda = next_tasks s t l l.calls }

-- the first of these calls has replied
abbrev pub past : Local → Reply → List Call → Local
past l r [] = l
past l r (c ∷ cs) = record l { memory = settled c r l.memory; calls = cs; number = l.number + 1 }

abbrev pub replied : Scene → ℕ → Local → Reply → Local
replied s t l r = next_call s t (past l r l.calls)

-- `deregister` makes an act only where the running thread holds the registration
abbrev pub action_tasks : Memory → ℕ → ObjectNo → Action → List Task
action_tasks m id st (actions.Small x) = Makes (small_forms x) ∷ []
action_tasks m id st actions.Deregister = if has m.held id then one (change st ops.Deregister id replies.Inside) ∷ [] else []

abbrev pub declared_tasks : Memory → ℕ → Option Callback → List Task
declared_tasks m id None = []
declared_tasks m id (Some c) = action_tasks m id c.stop c.action

-- the acts of what is registered by this ID: a wait notifies its condition
abbrev pub registered_tasks : Scene → Memory → ℕ → Option Registration → List Task
registered_tasks s m id None = []
registered_tasks s m id (Some (OfWait c st)) = one (Change c ops.NotifyAll (pos 0) (pos 0) ANumber) ∷ []
registered_tasks s m id (Some (OfCallback k)) = declared_tasks m id (slice_get s.callbacks k.0)

-- the acts of the callback of this ID
abbrev pub callback_tasks : Scene → Memory → ℤ → List Task
callback_tasks s m (negsuc n) = []
callback_tasks s m (pos id) = registered_tasks s m id (registration s id)

-- the word that was left open is a callback's number
abbrev pub begun : Scene → Local → ObjectNo → Bool → Reply → Local
begun s l st has_reply (replies.Number id) = goes l (callback_tasks s l.memory id ++ one (Change st ops.Finish id (pos 0) (Just replies.Ok)) ∷ Drains st has_reply ∷ [])
begun s l st has_reply _ = l

-- ---- waits with a test

-- a number is as the test wants it
abbrev pub passes : Predicate → Reply → Bool
passes p (replies.Number x) = holds x p.relation p.value
passes p _ = false

abbrev pub yes_or_no : Bool → Reply
yes_or_no b = if b then replies.True else replies.False

abbrev pub read_number : ObjectNo → Predicate → Form
read_number m p = Look m ops.Get (pos p.number) (pos 0) ANumber

-- a stop-aware wait ends with this answer
abbrev pub end_of_wait : StopWait → Reply → List Task
end_of_wait w r = (if w.queued then Makes (Two (change w.stop ops.Deregister w.id replies.Removed) (change w.stop ops.Deregister w.id replies.Ran)) ∷ [] else []) ++ Says r ∷ []

abbrev pub ends : Local → StopWait → Reply → Local
ends l w r = goes l (end_of_wait w r)

abbrev pub enters : Local → StopWait → Local
enters l w = goes l (one (change w.condition ops.Enter 0 replies.Ok) ∷ one (change w.mutex ops.Unlock 0 replies.Ok) ∷ AsksAgain w ∷ [])

-- it is woken by one of these acts, and goes on
abbrev pub wake_tasks : StopWait → Forms → List Task
wake_tasks w fs = Makes fs ∷ one (change w.mutex ops.Lock 0 replies.Ok) ∷ AsksStop w ∷ []

abbrev pub wakes : Local → StopWait → Forms → Local
wakes l w fs = goes l (wake_tasks w fs)

-- ---- locks of several mutexes

abbrev pub mutex_at : List ℕ → ℕ → ObjectNo
mutex_at os k = record { 0 = unwrap_or (slice_get os k) 0 }

abbrev pub unlocks : List ℕ → List Task
unlocks os = map (λ o. one (change (record { 0 = o }) ops.Unlock 0 replies.Ok)) os

-- the k mutexes that are locked are unlocked, the last first; where there is a turn it begins again with the one that was not to be had
abbrev pub backs_off : Local → List ℕ → ℕ → Local
backs_off l os k = if has_turns l then goes (turned l) (unlocks (reverse (take k os)) ++ LocksFrom (drop k os ++ take k os) ∷ []) else goes l (unlocks (reverse (take k os)) ++ Says replies.Spent ∷ [])

-- ---- the table

abbrev pub number_of : Reply → ℤ
number_of (replies.Number p) = p
number_of _ = pos 0

abbrev pub completion : Local → ObjectNo → Option Object → List Alternative
completion l b (Some (objects.Barrier count (Some x))) = map (λ f. to f (goes l (one (change b ops.Complete 0 replies.Ok) ∷ []))) (forms_in (small_forms x))
completion l b _ = to (change b ops.Complete 0 replies.Ok) l ∷ []

-- the alternatives of a task; l is where the thread stands with the task done
abbrev pub alternatives : Scene → ℕ → Local → Task → List Alternative
alternatives s t l (Makes fs) = map (λ f. to f l) (forms_in fs)
alternatives s t l (Answers fs) = map (λ f. record { form = f; next = says l }) (forms_in fs)
alternatives s t l (Says r) = record { form = SaysForm r; next = replied s t l } ∷ []
alternatives s t l (Arrives b n) =
    record { form = Change b ops.Arrive (pos n) (pos 0) ANumber; next = λ p. goes l (Completes b false ∷ Says p ∷ []) }
    ∷ to (look b ops.Arrive n replies.OverExpected) (says l replies.OverExpected) ∷ []
alternatives s t l (ArrivesAndWaits b) =
    record { form = Change b ops.Arrive (pos 1) (pos 0) ANumber; next = λ p. goes l (Completes b false ∷ one (Look b ops.Wait (number_of p) (pos 0) (Just replies.Ok)) ∷ Says replies.Ok ∷ []) }
    ∷ to (look b ops.Arrive 1 replies.OverExpected) (says l replies.OverExpected) ∷ []
alternatives s t l (ArrivesAndDrops b) =
    record { form = Change b ops.Drop (pos 0) (pos 0) ANumber; next = λ p. goes l (Completes b false ∷ Says replies.Ok ∷ []) }
    ∷ to (look b ops.Drop 0 replies.OverExpected) (says l replies.OverExpected) ∷ []
alternatives s t l (Completes b must) = completion l b (slice_get s.objects b.0)
alternatives s t l (CallsOnce o f r) =
    to (change o ops.Begin 0 replies.Ok) (goes l (one f ∷ Says r ∷ []))
    ∷ to (look o ops.Passive 0 replies.Ok) (says l replies.Passive) ∷ []
alternatives s t l (LocksFrom os) = to (change (mutex_at os 0) ops.Lock 0 replies.Ok) (goes l (LocksRest os 1 ∷ [])) ∷ []
alternatives s t l (LocksRest os k) =
    to (change (mutex_at os k) ops.TryLock 0 replies.True) (if k + 1 == length os then says l replies.Ok else goes l (LocksRest os (k + 1) ∷ []))
    ∷ to (look (mutex_at os k) ops.TryLock 0 replies.False) (backs_off l os k) ∷ []
alternatives s t l (TriesAll os k) =
    to (change (mutex_at os k) ops.TryLock 0 replies.True) (if k + 1 == length os then says l (replies.Number (negsuc 0)) else goes l (TriesAll os (k + 1) ∷ []))
    ∷ to (look (mutex_at os k) ops.TryLock 0 replies.False) (goes l (unlocks (reverse (take k os)) ++ Says (number k) ∷ [])) ∷ []
alternatives s t l (Tests c m p) =
    record { form = read_number m p; next = λ x. if passes p x then says l replies.True else if has_turns l then goes (turned l) (waits s c m ++ Tests c m p ∷ []) else says l replies.Spent } ∷ []
alternatives s t l (RegistersWait w) =
    to (change w.stop ops.Register w.id replies.Ok) (goes l (AsksStop (record w { queued = true }) ∷ []))
    ∷ to (change w.stop ops.RegisterNow w.id replies.Ok) (goes l (callback_tasks s l.memory (pos w.id) ++ one (change w.stop ops.Finish w.id replies.Ok) ∷ AsksStop w ∷ []))
    ∷ to (look w.stop ops.Never w.id replies.Ok) (goes l (AsksStop w ∷ [])) ∷ []
alternatives s t l (AsksStop w) =
    to (look w.stop ops.StopRequested 0 replies.True) (goes l (TestsLast w ∷ []))
    ∷ to (look w.stop ops.StopRequested 0 replies.False) (goes l (TestsStop w ∷ [])) ∷ []
alternatives s t l (TestsLast w) = record { form = read_number w.mutex w.test; next = λ x. ends l w (yes_or_no (passes w.test x)) } ∷ []
alternatives s t l (TestsStop w) = record { form = read_number w.mutex w.test; next = λ x. if passes w.test x then ends l w replies.True else if has_turns l then enters l w else ends l w replies.Spent } ∷ []
alternatives s t l (AsksAgain w) =
    to (look w.stop ops.StopRequested 0 replies.True) (wakes l w (or_first (change w.condition ops.Withdraw 0 replies.Ok) (unblocks s w.condition)))
    ∷ to (look w.stop ops.StopRequested 0 replies.False) (wakes (turned l) w (unblocks s w.condition)) ∷ []
alternatives s t l (Requests st has_reply) =
    to (change st ops.Request 0 replies.Ok) (goes l (Drains st has_reply ∷ []))
    ∷ to (look st ops.Already 0 replies.Ok) (goes l (if has_reply then Says replies.Already ∷ [] else [])) ∷ []
alternatives s t l (Drains st has_reply) =
    record { form = Begin st; next = begun s l st has_reply }
    ∷ to (look st ops.Drained 0 replies.Ok) (goes l (if has_reply then Says replies.Made ∷ [] else [])) ∷ []
alternatives s t l (Registers st id) =
    to (change st ops.Register id replies.Ok) (says l replies.Queued)
    ∷ to (change st ops.RegisterNow id replies.Ok) (goes l (callback_tasks s l.memory (pos id) ++ one (change st ops.Finish id replies.Ok) ∷ Says replies.Ran ∷ []))
    ∷ to (look st ops.Never id replies.Ok) (says l replies.Never) ∷ []
alternatives s t l (Launches a u policies.Async) =
    to (Does (controls.Launch u true)) (says l replies.Launched) ∷ to (Does (controls.Launch u false)) (says l replies.NoThread) ∷ []
alternatives s t l (Launches a u policies.Both) =
    to (Does (controls.Launch u true)) (says l replies.Launched) ∷ to (Does (controls.Launch u false)) (goes l (one (change a ops.Defer 0 replies.Ok) ∷ Says replies.Deferred ∷ [])) ∷ []
alternatives s t l (Launches a u policies.Deferred) = to (change a ops.Defer 0 replies.Ok) (says l replies.Deferred) ∷ []

-- what the next item may be where these tasks are left
abbrev pub offered_by : Scene → ℕ → Local → List Task → List Alternative
offered_by s t l [] = []
offered_by s t l (Completes b false ∷ ts) = alternatives s t (record l { agenda = ts }) (Completes b false) ++ offered_by s t l ts
offered_by s t l (task ∷ ts) = alternatives s t (record l { agenda = ts }) task

-- WHAT THE NEXT ITEM MAY BE
abbrev pub offered : Scene → ℕ → Local → List Alternative
offered s t l = offered_by s t l l.agenda

-- ---- one item

abbrev pub is_reached : Scene → Alternative → Item → Option Local
is_reached s a x = option_map a.next (fits s a.form x)

abbrev pub or_then : Option Local → Option Local → Option Local
or_then None l = l
or_then (Some k) l = Some k

abbrev pub reached : Scene → List Alternative → Item → Option Local
reached s [] x = None
reached s (a ∷ others) x = or_then (is_reached s a x) (reached s others x)

-- the completion that comes next is due
abbrev pub due : List Task → List Task
due (Completes b must ∷ ts) = Completes b true ∷ ts
due ts = ts

-- after an arrival that brought its barrier to completing, the completion is due
abbrev pub is_due : (ℕ → ℕ → Bool) → Item → Bool
is_due completes (items.Change o p e) = completes o.0 p
is_due completes _ = false

abbrev pub with_due : Bool → Local → Local
with_due completing l = record l { agenda = if completing then due l.agenda else l.agenda }

-- the thread remembers the item; `completing` says that a completion is due after it
abbrev pub with_item : Scene → Bool → Item → Local → Local
with_item s completing x k = with_due completing (record k { memory = remembering s k.memory x })

-- where the thread stands after the item, or none where the item isn't allowed
abbrev pub moved : Scene → Bool → ℕ → Local → Item → Option Local
moved s completing t l x = option_map (with_item s completing x) (reached s (offered s t l) x)

-- the same, where `completes o p` says that the change at p leaves barrier o completing
abbrev pub after_item : Scene → (ℕ → ℕ → Bool) → ℕ → Local → Item → Option Local
after_item s completes t l x = moved s (is_due completes x) t l x

-- ---- a replay makes no completion that isn't due, and gives a reply with the last act of its call

abbrev pub undue : List Task → List Task
undue (Completes b false ∷ ts) = ts
undue ts = ts

abbrev pub settled_local : Local → Local
settled_local l = record l { agenda = undue l.agenda }

abbrev pub due_reply : List Task → Option Reply
due_reply (Says r ∷ ts) = Some r
due_reply _ = None

-- ---- the beginning and the end

abbrev pub start_of_body : Scene → ℕ → Local
start_of_body s t = next_call s t (record { memory = memory_at_start s t; agenda = []; calls = body_of s t; number = 0 })

-- a launched async sets its outcome
abbrev pub local_at_start : Scene → ℕ → Local
local_at_start s t = start (slice_get s.threads t)
  where
    start : Option Thread → Local
    start (Some (threads.Launched o)) = record { memory = memory_at_start s t; agenda = one (set_form o (function_outcome (slice_get s.objects o.0))) ∷ []; calls = body_of s t; number = 0 }
    start _ = start_of_body s t

-- nothing is left of the call, and no call is left
abbrev pub is_ended : Local → Bool
is_ended l = (length l.agenda == 0) && (length l.calls == 0)
