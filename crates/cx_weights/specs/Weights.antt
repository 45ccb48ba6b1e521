-- How much a thread may still do: a number that each of its items makes smaller.
use Rattle.std.specs.Prelude.{◌≡◌, ℕ, ◌+◌, ◌-◌, ◌*◌, ◌&&◌, ◌||◌, not, Bool, true, false, List, [], ◌∷◌, drop, length, nat_lt, if◌then◌else◌}
use Rattle.std.specs.List.{list_all}
use Rattle.cx_names.specs.declared.Reply.{Reply}
use Rattle.cx_names.specs.declared.Reply.TheVariants as replies
use Rattle.cx_machine.specs.declared.kind.Op.{Op}
use Rattle.cx_machine.specs.declared.kind.Op.TheVariants as ops
use Rattle.cx_scene.specs.declared.call.Call.{Call}
use Rattle.cx_scene.specs.declared.call.Call.TheVariants as calls
use Rattle.cx_scene.specs.Scene.{Scene}
use Rattle.cx_items.specs.declared.kept.Kept.{Kept}
use Rattle.cx_items.specs.declared.item.Item.{Item}
use Rattle.cx_items.specs.declared.item.Item.TheVariants as items
use Rattle.cx_items.specs.declared.form.Form.{Form}
use Rattle.cx_items.specs.declared.form.Form.TheVariants.{Change}
use Rattle.cx_items.specs.declared.form.Forms.{Forms}
use Rattle.cx_items.specs.declared.form.Forms.TheVariants.{One, Two, Three}
use Rattle.cx_items.specs.declared.task.Task.{Task}
use Rattle.cx_items.specs.declared.task.Task.TheVariants.{Makes, Answers, Says, Arrives, ArrivesAndWaits, ArrivesAndDrops, Completes, CallsOnce, LocksFrom, LocksRest, TriesAll, Tests, RegistersWait, AsksStop, TestsStop, TestsLast, AsksAgain, Requests, Drains, Registers, Launches}
use Rattle.cx_items.specs.Form.{op_eq}
use Rattle.cx_items.specs.Next.{Local, has_turns}

-- ---- acts

-- a callback that is registered, and a once flag that is idle again, are paid for here: each `begin` is free
abbrev pub pays : Op → ℕ
pays op = if op_eq op ops.Register || op_eq op ops.Fail then 4 else 0

abbrev pub earns : Op → ℕ
earns op = if op_eq op ops.Begin then 4 else 0

-- each level of a mutex is unlocked at the end of the body
abbrev pub gains : Op → ℕ
gains op = if op_eq op ops.Lock || op_eq op ops.TryLock then 1 else 0

abbrev pub paid_by : Item → ℕ
paid_by (items.Change o p e) = pays e.op
paid_by _ = 0

abbrev pub earned_by : Item → ℕ
earned_by (items.Change o p e) = earns e.op
earned_by _ = 0

abbrev pub form_weight : Form → ℕ
form_weight (Change o op a b w) = 1 + pays op + gains op
form_weight _ = 1

abbrev pub forms_weight : Forms → ℕ
forms_weight (One f) = form_weight f
forms_weight (Two f g) = form_weight f + form_weight g
forms_weight (Three f g h) = form_weight f + form_weight g + form_weight h

-- ---- tasks

-- of n mutexes k are locked
abbrev pub locks_weight : ℕ → ℕ → ℕ
locks_weight n k = 3 * (n - k) + k + 2

-- what a task leads to without another turn, at most: each form's own weight and that of the tasks in its place, without the reply's `later`;
-- `asked o` says that the stop of object o is requested, `more` that a turn is left
abbrev pub task_weight : (ℕ → Bool) → Bool → Task → ℕ
task_weight asked more (Makes fs) = forms_weight fs
task_weight asked more (Answers fs) = forms_weight fs + 1
task_weight asked more (Says r) = 1
task_weight asked more (Arrives b n) = 6
task_weight asked more (ArrivesAndWaits b) = 6
task_weight asked more (ArrivesAndDrops b) = 6
task_weight asked more (Completes b must) = 3
task_weight asked more (CallsOnce o f r) = form_weight f + 2
task_weight asked more (LocksFrom os) = 3 * length os + 2
task_weight asked more (LocksRest os k) = locks_weight (length os) k
task_weight asked more (TriesAll os k) = locks_weight (length os) k
task_weight asked more (Tests c m p) = 2
task_weight asked more (RegistersWait w) = 19
task_weight asked more (AsksStop w) = if asked w.stop.0 then 5 else 14
task_weight asked more (TestsStop w) = 13
task_weight asked more (TestsLast w) = 4
task_weight asked more (AsksAgain w) = if more then 10 else 18
task_weight asked more (Requests st has_reply) = 3
task_weight asked more (Drains st has_reply) = 2
task_weight asked more (Registers st id) = 6
task_weight asked more (Launches a u p) = 3

-- a task that leads to the reply of its call; what stands after it on an agenda is never done
abbrev pub is_replying : Task → Bool
is_replying (Makes fs) = false
is_replying (Completes b must) = false
is_replying (Requests st has_reply) = has_reply
is_replying (Drains st has_reply) = has_reply
is_replying _ = true

-- the tasks up to the one that replies, and what comes after the reply
abbrev pub agenda_weight : (ℕ → Bool) → Bool → ℕ → List Task → ℕ
agenda_weight asked more later [] = 0
agenda_weight asked more later (task ∷ ts) = task_weight asked more task + (if is_replying task then later else agenda_weight asked more later ts)

-- ---- where a thread stands

abbrev pub levels : List Kept → ℕ
levels [] = 0
levels (k ∷ ks) = k.levels + levels ks

-- the end of a body, but for the levels of its mutexes
abbrev pub end_weight : Scene → ℕ
end_weight s = 3 * length s.objects + 4 * length s.threads

-- what comes after the reply: 16 for each turn that is left, 19 for each later call, and the end of the body
abbrev pub later_weight : Scene → Local → ℕ
later_weight s l = (16384 - l.memory.turns) * 16 + (levels l.memory.kept + (end_weight s + 19 * length (drop 1 l.calls)))

abbrev pub weight : Scene → (ℕ → Bool) → Local → ℕ
weight s asked l = agenda_weight asked (has_turns l) (later_weight s l) l.agenda

-- ---- calls on several mutexes name one at least (`lock_all` two), and five at most

abbrev pub is_sized_call : Call → Bool
is_sized_call (calls.LockAll os) = nat_lt 1 (length os) && nat_lt (length os) 6
is_sized_call (calls.TryLockAll os) = nat_lt 0 (length os) && nat_lt (length os) 6
is_sized_call _ = true

abbrev pub is_sized_task : Task → Bool
is_sized_task (LocksFrom os) = nat_lt 1 (length os) && nat_lt (length os) 6
is_sized_task (LocksRest os k) = nat_lt 1 (length os) && (nat_lt k (length os) && nat_lt (length os) 6)
is_sized_task (TriesAll os k) = nat_lt k (length os) && nat_lt (length os) 6
is_sized_task _ = true

abbrev pub is_sized : List Task → Bool
is_sized [] = true
is_sized (task ∷ ts) = if is_replying task then is_sized_task task else is_sized ts

pub record IsSized (l : Local) : Type 0 where
  pub agenda : is_sized l.agenda ≡ true
  pub calls : list_all is_sized_call l.calls ≡ true

-- ---- looks at a stop

abbrev pub says_so : Reply → Bool → Bool
says_so replies.True requested = requested
says_so replies.False requested = not requested
says_so _ requested = true

-- a look whether the stop is requested says so
abbrev pub is_true_look : Op → Reply → Bool → Bool
is_true_look op r requested = if op_eq op ops.StopRequested then says_so r requested else true

abbrev pub is_true_item : (ℕ → Bool) → Item → Bool
is_true_item asked (items.Look o l) = is_true_look l.op l.reply (asked o.0)
is_true_item asked _ = true
