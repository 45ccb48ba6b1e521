-- The acts and replies that an item may be.
use Rattle.std.specs.Prelude.{ℕ, ◌==◌, ◌&&◌, not, ℤ, pos, negsuc, Bool, true, false, List, [], ◌∷◌, Option, Some, None, if◌then◌else◌, option_and_then}
use Rattle.cx_names.specs.declared.ObjectNo.{ObjectNo}
use Rattle.cx_names.specs.declared.Reply.{Reply}
use Rattle.cx_names.specs.declared.Reply.TheVariants as replies
use Rattle.cx_names.specs.Replies.{int_eq, reply_eq}
use Rattle.cx_machine.specs.declared.kind.Op.{Op}
use Rattle.cx_machine.specs.declared.kind.Op.TheVariants as ops
use Rattle.cx_scene.specs.Scene.{Scene, registration, stop_of}
use Rattle.cx_items.specs.declared.item.Control.{Control}
use Rattle.cx_items.specs.declared.item.Control.TheVariants as controls
use Rattle.cx_items.specs.declared.item.Item.{Item}
use Rattle.cx_items.specs.declared.item.Item.TheVariants as items
use Rattle.cx_items.specs.declared.form.Wanted.{Wanted}
use Rattle.cx_items.specs.declared.form.Wanted.TheVariants.{Just, ANumber, AThread, AnOutcome}
use Rattle.cx_items.specs.declared.form.Form.{Form}
use Rattle.cx_items.specs.declared.form.Form.TheVariants.{Change, Look, Begin, Does, Says}
use Rattle.cx_items.specs.declared.form.Forms.{Forms}
use Rattle.cx_items.specs.declared.form.Forms.TheVariants.{One, Two, Three}

-- the number of an act word
abbrev pub op_number : Op → ℕ
op_number ops.Lock = 0
op_number ops.TryLock = 1
op_number ops.Unlock = 2
op_number ops.Get = 3
op_number ops.Set = 4
op_number ops.Add = 5
op_number ops.LockShared = 6
op_number ops.TryLockShared = 7
op_number ops.UnlockShared = 8
op_number ops.Release = 9
op_number ops.Acquire = 10
op_number ops.TryAcquire = 11
op_number ops.CountDown = 12
op_number ops.Wait = 13
op_number ops.TryWait = 14
op_number ops.Arrive = 15
op_number ops.Drop = 16
op_number ops.Complete = 17
op_number ops.Begin = 18
op_number ops.Finish = 19
op_number ops.Fail = 20
op_number ops.Passive = 21
op_number ops.Enter = 22
op_number ops.NotifyOne = 23
op_number ops.NotifyAll = 24
op_number ops.Unblock = 25
op_number ops.Withdraw = 26
op_number ops.Request = 27
op_number ops.Already = 28
op_number ops.Another = 29
op_number ops.Register = 30
op_number ops.RegisterNow = 31
op_number ops.Deregister = 32
op_number ops.StopRequested = 33
op_number ops.StopPossible = 34
op_number ops.Never = 35
op_number ops.Drained = 36
op_number ops.Defer = 37
op_number ops.Run = 38
op_number ops.Ready = 39

abbrev pub op_eq : Op → Op → Bool
op_eq o p = op_number o == op_number p

abbrev pub bool_eq : Bool → Bool → Bool
bool_eq true b = b
bool_eq false b = not b

-- the forms of most rows: a change, or a look, with one number and one reply
abbrev pub change : ObjectNo → Op → ℕ → Reply → Form
change o op a r = Change o op (pos a) (pos 0) (Just r)

abbrev pub look : ObjectNo → Op → ℕ → Reply → Form
look o op a r = Look o op (pos a) (pos 0) (Just r)

-- the forms, and one more in front of them
abbrev pub forms_in : Forms → List Form
forms_in (One f) = f ∷ []
forms_in (Two f g) = f ∷ g ∷ []
forms_in (Three f g h) = f ∷ g ∷ h ∷ []

abbrev pub or_first : Form → Forms → Forms
or_first f (One g) = Two f g
or_first f (Two g h) = Three f g h
or_first f (Three g h i) = Three f g h

abbrev pub is_number : Reply → Bool
is_number (replies.Number n) = true
is_number _ = false

abbrev pub is_thread_or_none : Reply → Bool
is_thread_or_none (replies.Thread t) = true
is_thread_or_none replies.Nobody = true
is_thread_or_none _ = false

abbrev pub is_outcome : Reply → Bool
is_outcome (replies.Outcome o) = true
is_outcome _ = false

abbrev pub is_wanted : Wanted → Reply → Bool
is_wanted (Just r) s = reply_eq r s
is_wanted ANumber s = is_number s
is_wanted AThread s = is_thread_or_none s
is_wanted AnOutcome s = is_outcome s

abbrev pub control_eq : Control → Control → Bool
control_eq (controls.Start t begun) (controls.Start u begun') = (t.0 == u.0) && bool_eq begun begun'
control_eq (controls.Launch t begun) (controls.Launch u begun') = (t.0 == u.0) && bool_eq begun begun'
control_eq (controls.Join t) (controls.Join u) = t.0 == u.0
control_eq _ _ = false

abbrev pub control_reply : Control → Reply
control_reply (controls.Start t ok) = if ok then replies.Ok else replies.NoThread
control_reply (controls.Launch t ok) = if ok then replies.Ok else replies.NoThread
control_reply (controls.Join t) = replies.Ok

-- these words are those of the form, and the reply is wanted
abbrev pub same_words : Op → ℤ → ℤ → Wanted → Op → ℤ → ℤ → Reply → Bool
same_words op a b w op' a' b' r = op_eq op op' && int_eq a a' && int_eq b b' && is_wanted w r

-- this number is a callback's that the text registers on this stop state
abbrev pub is_registered_on : Scene → ObjectNo → ℤ → Bool
is_registered_on s st (pos id) = is_stop st (option_and_then (stop_of s) (registration s id))
  where
    is_stop : ObjectNo → Option ObjectNo → Bool
    is_stop st None = false
    is_stop st (Some o) = st.0 == o.0
is_registered_on s st (negsuc n) = false

-- the word that the form left open, where the item is of the form: the reply, or the number of the callback that begins
abbrev pub fits : Scene → Form → Item → Option Reply
fits s (Change o op a b w) (items.Change q p e) = if (o.0 == q.0) && same_words op a b w e.op e.a e.b e.reply then Some e.reply else None
fits s (Look o op a b w) (items.Look q l) = if (o.0 == q.0) && same_words op a b w l.op l.a l.b l.reply then Some l.reply else None
fits s (Begin o) (items.Change q p e) = if (o.0 == q.0) && same_words ops.Begin e.a (pos 0) (Just replies.Ok) e.op e.a e.b e.reply && is_registered_on s o e.a then Some (replies.Number e.a) else None
fits s (Does c) (items.Control d) = if control_eq c d then Some (control_reply c) else None
fits s (Says r) (items.Said q) = if reply_eq r q then Some r else None
fits s _ _ = None
