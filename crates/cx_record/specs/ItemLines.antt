-- What the lines of a record say.
use Rattle.std.specs.Prelude.{◌≡◌, ℕ, suc, ◌+◌, ℤ, pos, negsuc, Bool, true, false, List, [], ◌∷◌, ◌++◌, slice_get, Option, Some, None, if◌then◌else◌, option_map, option_and_then}
use Rattle.std.specs.Option.{unwrap_or}
use Rattle.cx_names.specs.declared.ThreadNo.{ThreadNo}
use Rattle.cx_names.specs.declared.ObjectNo.{ObjectNo}
use Rattle.cx_names.specs.declared.Outcome.TheVariants as outcomes
use Rattle.cx_names.specs.declared.Reply.{Reply}
use Rattle.cx_names.specs.declared.Reply.TheVariants as replies
use Rattle.cx_machine.specs.declared.kind.Op.{Op}
use Rattle.cx_machine.specs.declared.kind.Op.TheVariants as ops
use Rattle.cx_text.specs.declared.item.ItemForm.{ItemForm}
use Rattle.cx_text.specs.declared.item.ItemForm.TheVariants as forms
use Rattle.cx_text.specs.Words.{Said, or_some}
use Rattle.cx_script.specs.Earlier.{word_in, number_in}
use Rattle.cx_script.specs.Faults.{is_between, count_in}
use Rattle.cx_items.specs.declared.item.Control.{Control}
use Rattle.cx_items.specs.declared.item.Control.TheVariants as controls
use Rattle.cx_items.specs.declared.item.Item.{Item}
use Rattle.cx_items.specs.declared.item.Item.TheVariants as recorded
use Rattle.cx_record.specs.declared.act.Words.{Words}
use Rattle.cx_record.specs.Roster.{Roster, thread_called, object_called}

-- a line that has one of the forms of a record's lines
abbrev pub Line : Type 0
Line = Said ItemForm

-- ---- a line's values

-- the word after the head at place i, and no byte where there is none
abbrev pub word_at : Line → ℕ → List ℕ
word_at l i = word_in (slice_get l.values i)

-- the number after the head at place i, and 0 where there is none
abbrev pub number_at : Line → ℕ → ℤ
number_at l i = number_in (slice_get l.values i)

-- a number where it is within these bounds, and else 0
abbrev pub within : ℤ → ℤ → ℤ → ℤ
within low high n = if is_between low high n then n else pos 0

-- the number of 32 bits after the head at place i, and 0 where there is none
abbrev pub small_at : Line → ℕ → ℕ
small_at l i = count_in (within (pos 0) (pos 4294967295) (number_at l i))

-- the number of 64 bits with a sign after the head at place i, and 0 where there is none
abbrev pub signed_at : Line → ℕ → ℤ
signed_at l i = within (negsuc 9223372036854775807) (pos 9223372036854775807) (number_at l i)

-- the thread that is named after the head at place i
abbrev pub thread_at : Roster → Line → ℕ → ThreadNo
thread_at r l i = record { 0 = unwrap_or (thread_called r (word_at l i)) 0 }

-- the object that is named after the head at place i
abbrev pub object_at : Roster → Line → ℕ → ObjectNo
object_at r l i = record { 0 = unwrap_or (object_called r (word_at l i)) 0 }

-- ---- the words of an act: its word, its numbers and its reply

-- without numbers
abbrev pub bare : Op → Reply → Option Words
bare op reply = Some (record { op = op; a = pos 0; b = pos 0; reply = reply })

-- with one number
abbrev pub with_one : Op → ℕ → Reply → Option Words
with_one op a reply = Some (record { op = op; a = pos a; b = pos 0; reply = reply })

-- with two numbers
abbrev pub with_two : Op → ℕ → ℤ → Reply → Option Words
with_two op a b reply = Some (record { op = op; a = pos a; b = b; reply = reply })

-- what a change says, by the row of its line: OBJECT and POSITION stand at places 0 and 1, the word of the act at place 2
abbrev pub change_words : Roster → Line → ItemForm → Option Words
change_words r l forms.ChangeLockLock = bare ops.Lock replies.Ok
change_words r l forms.ChangeLockTryLockTrue = bare ops.TryLock replies.True
change_words r l forms.ChangeLockUnlock = bare ops.Unlock replies.Ok
change_words r l forms.ChangeNumbersSetIndexSigned = with_two ops.Set (small_at l 3) (signed_at l 4) replies.Ok
change_words r l forms.ChangeNumbersAddIndexSignedSigned = with_two ops.Add (small_at l 3) (signed_at l 4) (replies.Number (signed_at l 5))
change_words r l forms.ChangeSharedLockShared = bare ops.LockShared replies.Ok
change_words r l forms.ChangeSharedTryLockSharedTrue = bare ops.TryLockShared replies.True
change_words r l forms.ChangeSharedUnlockShared = bare ops.UnlockShared replies.Ok
change_words r l forms.ChangeSemaphoreReleaseNumber = with_one ops.Release (small_at l 3) replies.Ok
change_words r l forms.ChangeSemaphoreAcquire = bare ops.Acquire replies.Ok
change_words r l forms.ChangeSemaphoreTryAcquireTrue = bare ops.TryAcquire replies.True
change_words r l forms.ChangeLatchCountDownNumber = with_one ops.CountDown (small_at l 3) replies.Ok
change_words r l forms.ChangeBarrierArriveNumberNumber = with_one ops.Arrive (small_at l 3) (replies.Number (pos (small_at l 4)))
change_words r l forms.ChangeBarrierDropNumber = bare ops.Drop (replies.Number (pos (small_at l 3)))
change_words r l forms.ChangeBarrierComplete = bare ops.Complete replies.Ok
change_words r l forms.ChangeOnceBegin = bare ops.Begin replies.Ok
change_words r l forms.ChangeOnceFinish = bare ops.Finish replies.Ok
change_words r l forms.ChangeOnceFailNumber = with_one ops.Fail (small_at l 3) replies.Ok
change_words r l forms.ChangeConditionEnter = bare ops.Enter replies.Ok
change_words r l forms.ChangeConditionNotifyOneNone = bare ops.NotifyOne replies.Nobody
change_words r l forms.ChangeConditionNotifyOneAnyThread = bare ops.NotifyOne (replies.Thread (thread_at r l 3))
change_words r l forms.ChangeConditionNotifyAllNumber = bare ops.NotifyAll (replies.Number (pos (small_at l 3)))
change_words r l forms.ChangeConditionUnblock = bare ops.Unblock replies.Ok
change_words r l forms.ChangeConditionWithdraw = bare ops.Withdraw replies.Ok
change_words r l forms.ChangeStopRequest = bare ops.Request replies.Ok
change_words r l forms.ChangeStopAnother = bare ops.Another replies.Ok
change_words r l forms.ChangeStopDrop = bare ops.Drop replies.Ok
change_words r l forms.ChangeStopRegisterNumber = with_one ops.Register (small_at l 3) replies.Ok
change_words r l forms.ChangeStopRegisterNowNumber = with_one ops.RegisterNow (small_at l 3) replies.Ok
change_words r l forms.ChangeStopBeginNumber = with_one ops.Begin (small_at l 3) replies.Ok
change_words r l forms.ChangeStopFinishNumber = with_one ops.Finish (small_at l 3) replies.Ok
change_words r l forms.ChangeStopDeregisterNumberRemoved = with_one ops.Deregister (small_at l 3) replies.Removed
change_words r l forms.ChangeStopDeregisterNumberRan = with_one ops.Deregister (small_at l 3) replies.Ran
change_words r l forms.ChangeStopDeregisterNumberInside = with_one ops.Deregister (small_at l 3) replies.Inside
change_words r l forms.ChangeFutureDefer = bare ops.Defer replies.Ok
change_words r l forms.ChangeFutureRun = bare ops.Run replies.Ok
change_words r l forms.ChangeFutureSetValueSigned = with_two ops.Set 0 (signed_at l 4) replies.Ok
change_words r l forms.ChangeFutureSetExceptionNumber = with_two ops.Set 1 (pos (small_at l 4)) replies.Ok
change_words r l forms.ChangeFutureSetBrokenPromise = with_two ops.Set 2 (pos 0) replies.Ok
change_words r l _ = None

-- what a look says, by the row of its line: OBJECT and STAMP stand at places 0 and 1, the word of the act at place 2
abbrev pub look_words : Line → ItemForm → Option Words
look_words l forms.LookLockTryLockFalse = bare ops.TryLock replies.False
look_words l forms.LookNumbersLockMaxLevels = bare ops.Lock replies.MaxLevels
look_words l forms.LookNumbersGetIndexSigned = with_one ops.Get (small_at l 3) (replies.Number (signed_at l 4))
look_words l forms.LookNumbersAddIndexSignedOverflow = with_two ops.Add (small_at l 3) (signed_at l 4) replies.Overflow
look_words l forms.LookSharedTryLockSharedFalse = bare ops.TryLockShared replies.False
look_words l forms.LookSemaphoreReleaseNumberOver = with_one ops.Release (small_at l 3) replies.Over
look_words l forms.LookSemaphoreTryAcquireFalse = bare ops.TryAcquire replies.False
look_words l forms.LookLatchWait = bare ops.Wait replies.Ok
look_words l forms.LookLatchTryWaitTrue = bare ops.TryWait replies.True
look_words l forms.LookLatchTryWaitFalse = bare ops.TryWait replies.False
look_words l forms.LookBarrierArriveNumberOverExpected = with_one ops.Arrive (small_at l 3) replies.OverExpected
look_words l forms.LookBarrierDropOverExpected = bare ops.Drop replies.OverExpected
look_words l forms.LookBarrierWaitNumber = with_one ops.Wait (small_at l 3) replies.Ok
look_words l forms.LookOncePassive = bare ops.Passive replies.Ok
look_words l forms.LookStopAlready = bare ops.Already replies.Ok
look_words l forms.LookStopStopRequestedTrue = bare ops.StopRequested replies.True
look_words l forms.LookStopStopRequestedFalse = bare ops.StopRequested replies.False
look_words l forms.LookStopStopPossibleTrue = bare ops.StopPossible replies.True
look_words l forms.LookStopStopPossibleFalse = bare ops.StopPossible replies.False
look_words l forms.LookStopNeverNumber = with_one ops.Never (small_at l 3) replies.Ok
look_words l forms.LookStopDrained = bare ops.Drained replies.Ok
look_words l forms.LookFutureReadyValueSigned = bare ops.Ready (replies.Outcome (outcomes.Value (signed_at l 4)))
look_words l forms.LookFutureReadyExceptionNumber = bare ops.Ready (replies.Outcome (outcomes.Exception (small_at l 4)))
look_words l forms.LookFutureReadyBrokenPromise = bare ops.Ready (replies.Outcome outcomes.Broken)
look_words l _ = None

-- ---- items

-- what a control says: its word stands at place 0, its thread at place 1
abbrev pub control_said : Roster → Line → ItemForm → Option Control
control_said r l forms.ControlStartOk = Some (controls.Start (thread_at r l 1) true)
control_said r l forms.ControlStartNoThread = Some (controls.Start (thread_at r l 1) false)
control_said r l forms.ControlLaunchOk = Some (controls.Launch (thread_at r l 1) true)
control_said r l forms.ControlLaunchNoThread = Some (controls.Launch (thread_at r l 1) false)
control_said r l forms.ControlJoin = Some (controls.Join (thread_at r l 1))
control_said r l _ = None

-- what a reply says
abbrev pub reply_said : Roster → Line → ItemForm → Option Reply
reply_said r l forms.ReplyOk = Some replies.Ok
reply_said r l forms.ReplyTrue = Some replies.True
reply_said r l forms.ReplyFalse = Some replies.False
reply_said r l forms.ReplyOver = Some replies.Over
reply_said r l forms.ReplyOverExpected = Some replies.OverExpected
reply_said r l forms.ReplyMaxLevels = Some replies.MaxLevels
reply_said r l forms.ReplyOverflow = Some replies.Overflow
reply_said r l forms.ReplyMade = Some replies.Made
reply_said r l forms.ReplyAlready = Some replies.Already
reply_said r l forms.ReplyQueued = Some replies.Queued
reply_said r l forms.ReplyRan = Some replies.Ran
reply_said r l forms.ReplyNever = Some replies.Never
reply_said r l forms.ReplyRemoved = Some replies.Removed
reply_said r l forms.ReplyInside = Some replies.Inside
reply_said r l forms.ReplyNotHeld = Some replies.NotHeld
reply_said r l forms.ReplyReturned = Some replies.Returned
reply_said r l forms.ReplyPassive = Some replies.Passive
reply_said r l forms.ReplyNoToken = Some replies.NoToken
reply_said r l forms.ReplySpent = Some replies.Spent
reply_said r l forms.ReplyNoThread = Some replies.NoThread
reply_said r l forms.ReplyLaunched = Some replies.Launched
reply_said r l forms.ReplyDeferred = Some replies.Deferred
reply_said r l forms.ReplyNone = Some replies.Nobody
reply_said r l forms.ReplyNoState = Some replies.NoState
reply_said r l forms.ReplyPromiseAlreadySatisfied = Some replies.PromiseAlreadySatisfied
reply_said r l forms.ReplyFutureAlreadyRetrieved = Some replies.FutureAlreadyRetrieved
reply_said r l forms.ReplyBrokenPromise = Some (replies.Outcome outcomes.Broken)
reply_said r l forms.ReplyOperationNotPermitted = Some replies.OperationNotPermitted
reply_said r l forms.ReplyResourceDeadlockWouldOccur = Some replies.ResourceDeadlockWouldOccur
reply_said r l forms.ReplyInvalidArgument = Some replies.InvalidArgument
reply_said r l forms.ReplyNumber = Some (replies.Number (signed_at l 0))
reply_said r l forms.ReplyThread = Some (replies.Thread (thread_at r l 0))
reply_said r l forms.ReplyThrewOf = Some (replies.Threw (small_at l 1))
reply_said r l forms.ReplyValueOf = Some (replies.Outcome (outcomes.Value (signed_at l 1)))
reply_said r l forms.ReplyExceptionOf = Some (replies.Outcome (outcomes.Exception (small_at l 1)))
reply_said r l _ = None

-- a change by thread t
abbrev pub as_change : Roster → ℕ → Line → Words → Item
as_change r t l w = recorded.Change (object_at r l 0) (small_at l 1) (record { by = record { 0 = t }; op = w.op; a = w.a; b = w.b; reply = w.reply })

-- a look by thread t
abbrev pub as_look : Roster → ℕ → Line → Words → Item
as_look r t l w = recorded.Look (object_at r l 0) (record { by = record { 0 = t }; op = w.op; a = w.a; b = w.b; reply = w.reply; at = small_at l 1 })

-- the item that a line says in the list of thread t, or none where it's no line of an item
abbrev pub item_said : Roster → ℕ → Line → Option Item
item_said r t l =
    or_some (option_map (as_change r t l) (change_words r l l.form))
    (or_some (option_map (as_look r t l) (look_words l l.form))
    (or_some (option_map recorded.Control (control_said r l l.form))
    (option_map recorded.Said (reply_said r l l.form))))

-- ---- lists

-- the part of a record that a line belongs to; a `stuck` line is only written
pub data Part : Type 0 where
  AVersion : Part
  AList : Part
  AMark : Part
  AnItem : Part
  AnEnd : Part
  TheLast : Part
  AStuck : Part

abbrev pub part_of : ItemForm → Part
part_of forms.RecordOne = AVersion
part_of forms.Acts = AList
part_of forms.Unstarted = AMark
part_of forms.EndOfActs = AnEnd
part_of forms.Done = TheLast
part_of forms.StuckAt = AStuck
part_of _ = AnItem

-- the value, or nothing
abbrev pub as_list : {A : Type 0} → Option A → List A
as_list None = []
as_list (Some x) = x ∷ []

-- this item and those behind it, where a line of this part says an item
abbrev pub with_item : Part → Option Item → List Item → List Item
with_item AnItem x xs = as_list x ++ xs
with_item _ x xs = []

-- the items of thread t from the next line on, up to a line that says none
abbrev pub items_from : Roster → ℕ → List Line → List Item
items_from r t [] = []
items_from r t (l ∷ ls) = with_item (part_of l.form) (item_said r t l) (items_from r t ls)

-- the list that a line of this part stands for, where these items are behind it
abbrev pub list_begun : Part → List Item → List (Option (List Item))
list_begun AList xs = Some xs ∷ []
list_begun AMark xs = None ∷ []
list_begun _ xs = []

-- the thread of the next such line
abbrev pub thread_behind : Part → ℕ → ℕ
thread_behind AList t = suc t
thread_behind AMark t = suc t
thread_behind _ t = t

-- the lists of the threads from t on: one for each `acts` line, and none for each `unstarted` line
abbrev pub lists_from : Roster → ℕ → List Line → List (Option (List Item))
lists_from r t [] = []
lists_from r t (l ∷ ls) = list_begun (part_of l.form) (items_from r t ls) ++ lists_from r (thread_behind (part_of l.form) t) ls
