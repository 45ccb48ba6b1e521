-- The text of a record: the rows of the table of record lines that its items have, and what stands at the open fields of each.
use Rattle.std.specs.Prelude.{ℕ, zero, suc, ◌+◌, ℤ, pos, Bool, true, false, List, [], ◌∷◌, ◌++◌, map, slice_get, Option, Some, None, option_and_then, option_map}
use Rattle.std.specs.List.{flat_map}
use Rattle.cx_names.specs.declared.ThreadNo.{ThreadNo}
use Rattle.cx_names.specs.declared.ObjectNo.{ObjectNo}
use Rattle.cx_names.specs.declared.Outcome.{Outcome}
use Rattle.cx_names.specs.declared.Outcome.TheVariants as outcomes
use Rattle.cx_names.specs.declared.Reply.{Reply}
use Rattle.cx_names.specs.declared.Reply.TheVariants as replies
use Rattle.cx_machine.specs.declared.kind.Kind.{Kind}
use Rattle.cx_machine.specs.declared.kind.Kind.TheVariants as kinds
use Rattle.cx_machine.specs.declared.kind.Op.{Op}
use Rattle.cx_machine.specs.declared.kind.Op.TheVariants as ops
use Rattle.cx_machine.specs.Words.{small_of}
use Rattle.cx_scene.specs.Scene.{Scene, kind_of}
use Rattle.cx_text.specs.declared.form.Field.{Field}
use Rattle.cx_text.specs.declared.form.Field.TheVariants as fields
use Rattle.cx_text.specs.declared.item.ItemForm.{ItemForm}
use Rattle.cx_text.specs.declared.item.ItemForm.TheVariants as forms
use Rattle.cx_text.specs.Items.{items, item_fields}
use Rattle.cx_text.specs.Table.{spelling}
use Rattle.cx_text.specs.Lines.{line_text}
use Rattle.cx_text.specs.Words.{Said, Value, AWord, ANumber, words_by}
use Rattle.cx_script.specs.Script.{Script, Names, name_at, names_in, written}
use Rattle.cx_script.specs.Numbered.{numbered}
use Rattle.cx_items.specs.declared.item.Control.{Control}
use Rattle.cx_items.specs.declared.item.Control.TheVariants as controls
use Rattle.cx_items.specs.declared.item.Item.{Item}
use Rattle.cx_items.specs.declared.item.Item.TheVariants as recorded
use Rattle.cx_history.specs.Histories.{Recorded}

-- ---- which row an item has: by the kind of its object, its word and its reply

-- changes of a mutex
abbrev pub mutex_change : Op → Reply → Option ItemForm
mutex_change ops.Lock replies.Ok = Some forms.ChangeLockLock
mutex_change ops.TryLock replies.True = Some forms.ChangeLockTryLockTrue
mutex_change ops.Unlock replies.Ok = Some forms.ChangeLockUnlock
mutex_change ops.Set replies.Ok = Some forms.ChangeNumbersSetIndexSigned
mutex_change ops.Add (replies.Number r) = Some forms.ChangeNumbersAddIndexSignedSigned
mutex_change _ _ = None

-- changes of a shared mutex
abbrev pub shared_change : Op → Reply → Option ItemForm
shared_change ops.Lock replies.Ok = Some forms.ChangeLockLock
shared_change ops.TryLock replies.True = Some forms.ChangeLockTryLockTrue
shared_change ops.Unlock replies.Ok = Some forms.ChangeLockUnlock
shared_change ops.LockShared replies.Ok = Some forms.ChangeSharedLockShared
shared_change ops.TryLockShared replies.True = Some forms.ChangeSharedTryLockSharedTrue
shared_change ops.UnlockShared replies.Ok = Some forms.ChangeSharedUnlockShared
shared_change _ _ = None

-- changes of a semaphore
abbrev pub semaphore_change : Op → Reply → Option ItemForm
semaphore_change ops.Release replies.Ok = Some forms.ChangeSemaphoreReleaseNumber
semaphore_change ops.Acquire replies.Ok = Some forms.ChangeSemaphoreAcquire
semaphore_change ops.TryAcquire replies.True = Some forms.ChangeSemaphoreTryAcquireTrue
semaphore_change _ _ = None

-- changes of a latch
abbrev pub latch_change : Op → Reply → Option ItemForm
latch_change ops.CountDown replies.Ok = Some forms.ChangeLatchCountDownNumber
latch_change _ _ = None

-- changes of a barrier
abbrev pub barrier_change : Op → Reply → Option ItemForm
barrier_change ops.Arrive (replies.Number p) = Some forms.ChangeBarrierArriveNumberNumber
barrier_change ops.Drop (replies.Number p) = Some forms.ChangeBarrierDropNumber
barrier_change ops.Complete replies.Ok = Some forms.ChangeBarrierComplete
barrier_change _ _ = None

-- changes of a once flag
abbrev pub once_change : Op → Reply → Option ItemForm
once_change ops.Begin replies.Ok = Some forms.ChangeOnceBegin
once_change ops.Finish replies.Ok = Some forms.ChangeOnceFinish
once_change ops.Fail replies.Ok = Some forms.ChangeOnceFailNumber
once_change _ _ = None

-- changes of a condition variable
abbrev pub condition_change : Op → Reply → Option ItemForm
condition_change ops.Enter replies.Ok = Some forms.ChangeConditionEnter
condition_change ops.NotifyOne replies.Nobody = Some forms.ChangeConditionNotifyOneNone
condition_change ops.NotifyOne (replies.Thread t) = Some forms.ChangeConditionNotifyOneAnyThread
condition_change ops.NotifyAll (replies.Number k) = Some forms.ChangeConditionNotifyAllNumber
condition_change ops.Unblock replies.Ok = Some forms.ChangeConditionUnblock
condition_change ops.Withdraw replies.Ok = Some forms.ChangeConditionWithdraw
condition_change _ _ = None

-- changes of a stop state
abbrev pub stop_change : Op → Reply → Option ItemForm
stop_change ops.Request replies.Ok = Some forms.ChangeStopRequest
stop_change ops.Another replies.Ok = Some forms.ChangeStopAnother
stop_change ops.Drop replies.Ok = Some forms.ChangeStopDrop
stop_change ops.Register replies.Ok = Some forms.ChangeStopRegisterNumber
stop_change ops.RegisterNow replies.Ok = Some forms.ChangeStopRegisterNowNumber
stop_change ops.Begin replies.Ok = Some forms.ChangeStopBeginNumber
stop_change ops.Finish replies.Ok = Some forms.ChangeStopFinishNumber
stop_change ops.Deregister replies.Removed = Some forms.ChangeStopDeregisterNumberRemoved
stop_change ops.Deregister replies.Ran = Some forms.ChangeStopDeregisterNumberRan
stop_change ops.Deregister replies.Inside = Some forms.ChangeStopDeregisterNumberInside
stop_change _ _ = None

-- the row of `set OUTCOME`, by the sort of the outcome
abbrev pub set_form : Option ℕ → Option ItemForm
set_form (Some zero) = Some forms.ChangeFutureSetValueSigned
set_form (Some (suc zero)) = Some forms.ChangeFutureSetExceptionNumber
set_form (Some (suc (suc zero))) = Some forms.ChangeFutureSetBrokenPromise
set_form _ = None

-- changes of a future
abbrev pub future_change : Op → Option ℕ → Option ItemForm
future_change ops.Defer a = Some forms.ChangeFutureDefer
future_change ops.Run a = Some forms.ChangeFutureRun
future_change ops.Set a = set_form a
future_change _ a = None

abbrev pub change_form : Kind → Op → ℤ → Reply → Option ItemForm
change_form (kinds.Mutex recursive numbers) op a r = mutex_change op r
change_form kinds.Shared op a r = shared_change op r
change_form (kinds.Semaphore count max) op a r = semaphore_change op r
change_form (kinds.Latch count) op a r = latch_change op r
change_form (kinds.Barrier count) op a r = barrier_change op r
change_form kinds.Once op a r = once_change op r
change_form kinds.Condition op a r = condition_change op r
change_form (kinds.Stop sources) op a r = stop_change op r
change_form kinds.Future op a r = future_change op (small_of a)

-- looks at a mutex
abbrev pub mutex_look : Op → Reply → Option ItemForm
mutex_look ops.TryLock replies.False = Some forms.LookLockTryLockFalse
mutex_look ops.Lock replies.MaxLevels = Some forms.LookNumbersLockMaxLevels
mutex_look ops.Get (replies.Number v) = Some forms.LookNumbersGetIndexSigned
mutex_look ops.Add replies.Overflow = Some forms.LookNumbersAddIndexSignedOverflow
mutex_look _ _ = None

-- looks at a shared mutex
abbrev pub shared_look : Op → Reply → Option ItemForm
shared_look ops.TryLock replies.False = Some forms.LookLockTryLockFalse
shared_look ops.TryLockShared replies.False = Some forms.LookSharedTryLockSharedFalse
shared_look _ _ = None

-- looks at a semaphore
abbrev pub semaphore_look : Op → Reply → Option ItemForm
semaphore_look ops.Release replies.Over = Some forms.LookSemaphoreReleaseNumberOver
semaphore_look ops.TryAcquire replies.False = Some forms.LookSemaphoreTryAcquireFalse
semaphore_look _ _ = None

-- looks at a latch
abbrev pub latch_look : Op → Reply → Option ItemForm
latch_look ops.Wait replies.Ok = Some forms.LookLatchWait
latch_look ops.TryWait replies.True = Some forms.LookLatchTryWaitTrue
latch_look ops.TryWait replies.False = Some forms.LookLatchTryWaitFalse
latch_look _ _ = None

-- looks at a barrier
abbrev pub barrier_look : Op → Reply → Option ItemForm
barrier_look ops.Arrive replies.OverExpected = Some forms.LookBarrierArriveNumberOverExpected
barrier_look ops.Drop replies.OverExpected = Some forms.LookBarrierDropOverExpected
barrier_look ops.Wait replies.Ok = Some forms.LookBarrierWaitNumber
barrier_look _ _ = None

-- looks at a once flag
abbrev pub once_look : Op → Reply → Option ItemForm
once_look ops.Passive replies.Ok = Some forms.LookOncePassive
once_look _ _ = None

-- looks at a stop state
abbrev pub stop_look : Op → Reply → Option ItemForm
stop_look ops.Already replies.Ok = Some forms.LookStopAlready
stop_look ops.StopRequested replies.True = Some forms.LookStopStopRequestedTrue
stop_look ops.StopRequested replies.False = Some forms.LookStopStopRequestedFalse
stop_look ops.StopPossible replies.True = Some forms.LookStopStopPossibleTrue
stop_look ops.StopPossible replies.False = Some forms.LookStopStopPossibleFalse
stop_look ops.Never replies.Ok = Some forms.LookStopNeverNumber
stop_look ops.Drained replies.Ok = Some forms.LookStopDrained
stop_look _ _ = None

-- looks at a future
abbrev pub future_look : Op → Reply → Option ItemForm
future_look ops.Ready (replies.Outcome (outcomes.Value v)) = Some forms.LookFutureReadyValueSigned
future_look ops.Ready (replies.Outcome (outcomes.Exception e)) = Some forms.LookFutureReadyExceptionNumber
future_look ops.Ready (replies.Outcome outcomes.Broken) = Some forms.LookFutureReadyBrokenPromise
future_look _ _ = None

abbrev pub look_form : Kind → Op → Reply → Option ItemForm
look_form (kinds.Mutex recursive numbers) op r = mutex_look op r
look_form kinds.Shared op r = shared_look op r
look_form (kinds.Semaphore count max) op r = semaphore_look op r
look_form (kinds.Latch count) op r = latch_look op r
look_form (kinds.Barrier count) op r = barrier_look op r
look_form kinds.Once op r = once_look op r
look_form kinds.Condition op r = None
look_form (kinds.Stop sources) op r = stop_look op r
look_form kinds.Future op r = future_look op r

abbrev pub control_form : Control → ItemForm
control_form (controls.Start t true) = forms.ControlStartOk
control_form (controls.Start t false) = forms.ControlStartNoThread
control_form (controls.Launch t true) = forms.ControlLaunchOk
control_form (controls.Launch t false) = forms.ControlLaunchNoThread
control_form (controls.Join t) = forms.ControlJoin

abbrev pub reply_form : Reply → ItemForm
reply_form replies.Ok = forms.ReplyOk
reply_form replies.True = forms.ReplyTrue
reply_form replies.False = forms.ReplyFalse
reply_form replies.Over = forms.ReplyOver
reply_form replies.OverExpected = forms.ReplyOverExpected
reply_form replies.MaxLevels = forms.ReplyMaxLevels
reply_form replies.Overflow = forms.ReplyOverflow
reply_form replies.Made = forms.ReplyMade
reply_form replies.Already = forms.ReplyAlready
reply_form replies.Queued = forms.ReplyQueued
reply_form replies.Ran = forms.ReplyRan
reply_form replies.Never = forms.ReplyNever
reply_form replies.Removed = forms.ReplyRemoved
reply_form replies.Inside = forms.ReplyInside
reply_form replies.NotHeld = forms.ReplyNotHeld
reply_form replies.Returned = forms.ReplyReturned
reply_form replies.Passive = forms.ReplyPassive
reply_form replies.NoToken = forms.ReplyNoToken
reply_form replies.Spent = forms.ReplySpent
reply_form replies.NoThread = forms.ReplyNoThread
reply_form replies.Launched = forms.ReplyLaunched
reply_form replies.Deferred = forms.ReplyDeferred
reply_form replies.Nobody = forms.ReplyNone
reply_form replies.NoState = forms.ReplyNoState
reply_form replies.PromiseAlreadySatisfied = forms.ReplyPromiseAlreadySatisfied
reply_form replies.FutureAlreadyRetrieved = forms.ReplyFutureAlreadyRetrieved
reply_form replies.OperationNotPermitted = forms.ReplyOperationNotPermitted
reply_form replies.ResourceDeadlockWouldOccur = forms.ReplyResourceDeadlockWouldOccur
reply_form replies.InvalidArgument = forms.ReplyInvalidArgument
reply_form (replies.Number n) = forms.ReplyNumber
reply_form (replies.Thread t) = forms.ReplyThread
reply_form (replies.Threw e) = forms.ReplyThrewOf
reply_form (replies.Outcome (outcomes.Value v)) = forms.ReplyValueOf
reply_form (replies.Outcome (outcomes.Exception e)) = forms.ReplyExceptionOf
reply_form (replies.Outcome outcomes.Broken) = forms.ReplyBrokenPromise

-- the names of threads and objects and the kinds of objects, by their numbers
pub record Naming : Type 0 where
  pub threads : List (List ℕ)
  pub objects : List (List ℕ)
  pub kinds : List Kind

-- ---- what stands at a row's open fields

abbrev pub number : ℕ → Value
number n = ANumber (pos n)

abbrev pub thread : Naming → ℕ → Value
thread n t = AWord (name_at n.threads t)

-- the number, the thread or the outcome that a reply names
abbrev pub said_value : Naming → Reply → List Value
said_value names (replies.Number n) = ANumber n ∷ []
said_value names (replies.Thread t) = thread names t.0 ∷ []
said_value names (replies.Threw e) = number e ∷ []
said_value names (replies.Outcome (outcomes.Value v)) = ANumber v ∷ []
said_value names (replies.Outcome (outcomes.Exception e)) = number e ∷ []
said_value names _ = []

-- the numbers after the word of an act: an index, a count, an error or an ID, and the value of `set` and `add`
abbrev pub act_numbers : ItemForm → ℤ → ℤ → List Value
act_numbers forms.ChangeNumbersSetIndexSigned a b = ANumber a ∷ ANumber b ∷ []
act_numbers forms.ChangeNumbersAddIndexSignedSigned a b = ANumber a ∷ ANumber b ∷ []
act_numbers forms.LookNumbersAddIndexSignedOverflow a b = ANumber a ∷ ANumber b ∷ []
act_numbers forms.LookNumbersGetIndexSigned a b = ANumber a ∷ []
act_numbers forms.ChangeSemaphoreReleaseNumber a b = ANumber a ∷ []
act_numbers forms.LookSemaphoreReleaseNumberOver a b = ANumber a ∷ []
act_numbers forms.ChangeLatchCountDownNumber a b = ANumber a ∷ []
act_numbers forms.ChangeBarrierArriveNumberNumber a b = ANumber a ∷ []
act_numbers forms.LookBarrierArriveNumberOverExpected a b = ANumber a ∷ []
act_numbers forms.LookBarrierWaitNumber a b = ANumber a ∷ []
act_numbers forms.ChangeOnceFailNumber a b = ANumber a ∷ []
act_numbers forms.ChangeStopRegisterNumber a b = ANumber a ∷ []
act_numbers forms.ChangeStopRegisterNowNumber a b = ANumber a ∷ []
act_numbers forms.ChangeStopBeginNumber a b = ANumber a ∷ []
act_numbers forms.ChangeStopFinishNumber a b = ANumber a ∷ []
act_numbers forms.ChangeStopDeregisterNumberRemoved a b = ANumber a ∷ []
act_numbers forms.ChangeStopDeregisterNumberRan a b = ANumber a ∷ []
act_numbers forms.ChangeStopDeregisterNumberInside a b = ANumber a ∷ []
act_numbers forms.LookStopNeverNumber a b = ANumber a ∷ []
act_numbers forms.ChangeFutureSetValueSigned a b = ANumber b ∷ []
act_numbers forms.ChangeFutureSetExceptionNumber a b = ANumber b ∷ []
act_numbers _ a b = []

-- ---- lines

-- the values of a row: its literal words stand for themselves, at the other fields stands what is given
abbrev pub filled_in : List Field → List Value → List Value
filled_in [] vs = []
filled_in (fields.Word literal ∷ fs) vs = AWord (spelling literal) ∷ filled_in fs vs
filled_in (f ∷ fs) [] = []
filled_in (f ∷ fs) (v ∷ vs) = v ∷ filled_in fs vs

abbrev pub row_line : ItemForm → List Value → Said ItemForm
row_line form vs = record { form = form; values = filled_in (item_fields form) vs }

abbrev pub act_line : Naming → ℕ → ℕ → ℤ → ℤ → Reply → ItemForm → Said ItemForm
act_line names o n a b r form = row_line form (AWord (name_at names.objects o) ∷ number n ∷ act_numbers form a b ++ said_value names r)

abbrev pub controlled : Control → ℕ
controlled (controls.Start t ok) = t.0
controlled (controls.Launch t ok) = t.0
controlled (controls.Join t) = t.0

-- the line of an item, or none where its words are not those of its object's kind
abbrev pub item_line : Naming → Item → Option (Said ItemForm)
item_line names (recorded.Change o p e) = option_map (act_line names o.0 p e.a e.b e.reply) (option_and_then (λ k. change_form k e.op e.a e.reply) (slice_get names.kinds o.0))
item_line names (recorded.Look o l) = option_map (act_line names o.0 l.at l.a l.b l.reply) (option_and_then (λ k. look_form k l.op l.reply) (slice_get names.kinds o.0))
item_line names (recorded.Control c) = Some (row_line (control_form c) (thread names (controlled c) ∷ []))
item_line names (recorded.Said r) = Some (row_line (reply_form r) (said_value names r))

unfoldable pub line_bytes : Said ItemForm → List ℕ
line_bytes l = line_text (words_by items l)

abbrev pub bytes_of : Option (Said ItemForm) → List ℕ
bytes_of None = []
bytes_of (Some l) = line_bytes l

abbrev pub item_text : Naming → Item → List ℕ
item_text names x = bytes_of (item_line names x)

-- the list of a thread, or that it wasn't started
abbrev pub list_text : Naming → ℕ → Option (List Item) → List ℕ
list_text names t None = line_bytes (row_line forms.Unstarted (thread names t ∷ []))
list_text names t (Some xs) = line_bytes (row_line forms.Acts (thread names t ∷ [])) ++ flat_map (item_text names) xs ++ line_bytes (row_line forms.EndOfActs [])

abbrev pub lists_text : Naming → ℕ → List (Option (List Item)) → List ℕ
lists_text names t [] = []
lists_text names t (l ∷ ls) = list_text names t l ++ lists_text names (t + 1) ls

abbrev pub stuck_line : Naming → ℕ → List ℕ
stuck_line names t = line_bytes (row_line forms.StuckAt (thread names t ∷ []))

-- the last line, or one line for each thread that is still live
abbrev pub last_text : Naming → List ℕ → List ℕ
last_text names [] = line_bytes (row_line forms.Done [])
last_text names (t ∷ ts) = flat_map (stuck_line names) (t ∷ ts)

abbrev pub record_text : Naming → Recorded → List ℕ → List ℕ
record_text names r live = line_bytes (row_line forms.RecordOne []) ++ lists_text names 0 r.lists ++ last_text names live

abbrev pub naming_of : Script → Naming
naming_of s = record { threads = (names_in s).threads; objects = (names_in s).objects; kinds = map kind_of (numbered s).objects }

-- what is printed of a scenario and a record of it; `live` are the threads that a stuck replay leaves
abbrev pub printed : Script → Recorded → List ℕ → List ℕ
printed s r live = written s ++ record_text (naming_of s) r live
