-- The table of a record's lines, in the shape of the table of a scenario's.
use Rattle.std.specs.Prelude.{ℕ, List, [], ◌∷◌, codes}
use Rattle.cx_text.specs.declared.item.ItemForm.{ItemForm}
use Rattle.cx_text.specs.declared.item.ItemForm.TheVariants as forms
use Rattle.cx_text.specs.declared.item.TheConstants.{ITEM_FORMS}
use Rattle.cx_text.specs.declared.form.Field.{Field}
use Rattle.cx_text.specs.declared.form.Field.TheVariants as fields
use Rattle.cx_text.specs.declared.form.Literal.TheVariants as literals
use Rattle.cx_text.specs.declared.form.Sort.TheVariants as sorts
use Rattle.cx_text.specs.Words.{Table}

abbrev pub item_head : ItemForm → List ℕ
item_head forms.RecordOne = codes "record"
item_head forms.Acts = codes "acts"
item_head forms.Unstarted = codes "unstarted"
item_head forms.EndOfActs = codes "end"
item_head forms.Done = codes "done"
item_head forms.StuckAt = codes "stuck"
item_head forms.ChangeLockLock = codes "+"
item_head forms.ChangeLockTryLockTrue = codes "+"
item_head forms.ChangeLockUnlock = codes "+"
item_head forms.ChangeNumbersSetIndexSigned = codes "+"
item_head forms.ChangeNumbersAddIndexSignedSigned = codes "+"
item_head forms.LookLockTryLockFalse = codes "?"
item_head forms.LookNumbersLockMaxLevels = codes "?"
item_head forms.LookNumbersGetIndexSigned = codes "?"
item_head forms.LookNumbersAddIndexSignedOverflow = codes "?"
item_head forms.ChangeSharedLockShared = codes "+"
item_head forms.ChangeSharedTryLockSharedTrue = codes "+"
item_head forms.ChangeSharedUnlockShared = codes "+"
item_head forms.LookSharedTryLockSharedFalse = codes "?"
item_head forms.ChangeSemaphoreReleaseNumber = codes "+"
item_head forms.ChangeSemaphoreAcquire = codes "+"
item_head forms.ChangeSemaphoreTryAcquireTrue = codes "+"
item_head forms.LookSemaphoreReleaseNumberOver = codes "?"
item_head forms.LookSemaphoreTryAcquireFalse = codes "?"
item_head forms.ChangeLatchCountDownNumber = codes "+"
item_head forms.LookLatchWait = codes "?"
item_head forms.LookLatchTryWaitTrue = codes "?"
item_head forms.LookLatchTryWaitFalse = codes "?"
item_head forms.ChangeBarrierArriveNumberNumber = codes "+"
item_head forms.ChangeBarrierDropNumber = codes "+"
item_head forms.ChangeBarrierComplete = codes "+"
item_head forms.LookBarrierArriveNumberOverExpected = codes "?"
item_head forms.LookBarrierDropOverExpected = codes "?"
item_head forms.LookBarrierWaitNumber = codes "?"
item_head forms.ChangeOnceBegin = codes "+"
item_head forms.ChangeOnceFinish = codes "+"
item_head forms.ChangeOnceFailNumber = codes "+"
item_head forms.LookOncePassive = codes "?"
item_head forms.ChangeConditionEnter = codes "+"
item_head forms.ChangeConditionNotifyOneNone = codes "+"
item_head forms.ChangeConditionNotifyOneAnyThread = codes "+"
item_head forms.ChangeConditionNotifyAllNumber = codes "+"
item_head forms.ChangeConditionUnblock = codes "+"
item_head forms.ChangeConditionWithdraw = codes "+"
item_head forms.ChangeStopRequest = codes "+"
item_head forms.ChangeStopAnother = codes "+"
item_head forms.ChangeStopDrop = codes "+"
item_head forms.ChangeStopRegisterNumber = codes "+"
item_head forms.ChangeStopRegisterNowNumber = codes "+"
item_head forms.ChangeStopBeginNumber = codes "+"
item_head forms.ChangeStopFinishNumber = codes "+"
item_head forms.ChangeStopDeregisterNumberRemoved = codes "+"
item_head forms.ChangeStopDeregisterNumberRan = codes "+"
item_head forms.ChangeStopDeregisterNumberInside = codes "+"
item_head forms.LookStopAlready = codes "?"
item_head forms.LookStopStopRequestedTrue = codes "?"
item_head forms.LookStopStopRequestedFalse = codes "?"
item_head forms.LookStopStopPossibleTrue = codes "?"
item_head forms.LookStopStopPossibleFalse = codes "?"
item_head forms.LookStopNeverNumber = codes "?"
item_head forms.LookStopDrained = codes "?"
item_head forms.ChangeFutureDefer = codes "+"
item_head forms.ChangeFutureRun = codes "+"
item_head forms.ChangeFutureSetValueSigned = codes "+"
item_head forms.ChangeFutureSetExceptionNumber = codes "+"
item_head forms.ChangeFutureSetBrokenPromise = codes "+"
item_head forms.LookFutureReadyValueSigned = codes "?"
item_head forms.LookFutureReadyExceptionNumber = codes "?"
item_head forms.LookFutureReadyBrokenPromise = codes "?"
item_head forms.ControlStartOk = codes "*"
item_head forms.ControlStartNoThread = codes "*"
item_head forms.ControlJoin = codes "*"
item_head forms.ControlLaunchOk = codes "*"
item_head forms.ControlLaunchNoThread = codes "*"
item_head forms.ReplyOk = codes "="
item_head forms.ReplyTrue = codes "="
item_head forms.ReplyFalse = codes "="
item_head forms.ReplyOver = codes "="
item_head forms.ReplyOverExpected = codes "="
item_head forms.ReplyMaxLevels = codes "="
item_head forms.ReplyOverflow = codes "="
item_head forms.ReplyMade = codes "="
item_head forms.ReplyAlready = codes "="
item_head forms.ReplyQueued = codes "="
item_head forms.ReplyRan = codes "="
item_head forms.ReplyNever = codes "="
item_head forms.ReplyRemoved = codes "="
item_head forms.ReplyInside = codes "="
item_head forms.ReplyNotHeld = codes "="
item_head forms.ReplyReturned = codes "="
item_head forms.ReplyPassive = codes "="
item_head forms.ReplyNoToken = codes "="
item_head forms.ReplySpent = codes "="
item_head forms.ReplyNoThread = codes "="
item_head forms.ReplyLaunched = codes "="
item_head forms.ReplyDeferred = codes "="
item_head forms.ReplyNone = codes "="
item_head forms.ReplyNoState = codes "="
item_head forms.ReplyPromiseAlreadySatisfied = codes "="
item_head forms.ReplyFutureAlreadyRetrieved = codes "="
item_head forms.ReplyBrokenPromise = codes "="
item_head forms.ReplyOperationNotPermitted = codes "="
item_head forms.ReplyResourceDeadlockWouldOccur = codes "="
item_head forms.ReplyInvalidArgument = codes "="
item_head forms.ReplyNumber = codes "="
item_head forms.ReplyThread = codes "="
item_head forms.ReplyThrewOf = codes "="
item_head forms.ReplyValueOf = codes "="
item_head forms.ReplyExceptionOf = codes "="

abbrev pub item_fields : ItemForm → List Field
item_fields forms.RecordOne = fields.Word literals.One ∷ []
item_fields forms.Acts = fields.Name sorts.AnyThread ∷ []
item_fields forms.Unstarted = fields.Name sorts.AnyThread ∷ []
item_fields forms.EndOfActs = []
item_fields forms.Done = []
item_fields forms.StuckAt = fields.Name sorts.AnyThread ∷ []
item_fields forms.ChangeLockLock = fields.Name sorts.Lockables ∷ fields.Number 0 268435455 ∷ fields.Word literals.Lock ∷ []
item_fields forms.ChangeLockTryLockTrue = fields.Name sorts.Lockables ∷ fields.Number 0 268435455 ∷ fields.Word literals.TryLock ∷ fields.Word literals.True ∷ []
item_fields forms.ChangeLockUnlock = fields.Name sorts.Lockables ∷ fields.Number 0 268435455 ∷ fields.Word literals.Unlock ∷ []
item_fields forms.ChangeNumbersSetIndexSigned = fields.Name sorts.Mutexes ∷ fields.Number 0 268435455 ∷ fields.Word literals.Set ∷ fields.Index ∷ fields.Signed ∷ []
item_fields forms.ChangeNumbersAddIndexSignedSigned = fields.Name sorts.Mutexes ∷ fields.Number 0 268435455 ∷ fields.Word literals.Add ∷ fields.Index ∷ fields.Signed ∷ fields.Signed ∷ []
item_fields forms.LookLockTryLockFalse = fields.Name sorts.Lockables ∷ fields.Number 0 268435455 ∷ fields.Word literals.TryLock ∷ fields.Word literals.False ∷ []
item_fields forms.LookNumbersLockMaxLevels = fields.Name sorts.Mutexes ∷ fields.Number 0 268435455 ∷ fields.Word literals.Lock ∷ fields.Word literals.MaxLevels ∷ []
item_fields forms.LookNumbersGetIndexSigned = fields.Name sorts.Mutexes ∷ fields.Number 0 268435455 ∷ fields.Word literals.Get ∷ fields.Index ∷ fields.Signed ∷ []
item_fields forms.LookNumbersAddIndexSignedOverflow = fields.Name sorts.Mutexes ∷ fields.Number 0 268435455 ∷ fields.Word literals.Add ∷ fields.Index ∷ fields.Signed ∷ fields.Word literals.Overflow ∷ []
item_fields forms.ChangeSharedLockShared = fields.Name sorts.SharedMutexes ∷ fields.Number 0 268435455 ∷ fields.Word literals.LockShared ∷ []
item_fields forms.ChangeSharedTryLockSharedTrue = fields.Name sorts.SharedMutexes ∷ fields.Number 0 268435455 ∷ fields.Word literals.TryLockShared ∷ fields.Word literals.True ∷ []
item_fields forms.ChangeSharedUnlockShared = fields.Name sorts.SharedMutexes ∷ fields.Number 0 268435455 ∷ fields.Word literals.UnlockShared ∷ []
item_fields forms.LookSharedTryLockSharedFalse = fields.Name sorts.SharedMutexes ∷ fields.Number 0 268435455 ∷ fields.Word literals.TryLockShared ∷ fields.Word literals.False ∷ []
item_fields forms.ChangeSemaphoreReleaseNumber = fields.Name sorts.Semaphores ∷ fields.Number 0 268435455 ∷ fields.Word literals.Release ∷ fields.Number 0 65535 ∷ []
item_fields forms.ChangeSemaphoreAcquire = fields.Name sorts.Semaphores ∷ fields.Number 0 268435455 ∷ fields.Word literals.Acquire ∷ []
item_fields forms.ChangeSemaphoreTryAcquireTrue = fields.Name sorts.Semaphores ∷ fields.Number 0 268435455 ∷ fields.Word literals.TryAcquire ∷ fields.Word literals.True ∷ []
item_fields forms.LookSemaphoreReleaseNumberOver = fields.Name sorts.Semaphores ∷ fields.Number 0 268435455 ∷ fields.Word literals.Release ∷ fields.Number 0 65535 ∷ fields.Word literals.Over ∷ []
item_fields forms.LookSemaphoreTryAcquireFalse = fields.Name sorts.Semaphores ∷ fields.Number 0 268435455 ∷ fields.Word literals.TryAcquire ∷ fields.Word literals.False ∷ []
item_fields forms.ChangeLatchCountDownNumber = fields.Name sorts.Latches ∷ fields.Number 0 268435455 ∷ fields.Word literals.CountDown ∷ fields.Number 0 65535 ∷ []
item_fields forms.LookLatchWait = fields.Name sorts.Latches ∷ fields.Number 0 268435455 ∷ fields.Word literals.Wait ∷ []
item_fields forms.LookLatchTryWaitTrue = fields.Name sorts.Latches ∷ fields.Number 0 268435455 ∷ fields.Word literals.TryWait ∷ fields.Word literals.True ∷ []
item_fields forms.LookLatchTryWaitFalse = fields.Name sorts.Latches ∷ fields.Number 0 268435455 ∷ fields.Word literals.TryWait ∷ fields.Word literals.False ∷ []
item_fields forms.ChangeBarrierArriveNumberNumber = fields.Name sorts.Barriers ∷ fields.Number 0 268435455 ∷ fields.Word literals.Arrive ∷ fields.Number 1 4096 ∷ fields.Number 0 4294967295 ∷ []
item_fields forms.ChangeBarrierDropNumber = fields.Name sorts.Barriers ∷ fields.Number 0 268435455 ∷ fields.Word literals.Drop ∷ fields.Number 0 4294967295 ∷ []
item_fields forms.ChangeBarrierComplete = fields.Name sorts.Barriers ∷ fields.Number 0 268435455 ∷ fields.Word literals.Complete ∷ []
item_fields forms.LookBarrierArriveNumberOverExpected = fields.Name sorts.Barriers ∷ fields.Number 0 268435455 ∷ fields.Word literals.Arrive ∷ fields.Number 1 4096 ∷ fields.Word literals.OverExpected ∷ []
item_fields forms.LookBarrierDropOverExpected = fields.Name sorts.Barriers ∷ fields.Number 0 268435455 ∷ fields.Word literals.Drop ∷ fields.Word literals.OverExpected ∷ []
item_fields forms.LookBarrierWaitNumber = fields.Name sorts.Barriers ∷ fields.Number 0 268435455 ∷ fields.Word literals.Wait ∷ fields.Number 0 4294967295 ∷ []
item_fields forms.ChangeOnceBegin = fields.Name sorts.Onces ∷ fields.Number 0 268435455 ∷ fields.Word literals.Begin ∷ []
item_fields forms.ChangeOnceFinish = fields.Name sorts.Onces ∷ fields.Number 0 268435455 ∷ fields.Word literals.Finish ∷ []
item_fields forms.ChangeOnceFailNumber = fields.Name sorts.Onces ∷ fields.Number 0 268435455 ∷ fields.Word literals.Fail ∷ fields.Number 0 4294967295 ∷ []
item_fields forms.LookOncePassive = fields.Name sorts.Onces ∷ fields.Number 0 268435455 ∷ fields.Word literals.Passive ∷ []
item_fields forms.ChangeConditionEnter = fields.Name sorts.Conditions ∷ fields.Number 0 268435455 ∷ fields.Word literals.Enter ∷ []
item_fields forms.ChangeConditionNotifyOneNone = fields.Name sorts.Conditions ∷ fields.Number 0 268435455 ∷ fields.Word literals.NotifyOne ∷ fields.Word literals.None ∷ []
item_fields forms.ChangeConditionNotifyOneAnyThread = fields.Name sorts.Conditions ∷ fields.Number 0 268435455 ∷ fields.Word literals.NotifyOne ∷ fields.Name sorts.AnyThread ∷ []
item_fields forms.ChangeConditionNotifyAllNumber = fields.Name sorts.Conditions ∷ fields.Number 0 268435455 ∷ fields.Word literals.NotifyAll ∷ fields.Number 0 4294967295 ∷ []
item_fields forms.ChangeConditionUnblock = fields.Name sorts.Conditions ∷ fields.Number 0 268435455 ∷ fields.Word literals.Unblock ∷ []
item_fields forms.ChangeConditionWithdraw = fields.Name sorts.Conditions ∷ fields.Number 0 268435455 ∷ fields.Word literals.Withdraw ∷ []
item_fields forms.ChangeStopRequest = fields.Name sorts.StopStates ∷ fields.Number 0 268435455 ∷ fields.Word literals.Request ∷ []
item_fields forms.ChangeStopAnother = fields.Name sorts.StopStates ∷ fields.Number 0 268435455 ∷ fields.Word literals.Another ∷ []
item_fields forms.ChangeStopDrop = fields.Name sorts.StopStates ∷ fields.Number 0 268435455 ∷ fields.Word literals.Drop ∷ []
item_fields forms.ChangeStopRegisterNumber = fields.Name sorts.StopStates ∷ fields.Number 0 268435455 ∷ fields.Word literals.Register ∷ fields.Number 0 4294967295 ∷ []
item_fields forms.ChangeStopRegisterNowNumber = fields.Name sorts.StopStates ∷ fields.Number 0 268435455 ∷ fields.Word literals.RegisterNow ∷ fields.Number 0 4294967295 ∷ []
item_fields forms.ChangeStopBeginNumber = fields.Name sorts.StopStates ∷ fields.Number 0 268435455 ∷ fields.Word literals.Begin ∷ fields.Number 0 4294967295 ∷ []
item_fields forms.ChangeStopFinishNumber = fields.Name sorts.StopStates ∷ fields.Number 0 268435455 ∷ fields.Word literals.Finish ∷ fields.Number 0 4294967295 ∷ []
item_fields forms.ChangeStopDeregisterNumberRemoved = fields.Name sorts.StopStates ∷ fields.Number 0 268435455 ∷ fields.Word literals.Deregister ∷ fields.Number 0 4294967295 ∷ fields.Word literals.Removed ∷ []
item_fields forms.ChangeStopDeregisterNumberRan = fields.Name sorts.StopStates ∷ fields.Number 0 268435455 ∷ fields.Word literals.Deregister ∷ fields.Number 0 4294967295 ∷ fields.Word literals.Ran ∷ []
item_fields forms.ChangeStopDeregisterNumberInside = fields.Name sorts.StopStates ∷ fields.Number 0 268435455 ∷ fields.Word literals.Deregister ∷ fields.Number 0 4294967295 ∷ fields.Word literals.Inside ∷ []
item_fields forms.LookStopAlready = fields.Name sorts.StopStates ∷ fields.Number 0 268435455 ∷ fields.Word literals.Already ∷ []
item_fields forms.LookStopStopRequestedTrue = fields.Name sorts.StopStates ∷ fields.Number 0 268435455 ∷ fields.Word literals.StopRequested ∷ fields.Word literals.True ∷ []
item_fields forms.LookStopStopRequestedFalse = fields.Name sorts.StopStates ∷ fields.Number 0 268435455 ∷ fields.Word literals.StopRequested ∷ fields.Word literals.False ∷ []
item_fields forms.LookStopStopPossibleTrue = fields.Name sorts.StopStates ∷ fields.Number 0 268435455 ∷ fields.Word literals.StopPossible ∷ fields.Word literals.True ∷ []
item_fields forms.LookStopStopPossibleFalse = fields.Name sorts.StopStates ∷ fields.Number 0 268435455 ∷ fields.Word literals.StopPossible ∷ fields.Word literals.False ∷ []
item_fields forms.LookStopNeverNumber = fields.Name sorts.StopStates ∷ fields.Number 0 268435455 ∷ fields.Word literals.Never ∷ fields.Number 0 4294967295 ∷ []
item_fields forms.LookStopDrained = fields.Name sorts.StopStates ∷ fields.Number 0 268435455 ∷ fields.Word literals.Drained ∷ []
item_fields forms.ChangeFutureDefer = fields.Name sorts.Settling ∷ fields.Number 0 268435455 ∷ fields.Word literals.Defer ∷ []
item_fields forms.ChangeFutureRun = fields.Name sorts.Settling ∷ fields.Number 0 268435455 ∷ fields.Word literals.Run ∷ []
item_fields forms.ChangeFutureSetValueSigned = fields.Name sorts.Settling ∷ fields.Number 0 268435455 ∷ fields.Word literals.Set ∷ fields.Word literals.Value ∷ fields.Signed ∷ []
item_fields forms.ChangeFutureSetExceptionNumber = fields.Name sorts.Settling ∷ fields.Number 0 268435455 ∷ fields.Word literals.Set ∷ fields.Word literals.Exception ∷ fields.Number 0 4294967295 ∷ []
item_fields forms.ChangeFutureSetBrokenPromise = fields.Name sorts.Settling ∷ fields.Number 0 268435455 ∷ fields.Word literals.Set ∷ fields.Word literals.BrokenPromise ∷ []
item_fields forms.LookFutureReadyValueSigned = fields.Name sorts.Settling ∷ fields.Number 0 268435455 ∷ fields.Word literals.Ready ∷ fields.Word literals.Value ∷ fields.Signed ∷ []
item_fields forms.LookFutureReadyExceptionNumber = fields.Name sorts.Settling ∷ fields.Number 0 268435455 ∷ fields.Word literals.Ready ∷ fields.Word literals.Exception ∷ fields.Number 0 4294967295 ∷ []
item_fields forms.LookFutureReadyBrokenPromise = fields.Name sorts.Settling ∷ fields.Number 0 268435455 ∷ fields.Word literals.Ready ∷ fields.Word literals.BrokenPromise ∷ []
item_fields forms.ControlStartOk = fields.Word literals.Start ∷ fields.Name sorts.OfThread ∷ fields.Word literals.Ok ∷ []
item_fields forms.ControlStartNoThread = fields.Word literals.Start ∷ fields.Name sorts.OfThread ∷ fields.Word literals.NoThread ∷ []
item_fields forms.ControlJoin = fields.Word literals.Join ∷ fields.Name sorts.OfThread ∷ []
item_fields forms.ControlLaunchOk = fields.Word literals.Launch ∷ fields.Name sorts.OfAsync ∷ fields.Word literals.Ok ∷ []
item_fields forms.ControlLaunchNoThread = fields.Word literals.Launch ∷ fields.Name sorts.OfAsync ∷ fields.Word literals.NoThread ∷ []
item_fields forms.ReplyOk = fields.Word literals.Ok ∷ []
item_fields forms.ReplyTrue = fields.Word literals.True ∷ []
item_fields forms.ReplyFalse = fields.Word literals.False ∷ []
item_fields forms.ReplyOver = fields.Word literals.Over ∷ []
item_fields forms.ReplyOverExpected = fields.Word literals.OverExpected ∷ []
item_fields forms.ReplyMaxLevels = fields.Word literals.MaxLevels ∷ []
item_fields forms.ReplyOverflow = fields.Word literals.Overflow ∷ []
item_fields forms.ReplyMade = fields.Word literals.Made ∷ []
item_fields forms.ReplyAlready = fields.Word literals.Already ∷ []
item_fields forms.ReplyQueued = fields.Word literals.Queued ∷ []
item_fields forms.ReplyRan = fields.Word literals.Ran ∷ []
item_fields forms.ReplyNever = fields.Word literals.Never ∷ []
item_fields forms.ReplyRemoved = fields.Word literals.Removed ∷ []
item_fields forms.ReplyInside = fields.Word literals.Inside ∷ []
item_fields forms.ReplyNotHeld = fields.Word literals.NotHeld ∷ []
item_fields forms.ReplyReturned = fields.Word literals.Returned ∷ []
item_fields forms.ReplyPassive = fields.Word literals.Passive ∷ []
item_fields forms.ReplyNoToken = fields.Word literals.NoToken ∷ []
item_fields forms.ReplySpent = fields.Word literals.Spent ∷ []
item_fields forms.ReplyNoThread = fields.Word literals.NoThread ∷ []
item_fields forms.ReplyLaunched = fields.Word literals.Launched ∷ []
item_fields forms.ReplyDeferred = fields.Word literals.Deferred ∷ []
item_fields forms.ReplyNone = fields.Word literals.None ∷ []
item_fields forms.ReplyNoState = fields.Word literals.NoState ∷ []
item_fields forms.ReplyPromiseAlreadySatisfied = fields.Word literals.PromiseAlreadySatisfied ∷ []
item_fields forms.ReplyFutureAlreadyRetrieved = fields.Word literals.FutureAlreadyRetrieved ∷ []
item_fields forms.ReplyBrokenPromise = fields.Word literals.BrokenPromise ∷ []
item_fields forms.ReplyOperationNotPermitted = fields.Word literals.OperationNotPermitted ∷ []
item_fields forms.ReplyResourceDeadlockWouldOccur = fields.Word literals.ResourceDeadlockWouldOccur ∷ []
item_fields forms.ReplyInvalidArgument = fields.Word literals.InvalidArgument ∷ []
item_fields forms.ReplyNumber = fields.Signed ∷ []
item_fields forms.ReplyThread = fields.Name sorts.AnyThread ∷ []
item_fields forms.ReplyThrewOf = fields.Word literals.Threw ∷ fields.Number 0 4294967295 ∷ []
item_fields forms.ReplyValueOf = fields.Word literals.Value ∷ fields.Signed ∷ []
item_fields forms.ReplyExceptionOf = fields.Word literals.Exception ∷ fields.Number 0 4294967295 ∷ []

-- a `stuck` line is only written
abbrev pub item_since : ItemForm → ℕ
item_since forms.StuckAt = 3
item_since _ = 1

abbrev pub items : Table ItemForm
items = record { forms = ITEM_FORMS; head = item_head; fields = item_fields; since = item_since }
