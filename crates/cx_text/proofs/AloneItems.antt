-- For rows of a record's table: the words of such a line belong to it alone.
use Rattle.std.proofs.Common.{[], ◌∷◌, refl}
use Rattle.cx_text.specs.declared.item.ItemForm.TheVariants as forms
use Rattle.cx_text.specs.declared.form.Literal.TheVariants as literals
use Rattle.cx_text.specs.Table.{spelling}
use Rattle.cx_text.specs.Words.{Value, AWord, rows_for}
use Rattle.cx_text.specs.Items.{items}
use Rattle.cx_text.proofs.Rows.{IsAlone}

pub alone_recordone : IsAlone items 1 (record { form = forms.RecordOne; values = AWord (spelling literals.One) ∷ [] })
unfolding rows_for
alone_recordone = refl

pub alone_acts : (v0 : Value) → IsAlone items 1 (record { form = forms.Acts; values = v0 ∷ [] })
unfolding rows_for
alone_acts v0 = refl

pub alone_unstarted : (v0 : Value) → IsAlone items 1 (record { form = forms.Unstarted; values = v0 ∷ [] })
unfolding rows_for
alone_unstarted v0 = refl

pub alone_endofacts : IsAlone items 1 (record { form = forms.EndOfActs; values = [] })
unfolding rows_for
alone_endofacts = refl

pub alone_done : IsAlone items 1 (record { form = forms.Done; values = [] })
unfolding rows_for
alone_done = refl

pub alone_changelocklock : (v0 v1 : Value) → IsAlone items 1 (record { form = forms.ChangeLockLock; values = v0 ∷ v1 ∷ AWord (spelling literals.Lock) ∷ [] })
unfolding rows_for
alone_changelocklock v0 v1 = refl

pub alone_changelocktrylocktrue : (v0 v1 : Value) → IsAlone items 1 (record { form = forms.ChangeLockTryLockTrue; values = v0 ∷ v1 ∷ AWord (spelling literals.TryLock) ∷ AWord (spelling literals.True) ∷ [] })
unfolding rows_for
alone_changelocktrylocktrue v0 v1 = refl

pub alone_changelockunlock : (v0 v1 : Value) → IsAlone items 1 (record { form = forms.ChangeLockUnlock; values = v0 ∷ v1 ∷ AWord (spelling literals.Unlock) ∷ [] })
unfolding rows_for
alone_changelockunlock v0 v1 = refl

pub alone_changenumbersaddindexsignedsigned : (v0 v1 v3 v4 v5 : Value) → IsAlone items 1 (record { form = forms.ChangeNumbersAddIndexSignedSigned; values = v0 ∷ v1 ∷ AWord (spelling literals.Add) ∷ v3 ∷ v4 ∷ v5 ∷ [] })
unfolding rows_for
alone_changenumbersaddindexsignedsigned v0 v1 v3 v4 v5 = refl

pub alone_looklocktrylockfalse : (v0 v1 : Value) → IsAlone items 1 (record { form = forms.LookLockTryLockFalse; values = v0 ∷ v1 ∷ AWord (spelling literals.TryLock) ∷ AWord (spelling literals.False) ∷ [] })
unfolding rows_for
alone_looklocktrylockfalse v0 v1 = refl

pub alone_looknumberslockmaxlevels : (v0 v1 : Value) → IsAlone items 1 (record { form = forms.LookNumbersLockMaxLevels; values = v0 ∷ v1 ∷ AWord (spelling literals.Lock) ∷ AWord (spelling literals.MaxLevels) ∷ [] })
unfolding rows_for
alone_looknumberslockmaxlevels v0 v1 = refl

pub alone_looknumbersgetindexsigned : (v0 v1 v3 v4 : Value) → IsAlone items 1 (record { form = forms.LookNumbersGetIndexSigned; values = v0 ∷ v1 ∷ AWord (spelling literals.Get) ∷ v3 ∷ v4 ∷ [] })
unfolding rows_for
alone_looknumbersgetindexsigned v0 v1 v3 v4 = refl

pub alone_looknumbersaddindexsignedoverflow : (v0 v1 v3 v4 : Value) → IsAlone items 1 (record { form = forms.LookNumbersAddIndexSignedOverflow; values = v0 ∷ v1 ∷ AWord (spelling literals.Add) ∷ v3 ∷ v4 ∷ AWord (spelling literals.Overflow) ∷ [] })
unfolding rows_for
alone_looknumbersaddindexsignedoverflow v0 v1 v3 v4 = refl

pub alone_changesharedlockshared : (v0 v1 : Value) → IsAlone items 1 (record { form = forms.ChangeSharedLockShared; values = v0 ∷ v1 ∷ AWord (spelling literals.LockShared) ∷ [] })
unfolding rows_for
alone_changesharedlockshared v0 v1 = refl

pub alone_changesharedtrylocksharedtrue : (v0 v1 : Value) → IsAlone items 1 (record { form = forms.ChangeSharedTryLockSharedTrue; values = v0 ∷ v1 ∷ AWord (spelling literals.TryLockShared) ∷ AWord (spelling literals.True) ∷ [] })
unfolding rows_for
alone_changesharedtrylocksharedtrue v0 v1 = refl

pub alone_changesharedunlockshared : (v0 v1 : Value) → IsAlone items 1 (record { form = forms.ChangeSharedUnlockShared; values = v0 ∷ v1 ∷ AWord (spelling literals.UnlockShared) ∷ [] })
unfolding rows_for
alone_changesharedunlockshared v0 v1 = refl

pub alone_looksharedtrylocksharedfalse : (v0 v1 : Value) → IsAlone items 1 (record { form = forms.LookSharedTryLockSharedFalse; values = v0 ∷ v1 ∷ AWord (spelling literals.TryLockShared) ∷ AWord (spelling literals.False) ∷ [] })
unfolding rows_for
alone_looksharedtrylocksharedfalse v0 v1 = refl

pub alone_changesemaphorereleasenumber : (v0 v1 v3 : Value) → IsAlone items 1 (record { form = forms.ChangeSemaphoreReleaseNumber; values = v0 ∷ v1 ∷ AWord (spelling literals.Release) ∷ v3 ∷ [] })
unfolding rows_for
alone_changesemaphorereleasenumber v0 v1 v3 = refl

pub alone_changesemaphoreacquire : (v0 v1 : Value) → IsAlone items 1 (record { form = forms.ChangeSemaphoreAcquire; values = v0 ∷ v1 ∷ AWord (spelling literals.Acquire) ∷ [] })
unfolding rows_for
alone_changesemaphoreacquire v0 v1 = refl

pub alone_changesemaphoretryacquiretrue : (v0 v1 : Value) → IsAlone items 1 (record { form = forms.ChangeSemaphoreTryAcquireTrue; values = v0 ∷ v1 ∷ AWord (spelling literals.TryAcquire) ∷ AWord (spelling literals.True) ∷ [] })
unfolding rows_for
alone_changesemaphoretryacquiretrue v0 v1 = refl

pub alone_looksemaphorereleasenumberover : (v0 v1 v3 : Value) → IsAlone items 1 (record { form = forms.LookSemaphoreReleaseNumberOver; values = v0 ∷ v1 ∷ AWord (spelling literals.Release) ∷ v3 ∷ AWord (spelling literals.Over) ∷ [] })
unfolding rows_for
alone_looksemaphorereleasenumberover v0 v1 v3 = refl

pub alone_looksemaphoretryacquirefalse : (v0 v1 : Value) → IsAlone items 1 (record { form = forms.LookSemaphoreTryAcquireFalse; values = v0 ∷ v1 ∷ AWord (spelling literals.TryAcquire) ∷ AWord (spelling literals.False) ∷ [] })
unfolding rows_for
alone_looksemaphoretryacquirefalse v0 v1 = refl

pub alone_changelatchcountdownnumber : (v0 v1 v3 : Value) → IsAlone items 1 (record { form = forms.ChangeLatchCountDownNumber; values = v0 ∷ v1 ∷ AWord (spelling literals.CountDown) ∷ v3 ∷ [] })
unfolding rows_for
alone_changelatchcountdownnumber v0 v1 v3 = refl

pub alone_looklatchwait : (v0 v1 : Value) → IsAlone items 1 (record { form = forms.LookLatchWait; values = v0 ∷ v1 ∷ AWord (spelling literals.Wait) ∷ [] })
unfolding rows_for
alone_looklatchwait v0 v1 = refl

pub alone_looklatchtrywaittrue : (v0 v1 : Value) → IsAlone items 1 (record { form = forms.LookLatchTryWaitTrue; values = v0 ∷ v1 ∷ AWord (spelling literals.TryWait) ∷ AWord (spelling literals.True) ∷ [] })
unfolding rows_for
alone_looklatchtrywaittrue v0 v1 = refl

pub alone_looklatchtrywaitfalse : (v0 v1 : Value) → IsAlone items 1 (record { form = forms.LookLatchTryWaitFalse; values = v0 ∷ v1 ∷ AWord (spelling literals.TryWait) ∷ AWord (spelling literals.False) ∷ [] })
unfolding rows_for
alone_looklatchtrywaitfalse v0 v1 = refl

pub alone_changebarrierarrivenumbernumber : (v0 v1 v3 v4 : Value) → IsAlone items 1 (record { form = forms.ChangeBarrierArriveNumberNumber; values = v0 ∷ v1 ∷ AWord (spelling literals.Arrive) ∷ v3 ∷ v4 ∷ [] })
unfolding rows_for
alone_changebarrierarrivenumbernumber v0 v1 v3 v4 = refl

pub alone_changebarrierdropnumber : (v0 v1 v3 : Value) → IsAlone items 1 (record { form = forms.ChangeBarrierDropNumber; values = v0 ∷ v1 ∷ AWord (spelling literals.Drop) ∷ v3 ∷ [] })
unfolding rows_for
alone_changebarrierdropnumber v0 v1 v3 = refl

pub alone_changebarriercomplete : (v0 v1 : Value) → IsAlone items 1 (record { form = forms.ChangeBarrierComplete; values = v0 ∷ v1 ∷ AWord (spelling literals.Complete) ∷ [] })
unfolding rows_for
alone_changebarriercomplete v0 v1 = refl

pub alone_lookbarrierarrivenumberoverexpected : (v0 v1 v3 : Value) → IsAlone items 1 (record { form = forms.LookBarrierArriveNumberOverExpected; values = v0 ∷ v1 ∷ AWord (spelling literals.Arrive) ∷ v3 ∷ AWord (spelling literals.OverExpected) ∷ [] })
unfolding rows_for
alone_lookbarrierarrivenumberoverexpected v0 v1 v3 = refl

pub alone_lookbarrierdropoverexpected : (v0 v1 : Value) → IsAlone items 1 (record { form = forms.LookBarrierDropOverExpected; values = v0 ∷ v1 ∷ AWord (spelling literals.Drop) ∷ AWord (spelling literals.OverExpected) ∷ [] })
unfolding rows_for
alone_lookbarrierdropoverexpected v0 v1 = refl

pub alone_lookbarrierwaitnumber : (v0 v1 v3 : Value) → IsAlone items 1 (record { form = forms.LookBarrierWaitNumber; values = v0 ∷ v1 ∷ AWord (spelling literals.Wait) ∷ v3 ∷ [] })
unfolding rows_for
alone_lookbarrierwaitnumber v0 v1 v3 = refl

pub alone_changeoncebegin : (v0 v1 : Value) → IsAlone items 1 (record { form = forms.ChangeOnceBegin; values = v0 ∷ v1 ∷ AWord (spelling literals.Begin) ∷ [] })
unfolding rows_for
alone_changeoncebegin v0 v1 = refl

pub alone_changeoncefinish : (v0 v1 : Value) → IsAlone items 1 (record { form = forms.ChangeOnceFinish; values = v0 ∷ v1 ∷ AWord (spelling literals.Finish) ∷ [] })
unfolding rows_for
alone_changeoncefinish v0 v1 = refl

pub alone_changeoncefailnumber : (v0 v1 v3 : Value) → IsAlone items 1 (record { form = forms.ChangeOnceFailNumber; values = v0 ∷ v1 ∷ AWord (spelling literals.Fail) ∷ v3 ∷ [] })
unfolding rows_for
alone_changeoncefailnumber v0 v1 v3 = refl

pub alone_lookoncepassive : (v0 v1 : Value) → IsAlone items 1 (record { form = forms.LookOncePassive; values = v0 ∷ v1 ∷ AWord (spelling literals.Passive) ∷ [] })
unfolding rows_for
alone_lookoncepassive v0 v1 = refl

pub alone_changeconditionenter : (v0 v1 : Value) → IsAlone items 1 (record { form = forms.ChangeConditionEnter; values = v0 ∷ v1 ∷ AWord (spelling literals.Enter) ∷ [] })
unfolding rows_for
alone_changeconditionenter v0 v1 = refl

pub alone_changeconditionnotifyallnumber : (v0 v1 v3 : Value) → IsAlone items 1 (record { form = forms.ChangeConditionNotifyAllNumber; values = v0 ∷ v1 ∷ AWord (spelling literals.NotifyAll) ∷ v3 ∷ [] })
unfolding rows_for
alone_changeconditionnotifyallnumber v0 v1 v3 = refl

pub alone_changeconditionunblock : (v0 v1 : Value) → IsAlone items 1 (record { form = forms.ChangeConditionUnblock; values = v0 ∷ v1 ∷ AWord (spelling literals.Unblock) ∷ [] })
unfolding rows_for
alone_changeconditionunblock v0 v1 = refl

pub alone_changeconditionwithdraw : (v0 v1 : Value) → IsAlone items 1 (record { form = forms.ChangeConditionWithdraw; values = v0 ∷ v1 ∷ AWord (spelling literals.Withdraw) ∷ [] })
unfolding rows_for
alone_changeconditionwithdraw v0 v1 = refl

pub alone_changestoprequest : (v0 v1 : Value) → IsAlone items 1 (record { form = forms.ChangeStopRequest; values = v0 ∷ v1 ∷ AWord (spelling literals.Request) ∷ [] })
unfolding rows_for
alone_changestoprequest v0 v1 = refl

pub alone_changestopanother : (v0 v1 : Value) → IsAlone items 1 (record { form = forms.ChangeStopAnother; values = v0 ∷ v1 ∷ AWord (spelling literals.Another) ∷ [] })
unfolding rows_for
alone_changestopanother v0 v1 = refl

pub alone_changestopdrop : (v0 v1 : Value) → IsAlone items 1 (record { form = forms.ChangeStopDrop; values = v0 ∷ v1 ∷ AWord (spelling literals.Drop) ∷ [] })
unfolding rows_for
alone_changestopdrop v0 v1 = refl

pub alone_changestopregisternumber : (v0 v1 v3 : Value) → IsAlone items 1 (record { form = forms.ChangeStopRegisterNumber; values = v0 ∷ v1 ∷ AWord (spelling literals.Register) ∷ v3 ∷ [] })
unfolding rows_for
alone_changestopregisternumber v0 v1 v3 = refl

pub alone_changestopregisternownumber : (v0 v1 v3 : Value) → IsAlone items 1 (record { form = forms.ChangeStopRegisterNowNumber; values = v0 ∷ v1 ∷ AWord (spelling literals.RegisterNow) ∷ v3 ∷ [] })
unfolding rows_for
alone_changestopregisternownumber v0 v1 v3 = refl

pub alone_changestopbeginnumber : (v0 v1 v3 : Value) → IsAlone items 1 (record { form = forms.ChangeStopBeginNumber; values = v0 ∷ v1 ∷ AWord (spelling literals.Begin) ∷ v3 ∷ [] })
unfolding rows_for
alone_changestopbeginnumber v0 v1 v3 = refl

pub alone_changestopfinishnumber : (v0 v1 v3 : Value) → IsAlone items 1 (record { form = forms.ChangeStopFinishNumber; values = v0 ∷ v1 ∷ AWord (spelling literals.Finish) ∷ v3 ∷ [] })
unfolding rows_for
alone_changestopfinishnumber v0 v1 v3 = refl

pub alone_changestopderegisternumberremoved : (v0 v1 v3 : Value) → IsAlone items 1 (record { form = forms.ChangeStopDeregisterNumberRemoved; values = v0 ∷ v1 ∷ AWord (spelling literals.Deregister) ∷ v3 ∷ AWord (spelling literals.Removed) ∷ [] })
unfolding rows_for
alone_changestopderegisternumberremoved v0 v1 v3 = refl

pub alone_changestopderegisternumberran : (v0 v1 v3 : Value) → IsAlone items 1 (record { form = forms.ChangeStopDeregisterNumberRan; values = v0 ∷ v1 ∷ AWord (spelling literals.Deregister) ∷ v3 ∷ AWord (spelling literals.Ran) ∷ [] })
unfolding rows_for
alone_changestopderegisternumberran v0 v1 v3 = refl

pub alone_changestopderegisternumberinside : (v0 v1 v3 : Value) → IsAlone items 1 (record { form = forms.ChangeStopDeregisterNumberInside; values = v0 ∷ v1 ∷ AWord (spelling literals.Deregister) ∷ v3 ∷ AWord (spelling literals.Inside) ∷ [] })
unfolding rows_for
alone_changestopderegisternumberinside v0 v1 v3 = refl

pub alone_lookstopalready : (v0 v1 : Value) → IsAlone items 1 (record { form = forms.LookStopAlready; values = v0 ∷ v1 ∷ AWord (spelling literals.Already) ∷ [] })
unfolding rows_for
alone_lookstopalready v0 v1 = refl

pub alone_lookstopstoprequestedtrue : (v0 v1 : Value) → IsAlone items 1 (record { form = forms.LookStopStopRequestedTrue; values = v0 ∷ v1 ∷ AWord (spelling literals.StopRequested) ∷ AWord (spelling literals.True) ∷ [] })
unfolding rows_for
alone_lookstopstoprequestedtrue v0 v1 = refl

pub alone_lookstopstoprequestedfalse : (v0 v1 : Value) → IsAlone items 1 (record { form = forms.LookStopStopRequestedFalse; values = v0 ∷ v1 ∷ AWord (spelling literals.StopRequested) ∷ AWord (spelling literals.False) ∷ [] })
unfolding rows_for
alone_lookstopstoprequestedfalse v0 v1 = refl

pub alone_lookstopstoppossibletrue : (v0 v1 : Value) → IsAlone items 1 (record { form = forms.LookStopStopPossibleTrue; values = v0 ∷ v1 ∷ AWord (spelling literals.StopPossible) ∷ AWord (spelling literals.True) ∷ [] })
unfolding rows_for
alone_lookstopstoppossibletrue v0 v1 = refl

pub alone_lookstopstoppossiblefalse : (v0 v1 : Value) → IsAlone items 1 (record { form = forms.LookStopStopPossibleFalse; values = v0 ∷ v1 ∷ AWord (spelling literals.StopPossible) ∷ AWord (spelling literals.False) ∷ [] })
unfolding rows_for
alone_lookstopstoppossiblefalse v0 v1 = refl

pub alone_lookstopnevernumber : (v0 v1 v3 : Value) → IsAlone items 1 (record { form = forms.LookStopNeverNumber; values = v0 ∷ v1 ∷ AWord (spelling literals.Never) ∷ v3 ∷ [] })
unfolding rows_for
alone_lookstopnevernumber v0 v1 v3 = refl

pub alone_lookstopdrained : (v0 v1 : Value) → IsAlone items 1 (record { form = forms.LookStopDrained; values = v0 ∷ v1 ∷ AWord (spelling literals.Drained) ∷ [] })
unfolding rows_for
alone_lookstopdrained v0 v1 = refl

pub alone_changefuturedefer : (v0 v1 : Value) → IsAlone items 1 (record { form = forms.ChangeFutureDefer; values = v0 ∷ v1 ∷ AWord (spelling literals.Defer) ∷ [] })
unfolding rows_for
alone_changefuturedefer v0 v1 = refl

pub alone_changefuturerun : (v0 v1 : Value) → IsAlone items 1 (record { form = forms.ChangeFutureRun; values = v0 ∷ v1 ∷ AWord (spelling literals.Run) ∷ [] })
unfolding rows_for
alone_changefuturerun v0 v1 = refl

pub alone_changefuturesetbrokenpromise : (v0 v1 : Value) → IsAlone items 1 (record { form = forms.ChangeFutureSetBrokenPromise; values = v0 ∷ v1 ∷ AWord (spelling literals.Set) ∷ AWord (spelling literals.BrokenPromise) ∷ [] })
unfolding rows_for
alone_changefuturesetbrokenpromise v0 v1 = refl

pub alone_lookfuturereadyvaluesigned : (v0 v1 v4 : Value) → IsAlone items 1 (record { form = forms.LookFutureReadyValueSigned; values = v0 ∷ v1 ∷ AWord (spelling literals.Ready) ∷ AWord (spelling literals.Value) ∷ v4 ∷ [] })
unfolding rows_for
alone_lookfuturereadyvaluesigned v0 v1 v4 = refl

pub alone_lookfuturereadyexceptionnumber : (v0 v1 v4 : Value) → IsAlone items 1 (record { form = forms.LookFutureReadyExceptionNumber; values = v0 ∷ v1 ∷ AWord (spelling literals.Ready) ∷ AWord (spelling literals.Exception) ∷ v4 ∷ [] })
unfolding rows_for
alone_lookfuturereadyexceptionnumber v0 v1 v4 = refl

pub alone_lookfuturereadybrokenpromise : (v0 v1 : Value) → IsAlone items 1 (record { form = forms.LookFutureReadyBrokenPromise; values = v0 ∷ v1 ∷ AWord (spelling literals.Ready) ∷ AWord (spelling literals.BrokenPromise) ∷ [] })
unfolding rows_for
alone_lookfuturereadybrokenpromise v0 v1 = refl

pub alone_controlstartok : (v1 : Value) → IsAlone items 1 (record { form = forms.ControlStartOk; values = AWord (spelling literals.Start) ∷ v1 ∷ AWord (spelling literals.Ok) ∷ [] })
unfolding rows_for
alone_controlstartok v1 = refl

pub alone_controlstartnothread : (v1 : Value) → IsAlone items 1 (record { form = forms.ControlStartNoThread; values = AWord (spelling literals.Start) ∷ v1 ∷ AWord (spelling literals.NoThread) ∷ [] })
unfolding rows_for
alone_controlstartnothread v1 = refl

pub alone_controljoin : (v1 : Value) → IsAlone items 1 (record { form = forms.ControlJoin; values = AWord (spelling literals.Join) ∷ v1 ∷ [] })
unfolding rows_for
alone_controljoin v1 = refl

pub alone_controllaunchok : (v1 : Value) → IsAlone items 1 (record { form = forms.ControlLaunchOk; values = AWord (spelling literals.Launch) ∷ v1 ∷ AWord (spelling literals.Ok) ∷ [] })
unfolding rows_for
alone_controllaunchok v1 = refl

pub alone_controllaunchnothread : (v1 : Value) → IsAlone items 1 (record { form = forms.ControlLaunchNoThread; values = AWord (spelling literals.Launch) ∷ v1 ∷ AWord (spelling literals.NoThread) ∷ [] })
unfolding rows_for
alone_controllaunchnothread v1 = refl

pub alone_replythrewof : (v1 : Value) → IsAlone items 1 (record { form = forms.ReplyThrewOf; values = AWord (spelling literals.Threw) ∷ v1 ∷ [] })
unfolding rows_for
alone_replythrewof v1 = refl

pub alone_replyvalueof : (v1 : Value) → IsAlone items 1 (record { form = forms.ReplyValueOf; values = AWord (spelling literals.Value) ∷ v1 ∷ [] })
unfolding rows_for
alone_replyvalueof v1 = refl

pub alone_replyexceptionof : (v1 : Value) → IsAlone items 1 (record { form = forms.ReplyExceptionOf; values = AWord (spelling literals.Exception) ∷ v1 ∷ [] })
unfolding rows_for
alone_replyexceptionof v1 = refl
