-- For each row of the scenario's table: the words of such a line belong to it alone.
use Rattle.std.proofs.Common.{[], ◌∷◌, refl}
use Rattle.cx_text.specs.declared.form.Form.TheVariants as forms
use Rattle.cx_text.specs.declared.form.Literal.TheVariants as literals
use Rattle.cx_text.specs.Table.{spelling}
use Rattle.cx_text.specs.Words.{Value, AWord, rows_for, scenario_lines}
use Rattle.cx_text.proofs.Rows.{IsAlone}

pub alone_versionone : IsAlone scenario_lines 1 (record { form = forms.VersionOne; values = AWord (spelling literals.One) ∷ [] })
unfolding rows_for
alone_versionone = refl

pub alone_thread : (v0 : Value) → IsAlone scenario_lines 1 (record { form = forms.Thread; values = v0 ∷ [] })
unfolding rows_for
alone_thread v0 = refl

pub alone_jthread : (v0 : Value) → IsAlone scenario_lines 1 (record { form = forms.JThread; values = v0 ∷ [] })
unfolding rows_for
alone_jthread v0 = refl

pub alone_asyncreturn : (v0 v1 v2 : Value) → IsAlone scenario_lines 1 (record { form = forms.AsyncReturn; values = v0 ∷ v1 ∷ AWord (spelling literals.Return) ∷ v2 ∷ [] })
unfolding rows_for
alone_asyncreturn v0 v1 v2 = refl

pub alone_asyncthrow : (v0 v1 v2 : Value) → IsAlone scenario_lines 1 (record { form = forms.AsyncThrow; values = v0 ∷ v1 ∷ AWord (spelling literals.Throw) ∷ v2 ∷ [] })
unfolding rows_for
alone_asyncthrow v0 v1 v2 = refl

pub alone_mutex : (v0 v1 : Value) → IsAlone scenario_lines 1 (record { form = forms.Mutex; values = v0 ∷ v1 ∷ [] })
unfolding rows_for
alone_mutex v0 v1 = refl

pub alone_recursive : (v0 : Value) → IsAlone scenario_lines 1 (record { form = forms.Recursive; values = v0 ∷ [] })
unfolding rows_for
alone_recursive v0 = refl

pub alone_shared : (v0 : Value) → IsAlone scenario_lines 1 (record { form = forms.Shared; values = v0 ∷ [] })
unfolding rows_for
alone_shared v0 = refl

pub alone_semaphore : (v0 v1 v2 : Value) → IsAlone scenario_lines 1 (record { form = forms.Semaphore; values = v0 ∷ v1 ∷ v2 ∷ [] })
unfolding rows_for
alone_semaphore v0 v1 v2 = refl

pub alone_latch : (v0 v1 : Value) → IsAlone scenario_lines 1 (record { form = forms.Latch; values = v0 ∷ v1 ∷ [] })
unfolding rows_for
alone_latch v0 v1 = refl

pub alone_barrier : (v0 v1 : Value) → IsAlone scenario_lines 1 (record { form = forms.Barrier; values = v0 ∷ v1 ∷ [] })
unfolding rows_for
alone_barrier v0 v1 = refl

pub alone_barrierrelease : (v0 v1 v2 v3 : Value) → IsAlone scenario_lines 1 (record { form = forms.BarrierRelease; values = v0 ∷ v1 ∷ AWord (spelling literals.Release) ∷ v2 ∷ v3 ∷ [] })
unfolding rows_for
alone_barrierrelease v0 v1 v2 v3 = refl

pub alone_barriernotifyone : (v0 v1 v2 : Value) → IsAlone scenario_lines 1 (record { form = forms.BarrierNotifyOne; values = v0 ∷ v1 ∷ AWord (spelling literals.NotifyOne) ∷ v2 ∷ [] })
unfolding rows_for
alone_barriernotifyone v0 v1 v2 = refl

pub alone_barriernotifyall : (v0 v1 v2 : Value) → IsAlone scenario_lines 1 (record { form = forms.BarrierNotifyAll; values = v0 ∷ v1 ∷ AWord (spelling literals.NotifyAll) ∷ v2 ∷ [] })
unfolding rows_for
alone_barriernotifyall v0 v1 v2 = refl

pub alone_once : (v0 : Value) → IsAlone scenario_lines 1 (record { form = forms.Once; values = v0 ∷ [] })
unfolding rows_for
alone_once v0 = refl

pub alone_condition : (v0 : Value) → IsAlone scenario_lines 1 (record { form = forms.Condition; values = v0 ∷ [] })
unfolding rows_for
alone_condition v0 = refl

pub alone_stop_0 : (v0 : Value) → IsAlone scenario_lines 1 (record { form = forms.Stop; values = v0 ∷ [] })
unfolding rows_for
alone_stop_0 v0 = refl

pub alone_stop_1 : (v0 v1 : Value) → IsAlone scenario_lines 1 (record { form = forms.Stop; values = v0 ∷ v1 ∷ [] })
unfolding rows_for
alone_stop_1 v0 v1 = refl

pub alone_stop_2 : (v0 v1 v2 : Value) → IsAlone scenario_lines 1 (record { form = forms.Stop; values = v0 ∷ v1 ∷ v2 ∷ [] })
unfolding rows_for
alone_stop_2 v0 v1 v2 = refl

pub alone_stop_3 : (v0 v1 v2 v3 : Value) → IsAlone scenario_lines 1 (record { form = forms.Stop; values = v0 ∷ v1 ∷ v2 ∷ v3 ∷ [] })
unfolding rows_for
alone_stop_3 v0 v1 v2 v3 = refl

pub alone_stop_4 : (v0 v1 v2 v3 v4 : Value) → IsAlone scenario_lines 1 (record { form = forms.Stop; values = v0 ∷ v1 ∷ v2 ∷ v3 ∷ v4 ∷ [] })
unfolding rows_for
alone_stop_4 v0 v1 v2 v3 v4 = refl

pub alone_stop_5 : (v0 v1 v2 v3 v4 v5 : Value) → IsAlone scenario_lines 1 (record { form = forms.Stop; values = v0 ∷ v1 ∷ v2 ∷ v3 ∷ v4 ∷ v5 ∷ [] })
unfolding rows_for
alone_stop_5 v0 v1 v2 v3 v4 v5 = refl

pub alone_callbackrelease : (v0 v1 v2 v3 : Value) → IsAlone scenario_lines 1 (record { form = forms.CallbackRelease; values = v0 ∷ v1 ∷ AWord (spelling literals.Release) ∷ v2 ∷ v3 ∷ [] })
unfolding rows_for
alone_callbackrelease v0 v1 v2 v3 = refl

pub alone_callbacknotifyone : (v0 v1 v2 : Value) → IsAlone scenario_lines 1 (record { form = forms.CallbackNotifyOne; values = v0 ∷ v1 ∷ AWord (spelling literals.NotifyOne) ∷ v2 ∷ [] })
unfolding rows_for
alone_callbacknotifyone v0 v1 v2 = refl

pub alone_callbacknotifyall : (v0 v1 v2 : Value) → IsAlone scenario_lines 1 (record { form = forms.CallbackNotifyAll; values = v0 ∷ v1 ∷ AWord (spelling literals.NotifyAll) ∷ v2 ∷ [] })
unfolding rows_for
alone_callbacknotifyall v0 v1 v2 = refl

pub alone_callbackderegister : (v0 v1 v2 : Value) → IsAlone scenario_lines 1 (record { form = forms.CallbackDeregister; values = v0 ∷ v1 ∷ AWord (spelling literals.Deregister) ∷ v2 ∷ [] })
unfolding rows_for
alone_callbackderegister v0 v1 v2 = refl

pub alone_promise : (v0 v1 v2 : Value) → IsAlone scenario_lines 1 (record { form = forms.Promise; values = v0 ∷ v1 ∷ v2 ∷ [] })
unfolding rows_for
alone_promise v0 v1 v2 = refl

pub alone_sharedpromise_1 : (v0 v1 v2 : Value) → IsAlone scenario_lines 1 (record { form = forms.SharedPromise; values = v0 ∷ v1 ∷ v2 ∷ [] })
unfolding rows_for
alone_sharedpromise_1 v0 v1 v2 = refl

pub alone_sharedpromise_2 : (v0 v1 v2 v3 : Value) → IsAlone scenario_lines 1 (record { form = forms.SharedPromise; values = v0 ∷ v1 ∷ v2 ∷ v3 ∷ [] })
unfolding rows_for
alone_sharedpromise_2 v0 v1 v2 v3 = refl

pub alone_sharedpromise_3 : (v0 v1 v2 v3 v4 : Value) → IsAlone scenario_lines 1 (record { form = forms.SharedPromise; values = v0 ∷ v1 ∷ v2 ∷ v3 ∷ v4 ∷ [] })
unfolding rows_for
alone_sharedpromise_3 v0 v1 v2 v3 v4 = refl

pub alone_sharedpromise_4 : (v0 v1 v2 v3 v4 v5 : Value) → IsAlone scenario_lines 1 (record { form = forms.SharedPromise; values = v0 ∷ v1 ∷ v2 ∷ v3 ∷ v4 ∷ v5 ∷ [] })
unfolding rows_for
alone_sharedpromise_4 v0 v1 v2 v3 v4 v5 = refl

pub alone_taskreturn : (v0 v1 v2 v3 : Value) → IsAlone scenario_lines 1 (record { form = forms.TaskReturn; values = v0 ∷ v1 ∷ v2 ∷ AWord (spelling literals.Return) ∷ v3 ∷ [] })
unfolding rows_for
alone_taskreturn v0 v1 v2 v3 = refl

pub alone_taskthrow : (v0 v1 v2 v3 : Value) → IsAlone scenario_lines 1 (record { form = forms.TaskThrow; values = v0 ∷ v1 ∷ v2 ∷ AWord (spelling literals.Throw) ∷ v3 ∷ [] })
unfolding rows_for
alone_taskthrow v0 v1 v2 v3 = refl

pub alone_body : (v0 : Value) → IsAlone scenario_lines 1 (record { form = forms.Body; values = v0 ∷ [] })
unfolding rows_for
alone_body v0 = refl

pub alone_main : IsAlone scenario_lines 1 (record { form = forms.Main; values = [] })
unfolding rows_for
alone_main = refl

pub alone_end : IsAlone scenario_lines 1 (record { form = forms.End; values = [] })
unfolding rows_for
alone_end = refl

pub alone_lock : (v0 : Value) → IsAlone scenario_lines 1 (record { form = forms.Lock; values = v0 ∷ [] })
unfolding rows_for
alone_lock v0 = refl

pub alone_lockshared : (v0 : Value) → IsAlone scenario_lines 1 (record { form = forms.LockShared; values = v0 ∷ [] })
unfolding rows_for
alone_lockshared v0 = refl

pub alone_trylock : (v0 : Value) → IsAlone scenario_lines 1 (record { form = forms.TryLock; values = v0 ∷ [] })
unfolding rows_for
alone_trylock v0 = refl

pub alone_trylockshared : (v0 : Value) → IsAlone scenario_lines 1 (record { form = forms.TryLockShared; values = v0 ∷ [] })
unfolding rows_for
alone_trylockshared v0 = refl

pub alone_unlock : (v0 : Value) → IsAlone scenario_lines 1 (record { form = forms.Unlock; values = v0 ∷ [] })
unfolding rows_for
alone_unlock v0 = refl

pub alone_unlockshared : (v0 : Value) → IsAlone scenario_lines 1 (record { form = forms.UnlockShared; values = v0 ∷ [] })
unfolding rows_for
alone_unlockshared v0 = refl

pub alone_getnumber : (v0 v1 : Value) → IsAlone scenario_lines 1 (record { form = forms.GetNumber; values = v0 ∷ v1 ∷ [] })
unfolding rows_for
alone_getnumber v0 v1 = refl

pub alone_setnumber : (v0 v1 v2 : Value) → IsAlone scenario_lines 1 (record { form = forms.SetNumber; values = v0 ∷ v1 ∷ v2 ∷ [] })
unfolding rows_for
alone_setnumber v0 v1 v2 = refl

pub alone_addnumber : (v0 v1 v2 : Value) → IsAlone scenario_lines 1 (record { form = forms.AddNumber; values = v0 ∷ v1 ∷ v2 ∷ [] })
unfolding rows_for
alone_addnumber v0 v1 v2 = refl

pub alone_lockall_2 : (v0 v1 : Value) → IsAlone scenario_lines 1 (record { form = forms.LockAll; values = v0 ∷ v1 ∷ [] })
unfolding rows_for
alone_lockall_2 v0 v1 = refl

pub alone_lockall_3 : (v0 v1 v2 : Value) → IsAlone scenario_lines 1 (record { form = forms.LockAll; values = v0 ∷ v1 ∷ v2 ∷ [] })
unfolding rows_for
alone_lockall_3 v0 v1 v2 = refl

pub alone_lockall_4 : (v0 v1 v2 v3 : Value) → IsAlone scenario_lines 1 (record { form = forms.LockAll; values = v0 ∷ v1 ∷ v2 ∷ v3 ∷ [] })
unfolding rows_for
alone_lockall_4 v0 v1 v2 v3 = refl

pub alone_trylockall_2 : (v0 v1 : Value) → IsAlone scenario_lines 1 (record { form = forms.TryLockAll; values = v0 ∷ v1 ∷ [] })
unfolding rows_for
alone_trylockall_2 v0 v1 = refl

pub alone_trylockall_3 : (v0 v1 v2 : Value) → IsAlone scenario_lines 1 (record { form = forms.TryLockAll; values = v0 ∷ v1 ∷ v2 ∷ [] })
unfolding rows_for
alone_trylockall_3 v0 v1 v2 = refl

pub alone_trylockall_4 : (v0 v1 v2 v3 : Value) → IsAlone scenario_lines 1 (record { form = forms.TryLockAll; values = v0 ∷ v1 ∷ v2 ∷ v3 ∷ [] })
unfolding rows_for
alone_trylockall_4 v0 v1 v2 v3 = refl

pub alone_release : (v0 v1 : Value) → IsAlone scenario_lines 1 (record { form = forms.Release; values = v0 ∷ v1 ∷ [] })
unfolding rows_for
alone_release v0 v1 = refl

pub alone_acquire : (v0 : Value) → IsAlone scenario_lines 1 (record { form = forms.Acquire; values = v0 ∷ [] })
unfolding rows_for
alone_acquire v0 = refl

pub alone_tryacquire : (v0 : Value) → IsAlone scenario_lines 1 (record { form = forms.TryAcquire; values = v0 ∷ [] })
unfolding rows_for
alone_tryacquire v0 = refl

pub alone_countdown : (v0 v1 : Value) → IsAlone scenario_lines 1 (record { form = forms.CountDown; values = v0 ∷ v1 ∷ [] })
unfolding rows_for
alone_countdown v0 v1 = refl

pub alone_wait : (v0 : Value) → IsAlone scenario_lines 1 (record { form = forms.Wait; values = v0 ∷ [] })
unfolding rows_for
alone_wait v0 = refl

pub alone_trywait : (v0 : Value) → IsAlone scenario_lines 1 (record { form = forms.TryWait; values = v0 ∷ [] })
unfolding rows_for
alone_trywait v0 = refl

pub alone_arriveandwait : (v0 : Value) → IsAlone scenario_lines 1 (record { form = forms.ArriveAndWait; values = v0 ∷ [] })
unfolding rows_for
alone_arriveandwait v0 = refl

pub alone_arrive : (v0 v1 : Value) → IsAlone scenario_lines 1 (record { form = forms.Arrive; values = v0 ∷ v1 ∷ [] })
unfolding rows_for
alone_arrive v0 v1 = refl

pub alone_arriveanddrop : (v0 : Value) → IsAlone scenario_lines 1 (record { form = forms.ArriveAndDrop; values = v0 ∷ [] })
unfolding rows_for
alone_arriveanddrop v0 = refl

pub alone_calloncereturn : (v0 : Value) → IsAlone scenario_lines 1 (record { form = forms.CallOnceReturn; values = v0 ∷ AWord (spelling literals.Return) ∷ [] })
unfolding rows_for
alone_calloncereturn v0 = refl

pub alone_calloncethrow : (v0 v1 : Value) → IsAlone scenario_lines 1 (record { form = forms.CallOnceThrow; values = v0 ∷ AWord (spelling literals.Throw) ∷ v1 ∷ [] })
unfolding rows_for
alone_calloncethrow v0 v1 = refl

pub alone_waitcondition : (v0 v1 : Value) → IsAlone scenario_lines 1 (record { form = forms.WaitCondition; values = v0 ∷ v1 ∷ [] })
unfolding rows_for
alone_waitcondition v0 v1 = refl

pub alone_waitpredicate : (v0 v1 v2 v3 v4 : Value) → IsAlone scenario_lines 1 (record { form = forms.WaitPredicate; values = v0 ∷ v1 ∷ v2 ∷ v3 ∷ v4 ∷ [] })
unfolding rows_for
alone_waitpredicate v0 v1 v2 v3 v4 = refl

pub alone_waitstop : (v0 v1 v2 v3 v4 v5 : Value) → IsAlone scenario_lines 1 (record { form = forms.WaitStop; values = v0 ∷ v1 ∷ v2 ∷ v3 ∷ v4 ∷ v5 ∷ [] })
unfolding rows_for
alone_waitstop v0 v1 v2 v3 v4 v5 = refl

pub alone_notifyone : (v0 : Value) → IsAlone scenario_lines 1 (record { form = forms.NotifyOne; values = v0 ∷ [] })
unfolding rows_for
alone_notifyone v0 = refl

pub alone_notifyall : (v0 : Value) → IsAlone scenario_lines 1 (record { form = forms.NotifyAll; values = v0 ∷ [] })
unfolding rows_for
alone_notifyall v0 = refl

pub alone_requeststop : (v0 : Value) → IsAlone scenario_lines 1 (record { form = forms.RequestStop; values = v0 ∷ [] })
unfolding rows_for
alone_requeststop v0 = refl

pub alone_stoprequested : (v0 : Value) → IsAlone scenario_lines 1 (record { form = forms.StopRequested; values = v0 ∷ [] })
unfolding rows_for
alone_stoprequested v0 = refl

pub alone_stoppossible : (v0 : Value) → IsAlone scenario_lines 1 (record { form = forms.StopPossible; values = v0 ∷ [] })
unfolding rows_for
alone_stoppossible v0 = refl

pub alone_another : (v0 : Value) → IsAlone scenario_lines 1 (record { form = forms.Another; values = v0 ∷ [] })
unfolding rows_for
alone_another v0 = refl

pub alone_drop : (v0 : Value) → IsAlone scenario_lines 1 (record { form = forms.Drop; values = v0 ∷ [] })
unfolding rows_for
alone_drop v0 = refl

pub alone_register : (v0 : Value) → IsAlone scenario_lines 1 (record { form = forms.Register; values = v0 ∷ [] })
unfolding rows_for
alone_register v0 = refl

pub alone_deregister : (v0 : Value) → IsAlone scenario_lines 1 (record { form = forms.Deregister; values = v0 ∷ [] })
unfolding rows_for
alone_deregister v0 = refl

pub alone_setvalue : (v0 v1 : Value) → IsAlone scenario_lines 1 (record { form = forms.SetValue; values = v0 ∷ v1 ∷ [] })
unfolding rows_for
alone_setvalue v0 v1 = refl

pub alone_setexception : (v0 v1 : Value) → IsAlone scenario_lines 1 (record { form = forms.SetException; values = v0 ∷ v1 ∷ [] })
unfolding rows_for
alone_setexception v0 v1 = refl

pub alone_invoke : (v0 : Value) → IsAlone scenario_lines 1 (record { form = forms.Invoke; values = v0 ∷ [] })
unfolding rows_for
alone_invoke v0 = refl

pub alone_getfuture : (v0 : Value) → IsAlone scenario_lines 1 (record { form = forms.GetFuture; values = v0 ∷ [] })
unfolding rows_for
alone_getfuture v0 = refl

pub alone_share : (v0 : Value) → IsAlone scenario_lines 1 (record { form = forms.Share; values = v0 ∷ [] })
unfolding rows_for
alone_share v0 = refl

pub alone_getoutcome : (v0 : Value) → IsAlone scenario_lines 1 (record { form = forms.GetOutcome; values = v0 ∷ [] })
unfolding rows_for
alone_getoutcome v0 = refl

pub alone_start : (v0 : Value) → IsAlone scenario_lines 1 (record { form = forms.Start; values = v0 ∷ [] })
unfolding rows_for
alone_start v0 = refl

pub alone_join : (v0 : Value) → IsAlone scenario_lines 1 (record { form = forms.Join; values = v0 ∷ [] })
unfolding rows_for
alone_join v0 = refl

pub alone_launch : (v0 : Value) → IsAlone scenario_lines 1 (record { form = forms.Launch; values = v0 ∷ [] })
unfolding rows_for
alone_launch v0 = refl
