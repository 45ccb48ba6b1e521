-- Records, each with its first flaw.
use Rattle.std.specs.Prelude.{pos, negsuc, true, false, [], ◌∷◌, Some, None}
use Rattle.cx_names.specs.declared.Reply.TheVariants as replies
use Rattle.cx_names.specs.declared.Outcome.TheVariants as outcomes
use Rattle.cx_machine.specs.declared.kind.Op.TheVariants as ops
use Rattle.cx_scene.specs.declared.declared.Object.TheVariants as objects
use Rattle.cx_scene.specs.declared.declared.Thread.TheVariants as threads
use Rattle.cx_scene.specs.declared.declared.Function.TheVariants as functions
use Rattle.cx_scene.specs.declared.declared.Policy.TheVariants as policies
use Rattle.cx_scene.specs.declared.declared.Small.TheVariants as smalls
use Rattle.cx_scene.specs.declared.declared.Action.TheVariants as actions
use Rattle.cx_scene.specs.declared.call.Call.TheVariants as calls
use Rattle.cx_scene.specs.declared.call.Relation.TheVariants as relations
use Rattle.cx_items.specs.declared.item.Control.TheVariants as controls
use Rattle.cx_scene.specs.Scene.{Scene}
use Rattle.cx_history.specs.Histories.{Recorded}
use Rattle.cx_cases.specs.Short.{obj, thr, cbk, callback, made, seen, did, said}

-- a record with the flaw step
abbrev pub scene_flaw_0111 : Scene
scene_flaw_0111 = record {
  version = 1;
  threads = threads.Plain ∷ threads.Stoppable (obj 0) ∷ [];
  objects = objects.StopOfThread ∷ objects.Mutex 1 ∷ [];
  callbacks = [];
  bodies =
      (calls.Start (thr 1) ∷ calls.Lock (obj 1) ∷ calls.Unlock (obj 1) ∷ calls.Join (thr 1) ∷ [])
      ∷ (calls.Lock (obj 1) ∷ calls.Unlock (obj 1) ∷ calls.TryLock (obj 1) ∷ calls.Add (obj 1) 0 (pos 7) ∷ calls.Unlock (obj 1) ∷ [])
      ∷ [];
}

abbrev pub recorded_flaw_0111 : Recorded
recorded_flaw_0111 = record {
  version = 1;
  lists =
      Some (did (controls.Start (thr 1) true) ∷ said replies.Ok ∷ made 0 1 0 ops.Lock (pos 0) (pos 0) replies.Ok ∷ said replies.Ok ∷ made 0 1 1 ops.Unlock (pos 0) (pos 0) replies.Ok ∷ said replies.Ok ∷ did (controls.Join (thr 1)) ∷ said replies.Ok ∷ [])
      ∷ Some (made 1 1 2 ops.Lock (pos 0) (pos 0) replies.Ok ∷ said replies.Ok ∷ made 1 1 4 ops.Unlock (pos 0) (pos 0) replies.Ok ∷ said replies.Ok ∷ made 1 1 3 ops.TryLock (pos 0) (pos 0) replies.True ∷ said replies.True ∷ made 1 1 5 ops.Add (pos 0) (pos 7) (replies.Number (pos 7)) ∷ said (replies.Number (pos 7)) ∷ made 1 1 6 ops.Unlock (pos 0) (pos 0) replies.Ok ∷ said replies.Ok ∷ [])
      ∷ [];
}

-- a record with the flaw gap
abbrev pub scene_flaw_0112 : Scene
scene_flaw_0112 = record {
  version = 1;
  threads = threads.Plain ∷ threads.Plain ∷ [];
  objects = objects.Condition ∷ objects.Mutex 2 ∷ objects.Shared ∷ [];
  callbacks = [];
  bodies =
      (calls.Start (thr 1) ∷ calls.Lock (obj 1) ∷ calls.Set (obj 1) 0 (pos 0) ∷ calls.NotifyAll (obj 0) ∷ calls.Unlock (obj 1) ∷ calls.Lock (obj 1) ∷ calls.Set (obj 1) 0 (pos 2) ∷ calls.NotifyAll (obj 0) ∷ calls.Unlock (obj 1) ∷ calls.Lock (obj 1) ∷ calls.Set (obj 1) 0 (pos 2) ∷ calls.NotifyOne (obj 0) ∷ calls.Unlock (obj 1) ∷ calls.Join (thr 1) ∷ [])
      ∷ (calls.Lock (obj 1) ∷ calls.Add (obj 1) 0 (negsuc 0) ∷ calls.NotifyOne (obj 0) ∷ calls.Unlock (obj 1) ∷ calls.Unlock (obj 1) ∷ calls.TryLock (obj 2) ∷ calls.Unlock (obj 2) ∷ [])
      ∷ [];
}

abbrev pub recorded_flaw_0112 : Recorded
recorded_flaw_0112 = record {
  version = 1;
  lists =
      Some (did (controls.Start (thr 1) true) ∷ said replies.Ok ∷ made 0 1 3 ops.Lock (pos 0) (pos 0) replies.Ok ∷ said replies.Ok ∷ made 0 1 4 ops.Set (pos 0) (pos 0) replies.Ok ∷ said replies.Ok ∷ made 0 0 1 ops.NotifyAll (pos 0) (pos 0) (replies.Number (pos 0)) ∷ said (replies.Number (pos 0)) ∷ made 0 1 5 ops.Unlock (pos 0) (pos 0) replies.Ok ∷ said replies.Ok ∷ made 0 1 4 ops.Lock (pos 0) (pos 0) replies.Ok ∷ said replies.Ok ∷ made 0 1 7 ops.Set (pos 0) (pos 2) replies.Ok ∷ said replies.Ok ∷ made 0 0 2 ops.NotifyAll (pos 0) (pos 0) (replies.Number (pos 0)) ∷ said (replies.Number (pos 0)) ∷ made 0 1 8 ops.Unlock (pos 0) (pos 0) replies.Ok ∷ said replies.Ok ∷ made 0 1 9 ops.Lock (pos 0) (pos 0) replies.Ok ∷ said replies.Ok ∷ made 0 1 10 ops.Set (pos 0) (pos 2) replies.Ok ∷ said replies.Ok ∷ made 0 0 3 ops.NotifyOne (pos 0) (pos 0) replies.Nobody ∷ said replies.Nobody ∷ made 0 1 11 ops.Unlock (pos 0) (pos 0) replies.Ok ∷ said replies.Ok ∷ did (controls.Join (thr 1)) ∷ said replies.Ok ∷ [])
      ∷ Some (made 1 1 0 ops.Lock (pos 0) (pos 0) replies.Ok ∷ said replies.Ok ∷ made 1 1 1 ops.Add (pos 0) (negsuc 0) (replies.Number (negsuc 0)) ∷ said (replies.Number (negsuc 0)) ∷ made 1 0 0 ops.NotifyOne (pos 0) (pos 0) replies.Nobody ∷ said replies.Nobody ∷ made 1 1 2 ops.Unlock (pos 0) (pos 0) replies.Ok ∷ said replies.Ok ∷ said replies.OperationNotPermitted ∷ made 1 2 0 ops.TryLock (pos 0) (pos 0) replies.True ∷ said replies.True ∷ made 1 2 1 ops.Unlock (pos 0) (pos 0) replies.Ok ∷ said replies.Ok ∷ [])
      ∷ [];
}

-- a record with the flaw step
abbrev pub scene_flaw_0114 : Scene
scene_flaw_0114 = record {
  version = 1;
  threads = threads.Plain ∷ threads.Plain ∷ threads.Plain ∷ [];
  objects = objects.Stop (1 ∷ []) ∷ objects.Semaphore 1 1 ∷ objects.Condition ∷ objects.Semaphore 0 5 ∷ [];
  callbacks = callback (obj 0) (actions.Small (smalls.Release (obj 1) 1)) ∷ callback (obj 0) (actions.Small (smalls.Release (obj 1) 1)) ∷ callback (obj 0) (actions.Small (smalls.NotifyOne (obj 2))) ∷ callback (obj 0) (actions.Small (smalls.Release (obj 3) 1)) ∷ callback (obj 0) actions.Deregister ∷ [];
  bodies =
      (calls.StopRequested (obj 0) ∷ calls.Register (cbk 2) ∷ calls.Deregister (cbk 2) ∷ calls.Start (thr 1) ∷ calls.Start (thr 2) ∷ calls.Deregister (cbk 2) ∷ calls.Join (thr 1) ∷ calls.Join (thr 2) ∷ [])
      ∷ (calls.RequestStop (obj 0) ∷ calls.StopPossible (obj 0) ∷ calls.RequestStop (obj 0) ∷ calls.Register (cbk 3) ∷ calls.RequestStop (obj 0) ∷ calls.Deregister (cbk 3) ∷ calls.DropSource (obj 0) ∷ calls.DropSource (obj 0) ∷ calls.RequestStop (obj 0) ∷ calls.Register (cbk 0) ∷ calls.Deregister (cbk 0) ∷ calls.Register (cbk 4) ∷ calls.RequestStop (obj 0) ∷ calls.Deregister (cbk 4) ∷ [])
      ∷ (calls.RequestStop (obj 0) ∷ [])
      ∷ [];
}

abbrev pub recorded_flaw_0114 : Recorded
recorded_flaw_0114 = record {
  version = 1;
  lists =
      Some (seen 0 0 0 ops.StopRequested (pos 0) (pos 0) replies.False ∷ said replies.False ∷ made 0 0 0 ops.Register (pos 1) (pos 0) replies.Ok ∷ said replies.Queued ∷ made 0 0 2 ops.Deregister (pos 1) (pos 0) replies.Removed ∷ said replies.Removed ∷ did (controls.Start (thr 1) true) ∷ said replies.Ok ∷ did (controls.Start (thr 2) false) ∷ said replies.NoThread ∷ said replies.NotHeld ∷ did (controls.Join (thr 1)) ∷ said replies.Ok ∷ said replies.InvalidArgument ∷ [])
      ∷ Some (made 1 0 1 ops.Request (pos 0) (pos 0) replies.Ok ∷ seen 1 0 3 ops.Drained (pos 0) (pos 0) replies.Ok ∷ said replies.Made ∷ seen 1 0 3 ops.StopPossible (pos 0) (pos 0) replies.True ∷ said replies.True ∷ seen 1 0 3 ops.Already (pos 0) (pos 0) replies.Ok ∷ said replies.Already ∷ made 1 0 3 ops.RegisterNow (pos 4099) (pos 0) replies.Ok ∷ made 1 3 0 ops.Release (pos 1) (pos 0) replies.Ok ∷ made 1 0 4 ops.Finish (pos 4099) (pos 0) replies.Ok ∷ said replies.Ran ∷ seen 1 0 5 ops.Already (pos 0) (pos 0) replies.Ok ∷ said replies.Already ∷ said replies.NotHeld ∷ made 1 0 5 ops.Drop (pos 0) (pos 0) replies.Ok ∷ said replies.Ok ∷ said replies.NoState ∷ said replies.NoState ∷ made 1 0 7 ops.RegisterNow (pos 4105) (pos 0) replies.Ok ∷ seen 1 1 0 ops.Release (pos 1) (pos 0) replies.Over ∷ made 1 0 6 ops.Finish (pos 4105) (pos 0) replies.Ok ∷ said replies.Ran ∷ said replies.NotHeld ∷ made 1 0 8 ops.RegisterNow (pos 4107) (pos 0) replies.Ok ∷ made 1 0 9 ops.Finish (pos 4107) (pos 0) replies.Ok ∷ said replies.Ran ∷ said replies.NoState ∷ said replies.NotHeld ∷ [])
      ∷ None
      ∷ [];
}

-- a record with the flaw step
abbrev pub scene_flaw_0116 : Scene
scene_flaw_0116 = record {
  version = 1;
  threads = threads.Plain ∷ threads.Stoppable (obj 0) ∷ threads.Plain ∷ threads.Launched (obj 1) ∷ threads.Plain ∷ threads.Launched (obj 2) ∷ [];
  objects = objects.StopOfThread ∷ objects.Async policies.Deferred (functions.Return (negsuc 10)) (thr 3) ∷ objects.Async policies.Deferred (functions.Return (negsuc 5)) (thr 5) ∷ objects.Promise (thr 4) (thr 0) ∷ objects.Stop (1 ∷ []) ∷ objects.Condition ∷ [];
  callbacks = callback (obj 4) (actions.Small (smalls.NotifyOne (obj 5))) ∷ [];
  bodies =
      (calls.Launch (obj 2) ∷ calls.DropAsync (obj 1) ∷ calls.GetFuture (obj 3) ∷ calls.GetFuture (obj 3) ∷ calls.Share (obj 3) ∷ calls.Start (thr 4) ∷ calls.Start (thr 1) ∷ calls.GetOutcome (obj 3) ∷ calls.WaitFuture (obj 1) ∷ calls.Launch (obj 1) ∷ calls.GetOutcome (obj 1) ∷ calls.WaitFuture (obj 1) ∷ calls.WaitFuture (obj 1) ∷ calls.WaitFuture (obj 1) ∷ calls.Join (thr 4) ∷ [])
      ∷ ([])
      ∷ (calls.Register (cbk 0) ∷ [])
      ∷ ([])
      ∷ (calls.StopRequested (obj 4) ∷ [])
      ∷ ([])
      ∷ [];
}

abbrev pub recorded_flaw_0116 : Recorded
recorded_flaw_0116 = record {
  version = 1;
  lists =
      Some (made 0 2 0 ops.Defer (pos 0) (pos 0) replies.Ok ∷ said replies.Deferred ∷ said replies.NoState ∷ said replies.Ok ∷ said replies.FutureAlreadyRetrieved ∷ said replies.Ok ∷ did (controls.Start (thr 4) true) ∷ said replies.Ok ∷ did (controls.Start (thr 1) true) ∷ said replies.Ok ∷ seen 0 3 1 ops.Ready (pos 0) (pos 0) (replies.Outcome outcomes.Broken) ∷ said (replies.Outcome outcomes.Broken) ∷ said replies.NoState ∷ made 0 1 1 ops.Defer (pos 0) (pos 0) replies.Ok ∷ said replies.Deferred ∷ made 0 1 0 ops.Run (pos 0) (pos 0) replies.Ok ∷ made 0 1 2 ops.Set (pos 0) (negsuc 10) replies.Ok ∷ seen 0 1 3 ops.Ready (pos 0) (pos 0) (replies.Outcome (outcomes.Value (negsuc 10))) ∷ said (replies.Outcome (outcomes.Value (negsuc 10))) ∷ said replies.NoState ∷ said replies.NoState ∷ said replies.NoState ∷ did (controls.Join (thr 4)) ∷ said replies.Ok ∷ made 0 0 0 ops.Request (pos 0) (pos 0) replies.Ok ∷ seen 0 0 1 ops.Drained (pos 0) (pos 0) replies.Ok ∷ did (controls.Join (thr 1)) ∷ [])
      ∷ Some ([])
      ∷ None
      ∷ None
      ∷ Some (seen 4 4 0 ops.StopRequested (pos 0) (pos 0) replies.False ∷ said replies.False ∷ made 4 3 0 ops.Set (pos 2) (pos 0) replies.Ok ∷ [])
      ∷ None
      ∷ [];
}

-- a record with the flaw gap
abbrev pub scene_flaw_0117 : Scene
scene_flaw_0117 = record {
  version = 1;
  threads = threads.Plain ∷ threads.Stoppable (obj 0) ∷ threads.Plain ∷ threads.Plain ∷ [];
  objects = objects.StopOfThread ∷ objects.Condition ∷ objects.Mutex 3 ∷ objects.Semaphore 1 1 ∷ objects.Barrier 1 (Some (smalls.Release (obj 3) 1)) ∷ [];
  callbacks = [];
  bodies =
      (calls.Start (thr 2) ∷ calls.Start (thr 1) ∷ calls.Start (thr 3) ∷ calls.Lock (obj 2) ∷ calls.Unlock (obj 2) ∷ calls.Join (thr 2) ∷ calls.Join (thr 3) ∷ [])
      ∷ (calls.ArriveAndDrop (obj 4) ∷ calls.TryLock (obj 2) ∷ calls.Lock (obj 2) ∷ calls.Add (obj 2) 0 (pos 1) ∷ calls.NotifyOne (obj 1) ∷ calls.Unlock (obj 2) ∷ calls.Lock (obj 2) ∷ calls.Add (obj 2) 0 (pos 1) ∷ calls.NotifyAll (obj 1) ∷ calls.Unlock (obj 2) ∷ calls.Lock (obj 2) ∷ calls.Set (obj 2) 0 (pos 0) ∷ calls.NotifyOne (obj 1) ∷ calls.Unlock (obj 2) ∷ [])
      ∷ (calls.NotifyAll (obj 1) ∷ calls.ArriveAndWait (obj 4) ∷ calls.ArriveAndWait (obj 4) ∷ calls.Arrive (obj 4) 2 ∷ calls.WaitBarrier (obj 4) ∷ calls.WaitBarrier (obj 4) ∷ calls.Release (obj 3) 1 ∷ calls.Set (obj 2) 1 (pos 16) ∷ [])
      ∷ (calls.Release (obj 3) 65535 ∷ calls.ArriveAndWait (obj 4) ∷ calls.Lock (obj 2) ∷ calls.WaitPredicate (obj 1) (obj 2) (record { number = 0; relation = relations.AtMost; value = (pos 0) }) ∷ calls.Set (obj 2) 0 (negsuc 0) ∷ calls.Unlock (obj 2) ∷ [])
      ∷ [];
}

abbrev pub recorded_flaw_0117 : Recorded
recorded_flaw_0117 = record {
  version = 1;
  lists =
      Some (did (controls.Start (thr 2) true) ∷ said replies.Ok ∷ did (controls.Start (thr 1) false) ∷ said replies.NoThread ∷ did (controls.Start (thr 3) true) ∷ said replies.Ok ∷ made 0 2 0 ops.Lock (pos 0) (pos 0) replies.Ok ∷ said replies.Ok ∷ made 0 2 1 ops.Unlock (pos 0) (pos 0) replies.Ok ∷ said replies.Ok ∷ did (controls.Join (thr 2)) ∷ said replies.Ok ∷ did (controls.Join (thr 3)) ∷ said replies.Ok ∷ [])
      ∷ None
      ∷ Some (made 2 1 0 ops.NotifyAll (pos 0) (pos 0) (replies.Number (pos 0)) ∷ said (replies.Number (pos 0)) ∷ made 2 4 0 ops.Arrive (pos 1) (pos 0) (replies.Number (pos 0)) ∷ seen 2 3 0 ops.Release (pos 1) (pos 0) replies.Over ∷ made 2 4 2 ops.Complete (pos 0) (pos 0) replies.Ok ∷ seen 2 4 2 ops.Wait (pos 0) (pos 0) replies.Ok ∷ said replies.Ok ∷ made 2 4 2 ops.Arrive (pos 1) (pos 0) (replies.Number (pos 1)) ∷ seen 2 3 0 ops.Release (pos 1) (pos 0) replies.Over ∷ made 2 4 3 ops.Complete (pos 0) (pos 0) replies.Ok ∷ seen 2 4 4 ops.Wait (pos 1) (pos 0) replies.Ok ∷ said replies.Ok ∷ seen 2 4 4 ops.Arrive (pos 2) (pos 0) replies.OverExpected ∷ said replies.OverExpected ∷ said replies.NoToken ∷ said replies.NoToken ∷ seen 2 3 0 ops.Release (pos 1) (pos 0) replies.Over ∷ said replies.Over ∷ said replies.OperationNotPermitted ∷ [])
      ∷ Some (seen 3 3 0 ops.Release (pos 65535) (pos 0) replies.Over ∷ said replies.Over ∷ seen 3 4 1 ops.Arrive (pos 1) (pos 0) replies.OverExpected ∷ said replies.OverExpected ∷ made 3 2 2 ops.Lock (pos 0) (pos 0) replies.Ok ∷ said replies.Ok ∷ seen 3 2 3 ops.Get (pos 0) (pos 0) (replies.Number (pos 0)) ∷ said replies.True ∷ made 3 2 3 ops.Set (pos 0) (negsuc 0) replies.Ok ∷ said replies.Ok ∷ made 3 2 4 ops.Unlock (pos 0) (pos 0) replies.Ok ∷ said replies.Ok ∷ [])
      ∷ [];
}

-- a record with the flaw fell
abbrev pub scene_flaw_0124 : Scene
scene_flaw_0124 = record {
  version = 1;
  threads = threads.Plain ∷ threads.Plain ∷ [];
  objects = objects.Latch 3 ∷ objects.Semaphore 2 2 ∷ objects.Semaphore 0 3 ∷ [];
  callbacks = [];
  bodies =
      (calls.CountDown (obj 0) 1 ∷ calls.Acquire (obj 1) ∷ calls.Release (obj 2) 1 ∷ calls.Acquire (obj 1) ∷ calls.Release (obj 2) 1 ∷ calls.Release (obj 2) 1 ∷ [])
      ∷ (calls.Release (obj 1) 1 ∷ calls.Acquire (obj 2) ∷ calls.Release (obj 1) 1 ∷ calls.Acquire (obj 2) ∷ calls.Release (obj 1) 1 ∷ calls.Acquire (obj 2) ∷ calls.ArriveAndWaitLatch (obj 0) ∷ calls.WaitLatch (obj 0) ∷ [])
      ∷ [];
}

abbrev pub recorded_flaw_0124 : Recorded
recorded_flaw_0124 = record {
  version = 1;
  lists =
      Some (made 0 0 0 ops.CountDown (pos 1) (pos 0) replies.Ok ∷ said replies.Ok ∷ made 0 1 1 ops.Acquire (pos 0) (pos 0) replies.Ok ∷ said replies.Ok ∷ made 0 2 0 ops.Release (pos 1) (pos 0) replies.Ok ∷ said replies.Ok ∷ made 0 1 0 ops.Acquire (pos 0) (pos 0) replies.Ok ∷ said replies.Ok ∷ made 0 2 1 ops.Release (pos 1) (pos 0) replies.Ok ∷ said replies.Ok ∷ made 0 2 2 ops.Release (pos 1) (pos 0) replies.Ok ∷ said replies.Ok ∷ [])
      ∷ None
      ∷ [];
}

-- a record with the flaw gap
abbrev pub scene_flaw_0130 : Scene
scene_flaw_0130 = record {
  version = 1;
  threads = threads.Plain ∷ threads.Stoppable (obj 0) ∷ threads.Stoppable (obj 1) ∷ threads.Plain ∷ threads.Plain ∷ [];
  objects = objects.StopOfThread ∷ objects.StopOfThread ∷ objects.Shared ∷ objects.Semaphore 0 5 ∷ objects.Barrier 4 (Some (smalls.Release (obj 3) 1)) ∷ [];
  callbacks = [];
  bodies =
      (calls.Start (thr 2) ∷ calls.Start (thr 3) ∷ calls.Start (thr 1) ∷ calls.Start (thr 4) ∷ calls.LockShared (obj 2) ∷ calls.UnlockShared (obj 2) ∷ calls.LockShared (obj 2) ∷ calls.UnlockShared (obj 2) ∷ calls.TryLock (obj 2) ∷ calls.LockShared (obj 2) ∷ calls.Join (thr 4) ∷ calls.Join (thr 0) ∷ calls.TryLockShared (obj 2) ∷ calls.ArriveAndWait (obj 4) ∷ calls.Arrive (obj 4) 1 ∷ calls.Join (thr 4) ∷ calls.Join (thr 1) ∷ calls.Join (thr 3) ∷ calls.Join (thr 2) ∷ [])
      ∷ (calls.ArriveAndWait (obj 4) ∷ calls.Arrive (obj 4) 1 ∷ calls.WaitBarrier (obj 4) ∷ calls.TryLock (obj 2) ∷ calls.Unlock (obj 2) ∷ calls.TryLock (obj 2) ∷ calls.Unlock (obj 2) ∷ [])
      ∷ (calls.ArriveAndWait (obj 4) ∷ calls.ArriveAndWait (obj 4) ∷ calls.TryLockShared (obj 2) ∷ calls.UnlockShared (obj 2) ∷ calls.Unlock (obj 2) ∷ [])
      ∷ (calls.Arrive (obj 4) 1 ∷ calls.ArriveAndWait (obj 4) ∷ calls.TryAcquire (obj 3) ∷ calls.Release (obj 3) 2 ∷ [])
      ∷ ([])
      ∷ [];
}

abbrev pub recorded_flaw_0130 : Recorded
recorded_flaw_0130 = record {
  version = 1;
  lists =
      Some (did (controls.Start (thr 2) true) ∷ said replies.Ok ∷ did (controls.Start (thr 3) true) ∷ said replies.Ok ∷ did (controls.Start (thr 1) true) ∷ said replies.Ok ∷ did (controls.Start (thr 4) true) ∷ said replies.Ok ∷ made 0 2 0 ops.LockShared (pos 0) (pos 0) replies.Ok ∷ said replies.Ok ∷ made 0 2 1 ops.UnlockShared (pos 0) (pos 0) replies.Ok ∷ said replies.Ok ∷ made 0 2 2 ops.LockShared (pos 0) (pos 0) replies.Ok ∷ said replies.Ok ∷ made 0 2 3 ops.UnlockShared (pos 0) (pos 0) replies.Ok ∷ said replies.Ok ∷ made 0 2 4 ops.TryLock (pos 0) (pos 0) replies.True ∷ said replies.True ∷ said replies.ResourceDeadlockWouldOccur ∷ did (controls.Join (thr 4)) ∷ said replies.Ok ∷ said replies.ResourceDeadlockWouldOccur ∷ said replies.ResourceDeadlockWouldOccur ∷ made 0 4 0 ops.Arrive (pos 1) (pos 0) (replies.Number (pos 0)) ∷ seen 0 4 5 ops.Wait (pos 0) (pos 0) replies.Ok ∷ said replies.Ok ∷ made 0 4 5 ops.Arrive (pos 1) (pos 0) (replies.Number (pos 1)) ∷ said (replies.Number (pos 1)) ∷ said replies.InvalidArgument ∷ did (controls.Join (thr 1)) ∷ said replies.Ok ∷ did (controls.Join (thr 3)) ∷ said replies.Ok ∷ did (controls.Join (thr 2)) ∷ said replies.Ok ∷ made 0 2 5 ops.Unlock (pos 0) (pos 0) replies.Ok ∷ [])
      ∷ Some (made 1 4 1 ops.Arrive (pos 1) (pos 0) (replies.Number (pos 0)) ∷ seen 1 4 6 ops.Wait (pos 0) (pos 0) replies.Ok ∷ said replies.Ok ∷ made 1 4 6 ops.Arrive (pos 1) (pos 0) (replies.Number (pos 1)) ∷ said (replies.Number (pos 1)) ∷ seen 1 4 10 ops.Wait (pos 1) (pos 0) replies.Ok ∷ said replies.Ok ∷ seen 1 2 5 ops.TryLock (pos 0) (pos 0) replies.False ∷ said replies.False ∷ said replies.OperationNotPermitted ∷ seen 1 2 5 ops.TryLock (pos 0) (pos 0) replies.False ∷ said replies.False ∷ said replies.OperationNotPermitted ∷ [])
      ∷ Some (made 2 4 2 ops.Arrive (pos 1) (pos 0) (replies.Number (pos 0)) ∷ seen 2 4 7 ops.Wait (pos 0) (pos 0) replies.Ok ∷ said replies.Ok ∷ made 2 4 7 ops.Arrive (pos 1) (pos 0) (replies.Number (pos 1)) ∷ seen 2 4 10 ops.Wait (pos 1) (pos 0) replies.Ok ∷ said replies.Ok ∷ seen 2 2 5 ops.TryLockShared (pos 0) (pos 0) replies.False ∷ said replies.False ∷ said replies.OperationNotPermitted ∷ said replies.OperationNotPermitted ∷ [])
      ∷ Some (made 3 4 3 ops.Arrive (pos 1) (pos 0) (replies.Number (pos 0)) ∷ made 3 3 0 ops.Release (pos 1) (pos 0) replies.Ok ∷ made 3 4 4 ops.Complete (pos 0) (pos 0) replies.Ok ∷ said (replies.Number (pos 0)) ∷ made 3 4 7 ops.Arrive (pos 1) (pos 0) (replies.Number (pos 1)) ∷ made 3 3 1 ops.Release (pos 1) (pos 0) replies.Ok ∷ made 3 4 9 ops.Complete (pos 0) (pos 0) replies.Ok ∷ seen 3 4 10 ops.Wait (pos 1) (pos 0) replies.Ok ∷ said replies.Ok ∷ made 3 3 2 ops.TryAcquire (pos 0) (pos 0) replies.True ∷ said replies.True ∷ made 3 3 3 ops.Release (pos 2) (pos 0) replies.Ok ∷ said replies.Ok ∷ [])
      ∷ Some ([])
      ∷ [];
}

-- a record with the flaw gap
abbrev pub scene_flaw_0132 : Scene
scene_flaw_0132 = record {
  version = 1;
  threads = threads.Plain ∷ threads.Plain ∷ threads.Plain ∷ threads.Stoppable (obj 0) ∷ threads.Plain ∷ [];
  objects = objects.StopOfThread ∷ objects.SharedPromise (thr 2) (0 ∷ 1 ∷ 3 ∷ 2 ∷ []) ∷ objects.Recursive ∷ objects.Stop ([]) ∷ objects.Condition ∷ objects.Mutex 2 ∷ objects.SharedPromise (thr 3) (3 ∷ 0 ∷ []) ∷ [];
  callbacks = [];
  bodies =
      (calls.Start (thr 1) ∷ calls.Start (thr 3) ∷ calls.Start (thr 2) ∷ calls.Start (thr 4) ∷ calls.Share (obj 1) ∷ calls.TryLockRecursive (obj 2) ∷ calls.Unlock (obj 2) ∷ calls.Lock (obj 5) ∷ calls.WaitStop (obj 4) (obj 5) (obj 3) (record { number = 0; relation = relations.Unequal; value = (pos 0) }) ∷ calls.Unlock (obj 5) ∷ calls.Join (thr 3) ∷ calls.Join (thr 2) ∷ calls.Join (thr 4) ∷ calls.Join (thr 1) ∷ [])
      ∷ (calls.WaitFuture (obj 1) ∷ calls.LockRecursive (obj 2) ∷ calls.Unlock (obj 2) ∷ calls.Unlock (obj 2) ∷ [])
      ∷ (calls.SetException (obj 1) 4294967295 ∷ calls.Lock (obj 5) ∷ calls.Unlock (obj 5) ∷ calls.Share (obj 1) ∷ calls.GetFuture (obj 1) ∷ calls.GetOutcome (obj 1) ∷ calls.GetOutcome (obj 1) ∷ [])
      ∷ (calls.GetFuture (obj 1) ∷ calls.WaitFuture (obj 1) ∷ calls.Lock (obj 5) ∷ calls.Add (obj 5) 0 (pos 2) ∷ calls.NotifyAll (obj 4) ∷ calls.Share (obj 6) ∷ calls.Unlock (obj 5) ∷ calls.SetException (obj 6) 42 ∷ calls.TryLockRecursive (obj 2) ∷ calls.Unlock (obj 2) ∷ calls.LockRecursive (obj 2) ∷ calls.Unlock (obj 2) ∷ calls.Unlock (obj 2) ∷ calls.LockRecursive (obj 2) ∷ calls.Unlock (obj 2) ∷ [])
      ∷ (calls.Set (obj 5) 0 (negsuc 1) ∷ calls.Unlock (obj 5) ∷ [])
      ∷ [];
}

abbrev pub recorded_flaw_0132 : Recorded
recorded_flaw_0132 = record {
  version = 1;
  lists =
      Some (did (controls.Start (thr 1) true) ∷ said replies.Ok ∷ did (controls.Start (thr 3) true) ∷ said replies.Ok ∷ did (controls.Start (thr 2) true) ∷ said replies.Ok ∷ did (controls.Start (thr 4) true) ∷ said replies.Ok ∷ said replies.NoState ∷ made 0 2 0 ops.TryLock (pos 0) (pos 0) replies.True ∷ said replies.True ∷ made 0 2 1 ops.Unlock (pos 0) (pos 0) replies.Ok ∷ said replies.Ok ∷ made 0 5 0 ops.Lock (pos 0) (pos 0) replies.Ok ∷ said replies.Ok ∷ seen 0 3 0 ops.Never (pos 8) (pos 0) replies.Ok ∷ seen 0 3 0 ops.StopRequested (pos 0) (pos 0) replies.False ∷ seen 0 5 1 ops.Get (pos 0) (pos 0) (replies.Number (pos 0)) ∷ made 0 4 1 ops.Enter (pos 0) (pos 0) replies.Ok ∷ made 0 5 1 ops.Unlock (pos 0) (pos 0) replies.Ok ∷ seen 0 3 0 ops.StopRequested (pos 0) (pos 0) replies.False ∷ made 0 4 2 ops.Unblock (pos 0) (pos 0) replies.Ok ∷ made 0 5 7 ops.Lock (pos 0) (pos 0) replies.Ok ∷ seen 0 3 0 ops.StopRequested (pos 0) (pos 0) replies.False ∷ seen 0 5 8 ops.Get (pos 0) (pos 0) (replies.Number (pos 2)) ∷ said replies.True ∷ made 0 5 8 ops.Unlock (pos 0) (pos 0) replies.Ok ∷ said replies.Ok ∷ did (controls.Join (thr 3)) ∷ said replies.Ok ∷ did (controls.Join (thr 2)) ∷ said replies.Ok ∷ did (controls.Join (thr 4)) ∷ said replies.Ok ∷ did (controls.Join (thr 1)) ∷ said replies.Ok ∷ [])
      ∷ Some (seen 1 1 1 ops.Ready (pos 0) (pos 0) (replies.Outcome (outcomes.Exception 4294967295)) ∷ said replies.Ok ∷ made 1 2 2 ops.Lock (pos 0) (pos 0) replies.Ok ∷ said replies.Ok ∷ made 1 2 3 ops.Unlock (pos 0) (pos 0) replies.Ok ∷ said replies.Ok ∷ said replies.OperationNotPermitted ∷ [])
      ∷ Some (made 2 1 0 ops.Set (pos 1) (pos 4294967295) replies.Ok ∷ said replies.Ok ∷ made 2 5 2 ops.Lock (pos 0) (pos 0) replies.Ok ∷ said replies.Ok ∷ made 2 5 3 ops.Unlock (pos 0) (pos 0) replies.Ok ∷ said replies.Ok ∷ said replies.NoState ∷ said replies.FutureAlreadyRetrieved ∷ seen 2 1 1 ops.Ready (pos 0) (pos 0) (replies.Outcome (outcomes.Exception 4294967295)) ∷ said (replies.Outcome (outcomes.Exception 4294967295)) ∷ seen 2 1 1 ops.Ready (pos 0) (pos 0) (replies.Outcome (outcomes.Exception 4294967295)) ∷ said (replies.Outcome (outcomes.Exception 4294967295)) ∷ [])
      ∷ Some (said replies.FutureAlreadyRetrieved ∷ seen 3 1 1 ops.Ready (pos 0) (pos 0) (replies.Outcome (outcomes.Exception 4294967295)) ∷ said replies.Ok ∷ made 3 5 4 ops.Lock (pos 0) (pos 0) replies.Ok ∷ said replies.Ok ∷ made 3 5 5 ops.Add (pos 0) (pos 2) (replies.Number (pos 2)) ∷ said (replies.Number (pos 2)) ∷ made 3 4 1 ops.NotifyAll (pos 0) (pos 0) (replies.Number (pos 1)) ∷ said (replies.Number (pos 1)) ∷ said replies.NoState ∷ made 3 5 6 ops.Unlock (pos 0) (pos 0) replies.Ok ∷ said replies.Ok ∷ made 3 6 0 ops.Set (pos 1) (pos 42) replies.Ok ∷ said replies.Ok ∷ made 3 2 4 ops.TryLock (pos 0) (pos 0) replies.True ∷ said replies.True ∷ made 3 2 5 ops.Unlock (pos 0) (pos 0) replies.Ok ∷ said replies.Ok ∷ made 3 2 6 ops.Lock (pos 0) (pos 0) replies.Ok ∷ said replies.Ok ∷ made 3 2 7 ops.Unlock (pos 0) (pos 0) replies.Ok ∷ said replies.Ok ∷ said replies.OperationNotPermitted ∷ made 3 2 8 ops.Lock (pos 0) (pos 0) replies.Ok ∷ said replies.Ok ∷ made 3 2 9 ops.Unlock (pos 0) (pos 0) replies.Ok ∷ said replies.Ok ∷ [])
      ∷ Some (said replies.OperationNotPermitted ∷ said replies.OperationNotPermitted ∷ [])
      ∷ [];
}

-- a record with the flaw gap
abbrev pub scene_flaw_0134 : Scene
scene_flaw_0134 = record {
  version = 1;
  threads = threads.Plain ∷ threads.Plain ∷ threads.Plain ∷ threads.Stoppable (obj 0) ∷ threads.Launched (obj 2) ∷ [];
  objects = objects.StopOfThread ∷ objects.Promise (thr 3) (thr 0) ∷ objects.Async policies.Async (functions.Return (pos 14)) (thr 4) ∷ objects.Condition ∷ objects.Mutex 2 ∷ [];
  callbacks = [];
  bodies =
      (calls.Launch (obj 2) ∷ calls.GetFuture (obj 1) ∷ calls.Share (obj 1) ∷ calls.RequestStop (obj 0) ∷ calls.Start (thr 1) ∷ calls.Start (thr 2) ∷ calls.Start (thr 3) ∷ calls.Lock (obj 4) ∷ calls.WaitStop (obj 3) (obj 4) (obj 0) (record { number = 1; relation = relations.Greater; value = (pos 1) }) ∷ calls.Unlock (obj 4) ∷ calls.Join (thr 2) ∷ calls.Join (thr 1) ∷ [])
      ∷ (calls.Lock (obj 4) ∷ calls.WaitStop (obj 3) (obj 4) (obj 0) (record { number = 1; relation = relations.Greater; value = (pos 0) }) ∷ calls.Unlock (obj 4) ∷ [])
      ∷ (calls.WaitStop (obj 3) (obj 4) (obj 0) (record { number = 1; relation = relations.Unequal; value = (pos 1) }) ∷ calls.Unlock (obj 4) ∷ calls.TryLock (obj 4) ∷ [])
      ∷ (calls.SetValue (obj 1) (pos 9223372036854775807) ∷ calls.SetException (obj 1) 4294967295 ∷ calls.NotifyOne (obj 3) ∷ [])
      ∷ ([])
      ∷ [];
}

abbrev pub recorded_flaw_0134 : Recorded
recorded_flaw_0134 = record {
  version = 1;
  lists =
      Some (did (controls.Launch (thr 4) true) ∷ said replies.Launched ∷ said replies.Ok ∷ said replies.Ok ∷ made 0 0 2 ops.Request (pos 0) (pos 0) replies.Ok ∷ seen 0 0 1 ops.Drained (pos 0) (pos 0) replies.Ok ∷ said replies.Made ∷ did (controls.Start (thr 1) true) ∷ said replies.Ok ∷ did (controls.Start (thr 2) true) ∷ said replies.Ok ∷ did (controls.Start (thr 3) true) ∷ said replies.Ok ∷ made 0 4 2 ops.Lock (pos 0) (pos 0) replies.Ok ∷ said replies.Ok ∷ made 0 0 3 ops.RegisterNow (pos 8) (pos 0) replies.Ok ∷ made 0 3 2 ops.NotifyAll (pos 0) (pos 0) (replies.Number (pos 0)) ∷ made 0 0 4 ops.Finish (pos 8) (pos 0) replies.Ok ∷ seen 0 0 5 ops.StopRequested (pos 0) (pos 0) replies.True ∷ seen 0 4 3 ops.Get (pos 1) (pos 0) (replies.Number (pos 0)) ∷ said replies.False ∷ made 0 4 3 ops.Unlock (pos 0) (pos 0) replies.Ok ∷ said replies.Ok ∷ did (controls.Join (thr 2)) ∷ said replies.Ok ∷ did (controls.Join (thr 1)) ∷ said replies.Ok ∷ seen 0 2 1 ops.Ready (pos 0) (pos 0) (replies.Outcome (outcomes.Value (pos 14))) ∷ seen 0 0 5 ops.Already (pos 0) (pos 0) replies.Ok ∷ did (controls.Join (thr 3)) ∷ [])
      ∷ Some (made 1 4 0 ops.Lock (pos 0) (pos 0) replies.Ok ∷ said replies.Ok ∷ made 1 0 1 ops.RegisterNow (pos 4097) (pos 0) replies.Ok ∷ made 1 3 0 ops.NotifyAll (pos 0) (pos 0) (replies.Number (pos 0)) ∷ made 1 0 2 ops.Finish (pos 4097) (pos 0) replies.Ok ∷ seen 1 0 3 ops.StopRequested (pos 0) (pos 0) replies.True ∷ seen 1 4 1 ops.Get (pos 1) (pos 0) (replies.Number (pos 0)) ∷ said replies.False ∷ made 1 4 1 ops.Unlock (pos 0) (pos 0) replies.Ok ∷ said replies.Ok ∷ [])
      ∷ Some (said replies.OperationNotPermitted ∷ said replies.OperationNotPermitted ∷ seen 2 4 1 ops.TryLock (pos 0) (pos 0) replies.False ∷ said replies.False ∷ [])
      ∷ Some (made 3 1 0 ops.Set (pos 0) (pos 9223372036854775807) replies.Ok ∷ said replies.Ok ∷ said replies.PromiseAlreadySatisfied ∷ made 3 3 1 ops.NotifyOne (pos 0) (pos 0) replies.Nobody ∷ said replies.Nobody ∷ [])
      ∷ Some (made 4 2 0 ops.Set (pos 0) (pos 14) replies.Ok ∷ [])
      ∷ [];
}

-- a record with the flaw text
abbrev pub scene_flaw_0135 : Scene
scene_flaw_0135 = record {
  version = 1;
  threads = threads.Plain ∷ threads.Stoppable (obj 0) ∷ [];
  objects = objects.StopOfThread ∷ objects.Semaphore 0 5 ∷ [];
  callbacks = callback (obj 0) (actions.Small (smalls.Release (obj 1) 2)) ∷ [];
  bodies =
      (calls.Start (thr 1) ∷ calls.StopPossible (obj 0) ∷ calls.StopRequested (obj 0) ∷ calls.Join (thr 1) ∷ calls.RequestStop (obj 0) ∷ calls.Join (thr 0) ∷ calls.StopPossible (obj 0) ∷ [])
      ∷ (calls.RequestStop (obj 0) ∷ [])
      ∷ [];
}

abbrev pub recorded_flaw_0135 : Recorded
recorded_flaw_0135 = record {
  version = 1;
  lists =
      Some (did (controls.Start (thr 1) true) ∷ said replies.Ok ∷ seen 0 0 0 ops.StopPossible (pos 0) (pos 0) replies.True ∷ said replies.True ∷ seen 0 0 0 ops.StopRequested (pos 0) (pos 0) replies.False ∷ said replies.True ∷ said replies.False ∷ did (controls.Join (thr 1)) ∷ said replies.Ok ∷ made 0 0 0 ops.Request (pos 0) (pos 0) replies.Ok ∷ seen 0 0 1 ops.Drained (pos 0) (pos 0) replies.Ok ∷ said replies.Made ∷ said replies.ResourceDeadlockWouldOccur ∷ seen 0 0 1 ops.StopPossible (pos 0) (pos 0) replies.True ∷ said replies.True ∷ [])
      ∷ Some (said replies.NoState ∷ [])
      ∷ [];
}
