-- Records, each with its first flaw.
use Rattle.std.specs.Prelude.{pos, negsuc, true, [], ◌∷◌, Some, None}
use Rattle.cx_names.specs.declared.Reply.TheVariants as replies
use Rattle.cx_names.specs.declared.Outcome.TheVariants as outcomes
use Rattle.cx_machine.specs.declared.kind.Op.TheVariants as ops
use Rattle.cx_scene.specs.declared.declared.Object.TheVariants as objects
use Rattle.cx_scene.specs.declared.declared.Thread.TheVariants as threads
use Rattle.cx_scene.specs.declared.declared.Function.TheVariants as functions
use Rattle.cx_scene.specs.declared.declared.Policy.TheVariants as policies
use Rattle.cx_scene.specs.declared.declared.Small.TheVariants as smalls
use Rattle.cx_scene.specs.declared.declared.Action.TheVariants as actions
use Rattle.cx_scene.specs.declared.call.Call.TheVariants as calls
use Rattle.cx_scene.specs.declared.call.Relation.TheVariants as relations
use Rattle.cx_items.specs.declared.item.Control.TheVariants as controls
use Rattle.cx_scene.specs.Scene.{Scene}
use Rattle.cx_history.specs.Histories.{Recorded}
use Rattle.cx_cases.specs.Short.{obj, thr, cbk, callback, made, seen, did, said}

-- a record with the flaw text
abbrev pub scene_flaw_0001 : Scene
scene_flaw_0001 = record {
  version = 1;
  threads = threads.Plain ∷ threads.Plain ∷ [];
  objects = objects.Latch 3 ∷ objects.Shared ∷ [];
  callbacks = [];
  bodies =
      (calls.CountDown (obj 0) 1 ∷ calls.LockShared (obj 1) ∷ calls.UnlockShared (obj 1) ∷ calls.UnlockShared (obj 1) ∷ calls.LockShared (obj 1) ∷ calls.UnlockShared (obj 1) ∷ calls.Start (thr 1) ∷ calls.Join (thr 1) ∷ [])
      ∷ (calls.TryWait (obj 0) ∷ calls.Lock (obj 1) ∷ calls.UnlockShared (obj 1) ∷ calls.Unlock (obj 1) ∷ [])
      ∷ [];
}

abbrev pub recorded_flaw_0001 : Recorded
recorded_flaw_0001 = record {
  version = 1;
  lists =
      Some (made 0 0 0 ops.CountDown (pos 1) (pos 0) replies.Ok ∷ said replies.Ok ∷ made 0 1 0 ops.LockShared (pos 0) (pos 0) replies.Ok ∷ said replies.Ok ∷ made 0 1 1 ops.UnlockShared (pos 0) (pos 0) replies.Ok ∷ said replies.Ok ∷ said replies.OperationNotPermitted ∷ made 0 1 2 ops.Unlock (pos 0) (pos 0) replies.Ok ∷ said replies.Ok ∷ made 0 1 3 ops.UnlockShared (pos 0) (pos 0) replies.Ok ∷ said replies.Ok ∷ did (controls.Start (thr 1) true) ∷ said replies.Ok ∷ did (controls.Join (thr 1)) ∷ said replies.Ok ∷ [])
      ∷ Some (seen 1 0 1 ops.TryWait (pos 0) (pos 0) replies.False ∷ said replies.False ∷ made 1 1 4 ops.Lock (pos 0) (pos 0) replies.Ok ∷ said replies.Ok ∷ said replies.OperationNotPermitted ∷ made 1 1 5 ops.Unlock (pos 0) (pos 0) replies.Ok ∷ said replies.Ok ∷ [])
      ∷ [];
}

-- a record with the flaw text
abbrev pub scene_flaw_0002 : Scene
scene_flaw_0002 = record {
  version = 1;
  threads = threads.Plain ∷ threads.Plain ∷ threads.Stoppable (obj 0) ∷ [];
  objects = objects.StopOfThread ∷ objects.Promise (thr 0) (thr 1) ∷ objects.Semaphore 0 3 ∷ [];
  callbacks = [];
  bodies =
      (calls.SetValue (obj 1) (negsuc 0) ∷ calls.SetException (obj 1) 0 ∷ calls.DropPromise (obj 1) ∷ calls.Start (thr 1) ∷ calls.Start (thr 2) ∷ calls.Join (thr 2) ∷ calls.Join (thr 1) ∷ [])
      ∷ (calls.GetFuture (obj 1) ∷ calls.GetOutcome (obj 1) ∷ calls.GetOutcome (obj 1) ∷ calls.Release (obj 2) 0 ∷ [])
      ∷ (calls.TryAcquire (obj 2) ∷ calls.StopPossible (obj 0) ∷ [])
      ∷ [];
}

abbrev pub recorded_flaw_0002 : Recorded
recorded_flaw_0002 = record {
  version = 1;
  lists =
      Some (made 0 1 0 ops.Set (pos 0) (negsuc 0) replies.Ok ∷ said replies.Ok ∷ said replies.PromiseAlreadySatisfied ∷ said replies.Ok ∷ did (controls.Start (thr 1) true) ∷ said replies.Ok ∷ did (controls.Start (thr 2) true) ∷ said replies.Ok ∷ did (controls.Join (thr 1)) ∷ said replies.Ok ∷ did (controls.Join (thr 1)) ∷ said replies.Ok ∷ [])
      ∷ Some (said replies.Ok ∷ seen 1 1 1 ops.Ready (pos 0) (pos 0) (replies.Outcome (outcomes.Value (negsuc 0))) ∷ said (replies.Outcome (outcomes.Value (negsuc 0))) ∷ said replies.NoState ∷ made 1 2 0 ops.Release (pos 0) (pos 0) replies.Ok ∷ said replies.Ok ∷ [])
      ∷ Some (seen 2 2 0 ops.TryAcquire (pos 0) (pos 0) replies.False ∷ said replies.False ∷ seen 2 0 0 ops.StopPossible (pos 0) (pos 0) replies.True ∷ said replies.True ∷ [])
      ∷ [];
}

-- a record with the flaw gap
abbrev pub scene_flaw_0008 : Scene
scene_flaw_0008 = record {
  version = 1;
  threads = threads.Plain ∷ threads.Plain ∷ [];
  objects = objects.Condition ∷ objects.Mutex 1 ∷ objects.Semaphore 0 1 ∷ [];
  callbacks = [];
  bodies =
      (calls.Start (thr 1) ∷ calls.Join (thr 1) ∷ calls.TryAcquire (obj 2) ∷ calls.Lock (obj 1) ∷ calls.Unlock (obj 1) ∷ calls.NotifyAll (obj 0) ∷ calls.Join (thr 1) ∷ [])
      ∷ (calls.Lock (obj 1) ∷ calls.Release (obj 2) 1 ∷ calls.Unlock (obj 1) ∷ [])
      ∷ [];
}

abbrev pub recorded_flaw_0008 : Recorded
recorded_flaw_0008 = record {
  version = 1;
  lists =
      Some (did (controls.Start (thr 1) true) ∷ said replies.Ok ∷ did (controls.Join (thr 1)) ∷ said replies.Ok ∷ made 0 2 1 ops.TryAcquire (pos 0) (pos 0) replies.True ∷ said replies.True ∷ made 0 1 2 ops.Lock (pos 0) (pos 0) replies.Ok ∷ said replies.Ok ∷ made 0 1 3 ops.Unlock (pos 0) (pos 0) replies.Ok ∷ said replies.Ok ∷ made 0 0 0 ops.NotifyAll (pos 0) (pos 0) (replies.Number (pos 0)) ∷ said (replies.Number (pos 0)) ∷ said replies.InvalidArgument ∷ [])
      ∷ Some (made 1 1 0 ops.Lock (pos 0) (pos 0) replies.Ok ∷ said replies.Ok ∷ made 1 2 0 ops.Release (pos 1) (pos 0) replies.Ok ∷ said replies.Ok ∷ made 1 1 0 ops.Unlock (pos 0) (pos 0) replies.Ok ∷ said replies.Ok ∷ [])
      ∷ [];
}

-- a record with the flaw text
abbrev pub scene_flaw_0011 : Scene
scene_flaw_0011 = record {
  version = 1;
  threads = threads.Plain ∷ threads.Plain ∷ threads.Stoppable (obj 0) ∷ threads.Plain ∷ threads.Stoppable (obj 1) ∷ [];
  objects = objects.StopOfThread ∷ objects.StopOfThread ∷ objects.Latch 3 ∷ objects.Semaphore 0 1 ∷ objects.Barrier 4 (Some (smalls.Release (obj 3) 1)) ∷ [];
  callbacks = [];
  bodies =
      (calls.CountDown (obj 2) 3 ∷ calls.Start (thr 1) ∷ calls.Start (thr 2) ∷ calls.Start (thr 3) ∷ calls.Start (thr 4) ∷ calls.Join (thr 3) ∷ calls.Join (thr 1) ∷ [])
      ∷ (calls.TryAcquire (obj 3) ∷ calls.WaitLatch (obj 2) ∷ calls.TryWait (obj 2) ∷ calls.Arrive (obj 4) 1 ∷ calls.TryAcquire (obj 3) ∷ calls.WaitBarrier (obj 4) ∷ [])
      ∷ (calls.ArriveAndWait (obj 4) ∷ calls.Release (obj 3) 0 ∷ [])
      ∷ (calls.ArriveAndDrop (obj 4) ∷ calls.ArriveAndWait (obj 4) ∷ calls.WaitBarrier (obj 4) ∷ calls.TryWait (obj 2) ∷ [])
      ∷ (calls.TryWait (obj 2) ∷ [])
      ∷ [];
}

abbrev pub recorded_flaw_0011 : Recorded
recorded_flaw_0011 = record {
  version = 1;
  lists =
      Some (made 0 2 0 ops.CountDown (pos 3) (pos 0) replies.Ok ∷ said replies.Ok ∷ did (controls.Start (thr 1) true) ∷ said replies.Ok ∷ did (controls.Start (thr 2) true) ∷ said replies.Ok ∷ did (controls.Start (thr 3) true) ∷ said replies.Ok ∷ did (controls.Start (thr 4) true) ∷ said replies.Ok ∷ did (controls.Join (thr 3)) ∷ said replies.Ok ∷ did (controls.Join (thr 1)) ∷ said replies.Ok ∷ made 0 1 0 ops.Request (pos 0) (pos 0) replies.Ok ∷ seen 0 1 1 ops.Drained (pos 0) (pos 0) replies.Ok ∷ did (controls.Join (thr 4)) ∷ made 0 0 0 ops.Request (pos 0) (pos 0) replies.Ok ∷ seen 0 0 1 ops.Drained (pos 0) (pos 0) replies.Ok ∷ did (controls.Join (thr 2)) ∷ [])
      ∷ Some (seen 1 3 0 ops.TryAcquire (pos 0) (pos 0) replies.False ∷ said replies.False ∷ seen 1 2 1 ops.Wait (pos 0) (pos 0) replies.Ok ∷ said replies.Ok ∷ seen 1 2 1 ops.TryWait (pos 0) (pos 0) replies.True ∷ said replies.True ∷ made 1 4 0 ops.Arrive (pos 1) (pos 0) (replies.Number (pos 0)) ∷ said (replies.Number (pos 0)) ∷ seen 1 3 0 ops.TryAcquire (pos 0) (pos 0) replies.False ∷ said replies.False ∷ seen 1 4 5 ops.Wait (pos 0) (pos 0) replies.Ok ∷ said replies.Ok ∷ [])
      ∷ Some (made 2 4 1 ops.Arrive (pos 1) (pos 0) (replies.Number (pos 0)) ∷ seen 2 4 5 ops.Wait (pos 0) (pos 0) replies.Ok ∷ said replies.Ok ∷ made 2 3 1 ops.Release (pos 0) (pos 0) replies.Ok ∷ said replies.Ok ∷ [])
      ∷ Some (made 3 4 2 ops.Drop (pos 0) (pos 0) (replies.Number (pos 0)) ∷ said replies.Over ∷ made 3 4 3 ops.Arrive (pos 1) (pos 0) (replies.Number (pos 0)) ∷ made 3 3 0 ops.Release (pos 1) (pos 0) replies.Ok ∷ made 3 4 4 ops.Complete (pos 0) (pos 0) replies.Ok ∷ seen 3 4 5 ops.Wait (pos 0) (pos 0) replies.Ok ∷ said replies.Ok ∷ said replies.NoToken ∷ seen 3 2 1 ops.TryWait (pos 0) (pos 0) replies.True ∷ said replies.True ∷ [])
      ∷ Some (seen 4 2 1 ops.TryWait (pos 0) (pos 0) replies.True ∷ said replies.True ∷ [])
      ∷ [];
}

-- a record with the flaw text
abbrev pub scene_flaw_0015 : Scene
scene_flaw_0015 = record {
  version = 1;
  threads = threads.Plain ∷ threads.Plain ∷ threads.Stoppable (obj 0) ∷ threads.Plain ∷ [];
  objects = objects.StopOfThread ∷ objects.Stop (2 ∷ []) ∷ objects.Semaphore 0 3 ∷ objects.Stop (1 ∷ []) ∷ objects.Condition ∷ objects.Semaphore 0 1 ∷ objects.Task (thr 0) (thr 3) (functions.Return (pos 4)) ∷ objects.Latch 5 ∷ [];
  callbacks = callback (obj 1) actions.Deregister ∷ callback (obj 1) (actions.Small (smalls.Release (obj 2) 2)) ∷ callback (obj 1) (actions.Small (smalls.Release (obj 2) 3)) ∷ callback (obj 1) actions.Deregister ∷ callback (obj 3) actions.Deregister ∷ callback (obj 3) (actions.Small (smalls.NotifyOne (obj 4))) ∷ callback (obj 3) (actions.Small (smalls.Release (obj 5) 0)) ∷ callback (obj 3) (actions.Small (smalls.NotifyAll (obj 4))) ∷ [];
  bodies =
      (calls.Register (cbk 2) ∷ calls.Start (thr 1) ∷ calls.Start (thr 3) ∷ calls.Start (thr 2) ∷ calls.Deregister (cbk 2) ∷ calls.Deregister (cbk 2) ∷ calls.CountDown (obj 7) 3 ∷ calls.Invoke (obj 6) ∷ calls.Invoke (obj 6) ∷ calls.StopRequested (obj 1) ∷ calls.ArriveAndWaitLatch (obj 7) ∷ calls.Register (cbk 5) ∷ calls.Deregister (cbk 5) ∷ calls.RequestStop (obj 3) ∷ calls.Register (cbk 3) ∷ calls.Join (thr 1) ∷ calls.Join (thr 2) ∷ calls.Join (thr 3) ∷ [])
      ∷ (calls.NotifyOne (obj 4) ∷ calls.CountDown (obj 7) 0 ∷ calls.Register (cbk 4) ∷ calls.Register (cbk 6) ∷ calls.RequestStop (obj 3) ∷ calls.Deregister (cbk 4) ∷ calls.Register (cbk 1) ∷ calls.Deregister (cbk 1) ∷ calls.Deregister (cbk 6) ∷ calls.WaitLatch (obj 7) ∷ [])
      ∷ (calls.Another (obj 1) ∷ calls.RequestStop (obj 1) ∷ calls.StopRequested (obj 1) ∷ calls.Register (cbk 0) ∷ calls.Deregister (cbk 0) ∷ [])
      ∷ (calls.Release (obj 5) 2 ∷ calls.TryWait (obj 7) ∷ calls.ArriveAndWaitLatch (obj 7) ∷ calls.GetFuture (obj 6) ∷ calls.GetFuture (obj 6) ∷ calls.GetFuture (obj 6) ∷ [])
      ∷ [];
}

abbrev pub recorded_flaw_0015 : Recorded
recorded_flaw_0015 = record {
  version = 1;
  lists =
      Some (made 0 1 0 ops.Register (pos 0) (pos 0) replies.Ok ∷ said replies.Queued ∷ did (controls.Start (thr 1) true) ∷ said replies.Ok ∷ did (controls.Start (thr 3) true) ∷ said replies.Ok ∷ did (controls.Start (thr 2) true) ∷ said replies.Ok ∷ made 0 1 2 ops.Deregister (pos 0) (pos 0) replies.Removed ∷ said replies.Removed ∷ said replies.NotHeld ∷ made 0 7 2 ops.CountDown (pos 3) (pos 0) replies.Ok ∷ said replies.Ok ∷ made 0 6 0 ops.Set (pos 0) (pos 4) replies.Ok ∷ said replies.Ok ∷ said replies.PromiseAlreadySatisfied ∷ seen 0 1 5 ops.StopRequested (pos 0) (pos 0) replies.True ∷ said replies.True ∷ made 0 7 3 ops.CountDown (pos 1) (pos 0) replies.Ok ∷ seen 0 7 4 ops.Wait (pos 0) (pos 0) replies.Ok ∷ said replies.Ok ∷ made 0 3 5 ops.RegisterNow (pos 11) (pos 0) replies.Ok ∷ made 0 4 1 ops.NotifyOne (pos 0) (pos 0) replies.Nobody ∷ said replies.Ran ∷ said replies.NotHeld ∷ said replies.NoState ∷ made 0 1 7 ops.RegisterNow (pos 14) (pos 0) replies.Ok ∷ made 0 1 9 ops.Finish (pos 14) (pos 0) replies.Ok ∷ said replies.Ran ∷ did (controls.Join (thr 1)) ∷ said replies.Ok ∷ did (controls.Join (thr 2)) ∷ said replies.Ok ∷ did (controls.Join (thr 3)) ∷ said replies.Ok ∷ [])
      ∷ Some (made 1 4 0 ops.NotifyOne (pos 0) (pos 0) replies.Nobody ∷ said replies.Nobody ∷ made 1 7 0 ops.CountDown (pos 0) (pos 0) replies.Ok ∷ said replies.Ok ∷ made 1 3 0 ops.Register (pos 4098) (pos 0) replies.Ok ∷ said replies.Queued ∷ made 1 3 1 ops.Register (pos 4099) (pos 0) replies.Ok ∷ said replies.Queued ∷ made 1 3 2 ops.Request (pos 0) (pos 0) replies.Ok ∷ made 1 3 3 ops.Begin (pos 4098) (pos 0) replies.Ok ∷ made 1 3 4 ops.Deregister (pos 4098) (pos 0) replies.Inside ∷ made 1 3 6 ops.Finish (pos 4098) (pos 0) replies.Ok ∷ made 1 3 7 ops.Begin (pos 4099) (pos 0) replies.Ok ∷ made 1 5 0 ops.Release (pos 0) (pos 0) replies.Ok ∷ made 1 3 8 ops.Finish (pos 4099) (pos 0) replies.Ok ∷ seen 1 3 10 ops.Drained (pos 0) (pos 0) replies.Ok ∷ said replies.Made ∷ said replies.NotHeld ∷ made 1 1 6 ops.RegisterNow (pos 4102) (pos 0) replies.Ok ∷ made 1 2 0 ops.Release (pos 2) (pos 0) replies.Ok ∷ made 1 1 8 ops.Finish (pos 4102) (pos 0) replies.Ok ∷ said replies.Ran ∷ said replies.NotHeld ∷ made 1 3 9 ops.Deregister (pos 4099) (pos 0) replies.Ran ∷ said replies.Ran ∷ seen 1 7 4 ops.Wait (pos 0) (pos 0) replies.Ok ∷ said replies.Ok ∷ [])
      ∷ Some (made 2 1 1 ops.Another (pos 0) (pos 0) replies.Ok ∷ said replies.Ok ∷ made 2 1 3 ops.Request (pos 0) (pos 0) replies.Ok ∷ seen 2 1 4 ops.Drained (pos 0) (pos 0) replies.Ok ∷ said replies.Made ∷ seen 2 1 4 ops.StopRequested (pos 0) (pos 0) replies.True ∷ said replies.True ∷ made 2 1 5 ops.RegisterNow (pos 8195) (pos 0) replies.Ok ∷ made 2 1 4 ops.Finish (pos 8195) (pos 0) replies.Ok ∷ said replies.Ran ∷ said replies.NotHeld ∷ [])
      ∷ Some (seen 3 5 0 ops.Release (pos 2) (pos 0) replies.Over ∷ said replies.Over ∷ seen 3 7 1 ops.TryWait (pos 0) (pos 0) replies.False ∷ said replies.False ∷ made 3 7 1 ops.CountDown (pos 1) (pos 0) replies.Ok ∷ seen 3 7 4 ops.Wait (pos 0) (pos 0) replies.Ok ∷ said replies.Ok ∷ said replies.Ok ∷ said replies.FutureAlreadyRetrieved ∷ said replies.FutureAlreadyRetrieved ∷ [])
      ∷ [];
}

-- a record with the flaw step
abbrev pub scene_flaw_0018 : Scene
scene_flaw_0018 = record {
  version = 1;
  threads = threads.Plain ∷ threads.Stoppable (obj 0) ∷ [];
  objects = objects.StopOfThread ∷ objects.Promise (thr 1) (thr 0) ∷ objects.Barrier 2 None ∷ objects.Condition ∷ objects.Mutex 3 ∷ objects.Semaphore 0 1 ∷ objects.Semaphore 0 65535 ∷ objects.Stop (1 ∷ []) ∷ [];
  callbacks = [];
  bodies =
      (calls.Release (obj 6) 1 ∷ calls.GetFuture (obj 1) ∷ calls.Lock (obj 4) ∷ calls.Add (obj 4) 0 (pos 1) ∷ calls.NotifyAll (obj 3) ∷ calls.Unlock (obj 4) ∷ calls.Start (thr 1) ∷ calls.ArriveAndDrop (obj 2) ∷ calls.Lock (obj 4) ∷ calls.Unlock (obj 4) ∷ calls.ArriveAndWait (obj 2) ∷ calls.WaitBarrier (obj 2) ∷ calls.RequestStop (obj 7) ∷ calls.Lock (obj 4) ∷ calls.Add (obj 4) 0 (pos 1) ∷ calls.NotifyAll (obj 3) ∷ calls.Unlock (obj 4) ∷ calls.RequestStop (obj 0) ∷ calls.Join (thr 1) ∷ [])
      ∷ (calls.Unlock (obj 4) ∷ calls.Release (obj 5) 1 ∷ calls.Acquire (obj 6) ∷ calls.ArriveAndWait (obj 2) ∷ calls.WaitBarrier (obj 2) ∷ calls.DropSource (obj 7) ∷ calls.RequestStop (obj 7) ∷ calls.DropSource (obj 7) ∷ calls.SetValue (obj 1) (pos 5) ∷ calls.Lock (obj 4) ∷ calls.WaitStop (obj 3) (obj 4) (obj 0) (record { number = 0; relation = relations.Greater; value = (pos 0) }) ∷ calls.Unlock (obj 4) ∷ calls.StopRequested (obj 7) ∷ calls.Arrive (obj 2) 2 ∷ [])
      ∷ [];
}

abbrev pub recorded_flaw_0018 : Recorded
recorded_flaw_0018 = record {
  version = 1;
  lists =
      Some (made 0 6 1 ops.Release (pos 1) (pos 0) replies.Ok ∷ said replies.Ok ∷ said replies.Ok ∷ made 0 4 0 ops.Lock (pos 0) (pos 0) replies.Ok ∷ said replies.Ok ∷ made 0 4 1 ops.Add (pos 0) (pos 1) (replies.Number (pos 1)) ∷ said (replies.Number (pos 1)) ∷ made 0 3 0 ops.NotifyAll (pos 0) (pos 0) (replies.Number (pos 0)) ∷ said (replies.Number (pos 0)) ∷ made 0 4 2 ops.Unlock (pos 0) (pos 0) replies.Ok ∷ said replies.Ok ∷ did (controls.Start (thr 1) true) ∷ said replies.Ok ∷ made 0 2 0 ops.Drop (pos 0) (pos 0) (replies.Number (pos 0)) ∷ said replies.Ok ∷ made 0 4 3 ops.Lock (pos 0) (pos 0) replies.Ok ∷ said replies.Ok ∷ made 0 4 4 ops.Unlock (pos 0) (pos 0) replies.Ok ∷ said replies.Ok ∷ made 0 2 1 ops.Arrive (pos 1) (pos 0) (replies.Number (pos 0)) ∷ made 0 2 2 ops.Complete (pos 0) (pos 0) replies.Ok ∷ seen 0 2 3 ops.Wait (pos 0) (pos 0) replies.Ok ∷ said replies.Ok ∷ said replies.NoToken ∷ said replies.NoState ∷ made 0 4 5 ops.Lock (pos 0) (pos 0) replies.Ok ∷ said replies.Ok ∷ made 0 4 6 ops.Add (pos 0) (pos 1) (replies.Number (pos 2)) ∷ said (replies.Number (pos 2)) ∷ made 0 3 1 ops.NotifyAll (pos 0) (pos 0) (replies.Number (pos 0)) ∷ said (replies.Number (pos 0)) ∷ made 0 4 7 ops.Unlock (pos 0) (pos 0) replies.Ok ∷ said replies.Ok ∷ made 0 0 0 ops.Request (pos 0) (pos 0) replies.Ok ∷ seen 0 0 1 ops.Drained (pos 0) (pos 0) replies.Ok ∷ said replies.Made ∷ did (controls.Join (thr 1)) ∷ said replies.Ok ∷ [])
      ∷ Some (said replies.OperationNotPermitted ∷ made 1 5 0 ops.Release (pos 1) (pos 0) replies.Ok ∷ said replies.Ok ∷ made 1 6 0 ops.Acquire (pos 0) (pos 0) replies.Ok ∷ said replies.Ok ∷ made 1 2 3 ops.Arrive (pos 1) (pos 0) (replies.Number (pos 1)) ∷ made 1 2 4 ops.Complete (pos 0) (pos 0) replies.Ok ∷ seen 1 2 5 ops.Wait (pos 1) (pos 0) replies.Ok ∷ said replies.Ok ∷ said replies.NoToken ∷ made 1 7 0 ops.Drop (pos 0) (pos 0) replies.Ok ∷ said replies.Ok ∷ said replies.NoState ∷ said replies.NoState ∷ made 1 1 0 ops.Set (pos 0) (pos 5) replies.Ok ∷ said replies.Ok ∷ made 1 4 8 ops.Lock (pos 0) (pos 0) replies.Ok ∷ said replies.Ok ∷ made 1 0 1 ops.RegisterNow (pos 4106) (pos 0) replies.Ok ∷ made 1 3 2 ops.NotifyAll (pos 0) (pos 0) (replies.Number (pos 0)) ∷ made 1 0 2 ops.Finish (pos 4106) (pos 0) replies.Ok ∷ seen 1 0 3 ops.StopRequested (pos 0) (pos 0) replies.True ∷ seen 1 4 9 ops.Get (pos 0) (pos 0) (replies.Number (pos 2)) ∷ said replies.True ∷ made 1 4 9 ops.Unlock (pos 0) (pos 0) replies.Ok ∷ said replies.Ok ∷ seen 1 7 1 ops.StopRequested (pos 0) (pos 0) replies.False ∷ said replies.False ∷ seen 1 2 5 ops.Arrive (pos 2) (pos 0) replies.OverExpected ∷ said replies.OverExpected ∷ [])
      ∷ [];
}

-- a record with the flaw fell
abbrev pub scene_flaw_0029 : Scene
scene_flaw_0029 = record {
  version = 1;
  threads = threads.Plain ∷ threads.Plain ∷ threads.Stoppable (obj 0) ∷ threads.Stoppable (obj 1) ∷ [];
  objects = objects.StopOfThread ∷ objects.StopOfThread ∷ objects.Condition ∷ objects.Barrier 4 (Some (smalls.NotifyAll (obj 2))) ∷ objects.Promise (thr 0) (thr 0) ∷ objects.Task (thr 2) (thr 3) (functions.Return (pos 1)) ∷ objects.Stop (0 ∷ []) ∷ objects.Mutex 3 ∷ objects.Semaphore 0 2 ∷ objects.Semaphore 0 65535 ∷ [];
  callbacks = [];
  bodies =
      (calls.Start (thr 1) ∷ calls.Start (thr 3) ∷ calls.SetException (obj 4) 0 ∷ calls.Start (thr 2) ∷ calls.GetFuture (obj 4) ∷ calls.WaitFuture (obj 4) ∷ calls.Join (thr 3) ∷ calls.Join (thr 1) ∷ [])
      ∷ (calls.Another (obj 6) ∷ calls.Lock (obj 7) ∷ calls.Release (obj 8) 1 ∷ calls.WaitStop (obj 2) (obj 7) (obj 6) (record { number = 1; relation = relations.Unequal; value = (pos 1) }) ∷ calls.Unlock (obj 7) ∷ calls.Release (obj 9) 0 ∷ [])
      ∷ (calls.Invoke (obj 5) ∷ calls.TryAcquire (obj 9) ∷ calls.Lock (obj 7) ∷ calls.ArriveAndDrop (obj 3) ∷ calls.WaitBarrier (obj 3) ∷ calls.Release (obj 8) 1 ∷ calls.Unlock (obj 7) ∷ [])
      ∷ (calls.Release (obj 9) 1 ∷ calls.TryAcquire (obj 9) ∷ calls.ArriveAndDrop (obj 3) ∷ calls.GetFuture (obj 5) ∷ calls.GetFuture (obj 5) ∷ calls.GetOutcome (obj 5) ∷ [])
      ∷ [];
}

abbrev pub recorded_flaw_0029 : Recorded
recorded_flaw_0029 = record {
  version = 1;
  lists =
      Some (did (controls.Start (thr 1) true) ∷ said replies.Ok ∷ did (controls.Start (thr 3) true) ∷ said replies.Ok ∷ made 0 4 0 ops.Set (pos 1) (pos 0) replies.Ok ∷ said replies.Ok ∷ did (controls.Start (thr 2) true) ∷ said replies.Ok ∷ said replies.Ok ∷ seen 0 4 1 ops.Ready (pos 0) (pos 0) (replies.Outcome (outcomes.Exception 0)) ∷ said replies.Ok ∷ did (controls.Join (thr 3)) ∷ said replies.Ok ∷ did (controls.Join (thr 1)) ∷ said replies.Ok ∷ made 0 0 0 ops.Request (pos 0) (pos 0) replies.Ok ∷ seen 0 0 1 ops.Drained (pos 0) (pos 0) replies.Ok ∷ did (controls.Join (thr 2)) ∷ [])
      ∷ Some (said replies.NoState ∷ made 1 7 0 ops.Lock (pos 0) (pos 0) replies.Ok ∷ said replies.Ok ∷ made 1 8 0 ops.Release (pos 1) (pos 0) replies.Ok ∷ said replies.Ok ∷ made 1 6 0 ops.Register (pos 4099) (pos 0) replies.Ok ∷ seen 1 6 2 ops.StopRequested (pos 0) (pos 0) replies.False ∷ seen 1 7 1 ops.Get (pos 1) (pos 0) (replies.Number (pos 0)) ∷ made 1 6 1 ops.Deregister (pos 4099) (pos 0) replies.Removed ∷ said replies.True ∷ made 1 7 1 ops.Unlock (pos 0) (pos 0) replies.Ok ∷ said replies.Ok ∷ made 1 9 2 ops.Release (pos 0) (pos 0) replies.Ok ∷ said replies.Ok ∷ [])
      ∷ Some (made 2 5 0 ops.Set (pos 0) (pos 1) replies.Ok ∷ said replies.Ok ∷ seen 2 9 2 ops.TryAcquire (pos 0) (pos 0) replies.False ∷ said replies.False ∷ made 2 7 2 ops.Lock (pos 0) (pos 0) replies.Ok ∷ said replies.Ok ∷ made 2 3 1 ops.Drop (pos 0) (pos 0) (replies.Number (pos 0)) ∷ said replies.Ok ∷ said replies.NoToken ∷ made 2 8 1 ops.Release (pos 1) (pos 0) replies.Ok ∷ said replies.Ok ∷ made 2 7 3 ops.Unlock (pos 0) (pos 0) replies.Ok ∷ said replies.Ok ∷ [])
      ∷ Some (made 3 9 0 ops.Release (pos 1) (pos 0) replies.Ok ∷ said replies.Ok ∷ made 3 9 1 ops.TryAcquire (pos 0) (pos 0) replies.True ∷ said replies.True ∷ made 3 3 0 ops.Drop (pos 0) (pos 0) (replies.Number (pos 0)) ∷ said replies.Ok ∷ said replies.Ok ∷ said replies.FutureAlreadyRetrieved ∷ seen 3 5 1 ops.Ready (pos 0) (pos 0) (replies.Outcome (outcomes.Value (pos 1))) ∷ said (replies.Outcome (outcomes.Value (pos 1))) ∷ [])
      ∷ [];
}

-- a record with the flaw text
abbrev pub scene_flaw_0031 : Scene
scene_flaw_0031 = record {
  version = 1;
  threads = threads.Plain ∷ threads.Stoppable (obj 0) ∷ [];
  objects = objects.StopOfThread ∷ objects.Recursive ∷ objects.Condition ∷ objects.Stop (1 ∷ []) ∷ objects.Mutex 2 ∷ [];
  callbacks = callback (obj 0) (actions.Small (smalls.NotifyAll (obj 2))) ∷ [];
  bodies =
      (calls.Register (cbk 0) ∷ calls.StopRequested (obj 0) ∷ calls.Start (thr 1) ∷ calls.StopRequested (obj 0) ∷ calls.RequestStop (obj 0) ∷ calls.Deregister (cbk 0) ∷ calls.StopRequested (obj 0) ∷ calls.Join (thr 1) ∷ [])
      ∷ (calls.NotifyOne (obj 2) ∷ calls.Lock (obj 4) ∷ calls.Unlock (obj 4) ∷ calls.StopRequested (obj 0) ∷ calls.LockRecursive (obj 1) ∷ calls.Unlock (obj 1) ∷ calls.Unlock (obj 1) ∷ calls.Unlock (obj 1) ∷ calls.LockRecursive (obj 1) ∷ calls.Unlock (obj 1) ∷ calls.Unlock (obj 1) ∷ calls.RequestStop (obj 3) ∷ calls.Lock (obj 4) ∷ [])
      ∷ [];
}

abbrev pub recorded_flaw_0031 : Recorded
recorded_flaw_0031 = record {
  version = 1;
  lists =
      Some (made 0 0 0 ops.Register (pos 0) (pos 0) replies.Ok ∷ said replies.Queued ∷ seen 0 0 1 ops.StopRequested (pos 0) (pos 0) replies.False ∷ said replies.False ∷ did (controls.Start (thr 1) true) ∷ said replies.Ok ∷ seen 0 0 1 ops.StopRequested (pos 0) (pos 0) replies.False ∷ said replies.False ∷ made 0 0 1 ops.Request (pos 0) (pos 0) replies.Ok ∷ made 0 0 2 ops.Begin (pos 0) (pos 0) replies.Ok ∷ made 0 2 1 ops.NotifyAll (pos 0) (pos 0) (replies.Number (pos 0)) ∷ made 0 0 3 ops.Finish (pos 0) (pos 0) replies.Ok ∷ seen 0 0 4 ops.Drained (pos 0) (pos 0) replies.Ok ∷ said replies.Passive ∷ made 0 0 4 ops.Deregister (pos 0) (pos 0) replies.Ran ∷ said replies.Ran ∷ seen 0 0 5 ops.StopRequested (pos 0) (pos 0) replies.True ∷ said replies.True ∷ did (controls.Join (thr 1)) ∷ said replies.Ok ∷ [])
      ∷ Some (made 1 2 0 ops.NotifyOne (pos 0) (pos 0) replies.Nobody ∷ said replies.Nobody ∷ made 1 4 0 ops.Lock (pos 0) (pos 0) replies.Ok ∷ said replies.Ok ∷ made 1 4 1 ops.Unlock (pos 0) (pos 0) replies.Ok ∷ said replies.Ok ∷ seen 1 0 4 ops.StopRequested (pos 0) (pos 0) replies.True ∷ said replies.True ∷ made 1 1 0 ops.Lock (pos 0) (pos 0) replies.Ok ∷ said replies.Ok ∷ made 1 1 1 ops.Unlock (pos 0) (pos 0) replies.Ok ∷ said replies.Ok ∷ said replies.OperationNotPermitted ∷ said replies.OperationNotPermitted ∷ made 1 1 2 ops.Lock (pos 0) (pos 0) replies.Ok ∷ said replies.Ok ∷ made 1 1 3 ops.Unlock (pos 0) (pos 0) replies.Ok ∷ said replies.Ok ∷ said replies.OperationNotPermitted ∷ made 1 3 0 ops.Request (pos 0) (pos 0) replies.Ok ∷ seen 1 3 1 ops.Drained (pos 0) (pos 0) replies.Ok ∷ said replies.Made ∷ made 1 4 2 ops.Lock (pos 0) (pos 0) replies.Ok ∷ said replies.Ok ∷ made 1 4 3 ops.Unlock (pos 0) (pos 0) replies.Ok ∷ [])
      ∷ [];
}

-- a record with the flaw text
abbrev pub scene_flaw_0033 : Scene
scene_flaw_0033 = record {
  version = 1;
  threads = threads.Plain ∷ threads.Stoppable (obj 0) ∷ threads.Launched (obj 4) ∷ [];
  objects = objects.StopOfThread ∷ objects.Condition ∷ objects.Mutex 2 ∷ objects.Semaphore 0 1 ∷ objects.Async policies.Async (functions.Return (negsuc 7)) (thr 2) ∷ objects.Latch 2 ∷ [];
  callbacks = [];
  bodies =
      (calls.RequestStop (obj 0) ∷ calls.Release (obj 3) 1 ∷ calls.Launch (obj 4) ∷ calls.Start (thr 1) ∷ calls.GetOutcome (obj 4) ∷ calls.WaitFuture (obj 4) ∷ calls.WaitFuture (obj 4) ∷ calls.Lock (obj 2) ∷ calls.Join (thr 1) ∷ calls.TryWait (obj 5) ∷ calls.CountDown (obj 5) 1 ∷ calls.Get (obj 2) 1 ∷ calls.Join (thr 1) ∷ [])
      ∷ (calls.Acquire (obj 3) ∷ calls.Lock (obj 2) ∷ calls.Add (obj 2) 1 (pos 1) ∷ calls.NotifyOne (obj 1) ∷ calls.Unlock (obj 2) ∷ calls.TryWait (obj 5) ∷ calls.CountDown (obj 5) 1 ∷ calls.Release (obj 3) 0 ∷ calls.Lock (obj 2) ∷ calls.Add (obj 2) 1 (pos 1) ∷ calls.NotifyOne (obj 1) ∷ calls.Unlock (obj 2) ∷ calls.Release (obj 3) 1 ∷ calls.Lock (obj 2) ∷ calls.Release (obj 3) 1 ∷ calls.WaitStop (obj 1) (obj 2) (obj 0) (record { number = 1; relation = relations.Greater; value = (pos 0) }) ∷ calls.Unlock (obj 2) ∷ calls.TryAcquire (obj 3) ∷ [])
      ∷ ([])
      ∷ [];
}

abbrev pub recorded_flaw_0033 : Recorded
recorded_flaw_0033 = record {
  version = 1;
  lists =
      Some (made 0 0 0 ops.Request (pos 0) (pos 0) replies.Ok ∷ seen 0 0 1 ops.Drained (pos 0) (pos 0) replies.Ok ∷ said replies.Made ∷ made 0 3 0 ops.Release (pos 1) (pos 0) replies.Ok ∷ said replies.Ok ∷ did (controls.Launch (thr 2) true) ∷ said replies.Launched ∷ did (controls.Start (thr 1) true) ∷ said replies.Deferred ∷ seen 0 4 1 ops.Ready (pos 0) (pos 0) (replies.Outcome (outcomes.Value (negsuc 7))) ∷ said (replies.Outcome (outcomes.Value (negsuc 7))) ∷ said replies.NoState ∷ said replies.NoState ∷ made 0 2 8 ops.Lock (pos 0) (pos 0) replies.Ok ∷ said replies.Ok ∷ did (controls.Join (thr 1)) ∷ said replies.Ok ∷ seen 0 5 1 ops.TryWait (pos 0) (pos 0) replies.False ∷ said replies.False ∷ made 0 5 1 ops.CountDown (pos 1) (pos 0) replies.Ok ∷ said replies.Ok ∷ seen 0 2 9 ops.Get (pos 1) (pos 0) (replies.Number (pos 2)) ∷ said (replies.Number (pos 2)) ∷ said replies.InvalidArgument ∷ made 0 2 9 ops.Unlock (pos 0) (pos 0) replies.Ok ∷ [])
      ∷ Some (made 1 3 1 ops.Acquire (pos 0) (pos 0) replies.Ok ∷ said replies.Ok ∷ made 1 2 0 ops.Lock (pos 0) (pos 0) replies.Ok ∷ said replies.Ok ∷ made 1 2 1 ops.Add (pos 1) (pos 1) (replies.Number (pos 1)) ∷ said (replies.Number (pos 1)) ∷ made 1 1 0 ops.NotifyOne (pos 0) (pos 0) replies.Nobody ∷ said replies.Nobody ∷ made 1 2 2 ops.Unlock (pos 0) (pos 0) replies.Ok ∷ said replies.Ok ∷ seen 1 5 0 ops.TryWait (pos 0) (pos 0) replies.False ∷ said replies.False ∷ made 1 5 0 ops.CountDown (pos 1) (pos 0) replies.Ok ∷ said replies.Ok ∷ made 1 3 2 ops.Release (pos 0) (pos 0) replies.Ok ∷ said replies.Ok ∷ made 1 2 3 ops.Lock (pos 0) (pos 0) replies.Ok ∷ said replies.Ok ∷ made 1 2 4 ops.Add (pos 1) (pos 1) (replies.Number (pos 2)) ∷ said (replies.Number (pos 2)) ∷ made 1 1 1 ops.NotifyOne (pos 0) (pos 0) replies.Nobody ∷ said replies.Nobody ∷ made 1 2 5 ops.Unlock (pos 0) (pos 0) replies.Ok ∷ said replies.Ok ∷ made 1 3 3 ops.Release (pos 1) (pos 0) replies.Ok ∷ said replies.Ok ∷ made 1 2 6 ops.Lock (pos 0) (pos 0) replies.Ok ∷ said replies.Ok ∷ seen 1 3 4 ops.Release (pos 1) (pos 0) replies.Over ∷ said replies.Over ∷ made 1 0 1 ops.RegisterNow (pos 4111) (pos 0) replies.Ok ∷ made 1 1 2 ops.NotifyAll (pos 0) (pos 0) (replies.Number (pos 0)) ∷ made 1 0 2 ops.Finish (pos 4111) (pos 0) replies.Ok ∷ seen 1 0 3 ops.StopRequested (pos 0) (pos 0) replies.True ∷ seen 1 2 7 ops.Get (pos 1) (pos 0) (replies.Number (pos 2)) ∷ said replies.True ∷ made 1 2 7 ops.Unlock (pos 0) (pos 0) replies.Ok ∷ said replies.Ok ∷ made 1 3 4 ops.TryAcquire (pos 0) (pos 0) replies.True ∷ said replies.True ∷ [])
      ∷ Some (made 2 4 0 ops.Set (pos 0) (negsuc 7) replies.Ok ∷ [])
      ∷ [];
}

-- a record with the flaw text
abbrev pub scene_flaw_0036 : Scene
scene_flaw_0036 = record {
  version = 1;
  threads = threads.Plain ∷ threads.Plain ∷ [];
  objects = objects.Stop (1 ∷ 0 ∷ []) ∷ objects.Condition ∷ objects.Mutex 1 ∷ objects.Mutex 1 ∷ objects.Once ∷ objects.Semaphore 1 1 ∷ objects.Semaphore 2 65535 ∷ objects.Semaphore 0 1 ∷ [];
  callbacks = callback (obj 0) (actions.Small (smalls.NotifyOne (obj 1))) ∷ callback (obj 0) (actions.Small (smalls.Release (obj 5) 1)) ∷ callback (obj 0) (actions.Small (smalls.Release (obj 6) 0)) ∷ callback (obj 0) (actions.Small (smalls.Release (obj 7) 2)) ∷ [];
  bodies =
      (calls.Lock (obj 3) ∷ calls.Register (cbk 3) ∷ calls.Deregister (cbk 3) ∷ calls.CallOnceThrow (obj 4) 4294967295 ∷ calls.Register (cbk 2) ∷ calls.CallOnceThrow (obj 4) 4294967295 ∷ calls.CallOnceThrow (obj 4) 42 ∷ calls.Start (thr 1) ∷ calls.Unlock (obj 3) ∷ calls.Register (cbk 1) ∷ calls.TryAcquire (obj 6) ∷ calls.DropSource (obj 0) ∷ calls.Lock (obj 2) ∷ calls.WaitStop (obj 1) (obj 2) (obj 0) (record { number = 0; relation = relations.AtLeast; value = (pos 2) }) ∷ calls.Unlock (obj 2) ∷ calls.Join (thr 1) ∷ [])
      ∷ (calls.Register (cbk 0) ∷ calls.RequestStop (obj 0) ∷ calls.Deregister (cbk 0) ∷ calls.Lock (obj 2) ∷ calls.Add (obj 2) 0 (pos 1) ∷ calls.NotifyOne (obj 1) ∷ calls.Unlock (obj 2) ∷ calls.RequestStop (obj 0) ∷ calls.Lock (obj 3) ∷ calls.WaitStop (obj 1) (obj 3) (obj 0) (record { number = 0; relation = relations.AtLeast; value = (pos 1) }) ∷ calls.Unlock (obj 3) ∷ calls.Lock (obj 2) ∷ calls.WaitStop (obj 1) (obj 2) (obj 0) (record { number = 0; relation = relations.Unequal; value = (pos 1) }) ∷ calls.Unlock (obj 2) ∷ calls.Release (obj 5) 1 ∷ calls.RequestStop (obj 0) ∷ calls.CallOnceThrow (obj 4) 4294967295 ∷ [])
      ∷ [];
}

abbrev pub recorded_flaw_0036 : Recorded
recorded_flaw_0036 = record {
  version = 1;
  lists =
      Some (made 0 3 0 ops.Lock (pos 0) (pos 0) replies.Ok ∷ said replies.Ok ∷ made 0 0 0 ops.Register (pos 1) (pos 0) replies.Ok ∷ said replies.Queued ∷ made 0 0 1 ops.Deregister (pos 1) (pos 0) replies.Removed ∷ said replies.Removed ∷ made 0 4 0 ops.Begin (pos 0) (pos 0) replies.Ok ∷ made 0 4 1 ops.Fail (pos 4294967295) (pos 0) replies.Ok ∷ said (replies.Threw 4294967295) ∷ made 0 0 2 ops.Register (pos 4) (pos 0) replies.Ok ∷ said replies.Queued ∷ made 0 4 2 ops.Begin (pos 0) (pos 0) replies.Ok ∷ made 0 4 3 ops.Fail (pos 4294967295) (pos 0) replies.Ok ∷ said (replies.Threw 4294967295) ∷ made 0 4 4 ops.Begin (pos 0) (pos 0) replies.Ok ∷ made 0 4 5 ops.Fail (pos 42) (pos 0) replies.Ok ∷ said (replies.Threw 42) ∷ did (controls.Start (thr 1) true) ∷ said replies.Ok ∷ made 0 3 1 ops.Unlock (pos 0) (pos 0) replies.Ok ∷ said replies.Ok ∷ made 0 0 3 ops.Register (pos 9) (pos 0) replies.Ok ∷ said replies.Queued ∷ made 0 6 0 ops.TryAcquire (pos 0) (pos 0) replies.True ∷ said replies.True ∷ made 0 4 7 ops.Fail (pos 4294967295) (pos 0) replies.Ok ∷ said replies.Ok ∷ made 0 2 0 ops.Lock (pos 0) (pos 0) replies.Ok ∷ said replies.Ok ∷ made 0 0 8 ops.RegisterNow (pos 13) (pos 0) replies.Ok ∷ made 0 1 0 ops.NotifyAll (pos 0) (pos 0) (replies.Number (pos 0)) ∷ made 0 0 11 ops.Finish (pos 13) (pos 0) replies.Ok ∷ seen 0 0 12 ops.StopRequested (pos 0) (pos 0) replies.True ∷ seen 0 2 1 ops.Get (pos 0) (pos 0) (replies.Number (pos 0)) ∷ said replies.False ∷ made 0 2 1 ops.Unlock (pos 0) (pos 0) replies.Ok ∷ said replies.Ok ∷ did (controls.Join (thr 1)) ∷ said replies.Ok ∷ [])
      ∷ Some (made 1 0 4 ops.Register (pos 4096) (pos 0) replies.Ok ∷ said replies.Queued ∷ made 1 0 5 ops.Request (pos 0) (pos 0) replies.Ok ∷ made 1 0 7 ops.Begin (pos 4) (pos 0) replies.Ok ∷ made 1 6 1 ops.Release (pos 0) (pos 0) replies.Ok ∷ made 1 0 9 ops.Finish (pos 4) (pos 0) replies.Ok ∷ made 1 0 10 ops.Begin (pos 9) (pos 0) replies.Ok ∷ seen 1 5 0 ops.Release (pos 1) (pos 0) replies.Over ∷ made 1 0 12 ops.Finish (pos 9) (pos 0) replies.Ok ∷ made 1 0 13 ops.Begin (pos 4096) (pos 0) replies.Ok ∷ made 1 1 1 ops.NotifyOne (pos 0) (pos 0) replies.Nobody ∷ made 1 0 14 ops.Finish (pos 4096) (pos 0) replies.Ok ∷ seen 1 0 15 ops.Drained (pos 0) (pos 0) replies.Ok ∷ said replies.Made ∷ made 1 0 15 ops.Deregister (pos 4096) (pos 0) replies.Ran ∷ said replies.Ran ∷ made 1 2 2 ops.Lock (pos 0) (pos 0) replies.Ok ∷ said replies.Ok ∷ made 1 2 3 ops.Add (pos 0) (pos 1) (replies.Number (pos 1)) ∷ said (replies.Number (pos 1)) ∷ made 1 1 2 ops.NotifyOne (pos 0) (pos 0) replies.Nobody ∷ said replies.Nobody ∷ made 1 2 4 ops.Unlock (pos 0) (pos 0) replies.Ok ∷ said replies.Ok ∷ seen 1 0 16 ops.Already (pos 0) (pos 0) replies.Ok ∷ said replies.Already ∷ made 1 3 2 ops.Lock (pos 0) (pos 0) replies.Ok ∷ said replies.Ok ∷ made 1 0 16 ops.RegisterNow (pos 4105) (pos 0) replies.Ok ∷ made 1 1 3 ops.NotifyAll (pos 0) (pos 0) (replies.Number (pos 0)) ∷ made 1 0 17 ops.Finish (pos 4105) (pos 0) replies.Ok ∷ seen 1 0 18 ops.StopRequested (pos 0) (pos 0) replies.True ∷ seen 1 3 3 ops.Get (pos 0) (pos 0) (replies.Number (pos 0)) ∷ said replies.False ∷ made 1 3 3 ops.Unlock (pos 0) (pos 0) replies.Ok ∷ said replies.Ok ∷ made 1 2 5 ops.Lock (pos 0) (pos 0) replies.Ok ∷ said replies.Ok ∷ made 1 0 18 ops.RegisterNow (pos 4108) (pos 0) replies.Ok ∷ made 1 1 4 ops.NotifyAll (pos 0) (pos 0) (replies.Number (pos 0)) ∷ made 1 0 19 ops.Finish (pos 4108) (pos 0) replies.Ok ∷ seen 1 0 20 ops.StopRequested (pos 0) (pos 0) replies.True ∷ seen 1 2 6 ops.Get (pos 0) (pos 0) (replies.Number (pos 1)) ∷ said replies.False ∷ made 1 2 6 ops.Unlock (pos 0) (pos 0) replies.Ok ∷ said replies.Ok ∷ seen 1 5 0 ops.Release (pos 1) (pos 0) replies.Over ∷ said replies.Over ∷ seen 1 0 20 ops.Already (pos 0) (pos 0) replies.Ok ∷ said replies.Already ∷ made 1 4 6 ops.Begin (pos 0) (pos 0) replies.Ok ∷ made 1 0 6 ops.Drop (pos 0) (pos 0) replies.Ok ∷ said (replies.Threw 4294967295) ∷ [])
      ∷ [];
}
