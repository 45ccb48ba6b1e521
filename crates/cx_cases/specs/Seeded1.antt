-- Replays with a seed, each with its record.
use Rattle.std.specs.Prelude.{pos, negsuc, true, [], ◌∷◌, Some, None}
use Rattle.cx_names.specs.declared.Reply.TheVariants as replies
use Rattle.cx_names.specs.declared.Outcome.TheVariants as outcomes
use Rattle.cx_machine.specs.declared.kind.Op.TheVariants as ops
use Rattle.cx_scene.specs.declared.declared.Object.TheVariants as objects
use Rattle.cx_scene.specs.declared.declared.Thread.TheVariants as threads
use Rattle.cx_scene.specs.declared.declared.Function.TheVariants as functions
use Rattle.cx_scene.specs.declared.declared.Policy.TheVariants as policies
use Rattle.cx_scene.specs.declared.declared.Small.TheVariants as smalls
use Rattle.cx_scene.specs.declared.declared.Action.TheVariants as actions
use Rattle.cx_scene.specs.declared.call.Call.TheVariants as calls
use Rattle.cx_items.specs.declared.item.Control.TheVariants as controls
use Rattle.cx_scene.specs.Scene.{Scene}
use Rattle.cx_history.specs.Histories.{Recorded}
use Rattle.cx_cases.specs.Short.{obj, thr, cbk, callback, made, seen, did, said}

-- the replay
abbrev pub scene_seeded_0023 : Scene
scene_seeded_0023 = record {
  version = 1;
  threads = threads.Plain ∷ threads.Plain ∷ threads.Plain ∷ [];
  objects = objects.Once ∷ [];
  callbacks = [];
  bodies =
      (calls.CallOnceReturn (obj 0) ∷ calls.CallOnceReturn (obj 0) ∷ calls.Start (thr 1) ∷ calls.Join (thr 1) ∷ calls.Start (thr 2) ∷ calls.Join (thr 2) ∷ [])
      ∷ (calls.CallOnceThrow (obj 0) 1 ∷ [])
      ∷ (calls.CallOnceReturn (obj 0) ∷ calls.CallOnceThrow (obj 0) 1 ∷ calls.CallOnceThrow (obj 0) 4294967295 ∷ calls.CallOnceReturn (obj 0) ∷ [])
      ∷ [];
}

abbrev pub recorded_seeded_0023 : Recorded
recorded_seeded_0023 = record {
  version = 1;
  lists =
      Some (made 0 0 0 ops.Begin (pos 0) (pos 0) replies.Ok ∷ made 0 0 1 ops.Finish (pos 0) (pos 0) replies.Ok ∷ said replies.Returned ∷ seen 0 0 2 ops.Passive (pos 0) (pos 0) replies.Ok ∷ said replies.Passive ∷ did (controls.Start (thr 1) true) ∷ said replies.Ok ∷ did (controls.Join (thr 1)) ∷ said replies.Ok ∷ did (controls.Start (thr 2) true) ∷ said replies.Ok ∷ did (controls.Join (thr 2)) ∷ said replies.Ok ∷ [])
      ∷ Some (seen 1 0 2 ops.Passive (pos 0) (pos 0) replies.Ok ∷ said replies.Passive ∷ [])
      ∷ Some (seen 2 0 2 ops.Passive (pos 0) (pos 0) replies.Ok ∷ said replies.Passive ∷ seen 2 0 2 ops.Passive (pos 0) (pos 0) replies.Ok ∷ said replies.Passive ∷ seen 2 0 2 ops.Passive (pos 0) (pos 0) replies.Ok ∷ said replies.Passive ∷ seen 2 0 2 ops.Passive (pos 0) (pos 0) replies.Ok ∷ said replies.Passive ∷ [])
      ∷ [];
}

-- the replay
abbrev pub scene_seeded_0053 : Scene
scene_seeded_0053 = record {
  version = 1;
  threads = threads.Plain ∷ threads.Plain ∷ [];
  objects = objects.Semaphore 0 2 ∷ objects.Stop (0 ∷ []) ∷ objects.Condition ∷ [];
  callbacks = callback (obj 1) actions.Deregister ∷ callback (obj 1) (actions.Small (smalls.NotifyOne (obj 2))) ∷ callback (obj 1) (actions.Small (smalls.NotifyAll (obj 2))) ∷ [];
  bodies =
      (calls.TryAcquire (obj 0) ∷ calls.Register (cbk 0) ∷ calls.StopPossible (obj 1) ∷ calls.Register (cbk 1) ∷ calls.RequestStop (obj 1) ∷ calls.Start (thr 1) ∷ calls.Deregister (cbk 1) ∷ calls.Deregister (cbk 1) ∷ calls.Acquire (obj 0) ∷ calls.RequestStop (obj 1) ∷ calls.Join (thr 1) ∷ [])
      ∷ (calls.Release (obj 0) 0 ∷ calls.NotifyOne (obj 2) ∷ calls.Release (obj 0) 2 ∷ [])
      ∷ [];
}

abbrev pub recorded_seeded_0053 : Recorded
recorded_seeded_0053 = record {
  version = 1;
  lists =
      Some (seen 0 0 0 ops.TryAcquire (pos 0) (pos 0) replies.False ∷ said replies.False ∷ made 0 1 0 ops.Register (pos 1) (pos 0) replies.Ok ∷ said replies.Queued ∷ seen 0 1 1 ops.StopPossible (pos 0) (pos 0) replies.True ∷ said replies.True ∷ made 0 1 1 ops.Register (pos 3) (pos 0) replies.Ok ∷ said replies.Queued ∷ made 0 1 2 ops.Request (pos 0) (pos 0) replies.Ok ∷ made 0 1 3 ops.Begin (pos 1) (pos 0) replies.Ok ∷ made 0 1 4 ops.Deregister (pos 1) (pos 0) replies.Inside ∷ made 0 1 5 ops.Finish (pos 1) (pos 0) replies.Ok ∷ made 0 1 6 ops.Begin (pos 3) (pos 0) replies.Ok ∷ made 0 2 0 ops.NotifyOne (pos 0) (pos 0) replies.Nobody ∷ made 0 1 7 ops.Finish (pos 3) (pos 0) replies.Ok ∷ seen 0 1 8 ops.Drained (pos 0) (pos 0) replies.Ok ∷ said replies.Made ∷ did (controls.Start (thr 1) true) ∷ said replies.Ok ∷ made 0 1 8 ops.Deregister (pos 3) (pos 0) replies.Ran ∷ said replies.Ran ∷ said replies.NotHeld ∷ made 0 0 2 ops.Acquire (pos 0) (pos 0) replies.Ok ∷ said replies.Ok ∷ seen 0 1 9 ops.Already (pos 0) (pos 0) replies.Ok ∷ said replies.Already ∷ did (controls.Join (thr 1)) ∷ said replies.Ok ∷ [])
      ∷ Some (made 1 0 0 ops.Release (pos 0) (pos 0) replies.Ok ∷ said replies.Ok ∷ made 1 2 1 ops.NotifyOne (pos 0) (pos 0) replies.Nobody ∷ said replies.Nobody ∷ made 1 0 1 ops.Release (pos 2) (pos 0) replies.Ok ∷ said replies.Ok ∷ [])
      ∷ [];
}

-- the replay
abbrev pub scene_seeded_0056 : Scene
scene_seeded_0056 = record {
  version = 1;
  threads = threads.Plain ∷ threads.Plain ∷ [];
  objects = objects.Condition ∷ objects.Mutex 2 ∷ objects.Semaphore 0 1 ∷ [];
  callbacks = [];
  bodies =
      (calls.Start (thr 1) ∷ calls.Acquire (obj 2) ∷ calls.Lock (obj 1) ∷ calls.Unlock (obj 1) ∷ calls.NotifyOne (obj 0) ∷ calls.NotifyAll (obj 0) ∷ calls.WaitCondition (obj 0) (obj 1) ∷ calls.Join (thr 1) ∷ [])
      ∷ (calls.Release (obj 2) 65535 ∷ calls.Lock (obj 1) ∷ calls.Release (obj 2) 1 ∷ calls.WaitCondition (obj 0) (obj 1) ∷ calls.Unlock (obj 1) ∷ [])
      ∷ [];
}

abbrev pub recorded_seeded_0056 : Recorded
recorded_seeded_0056 = record {
  version = 1;
  lists =
      Some (did (controls.Start (thr 1) true) ∷ said replies.Ok ∷ made 0 2 1 ops.Acquire (pos 0) (pos 0) replies.Ok ∷ said replies.Ok ∷ made 0 1 2 ops.Lock (pos 0) (pos 0) replies.Ok ∷ said replies.Ok ∷ made 0 1 3 ops.Unlock (pos 0) (pos 0) replies.Ok ∷ said replies.Ok ∷ made 0 0 1 ops.NotifyOne (pos 0) (pos 0) (replies.Thread (thr 1)) ∷ said (replies.Thread (thr 1)) ∷ made 0 0 2 ops.NotifyAll (pos 0) (pos 0) (replies.Number (pos 0)) ∷ said (replies.Number (pos 0)) ∷ said replies.OperationNotPermitted ∷ did (controls.Join (thr 1)) ∷ said replies.Ok ∷ [])
      ∷ Some (seen 1 2 0 ops.Release (pos 65535) (pos 0) replies.Over ∷ said replies.Over ∷ made 1 1 0 ops.Lock (pos 0) (pos 0) replies.Ok ∷ said replies.Ok ∷ made 1 2 0 ops.Release (pos 1) (pos 0) replies.Ok ∷ said replies.Ok ∷ made 1 0 0 ops.Enter (pos 0) (pos 0) replies.Ok ∷ made 1 1 1 ops.Unlock (pos 0) (pos 0) replies.Ok ∷ made 1 0 3 ops.Unblock (pos 0) (pos 0) replies.Ok ∷ made 1 1 4 ops.Lock (pos 0) (pos 0) replies.Ok ∷ said replies.Ok ∷ made 1 1 5 ops.Unlock (pos 0) (pos 0) replies.Ok ∷ said replies.Ok ∷ [])
      ∷ [];
}

-- the replay
abbrev pub scene_seeded_0060 : Scene
scene_seeded_0060 = record {
  version = 1;
  threads = threads.Plain ∷ threads.Plain ∷ [];
  objects = objects.Semaphore 0 2 ∷ objects.Barrier 1 (Some (smalls.Release (obj 0) 1)) ∷ [];
  callbacks = [];
  bodies =
      (calls.Start (thr 1) ∷ calls.Join (thr 1) ∷ calls.Join (thr 1) ∷ [])
      ∷ (calls.ArriveAndWait (obj 1) ∷ [])
      ∷ [];
}

abbrev pub recorded_seeded_0060 : Recorded
recorded_seeded_0060 = record {
  version = 1;
  lists =
      Some (did (controls.Start (thr 1) true) ∷ said replies.Ok ∷ did (controls.Join (thr 1)) ∷ said replies.Ok ∷ said replies.InvalidArgument ∷ [])
      ∷ Some (made 1 1 0 ops.Arrive (pos 1) (pos 0) (replies.Number (pos 0)) ∷ made 1 0 0 ops.Release (pos 1) (pos 0) replies.Ok ∷ made 1 1 1 ops.Complete (pos 0) (pos 0) replies.Ok ∷ seen 1 1 2 ops.Wait (pos 0) (pos 0) replies.Ok ∷ said replies.Ok ∷ [])
      ∷ [];
}

-- the replay
abbrev pub scene_seeded_0063 : Scene
scene_seeded_0063 = record {
  version = 1;
  threads = threads.Plain ∷ threads.Plain ∷ threads.Plain ∷ threads.Plain ∷ threads.Plain ∷ [];
  objects = objects.Promise (thr 1) (thr 2) ∷ [];
  callbacks = [];
  bodies =
      (calls.Start (thr 1) ∷ calls.Start (thr 2) ∷ calls.Start (thr 4) ∷ calls.Start (thr 3) ∷ calls.Join (thr 0) ∷ calls.Join (thr 4) ∷ calls.Join (thr 3) ∷ calls.Join (thr 1) ∷ calls.Join (thr 2) ∷ [])
      ∷ (calls.DropPromise (obj 0) ∷ [])
      ∷ (calls.GetFuture (obj 0) ∷ calls.Share (obj 0) ∷ calls.Share (obj 0) ∷ calls.GetOutcome (obj 0) ∷ [])
      ∷ ([])
      ∷ ([])
      ∷ [];
}

abbrev pub recorded_seeded_0063 : Recorded
recorded_seeded_0063 = record {
  version = 1;
  lists =
      Some (did (controls.Start (thr 1) true) ∷ said replies.Ok ∷ did (controls.Start (thr 2) true) ∷ said replies.Ok ∷ did (controls.Start (thr 4) true) ∷ said replies.Ok ∷ did (controls.Start (thr 3) true) ∷ said replies.Ok ∷ said replies.ResourceDeadlockWouldOccur ∷ did (controls.Join (thr 4)) ∷ said replies.Ok ∷ did (controls.Join (thr 3)) ∷ said replies.Ok ∷ did (controls.Join (thr 1)) ∷ said replies.Ok ∷ did (controls.Join (thr 2)) ∷ said replies.Ok ∷ [])
      ∷ Some (made 1 0 0 ops.Set (pos 2) (pos 0) replies.Ok ∷ said replies.Ok ∷ [])
      ∷ Some (said replies.Ok ∷ said replies.Ok ∷ said replies.NoState ∷ seen 2 0 1 ops.Ready (pos 0) (pos 0) (replies.Outcome outcomes.Broken) ∷ said (replies.Outcome outcomes.Broken) ∷ [])
      ∷ Some ([])
      ∷ Some ([])
      ∷ [];
}

-- the replay
abbrev pub scene_seeded_0064 : Scene
scene_seeded_0064 = record {
  version = 1;
  threads = threads.Plain ∷ threads.Plain ∷ threads.Launched (obj 0) ∷ threads.Plain ∷ [];
  objects = objects.Async policies.Both (functions.Return (negsuc 18)) (thr 2) ∷ [];
  callbacks = [];
  bodies =
      (calls.Join (thr 0) ∷ calls.Launch (obj 0) ∷ calls.Start (thr 1) ∷ calls.Start (thr 3) ∷ calls.Join (thr 1) ∷ calls.Join (thr 3) ∷ [])
      ∷ ([])
      ∷ ([])
      ∷ ([])
      ∷ [];
}

abbrev pub recorded_seeded_0064 : Recorded
recorded_seeded_0064 = record {
  version = 1;
  lists =
      Some (said replies.ResourceDeadlockWouldOccur ∷ did (controls.Launch (thr 2) true) ∷ said replies.Launched ∷ did (controls.Start (thr 1) true) ∷ said replies.Ok ∷ did (controls.Start (thr 3) true) ∷ said replies.Ok ∷ did (controls.Join (thr 1)) ∷ said replies.Ok ∷ did (controls.Join (thr 3)) ∷ said replies.Ok ∷ seen 0 0 1 ops.Ready (pos 0) (pos 0) (replies.Outcome (outcomes.Value (negsuc 18))) ∷ [])
      ∷ Some ([])
      ∷ Some (made 2 0 0 ops.Set (pos 0) (negsuc 18) replies.Ok ∷ [])
      ∷ Some ([])
      ∷ [];
}

-- the replay that is stuck
abbrev pub scene_seeded_0071 : Scene
scene_seeded_0071 = record {
  version = 1;
  threads = threads.Plain ∷ threads.Stoppable (obj 0) ∷ threads.Plain ∷ threads.Plain ∷ [];
  objects = objects.StopOfThread ∷ objects.Task (thr 0) (thr 2) (functions.Return (pos 1)) ∷ objects.Semaphore 5 5 ∷ objects.Barrier 4096 (Some (smalls.Release (obj 2) 1)) ∷ [];
  callbacks = [];
  bodies =
      (calls.Start (thr 2) ∷ calls.Start (thr 1) ∷ calls.Start (thr 3) ∷ calls.Join (thr 3) ∷ calls.Join (thr 2) ∷ calls.TryAcquire (obj 2) ∷ calls.Invoke (obj 1) ∷ calls.Join (thr 0) ∷ [])
      ∷ (calls.ArriveAndWait (obj 3) ∷ calls.Arrive (obj 3) 1 ∷ calls.WaitBarrier (obj 3) ∷ calls.ArriveAndWait (obj 3) ∷ [])
      ∷ (calls.GetFuture (obj 1) ∷ calls.GetOutcome (obj 1) ∷ calls.WaitFuture (obj 1) ∷ calls.ArriveAndDrop (obj 3) ∷ [])
      ∷ (calls.Release (obj 2) 2 ∷ calls.ArriveAndWait (obj 3) ∷ calls.Arrive (obj 3) 2 ∷ calls.WaitBarrier (obj 3) ∷ calls.Arrive (obj 3) 4096 ∷ calls.WaitBarrier (obj 3) ∷ calls.Acquire (obj 2) ∷ [])
      ∷ [];
}

abbrev pub recorded_seeded_0071 : Recorded
recorded_seeded_0071 = record {
  version = 1;
  lists =
      Some (did (controls.Start (thr 2) true) ∷ said replies.Ok ∷ did (controls.Start (thr 1) true) ∷ said replies.Ok ∷ did (controls.Start (thr 3) true) ∷ said replies.Ok ∷ [])
      ∷ Some (made 1 3 0 ops.Arrive (pos 1) (pos 0) (replies.Number (pos 0)) ∷ [])
      ∷ Some (said replies.Ok ∷ [])
      ∷ Some (seen 3 2 0 ops.Release (pos 2) (pos 0) replies.Over ∷ said replies.Over ∷ made 3 3 1 ops.Arrive (pos 1) (pos 0) (replies.Number (pos 0)) ∷ [])
      ∷ [];
}

-- the replay that is stuck
abbrev pub scene_seeded_0086 : Scene
scene_seeded_0086 = record {
  version = 1;
  threads = threads.Plain ∷ threads.Stoppable (obj 0) ∷ threads.Plain ∷ [];
  objects = objects.StopOfThread ∷ objects.SharedPromise (thr 0) (1 ∷ 2 ∷ 0 ∷ []) ∷ objects.Semaphore 65535 65535 ∷ objects.Barrier 1 (Some (smalls.Release (obj 2) 2)) ∷ objects.Condition ∷ objects.Barrier 1 None ∷ objects.Condition ∷ objects.Barrier 4096 (Some (smalls.NotifyOne (obj 6))) ∷ [];
  callbacks = callback (obj 0) (actions.Small (smalls.Release (obj 2) 3)) ∷ callback (obj 0) actions.Deregister ∷ callback (obj 0) (actions.Small (smalls.Release (obj 2) 1)) ∷ callback (obj 0) (actions.Small (smalls.NotifyOne (obj 4))) ∷ [];
  bodies =
      (calls.ArriveAndWait (obj 3) ∷ calls.ArriveAndDrop (obj 3) ∷ calls.ArriveAndWait (obj 7) ∷ calls.WaitFuture (obj 1) ∷ calls.Share (obj 1) ∷ calls.GetFuture (obj 1) ∷ calls.Start (thr 2) ∷ calls.Start (thr 1) ∷ calls.Register (cbk 3) ∷ calls.Deregister (cbk 3) ∷ calls.SetException (obj 1) 7 ∷ calls.Register (cbk 0) ∷ calls.Deregister (cbk 0) ∷ calls.RequestStop (obj 0) ∷ calls.Join (thr 2) ∷ [])
      ∷ (calls.ArriveAndWait (obj 7) ∷ calls.ArriveAndWait (obj 5) ∷ calls.GetFuture (obj 1) ∷ calls.Share (obj 1) ∷ calls.WaitFuture (obj 1) ∷ calls.GetOutcome (obj 1) ∷ calls.GetOutcome (obj 1) ∷ [])
      ∷ (calls.GetOutcome (obj 1) ∷ calls.GetOutcome (obj 1) ∷ calls.ArriveAndWait (obj 7) ∷ calls.ArriveAndWait (obj 7) ∷ calls.WaitBarrier (obj 7) ∷ calls.Register (cbk 2) ∷ calls.Deregister (cbk 2) ∷ calls.Register (cbk 1) ∷ calls.Deregister (cbk 1) ∷ calls.RequestStop (obj 0) ∷ calls.GetOutcome (obj 1) ∷ calls.GetOutcome (obj 1) ∷ [])
      ∷ [];
}

abbrev pub recorded_seeded_0086 : Recorded
recorded_seeded_0086 = record {
  version = 1;
  lists =
      Some (made 0 3 0 ops.Arrive (pos 1) (pos 0) (replies.Number (pos 0)) ∷ seen 0 2 0 ops.Release (pos 2) (pos 0) replies.Over ∷ made 0 3 1 ops.Complete (pos 0) (pos 0) replies.Ok ∷ seen 0 3 2 ops.Wait (pos 0) (pos 0) replies.Ok ∷ said replies.Ok ∷ made 0 3 2 ops.Drop (pos 0) (pos 0) (replies.Number (pos 1)) ∷ seen 0 2 0 ops.Release (pos 2) (pos 0) replies.Over ∷ made 0 3 3 ops.Complete (pos 0) (pos 0) replies.Ok ∷ said replies.Ok ∷ made 0 7 0 ops.Arrive (pos 1) (pos 0) (replies.Number (pos 0)) ∷ [])
      ∷ None
      ∷ None
      ∷ [];
}

-- the replay
abbrev pub scene_seeded_0088 : Scene
scene_seeded_0088 = record {
  version = 1;
  threads = threads.Plain ∷ threads.Plain ∷ threads.Plain ∷ threads.Plain ∷ threads.Plain ∷ [];
  objects = objects.Recursive ∷ [];
  callbacks = [];
  bodies =
      (calls.Start (thr 4) ∷ calls.Start (thr 3) ∷ calls.Start (thr 2) ∷ calls.Join (thr 2) ∷ calls.Join (thr 4) ∷ calls.Join (thr 3) ∷ [])
      ∷ (calls.TryLockRecursive (obj 0) ∷ calls.TryLockRecursive (obj 0) ∷ calls.Unlock (obj 0) ∷ calls.TryLockRecursive (obj 0) ∷ calls.Unlock (obj 0) ∷ calls.LockRecursive (obj 0) ∷ calls.LockRecursive (obj 0) ∷ [])
      ∷ (calls.TryLockRecursive (obj 0) ∷ calls.Unlock (obj 0) ∷ [])
      ∷ ([])
      ∷ ([])
      ∷ [];
}

abbrev pub recorded_seeded_0088 : Recorded
recorded_seeded_0088 = record {
  version = 1;
  lists =
      Some (did (controls.Start (thr 4) true) ∷ said replies.Ok ∷ did (controls.Start (thr 3) true) ∷ said replies.Ok ∷ did (controls.Start (thr 2) true) ∷ said replies.Ok ∷ did (controls.Join (thr 2)) ∷ said replies.Ok ∷ did (controls.Join (thr 4)) ∷ said replies.Ok ∷ did (controls.Join (thr 3)) ∷ said replies.Ok ∷ [])
      ∷ None
      ∷ Some (made 2 0 0 ops.TryLock (pos 0) (pos 0) replies.True ∷ said replies.True ∷ made 2 0 1 ops.Unlock (pos 0) (pos 0) replies.Ok ∷ said replies.Ok ∷ [])
      ∷ Some ([])
      ∷ Some ([])
      ∷ [];
}

-- the replay
abbrev pub scene_seeded_0092 : Scene
scene_seeded_0092 = record {
  version = 1;
  threads = threads.Plain ∷ threads.Stoppable (obj 0) ∷ [];
  objects = objects.StopOfThread ∷ objects.Latch 3 ∷ [];
  callbacks = [];
  bodies =
      (calls.RequestStop (obj 0) ∷ calls.Start (thr 1) ∷ calls.TryWait (obj 1) ∷ calls.CountDown (obj 1) 0 ∷ calls.StopRequested (obj 0) ∷ calls.CountDown (obj 1) 3 ∷ [])
      ∷ (calls.TryWait (obj 1) ∷ [])
      ∷ [];
}

abbrev pub recorded_seeded_0092 : Recorded
recorded_seeded_0092 = record {
  version = 1;
  lists =
      Some (made 0 0 0 ops.Request (pos 0) (pos 0) replies.Ok ∷ seen 0 0 1 ops.Drained (pos 0) (pos 0) replies.Ok ∷ said replies.Made ∷ did (controls.Start (thr 1) true) ∷ said replies.Ok ∷ seen 0 1 0 ops.TryWait (pos 0) (pos 0) replies.False ∷ said replies.False ∷ made 0 1 0 ops.CountDown (pos 0) (pos 0) replies.Ok ∷ said replies.Ok ∷ seen 0 0 1 ops.StopRequested (pos 0) (pos 0) replies.True ∷ said replies.True ∷ made 0 1 1 ops.CountDown (pos 3) (pos 0) replies.Ok ∷ said replies.Ok ∷ seen 0 0 1 ops.Already (pos 0) (pos 0) replies.Ok ∷ did (controls.Join (thr 1)) ∷ [])
      ∷ Some (seen 1 1 0 ops.TryWait (pos 0) (pos 0) replies.False ∷ said replies.False ∷ [])
      ∷ [];
}
