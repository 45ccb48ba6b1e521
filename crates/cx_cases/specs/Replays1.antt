-- Replays without a seed, each with its record.
use Rattle.std.specs.Prelude.{pos, true, [], ◌∷◌, Some, None}
use Rattle.cx_names.specs.declared.Reply.TheVariants as replies
use Rattle.cx_names.specs.declared.Outcome.TheVariants as outcomes
use Rattle.cx_machine.specs.declared.kind.Op.TheVariants as ops
use Rattle.cx_scene.specs.declared.declared.Object.TheVariants as objects
use Rattle.cx_scene.specs.declared.declared.Thread.TheVariants as threads
use Rattle.cx_scene.specs.declared.declared.Function.TheVariants as functions
use Rattle.cx_scene.specs.declared.declared.Policy.TheVariants as policies
use Rattle.cx_scene.specs.declared.declared.Small.TheVariants as smalls
use Rattle.cx_scene.specs.declared.call.Call.TheVariants as calls
use Rattle.cx_scene.specs.declared.call.Relation.TheVariants as relations
use Rattle.cx_items.specs.declared.item.Control.TheVariants as controls
use Rattle.cx_scene.specs.Scene.{Scene}
use Rattle.cx_history.specs.Histories.{Recorded}
use Rattle.cx_cases.specs.Short.{obj, thr, made, seen, did, said}

-- the replay
abbrev pub scene_replay_0002 : Scene
scene_replay_0002 = record {
  version = 1;
  threads = threads.Plain ∷ threads.Stoppable (obj 0) ∷ [];
  objects = objects.StopOfThread ∷ objects.Latch 1 ∷ [];
  callbacks = [];
  bodies =
      (calls.Start (thr 1) ∷ calls.RequestStop (obj 0) ∷ calls.CountDown (obj 1) 1 ∷ calls.WaitLatch (obj 1) ∷ [])
      ∷ (calls.WaitLatch (obj 1) ∷ [])
      ∷ [];
}

abbrev pub recorded_replay_0002 : Recorded
recorded_replay_0002 = record {
  version = 1;
  lists =
      Some (did (controls.Start (thr 1) true) ∷ said replies.Ok ∷ made 0 0 0 ops.Request (pos 0) (pos 0) replies.Ok ∷ seen 0 0 1 ops.Drained (pos 0) (pos 0) replies.Ok ∷ said replies.Made ∷ made 0 1 0 ops.CountDown (pos 1) (pos 0) replies.Ok ∷ said replies.Ok ∷ seen 0 1 1 ops.Wait (pos 0) (pos 0) replies.Ok ∷ said replies.Ok ∷ seen 0 0 1 ops.Already (pos 0) (pos 0) replies.Ok ∷ did (controls.Join (thr 1)) ∷ [])
      ∷ Some (seen 1 1 1 ops.Wait (pos 0) (pos 0) replies.Ok ∷ said replies.Ok ∷ [])
      ∷ [];
}

-- the replay
abbrev pub scene_replay_0003 : Scene
scene_replay_0003 = record {
  version = 1;
  threads = threads.Plain ∷ threads.Stoppable (obj 0) ∷ threads.Plain ∷ threads.Stoppable (obj 1) ∷ threads.Launched (obj 2) ∷ [];
  objects = objects.StopOfThread ∷ objects.StopOfThread ∷ objects.Async policies.Async (functions.Return (pos 5)) (thr 4) ∷ objects.Task (thr 0) (thr 0) (functions.Throw 1) ∷ objects.Recursive ∷ objects.Promise (thr 0) (thr 3) ∷ [];
  callbacks = [];
  bodies =
      (calls.Start (thr 2) ∷ calls.Start (thr 1) ∷ calls.GetFuture (obj 3) ∷ calls.Share (obj 3) ∷ calls.Invoke (obj 3) ∷ calls.DropPromise (obj 3) ∷ calls.Invoke (obj 3) ∷ calls.Unlock (obj 4) ∷ calls.Unlock (obj 4) ∷ calls.Join (thr 0) ∷ calls.LockRecursive (obj 4) ∷ calls.Unlock (obj 4) ∷ calls.Launch (obj 2) ∷ calls.DropAsync (obj 2) ∷ calls.WaitFuture (obj 2) ∷ calls.WaitFuture (obj 2) ∷ calls.GetOutcome (obj 2) ∷ calls.SetValue (obj 5) (pos 0) ∷ calls.Join (thr 1) ∷ calls.Join (thr 2) ∷ [])
      ∷ (calls.TryLockRecursive (obj 4) ∷ [])
      ∷ ([])
      ∷ (calls.GetFuture (obj 5) ∷ calls.GetOutcome (obj 5) ∷ calls.Share (obj 5) ∷ calls.TryLockRecursive (obj 4) ∷ calls.LockRecursive (obj 4) ∷ calls.LockRecursive (obj 4) ∷ calls.LockRecursive (obj 4) ∷ calls.Unlock (obj 4) ∷ calls.Unlock (obj 4) ∷ calls.TryLockRecursive (obj 4) ∷ calls.Unlock (obj 4) ∷ [])
      ∷ ([])
      ∷ [];
}

abbrev pub recorded_replay_0003 : Recorded
recorded_replay_0003 = record {
  version = 1;
  lists =
      Some (did (controls.Start (thr 2) true) ∷ said replies.Ok ∷ did (controls.Start (thr 1) true) ∷ said replies.Ok ∷ said replies.Ok ∷ said replies.Ok ∷ made 0 3 0 ops.Set (pos 1) (pos 1) replies.Ok ∷ said replies.Ok ∷ said replies.Ok ∷ said replies.NoState ∷ said replies.OperationNotPermitted ∷ said replies.OperationNotPermitted ∷ said replies.ResourceDeadlockWouldOccur ∷ made 0 4 0 ops.Lock (pos 0) (pos 0) replies.Ok ∷ said replies.Ok ∷ made 0 4 1 ops.Unlock (pos 0) (pos 0) replies.Ok ∷ said replies.Ok ∷ did (controls.Launch (thr 4) true) ∷ said replies.Launched ∷ seen 0 2 1 ops.Ready (pos 0) (pos 0) (replies.Outcome (outcomes.Value (pos 5))) ∷ said replies.Ok ∷ said replies.NoState ∷ said replies.NoState ∷ said replies.NoState ∷ made 0 5 0 ops.Set (pos 0) (pos 0) replies.Ok ∷ said replies.Ok ∷ did (controls.Join (thr 1)) ∷ said replies.Ok ∷ did (controls.Join (thr 2)) ∷ said replies.Ok ∷ [])
      ∷ Some (made 1 4 2 ops.TryLock (pos 0) (pos 0) replies.True ∷ said replies.True ∷ made 1 4 3 ops.Unlock (pos 0) (pos 0) replies.Ok ∷ [])
      ∷ Some ([])
      ∷ None
      ∷ Some (made 4 2 0 ops.Set (pos 0) (pos 5) replies.Ok ∷ [])
      ∷ [];
}

-- the replay
abbrev pub scene_replay_0013 : Scene
scene_replay_0013 = record {
  version = 1;
  threads = threads.Plain ∷ threads.Stoppable (obj 0) ∷ [];
  objects = objects.StopOfThread ∷ objects.Semaphore 0 5 ∷ [];
  callbacks = [];
  bodies =
      (calls.Start (thr 1) ∷ calls.Acquire (obj 1) ∷ calls.StopRequested (obj 0) ∷ calls.Release (obj 1) 1 ∷ calls.Release (obj 1) 1 ∷ [])
      ∷ (calls.Release (obj 1) 0 ∷ calls.TryAcquire (obj 1) ∷ calls.Release (obj 1) 1 ∷ calls.Acquire (obj 1) ∷ calls.TryAcquire (obj 1) ∷ [])
      ∷ [];
}

abbrev pub recorded_replay_0013 : Recorded
recorded_replay_0013 = record {
  version = 1;
  lists =
      Some (did (controls.Start (thr 1) true) ∷ said replies.Ok ∷ made 0 1 2 ops.Acquire (pos 0) (pos 0) replies.Ok ∷ said replies.Ok ∷ seen 0 0 0 ops.StopRequested (pos 0) (pos 0) replies.False ∷ said replies.False ∷ made 0 1 3 ops.Release (pos 1) (pos 0) replies.Ok ∷ said replies.Ok ∷ made 0 1 4 ops.Release (pos 1) (pos 0) replies.Ok ∷ said replies.Ok ∷ made 0 0 0 ops.Request (pos 0) (pos 0) replies.Ok ∷ seen 0 0 1 ops.Drained (pos 0) (pos 0) replies.Ok ∷ did (controls.Join (thr 1)) ∷ [])
      ∷ Some (made 1 1 0 ops.Release (pos 0) (pos 0) replies.Ok ∷ said replies.Ok ∷ seen 1 1 1 ops.TryAcquire (pos 0) (pos 0) replies.False ∷ said replies.False ∷ made 1 1 1 ops.Release (pos 1) (pos 0) replies.Ok ∷ said replies.Ok ∷ made 1 1 5 ops.Acquire (pos 0) (pos 0) replies.Ok ∷ said replies.Ok ∷ made 1 1 6 ops.TryAcquire (pos 0) (pos 0) replies.True ∷ said replies.True ∷ [])
      ∷ [];
}

-- the replay
abbrev pub scene_replay_0014 : Scene
scene_replay_0014 = record {
  version = 1;
  threads = threads.Plain ∷ threads.Plain ∷ [];
  objects = objects.Once ∷ [];
  callbacks = [];
  bodies =
      (calls.Start (thr 1) ∷ calls.Join (thr 1) ∷ [])
      ∷ (calls.CallOnceReturn (obj 0) ∷ [])
      ∷ [];
}

abbrev pub recorded_replay_0014 : Recorded
recorded_replay_0014 = record {
  version = 1;
  lists =
      Some (did (controls.Start (thr 1) true) ∷ said replies.Ok ∷ did (controls.Join (thr 1)) ∷ said replies.Ok ∷ [])
      ∷ Some (made 1 0 0 ops.Begin (pos 0) (pos 0) replies.Ok ∷ made 1 0 1 ops.Finish (pos 0) (pos 0) replies.Ok ∷ said replies.Returned ∷ [])
      ∷ [];
}

-- the replay that is stuck
abbrev pub scene_replay_0021 : Scene
scene_replay_0021 = record {
  version = 1;
  threads = threads.Plain ∷ threads.Plain ∷ threads.Plain ∷ threads.Stoppable (obj 0) ∷ threads.Plain ∷ threads.Launched (obj 3) ∷ [];
  objects = objects.StopOfThread ∷ objects.Condition ∷ objects.Mutex 2 ∷ objects.Async policies.Async (functions.Return (pos 16)) (thr 5) ∷ [];
  callbacks = [];
  bodies =
      (calls.Join (thr 4) ∷ calls.Start (thr 4) ∷ calls.Join (thr 4) ∷ calls.Start (thr 3) ∷ calls.Start (thr 2) ∷ calls.Start (thr 1) ∷ calls.NotifyOne (obj 1) ∷ calls.Lock (obj 2) ∷ calls.WaitStop (obj 1) (obj 2) (obj 0) (record { number = 0; relation = relations.Unequal; value = (pos 2) }) ∷ calls.Unlock (obj 2) ∷ calls.RequestStop (obj 0) ∷ calls.Launch (obj 3) ∷ calls.GetOutcome (obj 3) ∷ calls.Join (thr 2) ∷ calls.Join (thr 1) ∷ calls.Join (thr 3) ∷ [])
      ∷ ([])
      ∷ ([])
      ∷ (calls.Lock (obj 2) ∷ calls.StopPossible (obj 0) ∷ calls.WaitStop (obj 1) (obj 2) (obj 0) (record { number = 0; relation = relations.Greater; value = (pos 1) }) ∷ calls.Unlock (obj 2) ∷ [])
      ∷ (calls.Lock (obj 2) ∷ calls.WaitStop (obj 1) (obj 2) (obj 0) (record { number = 0; relation = relations.AtLeast; value = (pos 1) }) ∷ calls.Unlock (obj 2) ∷ [])
      ∷ ([])
      ∷ [];
}

abbrev pub recorded_replay_0021 : Recorded
recorded_replay_0021 = record {
  version = 1;
  lists =
      Some (said replies.InvalidArgument ∷ did (controls.Start (thr 4) true) ∷ said replies.Ok ∷ [])
      ∷ None
      ∷ None
      ∷ None
      ∷ Some (made 4 2 0 ops.Lock (pos 0) (pos 0) replies.Ok ∷ said replies.Ok ∷ made 4 0 0 ops.Register (pos 16385) (pos 0) replies.Ok ∷ seen 4 0 1 ops.StopRequested (pos 0) (pos 0) replies.False ∷ seen 4 2 1 ops.Get (pos 0) (pos 0) (replies.Number (pos 0)) ∷ made 4 1 0 ops.Enter (pos 0) (pos 0) replies.Ok ∷ made 4 2 1 ops.Unlock (pos 0) (pos 0) replies.Ok ∷ seen 4 0 1 ops.StopRequested (pos 0) (pos 0) replies.False ∷ [])
      ∷ None
      ∷ [];
}

-- the replay
abbrev pub scene_replay_0024 : Scene
scene_replay_0024 = record {
  version = 1;
  threads = threads.Plain ∷ threads.Stoppable (obj 0) ∷ threads.Plain ∷ [];
  objects = objects.StopOfThread ∷ objects.Once ∷ objects.Stop ([]) ∷ objects.Condition ∷ objects.Mutex 3 ∷ [];
  callbacks = [];
  bodies =
      (calls.Start (thr 2) ∷ calls.Start (thr 1) ∷ calls.Lock (obj 4) ∷ calls.Unlock (obj 4) ∷ calls.CallOnceThrow (obj 1) 42 ∷ calls.CallOnceReturn (obj 1) ∷ calls.RequestStop (obj 0) ∷ calls.Join (thr 2) ∷ calls.Join (thr 1) ∷ [])
      ∷ (calls.CallOnceReturn (obj 1) ∷ calls.CallOnceThrow (obj 1) 42 ∷ calls.Lock (obj 4) ∷ calls.WaitStop (obj 3) (obj 4) (obj 2) (record { number = 2; relation = relations.Unequal; value = (pos 2) }) ∷ calls.Unlock (obj 4) ∷ [])
      ∷ (calls.CallOnceThrow (obj 1) 42 ∷ calls.CallOnceThrow (obj 1) 0 ∷ calls.NotifyOne (obj 3) ∷ [])
      ∷ [];
}

abbrev pub recorded_replay_0024 : Recorded
recorded_replay_0024 = record {
  version = 1;
  lists =
      Some (did (controls.Start (thr 2) true) ∷ said replies.Ok ∷ did (controls.Start (thr 1) true) ∷ said replies.Ok ∷ made 0 4 0 ops.Lock (pos 0) (pos 0) replies.Ok ∷ said replies.Ok ∷ made 0 4 1 ops.Unlock (pos 0) (pos 0) replies.Ok ∷ said replies.Ok ∷ made 0 1 0 ops.Begin (pos 0) (pos 0) replies.Ok ∷ made 0 1 1 ops.Fail (pos 42) (pos 0) replies.Ok ∷ said (replies.Threw 42) ∷ made 0 1 2 ops.Begin (pos 0) (pos 0) replies.Ok ∷ made 0 1 3 ops.Finish (pos 0) (pos 0) replies.Ok ∷ said replies.Returned ∷ made 0 0 0 ops.Request (pos 0) (pos 0) replies.Ok ∷ seen 0 0 1 ops.Drained (pos 0) (pos 0) replies.Ok ∷ said replies.Made ∷ did (controls.Join (thr 2)) ∷ said replies.Ok ∷ did (controls.Join (thr 1)) ∷ said replies.Ok ∷ [])
      ∷ Some (seen 1 1 4 ops.Passive (pos 0) (pos 0) replies.Ok ∷ said replies.Passive ∷ seen 1 1 4 ops.Passive (pos 0) (pos 0) replies.Ok ∷ said replies.Passive ∷ made 1 4 2 ops.Lock (pos 0) (pos 0) replies.Ok ∷ said replies.Ok ∷ seen 1 2 0 ops.Never (pos 4099) (pos 0) replies.Ok ∷ seen 1 2 0 ops.StopRequested (pos 0) (pos 0) replies.False ∷ seen 1 4 3 ops.Get (pos 2) (pos 0) (replies.Number (pos 0)) ∷ said replies.True ∷ made 1 4 3 ops.Unlock (pos 0) (pos 0) replies.Ok ∷ said replies.Ok ∷ [])
      ∷ Some (seen 2 1 4 ops.Passive (pos 0) (pos 0) replies.Ok ∷ said replies.Passive ∷ seen 2 1 4 ops.Passive (pos 0) (pos 0) replies.Ok ∷ said replies.Passive ∷ made 2 3 0 ops.NotifyOne (pos 0) (pos 0) replies.Nobody ∷ said replies.Nobody ∷ [])
      ∷ [];
}

-- the replay
abbrev pub scene_replay_0027 : Scene
scene_replay_0027 = record {
  version = 1;
  threads = threads.Plain ∷ threads.Stoppable (obj 0) ∷ [];
  objects = objects.StopOfThread ∷ objects.Once ∷ [];
  callbacks = [];
  bodies =
      (calls.Start (thr 1) ∷ calls.CallOnceThrow (obj 1) 1 ∷ calls.StopRequested (obj 0) ∷ calls.CallOnceReturn (obj 1) ∷ [])
      ∷ (calls.CallOnceThrow (obj 1) 7 ∷ calls.CallOnceReturn (obj 1) ∷ [])
      ∷ [];
}

abbrev pub recorded_replay_0027 : Recorded
recorded_replay_0027 = record {
  version = 1;
  lists =
      Some (did (controls.Start (thr 1) true) ∷ said replies.Ok ∷ made 0 1 0 ops.Begin (pos 0) (pos 0) replies.Ok ∷ made 0 1 1 ops.Fail (pos 1) (pos 0) replies.Ok ∷ said (replies.Threw 1) ∷ seen 0 0 0 ops.StopRequested (pos 0) (pos 0) replies.False ∷ said replies.False ∷ made 0 1 2 ops.Begin (pos 0) (pos 0) replies.Ok ∷ made 0 1 3 ops.Finish (pos 0) (pos 0) replies.Ok ∷ said replies.Returned ∷ made 0 0 0 ops.Request (pos 0) (pos 0) replies.Ok ∷ seen 0 0 1 ops.Drained (pos 0) (pos 0) replies.Ok ∷ did (controls.Join (thr 1)) ∷ [])
      ∷ Some (seen 1 1 4 ops.Passive (pos 0) (pos 0) replies.Ok ∷ said replies.Passive ∷ seen 1 1 4 ops.Passive (pos 0) (pos 0) replies.Ok ∷ said replies.Passive ∷ [])
      ∷ [];
}

-- the replay
abbrev pub scene_replay_0028 : Scene
scene_replay_0028 = record {
  version = 1;
  threads = threads.Plain ∷ threads.Plain ∷ threads.Launched (obj 0) ∷ threads.Plain ∷ [];
  objects = objects.Async policies.Async (functions.Return (pos 9223372036854775806)) (thr 2) ∷ objects.Semaphore 2 2 ∷ objects.Semaphore 1 1 ∷ objects.SharedPromise (thr 3) (0 ∷ 3 ∷ 1 ∷ []) ∷ [];
  callbacks = [];
  bodies =
      (calls.GetOutcome (obj 0) ∷ calls.Launch (obj 0) ∷ calls.Join (thr 0) ∷ calls.Acquire (obj 2) ∷ calls.Start (thr 3) ∷ calls.Start (thr 1) ∷ calls.Acquire (obj 1) ∷ calls.Release (obj 2) 1 ∷ calls.Acquire (obj 1) ∷ calls.Release (obj 2) 1 ∷ calls.Release (obj 2) 1 ∷ calls.Join (thr 3) ∷ calls.Join (thr 1) ∷ [])
      ∷ ([])
      ∷ ([])
      ∷ (calls.GetFuture (obj 3) ∷ calls.Share (obj 3) ∷ calls.GetFuture (obj 3) ∷ calls.GetFuture (obj 3) ∷ calls.Release (obj 1) 1 ∷ calls.Acquire (obj 2) ∷ calls.Release (obj 1) 1 ∷ calls.Release (obj 1) 1 ∷ [])
      ∷ [];
}

abbrev pub recorded_replay_0028 : Recorded
recorded_replay_0028 = record {
  version = 1;
  lists =
      Some (said replies.NoState ∷ did (controls.Launch (thr 2) true) ∷ said replies.Launched ∷ said replies.ResourceDeadlockWouldOccur ∷ made 0 2 0 ops.Acquire (pos 0) (pos 0) replies.Ok ∷ said replies.Ok ∷ did (controls.Start (thr 3) true) ∷ said replies.Ok ∷ did (controls.Start (thr 1) true) ∷ said replies.Ok ∷ made 0 1 0 ops.Acquire (pos 0) (pos 0) replies.Ok ∷ said replies.Ok ∷ made 0 2 1 ops.Release (pos 1) (pos 0) replies.Ok ∷ said replies.Ok ∷ made 0 1 1 ops.Acquire (pos 0) (pos 0) replies.Ok ∷ said replies.Ok ∷ seen 0 2 2 ops.Release (pos 1) (pos 0) replies.Over ∷ said replies.Over ∷ seen 0 2 2 ops.Release (pos 1) (pos 0) replies.Over ∷ said replies.Over ∷ did (controls.Join (thr 3)) ∷ said replies.Ok ∷ did (controls.Join (thr 1)) ∷ said replies.Ok ∷ seen 0 0 1 ops.Ready (pos 0) (pos 0) (replies.Outcome (outcomes.Value (pos 9223372036854775806))) ∷ [])
      ∷ Some ([])
      ∷ Some (made 2 0 0 ops.Set (pos 0) (pos 9223372036854775806) replies.Ok ∷ [])
      ∷ Some (said replies.FutureAlreadyRetrieved ∷ said replies.NoState ∷ said replies.FutureAlreadyRetrieved ∷ said replies.FutureAlreadyRetrieved ∷ made 3 1 2 ops.Release (pos 1) (pos 0) replies.Ok ∷ said replies.Ok ∷ made 3 2 2 ops.Acquire (pos 0) (pos 0) replies.Ok ∷ said replies.Ok ∷ made 3 1 3 ops.Release (pos 1) (pos 0) replies.Ok ∷ said replies.Ok ∷ seen 3 1 4 ops.Release (pos 1) (pos 0) replies.Over ∷ said replies.Over ∷ made 3 3 0 ops.Set (pos 2) (pos 0) replies.Ok ∷ [])
      ∷ [];
}

-- the replay
abbrev pub scene_replay_0031 : Scene
scene_replay_0031 = record {
  version = 1;
  threads = threads.Plain ∷ threads.Plain ∷ threads.Plain ∷ threads.Stoppable (obj 0) ∷ [];
  objects = objects.StopOfThread ∷ objects.Task (thr 2) (thr 3) (functions.Return (pos 0)) ∷ objects.Barrier 2 None ∷ [];
  callbacks = [];
  bodies =
      (calls.Start (thr 2) ∷ calls.Start (thr 3) ∷ calls.Join (thr 3) ∷ calls.Join (thr 2) ∷ calls.Start (thr 1) ∷ calls.ArriveAndWait (obj 2) ∷ calls.WaitBarrier (obj 2) ∷ calls.Join (thr 1) ∷ [])
      ∷ (calls.StopRequested (obj 0) ∷ calls.ArriveAndDrop (obj 2) ∷ [])
      ∷ (calls.DropPromise (obj 1) ∷ calls.DropPromise (obj 1) ∷ [])
      ∷ (calls.GetFuture (obj 1) ∷ calls.GetOutcome (obj 1) ∷ calls.StopPossible (obj 0) ∷ calls.WaitBarrier (obj 2) ∷ calls.Arrive (obj 2) 1 ∷ calls.Share (obj 1) ∷ [])
      ∷ [];
}

abbrev pub recorded_replay_0031 : Recorded
recorded_replay_0031 = record {
  version = 1;
  lists =
      Some (did (controls.Start (thr 2) true) ∷ said replies.Ok ∷ did (controls.Start (thr 3) true) ∷ said replies.Ok ∷ did (controls.Join (thr 3)) ∷ said replies.Ok ∷ did (controls.Join (thr 2)) ∷ said replies.Ok ∷ did (controls.Start (thr 1) true) ∷ said replies.Ok ∷ made 0 2 1 ops.Arrive (pos 1) (pos 0) (replies.Number (pos 0)) ∷ made 0 2 2 ops.Complete (pos 0) (pos 0) replies.Ok ∷ seen 0 2 3 ops.Wait (pos 0) (pos 0) replies.Ok ∷ said replies.Ok ∷ said replies.NoToken ∷ did (controls.Join (thr 1)) ∷ said replies.Ok ∷ [])
      ∷ Some (seen 1 0 0 ops.StopRequested (pos 0) (pos 0) replies.False ∷ said replies.False ∷ made 1 2 3 ops.Drop (pos 0) (pos 0) (replies.Number (pos 1)) ∷ said replies.Ok ∷ [])
      ∷ Some (made 2 1 0 ops.Set (pos 2) (pos 0) replies.Ok ∷ said replies.Ok ∷ said replies.NoState ∷ [])
      ∷ Some (said replies.Ok ∷ seen 3 1 1 ops.Ready (pos 0) (pos 0) (replies.Outcome outcomes.Broken) ∷ said (replies.Outcome outcomes.Broken) ∷ seen 3 0 0 ops.StopPossible (pos 0) (pos 0) replies.True ∷ said replies.True ∷ said replies.NoToken ∷ made 3 2 0 ops.Arrive (pos 1) (pos 0) (replies.Number (pos 0)) ∷ said (replies.Number (pos 0)) ∷ said replies.NoState ∷ [])
      ∷ [];
}

-- the replay that is stuck
abbrev pub scene_replay_0035 : Scene
scene_replay_0035 = record {
  version = 1;
  threads = threads.Plain ∷ threads.Plain ∷ threads.Plain ∷ [];
  objects = objects.Condition ∷ objects.Barrier 4096 (Some (smalls.NotifyAll (obj 0))) ∷ [];
  callbacks = [];
  bodies =
      (calls.Start (thr 2) ∷ calls.Start (thr 1) ∷ calls.Join (thr 0) ∷ calls.Join (thr 1) ∷ calls.Join (thr 2) ∷ [])
      ∷ (calls.ArriveAndDrop (obj 1) ∷ [])
      ∷ (calls.ArriveAndWait (obj 1) ∷ calls.ArriveAndWait (obj 1) ∷ calls.ArriveAndDrop (obj 1) ∷ [])
      ∷ [];
}

abbrev pub recorded_replay_0035 : Recorded
recorded_replay_0035 = record {
  version = 1;
  lists =
      Some (did (controls.Start (thr 2) true) ∷ said replies.Ok ∷ did (controls.Start (thr 1) true) ∷ said replies.Ok ∷ said replies.ResourceDeadlockWouldOccur ∷ did (controls.Join (thr 1)) ∷ said replies.Ok ∷ [])
      ∷ Some (made 1 1 0 ops.Drop (pos 0) (pos 0) (replies.Number (pos 0)) ∷ said replies.Ok ∷ [])
      ∷ Some (made 2 1 1 ops.Arrive (pos 1) (pos 0) (replies.Number (pos 0)) ∷ [])
      ∷ [];
}
