-- Replays without a seed, each with its record.
use Rattle.std.specs.Prelude.{pos, negsuc, true, [], ◌∷◌, Some, None}
use Rattle.cx_names.specs.declared.Reply.TheVariants as replies
use Rattle.cx_names.specs.declared.Outcome.TheVariants as outcomes
use Rattle.cx_machine.specs.declared.kind.Op.TheVariants as ops
use Rattle.cx_scene.specs.declared.declared.Object.TheVariants as objects
use Rattle.cx_scene.specs.declared.declared.Thread.TheVariants as threads
use Rattle.cx_scene.specs.declared.declared.Function.TheVariants as functions
use Rattle.cx_scene.specs.declared.declared.Policy.TheVariants as policies
use Rattle.cx_scene.specs.declared.declared.Small.TheVariants as smalls
use Rattle.cx_scene.specs.declared.declared.Action.TheVariants as actions
use Rattle.cx_scene.specs.declared.call.Call.TheVariants as calls
use Rattle.cx_scene.specs.declared.call.Relation.TheVariants as relations
use Rattle.cx_items.specs.declared.item.Control.TheVariants as controls
use Rattle.cx_scene.specs.Scene.{Scene}
use Rattle.cx_history.specs.Histories.{Recorded}
use Rattle.cx_cases.specs.Short.{obj, thr, cbk, callback, made, seen, did, said}

-- the replay that is stuck
abbrev pub scene_replay_0036 : Scene
scene_replay_0036 = record {
  version = 1;
  threads = threads.Plain ∷ threads.Stoppable (obj 0) ∷ threads.Stoppable (obj 1) ∷ threads.Plain ∷ [];
  objects = objects.StopOfThread ∷ objects.StopOfThread ∷ objects.Mutex 3 ∷ objects.Semaphore 0 3 ∷ objects.Barrier 2 (Some (smalls.Release (obj 3) 65535)) ∷ objects.SharedPromise (thr 0) (0 ∷ []) ∷ objects.Barrier 4 (Some (smalls.Release (obj 3) 3)) ∷ [];
  callbacks = [];
  bodies =
      (calls.Start (thr 1) ∷ calls.Start (thr 3) ∷ calls.Start (thr 2) ∷ calls.ArriveAndWait (obj 6) ∷ calls.WaitBarrier (obj 6) ∷ calls.Arrive (obj 4) 2 ∷ calls.WaitBarrier (obj 4) ∷ calls.ArriveAndWait (obj 4) ∷ calls.DropPromise (obj 5) ∷ calls.Lock (obj 2) ∷ calls.Add (obj 2) 0 (pos 1) ∷ calls.Unlock (obj 2) ∷ calls.StopPossible (obj 1) ∷ calls.Share (obj 5) ∷ calls.Join (thr 2) ∷ calls.Join (thr 3) ∷ [])
      ∷ (calls.TryLock (obj 2) ∷ calls.Add (obj 2) 2 (pos 15) ∷ calls.Unlock (obj 2) ∷ calls.TryLock (obj 2) ∷ calls.Unlock (obj 2) ∷ calls.Arrive (obj 4) 1 ∷ calls.WaitBarrier (obj 4) ∷ calls.ArriveAndWait (obj 4) ∷ calls.WaitBarrier (obj 6) ∷ calls.Arrive (obj 6) 3 ∷ calls.WaitBarrier (obj 6) ∷ [])
      ∷ (calls.ArriveAndWait (obj 6) ∷ calls.WaitBarrier (obj 6) ∷ calls.ArriveAndWait (obj 4) ∷ calls.ArriveAndWait (obj 4) ∷ calls.Lock (obj 2) ∷ calls.Set (obj 2) 0 (negsuc 0) ∷ calls.Unlock (obj 2) ∷ [])
      ∷ (calls.Arrive (obj 6) 1 ∷ [])
      ∷ [];
}

abbrev pub recorded_replay_0036 : Recorded
recorded_replay_0036 = record {
  version = 1;
  lists =
      Some (did (controls.Start (thr 1) true) ∷ said replies.Ok ∷ did (controls.Start (thr 3) true) ∷ said replies.Ok ∷ did (controls.Start (thr 2) true) ∷ said replies.Ok ∷ made 0 6 0 ops.Arrive (pos 1) (pos 0) (replies.Number (pos 0)) ∷ [])
      ∷ Some (made 1 2 0 ops.TryLock (pos 0) (pos 0) replies.True ∷ said replies.True ∷ made 1 2 1 ops.Add (pos 2) (pos 15) (replies.Number (pos 15)) ∷ said (replies.Number (pos 15)) ∷ made 1 2 2 ops.Unlock (pos 0) (pos 0) replies.Ok ∷ said replies.Ok ∷ made 1 2 3 ops.TryLock (pos 0) (pos 0) replies.True ∷ said replies.True ∷ made 1 2 4 ops.Unlock (pos 0) (pos 0) replies.Ok ∷ said replies.Ok ∷ made 1 4 0 ops.Arrive (pos 1) (pos 0) (replies.Number (pos 0)) ∷ said (replies.Number (pos 0)) ∷ [])
      ∷ Some (made 2 6 1 ops.Arrive (pos 1) (pos 0) (replies.Number (pos 0)) ∷ [])
      ∷ Some (made 3 6 2 ops.Arrive (pos 1) (pos 0) (replies.Number (pos 0)) ∷ said (replies.Number (pos 0)) ∷ [])
      ∷ [];
}

-- the replay that is stuck
abbrev pub scene_replay_0047 : Scene
scene_replay_0047 = record {
  version = 1;
  threads = threads.Plain ∷ threads.Plain ∷ threads.Plain ∷ threads.Plain ∷ [];
  objects = objects.Condition ∷ objects.Mutex 1 ∷ objects.Semaphore 0 2 ∷ objects.Condition ∷ objects.Mutex 1 ∷ objects.Once ∷ [];
  callbacks = [];
  bodies =
      (calls.CallOnceReturn (obj 5) ∷ calls.Lock (obj 1) ∷ calls.Release (obj 2) 1 ∷ calls.WaitCondition (obj 0) (obj 1) ∷ calls.Start (thr 1) ∷ calls.Start (thr 3) ∷ calls.Start (thr 2) ∷ calls.Unlock (obj 1) ∷ calls.CallOnceThrow (obj 5) 0 ∷ calls.Join (thr 1) ∷ calls.Join (thr 3) ∷ calls.Join (thr 2) ∷ [])
      ∷ (calls.Lock (obj 1) ∷ calls.Release (obj 2) 1 ∷ calls.WaitCondition (obj 0) (obj 1) ∷ calls.Unlock (obj 1) ∷ calls.NotifyAll (obj 3) ∷ calls.NotifyAll (obj 3) ∷ calls.NotifyAll (obj 3) ∷ calls.CallOnceThrow (obj 5) 4294967295 ∷ [])
      ∷ (calls.Lock (obj 4) ∷ calls.WaitCondition (obj 3) (obj 4) ∷ calls.Unlock (obj 4) ∷ calls.CallOnceThrow (obj 5) 0 ∷ calls.CallOnceReturn (obj 5) ∷ calls.Acquire (obj 2) ∷ calls.Acquire (obj 2) ∷ calls.Lock (obj 1) ∷ calls.Unlock (obj 1) ∷ calls.NotifyOne (obj 0) ∷ calls.NotifyOne (obj 0) ∷ [])
      ∷ (calls.CallOnceThrow (obj 5) 0 ∷ calls.CallOnceThrow (obj 5) 42 ∷ [])
      ∷ [];
}

abbrev pub recorded_replay_0047 : Recorded
recorded_replay_0047 = record {
  version = 1;
  lists =
      Some (made 0 5 0 ops.Begin (pos 0) (pos 0) replies.Ok ∷ made 0 5 1 ops.Finish (pos 0) (pos 0) replies.Ok ∷ said replies.Returned ∷ made 0 1 0 ops.Lock (pos 0) (pos 0) replies.Ok ∷ said replies.Ok ∷ made 0 2 0 ops.Release (pos 1) (pos 0) replies.Ok ∷ said replies.Ok ∷ made 0 0 0 ops.Enter (pos 0) (pos 0) replies.Ok ∷ made 0 1 1 ops.Unlock (pos 0) (pos 0) replies.Ok ∷ [])
      ∷ None
      ∷ None
      ∷ None
      ∷ [];
}

-- the replay
abbrev pub scene_replay_0053 : Scene
scene_replay_0053 = record {
  version = 1;
  threads = threads.Plain ∷ threads.Plain ∷ [];
  objects = objects.Stop (0 ∷ 1 ∷ []) ∷ objects.Semaphore 5 5 ∷ objects.Semaphore 1 1 ∷ [];
  callbacks = callback (obj 0) (actions.Small (smalls.Release (obj 1) 0)) ∷ callback (obj 0) (actions.Small (smalls.Release (obj 2) 0)) ∷ callback (obj 0) (actions.Small (smalls.Release (obj 2) 1)) ∷ [];
  bodies =
      (calls.Start (thr 1) ∷ calls.Another (obj 0) ∷ calls.Register (cbk 0) ∷ calls.RequestStop (obj 0) ∷ calls.Deregister (cbk 0) ∷ calls.Join (thr 1) ∷ calls.Register (cbk 1) ∷ [])
      ∷ (calls.RequestStop (obj 0) ∷ calls.Register (cbk 2) ∷ calls.Deregister (cbk 2) ∷ calls.Deregister (cbk 2) ∷ [])
      ∷ [];
}

abbrev pub recorded_replay_0053 : Recorded
recorded_replay_0053 = record {
  version = 1;
  lists =
      Some (did (controls.Start (thr 1) true) ∷ said replies.Ok ∷ made 0 0 0 ops.Another (pos 0) (pos 0) replies.Ok ∷ said replies.Ok ∷ made 0 0 1 ops.Register (pos 2) (pos 0) replies.Ok ∷ said replies.Queued ∷ made 0 0 2 ops.Request (pos 0) (pos 0) replies.Ok ∷ made 0 0 3 ops.Begin (pos 2) (pos 0) replies.Ok ∷ made 0 1 0 ops.Release (pos 0) (pos 0) replies.Ok ∷ made 0 0 4 ops.Finish (pos 2) (pos 0) replies.Ok ∷ seen 0 0 5 ops.Drained (pos 0) (pos 0) replies.Ok ∷ said replies.Made ∷ made 0 0 5 ops.Deregister (pos 2) (pos 0) replies.Ran ∷ said replies.Ran ∷ did (controls.Join (thr 1)) ∷ said replies.Ok ∷ made 0 0 8 ops.RegisterNow (pos 6) (pos 0) replies.Ok ∷ made 0 2 0 ops.Release (pos 0) (pos 0) replies.Ok ∷ made 0 0 9 ops.Finish (pos 6) (pos 0) replies.Ok ∷ said replies.Ran ∷ [])
      ∷ Some (seen 1 0 6 ops.Already (pos 0) (pos 0) replies.Ok ∷ said replies.Already ∷ made 1 0 6 ops.RegisterNow (pos 4097) (pos 0) replies.Ok ∷ seen 1 2 0 ops.Release (pos 1) (pos 0) replies.Over ∷ made 1 0 7 ops.Finish (pos 4097) (pos 0) replies.Ok ∷ said replies.Ran ∷ said replies.NotHeld ∷ said replies.NotHeld ∷ [])
      ∷ [];
}

-- the replay that is stuck
abbrev pub scene_replay_0054 : Scene
scene_replay_0054 = record {
  version = 1;
  threads = threads.Plain ∷ threads.Stoppable (obj 0) ∷ threads.Stoppable (obj 1) ∷ threads.Plain ∷ threads.Plain ∷ [];
  objects = objects.StopOfThread ∷ objects.StopOfThread ∷ objects.Condition ∷ objects.Shared ∷ objects.Semaphore 0 3 ∷ objects.Mutex 2 ∷ objects.Mutex 1 ∷ [];
  callbacks = [];
  bodies =
      (calls.Start (thr 3) ∷ calls.Start (thr 1) ∷ calls.Join (thr 3) ∷ calls.Join (thr 1) ∷ calls.Start (thr 2) ∷ calls.LockAll (5 ∷ 6 ∷ []) ∷ calls.Unlock (obj 6) ∷ calls.Unlock (obj 5) ∷ calls.TryLockAll (5 ∷ 6 ∷ []) ∷ calls.Unlock (obj 6) ∷ calls.Unlock (obj 5) ∷ calls.Lock (obj 3) ∷ calls.Release (obj 4) 1 ∷ calls.WaitCondition (obj 2) (obj 3) ∷ calls.Unlock (obj 3) ∷ calls.Join (thr 2) ∷ [])
      ∷ (calls.TryLock (obj 3) ∷ calls.Release (obj 4) 0 ∷ calls.Lock (obj 3) ∷ calls.Release (obj 4) 1 ∷ calls.WaitCondition (obj 2) (obj 3) ∷ calls.Unlock (obj 3) ∷ [])
      ∷ (calls.Acquire (obj 4) ∷ calls.Release (obj 4) 1 ∷ calls.LockAll (6 ∷ 5 ∷ []) ∷ calls.Unlock (obj 5) ∷ calls.Unlock (obj 6) ∷ calls.Lock (obj 3) ∷ calls.Release (obj 4) 1 ∷ calls.WaitCondition (obj 2) (obj 3) ∷ calls.Unlock (obj 3) ∷ [])
      ∷ (calls.Set (obj 5) 0 (pos 2) ∷ calls.LockAll (6 ∷ 5 ∷ []) ∷ calls.Unlock (obj 5) ∷ calls.Unlock (obj 6) ∷ calls.LockAll (6 ∷ 5 ∷ []) ∷ calls.Acquire (obj 4) ∷ calls.Acquire (obj 4) ∷ calls.Acquire (obj 4) ∷ calls.Lock (obj 3) ∷ calls.Unlock (obj 3) ∷ calls.Add (obj 6) 0 (pos 1) ∷ calls.NotifyOne (obj 2) ∷ calls.NotifyOne (obj 2) ∷ calls.NotifyOne (obj 2) ∷ calls.NotifyAll (obj 2) ∷ calls.Unlock (obj 5) ∷ calls.Unlock (obj 6) ∷ [])
      ∷ (calls.TryLock (obj 5) ∷ [])
      ∷ [];
}

abbrev pub recorded_replay_0054 : Recorded
recorded_replay_0054 = record {
  version = 1;
  lists =
      Some (did (controls.Start (thr 3) true) ∷ said replies.Ok ∷ did (controls.Start (thr 1) true) ∷ said replies.Ok ∷ [])
      ∷ Some (made 1 3 0 ops.TryLock (pos 0) (pos 0) replies.True ∷ said replies.True ∷ made 1 4 0 ops.Release (pos 0) (pos 0) replies.Ok ∷ said replies.Ok ∷ said replies.ResourceDeadlockWouldOccur ∷ made 1 4 1 ops.Release (pos 1) (pos 0) replies.Ok ∷ said replies.Ok ∷ made 1 2 0 ops.Enter (pos 0) (pos 0) replies.Ok ∷ made 1 3 1 ops.Unlock (pos 0) (pos 0) replies.Ok ∷ [])
      ∷ None
      ∷ Some (said replies.OperationNotPermitted ∷ made 3 6 0 ops.Lock (pos 0) (pos 0) replies.Ok ∷ made 3 5 0 ops.TryLock (pos 0) (pos 0) replies.True ∷ said replies.Ok ∷ made 3 5 1 ops.Unlock (pos 0) (pos 0) replies.Ok ∷ said replies.Ok ∷ made 3 6 1 ops.Unlock (pos 0) (pos 0) replies.Ok ∷ said replies.Ok ∷ made 3 6 2 ops.Lock (pos 0) (pos 0) replies.Ok ∷ made 3 5 2 ops.TryLock (pos 0) (pos 0) replies.True ∷ said replies.Ok ∷ made 3 4 2 ops.Acquire (pos 0) (pos 0) replies.Ok ∷ said replies.Ok ∷ [])
      ∷ None
      ∷ [];
}

-- the replay
abbrev pub scene_replay_0086 : Scene
scene_replay_0086 = record {
  version = 1;
  threads = threads.Plain ∷ threads.Stoppable (obj 0) ∷ threads.Stoppable (obj 1) ∷ threads.Plain ∷ [];
  objects = objects.StopOfThread ∷ objects.StopOfThread ∷ objects.Condition ∷ objects.Mutex 1 ∷ [];
  callbacks = [];
  bodies =
      (calls.Start (thr 2) ∷ calls.Start (thr 1) ∷ calls.RequestStop (obj 0) ∷ calls.Lock (obj 3) ∷ calls.WaitStop (obj 2) (obj 3) (obj 0) (record { number = 0; relation = relations.Greater; value = (pos 0) }) ∷ calls.Unlock (obj 3) ∷ calls.Join (thr 1) ∷ [])
      ∷ (calls.Lock (obj 3) ∷ calls.WaitStop (obj 2) (obj 3) (obj 0) (record { number = 0; relation = relations.Equal; value = (pos 1) }) ∷ calls.StopRequested (obj 1) ∷ calls.Unlock (obj 3) ∷ [])
      ∷ ([])
      ∷ (calls.Lock (obj 3) ∷ calls.WaitStop (obj 2) (obj 3) (obj 0) (record { number = 0; relation = relations.AtLeast; value = (pos 0) }) ∷ calls.Unlock (obj 3) ∷ [])
      ∷ [];
}

abbrev pub recorded_replay_0086 : Recorded
recorded_replay_0086 = record {
  version = 1;
  lists =
      Some (did (controls.Start (thr 2) true) ∷ said replies.Ok ∷ did (controls.Start (thr 1) true) ∷ said replies.Ok ∷ made 0 0 0 ops.Request (pos 0) (pos 0) replies.Ok ∷ seen 0 0 1 ops.Drained (pos 0) (pos 0) replies.Ok ∷ said replies.Made ∷ made 0 3 0 ops.Lock (pos 0) (pos 0) replies.Ok ∷ said replies.Ok ∷ made 0 0 1 ops.RegisterNow (pos 4) (pos 0) replies.Ok ∷ made 0 2 0 ops.NotifyAll (pos 0) (pos 0) (replies.Number (pos 0)) ∷ made 0 0 2 ops.Finish (pos 4) (pos 0) replies.Ok ∷ seen 0 0 3 ops.StopRequested (pos 0) (pos 0) replies.True ∷ seen 0 3 1 ops.Get (pos 0) (pos 0) (replies.Number (pos 0)) ∷ said replies.False ∷ made 0 3 1 ops.Unlock (pos 0) (pos 0) replies.Ok ∷ said replies.Ok ∷ did (controls.Join (thr 1)) ∷ said replies.Ok ∷ made 0 1 0 ops.Request (pos 0) (pos 0) replies.Ok ∷ seen 0 1 1 ops.Drained (pos 0) (pos 0) replies.Ok ∷ did (controls.Join (thr 2)) ∷ [])
      ∷ Some (made 1 3 2 ops.Lock (pos 0) (pos 0) replies.Ok ∷ said replies.Ok ∷ made 1 0 3 ops.RegisterNow (pos 4097) (pos 0) replies.Ok ∷ made 1 2 1 ops.NotifyAll (pos 0) (pos 0) (replies.Number (pos 0)) ∷ made 1 0 4 ops.Finish (pos 4097) (pos 0) replies.Ok ∷ seen 1 0 5 ops.StopRequested (pos 0) (pos 0) replies.True ∷ seen 1 3 3 ops.Get (pos 0) (pos 0) (replies.Number (pos 0)) ∷ said replies.False ∷ seen 1 1 0 ops.StopRequested (pos 0) (pos 0) replies.False ∷ said replies.False ∷ made 1 3 3 ops.Unlock (pos 0) (pos 0) replies.Ok ∷ said replies.Ok ∷ [])
      ∷ Some ([])
      ∷ None
      ∷ [];
}

-- the replay that is stuck
abbrev pub scene_replay_0089 : Scene
scene_replay_0089 = record {
  version = 1;
  threads = threads.Plain ∷ threads.Stoppable (obj 0) ∷ threads.Plain ∷ threads.Plain ∷ threads.Stoppable (obj 1) ∷ [];
  objects = objects.StopOfThread ∷ objects.StopOfThread ∷ objects.Mutex 3 ∷ [];
  callbacks = [];
  bodies =
      (calls.Start (thr 3) ∷ calls.Start (thr 1) ∷ calls.Start (thr 4) ∷ calls.Start (thr 2) ∷ calls.Join (thr 0) ∷ calls.TryLock (obj 2) ∷ calls.Add (obj 2) 1 (pos 9223372036854775807) ∷ calls.Get (obj 2) 1 ∷ calls.Get (obj 2) 1 ∷ calls.Unlock (obj 2) ∷ calls.Lock (obj 2) ∷ calls.Unlock (obj 2) ∷ calls.Lock (obj 2) ∷ calls.Join (thr 4) ∷ calls.Join (thr 3) ∷ calls.Join (thr 2) ∷ [])
      ∷ (calls.RequestStop (obj 0) ∷ calls.Set (obj 2) 2 (pos 6) ∷ [])
      ∷ (calls.Lock (obj 2) ∷ calls.Set (obj 2) 1 (pos 7) ∷ calls.Add (obj 2) 1 (pos 1) ∷ calls.Unlock (obj 2) ∷ calls.Lock (obj 2) ∷ calls.Add (obj 2) 1 (pos 1) ∷ calls.Add (obj 2) 1 (pos 1) ∷ calls.Set (obj 2) 0 (pos 10) ∷ calls.Unlock (obj 2) ∷ calls.Lock (obj 2) ∷ calls.Unlock (obj 2) ∷ [])
      ∷ ([])
      ∷ (calls.Lock (obj 2) ∷ calls.Add (obj 2) 1 (pos 7) ∷ calls.Unlock (obj 2) ∷ calls.Lock (obj 2) ∷ calls.Unlock (obj 2) ∷ calls.TryLock (obj 2) ∷ calls.Add (obj 2) 2 (pos 1) ∷ calls.Set (obj 2) 0 (negsuc 5) ∷ calls.Unlock (obj 2) ∷ [])
      ∷ [];
}

abbrev pub recorded_replay_0089 : Recorded
recorded_replay_0089 = record {
  version = 1;
  lists =
      Some (did (controls.Start (thr 3) true) ∷ said replies.Ok ∷ did (controls.Start (thr 1) true) ∷ said replies.Ok ∷ did (controls.Start (thr 4) true) ∷ said replies.Ok ∷ did (controls.Start (thr 2) true) ∷ said replies.Ok ∷ said replies.ResourceDeadlockWouldOccur ∷ made 0 2 0 ops.TryLock (pos 0) (pos 0) replies.True ∷ said replies.True ∷ made 0 2 1 ops.Add (pos 1) (pos 9223372036854775807) (replies.Number (pos 9223372036854775807)) ∷ said (replies.Number (pos 9223372036854775807)) ∷ seen 0 2 2 ops.Get (pos 1) (pos 0) (replies.Number (pos 9223372036854775807)) ∷ said (replies.Number (pos 9223372036854775807)) ∷ seen 0 2 2 ops.Get (pos 1) (pos 0) (replies.Number (pos 9223372036854775807)) ∷ said (replies.Number (pos 9223372036854775807)) ∷ made 0 2 2 ops.Unlock (pos 0) (pos 0) replies.Ok ∷ said replies.Ok ∷ made 0 2 3 ops.Lock (pos 0) (pos 0) replies.Ok ∷ said replies.Ok ∷ made 0 2 4 ops.Unlock (pos 0) (pos 0) replies.Ok ∷ said replies.Ok ∷ made 0 2 5 ops.Lock (pos 0) (pos 0) replies.Ok ∷ said replies.Ok ∷ [])
      ∷ Some (said replies.NoState ∷ said replies.OperationNotPermitted ∷ [])
      ∷ Some ([])
      ∷ Some ([])
      ∷ Some ([])
      ∷ [];
}

-- the replay
abbrev pub scene_replay_0094 : Scene
scene_replay_0094 = record {
  version = 1;
  threads = threads.Plain ∷ threads.Stoppable (obj 0) ∷ threads.Plain ∷ [];
  objects = objects.StopOfThread ∷ objects.Condition ∷ objects.Mutex 1 ∷ [];
  callbacks = [];
  bodies =
      (calls.Start (thr 2) ∷ calls.Start (thr 1) ∷ calls.Lock (obj 2) ∷ calls.Add (obj 2) 0 (pos 1) ∷ calls.Join (thr 1) ∷ calls.Join (thr 2) ∷ calls.NotifyAll (obj 1) ∷ calls.Unlock (obj 2) ∷ [])
      ∷ (calls.StopRequested (obj 0) ∷ calls.WaitPredicate (obj 1) (obj 2) (record { number = 0; relation = relations.AtMost; value = (pos 1) }) ∷ calls.Add (obj 2) 0 (negsuc 0) ∷ calls.NotifyOne (obj 1) ∷ calls.Unlock (obj 2) ∷ calls.Unlock (obj 2) ∷ [])
      ∷ (calls.WaitPredicate (obj 1) (obj 2) (record { number = 0; relation = relations.Equal; value = (pos 0) }) ∷ calls.Unlock (obj 2) ∷ [])
      ∷ [];
}

abbrev pub recorded_replay_0094 : Recorded
recorded_replay_0094 = record {
  version = 1;
  lists =
      Some (did (controls.Start (thr 2) true) ∷ said replies.Ok ∷ did (controls.Start (thr 1) true) ∷ said replies.Ok ∷ made 0 2 0 ops.Lock (pos 0) (pos 0) replies.Ok ∷ said replies.Ok ∷ made 0 2 1 ops.Add (pos 0) (pos 1) (replies.Number (pos 1)) ∷ said (replies.Number (pos 1)) ∷ did (controls.Join (thr 1)) ∷ said replies.Ok ∷ did (controls.Join (thr 2)) ∷ said replies.Ok ∷ made 0 1 1 ops.NotifyAll (pos 0) (pos 0) (replies.Number (pos 0)) ∷ said (replies.Number (pos 0)) ∷ made 0 2 2 ops.Unlock (pos 0) (pos 0) replies.Ok ∷ said replies.Ok ∷ [])
      ∷ Some (seen 1 0 0 ops.StopRequested (pos 0) (pos 0) replies.False ∷ said replies.False ∷ said replies.OperationNotPermitted ∷ said replies.OperationNotPermitted ∷ made 1 1 0 ops.NotifyOne (pos 0) (pos 0) replies.Nobody ∷ said replies.Nobody ∷ said replies.OperationNotPermitted ∷ said replies.OperationNotPermitted ∷ [])
      ∷ Some (said replies.OperationNotPermitted ∷ said replies.OperationNotPermitted ∷ [])
      ∷ [];
}

-- the replay
abbrev pub scene_replay_0101 : Scene
scene_replay_0101 = record {
  version = 1;
  threads = threads.Plain ∷ threads.Stoppable (obj 0) ∷ [];
  objects = objects.StopOfThread ∷ objects.Semaphore 65535 65535 ∷ [];
  callbacks = [];
  bodies =
      (calls.Start (thr 1) ∷ calls.Acquire (obj 1) ∷ [])
      ∷ (calls.Release (obj 1) 2 ∷ calls.Release (obj 1) 2 ∷ calls.Acquire (obj 1) ∷ calls.TryAcquire (obj 1) ∷ calls.Release (obj 1) 2 ∷ [])
      ∷ [];
}

abbrev pub recorded_replay_0101 : Recorded
recorded_replay_0101 = record {
  version = 1;
  lists =
      Some (did (controls.Start (thr 1) true) ∷ said replies.Ok ∷ made 0 1 0 ops.Acquire (pos 0) (pos 0) replies.Ok ∷ said replies.Ok ∷ made 0 0 0 ops.Request (pos 0) (pos 0) replies.Ok ∷ seen 0 0 1 ops.Drained (pos 0) (pos 0) replies.Ok ∷ did (controls.Join (thr 1)) ∷ [])
      ∷ Some (seen 1 1 1 ops.Release (pos 2) (pos 0) replies.Over ∷ said replies.Over ∷ seen 1 1 1 ops.Release (pos 2) (pos 0) replies.Over ∷ said replies.Over ∷ made 1 1 1 ops.Acquire (pos 0) (pos 0) replies.Ok ∷ said replies.Ok ∷ made 1 1 2 ops.TryAcquire (pos 0) (pos 0) replies.True ∷ said replies.True ∷ made 1 1 3 ops.Release (pos 2) (pos 0) replies.Ok ∷ said replies.Ok ∷ [])
      ∷ [];
}

-- the replay
abbrev pub scene_replay_0109 : Scene
scene_replay_0109 = record {
  version = 1;
  threads = threads.Plain ∷ threads.Plain ∷ threads.Launched (obj 0) ∷ [];
  objects = objects.Async policies.Async (functions.Throw 4294967295) (thr 2) ∷ objects.Stop ([]) ∷ objects.Condition ∷ [];
  callbacks = callback (obj 1) actions.Deregister ∷ callback (obj 1) (actions.Small (smalls.NotifyOne (obj 2))) ∷ callback (obj 1) actions.Deregister ∷ callback (obj 1) (actions.Small (smalls.NotifyOne (obj 2))) ∷ [];
  bodies =
      (calls.Start (thr 1) ∷ calls.Launch (obj 0) ∷ calls.GetOutcome (obj 0) ∷ calls.DropAsync (obj 0) ∷ calls.RequestStop (obj 1) ∷ calls.StopPossible (obj 1) ∷ calls.Register (cbk 2) ∷ calls.Deregister (cbk 2) ∷ calls.Deregister (cbk 2) ∷ calls.Join (thr 1) ∷ calls.GetOutcome (obj 0) ∷ calls.Register (cbk 0) ∷ [])
      ∷ (calls.Register (cbk 3) ∷ calls.Deregister (cbk 3) ∷ calls.Deregister (cbk 3) ∷ calls.Register (cbk 1) ∷ calls.Deregister (cbk 1) ∷ calls.Deregister (cbk 1) ∷ [])
      ∷ ([])
      ∷ [];
}

abbrev pub recorded_replay_0109 : Recorded
recorded_replay_0109 = record {
  version = 1;
  lists =
      Some (did (controls.Start (thr 1) true) ∷ said replies.Ok ∷ did (controls.Launch (thr 2) true) ∷ said replies.Launched ∷ seen 0 0 1 ops.Ready (pos 0) (pos 0) (replies.Outcome (outcomes.Exception 4294967295)) ∷ said (replies.Outcome (outcomes.Exception 4294967295)) ∷ said replies.NoState ∷ said replies.NoState ∷ seen 0 1 0 ops.StopPossible (pos 0) (pos 0) replies.False ∷ said replies.False ∷ seen 0 1 0 ops.Never (pos 6) (pos 0) replies.Ok ∷ said replies.Never ∷ said replies.NotHeld ∷ said replies.NotHeld ∷ did (controls.Join (thr 1)) ∷ said replies.Ok ∷ said replies.NoState ∷ seen 0 1 0 ops.Never (pos 11) (pos 0) replies.Ok ∷ said replies.Never ∷ [])
      ∷ Some (seen 1 1 0 ops.Never (pos 4096) (pos 0) replies.Ok ∷ said replies.Never ∷ said replies.NotHeld ∷ said replies.NotHeld ∷ seen 1 1 0 ops.Never (pos 4099) (pos 0) replies.Ok ∷ said replies.Never ∷ said replies.NotHeld ∷ said replies.NotHeld ∷ [])
      ∷ Some (made 2 0 0 ops.Set (pos 1) (pos 4294967295) replies.Ok ∷ [])
      ∷ [];
}

-- the replay
abbrev pub scene_replay_0110 : Scene
scene_replay_0110 = record {
  version = 1;
  threads = threads.Plain ∷ threads.Plain ∷ [];
  objects = objects.Latch 0 ∷ objects.Shared ∷ [];
  callbacks = [];
  bodies =
      (calls.WaitLatch (obj 0) ∷ calls.LockShared (obj 1) ∷ calls.Lock (obj 1) ∷ calls.UnlockShared (obj 1) ∷ calls.Lock (obj 1) ∷ calls.Start (thr 1) ∷ calls.Unlock (obj 1) ∷ calls.LockShared (obj 1) ∷ calls.UnlockShared (obj 1) ∷ calls.LockShared (obj 1) ∷ calls.Unlock (obj 1) ∷ calls.UnlockShared (obj 1) ∷ calls.Join (thr 1) ∷ [])
      ∷ (calls.WaitLatch (obj 0) ∷ [])
      ∷ [];
}

abbrev pub recorded_replay_0110 : Recorded
recorded_replay_0110 = record {
  version = 1;
  lists =
      Some (seen 0 0 0 ops.Wait (pos 0) (pos 0) replies.Ok ∷ said replies.Ok ∷ made 0 1 0 ops.LockShared (pos 0) (pos 0) replies.Ok ∷ said replies.Ok ∷ said replies.ResourceDeadlockWouldOccur ∷ made 0 1 1 ops.UnlockShared (pos 0) (pos 0) replies.Ok ∷ said replies.Ok ∷ made 0 1 2 ops.Lock (pos 0) (pos 0) replies.Ok ∷ said replies.Ok ∷ did (controls.Start (thr 1) true) ∷ said replies.Ok ∷ made 0 1 3 ops.Unlock (pos 0) (pos 0) replies.Ok ∷ said replies.Ok ∷ made 0 1 4 ops.LockShared (pos 0) (pos 0) replies.Ok ∷ said replies.Ok ∷ made 0 1 5 ops.UnlockShared (pos 0) (pos 0) replies.Ok ∷ said replies.Ok ∷ made 0 1 6 ops.LockShared (pos 0) (pos 0) replies.Ok ∷ said replies.Ok ∷ said replies.OperationNotPermitted ∷ made 0 1 7 ops.UnlockShared (pos 0) (pos 0) replies.Ok ∷ said replies.Ok ∷ did (controls.Join (thr 1)) ∷ said replies.Ok ∷ [])
      ∷ Some (seen 1 0 0 ops.Wait (pos 0) (pos 0) replies.Ok ∷ said replies.Ok ∷ [])
      ∷ [];
}
