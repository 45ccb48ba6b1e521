-- Replays without a seed, each with its record.
use Rattle.std.specs.Prelude.{pos, negsuc, true, [], ◌∷◌, Some}
use Rattle.cx_names.specs.declared.Reply.TheVariants as replies
use Rattle.cx_names.specs.declared.Outcome.TheVariants as outcomes
use Rattle.cx_machine.specs.declared.kind.Op.TheVariants as ops
use Rattle.cx_scene.specs.declared.declared.Object.TheVariants as objects
use Rattle.cx_scene.specs.declared.declared.Thread.TheVariants as threads
use Rattle.cx_scene.specs.declared.call.Call.TheVariants as calls
use Rattle.cx_scene.specs.declared.call.Relation.TheVariants as relations
use Rattle.cx_items.specs.declared.item.Control.TheVariants as controls
use Rattle.cx_scene.specs.Scene.{Scene}
use Rattle.cx_history.specs.Histories.{Recorded}
use Rattle.cx_cases.specs.Short.{obj, thr, made, seen, did, said}

-- the replay
abbrev pub scene_replay_0120 : Scene
scene_replay_0120 = record {
  version = 1;
  threads = threads.Plain ∷ threads.Plain ∷ threads.Stoppable (obj 0) ∷ threads.Plain ∷ [];
  objects = objects.StopOfThread ∷ objects.Latch 1 ∷ objects.Promise (thr 2) (thr 2) ∷ [];
  callbacks = [];
  bodies =
      (calls.Start (thr 3) ∷ calls.Start (thr 2) ∷ calls.Start (thr 1) ∷ calls.TryWait (obj 1) ∷ calls.Join (thr 1) ∷ calls.Join (thr 3) ∷ [])
      ∷ (calls.ArriveAndWaitLatch (obj 1) ∷ calls.TryWait (obj 1) ∷ [])
      ∷ (calls.StopRequested (obj 0) ∷ calls.DropPromise (obj 2) ∷ calls.TryWait (obj 1) ∷ calls.GetFuture (obj 2) ∷ calls.WaitFuture (obj 2) ∷ [])
      ∷ ([])
      ∷ [];
}

abbrev pub recorded_replay_0120 : Recorded
recorded_replay_0120 = record {
  version = 1;
  lists =
      Some (did (controls.Start (thr 3) true) ∷ said replies.Ok ∷ did (controls.Start (thr 2) true) ∷ said replies.Ok ∷ did (controls.Start (thr 1) true) ∷ said replies.Ok ∷ seen 0 1 0 ops.TryWait (pos 0) (pos 0) replies.False ∷ said replies.False ∷ did (controls.Join (thr 1)) ∷ said replies.Ok ∷ did (controls.Join (thr 3)) ∷ said replies.Ok ∷ made 0 0 0 ops.Request (pos 0) (pos 0) replies.Ok ∷ seen 0 0 1 ops.Drained (pos 0) (pos 0) replies.Ok ∷ did (controls.Join (thr 2)) ∷ [])
      ∷ Some (made 1 1 0 ops.CountDown (pos 1) (pos 0) replies.Ok ∷ seen 1 1 1 ops.Wait (pos 0) (pos 0) replies.Ok ∷ said replies.Ok ∷ seen 1 1 1 ops.TryWait (pos 0) (pos 0) replies.True ∷ said replies.True ∷ [])
      ∷ Some (seen 2 0 1 ops.StopRequested (pos 0) (pos 0) replies.True ∷ said replies.True ∷ made 2 2 0 ops.Set (pos 2) (pos 0) replies.Ok ∷ said replies.Ok ∷ seen 2 1 1 ops.TryWait (pos 0) (pos 0) replies.True ∷ said replies.True ∷ said replies.Ok ∷ seen 2 2 1 ops.Ready (pos 0) (pos 0) (replies.Outcome outcomes.Broken) ∷ said replies.Ok ∷ [])
      ∷ Some ([])
      ∷ [];
}

-- the replay
abbrev pub scene_replay_0122 : Scene
scene_replay_0122 = record {
  version = 1;
  threads = threads.Plain ∷ threads.Stoppable (obj 0) ∷ threads.Plain ∷ threads.Plain ∷ threads.Stoppable (obj 1) ∷ [];
  objects = objects.StopOfThread ∷ objects.StopOfThread ∷ objects.Stop (2 ∷ 1 ∷ []) ∷ [];
  callbacks = [];
  bodies =
      (calls.Start (thr 3) ∷ calls.Start (thr 2) ∷ calls.Start (thr 4) ∷ calls.Start (thr 1) ∷ calls.Join (thr 0) ∷ calls.RequestStop (obj 1) ∷ calls.Join (thr 0) ∷ calls.Join (thr 2) ∷ calls.Join (thr 1) ∷ calls.Join (thr 3) ∷ [])
      ∷ (calls.RequestStop (obj 2) ∷ calls.RequestStop (obj 2) ∷ calls.StopPossible (obj 2) ∷ [])
      ∷ (calls.RequestStop (obj 2) ∷ calls.RequestStop (obj 2) ∷ calls.DropSource (obj 2) ∷ [])
      ∷ ([])
      ∷ ([])
      ∷ [];
}

abbrev pub recorded_replay_0122 : Recorded
recorded_replay_0122 = record {
  version = 1;
  lists =
      Some (did (controls.Start (thr 3) true) ∷ said replies.Ok ∷ did (controls.Start (thr 2) true) ∷ said replies.Ok ∷ did (controls.Start (thr 4) true) ∷ said replies.Ok ∷ did (controls.Start (thr 1) true) ∷ said replies.Ok ∷ said replies.ResourceDeadlockWouldOccur ∷ made 0 1 0 ops.Request (pos 0) (pos 0) replies.Ok ∷ seen 0 1 1 ops.Drained (pos 0) (pos 0) replies.Ok ∷ said replies.Made ∷ said replies.ResourceDeadlockWouldOccur ∷ did (controls.Join (thr 2)) ∷ said replies.Ok ∷ did (controls.Join (thr 1)) ∷ said replies.Ok ∷ did (controls.Join (thr 3)) ∷ said replies.Ok ∷ seen 0 1 1 ops.Already (pos 0) (pos 0) replies.Ok ∷ did (controls.Join (thr 4)) ∷ [])
      ∷ Some (made 1 2 0 ops.Request (pos 0) (pos 0) replies.Ok ∷ seen 1 2 1 ops.Drained (pos 0) (pos 0) replies.Ok ∷ said replies.Made ∷ seen 1 2 1 ops.Already (pos 0) (pos 0) replies.Ok ∷ said replies.Already ∷ seen 1 2 1 ops.StopPossible (pos 0) (pos 0) replies.True ∷ said replies.True ∷ [])
      ∷ Some (seen 2 2 1 ops.Already (pos 0) (pos 0) replies.Ok ∷ said replies.Already ∷ seen 2 2 1 ops.Already (pos 0) (pos 0) replies.Ok ∷ said replies.Already ∷ made 2 2 1 ops.Drop (pos 0) (pos 0) replies.Ok ∷ said replies.Ok ∷ [])
      ∷ Some ([])
      ∷ Some ([])
      ∷ [];
}

-- the replay
abbrev pub scene_replay_0126 : Scene
scene_replay_0126 = record {
  version = 1;
  threads = threads.Plain ∷ threads.Plain ∷ [];
  objects = objects.Stop (0 ∷ []) ∷ objects.Condition ∷ objects.Mutex 3 ∷ objects.Semaphore 0 1 ∷ [];
  callbacks = [];
  bodies =
      (calls.Lock (obj 2) ∷ calls.RequestStop (obj 0) ∷ calls.Unlock (obj 2) ∷ calls.RequestStop (obj 0) ∷ calls.Start (thr 1) ∷ calls.Join (thr 1) ∷ [])
      ∷ (calls.WaitCondition (obj 1) (obj 2) ∷ calls.Lock (obj 2) ∷ calls.Release (obj 3) 1 ∷ calls.WaitStop (obj 1) (obj 2) (obj 0) (record { number = 0; relation = relations.Unequal; value = (pos 0) }) ∷ calls.Unlock (obj 2) ∷ [])
      ∷ [];
}

abbrev pub recorded_replay_0126 : Recorded
recorded_replay_0126 = record {
  version = 1;
  lists =
      Some (made 0 2 0 ops.Lock (pos 0) (pos 0) replies.Ok ∷ said replies.Ok ∷ made 0 0 0 ops.Request (pos 0) (pos 0) replies.Ok ∷ seen 0 0 1 ops.Drained (pos 0) (pos 0) replies.Ok ∷ said replies.Made ∷ made 0 2 1 ops.Unlock (pos 0) (pos 0) replies.Ok ∷ said replies.Ok ∷ seen 0 0 1 ops.Already (pos 0) (pos 0) replies.Ok ∷ said replies.Already ∷ did (controls.Start (thr 1) true) ∷ said replies.Ok ∷ did (controls.Join (thr 1)) ∷ said replies.Ok ∷ [])
      ∷ Some (said replies.OperationNotPermitted ∷ made 1 2 2 ops.Lock (pos 0) (pos 0) replies.Ok ∷ said replies.Ok ∷ made 1 3 0 ops.Release (pos 1) (pos 0) replies.Ok ∷ said replies.Ok ∷ made 1 0 1 ops.RegisterNow (pos 4099) (pos 0) replies.Ok ∷ made 1 1 0 ops.NotifyAll (pos 0) (pos 0) (replies.Number (pos 0)) ∷ made 1 0 2 ops.Finish (pos 4099) (pos 0) replies.Ok ∷ seen 1 0 3 ops.StopRequested (pos 0) (pos 0) replies.True ∷ seen 1 2 3 ops.Get (pos 0) (pos 0) (replies.Number (pos 0)) ∷ said replies.False ∷ made 1 2 3 ops.Unlock (pos 0) (pos 0) replies.Ok ∷ said replies.Ok ∷ [])
      ∷ [];
}

-- the replay
abbrev pub scene_replay_0128 : Scene
scene_replay_0128 = record {
  version = 1;
  threads = threads.Plain ∷ threads.Stoppable (obj 0) ∷ threads.Plain ∷ threads.Stoppable (obj 1) ∷ threads.Plain ∷ [];
  objects = objects.StopOfThread ∷ objects.StopOfThread ∷ objects.Promise (thr 1) (thr 4) ∷ [];
  callbacks = [];
  bodies =
      (calls.Start (thr 4) ∷ calls.Start (thr 2) ∷ calls.Start (thr 1) ∷ calls.Start (thr 3) ∷ calls.Join (thr 4) ∷ calls.Join (thr 2) ∷ [])
      ∷ (calls.RequestStop (obj 1) ∷ calls.DropPromise (obj 2) ∷ [])
      ∷ (calls.StopRequested (obj 1) ∷ [])
      ∷ ([])
      ∷ (calls.GetFuture (obj 2) ∷ [])
      ∷ [];
}

abbrev pub recorded_replay_0128 : Recorded
recorded_replay_0128 = record {
  version = 1;
  lists =
      Some (did (controls.Start (thr 4) true) ∷ said replies.Ok ∷ did (controls.Start (thr 2) true) ∷ said replies.Ok ∷ did (controls.Start (thr 1) true) ∷ said replies.Ok ∷ did (controls.Start (thr 3) true) ∷ said replies.Ok ∷ did (controls.Join (thr 4)) ∷ said replies.Ok ∷ did (controls.Join (thr 2)) ∷ said replies.Ok ∷ made 0 1 0 ops.Request (pos 0) (pos 0) replies.Ok ∷ seen 0 1 1 ops.Drained (pos 0) (pos 0) replies.Ok ∷ did (controls.Join (thr 3)) ∷ made 0 0 0 ops.Request (pos 0) (pos 0) replies.Ok ∷ seen 0 0 1 ops.Drained (pos 0) (pos 0) replies.Ok ∷ did (controls.Join (thr 1)) ∷ [])
      ∷ Some (said replies.NoState ∷ made 1 2 0 ops.Set (pos 2) (pos 0) replies.Ok ∷ said replies.Ok ∷ [])
      ∷ Some (seen 2 1 0 ops.StopRequested (pos 0) (pos 0) replies.False ∷ said replies.False ∷ [])
      ∷ Some ([])
      ∷ Some (said replies.Ok ∷ [])
      ∷ [];
}

-- the replay
abbrev pub scene_replay_0137 : Scene
scene_replay_0137 = record {
  version = 1;
  threads = threads.Plain ∷ threads.Stoppable (obj 0) ∷ [];
  objects = objects.StopOfThread ∷ objects.Condition ∷ objects.Shared ∷ [];
  callbacks = [];
  bodies =
      (calls.Start (thr 1) ∷ calls.NotifyOne (obj 1) ∷ calls.NotifyOne (obj 1) ∷ calls.NotifyOne (obj 1) ∷ calls.Join (thr 0) ∷ calls.Join (thr 1) ∷ [])
      ∷ (calls.Lock (obj 2) ∷ calls.Unlock (obj 2) ∷ [])
      ∷ [];
}

abbrev pub recorded_replay_0137 : Recorded
recorded_replay_0137 = record {
  version = 1;
  lists =
      Some (did (controls.Start (thr 1) true) ∷ said replies.Ok ∷ made 0 1 0 ops.NotifyOne (pos 0) (pos 0) replies.Nobody ∷ said replies.Nobody ∷ made 0 1 1 ops.NotifyOne (pos 0) (pos 0) replies.Nobody ∷ said replies.Nobody ∷ made 0 1 2 ops.NotifyOne (pos 0) (pos 0) replies.Nobody ∷ said replies.Nobody ∷ said replies.ResourceDeadlockWouldOccur ∷ did (controls.Join (thr 1)) ∷ said replies.Ok ∷ [])
      ∷ Some (made 1 2 0 ops.Lock (pos 0) (pos 0) replies.Ok ∷ said replies.Ok ∷ made 1 2 1 ops.Unlock (pos 0) (pos 0) replies.Ok ∷ said replies.Ok ∷ [])
      ∷ [];
}

-- the replay
abbrev pub scene_replay_0148 : Scene
scene_replay_0148 = record {
  version = 1;
  threads = threads.Plain ∷ threads.Stoppable (obj 0) ∷ [];
  objects = objects.StopOfThread ∷ objects.Mutex 8 ∷ [];
  callbacks = [];
  bodies =
      (calls.Start (thr 1) ∷ calls.Set (obj 1) 6 (negsuc 19) ∷ calls.StopRequested (obj 0) ∷ calls.Join (thr 1) ∷ calls.Lock (obj 1) ∷ calls.Unlock (obj 1) ∷ calls.TryLock (obj 1) ∷ calls.Unlock (obj 1) ∷ [])
      ∷ (calls.Lock (obj 1) ∷ calls.Add (obj 1) 7 (negsuc 1) ∷ calls.Set (obj 1) 6 (negsuc 4) ∷ calls.Unlock (obj 1) ∷ calls.Lock (obj 1) ∷ calls.Add (obj 1) 6 (pos 6) ∷ calls.Unlock (obj 1) ∷ [])
      ∷ [];
}

abbrev pub recorded_replay_0148 : Recorded
recorded_replay_0148 = record {
  version = 1;
  lists =
      Some (did (controls.Start (thr 1) true) ∷ said replies.Ok ∷ said replies.OperationNotPermitted ∷ seen 0 0 0 ops.StopRequested (pos 0) (pos 0) replies.False ∷ said replies.False ∷ did (controls.Join (thr 1)) ∷ said replies.Ok ∷ made 0 1 7 ops.Lock (pos 0) (pos 0) replies.Ok ∷ said replies.Ok ∷ made 0 1 8 ops.Unlock (pos 0) (pos 0) replies.Ok ∷ said replies.Ok ∷ made 0 1 9 ops.TryLock (pos 0) (pos 0) replies.True ∷ said replies.True ∷ made 0 1 10 ops.Unlock (pos 0) (pos 0) replies.Ok ∷ said replies.Ok ∷ [])
      ∷ Some (made 1 1 0 ops.Lock (pos 0) (pos 0) replies.Ok ∷ said replies.Ok ∷ made 1 1 1 ops.Add (pos 7) (negsuc 1) (replies.Number (negsuc 1)) ∷ said (replies.Number (negsuc 1)) ∷ made 1 1 2 ops.Set (pos 6) (negsuc 4) replies.Ok ∷ said replies.Ok ∷ made 1 1 3 ops.Unlock (pos 0) (pos 0) replies.Ok ∷ said replies.Ok ∷ made 1 1 4 ops.Lock (pos 0) (pos 0) replies.Ok ∷ said replies.Ok ∷ made 1 1 5 ops.Add (pos 6) (pos 6) (replies.Number (pos 1)) ∷ said (replies.Number (pos 1)) ∷ made 1 1 6 ops.Unlock (pos 0) (pos 0) replies.Ok ∷ said replies.Ok ∷ [])
      ∷ [];
}
