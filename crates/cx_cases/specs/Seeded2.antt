-- Replays with a seed, each with its record.
use Rattle.std.specs.Prelude.{pos, true, [], ◌∷◌, Some, None}
use Rattle.cx_names.specs.declared.Reply.TheVariants as replies
use Rattle.cx_machine.specs.declared.kind.Op.TheVariants as ops
use Rattle.cx_scene.specs.declared.declared.Object.TheVariants as objects
use Rattle.cx_scene.specs.declared.declared.Thread.TheVariants as threads
use Rattle.cx_scene.specs.declared.declared.Small.TheVariants as smalls
use Rattle.cx_scene.specs.declared.declared.Action.TheVariants as actions
use Rattle.cx_scene.specs.declared.call.Call.TheVariants as calls
use Rattle.cx_scene.specs.declared.call.Relation.TheVariants as relations
use Rattle.cx_items.specs.declared.item.Control.TheVariants as controls
use Rattle.cx_scene.specs.Scene.{Scene}
use Rattle.cx_history.specs.Histories.{Recorded}
use Rattle.cx_cases.specs.Short.{obj, thr, cbk, callback, made, seen, did, said}

-- the replay that is stuck
abbrev pub scene_seeded_0100 : Scene
scene_seeded_0100 = record {
  version = 1;
  threads = threads.Plain ∷ threads.Plain ∷ threads.Stoppable (obj 0) ∷ [];
  objects = objects.StopOfThread ∷ objects.Semaphore 65535 65535 ∷ objects.Semaphore 2 2 ∷ objects.Mutex 1 ∷ objects.Mutex 8 ∷ objects.Mutex 8 ∷ objects.Mutex 3 ∷ objects.Stop (2 ∷ []) ∷ objects.Condition ∷ [];
  callbacks = [];
  bodies =
      (calls.Lock (obj 6) ∷ calls.WaitStop (obj 8) (obj 6) (obj 7) (record { number = 1; relation = relations.AtLeast; value = (pos 1) }) ∷ calls.Unlock (obj 6) ∷ calls.LockAll (4 ∷ 3 ∷ []) ∷ calls.Add (obj 4) 0 (pos 1) ∷ calls.Start (thr 2) ∷ calls.Start (thr 1) ∷ calls.TryLockAll (6 ∷ 5 ∷ []) ∷ calls.Unlock (obj 4) ∷ calls.Unlock (obj 3) ∷ calls.Add (obj 6) 0 (pos 1) ∷ calls.Unlock (obj 5) ∷ calls.Unlock (obj 6) ∷ calls.TryLockAll (5 ∷ 6 ∷ []) ∷ calls.Unlock (obj 5) ∷ calls.Unlock (obj 6) ∷ calls.TryLockAll (3 ∷ 4 ∷ []) ∷ calls.Add (obj 3) 0 (pos 1) ∷ calls.Unlock (obj 4) ∷ calls.Unlock (obj 3) ∷ calls.LockAll (4 ∷ 3 ∷ []) ∷ calls.Unlock (obj 4) ∷ calls.Unlock (obj 3) ∷ calls.Join (thr 1) ∷ [])
      ∷ (calls.LockAll (3 ∷ 4 ∷ []) ∷ calls.Unlock (obj 4) ∷ calls.Unlock (obj 3) ∷ calls.TryLockAll (4 ∷ 3 ∷ []) ∷ calls.Add (obj 3) 0 (pos 1) ∷ calls.Unlock (obj 4) ∷ calls.Unlock (obj 3) ∷ calls.Lock (obj 3) ∷ calls.Unlock (obj 3) ∷ calls.LockAll (6 ∷ 5 ∷ []) ∷ calls.Unlock (obj 6) ∷ calls.Unlock (obj 5) ∷ calls.TryLockAll (6 ∷ 5 ∷ []) ∷ calls.Unlock (obj 6) ∷ calls.Unlock (obj 5) ∷ calls.Lock (obj 6) ∷ calls.WaitStop (obj 8) (obj 6) (obj 7) (record { number = 1; relation = relations.Unequal; value = (pos 0) }) ∷ calls.Unlock (obj 6) ∷ calls.Acquire (obj 1) ∷ calls.Release (obj 2) 1 ∷ calls.Acquire (obj 1) ∷ calls.Release (obj 2) 1 ∷ [])
      ∷ (calls.TryLockAll (6 ∷ 5 ∷ []) ∷ calls.Unlock (obj 6) ∷ calls.Unlock (obj 5) ∷ calls.TryLockAll (5 ∷ 6 ∷ []) ∷ calls.Release (obj 1) 1 ∷ calls.Acquire (obj 2) ∷ calls.Release (obj 1) 1 ∷ calls.Acquire (obj 2) ∷ calls.Add (obj 6) 0 (pos 1) ∷ calls.Lock (obj 5) ∷ calls.Unlock (obj 5) ∷ calls.Unlock (obj 6) ∷ calls.TryLockAll (5 ∷ 6 ∷ []) ∷ calls.Add (obj 6) 0 (pos 1) ∷ calls.RequestStop (obj 7) ∷ calls.Lock (obj 6) ∷ calls.WaitStop (obj 8) (obj 6) (obj 7) (record { number = 1; relation = relations.Unequal; value = (pos 2) }) ∷ calls.Unlock (obj 6) ∷ calls.Unlock (obj 5) ∷ calls.Unlock (obj 6) ∷ calls.Unlock (obj 5) ∷ [])
      ∷ [];
}

abbrev pub recorded_seeded_0100 : Recorded
recorded_seeded_0100 = record {
  version = 1;
  lists =
      Some (made 0 6 0 ops.Lock (pos 0) (pos 0) replies.Ok ∷ said replies.Ok ∷ made 0 7 0 ops.Register (pos 1) (pos 0) replies.Ok ∷ seen 0 7 1 ops.StopRequested (pos 0) (pos 0) replies.False ∷ seen 0 6 1 ops.Get (pos 1) (pos 0) (replies.Number (pos 0)) ∷ made 0 8 0 ops.Enter (pos 0) (pos 0) replies.Ok ∷ made 0 6 1 ops.Unlock (pos 0) (pos 0) replies.Ok ∷ seen 0 7 1 ops.StopRequested (pos 0) (pos 0) replies.False ∷ [])
      ∷ None
      ∷ None
      ∷ [];
}

-- the replay
abbrev pub scene_seeded_0112 : Scene
scene_seeded_0112 = record {
  version = 1;
  threads = threads.Plain ∷ threads.Stoppable (obj 0) ∷ threads.Stoppable (obj 1) ∷ [];
  objects = objects.StopOfThread ∷ objects.StopOfThread ∷ objects.SharedPromise (thr 2) (0 ∷ 2 ∷ []) ∷ objects.Latch 0 ∷ [];
  callbacks = [];
  bodies =
      (calls.Start (thr 1) ∷ calls.Start (thr 2) ∷ calls.TryWait (obj 3) ∷ calls.StopRequested (obj 1) ∷ calls.WaitLatch (obj 3) ∷ calls.Join (thr 1) ∷ calls.Join (thr 2) ∷ [])
      ∷ (calls.WaitLatch (obj 3) ∷ calls.StopRequested (obj 0) ∷ calls.StopRequested (obj 1) ∷ [])
      ∷ (calls.DropPromise (obj 2) ∷ calls.TryWait (obj 3) ∷ [])
      ∷ [];
}

abbrev pub recorded_seeded_0112 : Recorded
recorded_seeded_0112 = record {
  version = 1;
  lists =
      Some (did (controls.Start (thr 1) true) ∷ said replies.Ok ∷ did (controls.Start (thr 2) true) ∷ said replies.Ok ∷ seen 0 3 0 ops.TryWait (pos 0) (pos 0) replies.True ∷ said replies.True ∷ seen 0 1 0 ops.StopRequested (pos 0) (pos 0) replies.False ∷ said replies.False ∷ seen 0 3 0 ops.Wait (pos 0) (pos 0) replies.Ok ∷ said replies.Ok ∷ did (controls.Join (thr 1)) ∷ said replies.Ok ∷ did (controls.Join (thr 2)) ∷ said replies.Ok ∷ [])
      ∷ Some (seen 1 3 0 ops.Wait (pos 0) (pos 0) replies.Ok ∷ said replies.Ok ∷ seen 1 0 0 ops.StopRequested (pos 0) (pos 0) replies.False ∷ said replies.False ∷ seen 1 1 0 ops.StopRequested (pos 0) (pos 0) replies.False ∷ said replies.False ∷ [])
      ∷ Some (made 2 2 0 ops.Set (pos 2) (pos 0) replies.Ok ∷ said replies.Ok ∷ seen 2 3 0 ops.TryWait (pos 0) (pos 0) replies.True ∷ said replies.True ∷ [])
      ∷ [];
}

-- the replay
abbrev pub scene_seeded_0136 : Scene
scene_seeded_0136 = record {
  version = 1;
  threads = threads.Plain ∷ threads.Plain ∷ [];
  objects = objects.Semaphore 2 65535 ∷ objects.Barrier 3 (Some (smalls.Release (obj 0) 3)) ∷ objects.Mutex 1 ∷ objects.Mutex 2 ∷ objects.Stop (0 ∷ []) ∷ objects.Semaphore 2 2 ∷ objects.Semaphore 1 2 ∷ objects.Barrier 1 (Some (smalls.Release (obj 0) 65535)) ∷ [];
  callbacks = callback (obj 4) actions.Deregister ∷ callback (obj 4) actions.Deregister ∷ callback (obj 4) (actions.Small (smalls.Release (obj 5) 3)) ∷ callback (obj 4) (actions.Small (smalls.Release (obj 6) 1)) ∷ [];
  bodies =
      (calls.Register (cbk 2) ∷ calls.Deregister (cbk 2) ∷ calls.RequestStop (obj 4) ∷ calls.StopPossible (obj 4) ∷ calls.Register (cbk 1) ∷ calls.RequestStop (obj 4) ∷ calls.Deregister (cbk 1) ∷ calls.DropSource (obj 4) ∷ calls.LockAll (2 ∷ 3 ∷ []) ∷ calls.Add (obj 3) 0 (pos 1) ∷ calls.Unlock (obj 3) ∷ calls.Unlock (obj 2) ∷ calls.LockAll (3 ∷ 2 ∷ []) ∷ calls.Unlock (obj 2) ∷ calls.LockAll (2 ∷ 3 ∷ []) ∷ calls.Add (obj 2) 0 (pos 1) ∷ calls.Unlock (obj 3) ∷ calls.Unlock (obj 2) ∷ [])
      ∷ (calls.LockAll (2 ∷ 3 ∷ []) ∷ calls.Unlock (obj 2) ∷ calls.Unlock (obj 3) ∷ calls.LockAll (2 ∷ 3 ∷ []) ∷ calls.Unlock (obj 3) ∷ calls.Unlock (obj 2) ∷ calls.TryLockAll (2 ∷ 3 ∷ []) ∷ calls.Lock (obj 3) ∷ calls.Add (obj 3) 0 (pos 1) ∷ calls.Unlock (obj 3) ∷ calls.Unlock (obj 3) ∷ calls.ArriveAndDrop (obj 1) ∷ calls.Lock (obj 3) ∷ calls.ArriveAndWait (obj 7) ∷ calls.StopPossible (obj 4) ∷ [])
      ∷ [];
}

abbrev pub recorded_seeded_0136 : Recorded
recorded_seeded_0136 = record {
  version = 1;
  lists =
      Some (made 0 4 0 ops.Register (pos 0) (pos 0) replies.Ok ∷ said replies.Queued ∷ made 0 4 1 ops.Deregister (pos 0) (pos 0) replies.Removed ∷ said replies.Removed ∷ made 0 4 2 ops.Request (pos 0) (pos 0) replies.Ok ∷ seen 0 4 3 ops.Drained (pos 0) (pos 0) replies.Ok ∷ said replies.Made ∷ seen 0 4 3 ops.StopPossible (pos 0) (pos 0) replies.True ∷ said replies.True ∷ made 0 4 3 ops.RegisterNow (pos 4) (pos 0) replies.Ok ∷ made 0 4 4 ops.Finish (pos 4) (pos 0) replies.Ok ∷ said replies.Ran ∷ seen 0 4 5 ops.Already (pos 0) (pos 0) replies.Ok ∷ said replies.Already ∷ said replies.NotHeld ∷ made 0 4 5 ops.Drop (pos 0) (pos 0) replies.Ok ∷ said replies.Ok ∷ made 0 2 0 ops.Lock (pos 0) (pos 0) replies.Ok ∷ made 0 3 0 ops.TryLock (pos 0) (pos 0) replies.True ∷ said replies.Ok ∷ made 0 3 1 ops.Add (pos 0) (pos 1) (replies.Number (pos 1)) ∷ said (replies.Number (pos 1)) ∷ made 0 3 2 ops.Unlock (pos 0) (pos 0) replies.Ok ∷ said replies.Ok ∷ made 0 2 1 ops.Unlock (pos 0) (pos 0) replies.Ok ∷ said replies.Ok ∷ made 0 3 3 ops.Lock (pos 0) (pos 0) replies.Ok ∷ made 0 2 2 ops.TryLock (pos 0) (pos 0) replies.True ∷ said replies.Ok ∷ made 0 2 3 ops.Unlock (pos 0) (pos 0) replies.Ok ∷ said replies.Ok ∷ said replies.ResourceDeadlockWouldOccur ∷ said replies.OperationNotPermitted ∷ made 0 3 4 ops.Unlock (pos 0) (pos 0) replies.Ok ∷ said replies.Ok ∷ said replies.OperationNotPermitted ∷ [])
      ∷ None
      ∷ [];
}

-- the replay
abbrev pub scene_seeded_0137 : Scene
scene_seeded_0137 = record {
  version = 1;
  threads = threads.Plain ∷ threads.Plain ∷ [];
  objects = objects.Shared ∷ [];
  callbacks = [];
  bodies =
      (calls.LockShared (obj 0) ∷ calls.Start (thr 1) ∷ calls.LockShared (obj 0) ∷ calls.TryLock (obj 0) ∷ calls.UnlockShared (obj 0) ∷ calls.TryLock (obj 0) ∷ calls.Unlock (obj 0) ∷ calls.Unlock (obj 0) ∷ calls.Join (thr 1) ∷ [])
      ∷ (calls.LockShared (obj 0) ∷ calls.Lock (obj 0) ∷ calls.TryLockShared (obj 0) ∷ calls.UnlockShared (obj 0) ∷ [])
      ∷ [];
}

abbrev pub recorded_seeded_0137 : Recorded
recorded_seeded_0137 = record {
  version = 1;
  lists =
      Some (made 0 0 0 ops.LockShared (pos 0) (pos 0) replies.Ok ∷ said replies.Ok ∷ did (controls.Start (thr 1) true) ∷ said replies.Ok ∷ said replies.ResourceDeadlockWouldOccur ∷ said replies.ResourceDeadlockWouldOccur ∷ made 0 0 2 ops.UnlockShared (pos 0) (pos 0) replies.Ok ∷ said replies.Ok ∷ seen 0 0 3 ops.TryLock (pos 0) (pos 0) replies.False ∷ said replies.False ∷ said replies.OperationNotPermitted ∷ said replies.OperationNotPermitted ∷ did (controls.Join (thr 1)) ∷ said replies.Ok ∷ [])
      ∷ Some (made 1 0 1 ops.LockShared (pos 0) (pos 0) replies.Ok ∷ said replies.Ok ∷ said replies.ResourceDeadlockWouldOccur ∷ said replies.ResourceDeadlockWouldOccur ∷ made 1 0 3 ops.UnlockShared (pos 0) (pos 0) replies.Ok ∷ said replies.Ok ∷ [])
      ∷ [];
}
