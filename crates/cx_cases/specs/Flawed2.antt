-- Records, each with its first flaw.
use Rattle.std.specs.Prelude.{pos, negsuc, true, false, [], ◌∷◌, Some, None}
use Rattle.cx_names.specs.declared.Reply.TheVariants as replies
use Rattle.cx_names.specs.declared.Outcome.TheVariants as outcomes
use Rattle.cx_machine.specs.declared.kind.Op.TheVariants as ops
use Rattle.cx_scene.specs.declared.declared.Object.TheVariants as objects
use Rattle.cx_scene.specs.declared.declared.Thread.TheVariants as threads
use Rattle.cx_scene.specs.declared.declared.Small.TheVariants as smalls
use Rattle.cx_scene.specs.declared.declared.Action.TheVariants as actions
use Rattle.cx_scene.specs.declared.call.Call.TheVariants as calls
use Rattle.cx_scene.specs.declared.call.Relation.TheVariants as relations
use Rattle.cx_items.specs.declared.item.Control.TheVariants as controls
use Rattle.cx_scene.specs.Scene.{Scene}
use Rattle.cx_history.specs.Histories.{Recorded}
use Rattle.cx_cases.specs.Short.{obj, thr, cbk, callback, made, seen, did, said}

-- a record with the flaw text
abbrev pub scene_flaw_0043 : Scene
scene_flaw_0043 = record {
  version = 1;
  threads = threads.Plain ∷ threads.Plain ∷ threads.Plain ∷ threads.Plain ∷ threads.Plain ∷ [];
  objects = objects.Semaphore 0 1 ∷ [];
  callbacks = [];
  bodies =
      (calls.Start (thr 2) ∷ calls.Start (thr 4) ∷ calls.Start (thr 1) ∷ calls.Start (thr 3) ∷ calls.Join (thr 0) ∷ calls.TryAcquire (obj 0) ∷ calls.Join (thr 1) ∷ calls.Join (thr 2) ∷ calls.Join (thr 3) ∷ calls.Join (thr 4) ∷ [])
      ∷ ([])
      ∷ ([])
      ∷ (calls.Release (obj 0) 1 ∷ calls.Release (obj 0) 65535 ∷ calls.Release (obj 0) 0 ∷ calls.TryAcquire (obj 0) ∷ calls.Acquire (obj 0) ∷ calls.Release (obj 0) 1 ∷ [])
      ∷ (calls.Release (obj 0) 1 ∷ calls.TryAcquire (obj 0) ∷ [])
      ∷ [];
}

abbrev pub recorded_flaw_0043 : Recorded
recorded_flaw_0043 = record {
  version = 1;
  lists =
      Some (did (controls.Start (thr 2) true) ∷ said replies.Ok ∷ did (controls.Start (thr 4) false) ∷ said replies.NoThread ∷ did (controls.Start (thr 1) false) ∷ said replies.NoThread ∷ did (controls.Start (thr 3) false) ∷ said replies.NoThread ∷ said replies.ResourceDeadlockWouldOccur ∷ seen 0 0 0 ops.Release (pos 1) (pos 0) replies.Over ∷ said replies.False ∷ said replies.InvalidArgument ∷ did (controls.Join (thr 2)) ∷ said replies.Ok ∷ said replies.InvalidArgument ∷ said replies.InvalidArgument ∷ [])
      ∷ None
      ∷ Some ([])
      ∷ None
      ∷ None
      ∷ [];
}

-- a record with the flaw text
abbrev pub scene_flaw_0051 : Scene
scene_flaw_0051 = record {
  version = 1;
  threads = threads.Plain ∷ threads.Plain ∷ threads.Plain ∷ threads.Plain ∷ threads.Stoppable (obj 0) ∷ [];
  objects = objects.StopOfThread ∷ objects.Stop (0 ∷ 1 ∷ []) ∷ objects.Condition ∷ objects.Mutex 1 ∷ objects.Barrier 3 None ∷ objects.Shared ∷ objects.SharedPromise (thr 2) (3 ∷ 1 ∷ 0 ∷ []) ∷ [];
  callbacks = [];
  bodies =
      (calls.Start (thr 3) ∷ calls.Start (thr 1) ∷ calls.Start (thr 4) ∷ calls.Start (thr 2) ∷ calls.LockShared (obj 5) ∷ calls.RequestStop (obj 1) ∷ calls.Lock (obj 3) ∷ calls.WaitStop (obj 2) (obj 3) (obj 1) (record { number = 0; relation = relations.Greater; value = (pos 2) }) ∷ calls.Unlock (obj 3) ∷ calls.Share (obj 6) ∷ calls.Share (obj 6) ∷ calls.WaitFuture (obj 6) ∷ calls.GetOutcome (obj 6) ∷ calls.ArriveAndWait (obj 4) ∷ calls.Join (thr 2) ∷ calls.Join (thr 1) ∷ calls.Join (thr 3) ∷ [])
      ∷ (calls.Lock (obj 3) ∷ calls.WaitStop (obj 2) (obj 3) (obj 1) (record { number = 0; relation = relations.Unequal; value = (pos 0) }) ∷ calls.Unlock (obj 3) ∷ calls.Arrive (obj 4) 1 ∷ calls.WaitBarrier (obj 4) ∷ [])
      ∷ (calls.RequestStop (obj 1) ∷ calls.DropPromise (obj 6) ∷ calls.Lock (obj 3) ∷ calls.WaitStop (obj 2) (obj 3) (obj 1) (record { number = 0; relation = relations.AtLeast; value = (pos 2) }) ∷ calls.Unlock (obj 3) ∷ calls.SetValue (obj 6) (pos 0) ∷ calls.ArriveAndDrop (obj 4) ∷ [])
      ∷ (calls.Share (obj 6) ∷ calls.GetOutcome (obj 6) ∷ calls.WaitFuture (obj 6) ∷ calls.WaitFuture (obj 6) ∷ calls.Share (obj 6) ∷ [])
      ∷ (calls.Lock (obj 3) ∷ calls.Add (obj 3) 0 (pos 1) ∷ calls.NotifyAll (obj 2) ∷ calls.Unlock (obj 3) ∷ calls.Lock (obj 5) ∷ calls.Unlock (obj 5) ∷ calls.Lock (obj 5) ∷ calls.Unlock (obj 5) ∷ [])
      ∷ [];
}

abbrev pub recorded_flaw_0051 : Recorded
recorded_flaw_0051 = record {
  version = 1;
  lists =
      Some (did (controls.Start (thr 3) true) ∷ said replies.Ok ∷ did (controls.Start (thr 1) true) ∷ said replies.Ok ∷ did (controls.Start (thr 4) true) ∷ said replies.Ok ∷ did (controls.Start (thr 2) true) ∷ said replies.Ok ∷ made 0 5 0 ops.LockShared (pos 0) (pos 0) replies.Ok ∷ said replies.Ok ∷ made 0 1 0 ops.Request (pos 0) (pos 0) replies.Ok ∷ seen 0 1 1 ops.Drained (pos 0) (pos 0) replies.Ok ∷ said replies.Made ∷ made 0 3 0 ops.Lock (pos 0) (pos 0) replies.Ok ∷ said replies.Ok ∷ made 0 1 1 ops.RegisterNow (pos 7) (pos 0) replies.Ok ∷ made 0 2 0 ops.NotifyAll (pos 0) (pos 0) (replies.Number (pos 0)) ∷ made 0 1 2 ops.Finish (pos 7) (pos 0) replies.Ok ∷ seen 0 1 3 ops.StopRequested (pos 0) (pos 0) replies.True ∷ seen 0 3 1 ops.Get (pos 0) (pos 0) (replies.Number (pos 0)) ∷ said replies.False ∷ made 0 3 1 ops.Unlock (pos 0) (pos 0) replies.Ok ∷ said replies.Ok ∷ said replies.NoState ∷ said replies.NoState ∷ seen 0 6 1 ops.Ready (pos 0) (pos 0) (replies.Outcome outcomes.Broken) ∷ said replies.Ok ∷ seen 0 6 1 ops.Ready (pos 0) (pos 0) (replies.Outcome outcomes.Broken) ∷ said (replies.Outcome outcomes.Broken) ∷ made 0 4 1 ops.Arrive (pos 1) (pos 0) (replies.Number (pos 0)) ∷ seen 0 4 4 ops.Wait (pos 0) (pos 0) replies.Ok ∷ said replies.Ok ∷ did (controls.Join (thr 2)) ∷ said replies.Ok ∷ did (controls.Join (thr 1)) ∷ said replies.Ok ∷ did (controls.Join (thr 3)) ∷ said replies.Ok ∷ made 0 5 1 ops.UnlockShared (pos 0) (pos 0) replies.Ok ∷ made 0 0 0 ops.Request (pos 0) (pos 0) replies.Ok ∷ seen 0 0 1 ops.Drained (pos 0) (pos 0) replies.Ok ∷ did (controls.Join (thr 4)) ∷ [])
      ∷ Some (made 1 3 2 ops.Lock (pos 0) (pos 0) replies.Ok ∷ said replies.Ok ∷ made 1 1 3 ops.RegisterNow (pos 4097) (pos 0) replies.Ok ∷ made 1 2 1 ops.NotifyAll (pos 0) (pos 0) (replies.Number (pos 0)) ∷ made 1 1 4 ops.Finish (pos 4097) (pos 0) replies.Ok ∷ seen 1 1 5 ops.StopRequested (pos 0) (pos 0) replies.True ∷ seen 1 3 3 ops.Get (pos 0) (pos 0) (replies.Number (pos 0)) ∷ said replies.False ∷ made 1 3 3 ops.Unlock (pos 0) (pos 0) replies.Ok ∷ said replies.Ok ∷ made 1 4 0 ops.Arrive (pos 1) (pos 0) (replies.Number (pos 0)) ∷ said (replies.Number (pos 0)) ∷ seen 1 4 4 ops.Wait (pos 0) (pos 0) replies.Ok ∷ said replies.Ok ∷ [])
      ∷ Some (said replies.NoState ∷ made 2 6 0 ops.Set (pos 2) (pos 0) replies.Ok ∷ said replies.Ok ∷ made 2 3 4 ops.Lock (pos 0) (pos 0) replies.Ok ∷ said replies.Ok ∷ made 2 1 5 ops.RegisterNow (pos 8195) (pos 0) replies.Ok ∷ made 2 2 2 ops.NotifyAll (pos 0) (pos 0) (replies.Number (pos 0)) ∷ made 2 1 6 ops.Finish (pos 8195) (pos 0) replies.Ok ∷ seen 2 1 7 ops.StopRequested (pos 0) (pos 0) replies.True ∷ seen 2 3 5 ops.Get (pos 0) (pos 0) (replies.Number (pos 0)) ∷ said replies.False ∷ made 2 3 5 ops.Unlock (pos 0) (pos 0) replies.Ok ∷ said replies.Ok ∷ said replies.NoState ∷ made 2 4 2 ops.Drop (pos 0) (pos 0) (replies.Number (pos 0)) ∷ made 2 4 3 ops.Complete (pos 0) (pos 0) replies.Ok ∷ said replies.Ok ∷ [])
      ∷ Some (said replies.NoState ∷ seen 3 6 1 ops.Ready (pos 0) (pos 0) (replies.Outcome outcomes.Broken) ∷ said (replies.Outcome outcomes.Broken) ∷ seen 3 6 1 ops.Ready (pos 0) (pos 0) (replies.Outcome outcomes.Broken) ∷ said replies.Ok ∷ seen 3 6 1 ops.Ready (pos 0) (pos 0) (replies.Outcome outcomes.Broken) ∷ said replies.Ok ∷ said replies.NoState ∷ [])
      ∷ Some (made 4 3 6 ops.Lock (pos 0) (pos 0) replies.Ok ∷ said replies.Ok ∷ made 4 3 7 ops.Add (pos 0) (pos 1) (replies.Number (pos 1)) ∷ said (replies.Number (pos 1)) ∷ made 4 2 3 ops.NotifyAll (pos 0) (pos 0) (replies.Number (pos 0)) ∷ said (replies.Number (pos 0)) ∷ made 4 3 8 ops.Unlock (pos 0) (pos 0) replies.Ok ∷ said replies.MaxLevels ∷ made 4 5 2 ops.Lock (pos 0) (pos 0) replies.Ok ∷ said replies.Ok ∷ made 4 5 3 ops.Unlock (pos 0) (pos 0) replies.Ok ∷ said replies.Ok ∷ made 4 5 4 ops.Lock (pos 0) (pos 0) replies.Ok ∷ said replies.Ok ∷ made 4 5 5 ops.Unlock (pos 0) (pos 0) replies.Ok ∷ said replies.Ok ∷ [])
      ∷ [];
}

-- a record with the flaw shown
abbrev pub scene_flaw_0052 : Scene
scene_flaw_0052 = record {
  version = 1;
  threads = threads.Plain ∷ threads.Plain ∷ threads.Plain ∷ threads.Stoppable (obj 0) ∷ threads.Stoppable (obj 1) ∷ [];
  objects = objects.StopOfThread ∷ objects.StopOfThread ∷ objects.Semaphore 0 3 ∷ objects.Semaphore 0 2 ∷ objects.Once ∷ objects.Condition ∷ objects.Mutex 3 ∷ objects.Mutex 2 ∷ [];
  callbacks = [];
  bodies =
      (calls.RequestStop (obj 1) ∷ calls.RequestStop (obj 0) ∷ calls.WaitStop (obj 5) (obj 6) (obj 0) (record { number = 0; relation = relations.AtLeast; value = (pos 2) }) ∷ calls.Unlock (obj 6) ∷ calls.CallOnceReturn (obj 4) ∷ calls.WaitStop (obj 5) (obj 7) (obj 1) (record { number = 0; relation = relations.Equal; value = (pos 2) }) ∷ calls.Start (thr 1) ∷ calls.Start (thr 2) ∷ calls.Start (thr 4) ∷ calls.Start (thr 3) ∷ calls.Unlock (obj 7) ∷ calls.CallOnceThrow (obj 4) 7 ∷ calls.StopPossible (obj 1) ∷ calls.Join (thr 1) ∷ calls.Join (thr 3) ∷ calls.Join (thr 2) ∷ [])
      ∷ (calls.TryLock (obj 7) ∷ [])
      ∷ (calls.Lock (obj 7) ∷ calls.Add (obj 7) 0 (pos 2) ∷ calls.NotifyOne (obj 5) ∷ calls.Unlock (obj 7) ∷ calls.Lock (obj 6) ∷ calls.WaitStop (obj 5) (obj 6) (obj 0) (record { number = 0; relation = relations.Unequal; value = (pos 2) }) ∷ calls.Unlock (obj 6) ∷ [])
      ∷ (calls.Release (obj 2) 1 ∷ calls.Acquire (obj 3) ∷ calls.Release (obj 2) 1 ∷ calls.Acquire (obj 3) ∷ [])
      ∷ (calls.NotifyAll (obj 5) ∷ calls.Add (obj 6) 0 (negsuc 9) ∷ calls.Acquire (obj 2) ∷ calls.Release (obj 3) 1 ∷ calls.Acquire (obj 2) ∷ calls.Release (obj 3) 1 ∷ [])
      ∷ [];
}

abbrev pub recorded_flaw_0052 : Recorded
recorded_flaw_0052 = record {
  version = 1;
  lists =
      Some (made 0 1 0 ops.Request (pos 0) (pos 0) replies.Ok ∷ seen 0 1 1 ops.Drained (pos 0) (pos 0) replies.Ok ∷ said replies.Made ∷ made 0 0 0 ops.Request (pos 0) (pos 0) replies.Ok ∷ seen 0 0 1 ops.Drained (pos 0) (pos 0) replies.Ok ∷ said replies.Made ∷ said replies.OperationNotPermitted ∷ said replies.OperationNotPermitted ∷ made 0 4 0 ops.Begin (pos 0) (pos 0) replies.Ok ∷ made 0 4 1 ops.Finish (pos 0) (pos 0) replies.Ok ∷ said replies.Returned ∷ said replies.OperationNotPermitted ∷ did (controls.Start (thr 1) true) ∷ said replies.Ok ∷ did (controls.Start (thr 2) true) ∷ said replies.Ok ∷ did (controls.Start (thr 4) true) ∷ said replies.Ok ∷ did (controls.Start (thr 3) true) ∷ said replies.Ok ∷ said replies.OperationNotPermitted ∷ seen 0 4 2 ops.Passive (pos 0) (pos 0) replies.Ok ∷ said replies.Passive ∷ seen 0 1 1 ops.StopPossible (pos 0) (pos 0) replies.True ∷ said replies.True ∷ did (controls.Join (thr 1)) ∷ said replies.Ok ∷ did (controls.Join (thr 3)) ∷ said replies.Ok ∷ did (controls.Join (thr 2)) ∷ said replies.Ok ∷ seen 0 1 0 ops.Already (pos 0) (pos 0) replies.Ok ∷ did (controls.Join (thr 4)) ∷ [])
      ∷ Some (made 1 7 0 ops.TryLock (pos 0) (pos 0) replies.True ∷ said replies.True ∷ made 1 7 1 ops.Unlock (pos 0) (pos 0) replies.Ok ∷ [])
      ∷ Some (made 2 7 2 ops.Lock (pos 0) (pos 0) replies.Ok ∷ said replies.Ok ∷ made 2 7 3 ops.Add (pos 0) (pos 2) (replies.Number (pos 2)) ∷ said (replies.Number (pos 2)) ∷ made 2 5 1 ops.NotifyOne (pos 0) (pos 0) replies.Nobody ∷ said replies.Nobody ∷ made 2 7 4 ops.Unlock (pos 0) (pos 0) replies.Ok ∷ said replies.Ok ∷ made 2 6 0 ops.Lock (pos 0) (pos 0) replies.Ok ∷ said replies.Ok ∷ made 2 0 1 ops.RegisterNow (pos 8197) (pos 0) replies.Ok ∷ made 2 5 2 ops.NotifyAll (pos 0) (pos 0) (replies.Number (pos 0)) ∷ made 2 0 2 ops.Finish (pos 8197) (pos 0) replies.Ok ∷ seen 2 0 3 ops.StopRequested (pos 0) (pos 0) replies.True ∷ seen 2 6 1 ops.Get (pos 0) (pos 0) (replies.Number (pos 0)) ∷ said replies.True ∷ made 2 6 1 ops.Unlock (pos 0) (pos 0) replies.Ok ∷ said replies.Ok ∷ [])
      ∷ Some (made 3 2 0 ops.Release (pos 1) (pos 0) replies.Ok ∷ said replies.Ok ∷ made 3 3 1 ops.Acquire (pos 0) (pos 0) replies.Ok ∷ said replies.Ok ∷ made 3 2 2 ops.Release (pos 1) (pos 0) replies.Ok ∷ said replies.Ok ∷ made 3 3 3 ops.Acquire (pos 0) (pos 0) replies.Ok ∷ said replies.Ok ∷ [])
      ∷ Some (made 4 5 0 ops.NotifyAll (pos 0) (pos 0) (replies.Number (pos 0)) ∷ said (replies.Number (pos 0)) ∷ said replies.OperationNotPermitted ∷ made 4 2 1 ops.Acquire (pos 0) (pos 0) replies.Ok ∷ said replies.Ok ∷ made 4 3 0 ops.Release (pos 1) (pos 0) replies.Ok ∷ said replies.Ok ∷ made 4 2 3 ops.Acquire (pos 0) (pos 0) replies.Ok ∷ said replies.Ok ∷ made 4 3 2 ops.Release (pos 1) (pos 0) replies.Ok ∷ said replies.Ok ∷ [])
      ∷ [];
}

-- a record with the flaw shown
abbrev pub scene_flaw_0056 : Scene
scene_flaw_0056 = record {
  version = 1;
  threads = threads.Plain ∷ threads.Stoppable (obj 0) ∷ [];
  objects = objects.StopOfThread ∷ objects.Stop ([]) ∷ objects.Semaphore 1 3 ∷ objects.Recursive ∷ objects.Barrier 2 None ∷ objects.Mutex 3 ∷ objects.Mutex 8 ∷ [];
  callbacks = callback (obj 1) (actions.Small (smalls.Release (obj 2) 1)) ∷ [];
  bodies =
      (calls.Start (thr 1) ∷ calls.Acquire (obj 2) ∷ calls.LockRecursive (obj 3) ∷ calls.Unlock (obj 3) ∷ calls.TryLockRecursive (obj 3) ∷ calls.Unlock (obj 3) ∷ calls.TryLockRecursive (obj 3) ∷ calls.LockRecursive (obj 3) ∷ calls.Unlock (obj 3) ∷ calls.Unlock (obj 3) ∷ calls.LockRecursive (obj 3) ∷ calls.RequestStop (obj 1) ∷ calls.LockAll (5 ∷ 6 ∷ []) ∷ calls.Unlock (obj 6) ∷ calls.Unlock (obj 5) ∷ calls.LockAll (6 ∷ 5 ∷ []) ∷ calls.Unlock (obj 5) ∷ calls.Unlock (obj 6) ∷ calls.LockAll (5 ∷ 6 ∷ []) ∷ calls.Unlock (obj 6) ∷ calls.Unlock (obj 5) ∷ calls.Join (thr 1) ∷ [])
      ∷ (calls.LockAll (5 ∷ 6 ∷ []) ∷ calls.Unlock (obj 5) ∷ calls.Unlock (obj 6) ∷ calls.Unlock (obj 3) ∷ calls.Unlock (obj 3) ∷ calls.LockAll (6 ∷ 5 ∷ []) ∷ calls.Add (obj 6) 0 (pos 1) ∷ calls.Unlock (obj 5) ∷ calls.Unlock (obj 3) ∷ calls.TryLockRecursive (obj 3) ∷ calls.RequestStop (obj 1) ∷ calls.Unlock (obj 6) ∷ calls.LockAll (5 ∷ 6 ∷ []) ∷ calls.TryLockRecursive (obj 3) ∷ calls.Unlock (obj 3) ∷ calls.Unlock (obj 5) ∷ calls.Unlock (obj 6) ∷ [])
      ∷ [];
}

abbrev pub recorded_flaw_0056 : Recorded
recorded_flaw_0056 = record {
  version = 1;
  lists =
      Some (did (controls.Start (thr 1) true) ∷ said replies.Ok ∷ made 0 2 0 ops.Acquire (pos 0) (pos 0) replies.Ok ∷ said replies.Ok ∷ made 0 3 0 ops.Lock (pos 0) (pos 0) replies.Ok ∷ said replies.Ok ∷ made 0 3 1 ops.Unlock (pos 0) (pos 0) replies.Ok ∷ said replies.Ok ∷ made 0 3 2 ops.TryLock (pos 0) (pos 0) replies.True ∷ said replies.True ∷ made 0 3 3 ops.Unlock (pos 0) (pos 0) replies.Ok ∷ said replies.Ok ∷ made 0 3 4 ops.TryLock (pos 0) (pos 0) replies.True ∷ said replies.True ∷ made 0 3 5 ops.Lock (pos 0) (pos 0) replies.Ok ∷ said replies.Ok ∷ made 0 3 6 ops.Unlock (pos 0) (pos 0) replies.Ok ∷ said replies.Ok ∷ made 0 3 7 ops.Unlock (pos 0) (pos 0) replies.Ok ∷ said replies.Ok ∷ made 0 3 8 ops.Lock (pos 0) (pos 0) replies.Ok ∷ said replies.Ok ∷ said replies.NoState ∷ made 0 5 4 ops.Lock (pos 0) (pos 0) replies.Ok ∷ made 0 6 5 ops.TryLock (pos 0) (pos 0) replies.True ∷ said replies.Ok ∷ made 0 6 6 ops.Unlock (pos 0) (pos 0) replies.Ok ∷ said replies.Ok ∷ made 0 5 5 ops.Unlock (pos 0) (pos 0) replies.Ok ∷ said replies.Ok ∷ made 0 6 7 ops.Lock (pos 0) (pos 0) replies.Ok ∷ made 0 5 6 ops.TryLock (pos 0) (pos 0) replies.True ∷ said replies.Ok ∷ made 0 5 7 ops.Unlock (pos 0) (pos 0) replies.Ok ∷ said replies.Ok ∷ made 0 6 8 ops.Unlock (pos 0) (pos 0) replies.Ok ∷ said replies.Ok ∷ made 0 5 12 ops.Lock (pos 0) (pos 0) replies.Ok ∷ made 0 6 11 ops.TryLock (pos 0) (pos 0) replies.True ∷ said replies.Ok ∷ made 0 6 12 ops.Unlock (pos 0) (pos 0) replies.Ok ∷ said replies.Ok ∷ made 0 5 13 ops.Unlock (pos 0) (pos 0) replies.Ok ∷ said replies.Ok ∷ did (controls.Join (thr 1)) ∷ said replies.Ok ∷ made 0 3 9 ops.Unlock (pos 0) (pos 0) replies.Ok ∷ [])
      ∷ Some (made 1 5 0 ops.Lock (pos 0) (pos 0) replies.Ok ∷ made 1 6 0 ops.TryLock (pos 0) (pos 0) replies.True ∷ said replies.Ok ∷ made 1 5 1 ops.Unlock (pos 0) (pos 0) replies.Ok ∷ said replies.Ok ∷ made 1 6 1 ops.Unlock (pos 0) (pos 0) replies.Ok ∷ said replies.Ok ∷ said replies.OperationNotPermitted ∷ said replies.OperationNotPermitted ∷ made 1 6 2 ops.Lock (pos 0) (pos 0) replies.Ok ∷ made 1 5 2 ops.TryLock (pos 0) (pos 0) replies.True ∷ said replies.Ok ∷ made 1 6 3 ops.Add (pos 0) (pos 1) (replies.Number (pos 1)) ∷ said (replies.Number (pos 1)) ∷ made 1 5 3 ops.Unlock (pos 0) (pos 0) replies.Ok ∷ said replies.Ok ∷ said replies.OperationNotPermitted ∷ seen 1 3 7 ops.TryLock (pos 0) (pos 0) replies.False ∷ said replies.False ∷ said replies.NoState ∷ made 1 6 4 ops.Unlock (pos 0) (pos 0) replies.Ok ∷ said replies.Ok ∷ made 1 5 8 ops.Lock (pos 0) (pos 0) replies.Ok ∷ seen 1 6 6 ops.TryLock (pos 0) (pos 0) replies.False ∷ made 1 5 9 ops.Unlock (pos 0) (pos 0) replies.Ok ∷ made 1 6 9 ops.Lock (pos 0) (pos 0) replies.Ok ∷ made 1 5 10 ops.TryLock (pos 0) (pos 0) replies.True ∷ said replies.Ok ∷ seen 1 3 10 ops.TryLock (pos 0) (pos 0) replies.False ∷ said replies.False ∷ said replies.OperationNotPermitted ∷ made 1 5 11 ops.Unlock (pos 0) (pos 0) replies.Ok ∷ said replies.Ok ∷ made 1 6 10 ops.Unlock (pos 0) (pos 0) replies.Ok ∷ said replies.Ok ∷ [])
      ∷ [];
}

-- a record with the flaw fell
abbrev pub scene_flaw_0063 : Scene
scene_flaw_0063 = record {
  version = 1;
  threads = threads.Plain ∷ threads.Stoppable (obj 0) ∷ [];
  objects = objects.StopOfThread ∷ objects.Condition ∷ objects.Mutex 8 ∷ objects.Semaphore 0 1 ∷ [];
  callbacks = [];
  bodies =
      (calls.Lock (obj 2) ∷ calls.Unlock (obj 2) ∷ calls.NotifyAll (obj 1) ∷ calls.NotifyOne (obj 1) ∷ calls.Start (thr 1) ∷ calls.NotifyOne (obj 1) ∷ [])
      ∷ (calls.TryAcquire (obj 3) ∷ calls.Lock (obj 2) ∷ calls.Release (obj 3) 1 ∷ calls.Unlock (obj 2) ∷ [])
      ∷ [];
}

abbrev pub recorded_flaw_0063 : Recorded
recorded_flaw_0063 = record {
  version = 1;
  lists =
      Some (made 0 2 0 ops.Lock (pos 0) (pos 0) replies.Ok ∷ said replies.Ok ∷ made 0 2 1 ops.Unlock (pos 0) (pos 0) replies.Ok ∷ said replies.Ok ∷ made 0 1 1 ops.NotifyAll (pos 0) (pos 0) (replies.Number (pos 0)) ∷ said (replies.Number (pos 0)) ∷ made 0 1 0 ops.NotifyOne (pos 0) (pos 0) replies.Nobody ∷ said replies.Nobody ∷ did (controls.Start (thr 1) true) ∷ said replies.Ok ∷ made 0 1 2 ops.NotifyOne (pos 0) (pos 0) replies.Nobody ∷ said replies.Nobody ∷ made 0 0 0 ops.Request (pos 0) (pos 0) replies.Ok ∷ seen 0 0 1 ops.Drained (pos 0) (pos 0) replies.Ok ∷ did (controls.Join (thr 1)) ∷ [])
      ∷ Some (seen 1 3 0 ops.TryAcquire (pos 0) (pos 0) replies.False ∷ said replies.False ∷ made 1 2 2 ops.Lock (pos 0) (pos 0) replies.Ok ∷ said replies.Ok ∷ made 1 3 0 ops.Release (pos 1) (pos 0) replies.Ok ∷ said replies.Ok ∷ made 1 2 3 ops.Unlock (pos 0) (pos 0) replies.Ok ∷ said replies.Ok ∷ [])
      ∷ [];
}

-- a record with the flaw fell
abbrev pub scene_flaw_0064 : Scene
scene_flaw_0064 = record {
  version = 1;
  threads = threads.Plain ∷ threads.Plain ∷ threads.Plain ∷ threads.Plain ∷ [];
  objects = objects.Stop (3 ∷ 0 ∷ 1 ∷ []) ∷ objects.Condition ∷ objects.Semaphore 65535 65535 ∷ objects.Barrier 4 None ∷ objects.Mutex 2 ∷ objects.Semaphore 0 2 ∷ objects.Barrier 4 None ∷ [];
  callbacks = callback (obj 0) (actions.Small (smalls.NotifyAll (obj 1))) ∷ callback (obj 0) (actions.Small (smalls.Release (obj 2) 1)) ∷ callback (obj 0) actions.Deregister ∷ callback (obj 0) actions.Deregister ∷ [];
  bodies =
      (calls.Start (thr 2) ∷ calls.Start (thr 1) ∷ calls.Register (cbk 2) ∷ calls.RequestStop (obj 0) ∷ calls.Acquire (obj 5) ∷ calls.Deregister (cbk 2) ∷ calls.Acquire (obj 5) ∷ calls.Unlock (obj 4) ∷ calls.NotifyOne (obj 1) ∷ calls.NotifyOne (obj 1) ∷ calls.WaitBarrier (obj 6) ∷ calls.NotifyAll (obj 1) ∷ calls.Arrive (obj 3) 1 ∷ calls.WaitBarrier (obj 3) ∷ calls.NotifyOne (obj 1) ∷ calls.Register (cbk 3) ∷ calls.Join (thr 2) ∷ calls.Join (thr 1) ∷ [])
      ∷ (calls.StopPossible (obj 0) ∷ calls.Arrive (obj 6) 1 ∷ calls.Lock (obj 4) ∷ calls.Release (obj 5) 1 ∷ calls.WaitCondition (obj 1) (obj 4) ∷ calls.StopPossible (obj 0) ∷ calls.Arrive (obj 3) 1 ∷ calls.Arrive (obj 3) 1 ∷ calls.WaitBarrier (obj 3) ∷ calls.Unlock (obj 4) ∷ calls.RequestStop (obj 0) ∷ [])
      ∷ (calls.Arrive (obj 3) 1 ∷ calls.Register (cbk 0) ∷ calls.Release (obj 5) 1 ∷ calls.WaitCondition (obj 1) (obj 4) ∷ calls.Unlock (obj 4) ∷ [])
      ∷ (calls.Register (cbk 1) ∷ calls.ArriveAndWait (obj 3) ∷ calls.ArriveAndWait (obj 6) ∷ calls.RequestStop (obj 0) ∷ calls.ArriveAndWait (obj 3) ∷ calls.DropSource (obj 0) ∷ calls.RequestStop (obj 0) ∷ calls.Another (obj 0) ∷ [])
      ∷ [];
}

abbrev pub recorded_flaw_0064 : Recorded
recorded_flaw_0064 = record {
  version = 1;
  lists =
      Some (did (controls.Start (thr 2) true) ∷ said replies.Ok ∷ did (controls.Start (thr 1) true) ∷ said replies.Ok ∷ made 0 0 0 ops.Register (pos 2) (pos 0) replies.Ok ∷ said replies.Queued ∷ made 0 0 1 ops.Request (pos 0) (pos 0) replies.Ok ∷ made 0 0 2 ops.Begin (pos 2) (pos 0) replies.Ok ∷ made 0 0 4 ops.Deregister (pos 2) (pos 0) replies.Inside ∷ made 0 0 7 ops.Finish (pos 2) (pos 0) replies.Ok ∷ seen 0 0 7 ops.Drained (pos 0) (pos 0) replies.Ok ∷ said replies.Made ∷ made 0 5 1 ops.Acquire (pos 0) (pos 0) replies.Ok ∷ said replies.Ok ∷ said replies.NotHeld ∷ made 0 5 3 ops.Acquire (pos 0) (pos 0) replies.Ok ∷ said replies.Ok ∷ said replies.OperationNotPermitted ∷ made 0 1 2 ops.NotifyOne (pos 0) (pos 0) (replies.Thread (thr 1)) ∷ said (replies.Thread (thr 1)) ∷ made 0 1 3 ops.NotifyOne (pos 0) (pos 0) replies.Nobody ∷ said replies.Nobody ∷ said replies.NoToken ∷ made 0 1 5 ops.NotifyAll (pos 0) (pos 0) (replies.Number (pos 0)) ∷ said (replies.Number (pos 0)) ∷ made 0 3 3 ops.Arrive (pos 1) (pos 0) (replies.Number (pos 0)) ∷ made 0 3 4 ops.Complete (pos 0) (pos 0) replies.Ok ∷ said (replies.Number (pos 0)) ∷ seen 0 3 5 ops.Wait (pos 0) (pos 0) replies.Ok ∷ said replies.Ok ∷ made 0 1 6 ops.NotifyOne (pos 0) (pos 0) replies.Nobody ∷ said replies.Nobody ∷ made 0 0 6 ops.RegisterNow (pos 15) (pos 0) replies.Ok ∷ made 0 0 8 ops.Finish (pos 15) (pos 0) replies.Ok ∷ said replies.Ran ∷ did (controls.Join (thr 2)) ∷ said replies.Ok ∷ did (controls.Join (thr 1)) ∷ said replies.Ok ∷ [])
      ∷ Some (seen 1 0 0 ops.StopPossible (pos 0) (pos 0) replies.True ∷ said replies.True ∷ made 1 6 0 ops.Arrive (pos 1) (pos 0) (replies.Number (pos 0)) ∷ said (replies.Number (pos 0)) ∷ made 1 4 0 ops.Lock (pos 0) (pos 0) replies.Ok ∷ said replies.Ok ∷ made 1 5 2 ops.Release (pos 1) (pos 0) replies.Ok ∷ said replies.Ok ∷ made 1 1 1 ops.Enter (pos 0) (pos 0) replies.Ok ∷ made 1 4 1 ops.Unlock (pos 0) (pos 0) replies.Ok ∷ made 1 1 4 ops.Unblock (pos 0) (pos 0) replies.Ok ∷ made 1 4 2 ops.Lock (pos 0) (pos 0) replies.Ok ∷ said replies.Ok ∷ seen 1 0 7 ops.StopPossible (pos 0) (pos 0) replies.True ∷ said replies.True ∷ made 1 3 1 ops.Arrive (pos 1) (pos 0) (replies.Number (pos 0)) ∷ said (replies.Number (pos 0)) ∷ made 1 3 2 ops.Arrive (pos 1) (pos 0) (replies.Number (pos 0)) ∷ said (replies.Number (pos 0)) ∷ seen 1 3 5 ops.Wait (pos 0) (pos 0) replies.Ok ∷ said replies.Ok ∷ made 1 4 3 ops.Unlock (pos 0) (pos 0) replies.Ok ∷ said replies.Ok ∷ seen 1 0 7 ops.Already (pos 0) (pos 0) replies.Ok ∷ said replies.Already ∷ [])
      ∷ Some (made 2 3 0 ops.Arrive (pos 1) (pos 0) (replies.Number (pos 0)) ∷ said (replies.Number (pos 0)) ∷ made 2 0 3 ops.RegisterNow (pos 8193) (pos 0) replies.Ok ∷ made 2 1 0 ops.NotifyAll (pos 0) (pos 0) (replies.Number (pos 0)) ∷ made 2 0 5 ops.Finish (pos 8193) (pos 0) replies.Ok ∷ said replies.Ran ∷ made 2 5 0 ops.Release (pos 1) (pos 0) replies.Ok ∷ said replies.Ok ∷ said replies.OperationNotPermitted ∷ said replies.OperationNotPermitted ∷ [])
      ∷ None
      ∷ [];
}

-- a record with the flaw shown
abbrev pub scene_flaw_0065 : Scene
scene_flaw_0065 = record {
  version = 1;
  threads = threads.Plain ∷ threads.Stoppable (obj 0) ∷ threads.Plain ∷ [];
  objects = objects.StopOfThread ∷ objects.Stop (0 ∷ []) ∷ objects.Condition ∷ objects.Mutex 1 ∷ objects.Semaphore 0 2 ∷ [];
  callbacks = [];
  bodies =
      (calls.Release (obj 4) 1 ∷ calls.Release (obj 4) 2 ∷ calls.RequestStop (obj 1) ∷ calls.Start (thr 2) ∷ calls.Lock (obj 3) ∷ calls.WaitStop (obj 2) (obj 3) (obj 1) (record { number = 0; relation = relations.Unequal; value = (pos 1) }) ∷ calls.Unlock (obj 3) ∷ calls.Join (thr 0) ∷ calls.Acquire (obj 4) ∷ calls.Join (thr 2) ∷ [])
      ∷ (calls.TryAcquire (obj 4) ∷ calls.TryAcquire (obj 4) ∷ calls.Lock (obj 3) ∷ calls.Add (obj 3) 0 (pos 2) ∷ calls.NotifyOne (obj 2) ∷ calls.Unlock (obj 3) ∷ calls.Lock (obj 3) ∷ calls.Add (obj 3) 0 (pos 1) ∷ calls.NotifyOne (obj 2) ∷ calls.Unlock (obj 3) ∷ calls.Release (obj 4) 1 ∷ calls.Lock (obj 3) ∷ calls.WaitStop (obj 2) (obj 3) (obj 1) (record { number = 0; relation = relations.Greater; value = (pos 2) }) ∷ calls.Unlock (obj 3) ∷ [])
      ∷ ([])
      ∷ [];
}

abbrev pub recorded_flaw_0065 : Recorded
recorded_flaw_0065 = record {
  version = 1;
  lists =
      Some (made 0 4 0 ops.Release (pos 1) (pos 0) replies.Ok ∷ said replies.Ok ∷ seen 0 4 1 ops.Release (pos 2) (pos 0) replies.Over ∷ said replies.Over ∷ made 0 1 0 ops.Request (pos 0) (pos 0) replies.Ok ∷ seen 0 1 4 ops.Drained (pos 0) (pos 0) replies.Ok ∷ said replies.Made ∷ did (controls.Start (thr 2) true) ∷ said replies.Ok ∷ made 0 3 0 ops.Lock (pos 0) (pos 0) replies.Ok ∷ said replies.Ok ∷ made 0 1 1 ops.RegisterNow (pos 5) (pos 0) replies.Ok ∷ made 0 2 0 ops.NotifyAll (pos 0) (pos 0) (replies.Number (pos 0)) ∷ made 0 1 2 ops.Finish (pos 5) (pos 0) replies.Ok ∷ seen 0 1 3 ops.StopRequested (pos 0) (pos 0) replies.True ∷ seen 0 3 1 ops.Get (pos 0) (pos 0) (replies.Number (pos 0)) ∷ said replies.True ∷ made 0 3 1 ops.Unlock (pos 0) (pos 0) replies.Ok ∷ said replies.Ok ∷ said replies.ResourceDeadlockWouldOccur ∷ made 0 4 1 ops.Acquire (pos 0) (pos 0) replies.Ok ∷ said replies.Ok ∷ did (controls.Join (thr 2)) ∷ said replies.Ok ∷ [])
      ∷ None
      ∷ Some ([])
      ∷ [];
}

-- a record with the flaw text
abbrev pub scene_flaw_0066 : Scene
scene_flaw_0066 = record {
  version = 1;
  threads = threads.Plain ∷ threads.Plain ∷ threads.Stoppable (obj 0) ∷ threads.Plain ∷ [];
  objects = objects.StopOfThread ∷ objects.Shared ∷ objects.Once ∷ objects.SharedPromise (thr 2) (3 ∷ 0 ∷ 2 ∷ 1 ∷ []) ∷ [];
  callbacks = [];
  bodies =
      (calls.Start (thr 3) ∷ calls.Start (thr 2) ∷ calls.Start (thr 1) ∷ calls.CallOnceThrow (obj 2) 7 ∷ calls.CallOnceReturn (obj 2) ∷ calls.GetFuture (obj 3) ∷ calls.Join (thr 0) ∷ calls.Join (thr 2) ∷ calls.Join (thr 1) ∷ calls.Join (thr 3) ∷ [])
      ∷ (calls.Lock (obj 1) ∷ calls.Unlock (obj 1) ∷ calls.CallOnceThrow (obj 2) 7 ∷ [])
      ∷ (calls.LockShared (obj 1) ∷ calls.UnlockShared (obj 1) ∷ calls.TryLockShared (obj 1) ∷ calls.UnlockShared (obj 1) ∷ calls.TryLock (obj 1) ∷ calls.Unlock (obj 1) ∷ calls.CallOnceReturn (obj 2) ∷ calls.DropPromise (obj 3) ∷ calls.CallOnceThrow (obj 2) 0 ∷ calls.Share (obj 3) ∷ [])
      ∷ (calls.WaitFuture (obj 3) ∷ calls.CallOnceReturn (obj 2) ∷ calls.CallOnceThrow (obj 2) 42 ∷ calls.GetOutcome (obj 3) ∷ calls.GetOutcome (obj 3) ∷ calls.GetOutcome (obj 3) ∷ [])
      ∷ [];
}

abbrev pub recorded_flaw_0066 : Recorded
recorded_flaw_0066 = record {
  version = 1;
  lists =
      Some (did (controls.Start (thr 3) true) ∷ said replies.Ok ∷ did (controls.Start (thr 2) true) ∷ said (replies.Outcome (outcomes.Value (pos 0))) ∷ did (controls.Start (thr 1) true) ∷ said replies.Ok ∷ made 0 2 0 ops.Begin (pos 0) (pos 0) replies.Ok ∷ made 0 2 1 ops.Fail (pos 7) (pos 0) replies.Ok ∷ said (replies.Threw 7) ∷ made 0 2 2 ops.Begin (pos 0) (pos 0) replies.Ok ∷ made 0 2 3 ops.Finish (pos 0) (pos 0) replies.Ok ∷ said replies.Returned ∷ said replies.FutureAlreadyRetrieved ∷ said replies.ResourceDeadlockWouldOccur ∷ did (controls.Join (thr 2)) ∷ said replies.Ok ∷ did (controls.Join (thr 1)) ∷ said replies.Ok ∷ did (controls.Join (thr 3)) ∷ said replies.Ok ∷ [])
      ∷ Some (made 1 1 2 ops.Lock (pos 0) (pos 0) replies.Ok ∷ said replies.Ok ∷ made 1 1 3 ops.Unlock (pos 0) (pos 0) replies.Ok ∷ said replies.Ok ∷ seen 1 2 4 ops.Passive (pos 0) (pos 0) replies.Ok ∷ said replies.Passive ∷ [])
      ∷ Some (made 2 1 0 ops.LockShared (pos 0) (pos 0) replies.Ok ∷ said replies.Ok ∷ made 2 1 1 ops.UnlockShared (pos 0) (pos 0) replies.Ok ∷ said replies.Ok ∷ seen 2 1 3 ops.TryLockShared (pos 0) (pos 0) replies.False ∷ said replies.False ∷ said replies.OperationNotPermitted ∷ made 2 1 4 ops.TryLock (pos 0) (pos 0) replies.True ∷ said replies.True ∷ made 2 1 5 ops.Unlock (pos 0) (pos 0) replies.Ok ∷ said replies.Ok ∷ seen 2 2 4 ops.Passive (pos 0) (pos 0) replies.Ok ∷ said replies.Passive ∷ made 2 3 0 ops.Set (pos 2) (pos 0) replies.Ok ∷ said replies.Ok ∷ seen 2 2 4 ops.Passive (pos 0) (pos 0) replies.Ok ∷ said replies.Passive ∷ said replies.NoState ∷ [])
      ∷ Some (seen 3 3 1 ops.Ready (pos 0) (pos 0) (replies.Outcome outcomes.Broken) ∷ said replies.Ok ∷ seen 3 2 4 ops.Passive (pos 0) (pos 0) replies.Ok ∷ said replies.Passive ∷ seen 3 2 4 ops.Passive (pos 0) (pos 0) replies.Ok ∷ said replies.Passive ∷ seen 3 3 1 ops.Ready (pos 0) (pos 0) (replies.Outcome outcomes.Broken) ∷ said (replies.Outcome outcomes.Broken) ∷ seen 3 3 1 ops.Ready (pos 0) (pos 0) (replies.Outcome outcomes.Broken) ∷ said (replies.Outcome outcomes.Broken) ∷ seen 3 3 1 ops.Ready (pos 0) (pos 0) (replies.Outcome outcomes.Broken) ∷ said (replies.Outcome outcomes.Broken) ∷ [])
      ∷ [];
}

-- a record with the flaw step
abbrev pub scene_flaw_0067 : Scene
scene_flaw_0067 = record {
  version = 1;
  threads = threads.Plain ∷ threads.Plain ∷ threads.Plain ∷ [];
  objects = objects.Semaphore 0 2 ∷ objects.Semaphore 1 1 ∷ [];
  callbacks = [];
  bodies =
      (calls.Start (thr 2) ∷ calls.Join (thr 2) ∷ calls.Start (thr 1) ∷ calls.Join (thr 2) ∷ calls.TryAcquire (obj 0) ∷ calls.Join (thr 1) ∷ calls.Join (thr 1) ∷ [])
      ∷ (calls.Release (obj 1) 1 ∷ calls.Release (obj 1) 65535 ∷ [])
      ∷ (calls.Release (obj 0) 1 ∷ calls.Acquire (obj 1) ∷ [])
      ∷ [];
}

abbrev pub recorded_flaw_0067 : Recorded
recorded_flaw_0067 = record {
  version = 1;
  lists =
      Some (did (controls.Start (thr 2) true) ∷ said replies.Ok ∷ did (controls.Join (thr 2)) ∷ said replies.Ok ∷ did (controls.Start (thr 1) true) ∷ said replies.Ok ∷ said replies.InvalidArgument ∷ made 0 0 0 ops.TryAcquire (pos 0) (pos 0) replies.True ∷ said replies.True ∷ did (controls.Join (thr 1)) ∷ said replies.Ok ∷ said replies.InvalidArgument ∷ [])
      ∷ Some (made 1 1 1 ops.Release (pos 1) (pos 0) replies.Ok ∷ said replies.Ok ∷ seen 1 1 2 ops.Release (pos 65535) (pos 0) replies.Over ∷ said replies.Over ∷ [])
      ∷ Some (made 2 0 1 ops.Release (pos 1) (pos 0) replies.Ok ∷ said replies.Ok ∷ made 2 1 0 ops.Acquire (pos 0) (pos 0) replies.Ok ∷ said replies.Ok ∷ [])
      ∷ [];
}

-- a record with the flaw text
abbrev pub scene_flaw_0084 : Scene
scene_flaw_0084 = record {
  version = 1;
  threads = threads.Plain ∷ threads.Stoppable (obj 0) ∷ threads.Plain ∷ [];
  objects = objects.StopOfThread ∷ objects.Semaphore 1 1 ∷ [];
  callbacks = [];
  bodies =
      (calls.Start (thr 1) ∷ calls.Join (thr 1) ∷ calls.Start (thr 2) ∷ calls.Join (thr 2) ∷ [])
      ∷ (calls.Release (obj 1) 0 ∷ calls.RequestStop (obj 0) ∷ [])
      ∷ (calls.Acquire (obj 1) ∷ [])
      ∷ [];
}

abbrev pub recorded_flaw_0084 : Recorded
recorded_flaw_0084 = record {
  version = 1;
  lists =
      Some (did (controls.Start (thr 1) true) ∷ said replies.Ok ∷ did (controls.Join (thr 1)) ∷ said replies.Ok ∷ [])
      ∷ Some (made 1 1 0 ops.Release (pos 0) (pos 0) replies.Ok ∷ said replies.Ok ∷ said replies.NoState ∷ [])
      ∷ Some (made 2 1 1 ops.Acquire (pos 0) (pos 0) replies.Ok ∷ said replies.Ok ∷ [])
      ∷ [];
}
