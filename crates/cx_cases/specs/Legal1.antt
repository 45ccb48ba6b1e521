-- Records that are legal and follow their scenario.
use Rattle.std.specs.Prelude.{pos, negsuc, true, false, [], ◌∷◌, Some, None}
use Rattle.cx_names.specs.declared.Reply.TheVariants as replies
use Rattle.cx_names.specs.declared.Outcome.TheVariants as outcomes
use Rattle.cx_machine.specs.declared.kind.Op.TheVariants as ops
use Rattle.cx_scene.specs.declared.declared.Object.TheVariants as objects
use Rattle.cx_scene.specs.declared.declared.Thread.TheVariants as threads
use Rattle.cx_scene.specs.declared.declared.Function.TheVariants as functions
use Rattle.cx_scene.specs.declared.declared.Small.TheVariants as smalls
use Rattle.cx_scene.specs.declared.declared.Action.TheVariants as actions
use Rattle.cx_scene.specs.declared.call.Call.TheVariants as calls
use Rattle.cx_scene.specs.declared.call.Relation.TheVariants as relations
use Rattle.cx_items.specs.declared.item.Control.TheVariants as controls
use Rattle.cx_scene.specs.Scene.{Scene}
use Rattle.cx_history.specs.Histories.{Recorded}
use Rattle.cx_cases.specs.Short.{obj, thr, cbk, callback, made, seen, did, said}

-- a record without a flaw
abbrev pub scene_check_0004 : Scene
scene_check_0004 = record {
  version = 1;
  threads = threads.Plain ∷ threads.Plain ∷ [];
  objects = objects.Stop ([]) ∷ objects.Condition ∷ objects.Mutex 1 ∷ objects.Recursive ∷ [];
  callbacks = [];
  bodies =
      (calls.LockRecursive (obj 3) ∷ calls.Unlock (obj 3) ∷ calls.Lock (obj 2) ∷ calls.Unlock (obj 2) ∷ [])
      ∷ (calls.DropSource (obj 0) ∷ calls.Lock (obj 2) ∷ calls.Add (obj 2) 0 (pos 2) ∷ calls.NotifyAll (obj 1) ∷ calls.Unlock (obj 2) ∷ calls.Lock (obj 2) ∷ calls.WaitStop (obj 1) (obj 2) (obj 0) (record { number = 0; relation = relations.Equal; value = (pos 1) }) ∷ calls.Unlock (obj 2) ∷ calls.Lock (obj 2) ∷ calls.Add (obj 2) 0 (pos 2) ∷ calls.NotifyOne (obj 1) ∷ calls.Unlock (obj 2) ∷ calls.LockRecursive (obj 3) ∷ calls.Unlock (obj 3) ∷ calls.LockRecursive (obj 3) ∷ calls.LockRecursive (obj 3) ∷ calls.LockRecursive (obj 3) ∷ calls.Unlock (obj 3) ∷ [])
      ∷ [];
}

abbrev pub recorded_check_0004 : Recorded
recorded_check_0004 = record {
  version = 1;
  lists =
      Some (made 0 3 0 ops.Lock (pos 0) (pos 0) replies.Ok ∷ said replies.Ok ∷ made 0 3 1 ops.Unlock (pos 0) (pos 0) replies.Ok ∷ said replies.Ok ∷ made 0 2 0 ops.Lock (pos 0) (pos 0) replies.Ok ∷ said replies.Ok ∷ made 0 2 1 ops.Unlock (pos 0) (pos 0) replies.Ok ∷ said replies.Ok ∷ [])
      ∷ None
      ∷ [];
}

-- a record without a flaw
abbrev pub scene_check_0025 : Scene
scene_check_0025 = record {
  version = 1;
  threads = threads.Plain ∷ threads.Plain ∷ [];
  objects = objects.Stop (0 ∷ []) ∷ objects.Semaphore 0 1 ∷ [];
  callbacks = callback (obj 0) (actions.Small (smalls.Release (obj 1) 0)) ∷ [];
  bodies =
      (calls.Start (thr 1) ∷ calls.Register (cbk 0) ∷ calls.Deregister (cbk 0) ∷ calls.StopRequested (obj 0) ∷ calls.RequestStop (obj 0) ∷ calls.DropSource (obj 0) ∷ calls.Join (thr 1) ∷ [])
      ∷ (calls.RequestStop (obj 0) ∷ calls.TryAcquire (obj 1) ∷ [])
      ∷ [];
}

abbrev pub recorded_check_0025 : Recorded
recorded_check_0025 = record {
  version = 1;
  lists =
      Some (did (controls.Start (thr 1) true) ∷ said replies.Ok ∷ made 0 0 0 ops.Register (pos 1) (pos 0) replies.Ok ∷ said replies.Queued ∷ made 0 0 1 ops.Deregister (pos 1) (pos 0) replies.Removed ∷ said replies.Removed ∷ seen 0 0 2 ops.StopRequested (pos 0) (pos 0) replies.False ∷ said replies.False ∷ made 0 0 2 ops.Request (pos 0) (pos 0) replies.Ok ∷ seen 0 0 3 ops.Drained (pos 0) (pos 0) replies.Ok ∷ said replies.Made ∷ made 0 0 3 ops.Drop (pos 0) (pos 0) replies.Ok ∷ said replies.Ok ∷ did (controls.Join (thr 1)) ∷ said replies.Ok ∷ [])
      ∷ Some (said replies.NoState ∷ seen 1 1 0 ops.TryAcquire (pos 0) (pos 0) replies.False ∷ said replies.False ∷ [])
      ∷ [];
}

-- a record without a flaw
abbrev pub scene_check_0042 : Scene
scene_check_0042 = record {
  version = 1;
  threads = threads.Plain ∷ threads.Stoppable (obj 0) ∷ [];
  objects = objects.StopOfThread ∷ objects.Latch 5 ∷ objects.Condition ∷ objects.Barrier 2 (Some (smalls.NotifyAll (obj 2))) ∷ [];
  callbacks = [];
  bodies =
      (calls.Start (thr 1) ∷ calls.TryWait (obj 1) ∷ calls.Arrive (obj 3) 1 ∷ calls.CountDown (obj 1) 4 ∷ [])
      ∷ (calls.TryWait (obj 1) ∷ calls.ArriveAndWaitLatch (obj 1) ∷ calls.WaitBarrier (obj 3) ∷ calls.TryWait (obj 1) ∷ [])
      ∷ [];
}

abbrev pub recorded_check_0042 : Recorded
recorded_check_0042 = record {
  version = 1;
  lists =
      Some (did (controls.Start (thr 1) true) ∷ said replies.Ok ∷ seen 0 1 0 ops.TryWait (pos 0) (pos 0) replies.False ∷ said replies.False ∷ made 0 3 0 ops.Arrive (pos 1) (pos 0) (replies.Number (pos 0)) ∷ said (replies.Number (pos 0)) ∷ made 0 1 0 ops.CountDown (pos 4) (pos 0) replies.Ok ∷ said replies.Ok ∷ made 0 0 0 ops.Request (pos 0) (pos 0) replies.Ok ∷ seen 0 0 1 ops.Drained (pos 0) (pos 0) replies.Ok ∷ did (controls.Join (thr 1)) ∷ [])
      ∷ Some (seen 1 1 1 ops.TryWait (pos 0) (pos 0) replies.False ∷ said replies.False ∷ made 1 1 1 ops.CountDown (pos 1) (pos 0) replies.Ok ∷ seen 1 1 2 ops.Wait (pos 0) (pos 0) replies.Ok ∷ said replies.Ok ∷ said replies.NoToken ∷ seen 1 1 2 ops.TryWait (pos 0) (pos 0) replies.True ∷ said replies.True ∷ [])
      ∷ [];
}

-- a record without a flaw
abbrev pub scene_check_0046 : Scene
scene_check_0046 = record {
  version = 1;
  threads = threads.Plain ∷ threads.Stoppable (obj 0) ∷ [];
  objects = objects.StopOfThread ∷ objects.Semaphore 1 2 ∷ [];
  callbacks = [];
  bodies =
      (calls.Start (thr 1) ∷ calls.Acquire (obj 1) ∷ calls.Release (obj 1) 2 ∷ calls.Join (thr 1) ∷ [])
      ∷ (calls.TryAcquire (obj 1) ∷ calls.Release (obj 1) 2 ∷ [])
      ∷ [];
}

abbrev pub recorded_check_0046 : Recorded
recorded_check_0046 = record {
  version = 1;
  lists =
      Some (did (controls.Start (thr 1) true) ∷ said replies.Ok ∷ made 0 1 0 ops.Acquire (pos 0) (pos 0) replies.Ok ∷ said replies.Ok ∷ made 0 1 1 ops.Release (pos 2) (pos 0) replies.Ok ∷ said replies.Ok ∷ did (controls.Join (thr 1)) ∷ said replies.Ok ∷ [])
      ∷ Some (made 1 1 2 ops.TryAcquire (pos 0) (pos 0) replies.True ∷ said replies.True ∷ seen 1 1 3 ops.Release (pos 2) (pos 0) replies.Over ∷ said replies.Over ∷ [])
      ∷ [];
}

-- a record without a flaw
abbrev pub scene_check_0057 : Scene
scene_check_0057 = record {
  version = 1;
  threads = threads.Plain ∷ threads.Plain ∷ [];
  objects = objects.Task (thr 1) (thr 0) (functions.Return (pos 2)) ∷ objects.Semaphore 1 1 ∷ objects.Semaphore 0 1 ∷ [];
  callbacks = [];
  bodies =
      (calls.Release (obj 2) 1 ∷ calls.Start (thr 1) ∷ calls.Join (thr 1) ∷ calls.GetFuture (obj 0) ∷ calls.Share (obj 0) ∷ calls.GetFuture (obj 0) ∷ calls.Release (obj 1) 1 ∷ calls.Acquire (obj 2) ∷ [])
      ∷ (calls.DropPromise (obj 0) ∷ calls.Acquire (obj 1) ∷ calls.Release (obj 2) 1 ∷ calls.DropPromise (obj 0) ∷ [])
      ∷ [];
}

abbrev pub recorded_check_0057 : Recorded
recorded_check_0057 = record {
  version = 1;
  lists =
      Some (made 0 2 0 ops.Release (pos 1) (pos 0) replies.Ok ∷ said replies.Ok ∷ did (controls.Start (thr 1) true) ∷ said replies.Ok ∷ did (controls.Join (thr 1)) ∷ said replies.Ok ∷ said replies.Ok ∷ said replies.Ok ∷ said replies.FutureAlreadyRetrieved ∷ made 0 1 1 ops.Release (pos 1) (pos 0) replies.Ok ∷ said replies.Ok ∷ made 0 2 1 ops.Acquire (pos 0) (pos 0) replies.Ok ∷ said replies.Ok ∷ [])
      ∷ Some (made 1 0 0 ops.Set (pos 2) (pos 0) replies.Ok ∷ said replies.Ok ∷ made 1 1 0 ops.Acquire (pos 0) (pos 0) replies.Ok ∷ said replies.Ok ∷ seen 1 2 1 ops.Release (pos 1) (pos 0) replies.Over ∷ said replies.Over ∷ said replies.NoState ∷ [])
      ∷ [];
}

-- a record without a flaw
abbrev pub scene_check_0062 : Scene
scene_check_0062 = record {
  version = 1;
  threads = threads.Plain ∷ threads.Plain ∷ [];
  objects = objects.Shared ∷ [];
  callbacks = [];
  bodies =
      (calls.Start (thr 1) ∷ calls.TryLockShared (obj 0) ∷ calls.LockShared (obj 0) ∷ calls.TryLock (obj 0) ∷ calls.Lock (obj 0) ∷ calls.Unlock (obj 0) ∷ calls.LockShared (obj 0) ∷ calls.UnlockShared (obj 0) ∷ calls.UnlockShared (obj 0) ∷ calls.Join (thr 1) ∷ [])
      ∷ ([])
      ∷ [];
}

abbrev pub recorded_check_0062 : Recorded
recorded_check_0062 = record {
  version = 1;
  lists =
      Some (did (controls.Start (thr 1) true) ∷ said replies.Ok ∷ made 0 0 0 ops.TryLockShared (pos 0) (pos 0) replies.True ∷ said replies.True ∷ said replies.ResourceDeadlockWouldOccur ∷ said replies.ResourceDeadlockWouldOccur ∷ said replies.ResourceDeadlockWouldOccur ∷ said replies.OperationNotPermitted ∷ said replies.ResourceDeadlockWouldOccur ∷ made 0 0 1 ops.UnlockShared (pos 0) (pos 0) replies.Ok ∷ said replies.Ok ∷ said replies.OperationNotPermitted ∷ did (controls.Join (thr 1)) ∷ said replies.Ok ∷ [])
      ∷ Some ([])
      ∷ [];
}

-- a record without a flaw
abbrev pub scene_check_0070 : Scene
scene_check_0070 = record {
  version = 1;
  threads = threads.Plain ∷ threads.Plain ∷ threads.Stoppable (obj 0) ∷ threads.Plain ∷ [];
  objects = objects.StopOfThread ∷ objects.Condition ∷ objects.Mutex 2 ∷ objects.Barrier 2 None ∷ [];
  callbacks = [];
  bodies =
      (calls.Start (thr 3) ∷ calls.Lock (obj 2) ∷ calls.Start (thr 2) ∷ calls.WaitPredicate (obj 1) (obj 2) (record { number = 1; relation = relations.AtMost; value = (pos 1) }) ∷ calls.Set (obj 2) 1 (negsuc 0) ∷ calls.Unlock (obj 2) ∷ calls.Join (thr 3) ∷ [])
      ∷ (calls.ArriveAndWait (obj 3) ∷ calls.Arrive (obj 3) 1 ∷ calls.WaitBarrier (obj 3) ∷ calls.WaitBarrier (obj 3) ∷ calls.Lock (obj 2) ∷ calls.WaitPredicate (obj 1) (obj 2) (record { number = 1; relation = relations.AtLeast; value = (pos 0) }) ∷ calls.Unlock (obj 2) ∷ [])
      ∷ (calls.ArriveAndDrop (obj 3) ∷ calls.Lock (obj 2) ∷ calls.Set (obj 2) 1 (pos 1) ∷ calls.ArriveAndWait (obj 3) ∷ calls.NotifyOne (obj 1) ∷ calls.Unlock (obj 2) ∷ [])
      ∷ (calls.NotifyOne (obj 1) ∷ calls.Add (obj 2) 0 (pos 0) ∷ [])
      ∷ [];
}

abbrev pub recorded_check_0070 : Recorded
recorded_check_0070 = record {
  version = 1;
  lists =
      Some (did (controls.Start (thr 3) true) ∷ said replies.Ok ∷ made 0 2 0 ops.Lock (pos 0) (pos 0) replies.Ok ∷ said replies.Ok ∷ did (controls.Start (thr 2) false) ∷ said replies.NoThread ∷ seen 0 2 1 ops.Get (pos 1) (pos 0) (replies.Number (pos 0)) ∷ said replies.True ∷ made 0 2 1 ops.Set (pos 1) (negsuc 0) replies.Ok ∷ said replies.Ok ∷ made 0 2 2 ops.Unlock (pos 0) (pos 0) replies.Ok ∷ said replies.Ok ∷ did (controls.Join (thr 3)) ∷ said replies.Ok ∷ [])
      ∷ None
      ∷ None
      ∷ Some (made 3 1 0 ops.NotifyOne (pos 0) (pos 0) replies.Nobody ∷ said replies.Nobody ∷ said replies.OperationNotPermitted ∷ [])
      ∷ [];
}

-- a record without a flaw
abbrev pub scene_check_0078 : Scene
scene_check_0078 = record {
  version = 1;
  threads = threads.Plain ∷ threads.Plain ∷ threads.Plain ∷ [];
  objects = objects.Latch 0 ∷ objects.SharedPromise (thr 1) (0 ∷ 1 ∷ 2 ∷ []) ∷ [];
  callbacks = [];
  bodies =
      (calls.Start (thr 2) ∷ calls.Start (thr 1) ∷ calls.GetOutcome (obj 1) ∷ calls.GetOutcome (obj 1) ∷ calls.Join (thr 2) ∷ calls.Join (thr 2) ∷ calls.Join (thr 1) ∷ [])
      ∷ (calls.SetException (obj 1) 42 ∷ calls.TryWait (obj 0) ∷ [])
      ∷ (calls.WaitLatch (obj 0) ∷ calls.WaitLatch (obj 0) ∷ [])
      ∷ [];
}

abbrev pub recorded_check_0078 : Recorded
recorded_check_0078 = record {
  version = 1;
  lists =
      Some (did (controls.Start (thr 2) false) ∷ said replies.NoThread ∷ did (controls.Start (thr 1) true) ∷ said replies.Ok ∷ seen 0 1 1 ops.Ready (pos 0) (pos 0) (replies.Outcome (outcomes.Exception 42)) ∷ said (replies.Outcome (outcomes.Exception 42)) ∷ seen 0 1 1 ops.Ready (pos 0) (pos 0) (replies.Outcome (outcomes.Exception 42)) ∷ said (replies.Outcome (outcomes.Exception 42)) ∷ said replies.InvalidArgument ∷ said replies.InvalidArgument ∷ did (controls.Join (thr 1)) ∷ said replies.Ok ∷ [])
      ∷ Some (made 1 1 0 ops.Set (pos 1) (pos 42) replies.Ok ∷ said replies.Ok ∷ seen 1 0 0 ops.TryWait (pos 0) (pos 0) replies.True ∷ said replies.True ∷ [])
      ∷ None
      ∷ [];
}

-- a record without a flaw
abbrev pub scene_check_0085 : Scene
scene_check_0085 = record {
  version = 1;
  threads = threads.Plain ∷ threads.Plain ∷ threads.Stoppable (obj 0) ∷ threads.Plain ∷ threads.Plain ∷ threads.Stoppable (obj 1) ∷ threads.Stoppable (obj 2) ∷ threads.Stoppable (obj 3) ∷ threads.Plain ∷ threads.Plain ∷ [];
  objects = objects.StopOfThread ∷ objects.StopOfThread ∷ objects.StopOfThread ∷ objects.StopOfThread ∷ objects.Semaphore 1 65535 ∷ objects.Stop (3 ∷ []) ∷ [];
  callbacks = [];
  bodies =
      (calls.Join (thr 0) ∷ calls.Start (thr 9) ∷ calls.Start (thr 8) ∷ calls.Start (thr 6) ∷ calls.Start (thr 5) ∷ calls.Start (thr 3) ∷ calls.Start (thr 2) ∷ calls.Start (thr 4) ∷ calls.Start (thr 7) ∷ calls.Join (thr 0) ∷ calls.Join (thr 8) ∷ calls.Join (thr 4) ∷ calls.Join (thr 7) ∷ calls.Join (thr 9) ∷ calls.Join (thr 3) ∷ calls.Join (thr 6) ∷ [])
      ∷ (calls.StopPossible (obj 5) ∷ [])
      ∷ ([])
      ∷ (calls.RequestStop (obj 2) ∷ calls.Another (obj 5) ∷ calls.RequestStop (obj 5) ∷ calls.RequestStop (obj 5) ∷ calls.Acquire (obj 4) ∷ [])
      ∷ ([])
      ∷ ([])
      ∷ (calls.Release (obj 4) 1 ∷ [])
      ∷ ([])
      ∷ (calls.RequestStop (obj 5) ∷ [])
      ∷ ([])
      ∷ [];
}

abbrev pub recorded_check_0085 : Recorded
recorded_check_0085 = record {
  version = 1;
  lists =
      Some (said replies.ResourceDeadlockWouldOccur ∷ did (controls.Start (thr 9) true) ∷ said replies.Ok ∷ did (controls.Start (thr 8) true) ∷ said replies.Ok ∷ did (controls.Start (thr 6) true) ∷ said replies.Ok ∷ did (controls.Start (thr 5) true) ∷ said replies.Ok ∷ did (controls.Start (thr 3) true) ∷ said replies.Ok ∷ did (controls.Start (thr 2) true) ∷ said replies.Ok ∷ did (controls.Start (thr 4) true) ∷ said replies.Ok ∷ did (controls.Start (thr 7) true) ∷ said replies.Ok ∷ said replies.ResourceDeadlockWouldOccur ∷ did (controls.Join (thr 8)) ∷ said replies.Ok ∷ did (controls.Join (thr 4)) ∷ said replies.Ok ∷ did (controls.Join (thr 7)) ∷ said replies.Ok ∷ did (controls.Join (thr 9)) ∷ said replies.Ok ∷ did (controls.Join (thr 3)) ∷ said replies.Ok ∷ did (controls.Join (thr 6)) ∷ said replies.Ok ∷ made 0 1 0 ops.Request (pos 0) (pos 0) replies.Ok ∷ seen 0 1 1 ops.Drained (pos 0) (pos 0) replies.Ok ∷ did (controls.Join (thr 5)) ∷ made 0 0 0 ops.Request (pos 0) (pos 0) replies.Ok ∷ seen 0 0 1 ops.Drained (pos 0) (pos 0) replies.Ok ∷ did (controls.Join (thr 2)) ∷ [])
      ∷ None
      ∷ Some ([])
      ∷ Some (said replies.NoState ∷ made 3 5 0 ops.Another (pos 0) (pos 0) replies.Ok ∷ said replies.Ok ∷ made 3 5 1 ops.Request (pos 0) (pos 0) replies.Ok ∷ seen 3 5 2 ops.Drained (pos 0) (pos 0) replies.Ok ∷ said replies.Made ∷ seen 3 5 2 ops.Already (pos 0) (pos 0) replies.Ok ∷ said replies.Already ∷ made 3 4 1 ops.Acquire (pos 0) (pos 0) replies.Ok ∷ said replies.Ok ∷ [])
      ∷ Some ([])
      ∷ Some ([])
      ∷ Some (made 6 4 0 ops.Release (pos 1) (pos 0) replies.Ok ∷ said replies.Ok ∷ [])
      ∷ Some ([])
      ∷ Some (said replies.NoState ∷ [])
      ∷ Some ([])
      ∷ [];
}

-- a record without a flaw
abbrev pub scene_check_0090 : Scene
scene_check_0090 = record {
  version = 1;
  threads = threads.Plain ∷ threads.Plain ∷ [];
  objects = objects.Latch 0 ∷ objects.Mutex 2 ∷ [];
  callbacks = [];
  bodies =
      (calls.Start (thr 1) ∷ calls.TryWait (obj 0) ∷ calls.Join (thr 0) ∷ calls.Get (obj 1) 0 ∷ calls.Join (thr 1) ∷ [])
      ∷ (calls.TryWait (obj 0) ∷ calls.TryWait (obj 0) ∷ calls.Lock (obj 1) ∷ calls.Unlock (obj 1) ∷ calls.Lock (obj 1) ∷ calls.Add (obj 1) 0 (pos 1) ∷ calls.Get (obj 1) 0 ∷ calls.Unlock (obj 1) ∷ [])
      ∷ [];
}

abbrev pub recorded_check_0090 : Recorded
recorded_check_0090 = record {
  version = 1;
  lists =
      Some (did (controls.Start (thr 1) false) ∷ said replies.NoThread ∷ seen 0 0 0 ops.TryWait (pos 0) (pos 0) replies.True ∷ said replies.True ∷ said replies.ResourceDeadlockWouldOccur ∷ said replies.OperationNotPermitted ∷ said replies.InvalidArgument ∷ [])
      ∷ None
      ∷ [];
}
