-- Records, each with its first flaw.
use Rattle.std.specs.Prelude.{pos, negsuc, true, [], ◌∷◌, Some, None}
use Rattle.cx_names.specs.declared.Reply.TheVariants as replies
use Rattle.cx_names.specs.declared.Outcome.TheVariants as outcomes
use Rattle.cx_machine.specs.declared.kind.Op.TheVariants as ops
use Rattle.cx_scene.specs.declared.declared.Object.TheVariants as objects
use Rattle.cx_scene.specs.declared.declared.Thread.TheVariants as threads
use Rattle.cx_scene.specs.declared.declared.Function.TheVariants as functions
use Rattle.cx_scene.specs.declared.declared.Policy.TheVariants as policies
use Rattle.cx_scene.specs.declared.declared.Small.TheVariants as smalls
use Rattle.cx_scene.specs.declared.declared.Action.TheVariants as actions
use Rattle.cx_scene.specs.declared.call.Call.TheVariants as calls
use Rattle.cx_items.specs.declared.item.Control.TheVariants as controls
use Rattle.cx_scene.specs.Scene.{Scene}
use Rattle.cx_history.specs.Histories.{Recorded}
use Rattle.cx_cases.specs.Short.{obj, thr, cbk, callback, made, seen, did, said}

-- a record with the flaw step
abbrev pub scene_flaw_0087 : Scene
scene_flaw_0087 = record {
  version = 1;
  threads = threads.Plain ∷ threads.Plain ∷ [];
  objects = objects.Mutex 3 ∷ objects.Semaphore 2 65535 ∷ objects.Barrier 3 (Some (smalls.Release (obj 1) 1)) ∷ objects.Shared ∷ objects.Shared ∷ [];
  callbacks = [];
  bodies =
      (calls.Start (thr 1) ∷ calls.WaitBarrier (obj 2) ∷ calls.Lock (obj 4) ∷ calls.TryLockShared (obj 4) ∷ calls.UnlockShared (obj 4) ∷ calls.Lock (obj 0) ∷ calls.Get (obj 0) 0 ∷ calls.Get (obj 0) 2 ∷ calls.LockShared (obj 4) ∷ calls.UnlockShared (obj 4) ∷ calls.Add (obj 0) 2 (pos 1) ∷ calls.Unlock (obj 0) ∷ calls.TryLock (obj 3) ∷ calls.Lock (obj 0) ∷ calls.Add (obj 0) 0 (pos 1) ∷ calls.Add (obj 0) 0 (pos 1) ∷ calls.Add (obj 0) 0 (pos 1) ∷ calls.Unlock (obj 0) ∷ calls.Join (thr 1) ∷ [])
      ∷ (calls.TryLockShared (obj 3) ∷ calls.UnlockShared (obj 3) ∷ calls.Lock (obj 0) ∷ calls.Add (obj 0) 0 (negsuc 9223372036854775806) ∷ calls.Unlock (obj 0) ∷ calls.Unlock (obj 3) ∷ calls.TryLock (obj 0) ∷ calls.Add (obj 0) 2 (pos 1) ∷ calls.Set (obj 0) 1 (negsuc 1) ∷ calls.Unlock (obj 0) ∷ calls.Lock (obj 0) ∷ calls.Set (obj 0) 0 (pos 1) ∷ [])
      ∷ [];
}

abbrev pub recorded_flaw_0087 : Recorded
recorded_flaw_0087 = record {
  version = 1;
  lists =
      Some (did (controls.Start (thr 1) true) ∷ said replies.Ok ∷ said replies.NoToken ∷ made 0 4 0 ops.Lock (pos 0) (pos 0) replies.Ok ∷ said replies.Ok ∷ said replies.ResourceDeadlockWouldOccur ∷ said replies.OperationNotPermitted ∷ made 0 0 0 ops.Lock (pos 0) (pos 0) replies.Ok ∷ said replies.Ok ∷ seen 0 0 1 ops.Get (pos 0) (pos 0) (replies.Number (pos 0)) ∷ said (replies.Number (pos 0)) ∷ seen 0 0 1 ops.Get (pos 2) (pos 0) (replies.Number (pos 0)) ∷ said (replies.Number (pos 0)) ∷ said replies.ResourceDeadlockWouldOccur ∷ said replies.OperationNotPermitted ∷ made 0 0 1 ops.Add (pos 2) (pos 1) (replies.Number (pos 1)) ∷ said (replies.Number (pos 1)) ∷ made 0 0 2 ops.Unlock (pos 0) (pos 0) replies.Ok ∷ said replies.Ok ∷ seen 0 3 1 ops.TryLock (pos 0) (pos 0) replies.False ∷ said replies.False ∷ made 0 0 3 ops.Lock (pos 0) (pos 0) replies.Ok ∷ said replies.Ok ∷ made 0 0 5 ops.Add (pos 0) (pos 1) (replies.Number (pos 1)) ∷ said (replies.Number (pos 1)) ∷ made 0 0 4 ops.Add (pos 0) (pos 1) (replies.Number (pos 2)) ∷ said (replies.Number (pos 2)) ∷ made 0 0 6 ops.Add (pos 0) (pos 1) (replies.Number (pos 3)) ∷ said (replies.Number (pos 3)) ∷ made 0 0 7 ops.Unlock (pos 0) (pos 0) replies.Ok ∷ said replies.Ok ∷ did (controls.Join (thr 1)) ∷ said replies.Ok ∷ made 0 4 1 ops.Unlock (pos 0) (pos 0) replies.Ok ∷ [])
      ∷ Some (made 1 3 1 ops.TryLockShared (pos 0) (pos 0) replies.True ∷ said replies.True ∷ made 1 3 0 ops.UnlockShared (pos 0) (pos 0) replies.Ok ∷ said replies.Ok ∷ made 1 0 8 ops.Lock (pos 0) (pos 0) replies.Ok ∷ said replies.Ok ∷ made 1 0 9 ops.Add (pos 0) (negsuc 9223372036854775806) (replies.Number (negsuc 9223372036854775803)) ∷ said (replies.Number (negsuc 9223372036854775803)) ∷ made 1 0 10 ops.Unlock (pos 0) (pos 0) replies.Ok ∷ said replies.Ok ∷ said replies.OperationNotPermitted ∷ made 1 0 11 ops.TryLock (pos 0) (pos 0) replies.True ∷ said replies.True ∷ made 1 0 12 ops.Add (pos 2) (pos 1) (replies.Number (pos 2)) ∷ said (replies.Number (pos 2)) ∷ made 1 0 13 ops.Set (pos 1) (negsuc 1) replies.Ok ∷ said replies.Ok ∷ made 1 0 14 ops.Unlock (pos 0) (pos 0) replies.Ok ∷ said replies.Ok ∷ made 1 0 15 ops.Lock (pos 0) (pos 0) replies.Ok ∷ said replies.Ok ∷ made 1 0 16 ops.Set (pos 0) (pos 1) replies.Ok ∷ said replies.Ok ∷ made 1 0 17 ops.Unlock (pos 0) (pos 0) replies.Ok ∷ [])
      ∷ [];
}

-- a record with the flaw step
abbrev pub scene_flaw_0097 : Scene
scene_flaw_0097 = record {
  version = 1;
  threads = threads.Plain ∷ threads.Plain ∷ threads.Plain ∷ threads.Plain ∷ threads.Plain ∷ [];
  objects = objects.Condition ∷ objects.Mutex 3 ∷ objects.Semaphore 0 1 ∷ [];
  callbacks = [];
  bodies =
      (calls.Start (thr 2) ∷ calls.Start (thr 4) ∷ calls.Start (thr 3) ∷ calls.Start (thr 1) ∷ calls.Join (thr 2) ∷ calls.Join (thr 1) ∷ calls.Join (thr 4) ∷ calls.Join (thr 3) ∷ [])
      ∷ ([])
      ∷ (calls.Acquire (obj 2) ∷ calls.Lock (obj 1) ∷ calls.Unlock (obj 1) ∷ calls.NotifyAll (obj 0) ∷ [])
      ∷ ([])
      ∷ (calls.Lock (obj 1) ∷ calls.Release (obj 2) 1 ∷ calls.WaitCondition (obj 0) (obj 1) ∷ calls.Unlock (obj 1) ∷ [])
      ∷ [];
}

abbrev pub recorded_flaw_0097 : Recorded
recorded_flaw_0097 = record {
  version = 1;
  lists =
      Some (did (controls.Start (thr 2) true) ∷ said replies.Ok ∷ did (controls.Start (thr 4) true) ∷ said replies.Ok ∷ did (controls.Start (thr 3) true) ∷ said replies.Ok ∷ did (controls.Start (thr 1) true) ∷ said replies.Ok ∷ did (controls.Join (thr 2)) ∷ said replies.Ok ∷ did (controls.Join (thr 1)) ∷ said replies.Ok ∷ did (controls.Join (thr 4)) ∷ said replies.Ok ∷ did (controls.Join (thr 3)) ∷ said replies.Ok ∷ [])
      ∷ Some ([])
      ∷ Some (made 2 2 1 ops.Acquire (pos 0) (pos 0) replies.Ok ∷ said replies.Ok ∷ made 2 1 1 ops.Lock (pos 0) (pos 0) replies.Ok ∷ said replies.Ok ∷ made 2 1 3 ops.Unlock (pos 0) (pos 0) replies.Ok ∷ said replies.Ok ∷ made 2 0 1 ops.NotifyAll (pos 0) (pos 0) (replies.Number (pos 1)) ∷ said (replies.Number (pos 1)) ∷ [])
      ∷ Some ([])
      ∷ Some (made 4 1 0 ops.Lock (pos 0) (pos 0) replies.Ok ∷ said replies.Ok ∷ made 4 2 0 ops.Release (pos 1) (pos 0) replies.Ok ∷ said replies.Ok ∷ made 4 0 0 ops.Enter (pos 0) (pos 0) replies.Ok ∷ made 4 1 2 ops.Unlock (pos 0) (pos 0) replies.Ok ∷ made 4 0 2 ops.Unblock (pos 0) (pos 0) replies.Ok ∷ made 4 1 4 ops.Lock (pos 0) (pos 0) replies.Ok ∷ said replies.Ok ∷ made 4 1 5 ops.Unlock (pos 0) (pos 0) replies.Ok ∷ said replies.Ok ∷ [])
      ∷ [];
}

-- a record with the flaw step
abbrev pub scene_flaw_0098 : Scene
scene_flaw_0098 = record {
  version = 1;
  threads = threads.Plain ∷ threads.Stoppable (obj 0) ∷ [];
  objects = objects.StopOfThread ∷ objects.Once ∷ [];
  callbacks = [];
  bodies =
      (calls.Join (thr 0) ∷ calls.CallOnceThrow (obj 1) 4294967295 ∷ calls.CallOnceReturn (obj 1) ∷ calls.RequestStop (obj 0) ∷ [])
      ∷ (calls.StopRequested (obj 0) ∷ calls.CallOnceReturn (obj 1) ∷ calls.CallOnceReturn (obj 1) ∷ [])
      ∷ [];
}

abbrev pub recorded_flaw_0098 : Recorded
recorded_flaw_0098 = record {
  version = 1;
  lists =
      Some (said replies.ResourceDeadlockWouldOccur ∷ made 0 1 0 ops.Begin (pos 0) (pos 0) replies.Ok ∷ made 0 1 2 ops.Fail (pos 4294967295) (pos 0) replies.Ok ∷ said (replies.Threw 4294967295) ∷ made 0 1 1 ops.Begin (pos 0) (pos 0) replies.Ok ∷ made 0 1 3 ops.Finish (pos 0) (pos 0) replies.Ok ∷ said replies.Returned ∷ made 0 0 0 ops.Request (pos 0) (pos 0) replies.Ok ∷ seen 0 0 1 ops.Drained (pos 0) (pos 0) replies.Ok ∷ said replies.Made ∷ [])
      ∷ None
      ∷ [];
}

-- a record with the flaw text
abbrev pub scene_flaw_0099 : Scene
scene_flaw_0099 = record {
  version = 1;
  threads = threads.Plain ∷ threads.Stoppable (obj 0) ∷ threads.Plain ∷ [];
  objects = objects.StopOfThread ∷ objects.Mutex 1 ∷ objects.Mutex 3 ∷ objects.Condition ∷ objects.Semaphore 0 1 ∷ [];
  callbacks = [];
  bodies =
      (calls.LockAll (2 ∷ 1 ∷ []) ∷ calls.Add (obj 1) 0 (pos 1) ∷ calls.Unlock (obj 2) ∷ calls.Unlock (obj 1) ∷ calls.NotifyAll (obj 3) ∷ calls.Start (thr 1) ∷ calls.Start (thr 2) ∷ calls.Acquire (obj 4) ∷ calls.Lock (obj 2) ∷ calls.Unlock (obj 2) ∷ calls.Lock (obj 2) ∷ calls.Set (obj 2) 2 (pos 0) ∷ calls.NotifyOne (obj 3) ∷ calls.Unlock (obj 2) ∷ calls.Lock (obj 2) ∷ calls.Add (obj 2) 2 (pos 1) ∷ calls.NotifyOne (obj 3) ∷ calls.Unlock (obj 2) ∷ calls.Lock (obj 2) ∷ calls.Set (obj 2) 2 (pos 3) ∷ calls.NotifyOne (obj 3) ∷ calls.Unlock (obj 2) ∷ calls.Join (thr 2) ∷ [])
      ∷ (calls.TryLockAll (2 ∷ 1 ∷ []) ∷ calls.Lock (obj 2) ∷ calls.Lock (obj 2) ∷ calls.Release (obj 4) 1 ∷ calls.Unlock (obj 2) ∷ calls.Unlock (obj 1) ∷ calls.Unlock (obj 2) ∷ calls.Set (obj 2) 2 (negsuc 0) ∷ calls.NotifyOne (obj 3) ∷ calls.Unlock (obj 2) ∷ calls.Unlock (obj 2) ∷ [])
      ∷ ([])
      ∷ [];
}

abbrev pub recorded_flaw_0099 : Recorded
recorded_flaw_0099 = record {
  version = 1;
  lists =
      Some (made 0 2 0 ops.Lock (pos 0) (pos 0) replies.Ok ∷ made 0 1 0 ops.TryLock (pos 0) (pos 0) replies.True ∷ said replies.Ok ∷ made 0 1 1 ops.Add (pos 0) (pos 1) (replies.Number (pos 1)) ∷ said (replies.Number (pos 1)) ∷ made 0 2 1 ops.Unlock (pos 0) (pos 0) replies.Ok ∷ said replies.Ok ∷ made 0 1 2 ops.Unlock (pos 0) (pos 0) replies.Ok ∷ said replies.Ok ∷ made 0 3 0 ops.NotifyAll (pos 0) (pos 0) (replies.Number (pos 0)) ∷ said (replies.Number (pos 0)) ∷ did (controls.Start (thr 1) true) ∷ said replies.Ok ∷ did (controls.Start (thr 2) true) ∷ said replies.Ok ∷ made 0 4 0 ops.Acquire (pos 0) (pos 0) replies.Ok ∷ said replies.Ok ∷ made 0 2 4 ops.Lock (pos 0) (pos 0) replies.Ok ∷ said replies.Ok ∷ made 0 2 5 ops.Unlock (pos 0) (pos 0) replies.Ok ∷ said replies.Ok ∷ made 0 2 6 ops.Lock (pos 0) (pos 0) replies.Ok ∷ said replies.Ok ∷ made 0 2 7 ops.Set (pos 2) (pos 0) replies.Ok ∷ said replies.Ok ∷ made 0 3 2 ops.Enter (pos 0) (pos 0) replies.Ok ∷ said replies.Nobody ∷ made 0 2 8 ops.Unlock (pos 0) (pos 0) replies.Ok ∷ said replies.Ok ∷ made 0 2 9 ops.Lock (pos 0) (pos 0) replies.Ok ∷ said replies.Ok ∷ made 0 2 10 ops.Add (pos 2) (pos 1) (replies.Number (pos 1)) ∷ said (replies.Number (pos 1)) ∷ made 0 3 3 ops.NotifyOne (pos 0) (pos 0) replies.Nobody ∷ said replies.Nobody ∷ made 0 2 11 ops.Unlock (pos 0) (pos 0) replies.Ok ∷ said replies.Ok ∷ made 0 2 12 ops.Lock (pos 0) (pos 0) replies.Ok ∷ said replies.Ok ∷ made 0 2 13 ops.Set (pos 2) (pos 3) replies.Ok ∷ said replies.Ok ∷ made 0 3 4 ops.NotifyOne (pos 0) (pos 0) replies.Nobody ∷ said replies.Nobody ∷ made 0 2 14 ops.Unlock (pos 0) (pos 0) replies.Ok ∷ said replies.Ok ∷ did (controls.Join (thr 2)) ∷ said replies.Ok ∷ made 0 0 0 ops.Request (pos 0) (pos 0) replies.Ok ∷ seen 0 0 1 ops.Drained (pos 0) (pos 0) replies.Ok ∷ did (controls.Join (thr 1)) ∷ [])
      ∷ Some (made 1 2 2 ops.TryLock (pos 0) (pos 0) replies.True ∷ made 1 1 3 ops.TryLock (pos 0) (pos 0) replies.True ∷ said (replies.Number (negsuc 0)) ∷ said replies.ResourceDeadlockWouldOccur ∷ said replies.ResourceDeadlockWouldOccur ∷ made 1 4 1 ops.Release (pos 1) (pos 0) replies.Ok ∷ said replies.Ok ∷ made 1 2 3 ops.Unlock (pos 0) (pos 0) replies.Ok ∷ said replies.Ok ∷ made 1 1 4 ops.Unlock (pos 0) (pos 0) replies.Ok ∷ said replies.Ok ∷ said replies.OperationNotPermitted ∷ said replies.OperationNotPermitted ∷ made 1 3 1 ops.NotifyOne (pos 0) (pos 0) replies.Nobody ∷ said replies.Nobody ∷ said replies.OperationNotPermitted ∷ said replies.OperationNotPermitted ∷ [])
      ∷ Some ([])
      ∷ [];
}

-- a record with the flaw text
abbrev pub scene_flaw_0103 : Scene
scene_flaw_0103 = record {
  version = 1;
  threads = threads.Plain ∷ threads.Plain ∷ threads.Plain ∷ threads.Plain ∷ [];
  objects = objects.Promise (thr 2) (thr 0) ∷ objects.Condition ∷ objects.Shared ∷ objects.Semaphore 0 3 ∷ [];
  callbacks = [];
  bodies =
      (calls.Start (thr 3) ∷ calls.Start (thr 1) ∷ calls.Start (thr 2) ∷ calls.Share (obj 0) ∷ calls.GetOutcome (obj 0) ∷ calls.WaitCondition (obj 1) (obj 2) ∷ calls.Join (thr 2) ∷ calls.Join (thr 1) ∷ calls.Join (thr 3) ∷ [])
      ∷ (calls.Lock (obj 2) ∷ calls.Release (obj 3) 1 ∷ calls.WaitCondition (obj 1) (obj 2) ∷ calls.Unlock (obj 2) ∷ calls.Release (obj 3) 2 ∷ [])
      ∷ (calls.Acquire (obj 3) ∷ calls.Acquire (obj 3) ∷ calls.SetException (obj 0) 42 ∷ calls.DropPromise (obj 0) ∷ calls.SetException (obj 0) 42 ∷ calls.Lock (obj 2) ∷ calls.Unlock (obj 2) ∷ calls.NotifyOne (obj 1) ∷ calls.NotifyOne (obj 1) ∷ calls.NotifyOne (obj 1) ∷ calls.NotifyOne (obj 1) ∷ calls.NotifyOne (obj 1) ∷ [])
      ∷ (calls.Lock (obj 2) ∷ calls.Release (obj 3) 1 ∷ calls.WaitCondition (obj 1) (obj 2) ∷ calls.Unlock (obj 2) ∷ [])
      ∷ [];
}

abbrev pub recorded_flaw_0103 : Recorded
recorded_flaw_0103 = record {
  version = 1;
  lists =
      Some (did (controls.Start (thr 3) true) ∷ said replies.Ok ∷ did (controls.Start (thr 1) true) ∷ said replies.Ok ∷ did (controls.Start (thr 2) true) ∷ said replies.Ok ∷ said replies.NoState ∷ said replies.NoState ∷ said replies.OperationNotPermitted ∷ did (controls.Join (thr 2)) ∷ said replies.Ok ∷ did (controls.Join (thr 1)) ∷ said replies.Ok ∷ did (controls.Join (thr 3)) ∷ said replies.Ok ∷ [])
      ∷ Some (made 1 2 0 ops.Lock (pos 0) (pos 0) replies.Ok ∷ said replies.Ok ∷ made 1 3 0 ops.Release (pos 1) (pos 0) replies.Ok ∷ said replies.Ok ∷ made 1 1 0 ops.Enter (pos 0) (pos 0) replies.Ok ∷ made 1 2 1 ops.Unlock (pos 0) (pos 0) replies.Ok ∷ made 1 1 3 ops.Unblock (pos 0) (pos 0) replies.Ok ∷ made 1 2 6 ops.Lock (pos 0) (pos 0) replies.Ok ∷ said replies.Ok ∷ made 1 2 7 ops.Unlock (pos 0) (pos 0) replies.Ok ∷ said replies.Ok ∷ made 1 3 4 ops.Release (pos 2) (pos 0) replies.Ok ∷ said replies.Ok ∷ [])
      ∷ Some (made 2 3 1 ops.Acquire (pos 0) (pos 0) replies.Ok ∷ said replies.Ok ∷ made 2 3 3 ops.Acquire (pos 0) (pos 0) replies.Ok ∷ said replies.Ok ∷ made 2 0 0 ops.Set (pos 1) (pos 42) replies.Ok ∷ said replies.Ok ∷ said replies.Ok ∷ said replies.NoState ∷ made 2 2 4 ops.Lock (pos 0) (pos 0) replies.Ok ∷ said replies.Ok ∷ made 2 2 5 ops.Unlock (pos 0) (pos 0) replies.Ok ∷ said replies.Ok ∷ made 2 1 2 ops.NotifyOne (pos 0) (pos 0) (replies.Thread (thr 1)) ∷ said (replies.Thread (thr 1)) ∷ made 2 1 4 ops.NotifyOne (pos 0) (pos 0) (replies.Thread (thr 3)) ∷ said (replies.Thread (thr 3)) ∷ made 2 1 5 ops.NotifyOne (pos 0) (pos 0) replies.Nobody ∷ said replies.Nobody ∷ made 2 1 6 ops.NotifyOne (pos 0) (pos 0) replies.Nobody ∷ said replies.Nobody ∷ made 2 1 7 ops.NotifyOne (pos 0) (pos 0) (replies.Thread (thr 2)) ∷ said replies.Nobody ∷ [])
      ∷ Some (made 3 2 2 ops.Lock (pos 0) (pos 0) replies.Ok ∷ said replies.Ok ∷ made 3 3 2 ops.Release (pos 1) (pos 0) replies.Ok ∷ said replies.Ok ∷ made 3 1 1 ops.Enter (pos 0) (pos 0) replies.Ok ∷ made 3 2 3 ops.Unlock (pos 0) (pos 0) replies.Ok ∷ made 3 1 8 ops.Unblock (pos 0) (pos 0) replies.Ok ∷ made 3 2 8 ops.Lock (pos 0) (pos 0) replies.Ok ∷ said replies.Ok ∷ made 3 2 9 ops.Unlock (pos 0) (pos 0) replies.Ok ∷ said replies.Ok ∷ [])
      ∷ [];
}

-- a record with the flaw text
abbrev pub scene_flaw_0104 : Scene
scene_flaw_0104 = record {
  version = 1;
  threads = threads.Plain ∷ threads.Plain ∷ threads.Plain ∷ threads.Plain ∷ [];
  objects = objects.Semaphore 0 2 ∷ [];
  callbacks = [];
  bodies =
      (calls.Start (thr 1) ∷ calls.Start (thr 3) ∷ calls.Join (thr 1) ∷ calls.Join (thr 3) ∷ calls.Start (thr 2) ∷ calls.Release (obj 0) 0 ∷ calls.Join (thr 2) ∷ [])
      ∷ (calls.Release (obj 0) 0 ∷ [])
      ∷ ([])
      ∷ ([])
      ∷ [];
}

abbrev pub recorded_flaw_0104 : Recorded
recorded_flaw_0104 = record {
  version = 1;
  lists =
      Some (did (controls.Start (thr 1) true) ∷ said replies.Ok ∷ did (controls.Start (thr 3) true) ∷ said replies.Ok ∷ did (controls.Join (thr 1)) ∷ said replies.Ok ∷ did (controls.Join (thr 3)) ∷ said (replies.Number (negsuc 0)) ∷ did (controls.Start (thr 2) true) ∷ said replies.Ok ∷ made 0 0 1 ops.Release (pos 0) (pos 0) replies.Ok ∷ said replies.Ok ∷ did (controls.Join (thr 2)) ∷ said replies.Ok ∷ [])
      ∷ Some (made 1 0 0 ops.Release (pos 0) (pos 0) replies.Ok ∷ said replies.Ok ∷ [])
      ∷ Some ([])
      ∷ Some ([])
      ∷ [];
}

-- a record with the flaw text
abbrev pub scene_flaw_0106 : Scene
scene_flaw_0106 = record {
  version = 1;
  threads = threads.Plain ∷ threads.Stoppable (obj 0) ∷ threads.Launched (obj 1) ∷ [];
  objects = objects.StopOfThread ∷ objects.Async policies.Both (functions.Return (pos 5)) (thr 2) ∷ [];
  callbacks = [];
  bodies =
      (calls.Start (thr 1) ∷ calls.Launch (obj 1) ∷ [])
      ∷ (calls.RequestStop (obj 0) ∷ calls.StopRequested (obj 0) ∷ [])
      ∷ ([])
      ∷ [];
}

abbrev pub recorded_flaw_0106 : Recorded
recorded_flaw_0106 = record {
  version = 1;
  lists =
      Some (did (controls.Start (thr 1) true) ∷ said replies.Ok ∷ did (controls.Launch (thr 2) true) ∷ seen 0 0 0 ops.StopRequested (pos 0) (pos 0) replies.False ∷ seen 0 1 1 ops.Ready (pos 0) (pos 0) (replies.Outcome (outcomes.Value (pos 5))) ∷ made 0 0 0 ops.Request (pos 0) (pos 0) replies.Ok ∷ seen 0 0 1 ops.Drained (pos 0) (pos 0) replies.Ok ∷ did (controls.Join (thr 1)) ∷ [])
      ∷ Some (said replies.NoState ∷ said replies.Launched ∷ said replies.False ∷ [])
      ∷ Some (made 2 1 0 ops.Set (pos 0) (pos 5) replies.Ok ∷ [])
      ∷ [];
}

-- a record with the flaw shown
abbrev pub scene_flaw_0107 : Scene
scene_flaw_0107 = record {
  version = 1;
  threads = threads.Plain ∷ threads.Stoppable (obj 0) ∷ [];
  objects = objects.StopOfThread ∷ objects.Condition ∷ objects.Mutex 2 ∷ [];
  callbacks = [];
  bodies =
      (calls.Start (thr 1) ∷ calls.NotifyAll (obj 1) ∷ calls.NotifyAll (obj 1) ∷ calls.Join (thr 1) ∷ [])
      ∷ (calls.Lock (obj 2) ∷ calls.StopPossible (obj 0) ∷ calls.Unlock (obj 2) ∷ calls.Get (obj 2) 0 ∷ [])
      ∷ [];
}

abbrev pub recorded_flaw_0107 : Recorded
recorded_flaw_0107 = record {
  version = 1;
  lists =
      Some (did (controls.Start (thr 1) true) ∷ said replies.Ok ∷ made 0 1 1 ops.NotifyAll (pos 0) (pos 0) (replies.Number (pos 0)) ∷ said (replies.Number (pos 0)) ∷ made 0 1 0 ops.NotifyAll (pos 0) (pos 0) (replies.Number (pos 0)) ∷ said (replies.Number (pos 0)) ∷ did (controls.Join (thr 1)) ∷ said replies.Ok ∷ [])
      ∷ Some (made 1 2 0 ops.Lock (pos 0) (pos 0) replies.Ok ∷ said replies.Ok ∷ seen 1 0 2 ops.StopPossible (pos 0) (pos 0) replies.True ∷ said replies.True ∷ made 1 2 1 ops.Unlock (pos 0) (pos 0) replies.Ok ∷ said replies.Ok ∷ said replies.OperationNotPermitted ∷ [])
      ∷ [];
}

-- a record with the flaw shown
abbrev pub scene_flaw_0109 : Scene
scene_flaw_0109 = record {
  version = 1;
  threads = threads.Plain ∷ threads.Stoppable (obj 0) ∷ threads.Plain ∷ [];
  objects = objects.StopOfThread ∷ objects.Condition ∷ objects.Mutex 0 ∷ objects.Semaphore 0 2 ∷ objects.Condition ∷ objects.Once ∷ objects.Condition ∷ objects.Condition ∷ objects.Condition ∷ objects.Condition ∷ [];
  callbacks = callback (obj 0) (actions.Small (smalls.NotifyAll (obj 6))) ∷ callback (obj 0) (actions.Small (smalls.NotifyAll (obj 7))) ∷ callback (obj 0) (actions.Small (smalls.NotifyAll (obj 8))) ∷ callback (obj 0) (actions.Small (smalls.NotifyAll (obj 9))) ∷ [];
  bodies =
      (calls.Start (thr 2) ∷ calls.Start (thr 1) ∷ calls.RequestStop (obj 0) ∷ calls.NotifyOne (obj 4) ∷ calls.NotifyAll (obj 4) ∷ calls.NotifyOne (obj 4) ∷ calls.Register (cbk 3) ∷ calls.RequestStop (obj 0) ∷ calls.Deregister (cbk 3) ∷ calls.Register (cbk 0) ∷ calls.StopPossible (obj 0) ∷ calls.Register (cbk 2) ∷ calls.RequestStop (obj 0) ∷ calls.Deregister (cbk 2) ∷ calls.Deregister (cbk 2) ∷ calls.WaitCondition (obj 9) (obj 2) ∷ calls.Register (cbk 1) ∷ calls.Deregister (cbk 1) ∷ calls.Deregister (cbk 1) ∷ calls.CallOnceReturn (obj 5) ∷ calls.Lock (obj 2) ∷ calls.Release (obj 3) 1 ∷ calls.Unlock (obj 2) ∷ calls.Join (thr 1) ∷ calls.Join (thr 2) ∷ [])
      ∷ (calls.StopRequested (obj 0) ∷ calls.Lock (obj 2) ∷ calls.Unlock (obj 2) ∷ calls.WaitCondition (obj 6) (obj 2) ∷ calls.CallOnceReturn (obj 5) ∷ calls.Lock (obj 2) ∷ calls.Release (obj 3) 1 ∷ calls.Unlock (obj 2) ∷ [])
      ∷ (calls.Acquire (obj 3) ∷ calls.Acquire (obj 3) ∷ calls.Lock (obj 2) ∷ calls.Lock (obj 2) ∷ calls.CallOnceThrow (obj 5) 4294967295 ∷ calls.CallOnceReturn (obj 5) ∷ calls.Lock (obj 2) ∷ calls.Unlock (obj 2) ∷ calls.NotifyOne (obj 1) ∷ calls.Unlock (obj 2) ∷ calls.CallOnceReturn (obj 5) ∷ calls.NotifyAll (obj 1) ∷ calls.NotifyAll (obj 1) ∷ [])
      ∷ [];
}

abbrev pub recorded_flaw_0109 : Recorded
recorded_flaw_0109 = record {
  version = 1;
  lists =
      Some (did (controls.Start (thr 2) true) ∷ said replies.Ok ∷ did (controls.Start (thr 1) true) ∷ said replies.Ok ∷ made 0 0 0 ops.Request (pos 0) (pos 0) replies.Ok ∷ seen 0 0 1 ops.Drained (pos 0) (pos 0) replies.Ok ∷ said replies.Made ∷ made 0 4 0 ops.NotifyOne (pos 0) (pos 0) replies.Nobody ∷ said replies.Nobody ∷ made 0 4 1 ops.NotifyAll (pos 0) (pos 0) (replies.Number (pos 0)) ∷ said (replies.Number (pos 0)) ∷ made 0 4 2 ops.NotifyOne (pos 0) (pos 0) replies.Nobody ∷ said replies.Nobody ∷ made 0 0 1 ops.RegisterNow (pos 6) (pos 0) replies.Ok ∷ made 0 9 0 ops.NotifyAll (pos 0) (pos 0) (replies.Number (pos 0)) ∷ made 0 0 2 ops.Finish (pos 6) (pos 0) replies.Ok ∷ said replies.Ran ∷ seen 0 0 3 ops.Already (pos 0) (pos 0) replies.Ok ∷ said replies.Already ∷ said replies.NotHeld ∷ made 0 0 3 ops.RegisterNow (pos 9) (pos 0) replies.Ok ∷ made 0 6 0 ops.NotifyAll (pos 0) (pos 0) (replies.Number (pos 0)) ∷ made 0 0 4 ops.Finish (pos 9) (pos 0) replies.Ok ∷ said replies.Ran ∷ seen 0 0 5 ops.StopPossible (pos 0) (pos 0) replies.True ∷ said replies.True ∷ made 0 0 5 ops.RegisterNow (pos 11) (pos 0) replies.Ok ∷ made 0 8 0 ops.NotifyAll (pos 0) (pos 0) (replies.Number (pos 0)) ∷ made 0 0 6 ops.Finish (pos 11) (pos 0) replies.Ok ∷ said replies.Ran ∷ seen 0 0 7 ops.Already (pos 0) (pos 0) replies.Ok ∷ said replies.Already ∷ said replies.NotHeld ∷ said replies.NotHeld ∷ said replies.OperationNotPermitted ∷ made 0 0 7 ops.RegisterNow (pos 16) (pos 0) replies.Ok ∷ made 0 7 0 ops.NotifyAll (pos 0) (pos 0) (replies.Number (pos 0)) ∷ made 0 0 8 ops.Finish (pos 16) (pos 0) replies.Ok ∷ said replies.Ran ∷ said replies.NotHeld ∷ said replies.NotHeld ∷ seen 0 5 3 ops.Passive (pos 0) (pos 0) replies.Ok ∷ said replies.Passive ∷ made 0 2 4 ops.Lock (pos 0) (pos 0) replies.Ok ∷ said replies.Ok ∷ made 0 3 2 ops.Release (pos 1) (pos 0) replies.Ok ∷ said replies.Ok ∷ made 0 2 5 ops.Unlock (pos 0) (pos 0) replies.Ok ∷ said replies.Ok ∷ did (controls.Join (thr 1)) ∷ said replies.Ok ∷ did (controls.Join (thr 2)) ∷ said replies.Ok ∷ [])
      ∷ Some (seen 1 0 1 ops.StopRequested (pos 0) (pos 0) replies.True ∷ said replies.True ∷ made 1 2 0 ops.Lock (pos 0) (pos 0) replies.Ok ∷ said replies.Ok ∷ made 1 2 1 ops.Unlock (pos 0) (pos 0) replies.Ok ∷ said replies.Ok ∷ said replies.OperationNotPermitted ∷ made 1 5 0 ops.Begin (pos 0) (pos 0) replies.Ok ∷ made 1 5 1 ops.Finish (pos 0) (pos 0) replies.Ok ∷ said replies.Returned ∷ made 1 2 2 ops.Lock (pos 0) (pos 0) replies.Ok ∷ said replies.Ok ∷ made 1 3 0 ops.Release (pos 1) (pos 0) replies.Ok ∷ said replies.Ok ∷ made 1 2 3 ops.Unlock (pos 0) (pos 0) replies.Ok ∷ said replies.Ok ∷ [])
      ∷ Some (made 2 3 1 ops.Acquire (pos 0) (pos 0) replies.Ok ∷ said replies.Ok ∷ made 2 3 3 ops.Acquire (pos 0) (pos 0) replies.Ok ∷ said replies.Ok ∷ made 2 2 6 ops.Lock (pos 0) (pos 0) replies.Ok ∷ said replies.Ok ∷ said replies.ResourceDeadlockWouldOccur ∷ seen 2 5 2 ops.Passive (pos 0) (pos 0) replies.Ok ∷ said replies.Passive ∷ seen 2 5 2 ops.Passive (pos 0) (pos 0) replies.Ok ∷ said replies.Passive ∷ said replies.ResourceDeadlockWouldOccur ∷ made 2 2 7 ops.Unlock (pos 0) (pos 0) replies.Ok ∷ said replies.Ok ∷ made 2 1 0 ops.NotifyOne (pos 0) (pos 0) replies.Nobody ∷ said replies.Nobody ∷ said replies.OperationNotPermitted ∷ seen 2 5 2 ops.Passive (pos 0) (pos 0) replies.Ok ∷ said replies.Passive ∷ made 2 1 1 ops.NotifyAll (pos 0) (pos 0) (replies.Number (pos 0)) ∷ said (replies.Number (pos 0)) ∷ made 2 1 2 ops.NotifyAll (pos 0) (pos 0) (replies.Number (pos 0)) ∷ said (replies.Number (pos 0)) ∷ [])
      ∷ [];
}

-- a record with the flaw text
abbrev pub scene_flaw_0110 : Scene
scene_flaw_0110 = record {
  version = 1;
  threads = threads.Plain ∷ threads.Plain ∷ [];
  objects = objects.Latch 3 ∷ objects.Promise (thr 0) (thr 0) ∷ [];
  callbacks = [];
  bodies =
      (calls.TryWait (obj 0) ∷ calls.CountDown (obj 0) 0 ∷ calls.Start (thr 1) ∷ calls.DropPromise (obj 1) ∷ calls.GetFuture (obj 1) ∷ calls.Share (obj 1) ∷ calls.GetFuture (obj 1) ∷ calls.WaitFuture (obj 1) ∷ calls.Share (obj 1) ∷ calls.CountDown (obj 0) 3 ∷ calls.Join (thr 1) ∷ [])
      ∷ (calls.TryWait (obj 0) ∷ calls.TryWait (obj 0) ∷ [])
      ∷ [];
}

abbrev pub recorded_flaw_0110 : Recorded
recorded_flaw_0110 = record {
  version = 1;
  lists =
      Some (seen 0 0 0 ops.TryWait (pos 0) (pos 0) replies.False ∷ said replies.False ∷ seen 0 0 0 ops.Wait (pos 0) (pos 0) replies.Ok ∷ said replies.Ok ∷ did (controls.Start (thr 1) true) ∷ said replies.Ok ∷ made 0 1 0 ops.Set (pos 2) (pos 0) replies.Ok ∷ said replies.Ok ∷ said replies.Ok ∷ said replies.Ok ∷ said replies.FutureAlreadyRetrieved ∷ seen 0 1 1 ops.Ready (pos 0) (pos 0) (replies.Outcome outcomes.Broken) ∷ said replies.Ok ∷ said replies.NoState ∷ made 0 0 0 ops.CountDown (pos 3) (pos 0) replies.Ok ∷ said replies.Ok ∷ did (controls.Join (thr 1)) ∷ said replies.Ok ∷ [])
      ∷ Some (seen 1 0 1 ops.TryWait (pos 0) (pos 0) replies.False ∷ said replies.False ∷ seen 1 0 1 ops.TryWait (pos 0) (pos 0) replies.False ∷ said replies.False ∷ [])
      ∷ [];
}
