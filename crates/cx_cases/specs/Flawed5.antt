-- Records, each with its first flaw.
use Rattle.std.specs.Prelude.{pos, negsuc, true, false, [], ◌∷◌, Some, None}
use Rattle.cx_names.specs.declared.Reply.TheVariants as replies
use Rattle.cx_names.specs.declared.Outcome.TheVariants as outcomes
use Rattle.cx_machine.specs.declared.kind.Op.TheVariants as ops
use Rattle.cx_scene.specs.declared.declared.Object.TheVariants as objects
use Rattle.cx_scene.specs.declared.declared.Thread.TheVariants as threads
use Rattle.cx_scene.specs.declared.declared.Function.TheVariants as functions
use Rattle.cx_scene.specs.declared.declared.Policy.TheVariants as policies
use Rattle.cx_scene.specs.declared.declared.Small.TheVariants as smalls
use Rattle.cx_scene.specs.declared.declared.Action.TheVariants as actions
use Rattle.cx_scene.specs.declared.call.Call.TheVariants as calls
use Rattle.cx_scene.specs.declared.call.Relation.TheVariants as relations
use Rattle.cx_items.specs.declared.item.Control.TheVariants as controls
use Rattle.cx_scene.specs.Scene.{Scene}
use Rattle.cx_history.specs.Histories.{Recorded}
use Rattle.cx_cases.specs.Short.{obj, thr, cbk, callback, made, seen, did, said}

-- a record with the flaw fell
abbrev pub scene_flaw_0139 : Scene
scene_flaw_0139 = record {
  version = 1;
  threads = threads.Plain ∷ threads.Plain ∷ [];
  objects = objects.Recursive ∷ [];
  callbacks = [];
  bodies =
      (calls.Join (thr 0) ∷ calls.LockRecursive (obj 0) ∷ calls.LockRecursive (obj 0) ∷ calls.Unlock (obj 0) ∷ calls.TryLockRecursive (obj 0) ∷ calls.Start (thr 1) ∷ calls.Unlock (obj 0) ∷ calls.Join (thr 1) ∷ [])
      ∷ (calls.Unlock (obj 0) ∷ calls.Unlock (obj 0) ∷ calls.TryLockRecursive (obj 0) ∷ calls.TryLockRecursive (obj 0) ∷ calls.Unlock (obj 0) ∷ calls.Unlock (obj 0) ∷ calls.TryLockRecursive (obj 0) ∷ calls.Unlock (obj 0) ∷ calls.TryLockRecursive (obj 0) ∷ calls.TryLockRecursive (obj 0) ∷ [])
      ∷ [];
}

abbrev pub recorded_flaw_0139 : Recorded
recorded_flaw_0139 = record {
  version = 1;
  lists =
      Some (said replies.ResourceDeadlockWouldOccur ∷ made 0 0 0 ops.Lock (pos 0) (pos 0) replies.Ok ∷ said replies.Ok ∷ made 0 0 1 ops.Lock (pos 0) (pos 0) replies.Ok ∷ said replies.Ok ∷ made 0 0 2 ops.Unlock (pos 0) (pos 0) replies.Ok ∷ said replies.Ok ∷ made 0 0 4 ops.TryLock (pos 0) (pos 0) replies.True ∷ said replies.True ∷ did (controls.Start (thr 1) true) ∷ said replies.Ok ∷ made 0 0 3 ops.Unlock (pos 0) (pos 0) replies.Ok ∷ said replies.Ok ∷ did (controls.Join (thr 1)) ∷ said replies.Ok ∷ made 0 0 5 ops.Unlock (pos 0) (pos 0) replies.Ok ∷ [])
      ∷ Some (said replies.OperationNotPermitted ∷ said replies.OperationNotPermitted ∷ seen 1 0 5 ops.TryLock (pos 0) (pos 0) replies.False ∷ said replies.False ∷ seen 1 0 5 ops.TryLock (pos 0) (pos 0) replies.False ∷ said replies.False ∷ said replies.OperationNotPermitted ∷ said replies.OperationNotPermitted ∷ seen 1 0 5 ops.TryLock (pos 0) (pos 0) replies.False ∷ said replies.False ∷ said replies.OperationNotPermitted ∷ seen 1 0 5 ops.TryLock (pos 0) (pos 0) replies.False ∷ said replies.False ∷ seen 1 0 5 ops.TryLock (pos 0) (pos 0) replies.False ∷ said replies.False ∷ [])
      ∷ [];
}

-- a record with the flaw text
abbrev pub scene_flaw_0140 : Scene
scene_flaw_0140 = record {
  version = 1;
  threads = threads.Plain ∷ threads.Stoppable (obj 0) ∷ threads.Plain ∷ threads.Stoppable (obj 1) ∷ threads.Stoppable (obj 2) ∷ threads.Launched (obj 3) ∷ [];
  objects = objects.StopOfThread ∷ objects.StopOfThread ∷ objects.StopOfThread ∷ objects.Async policies.Both (functions.Throw 4294967295) (thr 5) ∷ [];
  callbacks = [];
  bodies =
      (calls.Start (thr 2) ∷ calls.Start (thr 4) ∷ calls.Start (thr 3) ∷ calls.Start (thr 1) ∷ calls.DropAsync (obj 3) ∷ calls.Launch (obj 3) ∷ calls.GetOutcome (obj 3) ∷ calls.WaitFuture (obj 3) ∷ calls.GetOutcome (obj 3) ∷ calls.WaitFuture (obj 3) ∷ calls.StopRequested (obj 1) ∷ calls.Join (thr 4) ∷ calls.Join (thr 2) ∷ [])
      ∷ (calls.RequestStop (obj 2) ∷ [])
      ∷ ([])
      ∷ ([])
      ∷ (calls.RequestStop (obj 0) ∷ calls.RequestStop (obj 1) ∷ calls.StopRequested (obj 1) ∷ [])
      ∷ ([])
      ∷ [];
}

abbrev pub recorded_flaw_0140 : Recorded
recorded_flaw_0140 = record {
  version = 1;
  lists =
      Some (did (controls.Start (thr 2) true) ∷ said replies.Ok ∷ did (controls.Start (thr 4) true) ∷ said replies.Ok ∷ did (controls.Start (thr 3) true) ∷ said replies.Ok ∷ did (controls.Start (thr 1) true) ∷ said replies.Ok ∷ said replies.NoState ∷ did (controls.Launch (thr 5) true) ∷ said replies.Launched ∷ seen 0 3 1 ops.Ready (pos 0) (pos 0) (replies.Outcome (outcomes.Exception 4294967295)) ∷ said (replies.Outcome (outcomes.Exception 4294967295)) ∷ said replies.NoState ∷ said replies.NoState ∷ said replies.NoState ∷ seen 0 1 0 ops.StopRequested (pos 0) (pos 0) replies.False ∷ said replies.False ∷ did (controls.Join (thr 4)) ∷ said replies.Ok ∷ did (controls.Join (thr 2)) ∷ said replies.Ok ∷ made 0 1 0 ops.Request (pos 0) (pos 0) replies.Ok ∷ seen 0 1 1 ops.Drained (pos 0) (pos 0) replies.Ok ∷ did (controls.Join (thr 3)) ∷ made 0 0 0 ops.Request (pos 0) (pos 0) replies.Ok ∷ seen 0 0 1 ops.Drained (pos 0) (pos 0) replies.Ok ∷ did (controls.Join (thr 1)) ∷ [])
      ∷ Some (said replies.NoState ∷ [])
      ∷ Some (said replies.NoState ∷ [])
      ∷ Some ([])
      ∷ Some (said replies.NoState ∷ seen 4 1 0 ops.StopRequested (pos 0) (pos 0) replies.False ∷ said replies.False ∷ [])
      ∷ Some (made 5 3 0 ops.Set (pos 1) (pos 4294967295) replies.Ok ∷ [])
      ∷ [];
}

-- a record with the flaw step
abbrev pub scene_flaw_0144 : Scene
scene_flaw_0144 = record {
  version = 1;
  threads = threads.Plain ∷ threads.Plain ∷ [];
  objects = objects.Mutex 1 ∷ objects.Stop (1 ∷ 0 ∷ []) ∷ objects.Semaphore 0 65535 ∷ objects.Condition ∷ objects.Condition ∷ [];
  callbacks = callback (obj 1) (actions.Small (smalls.Release (obj 2) 0)) ∷ callback (obj 1) (actions.Small (smalls.NotifyOne (obj 3))) ∷ callback (obj 1) (actions.Small (smalls.NotifyAll (obj 4))) ∷ [];
  bodies =
      (calls.Register (cbk 1) ∷ calls.Deregister (cbk 1) ∷ calls.Lock (obj 0) ∷ calls.Set (obj 0) 0 (negsuc 9223372036854775807) ∷ calls.Unlock (obj 0) ∷ calls.Lock (obj 0) ∷ calls.Get (obj 0) 0 ∷ calls.Get (obj 0) 0 ∷ calls.Get (obj 0) 0 ∷ calls.Unlock (obj 0) ∷ calls.Register (cbk 0) ∷ calls.RequestStop (obj 1) ∷ calls.Deregister (cbk 0) ∷ calls.StopRequested (obj 1) ∷ calls.Register (cbk 2) ∷ calls.RequestStop (obj 1) ∷ calls.Deregister (cbk 2) ∷ [])
      ∷ (calls.NotifyAll (obj 3) ∷ calls.StopRequested (obj 1) ∷ calls.StopRequested (obj 1) ∷ calls.Lock (obj 0) ∷ calls.Add (obj 0) 0 (pos 1) ∷ calls.StopPossible (obj 1) ∷ calls.StopRequested (obj 1) ∷ calls.Add (obj 0) 0 (pos 1) ∷ calls.Unlock (obj 0) ∷ calls.Lock (obj 0) ∷ calls.Get (obj 0) 0 ∷ calls.Add (obj 0) 0 (pos 1) ∷ calls.Unlock (obj 0) ∷ [])
      ∷ [];
}

abbrev pub recorded_flaw_0144 : Recorded
recorded_flaw_0144 = record {
  version = 1;
  lists =
      Some (made 0 1 1 ops.Register (pos 0) (pos 0) replies.Ok ∷ said replies.Queued ∷ made 0 1 0 ops.Deregister (pos 0) (pos 0) replies.Removed ∷ said replies.Removed ∷ made 0 0 0 ops.Lock (pos 0) (pos 0) replies.Ok ∷ said replies.Ok ∷ made 0 0 1 ops.Set (pos 0) (negsuc 9223372036854775807) replies.Ok ∷ said replies.Ok ∷ made 0 0 2 ops.Unlock (pos 0) (pos 0) replies.Ok ∷ said replies.Ok ∷ made 0 0 3 ops.Lock (pos 0) (pos 0) replies.Ok ∷ said replies.Ok ∷ seen 0 0 4 ops.Get (pos 0) (pos 0) (replies.Number (negsuc 9223372036854775807)) ∷ said (replies.Number (negsuc 9223372036854775807)) ∷ seen 0 0 4 ops.Get (pos 0) (pos 0) (replies.Number (negsuc 9223372036854775807)) ∷ said (replies.Number (negsuc 9223372036854775807)) ∷ seen 0 0 4 ops.Get (pos 0) (pos 0) (replies.Number (negsuc 9223372036854775807)) ∷ said (replies.Number (negsuc 9223372036854775807)) ∷ made 0 0 4 ops.Unlock (pos 0) (pos 0) replies.Ok ∷ said replies.Ok ∷ made 0 1 2 ops.Register (pos 10) (pos 0) replies.Ok ∷ said replies.Queued ∷ made 0 1 3 ops.Request (pos 0) (pos 0) replies.Ok ∷ made 0 1 4 ops.Begin (pos 10) (pos 0) replies.Ok ∷ made 0 2 0 ops.Release (pos 0) (pos 0) replies.Ok ∷ made 0 1 5 ops.Finish (pos 10) (pos 0) replies.Ok ∷ seen 0 1 4 ops.Drained (pos 0) (pos 0) replies.Ok ∷ said replies.Made ∷ made 0 1 6 ops.Deregister (pos 10) (pos 0) replies.Ran ∷ said replies.Ran ∷ seen 0 1 7 ops.StopRequested (pos 0) (pos 0) replies.True ∷ said replies.True ∷ made 0 1 7 ops.RegisterNow (pos 14) (pos 0) replies.Ok ∷ made 0 4 0 ops.NotifyAll (pos 0) (pos 0) (replies.Number (pos 0)) ∷ made 0 1 8 ops.Finish (pos 14) (pos 0) replies.Ok ∷ said replies.Ran ∷ seen 0 1 9 ops.Already (pos 0) (pos 0) replies.Ok ∷ said replies.Already ∷ said replies.NotHeld ∷ [])
      ∷ None
      ∷ [];
}

-- a record with the flaw step
abbrev pub scene_flaw_0145 : Scene
scene_flaw_0145 = record {
  version = 1;
  threads = threads.Plain ∷ threads.Plain ∷ threads.Plain ∷ [];
  objects = objects.Semaphore 0 2 ∷ objects.Barrier 1 (Some (smalls.Release (obj 0) 65535)) ∷ objects.Stop ([]) ∷ objects.Condition ∷ objects.Mutex 2 ∷ [];
  callbacks = [];
  bodies =
      (calls.ArriveAndWait (obj 1) ∷ calls.Start (thr 2) ∷ calls.Join (thr 1) ∷ calls.Join (thr 2) ∷ [])
      ∷ (calls.Lock (obj 4) ∷ calls.WaitStop (obj 3) (obj 4) (obj 2) (record { number = 0; relation = relations.Equal; value = (pos 1) }) ∷ calls.Unlock (obj 4) ∷ calls.Release (obj 0) 1 ∷ [])
      ∷ ([])
      ∷ [];
}

abbrev pub recorded_flaw_0145 : Recorded
recorded_flaw_0145 = record {
  version = 1;
  lists =
      Some (made 0 1 1 ops.Arrive (pos 1) (pos 0) (replies.Number (pos 0)) ∷ seen 0 0 0 ops.Release (pos 65535) (pos 0) replies.Over ∷ made 0 1 0 ops.Complete (pos 0) (pos 0) replies.Ok ∷ seen 0 1 2 ops.Wait (pos 0) (pos 0) replies.Ok ∷ said replies.Ok ∷ did (controls.Start (thr 2) true) ∷ said replies.Ok ∷ said replies.InvalidArgument ∷ did (controls.Join (thr 2)) ∷ said replies.Ok ∷ [])
      ∷ None
      ∷ Some ([])
      ∷ [];
}

-- a record with the flaw text
abbrev pub scene_flaw_0146 : Scene
scene_flaw_0146 = record {
  version = 1;
  threads = threads.Plain ∷ threads.Plain ∷ threads.Plain ∷ threads.Plain ∷ [];
  objects = objects.Stop (2 ∷ []) ∷ [];
  callbacks = callback (obj 0) actions.Deregister ∷ [];
  bodies =
      (calls.Join (thr 0) ∷ calls.Start (thr 3) ∷ calls.Start (thr 1) ∷ calls.Start (thr 2) ∷ calls.Join (thr 0) ∷ calls.DropSource (obj 0) ∷ calls.Join (thr 3) ∷ calls.Join (thr 2) ∷ calls.Join (thr 1) ∷ [])
      ∷ (calls.StopPossible (obj 0) ∷ [])
      ∷ (calls.RequestStop (obj 0) ∷ calls.StopRequested (obj 0) ∷ [])
      ∷ (calls.StopPossible (obj 0) ∷ calls.Register (cbk 0) ∷ calls.Deregister (cbk 0) ∷ [])
      ∷ [];
}

abbrev pub recorded_flaw_0146 : Recorded
recorded_flaw_0146 = record {
  version = 1;
  lists =
      Some (said replies.ResourceDeadlockWouldOccur ∷ did (controls.Start (thr 3) false) ∷ said replies.NoThread ∷ did (controls.Start (thr 1) true) ∷ said replies.Ok ∷ did (controls.Start (thr 2) false) ∷ said replies.NoThread ∷ said replies.ResourceDeadlockWouldOccur ∷ said replies.NoState ∷ said replies.InvalidArgument ∷ said replies.InvalidArgument ∷ said replies.Ok ∷ did (controls.Join (thr 1)) ∷ [])
      ∷ Some (seen 1 0 0 ops.StopPossible (pos 0) (pos 0) replies.True ∷ said replies.True ∷ [])
      ∷ None
      ∷ None
      ∷ [];
}

-- a record with the flaw shown
abbrev pub scene_flaw_0148 : Scene
scene_flaw_0148 = record {
  version = 1;
  threads = threads.Plain ∷ threads.Stoppable (obj 0) ∷ [];
  objects = objects.StopOfThread ∷ [];
  callbacks = [];
  bodies =
      (calls.StopPossible (obj 0) ∷ calls.StopRequested (obj 0) ∷ calls.StopRequested (obj 0) ∷ calls.Start (thr 1) ∷ [])
      ∷ (calls.RequestStop (obj 0) ∷ calls.StopRequested (obj 0) ∷ calls.StopPossible (obj 0) ∷ [])
      ∷ [];
}

abbrev pub recorded_flaw_0148 : Recorded
recorded_flaw_0148 = record {
  version = 1;
  lists =
      Some (seen 0 0 0 ops.StopPossible (pos 0) (pos 0) replies.True ∷ said replies.True ∷ seen 0 0 0 ops.StopRequested (pos 0) (pos 0) replies.False ∷ said replies.False ∷ seen 0 0 8 ops.StopRequested (pos 0) (pos 0) replies.False ∷ said replies.False ∷ did (controls.Start (thr 1) true) ∷ said replies.Ok ∷ made 0 0 0 ops.Request (pos 0) (pos 0) replies.Ok ∷ seen 0 0 1 ops.Drained (pos 0) (pos 0) replies.Ok ∷ did (controls.Join (thr 1)) ∷ [])
      ∷ Some (said replies.NoState ∷ seen 1 0 1 ops.StopRequested (pos 0) (pos 0) replies.True ∷ said replies.True ∷ seen 1 0 1 ops.StopPossible (pos 0) (pos 0) replies.True ∷ said replies.True ∷ [])
      ∷ [];
}

-- a record with the flaw shown
abbrev pub scene_forged_3 : Scene
scene_forged_3 = record {
  version = 1;
  threads = threads.Plain ∷ [];
  objects = objects.Semaphore 0 2 ∷ [];
  callbacks = [];
  bodies =
      (calls.Release (obj 0) 3 ∷ calls.Release (obj 0) 2 ∷ [])
      ∷ [];
}

abbrev pub recorded_forged_3 : Recorded
recorded_forged_3 = record {
  version = 1;
  lists =
      Some (seen 0 0 2 ops.Release (pos 3) (pos 0) replies.Over ∷ said replies.Over ∷ made 0 0 0 ops.Release (pos 2) (pos 0) replies.Ok ∷ said replies.Ok ∷ [])
      ∷ [];
}

-- a record with the flaw fell
abbrev pub scene_forged_4 : Scene
scene_forged_4 = record {
  version = 1;
  threads = threads.Plain ∷ [];
  objects = objects.Semaphore 0 2 ∷ [];
  callbacks = [];
  bodies =
      (calls.Release (obj 0) 3 ∷ calls.Release (obj 0) 2 ∷ [])
      ∷ [];
}

abbrev pub recorded_forged_4 : Recorded
recorded_forged_4 = record {
  version = 1;
  lists =
      Some (seen 0 0 1 ops.Release (pos 3) (pos 0) replies.Over ∷ said replies.Over ∷ made 0 0 0 ops.Release (pos 2) (pos 0) replies.Ok ∷ said replies.Ok ∷ [])
      ∷ [];
}

-- a record with the flaw order
abbrev pub scene_forged_5 : Scene
scene_forged_5 = record {
  version = 1;
  threads = threads.Plain ∷ threads.Plain ∷ [];
  objects = objects.Semaphore 0 2 ∷ [];
  callbacks = [];
  bodies =
      (calls.Release (obj 0) 1 ∷ calls.Start (thr 1) ∷ calls.Join (thr 1) ∷ [])
      ∷ (calls.Release (obj 0) 1 ∷ [])
      ∷ [];
}

abbrev pub recorded_forged_5 : Recorded
recorded_forged_5 = record {
  version = 1;
  lists =
      Some (made 0 0 1 ops.Release (pos 1) (pos 0) replies.Ok ∷ said replies.Ok ∷ did (controls.Start (thr 1) true) ∷ said replies.Ok ∷ did (controls.Join (thr 1)) ∷ said replies.Ok ∷ [])
      ∷ Some (made 1 0 0 ops.Release (pos 1) (pos 0) replies.Ok ∷ said replies.Ok ∷ [])
      ∷ [];
}

-- a record with the flaw step
abbrev pub scene_flaw_worked : Scene
scene_flaw_worked = record {
  version = 1;
  threads = threads.Plain ∷ threads.Plain ∷ threads.Plain ∷ [];
  objects = objects.Semaphore 0 2 ∷ objects.Mutex 0 ∷ [];
  callbacks = [];
  bodies =
      (calls.Start (thr 1) ∷ calls.Start (thr 2) ∷ calls.Release (obj 0) 2 ∷ calls.Join (thr 1) ∷ calls.Join (thr 2) ∷ [])
      ∷ (calls.Acquire (obj 0) ∷ calls.Lock (obj 1) ∷ calls.Unlock (obj 1) ∷ [])
      ∷ (calls.Acquire (obj 0) ∷ calls.Lock (obj 1) ∷ calls.Unlock (obj 1) ∷ [])
      ∷ [];
}

abbrev pub recorded_flaw_worked : Recorded
recorded_flaw_worked = record {
  version = 1;
  lists =
      Some (did (controls.Start (thr 1) true) ∷ said replies.Ok ∷ did (controls.Start (thr 2) true) ∷ said replies.Ok ∷ made 0 0 0 ops.Release (pos 2) (pos 0) replies.Ok ∷ said replies.Ok ∷ did (controls.Join (thr 1)) ∷ said replies.Ok ∷ did (controls.Join (thr 2)) ∷ said replies.Ok ∷ [])
      ∷ Some (made 1 0 1 ops.Acquire (pos 0) (pos 0) replies.Ok ∷ said replies.Ok ∷ made 1 1 1 ops.Lock (pos 0) (pos 0) replies.Ok ∷ said replies.Ok ∷ made 1 1 0 ops.Unlock (pos 0) (pos 0) replies.Ok ∷ said replies.Ok ∷ [])
      ∷ Some (made 2 0 2 ops.Acquire (pos 0) (pos 0) replies.Ok ∷ said replies.Ok ∷ made 2 1 2 ops.Lock (pos 0) (pos 0) replies.Ok ∷ said replies.Ok ∷ made 2 1 3 ops.Unlock (pos 0) (pos 0) replies.Ok ∷ said replies.Ok ∷ [])
      ∷ [];
}
