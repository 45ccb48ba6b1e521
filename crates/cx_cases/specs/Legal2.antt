-- Records that are legal and follow their scenario.
use Rattle.std.specs.Prelude.{pos, negsuc, true, false, [], ◌∷◌, Some, None}
use Rattle.cx_names.specs.declared.Reply.TheVariants as replies
use Rattle.cx_names.specs.declared.Outcome.TheVariants as outcomes
use Rattle.cx_machine.specs.declared.kind.Op.TheVariants as ops
use Rattle.cx_scene.specs.declared.declared.Object.TheVariants as objects
use Rattle.cx_scene.specs.declared.declared.Thread.TheVariants as threads
use Rattle.cx_scene.specs.declared.declared.Function.TheVariants as functions
use Rattle.cx_scene.specs.declared.declared.Policy.TheVariants as policies
use Rattle.cx_scene.specs.declared.declared.Small.TheVariants as smalls
use Rattle.cx_scene.specs.declared.declared.Action.TheVariants as actions
use Rattle.cx_scene.specs.declared.call.Call.TheVariants as calls
use Rattle.cx_items.specs.declared.item.Control.TheVariants as controls
use Rattle.cx_scene.specs.Scene.{Scene}
use Rattle.cx_history.specs.Histories.{Recorded}
use Rattle.cx_cases.specs.Short.{obj, thr, cbk, callback, made, seen, did, said}

-- a record without a flaw
abbrev pub scene_check_0098 : Scene
scene_check_0098 = record {
  version = 1;
  threads = threads.Plain ∷ threads.Plain ∷ threads.Plain ∷ [];
  objects = objects.Once ∷ [];
  callbacks = [];
  bodies =
      (calls.Start (thr 1) ∷ calls.CallOnceReturn (obj 0) ∷ calls.Start (thr 2) ∷ calls.CallOnceReturn (obj 0) ∷ calls.Join (thr 0) ∷ calls.Join (thr 1) ∷ calls.Join (thr 2) ∷ calls.Join (thr 1) ∷ [])
      ∷ (calls.CallOnceThrow (obj 0) 42 ∷ calls.CallOnceReturn (obj 0) ∷ [])
      ∷ ([])
      ∷ [];
}

abbrev pub recorded_check_0098 : Recorded
recorded_check_0098 = record {
  version = 1;
  lists =
      Some (did (controls.Start (thr 1) true) ∷ said replies.Ok ∷ made 0 0 0 ops.Begin (pos 0) (pos 0) replies.Ok ∷ made 0 0 1 ops.Finish (pos 0) (pos 0) replies.Ok ∷ said replies.Returned ∷ did (controls.Start (thr 2) true) ∷ said replies.Ok ∷ seen 0 0 2 ops.Passive (pos 0) (pos 0) replies.Ok ∷ said replies.Passive ∷ said replies.ResourceDeadlockWouldOccur ∷ did (controls.Join (thr 1)) ∷ said replies.Ok ∷ did (controls.Join (thr 2)) ∷ said replies.Ok ∷ said replies.InvalidArgument ∷ [])
      ∷ Some (seen 1 0 2 ops.Passive (pos 0) (pos 0) replies.Ok ∷ said replies.Passive ∷ seen 1 0 2 ops.Passive (pos 0) (pos 0) replies.Ok ∷ said replies.Passive ∷ [])
      ∷ Some ([])
      ∷ [];
}

-- a record without a flaw
abbrev pub scene_check_0115 : Scene
scene_check_0115 = record {
  version = 1;
  threads = threads.Plain ∷ threads.Plain ∷ threads.Plain ∷ [];
  objects = objects.Promise (thr 0) (thr 2) ∷ [];
  callbacks = [];
  bodies =
      (calls.Start (thr 2) ∷ calls.Start (thr 1) ∷ calls.SetValue (obj 0) (pos 5) ∷ calls.Join (thr 1) ∷ calls.Join (thr 2) ∷ calls.SetException (obj 0) 1 ∷ [])
      ∷ ([])
      ∷ (calls.GetFuture (obj 0) ∷ calls.Share (obj 0) ∷ [])
      ∷ [];
}

abbrev pub recorded_check_0115 : Recorded
recorded_check_0115 = record {
  version = 1;
  lists =
      Some (did (controls.Start (thr 2) false) ∷ said replies.NoThread ∷ did (controls.Start (thr 1) true) ∷ said replies.Ok ∷ made 0 0 0 ops.Set (pos 0) (pos 5) replies.Ok ∷ said replies.Ok ∷ did (controls.Join (thr 1)) ∷ said replies.Ok ∷ said replies.InvalidArgument ∷ said replies.PromiseAlreadySatisfied ∷ [])
      ∷ Some ([])
      ∷ None
      ∷ [];
}

-- a record without a flaw
abbrev pub scene_check_0135 : Scene
scene_check_0135 = record {
  version = 1;
  threads = threads.Plain ∷ threads.Stoppable (obj 0) ∷ threads.Stoppable (obj 1) ∷ threads.Plain ∷ threads.Launched (obj 2) ∷ [];
  objects = objects.StopOfThread ∷ objects.StopOfThread ∷ objects.Async policies.Deferred (functions.Throw 0) (thr 4) ∷ objects.Condition ∷ objects.Semaphore 2 3 ∷ objects.Task (thr 2) (thr 0) (functions.Return (negsuc 9223372036854775807)) ∷ objects.Shared ∷ [];
  callbacks = callback (obj 0) (actions.Small (smalls.NotifyAll (obj 3))) ∷ callback (obj 0) (actions.Small (smalls.Release (obj 4) 1)) ∷ [];
  bodies =
      (calls.Start (thr 2) ∷ calls.Start (thr 1) ∷ calls.Start (thr 3) ∷ calls.StopPossible (obj 0) ∷ calls.RequestStop (obj 0) ∷ calls.GetFuture (obj 5) ∷ calls.Join (thr 2) ∷ calls.Join (thr 3) ∷ calls.GetOutcome (obj 5) ∷ calls.Launch (obj 2) ∷ calls.GetOutcome (obj 2) ∷ calls.DropAsync (obj 2) ∷ calls.WaitFuture (obj 2) ∷ calls.GetOutcome (obj 2) ∷ calls.NotifyAll (obj 3) ∷ [])
      ∷ (calls.Register (cbk 0) ∷ calls.LockShared (obj 6) ∷ calls.Lock (obj 6) ∷ calls.UnlockShared (obj 6) ∷ calls.StopPossible (obj 0) ∷ calls.Register (cbk 1) ∷ calls.Deregister (cbk 1) ∷ calls.Deregister (cbk 1) ∷ [])
      ∷ (calls.Invoke (obj 5) ∷ calls.StopRequested (obj 0) ∷ [])
      ∷ ([])
      ∷ ([])
      ∷ [];
}

abbrev pub recorded_check_0135 : Recorded
recorded_check_0135 = record {
  version = 1;
  lists =
      Some (did (controls.Start (thr 2) true) ∷ said replies.Ok ∷ did (controls.Start (thr 1) true) ∷ said replies.Ok ∷ did (controls.Start (thr 3) true) ∷ said replies.Ok ∷ seen 0 0 1 ops.StopPossible (pos 0) (pos 0) replies.True ∷ said replies.True ∷ made 0 0 1 ops.Request (pos 0) (pos 0) replies.Ok ∷ made 0 0 2 ops.Begin (pos 4096) (pos 0) replies.Ok ∷ made 0 3 0 ops.NotifyAll (pos 0) (pos 0) (replies.Number (pos 0)) ∷ made 0 0 4 ops.Finish (pos 4096) (pos 0) replies.Ok ∷ seen 0 0 5 ops.Drained (pos 0) (pos 0) replies.Ok ∷ said replies.Made ∷ said replies.Ok ∷ did (controls.Join (thr 2)) ∷ said replies.Ok ∷ did (controls.Join (thr 3)) ∷ said replies.Ok ∷ seen 0 5 1 ops.Ready (pos 0) (pos 0) (replies.Outcome (outcomes.Value (negsuc 9223372036854775807))) ∷ said (replies.Outcome (outcomes.Value (negsuc 9223372036854775807))) ∷ made 0 2 0 ops.Defer (pos 0) (pos 0) replies.Ok ∷ said replies.Deferred ∷ made 0 2 1 ops.Run (pos 0) (pos 0) replies.Ok ∷ made 0 2 2 ops.Set (pos 1) (pos 0) replies.Ok ∷ seen 0 2 3 ops.Ready (pos 0) (pos 0) (replies.Outcome (outcomes.Exception 0)) ∷ said (replies.Outcome (outcomes.Exception 0)) ∷ said replies.NoState ∷ said replies.NoState ∷ said replies.NoState ∷ made 0 3 1 ops.NotifyAll (pos 0) (pos 0) (replies.Number (pos 0)) ∷ said (replies.Number (pos 0)) ∷ seen 0 0 6 ops.Already (pos 0) (pos 0) replies.Ok ∷ did (controls.Join (thr 1)) ∷ [])
      ∷ Some (made 1 0 0 ops.Register (pos 4096) (pos 0) replies.Ok ∷ said replies.Queued ∷ made 1 6 0 ops.LockShared (pos 0) (pos 0) replies.Ok ∷ said replies.Ok ∷ said replies.ResourceDeadlockWouldOccur ∷ made 1 6 1 ops.UnlockShared (pos 0) (pos 0) replies.Ok ∷ said replies.Ok ∷ seen 1 0 2 ops.StopPossible (pos 0) (pos 0) replies.True ∷ said replies.True ∷ made 1 0 3 ops.RegisterNow (pos 4101) (pos 0) replies.Ok ∷ made 1 4 0 ops.Release (pos 1) (pos 0) replies.Ok ∷ made 1 0 5 ops.Finish (pos 4101) (pos 0) replies.Ok ∷ said replies.Ran ∷ said replies.NotHeld ∷ said replies.NotHeld ∷ [])
      ∷ Some (made 2 5 0 ops.Set (pos 0) (negsuc 9223372036854775807) replies.Ok ∷ said replies.Ok ∷ seen 2 0 1 ops.StopRequested (pos 0) (pos 0) replies.False ∷ said replies.False ∷ [])
      ∷ Some ([])
      ∷ None
      ∷ [];
}

-- a record without a flaw
abbrev pub scene_check_0144 : Scene
scene_check_0144 = record {
  version = 1;
  threads = threads.Plain ∷ threads.Plain ∷ threads.Launched (obj 0) ∷ [];
  objects = objects.Async policies.Deferred (functions.Return (pos 9)) (thr 2) ∷ [];
  callbacks = [];
  bodies =
      (calls.Start (thr 1) ∷ calls.Join (thr 1) ∷ calls.Join (thr 0) ∷ calls.WaitFuture (obj 0) ∷ calls.Launch (obj 0) ∷ calls.Join (thr 1) ∷ [])
      ∷ ([])
      ∷ ([])
      ∷ [];
}

abbrev pub recorded_check_0144 : Recorded
recorded_check_0144 = record {
  version = 1;
  lists =
      Some (did (controls.Start (thr 1) true) ∷ said replies.Ok ∷ did (controls.Join (thr 1)) ∷ said replies.Ok ∷ said replies.ResourceDeadlockWouldOccur ∷ said replies.NoState ∷ made 0 0 0 ops.Defer (pos 0) (pos 0) replies.Ok ∷ said replies.Deferred ∷ said replies.InvalidArgument ∷ [])
      ∷ Some ([])
      ∷ None
      ∷ [];
}
