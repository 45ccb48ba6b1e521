-- Texts, each with the scenario that it means, by numbers.
use Rattle.std.specs.Prelude.{ℕ, List, ◌++◌, codes, pos, negsuc, [], ◌∷◌, Some}
use Rattle.cx_scene.specs.declared.declared.Object.TheVariants as objects
use Rattle.cx_scene.specs.declared.declared.Thread.TheVariants as threads
use Rattle.cx_scene.specs.declared.declared.Function.TheVariants as functions
use Rattle.cx_scene.specs.declared.declared.Policy.TheVariants as policies
use Rattle.cx_scene.specs.declared.declared.Small.TheVariants as smalls
use Rattle.cx_scene.specs.declared.declared.Action.TheVariants as actions
use Rattle.cx_scene.specs.declared.call.Call.TheVariants as calls
use Rattle.cx_scene.specs.declared.call.Relation.TheVariants as relations
use Rattle.cx_scene.specs.Scene.{Scene}
use Rattle.cx_cases.specs.Short.{obj, thr, cbk, callback}

-- the text
abbrev pub text_0010 : List ℕ
text_0010 = codes "cxthread 1\nthread e\ntask f main e return 1\nthread h0\nsemaphore q 65535 65535\nbarrier b0 2 release q 2\nbody e\nget_future f\nget_future f\narrive b0 1\nwait b0\nshare f\nrelease q 2\nend\nbody h0\nend\nmain\nstart h0\narrive b0 1\nstart e\njoin h0\njoin e\nend\n"

abbrev pub scene_0010 : Scene
scene_0010 = record {
  version = 1;
  threads = threads.Plain ∷ threads.Plain ∷ threads.Plain ∷ [];
  objects = objects.Task (thr 0) (thr 1) (functions.Return (pos 1)) ∷ objects.Semaphore 65535 65535 ∷ objects.Barrier 2 (Some (smalls.Release (obj 1) 2)) ∷ [];
  callbacks = [];
  bodies =
      (calls.Start (thr 2) ∷ calls.Arrive (obj 2) 1 ∷ calls.Start (thr 1) ∷ calls.Join (thr 2) ∷ calls.Join (thr 1) ∷ [])
      ∷ (calls.GetFuture (obj 0) ∷ calls.GetFuture (obj 0) ∷ calls.Arrive (obj 2) 1 ∷ calls.WaitBarrier (obj 2) ∷ calls.Share (obj 0) ∷ calls.Release (obj 1) 2 ∷ [])
      ∷ ([])
      ∷ [];
}

-- the text
abbrev pub text_0014 : List ℕ
text_0014 = codes "cxthread 1\nthread b\nonce o0\nbody b\ncall_once o0 return\nend\nmain\nstart b\njoin b\nend\n"

abbrev pub scene_0014 : Scene
scene_0014 = record {
  version = 1;
  threads = threads.Plain ∷ threads.Plain ∷ [];
  objects = objects.Once ∷ [];
  callbacks = [];
  bodies =
      (calls.Start (thr 1) ∷ calls.Join (thr 1) ∷ [])
      ∷ (calls.CallOnceReturn (obj 0) ∷ [])
      ∷ [];
}

-- the text
abbrev pub text_0017 : List ℕ
text_0017 = codes "cxthread 1\njthread j0\njthread j\nlatch l 5\nasync x async return 2\nbody j0\ncount_down l 0\ntry_wait l\nrequest_stop j\ntry_wait l\nstop_possible j\nend\nbody j\ntry_wait l\nend\nmain\nlaunch x\ncount_down l 5\njoin j\nstart j\nstart j0\nend\n"

abbrev pub scene_0017 : Scene
scene_0017 = record {
  version = 1;
  threads = threads.Plain ∷ threads.Stoppable (obj 0) ∷ threads.Stoppable (obj 1) ∷ threads.Launched (obj 3) ∷ [];
  objects = objects.StopOfThread ∷ objects.StopOfThread ∷ objects.Latch 5 ∷ objects.Async policies.Async (functions.Return (pos 2)) (thr 3) ∷ [];
  callbacks = [];
  bodies =
      (calls.Launch (obj 3) ∷ calls.CountDown (obj 2) 5 ∷ calls.Join (thr 2) ∷ calls.Start (thr 2) ∷ calls.Start (thr 1) ∷ [])
      ∷ (calls.CountDown (obj 2) 0 ∷ calls.TryWait (obj 2) ∷ calls.RequestStop (obj 1) ∷ calls.TryWait (obj 2) ∷ calls.StopPossible (obj 1) ∷ [])
      ∷ (calls.TryWait (obj 2) ∷ [])
      ∷ ([])
      ∷ [];
}

-- the text
abbrev pub text_0020 : List ℕ
text_0020 = codes "cxthread 1\njthread j\nthread a\nthread i\nsemaphore q 0 1\nbarrier b 1 release q 0\nbody j\nend\nbody a\nstop_possible j\nend\nbody i\nstop_possible j\nend\nmain\narrive_and_drop b\nrequest_stop j\nstart a\nstart j\nstart i\njoin j\njoin i\njoin a\nend\n"

abbrev pub scene_0020 : Scene
scene_0020 = record {
  version = 1;
  threads = threads.Plain ∷ threads.Stoppable (obj 0) ∷ threads.Plain ∷ threads.Plain ∷ [];
  objects = objects.StopOfThread ∷ objects.Semaphore 0 1 ∷ objects.Barrier 1 (Some (smalls.Release (obj 1) 0)) ∷ [];
  callbacks = [];
  bodies =
      (calls.ArriveAndDrop (obj 2) ∷ calls.RequestStop (obj 0) ∷ calls.Start (thr 2) ∷ calls.Start (thr 1) ∷ calls.Start (thr 3) ∷ calls.Join (thr 1) ∷ calls.Join (thr 3) ∷ calls.Join (thr 2) ∷ [])
      ∷ ([])
      ∷ (calls.StopPossible (obj 0) ∷ [])
      ∷ (calls.StopPossible (obj 0) ∷ [])
      ∷ [];
}

-- the text
abbrev pub text_0032 : List ℕ
text_0032 = codes " cxthread 1" ++ 9 ∷ [] ++ 9 ∷ [] ++ 9 ∷ [] ++ 13 ∷ [] ++ codes "\n" ++ 9 ∷ [] ++ 9 ∷ [] ++ codes "  thread" ++ 9 ∷ [] ++ codes "e0  " ++ 13 ∷ [] ++ codes "\n" ++ 9 ∷ [] ++ 9 ∷ [] ++ codes " " ++ 9 ∷ [] ++ codes "shared_promise p0 main e0 main" ++ 13 ∷ [] ++ codes "\nbody e0" ++ 13 ∷ [] ++ codes "\nget_future p0" ++ 13 ∷ [] ++ codes "\nget" ++ 9 ∷ [] ++ codes "p0 " ++ 9 ∷ [] ++ 13 ∷ [] ++ codes "\nget_future" ++ 9 ∷ [] ++ 9 ∷ [] ++ codes "p0" ++ 13 ∷ [] ++ codes "\n " ++ 9 ∷ [] ++ 9 ∷ [] ++ 9 ∷ [] ++ codes "end" ++ 13 ∷ [] ++ codes "\nmain" ++ 13 ∷ [] ++ codes "\n" ++ 13 ∷ [] ++ codes "\nstart  e0" ++ 9 ∷ [] ++ 9 ∷ [] ++ 9 ∷ [] ++ codes " " ++ 13 ∷ [] ++ codes "\nget p0 " ++ 13 ∷ [] ++ codes "\n" ++ 9 ∷ [] ++ codes " get p0" ++ 13 ∷ [] ++ codes "\n  " ++ 9 ∷ [] ++ codes " wait p0" ++ 13 ∷ [] ++ codes "\nshare" ++ 9 ∷ [] ++ codes " " ++ 9 ∷ [] ++ codes "p0" ++ 13 ∷ [] ++ codes "\ndrop" ++ 9 ∷ [] ++ codes "p0" ++ 13 ∷ [] ++ codes "\njoin e0" ++ 13 ∷ [] ++ codes "\nend" ++ 13 ∷ [] ++ codes "\n"

abbrev pub scene_0032 : Scene
scene_0032 = record {
  version = 1;
  threads = threads.Plain ∷ threads.Plain ∷ [];
  objects = objects.SharedPromise (thr 0) (1 ∷ 0 ∷ []) ∷ [];
  callbacks = [];
  bodies =
      (calls.Start (thr 1) ∷ calls.GetOutcome (obj 0) ∷ calls.GetOutcome (obj 0) ∷ calls.WaitFuture (obj 0) ∷ calls.Share (obj 0) ∷ calls.DropPromise (obj 0) ∷ calls.Join (thr 1) ∷ [])
      ∷ (calls.GetFuture (obj 0) ∷ calls.GetOutcome (obj 0) ∷ calls.GetFuture (obj 0) ∷ [])
      ∷ [];
}

-- the text
abbrev pub text_0053 : List ℕ
text_0053 = codes "cxthread 1\nthread b\nstop st main b\nsemaphore q0 5 5\ncallback k0 st release q0 0\nsemaphore q 1 1\ncallback k st release q 0\ncallback k1 st release q 1\nbody b\nrequest_stop st\nregister k1\nderegister k1\nderegister k1\nend\nmain\nstart b\nanother st\nregister k0\nrequest_stop st\nderegister k0\njoin b\nregister k\nend\n"

abbrev pub scene_0053 : Scene
scene_0053 = record {
  version = 1;
  threads = threads.Plain ∷ threads.Plain ∷ [];
  objects = objects.Stop (0 ∷ 1 ∷ []) ∷ objects.Semaphore 5 5 ∷ objects.Semaphore 1 1 ∷ [];
  callbacks = callback (obj 0) (actions.Small (smalls.Release (obj 1) 0)) ∷ callback (obj 0) (actions.Small (smalls.Release (obj 2) 0)) ∷ callback (obj 0) (actions.Small (smalls.Release (obj 2) 1)) ∷ [];
  bodies =
      (calls.Start (thr 1) ∷ calls.Another (obj 0) ∷ calls.Register (cbk 0) ∷ calls.RequestStop (obj 0) ∷ calls.Deregister (cbk 0) ∷ calls.Join (thr 1) ∷ calls.Register (cbk 1) ∷ [])
      ∷ (calls.RequestStop (obj 0) ∷ calls.Register (cbk 2) ∷ calls.Deregister (cbk 2) ∷ calls.Deregister (cbk 2) ∷ [])
      ∷ [];
}

-- the text
abbrev pub text_0094 : List ℕ
text_0094 = codes "cxthread 1\njthread j\nthread d0\ncondition c\nmutex m 1\nbody j\nstop_requested j\nwait_pred c m 0 <= 1\nadd m 0 -1\nnotify_one c\nunlock m\nunlock m\nend\nbody d0\nwait_pred c m 0 = 0\nunlock m\nend\nmain\nstart d0\nstart j\nlock m\nadd m 0 1\njoin j\njoin d0\nnotify_all c\nunlock m\nend\n"

abbrev pub scene_0094 : Scene
scene_0094 = record {
  version = 1;
  threads = threads.Plain ∷ threads.Stoppable (obj 0) ∷ threads.Plain ∷ [];
  objects = objects.StopOfThread ∷ objects.Condition ∷ objects.Mutex 1 ∷ [];
  callbacks = [];
  bodies =
      (calls.Start (thr 2) ∷ calls.Start (thr 1) ∷ calls.Lock (obj 2) ∷ calls.Add (obj 2) 0 (pos 1) ∷ calls.Join (thr 1) ∷ calls.Join (thr 2) ∷ calls.NotifyAll (obj 1) ∷ calls.Unlock (obj 2) ∷ [])
      ∷ (calls.StopRequested (obj 0) ∷ calls.WaitPredicate (obj 1) (obj 2) (record { number = 0; relation = relations.AtMost; value = (pos 1) }) ∷ calls.Add (obj 2) 0 (negsuc 0) ∷ calls.NotifyOne (obj 1) ∷ calls.Unlock (obj 2) ∷ calls.Unlock (obj 2) ∷ [])
      ∷ (calls.WaitPredicate (obj 1) (obj 2) (record { number = 0; relation = relations.Equal; value = (pos 0) }) ∷ calls.Unlock (obj 2) ∷ [])
      ∷ [];
}

-- the text
abbrev pub text_0095 : List ℕ
text_0095 = codes "cxthread 1\njthread w\nonce o\nbody w\ncall_once o return\ncall_once o return\nend\nmain\nstart w\ncall_once o return\ncall_once o throw 4294967295\nend\n"

abbrev pub scene_0095 : Scene
scene_0095 = record {
  version = 1;
  threads = threads.Plain ∷ threads.Stoppable (obj 0) ∷ [];
  objects = objects.StopOfThread ∷ objects.Once ∷ [];
  callbacks = [];
  bodies =
      (calls.Start (thr 1) ∷ calls.CallOnceReturn (obj 1) ∷ calls.CallOnceThrow (obj 1) 4294967295 ∷ [])
      ∷ (calls.CallOnceReturn (obj 1) ∷ calls.CallOnceReturn (obj 1) ∷ [])
      ∷ [];
}

-- the text
abbrev pub text_0097 : List ℕ
text_0097 = codes "cxthread 1\nthread b\nthread b0\nstop st b0\ncondition c\nmutex m0 2\nbody b\nend\nbody b0\nrequest_stop st\nnotify_one c\nwait c m0\nlock m0\nwait_stop c m0 st 0 = 1\nunlock m0\nlock m0\nadd m0 0 1\nnotify_all c\nunlock m0\nend\nmain\nstart b\nlock m0\nunlock m0\njoin b\nend\n"

abbrev pub scene_0097 : Scene
scene_0097 = record {
  version = 1;
  threads = threads.Plain ∷ threads.Plain ∷ threads.Plain ∷ [];
  objects = objects.Stop (2 ∷ []) ∷ objects.Condition ∷ objects.Mutex 2 ∷ [];
  callbacks = [];
  bodies =
      (calls.Start (thr 1) ∷ calls.Lock (obj 2) ∷ calls.Unlock (obj 2) ∷ calls.Join (thr 1) ∷ [])
      ∷ ([])
      ∷ (calls.RequestStop (obj 0) ∷ calls.NotifyOne (obj 1) ∷ calls.WaitCondition (obj 1) (obj 2) ∷ calls.Lock (obj 2) ∷ calls.WaitStop (obj 1) (obj 2) (obj 0) (record { number = 0; relation = relations.Equal; value = (pos 1) }) ∷ calls.Unlock (obj 2) ∷ calls.Lock (obj 2) ∷ calls.Add (obj 2) 0 (pos 1) ∷ calls.NotifyAll (obj 1) ∷ calls.Unlock (obj 2) ∷ [])
      ∷ [];
}

-- the text
abbrev pub text_0110 : List ℕ
text_0110 = codes "cxthread 1\nthread b0\nlatch l 0\nshared s\nbody b0\nwait l\nend\nmain\nwait l\nlock_shared s\nlock s\nunlock_shared s\nlock s\nstart b0\nunlock s\nlock_shared s\nunlock_shared s\nlock_shared s\nunlock s\nunlock_shared s\njoin b0\nend\n"

abbrev pub scene_0110 : Scene
scene_0110 = record {
  version = 1;
  threads = threads.Plain ∷ threads.Plain ∷ [];
  objects = objects.Latch 0 ∷ objects.Shared ∷ [];
  callbacks = [];
  bodies =
      (calls.WaitLatch (obj 0) ∷ calls.LockShared (obj 1) ∷ calls.Lock (obj 1) ∷ calls.UnlockShared (obj 1) ∷ calls.Lock (obj 1) ∷ calls.Start (thr 1) ∷ calls.Unlock (obj 1) ∷ calls.LockShared (obj 1) ∷ calls.UnlockShared (obj 1) ∷ calls.LockShared (obj 1) ∷ calls.Unlock (obj 1) ∷ calls.UnlockShared (obj 1) ∷ calls.Join (thr 1) ∷ [])
      ∷ (calls.WaitLatch (obj 0) ∷ [])
      ∷ [];
}
