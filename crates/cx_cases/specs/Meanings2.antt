-- Texts, each with the scenario that it means, by numbers.
use Rattle.std.specs.Prelude.{ℕ, List, ◌++◌, codes, pos, negsuc, [], ◌∷◌, Some}
use Rattle.cx_scene.specs.declared.declared.Object.TheVariants as objects
use Rattle.cx_scene.specs.declared.declared.Thread.TheVariants as threads
use Rattle.cx_scene.specs.declared.declared.Small.TheVariants as smalls
use Rattle.cx_scene.specs.declared.call.Call.TheVariants as calls
use Rattle.cx_scene.specs.Scene.{Scene}
use Rattle.cx_cases.specs.Short.{obj, thr}

-- the text
abbrev pub text_0121 : List ℕ
text_0121 = codes "cxthread 1\njthread threw\nthread b0\ncondition c\nbarrier b 2 notify_one c\nbody threw\nend\nbody b0\narrive b 1\nwait b\narrive_and_wait b\nend\nmain\njoin main\nstart b0\nstart threw\narrive_and_wait b\narrive_and_wait b\njoin b0\nend\n"

abbrev pub scene_0121 : Scene
scene_0121 = record {
  version = 1;
  threads = threads.Plain ∷ threads.Stoppable (obj 0) ∷ threads.Plain ∷ [];
  objects = objects.StopOfThread ∷ objects.Condition ∷ objects.Barrier 2 (Some (smalls.NotifyOne (obj 1))) ∷ [];
  callbacks = [];
  bodies =
      (calls.Join (thr 0) ∷ calls.Start (thr 2) ∷ calls.Start (thr 1) ∷ calls.ArriveAndWait (obj 2) ∷ calls.ArriveAndWait (obj 2) ∷ calls.Join (thr 2) ∷ [])
      ∷ ([])
      ∷ (calls.Arrive (obj 2) 1 ∷ calls.WaitBarrier (obj 2) ∷ calls.ArriveAndWait (obj 2) ∷ [])
      ∷ [];
}

-- the text
abbrev pub text_0128 : List ℕ
text_0128 = 9 ∷ [] ++ 9 ∷ [] ++ 9 ∷ [] ++ 9 ∷ [] ++ codes "\ncxthread 1\njthread j0\n" ++ 9 ∷ [] ++ 9 ∷ [] ++ codes "thread a0\njthread j1 " ++ 9 ∷ [] ++ codes " \nthread d0\npromise p0 j0 " ++ 9 ∷ [] ++ codes "  d0\nbody" ++ 9 ∷ [] ++ codes " " ++ 9 ∷ [] ++ 9 ∷ [] ++ codes "j0\nrequest_stop " ++ 9 ∷ [] ++ 9 ∷ [] ++ codes "j1" ++ 9 ∷ [] ++ codes " " ++ 9 ∷ [] ++ codes "\ndrop p0\nend\nbody" ++ 9 ∷ [] ++ codes "d0" ++ 9 ∷ [] ++ codes "\n" ++ 9 ∷ [] ++ 9 ∷ [] ++ codes " " ++ 9 ∷ [] ++ codes "get_future p0\nend" ++ 9 ∷ [] ++ codes "  \nbody" ++ 9 ∷ [] ++ codes "a0\nstop_requested  " ++ 9 ∷ [] ++ codes " j1\nend\n  " ++ 9 ∷ [] ++ codes " main" ++ 9 ∷ [] ++ codes "\nstart " ++ 9 ∷ [] ++ 9 ∷ [] ++ codes " d0\nstart a0\nstart" ++ 9 ∷ [] ++ codes " " ++ 9 ∷ [] ++ codes " j0\n\n    start j1\njoin d0\njoin a0\n  end" ++ 9 ∷ [] ++ 9 ∷ [] ++ codes "\n"

abbrev pub scene_0128 : Scene
scene_0128 = record {
  version = 1;
  threads = threads.Plain ∷ threads.Stoppable (obj 0) ∷ threads.Plain ∷ threads.Stoppable (obj 1) ∷ threads.Plain ∷ [];
  objects = objects.StopOfThread ∷ objects.StopOfThread ∷ objects.Promise (thr 1) (thr 4) ∷ [];
  callbacks = [];
  bodies =
      (calls.Start (thr 4) ∷ calls.Start (thr 2) ∷ calls.Start (thr 1) ∷ calls.Start (thr 3) ∷ calls.Join (thr 4) ∷ calls.Join (thr 2) ∷ [])
      ∷ (calls.RequestStop (obj 1) ∷ calls.DropPromise (obj 2) ∷ [])
      ∷ (calls.StopRequested (obj 1) ∷ [])
      ∷ ([])
      ∷ (calls.GetFuture (obj 2) ∷ [])
      ∷ [];
}

-- the text
abbrev pub text_0133 : List ℕ
text_0133 = codes "cxthread 1\nthread b0\nmutex m0 0\nbody b0\ntry_lock m0\nunlock m0\ntry_lock m0\nunlock m0\nend\nmain\nstart b0\nlock m0\nunlock m0\ntry_lock m0\nunlock m0\nunlock m0\nlock m0\nunlock m0\nunlock m0\njoin b0\nend\n"

abbrev pub scene_0133 : Scene
scene_0133 = record {
  version = 1;
  threads = threads.Plain ∷ threads.Plain ∷ [];
  objects = objects.Mutex 0 ∷ [];
  callbacks = [];
  bodies =
      (calls.Start (thr 1) ∷ calls.Lock (obj 0) ∷ calls.Unlock (obj 0) ∷ calls.TryLock (obj 0) ∷ calls.Unlock (obj 0) ∷ calls.Unlock (obj 0) ∷ calls.Lock (obj 0) ∷ calls.Unlock (obj 0) ∷ calls.Unlock (obj 0) ∷ calls.Join (thr 1) ∷ [])
      ∷ (calls.TryLock (obj 0) ∷ calls.Unlock (obj 0) ∷ calls.TryLock (obj 0) ∷ calls.Unlock (obj 0) ∷ [])
      ∷ [];
}

-- the text
abbrev pub text_0137 : List ℕ
text_0137 = codes "cxthread" ++ 9 ∷ [] ++ 9 ∷ [] ++ 9 ∷ [] ++ codes " 1\n\njthread j\n" ++ 9 ∷ [] ++ codes " condition c0 " ++ 9 ∷ [] ++ codes "  \nshared" ++ 9 ∷ [] ++ codes "s\n" ++ 9 ∷ [] ++ codes "body j" ++ 9 ∷ [] ++ 9 ∷ [] ++ codes "\nlock   " ++ 9 ∷ [] ++ codes "s" ++ 9 ∷ [] ++ codes "   \nunlock s" ++ 9 ∷ [] ++ codes "   \n\n" ++ 9 ∷ [] ++ codes "  " ++ 9 ∷ [] ++ codes "end\n" ++ 9 ∷ [] ++ 9 ∷ [] ++ codes "  \n\nmain" ++ 9 ∷ [] ++ codes "   \nstart j\nnotify_one  c0\nnotify_one" ++ 9 ∷ [] ++ codes "c0\n" ++ 9 ∷ [] ++ 9 ∷ [] ++ codes " notify_one c0\n" ++ 9 ∷ [] ++ codes " " ++ 9 ∷ [] ++ codes "join main\n" ++ 9 ∷ [] ++ codes "  join j\nend\n"

abbrev pub scene_0137 : Scene
scene_0137 = record {
  version = 1;
  threads = threads.Plain ∷ threads.Stoppable (obj 0) ∷ [];
  objects = objects.StopOfThread ∷ objects.Condition ∷ objects.Shared ∷ [];
  callbacks = [];
  bodies =
      (calls.Start (thr 1) ∷ calls.NotifyOne (obj 1) ∷ calls.NotifyOne (obj 1) ∷ calls.NotifyOne (obj 1) ∷ calls.Join (thr 0) ∷ calls.Join (thr 1) ∷ [])
      ∷ (calls.Lock (obj 2) ∷ calls.Unlock (obj 2) ∷ [])
      ∷ [];
}

-- the text
abbrev pub text_0143 : List ℕ
text_0143 = codes "cxthread 1\njthread w\njthread w0\nthread a0\nsemaphore q 3 3\nbody w\nrelease q 1\ntry_acquire q\nend\nbody w0\nrelease q 1\nend\nbody a0\nend\nmain\nacquire q\nstart w0\nstart a0\nstart w\njoin w0\njoin a0\nend\n"

abbrev pub scene_0143 : Scene
scene_0143 = record {
  version = 1;
  threads = threads.Plain ∷ threads.Stoppable (obj 0) ∷ threads.Stoppable (obj 1) ∷ threads.Plain ∷ [];
  objects = objects.StopOfThread ∷ objects.StopOfThread ∷ objects.Semaphore 3 3 ∷ [];
  callbacks = [];
  bodies =
      (calls.Acquire (obj 2) ∷ calls.Start (thr 2) ∷ calls.Start (thr 3) ∷ calls.Start (thr 1) ∷ calls.Join (thr 2) ∷ calls.Join (thr 3) ∷ [])
      ∷ (calls.Release (obj 2) 1 ∷ calls.TryAcquire (obj 2) ∷ [])
      ∷ (calls.Release (obj 2) 1 ∷ [])
      ∷ ([])
      ∷ [];
}

-- the text
abbrev pub text_0144 : List ℕ
text_0144 = codes "cxthread 1\nthread a\nmutex m 3\nmutex m1 1\nbody a\nset m1 0 -2\nset m 0 1\nget m 1\nlock_all m m1\nlock m1\nunlock m\nunlock m1\nunlock m1\nend\nmain\nstart a\ntry_lock_all m1 m\nadd m 0 1\nunlock m\nunlock m1\nlock_all m m1\nadd m1 0 1\nunlock m1\nunlock m\ntry_lock_all m1 m\nadd m 0 1\nunlock m1\nunlock m\njoin a\nend\n"

abbrev pub scene_0144 : Scene
scene_0144 = record {
  version = 1;
  threads = threads.Plain ∷ threads.Plain ∷ [];
  objects = objects.Mutex 3 ∷ objects.Mutex 1 ∷ [];
  callbacks = [];
  bodies =
      (calls.Start (thr 1) ∷ calls.TryLockAll (1 ∷ 0 ∷ []) ∷ calls.Add (obj 0) 0 (pos 1) ∷ calls.Unlock (obj 0) ∷ calls.Unlock (obj 1) ∷ calls.LockAll (0 ∷ 1 ∷ []) ∷ calls.Add (obj 1) 0 (pos 1) ∷ calls.Unlock (obj 1) ∷ calls.Unlock (obj 0) ∷ calls.TryLockAll (1 ∷ 0 ∷ []) ∷ calls.Add (obj 0) 0 (pos 1) ∷ calls.Unlock (obj 1) ∷ calls.Unlock (obj 0) ∷ calls.Join (thr 1) ∷ [])
      ∷ (calls.Set (obj 1) 0 (negsuc 1) ∷ calls.Set (obj 0) 0 (pos 1) ∷ calls.Get (obj 0) 1 ∷ calls.LockAll (0 ∷ 1 ∷ []) ∷ calls.Lock (obj 1) ∷ calls.Unlock (obj 0) ∷ calls.Unlock (obj 1) ∷ calls.Unlock (obj 1) ∷ [])
      ∷ [];
}
