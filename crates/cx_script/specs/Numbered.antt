-- A scenario by numbers, and which scenarios a text can mean.
use Rattle.std.specs.Prelude.{◌≡◌, ℕ, ◌+◌, ◌≤◌, List, [], ◌∷◌, ◌++◌, length, Ok}
use Rattle.std.specs.List.{flat_map}
use Rattle.cx_scene.specs.declared.declared.Object.{Object}
use Rattle.cx_scene.specs.declared.declared.Object.TheVariants as objects
use Rattle.cx_scene.specs.declared.declared.Thread.{Thread}
use Rattle.cx_scene.specs.declared.declared.Thread.TheVariants as threads
use Rattle.cx_scene.specs.declared.declared.Callback.{Callback}
use Rattle.cx_scene.specs.Scene.{Scene}
use Rattle.cx_script.specs.declared.declared.Declared.{Declared}
use Rattle.cx_script.specs.declared.declared.Declared.TheVariants as declared
use Rattle.cx_script.specs.Script.{Declaration, Script, meaning}

-- the thread that a declaration makes, where the next object has number o
abbrev pub threads_made : ℕ → Declared → List Thread
threads_made o declared.Thread = threads.Plain ∷ []
threads_made o declared.JThread = threads.Stoppable (record { 0 = o }) ∷ []
threads_made o (declared.Async policy function) = threads.Launched (record { 0 = o }) ∷ []
threads_made o _ = []

-- the object that a declaration makes, where the next thread has number t
abbrev pub objects_made : ℕ → Declared → List Object
objects_made t declared.Thread = []
objects_made t declared.JThread = objects.StopOfThread ∷ []
objects_made t (declared.Async policy function) = objects.Async policy function (record { 0 = t }) ∷ []
objects_made t (declared.Mutex numbers) = objects.Mutex numbers ∷ []
objects_made t declared.Recursive = objects.Recursive ∷ []
objects_made t declared.Shared = objects.Shared ∷ []
objects_made t (declared.Semaphore count max) = objects.Semaphore count max ∷ []
objects_made t (declared.Latch count) = objects.Latch count ∷ []
objects_made t (declared.Barrier count small) = objects.Barrier count small ∷ []
objects_made t declared.Once = objects.Once ∷ []
objects_made t declared.Condition = objects.Condition ∷ []
objects_made t (declared.Stop holders) = objects.Stop holders ∷ []
objects_made t (declared.Callback stop action) = []
objects_made t (declared.Promise owner reader) = objects.Promise owner reader ∷ []
objects_made t (declared.SharedPromise owner readers) = objects.SharedPromise owner readers ∷ []
objects_made t (declared.Task owner reader function) = objects.Task owner reader function ∷ []

-- the callback that a declaration makes
abbrev pub callbacks_made : Declared → List Callback
callbacks_made (declared.Callback stop action) = record { stop = stop; action = action } ∷ []
callbacks_made _ = []

-- how many threads and how many objects a declaration makes
abbrev pub thread_step : Declared → ℕ
thread_step d = length (threads_made 0 d)

-- how many objects a declaration makes
abbrev pub object_step : Declared → ℕ
object_step d = length (objects_made 0 d)

-- the threads of these declarations, where o objects stand before them
abbrev pub threads_from : ℕ → List Declaration → List Thread
threads_from o [] = []
threads_from o (d ∷ ds) = threads_made o d.what ++ threads_from (o + object_step d.what) ds

-- the objects of these declarations, where t threads stand before them
abbrev pub objects_from : ℕ → List Declaration → List Object
objects_from t [] = []
objects_from t (d ∷ ds) = objects_made t d.what ++ objects_from (t + thread_step d.what) ds

-- a scenario by numbers, in order of declarations; main is thread 0
abbrev pub numbered : Script → Scene
numbered s = record {
  version = s.version;
  threads = threads.Plain ∷ threads_from 0 s.declarations;
  objects = objects_from 1 s.declarations;
  callbacks = flat_map (λ (d : Declaration). callbacks_made d.what) s.declarations;
  bodies = s.bodies;
}

-- a scenario that some text means, under some limit on its bytes
pub record IsScript (s : Script) : Type 0 where
  pub limit : ℕ
  pub text : List ℕ
  pub within : limit ≤ 1073741824
  pub means : meaning limit text ≡ Ok s
