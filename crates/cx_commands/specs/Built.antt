-- Which scenarios `run` is built for.
use Rattle.std.specs.Prelude.{◌==◌, ◌&&◌, Bool, true, false, List, [], ◌∷◌, Option, Some}
use Rattle.std.specs.List.{list_all}
use Rattle.cx_scene.specs.declared.declared.Callback.{Callback}
use Rattle.cx_scene.specs.declared.declared.Object.{Object}
use Rattle.cx_scene.specs.declared.declared.Object.TheVariants as objects
use Rattle.cx_scene.specs.declared.declared.Small.{Small}
use Rattle.cx_scene.specs.declared.declared.Small.TheVariants as smalls
use Rattle.cx_scene.specs.Scene.{Scene}
use Rattle.cx_script.specs.declared.declared.Declared.{Declared}
use Rattle.cx_script.specs.declared.declared.Declared.TheVariants as declared
use Rattle.cx_script.specs.Script.{Declaration, Script}

-- a completion that notifies no condition, or none
abbrev pub notifies_none : Option Small → Bool
notifies_none (Some (smalls.NotifyOne c)) = false
notifies_none (Some (smalls.NotifyAll c)) = false
notifies_none _ = true

-- a thread, a mutex without numbers, a recursive or a shared mutex, a semaphore, a latch, a barrier whose completion notifies no condition, or a once flag
abbrev pub may_run : Declared → Bool
may_run declared.Thread = true
may_run (declared.Mutex numbers) = numbers == 0
may_run declared.Recursive = true
may_run (declared.Semaphore count max) = true
may_run (declared.Latch count) = true
may_run declared.Shared = true
may_run (declared.Barrier count small) = notifies_none small
may_run declared.Once = true
may_run _ = false

-- the scenario declares nothing else
abbrev pub is_built : Script → Bool
is_built s = list_all (λ (d : Declaration). may_run d.what) s.declarations

-- an object that such a declaration makes
abbrev pub is_built_object : Object → Bool
is_built_object (objects.Mutex numbers) = numbers == 0
is_built_object objects.Recursive = true
is_built_object (objects.Semaphore count max) = true
is_built_object (objects.Latch count) = true
is_built_object objects.Shared = true
is_built_object (objects.Barrier count small) = notifies_none small
is_built_object objects.Once = true
is_built_object _ = false

abbrev pub is_none : List Callback → Bool
is_none [] = true
is_none (k ∷ ks) = false

-- the same by numbers: a thread that isn't a plain one has an object of its own
abbrev pub is_built_by : Scene → Bool
is_built_by s = list_all is_built_object s.objects && is_none s.callbacks
