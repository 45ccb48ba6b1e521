-- What a scenario says.
use Rattle.std.specs.Prelude.{ℕ, ◌/◌, ◌%◌, not, ℤ, Bool, true, false, List, [], map, length, slice_get, Option, Some, None, int_lt, int_le, option_map, option_and_then}
use Rattle.cx_names.specs.Replies.{int_eq}
use Rattle.cx_names.specs.declared.ObjectNo.{ObjectNo}
use Rattle.cx_names.specs.declared.Outcome.{Outcome}
use Rattle.cx_names.specs.declared.Outcome.TheVariants as outcomes
use Rattle.cx_machine.specs.declared.kind.Kind.{Kind}
use Rattle.cx_machine.specs.declared.kind.Kind.TheVariants as kinds
use Rattle.cx_scene.specs.declared.declared.Function.{Function}
use Rattle.cx_scene.specs.declared.declared.Function.TheVariants as functions
use Rattle.cx_scene.specs.declared.declared.Object.{Object}
use Rattle.cx_scene.specs.declared.declared.Object.TheVariants as objects
use Rattle.cx_scene.specs.declared.declared.Thread.{Thread}
use Rattle.cx_scene.specs.declared.declared.Callback.{Callback}
use Rattle.cx_scene.specs.declared.declared.Registration.{Registration}
use Rattle.cx_scene.specs.declared.declared.Registration.TheVariants.{OfCallback, OfWait}
use Rattle.cx_scene.specs.declared.call.Call.{Call}
use Rattle.cx_scene.specs.declared.call.Call.TheVariants as calls
use Rattle.cx_scene.specs.declared.call.Relation.{Relation}
use Rattle.cx_scene.specs.declared.call.Relation.TheVariants as relations
use Rattle.cx_scene.specs.declared.plan.Plan.{Plan}

-- threads, objects, callbacks and bodies by their numbers; thread 0 is main
pub record Scene : Type 0 where
  pub version : ℕ
  pub threads : List Thread
  pub objects : List Object
  pub callbacks : List Callback
  pub bodies : List (List Call)

abbrev pub scene_of : Plan → Scene
scene_of s = record { version = s.version; threads = s.threads.items; objects = s.objects.items; callbacks = s.callbacks.items; bodies = map (λ b. b.items) s.bodies.items }

abbrev pub thread_count : Scene → ℕ
thread_count s = length s.threads

abbrev pub outcome_of : Function → Outcome
outcome_of (functions.Return v) = outcomes.Value v
outcome_of (functions.Throw e) = outcomes.Exception e

-- the kind of an object, and its opening values
abbrev pub kind_of : Object → Kind
kind_of (objects.Mutex numbers) = kinds.Mutex false numbers
kind_of objects.Recursive = kinds.Mutex true 0
kind_of objects.Shared = kinds.Shared
kind_of (objects.Semaphore count max) = kinds.Semaphore count max
kind_of (objects.Latch count) = kinds.Latch count
kind_of (objects.Barrier count small) = kinds.Barrier count
kind_of objects.Once = kinds.Once
kind_of objects.Condition = kinds.Condition
kind_of (objects.Stop holders) = kinds.Stop (length holders)
kind_of objects.StopOfThread = kinds.Stop 1
kind_of (objects.Promise owner reader) = kinds.Future
kind_of (objects.SharedPromise owner readers) = kinds.Future
kind_of (objects.Task owner reader function) = kinds.Future
kind_of (objects.Async policy function thread) = kinds.Future

abbrev pub holds : ℤ → Relation → ℤ → Bool
holds x relations.Less v = int_lt x v
holds x relations.AtMost v = int_le x v
holds x relations.Equal v = int_eq x v
holds x relations.Unequal v = not (int_eq x v)
holds x relations.AtLeast v = int_le v x
holds x relations.Greater v = int_lt v x

abbrev pub body_of : Scene → ℕ → List Call
body_of s t = body (slice_get s.bodies t)
  where
    body : Option (List Call) → List Call
    body None = []
    body (Some calls) = calls

-- ---- what an ID names: a callback that a call registers, or a stop-aware wait

abbrev pub registers : Call → Option Registration
registers (calls.Register k) = Some (OfCallback k)
registers (calls.WaitStop c m st p) = Some (OfWait c st)
registers _ = None

-- an ID is a thread's number times 4,096 plus the number of its call
abbrev pub registration : Scene → ℕ → Option Registration
registration s id = option_and_then registers (slice_get (body_of s (id / 4096)) (id % 4096))

-- the stop state of a registration
abbrev pub stop_of : Scene → Registration → Option ObjectNo
stop_of s (OfCallback k) = option_map (λ (c : Callback). c.stop) (slice_get s.callbacks k.0)
stop_of s (OfWait c st) = Some st
