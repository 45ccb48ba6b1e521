-- The names of a scenario, as the lines of a record use them.
use Rattle.std.specs.Prelude.{◌≡◌, ℕ, suc, ℤ, pos, Bool, true, false, ◌&&◌, ◌||◌, List, [], ◌∷◌, map, slice_get, Option, Some, None, is_some, nat_lt, if◌then◌else◌, option_map, option_and_then}
use Rattle.cx_index.specs.Places.{place_of}
use Rattle.cx_machine.specs.declared.kind.Kind.{Kind}
use Rattle.cx_machine.specs.declared.kind.Kind.TheVariants as kinds
use Rattle.cx_scene.specs.declared.declared.Thread.{Thread}
use Rattle.cx_scene.specs.Scene.{kind_of}
use Rattle.cx_text.specs.declared.form.Sort.{Sort}
use Rattle.cx_text.specs.declared.form.Sort.TheVariants as sorts
use Rattle.cx_script.specs.Script.{Script, Names, names_in}
use Rattle.cx_script.specs.Numbered.{numbered}
use Rattle.cx_history.specs.IsRecord.{can_start, can_launch}

-- a scenario's version, its names, and what the threads and objects of these names are, all by their numbers
pub record Roster : Type 0 where
  pub version : ℕ
  pub names : Names
  pub threads : List Thread
  pub kinds : List Kind

abbrev pub roster_of : Script → Roster
roster_of s = record { version = s.version; names = names_in s; threads = (numbered s).threads; kinds = map kind_of (numbered s).objects }

-- the number of a thread, jthread or async, or of main, by its name
abbrev pub thread_called : Roster → List ℕ → Option ℕ
thread_called r name = place_of r.names.threads name

-- the number of an object, by its name
abbrev pub object_called : Roster → List ℕ → Option ℕ
object_called r name = place_of r.names.objects name

-- main, or a name that the scenario declares
abbrev pub is_known : Roster → List ℕ → Bool
is_known r name = is_some (thread_called r name) || (is_some (object_called r name) || is_some (place_of r.names.callbacks name))

-- the kind of the object of this name
abbrev pub kind_called : Roster → List ℕ → Option Kind
kind_called r name = option_and_then (slice_get r.kinds) (object_called r name)

-- how many numbers a mutex guards; a recursive mutex has none
abbrev pub numbers : Option Kind → ℤ
numbers (Some (kinds.Mutex recursive many)) = pos many
numbers _ = pos 0

-- how many numbers the mutex of this name guards
abbrev pub numbers_called : Roster → List ℕ → ℤ
numbers_called r name = numbers (kind_called r name)

-- which kinds of objects the words of a row are for, by the sort of the name at its head. A plain and a recursive mutex are one kind here
abbrev pub takes_kind : Sort → Kind → Bool
takes_kind sorts.Lockables (kinds.Mutex recursive many) = true
takes_kind sorts.Lockables kinds.Shared = true
takes_kind sorts.Mutexes (kinds.Mutex recursive many) = true
takes_kind sorts.SharedMutexes kinds.Shared = true
takes_kind sorts.Semaphores (kinds.Semaphore count max) = true
takes_kind sorts.Latches (kinds.Latch count) = true
takes_kind sorts.Barriers (kinds.Barrier count) = true
takes_kind sorts.Onces kinds.Once = true
takes_kind sorts.Conditions kinds.Condition = true
takes_kind sorts.StopStates (kinds.Stop sources) = true
takes_kind sorts.Settling kinds.Future = true
takes_kind _ _ = false

-- a thread or jthread among these, which isn't main
abbrev pub started : List Thread → Option ℕ → Bool
started threads None = false
started threads (Some t) = nat_lt 0 t && can_start (slice_get threads t)

-- an async among these
abbrev pub launched : List Thread → Option ℕ → Bool
launched threads None = false
launched threads (Some t) = can_launch (slice_get threads t)

-- whether a name may stand at a place of this sort: it's that of any thread, of a thread that can be started, of an async, or else of an object
abbrev pub fits_sort : Roster → List ℕ → Sort → Bool
fits_sort r name sorts.AnyThread = is_some (thread_called r name)
fits_sort r name sorts.OfThread = started r.threads (thread_called r name)
fits_sort r name sorts.OfAsync = launched r.threads (thread_called r name)
fits_sort r name sort = is_some (object_called r name)
