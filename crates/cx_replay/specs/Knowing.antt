-- What is known of whether a thread is enabled, since it was last tried.
use Rattle.std.specs.Prelude.{◌≡◌, ℕ, ◌≤◌, ◌==◌, pos, Bool, true, false, List, [], ◌∷◌, length, slice_get, Option, Some, None, is_some}
use Rattle.std.specs.List.{list_all}
use Rattle.cx_names.specs.declared.ObjectNo.{ObjectNo}
use Rattle.cx_names.specs.declared.Reply.TheVariants as replies
use Rattle.cx_machine.specs.declared.kind.Op.TheVariants as ops
use Rattle.cx_machine.specs.Machine.{step}
use Rattle.cx_items.specs.declared.item.Control.TheVariants.{Join}
use Rattle.cx_items.specs.declared.form.Wanted.TheVariants.{Just}
use Rattle.cx_items.specs.declared.form.Form.{Form}
use Rattle.cx_items.specs.declared.form.Form.TheVariants.{Change, Look, Begin, Does}
use Rattle.cx_scene.specs.Scene.{Scene}
use Rattle.cx_replay.specs.declared.runner.RunnerNow.{RunnerNow}
use Rattle.cx_replay.specs.declared.knowing.Latest.{Latest}
use Rattle.cx_replay.specs.declared.knowing.Known.{Known}
use Rattle.cx_replay.specs.declared.knowing.Known.TheVariants.{Nothing, While, Awaits, Acquires, Over}
use Rattle.cx_replay.specs.Schedule.{Thing, Runner, World, thing_at, change_by, first_made, forms_at}

-- the form is of an act on this object
abbrev pub is_on : ObjectNo → Form → Bool
is_on o (Change p op a b wanted) = p.0 == o.0
is_on o (Look p op a b wanted) = p.0 == o.0
is_on o (Begin p) = p.0 == o.0
is_on o _ = false

-- the form that acquires this semaphore
abbrev pub acquire : ObjectNo → Form
acquire o = Change o ops.Acquire (pos 0) (pos 0) (Just replies.Ok)

-- an object is a semaphore that can be acquired: by main, and so by each thread
abbrev pub is_free : Option Thing → Bool
is_free None = false
is_free (Some x) = is_some (step x.state (change_by 0 ops.Acquire (pos 0) (pos 0) replies.Ok))

-- what was found of the semaphore that was tried last is so
abbrev pub IsLatest : List Thing → Option Latest → Type 0
IsLatest things None = Unit {0}
IsLatest things (Some a) = a.is_free ≡ is_free (slice_get things a.semaphore.0)

-- this is so of a thread that may make items of these forms: it can make one as long as its object has had so many changes, or where the thread that it awaits has ended or the semaphore that it waits for can be acquired, or never
abbrev pub Holds : Scene → World → ℕ → List Form → Known → Type 0
Holds s w t fs Nothing = Unit {0}
Holds s w t fs (While o n can) = (list_all (is_on o) fs ≡ true) × ((x : Thing) → thing_at w o ≡ Some x → (n ≤ x.changes) × (x.changes ≡ n → is_some (first_made s w t fs) ≡ can))
Holds s w t fs (Awaits u) = fs ≡ Does (Join u) ∷ []
Holds s w t fs (Acquires o) = fs ≡ acquire o ∷ []
Holds s w t fs Over = fs ≡ []

-- of a thread that wasn't started nothing is known
abbrev pub IsKnown : Scene → World → ℕ → Option Runner → Known → Type 0
IsKnown s w t None k = k ≡ Nothing
IsKnown s w t (Some r) k = Holds s w t (forms_at s t r.local) k

-- this is known of each thread, by its number
pub record Knows (s : Scene) (w : World) (ks : List Known) : Type 0 where
  pub count : length ks ≡ length w.runners
  pub each : (t : ℕ) (r : Option Runner) (k : Known) → slice_get w.runners t ≡ Some r → slice_get ks t ≡ Some k → IsKnown s w t r k

-- this tells of a thread with these forms what was found when it was tried
abbrev pub Notes : List Thing → List Form → Bool → Known → Type 0
Notes things fs can Nothing = Unit {0}
Notes things fs can (While o n is) = (list_all (is_on o) fs ≡ true) × ((is ≡ can) × ((x : Thing) → slice_get things o.0 ≡ Some x → x.changes ≡ n))
Notes things fs can (Awaits u) = fs ≡ Does (Join u) ∷ []
Notes things fs can (Acquires o) = fs ≡ acquire o ∷ []
Notes things fs can Over = fs ≡ []

-- the same of a thread that may not have been started
abbrev pub Noted : List Thing → Option RunnerNow → List Form → Bool → Known → Type 0
Noted things None fs can k = k ≡ Nothing
Noted things (Some r) fs can k = Notes things fs can k
