-- What the code of a replay keeps, and what its steps answer.
use Rattle.std.specs.Prelude.{◌≡◌, ℕ, ◌+◌, ◌^◌, ◌<◌, Bool, true, false, List, [], ◌∷◌, map, length, slice_get, Option, Some, None, option_map, is_some}
use Rattle.cx_names.specs.declared.ThreadNo.{ThreadNo}
use Rattle.cx_machine.specs.declared.kind.Entry.{Entry}
use Rattle.cx_machine.specs.Machine.{step}
use Rattle.cx_items.specs.declared.item.Item.{Item}
use Rattle.cx_items.specs.declared.form.Form.{Form}
use Rattle.cx_items.specs.Next.{Local, offered, reached}
use Rattle.cx_items.specs.Steps.{local_of}
use Rattle.cx_scene.specs.declared.declared.Object.{Object}
use Rattle.cx_scene.specs.Scene.{Scene}
use Rattle.cx_replay.specs.declared.objects.ObjectNow.{ObjectNow}
use Rattle.cx_replay.specs.declared.runner.RunnerNow.{RunnerNow}
use Rattle.cx_replay.specs.declared.outcome.Replayed.{Replayed as Outcome}
use Rattle.cx_replay.specs.declared.outcome.Replayed.TheVariants.{Ended, Stuck}
use Rattle.cx_history.specs.Histories.{Recorded, changes_of}
use Rattle.cx_history.specs.Views.{recorded_of, numbers_of}
use Rattle.cx_replay.specs.Schedule.{Thing, Runner, World, Turn, step_of, steps, Made, Replayed, forms_at, after_made, done_of, live_from}

abbrev pub thing_of : ObjectNow → Thing
thing_of x = record { state = x.state; changes = x.changes }

-- a world of which the runners are of no account
abbrev pub of_objects : List ObjectNow → World
of_objects xs = record { things = map thing_of xs; runners = [] }

abbrev pub runner_of : Scene → ℕ → RunnerNow → Runner
runner_of s t r = record { local = local_of s t r.local; done = r.done.items }

-- the runners, of which the first has number t
abbrev pub runners_from : Scene → ℕ → List (Option RunnerNow) → List (Option Runner)
runners_from s t [] = []
runners_from s t (r ∷ rs) = option_map (runner_of s t) r ∷ runners_from s (t + 1) rs

abbrev pub world_of : Scene → List ObjectNow → List (Option RunnerNow) → World
world_of s xs rs = record { things = map thing_of xs; runners = runners_from s 0 rs }

-- an item is made, or none, and then the objects are as they were
abbrev pub Makes : Option Item → Option Made → List Thing → List Thing → Type 0
Makes None next old new = (next ≡ None) × (new ≡ old)
Makes (Some x) next old new = next ≡ Some (record { item = x; things = new })

-- a step is made, or none, and then the world is as it was
abbrev pub Steps : Bool → Option World → World → World → Type 0
Steps true next old new = next ≡ Some new
Steps false next old new = (next ≡ None) × (new ≡ old)

-- a change is made on an object, or none
abbrev pub Changes : Bool → Thing → Entry → Thing → Type 0
Changes true old e new = (step old.state e ≡ Some new.state) × (new.changes ≡ old.changes + 1)
Changes false old e new = (step old.state e ≡ None) × (new ≡ old)

-- what a thread may make where it stands; nothing where it wasn't started
abbrev pub forms_there : Scene → ℕ → Option Runner → List Form
forms_there s t None = []
forms_there s t (Some r) = forms_at s t r.local

-- where an item leads a thread
abbrev pub reached_there : Scene → ℕ → Option Runner → Item → Option Local
reached_there s t None x = None
reached_there s t (Some r) x = reached s (offered s t r.local) x

-- a thread has made an item, and the reply that is due then
abbrev pub Advances : Scene → List Thing → ℕ → Item → Option Runner → Option Runner → Type 0
Advances s things t x None new = new ≡ None
Advances s things t x (Some r) new = (after_made s things t r x ≡ new) × (is_some new ≡ true)

-- what a thread has done, where it was started
abbrev pub kept_list : Option RunnerNow → Option (List Item)
kept_list r = option_map (λ (x : RunnerNow). x.done.items) r

-- how a replay of a scene ends, by its threads
abbrev pub replayed_in : Scene → List (Option Runner) → Replayed
replayed_in s rs = record { recorded = record { version = s.version; lists = map done_of rs }; live = live_from 0 rs }

abbrev pub replayed_of : Outcome → Replayed
replayed_of (Ended r) = record { recorded = recorded_of r; live = [] }
replayed_of (Stuck r live) = record { recorded = recorded_of r; live = numbers_of live }

-- where a replay is stuck, a thread is live
abbrev pub IsLiveWhereStuck : Outcome → Type 0
IsLiveWhereStuck (Ended r) = Unit {0}
IsLiveWhereStuck (Stuck r live) = 0 < length (numbers_of live)

-- each object has room for one more change
abbrev pub HasRoom : List Thing → Type 0
HasRoom things = (o : ℕ) (x : Thing) → slice_get things o ≡ Some x → x.changes < 2 ^ 28

-- each object has fewer changes than there are positions in a record
abbrev pub HasFewChanges : Scene → Recorded → Type 0
HasFewChanges s r = (o : ℕ) (d : Object) → slice_get s.objects o ≡ Some d → length (changes_of r o) < 2 ^ 28

-- these threads are the enabled ones, in number order
abbrev pub AreEnabled : Scene → World → List ThreadNo → Type 0
AreEnabled s w ts = map (λ (t : ThreadNo). step_of s w t.0) ts ≡ map (λ (v : World). Some v) (steps s w)

-- a turn is made, and this is the generator's state then, or none, and then the world is as it was
abbrev pub Draws : Bool → Option Turn → World → World → ℕ → Type 0
Draws true next old new seed = next ≡ Some (record { world = new; seed = Some seed })
Draws false next old new seed = (next ≡ None) × (new ≡ old)
