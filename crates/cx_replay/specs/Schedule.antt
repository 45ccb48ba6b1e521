-- The replay: one step at a time, by one of the threads that are enabled.
use Rattle.std.specs.Prelude.{◌≡◌, ℕ, zero, suc, ◌+◌, ◌^◌, ◌<◌, ◌%◌, ◌||◌, not, ℤ, pos, Bool, false, List, [], ◌∷◌, ◌++◌, map, length, slice_get, slice_set, Option, Some, None, is_none, if◌then◌else◌, unwrap_or, option_map, option_and_then}
use Rattle.cx_names.specs.declared.ObjectNo.{ObjectNo}
use Rattle.cx_names.specs.declared.Reply.{Reply}
use Rattle.cx_names.specs.declared.Reply.TheVariants as replies
use Rattle.cx_machine.specs.declared.kind.Op.{Op}
use Rattle.cx_machine.specs.declared.kind.Op.TheVariants as ops
use Rattle.cx_machine.specs.Words.{when}
use Rattle.cx_scene.specs.declared.declared.Object.{Object}
use Rattle.cx_scene.specs.declared.declared.Thread.{Thread}
use Rattle.cx_scene.specs.Scene.{Scene, kind_of}
use Rattle.cx_items.specs.declared.item.Control.{Control}
use Rattle.cx_items.specs.declared.item.Control.TheVariants as controls
use Rattle.cx_items.specs.declared.item.Item.{Item}
use Rattle.cx_items.specs.declared.item.Item.TheVariants as items
use Rattle.cx_machine.specs.declared.kind.Entry.{Entry}
use Rattle.cx_machine.specs.declared.kind.Look.{Look}
use Rattle.cx_items.specs.declared.form.Wanted.{Wanted}
use Rattle.cx_items.specs.declared.form.Wanted.TheVariants.{Just, ANumber, AThread, AnOutcome}
use Rattle.cx_items.specs.Form.{is_number, is_thread_or_none, is_outcome, is_registered_on}
use Rattle.cx_items.specs.declared.form.Form.{Form}
use Rattle.cx_items.specs.declared.form.Form.TheVariants.{Change, Look as ALook, Begin, Does, Says}
use Rattle.cx_machine.specs.Machine.{State, opening, step, shows}
use Rattle.cx_machine.specs.Now.{reply_now, first_registered}
use Rattle.std.specs.Option.{option_to_list}
pub use Rattle.cx_items.specs.Next.{settled_local, due_reply}
use Rattle.cx_items.specs.Next.{Local, offered, after_item, local_at_start, is_ended}
use Rattle.cx_history.specs.Histories.{Recorded, changes_of}
use Rattle.cx_history.specs.Flaw.{IsSoFar}
use Rattle.cx_history.specs.Follows.{is_completing, after_items, completes, Follows, FollowsSoFar}
use Rattle.cx_history.specs.Legal.{LegalRecord}
use Rattle.cx_replay.specs.Starting.{OnlyMainStarts}
use Rattle.cx_replay.specs.SplitMix.{next_seed, word}

-- the reply that a form wants: its own, or the machine's where that is of the wanted sort
abbrev pub given_reply : Wanted → Reply → Option Reply
given_reply (Just r) now = Some r
given_reply ANumber now = when (is_number now) now
given_reply AThread now = when (is_thread_or_none now) now
given_reply AnOutcome now = when (is_outcome now) now

-- ---- the world

-- an object: its state, and how many changes led there
pub record Thing : Type 0 where
  pub state : State
  pub changes : ℕ

-- a thread that was started: where it stands, and what it has done
pub record Runner : Type 0 where
  pub local : Local
  pub done : List Item

pub record World : Type 0 where
  pub things : List Thing
  pub runners : List (Option Runner)

abbrev pub thing_at : World → ObjectNo → Option Thing
thing_at w o = slice_get w.things o.0

abbrev pub runner_at : World → ℕ → Option Runner
runner_at w t = option_and_then (λ r. r) (slice_get w.runners t)

abbrev pub is_live : Option Runner → Bool
is_live None = false
is_live (Some r) = not (is_ended r.local)

abbrev pub has_ended : Option Runner → Bool
has_ended None = false
has_ended (Some r) = is_ended r.local

-- ---- one act

-- an item that can be made now, and the objects after it
pub record Made : Type 0 where
  pub item : Item
  pub things : List Thing

abbrev pub changed_to : World → ObjectNo → Entry → Thing → State → Made
changed_to w o e x next = record { item = items.Change o x.changes e; things = slice_set w.things o.0 (record { state = next; changes = x.changes + 1 }) }

abbrev pub made_change : World → ObjectNo → Entry → Option Thing → Option Made
made_change w o e None = None
made_change w o e (Some x) = option_map (changed_to w o e x) (step x.state e)

abbrev pub seen_as : World → ObjectNo → Look → Thing → Made
seen_as w o l x = record { item = items.Look o (record l { at = x.changes }); things = w.things }

abbrev pub made_look : World → ObjectNo → Look → Option Thing → Option Made
made_look w o l None = None
made_look w o l (Some x) = when (shows x.state l) (seen_as w o l x)

abbrev pub reply_of : World → ℕ → ObjectNo → Op → ℤ → ℤ → Wanted → Option Reply
reply_of w t o op a b wanted = given_reply wanted (unwrap_or (option_map (λ (x : Thing). reply_now x.state t op a b) (thing_at w o)) replies.Ok)

abbrev pub change_by : ℕ → Op → ℤ → ℤ → Reply → Entry
change_by t op a b r = record { by = record { 0 = t }; op = op; a = a; b = b; reply = r }

abbrev pub look_by : ℕ → Op → ℤ → ℤ → Reply → Look
look_by t op a b r = record { by = record { 0 = t }; op = op; a = a; b = b; reply = r; at = 0 }

abbrev pub replied_change : World → ℕ → ObjectNo → Op → ℤ → ℤ → Option Reply → Option Made
replied_change w t o op a b None = None
replied_change w t o op a b (Some r) = made_change w o (change_by t op a b r) (thing_at w o)

abbrev pub replied_look : World → ℕ → ObjectNo → Op → ℤ → ℤ → Option Reply → Option Made
replied_look w t o op a b None = None
replied_look w t o op a b (Some r) = made_look w o (look_by t op a b r) (thing_at w o)

-- the callback that was registered first, where the text registers it here
abbrev pub made_begin : Scene → World → ℕ → ObjectNo → Option ℕ → Option Made
made_begin s w t st None = None
made_begin s w t st (Some id) = if is_registered_on s st (pos id) then made_change w st (change_by t ops.Begin (pos id) (pos 0) replies.Ok) (thing_at w st) else None

-- every start succeeds, and a join waits for the end
abbrev pub can_do : World → Control → Bool
can_do w (controls.Start u ok) = ok
can_do w (controls.Launch u ok) = ok
can_do w (controls.Join u) = has_ended (runner_at w u.0)

-- the item of this form that thread t can make now
abbrev pub made : Scene → World → ℕ → Form → Option Made
made s w t (Change o op a b wanted) = replied_change w t o op a b (reply_of w t o op a b wanted)
made s w t (ALook o op a b wanted) = replied_look w t o op a b (reply_of w t o op a b wanted)
made s w t (Begin st) = made_begin s w t st (first_registered (option_map (λ x. x.state) (thing_at w st)))
made s w t (Does c) = when (can_do w c) (record { item = items.Control c; things = w.things })
made s w t (Says r) = Some (record { item = items.Said r; things = w.things })

abbrev pub or_made : Option Made → Option Made → Option Made
or_made None m = m
or_made (Some k) m = Some k

-- the first of these forms of which an item can be made
abbrev pub first_made : Scene → World → ℕ → List Form → Option Made
first_made s w t [] = None
first_made s w t (f ∷ fs) = or_made (made s w t f) (first_made s w t fs)

-- what the thread can make where it stands
abbrev pub forms_at : Scene → ℕ → Local → List Form
forms_at s t l = map (λ a. a.form) (offered s t (settled_local l))

-- ---- one step

abbrev pub is_completing_now : List Thing → ℕ → ℕ → Bool
is_completing_now things o p = is_completing (option_map (λ (x : Thing). x.state) (slice_get things o))

abbrev pub moved_to : List Item → Local → Runner
moved_to done l = record { local = l; done = done }

-- the thread has made the item
abbrev pub goes_on : Scene → List Thing → ℕ → Runner → Item → Option Runner
goes_on s things t r x = option_map (moved_to (r.done ++ x ∷ [])) (after_item s (is_completing_now things) t r.local x)

abbrev pub replies_with : Scene → List Thing → ℕ → Runner → Option Reply → Option Runner
replies_with s things t r None = Some r
replies_with s things t r (Some q) = goes_on s things t r (items.Said q)

abbrev pub with_reply : Scene → List Thing → ℕ → Runner → Option Runner
with_reply s things t r = replies_with s things t r (due_reply (settled_local r.local).agenda)

abbrev pub after_made : Scene → List Thing → ℕ → Runner → Item → Option Runner
after_made s things t r (items.Said q) = goes_on s things t r (items.Said q)
after_made s things t r x = option_and_then (with_reply s things t) (goes_on s things t r x)

-- a thread that is started or launched has begun
abbrev pub beginner : Scene → ℕ → Option Runner
beginner s u = Some (record { local = local_at_start s u; done = [] })

-- thread u begins, unless it has begun before
abbrev pub begun_at : Scene → ℕ → List (Option Runner) → List (Option Runner)
begun_at s u rs = if is_none (option_and_then (λ r. r) (slice_get rs u)) then slice_set rs u (beginner s u) else rs

abbrev pub with_beginner : Scene → Item → List (Option Runner) → List (Option Runner)
with_beginner s (items.Control (controls.Start u ok)) rs = if ok then begun_at s u.0 rs else rs
with_beginner s (items.Control (controls.Launch u ok)) rs = if ok then begun_at s u.0 rs else rs
with_beginner s _ rs = rs

abbrev pub stepped_to : Scene → World → ℕ → Made → Runner → World
stepped_to s w t m r = record { things = m.things; runners = with_beginner s m.item (slice_set w.runners t (Some r)) }

abbrev pub after_step : Scene → World → ℕ → Runner → Made → Option World
after_step s w t r m = option_map (stepped_to s w t m) (after_made s m.things t r m.item)

-- THE NEXT STEP OF A THREAD, where it is enabled
abbrev pub stepped : Scene → World → ℕ → Option Runner → Option World
stepped s w t None = None
stepped s w t (Some r) = option_and_then (after_step s w t r) (first_made s w t (forms_at s t r.local))

abbrev pub step_of : Scene → World → ℕ → Option World
step_of s w t = stepped s w t (runner_at w t)

-- ---- turns

-- the worlds that the enabled threads lead to, in number order
abbrev pub steps_from : Scene → World → ℕ → List (Option Runner) → List World
steps_from s w t [] = []
steps_from s w t (r ∷ rs) = option_to_list (stepped s w t r) ++ steps_from s w (t + 1) rs

abbrev pub steps : Scene → World → List World
steps s w = steps_from s w 0 w.runners

-- a world, and the state of the seeded generator
pub record Turn : Type 0 where
  pub world : World
  pub seed : Option ℕ

abbrev pub drawn : ℕ → World → Turn
drawn seed w = record { world = w; seed = Some seed }

-- a word is drawn where more than one thread is enabled
abbrev pub chosen : List World → Option ℕ → Option Turn
chosen [] seed = None
chosen (w ∷ []) seed = Some (record { world = w; seed = seed })
chosen (w ∷ ws) None = Some (record { world = w; seed = None })
chosen (w ∷ ws) (Some x) = option_map (drawn (next_seed x)) (slice_get (w ∷ ws) (word (next_seed x) % length (w ∷ ws)))

abbrev pub turn : Scene → Turn → Option Turn
turn s x = chosen (steps s x.world) x.seed

-- this many turns, one after the other
abbrev pub turns : ℕ → Scene → Turn → Option Turn
turns zero s x = Some x
turns (suc n) s x = option_and_then (turns n s) (turn s x)

-- ---- the opening and the end

abbrev pub opening_runners : Scene → List Thread → List (Option Runner)
opening_runners s [] = []
opening_runners s (t ∷ ts) = beginner s 0 ∷ map (λ u. None) ts

abbrev pub opening_thing : Object → Thing
opening_thing d = record { state = opening (kind_of d); changes = 0 }

abbrev pub opening_world : Scene → World
opening_world s = record { things = map opening_thing s.objects; runners = opening_runners s s.threads }

abbrev pub done_of : Option Runner → Option (List Item)
done_of r = option_map (λ (x : Runner). x.done) r

abbrev pub lists_of : World → List (Option (List Item))
lists_of w = map done_of w.runners

abbrev pub recorded_in : Scene → World → Recorded
recorded_in s w = record { version = s.version; lists = lists_of w }

abbrev pub any_live : List (Option Runner) → Bool
any_live [] = false
any_live (r ∷ rs) = is_live r || any_live rs

abbrev pub live_from : ℕ → List (Option Runner) → List ℕ
live_from t [] = []
live_from t (r ∷ rs) = (if is_live r then t ∷ [] else []) ++ live_from (t + 1) rs

-- how a replay ends: with a record, and the threads that are still live where it is stuck
pub record Replayed : Type 0 where
  pub recorded : Recorded
  pub live : List ℕ

abbrev pub replayed : Scene → Turn → Replayed
replayed s x = record { recorded = recorded_in s x.world; live = live_from 0 x.world.runners }

-- as many turns as can be made lead here
pub record Replays (s : Scene) (seed : Option ℕ) (outcome : Replayed) : Type 0 where
  pub count : ℕ
  pub last : Turn
  pub run : turns count s (record { world = opening_world s; seed = seed }) ≡ Some last
  pub over : turn s last ≡ None
  pub result : outcome ≡ replayed s last

-- the same as a function, for as many turns as are given
abbrev pub if_over : Scene → Turn → Option Replayed
if_over s x = elim (turn s x) [ None ↦ Some (replayed s x) | Some y ↦ None ]

abbrev pub replay_in : ℕ → Scene → Option ℕ → Option Replayed
replay_in n s seed = option_and_then (if_over s) (turns n s (record { world = opening_world s; seed = seed }))

-- ---- laws

-- what so many turns lead to, with no turn left, is what is replayed
abbrev pub ReplayedInTurns : Type 0
ReplayedInTurns = (n : ℕ) (s : Scene) (seed : Option ℕ) (outcome : Replayed) → replay_in n s seed ≡ Some outcome → Replays s seed outcome

abbrev pub start : Scene → Option ℕ → Turn
start s seed = record { world = opening_world s; seed = seed }

-- each schedule of the scene has fewer turns than this
abbrev pub IsLight : Scene → Type 0
IsLight s = (n : ℕ) (seed : Option ℕ) (x : Turn) → turns n s (start s seed) ≡ Some x → n < 2 ^ 28

-- at each turn the changes on each object have no gap, and lead by its machine from the opening to a state
abbrev pub EachTurnIsLegal : Type 0
EachTurnIsLegal = (n : ℕ) (s : Scene) (seed : Option ℕ) (x : Turn) → turns n s (start s seed) ≡ Some x → (o : ℕ) (d : Object) → slice_get s.objects o ≡ Some d → (state : State) × IsSoFar (opening (kind_of d)) (changes_of (recorded_in s x.world) o) state

-- at each turn each list is made of items that the text of its thread allows, and leads to the place where the thread stands
abbrev pub EachTurnFollows : Type 0
EachTurnFollows = (n : ℕ) (s : Scene) (seed : Option ℕ) (x : Turn) → turns n s (start s seed) ≡ Some x → (t : ℕ) (r : Runner) → slice_get x.world.runners t ≡ Some (Some r) → after_items s (completes s (recorded_in s x.world)) t (local_at_start s t) r.done ≡ Some r.local

-- there is one replay of a scenario and a seed
abbrev pub OneReplay : Type 0
OneReplay = (s : Scene) (seed : Option ℕ) (a b : Replayed) → Replays s seed a → Replays s seed b → a ≡ b

-- the record is legal, where the replay has ended and where it is stuck
abbrev pub ReplayIsLegal : Type 0
ReplayIsLegal = (s : Scene) (seed : Option ℕ) (outcome : Replayed) → OnlyMainStarts s → Replays s seed outcome → LegalRecord s outcome.recorded

-- where no thread is live the record follows the text
abbrev pub ReplayFollows : Type 0
ReplayFollows = (s : Scene) (seed : Option ℕ) (outcome : Replayed) → OnlyMainStarts s → Replays s seed outcome → outcome.live ≡ [] → Follows s outcome.recorded

-- also where the replay is stuck each list is one that the text allows so far
abbrev pub StuckFollowsSoFar : Type 0
StuckFollowsSoFar = (s : Scene) (seed : Option ℕ) (outcome : Replayed) → OnlyMainStarts s → Replays s seed outcome → FollowsSoFar s outcome.recorded
