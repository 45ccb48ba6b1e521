-- Each turn leaves less to be done, so that each schedule of a scenario ends.
use Rattle.std.proofs.Common.{◌≡◌, ℕ, zero, suc, ◌+◌, ◌≤◌, Bool, true, false, List, [], ◌∷◌, ◌++◌, map, Option, Some, None, option_and_then, is_none, slice_get, slice_set, if◌then◌else◌, refl, sym, ap, ◌∙◌, subst, arith, zero-add, add-zero}
use Rattle.std.proofs.lemmas.List.{map-set}
use Rattle.std.proofs.lemmas.Option.{slice_get-map}
use Rattle.cx_machine.specs.declared.kind.Look.{Look}
use Rattle.cx_machine.specs.Machine.{State, Mutex, Shared, Semaphore, Latch, Barrier, Once, Condition, Stop, Future, shows}
use Rattle.cx_scene.specs.declared.declared.Object.{Object}
use Rattle.cx_scene.specs.declared.declared.Thread.{Thread}
use Rattle.cx_scene.specs.Scene.{Scene}
use Rattle.cx_script.specs.Script.{Script}
use Rattle.cx_script.specs.Numbered.{numbered, IsScript}
use Rattle.cx_items.specs.declared.item.Control.TheVariants as controls
use Rattle.cx_items.specs.declared.item.Item.{Item}
use Rattle.cx_items.specs.declared.item.Item.TheVariants as items
use Rattle.cx_items.specs.Next.{Local, is_due, after_item, local_at_start}
use Rattle.cx_weights.specs.World.{Moves as Steps, changed as stepped, looked as shown, controlled as done, said, total, AllSized, opening_of, opening_states, starts_from, starts}
use Rattle.cx_weights.specs.Laws.{Lessens, IsLight as IsLittle}
use Rattle.cx_weights.proofs.Worlds.{each_step_weighs}
use Rattle.cx_weights.proofs.Starts.{scenario_is_light}
use Rattle.cx_weights.proofs.Scripts.{script_is_small}
use Rattle.cx_replay.specs.Schedule.{Thing, Runner, Turn, IsLight, is_completing_now, beginner, begun_at, with_beginner, turn, turns, start, opening_runners, opening_thing, opening_world}
use Rattle.cx_replay.proofs.Kept.{set_there, Moves, changed, looked, controlled, replied, after_one}
use Rattle.cx_replay.proofs.Stepping.{ItemLeads, ItemKeeps, StepLeads, made_leads, turn_leads}
use Rattle.cx_replay.proofs.Followed.{moved_by}

-- ---- the states of the objects, and where the threads stand: one that hasn't begun stands at its start

abbrev pub state_in : Thing → State
state_in x = x.state

abbrev pub states_of : List Thing → List State
states_of things = map state_in things

abbrev pub place_of : Scene → ℕ → Option Runner → Local
place_of s t None = local_at_start s t
place_of s t (Some r) = r.local

abbrev pub places_from : Scene → ℕ → List (Option Runner) → List Local
places_from s t [] = []
places_from s t (r ∷ rs) = place_of s t r ∷ places_from s (t + 1) rs

abbrev pub places_of : Scene → List (Option Runner) → List Local
places_of s rs = places_from s 0 rs

places_put : (s : Scene) (v : ℕ) (rs : List (Option Runner)) (i : ℕ) (q : Option Runner) → places_from s v (slice_set rs i q) ≡ slice_set (places_from s v rs) i (place_of s (v + i) q)
places_put s v [] i q = refl
places_put s v (r ∷ rs) zero q = ap (λ n. place_of s n q ∷ places_from s (v + 1) rs) (sym (add-zero v))
places_put s v (r ∷ rs) (suc i) q = ap (λ ls. place_of s v r ∷ ls) (places_put s (v + 1) rs i q ∙ ap (λ n. slice_set (places_from s (v + 1) rs) i (place_of s n q)) (sym (after_one v i)))

places_there : (s : Scene) (v : ℕ) (rs : List (Option Runner)) (i : ℕ) (r : Option Runner) → slice_get rs i ≡ Some r → slice_get (places_from s v rs) i ≡ Some (place_of s (v + i) r)
places_there s v [] i r e = cc
places_there s v (q ∷ qs) zero r e =
    let same : q ≡ r = cc in
    ap (λ n. Some (place_of s n q)) (sym (add-zero v)) ∙ ap (λ z. Some (place_of s (v + 0) z)) same
places_there s v (q ∷ qs) (suc i) r e = places_there s (v + 1) qs i r e ∙ ap (λ n. Some (place_of s n r)) (sym (after_one v i))

put_at : (s : Scene) (rs : List (Option Runner)) (t : ℕ) (q : Option Runner) → places_of s (slice_set rs t q) ≡ slice_set (places_of s rs) t (place_of s t q)
put_at s rs t q = places_put s 0 rs t q ∙ ap (λ n. slice_set (places_of s rs) t (place_of s n q)) (zero-add t)

there_at : (s : Scene) (rs : List (Option Runner)) (t : ℕ) (r : Option Runner) → slice_get rs t ≡ Some r → slice_get (places_of s rs) t ≡ Some (place_of s t r)
there_at s rs t r e = places_there s 0 rs t r e ∙ ap (λ n. Some (place_of s n r)) (zero-add t)

-- ---- one item

-- a stamp is of no account to what is shown
any_stamp : (x : State) (l : Look) (n : ℕ) → shows x l ≡ true → shows x (record l { at = n }) ≡ true
any_stamp (Mutex m) l n h = h
any_stamp (Shared m) l n h = h
any_stamp (Semaphore m) l n h = h
any_stamp (Latch m) l n h = h
any_stamp (Barrier m) l n h = h
any_stamp (Once m) l n h = h
any_stamp (Condition m) l n h = h
any_stamp (Stop m) l n h = h
any_stamp (Future m) l n h = h

state_there : (things : List Thing) (o : ℕ) (x : Thing) → slice_get things o ≡ Some x → slice_get (states_of things) o ≡ Some x.state
state_there things o x e = slice_get-map state_in things o ∙ ap (λ v. opt v) e
  where
    opt : Option Thing → Option State
    opt None = None
    opt (Some y) = Some y.state

states_step : (things things' : List Thing) (x : Item) → Moves things x things' → Steps (states_of things) x (states_of things')
states_step things things' x (looked q l th at_ is) = shown q (record l { at = th.changes }) th.state (state_there things q.0 th at_) (any_stamp th.state l th.changes is)
states_step things things' x (controlled c) = done c
states_step things things' x (replied r) = said r
states_step things things' x (changed q e th next at_ enabled) =
    subst (λ states. Steps (states_of things) (items.Change q th.changes e) states) (sym (map-set state_in things q.0 (record { state = next; changes = th.changes + 1 }))) (stepped q th.changes e th.state next (state_there things q.0 th at_) enabled)

-- ---- what is left of a world

-- at most this much is left
pub record Left (s : Scene) (c : ℕ) (things : List Thing) (rs : List (Option Runner)) : Type 0 where
  pub sized : AllSized (places_of s rs)
  pub most : total s (states_of things) (places_of s rs) ≤ c

-- less than this is left
pub record Less (s : Scene) (c : ℕ) (things : List Thing) (rs : List (Option Runner)) : Type 0 where
  pub sized : AllSized (places_of s rs)
  pub most : total s (states_of things) (places_of s rs) + 1 ≤ c

item_less : (s : Scene) (c : ℕ) → ItemLeads s (Left s c) (Less s c)
item_less s c things things' rs t r r1 x left e moves own h = record {
  sized = subst (λ ls. AllSized ls) (sym put) less.sized;
  most = (let l = less.less in let m = left.most in let same = ap (λ ls. total s (states_of things') ls) put in omega (arith, l, m, same));
}
  where
    put : places_of s (slice_set rs t (Some r1)) ≡ slice_set (places_of s rs) t r1.local
    put = put_at s rs t (Some r1)

    went : (after_item s (is_completing_now things') t r.local x ≡ Some r1.local) × (r1.done ≡ r.done ++ x ∷ [])
    went = moved_by (r.done ++ x ∷ []) (after_item s (is_completing_now things') t r.local x) r1 h

    less : Lessens s (states_of things) (states_of things') (places_of s rs) t r1.local
    less = each_step_weighs s (states_of things) (states_of things') (places_of s rs) (is_due (is_completing_now things') x) t r.local r1.local x left.sized (there_at s rs t (Some r) e) (states_step things things' x moves) went.0

item_still : (s : Scene) (c : ℕ) → ItemKeeps s (Less s c)
item_still s c things things' rs t r r1 x less e moves own h =
    let before : Left s c things rs = record { sized = less.sized; most = (let m = less.most in omega (arith, m)) } in
    item_less s c things things' rs t r r1 x before e moves own h

-- ---- a thread begins where it stood

nowhere : {X : Type 0} (xs : List X) (i : ℕ) (x : X) → slice_get xs i ≡ None → slice_set xs i x ≡ xs
nowhere [] i x e = refl
nowhere (y ∷ ys) zero x e = cc
nowhere (y ∷ ys) (suc i) x e = ap (λ zs. y ∷ zs) (nowhere ys i x e)

begun_same : (s : Scene) (u : ℕ) (rs : List (Option Runner)) → places_of s (begun_at s u rs) ≡ places_of s rs
begun_same s u rs = go (slice_get rs u) refl
  where
    go : (o : Option (Option Runner)) → slice_get rs u ≡ o → places_of s (if is_none (option_and_then (λ r. r) (slice_get rs u)) then slice_set rs u (beginner s u) else rs) ≡ places_of s rs
    go None e = rw e (ap (places_of s) (nowhere rs u (beginner s u) e))
    go (Some None) e = rw e (put_at s rs u (beginner s u) ∙ set_there (places_of s rs) u (local_at_start s u) (there_at s rs u None e))
    go (Some (Some r)) e = rw e refl

less_begun : (s : Scene) (c : ℕ) (things : List Thing) (u : ℕ) (rs : List (Option Runner)) → Less s c things rs → Less s c things (begun_at s u rs)
less_begun s c things u rs less = record {
  sized = subst (λ ls. AllSized ls) (sym (begun_same s u rs)) less.sized;
  most = (let same = ap (λ ls. total s (states_of things) ls) (begun_same s u rs) in let m = less.most in omega (arith, same, m));
}

less_if_begun : (s : Scene) (c : ℕ) (things : List Thing) (u : ℕ) (ok : Bool) (rs : List (Option Runner)) → Less s c things rs → Less s c things (if ok then begun_at s u rs else rs)
less_if_begun s c things u true rs less = less_begun s c things u rs less
less_if_begun s c things u false rs less = less

less_with_beginner : (s : Scene) (c : ℕ) (things : List Thing) (x : Item) (rs : List (Option Runner)) → Less s c things rs → Less s c things (with_beginner s x rs)
less_with_beginner s c things (items.Change q p e) rs less = less
less_with_beginner s c things (items.Look q l) rs less = less
less_with_beginner s c things (items.Said r) rs less = less
less_with_beginner s c things (items.Control (controls.Start u ok)) rs less = less_if_begun s c things u.0 ok rs less
less_with_beginner s c things (items.Control (controls.Launch u ok)) rs less = less_if_begun s c things u.0 ok rs less
less_with_beginner s c things (items.Control (controls.Join u)) rs less = less

-- ---- all turns

step_less : (s : Scene) (c : ℕ) → StepLeads s (λ w. Left s c w.things w.runners) (λ w. Less s c w.things w.runners)
step_less s c w t r r' m left at_ moves own h = less_with_beginner s c m.things m.item (slice_set w.runners t (Some r')) (made_leads s (Left s c) (Less s c) (item_less s c) (item_still s c) w.things m.things w.runners t r r' m.item left at_ moves own h)

few_turns : (s : Scene) (n c : ℕ) (x y : Turn) → Left s c x.world.things x.world.runners → turns n s x ≡ Some y → n ≤ c
few_turns s zero c x y left h = omega arith
few_turns s (suc n) c x y left h = go (turn s x) refl h (λ v b k. few_turns s n b v y k)
  where
    go : (o : Option Turn) → turn s x ≡ o → option_and_then (turns n s) o ≡ Some y → ((v : Turn) (b : ℕ) → Left s b v.world.things v.world.runners → turns n s v ≡ Some y → n ≤ b) → suc n ≤ c
    go None p k ih = cc
    go (Some v) p k ih =
        let less = turn_leads s (λ w. Left s c w.things w.runners) (λ w. Less s c w.things w.runners) (step_less s c) x v left p in
        by c less.most (λ b q. ih v b (record { sized = less.sized; most = q }) k)
      where
        by : (d : ℕ) → total s (states_of v.world.things) (places_of s v.world.runners) + 1 ≤ d → ((b : ℕ) → total s (states_of v.world.things) (places_of s v.world.runners) ≤ b → n ≤ b) → suc n ≤ d
        by zero q f = absurd (omega (arith, q))
        by (suc b) q f = (let low = f b (omega (arith, q)) in omega (arith, low))

-- ---- the opening

opening_states_same : (ds : List Object) → map state_in (map opening_thing ds) ≡ map opening_of ds
opening_states_same [] = refl
opening_states_same (d ∷ ds) = ap (λ xs. opening_of d ∷ xs) (opening_states_same ds)

abbrev none_there : Thread → Option Runner
none_there u = None

none_places : (s : Scene) (t : ℕ) (us : List Thread) → places_from s t (map none_there us) ≡ starts_from s t us
none_places s t [] = refl
none_places s t (u ∷ us) = ap (λ ls. local_at_start s t ∷ ls) (none_places s (t + 1) us)

opening_places_same : (s : Scene) (us : List Thread) → places_of s (opening_runners s us) ≡ starts_from s 0 us
opening_places_same s [] = refl
opening_places_same s (u ∷ us) = ap (λ ls. local_at_start s 0 ∷ ls) (none_places s (0 + 1) us)

-- what is little at the start is few turns
pub little_is_light : (s : Scene) → IsLittle s → IsLight s
little_is_light s little n seed x h =
    let places = opening_places_same s s.threads in
    let states = opening_states_same s.objects in
    let same : total s (states_of (opening_world s).things) (places_of s (opening_world s).runners) ≡ total s (opening_states s) (starts s) = rw (places, states) refl in
    let left : Left s (total s (opening_states s) (starts s)) (opening_world s).things (opening_world s).runners = record { sized = subst (λ ls. AllSized ls) (sym places) little.sized; most = omega (arith, same) } in
    let few = few_turns s n (total s (opening_states s) (starts s)) (start s seed) x left h in
    let light = little.light in
    omega (arith, few, light)

-- each scenario that a text means is light
pub script_is_light : (s : Script) → IsScript s → IsLight (numbered s)
script_is_light s is = little_is_light (numbered s) (scenario_is_light (numbered s) (script_is_small s is))
