-- An object has at most as many changes as there were turns.
use Rattle.std.proofs.Common.{◌≡◌, ℕ, zero, suc, ◌+◌, ◌≤◌, ◌==◌, Bool, true, false, List, Option, Some, None, option_and_then, option_map, slice_get, slice_set, refl, sym, ◌∙◌, subst, arith, eqb-true, eq-eqb}
use Rattle.std.proofs.lemmas.Option.{slice_get-map}
use Rattle.cx_scene.specs.declared.declared.Object.{Object}
use Rattle.cx_scene.specs.Scene.{Scene}
use Rattle.cx_items.specs.declared.item.Item.{Item}
use Rattle.cx_replay.specs.Schedule.{Thing, Turn, Replays, Replayed, IsLight, recorded_in, opening_thing, opening_world, turn, turns, start}
use Rattle.cx_replay.specs.Views.{HasRoom, HasFewChanges}
use Rattle.cx_replay.proofs.Kept.{slice_get-set_same, slice_get-set_other, Moves, changed, looked, controlled, replied}
use Rattle.cx_replay.proofs.Stepping.{StepLeads, turn_leads}
use Rattle.cx_replay.proofs.Followed.{apart, turns_good}

-- each object has at most so many changes
abbrev pub AtMost : ℕ → List Thing → Type 0
AtMost k things = (o : ℕ) (x : Thing) → slice_get things o ≡ Some x → x.changes ≤ k

at_most_more : (k : ℕ) (things things' : List Thing) (x : Item) → Moves things x things' → AtMost k things → AtMost (k + 1) things'
at_most_more k things things' x (looked q l th at_ shown) few o y e = (let low = few o y e in omega (arith, low))
at_most_more k things things' x (controlled c) few o y e = (let low = few o y e in omega (arith, low))
at_most_more k things things' x (replied r) few o y e = (let low = few o y e in omega (arith, low))
at_most_more k things things' x (changed q en th next at_ enabled) few o y e = go (q.0 == o) refl
  where
    new : Thing
    new = record { state = next; changes = th.changes + 1 }

    go : (b : Bool) → (q.0 == o) ≡ b → y.changes ≤ k + 1
    go false no_ = (let low = few o y (sym (slice_get-set_other things q.0 o (record { state = next; changes = th.changes + 1 }) (λ same. apart (q.0 == o) (eq-eqb q.0 o same) no_)) ∙ e) in omega (arith, low))
    go true yes_ =
        let put : slice_get (slice_set things q.0 (record { state = next; changes = th.changes + 1 })) q.0 ≡ Some (record { state = next; changes = th.changes + 1 }) = slice_get-set_same things q.0 th (record { state = next; changes = th.changes + 1 }) at_ in
        let there : slice_get (slice_set things q.0 (record { state = next; changes = th.changes + 1 })) q.0 ≡ Some y = subst (λ n. slice_get (slice_set things q.0 (record { state = next; changes = th.changes + 1 })) n ≡ Some y) (sym (eqb-true q.0 o yes_)) e in
        let is : th.changes + 1 ≡ y.changes = one_there put there in
        let low = few q.0 th at_ in
        omega (arith, is, low)
      where
        one_there : {z : Option Thing} {a b : Thing} → z ≡ Some a → z ≡ Some b → a.changes ≡ b.changes
        one_there p q = cc

one_step : (s : Scene) (k : ℕ) → StepLeads s (λ w. AtMost k w.things) (λ w. AtMost (k + 1) w.things)
one_step s k w t r r' m few at_ moves own h = at_most_more k w.things m.things m.item moves few

more_turns : (n : ℕ) (s : Scene) (k : ℕ) (x y : Turn) → AtMost k x.world.things → turns n s x ≡ Some y → AtMost (k + n) y.world.things
more_turns zero s k x y few h o z e =
    let same : x ≡ y = cc in
    let low = few o z (subst (λ (v : Turn). slice_get v.world.things o ≡ Some z) (sym same) e) in
    omega (arith, low)
more_turns (suc n) s k x y few h o z e = go (turn s x) refl h (λ v k'. more_turns n s (k + 1) v y k')
  where
    go : (v : Option Turn) → turn s x ≡ v → option_and_then (turns n s) v ≡ Some y → ((v : Turn) → AtMost (k + 1) v.world.things → turns n s v ≡ Some y → AtMost ((k + 1) + n) y.world.things) → z.changes ≤ k + suc n
    go None p q ih = cc
    go (Some v) p q ih = (let low = ih v (turn_leads s (λ w. AtMost k w.things) (λ w. AtMost (k + 1) w.things) (one_step s k) x v few p) q o z e in omega (arith, low))

none_yet : (s : Scene) → AtMost 0 (opening_world s).things
none_yet s o x e = go (slice_get s.objects o) (sym (slice_get-map opening_thing s.objects o) ∙ e)
  where
    go : (d : Option Object) → option_map opening_thing d ≡ Some x → x.changes ≤ 0
    go None k = cc
    go (Some d) k = let is : opening_thing d ≡ x = cc in subst (λ (v : Thing). v.changes ≤ 0) is (omega arith)

-- a replay of a light scene makes few changes
pub few_changes : (s : Scene) (seed : Option ℕ) (outcome : Replayed) → IsLight s → Replays s seed outcome → HasFewChanges s outcome.recorded
few_changes s seed outcome light run = subst (λ (v : Replayed). HasFewChanges s v.recorded) (sym run.result) few
  where
    few : HasFewChanges s (recorded_in s run.last.world)
    few o d at_ =
        let kept = (turns_good run.count s seed run.last run.run).kept o d at_ in
        let low = more_turns run.count s 0 (start s seed) run.last (none_yet s) run.run o kept.thing kept.there in
        let count = kept.count in
        let most = light run.count seed run.last run.run in
        omega (arith, low, count, most)

-- where a schedule has few turns, each object has room
pub room_then : (s : Scene) (n : ℕ) (seed : Option ℕ) (x : Turn) → IsLight s → turns n s (start s seed) ≡ Some x → HasRoom x.world.things
room_then s n seed x light h o y e =
    let low = more_turns n s 0 (start s seed) x (none_yet s) h o y e in
    let few = light n seed x h in
    omega (arith, low, few)
