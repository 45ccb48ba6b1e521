-- A turn of a seeded replay is that of the schedule.
use Rattle.std.proofs.Common.{◌≡◌, ℕ, zero, suc, ◌+◌, ◌<◌, ◌≤◌, ◌==◌, ◌%◌, Bool, true, false, List, [], ◌∷◌, ◌++◌, map, length, get_or, drop, Option, Some, None, is_some, option_map, option_and_then, option_to_list, slice_get, if◌then◌else◌, refl, sym, ap, ◌∙◌, subst, arith, append_assoc, append-nil, ne_eqb}
use Rattle.std.proofs.lemmas.List.{map-append, length-map, drop_all}
use Rattle.std.proofs.lemmas.Option.{slice_get-map}
use Rattle.cx_names.specs.declared.ThreadNo.{ThreadNo}
use Rattle.cx_scene.specs.Scene.{Scene}
use Rattle.cx_replay.specs.declared.objects.ObjectNow.{ObjectNow}
use Rattle.cx_replay.specs.declared.runner.RunnerNow.{RunnerNow}
use Rattle.cx_replay.specs.declared.outcome.Replayed.{Replayed as Outcome}
use Rattle.cx_replay.specs.SplitMix.{next_seed, word}
use Rattle.cx_replay.specs.Schedule.{Runner, World, Turn, Replays, opening_thing, opening_runners, start, step_of, stepped, steps_from, steps, drawn, chosen, turn, turns}
use Rattle.cx_replay.specs.Views.{thing_of, runners_from, world_of, replayed_in, replayed_of, Steps, AreEnabled, Draws}
use Rattle.cx_replay.proofs.Advancing.{stands, from_here, length-runners, one_more_turn}

abbrev pub step_at : Scene → World → ThreadNo → Option World
step_at s w t = step_of s w t.0

abbrev pub some : World → Option World
some v = Some v

none_or_one : (s : Scene) (w : World) (t : ThreadNo) (o : Option World) → step_of s w t.0 ≡ o → map (step_at s w) (if is_some (step_of s w t.0) then t ∷ [] else []) ≡ map some (option_to_list o)
none_or_one s w t None e = rw e refl
none_or_one s w t (Some v) e = ap (λ b. map (step_at s w) (if b then t ∷ [] else [])) (ap is_some e) ∙ ap (λ o. o ∷ []) e

pub enabled_more : (s : Scene) (w : World) (i : ℕ) (t : ThreadNo) (front now : List ThreadNo) → i < length w.runners → t.0 ≡ i → now ≡ front ++ (if is_some (step_of s w t.0) then t ∷ [] else []) → map (step_at s w) front ++ map some (steps_from s w i (drop i w.runners)) ≡ map some (steps s w) → map (step_at s w) now ++ map some (steps_from s w (i + 1) (drop (i + 1) w.runners)) ≡ map some (steps s w)
enabled_more s w i t front now lt number pushed h =
    let rest = steps_from s w (i + 1) (drop (i + 1) w.runners) in
    let this = if is_some (step_of s w t.0) then t ∷ [] else [] in
    let from : map some (steps_from s w i (drop i w.runners)) ≡ map some (option_to_list (step_of s w t.0)) ++ map some rest =
    ap (map some) (from_here s w i w.runners lt) ∙ (map-append some (option_to_list (step_of s w i)) rest ∙ ap (λ n. map some (option_to_list (step_of s w n)) ++ map some rest) (sym number)) in
    ap (λ ts. map (step_at s w) ts ++ map some rest) pushed
    ∙ (ap (λ l. l ++ map some rest) (map-append (step_at s w) front this)
    ∙ (append_assoc (map (step_at s w) front) (map (step_at s w) this) (map some rest)
    ∙ (ap (λ l. map (step_at s w) front ++ (l ++ map some rest)) (none_or_one s w t (step_of s w t.0) refl)
    ∙ (ap (λ l. map (step_at s w) front ++ l) (sym from) ∙ h))))

pub all_enabled : (s : Scene) (w : World) (i : ℕ) (front : List ThreadNo) → length w.runners ≤ i → map (step_at s w) front ++ map some (steps_from s w i (drop i w.runners)) ≡ map some (steps s w) → AreEnabled s w front
all_enabled s w i front le h = sym (append-nil (map (step_at s w) front)) ∙ (ap (λ l. map (step_at s w) front ++ map some (steps_from s w i l)) (sym (drop_all i w.runners le)) ∙ h)

pub are_kept : (s : Scene) (xs ys : List ObjectNow) (rs qs : List (Option RunnerNow)) (ts : List ThreadNo) → ys ≡ xs → qs ≡ rs → AreEnabled s (world_of s ys qs) ts → AreEnabled s (world_of s xs rs) ts
are_kept s xs ys rs qs ts e f h = subst (λ v. AreEnabled s (world_of s xs v) ts) f (subst (λ v. AreEnabled s (world_of s v qs) ts) e h)

-- ---- the choice

pub chosen_drawn : (ws : List World) (x i new : ℕ) (v : World) → i ≡ (if length ws == 1 then 0 else word (next_seed x) % length ws) → new ≡ (if length ws == 1 then x else next_seed x) → slice_get ws i ≡ Some v → chosen ws (Some x) ≡ Some (record { world = v; seed = Some new })
chosen_drawn [] x i new v e n at = cc
chosen_drawn (w ∷ []) x i new v e n at =
    let first : Some w ≡ Some v = sym (ap (slice_get (w ∷ [])) e) ∙ at in
    ap (option_map (λ (y : World). record { world = y; seed = Some x })) first ∙ ap (λ y. Some (record { world = v; seed = Some y })) (sym n)
chosen_drawn (w ∷ u ∷ ws) x i new v e n at =
    let k = length (w ∷ u ∷ ws) in
    let more : (k == 1) ≡ false = ne_eqb k 1 (λ h. absurd (omega (arith, h))) in
    let place : i ≡ word (next_seed x) % k = e ∙ ap (λ (b : Bool). if b then 0 else word (next_seed x) % k) more in
    let state : new ≡ next_seed x = n ∙ ap (λ (b : Bool). if b then x else next_seed x) more in
    let there : slice_get (w ∷ u ∷ ws) (word (next_seed x) % k) ≡ Some v = sym (ap (slice_get (w ∷ u ∷ ws)) place) ∙ at in
    ap (option_map (drawn (next_seed x))) there ∙ ap (λ y. Some (record { world = v; seed = Some y })) (sym state)

some_at : (ws : List World) (i : ℕ) (o : Option World) → slice_get (map some ws) i ≡ Some o → (v : World) × ((o ≡ Some v) × (slice_get ws i ≡ Some v))
some_at [] i o h = cc
some_at (w ∷ ws) zero o h = (w, (cc, refl))
some_at (w ∷ ws) (suc i) o h = some_at ws i o h

-- the thread at this place of the enabled ones makes the step at this place
pub step_there : (s : Scene) (w : World) (ts : List ThreadNo) (i : ℕ) (t : ThreadNo) → AreEnabled s w ts → i < length ts → t ≡ get_or ts i t → (v : World) × ((step_of s w t.0 ≡ Some v) × (slice_get (steps s w) i ≡ Some v))
step_there s w ts i t are lt at =
    some_at (steps s w) i (step_of s w t.0) (sym (ap (λ l. slice_get l i) are) ∙ (slice_get-map (step_at s w) ts i ∙ ap (option_map (step_at s w)) (stands ts i t lt at)))

same_length : (s : Scene) (w : World) (ts : List ThreadNo) → AreEnabled s w ts → length ts ≡ length (steps s w)
same_length s w ts are = sym (length-map ts (step_at s w)) ∙ (ap length are ∙ length-map (steps s w) some)

within : (s : Scene) (w : World) (t : ℕ) (v : World) → step_of s w t ≡ Some v → t < length w.runners
within s w t v h = go w.runners t h
  where
    go : (rs : List (Option Runner)) (n : ℕ) → stepped s w t (option_and_then (λ r. r) (slice_get rs n)) ≡ Some v → n < length rs
    go [] n k = cc
    go (r ∷ rs) zero k = omega arith
    go (r ∷ rs) (suc n) k = omega (arith, go rs n k)

pub drawn_within : (s : Scene) (xs : List ObjectNow) (rs : List (Option RunnerNow)) (ts : List ThreadNo) (i : ℕ) (t : ThreadNo) → AreEnabled s (world_of s xs rs) ts → i < length ts → t ≡ get_or ts i t → t.0 < length rs
drawn_within s xs rs ts i t are lt at =
    let (v, (made, there)) = step_there s (world_of s xs rs) ts i t are lt at in
    omega (arith, within s (world_of s xs rs) t.0 v made, length-runners s 0 rs)

pub draws : (s : Scene) (w next : World) (ts : List ThreadNo) (x i new count : ℕ) (t : ThreadNo) (b : Bool) → AreEnabled s w ts → i < length ts → t ≡ get_or ts i t → count ≡ length ts → i ≡ (if count == 1 then 0 else word (next_seed x) % count) → new ≡ (if count == 1 then x else next_seed x) → Steps b (step_of s w t.0) w next → Draws b (turn s (record { world = w; seed = Some x })) w next new
draws s w next ts x i new count t b are lt at many e n moved = go b moved (step_there s w ts i t are lt at)
  where
    all : count ≡ length (steps s w)
    all = many ∙ same_length s w ts are

    go : (c : Bool) → Steps c (step_of s w t.0) w next → ((v : World) × ((step_of s w t.0 ≡ Some v) × (slice_get (steps s w) i ≡ Some v))) → Draws c (turn s (record { world = w; seed = Some x })) w next new
    go true m (v, (made, there)) =
        let same : v ≡ next = is_next (step_of s w t.0) made m in
        chosen_drawn (steps s w) x i new next (subst (λ k. i ≡ (if k == 1 then 0 else word (next_seed x) % k)) all e) (subst (λ k. new ≡ (if k == 1 then x else next_seed x)) all n) (there ∙ ap some same)
      where
        is_next : (o : Option World) → o ≡ Some v → o ≡ Some next → v ≡ next
        is_next o p q = cc
    go false m (v, (made, there)) = let bad : None ≡ Some v = sym m.0 ∙ made in cc

pub draws_none : (s : Scene) (w same : World) (ts : List ThreadNo) (x new : ℕ) → AreEnabled s w ts → length ts ≡ 0 → turn s (record { world = w; seed = Some x }) ≡ None
draws_none s w same ts x new are none = go (steps s w) (sym (same_length s w ts are) ∙ none)
  where
    go : (ws : List World) → length ws ≡ 0 → chosen ws (Some x) ≡ None
    go [] h = refl
    go (v ∷ vs) h = absurd (omega (arith, h))

-- ---- the turns

abbrev pub at_seed : Scene → List ObjectNow → List (Option RunnerNow) → ℕ → Turn
at_seed s xs rs x = record { world = world_of s xs rs; seed = Some x }

pub starts_drawn : (s : Scene) (xs : List ObjectNow) (rs : List (Option RunnerNow)) (seed x : ℕ) → map thing_of xs ≡ map opening_thing s.objects → runners_from s 0 rs ≡ opening_runners s s.threads → x ≡ seed → turns 0 s (start s (Some seed)) ≡ Some (at_seed s xs rs x)
starts_drawn s xs rs seed x e f g = rw (e, f, g) refl

pub goes_on_drawn : (n : ℕ) (s : Scene) (seed x y : ℕ) (xs ys : List ObjectNow) (rs rs2 : List (Option RunnerNow)) (b : Bool) → turns n s (start s (Some seed)) ≡ Some (at_seed s xs rs x) → b ≡ true → Draws b (turn s (at_seed s xs rs x)) (world_of s xs rs) (world_of s ys rs2) y → turns (n + 1) s (start s (Some seed)) ≡ Some (at_seed s ys rs2 y)
goes_on_drawn n s seed x y xs ys rs rs2 b so_far is moved =
    one_more_turn n s (start s (Some seed)) (at_seed s xs rs x) (at_seed s ys rs2 y) so_far (subst (λ (v : Bool). Draws v (turn s (at_seed s xs rs x)) (world_of s xs rs) (world_of s ys rs2) y) is moved)

pub ends_drawn : (n : ℕ) (s : Scene) (seed x y : ℕ) (xs ys : List ObjectNow) (rs rs2 : List (Option RunnerNow)) (b : Bool) (r : Outcome) → turns n s (start s (Some seed)) ≡ Some (at_seed s xs rs x) → b ≡ false → Draws b (turn s (at_seed s xs rs x)) (world_of s xs rs) (world_of s ys rs2) y → replayed_of r ≡ replayed_in s (runners_from s 0 rs2) → Replays s (Some seed) (replayed_of r)
ends_drawn n s seed x y xs ys rs rs2 b r so_far is moved outcome =
    let m = subst (λ (v : Bool). Draws v (turn s (at_seed s xs rs x)) (world_of s xs rs) (world_of s ys rs2) y) is moved in
    record {
      count = n;
      last = at_seed s xs rs x;
      run = so_far;
      over = m.0;
      result = outcome ∙ ap (λ (w : World). replayed_in s w.runners) m.1;
    }
