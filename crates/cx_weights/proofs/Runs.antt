-- Every schedule ends, and what a replay keeps of it.
use Rattle.std.proofs.Common.{◌≡◌, ℕ, zero, suc, ◌+◌, ◌≤◌, ◌<◌, List, [], ◌∷◌, map, slice_get, slice_set, Option, Some, None, refl, sym, ap, ◌∙◌, arith}
use Rattle.cx_machine.specs.Machine.{State}
use Rattle.cx_scene.specs.Scene.{Scene}
use Rattle.cx_items.specs.Next.{Local, local_at_start}
use Rattle.cx_weights.specs.World.{total, AllSized, opening_states, starts, Run, opening, one_more, places_from, sum_of}
use Rattle.cx_weights.specs.Laws.{IsSmall, Lasts}
use Rattle.cx_weights.proofs.Worlds.{set_first, set_later, each_step_weighs}
use Rattle.cx_weights.proofs.Starts.{scenario_is_light}

-- ---- schedules

record Spent (s : Scene) (n : ℕ) (states : List State) (locals : List Local) : Type 0 where
  pub within : n + total s states locals ≤ total s (opening_states s) (starts s)
  pub sized : AllSized locals

nothing_spent : (n : ℕ) → 0 + n ≤ n
nothing_spent n = omega arith

one_spent : (n a b m : ℕ) → b + 1 ≤ a → n + a ≤ m → (n + 1) + b ≤ m
one_spent n a b m h k = omega arith

spent : (s : Scene) (n : ℕ) (states : List State) (locals : List Local) → IsSmall s → Run s n states locals → Spent s n states locals
spent s n states locals small opening = record { within = nothing_spent (total s (opening_states s) (starts s)); sized = (scenario_is_light s small).sized }
spent s n states locals small (one_more m before next ls completing t l k x run at_ moves is_) =
    let p = spent s m before ls small run in
    let q = each_step_weighs s before next ls completing t l k x p.sized at_ moves is_ in
    record { within = one_spent m (total s before ls) (total s next (slice_set ls t k)) (total s (opening_states s) (starts s)) q.less p.within; sized = q.sized }

below_most : (n a m c : ℕ) → n + a ≤ m → m < c → n < c
below_most n a m c h k = omega arith

pub every_schedule_ends : (s : Scene) (n : ℕ) (states : List State) (locals : List Local) → IsSmall s → Run s n states locals → Lasts s n states locals
every_schedule_ends s n states locals small run =
    let p = spent s n states locals small run in
    record { within = p.within; short = below_most n (total s states locals) (total s (opening_states s) (starts s)) 268435456 p.within (scenario_is_light s small).light; sized = p.sized }

-- ---- what a replay keeps: a thread that has begun, or none

pub place_there : {R : Type 0} (at : R → Local) (s : Scene) (v t : ℕ) (rs : List (Option R)) (r : R) → slice_get rs t ≡ Some (Some r) → slice_get (places_from at s v rs) t ≡ Some (at r)
place_there at s v t [] r e = cc
place_there at s v zero (None ∷ rs) r e = cc
place_there at s v zero (Some q ∷ rs) r e = let same : q ≡ r = cc in ap (λ x. Some (at x)) same
place_there at s v (suc t) (None ∷ rs) r e = place_there at s (v + 1) t rs r e
place_there at s v (suc t) (Some q ∷ rs) r e = place_there at s (v + 1) t rs r e

pub place_set : {R : Type 0} (at : R → Local) (s : Scene) (v t : ℕ) (rs : List (Option R)) (r : R) → places_from at s v (slice_set rs t (Some r)) ≡ slice_set (places_from at s v rs) t (at r)
place_set at s v t [] r = refl
place_set at s v zero (None ∷ rs) r = refl
place_set at s v zero (Some q ∷ rs) r = refl
place_set at s v (suc t) (None ∷ rs) r = ap (λ xs. local_at_start s v ∷ xs) (place_set at s (v + 1) t rs r)
place_set at s v (suc t) (Some q ∷ rs) r = ap (λ xs. at q ∷ xs) (place_set at s (v + 1) t rs r)

next_number : (v t : ℕ) → (v + 1) + t ≡ v + suc t
next_number v t = omega arith

-- a thread that begins stands where it stood
pub place_begun : {R : Type 0} (at : R → Local) (s : Scene) (v t : ℕ) (rs : List (Option R)) (r : R) → slice_get rs t ≡ Some None → at r ≡ local_at_start s (v + t) → places_from at s v (slice_set rs t (Some r)) ≡ places_from at s v rs
place_begun at s v t [] r e h = refl
place_begun at s v zero (None ∷ rs) r e h =
    let here : v + 0 ≡ v = omega arith in
    ap (λ x. x ∷ places_from at s (v + 1) rs) (h ∙ ap (λ n. local_at_start s n) here)
place_begun at s v zero (Some q ∷ rs) r e h = cc
place_begun at s v (suc t) (None ∷ rs) r e h = ap (λ xs. local_at_start s v ∷ xs) (place_begun at s (v + 1) t rs r e (h ∙ ap (λ n. local_at_start s n) (sym (next_number v t))))
place_begun at s v (suc t) (Some q ∷ rs) r e h = ap (λ xs. at q ∷ xs) (place_begun at s (v + 1) t rs r e (h ∙ ap (λ n. local_at_start s n) (sym (next_number v t))))

-- ---- the states of what is kept of the objects, and sums over it

pub map_set : {T U : Type 0} (f : T → U) (xs : List T) (i : ℕ) (x : T) → map f (slice_set xs i x) ≡ slice_set (map f xs) i (f x)
map_set f [] i x = refl
map_set f (y ∷ ys) zero x = refl
map_set f (y ∷ ys) (suc i) x = ap (λ zs. f y ∷ zs) (map_set f ys i x)

pub sum_set : {T : Type 0} (f : T → ℕ) (xs : List T) (i : ℕ) (x y : T) → slice_get xs i ≡ Some x → sum_of f (slice_set xs i y) + f x ≡ sum_of f xs + f y
sum_set f [] i x y e = cc
sum_set f (z ∷ zs) zero x y e = let same : z ≡ x = cc in set_first (f x) (f y) (sum_of f zs) (f z) (ap f same)
sum_set f (z ∷ zs) (suc i) x y e = set_later (f x) (f y) (sum_of f (slice_set zs i y)) (sum_of f zs) (f z) (sum_set f zs i x y e)

at_least_first : (a b x : ℕ) → a ≡ x → x ≤ a + b
at_least_first a b x h = omega arith

at_least_later : (a b x : ℕ) → x ≤ b → x ≤ a + b
at_least_later a b x h = omega arith

pub sum_at : {T : Type 0} (f : T → ℕ) (xs : List T) (i : ℕ) (x : T) → slice_get xs i ≡ Some x → f x ≤ sum_of f xs
sum_at f [] i x e = cc
sum_at f (z ∷ zs) zero x e = let same : z ≡ x = cc in at_least_first (f z) (sum_of f zs) (f x) (ap f same)
sum_at f (z ∷ zs) (suc i) x e = at_least_later (f z) (sum_of f zs) (f x) (sum_at f zs i x e)
