-- A step and a turn of the kept threads are those of the schedule.
use Rattle.std.proofs.Common.{◌≡◌, ℕ, zero, suc, ◌+◌, ◌<◌, ◌≤◌, Bool, true, false, List, [], ◌∷◌, ◌++◌, map, length, get_or, drop, Option, Some, None, is_some, is_none, option_and_then, option_map, option_to_list, slice_get, slice_set, if◌then◌else◌, refl, sym, ap, ◌∙◌, subst, arith, zero-add, add-one, drop-cons}
use Rattle.std.proofs.lemmas.Option.{slice_get_read}
use Rattle.std.proofs.lemmas.List.{drop_all}
use Rattle.cx_scene.specs.Scene.{Scene}
use Rattle.cx_items.specs.declared.item.Item.{Item}
use Rattle.cx_items.specs.declared.form.Form.{Form}
use Rattle.cx_items.specs.Next.{Local, moved, reached, offered, with_item}
use Rattle.cx_items.specs.Steps.{IsMove}
use Rattle.cx_replay.specs.declared.objects.ObjectNow.{ObjectNow}
use Rattle.cx_replay.specs.declared.runner.RunnerNow.{RunnerNow}
use Rattle.cx_replay.specs.Schedule.{Runner, World, Made, Turn, moved_to, first_made, beginner, begun_at, with_beginner, stepped_to, after_step, stepped, step_of, steps_from, steps, chosen, turn, turns}
use Rattle.cx_replay.specs.Views.{thing_of, runner_of, runners_from, world_of, forms_there, reached_there, Advances, Steps}
use Rattle.cx_replay.proofs.Fitting.{made_is_reached}
use Rattle.cx_replay.proofs.Trying.{runner_there, runner_put, missing}

-- ---- one item

-- a thread that may make an item goes on
pub went : (s : Scene) (completing : Bool) (t : ℕ) (l k : Local) (x : Item) (done : List Item) (b : Bool) → IsMove b (moved s completing t l x) l k → is_some (reached s (offered s t l) x) ≡ true → option_map (moved_to done) (moved s completing t l x) ≡ Some (moved_to done k)
went s completing t l k x done true h may = ap (option_map (moved_to done)) h
went s completing t l k x done false h may = go (reached s (offered s t l) x) may h.0
  where
    go : (o : Option Local) → is_some o ≡ true → option_map (with_item s completing x) o ≡ None → option_map (moved_to done) (option_map (with_item s completing x) o) ≡ Some (moved_to done k)
    go None p q = cc
    go (Some m) p q = cc

-- what was made is what the thread may make
pub may_go_on : (s : Scene) (w : World) (t : ℕ) (r : Option Runner) (fs : List Form) (m : Made) → fs ≡ forms_there s t r → first_made s w t fs ≡ Some m → is_some (reached_there s t r m.item) ≡ true
may_go_on s w t None fs m e h = let none : first_made s w t fs ≡ None = ap (first_made s w t) e in cc (none, h)
may_go_on s w t (Some r) fs m e h = made_is_reached s w t r.local m (ap (first_made s w t) (sym e) ∙ h)

-- ---- what stands at an index

pub stands : {X : Type 0} (xs : List X) (i : ℕ) (x : X) → i < length xs → x ≡ get_or xs i x → slice_get xs i ≡ Some x
stands xs i x lt at_ = slice_get_read xs (length xs) i x refl lt at_

pub same_there : {X : Type 0} (xs : List X) (i : ℕ) (x y : X) → i < length xs → x ≡ get_or xs i x → y ≡ get_or xs i y → x ≡ y
same_there {X = X} xs i x y lt p q = one_there (slice_get xs i) (stands xs i x lt p) (stands xs i y lt q)
  where
    one_there : (o : Option X) → o ≡ Some x → o ≡ Some y → x ≡ y
    one_there o a b = cc

-- what was offered at an index is what is offered there
pub tried_there : (s : Scene) (rs : List (Option RunnerNow)) (t : ℕ) (q : Option RunnerNow) (fs : List Form) → slice_get rs t ≡ Some q → fs ≡ forms_there s t (option_map (runner_of s t) q) → (r : Option RunnerNow) → slice_get rs t ≡ Some r → (slice_get rs t ≡ Some r) × (fs ≡ forms_there s t (option_map (runner_of s t) r))
tried_there s rs t q fs at_ offered_ r h = (h, subst (λ o. fs ≡ forms_there s t (option_map (runner_of s t) o)) (one_there at_ h) offered_)
  where
    one_there : {z : Option (Option RunnerNow)} {a b : Option RunnerNow} → z ≡ Some a → z ≡ Some b → a ≡ b
    one_there p e = cc

-- ---- a thread begins

pub begun_nowhere : (s : Scene) (u : ℕ) (rs : List (Option Runner)) → length rs ≤ u → rs ≡ begun_at s u rs
begun_nowhere s u rs h = rw (missing rs u h) (sym (outside rs u (beginner s u) h))
  where
    outside : {X : Type 0} (xs : List X) (i : ℕ) (x : X) → length xs ≤ i → slice_set xs i x ≡ xs
    outside [] i x h = refl
    outside (y ∷ ys) zero x h = absurd (omega (arith, h))
    outside (y ∷ ys) (suc i) x h = ap (λ zs. y ∷ zs) (outside ys i x (omega (arith, h)))

pub length-runners : (s : Scene) (t : ℕ) (rs : List (Option RunnerNow)) → length (runners_from s t rs) ≡ length rs
length-runners s t [] = refl
length-runners s t (r ∷ rs) = ap suc (length-runners s (t + 1) rs)

pub at_number : (s : Scene) (rs : List (Option RunnerNow)) (u : ℕ) (r : Option RunnerNow) → slice_get rs u ≡ Some r → slice_get (runners_from s 0 rs) u ≡ Some (option_map (runner_of s u) r)
at_number s rs u r e = subst (λ n. slice_get (runners_from s 0 rs) u ≡ Some (option_map (runner_of s n) r)) (zero-add u) (runner_there s 0 rs u r e)

pub put_number : (s : Scene) (rs : List (Option RunnerNow)) (u : ℕ) (r : Option RunnerNow) → runners_from s 0 (slice_set rs u r) ≡ slice_set (runners_from s 0 rs) u (option_map (runner_of s u) r)
put_number s rs u r = subst (λ n. runners_from s 0 (slice_set rs u r) ≡ slice_set (runners_from s 0 rs) u (option_map (runner_of s n) r)) (zero-add u) (runner_put s 0 rs u r)

pub begun_before : (s : Scene) (rs : List (Option RunnerNow)) (u : ℕ) (r : Option RunnerNow) → slice_get rs u ≡ Some r → is_some r ≡ true → runners_from s 0 rs ≡ begun_at s u (runners_from s 0 rs)
begun_before s rs u None e h = cc
begun_before s rs u (Some q) e h = sym (kept (slice_get (runners_from s 0 rs) u) (at_number s rs u (Some q) e))
  where
    kept : (o : Option (Option Runner)) → o ≡ Some (Some (runner_of s u q)) → (if is_none (option_and_then (λ r. r) o) then slice_set (runners_from s 0 rs) u (beginner s u) else runners_from s 0 rs) ≡ runners_from s 0 rs
    kept o p = rw p refl

pub begun_anew : (s : Scene) (rs : List (Option RunnerNow)) (u : ℕ) (r : Option RunnerNow) (q : RunnerNow) → slice_get rs u ≡ Some r → is_some r ≡ false → Some (runner_of s u q) ≡ beginner s u → runners_from s 0 (slice_set rs u (Some q)) ≡ begun_at s u (runners_from s 0 rs)
begun_anew s rs u (Some p) q e h b = cc
begun_anew s rs u None q e h b = put_number s rs u (Some q) ∙ (ap (λ v. slice_set (runners_from s 0 rs) u v) b ∙ sym (anew (slice_get (runners_from s 0 rs) u) (at_number s rs u None e)))
  where
    anew : (o : Option (Option Runner)) → o ≡ Some None → (if is_none (option_and_then (λ r. r) o) then slice_set (runners_from s 0 rs) u (beginner s u) else runners_from s 0 rs) ≡ slice_set (runners_from s 0 rs) u (beginner s u)
    anew o p = rw p refl

pub begun_outside : (s : Scene) (rs : List (Option RunnerNow)) (u : ℕ) → length rs ≤ u → runners_from s 0 rs ≡ begun_at s u (runners_from s 0 rs)
begun_outside s rs u h = begun_nowhere s u (runners_from s 0 rs) (omega (arith, h, length-runners s 0 rs))

-- ---- one step

pub step_made : (s : Scene) (xs ys : List ObjectNow) (rs rs2 : List (Option RunnerNow)) (t : ℕ) (old new : Option RunnerNow) (fs : List Form) (x : Item)
    → slice_get rs t ≡ Some old
    → fs ≡ forms_there s t (option_map (runner_of s t) old)
    → first_made s (world_of s xs rs) t fs ≡ Some (record { item = x; things = map thing_of ys })
    → Advances s (map thing_of ys) t x (option_map (runner_of s t) old) (option_map (runner_of s t) new)
    → runners_from s 0 rs2 ≡ with_beginner s x (runners_from s 0 (slice_set rs t new))
    → step_of s (world_of s xs rs) t ≡ Some (world_of s ys rs2)
step_made s xs ys rs rs2 t None new fs x at e made_ adv beg = let none : first_made s (world_of s xs rs) t fs ≡ None = ap (first_made s (world_of s xs rs) t) e in cc (none, made_)
step_made s xs ys rs rs2 t (Some r) None fs x at e made_ adv beg = let bad : false ≡ true = adv.1 in cc
step_made s xs ys rs rs2 t (Some r) (Some q) fs x at e made_ adv beg =
    let w = world_of s xs rs in
    let before = runner_of s t r in
    let m : Made = record { item = x; things = map thing_of ys } in
    let first : first_made s w t (forms_there s t (Some before)) ≡ Some m = ap (first_made s w t) (sym e) ∙ made_ in
    let put : runners_from s 0 rs2 ≡ with_beginner s x (slice_set w.runners t (Some (runner_of s t q))) = beg ∙ ap (with_beginner s x) (put_number s rs t (Some q)) in
    ap (λ o. stepped s w t (option_and_then (λ r. r) o)) (at_number s rs t (Some r) at)
    ∙ (ap (option_and_then (after_step s w t before)) first
    ∙ (ap (option_map (stepped_to s w t m)) adv.0
    ∙ ap (λ all. Some (record { things = map thing_of ys; runners = all })) (sym put)))

pub step_not_made : (s : Scene) (xs ys : List ObjectNow) (rs : List (Option RunnerNow)) (t : ℕ) (old : Option RunnerNow) (fs : List Form)
    → slice_get rs t ≡ Some old
    → fs ≡ forms_there s t (option_map (runner_of s t) old)
    → (first_made s (world_of s xs rs) t fs ≡ None) × (map thing_of ys ≡ map thing_of xs)
    → (step_of s (world_of s xs rs) t ≡ None) × (world_of s ys rs ≡ world_of s xs rs)
step_not_made s xs ys rs t old fs at e h = (no_step old at e, ap (λ things. record { things = things; runners = runners_from s 0 rs }) h.1)
  where
    no_step : (o : Option RunnerNow) → slice_get rs t ≡ Some o → fs ≡ forms_there s t (option_map (runner_of s t) o) → step_of s (world_of s xs rs) t ≡ None
    no_step None p f = ap (λ o. stepped s (world_of s xs rs) t (option_and_then (λ r. r) o)) (at_number s rs t None p)
    no_step (Some r) p f =
        ap (λ o. stepped s (world_of s xs rs) t (option_and_then (λ r. r) o)) (at_number s rs t (Some r) p)
        ∙ ap (option_and_then (after_step s (world_of s xs rs) t (runner_of s t r))) (ap (first_made s (world_of s xs rs) t) (sym f) ∙ h.0)

-- ---- one turn

pub at_or : {X : Type 0} (xs : List X) (i : ℕ) (d : X) → i < length xs → slice_get xs i ≡ Some (get_or xs i d)
at_or [] i d h = absurd (omega (arith, h))
at_or (x ∷ xs) zero d h = refl
at_or (x ∷ xs) (suc i) d h = at_or xs i d (omega (arith, h))

pub from_here : (s : Scene) (w : World) (t : ℕ) (rs : List (Option Runner)) → t < length rs → steps_from s w t (drop t rs) ≡ option_to_list (stepped s w t (option_and_then (λ r. r) (slice_get rs t))) ++ steps_from s w (t + 1) (drop (t + 1) rs)
from_here s w t rs h =
    let there : drop t rs ≡ get_or rs t None ∷ drop (t + 1) rs = rw add-one (drop-cons rs t None h) in
    let seen : option_and_then (λ r. r) (slice_get rs t) ≡ get_or rs t None = ap (option_and_then (λ r. r)) (at_or rs t None h) in
    rw (there, seen) refl

pub turn_made : (s : Scene) (w next same : World) (t : ℕ) (b : Bool) → t < length w.runners → same ≡ w → b ≡ true → Steps b (step_of s same t) same next → steps_from s w t (drop t w.runners) ≡ steps s w → slice_get (steps s w) 0 ≡ Some next
turn_made s w next same t b lt is made_ moved so_far =
    let m : step_of s w t ≡ Some next = ap (λ (x : World). step_of s x t) (sym is) ∙ subst (λ (x : Bool). Steps x (step_of s same t) same next) made_ moved in
    let o : steps s w ≡ next ∷ steps_from s w (t + 1) (drop (t + 1) w.runners) = sym so_far ∙ (from_here s w t w.runners lt ∙ ap (λ (x : Option World). option_to_list x ++ steps_from s w (t + 1) (drop (t + 1) w.runners)) m) in
    rw o refl

pub turn_later : (s : Scene) (w next same : World) (t : ℕ) (b : Bool) → t < length w.runners → same ≡ w → b ≡ false → Steps b (step_of s same t) same next → steps_from s w t (drop t w.runners) ≡ steps s w → (next ≡ w) × (steps_from s w (t + 1) (drop (t + 1) w.runners) ≡ steps s w)
turn_later s w next same t b lt is not_made moved so_far =
    let m = subst (λ (x : Bool). Steps x (step_of s same t) same next) not_made moved in
    let none : step_of s w t ≡ None = ap (λ (x : World). step_of s x t) (sym is) ∙ m.0 in
    (m.1 ∙ is, sym (ap (λ (x : Option World). option_to_list x ++ steps_from s w (t + 1) (drop (t + 1) w.runners)) none) ∙ (sym (from_here s w t w.runners lt) ∙ so_far))

pub no_turn : (s : Scene) (w : World) (t : ℕ) → length w.runners ≤ t → steps_from s w t (drop t w.runners) ≡ steps s w → slice_get (steps s w) 0 ≡ None
no_turn s w t le so_far =
    let none : steps s w ≡ [] = sym so_far ∙ ap (steps_from s w t) (drop_all t w.runners le) in
    rw none refl

pub first_chosen : (s : Scene) (w : World) → turn s (record { world = w; seed = None }) ≡ option_map (λ (x : World). record { world = x; seed = None }) (slice_get (steps s w) 0)
first_chosen s w = go (steps s w)
  where
    go : (ws : List World) → chosen ws None ≡ option_map (λ (x : World). record { world = x; seed = None }) (slice_get ws 0)
    go [] = refl
    go (x ∷ []) = refl
    go (x ∷ y ∷ ws) = refl

pub turns_push : (n : ℕ) (s : Scene) (x y z : Turn) → turns n s x ≡ Some y → turn s y ≡ Some z → turns (suc n) s x ≡ Some z
turns_push zero s x y z h t = let is : x ≡ y = cc in ap (λ v. option_and_then (turns zero s) (turn s v)) is ∙ ap (option_and_then (turns zero s)) t
turns_push (suc n) s x y z h t = after (turn s x) h (λ v hv. turns_push n s v y z hv t)
  where
    after : (o : Option Turn) → option_and_then (turns n s) o ≡ Some y → ((v : Turn) → turns n s v ≡ Some y → turns (suc n) s v ≡ Some z) → option_and_then (turns (suc n) s) o ≡ Some z
    after None k f = cc
    after (Some v) k f = f v k

pub one_more_turn : (n : ℕ) (s : Scene) (x y z : Turn) → turns n s x ≡ Some y → turn s y ≡ Some z → turns (n + 1) s x ≡ Some z
one_more_turn n s x y z h t = rw add-one (turns_push n s x y z h t)
