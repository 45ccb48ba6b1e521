-- How the kept threads open and end.
use Rattle.std.proofs.Common.{◌≡◌, ℕ, zero, suc, ◌+◌, ◌<◌, ◌≤◌, Bool, true, false, List, [], ◌∷◌, ◌++◌, map, length, replicate, drop, get_or, Option, Some, None, option_map, slice_get, if◌then◌else◌, refl, sym, ap, ◌∙◌, subst, arith, add-one, drop-cons, append_assoc, append-nil}
use Rattle.std.proofs.lemmas.List.{drop_all, map-append}
use Rattle.cx_names.specs.declared.ThreadNo.{ThreadNo}
use Rattle.cx_scene.specs.declared.declared.Thread.{Thread}
use Rattle.cx_scene.specs.Scene.{Scene}
use Rattle.cx_items.specs.declared.item.Item.{Item}
use Rattle.cx_history.specs.Views.{number_of}
use Rattle.cx_replay.specs.declared.objects.ObjectNow.{ObjectNow}
use Rattle.cx_replay.specs.declared.runner.RunnerNow.{RunnerNow}
use Rattle.cx_replay.specs.declared.outcome.Replayed.{Replayed as Outcome}
use Rattle.cx_replay.specs.Schedule.{Runner, World, Turn, Replays, opening_thing, opening_runners, beginner, start, steps, turn, turns, is_live, live_from, done_of}
use Rattle.cx_replay.specs.Views.{thing_of, runner_of, runners_from, world_of, kept_list, replayed_in, replayed_of, Steps}
use Rattle.cx_replay.proofs.Advancing.{at_number, stands, at_or, first_chosen, one_more_turn, length-runners}

-- ---- the opening

pub one_more_none : {X : Type 0} (n : ℕ) (x : X) → replicate n x ++ x ∷ [] ≡ replicate (n + 1) x
one_more_none n x = go n ∙ ap (λ k. replicate k x) (sym (add-one n))
  where
    go : (k : ℕ) → replicate k x ++ x ∷ [] ≡ replicate (suc k) x
    go zero = refl
    go (suc k) = ap (λ xs. x ∷ xs) (go k)

none_yet : (s : Scene) (t : ℕ) (ts : List Thread) → runners_from s t (replicate (length ts) None) ≡ map (λ u. None) ts
none_yet s t [] = refl
none_yet s t (u ∷ us) = ap (λ rs. None ∷ rs) (none_yet s (t + 1) us)

pub opened : (s : Scene) (ts : List Thread) (main : RunnerNow) (n : ℕ) → n + 1 ≡ length ts → Some (runner_of s 0 main) ≡ beginner s 0 → runners_from s 0 (Some main ∷ replicate n None) ≡ opening_runners s ts
opened s [] main n h b = absurd (omega (arith, h))
opened s (t ∷ ts) main n h b =
    let same : n ≡ length ts = omega (arith, h) in
    ap (λ k. Some (runner_of s 0 main) ∷ runners_from s (0 + 1) (replicate k None)) same
    ∙ (ap (λ rs. Some (runner_of s 0 main) ∷ rs) (none_yet s (0 + 1) ts)
    ∙ ap (λ r. r ∷ map (λ u. None) ts) b)

pub opened_with : (s : Scene) (ts : List Thread) (main : RunnerNow) (n : ℕ) (xs front : List (Option RunnerNow)) → xs ≡ front ++ replicate n None → front ≡ Some main ∷ [] → n + 1 ≡ length ts → Some (runner_of s 0 main) ≡ beginner s 0 → runners_from s 0 xs ≡ opening_runners s ts
opened_with s ts main n xs front e f h b = ap (runners_from s 0) (e ∙ ap (λ v. v ++ replicate n None) f) ∙ opened s ts main n h b

pub one_more : (n : ℕ) (front xs ys : List (Option RunnerNow)) → xs ≡ front ++ replicate n None → ys ≡ xs ++ None ∷ [] → ys ≡ front ++ replicate (n + 1) None
one_more n front xs ys e p = p ∙ (ap (λ v. v ++ None ∷ []) e ∙ (append_assoc front (replicate n None) (None ∷ []) ∙ ap (λ v. front ++ v) (one_more_none n None)))

-- ---- the turns

abbrev pub at : Scene → List ObjectNow → List (Option RunnerNow) → Turn
at s xs rs = record { world = world_of s xs rs; seed = None }

pub starts : (s : Scene) (xs : List ObjectNow) (rs : List (Option RunnerNow)) → map thing_of xs ≡ map opening_thing s.objects → runners_from s 0 rs ≡ opening_runners s s.threads → turns 0 s (start s None) ≡ Some (at s xs rs)
starts s xs rs e f = rw (e, f) refl

pub goes_on : (n : ℕ) (s : Scene) (xs ys : List ObjectNow) (rs rs2 : List (Option RunnerNow)) (b : Bool) → turns n s (start s None) ≡ Some (at s xs rs) → b ≡ true → Steps b (slice_get (steps s (world_of s xs rs)) 0) (world_of s xs rs) (world_of s ys rs2) → turns (n + 1) s (start s None) ≡ Some (at s ys rs2)
goes_on n s xs ys rs rs2 b so_far is moved =
    let m = subst (λ (v : Bool). Steps v (slice_get (steps s (world_of s xs rs)) 0) (world_of s xs rs) (world_of s ys rs2)) is moved in
    one_more_turn n s (start s None) (at s xs rs) (at s ys rs2) so_far (first_chosen s (world_of s xs rs) ∙ ap (option_map (λ (x : World). record { world = x; seed = None })) m)

pub ends : (n : ℕ) (s : Scene) (xs ys : List ObjectNow) (rs rs2 : List (Option RunnerNow)) (b : Bool) (r : Outcome) → turns n s (start s None) ≡ Some (at s xs rs) → b ≡ false → Steps b (slice_get (steps s (world_of s xs rs)) 0) (world_of s xs rs) (world_of s ys rs2) → replayed_of r ≡ replayed_in s (runners_from s 0 rs2) → Replays s None (replayed_of r)
ends n s xs ys rs rs2 b r so_far is moved outcome =
    let m = subst (λ (v : Bool). Steps v (slice_get (steps s (world_of s xs rs)) 0) (world_of s xs rs) (world_of s ys rs2)) is moved in
    let none : turn s (at s xs rs) ≡ None = first_chosen s (world_of s xs rs) ∙ ap (option_map (λ (x : World). record { world = x; seed = None })) m.0 in
    record {
      count = n;
      last = at s xs rs;
      run = so_far;
      over = none;
      result = outcome ∙ ap (λ (w : World). replayed_in s w.runners) m.1;
    }

-- ---- the end

pub done_lists : (s : Scene) (t : ℕ) (rs : List (Option RunnerNow)) → map kept_list rs ≡ map done_of (runners_from s t rs)
done_lists s t [] = refl
done_lists s t (r ∷ rs) = ap (λ o. o ∷ map kept_list rs) (one_list r) ∙ ap (λ all. done_of (option_map (runner_of s t) r) ∷ all) (done_lists s (t + 1) rs)
  where
    one_list : (o : Option RunnerNow) → kept_list o ≡ done_of (option_map (runner_of s t) o)
    one_list None = refl
    one_list (Some q) = refl

live_at : (s : Scene) (i : ℕ) (rs : List (Option Runner)) → i < length rs → live_from i (drop i rs) ≡ (if is_live (get_or rs i None) then i ∷ [] else []) ++ live_from (i + 1) (drop (i + 1) rs)
live_at s i rs h = let there : drop i rs ≡ get_or rs i None ∷ drop (i + 1) rs = rw add-one (drop-cons rs i None h) in rw there refl

pub live_more : (s : Scene) (i : ℕ) (rs : List (Option RunnerNow)) (r : Option RunnerNow) (t : ThreadNo) (front now : List ThreadNo) → i < length rs → r ≡ get_or rs i r → t.0 ≡ i → now ≡ front ++ (if is_live (option_map (runner_of s t.0) r) then t ∷ [] else []) → live_from 0 (runners_from s 0 rs) ≡ map number_of front ++ live_from i (drop i (runners_from s 0 rs)) → live_from 0 (runners_from s 0 rs) ≡ map number_of now ++ live_from (i + 1) (drop (i + 1) (runners_from s 0 rs))
live_more s i rs r t front now lt at_ number pushed h =
    let all = runners_from s 0 rs in
    let rest = live_from (i + 1) (drop (i + 1) all) in
    let low : i < length all = omega (arith, lt, length-runners s 0 rs) in
    let here : slice_get all i ≡ Some (option_map (runner_of s i) r) = at_number s rs i r (stands rs i r lt at_) in
    let got : get_or all i None ≡ option_map (runner_of s t.0) r = one (slice_get all i) (at_or all i None low) here ∙ ap (λ n. option_map (runner_of s n) r) (sym number) in
    h ∙ (ap (λ l. map number_of front ++ l) (live_at s i all low)
    ∙ (ap (λ v. map number_of front ++ ((if is_live v then i ∷ [] else []) ++ rest)) got
    ∙ (sym (append_assoc (map number_of front) (if is_live (option_map (runner_of s t.0) r) then i ∷ [] else []) rest)
    ∙ ap (λ l. l ++ rest) (by_test (is_live (option_map (runner_of s t.0) r)) ∙ sym (ap (map number_of) pushed)))))
  where
    one : {X : Type 0} {a b : X} (o : Option X) → o ≡ Some a → o ≡ Some b → a ≡ b
    one o p q = cc

    by_test : (b : Bool) → map number_of front ++ (if b then i ∷ [] else []) ≡ map number_of (front ++ (if b then t ∷ [] else []))
    by_test true = ap (λ n. map number_of front ++ n ∷ []) (sym number) ∙ sym (map-append number_of front (t ∷ []))
    by_test false = sym (map-append number_of front [])

pub all_live : (s : Scene) (i : ℕ) (rs : List (Option RunnerNow)) (front : List ThreadNo) → length rs ≤ i → live_from 0 (runners_from s 0 rs) ≡ map number_of front ++ live_from i (drop i (runners_from s 0 rs)) → map number_of front ≡ live_from 0 (runners_from s 0 rs)
all_live s i rs front le h =
    let past : length (runners_from s 0 rs) ≤ i = omega (arith, le, length-runners s 0 rs) in
    sym (h ∙ (ap (λ l. map number_of front ++ live_from i l) (drop_all i (runners_from s 0 rs) past) ∙ append-nil (map number_of front)))

pub outcome_is : (s : Scene) (rs : List (Option RunnerNow)) (ls : List (Option (List Item))) (live : List ℕ) → ls ≡ map kept_list rs → live ≡ live_from 0 (runners_from s 0 rs) → record { recorded = record { version = s.version; lists = ls }; live = live } ≡ replayed_in s (runners_from s 0 rs)
outcome_is s rs ls live e l =
    let lists : ls ≡ map done_of (runners_from s 0 rs) = e ∙ done_lists s 0 rs in
    rw (lists, l) refl

pub none_live : (ts : List ThreadNo) → length ts ≡ 0 → [] ≡ map number_of ts
none_live [] h = refl
none_live (t ∷ ts) h = absurd (omega (arith, h))
