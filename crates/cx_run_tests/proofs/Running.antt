-- A scenario that passes the test may be run.
use Rattle.std.proofs.Common.{◌≡◌, ◌⊎◌, inl, inr, ℕ, zero, suc, ◌+◌, ◌≤◌, ◌==◌, Bool, true, false, ◌&&◌, List, [], ◌∷◌, length, slice_get, Option, Some, None, if◌then◌else◌, refl, sym, subst, arith, eqb-true}
use Rattle.std.specs.Prelude.{nat_le}
use Rattle.std.specs.List.{list_all}
use Rattle.std.proofs.lemmas.Bool.{and_parts, leb-true}
use Rattle.cx_machine.specs.Meaning.{bit}
use Rattle.cx_scene.specs.declared.declared.Callback.{Callback}
use Rattle.cx_scene.specs.declared.declared.Object.{Object}
use Rattle.cx_scene.specs.declared.call.Call.{Call}
use Rattle.cx_scene.specs.declared.call.Call.TheVariants as calls
use Rattle.cx_scene.specs.Scene.{Scene, body_of}
use Rattle.cx_asks.specs.Scenes.{is_object_now, is_completed_on, is_thread_now, is_latch, is_fit, starts_of, startings, takes_of, takings, taken_in, taken_below, count_of, count_at, IsAskable}
use Rattle.cx_work.specs.RunNow.{IsRunNow}
use Rattle.cx_run_tests.specs.Runnable.{are_fit, starts_anew, start_once, are_enough, are_none, is_runnable}

-- ---- bodies

-- what holds of a thread's body
record IsFitBody (s : Scene) (t : ℕ) (cs : List Call) : Type 0 where
  few : length cs ≤ 4096
  calls : list_all (is_fit s t) cs ≡ true

this_place : (t : ℕ) → t ≡ t + 0
this_place t = omega arith

from_first : (t : ℕ) → 0 + t ≡ t
from_first t = omega arith

next_place : (t i : ℕ) → suc t + i ≡ t + suc i
next_place t i = omega arith

fit_at : (s : Scene) (t : ℕ) (bodies : List (List Call)) (i : ℕ) → are_fit s t bodies ≡ true → (slice_get bodies i ≡ None) ⊎ ((cs : List Call) × (slice_get bodies i ≡ Some cs) × IsFitBody s (t + i) cs)
fit_at s t [] i h = inl refl
fit_at s t (cs ∷ bodies) zero h =
    let p = and_parts (nat_le (length cs) 4096 && list_all (is_fit s t) cs) (are_fit s (suc t) bodies) h in
    let q = and_parts (nat_le (length cs) 4096) (list_all (is_fit s t) cs) p.0 in
    let few = leb-true (length cs) 4096 q.0 in
    inr (cs, refl, subst (λ (n : ℕ). IsFitBody s n cs) (this_place t) (record { few = few; calls = q.1 }))
fit_at s t (cs ∷ bodies) (suc i) h =
    let p = and_parts (nat_le (length cs) 4096 && list_all (is_fit s t) cs) (are_fit s (suc t) bodies) h in
    elim (fit_at s (suc t) bodies i p.1) [
      | inl none ↦ inl none
      | inr r ↦ inr (r.0, r.1, subst (λ (n : ℕ). IsFitBody s n r.0) (next_place t i) r.2)
    ]

no_body : (s : Scene) (t : ℕ) → slice_get s.bodies t ≡ None → body_of s t ≡ []
no_body s t e = rw e refl

some_body : (s : Scene) (t : ℕ) (cs : List Call) → slice_get s.bodies t ≡ Some cs → body_of s t ≡ cs
some_body s t cs e = rw e refl

fit_body : (s : Scene) (t : ℕ) → are_fit s 0 s.bodies ≡ true → IsFitBody s t (body_of s t)
fit_body s t h = elim (fit_at s 0 s.bodies t h) [
  | inl none ↦ subst (λ (cs : List Call). IsFitBody s t cs) (sym (no_body s t none)) (record { few = omega arith; calls = refl })
  | inr r ↦ subst (λ (cs : List Call). IsFitBody s t cs) (sym (some_body s t r.0 r.1)) (subst (λ (n : ℕ). IsFitBody s n r.0) (from_first t) r.2)
]

-- ---- starts

at_most_one : (a b : ℕ) → a ≡ 0 → b ≤ 1 → a + b ≤ 1
at_most_one a b h k = omega (arith, h, k)

one_alone : (b : ℕ) → b ≡ 0 → 1 + b ≤ 1
one_alone b h = omega (arith, h)

started_here : (u : ℕ) (c : Call) (cs : List Call) → starts_anew c cs ≡ true → startings u cs ≤ 1 → starts_of u c + startings u cs ≤ 1
started_here u (calls.Start v) cs h le = go (v.0 == u) refl
  where
    go : (b : Bool) → (v.0 == u) ≡ b → bit b + startings u cs ≤ 1
    go false e = at_most_one 0 (startings u cs) refl le
    go true e =
        let same = eqb-true v.0 u e in
        let none = eqb-true (startings v.0 cs) 0 h in
        one_alone (startings u cs) (subst (λ (n : ℕ). startings n cs ≡ 0) same none)
started_here u _ cs h le = at_most_one 0 (startings u cs) refl le

started_once : (u : ℕ) (cs : List Call) → start_once cs ≡ true → startings u cs ≤ 1
started_once u [] h = omega arith
started_once u (c ∷ cs) h =
    let p = and_parts (starts_anew c cs) (start_once cs) h in
    started_here u c cs p.0 (started_once u cs p.1)

-- ---- latches

abbrev number_if : ℕ → Bool → ℕ
number_if n b = if b then n else 0

-- a place of no object is none of a latch
take_nothing : (s : Scene) (t o : ℕ) (c : Call) → slice_get s.objects o ≡ None → is_fit s t c ≡ true → takes_of o c ≡ 0
take_nothing s t o (calls.CountDown l n) none h = go (l.0 == o) refl
  where
    go : (b : Bool) → (l.0 == o) ≡ b → number_if n b ≡ 0
    go false e = refl
    go true e =
        let latch = (and_parts (is_latch (slice_get s.objects l.0)) (nat_le n 65535) h).0 in
        let there : is_latch (slice_get s.objects o) ≡ true = subst (λ (i : ℕ). is_latch (slice_get s.objects i) ≡ true) (eqb-true l.0 o e) latch in
        let no : is_latch None ≡ true = subst (λ (d : Option Object). is_latch d ≡ true) none there in
        absurd cc
take_nothing s t o (calls.ArriveAndWaitLatch l) none h = go (l.0 == o) refl
  where
    go : (b : Bool) → (l.0 == o) ≡ b → number_if 1 b ≡ 0
    go false e = refl
    go true e =
        let there : is_latch (slice_get s.objects o) ≡ true = subst (λ (i : ℕ). is_latch (slice_get s.objects i) ≡ true) (eqb-true l.0 o e) h in
        let no : is_latch None ≡ true = subst (λ (d : Option Object). is_latch d ≡ true) none there in
        absurd cc
take_nothing s t o _ none h = refl

both_none : (a b : ℕ) → a ≡ 0 → b ≡ 0 → a + b ≡ 0
both_none a b h k = omega (arith, h, k)

all_take_nothing : (s : Scene) (t o : ℕ) (cs : List Call) → slice_get s.objects o ≡ None → list_all (is_fit s t) cs ≡ true → takings o cs ≡ 0
all_take_nothing s t o [] none h = refl
all_take_nothing s t o (c ∷ cs) none h =
    let p = and_parts (is_fit s t c) (list_all (is_fit s t) cs) h in
    both_none (takes_of o c) (takings o cs) (take_nothing s t o c none p.0) (all_take_nothing s t o cs none p.1)

none_below : (s : Scene) (n o : ℕ) → are_fit s 0 s.bodies ≡ true → slice_get s.objects o ≡ None → taken_below s n o ≡ 0
none_below s zero o fit none = refl
none_below s (suc n) o fit none =
    let here : taken_in s n o ≡ 0 = all_take_nothing s n o (body_of s n) none (fit_body s n fit).calls in
    both_none (taken_below s n o) (taken_in s n o) (none_below s n o fit none) here

enough_at : (s : Scene) (o : ℕ) (ds : List Object) (i : ℕ) → are_enough s o ds ≡ true → (slice_get ds i ≡ None) ⊎ (taken_below s (length s.threads) (o + i) ≤ count_at ds i)
enough_at s o [] i h = inl refl
enough_at s o (d ∷ ds) zero h =
    let p = and_parts (nat_le (taken_below s (length s.threads) o) (count_of d)) (are_enough s (suc o) ds) h in
    let le = leb-true (taken_below s (length s.threads) o) (count_of d) p.0 in
    inr (subst (λ (n : ℕ). taken_below s (length s.threads) n ≤ count_of d) (this_place o) le)
enough_at s o (d ∷ ds) (suc i) h =
    let p = and_parts (nat_le (taken_below s (length s.threads) o) (count_of d)) (are_enough s (suc o) ds) h in
    elim (enough_at s (suc o) ds i p.1) [
      | inl none ↦ inl none
      | inr le ↦ inr (subst (λ (n : ℕ). taken_below s (length s.threads) n ≤ count_at ds i) (next_place o i) le)
    ]

none_is : (a n : ℕ) → a ≡ 0 → a ≤ n
none_is a n h = omega (arith, h)

enough : (s : Scene) (o : ℕ) → are_fit s 0 s.bodies ≡ true → are_enough s 0 s.objects ≡ true → taken_below s (length s.threads) o ≤ count_at s.objects o
enough s o fit h = elim (enough_at s 0 s.objects o h) [
  | inl none ↦ none_is (taken_below s (length s.threads) o) (count_at s.objects o) (none_below s (length s.threads) o fit none)
  | inr le ↦ subst (λ (n : ℕ). taken_below s (length s.threads) n ≤ count_at s.objects o) (from_first o) le
]

-- ---- the scenario

no_callbacks : (ks : List Callback) → are_none ks ≡ true → ks ≡ []
no_callbacks [] h = refl
no_callbacks (k ∷ ks) h = absurd cc

record AreSix (a b c d e f : Bool) : Type 0 where
  one : a ≡ true
  two : b ≡ true
  three : c ≡ true
  four : d ≡ true
  five : e ≡ true
  six : f ≡ true

parts_of : (a b c d e f : Bool) → (a && b && c && d && e && f) ≡ true → AreSix a b c d e f
parts_of a b c d e f h =
    let p = and_parts (a && b && c && d && e) f h in
    let q = and_parts (a && b && c && d) e p.0 in
    let r = and_parts (a && b && c) d q.0 in
    let u = and_parts (a && b) c r.0 in
    let v = and_parts a b u.0 in
    record { one = v.0; two = v.1; three = u.1; four = r.1; five = q.1; six = p.1 }

pub runnable_runs : (s : Scene) → is_runnable s ≡ true → IsRunNow s
runnable_runs s h =
    let w = and_parts (list_all is_object_now s.objects && list_all is_thread_now s.threads && are_fit s 0 s.bodies && start_once (body_of s 0) && are_enough s 0 s.objects && are_none s.callbacks) (list_all (is_completed_on s) s.objects) h in
    let p = parts_of (list_all is_object_now s.objects) (list_all is_thread_now s.threads) (are_fit s 0 s.bodies) (start_once (body_of s 0)) (are_enough s 0 s.objects) (are_none s.callbacks) w.0 in
    let asks : IsAskable s = record {
      objects = p.one;
      completions = w.1;
      threads = p.two;
      few = λ t. (fit_body s t p.three).few;
      calls = λ t. (fit_body s t p.three).calls;
      started = λ u. started_once u (body_of s 0) p.four;
      latches = λ o. enough s o p.three p.five;
    } in
    record { asks = asks; callbacks = no_callbacks s.callbacks p.six }
