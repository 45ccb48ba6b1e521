-- Numbers in rising order: where one stands, and what is kept when one comes or goes.
use Rattle.std.proofs.Common.{◌≡◌, ℕ, zero, suc, ◌<◌, ◌≤◌, ◌==◌, nat_lt, true, false, not, cond, List, [], ◌∷◌, length, get_or, refl, ap, sym, arith, ◌⊎◌, inl, inr}
use Rattle.std.specs.List.{insert, remove, AllByRecursion}
use Rattle.std.specs.Result.{MatchResult}
use Rattle.std.specs.Prelude.{Result, Ok, Err}
use Rattle.std.specs.List.Sorted.{IsBinarySearchResult}
use Rattle.std.specs.Ordering.{nat_cmp}
use Rattle.std.proofs.lemmas.Bool.{lt-ltb, le-ltb, eq-eqb, ne_eqb, cases_Bool, ltb-true, ltb-false, eqb-false}
use Rattle.std.proofs.lemmas.List.Sorted.{searched}
use Rattle.cx_machine.specs.Words.{IsRising, IsFoundAt, IsMissingAt, has, without, inserted}

-- all of these are above m
abbrev Above : ℕ → List ℕ → Type 0
Above m ms = AllByRecursion (λ n. m < n) ms

pub above_at : (m : ℕ) (ms : List ℕ) (k : ℕ) → Above m ms → k < length ms → m < get_or ms k 0
above_at m [] k h lt = absurd (omega (arith, lt))
above_at m (n ∷ ns) zero h lt = h.0
above_at m (n ∷ ns) (suc k) h lt = above_at m ns k h.1 (omega (arith, lt))

pub rising_at : (ms : List ℕ) → IsRising ms → (i j : ℕ) → i ≤ j → j < length ms → get_or ms i 0 ≤ get_or ms j 0
rising_at [] h i j le lt = absurd (omega (arith, lt))
rising_at (m ∷ ms) h zero zero le lt = omega arith
rising_at (m ∷ ms) h zero (suc j) le lt = let a : m < get_or ms j 0 = above_at m ms j h.0 (omega (arith, lt)) in omega (arith, a)
rising_at (m ∷ ms) h (suc i) zero le lt = absurd (omega (arith, le))
rising_at (m ∷ ms) h (suc i) (suc j) le lt = rising_at ms h.1 i j (omega (arith, le)) (omega (arith, lt))

-- what stands below all isn't among them
pub above_lacks : (n : ℕ) (ms : List ℕ) → Above n ms → (has ms n ≡ false) × (without ms n ≡ ms)
above_lacks n [] h = (refl, refl)
above_lacks n (m ∷ ms) h =
    let ne : (m == n) ≡ false = ne_eqb m n (λ e. omega (arith, e, h.0)) in
    let rest = above_lacks n ms h.1 in
    (rw ne rest.0, rw ne (ap (λ (r : List ℕ). m ∷ r) rest.1))

pub found : (ms : List ℕ) (n i : ℕ) → IsRising ms → i < length ms → get_or ms i 0 ≡ n → (has ms n ≡ true) × (remove ms i ≡ without ms n) × (inserted ms n ≡ ms)
found [] n i h lt e = absurd (omega (arith, lt))
found (m ∷ ms) n zero h lt e =
    let eq : (m == n) ≡ true = eq-eqb m n e in
    let nl : nat_lt m n ≡ false = le-ltb m n (omega (arith, e)) in
    let up : Above n ms = rw e at h.0 in
    let rest = above_lacks n ms up in
    (rw eq refl, rw eq (sym rest.1), rw (nl, eq) refl)
found (m ∷ ms) n (suc i) h lt e =
    let a : m < get_or ms i 0 = above_at m ms i h.0 (omega (arith, lt)) in
    let less : m < n = omega (arith, a, e) in
    let ne : (m == n) ≡ false = ne_eqb m n (λ q. omega (arith, q, less)) in
    let yl : nat_lt m n ≡ true = lt-ltb m n less in
    let rest = found ms n i h.1 (omega (arith, lt)) e in
    (rw ne rest.0, rw ne (ap (λ (r : List ℕ). m ∷ r) rest.1), rw yl (ap (λ (r : List ℕ). m ∷ r) rest.2))

pub missing : (ms : List ℕ) (n i : ℕ) → i ≤ length ms → ((k : ℕ) → k < i → get_or ms k 0 < n) → ((k : ℕ) → i ≤ k → k < length ms → n < get_or ms k 0) → (has ms n ≡ false) × (insert ms i n ≡ inserted ms n) × (without ms n ≡ ms)
missing [] n zero le below above = (refl, refl, refl)
missing [] n (suc i) le below above = absurd (omega (arith, le))
missing (m ∷ ms) n zero le below above =
    let up : n < m = above 0 (omega arith) (omega arith) in
    let ne : (m == n) ≡ false = ne_eqb m n (λ q. omega (arith, q, up)) in
    let nl : nat_lt m n ≡ false = le-ltb m n (omega (arith, up)) in
    let rest = missing ms n 0 (omega arith) (λ k lt. absurd (omega (arith, lt))) (λ k le_ lt. above (suc k) (omega arith) (omega (arith, lt))) in
    (rw ne rest.0, rw (nl, ne) refl, rw ne (ap (λ (r : List ℕ). m ∷ r) rest.2))
missing (m ∷ ms) n (suc i) le below above =
    let less : m < n = below 0 (omega arith) in
    let ne : (m == n) ≡ false = ne_eqb m n (λ q. omega (arith, q, less)) in
    let yl : nat_lt m n ≡ true = lt-ltb m n less in
    let rest = missing ms n i (omega (arith, le)) (λ k lt. below (suc k) (omega (arith, lt))) (λ k le_ lt. above (suc k) (omega (arith, le_)) (omega (arith, lt))) in
    (rw ne rest.0, rw yl (ap (λ (r : List ℕ). m ∷ r) rest.1), rw ne (ap (λ (r : List ℕ). m ∷ r) rest.2))

-- what a search tells of a number: where it stands, or where it would
pub told : (ms : List ℕ) (n : ℕ) (r : Result ℕ ℕ) → IsRising ms → IsBinarySearchResult (λ y. nat_cmp y n) ms r → MatchResult r (IsFoundAt ms n) (IsMissingAt ms n)
told ms n (Ok i) up s =
    let at_ = searched ms n (Ok i) s (rising_at ms up) in
    let f = found ms n i up at_.0 at_.1 in
    record { has_it = f.0; below = at_.0; taken_out = f.1; in_already = f.2 }
told ms n (Err i) up s =
    let at_ = searched ms n (Err i) s (rising_at ms up) in
    let f = missing ms n i at_.0 at_.1 at_.2 in
    record { lacks_it = f.0; within = at_.0; put_in = f.1; out_already = f.2 }

pub above-without : (m n : ℕ) (ms : List ℕ) → Above m ms → Above m (without ms n)
above-without m n [] h = tt
above-without m n (x ∷ xs) h =
    elim (x == n) as (λ b. Above m (cond (not b) (x ∷ without xs n) (without xs n))) [ true ↦ above-without m n xs h.1 | false ↦ (h.0, above-without m n xs h.1) ]

pub rising-without : (n : ℕ) (ms : List ℕ) → IsRising ms → IsRising (without ms n)
rising-without n [] h = tt
rising-without n (x ∷ xs) h =
    elim (x == n) as (λ b. IsRising (cond (not b) (x ∷ without xs n) (without xs n))) [ true ↦ rising-without n xs h.1 | false ↦ (above-without x n xs h.0, rising-without n xs h.1) ]

pub above-more : (m n : ℕ) (ms : List ℕ) → m < n → Above n ms → Above m ms
above-more m n [] lt h = tt
above-more m n (x ∷ xs) lt h = (omega (arith, lt, h.0), above-more m n xs lt h.1)

pub above-inserted : (m n : ℕ) (ms : List ℕ) → m < n → Above m ms → Above m (inserted ms n)
above-inserted m n [] lt h = (lt, tt)
above-inserted m n (x ∷ xs) lt h =
    elim (nat_lt x n) as (λ b. Above m (cond b (x ∷ inserted xs n) (cond (x == n) (x ∷ xs) (n ∷ x ∷ xs)))) [
      | true ↦ (h.0, above-inserted m n xs lt h.1)
      | false ↦ elim (x == n) as (λ b. Above m (cond b (x ∷ xs) (n ∷ x ∷ xs))) [ true ↦ h | false ↦ (lt, h) ]
    ]

pub rising-inserted : (n : ℕ) (ms : List ℕ) → IsRising ms → IsRising (inserted ms n)
rising-inserted n [] h = (tt, tt)
rising-inserted n (x ∷ xs) h = by_order (cases_Bool (nat_lt x n)) (cases_Bool (x == n)) (rising-inserted n xs h.1)
  where
    by_order : (nat_lt x n ≡ true) ⊎ (nat_lt x n ≡ false) → (x == n ≡ true) ⊎ (x == n ≡ false) → IsRising (inserted xs n) → IsRising (inserted (x ∷ xs) n)
    by_order (inl l) e rest = rw l (above-inserted x n xs (ltb-true x n l) h.0, rest)
    by_order (inr l) (inl e) rest = rw (l, e) h
    by_order (inr l) (inr e) rest =
        let ge : n ≤ x = ltb-false x n l in
        let ne : x ≡ n → ⊥ = eqb-false x n e in
        let lt : n < x = omega (arith, ge, ne) in
        rw (l, e) ((lt, above-more n x xs lt h.0), h)

-- the same of a list that was searched, and changed where the search said
pub rising_put : (ms seen rs : List ℕ) (n i : ℕ) → IsRising ms → seen ≡ ms → IsMissingAt seen n i → rs ≡ insert ms i n → IsRising rs
rising_put ms seen rs n i up e at_ is = let m : IsMissingAt ms n i = rw e at at_ in rw (is, m.put_in) (rising-inserted n ms up)

pub rising_taken : (ms seen rs : List ℕ) (n i : ℕ) → IsRising ms → seen ≡ ms → IsFoundAt seen n i → rs ≡ remove ms i → IsRising rs
rising_taken ms seen rs n i up e at_ is = let f : IsFoundAt ms n i = rw e at at_ in rw (is, f.taken_out) (rising-without n ms up)
