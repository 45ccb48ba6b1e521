-- Lists in which each number stands once.
use Rattle.std.proofs.Common.{◌≡◌, ℕ, zero, suc, ◌+◌, ◌<◌, ◌≤◌, ◌==◌, nat_eq, Bool, true, false, not, cond, List, [], ◌∷◌, ◌++◌, length, refl, arith, ◌⊎◌, inl, inr, subst}
use Rattle.std.specs.List.{AllByRecursion}
use Rattle.std.proofs.lemmas.Bool.{cases_Bool, eqb-true, eqb-false, or_parts}
use Rattle.cx_machine.specs.Words.{has, without}
use Rattle.cx_machine.specs.Meaning.{bit, times, IsOnceEach}

pub times_none : (n : ℕ) (ms : List ℕ) → has ms n ≡ false → times n ms ≡ 0
times_none n [] h = refl
times_none n (m ∷ ms) h =
    let p = or_parts (m == n) (has ms n) h in
    let rest = times_none n ms p.1 in
    rw (p.0, rest) refl

pub times-append : (k : ℕ) (ms ns : List ℕ) → times k (ms ++ ns) ≡ times k ms + times k ns
times-append k [] ns = omega arith
times-append k (m ∷ ms) ns = let rest = times-append k ms ns in omega (arith, rest)

pub bit_le : (b : Bool) → bit b ≤ 1
bit_le true = omega arith
bit_le false = omega arith

pub once_push : (ms : List ℕ) (n : ℕ) → IsOnceEach ms → has ms n ≡ false → IsOnceEach (ms ++ n ∷ [])
once_push ms n once lacks k = by_cases (cases_Bool (nat_eq n k))
  where
    by_cases : (nat_eq n k ≡ true) ⊎ (nat_eq n k ≡ false) → times k (ms ++ n ∷ []) ≤ 1
    by_cases (inl e) =
        let same : n ≡ k = eqb-true n k e in
        let none : times k ms ≡ 0 = subst (λ (x : ℕ). times x ms ≡ 0) same (times_none n ms lacks) in
        let t = times-append k ms (n ∷ []) in
        rw (t, none, e) (omega arith)
    by_cases (inr e) =
        let t = times-append k ms (n ∷ []) in
        let o = once k in
        rw (t, e) (omega (arith, o))

pub times-without : (k n : ℕ) (ms : List ℕ) → times k (without ms n) ≤ times k ms
times-without k n [] = omega arith
times-without k n (m ∷ ms) =
    let rest = times-without k n ms in
    elim (m == n) as (λ b. times k (cond (not b) (m ∷ without ms n) (without ms n)) ≤ bit (nat_eq m k) + times k ms) [ true ↦ omega (arith, rest) | false ↦ omega (arith, rest) ]

pub once_without : (ms : List ℕ) (n : ℕ) → IsOnceEach ms → IsOnceEach (without ms n)
once_without ms n once k = let a = times-without k n ms in let b = once k in omega (arith, a, b)

abbrev pub Below : ℕ → List ℕ → Type 0
Below seats ms = AllByRecursion (λ m. m < seats) ms

pub below_push : (seats : ℕ) (ms : List ℕ) (n : ℕ) → Below seats ms → n < seats → Below seats (ms ++ n ∷ [])
below_push seats [] n h lt = (lt, tt)
below_push seats (m ∷ ms) n h lt = (h.0, below_push seats ms n h.1 lt)

pub below_without : (seats : ℕ) (ms : List ℕ) (n : ℕ) → Below seats ms → Below seats (without ms n)
below_without seats [] n h = tt
below_without seats (m ∷ ms) n h =
    elim (m == n) as (λ b. Below seats (cond (not b) (m ∷ without ms n) (without ms n))) [ true ↦ below_without seats ms n h.1 | false ↦ (h.0, below_without seats ms n h.1) ]

-- without n, a list is shorter by as often as n stood in it
pub length-without : (ms : List ℕ) (n : ℕ) → length (without ms n) + times n ms ≡ length ms
length-without [] n = refl
length-without (m ∷ ms) n =
    let rest = length-without ms n in
    elim (m == n) as (λ b. length (cond (not b) (m ∷ without ms n) (without ms n)) + (bit b + times n ms) ≡ suc (length ms)) [ true ↦ omega (arith, rest) | false ↦ omega (arith, rest) ]

-- what is below seats + 1, without seats, is below seats
pub lower : (seats : ℕ) (ms : List ℕ) → Below (suc seats) ms → Below seats (without ms seats)
lower seats [] h = tt
lower seats (m ∷ ms) h = by_cases (cases_Bool (m == seats)) (lower seats ms h.1)
  where
    by_cases : ((m == seats) ≡ true) ⊎ ((m == seats) ≡ false) → Below seats (without ms seats) → Below seats (without (m ∷ ms) seats)
    by_cases (inl e) rest = rw e rest
    by_cases (inr e) rest = let ne = eqb-false m seats e in let lt : m < seats = omega (arith, ne, h.0) in rw e (lt, rest)

-- distinct numbers below a bound are no more than it
pub few_below : (seats : ℕ) (ms : List ℕ) → IsOnceEach ms → Below seats ms → length ms ≤ seats
few_below zero [] once h = omega arith
few_below zero (m ∷ ms) once h = absurd (omega (arith, h.0))
few_below (suc seats) ms once h =
    let less = few_below seats (without ms seats) (once_without ms seats once) (lower seats ms h) in
    let l = length-without ms seats in
    let o = once seats in
    omega (arith, less, l, o)

pub length-push : (ms : List ℕ) (n : ℕ) → length (ms ++ n ∷ []) ≡ length ms + 1
length-push [] n = refl
length-push (m ∷ ms) n = let rest = length-push ms n in omega (arith, rest)

-- the same of what a push left, which may have failed
pub once_pushed : (b : Bool) (ms ns : List ℕ) (n : ℕ) → IsOnceEach ms → has ms n ≡ false → ns ≡ cond b (ms ++ n ∷ []) ms → IsOnceEach ns
once_pushed true ms ns n once lacks is = rw is (once_push ms n once lacks)
once_pushed false ms ns n once lacks is = rw is once

pub once_taken : (ms ns : List ℕ) (n : ℕ) → IsOnceEach ms → ns ≡ without ms n → IsOnceEach ns
once_taken ms ns n once is = rw is (once_without ms n once)
