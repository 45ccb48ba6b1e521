-- A set of numbers below 256, a bit for each.
use Rattle.std.proofs.Common.{◌≡◌, ◌∙◌, ℕ, ◌+◌, ◌-◌, ◌*◌, ◌%◌, ◌^◌, ◌<◌, ◌≤◌, ◌==◌, ◌&&◌, ◌||◌, ◌⊎◌, inl, inr, nat_lt, Bool, true, false, refl, sym, ap, arith, eq-eqb, ne_eqb}
use native.Mathlib.Decide.{ℕ_discrete}
use Rattle.std.specs.Int.{Width, bit_at}
use Rattle.std.specs.Int.Bits.{bit_or}
use mir.Syntax.{w128}
use mir.Val.{bits}
use Rattle.std.proofs.lemmas.Bool.{cases_Bool, ltb-false, ltb-true, lt-ltb, le-ltb}
use Rattle.std.proofs.lemmas.Nat.Bits.{bit_at_set_same, bit_at_set_other, bit_at-zero}
use Rattle.cx_cell.specs.declared.called.Called.{Called}
use Rattle.cx_cell.specs.Callers.{is_called}

or_false : (b : Bool) → (b || false) ≡ b
or_false true = refl
or_false false = refl

or_true : (b : Bool) → (b || true) ≡ true
or_true true = refl
or_true false = refl

-- a bit that is set tells its place, besides what was there
set_tells : (w : Width) (x k i : ℕ) → k < bits w → (bit_at (bit_or x (1 * 2 ^ k % 2 ^ bits w)) i == 1) ≡ ((bit_at x i == 1) || (k == i))
set_tells w x k i low = at (ℕ_discrete i k)
  where
    at : Dec (i ≡ k) → (bit_at (bit_or x (1 * 2 ^ k % 2 ^ bits w)) i == 1) ≡ ((bit_at x i == 1) || (k == i))
    at (yes e) =
        let set : bit_at (bit_or x (1 * 2 ^ k % 2 ^ bits w)) i ≡ 1 = ap (bit_at (bit_or x (1 * 2 ^ k % 2 ^ bits w))) e ∙ bit_at_set_same w x k low in
        let same : (k == i) ≡ true = eq-eqb k i (sym e) in
        ap (λ (z : ℕ). z == 1) set ∙ (sym (or_true (bit_at x i == 1)) ∙ ap (λ (b : Bool). (bit_at x i == 1) || b) (sym same))
    at (no ne) =
        let other : (k == i) ≡ false = ne_eqb k i (λ e. ne (sym e)) in
        ap (λ (z : ℕ). z == 1) (bit_at_set_other w x k low i ne) ∙ (sym (or_false (bit_at x i == 1)) ∙ ap (λ (b : Bool). (bit_at x i == 1) || b) (sym other))

-- what is called after one more, in the half where its bit is
pub added_low : (c : Called) (seat n : ℕ) → seat < 128 → is_called (record c { low = bit_or c.low (1 * 2 ^ seat % 2 ^ 128) }) n ≡ (is_called c n || (seat == n))
added_low c seat n low = by_half (cases_Bool (nat_lt n 128))
  where
    by_half : (nat_lt n 128 ≡ true) ⊎ (nat_lt n 128 ≡ false) → is_called (record c { low = bit_or c.low (1 * 2 ^ seat % 2 ^ 128) }) n ≡ (is_called c n || (seat == n))
    by_half (inl e) = rw e (set_tells w128 c.low seat n low)
    by_half (inr e) =
        let up = ltb-false n 128 e in
        let other : (seat == n) ≡ false = ne_eqb seat n (λ q. omega (arith, q, up, low)) in
        rw (e, other) (sym (or_false (bit_at c.high (n - 128) == 1)))

pub added_high : (c : Called) (seat n : ℕ) → 128 ≤ seat → seat < 256 → is_called (record c { high = bit_or c.high (1 * 2 ^ (seat - 128) % 2 ^ 128) }) n ≡ (is_called c n || (seat == n))
added_high c seat n up low = by_half (cases_Bool (nat_lt n 128))
  where
    same_place : 128 ≤ n → (seat - 128 == n - 128) ≡ (seat == n)
    same_place le = at (ℕ_discrete seat n)
      where
        at : Dec (seat ≡ n) → (seat - 128 == n - 128) ≡ (seat == n)
        at (yes e) = eq-eqb (seat - 128) (n - 128) (ap (λ (z : ℕ). z - 128) e) ∙ sym (eq-eqb seat n e)
        at (no ne) = ne_eqb (seat - 128) (n - 128) (λ q. ne (omega (arith, q, up, le))) ∙ sym (ne_eqb seat n ne)

    by_half : (nat_lt n 128 ≡ true) ⊎ (nat_lt n 128 ≡ false) → is_called (record c { high = bit_or c.high (1 * 2 ^ (seat - 128) % 2 ^ 128) }) n ≡ (is_called c n || (seat == n))
    by_half (inl e) =
        let below = ltb-true n 128 e in
        let other : (seat == n) ≡ false = ne_eqb seat n (λ q. omega (arith, q, up, below)) in
        rw (e, other) (sym (or_false (bit_at c.low n == 1)))
    by_half (inr e) =
        let tells = set_tells w128 c.high (seat - 128) (n - 128) (omega (arith, up, low)) in
        rw e (tells ∙ ap (λ (b : Bool). (bit_at c.high (n - 128) == 1) || b) (same_place (ltb-false n 128 e)))

pub added_none : (c : Called) (seat n : ℕ) → 256 ≤ seat → n < 256 → is_called c n ≡ (is_called c n || (seat == n))
added_none c seat n up low =
    let other : (seat == n) ≡ false = ne_eqb seat n (λ q. omega (arith, q, up, low)) in
    sym (or_false (is_called c n)) ∙ ap (λ (b : Bool). is_called c n || b) (sym other)

-- who was called below a number, and whether that number is, tells who is below the next
pub told_more : (n seat : ℕ) (b : Bool) → ((nat_lt n seat && b) || (b && (seat == n))) ≡ (nat_lt n (seat + 1) && b)
told_more n seat b = by_place (cases_Bool (nat_lt n seat)) (ℕ_discrete seat n)
  where
    by_place : (nat_lt n seat ≡ true) ⊎ (nat_lt n seat ≡ false) → Dec (seat ≡ n) → ((nat_lt n seat && b) || (b && (seat == n))) ≡ (nat_lt n (seat + 1) && b)
    by_place (inl e) same =
        let low = ltb-true n seat e in
        let other : (seat == n) ≡ false = ne_eqb seat n (λ q. omega (arith, q, low)) in
        let next : nat_lt n (seat + 1) ≡ true = lt-ltb n (seat + 1) (omega (arith, low)) in
        rw (e, other, next) (elim b as (λ x. (x || (x && false)) ≡ x) [ true ↦ refl | false ↦ refl ])
    by_place (inr e) (yes q) =
        let same : (seat == n) ≡ true = eq-eqb seat n q in
        let next : nat_lt n (seat + 1) ≡ true = lt-ltb n (seat + 1) (omega (arith, q)) in
        rw (e, same, next) (elim b as (λ x. (false || (x && true)) ≡ x) [ true ↦ refl | false ↦ refl ])
    by_place (inr e) (no ne) =
        let up = ltb-false n seat e in
        let other : (seat == n) ≡ false = ne_eqb seat n ne in
        let next : nat_lt n (seat + 1) ≡ false = le-ltb n (seat + 1) (omega (arith, up, ne)) in
        rw (e, other, next) (elim b as (λ x. (false || (x && false)) ≡ false) [ true ↦ refl | false ↦ refl ])

pub none_called : (c : Called) (n : ℕ) → c.low ≡ 0 → c.high ≡ 0 → is_called c n ≡ false
none_called c n low high = by_half (cases_Bool (nat_lt n 128))
  where
    none : (x i : ℕ) → x ≡ 0 → (bit_at x i == 1) ≡ false
    none x i e = ap (λ (z : ℕ). z == 1) (ap (λ (z : ℕ). bit_at z i) e ∙ bit_at-zero i)

    by_half : (nat_lt n 128 ≡ true) ⊎ (nat_lt n 128 ≡ false) → is_called c n ≡ false
    by_half (inl e) = rw e (none c.low n low)
    by_half (inr e) = rw e (none c.high (n - 128) high)
