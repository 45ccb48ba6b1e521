-- How many numbers are below a bound, in any order and in rising order.
use Rattle.std.proofs.Common.{◌≡◌, ℕ, zero, suc, ◌<◌, ◌≤◌, List, [], ◌∷◌, length, get_or, cond, true, false, refl, sym, ◌∙◌, arith}
use Rattle.std.specs.Prelude.{nat_lt}
use Rattle.std.specs.List.Sorted.{IsPermutation}
use Rattle.std.proofs.lemmas.List.Recursion.{is_sum_by}
use Rattle.std.proofs.lemmas.List.Sorted.{sum_by-IsPermutation}
use Rattle.cx_graph.specs.Tally.{count_below}

pub counted_alike : (xs ys : List ℕ) → IsPermutation xs ys → (bound : ℕ) → count_below bound ys ≡ count_below bound xs
counted_alike xs ys same bound =
    let f : ℕ → ℕ = λ n. cond (nat_lt n bound) 1 0 in
    is_sum_by (count_below bound) f refl (λ x zs. refl) ys ∙ (sum_by-IsPermutation f xs ys same ∙ sym (is_sum_by (count_below bound) f refl (λ x zs. refl) xs))

-- where the first so many are below the bound and no others are
pub counted_to : (xs : List ℕ) (n bound : ℕ) → n ≤ length xs → ((k : ℕ) → k < n → nat_lt (get_or xs k 0) bound ≡ true) → ((k : ℕ) → n ≤ k → k < length xs → nat_lt (get_or xs k 0) bound ≡ false) → count_below bound xs ≡ n
counted_to [] zero bound within below above = refl
counted_to [] (suc n) bound within below above = absurd (omega arith)
counted_to (x ∷ xs) zero bound within below above =
    let rest = counted_to xs zero bound (omega arith) (λ k less. absurd (omega arith)) (λ k least high. above (suc k) (omega arith) (omega arith)) in
    let first : nat_lt x bound ≡ false = above zero (omega arith) (omega arith) in
    rw first (omega (arith, rest))
counted_to (x ∷ xs) (suc n) bound within below above =
    let rest = counted_to xs n bound (omega arith) (λ k less. below (suc k) (omega arith)) (λ k least high. above (suc k) (omega arith) (omega arith)) in
    let first : nat_lt x bound ≡ true = below zero (omega arith) in
    rw first (omega (arith, rest))
