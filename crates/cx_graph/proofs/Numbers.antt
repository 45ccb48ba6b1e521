-- Numbers, equal or not.
use Rattle.std.proofs.Common.{◌≡◌, ◌⊎◌, inl, inr, ℕ, ◌==◌, Bool, true, false, refl, ap, sym, arith, List, [], ◌∷◌, ◌++◌, length, take, get_or, zero, suc, ◌<◌, ◌≤◌, ◌+◌, add-one, eqb-true, eq-eqb}

pub dec_eq : (m n : ℕ) → (m ≡ n) ⊎ (m ≡ n → ⊥)
dec_eq m n = go (m == n) refl
  where
    go : (e : Bool) → (m == n) ≡ e → (m ≡ n) ⊎ (m ≡ n → ⊥)
    go true e = inl (eqb-true m n e)
    go false e = inr (λ same. let yes_ : (m == n) ≡ true = eq-eqb m n same in cc)

take_suc : {X : Type 0} (xs : List X) (i : ℕ) (x : X) → i < length xs → x ≡ get_or xs i x → take (suc i) xs ≡ take i xs ++ x ∷ []
take_suc [] i x low at_ = absurd (omega arith)
take_suc (y ∷ ys) zero x low at_ = ap (λ z. z ∷ []) (sym at_)
take_suc (y ∷ ys) (suc i) x low at_ = ap (λ zs. y ∷ zs) (take_suc ys i x (omega arith) at_)

-- one more element of a list
pub take_more : {X : Type 0} (xs : List X) (i : ℕ) (x : X) → i < length xs → x ≡ get_or xs i x → take (i + 1) xs ≡ take i xs ++ x ∷ []
take_more xs i x low at_ = rw add-one (take_suc xs i x low at_)

pub take_all : {X : Type 0} (xs : List X) (n : ℕ) → length xs ≤ n → take n xs ≡ xs
take_all [] zero past = refl
take_all [] (suc n) past = refl
take_all (x ∷ xs) zero past = absurd (omega arith)
take_all (x ∷ xs) (suc n) past = ap (λ zs. x ∷ zs) (take_all xs n (omega arith))

pub le_or_lt : (m n : ℕ) → (m ≤ n) ⊎ (n < m)
le_or_lt zero n = inl (omega arith)
le_or_lt (suc m) zero = inr (omega arith)
le_or_lt (suc m) (suc n) = by (le_or_lt m n)
  where
    by : (m ≤ n) ⊎ (n < m) → (suc m ≤ suc n) ⊎ (suc n < suc m)
    by (inl le) = inl (omega arith)
    by (inr lt) = inr (omega arith)
