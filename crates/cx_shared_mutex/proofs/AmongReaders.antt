-- Who is among the readers, once one comes or goes.
use Rattle.std.proofs.Common.{◌≡◌, ◌≢◌, ◌∙◌, ℕ, ◌==◌, ◌||◌, Bool, true, false, List, [], ◌∷◌, ◌++◌, length, refl, sym, ap, arith, eq-eqb, ne_eqb, ◌⊎◌, inl, inr}
use Rattle.std.proofs.lemmas.Bool.{cases_Bool, eqb-true}
use Rattle.cx_machine.specs.Words.{has, without}

pub has_push_other : (ms : List ℕ) (m n : ℕ) → m ≢ n → has (ms ++ m ∷ []) n ≡ has ms n
has_push_other [] m n ne = let e = ne_eqb m n ne in rw e refl
has_push_other (x ∷ ms) m n ne = ap (λ (b : Bool). (x == n) || b) (has_push_other ms m n ne)

pub has_push_self : (ms : List ℕ) (n : ℕ) → has (ms ++ n ∷ []) n ≡ true
has_push_self [] n = let e = eq-eqb n n refl in rw e refl
has_push_self (x ∷ ms) n = let rest = has_push_self ms n in elim (x == n) as (λ b. (b || has (ms ++ n ∷ []) n) ≡ true) [ true ↦ refl | false ↦ rest ]

pub has_without_self : (ms : List ℕ) (n : ℕ) → has (without ms n) n ≡ false
has_without_self [] n = refl
has_without_self (x ∷ ms) n = by_cases (cases_Bool (x == n)) (has_without_self ms n)
  where
    by_cases : ((x == n) ≡ true) ⊎ ((x == n) ≡ false) → has (without ms n) n ≡ false → has (without (x ∷ ms) n) n ≡ false
    by_cases (inl e) rest = rw e rest
    by_cases (inr e) rest = rw (e, e) rest

pub has_without_other : (ms : List ℕ) (m n : ℕ) → m ≢ n → has (without ms m) n ≡ has ms n
has_without_other [] m n ne = refl
has_without_other (x ∷ ms) m n ne = by_cases (cases_Bool (x == m)) (has_without_other ms m n ne)
  where
    by_cases : ((x == m) ≡ true) ⊎ ((x == m) ≡ false) → has (without ms m) n ≡ has ms n → has (without (x ∷ ms) m) n ≡ has (x ∷ ms) n
    by_cases (inl e) rest = let same : x ≡ m = eqb-true x m e in let f : (x == n) ≡ false = ne_eqb x n (λ g. ne (sym same ∙ g)) in rw (e, f) rest
    by_cases (inr e) rest = rw e (ap (λ (b : Bool). (x == n) || b) rest)

-- where there are none, nobody is among them
pub nobody_reads : (ms : List ℕ) (n : ℕ) → (length ms == 0) ≡ true → has ms n ≡ false
nobody_reads [] n e = refl
nobody_reads (x ∷ ms) n e = let z = eqb-true (length (x ∷ ms)) 0 e in absurd (omega (arith, z))
