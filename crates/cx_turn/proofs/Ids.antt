-- How often an ID stands in a list.
use Rattle.std.proofs.Common.{◌≡◌, ℕ, ◌+◌, ◌≤◌, List, [], ◌∷◌, ◌++◌, not, Option, Some, None, Bool, true, false, IsTrue, refl, sym, ap, ◌∙◌, subst, arith, eq-eqb, ne_eqb, nat_eq, ◌==◌, ◌||◌, cond}
use mathlib.Core.Logic.{dite}
use native.Mathlib.Decide.{ℕ_discrete}
use Rattle.cx_machine.specs.Words.{has, without}
use Rattle.cx_machine.specs.Meaning.{bit, names, times}
use Rattle.cx_turn.specs.Views.{less, more, only, Has}

pub times-append : (id : ℕ) (xs ys : List ℕ) → times id (xs ++ ys) ≡ times id xs + times id ys
times-append id [] ys = omega arith
times-append id (x ∷ xs) ys = let r = times-append id xs ys in omega arith

pub times_only : (id : ℕ) (o : Option ℕ) → times id (only o) ≡ names o id
times_only id None = refl
times_only id (Some n) = omega arith

pub times_more : (id : ℕ) (ids : List ℕ) (o : Option ℕ) → times id (more ids o) ≡ times id ids + names o id
times_more id ids None = omega arith
times_more id ids (Some n) = times-append id ids (n ∷ []) ∙ ap (λ k. times id ids + k) (times_only id (Some n))

without_at : (b : Bool) (m n id : ℕ) (ms : List ℕ) → times id (without ms n) ≤ times id ms → times id (cond (not b) (m ∷ without ms n) (without ms n)) ≤ times id (m ∷ ms)
without_at true m n id ms le = omega arith
without_at false m n id ms le = omega arith

pub times_without : (id : ℕ) (ids : List ℕ) (n : ℕ) → times id (without ids n) ≤ times id ids
times_without id [] n = omega arith
times_without id (m ∷ ms) n = without_at (m == n) m n id ms (times_without id ms n)

-- the ID itself is gone
pub times_gone : (ids : List ℕ) (n : ℕ) → times n (without ids n) ≡ 0
times_gone [] n = refl
times_gone (m ∷ ms) n = dite (ℕ_discrete m n)
    (λ e. subst (λ b. times n (cond (not b) (m ∷ without ms n) (without ms n)) ≡ 0) (sym (eq-eqb m n e)) (times_gone ms n))
    (λ ne. subst (λ b. times n (cond (not b) (m ∷ without ms n) (without ms n)) ≡ 0) (sym (ne_eqb m n ne))
    (subst (λ b. bit b + times n (without ms n) ≡ 0) (sym (ne_eqb m n ne)) (let r = times_gone ms n in omega arith)))

pub times_has : (ids : List ℕ) (n : ℕ) → IsTrue (has ids n) → 1 ≤ times n ids
times_has [] n h = absurd (let g : false ≡ true = h in cc)
times_has (m ∷ ms) n h = at (m == n) refl (times_has ms n)
  where
    at : (b : Bool) → (m == n) ≡ b → (IsTrue (has ms n) → 1 ≤ times n ms) → 1 ≤ times n (m ∷ ms)
    at true e r = subst (λ c. 1 ≤ bit c + times n ms) (sym e) (omega arith)
    at false e r = let q = r (subst (λ c. IsTrue (c || has ms n)) e h) in omega arith

-- an ID that is taken away, from a list that has it
pub times_less : (id : ℕ) (ids : List ℕ) (o : Option ℕ) → Has ids o → times id (less ids o) + names o id ≤ times id ids
times_less id ids None h = omega arith
times_less id ids (Some n) h = dite (ℕ_discrete n id)
    (λ e. subst (λ k. times k (without ids n) + bit (nat_eq n k) ≤ times k ids) e
    (let a = times_gone ids n in let b = times_has ids n h in subst (λ c. times n (without ids n) + bit c ≤ times n ids) (sym (eq-eqb n n refl)) (omega arith)))
    (λ ne. let a = times_without id ids n in subst (λ c. times id (without ids n) + bit c ≤ times id ids) (sym (ne_eqb n id ne)) (omega arith))
