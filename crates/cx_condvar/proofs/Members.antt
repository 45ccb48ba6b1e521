-- Whether a number is among others, once one comes or goes.
use Rattle.std.proofs.Common.{◌≡◌, ◌≢◌, ◌∙◌, ℕ, ◌==◌, ◌||◌, Bool, true, false, not, List, [], ◌∷◌, ◌++◌, refl, sym, ap, eq-eqb, ne_eqb}
use Rattle.std.proofs.lemmas.Bool.{eqb-true}
use Rattle.std.proofs.lemmas.List.Folds.{list_any-append}
use Rattle.std.proofs.lemmas.Map.Views.{any-filter_same}
use Rattle.cx_machine.specs.Words.{has, without}

pub or_true : (b : Bool) → (b || true) ≡ true
or_true true = refl
or_true false = refl

pub or_false : (b : Bool) → (b || false) ≡ b
or_false true = refl
or_false false = refl

pub has-append : (ms ns : List ℕ) (n : ℕ) → has (ms ++ ns) n ≡ (has ms n || has ns n)
has-append ms ns n = list_any-append (λ m. m == n) ms ns

pub has_only : (n : ℕ) → has (n ∷ []) n ≡ true
has_only n = let e = eq-eqb n n refl in rw e refl

pub has_pushed : (ms : List ℕ) (n : ℕ) → has (ms ++ n ∷ []) n ≡ true
has_pushed ms n = has-append ms (n ∷ []) n ∙ (ap (λ (b : Bool). has ms n || b) (has_only n) ∙ or_true (has ms n))

pub lacks_other : (t n : ℕ) → t ≢ n → has (t ∷ []) n ≡ false
lacks_other t n ne = let e = ne_eqb t n ne in rw e refl

pub has_push_other : (ms : List ℕ) (t n : ℕ) → t ≢ n → has (ms ++ t ∷ []) n ≡ has ms n
has_push_other ms t n ne = has-append ms (t ∷ []) n ∙ (ap (λ (b : Bool). has ms n || b) (lacks_other t n ne) ∙ or_false (has ms n))

pub lacks_taken : (ms : List ℕ) (n : ℕ) → has (without ms n) n ≡ false
lacks_taken ms n = any-filter_same (λ m. m == n) (λ m. not (m == n)) false (λ k e. ap not e) ms

pub has_without_other : (ms : List ℕ) (t n : ℕ) → t ≢ n → has (without ms t) n ≡ has ms n
has_without_other ms t n ne = any-filter_same (λ m. m == n) (λ m. not (m == t)) true (λ k e. (let same : k ≡ n = eqb-true k n e in ap not (ne_eqb k t (λ f. ne (sym f ∙ same))))) ms
