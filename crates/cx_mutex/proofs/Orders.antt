-- Lists of indexes, in cyclic order from a place on.
use Rattle.std.proofs.Common.{◌≡◌, ◌≢◌, ◌∙◌, ℕ, zero, suc, ◌+◌, ◌-◌, ◌<◌, ◌≤◌, inl, inr, List, [], ◌∷◌, ◌++◌, length, take, drop, set, slice_get, Some, refl, sym, ap, arith, length-set, length-append, append-nil, get_or-set_same}
use Rattle.std.proofs.lemmas.Bool.{cases_lt}
use Rattle.std.proofs.lemmas.List.{length-take-le, length-drop}
use Rattle.std.proofs.lemmas.Option.{slice_get-get_or, slice_get_within}
use Rattle.cx_turn.proofs.Histories.{some_is}
use Rattle.cx_mutex.specs.Together.{AreDistinct, IsNamed, turned}

pub set_here : {A : Type 0} (xs : List A) (i : ℕ) (y : A) → i < length xs → slice_get (set xs i y) i ≡ Some y
set_here xs i y within = let l = length-set xs i y in slice_get-get_or (set xs i y) i y (omega arith) ∙ ap (λ z. Some z) (get_or-set_same xs i y y within)

pub set_else : {A : Type 0} (xs : List A) (i k : ℕ) (y : A) → k ≢ i → slice_get (set xs i y) k ≡ slice_get xs k
set_else [] i k y ne = refl
set_else (x ∷ xs) zero zero y ne = absurd (ne refl)
set_else (x ∷ xs) zero (suc k) y ne = refl
set_else (x ∷ xs) (suc i) zero y ne = refl
set_else (x ∷ xs) (suc i) (suc k) y ne = set_else xs i k y (λ e. ne (ap suc e))

get_append_left : {A : Type 0} (xs ys : List A) (g : ℕ) → g < length xs → slice_get (xs ++ ys) g ≡ slice_get xs g
get_append_left [] ys g lt = absurd (omega (arith, lt))
get_append_left (x ∷ xs) ys zero lt = refl
get_append_left (x ∷ xs) ys (suc g) lt = get_append_left xs ys g (omega (arith, lt))

get_append_right : {A : Type 0} (xs ys : List A) (g : ℕ) → length xs ≤ g → slice_get (xs ++ ys) g ≡ slice_get ys (g - length xs)
get_append_right [] ys g le = let e : g ≡ g - 0 = omega arith in ap (slice_get ys) e
get_append_right (x ∷ xs) ys zero le = absurd (omega (arith, le))
get_append_right (x ∷ xs) ys (suc g) le = let e : g - length xs ≡ suc g - suc (length xs) = omega arith in get_append_right xs ys g (omega (arith, le)) ∙ ap (slice_get ys) e

get_drop : {A : Type 0} (n : ℕ) (xs : List A) (g : ℕ) → slice_get (drop n xs) g ≡ slice_get xs (n + g)
get_drop zero xs g = let e : g ≡ zero + g = omega arith in ap (slice_get xs) e
get_drop (suc n) [] g = refl
get_drop (suc n) (x ∷ xs) g = let e : suc (n + g) ≡ suc n + g = omega arith in get_drop n xs g ∙ ap (slice_get (x ∷ xs)) e

get_take : {A : Type 0} (n : ℕ) (xs : List A) (g : ℕ) → g < n → slice_get (take n xs) g ≡ slice_get xs g
get_take zero xs g lt = absurd (omega (arith, lt))
get_take (suc n) [] g lt = refl
get_take (suc n) (x ∷ xs) zero lt = refl
get_take (suc n) (x ∷ xs) (suc g) lt = get_take n xs g (omega (arith, lt))

-- what stands at a place, and what comes after it
pub drop_at : {A : Type 0} (xs : List A) (n : ℕ) (x : A) → slice_get xs n ≡ Some x → drop n xs ≡ x ∷ drop (n + 1) xs
drop_at [] n x e = cc e
drop_at (y ∷ ys) zero x e = ap (λ z. z ∷ ys) (some_is y x e)
drop_at (y ∷ ys) (suc n) x e = let m : suc (n + 1) ≡ suc n + 1 = omega arith in drop_at ys n x e ∙ ap (λ k. x ∷ drop k (y ∷ ys)) m

pub drop_past : {A : Type 0} (xs : List A) (n : ℕ) → length xs ≤ n → drop n xs ≡ []
drop_past [] zero le = refl
drop_past [] (suc n) le = refl
drop_past (x ∷ xs) zero le = absurd (omega (arith, le))
drop_past (x ∷ xs) (suc n) le = drop_past xs n (omega (arith, le))

-- the place that comes so many places after the first
module _ (w : List ℕ) (s : ℕ) (low : s < length w) where
  pub long : length (turned s w) ≡ length w
  long = let a = length-append (drop s w) (take s w) in let b = length-drop s w in let c = length-take-le s w (omega (arith, low)) in omega (arith, a, b, c, low)

  pub turned_low : (g : ℕ) → g < length w - s → slice_get (turned s w) g ≡ slice_get w (s + g)
  turned_low g lt = let b = length-drop s w in get_append_left (drop s w) (take s w) g (omega (arith, b, lt)) ∙ get_drop s w g

  pub turned_high : (g : ℕ) → length w - s ≤ g → g < length w → slice_get (turned s w) g ≡ slice_get w (g - (length w - s))
  turned_high g le lt =
      let b = length-drop s w in
      let e : g - length (drop s w) ≡ g - (length w - s) = omega (arith, b) in
      get_append_right (drop s w) (take s w) g (omega (arith, b, le)) ∙ (ap (slice_get (take s w)) e ∙ get_take s w (g - (length w - s)) (omega (arith, le, lt, low)))

  -- what is named in the one order is named in the other
  pub named_turned : (i : ℕ) → IsNamed w 0 i → IsNamed (turned s w) 0 i
  named_turned i (p, le, at) =
      let within = slice_get_within w p i at in elim (cases_lt p s) as (λ c. IsNamed (turned s w) 0 i) [
        | inl lt ↦ (let g : ℕ = (length w - s) + p in let e : g - (length w - s) ≡ p = omega arith in (g, omega arith, turned_high g (omega arith) (omega arith) ∙ (ap (slice_get w) e ∙ at)))
        | inr ge ↦ (let g : ℕ = p - s in let e : s + g ≡ p = omega arith in (g, omega arith, turned_low g (omega arith) ∙ (ap (slice_get w) e ∙ at)))
      ]

  pub named_back : (g i : ℕ) → slice_get (turned s w) g ≡ Some i → IsNamed w 0 i
  named_back g i at =
      let within : g < length w = (let l = long in let t = slice_get_within (turned s w) g i at in omega arith) in elim (cases_lt g (length w - s)) as (λ c. IsNamed w 0 i) [
        | inl lt ↦ (s + g, omega arith, sym (turned_low g lt) ∙ at)
        | inr ge ↦ (g - (length w - s), omega arith, sym (turned_high g ge within) ∙ at)
      ]

  -- no index stands twice in the one order if none does in the other
  pub distinct_turned : AreDistinct w → AreDistinct (turned s w)
  distinct_turned distinct p q i at_p at_q =
      let l = long in
      let in_p : p < length w = (let t = slice_get_within (turned s w) p i at_p in omega arith) in
      let in_q : q < length w = (let t = slice_get_within (turned s w) q i at_q in omega arith) in
      elim (cases_lt p (length w - s)) as (λ c. p ≡ q) [
        | inl lt ↦ elim (cases_lt q (length w - s)) as (λ c. p ≡ q) [
          | inl lt' ↦ (let e = distinct (s + p) (s + q) i (sym (turned_low p lt) ∙ at_p) (sym (turned_low q lt') ∙ at_q) in omega arith)
          | inr ge' ↦ (let e = distinct (s + p) (q - (length w - s)) i (sym (turned_low p lt) ∙ at_p) (sym (turned_high q ge' in_q) ∙ at_q) in omega arith)
        ]
        | inr ge ↦ elim (cases_lt q (length w - s)) as (λ c. p ≡ q) [
          | inl lt' ↦ (let e = distinct (p - (length w - s)) (s + q) i (sym (turned_high p ge in_p) ∙ at_p) (sym (turned_low q lt') ∙ at_q) in omega arith)
          | inr ge' ↦ (let e = distinct (p - (length w - s)) (q - (length w - s)) i (sym (turned_high p ge in_p) ∙ at_p) (sym (turned_high q ge' in_q) ∙ at_q) in omega arith)
        ]
      ]

pub turned_none : (w : List ℕ) → turned 0 w ≡ w
turned_none w = append-nil w
