-- What the earlier lines say, with one line more: the laws of a reader's state.
use Rattle.std.proofs.Common.{◌≡◌, ℕ, ◌+◌, Bool, true, false, cond, ◌||◌, List, [], ◌∷◌, ◌++◌, length, Some, None, refl, ap, ◌∙◌, arith, length-append}
use Rattle.std.specs.Prelude.{filter, find, if◌then◌else◌}
use Rattle.std.specs.List.{list_any}
use Rattle.cx_text.specs.Words.{Filled}
use Rattle.cx_script.specs.Earlier.{last_of, begins_body, from_last_body}
use Rattle.cx_script.specs.Faults.{counted, taken}

pub last_more : (ls : List Filled) (l : Filled) → last_of (ls ++ l ∷ []) ≡ Some l
last_more [] l = refl
last_more (a ∷ []) l = refl
last_more (a ∷ b ∷ ls) l = last_more (b ∷ ls) l

pub any_more : (test : Filled → Bool) (ls : List Filled) (l : Filled) → list_any test (ls ++ l ∷ []) ≡ (list_any test ls || test l)
any_more test [] l = elim (test l) as (λ b. (b || false) ≡ b) [ true ↦ refl | false ↦ refl ]
any_more test (a ∷ ls) l = elim (test a) as (λ b. (b || list_any test (ls ++ l ∷ [])) ≡ ((b || list_any test ls) || test l)) [ true ↦ refl | false ↦ any_more test ls l ]

pub filter_more : (test : Filled → Bool) (ls : List Filled) (l : Filled) → filter test (ls ++ l ∷ []) ≡ filter test ls ++ filter test (l ∷ [])
filter_more test [] l = refl
filter_more test (a ∷ ls) l = elim (test a) as (λ b. cond b (a ∷ filter test (ls ++ l ∷ [])) (filter test (ls ++ l ∷ [])) ≡ cond b (a ∷ filter test ls) (filter test ls) ++ filter test (l ∷ [])) [
  | true ↦ ap (λ (t : List Filled). a ∷ t) (filter_more test ls l)
  | false ↦ filter_more test ls l
]

-- a count
pub counted_more : (test : Filled → Bool) (ls : List Filled) (l : Filled) → counted test (ls ++ l ∷ []) ≡ counted test ls + length (filter test (l ∷ []))
counted_more test ls l = ap (λ (t : List Filled). length t) (filter_more test ls l) ∙ length-append (filter test ls) (filter test (l ∷ []))

-- the first declaration of a name stays
pub find_more : (test : Filled → Bool) (ls : List Filled) (l m : Filled) → find test ls ≡ Some m → find test (ls ++ l ∷ []) ≡ Some m
find_more test [] l m e = absurd cc
find_more test (a ∷ ls) l m e = elim (test a) as (λ b. cond b (Some a) (find test ls) ≡ Some m → cond b (Some a) (find test (ls ++ l ∷ [])) ≡ Some m) [
  | true ↦ λ k. k
  | false ↦ λ k. find_more test ls l m k
] e

pub find_new : (test : Filled → Bool) (ls : List Filled) (l : Filled) → find test ls ≡ None → find test (ls ++ l ∷ []) ≡ find test (l ∷ [])
find_new test [] l e = refl
find_new test (a ∷ ls) l e = elim (test a) as (λ b. cond b (Some a) (find test ls) ≡ None → cond b (Some a) (find test (ls ++ l ∷ [])) ≡ find test (l ∷ [])) [
  | true ↦ λ k. absurd cc
  | false ↦ λ k. find_new test ls l k
] e

-- the body: a line that begins one empties it, and any other line joins it
pub body_begins : (ls : List Filled) (l : Filled) → begins_body l ≡ true → from_last_body (ls ++ l ∷ []) ≡ l ∷ []
body_begins [] l e = rw e refl
body_begins (a ∷ ls) l e =
    let any : list_any begins_body (ls ++ l ∷ []) ≡ true = any_more begins_body ls l ∙ elim (list_any begins_body ls) as (λ b. (b || begins_body l) ≡ true) [ true ↦ refl | false ↦ e ] in
    rw any (body_begins ls l e)

pick : (b c : Bool) (x y u v : List Filled) (l : Filled) → (c || b) ≡ true → (b ≡ true → x ≡ u ++ l ∷ []) → y ≡ v ++ l ∷ []
    → cond b x (if c then y else []) ≡ cond b u (if c then v else []) ++ l ∷ []
pick true c x y u v l some h k = h refl
pick false true x y u v l some h k = k
pick false false x y u v l some h k = absurd cc

pub body_goes_on : (ls : List Filled) (l : Filled) → begins_body l ≡ false → list_any begins_body ls ≡ true → from_last_body (ls ++ l ∷ []) ≡ from_last_body ls ++ l ∷ []
body_goes_on [] l e some = absurd cc
body_goes_on (a ∷ ls) l e some =
    let any : list_any begins_body (ls ++ l ∷ []) ≡ list_any begins_body ls = any_more begins_body ls l ∙ (rw e (elim (list_any begins_body ls) as (λ b. (b || false) ≡ b) [ true ↦ refl | false ↦ refl ])) in
    rw any (pick (list_any begins_body ls) (begins_body a) (from_last_body (ls ++ l ∷ [])) (a ∷ (ls ++ l ∷ [])) (from_last_body ls) (a ∷ ls) l some (λ t. body_goes_on ls l e t) refl)

-- what was taken from a latch
sum_more : (x y z w : ℕ) → y ≡ z + w → x + y ≡ x + z + w
sum_more x y z w e = omega (arith, e)

pub taken_more : (name : List ℕ) (ls : List Filled) (l : Filled) → taken name (ls ++ l ∷ []) ≡ taken name ls + taken name (l ∷ [])
taken_more name [] l = omega arith
taken_more name (a ∷ ls) l = sum_more _ (taken name (ls ++ l ∷ [])) (taken name ls) (taken name (l ∷ [])) (taken_more name ls l)
