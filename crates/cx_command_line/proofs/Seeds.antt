-- A word of digits read one by one is the number that it is as a whole.
use Rattle.std.proofs.Common.{◌≡◌, ℕ, ◌+◌, ◌-◌, ◌*◌, ◌^◌, ◌<◌, ◌≤◌, Bool, true, false, List, [], ◌∷◌, length, Option, Some, None, nat_lt, refl, arith}
use Rattle.std.specs.Prelude.{◌&&◌, if◌then◌else◌}
use Rattle.std.specs.List.{list_all}
use Rattle.std.proofs.lemmas.Bool.{ltb-true, ltb-false, lt-ltb, le-ltb, le-leb, lt-leb}
use Rattle.cx_command_line.specs.Words.{is_digit, digits_from, seed_of, value_from}

-- the value never falls
digits_grow : (n : ℕ) (cs : List ℕ) → n ≤ digits_from n cs
digits_grow n [] = omega arith
digits_grow n (c ∷ cs) = let more = digits_grow (n * 10 + (c - 48)) cs in omega (arith, more)

-- digits whose value fits
abbrev fitting : ℕ → List ℕ → Option ℕ
fitting n cs = if list_all is_digit cs && nat_lt (digits_from n cs) (2 ^ 64) then Some (digits_from n cs) else None

and_none : (a : Bool) (x : Option ℕ) → None ≡ (if a && false then x else None)
and_none true x = refl
and_none false x = refl

one_digit : (d l : Bool) (m : ℕ) (cs : List ℕ) → nat_lt m (2 ^ 64) ≡ l → (m < 2 ^ 64 → value_from m cs ≡ fitting m cs)
    → (if d && l then value_from m cs else None) ≡ (if (d && list_all is_digit cs) && nat_lt (digits_from m cs) (2 ^ 64) then Some (digits_from m cs) else None)
one_digit false l m cs e rest = refl
one_digit true true m cs e rest = rest (ltb-true m (2 ^ 64) e)
one_digit true false m cs e rest =
    let big = ltb-false m (2 ^ 64) e in
    let grown = digits_grow m cs in
    rw (le-ltb (digits_from m cs) (2 ^ 64) (omega (arith, big, grown))) (and_none (list_all is_digit cs) (Some (digits_from m cs)))

value_is : (n : ℕ) (cs : List ℕ) → n < 2 ^ 64 → value_from n cs ≡ fitting n cs
unfolding value_from
value_is n [] small = rw (lt-ltb n (2 ^ 64) small) refl
value_is n (c ∷ cs) small = one_digit (is_digit c) (nat_lt (n * 10 + (c - 48)) (2 ^ 64)) (n * 10 + (c - 48)) cs refl (λ fits. value_is (n * 10 + (c - 48)) cs fits)

no_seed : (a b c : Bool) (x : Option ℕ) → None ≡ (if (a && false && b) && c then x else None)
no_seed true b c x = refl
no_seed false b c x = refl

pub seed_empty : (w : List ℕ) → length w ≡ 0 → None ≡ seed_of w
unfolding seed_of
seed_empty [] e = refl
seed_empty (c ∷ cs) e = absurd (omega arith)

pub seed_long : (w : List ℕ) → 20 < length w → None ≡ seed_of w
unfolding seed_of
seed_long w long = rw (lt-leb (length w) 20 long) (no_seed (nat_lt 0 (length w)) (list_all is_digit w) (nat_lt (digits_from 0 w) (2 ^ 64)) (Some (digits_from 0 w)))

pub seed_value : (w : List ℕ) → 0 < length w → length w ≤ 20 → value_from 0 w ≡ seed_of w
unfolding seed_of
seed_value w some short = rw (lt-ltb 0 (length w) some, le-leb (length w) 20 short) (value_is 0 w (omega arith))
