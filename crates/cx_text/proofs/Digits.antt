-- The digits of a number, one after the other.
use Rattle.std.proofs.Common.{◌≡◌, ℕ, ◌+◌, ◌-◌, ◌*◌, ◌^◌, ◌<◌, ◌≤◌, Bool, true, false, ltb, leb, ◌&&◌, ◌||◌, List, [], ◌∷◌, length, get_or, drop, Bor, refl, ap, arith, drop-cons, add-one}
use Rattle.std.specs.List.{list_all, list_any}
use Rattle.std.specs.Str.{bytes_eq}
use Rattle.std.proofs.Math.Nat.{pow-le-pow_right}
use Rattle.std.proofs.lemmas.Bool.{false≢true}
use Rattle.std.proofs.lemmas.Bool.Decides.{nat_tests}
use Rattle.std.proofs.lemmas.List.Sums.{AllPass-from_list_all}
use Rattle.cx_text.specs.Words.{is_digit, is_digits, digits_from, is_one_of}
use Rattle.cx_text.specs.Views.{now_all}

pub one_of_is : (ws : List (Bor (List ℕ))) (w : List ℕ) → list_any (λ y. bytes_eq y.now w) ws ≡ is_one_of (now_all ws) w
one_of_is [] w = refl
one_of_is (x ∷ ws) w = ap (λ (t : Bool). bytes_eq x.now w || t) (one_of_is ws w)

digit_bounds : (b : ℕ) → is_digit b ≡ true → (48 ≤ b) × (b ≤ 57)
digit_bounds b h = (grind (arith, nat_tests), grind (arith, nat_tests))

parts : (a b c : Bool) → (a && b && c) ≡ true → (b ≡ true) × (c ≡ true)
parts true true true h = (refl, refl)
parts false b c h = absurd (false≢true h)
parts true false c h = absurd (false≢true h)
parts true true false h = absurd (false≢true h)

pub few_digits : (w : List ℕ) → is_digits w ≡ true → length w ≤ 20
unfolding is_digits
few_digits w h = let p = parts (ltb 0 (length w)) (leb (length w) 20) (list_all is_digit w) h in let few = p.0 in grind (arith, nat_tests)

pub digit_at : (w : List ℕ) (k : ℕ) → is_digits w ≡ true → k < length w → (48 ≤ get_or w k 0) × (get_or w k 0 ≤ 57)
unfolding is_digits
digit_at w k h lt = let p = parts (ltb 0 (length w)) (leb (length w) 20) (list_all is_digit w) h in digit_bounds (get_or w k 0) (AllPass-from_list_all is_digit w p.1 k 0 lt)

pub room : (n k : ℕ) → n < 10 ^ k → k ≤ 20 → n < 10 ^ 20
room n k lt few = let up : 10 ^ k ≤ 10 ^ 20 = pow-le-pow_right (omega arith) few in omega arith

pub grown : (n k c : ℕ) → n < 10 ^ k → c ≤ 57 → n * 10 + (c - 48) < 10 ^ (k + 1)
grown n k c lt small = rw add-one (omega arith)

pub next_digit : (n : ℕ) (w : List ℕ) (k : ℕ) → k < length w → digits_from (n * 10 + (get_or w k 0 - 48)) (drop (k + 1) w) ≡ digits_from n (drop k w)
next_digit n w k lt = rw (add-one, drop-cons w k 0 lt) refl
