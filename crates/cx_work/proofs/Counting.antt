-- Changes in the front of a list are counted one by one.
use Rattle.std.proofs.Common.{◌≡◌, ℕ, zero, suc, ◌+◌, ◌<◌, List, [], ◌∷◌, length, take, get_or, refl, ap, arith}
use Rattle.cx_items.specs.declared.item.Item.{Item}
use Rattle.cx_items.specs.declared.item.Item.TheVariants as items
use Rattle.cx_fronts.specs.Counts.{change_count}

first_counted : (x : Item) (xs : List Item) → change_count (x ∷ xs) ≡ change_count (x ∷ []) + change_count xs
first_counted (items.Change q p e) xs = omega arith
first_counted _ xs = omega arith

pub one_counted : (xs : List Item) (i : ℕ) (d : Item) → i < length xs → change_count (take (i + 1) xs) ≡ change_count (take i xs) + change_count (get_or xs i d ∷ [])
one_counted [] i d h = absurd (omega (arith, h))
one_counted (x ∷ xs) zero d h = omega arith
one_counted (x ∷ xs) (suc i) d h =
    let later = one_counted xs i d (omega (arith, h)) in
    let a = first_counted x (take (i + 1) xs) in
    let b = first_counted x (take i xs) in
    let one_on : suc i + 1 ≡ suc (i + 1) = omega arith in
    let longer : change_count (take (suc i + 1) (x ∷ xs)) ≡ change_count (x ∷ take (i + 1) xs) = ap (λ n. change_count (take n (x ∷ xs))) one_on in
    let shorter : change_count (take (suc i) (x ∷ xs)) ≡ change_count (x ∷ take i xs) = refl in
    let same : change_count (get_or (x ∷ xs) (suc i) d ∷ []) ≡ change_count (get_or xs i d ∷ []) = refl in
    omega (arith, later, a, b, longer, shorter, same)

pub one_more_counted : (xs : List Item) (i : ℕ) (d : Item) (n : ℕ) → i < length xs → n ≡ change_count (get_or xs i d ∷ []) → change_count (take (i + 1) xs) ≡ change_count (take i xs) + n
one_more_counted xs i d n low is = let step = one_counted xs i d low in omega (arith, step, is)
