-- The changes on each object are the changes of the list.
use Rattle.std.proofs.Common.{◌≡◌, ℕ, zero, suc, ◌+◌, ◌<◌, ◌≤◌, ◌==◌, ◌&&◌, Bool, true, false, IsTrue, is_some, nat_lt, ◌^◌, List, [], ◌∷◌, ◌++◌, length, slice_get, Option, Some, None, option_and_then, if◌then◌else◌, refl, sym, ap, ◌∙◌, subst, arith, eqb-true}
use Rattle.std.proofs.lemmas.Bool.{eqb-false}
use Rattle.cx_machine.specs.Words.{when}
use Rattle.cx_scene.specs.declared.declared.Object.{Object}
use Rattle.cx_scene.specs.Scene.{Scene, kind_of}
use Rattle.cx_items.specs.declared.item.Item.{Item}
use Rattle.cx_items.specs.declared.item.Item.TheVariants as items
use Rattle.cx_history.specs.IsRecord.{is_item, is_change}
use Rattle.cx_fronts.specs.Paths.{position_on, own_in, AreItems}
use Rattle.cx_fronts.specs.Counts.{change_count, count_below}
use Rattle.cx_fronts.proofs.Lists.{not_equal}

-- how many changes an item is on the objects below n
abbrev hits : ℕ → Item → ℕ
hits zero x = 0
hits (suc n) x = hits n x + length (position_on n x)

long : (ms ns : List ℕ) → length (ms ++ ns) ≡ length ms + length ns
long [] ns = omega arith
long (m ∷ ms) ns = omega (arith, long ms ns)

hits_first : (n : ℕ) (x : Item) (xs : List Item) → count_below n (x ∷ xs) ≡ hits n x + count_below n xs
hits_first zero x xs = refl
hits_first (suc n) x xs = omega (arith, hits_first n x xs, long (position_on n x) (own_in n xs))

length_if : (b : Bool) (p : ℕ) → b ≡ false → length (if b then p ∷ [] else []) ≡ 0
length_if b p h = rw h refl

hits_above : (n : ℕ) (x : Item) (q p : ℕ) → ((o : ℕ) → position_on o x ≡ (if q == o then p ∷ [] else [])) → n ≤ q → hits n x ≡ 0
hits_above zero x q p is le = refl
hits_above (suc n) x q p is le =
    let rest = hits_above n x q p is (omega (arith, le)) in
    let apart : (q == n) ≡ false = not_equal q n (λ e. omega (arith, e, le)) in
    let none : length (position_on n x) ≡ 0 = ap length (is n) ∙ length_if (q == n) p apart in
    omega (arith, rest, none)

hits_below : (n : ℕ) (x : Item) (q p : ℕ) → ((o : ℕ) → position_on o x ≡ (if q == o then p ∷ [] else [])) → q < n → hits n x ≡ 1
hits_below zero x q p is lt = absurd (omega (arith, lt))
hits_below (suc n) x q p is lt = go (q == n) refl (λ low. hits_below n x q p is low)
  where
    here : (b : Bool) → b ≡ true → length (if b then p ∷ [] else []) ≡ 1
    here b k = rw k refl

    go : (b : Bool) → (q == n) ≡ b → (q < n → hits n x ≡ 1) → hits n x + length (position_on n x) ≡ 1
    go true k below =
        let same : q ≡ n = eqb-true q n k in
        let none : hits n x ≡ 0 = hits_above n x q p is (omega (arith, same)) in
        let one : length (position_on n x) ≡ 1 = ap length (is n) ∙ here (q == n) k in
        omega (arith, none, one)
    go false k below =
        let apart : q ≡ n → ⊥ = eqb-false q n k in
        let low : hits n x ≡ 1 = below (omega (arith, lt, apart)) in
        let none : length (position_on n x) ≡ 0 = ap length (is n) ∙ length_if (q == n) p k in
        omega (arith, none, low)

none_hit : (n : ℕ) (x : Item) → ((o : ℕ) → position_on o x ≡ []) → hits n x ≡ 0
none_hit zero x is = refl
none_hit (suc n) x is = omega (arith, none_hit n x is, ap length (is n))

and_right : (a b : Bool) → (a && b) ≡ true → b ≡ true
and_right true b h = h
and_right false b h = cc h

-- an item's object is one of the scene's
declared : {B : Type 0} (s : Scene) (n : ℕ) (f : Object → Option B) → is_some (option_and_then f (slice_get s.objects n)) ≡ true → n < length s.objects
declared s n f h = in_list s.objects n h
  where
    in_list : (ds : List Object) (n : ℕ) → is_some (option_and_then f (slice_get ds n)) ≡ true → n < length ds
    in_list [] n k = cc k
    in_list (d ∷ ds) zero k = omega arith
    in_list (d ∷ ds) (suc n) k = omega (arith, in_list ds n k)

one_hit : (s : Scene) (t : ℕ) (x : Item) → IsTrue (is_item s t x) → hits (length s.objects) x ≡ change_count (x ∷ [])
one_hit s t (items.Change q p e) h = hits_below (length s.objects) (items.Change q p e) q.0 p (λ o. refl) (declared s q.0 (λ d. when (is_change (length s.threads) (kind_of d) e.op e.a e.b e.reply) d) (and_right ((e.by.0 == t) && nat_lt p (2 ^ 28)) (is_some (option_and_then (λ d. when (is_change (length s.threads) (kind_of d) e.op e.a e.b e.reply) d) (slice_get s.objects q.0))) h))
one_hit s t (items.Look q l) h = none_hit (length s.objects) (items.Look q l) (λ o. refl)
one_hit s t (items.Control c) h = none_hit (length s.objects) (items.Control c) (λ o. refl)
one_hit s t (items.Said r) h = none_hit (length s.objects) (items.Said r) (λ o. refl)

count_first : (x : Item) (xs : List Item) → change_count (x ∷ xs) ≡ change_count (x ∷ []) + change_count xs
count_first (items.Change q p e) xs = omega arith
count_first (items.Look q l) xs = omega arith
count_first (items.Control c) xs = omega arith
count_first (items.Said r) xs = omega arith

none_below : (n : ℕ) → count_below n [] ≡ 0
none_below zero = refl
none_below (suc n) = omega (arith, none_below n)

pub changes_are_counted : (s : Scene) (t : ℕ) (xs : List Item) → AreItems s t xs → count_below (length s.objects) xs ≡ change_count xs
changes_are_counted s t [] each = none_below (length s.objects)
changes_are_counted s t (x ∷ xs) each = hits_first (length s.objects) x xs ∙ (ap (λ n. n + count_below (length s.objects) xs) (one_hit s t x (each 0 x refl)) ∙ (ap (λ n. change_count (x ∷ []) + n) (changes_are_counted s t xs (λ i y there. each (suc i) y there)) ∙ sym (count_first x xs)))

-- a list's changes are those of its parts
pub count_append : (xs ys : List Item) → change_count (xs ++ ys) ≡ change_count xs + change_count ys
count_append [] ys = omega arith
count_append (x ∷ xs) ys = count_first x (xs ++ ys) ∙ (ap (λ n. change_count (x ∷ []) + n) (count_append xs ys) ∙ (omega arith ∙ ap (λ n. n + change_count ys) (sym (count_first x xs))))
