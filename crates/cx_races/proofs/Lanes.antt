-- Where accesses stand that can race with one, in order of variable, writes before reads, thread and point.
use Rattle.std.proofs.Common.{◌≡◌, ◌⊎◌, inl, inr, ℕ, zero, suc, ◌+◌, ◌*◌, ◌<◌, ◌≤◌, ◌==◌, ◌&&◌, ◌||◌, not, Bool, true, false, ltb, List, [], ◌∷◌, ◌++◌, length, get_or, slice_get, Some, refl, sym, ap, ◌∙◌, subst, arith, eq-eqb}
use Rattle.std.specs.List.{Contains}
use Rattle.std.specs.List.Sorted.{IsNonDecreasingBy, IsPermutation}
use Rattle.std.proofs.lemmas.Bool.{eqb-true, eqb-false, and_parts}
use Rattle.std.proofs.lemmas.Option.{slice_get_within, get_or_from_slice_get, slice_get-get_or}
use Rattle.std.proofs.lemmas.List.Sorted.{Contains-permutation, IsPermutation-sym}
use Rattle.cx_graph.proofs.Numbers.{le_or_lt}
use Rattle.cx_scene.specs.Scene.{Scene}
use Rattle.cx_history.specs.Histories.{Recorded}
use Rattle.cx_races.specs.declared.access.Access.{Access}
use Rattle.cx_races.specs.Races.{may_race}
use Rattle.cx_races.specs.Sheets.{class_of, lane_of, rank_of, IsSmall, AreSmall, NoneRaces, NoneOfLane, NoneBelow, AreFrom, AreBelow, is_over}

-- ---- what a race asks of the two

pub same_variable : (a b : Access) → may_race a b ≡ true → a.var ≡ b.var
same_variable a b h = eqb-true a.var b.var (and_parts (a.var == b.var) (not (a.thread.0 == b.thread.0) && (a.write || b.write)) h).0

pub by_two : (a b : Access) → may_race a b ≡ true → a.thread.0 ≡ b.thread.0 → ⊥
by_two a b h same = wrong (a.thread.0 == b.thread.0) (a.write || b.write) (and_parts (a.var == b.var) (not (a.thread.0 == b.thread.0) && (a.write || b.write)) h).1 (eq-eqb a.thread.0 b.thread.0 same)
  where
    wrong : (x y : Bool) → (not x && y) ≡ true → x ≡ true → ⊥
    wrong true y e f = cc
    wrong false y e f = cc

pub one_writes : (a b : Access) → may_race a b ≡ true → (a.write || b.write) ≡ true
one_writes a b h = (and_parts (not (a.thread.0 == b.thread.0)) (a.write || b.write) (and_parts (a.var == b.var) (not (a.thread.0 == b.thread.0) && (a.write || b.write)) h).1).1

-- ---- numbers of classes, lanes and ranks

class_least : (v : ℕ) (w : Bool) → v * 2 ≤ class_of v w
class_least v true = omega arith
class_least v false = omega arith

class_most : (v : ℕ) (w : Bool) → class_of v w ≤ v * 2 + 1
class_most v true = omega arith
class_most v false = omega arith

-- the variable of the greater rank isn't the lesser
vars_rise : (x y : Access) → IsSmall x → IsSmall y → rank_of x ≤ rank_of y → class_of x.var x.write ≤ class_of y.var y.write
vars_rise x y small_x small_y up = plain (class_of x.var x.write) (class_of y.var y.write) x.thread.0 y.thread.0 x.point y.point small_y.thread small_y.point up
  where
    plain : (c d t u p q : ℕ) → u < 4294967296 → q < 4294967296 → (c * 4294967296 + t) * 4294967296 + p ≤ (d * 4294967296 + u) * 4294967296 + q → c ≤ d
    plain c d t u p q small_u small_q up = omega arith

pub same_lane : (x y : Access) → IsSmall x → IsSmall y → rank_of x ≤ rank_of y → rank_of y < (lane_of x + 1) * 4294967296 → lane_of y ≡ lane_of x
same_lane x y small_x small_y up down = plain (lane_of x) (lane_of y) x.point y.point small_y.point up down
  where
    plain : (l m p q : ℕ) → q < 4294967296 → l * 4294967296 + p ≤ m * 4294967296 + q → m * 4294967296 + q < (l + 1) * 4294967296 → m ≡ l
    plain l m p q small up down = omega arith

pub lane_thread : (x y : Access) → IsSmall x → IsSmall y → lane_of y ≡ lane_of x → y.thread.0 ≡ x.thread.0
lane_thread x y small_x small_y same = plain (class_of x.var x.write) (class_of y.var y.write) x.thread.0 y.thread.0 small_x.thread small_y.thread same
  where
    plain : (c d t u : ℕ) → t < 4294967296 → u < 4294967296 → d * 4294967296 + u ≡ c * 4294967296 + t → u ≡ t
    plain c d t u small_t small_u same = omega arith

-- ---- below the first lane, and behind the last

-- whose rank is below each of a variable is of another
pub below_var : (a x : Access) → rank_of x < class_of a.var true * 18446744073709551616 → may_race a x ≡ true → ⊥
below_var a x low h =
    let same = same_variable a x h in
    let least = class_least x.var x.write in
    plain a.var x.var (class_of x.var x.write) x.thread.0 x.point same least low
  where
    plain : (v w c t p : ℕ) → v ≡ w → w * 2 ≤ c → (c * 4294967296 + t) * 4294967296 + p < (v * 2 + 0) * 18446744073709551616 → ⊥
    plain v w c t p same least low = omega arith

from_var : (a x : Access) → IsSmall x → class_of a.var true * 18446744073709551616 ≤ rank_of x → a.var * 2 ≤ class_of x.var x.write
from_var a x small up = plain a.var (class_of x.var x.write) x.thread.0 x.point small.thread small.point up
  where
    plain : (v c t p : ℕ) → t < 4294967296 → p < 4294967296 → (v * 2 + 0) * 18446744073709551616 ≤ (c * 4294967296 + t) * 4294967296 + p → v * 2 ≤ c
    plain v c t p small_t small_p up = omega arith

-- once one is over, so are all of no lesser rank
pub over_is : (a x y : Access) → IsSmall x → IsSmall y → class_of a.var true * 18446744073709551616 ≤ rank_of x → rank_of x ≤ rank_of y → is_over a x ≡ true → may_race a y ≡ true → ⊥
over_is a x y small_x small_y from up over h =
    by (a.write) (x.write) (y.write) (x.var == a.var) refl over (same_variable a y h) (one_writes a y h) (from_var a x small_x from) (vars_rise x y small_x small_y up)
  where
    by : (p q w s : Bool) → (x.var == a.var) ≡ s → (not s || not (p || q)) ≡ true → a.var ≡ y.var → (p || w) ≡ true → a.var * 2 ≤ class_of x.var q → class_of x.var q ≤ class_of y.var w → ⊥
    by p true true false e o same one lo hi = eqb-false x.var a.var e (omega (arith, same, lo, hi))
    by p false true false e o same one lo hi = eqb-false x.var a.var e (omega (arith, same, lo, hi))
    by p true false false e o same one lo hi = eqb-false x.var a.var e (omega (arith, same, lo, hi))
    by p false false false e o same one lo hi = eqb-false x.var a.var e (omega (arith, same, lo, hi))
    by true q w true e o same one lo hi = cc
    by false true w true e o same one lo hi = cc
    by false false false true e o same one lo hi = cc
    by false false true true e o same one lo hi = let var = eqb-true x.var a.var e in omega (arith, var, same, hi)

-- ---- the lanes one by one

-- of two, the later has no lesser rank
pub ranks_rise : (xs : List Access) (i j : ℕ) (x y : Access) → IsNonDecreasingBy rank_of xs → i ≤ j → slice_get xs i ≡ Some x → slice_get xs j ≡ Some y → rank_of x ≤ rank_of y
ranks_rise xs i j x y rising le at_i at_j =
    let a = get_or_from_slice_get xs i x x at_i in
    let b = get_or_from_slice_get xs j y x at_j in
    let up : rank_of (get_or xs i x) ≤ rank_of (get_or xs j x) = rising i j x le (slice_get_within xs j y at_j) in
    subst (λ (w : Access). rank_of x ≤ rank_of w) b (subst (λ (v : Access). rank_of v ≤ rank_of (get_or xs j x)) a up)

pub at_first : (s : Scene) (r : Recorded) (xs : List Access) (a : Access) (n : ℕ) → AreBelow xs n (class_of a.var true * 18446744073709551616) → NoneBelow s r xs a n
at_first s r xs a n below k x low there race = below_var a x (below k x low there) race.conflict

pub none_over : (s : Scene) (r : Recorded) (xs : List Access) (a x : Access) (n : ℕ) → IsNonDecreasingBy rank_of xs → AreSmall xs → AreFrom xs n (class_of a.var true * 18446744073709551616) → slice_get xs n ≡ Some x → is_over a x ≡ true → NoneBelow s r xs a n → NoneRaces s r xs a
none_over s r xs a x n rising small from here over below k y there race = by (le_or_lt n k)
  where
    by : (n ≤ k) ⊎ (k < n) → ⊥
    by (inl past) = over_is a x y (small n x here) (small k y there) (from n x (omega arith) here) (ranks_rise xs n k x y rising past here there) over race.conflict
    by (inr low) = below k y low there race

pub none_at_end : (s : Scene) (r : Recorded) (xs : List Access) (a : Access) (n : ℕ) → length xs ≤ n → NoneBelow s r xs a n → NoneRaces s r xs a
none_at_end s r xs a n past below k y there race = let w = slice_get_within xs k y there in below k y (omega (arith, w, past)) there race

pub one_lane_more : (s : Scene) (r : Recorded) (xs : List Access) (a x : Access) (n m : ℕ) → IsNonDecreasingBy rank_of xs → AreSmall xs → slice_get xs n ≡ Some x → AreBelow xs m ((lane_of x + 1) * 4294967296) → NoneOfLane s r xs a x → NoneBelow s r xs a n → NoneBelow s r xs a m
one_lane_more s r xs a x n m rising small here below none before k y low there race = by (le_or_lt n k)
  where
    by : (n ≤ k) ⊎ (k < n) → ⊥
    by (inl past) = none k y there (same_lane x y (small n x here) (small k y there) (ranks_rise xs n k x y rising past here there) (below k y low there)) race
    by (inr under) = before k y under there race

-- the next lane is further on
pub goes_on : (xs : List Access) (x : Access) (n m : ℕ) → AreSmall xs → slice_get xs n ≡ Some x → AreFrom xs m ((lane_of x + 1) * 4294967296) → n < m
goes_on xs x n m small here from = by (le_or_lt m n)
  where
    plain : (l p : ℕ) → p < 4294967296 → (l + 1) * 4294967296 ≤ l * 4294967296 + p → ⊥
    plain l p small up = omega arith

    by : (m ≤ n) ⊎ (n < m) → n < m
    by (inl back) = absurd (plain (lane_of x) x.point (small n x here).point (from n x back here))
    by (inr on) = on

pub still_from : (xs : List Access) (n m rank : ℕ) → n ≤ m → AreFrom xs n rank → AreFrom xs m rank
still_from xs n m rank le from k x past there = from k x (omega (arith, le, past)) there

-- accesses of one thread don't race
pub own_lane : (s : Scene) (r : Recorded) (xs : List Access) (a x : Access) (n : ℕ) → AreSmall xs → slice_get xs n ≡ Some x → a.thread.0 ≡ x.thread.0 → NoneOfLane s r xs a x
own_lane s r xs a x n small here own k y there lane race = by_two a y race.conflict (own ∙ sym (lane_thread x y (small n x here) (small k y there) lane))

-- ---- all accesses in order

pub small_more : (xs : List Access) (a : Access) → AreSmall xs → IsSmall a → AreSmall (xs ++ a ∷ [])
small_more [] a small here zero x there = subst IsSmall (some_is a x there) here
  where
    some_is : (x y : Access) → Some x ≡ Some y → x ≡ y
    some_is x y e = cc
small_more [] a small here (suc k) x there = cc
small_more (y ∷ ys) a small here zero x there = small zero x there
small_more (y ∷ ys) a small here (suc k) x there = small_more ys a (λ m z at_. small (suc m) z at_) here k x there

pub among : (xs ys : List Access) (k : ℕ) (x : Access) → IsPermutation xs ys → slice_get xs k ≡ Some x → (m : ℕ) × (slice_get ys m ≡ Some x)
among xs ys k x same there =
    let c : Contains ys x = Contains-permutation xs ys x same (k, slice_get_within xs k x there, get_or_from_slice_get xs k x x there) in
    (c.0, slice_get-get_or ys c.0 x c.1 ∙ ap Some c.2)

pub small_in : (xs ys : List Access) → IsPermutation xs ys → AreSmall xs → AreSmall ys
small_in xs ys same small k x there = let w = among ys xs k x (IsPermutation-sym xs ys same) there in small w.0 x w.1

-- ---- a sorted list of accesses

-- an element that is there, read with any default
pub reads : (xs : List Access) (i : ℕ) (x d : Access) → slice_get xs i ≡ Some x → (i < length xs) × (get_or xs i d ≡ x)
reads xs i x d there = (slice_get_within xs i x there, get_or_from_slice_get xs i x d there)

-- what a test says of the elements of a list, for those of an equal list
pub tested : (xs ys : List Access) (k : ℕ) (x : Access) (rank : ℕ) (b : Bool) → xs ≡ ys → slice_get ys k ≡ Some x → ltb (rank_of (get_or xs k x)) rank ≡ b → ltb (rank_of x) rank ≡ b
tested xs ys k x rank b same there says =
    let at_ : get_or xs k x ≡ x = ap (λ (zs : List Access). get_or zs k x) same ∙ (reads ys k x x there).1 in
    ap (λ (y : Access). ltb (rank_of y) rank) (sym at_) ∙ says

pub none_small : AreSmall []
none_small k x there = cc
