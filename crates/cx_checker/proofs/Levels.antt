-- The changes of an object level by level: those at a position, and those above it.
use Rattle.std.proofs.Common.{◌≡◌, ℕ, zero, suc, ◌+◌, ◌<◌, ◌≤◌, Bool, true, false, List, [], ◌∷◌, ◌++◌, length, filter, cond, Option, Some, None, slice_get, nat_le, if◌then◌else◌, refl, sym, ap, ◌∙◌, subst, arith, eqb-true, eq-eqb, leb-true, leb-false, le-leb, zero-add}
use Rattle.std.proofs.lemmas.Bool.{eqb-false}
use Rattle.cx_machine.specs.Machine.{State, step}
use Rattle.cx_history.specs.Histories.{Placed, put_in, in_order, is_at}
use Rattle.cx_history.specs.Flaw.{gap_from, bad_step_from}
use Rattle.cx_history.proofs.Appending.{length-in_order}
use Rattle.cx_checker.specs.Placing.{is_from, sooner, or_change}

-- the changes from a position on, in order
unfoldable pub rest : ℕ → List Placed → List Placed
rest k cs = in_order (filter (is_from k) cs)

not_le : (m n : ℕ) → n < m → nat_le m n ≡ false
not_le m n h = grind arith

-- ---- all of these are at k or above

pub data AreFrom (k : ℕ) : List Placed → Type 0 where
  none : AreFrom k []
  more : (c : Placed) (cs : List Placed) → k ≤ c.position → AreFrom k cs → AreFrom k (c ∷ cs)

pub from_filter : (k : ℕ) (cs : List Placed) → AreFrom k (filter (is_from k) cs)
from_filter k [] = none
from_filter k (c ∷ cs) = go (is_from k c) refl (from_filter k cs)
  where
    go : (b : Bool) → is_from k c ≡ b → AreFrom k (filter (is_from k) cs) → AreFrom k (cond b (c ∷ filter (is_from k) cs) (filter (is_from k) cs))
    go true e ih = more c (filter (is_from k) cs) (leb-true k c.position e) ih
    go false e ih = ih

from_put_in : (k : ℕ) (c : Placed) (ds : List Placed) → k ≤ c.position → AreFrom k ds → AreFrom k (put_in c ds)
from_put_in k c [] h none = more c [] h none
from_put_in k c (d ∷ ds) h (more d' ds' l below) = go (nat_le c.position d.position) (from_put_in k c ds h below)
  where
    go : (b : Bool) → AreFrom k (put_in c ds) → AreFrom k (if b then c ∷ d ∷ ds else d ∷ put_in c ds)
    go true ih = more c (d ∷ ds) h (more d ds l below)
    go false ih = more d (put_in c ds) l ih

pub from_in_order : (k : ℕ) (cs : List Placed) → AreFrom k cs → AreFrom k (in_order cs)
from_in_order k [] none = none
from_in_order k (c ∷ cs) (more c' cs' h below) = from_put_in k c (in_order cs) h (from_in_order k cs below)

pub from_rest : (k : ℕ) (cs : List Placed) → AreFrom k (rest k cs)
unfolding rest
from_rest k cs = from_in_order k (filter (is_from k) cs) (from_filter k cs)

-- ---- those at k come first

-- a change goes before those that are not below it
before_all : (c : Placed) (ds : List Placed) → AreFrom c.position ds → put_in c ds ≡ c ∷ ds
before_all c [] none = refl
before_all c (d ∷ ds) (more d' ds' h below) = rw (le-leb c.position d.position h) refl

-- a change goes behind those at k, which is below it
behind : (k : ℕ) (c : Placed) (cs ds : List Placed) → k < c.position → put_in c (filter (is_at k) cs ++ ds) ≡ filter (is_at k) cs ++ put_in c ds
behind k c [] ds h = refl
behind k c (d ∷ cs) ds h = go (is_at k d) refl (behind k c cs ds h)
  where
    go : (b : Bool) → is_at k d ≡ b → put_in c (filter (is_at k) cs ++ ds) ≡ filter (is_at k) cs ++ put_in c ds → put_in c (cond b (d ∷ filter (is_at k) cs) (filter (is_at k) cs) ++ ds) ≡ cond b (d ∷ filter (is_at k) cs) (filter (is_at k) cs) ++ put_in c ds
    go true e ih =
        let here : d.position ≡ k = eqb-true d.position k e in
        let low : d.position < c.position = omega arith in
        rw (not_le c.position d.position low) (ap (λ xs. d ∷ xs) ih)
    go false e ih = ih

from_append : (k : ℕ) (cs ds : List Placed) → AreFrom k ds → AreFrom k (filter (is_at k) cs ++ ds)
from_append k [] ds h = h
from_append k (c ∷ cs) ds h = go (is_at k c) refl (from_append k cs ds h)
  where
    go : (b : Bool) → is_at k c ≡ b → AreFrom k (filter (is_at k) cs ++ ds) → AreFrom k (cond b (c ∷ filter (is_at k) cs) (filter (is_at k) cs) ++ ds)
    go true e ih = more c (filter (is_at k) cs ++ ds) (let here : c.position ≡ k = eqb-true c.position k e in omega arith) ih
    go false e ih = ih

from_weaker : (j k : ℕ) (cs : List Placed) → j ≤ k → AreFrom k cs → AreFrom j cs
from_weaker j k [] h none = none
from_weaker j k (c ∷ cs) h (more c' cs' l below) = more c cs (omega arith) (from_weaker j k cs h below)

pub level : (k : ℕ) (cs : List Placed) → rest k cs ≡ filter (is_at k) cs ++ rest (k + 1) cs
unfolding rest
level k [] = refl
level k (c ∷ cs) = go (is_from k c) (is_at k c) (is_from (k + 1) c) refl refl refl (level k cs)
  where
    fs : List Placed
    fs = filter (is_from k) cs

    as_ : List Placed
    as_ = filter (is_at k) cs

    gs : List Placed
    gs = filter (is_from (k + 1)) cs

    go : (f a g : Bool) → is_from k c ≡ f → is_at k c ≡ a → is_from (k + 1) c ≡ g → in_order (filter (is_from k) cs) ≡ filter (is_at k) cs ++ in_order (filter (is_from (k + 1)) cs) → in_order (cond f (c ∷ filter (is_from k) cs) (filter (is_from k) cs)) ≡ cond a (c ∷ filter (is_at k) cs) (filter (is_at k) cs) ++ in_order (cond g (c ∷ filter (is_from (k + 1)) cs) (filter (is_from (k + 1)) cs))
    go true true true ef ea eg ih =
        let here : c.position ≡ k = eqb-true c.position k ea in
        let above : k + 1 ≤ c.position = leb-true (k + 1) c.position eg in
        absurd (omega arith)
    go true true false ef ea eg ih =
        let here : c.position ≡ k = eqb-true c.position k ea in
        let all = from_append k cs (in_order (filter (is_from (k + 1)) cs)) (from_weaker k (k + 1) (in_order (filter (is_from (k + 1)) cs)) (omega arith) (from_in_order (k + 1) (filter (is_from (k + 1)) cs) (from_filter (k + 1) cs))) in
        rw ih (before_all c (filter (is_at k) cs ++ in_order (filter (is_from (k + 1)) cs)) (subst (λ (n : ℕ). AreFrom n (filter (is_at k) cs ++ in_order (filter (is_from (k + 1)) cs))) (sym here) all))
    go true false true ef ea eg ih =
        let above : k + 1 ≤ c.position = leb-true (k + 1) c.position eg in
        rw ih (behind k c cs (in_order (filter (is_from (k + 1)) cs)) (omega arith))
    go true false false ef ea eg ih =
        let away : c.position ≡ k → ⊥ = eqb-false c.position k ea in
        let low : k ≤ c.position = leb-true k c.position ef in
        let high : c.position < k + 1 = leb-false (k + 1) c.position eg in
        absurd (away (omega arith))
    go false true g ef ea eg ih =
        let here : c.position ≡ k = eqb-true c.position k ea in
        let low : c.position < k = leb-false k c.position ef in
        absurd (omega arith)
    go false false true ef ea eg ih =
        let low : c.position < k = leb-false k c.position ef in
        let above : k + 1 ≤ c.position = leb-true (k + 1) c.position eg in
        absurd (omega arith)
    go false false false ef ea eg ih = ih

-- all are from 0 on
pub rest_all : (cs : List Placed) → in_order cs ≡ rest 0 cs
unfolding rest
rest_all cs = ap in_order (all cs)
  where
    all : (ds : List Placed) → ds ≡ filter (is_from 0) ds
    all [] = refl
    all (d ∷ ds) = rw (le-leb 0 d.position (omega arith)) (ap (λ xs. d ∷ xs) (all ds))

-- ---- one level

pub one_level : (k : ℕ) (cs : List Placed) (c : Placed) → filter (is_at k) cs ≡ c ∷ [] → rest k cs ≡ c ∷ rest (k + 1) cs
one_level k cs c h = level k cs ∙ ap (λ xs. xs ++ rest (k + 1) cs) h

-- what is kept at a level is at it
pub first_at : (k : ℕ) (cs : List Placed) (c : Placed) (ds : List Placed) → filter (is_at k) cs ≡ c ∷ ds → (is_at k c ≡ true) × ((d : Placed) (es : List Placed) → ds ≡ d ∷ es → is_at k d ≡ true)
first_at k [] c ds h = cc
first_at k (b ∷ bs) c ds h = go (is_at k b) refl h (first_at k bs c ds)
  where
    second : (xs : List Placed) → filter (is_at k) bs ≡ xs → (d : Placed) (es : List Placed) → xs ≡ d ∷ es → is_at k d ≡ true
    second xs e d es q = (head_at bs d es (e ∙ q))
      where
        head_at : (ys : List Placed) (d : Placed) (es : List Placed) → filter (is_at k) ys ≡ d ∷ es → is_at k d ≡ true
        head_at [] d es h = cc
        head_at (y ∷ ys) d es h = pick (is_at k y) refl h (head_at ys d es)
          where
            pick : (b : Bool) → is_at k y ≡ b → cond b (y ∷ filter (is_at k) ys) (filter (is_at k) ys) ≡ d ∷ es → (filter (is_at k) ys ≡ d ∷ es → is_at k d ≡ true) → is_at k d ≡ true
            pick true e h ih = let same : y ≡ d = cc in subst (λ (x : Placed). is_at k x ≡ true) same e
            pick false e h ih = ih h

    go : (b' : Bool) → is_at k b ≡ b' → cond b' (b ∷ filter (is_at k) bs) (filter (is_at k) bs) ≡ c ∷ ds → (filter (is_at k) bs ≡ c ∷ ds → (is_at k c ≡ true) × ((d : Placed) (es : List Placed) → ds ≡ d ∷ es → is_at k d ≡ true)) → (is_at k c ≡ true) × ((d : Placed) (es : List Placed) → ds ≡ d ∷ es → is_at k d ≡ true)
    go true e h ih =
        let same : b ≡ c = cc in
        let others : filter (is_at k) bs ≡ ds = cc in
        (subst (λ (x : Placed). is_at k x ≡ true) same e, second ds others)
    go false e h ih = ih h

pub gap_step : (k : ℕ) (cs : List Placed) (c : Placed) → filter (is_at k) cs ≡ c ∷ [] → (gap_from k (rest k cs) ≡ gap_from (k + 1) (rest (k + 1) cs)) × (length (rest k cs) ≡ suc (length (rest (k + 1) cs)))
gap_step k cs c h =
    let split = one_level k cs c h in
    let here = (first_at k cs c [] h).0 in
    (rw (split, here) refl, ap length split)

-- ---- a level that isn't held once

not_at : (k : ℕ) (c : Placed) → (c.position ≡ k → ⊥) → is_at k c ≡ false
not_at k c h = go (is_at k c) refl
  where
    go : (b : Bool) → is_at k c ≡ b → b ≡ false
    go true e = absurd (h (eqb-true c.position k e))
    go false e = refl

-- the first of those above is not at the level
head_above : (k : ℕ) (ds : List Placed) → AreFrom (k + 1) ds → 0 < length ds → gap_from k ds ≡ slice_get ds 0
head_above k [] none h = absurd (omega arith)
head_above k (d ∷ ds) (more d' ds' l below) h = rw (not_at k d (λ e. omega arith)) refl

pub gap_here : (k : ℕ) (cs : List Placed) → (length (filter (is_at k) cs) ≡ 1 → ⊥) → 0 < length (rest k cs) → gap_from k (rest k cs) ≡ or_change (slice_get (filter (is_at k) cs) 1) (slice_get (rest (k + 1) cs) 0)
gap_here k cs not_one some = go (filter (is_at k) cs) refl
  where
    go : (xs : List Placed) → filter (is_at k) cs ≡ xs → gap_from k (rest k cs) ≡ or_change (slice_get xs 1) (slice_get (rest (k + 1) cs) 0)
    go [] e =
        let split : rest k cs ≡ rest (k + 1) cs = level k cs ∙ ap (λ xs. xs ++ rest (k + 1) cs) e in
        ap (gap_from k) split ∙ head_above k (rest (k + 1) cs) (from_rest (k + 1) cs) (subst (λ (ds : List Placed). 0 < length ds) split some)
    go (c ∷ []) e = absurd (not_one (ap length e))
    go (c ∷ d ∷ ds) e =
        let split : rest k cs ≡ c ∷ d ∷ (ds ++ rest (k + 1) cs) = level k cs ∙ ap (λ xs. xs ++ rest (k + 1) cs) e in
        let both = first_at k cs c (d ∷ ds) e in
        let at_k : d.position ≡ k = eqb-true d.position k (both.1 d ds refl) in
        rw (split, both.0, not_at (k + 1) d (λ q. omega arith)) refl

-- so there is a gap
pub gap_there : (k : ℕ) (cs : List Placed) → (length (filter (is_at k) cs) ≡ 1 → ⊥) → 0 < length (rest k cs) → gap_from k (rest k cs) ≡ None → ⊥
gap_there k cs not_one some h = go (filter (is_at k) cs) refl
  where
    go : (xs : List Placed) → filter (is_at k) cs ≡ xs → ⊥
    go [] e =
        let split : rest k cs ≡ rest (k + 1) cs = level k cs ∙ ap (λ xs. xs ++ rest (k + 1) cs) e in
        let is = ap (gap_from k) (sym split) ∙ h in
        head (rest (k + 1) cs) (subst (λ (ds : List Placed). 0 < length ds) split some) (sym (head_above k (rest (k + 1) cs) (from_rest (k + 1) cs) (subst (λ (ds : List Placed). 0 < length ds) split some)) ∙ is)
      where
        head : (ds : List Placed) → 0 < length ds → slice_get ds 0 ≡ None → ⊥
        head [] l q = omega arith
        head (d ∷ ds) l q = cc
    go (c ∷ []) e = not_one (ap length e)
    go (c ∷ d ∷ ds) e =
        let here = gap_here k cs not_one some in
        let second : slice_get (filter (is_at k) cs) 1 ≡ Some d = ap (λ xs. slice_get xs 1) e in
        let found : gap_from k (rest k cs) ≡ Some d = here ∙ ap (λ o. or_change o (slice_get (rest (k + 1) cs) 0)) second in
        cc

-- nothing is left
pub rest_none : (k : ℕ) (cs : List Placed) → length (rest k cs) ≡ 0 → rest k cs ≡ []
rest_none k cs h = go (rest k cs) h
  where
    go : (ds : List Placed) → length ds ≡ 0 → ds ≡ []
    go [] l = refl
    go (d ∷ ds) l = absurd (omega (arith, l))

pub left_at_start : (cs : List Placed) → 0 + length (rest 0 cs) ≡ length cs
left_at_start cs = zero-add (length (rest 0 cs)) ∙ (ap length (sym (rest_all cs)) ∙ length-in_order cs)

-- ---- the first of a sequence

first_put_in : (c : Placed) (ds : List Placed) → slice_get (put_in c ds) 0 ≡ Some (sooner c (slice_get ds 0))
first_put_in c [] = refl
first_put_in c (d ∷ ds) = go (nat_le c.position d.position)
  where
    go : (b : Bool) → slice_get (if b then c ∷ d ∷ ds else d ∷ put_in c ds) 0 ≡ Some (if b then c else d)
    go true = refl
    go false = refl

pub first_more : (k : ℕ) (c : Placed) (cs : List Placed) → is_from k c ≡ true → slice_get (rest k (c ∷ cs)) 0 ≡ Some (sooner c (slice_get (rest k cs) 0))
unfolding rest
first_more k c cs h = rw h (first_put_in c (in_order (filter (is_from k) cs)))

pub first_same : (k : ℕ) (c : Placed) (cs : List Placed) → is_from k c ≡ false → slice_get (rest k (c ∷ cs)) 0 ≡ slice_get (rest k cs) 0
unfolding rest
first_same k c cs h = rw h refl
