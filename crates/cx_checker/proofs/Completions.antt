-- Which changes of a history leave a barrier completing, position by position.
use Rattle.std.proofs.Common.{◌≡◌, ℕ, zero, suc, ◌+◌, ◌<◌, ◌≤◌, ◌&&◌, Bool, true, false, List, [], ◌∷◌, ◌++◌, length, map, filter, cond, slice_get, nat_le, nat_lt, Option, Some, None, option_and_then, unwrap_or, if◌then◌else◌, refl, sym, ap, ◌∙◌, subst, arith, append_assoc, eqb-true, le-leb, length-append, add-zero}
use Rattle.std.proofs.lemmas.Bool.{eqb-false, ltb-true, ltb-false, leb-true}
use Rattle.std.proofs.lemmas.Option.{slice_get_past}
use Rattle.std.proofs.lemmas.List.Elements.{filter-append}
use Rattle.cx_machine.specs.Machine.{State, Mutex, Shared, Semaphore, Latch, Barrier, Once, Condition, Stop, Future, run, step}
use Rattle.cx_machine.specs.Now.{is_completing as is_completing_now}
use Rattle.cx_machine.specs.Words.{Applies}
use Rattle.cx_history.specs.Histories.{Placed, in_order, entries, is_at}
use Rattle.cx_history.specs.Follows.{no_gap_from, is_completing, completes_by}
use Rattle.cx_checker.specs.Marks.{marked, IsHeldAt, AreCompletions}
use Rattle.cx_checker.proofs.Levels.{rest, rest_all, level, one_level, first_at, AreFrom, none, more, from_rest}
use Rattle.cx_checker.proofs.Placings.{all_walked}

pub same_completing : (o : Option State) → is_completing_now o ≡ is_completing o
same_completing None = refl
same_completing (Some (Mutex m)) = refl
same_completing (Some (Shared m)) = refl
same_completing (Some (Semaphore m)) = refl
same_completing (Some (Latch m)) = refl
same_completing (Some (Barrier m)) = refl
same_completing (Some (Once m)) = refl
same_completing (Some (Condition m)) = refl
same_completing (Some (Stop m)) = refl
same_completing (Some (Future m)) = refl

-- those at p or before
abbrev pub upto : ℕ → List Placed → List Placed
upto p cs = filter (λ c. nat_le c.position p) cs

-- whether these leave the machine completing, from position k and this state on
abbrev pub ends_completing : ℕ → State → List Placed → Bool
ends_completing k state cs = no_gap_from k cs && is_completing (run state (entries cs))

not_le : (m n : ℕ) → n < m → nat_le m n ≡ false
not_le m n h = grind arith

upto_append : (p : ℕ) (xs ys : List Placed) → upto p (xs ++ ys) ≡ upto p xs ++ upto p ys
upto_append p xs ys = filter-append (λ c. nat_le c.position p) xs ys

-- ---- a position that is held is among those up to it

upto_at : (p : ℕ) (cs : List Placed) → upto p (filter (is_at p) cs) ≡ filter (is_at p) cs
upto_at p [] = refl
upto_at p (c ∷ cs) = go (is_at p c) refl (upto_at p cs)
  where
    go : (b : Bool) → is_at p c ≡ b → upto p (filter (is_at p) cs) ≡ filter (is_at p) cs → upto p (cond b (c ∷ filter (is_at p) cs) (filter (is_at p) cs)) ≡ cond b (c ∷ filter (is_at p) cs) (filter (is_at p) cs)
    go true e ih =
        let here : c.position ≡ p = eqb-true c.position p e in
        let low : nat_le c.position p ≡ true = le-leb c.position p (omega arith) in
        rw low (ap (λ xs. c ∷ xs) ih)
    go false e ih = ih

longer_left : (xs ys : List Placed) → 0 < length xs → 0 < length (xs ++ ys)
longer_left xs ys h = omega (arith, length-append xs ys, h)

longer_right : (xs ys : List Placed) → 0 < length ys → 0 < length (xs ++ ys)
longer_right xs ys h = omega (arith, length-append xs ys, h)

held_from : (d k p : ℕ) (cs : List Placed) → k + d ≡ p → IsHeldAt p cs → 0 < length (upto p (rest k cs))
held_from zero k p cs is held =
    let same : k ≡ p = sym (add-zero k) ∙ is in
    let split : upto p (rest p cs) ≡ filter (is_at p) cs ++ upto p (rest (p + 1) cs) = ap (upto p) (level p cs) ∙ (upto_append p (filter (is_at p) cs) (rest (p + 1) cs) ∙ ap (λ xs. xs ++ upto p (rest (p + 1) cs)) (upto_at p cs)) in
    subst (λ n. 0 < length (upto p (rest n cs))) (sym same) (subst (λ (xs : List Placed). 0 < length xs) (sym split) (longer_left (filter (is_at p) cs) (upto p (rest (p + 1) cs)) held))
held_from (suc d) k p cs is held =
    let next : (k + 1) + d ≡ p = omega (arith, is) in
    let split : upto p (rest k cs) ≡ upto p (filter (is_at k) cs) ++ upto p (rest (k + 1) cs) = ap (upto p) (level k cs) ∙ upto_append p (filter (is_at k) cs) (rest (k + 1) cs) in
    subst (λ (xs : List Placed). 0 < length xs) (sym split) (longer_right (upto p (filter (is_at k) cs)) (upto p (rest (k + 1) cs)) (held_from d (k + 1) p cs next held))

difference : (k p : ℕ) → k ≤ p → (d : ℕ) × (k + d ≡ p)
difference zero p h = (p, omega arith)
difference (suc k) zero h = absurd (omega arith)
difference (suc k) (suc p) h = let q = difference k p (omega arith) in (q.0, omega (arith, q.1))

pub held_ahead : (k p : ℕ) (cs : List Placed) → k ≤ p → IsHeldAt p cs → 0 < length (upto p (rest k cs))
held_ahead k p cs low held = let q = difference k p low in held_from q.0 k p cs q.1 held

-- ---- a level that isn't held once

not_at : (k : ℕ) (c : Placed) → (c.position ≡ k → ⊥) → is_at k c ≡ false
not_at k c h = go (is_at k c) refl
  where
    go : (b : Bool) → is_at k c ≡ b → b ≡ false
    go true e = absurd (h (eqb-true c.position k e))
    go false e = refl

from_upto : (k p : ℕ) (cs : List Placed) → AreFrom k cs → AreFrom k (upto p cs)
from_upto k p [] none = none
from_upto k p (c ∷ cs) (more c' cs' h below) = go (nat_le c.position p) (from_upto k p cs below)
  where
    go : (b : Bool) → AreFrom k (upto p cs) → AreFrom k (cond b (c ∷ upto p cs) (upto p cs))
    go true ih = more c (upto p cs) h ih
    go false ih = ih

head_away : (k : ℕ) (ds : List Placed) → AreFrom (k + 1) ds → 0 < length ds → no_gap_from k ds ≡ false
head_away k [] none h = absurd (omega arith)
head_away k (d ∷ ds) (more d' ds' l below) h = rw (not_at k d (λ e. omega arith)) refl

stops_at_gap : (k p : ℕ) (cs : List Placed) → (length (filter (is_at k) cs) ≡ 1 → ⊥) → k ≤ p → 0 < length (upto p (rest k cs)) → no_gap_from k (upto p (rest k cs)) ≡ false
stops_at_gap k p cs not_one low some = go (filter (is_at k) cs) refl
  where
    go : (xs : List Placed) → filter (is_at k) cs ≡ xs → no_gap_from k (upto p (rest k cs)) ≡ false
    go [] e =
        let split : rest k cs ≡ rest (k + 1) cs = level k cs ∙ ap (λ xs. xs ++ rest (k + 1) cs) e in
        ap (λ ds. no_gap_from k (upto p ds)) split ∙ head_away k (upto p (rest (k + 1) cs)) (from_upto (k + 1) p (rest (k + 1) cs) (from_rest (k + 1) cs)) (subst (λ (ds : List Placed). 0 < length (upto p ds)) split some)
    go (c ∷ []) e = absurd (not_one (ap length e))
    go (c ∷ d ∷ ds) e =
        let split : rest k cs ≡ c ∷ d ∷ (ds ++ rest (k + 1) cs) = level k cs ∙ ap (λ xs. xs ++ rest (k + 1) cs) e in
        let both = first_at k cs c (d ∷ ds) e in
        let at_c : c.position ≡ k = eqb-true c.position k both.0 in
        let at_d : d.position ≡ k = eqb-true d.position k (both.1 d ds refl) in
        let low_c : nat_le c.position p ≡ true = le-leb c.position p (omega arith) in
        let low_d : nat_le d.position p ≡ true = le-leb d.position p (omega arith) in
        rw (split, low_c, low_d, both.0, not_at (k + 1) d (λ q. omega arith)) refl

-- ---- one level

upto_level : (k p : ℕ) (cs : List Placed) (c : Placed) → filter (is_at k) cs ≡ c ∷ [] → k ≤ p → upto p (rest k cs) ≡ c ∷ upto p (rest (k + 1) cs)
upto_level k p cs c one low =
    let here : c.position ≡ k = eqb-true c.position k (first_at k cs c [] one).0 in
    let low_c : nat_le c.position p ≡ true = le-leb c.position p (omega arith) in
    ap (upto p) (one_level k cs c one) ∙ ap (λ b. cond b (c ∷ upto p (rest (k + 1) cs)) (upto p (rest (k + 1) cs))) low_c

nothing_upto : (p : ℕ) (cs : List Placed) → AreFrom (p + 1) cs → upto p cs ≡ []
nothing_upto p [] none = refl
nothing_upto p (c ∷ cs) (more c' cs' h below) = rw (not_le c.position p (omega arith)) (nothing_upto p cs below)

runs_on : (state next : State) (c : Placed) (cs : List Placed) → step state c.entry ≡ Some next → run state (entries (c ∷ cs)) ≡ run next (entries cs)
runs_on state next c cs h = ap (option_and_then (λ t. run t (entries cs))) h

runs_out : (state : State) (c : Placed) (cs : List Placed) → step state c.entry ≡ None → run state (entries (c ∷ cs)) ≡ None
runs_out state c cs h = ap (option_and_then (λ t. run t (entries cs))) h

and_false : (b : Bool) → (b && false) ≡ false
and_false true = refl
and_false false = refl

goes_on : (k p : ℕ) (cs : List Placed) (c : Placed) (state next : State) → filter (is_at k) cs ≡ c ∷ [] → k ≤ p → step state c.entry ≡ Some next → ends_completing k state (upto p (rest k cs)) ≡ ends_completing (k + 1) next (upto p (rest (k + 1) cs))
goes_on k p cs c state next one low did =
    let here = (first_at k cs c [] one).0 in
    ap (ends_completing k state) (upto_level k p cs c one low)
    ∙ (ap (λ b. (b && no_gap_from (k + 1) (upto p (rest (k + 1) cs))) && is_completing (run state (entries (c ∷ upto p (rest (k + 1) cs))))) here
    ∙ ap (λ o. no_gap_from (k + 1) (upto p (rest (k + 1) cs)) && is_completing o) (runs_on state next c (upto p (rest (k + 1) cs)) did))

refused : (k p : ℕ) (cs : List Placed) (c : Placed) (state : State) → filter (is_at k) cs ≡ c ∷ [] → k ≤ p → step state c.entry ≡ None → ends_completing k state (upto p (rest k cs)) ≡ false
refused k p cs c state one low did =
    ap (ends_completing k state) (upto_level k p cs c one low)
    ∙ (ap (λ o. no_gap_from k (c ∷ upto p (rest (k + 1) cs)) && is_completing o) (runs_out state c (upto p (rest (k + 1) cs)) did)
    ∙ and_false (no_gap_from k (c ∷ upto p (rest (k + 1) cs))))

-- ---- the walk

-- the marks so far, and what is ahead
pub record Walked (from state : State) (cs : List Placed) (k : ℕ) (marks : List Bool) : Type 0 where
  pub long : length marks ≡ k
  pub done : (p : ℕ) → p < k → marked marks p ≡ completes_by from cs p
  pub ahead : (p : ℕ) → k ≤ p → completes_by from cs p ≡ ends_completing k state (upto p (rest k cs))

pub walk_begins : (from state : State) (cs : List Placed) → state ≡ from → Walked from state cs 0 []
walk_begins from state cs is = record {
  long = refl;
  done = λ p low. absurd (omega arith);
  ahead = λ p low. ap (λ ds. ends_completing 0 from (upto p ds)) (rest_all cs) ∙ ap (λ s. ends_completing 0 s (upto p (rest 0 cs))) (sym is);
}

marked_before : (marks : List Bool) (b : Bool) (p : ℕ) → p < length marks → marked (marks ++ b ∷ []) p ≡ marked marks p
marked_before [] b p h = absurd (omega arith)
marked_before (m ∷ ms) b zero h = refl
marked_before (m ∷ ms) b (suc p) h = marked_before ms b p (omega arith)

marked_last : (marks : List Bool) (b : Bool) → marked (marks ++ b ∷ []) (length marks) ≡ b
marked_last [] b = refl
marked_last (m ∷ ms) b = marked_last ms b

marked_past : (marks : List Bool) (p : ℕ) → length marks ≤ p → marked marks p ≡ false
marked_past marks p past = ap (λ o. unwrap_or o false) (slice_get_past marks p past)

pub walk_goes_on : (from state next : State) (cs : List Placed) (k : ℕ) (marks : List Bool) (c : Placed) (made mark : Bool) → filter (is_at k) cs ≡ c ∷ [] → Applies made (step state c.entry) state next → made ≡ true → mark ≡ is_completing_now (Some next) → Walked from state cs k marks → Walked from next cs (k + 1) (marks ++ mark ∷ [])
walk_goes_on from state next cs k marks c made mark one applies is_made is walked = record {
  long = length-append marks (mark ∷ []) ∙ ap (λ n. n + 1) walked.long;
  done = λ p low. old_or_new p low (nat_lt p k) refl;
  ahead = λ p low. walked.ahead p (omega arith) ∙ goes_on k p cs c state next one (omega arith) did;
}
  where
    did : step state c.entry ≡ Some next
    did = subst (λ (b : Bool). Applies b (step state c.entry) state next) is_made applies

    here : completes_by from cs k ≡ mark
    here =
        walked.ahead k (omega arith)
        ∙ (goes_on k k cs c state next one (omega arith) did
        ∙ (ap (ends_completing (k + 1) next) (nothing_upto k (rest (k + 1) cs) (from_rest (k + 1) cs))
        ∙ sym (is ∙ same_completing (Some next))))

    old_or_new : (p : ℕ) → p < k + 1 → (b : Bool) → nat_lt p k ≡ b → marked (marks ++ mark ∷ []) p ≡ completes_by from cs p
    old_or_new p low true e =
        let l : p < k = ltb-true p k e in
        marked_before marks mark p (omega (arith, walked.long, l)) ∙ walked.done p l
    old_or_new p low false e =
        let l : k ≤ p = ltb-false p k e in
        let same : length marks ≡ p = omega (arith, walked.long, l, low) in
        let same_k : k ≡ p = omega (arith, l, low) in
        subst (λ n. marked (marks ++ mark ∷ []) n ≡ mark) same (marked_last marks mark) ∙ (sym here ∙ ap (completes_by from cs) same_k)

-- beyond the last mark nothing completes
stopped : (from state : State) (cs : List Placed) (k : ℕ) (marks : List Bool) → Walked from state cs k marks → ((p : ℕ) → k ≤ p → IsHeldAt p cs → ends_completing k state (upto p (rest k cs)) ≡ false) → AreCompletions from cs marks
stopped from state cs k marks walked beyond = λ p held. go p held (nat_lt p k) refl
  where
    go : (p : ℕ) → IsHeldAt p cs → (b : Bool) → nat_lt p k ≡ b → marked marks p ≡ completes_by from cs p
    go p held true e = walked.done p (ltb-true p k e)
    go p held false e =
        let l : k ≤ p = ltb-false p k e in
        marked_past marks p (omega (arith, walked.long, l)) ∙ sym (walked.ahead p l ∙ beyond p l held)

pub walk_stops : (from state : State) (cs : List Placed) (k : ℕ) (marks : List Bool) → (length (filter (is_at k) cs) ≡ 1 → ⊥) → Walked from state cs k marks → AreCompletions from cs marks
walk_stops from state cs k marks not_one walked =
    stopped from state cs k marks walked (λ p low held. ap (λ b. b && is_completing (run state (entries (upto p (rest k cs))))) (stops_at_gap k p cs not_one low (held_ahead k p cs low held)))

pub walk_is_refused : (from state next : State) (cs : List Placed) (k : ℕ) (marks : List Bool) (c : Placed) (made : Bool) → filter (is_at k) cs ≡ c ∷ [] → Applies made (step state c.entry) state next → made ≡ false → Walked from state cs k marks → AreCompletions from cs marks
walk_is_refused from state next cs k marks c made one applies not_made walked =
    let did = subst (λ (b : Bool). Applies b (step state c.entry) state next) not_made applies in
    stopped from state cs k marks walked (λ p low held. refused k p cs c state one low did.0)

pub walk_is_whole : (from state : State) (cs : List Placed) (k : ℕ) (marks : List Bool) → rest k cs ≡ [] → Walked from state cs k marks → AreCompletions from cs marks
walk_is_whole from state cs k marks nothing walked =
    stopped from state cs k marks walked (λ p low held. absurd (empty p (subst (λ (ds : List Placed). 0 < length (upto p ds)) nothing (held_ahead k p cs low held))))
  where
    empty : (p : ℕ) → 0 < length (upto p []) → ⊥
    empty p h = omega (arith, h)
