-- The slots of changes, one change after the other.
use Rattle.std.proofs.Common.{◌≡◌, ℕ, zero, suc, ◌+◌, ◌<◌, ◌≤◌, ◌==◌, Bool, true, false, List, [], ◌∷◌, ◌++◌, length, map, drop, take, filter, cond, slice_get, slice_set, get_or, Option, Some, None, option_map, if◌then◌else◌, refl, sym, ap, ◌∙◌, subst, arith, append_assoc, append-nil, add-one, eqb-true, eq-eqb, length-append}
use Rattle.std.proofs.lemmas.Bool.{eqb-false}
use Rattle.std.proofs.lemmas.Option.{slice_get-get_or, slice_get_within}
use Rattle.std.proofs.lemmas.List.Elements.{filter_more}
use Rattle.std.proofs.lemmas.Option.{get_or_from_slice_get, slice_get_past}
use Rattle.cx_history.specs.Histories.{Placed, in_order, is_at}
use Rattle.cx_history.specs.Flaw.{gap_from, bad_step_from}
use Rattle.cx_machine.specs.Machine.{State, step}
use Rattle.cx_machine.specs.Words.{Applies}
use Rattle.cx_checker.specs.declared.placing.Slot.{Slot}
use Rattle.cx_checker.specs.declared.placing.Slot.TheVariants as slots
use Rattle.cx_checker.specs.Placing.{IsHeld, IsPlacing, IsOnly, with_one, put_slot, is_from, sooner, or_change}
use Rattle.cx_checker.proofs.Gathering.{drop_at, drop_past, get_set_same, get_set_other}
use Rattle.cx_checker.proofs.Levels.{rest, one_level, gap_step, gap_here, gap_there, rest_none, rest_all, left_at_start, first_more, first_same}

filter_next : (k i : ℕ) (cs : List Placed) (c : Placed) → slice_get cs i ≡ Some c → filter (is_at k) (take (i + 1) cs) ≡ filter (is_at k) (take i cs) ++ cond (is_at k c) (c ∷ []) []
filter_next k i cs c h =
    let low = slice_get_within cs i c h in
    let there : get_or cs i c ≡ c = get_or_from_slice_get cs i c c h in
    filter_more (is_at k) cs i c low ∙ ap (λ (d : Placed). filter (is_at k) (take i cs) ++ cond (is_at k d) (d ∷ []) []) there

pub held_more : (cs : List Placed) (i k : ℕ) (c : Placed) (slot : Slot) → slice_get cs i ≡ Some c → is_at k c ≡ true → IsHeld cs slot (filter (is_at k) (take i cs)) → IsHeld cs (with_one slot i) (filter (is_at k) (take (i + 1) cs))
held_more cs i k c slot at_ here held = subst (IsHeld cs (with_one slot i)) (sym next) (go slot held)
  where
    xs : List Placed
    xs = filter (is_at k) (take i cs)

    next : filter (is_at k) (take (i + 1) cs) ≡ filter (is_at k) (take i cs) ++ c ∷ []
    next = filter_next k i cs c at_ ∙ ap (λ b. filter (is_at k) (take i cs) ++ cond b (c ∷ []) []) here

    longer : (ys : List Placed) → length (ys ++ c ∷ []) ≡ length ys + 1
    longer ys = length-append ys (c ∷ [])

    go : (slot : Slot) → IsHeld cs slot (filter (is_at k) (take i cs)) → IsHeld cs (with_one slot i) (filter (is_at k) (take i cs) ++ c ∷ [])
    go slots.Free none = (slice_get_within cs i c at_, λ d e. let same : c ≡ d = cc in ap (λ ys. ys ++ c ∷ []) none ∙ ap (λ (x : Placed). x ∷ []) same)
    go (slots.Once j) one =
        let was = one.1 (get_or cs j c) (slice_get-get_or cs j c one.0) in
        let was_one : length (filter (is_at k) (take i cs)) ≡ 1 = ap length was in
        omega (arith, longer (filter (is_at k) (take i cs)), was_one)
    go slots.Twice two = omega (arith, longer (filter (is_at k) (take i cs)), two)

pub held_same : (cs : List Placed) (i k : ℕ) (c : Placed) (slot : Slot) → slice_get cs i ≡ Some c → is_at k c ≡ false → IsHeld cs slot (filter (is_at k) (take i cs)) → IsHeld cs slot (filter (is_at k) (take (i + 1) cs))
held_same cs i k c slot at_ away held =
    let next : filter (is_at k) (take (i + 1) cs) ≡ filter (is_at k) (take i cs) = filter_next k i cs c at_ ∙ (ap (λ b. filter (is_at k) (take i cs) ++ cond b (c ∷ []) []) away ∙ append-nil (filter (is_at k) (take i cs))) in
    subst (IsHeld cs slot) (sym next) held

not_same : (m n : ℕ) → (m ≡ n → ⊥) → (m == n) ≡ false
not_same m n h = go (m == n) refl
  where
    go : (b : Bool) → (m == n) ≡ b → b ≡ false
    go true e = absurd (h (eqb-true m n e))
    go false e = refl

-- a change that has a slot
pub slot_set : (cs : List Placed) (i : ℕ) (c : Placed) (placed : List Slot) (old : Slot) → slice_get cs i ≡ Some c → slice_get placed c.position ≡ Some old → ((k : ℕ) (slot : Slot) → slice_get placed k ≡ Some slot → IsHeld cs slot (filter (is_at k) (take i cs))) → (k : ℕ) (slot : Slot) → slice_get (slice_set placed c.position (with_one old i)) k ≡ Some slot → IsHeld cs slot (filter (is_at k) (take (i + 1) cs))
slot_set cs i c placed old at_ was each k slot got = go (c.position == k) refl
  where
    go : (b : Bool) → (c.position == k) ≡ b → IsHeld cs slot (filter (is_at k) (take (i + 1) cs))
    go true e =
        let same : c.position ≡ k = eqb-true c.position k e in
        let set_ : slice_get (slice_set placed c.position (with_one old i)) k ≡ Some (with_one old i) = subst (λ (n : ℕ). slice_get (slice_set placed c.position (with_one old i)) n ≡ Some (with_one old i)) same (get_set_same placed c.position (with_one old i) (slice_get_within placed c.position old was)) in
        let is : with_one old i ≡ slot = cc in
        let was_k : slice_get placed k ≡ Some old = subst (λ (n : ℕ). slice_get placed n ≡ Some old) same was in
        subst (λ (s : Slot). IsHeld cs s (filter (is_at k) (take (i + 1) cs))) is (held_more cs i k c old at_ e (each k old was_k))
    go false e =
        let was_k : slice_get placed k ≡ Some slot = sym (get_set_other placed c.position k (with_one old i) (eqb-false c.position k e)) ∙ got in
        held_same cs i k c slot at_ e (each k slot was_k)

-- a change that has none
pub slot_none : (cs : List Placed) (i : ℕ) (c : Placed) (placed : List Slot) → slice_get cs i ≡ Some c → length placed ≤ c.position → ((k : ℕ) (slot : Slot) → slice_get placed k ≡ Some slot → IsHeld cs slot (filter (is_at k) (take i cs))) → (k : ℕ) (slot : Slot) → slice_get placed k ≡ Some slot → IsHeld cs slot (filter (is_at k) (take (i + 1) cs))
slot_none cs i c placed at_ past each k slot got =
    let low = slice_get_within placed k slot got in
    held_same cs i k c slot at_ (not_same c.position k (λ e. omega arith)) (each k slot got)

pub slots_begin : (cs : List Placed) (placed : List Slot) → ((k : ℕ) (slot : Slot) → slice_get placed k ≡ Some slot → slot ≡ slots.Free) → (k : ℕ) (slot : Slot) → slice_get placed k ≡ Some slot → IsHeld cs slot (filter (is_at k) (take 0 cs))
slots_begin cs placed free k slot got = subst (λ (s : Slot). IsHeld cs s (filter (is_at k) (take 0 cs))) (sym (free k slot got)) refl

take_all : {X : Type 0} (xs : List X) (i : ℕ) → length xs ≤ i → take i xs ≡ xs
take_all [] zero h = refl
take_all [] (suc i) h = refl
take_all (x ∷ xs) zero h = absurd (omega arith)
take_all (x ∷ xs) (suc i) h = ap (λ ys. x ∷ ys) (take_all xs i (omega arith))

pub slots_end : (cs : List Placed) (i : ℕ) (placed : List Slot) → length cs ≤ i → length placed ≡ length cs → ((k : ℕ) (slot : Slot) → slice_get placed k ≡ Some slot → IsHeld cs slot (filter (is_at k) (take i cs))) → IsPlacing cs placed
slots_end cs i placed past count each = record {
  count = count;
  each = λ k slot got. subst (λ (ds : List Placed). IsHeld cs slot (filter (is_at k) ds)) (take_all cs i past) (each k slot got);
}

pub free_more : (placed : List Slot) → ((k : ℕ) (slot : Slot) → slice_get placed k ≡ Some slot → slot ≡ slots.Free) → (k : ℕ) (slot : Slot) → slice_get (placed ++ slots.Free ∷ []) k ≡ Some slot → slot ≡ slots.Free
free_more [] all zero slot got = cc
free_more [] all (suc k) slot got = cc
free_more (s ∷ ss) all zero slot got = all zero slot got
free_more (s ∷ ss) all (suc k) slot got = free_more ss (λ j t h. all (suc j) t h) k slot got

-- ---- what a slot tells

pub tells_once : (cs : List Placed) (placed : List Slot) (k j : ℕ) (c : Placed) → IsPlacing cs placed → slice_get placed k ≡ Some (slots.Once j) → slice_get cs j ≡ Some c → filter (is_at k) cs ≡ c ∷ []
tells_once cs placed k j c all got at_ = (all.each k (slots.Once j) got).1 c at_

pub once_there : (cs : List Placed) (placed : List Slot) (k j : ℕ) → IsPlacing cs placed → slice_get placed k ≡ Some (slots.Once j) → slice_get cs j ≡ None → ⊥
once_there cs placed k j all got none = past cs j (all.each k (slots.Once j) got).0 none
  where
    past : (ds : List Placed) (n : ℕ) → n < length ds → slice_get ds n ≡ None → ⊥
    past [] n h e = omega arith
    past (d ∷ ds) zero h e = cc
    past (d ∷ ds) (suc n) h e = past ds n (omega arith) e

pub tells_free : (cs : List Placed) (placed : List Slot) (k : ℕ) → IsPlacing cs placed → slice_get placed k ≡ Some slots.Free → length (filter (is_at k) cs) ≡ 1 → ⊥
tells_free cs placed k all got one =
    let none : length (filter (is_at k) cs) ≡ 0 = ap length (all.each k slots.Free got) in
    omega (arith, none, one)

pub tells_twice : (cs : List Placed) (placed : List Slot) (k : ℕ) → IsPlacing cs placed → slice_get placed k ≡ Some slots.Twice → length (filter (is_at k) cs) ≡ 1 → ⊥
tells_twice cs placed k all got one = let two : 1 < length (filter (is_at k) cs) = all.each k slots.Twice got in omega (arith, two, one)

-- ---- the second holder

pub second_step : (k i : ℕ) (cs : List Placed) (c : Placed) (has : Bool) → slice_get cs i ≡ Some c → is_at k c ≡ true → slice_get (filter (is_at k) cs) 1 ≡ slice_get (filter (is_at k) (drop i cs)) (if has then 0 else 1) → (has ≡ true → Some c ≡ slice_get (filter (is_at k) cs) 1) × (has ≡ false → slice_get (filter (is_at k) cs) 1 ≡ slice_get (filter (is_at k) (drop (i + 1) cs)) 0)
second_step k i cs c has at_ here so_far =
    let next : filter (is_at k) (drop i cs) ≡ c ∷ filter (is_at k) (drop (i + 1) cs) = ap (filter (is_at k)) (drop_at cs i c at_) ∙ ap (λ b. cond b (c ∷ filter (is_at k) (drop (i + 1) cs)) (filter (is_at k) (drop (i + 1) cs))) here in (
      λ yes_. sym (so_far ∙ (ap (λ b. slice_get (filter (is_at k) (drop i cs)) (if b then 0 else 1)) yes_ ∙ ap (λ xs. slice_get xs 0) next)),
      λ no_. so_far ∙ (ap (λ b. slice_get (filter (is_at k) (drop i cs)) (if b then 0 else 1)) no_ ∙ ap (λ xs. slice_get xs 1) next),
    )

pub second_same : (k i n : ℕ) (cs : List Placed) (c : Placed) → slice_get cs i ≡ Some c → is_at k c ≡ false → slice_get (filter (is_at k) cs) 1 ≡ slice_get (filter (is_at k) (drop i cs)) n → slice_get (filter (is_at k) cs) 1 ≡ slice_get (filter (is_at k) (drop (i + 1) cs)) n
second_same k i n cs c at_ away so_far =
    let next : filter (is_at k) (drop i cs) ≡ filter (is_at k) (drop (i + 1) cs) = ap (filter (is_at k)) (drop_at cs i c at_) ∙ ap (λ b. cond b (c ∷ filter (is_at k) (drop (i + 1) cs)) (filter (is_at k) (drop (i + 1) cs))) away in
    so_far ∙ ap (λ xs. slice_get xs n) next

pub second_none : (k i n : ℕ) (cs : List Placed) → length cs ≤ i → slice_get (filter (is_at k) cs) 1 ≡ slice_get (filter (is_at k) (drop i cs)) n → slice_get (filter (is_at k) cs) 1 ≡ None
second_none k i n cs past so_far = so_far ∙ ap (λ xs. slice_get (filter (is_at k) xs) n) (drop_past cs i past)

-- ---- steps of the machine

step_taken : (state next : State) (c : Placed) (cs : List Placed) → step state c.entry ≡ Some next → bad_step_from state (c ∷ cs) ≡ bad_step_from next cs
step_taken state next c cs h = go (step state c.entry) h
  where
    go : (o : Option State) → o ≡ Some next → (let w : Option Placed = elim o [ None ↦ Some c | Some t ↦ bad_step_from t cs ] in w ≡ bad_step_from next cs)
    go None e = cc
    go (Some t) e = let same : t ≡ next = cc in ap (λ u. bad_step_from u cs) same

step_refused : (state : State) (c : Placed) (cs : List Placed) → step state c.entry ≡ None → bad_step_from state (c ∷ cs) ≡ Some c
step_refused state c cs h = go (step state c.entry) h
  where
    go : (o : Option State) → o ≡ None → (let w : Option Placed = elim o [ None ↦ Some c | Some t ↦ bad_step_from t cs ] in w ≡ Some c)
    go None e = refl
    go (Some t) e = cc

pub walk_on : (k : ℕ) (cs : List Placed) (c : Placed) (state next : State) (made : Bool) (from : Option Placed) → filter (is_at k) cs ≡ c ∷ [] → Applies made (step state c.entry) state next → made ≡ true → from ≡ bad_step_from state (rest k cs) → from ≡ bad_step_from next (rest (k + 1) cs)
walk_on k cs c state next made from one applies is_made so_far =
    let did = subst (λ (b : Bool). Applies b (step state c.entry) state next) is_made applies in
    so_far ∙ (ap (bad_step_from state) (one_level k cs c one) ∙ step_taken state next c (rest (k + 1) cs) did)

pub walk_ends : (k : ℕ) (cs : List Placed) (c : Placed) (state next : State) (made : Bool) (from : Option Placed) → filter (is_at k) cs ≡ c ∷ [] → Applies made (step state c.entry) state next → made ≡ false → from ≡ bad_step_from state (rest k cs) → Some c ≡ from
walk_ends k cs c state next made from one applies not_made so_far =
    let did = subst (λ (b : Bool). Applies b (step state c.entry) state next) not_made applies in
    sym (so_far ∙ (ap (bad_step_from state) (one_level k cs c one) ∙ step_refused state c (rest (k + 1) cs) did.0))

pub left_less : (k n : ℕ) (cs : List Placed) (c : Placed) → filter (is_at k) cs ≡ c ∷ [] → k + length (rest k cs) ≡ n → (k + 1) + length (rest (k + 1) cs) ≡ n
left_less k n cs c one left = omega (arith, left, (gap_step k cs c one).1)

-- a change is put into its slot
pub slot_put : (cs : List Placed) (i : ℕ) (c : Placed) (placed : List Slot) → slice_get cs i ≡ Some c → ((k : ℕ) (slot : Slot) → slice_get placed k ≡ Some slot → IsHeld cs slot (filter (is_at k) (take i cs))) → (k : ℕ) (slot : Slot) → slice_get (put_slot placed c.position i) k ≡ Some slot → IsHeld cs slot (filter (is_at k) (take (i + 1) cs))
slot_put cs i c placed at_ each k slot = go (slice_get placed c.position) refl
  where
    past : (ss : List Slot) (n : ℕ) → slice_get ss n ≡ None → length ss ≤ n
    past [] n h = omega arith
    past (s ∷ ss) zero h = cc
    past (s ∷ ss) (suc n) h = omega (arith, past ss n h)

    go : (o : Option Slot) → slice_get placed c.position ≡ o → (let w : List Slot = elim o [ None ↦ placed | Some old ↦ slice_set placed c.position (with_one old i) ] in slice_get w k ≡ Some slot → IsHeld cs slot (filter (is_at k) (take (i + 1) cs)))
    go None e got = slot_none cs i c placed at_ (past placed c.position e) each k slot got
    go (Some old) e got = slot_set cs i c placed old at_ e each k slot got

pub length_put_slot : (placed : List Slot) (p i : ℕ) → length (put_slot placed p i) ≡ length placed
length_put_slot placed p i = go (slice_get placed p)
  where
    long : (ss : List Slot) (n : ℕ) (s : Slot) → length (slice_set ss n s) ≡ length ss
    long [] n s = refl
    long (t ∷ ts) zero s = refl
    long (t ∷ ts) (suc n) s = ap suc (long ts n s)

    go : (o : Option Slot) → (let w : List Slot = elim o [ None ↦ placed | Some old ↦ slice_set placed p (with_one old i) ] in length w ≡ length placed)
    go None = refl
    go (Some old) = long placed p (with_one old i)

pub set_is_put : (placed : List Slot) (p i : ℕ) (old new : Slot) → slice_get placed p ≡ Some old → new ≡ with_one old i → slice_set placed p new ≡ put_slot placed p i
set_is_put placed p i old new was is = ap (slice_set placed p) is ∙ go (slice_get placed p) was
  where
    go : (o : Option Slot) → o ≡ Some old → (let w : List Slot = elim o [ None ↦ placed | Some s ↦ slice_set placed p (with_one s i) ] in slice_set placed p (with_one old i) ≡ w)
    go None e = cc
    go (Some s) e = let same : s ≡ old = cc in ap (λ t. slice_set placed p (with_one t i)) (sym same)

pub past_is_put : (placed : List Slot) (p i : ℕ) → length placed ≤ p → placed ≡ put_slot placed p i
past_is_put placed p i past = go (slice_get placed p) (slice_get_past placed p past)
  where
    go : (o : Option Slot) → o ≡ None → (let w : List Slot = elim o [ None ↦ placed | Some s ↦ slice_set placed p (with_one s i) ] in placed ≡ w)
    go None e = refl
    go (Some s) e = cc

pub is_only : (cs : List Placed) (placed : List Slot) (k j : ℕ) (o : Option Placed) → IsPlacing cs placed → slice_get placed k ≡ Some (slots.Once j) → o ≡ slice_get cs j → IsOnly o (filter (is_at k) cs)
is_only cs placed k j None all got is = absurd (once_there cs placed k j all got (sym is))
is_only cs placed k j (Some c) all got is = tells_once cs placed k j c all got (sym is)

-- ---- the first from a position on, from the last change to the first

pub first_joins : (k i : ℕ) (cs : List Placed) (c new : Placed) (first : Option Placed) → slice_get cs i ≡ Some c → is_from k c ≡ true → new ≡ sooner c first → first ≡ slice_get (in_order (filter (is_from k) (drop (i + 1) cs))) 0 → Some new ≡ slice_get (in_order (filter (is_from k) (drop i cs))) 0
unfolding rest
first_joins k i cs c new first at_ here is so_far =
    ap (λ d. Some d) (is ∙ ap (sooner c) so_far) ∙ sym (ap (λ ds. slice_get (in_order (filter (is_from k) ds)) 0) (drop_at cs i c at_) ∙ first_more k c (drop (i + 1) cs) here)

pub first_stays : (k i : ℕ) (cs : List Placed) (c : Placed) (first : Option Placed) → slice_get cs i ≡ Some c → is_from k c ≡ false → first ≡ slice_get (in_order (filter (is_from k) (drop (i + 1) cs))) 0 → first ≡ slice_get (in_order (filter (is_from k) (drop i cs))) 0
unfolding rest
first_stays k i cs c first at_ away so_far =
    so_far ∙ sym (ap (λ ds. slice_get (in_order (filter (is_from k) ds)) 0) (drop_at cs i c at_) ∙ first_same k c (drop (i + 1) cs) away)

-- ---- the walk over the positions

pub gap_found : (k n : ℕ) (cs : List Placed) (found : Option Placed) (from : Option Placed) → (length (filter (is_at k) cs) ≡ 1 → ⊥) → k < n → n ≡ length cs → k + length (rest k cs) ≡ length cs → found ≡ or_change (slice_get (filter (is_at k) cs) 1) (slice_get (in_order (filter (is_from (k + 1)) cs)) 0) → from ≡ gap_from k (rest k cs) → found ≡ from
unfolding rest
gap_found k n cs found from not_one low long left is so_far =
    let some : 0 < length (rest k cs) = omega arith in
    is ∙ sym (so_far ∙ gap_here k cs not_one some)

pub no_gap_found : (k n : ℕ) (cs : List Placed) → (length (filter (is_at k) cs) ≡ 1 → ⊥) → k < n → n ≡ length cs → k + length (rest k cs) ≡ length cs → gap_from k (rest k cs) ≡ None → ⊥
no_gap_found k n cs not_one low long left none =
    let some : 0 < length (rest k cs) = omega arith in
    gap_there k cs not_one some none

pub all_walked : (k n : ℕ) (cs : List Placed) → n ≤ k → n ≡ length cs → k + length (rest k cs) ≡ length cs → rest k cs ≡ []
all_walked k n cs past long left = rest_none k cs (omega arith)

pub slots_go_on : (cs : List Placed) (i n : ℕ) (c : Placed) (placed new : List Slot) → slice_get cs i ≡ Some c → n ≡ i → new ≡ put_slot placed c.position n → ((k : ℕ) (slot : Slot) → slice_get placed k ≡ Some slot → IsHeld cs slot (filter (is_at k) (take i cs))) → (k : ℕ) (slot : Slot) → slice_get new k ≡ Some slot → IsHeld cs slot (filter (is_at k) (take (i + 1) cs))
slots_go_on cs i n c placed new at_ same put each k slot got =
    let is : new ≡ put_slot placed c.position i = put ∙ ap (put_slot placed c.position) same in
    slot_put cs i c placed at_ each k slot (subst (λ (ss : List Slot). slice_get ss k ≡ Some slot) is got)

pub long_still : (placed new : List Slot) (p i : ℕ) → new ≡ put_slot placed p i → length new ≡ length placed
long_still placed new p i put = ap length put ∙ length_put_slot placed p i
