-- The threads in a condition's two sets stand once each, and are no more than there are.
use Rattle.std.proofs.Common.{◌≡◌, ℕ, zero, ◌+◌, ◌<◌, ◌≤◌, ◌==◌, nat_eq, ℤ, pos, true, false, not, ◌||◌, List, [], ◌∷◌, ◌++◌, length, Option, Some, refl, ap, subst, arith, ◌⊎◌, inl, inr}
use Rattle.std.proofs.lemmas.Bool.{cases_Bool, eqb-true, or_parts, not-true}
use Rattle.std.specs.Prelude.{vec_len}
use Rattle.std.specs.Prelude.{Vec}
use Rattle.cx_names.specs.Replies.{int_eq}
use Rattle.cx_names.specs.declared.Reply.{Reply}
use Rattle.cx_names.specs.declared.Reply.TheVariants as replies
use Rattle.cx_machine.specs.declared.kind.Entry.{Entry}
use Rattle.cx_machine.specs.declared.kind.Op.{Op}
use Rattle.cx_machine.specs.declared.kind.Op.TheVariants as ops
use Rattle.cx_machine.specs.Words.{when, has, without, small_of}
use Rattle.cx_machine.specs.Acts.{at_entry}
use Rattle.cx_machine.specs.Meaning.{run, AreBelow, IsOnceEach, bit, times}
use Rattle.cx_machine.specs.Condition.{Condition, step, is_away, entered, moved, all_moved, unblocked, withdrawn}
use Rattle.cx_machine.specs.Now.{first_waiting}
use Rattle.cx_machine.specs.Distinct.{Below, below_push, below_without, few_below, length-push, length-without, times-append, times-without, times_none}
use Rattle.cx_machine.specs.Kept.{kept, made}

-- who waits or was notified
abbrev pub members : Condition → List ℕ
members c = c.waiting ++ c.notified

-- a notification of one names the thread that entered first
abbrev pub Picks : Condition → Op → Reply → Type 0
Picks c ops.NotifyOne r = r ≡ first_waiting c.waiting
Picks c _ r = Unit {0}

-- the change, where there is one, brings no more members than there is room for
abbrev pub HasRoom : ℕ → Condition → Option Condition → Type 0
HasRoom room c next = (after : Condition) → next ≡ Some after → length (members after) ≤ length (members c) + room

pub length-both : (ms ns : List ℕ) → length (ms ++ ns) ≡ length ms + length ns
length-both [] ns = omega arith
length-both (m ∷ ms) ns = let rest = length-both ms ns in omega (arith, rest)

pub times_some : (n : ℕ) (ms : List ℕ) → has ms n ≡ true → 1 ≤ times n ms
times_some n [] h = cc h
times_some n (m ∷ ms) h = by_cases (cases_Bool (m == n)) (λ r. times_some n ms r)
  where
    by_cases : ((m == n) ≡ true) ⊎ ((m == n) ≡ false) → (has ms n ≡ true → 1 ≤ times n ms) → 1 ≤ bit (nat_eq m n) + times n ms
    by_cases (inl e) rest = rw e (omega arith)
    by_cases (inr e) rest = let h' : has ms n ≡ true = rw e at h in let r = rest h' in omega (arith, r)

pub times_gone : (n : ℕ) (ms : List ℕ) → times n (without ms n) ≡ 0
times_gone n [] = refl
times_gone n (m ∷ ms) = by_cases (cases_Bool (m == n)) (times_gone n ms)
  where
    by_cases : ((m == n) ≡ true) ⊎ ((m == n) ≡ false) → times n (without ms n) ≡ 0 → times n (without (m ∷ ms) n) ≡ 0
    by_cases (inl e) rest = rw e rest
    by_cases (inr e) rest = rw (e, e, rest) refl

-- a list is shorter by one without a number that stands in it once
pub length_out : (ms ns : List ℕ) (n : ℕ) → IsOnceEach (ms ++ ns) → has ms n ≡ true → length (without ms n) + 1 ≡ length ms
length_out ms ns n once h =
    let l = length-without ms n in
    let s = times_some n ms h in
    let o = once n in
    let t = times-append n ms ns in
    omega (arith, l, s, o, t)

pub once_turned : (ms ns : List ℕ) → IsOnceEach (ms ++ ns) → IsOnceEach (ns ++ ms)
once_turned ms ns once k =
    let a = times-append k ms ns in
    let b = times-append k ns ms in
    let o = once k in
    omega (arith, a, b, o)

pub once_entered : (ms ns : List ℕ) (n : ℕ) → IsOnceEach (ms ++ ns) → not (has ms n || has ns n) ≡ true → IsOnceEach ((ms ++ n ∷ []) ++ ns)
once_entered ms ns n once away k = by_cases (cases_Bool (nat_eq n k))
  where
    lacks : (has ms n ≡ false) × (has ns n ≡ false)
    lacks = or_parts (has ms n) (has ns n) (not-true _ away)

    by_cases : (nat_eq n k ≡ true) ⊎ (nat_eq n k ≡ false) → times k ((ms ++ n ∷ []) ++ ns) ≤ 1
    by_cases (inl e) =
        let same : n ≡ k = eqb-true n k e in
        let one : times k ms ≡ 0 = subst (λ (x : ℕ). times x ms ≡ 0) same (times_none n ms lacks.0) in
        let two : times k ns ≡ 0 = subst (λ (x : ℕ). times x ns ≡ 0) same (times_none n ns lacks.1) in
        let a = times-append k (ms ++ n ∷ []) ns in
        let b = times-append k ms (n ∷ []) in
        rw (a, b, one, two, e) (omega arith)
    by_cases (inr e) =
        let a = times-append k (ms ++ n ∷ []) ns in
        let b = times-append k ms (n ∷ []) in
        let c = times-append k ms ns in
        let o = once k in
        rw (a, b, e) (omega (arith, c, o))

pub once_moved : (ms ns : List ℕ) (n : ℕ) → IsOnceEach (ms ++ ns) → has ms n ≡ true → IsOnceEach (without ms n ++ (ns ++ n ∷ []))
once_moved ms ns n once h k = by_cases (cases_Bool (nat_eq n k))
  where
    by_cases : (nat_eq n k ≡ true) ⊎ (nat_eq n k ≡ false) → times k (without ms n ++ (ns ++ n ∷ [])) ≤ 1
    by_cases (inl e) =
        let same : n ≡ k = eqb-true n k e in
        let s : 1 ≤ times k ms = subst (λ (x : ℕ). 1 ≤ times x ms) same (times_some n ms h) in
        let g : times k (without ms n) ≡ 0 = subst (λ (x : ℕ). times x (without ms n) ≡ 0) same (times_gone n ms) in
        let a = times-append k (without ms n) (ns ++ n ∷ []) in
        let b = times-append k ns (n ∷ []) in
        let c = times-append k ms ns in
        let o = once k in
        rw (a, b, g, e) (omega (arith, s, c, o))
    by_cases (inr e) =
        let l = times-without k n ms in
        let a = times-append k (without ms n) (ns ++ n ∷ []) in
        let b = times-append k ns (n ∷ []) in
        let c = times-append k ms ns in
        let o = once k in
        rw (a, b, e) (omega (arith, l, c, o))

pub once_withdrawn : (ms ns : List ℕ) (n : ℕ) → IsOnceEach (ms ++ ns) → IsOnceEach (without ms n ++ ns)
once_withdrawn ms ns n once k =
    let l = times-without k n ms in
    let a = times-append k (without ms n) ns in
    let c = times-append k ms ns in
    let o = once k in
    omega (arith, l, a, c, o)

pub once_unblocked : (ms ns : List ℕ) (n : ℕ) → IsOnceEach (ms ++ ns) → IsOnceEach (ms ++ without ns n)
once_unblocked ms ns n once =
    once_turned (without ns n) ms (once_withdrawn ns ms n (once_turned ms ns once))

pub below_both : (seats : ℕ) (ms ns : List ℕ) → Below seats ms → Below seats ns → Below seats (ms ++ ns)
below_both seats [] ns g h = h
below_both seats (m ∷ ms) ns g h = (g.0, below_both seats ms ns g.1 h)

pub below_one : (seats : ℕ) (ms : List ℕ) (n : ℕ) → Below seats ms → has ms n ≡ true → n < seats
below_one seats [] n g h = cc h
below_one seats (m ∷ ms) n g h = by_cases (cases_Bool (m == n)) (λ r. below_one seats ms n g.1 r)
  where
    by_cases : ((m == n) ≡ true) ⊎ ((m == n) ≡ false) → (has ms n ≡ true → n < seats) → n < seats
    by_cases (inl e) rest = let same : m ≡ n = eqb-true m n e in subst (λ (x : ℕ). x < seats) same g.0
    by_cases (inr e) rest = let h' : has ms n ≡ true = rw e at h in rest h'

pub record Good (seats : ℕ) (c : Condition) : Type 0 where
  pub once : IsOnceEach (members c)
  pub waits : Below seats c.waiting
  pub told : Below seats c.notified

pub stepped : (seats : ℕ) (c c' : Condition) (by : ℕ) (op : Op) (a : Option ℕ) (b : ℤ) (r : Reply) → Good seats c → by < seats → step c by op a b r ≡ Some c' → Good seats c'
stepped seats c c' by ops.Enter (Some zero) (pos zero) replies.Ok g lt e = made (Good seats) (is_away c by) (entered c by) c' (λ away. record { once = once_entered c.waiting c.notified by g.once away; waits = below_push seats c.waiting by g.waits lt; told = g.told }) e
stepped seats c c' by ops.NotifyOne (Some zero) (pos zero) (replies.Thread t) g lt e = made (Good seats) (has c.waiting t.0) (moved c t.0) c' (λ h. record { once = once_moved c.waiting c.notified t.0 g.once h; waits = below_without seats c.waiting t.0 g.waits; told = below_push seats c.notified t.0 g.told (below_one seats c.waiting t.0 g.waits h) }) e
stepped seats c c' by ops.NotifyOne (Some zero) (pos zero) replies.Nobody g lt e = made (Good seats) (length c.waiting == 0) c c' (λ _. g) e
stepped seats c c' by ops.NotifyAll (Some zero) (pos zero) (replies.Number k) g lt e = made (Good seats) (int_eq k (pos (length c.waiting))) (all_moved c) c' (λ _. record { once = once_turned c.waiting c.notified g.once; waits = tt; told = below_both seats c.notified c.waiting g.told g.waits }) e
stepped seats c c' by ops.Unblock (Some zero) (pos zero) replies.Ok g lt e = made (Good seats) (has c.notified by) (unblocked c by) c' (λ _. record { once = once_unblocked c.waiting c.notified by g.once; waits = g.waits; told = below_without seats c.notified by g.told }) e
stepped seats c c' by ops.Withdraw (Some zero) (pos zero) replies.Ok g lt e = made (Good seats) (has c.waiting by) (withdrawn c by) c' (λ _. record { once = once_withdrawn c.waiting c.notified by g.once; waits = below_without seats c.waiting by g.waits; told = g.told }) e
stepped seats c c' by _ _ _ _ g lt e = cc e

-- who has no member has nobody in either set
pub no_members : (seats : ℕ) (ms ns : List ℕ) → ms ++ ns ≡ [] → IsOnceEach (ms ++ ns) × (Below seats ms × Below seats ns)
no_members seats [] [] none = ((λ k. omega arith), (tt, tt))
no_members seats [] (n ∷ ns) none = cc none
no_members seats (m ∷ ms) ns none = cc none

pub condition_most_holds : (c c' : Condition) (seats : ℕ) (es : List Entry) → members c ≡ [] → AreBelow seats es → run (at_entry step) (Some c) es ≡ Some c' → length (members c') ≤ seats
condition_most_holds c c' seats es none below e =
    let n = no_members seats c.waiting c.notified none in
    let start : Good seats c = record { once = n.0; waits = n.1.0; told = n.1.1 } in
    let g = kept (at_entry step) (Good seats) seats (λ m m' x h lt is. stepped seats m m' x.by.0 x.op (small_of x.a) x.b x.reply h lt is) es c c' start below e in
    few_below seats (members c') g.once (below_both seats c'.waiting c'.notified g.waits g.told)

-- a thread that may enter finds room
pub room_to_enter : (c : Condition) (by room : ℕ) → is_away c by ≡ true → HasRoom room c (when (is_away c by) (entered c by)) → 0 < room
room_to_enter c by room away h =
    let h' : HasRoom room c (Some (entered c by)) = rw away at h in
    let le = h' (entered c by) refl in
    let a = length-both (c.waiting ++ by ∷ []) c.notified in
    let b = length-both c.waiting c.notified in
    let p = length-push c.waiting by in
    omega (arith, le, a, b, p)

-- a vector is shorter by one without a number that stands in it once
pub shorter : {Z : Type 0} (v w : Vec ℕ Z) (ns : List ℕ) (n : ℕ) → IsOnceEach (v.items ++ ns) → has v.items n ≡ true → w.items ≡ without v.items n → vec_len w + 1 ≡ vec_len v
shorter v w ns n once h is =
    let a = v.ok.0 in
    let b = w.ok.0 in
    let l = length_out v.items ns n once h in
    let c : length w.items ≡ length (without v.items n) = ap (λ (xs : List ℕ). length xs) is in
    omega (arith, a, b, l, c)
