-- What the changes of a barrier tell, and that a phase that a thread is to complete stays so while others act.
use Rattle.std.proofs.Common.{◌≡◌, ◌≢◌, ◌∙◌, ℕ, zero, ◌-◌, ◌<◌, ◌≤◌, ◌^◌, ◌&&◌, ◌⊎◌, inl, inr, ℤ, pos, Option, Some, None, IsSome, is_none, Bool, true, false, not, nat_le, nat_lt, ◌==◌, if◌then◌else◌, refl, sym, ap, subst, eq-eqb}
use Rattle.std.proofs.lemmas.Bool.{and_parts, eqb-true, le-leb, lt-ltb}
use Rattle.std.proofs.lemmas.Bool.Decides.{Decides-int_eq}
use Rattle.cx_names.specs.Replies.{int_eq}
use Rattle.cx_names.specs.declared.ThreadNo.{ThreadNo}
use Rattle.cx_names.specs.declared.Reply.{Reply}
use Rattle.cx_names.specs.declared.Reply.TheVariants as replies
use Rattle.cx_machine.specs.declared.kind.Entry.{Entry}
use Rattle.cx_machine.specs.declared.kind.Op.{Op}
use Rattle.cx_machine.specs.declared.kind.Op.TheVariants as ops
use Rattle.cx_machine.specs.Acts.{at_entry, at_look}
use Rattle.cx_machine.specs.Kept.{made}
use Rattle.cx_machine.specs.Meaning.{change, look_of, IsShut, ShowsNone}
use Rattle.cx_machine.specs.Words.{small_of, is_thread, when}
use Rattle.cx_machine.specs.Barrier.{Barrier, can_arrive, arrived, dropped, completed, step, shows}
use Rattle.cx_cell.specs.Seen.{Allows}
use Rattle.cx_barrier.specs.Barriers.{Completes, IsArrival}

-- ---- while a phase is to be completed

arrives_freely : (m : Barrier) (k : ℕ) → can_arrive m k ≡ true → m.completing ≡ None
arrives_freely m k e = none_is m.completing (and_parts (is_none m.completing) (nat_le k m.remaining) e).0
  where
    none_is : (o : Option ℕ) → is_none o ≡ true → o ≡ None
    none_is None c = refl
    none_is (Some t) c = cc c

thread_is : (o : Option ℕ) (by : ℕ) → is_thread o by ≡ true → o ≡ Some by
thread_is None by e = cc e
thread_is (Some t) by e = ap (λ (n : ℕ). Some n) (eqb-true t by e)

can_arrive_in : (m : Barrier) (k : ℕ) (p : ℤ) → (nat_le 1 k && can_arrive m k && int_eq p (pos m.phase)) ≡ true → (can_arrive m k ≡ true) × (p ≡ pos m.phase)
can_arrive_in m k p e = let b = and_parts (nat_le 1 k && can_arrive m k) (int_eq p (pos m.phase)) e in ((and_parts (nat_le 1 k) (can_arrive m k) b.0).1, (Decides-int_eq p (pos m.phase)).0 b.1)

can_drop_in : (m : Barrier) (p : ℤ) → (can_arrive m 1 && int_eq p (pos m.phase)) ≡ true → (can_arrive m 1 ≡ true) × (p ≡ pos m.phase)
can_drop_in m p e = let b = and_parts (can_arrive m 1) (int_eq p (pos m.phase)) e in (b.0, (Decides-int_eq p (pos m.phase)).0 b.1)

can_complete : (m : Barrier) (by : ℕ) → (is_thread m.completing by && nat_lt m.phase (2 ^ 32 - 1)) ≡ true → m.completing ≡ Some by
can_complete m by e = thread_is m.completing by (and_parts (is_thread m.completing by) (nat_lt m.phase (2 ^ 32 - 1)) e).0

held_up : (m : Barrier) (n : ℕ) → m.completing ≡ Some n → m.completing ≡ None → ⊥
held_up m n is e = let z : ◌≡◌ {A = Option ℕ} (Some n) None = sym is ∙ e in cc z

same_thread : (m : Barrier) (by n : ℕ) → by ≢ n → m.completing ≡ Some n → m.completing ≡ Some by → ⊥
same_thread m by n ne is e = ne (let z : ◌≡◌ {A = Option ℕ} (Some by) (Some n) = sym e ∙ is in cc z)

due_step : (n : ℕ) (m m' : Barrier) (by : ℕ) (op : Op) (a : Option ℕ) (v : ℤ) (r : Reply) → by ≢ n → Completes m n → step m by op a v r ≡ Some m' → Completes m' n
due_step n m m' by ops.Arrive (Some k) (pos zero) (replies.Number p) ne is e = made (λ x. Completes x n) (nat_le 1 k && can_arrive m k && int_eq p (pos m.phase)) (arrived m by k) m' (λ c. absurd (held_up m n is (arrives_freely m k (can_arrive_in m k p c).0))) e
due_step n m m' by ops.Drop (Some zero) (pos zero) (replies.Number p) ne is e = made (λ x. Completes x n) (can_arrive m 1 && int_eq p (pos m.phase)) (dropped m by) m' (λ c. absurd (held_up m n is (arrives_freely m 1 (can_drop_in m p c).0))) e
due_step n m m' by ops.Complete (Some zero) (pos zero) replies.Ok ne is e = made (λ x. Completes x n) (is_thread m.completing by && nat_lt m.phase (2 ^ 32 - 1)) (completed m) m' (λ c. absurd (same_thread m by n ne is (can_complete m by c))) e
due_step n m m' by _ _ _ _ ne is e = cc e

pub due_on : (n : ℕ) (m m' : Barrier) (e : Entry) → e.by.0 ≢ n → Completes m n → at_entry step m e ≡ Some m' → Completes m' n
due_on n m m' e ne is on = due_step n m m' e.by.0 e.op (small_of e.a) e.b e.reply ne is on

-- ---- arrivals

-- what an arrival tells: its reply is the phase, which stays, and where it leaves one to be completed, that is so by its thread
pub record IsCounted (now after : Barrier) (by : ℕ) (r : Reply) : Type 0 where
  pub phase : r ≡ replies.Number (pos now.phase)
  pub stays : after.phase ≡ now.phase
  pub due : (after.completing ≡ None) ⊎ (after.completing ≡ Some by)

last_or_not : (b : Bool) (by : ℕ) → ((if b then Some by else None) ≡ None) ⊎ ((if b then Some by else None) ≡ Some by)
last_or_not true by = inr refl
last_or_not false by = inl refl

counted_by : (now after : Barrier) (by : ℕ) (x : Option ℕ) (r : Reply) → step now by ops.Arrive x (pos 0) r ≡ Some after → IsCounted now after by r
counted_by now after by (Some k) (replies.Number p) e = made (λ b. IsCounted now b by (replies.Number p)) (nat_le 1 k && can_arrive now k && int_eq p (pos now.phase)) (arrived now by k) after (λ c. record { phase = ap replies.Number (can_arrive_in now k p c).1; stays = refl; due = last_or_not (now.remaining - k == 0) by }) e
counted_by now after by _ _ e = cc e

dropped_by : (now after : Barrier) (by : ℕ) (r : Reply) → step now by ops.Drop (Some 0) (pos 0) r ≡ Some after → IsCounted now after by r
dropped_by now after by (replies.Number p) e = made (λ b. IsCounted now b by (replies.Number p)) (can_arrive now 1 && int_eq p (pos now.phase)) (dropped now by) after (λ c. record { phase = ap replies.Number (can_drop_in now p c).1; stays = refl; due = last_or_not (now.remaining - 1 == 0) by }) e
dropped_by now after by _ e = cc e

pub counts_so : (now after : Barrier) (by : ThreadNo) (op : Op) (a : ℤ) (r : Reply) → IsArrival op a → at_entry step now (change by op a (pos 0) r) ≡ Some after → IsCounted now after by.0 r
counts_so now after by op a r (inl (is, n)) e = counted_by now after by.0 (small_of a) r (subst (λ (o : Op). step now by.0 o (small_of a) (pos 0) r ≡ Some after) is e)
counts_so now after by op a r (inr (is, zero_)) e = dropped_by now after by.0 r (subst (λ (o : Op × ℤ). step now by.0 o.0 (small_of o.1) (pos 0) r ≡ Some after) (λ i. (is i, zero_ i)) e)

over_by : (now : Barrier) (by : ℕ) (x : Option ℕ) (r : Reply) → shows now by ops.Arrive x (pos 0) r ≡ true → r ≡ replies.OverExpected
over_by now by (Some k) replies.OverExpected e = refl
over_by now by _ _ e = cc e

dropped_over : (now : Barrier) (by : ℕ) (r : Reply) → shows now by ops.Drop (Some 0) (pos 0) r ≡ true → r ≡ replies.OverExpected
dropped_over now by replies.OverExpected e = refl
dropped_over now by _ e = cc e

pub over_so : (now : Barrier) (by : ThreadNo) (op : Op) (a : ℤ) (r : Reply) (k : ℕ) → IsArrival op a → at_look shows now (look_of by op a (pos 0) r k) ≡ true → r ≡ replies.OverExpected
over_so now by op a r k (inl (is, n)) e = over_by now by.0 (small_of a) r (subst (λ (o : Op). shows now by.0 o (small_of a) (pos 0) r ≡ true) is e)
over_so now by op a r k (inr (is, zero_)) e = dropped_over now by.0 r (subst (λ (o : Op × ℤ). shows now by.0 o.0 (small_of o.1) (pos 0) r ≡ true) (λ i. (is i, zero_ i)) e)

small_is : (n : ℤ) (k : ℕ) → n ≡ pos k → k < 2 ^ 32 → small_of n ≡ Some k
small_is n k e low = ap small_of e ∙ ap (λ (b : Bool). if b then Some k else None) (lt-ltb k (2 ^ 32) low)

-- an arrival is expected, or it isn't
allowed_so : {A : Type 0} (b c : Bool) (x : A) → c ≡ true → ◌≡◌ {A = Option A} (when (b && c) x) None → not b ≡ false → ⊥
allowed_so true true x c e f = cc e
allowed_so true false x c e f = cc c
allowed_so false c x is e f = cc f

arrives_at : (m : Barrier) (by n : ℕ) → 1 ≤ n → step m by ops.Arrive (Some n) (pos 0) (replies.Number (pos m.phase)) ≡ None → not (can_arrive m n) ≡ false → ⊥
arrives_at m by n some shut dark =
    let s : ◌≡◌ {A = Option Barrier} (when (can_arrive m n && int_eq (pos m.phase) (pos m.phase)) (arrived m by n)) None = subst (λ (b : Bool). ◌≡◌ {A = Option Barrier} (when (b && can_arrive m n && int_eq (pos m.phase) (pos m.phase)) (arrived m by n)) None) (le-leb 1 n some) shut in
    allowed_so (can_arrive m n) (int_eq (pos m.phase) (pos m.phase)) (arrived m by n) ((Decides-int_eq (pos m.phase) (pos m.phase)).1 refl) s dark

pub arrives_or_not : (m : Barrier) (by : ThreadNo) (op : Op) (a : ℤ) → IsArrival op a → IsShut (at_entry step) m by op a (pos 0) → ShowsNone (at_look shows) m by op a (pos 0) → ⊥
arrives_or_not m by op a (inl (is, (n, is_n, some, low))) shut dark =
    let s : step m by.0 ops.Arrive (Some n) (pos 0) (replies.Number (pos m.phase)) ≡ None = subst (λ (o : Op × Option ℕ). step m by.0 o.0 o.1 (pos 0) (replies.Number (pos m.phase)) ≡ None) (λ i. (is i, small_is a n is_n low i)) (shut (replies.Number (pos m.phase))) in
    let d : shows m by.0 ops.Arrive (Some n) (pos 0) replies.OverExpected ≡ false = subst (λ (o : Op × Option ℕ). shows m by.0 o.0 o.1 (pos 0) replies.OverExpected ≡ false) (λ i. (is i, small_is a n is_n low i)) (dark replies.OverExpected 0) in
    arrives_at m by.0 n some s d
arrives_or_not m by op a (inr (is, zero_)) shut dark =
    let s : step m by.0 ops.Drop (Some 0) (pos 0) (replies.Number (pos m.phase)) ≡ None = subst (λ (o : Op × ℤ). step m by.0 o.0 (small_of o.1) (pos 0) (replies.Number (pos m.phase)) ≡ None) (λ i. (is i, zero_ i)) (shut (replies.Number (pos m.phase))) in
    let d : shows m by.0 ops.Drop (Some 0) (pos 0) replies.OverExpected ≡ false = subst (λ (o : Op × ℤ). shows m by.0 o.0 (small_of o.1) (pos 0) replies.OverExpected ≡ false) (λ i. (is i, zero_ i)) (dark replies.OverExpected 0) in
    allowed_so (can_arrive m 1) (int_eq (pos m.phase) (pos m.phase)) (dropped m by.0) ((Decides-int_eq (pos m.phase) (pos m.phase)).1 refl) s d

-- ---- the completion of a phase

pub completes_so : (now after : Barrier) (by : ThreadNo) (r : Reply) → at_entry step now (change by ops.Complete (pos 0) (pos 0) r) ≡ Some after → (r ≡ replies.Ok) × (after.completing ≡ None)
completes_so now after by replies.Ok e = (refl, made (λ b. b.completing ≡ None) (is_thread now.completing by.0 && nat_lt now.phase (2 ^ 32 - 1)) (completed now) after (λ c. refl) e)
completes_so now after by _ e = cc e

allowed : {A : Type 0} (b c : Bool) (x : A) → b ≡ true → c ≡ true → ◌≡◌ {A = Option A} (when (b && c) x) None → ⊥
allowed true true x b c e = cc e
allowed true false x b c e = cc c
allowed false c x b d e = cc b

pub completes_or_not : (m : Barrier) (by : ThreadNo) → Completes m by.0 → m.phase < 2 ^ 32 - 1 → IsShut (at_entry step) m by ops.Complete (pos 0) (pos 0) → ⊥
completes_or_not m by is low shut = allowed (is_thread m.completing by.0) (nat_lt m.phase (2 ^ 32 - 1)) (completed m) (ap (λ (o : Option ℕ). is_thread o by.0) is ∙ eq-eqb by.0 by.0 refl) (lt-ltb m.phase (2 ^ 32 - 1) low) (shut replies.Ok)

some_of : {A : Type 0} (o : Option A) → IsSome o → (x : A) × (o ≡ Some x)
some_of (Some x) is = (x, refl)
some_of None is = cc is

may_complete : (m : Barrier) (by : ThreadNo) (r : Reply) (after : Barrier) → at_entry step m (change by ops.Complete (pos 0) (pos 0) r) ≡ Some after → m.completing ≡ Some by.0
may_complete m by replies.Ok after e = made (λ b. m.completing ≡ Some by.0) (is_thread m.completing by.0 && nat_lt m.phase (2 ^ 32 - 1)) (completed m) after (can_complete m by.0) e
may_complete m by _ after e = cc e

-- where another thread isn't to complete the phase, this one is exactly where it may
pub due_told : (m : Barrier) (by : ThreadNo) (told : Bool) → m.phase < 2 ^ 32 - 1 → (m.completing ≡ None) ⊎ (m.completing ≡ Some by.0) → Allows (at_entry step) by ops.Complete told m → (told ≡ true → m.completing ≡ Some by.0) × (told ≡ false → m.completing ≡ None)
due_told m by true low due (r, is) = let t = some_of (at_entry step m (change by ops.Complete (pos 0) (pos 0) r)) is in (λ e. may_complete m by r t.0 t.1, λ e. cc e)
due_told m by false low (inl none) shut = (λ e. cc e, λ e. none)
due_told m by false low (inr some) shut = absurd (completes_or_not m by some low shut)

-- ---- waiting

pub waits_so : (now : Barrier) (by : ThreadNo) (a : ℤ) (r : Reply) (k : ℕ) → at_look shows now (look_of by ops.Wait a (pos 0) r k) ≡ true → r ≡ replies.Ok
waits_so now by a r k e = waited now by.0 (small_of a) r e
  where
    waited : (now : Barrier) (by : ℕ) (x : Option ℕ) (r : Reply) → shows now by ops.Wait x (pos 0) r ≡ true → r ≡ replies.Ok
    waited now by (Some p) replies.Ok e = refl
    waited now by _ _ e = cc e
