-- A change leaves a completion due only by the thread that made it.
use Rattle.std.proofs.Common.{◌≡◌, ℕ, zero, ◌-◌, ◌==◌, ◌&&◌, ◌^◌, ◌∙◌, ℤ, pos, Bool, true, false, Option, Some, None, is_some, option_map, refl, sym, ap, subst, nat_le, nat_lt, if◌then◌else◌, eq-eqb}
use Rattle.cx_names.specs.Replies.{int_eq}
use Rattle.cx_names.specs.declared.Reply.{Reply}
use Rattle.cx_names.specs.declared.Reply.TheVariants as replies
use Rattle.cx_machine.specs.declared.kind.Entry.{Entry}
use Rattle.cx_machine.specs.declared.kind.Op.{Op}
use Rattle.cx_machine.specs.declared.kind.Op.TheVariants as ops
use Rattle.cx_machine.specs.Words.{is_thread, small_of, when}
use Rattle.cx_machine.specs.Barrier as barrier
use Rattle.cx_machine.specs.Machine as all
use Rattle.cx_machine.specs.Meaning.{run}
use Rattle.cx_turn.specs.declared.view.View.{View}
use Rattle.cx_turn.specs.Acts.{Makes}
use Rattle.cx_cell.proofs.Lasting.{leads_after}
use Rattle.cx_history.specs.Follows.{is_completing}
use Rattle.cx_kinds.specs.AnyKind.{any_kind}
use Rattle.cx_kinds.specs.Holding.{owes_completion}

-- a completion is due in the state only by this thread
abbrev pub IsOwn : ℕ → Option barrier.Barrier → Type 0
IsOwn by None = Unit {0}
IsOwn by (Some b) = is_some b.completing ≡ is_thread b.completing by

same_thread : (by : ℕ) → true ≡ (by == by)
same_thread by = sym (eq-eqb by by refl)

by_last : (by : ℕ) (b : Bool) (x : Option ℕ) → x ≡ (if b then Some by else None) → is_some x ≡ is_thread x by
by_last by true x e = subst (λ (y : Option ℕ). is_some y ≡ is_thread y by) (sym e) (same_thread by)
by_last by false x e = subst (λ (y : Option ℕ). is_some y ≡ is_thread y by) (sym e) refl

own_when : (by : ℕ) (c : Bool) (b : barrier.Barrier) → IsOwn by (Some b) → IsOwn by (when c b)
own_when by true b h = h
own_when by false b h = tt

-- after an arrival, with or without a drop, and after a completion
own_arrived : (b : barrier.Barrier) (by n : ℕ) → IsOwn by (Some (barrier.arrived b by n))
own_arrived b by n = by_last by (b.remaining - n == 0) (barrier.arrived b by n).completing refl

pub own_step : (b : barrier.Barrier) (by : ℕ) (op : Op) (a : Option ℕ) (x : ℤ) (r : Reply) → IsOwn by (barrier.step b by op a x r)
own_step b by ops.Arrive (Some n) (pos zero) (replies.Number p) = own_when by (nat_le 1 n && barrier.can_arrive b n && int_eq p (pos b.phase)) (barrier.arrived b by n) (own_arrived b by n)
own_step b by ops.Drop (Some zero) (pos zero) (replies.Number p) = own_when by (barrier.can_arrive b 1 && int_eq p (pos b.phase)) (barrier.dropped b by) (own_arrived b by 1)
own_step b by ops.Complete (Some zero) (pos zero) replies.Ok = own_when by (is_thread b.completing by && nat_lt b.phase (2 ^ 32 - 1)) (barrier.completed b) refl
own_step b by _ _ _ _ = tt

-- the same of the states of all kinds
abbrev AreOne : ℕ → Option all.State → Type 0
AreOne by x = is_completing x ≡ owes_completion by x

barrier_one : (by : ℕ) (x : Option barrier.Barrier) → IsOwn by x → AreOne by (option_map all.Barrier x)
barrier_one by None h = refl
barrier_one by (Some b) h = h

other_one : {S : Type 0} (wrap : S → all.State) (by : ℕ) (x : Option S) → ((m : S) → AreOne by (Some (wrap m))) → AreOne by (option_map wrap x)
other_one wrap by None h = refl
other_one wrap by (Some m) h = h m

one_step : (s : all.State) (e : Entry) → AreOne e.by.0 (all.step s e)
one_step (all.Barrier b) e = barrier_one e.by.0 (barrier.step b e.by.0 e.op (small_of e.a) e.b e.reply) (own_step b e.by.0 e.op (small_of e.a) e.b e.reply)
one_step (all.Mutex m) e = other_one all.Mutex e.by.0 _ (λ m. refl)
one_step (all.Shared m) e = other_one all.Shared e.by.0 _ (λ m. refl)
one_step (all.Semaphore m) e = other_one all.Semaphore e.by.0 _ (λ m. refl)
one_step (all.Latch m) e = other_one all.Latch e.by.0 _ (λ m. refl)
one_step (all.Once m) e = other_one all.Once e.by.0 _ (λ m. refl)
one_step (all.Condition m) e = other_one all.Condition e.by.0 _ (λ m. refl)
one_step (all.Stop m) e = other_one all.Stop e.by.0 _ (λ m. refl)
one_step (all.Future m) e = other_one all.Future e.by.0 _ (λ m. refl)

-- right after a change of its own, what a thread owes is what is due
pub completing_after : (V W : View all.State) (e : Entry) (n : ℕ) (b : Bool) → e.by.0 ≡ V.number → Makes any_kind V W e n → b ≡ owes_completion W.number (run all.step (Some W.start) W.front) → b ≡ is_completing (run all.step (Some W.start) W.front)
completing_after V W e n b by m told =
    let number : W.number ≡ e.by.0 = ap (λ (u : View all.State). u.number) m.view ∙ sym by in
    let now = leads_after any_kind V W e n m in
    let one : AreOne e.by.0 (Some m.after) = subst (AreOne e.by.0) m.enabled (one_step m.now e) in
    told ∙ ((λ i. owes_completion (number i) (now i)) ∙ (sym one ∙ ap is_completing (sym now)))
