-- No phase is above the number of changes, and so above 2^28.
use Rattle.std.proofs.Common.{◌≡◌, ℕ, zero, ◌+◌, ◌-◌, ◌<◌, ◌≤◌, ◌^◌, ◌&&◌, ℤ, pos, List, [], ◌∷◌, length, Option, Some, None, refl, sym, ap, arith, nat_le, nat_lt}
use Rattle.cx_names.specs.Replies.{int_eq}
use Rattle.cx_names.specs.declared.Reply.{Reply}
use Rattle.cx_names.specs.declared.Reply.TheVariants as replies
use Rattle.cx_machine.specs.declared.kind.Entry.{Entry}
use Rattle.cx_machine.specs.declared.kind.Op.{Op}
use Rattle.cx_machine.specs.declared.kind.Op.TheVariants as ops
use Rattle.cx_machine.specs.Acts.{at_entry}
use Rattle.cx_machine.specs.Kept.{made, none_after}
use Rattle.cx_machine.specs.Meaning.{run}
use Rattle.cx_machine.specs.Words.{small_of, is_thread}
use Rattle.cx_machine.specs.Barrier.{Barrier, can_arrive, arrived, dropped, completed, step}
use Rattle.cx_turn.specs.declared.view.View.{View}
use Rattle.cx_turn.specs.Views.{IsKnown}
use Rattle.cx_turn.proofs.Histories.{prefix_length, some_is}
use Rattle.cx_barrier.specs.Kinds.{meeting}

-- a change raises the phase by one at most
raised_by : (m m' : Barrier) (by : ℕ) (op : Op) (a : Option ℕ) (v : ℤ) (r : Reply) → step m by op a v r ≡ Some m' → m'.phase ≤ m.phase + 1
raised_by m m' by ops.Arrive (Some k) (pos zero) (replies.Number p) e = made (λ b. b.phase ≤ m.phase + 1) (nat_le 1 k && can_arrive m k && int_eq p (pos m.phase)) (arrived m by k) m' (λ c. omega arith) e
raised_by m m' by ops.Drop (Some zero) (pos zero) (replies.Number p) e = made (λ b. b.phase ≤ m.phase + 1) (can_arrive m 1 && int_eq p (pos m.phase)) (dropped m by) m' (λ c. omega arith) e
raised_by m m' by ops.Complete (Some zero) (pos zero) replies.Ok e = made (λ b. b.phase ≤ m.phase + 1) (is_thread m.completing by && nat_lt m.phase (2 ^ 32 - 1)) (completed m) m' (λ c. omega arith) e
raised_by m m' by _ _ _ _ e = cc e

phase_within : (es : List Entry) (m m' : Barrier) → run (at_entry step) (Some m) es ≡ Some m' → m'.phase ≤ m.phase + length es
phase_within [] m m' e = let same : m'.phase ≡ m.phase = ap (λ (b : Barrier). b.phase) (sym (some_is m m' e)) in omega arith
phase_within (x ∷ xs) m m' e = further (at_entry step m x) refl e (λ t f. phase_within xs t m' f)
  where
    further : (o : Option Barrier) → at_entry step m x ≡ o → run (at_entry step) o xs ≡ Some m' → ((t : Barrier) → run (at_entry step) (Some t) xs ≡ Some m' → m'.phase ≤ t.phase + length xs) → m'.phase ≤ m.phase + length (x ∷ xs)
    further None was f rest = absurd (none_after (at_entry step) xs m' f)
    further (Some t) was f rest =
        let one = raised_by m t x.by.0 x.op (small_of x.a) x.b x.reply was in
        let more = rest t f in
        omega (arith, one, more)

-- what a seat has seen is shorter than 2^28
pub front_short : (v : View Barrier) → IsKnown meeting v → length v.front < 2 ^ 28
front_short v known =
    let log = known.present.0 in
    let short = known.present.3.bounded in
    let longer = prefix_length v.front log known.present.2 in
    omega (arith, short, longer)

-- so each phase in it is below
pub phase_low : (v : View Barrier) (es : List Entry) (m : Barrier) → IsKnown meeting v → v.start.phase ≡ 0 → length es ≤ length v.front → run (at_entry step) (Some v.start) es ≡ Some m → m.phase < 2 ^ 28
phase_low v es m known opened within leads =
    let a = phase_within es v.start m leads in
    let b = front_short v known in
    omega (arith, a, b, opened, within)
