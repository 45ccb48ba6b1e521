-- A latch's counter is what it was made with, less what was counted down.
use Rattle.std.proofs.Common.{◌≡◌, ℕ, zero, ◌+◌, ◌≤◌, ℤ, pos, true, List, ◌++◌, Option, Some, refl, sym, subst, arith, nat_le, ◌∙◌}
use Rattle.std.proofs.lemmas.Bool.{eqb-true, leb-true}
use Rattle.cx_names.specs.declared.Reply.{Reply}
use Rattle.cx_names.specs.declared.Reply.TheVariants as replies
use Rattle.cx_machine.specs.declared.kind.Kind.TheVariants as kinds
use Rattle.cx_machine.specs.declared.kind.Entry.{Entry}
use Rattle.cx_machine.specs.declared.kind.Look.{Look}
use Rattle.cx_machine.specs.declared.kind.Op.{Op}
use Rattle.cx_machine.specs.declared.kind.Op.TheVariants as ops
use Rattle.cx_machine.specs.Acts.{at_entry}
use Rattle.cx_machine.specs.Kept.{made}
use Rattle.cx_machine.specs.Meaning.{run}
use Rattle.cx_machine.specs.Words.{small_of}
use Rattle.cx_machine.specs.Machine.{State, IsLegal, Latch as ALatch}
use Rattle.cx_machine.specs.Machine as machine
use Rattle.cx_machine.specs.Latch.{Latch, opening, counted_down, step, shows}
use Rattle.cx_laws.specs.History.{IsShownAfter, amount, amount_of}
use Rattle.cx_laws.specs.Latch.{is_count_down, is_opened, counted}
use Rattle.cx_laws.proofs.Along.{balanced, reaches, reaches_at, reached, run-append, total_none}

abbrev Counts : Latch → Op → Option ℕ → Latch → Type 0
Counts l op a t = l.counter + 0 ≡ amount (is_count_down op) a + t.counter

one : (l t : Latch) (by : ℕ) (op : Op) (a : Option ℕ) (b : ℤ) (r : Reply) → step l by op a b r ≡ Some t → Counts l op a t
one l t by ops.CountDown (Some n) (pos zero) replies.Ok e = made (Counts l ops.CountDown (Some n)) (nat_le n l.counter) (counted_down l n) t (λ c. (let h = leb-true n l.counter c in omega (arith, h))) e
one l t by _ _ _ _ e = cc e

falls : (h : List Entry) (l t : Latch) → run (at_entry step) (Some l) h ≡ Some t → l.counter ≡ counted h + t.counter
falls h l t is =
    let b = (balanced (at_entry step) (λ s. Unit {0}) (λ s. s.counter) (λ e. 0) (λ e. amount_of (is_count_down e.op) e) (λ s u e _ on. (tt, one s u e.by.0 e.op (small_of e.a) e.b e.reply on)) h l t tt is).1 in
    let z = total_none h in
    omega (arith, b, z)

pub counted_within : (expected : ℕ) (h : List Entry) → IsLegal (kinds.Latch expected) h → counted h ≤ expected
counted_within expected h is =
    let t = reaches ALatch (at_entry step) (λ m e. refl) h (opening expected) is in
    let c = falls h (opening expected) t.0 t.1 in
    omega (arith, c)

open_at : (l : Latch) (by : ℕ) (op : Op) (a : Option ℕ) (b : ℤ) (r : Reply) → is_opened op r ≡ true → shows l by op a b r ≡ true → l.counter ≡ 0
open_at l by ops.Wait (Some zero) (pos zero) replies.Ok w e = eqb-true l.counter 0 e
open_at l by ops.TryWait (Some zero) (pos zero) replies.True w e = eqb-true l.counter 0 e
open_at l by ops.TryWait (Some zero) (pos zero) replies.False w e = cc w
open_at l by _ _ _ _ w e = cc e

-- where a look says that the latch is open
record Opened (expected : ℕ) (h : List Entry) (l : Look) : Type 0 where
  latch : Latch
  leads : run (at_entry step) (Some (opening expected)) h ≡ Some latch
  shown : machine.shows (ALatch latch) l ≡ true
  zero_there : latch.counter ≡ 0

opened : (expected : ℕ) (h : List Entry) (l : Look) → IsShownAfter (kinds.Latch expected) h l → is_opened l.op l.reply ≡ true → Opened expected h l
opened expected h l is w =
    let t = reaches_at ALatch (at_entry step) (λ m e. refl) h (opening expected) is.0 is.1 in
    let shown : machine.shows (ALatch t.0) l ≡ true = subst (λ s. machine.shows s l ≡ true) t.2 is.2 in
    record { latch = t.0; leads = t.1; shown = shown; zero_there = open_at t.0 l.by.0 l.op (small_of l.a) l.b l.reply w shown }

pub opens_at_zero : (expected : ℕ) (h : List Entry) (l : Look) → IsShownAfter (kinds.Latch expected) h l → is_opened l.op l.reply ≡ true → counted h ≡ expected
opens_at_zero expected h l is w =
    let o = opened expected h l is w in
    let c = falls h (opening expected) o.latch o.leads in
    let z = o.zero_there in
    omega (arith, c, z)

pub stays_open : (expected : ℕ) (h more : List Entry) (l : Look) → IsShownAfter (kinds.Latch expected) h l → is_opened l.op l.reply ≡ true → IsLegal (kinds.Latch expected) (h ++ more) → IsShownAfter (kinds.Latch expected) (h ++ more) l
stays_open expected h more l is w goes =
    let o = opened expected h l is w in
    let t = reaches ALatch (at_entry step) (λ m e. refl) (h ++ more) (opening expected) goes in
    let on : run (at_entry step) (Some o.latch) more ≡ Some t.0 = subst (λ x. run (at_entry step) x more ≡ Some t.0) o.leads (sym (run-append (at_entry step) (Some (opening expected)) h more) ∙ t.1) in
    let c = falls more o.latch t.0 on in
    let z = o.zero_there in
    let same : o.latch.counter ≡ t.0.counter = omega (arith, c, z) in
    (ALatch t.0, reached ALatch (at_entry step) (λ m e. refl) (h ++ more) (opening expected) t.0 t.1, subst (λ n. machine.shows (ALatch (record { counter = n })) l ≡ true) same o.shown)
