-- The active execution of a pass, through each of its calls.
use Rattle.std.proofs.Common.{◌≡◌, ◌∙◌, ℕ, pos, Some, sym, ap, subst}
use mathlib.Core.List.{IsPrefix}
use Rattle.cx_names.specs.declared.ThreadNo.{ThreadNo}
use Rattle.cx_machine.specs.declared.kind.Entry.{Entry}
use Rattle.cx_names.specs.declared.Reply.TheVariants as replies
use Rattle.cx_machine.specs.declared.kind.Op.TheVariants as ops
use Rattle.cx_machine.specs.Meaning.{run, change}
use Rattle.cx_machine.specs.Once.{Once}
use Rattle.cx_turn.specs.declared.view.View.{View}
use Rattle.cx_turn.specs.declared.pass.Pass.{Pass}
use Rattle.cx_turn.specs.Acts.{Makes, Finds}
use Rattle.cx_turn.proofs.Histories.{head_is}
use Rattle.cx_cell.specs.Seen.{At}
use Rattle.cx_cell.proofs.Lasting.{lasts, lasts_found, so_after}
use Rattle.cx_sync.specs.declared.once.OnceFlag.{OnceFlag}
use Rattle.cx_sync.specs.declared.once.Active.{Active}
use Rattle.cx_sync.specs.Kinds.{executing}
use Rattle.cx_sync.specs.Onces.{IsOncePassWith, IsRunning, IsActive, KeepsActive, OnceMakes, Executes}
use Rattle.cx_sync.proofs.Running.{runs_on}

module _ (f : OnceFlag) (p q : Pass Once) (v w : View Once) (is : IsOncePassWith f p v) (is' : IsOncePassWith f q w) where
  -- a pass knows one view alone
  pub of_view : At executing.step IsRunning w → (u : View Once) → IsOncePassWith f q u → At executing.step IsRunning u
  of_view at u isu = subst (λ (z : View Once). At executing.step IsRunning z) (head_is w u (sym is'.views ∙ isu.views)) at

  -- a pass that has seen more, and made nothing, is active as before
  pub keeps_active : IsPrefix v.front w.front → w.start ≡ v.start → w.number ≡ v.number → w.mine ≡ v.mine → KeepsActive f p q
  keeps_active more start number mine a active =
      let same : p.number.0 ≡ q.number.0 = sym is.numbered ∙ (sym number ∙ is'.numbered) in
      (active.0 ∙ (λ i. record { 0 = same i }), of_view (lasts executing IsRunning runs_on v w more is.known is'.known is.counts is'.counts start number mine (active.1 v is)))

  -- who was found active is active there
  pub found_active : (P : Once → Type 0) (found : Finds executing P v w) → (a : Active) → IsActive f p a → IsRunning found.now p.number.0
  found_active P found a active =
      let at = lasts_found executing IsRunning runs_on P v w found is.known is'.known is.counts is'.counts (active.1 v is) in
      let number : w.number ≡ p.number.0 = ap (λ (x : View Once). x.number) found.view ∙ is.numbered in
      let start : w.start ≡ v.start = ap (λ (x : View Once). x.start) found.view in
      subst (λ (n : ℕ). IsRunning found.now n) number (at found.now (ap (λ (s : Once). run executing.step (Some s) w.front) start ∙ found.leads))

  -- who began is active
  pub begun_active : (e : Entry) (n : ℕ) (made : Makes executing v w e n) → e.by ≡ p.number → IsRunning made.after e.by.0 → (u : View Once) → IsOncePassWith f q u → At executing.step IsRunning u
  begun_active e n made by runs = of_view (so_after executing IsRunning v w e n made (ap (λ (t : ThreadNo). t.0) by ∙ sym is.numbered) runs)

  -- a pass that made a change acts as the same thread
  pub same_thread : (e : Entry) (n : ℕ) → Makes executing v w e n → q.number ≡ p.number
  same_thread e n made =
      let same : q.number.0 ≡ p.number.0 = sym is'.numbered ∙ (ap (λ (x : View Once). x.number) made.view ∙ is.numbered) in
      λ i. record { 0 = same i }

-- who began an execution and then ended it by this change has executed
pub executes : (f : OnceFlag) (p q r : Pass Once) (n m : ℕ) (ends : ThreadNo → Entry) → OnceMakes f p q (change p.number ops.Begin (pos 0) (pos 0) replies.Ok) n → OnceMakes f q r (ends q.number) m → Executes f p r n (ends p.number) m
executes f p q r n m ends began ended v is =
    let a = began v is in
    let b = ended a.0 a.1 in
    (a.0, b.0, b.1, a.2, subst (λ (t : ThreadNo). Makes executing a.0 b.0 (ends t) m) (same_thread f p q v a.0 is a.1 (change p.number ops.Begin (pos 0) (pos 0) replies.Ok) n a.2) b.2)
