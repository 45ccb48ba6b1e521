use Rattle.std.proofs.Common.{◌≡◌, ◌∙◌, sym, subst, true, pos}
use Rattle.cx_machine.specs.declared.kind.Op.TheVariants as ops
use Rattle.cx_machine.specs.Meaning.{change}
use Rattle.cx_machine.specs.Mutex as machine
use Rattle.cx_turn.specs.declared.view.View.{View}
use Rattle.cx_turn.proofs.Histories.{head_is}
use Rattle.cx_mutex.specs.Owners.{Owning}
use Rattle.cx_machine.proofs.Owners.{locked_owns}
use Rattle.cx_mutex.proofs.Owning.{owning_after}
use Rattle.cx_mutex.proofs.mutex.Mutex.lock.Goals as goal

pub returns-clause-held : goal.returns-clause-held
returns-clause-held g c = (
  c.number.ensures,
  λ v is.
      let p = c.requires.pass in
      let by = c.args.pass.now.number in
      let r = c.wait_change-at.result.0 in
      let d = c.wait_change-at.ensures p.0 p.1 in
      let same : ◌≡◌ {A = View machine.Mutex} d.0 v = head_is d.0 v (sym d.1.views ∙ is.views) in
      subst (λ (x : View machine.Mutex). Owning true x) same (owning_after true p.0 d.0 (change by ops.Lock (pos 0) (pos 0) r) c.wait_change-at.result.1 d.2 (sym p.1.numbered) (locked_owns d.2.now d.2.after by r d.2.enabled)),
)
