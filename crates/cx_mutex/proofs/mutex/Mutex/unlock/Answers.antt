use Rattle.std.proofs.Common.{◌≡◌, ◌∙◌, sym, subst, false, pos}
use Rattle.cx_machine.specs.declared.kind.Op.TheVariants as ops
use Rattle.cx_machine.specs.Meaning.{change}
use Rattle.cx_machine.specs.Mutex as machine
use Rattle.cx_turn.specs.declared.view.View.{View}
use Rattle.cx_turn.proofs.Histories.{head_is}
use Rattle.cx_mutex.specs.Owners.{Owning}
use Rattle.cx_machine.proofs.Owners.{unlocked_bare, plain_first, IsPlain}
use Rattle.cx_mutex.proofs.Owning.{owning_after}
use Rattle.cx_mutex.proofs.mutex.Mutex.unlock.Goals as goal

pub returns-clause-bare : goal.returns-clause-bare
returns-clause-bare g c v is =
    let p = c.requires.pass in
    let by = c.args.pass.now.number in
    let r = c.wait_change-at.result.0 in
    let d = c.wait_change-at.ensures p.0 p.1 in
    let same : ◌≡◌ {A = View machine.Mutex} d.0 v = head_is d.0 v (sym d.1.views ∙ is.views) in
    let plain : IsPlain p.0.start = subst (λ (m : machine.Mutex). IsPlain m) (sym (p.1.started ∙ c.args.self.now.opened)) (plain_first c.args.self.now.numbers) in
    subst (λ (x : View machine.Mutex). Owning false x) same (owning_after false p.0 d.0 (change by ops.Unlock (pos 0) (pos 0) r) c.wait_change-at.result.1 d.2 (sym p.1.numbered) (unlocked_bare p.0.start d.2.now d.2.after d.2.found by r plain d.2.leads d.2.enabled))
