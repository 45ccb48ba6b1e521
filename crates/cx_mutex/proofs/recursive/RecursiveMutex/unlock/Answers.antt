use Rattle.std.proofs.Common.{refl, pos}
use Rattle.cx_machine.specs.declared.kind.Op.TheVariants as ops
use Rattle.cx_machine.specs.Meaning.{change}
use Rattle.cx_machine.proofs.Owners.{unlock_takes}
use Rattle.cx_mutex.proofs.LevelCounts.{loses}
use Rattle.cx_mutex.proofs.recursive.RecursiveMutex.unlock.Goals as goal

pub returns-clause-less : goal.returns-clause-less
returns-clause-less g c =
    let p = c.requires.pass in
    let by = c.args.pass.now.number in
    let r = c.wait_change-at.result.0 in
    let d = c.wait_change-at.ensures p.0 p.1 in
    loses c.args.self.now c.args.pass.now c.wait_change-at.new.pass p.0 d.0 p.1 d.1 (change by ops.Unlock (pos 0) (pos 0) r) c.wait_change-at.result.1 refl d.2 (λ now after n is e. unlock_takes now after by r n is e)
