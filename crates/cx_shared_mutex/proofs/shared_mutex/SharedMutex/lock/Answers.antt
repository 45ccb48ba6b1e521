use Rattle.std.proofs.Common.{true, false, refl, pos}
use Rattle.cx_machine.specs.declared.kind.Op.TheVariants as ops
use Rattle.cx_machine.specs.Meaning.{change}
use Rattle.cx_shared_mutex.proofs.Owners.{locked_writes}
use Rattle.cx_shared_mutex.proofs.Passes.{owns_then}
use Rattle.cx_shared_mutex.proofs.shared_mutex.SharedMutex.lock.Goals as goal

pub returns-clause-held : goal.returns-clause-held
returns-clause-held g c =
    let p = c.requires.pass in
    let by = c.args.pass.now.number in
    let r = c.wait_change-at.result.0 in
    let d = c.wait_change-at.ensures p.0 p.1 in
    (c.number.ensures, owns_then c.args.self.now c.args.pass.now c.wait_change-at.new.pass p.0 d.0 p.1 d.1 (change by ops.Lock (pos 0) (pos 0) r) c.wait_change-at.result.1 refl d.2 true false (locked_writes d.2.now d.2.after by r d.2.enabled))
