use Rattle.std.proofs.Common.{true, false, refl, pos}
use Rattle.cx_machine.specs.declared.kind.Op.TheVariants as ops
use Rattle.cx_machine.specs.Meaning.{change}
use Rattle.cx_shared_mutex.proofs.Owners.{locked_reads}
use Rattle.cx_shared_mutex.proofs.Passes.{owns_then}
use Rattle.cx_shared_mutex.proofs.shared_mutex.SharedMutex.lock_shared.Goals as goal

pub returns-clause-shared : goal.returns-clause-shared
returns-clause-shared g c =
    let p = c.requires.pass in
    let by = c.args.pass.now.number in
    let r = c.wait_change-at.result.0 in
    let d = c.wait_change-at.ensures p.0 p.1 in
    (c.number.ensures, owns_then c.args.self.now c.args.pass.now c.wait_change-at.new.pass p.0 d.0 p.1 d.1 (change by ops.LockShared (pos 0) (pos 0) r) c.wait_change-at.result.1 refl d.2 false true (locked_reads d.2.now d.2.after by r d.2.enabled))
