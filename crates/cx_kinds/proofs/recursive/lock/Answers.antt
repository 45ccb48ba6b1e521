use Rattle.std.proofs.Common.{ap, refl}
use Rattle.cx_machine.specs.Mutex.{Mutex}
use Rattle.cx_turn.specs.declared.view.View.{View}
use Rattle.cx_kinds.proofs.Holding.{with_levels}
use Rattle.cx_kinds.proofs.recursive.lock.Goals as goal

pub returns-in-Err-clause-did : goal.returns-in-Err-clause-did
returns-in-Err-clause-did g c = λ v a.
    let token = c.args.token.now in
    let d = c.in-Err.ensures.most v a.pass in
    (d.0, with_levels c.args.mutex.now token.pass c.lock.new.pass token.levels token.levels v d.0 a d.1 (ap (λ (u : View Mutex). u.number) d.2.view) refl (c.in-Err.ensures.same token.levels.count a.levels) a.few, d.2)
