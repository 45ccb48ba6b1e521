use Rattle.std.proofs.Common.{refl}
use Rattle.cx_turn.specs.Views.{both_of}
use Rattle.cx_condvar.proofs.Passes.{stays}
use Rattle.cx_condvar.proofs.condvar.CondvarAny.join.Goals as goal

pub returns-clause-same : goal.returns-clause-same
returns-clause-same c =
    let p = c.requires.pass in let o = c.requires.other in
    let q = c.join.ensures p.0 o.0 p.1 o.1 in
    stays c.args.self.now c.args.pass.now c.join.new.pass p.0 (both_of p.0 o.0) p.1 q q.known.met.0 refl refl
