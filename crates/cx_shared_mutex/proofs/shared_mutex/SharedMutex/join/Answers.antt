use Rattle.std.proofs.Common.{refl}
use Rattle.cx_turn.specs.Views.{both_of}
use Rattle.cx_shared_mutex.proofs.Passes.{keeps_on}
use Rattle.cx_shared_mutex.proofs.shared_mutex.SharedMutex.join.Goals as goal

pub returns-clause-owner : goal.returns-clause-owner
returns-clause-owner c =
    let p = c.requires.pass in let o = c.requires.other in
    let q = c.join.ensures p.0 o.0 p.1 o.1 in
    keeps_on c.args.self.now c.args.pass.now c.join.new.pass p.0 (both_of p.0 o.0) p.1 q q.known.met.0 refl refl
