use Rattle.std.proofs.Common.{refl}
use Rattle.cx_turn.specs.Views.{having_met}
use Rattle.cx_shared_mutex.proofs.Passes.{keeps_on}
use Rattle.cx_shared_mutex.proofs.shared_mutex.SharedMutex.meet.Goals as goal

pub returns-clause-to_owner : goal.returns-clause-to_owner
returns-clause-to_owner c =
    let p = c.requires.to in let o = c.requires.from in
    let q = c.meet.ensures.to o.0 p.0 o.1 p.1 in
    keeps_on c.args.self.now c.args.to.now c.meet.new.to p.0 (having_met p.0 o.0) p.1 q q.known.met.0 refl refl
