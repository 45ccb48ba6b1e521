use Rattle.std.proofs.Common.{refl, arith}
use Rattle.cx_turn.specs.Views.{both_of}
use Rattle.cx_stop.specs.declared.pass.StopPass.{StopPass}
use Rattle.cx_stop.specs.Stops.{stop_id}
use Rattle.cx_stop.proofs.Passing.{sees_on}
use Rattle.cx_stop.proofs.state.StopState.join.Goals as goal

pub join-requires-clause-pass : goal.join-requires-clause-pass
join-requires-clause-pass g c = let p = c.requires.pass in (p.0, p.1.pass)

pub join-requires-clause-other : goal.join-requires-clause-other
join-requires-clause-other g c = let p = c.requires.other in (p.0, p.1.pass)

pub returns-clause-seen : goal.returns-clause-seen
returns-clause-seen g c v w is is' =
    let q : StopPass = record { pass = c.join.new.pass; next_tag = c.args.pass.now.next_tag } in
    let d = c.join.ensures v w is.pass is'.pass in
    sees_on (stop_id c.args.self.now) c.args.pass.now q v (both_of v w) is d d.known.met.0 refl refl refl (omega arith)
