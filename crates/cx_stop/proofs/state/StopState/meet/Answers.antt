use Rattle.std.proofs.Common.{refl, arith}
use Rattle.cx_turn.specs.Views.{having_met}
use Rattle.cx_turn.proofs.Histories.{prefix_refl}
use Rattle.cx_stop.specs.declared.pass.StopPass.{StopPass}
use Rattle.cx_stop.specs.Stops.{stop_id}
use Rattle.cx_stop.proofs.Passing.{sees_on}
use Rattle.cx_stop.proofs.state.StopState.meet.Goals as goal

pub meet-requires-clause-from : goal.meet-requires-clause-from
meet-requires-clause-from g c = let p = c.requires.from in (p.0, p.1.pass)

pub meet-requires-clause-to : goal.meet-requires-clause-to
meet-requires-clause-to g c = let p = c.requires.to in (p.0, p.1.pass)

pub returns-clause-from : goal.returns-clause-from
returns-clause-from g c v is =
    let q : StopPass = record { pass = c.meet.new.from; next_tag = c.args.from.now.next_tag } in
    sees_on (stop_id c.args.self.now) c.args.from.now q v v is (c.meet.ensures.from v is.pass) (prefix_refl v.front) refl refl refl (omega arith)

pub returns-clause-to : goal.returns-clause-to
returns-clause-to g c v w is is' =
    let q : StopPass = record { pass = c.meet.new.to; next_tag = c.args.to.now.next_tag } in
    let d = c.meet.ensures.to v w is.pass is'.pass in
    sees_on (stop_id c.args.self.now) c.args.to.now q w (having_met w v) is' d d.known.met.0 refl refl refl (omega arith)
