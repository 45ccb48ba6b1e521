use Rattle.std.proofs.Common.{◌∙◌, ◌+◌, refl, ap, arith}
use Rattle.cx_turn.specs.Views.{split_left}
use Rattle.cx_turn.proofs.Histories.{prefix_refl}
use Rattle.cx_machine.specs.Callbacks.{members}
use Rattle.cx_stop.specs.declared.pass.StopPass.{StopPass}
use Rattle.cx_stop.specs.Stops.{stop_id}
use Rattle.cx_stop.proofs.Passing.{sees_on}
use Rattle.cx_stop.proofs.Others.{fresh_new}
use Rattle.cx_stop.proofs.state.StopState.split.Goals as goal

pub split-requires-clause-pass : goal.split-requires-clause-pass
split-requires-clause-pass g c = let p = c.requires.pass in (p.0, p.1.pass)

pub returns-clause-first : goal.returns-clause-first
returns-clause-first g c v is =
    let q : StopPass = record { pass = c.split.new.first; next_tag = c.args.first.now.next_tag } in
    sees_on (stop_id c.args.self.now) c.args.first.now q v (split_left v c.args.calls) is (c.split.ensures.first v is.pass) (prefix_refl v.front) refl refl refl (omega arith)

pub returns-clause-second : goal.returns-clause-second
returns-clause-second g c v is = record {
  pass = c.split.ensures.second v is.pass;
  fresh = λ m leads. fresh_new (v.splits + 1) v.start m v.front (ap members is.pass.started ∙ c.args.self.now.bare) (is.pass.known.above is.pass.counts (is.pass.numbered ∙ c.requires.first) (v.splits + 1) (omega arith)) leads;
}
