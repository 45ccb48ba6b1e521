use Rattle.std.proofs.Common.{◌∙◌, ◌+◌, refl, arith}
use Rattle.cx_turn.specs.Views.{split_left}
use Rattle.cx_turn.proofs.Histories.{prefix_refl}
use Rattle.cx_cell.proofs.Lasting.{none_own}
use Rattle.cx_barrier.proofs.LastPhases.{none_by_others}
use Rattle.cx_barrier.proofs.Passing.{sees_on, keeps_due}
use Rattle.cx_barrier.proofs.barrier.Barrier.split.Goals as goal

pub returns-clause-first : goal.returns-clause-first
returns-clause-first c v is = sees_on c.args.self.now c.args.first.now c.split.new.first v (split_left v c.args.calls) is (c.split.ensures.first v is.pass) _ refl (prefix_refl v.front) refl refl refl

pub returns-clause-second : goal.returns-clause-second
returns-clause-second c v is = record {
  pass = c.split.ensures.second v is.pass;
  phase = none_by_others (v.splits + 1) v.front (none_own (v.splits + 1) v.front (is.pass.known.above is.pass.counts (is.pass.numbered ∙ c.requires.first) (v.splits + 1) (omega arith)));
}

pub returns-clause-completing : goal.returns-clause-completing
returns-clause-completing c =
    let p = c.requires.pass in
    keeps_due c.args.self.now c.args.first.now c.split.new.first p.0 (split_left p.0 c.args.calls) p.1 (c.split.ensures.first p.0 p.1.pass) _ refl (prefix_refl p.0.front) refl refl refl

pub split-requires-clause-pass : goal.split-requires-clause-pass
split-requires-clause-pass c = let p = c.requires.pass in (p.0, p.1.pass)
