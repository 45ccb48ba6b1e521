use Rattle.std.proofs.Common.{map, sym, ◌∙◌, ap}
use Rattle.std.proofs.lemmas.List.{length-map}
use Rattle.cx_machine.specs.Machine.{opening}
use Rattle.cx_history.specs.Flaw.{gap_from, bad_step_from}
use Rattle.cx_checker.specs.Views.{placed_of}
use Rattle.cx_checker.proofs.Levels.{rest, rest_all, left_at_start, gap_step}
use Rattle.cx_checker.proofs.Placings.{no_gap_found, all_walked, left_less, walk_on, walk_ends}
use Rattle.cx_checker.proofs.placing.bad_step.Goals as goal

pub loop-k-init : goal.loop-k-init
loop-k-init c = record {
  same = ap (bad_step_from (opening c.args.kind)) (rest_all (map placed_of c.args.changes.now)) ∙ ap (λ s. bad_step_from s (rest 0 (map placed_of c.args.changes.now))) (sym c.in_ok-state.ensures);
  gapless = sym (ap (gap_from 0) (rest_all (map placed_of c.args.changes.now))) ∙ c.requires.gapless;
  left = left_at_start (map placed_of c.args.changes.now);
}

pub returns-in-None : goal.returns-in-None
returns-in-None c = absurd (no_gap_found c.loop-k.k _ (map placed_of c.args.changes.now) c.in-None.ensures c.loop-k-test.true (sym (length-map c.args.changes.now placed_of)) c.loop-k.invariant.left c.loop-k.invariant.gapless)

pub returns-then-not-made : goal.returns-then-not-made
returns-then-not-made c = walk_ends c.loop-k.k (map placed_of c.args.changes.now) (placed_of c.in-Some.change) c.loop-k.state c.apply.new.self c.in_ok-made-in-Some.made _ c.in-Some.ensures c.in_ok-made-in-Some.ensures.made c.if-not-made.true c.loop-k.invariant.same

pub loop-k-preserved : goal.loop-k-preserved
loop-k-preserved c = record {
  same = walk_on c.loop-k.k (map placed_of c.args.changes.now) (placed_of c.in-Some.change) c.loop-k.state c.apply.new.self c.in_ok-made-in-Some.made _ c.in-Some.ensures c.in_ok-made-in-Some.ensures.made c.if-not-made.false c.loop-k.invariant.same;
  gapless = sym (gap_step c.loop-k.k (map placed_of c.args.changes.now) (placed_of c.in-Some.change) c.in-Some.ensures).0 ∙ c.loop-k.invariant.gapless;
  left = left_less c.loop-k.k _ (map placed_of c.args.changes.now) (placed_of c.in-Some.change) c.in-Some.ensures c.loop-k.invariant.left;
}

pub returns : goal.returns
returns c = sym (c.loop-k.invariant.same ∙ ap (bad_step_from c.loop-k.state) (all_walked c.loop-k.k _ (map placed_of c.args.changes.now) c.loop-k-test.false (sym (length-map c.args.changes.now placed_of)) c.loop-k.invariant.left))
