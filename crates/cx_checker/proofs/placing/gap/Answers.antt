use Rattle.std.proofs.Common.{map, sym, ◌∙◌, ap}
use Rattle.std.proofs.lemmas.List.{length-map}
use Rattle.cx_history.specs.Flaw.{gap_from}
use Rattle.cx_checker.specs.Views.{placed_of}
use Rattle.cx_checker.proofs.Levels.{rest_all, left_at_start, gap_step}
use Rattle.cx_checker.proofs.Placings.{gap_found, all_walked, left_less}
use Rattle.cx_checker.proofs.placing.gap.Goals as goal

pub loop-k-init : goal.loop-k-init
loop-k-init c = record { same = ap (gap_from 0) (rest_all (map placed_of c.args.changes.now)); left = left_at_start (map placed_of c.args.changes.now) }

pub returns-in-None : goal.returns-in-None
returns-in-None c = gap_found c.loop-k.k _ (map placed_of c.args.changes.now) _ _ c.in-None.ensures c.loop-k-test.true (sym (length-map c.args.changes.now placed_of)) c.loop-k.invariant.left c.gap_at.ensures c.loop-k.invariant.same

pub loop-k-preserved : goal.loop-k-preserved
loop-k-preserved c = record {
  same = c.loop-k.invariant.same ∙ (gap_step c.loop-k.k (map placed_of c.args.changes.now) (placed_of c.in-Some._only) c.in-Some.ensures).0;
  left = left_less c.loop-k.k _ (map placed_of c.args.changes.now) (placed_of c.in-Some._only) c.in-Some.ensures c.loop-k.invariant.left;
}

pub returns : goal.returns
returns c = sym (c.loop-k.invariant.same ∙ ap (gap_from c.loop-k.k) (all_walked c.loop-k.k _ (map placed_of c.args.changes.now) c.loop-k-test.false (sym (length-map c.args.changes.now placed_of)) c.loop-k.invariant.left))
