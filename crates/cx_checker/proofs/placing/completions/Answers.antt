use Rattle.std.proofs.Common.{map, sym, ◌∙◌, ap, subst}
use Rattle.std.proofs.lemmas.List.{length-map}
use Rattle.cx_machine.specs.Machine.{opening}
use Rattle.cx_checker.specs.Views.{placed_of}
use Rattle.cx_checker.proofs.Levels.{left_at_start}
use Rattle.cx_checker.proofs.Placings.{all_walked, left_less}
use Rattle.cx_checker.proofs.Completions.{Walked, walk_begins, walk_goes_on, walk_stops, walk_is_refused, walk_is_whole}
use Rattle.cx_checker.proofs.placing.completions.Goals as goal

pub loop-k-init : goal.loop-k-init
loop-k-init c = record { walked = subst (Walked (opening c.args.kind) c.in_ok-state.state (map placed_of c.args.changes.now) 0) (sym c.new-marks.ensures.items) (walk_begins (opening c.args.kind) c.in_ok-state.state (map placed_of c.args.changes.now) c.in_ok-state.ensures); left = left_at_start (map placed_of c.args.changes.now) }

pub returns-in-None : goal.returns-in-None
returns-in-None c = walk_stops (opening c.args.kind) c.loop-k.state (map placed_of c.args.changes.now) c.loop-k.k c.loop-k.marks.items c.in-None.ensures c.loop-k.invariant.walked

pub returns-then-not-made : goal.returns-then-not-made
returns-then-not-made c = walk_is_refused (opening c.args.kind) c.loop-k.state c.apply.new.self (map placed_of c.args.changes.now) c.loop-k.k c.loop-k.marks.items (placed_of c.in-Some.change) c.in_ok-made-in-Some.made c.in-Some.ensures c.in_ok-made-in-Some.ensures.made c.if-not-made.true c.loop-k.invariant.walked

pub loop-k-preserved : goal.loop-k-preserved
loop-k-preserved c = record {
  walked = subst (Walked (opening c.args.kind) c.apply.new.self (map placed_of c.args.changes.now) _) (sym c.in_ok-push-in-Some.ensures.items) (walk_goes_on (opening c.args.kind) c.loop-k.state c.apply.new.self (map placed_of c.args.changes.now) c.loop-k.k c.loop-k.marks.items (placed_of c.in-Some.change) c.in_ok-made-in-Some.made _ c.in-Some.ensures c.in_ok-made-in-Some.ensures.made c.if-not-made.false c.is_completing-mark.ensures c.loop-k.invariant.walked);
  left = left_less c.loop-k.k _ (map placed_of c.args.changes.now) (placed_of c.in-Some.change) c.in-Some.ensures c.loop-k.invariant.left;
}

pub returns : goal.returns
returns c = walk_is_whole (opening c.args.kind) c.loop-k.state (map placed_of c.args.changes.now) c.loop-k.k c.loop-k.marks.items (all_walked c.loop-k.k _ (map placed_of c.args.changes.now) c.loop-k-test.false (sym (length-map c.args.changes.now placed_of)) c.loop-k.invariant.left) c.loop-k.invariant.walked
