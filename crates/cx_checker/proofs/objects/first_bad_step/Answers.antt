use Rattle.std.proofs.Common.{ap, ◌∙◌, sym, subst, Some, option_map, ℕ, ◌≤◌, ◌≡◌}
use Rattle.cx_machine.specs.Machine.{opening}
use Rattle.cx_machine.specs.declared.kind.Kind.{Kind}
use Rattle.cx_scene.specs.Scene.{kind_of}
use Rattle.cx_history.specs.Views.{recorded_of}
use Rattle.cx_history.specs.Histories.{in_order}
use Rattle.cx_history.specs.Flaw.{bad_step_of, bad_step_from}
use Rattle.cx_checker.specs.Views.{placed_of}
use Rattle.cx_checker.proofs.ByObjects.{gapless_here, steps_none, steps_some, no_object}
use Rattle.cx_checker.proofs.objects.first_bad_step.Goals as goal

pub bad_step-requires : goal.bad_step-requires
bad_step-requires c = record { gapless = gapless_here (recorded_of c.args.record.now) c.loop-o.o c.args.plan.now.objects.items c.args.histories.now c.index-histories-o.result c.requires.histories c.loop-o-test.true c.index-histories-o.is c.requires.gapless }

pub returns-in-Some : goal.returns-in-Some
returns-in-Some c =
    let found = c.in_ok-found.ensures ∙ ap (λ (k : Kind). bad_step_from (opening k) (in_order c.index-histories-o.result)) c.kind-kind.ensures in
    ap (λ f. Some f) c.flaw_at.ensures ∙ steps_some (recorded_of c.args.record.now) c.loop-o.o c.args.plan.now.objects.items c.index.result.now c.args.histories.now c.index-histories-o.result (option_map placed_of c.in_ok-found.found) (placed_of c.in-Some.change) _ c.requires.histories c.loop-o-test.true c.index.ensures c.index-histories-o.is found (ap (option_map placed_of) c.in-Some.is) c.loop-o.invariant

pub loop-o-preserved : goal.loop-o-preserved
loop-o-preserved c =
    let found = c.in_ok-found.ensures ∙ ap (λ (k : Kind). bad_step_from (opening k) (in_order c.index-histories-o.result)) c.kind-kind.ensures in
    steps_none (recorded_of c.args.record.now) c.loop-o.o c.args.plan.now.objects.items c.index.result.now c.args.histories.now c.index-histories-o.result (option_map placed_of c.in_ok-found.found) _ c.requires.histories c.loop-o-test.true c.index.ensures c.index-histories-o.is found (ap (option_map placed_of) c.in-None.is) c.loop-o.invariant

pub returns : goal.returns
returns c = no_object (bad_step_of (recorded_of c.args.record.now)) c.loop-o.o c.args.plan.now.objects.items _ (subst (λ (n : ℕ). n ≤ c.loop-o.o) c.requires.histories.count_is c.loop-o-test.false) c.loop-o.invariant
