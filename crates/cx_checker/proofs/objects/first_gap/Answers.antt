use Rattle.std.proofs.Common.{ap, ◌∙◌, sym, subst, Some, ℕ, ◌≤◌}
use Rattle.cx_history.specs.Views.{recorded_of}
use Rattle.cx_history.specs.Flaw.{gap_of}
use Rattle.cx_checker.specs.Views.{placed_of}
use Rattle.cx_checker.proofs.ByObjects.{gap_none, gap_some, no_object}
use Rattle.cx_checker.proofs.objects.first_gap.Goals as goal

pub returns-in-Some : goal.returns-in-Some
returns-in-Some c = ap (λ f. Some f) c.flaw_at.ensures ∙ gap_some (recorded_of c.args.record.now) c.loop-o.o c.args.plan.now.objects.items c.args.histories.now c.index-histories-o.result (placed_of c.in-Some.change) _ c.requires c.loop-o-test.true c.index-histories-o.is c.in-Some.ensures c.loop-o.invariant

pub loop-o-preserved : goal.loop-o-preserved
loop-o-preserved c = gap_none (recorded_of c.args.record.now) c.loop-o.o c.args.plan.now.objects.items c.args.histories.now c.index-histories-o.result _ c.requires c.loop-o-test.true c.index-histories-o.is c.in-None.ensures c.loop-o.invariant

pub returns : goal.returns
returns c = no_object (gap_of (recorded_of c.args.record.now)) c.loop-o.o c.args.plan.now.objects.items _ (subst (λ (n : ℕ). n ≤ c.loop-o.o) c.requires.count_is c.loop-o-test.false) c.loop-o.invariant
