use Rattle.std.proofs.Common.{ap, sym, ◌∙◌}
use Rattle.cx_history.specs.Histories.{place_after}
use Rattle.cx_checker.proofs.Firsts.{place_more, whole_place}
use Rattle.cx_checker.proofs.owing.end_of.Goals as goal

pub loop-i-preserved : goal.loop-i-preserved
loop-i-preserved c = λ o. c.in_ok-pass.ensures o ∙ (ap (λ p. place_after o p c.item_at-item.result) (c.loop-i.invariant o) ∙ sym (place_more o c.loop-i.i c.args.list.now c.item_at-item.result c.item_at-item.ensures))

pub returns : goal.returns
returns c = λ o. c.loop-i.invariant o ∙ whole_place o c.loop-i.i c.args.list.now c.loop-i-test.false
