use Rattle.std.proofs.Common.{ap, sym, ◌∙◌, Some}
use Rattle.cx_history.specs.declared.flaw.Cause.TheVariants as causes
use Rattle.cx_history.specs.Legal.{is_at_least}
use Rattle.cx_history.specs.Flaw.{flaw}
use Rattle.cx_checker.specs.Knowledge.{place_in}
use Rattle.cx_checker.proofs.Firsts.{good_item, bad_item, good_items}
use Rattle.cx_checker.proofs.owing.first_owed_in.Goals as goal

pub returns-then-not-good : goal.returns-then-not-good
returns-then-not-good c =
    ap (λ f. Some f) (c.flaw.ensures ∙ ap (flaw causes.Order c.args.t) c.in_ok-n.ensures)
    ∙ bad_item causes.Order (λ u i x. is_at_least (place_in c.args.owed.now) x) c.args.t c.loop-i.i c.args.list.now c.item_at-item.result _ c.item_at-item.ensures (sym c.allows-good.ensures ∙ c.if-not-good.true) c.loop-i.invariant

pub loop-i-preserved : goal.loop-i-preserved
loop-i-preserved c = good_item causes.Order (λ u i x. is_at_least (place_in c.args.owed.now) x) c.args.t c.loop-i.i c.args.list.now c.item_at-item.result _ c.item_at-item.ensures (sym c.allows-good.ensures ∙ c.if-not-good.false) c.loop-i.invariant

pub returns : goal.returns
returns c = good_items causes.Order (λ u i x. is_at_least (place_in c.args.owed.now) x) c.args.t c.loop-i.i c.args.list.now _ c.loop-i-test.false c.loop-i.invariant
