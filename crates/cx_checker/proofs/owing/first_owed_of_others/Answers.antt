use Rattle.std.proofs.Common.{rules, ap, sym, ◌∙◌, Some, refl, length, arith, ◌≤◌, ◌<◌}
use Rattle.cx_history.specs.declared.flaw.Cause.TheVariants as causes
use Rattle.cx_history.specs.Histories.{owed}
use Rattle.cx_history.specs.Legal.{is_at_least}
use Rattle.cx_history.specs.Views.{recorded_of}
use Rattle.cx_checker.proofs.Firsts.{good_lists}
use Rattle.cx_checker.proofs.Knowing.{good_list_at, bad_list_at, owed_in}
use Rattle.cx_checker.proofs.owing.first_owed_of_others.Goals as goal

pub loop-t-init : goal.loop-t-init
loop-t-init c = good_list_at causes.Order (λ t i x. is_at_least (owed (recorded_of c.args.record.now) t i) x) 0 c.args.record.now _ c.requires.some c.requires.main.0 refl

pub returns-in-Some : goal.returns-in-Some
returns-in-Some c =
    let low : c.loop-t.t < length c.args.record.now.lists.items = search rules in
    bad_list_at causes.Order (λ t i x. is_at_least (owed (recorded_of c.args.record.now) t i) x) c.loop-t.t c.args.record.now _ c.in-Some.flaw low (owed_in (recorded_of c.args.record.now) c.loop-t.t c.in_ok-n.n c.list_at-list.result.now c.args.known.now c.raise_to_start.new.owed c.new-owed.result c.in_ok-found.found (omega (arith, c.loop-t.auto.t)) c.in_ok-n.ensures c.list_at-list.ensures c.requires.main.1 c.new-owed.ensures (rw c.deref.ensures.value at c.in_ok-raise_to_start.ensures) c.in_ok-found.ensures ∙ c.in-Some.is) c.loop-t.invariant

pub loop-t-preserved : goal.loop-t-preserved
loop-t-preserved c =
    let low : c.loop-t.t < length c.args.record.now.lists.items = search rules in
    good_list_at causes.Order (λ t i x. is_at_least (owed (recorded_of c.args.record.now) t i) x) c.loop-t.t c.args.record.now _ low (owed_in (recorded_of c.args.record.now) c.loop-t.t c.in_ok-n.n c.list_at-list.result.now c.args.known.now c.raise_to_start.new.owed c.new-owed.result c.in_ok-found.found (omega (arith, c.loop-t.auto.t)) c.in_ok-n.ensures c.list_at-list.ensures c.requires.main.1 c.new-owed.ensures (rw c.deref.ensures.value at c.in_ok-raise_to_start.ensures) c.in_ok-found.ensures ∙ c.in-None.is) c.loop-t.invariant

pub returns : goal.returns
returns c =
    let end : length c.args.record.now.lists.items ≤ c.loop-t.t = search rules in
    good_lists causes.Order (λ t i x. is_at_least (owed (recorded_of c.args.record.now) t i) x) c.loop-t.t c.args.record.now _ end c.loop-t.invariant
