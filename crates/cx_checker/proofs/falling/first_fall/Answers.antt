use Rattle.std.proofs.Common.{rules, ◌≤◌, ◌≡◌, ℕ, ap, sym, ◌∙◌, take, length, List, subst, Option}
use Rattle.std.proofs.lemmas.Option.{slice_get_read}
use Rattle.cx_history.specs.declared.flaw.Cause.TheVariants as causes
use Rattle.cx_items.specs.declared.item.Item.{Item}
use Rattle.cx_history.specs.declared.flaw.Flaw.{Flaw}
use Rattle.cx_history.specs.Histories.{place, place_from, items_of}
use Rattle.cx_history.specs.Legal.{is_at_least}
use Rattle.cx_history.specs.Flaw.{first_in}
use Rattle.cx_history.specs.Views.{recorded_of, listed}
use Rattle.cx_checker.proofs.Firsts.{good_list, bad_list, good_lists, list_there, fell_in}
use Rattle.cx_checker.proofs.falling.first_fall.Goals as goal

pub returns-in-Some : goal.returns-in-Some
returns-in-Some c =
    let at_ = slice_get_read c.args.record.now.lists.items _ c.loop-t.t c.index.result.now (search rules) c.loop-t-test.true c.index.ensures in
    bad_list causes.Fell (λ t i x. is_at_least (place (recorded_of c.args.record.now) t i) x) c.loop-t.t (recorded_of c.args.record.now).lists (listed c.index.result.now) _ c.in-Some.flaw (list_there c.args.record.now c.loop-t.t c.index.result.now at_).0
    (fell_in causes.Fell c.args.record.now c.loop-t.t c.in_ok-n.n c.index.result.now c.items-list.result.now _ at_ c.in_ok-n.ensures c.items-list.ensures c.in_ok-fall.ensures ∙ c.in-Some.is) c.loop-t.invariant

pub loop-t-preserved : goal.loop-t-preserved
loop-t-preserved c =
    let at_ = slice_get_read c.args.record.now.lists.items _ c.loop-t.t c.index.result.now (search rules) c.loop-t-test.true c.index.ensures in
    good_list causes.Fell (λ t i x. is_at_least (place (recorded_of c.args.record.now) t i) x) c.loop-t.t (recorded_of c.args.record.now).lists (listed c.index.result.now) _ (list_there c.args.record.now c.loop-t.t c.index.result.now at_).0
    (fell_in causes.Fell c.args.record.now c.loop-t.t c.in_ok-n.n c.index.result.now c.items-list.result.now _ at_ c.in_ok-n.ensures c.items-list.ensures c.in_ok-fall.ensures ∙ c.in-None.is) c.loop-t.invariant

pub returns : goal.returns
returns c =
    let end : length c.args.record.now.lists.items ≤ c.loop-t.t = search rules in
    good_lists causes.Fell (λ t i x. is_at_least (place (recorded_of c.args.record.now) t i) x) c.loop-t.t c.args.record.now _ end c.loop-t.invariant
