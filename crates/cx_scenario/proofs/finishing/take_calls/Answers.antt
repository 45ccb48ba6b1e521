use Rattle.std.proofs.Common.{◌<◌, ◌≤◌, length, arith, ◌∙◌}
use Rattle.cx_scenario.proofs.Ending.{calls_at, others_at, none_at}
use Rattle.cx_scenario.proofs.finishing.take_calls.Goals as goal

pub returns-then-place-len-clause-value : goal.returns-then-place-len-clause-value
returns-then-place-len-clause-value c =
    let lt : c.place_of-place.result < length c.args.groups.now.items = omega (arith, c.args.groups.now.ok.0) in
    calls_at c.args.groups.now.items c.deref.result.now c.args.name.now c.place_of-place.result c.deref.ensures.value c.place_of-place.ensures c.remove-group.result c.remove-group.ensures.value lt

pub returns-then-place-len-clause-others : goal.returns-then-place-len-clause-others
returns-then-place-len-clause-others c =
    others_at c.args.groups.now.items c.deref.result.now c.args.name.now c.place_of-place.result c.deref.ensures.value c.place_of-place.ensures c.remove-group.new.self.items c.remove-group.ensures.items

pub returns-else-place-len-clause-value : goal.returns-else-place-len-clause-value
returns-else-place-len-clause-value c =
    let le : length c.args.groups.now.items ≤ c.place_of-place.result = omega (arith, c.args.groups.now.ok.0) in
    c.new.ensures.items ∙ none_at c.args.groups.now.items c.deref.result.now c.args.name.now c.place_of-place.result c.deref.ensures.value c.place_of-place.ensures le
