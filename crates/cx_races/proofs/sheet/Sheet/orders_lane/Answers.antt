use Rattle.std.proofs.Common.{◌+◌, ◌*◌, ℕ, subst}
use Rattle.cx_races.specs.Sheets.{AreFrom, AreBelow}
use Rattle.cx_races.proofs.Reaching.{lane_ordered}
use Rattle.cx_races.proofs.sheet.Sheet.orders_lane.Goals as goal

pub returns : goal.returns
returns c = λ yes_ s r are.
    let xs = c.args.self.now.accesses.items in
    let count = c.reached-count.result in
    let place = c.below-place.result in
    let low = subst (λ (m : ℕ). AreBelow xs place (m * 4294967296 + count)) c.lane.ensures.value c.below-place.ensures.low in
    let high = subst (λ (m : ℕ). AreFrom xs place (m * 4294967296 + count)) c.lane.ensures.value c.below-place.ensures.high in
    lane_ordered s r c.args.order.now c.args.a c.args.x xs count place are c.args.self.now.rising c.args.self.now.small c.lane.ensures.numbers c.reached-count.ensures low high (c.is_reached.ensures yes_)
