use Rattle.std.proofs.Common.{ap, map, rules, true, false}
use Rattle.cx_text.specs.Views.{seen, now_all}
use Rattle.cx_text.proofs.Among.{row_skipped, row_tried, none_left, all_rows, said_by_row}
use Rattle.cx_text.proofs.reading.read_row.Goals as goal

pub loop-row-init : goal.loop-row-init
loop-row-init g c = all_rows _ g.F.Row.table c.args.head.now (now_all c.args.after.now) c.rows_for-row-items.result.now c.rows_for-row-items.ensures

pub loop-row-preserved-then-not-may_be : goal.loop-row-preserved-then-not-may_be
loop-row-preserved-then-not-may_be g c =
    row_skipped _ g.F.Row.table c.args.head.now c.args.after.now c.rows_for-row-items.result.now c.loop-row.row-index c.row-item.result c.may_be.result _ c.loop-row-test.true c.row-item.is c.may_be.ensures (search rules) c.loop-row.invariant

pub loop-row-preserved : goal.loop-row-preserved
loop-row-preserved g c =
    row_tried _ g.F.Row.table c.args.head.now c.args.after.now c.rows_for-row-items.result.now c.loop-row.row-index c.row-item.result c.may_be.result _ _ c.loop-row-test.true c.row-item.is c.may_be.ensures (search rules)
    (said_by_row _ g.F.Row.table c.row-item.result c.args.after.now _ _ (map seen c.clear.new.self.items) (map seen c.push_values.new.values.items) _ false c.if-all.false c.own_word.ensures c.fields.ensures (ap (map seen) c.clear.ensures.items) c.in_ok-all.ensures)
    c.loop-row.invariant

pub returns-then-all : goal.returns-then-all
returns-then-all g c =
    row_tried _ g.F.Row.table c.args.head.now c.args.after.now c.rows_for-row-items.result.now c.loop-row.row-index c.row-item.result c.may_be.result _ _ c.loop-row-test.true c.row-item.is c.may_be.ensures (search rules)
    (said_by_row _ g.F.Row.table c.row-item.result c.args.after.now _ _ (map seen c.clear.new.self.items) (map seen c.push_values.new.values.items) _ true c.if-all.true c.own_word.ensures c.fields.ensures (ap (map seen) c.clear.ensures.items) c.in_ok-all.ensures)
    c.loop-row.invariant

pub returns : goal.returns
returns g c =
    none_left _ g.F.Row.table c.args.head.now (now_all c.args.after.now) c.rows_for-row-items.result.now c.loop-row.row-index _ c.loop-row-test.false c.loop-row.invariant
