use Rattle.std.proofs.Common.{◌+◌, ◌-◌, ◌*◌, get_or, min, ap, refl, ◌∙◌, arith}
use Rattle.cx_scene.specs.Scene.{scene_of}
use Rattle.cx_asks.specs.Scenes.{takings}
use Rattle.cx_work.specs.Accesses.{objects_of}
use Rattle.cx_work.proofs.Rows.{row_begins, row_ends, row_is_new, row_low, row_past}
use Rattle.cx_work.proofs.Shares.{shares_begin, shares_end}
use Rattle.cx_work.proofs.Splits.{next_seen, next_may, next_free, next_row, next_shares}
use Rattle.cx_work.proofs.making.row_of.Goals as goal

pub loop-o-init : goal.loop-o-init
loop-o-init c = (
  row_begins (objects_of c.args.main.now) c.args.threads c.args.splits (131072 * (c.args.threads - c.args.splits)) (131072 * (c.args.threads - (c.args.splits + 1))) c.args.main.now c.in_ok-row.row.items c.requires.main c.in_ok-row.ensures.items,
  shares_begin (scene_of c.args.plan.now) (c.args.splits + 1) c.args.main.now c.in_ok-row.row.items,
)

pub split-requires-clause-seen : goal.split-requires-clause-seen
split-requires-clause-seen c = next_seen (objects_of c.args.main.now) c.args.threads c.args.splits c.loop-o.o c.loop-o.main c.loop-o.row.items c.loop-o.invariant.0 c.index-main-o.result (row_low c.args.main.now c.args.threads c.args.splits _ _ c.loop-o.o c.loop-o.main c.loop-o.row.items c.loop-o.invariant.0 c.loop-o-test.true) (get_or c.loop-o.main c.loop-o.o c.index-main-o.result) refl

pub split-requires-clause-room : goal.split-requires-clause-room
split-requires-clause-room c = next_may (objects_of c.args.main.now) c.args.threads c.args.splits c.loop-o.o c.loop-o.main c.loop-o.row.items c.loop-o.invariant.0 c.index-main-o.result (row_low c.args.main.now c.args.threads c.args.splits _ _ c.loop-o.o c.loop-o.main c.loop-o.row.items c.loop-o.invariant.0 c.loop-o-test.true) (get_or c.loop-o.main c.loop-o.o c.index-main-o.result) refl c.requires.room

pub split-requires-clause-free : goal.split-requires-clause-free
split-requires-clause-free c = next_free (objects_of c.args.main.now) c.args.threads c.args.splits c.loop-o.o c.loop-o.main c.loop-o.row.items c.loop-o.invariant.0 c.index-main-o.result (row_low c.args.main.now c.args.threads c.args.splits _ _ c.loop-o.o c.loop-o.main c.loop-o.row.items c.loop-o.invariant.0 c.loop-o-test.true) (get_or c.loop-o.main c.loop-o.o c.index-main-o.result) refl

pub loop-o-preserved : goal.loop-o-preserved
loop-o-preserved c =
    let low = (row_low c.args.main.now c.args.threads c.args.splits _ _ c.loop-o.o c.loop-o.main c.loop-o.row.items c.loop-o.invariant.0 c.loop-o-test.true) in
    let q = c.in_ok-access.access in
    let k' = c.split.new.self in
    let new = c.in_ok-access.ensures in
    let row = next_row (objects_of c.args.main.now) c.args.threads c.args.splits c.loop-o.o c.loop-o.main c.loop-o.row.items c.loop-o.invariant.0 c.index-main-o.result low k' q c.taken_by-share.result c.requires.room new.object new.same new.free.0 new.free.1 new.split in
    let takes = c.taken_by-share.ensures ∙ ap (λ b. min 4294967295 (takings c.loop-o.o b)) c.body.ensures in
    let shares = next_shares (objects_of c.args.main.now) c.args.threads c.args.splits c.loop-o.o c.loop-o.main c.loop-o.row.items c.loop-o.invariant.0 c.index-main-o.result low (scene_of c.args.plan.now) (c.args.splits + 1) c.args.main.now k' q c.taken_by-share.result c.loop-o.invariant.1 takes new.split in
    (rw c.in_ok-push.ensures.items row, rw c.in_ok-push.ensures.items shares)

pub returns-clause-main : goal.returns-clause-main
returns-clause-main c = row_ends (objects_of c.args.main.now) c.args.threads c.args.splits (131072 * (c.args.threads - c.args.splits)) (131072 * (c.args.threads - (c.args.splits + 1))) c.loop-o.o c.loop-o.main c.loop-o.row.items (row_past c.args.main.now c.loop-o.o c.loop-o-test.false) c.loop-o.invariant.0

pub returns-clause-row : goal.returns-clause-row
returns-clause-row c = row_is_new (objects_of c.args.main.now) c.args.threads c.args.splits (131072 * (c.args.threads - c.args.splits)) (131072 * (c.args.threads - (c.args.splits + 1))) c.loop-o.o c.loop-o.main c.loop-o.row.items (row_past c.args.main.now c.loop-o.o c.loop-o-test.false) c.loop-o.invariant.0

pub returns-clause-shares : goal.returns-clause-shares
returns-clause-shares c =
    let made = c.loop-o.invariant.0 in
    let past = row_past c.args.main.now c.loop-o.o c.loop-o-test.false in
    let ended = c.loop-o-test.false in
    let b = made.count in
    let e = made.long in
    shares_end (scene_of c.args.plan.now) (c.args.splits + 1) c.loop-o.o c.args.main.now c.loop-o.main c.loop-o.row.items ended (omega (arith, past, b)) (omega (arith, e)) c.loop-o.invariant.1
