use Rattle.std.proofs.Common.{◌∙◌, sym, subst, arith}
use Rattle.cx_machine.specs.Semaphore.{opening}
use Rattle.cx_turn.specs.Views.{opening_view, split_left, split_right}
use Rattle.cx_object_tests.specs.GoesOn.{kept, counting}
use Rattle.cx_cell.specs.Cells.{IsCellPassWith}
use Rattle.cx_object_tests.proofs.cell.wake_one.Goals as goal

pub sleeper-requires-after_bounds : goal.sleeper-requires-after_bounds
sleeper-requires-after_bounds g c κs within =
    let f = c.split-second.ensures.second _ c.in_ok-cell.ensures.0 in
    let v = split_right (opening_view (opening 0 2) 2 10 0) 1 in
    let e = c.in_ok-theirs.ensures ∙ c.in_ok-cell-2.ensures.ok in
    ((v, subst (λ t. IsCellPassWith kept counting t c.split-second.result v) (sym e) f), omega (arith, f.counted.may))

pub falls_asleep-asleep-requires : goal.falls_asleep-asleep-requires
falls_asleep-asleep-requires g c =
    let f = c.split-second.ensures.first _ c.in_ok-cell.ensures.0 in
    let v = split_left (opening_view (opening 0 2) 2 10 0) 1 in
    let e = c.deref.ensures ∙ c.in_ok-cell-2.ensures.ok in
    (v, subst (λ t. IsCellPassWith kept counting t c.split-second.new.first v) (sym e) f)
