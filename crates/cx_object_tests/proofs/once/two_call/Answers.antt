use Rattle.std.proofs.Common.{◌≡◌, ◌∙◌, ◌≤◌, sym, subst, arith}
use Rattle.cx_machine.specs.Once as once
use Rattle.cx_turn.specs.declared.view.View.{View}
use Rattle.cx_turn.specs.Views.{opening_view, split_left, split_right}
use Rattle.cx_sync.specs.Onces.{IsOncePassWith}
use Rattle.cx_object_tests.proofs.once.two_call.Goals as goal

-- the first pass and the second after the split
abbrev one : View once.Once
one = split_left (opening_view once.Idle 2 10 0) 2

abbrev two : View once.Once
two = split_right (opening_view once.Idle 2 10 0) 2

pub caller-requires-after_bounds : goal.caller-requires-after_bounds
caller-requires-after_bounds g c κs within =
    let b = c.split-second.ensures.second _ c.in_ok-flag.ensures.pass in
    let e = c.in_ok-theirs.ensures ∙ c.in_ok-flag-2.ensures.ok in
    ((two, subst (λ t. IsOncePassWith t c.split-second.result two) (sym e) b), omega (arith, b.counted.may))

pub call_once-mine-requires-clause-pass : goal.call_once-mine-requires-clause-pass
call_once-mine-requires-clause-pass g c =
    let a = c.split-second.ensures.first _ c.in_ok-flag.ensures.pass in
    let e = c.deref.ensures ∙ c.in_ok-flag-2.ensures.ok in
    (one, subst (λ t. IsOncePassWith t c.split-second.new.first one) (sym e) a)

pub call_once-mine-requires-clause-left : goal.call_once-mine-requires-clause-left
call_once-mine-requires-clause-left g c = let a = c.split-second.ensures.first _ c.in_ok-flag.ensures.pass in omega (arith, a.counted.may)
