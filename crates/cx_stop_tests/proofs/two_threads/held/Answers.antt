use Rattle.std.proofs.Common.{◌≡◌, ◌∙◌, ◌≤◌, sym, subst, arith}
use Rattle.cx_machine.specs.Stop.{Stop, opening}
use Rattle.cx_turn.specs.declared.view.View.{View}
use Rattle.cx_turn.specs.Views.{opening_view, split_left, split_right}
use Rattle.cx_stop.specs.Stops.{IsStopPassWith, IsSourceWith, IsCallbackWith}
use Rattle.cx_stop_tests.proofs.two_threads.held.Goals as goal

-- the two passes after the split
abbrev one : View Stop
one = split_left (opening_view (opening 1) 2 40 0) 4

abbrev two : View Stop
two = split_right (opening_view (opening 1) 2 40 0) 4

pub queue-requires : goal.queue-requires
queue-requires g c = (one, c.split-second.ensures.first _ c.in_ok-state.ensures.pass)

pub leaver-requires-after_bounds : goal.leaver-requires-after_bounds
leaver-requires-after_bounds g c κs within =
    let b = c.split-second.ensures.second _ c.in_ok-state.ensures.pass in
    let k = c.in-Some.ensures.callback in
    let e = c.in_ok-theirs.ensures ∙ c.in_ok-state-2.ensures.ok in
    ((two, subst (λ t. IsStopPassWith t c.split-second.result two) (sym e) b), (k.0, subst (λ t. IsCallbackWith t c.in-Some.callback k.0) (sym e) k.1))

pub request_stop-made-requires-clause-source : goal.request_stop-made-requires-clause-source
request_stop-made-requires-clause-source g c =
    let e = c.deref.ensures ∙ c.in_ok-state-2.ensures.ok in
    let s = c.in_ok-state.ensures.source in
    let one_there = s.1 in
    ((s.0.0, subst (λ t. IsSourceWith t c.in_ok-state.source s.0.0) (sym e) s.0.1), omega (arith, one_there))
