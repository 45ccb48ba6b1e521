use Rattle.std.proofs.Common.{◌∙◌, sym, subst, arith}
use Rattle.cx_machine.specs.Condition as condition
use Rattle.cx_machine.specs.Shared as machine
use Rattle.cx_turn.specs.declared.view.View.{View}
use Rattle.cx_turn.specs.Views.{opening_view, split_left, split_right}
use Rattle.cx_condvar.specs.declared.condvar.CondvarAny.{CondvarAny}
use Rattle.cx_condvar.specs.Condvars.{IsCondPass}
use Rattle.cx_condvar_tests.specs.MayWait.{MayEnter}
use Rattle.cx_condvar_tests.proofs.waiting.one_waits_shared.Goals as goal

abbrev passes : View condition.Condition
passes = opening_view condition.opening 2 200000000 0

pub shared_waiter-requires-after_bounds : goal.shared_waiter-requires-after_bounds
shared_waiter-requires-after_bounds g c κs within =
    let at = c.in_ok-theirs.ensures ∙ c.in_ok-condition-2.ensures.ok in
    let is = c.split-pass.ensures.second passes c.in_ok-condition.ensures.pass in
    let key = c.in_ok-mutex.ensures.pass in (
      subst (λ (t : CondvarAny). MayEnter t c.split-pass.result) (sym at) ((split_right passes 2, is), c.split-pass.ensures.out, (let left = is.counted.may in omega arith)),
      (opening_view machine.opening 1 4 0, key),
      c.in_ok-mutex.ensures.bare,
      (let left = key.counted.may in omega arith),
    )

pub rouses-roused-requires : goal.rouses-roused-requires
rouses-roused-requires g c = subst (λ (t : CondvarAny). IsCondPass t c.split-pass.new.first) (sym (c.deref.ensures ∙ c.in_ok-condition-2.ensures.ok)) (split_left passes 2, c.split-pass.ensures.first passes c.in_ok-condition.ensures.pass)
