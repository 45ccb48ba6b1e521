use Rattle.std.proofs.Common.{◌≡◌, ◌∙◌, ◌<◌, false, sym, ap, subst, arith}
use Rattle.cx_machine.specs.Condition as condition
use Rattle.cx_machine.specs.Mutex as machine
use Rattle.cx_turn.specs.declared.view.View.{View}
use Rattle.cx_turn.specs.declared.pass.Pass.{Pass}
use Rattle.cx_turn.specs.Views.{opening_view, split_left, split_right}
use Rattle.cx_mutex.specs.declared.mutex.Mutex.{Mutex}
use Rattle.cx_mutex.specs.Mutexes.{IsMutexPass, IsBare}
use Rattle.cx_condvar.specs.declared.condvar.CondvarAny.{CondvarAny}
use Rattle.cx_condvar.specs.Condvars.{IsCondPass, IsOut}
use Rattle.cx_loops.proofs.conditions.ping_pong.Goals as goal

abbrev keys : View machine.Mutex
keys = opening_view (machine.opening false 1) 2 260000000 0

abbrev passes : View condition.Condition
passes = opening_view condition.opening 2 260000000 0

-- what is so of an object is so of its equal
same_mutex : (k : Pass machine.Mutex) (x y : Mutex) → x ≡ y → IsMutexPass y k × IsBare y k → IsMutexPass x k × IsBare x k
same_mutex k x y e is = subst (λ (t : Mutex). IsMutexPass t k × IsBare t k) (sym e) is

same_condition : (p : Pass condition.Condition) (x y : CondvarAny) → x ≡ y → IsCondPass y p × IsOut y p → IsCondPass x p × IsOut x p
same_condition p x y e is = subst (λ (t : CondvarAny). IsCondPass t p × IsOut t p) (sym e) is

pub second-requires-after_bounds : goal.second-requires-after_bounds
second-requires-after_bounds g c κs within =
    let at_mutex = c.in_ok-try_clone.ensures ∙ c.in_ok-mutex-2.ensures.ok in
    let at_full = c.in_ok-try_clone-2.ensures ∙ c.in_ok-full-2.ensures.ok in
    let at_empty = c.in_ok-try_clone-3.ensures ∙ c.in_ok-empty-2.ensures.ok in (
      same_mutex c.split-its_key.result _ _ at_mutex ((split_right keys 130000000, c.split-its_key.ensures.second keys c.in_ok-mutex.ensures.pass), c.split-its_key.ensures.bare),
      (let one = ap (λ (t : Mutex). t.numbers) at_mutex ∙ c.in_ok-mutex.ensures.numbers in omega (arith, one)),
      same_condition c.split-its_full.result _ _ at_full ((split_right passes 130000000, c.split-its_full.ensures.second passes c.in_ok-full.ensures.pass), c.split-its_full.ensures.out),
      (same_condition c.split-its_empty.result _ _ at_empty ((split_right passes 130000000, c.split-its_empty.ensures.second passes c.in_ok-empty.ensures.pass), c.split-its_empty.ensures.out)).0,
    )

pub hand_over_often-made-requires-clause-key : goal.hand_over_often-made-requires-clause-key
hand_over_often-made-requires-clause-key g c = same_mutex c.split-its_key.new.first _ _ (c.deref.ensures ∙ c.in_ok-mutex-2.ensures.ok) ((split_left keys 130000000, c.split-its_key.ensures.first keys c.in_ok-mutex.ensures.pass), c.split-its_key.ensures.owner false c.in_ok-mutex.ensures.bare)

pub hand_over_often-made-requires-clause-mine : goal.hand_over_often-made-requires-clause-mine
hand_over_often-made-requires-clause-mine g c = same_condition c.split-its_empty.new.first _ _ (c.deref-2.ensures ∙ c.in_ok-empty-2.ensures.ok) ((split_left passes 130000000, c.split-its_empty.ensures.first passes c.in_ok-empty.ensures.pass), c.split-its_empty.ensures.same false c.in_ok-empty.ensures.out)

pub hand_over_often-made-requires-clause-other : goal.hand_over_often-made-requires-clause-other
hand_over_often-made-requires-clause-other g c = (same_condition c.split-its_full.new.first _ _ (c.deref-3.ensures ∙ c.in_ok-full-2.ensures.ok) ((split_left passes 130000000, c.split-its_full.ensures.first passes c.in_ok-full.ensures.pass), c.split-its_full.ensures.same false c.in_ok-full.ensures.out)).0

pub hand_over_often-made-requires-clause-number : goal.hand_over_often-made-requires-clause-number
hand_over_often-made-requires-clause-number g c = let one = ap (λ (t : Mutex). t.numbers) (c.deref.ensures ∙ c.in_ok-mutex-2.ensures.ok) ∙ c.in_ok-mutex.ensures.numbers in omega (arith, one)
