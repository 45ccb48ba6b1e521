use Rattle.std.proofs.Common.{◌∙◌, ap, subst, arith}
use Rattle.cx_machine.specs.Mutex.{Mutex}
use Rattle.cx_turn.specs.declared.view.View.{View}
use Rattle.cx_mutex.specs.Recursives.{HasLevels}
use Rattle.cx_kinds.proofs.Holding.{with_levels}
use Rattle.cx_kinds.proofs.recursive.unlock.Goals as goal

pub unlock-requires-clause-level : goal.unlock-requires-clause-level
unlock-requires-clause-level g c =
    let a = c.requires.token.1 in
    (c.in_ok-level.ensures.some.0 ∙ a.own, c.take.new.self.count, subst (λ n. HasLevels c.args.mutex.now c.args.token.now.pass n) c.in_ok-level.ensures.some.1 a.levels)

pub returns-clause-did : goal.returns-clause-did
returns-clause-did g c = λ v a.
    let token = c.args.token.now in
    let left = c.take.new.self in
    let d = c.unlock.ensures.made v a.pass in
    let less = c.in_ok-level.ensures.some.1 in
    let few = a.few in
    (d.0, with_levels c.args.mutex.now token.pass c.unlock.new.pass token.levels left v d.0 a d.1 (ap (λ (u : View Mutex). u.number) d.2.view) c.take.ensures.by (c.unlock.ensures.less left.count (subst (λ n. HasLevels c.args.mutex.now token.pass n) less a.levels)) (omega (arith, less, few)), d.2)
