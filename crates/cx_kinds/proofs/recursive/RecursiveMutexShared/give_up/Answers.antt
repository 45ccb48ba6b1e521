use Rattle.std.proofs.Common.{◌<◌, inl, sym, ◌∙◌, subst, rules}
use Rattle.cx_kinds.proofs.Giving.{given_none, given_one, given_all, given_out}
use Rattle.cx_kinds.proofs.recursive.RecursiveMutexShared.give_up.Goals as goal

pub loop-init : goal.loop-init
loop-init g c = (given_none c.args.self.now c.args.token.now, c.count-levels.ensures)

pub returns-then-left-eq0-clause-seen : goal.returns-then-left-eq0-clause-seen
returns-then-left-eq0-clause-seen g c = c.loop.invariant.0.seen

pub returns-then-left-eq0-clause-freed : goal.returns-then-left-eq0-clause-freed
returns-then-left-eq0-clause-freed g c = λ v a enough. given_out c.args.self.now c.loop.counter c.args.token.now c.loop.token c.loop.invariant.0 (sym c.left.ensures ∙ c.if-left-eq0.true) v a enough

pub unlock-requires-clause-token : goal.unlock-requires-clause-token
unlock-requires-clause-token g c =
    let r = c.requires.token in
    let d = c.loop.invariant.0.seen r.0 r.1 in
    (d.0, d.1)

pub loop-preserved : goal.loop-preserved
loop-preserved g c = (given_one c.args.self.now c.loop.counter c.args.token.now c.loop.token c.unlock.new.token c.unlock.result c.loop.invariant.0 (subst (λ n. c.loop.counter < n) c.loop.invariant.1 c.loop-test.true) c.unlock.ensures.none c.unlock.ensures.did c.unlock.ensures.kept c.unlock.ensures.left, c.loop.invariant.1)

pub returns-clause-seen : goal.returns-clause-seen
returns-clause-seen g c = c.loop.invariant.0.seen

pub returns-clause-freed : goal.returns-clause-freed
returns-clause-freed g c = λ v a enough. given_all c.args.self.now c.loop.counter c.args.token.now c.loop.token c.loop.invariant.0 (search rules)

pub returns-clause-free : goal.returns-clause-free
returns-clause-free g c = λ w a. inl (given_all c.args.self.now c.loop.counter c.args.token.now c.loop.token c.loop.invariant.0 (search rules))
