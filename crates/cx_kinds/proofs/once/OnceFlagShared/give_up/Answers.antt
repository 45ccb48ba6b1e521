use Rattle.std.proofs.Common.{rules, Option, sym, subst}
use Rattle.cx_sync.specs.declared.once.Active.{Active}
use Rattle.cx_kinds.specs.Tokens.{IsOnceToken}
use Rattle.cx_kinds.proofs.Executing.{running_active, given_up_running}
use Rattle.cx_kinds.proofs.once.OnceFlagShared.give_up.Goals as goal

pub fail-requires-clause-active : goal.fail-requires-clause-active
fail-requires-clause-active g c =
    let old = c.args.token.now in
    running_active c.args.self.now old.pass old.active c.in-Some.active c.requires.token.0 (search rules) c.requires.token.1

pub returns-in-Some-clause-seen : goal.returns-in-Some-clause-seen
returns-in-Some-clause-seen g c = λ v a.
    let old = c.args.token.now in
    let d = given_up_running c.args.self.now old.pass c.fail.new.pass old.active 0 c.fail.result c.fail.ensures.made v a in
    (d.0, subst (λ (o : Option Active). IsOnceToken c.args.self.now (record { pass = c.fail.new.pass; active = o }) d.0) (sym c.take.ensures.after) d.1, d.2)
