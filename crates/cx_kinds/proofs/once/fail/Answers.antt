use Rattle.std.proofs.Common.{rules, Option, sym, subst}
use Rattle.cx_sync.specs.declared.once.Active.{Active}
use Rattle.cx_kinds.specs.Tokens.{IsOnceToken}
use Rattle.cx_kinds.proofs.Executing.{running_active, failed_running}
use Rattle.cx_kinds.proofs.once.fail.Goals as goal

pub fail-requires-clause-active : goal.fail-requires-clause-active
fail-requires-clause-active g c =
    let old = c.args.token.now in
    running_active c.args.flag.now old.pass old.active c.in-Some.active c.requires.token.0 (search rules) c.requires.token.1

pub returns-in-Some : goal.returns-in-Some
returns-in-Some g c = record {
  did = λ v a.
      let old = c.args.token.now in
      let d = failed_running c.args.flag.now old.pass c.fail.new.pass old.active c.args.error c.fail.result c.fail.ensures.made v a in
      (d.0, subst (λ (o : Option Active). IsOnceToken c.args.flag.now (record { pass = c.fail.new.pass; active = o }) d.0) (sym c.take.ensures.after) d.1, d.2);
}
