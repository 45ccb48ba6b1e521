use Rattle.std.proofs.Common.{rules, Option, sym, subst}
use Rattle.cx_sync.specs.declared.once.Active.{Active}
use Rattle.cx_kinds.specs.Tokens.{IsOnceToken}
use Rattle.cx_kinds.proofs.Executing.{running_active, finished_running}
use Rattle.cx_kinds.proofs.once.finish.Goals as goal

pub finish-requires-clause-active : goal.finish-requires-clause-active
finish-requires-clause-active g c =
    let old = c.args.token.now in
    running_active c.args.flag.now old.pass old.active c.in-Some.active c.requires.token.0 (search rules) c.requires.token.1

pub returns-in-Some : goal.returns-in-Some
returns-in-Some g c = record {
  did = λ v a.
      let old = c.args.token.now in
      let d = finished_running c.args.flag.now old.pass c.finish.new.pass old.active c.finish.result c.finish.ensures.made v a in
      (d.0, subst (λ (o : Option Active). IsOnceToken c.args.flag.now (record { pass = c.finish.new.pass; active = o }) d.0) (sym c.take.ensures.after) d.1, d.2);
}
