use Rattle.cx_kinds.proofs.Executing.{begun_running, passive_running}
use Rattle.cx_kinds.proofs.once.begin.Goals as goal

pub returns-in-Active : goal.returns-in-Active
returns-in-Active g c = record {
  did = λ v a.
      let old = c.args.token.now in
      let begun = c.in-Active.ensures.begun in
      begun_running c.args.flag.now old.pass c.begin.new.pass old.active c.in-Active.active c.in-Active.at begun.1 begun.2 v a;
}

pub returns-in-Passive : goal.returns-in-Passive
returns-in-Passive g c = record {
  did = λ v a.
      let old = c.args.token.now in
      passive_running c.args.flag.now old.pass c.begin.new.pass old.active c.in-Passive.at c.in-Passive.ensures.begun.1 v a;
}
