use Rattle.cx_run.proofs.Stepped.{own_run, back_kept, back_run, on_ok}
use Rattle.cx_run.proofs.run.Run.complete.Goals as goal

pub gather-requires-clause-run : goal.gather-requires-clause-run
gather-requires-clause-run g c κs within = own_run c.make_main.new.self c.in_ok-make_main.ensures.run

pub returns-clause-kept : goal.returns-clause-kept
returns-clause-kept g c = back_kept c.make_main.new.self c.gather.new.self c.in_ok-make_main.ensures.run c.gather.ensures.kept

pub returns-clause-run : goal.returns-clause-run
returns-clause-run g c = on_ok c.gather.result c.gather.ensures.run (λ run. back_run c.make_main.new.self c.gather.new.self c.in_ok-make_main.ensures.run run)

pub returns-clause-tally : goal.returns-clause-tally
returns-clause-tally g c = on_ok c.gather.result c.gather.ensures.tally (λ more base h. more base (c.in_ok-make_main.ensures.tally base h))

pub returns-clause-out : goal.returns-clause-out
returns-clause-out g c = λ a b h. c.gather.ensures.out a b (c.make_main.ensures.out a b h)
