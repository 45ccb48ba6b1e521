use Rattle.std.proofs.Common.{ap}
use Rattle.cx_run.specs.Runs.{running_at}
use Rattle.cx_run.proofs.Joined.{one_joined, running_joined, none_joined}
use Rattle.cx_run.proofs.Parts.{runs_may}
use Rattle.cx_run.proofs.run.await_place.Goals as goal

pub await_thread-requires-clause-may : goal.await_thread-requires-clause-may
await_thread-requires-clause-may g c κs within = runs_may c.args.place c.in-Running.thread c.in-Running.is c.requires.may

pub returns-in-Running : goal.returns-in-Running
returns-in-Running g c = record { out = λ a b n out. one_joined a b _ _ _ _ n (running_joined c.args.place a b _ _ n (ap running_at c.in-Running.is) out) c.await_thread.ensures.started c.await_thread.ensures.joins }

pub returns-in-Waiting : goal.returns-in-Waiting
returns-in-Waiting g c = record { out = λ a b n out. none_joined c.args.place a b _ _ n (ap running_at c.in-Waiting.is) out }

pub returns-in-Ended : goal.returns-in-Ended
returns-in-Ended g c = record { out = λ a b n out. none_joined c.args.place a b _ _ n (ap running_at c.in-Ended.is) out }
