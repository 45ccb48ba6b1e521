use Rattle.std.proofs.Common.{refl}
use Rattle.cx_work.specs.Bodies.{Gives}
use Rattle.cx_jthread.specs.Threads.{job_to_join}
use Rattle.cx_run.proofs.Parts.{may_run_job, never_refused, from_some}
use Rattle.cx_run.proofs.run.await_thread.Goals as goal

pub join-requires-clause-needs : goal.join-requires-clause-needs
join-requires-clause-needs g c κs within = may_run_job c.args.thread c.requires.may

pub returns-clause-gives : goal.returns-clause-gives
returns-clause-gives g c w is = from_some (λ v. Gives v c.in-Ok.ended) (job_to_join c.args.thread) w is c.in-Ok.ensures.gives

pub unreachable-requires : goal.unreachable-requires
unreachable-requires g c = never_refused c.args.thread (record { 0 = 0 }) c.join.result _ c.requires.may refl c.join.ensures.joined c.in-Err.is
