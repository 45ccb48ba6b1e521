use Rattle.std.proofs.Common.{refl}
use Rattle.cx_barrier.proofs.Going.{arrives}
use Rattle.cx_barrier.proofs.barrier.Barrier.arrive.Goals as goal

pub end_phase-completed-requires-clause-completing : goal.end_phase-completed-requires-clause-completing
end_phase-completed-requires-clause-completing g c = c.in-Ok.ensures.counted.0

pub returns-in-Ok-clause-arrived : goal.returns-in-Ok-clause-arrived
returns-in-Ok-clause-arrived g c = arrives c.args.self.now c.args.pass.now c.arrive_only.new.pass c.end_phase-completed.new.pass _ c.in-Ok.counted c.end_phase-completed.result _ refl refl c.in-Ok.ensures.counted c.end_phase-completed.ensures.last c.end_phase-completed.ensures.ended
