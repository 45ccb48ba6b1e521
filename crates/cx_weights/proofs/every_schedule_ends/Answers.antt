use Rattle.cx_weights.proofs.Runs.{every_schedule_ends}
use Rattle.cx_weights.proofs.every_schedule_ends.Goals as goal

pub returns : goal.returns
returns c = every_schedule_ends
