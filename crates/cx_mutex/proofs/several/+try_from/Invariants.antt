use Rattle.std.proofs.Common.{◌-◌, length}
use Rattle.cx_mutex.proofs.several.+try_from.Given as goal

abbrev pub decreases-try_from : goal.decreases-try_from
decreases-try_from g l = length l.which.now - l.steps
