use Rattle.std.proofs.Common.{length}
use Rattle.cx_record.proofs.faults.+any_wrong.Given as goal

abbrev pub decreases-any_wrong : goal.decreases-any_wrong
decreases-any_wrong l = length l.fields.now
