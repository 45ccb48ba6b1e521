use Rattle.std.proofs.Common.{length}
use Rattle.cx_record.proofs.faults.+any_unknown.Given as goal

abbrev pub decreases-any_unknown : goal.decreases-any_unknown
decreases-any_unknown l = length l.fields.now
