use Rattle.std.proofs.Common.{length}
use Rattle.cx_text.proofs.reading.+has_literals.Given as goal

abbrev pub decreases-has_literals : goal.decreases-has_literals
decreases-has_literals l = length l.fields.now
