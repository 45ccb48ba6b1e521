use Rattle.cx_script.proofs.Sum.{written_short}
use Rattle.cx_script.proofs.written_is_short.Goals as goal

pub returns : goal.returns
returns c = written_short
