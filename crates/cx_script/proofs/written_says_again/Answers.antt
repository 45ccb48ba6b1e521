use Rattle.cx_script.proofs.Written.{written_says}
use Rattle.cx_script.proofs.written_says_again.Goals as goal

pub returns : goal.returns
returns c = written_says
