use Rattle.cx_script.proofs.WrittenRead.{written_read}
use Rattle.cx_script.proofs.written_is_read.Goals as goal

pub returns : goal.returns
returns c = written_read
