use Rattle.cx_script.proofs.WrittenFront.{written_front}
use Rattle.cx_script.proofs.written_is_front.Goals as goal

pub returns : goal.returns
returns c = written_front
