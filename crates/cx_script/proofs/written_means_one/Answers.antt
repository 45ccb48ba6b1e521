use Rattle.cx_script.proofs.WrittenRead.{means_one}
use Rattle.cx_script.proofs.written_means_one.Goals as goal

pub returns : goal.returns
returns c = means_one
