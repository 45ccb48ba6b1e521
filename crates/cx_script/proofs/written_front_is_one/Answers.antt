use Rattle.cx_script.proofs.FrontLength.{front_is_one}
use Rattle.cx_script.proofs.written_front_is_one.Goals as goal

pub returns : goal.returns
returns c = front_is_one
