use Rattle.cx_history.proofs.Sound.{sound}
use Rattle.cx_history.proofs.flawless_is_legal.Goals as goal

pub returns : goal.returns
returns c = sound
