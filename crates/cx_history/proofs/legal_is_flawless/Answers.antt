use Rattle.cx_history.proofs.Clean.{clean}
use Rattle.cx_history.proofs.legal_is_flawless.Goals as goal

pub returns : goal.returns
returns c = clean
