use Rattle.cx_script.proofs.Walking.{walk_is_first}
use Rattle.cx_script.proofs.walk_finds_first.Goals as goal

pub returns : goal.returns
returns c = walk_is_first
