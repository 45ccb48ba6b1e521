use Rattle.cx_replay.proofs.Followed.{each_turn_is_legal}
use Rattle.cx_replay.proofs.each_turn_is_legal.Goals as goal

pub returns : goal.returns
returns c = each_turn_is_legal
