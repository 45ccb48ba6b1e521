use Rattle.cx_replay.proofs.Replaying.{replay_is_legal}
use Rattle.cx_replay.proofs.replay_is_legal.Goals as goal

pub returns : goal.returns
returns c = replay_is_legal
