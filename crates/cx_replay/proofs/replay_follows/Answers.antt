use Rattle.cx_replay.proofs.Replaying.{replay_follows}
use Rattle.cx_replay.proofs.replay_follows.Goals as goal

pub returns : goal.returns
returns c = replay_follows
