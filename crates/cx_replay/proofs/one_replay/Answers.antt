use Rattle.cx_replay.proofs.Replaying.{one_replay}
use Rattle.cx_replay.proofs.one_replay.Goals as goal

pub returns : goal.returns
returns c = one_replay
