use Rattle.cx_replay.proofs.Replaying.{stuck_follows_so_far}
use Rattle.cx_replay.proofs.stuck_follows_so_far.Goals as goal

pub returns : goal.returns
returns c = stuck_follows_so_far
