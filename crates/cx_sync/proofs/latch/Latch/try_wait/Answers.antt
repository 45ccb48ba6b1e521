use Rattle.cx_sync.proofs.Always.{waits_or_not}
use Rattle.cx_sync.proofs.latch.Latch.try_wait.Goals as goal

pub unreachable-requires : goal.unreachable-requires
unreachable-requires g c = let p = c.requires in waits_or_not _ c.args.pass.now.number (c.in-None.ensures.none p.0 p.1).2.holds
