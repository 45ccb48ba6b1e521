use Rattle.std.proofs.Common.{rules, arith, ◌≡◌, pos}
use mir.Syntax.{w64}
use mir.Val.{to_z}
use Rattle.cx_sync.proofs.Always.{releases_or_not}
use Rattle.cx_sync.proofs.semaphore.Semaphore.release.Goals as goal

pub unreachable-requires : goal.unreachable-requires
unreachable-requires g c =
    let p = c.requires.pass in
    let h = (c.in-None.ensures.none p.0 p.1).2.holds in
    let n : to_z w64 c.args.n ≡ pos c.args.n = search rules in
    releases_or_not _ c.args.pass.now.number (to_z w64 c.args.n) c.args.n n (omega (arith, c.ranges.n)) h.0 h.1
