use Rattle.std.proofs.Common.{rules, arith, ◌≡◌, pos}
use mir.Syntax.{w64}
use mir.Val.{to_z}
use Rattle.cx_sync.proofs.Running.{fails_or_not}
use Rattle.cx_sync.proofs.Executions.{found_active}
use Rattle.cx_sync.proofs.once.OnceFlag.fail.Goals as goal

pub unreachable-requires : goal.unreachable-requires
unreachable-requires g c =
    let p = c.requires.pass in
    let q = c.in-None.ensures.none p.0 p.1 in
    let n : to_z w64 c.args.error ≡ pos c.args.error = search rules in
    fails_or_not _ c.args.pass.now.number (to_z w64 c.args.error) c.args.error n (omega (arith, c.ranges.error)) (found_active c.args.self.now c.args.pass.now c.try_change.new.pass p.0 q.0 p.1 q.1 _ q.2 c.args.active c.requires.active) q.2.holds
