use Rattle.std.proofs.Common.{rules, ◌≡◌, pos}
use mir.Syntax.{w64}
use mir.Val.{to_z}
use Rattle.cx_stop.specs.Kinds.{means}
use Rattle.cx_stop.proofs.Ways.{never_is}
use Rattle.cx_stop.proofs.steps.way_of.Goals as goal

pub returns-in-None-reply : goal.returns-in-None-reply
returns-in-None-reply g c = let a : to_z w64 c.args.id ≡ pos c.args.id = search rules in never_is (means c.args.kept.now) c.args.by c.args.id (to_z w64 c.args.id) (to_z w64 c.args.id) a a c.ranges.id.fits c.requires.fresh c.in-None.ensures.none c.in-None-reply.ensures.none
