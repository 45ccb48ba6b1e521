use Rattle.std.proofs.Common.{rules, sym, ◌∙◌}
use Rattle.cx_scene.specs.Scene.{scene_of}
use Rattle.cx_replay.proofs.Advancing.{stands, begun_before, begun_anew, begun_outside}
use Rattle.cx_replay.proofs.moves.begin_at.Goals as goal

pub returns-then-i-len-clause-begun : goal.returns-then-i-len-clause-begun
returns-then-i-len-clause-begun c = begun_outside (scene_of c.args.plan.now) c.args.runners.now.items c.args.u.0 (search rules)

pub returns-then-begun-clause-begun : goal.returns-then-begun-clause-begun
returns-then-begun-clause-begun c =
    begun_before (scene_of c.args.plan.now) c.args.runners.now.items c.args.u.0 c.index.result.now (stands c.args.runners.now.items c.args.u.0 c.index.result.now (search rules) c.index.ensures) (sym c.is_some-begun.ensures ∙ c.if-begun.true)

pub returns-clause-begun : goal.returns-clause-begun
returns-clause-begun c =
    begun_anew (scene_of c.args.plan.now) c.args.runners.now.items c.args.u.0 c.index.result.now c.in_ok-runner.runner (stands c.args.runners.now.items c.args.u.0 c.index.result.now (search rules) c.index.ensures) (sym c.is_some-begun.ensures ∙ c.if-begun.false) c.in_ok-runner.ensures
