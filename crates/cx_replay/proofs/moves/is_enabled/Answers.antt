use Rattle.std.proofs.Common.{◌∙◌}
use Rattle.cx_scene.specs.Scene.{scene_of}
use Rattle.cx_replay.proofs.Advancing.{stands, tried_there}
use Rattle.cx_replay.proofs.Enabling.{enabled_is}
use Rattle.cx_replay.proofs.moves.is_enabled.Goals as goal

pub returns-clause-enabled : goal.returns-clause-enabled
returns-clause-enabled c =
    (rw c.deref.ensures.value at c.can_make_any.ensures) ∙ enabled_is (scene_of c.args.plan.now) c.args.objects.now c.args.runners.now c.args.t.0 c.index-runners-t.result c.offer.new.forms.items (stands c.args.runners.now c.args.t.0 c.index-runners-t.result c.requires c.index-runners-t.is) c.in_ok-offer.ensures

pub returns-clause-tried : goal.returns-clause-tried
returns-clause-tried c = λ r h. (tried_there (scene_of c.args.plan.now) c.args.runners.now c.args.t.0 c.index-runners-t.result c.offer.new.forms.items (stands c.args.runners.now c.args.t.0 c.index-runners-t.result c.requires c.index-runners-t.is) c.in_ok-offer.ensures r h).1
