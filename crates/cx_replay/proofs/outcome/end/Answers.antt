use Rattle.std.proofs.Common.{rules, map, ◌∙◌}
use Rattle.cx_scene.specs.Scene.{scene_of}
use Rattle.cx_history.specs.Views.{listed}
use Rattle.cx_replay.proofs.Outcomes.{outcome_is, none_live}
use Rattle.cx_replay.proofs.outcome.end.Goals as goal

pub returns-then-is_empty-clause-outcome : goal.returns-then-is_empty-clause-outcome
returns-then-is_empty-clause-outcome c =
    outcome_is (scene_of c.args.plan.now) c.args.runners.items (map listed c.in_ok-lists.lists.items) _ c.in_ok-lists.ensures (none_live c.in_ok-live.live.threads.items (search rules) ∙ (rw c.deref.ensures.value at c.in_ok-live.ensures))

pub returns-else-is_empty-clause-outcome : goal.returns-else-is_empty-clause-outcome
returns-else-is_empty-clause-outcome c =
    outcome_is (scene_of c.args.plan.now) c.args.runners.items (map listed c.in_ok-lists.lists.items) _ c.in_ok-lists.ensures (rw c.deref.ensures.value at c.in_ok-live.ensures)
