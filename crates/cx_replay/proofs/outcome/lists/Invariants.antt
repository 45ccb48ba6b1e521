use Rattle.std.proofs.Common.{◌≡◌, map}
use Rattle.cx_history.specs.Views.{listed}
use Rattle.cx_replay.specs.Views.{kept_list}
use Rattle.cx_replay.proofs.outcome.lists.Given as goal

abbrev pub invariant-loop-runner : goal.invariant-loop-runner
invariant-loop-runner l = map listed l.lists.items ≡ map kept_list l.yielded
