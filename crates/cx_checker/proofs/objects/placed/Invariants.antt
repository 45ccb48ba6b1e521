use Rattle.std.proofs.Common.{◌≡◌, map}
use Rattle.cx_checker.specs.Views.{kept_in}
use Rattle.cx_checker.proofs.objects.placed.Given as goal

abbrev pub invariant-loop-changes : goal.invariant-loop-changes
invariant-loop-changes l = l.histories.items ≡ map kept_in l.yielded
