use Rattle.std.proofs.Common.{◌≡◌, length}
use Rattle.cx_checker.proofs.showing.empty.Given as goal

abbrev pub invariant-loop-stamp : goal.invariant-loop-stamp
invariant-loop-stamp l = length l.buckets.items ≡ l._stamp
