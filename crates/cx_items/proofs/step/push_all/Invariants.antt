use Rattle.std.proofs.Common.{◌≡◌, ◌++◌, take}
use Rattle.cx_items.proofs.step.push_all.Given as goal

abbrev pub invariant-loop-n : goal.invariant-loop-n
invariant-loop-n l = l.few ≡ l.initial.few ++ take l.n-index l.numbers
