use Rattle.std.proofs.Common.{◌≡◌, ℕ, take}
use Rattle.cx_history.specs.Histories.{place_from}
use Rattle.cx_checker.specs.Knowledge.{place_in}
use Rattle.cx_checker.proofs.owing.end_of.Given as goal

abbrev pub invariant-loop-i : goal.invariant-loop-i
invariant-loop-i l = (o : ℕ) → place_in l.places o ≡ place_from o 0 (take l.i l.list)
