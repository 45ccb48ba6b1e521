use Rattle.std.proofs.Common.{◌≡◌, ℕ}
use Rattle.cx_checker.specs.Knowledge.{place_in}
use Rattle.cx_checker.proofs.Knowing.{raised_below}
use Rattle.cx_checker.proofs.places.Places.raise.Given as goal

abbrev pub invariant-loop-o : goal.invariant-loop-o
invariant-loop-o l = (q : ℕ) → place_in l.self q ≡ raised_below l.o q (place_in l.fn.self q) (place_in l.other q)
