use Rattle.std.proofs.Common.{◌≡◌, ℕ, map, drop}
use Rattle.cx_history.specs.Histories.{known_at_start}
use Rattle.cx_checker.specs.Knowledge.{begun_at}
use Rattle.cx_checker.proofs.known.start_of.Given as goal

abbrev pub invariant-loop-i : goal.invariant-loop-i
invariant-loop-i l = (o : ℕ) → known_at_start (map (begun_at o) l.begun) l.t ≡ known_at_start (drop l.i (map (begun_at o) l.begun)) l.t
