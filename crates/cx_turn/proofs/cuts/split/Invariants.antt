use Rattle.std.proofs.Common.{None}
use Rattle.cx_turn.proofs.cuts.split.Given as goal

abbrev pub ghosts-split_as : goal.ghosts-split_as
ghosts-split_as g a = record { calls = a.calls; share = 0; id = None }
