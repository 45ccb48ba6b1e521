use Rattle.std.specs.Prelude.{Some}
use Rattle.cx_io.proofs.running.try_start.Given as goal

-- the job that is started
abbrev pub ghosts-start_as : goal.ghosts-start_as
ghosts-start_as g a = record { job = Some a.job }
