-- The exit statuses of the process.
use Rattle.std.specs.Prelude.{ℕ}
use Rattle.cx_commands.specs.declared.status.Status.{Status}
use Rattle.cx_commands.specs.declared.status.Status.TheVariants as status

-- 6 isn't used
abbrev pub exit_number : Status → ℕ
exit_number status.Done = 0
exit_number status.Illegal = 1
exit_number status.BadWords = 2
exit_number status.BadScenario = 3
exit_number status.ReadFault = 4
exit_number status.WriteFault = 5
exit_number status.Stuck = 7
exit_number status.NoMemory = 8
exit_number status.NotBuilt = 9
