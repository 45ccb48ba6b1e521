-- Where memory runs out before a command is known, no more is owed.
use Rattle.std.proofs.Common.{ℕ, List, Option, Some, None, refl, inr}
use Rattle.cx_command_line.specs.declared.command.Command.{Command}
use Rattle.cx_command_line.specs.declared.command.Command.TheVariants as commands
use Rattle.cx_commands.specs.declared.status.Status.TheVariants as status
use Rattle.cx_commands.specs.Commanded.{Completes, CompletesOnUnbuilt, CompletesOnFault}

pub no_memory_completes : (command : Option Command) (left : Option (List ℕ)) → Completes command left status.NoMemory
no_memory_completes None left = tt
no_memory_completes (Some commands.Run) left = λ text s told means built. inr refl
no_memory_completes (Some (commands.Replay seed)) left = λ text s end_ told means ends. inr refl
no_memory_completes (Some commands.Check) left = λ text x told means. inr refl
no_memory_completes (Some (commands.Make items)) left = inr refl
no_memory_completes (Some commands.Races) left = λ text x told means. record { free = λ flaw cycle. inr refl; wrong = λ w. inr refl }

pub no_memory_unbuilt : (command : Option Command) (left : Option (List ℕ)) → CompletesOnUnbuilt command left status.NoMemory
no_memory_unbuilt None left = tt
no_memory_unbuilt (Some commands.Run) left = λ text s told means unbuilt. inr refl
no_memory_unbuilt (Some _) left = tt

pub no_memory_fault : (command : Option Command) (left : Option (List ℕ)) → CompletesOnFault command left status.NoMemory
no_memory_fault None left = tt
no_memory_fault (Some commands.Run) left = λ text f told means. inr refl
no_memory_fault (Some (commands.Replay seed)) left = λ text f told means. inr refl
no_memory_fault (Some commands.Check) left = λ text f told means. inr refl
no_memory_fault (Some (commands.Make items)) left = tt
no_memory_fault (Some commands.Races) left = λ text f told has. inr refl
