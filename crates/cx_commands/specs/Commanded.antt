-- What each status says, by the command that the words ask for.
use Rattle.std.specs.Prelude.{◌≡◌, ◌⊎◌, ℕ, List, Option, Some, None}
use Rattle.cx_io.specs.Edge.{Rose}
use Rattle.cx_command_line.specs.declared.command.Command.{Command}
use Rattle.cx_command_line.specs.declared.command.Command.TheVariants as commands
use Rattle.cx_commands.specs.declared.status.Status.{Status}
use Rattle.cx_commands.specs.Top.{limit, IsReplayed, IsStuck, IsFaulty, Took, TookFront, TookWhatItCould, OfRead}
use Rattle.cx_commands.specs.Checks.{input_limit, IsFoundLegal, IsFoundIllegal, IsFoundFaulty, CompletesCheck, CompletesCheckFault}
use Rattle.cx_run.specs.declared.scenario.Fronts.{Fronts}
use Rattle.cx_run.specs.Runs.{Tally}
use Rattle.cx_commands.specs.Running.{RunsDone, RunsUnwritten, IsNotBuilt, CompletesRun, CompletesUnbuilt}
use Rattle.cx_commands.specs.Complete.{CompletesReplay, CompletesFault}
use Rattle.cx_commands.specs.Making.{Made}
use Rattle.cx_commands.specs.Racing.{races_limit, IsFoundReport, IsFoundWrong, IsFoundFault, CompletesRaces, CompletesRacesFault}
use Rattle.cx_commands.specs.declared.status.Status.TheVariants as status

-- the scenario was run, the replay ended, the record is legal, the scenario was made, or the accesses were reported on, and all was written
abbrev pub SaysDone : Option Command → Option (List ℕ) → Option (List ℕ) → Option (List ℕ) → Tally → Tally → Option Fronts → Type 0
SaysDone None left before after old new fronts = ⊥
SaysDone (Some commands.Run) left before after old new fronts = RunsDone fronts left before after old new
SaysDone (Some (commands.Replay seed)) left before after old new fronts = OfRead limit left (IsReplayed seed) (Took before after)
SaysDone (Some commands.Check) left before after old new fronts = OfRead input_limit left IsFoundLegal (Took before after)
SaysDone (Some (commands.Make items)) left before after old new fronts = Made items (Took before after)
SaysDone (Some commands.Races) left before after old new fronts = OfRead races_limit left IsFoundReport (Took before after)

-- the scenario isn't one that `run` is built for
abbrev pub SaysNotBuilt : Option Command → Option (List ℕ) → Type 0
SaysNotBuilt None left = ⊥
SaysNotBuilt (Some commands.Run) left = IsNotBuilt left
SaysNotBuilt (Some (commands.Replay seed)) left = ⊥
SaysNotBuilt (Some commands.Check) left = ⊥
SaysNotBuilt (Some (commands.Make items)) left = ⊥
SaysNotBuilt (Some commands.Races) left = ⊥

-- a replay got stuck
abbrev pub SaysStuck : Option Command → Option (List ℕ) → Option (List ℕ) → Option (List ℕ) → ℕ → ℕ → Type 0
SaysStuck None left before after faults now = ⊥
SaysStuck (Some commands.Run) left before after faults now = ⊥
SaysStuck (Some (commands.Replay seed)) left before after faults now = OfRead limit left (IsStuck seed) (TookWhatItCould before after faults now)
SaysStuck (Some commands.Check) left before after faults now = ⊥
SaysStuck (Some (commands.Make items)) left before after faults now = ⊥
SaysStuck (Some commands.Races) left before after faults now = ⊥

-- a record that is checked or reported on has a flaw, or in a report a cycle
abbrev pub SaysIllegal : Option Command → Option (List ℕ) → Option (List ℕ) → Option (List ℕ) → ℕ → ℕ → Type 0
SaysIllegal None left before after faults now = ⊥
SaysIllegal (Some commands.Run) left before after faults now = ⊥
SaysIllegal (Some (commands.Replay seed)) left before after faults now = ⊥
SaysIllegal (Some commands.Check) left before after faults now = OfRead input_limit left IsFoundIllegal (TookWhatItCould before after faults now)
SaysIllegal (Some (commands.Make items)) left before after faults now = ⊥
SaysIllegal (Some commands.Races) left before after faults now = OfRead races_limit left IsFoundWrong (TookWhatItCould before after faults now)

-- the text has a fault
abbrev pub SaysBadScenario : Option Command → Option (List ℕ) → Option (List ℕ) → Option (List ℕ) → ℕ → ℕ → Type 0
SaysBadScenario None left before after faults now = ⊥
SaysBadScenario (Some commands.Run) left before after faults now = OfRead limit left IsFaulty (TookWhatItCould before after faults now)
SaysBadScenario (Some (commands.Replay seed)) left before after faults now = OfRead limit left IsFaulty (TookWhatItCould before after faults now)
SaysBadScenario (Some commands.Check) left before after faults now = OfRead input_limit left IsFoundFaulty (TookWhatItCould before after faults now)
SaysBadScenario (Some (commands.Make items)) left before after faults now = ⊥
SaysBadScenario (Some commands.Races) left before after faults now = OfRead races_limit left IsFoundFault (TookWhatItCould before after faults now)

-- the scenario was run, the replay ended, the record is legal, the scenario was made, or the accesses were reported on, and not all was written
abbrev pub SaysWriteFault : Option Command → Option (List ℕ) → Option (List ℕ) → Option (List ℕ) → ℕ → ℕ → Tally → Tally → Type 0
SaysWriteFault None left before after faults now old new = ⊥
SaysWriteFault (Some commands.Run) left before after faults now old new = Rose faults now × RunsUnwritten left before after old new
SaysWriteFault (Some (commands.Replay seed)) left before after faults now old new = Rose faults now × OfRead limit left (IsReplayed seed) (TookFront before after)
SaysWriteFault (Some commands.Check) left before after faults now old new = Rose faults now × OfRead input_limit left IsFoundLegal (TookFront before after)
SaysWriteFault (Some (commands.Make items)) left before after faults now old new = Rose faults now × Made items (TookFront before after)
SaysWriteFault (Some commands.Races) left before after faults now old new = Rose faults now × OfRead races_limit left IsFoundReport (TookFront before after)

-- where neither side fails, the status is that of a run, of the text's replay, of its check, or of its report, or the scenario was made
abbrev pub Completes : Option Command → Option (List ℕ) → Status → Type 0
Completes None left answer = Unit {0}
Completes (Some commands.Run) left answer = CompletesRun left answer
Completes (Some (commands.Replay seed)) left answer = CompletesReplay seed left answer
Completes (Some commands.Check) left answer = CompletesCheck left answer
Completes (Some (commands.Make items)) left answer = (answer ≡ status.Done) ⊎ (answer ≡ status.NoMemory)
Completes (Some commands.Races) left answer = CompletesRaces left answer

-- where reading doesn't fail, a scenario that `run` isn't built for is answered so
abbrev pub CompletesOnUnbuilt : Option Command → Option (List ℕ) → Status → Type 0
CompletesOnUnbuilt None left answer = Unit {0}
CompletesOnUnbuilt (Some commands.Run) left answer = CompletesUnbuilt left answer
CompletesOnUnbuilt (Some (commands.Replay seed)) left answer = Unit {0}
CompletesOnUnbuilt (Some commands.Check) left answer = Unit {0}
CompletesOnUnbuilt (Some (commands.Make items)) left answer = Unit {0}
CompletesOnUnbuilt (Some commands.Races) left answer = Unit {0}

-- where reading doesn't fail, a text with a fault is a bad scenario
abbrev pub CompletesOnFault : Option Command → Option (List ℕ) → Status → Type 0
CompletesOnFault None left answer = Unit {0}
CompletesOnFault (Some commands.Run) left answer = CompletesFault left answer
CompletesOnFault (Some (commands.Replay seed)) left answer = CompletesFault left answer
CompletesOnFault (Some commands.Check) left answer = CompletesCheckFault left answer
CompletesOnFault (Some (commands.Make items)) left answer = Unit {0}
CompletesOnFault (Some commands.Races) left answer = CompletesRacesFault left answer
