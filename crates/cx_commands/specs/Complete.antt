-- Where the program may not give up.
use Rattle.std.specs.Prelude.{◌≡◌, ◌⊎◌, ℕ, ◌+◌, List, [], ◌∷◌, take, Option, Some, Ok, Err}
use Rattle.cx_text.specs.declared.fault.Fault.{Fault}
use Rattle.cx_script.specs.Script.{Script, meaning}
use Rattle.cx_script.specs.Numbered.{numbered}
use Rattle.cx_replay.specs.Schedule.{Replays, Replayed}
use Rattle.cx_commands.specs.Top.{limit}
use Rattle.cx_commands.specs.declared.status.Status.{Status}
use Rattle.cx_commands.specs.declared.status.Status.TheVariants as status

-- the status of a replay that ends so
abbrev pub status_with : List ℕ → Status
status_with [] = status.Done
status_with (t ∷ ts) = status.Stuck

-- The status is that of the replay of the scenario that is told, or memory ran out.
abbrev pub CompletesReplay : Option ℕ → Option (List ℕ) → Status → Type 0
CompletesReplay seed left answer = (text : List ℕ) (s : Script) (end_ : Replayed) → left ≡ Some text → meaning limit (take (limit + 1) text) ≡ Ok s → Replays (numbered s) seed end_
    → (answer ≡ status_with end_.live) ⊎ (answer ≡ status.NoMemory)

-- The status is BadScenario where the text that is told has a fault, or memory ran out.
abbrev pub CompletesFault : Option (List ℕ) → Status → Type 0
CompletesFault left answer = (text : List ℕ) (f : Fault) → left ≡ Some text → meaning limit (take (limit + 1) text) ≡ Err f → (answer ≡ status.BadScenario) ⊎ (answer ≡ status.NoMemory)
