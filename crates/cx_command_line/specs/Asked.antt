-- What the words of the command line ask for.
use Rattle.std.specs.Prelude.{ℕ, ◌≤◌, Bool, true, false, List, [], ◌∷◌, Option, Some, None, if◌then◌else◌, option_map, codes}
use Rattle.std.specs.Str.{bytes_eq}
use Rattle.cx_command_line.specs.Words.{seed_of, items_of}
use Rattle.cx_command_line.specs.declared.command.Command.{Command}
use Rattle.cx_command_line.specs.declared.command.Command.TheVariants as commands

abbrev pub seeded : ℕ → Command
seeded n = commands.Replay (Some n)

abbrev pub made : ℕ → Command
made n = commands.Make n

-- `run`, `replay`, or `replay` and a seed, or `check`, or `races`, or `make` and a number of items
abbrev pub command_of : List (List ℕ) → Option Command
command_of (w ∷ []) =
    if bytes_eq w (codes "run") then Some commands.Run
    else (if bytes_eq w (codes "replay") then Some (commands.Replay None)
    else (if bytes_eq w (codes "check") then Some commands.Check
    else (if bytes_eq w (codes "races") then Some commands.Races
    else None)))
command_of (w ∷ x ∷ []) =
    if bytes_eq w (codes "replay") then option_map seeded (seed_of x)
    else (if bytes_eq w (codes "make") then option_map made (items_of x)
    else None)
command_of _ = None

-- a command that reads nothing
abbrev pub reads_nothing : Option Command → Bool
reads_nothing (Some (commands.Make n)) = true
reads_nothing _ = false

-- its number of items is from 1 to 4,800
abbrev pub IsInRange : Command → Type 0
IsInRange (commands.Make n) = (1 ≤ n) × (n ≤ 4800)
IsInRange _ = Unit {0}
