-- What `clap` is told of the words, and what is made of the matches that it gives.
use Rattle.std.specs.Prelude.{◌≡◌, ◌≢◌, ◌⊎◌, ◌==◌, Bool, List, [], ◌∷◌, Option, Some, None, true, false, if◌then◌else◌, option_map, option_and_then, codes}
use Rattle.std.specs.Str.{bytes_eq}
use Rattle.clap.specs.Words.{App, Row, Rule, Shape, Text, fault_of, first_of, new_app, new_rule, subcommand_of, with_rule, with_subcommand}
use Rattle.cx_command_line.specs.Words.{seed_of, items_of}
use Rattle.cx_command_line.specs.Asked.{seeded, made}
use Rattle.cx_command_line.specs.declared.command.Command.{Command}
use Rattle.cx_command_line.specs.declared.command.Command.TheVariants as commands

-- a word with nothing behind it
abbrev pub alone : Text → Shape
alone name = (new_app name).top

-- a word with one more behind it
abbrev pub with_one : Text → Rule → Shape
with_one name rule = (with_rule (new_app name) rule).top

-- the program's name, with no help and no version
abbrev pub program : App
program = record (new_app (codes "cxthread")) { top = record (alone (codes "cxthread")) { disable_help_flag = true; disable_help_subcommand = true; disable_version_flag = true } }

-- the words that the program knows, and what may stand behind each
abbrev pub forms : App
forms = with_subcommand (with_subcommand (with_subcommand (with_subcommand (with_subcommand program (alone (codes "run")))
    (with_one (codes "replay") (new_rule (codes "seed"))))
    (alone (codes "check")))
    (with_one (codes "make") (record (new_rule (codes "items")) { required = true })))
    (alone (codes "races"))

-- the command of a word, with the word behind it if there is one
abbrev pub command_with : Text → Option Text → Option Text → Option Command
command_with w seed items =
    if bytes_eq w (codes "run") then Some commands.Run
    else (if bytes_eq w (codes "replay") then with_seed seed
    else (if bytes_eq w (codes "check") then Some commands.Check
    else (if bytes_eq w (codes "make") then option_map made (option_and_then items_of items)
    else (if bytes_eq w (codes "races") then Some commands.Races
    else None))))
  where
    with_seed : Option Text → Option Command
    with_seed None = Some (commands.Replay None)
    with_seed (Some x) = option_map seeded (seed_of x)

-- the command of a subcommand's name and matches
abbrev pub command_in : Option (Text × List Row) → Option Command
command_in None = None
command_in (Some p) = command_with p.0 (first_of (codes "seed") p.1) (first_of (codes "items") p.1)

-- `clap` would take the word for a flag
abbrev pub is_flag : Text → Bool
is_flag [] = false
is_flag (b ∷ bs) = b == 45

-- What is made of `clap`'s answer to these words: of matches their command, and none of a refusal.
abbrev pub Answers : List Text → Option Command → Type 0
Answers words c = ((fault_of forms words ≡ []) × (c ≡ command_in (subcommand_of forms words))) ⊎ ((fault_of forms words ≢ []) × (c ≡ None))
