-- What a reader makes of all lines in the end.
use Rattle.std.specs.Prelude.{◌≡◌, ℕ, ◌<◌, Option, Some, None, false, List, [], ◌∷◌, ◌++◌, map, length, if◌then◌else◌}
use Rattle.std.specs.Str.{bytes_eq}
use Rattle.cx_scene.specs.declared.call.Call.{Call}
use Rattle.cx_text.specs.declared.fault.Fault.{Fault}
use Rattle.cx_text.specs.Lines.{Line}
use Rattle.cx_script.specs.Faults.{first_fault, said_by, read_all}
use Rattle.cx_script.specs.Script.{Script, as_list, declarations_of, name_at, script_of}
use Rattle.cx_scenario.specs.Steps.{GroupOf, GroupsState, State}

-- all bodies, with the one under way
abbrev pub all_groups : GroupsState → List GroupOf
all_groups g = g.done ++ as_list g.open_one

-- the calls of a thread: none where it has no body
abbrev pub calls_in : List GroupOf → List ℕ → List Call
calls_in [] name = []
calls_in (g ∷ gs) name = if bytes_eq g.thread name then g.calls else calls_in gs name

abbrev pub bodies_in : State → List (List Call)
bodies_in s = map (calls_in (all_groups s.groups)) s.names.threads

-- the scenario that is read
abbrev pub script_in : State → Script
script_in s = record { version = 1; declarations = declarations_of s.names s.kept; bodies = bodies_in s }

-- each name is another than those after it
abbrev pub AllApart : List (List ℕ) → Type 0
AllApart [] = Unit {0}
AllApart (n ∷ ns) = ((i : ℕ) → i < length ns → bytes_eq n (name_at ns i) ≡ false) × AllApart ns

-- what reading these lines gives: their first fault, or else the scenario
abbrev pub ReadsTo : List Line → Option Fault → State → Type 0
ReadsTo lines (Some f) s = first_fault lines ≡ Some f
ReadsTo lines None s = (first_fault lines ≡ None) × (script_of 1 (said_by (read_all lines)) ≡ script_in s) × AllApart s.names.threads
