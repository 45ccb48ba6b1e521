-- What the program promises of its race report.
use Rattle.std.specs.Prelude.{◌≡◌, ◌⊎◌, ℕ, suc, ◌+◌, List, length, map, take, drop, Option, Some, None, Ok, Err}
use Rattle.cx_text.specs.declared.fault.Fault.{Fault}
use Rattle.cx_text.specs.Lines.{Line as TextLine, lines_of}
use Rattle.cx_script.specs.Faults.{first_fault}
use Rattle.cx_script.specs.Script.{Script, names_in, name_at}
use Rattle.cx_script.specs.Numbered.{numbered}
use Rattle.cx_scenario.specs.Front.{front_lines}
use Rattle.cx_history.specs.declared.flaw.Flaw.{Flaw}
use Rattle.cx_history.specs.Histories.{Recorded}
use Rattle.cx_history.specs.Flaw.{first_flaw}
use Rattle.cx_record.specs.Roster.{roster_of}
use Rattle.cx_record.specs.Checked.{script_in}
use Rattle.cx_order.specs.Points.{Point}
use Rattle.cx_order.specs.Edges.{HasNoCycle, IsFirstCycle}
use Rattle.cx_races.specs.declared.access.Access.{Access}
use Rattle.cx_races.specs.declared.reporting.Pair.{Pair}
use Rattle.cx_races.specs.Races.{IsReport}
use Rattle.cx_races.specs.Report.{report_text, cycle_line}
use Rattle.cx_accesses.specs.RecordPart.{part_lines, part_meaning}
use Rattle.cx_accesses.specs.AccessLines.{Read, read_line}
use Rattle.cx_accesses.specs.AccessesMeant.{AreMeant, IsFirstFault}
use Rattle.cx_commands.specs.FaultLine.{fault_line}
use Rattle.cx_commands.specs.Checks.{line_of_flaw}
use Rattle.cx_commands.specs.Findings.{IsFlawless}
use Rattle.cx_commands.specs.declared.status.Status.{Status}
use Rattle.cx_commands.specs.declared.status.Status.TheVariants as status

-- how many bytes a scenario, its record and the accesses have at most
abbrev pub races_limit : ℕ
races_limit = 16777216

-- ---- the three parts of a text

-- the lines behind the `end` of main
abbrev pub behind_scenario : List TextLine → List TextLine
behind_scenario lines = drop (length (front_lines lines)) lines

-- those of the record, up to and with the first `done`
abbrev pub record_lines : List TextLine → List TextLine
record_lines lines = part_lines (behind_scenario lines)

-- the number of the record's first line; lines are numbered from 1
abbrev pub record_from : List TextLine → ℕ
record_from lines = suc (length (front_lines lines))

-- the lines behind the record, as lines of accesses
abbrev pub access_lines : List TextLine → List Read
access_lines lines = map read_line (drop (length (record_lines lines)) (behind_scenario lines))

-- the number of the first of these
abbrev pub accesses_from : List TextLine → ℕ
accesses_from lines = record_from lines + length (record_lines lines)

-- ---- what a text means

-- the first part is a scenario without a fault
pub record IsScenario (lines : List TextLine) (s : Script) : Type 0 where
  pub clear : first_fault (front_lines lines) ≡ None
  pub says : script_in (front_lines lines) ≡ s

-- and the second a record of it without a fault
pub record IsRecorded (lines : List TextLine) (s : Script) (r : Recorded) : Type 0 where
  pub scenario : IsScenario lines s
  pub recorded : part_meaning (roster_of s) (record_from lines) (record_lines lines) ≡ Ok r

-- a scenario, a record of it, and accesses to variables with these names
pub record Raced : Type 0 where
  pub script : Script
  pub recorded : Recorded
  pub accesses : List Access
  pub names : List (List ℕ)

-- THE LINES MEAN THESE: no part has a fault
pub record AreRaced (lines : List TextLine) (x : Raced) : Type 0 where
  pub parts : IsRecorded lines x.script x.recorded
  pub accesses_are : AreMeant (names_in x.script) x.recorded (access_lines lines) x.accesses x.names

-- THE LINES HAVE THIS FIRST FAULT: in the first part that has one
pub data HaveFault (lines : List TextLine) (f : Fault) : Type 0 where
  in_scenario : first_fault (front_lines lines) ≡ Some f → HaveFault lines f
  in_record : (s : Script) → IsScenario lines s → part_meaning (roster_of s) (record_from lines) (record_lines lines) ≡ Err f → HaveFault lines f
  in_accesses : (s : Script) (r : Recorded) → IsRecorded lines s r → IsFirstFault (names_in s) r (accesses_from lines) (access_lines lines) f → HaveFault lines f

-- ---- what is written

-- the report of accesses: for each variable that it is free, or its least pair
pub record IsReportText (s : Script) (r : Recorded) (accesses : List Access) (names : List (List ℕ)) (text : List ℕ) : Type 0 where
  pub entries : List (Option Pair)
  pub report : IsReport (numbered s) r accesses (length names) entries
  pub text_is : text ≡ report_text names entries

-- the line of the least point that reaches itself
pub record NamesCycle (s : Script) (r : Recorded) (line : List ℕ) : Type 0 where
  pub point : Point
  pub first : IsFirstCycle (numbered s) r point
  pub line_is : line ≡ cycle_line (name_at (names_in s).threads point.thread) point.item

-- the line of the first flaw
pub record NamesFlaw (s : Script) (r : Recorded) (line : List ℕ) : Type 0 where
  pub flaw : Flaw
  pub first : first_flaw (numbered s) r ≡ Some flaw
  pub line_is : line ≡ line_of_flaw s flaw

-- the record is legal, follows the scenario and has no cycle, and the text is the report of the accesses
pub record IsFoundReport (bytes text : List ℕ) : Type 0 where
  pub raced : Raced
  pub means : AreRaced (lines_of races_limit bytes) raced
  pub flawless : IsFlawless raced.script raced.recorded
  pub no_cycle : HasNoCycle (numbered raced.script) raced.recorded
  pub reports : IsReportText raced.script raced.recorded raced.accesses raced.names text

-- it is legal and follows, and the text names the least point that reaches itself
pub record IsFoundCycle (bytes text : List ℕ) : Type 0 where
  pub raced : Raced
  pub means : AreRaced (lines_of races_limit bytes) raced
  pub flawless : IsFlawless raced.script raced.recorded
  pub names : NamesCycle raced.script raced.recorded text

-- it has a flaw, and the text names the first
pub record IsFoundFlaw (bytes text : List ℕ) : Type 0 where
  pub raced : Raced
  pub means : AreRaced (lines_of races_limit bytes) raced
  pub names : NamesFlaw raced.script raced.recorded text

-- a flaw or a cycle
abbrev pub IsFoundWrong : List ℕ → List ℕ → Type 0
IsFoundWrong bytes text = IsFoundFlaw bytes text ⊎ IsFoundCycle bytes text

-- the text names the first fault of the bytes
pub record IsFoundFault (bytes text : List ℕ) : Type 0 where
  pub fault : Fault
  pub has : HaveFault (lines_of races_limit bytes) fault
  pub text_is : text ≡ fault_line fault

-- ---- where the report may not give up

-- the record has a flaw, or a point that reaches itself
abbrev pub IsWrong : Script → Recorded → Type 0
IsWrong s r = ((f : Flaw) × (first_flaw (numbered s) r ≡ Some f)) ⊎ ((p : Point) × IsFirstCycle (numbered s) r p)

-- The status is Done where a record has neither, Illegal where it has one, or memory ran out.
pub record IsStatusOf (s : Script) (r : Recorded) (answer : Status) : Type 0 where
  pub free : first_flaw (numbered s) r ≡ None → HasNoCycle (numbered s) r → (answer ≡ status.Done) ⊎ (answer ≡ status.NoMemory)
  pub wrong : IsWrong s r → (answer ≡ status.Illegal) ⊎ (answer ≡ status.NoMemory)

-- The status is that of the record that is told.
abbrev pub CompletesRaces : Option (List ℕ) → Status → Type 0
CompletesRaces left answer = (text : List ℕ) (x : Raced) → left ≡ Some text → AreRaced (lines_of races_limit (take (races_limit + 1) text)) x → IsStatusOf x.script x.recorded answer

-- The status is BadScenario where the text that is told has a fault, or memory ran out.
abbrev pub CompletesRacesFault : Option (List ℕ) → Status → Type 0
CompletesRacesFault left answer = (text : List ℕ) (f : Fault) → left ≡ Some text → HaveFault (lines_of races_limit (take (races_limit + 1) text)) f
    → (answer ≡ status.BadScenario) ⊎ (answer ≡ status.NoMemory)
