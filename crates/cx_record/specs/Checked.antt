-- What a text means that has a scenario and, behind it, a record of that scenario.
use Rattle.std.specs.Prelude.{ℕ, suc, List, length, drop, Option, Some, None, Result, Ok, Err}
use Rattle.cx_text.specs.declared.fault.Fault.{Fault}
use Rattle.cx_text.specs.Lines.{Line as TextLine, lines_of}
use Rattle.cx_script.specs.Faults.{first_fault, read_all, said_by, version_of}
use Rattle.cx_script.specs.Script.{Script, script_of}
use Rattle.cx_scenario.specs.Front.{front_lines}
use Rattle.cx_history.specs.Histories.{Recorded}
use Rattle.cx_record.specs.Roster.{roster_of}
use Rattle.cx_record.specs.Parsed.{meaning_of}

-- a scenario and a record
pub record Checked : Type 0 where
  pub script : Script
  pub recorded : Recorded

-- the scenario that lines without a fault say
abbrev pub script_in : List TextLine → Script
script_in lines = script_of (version_of lines) (said_by (read_all lines))

-- the scenario, with what the lines behind it mean
abbrev pub with_record : Script → Result Recorded Fault → Result Checked Fault
with_record s (Err f) = Err f
with_record s (Ok r) = Ok (record { script = s; recorded = r })

-- the lines of the scenario have this first fault, or none, and then those behind it are the record's
abbrev pub checked_by : List TextLine → List TextLine → Option Fault → Result Checked Fault
checked_by front lines (Some f) = Err f
checked_by front lines None = with_record (script_in front) (meaning_of (roster_of (script_in front)) (suc (length front)) (drop (length front) lines))

-- the lines up to the `end` of main are the scenario's
abbrev pub checked_lines : List TextLine → Result Checked Fault
checked_lines lines = checked_by (front_lines lines) lines (first_fault (front_lines lines))

-- what a text means as a scenario and its record, or its first fault; no more than one byte past `limit` bytes counts
unfoldable pub whole_meaning : ℕ → List ℕ → Result Checked Fault
whole_meaning limit text = checked_lines (lines_of limit text)
