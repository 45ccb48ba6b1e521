-- Where the record in the front of a text ends, and what reading it without the limit of its items found.
use Rattle.std.specs.Prelude.{◌≡◌, ◌≤◌, ◌+◌, ℕ, suc, List, length, take, map, Option, Some, None, Result, Ok, Err}
use Rattle.cx_text.specs.declared.fault.Fault.{Fault}
use Rattle.cx_text.specs.Lines.{lines_of}
use Rattle.cx_scenario.specs.Front.{bytes_of}
use Rattle.cx_scenario.specs.declared.reading.ReadErr.{ReadErr}
use Rattle.cx_scenario.specs.declared.reading.ReadErr.TheVariants as errors
use Rattle.cx_history.specs.declared.record.Record.{Record}
use Rattle.cx_record.specs.RecordFaults.{read_line}
use Rattle.cx_accesses.specs.declared.part.End.{End}
use Rattle.cx_accesses.specs.RecordPart.{item_limit, count_to_done, item_past}

-- the first fault, if any
abbrev pub fault_found : Result Record ReadErr → Option Fault
fault_found (Ok r) = None
fault_found (Err (errors.Bad f)) = Some f
fault_found (Err errors.NoMemory) = None

-- where the record in the front of a text ends
pub record IsEnd (first room : ℕ) (text : List ℕ) (e : End) : Type 0 where
  pub within : e.len ≤ length text
  pub len_is : e.len ≡ bytes_of (count_to_done (lines_of room text)) (take (suc room) text)
  pub next_is : e.next ≡ first + count_to_done (lines_of room text)
  pub past_is : e.past ≡ item_past first item_limit (map read_line (lines_of room (take e.len text)))
