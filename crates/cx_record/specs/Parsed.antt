-- What the text of a record means.
use Rattle.std.specs.Prelude.{◌≡◌, ℕ, ◌^◌, ◌<◌, List, map, length, slice_get, Option, Some, None, Result, Ok, Err}
use Rattle.cx_text.specs.declared.fault.Fault.{Fault}
use Rattle.cx_text.specs.Lines.{Line as TextLine, lines_of}
use Rattle.cx_script.specs.Script.{Script}
use Rattle.cx_items.specs.declared.item.Item.{Item}
use Rattle.cx_history.specs.Histories.{Recorded, list_of}
use Rattle.cx_record.specs.Roster.{Roster, roster_of}
use Rattle.cx_record.specs.ItemLines.{lists_from}
use Rattle.cx_record.specs.RecordFaults.{first_fault, said_by, read_line}

-- what the lines of a record without a fault say
abbrev pub record_by : Roster → List TextLine → Recorded
record_by r lines = record { version = r.version; lists = lists_from r 0 (said_by (map read_line lines)) }

-- a record, where its lines have no fault
abbrev pub by_fault : Roster → List TextLine → Option Fault → Result Recorded Fault
by_fault r lines (Some f) = Err f
by_fault r lines None = Ok (record_by r lines)

-- what lines mean, of which the first has this number
abbrev pub meaning_of : Roster → ℕ → List TextLine → Result Recorded Fault
meaning_of r first lines = by_fault r lines (first_fault r first lines)

-- what a text means as a record of a scenario: a list for each thread, or its first fault. Its lines are numbered from `first`, and no more
-- than one byte past `room` bytes counts
unfoldable pub record_meaning : Script → ℕ → ℕ → List ℕ → Result Recorded Fault
record_meaning s first room text = meaning_of (roster_of s) first (lines_of room text)

-- each list has fewer than 2^32 items
abbrev pub AreShort : Recorded → Type 0
AreShort r = (t : ℕ) → length (list_of r t) < 2 ^ 32
