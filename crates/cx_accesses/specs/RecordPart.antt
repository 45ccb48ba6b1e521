-- The record in a text that goes on behind it.
use Rattle.std.specs.Prelude.{◌≡◌, ◌≤◌, ℕ, zero, suc, ◌+◌, ◌-◌, ◌==◌, ◌&&◌, ◌||◌, Bool, true, false, List, [], ◌∷◌, map, length, take, drop, Option, Some, None, Result, Ok, Err, nat_lt, if◌then◌else◌, codes}
use Rattle.std.specs.Str.{bytes_eq}
use Rattle.cx_text.specs.declared.fault.FaultKind.{FaultKind}
use Rattle.cx_text.specs.declared.fault.FaultKind.TheVariants as faults
use Rattle.cx_text.specs.declared.fault.Fault.{Fault}
use Rattle.cx_text.specs.Lines.{Line as TextLine, lines_of, words_of}
use Rattle.cx_script.specs.Script.{Script}
use Rattle.cx_history.specs.Histories.{Recorded}
use Rattle.cx_record.specs.Roster.{Roster, roster_of}
use Rattle.cx_record.specs.ItemLines.{Part, AnItem, part_of}
use Rattle.cx_record.specs.RecordFaults.{Read, read_line, on_said, first_fault}
use Rattle.cx_record.specs.Parsed.{by_fault}

-- how many items the record has at most
abbrev pub item_limit : ℕ
item_limit = 65536

-- ---- where it ends

-- the one word `done`
abbrev pub is_done : List (List ℕ) → Bool
is_done (w ∷ []) = bytes_eq (codes "done") w
is_done _ = false

abbrev pub ends_record : TextLine → Bool
ends_record line = is_done (words_of line.bytes)

-- how many lines there are up to and with the first `done`; all where there is none
abbrev pub count_to_done : List TextLine → ℕ
count_to_done [] = 0
count_to_done (l ∷ ls) = suc (if ends_record l then 0 else count_to_done ls)

abbrev pub part_lines : List TextLine → List TextLine
part_lines lines = take (count_to_done lines) lines

-- ---- its limit

abbrev pub is_item : Part → Bool
is_item AnItem = true
is_item _ = false

-- a line that says an item, whether or not it may stand where it does
abbrev pub says_item : Read → Bool
says_item read = on_said read.said (λ l. is_item (part_of l.form))

-- this line where no more items are left, and else what follows
abbrev pub past_here : ℕ → ℕ → Option ℕ → Option ℕ
past_here line zero rest = Some line
past_here line (suc more) rest = rest

-- the number of the line of the item that is one past so many, where there is one; the number of the first line is `line`
abbrev pub item_past : ℕ → ℕ → List Read → Option ℕ
item_past line many [] = None
item_past line many (x ∷ xs) = if says_item x then past_here line many (item_past (suc line) (many - 1) xs) else item_past (suc line) many xs

-- the kinds that are tried on a line before TooMany
abbrev pub is_tried_before : FaultKind → Bool
is_tried_before faults.NotAscii = true
is_tried_before faults.TooLong = true
is_tried_before faults.BadVersion = true
is_tried_before faults.BadWord = true
is_tried_before _ = false

abbrev pub is_sooner : Fault → ℕ → Bool
is_sooner f line = nat_lt f.line line || ((f.line == line) && is_tried_before f.kind)

-- the first fault of lines where the line of this number, if any, has one item too many
abbrev pub with_limit : Option ℕ → Option Fault → Option Fault
with_limit None fault = fault
with_limit (Some line) None = Some (record { line = line; kind = faults.TooMany })
with_limit (Some line) (Some f) = if is_sooner f line then Some f else Some (record { line = line; kind = faults.TooMany })

-- ---- what it means

-- what lines mean as a record of so many items at most, of which the first has this number
abbrev pub part_meaning : Roster → ℕ → List TextLine → Result Recorded Fault
part_meaning r first lines = by_fault r lines (with_limit (item_past first item_limit (map read_line lines)) (first_fault r first lines))

-- a record in the front of a text, the length of that front, and the number of the next line
pub record IsRecordPart (s : Script) (first room : ℕ) (text : List ℕ) (r : Recorded) (len next : ℕ) : Type 0 where
  pub within : len ≤ length text
  pub lines : lines_of room (take len text) ≡ part_lines (lines_of room text)
  pub means : part_meaning (roster_of s) first (part_lines (lines_of room text)) ≡ Ok r
  pub next_is : next ≡ first + length (part_lines (lines_of room text))
  pub rest : lines_of (room - len) (drop len text) ≡ drop (length (part_lines (lines_of room text))) (lines_of room text)
