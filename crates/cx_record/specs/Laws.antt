-- What is proved of the definitions, for the crates above.
use Rattle.std.specs.Prelude.{◌≡◌, ℕ, suc, ◌+◌, ◌^◌, ◌<◌, ◌≤◌, Bool, true, ◌&&◌, IsTrue, List, [], length, map, Some, None, Ok, nat_lt}
use Rattle.cx_names.specs.declared.Outcome.TheVariants as outcomes
use Rattle.cx_names.specs.declared.Reply.{Reply}
use Rattle.cx_names.specs.declared.Reply.TheVariants as replies
use Rattle.cx_machine.specs.Words.{fits_i64}
use Rattle.cx_text.specs.declared.fault.FaultKind.{FaultKind}
use Rattle.cx_text.specs.declared.fault.Fault.{Fault}
use Rattle.cx_text.specs.Lines.{Line as TextLine}
use Rattle.cx_items.specs.declared.item.Item.{Item}
use Rattle.cx_items.specs.declared.item.Item.TheVariants as recorded
use Rattle.cx_script.specs.Script.{Script}
use Rattle.cx_script.specs.Numbered.{IsScript, numbered}
use Rattle.cx_history.specs.Histories.{Recorded}
use Rattle.cx_history.specs.Legal.{EachItem}
use Rattle.cx_history.specs.IsRecord.{IsRecord}
use Rattle.cx_record.specs.Roster.{Roster}
use Rattle.cx_record.specs.RecordFaults.{read_line, fault_on_line, first_fault, IsFirstFault}
use Rattle.cx_record.specs.Printed.{naming_of, printed, record_text}
use Rattle.cx_record.specs.Parsed.{record_meaning}
use Rattle.cx_record.specs.Checked.{whole_meaning}

-- ---- the first fault

-- the first fault is of the least line with a fault, and of its first kind; the lines are numbered from `first`
abbrev pub FirstFaultIsLeast : Type 0
FirstFaultIsLeast = (r : Roster) (first : ℕ) (lines : List TextLine) (f : Fault) → first_fault r first lines ≡ Some f → (n : ℕ) × (kind : FaultKind) × (f ≡ record { line = first + n; kind = kind }) × IsFirstFault r lines n kind

-- where there is no first fault, no line has a fault, and nor has the end of the text
abbrev pub NoFaultIsClean : Type 0
NoFaultIsClean = (r : Roster) (first : ℕ) (lines : List TextLine) → first_fault r first lines ≡ None → (n : ℕ) → n < suc (length lines) → fault_on_line r (map read_line lines) n ≡ None

-- ---- what is printed is parsed back

-- the number of a reply is one of its type: a value has 64 bits with a sign, an error 32 bits
abbrev pub reply_fits : Reply → Bool
reply_fits (replies.Number n) = fits_i64 n
reply_fits (replies.Threw e) = nat_lt e (2 ^ 32)
reply_fits (replies.Outcome (outcomes.Value v)) = fits_i64 v
reply_fits (replies.Outcome (outcomes.Exception e)) = nat_lt e (2 ^ 32)
reply_fits _ = true

-- the numbers of an item that well-formedness leaves open are those of their types
abbrev pub item_fits : Item → Bool
item_fits (recorded.Change o p e) = fits_i64 e.b && reply_fits e.reply
item_fits (recorded.Look o l) = fits_i64 l.b && reply_fits l.reply
item_fits (recorded.Control c) = true
item_fits (recorded.Said r) = reply_fits r

-- this holds of each record of the program: its numbers have these types
abbrev pub HasTypes : Recorded → Type 0
HasTypes r = EachItem r (λ t i x. IsTrue (item_fits x))

-- the text that is printed of a well-formed record is parsed as that record, within any room that the text keeps: no line of it has a fault
abbrev pub PrintedIsParsed : Type 0
PrintedIsParsed = (s : Script) (r : Recorded) (first room : ℕ) → IsScript s → IsRecord (numbered s) r → HasTypes r → length (record_text (naming_of s) r []) ≤ room → record_meaning s first room (record_text (naming_of s) r []) ≡ Ok r

-- the text that is printed of a scenario and of a well-formed record of it means that scenario and that record, within any limit that the text keeps
abbrev pub PrintedIsRead : Type 0
PrintedIsRead = (limit : ℕ) (s : Script) (r : Recorded) → IsScript s → IsRecord (numbered s) r → HasTypes r → length (printed s r []) ≤ limit → whole_meaning limit (printed s r []) ≡ Ok (record { script = s; recorded = r })

-- two well-formed records of a scenario with one text are one
abbrev pub PrintedMeansOne : Type 0
PrintedMeansOne = (s : Script) (q r : Recorded) → IsScript s → IsRecord (numbered s) q → HasTypes q → IsRecord (numbered s) r → HasTypes r → record_text (naming_of s) q [] ≡ record_text (naming_of s) r [] → q ≡ r
