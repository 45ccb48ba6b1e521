-- What a reader of a record's lines keeps of those before, and how one line more changes it.
use Rattle.std.specs.Prelude.{◌≡◌, ℕ, suc, ◌+◌, Bool, true, false, not, ◌||◌, List, [], ◌∷◌, ◌++◌, map, length, Option, Some, None, nat_lt, if◌then◌else◌}
use Rattle.std.specs.List.{list_all}
use Rattle.cx_text.specs.declared.fault.FaultKind.{FaultKind}
use Rattle.cx_text.specs.declared.fault.FaultKind.TheVariants as faults
use Rattle.cx_text.specs.declared.fault.Fault.{Fault}
use Rattle.cx_text.specs.Lines.{Line as TextLine, is_text_byte}
use Rattle.cx_text.specs.Words.{or_some}
use Rattle.cx_items.specs.declared.item.Item.{Item}
use Rattle.cx_record.specs.Roster.{Roster}
use Rattle.cx_record.specs.ItemLines.{Line, item_said, lists_from, as_list, Part, AVersion, AList, AMark, AnItem, AnEnd, TheLast, AStuck, part_of}
use Rattle.cx_record.specs.RecordFaults.{Read, read_line, said_by, Place, Opening, Between, Inside, Over, behind, completes, Stage, stands_at, has_unknown, has_wrong_kind, has_outside, is_opening, fault_on, fault_at_end, first_fault}

-- ---- the fault of a line

abbrev pub bytes_fault : TextLine → Option FaultKind
bytes_fault line =
    if not (list_all is_text_byte line.bytes) then Some faults.NotAscii
    else (if nat_lt 120 (length line.bytes) || line.over then Some faults.TooLong else None)

-- the fault of a kept line that has no row of its place
abbrev pub misplaced : Place → FaultKind
misplaced p = if is_opening p then faults.BadVersion else faults.BadWord

-- the fault of a line's names and numbers
abbrev pub named_fault : Roster → Line → Option FaultKind
named_fault r l =
    if has_unknown r l then Some faults.UnknownName
    else (if has_wrong_kind r l then Some faults.WrongKind
    else (if has_outside r l then Some faults.OutOfRange else None))

abbrev pub said_fault : Roster → Stage → Option Line → Option FaultKind
said_fault r g None = Some (misplaced g.place)
said_fault r g (Some l) = if stands_at r g l g.place (part_of l.form) then named_fault r l else Some (misplaced g.place)

abbrev pub words_fault : Roster → Stage → List (List ℕ) → Option Line → Option FaultKind
words_fault r g [] said = None
words_fault r g (w ∷ ws) said = said_fault r g said

abbrev pub fault_in : Roster → Stage → Read → Option FaultKind
fault_in r g read = or_some (bytes_fault read.line) (words_fault r g read.words read.said)

-- ---- where the next line stands

abbrev pub stage_with : Stage → Line → Stage
stage_with g l = record { place = behind (part_of l.form); lists = if completes l then suc g.lists else g.lists }

abbrev pub stage_behind : Stage → Option Line → Stage
stage_behind g None = g
stage_behind g (Some l) = stage_with g l

-- a fault at line n, or what follows
abbrev pub goes_on : ℕ → Option FaultKind → Option Fault → Option Fault
goes_on n (Some kind) rest = Some (record { line = n; kind = kind })
goes_on n None rest = rest

abbrev pub fault_at : ℕ → Option FaultKind → Option Fault
fault_at n None = None
fault_at n (Some kind) = Some (record { line = n; kind = kind })

-- the first fault from the line of number n on
unfoldable pub walk : Roster → ℕ → Stage → List Read → Option Fault
walk r n g [] = fault_at n (fault_at_end g.place)
walk r n g (read ∷ reads) = goes_on n (fault_on r g read) (walk r (suc n) (stage_behind g read.said) reads)

-- ---- what is read so far: the lists that are complete, and the items of the one under way

pub record State : Type 0 where
  pub roster : Roster
  pub stage : Stage
  pub done : List (Option (List Item))
  pub under_way : List Item

abbrev pub done_with : State → Part → List (Option (List Item))
done_with s AMark = s.done ++ None ∷ []
done_with s AnEnd = s.done ++ Some s.under_way ∷ []
done_with s _ = s.done

abbrev pub under_way_with : State → Line → Part → List Item
under_way_with s l AList = []
under_way_with s l AnItem = s.under_way ++ as_list (item_said s.roster s.stage.lists l)
under_way_with s l AnEnd = []
under_way_with s l _ = s.under_way

abbrev pub state_with : State → Line → State
state_with s l = record { roster = s.roster; stage = stage_with s.stage l; done = done_with s (part_of l.form); under_way = under_way_with s l (part_of l.form) }

abbrev pub state_after : State → Option Line → State
state_after s None = s
state_after s (Some l) = state_with s l

abbrev pub opening_stage : Stage
opening_stage = record { place = Opening; lists = 0 }

abbrev pub opening_state : Roster → State
opening_state r = record { roster = r; stage = opening_stage; done = []; under_way = [] }

-- whether there is this fault, or else what is kept next
abbrev pub GoesBy : State → Option FaultKind → Option Line → Option FaultKind → State → Type 0
GoesBy s wanted said (Some kind) next = wanted ≡ Some kind
GoesBy s wanted said None next = (wanted ≡ None) × (next ≡ state_after s said)

-- what reading these lines gives: their first fault, or else all lists
abbrev pub ReadsTo : Roster → ℕ → List TextLine → Option Fault → State → Type 0
ReadsTo r first lines (Some f) s = first_fault r first lines ≡ Some f
ReadsTo r first lines None s = (first_fault r first lines ≡ None) × (lists_from r 0 (said_by (map read_line lines)) ≡ s.done) × (s.roster ≡ r)
