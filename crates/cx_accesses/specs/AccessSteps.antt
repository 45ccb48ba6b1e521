-- The fault of a line of accesses, step by step, and what one line more leaves.
use Rattle.std.specs.Prelude.{◌≡◌, ℕ, ℤ, Bool, true, false, not, ◌||◌, List, [], ◌∷◌, length, Option, Some, None, is_some, nat_lt, nat_le, if◌then◌else◌}
use Rattle.std.specs.List.{list_all}
use Rattle.cx_text.specs.declared.fault.FaultKind.{FaultKind}
use Rattle.cx_text.specs.declared.fault.FaultKind.TheVariants as faults
use Rattle.cx_text.specs.Lines.{Line as TextLine, is_text_byte}
use Rattle.cx_text.specs.Words.{or_some}
use Rattle.cx_history.specs.Histories.{Recorded}
use Rattle.cx_script.specs.Script.{Names}
use Rattle.cx_accesses.specs.AccessLines.{thread_called, is_known}
use Rattle.cx_accesses.specs.AccessLines.{access_limit, Said, AVersion, AnAccess, TheLast, Read, State, with_said, stands_at, is_opening, list_length, is_within}

abbrev pub bytes_fault : TextLine → Option FaultKind
bytes_fault line =
    if not (list_all is_text_byte line.bytes) then Some faults.NotAscii
    else (if nat_lt 120 (length line.bytes) || line.over then Some faults.TooLong else None)

-- the fault of a kept line that may not stand where it does
abbrev pub misplaced : State → FaultKind
misplaced st = if is_opening st.place then faults.BadVersion else faults.BadWord

abbrev pub access_fault : Names → Recorded → State → List ℕ → ℤ → Option FaultKind
access_fault o r st name i =
    if nat_le access_limit (length st.accesses) then Some faults.TooMany
    else (if not (is_known o name) then Some faults.UnknownName
    else (if not (is_some (thread_called o name)) then Some faults.WrongKind
    else (if not (is_within (list_length r (thread_called o name)) i) then Some faults.OutOfRange else None)))

abbrev pub placed_fault : Names → Recorded → State → Said → Option FaultKind
placed_fault o r st (AnAccess name i var write) = access_fault o r st name i
placed_fault o r st _ = None

abbrev pub said_fault : Names → Recorded → State → Option Said → Option FaultKind
said_fault o r st None = Some (misplaced st)
said_fault o r st (Some x) = if stands_at st.place (Some x) then placed_fault o r st x else Some (misplaced st)

abbrev pub words_fault : Names → Recorded → State → List (List ℕ) → Option Said → Option FaultKind
words_fault o r st [] said = None
words_fault o r st (w ∷ ws) said = said_fault o r st said

abbrev pub fault_in : Names → Recorded → State → Read → Option FaultKind
fault_in o r st read = or_some (bytes_fault read.line) (words_fault o r st read.words read.said)

abbrev pub state_after : Names → State → Option Said → State
state_after o st None = st
state_after o st (Some x) = with_said o st x

-- there is this fault, or else what is kept next
abbrev pub GoesBy : Names → State → Option FaultKind → Option Said → Option FaultKind → State → Type 0
GoesBy o st wanted said (Some kind) next = wanted ≡ Some kind
GoesBy o st wanted said None next = (wanted ≡ None) × (next ≡ state_after o st said)
