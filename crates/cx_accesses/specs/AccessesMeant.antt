-- What a text means as accesses to variables.
use Rattle.std.specs.Prelude.{◌≡◌, ℕ, ◌+◌, ◌<◌, ◌==◌, List, length, map, take, slice_get, Option, Some, None, if◌then◌else◌}
use Rattle.cx_text.specs.declared.fault.FaultKind.{FaultKind}
use Rattle.cx_text.specs.declared.fault.Fault.{Fault}
use Rattle.cx_text.specs.Lines.{Line as TextLine, lines_of}
use Rattle.cx_history.specs.Histories.{Recorded}
use Rattle.cx_script.specs.Script.{Names}
use Rattle.cx_races.specs.declared.access.Access.{Access}
use Rattle.cx_accesses.specs.AccessLines.{Read, read_line, said_by, State, opening, with_all, fault_on, fault_at_end}

-- what the first n lines say
abbrev pub state_at : Names → List Read → ℕ → State
state_at o reads n = with_all o opening (said_by (take n reads))

-- the fault on line n, where lines are counted from 0; at their number it's the fault at the end
abbrev pub fault_at : Names → Recorded → List Read → ℕ → Option Read → Option FaultKind
fault_at o r reads n None = if length reads == n then fault_at_end (state_at o reads n).place else None
fault_at o r reads n (Some read) = fault_on o r (state_at o reads n) read

abbrev pub fault_on_line : Names → Recorded → List Read → ℕ → Option FaultKind
fault_on_line o r reads n = fault_at o r reads n (slice_get reads n)

-- no line below line n has a fault
abbrev pub AreClean : Names → Recorded → List Read → ℕ → Type 0
AreClean o r reads n = (m : ℕ) → m < n → fault_on_line o r reads m ≡ None

-- THE FIRST FAULT: the least line with a fault, and its first kind; the number of line 0 is `first`
pub record IsFirstFault (o : Names) (r : Recorded) (first : ℕ) (reads : List Read) (f : Fault) : Type 0 where
  pub place : ℕ
  pub line_is : f.line ≡ first + place
  pub here : fault_on_line o r reads place ≡ Some f.kind
  pub before : AreClean o r reads place

-- WHAT LINES WITHOUT A FAULT MEAN: the accesses, and the names of their variables
pub record AreMeant (o : Names) (r : Recorded) (reads : List Read) (accesses : List Access) (names : List (List ℕ)) : Type 0 where
  pub clean : AreClean o r reads (length reads + 1)
  pub accesses_are : accesses ≡ (state_at o reads (length reads)).accesses
  pub names_are : names ≡ (state_at o reads (length reads)).names

-- the lines of a text that is read behind a record
abbrev pub reads_of : ℕ → List ℕ → List Read
reads_of room text = map read_line (lines_of room text)
