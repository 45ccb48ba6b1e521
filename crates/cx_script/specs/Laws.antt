-- What is proved of the definitions, for the crates above.
use Rattle.std.specs.Prelude.{◌≡◌, ◌≢◌, ℕ, suc, ◌-◌, ◌<◌, ◌≤◌, List, [], ◌++◌, length, take, drop, Some, None, Ok}
use Rattle.cx_text.specs.declared.fault.FaultKind.{FaultKind}
use Rattle.cx_text.specs.declared.fault.Fault.{Fault}
use Rattle.cx_text.specs.Lines.{Line, lines_of}
use Rattle.cx_script.specs.Faults.{first_fault, IsFirstFault, fault_on_line, version_of, read_all, said_by}
use Rattle.cx_script.specs.Earlier.{Over, place_after}
use Rattle.cx_script.specs.Script.{Script, lines_for, meaning, script_of, written}
use Rattle.cx_script.specs.Numbered.{IsScript}
use Rattle.cx_script.specs.Walk.{walk}

-- the first fault is of the least line with a fault, and of its first kind
abbrev pub FirstFaultIsLeast : Type 0
FirstFaultIsLeast = (lines : List Line) (f : Fault) → first_fault lines ≡ Some f → (n : ℕ) × (kind : FaultKind) × (f ≡ record { line = suc n; kind = kind }) × IsFirstFault lines n kind

-- where there is no first fault, no line has a fault, and nor has the end of the text
abbrev pub NoFaultIsClean : Type 0
NoFaultIsClean = (lines : List Line) → first_fault lines ≡ None → (n : ℕ) → n < suc (length lines) → fault_on_line (version_of lines) (read_all lines) n ≡ None

-- reading line by line, with what the earlier lines said at hand, finds the first fault
abbrev pub WalkFindsFirst : Type 0
WalkFindsFirst = (lines : List Line) → walk (version_of lines) 0 [] (read_all lines) ≡ first_fault lines

-- the canonical text of a scenario that a text means has less than 8 MiB
abbrev pub WrittenIsShort : Type 0
WrittenIsShort = (s : Script) → IsScript s → length (written s) < 8388608

-- the lines of that canonical text say the scenario again
abbrev pub WrittenSaysAgain : Type 0
WrittenSaysAgain = (limit : ℕ) (s : Script) → IsScript s → length (written s) ≤ limit → script_of 1 (said_by (read_all (lines_of limit (written s)))) ≡ s

-- read within any limit that it keeps, that canonical text means the scenario: it has no fault, and no other meaning
abbrev pub WrittenIsRead : Type 0
WrittenIsRead = (limit : ℕ) (s : Script) → IsScript s → length (written s) ≤ limit → meaning limit (written s) ≡ Ok s

-- two scenarios with one canonical text are one
abbrev pub WrittenMeansOne : Type 0
WrittenMeansOne = (s t : Script) → IsScript s → IsScript t → written s ≡ written t → s ≡ t

-- where a text goes on behind the canonical text of a scenario: its lines are those of the scenario and those of the rest, the former
-- have no fault, main ends with the last of them, and with none before
pub record IsWrittenFront (limit : ℕ) (s : Script) (rest : List ℕ) : Type 0 where
  pub lines : lines_of limit (written s ++ rest) ≡ lines_of limit (written s) ++ lines_of (limit - length (written s)) rest
  pub count : length (lines_of limit (written s)) ≡ length (lines_for s)
  pub clear : first_fault (lines_of limit (written s)) ≡ None
  pub over : place_after (said_by (read_all (lines_of limit (written s)))) ≡ Over
  pub before : (n : ℕ) → n < length (lines_of limit (written s)) → place_after (said_by (read_all (take n (lines_of limit (written s))))) ≢ Over

-- the canonical text of a scenario is the front of each text that it begins
abbrev pub WrittenIsFront : Type 0
WrittenIsFront = (limit : ℕ) (s : Script) (rest : List ℕ) → IsScript s → length (written s) ≤ limit → IsWrittenFront limit s rest

-- such a text is cut into the lines of the scenario and those of the rest in one place alone
abbrev pub WrittenFrontIsOne : Type 0
WrittenFrontIsOne = (limit : ℕ) (s : Script) (rest : List ℕ) (len : ℕ) → IsScript s → length (written s) ≤ limit → len ≤ length (written s ++ rest)
    → lines_of limit (take len (written s ++ rest)) ≡ lines_of limit (written s) → lines_of (limit - len) (drop len (written s ++ rest)) ≡ lines_of (limit - length (written s)) rest → len ≡ length (written s)
