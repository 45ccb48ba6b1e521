-- The line that names the first fault of a text.
use Rattle.std.specs.Prelude.{ℕ, List, ◌++◌, codes}
use Rattle.std.specs.Fmt.{decimal}
use Rattle.cx_text.specs.declared.fault.FaultKind.{FaultKind}
use Rattle.cx_text.specs.declared.fault.FaultKind.TheVariants as faults
use Rattle.cx_text.specs.declared.fault.Fault.{Fault}

abbrev pub kind_word : FaultKind → List ℕ
kind_word faults.NotAscii = codes "NotAscii"
kind_word faults.TooLong = codes "TooLong"
kind_word faults.BadVersion = codes "BadVersion"
kind_word faults.BadWord = codes "BadWord"
kind_word faults.TooMany = codes "TooMany"
kind_word faults.UnknownName = codes "UnknownName"
kind_word faults.WrongKind = codes "WrongKind"
kind_word faults.OutOfRange = codes "OutOfRange"
kind_word faults.Twice = codes "Twice"
kind_word faults.LatchOver = codes "LatchOver"
kind_word faults.BadOrder = codes "BadOrder"
kind_word faults.NoEnd = codes "NoEnd"

-- `fault`, the number of the line, and the kind
abbrev pub fault_line : Fault → List ℕ
fault_line f = codes "fault " ++ decimal f.line ++ codes " " ++ kind_word f.kind ++ codes "\n"
