-- What the program promises of its check.
use Rattle.std.specs.Prelude.{◌≡◌, ◌⊎◌, ℕ, ◌+◌, List, ◌++◌, take, Option, Some, None, Ok, Err, codes}
use Rattle.std.specs.Fmt.{decimal}
use Rattle.cx_text.specs.declared.fault.Fault.{Fault}
use Rattle.cx_script.specs.Script.{Script, names_in, name_at}
use Rattle.cx_script.specs.Numbered.{numbered}
use Rattle.cx_history.specs.declared.flaw.Flaw.{Flaw}
use Rattle.cx_history.specs.declared.flaw.Cause.{Cause}
use Rattle.cx_history.specs.declared.flaw.Cause.TheVariants as causes
use Rattle.cx_history.specs.Legal.{LegalRecord}
use Rattle.cx_history.specs.Follows.{Follows}
use Rattle.cx_history.specs.Flaw.{first_flaw}
use Rattle.cx_record.specs.Checked.{Checked, whole_meaning}
use Rattle.cx_commands.specs.FaultLine.{fault_line}
use Rattle.cx_commands.specs.declared.status.Status.{Status}
use Rattle.cx_commands.specs.declared.status.Status.TheVariants as status

-- how many bytes a scenario and its record have at most
abbrev pub input_limit : ℕ
input_limit = 1073741824

-- what is written of a record that is legal and follows its scenario
abbrev pub legal_line : List ℕ
legal_line = codes "legal\n"

abbrev pub cause_word : Cause → List ℕ
cause_word causes.Text = codes "text"
cause_word causes.Gap = codes "gap"
cause_word causes.Step = codes "step"
cause_word causes.Shown = codes "shown"
cause_word causes.Fell = codes "fell"
cause_word causes.Order = codes "order"

-- `illegal`, the name of the thread, the number of the item in its list, and the cause
abbrev pub flaw_line : List ℕ → ℕ → Cause → List ℕ
flaw_line name item cause = codes "illegal " ++ name ++ codes " " ++ decimal item ++ codes " " ++ cause_word cause ++ codes "\n"

abbrev pub line_of_flaw : Script → Flaw → List ℕ
line_of_flaw s f = flaw_line (name_at (names_in s).threads f.thread.0) f.item f.cause

-- the bytes mean a scenario and a record that is legal and follows it, and the text says so
pub record IsFoundLegal (bytes text : List ℕ) : Type 0 where
  pub checked : Checked
  pub means : whole_meaning input_limit bytes ≡ Ok checked
  pub flawless : first_flaw (numbered checked.script) checked.recorded ≡ None
  pub legal : LegalRecord (numbered checked.script) checked.recorded
  pub follows : Follows (numbered checked.script) checked.recorded
  pub text_is : text ≡ legal_line

-- the bytes mean a scenario and a record that has a flaw, and the text names the first
pub record IsFoundIllegal (bytes text : List ℕ) : Type 0 where
  pub checked : Checked
  pub flaw : Flaw
  pub means : whole_meaning input_limit bytes ≡ Ok checked
  pub first : first_flaw (numbered checked.script) checked.recorded ≡ Some flaw
  pub text_is : text ≡ line_of_flaw checked.script flaw

-- the bytes mean no scenario with its record, and the text names their first fault
pub record IsFoundFaulty (bytes text : List ℕ) : Type 0 where
  pub fault : Fault
  pub means : whole_meaning input_limit bytes ≡ Err fault
  pub text_is : text ≡ fault_line fault

-- ---- where the check may not give up

abbrev pub status_of : Option Flaw → Status
status_of None = status.Done
status_of (Some f) = status.Illegal

-- The status is that of the first flaw of the record that is told, or of none, or memory ran out.
abbrev pub CompletesCheck : Option (List ℕ) → Status → Type 0
CompletesCheck left answer = (text : List ℕ) (x : Checked) → left ≡ Some text → whole_meaning input_limit (take (input_limit + 1) text) ≡ Ok x
    → (answer ≡ status_of (first_flaw (numbered x.script) x.recorded)) ⊎ (answer ≡ status.NoMemory)

-- The status is BadScenario where the text that is told has a fault, or memory ran out.
abbrev pub CompletesCheckFault : Option (List ℕ) → Status → Type 0
CompletesCheckFault left answer = (text : List ℕ) (f : Fault) → left ≡ Some text → whole_meaning input_limit (take (input_limit + 1) text) ≡ Err f → (answer ≡ status.BadScenario) ⊎ (answer ≡ status.NoMemory)
