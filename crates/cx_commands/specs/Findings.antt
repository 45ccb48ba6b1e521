-- What a check finds in a text before anything is written.
use Rattle.std.specs.Prelude.{◌≡◌, ℕ, List, Some, None, Ok, Err}
use Rattle.cx_text.specs.declared.fault.Fault.{Fault}
use Rattle.cx_script.specs.Script.{Script}
use Rattle.cx_script.specs.Numbered.{numbered}
use Rattle.cx_history.specs.declared.flaw.Flaw.{Flaw}
use Rattle.cx_history.specs.Histories.{Recorded}
use Rattle.cx_history.specs.Legal.{LegalRecord}
use Rattle.cx_history.specs.Follows.{Follows}
use Rattle.cx_history.specs.Flaw.{first_flaw}
use Rattle.cx_record.specs.Parsed.{record_meaning}
use Rattle.cx_commands.specs.FaultLine.{fault_line}
use Rattle.cx_commands.specs.Checks.{legal_line, line_of_flaw, IsFoundLegal, IsFoundIllegal, IsFoundFaulty}
use Rattle.cx_commands.specs.declared.checking.Finding.{Finding}
use Rattle.cx_commands.specs.declared.checking.Finding.TheVariants as findings

-- a record without a flaw is legal, and follows its scenario
pub record IsFlawless (s : Script) (r : Recorded) : Type 0 where
  pub flawless : first_flaw (numbered s) r ≡ None
  pub legal : LegalRecord (numbered s) r
  pub follows : Follows (numbered s) r

-- of a record: it has no flaw, or this first one
abbrev pub FindsRecord : Finding → Script → Recorded → Type 0
FindsRecord findings.Legal s r = IsFlawless s r
FindsRecord (findings.Illegal line) s r = (f : Flaw) × (first_flaw (numbered s) r ≡ Some f) × (line.items ≡ line_of_flaw s f)
FindsRecord (findings.Faulty line) s r = ⊥

-- of a text, by what it means: the record is as the finding says, or the text has this first fault
pub record IsFound (means : Recorded → Type 0) (finds : Recorded → Type 0) : Type 0 where
  pub recorded : Recorded
  pub is : means recorded
  pub finds_it : finds recorded

pub record IsBad (means : Fault → Type 0) (line : List ℕ) : Type 0 where
  pub fault : Fault
  pub is : means fault
  pub line_is : line ≡ fault_line fault

-- of the text behind a scenario
abbrev pub FindsRest : Finding → Script → ℕ → ℕ → List ℕ → Type 0
FindsRest findings.Legal s first room rest = IsFound (λ r. record_meaning s first room rest ≡ Ok r) (λ r. FindsRecord findings.Legal s r)
FindsRest (findings.Illegal line) s first room rest = IsFound (λ r. record_meaning s first room rest ≡ Ok r) (λ r. FindsRecord (findings.Illegal line) s r)
FindsRest (findings.Faulty line) s first room rest = IsBad (λ f. record_meaning s first room rest ≡ Err f) line.items

-- of a whole text, with what is written of it
abbrev pub FindsText : Finding → List ℕ → Type 0
FindsText findings.Legal bytes = IsFoundLegal bytes legal_line
FindsText (findings.Illegal line) bytes = IsFoundIllegal bytes line.items
FindsText (findings.Faulty line) bytes = IsFoundFaulty bytes line.items
