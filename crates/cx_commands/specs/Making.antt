-- What the program promises of a scenario that it makes.
use Rattle.std.specs.Prelude.{◌≡◌, ℕ, Bool, true, false, List, Ok}
use Rattle.cx_script.specs.Script.{meaning, written}
use Rattle.cx_made.specs.Made.{made}
use Rattle.cx_commands.specs.Top.{limit}
use Rattle.cx_commands.specs.declared.status.Status.{Status}
use Rattle.cx_commands.specs.declared.status.Status.TheVariants as status

-- the text is that of the scenario of so many items, which it means
pub record IsMade (items : ℕ) (text : List ℕ) : Type 0 where
  pub text_is : text ≡ written (made items)
  pub means : meaning limit text ≡ Ok (made items)

-- of the text of the scenario of so many items this holds
pub record Made (items : ℕ) (Wrote : List ℕ → Type 0) : Type 0 where
  pub text : List ℕ
  pub is : IsMade items text
  pub wrote : Wrote text

-- how a scenario's making ends
abbrev pub is_of_make : Status → Bool
is_of_make status.Done = true
is_of_make status.WriteFault = true
is_of_make status.NoMemory = true
is_of_make _ = false
