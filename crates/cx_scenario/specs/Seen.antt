-- What lines stand for, and the declarations among them.
use Rattle.std.specs.Prelude.{◌≡◌, ℕ, Bool, true, List, [], ◌∷◌, map, is_some}
use Rattle.std.specs.Borrow.{Bor}
use Rattle.cx_text.specs.declared.value.Value.{Value as ValueOf}
use Rattle.cx_text.specs.Table.{makes}
use Rattle.cx_text.specs.Words.{Value, Filled}
use Rattle.cx_text.specs.Views.{seen}
use Rattle.cx_script.specs.Earlier.{subject}
use Rattle.cx_scenario.specs.declared.said.Said.{Said}

abbrev pub values_seen : List ValueOf → List Value
values_seen vs = map seen vs

-- a line as the definitions have it
abbrev pub filled : Said → Filled
filled line = record { form = line.form; values = values_seen line.values.items }

abbrev pub said_now : Bor Said → Filled
said_now line = filled line.now

-- a line that declares a name
abbrev pub declares_any : Filled → Bool
declares_any l = is_some (makes l.form)

abbrev pub AllDeclare : List Filled → Type 0
AllDeclare [] = Unit {0}
AllDeclare (l ∷ ls) = (declares_any l ≡ true) × AllDeclare ls

-- declarations with their names
pub record IsKept (names : List (List ℕ)) (lines : List Filled) : Type 0 where
  pub named : names ≡ map subject lines
  pub declare : AllDeclare lines
