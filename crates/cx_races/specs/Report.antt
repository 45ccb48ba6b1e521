-- What is written of a report.
use Rattle.std.specs.Prelude.{ℕ, List, [], ◌∷◌, ◌++◌, Option, Some, None, codes}
use Rattle.std.specs.Fmt.{decimal}
use Rattle.cx_races.specs.declared.reporting.Pair.{Pair}

-- `free VAR`, or `race VAR A B` with the numbers of the two accesses
abbrev pub entry_line : List ℕ → Option Pair → List ℕ
entry_line name None = codes "free " ++ name ++ codes "\n"
entry_line name (Some p) = codes "race " ++ name ++ codes " " ++ decimal p.first ++ codes " " ++ decimal p.second ++ codes "\n"

-- a line for each variable
abbrev pub report_text : List (List ℕ) → List (Option Pair) → List ℕ
report_text (name ∷ names) (entry ∷ entries) = entry_line name entry ++ report_text names entries
report_text _ _ = []

-- `cycle NAME POINT`
abbrev pub cycle_line : List ℕ → ℕ → List ℕ
cycle_line name point = codes "cycle " ++ name ++ codes " " ++ decimal point ++ codes "\n"
