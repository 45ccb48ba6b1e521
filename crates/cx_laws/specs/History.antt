-- A history as the standard speaks of it: which changes it has, by whom, and how often.
use Rattle.std.specs.Prelude.{◌≡◌, ℕ, ◌+◌, ◌==◌, Bool, true, false, List, [], ◌∷◌, Option, Some}
use Rattle.std.specs.Option.{unwrap_or}
use Rattle.cx_machine.specs.Words.{small_of}
use Rattle.cx_machine.specs.declared.kind.Kind.{Kind}
use Rattle.cx_machine.specs.declared.kind.Entry.{Entry}
use Rattle.cx_machine.specs.declared.kind.Look.{Look}
use Rattle.cx_machine.specs.Machine.{State, opening, run, shows}
use Rattle.cx_machine.specs.Meaning.{bit}

-- the sum of a number over all changes
abbrev pub total : (Entry → ℕ) → List Entry → ℕ
total n [] = 0
total n (e ∷ es) = n e + total n es

-- how many changes are so
abbrev pub count : (Entry → Bool) → List Entry → ℕ
count is_so es = total (λ e. bit (is_so e)) es

-- the change is made by this thread
abbrev pub is_by : ℕ → Entry → Bool
is_by t e = e.by.0 == t

abbrev pub amount : Bool → Option ℕ → ℕ
amount true n = unwrap_or n 0
amount false n = 0

-- the number that a change of this word has, and else 0
abbrev pub amount_of : Bool → Entry → ℕ
amount_of is_so e = amount is_so (small_of e.a)

-- the history is legal, and the look is shown after it
abbrev pub IsShownAfter : Kind → List Entry → Look → Type 0
IsShownAfter kind h l = (s : State) × (run (opening kind) h ≡ Some s) × (shows s l ≡ true)
