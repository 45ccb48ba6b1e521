-- The front of a text that goes on behind a scenario.
use Rattle.std.specs.Prelude.{◌≡◌, ◌≤◌, ℕ, zero, suc, ◌+◌, ◌-◌, min, ◌==◌, Bool, true, false, List, [], ◌∷◌, ◌++◌, map, length, take, drop, Option, Some, None, Ok, if◌then◌else◌}
use Rattle.std.specs.List.{position_or_len}
use Rattle.cx_text.specs.Lines.{Line, lines_of}
use Rattle.cx_script.specs.Earlier.{Place, Over, place_after}
use Rattle.cx_script.specs.Faults.{read_line, said_by, first_fault}
use Rattle.cx_text.specs.declared.fault.Fault.{Fault}
use Rattle.cx_scenario.specs.Steps.{State}
use Rattle.cx_scenario.specs.Finished.{ReadsTo}
use Rattle.cx_script.specs.Script.{Script, meaning}

abbrev pub is_over : Place → Bool
is_over Over = true
is_over _ = false

-- whether these lines end with the `end` of main
abbrev pub ends_main : List Line → Bool
ends_main lines = is_over (place_after (said_by (map (read_line 1) lines)))

-- the lines after some, up to and with the `end` of main
abbrev pub front_after : List Line → List Line → List Line
front_after before [] = []
front_after before (l ∷ ls) = l ∷ (if ends_main (before ++ l ∷ []) then [] else front_after (before ++ l ∷ []) ls)

-- the lines up to and with the `end` of main; all lines where there is none
abbrev pub front_lines : List Line → List Line
front_lines lines = front_after [] lines

-- the bytes of the first line with its end
abbrev pub line_bytes : List ℕ → ℕ
line_bytes text = min (length text) (position_or_len (λ b. b == 10) text + 1)

-- the bytes of so many lines with their ends
abbrev pub bytes_of : ℕ → List ℕ → ℕ
bytes_of zero text = 0
bytes_of (suc n) text = line_bytes text + bytes_of n (drop (line_bytes text) text)

-- a scenario in the front of a text, the length of that front, and the number of the next line
pub record IsFront (room : ℕ) (text : List ℕ) (s : Script) (len next : ℕ) : Type 0 where
  pub within : len ≤ length text
  pub lines : lines_of room (take len text) ≡ front_lines (lines_of room text)
  pub means : meaning room (take len text) ≡ Ok s
  pub next_is : next ≡ suc (length (front_lines (lines_of room text)))
  pub rest : lines_of (room - len) (drop len text) ≡ drop (length (front_lines (lines_of room text))) (lines_of room text)

-- what reading lines to the `end` of main gives: their first fault, or that there is none
abbrev pub FrontReads : List Line → Option Fault → State → ℕ → Type 0
FrontReads lines (Some f) s n = first_fault (front_lines lines) ≡ Some f
FrontReads lines None s n = ReadsTo (front_lines lines) None s × (n ≡ length (front_lines lines))
