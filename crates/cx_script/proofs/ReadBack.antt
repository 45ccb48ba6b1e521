-- Lines that are written are read as themselves.
use Rattle.std.proofs.Common.{◌≡◌, ℕ, List, [], ◌∷◌, map, length, ◌≤◌, Some, refl, ap, ◌∙◌}
use Rattle.std.specs.List.{AllByRecursion}
use Rattle.cx_text.specs.declared.form.Form.{Form}
use Rattle.cx_text.specs.Lines.{Line, lines_of}
use Rattle.cx_text.specs.Words.{Filled, scenario_lines, words_for}
use Rattle.cx_script.specs.Faults.{Read, read_line, said_by}
use Rattle.cx_text.proofs.Rows.{IsAlone, IsWellFilled, line_back}
use Rattle.cx_text.proofs.Lexing.{IsLine, plain_line, words_back, text_of, lines_back}

-- a line as the writer makes it
pub record IsCanonical (version : ℕ) (l : Filled) : Type 0 where
  pub plain : IsLine (words_for l)
  pub alone : IsAlone scenario_lines version l
  pub fits : IsWellFilled scenario_lines version l

abbrev pub read_as : Filled → Read
read_as l = record { line = plain_line (words_for l); words = words_for l; said = Some l }

pub read_back : (version : ℕ) (l : Filled) → IsCanonical version l → read_line version (plain_line (words_for l)) ≡ read_as l
read_back version l h = rw (words_back (words_for l) h.plain, line_back Form scenario_lines version l h.alone h.fits) refl

pub all_back : (version : ℕ) (ls : List Filled) → AllByRecursion (IsCanonical version) ls → map (read_line version) (map plain_line (map words_for ls)) ≡ map read_as ls
all_back version [] h = refl
all_back version (l ∷ ls) h = rw (read_back version l h.0) (ap (λ (t : List Read). read_as l ∷ t) (all_back version ls h.1))

pub said_back : (ls : List Filled) → said_by (map read_as ls) ≡ ls
said_back [] = refl
said_back (l ∷ ls) = ap (λ (t : List Filled). l ∷ t) (said_back ls)

pub are_lines : (version : ℕ) (ls : List Filled) → AllByRecursion (IsCanonical version) ls → AllByRecursion IsLine (map words_for ls)
are_lines version [] h = tt
are_lines version (l ∷ ls) h = (h.0.plain, are_lines version ls h.1)

-- what a canonical text says, line by line
pub text_back : (version limit : ℕ) (ls : List Filled) → AllByRecursion (IsCanonical version) ls → length (text_of (map words_for ls)) ≤ limit
    → said_by (map (read_line version) (lines_of limit (text_of (map words_for ls)))) ≡ ls
text_back version limit ls h short =
    ap (λ (t : List Line). said_by (map (read_line version) t)) (lines_back limit (map words_for ls) (are_lines version ls h) short)
    ∙ ap said_by (all_back version ls h)
    ∙ said_back ls
