-- The fault of a line, kind by kind, is the first kind of the table that holds.
use Rattle.std.proofs.Common.{◌≡◌, ℕ, suc, Bool, true, false, cond, ◌&&◌, ◌||◌, not, List, [], ◌∷◌, length, Option, Some, None, refl, sym, ◌∙◌, arith}
use Rattle.std.specs.Prelude.{nat_lt}
use Rattle.std.specs.List.{list_all}
use Rattle.std.proofs.lemmas.Bool.{lt-ltb}
use Rattle.cx_text.specs.declared.fault.FaultKind.{FaultKind}
use Rattle.cx_text.specs.declared.fault.FaultKind.TheVariants as faults
use Rattle.cx_text.specs.Items.{items}
use Rattle.cx_text.specs.Lines.{Line as TextLine, words_of, is_text_byte}
use Rattle.cx_text.specs.Words.{line_by, or_some}
use Rattle.cx_record.specs.Roster.{Roster}
use Rattle.cx_record.specs.ItemLines.{Line, part_of}
use Rattle.cx_record.specs.RecordFaults.{read_line, fault_on, is_opening, Stage, stands_at}
use Rattle.cx_record.specs.RecordSteps.{fault_in}

headed : (t u : Bool) (x y : Option FaultKind) → x ≡ y → or_some (cond t (Some faults.NotAscii) (cond u (Some faults.TooLong) None)) x ≡ cond t (Some faults.NotAscii) (cond u (Some faults.TooLong) y)
headed true u x y h = refl
headed false true x y h = refl
headed false false x y h = h

placed : (n p q : Bool) (x y : Option FaultKind) → n ≡ true → x ≡ y
    → cond p x (Some (cond q faults.BadVersion faults.BadWord)) ≡ cond (n && q && not p) (Some faults.BadVersion) (cond (n && not p) (Some faults.BadWord) y)
placed true true true x y e h = h
placed true true false x y e h = h
placed true false true x y e h = refl
placed true false false x y e h = refl
placed false p q x y e h = cc

unplaced : (n q : Bool) (y : Option FaultKind) → n ≡ true
    → Some (cond q faults.BadVersion faults.BadWord) ≡ cond (n && q && not false) (Some faults.BadVersion) (cond (n && not false) (Some faults.BadWord) y)
unplaced true true y e = refl
unplaced true false y e = refl
unplaced false q y e = cc

dropped : (t u : Bool) → cond t (Some faults.NotAscii) (cond u (Some faults.TooLong) None) ≡ or_some (cond t (Some faults.NotAscii) (cond u (Some faults.TooLong) None)) None
dropped true u = refl
dropped false true = refl
dropped false false = refl

words_same : (r : Roster) (g : Stage) (line : TextLine) (ws : List (List ℕ)) (o : Option Line) → (ws ≡ [] → o ≡ None)
    → fault_in r g (record { line = line; words = ws; said = o }) ≡ fault_on r g (record { line = line; words = ws; said = o })
words_same r g line [] None h = sym (dropped (not (list_all is_text_byte line.bytes)) (nat_lt 120 (length line.bytes) || line.over))
words_same r g line [] (Some l) h = absurd (let z : Some l ≡ None = h refl in cc)
words_same r g line (w ∷ ws) None h =
    headed (not (list_all is_text_byte line.bytes)) (nat_lt 120 (length line.bytes) || line.over) _ _
    (unplaced (nat_lt 0 (length (w ∷ ws))) (is_opening g.place) None (lt-ltb 0 (length (w ∷ ws)) (omega arith)))
words_same r g line (w ∷ ws) (Some l) h =
    headed (not (list_all is_text_byte line.bytes)) (nat_lt 120 (length line.bytes) || line.over) _ _
    (placed (nat_lt 0 (length (w ∷ ws))) (stands_at r g l g.place (part_of l.form)) (is_opening g.place) _ _ (lt-ltb 0 (length (w ∷ ws)) (omega arith)) refl)

pub nothing_said : (ws : List (List ℕ)) → ws ≡ [] → line_by items 1 ws ≡ None
unfolding line_by
nothing_said [] h = refl
nothing_said (w ∷ ws) h = cc

pub fault_same : (r : Roster) (g : Stage) (line : TextLine) → fault_in r g (read_line line) ≡ fault_on r g (read_line line)
fault_same r g line = words_same r g line (words_of line.bytes) (line_by items 1 (words_of line.bytes)) (nothing_said (words_of line.bytes))
