-- The fault of a line of accesses, step by step, is the first kind of the table that holds.
use Rattle.std.proofs.Common.{◌≡◌, ℕ, suc, ◌<◌, Bool, true, false, cond, ◌&&◌, ◌||◌, not, List, [], ◌∷◌, length, Option, Some, None, refl, sym, ap, ◌∙◌, arith}
use Rattle.std.specs.Prelude.{nat_lt}
use Rattle.std.specs.List.{list_all}
use Rattle.std.proofs.lemmas.Bool.{lt-ltb}
use Rattle.cx_text.specs.declared.fault.FaultKind.{FaultKind}
use Rattle.cx_text.specs.declared.fault.FaultKind.TheVariants as faults
use Rattle.cx_text.specs.Lines.{Line as TextLine, words_of, is_text_byte}
use Rattle.cx_text.specs.Words.{or_some}
use Rattle.cx_history.specs.Histories.{Recorded}
use Rattle.cx_script.specs.Script.{Names}
use Rattle.cx_accesses.specs.AccessLines.{Said, AVersion, AnAccess, TheLast, Read, read_line, read_words, said_by_words, Place, Opening, Among, Over, State, stands_at, is_opening, fault_on}
use Rattle.cx_accesses.specs.AccessSteps.{said_fault, placed_fault, fault_in}

headed : (t u : Bool) (x y : Option FaultKind) → x ≡ y → or_some (cond t (Some faults.NotAscii) (cond u (Some faults.TooLong) None)) x ≡ cond t (Some faults.NotAscii) (cond u (Some faults.TooLong) y)
headed true u x y h = refl
headed false true x y h = refl
headed false false x y h = h

placed : (n p q : Bool) (x y : Option FaultKind) → n ≡ true → x ≡ y
    → cond p x (Some (cond q faults.BadVersion faults.BadWord)) ≡ cond (n && q && not p) (Some faults.BadVersion) (cond (n && not p) (Some faults.BadWord) y)
placed true true true x y e h = h
placed true true false x y e h = h
placed true false true x y e h = refl
placed true false false x y e h = refl
placed false p q x y e h = cc

unplaced : (n p q : Bool) (y : Option FaultKind) → n ≡ true → p ≡ false
    → Some (cond q faults.BadVersion faults.BadWord) ≡ cond (n && q && not p) (Some faults.BadVersion) (cond (n && not p) (Some faults.BadWord) y)
unplaced true false true y e f = refl
unplaced true false false y e f = refl
unplaced true true q y e f = cc
unplaced false p q y e f = cc

stands_none : (p : Place) → stands_at p None ≡ false
stands_none Opening = refl
stands_none Among = refl
stands_none Over = refl

dropped : (t u : Bool) → cond t (Some faults.NotAscii) (cond u (Some faults.TooLong) None) ≡ or_some (cond t (Some faults.NotAscii) (cond u (Some faults.TooLong) None)) None
dropped true u = refl
dropped false true = refl
dropped false false = refl

words_same : (o : Names) (r : Recorded) (st : State) (line : TextLine) (ws : List (List ℕ)) (x : Option Said) → (ws ≡ [] → x ≡ None)
    → fault_in o r st (record { line = line; words = ws; said = x }) ≡ fault_on o r st (record { line = line; words = ws; said = x })
words_same o r st line [] None h = sym (dropped (not (list_all is_text_byte line.bytes)) (nat_lt 120 (length line.bytes) || line.over))
words_same o r st line [] (Some x) h = absurd (let z : Some x ≡ None = h refl in cc)
words_same o r st line (w ∷ ws) None h =
    headed (not (list_all is_text_byte line.bytes)) (nat_lt 120 (length line.bytes) || line.over) _ _
    (unplaced (nat_lt 0 (length (w ∷ ws))) (stands_at st.place None) (is_opening st.place) None (lt-ltb 0 (length (w ∷ ws)) (omega arith)) (stands_none st.place))
words_same o r st line (w ∷ ws) (Some AVersion) h =
    headed (not (list_all is_text_byte line.bytes)) (nat_lt 120 (length line.bytes) || line.over) _ _
    (placed (nat_lt 0 (length (w ∷ ws))) (stands_at st.place (Some AVersion)) (is_opening st.place) _ _ (lt-ltb 0 (length (w ∷ ws)) (omega arith)) refl)
words_same o r st line (w ∷ ws) (Some (AnAccess name i var write)) h =
    headed (not (list_all is_text_byte line.bytes)) (nat_lt 120 (length line.bytes) || line.over) _ _
    (placed (nat_lt 0 (length (w ∷ ws))) (stands_at st.place (Some (AnAccess name i var write))) (is_opening st.place) _ _ (lt-ltb 0 (length (w ∷ ws)) (omega arith)) refl)
words_same o r st line (w ∷ ws) (Some TheLast) h =
    headed (not (list_all is_text_byte line.bytes)) (nat_lt 120 (length line.bytes) || line.over) _ _
    (placed (nat_lt 0 (length (w ∷ ws))) (stands_at st.place (Some TheLast)) (is_opening st.place) _ _ (lt-ltb 0 (length (w ∷ ws)) (omega arith)) refl)

nothing_said : (ws : List (List ℕ)) → ws ≡ [] → said_by_words ws ≡ None
nothing_said [] h = refl
nothing_said (w ∷ ws) h = cc

pub fault_same : (o : Names) (r : Recorded) (st : State) (line : TextLine) → fault_in o r st (read_line line) ≡ fault_on o r st (read_line line)
fault_same o r st line = words_same o r st line (words_of line.bytes) (said_by_words (words_of line.bytes)) (nothing_said (words_of line.bytes))
