-- The text that is printed of a scenario and a well-formed record of it means that scenario and that record.
use Rattle.std.proofs.Common.{◌≡◌, ◌≢◌, ℕ, zero, suc, ◌+◌, ◌-◌, ◌<◌, ◌≤◌, Bool, true, false, cond, List, [], ◌∷◌, ◌++◌, length, map, take, drop, Option, Some, None, refl, sym, ap, subst, ◌∙◌, arith, append_assoc, length-append}
use Rattle.std.specs.Prelude.{Ok, Result}
use Rattle.std.proofs.Math.Seq.{drop-append_seam}
use Rattle.std.proofs.lemmas.Bool.{true≢false}
use Rattle.cx_text.specs.declared.fault.Fault.{Fault}
use Rattle.cx_text.specs.Lines.{Line as TextLine, lines_of}
use Rattle.cx_script.specs.Earlier.{Over, Place, place_after}
use Rattle.cx_script.specs.Faults.{first_fault, read_all, read_line, said_by}
use Rattle.cx_script.specs.Laws.{IsWrittenFront}
use Rattle.cx_script.specs.Numbered.{IsScript, numbered}
use Rattle.cx_script.specs.Script.{Script, written}
use Rattle.cx_script.proofs.WrittenFront.{written_front}
use Rattle.cx_script.proofs.WrittenRead.{written_read}
use Rattle.cx_scenario.specs.Front.{ends_main, front_after, is_over}
use Rattle.cx_history.specs.Histories.{Recorded}
use Rattle.cx_history.specs.IsRecord.{IsRecord}
use Rattle.cx_record.specs.Checked.{Checked, checked_by, script_in, whole_meaning, with_record}
use Rattle.cx_record.specs.Laws.{HasTypes}
use Rattle.cx_record.specs.Parsed.{meaning_of, record_meaning}
use Rattle.cx_record.specs.Printed.{naming_of, printed, record_text}
use Rattle.cx_record.specs.Roster.{roster_of}
use Rattle.cx_script.proofs.Whole.{meaning_is}
use Rattle.cx_record.proofs.RecordBack.{printed_is_parsed}

-- ---- the lines up to the end of main

front_is : (a before rest : List TextLine) → 0 < length a → ends_main (before ++ a) ≡ true → ((n : ℕ) → n < length a → ends_main (before ++ take n a) ≡ false) → front_after before (a ++ rest) ≡ a
front_is [] before rest some e h = absurd (omega arith)
front_is (l ∷ []) before rest some e h = ap (λ (b : Bool). l ∷ cond b [] (front_after (before ++ l ∷ []) rest)) e
front_is (l ∷ m ∷ a) before rest some e h =
    ap (λ (b : Bool). l ∷ cond b [] (front_after (before ++ l ∷ []) (m ∷ a ++ rest))) (h 1 (omega arith))
    ∙ ap (λ (t : List TextLine). l ∷ t)
    (front_is (m ∷ a) (before ++ l ∷ []) rest (omega arith) (subst (λ (t : List TextLine). ends_main t ≡ true) (sym (append_assoc before (l ∷ []) (m ∷ a))) e)
    (λ n lt. subst (λ (t : List TextLine). ends_main t ≡ false) (sym (append_assoc before (l ∷ []) (take n (m ∷ a)))) (h (suc n) (omega arith))))

not_over : (p : Place) → p ≢ Over → is_over p ≡ false
not_over Over h = absurd (h refl)
not_over _ h = refl

some_lines : (a : List TextLine) → place_after (said_by (read_all a)) ≡ Over → 0 < length a
some_lines [] h = absurd cc
some_lines (l ∷ a) h = omega arith

-- the lines of the scenario in front are those of its canonical text
front_again : (limit : ℕ) (s : Script) (rest : List ℕ) → IsWrittenFront limit s rest → (b : List TextLine) → front_after [] (lines_of limit (written s) ++ b) ≡ lines_of limit (written s)
front_again limit s rest f b =
    front_is (lines_of limit (written s)) [] b (some_lines (lines_of limit (written s)) f.over) (ap is_over f.over) (λ n lt. not_over (place_after (said_by (read_all (take n (lines_of limit (written s)))))) (f.before n lt))

ok_same : (q r : Script) → ◌≡◌ {A = Result Script Fault} (Ok q) (Ok r) → q ≡ r
ok_same q r e = cc

pub printed_is_read : (limit : ℕ) (s : Script) (q : Recorded) → IsScript s → IsRecord (numbered s) q → HasTypes q → length (printed s q []) ≤ limit → whole_meaning limit (printed s q []) ≡ Ok (record { script = s; recorded = q })
unfolding whole_meaning record_meaning
printed_is_read limit s q h well types short =
    let rest : List ℕ = record_text (naming_of s) q [] in
    let sum = length-append (written s) rest in
    let fits : length (written s) ≤ limit = omega arith in
    let f = written_front limit s rest h fits in
    let a : List TextLine = lines_of limit (written s) in
    let b : List TextLine = lines_of (limit - length (written s)) rest in
    let script : script_in a ≡ s = ok_same (script_in a) s (sym (meaning_is limit (written s) None f.clear) ∙ written_read limit s h fits) in
    let means : record_meaning s (suc (length a)) (limit - length (written s)) rest ≡ Ok q = printed_is_parsed s q (suc (length a)) (limit - length (written s)) h well types (omega arith) in
    ap (λ (t : List TextLine). checked_by (front_after [] t) t (first_fault (front_after [] t))) f.lines
    ∙ ap (λ (t : List TextLine). checked_by t (a ++ b) (first_fault t)) (front_again limit s rest f b)
    ∙ ap (λ (o : Option Fault). checked_by a (a ++ b) o) f.clear
    ∙ ap (λ (x : Script). with_record x (meaning_of (roster_of x) (suc (length a)) (drop (length a) (a ++ b)))) script
    ∙ ap (λ (t : List TextLine). with_record s (meaning_of (roster_of s) (suc (length a)) t)) (drop-append_seam a b)
    ∙ ap (with_record s) means
