-- The canonical text of a scenario is read as that scenario.
use Rattle.std.proofs.Common.{◌≡◌, ℕ, ◌≤◌, List, [], ◌∷◌, length, map, None, sym, ap, subst, ◌∙◌, arith}
use Rattle.std.specs.Prelude.{Result, Ok}
use Rattle.cx_text.specs.declared.fault.Fault.{Fault}
use Rattle.cx_text.specs.Lines.{Line, lines_of}
use Rattle.cx_text.specs.Words.{Filled, words_for}
use Rattle.cx_text.proofs.Lexing.{plain_line, lines_back}
use Rattle.cx_script.specs.Earlier.{Over, place_after}
use Rattle.cx_script.specs.Faults.{Read, first_fault, read_all}
use Rattle.cx_script.specs.Script.{Script, meaning, script_of, lines_for, written}
use Rattle.cx_script.specs.Numbered.{IsScript}
use Rattle.cx_script.specs.Walk.{walk}
use Rattle.cx_script.proofs.Walking.{walk_is_first}
use Rattle.cx_script.proofs.Sound.{AreFine}
use Rattle.cx_script.proofs.ReadBack.{all_back, are_lines, read_as}
use Rattle.cx_script.proofs.Canonical.{is_shown}
use Rattle.cx_script.proofs.Whole.{IsWhole, from_lines, meaning_is}
use Rattle.cx_script.proofs.Canon.{lines_canon}
use Rattle.cx_script.proofs.Written.{AreFilled, canonical_all, lines_filled, written_text, written_says}
use Rattle.cx_script.proofs.Faultless.{AreShown, walk_clear}
use Rattle.cx_script.proofs.Ordered.{ordered_fine}

pub shown_all : (ls : List Filled) → AreFilled ls → AreShown ls
shown_all [] h = tt
shown_all (l ∷ ls) h = (is_shown l h.0, shown_all ls h.1)

-- what is known of the lines of a scenario
pub record AreKnown (s : Script) : Type 0 where
  pub filled : AreFilled (lines_for s)
  pub fine : AreFine 1 [] (lines_for s)
  pub over : place_after (lines_for s) ≡ Over

known_of : (ls : List Filled) → IsWhole ls → AreKnown (script_of 1 ls)
known_of ls w =
    let r = ordered_fine ls w in
    record {
      filled = lines_filled ls w;
      fine = subst (λ (x : List Filled). AreFine 1 [] x) (sym (lines_canon ls w)) r.0;
      over = subst (λ (x : List Filled). place_after x ≡ Over) (sym (lines_canon ls w)) r.1;
    }

pub lines_known : (s : Script) → IsScript s → AreKnown s
lines_known s h = let f = from_lines h.limit h.text s h.means in subst (λ (x : Script). AreKnown x) (sym f.is) (known_of f.ls f.whole)

-- the lines of the canonical text, as it is read
pub lines_read : (limit : ℕ) (s : Script) → AreKnown s → length (written s) ≤ limit → lines_of limit (written s) ≡ map plain_line (map words_for (lines_for s))
lines_read limit s k short =
    let t = written_text s in
    ap (λ (x : List ℕ). lines_of limit x) t ∙ lines_back limit (map words_for (lines_for s)) (are_lines 1 (lines_for s) (canonical_all (lines_for s) k.filled)) (subst (λ (x : List ℕ). length x ≤ limit) t short)

-- they have no fault
pub lines_clear : (limit : ℕ) (s : Script) → IsScript s → length (written s) ≤ limit → first_fault (lines_of limit (written s)) ≡ None
lines_clear limit s h short =
    let k = lines_known s h in
    let lines : List Line = map plain_line (map words_for (lines_for s)) in
    let reads : read_all lines ≡ map read_as (lines_for s) = all_back 1 (lines_for s) (canonical_all (lines_for s) k.filled) in
    ap first_fault (lines_read limit s k short)
    ∙ sym (walk_is_first lines)
    ∙ ap (λ (t : List Read). walk 1 0 [] t) reads
    ∙ walk_clear (lines_for s) k.fine (shown_all (lines_for s) k.filled) k.over

pub written_read : (limit : ℕ) (s : Script) → IsScript s → length (written s) ≤ limit → meaning limit (written s) ≡ Ok s
written_read limit s h short = meaning_is limit (written s) None (lines_clear limit s h short) ∙ ap (λ (x : Script). Ok x) (written_says limit s h short)

ok_same : (s t : Script) → ◌≡◌ {A = Result Script Fault} (Ok s) (Ok t) → s ≡ t
ok_same s t e = cc

pub means_one : (s t : Script) → IsScript s → IsScript t → written s ≡ written t → s ≡ t
means_one s t h k e =
    let n : ℕ = length (written s) in
    let a : meaning n (written s) ≡ Ok s = written_read n s h (omega arith) in
    let b : meaning n (written t) ≡ Ok t = written_read n t k (subst (λ (x : List ℕ). length x ≤ n) e (omega arith)) in
    ok_same s t (sym a ∙ ap (λ (x : List ℕ). meaning n x) e ∙ b)
