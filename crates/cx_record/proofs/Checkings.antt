-- A scenario and its record are read one after the other.
use Rattle.std.proofs.Common.{◌≡◌, ℕ, suc, ◌-◌, ◌≤◌, List, length, take, drop, Option, Some, None, refl, sym, ap, subst, ◌∙◌, arith}
use Rattle.std.specs.Prelude.{Result, Ok, Err}
use Rattle.cx_text.specs.declared.fault.Fault.{Fault}
use Rattle.cx_text.specs.Lines.{Line as TextLine, lines_of}
use Rattle.cx_script.specs.Faults.{first_fault}
use Rattle.cx_script.specs.Script.{Script, meaning}
use Rattle.cx_script.proofs.Whole.{meaning_of as script_meaning, meaning_is}
use Rattle.cx_scenario.specs.Front.{front_lines, IsFront}
use Rattle.cx_history.specs.Histories.{Recorded}
use Rattle.cx_record.specs.Roster.{roster_of}
use Rattle.cx_record.specs.Parsed.{record_meaning, meaning_of}
use Rattle.cx_record.specs.Checked.{Checked, script_in, with_record, checked_by, whole_meaning}
use Rattle.cx_record.proofs.Meant.{lines_short}

-- lines that mean a scenario have no fault, and say it
record Says (lines : List TextLine) (s : Script) : Type 0 where
  clear : first_fault lines ≡ None
  says : script_in lines ≡ s

said_of : (lines : List TextLine) (s : Script) (o : Option Fault) → first_fault lines ≡ o → script_meaning lines o ≡ Ok s → Says lines s
said_of lines s (Some f) e h = absurd cc
said_of lines s None e h = record { clear = e; says = cc }

front_says : (room : ℕ) (text : List ℕ) (s : Script) (len next : ℕ) → IsFront room text s len next → Says (front_lines (lines_of room text)) s
front_says room text s len next h =
    let lines : List TextLine = lines_of room (take len text) in
    subst (λ (x : List TextLine). Says x s) h.lines
    (said_of lines s (first_fault lines) refl (sym (meaning_is room (take len text) (first_fault lines) refl) ∙ h.means))

-- the scenario stands in front, and what is behind it is read with its names
pub whole_found : (room : ℕ) (text : List ℕ) (s : Script) (len next : ℕ) (v : Result Recorded Fault) → IsFront room text s len next
    → record_meaning s next (room - len) (drop len text) ≡ v → whole_meaning room text ≡ with_record s v
unfolding whole_meaning record_meaning
whole_found room text s len next v h e =
    let lines : List TextLine = lines_of room text in
    let front : List TextLine = front_lines lines in
    let p : Says front s = front_says room text s len next h in
    ap (λ (o : Option Fault). checked_by front lines o) p.clear
    ∙ ap (λ (x : Script). with_record x (meaning_of (roster_of x) (suc (length front)) (drop (length front) lines))) p.says
    ∙ ap (λ (n : ℕ). with_record s (meaning_of (roster_of s) n (drop (length front) lines))) (sym h.next_is)
    ∙ ap (λ (x : List TextLine). with_record s (meaning_of (roster_of s) next x)) (sym h.rest)
    ∙ ap (with_record s) e

-- the scenario in front has a fault
pub whole_bad : (room : ℕ) (text : List ℕ) (f : Fault) → first_fault (front_lines (lines_of room text)) ≡ Some f → whole_meaning room text ≡ Err f
unfolding whole_meaning
whole_bad room text f h = ap (λ (o : Option Fault). checked_by (front_lines (lines_of room text)) (lines_of room text) o) h

-- the record's lines are numbered from no great number
pub next_short : (room : ℕ) (text : List ℕ) (s : Script) (len next : ℕ) → IsFront room text s len next → next ≤ suc (suc (suc room))
next_short room text s len next h =
    let few : length (front_lines (lines_of room text)) ≤ suc (suc room) = subst (λ (x : List TextLine). length x ≤ suc (suc room)) h.lines (lines_short room (take len text)) in
    let is : next ≡ suc (length (front_lines (lines_of room text))) = h.next_is in
    omega arith
