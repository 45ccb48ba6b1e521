-- The front of a text by lines and by bytes: so many lines are the lines of so many bytes.
use Rattle.std.proofs.Common.{◌≡◌, ◌⊎◌, inl, inr, ℕ, zero, suc, ◌+◌, ◌-◌, ◌<◌, ◌≤◌, eqb, Bool, true, false, cond, ◌||◌, not, List, [], ◌∷◌, ◌++◌, length, take, drop, map, Option, Some, None, refl, sym, ap, subst, ◌∙◌, arith, length-append, length-take, length-drop}
use Rattle.std.specs.Prelude.{nat_lt}
use Rattle.std.specs.List.{list_any, list_all, position_or_len}
use Rattle.std.proofs.lemmas.List.{take_all}
use Rattle.std.proofs.lemmas.Bool.{cases_lt, lt-ltb, le-ltb, or_parts, eqb-true}
use Rattle.cx_text.specs.declared.fault.FaultKind.{FaultKind}
use Rattle.cx_text.specs.declared.fault.FaultKind.TheVariants as faults
use Rattle.cx_text.specs.declared.fault.Fault.{Fault}
use Rattle.cx_text.specs.Lines.{Line, lines_of, is_text_byte}
use Rattle.cx_text.proofs.LinesLeft.{first_line}
use Rattle.cx_scenario.specs.Front.{line_bytes, bytes_of}
use Rattle.cx_scenario.proofs.Fronts.{in_bytes, passes, bytes_within, lines_front, lines_rest, front_part, fits_room, rest_lines}
use Rattle.cx_record.specs.Roster.{Roster}
use Rattle.cx_record.specs.RecordFaults.{Read, read_line, Stage, fault_on, first_fault}
use Rattle.cx_record.specs.RecordSteps.{walk, goes_on, stage_behind, opening_stage}
use Rattle.cx_record.proofs.Walked.{walk_is_first}

-- ---- a text is over its limit on its last line alone

none_over : (n : ℕ) (t : List ℕ) → bytes_of n t < length t → list_any passes (take n (in_bytes true t)) ≡ false
none_over zero t h = refl
none_over (suc n) t h = at (cases_lt (position_or_len (λ b. eqb b 10) t) (length t)) (λ k. none_over n (drop (line_bytes t) t) k)
  where
    at : (position_or_len (λ b. eqb b 10) t < length t) ⊎ (length t ≤ position_or_len (λ b. eqb b 10) t)
        → (bytes_of n (drop (line_bytes t) t) < length (drop (line_bytes t) t) → list_any passes (take n (in_bytes true (drop (line_bytes t) t))) ≡ false)
        → list_any passes (take (suc n) (in_bytes true t)) ≡ false
    at (inr ge) later = absurd (let e : line_bytes t ≡ length t = omega arith in omega (arith, h, e))
    at (inl lt) later =
        let p = position_or_len (λ b. eqb b 10) t in
        let k : line_bytes t ≡ p + 1 = omega arith in
        let left : length (drop (line_bytes t) t) ≡ length t - line_bytes t = length-drop (line_bytes t) t in
        let less : bytes_of n (drop (line_bytes t) t) < length (drop (line_bytes t) t) = omega (arith, h, left) in
        let same : drop (p + 1) t ≡ drop (line_bytes t) t = ap (λ (i : ℕ). drop i t) (sym k) in
        ap (λ (x : List Line). list_any passes (take (suc n) x)) (first_line true t p refl lt)
        ∙ ap (λ (x : List ℕ). eqb (length x) 0 || list_any passes (take n (in_bytes true x))) same
        ∙ go (eqb (length (drop (line_bytes t) t)) 0) refl less (later less)
      where
        go : (b : Bool) → eqb (length (drop (line_bytes t) t)) 0 ≡ b → bytes_of n (drop (line_bytes t) t) < length (drop (line_bytes t) t) → list_any passes (take n (in_bytes true (drop (line_bytes t) t))) ≡ false
            → (eqb (length (drop (line_bytes t) t)) 0 || list_any passes (take n (in_bytes true (drop (line_bytes t) t)))) ≡ false
        go true e less h = let none = eqb-true (length (drop (line_bytes t) t)) 0 e in absurd (omega (arith, none, less))
        go false e less h = rw (e, h) refl

-- ---- so many lines by their bytes

take_all_lines : (n : ℕ) (ls : List Line) → drop n ls ≡ [] → take n ls ≡ ls
take_all_lines zero [] h = refl
take_all_lines zero (l ∷ ls) h = cc
take_all_lines (suc n) [] h = refl
take_all_lines (suc n) (l ∷ ls) h = ap (λ (x : List Line). l ∷ x) (take_all_lines n ls h)

drop_whole : (t : List ℕ) → drop (length t) t ≡ []
drop_whole [] = refl
drop_whole (b ∷ t) = drop_whole t

few_is : (room : ℕ) (text : List ℕ) (n len : ℕ) → len ≡ bytes_of n (take (suc room) text) → length text ≤ room → lines_of room (take len text) ≡ take n (lines_of room text)
unfolding lines_of
few_is room text n len is few =
    let whole : take (suc room) text ≡ text = take_all (suc room) text (omega arith) in
    let same : len ≡ bytes_of n text = is ∙ ap (λ (x : List ℕ). bytes_of n x) whole in
    rw (le-ltb room (length text) few, le-ltb room (length (take len text)) (omega (arith, few, length-take len text)), take_all (suc room) (take len text) (omega (arith, few, length-take len text)), whole)
    (ap (λ (i : ℕ). in_bytes false (take i text)) same ∙ lines_front n text)

none_passes_of : (room : ℕ) (text : List ℕ) (n : ℕ) → room < length text → bytes_of n (take (suc room) text) < length (take (suc room) text) → list_any passes (take n (lines_of room text)) ≡ false
unfolding lines_of
none_passes_of room text n many less = rw (lt-ltb room (length text) many) (none_over n (take (suc room) text) less)

all_is : (room : ℕ) (text : List ℕ) (n len : ℕ) → len ≡ bytes_of n (take (suc room) text) → room < length text → length (take (suc room) text) ≤ bytes_of n (take (suc room) text) → lines_of room (take len text) ≡ take n (lines_of room text)
unfolding lines_of
all_is room text n len is many all =
    let size : length (take (suc room) text) ≡ suc room = omega (arith, length-take (suc room) text, many) in
    let within = bytes_within n (take (suc room) text) in
    let is_all : len ≡ suc room = omega (arith, is, all, within, size) in
    let end : bytes_of n (take (suc room) text) ≡ length (take (suc room) text) = omega (arith, all, within) in
    let rest : drop n (in_bytes true (take (suc room) text)) ≡ [] = sym (lines_rest true n (take (suc room) text)) ∙ ap (λ (i : ℕ). in_bytes true (drop i (take (suc room) text))) end ∙ ap (λ (x : List ℕ). in_bytes true x) (drop_whole (take (suc room) text)) in
    rw (is_all, lt-ltb room (length text) many, lt-ltb room (length (take (suc room) text)) (omega (arith, size)), take_all (suc room) (take (suc room) text) (omega (arith, size)))
    (sym (take_all_lines n (in_bytes true (take (suc room) text)) rest))

pub part_is : (room : ℕ) (text : List ℕ) (n len : ℕ) → len ≡ bytes_of n (take (suc room) text) → lines_of room (take len text) ≡ take n (lines_of room text)
part_is room text n len is = at (cases_lt room (length text))
  where
    by : room < length text → (bytes_of n (take (suc room) text) < length (take (suc room) text)) ⊎ (length (take (suc room) text) ≤ bytes_of n (take (suc room) text)) → lines_of room (take len text) ≡ take n (lines_of room text)
    by many (inl less) = front_part room text n len is (none_passes_of room text n many less)
    by many (inr all) = all_is room text n len is many all

    at : (room < length text) ⊎ (length text ≤ room) → lines_of room (take len text) ≡ take n (lines_of room text)
    at (inl many) = by many (cases_lt (bytes_of n (take (suc room) text)) (length (take (suc room) text)))
    at (inr few) = few_is room text n len is few

-- ---- lines without a fault

no_second : (a b : Bool) (x : Option FaultKind) → cond a (Some faults.NotAscii) (cond b (Some faults.TooLong) x) ≡ None → b ≡ false
no_second true b x h = cc
no_second false true x h = cc
no_second false false x h = refl

short_line : (r : Roster) (g : Stage) (read : Read) → fault_on r g read ≡ None → read.line.over ≡ false
short_line r g read h = (or_parts (nat_lt 120 (length read.line.bytes)) read.line.over (no_second (not (list_all is_text_byte read.line.bytes)) (nat_lt 120 (length read.line.bytes) || read.line.over) _ h)).1

goes_none : (n : ℕ) (o : Option FaultKind) (rest : Option Fault) → goes_on n o rest ≡ None → (o ≡ None) × (rest ≡ None)
goes_none n None rest e = (refl, e)
goes_none n (Some kind) rest e = cc

none_passes : (r : Roster) (ls : List Line) (n : ℕ) (g : Stage) → walk r n g (map read_line ls) ≡ None → list_any passes ls ≡ false
unfolding walk
none_passes r [] n g h = refl
none_passes r (l ∷ ls) n g h =
    let w = goes_none n (fault_on r g (read_line l)) _ h in
    rw (short_line r g (read_line l) w.0) (none_passes r ls (suc n) (stage_behind g (read_line l).said) w.1)

-- no line of a record without a fault passes the limit
pub clean_passes : (r : Roster) (first : ℕ) (ls : List Line) → first_fault r first ls ≡ None → list_any passes ls ≡ false
clean_passes r first ls h = none_passes r ls first opening_stage (walk_is_first r first ls ∙ h)

-- what is behind lines that don't pass it
pub rest_is : (room : ℕ) (text : List ℕ) (n len : ℕ) → len ≡ bytes_of n (take (suc room) text) → list_any passes (take n (lines_of room text)) ≡ false → lines_of (room - len) (drop len text) ≡ drop n (lines_of room text)
rest_is room text n len is none = rest_lines room text n len is (fits_room room text n len is none)
