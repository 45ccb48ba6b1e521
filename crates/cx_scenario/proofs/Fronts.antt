-- The front of a text, by its lines and by its bytes.
use Rattle.std.proofs.Common.{◌≡◌, ◌⊎◌, inl, inr, ℕ, zero, suc, ◌+◌, ◌-◌, ◌<◌, ◌≤◌, eqb, Bool, true, false, cond, ◌||◌, not, List, [], ◌∷◌, ◌++◌, length, take, drop, map, Option, Some, None, refl, sym, ap, subst, ◌∙◌, arith, append_assoc, length-append, length-take, length-drop, add-one}
use Rattle.std.specs.Prelude.{nat_lt, Ok}
use Rattle.std.specs.List.{list_any, slice_split, position_or_len}
use Rattle.std.proofs.lemmas.List.{append-nil, take-take, drop-take, drop-drop, take_all}
use Rattle.std.proofs.lemmas.Bool.{cases_lt, true≢false, lt-ltb, le-ltb, or_parts, ltb-true, ltb-false}
use Rattle.std.proofs.Math.Seq.{take-append_seam}
use Rattle.cx_text.specs.declared.fault.FaultKind.{FaultKind}
use Rattle.cx_text.specs.declared.fault.FaultKind.TheVariants as faults
use Rattle.cx_text.specs.declared.fault.Fault.{Fault}
use Rattle.cx_text.specs.Lines.{Line, lines_of, lines_from, last_line, without_return}
use Rattle.cx_text.proofs.LinesLeft.{first_line, last_part}
use Rattle.cx_script.specs.Earlier.{place_after}
use Rattle.cx_script.specs.Faults.{Read, read_line, said_by, first_fault, fault_on}
use Rattle.cx_script.specs.Walk.{walk, goes_on}
use Rattle.cx_text.specs.Lines.{is_text_byte}
use Rattle.cx_text.specs.Words.{Filled}
use Rattle.std.specs.List.{list_all}
use Rattle.cx_script.specs.Earlier.{Place, Opening, Declaring, Between, Inside, Over}
use Rattle.cx_script.proofs.Walking.{walk_is_first}
use Rattle.cx_scenario.specs.Steps.{State, opening_state, fault_in, state_after, GoesBy, end_in}
use Rattle.cx_scenario.specs.Finished.{ReadsTo, script_in, AllApart}
use Rattle.cx_scenario.specs.Front.{front_after, front_lines, ends_main, line_bytes, bytes_of, is_over, FrontReads, IsFront}
use Rattle.cx_scenario.proofs.Going.{IsGoing, going_start, going_fault, going_on, ends_well, meaning_ok}
use Rattle.cx_scenario.proofs.Ending.{fault_by, on_by, all_read}
use Rattle.cx_script.specs.Script.{Script, meaning}

-- ---- a front is the first of the lines

pub front_is_take : (before ls : List Line) → front_after before ls ≡ take (length (front_after before ls)) ls
front_is_take before [] = refl
front_is_take before (l ∷ ls) = elim (ends_main (before ++ l ∷ [])) as (λ b. l ∷ cond b [] (front_after (before ++ l ∷ []) ls) ≡ take (length (l ∷ cond b [] (front_after (before ++ l ∷ []) ls))) (l ∷ ls)) [
  | true ↦ refl
  | false ↦ ap (λ (t : List Line). l ∷ t) (front_is_take (before ++ l ∷ []) ls)
]

-- ---- lines by bytes

abbrev pub feed : ℕ → Bool
feed b = eqb b 10

-- the lines of bytes that go on to the end of what is read
abbrev pub in_bytes : Bool → List ℕ → List Line
in_bytes over t = lines_from over (slice_split (λ b. eqb b 10) t)

end_of_line : (t : List ℕ) → position_or_len (λ b. eqb b 10) t < length t → line_bytes t ≡ position_or_len (λ b. eqb b 10) t + 1
end_of_line t h = omega arith

no_end : (t : List ℕ) → length t ≤ position_or_len (λ b. eqb b 10) t → line_bytes t ≡ length t
no_end t h = omega arith

pub bytes_within : (n : ℕ) (t : List ℕ) → bytes_of n t ≤ length t
bytes_within zero t = omega arith
bytes_within (suc n) t =
    let rest = bytes_within n (drop (line_bytes t) t) in
    omega (arith, length-drop (line_bytes t) t)

drop_whole : (t : List ℕ) → drop (length t) t ≡ []
drop_whole [] = refl
drop_whole (b ∷ t) = drop_whole t

drop_none : (n : ℕ) → drop {A = Line} n [] ≡ []
drop_none zero = refl
drop_none (suc n) = refl

take_whole : (t : List ℕ) (m : ℕ) → take (length t + m) t ≡ t
take_whole t m = take_all (length t + m) t (omega arith)

-- the lines of a text with no line feed
lone : (over : Bool) (t : List ℕ) (n : ℕ) → drop (suc n) (last_line over t) ≡ []
lone over [] n = refl
lone over (b ∷ t) n = drop_none n

lone_take : (over : Bool) (t : List ℕ) (n : ℕ) → take (suc n) (last_line over t) ≡ last_line over t
lone_take over [] n = refl
lone_take over (b ∷ t) n = ap (λ (x : List Line). record { bytes = b ∷ t; over = over } ∷ x) (take_none n)
  where
    take_none : (n : ℕ) → take {A = Line} n [] ≡ []
    take_none zero = refl
    take_none (suc n) = refl

pub lines_rest : (over : Bool) (n : ℕ) (t : List ℕ) → in_bytes over (drop (bytes_of n t) t) ≡ drop n (in_bytes over t)
lines_rest over zero t = refl
lines_rest over (suc n) t =
    ap (λ (x : List ℕ). in_bytes over x) (sym (drop-drop (bytes_of n (drop (line_bytes t) t)) (line_bytes t) t))
    ∙ lines_rest over n (drop (line_bytes t) t)
    ∙ at (cases_lt (position_or_len (λ b. eqb b 10) t) (length t))
  where
    at : (position_or_len (λ b. eqb b 10) t < length t) ⊎ (length t ≤ position_or_len (λ b. eqb b 10) t) → drop n (in_bytes over (drop (line_bytes t) t)) ≡ drop (suc n) (in_bytes over t)
    at (inl lt) =
        ap (λ (k : ℕ). drop n (in_bytes over (drop k t))) (end_of_line t lt)
        ∙ sym (ap (λ (x : List Line). drop (suc n) x) (first_line over t (position_or_len (λ b. eqb b 10) t) refl lt))
    at (inr ge) =
        ap (λ (k : ℕ). drop n (in_bytes over (drop k t))) (no_end t ge)
        ∙ ap (λ (x : List ℕ). drop n (in_bytes over x)) (drop_whole t)
        ∙ drop_none n
        ∙ sym (ap (λ (x : List Line). drop (suc n) x) (last_part over t ge) ∙ lone over t n)

position_cons : (b : ℕ) (t : List ℕ) → position_or_len (λ b. eqb b 10) (b ∷ t) ≡ cond (eqb b 10) 0 (1 + position_or_len (λ b. eqb b 10) t)
position_cons b t = elim (eqb b 10) as (λ c. cond (not c) (1 + position_or_len (λ b. eqb b 10) t) 0 ≡ cond c 0 (1 + position_or_len (λ b. eqb b 10) t)) [ true ↦ refl | false ↦ refl ]

position_take : (t : List ℕ) (i : ℕ) → position_or_len (λ b. eqb b 10) t < i → position_or_len (λ b. eqb b 10) (take i t) ≡ position_or_len (λ b. eqb b 10) t
position_take [] zero h = refl
position_take [] (suc i) h = refl
position_take (b ∷ t) zero h = absurd (omega arith)
position_take (b ∷ t) (suc i) h = position_cons b (take i t) ∙ at (eqb b 10) refl (λ k. position_take t i k) ∙ sym (position_cons b t)
  where
    at : (c : Bool) → eqb b 10 ≡ c → (position_or_len (λ b. eqb b 10) t < i → position_or_len (λ b. eqb b 10) (take i t) ≡ position_or_len (λ b. eqb b 10) t)
        → cond (eqb b 10) 0 (1 + position_or_len (λ b. eqb b 10) (take i t)) ≡ cond (eqb b 10) 0 (1 + position_or_len (λ b. eqb b 10) t)
    at true e later = rw e refl
    at false e later =
        let k : cond (eqb b 10) 0 (1 + position_or_len (λ b. eqb b 10) t) < suc i = subst (λ (x : ℕ). x < suc i) (position_cons b t) h in
        let j : 1 + position_or_len (λ b. eqb b 10) t < suc i = rw e at k in
        rw e (ap (λ (x : ℕ). 1 + x) (later (omega arith)))

pub lines_front : (n : ℕ) (t : List ℕ) → in_bytes false (take (bytes_of n t) t) ≡ take n (in_bytes false t)
lines_front zero t = refl
lines_front (suc n) t = at (cases_lt (position_or_len (λ b. eqb b 10) t) (length t)) (lines_front n (drop (line_bytes t) t))
  where
    m : ℕ
    m = bytes_of n (drop (line_bytes t) t)

    at : (position_or_len (λ b. eqb b 10) t < length t) ⊎ (length t ≤ position_or_len (λ b. eqb b 10) t)
        → in_bytes false (take (bytes_of n (drop (line_bytes t) t)) (drop (line_bytes t) t)) ≡ take n (in_bytes false (drop (line_bytes t) t))
        → in_bytes false (take (line_bytes t + bytes_of n (drop (line_bytes t) t)) t) ≡ take (suc n) (in_bytes false t)
    at (inl lt) later =
        let p = position_or_len (λ b. eqb b 10) t in
        let k : line_bytes t ≡ p + 1 = end_of_line t lt in
        let u : List ℕ = take (line_bytes t + bytes_of n (drop (line_bytes t) t)) t in
        let here : position_or_len (λ b. eqb b 10) u ≡ p = position_take t (line_bytes t + bytes_of n (drop (line_bytes t) t)) (omega arith) in
        let in_u : p < length u = omega (arith, length-take (line_bytes t + bytes_of n (drop (line_bytes t) t)) t) in
        let front : take p u ≡ take p t = take-take p (line_bytes t + bytes_of n (drop (line_bytes t) t)) t (omega arith) in
        let back : drop (p + 1) u ≡ take (bytes_of n (drop (line_bytes t) t)) (drop (line_bytes t) t) =
        ap (λ (i : ℕ). drop i u) (sym k) ∙ drop-take (line_bytes t) (bytes_of n (drop (line_bytes t) t)) t in
        first_line false u p here in_u
        ∙ ap (λ (x : List ℕ). record { bytes = without_return x; over = false } ∷ in_bytes false (drop (p + 1) u)) front
        ∙ ap (λ (x : List ℕ). record { bytes = without_return (take p t); over = false } ∷ in_bytes false x) back
        ∙ ap (λ (x : List Line). record { bytes = without_return (take p t); over = false } ∷ x) (later ∙ ap (λ (i : ℕ). take n (in_bytes false (drop i t))) k)
        ∙ sym (ap (λ (x : List Line). take (suc n) x) (first_line false t p refl lt))
    at (inr ge) later =
        ap (λ (i : ℕ). in_bytes false (take (i + bytes_of n (drop (line_bytes t) t)) t)) (no_end t ge)
        ∙ ap (λ (x : List ℕ). in_bytes false x) (take_whole t (bytes_of n (drop (line_bytes t) t)))
        ∙ last_part false t ge
        ∙ sym (ap (λ (x : List Line). take (suc n) x) (last_part false t ge) ∙ lone_take false t n)

-- ---- a text that passes its limit

abbrev pub passes : Line → Bool
passes l = l.over

-- where all bytes are read, the last line passes the limit
pub over_end : (n : ℕ) (t : List ℕ) → 0 < length t → bytes_of n t ≡ length t → list_any passes (take n (in_bytes true t)) ≡ true
over_end zero t some all = absurd (omega arith)
over_end (suc n) t some all = at (cases_lt (position_or_len (λ b. eqb b 10) t) (length t)) (λ k j. over_end n (drop (line_bytes t) t) k j)
  where
    any_last : (b : ℕ) (bs : List ℕ) → list_any passes (take (suc n) (last_line true (b ∷ bs))) ≡ true
    any_last b bs = refl

    lone_over : (u : List ℕ) → 0 < length u → list_any passes (take (suc n) (last_line true u)) ≡ true
    lone_over [] h = absurd (omega arith)
    lone_over (b ∷ bs) h = any_last b bs

    at : (position_or_len (λ b. eqb b 10) t < length t) ⊎ (length t ≤ position_or_len (λ b. eqb b 10) t)
        → (0 < length (drop (line_bytes t) t) → bytes_of n (drop (line_bytes t) t) ≡ length (drop (line_bytes t) t) → list_any passes (take n (in_bytes true (drop (line_bytes t) t))) ≡ true)
        → list_any passes (take (suc n) (in_bytes true t)) ≡ true
    at (inr ge) later = ap (λ (x : List Line). list_any passes (take (suc n) x)) (last_part true t ge) ∙ lone_over t some
    at (inl lt) later =
        let p = position_or_len (λ b. eqb b 10) t in
        let k : line_bytes t ≡ p + 1 = end_of_line t lt in
        let left : length (drop (line_bytes t) t) ≡ length t - line_bytes t = length-drop (line_bytes t) t in
        let same : drop (p + 1) t ≡ drop (line_bytes t) t = ap (λ (i : ℕ). drop i t) (sym k) in
        ap (λ (x : List Line). list_any passes (take (suc n) x)) (first_line true t p refl lt)
        ∙ ap (λ (x : List ℕ). eqb (length x) 0 || list_any passes (take n (in_bytes true x))) same
        ∙ go (length (drop (line_bytes t) t)) refl (λ h. later h (omega arith))
      where
        go : (m : ℕ) → length (drop (line_bytes t) t) ≡ m → (0 < length (drop (line_bytes t) t) → list_any passes (take n (in_bytes true (drop (line_bytes t) t))) ≡ true)
            → (eqb (length (drop (line_bytes t) t)) 0 || list_any passes (take n (in_bytes true (drop (line_bytes t) t)))) ≡ true
        go zero e h = rw e refl
        go (suc m) e h = rw (h (omega arith)) (or_true (eqb (length (drop (line_bytes t) t)) 0))
          where
            or_true : (b : Bool) → (b || true) ≡ true
            or_true true = refl
            or_true false = refl

-- where no line passes it, the lines are those of a text within it
pub same_over : (n : ℕ) (t : List ℕ) → list_any passes (take n (in_bytes true t)) ≡ false → take n (in_bytes true t) ≡ take n (in_bytes false t)
same_over zero t h = refl
same_over (suc n) t h = at (cases_lt (position_or_len (λ b. eqb b 10) t) (length t)) (λ k. same_over n (drop (position_or_len (λ b. eqb b 10) t + 1) t) k)
  where
    lone_same : (u : List ℕ) → list_any passes (take (suc n) (last_line true u)) ≡ false → take (suc n) (last_line true u) ≡ take (suc n) (last_line false u)
    lone_same [] h = refl
    lone_same (b ∷ bs) h = absurd (true≢false h)

    at : (position_or_len (λ b. eqb b 10) t < length t) ⊎ (length t ≤ position_or_len (λ b. eqb b 10) t)
        → (list_any passes (take n (in_bytes true (drop (position_or_len (λ b. eqb b 10) t + 1) t))) ≡ false → take n (in_bytes true (drop (position_or_len (λ b. eqb b 10) t + 1) t)) ≡ take n (in_bytes false (drop (position_or_len (λ b. eqb b 10) t + 1) t)))
        → take (suc n) (in_bytes true t) ≡ take (suc n) (in_bytes false t)
    at (inr ge) later =
        let none : list_any passes (take (suc n) (last_line true t)) ≡ false = subst (λ (x : List Line). list_any passes (take (suc n) x) ≡ false) (last_part true t ge) h in
        ap (λ (x : List Line). take (suc n) x) (last_part true t ge) ∙ lone_same t none ∙ sym (ap (λ (x : List Line). take (suc n) x) (last_part false t ge))
    at (inl lt) later =
        let p = position_or_len (λ b. eqb b 10) t in
        let none : (eqb (length (drop (p + 1) t)) 0 || list_any passes (take n (in_bytes true (drop (p + 1) t)))) ≡ false =
        subst (λ (x : List Line). list_any passes (take (suc n) x) ≡ false) (first_line true t p refl lt) h in
        let parts = or_parts (eqb (length (drop (p + 1) t)) 0) (list_any passes (take n (in_bytes true (drop (p + 1) t)))) none in
        ap (λ (x : List Line). take (suc n) x) (first_line true t p refl lt)
        ∙ ap (λ (c : Bool). record { bytes = without_return (take p t); over = c } ∷ take n (in_bytes true (drop (p + 1) t))) parts.0
        ∙ ap (λ (x : List Line). record { bytes = without_return (take p t); over = false } ∷ x) (later parts.1)
        ∙ sym (ap (λ (x : List Line). take (suc n) x) (first_line false t p refl lt))

-- ---- lines with no fault

no_second : (a b : Bool) (x : Option FaultKind) → cond a (Some faults.NotAscii) (cond b (Some faults.TooLong) x) ≡ None → b ≡ false
no_second true b x h = cc
no_second false true x h = cc
no_second false false x h = refl

short_line : (e : List Filled) (r : Read) → fault_on 1 e r ≡ None → r.line.over ≡ false
short_line e r h = (or_parts (nat_lt 120 (length r.line.bytes)) r.line.over (no_second (not (list_all is_text_byte r.line.bytes)) (nat_lt 120 (length r.line.bytes) || r.line.over) _ h)).1

goes_none : (n : ℕ) (o : Option FaultKind) (rest : Option Fault) → goes_on n o rest ≡ None → (o ≡ None) × (rest ≡ None)
goes_none n None rest e = (refl, e)
goes_none n (Some kind) rest e = cc

none_passes : (ls : List Line) (n : ℕ) (e : List Filled) → walk 1 n e (map (read_line 1) ls) ≡ None → list_any passes ls ≡ false
unfolding walk
none_passes [] n e h = refl
none_passes (l ∷ ls) n e h =
    let g = goes_none n (fault_on 1 e (read_line 1 l)) _ h in
    rw (short_line e (read_line 1 l) g.0) (none_passes ls (suc n) (e ++ said_by (read_line 1 l ∷ [])) g.1)

pub clean_passes : (ls : List Line) → first_fault ls ≡ None → list_any passes ls ≡ false
clean_passes ls h = none_passes ls 0 [] (walk_is_first ls ∙ h)

-- ---- the bytes of the front

module _ (room : ℕ) (text : List ℕ) (n len : ℕ) (is : len ≡ bytes_of n (take (suc room) text)) where
  pub short : len ≤ length text
  short = let w = bytes_within n (take (suc room) text) in omega (arith, length-take (suc room) text)

  part : take len text ≡ take len (take (suc room) text)
  part = let w = bytes_within n (take (suc room) text) in sym (take-take len (suc room) text (omega (arith, length-take (suc room) text)))

  -- within the limit
  module _ (fits : len ≤ room) where
    part_lines : lines_of room (take len text) ≡ take n (in_bytes false (take (suc room) text))
    unfolding lines_of
    part_lines =
        let few : length (take len text) ≤ room = omega (arith, length-take len text) in
        rw (le-ltb room (length (take len text)) few, take_all (suc room) (take len text) (omega arith))
        (ap (λ (x : List ℕ). in_bytes false x) (part ∙ ap (λ (i : ℕ). take i (take (suc room) text)) is) ∙ lines_front n (take (suc room) text))

    same_limit : nat_lt (room - len) (length (drop len text)) ≡ nat_lt room (length text)
    same_limit = elim (cases_lt room (length text)) [
      | inl lt ↦ lt-ltb (room - len) (length (drop len text)) (omega (arith, length-drop len text)) ∙ sym (lt-ltb room (length text) lt)
      | inr ge ↦ le-ltb (room - len) (length (drop len text)) (omega (arith, length-drop len text)) ∙ sym (le-ltb room (length text) ge)
    ]

    same_rest : take (suc (room - len)) (drop len text) ≡ drop len (take (suc room) text)
    same_rest = sym (drop-take len (suc (room - len)) text) ∙ ap (λ (i : ℕ). drop len (take i text)) (let e : len + suc (room - len) ≡ suc room = omega arith in e)

    pub rest_lines : lines_of (room - len) (drop len text) ≡ drop n (lines_of room text)
    unfolding lines_of
    rest_lines =
        rw (same_limit, same_rest) (ap (λ (i : ℕ). in_bytes (nat_lt room (length text)) (drop i (take (suc room) text))) is ∙ lines_rest (nat_lt room (length text)) n (take (suc room) text))

  -- no line passes the limit
  module _ (none : list_any passes (take n (lines_of room text)) ≡ false) where
    fits_at : (b : Bool) → nat_lt room (length text) ≡ b → (len ≤ room) × (take n (lines_of room text) ≡ take n (in_bytes false (take (suc room) text)))
    unfolding lines_of
    fits_at false e = let le = ltb-false room (length text) e in let w = bytes_within n (take (suc room) text) in (omega (arith, length-take (suc room) text), rw e refl)
    fits_at true e =
        let lt = ltb-true room (length text) e in
        let size : length (take (suc room) text) ≡ suc room = omega (arith, length-take (suc room) text) in
        let clear : list_any passes (take n (in_bytes true (take (suc room) text))) ≡ false = subst (λ (b : Bool). list_any passes (take n (in_bytes b (take (suc room) text))) ≡ false) e none in
        let w = bytes_within n (take (suc room) text) in
        (le_from len room (λ big. true≢false (sym (over_end n (take (suc room) text) (omega arith) (omega arith)) ∙ clear)), rw e (same_over n (take (suc room) text) clear))
      where
        le_from : (a b : ℕ) → (suc b ≤ a → ⊥) → a ≤ b
        le_from a b h = elim (cases_lt b a) [ inl lt ↦ absurd (h lt) | inr le ↦ le ]

    pub fits_room : len ≤ room
    fits_room = (fits_at (nat_lt room (length text)) refl).0

    pub front_part : lines_of room (take len text) ≡ take n (lines_of room text)
    front_part = part_lines fits_room ∙ sym (fits_at (nat_lt room (length text)) refl).1

-- ---- reading to the end of main

pub record IsFronting (all left : List Line) (n : ℕ) (s : State) : Type 0 where
  pub before : List Line
  pub is : all ≡ before ++ left
  pub whole : front_lines all ≡ before ++ front_after before left
  pub count : n ≡ length before
  pub going : IsGoing (front_lines all) n (front_after before left) s

pub front_start : (all : List Line) → IsFronting all all 0 opening_state
front_start all = record { before = []; is = refl; whole = refl; count = refl; going = going_start (front_lines all) }

same_front : (all before left : List Line) (n : ℕ) (s : State) (g : IsGoing all n left s) → all ≡ before ++ left → n ≡ length before → g.front ≡ before
same_front all before left n s g whole count =
    sym (take-append_seam g.front left)
    ∙ ap (λ (x : List Line). take (length g.front) x) (sym g.is ∙ whole)
    ∙ ap (λ (i : ℕ). take i (before ++ left)) (sym g.count ∙ count)
    ∙ take-append_seam before left

over_is : (all before left : List Line) (n : ℕ) (s : State) (g : IsGoing all n left s) → all ≡ before ++ left → n ≡ length before → is_over s.place ≡ ends_main before
over_is all before left n s g whole count =
    ap is_over (g.digest.place ∙ ap place_after (g.saids ∙ ap (λ (x : List Line). said_by (map (read_line 1) x)) (same_front all before left n s g whole count)))

over_place : (p : Place) → is_over p ≡ true → p ≡ Over
over_place Over h = refl
over_place Opening h = cc
over_place Declaring h = cc
over_place Between h = cc
over_place Inside h = cc

module _ (all : List Line) (line : Line) (rest : List Line) (n : ℕ) (s : State) (f : IsFronting all (line ∷ rest) n s) where
  tail : List Line
  tail = cond (ends_main (f.before ++ line ∷ [])) [] (front_after (f.before ++ line ∷ []) rest)

  here : IsGoing (front_lines all) n (line ∷ cond (ends_main (f.before ++ line ∷ [])) [] (front_after (f.before ++ line ∷ []) rest)) s
  here = f.going

  pub front_fault : (kind : FaultKind) → fault_in s (read_line 1 line) ≡ Some kind → first_fault (front_lines all) ≡ Some (record { line = n + 1; kind = kind })
  front_fault kind h = going_fault (front_lines all) n line (cond (ends_main (f.before ++ line ∷ [])) [] (front_after (f.before ++ line ∷ []) rest)) s kind here h

  module _ (none : fault_in s (read_line 1 line) ≡ None) where
    t : State
    t = state_after s (read_line 1 line).said

    next : IsGoing (front_lines all) (n + 1) (cond (ends_main (f.before ++ line ∷ [])) [] (front_after (f.before ++ line ∷ []) rest)) (state_after s (read_line 1 line).said)
    next = going_on (front_lines all) n line (cond (ends_main (f.before ++ line ∷ [])) [] (front_after (f.before ++ line ∷ []) rest)) s here none

    parts : front_lines all ≡ (f.before ++ line ∷ []) ++ cond (ends_main (f.before ++ line ∷ [])) [] (front_after (f.before ++ line ∷ []) rest)
    parts = f.whole ∙ sym (append_assoc f.before (line ∷ []) (cond (ends_main (f.before ++ line ∷ [])) [] (front_after (f.before ++ line ∷ []) rest)))

    longer : n + 1 ≡ length (f.before ++ line ∷ [])
    longer = ap (λ (m : ℕ). m + 1) f.count ∙ sym (length-append f.before (line ∷ []))

    same_end : is_over (state_after s (read_line 1 line).said).place ≡ ends_main (f.before ++ line ∷ [])
    same_end = over_is (front_lines all) (f.before ++ line ∷ []) (cond (ends_main (f.before ++ line ∷ [])) [] (front_after (f.before ++ line ∷ []) rest)) (n + 1) (state_after s (read_line 1 line).said) next parts longer

    pub front_ends : (state_after s (read_line 1 line).said).place ≡ Over → ReadsTo (front_lines all) None (state_after s (read_line 1 line).said) × (n + 1 ≡ length (front_lines all))
    front_ends h =
        let b : ends_main (f.before ++ line ∷ []) ≡ true = sym same_end ∙ ap is_over h in
        let g : IsGoing (front_lines all) (n + 1) [] (state_after s (read_line 1 line).said) = subst (λ (c : Bool). IsGoing (front_lines all) (n + 1) (cond c [] (front_after (f.before ++ line ∷ []) rest)) (state_after s (read_line 1 line).said)) b next in
        let w : front_lines all ≡ (f.before ++ line ∷ []) ++ [] = subst (λ (c : Bool). front_lines all ≡ (f.before ++ line ∷ []) ++ cond c [] (front_after (f.before ++ line ∷ []) rest)) b parts in
        (ends_well (front_lines all) (n + 1) (state_after s (read_line 1 line).said) g (omega arith) h, longer ∙ ap (λ (x : List Line). length x) (sym (w ∙ append-nil (f.before ++ line ∷ []))))

    pub front_goes : is_over (state_after s (read_line 1 line).said).place ≡ false → IsFronting all rest (n + 1) (state_after s (read_line 1 line).said)
    front_goes h =
        let b : ends_main (f.before ++ line ∷ []) ≡ false = sym same_end ∙ h in
        record {
          before = f.before ++ line ∷ [];
          is = f.is ∙ sym (append_assoc f.before (line ∷ []) rest);
          whole = subst (λ (c : Bool). front_lines all ≡ (f.before ++ line ∷ []) ++ cond c [] (front_after (f.before ++ line ∷ []) rest)) b parts;
          count = longer;
          going = subst (λ (c : Bool). IsGoing (front_lines all) (n + 1) (cond c [] (front_after (f.before ++ line ∷ []) rest)) (state_after s (read_line 1 line).said)) b next;
        }

-- where the lines end first
pub front_stops : (all : List Line) (n : ℕ) (s : State) → IsFronting all [] n s → IsGoing (front_lines all) n [] s
front_stops all n s f = f.going

module _ (all : List Line) (n m : ℕ) (line : Line) (left rest : List Line) (s u : State) (fault : Option FaultKind)
    (f : IsFronting all left n s) (split : left ≡ line ∷ rest) (next_is : m ≡ n + 1) (goes : GoesBy s (fault_in s (read_line 1 line)) (read_line 1 line).said fault u) where
  fronting : IsFronting all (line ∷ rest) n s
  fronting = subst (λ (x : List Line). IsFronting all x n s) split f

  pub step_fault : (kind : FaultKind) → fault ≡ Some kind → first_fault (front_lines all) ≡ Some (record { line = m; kind = kind })
  step_fault kind e = front_fault all line rest n s fronting kind (fault_by s (fault_in s (read_line 1 line)) (read_line 1 line).said fault u kind goes e) ∙ ap (λ (k : ℕ). Some (record { line = k; kind = kind })) (sym next_is)

  module _ (e : fault ≡ None) (over : Bool) (place : over ≡ is_over u.place) where
    went : (fault_in s (read_line 1 line) ≡ None) × (u ≡ state_after s (read_line 1 line).said)
    went = on_by s (fault_in s (read_line 1 line)) (read_line 1 line).said fault u goes e

    pub step_over : over ≡ true → FrontReads all None u m
    step_over h =
        let at : u.place ≡ Over = over_place u.place (sym place ∙ h) in
        let g = front_ends all line rest n s fronting went.0 (subst (λ (x : State). x.place ≡ Over) went.1 at) in
        (subst (λ (x : State). ReadsTo (front_lines all) None x) (sym went.1) g.0, next_is ∙ g.1)

    pub step_on : over ≡ false → IsFronting all rest m u
    step_on h =
        let at : is_over (state_after s (read_line 1 line).said).place ≡ false = subst (λ (x : State). is_over x.place ≡ false) went.1 (sym place ∙ h) in
        subst (λ (k : ℕ). IsFronting all rest k u) (sym next_is) (subst (λ (x : State). IsFronting all rest (n + 1) x) (sym went.1) (front_goes all line rest n s fronting went.0 at))

front_by : (lines : List Line) (f : Option Fault) (s : State) (n : ℕ) → ReadsTo (front_lines lines) f s → n ≡ length (front_lines lines) → FrontReads lines f s n
front_by lines None s n h k = (h, k)
front_by lines (Some f) s n h k = h

pub front_done : (all left : List Line) (n : ℕ) (s : State) (fault : Option Fault) → IsFronting all left n s → left ≡ [] → fault ≡ end_in s.place n → FrontReads all fault s n
front_done all left n s fault f none e =
    let g : IsGoing (front_lines all) n [] s = front_stops all n s (subst (λ (x : List Line). IsFronting all x n s) none f) in
    front_by all fault s n (all_read (front_lines all) n [] s fault g refl e) (g.count ∙ ap (λ (x : List Line). length x) (sym (g.is ∙ append-nil g.front)))

-- ---- the scenario of a front

module _ (room : ℕ) (text : List ℕ) (n len next : ℕ) (s : State) (reads : FrontReads (lines_of room text) None s n) (is : len ≡ bytes_of n (take (suc room) text)) where
  all_front : front_lines (lines_of room text) ≡ take n (lines_of room text)
  all_front = front_is_take [] (lines_of room text) ∙ ap (λ (i : ℕ). take i (lines_of room text)) (sym reads.1)

  clear : list_any passes (take n (lines_of room text)) ≡ false
  clear = subst (λ (x : List Line). list_any passes x ≡ false) all_front (clean_passes (front_lines (lines_of room text)) reads.0.0)

  front_is : lines_of room (take len text) ≡ front_lines (lines_of room text)
  front_is = front_part room text n len is clear ∙ sym all_front

  there : ReadsTo (lines_of room (take len text)) None s
  there = subst (λ (x : List Line). ReadsTo x None s) (sym front_is) reads.0

  pub front_within : len ≤ length text
  front_within = short room text n len is

  pub front_means : meaning room (take len text) ≡ Ok (script_in s)
  front_means = meaning_ok room (take len text) s there

  pub front_apart : AllApart s.names.threads
  front_apart = reads.0.2

  pub is_front : (t : Script) → t ≡ script_in s → next ≡ n + 1 → IsFront room text t len next
  is_front t e after = record {
    within = front_within;
    lines = front_is;
    means = front_means ∙ ap (λ (x : Script). Ok x) (sym e);
    next_is = after ∙ ap (λ (i : ℕ). i + 1) reads.1 ∙ add-one (length (front_lines (lines_of room text)));
    rest = rest_lines room text n len is (fits_room room text n len is clear) ∙ ap (λ (i : ℕ). drop i (lines_of room text)) reads.1;
  }

-- ---- bytes of lines

pub bytes_step : (n i : ℕ) (t : List ℕ) → i < n → bytes_of (n - i) t ≡ line_bytes t + bytes_of (n - (i + 1)) (drop (line_bytes t) t)
bytes_step n i t lt = let e : n - i ≡ suc (n - (i + 1)) = omega arith in rw e refl

pub no_more_bytes : (n i : ℕ) (t : List ℕ) → n ≤ i → bytes_of (n - i) t ≡ 0
no_more_bytes n i t le = let e : n - i ≡ 0 = omega arith in rw e refl

pub bytes_on : (n i bytes here : ℕ) (rest after : List ℕ) (total : ℕ) → i < n → here ≡ line_bytes rest → after ≡ drop here rest → bytes + bytes_of (n - i) rest ≡ total → bytes + here + bytes_of (n - (i + 1)) after ≡ total
bytes_on n i bytes here rest after total lt h a t =
    let e : bytes_of (n - i) rest ≡ line_bytes rest + bytes_of (n - (i + 1)) (drop (line_bytes rest) rest) = bytes_step n i rest lt in
    let f : bytes_of (n - (i + 1)) after ≡ bytes_of (n - (i + 1)) (drop (line_bytes rest) rest) = ap (λ (x : List ℕ). bytes_of (n - (i + 1)) x) (a ∙ ap (λ (k : ℕ). drop k rest) h) in
    omega (arith, e, f, h, t)
