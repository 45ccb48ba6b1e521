-- A line is taken off a text at its first line feed.
use Rattle.std.proofs.Common.{◌≡◌, ℕ, zero, suc, ◌+◌, ◌<◌, ◌≤◌, Bool, true, false, eqb, ◌&&◌, List, [], ◌∷◌, length, take, drop, get_or, refl, sym, ap, subst, take_all, cond, ◌∙◌, arith, add-one}
use Rattle.std.specs.List.{slice_split, onto_first, position_or_len}
use Rattle.std.proofs.lemmas.Bool.{le-ltb, lt-ltb, ne_eqb}
use Rattle.std.proofs.lemmas.List.Splits.{slice_split_first, slice_split_none, length-slice_split}
use Rattle.std.proofs.lemmas.List.Sums.{fails_before_first}
use Rattle.cx_text.specs.Lines.{last_line, is_end, lines_from, lines_of, without_return}

abbrev pub is_feed : ℕ → Bool
is_feed b = eqb b 10

-- ---- the carriage return

pub dropped_at : (bs : List ℕ) (n : ℕ) → n + 1 ≡ length bs → get_or bs n 0 ≡ 13 → take n bs ≡ without_return bs
dropped_at [] n e h = absurd (omega arith)
dropped_at (b ∷ []) zero e h = rw h refl
dropped_at (b ∷ []) (suc n) e h = absurd (omega arith)
dropped_at (b ∷ c ∷ bs) zero e h = absurd (omega arith)
dropped_at (b ∷ c ∷ bs) (suc n) e h = ap (λ (t : List ℕ). b ∷ t) (dropped_at (c ∷ bs) n (omega arith) h)

pub kept_at : (bs : List ℕ) (n : ℕ) → n + 1 ≡ length bs → eqb (get_or bs n 0) 13 ≡ false → bs ≡ without_return bs
kept_at [] n e h = refl
kept_at (b ∷ []) zero e h = rw h refl
kept_at (b ∷ []) (suc n) e h = absurd (omega arith)
kept_at (b ∷ c ∷ bs) zero e h = absurd (omega arith)
kept_at (b ∷ c ∷ bs) (suc n) e h = ap (λ (t : List ℕ). b ∷ t) (kept_at (c ∷ bs) n (omega arith) h)

-- ---- one line

ends : (b : ℕ) (t : Bool) (parts : List (List ℕ)) → 0 < length parts → is_end (cond t ([] ∷ parts) (onto_first b parts)) ≡ false
ends b t [] some = absurd (omega arith)
ends b true (part ∷ parts) some = refl
ends b false (part ∷ parts) some = refl

some_part : (bs : List ℕ) → 0 < length (slice_split (λ b. eqb b 10) bs)
some_part bs = let e = length-slice_split (λ (b : ℕ). eqb b 10) bs in omega arith

-- nothing after the last line feed
end_of : (after : List ℕ) → is_end (slice_split (λ b. eqb b 10) after) ≡ eqb (length after) 0
end_of [] = refl
end_of (b ∷ bs) = ends b (eqb b 10) (slice_split (λ b. eqb b 10) bs) (some_part bs) ∙ sym (ne_eqb (suc (length bs)) 0 (λ e. omega arith))

one_more : (over : Bool) (part : List ℕ) (parts : List (List ℕ)) → 0 < length parts
    → lines_from over (part ∷ parts) ≡ record { bytes = without_return part; over = over && is_end parts } ∷ lines_from over parts
one_more over part [] some = absurd (omega arith)
one_more over part (next ∷ parts) some = refl

pub first_line : (over : Bool) (rest : List ℕ) (end : ℕ) → position_or_len (λ b. eqb b 10) rest ≡ end → end < length rest
    → lines_from over (slice_split (λ b. eqb b 10) rest)
    ≡ record { bytes = without_return (take end rest); over = over && eqb (length (drop (end + 1) rest)) 0 } ∷ lines_from over (slice_split (λ b. eqb b 10) (drop (end + 1) rest))
first_line over rest end e lt =
    let at : slice_split (λ b. eqb b 10) rest ≡ take end rest ∷ slice_split (λ b. eqb b 10) (drop (end + 1) rest) =
    subst (λ (n : ℕ). slice_split (λ b. eqb b 10) rest ≡ take n rest ∷ slice_split (λ b. eqb b 10) (drop (n + 1) rest)) e
    (slice_split_first (λ (b : ℕ). eqb b 10) rest 0 (subst (λ (n : ℕ). n < length rest) (sym e) lt)) in
    ap (lines_from over) at
    ∙ one_more over (take end rest) (slice_split (λ b. eqb b 10) (drop (end + 1) rest)) (some_part (drop (end + 1) rest))
    ∙ ap (λ (t : Bool). record { bytes = without_return (take end rest); over = over && t } ∷ lines_from over (slice_split (λ b. eqb b 10) (drop (end + 1) rest))) (end_of (drop (end + 1) rest))

-- the part after the last line feed
pub last_part : (over : Bool) (rest : List ℕ) → length rest ≤ position_or_len (λ b. eqb b 10) rest → lines_from over (slice_split (λ b. eqb b 10) rest) ≡ last_line over rest
last_part over rest h =
    ap (lines_from over) (slice_split_none (λ (b : ℕ). eqb b 10) rest (λ k d lt. fails_before_first (λ (b : ℕ). eqb b 10) rest k d (omega (arith, lt, h))))

-- a line with its end, by what the code tells of it
pub given_first : (over : Bool) (rest bytes after : List ℕ) (end : ℕ) (empty : Bool) → end ≡ position_or_len (λ b. eqb b 10) rest → end < length rest
    → bytes ≡ without_return (take end rest) → after ≡ drop (end + 1) rest → empty ≡ eqb (length after) 0
    → lines_from over (slice_split (λ b. eqb b 10) rest) ≡ record { bytes = bytes; over = over && empty } ∷ lines_from over (slice_split (λ b. eqb b 10) after)
given_first over rest bytes after end empty at lt front back ends =
    first_line over rest end (sym at) lt
    ∙ ap (λ (t : List ℕ). record { bytes = without_return (take end rest); over = over && eqb (length t) 0 } ∷ lines_from over (slice_split (λ b. eqb b 10) t)) (sym back)
    ∙ ap (λ (t : Bool). record { bytes = without_return (take end rest); over = over && t } ∷ lines_from over (slice_split (λ b. eqb b 10) after)) (sym ends)
    ∙ ap (λ (t : List ℕ). record { bytes = t; over = over && empty } ∷ lines_from over (slice_split (λ b. eqb b 10) after)) (sym front)

-- the last line, which has no end
pub given_last : (over : Bool) (rest : List ℕ) → length rest ≤ position_or_len (λ b. eqb b 10) rest → 0 < length rest
    → lines_from over (slice_split (λ b. eqb b 10) rest) ≡ record { bytes = rest; over = over } ∷ []
given_last over [] none some = absurd (omega arith)
given_last over (b ∷ rest) none some = last_part over (b ∷ rest) none

-- ---- the limit

pub left_all : (limit : ℕ) (text : List ℕ) → length text ≤ limit → lines_from false (slice_split (λ b. eqb b 10) text) ≡ lines_of limit text
unfolding lines_of
left_all limit text h = rw (le-ltb limit (length text) h, take_all (suc limit) text (omega arith)) refl

pub left_over : (limit : ℕ) (text : List ℕ) → limit < length text → lines_from true (slice_split (λ b. eqb b 10) (take (limit + 1) text)) ≡ lines_of limit text
unfolding lines_of
left_over limit text h = rw (lt-ltb limit (length text) h, add-one) refl
