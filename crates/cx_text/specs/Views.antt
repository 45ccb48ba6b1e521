-- What the values of the code stand for.
use Rattle.std.specs.Prelude.{ℕ, zero, suc, Bool, true, false, ◌==◌, ◌&&◌, List, [], ◌∷◌, map, filter, length, get_or, Option, Some, None}
use Rattle.std.specs.List.{slice_split, flat_map}
use Rattle.std.specs.Borrow.{Bor}
use Rattle.cx_text.specs.declared.line.Line.{Line as LineOf}
use Rattle.cx_text.specs.declared.line.Lines.{Lines}
use Rattle.cx_text.specs.declared.value.Value.{Value as ValueOf}
use Rattle.cx_text.specs.declared.value.Value.TheVariants as values
use Rattle.cx_text.specs.Words.{Value, AWord, ANumber, spell, Table, spread, has_head, has_literals}
use Rattle.std.specs.Str.{bytes_eq}
use Rattle.cx_text.specs.declared.form.Field.{Field}
use Rattle.cx_text.specs.declared.form.Field.TheVariants as fields
use Rattle.cx_text.specs.Table.{spelling}
use Rattle.cx_text.specs.Lines.{Line, lines_from}

-- ---- lines

abbrev pub line_seen : LineOf → Line
line_seen l = record { bytes = l.bytes.now; over = l.over }

-- the lines that a reader has not yet given
unfoldable pub lines_left : Lines → List Line
lines_left lines = lines_from lines.over (slice_split (λ b. b == 10) lines.rest.now)

-- ---- words

-- the bytes of each word
abbrev pub now_all : List (Bor (List ℕ)) → List (List ℕ)
now_all ws = map (λ w. w.now) ws

-- the first word begins with #
abbrev pub is_comment : List (List ℕ) → Bool
is_comment ((b ∷ bs) ∷ ws) = b == 35
is_comment _ = false

-- ---- values

abbrev pub seen : ValueOf → Value
seen (values.Word w) = AWord w.now
seen (values.Number n) = ANumber n

-- a word that stands for itself is there, where the field names one
abbrev pub literal_fits : Field → List ℕ → Bool
literal_fits (fields.Word literal) w = bytes_eq (spelling literal) w
literal_fits _ w = true

-- what was taken, where all was
abbrev pub said_if : Bool → List Value → Option (List Value)
said_if true vs = Some vs
said_if false vs = None

-- each value after a space
abbrev pub spaced : List Value → List ℕ
spaced vs = flat_map (λ v. 32 ∷ spell v) vs

-- ---- rows

-- the first byte of a word, and 0 where there is none
abbrev pub first_byte : List ℕ → ℕ
first_byte [] = 0
first_byte (b ∷ bs) = b

-- a word by its place, and an empty one where there is none
abbrev pub word_at : ℕ → List (List ℕ) → List ℕ
word_at i ws = get_or ws i []

-- a row's first word begins with this byte
abbrev pub begins : {F : Type 0} → Table F → ℕ → F → Bool
begins table byte f = first_byte (table.head f) == byte

-- the word that stands for itself at this place among some fields, if one does, begins with this byte
abbrev pub agrees : ℕ → ℕ → List Field → Bool
agrees zero byte (fields.Word literal ∷ fs) = first_byte (spelling literal) == byte
agrees (suc i) byte (fields.Several sort least most ∷ fs) = true
agrees (suc i) byte (f ∷ fs) = agrees i byte fs
agrees _ byte _ = true

-- a row's first word begins with one byte, and that behind it at this place with the other
abbrev pub tells : {F : Type 0} → Table F → ℕ → ℕ → ℕ → F → Bool
tells table sign i byte f = begins table sign f && agrees i byte (table.fields f)

-- those of some rows that lines with these words may have
unfoldable pub rows_in : {F : Type 0} → Table F → ℕ → List ℕ → List (List ℕ) → List F → List F
rows_in table version w ws rows = filter (λ f. has_literals (spread (table.fields f) (length ws)) ws) (filter (has_head table version w) rows)
