-- A row that may be meant begins as the line does, so that the rows that begin otherwise can be left out.
use Rattle.std.proofs.Common.{◌≡◌, ℕ, zero, suc, ◌-◌, ◌==◌, true, false, List, [], ◌∷◌, length, filter, refl, sym, ap, eq-eqb}
use Rattle.std.specs.Prelude.{nat_le}
use Rattle.std.specs.Str.{bytes_eq}
use Rattle.std.proofs.lemmas.Bool.{and_parts}
use Rattle.std.proofs.lemmas.Slice.Eq.{bytes_eq-Decides}
use Rattle.cx_text.specs.declared.form.Field.{Field}
use Rattle.cx_text.specs.declared.form.Field.TheVariants as fields
use Rattle.cx_text.specs.Table.{spelling}
use Rattle.cx_text.specs.Words.{Table, rows_for, spread, has_head, has_literals}
use Rattle.cx_text.specs.Views.{first_byte, word_at, begins, agrees, tells, rows_in}
use Rattle.cx_text.proofs.Among.{may_be, enough}

-- equal words begin alike
alike : (v w : List ℕ) → bytes_eq v w ≡ true → (first_byte v == first_byte w) ≡ true
alike v w h = eq-eqb (first_byte v) (first_byte w) (ap first_byte ((bytes_eq-Decides v w).0 h))

-- fields that take some words agree with each of them
agreeing : (i n : ℕ) (fs : List Field) (ws : List (List ℕ)) → has_literals (spread fs n) ws ≡ true → agrees i (first_byte (word_at i ws)) fs ≡ true
agreeing zero n [] ws h = refl
agreeing zero n (fields.New ∷ fs) ws h = refl
agreeing zero n (fields.Own ∷ fs) ws h = refl
agreeing zero n (fields.Name sort ∷ fs) ws h = refl
agreeing zero n (fields.Each sort ∷ fs) ws h = refl
agreeing zero n (fields.Policy ∷ fs) ws h = refl
agreeing zero n (fields.Relation ∷ fs) ws h = refl
agreeing zero n (fields.Number low high ∷ fs) ws h = refl
agreeing zero n (fields.Signed ∷ fs) ws h = refl
agreeing zero n (fields.Index ∷ fs) ws h = refl
agreeing zero n (fields.UpToNext ∷ fs) ws h = refl
agreeing zero n (fields.Several sort least most ∷ fs) ws h = refl
agreeing zero n (fields.Word literal ∷ fs) [] h = absurd (let no : false ≡ true = h in cc)
agreeing zero n (fields.Word literal ∷ fs) (w ∷ ws) h = alike (spelling literal) w (and_parts (bytes_eq (spelling literal) w) (has_literals (spread fs (n - 1)) ws) h).0
agreeing (suc i) n [] ws h = refl
agreeing (suc i) n (fields.Several sort least most ∷ fs) ws h = refl
agreeing (suc i) n (fields.New ∷ fs) [] h = absurd (let no : false ≡ true = h in cc)
agreeing (suc i) n (fields.New ∷ fs) (w ∷ ws) h = agreeing i (n - 1) fs ws h
agreeing (suc i) n (fields.Own ∷ fs) [] h = absurd (let no : false ≡ true = h in cc)
agreeing (suc i) n (fields.Own ∷ fs) (w ∷ ws) h = agreeing i (n - 1) fs ws h
agreeing (suc i) n (fields.Name sort ∷ fs) [] h = absurd (let no : false ≡ true = h in cc)
agreeing (suc i) n (fields.Name sort ∷ fs) (w ∷ ws) h = agreeing i (n - 1) fs ws h
agreeing (suc i) n (fields.Each sort ∷ fs) [] h = absurd (let no : false ≡ true = h in cc)
agreeing (suc i) n (fields.Each sort ∷ fs) (w ∷ ws) h = agreeing i (n - 1) fs ws h
agreeing (suc i) n (fields.Policy ∷ fs) [] h = absurd (let no : false ≡ true = h in cc)
agreeing (suc i) n (fields.Policy ∷ fs) (w ∷ ws) h = agreeing i (n - 1) fs ws h
agreeing (suc i) n (fields.Relation ∷ fs) [] h = absurd (let no : false ≡ true = h in cc)
agreeing (suc i) n (fields.Relation ∷ fs) (w ∷ ws) h = agreeing i (n - 1) fs ws h
agreeing (suc i) n (fields.Number low high ∷ fs) [] h = absurd (let no : false ≡ true = h in cc)
agreeing (suc i) n (fields.Number low high ∷ fs) (w ∷ ws) h = agreeing i (n - 1) fs ws h
agreeing (suc i) n (fields.Signed ∷ fs) [] h = absurd (let no : false ≡ true = h in cc)
agreeing (suc i) n (fields.Signed ∷ fs) (w ∷ ws) h = agreeing i (n - 1) fs ws h
agreeing (suc i) n (fields.Index ∷ fs) [] h = absurd (let no : false ≡ true = h in cc)
agreeing (suc i) n (fields.Index ∷ fs) (w ∷ ws) h = agreeing i (n - 1) fs ws h
agreeing (suc i) n (fields.UpToNext ∷ fs) [] h = absurd (let no : false ≡ true = h in cc)
agreeing (suc i) n (fields.UpToNext ∷ fs) (w ∷ ws) h = agreeing i (n - 1) fs ws h
agreeing (suc i) n (fields.Word literal ∷ fs) [] h = absurd (let no : false ≡ true = h in cc)
agreeing (suc i) n (fields.Word literal ∷ fs) (w ∷ ws) h = agreeing i (n - 1) fs ws (and_parts (bytes_eq (spelling literal) w) (has_literals (spread fs (n - 1)) ws) h).1

module _ (F : Type 0) (table : Table F) (head : List ℕ) (after : List (List ℕ)) where
  begun : (row : F) → may_be F table head after row ≡ true → begins table (first_byte head) row ≡ true
  begun row h =
      let headed = (and_parts (has_head table 1 head row) (has_literals (spread (table.fields row) (length after)) after) h).0 in
      alike (table.head row) head (and_parts (bytes_eq (table.head row) head) (nat_le (table.since row) 1) headed).0

  told : (i : ℕ) (row : F) → may_be F table head after row ≡ true → tells table (first_byte head) i (first_byte (word_at i after)) row ≡ true
  told i row h =
      let parts = and_parts (has_head table 1 head row) (has_literals (spread (table.fields row) (length after)) after) h in
      rw (begun row h, agreeing i (length after) (table.fields row) after parts.1) refl

  -- rows are enough that are all which begin with the line's first byte
  pub by_head : (byte : ℕ) (rows : List F) → byte ≡ first_byte head → filter (begins table byte) rows ≡ filter (begins table byte) table.forms → rows_in table 1 head after rows ≡ rows_for table 1 head after
  by_head byte rows e h = enough F table head after (begins table (first_byte head)) begun rows (rw e at h)

  -- and of these those that agree with one word behind it
  pub by_word : (sign i byte : ℕ) (rows : List F) → first_byte head ≡ sign → byte ≡ first_byte (word_at i after) → filter (tells table sign i byte) rows ≡ filter (tells table sign i byte) table.forms
      → rows_in table 1 head after rows ≡ rows_for table 1 head after
  by_word sign i byte rows e f h = enough F table head after (tells table (first_byte head) i (first_byte (word_at i after))) (told i) rows (rw (sym e, f) at h)
