-- A line is read by the first row that takes its words.
use Rattle.std.proofs.Common.{◌≡◌, ℕ, suc, ◌+◌, ◌<◌, ◌≤◌, Bool, true, false, cond, ◌&&◌, List, [], ◌∷◌, ◌++◌, length, drop, get_or, filter, Option, Some, None, Bor, refl, sym, ap, ◌∙◌, add-one, drop-cons}
use Rattle.std.specs.Option.{option_map}
use Rattle.std.proofs.lemmas.List.{drop_all, length-map}
use Rattle.cx_text.specs.declared.form.Field.{Field}
use Rattle.cx_text.specs.Words.{Table, Said, Value, values_of, spread, own_word, said_as, first_some, or_some, rows_for, has_head, has_literals}
use Rattle.cx_text.specs.Views.{now_all, said_if, rows_in}

module _ (F : Type 0) (table : Table F) (head : List ℕ) (after : List (List ℕ)) where
  abbrev pub may_be : F → Bool
  may_be row = has_head table 1 head row && has_literals (spread (table.fields row) (length after)) after

  abbrev pub read_among : List F → Option (Said F)
  read_among rows = first_some (said_as table 1 after) (rows_in table 1 head after rows)

  by_tests : (row : F) (rows : List F) (a b : Bool) → has_head table 1 head row ≡ a → has_literals (spread (table.fields row) (length after)) after ≡ b
      → rows_in table 1 head after (row ∷ rows) ≡ cond (a && b) (row ∷ rows_in table 1 head after rows) (rows_in table 1 head after rows)
  unfolding rows_in
  by_tests row rows true true e f = rw (e, f) refl
  by_tests row rows true false e f = rw (e, f) refl
  by_tests row rows false b e f = rw e refl

  one_row : (row : F) (rows : List F) → rows_in table 1 head after (row ∷ rows) ≡ cond (may_be row) (row ∷ rows_in table 1 head after rows) (rows_in table 1 head after rows)
  one_row row rows = by_tests row rows (has_head table 1 head row) (has_literals (spread (table.fields row) (length after)) after) refl refl

  -- a test that all rows pass which may be meant leaves them
  left_by : (test : F → Bool) (row : F) (rows : List F) (a b : Bool) → test row ≡ a → may_be row ≡ b → (b ≡ true → a ≡ true)
      → rows_in table 1 head after rows ≡ rows_in table 1 head after (filter test rows) → rows_in table 1 head after (row ∷ rows) ≡ rows_in table 1 head after (filter test (row ∷ rows))
  left_by test row rows true b e f implies h =
      let kept : filter test (row ∷ rows) ≡ row ∷ filter test rows = rw e refl in
      one_row row rows ∙ ap (λ (xs : List F). cond (may_be row) (row ∷ xs) xs) h ∙ sym (one_row row (filter test rows)) ∙ ap (rows_in table 1 head after) (sym kept)
  left_by test row rows false true e f implies h = absurd (let no : false ≡ true = implies refl in cc)
  left_by test row rows false false e f implies h =
      let gone : filter test (row ∷ rows) ≡ filter test rows = rw e refl in
      one_row row rows ∙ ap (λ (t : Bool). cond t (row ∷ rows_in table 1 head after rows) (rows_in table 1 head after rows)) f ∙ h ∙ ap (rows_in table 1 head after) (sym gone)

  left : (test : F → Bool) → ((row : F) → may_be row ≡ true → test row ≡ true) → (rows : List F) → rows_in table 1 head after rows ≡ rows_in table 1 head after (filter test rows)
  unfolding rows_in
  left test passes [] = refl
  left test passes (row ∷ rows) = left_by test row rows (test row) (may_be row) refl refl (passes row) (left test passes rows)

  -- so rows are enough that pass it in the same way as all
  pub enough : (test : F → Bool) → ((row : F) → may_be row ≡ true → test row ≡ true) → (rows : List F) → filter test rows ≡ filter test table.forms
      → rows_in table 1 head after rows ≡ rows_for table 1 head after
  unfolding rows_in rows_for
  enough test passes rows e = left test passes rows ∙ ap (rows_in table 1 head after) e ∙ sym (left test passes table.forms)

  pub whole : (rows : List F) → rows ≡ table.forms → rows_in table 1 head after rows ≡ rows_for table 1 head after
  unfolding rows_in rows_for
  whole rows e = rw e refl

  at_row : (rows : List F) (i : ℕ) (d : F) → i < length rows → rows_in table 1 head after (drop i rows)
      ≡ cond (may_be (get_or rows i d)) (get_or rows i d ∷ rows_in table 1 head after (drop (i + 1) rows)) (rows_in table 1 head after (drop (i + 1) rows))
  at_row rows i d lt =
      ap (rows_in table 1 head after) (drop-cons rows i d lt) ∙ one_row (get_or rows i d) (drop (suc i) rows)
      ∙ ap (λ (k : ℕ). cond (may_be (get_or rows i d)) (get_or rows i d ∷ rows_in table 1 head after (drop k rows)) (rows_in table 1 head after (drop k rows))) (sym (add-one i))

  pub skipped : (rows : List F) (i : ℕ) (d : F) (whole : Option (Said F)) → i < length rows → may_be (get_or rows i d) ≡ false → read_among (drop i rows) ≡ whole → read_among (drop (i + 1) rows) ≡ whole
  skipped rows i d whole lt e h =
      ap (λ (t : Bool). first_some (said_as table 1 after) (cond t (get_or rows i d ∷ rows_in table 1 head after (drop (i + 1) rows)) (rows_in table 1 head after (drop (i + 1) rows)))) (sym e)
      ∙ ap (first_some (said_as table 1 after)) (sym (at_row rows i d lt)) ∙ h

  pub tried : (rows : List F) (i : ℕ) (d : F) (whole o : Option (Said F)) → i < length rows → may_be (get_or rows i d) ≡ true → said_as table 1 after (get_or rows i d) ≡ o
      → read_among (drop i rows) ≡ whole → or_some o (read_among (drop (i + 1) rows)) ≡ whole
  tried rows i d whole o lt e f h =
      ap (λ (t : Option (Said F)). or_some t (read_among (drop (i + 1) rows))) (sym f)
      ∙ ap (λ (t : Bool). first_some (said_as table 1 after) (cond t (get_or rows i d ∷ rows_in table 1 head after (drop (i + 1) rows)) (rows_in table 1 head after (drop (i + 1) rows)))) (sym e)
      ∙ ap (first_some (said_as table 1 after)) (sym (at_row rows i d lt)) ∙ h

  -- with all rows before it that may be meant
  pub all_rows : (rows : List F) → rows_in table 1 head after rows ≡ rows_for table 1 head after → read_among rows ≡ first_some (said_as table 1 after) (rows_for table 1 head after)
  all_rows rows e = ap (first_some (said_as table 1 after)) e

  pub none_left : (rows : List F) (i : ℕ) (whole : Option (Said F)) → length rows ≤ i → read_among (drop i rows) ≡ whole → None ≡ whole
  unfolding rows_in
  none_left rows i whole le h = ap read_among (sym (drop_all i rows le)) ∙ h

same_values : (all : Bool) (o : Option (List Value)) (vs : List Value) → option_map (λ ws. [] ++ ws) o ≡ said_if all vs → o ≡ said_if all vs
same_values all None vs h = h
same_values all (Some ws) vs h = h

-- what a row makes of the words, by what was taken of them
pub said_by_row : (F : Type 0) (table : Table F) (row : F) (after : List (Bor (List ℕ))) (own : List ℕ) (fs : List Field) (bs vs : List Value) (all t : Bool) → all ≡ t
    → own ≡ own_word (now_all after) → fs ≡ table.fields row → bs ≡ [] → option_map (λ ws. bs ++ ws) (values_of 1 own (spread fs (length after)) (now_all after)) ≡ said_if all vs
    → said_as table 1 (now_all after) row ≡ option_map (λ ws. record { form = row; values = ws }) (said_if t vs)
said_by_row F table row after own fs bs vs all t a e f g h =
    let taken : values_of 1 own (spread fs (length after)) (now_all after) ≡ said_if all vs =
    same_values all (values_of 1 own (spread fs (length after)) (now_all after)) vs (rw g at h) in
    ap (λ (n : ℕ). option_map (λ (ws : List Value). record { form = row; values = ws }) (values_of 1 (own_word (now_all after)) (spread (table.fields row) n) (now_all after))) (length-map after (λ (w : Bor (List ℕ)). w.now))
    ∙ ap (option_map (λ (ws : List Value). record { form = row; values = ws })) ((rw (e, f) at taken) ∙ ap (λ (b : Bool). said_if b vs) a)

-- the test by the words as the code has them
pub same_may_be : (F : Type 0) (table : Table F) (head : List ℕ) (after : List (Bor (List ℕ))) (row : F)
    → (has_head table 1 head row && has_literals (spread (table.fields row) (length after)) (now_all after)) ≡ may_be F table head (now_all after) row
same_may_be F table head after row =
    ap (λ (n : ℕ). has_head table 1 head row && has_literals (spread (table.fields row) n) (now_all after)) (sym (length-map after (λ (w : Bor (List ℕ)). w.now)))

-- a row that is passed by
pub row_skipped : (F : Type 0) (table : Table F) (head : List ℕ) (after : List (Bor (List ℕ))) (rows : List F) (i : ℕ) (row : F) (b : Bool) (whole : Option (Said F)) → i < length rows
    → row ≡ get_or rows i row → b ≡ (has_head table 1 head row && has_literals (spread (table.fields row) (length after)) (now_all after)) → b ≡ false
    → read_among F table head (now_all after) (drop i rows) ≡ whole → read_among F table head (now_all after) (drop (i + 1) rows) ≡ whole
row_skipped F table head after rows i row b whole lt e f g h =
    skipped F table head (now_all after) rows i row whole lt (ap (may_be F table head (now_all after)) (sym e) ∙ sym (same_may_be F table head after row) ∙ sym f ∙ g) h

-- a row that is tried
pub row_tried : (F : Type 0) (table : Table F) (head : List ℕ) (after : List (Bor (List ℕ))) (rows : List F) (i : ℕ) (row : F) (b : Bool) (whole o : Option (Said F)) → i < length rows
    → row ≡ get_or rows i row → b ≡ (has_head table 1 head row && has_literals (spread (table.fields row) (length after)) (now_all after)) → b ≡ true
    → said_as table 1 (now_all after) row ≡ o
    → read_among F table head (now_all after) (drop i rows) ≡ whole → or_some o (read_among F table head (now_all after) (drop (i + 1) rows)) ≡ whole
row_tried F table head after rows i row b whole o lt e f g m h =
    tried F table head (now_all after) rows i row whole o lt (ap (may_be F table head (now_all after)) (sym e) ∙ sym (same_may_be F table head after row) ∙ sym f ∙ g)
    (ap (said_as table 1 (now_all after)) (sym e) ∙ m) h
