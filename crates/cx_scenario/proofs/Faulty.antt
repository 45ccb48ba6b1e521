-- The fault of a line by what is kept is its fault after the earlier lines.
use Rattle.std.proofs.Common.{◌≡◌, ℕ, suc, ◌+◌, ℤ, Bool, true, false, cond, ◌&&◌, ◌||◌, not, List, [], ◌∷◌, ◌++◌, length, filter, Option, Some, None, refl, sym, ap, ◌∙◌, arith, add-zero}
use Rattle.std.specs.Prelude.{nat_le, nat_lt, is_some}
use Rattle.std.specs.List.{list_any, list_all}
use Rattle.std.specs.Str.{bytes_eq}
use Rattle.std.proofs.lemmas.List.{length-map}
use Rattle.std.proofs.lemmas.Bool.{lt-ltb}
use Rattle.cx_text.specs.declared.fault.FaultKind.{FaultKind}
use Rattle.cx_text.specs.declared.fault.FaultKind.TheVariants as faults
use Rattle.cx_text.specs.declared.form.Form.{Form}
use Rattle.cx_text.specs.declared.form.Form.TheVariants as forms
use Rattle.cx_text.specs.declared.form.Sort.{Sort}
use Rattle.cx_text.specs.Table.{makes}
use Rattle.cx_text.specs.Lines.{Line, words_of, is_text_byte}
use Rattle.cx_text.specs.Words.{Filled, Value, main_word, fields_in, filled_by, line_by, is_one_of, or_some}
use Rattle.cx_script.specs.Earlier.{Place, part_of, place_after, may_stand, is_call, declaration_of, fits_sort, this_body, this_thread, subject}
use Rattle.cx_script.specs.Faults.{read_line, fault_on, counted, makes_thread, makes_object, makes_callback, is_too_many, has_unknown, has_wrong_kind, has_outside, is_twice, is_over_latch, is_bad_order, is_opening, is_plain_thread, numbers_of, is_mutex, mutex_among, is_latch, has_repeated, taken, takes, count_in}
use Rattle.cx_script.specs.Faults.{any_outside as all_outside}
use Rattle.cx_script.proofs.Steps.{taken_more}
use Rattle.cx_scenario.specs.Checks.{each_words}
use Rattle.cx_scenario.specs.Steps.{State, fault_in, fault_among, too_many_in, unknown_in, wrong_kind_in, outside_in, twice_in, is_twice_before, over_latch_in, bad_order_in, taken_in}
use Rattle.cx_scenario.proofs.Alike.{declaration_kept, same_fits, same_numbers, same_mutex, same_latch, same_plain, unknown_same, misfit_same, among_same, any_same, outside_same, each_same, leb_suc}
use Rattle.cx_scenario.proofs.Parts.{registers, registered_is, unjoined_is, bytes_same}
use Rattle.cx_scenario.proofs.Digest.{IsDigest, of_body, of_start, of_launch}
use Rattle.cx_scenario.proofs.Twice.{twice_among, named_any, declared_any, body_once, start_once, launch_once, register_once}

few_same : (a b c d x1 x2 x3 x4 x5 y1 y2 y3 y4 y5 : Bool) → x1 ≡ y1 → x2 ≡ y2 → x3 ≡ y3 → x4 ≡ y4 → x5 ≡ y5
    → ((a && x1) || (b && x2) || (c && x3) || (d && (x4 || x5))) ≡ ((a && y1) || (b && y2) || (c && y3) || (d && (y4 || y5)))
few_same a b c d x1 x2 x3 x4 x5 y1 y2 y3 y4 y5 p1 p2 p3 p4 p5 = rw (p1, p2, p3, p4, p5) refl

-- the first of seven kinds
abbrev pub nested : Bool → Bool → Bool → Bool → Bool → Bool → Bool → Option FaultKind
nested a b c d f g h = cond a (Some faults.TooMany) (cond b (Some faults.UnknownName) (cond c (Some faults.WrongKind) (cond d (Some faults.OutOfRange) (cond f (Some faults.Twice) (cond g (Some faults.LatchOver) (cond h (Some faults.BadOrder) None))))))

nested_same : (a b c d f g h a' b' c' d' f' g' h' : Bool) → a ≡ a' → b ≡ b' → c ≡ c' → d ≡ d' → f ≡ f' → g ≡ g' → h ≡ h' → nested a b c d f g h ≡ nested a' b' c' d' f' g' h'
nested_same a b c d f g h a' b' c' d' f' g' h' p1 p2 p3 p4 p5 p6 p7 = rw (p1, p2, p3, p4, p5, p6, p7) refl

module _ (e : List Filled) (s : State) (d : IsDigest e s) where
  pub same : (w : List ℕ) → declaration_of s.kept w ≡ declaration_of e w
  same w = ap (λ (k : List Filled). declaration_of k w) d.kept ∙ declaration_kept e w

  threads_few : nat_le 64 (length s.names.threads) ≡ nat_le 63 (counted makes_thread e)
  threads_few = ap (λ (names : List (List ℕ)). nat_le 64 (length names)) d.threads ∙ ap (λ (n : ℕ). nat_le 64 (suc n)) (length-map (filter makes_thread e) subject) ∙ leb_suc 63 (counted makes_thread e)

  objects_few : nat_le 128 (length s.names.objects) ≡ nat_le 128 (counted makes_object e)
  objects_few = ap (λ (names : List (List ℕ)). nat_le 128 (length names)) d.objects ∙ ap (λ (n : ℕ). nat_le 128 n) (length-map (filter makes_object e) subject)

  callbacks_few : nat_le 64 (length s.names.callbacks) ≡ nat_le 64 (counted makes_callback e)
  callbacks_few = ap (λ (names : List (List ℕ)). nat_le 64 (length names)) d.callbacks ∙ ap (λ (n : ℕ). nat_le 64 n) (length-map (filter makes_callback e) subject)

  many : (l : Filled) → too_many_in s l ≡ is_too_many 1 e l
  many l = few_same (makes_thread l) (makes_object l) (makes_callback l) (is_call l) _ _ _ _ _ _ _ _ _ _ threads_few objects_few callbacks_few (ap (λ (n : ℕ). nat_le 4096 n) d.len) (ap (λ (n : ℕ). nat_le 65536 n) d.calls)

  unknown : (l : Filled) → unknown_in s l ≡ has_unknown e l
  unknown l = unknown_same s.kept e same (fields_in l) l.values

  fits : (w : List ℕ) (q : Sort) → fits_sort s.kept s.body.thread w q ≡ fits_sort e (this_thread e) w q
  fits w q = ap (λ (t : List ℕ). fits_sort s.kept t w q) d.thread ∙ same_fits s.kept e same (this_thread e) w q

  wrong : (l : Filled) → wrong_kind_in s l ≡ has_wrong_kind e l
  wrong l = misfit_same (fits_sort s.kept s.body.thread) (fits_sort e (this_thread e)) fits (fields_in l) l.values

  outside : (l : Filled) → outside_in s l ≡ has_outside e l
  outside l =
      outside_same (numbers_of s.kept (mutex_among (is_mutex s.kept) l.values)) (fields_in l) l.values
      ∙ ap (λ (z : ℤ). all_outside z (fields_in l) l.values) (same_numbers s.kept e same (mutex_among (is_mutex s.kept) l.values) ∙ ap (λ (w : List ℕ). numbers_of e w) (among_same (is_mutex s.kept) (is_mutex e) (same_mutex s.kept e same) l.values))

  twice_at : (f : Form) (vs : List Value) → is_twice_before s.once s.kept (record { form = f; values = vs }) ≡ twice_among e f (subject (record { form = f; values = vs }))
  twice_at forms.Body vs =
      let w : List ℕ = subject (record { form = forms.Body; values = vs }) in
      ap (λ (ns : List (List ℕ)). is_one_of ns w) d.bodies ∙ named_any of_body forms.Body (λ m. body_once m.form) e w
  twice_at forms.Start vs =
      let w : List ℕ = subject (record { form = forms.Start; values = vs }) in
      ap (λ (ns : List (List ℕ)). is_one_of ns w) d.started ∙ named_any of_start forms.Start (λ m. start_once m.form) e w
  twice_at forms.Launch vs =
      let w : List ℕ = subject (record { form = forms.Launch; values = vs }) in
      ap (λ (ns : List (List ℕ)). is_one_of ns w) d.launched ∙ named_any of_launch forms.Launch (λ m. launch_once m.form) e w
  twice_at forms.Register vs =
      let w : List ℕ = subject (record { form = forms.Register; values = vs }) in
      ap (λ (ns : List (List ℕ)). is_one_of ns w) d.registered_once ∙ named_any registers forms.Register (λ m. register_once m.form) e w
  twice_at f vs =
      let w : List ℕ = subject (record { form = f; values = vs }) in
      ap (λ (o : Option Filled). is_some (makes f) && is_some o) (same w) ∙ declared_any f refl e w

  twice : (l : Filled) → twice_in s l ≡ is_twice e l
  twice l =
      ap (λ (b : Bool). b || has_repeated (each_words (fields_in l) l.values)) (twice_at l.form l.values)
      ∙ ap (λ (ws : List (List ℕ)). twice_among e l.form (subject l) || has_repeated ws) (each_same (fields_in l) l.values)

  taken_here : (l : Filled) → is_call l ≡ true → taken_in s.takings (subject l) + count_in (takes l) ≡ taken (subject l) (e ++ l ∷ [])
  taken_here l q =
      let one : count_in (takes l) ≡ taken (subject l) (l ∷ []) = rw (q, bytes_same (subject l), add-zero) refl in
      ap (λ (n : ℕ). n + count_in (takes l)) (d.taken (subject l)) ∙ ap (λ (n : ℕ). taken (subject l) e + n) one ∙ sym (taken_more (subject l) e l)

  latch : (l : Filled) → over_latch_in s l ≡ is_over_latch e l
  latch l = at (is_call l) refl
    where
      at : (b : Bool) → is_call l ≡ b → over_latch_in s l ≡ is_over_latch e l
      at false q = rw q refl
      at true q =
          ap (λ (b : Bool). is_call l && b && nat_lt (count_in (numbers_of s.kept (subject l))) (taken_in s.takings (subject l) + count_in (takes l))) (same_latch s.kept e same (subject l))
          ∙ ap (λ (z : ℤ). is_call l && is_latch e (subject l) && nat_lt (count_in z) (taken_in s.takings (subject l) + count_in (takes l))) (same_numbers s.kept e same (subject l))
          ∙ ap (λ (n : ℕ). is_call l && is_latch e (subject l) && nat_lt (count_in (numbers_of e (subject l))) n) (taken_here l q)

  order_at : (f : Form) (vs : List Value) → bad_order_in s (record { form = f; values = vs }) ≡ is_bad_order e (record { form = f; values = vs })
  order_at forms.Deregister vs =
      let w : List ℕ = subject (record { form = forms.Deregister; values = vs }) in
      ap (λ (ws : List (List ℕ)). not (is_one_of ws w)) d.registered ∙ ap not (registered_is (this_body e) w)
  order_at forms.End vs =
      ap (λ (t : List ℕ). bytes_eq main_word t && list_any (is_plain_thread s.kept) s.body.unjoined) d.thread
      ∙ ap (λ (b : Bool). bytes_eq main_word (this_thread e) && b) (any_same (is_plain_thread s.kept) (is_plain_thread e) (same_plain s.kept e same) s.body.unjoined ∙ ap (λ (ws : List (List ℕ)). list_any (is_plain_thread e) ws) d.unjoined ∙ unjoined_is e (this_body e))
  order_at _ vs = refl

  order : (l : Filled) → bad_order_in s l ≡ is_bad_order e l
  order l = order_at l.form l.values

  among : (l : Filled) → fault_among s l ≡ nested (is_too_many 1 e l) (has_unknown e l) (has_wrong_kind e l) (has_outside e l) (is_twice e l) (is_over_latch e l) (is_bad_order e l)
  among l = nested_same (too_many_in s l) (unknown_in s l) (wrong_kind_in s l) (outside_in s l) (twice_in s l) (over_latch_in s l) (bad_order_in s l) _ _ _ _ _ _ _ (many l) (unknown l) (wrong l) (outside l) (twice l) (latch l) (order l)

-- ---- the whole order of kinds

headed : (t u : Bool) (x y : Option FaultKind) → x ≡ y → or_some (cond t (Some faults.NotAscii) (cond u (Some faults.TooLong) None)) x ≡ cond t (Some faults.NotAscii) (cond u (Some faults.TooLong) y)
headed true u x y h = refl
headed false true x y h = refl
headed false false x y h = h

placed : (n p q : Bool) (x y : Option FaultKind) → n ≡ true → x ≡ y
    → cond p x (Some (cond q faults.BadVersion faults.BadWord)) ≡ cond (n && q && not p) (Some faults.BadVersion) (cond (n && not p) (Some faults.BadWord) y)
placed true true true x y e h = h
placed true true false x y e h = h
placed true false true x y e h = refl
placed true false false x y e h = refl
placed false p q x y e h = cc

unplaced : (n q : Bool) (y : Option FaultKind) → n ≡ true
    → Some (cond q faults.BadVersion faults.BadWord) ≡ cond (n && q && not false) (Some faults.BadVersion) (cond (n && not false) (Some faults.BadWord) y)
unplaced true true y e = refl
unplaced true false y e = refl
unplaced false q y e = cc

dropped : (t u q : Bool) → cond t (Some faults.NotAscii) (cond u (Some faults.TooLong) None) ≡ or_some (cond t (Some faults.NotAscii) (cond u (Some faults.TooLong) None)) None
dropped true u q = refl
dropped false true q = refl
dropped false false q = refl

module _ (e : List Filled) (s : State) (d : IsDigest e s) (line : Line) where
  opening_same : is_opening s.place ≡ is_opening (place_after e)
  opening_same = ap is_opening d.place

  words_same : (ws : List (List ℕ)) (o : Option Filled) → (ws ≡ [] → o ≡ None) → fault_in s (record { line = line; words = ws; said = o }) ≡ fault_on 1 e (record { line = line; words = ws; said = o })
  words_same [] None h = sym (dropped (not (list_all is_text_byte line.bytes)) (nat_lt 120 (length line.bytes) || line.over) true)
  words_same [] (Some l) h = absurd (let z : Some l ≡ None = h refl in cc)
  words_same (w ∷ ws) None h =
      headed (not (list_all is_text_byte line.bytes)) (nat_lt 120 (length line.bytes) || line.over) _ _
      (ap (λ (b : Bool). Some (cond b faults.BadVersion faults.BadWord)) opening_same ∙ unplaced (nat_lt 0 (length (w ∷ ws))) (is_opening (place_after e)) None (lt-ltb 0 (length (w ∷ ws)) (omega arith)))
  words_same (w ∷ ws) (Some l) h =
      headed (not (list_all is_text_byte line.bytes)) (nat_lt 120 (length line.bytes) || line.over) _ _
      (ap (λ (b : Bool). cond (may_stand s.place (part_of l.form)) (fault_among s l) (Some (cond b faults.BadVersion faults.BadWord))) opening_same
      ∙ ap (λ (p : Place). cond (may_stand p (part_of l.form)) (fault_among s l) (Some (cond (is_opening (place_after e)) faults.BadVersion faults.BadWord))) d.place
      ∙ placed (nat_lt 0 (length (w ∷ ws))) (may_stand (place_after e) (part_of l.form)) (is_opening (place_after e)) _ _ (lt-ltb 0 (length (w ∷ ws)) (omega arith)) (among e s d l))

nothing_said : (ws : List (List ℕ)) → ws ≡ [] → filled_by 1 ws ≡ None
unfolding line_by
nothing_said [] h = refl
nothing_said (w ∷ ws) h = cc

pub fault_same : (e : List Filled) (s : State) → IsDigest e s → (line : Line) → fault_in s (read_line 1 line) ≡ fault_on 1 e (read_line 1 line)
fault_same e s d line = words_same e s d line (words_of line.bytes) (filled_by 1 (words_of line.bytes)) (nothing_said (words_of line.bytes))
