-- A call of a text in order finds room among the lines before it.
use Rattle.std.proofs.Common.{◌≡◌, ℕ, ◌+◌, ◌<◌, ◌≤◌, inl, inr, Bool, true, false, cond, ◌||◌, List, [], ◌∷◌, ◌++◌, length, filter, refl, sym, ap, subst, ◌∙◌, arith, append_assoc}
use Rattle.std.specs.Prelude.{find, nat_lt}
use Rattle.std.specs.List.{list_any, flat_map}
use Rattle.std.specs.Str.{bytes_eq}
use Rattle.std.proofs.lemmas.Bool.{and_parts, cases_Bool, false_from_ne_true, le-ltb}
use Rattle.cx_text.specs.Words.{Filled}
use Rattle.cx_script.specs.Earlier.{declares, is_call, subject, this_body}
use Rattle.cx_script.specs.Faults.{counted, is_once_only, is_over_latch, is_latch, numbers_of, taken, count_in}
use Rattle.cx_script.specs.Script.{version_line}
use Rattle.cx_script.proofs.Sound.{AreFine}
use Rattle.cx_script.proofs.Shape.{block_lines, main_lines}
use Rattle.cx_script.proofs.Blocks.{call_part, call_makes, fine_split}
use Rattle.cx_script.proofs.Agree.{Agree, agree_past, is_latch_agree, numbers_agree}
use Rattle.cx_script.proofs.Distinct.{few_calls}
use Rattle.cx_script.proofs.Whole.{IsWhole, Parts, parts_of}
use Rattle.cx_script.proofs.Canon.{canon}
use Rattle.cx_script.proofs.Again.{same_self, front_none}
use Rattle.cx_script.proofs.Sum.{counted_append}
use Rattle.cx_script.proofs.Reorder.{Room, clashes, once_same, once_bound, taken_bound}
use Rattle.cx_script.proofs.Weighed.{OfCalls, counted_in_order, taken_in_order, taken_front, taken_none}

-- ---- the declarations of a text, and what follows them

abbrev pub front_of : {ls : List Filled} → Parts ls → List Filled
front_of p = version_line ∷ p.shape.declarations

abbrev pub rest_of : {ls : List Filled} → Parts ls → List Filled
rest_of p = flat_map block_lines p.shape.blocks ++ main_lines p.shape.mains

pub front_agrees : (ls : List Filled) (p : Parts ls) → Agree (front_of p) ls
front_agrees ls p u = sym (agree_past (front_of p) (rest_of p) (front_none ls p) u) ∙ ap (λ (t : List Filled). find (declares u) t) (sym p.shape.is)

pub whole_split : (ls : List Filled) (w : IsWhole ls) (p : Parts ls) → AreFine 1 [] (front_of p) × AreFine 1 (front_of p) (rest_of p)
whole_split ls w p = fine_split 1 [] (front_of p) (rest_of p) (subst (λ (t : List Filled). AreFine 1 [] t) p.shape.is w.fine)

-- ---- lines of which one may stand

-- a line that a call clashes with is a call of its own form and subject
clash_is : (l m : Filled) → is_call l ≡ true → clashes l m ≡ true → (is_call m ≡ true) × (clashes l l ≡ true)
clash_is l m call h =
    let p = and_parts (is_once_only m.form l.form) (bytes_eq (subject m) (subject l)) h in
    let f : m.form ≡ l.form = once_same m.form l.form (call_part l call) (call_makes l call) p.0 in
    let o : is_once_only l.form l.form ≡ true = subst (λ g. is_once_only g l.form ≡ true) f p.0 in
    (rw f call, rw (o, same_self (subject l)) refl)

clash_calls : (l : Filled) → is_call l ≡ true → OfCalls (clashes l)
clash_calls l call m h = false_from_ne_true (clashes l m) (λ k. let q : false ≡ true = sym h ∙ (clash_is l m call k).0 in cc)

none_any : (test : Filled → Bool) (e : List Filled) → counted test e ≡ 0 → list_any test e ≡ false
none_any test [] h = refl
none_any test (m ∷ e) h = by_head (test m) (λ k. none_any test e k) h
  where
    by_head : (b : Bool) → (counted test e ≡ 0 → list_any test e ≡ false) → length (cond b (m ∷ filter test e) (filter test e)) ≡ 0 → (b || list_any test e) ≡ false
    by_head true later k = absurd (omega arith)
    by_head false later k = later k

never_any : (test : Filled → Bool) (e : List Filled) → ((m : Filled) → test m ≡ false) → list_any test e ≡ false
never_any test [] h = refl
never_any test (m ∷ e) h = rw (h m) (never_any test e h)

kept_one : (test : Filled → Bool) (l : Filled) (rest : List Filled) → test l ≡ true → counted test (l ∷ rest) ≡ 1 + counted test rest
kept_one test l rest h = rw h (omega arith)

module _ (ls : List Filled) (w : IsWhole ls) (e rest : List Filled) (l : Filled) (is : e ++ l ∷ rest ≡ canon ls (parts_of ls w).shape.declarations) (call : is_call l ≡ true) where
  -- before a line on which a test holds there is one such line less than in all
  before_one : (test : Filled → Bool) → OfCalls test → test l ≡ true → counted test e + 1 ≤ counted test ls
  before_one test calls h =
      let a = counted_append test e (l ∷ rest) in
      let b = kept_one test l rest h in
      let c : counted test (e ++ l ∷ rest) ≡ counted test (canon ls (parts_of ls w).shape.declarations) = ap (λ (t : List Filled). counted test t) is in
      let d = counted_in_order test calls ls w in
      omega arith

  no_clash : list_any (clashes l) e ≡ false
  no_clash = elim (cases_Bool (clashes l l)) [
    | inl h ↦
        let a = before_one (clashes l) (clash_calls l call) h in
        let b = once_bound 1 ls l call w.fine in
        none_any (clashes l) e (omega arith)
    | inr h ↦ never_any (clashes l) e (λ m. false_from_ne_true (clashes l m) (λ k. let q : false ≡ true = sym h ∙ (clash_is l m call k).1 in cc))
  ]

  -- all that the calls of a text take from a latch is within its count
  all_taken : (name : List ℕ) → is_latch ls name ≡ true → taken name ls ≤ count_in (numbers_of ls name)
  all_taken name latch =
      let p = parts_of ls w in
      let none = taken_none name p.shape.declarations p.shape.are in
      let two = whole_split ls w p in
      let bound : taken name (front_of p ++ rest_of p) ≤ count_in (numbers_of ls name) =
      taken_bound 1 ls name latch (rest_of p) (front_of p) (front_agrees ls p) (front_none ls p) two.1 (omega arith) in
      subst (λ (t : List Filled). taken name t ≤ count_in (numbers_of ls name)) (sym p.shape.is) bound

  not_over : Agree e ls → is_latch e (subject l) ≡ true → nat_lt (count_in (numbers_of e (subject l))) (taken (subject l) (e ++ l ∷ [])) ≡ false
  not_over agree latch =
      let name = subject l in
      let n : count_in (numbers_of e name) ≡ count_in (numbers_of ls name) = ap count_in (numbers_agree e ls agree name) in
      let a : taken name (e ++ l ∷ []) ≤ taken name ((e ++ l ∷ []) ++ rest) = taken_front name (e ++ l ∷ []) rest in
      let b : taken name ((e ++ l ∷ []) ++ rest) ≡ taken name (canon ls (parts_of ls w).shape.declarations) = ap (λ (t : List Filled). taken name t) (append_assoc e (l ∷ []) rest ∙ is) in
      let c = taken_in_order name ls w in
      let d = all_taken name (sym (is_latch_agree e ls agree name) ∙ latch) in
      le-ltb (count_in (numbers_of e name)) (taken name (e ++ l ∷ [])) (omega arith)

  latch_room : Agree e ls → is_over_latch e l ≡ false
  latch_room agree = elim (cases_Bool (is_latch e (subject l))) [
    | inl h ↦ let a = not_over agree h in rw (call, h) a
    | inr h ↦ rw (call, h) refl
  ]

  pub room_in : Agree e ls → length (this_body e) < 4096 → Room e l
  room_in agree here =
      let a = before_one is_call (λ m h. h) call in
      let b = few_calls 1 ls w.fine in
      record { here = here; all = omega arith; once = no_clash; latch = latch_room agree }
