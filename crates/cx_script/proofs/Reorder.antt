-- With the bodies in order of their threads the text has no fault either.
use Rattle.std.proofs.Common.{◌≡◌, ℕ, ◌<◌, ◌≤◌, inl, inr, Bool, true, false, ◌&&◌, ◌||◌, List, [], ◌∷◌, ◌++◌, length, Option, Some, None, refl, sym, subst, ◌∙◌, arith, append_assoc}
use Rattle.std.specs.Prelude.{nat_le, nat_lt, is_some}
use Rattle.std.specs.List.{list_any}
use Rattle.std.specs.Str.{bytes_eq}
use Rattle.std.proofs.lemmas.Slice.Eq.{bytes_eq-Decides}
use Rattle.cx_text.specs.declared.form.Made.{Made}
use Rattle.cx_script.proofs.Distinct.{bounded}
use Rattle.std.proofs.lemmas.List.{append-nil}
use Rattle.cx_script.proofs.Steps.{taken_more}
use Rattle.cx_script.proofs.Settled.{agree_more}
use Rattle.std.proofs.lemmas.Bool.{cases_Bool, ltb-false, and_parts, lt-leb}
use Rattle.cx_text.specs.declared.form.Form.{Form}
use Rattle.cx_text.specs.declared.form.Form.TheVariants as forms
use Rattle.cx_text.specs.Table.{makes}
use Rattle.cx_text.specs.Words.{Filled, Value, fields_in}
use Rattle.cx_script.specs.Earlier.{ACall, part_of, is_call, subject, this_body, this_thread, place_after, Inside, fits_sort}
use Rattle.cx_script.specs.Faults.{counted, any_misfit, is_once_only, is_over_latch, is_latch, numbers_of, taken, count_in, is_bad_order}
use Rattle.cx_script.specs.Script.{line}
use Rattle.cx_script.proofs.Sound.{IsFine, AreFine}
use Rattle.cx_script.proofs.Blocks.{call_part, call_makes}
use Rattle.cx_script.proofs.Agree.{Agree, DeclareNone, is_latch_agree, numbers_agree, any_misfit_agree, has_unknown_agree, has_outside_agree}

-- what a call needs of the lines before it, beside the declarations that they make
pub record Room (e : List Filled) (l : Filled) : Type 0 where
  pub here : length (this_body e) < 4096
  pub all : counted is_call e < 65536
  pub once : list_any (λ (m : Filled). is_once_only m.form l.form && bytes_eq (subject m) (subject l)) e ≡ false
  pub latch : is_over_latch e l ≡ false

or_parts : (x y : Bool) → (x || y) ≡ false → (x ≡ false) × (y ≡ false)
or_parts true y h = absurd cc
or_parts false y h = (refl, h)

order_at : (e f : List Filled) (g : Form) (vs : List Value) → this_body e ≡ this_body f → part_of g ≡ ACall → is_bad_order e (line g vs) ≡ is_bad_order f (line g vs)
order_at e f forms.Deregister vs same p = rw same refl
order_at e f forms.End vs same p = absurd cc
order_at e f _ vs same p = refl

-- a call that is fine after some lines is fine after others that declare the same, in the same body
pub fine_moved : (version : ℕ) (e f : List Filled) (l : Filled) → Agree e f → this_thread e ≡ this_thread f → this_body e ≡ this_body f → place_after f ≡ Inside → is_call l ≡ true → Room f l → IsFine version e l → IsFine version f l
fine_moved version e f l agree thread body place call room fine =
    let p : part_of l.form ≡ ACall = call_part l call in
    let m : makes l.form ≡ None = call_makes l call in
    let a : nat_le 4096 (length (this_body f)) ≡ false = lt-leb 4096 (length (this_body f)) room.here in
    let b : nat_le 65536 (counted is_call f) ≡ false = lt-leb 65536 (counted is_call f) room.all in
    let k : any_misfit (fits_sort e (this_thread f)) (fields_in l) l.values ≡ false = subst (λ t. any_misfit (fits_sort e t) (fields_in l) l.values ≡ false) thread fine.kind in
    record {
      filled = fine.filled;
      stands = rw (place, p) refl;
      few = rw (m, call, a, b) refl;
      known = sym (has_unknown_agree e f agree l) ∙ fine.known;
      kind = sym (any_misfit_agree e f agree (this_thread f) (fields_in l) l.values) ∙ k;
      inside = sym (has_outside_agree e f agree l) ∙ fine.inside;
      once = rw room.once (or_parts _ _ fine.once).1;
      latch = room.latch;
      order = sym (order_at e f l.form l.values body p) ∙ fine.order;
    }

-- ---- lines that may stand once

no_both : (a : Bool) (o : Option Made) → o ≡ None → (a && is_some o) ≡ true → ⊥
no_both true None m h = cc
no_both false None m h = cc
no_both a (Some x) m h = cc

-- two forms of which only one line may stand for a subject are one, where one is a call's
pub once_same : (f g : Form) → part_of g ≡ ACall → makes g ≡ None → is_once_only f g ≡ true → f ≡ g
once_same forms.Start forms.Start p m h = refl
once_same forms.Start _ p m h = absurd cc
once_same forms.Launch forms.Launch p m h = refl
once_same forms.Launch _ p m h = absurd cc
once_same forms.Register forms.Register p m h = refl
once_same forms.Register _ p m h = absurd cc
once_same forms.Body forms.Body p m h = absurd cc
once_same forms.Body _ p m h = absurd cc
once_same f g p m h = absurd (no_both (is_some (makes f)) (makes g) m h)

-- a line that may not stand beside l
abbrev pub clashes : Filled → Filled → Bool
clashes l m = is_once_only m.form l.form && bytes_eq (subject m) (subject l)

any_none : (test other : Filled → Bool) (e : List Filled) → ((k : Filled) → test k ≡ other k) → list_any other e ≡ false → counted test e ≡ 0
any_none test other [] same h = refl
any_none test other (k ∷ e) same h =
    let p = or_parts (other k) (list_any other e) h in
    let q : test k ≡ false = same k ∙ p.0 in
    rw q (any_none test other e same p.1)

clash_same : (l m : Filled) → is_call l ≡ true → clashes l m ≡ true → (k : Filled) → clashes l k ≡ clashes m k
clash_same l m call h k =
    let p = and_parts (is_once_only m.form l.form) (bytes_eq (subject m) (subject l)) h in
    let f : m.form ≡ l.form = once_same m.form l.form (call_part l call) (call_makes l call) p.0 in
    let s : subject m ≡ subject l = (bytes_eq-Decides (subject m) (subject l)).0 p.1 in
    rw (f, s) refl

-- of the lines that may stand once there is at most one
pub once_bound : (version : ℕ) (ls : List Filled) (l : Filled) → is_call l ≡ true → AreFine version [] ls → counted (clashes l) ls ≤ 1
once_bound version ls l call fine = bounded version (clashes l) 1 (λ e m f h. let z = any_none (clashes l) (clashes m) e (clash_same l m call h) (or_parts _ _ f.once).0 in omega arith) ls [] fine (omega arith)

-- ---- latches

-- what is taken from a latch stays within its count
pub taken_bound : (version : ℕ) (ls : List Filled) (name : List ℕ) → is_latch ls name ≡ true → (rest e : List Filled) → Agree e ls → DeclareNone rest → AreFine version e rest
    → taken name e ≤ count_in (numbers_of ls name) → taken name (e ++ rest) ≤ count_in (numbers_of ls name)
taken_bound version ls name latch [] e agree none fine few = subst (λ (t : List Filled). taken name t ≤ count_in (numbers_of ls name)) (sym (append-nil e)) few
taken_bound version ls name latch (l ∷ rest) e agree none fine few =
    let more = taken_more name e l in
    let step : taken name (e ++ l ∷ []) ≤ count_in (numbers_of ls name) = (elim (cases_Bool (is_call l && bytes_eq (subject l) name)) [
      | inl h ↦
          let p = and_parts (is_call l) (bytes_eq (subject l) name) h in
          let s : subject l ≡ name = (bytes_eq-Decides (subject l) name).0 p.1 in
          let k : is_latch e (subject l) ≡ true = rw s (is_latch_agree e ls agree name ∙ latch) in
          let n : numbers_of e (subject l) ≡ numbers_of ls name = rw s (numbers_agree e ls agree name) in
          let o : nat_lt (count_in (numbers_of e (subject l))) (taken (subject l) (e ++ l ∷ [])) ≡ false = rw (p.0, k) at fine.0.latch in
          let q : nat_lt (count_in (numbers_of ls name)) (taken name (e ++ l ∷ [])) ≡ false = subst (λ z. nat_lt (count_in z) (taken name (e ++ l ∷ [])) ≡ false) n (subst (λ u. nat_lt (count_in (numbers_of e (subject l))) (taken u (e ++ l ∷ [])) ≡ false) s o) in
          ltb-false (count_in (numbers_of ls name)) (taken name (e ++ l ∷ [])) q
      | inr h ↦ let z : taken name (l ∷ []) ≡ 0 = rw h (omega arith) in omega arith
    ]) in
    let a : Agree (e ++ l ∷ []) ls = agree_more e (l ∷ []) ls agree (none.0, tt) in
    subst (λ (t : List Filled). taken name t ≤ count_in (numbers_of ls name)) (append_assoc e (l ∷ []) rest) (taken_bound version ls name latch rest (e ++ l ∷ []) a none.1 fine.1 step)
