-- What the declarations say of names is what all earlier lines say.
use Rattle.std.proofs.Common.{◌≡◌, ℕ, suc, ℤ, inl, inr, Bool, true, false, cond, ◌&&◌, ◌||◌, not, List, [], ◌∷◌, filter, Option, Some, None, refl, sym, ap, ◌∙◌, arith}
use Rattle.std.specs.Prelude.{find, is_some, if◌then◌else◌, nat_le, option_and_then}
use Rattle.std.specs.List.{list_any}
use Rattle.std.specs.Str.{bytes_eq}
use Rattle.std.proofs.lemmas.Bool.{cases_Bool, cases_lt, lt-leb, le-leb, and_parts}
use Rattle.cx_text.specs.declared.form.Field.{Field}
use Rattle.cx_text.specs.declared.form.Field.TheVariants as fields
use Rattle.cx_text.specs.declared.form.Sort.{Sort}
use Rattle.cx_text.specs.declared.form.Made.{Made}
use Rattle.cx_text.specs.declared.form.Made.TheVariants as mades
use Rattle.cx_text.specs.declared.form.Caller.{Caller}
use Rattle.cx_text.specs.declared.form.Caller.TheVariants as callers
use Rattle.cx_text.specs.Table.{makes, who_may}
use Rattle.cx_text.specs.Words.{Filled, Value, AWord, ANumber, main_word}
use Rattle.cx_script.specs.Earlier.{declares, declaration_of, made_of, is_known, is_caller, fits_sort, subject, word_in, picked_words}
use Rattle.cx_script.specs.Faults.{numbers_of, is_mutex, mutex_among, is_latch, is_plain_thread, is_misfit, any_misfit, is_name_field, is_each_field, is_outside}
use Rattle.cx_script.specs.Faults.{any_outside as all_outside}
use Rattle.cx_scenario.specs.Checks.{any_unknown, any_outside, each_words}
use Rattle.cx_scenario.specs.Seen.{declares_any}

-- ---- what is found among some lines

find_kept : (test keep : Filled → Bool) → ((l : Filled) → test l ≡ true → keep l ≡ true) → (ls : List Filled) → find test (filter keep ls) ≡ find test ls
find_kept test keep h [] = refl
find_kept test keep h (l ∷ ls) = elim (cases_Bool (test l)) [
  | inl t ↦ rw (h l t, t) refl
  | inr t ↦ elim (keep l) as (λ b. find test (cond b (l ∷ filter keep ls) (filter keep ls)) ≡ cond (test l) (Some l) (find test ls)) [
    | true ↦ rw t (find_kept test keep h ls)
    | false ↦ rw t (find_kept test keep h ls)
  ]
]

pub declaration_kept : (e : List Filled) (w : List ℕ) → declaration_of (filter declares_any e) w ≡ declaration_of e w
declaration_kept e w = find_kept (declares w) declares_any (λ l h. (and_parts (is_some (makes l.form)) (bytes_eq (subject l) w) h).0) e

-- ---- lists with the same declarations

module _ (k e : List Filled) (same : (w : List ℕ) → declaration_of k w ≡ declaration_of e w) where
  pub same_made : (w : List ℕ) → made_of k w ≡ made_of e w
  same_made w = ap (λ (d : Option Filled). if bytes_eq main_word w then Some mades.Main else option_and_then (λ (l : Filled). makes l.form) d) (same w)

  pub same_known : (w : List ℕ) → is_known k w ≡ is_known e w
  same_known w = ap (λ (o : Option Made). is_some o) (same_made w)

  owner_at : (me w : List ℕ) (o : Option Filled) → declaration_of e w ≡ o → is_caller k me w callers.Owner ≡ is_caller e me w callers.Owner
  owner_at me w None h = rw (same w, h) refl
  owner_at me w (Some l) h = rw (same w, h) refl

  reader_at : (me w : List ℕ) (o : Option Filled) → declaration_of e w ≡ o → is_caller k me w callers.Reader ≡ is_caller e me w callers.Reader
  reader_at me w None h = rw (same w, h) refl
  reader_at me w (Some l) h = rw (same w, h) refl

  same_caller : (me w : List ℕ) (c : Caller) → is_caller k me w c ≡ is_caller e me w c
  same_caller me w callers.Anyone = refl
  same_caller me w callers.OnlyMain = refl
  same_caller me w callers.Owner = owner_at me w (declaration_of e w) refl
  same_caller me w callers.Reader = reader_at me w (declaration_of e w) refl

  fits_at : (me w : List ℕ) (s : Sort) (o : Option Caller) → option_and_then (who_may s) (made_of e w) ≡ o → fits_sort k me w s ≡ fits_sort e me w s
  fits_at me w s None h = rw (same_made w, h) refl
  fits_at me w s (Some c) h = rw (same_made w, h) (same_caller me w c)

  pub same_fits : (me w : List ℕ) (s : Sort) → fits_sort k me w s ≡ fits_sort e me w s
  same_fits me w s = fits_at me w s (option_and_then (who_may s) (made_of e w)) refl

  numbers_at : (w : List ℕ) (o : Option Filled) → declaration_of e w ≡ o → numbers_of k w ≡ numbers_of e w
  numbers_at w None h = rw (same w, h) refl
  numbers_at w (Some l) h = rw (same w, h) refl

  pub same_numbers : (w : List ℕ) → numbers_of k w ≡ numbers_of e w
  same_numbers w = numbers_at w (declaration_of e w) refl

  mutex_at : (w : List ℕ) (o : Option Made) → made_of e w ≡ o → is_mutex k w ≡ is_mutex e w
  mutex_at w None h = rw (same_made w, h) refl
  mutex_at w (Some mades.Mutex) h = rw (same_made w, h) refl
  mutex_at w (Some _) h = rw (same_made w, h) refl

  pub same_mutex : (w : List ℕ) → is_mutex k w ≡ is_mutex e w
  same_mutex w = mutex_at w (made_of e w) refl

  latch_at : (w : List ℕ) (o : Option Made) → made_of e w ≡ o → is_latch k w ≡ is_latch e w
  latch_at w None h = rw (same_made w, h) refl
  latch_at w (Some mades.Latch) h = rw (same_made w, h) refl
  latch_at w (Some _) h = rw (same_made w, h) refl

  pub same_latch : (w : List ℕ) → is_latch k w ≡ is_latch e w
  same_latch w = latch_at w (made_of e w) refl

  plain_at : (w : List ℕ) (o : Option Made) → made_of e w ≡ o → is_plain_thread k w ≡ is_plain_thread e w
  plain_at w None h = rw (same_made w, h) refl
  plain_at w (Some mades.Thread) h = rw (same_made w, h) refl
  plain_at w (Some _) h = rw (same_made w, h) refl

  pub same_plain : (w : List ℕ) → is_plain_thread k w ≡ is_plain_thread e w
  same_plain w = plain_at w (made_of e w) refl

  pub unknown_same : (fs : List Field) (vs : List Value) → any_unknown k fs vs ≡ list_any (λ w. not (is_known e w)) (picked_words is_name_field fs vs)
  unknown_same [] vs = refl
  unknown_same (f ∷ fs) [] = refl
  unknown_same (f ∷ fs) (v ∷ vs) =
      elim (is_name_field f) as (λ b. ((b && not (is_known k (word_in (Some v)))) || any_unknown k fs vs) ≡ list_any (λ w. not (is_known e w)) (cond b (word_in (Some v) ∷ picked_words is_name_field fs vs) (picked_words is_name_field fs vs))) [
        | true ↦ both_or (not (is_known k (word_in (Some v)))) (not (is_known e (word_in (Some v)))) (any_unknown k fs vs) _ (ap not (same_known (word_in (Some v)))) (unknown_same fs vs)
        | false ↦ unknown_same fs vs
      ]
    where
      both_or : (a b c d : Bool) → a ≡ b → c ≡ d → (a || c) ≡ (b || d)
      both_or a b c d p q = rw (p, q) refl

-- ---- tests that are equal at each name

misfit_one : (f g : List ℕ → Sort → Bool) → ((w : List ℕ) (s : Sort) → f w s ≡ g w s) → (x : Field) (v : Value) → is_misfit f x v ≡ is_misfit g x v
misfit_one f g h (fields.Name s) (AWord w) = ap not (h w s)
misfit_one f g h (fields.Each s) (AWord w) = ap not (h w s)
misfit_one f g h _ _ = refl

pub misfit_same : (f g : List ℕ → Sort → Bool) → ((w : List ℕ) (s : Sort) → f w s ≡ g w s) → (fs : List Field) (vs : List Value) → any_misfit f fs vs ≡ any_misfit g fs vs
misfit_same f g h [] vs = refl
misfit_same f g h (x ∷ fs) [] = refl
misfit_same f g h (x ∷ fs) (v ∷ vs) = ap (λ (b : Bool). b || any_misfit f fs vs) (misfit_one f g h x v) ∙ ap (λ (b : Bool). is_misfit g x v || b) (misfit_same f g h fs vs)

pub among_same : (f g : List ℕ → Bool) → ((w : List ℕ) → f w ≡ g w) → (vs : List Value) → mutex_among f vs ≡ mutex_among g vs
among_same f g h [] = refl
among_same f g h (AWord w ∷ vs) = ap (λ (b : Bool). cond b w (mutex_among f vs)) (h w) ∙ ap (λ (u : List ℕ). cond (g w) w u) (among_same f g h vs)
among_same f g h (ANumber n ∷ vs) = among_same f g h vs

pub any_same : (f g : List ℕ → Bool) → ((w : List ℕ) → f w ≡ g w) → (ws : List (List ℕ)) → list_any f ws ≡ list_any g ws
any_same f g h [] = refl
any_same f g h (w ∷ ws) = ap (λ (b : Bool). b || list_any f ws) (h w) ∙ ap (λ (b : Bool). g w || b) (any_same f g h ws)

outside_none : (numbers : ℤ) (fs : List Field) → any_outside numbers fs [] ≡ false
outside_none numbers [] = refl
outside_none numbers (f ∷ fs) = outside_none numbers fs

pub outside_same : (numbers : ℤ) (fs : List Field) (vs : List Value) → any_outside numbers fs vs ≡ all_outside numbers fs vs
outside_same numbers [] vs = refl
outside_same numbers (f ∷ fs) [] = outside_none numbers fs
outside_same numbers (f ∷ fs) (AWord w ∷ vs) = outside_same numbers fs vs
outside_same numbers (f ∷ fs) (ANumber n ∷ vs) = ap (λ (b : Bool). is_outside numbers f n vs || b) (outside_same numbers fs vs)

pub each_same : (fs : List Field) (vs : List Value) → each_words fs vs ≡ picked_words is_each_field fs vs
each_same [] vs = refl
each_same (f ∷ fs) [] = refl
each_same (f ∷ fs) (v ∷ vs) = ap (λ (ws : List (List ℕ)). cond (is_each_field f) (word_in (Some v) ∷ ws) ws) (each_same fs vs)

pub leb_suc : (a b : ℕ) → nat_le (suc a) (suc b) ≡ nat_le a b
leb_suc a b = elim (cases_lt b a) [
  | inl h ↦ lt-leb (suc a) (suc b) (omega arith) ∙ sym (lt-leb a b h)
  | inr h ↦ le-leb (suc a) (suc b) (omega arith) ∙ sym (le-leb a b h)
]
