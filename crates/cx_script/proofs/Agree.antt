-- Lines that declare the same names say the same of them.
use Rattle.std.proofs.Common.{◌≡◌, ℕ, true, false, cond, not, List, [], ◌∷◌, ◌++◌, Option, Some, None, refl, ap}
use Rattle.std.specs.Prelude.{find, is_some}
use Rattle.std.specs.List.{AllByRecursion, list_any}
use Rattle.cx_text.specs.declared.form.Field.{Field}
use Rattle.cx_text.specs.declared.form.Field.TheVariants as fields
use Rattle.cx_text.specs.declared.form.Sort.{Sort}
use Rattle.cx_text.specs.declared.form.Caller.{Caller}
use Rattle.cx_text.specs.declared.form.Caller.TheVariants as callers
use Rattle.cx_text.specs.declared.form.Made.{Made}
use Rattle.cx_text.specs.Table.{makes, who_may}
use Rattle.cx_text.specs.Words.{Filled, Value, AWord, ANumber}
use Rattle.cx_script.specs.Earlier.{declares, made_of, is_known, is_caller, fits_sort, words_at}
use Rattle.cx_script.specs.Faults.{is_misfit, any_misfit, numbers_of, is_mutex, mutex_among, has_outside, has_unknown, is_name_field, is_latch, is_plain_thread}

-- the same declarations
abbrev pub Agree : List Filled → List Filled → Type 0
Agree e f = (u : List ℕ) → find (declares u) e ≡ find (declares u) f

-- lines that declare nothing
abbrev pub DeclareNone : List Filled → Type 0
DeclareNone ls = AllByRecursion (λ (l : Filled). makes l.form ≡ None) ls

find_past : (u : List ℕ) (ls : List Filled) → DeclareNone ls → find (declares u) ls ≡ None
find_past u [] h = refl
find_past u (l ∷ ls) h = rw h.0 (find_past u ls h.1)

pub agree_past : (ls rest : List Filled) → DeclareNone rest → Agree (ls ++ rest) ls
agree_past [] rest h u = find_past u rest h
agree_past (l ∷ ls) rest h u = elim (declares u l) as (λ b. cond b (Some l) (find (declares u) (ls ++ rest)) ≡ cond b (Some l) (find (declares u) ls)) [ true ↦ refl | false ↦ agree_past ls rest h u ]

module _ (e f : List Filled) (h : Agree e f) where
  pub made_agree : (u : List ℕ) → made_of e u ≡ made_of f u
  made_agree u = rw (h u) refl

  caller_agree : (me w : List ℕ) (c : Caller) → is_caller e me w c ≡ is_caller f me w c
  caller_agree me w callers.Anyone = refl
  caller_agree me w callers.OnlyMain = refl
  caller_agree me w callers.Owner = rw (h w) refl
  caller_agree me w callers.Reader = rw (h w) refl

  by_caller : (me w : List ℕ) (s : Sort) (m : Made) (c : Option Caller) → made_of f w ≡ Some m → who_may s m ≡ c → fits_sort e me w s ≡ fits_sort f me w s
  by_caller me w s m None k q = rw (made_agree w, k, q) refl
  by_caller me w s m (Some c) k q = rw (made_agree w, k, q) (caller_agree me w c)

  by_made : (me w : List ℕ) (s : Sort) (m : Option Made) → made_of f w ≡ m → fits_sort e me w s ≡ fits_sort f me w s
  by_made me w s None k = rw (made_agree w, k) refl
  by_made me w s (Some m) k = by_caller me w s m (who_may s m) k refl

  pub fits_agree : (me w : List ℕ) (s : Sort) → fits_sort e me w s ≡ fits_sort f me w s
  fits_agree me w s = by_made me w s (made_of f w) refl

  misfit_agree : (me : List ℕ) (g : Field) (v : Value) → is_misfit (fits_sort e me) g v ≡ is_misfit (fits_sort f me) g v
  misfit_agree me (fields.Name sort) (AWord w) = ap not (fits_agree me w sort)
  misfit_agree me (fields.Each sort) (AWord w) = ap not (fits_agree me w sort)
  misfit_agree me _ _ = refl

  pub any_misfit_agree : (me : List ℕ) (fs : List Field) (vs : List Value) → any_misfit (fits_sort e me) fs vs ≡ any_misfit (fits_sort f me) fs vs
  any_misfit_agree me [] vs = refl
  any_misfit_agree me (g ∷ fs) [] = refl
  any_misfit_agree me (g ∷ fs) (v ∷ vs) = rw (misfit_agree me g v, any_misfit_agree me fs vs) refl

  known_agree : (w : List ℕ) → is_known e w ≡ is_known f w
  known_agree w = ap (λ (m : Option Made). is_some m) (made_agree w)

  unknown_agree : (ws : List (List ℕ)) → list_any (λ w. not (is_known e w)) ws ≡ list_any (λ w. not (is_known f w)) ws
  unknown_agree [] = refl
  unknown_agree (w ∷ ws) = rw (known_agree w, unknown_agree ws) refl

  pub has_unknown_agree : (l : Filled) → has_unknown e l ≡ has_unknown f l
  has_unknown_agree l = unknown_agree (words_at is_name_field l)

  pub numbers_agree : (w : List ℕ) → numbers_of e w ≡ numbers_of f w
  numbers_agree w = rw (h w) refl

  is_mutex_agree : (w : List ℕ) → is_mutex e w ≡ is_mutex f w
  is_mutex_agree w = rw (made_agree w) refl

  among_agree : (vs : List Value) → mutex_among (is_mutex e) vs ≡ mutex_among (is_mutex f) vs
  among_agree [] = refl
  among_agree (AWord w ∷ vs) = rw (is_mutex_agree w, among_agree vs) refl
  among_agree (ANumber n ∷ vs) = among_agree vs

  pub has_outside_agree : (l : Filled) → has_outside e l ≡ has_outside f l
  has_outside_agree l = rw (among_agree l.values, numbers_agree (mutex_among (is_mutex f) l.values)) refl

  pub is_latch_agree : (w : List ℕ) → is_latch e w ≡ is_latch f w
  is_latch_agree w = rw (made_agree w) refl

  pub is_plain_agree : (w : List ℕ) → is_plain_thread e w ≡ is_plain_thread f w
  is_plain_agree w = rw (made_agree w) refl
