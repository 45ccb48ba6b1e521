-- Fields without values, and lines with few values.
use Rattle.std.specs.Borrow.{Bor}
use Rattle.cx_text.specs.Views.{now_all}
use Rattle.std.proofs.Common.{◌≡◌, ℕ, ◌<◌, Bool, true, false, cond, filter, List, [], ◌∷◌, length, refl, ◌∙◌, arith, ap}
use Rattle.cx_text.specs.declared.form.Field.{Field}
use Rattle.cx_text.specs.declared.form.Form.{Form}
use Rattle.cx_text.specs.declared.form.Form.TheVariants as forms
use Rattle.cx_text.specs.Words.{Value, Filled}
use Rattle.cx_text.specs.declared.value.Value.{Value as ValueOf}
use Rattle.cx_text.specs.Views.{seen}
use Rattle.cx_scenario.specs.Views.{values_seen}
use Rattle.cx_script.specs.Earlier.{is_reader}
use Rattle.cx_scenario.specs.Checks.{any_unknown, each_words}
use Rattle.cx_text.specs.declared.form.Sort.{Sort}
use Rattle.cx_script.specs.Faults.{any_misfit}

unknown_none : (kept : List Filled) (fs : List Field) → any_unknown kept fs [] ≡ false
unknown_none kept [] = refl
unknown_none kept (f ∷ fs) = refl

misfit_none : (fits : List ℕ → Sort → Bool) (fs : List Field) → any_misfit fits fs [] ≡ false
misfit_none fits [] = refl
misfit_none fits (f ∷ fs) = refl

each_none : (fs : List Field) → each_words fs [] ≡ []
each_none [] = refl
each_none (f ∷ fs) = refl

empty : (vs : List ValueOf) → length vs < 1 → values_seen vs ≡ []
empty [] h = refl
empty (v ∷ vs) h = absurd (omega arith)

module _ (kept : List Filled) (fs : List Field) (vs : List ValueOf) (h : length vs < 1) where
  pub unknown_short : any_unknown kept fs (values_seen vs) ≡ false
  unknown_short = ap (λ (ws : List Value). any_unknown kept fs ws) (empty vs h) ∙ unknown_none kept fs

  pub each_short : each_words fs (values_seen vs) ≡ []
  each_short = ap (λ (ws : List Value). each_words fs ws) (empty vs h) ∙ each_none fs

pub misfit_short : (fits : List ℕ → Sort → Bool) (fs : List Field) (vs : List ValueOf) → length vs < 1 → any_misfit fits fs (values_seen vs) ≡ false
misfit_short fits fs vs h = ap (λ (ws : List Value). any_misfit fits fs ws) (empty vs h) ∙ misfit_none fits fs

reads_none : (f : Form) (w : List ℕ) → is_reader (record { form = f; values = [] }) w ≡ false
reads_none forms.SharedPromise w = refl
reads_none _ w = refl

reads_one : (f : Form) (a : Value) (w : List ℕ) → is_reader (record { form = f; values = a ∷ [] }) w ≡ false
reads_one forms.SharedPromise a w = refl
reads_one _ a w = refl

-- a line of less than two values has no reader
pub no_reader : (f : Form) (vs : List ValueOf) (w : List ℕ) → length vs < 2 → is_reader (record { form = f; values = values_seen vs }) w ≡ false
no_reader f [] w h = reads_none f w
no_reader f (a ∷ []) w h = reads_one f (seen a) w
no_reader f (a ∷ b ∷ vs) w h = absurd (omega arith)

-- names filtered as they are seen
pub now_filtered : (test : List ℕ → Bool) (xs : List (Bor (List ℕ))) → now_all (filter (λ (w : Bor (List ℕ)). test w.now) xs) ≡ filter test (now_all xs)
now_filtered test [] = refl
now_filtered test (x ∷ xs) = elim (test x.now) as (λ b. now_all (cond b (x ∷ filter (λ (w : Bor (List ℕ)). test w.now) xs) (filter (λ (w : Bor (List ℕ)). test w.now) xs)) ≡ cond b (x.now ∷ filter test (now_all xs)) (filter test (now_all xs))) [
  | true ↦ ap (λ (t : List (List ℕ)). x.now ∷ t) (now_filtered test xs)
  | false ↦ now_filtered test xs
]
