-- A completion that a text declares releases a declared semaphore.
use Rattle.std.proofs.Common.{◌≡◌, ℕ, ◌+◌, inl, inr, pos, Bool, true, false, cond, ◌||◌, not, List, [], ◌∷◌, ◌++◌, Option, Some, None, slice_get, refl, sym, ap, subst, ◌∙◌, append_assoc}
use Rattle.std.specs.Prelude.{find}
use Rattle.std.specs.List.{list_all}
use Rattle.std.proofs.lemmas.Bool.{and_from, and_parts}
use Rattle.cx_scene.specs.declared.declared.Object.{Object}
use Rattle.cx_scene.specs.Scene.{Scene}
use Rattle.cx_text.specs.declared.form.Form.{Form}
use Rattle.cx_text.specs.declared.form.Form.TheVariants as forms
use Rattle.cx_text.specs.declared.form.Sort.TheVariants as sorts
use Rattle.cx_text.specs.declared.form.Made.{Made}
use Rattle.cx_text.specs.declared.form.Made.TheVariants as mades
use Rattle.cx_text.specs.declared.form.Caller.{Caller}
use Rattle.cx_text.specs.declared.form.Caller.TheVariants as callers
use Rattle.cx_text.specs.Table.{who_may}
use Rattle.cx_text.specs.Words.{Filled, Value, AWord, ANumber, fields_in, scenario_lines, main_word}
use Rattle.cx_text.proofs.Rows.{IsWellFilled}
use Rattle.cx_script.specs.declared.declared.Declared.{Declared}
use Rattle.cx_script.specs.declared.declared.Declared.TheVariants as declared
use Rattle.cx_script.specs.Earlier.{declares, made_of, fits_sort, this_thread}
use Rattle.cx_script.specs.Faults.{any_misfit}
use Rattle.cx_script.specs.Script.{Names, Declaration, names_of, place_in, declared_of, declarations_of, line}
use Rattle.cx_script.specs.Numbered.{objects_made, thread_step, objects_from}
use Rattle.cx_script.specs.WellFormed.{object_fits}
use Rattle.cx_script.proofs.Found.{made_cases, Fits, fits_is}
use Rattle.cx_script.proofs.Fitting.{scene}
use Rattle.cx_script.proofs.Objects.{IsMe, named_object, declarations_none, declarations_some}
use Rattle.cx_script.proofs.Sound.{AreFine}
use Rattle.cx_asks.specs.Scenes.{is_semaphore, completes_on, is_completed_on}
use Rattle.cx_askable.proofs.Calls.{semaphore_where}

-- ---- what a name stands for stays, whatever lines follow

find_grows : (test : Filled → Bool) (e rest : List Filled) (d : Filled) → find test e ≡ Some d → find test (e ++ rest) ≡ Some d
find_grows test [] rest d h = absurd cc
find_grows test (l ∷ e) rest d h = elim (test l) as (λ b. cond b (Some l) (find test e) ≡ Some d → cond b (Some l) (find test (e ++ rest)) ≡ Some d) [
  | true ↦ λ k. k
  | false ↦ λ k. find_grows test e rest d k
] h

made_grows : (e rest : List Filled) (u : List ℕ) (m : Made) → made_of e u ≡ Some m → made_of (e ++ rest) u ≡ Some m
made_grows e rest u m h = elim (made_cases e u m h) [
  | inl p ↦ rw (p.0, p.1) refl
  | inr p ↦ let d = p.1 in rw (p.0, find_grows (declares u) e rest d.by d.is) d.makes_it
]

-- ---- a semaphore's name

only_semaphores : (m : Made) (c : Caller) → who_may sorts.Semaphores m ≡ Some c → m ≡ mades.Semaphore
only_semaphores mades.Semaphore c h = refl
only_semaphores _ c h = cc

main_is : (ls : List Filled) → IsMe (names_of ls) main_word 0
main_is ls = record { place = refl; main = λ e. refl }

semaphore_named : (ls : List Filled) (w : List ℕ) → made_of ls w ≡ Some mades.Semaphore → is_semaphore (slice_get (scene 1 ls).objects (place_in (names_of ls).objects w)) ≡ true
semaphore_named ls w e =
    let f : Fits ls main_word w sorts.Semaphores = record { made = mades.Semaphore; caller = callers.Anyone; is = e; may = refl; calls = refl } in
    let n = named_object (names_of ls) ls main_word w 0 sorts.Semaphores (main_is ls) f refl in
    semaphore_where 0 (slice_get (scene 1 ls).objects (place_in (names_of ls).objects w)) (ap (object_fits 0 sorts.Semaphores) n.is ∙ n.fits)

-- ---- declarations

-- what a declaration completes is such
abbrev is_completed_by : Scene → Declared → Bool
is_completed_by s (declared.Barrier count small) = completes_on s small
is_completed_by s _ = true

abbrev is_completed_where : Scene → Option Declared → Bool
is_completed_where s None = true
is_completed_where s (Some w) = is_completed_by s w

abbrev all_completed : Scene → List Declaration → Bool
all_completed s ds = list_all (λ (d : Declaration). is_completed_by s d.what) ds

fits_first : (a : Bool) → (not a || false) ≡ false → a ≡ true
fits_first true h = refl
fits_first false h = absurd cc

completed_at : (ls e : List Filled) (me : List ℕ) → ((u : List ℕ) (m : Made) → made_of e u ≡ Some m → made_of ls u ≡ Some m) → (f : Form) (vs : List Value) → IsWellFilled scenario_lines 1 (line f vs) → any_misfit (fits_sort e me) (fields_in (line f vs)) vs ≡ false → is_completed_where (scene 1 ls) (declared_of (names_of ls) (line f vs) f) ≡ true
completed_at ls e me grows forms.BarrierRelease (AWord w0 ∷ ANumber (pos n1) ∷ AWord w2 ∷ AWord w3 ∷ ANumber (pos n4) ∷ []) fit kind =
    let f = fits_is e me w3 sorts.Semaphores (fits_first (fits_sort e me w3 sorts.Semaphores) kind) in
    semaphore_named ls w3 (grows w3 mades.Semaphore (f.is ∙ ap Some (only_semaphores f.made f.caller f.may)))
completed_at ls e me grows forms.BarrierRelease _ fit kind = absurd (assumption fit)
completed_at ls e me grows _ vs fit kind = refl

completed_more : (s : Scene) (names : Names) (l : Filled) (ls : List Filled) (o : Option Declared) → declared_of names l l.form ≡ o → is_completed_where s o ≡ true → all_completed s (declarations_of names ls) ≡ true → all_completed s (declarations_of names (l ∷ ls)) ≡ true
completed_more s names l ls None e h k = ap (all_completed s) (declarations_none names l ls e) ∙ k
completed_more s names l ls (Some w) e h k = ap (all_completed s) (declarations_some names l ls w e) ∙ and_from (is_completed_by s w) (all_completed s (declarations_of names ls)) h k

pub completed : (whole e ls : List Filled) → whole ≡ e ++ ls → AreFine 1 e ls → all_completed (scene 1 whole) (declarations_of (names_of whole) ls) ≡ true
completed whole e [] is h = refl
completed whole e (l ∷ ls) is h =
    let grows : (u : List ℕ) (m : Made) → made_of e u ≡ Some m → made_of whole u ≡ Some m = λ u m k. subst (λ (t : List Filled). made_of t u ≡ Some m) (sym is) (made_grows e (l ∷ ls) u m k) in
    completed_more (scene 1 whole) (names_of whole) l ls (declared_of (names_of whole) l l.form) refl (completed_at whole e (this_thread e) grows l.form l.values h.0.filled h.0.kind) (completed whole (e ++ l ∷ []) ls (is ∙ sym (append_assoc e (l ∷ []) ls)) h.1)

-- ---- objects

one_object : (s : Scene) (t : ℕ) (w : Declared) (xs : List Object) → is_completed_by s w ≡ true → list_all (is_completed_on s) xs ≡ true → list_all (is_completed_on s) (objects_made t w ++ xs) ≡ true
one_object s t (declared.Barrier count small) xs h k = and_from (completes_on s small) (list_all (is_completed_on s) xs) h k
one_object s t _ xs h k = k

pub completed_objects : (s : Scene) (t : ℕ) (ds : List Declaration) → all_completed s ds ≡ true → list_all (is_completed_on s) (objects_from t ds) ≡ true
completed_objects s t [] h = refl
completed_objects s t (d ∷ ds) h =
    let p = and_parts (is_completed_by s d.what) (all_completed s ds) h in
    one_object s t d.what (objects_from (t + thread_step d.what) ds) p.0 (completed_objects s (t + thread_step d.what) ds p.1)
