-- The thread of a name, by its number, and how many threads, objects and callbacks there are.
use Rattle.std.proofs.Common.{◌≡◌, ℕ, suc, ◌+◌, ◌⊎◌, inl, inr, Bool, true, false, List, [], ◌∷◌, ◌++◌, length, map, filter, Option, Some, None, refl, sym, ap, subst, ◌∙◌}
use Rattle.std.specs.Prelude.{find, slice_get}
use Rattle.std.specs.List.{flat_map}
use Rattle.std.specs.Str.{bytes_eq}
use Rattle.std.proofs.lemmas.Bool.{cases_Bool}
use Rattle.cx_scene.specs.declared.declared.Thread.{Thread}
use Rattle.cx_scene.specs.declared.declared.Thread.TheVariants as threads
use Rattle.cx_text.specs.declared.form.Made.{Made}
use Rattle.cx_text.specs.declared.form.Made.TheVariants as mades
use Rattle.cx_text.specs.Table.{makes}
use Rattle.cx_text.specs.Words.{Filled}
use Rattle.cx_script.specs.declared.declared.Declared.{Declared}
use Rattle.cx_script.specs.declared.declared.Declared.TheVariants as declared
use Rattle.cx_script.specs.Earlier.{declares, subject}
use Rattle.cx_script.specs.Faults.{makes_thread, makes_object, makes_callback}
use Rattle.cx_script.specs.Script.{Names, Declaration, place_in, declared_of, declarations_of, makes_of}
use Rattle.cx_script.specs.Numbered.{threads_made, callbacks_made, object_step, threads_from, objects_from}
use Rattle.cx_script.specs.WellFormed.{is_run}
use Rattle.cx_script.proofs.Objects.{declaration, declarations_none, declarations_some, makes_none, makes_some}

-- ---- threads

abbrev counts_thread : Made → Bool
counts_thread mades.Thread = true
counts_thread mades.JThread = true
counts_thread mades.Async = true
counts_thread _ = false

thread_counts : (l : Filled) (m : Made) → makes l.form ≡ Some m → makes_thread l ≡ counts_thread m
thread_counts l mades.Thread e = rw e refl
thread_counts l mades.JThread e = rw e refl
thread_counts l _ e = rw e refl

-- a thread, or none
thread_or_none : (t : ℕ) (what : Declared) → ((x : Thread) × (threads_made t what ≡ x ∷ []) × (counts_thread (makes_of what) ≡ true)) ⊎ ((threads_made t what ≡ []) × (counts_thread (makes_of what) ≡ false))
thread_or_none t declared.Thread = inl (_, refl, refl)
thread_or_none t declared.JThread = inl (_, refl, refl)
thread_or_none t (declared.Async policy function) = inl (_, refl, refl)
thread_or_none t _ = inr (refl, refl)

-- the thread at place i is what the line d declares
pub record At (objs : List Thread) (i : ℕ) (names : Names) (d : Filled) : Type 0 where
  pub made : Thread
  pub is : slice_get objs i ≡ Some made
  pub what : Declared
  pub says : declared_of names d d.form ≡ Some what
  pub before : ℕ
  pub from : threads_made before what ≡ made ∷ []

at_head : (x : Thread) (rest : List Thread) (names : Names) (d : Filled) (what : Declared) (t : ℕ) → declared_of names d d.form ≡ Some what → threads_made t what ≡ x ∷ [] → At (x ∷ rest) 0 names d
at_head x rest names d what t says from = record { made = x; is = refl; what = what; says = says; before = t; from = from }

at_tail : (x : Thread) (rest : List Thread) (i : ℕ) (names : Names) (d : Filled) → At rest i names d → At (x ∷ rest) (suc i) names d
at_tail x rest i names d r = record { made = r.made; is = r.is; what = r.what; says = r.says; before = r.before; from = r.from }

abbrev place_of : List Filled → List ℕ → ℕ
place_of ls w = place_in (map subject (filter makes_thread ls)) w

threads_step : (t : ℕ) (l : Filled) (what : Declared) (ds : List Declaration) (xs : List Thread) → threads_made t what ≡ xs → threads_from t (declaration l what ∷ ds) ≡ xs ++ threads_from (t + object_step what) ds
threads_step t l what ds xs e = rw e refl

same_name : (w : List ℕ) (l d : Filled) (ls : List Filled) → declares w l ≡ true → find (declares w) (l ∷ ls) ≡ Some d → l ≡ d
same_name w l d ls h e = let here : Some l ≡ Some d = rw h at e in cc

module _ (names : Names) (w : List ℕ) (d : Filled) (there : makes_thread d ≡ true) where
  abbrev Is : List Filled → Type 0
  Is ls = (t : ℕ) → find (declares w) ls ≡ Some d → At (threads_from t (declarations_of names ls)) (place_of ls w) names d

  skip_line : (l : Filled) (ls : List Filled) → declared_of names l l.form ≡ None → Is ls → Is (l ∷ ls)
  skip_line l ls none later t e =
      let m : makes l.form ≡ None = makes_none names l none in
      let p : place_of (l ∷ ls) w ≡ place_of ls w = rw m refl in
      let k : find (declares w) ls ≡ Some d = rw m at e in
      subst (λ (ds : List Declaration). At (threads_from t ds) (place_of (l ∷ ls) w) names d) (sym (declarations_none names l ls none))
      (subst (λ (i : ℕ). At (threads_from t (declarations_of names ls)) i names d) (sym p) (later t k))

  no_thread : (l : Filled) (ls : List Filled) (what : Declared) → declared_of names l l.form ≡ Some what → counts_thread (makes_of what) ≡ false → (t : ℕ) → threads_made t what ≡ [] → Is ls
      → find (declares w) (l ∷ ls) ≡ Some d → At (threads_from t (declarations_of names (l ∷ ls))) (place_of (l ∷ ls) w) names d
  no_thread l ls what says count t nothing later e =
      let c : makes_thread l ≡ false = thread_counts l (makes_of what) (makes_some names l what says) ∙ count in
      let p : place_of (l ∷ ls) w ≡ place_of ls w = rw c refl in
      let k : find (declares w) ls ≡ Some d = (elim (cases_Bool (declares w l)) [
        | inl h ↦ absurd (let q : l ≡ d = same_name w l d ls h e in let r : makes_thread l ≡ true = rw q there in let z : false ≡ true = sym c ∙ r in cc)
        | inr h ↦ rw h at e
      ]) in
      subst (λ (ds : List Declaration). At (threads_from t ds) (place_of (l ∷ ls) w) names d) (sym (declarations_some names l ls what says))
      (subst (λ (xs : List Thread). At xs (place_of (l ∷ ls) w) names d) (sym (threads_step t l what (declarations_of names ls) [] nothing))
      (subst (λ (i : ℕ). At (threads_from (t + object_step what) (declarations_of names ls)) i names d) (sym p) (later (t + object_step what) k)))

  a_thread : (l : Filled) (ls : List Filled) (what : Declared) → declared_of names l l.form ≡ Some what → counts_thread (makes_of what) ≡ true → (t : ℕ) (x : Thread) → threads_made t what ≡ x ∷ [] → Is ls
      → find (declares w) (l ∷ ls) ≡ Some d → At (threads_from t (declarations_of names (l ∷ ls))) (place_of (l ∷ ls) w) names d
  a_thread l ls what says count t x made later e =
      let c : makes_thread l ≡ true = thread_counts l (makes_of what) (makes_some names l what says) ∙ count in
      let m : makes l.form ≡ Some (makes_of what) = makes_some names l what says in
      let rest : List Thread = threads_from (t + object_step what) (declarations_of names ls) in
      subst (λ (ds : List Declaration). At (threads_from t ds) (place_of (l ∷ ls) w) names d) (sym (declarations_some names l ls what says))
      (subst (λ (xs : List Thread). At xs (place_of (l ∷ ls) w) names d) (sym (threads_step t l what (declarations_of names ls) (x ∷ []) made))
      (elim (cases_Bool (bytes_eq (subject l) w)) [
        | inl h ↦
            let dl : declares w l ≡ true = rw (m, h) refl in
            let q : l ≡ d = same_name w l d ls dl e in
            let p : place_of (l ∷ ls) w ≡ 0 = rw (c, h) refl in
            subst (λ (i : ℕ). At (x ∷ rest) i names d) (sym p) (subst (λ (k : Filled). At (x ∷ rest) 0 names k) q (at_head x rest names l what t says made))
        | inr h ↦
            let dl : declares w l ≡ false = rw (m, h) refl in
            let k : find (declares w) ls ≡ Some d = rw dl at e in
            let p : place_of (l ∷ ls) w ≡ suc (place_of ls w) = rw (c, h) refl in
            subst (λ (i : ℕ). At (x ∷ rest) i names d) (sym p) (at_tail x rest (place_of ls w) names d (later (t + object_step what) k))
      ]))

  line_step : (l : Filled) (ls : List Filled) (o : Option Declared) → declared_of names l l.form ≡ o → Is ls → Is (l ∷ ls)
  line_step l ls None says later = skip_line l ls says later
  line_step l ls (Some what) says later = λ t e. elim (thread_or_none t what) [
    | inl p ↦ a_thread l ls what says p.2 t p.0 p.1 later e
    | inr p ↦ no_thread l ls what says p.1 t p.0 later e
  ]

  pub thread_at : (ls : List Filled) → Is ls
  thread_at [] t e = absurd cc
  thread_at (l ∷ ls) t e = line_step l ls (declared_of names l l.form) refl (thread_at ls) t e

-- ---- what a thread is

-- a thread that is no async may be started and joined
pub run_is : (o : ℕ) (what : Declared) (x : Thread) → threads_made o what ≡ x ∷ [] → (makes_of what ≡ mades.Async → ⊥) → is_run (Some x) ≡ true
run_is o declared.Thread x e n = let q : threads.Plain ≡ x = cc in subst (λ y. is_run (Some y) ≡ true) q refl
run_is o declared.JThread x e n = let q : threads.Stoppable (record { 0 = o }) ≡ x = cc in subst (λ y. is_run (Some y) ≡ true) q refl
run_is o (declared.Async policy function) x e n = absurd (n refl)
run_is o _ x e n = absurd cc

-- ---- counts

-- how many threads, objects and callbacks lines make
pub record Counts (names : Names) (ls : List Filled) : Type 0 where
  pub threads : (o : ℕ) → length (threads_from o (declarations_of names ls)) ≡ length (filter makes_thread ls)
  pub objects : (t : ℕ) → length (objects_from t (declarations_of names ls)) ≡ length (filter makes_object ls)
  pub callbacks : length (flat_map (λ (d : Declaration). callbacks_made d.what) (declarations_of names ls)) ≡ length (filter makes_callback ls)

none_counted : (names : Names) (l : Filled) (ls : List Filled) → declared_of names l l.form ≡ None → Counts names ls → Counts names (l ∷ ls)
none_counted names l ls e c =
    let m : makes l.form ≡ None = makes_none names l e in
    record { threads = λ o. rw (e, m) (c.threads o); objects = λ t. rw (e, m) (c.objects t); callbacks = rw (e, m) c.callbacks }

some_counted : (names : Names) (l : Filled) (ls : List Filled) (what : Declared) → declared_of names l l.form ≡ Some what → makes l.form ≡ Some (makes_of what) → Counts names ls → Counts names (l ∷ ls)
some_counted names l ls declared.Thread e m c = record { threads = λ o. rw (e, m) (ap suc (c.threads _)); objects = λ t. rw (e, m) (c.objects _); callbacks = rw (e, m) c.callbacks }
some_counted names l ls declared.JThread e m c = record { threads = λ o. rw (e, m) (ap suc (c.threads _)); objects = λ t. rw (e, m) (ap suc (c.objects _)); callbacks = rw (e, m) c.callbacks }
some_counted names l ls (declared.Async policy function) e m c = record { threads = λ o. rw (e, m) (ap suc (c.threads _)); objects = λ t. rw (e, m) (ap suc (c.objects _)); callbacks = rw (e, m) c.callbacks }
some_counted names l ls (declared.Callback stop action) e m c = record { threads = λ o. rw (e, m) (c.threads _); objects = λ t. rw (e, m) (c.objects _); callbacks = rw (e, m) (ap suc c.callbacks) }
some_counted names l ls _ e m c = record { threads = λ o. rw (e, m) (c.threads _); objects = λ t. rw (e, m) (ap suc (c.objects _)); callbacks = rw (e, m) c.callbacks }

one_counted : (names : Names) (l : Filled) (ls : List Filled) (o : Option Declared) → declared_of names l l.form ≡ o → Counts names ls → Counts names (l ∷ ls)
one_counted names l ls None e c = none_counted names l ls e c
one_counted names l ls (Some what) e c = some_counted names l ls what e (makes_some names l what e) c

pub counts : (names : Names) (ls : List Filled) → Counts names ls
counts names [] = record { threads = λ o. refl; objects = λ t. refl; callbacks = refl }
counts names (l ∷ ls) = one_counted names l ls (declared_of names l l.form) refl (counts names ls)
