-- What a text says has its counts in range, and starts and launches threads that there are.
use Rattle.std.proofs.Common.{◌≡◌, ◌⊎◌, inl, inr, ℕ, zero, suc, ◌+◌, ◌==◌, ◌&&◌, ◌||◌, not, pos, Bool, true, false, List, [], ◌∷◌, ◌++◌, map, Option, Some, None, slice_get, nat_lt, refl, sym, ap, ◌∙◌, subst, arith, lt-ltb}
use Rattle.std.specs.List.{list_all, flat_map}
use Rattle.std.proofs.lemmas.Bool.{and_parts, or_parts, not-false}
use Rattle.std.proofs.lemmas.List.Folds.{list_all-append}
use Rattle.cx_names.specs.declared.ThreadNo.{ThreadNo}
use Rattle.cx_scene.specs.declared.declared.Object.{Object}
use Rattle.cx_scene.specs.declared.declared.Object.TheVariants as objects
use Rattle.cx_scene.specs.declared.declared.Thread.{Thread}
use Rattle.cx_scene.specs.declared.declared.Thread.TheVariants as threads
use Rattle.cx_scene.specs.declared.declared.Policy.{Policy}
use Rattle.cx_scene.specs.declared.declared.Function.{Function}
use Rattle.cx_scene.specs.declared.declared.Callback.{Callback}
use Rattle.cx_scene.specs.declared.call.Call.{Call}
use Rattle.cx_scene.specs.declared.call.Call.TheVariants as calls
use Rattle.cx_scene.specs.Scene.{Scene, body_of}
use Rattle.cx_text.specs.declared.form.Form.{Form}
use Rattle.cx_text.specs.declared.form.Form.TheVariants as forms
use Rattle.cx_text.specs.Words.{Filled, Value, AWord, ANumber, scenario_lines}
use Rattle.cx_text.proofs.Rows.{IsWellFilled}
use Rattle.cx_script.specs.declared.declared.Declared.{Declared}
use Rattle.cx_script.specs.declared.declared.Declared.TheVariants as declared
use Rattle.cx_script.specs.Faults.{has_outside, is_between}
use Rattle.cx_script.specs.Script.{Declaration, Script, Names, names_of, name_at, declared_of, declarations_of, calls_of, line, line_of_call}
use Rattle.cx_script.specs.Numbered.{threads_made, objects_made, callbacks_made, thread_step, object_step, threads_from, objects_from, numbered, IsScript}
use Rattle.cx_script.specs.WellFormed.{IsScene, fits_call, is_run}
use Rattle.cx_script.proofs.Sound.{AreFine}
use Rattle.cx_script.proofs.Blocks.{raw_calls}
use Rattle.cx_script.proofs.Settled.{AreSettled}
use Rattle.cx_script.proofs.Objects.{declarations_none, declarations_some}
use Rattle.cx_script.proofs.Fitting.{scene}
use Rattle.cx_script.proofs.Whole.{IsWhole, from_lines, Parts, parts_of, raw_known}
use Rattle.cx_script.proofs.Scenes.{settled_forth, calls_by, calls_cons, script_is_scene}
use Rattle.cx_history.specs.IsRecord.{is_within, can_launch, can_start}
use Rattle.cx_replay.proofs.Apt.{AptScene, apt_small, apt_action, apt_call}

-- ---- counts of calls

abbrev counted : Call → Bool
counted (calls.Release q n) = is_within 0 65535 (pos n)
counted (calls.CountDown l n) = is_within 0 65535 (pos n)
counted (calls.Arrive b n) = is_within 1 4096 (pos n)
counted _ = true

-- a number that is not outside is within
inside : (b : Bool) → (not b || false) ≡ false → b ≡ true
inside b h = not-false b (or_parts (not b) false h).0

counts_of : (ls : List Filled) (names : Names) (c : Call) → has_outside ls (line_of_call names c) ≡ false → counted c ≡ true
counts_of ls names (calls.Release q n) h = inside (is_between (pos 0) (pos 65535) (pos n)) h
counts_of ls names (calls.CountDown l n) h = inside (is_between (pos 0) (pos 65535) (pos n)) h
counts_of ls names (calls.Arrive b n) h = inside (is_between (pos 1) (pos 4096) (pos n)) h
counts_of ls names _ h = refl

counts_all : (ls : List Filled) (me : List ℕ) (cs : List Filled) → AreSettled 1 ls me cs → list_all counted (calls_by ls cs) ≡ true
counts_all ls me [] h = refl
counts_all ls me (l ∷ cs) h =
    let f = settled_forth ls me l h.0 in
    let one : counted f.call ≡ true = counts_of ls (names_of ls) f.call (subst (λ (v : Filled). has_outside ls v ≡ false) (sym f.back) h.0.inside) in
    let rest = counts_all ls me cs h.1 in
    ap (λ (xs : List Call). list_all counted xs) (calls_cons ls l cs f.call f.is) ∙ rw (one, rest) refl

-- the body of a number: that of a name, or nothing
body_at : {A : Type 0} (f : List ℕ → A) (ns : List (List ℕ)) (t : ℕ) → (slice_get (map f ns) t ≡ None) ⊎ (slice_get (map f ns) t ≡ Some (f (name_at ns t)))
body_at f [] t = inl refl
body_at f (n ∷ ns) zero = inr refl
body_at f (n ∷ ns) (suc t) = body_at f ns t

counts_in : (ls : List Filled) → Parts ls → (t : ℕ) → list_all counted (body_of (scene 1 ls) t) ≡ true
counts_in ls p t = elim (body_at (calls_of (names_of ls) ls) (names_of ls).threads t) [
  | inl h ↦ rw h refl
  | inr h ↦
      let me = name_at (names_of ls).threads t in
      let k = counts_all ls me (raw_calls ls me) (raw_known ls p me).settled in
      rw h k
]

-- ---- calls

runs_start : (t : Option Thread) → is_run t ≡ true → can_start t ≡ true
runs_start None h = cc
runs_start (Some threads.Plain) h = refl
runs_start (Some (threads.Stoppable o)) h = refl
runs_start (Some (threads.Launched o)) h = cc

above_zero : (n : ℕ) → not (n == 0) ≡ true → nat_lt 0 n ≡ true
above_zero zero h = cc
above_zero (suc n) h = lt-ltb 0 (suc n) (omega arith)

call_apt : (s : Scene) (t : ℕ) (c : Call) → fits_call s t c ≡ true → counted c ≡ true → apt_call s c ≡ true
call_apt s t (calls.Release q n) fits h = h
call_apt s t (calls.CountDown l n) fits h = h
call_apt s t (calls.Arrive b n) fits h = h
call_apt s t (calls.Start u) fits h =
    let p = and_parts ((t == 0) && not (u.0 == 0)) (is_run (slice_get s.threads u.0)) fits in
    let q = and_parts (t == 0) (not (u.0 == 0)) p.0 in
    rw (above_zero u.0 q.1, runs_start (slice_get s.threads u.0) p.1) refl
call_apt s t (calls.Join u) fits h = runs_start (slice_get s.threads u.0) (and_parts (t == 0) (is_run (slice_get s.threads u.0)) fits).1
call_apt s t _ fits h = refl

calls_apt : (s : Scene) (t : ℕ) (cs : List Call) → list_all (fits_call s t) cs ≡ true → list_all counted cs ≡ true → list_all (apt_call s) cs ≡ true
calls_apt s t [] fits h = refl
calls_apt s t (c ∷ cs) fits h =
    let f = and_parts (fits_call s t c) (list_all (fits_call s t) cs) fits in
    let k = and_parts (counted c) (list_all counted cs) h in
    rw (call_apt s t c f.0 k.0, calls_apt s t cs f.1 k.1) refl

-- ---- declarations

abbrev apt_declared : Declared → Bool
apt_declared (declared.Barrier count (Some x)) = apt_small x
apt_declared (declared.Callback stop action) = apt_action action
apt_declared _ = true

abbrev apt_if : Option Declared → Bool
apt_if None = true
apt_if (Some d) = apt_declared d

-- the count of a SMALL is the last of five values
declared_apt : (names : Names) (e : List Filled) (f : Form) (vs : List Value) → IsWellFilled scenario_lines 1 (line f vs) → has_outside e (line f vs) ≡ false → apt_if (declared_of names (line f vs) f) ≡ true
declared_apt names e forms.BarrierRelease (AWord w0 ∷ ANumber (pos n1) ∷ AWord w2 ∷ AWord w3 ∷ ANumber (pos n4) ∷ []) fit h =
    inside (is_between (pos 0) (pos 65535) (pos n4)) (or_parts _ (not (is_between (pos 0) (pos 65535) (pos n4)) || false) h).1
declared_apt names e forms.BarrierRelease _ fit h = absurd (assumption fit)
declared_apt names e forms.CallbackRelease (AWord w0 ∷ AWord w1 ∷ AWord w2 ∷ AWord w3 ∷ ANumber (pos n4) ∷ []) fit h = inside (is_between (pos 0) (pos 65535) (pos n4)) h
declared_apt names e forms.CallbackRelease _ fit h = absurd (assumption fit)
declared_apt names e _ vs fit h = refl

abbrev apt_declaration : Declaration → Bool
apt_declaration d = apt_declared d.what

declarations_apt : (names : Names) (e ls : List Filled) → AreFine 1 e ls → list_all apt_declaration (declarations_of names ls) ≡ true
declarations_apt names e [] h = refl
declarations_apt names e (l ∷ ls) h = go (declared_of names l l.form) refl (declared_apt names e l.form l.values h.0.filled h.0.inside) (declarations_apt names (e ++ l ∷ []) ls h.1)
  where
    go : (o : Option Declared) → declared_of names l l.form ≡ o → apt_if o ≡ true → list_all apt_declaration (declarations_of names ls) ≡ true → list_all apt_declaration (declarations_of names (l ∷ ls)) ≡ true
    go None is k rest = ap (λ (ds : List Declaration). list_all apt_declaration ds) (declarations_none names l ls is) ∙ rest
    go (Some d) is k rest = ap (λ (ds : List Declaration). list_all apt_declaration ds) (declarations_some names l ls d is) ∙ rw (k, rest) refl

-- ---- objects and callbacks

abbrev apt_object : Object → Bool
apt_object (objects.Barrier count (Some x)) = apt_small x
apt_object _ = true

abbrev apt_callback : Callback → Bool
apt_callback c = apt_action c.action

made_apt : (t : ℕ) (d : Declared) → apt_declared d ≡ true → list_all apt_object (objects_made t d) ≡ true
made_apt t (declared.Barrier count (Some x)) h = rw h refl
made_apt t _ h = refl

objects_apt : (t : ℕ) (ds : List Declaration) → list_all apt_declaration ds ≡ true → list_all apt_object (objects_from t ds) ≡ true
objects_apt t [] h = refl
objects_apt t (d ∷ ds) h =
    let p = and_parts (apt_declaration d) (list_all apt_declaration ds) h in
    let one = made_apt t d.what p.0 in
    let rest = objects_apt (t + thread_step d.what) ds p.1 in
    list_all-append apt_object (objects_made t d.what) (objects_from (t + thread_step d.what) ds) ∙ rw (one, rest) refl

called_apt : (d : Declared) → apt_declared d ≡ true → list_all apt_callback (callbacks_made d) ≡ true
called_apt (declared.Callback stop action) h = rw h refl
called_apt _ h = refl

callbacks_apt : (ds : List Declaration) → list_all apt_declaration ds ≡ true → list_all apt_callback (flat_map (λ (d : Declaration). callbacks_made d.what) ds) ≡ true
callbacks_apt [] h = refl
callbacks_apt (d ∷ ds) h =
    let p = and_parts (apt_declaration d) (list_all apt_declaration ds) h in
    let one = called_apt d.what p.0 in
    let rest = callbacks_apt ds p.1 in
    list_all-append apt_callback (callbacks_made d.what) (flat_map (λ (x : Declaration). callbacks_made x.what) ds) ∙ rw (one, rest) refl

at_all : {X : Type 0} (test : X → Bool) (xs : List X) (i : ℕ) (x : X) → list_all test xs ≡ true → slice_get xs i ≡ Some x → test x ≡ true
at_all test [] i x h e = cc
at_all test (y ∷ ys) zero x h e = let is : y ≡ x = cc in subst (λ z. test z ≡ true) is (and_parts (test y) (list_all test ys) h).0
at_all test (y ∷ ys) (suc i) x h e = at_all test ys i x (and_parts (test y) (list_all test ys) h).1 e

-- ---- an async has a thread that can be launched

-- the thread of this number, of which t stand before these, can be launched
abbrev Launchable : ℕ → List Thread → ℕ → Type 0
Launchable t us u = (j : ℕ) × (u ≡ t + j) × (can_launch (slice_get us j) ≡ true)

none_more : (t u : ℕ) (us : List Thread) → Launchable (t + 0) us u → Launchable t us u
none_more t u us h = (let is = h.1 in (h.0, omega (arith, is), h.2))

one_more : (t u : ℕ) (x : Thread) (us : List Thread) → Launchable (t + 1) us u → Launchable t (x ∷ us) u
one_more t u x us h = (let is = h.1 in (suc h.0, omega (arith, is), h.2))

launched_one : (what : Declared) (t o i : ℕ) (p : Policy) (f : Function) (u : ThreadNo) (rest : List Object) (more : List Thread)
    → ((i : ℕ) → slice_get rest i ≡ Some (objects.Async p f u) → Launchable (t + thread_step what) more u.0)
    → slice_get (objects_made t what ++ rest) i ≡ Some (objects.Async p f u) → Launchable t (threads_made o what ++ more) u.0
launched_one declared.Thread t o i p f u rest more ih e = one_more t u.0 threads.Plain more (ih i e)
launched_one declared.JThread t o zero p f u rest more ih e = cc
launched_one declared.JThread t o (suc i) p f u rest more ih e = one_more t u.0 (threads.Stoppable (record { 0 = o })) more (ih i e)
launched_one (declared.Async policy function) t o zero p f u rest more ih e =
    let at_t : ThreadNo = record { 0 = t } in
    let same : at_t ≡ u = cc in
    let number : t ≡ u.0 = ap (λ (x : ThreadNo). x.0) same in
    (0, omega (arith, number), refl)
launched_one (declared.Async policy function) t o (suc i) p f u rest more ih e = one_more t u.0 (threads.Launched (record { 0 = o })) more (ih i e)
launched_one (declared.Callback stop action) t o i p f u rest more ih e = none_more t u.0 more (ih i e)
launched_one _ t o zero p f u rest more ih e = cc
launched_one _ t o (suc i) p f u rest more ih e = none_more t u.0 more (ih i e)

launched_from : (ds : List Declaration) (t o i : ℕ) (p : Policy) (f : Function) (u : ThreadNo) → slice_get (objects_from t ds) i ≡ Some (objects.Async p f u) → Launchable t (threads_from o ds) u.0
launched_from [] t o i p f u e = cc
launched_from (d ∷ ds) t o i p f u e = launched_one d.what t o i p f u (objects_from (t + thread_step d.what) ds) (threads_from (o + object_step d.what) ds) (λ j k. launched_from ds (t + thread_step d.what) (o + object_step d.what) j p f u k) e

launchable : (us : List Thread) (u : ℕ) → Launchable 1 us u → can_launch (slice_get (threads.Plain ∷ us) u) ≡ true
launchable us u h = (let is : u ≡ suc h.0 = (let k = h.1 in omega (arith, k)) in subst (λ n. can_launch (slice_get (threads.Plain ∷ us) n) ≡ true) (sym is) h.2)

-- ---- the scene

lines_apt : (ls : List Filled) → IsWhole ls → IsScene (scene 1 ls) → AptScene (scene 1 ls)
lines_apt ls whole is =
    let ds = declarations_of (names_of ls) ls in
    let fine = declarations_apt (names_of ls) [] ls whole.fine in
    record {
      calls = λ t. calls_apt (scene 1 ls) t (body_of (scene 1 ls) t) (is.calls t) (counts_in ls (parts_of ls whole) t);
      main = λ st e. (let none : threads.Plain ≡ threads.Stoppable st = some_is e in cc);
      launched = λ o p f u e. launchable (threads_from 0 ds) u.0 (launched_from ds 1 0 o p f u e);
      barriers = λ o count x e. at_all apt_object (objects_from 1 ds) o (objects.Barrier count (Some x)) (objects_apt 1 ds fine) e;
      callbacks = λ k c e. at_all apt_callback (flat_map (λ (d : Declaration). callbacks_made d.what) ds) k c (callbacks_apt ds fine) e;
    }
  where
    some_is : {a b : Thread} → Some a ≡ Some b → a ≡ b
    some_is e = cc

-- a scenario that a text means
pub script_apt : (s : Script) → IsScript s → AptScene (numbered s)
script_apt s h = let f = from_lines h.limit h.text s h.means in rw f.is (lines_apt f.ls f.whole (subst (λ (v : Script). IsScene (numbered v)) f.is (script_is_scene s h)))
