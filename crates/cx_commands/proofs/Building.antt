-- What a run needs of a scenario that runs are built for.
use Rattle.std.proofs.Common.{◌≡◌, ℕ, ◌+◌, pos, Bool, true, false, ◌==◌, ◌&&◌, ◌||◌, not, List, [], ◌∷◌, ◌++◌, Option, Some, None, refl, sym, ap, subst, ◌∙◌}
use Rattle.std.specs.Prelude.{nat_le}
use Rattle.std.specs.List.{list_all, flat_map}
use Rattle.std.proofs.lemmas.Bool.{and_from, and_parts}
use Rattle.cx_scene.specs.declared.declared.Callback.{Callback}
use Rattle.cx_scene.specs.declared.declared.Object.{Object}
use Rattle.cx_scene.specs.declared.declared.Small.{Small}
use Rattle.cx_scene.specs.declared.declared.Small.TheVariants as smalls
use Rattle.cx_scene.specs.declared.declared.Thread.{Thread}
use Rattle.cx_text.specs.declared.form.Form.{Form}
use Rattle.cx_text.specs.declared.form.Form.TheVariants as forms
use Rattle.cx_text.specs.Words.{Filled, Value, AWord, ANumber, scenario_lines}
use Rattle.cx_text.proofs.Rows.{IsWellFilled}
use Rattle.cx_script.specs.declared.declared.Declared.{Declared}
use Rattle.cx_script.specs.declared.declared.Declared.TheVariants as declared
use Rattle.cx_script.specs.Faults.{has_outside}
use Rattle.cx_script.specs.Script.{Names, Declaration, Script, names_of, declared_of, declarations_of, line}
use Rattle.cx_script.specs.Numbered.{numbered, IsScript, threads_made, objects_made, callbacks_made, threads_from, objects_from, thread_step, object_step}
use Rattle.cx_script.proofs.Sound.{AreFine}
use Rattle.cx_script.proofs.Objects.{declarations_none, declarations_some}
use Rattle.cx_script.proofs.Whole.{from_lines}
use Rattle.cx_asks.specs.Scenes.{is_completion_now, is_object_now, is_thread_now}
use Rattle.cx_askable.proofs.Askable.{script_is_askable}
use Rattle.cx_work.specs.RunNow.{IsRunNow}
use Rattle.cx_commands.specs.Built.{notifies_none, may_run, is_built, is_built_object, is_none, is_built_by}

-- ---- the test of objects and callbacks is that of declarations

never_both : (b : Bool) → false ≡ (b && false)
never_both true = refl
never_both false = refl

and_and : (a b c : Bool) → (a && (b && c)) ≡ ((a && b) && c)
and_and true b c = refl
and_and false b c = refl

one_built : (t : ℕ) (w : Declared) (xs : List Object) (ks : List Callback) → (may_run w && (list_all is_built_object xs && is_none ks)) ≡ (list_all is_built_object (objects_made t w ++ xs) && is_none (callbacks_made w ++ ks))
one_built t (declared.Mutex numbers) xs ks = and_and (numbers == 0) (list_all is_built_object xs) (is_none ks)
one_built t (declared.Barrier count small) xs ks = and_and (notifies_none small) (list_all is_built_object xs) (is_none ks)
one_built t (declared.Callback stop action) xs ks = never_both (list_all is_built_object xs)
one_built t _ xs ks = refl

abbrev callbacks_from : List Declaration → List Callback
callbacks_from ds = flat_map (λ (d : Declaration). callbacks_made d.what) ds

abbrev all_may_run : List Declaration → Bool
all_may_run ds = list_all (λ (d : Declaration). may_run d.what) ds

all_built : (t : ℕ) (ds : List Declaration) → all_may_run ds ≡ (list_all is_built_object (objects_from t ds) && is_none (callbacks_from ds))
all_built t [] = refl
all_built t (d ∷ ds) = ap (λ b. may_run d.what && b) (all_built (t + thread_step d.what) ds) ∙ one_built t d.what (objects_from (t + thread_step d.what) ds) (callbacks_from ds)

pub built_by_numbers : (s : Script) → is_built s ≡ is_built_by (numbered s)
built_by_numbers s = all_built 1 s.declarations

-- ---- the counts of a text without a fault are in their ranges

-- so much may a completion release
abbrev is_released : Option Small → Bool
is_released (Some (smalls.Release q n)) = nat_le n 65535
is_released _ = true

abbrev is_ranged : Declared → Bool
is_ranged (declared.Semaphore count max) = nat_le count max && nat_le 1 max && nat_le max 65535
is_ranged (declared.Latch count) = nat_le count 65535
is_ranged (declared.Barrier count small) = nat_le 1 count && nat_le count 4096 && is_released small
is_ranged _ = true

abbrev all_ranged : List Declaration → Bool
all_ranged ds = list_all (λ (d : Declaration). is_ranged d.what) ds

abbrev is_ranged_where : Option Declared → Bool
is_ranged_where None = true
is_ranged_where (Some w) = is_ranged w

-- what is not outside is within
within_two : (a b c : Bool) → (not a || (not (b && c) || false)) ≡ false → (a && b && c) ≡ true
within_two true true true h = refl
within_two true true false h = absurd cc
within_two true false c h = absurd cc
within_two false b c h = absurd cc

within_one : (a b : Bool) → (not (a && b) || false) ≡ false → b ≡ true
within_one true true h = refl
within_one true false h = absurd cc
within_one false b h = absurd cc

within_count : (a b : Bool) → (not (a && b) || false) ≡ false → (a && b && true) ≡ true
within_count true true h = refl
within_count true false h = absurd cc
within_count false b h = absurd cc

within_both : (a b c d : Bool) → (not (a && b) || (not (c && d) || false)) ≡ false → (a && b && d) ≡ true
within_both true true true true h = refl
within_both true true true false h = absurd cc
within_both true true false d h = absurd cc
within_both true false c d h = absurd cc
within_both false b c d h = absurd cc

ranged_at : (names : Names) (e : List Filled) (f : Form) (vs : List Value) → IsWellFilled scenario_lines 1 (line f vs) → has_outside e (line f vs) ≡ false → is_ranged_where (declared_of names (line f vs) f) ≡ true
ranged_at names e forms.Semaphore (AWord w ∷ ANumber (pos c) ∷ ANumber (pos m) ∷ []) fit inside = within_two (nat_le c m) (nat_le 1 m) (nat_le m 65535) inside
ranged_at names e forms.Semaphore _ fit inside = absurd (assumption fit)
ranged_at names e forms.Latch (AWord w ∷ ANumber (pos c) ∷ []) fit inside = within_one (nat_le 0 c) (nat_le c 65535) inside
ranged_at names e forms.Latch _ fit inside = absurd (assumption fit)
ranged_at names e forms.Barrier (AWord w ∷ ANumber (pos c) ∷ []) fit inside = within_count (nat_le 1 c) (nat_le c 4096) inside
ranged_at names e forms.Barrier _ fit inside = absurd (assumption fit)
ranged_at names e forms.BarrierRelease (AWord w ∷ ANumber (pos c) ∷ AWord v ∷ AWord q ∷ ANumber (pos n) ∷ []) fit inside = within_both (nat_le 1 c) (nat_le c 4096) (nat_le 0 n) (nat_le n 65535) inside
ranged_at names e forms.BarrierRelease _ fit inside = absurd (assumption fit)
ranged_at names e forms.BarrierNotifyOne (AWord w ∷ ANumber (pos c) ∷ AWord v ∷ AWord q ∷ []) fit inside = within_count (nat_le 1 c) (nat_le c 4096) inside
ranged_at names e forms.BarrierNotifyOne _ fit inside = absurd (assumption fit)
ranged_at names e forms.BarrierNotifyAll (AWord w ∷ ANumber (pos c) ∷ AWord v ∷ AWord q ∷ []) fit inside = within_count (nat_le 1 c) (nat_le c 4096) inside
ranged_at names e forms.BarrierNotifyAll _ fit inside = absurd (assumption fit)
ranged_at names e _ vs fit inside = refl

ranged_more : (names : Names) (l : Filled) (ls : List Filled) (o : Option Declared) → declared_of names l l.form ≡ o → is_ranged_where o ≡ true → all_ranged (declarations_of names ls) ≡ true → all_ranged (declarations_of names (l ∷ ls)) ≡ true
ranged_more names l ls None e h k = ap all_ranged (declarations_none names l ls e) ∙ k
ranged_more names l ls (Some w) e h k = ap all_ranged (declarations_some names l ls w e) ∙ and_from (is_ranged w) (all_ranged (declarations_of names ls)) h k

ranged : (names : Names) (e ls : List Filled) → AreFine 1 e ls → all_ranged (declarations_of names ls) ≡ true
ranged names e [] h = refl
ranged names e (l ∷ ls) h = ranged_more names l ls (declared_of names l l.form) refl (ranged_at names e l.form l.values h.0.filled h.0.inside) (ranged names (e ++ l ∷ []) ls h.1)

script_ranged : (s : Script) → IsScript s → all_ranged s.declarations ≡ true
script_ranged s h = let f = from_lines h.limit h.text s h.means in subst (λ (x : Script). all_ranged x.declarations ≡ true) (sym f.is) (ranged (names_of f.ls) [] f.ls f.whole.fine)

-- ---- objects, threads and callbacks

completed_now : (a b : Bool) (small : Option Small) → notifies_none small ≡ true → (a && b && is_released small) ≡ true → (a && b && is_completion_now small) ≡ true
completed_now a b None h r = r
completed_now a b (Some (smalls.Release q n)) h r = r
completed_now a b (Some (smalls.NotifyOne c)) h r = absurd cc
completed_now a b (Some (smalls.NotifyAll c)) h r = absurd cc

one_object : (t : ℕ) (w : Declared) (xs : List Object) → may_run w ≡ true → is_ranged w ≡ true → list_all is_object_now xs ≡ true → list_all is_object_now (objects_made t w ++ xs) ≡ true
one_object t declared.Thread xs h r k = k
one_object t (declared.Mutex numbers) xs h r k = and_from (numbers == 0) (list_all is_object_now xs) h k
one_object t declared.Recursive xs h r k = k
one_object t (declared.Semaphore count max) xs h r k = and_from (nat_le count max && nat_le 1 max && nat_le max 65535) (list_all is_object_now xs) r k
one_object t (declared.Latch count) xs h r k = and_from (nat_le count 65535) (list_all is_object_now xs) r k
one_object t declared.Shared xs h r k = k
one_object t (declared.Barrier count small) xs h r k = and_from (nat_le 1 count && nat_le count 4096 && is_completion_now small) (list_all is_object_now xs) (completed_now (nat_le 1 count) (nat_le count 4096) small h r) k
one_object t declared.Once xs h r k = k
one_object t _ xs h r k = absurd cc

objects_now : (t : ℕ) (ds : List Declaration) → all_may_run ds ≡ true → all_ranged ds ≡ true → list_all is_object_now (objects_from t ds) ≡ true
objects_now t [] h r = refl
objects_now t (d ∷ ds) h r =
    let a = and_parts (may_run d.what) (all_may_run ds) h in
    let b = and_parts (is_ranged d.what) (all_ranged ds) r in
    one_object t d.what (objects_from (t + thread_step d.what) ds) a.0 b.0 (objects_now (t + thread_step d.what) ds a.1 b.1)

one_thread : (o : ℕ) (w : Declared) (xs : List Thread) → may_run w ≡ true → list_all is_thread_now xs ≡ true → list_all is_thread_now (threads_made o w ++ xs) ≡ true
one_thread o declared.JThread xs h k = absurd cc
one_thread o (declared.Async policy function) xs h k = absurd cc
one_thread o _ xs h k = k

threads_now : (o : ℕ) (ds : List Declaration) → all_may_run ds ≡ true → list_all is_thread_now (threads_from o ds) ≡ true
threads_now o [] h = refl
threads_now o (d ∷ ds) h =
    let a = and_parts (may_run d.what) (all_may_run ds) h in
    one_thread o d.what (threads_from (o + object_step d.what) ds) a.0 (threads_now (o + object_step d.what) ds a.1)

one_callback : (w : Declared) (ks : List Callback) → may_run w ≡ true → ks ≡ [] → callbacks_made w ++ ks ≡ []
one_callback (declared.Callback stop action) ks h k = absurd cc
one_callback _ ks h k = k

callbacks_now : (ds : List Declaration) → all_may_run ds ≡ true → callbacks_from ds ≡ []
callbacks_now [] h = refl
callbacks_now (d ∷ ds) h = let a = and_parts (may_run d.what) (all_may_run ds) h in one_callback d.what (callbacks_from ds) a.0 (callbacks_now ds a.1)

-- ---- all of it

pub built_runs : (s : Script) → IsScript s → is_built s ≡ true → IsRunNow (numbered s)
built_runs s h b =
    let none : (numbered s).callbacks ≡ [] = callbacks_now s.declarations b in
    record { asks = script_is_askable s h (objects_now 1 s.declarations b (script_ranged s h)) (threads_now 0 s.declarations b) none; callbacks = none }
