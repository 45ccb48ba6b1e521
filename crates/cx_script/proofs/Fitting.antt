-- A call of a text without a fault fits its thread and what it names, by numbers.
use Rattle.std.proofs.Common.{◌≡◌, ℕ, zero, suc, inl, inr, pos, Bool, true, false, ◌==◌, ◌&&◌, ◌||◌, List, [], ◌∷◌, length, map, filter, Option, Some, None, refl, sym, ap, subst, ◌∙◌, arith}
use Rattle.std.specs.Prelude.{slice_get, replicate, min, max, nat_lt, int_le}
use Rattle.std.specs.List.{list_all}
use Rattle.std.specs.Str.{bytes_eq}
use Rattle.std.proofs.lemmas.Bool.{and_from, eq-eqb, ne_eqb, lt-ltb, not-false}
use Rattle.cx_names.specs.declared.ObjectNo.{ObjectNo}
use Rattle.cx_scene.specs.declared.declared.Object.{Object}
use Rattle.cx_scene.specs.declared.declared.Object.TheVariants as objects
use Rattle.cx_scene.specs.declared.call.Call.{Call}
use Rattle.cx_scene.specs.declared.call.Call.TheVariants as calls
use Rattle.cx_scene.specs.Scene.{Scene}
use Rattle.cx_text.specs.declared.form.Form.{Form}
use Rattle.cx_text.specs.declared.form.Form.TheVariants as forms
use Rattle.cx_text.specs.declared.form.Field.{Field}
use Rattle.cx_text.specs.declared.form.Field.TheVariants as fields
use Rattle.cx_text.specs.declared.form.Sort.{Sort}
use Rattle.cx_text.specs.declared.form.Sort.TheVariants as sorts
use Rattle.cx_text.specs.declared.form.Made.{Made}
use Rattle.cx_text.specs.declared.form.Made.TheVariants as mades
use Rattle.cx_text.specs.declared.form.Caller.{Caller}
use Rattle.cx_text.specs.declared.form.Caller.TheVariants as callers
use Rattle.cx_text.specs.Table.{fields_of, who_may}
use Rattle.cx_text.specs.Words.{Filled, Value, AWord, ANumber, spread, scenario_lines, main_word}
use Rattle.cx_text.proofs.Fields.{FitFields}
use Rattle.cx_text.proofs.Rows.{IsWellFilled}
use Rattle.cx_script.specs.Earlier.{ACall, part_of, made_of, fits_sort, is_caller, subject, word_in}
use Rattle.cx_script.specs.Faults.{makes_thread, makes_callback, is_mutex, mutex_among, numbers_of, any_outside, has_outside, is_misfit, any_misfit}
use Rattle.cx_script.specs.Script.{Names, names_of, place_in, script_of, call_of, line, makes_of, if_recursive, waits_on, meets_at, drops_of}
use Rattle.cx_script.specs.Numbered.{numbered}
use Rattle.cx_script.specs.WellFormed.{made_as, object_fits, fits_object, numbers_beyond, is_run, fits_call}
use Rattle.cx_script.proofs.Found.{Which, InThreads, InObjects, InCallbacks, which, is_listed, who_listed, Fits, fits_is, known_found, made_cases, makes_by, IsDeclared, main_unmade}
use Rattle.cx_script.proofs.Objects.{NamedObject, named_object, IsMe, makes_some}
use Rattle.cx_script.proofs.Threads.{thread_at, run_is, counts}

abbrev pub scene : ℕ → List Filled → Scene
scene version ls = numbered (script_of version ls)

-- ---- names by numbers

-- a thread that may be started, or joined
abbrev NamedThread : Scene → Names → ℕ → List ℕ → Sort → Type 0
NamedThread s names t w sorts.Started = (t ≡ 0) × ((place_in names.threads w == 0) ≡ false) × (is_run (slice_get s.threads (place_in names.threads w)) ≡ true)
NamedThread s names t w sorts.Joined = (t ≡ 0) × (is_run (slice_get s.threads (place_in names.threads w)) ≡ true)
NamedThread s names t w _ = Unit {0}

abbrev NamedBy : Scene → List Filled → ℕ → Sort → List ℕ → Which → Type 0
NamedBy s ls t sort w InObjects = NamedObject s.objects ls t sort w (place_in (names_of ls).objects w)
NamedBy s ls t sort w InThreads = NamedThread s (names_of ls) t w sort
NamedBy s ls t sort w InCallbacks = nat_lt (place_in (names_of ls).callbacks w) (length s.callbacks) ≡ true

abbrev NamedAt : Scene → List Filled → ℕ → Field → Value → Type 0
NamedAt s ls t (fields.Name sort) (AWord w) = NamedBy s ls t sort w (which sort)
NamedAt s ls t (fields.Each sort) (AWord w) = NamedBy s ls t sort w (which sort)
NamedAt s ls t _ _ = Unit {0}

abbrev AreNamed : Scene → List Filled → ℕ → List Field → List Value → Type 0
AreNamed s ls t (f ∷ fs) (v ∷ vs) = NamedAt s ls t f v × AreNamed s ls t fs vs
AreNamed s ls t _ _ = Unit {0}

only_started : (m : Made) (c : Caller) → who_may sorts.Started m ≡ Some c → c ≡ callers.OnlyMain
only_started mades.Thread c h = cc
only_started _ c h = cc

only_joined : (m : Made) (c : Caller) → who_may sorts.Joined m ≡ Some c → c ≡ callers.OnlyMain
only_joined mades.Thread c h = cc
only_joined _ c h = cc

started_listed : (m : Made) (c : Caller) → who_may sorts.Started m ≡ Some c → (m ≡ mades.Async → ⊥) × (m ≡ mades.Main → ⊥)
started_listed m c h = ((λ e. (let q : None ≡ Some c = rw e at h in cc)), (λ e. (let q : None ≡ Some c = rw e at h in cc)))

joined_listed : (m : Made) (c : Caller) → who_may sorts.Joined m ≡ Some c → m ≡ mades.Async → ⊥
joined_listed m c h = λ e. (let q : None ≡ Some c = rw e at h in cc)

some_is : (a b : Made) → Some a ≡ Some b → a ≡ b
some_is a b e = cc

not_zero : (n : ℕ) → (suc n == 0) ≡ false
not_zero n = ne_eqb (suc n) 0 (λ e. omega arith)

subjects_length : (ls : List Filled) → length (map subject ls) ≡ length ls
subjects_length [] = refl
subjects_length (l ∷ ls) = ap suc (subjects_length ls)

-- a declared thread that is no async runs, and is not main
runs : (version : ℕ) (ls : List Filled) (w : List ℕ) (m : Made) → (d : IsDeclared ls w m) → is_listed InThreads m ≡ true → (m ≡ mades.Async → ⊥) → bytes_eq main_word w ≡ false
    → ((place_in (names_of ls).threads w == 0) ≡ false) × (is_run (slice_get (scene version ls).threads (place_in (names_of ls).threads w)) ≡ true)
runs version ls w m d listed n other =
    let there : makes_thread d.by ≡ true = (makes_by m d.by d.makes_it).0 listed (λ q. main_unmade d.by (d.makes_it ∙ ap Some q)) in
    let a = thread_at (names_of ls) w d.by there ls 0 d.is in
    let same : makes_of a.what ≡ m = some_is _ _ (sym (makes_some (names_of ls) d.by a.what a.says) ∙ d.makes_it) in
    let run : is_run (Some a.made) ≡ true = run_is a.before a.what a.made a.from (λ q. n (sym same ∙ q)) in
    (rw other (not_zero (place_in (map subject (filter makes_thread ls)) w)), rw (other, a.is) run)

named_thread : (version : ℕ) (ls : List Filled) (me w : List ℕ) (t : ℕ) (sort : Sort) → IsMe (names_of ls) me t → Fits ls me w sort → NamedThread (scene version ls) (names_of ls) t w sort
named_thread version ls me w t sorts.Started who f =
    let only : f.caller ≡ callers.OnlyMain = only_started f.made f.caller f.may in
    let mine : bytes_eq main_word me ≡ true = subst (λ c. is_caller ls me w c ≡ true) only f.calls in
    let not_these = started_listed f.made f.caller f.may in
    elim (made_cases ls w f.made f.is) [
      | inl p ↦ absurd (not_these.1 p.1)
      | inr p ↦ let r = runs version ls w f.made p.1 (who_listed sorts.Started f.made f.caller f.may) not_these.0 p.0 in (who.main mine, r.0, r.1)
    ]
named_thread version ls me w t sorts.Joined who f =
    let only : f.caller ≡ callers.OnlyMain = only_joined f.made f.caller f.may in
    let mine : bytes_eq main_word me ≡ true = subst (λ c. is_caller ls me w c ≡ true) only f.calls in
    elim (made_cases ls w f.made f.is) [
      | inl p ↦ (who.main mine, rw p.0 refl)
      | inr p ↦ let r = runs version ls w f.made p.1 (who_listed sorts.Joined f.made f.caller f.may) (joined_listed f.made f.caller f.may) p.0 in (who.main mine, r.1)
    ]
named_thread version ls me w t _ who f = tt

named_callback : (version : ℕ) (ls : List Filled) (me w : List ℕ) (sort : Sort) → which sort ≡ InCallbacks → Fits ls me w sort → nat_lt (place_in (names_of ls).callbacks w) (length (scene version ls).callbacks) ≡ true
named_callback version ls me w sort wh f =
    let listed : is_listed InCallbacks f.made ≡ true = subst (λ x. is_listed x f.made ≡ true) wh (who_listed sort f.made f.caller f.may) in
    let found = known_found ls w f.made InCallbacks f.is listed in
    let under = found.below in
    let many = (counts (names_of ls) ls).callbacks in
    let long : length (map subject (filter makes_callback ls)) ≡ length (filter makes_callback ls) = subjects_length (filter makes_callback ls) in
    lt-ltb _ _ (rw many (rw long at under))

named_one : (version : ℕ) (ls : List Filled) (me w : List ℕ) (t : ℕ) (sort : Sort) (wh : Which) → which sort ≡ wh → IsMe (names_of ls) me t → Fits ls me w sort → NamedBy (scene version ls) ls t sort w wh
named_one version ls me w t sort InObjects e who f =
    let listed : is_listed InObjects f.made ≡ true = subst (λ x. is_listed x f.made ≡ true) e (who_listed sort f.made f.caller f.may) in
    named_object (names_of ls) ls me w t sort who f listed
named_one version ls me w t sort InThreads e who f = named_thread version ls me w t sort who f
named_one version ls me w t sort InCallbacks e who f = named_callback version ls me w sort e f

named_at : (version : ℕ) (ls : List Filled) (me : List ℕ) (t : ℕ) → IsMe (names_of ls) me t → (f : Field) (v : Value) → is_misfit (fits_sort ls me) f v ≡ false → NamedAt (scene version ls) ls t f v
named_at version ls me t who (fields.Name sort) (AWord w) h = named_one version ls me w t sort (which sort) refl who (fits_is ls me w sort (not-false _ h))
named_at version ls me t who (fields.Each sort) (AWord w) h = named_one version ls me w t sort (which sort) refl who (fits_is ls me w sort (not-false _ h))
named_at version ls me t who _ _ h = tt

or_parts : (x y : Bool) → (x || y) ≡ false → (x ≡ false) × (y ≡ false)
or_parts true y h = absurd cc
or_parts false y h = (refl, h)

pub all_named : (version : ℕ) (ls : List Filled) (me : List ℕ) (t : ℕ) → IsMe (names_of ls) me t → (fs : List Field) (vs : List Value) → any_misfit (fits_sort ls me) fs vs ≡ false → AreNamed (scene version ls) ls t fs vs
all_named version ls me t who [] vs h = tt
all_named version ls me t who (f ∷ fs) [] h = tt
all_named version ls me t who (f ∷ fs) (v ∷ vs) h =
    let p = or_parts (is_misfit (fits_sort ls me) f v) (any_misfit (fits_sort ls me) fs vs) h in
    (named_at version ls me t who f v p.0, all_named version ls me t who fs vs p.1)

-- ---- calls

passes : (s : Scene) (t : ℕ) (a c : Call) → Some a ≡ Some c → fits_call s t a ≡ true → fits_call s t c ≡ true
passes s t a c e h = let q : a ≡ c = cc in subst (λ x. fits_call s t x ≡ true) q h

object_by : (s : Scene) (ls : List Filled) (t : ℕ) (sort : Sort) (w : List ℕ) (i : ℕ) → NamedObject s.objects ls t sort w i → object_fits t sort (slice_get s.objects i) ≡ true
object_by s ls t sort w i n = ap (object_fits t sort) n.is ∙ n.fits

three_from : (x y z : Bool) → x ≡ true → y ≡ true → z ≡ true → (x && y && z) ≡ true
three_from x y z p q r = rw (p, q, r) refl

mutex_is : (t : ℕ) (x : Object) → object_fits t sorts.Mutexes (Some x) ≡ true → made_as x ≡ mades.Mutex
mutex_is t (objects.Mutex numbers) h = refl
mutex_is t _ h = absurd cc

condition_is : (t : ℕ) (x : Object) → object_fits t sorts.Conditions (Some x) ≡ true → made_as x ≡ mades.Condition
condition_is t objects.Condition h = refl
condition_is t _ h = absurd cc

number_by : (s : Scene) (ls : List Filled) (t : ℕ) (w : List ℕ) (i n : ℕ) (a : NamedObject s.objects ls t sorts.Mutexes w i) → int_le (numbers_of ls w) (pos n) ≡ false → numbers_beyond (slice_get s.objects i) n ≡ true
number_by s ls t w i n a under = ap (λ y. numbers_beyond y n) a.is ∙ a.numbers n (mutex_is t a.object a.fits) under

number_first : (ls : List Filled) (t : ℕ) (w : List ℕ) (xs : List Object) (i : ℕ) (a : NamedObject xs ls t sorts.Mutexes w i) (n : ℕ) (vs : List Value) (fs : List Field) (rest : List Value)
    → any_outside (numbers_of ls (mutex_among (is_mutex ls) (AWord w ∷ vs))) (fields.Index ∷ fs) (ANumber (pos n) ∷ rest) ≡ false → int_le (numbers_of ls w) (pos n) ≡ false
number_first ls t w xs i a n vs fs rest h =
    let m : is_mutex ls w ≡ true = rw (a.made, mutex_is t a.object a.fits) refl in
    let k : mutex_among (is_mutex ls) (AWord w ∷ vs) ≡ w = rw m refl in
    let g : any_outside (numbers_of ls w) (fields.Index ∷ fs) (ANumber (pos n) ∷ rest) ≡ false = subst (λ u. any_outside (numbers_of ls u) (fields.Index ∷ fs) (ANumber (pos n) ∷ rest) ≡ false) k h in
    (or_parts _ _ g).0

number_second : (ls : List Filled) (t : ℕ) (u w : List ℕ) (xs : List Object) (j i : ℕ) (b : NamedObject xs ls t sorts.Conditions u j) (a : NamedObject xs ls t sorts.Mutexes w i) (n : ℕ) (vs : List Value) (fs : List Field) (rest : List Value)
    → any_outside (numbers_of ls (mutex_among (is_mutex ls) (AWord u ∷ AWord w ∷ vs))) (fields.Index ∷ fs) (ANumber (pos n) ∷ rest) ≡ false → int_le (numbers_of ls w) (pos n) ≡ false
number_second ls t u w xs j i b a n vs fs rest h =
    let m : is_mutex ls w ≡ true = rw (a.made, mutex_is t a.object a.fits) refl in
    let o : is_mutex ls u ≡ false = rw (b.made, condition_is t b.object b.fits) refl in
    let k : mutex_among (is_mutex ls) (AWord u ∷ AWord w ∷ vs) ≡ w = rw (o, m) refl in
    let g : any_outside (numbers_of ls w) (fields.Index ∷ fs) (ANumber (pos n) ∷ rest) ≡ false = subst (λ v. any_outside (numbers_of ls v) (fields.Index ∷ fs) (ANumber (pos n) ∷ rest) ≡ false) k h in
    (or_parts _ _ g).0

lock_fits : (s : Scene) (t : ℕ) (o : ObjectNo) (x : Object) (k : Option Made) → slice_get s.objects o.0 ≡ Some x → k ≡ Some (made_as x) → object_fits t sorts.Lockables (Some x) ≡ true → fits_call s t (if_recursive k (calls.LockRecursive o) (calls.Lock o)) ≡ true
lock_fits s t o (objects.Mutex numbers) k e m h = rw (m, e) refl
lock_fits s t o objects.Recursive k e m h = rw (m, e) refl
lock_fits s t o objects.Shared k e m h = rw (m, e) refl
lock_fits s t o _ k e m h = absurd cc

try_lock_fits : (s : Scene) (t : ℕ) (o : ObjectNo) (x : Object) (k : Option Made) → slice_get s.objects o.0 ≡ Some x → k ≡ Some (made_as x) → object_fits t sorts.Lockables (Some x) ≡ true → fits_call s t (if_recursive k (calls.TryLockRecursive o) (calls.TryLock o)) ≡ true
try_lock_fits s t o (objects.Mutex numbers) k e m h = rw (m, e) refl
try_lock_fits s t o objects.Recursive k e m h = rw (m, e) refl
try_lock_fits s t o objects.Shared k e m h = rw (m, e) refl
try_lock_fits s t o _ k e m h = absurd cc

wait_fits : (s : Scene) (t : ℕ) (o : ObjectNo) (x : Object) (k : Option Made) → slice_get s.objects o.0 ≡ Some x → k ≡ Some (made_as x) → object_fits t sorts.Waited (Some x) ≡ true → fits_call s t (waits_on k o) ≡ true
wait_fits s t o (objects.Latch count) k e m h = rw (m, e) refl
wait_fits s t o (objects.Barrier count small) k e m h = rw (m, e) refl
wait_fits s t o (objects.Promise owner reader) k e m h = rw (m, e, h) refl
wait_fits s t o (objects.SharedPromise owner readers) k e m h = rw (m, e, h) refl
wait_fits s t o (objects.Task owner reader function) k e m h = rw (m, e, h) refl
wait_fits s t o (objects.Async policy function thread) k e m h = rw (m, e, h) refl
wait_fits s t o _ k e m h = absurd cc

meet_fits : (s : Scene) (t : ℕ) (o : ObjectNo) (x : Object) (k : Option Made) → slice_get s.objects o.0 ≡ Some x → k ≡ Some (made_as x) → object_fits t sorts.Met (Some x) ≡ true → fits_call s t (meets_at k o) ≡ true
meet_fits s t o (objects.Latch count) k e m h = rw (m, e) refl
meet_fits s t o (objects.Barrier count small) k e m h = rw (m, e) refl
meet_fits s t o _ k e m h = absurd cc

drop_fits : (s : Scene) (t : ℕ) (o : ObjectNo) (x : Object) (k : Option Made) → slice_get s.objects o.0 ≡ Some x → k ≡ Some (made_as x) → object_fits t sorts.Dropped (Some x) ≡ true → fits_call s t (drops_of k o) ≡ true
drop_fits s t o (objects.Stop holders) k e m h = rw (m, e) refl
drop_fits s t o (objects.Promise owner reader) k e m h = rw (m, e, h) refl
drop_fits s t o (objects.SharedPromise owner readers) k e m h = rw (m, e, h) refl
drop_fits s t o (objects.Task owner reader function) k e m h = rw (m, e, h) refl
drop_fits s t o (objects.Async policy function thread) k e m h = rw (m, e, h) refl
drop_fits s t o _ k e m h = absurd cc

each_fits : (version own_version : ℕ) (own : List ℕ) (ls : List Filled) (t n : ℕ) (vs : List Value) → FitFields own_version own (replicate n (fields.Each sorts.Mutexes)) vs → AreNamed (scene version ls) ls t (replicate n (fields.Each sorts.Mutexes)) vs
    → list_all (λ o. fits_object (scene version ls) t sorts.Mutexes (record { 0 = o })) (map (place_in (names_of ls).objects) (map (λ v. word_in (Some v)) vs)) ≡ true
each_fits version v own ls t zero [] fit named = refl
each_fits version v own ls t zero (x ∷ vs) fit named = absurd fit
each_fits version v own ls t (suc n) [] fit named = absurd fit
each_fits version v own ls t (suc n) (AWord w ∷ vs) fit named = and_from _ _ (object_by (scene version ls) ls t sorts.Mutexes w (place_in (names_of ls).objects w) named.0) (each_fits version v own ls t n vs fit.1 named.1)
each_fits version v own ls t (suc n) (ANumber z ∷ vs) fit named = absurd fit.0

pub fits_at : (version : ℕ) (ls : List Filled) (me : List ℕ) (t : ℕ) (f : Form) (vs : List Value) → IsWellFilled scenario_lines version (line f vs) → AreNamed (scene version ls) ls t (spread (fields_of f) (length vs)) vs
    → has_outside ls (line f vs) ≡ false → part_of f ≡ ACall → (c : Call) → call_of (names_of ls) (made_of ls (subject (line f vs))) (line f vs) f ≡ Some c → fits_call (scene version ls) t c ≡ true
fits_at version ls me t forms.Lock (AWord w0 ∷ []) fit named inside p c says =
    passes (scene version ls) t _ c says (lock_fits (scene version ls) t (record { 0 = place_in (names_of ls).objects w0 }) named.0.object (made_of ls w0) named.0.is named.0.made named.0.fits)
fits_at version ls me t forms.Lock _ fit named inside p c says = absurd (assumption fit)
fits_at version ls me t forms.LockShared (AWord w0 ∷ []) fit named inside p c says =
    passes (scene version ls) t _ c says (object_by (scene version ls) ls t sorts.SharedMutexes w0 (place_in (names_of ls).objects w0) named.0)
fits_at version ls me t forms.LockShared _ fit named inside p c says = absurd (assumption fit)
fits_at version ls me t forms.TryLock (AWord w0 ∷ []) fit named inside p c says =
    passes (scene version ls) t _ c says (try_lock_fits (scene version ls) t (record { 0 = place_in (names_of ls).objects w0 }) named.0.object (made_of ls w0) named.0.is named.0.made named.0.fits)
fits_at version ls me t forms.TryLock _ fit named inside p c says = absurd (assumption fit)
fits_at version ls me t forms.TryLockShared (AWord w0 ∷ []) fit named inside p c says =
    passes (scene version ls) t _ c says (object_by (scene version ls) ls t sorts.SharedMutexes w0 (place_in (names_of ls).objects w0) named.0)
fits_at version ls me t forms.TryLockShared _ fit named inside p c says = absurd (assumption fit)
fits_at version ls me t forms.Unlock (AWord w0 ∷ []) fit named inside p c says =
    passes (scene version ls) t _ c says (object_by (scene version ls) ls t sorts.Lockables w0 (place_in (names_of ls).objects w0) named.0)
fits_at version ls me t forms.Unlock _ fit named inside p c says = absurd (assumption fit)
fits_at version ls me t forms.UnlockShared (AWord w0 ∷ []) fit named inside p c says =
    passes (scene version ls) t _ c says (object_by (scene version ls) ls t sorts.SharedMutexes w0 (place_in (names_of ls).objects w0) named.0)
fits_at version ls me t forms.UnlockShared _ fit named inside p c says = absurd (assumption fit)
fits_at version ls me t forms.GetNumber (AWord w0 ∷ ANumber (pos n1) ∷ []) fit named inside p c says =
    passes (scene version ls) t _ c says (number_by (scene version ls) ls t w0 (place_in (names_of ls).objects w0) n1 named.0 (number_first ls t w0 (scene version ls).objects (place_in (names_of ls).objects w0) named.0 n1 (ANumber (pos n1) ∷ []) ([]) ([]) inside))
fits_at version ls me t forms.GetNumber _ fit named inside p c says = absurd (assumption fit)
fits_at version ls me t forms.SetNumber (AWord w0 ∷ ANumber (pos n1) ∷ ANumber n2 ∷ []) fit named inside p c says =
    passes (scene version ls) t _ c says (number_by (scene version ls) ls t w0 (place_in (names_of ls).objects w0) n1 named.0 (number_first ls t w0 (scene version ls).objects (place_in (names_of ls).objects w0) named.0 n1 (ANumber (pos n1) ∷ ANumber n2 ∷ []) (fields.Signed ∷ []) (ANumber n2 ∷ []) inside))
fits_at version ls me t forms.SetNumber _ fit named inside p c says = absurd (assumption fit)
fits_at version ls me t forms.AddNumber (AWord w0 ∷ ANumber (pos n1) ∷ ANumber n2 ∷ []) fit named inside p c says =
    passes (scene version ls) t _ c says (number_by (scene version ls) ls t w0 (place_in (names_of ls).objects w0) n1 named.0 (number_first ls t w0 (scene version ls).objects (place_in (names_of ls).objects w0) named.0 n1 (ANumber (pos n1) ∷ ANumber n2 ∷ []) (fields.Signed ∷ []) (ANumber n2 ∷ []) inside))
fits_at version ls me t forms.AddNumber _ fit named inside p c says = absurd (assumption fit)
fits_at version ls me t forms.Release (AWord w0 ∷ ANumber (pos n1) ∷ []) fit named inside p c says =
    passes (scene version ls) t _ c says (object_by (scene version ls) ls t sorts.Semaphores w0 (place_in (names_of ls).objects w0) named.0)
fits_at version ls me t forms.Release _ fit named inside p c says = absurd (assumption fit)
fits_at version ls me t forms.Acquire (AWord w0 ∷ []) fit named inside p c says =
    passes (scene version ls) t _ c says (object_by (scene version ls) ls t sorts.Semaphores w0 (place_in (names_of ls).objects w0) named.0)
fits_at version ls me t forms.Acquire _ fit named inside p c says = absurd (assumption fit)
fits_at version ls me t forms.TryAcquire (AWord w0 ∷ []) fit named inside p c says =
    passes (scene version ls) t _ c says (object_by (scene version ls) ls t sorts.Semaphores w0 (place_in (names_of ls).objects w0) named.0)
fits_at version ls me t forms.TryAcquire _ fit named inside p c says = absurd (assumption fit)
fits_at version ls me t forms.CountDown (AWord w0 ∷ ANumber (pos n1) ∷ []) fit named inside p c says =
    passes (scene version ls) t _ c says (object_by (scene version ls) ls t sorts.Latches w0 (place_in (names_of ls).objects w0) named.0)
fits_at version ls me t forms.CountDown _ fit named inside p c says = absurd (assumption fit)
fits_at version ls me t forms.Wait (AWord w0 ∷ []) fit named inside p c says =
    passes (scene version ls) t _ c says (wait_fits (scene version ls) t (record { 0 = place_in (names_of ls).objects w0 }) named.0.object (made_of ls w0) named.0.is named.0.made named.0.fits)
fits_at version ls me t forms.Wait _ fit named inside p c says = absurd (assumption fit)
fits_at version ls me t forms.TryWait (AWord w0 ∷ []) fit named inside p c says =
    passes (scene version ls) t _ c says (object_by (scene version ls) ls t sorts.Latches w0 (place_in (names_of ls).objects w0) named.0)
fits_at version ls me t forms.TryWait _ fit named inside p c says = absurd (assumption fit)
fits_at version ls me t forms.ArriveAndWait (AWord w0 ∷ []) fit named inside p c says =
    passes (scene version ls) t _ c says (meet_fits (scene version ls) t (record { 0 = place_in (names_of ls).objects w0 }) named.0.object (made_of ls w0) named.0.is named.0.made named.0.fits)
fits_at version ls me t forms.ArriveAndWait _ fit named inside p c says = absurd (assumption fit)
fits_at version ls me t forms.Arrive (AWord w0 ∷ ANumber (pos n1) ∷ []) fit named inside p c says =
    passes (scene version ls) t _ c says (object_by (scene version ls) ls t sorts.Barriers w0 (place_in (names_of ls).objects w0) named.0)
fits_at version ls me t forms.Arrive _ fit named inside p c says = absurd (assumption fit)
fits_at version ls me t forms.ArriveAndDrop (AWord w0 ∷ []) fit named inside p c says =
    passes (scene version ls) t _ c says (object_by (scene version ls) ls t sorts.Barriers w0 (place_in (names_of ls).objects w0) named.0)
fits_at version ls me t forms.ArriveAndDrop _ fit named inside p c says = absurd (assumption fit)
fits_at version ls me t forms.CallOnceReturn (AWord w0 ∷ AWord w1 ∷ []) fit named inside p c says =
    passes (scene version ls) t _ c says (object_by (scene version ls) ls t sorts.Onces w0 (place_in (names_of ls).objects w0) named.0)
fits_at version ls me t forms.CallOnceReturn _ fit named inside p c says = absurd (assumption fit)
fits_at version ls me t forms.CallOnceThrow (AWord w0 ∷ AWord w1 ∷ ANumber (pos n2) ∷ []) fit named inside p c says =
    passes (scene version ls) t _ c says (object_by (scene version ls) ls t sorts.Onces w0 (place_in (names_of ls).objects w0) named.0)
fits_at version ls me t forms.CallOnceThrow _ fit named inside p c says = absurd (assumption fit)
fits_at version ls me t forms.WaitCondition (AWord w0 ∷ AWord w1 ∷ []) fit named inside p c says =
    passes (scene version ls) t _ c says (and_from _ _ (object_by (scene version ls) ls t sorts.Conditions w0 (place_in (names_of ls).objects w0) named.0) (object_by (scene version ls) ls t sorts.Exclusives w1 (place_in (names_of ls).objects w1) named.1.0))
fits_at version ls me t forms.WaitCondition _ fit named inside p c says = absurd (assumption fit)
fits_at version ls me t forms.WaitPredicate (AWord w0 ∷ AWord w1 ∷ ANumber (pos n2) ∷ AWord w3 ∷ ANumber n4 ∷ []) fit named inside p c says =
    passes (scene version ls) t _ c says (and_from _ _ (object_by (scene version ls) ls t sorts.Conditions w0 (place_in (names_of ls).objects w0) named.0) (number_by (scene version ls) ls t w1 (place_in (names_of ls).objects w1) n2 named.1.0 (number_second ls t w0 w1 (scene version ls).objects (place_in (names_of ls).objects w0) (place_in (names_of ls).objects w1) named.0 named.1.0 n2 (ANumber (pos n2) ∷ AWord w3 ∷ ANumber n4 ∷ []) (fields.Relation ∷ fields.Signed ∷ []) (AWord w3 ∷ ANumber n4 ∷ []) inside)))
fits_at version ls me t forms.WaitPredicate _ fit named inside p c says = absurd (assumption fit)
fits_at version ls me t forms.WaitStop (AWord w0 ∷ AWord w1 ∷ AWord w2 ∷ ANumber (pos n3) ∷ AWord w4 ∷ ANumber n5 ∷ []) fit named inside p c says =
    passes (scene version ls) t _ c says (three_from _ _ _ (object_by (scene version ls) ls t sorts.Conditions w0 (place_in (names_of ls).objects w0) named.0) (number_by (scene version ls) ls t w1 (place_in (names_of ls).objects w1) n3 named.1.0 (number_second ls t w0 w1 (scene version ls).objects (place_in (names_of ls).objects w0) (place_in (names_of ls).objects w1) named.0 named.1.0 n3 (AWord w2 ∷ ANumber (pos n3) ∷ AWord w4 ∷ ANumber n5 ∷ []) (fields.Relation ∷ fields.Signed ∷ []) (AWord w4 ∷ ANumber n5 ∷ []) inside)) (object_by (scene version ls) ls t sorts.StopStates w2 (place_in (names_of ls).objects w2) named.1.1.0))
fits_at version ls me t forms.WaitStop _ fit named inside p c says = absurd (assumption fit)
fits_at version ls me t forms.NotifyOne (AWord w0 ∷ []) fit named inside p c says =
    passes (scene version ls) t _ c says (object_by (scene version ls) ls t sorts.Conditions w0 (place_in (names_of ls).objects w0) named.0)
fits_at version ls me t forms.NotifyOne _ fit named inside p c says = absurd (assumption fit)
fits_at version ls me t forms.NotifyAll (AWord w0 ∷ []) fit named inside p c says =
    passes (scene version ls) t _ c says (object_by (scene version ls) ls t sorts.Conditions w0 (place_in (names_of ls).objects w0) named.0)
fits_at version ls me t forms.NotifyAll _ fit named inside p c says = absurd (assumption fit)
fits_at version ls me t forms.RequestStop (AWord w0 ∷ []) fit named inside p c says =
    passes (scene version ls) t _ c says (object_by (scene version ls) ls t sorts.StopStates w0 (place_in (names_of ls).objects w0) named.0)
fits_at version ls me t forms.RequestStop _ fit named inside p c says = absurd (assumption fit)
fits_at version ls me t forms.StopRequested (AWord w0 ∷ []) fit named inside p c says =
    passes (scene version ls) t _ c says (object_by (scene version ls) ls t sorts.StopStates w0 (place_in (names_of ls).objects w0) named.0)
fits_at version ls me t forms.StopRequested _ fit named inside p c says = absurd (assumption fit)
fits_at version ls me t forms.StopPossible (AWord w0 ∷ []) fit named inside p c says =
    passes (scene version ls) t _ c says (object_by (scene version ls) ls t sorts.StopStates w0 (place_in (names_of ls).objects w0) named.0)
fits_at version ls me t forms.StopPossible _ fit named inside p c says = absurd (assumption fit)
fits_at version ls me t forms.Another (AWord w0 ∷ []) fit named inside p c says =
    passes (scene version ls) t _ c says (object_by (scene version ls) ls t sorts.Sources w0 (place_in (names_of ls).objects w0) named.0)
fits_at version ls me t forms.Another _ fit named inside p c says = absurd (assumption fit)
fits_at version ls me t forms.Drop (AWord w0 ∷ []) fit named inside p c says =
    passes (scene version ls) t _ c says (drop_fits (scene version ls) t (record { 0 = place_in (names_of ls).objects w0 }) named.0.object (made_of ls w0) named.0.is named.0.made named.0.fits)
fits_at version ls me t forms.Drop _ fit named inside p c says = absurd (assumption fit)
fits_at version ls me t forms.Register (AWord w0 ∷ []) fit named inside p c says =
    passes (scene version ls) t _ c says named.0
fits_at version ls me t forms.Register _ fit named inside p c says = absurd (assumption fit)
fits_at version ls me t forms.Deregister (AWord w0 ∷ []) fit named inside p c says =
    passes (scene version ls) t _ c says named.0
fits_at version ls me t forms.Deregister _ fit named inside p c says = absurd (assumption fit)
fits_at version ls me t forms.SetValue (AWord w0 ∷ ANumber n1 ∷ []) fit named inside p c says =
    passes (scene version ls) t _ c says (object_by (scene version ls) ls t sorts.Settled w0 (place_in (names_of ls).objects w0) named.0)
fits_at version ls me t forms.SetValue _ fit named inside p c says = absurd (assumption fit)
fits_at version ls me t forms.SetException (AWord w0 ∷ ANumber (pos n1) ∷ []) fit named inside p c says =
    passes (scene version ls) t _ c says (object_by (scene version ls) ls t sorts.Settled w0 (place_in (names_of ls).objects w0) named.0)
fits_at version ls me t forms.SetException _ fit named inside p c says = absurd (assumption fit)
fits_at version ls me t forms.Invoke (AWord w0 ∷ []) fit named inside p c says =
    passes (scene version ls) t _ c says (object_by (scene version ls) ls t sorts.Invoked w0 (place_in (names_of ls).objects w0) named.0)
fits_at version ls me t forms.Invoke _ fit named inside p c says = absurd (assumption fit)
fits_at version ls me t forms.GetFuture (AWord w0 ∷ []) fit named inside p c says =
    passes (scene version ls) t _ c says (object_by (scene version ls) ls t sorts.Promised w0 (place_in (names_of ls).objects w0) named.0)
fits_at version ls me t forms.GetFuture _ fit named inside p c says = absurd (assumption fit)
fits_at version ls me t forms.Share (AWord w0 ∷ []) fit named inside p c says =
    passes (scene version ls) t _ c says (object_by (scene version ls) ls t sorts.Promised w0 (place_in (names_of ls).objects w0) named.0)
fits_at version ls me t forms.Share _ fit named inside p c says = absurd (assumption fit)
fits_at version ls me t forms.GetOutcome (AWord w0 ∷ []) fit named inside p c says =
    passes (scene version ls) t _ c says (object_by (scene version ls) ls t sorts.Futures w0 (place_in (names_of ls).objects w0) named.0)
fits_at version ls me t forms.GetOutcome _ fit named inside p c says = absurd (assumption fit)
fits_at version ls me t forms.Start (AWord w0 ∷ []) fit named inside p c says =
    passes (scene version ls) t _ c says (rw (eq-eqb t 0 named.0.0, named.0.1, named.0.2) refl)
fits_at version ls me t forms.Start _ fit named inside p c says = absurd (assumption fit)
fits_at version ls me t forms.Join (AWord w0 ∷ []) fit named inside p c says =
    passes (scene version ls) t _ c says (rw (eq-eqb t 0 named.0.0, named.0.1) refl)
fits_at version ls me t forms.Join _ fit named inside p c says = absurd (assumption fit)
fits_at version ls me t forms.Launch (AWord w0 ∷ []) fit named inside p c says =
    passes (scene version ls) t _ c says (object_by (scene version ls) ls t sorts.Launched w0 (place_in (names_of ls).objects w0) named.0)
fits_at version ls me t forms.Launch _ fit named inside p c says = absurd (assumption fit)
fits_at version ls me t forms.LockAll vs fit named inside p c says = passes (scene version ls) t _ c says (each_fits version version _ ls t (max 2 (min (length vs) 4)) vs fit named)
fits_at version ls me t forms.TryLockAll vs fit named inside p c says = passes (scene version ls) t _ c says (each_fits version version _ ls t (max 2 (min (length vs) 4)) vs fit named)
fits_at version ls me t _ vs fit named inside p c says = absurd cc
