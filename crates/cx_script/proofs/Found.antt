-- A name that fits its place is among the names of its sort, and is found there.
use Rattle.std.proofs.Common.{◌≡◌, ℕ, ◌<◌, ◌⊎◌, inl, inr, Bool, true, false, cond, ◌||◌, not, List, [], ◌∷◌, length, map, filter, Option, Some, None, refl, ap, ◌∙◌, arith}
use Rattle.std.specs.Prelude.{find, is_some, option_and_then}
use Rattle.std.specs.Str.{bytes_eq}
use Rattle.std.proofs.lemmas.Bool.{cases_Bool, and_parts, not-false}
use Rattle.std.proofs.lemmas.Slice.Eq.{bytes_eq-Decides}
use Rattle.cx_text.specs.declared.form.Form.{Form}
use Rattle.cx_text.specs.declared.form.Form.TheVariants as forms
use Rattle.cx_text.specs.declared.form.Field.{Field}
use Rattle.cx_text.specs.declared.form.Field.TheVariants as fields
use Rattle.cx_text.specs.declared.form.Sort.{Sort}
use Rattle.cx_text.specs.declared.form.Sort.TheVariants as sorts
use Rattle.cx_text.specs.declared.form.Made.{Made}
use Rattle.cx_text.specs.declared.form.Made.TheVariants as mades
use Rattle.cx_text.specs.declared.form.Caller.{Caller}
use Rattle.cx_text.specs.Table.{makes, who_may}
use Rattle.cx_text.specs.Words.{Filled, Value, AWord, main_word}
use Rattle.cx_script.specs.Earlier.{declares, made_of, fits_sort, is_caller, subject}
use Rattle.cx_script.specs.Faults.{makes_thread, makes_object, makes_callback, is_misfit, any_misfit}
use Rattle.cx_script.specs.Script.{Names, names_of, place_in, name_at}

-- ---- lists of names

-- the list of names in which the names of a sort stand
pub data Which : Type 0 where
  InThreads : Which
  InObjects : Which
  InCallbacks : Which

abbrev pub which : Sort → Which
which sorts.Holders = InThreads
which sorts.Bodied = InThreads
which sorts.Started = InThreads
which sorts.Joined = InThreads
which sorts.AnyThread = InThreads
which sorts.OfThread = InThreads
which sorts.OfAsync = InThreads
which sorts.Callbacks = InCallbacks
which _ = InObjects

abbrev pub names_for : Names → Which → List (List ℕ)
names_for names InThreads = names.threads
names_for names InObjects = names.objects
names_for names InCallbacks = names.callbacks

-- the kinds of names in a list
abbrev pub is_listed : Which → Made → Bool
is_listed InThreads mades.Main = true
is_listed InThreads mades.Thread = true
is_listed InThreads mades.JThread = true
is_listed InThreads mades.Async = true
is_listed InThreads _ = false
is_listed InObjects mades.Main = false
is_listed InObjects mades.Thread = false
is_listed InObjects mades.Callback = false
is_listed InObjects _ = true
is_listed InCallbacks mades.Callback = true
is_listed InCallbacks _ = false

-- a name at its place
pub record IsFound (ns : List (List ℕ)) (w : List ℕ) : Type 0 where
  pub at : name_at ns (place_in ns w) ≡ w
  pub below : place_in ns w < length ns

same_bytes : (u w : List ℕ) → bytes_eq u w ≡ true → u ≡ w
same_bytes u w h = (bytes_eq-Decides u w).0 h

found_head : (n w : List ℕ) (ns : List (List ℕ)) → bytes_eq n w ≡ true → IsFound (n ∷ ns) w
found_head n w ns h = record { at = rw h (same_bytes n w h); below = rw h (omega arith) }

found_tail : (n w : List ℕ) (ns : List (List ℕ)) → bytes_eq n w ≡ false → IsFound ns w → IsFound (n ∷ ns) w
found_tail n w ns h r = let under = r.below in record { at = rw h r.at; below = rw h (omega arith) }

found_cons : (n w : List ℕ) (ns : List (List ℕ)) → IsFound ns w → IsFound (n ∷ ns) w
found_cons n w ns r = elim (cases_Bool (bytes_eq n w)) [ inl h ↦ found_head n w ns h | inr h ↦ found_tail n w ns h r ]

kept_found : (b : Bool) (n w : List ℕ) (l : Filled) (ls : List Filled) → subject l ≡ n → IsFound (map subject ls) w → IsFound (map subject (cond b (l ∷ ls) ls)) w
kept_found true n w l ls e r = found_cons (subject l) w (map subject ls) r
kept_found false n w l ls e r = r

-- a declared name stands among the names that a test picks, where it picks its declaration
pub declared_found : (test : Filled → Bool) (ls : List Filled) (w : List ℕ) (d : Filled) → find (declares w) ls ≡ Some d → test d ≡ true → IsFound (map subject (filter test ls)) w
declared_found test [] w d e t = absurd cc
declared_found test (l ∷ ls) w d e t = elim (cases_Bool (declares w l)) [
  | inl h ↦
      let here : Some l ≡ Some d = rw h at e in
      let same : l ≡ d = cc in
      let kept : test l ≡ true = rw same t in
      rw kept (found_head (subject l) w (map subject (filter test ls)) (and_parts (is_some (makes l.form)) (bytes_eq (subject l) w) h).1)
  | inr h ↦
      let later : find (declares w) ls ≡ Some d = rw h at e in
      kept_found (test l) (subject l) w l (filter test ls) refl (declared_found test ls w d later t)
]

pub makes_by : (m : Made) (d : Filled) → makes d.form ≡ Some m → ((is_listed InThreads m ≡ true) → (m ≡ mades.Main → ⊥) → makes_thread d ≡ true) × ((is_listed InObjects m ≡ true) → makes_object d ≡ true) × ((is_listed InCallbacks m ≡ true) → makes_callback d ≡ true)
makes_by mades.Main d e = ((λ h n. absurd (n refl)), (λ h. absurd cc), (λ h. absurd cc))
makes_by mades.Thread d e = ((λ h n. rw e refl), (λ h. absurd cc), (λ h. absurd cc))
makes_by mades.JThread d e = ((λ h n. rw e refl), (λ h. rw e refl), (λ h. absurd cc))
makes_by mades.Async d e = ((λ h n. rw e refl), (λ h. rw e refl), (λ h. absurd cc))
makes_by mades.Callback d e = ((λ h n. absurd cc), (λ h. absurd cc), (λ h. rw e refl))
makes_by _ d e = ((λ h n. absurd cc), (λ h. rw e refl), (λ h. absurd cc))

-- a name that stands for something, and by which line
pub record IsDeclared (ls : List Filled) (w : List ℕ) (m : Made) : Type 0 where
  pub by : Filled
  pub is : find (declares w) ls ≡ Some by
  pub makes_it : makes by.form ≡ Some m

declared_where : (ls : List Filled) (w : List ℕ) (m : Made) (o : Option Filled) → find (declares w) ls ≡ o → option_and_then (λ (l : Filled). makes l.form) o ≡ Some m → IsDeclared ls w m
declared_where ls w m None e h = absurd cc
declared_where ls w m (Some d) e h = record { by = d; is = e; makes_it = h }

-- main's name, or a declared one
pub made_cases : (ls : List Filled) (w : List ℕ) (m : Made) → made_of ls w ≡ Some m → ((bytes_eq main_word w ≡ true) × (m ≡ mades.Main)) ⊎ ((bytes_eq main_word w ≡ false) × IsDeclared ls w m)
made_cases ls w m e = elim (cases_Bool (bytes_eq main_word w)) [
  | inl h ↦ inl (h, (let here : Some mades.Main ≡ Some m = rw h at e in cc))
  | inr h ↦ let later : option_and_then (λ (l : Filled). makes l.form) (find (declares w) ls) ≡ Some m = rw h at e in inr (h, declared_where ls w m (find (declares w) ls) refl later)
]

-- no line makes main
pub main_unmade : (d : Filled) → makes d.form ≡ Some mades.Main → ⊥
main_unmade d e = made_not d.form e
  where
    made_not : (f : Form) → makes f ≡ Some mades.Main → ⊥
    made_not forms.Thread h = cc
    made_not _ h = cc

pub known_found : (ls : List Filled) (w : List ℕ) (m : Made) (wh : Which) → made_of ls w ≡ Some m → is_listed wh m ≡ true → IsFound (names_for (names_of ls) wh) w
known_found ls w m InThreads e h = elim (made_cases ls w m e) [
  | inl p ↦ found_head main_word w (map subject (filter makes_thread ls)) p.0
  | inr p ↦ let d = p.1 in found_cons main_word w (map subject (filter makes_thread ls)) (declared_found makes_thread ls w d.by d.is ((makes_by m d.by d.makes_it).0 h (λ q. main_unmade d.by (d.makes_it ∙ ap Some q))))
]
known_found ls w m InObjects e h = elim (made_cases ls w m e) [
  | inl p ↦ absurd (let q : is_listed InObjects mades.Main ≡ true = rw p.1 at h in cc)
  | inr p ↦ let d = p.1 in declared_found makes_object ls w d.by d.is ((makes_by m d.by d.makes_it).1 h)
]
known_found ls w m InCallbacks e h = elim (made_cases ls w m e) [
  | inl p ↦ absurd (let q : is_listed InCallbacks mades.Main ≡ true = rw p.1 at h in cc)
  | inr p ↦ let d = p.1 in declared_found makes_callback ls w d.by d.is ((makes_by m d.by d.makes_it).2 h)
]

-- ---- names at fields

pub who_listed : (s : Sort) (m : Made) (c : Caller) → who_may s m ≡ Some c → is_listed (which s) m ≡ true
who_listed sorts.Semaphores mades.Main c h = cc
who_listed sorts.Conditions mades.Main c h = cc
who_listed sorts.Holders mades.Main c h = cc
who_listed sorts.StopStates mades.Main c h = cc
who_listed sorts.Bodied mades.Main c h = cc
who_listed sorts.Lockables mades.Main c h = cc
who_listed sorts.SharedMutexes mades.Main c h = cc
who_listed sorts.Mutexes mades.Main c h = cc
who_listed sorts.Latches mades.Main c h = cc
who_listed sorts.Waited mades.Main c h = cc
who_listed sorts.Met mades.Main c h = cc
who_listed sorts.Barriers mades.Main c h = cc
who_listed sorts.Onces mades.Main c h = cc
who_listed sorts.Exclusives mades.Main c h = cc
who_listed sorts.Sources mades.Main c h = cc
who_listed sorts.Dropped mades.Main c h = cc
who_listed sorts.Callbacks mades.Main c h = cc
who_listed sorts.Settled mades.Main c h = cc
who_listed sorts.Invoked mades.Main c h = cc
who_listed sorts.Promised mades.Main c h = cc
who_listed sorts.Futures mades.Main c h = cc
who_listed sorts.Started mades.Main c h = cc
who_listed sorts.Joined mades.Main c h = cc
who_listed sorts.Launched mades.Main c h = cc
who_listed sorts.AnyThread mades.Main c h = cc
who_listed sorts.Settling mades.Main c h = cc
who_listed sorts.OfThread mades.Main c h = cc
who_listed sorts.OfAsync mades.Main c h = cc
who_listed _ _ c h = cc

-- a name that fits its sort: its kind, and who may call
pub record Fits (e : List Filled) (me w : List ℕ) (s : Sort) : Type 0 where
  pub made : Made
  pub caller : Caller
  pub is : made_of e w ≡ Some made
  pub may : who_may s made ≡ Some caller
  pub calls : is_caller e me w caller ≡ true

fits_caller : (e : List Filled) (me w : List ℕ) (s : Sort) (m : Made) (c : Option Caller) → made_of e w ≡ Some m → who_may s m ≡ c → fits_sort e me w s ≡ true → Fits e me w s
fits_caller e me w s m None a b h = absurd (let q : false ≡ true = rw (a, b) at h in cc)
fits_caller e me w s m (Some c) a b h = let q : is_caller e me w c ≡ true = rw (a, b) at h in record { made = m; caller = c; is = a; may = b; calls = q }

fits_made : (e : List Filled) (me w : List ℕ) (s : Sort) (o : Option Made) → made_of e w ≡ o → fits_sort e me w s ≡ true → Fits e me w s
fits_made e me w s None a h = absurd (let q : false ≡ true = rw a at h in cc)
fits_made e me w s (Some m) a h = fits_caller e me w s m (who_may s m) a refl h

pub fits_is : (e : List Filled) (me w : List ℕ) (s : Sort) → fits_sort e me w s ≡ true → Fits e me w s
fits_is e me w s h = fits_made e me w s (made_of e w) refl h

-- the name at a field is found
abbrev pub FoundAt : Names → Field → Value → Type 0
FoundAt names (fields.Name sort) (AWord w) = IsFound (names_for names (which sort)) w
FoundAt names (fields.Each sort) (AWord w) = IsFound (names_for names (which sort)) w
FoundAt names _ _ = Unit {0}

-- the names on a line are found
abbrev pub AreFound : Names → List Field → List Value → Type 0
AreFound names (f ∷ fs) (v ∷ vs) = FoundAt names f v × AreFound names fs vs
AreFound names _ _ = Unit {0}

or_parts : (x y : Bool) → (x || y) ≡ false → (x ≡ false) × (y ≡ false)
or_parts true y h = absurd cc
or_parts false y h = (refl, h)

fit_found : (ls e : List Filled) (me w : List ℕ) (s : Sort) → ((u : List ℕ) (m : Made) → made_of e u ≡ Some m → made_of ls u ≡ Some m) → not (fits_sort e me w s) ≡ false → IsFound (names_for (names_of ls) (which s)) w
fit_found ls e me w s grows h =
    let f = fits_is e me w s (not-false _ h) in
    known_found ls w f.made (which s) (grows w f.made f.is) (who_listed s f.made f.caller f.may)

-- the names on a line with no name of a wrong kind are found
pub all_found : (ls e : List Filled) (me : List ℕ) (fs : List Field) (vs : List Value) → ((u : List ℕ) (m : Made) → made_of e u ≡ Some m → made_of ls u ≡ Some m)
    → any_misfit (fits_sort e me) fs vs ≡ false → AreFound (names_of ls) fs vs
all_found ls e me [] vs grows h = tt
all_found ls e me (f ∷ fs) [] grows h = tt
all_found ls e me (f ∷ fs) (v ∷ vs) grows h =
    let p = or_parts (is_misfit (fits_sort e me) f v) (any_misfit (fits_sort e me) fs vs) h in
    (found_at f v p.0, all_found ls e me fs vs grows p.1)
  where
    found_at : (f : Field) (v : Value) → is_misfit (fits_sort e me) f v ≡ false → FoundAt (names_of ls) f v
    found_at (fields.Name sort) (AWord w) h = fit_found ls e me w sort grows h
    found_at (fields.Each sort) (AWord w) h = fit_found ls e me w sort grows h
    found_at _ _ h = tt
