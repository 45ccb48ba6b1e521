-- The object of a name, by its number.
use Rattle.std.proofs.Common.{◌≡◌, ℕ, suc, ◌+◌, ◌⊎◌, inl, inr, ℤ, pos, negsuc, Bool, true, false, ◌==◌, ◌||◌, List, [], ◌∷◌, ◌++◌, map, filter, Option, Some, None, refl, sym, ap, subst, ◌∙◌}
use Rattle.std.specs.Prelude.{find, slice_get, option_map, nat_lt, int_le}
use Rattle.std.specs.List.{list_any}
use Rattle.std.specs.Str.{bytes_eq}
use Rattle.std.proofs.lemmas.Bool.{cases_Bool, eq-eqb, lt-ltb, leb-false}
use Rattle.std.proofs.lemmas.Slice.Eq.{bytes_eq-Decides}
use Rattle.cx_scene.specs.declared.declared.Object.{Object}
use Rattle.cx_scene.specs.declared.declared.Object.TheVariants as objects
use Rattle.cx_text.specs.declared.form.Form.{Form}
use Rattle.cx_text.specs.declared.form.Form.TheVariants as forms
use Rattle.cx_text.specs.declared.form.Sort.{Sort}
use Rattle.cx_text.specs.declared.form.Sort.TheVariants as sorts
use Rattle.cx_text.specs.declared.form.Made.{Made}
use Rattle.cx_text.specs.declared.form.Made.TheVariants as mades
use Rattle.cx_text.specs.declared.form.Caller.{Caller}
use Rattle.cx_text.specs.declared.form.Caller.TheVariants as callers
use Rattle.cx_text.specs.Table.{makes, who_may}
use Rattle.cx_text.specs.Words.{Filled, Value, main_word, is_one_of}
use Rattle.cx_script.specs.declared.declared.Declared.{Declared}
use Rattle.cx_script.specs.declared.declared.Declared.TheVariants as declared
use Rattle.cx_script.specs.Earlier.{declares, made_of, subject, word_at, word_in, number_at, is_caller, is_owner, is_reader}
use Rattle.cx_script.specs.Faults.{makes_object, numbers_of, count_in}
use Rattle.cx_script.specs.Script.{Names, Declaration, place_in, declared_of, declarations_of, makes_of, natural_at}
use Rattle.cx_script.specs.Numbered.{objects_made, thread_step, objects_from}
use Rattle.cx_script.specs.WellFormed.{made_as, is_owned_by, is_read_by, may_call, object_fits, numbers_beyond}
use Rattle.cx_script.proofs.Found.{InObjects, is_listed, IsDeclared, made_cases, makes_by, Fits}

-- ---- declarations and their kinds

pub made_all : (names : Names) (l : Filled) (f : Form) → option_map makes_of (declared_of names l f) ≡ makes f
made_all names l forms.Thread = refl
made_all names l _ = refl

pub makes_none : (names : Names) (l : Filled) → declared_of names l l.form ≡ None → makes l.form ≡ None
makes_none names l e = sym (made_all names l l.form) ∙ ap (option_map makes_of) e

pub makes_some : (names : Names) (l : Filled) (what : Declared) → declared_of names l l.form ≡ Some what → makes l.form ≡ Some (makes_of what)
makes_some names l what e = sym (made_all names l l.form) ∙ ap (option_map makes_of) e

abbrev pub declaration : Filled → Declared → Declaration
declaration l what = record { name = subject l; what = what }

pub declarations_none : (names : Names) (l : Filled) (ls : List Filled) → declared_of names l l.form ≡ None → declarations_of names (l ∷ ls) ≡ declarations_of names ls
declarations_none names l ls e = rw e refl

pub declarations_some : (names : Names) (l : Filled) (ls : List Filled) (what : Declared) → declared_of names l l.form ≡ Some what → declarations_of names (l ∷ ls) ≡ declaration l what ∷ declarations_of names ls
declarations_some names l ls what e = rw e refl

-- ---- objects

abbrev counts_object : Made → Bool
counts_object mades.Thread = false
counts_object mades.Callback = false
counts_object _ = true

object_counts : (l : Filled) (m : Made) → makes l.form ≡ Some m → makes_object l ≡ counts_object m
object_counts l mades.Thread e = rw e refl
object_counts l mades.Callback e = rw e refl
object_counts l _ e = rw e refl

-- an object, or none
object_or_none : (t : ℕ) (what : Declared) → ((x : Object) × (objects_made t what ≡ x ∷ []) × (counts_object (makes_of what) ≡ true)) ⊎ ((objects_made t what ≡ []) × (counts_object (makes_of what) ≡ false))
object_or_none t declared.Thread = inr (refl, refl)
object_or_none t (declared.Callback stop action) = inr (refl, refl)
object_or_none t _ = inl (_, refl, refl)

-- the object at place i is what the line d declares
pub record At (objs : List Object) (i : ℕ) (names : Names) (d : Filled) : Type 0 where
  pub object : Object
  pub is : slice_get objs i ≡ Some object
  pub what : Declared
  pub says : declared_of names d d.form ≡ Some what
  pub thread : ℕ
  pub from : objects_made thread what ≡ object ∷ []

at_head : (x : Object) (rest : List Object) (names : Names) (d : Filled) (what : Declared) (t : ℕ) → declared_of names d d.form ≡ Some what → objects_made t what ≡ x ∷ [] → At (x ∷ rest) 0 names d
at_head x rest names d what t says from = record { object = x; is = refl; what = what; says = says; thread = t; from = from }

at_tail : (x : Object) (rest : List Object) (i : ℕ) (names : Names) (d : Filled) → At rest i names d → At (x ∷ rest) (suc i) names d
at_tail x rest i names d r = record { object = r.object; is = r.is; what = r.what; says = r.says; thread = r.thread; from = r.from }

abbrev place_of : List Filled → List ℕ → ℕ
place_of ls w = place_in (map subject (filter makes_object ls)) w

objects_step : (t : ℕ) (l : Filled) (what : Declared) (ds : List Declaration) (xs : List Object) → objects_made t what ≡ xs → objects_from t (declaration l what ∷ ds) ≡ xs ++ objects_from (t + thread_step what) ds
objects_step t l what ds xs e = rw e refl

same_name : (w : List ℕ) (l d : Filled) (ls : List Filled) → declares w l ≡ true → find (declares w) (l ∷ ls) ≡ Some d → l ≡ d
same_name w l d ls h e = let here : Some l ≡ Some d = rw h at e in cc

module _ (names : Names) (w : List ℕ) (d : Filled) (there : makes_object d ≡ true) where
  abbrev Is : List Filled → Type 0
  Is ls = (t : ℕ) → find (declares w) ls ≡ Some d → At (objects_from t (declarations_of names ls)) (place_of ls w) names d

  skip_line : (l : Filled) (ls : List Filled) → declared_of names l l.form ≡ None → Is ls → Is (l ∷ ls)
  skip_line l ls none later t e =
      let m : makes l.form ≡ None = makes_none names l none in
      let p : place_of (l ∷ ls) w ≡ place_of ls w = rw m refl in
      let k : find (declares w) ls ≡ Some d = rw m at e in
      subst (λ (ds : List Declaration). At (objects_from t ds) (place_of (l ∷ ls) w) names d) (sym (declarations_none names l ls none))
      (subst (λ (i : ℕ). At (objects_from t (declarations_of names ls)) i names d) (sym p) (later t k))

  no_object : (l : Filled) (ls : List Filled) (what : Declared) → declared_of names l l.form ≡ Some what → counts_object (makes_of what) ≡ false → (t : ℕ) → objects_made t what ≡ [] → Is ls
      → find (declares w) (l ∷ ls) ≡ Some d → At (objects_from t (declarations_of names (l ∷ ls))) (place_of (l ∷ ls) w) names d
  no_object l ls what says count t nothing later e =
      let c : makes_object l ≡ false = object_counts l (makes_of what) (makes_some names l what says) ∙ count in
      let p : place_of (l ∷ ls) w ≡ place_of ls w = rw c refl in
      let k : find (declares w) ls ≡ Some d = (elim (cases_Bool (declares w l)) [
        | inl h ↦ absurd (let q : l ≡ d = same_name w l d ls h e in let r : makes_object l ≡ true = rw q there in let z : false ≡ true = sym c ∙ r in cc)
        | inr h ↦ rw h at e
      ]) in
      subst (λ (ds : List Declaration). At (objects_from t ds) (place_of (l ∷ ls) w) names d) (sym (declarations_some names l ls what says))
      (subst (λ (xs : List Object). At xs (place_of (l ∷ ls) w) names d) (sym (objects_step t l what (declarations_of names ls) [] nothing))
      (subst (λ (i : ℕ). At (objects_from (t + thread_step what) (declarations_of names ls)) i names d) (sym p) (later (t + thread_step what) k)))

  an_object : (l : Filled) (ls : List Filled) (what : Declared) → declared_of names l l.form ≡ Some what → counts_object (makes_of what) ≡ true → (t : ℕ) (x : Object) → objects_made t what ≡ x ∷ [] → Is ls
      → find (declares w) (l ∷ ls) ≡ Some d → At (objects_from t (declarations_of names (l ∷ ls))) (place_of (l ∷ ls) w) names d
  an_object l ls what says count t x made later e =
      let c : makes_object l ≡ true = object_counts l (makes_of what) (makes_some names l what says) ∙ count in
      let m : makes l.form ≡ Some (makes_of what) = makes_some names l what says in
      let rest : List Object = objects_from (t + thread_step what) (declarations_of names ls) in
      subst (λ (ds : List Declaration). At (objects_from t ds) (place_of (l ∷ ls) w) names d) (sym (declarations_some names l ls what says))
      (subst (λ (xs : List Object). At xs (place_of (l ∷ ls) w) names d) (sym (objects_step t l what (declarations_of names ls) (x ∷ []) made))
      (elim (cases_Bool (bytes_eq (subject l) w)) [
        | inl h ↦
            let dl : declares w l ≡ true = rw (m, h) refl in
            let q : l ≡ d = same_name w l d ls dl e in
            let p : place_of (l ∷ ls) w ≡ 0 = rw (c, h) refl in
            subst (λ (i : ℕ). At (x ∷ rest) i names d) (sym p) (subst (λ (k : Filled). At (x ∷ rest) 0 names k) q (at_head x rest names l what t says made))
        | inr h ↦
            let dl : declares w l ≡ false = rw (m, h) refl in
            let k : find (declares w) ls ≡ Some d = rw dl at e in
            let p : place_of (l ∷ ls) w ≡ suc (place_of ls w) = rw (c, h) refl in
            subst (λ (i : ℕ). At (x ∷ rest) i names d) (sym p) (at_tail x rest (place_of ls w) names d (later (t + thread_step what) k))
      ]))

  object_step : (l : Filled) (ls : List Filled) (o : Option Declared) → declared_of names l l.form ≡ o → Is ls → Is (l ∷ ls)
  object_step l ls None says later = skip_line l ls says later
  object_step l ls (Some what) says later = λ t e. elim (object_or_none t what) [
    | inl p ↦ an_object l ls what says p.2 t p.0 p.1 later e
    | inr p ↦ no_object l ls what says p.1 t p.0 later e
  ]

  pub object_at : (ls : List Filled) → Is ls
  object_at [] t e = absurd cc
  object_at (l ∷ ls) t e = object_step l ls (declared_of names l l.form) refl (object_at ls) t e

-- ---- what an object is

pub made_is : (t : ℕ) (what : Declared) (x : Object) → objects_made t what ≡ x ∷ [] → made_as x ≡ makes_of what
made_is t declared.Thread x e = absurd cc
made_is t (declared.Callback stop action) x e = absurd cc
made_is t _ x e = let q = ap (map made_as) e in cc

-- how many numbers a mutex has
mutex_has : (names : Names) (l : Filled) (f : Form) (what : Declared) (t : ℕ) (x : Object) (n : ℕ) → declared_of names l f ≡ Some what → objects_made t what ≡ x ∷ [] → makes f ≡ Some mades.Mutex
    → int_le (number_at l 1) (pos n) ≡ false → numbers_beyond (Some x) n ≡ true
mutex_has names l forms.Mutex what t x n says from m under =
    let a : what ≡ declared.Mutex (natural_at l 1) = cc in
    let b : objects_made t (declared.Mutex (natural_at l 1)) ≡ x ∷ [] = subst (λ (y : Declared). objects_made t y ≡ x ∷ []) a from in
    let c : x ≡ objects.Mutex (natural_at l 1) = cc in
    rw c (below (number_at l 1) n under)
  where
    below : (z : ℤ) (n : ℕ) → int_le z (pos n) ≡ false → nat_lt n (count_in z) ≡ true
    below (pos k) n h = lt-ltb n k (leb-false k n h)
    below (negsuc k) n h = absurd cc
mutex_has names l _ what t x n says from m under = absurd cc

-- kinds that have an owner and readers
abbrev has_outcome : Option Made → Bool
has_outcome (Some mades.Promise) = true
has_outcome (Some mades.SharedPromise) = true
has_outcome (Some mades.Task) = true
has_outcome _ = false

-- a test of the object that a line declares
tested : (test : Object → Bool) (names : Names) (l : Filled) (f : Form) (what : Declared) (t : ℕ) (x : Object) → declared_of names l f ≡ Some what → objects_made t what ≡ x ∷ []
    → option_map (λ y. list_any test (objects_made t y)) (declared_of names l f) ≡ Some (test x || false)
tested test names l f what t x says from = ap (option_map (λ y. list_any test (objects_made t y))) says ∙ ap (λ xs. Some (list_any test xs)) from

passed : (a b : Bool) → Some (a || false) ≡ Some (b || false) → a ≡ true → b ≡ true
passed true true e h = refl
passed true false e h = absurd cc
passed false b e h = absurd cc

owned : (names : Names) (l : Filled) (f : Form) (what : Declared) (t u : ℕ) (x : Object) → declared_of names l f ≡ Some what → objects_made t what ≡ x ∷ [] → has_outcome (makes f) ≡ true
    → place_in names.threads (word_at l 1) ≡ u → is_owned_by x u ≡ true
owned names l forms.Promise what t u x says from has e = passed _ _ (tested (λ y. is_owned_by y u) names l forms.Promise what t x says from) (eq-eqb _ u e)
owned names l forms.SharedPromise what t u x says from has e = passed _ _ (tested (λ y. is_owned_by y u) names l forms.SharedPromise what t x says from) (eq-eqb _ u e)
owned names l forms.TaskReturn what t u x says from has e = passed _ _ (tested (λ y. is_owned_by y u) names l forms.TaskReturn what t x says from) (eq-eqb _ u e)
owned names l forms.TaskThrow what t u x says from has e = passed _ _ (tested (λ y. is_owned_by y u) names l forms.TaskThrow what t x says from) (eq-eqb _ u e)
owned names l _ what t u x says from has e = absurd cc

same_place : (ns : List (List ℕ)) (v me : List ℕ) (u : ℕ) → place_in ns me ≡ u → bytes_eq v me ≡ true → place_in ns v ≡ u
same_place ns v me u e h = let q : v ≡ me = (bytes_eq-Decides v me).0 h in ap (place_in ns) q ∙ e

one_place : (ns : List (List ℕ)) (v me : List ℕ) (u : ℕ) → place_in ns me ≡ u → (bytes_eq v me || false) ≡ true → (place_in ns v == u) ≡ true
one_place ns v me u e h = eq-eqb _ u (same_place ns v me u e (or_left (bytes_eq v me) h))
  where
    or_left : (b : Bool) → (b || false) ≡ true → b ≡ true
    or_left true h = refl
    or_left false h = h

any_place : (ns ws : List (List ℕ)) (me : List ℕ) (u : ℕ) → place_in ns me ≡ u → is_one_of ws me ≡ true → list_any (λ r. r == u) (map (place_in ns) ws) ≡ true
any_place ns [] me u e h = absurd cc
any_place ns (v ∷ ws) me u e h = elim (cases_Bool (bytes_eq v me)) [
  | inl k ↦ let q : (place_in ns v == u) ≡ true = eq-eqb _ u (same_place ns v me u e k) in rw q refl
  | inr k ↦ let later : is_one_of ws me ≡ true = rw k at h in let r = any_place ns ws me u e later in rw r (or_true (place_in ns v == u))
]
  where
    or_true : (b : Bool) → (b || true) ≡ true
    or_true true = refl
    or_true false = refl

abbrev row : Form → List Value → Filled
row f vs = record { form = f; values = vs }

read_at : (names : Names) (f : Form) (vs : List Value) (what : Declared) (t u : ℕ) (x : Object) (me : List ℕ) → declared_of names (row f vs) f ≡ Some what → objects_made t what ≡ x ∷ [] → has_outcome (makes f) ≡ true
    → place_in names.threads me ≡ u → is_reader (row f vs) me ≡ true → is_read_by x u ≡ true
read_at names forms.Promise (n ∷ o ∷ r ∷ vs) what t u x me says from has e h =
    passed _ _ (tested (λ y. is_read_by y u) names (row forms.Promise (n ∷ o ∷ r ∷ vs)) forms.Promise what t x says from) (one_place names.threads (word_in (Some r)) me u e h)
read_at names forms.Promise _ what t u x me says from has e h = absurd cc
read_at names forms.SharedPromise (n ∷ o ∷ vs) what t u x me says from has e h =
    passed _ _ (tested (λ y. is_read_by y u) names (row forms.SharedPromise (n ∷ o ∷ vs)) forms.SharedPromise what t x says from) (any_place names.threads (map (λ v. word_in (Some v)) vs) me u e h)
read_at names forms.SharedPromise _ what t u x me says from has e h = absurd cc
read_at names forms.TaskReturn (n ∷ o ∷ r ∷ vs) what t u x me says from has e h =
    passed _ _ (tested (λ y. is_read_by y u) names (row forms.TaskReturn (n ∷ o ∷ r ∷ vs)) forms.TaskReturn what t x says from) (one_place names.threads (word_in (Some r)) me u e h)
read_at names forms.TaskReturn _ what t u x me says from has e h = absurd cc
read_at names forms.TaskThrow (n ∷ o ∷ r ∷ vs) what t u x me says from has e h =
    passed _ _ (tested (λ y. is_read_by y u) names (row forms.TaskThrow (n ∷ o ∷ r ∷ vs)) forms.TaskThrow what t x says from) (one_place names.threads (word_in (Some r)) me u e h)
read_at names forms.TaskThrow _ what t u x me says from has e h = absurd cc
read_at names _ vs what t u x me says from has e h = absurd cc

-- only kinds with an outcome have owners and readers
abbrev is_outer : Caller → Bool
is_outer callers.Owner = true
is_outer callers.Reader = true
is_outer _ = false

abbrev is_outer_some : Option Caller → Bool
is_outer_some (Some c) = is_outer c
is_outer_some None = false

abbrev implies : Bool → Bool → Bool
implies true b = b
implies false b = true

outer_table : (s : Sort) (m : Made) → implies (is_outer_some (who_may s m)) (has_outcome (Some m)) ≡ true
outer_table sorts.Semaphores mades.Main = refl
outer_table sorts.Conditions mades.Main = refl
outer_table sorts.Holders mades.Main = refl
outer_table sorts.StopStates mades.Main = refl
outer_table sorts.Bodied mades.Main = refl
outer_table sorts.Lockables mades.Main = refl
outer_table sorts.SharedMutexes mades.Main = refl
outer_table sorts.Mutexes mades.Main = refl
outer_table sorts.Latches mades.Main = refl
outer_table sorts.Waited mades.Main = refl
outer_table sorts.Met mades.Main = refl
outer_table sorts.Barriers mades.Main = refl
outer_table sorts.Onces mades.Main = refl
outer_table sorts.Exclusives mades.Main = refl
outer_table sorts.Sources mades.Main = refl
outer_table sorts.Dropped mades.Main = refl
outer_table sorts.Callbacks mades.Main = refl
outer_table sorts.Settled mades.Main = refl
outer_table sorts.Invoked mades.Main = refl
outer_table sorts.Promised mades.Main = refl
outer_table sorts.Futures mades.Main = refl
outer_table sorts.Started mades.Main = refl
outer_table sorts.Joined mades.Main = refl
outer_table sorts.Launched mades.Main = refl
outer_table sorts.AnyThread mades.Main = refl
outer_table sorts.Settling mades.Main = refl
outer_table sorts.OfThread mades.Main = refl
outer_table sorts.OfAsync mades.Main = refl
outer_table _ _ = refl

outer_has : (s : Sort) (m : Made) (c : Caller) → who_may s m ≡ Some c → is_outer c ≡ true → has_outcome (Some m) ≡ true
outer_has s m c h k = let q : implies (is_outer_some (Some c)) (has_outcome (Some m)) ≡ true = subst (λ o. implies (is_outer_some o) (has_outcome (Some m)) ≡ true) h (outer_table s m) in rw k at q

-- ---- a name at a field, by numbers

-- the object of a name: of which kind it is, and that it fits its place
pub record NamedObject (xs : List Object) (ls : List Filled) (t : ℕ) (sort : Sort) (w : List ℕ) (i : ℕ) : Type 0 where
  pub object : Object
  pub is : slice_get xs i ≡ Some object
  pub made : made_of ls w ≡ Some (made_as object)
  pub fits : object_fits t sort (Some object) ≡ true
  pub numbers : (n : ℕ) → made_as object ≡ mades.Mutex → int_le (numbers_of ls w) (pos n) ≡ false → numbers_beyond (Some object) n ≡ true

-- who is calling: its number
pub record IsMe (names : Names) (me : List ℕ) (t : ℕ) : Type 0 where
  pub place : place_in names.threads me ≡ t
  pub main : bytes_eq main_word me ≡ true → t ≡ 0

called : (names : Names) (ls : List Filled) (me w : List ℕ) (t : ℕ) (sort : Sort) (m : Made) (c : Caller) (d : IsDeclared ls w m) (a : At (objects_from 1 (declarations_of names ls)) (place_in (map subject (filter makes_object ls)) w) names d.by)
    → IsMe names me t → who_may sort m ≡ Some c → is_caller ls me w c ≡ true → may_call a.object t c ≡ true
called names ls me w t sort m callers.Anyone d a who may h = refl
called names ls me w t sort m callers.OnlyMain d a who may h = eq-eqb t 0 (who.main h)
called names ls me w t sort m callers.Owner d a who may h =
    let has : has_outcome (makes d.by.form) ≡ true = ap has_outcome d.makes_it ∙ outer_has sort m callers.Owner may refl in
    let q : is_owner d.by me ≡ true = rw d.is at h in
    owned names d.by d.by.form a.what a.thread t a.object a.says a.from has (same_place names.threads (word_at d.by 1) me t who.place q)
called names ls me w t sort m callers.Reader d a who may h =
    let has : has_outcome (makes d.by.form) ≡ true = ap has_outcome d.makes_it ∙ outer_has sort m callers.Reader may refl in
    let q : is_reader d.by me ≡ true = rw d.is at h in
    read_at names d.by.form d.by.values a.what a.thread t a.object me a.says a.from has who.place q

pub named_object : (names : Names) (ls : List Filled) (me w : List ℕ) (t : ℕ) (sort : Sort) → IsMe names me t → (f : Fits ls me w sort) → is_listed InObjects f.made ≡ true
    → NamedObject (objects_from 1 (declarations_of names ls)) ls t sort w (place_in (map subject (filter makes_object ls)) w)
named_object names ls me w t sort who f listed = elim (made_cases ls w f.made f.is) [
  | inl p ↦ absurd (let q : is_listed InObjects mades.Main ≡ true = rw p.1 at listed in cc)
  | inr p ↦
      let d = p.1 in
      let there : makes_object d.by ≡ true = (makes_by f.made d.by d.makes_it).1 listed in
      let a = object_at names w d.by there ls 1 d.is in
      let same : made_as a.object ≡ f.made = made_is a.thread a.what a.object a.from ∙ some_is _ _ (sym (makes_some names d.by a.what a.says) ∙ d.makes_it) in
      record {
        object = a.object;
        is = a.is;
        made = f.is ∙ ap Some (sym same);
        fits = rw (same, f.may) (called names ls me w t sort f.made f.caller d a who f.may f.calls);
        numbers = λ n k under.
            let mk : makes d.by.form ≡ Some mades.Mutex = d.makes_it ∙ ap Some (sym same ∙ k) in
            let at : int_le (number_at d.by 1) (pos n) ≡ false = rw d.is at under in
            mutex_has names d.by d.by.form a.what a.thread a.object n a.says a.from mk at;
      }
]
  where
    some_is : (a b : Made) → Some a ≡ Some b → a ≡ b
    some_is a b e = cc
