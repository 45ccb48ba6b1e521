-- The names of a scenario that a text means: each is a name, none stands twice among the threads' or the objects', and there are as many as threads and objects.
use Rattle.std.proofs.Common.{◌≡◌, ℕ, zero, suc, ◌+◌, ◌<◌, ◌≤◌, pos, negsuc, inl, inr, Bool, true, false, cond, ◌&&◌, ◌||◌, not, List, [], ◌∷◌, ◌++◌, length, map, filter, Option, Some, None, refl, sym, ap, subst, ◌∙◌, arith}
use Rattle.std.specs.Prelude.{is_some, nat_le, slice_get}
use Rattle.std.specs.List.{AllByRecursion, list_any}
use Rattle.std.specs.Str.{bytes_eq}
use Rattle.std.proofs.lemmas.Bool.{cases_Bool, and_parts, leb-true, or_parts, true≢false}
use Rattle.std.proofs.lemmas.Slice.Eq.{bytes_eq-Decides}
use Rattle.cx_machine.specs.declared.kind.Kind.{Kind}
use Rattle.cx_machine.specs.declared.kind.Kind.TheVariants as kinds
use Rattle.cx_text.specs.declared.form.Form.{Form}
use Rattle.cx_text.specs.declared.form.Form.TheVariants as forms
use Rattle.cx_text.specs.declared.form.Made.{Made}
use Rattle.cx_text.specs.declared.form.Made.TheVariants as mades
use Rattle.cx_text.specs.Table.{makes}
use Rattle.cx_text.specs.Words.{Filled, Value, AWord, ANumber, is_name, main_word, scenario_lines}
use Rattle.cx_text.proofs.Rows.{IsWellFilled}
use Rattle.cx_index.specs.Places.{place_of}
use Rattle.cx_scene.specs.declared.declared.Object.{Object}
use Rattle.cx_scene.specs.declared.declared.Object.TheVariants as objects
use Rattle.cx_scene.specs.declared.declared.Thread.{Thread}
use Rattle.cx_scene.specs.Scene.{kind_of}
use Rattle.cx_script.specs.declared.declared.Declared.{Declared}
use Rattle.cx_script.specs.declared.declared.Declared.TheVariants as declared
use Rattle.cx_script.specs.Earlier.{subject}
use Rattle.cx_script.specs.Faults.{is_once_only, is_between, any_outside, has_outside, makes_object, makes_thread}
use Rattle.cx_script.specs.Script.{Declaration, Names, Script, declared_of, declarations_of, is_thread, line, name_at, names_in, names_of, script_of}
use Rattle.cx_script.specs.Numbered.{IsScript, numbered, objects_from, objects_made, thread_step}
use Rattle.cx_script.proofs.Calls.{AreApart}
use Rattle.cx_script.proofs.Canon.{names_back}
use Rattle.cx_script.proofs.Distinct.{all_apart, once_declared}
use Rattle.cx_script.proofs.Objects.{declarations_none, declarations_some}
use Rattle.cx_script.proofs.Sound.{AreFine, IsFine}
use Rattle.cx_script.proofs.Threads.{counts}
use Rattle.cx_script.proofs.Whole.{from_lines}
use Rattle.cx_script.proofs.Written.{AreFilled, IsNamed, all_named, fine_filled}

-- ---- a name is found where it stands

pub place_again : (ns : List (List ℕ)) (i : ℕ) → AreApart ns → i < length ns → place_of ns (name_at ns i) ≡ Some i
place_again [] i h lt = absurd (omega arith)
place_again (n ∷ ns) zero h lt = rw h.1 refl
place_again (n ∷ ns) (suc i) h lt = rw (h.0 i (omega arith), place_again ns i h.2 (omega arith)) refl

name_in : (P : List ℕ → Type 0) (ns : List (List ℕ)) → AllByRecursion P ns → (i : ℕ) → i < length ns → P (name_at ns i)
name_in P [] h i lt = absurd (omega arith)
name_in P (n ∷ ns) h zero lt = h.0
name_in P (n ∷ ns) h (suc i) lt = name_in P ns h.1 i (omega arith)

-- ---- the names of objects are apart

object_declares : (l : Filled) → makes_object l ≡ true → is_some (makes l.form) ≡ true
object_declares l h = at_form l.form l.values h
  where
    at_form : (f : Form) (vs : List Value) → makes_object (line f vs) ≡ true → is_some (makes f) ≡ true
    at_form forms.JThread vs h = refl
    at_form _ vs h = cc

-- a line among these
abbrev IsIn : List Filled → Filled → Type 0
IsIn e l = (test : Filled → Bool) → test l ≡ true → list_any test e ≡ true

in_more : (e : List Filled) (l m : Filled) → IsIn e l → IsIn (e ++ m ∷ []) l
in_more e l m h test t = any_append e m test (h test t)
  where
    any_append : (e : List Filled) (m : Filled) (test : Filled → Bool) → list_any test e ≡ true → list_any test (e ++ m ∷ []) ≡ true
    any_append [] m test h = absurd cc
    any_append (x ∷ e) m test h = elim (cases_Bool (test x)) [ inl a ↦ rw a refl | inr a ↦ let q : list_any test e ≡ true = rw a at h in rw a (any_append e m test q) ]

in_last : (e : List Filled) (l : Filled) → IsIn (e ++ l ∷ []) l
in_last [] l test t = rw t refl
in_last (x ∷ e) l test t = rw (in_last e l test t) (or_true (test x))
  where
    or_true : (b : Bool) → (b || true) ≡ true
    or_true true = refl
    or_true false = refl

-- a name declared again is a fault
names_apart : (e : List Filled) (l m : Filled) → IsIn e l → is_some (makes l.form) ≡ true → is_some (makes m.form) ≡ true → IsFine 1 e m → bytes_eq (subject l) (subject m) ≡ false
names_apart e l m there a b fine = elim (cases_Bool (bytes_eq (subject l) (subject m))) [
  | inr h ↦ h
  | inl h ↦
      let t : (is_once_only l.form m.form && bytes_eq (subject l) (subject m)) ≡ true = rw (once_declared l.form m.form a b, h) refl in
      let some : list_any (λ (k : Filled). is_once_only k.form m.form && bytes_eq (subject k) (subject m)) e ≡ true = there (λ (k : Filled). is_once_only k.form m.form && bytes_eq (subject k) (subject m)) t in
      let none = (or_parts _ _ fine.once).0 in
      let q : false ≡ true = sym none ∙ some in
      cc
]

abbrev object_names : List Filled → List (List ℕ)
object_names ls = map subject (filter makes_object ls)

others : (l : Filled) → makes_object l ≡ true → (ls e : List Filled) → IsIn e l → AreFine 1 e ls → (i : ℕ) → i < length (object_names ls) → bytes_eq (subject l) (name_at (object_names ls) i) ≡ false
others l t [] e there fine i lt = absurd (omega arith)
others l t (m ∷ ls) e there fine i lt = other_at (makes_object m) refl (λ k under. others l t ls (e ++ m ∷ []) (in_more e l m there) fine.1 k under) i lt
  where
    other_at : (b : Bool) → makes_object m ≡ b → ((k : ℕ) → k < length (object_names ls) → bytes_eq (subject l) (name_at (object_names ls) k) ≡ false)
        → (i : ℕ) → i < length (map subject (cond b (m ∷ filter makes_object ls) (filter makes_object ls))) → bytes_eq (subject l) (name_at (map subject (cond b (m ∷ filter makes_object ls) (filter makes_object ls))) i) ≡ false
    other_at true h later zero lt = names_apart e l m there (object_declares l t) (object_declares m h) fine.0
    other_at true h later (suc i) lt = later i (omega arith)
    other_at false h later i lt = later i lt

objects_apart : (ls e : List Filled) → AreFine 1 e ls → AreApart (object_names ls)
objects_apart [] e fine = tt
objects_apart (l ∷ ls) e fine = apart_at (makes_object l) refl (objects_apart ls (e ++ l ∷ []) fine.1)
  where
    apart_at : (b : Bool) → makes_object l ≡ b → AreApart (object_names ls) → AreApart (map subject (cond b (l ∷ filter makes_object ls) (filter makes_object ls)))
    apart_at true h later = ((λ i lt. others l h ls (e ++ l ∷ []) (in_last e l) fine.1 i lt), (bytes_eq-Decides (subject l) (subject l)).1 refl, later)
    apart_at false h later = later

-- ---- they are names

object_named : (f : Form) (vs : List Value) → IsWellFilled scenario_lines 1 (line f vs) → makes_object (line f vs) ≡ true → is_name 1 (subject (line f vs)) ≡ true
object_named forms.JThread (AWord w ∷ vs) fit h = fit.0
object_named forms.JThread _ fit h = absurd (assumption fit)
object_named forms.AsyncReturn (AWord w ∷ vs) fit h = fit.0
object_named forms.AsyncReturn _ fit h = absurd (assumption fit)
object_named forms.AsyncThrow (AWord w ∷ vs) fit h = fit.0
object_named forms.AsyncThrow _ fit h = absurd (assumption fit)
object_named forms.Mutex (AWord w ∷ vs) fit h = fit.0
object_named forms.Mutex _ fit h = absurd (assumption fit)
object_named forms.Recursive (AWord w ∷ vs) fit h = fit.0
object_named forms.Recursive _ fit h = absurd (assumption fit)
object_named forms.Shared (AWord w ∷ vs) fit h = fit.0
object_named forms.Shared _ fit h = absurd (assumption fit)
object_named forms.Semaphore (AWord w ∷ vs) fit h = fit.0
object_named forms.Semaphore _ fit h = absurd (assumption fit)
object_named forms.Latch (AWord w ∷ vs) fit h = fit.0
object_named forms.Latch _ fit h = absurd (assumption fit)
object_named forms.Barrier (AWord w ∷ vs) fit h = fit.0
object_named forms.Barrier _ fit h = absurd (assumption fit)
object_named forms.BarrierRelease (AWord w ∷ vs) fit h = fit.0
object_named forms.BarrierRelease _ fit h = absurd (assumption fit)
object_named forms.BarrierNotifyOne (AWord w ∷ vs) fit h = fit.0
object_named forms.BarrierNotifyOne _ fit h = absurd (assumption fit)
object_named forms.BarrierNotifyAll (AWord w ∷ vs) fit h = fit.0
object_named forms.BarrierNotifyAll _ fit h = absurd (assumption fit)
object_named forms.Once (AWord w ∷ vs) fit h = fit.0
object_named forms.Once _ fit h = absurd (assumption fit)
object_named forms.Condition (AWord w ∷ vs) fit h = fit.0
object_named forms.Condition _ fit h = absurd (assumption fit)
object_named forms.Stop (AWord w ∷ vs) fit h = fit.0
object_named forms.Stop _ fit h = absurd (assumption fit)
object_named forms.Promise (AWord w ∷ vs) fit h = fit.0
object_named forms.Promise _ fit h = absurd (assumption fit)
object_named forms.SharedPromise (AWord w ∷ vs) fit h = fit.0
object_named forms.SharedPromise _ fit h = absurd (assumption fit)
object_named forms.TaskReturn (AWord w ∷ vs) fit h = fit.0
object_named forms.TaskReturn _ fit h = absurd (assumption fit)
object_named forms.TaskThrow (AWord w ∷ vs) fit h = fit.0
object_named forms.TaskThrow _ fit h = absurd (assumption fit)
object_named _ vs fit h = absurd cc

objects_named : (ls : List Filled) → AreFilled ls → AllByRecursion (λ w. is_name 1 w ≡ true) (object_names ls)
objects_named [] h = tt
objects_named (l ∷ ls) h = named_at (makes_object l) refl (objects_named ls h.1)
  where
    named_at : (b : Bool) → makes_object l ≡ b → AllByRecursion (λ w. is_name 1 w ≡ true) (object_names ls) → AllByRecursion (λ w. is_name 1 w ≡ true) (map subject (cond b (l ∷ filter makes_object ls) (filter makes_object ls)))
    named_at true e later = (object_named l.form l.values h.0 e, later)
    named_at false e later = later

threads_named : (ds : List Declaration) → AllByRecursion IsNamed ds → AllByRecursion (λ w. is_name 1 w ≡ true) (map (λ (d : Declaration). d.name) ds)
threads_named [] h = tt
threads_named (d ∷ ds) h = (h.0, threads_named ds h.1)

-- ---- a mutex has few numbers

abbrev IsFew : Object → Type 0
IsFew (objects.Mutex numbers) = numbers ≤ 8
IsFew _ = Unit {0}

few_there : (x : Object) (rec : Bool) (many : ℕ) → IsFew x → kind_of x ≡ kinds.Mutex rec many → many ≤ 8
few_there (objects.Mutex numbers) rec many h e = let same : numbers ≡ many = cc in omega arith
few_there objects.Recursive rec many h e = let same : 0 ≡ many = cc in omega arith
few_there _ rec many h e = absurd cc

few_line : (e : List Filled) (names : Names) (f : Form) (vs : List Value) (many : ℕ) → IsFine 1 e (line f vs) → declared_of names (line f vs) f ≡ Some (declared.Mutex many) → many ≤ 8
few_line e names forms.Mutex (AWord w ∷ ANumber (pos n) ∷ []) many fine says =
    let same : n ≡ many = cc in
    let inside = fine.inside in
    let p = (or_parts (not (is_between (pos 0) (pos 8) (pos n))) false inside).0 in
    let q = and_parts (nat_le 0 n) (nat_le n 8) (unfalse (is_between (pos 0) (pos 8) (pos n)) p) in
    let r = leb-true n 8 q.1 in
    omega arith
  where
    unfalse : (b : Bool) → not b ≡ false → b ≡ true
    unfalse true h = refl
    unfalse false h = absurd (true≢false h)
few_line e names forms.Mutex _ many fine says = absurd (let fit = fine.filled in assumption fit)
few_line e names _ vs many fine says = absurd cc

few_made : (t : ℕ) (what : Declared) → ((many : ℕ) → what ≡ declared.Mutex many → many ≤ 8) → (rest : List Object) → AllByRecursion IsFew rest → AllByRecursion IsFew (objects_made t what ++ rest)
few_made t (declared.Mutex many) h rest k = (h many refl, k)
few_made t declared.Thread h rest k = k
few_made t (declared.Callback stop action) h rest k = k
few_made t _ h rest k = (tt, k)

few_objects : (names : Names) (ls e : List Filled) (t : ℕ) → AreFine 1 e ls → AllByRecursion IsFew (objects_from t (declarations_of names ls))
few_objects names [] e t fine = tt
few_objects names (l ∷ ls) e t fine = one (λ u. few_objects names ls (e ++ l ∷ []) u fine.1) (declared_of names l l.form) refl
  where
    one : ((u : ℕ) → AllByRecursion IsFew (objects_from u (declarations_of names ls))) → (o : Option Declared) → declared_of names l l.form ≡ o → AllByRecursion IsFew (objects_from t (declarations_of names (l ∷ ls)))
    one later None says = subst (λ (ds : List Declaration). AllByRecursion IsFew (objects_from t ds)) (sym (declarations_none names l ls says)) (later t)
    one later (Some what) says =
        subst (λ (ds : List Declaration). AllByRecursion IsFew (objects_from t ds)) (sym (declarations_some names l ls what says))
        (few_made t what (λ many same. few_line e names l.form l.values many fine.0 (says ∙ ap (λ (x : Declared). Some x) same)) (objects_from (t + thread_step what) (declarations_of names ls)) (later (t + thread_step what)))

few_at : (xs : List Object) → AllByRecursion IsFew xs → (i : ℕ) (x : Object) → slice_get xs i ≡ Some x → IsFew x
few_at [] h i x e = absurd cc
few_at (y ∷ xs) h zero x e = let same : y ≡ x = cc in subst (λ (z : Object). IsFew z) same h.0
few_at (y ∷ xs) h (suc i) x e = few_at xs h.1 i x e

-- ---- all of it

pub record AreKnown (s : Script) : Type 0 where
  pub thread_called : (t : ℕ) → t < length (names_in s).threads → place_of (names_in s).threads (name_at (names_in s).threads t) ≡ Some t
  pub thread_named : (t : ℕ) → 0 < t → t < length (names_in s).threads → is_name 1 (name_at (names_in s).threads t) ≡ true
  pub object_called : (o : ℕ) → o < length (names_in s).objects → place_of (names_in s).objects (name_at (names_in s).objects o) ≡ Some o
  pub object_named : (o : ℕ) → o < length (names_in s).objects → is_name 1 (name_at (names_in s).objects o) ≡ true
  pub threads_count : length (names_in s).threads ≡ length (numbered s).threads
  pub objects_count : length (names_in s).objects ≡ length (numbered s).objects
  pub few : (o : ℕ) (x : Object) (rec : Bool) (many : ℕ) → slice_get (numbered s).objects o ≡ Some x → kind_of x ≡ kinds.Mutex rec many → many ≤ 8

length_map : (ls : List Filled) → length (map subject ls) ≡ length ls
length_map [] = refl
length_map (l ∷ ls) = ap suc (length_map ls)

known_lines : (ls : List Filled) → AreFine 1 [] ls → AreKnown (script_of 1 ls)
known_lines ls fine =
    let n = names_of ls in
    let same : names_in (script_of 1 ls) ≡ n = names_back 1 ls in
    let filled = fine_filled [] ls fine in
    let apart : AreApart n.threads = all_apart 1 ls fine in
    let own : AreApart n.objects = objects_apart ls [] fine in
    let named : AllByRecursion (λ w. is_name 1 w ≡ true) n.objects = objects_named ls filled in
    let c = counts n ls in
    record {
      thread_called = λ t lt. subst (λ (x : Names). t < length x.threads → place_of x.threads (name_at x.threads t) ≡ Some t) (sym same) (place_again n.threads t apart) lt;
      thread_named = λ t some lt. later t some lt;
      object_called = λ o lt. subst (λ (x : Names). o < length x.objects → place_of x.objects (name_at x.objects o) ≡ Some o) (sym same) (place_again n.objects o own) lt;
      object_named = λ o lt. subst (λ (x : Names). o < length x.objects → is_name 1 (name_at x.objects o) ≡ true) (sym same) (name_in (λ w. is_name 1 w ≡ true) n.objects named o) lt;
      threads_count = ap (λ (x : Names). length x.threads) same ∙ ap suc (length_map (filter makes_thread ls) ∙ sym (c.threads 0));
      objects_count = ap (λ (x : Names). length x.objects) same ∙ length_map (filter makes_object ls) ∙ sym (c.objects 1);
      few = λ o x rec many at e. few_there x rec many (few_at _ (few_objects n ls [] 1 fine) o x at) e;
    }
  where
    threads_are : AllByRecursion (λ w. is_name 1 w ≡ true) (map (λ (d : Declaration). d.name) (filter is_thread (script_of 1 ls).declarations))
    threads_are = threads_named (filter is_thread (script_of 1 ls).declarations) (all_named ls ls (fine_filled [] ls fine))

    later : (t : ℕ) → 0 < t → t < length (names_in (script_of 1 ls)).threads → is_name 1 (name_at (names_in (script_of 1 ls)).threads t) ≡ true
    later zero some lt = absurd (omega arith)
    later (suc t) some lt = name_in (λ w. is_name 1 w ≡ true) _ threads_are t (omega arith)

pub names_known : (s : Script) → IsScript s → AreKnown s
names_known s h = let f = from_lines h.limit h.text s h.means in subst (λ (x : Script). AreKnown x) (sym f.is) (known_lines f.ls f.whole.fine)
