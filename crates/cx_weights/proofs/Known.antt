-- In a scenario that a text means each call finds what it registers or launches, and an async has no calls.
use Rattle.std.proofs.Common.{◌≡◌, ℕ, zero, suc, ◌+◌, ◌<◌, inl, inr, true, List, [], ◌∷◌, ◌++◌, map, filter, length, Option, Some, None, slice_get, refl, sym, ap, ◌∙◌, subst, arith, ltb-true}
use Rattle.std.specs.Prelude.{is_some}
use Rattle.std.specs.List.{AllByRecursion, list_all}
use Rattle.std.specs.Str.{bytes_eq}
use Rattle.std.proofs.lemmas.Bool.{and_parts, cases_Bool}
use Rattle.std.proofs.lemmas.Slice.Eq.{bytes_eq-Decides}
use Rattle.cx_names.specs.declared.ObjectNo.{ObjectNo}
use Rattle.cx_scene.specs.declared.declared.Object.{Object}
use Rattle.cx_scene.specs.declared.declared.Object.TheVariants as objects
use Rattle.cx_scene.specs.declared.declared.Thread.{Thread}
use Rattle.cx_scene.specs.declared.declared.Thread.TheVariants as threads
use Rattle.cx_scene.specs.declared.call.Call.{Call}
use Rattle.cx_scene.specs.declared.call.Call.TheVariants as calls
use Rattle.cx_scene.specs.Scene.{Scene, body_of}
use Rattle.cx_text.specs.declared.form.Made.{Made}
use Rattle.cx_text.specs.declared.form.Made.TheVariants as mades
use Rattle.cx_text.specs.declared.form.Sort.TheVariants as sorts
use Rattle.cx_text.specs.Table.{who_may}
use Rattle.cx_text.specs.Words.{Filled}
use Rattle.cx_script.specs.declared.declared.Declared.{Declared}
use Rattle.cx_script.specs.declared.declared.Declared.TheVariants as declared
use Rattle.cx_script.specs.Earlier.{made_of, subject}
use Rattle.cx_script.specs.Faults.{makes_thread}
use Rattle.cx_script.specs.Script.{Script, Declaration, names_of, declarations_of, calls_of, makes_of, is_thread}
use Rattle.cx_script.specs.Numbered.{IsScript, numbered, threads_made, threads_from, object_step}
use Rattle.cx_script.specs.WellFormed.{object_fits, fits_call, IsScene}
use Rattle.cx_script.proofs.Shape.{Block}
use Rattle.cx_script.proofs.Blocks.{raw_calls, lookup}
use Rattle.cx_script.proofs.Settled.{IsBlock}
use Rattle.cx_script.proofs.Fitting.{scene}
use Rattle.cx_script.proofs.Scenes.{calls_by, script_is_scene}
use Rattle.cx_script.proofs.Canon.{threads_of}
use Rattle.cx_script.proofs.Again.{IsOwn, threads_own, threads_named}
use Rattle.cx_script.proofs.Whole.{IsWhole, parts_of, from_lines, raw_other}
use Rattle.cx_weights.proofs.Scripts.{some_body}
use Rattle.cx_weights.proofs.Agendas.{is_async, is_found}
use Rattle.cx_weights.proofs.Leading.{Finds}

-- ---- what calls register and launch

one_less : (i n : ℕ) → suc i < suc n → i < n
one_less i n h = omega (arith, h)

below_nothing : (i : ℕ) → i < 0 → ⊥
below_nothing i h = omega (arith, h)

some_at : {X : Type 0} (xs : List X) (i : ℕ) → i < length xs → is_some (slice_get xs i) ≡ true
some_at [] i h = absurd (below_nothing i h)
some_at (x ∷ xs) zero h = refl
some_at (x ∷ xs) (suc i) h = some_at xs i (one_less i (length xs) h)

async_there : (t : ℕ) (x : Option Object) → object_fits t sorts.Launched x ≡ true → is_async x ≡ true
async_there t (Some (objects.Async policy f u)) h = refl
async_there t _ h = cc

found_call : (s : Scene) (t : ℕ) (c : Call) → fits_call s t c ≡ true → is_found s c ≡ true
found_call s t (calls.Register k) h = some_at s.callbacks k.0 (ltb-true k.0 (length s.callbacks) h)
found_call s t (calls.Deregister k) h = some_at s.callbacks k.0 (ltb-true k.0 (length s.callbacks) h)
found_call s t (calls.Launch a) h = async_there t (slice_get s.objects a.0) h
found_call s t _ h = refl

found_calls : (s : Scene) (t : ℕ) (cs : List Call) → list_all (fits_call s t) cs ≡ true → list_all (is_found s) cs ≡ true
found_calls s t [] h = refl
found_calls s t (c ∷ cs) h =
    let p = and_parts (fits_call s t c) (list_all (fits_call s t) cs) h in
    rw (found_call s t c p.0, found_calls s t cs p.1) refl

-- ---- the thread of an async

-- thread i of those that are declared is an async's
record IsAsyncAt (ds : List Declaration) (i : ℕ) : Type 0 where
  pub by : Declaration
  pub is : slice_get (filter is_thread ds) i ≡ Some by
  pub makes : makes_of by.what ≡ mades.Async

async_one : (name : List ℕ) (what : Declared) (ds : List Declaration) (rest : List Thread) (o i : ℕ) (u : ObjectNo) → ((j : ℕ) → slice_get rest j ≡ Some (threads.Launched u) → IsAsyncAt ds j)
    → slice_get (threads_made o what ++ rest) i ≡ Some (threads.Launched u) → IsAsyncAt (record { name = name; what = what } ∷ ds) i
async_one name declared.Thread ds rest o zero u later e = cc
async_one name declared.Thread ds rest o (suc i) u later e = let r = later i e in record { by = r.by; is = r.is; makes = r.makes }
async_one name declared.JThread ds rest o zero u later e = cc
async_one name declared.JThread ds rest o (suc i) u later e = let r = later i e in record { by = r.by; is = r.is; makes = r.makes }
async_one name (declared.Async policy f) ds rest o zero u later e = record { by = record { name = name; what = declared.Async policy f }; is = refl; makes = refl }
async_one name (declared.Async policy f) ds rest o (suc i) u later e = let r = later i e in record { by = r.by; is = r.is; makes = r.makes }
async_one name _ ds rest o i u later e = let r = later i e in record { by = r.by; is = r.is; makes = r.makes }

async_at : (ds : List Declaration) (o i : ℕ) (u : ObjectNo) → slice_get (threads_from o ds) i ≡ Some (threads.Launched u) → IsAsyncAt ds i
async_at [] o i u e = cc
async_at (d ∷ ds) o i u e = async_one d.name d.what ds (threads_from (o + object_step d.what) ds) o i u (λ j k. async_at ds (o + object_step d.what) j u k) e

all_at : {X : Type 0} (P : X → Type 0) (xs : List X) (i : ℕ) (x : X) → AllByRecursion P xs → slice_get xs i ≡ Some x → P x
all_at P [] i x h e = cc
all_at P (y ∷ ys) zero x h e = let same : y ≡ x = cc in subst P same h.0
all_at P (y ∷ ys) (suc i) x h e = all_at P ys i x h.1 e

named_at : (f : List ℕ → List Call) (ds : List Declaration) (i : ℕ) (d : Declaration) → slice_get ds i ≡ Some d → slice_get (map f (map (λ (x : Declaration). x.name) ds)) i ≡ Some (f d.name)
named_at f [] i d e = cc
named_at f (x ∷ ds) zero d e = let same : x ≡ d = cc in ap (λ (y : Declaration). Some (f y.name)) same
named_at f (x ∷ ds) (suc i) d e = named_at f ds i d e

some_made : (a b : Made) → Some a ≡ Some b → a ≡ b
some_made a b e = cc

-- no body has the name of an async
no_block : (ls : List Filled) (bs : List Block) (name : List ℕ) → AllByRecursion (IsBlock 1 ls) bs → made_of ls name ≡ Some mades.Async → lookup bs name ≡ []
no_block ls [] name h m = refl
no_block ls (b ∷ bs) name h m = elim (cases_Bool (bytes_eq b.name name)) [
  | inr e ↦ rw e (no_block ls bs name h.1 m)
  | inl e ↦
      let q : b.name ≡ name = (bytes_eq-Decides b.name name).0 e in
      let k : h.0.fits.made ≡ mades.Async = some_made _ _ (sym h.0.fits.is ∙ rw q m) in
      let none : None ≡ Some h.0.fits.caller = subst (λ x. who_may sorts.Bodied x ≡ Some h.0.fits.caller) k h.0.fits.may in
      absurd cc
]

no_calls : (ls : List Filled) → IsWhole ls → (i : ℕ) (u : ObjectNo) → slice_get (threads_from 0 (declarations_of (names_of ls) ls)) i ≡ Some (threads.Launched u) → body_of (scene 1 ls) (suc i) ≡ []
no_calls ls w i u e =
    let p = parts_of ls w in
    let a = async_at (declarations_of (names_of ls) ls) 0 i u e in
    let own : IsOwn ls a.by = all_at (IsOwn ls) (threads_of ls) i a.by (threads_own ls w) a.is in
    let raw : raw_calls ls a.by.name ≡ [] = raw_other ls p a.by.name own.other ∙ no_block ls p.shape.blocks a.by.name p.blocks (own.made ∙ ap Some a.makes) in
    let none : calls_of (names_of ls) ls a.by.name ≡ [] = ap (calls_by ls) raw in
    let named : slice_get (map (calls_of (names_of ls) ls) (map (λ (x : Declaration). x.name) (threads_of ls))) i ≡ Some (calls_of (names_of ls) ls a.by.name) = named_at (calls_of (names_of ls) ls) (threads_of ls) i a.by a.is in
    let body : slice_get (map (calls_of (names_of ls) ls) (map subject (filter makes_thread ls))) i ≡ Some (calls_of (names_of ls) ls a.by.name) = subst (λ (ns : List (List ℕ)). slice_get (map (calls_of (names_of ls) ls) ns) i ≡ Some (calls_of (names_of ls) ls a.by.name)) (threads_named ls) named in
    some_body (scene 1 ls) (suc i) (calls_of (names_of ls) ls a.by.name) body ∙ none

idle : (ls : List Filled) → IsWhole ls → (t : ℕ) (u : ObjectNo) → slice_get (scene 1 ls).threads t ≡ Some (threads.Launched u) → body_of (scene 1 ls) t ≡ []
idle ls w zero u e = cc
idle ls w (suc i) u e = no_calls ls w i u e

lines_find : (ls : List Filled) → IsWhole ls → IsScene (scene 1 ls) → Finds (scene 1 ls)
lines_find ls w is = record { calls = λ t. found_calls (scene 1 ls) t (body_of (scene 1 ls) t) (is.calls t); launched = λ t u e. idle ls w t u e }

pub script_finds : (s : Script) → IsScript s → Finds (numbered s)
script_finds s h = let f = from_lines h.limit h.text s h.means in rw f.is (lines_find f.ls f.whole (subst (λ (v : Script). IsScene (numbered v)) f.is (script_is_scene s h)))
