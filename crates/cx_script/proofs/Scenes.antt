-- A scenario that a text means is within its limits, and its calls fit.
use Rattle.std.proofs.Common.{◌≡◌, ℕ, zero, suc, ◌<◌, ◌≤◌, ◌⊎◌, inl, inr, true, false, List, [], ◌∷◌, length, map, filter, Some, None, refl, sym, ap, ◌∙◌, arith}
use Rattle.std.specs.Prelude.{slice_get}
use Rattle.std.specs.List.{list_all, flat_map}
use Rattle.cx_scene.specs.declared.call.Call.{Call}
use Rattle.cx_scene.specs.Scene.{Scene, body_of}
use Rattle.cx_text.specs.Words.{Filled, fields_in}
use Rattle.cx_script.specs.Earlier.{made_of, subject}
use Rattle.cx_script.specs.Faults.{makes_thread}
use Rattle.cx_script.specs.Script.{Script, names_of, name_at, as_list, call_of, calls_of}
use Rattle.cx_script.specs.Numbered.{IsScript, numbered}
use Rattle.cx_script.specs.WellFormed.{IsScene, fits_call}
use Rattle.cx_script.proofs.Calls.{AreApart, place_back}
use Rattle.cx_script.proofs.Blocks.{raw_calls, call_part}
use Rattle.cx_script.proofs.Found.{all_found}
use Rattle.cx_script.proofs.Forth.{CallForth, call_forth}
use Rattle.cx_script.proofs.Objects.{IsMe}
use Rattle.cx_script.proofs.Threads.{counts}
use Rattle.cx_script.proofs.Settled.{IsSettled, AreSettled}
use Rattle.cx_script.proofs.Fitting.{scene, all_named, fits_at}
use Rattle.cx_script.proofs.Distinct.{few_threads, few_objects, few_callbacks, all_apart}
use Rattle.cx_script.proofs.Whole.{IsWhole, from_lines, Parts, parts_of, raw_known}

-- ---- one thread

-- the call that a settled line says
pub settled_forth : (ls : List Filled) (me : List ℕ) (l : Filled) → IsSettled 1 ls me l → CallForth (names_of ls) (made_of ls (subject l)) l
settled_forth ls me l h = call_forth 1 (names_of ls) (made_of ls (subject l)) l h.filled (all_found ls ls me (fields_in l) l.values (λ u m e. e) h.kind) (call_part l h.call)

-- the calls that lines say
abbrev pub calls_by : List Filled → List Filled → List Call
calls_by ls cs = flat_map (λ (l : Filled). as_list (call_of (names_of ls) (made_of ls (subject l)) l l.form)) cs

pub calls_cons : (ls : List Filled) (l : Filled) (cs : List Filled) (c : Call) → call_of (names_of ls) (made_of ls (subject l)) l l.form ≡ Some c → calls_by ls (l ∷ cs) ≡ c ∷ calls_by ls cs
calls_cons ls l cs c e = rw e refl

fits_all : (ls : List Filled) (me : List ℕ) (t : ℕ) → IsMe (names_of ls) me t → (cs : List Filled) → AreSettled 1 ls me cs → (list_all (fits_call (scene 1 ls) t) (calls_by ls cs) ≡ true) × (length (calls_by ls cs) ≡ length cs)
fits_all ls me t who [] h = (refl, refl)
fits_all ls me t who (l ∷ cs) h =
    let f = settled_forth ls me l h.0 in
    let one : fits_call (scene 1 ls) t f.call ≡ true = fits_at 1 ls me t l.form l.values h.0.filled (all_named 1 ls me t who (fields_in l) l.values h.0.kind) h.0.inside (call_part l h.0.call) f.call f.is in
    let rest = fits_all ls me t who cs h.1 in
    let e = calls_cons ls l cs f.call f.is in
    (ap (λ (xs : List Call). list_all (fits_call (scene 1 ls) t) xs) e ∙ rw one rest.0, ap (λ (xs : List Call). length xs) e ∙ ap suc rest.1)

-- ---- all threads

-- the body of a number: that of a name, or nothing
body_at : {A : Type 0} (f : List ℕ → A) (ns : List (List ℕ)) (t : ℕ) → (slice_get (map f ns) t ≡ None) ⊎ ((t < length ns) × (slice_get (map f ns) t ≡ Some (f (name_at ns t))))
body_at f [] t = inl refl
body_at f (n ∷ ns) zero = inr (omega arith, refl)
body_at f (n ∷ ns) (suc t) = elim (body_at f ns t) [ inl h ↦ inl h | inr h ↦ inr ((let under = h.0 in omega arith), h.1) ]

no_body : (s : Scene) (t : ℕ) → slice_get s.bodies t ≡ None → body_of s t ≡ []
no_body s t e = rw e refl

some_body : (s : Scene) (t : ℕ) (cs : List Call) → slice_get s.bodies t ≡ Some cs → body_of s t ≡ cs
some_body s t cs e = rw e refl

is_me : (ls : List Filled) → AreApart (names_of ls).threads → (t : ℕ) → t < length (names_of ls).threads → IsMe (names_of ls) (name_at (names_of ls).threads t) t
is_me ls h zero lt = record { place = place_back (names_of ls).threads zero h lt; main = λ e. refl }
is_me ls h (suc t) lt = record { place = place_back (names_of ls).threads (suc t) h lt; main = λ e. absurd (let k = h.0 t (omega arith) in let q : false ≡ true = sym k ∙ e in cc) }

-- a body of the scenario: few calls that fit
pub record Good (s : Scene) (t : ℕ) : Type 0 where
  pub few : length (body_of s t) ≤ 4096
  pub calls : list_all (fits_call s t) (body_of s t) ≡ true

good_body : (ls : List Filled) → IsWhole ls → Parts ls → (t : ℕ) → Good (scene 1 ls) t
good_body ls w p t = elim (body_at (calls_of (names_of ls) ls) (names_of ls).threads t) [
  | inl h ↦ let e = no_body (scene 1 ls) t h in record { few = rw e (omega arith); calls = rw e refl }
  | inr h ↦
      let me = name_at (names_of ls).threads t in
      let k = raw_known ls p me in
      let r = fits_all ls me t (is_me ls (all_apart 1 ls w.fine) t h.0) (raw_calls ls me) k.settled in
      let e = some_body (scene 1 ls) t (calls_of (names_of ls) ls me) h.1 in
      let few = k.few in
      let long = r.1 in
      record { few = rw e (omega arith); calls = rw e r.0 }
]

map_length : {A B : Type 0} (f : A → B) (xs : List A) → length (map f xs) ≡ length xs
map_length f [] = refl
map_length f (x ∷ xs) = ap suc (map_length f xs)

scene_good : (ls : List Filled) → IsWhole ls → IsScene (scene 1 ls)
scene_good ls w =
    let p = parts_of ls w in
    let c = counts (names_of ls) ls in
    let a = c.threads 0 in
    let b = c.objects 1 in
    let d = c.callbacks in
    let ft = few_threads 1 ls w.fine in
    let fo = few_objects 1 ls w.fine in
    let fc = few_callbacks 1 ls w.fine in
    let m : length (map (calls_of (names_of ls) ls) (names_of ls).threads) ≡ length (names_of ls).threads = map_length _ (names_of ls).threads in
    let n : length (map subject (filter makes_thread ls)) ≡ length (filter makes_thread ls) = map_length subject (filter makes_thread ls) in
    record {
      threads = omega arith;
      objects = omega arith;
      callbacks = omega arith;
      bodies = m ∙ ap suc (n ∙ sym a);
      few = λ t. (good_body ls w p t).few;
      calls = λ t. (good_body ls w p t).calls;
    }

pub script_is_scene : (s : Script) → IsScript s → IsScene (numbered s)
script_is_scene s h = let f = from_lines h.limit h.text s h.means in rw f.is (scene_good f.ls f.whole)
