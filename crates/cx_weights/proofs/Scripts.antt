-- A scenario that a text means is small.
use Rattle.std.proofs.Common.{◌≡◌, ℕ, zero, suc, ◌<◌, ◌&&◌, ◌⊎◌, inl, inr, nat_lt, Bool, true, List, [], ◌∷◌, length, map, replicate, min, max, Option, Some, None, slice_get, refl, sym, ap, ◌∙◌, subst, arith, lt-ltb}
use Rattle.std.specs.List.{list_all}
use Rattle.cx_names.specs.declared.ObjectNo.{ObjectNo}
use Rattle.cx_scene.specs.declared.call.Call.{Call}
use Rattle.cx_scene.specs.Scene.{Scene, body_of}
use Rattle.cx_text.specs.declared.form.Form.{Form}
use Rattle.cx_text.specs.declared.form.Form.TheVariants as forms
use Rattle.cx_text.specs.declared.form.Field.TheVariants as fields
use Rattle.cx_text.specs.declared.form.Sort.{Sort}
use Rattle.cx_text.specs.declared.form.Sort.TheVariants as sorts
use Rattle.cx_text.specs.declared.form.Made.{Made}
use Rattle.cx_text.specs.declared.form.Made.TheVariants as mades
use Rattle.cx_text.specs.Words.{Filled, Value, scenario_lines}
use Rattle.cx_text.proofs.Fields.{FitFields}
use Rattle.cx_text.proofs.Rows.{IsWellFilled}
use Rattle.cx_script.specs.Earlier.{made_of, subject, word_in}
use Rattle.cx_script.specs.Script.{Script, Names, names_of, name_at, place_in, call_of, calls_of, line, if_recursive, waits_on, meets_at, drops_of}
use Rattle.cx_script.specs.Numbered.{IsScript, numbered}
use Rattle.cx_script.proofs.Blocks.{raw_calls}
use Rattle.cx_script.proofs.Settled.{AreSettled}
use Rattle.cx_script.proofs.Fitting.{scene}
use Rattle.cx_script.proofs.Scenes.{settled_forth, calls_by, calls_cons, script_is_scene}
use Rattle.cx_script.proofs.Whole.{from_lines, Parts, parts_of, raw_known}
use Rattle.cx_weights.specs.Weights.{is_sized_call}
use Rattle.cx_weights.specs.Laws.{IsSmall}

-- ---- two to four names

each_count : (version : ℕ) (own : List ℕ) (k : ℕ) (sort : Sort) (vs : List Value) → FitFields version own (replicate k (fields.Each sort)) vs → length vs ≡ k
each_count version own zero sort [] fit = refl
each_count version own zero sort (v ∷ vs) fit = absurd fit
each_count version own (suc k) sort [] fit = absurd fit
each_count version own (suc k) sort (v ∷ vs) fit = ap suc (each_count version own k sort vs fit.1)

map_length : {A B : Type 0} (f : A → B) (xs : List A) → length (map f xs) ≡ length xs
map_length f [] = refl
map_length f (x ∷ xs) = ap suc (map_length f xs)

record Between (n : ℕ) : Type 0 where
  pub one : 0 < n
  pub two : 1 < n
  pub few : n < 6

between : (n : ℕ) → n ≡ max 2 (min n 4) → Between n
between n e = record { one = omega (arith, e); two = omega (arith, e); few = omega (arith, e) }

places_between : (names : Names) (vs : List Value) → Between (length vs) → Between (length (map (place_in names.objects) (map (λ v. word_in (Some v)) vs)))
places_between names vs b = subst Between (sym (map_length (place_in names.objects) (map (λ v. word_in (Some v)) vs) ∙ map_length (λ v. word_in (Some v)) vs)) b

sized_two : (n : ℕ) → Between n → (nat_lt 1 n && nat_lt n 6) ≡ true
sized_two n b = rw (lt-ltb 1 n b.two, lt-ltb n 6 b.few) refl

sized_one : (n : ℕ) → Between n → (nat_lt 0 n && nat_lt n 6) ≡ true
sized_one n b = rw (lt-ltb 0 n b.one, lt-ltb n 6 b.few) refl

-- ---- the call of a line

abbrev sized_of : Option Call → Bool
sized_of None = true
sized_of (Some c) = is_sized_call c

if_sized : (k : Option Made) (a b : Call) → is_sized_call a ≡ true → is_sized_call b ≡ true → is_sized_call (if_recursive k a b) ≡ true
if_sized None a b h k = k
if_sized (Some mades.Recursive) a b h k = h
if_sized (Some _) a b h k = k

waits_sized : (k : Option Made) (o : ObjectNo) → is_sized_call (waits_on k o) ≡ true
waits_sized None o = refl
waits_sized (Some mades.Latch) o = refl
waits_sized (Some mades.Barrier) o = refl
waits_sized (Some _) o = refl

meets_sized : (k : Option Made) (o : ObjectNo) → is_sized_call (meets_at k o) ≡ true
meets_sized None o = refl
meets_sized (Some mades.Latch) o = refl
meets_sized (Some _) o = refl

drops_sized : (k : Option Made) (o : ObjectNo) → is_sized_call (drops_of k o) ≡ true
drops_sized None o = refl
drops_sized (Some mades.Stop) o = refl
drops_sized (Some mades.Async) o = refl
drops_sized (Some _) o = refl

sized_at : (names : Names) (k : Option Made) (f : Form) (vs : List Value) → IsWellFilled scenario_lines 1 (line f vs) → sized_of (call_of names k (line f vs) f) ≡ true
sized_at names k forms.LockAll vs fit = let n = each_count 1 _ (max 2 (min (length vs) 4)) sorts.Mutexes vs fit in sized_two (length (map (place_in names.objects) (map (λ v. word_in (Some v)) vs))) (places_between names vs (between (length vs) n))
sized_at names k forms.TryLockAll vs fit = let n = each_count 1 _ (max 2 (min (length vs) 4)) sorts.Mutexes vs fit in sized_one (length (map (place_in names.objects) (map (λ v. word_in (Some v)) vs))) (places_between names vs (between (length vs) n))
sized_at names k forms.Lock vs fit = if_sized k _ _ refl refl
sized_at names k forms.TryLock vs fit = if_sized k _ _ refl refl
sized_at names k forms.Wait vs fit = waits_sized k _
sized_at names k forms.ArriveAndWait vs fit = meets_sized k _
sized_at names k forms.Drop vs fit = drops_sized k _
sized_at names k _ vs fit = refl

sized_said : (o : Option Call) (c : Call) → sized_of o ≡ true → o ≡ Some c → is_sized_call c ≡ true
sized_said o c h e = subst (λ x. sized_of x ≡ true) e h

sized_all : (ls : List Filled) (me : List ℕ) (cs : List Filled) → AreSettled 1 ls me cs → list_all is_sized_call (calls_by ls cs) ≡ true
sized_all ls me [] h = refl
sized_all ls me (l ∷ cs) h =
    let f = settled_forth ls me l h.0 in
    let whole = call_of (names_of ls) (made_of ls (subject l)) l l.form in
    let one : is_sized_call f.call ≡ true = sized_said whole f.call (sized_at (names_of ls) (made_of ls (subject l)) l.form l.values h.0.filled) f.is in
    let rest = sized_all ls me cs h.1 in
    let e = calls_cons ls l cs f.call f.is in
    ap (λ (xs : List Call). list_all is_sized_call xs) e ∙ rw one rest

-- ---- all bodies

body_at : {A : Type 0} (f : List ℕ → A) (ns : List (List ℕ)) (t : ℕ) → (slice_get (map f ns) t ≡ None) ⊎ (slice_get (map f ns) t ≡ Some (f (name_at ns t)))
body_at f [] t = inl refl
body_at f (n ∷ ns) zero = inr refl
body_at f (n ∷ ns) (suc t) = body_at f ns t

no_body : (s : Scene) (t : ℕ) → slice_get s.bodies t ≡ None → body_of s t ≡ []
no_body s t e = rw e refl

pub some_body : (s : Scene) (t : ℕ) (cs : List Call) → slice_get s.bodies t ≡ Some cs → body_of s t ≡ cs
some_body s t cs e = rw e refl

sized_body : (ls : List Filled) → Parts ls → (t : ℕ) → list_all is_sized_call (body_of (scene 1 ls) t) ≡ true
sized_body ls p t = elim (body_at (calls_of (names_of ls) ls) (names_of ls).threads t) [
  | inl h ↦ let e = no_body (scene 1 ls) t h in rw e refl
  | inr h ↦
      let me = name_at (names_of ls).threads t in
      let k = raw_known ls p me in
      let r = sized_all ls me (raw_calls ls me) k.settled in
      let e = some_body (scene 1 ls) t (calls_of (names_of ls) ls me) h in
      rw e r
]

pub script_is_small : (s : Script) → IsScript s → IsSmall (numbered s)
script_is_small s h =
    let good = script_is_scene s h in
    let f = from_lines h.limit h.text s h.means in
    record {
      threads = good.threads;
      objects = good.objects;
      few = good.few;
      sized = λ t. rw f.is (sized_body f.ls (parts_of f.ls f.whole) t);
    }
