-- A scenario that a text means is askable.
use Rattle.std.proofs.Common.{◌≡◌, ℕ, zero, suc, ◌+◌, ◌≤◌, inl, inr, ◌⊎◌, true, List, [], ◌∷◌, length, map, Some, None, slice_get, refl, sym, ap, subst, ◌∙◌, arith}
use Rattle.std.specs.List.{list_all}
use Rattle.cx_scene.specs.declared.call.Call.{Call}
use Rattle.cx_scene.specs.Scene.{Scene, body_of}
use Rattle.cx_text.specs.Words.{Filled, main_word}
use Rattle.cx_script.specs.Script.{Script, names_of, name_at, declarations_of, calls_of}
use Rattle.cx_script.specs.Numbered.{IsScript, numbered}
use Rattle.cx_script.specs.WellFormed.{IsScene}
use Rattle.cx_script.proofs.Fitting.{scene}
use Rattle.cx_script.proofs.Blocks.{raw_calls}
use Rattle.cx_script.proofs.Scenes.{script_is_scene}
use Rattle.cx_script.proofs.Sum.{total}
use Rattle.cx_script.proofs.Whole.{IsWhole, from_lines, Parts, parts_of, raw_known}
use Rattle.cx_asks.specs.Scenes.{is_object_now, is_thread_now, takings, taken_in, taken_below, count_at, startings, IsAskable}
use Rattle.cx_askable.proofs.Calls.{is_kept, calls_fit}
use Rattle.cx_askable.proofs.Completions.{completed, completed_objects}
use Rattle.cx_askable.proofs.Lines.{IsOnce, all_once, all_raw, all_kept}
use Rattle.cx_askable.proofs.Totals.{sum_below, sum_of, sum_at_most, main_total, threads_total}
use Rattle.cx_askable.proofs.Latches.{weight_at, calls_take, total_within}
use Rattle.cx_askable.proofs.Starts.{start_weight, started_once, calls_start}

-- ---- bodies

body_at : {A : Type 0} (f : List ℕ → A) (ns : List (List ℕ)) (t : ℕ) → (slice_get (map f ns) t ≡ None) ⊎ (slice_get (map f ns) t ≡ Some (f (name_at ns t)))
body_at f [] t = inl refl
body_at f (n ∷ ns) zero = inr refl
body_at f (n ∷ ns) (suc t) = body_at f ns t

no_body : (s : Scene) (t : ℕ) → slice_get s.bodies t ≡ None → body_of s t ≡ []
no_body s t e = rw e refl

some_body : (s : Scene) (t : ℕ) (cs : List Call) → slice_get s.bodies t ≡ Some cs → body_of s t ≡ cs
some_body s t cs e = rw e refl

map_length : {A B : Type 0} (f : A → B) (xs : List A) → length (map f xs) ≡ length xs
map_length f [] = refl
map_length f (x ∷ xs) = ap suc (map_length f xs)

map_at : {A B : Type 0} (f : A → B) (xs : List A) (i : ℕ) (x : A) → slice_get xs i ≡ Some x → slice_get (map f xs) i ≡ Some (f x)
map_at f [] i x e = cc
map_at f (y ∷ ys) zero x e = let same : y ≡ x = cc in ap (λ z. Some (f z)) same
map_at f (y ∷ ys) (suc i) x e = map_at f ys i x e

-- ---- one text

module _ (ls : List Filled) (w : IsWhole ls) where
  kept_body : (p : Parts ls) (t : ℕ) → list_all is_kept (body_of (scene 1 ls) t) ≡ true
  kept_body p t = elim (body_at (calls_of (names_of ls) ls) (names_of ls).threads t) [
    | inl h ↦ let e = no_body (scene 1 ls) t h in rw e refl
    | inr h ↦
        let me = name_at (names_of ls).threads t in
        let k = raw_known ls p me in
        let once = all_raw IsOnce ls p me (all_once ls [] w.fine) in
        let r = all_kept ls me (raw_calls ls me) k.settled once in
        let e = some_body (scene 1 ls) t (calls_of (names_of ls) ls me) h in
        rw e r
  ]

  started : (p : Parts ls) (u : ℕ) → startings u (body_of (scene 1 ls) 0) ≤ 1
  started p u =
      let k = raw_known ls p main_word in
      let name = name_at (names_of ls).threads u in
      let a = calls_start ls main_word u (raw_calls ls main_word) k.settled in
      let b = main_total (start_weight name) ls p in
      let c = started_once name ls w.fine in
      three (startings u (body_of (scene 1 ls) 0)) (total (start_weight name) (raw_calls ls main_word)) (total (start_weight name) ls) a b c
    where
      three : (a b c : ℕ) → a ≤ b → b ≤ c → c ≤ 1 → a ≤ 1
      three a b c h k m = omega (arith, h, k, m)

  body_takes : (p : Parts ls) (o t : ℕ) (name : List ℕ) → slice_get (names_of ls).threads t ≡ Some name → taken_in (scene 1 ls) t o ≤ total (weight_at ls o) (raw_calls ls name)
  body_takes p o t name e =
      let k = raw_known ls p name in
      let is = some_body (scene 1 ls) t (calls_of (names_of ls) ls name) (map_at (calls_of (names_of ls) ls) (names_of ls).threads t name e) in
      subst (λ (cs : List Call). takings o cs ≤ total (weight_at ls o) (raw_calls ls name)) (sym is) (calls_take ls name o (raw_calls ls name) k.settled)

  below_is : (o n : ℕ) → taken_below (scene 1 ls) n o ≡ sum_below (λ t. taken_in (scene 1 ls) t o) n
  below_is o zero = refl
  below_is o (suc n) = ap (λ (k : ℕ). k + taken_in (scene 1 ls) n o) (below_is o n)

  latches : (p : Parts ls) (o n : ℕ) → n ≡ length (names_of ls).threads → taken_below (scene 1 ls) n o ≤ count_at (scene 1 ls).objects o
  latches p o n long =
      let a : taken_below (scene 1 ls) n o ≡ sum_below (λ t. taken_in (scene 1 ls) t o) (length (names_of ls).threads) = below_is o n ∙ ap (λ (k : ℕ). sum_below (λ t. taken_in (scene 1 ls) t o) k) long in
      let b = sum_at_most (λ (name : List ℕ). total (weight_at ls o) (raw_calls ls name)) (λ t. taken_in (scene 1 ls) t o) (names_of ls).threads (λ t name e. body_takes p o t name e) in
      let c = threads_total (weight_at ls o) ls w p in
      let d = total_within ls w p o in
      four (taken_below (scene 1 ls) n o) (sum_below (λ t. taken_in (scene 1 ls) t o) (length (names_of ls).threads)) (sum_of (λ (name : List ℕ). total (weight_at ls o) (raw_calls ls name)) (names_of ls).threads) (total (weight_at ls o) ls) (count_at (scene 1 ls).objects o) a b c d
    where
      four : (a b c d e : ℕ) → a ≡ b → b ≤ c → c ≤ d → d ≤ e → a ≤ e
      four a b c d e h k m n = omega (arith, h, k, m, n)

  pub lines_askable : IsScene (scene 1 ls) → list_all is_object_now (scene 1 ls).objects ≡ true → list_all is_thread_now (scene 1 ls).threads ≡ true → (scene 1 ls).callbacks ≡ [] → IsAskable (scene 1 ls)
  lines_askable good now run none =
      let p = parts_of ls w in
      let bodies : length (scene 1 ls).bodies ≡ length (names_of ls).threads = map_length (calls_of (names_of ls) ls) (names_of ls).threads in
      record {
        objects = now;
        completions = completed_objects (scene 1 ls) 1 (declarations_of (names_of ls) ls) (completed ls [] ls refl w.fine);
        threads = run;
        few = good.few;
        calls = λ t. calls_fit (scene 1 ls) t now run none (body_of (scene 1 ls) t) (good.calls t) (kept_body p t);
        started = λ u. started p u;
        latches = λ o. latches p o (length (scene 1 ls).threads) (sym good.bodies ∙ bodies);
      }

pub script_is_askable : (s : Script) → IsScript s → list_all is_object_now (numbered s).objects ≡ true → list_all is_thread_now (numbered s).threads ≡ true → (numbered s).callbacks ≡ [] → IsAskable (numbered s)
script_is_askable s h =
    let f = from_lines h.limit h.text s h.means in
    subst (λ (x : Script). IsScene (numbered x) → list_all is_object_now (numbered x).objects ≡ true → list_all is_thread_now (numbered x).threads ≡ true → (numbered x).callbacks ≡ [] → IsAskable (numbered x)) (sym f.is) (lines_askable f.ls f.whole) (script_is_scene s h)
