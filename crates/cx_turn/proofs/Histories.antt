-- Lemmas on histories, and on the positions and looks in them.
use Rattle.std.proofs.Common.{◌≡◌, ◌≢◌, ℕ, ◌+◌, ◌-◌, ◌≤◌, List, [], ◌∷◌, ◌++◌, length, take, Option, Some, None, true, false, IsTrue, refl, sym, ap, ◌∙◌, subst, arith, append_assoc, append-nil, length-append, eq-eqb, ne_eqb, nat_eq, cond}
use mathlib.Core.List.{IsPrefix}
use mathlib.Core.Logic.{dite}
use native.Mathlib.Decide.{ℕ_discrete}
use Rattle.std.proofs.lemmas.List.{take-append-le}
use Rattle.std.proofs.Math.Seq.{take-length}
use Rattle.cx_machine.specs.declared.kind.Entry.{Entry}
use Rattle.cx_machine.specs.declared.kind.Look.{Look}
use Rattle.cx_machine.specs.declared.machine.Meaning.{Ghosts}
use Rattle.cx_machine.specs.Meaning.{advance, run}
use Rattle.cx_turn.specs.Positions.{positions}
use Rattle.cx_turn.specs.Views.{Each, IsShown, cost_of}

pub some_is : {A : Type 0} (a b : A) → ◌≡◌ {A = Option A} (Some a) (Some b) → a ≡ b
some_is a b e = cc

module _ {M : Type 0} (step : M → Entry → Option M) where
  pub run-append : (m : Option M) (xs ys : List Entry) → run step m (xs ++ ys) ≡ run step (run step m xs) ys
  run-append m [] ys = refl
  run-append m (e ∷ es) ys = run-append (advance step m e) es ys

  run_none : (xs : List Entry) → run step None xs ≡ None
  run_none [] = refl
  run_none (e ∷ es) = run_none es

  stops : (m : Option M) (ys : List Entry) (s : M) → run step m ys ≡ Some s → (t : M) × (m ≡ Some t)
  stops None ys s e = absurd (let n : None ≡ Some s = sym (run_none ys) ∙ e in cc)
  stops (Some t) ys s e = (t, refl)

  -- a beginning of a legal history is legal
  pub run-prefix : (m : Option M) (xs ys : List Entry) (s : M) → IsPrefix xs ys → run step m ys ≡ Some s → (t : M) × (run step m xs ≡ Some t)
  run-prefix m xs ys s p e = stops (run step m xs) p.0 s (sym (run-append m xs p.0) ∙ (ap (run step m) p.1 ∙ e))

  -- the state after one change more
  pub leads_on : (m : M) (xs : List Entry) (e : Entry) (now after : M) → run step (Some m) xs ≡ Some now → step now e ≡ Some after → run step (Some m) (xs ++ e ∷ []) ≡ Some after
  leads_on m xs e now after leads enabled = run-append (Some m) xs (e ∷ []) ∙ (ap (λ s. advance step s e) leads ∙ enabled)

pub prefix_refl : {A : Type 0} (xs : List A) → IsPrefix xs xs
prefix_refl xs = ([], append-nil xs)

pub prefix_more : {A : Type 0} (xs ys zs : List A) → IsPrefix xs ys → IsPrefix xs (ys ++ zs)
prefix_more xs ys zs p = (p.0 ++ zs, sym (append_assoc xs p.0 zs) ∙ ap (λ l. l ++ zs) p.1)

pub prefix_trans : {A : Type 0} (xs ys zs : List A) → IsPrefix xs ys → IsPrefix ys zs → IsPrefix xs zs
prefix_trans xs ys zs p q = (p.0 ++ q.0, sym (append_assoc xs p.0 q.0) ∙ (ap (λ l. l ++ q.0) p.1 ∙ q.1))

pub prefix_length : {A : Type 0} (xs ys : List A) → IsPrefix xs ys → length xs ≤ length ys
prefix_length xs ys p = let a : length ys ≡ length xs + length p.0 = ap (λ l. length l) (sym p.1) ∙ length-append xs p.0 in omega arith

pub positions-append : (by k : ℕ) (xs ys : List Entry) → positions by k (xs ++ ys) ≡ positions by k xs ++ positions by (k + length xs) ys
positions-append by k [] ys = let e : k ≡ k + 0 = omega arith in ap (λ n. positions by n ys) e
positions-append by k (x ∷ xs) ys =
    let n : (k + 1) + length xs ≡ k + length (x ∷ xs) = omega arith in
    let r : positions by (k + 1) (xs ++ ys) ≡ positions by (k + 1) xs ++ positions by (k + length (x ∷ xs)) ys = positions-append by (k + 1) xs ys ∙ ap (λ m. positions by (k + 1) xs ++ positions by m ys) n in
    elim (nat_eq x.by.0 by) as (λ b. cond b (k ∷ positions by (k + 1) (xs ++ ys)) (positions by (k + 1) (xs ++ ys)) ≡ cond b (k ∷ positions by (k + 1) xs) (positions by (k + 1) xs) ++ positions by (k + length (x ∷ xs)) ys)
    [ true ↦ ap (λ l. k ∷ l) r | false ↦ r ]

pub positions_own : (by k : ℕ) (xs : List Entry) (e : Entry) → e.by.0 ≡ by → positions by k (xs ++ e ∷ []) ≡ positions by k xs ++ (k + length xs) ∷ []
positions_own by k xs e is = positions-append by k xs (e ∷ []) ∙ ap (λ b. positions by k xs ++ cond b ((k + length xs) ∷ []) []) (eq-eqb e.by.0 by is)

pub positions_other : (by k : ℕ) (xs : List Entry) (e : Entry) → e.by.0 ≢ by → positions by k (xs ++ e ∷ []) ≡ positions by k xs
positions_other by k xs e other = positions-append by k xs (e ∷ []) ∙ (ap (λ b. positions by k xs ++ cond b ((k + length xs) ∷ []) []) (ne_eqb e.by.0 by other) ∙ append-nil (positions by k xs))

pub head_is : {A : Type 0} (a b : A) → ◌≡◌ {A = List A} (a ∷ []) (b ∷ []) → a ≡ b
head_is a b e = cc

pub each_map : {A : Type 0} (P Q : A → Type 0) → ((x : A) → P x → Q x) → (xs : List A) → Each P xs → Each Q xs
each_map P Q h [] e = tt
each_map P Q h (x ∷ xs) e = (h x e.0, each_map P Q h xs e.1)

pub each_append : {A : Type 0} (P : A → Type 0) (xs ys : List A) → Each P xs → Each P ys → Each P (xs ++ ys)
each_append P [] ys e f = f
each_append P (x ∷ xs) ys e f = (e.0, each_append P xs ys e.1 f)

-- beginnings of a list are beginnings of one that goes on from it
pub met_on : {A : Type 0} (ys zs : List A) → IsPrefix ys zs → (fs : List (List A)) → Each (λ f. IsPrefix f ys) fs → Each (λ f. IsPrefix f zs) fs
met_on ys zs q = each_map (λ f. IsPrefix f ys) (λ f. IsPrefix f zs) (λ f p. prefix_trans f ys zs p q)

pub cost_covers : (d d' : ℕ) → 1 + d' ≤ d + cost_of d d'
cost_covers d d' = dite (ℕ_discrete (d' + 1) d)
    (λ e. subst (λ b. 1 + d' ≤ d + cond b 0 (1 + (d' - d))) (sym (eq-eqb (d' + 1) d e)) (omega arith))
    (λ ne. subst (λ b. 1 + d' ≤ d + cond b 0 (1 + (d' - d))) (sym (ne_eqb (d' + 1) d ne)) (omega arith))

-- a number with no change in a history has none in a beginning of it
pub none_before : (n : ℕ) (a c : List Entry) → IsPrefix a c → positions n 0 c ≡ [] → positions n 0 a ≡ []
none_before n a c p e = nothing (positions n 0 a) (positions n (0 + length a) p.0) (sym (positions-append n 0 a p.0) ∙ (ap (positions n 0) p.1 ∙ e))
  where
    nothing : (xs ys : List ℕ) → xs ++ ys ≡ [] → xs ≡ []
    nothing [] ys q = refl
    nothing (x ∷ xs) ys q = cc

module _ {M : Type 0} (K : Ghosts M) (start : M) (number : ℕ) where
  -- a look that a history shows is shown by each history that goes on from it
  pub shown_on : (front front' : List Entry) → IsPrefix front front' → (l : Look) → IsShown K start number front l → IsShown K start number front' l
  shown_on front front' p l is =
      let longer = prefix_length front front' p in
      let same : take l.at front' ≡ take l.at front = ap (take l.at) (sym p.1) ∙ take-append-le l.at front p.0 is.within in record {
        own = is.own;
        within = (let w = is.within in omega arith);
        shown = (is.shown.0, ap (run K.step (Some start)) same ∙ is.shown.1, is.shown.2);
      }

  pub looks_on : (front front' : List Entry) → IsPrefix front front' → (ls : List Look) → Each (IsShown K start number front) ls → Each (IsShown K start number front') ls
  looks_on front front' p = each_map (IsShown K start number front) (IsShown K start number front') (shown_on front front' p)

  -- a look at the state that the whole history leads to
  pub shown_now : (front : List Entry) (now : M) (l : Look) → run K.step (Some start) front ≡ Some now → IsTrue (K.shows now l) → l.by.0 ≡ number → l.at ≡ length front → IsShown K start number front l
  shown_now front now l leads shows own at = record {
    own = own;
    within = omega arith;
    shown = (now, ap (λ k. run K.step (Some start) (take k front)) at ∙ (ap (run K.step (Some start)) (take-length front) ∙ leads), shows);
  }
