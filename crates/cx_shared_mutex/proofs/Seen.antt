-- What is so of the state that a pass has seen, and of its thread, and stays so while others act.
use Rattle.std.proofs.Common.{◌≡◌, ◌∙◌, ℕ, ◌+◌, true, false, cond, List, [], ◌∷◌, ◌++◌, length, Some, refl, sym, ap, subst, nat_eq, eq-eqb}
use mathlib.Core.List.{IsPrefix}
use Rattle.cx_machine.specs.declared.kind.Entry.{Entry}
use Rattle.cx_machine.specs.declared.machine.Meaning.{Ghosts}
use Rattle.cx_machine.specs.Meaning.{run}
use Rattle.cx_machine.proofs.Owners.{AreOthers}
use Rattle.cx_turn.specs.declared.view.View.{View}
use Rattle.cx_turn.specs.Positions.{positions}
use Rattle.cx_turn.specs.Acts.{seen, Makes}
use Rattle.cx_turn.proofs.Histories.{some_is, leads_on, run-append, positions-append}
use Rattle.cx_turn.proofs.Moves.{found_own}

none_others : (n k : ℕ) (es : List Entry) → positions n k es ≡ [] → AreOthers n es
none_others n k [] e = tt
none_others n k (x ∷ xs) e = (λ same. absurd (let z : k ∷ positions n (k + 1) xs ≡ [] = subst (λ b. cond b (k ∷ positions n (k + 1) xs) (positions n (k + 1) xs) ≡ []) (eq-eqb x.by.0 n same) e in cc), none_others n (k + 1) xs (rest e))
  where
    rest : positions n k (x ∷ xs) ≡ [] → positions n (k + 1) xs ≡ []
    rest = elim (nat_eq x.by.0 n) as (λ b. cond b (k ∷ positions n (k + 1) xs) (positions n (k + 1) xs) ≡ [] → positions n (k + 1) xs ≡ []) [ true ↦ λ z. absurd (let y : k ∷ positions n (k + 1) xs ≡ [] = z in cc) | false ↦ λ z. z ]

nothing_more : {A : Type 0} (xs ys : List A) → xs ++ ys ≡ xs → ys ≡ []
nothing_more [] ys e = e
nothing_more {A} (x ∷ xs) ys e = let t : xs ++ ys ≡ xs = cc in nothing_more xs ys t

module _ {M : Type 0} (K : Ghosts M) (F : M → ℕ → Type 0) where
  -- it is so of the state that the pass has seen
  abbrev pub At : View M → Type 0
  At v = (m : M) → run K.step (Some v.start) v.front ≡ Some m → F m v.number

  -- it stays so while others act
  abbrev pub Stays : Type 0
  Stays = (n : ℕ) (es : List Entry) (m m' : M) → AreOthers n es → F m n → run K.step (Some m) es ≡ Some m' → F m' n

  -- after a pass's change
  pub after_change : (v w : View M) (e : Entry) (n : ℕ) (is : Makes K v w e n) → e.by.0 ≡ v.number → F is.after e.by.0 → At w
  after_change v w e n is by fact m leads =
      let front : w.front ≡ is.found ++ e ∷ [] = ap (λ (x : View M). x.front) is.view in
      let start : w.start ≡ v.start = ap (λ (x : View M). x.start) is.view in
      let number : w.number ≡ e.by.0 = ap (λ (x : View M). x.number) is.view ∙ sym by in
      let on : run K.step (Some v.start) (is.found ++ e ∷ []) ≡ Some is.after = leads_on K.step v.start is.found e is.now is.after is.leads is.enabled in
      let same : m ≡ is.after = some_is m is.after (sym leads ∙ ((λ i. run K.step (Some (start i)) (front i)) ∙ on)) in
      subst (λ (z : M × ℕ). F z.0 z.1) (λ i. (sym same i, sym number i)) fact

  module _ (stays : Stays) where
    -- also of a pass that has seen more, and made nothing
    pub still : (v w : View M) (ps : List ℕ) (m : M) → IsPrefix v.front w.front → w.start ≡ v.start → w.number ≡ v.number → positions v.number 0 v.front ≡ ps → positions v.number 0 w.front ≡ ps → run K.step (Some v.start) v.front ≡ Some m → At v → At w
    still v w ps m p start number at_v at_w legal was m' leads =
        let longer : positions v.number 0 w.front ≡ positions v.number 0 v.front ++ positions v.number (0 + length v.front) p.0 = ap (positions v.number 0) (sym p.1) ∙ positions-append v.number 0 v.front p.0 in
        let none = nothing_more (positions v.number 0 v.front) (positions v.number (0 + length v.front) p.0) (sym longer ∙ (at_w ∙ sym at_v)) in
        let on : run K.step (Some m) p.0 ≡ Some m' =
        ap (λ o. run K.step o p.0) (sym legal) ∙ (sym (run-append K.step (Some v.start) v.front p.0) ∙ (ap (run K.step (Some v.start)) p.1 ∙ (ap (λ s. run K.step (Some s) w.front) (sym start) ∙ leads))) in
        subst (λ (k : ℕ). F m' k) (sym number) (stays v.number p.0 m m' (none_others v.number (0 + length v.front) p.0 none) (was m legal) on)

    -- of one that made no change
    pub still_first : (v : View M) → F v.start v.number → positions v.number 0 v.front ≡ [] → At v
    still_first v first none m leads = stays v.number v.front v.start m (none_others v.number 0 v.front none) first leads

    -- at the state that a change was made in
    pub at_change : (v w : View M) (e : Entry) (n : ℕ) (is : Makes K v w e n) (m : M) → e.by.0 ≡ v.number → positions v.number 0 v.front ≡ v.mine → positions w.number 0 w.front ≡ w.mine → run K.step (Some v.start) v.front ≡ Some m → At v → F is.now v.number
    at_change v w e n is m by at_v at_w legal was = still v (seen v is.found) v.mine m is.later refl refl at_v (found_own K v w e n is by at_w) legal was is.now is.leads
