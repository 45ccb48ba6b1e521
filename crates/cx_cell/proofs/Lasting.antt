-- What is so of the state that a pass has seen, and of its thread, stays so while others act.
use Rattle.std.proofs.Common.{◌≡◌, ◌≢◌, ◌∙◌, ℕ, ◌+◌, true, false, cond, List, [], ◌∷◌, ◌++◌, length, Some, sym, ap, subst, nat_eq, eq-eqb}
use mathlib.Core.List.{IsPrefix}
use Rattle.cx_machine.specs.declared.kind.Entry.{Entry}
use Rattle.cx_machine.specs.declared.kind.Look.{Look}
use Rattle.cx_machine.specs.declared.machine.Meaning.{Ghosts}
use Rattle.cx_machine.specs.Meaning.{run}
use Rattle.cx_machine.proofs.Owners.{AreOthers, kept_by}
use Rattle.cx_turn.specs.declared.view.View.{View}
use Rattle.cx_turn.specs.Positions.{positions}
use Rattle.cx_turn.specs.Views.{IsKnown}
use Rattle.cx_turn.specs.Acts.{Makes, Looks, Finds}
use Rattle.cx_turn.proofs.Histories.{some_is, leads_on, run-append, positions-append}
use Rattle.cx_turn.proofs.Moves.{found_own}
use Rattle.cx_cell.specs.Seen.{At}

none_others : (n k : ℕ) (es : List Entry) → positions n k es ≡ [] → AreOthers n es
none_others n k [] e = tt
none_others n k (x ∷ xs) e = (λ same. absurd (let z : k ∷ positions n (k + 1) xs ≡ [] = subst (λ b. cond b (k ∷ positions n (k + 1) xs) (positions n (k + 1) xs) ≡ []) (eq-eqb x.by.0 n same) e in cc), none_others n (k + 1) xs (rest e))
  where
    rest : positions n k (x ∷ xs) ≡ [] → positions n (k + 1) xs ≡ []
    rest = elim (nat_eq x.by.0 n) as (λ b. cond b (k ∷ positions n (k + 1) xs) (positions n (k + 1) xs) ≡ [] → positions n (k + 1) xs ≡ []) [ true ↦ λ z. absurd (let y : k ∷ positions n (k + 1) xs ≡ [] = z in cc) | false ↦ λ z. z ]

nothing_more : {A : Type 0} (xs ys : List A) → xs ++ ys ≡ xs → ys ≡ []
nothing_more [] ys e = e
nothing_more {A} (x ∷ xs) ys e = let t : xs ++ ys ≡ xs = cc in nothing_more xs ys t

-- who has no position in a history made no change in it
pub none_own : (n : ℕ) (es : List Entry) → positions n 0 es ≡ [] → AreOthers n es
none_own n es = none_others n 0 es

-- what comes after a history in which a thread has as many positions is by others
pub others_beyond : (n : ℕ) (xs zs : List Entry) (ps : List ℕ) (p : IsPrefix xs zs) → positions n 0 xs ≡ ps → positions n 0 zs ≡ ps → AreOthers n p.0
others_beyond n xs zs ps p at_xs at_zs =
    let longer : positions n 0 zs ≡ positions n 0 xs ++ positions n (0 + length xs) p.0 = ap (positions n 0) (sym p.1) ∙ positions-append n 0 xs p.0 in
    none_others n (0 + length xs) p.0 (nothing_more (positions n 0 xs) (positions n (0 + length xs) p.0) (sym longer ∙ (at_zs ∙ sym at_xs)))

module _ {M : Type 0} (K : Ghosts M) where
  -- the same of two passes' views, of which the second saw more and made nothing
  pub others_since : (v w : View M) (p : IsPrefix v.front w.front) → IsKnown K v → IsKnown K w → v.counts ≡ true → w.counts ≡ true → w.number ≡ v.number → w.mine ≡ v.mine → AreOthers v.number p.0
  others_since v w p kv kw cv cw number mine = others_beyond v.number v.front w.front v.mine p (kv.own cv) (ap (λ n. positions n 0 w.front) (sym number) ∙ (kw.own cw ∙ mine))

  -- in the history found, before its own change
  pub others_found : (v w : View M) (e : Entry) (n : ℕ) (is : Makes K v w e n) → IsKnown K v → IsKnown K w → v.counts ≡ true → w.counts ≡ true → e.by.0 ≡ v.number → AreOthers v.number (is.later).0
  others_found v w e n is kv kw cv cw by = others_beyond v.number v.front is.found v.mine is.later (kv.own cv) (found_own K v w e n is by (kw.own cw))

  module _ (F : M → ℕ → Type 0) (stays : (n : ℕ) (m m' : M) (e : Entry) → e.by.0 ≢ n → F m n → K.step m e ≡ Some m' → F m' n) where
    -- what others did changes nothing of it
    pub stays_so : (n : ℕ) (start m : M) (xs zs : List Entry) (p : IsPrefix xs zs) → AreOthers n p.0 → ((m : M) → run K.step (Some start) xs ≡ Some m → F m n) → (l : M) → run K.step (Some start) xs ≡ Some l → run K.step (Some start) zs ≡ Some m → F m n
    stays_so n start m xs zs p others was l legal leads =
        let on : run K.step (Some l) p.0 ≡ Some m = ap (λ o. run K.step o p.0) (sym legal) ∙ (sym (run-append K.step (Some start) xs p.0) ∙ (ap (run K.step (Some start)) p.1 ∙ leads)) in
        kept_by K.step (λ x. x.by.0 ≢ n) (λ x. F x n) (λ s t x ne h e. stays n s t x ne h e) p.0 l m others (was l legal) on

    -- also of a pass that has seen more, and made nothing
    pub lasts : (v w : View M) → IsPrefix v.front w.front → IsKnown K v → IsKnown K w → v.counts ≡ true → w.counts ≡ true → w.start ≡ v.start → w.number ≡ v.number → w.mine ≡ v.mine → At K.step F v → At K.step F w
    lasts v w p kv kw cv cw start number mine was m leads =
        subst (λ (k : ℕ). F m k) (sym number) (stays_so v.number v.start m v.front w.front p (others_since v w p kv kw cv cw number mine) was kv.legal.0 kv.legal.1 (ap (λ s. run K.step (Some s) w.front) (sym start) ∙ leads))

    -- after a look
    pub lasts_looked : (v w : View M) (l : Look) → Looks K v w l → IsKnown K v → IsKnown K w → v.counts ≡ true → w.counts ≡ true → At K.step F v → At K.step F w
    lasts_looked v w l is kv kw cv cw = lasts v w is.later kv kw cv cw (ap (λ (x : View M). x.start) is.view) (ap (λ (x : View M). x.number) is.view) (ap (λ (x : View M). x.mine) is.view)

    -- where nothing was made
    pub lasts_found : (P : M → Type 0) (v w : View M) → Finds K P v w → IsKnown K v → IsKnown K w → v.counts ≡ true → w.counts ≡ true → At K.step F v → At K.step F w
    lasts_found P v w is kv kw cv cw = lasts v w is.later kv kw cv cw (ap (λ (x : View M). x.start) is.view) (ap (λ (x : View M). x.number) is.view) (ap (λ (x : View M). x.mine) is.view)

    -- at the state that a change was made in
    pub lasts_now : (v w : View M) (e : Entry) (n : ℕ) (is : Makes K v w e n) → IsKnown K v → IsKnown K w → v.counts ≡ true → w.counts ≡ true → e.by.0 ≡ v.number → At K.step F v → F is.now v.number
    lasts_now v w e n is kv kw cv cw by was = stays_so v.number v.start is.now v.front is.found is.later (others_found v w e n is kv kw cv cw by) was kv.legal.0 kv.legal.1 is.leads

  -- what a pass has seen once it made a change leads to the state after it
  pub leads_after : (v w : View M) (e : Entry) (n : ℕ) (is : Makes K v w e n) → run K.step (Some w.start) w.front ≡ Some is.after
  leads_after v w e n is =
      let front : w.front ≡ is.found ++ e ∷ [] = ap (λ (x : View M). x.front) is.view in
      let start : w.start ≡ v.start = ap (λ (x : View M). x.start) is.view in
      (λ i. run K.step (Some (start i)) (front i)) ∙ leads_on K.step v.start is.found e is.now is.after is.leads is.enabled

  -- what is so after a pass's change
  pub so_after : (F : M → ℕ → Type 0) (v w : View M) (e : Entry) (n : ℕ) (is : Makes K v w e n) → e.by.0 ≡ v.number → F is.after e.by.0 → At K.step F w
  so_after F v w e n is by fact m leads =
      let same : m ≡ is.after = some_is m is.after (sym leads ∙ leads_after v w e n is) in
      let number : w.number ≡ e.by.0 = ap (λ (x : View M). x.number) is.view ∙ sym by in
      subst (λ (z : M × ℕ). F z.0 z.1) (λ i. (sym same i, sym number i)) fact
