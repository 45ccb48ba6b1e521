-- What follows of how a call moved a pass.
use Rattle.std.proofs.Common.{◌≡◌, ◌∙◌, ℕ, ◌+◌, ◌≤◌, List, [], ◌∷◌, ◌++◌, length, slice_get, Some, refl, sym, ap, subst, arith}
use mathlib.Core.List.{IsPrefix}
use Rattle.std.proofs.lemmas.List.{append_cancel_right}
use Rattle.cx_machine.specs.declared.kind.Entry.{Entry}
use Rattle.cx_machine.specs.declared.machine.Meaning.{Ghosts}
use Rattle.cx_turn.specs.declared.view.View.{View}
use Rattle.cx_turn.specs.Positions.{positions}
use Rattle.cx_turn.proofs.Histories.{prefix_more, prefix_length, prefix_refl, prefix_trans, positions_own}
use Rattle.cx_turn.specs.Acts.{seen, Sees, Makes, Finds}

-- ---- where the change that was made stands

get_last : (xs : List Entry) (e : Entry) → slice_get (xs ++ e ∷ []) (length xs) ≡ Some e
get_last [] e = refl
get_last (x ∷ xs) e = get_last xs e

-- what was seen goes on, the change stands at its position, and that is beyond what was seen
pub stands_at : {M : Type 0} (K : Ghosts M) (v w : View M) (e : Entry) (n : ℕ) → Makes K v w e n → IsPrefix v.front w.front × (length v.front ≤ n) × (slice_get w.front n ≡ Some e)
stands_at {M} K v w e n m =
    let front : w.front ≡ m.found ++ e ∷ [] = ap (λ (x : View M). x.front) m.view in
    let l = prefix_length v.front m.found m.later in
    let p = m.position in (
      subst (λ (f : List Entry). IsPrefix v.front f) (sym front) (prefix_more v.front m.found (e ∷ []) m.later),
      omega arith,
      ap (λ (f : List Entry). slice_get f n) front ∙ (ap (slice_get (m.found ++ e ∷ [])) p ∙ get_last m.found e),
    )

-- the history found has the pass's own changes alone, besides those of others
pub found_own : {M : Type 0} (K : Ghosts M) (v w : View M) (e : Entry) (n : ℕ) (m : Makes K v w e n) → e.by.0 ≡ v.number → positions w.number 0 w.front ≡ w.mine → positions v.number 0 m.found ≡ v.mine
found_own {M} K v w e n m by known =
    let f = m.found in
    let mine : w.mine ≡ v.mine ++ length f ∷ [] = ap (λ (x : View M). x.mine) m.view in
    let front : w.front ≡ f ++ e ∷ [] = ap (λ (x : View M). x.front) m.view in
    let number : w.number ≡ v.number = ap (λ (x : View M). x.number) m.view in
    let at : positions v.number 0 (f ++ e ∷ []) ≡ v.mine ++ length f ∷ [] = (λ i. positions (sym number i) 0 (sym front i)) ∙ (known ∙ mine) in
    let own : positions v.number 0 (f ++ e ∷ []) ≡ positions v.number 0 f ++ (0 + length f) ∷ [] = positions_own v.number 0 f e by in
    let none : 0 + length f ≡ length f = omega arith in
    append_cancel_right (positions v.number 0 f) v.mine (length f ∷ []) (ap (λ (k : ℕ). positions v.number 0 f ++ k ∷ []) (sym none) ∙ (sym own ∙ at))

-- ---- who saw more

module _ {M : Type 0} where
  pub sees_self : (v : View M) → Sees v v
  sees_self v = record { later = prefix_refl v.front; same = refl }

module _ {M : Type 0} (K : Ghosts M) where
  -- who saw more, and then nothing, has seen more
  pub finds_on : (P : M → Type 0) (v u w : View M) → Sees v u → Finds K P u w → Sees v w
  finds_on P v u w s f = record {
    later = prefix_trans v.front u.front w.front s.later f.later;
    same = f.view ∙ ap (λ (x : View M). seen x w.front) s.same;
  }

  -- what was found has also what follows of it
  pub finds_map : (P Q : M → Type 0) (v w : View M) → ((m : M) → P m → Q m) → Finds K P v w → Finds K Q v w
  finds_map P Q v w f is = record { now = is.now; later = is.later; leads = is.leads; holds = f is.now is.holds; view = is.view }
