-- What the rule says of one seat, and how it stays said when seats change.
use Rattle.std.proofs.Common.{◌≡◌, ◌≢◌, ℕ, zero, suc, ◌<◌, List, [], ◌∷◌, length, get_or, set, Some, true, sym, ap, ◌∙◌, subst, ⊎_elim, arith, length-set, get_or-set_same, get_or-set_other}
use mathlib.Core.Option.{some, some-ne-none}
use mathlib.Core.Logic.{dite}
use native.Mathlib.Decide.{ℕ_discrete}
use lib.ListN.{get_elem?}
use Rattle.atomic_table.specs.Table.{State}
use Rattle.atomic_table.proofs.Lists.{at_set}
use Rattle.cx_machine.specs.declared.machine.Meaning.{Ghosts}
use Rattle.cx_machine.specs.Meaning.{run, times}
use Rattle.cx_turn.specs.declared.view.Desk.{Desk}
use Rattle.cx_turn.specs.declared.view.View.{View}
use Rattle.cx_turn.specs.Positions.{positions}
use Rattle.cx_turn.specs.Views.{IsNow, IsKnown}
use Rattle.cx_turn.specs.Turning.{Turns, IsGone}
use Rattle.cx_turn.proofs.Histories.{run-prefix, none_before, each_map}
use Rattle.cx_turn.proofs.Totals.{total_at}

pub at_below : {A : Type 0} (xs : List A) (j : ℕ) (a : A) → get_elem? xs j ≡ some a → j < length xs
at_below [] j a e = absurd (some-ne-none a (sym e))
at_below (x ∷ xs) zero a e = omega arith
at_below (x ∷ xs) (suc j) a e = let r = at_below xs j a e in omega arith

-- a seat's fact stands again after the seat me has changed
pub seats_stay : {D : Type 0} (P : ℕ → D → Type 0) (vs : List D) (me : ℕ) (w : D) → P me w → ((j : ℕ) (d : D) → j ≢ me → get_elem? vs j ≡ some d → P j d)
    → (j : ℕ) (d : D) → get_elem? (set vs me w) j ≡ some d → P j d
seats_stay {D} P vs me w mine others j d e = ⊎_elim (λ (t : (j ≡ me) × (w ≡ d)). subst (λ (x : ℕ × D). P x.0 x.1) (λ i. (sym t.0 i, t.1 i)) mine)
    (λ (t : (j ≢ me) × (get_elem? vs j ≡ some d)). others j d t.0 t.1) (at_set vs me j w d e)

-- the word after a step
pub word_is : (words : List ℕ) (x y : ℕ) → 0 < length words → x ≡ y → get_or (set words 0 x) 0 0 ≡ y
word_is words x y wide e = get_or-set_same words 0 x 0 wide ∙ e

-- the wake words stay when word 0 changes
pub wakes_on : (words : List ℕ) (x : ℕ) → ((i : ℕ) → 0 < i → i < length words → get_or words i 0 < 2) → (i : ℕ) → 0 < i → i < length (set words 0 x) → get_or (set words 0 x) i 0 < 2
wakes_on words x low i far within = let l = length-set words 0 x in subst (λ (n : ℕ). n < 2) (sym (get_or-set_other words 0 i x 0 (λ e. absurd (omega arith)))) (low i far (omega arith))

-- and when a wake word becomes 0 or 1
pub wakes_at : (words : List ℕ) (k x : ℕ) → x < 2 → ((i : ℕ) → 0 < i → i < length words → get_or words i 0 < 2) → (i : ℕ) → 0 < i → i < length (set words k x) → get_or (set words k x) i 0 < 2
wakes_at words k x small low i far within =
    let l = length-set words k x in dite (ℕ_discrete i k)
    (λ e. subst (λ (j : ℕ). get_or (set words k x) j 0 < 2) (sym e) (subst (λ (n : ℕ). n < 2) (sym (get_or-set_same words k x 0 (omega arith))) small))
    (λ ne. subst (λ (n : ℕ). n < 2) (sym (get_or-set_other words k i x 0 ne)) (low i far (omega arith)))

pub wide_is : (words : List ℕ) (x : ℕ) → 0 < length words → 0 < length (set words 0 x)
wide_is words x wide = let l = length-set words 0 x in omega arith

module _ {S M : Type 0} (meaning : S → M) (fits : S → Type 0) (K : Ghosts M) (start : M) (seats : ℕ) where
  abbrev Rule : State (Desk S) (View M) → Type 0
  Rule = Turns meaning fits K start seats

  -- what the present is to this seat
  pub now_at : (s : State (Desk S) (View M)) (r : Rule s) (id : ℕ) (v : View M) → v.live ≡ true → get_elem? s.views id ≡ some v → IsNow K v r.log r.now
  now_at s r id v live at =
      let z = r.each_seat id v at live in record {
        leads = ap (λ m. run K.step (Some m) r.log) z.started ∙ r.leads;
        bounded = (let a = total_at (λ (d : View M). d.left) s.views id v at in let b = r.bounded in omega arith);
        share = (let a = total_at (λ (d : View M). d.share) s.views id v at in let b = r.shares in omega arith);
        pool = r.pool;
        held = λ n. (let a = total_at (λ (d : View M). times n d.holds) s.views id v at in let b = r.ids n in omega arith);
      }

  -- what the rule says of this seat's view
  pub knows : (s : State (Desk S) (View M)) (r : Rule s) (id : ℕ) (v : View M) → v.live ≡ true → get_elem? s.views id ≡ some v → IsKnown K v
  knows s r id v live at =
      let z = r.each_seat id v at live in
      let n = now_at s r id v live at in
      let few = r.few in
      let seated : v.seats ≡ seats = z.seated in record {
        legal = run-prefix K.step (Some v.start) v.front r.log r.now z.begins n.leads;
        own = λ c. (r.each_pass id v at live c).seen;
        looks = z.looks;
        met = z.met;
        gone = λ c. each_map (IsGone r.log v.front r.owner r.splits) (λ g. positions g.number 0 v.front ≡ g.mine) (λ g is. is.shown) v.taken (r.each_pass id v at live c).gone;
        above = λ c zeroth m above. none_before m v.front r.log z.begins (r.unused m (let e = (r.each_pass id v at live c).first zeroth in omega arith));
        seated = λ m le. none_before m v.front r.log z.begins (r.unused m (omega arith));
        below = λ c. (let k = (r.each_pass id v at live c).numbered in omega arith);
        few = λ c zeroth. (let k = (r.each_pass id v at live c).first zeroth in omega arith);
        present = (r.log, r.now, z.begins, n);
      }
