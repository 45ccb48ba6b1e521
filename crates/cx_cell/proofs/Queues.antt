-- Callers come into the queue, leave it, and are marked there.
use Rattle.std.proofs.Common.{◌≡◌, ◌≢◌, ◌∙◌, ℕ, zero, suc, ◌+◌, ◌<◌, ◌≤◌, ◌==◌, ◌||◌, ◌⊎◌, inl, inr, Bool, List, [], ◌∷◌, ◌++◌, length, get_or, set, slice_get, Some, true, false, refl, sym, ap, subst, arith, eq-eqb, length-set, get_or-set_same, get_or-set_other}
use native.Mathlib.Decide.{ℕ_discrete}
use Rattle.std.proofs.lemmas.Bool.{cases_lt, eqb-true}
use Rattle.std.proofs.lemmas.Option.{slice_get-get_or, slice_get_past, slice_get_within}
use Rattle.cx_machine.specs.declared.machine.Meaning.{Ghosts}
use Rattle.cx_turn.proofs.Histories.{some_is}
use Rattle.cx_cell.specs.declared.wish.Waiter.{Waiter}
use Rattle.cx_cell.specs.declared.called.Called.{Called}
use Rattle.cx_cell.specs.Callers.{is_called}
use Rattle.cx_cell.specs.Acts.{Denies}
use Rattle.cx_cell.specs.Queue.{StandsIn, IsMarked, AreMarked, Calls, IsDue, HasDue, Marks, MarksAll}

-- ---- lists

module _ {A : Type 0} where
  pub set_same : (xs : List A) (i : ℕ) (y : A) → i < length xs → slice_get (set xs i y) i ≡ Some y
  set_same xs i y low = let l = length-set xs i y in slice_get-get_or (set xs i y) i y (omega arith) ∙ ap (λ (x : A). Some x) (get_or-set_same xs i y y low)

  pub set_other : (xs : List A) (i : ℕ) (y : A) (k : ℕ) → k ≢ i → slice_get (set xs i y) k ≡ slice_get xs k
  set_other xs i y k ne = by_length (cases_lt k (length xs))
    where
      by_length : (k < length xs) ⊎ (length xs ≤ k) → slice_get (set xs i y) k ≡ slice_get xs k
      by_length (inl low) = let l = length-set xs i y in slice_get-get_or (set xs i y) k y (omega arith) ∙ (ap (λ (x : A). Some x) (get_or-set_other xs i k y y ne) ∙ sym (slice_get-get_or xs k y low))
      by_length (inr past) = let l = length-set xs i y in slice_get_past (set xs i y) k (omega arith) ∙ sym (slice_get_past xs k past)

  pub push_old : (xs : List A) (y : A) (k : ℕ) (w : A) → slice_get xs k ≡ Some w → slice_get (xs ++ y ∷ []) k ≡ Some w
  push_old [] y k w e = cc e
  push_old (x ∷ xs) y zero w e = e
  push_old (x ∷ xs) y (suc k) w e = push_old xs y k w e

  pub push_new : (xs : List A) (y : A) → slice_get (xs ++ y ∷ []) (length xs) ≡ Some y
  push_new [] y = refl
  push_new (x ∷ xs) y = push_new xs y

  pub push_back : (xs : List A) (y : A) (k : ℕ) (w : A) → slice_get (xs ++ y ∷ []) k ≡ Some w → (slice_get xs k ≡ Some w) ⊎ (w ≡ y)
  push_back [] y zero w e = inr (sym (some_is y w e))
  push_back [] y (suc k) w e = cc e
  push_back (x ∷ xs) y zero w e = inl e
  push_back (x ∷ xs) y (suc k) w e = push_back xs y k w e

-- ---- who is called

pub calls_none : (IsDue : ℕ → Type 0) (c : Called) → ((n : ℕ) → IsDue n → ⊥) → Calls IsDue c c
calls_none IsDue c none = record { only = λ n low e. inl e; due = λ n low d. absurd (none n d); kept = λ n low e. e }

pub calls_then : (A B C : ℕ → Type 0) (c d e : Called) → Calls A c d → Calls B d e → ((n : ℕ) → C n → A n ⊎ B n) → ((n : ℕ) → A n → C n) → ((n : ℕ) → B n → C n) → Calls C c e
calls_then A B C c d e one two split a b = record {
  only = λ n low is. from n (earlier n low) (two.only n low is);
  due = λ n low is. now n low (split n is);
  kept = λ n low is. two.kept n low (one.kept n low is);
}
  where
    earlier : (n : ℕ) → n < 256 → is_called d n ≡ true → (is_called c n ≡ true) ⊎ C n
    earlier n low is = by_case (one.only n low is)
      where
        by_case : (is_called c n ≡ true) ⊎ A n → (is_called c n ≡ true) ⊎ C n
        by_case (inl was) = inl was
        by_case (inr x) = inr (a n x)

    from : (n : ℕ) → (is_called d n ≡ true → (is_called c n ≡ true) ⊎ C n) → (is_called d n ≡ true) ⊎ B n → (is_called c n ≡ true) ⊎ C n
    from n f (inl was) = f was
    from n f (inr x) = inr (b n x)

    now : (n : ℕ) → n < 256 → A n ⊎ B n → is_called e n ≡ true
    now n low (inl x) = two.kept n low (one.due n low x)
    now n low (inr x) = two.due n low x

-- who is called is who was, and this one
pub calls_one : (IsDue : ℕ → Type 0) (c d : Called) (seat : ℕ) → ((n : ℕ) → n < 256 → is_called d n ≡ (is_called c n || (seat == n))) → ((n : ℕ) → IsDue n → seat ≡ n) → IsDue seat → Calls IsDue c d
calls_one IsDue c d seat added own due = record {
  only = λ n low is. from n (or_true (is_called c n) (seat == n) (sym (added n low) ∙ is));
  due = λ n low x. added n low ∙ or_right (is_called c n) (seat == n) (eq-eqb seat n (own n x));
  kept = λ n low is. added n low ∙ ap (λ (b : Bool). b || (seat == n)) is;
}
  where
    or_true : (a b : Bool) → (a || b) ≡ true → (a ≡ true) ⊎ (b ≡ true)
    or_true true b e = inl refl
    or_true false b e = inr e

    or_right : (a b : Bool) → b ≡ true → (a || b) ≡ true
    or_right true b e = refl
    or_right false b e = e

    from : (n : ℕ) → (is_called c n ≡ true) ⊎ ((seat == n) ≡ true) → (is_called c n ≡ true) ⊎ IsDue n
    from n (inl was) = inl was
    from n (inr same) = inr (subst IsDue (eqb-true seat n same) due)

-- ---- who is marked

module _ {M : Type 0} (K : Ghosts M) (m : M) where
  pub marked_all : (ws ws' : List Waiter) → MarksAll K m ws ws' → AreMarked K m ws'
  marked_all ws ws' all k low w' at =
      let l = all.long in
      let was : slice_get ws k ≡ Some (get_or ws k w') = slice_get-get_or ws k w' (omega arith) in
      (all.each k (get_or ws k w') w' was at).rest

  -- the callers before this place are marked, and the others stand as they stood
  pub record MarkedTo (ws : List Waiter) (i : ℕ) (ws' : List Waiter) : Type 0 where
    pub long : length ws' ≡ length ws
    pub each : (k : ℕ) (w w' : Waiter) → k < i → slice_get ws k ≡ Some w → slice_get ws' k ≡ Some w' → Marks K m w w'
    pub rest : (k : ℕ) → i ≤ k → slice_get ws' k ≡ slice_get ws k

  -- a caller before this place is due
  abbrev pub DueBefore : List Waiter → ℕ → ℕ → Type 0
  DueBefore ws i n = (k : ℕ) × (w : Waiter) × (k < i) × (slice_get ws k ≡ Some w) × IsDue K m w n

  pub marked_none : (ws : List Waiter) → MarkedTo ws 0 ws
  marked_none ws = record { long = refl; each = λ k w w' low at at'. absurd (omega (arith, low)); rest = λ k le. refl }

  pub due_none : (ws : List Waiter) (c : Called) → Calls (DueBefore ws 0) c c
  due_none ws c = calls_none (DueBefore ws 0) c (λ n d. (let l = d.2 in omega (arith, l)))

  pub marked_more : (ws ws' : List Waiter) (i : ℕ) (w w' : Waiter) → MarkedTo ws i ws' → i < length ws' → slice_get ws' i ≡ Some w → Marks K m w w' → MarkedTo ws (i + 1) (set ws' i w')
  marked_more ws ws' i w w' was low at one = record {
    long = length-set ws' i w' ∙ was.long;
    each = λ k x x' below now now'. at_place k x x' below now now' (ℕ_discrete k i);
    rest = λ k le. set_other ws' i w' k (λ e. omega (arith, e, le)) ∙ was.rest k (omega (arith, le));
  }
    where
      at_place : (k : ℕ) (x x' : Waiter) → k < i + 1 → slice_get ws k ≡ Some x → slice_get (set ws' i w') k ≡ Some x' → Dec (k ≡ i) → Marks K m x x'
      at_place k x x' below now now' (yes e) =
          let there : slice_get ws i ≡ Some w = sym (was.rest i (omega arith)) ∙ at in
          let same : w ≡ x = some_is w x (sym there ∙ (ap (slice_get ws) (sym e) ∙ now)) in
          let new : w' ≡ x' = some_is w' x' (sym (set_same ws' i w' low) ∙ (ap (slice_get (set ws' i w')) (sym e) ∙ now')) in
          subst (λ (z : Waiter × Waiter). Marks K m z.0 z.1) (λ j. (same j, new j)) one
      at_place k x x' below now now' (no ne) = was.each k x x' (omega (arith, below, ne)) now (sym (set_other ws' i w' k ne) ∙ now')

  pub due_more : (ws ws' : List Waiter) (i : ℕ) (w : Waiter) (c d e : Called) → MarkedTo ws i ws' → slice_get ws' i ≡ Some w → Calls (DueBefore ws i) c d → Calls (IsDue K m w) d e → Calls (DueBefore ws (i + 1)) c e
  due_more ws ws' i w c d e was at before one =
      calls_then (DueBefore ws i) (IsDue K m w) (DueBefore ws (i + 1)) c d e before one
      (λ n x. at_place n x (ℕ_discrete x.0 i))
      (λ n x. (x.0, x.1, (let l = x.2 in omega (arith, l)), x.3, x.4))
      (λ n x. (i, w, omega arith, there, x))
    where
      there : slice_get ws i ≡ Some w
      there = sym (was.rest i (omega arith)) ∙ at

      at_place : (n : ℕ) (x : DueBefore ws (i + 1) n) → Dec (x.0 ≡ i) → DueBefore ws i n ⊎ IsDue K m w n
      at_place n x (yes same) = inr (subst (λ (z : Waiter). IsDue K m z n) (some_is x.1 w (sym x.3 ∙ (ap (slice_get ws) same ∙ there))) x.4)
      at_place n x (no ne) = inl (x.0, x.1, (let l = x.2 in omega (arith, l, ne)), x.3, x.4)

  -- all are marked, and all who are due are called
  pub marked_whole : (ws ws' : List Waiter) (i : ℕ) → length ws ≤ i → MarkedTo ws i ws' → MarksAll K m ws ws'
  marked_whole ws ws' i past was = record { long = was.long; each = λ k w w' at at'. was.each k w w' (let l = slice_get_within ws k w at in omega arith) at at' }

  pub due_whole : (ws : List Waiter) (i : ℕ) (c d : Called) → length ws ≤ i → Calls (DueBefore ws i) c d → Calls (HasDue K m ws) c d
  due_whole ws i c d past was = record {
    only = λ n low is. from n (was.only n low is);
    due = λ n low x. was.due n low (x.0, x.1, (let l = slice_get_within ws x.0 x.1 x.2 in omega arith), x.2, x.3);
    kept = was.kept;
  }
    where
      from : (n : ℕ) → (is_called c n ≡ true) ⊎ DueBefore ws i n → (is_called c n ≡ true) ⊎ HasDue K m ws n
      from n (inl x) = inl x
      from n (inr x) = inr (x.0, x.1, x.3, x.4)

  -- who is put off is marked, since the state denies what it waits for
  pub marked_with : (ws ws' : List Waiter) (w : Waiter) → AreMarked K m ws → Denies K w.seat w.wish m → ((x : Waiter) → StandsIn ws' x → StandsIn ws x ⊎ (x ≡ w)) → AreMarked K m ws'
  marked_with ws ws' w were denied no_more k low x at = from (no_more x (k, low, at))
    where
      from : StandsIn ws x ⊎ (x ≡ w) → IsMarked K m x
      from (inl s) = were s.0 s.1 x s.2
      from (inr e) = subst (IsMarked K m) (sym e) (λ unmarked. denied)
