-- Accesses whose thread gives up what it holds.
use Rattle.std.proofs.Common.{◌≡◌, ◌⊎◌, ◌+◌, ◌<◌, ◌≤◌, ◌==◌, ℕ, Bool, true, false, List, length, get_or, slice_get, slice_set, Some, refl, sym, ap, ◌∙◌, subst, arith, eqb-true}
use Rattle.std.proofs.lemmas.Bool.{eqb-false}
use Rattle.std.specs.Global.{Vec}
use Rattle.std.specs.Prelude.{vec_len}
use Rattle.cx_machine.specs.Machine.{State}
use Rattle.cx_turn.specs.declared.view.View.{View}
use Rattle.cx_items.specs.Memory.{nothing}
use Rattle.cx_kinds.specs.declared.access.Access.{Access}
use Rattle.cx_kinds.specs.Accesses.{RunObject, object_of, kept_of, Knows}
use Rattle.cx_kinds.specs.Sights.{IsSeen, Keeps, IsFree}
use Rattle.cx_work.specs.Accesses.{IsAccess, AreAccesses, HoldNothing}
use Rattle.cx_work.proofs.Rows.{below, at_get}
use Rattle.cx_work.proofs.Stepping.{at_index, is_within, set_same, set_other, same_some, set_access}

-- nothing is held by those below n whose pass has a change left
abbrev pub FreeBelow : ℕ → List Access → Type 0
FreeBelow n ks = (o : ℕ) (k : Access) → o < n → slice_get ks o ≡ Some k → (v : View State) → Knows k v → (kept_of k ≡ nothing) ⊎ (v.left ≡ 0)

pub none_free : (ks : List Access) → FreeBelow 0 ks
none_free ks o k low = absurd (omega (arith, low))

pub all_free : (ks : List Access) (n : ℕ) → length ks ≤ n → FreeBelow n ks → HoldNothing ks
all_free ks n past free o k at_k = let low = is_within ks o k at_k in free o k (omega (arith, low, past)) at_k

-- the access at a place
pub here_access : (xs : List RunObject) (t : ℕ) (ks : List Access) (i : ℕ) (d : Access) → AreAccesses xs t ks → i < length ks → (x : RunObject) × (slice_get xs i ≡ Some x) × IsAccess x t (get_or ks i d)
here_access xs t ks i d are low =
    let count = are.count in
    let x = at_index xs i (omega (arith, low, count)) in
    (x.0, x.1, are.each i x.0 (get_or ks i d) x.1 (at_get ks i d low))

pub here_seen : (xs : List RunObject) (t : ℕ) (ks : List Access) (i : ℕ) (d : Access) → AreAccesses xs t ks → i < length ks → IsSeen (Knows (get_or ks i d))
here_seen xs t ks i d are low = let a = here_access xs t ks i d are low in record { view = a.2.view; seen = a.2.seen }

-- one more has given up
pub gives_up : (xs : List RunObject) (t : ℕ) (ks : List Access) (i : ℕ) (d k : Access) → AreAccesses xs t ks → i < length ks → object_of k ≡ object_of (get_or ks i d) → Keeps (Knows (get_or ks i d)) (Knows k) → AreAccesses xs t (slice_set ks i k)
gives_up xs t ks i d k are low object keeps =
    let a = here_access xs t ks i d are low in
    let r = keeps.keeps a.2.view a.2.seen in
    set_access xs t ks i a.0 k are a.1 (record { object = object ∙ a.2.object; view = r.0; seen = r.1; thread = r.2.number ∙ a.2.thread })

pub one_more_free : (ks : List Access) (i : ℕ) (k : Access) → i < length ks → IsFree (Knows k) (kept_of k) → FreeBelow i ks → FreeBelow (i + 1) (slice_set ks i k)
one_more_free ks i k low free before o j up at_j = go (i == o) refl
  where
    go : (b : Bool) → (i == o) ≡ b → (v : View State) → Knows j v → (kept_of j ≡ nothing) ⊎ (v.left ≡ 0)
    go true e =
        let old = at_index ks i low in
        let there : slice_get (slice_set ks i k) o ≡ Some k = subst (λ n. slice_get (slice_set ks i k) n ≡ Some k) (eqb-true i o e) (set_same ks i old.0 k old.1) in
        subst (λ (z : Access). (v : View State) → Knows z v → (kept_of z ≡ nothing) ⊎ (v.left ≡ 0)) (same_some k j (slice_get (slice_set ks i k) o) there at_j) free.free
    go false e = let differ = eqb-false i o e in before o j (below o i up differ) (sym (set_other ks i o k differ) ∙ at_j)

-- ---- by the places that a loop reads and writes

still_low : (xs : List RunObject) (t : ℕ) (ks : Vec Access) (ks' : List Access) (i end : ℕ) → AreAccesses xs t ks' → length ks.items ≡ length xs → end ≡ vec_len ks → i < end → i < length ks'
still_low xs t ks ks' i end are count is low = let long = ks.ok.0 in let many = are.count in omega (arith, low, is, long, many, count)

pub written_seen : (xs : List RunObject) (t : ℕ) (ks : Vec Access) (ks' : List Access) (i end : ℕ) (k : Access) → AreAccesses xs t ks' → length ks.items ≡ length xs → end ≡ vec_len ks → i < end → k ≡ get_or ks' i k → IsSeen (Knows k)
written_seen xs t ks ks' i end k are count is low read = subst (λ (j : Access). IsSeen (Knows j)) (sym read) (here_seen xs t ks' i k are (still_low xs t ks ks' i end are count is low))

pub written_accesses : (xs : List RunObject) (t : ℕ) (ks : Vec Access) (ks' : List Access) (i end : ℕ) (k k' : Access) → AreAccesses xs t ks' → length ks.items ≡ length xs → end ≡ vec_len ks → i < end → k ≡ get_or ks' i k → object_of k' ≡ object_of k → Keeps (Knows k) (Knows k') → AreAccesses xs t (slice_set ks' i k')
written_accesses xs t ks ks' i end k k' are count is low read object keeps =
    gives_up xs t ks' i k k' are (still_low xs t ks ks' i end are count is low) (object ∙ ap object_of read) (subst (λ (j : Access). Keeps (Knows j) (Knows k')) read keeps)

pub written_free : (xs : List RunObject) (t : ℕ) (ks : Vec Access) (ks' : List Access) (i end : ℕ) (k' : Access) → AreAccesses xs t ks' → length ks.items ≡ length xs → end ≡ vec_len ks → i < end → IsFree (Knows k') (kept_of k') → FreeBelow i ks' → FreeBelow (i + 1) (slice_set ks' i k')
written_free xs t ks ks' i end k' are count is low free before = one_more_free ks' i k' (still_low xs t ks ks' i end are count is low) free before
