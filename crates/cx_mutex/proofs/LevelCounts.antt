-- How many levels of a recursive mutex the thread of a pass has, before and after a call.
use Rattle.std.proofs.Common.{◌≡◌, ◌∙◌, ℕ, suc, ◌+◌, ◌<◌, ◌&&◌, ◌||◌, pos, [], Option, Some, None, is_none, nat_lt, refl, sym, ap, subst, arith, true}
use mathlib.Core.List.{IsPrefix}
use Rattle.std.proofs.lemmas.Bool.{and_parts, ltb-true}
use Rattle.cx_names.specs.declared.ThreadNo.{ThreadNo}
use Rattle.cx_names.specs.declared.Reply.{Reply}
use Rattle.cx_names.specs.declared.Reply.TheVariants as replies
use Rattle.cx_machine.specs.declared.kind.Entry.{Entry}
use Rattle.cx_machine.specs.declared.kind.Look.{Look}
use Rattle.cx_machine.specs.declared.kind.Op.TheVariants as ops
use Rattle.cx_machine.specs.Acts.{at_entry}
use Rattle.cx_machine.specs.Kept.{made}
use Rattle.cx_machine.specs.Meaning.{change}
use Rattle.cx_machine.specs.Words.{is_thread}
use Rattle.cx_machine.specs.Mutex.{Mutex, can_lock, levels_of, locked, step}
use Rattle.cx_machine.proofs.Owners.{IsFree, free_run, lock_adds, try_lock_adds}
use Rattle.cx_turn.specs.declared.view.View.{View}
use Rattle.cx_turn.specs.declared.pass.Pass.{Pass}
use Rattle.cx_turn.specs.Positions.{positions}
use Rattle.cx_turn.specs.Acts.{Makes, Looks}
use Rattle.cx_turn.proofs.Histories.{head_is, some_is}
use Rattle.cx_mutex.specs.declared.recursive.RecursiveMutex.{RecursiveMutex}
use Rattle.cx_mutex.specs.Kinds.{locking}
use Rattle.cx_mutex.specs.Owners.{AtLevel}
use Rattle.cx_mutex.specs.Recursives.{IsRecursivePassWith, HasLevels, KeepsLevels, GetsLevel, LosesLevel}
use Rattle.cx_mutex.proofs.Owning.{still_levels, levels_looked, levels_found, levels_after, no_level}

-- a mutex that opened free is at no level while nobody owns it
opened_free : (x : RecursiveMutex) (p : Pass Mutex) (v : View Mutex) → IsRecursivePassWith x p v → IsFree v.start
opened_free x p v is = subst IsFree (sym (is.started ∙ x.opened)) (λ e. refl)

-- a pass knows one view alone
same_view : (x : RecursiveMutex) (p : Pass Mutex) (v w : View Mutex) → IsRecursivePassWith x p v → IsRecursivePassWith x p w → v ≡ w
same_view x p v w is is' = head_is v w (sym is.views ∙ is'.views)

-- a thread that locks has fewer than 1,000
below_most : (m : Mutex) (by : ℕ) → IsFree m → can_lock m by ≡ true → levels_of m by < 1000
below_most m by free c = at m.owner refl c
  where
    at : (o : Option ℕ) → m.owner ≡ o → (is_none o || (m.recursive && is_thread o by && nat_lt m.level 1000)) ≡ true → levels_of m by < 1000
    at None is e = rw is (omega arith)
    at (Some t) is e =
        let b = and_parts (m.recursive && is_thread (Some t) by) (nat_lt m.level 1000) e in
        let own : is_thread (Some t) by ≡ true = (and_parts m.recursive (is_thread (Some t) by) b.0).1 in
        rw (is, own) (ltb-true m.level 1000 b.1)

pub lock_adds_one : (now after : Mutex) (by : ThreadNo) (r : Reply) → IsFree now → at_entry step now (change by ops.Lock (pos 0) (pos 0) r) ≡ Some after → (levels_of now by.0 < 1000) × (levels_of after by.0 ≡ levels_of now by.0 + 1)
lock_adds_one now after by replies.Ok free e = (made (λ x. levels_of now by.0 < 1000) (can_lock now by.0) (locked now by.0) after (below_most now by.0 free) e, lock_adds now after by replies.Ok free e)
lock_adds_one now after by _ free e = cc e

pub try_lock_adds_one : (now after : Mutex) (by : ThreadNo) (r : Reply) → IsFree now → at_entry step now (change by ops.TryLock (pos 0) (pos 0) r) ≡ Some after → (levels_of now by.0 < 1000) × (levels_of after by.0 ≡ levels_of now by.0 + 1)
try_lock_adds_one now after by replies.True free e = (made (λ x. levels_of now by.0 < 1000) (can_lock now by.0) (locked now by.0) after (below_most now by.0 free) e, try_lock_adds now after by replies.True free e)
try_lock_adds_one now after by _ free e = cc e

pub has_some : (x : RecursiveMutex) (p : Pass Mutex) (v : View Mutex) → IsRecursivePassWith x p v → (n : ℕ) × HasLevels x p n
has_some x p v is =
    let l = is.known.legal in
    (levels_of l.0 v.number, λ w is'. subst (λ (u : View Mutex). AtLevel (levels_of l.0 v.number) u) (same_view x p v w is is') (λ m leads. ap (λ (z : Mutex). levels_of z v.number) (some_is m l.0 (sym leads ∙ l.1))))

module _ (x : RecursiveMutex) (p q : Pass Mutex) (v w : View Mutex) (is : IsRecursivePassWith x p v) (is' : IsRecursivePassWith x q w) where
  after_it : (n : ℕ) → AtLevel n w → HasLevels x q n
  after_it n at u isu = subst (λ (z : View Mutex). AtLevel n z) (same_view x q w u is' isu) at

  module _ (e : Entry) (k : ℕ) (by : e.by ≡ p.number) (m : Makes locking v w e k) where
    own : e.by.0 ≡ v.number
    own = ap (λ (t : ThreadNo). t.0) by ∙ sym is.numbered

    found : (n : ℕ) → HasLevels x p n → levels_of m.now e.by.0 ≡ n
    found n had = ap (levels_of m.now) own ∙ levels_found n v w e k m is.known.legal.0 own (is.known.own is.counts) (is'.known.own is'.counts) is.known.legal.1 (had v is)

    gets_at : (n : ℕ) → HasLevels x p n → levels_of m.after e.by.0 ≡ levels_of m.now e.by.0 + 1 → HasLevels x q (n + 1)
    gets_at n had a = after_it (n + 1) (levels_after (n + 1) v w e k m own (a ∙ ap (λ (z : ℕ). z + 1) (found n had)))

    -- by a change that adds a level
    pub gets : ((now after : Mutex) → IsFree now → at_entry step now e ≡ Some after → (levels_of now e.by.0 < 1000) × (levels_of after e.by.0 ≡ levels_of now e.by.0 + 1)) → GetsLevel x p q
    gets adds n had =
        let a = adds m.now m.after (free_run m.found v.start m.now (opened_free x p v is) m.leads) m.enabled in
        (subst (λ (z : ℕ). z < 1000) (found n had) a.0, gets_at n had a.1)

    -- by a change that takes one away
    pub loses : ((now after : Mutex) (n : ℕ) → levels_of now e.by.0 ≡ suc n → at_entry step now e ≡ Some after → levels_of after e.by.0 ≡ n) → LosesLevel x p q
    loses takes n had = let f = found (n + 1) had in after_it n (levels_after n v w e k m own (takes m.now m.after n (omega (arith, f)) m.enabled))

  -- by a look
  pub keeps : (l : Look) → Looks locking v w l → KeepsLevels x p q
  keeps l seen n had = after_it n (levels_looked n v w l is.known.legal.0 seen (is.known.own is.counts) (is'.known.own is'.counts) is.known.legal.1 (had v is))

  -- by what leaves its own changes as they are, and lets it see more
  pub keeps_on : IsPrefix v.front w.front → w.mine ≡ v.mine → w.number ≡ v.number → KeepsLevels x p q
  keeps_on later mine number n had = after_it n (still_levels n v w v.mine is.known.legal.0 later (is'.started ∙ sym is.started) number (is.known.own is.counts) (ap (λ (z : ℕ). positions z 0 w.front) (sym number) ∙ (is'.known.own is'.counts ∙ mine)) is.known.legal.1 (had v is))

-- a pass that made no change has none
pub has_none : (x : RecursiveMutex) (q : Pass Mutex) (w : View Mutex) → IsRecursivePassWith x q w → w.mine ≡ [] → HasLevels x q 0
has_none x q w is none u isu =
    let free : levels_of w.start w.number ≡ 0 = ap (λ (m : Mutex). levels_of m w.number) (is.started ∙ x.opened) in
    subst (λ (z : View Mutex). AtLevel 0 z) (same_view x q w u is isu) (no_level w free (is.known.own is.counts ∙ none))
