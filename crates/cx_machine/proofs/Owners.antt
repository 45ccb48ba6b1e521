-- Who owns a mutex, and at how many levels, stays so while others act.
use Rattle.std.proofs.Common.{◌≡◌, ◌≢◌, ◌∙◌, ℕ, zero, suc, ◌+◌, ◌≤◌, ◌&&◌, ◌||◌, ℤ, pos, Bool, true, false, not, List, [], ◌∷◌, Option, Some, None, is_none, refl, sym, ap, subst, arith, nat_lt, nat_le, if◌then◌else◌, eq-eqb, ne_eqb, ◌⊎◌, inl, inr}
use Rattle.std.proofs.lemmas.Bool.{and_parts, cases_Bool, eqb-true, le-leb, leb-true}
use Rattle.cx_names.specs.declared.ThreadNo.{ThreadNo}
use Rattle.cx_names.specs.declared.Reply.{Reply}
use Rattle.cx_names.specs.declared.Reply.TheVariants as replies
use Rattle.cx_machine.specs.declared.kind.Entry.{Entry}
use Rattle.cx_machine.specs.declared.kind.Op.{Op}
use Rattle.cx_machine.specs.declared.kind.Op.TheVariants as ops
use Rattle.cx_machine.specs.Acts.{at_entry, at_look}
use Rattle.cx_machine.specs.Kept.{made, none_after}
use Rattle.cx_machine.specs.Meaning.{run, change, look_of, IsShut, ShowsNone}
use Rattle.cx_machine.specs.Words.{is_thread, small_of, when}
use Rattle.cx_machine.specs.Mutex.{Mutex, opening, owns, can_lock, levels_of, locked, unlocked, with_number, added, sum_at, step, shows}

-- ---- histories

-- all changes of the history are like this
abbrev pub Every : (Entry → Type 0) → List Entry → Type 0
Every P [] = Unit {0}
Every P (e ∷ es) = P e × Every P es

-- no change in the history is of this thread
abbrev pub AreOthers : ℕ → List Entry → Type 0
AreOthers n es = Every (λ e. e.by.0 ≢ n) es

some_is : {A : Type 0} (a b : A) → ◌≡◌ {A = Option A} (Some a) (Some b) → a ≡ b
some_is a b e = cc

-- what each such change keeps, a history of such changes keeps
pub kept_by : {M : Type 0} (step : M → Entry → Option M) (P : Entry → Type 0) (Good : M → Type 0) → ((m m' : M) (e : Entry) → P e → Good m → step m e ≡ Some m' → Good m') → (es : List Entry) (m m' : M) → Every P es → Good m → run step (Some m) es ≡ Some m' → Good m'
kept_by step P Good one [] m m' each g e = subst Good (some_is m m' e) g
kept_by {M} step P Good one (x ∷ xs) m m' each g e = further (step m x) refl e (λ t h f. kept_by step P Good one xs t m' each.1 h f)
  where
    further : (o : Option M) → step m x ≡ o → run step o xs ≡ Some m' → ((t : M) → Good t → run step (Some t) xs ≡ Some m' → Good m') → Good m'
    further None was f more = absurd (none_after step xs m' f)
    further (Some t) was f more = more t (one m t x each.0 g was) f

pub every : (es : List Entry) → Every (λ e. Unit {0}) es
every [] = tt
every (e ∷ es) = (tt, every es)

-- ---- owners

-- a thread that owns the mutex is the only one
pub only_owner : (o : Option ℕ) (by n : ℕ) → by ≢ n → is_thread o by ≡ true → is_thread o n ≡ false
only_owner None by n ne e = refl
only_owner (Some t) by n ne e = let same : t ≡ by = eqb-true t by e in ne_eqb t n (λ f. ne (sym same ∙ f))

-- who can lock leaves nobody else as the owner
pub nobody_else : (m : Mutex) (by n : ℕ) → by ≢ n → can_lock m by ≡ true → owns m n ≡ false
nobody_else m by n ne = cases m.owner m.recursive
  where
    cases : (o : Option ℕ) (r : Bool) → (is_none o || (r && is_thread o by && nat_lt m.level 1000)) ≡ true → is_thread o n ≡ false
    cases None r e = refl
    cases (Some t) r e = only_owner (Some t) by n ne (and_parts r (is_thread (Some t) by) (and_parts (r && is_thread (Some t) by) (nat_lt m.level 1000) e).0).1

pub unlocked_else : (m : Mutex) (n : ℕ) → owns m n ≡ false → owns (unlocked m) n ≡ false
unlocked_else m n e = elim (nat_le m.level 1) as (λ c. is_thread (if c then None else m.owner) n ≡ false) [ true ↦ refl | false ↦ e ]

-- whether a thread owns the mutex stays as it is when another makes a change
pub owning_step : (b : Bool) (n : ℕ) (m m' : Mutex) (by : ℕ) (op : Op) (a : Option ℕ) (v : ℤ) (r : Reply) → by ≢ n → owns m n ≡ b → step m by op a v r ≡ Some m' → owns m' n ≡ b
owning_step b n m m' by ops.Lock (Some zero) (pos zero) replies.Ok ne is e = made (λ x. owns x n ≡ b) (can_lock m by) (locked m by) m' (λ c. ne_eqb by n ne ∙ (sym (nobody_else m by n ne c) ∙ is)) e
owning_step b n m m' by ops.TryLock (Some zero) (pos zero) replies.True ne is e = made (λ x. owns x n ≡ b) (can_lock m by) (locked m by) m' (λ c. ne_eqb by n ne ∙ (sym (nobody_else m by n ne c) ∙ is)) e
owning_step b n m m' by ops.Unlock (Some zero) (pos zero) replies.Ok ne is e = made (λ x. owns x n ≡ b) (owns m by) (unlocked m) m' (λ c. let f = only_owner m.owner by n ne c in unlocked_else m n f ∙ (sym f ∙ is)) e
owning_step b n m m' by ops.Set (Some i) v replies.Ok ne is e = made (λ x. owns x n ≡ b) _ (with_number m i v) m' (λ c. is) e
owning_step b n m m' by ops.Add (Some i) v (replies.Number r) ne is e = summed (sum_at m by i v) e
  where
    summed : (s : Option ℤ) → added m i r s ≡ Some m' → owns m' n ≡ b
    summed None f = cc f
    summed (Some s) f = made (λ x. owns x n ≡ b) _ (with_number m i r) m' (λ c. is) f
owning_step b n m m' by _ _ _ _ ne is e = cc e

pub others_run : (b : Bool) (n : ℕ) (es : List Entry) (m m' : Mutex) → AreOthers n es → owns m n ≡ b → run (at_entry step) (Some m) es ≡ Some m' → owns m' n ≡ b
others_run b n es m m' others is e = kept_by (at_entry step) (λ x. x.by.0 ≢ n) (λ x. owns x n ≡ b) (λ s t x ne was on. owning_step b n s t x.by.0 x.op (small_of x.a) x.b x.reply ne was on) es m m' others is e

-- ---- levels

-- a mutex that nobody owns is at no level
abbrev pub IsFree : Mutex → Type 0
IsFree m = m.owner ≡ None → m.level ≡ 0

free_step : (m m' : Mutex) (by : ℕ) (op : Op) (a : Option ℕ) (v : ℤ) (r : Reply) → IsFree m → step m by op a v r ≡ Some m' → IsFree m'
free_step m m' by ops.Lock (Some zero) (pos zero) replies.Ok p e = made IsFree (can_lock m by) (locked m by) m' (λ _ f. cc f) e
free_step m m' by ops.TryLock (Some zero) (pos zero) replies.True p e = made IsFree (can_lock m by) (locked m by) m' (λ _ f. cc f) e
free_step m m' by ops.Unlock (Some zero) (pos zero) replies.Ok p e = made IsFree (owns m by) (unlocked m) m' (λ _. out (cases_Bool (nat_le m.level 1))) e
  where
    out : (nat_le m.level 1 ≡ true) ⊎ (nat_le m.level 1 ≡ false) → IsFree (unlocked m)
    out (inl low) f = let l = leb-true m.level 1 low in omega (arith, l)
    out (inr up) f = let g : m.owner ≡ None = rw up at f in let z = p g in omega (arith, z)
free_step m m' by ops.Set (Some i) v replies.Ok p e = made IsFree _ (with_number m i v) m' (λ _. p) e
free_step m m' by ops.Add (Some i) v (replies.Number r) p e = summed (sum_at m by i v) e
  where
    summed : (s : Option ℤ) → added m i r s ≡ Some m' → IsFree m'
    summed None f = cc f
    summed (Some s) f = made IsFree _ (with_number m i r) m' (λ _. p) f
free_step m m' by _ _ _ _ p e = cc e

pub free_run : (es : List Entry) (m m' : Mutex) → IsFree m → run (at_entry step) (Some m) es ≡ Some m' → IsFree m'
free_run es m m' p e = kept_by (at_entry step) (λ x. Unit {0}) IsFree (λ s t x _ was on. free_step s t x.by.0 x.op (small_of x.a) x.b x.reply was on) es m m' (every es) p e

no_levels : (m : Mutex) (n : ℕ) → owns m n ≡ false → levels_of m n ≡ 0
no_levels m n e = rw e refl

-- how many levels a thread has stays as it is when another makes a change
pub levels_step : (k n : ℕ) (m m' : Mutex) (by : ℕ) (op : Op) (a : Option ℕ) (v : ℤ) (r : Reply) → by ≢ n → levels_of m n ≡ k → step m by op a v r ≡ Some m' → levels_of m' n ≡ k
levels_step k n m m' by ops.Lock (Some zero) (pos zero) replies.Ok ne is e = made (λ x. levels_of x n ≡ k) (can_lock m by) (locked m by) m' (λ c. no_levels (locked m by) n (ne_eqb by n ne) ∙ (sym (no_levels m n (nobody_else m by n ne c)) ∙ is)) e
levels_step k n m m' by ops.TryLock (Some zero) (pos zero) replies.True ne is e = made (λ x. levels_of x n ≡ k) (can_lock m by) (locked m by) m' (λ c. no_levels (locked m by) n (ne_eqb by n ne) ∙ (sym (no_levels m n (nobody_else m by n ne c)) ∙ is)) e
levels_step k n m m' by ops.Unlock (Some zero) (pos zero) replies.Ok ne is e = made (λ x. levels_of x n ≡ k) (owns m by) (unlocked m) m' (λ c. let f = only_owner m.owner by n ne c in no_levels (unlocked m) n (unlocked_else m n f) ∙ (sym (no_levels m n f) ∙ is)) e
levels_step k n m m' by ops.Set (Some i) v replies.Ok ne is e = made (λ x. levels_of x n ≡ k) _ (with_number m i v) m' (λ c. is) e
levels_step k n m m' by ops.Add (Some i) v (replies.Number r) ne is e = summed (sum_at m by i v) e
  where
    summed : (s : Option ℤ) → added m i r s ≡ Some m' → levels_of m' n ≡ k
    summed None f = cc f
    summed (Some s) f = made (λ x. levels_of x n ≡ k) _ (with_number m i r) m' (λ c. is) f
levels_step k n m m' by _ _ _ _ ne is e = cc e

pub others_levels : (k n : ℕ) (es : List Entry) (m m' : Mutex) → AreOthers n es → levels_of m n ≡ k → run (at_entry step) (Some m) es ≡ Some m' → levels_of m' n ≡ k
others_levels k n es m m' others is e = kept_by (at_entry step) (λ x. x.by.0 ≢ n) (λ x. levels_of x n ≡ k) (λ s t x ne was on. levels_step k n s t x.by.0 x.op (small_of x.a) x.b x.reply ne was on) es m m' others is e

-- who locks has one level more
levels_locked : (m : Mutex) (by : ℕ) → IsFree m → can_lock m by ≡ true → levels_of (locked m by) by ≡ levels_of m by + 1
levels_locked m by free c = one_more ∙ ap (λ (n : ℕ). n + 1) (sym (at m.owner refl c))
  where
    one_more : levels_of (locked m by) by ≡ m.level + 1
    one_more = let e = eq-eqb by by refl in rw e refl

    at : (o : Option ℕ) → m.owner ≡ o → (is_none o || (m.recursive && is_thread o by && nat_lt m.level 1000)) ≡ true → levels_of m by ≡ m.level
    at None is e = let z = free is in rw (is, z) refl
    at (Some t) is e = let own : is_thread (Some t) by ≡ true = (and_parts m.recursive (is_thread (Some t) by) (and_parts (m.recursive && is_thread (Some t) by) (nat_lt m.level 1000) e).0).1 in rw (is, own) refl

pub lock_adds : (now after : Mutex) (by : ThreadNo) (r : Reply) → IsFree now → at_entry step now (change by ops.Lock (pos 0) (pos 0) r) ≡ Some after → levels_of after by.0 ≡ levels_of now by.0 + 1
lock_adds now after by replies.Ok free e = made (λ x. levels_of x by.0 ≡ levels_of now by.0 + 1) (can_lock now by.0) (locked now by.0) after (levels_locked now by.0 free) e
lock_adds now after by _ free e = cc e

pub try_lock_adds : (now after : Mutex) (by : ThreadNo) (r : Reply) → IsFree now → at_entry step now (change by ops.TryLock (pos 0) (pos 0) r) ≡ Some after → levels_of after by.0 ≡ levels_of now by.0 + 1
try_lock_adds now after by replies.True free e = made (λ x. levels_of x by.0 ≡ levels_of now by.0 + 1) (can_lock now by.0) (locked now by.0) after (levels_locked now by.0 free) e
try_lock_adds now after by _ free e = cc e

-- who unlocks has one level less
levels_unlocked : (m : Mutex) (by n : ℕ) → owns m by ≡ true → levels_of m by ≡ suc n → levels_of (unlocked m) by ≡ n
levels_unlocked m by n own is = out (cases_Bool (nat_le m.level 1))
  where
    level : m.level ≡ suc n
    level = rw own at is

    out : (nat_le m.level 1 ≡ true) ⊎ (nat_le m.level 1 ≡ false) → levels_of (unlocked m) by ≡ n
    out (inl low) = let l = leb-true m.level 1 low in rw low (omega (arith, l, level))
    out (inr up) = rw (up, own) (omega (arith, level))

pub unlock_takes : (now after : Mutex) (by : ThreadNo) (r : Reply) (n : ℕ) → levels_of now by.0 ≡ suc n → at_entry step now (change by ops.Unlock (pos 0) (pos 0) r) ≡ Some after → levels_of after by.0 ≡ n
unlock_takes now after by replies.Ok n is e = made (λ x. levels_of x by.0 ≡ n) (owns now by.0) (unlocked now) after (λ own. levels_unlocked now by.0 n own is) e
unlock_takes now after by _ n is e = cc e

-- who has a level owns the mutex
pub levels_own : (m : Mutex) (by n : ℕ) → levels_of m by ≡ suc n → owns m by ≡ true
levels_own m by n is = at (cases_Bool (owns m by))
  where
    at : (owns m by ≡ true) ⊎ (owns m by ≡ false) → owns m by ≡ true
    at (inl e) = e
    at (inr e) = let z = no_levels m by e in absurd (omega (arith, z, is))

-- ---- plain mutexes

-- a plain mutex has at most one level, and none while nobody owns it
pub record IsPlain (m : Mutex) : Type 0 where
  pub plain : m.recursive ≡ false
  pub free : IsFree m
  pub low : m.level ≤ 1

plain_lock : (m : Mutex) (by : ℕ) → IsPlain m → can_lock m by ≡ true → IsPlain (locked m by)
plain_lock m by p c =
    let nobody : m.owner ≡ None = none_is m.owner (subst (λ r. (is_none m.owner || (r && owns m by && nat_lt m.level 1000)) ≡ true) p.plain c) in
    let zero = p.free nobody in
    record { plain = p.plain; free = λ e. absurd (let z : Some by ≡ None = e in cc); low = omega (arith, zero) }
  where
    none_is : (o : Option ℕ) → (is_none o || false) ≡ true → o ≡ None
    none_is None e = refl
    none_is (Some t) e = cc e

plain_unlock : (m : Mutex) → IsPlain m → IsPlain (unlocked m)
plain_unlock m p = record { plain = p.plain; free = λ e. (let l = p.low in omega (arith, l)); low = (let l = p.low in omega (arith, l)) }

pub plain_step : (m m' : Mutex) (by : ℕ) (op : Op) (a : Option ℕ) (v : ℤ) (r : Reply) → IsPlain m → step m by op a v r ≡ Some m' → IsPlain m'
plain_step m m' by ops.Lock (Some zero) (pos zero) replies.Ok p e = made IsPlain (can_lock m by) (locked m by) m' (plain_lock m by p) e
plain_step m m' by ops.TryLock (Some zero) (pos zero) replies.True p e = made IsPlain (can_lock m by) (locked m by) m' (plain_lock m by p) e
plain_step m m' by ops.Unlock (Some zero) (pos zero) replies.Ok p e = made IsPlain (owns m by) (unlocked m) m' (λ c. plain_unlock m p) e
plain_step m m' by ops.Set (Some i) v replies.Ok p e = made IsPlain _ (with_number m i v) m' (λ c. record { plain = p.plain; free = p.free; low = p.low }) e
plain_step m m' by ops.Add (Some i) v (replies.Number r) p e = summed (sum_at m by i v) e
  where
    summed : (s : Option ℤ) → added m i r s ≡ Some m' → IsPlain m'
    summed None f = cc f
    summed (Some s) f = made IsPlain _ (with_number m i r) m' (λ c. record { plain = p.plain; free = p.free; low = p.low }) f
plain_step m m' by _ _ _ _ p e = cc e

pub plain_run : (es : List Entry) (m m' : Mutex) → IsPlain m → run (at_entry step) (Some m) es ≡ Some m' → IsPlain m'
plain_run es m m' p e = kept_by (at_entry step) (λ x. Unit {0}) IsPlain (λ s t x _ was on. plain_step s t x.by.0 x.op (small_of x.a) x.b x.reply was on) es m m' (every es) p e

pub plain_first : (numbers : ℕ) → IsPlain (opening false numbers)
plain_first numbers = record { plain = refl; free = λ e. refl; low = omega arith }

-- ---- what a change or a look tells of its thread

-- who locked owns
pub locked_owns : (now after : Mutex) (by : ThreadNo) (r : Reply) → at_entry step now (change by ops.Lock (pos 0) (pos 0) r) ≡ Some after → owns after by.0 ≡ true
locked_owns now after by replies.Ok e = made (λ x. owns x by.0 ≡ true) (can_lock now by.0) (locked now by.0) after (λ c. eq-eqb by.0 by.0 refl) e
locked_owns now after by _ e = cc e

pub tried_owns : (now after : Mutex) (by : ThreadNo) (r : Reply) → at_entry step now (change by ops.TryLock (pos 0) (pos 0) r) ≡ Some after → (r ≡ replies.True) × (owns after by.0 ≡ true)
tried_owns now after by replies.True e = (refl, made (λ x. owns x by.0 ≡ true) (can_lock now by.0) (locked now by.0) after (λ c. eq-eqb by.0 by.0 refl) e)
tried_owns now after by _ e = cc e

pub tried_not : (now : Mutex) (by : ThreadNo) (r : Reply) (k : ℕ) → at_look shows now (look_of by ops.TryLock (pos 0) (pos 0) r k) ≡ true → r ≡ replies.False
tried_not now by replies.False k e = refl
tried_not now by _ k e = cc e

-- and who unlocked a plain mutex doesn't
pub unlocked_bare : (start now after : Mutex) (es : List Entry) (by : ThreadNo) (r : Reply) → IsPlain start → run (at_entry step) (Some start) es ≡ Some now → at_entry step now (change by ops.Unlock (pos 0) (pos 0) r) ≡ Some after → owns after by.0 ≡ false
unlocked_bare start now after es by replies.Ok plain leads e = made (λ x. owns x by.0 ≡ false) (owns now by.0) (unlocked now) after
    (λ c. let low = (plain_run es start now plain leads).low in ap (λ (b : Bool). is_thread (if b then None else now.owner) by.0) (le-leb now.level 1 low)) e
unlocked_bare start now after es by _ plain leads e = cc e

never_both : {A : Type 0} (b : Bool) (x : A) → ◌≡◌ {A = Option A} (when b x) None → not b ≡ false → ⊥
never_both true x e f = cc
never_both false x e f = cc

-- a mutex can be locked, or it shows that it can't
pub locks_or_not : (m : Mutex) (by : ThreadNo) → IsShut (at_entry step) m by ops.TryLock (pos 0) (pos 0) → ShowsNone (at_look shows) m by ops.TryLock (pos 0) (pos 0) → ⊥
locks_or_not m by shut dark = never_both (can_lock m by.0) (locked m by.0) (shut replies.True) (dark replies.False 0)

-- a plain mutex that its thread can't lock, and doesn't own, has another owner
pub owner_there : (m : Mutex) (by : ℕ) → IsPlain m → not (can_lock m by) ≡ true → owns m by ≡ false → (t : ℕ) × (m.owner ≡ Some t) × (t ≢ by)
owner_there m by p shut free = at m.owner (subst (λ r. not (is_none m.owner || (r && owns m by && nat_lt m.level 1000)) ≡ true) p.plain shut) free refl
  where
    at : (o : Option ℕ) → not (is_none o || false) ≡ true → is_thread o by ≡ false → m.owner ≡ o → (t : ℕ) × (m.owner ≡ Some t) × (t ≢ by)
    at None e f is = cc e
    at (Some t) e f is = (t, is, λ same. (let g : true ≡ false = sym (eq-eqb t by same) ∙ f in cc))

pub shown_shut : (m : Mutex) (by : ThreadNo) (r : Reply) (k : ℕ) → at_look shows m (look_of by ops.TryLock (pos 0) (pos 0) r k) ≡ true → not (can_lock m by.0) ≡ true
shown_shut m by replies.False k e = e
shown_shut m by _ k e = cc e
