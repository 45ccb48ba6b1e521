-- Who owns a shared mutex stays so while others act, and what a change or a look tells of its thread.
use Rattle.std.proofs.Common.{◌≡◌, ◌≢◌, ◌∙◌, ℕ, zero, ◌&&◌, ◌||◌, ◌==◌, ℤ, pos, Bool, true, false, not, List, [], ◌∷◌, length, Option, Some, None, is_none, is_some, refl, sym, eq-eqb, ne_eqb}
use Rattle.std.proofs.lemmas.Bool.{and_parts, or_parts}
use Rattle.cx_names.specs.declared.ThreadNo.{ThreadNo}
use Rattle.cx_names.specs.declared.Reply.{Reply}
use Rattle.cx_names.specs.declared.Reply.TheVariants as replies
use Rattle.cx_machine.specs.declared.kind.Entry.{Entry}
use Rattle.cx_machine.specs.declared.kind.Op.{Op}
use Rattle.cx_machine.specs.declared.kind.Op.TheVariants as ops
use Rattle.cx_machine.specs.Acts.{at_entry, at_look}
use Rattle.cx_machine.specs.Kept.{made}
use Rattle.cx_machine.specs.Meaning.{run, change, look_of, IsShut, ShowsNone}
use Rattle.cx_machine.specs.Words.{is_thread, has, small_of, when}
use Rattle.cx_machine.specs.Shared.{Shared, is_free, can_read, locked, unlocked, read_by, left_by, step, shows}
use Rattle.cx_machine.proofs.Owners.{AreOthers, kept_by, only_owner}
use Rattle.cx_shared_mutex.specs.Owners.{writes, reads}
use Rattle.cx_shared_mutex.proofs.AmongReaders.{has_push_other, has_push_self, has_without_self, has_without_other, nobody_reads}

-- whether a thread is the writer, and whether it is among the readers
abbrev pub Stands : Bool → Bool → Shared → ℕ → Type 0
Stands w r s n = (writes s n ≡ w) × (reads s n ≡ r)

-- ---- the acts of others

nobody_writes : (o : Option ℕ) (n : ℕ) → is_none o ≡ true → is_thread o n ≡ false
nobody_writes None n e = refl
nobody_writes (Some t) n e = cc e

free_parts : (s : Shared) (n : ℕ) → is_free s ≡ true → (writes s n ≡ false) × (reads s n ≡ false)
free_parts s n f = let p = and_parts (is_none s.writer) (length s.readers == 0) f in (nobody_writes s.writer n p.0, nobody_reads s.readers n p.1)

locks_else : (w r : Bool) (n : ℕ) (s : Shared) (by : ℕ) → by ≢ n → Stands w r s n → is_free s ≡ true → Stands w r (locked s by) n
locks_else w r n s by ne is f = (ne_eqb by n ne ∙ (sym (free_parts s n f).0 ∙ is.0), is.1)

stands_step : (w r : Bool) (n : ℕ) (s s' : Shared) (by : ℕ) (op : Op) (a : Option ℕ) (v : ℤ) (reply : Reply) → by ≢ n → Stands w r s n → step s by op a v reply ≡ Some s' → Stands w r s' n
stands_step w r n s s' by ops.Lock (Some zero) (pos zero) replies.Ok ne is e = made (λ x. Stands w r x n) (is_free s) (locked s by) s' (locks_else w r n s by ne is) e
stands_step w r n s s' by ops.TryLock (Some zero) (pos zero) replies.True ne is e = made (λ x. Stands w r x n) (is_free s) (locked s by) s' (locks_else w r n s by ne is) e
stands_step w r n s s' by ops.Unlock (Some zero) (pos zero) replies.Ok ne is e = made (λ x. Stands w r x n) (is_thread s.writer by) (unlocked s) s' (λ c. (sym (only_owner s.writer by n ne c) ∙ is.0, is.1)) e
stands_step w r n s s' by ops.LockShared (Some zero) (pos zero) replies.Ok ne is e = made (λ x. Stands w r x n) (can_read s by) (read_by s by) s' (λ c. (is.0, has_push_other s.readers by n ne ∙ is.1)) e
stands_step w r n s s' by ops.TryLockShared (Some zero) (pos zero) replies.True ne is e = made (λ x. Stands w r x n) (can_read s by) (read_by s by) s' (λ c. (is.0, has_push_other s.readers by n ne ∙ is.1)) e
stands_step w r n s s' by ops.UnlockShared (Some zero) (pos zero) replies.Ok ne is e = made (λ x. Stands w r x n) (has s.readers by) (left_by s by) s' (λ c. (is.0, has_without_other s.readers by n ne ∙ is.1)) e
stands_step w r n s s' by _ _ _ _ ne is e = cc e

pub stands_run : (w r : Bool) (n : ℕ) (es : List Entry) (s s' : Shared) → AreOthers n es → Stands w r s n → run (at_entry step) (Some s) es ≡ Some s' → Stands w r s' n
stands_run w r n es s s' others is e = kept_by (at_entry step) (λ x. x.by.0 ≢ n) (λ x. Stands w r x n) (λ m m' x ne was on. stands_step w r n m m' x.by.0 x.op (small_of x.a) x.b x.reply ne was on) es s s' others is e

-- ---- its own changes

writes_now : (s : Shared) (by : ℕ) → is_free s ≡ true → Stands true false (locked s by) by
writes_now s by f = (eq-eqb by by refl, (free_parts s by f).1)

reads_now : (s : Shared) (by : ℕ) → can_read s by ≡ true → Stands false true (read_by s by) by
reads_now s by c = (nobody_writes s.writer by (and_parts (is_none s.writer) (not (has s.readers by)) c).0, has_push_self s.readers by)

pub locked_writes : (now after : Shared) (by : ThreadNo) (r : Reply) → at_entry step now (change by ops.Lock (pos 0) (pos 0) r) ≡ Some after → Stands true false after by.0
locked_writes now after by replies.Ok e = made (λ x. Stands true false x by.0) (is_free now) (locked now by.0) after (writes_now now by.0) e
locked_writes now after by _ e = cc e

pub tried_writes : (now after : Shared) (by : ThreadNo) (r : Reply) → at_entry step now (change by ops.TryLock (pos 0) (pos 0) r) ≡ Some after → (r ≡ replies.True) × Stands true false after by.0
tried_writes now after by replies.True e = (refl, made (λ x. Stands true false x by.0) (is_free now) (locked now by.0) after (writes_now now by.0) e)
tried_writes now after by _ e = cc e

pub locked_reads : (now after : Shared) (by : ThreadNo) (r : Reply) → at_entry step now (change by ops.LockShared (pos 0) (pos 0) r) ≡ Some after → Stands false true after by.0
locked_reads now after by replies.Ok e = made (λ x. Stands false true x by.0) (can_read now by.0) (read_by now by.0) after (reads_now now by.0) e
locked_reads now after by _ e = cc e

pub tried_reads : (now after : Shared) (by : ThreadNo) (r : Reply) → at_entry step now (change by ops.TryLockShared (pos 0) (pos 0) r) ≡ Some after → (r ≡ replies.True) × Stands false true after by.0
tried_reads now after by replies.True e = (refl, made (λ x. Stands false true x by.0) (can_read now by.0) (read_by now by.0) after (reads_now now by.0) e)
tried_reads now after by _ e = cc e

pub unlocked_bare : (now after : Shared) (by : ThreadNo) (r : Reply) → Stands true false now by.0 → at_entry step now (change by ops.Unlock (pos 0) (pos 0) r) ≡ Some after → (r ≡ replies.Ok) × Stands false false after by.0
unlocked_bare now after by replies.Ok is e = (refl, made (λ x. Stands false false x by.0) (is_thread now.writer by.0) (unlocked now) after (λ c. (refl, is.1)) e)
unlocked_bare now after by _ is e = cc e

pub left_bare : (now after : Shared) (by : ThreadNo) (r : Reply) → Stands false true now by.0 → at_entry step now (change by ops.UnlockShared (pos 0) (pos 0) r) ≡ Some after → (r ≡ replies.Ok) × Stands false false after by.0
left_bare now after by replies.Ok is e = (refl, made (λ x. Stands false false x by.0) (has now.readers by.0) (left_by now by.0) after (λ c. (is.0, has_without_self now.readers by.0)) e)
left_bare now after by _ is e = cc e

-- ---- what can't be

open_when : {A : Type 0} (b : Bool) (x : A) → b ≡ true → ◌≡◌ {A = Option A} (when b x) None → ⊥
open_when true x is e = cc e
open_when false x is e = cc is

-- a writer can unlock, and so can a reader
pub writer_unlocks : (s : Shared) (by : ThreadNo) → Stands true false s by.0 → IsShut (at_entry step) s by ops.Unlock (pos 0) (pos 0) → ⊥
writer_unlocks s by is shut = open_when (is_thread s.writer by.0) (unlocked s) is.0 (shut replies.Ok)

pub reader_unlocks : (s : Shared) (by : ThreadNo) → Stands false true s by.0 → IsShut (at_entry step) s by ops.UnlockShared (pos 0) (pos 0) → ⊥
reader_unlocks s by is shut = open_when (has s.readers by.0) (left_by s by.0) is.1 (shut replies.Ok)

never_both : {A : Type 0} (b : Bool) (x : A) → ◌≡◌ {A = Option A} (when b x) None → not b ≡ false → ⊥
never_both true x e f = cc
never_both false x e f = cc

-- a shared mutex can be locked, or it shows that it can't
pub locks_or_not : (s : Shared) (by : ThreadNo) → IsShut (at_entry step) s by ops.TryLock (pos 0) (pos 0) → ShowsNone (at_look shows) s by ops.TryLock (pos 0) (pos 0) → ⊥
locks_or_not s by shut dark = never_both (is_free s) (locked s by.0) (shut replies.True) (dark replies.False 0)

none_or_some : (o : Option ℕ) (r : Bool) → is_some o ≡ false → r ≡ false → (is_none o && not r) ≡ true
none_or_some None true dark f = cc f
none_or_some None false dark f = refl
none_or_some (Some t) r dark f = cc dark

-- one that isn't a reader can share it, or it shows a writer
pub shares_or_not : (s : Shared) (by : ThreadNo) → Stands false false s by.0 → IsShut (at_entry step) s by ops.TryLockShared (pos 0) (pos 0) → ShowsNone (at_look shows) s by ops.TryLockShared (pos 0) (pos 0) → ⊥
shares_or_not s by is shut dark = open_when (can_read s by.0) (read_by s by.0) (none_or_some s.writer (has s.readers by.0) (dark replies.False 0) is.1) (shut replies.True)

-- ---- what a look tells

another_writes : (o : Option ℕ) (n : ℕ) → is_some o ≡ true → is_thread o n ≡ false → (t : ℕ) × (is_thread o t ≡ true) × (t ≢ n)
another_writes None n some none = cc some
another_writes (Some t) n some none = (t, eq-eqb t t refl, λ same. (let g : true ≡ false = sym (eq-eqb t n same) ∙ none in cc))

another_owns : (o : Option ℕ) (rs : List ℕ) (n : ℕ) → not (is_none o && (length rs == 0)) ≡ true → is_thread o n ≡ false → has rs n ≡ false → (t : ℕ) × ((is_thread o t || has rs t) ≡ true) × (t ≢ n)
another_owns (Some t) rs n e none lacks = let own = eq-eqb t t refl in (t, rw own refl, λ same. (let g : true ≡ false = sym (eq-eqb t n same) ∙ none in cc))
another_owns None [] n e none lacks = cc e
another_owns None (x ∷ rs) n e none lacks = let own = eq-eqb x x refl in let p = or_parts (x == n) (has rs n) lacks in (x, rw own refl, λ same. (let g : true ≡ false = sym (eq-eqb x n same) ∙ p.0 in cc))

pub missed_lock : (s : Shared) (by : ThreadNo) (r : Reply) (k : ℕ) → Stands false false s by.0 → at_look shows s (look_of by ops.TryLock (pos 0) (pos 0) r k) ≡ true → (r ≡ replies.False) × ((t : ℕ) × ((writes s t || reads s t) ≡ true) × (t ≢ by.0))
missed_lock s by replies.False k is e = (refl, another_owns s.writer s.readers by.0 e is.0 is.1)
missed_lock s by _ k is e = cc e

pub missed_shared : (s : Shared) (by : ThreadNo) (r : Reply) (k : ℕ) → Stands false false s by.0 → at_look shows s (look_of by ops.TryLockShared (pos 0) (pos 0) r k) ≡ true → (r ≡ replies.False) × ((t : ℕ) × (writes s t ≡ true) × (t ≢ by.0))
missed_shared s by replies.False k is e = (refl, another_writes s.writer by.0 e is.0)
missed_shared s by _ k is e = cc e
