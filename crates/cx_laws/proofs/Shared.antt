-- Who owns a shared mutex, exclusively or shared, by its locks and unlocks.
use Rattle.std.proofs.Common.{◌≡◌, ℕ, zero, ◌+◌, ◌≤◌, ◌==◌, ◌&&◌, not, ℤ, pos, Bool, true, false, List, [], ◌∷◌, length, Option, Some, None, is_none, refl, ap, subst, arith, nat_eq, ◌⊎◌, inl, inr}
use Rattle.std.proofs.lemmas.Bool.{eqb-true, and_parts, cases_Bool, not-true}
use Rattle.cx_names.specs.declared.Reply.{Reply}
use Rattle.cx_names.specs.declared.Reply.TheVariants as replies
use Rattle.cx_machine.specs.declared.kind.Kind.TheVariants as kinds
use Rattle.cx_machine.specs.declared.kind.Entry.{Entry}
use Rattle.cx_machine.specs.declared.kind.Op.{Op}
use Rattle.cx_machine.specs.declared.kind.Op.TheVariants as ops
use Rattle.cx_machine.specs.Acts.{at_entry}
use Rattle.cx_machine.specs.Kept.{made}
use Rattle.cx_machine.specs.Meaning.{run, bit, times, IsOnceEach}
use Rattle.cx_machine.specs.Words.{small_of, is_thread, has, without}
use Rattle.cx_machine.specs.Distinct.{times-append, once_push, once_without}
use Rattle.cx_machine.specs.Waiters.{times_some, times_gone}
use Rattle.cx_machine.proofs.Counts.{times_kept}
use Rattle.cx_machine.specs.Machine.{IsLegal, Shared as AShared}
use Rattle.cx_machine.specs.Shared.{Shared, opening, is_free, locked, can_read, read_by, unlocked, left_by, step}
use Rattle.cx_laws.specs.History.{count}
use Rattle.cx_laws.specs.Mutex.{is_lock, is_unlock, locks, unlocks, Owns}
use Rattle.cx_laws.specs.Shared.{is_lock_shared, is_unlock_shared, locks_shared, unlocks_shared, Shares}
use Rattle.cx_laws.proofs.Along.{balanced, reaches}

-- a writer is alone, and each reader stands once
record Sound (s : Shared) : Type 0 where
  once : IsOnceEach s.readers
  alone : (t : ℕ) → s.writer ≡ Some t → s.readers ≡ []

abbrev Counts : ℕ → Shared → Op → ℕ → Shared → Type 0
Counts n s op by t = Sound t × (bit (is_thread s.writer n) + bit (is_lock op && (by == n)) ≡ bit (is_unlock op && (by == n)) + bit (is_thread t.writer n)) × (times n s.readers + bit (is_lock_shared op && (by == n)) ≡ bit (is_unlock_shared op && (by == n)) + times n t.readers)

none_is : (o : Option ℕ) → is_none o ≡ true → o ≡ None
none_is None e = refl
none_is (Some t) e = cc e

empty : (ns : List ℕ) → (length ns == 0) ≡ true → ns ≡ []
empty [] e = refl
empty (n ∷ ns) e = absurd (let z = eqb-true (length (n ∷ ns)) 0 e in omega (arith, z))

lock : (n : ℕ) (s : Shared) (by : ℕ) → Sound s → is_free s ≡ true → Counts n s ops.Lock by (locked s by)
lock n s by g c =
    let p = and_parts (is_none s.writer) (length s.readers == 0) c in
    let w = none_is s.writer p.0 in
    (record { once = g.once; alone = λ t e. empty s.readers p.1 }, rw w (omega arith), omega arith)

unlock : (n : ℕ) (s : Shared) (by : ℕ) → Sound s → is_thread s.writer by ≡ true → Counts n s ops.Unlock by (unlocked s)
unlock n s by g c = (record { once = g.once; alone = λ t e. cc e }, at s.writer c, omega arith)
  where
    at : (o : Option ℕ) → is_thread o by ≡ true → bit (is_thread o n) + 0 ≡ bit (by == n) + 0
    at None e = cc e
    at (Some t) e = ap (λ x. bit (x == n) + 0) (eqb-true t by e)

read : (n : ℕ) (s : Shared) (by : ℕ) → Sound s → can_read s by ≡ true → Counts n s ops.LockShared by (read_by s by)
read n s by g c =
    let p = and_parts (is_none s.writer) (not (has s.readers by)) c in
    let w = none_is s.writer p.0 in
    let a = times-append n s.readers (by ∷ []) in
    (record { once = once_push s.readers by g.once (not-true _ p.1); alone = λ t e. (let f : None ≡ Some t = rw w at e in cc f) }, omega arith, omega (arith, a))

-- who leaves stood there once
leaves : (n : ℕ) (ms : List ℕ) (by : ℕ) → IsOnceEach ms → has ms by ≡ true → times n ms + 0 ≡ bit (by == n) + times n (without ms by)
leaves n ms by once h = at (cases_Bool (nat_eq by n))
  where
    at : (nat_eq by n ≡ true) ⊎ (nat_eq by n ≡ false) → times n ms + 0 ≡ bit (by == n) + times n (without ms by)
    at (inl e) =
        let same = eqb-true by n e in
        let s : 1 ≤ times n ms = subst (λ x. 1 ≤ times x ms) same (times_some by ms h) in
        let z : times n (without ms by) ≡ 0 = subst (λ x. times x (without ms by) ≡ 0) same (times_gone by ms) in
        let o = once n in
        rw e (omega (arith, s, z, o))
    at (inr e) = let k = times_kept ms by n e in rw e (omega (arith, k))

leave : (n : ℕ) (s : Shared) (by : ℕ) → Sound s → has s.readers by ≡ true → Counts n s ops.UnlockShared by (left_by s by)
leave n s by g c = (record { once = once_without s.readers by g.once; alone = λ t e. ap (λ ms. without ms by) (g.alone t e) }, omega arith, leaves n s.readers by g.once c)

one : (n : ℕ) (s t : Shared) (by : ℕ) (op : Op) (a : Option ℕ) (b : ℤ) (r : Reply) → Sound s → step s by op a b r ≡ Some t → Counts n s op by t
one n s t by ops.Lock (Some zero) (pos zero) replies.Ok g e = made (Counts n s ops.Lock by) (is_free s) (locked s by) t (lock n s by g) e
one n s t by ops.TryLock (Some zero) (pos zero) replies.True g e = made (Counts n s ops.TryLock by) (is_free s) (locked s by) t (lock n s by g) e
one n s t by ops.Unlock (Some zero) (pos zero) replies.Ok g e = made (Counts n s ops.Unlock by) (is_thread s.writer by) (unlocked s) t (unlock n s by g) e
one n s t by ops.LockShared (Some zero) (pos zero) replies.Ok g e = made (Counts n s ops.LockShared by) (can_read s by) (read_by s by) t (read n s by g) e
one n s t by ops.TryLockShared (Some zero) (pos zero) replies.True g e = made (Counts n s ops.TryLockShared by) (can_read s by) (read_by s by) t (read n s by g) e
one n s t by ops.UnlockShared (Some zero) (pos zero) replies.Ok g e = made (Counts n s ops.UnlockShared by) (has s.readers by) (left_by s by) t (leave n s by g) e
one n s t by _ _ _ _ g e = cc e

first : Sound opening
first = record { once = λ k. omega arith; alone = λ t e. refl }

legal : (h : List Entry) → IsLegal kinds.Shared h → (t : Shared) × (run (at_entry step) (Some opening) h ≡ Some t)
legal h is = reaches AShared (at_entry step) (λ m e. refl) h opening is

written : (n : ℕ) (h : List Entry) (t : Shared) → run (at_entry step) (Some opening) h ≡ Some t → Sound t × (count (locks n) h ≡ count (unlocks n) h + bit (is_thread t.writer n))
written n h t is =
    let b = balanced (at_entry step) Sound (λ s. bit (is_thread s.writer n)) (λ e. bit (locks n e)) (λ e. bit (unlocks n e)) (λ s u e g on. (let o = one n s u e.by.0 e.op (small_of e.a) e.b e.reply g on in (o.0, o.1))) h opening t first is in
    (b.0, let q = b.1 in omega (arith, q))

read_of : (n : ℕ) (h : List Entry) (t : Shared) → run (at_entry step) (Some opening) h ≡ Some t → count (locks_shared n) h ≡ count (unlocks_shared n) h + times n t.readers
read_of n h t is =
    let b = (balanced (at_entry step) Sound (λ s. times n s.readers) (λ e. bit (locks_shared n e)) (λ e. bit (unlocks_shared n e)) (λ s u e g on. (let o = one n s u e.by.0 e.op (small_of e.a) e.b e.reply g on in (o.0, o.2))) h opening t first is).1 in
    omega (arith, b)

writer_is : (o : Option ℕ) (n : ℕ) → 1 ≤ bit (is_thread o n) → o ≡ Some n
writer_is None n l = absurd (omega (arith, l))
writer_is (Some t) n l = at (t == n) refl l
  where
    at : (b : Bool) → (t == n) ≡ b → 1 ≤ bit b → Some t ≡ Some n
    at true e l_ = ap (λ x. Some x) (eqb-true t n e)
    at false e l_ = absurd (omega (arith, l_))

pub one_writer : (h : List Entry) (t u : ℕ) → IsLegal kinds.Shared h → Owns t h → Owns u h → t ≡ u
one_writer h t u is own other =
    let s = legal h is in
    let a = (written t h s.0 s.1).1 in
    let b = (written u h s.0 s.1).1 in
    let p = writer_is s.0.writer t (omega (arith, a, own)) in
    let q = writer_is s.0.writer u (omega (arith, b, other)) in
    cc (p, q)

pub writer_excludes_readers : (h : List Entry) (t u : ℕ) → IsLegal kinds.Shared h → Owns t h → Shares u h → ⊥
writer_excludes_readers h t u is own other =
    let s = legal h is in
    let w = written t h s.0 s.1 in
    let a = w.1 in
    let p = writer_is s.0.writer t (omega (arith, a, own)) in
    let none : times u s.0.readers ≡ 0 = ap (times u) (w.0.alone t p) in
    let b = read_of u h s.0 s.1 in
    omega (arith, b, none, other)

pub shared_owners_unlock : (h : List Entry) (t : ℕ) → IsLegal kinds.Shared h → (count (unlocks t) h ≤ count (locks t) h) × (count (unlocks_shared t) h ≤ count (locks_shared t) h)
shared_owners_unlock h t is =
    let s = legal h is in
    let a = (written t h s.0 s.1).1 in
    let b = read_of t h s.0 s.1 in
    (omega (arith, a), omega (arith, b))
