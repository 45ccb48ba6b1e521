-- A shared mutex has no more readers than there are threads.
use Rattle.std.proofs.Common.{◌≡◌, ℕ, zero, ◌+◌, ◌-◌, ◌<◌, ◌≤◌, ℤ, pos, true, false, not, List, [], length, Option, Some, is_none, IsSome, arith, ◌⊎◌, inl, inr}
use Rattle.std.proofs.lemmas.Bool.{and_parts, not-true}
use Rattle.cx_names.specs.declared.Reply.{Reply}
use Rattle.cx_names.specs.declared.Reply.TheVariants as replies
use Rattle.cx_machine.specs.declared.kind.Entry.{Entry}
use Rattle.cx_machine.specs.declared.kind.Op.{Op}
use Rattle.cx_machine.specs.declared.kind.Op.TheVariants as ops
use Rattle.cx_machine.specs.Words.{is_thread, has, small_of}
use Rattle.cx_machine.specs.Acts.{at_entry}
use Rattle.cx_machine.specs.Meaning.{run, AreBelow, IsOnceEach}
use Rattle.cx_machine.specs.Shared.{Shared, step, is_free, locked, unlocked, can_read, read_by, left_by}
use Rattle.cx_machine.specs.Distinct.{Below, once_push, once_without, below_push, below_without, few_below, length-push}
use Rattle.cx_machine.specs.Kept.{kept, made, when_some}

pub record Good (seats : ℕ) (s : Shared) : Type 0 where
  pub once : IsOnceEach s.readers
  pub below : Below seats s.readers

-- who may read doesn't yet
pub lacking : (s : Shared) (by : ℕ) → can_read s by ≡ true → has s.readers by ≡ false
lacking s by c = not-true _ (and_parts (is_none s.writer) (not (has s.readers by)) c).1

pub read_too : (seats : ℕ) (s : Shared) (by : ℕ) → Good seats s → by < seats → can_read s by ≡ true → Good seats (read_by s by)
read_too seats s by g lt c = record { once = once_push s.readers by g.once (lacking s by c); below = below_push seats s.readers by g.below lt }

pub stepped : (seats : ℕ) (s s' : Shared) (by : ℕ) (op : Op) (a : Option ℕ) (b : ℤ) (r : Reply) → Good seats s → by < seats → step s by op a b r ≡ Some s' → Good seats s'
stepped seats s s' by ops.Lock (Some zero) (pos zero) replies.Ok g lt e = made (Good seats) (is_free s) (locked s by) s' (λ _. record { once = g.once; below = g.below }) e
stepped seats s s' by ops.TryLock (Some zero) (pos zero) replies.True g lt e = made (Good seats) (is_free s) (locked s by) s' (λ _. record { once = g.once; below = g.below }) e
stepped seats s s' by ops.Unlock (Some zero) (pos zero) replies.Ok g lt e = made (Good seats) (is_thread s.writer by) (unlocked s) s' (λ _. record { once = g.once; below = g.below }) e
stepped seats s s' by ops.LockShared (Some zero) (pos zero) replies.Ok g lt e = made (Good seats) (can_read s by) (read_by s by) s' (λ c. read_too seats s by g lt c) e
stepped seats s s' by ops.TryLockShared (Some zero) (pos zero) replies.True g lt e = made (Good seats) (can_read s by) (read_by s by) s' (λ c. read_too seats s by g lt c) e
stepped seats s s' by ops.UnlockShared (Some zero) (pos zero) replies.Ok g lt e = made (Good seats) (has s.readers by) (left_by s by) s' (λ _. record { once = once_without s.readers by g.once; below = below_without seats s.readers by g.below }) e
stepped seats s s' by _ _ _ _ g lt e = cc e

pub shared_most_holds : (s s' : Shared) (seats : ℕ) (es : List Entry) → s.readers ≡ [] → AreBelow seats es → run (at_entry step) (Some s) es ≡ Some s' → length s'.readers ≤ seats
shared_most_holds s s' seats es none below e =
    let start : Good seats s = record { once = rw none (λ k. omega arith); below = rw none tt } in
    let g = kept (at_entry step) (Good seats) seats (λ m m' x h lt is. stepped seats m m' x.by.0 x.op (small_of x.a) x.b x.reply h lt is) es s s' start below e in
    few_below seats s'.readers g.once g.below

-- a change that brings a reader
abbrev pub Joins : Shared → ℕ → Option Shared → Type 0
Joins s by next = (can_read s by ≡ true) × (next ≡ Some (read_by s by))

pub joins_lock : (s : Shared) (by : ℕ) (a : Option ℕ) (b : ℤ) (r : Reply) → IsSome (step s by ops.LockShared a b r) → Joins s by (step s by ops.LockShared a b r)
joins_lock s by (Some zero) (pos zero) replies.Ok is = when_some (can_read s by) (read_by s by) is
joins_lock s by _ _ _ is = cc is

pub joins_try : (s : Shared) (by : ℕ) (a : Option ℕ) (b : ℤ) (r : Reply) → IsSome (step s by ops.TryLockShared a b r) → Joins s by (step s by ops.TryLockShared a b r)
joins_try s by (Some zero) (pos zero) replies.True is = when_some (can_read s by) (read_by s by) is
joins_try s by _ _ _ is = cc is

-- the words that bring a reader
abbrev pub IsJoin : Op → Type 0
IsJoin op = (op ≡ ops.LockShared) ⊎ (op ≡ ops.TryLockShared)

pub joins : (s : Shared) (e : Entry) → IsJoin e.op → IsSome (at_entry step s e) → Joins s e.by.0 (at_entry step s e)
joins s e (inl l) is = let is' = rw l at is in rw l (joins_lock s e.by.0 (small_of e.a) e.b e.reply is')
joins s e (inr l) is = let is' = rw l at is in rw l (joins_try s e.by.0 (small_of e.a) e.b e.reply is')

pub room_for : (s : Shared) (e : Entry) (len cap : ℕ) → IsJoin e.op → IsSome (at_entry step s e) → ((t : Shared) → at_entry step s e ≡ Some t → length t.readers ≤ length s.readers + (cap - len)) → len < cap
room_for s e len cap op is room =
    let j = joins s e op is in
    let le = room (read_by s e.by.0) j.1 in
    let l = length-push s.readers e.by.0 in
    omega (arith, le, l)
