-- A change that a machine makes, and a look that it shows, have the words of their kind.
use Rattle.std.proofs.Common.{◌≡◌, ℕ, zero, suc, ◌+◌, ◌-◌, ◌^◌, ◌<◌, ◌≤◌, ◌==◌, ◌&&◌, ◌||◌, not, ℤ, pos, negsuc, ◌+ℤ◌, Bool, true, false, List, [], ◌∷◌, length, Option, Some, None, option_map, is_some, slice_get, slice_set, nat_lt, nat_le, if◌then◌else◌, refl, sym, ap, ◌∙◌, subst, arith, lt-ltb, ltb-true}
use Rattle.std.proofs.lemmas.Bool.{and_parts}
use Rattle.std.proofs.lemmas.Bool.Decides.{Decides-int_eq}
use Rattle.std.proofs.lemmas.List.{length-replicate}
use Rattle.cx_names.specs.declared.Reply.{Reply}
use Rattle.cx_names.specs.declared.Reply.TheVariants as replies
use Rattle.cx_names.specs.declared.Outcome.{Outcome}
use Rattle.cx_names.specs.Replies.{int_eq}
use Rattle.cx_names.proofs.Equal.{replies_are_equal}
use Rattle.cx_machine.specs.declared.kind.Kind.{Kind}
use Rattle.cx_machine.specs.declared.kind.Kind.TheVariants as kinds
use Rattle.cx_machine.specs.declared.kind.Op.{Op}
use Rattle.cx_machine.specs.declared.kind.Op.TheVariants as ops
use Rattle.cx_machine.specs.declared.kind.Entry.{Entry}
use Rattle.cx_machine.specs.declared.kind.Look.{Look}
use Rattle.cx_machine.specs.Words.{small_of, is_small, fits_i64, outcome_of, when, has, holds_number}
use Rattle.cx_machine.specs.Distinct.{Below, below_push, below_without, length-push, length-without}
use Rattle.cx_machine.specs.Waiters.{below_one}
use Rattle.cx_machine.specs.Kept.{made}
use Rattle.cx_machine.specs.Mutex as mutexes
use Rattle.cx_machine.specs.Shared as shareds
use Rattle.cx_machine.specs.Semaphore as semaphores
use Rattle.cx_machine.specs.Latch as latches
use Rattle.cx_machine.specs.Barrier as barriers
use Rattle.cx_machine.specs.Once as onces
use Rattle.cx_machine.specs.Condition as conditions
use Rattle.cx_machine.specs.Stop as stops
use Rattle.cx_machine.specs.Future as futures
use Rattle.cx_machine.specs.Machine.{State, Mutex as AMutex, Shared as AShared, Semaphore as ASemaphore, Latch as ALatch, Barrier as ABarrier, Once as AOnce, Condition as ACondition, Stop as AStop, Future as AFuture, opening, step, shows}
use Rattle.cx_items.specs.Form.{op_number}
use Rattle.cx_history.specs.IsRecord.{is_within, is_change, is_look}

-- ---- counts, and threads in replies

-- the count of an act is in its range
abbrev pub in_range_of : ℕ → ℤ → Bool
in_range_of k a = (not (k == op_number ops.Release) || is_within 0 65535 a) && ((not (k == op_number ops.CountDown) || is_within 0 65535 a) && (not (k == op_number ops.Arrive) || is_within 1 4096 a))

abbrev pub in_range : Op → ℤ → Bool
in_range op a = in_range_of (op_number op) a

-- a thread that a reply names is one of so many
abbrev pub fine_reply : ℕ → Reply → Bool
fine_reply n (replies.Thread u) = nat_lt u.0 n
fine_reply n _ = true

first_of_two : (a b : Bool) → (a && b) ≡ true → a ≡ true
first_of_two true b h = refl
first_of_two false b h = cc

released : (a : ℤ) → in_range ops.Release a ≡ true → is_within 0 65535 a ≡ true
released a h = first_of_two (is_within 0 65535 a) true h

counted : (a : ℤ) → in_range ops.CountDown a ≡ true → is_within 0 65535 a ≡ true
counted a h = first_of_two (is_within 0 65535 a) true h

arrives : (a : ℤ) → in_range ops.Arrive a ≡ true → is_within 1 4096 a ≡ true
arrives a h = h

-- a small number is itself
small_is : (a : ℤ) (n : ℕ) → small_of a ≡ Some n → a ≡ pos n
small_is (negsuc m) n e = cc
small_is (pos m) n e = go (nat_lt m (2 ^ 32)) e
  where
    go : (b : Bool) → (if b then Some m else None) ≡ Some n → pos m ≡ pos n
    go true p = let same : m ≡ n = cc in ap pos same
    go false p = cc

-- ---- what holds of the state of an object, among n threads and after k changes

pub data Fit (n k : ℕ) : Kind → State → Type 0 where
  a_mutex : (recursive : Bool) (many : ℕ) (x : mutexes.Mutex) → length x.numbers ≡ many → Fit n k (kinds.Mutex recursive many) (AMutex x)
  a_shared : (x : shareds.Shared) → Fit n k kinds.Shared (AShared x)
  a_semaphore : (count max : ℕ) (x : semaphores.Semaphore) → Fit n k (kinds.Semaphore count max) (ASemaphore x)
  a_latch : (count : ℕ) (x : latches.Latch) → Fit n k (kinds.Latch count) (ALatch x)
  a_barrier : (count : ℕ) (x : barriers.Barrier) → x.phase < 2 ^ 32 → Fit n k (kinds.Barrier count) (ABarrier x)
  a_once : (x : onces.Once) → Fit n k kinds.Once (AOnce x)
  a_condition : (x : conditions.Condition) → Below n x.waiting → length x.waiting ≤ k → Fit n k kinds.Condition (ACondition x)
  a_stop : (sources : ℕ) (x : stops.Stop) → Fit n k (kinds.Stop sources) (AStop x)
  a_future : (x : futures.Future) → Fit n k kinds.Future (AFuture x)

pub fit_opens : (n : ℕ) (kind : Kind) → Fit n 0 kind (opening kind)
fit_opens n (kinds.Mutex recursive many) = a_mutex recursive many (mutexes.opening recursive many) (length-replicate many (pos 0))
fit_opens n kinds.Shared = a_shared shareds.opening
fit_opens n (kinds.Semaphore count max) = a_semaphore count max (semaphores.opening count max)
fit_opens n (kinds.Latch count) = a_latch count (latches.opening count)
fit_opens n (kinds.Barrier count) = a_barrier count (barriers.opening count) (omega arith)
fit_opens n kinds.Once = a_once onces.Idle
fit_opens n kinds.Condition = a_condition conditions.opening tt (omega arith)
fit_opens n (kinds.Stop sources) = a_stop sources (stops.opening sources)
fit_opens n kinds.Future = a_future futures.Fresh

-- a state is that of its machine
part : {S : Type 0} (make : S → State) (P : State → Type 0) (o : Option S) (y : State) → option_map make o ≡ Some y → ((x : S) → o ≡ Some x → P (make x)) → P y
part make P None y h f = cc
part make P (Some x) y h f = let same : make x ≡ y = cc in subst P same (f x refl)

length-slice_set : {X : Type 0} (xs : List X) (i : ℕ) (x : X) → length (slice_set xs i x) ≡ length xs
length-slice_set [] i x = refl
length-slice_set (y ∷ ys) zero x = refl
length-slice_set (y ∷ ys) (suc i) x = ap suc (length-slice_set ys i x)

-- a mutex keeps its count of numbers
abbrev SameCount : mutexes.Mutex → mutexes.Mutex → Type 0
SameCount m x = length x.numbers ≡ length m.numbers

added_count : (m m' : mutexes.Mutex) (i : ℕ) (r : ℤ) (sum : Option ℤ) → mutexes.added m i r sum ≡ Some m' → SameCount m m'
added_count m m' i r None e = cc
added_count m m' i r (Some sum) e = made (SameCount m) (int_eq sum r && fits_i64 sum) (mutexes.with_number m i r) m' (λ _. length-slice_set m.numbers i r) e

mutex_count : (m m' : mutexes.Mutex) (by : ℕ) (op : Op) (a : Option ℕ) (b : ℤ) (r : Reply) → mutexes.step m by op a b r ≡ Some m' → SameCount m m'
mutex_count m m' by ops.Lock (Some zero) (pos zero) replies.Ok e = made (SameCount m) (mutexes.can_lock m by) (mutexes.locked m by) m' (λ _. refl) e
mutex_count m m' by ops.TryLock (Some zero) (pos zero) replies.True e = made (SameCount m) (mutexes.can_lock m by) (mutexes.locked m by) m' (λ _. refl) e
mutex_count m m' by ops.Unlock (Some zero) (pos zero) replies.Ok e = made (SameCount m) (mutexes.owns m by) (mutexes.unlocked m) m' (λ _. refl) e
mutex_count m m' by ops.Set (Some i) v replies.Ok e = made (SameCount m) (mutexes.owns m by && nat_lt i (length m.numbers)) (mutexes.with_number m i v) m' (λ _. length-slice_set m.numbers i v) e
mutex_count m m' by ops.Add (Some i) v (replies.Number r) e = added_count m m' i r (mutexes.sum_at m by i v) e
mutex_count m m' by _ _ _ _ e = cc e

-- a barrier's phase stays a number of 32 bits
abbrev LowPhase : barriers.Barrier → Type 0
LowPhase x = x.phase < 2 ^ 32

barrier_phase : (m m' : barriers.Barrier) (by : ℕ) (op : Op) (a : Option ℕ) (b : ℤ) (r : Reply) → LowPhase m → barriers.step m by op a b r ≡ Some m' → LowPhase m'
barrier_phase m m' by ops.Arrive (Some n) (pos zero) (replies.Number p) h e = made LowPhase (nat_le 1 n && barriers.can_arrive m n && int_eq p (pos m.phase)) (barriers.arrived m by n) m' (λ _. h) e
barrier_phase m m' by ops.Drop (Some zero) (pos zero) (replies.Number p) h e = made LowPhase (barriers.can_arrive m 1 && int_eq p (pos m.phase)) (barriers.dropped m by) m' (λ _. h) e
barrier_phase m m' by ops.Complete (Some zero) (pos zero) replies.Ok h e = made LowPhase _ (barriers.completed m) m' (λ can. (let low = ltb-true m.phase (2 ^ 32 - 1) (and_parts _ (nat_lt m.phase (2 ^ 32 - 1)) can).1 in omega (arith, low))) e
barrier_phase m m' by _ _ _ _ h e = cc e

-- who waits is one of the threads, and at most each change brought one
abbrev Waits : ℕ → ℕ → conditions.Condition → Type 0
Waits n k c = Below n c.waiting × (length c.waiting ≤ k)

waits_stay : (n k : ℕ) (c c' : conditions.Condition) (by : ℕ) (op : Op) (a : Option ℕ) (b : ℤ) (r : Reply) → Waits n k c → by < n → conditions.step c by op a b r ≡ Some c' → Waits n (k + 1) c'
waits_stay n k c c' by ops.Enter (Some zero) (pos zero) replies.Ok h lt e = made (Waits n (k + 1)) (conditions.is_away c by) (conditions.entered c by) c' (λ _. (below_push n c.waiting by h.0 lt, (let long = length-push c.waiting by in omega (arith, long, h.1)))) e
waits_stay n k c c' by ops.NotifyOne (Some zero) (pos zero) (replies.Thread t) h lt e = made (Waits n (k + 1)) (has c.waiting t.0) (conditions.moved c t.0) c' (λ _. (below_without n c.waiting t.0 h.0, (let short = length-without c.waiting t.0 in omega (arith, short, h.1)))) e
waits_stay n k c c' by ops.NotifyOne (Some zero) (pos zero) replies.Nobody h lt e = made (Waits n (k + 1)) (length c.waiting == 0) c c' (λ _. (h.0, omega (arith, h.1))) e
waits_stay n k c c' by ops.NotifyAll (Some zero) (pos zero) (replies.Number m) h lt e = made (Waits n (k + 1)) (int_eq m (pos (length c.waiting))) (conditions.all_moved c) c' (λ _. (tt, omega arith)) e
waits_stay n k c c' by ops.Unblock (Some zero) (pos zero) replies.Ok h lt e = made (Waits n (k + 1)) (has c.notified by) (conditions.unblocked c by) c' (λ _. (h.0, omega (arith, h.1))) e
waits_stay n k c c' by ops.Withdraw (Some zero) (pos zero) replies.Ok h lt e = made (Waits n (k + 1)) (has c.waiting by) (conditions.withdrawn c by) c' (λ _. (below_without n c.waiting by h.0, (let short = length-without c.waiting by in omega (arith, short, h.1)))) e
waits_stay n k c c' by _ _ _ _ h lt e = cc e

-- one more change
pub fit_steps : (n k : ℕ) (kind : Kind) (x y : State) (e : Entry) → Fit n k kind x → e.by.0 < n → step x e ≡ Some y → Fit n (k + 1) kind y
fit_steps n k kind x y e (a_mutex recursive many m h) lt s = part AMutex (Fit n (k + 1) (kinds.Mutex recursive many)) (mutexes.step m e.by.0 e.op (small_of e.a) e.b e.reply) y s (λ m' is. a_mutex recursive many m' (mutex_count m m' e.by.0 e.op (small_of e.a) e.b e.reply is ∙ h))
fit_steps n k kind x y e (a_shared m) lt s = part AShared (Fit n (k + 1) kinds.Shared) (shareds.step m e.by.0 e.op (small_of e.a) e.b e.reply) y s (λ m' is. a_shared m')
fit_steps n k kind x y e (a_semaphore count max m) lt s = part ASemaphore (Fit n (k + 1) (kinds.Semaphore count max)) (semaphores.step m e.by.0 e.op (small_of e.a) e.b e.reply) y s (λ m' is. a_semaphore count max m')
fit_steps n k kind x y e (a_latch count m) lt s = part ALatch (Fit n (k + 1) (kinds.Latch count)) (latches.step m e.by.0 e.op (small_of e.a) e.b e.reply) y s (λ m' is. a_latch count m')
fit_steps n k kind x y e (a_barrier count m h) lt s = part ABarrier (Fit n (k + 1) (kinds.Barrier count)) (barriers.step m e.by.0 e.op (small_of e.a) e.b e.reply) y s (λ m' is. a_barrier count m' (barrier_phase m m' e.by.0 e.op (small_of e.a) e.b e.reply h is))
fit_steps n k kind x y e (a_once m) lt s = part AOnce (Fit n (k + 1) kinds.Once) (onces.step m e.by.0 e.op (small_of e.a) e.b e.reply) y s (λ m' is. a_once m')
fit_steps n k kind x y e (a_condition m below few) lt s = part ACondition (Fit n (k + 1) kinds.Condition) (conditions.step m e.by.0 e.op (small_of e.a) e.b e.reply) y s (λ m' is. (let w = waits_stay n k m m' e.by.0 e.op (small_of e.a) e.b e.reply (below, few) lt is in a_condition m' w.0 w.1))
fit_steps n k kind x y e (a_stop sources m) lt s = part AStop (Fit n (k + 1) (kinds.Stop sources)) (stops.step m e.by.0 e.op (small_of e.a) e.b e.reply) y s (λ m' is. a_stop sources m')
fit_steps n k kind x y e (a_future m) lt s = part AFuture (Fit n (k + 1) kinds.Future) (futures.step m e.by.0 e.op (small_of e.a) e.b e.reply) y s (λ m' is. a_future m')

-- ---- the words of a change

-- a number below a bound of 28 bits is one of 32
fits_32 : (m k : ℕ) → m ≤ k → k < 2 ^ 28 → is_small (pos m) ≡ true
fits_32 m k le lt = let low : nat_lt m (2 ^ 32) ≡ true = lt-ltb m (2 ^ 32) (omega (arith, le, lt)) in rw low refl

low_32 : (m : ℕ) → m < 2 ^ 32 → is_small (pos m) ≡ true
low_32 m lt = let low : nat_lt m (2 ^ 32) ≡ true = lt-ltb m (2 ^ 32) lt in rw low refl

-- the change has the words of its kind, and names a thread that there is
abbrev pub Worded : ℕ → ℕ → Kind → Op → ℤ → ℤ → Reply → Type 0
Worded n k kind op a b r = (k < 2 ^ 28 → is_change n kind op a b r ≡ true) × (fine_reply n r ≡ true)

at_place : (xs : List ℤ) (i : ℕ) (v : ℤ) → slice_get xs i ≡ Some v → nat_lt i (length xs) ≡ true
at_place [] i v e = cc
at_place (x ∷ xs) zero v e = lt-ltb 0 (suc (length xs)) (omega arith)
at_place (x ∷ xs) (suc i) v e = lt-ltb (suc i) (suc (length xs)) (let low = ltb-true i (length xs) (at_place xs i v e) in omega (arith, low))

-- a number that is owned is there
number_there : (m : mutexes.Mutex) (by i : ℕ) (b : Bool) (v : ℤ) → (if b then slice_get m.numbers i else None) ≡ Some v → nat_lt i (length m.numbers) ≡ true
number_there m by i true v e = at_place m.numbers i v e
number_there m by i false v e = cc

sum_there : (m : mutexes.Mutex) (by i : ℕ) (v s : ℤ) → mutexes.sum_at m by i v ≡ Some s → nat_lt i (length m.numbers) ≡ true
sum_there m by i v s e = go (mutexes.number_at m by i) refl e
  where
    go : (o : Option ℤ) → mutexes.number_at m by i ≡ o → option_map (λ n. n +ℤ v) o ≡ Some s → nat_lt i (length m.numbers) ≡ true
    go None p q = cc
    go (Some x) p q = number_there m by i (mutexes.owns m by) x p

added_there : (m m' : mutexes.Mutex) (by i : ℕ) (v r : ℤ) → mutexes.added m i r (mutexes.sum_at m by i v) ≡ Some m' → nat_lt i (length m.numbers) ≡ true
added_there m m' by i v r e = go (mutexes.sum_at m by i v) refl e
  where
    go : (o : Option ℤ) → mutexes.sum_at m by i v ≡ o → mutexes.added m i r o ≡ Some m' → nat_lt i (length m.numbers) ≡ true
    go None p q = cc
    go (Some s) p q = sum_there m by i v s p

needed : {S : Type 0} (b : Bool) (x y : S) → when b x ≡ Some y → b ≡ true
needed true x y e = refl
needed false x y e = cc

index_of : (i many : ℕ) (m : mutexes.Mutex) → length m.numbers ≡ many → nat_lt i (length m.numbers) ≡ true → nat_lt i many ≡ true
index_of i many m h low = subst (λ z. nat_lt i z ≡ true) h low

mutex_words : (n k : ℕ) (rec : Bool) (many : ℕ) (m m' : mutexes.Mutex) (by : ℕ) (op : Op) (a : ℤ) (sa : Option ℕ) (b : ℤ) (r : Reply) → small_of a ≡ sa → length m.numbers ≡ many → mutexes.step m by op sa b r ≡ Some m' → Worded n k (kinds.Mutex rec many) op a b r
mutex_words n k rec many m m' by ops.Lock a (Some zero) (pos zero) replies.Ok p h e = (λ _. rw (small_is a zero p) refl, refl)
mutex_words n k rec many m m' by ops.TryLock a (Some zero) (pos zero) replies.True p h e = (λ _. rw (small_is a zero p) refl, refl)
mutex_words n k rec many m m' by ops.Unlock a (Some zero) (pos zero) replies.Ok p h e = (λ _. rw (small_is a zero p) refl, refl)
mutex_words n k rec many m m' by ops.Set a (Some i) v replies.Ok p h e =
    let low = index_of i many m h (and_parts (mutexes.owns m by) (nat_lt i (length m.numbers)) (needed _ (mutexes.with_number m i v) m' e)).1 in
    (λ _. rw (small_is a i p, low) refl, refl)
mutex_words n k rec many m m' by ops.Add a (Some i) v (replies.Number r) p h e = (λ _. rw (small_is a i p, index_of i many m h (added_there m m' by i v r e)) refl, refl)
mutex_words n k rec many m m' by _ a _ _ _ p h e = cc e

shared_words : (n k : ℕ) (m m' : shareds.Shared) (by : ℕ) (op : Op) (a : ℤ) (sa : Option ℕ) (b : ℤ) (r : Reply) → small_of a ≡ sa → shareds.step m by op sa b r ≡ Some m' → Worded n k kinds.Shared op a b r
shared_words n k m m' by ops.Lock a (Some zero) (pos zero) replies.Ok p e = (λ _. rw (small_is a zero p) refl, refl)
shared_words n k m m' by ops.TryLock a (Some zero) (pos zero) replies.True p e = (λ _. rw (small_is a zero p) refl, refl)
shared_words n k m m' by ops.Unlock a (Some zero) (pos zero) replies.Ok p e = (λ _. rw (small_is a zero p) refl, refl)
shared_words n k m m' by ops.LockShared a (Some zero) (pos zero) replies.Ok p e = (λ _. rw (small_is a zero p) refl, refl)
shared_words n k m m' by ops.TryLockShared a (Some zero) (pos zero) replies.True p e = (λ _. rw (small_is a zero p) refl, refl)
shared_words n k m m' by ops.UnlockShared a (Some zero) (pos zero) replies.Ok p e = (λ _. rw (small_is a zero p) refl, refl)
shared_words n k m m' by _ a _ _ _ p e = cc e

semaphore_words : (n k count max : ℕ) (m m' : semaphores.Semaphore) (by : ℕ) (op : Op) (a : ℤ) (sa : Option ℕ) (b : ℤ) (r : Reply) → small_of a ≡ sa → in_range op a ≡ true → semaphores.step m by op sa b r ≡ Some m' → Worded n k (kinds.Semaphore count max) op a b r
semaphore_words n k count max m m' by ops.Release a (Some i) (pos zero) replies.Ok p h e = (λ _. rw (released a h) refl, refl)
semaphore_words n k count max m m' by ops.Acquire a (Some zero) (pos zero) replies.Ok p h e = (λ _. rw (small_is a zero p) refl, refl)
semaphore_words n k count max m m' by ops.TryAcquire a (Some zero) (pos zero) replies.True p h e = (λ _. rw (small_is a zero p) refl, refl)
semaphore_words n k count max m m' by _ a _ _ _ p h e = cc e

latch_words : (n k count : ℕ) (m m' : latches.Latch) (by : ℕ) (op : Op) (a : ℤ) (sa : Option ℕ) (b : ℤ) (r : Reply) → small_of a ≡ sa → in_range op a ≡ true → latches.step m by op sa b r ≡ Some m' → Worded n k (kinds.Latch count) op a b r
latch_words n k count m m' by ops.CountDown a (Some i) (pos zero) replies.Ok p h e = (λ _. rw (counted a h) refl, refl)
latch_words n k count m m' by _ a _ _ _ p h e = cc e

same_int : (a b : ℤ) → int_eq a b ≡ true → a ≡ b
same_int a b h = (Decides-int_eq a b).0 h

barrier_words : (n k count : ℕ) (m m' : barriers.Barrier) (by : ℕ) (op : Op) (a : ℤ) (sa : Option ℕ) (b : ℤ) (r : Reply) → small_of a ≡ sa → in_range op a ≡ true → LowPhase m → barriers.step m by op sa b r ≡ Some m' → Worded n k (kinds.Barrier count) op a b r
barrier_words n k count m m' by ops.Arrive a (Some i) (pos zero) (replies.Number q) p h low e =
    let can = needed (nat_le 1 i && barriers.can_arrive m i && int_eq q (pos m.phase)) (barriers.arrived m by i) m' e in
    let same = same_int q (pos m.phase) (and_parts (nat_le 1 i && barriers.can_arrive m i) (int_eq q (pos m.phase)) can).1 in
    (λ _. rw (arrives a h, same, low_32 m.phase low) refl, refl)
barrier_words n k count m m' by ops.Drop a (Some zero) (pos zero) (replies.Number q) p h low e =
    let same = same_int q (pos m.phase) (and_parts (barriers.can_arrive m 1) (int_eq q (pos m.phase)) (needed _ (barriers.dropped m by) m' e)).1 in
    (λ _. rw (small_is a zero p, same, low_32 m.phase low) refl, refl)
barrier_words n k count m m' by ops.Complete a (Some zero) (pos zero) replies.Ok p h low e = (λ _. rw (small_is a zero p) refl, refl)
barrier_words n k count m m' by _ a _ _ _ p h low e = cc e

once_words : (n k : ℕ) (m m' : onces.Once) (by : ℕ) (op : Op) (a : ℤ) (sa : Option ℕ) (b : ℤ) (r : Reply) → small_of a ≡ sa → onces.step m by op sa b r ≡ Some m' → Worded n k kinds.Once op a b r
once_words n k m m' by ops.Begin a (Some zero) (pos zero) replies.Ok p e = (λ _. rw (small_is a zero p) refl, refl)
once_words n k m m' by ops.Finish a (Some zero) (pos zero) replies.Ok p e = (λ _. rw (small_is a zero p) refl, refl)
once_words n k m m' by ops.Fail a (Some i) (pos zero) replies.Ok p e = (λ _. rw p refl, refl)
once_words n k m m' by _ a _ _ _ p e = cc e

condition_words : (n k : ℕ) (m m' : conditions.Condition) (by : ℕ) (op : Op) (a : ℤ) (sa : Option ℕ) (b : ℤ) (r : Reply) → small_of a ≡ sa → Waits n k m → conditions.step m by op sa b r ≡ Some m' → Worded n k kinds.Condition op a b r
condition_words n k m m' by ops.Enter a (Some zero) (pos zero) replies.Ok p h e = (λ _. rw (small_is a zero p) refl, refl)
condition_words n k m m' by ops.NotifyOne a (Some zero) (pos zero) (replies.Thread t) p h e =
    let low : nat_lt t.0 n ≡ true = lt-ltb t.0 n (below_one n m.waiting t.0 h.0 (needed _ (conditions.moved m t.0) m' e)) in
    (λ _. rw (small_is a zero p, low) refl, low)
condition_words n k m m' by ops.NotifyOne a (Some zero) (pos zero) replies.Nobody p h e = (λ _. rw (small_is a zero p) refl, refl)
condition_words n k m m' by ops.NotifyAll a (Some zero) (pos zero) (replies.Number q) p h e =
    let same = same_int q (pos (length m.waiting)) (needed _ (conditions.all_moved m) m' e) in
    (λ few. rw (small_is a zero p, same, fits_32 (length m.waiting) k h.1 few) refl, refl)
condition_words n k m m' by ops.Unblock a (Some zero) (pos zero) replies.Ok p h e = (λ _. rw (small_is a zero p) refl, refl)
condition_words n k m m' by ops.Withdraw a (Some zero) (pos zero) replies.Ok p h e = (λ _. rw (small_is a zero p) refl, refl)
condition_words n k m m' by _ a _ _ _ p h e = cc e

stop_words : (n k sources : ℕ) (m m' : stops.Stop) (by : ℕ) (op : Op) (a : ℤ) (sa : Option ℕ) (b : ℤ) (r : Reply) → small_of a ≡ sa → stops.step m by op sa b r ≡ Some m' → Worded n k (kinds.Stop sources) op a b r
stop_words n k sources m m' by ops.Request a (Some zero) (pos zero) replies.Ok p e = (λ _. rw (small_is a zero p) refl, refl)
stop_words n k sources m m' by ops.Another a (Some zero) (pos zero) replies.Ok p e = (λ _. rw (small_is a zero p) refl, refl)
stop_words n k sources m m' by ops.Drop a (Some zero) (pos zero) replies.Ok p e = (λ _. rw (small_is a zero p) refl, refl)
stop_words n k sources m m' by ops.Register a (Some i) (pos zero) replies.Ok p e = (λ _. rw p refl, refl)
stop_words n k sources m m' by ops.RegisterNow a (Some i) (pos zero) replies.Ok p e = (λ _. rw p refl, refl)
stop_words n k sources m m' by ops.Begin a (Some i) (pos zero) replies.Ok p e = (λ _. rw p refl, refl)
stop_words n k sources m m' by ops.Finish a (Some i) (pos zero) replies.Ok p e = (λ _. rw p refl, refl)
stop_words n k sources m m' by ops.Deregister a (Some i) (pos zero) replies.Removed p e = (λ _. rw p refl, refl)
stop_words n k sources m m' by ops.Deregister a (Some i) (pos zero) replies.Ran p e = (λ _. rw p refl, refl)
stop_words n k sources m m' by ops.Deregister a (Some i) (pos zero) replies.Inside p e = (λ _. rw p refl, refl)
stop_words n k sources m m' by _ a _ _ _ p e = cc e

set_is : (can : Bool) (o : Option Outcome) (m' : futures.Future) → futures.set can o ≡ Some m' → is_some o ≡ true
set_is can None m' e = cc
set_is can (Some x) m' e = refl

future_words : (n k : ℕ) (m m' : futures.Future) (by : ℕ) (op : Op) (a : ℤ) (sa : Option ℕ) (b : ℤ) (r : Reply) → small_of a ≡ sa → futures.step m by op sa b r ≡ Some m' → Worded n k kinds.Future op a b r
future_words n k m m' by ops.Defer a (Some zero) (pos zero) replies.Ok p e = (λ _. rw (small_is a zero p) refl, refl)
future_words n k m m' by ops.Run a (Some zero) (pos zero) replies.Ok p e = (λ _. rw (small_is a zero p) refl, refl)
future_words n k m m' by ops.Set a sa b replies.Ok p e = (λ _. rw (p, set_is _ (outcome_of sa b) m' e) refl, refl)
future_words n k m m' by _ a _ _ _ p e = cc e

-- a change that is made
pub change_words : (n k : ℕ) (kind : Kind) (x y : State) (e : Entry) → Fit n k kind x → in_range e.op e.a ≡ true → step x e ≡ Some y → Worded n k kind e.op e.a e.b e.reply
change_words n k kind x y e (a_mutex recursive many m h) low s = part AMutex (λ _. Worded n k (kinds.Mutex recursive many) e.op e.a e.b e.reply) (mutexes.step m e.by.0 e.op (small_of e.a) e.b e.reply) y s (λ m' is. mutex_words n k recursive many m m' e.by.0 e.op e.a (small_of e.a) e.b e.reply refl h is)
change_words n k kind x y e (a_shared m) low s = part AShared (λ _. Worded n k kinds.Shared e.op e.a e.b e.reply) (shareds.step m e.by.0 e.op (small_of e.a) e.b e.reply) y s (λ m' is. shared_words n k m m' e.by.0 e.op e.a (small_of e.a) e.b e.reply refl is)
change_words n k kind x y e (a_semaphore count max m) low s = part ASemaphore (λ _. Worded n k (kinds.Semaphore count max) e.op e.a e.b e.reply) (semaphores.step m e.by.0 e.op (small_of e.a) e.b e.reply) y s (λ m' is. semaphore_words n k count max m m' e.by.0 e.op e.a (small_of e.a) e.b e.reply refl low is)
change_words n k kind x y e (a_latch count m) low s = part ALatch (λ _. Worded n k (kinds.Latch count) e.op e.a e.b e.reply) (latches.step m e.by.0 e.op (small_of e.a) e.b e.reply) y s (λ m' is. latch_words n k count m m' e.by.0 e.op e.a (small_of e.a) e.b e.reply refl low is)
change_words n k kind x y e (a_barrier count m h) low s = part ABarrier (λ _. Worded n k (kinds.Barrier count) e.op e.a e.b e.reply) (barriers.step m e.by.0 e.op (small_of e.a) e.b e.reply) y s (λ m' is. barrier_words n k count m m' e.by.0 e.op e.a (small_of e.a) e.b e.reply refl low h is)
change_words n k kind x y e (a_once m) low s = part AOnce (λ _. Worded n k kinds.Once e.op e.a e.b e.reply) (onces.step m e.by.0 e.op (small_of e.a) e.b e.reply) y s (λ m' is. once_words n k m m' e.by.0 e.op e.a (small_of e.a) e.b e.reply refl is)
change_words n k kind x y e (a_condition m below few) low s = part ACondition (λ _. Worded n k kinds.Condition e.op e.a e.b e.reply) (conditions.step m e.by.0 e.op (small_of e.a) e.b e.reply) y s (λ m' is. condition_words n k m m' e.by.0 e.op e.a (small_of e.a) e.b e.reply refl (below, few) is)
change_words n k kind x y e (a_stop sources m) low s = part AStop (λ _. Worded n k (kinds.Stop sources) e.op e.a e.b e.reply) (stops.step m e.by.0 e.op (small_of e.a) e.b e.reply) y s (λ m' is. stop_words n k sources m m' e.by.0 e.op e.a (small_of e.a) e.b e.reply refl is)
change_words n k kind x y e (a_future m) low s = part AFuture (λ _. Worded n k kinds.Future e.op e.a e.b e.reply) (futures.step m e.by.0 e.op (small_of e.a) e.b e.reply) y s (λ m' is. future_words n k m m' e.by.0 e.op e.a (small_of e.a) e.b e.reply refl is)

-- ---- the words of a look

-- the look has the words of its kind, and names no thread that there isn't
abbrev pub Seen : ℕ → Kind → Op → ℤ → ℤ → Reply → Type 0
Seen n kind op a b r = (is_look kind op a b r ≡ true) × (fine_reply n r ≡ true)

held_there : (m : mutexes.Mutex) (i : ℕ) (v : ℤ) (b : Bool) → (b && holds_number (slice_get m.numbers i) v) ≡ true → nat_lt i (length m.numbers) ≡ true
held_there m i v b e = go (slice_get m.numbers i) refl (and_parts b (holds_number (slice_get m.numbers i) v) e).1
  where
    go : (o : Option ℤ) → slice_get m.numbers i ≡ o → holds_number o v ≡ true → nat_lt i (length m.numbers) ≡ true
    go None p q = cc
    go (Some x) p q = at_place m.numbers i x p

over_there : (m : mutexes.Mutex) (by i : ℕ) (v : ℤ) → mutexes.overflows (mutexes.sum_at m by i v) ≡ true → nat_lt i (length m.numbers) ≡ true
over_there m by i v e = go (mutexes.sum_at m by i v) refl e
  where
    go : (o : Option ℤ) → mutexes.sum_at m by i v ≡ o → mutexes.overflows o ≡ true → nat_lt i (length m.numbers) ≡ true
    go None p q = cc
    go (Some s) p q = sum_there m by i v s p

mutex_look : (n : ℕ) (rec : Bool) (many : ℕ) (m : mutexes.Mutex) (by : ℕ) (op : Op) (a : ℤ) (sa : Option ℕ) (b : ℤ) (r : Reply) → small_of a ≡ sa → length m.numbers ≡ many → mutexes.shows m by op sa b r ≡ true → Seen n (kinds.Mutex rec many) op a b r
mutex_look n rec many m by ops.TryLock a (Some zero) (pos zero) replies.False p h e = (rw (small_is a zero p) refl, refl)
mutex_look n rec many m by ops.Lock a (Some zero) (pos zero) replies.MaxLevels p h e = (rw (small_is a zero p) refl, refl)
mutex_look n rec many m by ops.Get a (Some i) (pos zero) (replies.Number v) p h e = (rw (small_is a i p, index_of i many m h (held_there m i v (mutexes.owns m by) e)) refl, refl)
mutex_look n rec many m by ops.Add a (Some i) v replies.Overflow p h e = (rw (small_is a i p, index_of i many m h (over_there m by i v e)) refl, refl)
mutex_look n rec many m by _ a _ _ _ p h e = cc e

shared_look : (n : ℕ) (m : shareds.Shared) (by : ℕ) (op : Op) (a : ℤ) (sa : Option ℕ) (b : ℤ) (r : Reply) → small_of a ≡ sa → shareds.shows m by op sa b r ≡ true → Seen n kinds.Shared op a b r
shared_look n m by ops.TryLock a (Some zero) (pos zero) replies.False p e = (rw (small_is a zero p) refl, refl)
shared_look n m by ops.TryLockShared a (Some zero) (pos zero) replies.False p e = (rw (small_is a zero p) refl, refl)
shared_look n m by _ a _ _ _ p e = cc e

semaphore_look : (n count max : ℕ) (m : semaphores.Semaphore) (by : ℕ) (op : Op) (a : ℤ) (sa : Option ℕ) (b : ℤ) (r : Reply) → small_of a ≡ sa → in_range op a ≡ true → semaphores.shows m by op sa b r ≡ true → Seen n (kinds.Semaphore count max) op a b r
semaphore_look n count max m by ops.Release a (Some i) (pos zero) replies.Over p h e = (rw (released a h) refl, refl)
semaphore_look n count max m by ops.TryAcquire a (Some zero) (pos zero) replies.False p h e = (rw (small_is a zero p) refl, refl)
semaphore_look n count max m by _ a _ _ _ p h e = cc e

latch_look : (n count : ℕ) (m : latches.Latch) (by : ℕ) (op : Op) (a : ℤ) (sa : Option ℕ) (b : ℤ) (r : Reply) → small_of a ≡ sa → latches.shows m by op sa b r ≡ true → Seen n (kinds.Latch count) op a b r
latch_look n count m by ops.Wait a (Some zero) (pos zero) replies.Ok p e = (rw (small_is a zero p) refl, refl)
latch_look n count m by ops.TryWait a (Some zero) (pos zero) replies.True p e = (rw (small_is a zero p) refl, refl)
latch_look n count m by ops.TryWait a (Some zero) (pos zero) replies.False p e = (rw (small_is a zero p) refl, refl)
latch_look n count m by _ a _ _ _ p e = cc e

barrier_look : (n count : ℕ) (m : barriers.Barrier) (by : ℕ) (op : Op) (a : ℤ) (sa : Option ℕ) (b : ℤ) (r : Reply) → small_of a ≡ sa → in_range op a ≡ true → barriers.shows m by op sa b r ≡ true → Seen n (kinds.Barrier count) op a b r
barrier_look n count m by ops.Arrive a (Some i) (pos zero) replies.OverExpected p h e = (rw (arrives a h) refl, refl)
barrier_look n count m by ops.Drop a (Some zero) (pos zero) replies.OverExpected p h e = (rw (small_is a zero p) refl, refl)
barrier_look n count m by ops.Wait a (Some i) (pos zero) replies.Ok p h e = (rw p refl, refl)
barrier_look n count m by _ a _ _ _ p h e = cc e

once_look : (n : ℕ) (m : onces.Once) (by : ℕ) (op : Op) (a : ℤ) (sa : Option ℕ) (b : ℤ) (r : Reply) → small_of a ≡ sa → onces.shows m by op sa b r ≡ true → Seen n kinds.Once op a b r
once_look n m by ops.Passive a (Some zero) (pos zero) replies.Ok p e = (rw (small_is a zero p) refl, refl)
once_look n m by _ a _ _ _ p e = cc e

stop_look : (n sources : ℕ) (m : stops.Stop) (by : ℕ) (op : Op) (a : ℤ) (sa : Option ℕ) (b : ℤ) (r : Reply) → small_of a ≡ sa → stops.shows m by op sa b r ≡ true → Seen n (kinds.Stop sources) op a b r
stop_look n sources m by ops.Already a (Some zero) (pos zero) replies.Ok p e = (rw (small_is a zero p) refl, refl)
stop_look n sources m by ops.StopRequested a (Some zero) (pos zero) replies.True p e = (rw (small_is a zero p) refl, refl)
stop_look n sources m by ops.StopRequested a (Some zero) (pos zero) replies.False p e = (rw (small_is a zero p) refl, refl)
stop_look n sources m by ops.StopPossible a (Some zero) (pos zero) replies.True p e = (rw (small_is a zero p) refl, refl)
stop_look n sources m by ops.StopPossible a (Some zero) (pos zero) replies.False p e = (rw (small_is a zero p) refl, refl)
stop_look n sources m by ops.Never a (Some i) (pos zero) replies.Ok p e = (rw p refl, refl)
stop_look n sources m by ops.Drained a (Some zero) (pos zero) replies.Ok p e = (rw (small_is a zero p) refl, refl)
stop_look n sources m by _ a _ _ _ p e = cc e

ready_is : (m : futures.Future) (r : Reply) → futures.is_ready m r ≡ true → (o : Outcome) × (r ≡ replies.Outcome o)
ready_is futures.Fresh r e = cc
ready_is futures.Deferred r e = cc
ready_is (futures.Running t) r e = cc
ready_is (futures.Ready o) r e = (o, sym ((replies_are_equal (replies.Outcome o) r).0 e))

future_look : (n : ℕ) (m : futures.Future) (by : ℕ) (op : Op) (a : ℤ) (sa : Option ℕ) (b : ℤ) (r : Reply) → small_of a ≡ sa → futures.shows m by op sa b r ≡ true → Seen n kinds.Future op a b r
future_look n m by ops.Ready a (Some zero) (pos zero) r p e = let o = ready_is m r e in (rw (small_is a zero p, o.1) refl, rw o.1 refl)
future_look n m by _ a _ _ _ p e = cc e

-- a look that is shown
pub look_words : (n k : ℕ) (kind : Kind) (x : State) (l : Look) → Fit n k kind x → in_range l.op l.a ≡ true → shows x l ≡ true → Seen n kind l.op l.a l.b l.reply
look_words n k kind x l (a_mutex recursive many m h) low s = mutex_look n recursive many m l.by.0 l.op l.a (small_of l.a) l.b l.reply refl h s
look_words n k kind x l (a_shared m) low s = shared_look n m l.by.0 l.op l.a (small_of l.a) l.b l.reply refl s
look_words n k kind x l (a_semaphore count max m) low s = semaphore_look n count max m l.by.0 l.op l.a (small_of l.a) l.b l.reply refl low s
look_words n k kind x l (a_latch count m) low s = latch_look n count m l.by.0 l.op l.a (small_of l.a) l.b l.reply refl s
look_words n k kind x l (a_barrier count m h) low s = barrier_look n count m l.by.0 l.op l.a (small_of l.a) l.b l.reply refl low s
look_words n k kind x l (a_once m) low s = once_look n m l.by.0 l.op l.a (small_of l.a) l.b l.reply refl s
look_words n k kind x l (a_condition m below few) low s = cc s
look_words n k kind x l (a_stop sources m) low s = stop_look n sources m l.by.0 l.op l.a (small_of l.a) l.b l.reply refl s
look_words n k kind x l (a_future m) low s = future_look n m l.by.0 l.op l.a (small_of l.a) l.b l.reply refl s
