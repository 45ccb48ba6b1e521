-- What the machine of an object enables or shows has a reply that the asked form wants.
use Rattle.std.proofs.Common.{◌≡◌, ℕ, zero, suc, ◌+◌, ◌-◌, ◌^◌, ◌<◌, ◌≤◌, ◌&&◌, ℤ, pos, Bool, true, false, List, [], ◌∷◌, ◌++◌, length, Option, Some, None, option_map, slice_get, nat_lt, nat_le, refl, sym, ap, ◌∙◌, subst, arith, lt-ltb, ltb-true}
use Rattle.std.specs.Prelude.{is_some}
use Rattle.std.proofs.lemmas.Bool.{le-leb, and_parts}
use Rattle.std.proofs.lemmas.Bool.Decides.{Decides-int_eq}
use Rattle.cx_names.specs.Replies.{int_eq}
use Rattle.cx_names.specs.declared.ThreadNo.{ThreadNo}
use Rattle.cx_names.specs.declared.ObjectNo.{ObjectNo}
use Rattle.cx_names.specs.declared.Reply.{Reply}
use Rattle.cx_names.specs.declared.Reply.TheVariants as replies
use Rattle.cx_machine.specs.declared.kind.Op.{Op}
use Rattle.cx_machine.specs.declared.kind.Op.TheVariants as ops
use Rattle.cx_machine.specs.declared.kind.Kind.{Kind}
use Rattle.cx_machine.specs.declared.kind.Kind.TheVariants as kinds
use Rattle.cx_machine.specs.declared.kind.Entry.{Entry}
use Rattle.cx_machine.specs.Machine.{State, Mutex as AMutex, Shared as AShared, Semaphore as ASemaphore, Latch as ALatch, Barrier as ABarrier, Once as AnOnce, opening, step, shows}
use Rattle.cx_machine.specs.Mutex as mutex
use Rattle.cx_machine.specs.Shared as shared
use Rattle.cx_machine.specs.Barrier as barrier
use Rattle.cx_machine.specs.Once as once
use Rattle.cx_machine.specs.Semaphore as semaphore
use Rattle.cx_machine.specs.Latch as latch
use Rattle.cx_machine.specs.Acts.{at_entry}
use Rattle.cx_machine.specs.Words.{when, is_thread, small_of, is_small}
use Rattle.cx_machine.specs.Meaning.{run, change, look_of}
use Rattle.cx_scene.specs.declared.declared.Object.{Object}
use Rattle.cx_scene.specs.declared.declared.Object.TheVariants as objects
use Rattle.cx_scene.specs.Scene.{Scene, kind_of}
use Rattle.cx_items.specs.declared.form.Form.{Form}
use Rattle.cx_items.specs.declared.form.Form.TheVariants.{Change, Look as ALook}
use Rattle.cx_items.specs.declared.form.Wanted.TheVariants.{Just, ANumber}
use Rattle.cx_items.specs.declared.item.Item.TheVariants as items
use Rattle.cx_items.specs.declared.kept.Kept.{Kept}
use Rattle.cx_history.specs.IsRecord.{is_within, is_change, is_look}
use Rattle.cx_asks.specs.declared.ask.Ask.{Ask}
use Rattle.cx_asks.specs.Asks.{asks_mutex, asks_recursive, asks_semaphore, asks_latch, asks_shared, asks_once, asks_barrier, serves}
use Rattle.cx_asks.specs.Forms.{is_of_one, change_forms, look_forms, asked_forms}
use Rattle.cx_asks.specs.Laws.{Answers}
use Rattle.cx_asks.proofs.Fitting.{first_change, first_number, first_look, second_look, change_formed, look_formed}

-- ---- a kind of state stays

module _ {M : Type 0} (f : M → State) (one : M → Entry → Option M) (kind : (m : M) (e : Entry) → step (f m) e ≡ option_map f (one m e)) where
  stuck : (es : List Entry) (now : State) → run step None es ≡ Some now → ⊥
  stuck [] now h = cc
  stuck (e ∷ es) now h = stuck es now h

  pub stays : (es : List Entry) (m : M) (now : State) → run step (Some (f m)) es ≡ Some now → (m' : M) × (now ≡ f m')
  stays [] m now h = (m, (let same : f m ≡ now = cc in sym same))
  stays (e ∷ es) m now h = go (one m e) refl (λ m' k. stays es m' now k)
    where
      go : (o : Option M) → one m e ≡ o → ((m' : M) → run step (Some (f m')) es ≡ Some now → (m'' : M) × (now ≡ f m'')) → (m' : M) × (now ≡ f m')
      go None is rest = absurd (stuck es now (let none : step (f m) e ≡ None = kind m e ∙ ap (option_map f) is in rw none at h))
      go (Some m') is rest = rest m' (let some : step (f m) e ≡ Some (f m') = kind m e ∙ ap (option_map f) is in rw some at h)

  pub enabled : (m : M) (e : Entry) (after : State) → step (f m) e ≡ Some after → (m' : M) × (one m e ≡ Some m')
  enabled m e after h = go (one m e) refl
    where
      go : (o : Option M) → one m e ≡ o → (m' : M) × (one m e ≡ Some m')
      go None is = absurd (let none : step (f m) e ≡ None = kind m e ∙ ap (option_map f) is in let no : None ≡ Some after = sym none ∙ h in cc)
      go (Some m') is = (m', is)

-- ---- the replies of changes

abbrev IsMutexReply : Op → Reply → Type 0
IsMutexReply ops.Lock r = r ≡ replies.Ok
IsMutexReply ops.TryLock r = r ≡ replies.True
IsMutexReply ops.Unlock r = r ≡ replies.Ok
IsMutexReply _ r = Unit {0}

mutex_replies : (m t : mutex.Mutex) (by : ℕ) (op : Op) (a : Option ℕ) (b : ℤ) (r : Reply) → mutex.step m by op a b r ≡ Some t → IsMutexReply op r
mutex_replies m t by ops.Lock (Some zero) (pos zero) replies.Ok e = refl
mutex_replies m t by ops.TryLock (Some zero) (pos zero) replies.True e = refl
mutex_replies m t by ops.Unlock (Some zero) (pos zero) replies.Ok e = refl
mutex_replies m t by ops.Set (Some i) v replies.Ok e = tt
mutex_replies m t by ops.Add (Some i) v (replies.Number r) e = tt
mutex_replies m t by _ _ _ _ e = cc

abbrev IsSemaphoreReply : Op → Reply → Type 0
IsSemaphoreReply ops.Release r = r ≡ replies.Ok
IsSemaphoreReply ops.Acquire r = r ≡ replies.Ok
IsSemaphoreReply ops.TryAcquire r = r ≡ replies.True
IsSemaphoreReply _ r = Unit {0}

semaphore_replies : (m t : semaphore.Semaphore) (by : ℕ) (op : Op) (a : Option ℕ) (b : ℤ) (r : Reply) → semaphore.step m by op a b r ≡ Some t → IsSemaphoreReply op r
semaphore_replies m t by ops.Release (Some n) (pos zero) replies.Ok e = refl
semaphore_replies m t by ops.Acquire (Some zero) (pos zero) replies.Ok e = refl
semaphore_replies m t by ops.TryAcquire (Some zero) (pos zero) replies.True e = refl
semaphore_replies m t by _ _ _ _ e = cc

abbrev IsLatchReply : Op → Reply → Type 0
IsLatchReply ops.CountDown r = r ≡ replies.Ok
IsLatchReply _ r = Unit {0}

latch_replies : (m t : latch.Latch) (by : ℕ) (op : Op) (a : Option ℕ) (b : ℤ) (r : Reply) → latch.step m by op a b r ≡ Some t → IsLatchReply op r
latch_replies m t by ops.CountDown (Some n) (pos zero) replies.Ok e = refl
latch_replies m t by _ _ _ _ e = cc

abbrev IsSharedReply : Op → Reply → Type 0
IsSharedReply ops.Lock r = r ≡ replies.Ok
IsSharedReply ops.TryLock r = r ≡ replies.True
IsSharedReply ops.Unlock r = r ≡ replies.Ok
IsSharedReply ops.LockShared r = r ≡ replies.Ok
IsSharedReply ops.TryLockShared r = r ≡ replies.True
IsSharedReply ops.UnlockShared r = r ≡ replies.Ok
IsSharedReply _ r = Unit {0}

shared_replies : (m t : shared.Shared) (by : ℕ) (op : Op) (a : Option ℕ) (b : ℤ) (r : Reply) → shared.step m by op a b r ≡ Some t → IsSharedReply op r
shared_replies m t by ops.Lock (Some zero) (pos zero) replies.Ok e = refl
shared_replies m t by ops.TryLock (Some zero) (pos zero) replies.True e = refl
shared_replies m t by ops.Unlock (Some zero) (pos zero) replies.Ok e = refl
shared_replies m t by ops.LockShared (Some zero) (pos zero) replies.Ok e = refl
shared_replies m t by ops.TryLockShared (Some zero) (pos zero) replies.True e = refl
shared_replies m t by ops.UnlockShared (Some zero) (pos zero) replies.Ok e = refl
shared_replies m t by _ _ _ _ e = cc

abbrev IsOnceReply : Op → Reply → Type 0
IsOnceReply ops.Begin r = r ≡ replies.Ok
IsOnceReply ops.Finish r = r ≡ replies.Ok
IsOnceReply ops.Fail r = r ≡ replies.Ok
IsOnceReply _ r = Unit {0}

once_replies : (m t : once.Once) (by : ℕ) (op : Op) (a : Option ℕ) (b : ℤ) (r : Reply) → once.step m by op a b r ≡ Some t → IsOnceReply op r
once_replies m t by ops.Begin (Some zero) (pos zero) replies.Ok e = refl
once_replies m t by ops.Finish (Some zero) (pos zero) replies.Ok e = refl
once_replies m t by ops.Fail (Some n) (pos zero) replies.Ok e = refl
once_replies m t by _ _ _ _ e = cc

-- the phase of an arrival is a number of 32 bits
abbrev IsPhase : Reply → Type 0
IsPhase r = (phase : ℕ) × (r ≡ replies.Number (pos phase)) × (phase < 2 ^ 32)

abbrev IsBarrierReply : Op → Reply → Type 0
IsBarrierReply ops.Arrive r = IsPhase r
IsBarrierReply ops.Drop r = IsPhase r
IsBarrierReply ops.Complete r = r ≡ replies.Ok
IsBarrierReply _ r = Unit {0}

last_part : (a b c : Bool) → (a && b && c) ≡ true → c ≡ true
last_part true true c h = h
last_part true false c h = cc
last_part false b c h = cc

when_so : {S : Type 0} (b : Bool) (x y : S) → when b x ≡ Some y → b ≡ true
when_so true x y e = refl
when_so false x y e = cc

phase_told : (p : ℤ) (phase : ℕ) → phase < 2 ^ 32 → int_eq p (pos phase) ≡ true → IsPhase (replies.Number p)
phase_told p phase low h = (phase, ap replies.Number ((Decides-int_eq p (pos phase)).0 h), low)

barrier_replies : (m t : barrier.Barrier) (by : ℕ) (op : Op) (a : Option ℕ) (b : ℤ) (r : Reply) → m.phase < 2 ^ 32 → barrier.step m by op a b r ≡ Some t → IsBarrierReply op r
barrier_replies m t by ops.Arrive (Some n) (pos zero) (replies.Number p) low e = phase_told p m.phase low (last_part (nat_le 1 n) (barrier.can_arrive m n) (int_eq p (pos m.phase)) (when_so _ (barrier.arrived m by n) t e))
barrier_replies m t by ops.Drop (Some zero) (pos zero) (replies.Number p) low e = phase_told p m.phase low (and_parts (barrier.can_arrive m 1) (int_eq p (pos m.phase)) (when_so _ (barrier.dropped m by) t e)).1
barrier_replies m t by ops.Complete (Some zero) (pos zero) replies.Ok low e = refl
barrier_replies m t by _ _ _ _ low e = cc

when_is : {S : Type 0} (b : Bool) (x y : S) → when b x ≡ Some y → x ≡ y
when_is true x y e = cc
when_is false x y e = cc

next_low : (phase : ℕ) → phase < 2 ^ 32 - 1 → phase + 1 < 2 ^ 32
next_low phase h = omega (arith, h)

-- no phase is beyond 32 bits
phase_low : (m t : barrier.Barrier) (by : ℕ) (op : Op) (a : Option ℕ) (b : ℤ) (r : Reply) → m.phase < 2 ^ 32 → barrier.step m by op a b r ≡ Some t → t.phase < 2 ^ 32
phase_low m t by ops.Arrive (Some n) (pos zero) (replies.Number p) low e = subst (λ (x : barrier.Barrier). x.phase < 2 ^ 32) (when_is _ (barrier.arrived m by n) t e) low
phase_low m t by ops.Drop (Some zero) (pos zero) (replies.Number p) low e = subst (λ (x : barrier.Barrier). x.phase < 2 ^ 32) (when_is _ (barrier.dropped m by) t e) low
phase_low m t by ops.Complete (Some zero) (pos zero) replies.Ok low e =
    let more = ltb-true m.phase (2 ^ 32 - 1) (and_parts (is_thread m.completing by) (nat_lt m.phase (2 ^ 32 - 1)) (when_so _ (barrier.completed m) t e)).1 in
    subst (λ (x : barrier.Barrier). x.phase < 2 ^ 32) (when_is _ (barrier.completed m) t e) (next_low m.phase more)
phase_low m t by _ _ _ _ low e = cc

phases_low : (es : List Entry) (m : barrier.Barrier) (now : State) → m.phase < 2 ^ 32 → run step (Some (ABarrier m)) es ≡ Some now → (m' : barrier.Barrier) × (now ≡ ABarrier m') × (m'.phase < 2 ^ 32)
phases_low [] m now low h = (m, (let same : ABarrier m ≡ now = cc in sym same), low)
phases_low (e ∷ es) m now low h = go (at_entry barrier.step m e) refl (λ m' l k. phases_low es m' now l k)
  where
    go : (o : Option barrier.Barrier) → at_entry barrier.step m e ≡ o → ((m' : barrier.Barrier) → m'.phase < 2 ^ 32 → run step (Some (ABarrier m')) es ≡ Some now → (m'' : barrier.Barrier) × (now ≡ ABarrier m'') × (m''.phase < 2 ^ 32)) → (m'' : barrier.Barrier) × (now ≡ ABarrier m'') × (m''.phase < 2 ^ 32)
    go None is rest = absurd (stuck ABarrier (at_entry barrier.step) (λ n f. refl) es now (let none : step (ABarrier m) e ≡ None = ap (option_map ABarrier) is in rw none at h))
    go (Some m') is rest = rest m' (phase_low m m' e.by.0 e.op (small_of e.a) e.b e.reply low is) (let some : step (ABarrier m) e ≡ Some (ABarrier m') = ap (option_map ABarrier) is in rw some at h)

-- ---- the replies of looks

abbrev IsMutexSight : Op → Reply → Type 0
IsMutexSight ops.Lock r = r ≡ replies.MaxLevels
IsMutexSight ops.TryLock r = r ≡ replies.False
IsMutexSight _ r = Unit {0}

mutex_sights : (m : mutex.Mutex) (by : ℕ) (op : Op) (a : Option ℕ) (b : ℤ) (r : Reply) → mutex.shows m by op a b r ≡ true → IsMutexSight op r
mutex_sights m by ops.TryLock (Some zero) (pos zero) replies.False e = refl
mutex_sights m by ops.Lock (Some zero) (pos zero) replies.MaxLevels e = refl
mutex_sights m by ops.Get (Some i) (pos zero) (replies.Number v) e = tt
mutex_sights m by ops.Add (Some i) v replies.Overflow e = tt
mutex_sights m by _ _ _ _ e = cc

abbrev IsSemaphoreSight : Op → Reply → Type 0
IsSemaphoreSight ops.Release r = r ≡ replies.Over
IsSemaphoreSight ops.TryAcquire r = r ≡ replies.False
IsSemaphoreSight _ r = Unit {0}

semaphore_sights : (m : semaphore.Semaphore) (by : ℕ) (op : Op) (a : Option ℕ) (b : ℤ) (r : Reply) → semaphore.shows m by op a b r ≡ true → IsSemaphoreSight op r
semaphore_sights m by ops.Release (Some n) (pos zero) replies.Over e = refl
semaphore_sights m by ops.TryAcquire (Some zero) (pos zero) replies.False e = refl
semaphore_sights m by _ _ _ _ e = cc

abbrev told : Bool → Reply
told true = replies.True
told false = replies.False

abbrev IsLatchSight : Op → Reply → Type 0
IsLatchSight ops.Wait r = r ≡ replies.Ok
IsLatchSight ops.TryWait r = (b : Bool) × (r ≡ told b)
IsLatchSight _ r = Unit {0}

latch_sights : (m : latch.Latch) (by : ℕ) (op : Op) (a : Option ℕ) (b : ℤ) (r : Reply) → latch.shows m by op a b r ≡ true → IsLatchSight op r
latch_sights m by ops.Wait (Some zero) (pos zero) replies.Ok e = refl
latch_sights m by ops.TryWait (Some zero) (pos zero) replies.True e = (true, refl)
latch_sights m by ops.TryWait (Some zero) (pos zero) replies.False e = (false, refl)
latch_sights m by _ _ _ _ e = cc

abbrev IsSharedSight : Op → Reply → Type 0
IsSharedSight ops.TryLock r = r ≡ replies.False
IsSharedSight ops.TryLockShared r = r ≡ replies.False
IsSharedSight _ r = Unit {0}

shared_sights : (m : shared.Shared) (by : ℕ) (op : Op) (a : Option ℕ) (b : ℤ) (r : Reply) → shared.shows m by op a b r ≡ true → IsSharedSight op r
shared_sights m by ops.TryLock (Some zero) (pos zero) replies.False e = refl
shared_sights m by ops.TryLockShared (Some zero) (pos zero) replies.False e = refl
shared_sights m by _ _ _ _ e = cc

abbrev IsOnceSight : Op → Reply → Type 0
IsOnceSight ops.Passive r = r ≡ replies.Ok
IsOnceSight _ r = Unit {0}

once_sights : (m : once.Once) (by : ℕ) (op : Op) (a : Option ℕ) (b : ℤ) (r : Reply) → once.shows m by op a b r ≡ true → IsOnceSight op r
once_sights m by ops.Passive (Some zero) (pos zero) replies.Ok e = refl
once_sights m by _ _ _ _ e = cc

-- what is waited for is a number of 32 bits
abbrev IsBarrierSight : Op → Option ℕ → Reply → Type 0
IsBarrierSight ops.Arrive a r = r ≡ replies.OverExpected
IsBarrierSight ops.Drop a r = r ≡ replies.OverExpected
IsBarrierSight ops.Wait a r = (r ≡ replies.Ok) × (is_some a ≡ true)
IsBarrierSight _ a r = Unit {0}

barrier_sights : (m : barrier.Barrier) (by : ℕ) (op : Op) (a : Option ℕ) (b : ℤ) (r : Reply) → barrier.shows m by op a b r ≡ true → IsBarrierSight op a r
barrier_sights m by ops.Arrive (Some n) (pos zero) replies.OverExpected e = refl
barrier_sights m by ops.Drop (Some zero) (pos zero) replies.OverExpected e = refl
barrier_sights m by ops.Wait (Some p) (pos zero) replies.Ok e = (refl, refl)
barrier_sights m by _ _ _ _ e = cc

-- ---- an ask's change

-- a change with these words is of one of these forms, and has the words of its kind
abbrev IsChange : Scene → Kind → ObjectNo → List Form → ThreadNo → Op → ℤ → ℤ → Reply → Type 0
IsChange s kind o fs by op a b r = (is_change (length s.threads) kind op a b r ≡ true) × ((n : ℕ) → is_of_one s fs (items.Change o n (change by op a b r)) ≡ true)

abbrev IsLook : Scene → Kind → ObjectNo → List Form → ThreadNo → Op → ℤ → ℤ → Reply → Type 0
IsLook s kind o fs by op a b r = (is_look kind op a b r ≡ true) × ((n : ℕ) → is_of_one s fs (items.Look o (look_of by op a b r n)) ≡ true)

-- a count that a text may have
counted : (k : ℕ) → k ≤ 65535 → ((is_within 0 65535 (pos k) && true) && true) ≡ true
counted k h = let low : nat_le 0 k ≡ true = le-leb 0 k (omega arith) in let high : nat_le k 65535 ≡ true = le-leb k 65535 h in rw (low, high) refl

-- so many arrivals as a text may have
arriving : (n : ℕ) → 1 ≤ n → n ≤ 4096 → ((r : Bool) → r ≡ true → ((is_within 1 4096 (pos n) && true) && r) ≡ true)
arriving n some few r h = let low : nat_le 1 n ≡ true = le-leb 1 n some in let high : nat_le n 4096 ≡ true = le-leb n 4096 few in rw (low, high) h

small_is : (n : ℕ) → n < 2 ^ 32 → is_small (pos n) ≡ true
small_is n h = let low : nat_lt n (2 ^ 32) ≡ true = lt-ltb n (2 ^ 32) h in rw low refl

and_true : (b : Bool) → b ≡ true → ((b && true) && true) ≡ true
and_true true h = refl
and_true false h = cc

module _ (s : Scene) (o : ObjectNo) (by : ThreadNo) where
  -- a change, or a look, of this ask
  abbrev Made : Kind → Op → Option Op → ℤ → ℤ → Reply → Type 0
  Made kind op l a b r = IsChange s kind o (change_forms kind o (Some op) a b ++ look_forms kind o l a b) by op a b r

  abbrev Seen : Kind → Option Op → Op → ℤ → ℤ → Reply → Type 0
  Seen kind c op a b r = IsLook s kind o (change_forms kind o c a b ++ look_forms kind o (Some op) a b) by op a b r

  plain_change : (numbers levels : ℕ) (op : Op) (l : Option Op) (a b : ℤ) (r : Reply) → asks_mutex levels (Some op) l a b → IsMutexReply op r → Made (kinds.Mutex false numbers) op l a b r
  plain_change numbers zero ops.Lock None (pos zero) (pos zero) r ask is = subst (Made (kinds.Mutex false numbers) ops.Lock None (pos 0) (pos 0)) (sym is) (refl, λ n. first_change s [] o by ops.Lock (pos 0) replies.Ok n)
  plain_change numbers zero ops.TryLock (Some ops.TryLock) (pos zero) (pos zero) r ask is = subst (Made (kinds.Mutex false numbers) ops.TryLock (Some ops.TryLock) (pos 0) (pos 0)) (sym is) (refl, λ n. first_change s (ALook o ops.TryLock (pos 0) (pos 0) (Just replies.False) ∷ []) o by ops.TryLock (pos 0) replies.True n)
  plain_change numbers (suc levels) ops.Unlock None (pos zero) (pos zero) r ask is = subst (Made (kinds.Mutex false numbers) ops.Unlock None (pos 0) (pos 0)) (sym is) (refl, λ n. first_change s [] o by ops.Unlock (pos 0) replies.Ok n)
  plain_change numbers _ _ _ _ _ r ask is = absurd ask

  recursive_change : (numbers levels : ℕ) (op : Op) (l : Option Op) (a b : ℤ) (r : Reply) → asks_recursive levels (Some op) l a b → IsMutexReply op r → Made (kinds.Mutex true numbers) op l a b r
  recursive_change numbers levels ops.Lock (Some ops.Lock) (pos zero) (pos zero) r ask is = subst (Made (kinds.Mutex true numbers) ops.Lock (Some ops.Lock) (pos 0) (pos 0)) (sym is) (refl, λ n. first_change s (ALook o ops.Lock (pos 0) (pos 0) (Just replies.MaxLevels) ∷ []) o by ops.Lock (pos 0) replies.Ok n)
  recursive_change numbers levels ops.TryLock (Some ops.TryLock) (pos zero) (pos zero) r ask is = subst (Made (kinds.Mutex true numbers) ops.TryLock (Some ops.TryLock) (pos 0) (pos 0)) (sym is) (refl, λ n. first_change s (ALook o ops.TryLock (pos 0) (pos 0) (Just replies.False) ∷ []) o by ops.TryLock (pos 0) replies.True n)
  recursive_change numbers (suc levels) ops.Unlock None (pos zero) (pos zero) r ask is = subst (Made (kinds.Mutex true numbers) ops.Unlock None (pos 0) (pos 0)) (sym is) (refl, λ n. first_change s [] o by ops.Unlock (pos 0) replies.Ok n)
  recursive_change numbers _ _ _ _ _ r ask is = absurd ask

  semaphore_change : (count max : ℕ) (op : Op) (l : Option Op) (a b : ℤ) (r : Reply) → asks_semaphore (Some op) l a b → IsSemaphoreReply op r → Made (kinds.Semaphore count max) op l a b r
  semaphore_change count max ops.Release (Some ops.Release) (pos k) (pos zero) r ask is = subst (Made (kinds.Semaphore count max) ops.Release (Some ops.Release) (pos k) (pos 0)) (sym is) (counted k ask, λ n. first_change s (ALook o ops.Release (pos k) (pos 0) (Just replies.Over) ∷ []) o by ops.Release (pos k) replies.Ok n)
  semaphore_change count max ops.Acquire None (pos zero) (pos zero) r ask is = subst (Made (kinds.Semaphore count max) ops.Acquire None (pos 0) (pos 0)) (sym is) (refl, λ n. first_change s [] o by ops.Acquire (pos 0) replies.Ok n)
  semaphore_change count max ops.TryAcquire (Some ops.TryAcquire) (pos zero) (pos zero) r ask is = subst (Made (kinds.Semaphore count max) ops.TryAcquire (Some ops.TryAcquire) (pos 0) (pos 0)) (sym is) (refl, λ n. first_change s (ALook o ops.TryAcquire (pos 0) (pos 0) (Just replies.False) ∷ []) o by ops.TryAcquire (pos 0) replies.True n)
  semaphore_change count max _ _ _ _ r ask is = absurd ask

  latch_change : (count share : ℕ) (op : Op) (l : Option Op) (a b : ℤ) (r : Reply) → asks_latch share (Some op) l a b → IsLatchReply op r → Made (kinds.Latch count) op l a b r
  latch_change count share ops.CountDown None (pos k) (pos zero) r ask is = subst (Made (kinds.Latch count) ops.CountDown None (pos k) (pos 0)) (sym is) (counted k ask.0, λ n. first_change s [] o by ops.CountDown (pos k) replies.Ok n)
  latch_change count share _ _ _ _ r ask is = absurd ask

  plain_look : (numbers levels : ℕ) (c : Option Op) (op : Op) (a b : ℤ) (r : Reply) → asks_mutex levels c (Some op) a b → IsMutexSight op r → Seen (kinds.Mutex false numbers) c op a b r
  plain_look numbers zero (Some ops.TryLock) ops.TryLock (pos zero) (pos zero) r ask is = subst (Seen (kinds.Mutex false numbers) (Some ops.TryLock) ops.TryLock (pos 0) (pos 0)) (sym is) (refl, λ n. second_look s (Change o ops.TryLock (pos 0) (pos 0) (Just replies.True)) o by ops.TryLock (pos 0) replies.False n)
  plain_look numbers (suc levels) (Some ops.Unlock) op a b r ask is = absurd ask
  plain_look numbers _ _ _ _ _ r ask is = absurd ask

  recursive_look : (numbers levels : ℕ) (c : Option Op) (op : Op) (a b : ℤ) (r : Reply) → asks_recursive levels c (Some op) a b → IsMutexSight op r → Seen (kinds.Mutex true numbers) c op a b r
  recursive_look numbers levels (Some ops.Lock) ops.Lock (pos zero) (pos zero) r ask is = subst (Seen (kinds.Mutex true numbers) (Some ops.Lock) ops.Lock (pos 0) (pos 0)) (sym is) (refl, λ n. second_look s (Change o ops.Lock (pos 0) (pos 0) (Just replies.Ok)) o by ops.Lock (pos 0) replies.MaxLevels n)
  recursive_look numbers levels (Some ops.TryLock) ops.TryLock (pos zero) (pos zero) r ask is = subst (Seen (kinds.Mutex true numbers) (Some ops.TryLock) ops.TryLock (pos 0) (pos 0)) (sym is) (refl, λ n. second_look s (Change o ops.TryLock (pos 0) (pos 0) (Just replies.True)) o by ops.TryLock (pos 0) replies.False n)
  recursive_look numbers (suc levels) (Some ops.Unlock) op a b r ask is = absurd ask
  recursive_look numbers _ _ _ _ _ r ask is = absurd ask

  semaphore_look : (count max : ℕ) (c : Option Op) (op : Op) (a b : ℤ) (r : Reply) → asks_semaphore c (Some op) a b → IsSemaphoreSight op r → Seen (kinds.Semaphore count max) c op a b r
  semaphore_look count max (Some ops.Release) ops.Release (pos k) (pos zero) r ask is = subst (Seen (kinds.Semaphore count max) (Some ops.Release) ops.Release (pos k) (pos 0)) (sym is) (counted k ask, λ n. second_look s (Change o ops.Release (pos k) (pos 0) (Just replies.Ok)) o by ops.Release (pos k) replies.Over n)
  semaphore_look count max (Some ops.TryAcquire) ops.TryAcquire (pos zero) (pos zero) r ask is = subst (Seen (kinds.Semaphore count max) (Some ops.TryAcquire) ops.TryAcquire (pos 0) (pos 0)) (sym is) (refl, λ n. second_look s (Change o ops.TryAcquire (pos 0) (pos 0) (Just replies.True)) o by ops.TryAcquire (pos 0) replies.False n)
  semaphore_look count max _ _ _ _ r ask is = absurd ask

  tried : (count : ℕ) (b : Bool) → Seen (kinds.Latch count) None ops.TryWait (pos 0) (pos 0) (told b)
  tried count true = (refl, λ n. first_look s (ALook o ops.TryWait (pos 0) (pos 0) (Just replies.False) ∷ []) o by ops.TryWait (pos 0) replies.True n)
  tried count false = (refl, λ n. second_look s (ALook o ops.TryWait (pos 0) (pos 0) (Just replies.True)) o by ops.TryWait (pos 0) replies.False n)

  latch_look : (count share : ℕ) (c : Option Op) (op : Op) (a b : ℤ) (r : Reply) → asks_latch share c (Some op) a b → IsLatchSight op r → Seen (kinds.Latch count) c op a b r
  latch_look count share None ops.Wait (pos zero) (pos zero) r ask is = subst (Seen (kinds.Latch count) None ops.Wait (pos 0) (pos 0)) (sym is) (refl, λ n. first_look s [] o by ops.Wait (pos 0) replies.Ok n)
  latch_look count share None ops.TryWait (pos zero) (pos zero) r ask is = subst (Seen (kinds.Latch count) None ops.TryWait (pos 0) (pos 0)) (sym is.1) (tried count is.0)
  latch_look count share (Some ops.CountDown) op a b r ask is = absurd ask
  latch_look count share _ _ _ _ r ask is = absurd ask

  shared_change : (levels : ℕ) (reads : Bool) (op : Op) (l : Option Op) (a b : ℤ) (r : Reply) → asks_shared levels reads (Some op) l a b → IsSharedReply op r → Made kinds.Shared op l a b r
  shared_change zero false ops.Lock None (pos zero) (pos zero) r ask is = subst (Made kinds.Shared ops.Lock None (pos 0) (pos 0)) (sym is) (refl, λ n. first_change s [] o by ops.Lock (pos 0) replies.Ok n)
  shared_change zero false ops.TryLock (Some ops.TryLock) (pos zero) (pos zero) r ask is = subst (Made kinds.Shared ops.TryLock (Some ops.TryLock) (pos 0) (pos 0)) (sym is) (refl, λ n. first_change s (ALook o ops.TryLock (pos 0) (pos 0) (Just replies.False) ∷ []) o by ops.TryLock (pos 0) replies.True n)
  shared_change zero false ops.LockShared None (pos zero) (pos zero) r ask is = subst (Made kinds.Shared ops.LockShared None (pos 0) (pos 0)) (sym is) (refl, λ n. first_change s [] o by ops.LockShared (pos 0) replies.Ok n)
  shared_change zero false ops.TryLockShared (Some ops.TryLockShared) (pos zero) (pos zero) r ask is = subst (Made kinds.Shared ops.TryLockShared (Some ops.TryLockShared) (pos 0) (pos 0)) (sym is) (refl, λ n. first_change s (ALook o ops.TryLockShared (pos 0) (pos 0) (Just replies.False) ∷ []) o by ops.TryLockShared (pos 0) replies.True n)
  shared_change (suc levels) reads ops.Unlock None (pos zero) (pos zero) r ask is = subst (Made kinds.Shared ops.Unlock None (pos 0) (pos 0)) (sym is) (refl, λ n. first_change s [] o by ops.Unlock (pos 0) replies.Ok n)
  shared_change levels true ops.UnlockShared None (pos zero) (pos zero) r ask is = subst (Made kinds.Shared ops.UnlockShared None (pos 0) (pos 0)) (sym is) (refl, λ n. first_change s [] o by ops.UnlockShared (pos 0) replies.Ok n)
  shared_change _ _ _ _ _ _ r ask is = absurd ask

  once_change : (op : Op) (l : Option Op) (a b : ℤ) (r : Reply) → asks_once (Some op) l a b → IsOnceReply op r → Made kinds.Once op l a b r
  once_change ops.Begin (Some ops.Passive) (pos zero) (pos zero) r ask is = subst (Made kinds.Once ops.Begin (Some ops.Passive) (pos 0) (pos 0)) (sym is) (refl, λ n. first_change s (ALook o ops.Passive (pos 0) (pos 0) (Just replies.Ok) ∷ []) o by ops.Begin (pos 0) replies.Ok n)
  once_change ops.Finish None (pos zero) (pos zero) r ask is = subst (Made kinds.Once ops.Finish None (pos 0) (pos 0)) (sym is) (refl, λ n. first_change s [] o by ops.Finish (pos 0) replies.Ok n)
  once_change ops.Fail None (pos e) (pos zero) r ask is = subst (Made kinds.Once ops.Fail None (pos e) (pos 0)) (sym is) (and_true (is_small (pos e)) (small_is e ask), λ n. first_change s [] o by ops.Fail (pos e) replies.Ok n)
  once_change _ _ _ _ r ask is = absurd ask

  barrier_change : (count : ℕ) (op : Op) (l : Option Op) (a b : ℤ) (r : Reply) → asks_barrier (Some op) l a b → IsBarrierReply op r → Made (kinds.Barrier count) op l a b r
  barrier_change count ops.Arrive (Some ops.Arrive) (pos k) (pos zero) r ask is = subst (Made (kinds.Barrier count) ops.Arrive (Some ops.Arrive) (pos k) (pos 0)) (sym is.1) (arriving k ask.0 ask.1 (is_small (pos is.0)) (small_is is.0 is.2), λ n. first_number s (ALook o ops.Arrive (pos k) (pos 0) (Just replies.OverExpected) ∷ []) o by ops.Arrive (pos k) (pos is.0) n)
  barrier_change count ops.Drop (Some ops.Drop) (pos zero) (pos zero) r ask is = subst (Made (kinds.Barrier count) ops.Drop (Some ops.Drop) (pos 0) (pos 0)) (sym is.1) (small_is is.0 is.2, λ n. first_number s (ALook o ops.Drop (pos 0) (pos 0) (Just replies.OverExpected) ∷ []) o by ops.Drop (pos 0) (pos is.0) n)
  barrier_change count ops.Complete None (pos zero) (pos zero) r ask is = subst (Made (kinds.Barrier count) ops.Complete None (pos 0) (pos 0)) (sym is) (refl, λ n. first_change s [] o by ops.Complete (pos 0) replies.Ok n)
  barrier_change count _ _ _ _ r ask is = absurd ask

  shared_look : (levels : ℕ) (reads : Bool) (c : Option Op) (op : Op) (a b : ℤ) (r : Reply) → asks_shared levels reads c (Some op) a b → IsSharedSight op r → Seen kinds.Shared c op a b r
  shared_look zero false (Some ops.TryLock) ops.TryLock (pos zero) (pos zero) r ask is = subst (Seen kinds.Shared (Some ops.TryLock) ops.TryLock (pos 0) (pos 0)) (sym is) (refl, λ n. second_look s (Change o ops.TryLock (pos 0) (pos 0) (Just replies.True)) o by ops.TryLock (pos 0) replies.False n)
  shared_look zero false (Some ops.TryLockShared) ops.TryLockShared (pos zero) (pos zero) r ask is = subst (Seen kinds.Shared (Some ops.TryLockShared) ops.TryLockShared (pos 0) (pos 0)) (sym is) (refl, λ n. second_look s (Change o ops.TryLockShared (pos 0) (pos 0) (Just replies.True)) o by ops.TryLockShared (pos 0) replies.False n)
  shared_look (suc levels) reads (Some ops.Unlock) op a b r ask is = absurd ask
  shared_look levels true (Some ops.UnlockShared) op a b r ask is = absurd ask
  shared_look _ _ _ _ _ _ r ask is = absurd ask

  once_look : (c : Option Op) (op : Op) (a b : ℤ) (r : Reply) → asks_once c (Some op) a b → IsOnceSight op r → Seen kinds.Once c op a b r
  once_look (Some ops.Begin) ops.Passive (pos zero) (pos zero) r ask is = subst (Seen kinds.Once (Some ops.Begin) ops.Passive (pos 0) (pos 0)) (sym is) (refl, λ n. second_look s (Change o ops.Begin (pos 0) (pos 0) (Just replies.Ok)) o by ops.Passive (pos 0) replies.Ok n)
  once_look _ _ _ _ r ask is = absurd ask

  barrier_look : (count : ℕ) (c : Option Op) (op : Op) (a b : ℤ) (r : Reply) → asks_barrier c (Some op) a b → IsBarrierSight op (small_of a) r → Seen (kinds.Barrier count) c op a b r
  barrier_look count (Some ops.Arrive) ops.Arrive (pos k) (pos zero) r ask is = subst (Seen (kinds.Barrier count) (Some ops.Arrive) ops.Arrive (pos k) (pos 0)) (sym is) (arriving k ask.0 ask.1 true refl, λ n. second_look s (Change o ops.Arrive (pos k) (pos 0) ANumber) o by ops.Arrive (pos k) replies.OverExpected n)
  barrier_look count (Some ops.Drop) ops.Drop (pos zero) (pos zero) r ask is = subst (Seen (kinds.Barrier count) (Some ops.Drop) ops.Drop (pos 0) (pos 0)) (sym is) (refl, λ n. second_look s (Change o ops.Drop (pos 0) (pos 0) ANumber) o by ops.Drop (pos 0) replies.OverExpected n)
  barrier_look count None ops.Wait phase (pos zero) r ask is = subst (Seen (kinds.Barrier count) None ops.Wait phase (pos 0)) (sym is.0) (and_true (is_small phase) is.1, λ n. first_look s [] o by ops.Wait phase replies.Ok n)
  barrier_look count _ _ _ _ r ask is = absurd ask

-- ---- every kind

-- the words of an ask's change, by the kind of the object
any_change : (s : Scene) (o : ObjectNo) (d : Object) (h : Kept) (share : ℕ) (op : Op) (l : Option Op) (a b : ℤ) (es : List Entry) (now after : State) (by : ThreadNo) (r : Reply) → serves (kind_of d) h share (record { change = Some op; look = l; a = a; b = b }) → run step (Some (opening (kind_of d))) es ≡ Some now → step now (change by op a b r) ≡ Some after → Made s o by (kind_of d) op l a b r
any_change s o (objects.Mutex numbers) h share op l a b es now after by r ask leads on =
    let here = stays AMutex (at_entry mutex.step) (λ m e. refl) es (mutex.opening false numbers) now leads in
    let e = enabled AMutex (at_entry mutex.step) (λ m e. refl) here.0 (change by op a b r) after (rw here.1 at on) in
    plain_change s o by numbers h.levels op l a b r ask (mutex_replies here.0 e.0 by.0 op (small_of a) b r e.1)
any_change s o objects.Recursive h share op l a b es now after by r ask leads on =
    let here = stays AMutex (at_entry mutex.step) (λ m e. refl) es (mutex.opening true 0) now leads in
    let e = enabled AMutex (at_entry mutex.step) (λ m e. refl) here.0 (change by op a b r) after (rw here.1 at on) in
    recursive_change s o by 0 h.levels op l a b r ask (mutex_replies here.0 e.0 by.0 op (small_of a) b r e.1)
any_change s o (objects.Semaphore count max) h share op l a b es now after by r ask leads on =
    let here = stays ASemaphore (at_entry semaphore.step) (λ m e. refl) es (semaphore.opening count max) now leads in
    let e = enabled ASemaphore (at_entry semaphore.step) (λ m e. refl) here.0 (change by op a b r) after (rw here.1 at on) in
    semaphore_change s o by count max op l a b r ask (semaphore_replies here.0 e.0 by.0 op (small_of a) b r e.1)
any_change s o (objects.Latch count) h share op l a b es now after by r ask leads on =
    let here = stays ALatch (at_entry latch.step) (λ m e. refl) es (latch.opening count) now leads in
    let e = enabled ALatch (at_entry latch.step) (λ m e. refl) here.0 (change by op a b r) after (rw here.1 at on) in
    latch_change s o by count share op l a b r ask (latch_replies here.0 e.0 by.0 op (small_of a) b r e.1)
any_change s o objects.Shared h share op l a b es now after by r ask leads on =
    let here = stays AShared (at_entry shared.step) (λ m e. refl) es shared.opening now leads in
    let e = enabled AShared (at_entry shared.step) (λ m e. refl) here.0 (change by op a b r) after (rw here.1 at on) in
    shared_change s o by h.levels h.reads op l a b r ask (shared_replies here.0 e.0 by.0 op (small_of a) b r e.1)
any_change s o objects.Once h share op l a b es now after by r ask leads on =
    let here = stays AnOnce (at_entry once.step) (λ m e. refl) es once.Idle now leads in
    let e = enabled AnOnce (at_entry once.step) (λ m e. refl) here.0 (change by op a b r) after (rw here.1 at on) in
    once_change s o by op l a b r ask (once_replies here.0 e.0 by.0 op (small_of a) b r e.1)
any_change s o (objects.Barrier count small) h share op l a b es now after by r ask leads on =
    let here = phases_low es (barrier.opening count) now (omega arith) leads in
    let e = enabled ABarrier (at_entry barrier.step) (λ m e. refl) here.0 (change by op a b r) after (rw here.1 at on) in
    barrier_change s o by count op l a b r ask (barrier_replies here.0 e.0 by.0 op (small_of a) b r here.2 e.1)
any_change s o d h share op l a b es now after by r ask leads on = absurd ask

any_look : (s : Scene) (o : ObjectNo) (d : Object) (h : Kept) (share : ℕ) (c : Option Op) (op : Op) (a b : ℤ) (es : List Entry) (now : State) (by : ThreadNo) (r : Reply) (n : ℕ) → serves (kind_of d) h share (record { change = c; look = Some op; a = a; b = b }) → run step (Some (opening (kind_of d))) es ≡ Some now → shows now (look_of by op a b r n) ≡ true → Seen s o by (kind_of d) c op a b r
any_look s o (objects.Mutex numbers) h share c op a b es now by r n ask leads on =
    let here = stays AMutex (at_entry mutex.step) (λ m e. refl) es (mutex.opening false numbers) now leads in
    plain_look s o by numbers h.levels c op a b r ask (mutex_sights here.0 by.0 op (small_of a) b r (rw here.1 at on))
any_look s o objects.Recursive h share c op a b es now by r n ask leads on =
    let here = stays AMutex (at_entry mutex.step) (λ m e. refl) es (mutex.opening true 0) now leads in
    recursive_look s o by 0 h.levels c op a b r ask (mutex_sights here.0 by.0 op (small_of a) b r (rw here.1 at on))
any_look s o (objects.Semaphore count max) h share c op a b es now by r n ask leads on =
    let here = stays ASemaphore (at_entry semaphore.step) (λ m e. refl) es (semaphore.opening count max) now leads in
    semaphore_look s o by count max c op a b r ask (semaphore_sights here.0 by.0 op (small_of a) b r (rw here.1 at on))
any_look s o (objects.Latch count) h share c op a b es now by r n ask leads on =
    let here = stays ALatch (at_entry latch.step) (λ m e. refl) es (latch.opening count) now leads in
    latch_look s o by count share c op a b r ask (latch_sights here.0 by.0 op (small_of a) b r (rw here.1 at on))
any_look s o objects.Shared h share c op a b es now by r n ask leads on =
    let here = stays AShared (at_entry shared.step) (λ m e. refl) es shared.opening now leads in
    shared_look s o by h.levels h.reads c op a b r ask (shared_sights here.0 by.0 op (small_of a) b r (rw here.1 at on))
any_look s o objects.Once h share c op a b es now by r n ask leads on =
    let here = stays AnOnce (at_entry once.step) (λ m e. refl) es once.Idle now leads in
    once_look s o by c op a b r ask (once_sights here.0 by.0 op (small_of a) b r (rw here.1 at on))
any_look s o (objects.Barrier count small) h share c op a b es now by r n ask leads on =
    let here = stays ABarrier (at_entry barrier.step) (λ m e. refl) es (barrier.opening count) now leads in
    barrier_look s o by count c op a b r ask (barrier_sights here.0 by.0 op (small_of a) b r (rw here.1 at on))
any_look s o d h share c op a b es now by r n ask leads on = absurd ask

pub changes_answer : (s : Scene) (d : Object) (o : ObjectNo) (k : Ask) (h : Kept) (share : ℕ) (es : List Entry) (now after : State) (by : ThreadNo) (op : Op) (r : Reply) (n : ℕ) → slice_get s.objects o.0 ≡ Some d → serves (kind_of d) h share k → k.change ≡ Some op → run step (Some (opening (kind_of d))) es ≡ Some now → step now (change by op k.a k.b r) ≡ Some after → n < 2 ^ 28 → Answers s by.0 (asked_forms (kind_of d) o k) (items.Change o n (change by op k.a k.b r))
changes_answer s d o k h share es now after by op r n there ask is leads on few =
    let asked : serves (kind_of d) h share (record { change = Some op; look = k.look; a = k.a; b = k.b }) = subst (λ (c : Option Op). serves (kind_of d) h share (record { change = c; look = k.look; a = k.a; b = k.b })) is ask in
    let m = any_change s o d h share op k.look k.a k.b es now after by r asked leads on in
    record {
      of_one = subst (λ (c : Option Op). is_of_one s (change_forms (kind_of d) o c k.a k.b ++ look_forms (kind_of d) o k.look k.a k.b) (items.Change o n (change by op k.a k.b r)) ≡ true) (sym is) (m.1 n);
      formed = change_formed s d o by op k.a k.b r n there few m.0;
    }

pub looks_answer : (s : Scene) (d : Object) (o : ObjectNo) (k : Ask) (h : Kept) (share : ℕ) (es : List Entry) (now : State) (by : ThreadNo) (op : Op) (r : Reply) (n : ℕ) → slice_get s.objects o.0 ≡ Some d → serves (kind_of d) h share k → k.look ≡ Some op → run step (Some (opening (kind_of d))) es ≡ Some now → shows now (look_of by op k.a k.b r n) ≡ true → n < 2 ^ 28 → Answers s by.0 (asked_forms (kind_of d) o k) (items.Look o (look_of by op k.a k.b r n))
looks_answer s d o k h share es now by op r n there ask is leads on few =
    let asked : serves (kind_of d) h share (record { change = k.change; look = Some op; a = k.a; b = k.b }) = subst (λ (c : Option Op). serves (kind_of d) h share (record { change = k.change; look = c; a = k.a; b = k.b })) is ask in
    let m = any_look s o d h share k.change op k.a k.b es now by r n asked leads on in
    record {
      of_one = subst (λ (c : Option Op). is_of_one s (change_forms (kind_of d) o k.change k.a k.b ++ look_forms (kind_of d) o c k.a k.b) (items.Look o (look_of by op k.a k.b r n)) ≡ true) (sym is) (m.1 n);
      formed = look_formed s d o by op k.a k.b r n there few m.0;
    }
