-- What a change pays and earns, by its machine.
use Rattle.std.proofs.Common.{◌≡◌, ℕ, zero, ◌+◌, ◌*◌, ◌≤◌, ◌&&◌, not, nat_lt, ℤ, pos, true, false, [], ◌∷◌, ◌++◌, length, Option, Some, None, option_map, refl, subst, arith}
use Rattle.std.proofs.lemmas.Bool.{and_parts}
use Rattle.cx_names.specs.declared.Reply.{Reply}
use Rattle.cx_names.specs.declared.Reply.TheVariants as replies
use Rattle.cx_machine.specs.declared.kind.Op.{Op}
use Rattle.cx_machine.specs.declared.kind.Op.TheVariants as ops
use Rattle.cx_machine.specs.declared.kind.Entry.{Entry}
use Rattle.cx_machine.specs.declared.kind.Look.{Look}
use Rattle.cx_machine.specs.Machine.{State, step, shows, Mutex as AMutex, Shared as AShared, Semaphore as ASemaphore, Latch as ALatch, Barrier as ABarrier, Once as AOnce, Condition as ACondition, Stop as AStop, Future as AFuture}
use Rattle.cx_machine.specs.Mutex as mutex
use Rattle.cx_machine.specs.Shared as shared
use Rattle.cx_machine.specs.Semaphore as semaphore
use Rattle.cx_machine.specs.Latch as latch
use Rattle.cx_machine.specs.Barrier as barrier
use Rattle.cx_machine.specs.Once as once
use Rattle.cx_machine.specs.Once.{Idle, Active, Done}
use Rattle.cx_machine.specs.Condition as condition
use Rattle.cx_machine.specs.Stop as stop
use Rattle.cx_machine.specs.Stop.{is_requested, can_add, is_fresh, runs, requested, with_another, without_one, registered_too, began, finished, removed, ran}
use Rattle.cx_machine.specs.Future as future
use Rattle.cx_machine.specs.Words.{is_thread, has, without, small_of}
use Rattle.cx_machine.specs.Meaning.{times}
use Rattle.cx_machine.specs.Kept.{made}
use Rattle.cx_machine.specs.Distinct.{length-without, length-push}
use Rattle.cx_machine.specs.Waiters.{times_some}
use Rattle.cx_weights.specs.Weights.{pays, earns, is_true_look}
use Rattle.cx_weights.specs.World.{once_reserve, is_asked}
use Rattle.cx_weights.specs.Laws.{Settles}

-- ---- a stop state

record StopSettles (s : stop.Stop) (op : Op) (t : stop.Stop) : Type 0 where
  pub reserved : 4 * length t.registered + earns op ≤ 4 * length s.registered + pays op
  pub stays : is_requested s ≡ true → is_requested t ≡ true

no_change : (n : ℕ) → 4 * n + 0 ≤ 4 * n + 0
no_change n = omega arith

one_more : (n m : ℕ) → m ≡ n + 1 → 4 * m + 0 ≤ 4 * n + 4
one_more n m h = omega arith

no_more : (n m t : ℕ) → m + t ≡ n → 4 * m + 0 ≤ 4 * n + 0
no_more n m t h = omega arith

one_less : (n m t : ℕ) → m + t ≡ n → 1 ≤ t → 4 * m + 4 ≤ 4 * n + 0
one_less n m t h k = omega arith

stop_settles : (s s' : stop.Stop) (by : ℕ) (op : Op) (a : Option ℕ) (b : ℤ) (r : Reply) → stop.step s by op a b r ≡ Some s' → StopSettles s op s'
stop_settles s s' by ops.Request (Some zero) (pos zero) replies.Ok e = made (StopSettles s ops.Request) (not (is_requested s)) (requested s by) s' (λ _. record { reserved = no_change (length s.registered); stays = λ h. refl }) e
stop_settles s s' by ops.Another (Some zero) (pos zero) replies.Ok e = made (StopSettles s ops.Another) (can_add s) (with_another s) s' (λ _. record { reserved = no_change (length s.registered); stays = λ h. h }) e
stop_settles s s' by ops.Drop (Some zero) (pos zero) replies.Ok e = made (StopSettles s ops.Drop) (nat_lt 0 s.sources) (without_one s) s' (λ _. record { reserved = no_change (length s.registered); stays = λ h. h }) e
stop_settles s s' by ops.Register (Some id) (pos zero) replies.Ok e = made (StopSettles s ops.Register) (not (is_requested s) && nat_lt 0 s.sources && is_fresh s by id) (registered_too s id) s' (λ _. record { reserved = one_more (length s.registered) (length (s.registered ++ id ∷ [])) (length-push s.registered id); stays = λ h. h }) e
stop_settles s s' by ops.RegisterNow (Some id) (pos zero) replies.Ok e = made (StopSettles s ops.RegisterNow) (is_requested s && is_fresh s by id) (began s by id) s' (λ _. record { reserved = no_more (length s.registered) (length (without s.registered id)) (times id s.registered) (length-without s.registered id); stays = λ h. h }) e
stop_settles s s' by ops.Begin (Some id) (pos zero) replies.Ok e = made (StopSettles s ops.Begin) (is_thread s.requester by && has s.registered id) (began s by id) s' (λ c. record { reserved = one_less (length s.registered) (length (without s.registered id)) (times id s.registered) (length-without s.registered id) (times_some id s.registered (and_parts (is_thread s.requester by) (has s.registered id) c).1); stays = λ h. h }) e
stop_settles s s' by ops.Finish (Some id) (pos zero) replies.Ok e = made (StopSettles s ops.Finish) (runs s.running by id) (finished s by id) s' (λ _. record { reserved = no_change (length s.registered); stays = λ h. h }) e
stop_settles s s' by ops.Deregister (Some id) (pos zero) replies.Removed e = made (StopSettles s ops.Deregister) (has s.registered id) (removed s id) s' (λ _. record { reserved = no_more (length s.registered) (length (without s.registered id)) (times id s.registered) (length-without s.registered id); stays = λ h. h }) e
stop_settles s s' by ops.Deregister (Some id) (pos zero) replies.Ran e = made (StopSettles s ops.Deregister) (has s.ended id) (ran s id) s' (λ _. record { reserved = no_change (length s.registered); stays = λ h. h }) e
stop_settles s s' by ops.Deregister (Some id) (pos zero) replies.Inside e = made (StopSettles s ops.Deregister) (runs s.running by id) s s' (λ _. record { reserved = no_change (length s.registered); stays = λ h. h }) e
stop_settles s s' by _ _ _ _ e = cc e

-- ---- a once flag

idle_begins : (o : once.Once) → once.is_idle o ≡ true → 0 + 4 ≤ once_reserve o + 0
idle_begins Idle h = omega arith
idle_begins (Active t) h = cc
idle_begins Done h = cc

done_settles : (n : ℕ) → 0 + 0 ≤ n + 0
done_settles n = omega arith

idle_again : (n : ℕ) → 4 + 0 ≤ n + 4
idle_again n = omega arith

abbrev OnceSettles : once.Once → Op → once.Once → Type 0
OnceSettles o op p = once_reserve p + earns op ≤ once_reserve o + pays op

once_settles : (o o' : once.Once) (by : ℕ) (op : Op) (a : Option ℕ) (b : ℤ) (r : Reply) → once.step o by op a b r ≡ Some o' → OnceSettles o op o'
once_settles o o' by ops.Begin (Some zero) (pos zero) replies.Ok e = made (OnceSettles o ops.Begin) (once.is_idle o) (Active by) o' (λ c. idle_begins o c) e
once_settles o o' by ops.Finish (Some zero) (pos zero) replies.Ok e = made (OnceSettles o ops.Finish) (once.is_active o by) Done o' (λ c. done_settles (once_reserve o)) e
once_settles o o' by ops.Fail (Some x) (pos zero) replies.Ok e = made (OnceSettles o ops.Fail) (once.is_active o by) Idle o' (λ c. idle_again (once_reserve o)) e
once_settles o o' by _ _ _ _ e = cc e

-- ---- the others have no `begin`

mutex_settles : (m m' : mutex.Mutex) (by : ℕ) (op : Op) (a : Option ℕ) (b : ℤ) (r : Reply) → mutex.step m by op a b r ≡ Some m' → 0 + earns op ≤ 0 + pays op
mutex_settles m m' by ops.Begin a b r e = cc e
mutex_settles m m' by op a b r e = omega arith

shared_settles : (m m' : shared.Shared) (by : ℕ) (op : Op) (a : Option ℕ) (b : ℤ) (r : Reply) → shared.step m by op a b r ≡ Some m' → 0 + earns op ≤ 0 + pays op
shared_settles m m' by ops.Begin a b r e = cc e
shared_settles m m' by op a b r e = omega arith

semaphore_settles : (m m' : semaphore.Semaphore) (by : ℕ) (op : Op) (a : Option ℕ) (b : ℤ) (r : Reply) → semaphore.step m by op a b r ≡ Some m' → 0 + earns op ≤ 0 + pays op
semaphore_settles m m' by ops.Begin a b r e = cc e
semaphore_settles m m' by op a b r e = omega arith

latch_settles : (m m' : latch.Latch) (by : ℕ) (op : Op) (a : Option ℕ) (b : ℤ) (r : Reply) → latch.step m by op a b r ≡ Some m' → 0 + earns op ≤ 0 + pays op
latch_settles m m' by ops.Begin a b r e = cc e
latch_settles m m' by op a b r e = omega arith

barrier_settles : (m m' : barrier.Barrier) (by : ℕ) (op : Op) (a : Option ℕ) (b : ℤ) (r : Reply) → barrier.step m by op a b r ≡ Some m' → 0 + earns op ≤ 0 + pays op
barrier_settles m m' by ops.Begin a b r e = cc e
barrier_settles m m' by op a b r e = omega arith

condition_settles : (m m' : condition.Condition) (by : ℕ) (op : Op) (a : Option ℕ) (b : ℤ) (r : Reply) → condition.step m by op a b r ≡ Some m' → 0 + earns op ≤ 0 + pays op
condition_settles m m' by ops.Begin a b r e = cc e
condition_settles m m' by op a b r e = omega arith

future_settles : (m m' : future.Future) (by : ℕ) (op : Op) (a : Option ℕ) (b : ℤ) (r : Reply) → future.step m by op a b r ≡ Some m' → 0 + earns op ≤ 0 + pays op
future_settles m m' by ops.Begin a b r e = cc e
future_settles m m' by op a b r e = omega arith

-- ---- every machine

inverted : {S : Type 0} (f : S → State) (o : Option S) (y : State) (P : State → Type 0) → ((t : S) → o ≡ Some t → P (f t)) → option_map f o ≡ Some y → P y
inverted f None y P h e = cc e
inverted f (Some t) y P h e = let same : f t ≡ y = cc e in subst P same (h t refl)

pub each_change_settles : (x next : State) (e : Entry) → step x e ≡ Some next → Settles x next e
each_change_settles (AStop s) next e h = inverted AStop (stop.step s e.by.0 e.op (small_of e.a) e.b e.reply) next (λ y. Settles (AStop s) y e) (λ t k. let p = stop_settles s t e.by.0 e.op (small_of e.a) e.b e.reply k in record { reserved = p.reserved; stays = p.stays }) h
each_change_settles (AOnce o) next e h = inverted AOnce (once.step o e.by.0 e.op (small_of e.a) e.b e.reply) next (λ y. Settles (AOnce o) y e) (λ t k. record { reserved = once_settles o t e.by.0 e.op (small_of e.a) e.b e.reply k; stays = λ q. q }) h
each_change_settles (AMutex m) next e h = inverted AMutex (mutex.step m e.by.0 e.op (small_of e.a) e.b e.reply) next (λ y. Settles (AMutex m) y e) (λ t k. record { reserved = mutex_settles m t e.by.0 e.op (small_of e.a) e.b e.reply k; stays = λ q. q }) h
each_change_settles (AShared m) next e h = inverted AShared (shared.step m e.by.0 e.op (small_of e.a) e.b e.reply) next (λ y. Settles (AShared m) y e) (λ t k. record { reserved = shared_settles m t e.by.0 e.op (small_of e.a) e.b e.reply k; stays = λ q. q }) h
each_change_settles (ASemaphore m) next e h = inverted ASemaphore (semaphore.step m e.by.0 e.op (small_of e.a) e.b e.reply) next (λ y. Settles (ASemaphore m) y e) (λ t k. record { reserved = semaphore_settles m t e.by.0 e.op (small_of e.a) e.b e.reply k; stays = λ q. q }) h
each_change_settles (ALatch m) next e h = inverted ALatch (latch.step m e.by.0 e.op (small_of e.a) e.b e.reply) next (λ y. Settles (ALatch m) y e) (λ t k. record { reserved = latch_settles m t e.by.0 e.op (small_of e.a) e.b e.reply k; stays = λ q. q }) h
each_change_settles (ABarrier m) next e h = inverted ABarrier (barrier.step m e.by.0 e.op (small_of e.a) e.b e.reply) next (λ y. Settles (ABarrier m) y e) (λ t k. record { reserved = barrier_settles m t e.by.0 e.op (small_of e.a) e.b e.reply k; stays = λ q. q }) h
each_change_settles (ACondition m) next e h = inverted ACondition (condition.step m e.by.0 e.op (small_of e.a) e.b e.reply) next (λ y. Settles (ACondition m) y e) (λ t k. record { reserved = condition_settles m t e.by.0 e.op (small_of e.a) e.b e.reply k; stays = λ q. q }) h
each_change_settles (AFuture m) next e h = inverted AFuture (future.step m e.by.0 e.op (small_of e.a) e.b e.reply) next (λ y. Settles (AFuture m) y e) (λ t k. record { reserved = future_settles m t e.by.0 e.op (small_of e.a) e.b e.reply k; stays = λ q. q }) h

-- ---- looks

stop_looks : (s : stop.Stop) (by : ℕ) (op : Op) (a : Option ℕ) (b : ℤ) (r : Reply) → stop.shows s by op a b r ≡ true → is_true_look op r (is_requested s) ≡ true
stop_looks s by ops.StopRequested (Some zero) (pos zero) replies.True h = h
stop_looks s by ops.StopRequested (Some zero) (pos zero) replies.False h = h
stop_looks s by ops.StopRequested a b r h = cc
stop_looks s by op a b r h = refl

once_looks : (m : once.Once) (by : ℕ) (op : Op) (a : Option ℕ) (b : ℤ) (r : Reply) → once.shows m by op a b r ≡ true → is_true_look op r false ≡ true
once_looks m by ops.StopRequested a b r h = cc h
once_looks m by op a b r h = refl

mutex_looks : (m : mutex.Mutex) (by : ℕ) (op : Op) (a : Option ℕ) (b : ℤ) (r : Reply) → mutex.shows m by op a b r ≡ true → is_true_look op r false ≡ true
mutex_looks m by ops.StopRequested a b r h = cc h
mutex_looks m by op a b r h = refl

shared_looks : (m : shared.Shared) (by : ℕ) (op : Op) (a : Option ℕ) (b : ℤ) (r : Reply) → shared.shows m by op a b r ≡ true → is_true_look op r false ≡ true
shared_looks m by ops.StopRequested a b r h = cc h
shared_looks m by op a b r h = refl

semaphore_looks : (m : semaphore.Semaphore) (by : ℕ) (op : Op) (a : Option ℕ) (b : ℤ) (r : Reply) → semaphore.shows m by op a b r ≡ true → is_true_look op r false ≡ true
semaphore_looks m by ops.StopRequested a b r h = cc h
semaphore_looks m by op a b r h = refl

latch_looks : (m : latch.Latch) (by : ℕ) (op : Op) (a : Option ℕ) (b : ℤ) (r : Reply) → latch.shows m by op a b r ≡ true → is_true_look op r false ≡ true
latch_looks m by ops.StopRequested a b r h = cc h
latch_looks m by op a b r h = refl

barrier_looks : (m : barrier.Barrier) (by : ℕ) (op : Op) (a : Option ℕ) (b : ℤ) (r : Reply) → barrier.shows m by op a b r ≡ true → is_true_look op r false ≡ true
barrier_looks m by ops.StopRequested a b r h = cc h
barrier_looks m by op a b r h = refl

condition_looks : (m : condition.Condition) (by : ℕ) (op : Op) (a : Option ℕ) (b : ℤ) (r : Reply) → condition.shows m by op a b r ≡ true → is_true_look op r false ≡ true
condition_looks m by ops.StopRequested a b r h = cc h
condition_looks m by op a b r h = refl

future_looks : (m : future.Future) (by : ℕ) (op : Op) (a : Option ℕ) (b : ℤ) (r : Reply) → future.shows m by op a b r ≡ true → is_true_look op r false ≡ true
future_looks m by ops.StopRequested a b r h = cc h
future_looks m by op a b r h = refl

pub each_look_is_true : (x : State) (l : Look) → shows x l ≡ true → is_true_look l.op l.reply (is_asked x) ≡ true
each_look_is_true (AStop s) l h = stop_looks s l.by.0 l.op (small_of l.a) l.b l.reply h
each_look_is_true (AOnce m) l h = once_looks m l.by.0 l.op (small_of l.a) l.b l.reply h
each_look_is_true (AMutex m) l h = mutex_looks m l.by.0 l.op (small_of l.a) l.b l.reply h
each_look_is_true (AShared m) l h = shared_looks m l.by.0 l.op (small_of l.a) l.b l.reply h
each_look_is_true (ASemaphore m) l h = semaphore_looks m l.by.0 l.op (small_of l.a) l.b l.reply h
each_look_is_true (ALatch m) l h = latch_looks m l.by.0 l.op (small_of l.a) l.b l.reply h
each_look_is_true (ABarrier m) l h = barrier_looks m l.by.0 l.op (small_of l.a) l.b l.reply h
each_look_is_true (ACondition m) l h = condition_looks m l.by.0 l.op (small_of l.a) l.b l.reply h
each_look_is_true (AFuture m) l h = future_looks m l.by.0 l.op (small_of l.a) l.b l.reply h
