-- What a call that begins weighs.
use Rattle.std.proofs.Common.{◌≡◌, ℕ, ◌+◌, ◌-◌, ◌*◌, ◌≤◌, ◌&&◌, nat_lt, Bool, true, false, List, [], ◌∷◌, ◌++◌, length, Option, Some, None, slice_get, refl, arith, ltb-true}
use Rattle.std.proofs.lemmas.Bool.{and_parts}
use Rattle.cx_names.specs.declared.ObjectNo.{ObjectNo}
use Rattle.cx_names.specs.declared.CallbackNo.{CallbackNo}
use Rattle.cx_names.specs.declared.Reply.{Reply}
use Rattle.cx_scene.specs.declared.declared.Object.{Object}
use Rattle.cx_scene.specs.declared.declared.Object.TheVariants as objects
use Rattle.cx_scene.specs.declared.declared.Callback.{Callback}
use Rattle.cx_scene.specs.declared.call.Call.{Call}
use Rattle.cx_scene.specs.declared.call.Call.TheVariants as calls
use Rattle.cx_scene.specs.Scene.{Scene}
use Rattle.cx_items.specs.declared.form.Forms.{Forms}
use Rattle.cx_items.specs.declared.task.Task.{Task}
use Rattle.cx_items.specs.declared.task.Task.TheVariants.{Makes, LocksFrom, TriesAll}
use Rattle.cx_items.specs.Memory.{Memory, of}
use Rattle.cx_items.specs.Calls.{readies, looks, launches, registers, deregisters, held_id, id_of, refusal, tasks, opened}
use Rattle.cx_weights.specs.Weights.{forms_weight, task_weight, is_replying, agenda_weight, is_sized_call, is_sized_task, is_sized}

-- so much, and what comes later
pub record Opens (ts : List Task) (n : ℕ) : Type 0 where
  pub weighs : (asked : ℕ → Bool) (more : Bool) (later : ℕ) → agenda_weight asked more later ts ≤ n + later
  pub sizes : is_sized ts ≡ true

nothing_opens : (n x : ℕ) → 0 ≤ n + x
nothing_opens n x = omega arith

no_less : (w m x : ℕ) → w ≤ m → w + x ≤ m + x
no_less w m x h = omega arith

one_before : (f w n m x : ℕ) → f + n ≤ m → w ≤ n + x → f + w ≤ m + x
one_before f w n m x h k = omega arith

opens_none : (n : ℕ) → Opens [] n
opens_none n = record { weighs = λ asked more later. nothing_opens n later; sizes = refl }

opens_one : (task : Task) (n : ℕ) → is_replying task ≡ true → is_sized_task task ≡ true → ((asked : ℕ → Bool) (more : Bool) → task_weight asked more task ≤ n) → Opens (task ∷ []) n
opens_one task n replying sized h = record { weighs = λ asked more later. rw replying (no_less (task_weight asked more task) n later (h asked more)); sizes = rw (replying, sized) refl }

opens_after : (fs : Forms) (ts : List Task) (n m : ℕ) → forms_weight fs + n ≤ m → Opens ts n → Opens (Makes fs ∷ ts) m
opens_after fs ts n m h o = record { weighs = λ asked more later. one_before (forms_weight fs) (agenda_weight asked more later ts) n m later h (o.weighs asked more later); sizes = o.sizes }

-- an act whose reply is the call's, and the others that are one task
opens_act : (task : Task) → is_replying task ≡ true → is_sized_task task ≡ true → ((asked : ℕ → Bool) (more : Bool) → task_weight asked more task ≤ 19) → Opens (task ∷ []) 19
opens_act task replying sized h = opens_one task 19 replying sized h

locks_small : (n : ℕ) → n ≤ 5 → 3 * n + 2 ≤ 19
locks_small n h = omega arith

opens_locks : (os : List ℕ) → (nat_lt 1 (length os) && nat_lt (length os) 6) ≡ true → 3 * length os + 2 ≤ 19
opens_locks os h =
    let p = and_parts (nat_lt 1 (length os)) (nat_lt (length os) 6) h in
    let few = ltb-true (length os) 6 p.1 in
    omega (arith, few)

opens_tries : (os : List ℕ) → (nat_lt 0 (length os) && nat_lt (length os) 6) ≡ true → 3 * (length os - 0) + 0 + 2 ≤ 19
opens_tries os h =
    let p = and_parts (nat_lt 0 (length os)) (nat_lt (length os) 6) h in
    let few = ltb-true (length os) 6 p.1 in
    omega (arith, few)

-- ---- the calls whose tasks depend on more

opens_registers : (s : Scene) (id : ℕ) (k : CallbackNo) (c : Option Callback) → Opens (registers s id k c ++ []) 19
opens_registers s id k None = opens_none 19
opens_registers s id k (Some c) = opens_act _ refl refl (λ asked more. omega arith)

opens_deregisters : (c : Option Callback) (id : Option ℕ) → Opens (deregisters c id ++ []) 19
opens_deregisters None id = opens_none 19
opens_deregisters (Some c) None = opens_none 19
opens_deregisters (Some c) (Some id) = opens_act _ refl refl (λ asked more. omega arith)

opens_launches : (a : ObjectNo) (d : Option Object) → Opens (launches a d) 19
opens_launches a None = opens_none 19
opens_launches a (Some (objects.Async policy f u)) = opens_act _ refl refl (λ asked more. omega arith)
opens_launches a (Some d) = opens_none 19

opens_waits : (s : Scene) (m : Memory) (p : ObjectNo) (b : Bool) → (of m p).is_unrun ≡ b → Opens (readies s m p (looks true)) 19
opens_waits s m p true e = rw e (opens_after _ _ 18 19 (omega arith) (opens_after _ _ 17 18 (omega arith) (opens_after _ _ 16 17 (omega arith) (opens_one _ 16 refl refl (λ asked more. omega arith)))))
opens_waits s m p false e = rw e (opens_after _ _ 18 19 (omega arith) (opens_one _ 18 refl refl (λ asked more. omega arith)))

opens_outcome : (s : Scene) (m : Memory) (p : ObjectNo) (b : Bool) → (of m p).is_unrun ≡ b → Opens (readies s m p (looks false)) 19
opens_outcome s m p true e = rw e (opens_after _ _ 18 19 (omega arith) (opens_after _ _ 17 18 (omega arith) (opens_one _ 17 refl refl (λ asked more. omega arith))))
opens_outcome s m p false e = rw e (opens_act _ refl refl (λ asked more. omega arith))

-- ---- every call

opens_tasks : (s : Scene) (t n : ℕ) (m : Memory) (c : Call) → is_sized_call c ≡ true → Opens (tasks s t n m c) 19
opens_tasks s t n m (calls.Lock o) h = opens_act _ refl refl (λ asked more. omega arith)
opens_tasks s t n m (calls.LockRecursive o) h = opens_act _ refl refl (λ asked more. omega arith)
opens_tasks s t n m (calls.LockShared o) h = opens_act _ refl refl (λ asked more. omega arith)
opens_tasks s t n m (calls.TryLock o) h = opens_act _ refl refl (λ asked more. omega arith)
opens_tasks s t n m (calls.TryLockRecursive o) h = opens_act _ refl refl (λ asked more. omega arith)
opens_tasks s t n m (calls.TryLockShared o) h = opens_act _ refl refl (λ asked more. omega arith)
opens_tasks s t n m (calls.Unlock o) h = opens_act _ refl refl (λ asked more. omega arith)
opens_tasks s t n m (calls.UnlockShared o) h = opens_act _ refl refl (λ asked more. omega arith)
opens_tasks s t n m (calls.Get o i) h = opens_act _ refl refl (λ asked more. omega arith)
opens_tasks s t n m (calls.Set o i v) h = opens_act _ refl refl (λ asked more. omega arith)
opens_tasks s t n m (calls.Add o i v) h = opens_act _ refl refl (λ asked more. omega arith)
opens_tasks s t n m (calls.LockAll os) h = opens_act (LocksFrom os) refl h (λ asked more. opens_locks os h)
opens_tasks s t n m (calls.TryLockAll os) h = opens_act (TriesAll os 0) refl h (λ asked more. opens_tries os h)
opens_tasks s t n m (calls.Release q c) h = opens_act _ refl refl (λ asked more. omega arith)
opens_tasks s t n m (calls.Acquire q) h = opens_act _ refl refl (λ asked more. omega arith)
opens_tasks s t n m (calls.TryAcquire q) h = opens_act _ refl refl (λ asked more. omega arith)
opens_tasks s t n m (calls.CountDown l c) h = opens_act _ refl refl (λ asked more. omega arith)
opens_tasks s t n m (calls.WaitLatch l) h = opens_act _ refl refl (λ asked more. omega arith)
opens_tasks s t n m (calls.TryWait l) h = opens_act _ refl refl (λ asked more. omega arith)
opens_tasks s t n m (calls.ArriveAndWaitLatch l) h = opens_after _ _ 18 19 (omega arith) (opens_one _ 18 refl refl (λ asked more. omega arith))
opens_tasks s t n m (calls.Arrive b c) h = opens_act _ refl refl (λ asked more. omega arith)
opens_tasks s t n m (calls.WaitBarrier b) h = opens_act _ refl refl (λ asked more. omega arith)
opens_tasks s t n m (calls.ArriveAndWait b) h = opens_act _ refl refl (λ asked more. omega arith)
opens_tasks s t n m (calls.ArriveAndDrop b) h = opens_act _ refl refl (λ asked more. omega arith)
opens_tasks s t n m (calls.CallOnceReturn o) h = opens_act _ refl refl (λ asked more. omega arith)
opens_tasks s t n m (calls.CallOnceThrow o e) h = opens_act _ refl refl (λ asked more. omega arith)
opens_tasks s t n m (calls.WaitCondition c x) h = opens_after _ _ 18 19 (omega arith) (opens_after _ _ 17 18 (omega arith) (opens_after _ _ 16 17 (omega arith) (opens_after _ _ 14 16 (omega arith) (opens_one _ 14 refl refl (λ asked more. omega arith)))))
opens_tasks s t n m (calls.WaitPredicate c x p) h = opens_act _ refl refl (λ asked more. omega arith)
opens_tasks s t n m (calls.WaitStop c x st p) h = opens_act _ refl refl (λ asked more. omega arith)
opens_tasks s t n m (calls.NotifyOne c) h = opens_act _ refl refl (λ asked more. omega arith)
opens_tasks s t n m (calls.NotifyAll c) h = opens_act _ refl refl (λ asked more. omega arith)
opens_tasks s t n m (calls.RequestStop st) h = opens_act _ refl refl (λ asked more. omega arith)
opens_tasks s t n m (calls.StopRequested st) h = opens_act _ refl refl (λ asked more. omega arith)
opens_tasks s t n m (calls.StopPossible st) h = opens_act _ refl refl (λ asked more. omega arith)
opens_tasks s t n m (calls.Another st) h = opens_act _ refl refl (λ asked more. omega arith)
opens_tasks s t n m (calls.DropSource st) h = opens_act _ refl refl (λ asked more. omega arith)
opens_tasks s t n m (calls.Register k) h = opens_registers s (id_of t n) k (slice_get s.callbacks k.0)
opens_tasks s t n m (calls.Deregister k) h = opens_deregisters (slice_get s.callbacks k.0) (held_id s m.held k)
opens_tasks s t n m (calls.SetValue p v) h = opens_act _ refl refl (λ asked more. omega arith)
opens_tasks s t n m (calls.SetException p e) h = opens_act _ refl refl (λ asked more. omega arith)
opens_tasks s t n m (calls.Invoke p) h = opens_act _ refl refl (λ asked more. omega arith)
opens_tasks s t n m (calls.DropPromise p) h = opens_act _ refl refl (λ asked more. omega arith)
opens_tasks s t n m (calls.GetFuture p) h = opens_none 19
opens_tasks s t n m (calls.Share p) h = opens_none 19
opens_tasks s t n m (calls.WaitFuture p) h = opens_waits s m p (of m p).is_unrun refl
opens_tasks s t n m (calls.GetOutcome p) h = opens_outcome s m p (of m p).is_unrun refl
opens_tasks s t n m (calls.DropAsync a) h = opens_after _ _ 18 19 (omega arith) (opens_one _ 18 refl refl (λ asked more. omega arith))
opens_tasks s t n m (calls.Start u) h = opens_act _ refl refl (λ asked more. omega arith)
opens_tasks s t n m (calls.Join u) h = opens_act _ refl refl (λ asked more. omega arith)
opens_tasks s t n m (calls.Launch a) h = opens_launches a (slice_get s.objects a.0)

pub opens_call : (s : Scene) (t n : ℕ) (m : Memory) (c : Call) → is_sized_call c ≡ true → Opens (opened s t n m c) 19
opens_call s t n m c h = go (refusal s m c) refl
  where
    go : (o : Option Reply) → refusal s m c ≡ o → Opens (opened s t n m c) 19
    go None e = rw e (opens_tasks s t n m c h)
    go (Some r) e = rw e (opens_act _ refl refl (λ asked more. omega arith))
