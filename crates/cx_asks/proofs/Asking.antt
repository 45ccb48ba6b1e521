-- The forms of an ask that is served are those of this ask alone.
use Rattle.std.proofs.Common.{◌≡◌, ℕ, zero, suc, ℤ, pos, Bool, true, false, List, [], ◌∷◌, ◌++◌, Option, Some, None, refl, sym, ◌∙◌, subst, arith}
use Rattle.cx_names.specs.declared.ObjectNo.{ObjectNo}
use Rattle.cx_machine.specs.declared.kind.Kind.TheVariants as kinds
use Rattle.cx_machine.specs.declared.kind.Op.{Op}
use Rattle.cx_machine.specs.declared.kind.Op.TheVariants as ops
use Rattle.cx_scene.specs.declared.declared.Object.{Object}
use Rattle.cx_scene.specs.declared.declared.Object.TheVariants as objects
use Rattle.cx_scene.specs.Scene.{Scene, kind_of}
use Rattle.cx_items.specs.declared.kept.Kept.{Kept}
use Rattle.cx_items.specs.declared.form.Form.{Form}
use Rattle.cx_items.specs.declared.form.Form.TheVariants as forms
use Rattle.cx_items.specs.Memory.{Memory, of}
use Rattle.cx_asks.specs.declared.ask.Ask.{Ask}
use Rattle.cx_asks.specs.Asks.{asks_mutex, asks_recursive, asks_semaphore, asks_latch, asks_shared, asks_once, asks_barrier, serves}
use Rattle.cx_asks.specs.Forms.{AreAlike, IsAskOf, change_forms, look_forms, asked_forms}
use Rattle.cx_asks.specs.Offers.{takes, IsServed}

pub one_ask : (fs : List Form) (o p : ObjectNo) (k j : Ask) → IsAskOf fs o k → IsAskOf fs p j → (o ≡ p) × (k ≡ j)
one_ask (forms.Change q op a b w ∷ []) o p k j h i = (h.0 ∙ sym i.0, h.1 ∙ sym i.1)
one_ask (forms.Look q op a b w ∷ []) o p k j h i = (h.0 ∙ sym i.0, h.1 ∙ sym i.1)
one_ask (forms.Change q op a b w ∷ forms.Look q' op' a' b' w' ∷ []) o p k j h i = (h.0 ∙ sym i.0, h.1 ∙ sym i.1)
one_ask (forms.Change q op a b w ∷ forms.Change q' op' a' b' w' ∷ []) o p k j h i = (h.0 ∙ sym i.0, h.1 ∙ sym i.1)
one_ask (forms.Look q op a b w ∷ forms.Look q' op' a' b' w' ∷ []) o p k j h i = (h.0 ∙ sym i.0, h.1 ∙ sym i.1)
one_ask _ o p k j h i = absurd h

alike : (o : ObjectNo) (a b : ℤ) → AreAlike o a b o a b
alike o a b = record { object = refl; first = refl; second = refl }

abbrev ask : Option Op → Option Op → ℤ → ℤ → Ask
ask c k a b = record { change = c; look = k; a = a; b = b }

plain_ask : (o : ObjectNo) (numbers n : ℕ) (c k : Option Op) (a b : ℤ) → asks_mutex n c k a b → IsAskOf (change_forms (kinds.Mutex false numbers) o c a b ++ look_forms (kinds.Mutex false numbers) o k a b) o (ask c k a b)
plain_ask o numbers zero (Some ops.Lock) None (pos zero) (pos zero) h = (refl, refl)
plain_ask o numbers zero (Some ops.TryLock) (Some ops.TryLock) (pos zero) (pos zero) h = (refl, refl, alike o (pos 0) (pos 0))
plain_ask o numbers (suc n) (Some ops.Unlock) None (pos zero) (pos zero) h = (refl, refl)
plain_ask o numbers _ _ _ _ _ h = absurd h

recursive_ask : (o : ObjectNo) (numbers n : ℕ) (c k : Option Op) (a b : ℤ) → asks_recursive n c k a b → IsAskOf (change_forms (kinds.Mutex true numbers) o c a b ++ look_forms (kinds.Mutex true numbers) o k a b) o (ask c k a b)
recursive_ask o numbers n (Some ops.Lock) (Some ops.Lock) (pos zero) (pos zero) h = (refl, refl, alike o (pos 0) (pos 0))
recursive_ask o numbers n (Some ops.TryLock) (Some ops.TryLock) (pos zero) (pos zero) h = (refl, refl, alike o (pos 0) (pos 0))
recursive_ask o numbers (suc n) (Some ops.Unlock) None (pos zero) (pos zero) h = (refl, refl)
recursive_ask o numbers _ _ _ _ _ h = absurd h

semaphore_ask : (o : ObjectNo) (count max : ℕ) (c k : Option Op) (a b : ℤ) → asks_semaphore c k a b → IsAskOf (change_forms (kinds.Semaphore count max) o c a b ++ look_forms (kinds.Semaphore count max) o k a b) o (ask c k a b)
semaphore_ask o count max (Some ops.Release) (Some ops.Release) (pos n) (pos zero) h = (refl, refl, alike o (pos n) (pos 0))
semaphore_ask o count max (Some ops.Acquire) None (pos zero) (pos zero) h = (refl, refl)
semaphore_ask o count max (Some ops.TryAcquire) (Some ops.TryAcquire) (pos zero) (pos zero) h = (refl, refl, alike o (pos 0) (pos 0))
semaphore_ask o count max _ _ _ _ h = absurd h

latch_ask : (o : ObjectNo) (count share : ℕ) (c k : Option Op) (a b : ℤ) → asks_latch share c k a b → IsAskOf (change_forms (kinds.Latch count) o c a b ++ look_forms (kinds.Latch count) o k a b) o (ask c k a b)
latch_ask o count share (Some ops.CountDown) None (pos n) (pos zero) h = (refl, refl)
latch_ask o count share None (Some ops.Wait) (pos zero) (pos zero) h = (refl, refl)
latch_ask o count share None (Some ops.TryWait) (pos zero) (pos zero) h = (refl, refl, alike o (pos 0) (pos 0), refl)
latch_ask o count share _ _ _ _ h = absurd h

shared_ask : (o : ObjectNo) (n : ℕ) (reads : Bool) (c k : Option Op) (a b : ℤ) → asks_shared n reads c k a b → IsAskOf (change_forms kinds.Shared o c a b ++ look_forms kinds.Shared o k a b) o (ask c k a b)
shared_ask o zero false (Some ops.Lock) None (pos zero) (pos zero) h = (refl, refl)
shared_ask o zero false (Some ops.TryLock) (Some ops.TryLock) (pos zero) (pos zero) h = (refl, refl, alike o (pos 0) (pos 0))
shared_ask o zero false (Some ops.LockShared) None (pos zero) (pos zero) h = (refl, refl)
shared_ask o zero false (Some ops.TryLockShared) (Some ops.TryLockShared) (pos zero) (pos zero) h = (refl, refl, alike o (pos 0) (pos 0))
shared_ask o (suc n) reads (Some ops.Unlock) None (pos zero) (pos zero) h = (refl, refl)
shared_ask o n true (Some ops.UnlockShared) None (pos zero) (pos zero) h = (refl, refl)
shared_ask o _ _ _ _ _ _ h = absurd h

once_ask : (o : ObjectNo) (c k : Option Op) (a b : ℤ) → asks_once c k a b → IsAskOf (change_forms kinds.Once o c a b ++ look_forms kinds.Once o k a b) o (ask c k a b)
once_ask o (Some ops.Begin) (Some ops.Passive) (pos zero) (pos zero) h = (refl, refl, alike o (pos 0) (pos 0))
once_ask o (Some ops.Finish) None (pos zero) (pos zero) h = (refl, refl)
once_ask o (Some ops.Fail) None (pos e) (pos zero) h = (refl, refl)
once_ask o _ _ _ _ h = absurd h

barrier_ask : (o : ObjectNo) (count : ℕ) (c k : Option Op) (a b : ℤ) → asks_barrier c k a b → IsAskOf (change_forms (kinds.Barrier count) o c a b ++ look_forms (kinds.Barrier count) o k a b) o (ask c k a b)
barrier_ask o count (Some ops.Arrive) (Some ops.Arrive) (pos n) (pos zero) h = (refl, refl, alike o (pos n) (pos 0))
barrier_ask o count (Some ops.Drop) (Some ops.Drop) (pos zero) (pos zero) h = (refl, refl, alike o (pos 0) (pos 0))
barrier_ask o count (Some ops.Complete) None (pos zero) (pos zero) h = (refl, refl)
barrier_ask o count None (Some ops.Wait) phase (pos zero) h = (refl, refl)
barrier_ask o count _ _ _ _ h = absurd h

any_ask : (d : Object) (o : ObjectNo) (h : Kept) (share : ℕ) (k : Ask) → serves (kind_of d) h share k → IsAskOf (asked_forms (kind_of d) o k) o k
any_ask (objects.Mutex numbers) o h share k may = plain_ask o numbers h.levels k.change k.look k.a k.b may
any_ask objects.Recursive o h share k may = recursive_ask o 0 h.levels k.change k.look k.a k.b may
any_ask (objects.Semaphore count max) o h share k may = semaphore_ask o count max k.change k.look k.a k.b may
any_ask (objects.Latch count) o h share k may = latch_ask o count share k.change k.look k.a k.b may
any_ask objects.Shared o h share k may = shared_ask o h.levels h.reads k.change k.look k.a k.b may
any_ask (objects.Barrier count small) o h share k may = barrier_ask o count k.change k.look k.a k.b may
any_ask objects.Once o h share k may = once_ask o k.change k.look k.a k.b may
any_ask _ o h share k may = absurd may

pub served_asks : (s : Scene) (m : Memory) (fs : List Form) (q : IsServed s m fs) → IsAskOf fs q.object q.ask
served_asks s m fs q =
    let may = q.served (takes q.ask) (omega arith) in
    subst (λ (gs : List Form). IsAskOf gs q.object q.ask) (sym q.forms) (any_ask q.declared q.object (of m q.object) (takes q.ask) q.ask may)
