-- Two words with the same number are one.
use Rattle.std.proofs.Common.{◌≡◌, true, List, [], ◌∷◌, Some, slice_get, refl, ap, sym, ◌∙◌, eqb-true, eq-eqb}
use Rattle.cx_machine.specs.declared.kind.Op.{Op}
use Rattle.cx_machine.specs.declared.kind.Op.TheVariants as ops
use Rattle.cx_items.specs.Form.{op_number, op_eq}

-- the words in the order of their numbers
abbrev all_ops : List Op
all_ops =
    ops.Lock
    ∷ ops.TryLock
    ∷ ops.Unlock
    ∷ ops.Get
    ∷ ops.Set
    ∷ ops.Add
    ∷ ops.LockShared
    ∷ ops.TryLockShared
    ∷ ops.UnlockShared
    ∷ ops.Release
    ∷ ops.Acquire
    ∷ ops.TryAcquire
    ∷ ops.CountDown
    ∷ ops.Wait
    ∷ ops.TryWait
    ∷ ops.Arrive
    ∷ ops.Drop
    ∷ ops.Complete
    ∷ ops.Begin
    ∷ ops.Finish
    ∷ ops.Fail
    ∷ ops.Passive
    ∷ ops.Enter
    ∷ ops.NotifyOne
    ∷ ops.NotifyAll
    ∷ ops.Unblock
    ∷ ops.Withdraw
    ∷ ops.Request
    ∷ ops.Already
    ∷ ops.Another
    ∷ ops.Register
    ∷ ops.RegisterNow
    ∷ ops.Deregister
    ∷ ops.StopRequested
    ∷ ops.StopPossible
    ∷ ops.Never
    ∷ ops.Drained
    ∷ ops.Defer
    ∷ ops.Run
    ∷ ops.Ready
    ∷ []

op_listed : (op : Op) → slice_get all_ops (op_number op) ≡ Some op
op_listed ops.Lock = refl
op_listed ops.TryLock = refl
op_listed ops.Unlock = refl
op_listed ops.Get = refl
op_listed ops.Set = refl
op_listed ops.Add = refl
op_listed ops.LockShared = refl
op_listed ops.TryLockShared = refl
op_listed ops.UnlockShared = refl
op_listed ops.Release = refl
op_listed ops.Acquire = refl
op_listed ops.TryAcquire = refl
op_listed ops.CountDown = refl
op_listed ops.Wait = refl
op_listed ops.TryWait = refl
op_listed ops.Arrive = refl
op_listed ops.Drop = refl
op_listed ops.Complete = refl
op_listed ops.Begin = refl
op_listed ops.Finish = refl
op_listed ops.Fail = refl
op_listed ops.Passive = refl
op_listed ops.Enter = refl
op_listed ops.NotifyOne = refl
op_listed ops.NotifyAll = refl
op_listed ops.Unblock = refl
op_listed ops.Withdraw = refl
op_listed ops.Request = refl
op_listed ops.Already = refl
op_listed ops.Another = refl
op_listed ops.Register = refl
op_listed ops.RegisterNow = refl
op_listed ops.Deregister = refl
op_listed ops.StopRequested = refl
op_listed ops.StopPossible = refl
op_listed ops.Never = refl
op_listed ops.Drained = refl
op_listed ops.Defer = refl
op_listed ops.Run = refl
op_listed ops.Ready = refl

some_is : (op op' : Op) → Some op ≡ Some op' → op ≡ op'
some_is op op' e = cc

pub same_number : (op op' : Op) → op_number op ≡ op_number op' → op ≡ op'
same_number op op' e = some_is op op' (sym (op_listed op) ∙ (ap (slice_get all_ops) e ∙ op_listed op'))

pub same_op : (op op' : Op) → op_eq op op' ≡ true → op ≡ op'
same_op op op' h = same_number op op' (eqb-true (op_number op) (op_number op') h)

pub op_itself : (op : Op) → op_eq op op ≡ true
op_itself op = eq-eqb (op_number op) (op_number op) refl
