-- The table of synchronization edges: which change synchronizes with which later act on the same object.
use Rattle.std.specs.Prelude.{ℕ, Bool, true, false, Option, Some, None}
use Rattle.cx_names.specs.declared.Reply.{Reply}
use Rattle.cx_names.specs.declared.Reply.TheVariants as replies
use Rattle.cx_machine.specs.declared.kind.Kind.{Kind}
use Rattle.cx_machine.specs.declared.kind.Kind.TheVariants as kinds
use Rattle.cx_machine.specs.declared.kind.Op.{Op}
use Rattle.cx_machine.specs.declared.kind.Op.TheVariants as ops
use Rattle.cx_order.specs.declared.row.Row.{Row}
use Rattle.cx_order.specs.declared.row.Row.TheVariants as rows

-- THE LEFT: the row of a change, by the kind of its object, if it stands in any
abbrev pub given : Kind → Op → Option Row
-- [thread.mutex.requirements.mutex.general]
given (kinds.Mutex recursive numbers) ops.Unlock = Some rows.Unlock
-- [thread.sharedmutex.requirements.general]
given kinds.Shared ops.Unlock = Some rows.Unlock
given kinds.Shared ops.UnlockShared = Some rows.UnlockShared
-- [thread.sema.cnt]; to every later acquisition, whether or not it needed this release
given (kinds.Semaphore count max) ops.Release = Some rows.Release
-- [thread.latch.class]
given (kinds.Latch count) ops.CountDown = Some rows.CountDown
-- [thread.barrier.class]
given (kinds.Barrier count) ops.Arrive = Some rows.Arrival
given (kinds.Barrier count) ops.Drop = Some rows.Arrival
given (kinds.Barrier count) ops.Complete = Some rows.Completion
-- [thread.once.callonce]
given kinds.Once ops.Fail = Some rows.Failure
given kinds.Once ops.Finish = Some rows.Finish
-- [thread.stoptoken.intro], [stopcallback.cons]
given (kinds.Stop sources) ops.Request = Some rows.Request
given (kinds.Stop sources) ops.Register = Some rows.Registration
given (kinds.Stop sources) ops.Finish = Some rows.CallbackEnd
-- [futures.state]
given kinds.Future ops.Set = Some rows.Outcome
given _ _ = None

-- THE RIGHT: whether a row leads to a change with this word and reply
abbrev pub taken_by_change : Row → Op → Reply → Bool
taken_by_change rows.Unlock ops.Lock r = true
taken_by_change rows.Unlock ops.TryLock replies.True = true
taken_by_change rows.Unlock ops.LockShared r = true
taken_by_change rows.Unlock ops.TryLockShared replies.True = true
taken_by_change rows.UnlockShared ops.Lock r = true
taken_by_change rows.UnlockShared ops.TryLock replies.True = true
taken_by_change rows.Release ops.Acquire r = true
taken_by_change rows.Release ops.TryAcquire replies.True = true
taken_by_change rows.Arrival ops.Arrive r = true
taken_by_change rows.Arrival ops.Drop r = true
taken_by_change rows.Failure ops.Begin r = true
taken_by_change rows.Request ops.RegisterNow r = true
taken_by_change rows.Registration ops.Begin r = true
taken_by_change rows.CallbackEnd ops.Deregister replies.Ran = true
taken_by_change _ _ r = false

-- and whether it leads to a look
abbrev pub taken_by_look : Row → Op → Reply → Bool
taken_by_look rows.CountDown ops.Wait r = true
taken_by_look rows.CountDown ops.TryWait replies.True = true
taken_by_look rows.Completion ops.Wait r = true
taken_by_look rows.Finish ops.Passive r = true
taken_by_look rows.Request ops.StopRequested replies.True = true
taken_by_look rows.Outcome ops.Ready r = true
taken_by_look _ _ r = false

-- the number of a row, from 0
abbrev pub number_of : Row → ℕ
number_of rows.Unlock = 0
number_of rows.UnlockShared = 1
number_of rows.Release = 2
number_of rows.CountDown = 3
number_of rows.Arrival = 4
number_of rows.Completion = 5
number_of rows.Failure = 6
number_of rows.Finish = 7
number_of rows.Request = 8
number_of rows.Registration = 9
number_of rows.CallbackEnd = 10
number_of rows.Outcome = 11
