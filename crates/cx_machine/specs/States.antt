-- What the kept states stand for.
use Rattle.std.specs.Prelude.{ℕ, ◌+◌, vec_len}
use Rattle.cx_machine.specs.declared.once.Stage.{Stage as OnceStage}
use Rattle.cx_machine.specs.declared.once.Stage.TheVariants as once_stages
use Rattle.cx_machine.specs.declared.future.Stage.{Stage as FutureStage}
use Rattle.cx_machine.specs.declared.future.Stage.TheVariants as future_stages
use Rattle.cx_machine.specs.declared.shared.SharedState.{SharedState}
use Rattle.cx_machine.specs.Shared.{Shared}
use Rattle.cx_machine.specs.declared.condition.ConditionState.{ConditionState}
use Rattle.cx_machine.specs.Condition.{Condition}
use Rattle.cx_machine.specs.declared.stop.StopState.{StopState}
use Rattle.cx_machine.specs.Stop.{Stop}
use Rattle.cx_machine.specs.Words.{thread_number}
use Rattle.cx_machine.specs.declared.state.Inner.{Inner}
use Rattle.cx_machine.specs.declared.state.Inner.TheVariants as inners
use Rattle.cx_machine.specs.Machine.{State, Mutex as AMutex, Shared as AShared, Semaphore as ASemaphore, Latch as ALatch, Barrier as ABarrier, Once as AOnce, Condition as ACondition, Stop as AStop, Future as AFuture}
use Rattle.cx_machine.specs.Once.{Once, Idle, Active, Done}
use Rattle.cx_machine.specs.Future.{Future, Fresh, Deferred, Running, Ready}

abbrev pub once_of : OnceStage → Once
once_of once_stages.Idle = Idle
once_of (once_stages.Active t) = Active t.0
once_of once_stages.Done = Done

abbrev pub future_of : FutureStage → Future
future_of future_stages.Fresh = Fresh
future_of future_stages.Deferred = Deferred
future_of (future_stages.Running t) = Running t.0
future_of (future_stages.Ready o) = Ready o

abbrev pub shared_of : SharedState → Shared
shared_of s = record { writer = thread_number s.writer; readers = s.readers.items }

abbrev pub condition_of : ConditionState → Condition
condition_of c = record { waiting = c.waiting.items; notified = c.notified.items }

-- the threads that wait or were notified, and the room for more
abbrev pub total : ConditionState → ℕ
total c = vec_len c.waiting + vec_len c.notified + c.room

abbrev pub stop_of : StopState → Stop
stop_of s = record { requester = thread_number s.requester; sources = s.sources; registered = s.registered.items; running = s.running.items; ended = s.ended.rising.items; gone = s.gone.rising.items }

-- the callbacks of all four sets, and the room for more
abbrev pub stop_total : StopState → ℕ
stop_total s = vec_len s.registered + vec_len s.running + vec_len s.ended.rising + vec_len s.gone.rising + s.room

abbrev pub state_of : Inner → State
state_of (inners.Mutex m) = AMutex m
state_of (inners.Shared s) = AShared (shared_of s)
state_of (inners.Semaphore s) = ASemaphore s
state_of (inners.Latch l) = ALatch l
state_of (inners.Barrier b) = ABarrier b
state_of (inners.Once o) = AOnce o
state_of (inners.Condition c) = ACondition (condition_of c)
state_of (inners.Stop s) = AStop (stop_of s)
state_of (inners.Future f) = AFuture f
