use Rattle.cx_kinds.specs.declared.access.Access.TheVariants as accesses
use Rattle.cx_kinds.proofs.Arms.{keeps_in}
use Rattle.cx_kinds.proofs.access.Access.give_up.Goals as goal

pub returns-in-Mutex-clause-seen : goal.returns-in-Mutex-clause-seen
returns-in-Mutex-clause-seen g c = keeps_in c.args.self.now (accesses.Mutex c.in-Mutex.seat) (accesses.Mutex c.give_up.new.self) c.in-Mutex.is c.give_up.ensures.seen

pub returns-in-Recursive-clause-seen : goal.returns-in-Recursive-clause-seen
returns-in-Recursive-clause-seen g c = keeps_in c.args.self.now (accesses.Recursive c.in-Recursive.seat) (accesses.Recursive c.give_up-in-Recursive.new.self) c.in-Recursive.is c.give_up-in-Recursive.ensures.seen

pub returns-in-SharedMutex-clause-seen : goal.returns-in-SharedMutex-clause-seen
returns-in-SharedMutex-clause-seen g c = keeps_in c.args.self.now (accesses.SharedMutex c.in-SharedMutex.seat) (accesses.SharedMutex c.give_up-in-SharedMutex.new.self) c.in-SharedMutex.is c.give_up-in-SharedMutex.ensures.seen

pub returns-in-Semaphore-clause-seen : goal.returns-in-Semaphore-clause-seen
returns-in-Semaphore-clause-seen g c = keeps_in c.args.self.now (accesses.Semaphore c.in-Semaphore.seat) (accesses.Semaphore c.give_up-in-Semaphore.new.self) c.in-Semaphore.is c.give_up-in-Semaphore.ensures.seen

pub returns-in-Latch-clause-seen : goal.returns-in-Latch-clause-seen
returns-in-Latch-clause-seen g c = keeps_in c.args.self.now (accesses.Latch c.in-Latch.seat) (accesses.Latch c.give_up-in-Latch.new.self) c.in-Latch.is c.give_up-in-Latch.ensures.seen

pub returns-in-Barrier-clause-seen : goal.returns-in-Barrier-clause-seen
returns-in-Barrier-clause-seen g c = keeps_in c.args.self.now (accesses.Barrier c.in-Barrier.seat) (accesses.Barrier c.give_up-in-Barrier.new.self) c.in-Barrier.is c.give_up-in-Barrier.ensures.seen

pub returns-in-Once-clause-seen : goal.returns-in-Once-clause-seen
returns-in-Once-clause-seen g c = keeps_in c.args.self.now (accesses.Once c.in-Once.seat) (accesses.Once c.give_up-in-Once.new.self) c.in-Once.is c.give_up-in-Once.ensures.seen
