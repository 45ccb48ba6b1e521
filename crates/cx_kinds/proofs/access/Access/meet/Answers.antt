use Rattle.cx_kinds.specs.declared.access.Access.TheVariants as accesses
use Rattle.cx_kinds.proofs.Arms.{met_in}
use Rattle.cx_kinds.proofs.access.Access.meet.Goals as goal

pub returns-in-Mutex-other-clause-to : goal.returns-in-Mutex-other-clause-to
returns-in-Mutex-other-clause-to c = met_in c.args.self.now (accesses.Mutex c.in-Mutex.seat) c.args.other.now (accesses.Mutex c.in-Mutex-other.other) (accesses.Mutex c.meet.new.other) c.in-Mutex.is c.in-Mutex-other.is c.meet.ensures.to

pub returns-in-Recursive-other-clause-to : goal.returns-in-Recursive-other-clause-to
returns-in-Recursive-other-clause-to c = met_in c.args.self.now (accesses.Recursive c.in-Recursive.seat) c.args.other.now (accesses.Recursive c.in-Recursive-other.other) (accesses.Recursive c.meet-in-Recursive-other.new.other) c.in-Recursive.is c.in-Recursive-other.is c.meet-in-Recursive-other.ensures.to

pub returns-in-SharedMutex-other-clause-to : goal.returns-in-SharedMutex-other-clause-to
returns-in-SharedMutex-other-clause-to c = met_in c.args.self.now (accesses.SharedMutex c.in-SharedMutex.seat) c.args.other.now (accesses.SharedMutex c.in-SharedMutex-other.other) (accesses.SharedMutex c.meet-in-SharedMutex-other.new.other) c.in-SharedMutex.is c.in-SharedMutex-other.is c.meet-in-SharedMutex-other.ensures.to

pub returns-in-Semaphore-other-clause-to : goal.returns-in-Semaphore-other-clause-to
returns-in-Semaphore-other-clause-to c = met_in c.args.self.now (accesses.Semaphore c.in-Semaphore.seat) c.args.other.now (accesses.Semaphore c.in-Semaphore-other.other) (accesses.Semaphore c.meet-in-Semaphore-other.new.other) c.in-Semaphore.is c.in-Semaphore-other.is c.meet-in-Semaphore-other.ensures.to

pub returns-in-Latch-other-clause-to : goal.returns-in-Latch-other-clause-to
returns-in-Latch-other-clause-to c = met_in c.args.self.now (accesses.Latch c.in-Latch.seat) c.args.other.now (accesses.Latch c.in-Latch-other.other) (accesses.Latch c.meet-in-Latch-other.new.other) c.in-Latch.is c.in-Latch-other.is c.meet-in-Latch-other.ensures.to

pub returns-in-Barrier-other-clause-to : goal.returns-in-Barrier-other-clause-to
returns-in-Barrier-other-clause-to c = met_in c.args.self.now (accesses.Barrier c.in-Barrier.seat) c.args.other.now (accesses.Barrier c.in-Barrier-other.other) (accesses.Barrier c.meet-in-Barrier-other.new.other) c.in-Barrier.is c.in-Barrier-other.is c.meet-in-Barrier-other.ensures.to

pub returns-in-Once-other-clause-to : goal.returns-in-Once-other-clause-to
returns-in-Once-other-clause-to c = met_in c.args.self.now (accesses.Once c.in-Once.seat) c.args.other.now (accesses.Once c.in-Once-other.other) (accesses.Once c.meet-in-Once-other.new.other) c.in-Once.is c.in-Once-other.is c.meet-in-Once-other.ensures.to
