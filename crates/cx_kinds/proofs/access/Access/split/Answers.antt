use Rattle.cx_kinds.specs.declared.access.Access.TheVariants as accesses
use Rattle.cx_kinds.proofs.Arms.{split_in}
use Rattle.cx_kinds.proofs.access.Access.split.Goals as goal

pub returns-in_ok-split-in-Mutex-clause-split : goal.returns-in_ok-split-in-Mutex-clause-split
returns-in_ok-split-in-Mutex-clause-split c = split_in c.args.calls c.args.most c.args.self.now (accesses.Mutex c.in-Mutex.seat) (accesses.Mutex c.split.new.self) (accesses.Mutex c.in_ok-split-in-Mutex.field-0) c.in-Mutex.is c.in_ok-split-in-Mutex.ensures.split

pub returns-in_ok-split-in-Recursive-clause-split : goal.returns-in_ok-split-in-Recursive-clause-split
returns-in_ok-split-in-Recursive-clause-split c = split_in c.args.calls c.args.most c.args.self.now (accesses.Recursive c.in-Recursive.seat) (accesses.Recursive c.split-in-Recursive.new.self) (accesses.Recursive c.in_ok-split-in-Recursive.field-0) c.in-Recursive.is c.in_ok-split-in-Recursive.ensures.split

pub returns-in_ok-split-in-SharedMutex-clause-split : goal.returns-in_ok-split-in-SharedMutex-clause-split
returns-in_ok-split-in-SharedMutex-clause-split c = split_in c.args.calls c.args.most c.args.self.now (accesses.SharedMutex c.in-SharedMutex.seat) (accesses.SharedMutex c.split-in-SharedMutex.new.self) (accesses.SharedMutex c.in_ok-split-in-SharedMutex.field-0) c.in-SharedMutex.is c.in_ok-split-in-SharedMutex.ensures.split

pub returns-in_ok-split-in-Semaphore-clause-split : goal.returns-in_ok-split-in-Semaphore-clause-split
returns-in_ok-split-in-Semaphore-clause-split c = split_in c.args.calls c.args.most c.args.self.now (accesses.Semaphore c.in-Semaphore.seat) (accesses.Semaphore c.split-in-Semaphore.new.self) (accesses.Semaphore c.in_ok-split-in-Semaphore.field-0) c.in-Semaphore.is c.in_ok-split-in-Semaphore.ensures.split

pub returns-in_ok-split_share-in-Latch-clause-split : goal.returns-in_ok-split_share-in-Latch-clause-split
returns-in_ok-split_share-in-Latch-clause-split c = split_in c.args.calls c.args.most c.args.self.now (accesses.Latch c.in-Latch.seat) (accesses.Latch c.split_share.new.self) (accesses.Latch c.in_ok-split_share-in-Latch.field-0) c.in-Latch.is c.in_ok-split_share-in-Latch.ensures.split

pub returns-in_ok-split-in-Barrier-clause-split : goal.returns-in_ok-split-in-Barrier-clause-split
returns-in_ok-split-in-Barrier-clause-split c = split_in c.args.calls c.args.most c.args.self.now (accesses.Barrier c.in-Barrier.seat) (accesses.Barrier c.split-in-Barrier.new.self) (accesses.Barrier c.in_ok-split-in-Barrier.field-0) c.in-Barrier.is c.in_ok-split-in-Barrier.ensures.split

pub returns-in_ok-split-in-Once-clause-split : goal.returns-in_ok-split-in-Once-clause-split
returns-in_ok-split-in-Once-clause-split c = split_in c.args.calls c.args.most c.args.self.now (accesses.Once c.in-Once.seat) (accesses.Once c.split-in-Once.new.self) (accesses.Once c.in_ok-split-in-Once.field-0) c.in-Once.is c.in_ok-split-in-Once.ensures.split
