use Rattle.cx_kinds.specs.declared.access.Access.TheVariants as accesses
use Rattle.cx_kinds.proofs.Arms.{acted_in}
use Rattle.cx_kinds.proofs.access.Access.act.Goals as goal

pub returns-in-Mutex-clause-did : goal.returns-in-Mutex-clause-did
returns-in-Mutex-clause-did g c = acted_in c.args.o c.args.ask c.args.self.now (accesses.Mutex c.in-Mutex.seat) (accesses.Mutex c.act.new.self) c.act.result c.in-Mutex.is c.act.ensures.did

pub returns-in-Recursive-clause-did : goal.returns-in-Recursive-clause-did
returns-in-Recursive-clause-did g c = acted_in c.args.o c.args.ask c.args.self.now (accesses.Recursive c.in-Recursive.seat) (accesses.Recursive c.act-in-Recursive.new.self) c.act-in-Recursive.result c.in-Recursive.is c.act-in-Recursive.ensures.did

pub returns-in-SharedMutex-clause-did : goal.returns-in-SharedMutex-clause-did
returns-in-SharedMutex-clause-did g c = acted_in c.args.o c.args.ask c.args.self.now (accesses.SharedMutex c.in-SharedMutex.seat) (accesses.SharedMutex c.act-in-SharedMutex.new.self) c.act-in-SharedMutex.result c.in-SharedMutex.is c.act-in-SharedMutex.ensures.did

pub returns-in-Semaphore-clause-did : goal.returns-in-Semaphore-clause-did
returns-in-Semaphore-clause-did g c = acted_in c.args.o c.args.ask c.args.self.now (accesses.Semaphore c.in-Semaphore.seat) (accesses.Semaphore c.act-in-Semaphore.new.self) c.act-in-Semaphore.result c.in-Semaphore.is c.act-in-Semaphore.ensures.did

pub returns-in-Latch-clause-did : goal.returns-in-Latch-clause-did
returns-in-Latch-clause-did g c = acted_in c.args.o c.args.ask c.args.self.now (accesses.Latch c.in-Latch.seat) (accesses.Latch c.act-in-Latch.new.self) c.act-in-Latch.result c.in-Latch.is c.act-in-Latch.ensures.did

pub returns-in-Barrier-clause-did : goal.returns-in-Barrier-clause-did
returns-in-Barrier-clause-did g c = acted_in c.args.o c.args.ask c.args.self.now (accesses.Barrier c.in-Barrier.seat) (accesses.Barrier c.act-in-Barrier.new.self) c.act-in-Barrier.result c.in-Barrier.is c.act-in-Barrier.ensures.did

pub returns-in-Once-clause-did : goal.returns-in-Once-clause-did
returns-in-Once-clause-did g c = acted_in c.args.o c.args.ask c.args.self.now (accesses.Once c.in-Once.seat) (accesses.Once c.act-in-Once.new.self) c.act-in-Once.result c.in-Once.is c.act-in-Once.ensures.did
