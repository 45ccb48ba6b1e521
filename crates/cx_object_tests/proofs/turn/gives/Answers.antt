use Rattle.std.proofs.Common.{◌≡◌, ◌≤◌, ◌+◌, ap, arith}
use Rattle.cx_machine.specs.Latch.{Latch}
use Rattle.cx_object_tests.proofs.turn.gives.Goals as goal

pub give-requires-clause-from : goal.give-requires-clause-from
give-requires-clause-from c = (_, c.split-second.ensures.first _ c.in_ok-door.ensures.pass)

pub give-requires-clause-to : goal.give-requires-clause-to
give-requires-clause-to c = (_, c.split-second.ensures.second _ c.in_ok-door.ensures.pass)

pub give-requires-clause-share : goal.give-requires-clause-share
give-requires-clause-share c = let f = c.split-second.ensures.first _ c.in_ok-door.ensures.pass in omega (arith, f.counted.part, ap (λ (l : Latch). l.counter) c.new.ensures)
