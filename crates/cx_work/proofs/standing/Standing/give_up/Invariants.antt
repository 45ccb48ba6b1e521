use Rattle.std.proofs.Common.{◌≡◌}
use Rattle.cx_work.specs.Accesses.{AreAccesses, objects_of}
use Rattle.cx_work.proofs.Giving.{FreeBelow}
use Rattle.cx_work.proofs.standing.Standing.give_up.Given as goal

abbrev pub invariant-loop-i : goal.invariant-loop-i
invariant-loop-i g l =
    (l.self.thread ≡ l.fn.self.thread) × (l.self.list ≡ l.fn.self.list)
    × AreAccesses (objects_of l.fn.self.accesses.items) l.fn.self.thread.0 l.self.accesses.items
    × FreeBelow l.i l.self.accesses.items
