use Rattle.cx_machine.specs.Distinct.{once_taken}
use Rattle.cx_machine.proofs.shared.SharedState.unlock_shared.Goals as goal

pub invariant_of-self : goal.invariant_of-self
invariant_of-self c = record { once = once_taken c.args.self.now.readers.items _ c.args.by.0 c.args.self.now.once c.remove_from.ensures.left }
