use Rattle.std.proofs.Common.{◌∙◌, sym}
use Rattle.cx_machine.specs.States.{shared_of}
use Rattle.cx_machine.specs.Distinct.{once_pushed}
use Rattle.cx_machine.specs.Readers.{lacking}
use Rattle.cx_machine.proofs.shared.SharedState.lock_shared.Goals as goal

pub invariant_of-self : goal.invariant_of-self
invariant_of-self c = record { once = once_pushed _ c.args.self.now.readers.items _ c.args.by.0 c.args.self.now.once (lacking (shared_of c.args.self.now) c.args.by.0 (sym c.can_read-allowed.ensures ∙ c.if-allowed.true)) c.push.ensures.items }
