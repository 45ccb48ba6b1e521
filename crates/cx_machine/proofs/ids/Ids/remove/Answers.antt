use Rattle.cx_machine.proofs.Rising.{rising_taken}
use Rattle.cx_machine.proofs.ids.Ids.remove.Goals as goal

pub invariant_of-self : goal.invariant_of-self
invariant_of-self c = record { up = rising_taken _ _ _ _ _ c.args.self.now.up c.deref.ensures.value c.in-Ok.ensures.found c.remove.ensures.items }
