use Rattle.std.proofs.Common.{◌≡◌, Bool, true, false, None, refl}
use Rattle.cx_names.specs.declared.Reply.TheVariants as replies
use Rattle.cx_machine.specs.Words.{when}
use Rattle.cx_machine.specs.Semaphore.{can_acquire, acquired}
use Rattle.cx_loops.proofs.turns.acquisition_of.Goals as goal

unmet : {S : Type 0} (b : Bool) (t : S) → when b t ≡ None → b ≡ false
unmet true t e = cc e
unmet false t e = refl

pub returns-in-None-clause-refused : goal.returns-in-None-clause-refused
returns-in-None-clause-refused c = unmet (can_acquire c.args.state.now) (acquired c.args.state.now) (c.in-None.ensures.none replies.Ok)
