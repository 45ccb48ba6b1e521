use Rattle.std.proofs.Common.{◌∙◌}
use Rattle.cx_machine.specs.Words.{IsMissingAt}
use Rattle.cx_machine.proofs.Rising.{rising_put}
use Rattle.cx_machine.proofs.ids.Ids.insert.Goals as goal

pub invariant_of-self : goal.invariant_of-self
invariant_of-self c =
    let ok = c.insert-put.ensures.succeeds c.requires in
    let items = rw ok at c.insert-put.ensures.items in
    record { up = rising_put _ _ _ _ _ c.args.self.now.up c.deref.ensures.value c.in-Err.ensures.missing items }

pub returns-in-Err-clause-items : goal.returns-in-Err-clause-items
returns-in-Err-clause-items c =
    let ok = c.insert-put.ensures.succeeds c.requires in
    let items = rw ok at c.insert-put.ensures.items in
    let m : IsMissingAt c.args.self.now.rising.items c.args.id c.in-Err.place = rw c.deref.ensures.value at c.in-Err.ensures.missing in
    items ∙ m.put_in
