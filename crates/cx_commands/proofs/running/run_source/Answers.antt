use Rattle.std.proofs.Common.{refl}
use Rattle.cx_commands.proofs.Runs.{unwritten, not_built}
use Rattle.cx_commands.proofs.running.run_source.Goals as goal

pub returns-in-Ran-clause-write_fault : goal.returns-in-Ran-clause-write_fault
returns-in-Ran-clause-write_fault g c = λ e.
    unwritten c.in-Ran.fronts c.in-Ok.bytes.items c.deref.result.now c.in-Ran.text.items c.deref-in-Ran.result.now _ _ c.write_all-whole.result _ _ _ _ _ c.if-whole.false
    c.in-Ok.ensures.read c.deref.ensures.value (rw c.in-Ran.is at c.in-Ok-run_text.ensures.answer) c.deref-in-Ran.ensures.value c.write_all-whole.ensures

pub returns-in-Unbuilt-clause-not_built : goal.returns-in-Unbuilt-clause-not_built
returns-in-Unbuilt-clause-not_built g c = λ e. (not_built _ c.in-Ok.bytes.items c.deref.result.now c.in-Ok.ensures.read c.deref.ensures.value (rw c.in-Unbuilt.is at c.in-Ok-run_text.ensures.answer), refl)
