use Rattle.std.proofs.Common.{ap, sym, ◌∙◌, arith}
use Rattle.cx_machine.specs.Stop.{Stop}
use Rattle.cx_machine.specs.Values.{ids_of}
use Rattle.cx_machine.proofs.registry.StopRegistry.new.Goals as goal

pub invariant_of-result : goal.invariant_of-result
invariant_of-result g c = record {
  same = ap (λ cs. ids_of cs) c.new-2.ensures.items ∙ sym (ap (λ (s : Stop). s.registered) c.new.ensures.state);
  roomy = omega (arith, c.new.ensures.room);
}
