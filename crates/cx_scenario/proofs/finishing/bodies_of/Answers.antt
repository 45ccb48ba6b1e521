use Rattle.std.proofs.Common.{map, ap, ◌∙◌, ℕ}
use Rattle.std.specs.Global.{Vec}
use Rattle.std.proofs.lemmas.List.{map_push}
use Rattle.cx_scenario.proofs.Ending.{apart_more, bodies_more}
use Rattle.cx_scenario.proofs.finishing.bodies_of.Goals as goal

pub loop-name-preserved : goal.loop-name-preserved
loop-name-preserved c = record {
  apart = apart_more c.args.threads.now c.loop-name.name-index c.loop-name.invariant.apart;
  so_far = rw (c.in_ok-push.ensures.items, map_push) (bodies_more c.args.threads.now c.loop-name.name-index _ c.deref.result.now (map (λ b. b.items) c.loop-name.bodies.items) c.loop-name.left.items c.take_calls-calls.new.groups.items c.take_calls-calls.result.items _
      c.loop-name-test.true (c.deref.ensures.value ∙ ap (λ (v : Vec ℕ). v.items) c.name-item.is) c.loop-name.invariant.apart c.take_calls-calls.ensures.value c.take_calls-calls.ensures.others c.loop-name.invariant.so_far);
}
