use Rattle.cx_work.specs.RunNow.{is_call_now}
use Rattle.cx_work.proofs.Copying.{all_inside}
use Rattle.cx_work.proofs.copies.bodies_of.Goals as goal

pub calls_of-requires : goal.calls_of-requires
calls_of-requires c = all_inside is_call_now c.args.bodies.now c.loop-body.body-index c.body-item.result _ c.requires c.loop-body-test.true c.body-item.is c.as_slice.ensures.value
