use Rattle.cx_script.proofs.OrderSays.{are_scenario}
use Rattle.cx_script.proofs.in_order_is_scenario.Goals as goal

pub returns : goal.returns
returns c = are_scenario
