use Rattle.cx_weights.proofs.Starts.{scenario_is_light}
use Rattle.cx_weights.proofs.scenario_is_light.Goals as goal

pub returns : goal.returns
returns c = scenario_is_light
