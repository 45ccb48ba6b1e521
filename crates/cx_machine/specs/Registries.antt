-- What a stop state that is kept with the values of its callbacks means.
use Rattle.cx_machine.specs.declared.registry.StopRegistry.{StopRegistry}
use Rattle.cx_machine.specs.States.{stop_of}
use Rattle.cx_machine.specs.Stop.{Stop}

-- the stop state of the registry
abbrev pub registry_of : {C : Type 0} → StopRegistry C → Stop
registry_of r = stop_of r.state
