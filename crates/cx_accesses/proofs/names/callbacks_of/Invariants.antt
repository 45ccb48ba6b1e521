use Rattle.std.proofs.Common.{◌≡◌, take}
use Rattle.cx_script.specs.Script.{names_in}
use Rattle.cx_accesses.proofs.names.callbacks_of.Given as goal

abbrev pub invariant-loop-i : goal.invariant-loop-i
invariant-loop-i l = (l.names ≡ take l.i (names_in l.scenario).callbacks) × (l.k ≡ l.i)
