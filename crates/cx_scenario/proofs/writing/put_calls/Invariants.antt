use Rattle.std.proofs.Common.{◌≡◌, ◌++◌, take, map}
use Rattle.std.specs.List.{flat_map}
use Rattle.cx_script.specs.Script.{shown, line_of_call}
use Rattle.cx_scenario.specs.Whole.{roll_seen}
use Rattle.cx_scenario.proofs.writing.put_calls.Given as goal

abbrev pub invariant-loop-call : goal.invariant-loop-call
invariant-loop-call l = l.out.items ≡ l.fn.out.items ++ flat_map shown (map (line_of_call (roll_seen l.roll)) (take l.call-index l.calls))
