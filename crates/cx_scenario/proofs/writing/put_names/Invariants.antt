use Rattle.std.proofs.Common.{◌≡◌, ◌++◌, take, map}
use Rattle.cx_text.specs.Words.{AWord}
use Rattle.cx_script.specs.Script.{name_at}
use Rattle.cx_scenario.specs.Views.{values_seen}
use Rattle.cx_scenario.proofs.writing.put_names.Given as goal

abbrev pub invariant-loop-t : goal.invariant-loop-t
invariant-loop-t l = values_seen l.values.items ≡ values_seen l.fn.front ++ map (λ t. AWord (name_at (map (λ n. n.items) l.names) t)) (take l.t-index l.t-items)
