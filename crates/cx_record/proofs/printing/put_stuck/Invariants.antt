use Rattle.std.proofs.Common.{◌≡◌, ◌++◌, take, map}
use Rattle.std.specs.List.{flat_map}
use Rattle.cx_record.specs.Printed.{stuck_line}
use Rattle.cx_record.specs.NamesSeen.{naming_seen}
use Rattle.cx_history.specs.Views.{number_of}
use Rattle.cx_record.proofs.printing.put_stuck.Given as goal

abbrev pub invariant-loop-t : goal.invariant-loop-t
invariant-loop-t l = l.out.items ≡ l.fn.out.items ++ flat_map (stuck_line (naming_seen l.names)) (map number_of (take l.t-index l.live))
