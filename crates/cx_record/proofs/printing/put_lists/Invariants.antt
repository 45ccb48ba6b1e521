use Rattle.std.proofs.Common.{◌≡◌, ◌++◌, drop, map}
use Rattle.cx_record.specs.Printed.{lists_text}
use Rattle.cx_record.specs.NamesSeen.{naming_seen}
use Rattle.cx_history.specs.Views.{listed}
use Rattle.cx_record.proofs.printing.put_lists.Given as goal

abbrev pub invariant-loop-t : goal.invariant-loop-t
invariant-loop-t l = l.out.items ++ lists_text (naming_seen l.names) l.t (map listed (drop l.t l.lists)) ≡ l.fn.out.items ++ lists_text (naming_seen l.names) 0 (map listed l.lists)
