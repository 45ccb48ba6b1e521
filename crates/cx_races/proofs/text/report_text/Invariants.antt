use Rattle.std.proofs.Common.{◌≡◌, ◌++◌, drop, map}
use Rattle.cx_races.specs.Report.{report_text}
use Rattle.cx_races.proofs.text.report_text.Given as goal

abbrev pub invariant-loop-i : goal.invariant-loop-i
invariant-loop-i l = l.text.items ++ report_text (drop l.i (map (λ n. n.items) l.names)) (drop l.i l.entries) ≡ report_text (map (λ n. n.items) l.names) l.entries
