use Rattle.std.proofs.Common.{◌≡◌, ◌++◌, drop}
use Rattle.cx_text.specs.Words.{spread}
use Rattle.cx_scenario.proofs.checks.spread.Given as goal

abbrev pub invariant-loop-field : goal.invariant-loop-field
invariant-loop-field l = l.fields.items ++ spread (drop l.field-index l.row) l.left ≡ spread l.row l.count
