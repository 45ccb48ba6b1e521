use Rattle.std.proofs.Common.{◌≡◌, ◌++◌, drop, map}
use Rattle.cx_text.specs.Views.{seen}
use Rattle.cx_record.specs.Printed.{filled_in}
use Rattle.cx_record.proofs.printing.fill_row.Given as goal

abbrev pub invariant-loop-field : goal.invariant-loop-field
invariant-loop-field l = map seen l.values.items ++ filled_in (drop l.field-index l.fields) (map seen l.rest) ≡ filled_in l.fields (map seen l.given)
