use Rattle.std.proofs.Common.{◌≡◌, take}
use Rattle.cx_races.specs.Sheets.{AreSmall}
use Rattle.cx_races.proofs.sheet.copied.Given as goal

abbrev pub invariant-loop-i : goal.invariant-loop-i
invariant-loop-i l = record {
  same : l.copy.items ≡ take l.i l.accesses;
  small : AreSmall l.copy.items;
}
