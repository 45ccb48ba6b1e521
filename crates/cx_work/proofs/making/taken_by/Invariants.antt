use Rattle.std.proofs.Common.{◌≡◌, min, take}
use Rattle.cx_asks.specs.Scenes.{takings}
use Rattle.cx_work.proofs.making.taken_by.Given as goal

abbrev pub invariant-loop-i : goal.invariant-loop-i
invariant-loop-i l = l.taken ≡ min 4294967295 (takings l.o (take l.i l.calls))
