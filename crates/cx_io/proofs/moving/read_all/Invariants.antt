use Rattle.std.proofs.Common.{◌+◌, ◌-◌, ◌≤◌, length}
use Rattle.cx_io.proofs.Moves.{ReadSoFar}
use Rattle.cx_io.proofs.moving.read_all.Given as goal

abbrev pub invariant-loop-piece : goal.invariant-loop-piece
invariant-loop-piece g l = record {
  short : length l.bytes.items ≤ l.limit + 1;
  told : ReadSoFar (g.R.Source.left l.fn.source) (g.R.Source.left l.source) l.bytes.items;
  later : g.R.Source.faults l.fn.source ≤ g.R.Source.faults l.source;
}

abbrev pub decreases-loop-piece : goal.decreases-loop-piece
decreases-loop-piece g l = l.limit + 1 - length l.bytes.items
