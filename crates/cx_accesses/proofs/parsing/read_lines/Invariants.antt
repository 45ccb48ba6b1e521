use Rattle.std.proofs.Common.{◌≡◌, length}
use Rattle.cx_text.specs.Views.{lines_left}
use Rattle.cx_history.specs.Views.{recorded_of}
use Rattle.cx_races.specs.Races.{AreAccesses}
use Rattle.cx_accesses.specs.AccessesSeen.{names_seen, state_of}
use Rattle.cx_accesses.proofs.AccessesRead.{IsGoing}
use Rattle.cx_accesses.proofs.parsing.read_lines.Given as goal

abbrev pub invariant-loop-line : goal.invariant-loop-line
invariant-loop-line l = record {
  going : IsGoing (names_seen l.fn.reader.declared) (recorded_of l.fn.reader.recorded.now) l.fn.first (lines_left l.fn.lines) l.number (lines_left l.left) (state_of l.reader);
  points : AreAccesses (recorded_of l.fn.reader.recorded.now) l.reader.accesses.items;
  declared : l.reader.declared ≡ l.fn.reader.declared;
  recorded : l.reader.recorded ≡ l.fn.reader.recorded;
}

abbrev pub decreases-loop-line : goal.decreases-loop-line
decreases-loop-line l = length (lines_left l.left)
