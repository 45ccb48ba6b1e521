use Rattle.std.proofs.Common.{◌≡◌, ◌≤◌, ℕ, length}
use Rattle.cx_checker.specs.Knowledge.{place_in}
use Rattle.cx_checker.proofs.places.Places.put.Given as goal

abbrev pub invariant-loop-room : goal.invariant-loop-room
invariant-loop-room l = record {
  long : length l.self.seen.items ≡ l._room;
  same : (q : ℕ) → place_in l.self q ≡ place_in l.fn.self q;
}
