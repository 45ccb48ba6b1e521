use Rattle.std.proofs.Common.{◌≡◌, ◌+◌, ◌-◌, length}
use Rattle.cx_scenario.specs.Front.{bytes_of}
use Rattle.cx_accesses.proofs.part.bytes_of.Given as goal

abbrev pub invariant-loop-i : goal.invariant-loop-i
invariant-loop-i l = record {
  so_far : l.bytes + bytes_of (l.count - l.i) l.rest ≡ bytes_of l.count l.text;
  within : l.bytes + length l.rest ≡ length l.text;
}
