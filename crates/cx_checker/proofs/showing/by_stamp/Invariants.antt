use Rattle.std.proofs.Common.{◌≡◌, ◌<◌, ℕ, length, slice_get, Some, true}
use Rattle.cx_machine.specs.declared.kind.Look.{Look}
use Rattle.cx_machine.specs.Words.{has}
use Rattle.cx_checker.specs.Buckets.{bucket_at}
use Rattle.cx_checker.proofs.showing.by_stamp.Given as goal

abbrev pub invariant-loop-j : goal.invariant-loop-j
invariant-loop-j l = record {
  count : length l.buckets.items ≡ l.fn.stamps;
  all : (i : ℕ) (k : Look) → i < l.j → slice_get l.looks i ≡ Some k → k.at < l.fn.stamps → has (bucket_at l.buckets.items k.at) i ≡ true;
}
