use Rattle.std.proofs.Common.{◌≡◌, ◌<◌, ◌^◌, drop}
use Rattle.cx_text.specs.Words.{digits_from}
use Rattle.cx_text.proofs.value.natural.Given as goal

abbrev pub invariant-loop-b : goal.invariant-loop-b
invariant-loop-b l = record {
  so_far : digits_from l.n (drop l.b-index l.word) ≡ digits_from 0 l.word;
  small : l.n < 10 ^ l.b-index;
}
