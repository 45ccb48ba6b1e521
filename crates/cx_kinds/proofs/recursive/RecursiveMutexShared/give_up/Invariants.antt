use Rattle.std.proofs.Common.{◌≡◌}
use Rattle.cx_kinds.specs.Tokens.{HasGiven}
use Rattle.cx_kinds.proofs.recursive.RecursiveMutexShared.give_up.Given as goal

abbrev pub invariant-loop : goal.invariant-loop
invariant-loop g l = HasGiven l.fn.self l.counter l.fn.token l.token × (l.levels ≡ l.fn.token.levels.count)
