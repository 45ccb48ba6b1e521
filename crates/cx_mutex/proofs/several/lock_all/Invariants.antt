use Rattle.std.proofs.Common.{◌≡◌}
use Rattle.cx_mutex.proofs.Backing.{Stands}
use Rattle.cx_mutex.proofs.several.lock_all.Given as goal

abbrev pub invariant-loop-turn : goal.invariant-loop-turn
invariant-loop-turn g l = Stands l.all l.which l.initial.passes l.passes l.initial.turns.used l.turns.used l.start × (l.turns.used ≡ l._turn)
