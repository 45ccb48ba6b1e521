use Rattle.std.proofs.Common.{◌≡◌, ◌+◌, ◌≤◌}
use Rattle.std.specs.Prelude.{vec_len, vec_capacity}
use Rattle.cx_mutex.specs.Mutexes.{IsMutexPass, IsHeldBy}
use Rattle.cx_condvar.specs.Condvars.{IsCondPass, IsOut}
use Rattle.cx_condvar.proofs.Logging.{Stands}
use Rattle.cx_condvar.proofs.condvar.CondvarAny.wait_until_true.Given as goal

abbrev pub invariant-loop-turn : goal.invariant-loop-turn
invariant-loop-turn g l =
    Stands l.self l.m (g.P.Predicate.number l.pred) (g.P.Predicate.holds l.pred) l.initial.pass l.initial.key l.initial.log l.initial.turns.used l.pass l.key l.log l.turns.used
    × IsCondPass l.self l.pass
    × IsOut l.self l.pass
    × IsMutexPass l.m l.key
    × IsHeldBy l.m l.key l.hold
    × (vec_len l.log.acts + 1 ≤ vec_capacity l.log.acts)
    × (l.turns.used ≡ l._turn)
    × (l.turns.used ≤ 16384)
