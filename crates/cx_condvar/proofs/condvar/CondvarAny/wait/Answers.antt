use Rattle.std.proofs.Common.{subst}
use Rattle.cx_names.specs.declared.ThreadNo.{ThreadNo}
use Rattle.cx_turn.specs.Acts.{Makes}
use Rattle.cx_condvar.proofs.condvar.CondvarAny.wait.Goals as goal

pub acquire-hold-requires-clause-key : goal.acquire-hold-requires-clause-key
acquire-hold-requires-clause-key g c =
    let k = c.requires.key in
    let u = c.unlock_after-unlock.ensures.made k.0 k.1 in
    (u.0, u.1)

pub returns-clause-key : goal.returns-clause-key
returns-clause-key g c =
    let k = c.requires.key in
    let u = c.unlock_after-unlock.ensures.made k.0 k.1 in
    let l = c.acquire-hold.ensures.made u.0 u.1 in
    (l.0, l.1)

pub returns-clause-relocked : goal.returns-clause-relocked
returns-clause-relocked g c v is =
    let u = c.unlock_after-unlock.ensures.made v is in
    let l = c.acquire-hold.ensures.made u.0 u.1 in
    (l.0, l.1, (u.0, u.2, subst (λ (t : ThreadNo). Makes g.L.M.Meaning u.0 l.0 (g.L.Lockable.taking t) c.acquire-hold.result.1) c.unlock_after-unlock.ensures.key_number l.2))
