use Rattle.cx_condvar_tests.proofs.waiting.waits_over.Goals as goal

pub wait-hold-requires-clause-key : goal.wait-hold-requires-clause-key
wait-hold-requires-clause-key g c =
    let after = c.acquire-hold.ensures.made c.requires.key.0 c.requires.key.1 in
    (after.0, after.1)
