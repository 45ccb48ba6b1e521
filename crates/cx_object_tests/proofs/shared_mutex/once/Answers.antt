use Rattle.cx_object_tests.proofs.shared_mutex.once.Goals as goal

pub release-given-requires-clause-key : goal.release-given-requires-clause-key
release-given-requires-clause-key g c =
    let after = c.acquire-hold.ensures.made c.requires.key.0 c.requires.key.1 in
    (after.0, after.1)
