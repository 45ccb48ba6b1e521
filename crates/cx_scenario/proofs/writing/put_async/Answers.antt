use Rattle.cx_scenario.proofs.writing.put_async.Goals as goal

pub returns-in-Return : goal.returns-in-Return
returns-in-Return c = rw (c.in-Return.is, ← c.policy_word-policy.ensures, ← c.signed-value.ensures) c.put_line.ensures
