use Rattle.cx_scenario.proofs.writing.put_declaration.Goals as goal

pub returns-in-Deregister : goal.returns-in-Deregister
returns-in-Deregister c = rw (c.in-Callback.is, c.in-Deregister.is, ← c.object-in-Deregister.ensures) c.put_line-in-Deregister.ensures
