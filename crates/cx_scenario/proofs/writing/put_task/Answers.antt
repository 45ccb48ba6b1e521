use Rattle.cx_scenario.proofs.writing.put_task.Goals as goal

pub returns-in-Throw : goal.returns-in-Throw
returns-in-Throw c = rw (c.in-Throw.is, ← c.thread-in-Throw.ensures, ← c.thread-in-Throw-2.ensures, ← c.number.ensures) c.put_line-in-Throw.ensures
