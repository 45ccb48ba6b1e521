use Rattle.cx_scenario.proofs.writing.put_small.Goals as goal

pub returns-in-Release : goal.returns-in-Release
returns-in-Release c = rw (c.in-Release.is, ← c.object.ensures, ← c.number.ensures) c.put_line.ensures

pub returns-in-NotifyOne : goal.returns-in-NotifyOne
returns-in-NotifyOne c = rw (c.in-NotifyOne.is, ← c.object-in-NotifyOne.ensures) c.put_line-in-NotifyOne.ensures

pub returns-in-NotifyAll : goal.returns-in-NotifyAll
returns-in-NotifyAll c = rw (c.in-NotifyAll.is, ← c.object-in-NotifyAll.ensures) c.put_line-in-NotifyAll.ensures
