use Rattle.cx_stop.proofs.Lent.{lent_unused}
use Rattle.cx_stop_tests.proofs.two_threads.HolderRunsNumbered.run.Goals as goal

pub returns-clause-at : goal.returns-clause-at
returns-clause-at g c i u v is b = (v, is, lent_unused v, tt)
