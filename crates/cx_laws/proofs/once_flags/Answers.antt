use Rattle.cx_laws.proofs.Once.{returns_once, passive_after_return, nothing_after_return, one_runs, ends_what_it_began}
use Rattle.cx_laws.proofs.once_flags.Goals as goal

pub returns-clause-returns_once : goal.returns-clause-returns_once
returns-clause-returns_once c = returns_once

pub returns-clause-passive_after_return : goal.returns-clause-passive_after_return
returns-clause-passive_after_return c = passive_after_return

pub returns-clause-nothing_after_return : goal.returns-clause-nothing_after_return
returns-clause-nothing_after_return c = nothing_after_return

pub returns-clause-one_runs : goal.returns-clause-one_runs
returns-clause-one_runs c = one_runs

pub returns-clause-ends_what_it_began : goal.returns-clause-ends_what_it_began
returns-clause-ends_what_it_began c = ends_what_it_began
