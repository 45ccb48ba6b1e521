use Rattle.cx_laws.proofs.Shared.{one_writer, writer_excludes_readers, shared_owners_unlock}
use Rattle.cx_laws.proofs.shared_mutexes.Goals as goal

pub returns-clause-one_writer : goal.returns-clause-one_writer
returns-clause-one_writer c = one_writer

pub returns-clause-writer_excludes_readers : goal.returns-clause-writer_excludes_readers
returns-clause-writer_excludes_readers c = writer_excludes_readers

pub returns-clause-shared_owners_unlock : goal.returns-clause-shared_owners_unlock
returns-clause-shared_owners_unlock c = shared_owners_unlock
