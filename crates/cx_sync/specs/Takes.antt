-- What an attempt to acquire came to.
use Rattle.std.specs.Prelude.{ℕ, pos}
use Rattle.cx_names.specs.declared.Reply.TheVariants as replies
use Rattle.cx_machine.specs.declared.kind.Op.TheVariants as ops
use Rattle.cx_machine.specs.Meaning.{change, look_of}
use Rattle.cx_machine.specs.Semaphore as semaphore
use Rattle.cx_turn.specs.declared.pass.Pass.{Pass}
use Rattle.cx_sync.specs.declared.semaphore.Semaphore.{Semaphore}
use Rattle.cx_sync.specs.declared.semaphore.Taking.{Taking}
use Rattle.cx_sync.specs.declared.semaphore.Taking.TheVariants as takings
use Rattle.cx_sync.specs.Sync.{SemaphoreMakes, SemaphoreLooks}

abbrev pub Takes : Semaphore → Pass semaphore.Semaphore → Pass semaphore.Semaphore → Taking → Type 0
Takes s p q (takings.Taken n) = SemaphoreMakes s p q (change p.number ops.TryAcquire (pos 0) (pos 0) replies.True) n
Takes s p q (takings.Zero k) = SemaphoreLooks s p q (look_of p.number ops.TryAcquire (pos 0) (pos 0) replies.False k)
Takes s p q (takings.Again saw found) = ⊥

-- how many changes the attempt made
abbrev pub cost_of : Taking → ℕ
cost_of (takings.Taken n) = 1
cost_of (takings.Zero k) = 0
cost_of (takings.Again saw found) = 0
