-- What a wait made of its passes.
use Rattle.std.specs.Prelude.{ℕ}
use Rattle.cx_machine.specs.declared.kind.Entry.{Entry}
use Rattle.cx_machine.specs.declared.machine.Meaning.{Ghosts}
use Rattle.cx_machine.specs.Condition.{Condition}
use Rattle.cx_turn.specs.declared.view.View.{View}
use Rattle.cx_turn.specs.declared.pass.Pass.{Pass}
use Rattle.cx_turn.specs.Acts.{Makes}
use Rattle.cx_condvar.specs.declared.condvar.CondvarAny.{CondvarAny}
use Rattle.cx_condvar.specs.declared.wait.Waits.{Waits}
use Rattle.cx_condvar.specs.Kinds.{waiting}
use Rattle.cx_condvar.specs.Condvars.{IsCondPassWith}
use Rattle.cx_condvar.specs.Acts.{enters, unblocks}

-- two changes were made, the first before the second, and no others
abbrev pub MakesTwo : {M : Type 0} → Ghosts M → View M → View M → Entry → ℕ → Entry → ℕ → Type 0
MakesTwo K v w e n f k = (u : View _) × Makes K v u e n × Makes K u w f k

-- on the condition the thread entered and unblocked
abbrev pub WaitsOnce : CondvarAny → Pass Condition → Pass Condition → Waits → Type 0
WaitsOnce x p q at = (v : View Condition) → IsCondPassWith x p v → (w : View Condition) × IsCondPassWith x q w × MakesTwo waiting v w (enters p.number) at.enter (unblocks p.number) at.unblock

-- the lock was given up and taken again
abbrev pub Relocks : {M Key : Type 0} → Ghosts M → (Key → View M → Type 0) → Entry → Entry → Key → Key → Waits → Type 0
Relocks K knows giving taking key key' at = (v : View _) → knows key v → (w : View _) × knows key' w × MakesTwo K v w giving at.unlock taking at.lock
