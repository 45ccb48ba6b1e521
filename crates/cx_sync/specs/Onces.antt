-- What a clause says of a once flag, its passes and its active execution.
use Rattle.std.specs.Prelude.{◌≡◌, ℕ, ◌+◌, pos, true, Result, Ok, Err}
use Rattle.cx_names.specs.declared.Reply.TheVariants as replies
use Rattle.cx_machine.specs.declared.kind.Entry.{Entry}
use Rattle.cx_machine.specs.declared.kind.Look.{Look}
use Rattle.cx_machine.specs.declared.kind.Op.TheVariants as ops
use Rattle.cx_machine.specs.Meaning.{change, look_of}
use Rattle.cx_machine.specs.Once as once
use Rattle.cx_turn.specs.declared.view.View.{View}
use Rattle.cx_turn.specs.declared.pass.Pass.{Pass}
use Rattle.cx_cell.specs.Cells.{IsCellPassWith, cell_seats}
use Rattle.cx_cell.specs.Seen.{At}
use Rattle.cx_turn.specs.Acts.{Makes, Looks}
use Rattle.cx_sync.specs.declared.once.OnceFlag.{OnceFlag}
use Rattle.cx_sync.specs.declared.once.Active.{Active}
use Rattle.cx_sync.specs.declared.once.Begun.{Begun}
use Rattle.cx_sync.specs.declared.once.Begun.TheVariants as begins
use Rattle.cx_sync.specs.declared.once.Once3.{Once3}
use Rattle.cx_sync.specs.declared.once.Once3.TheVariants as onces
use Rattle.cx_sync.specs.Kinds.{executing, kept}

-- it is an idle pass of this flag, and knows v
abbrev pub IsOncePassWith : OnceFlag → Pass once.Once → View once.Once → Type 0
IsOncePassWith f p v = IsCellPassWith kept executing f.cell p v

abbrev pub IsOncePass : OnceFlag → Pass once.Once → Type 0
IsOncePass f p = (v : View once.Once) × IsOncePassWith f p v

-- how many passes there may be
abbrev pub once_seats : OnceFlag → ℕ
once_seats f = cell_seats kept f.cell

-- the pass went on by this change alone, at the position n
abbrev pub OnceMakes : OnceFlag → Pass once.Once → Pass once.Once → Entry → ℕ → Type 0
OnceMakes f p q e n = (v : View once.Once) → IsOncePassWith f p v → (w : View once.Once) × IsOncePassWith f q w × Makes executing v w e n

-- the pass went on by this look alone
abbrev pub OnceLooks : OnceFlag → Pass once.Once → Pass once.Once → Look → Type 0
OnceLooks f p q l = (v : View once.Once) → IsOncePassWith f p v → (w : View once.Once) × IsOncePassWith f q w × Looks executing v w l

-- an execution of this thread is active
abbrev pub IsRunning : once.Once → ℕ → Type 0
IsRunning o n = once.is_active o n ≡ true

-- the execution is of the thread of the pass, and active
abbrev pub IsActive : OnceFlag → Pass once.Once → Active → Type 0
IsActive f p a = (a.by ≡ p.number) × ((v : View once.Once) → IsOncePassWith f p v → At executing.step IsRunning v)

-- its thread's active execution stays active
abbrev pub KeepsActive : OnceFlag → Pass once.Once → Pass once.Once → Type 0
KeepsActive f p q = (a : Active) → IsActive f p a → IsActive f q a

-- what the beginning of an execution came to
abbrev pub Begins : OnceFlag → Pass once.Once → Pass once.Once → Begun → Type 0
Begins f p q (begins.Active a n) = (q.left + 1 ≡ p.left) × IsActive f q a × OnceMakes f p q (change p.number ops.Begin (pos 0) (pos 0) replies.Ok) n
Begins f p q (begins.Passive k) = (q.left ≡ p.left) × OnceLooks f p q (look_of p.number ops.Passive (pos 0) (pos 0) replies.Ok k)

-- the function may be called while an execution of some pass is active
abbrev pub MayRun : OnceFlag → Type 0 → Type 0
MayRun f pre = (p : Pass once.Once) (a : Active) → IsOncePass f p → IsActive f p a → pre

-- the pass began an execution, at the position n, and ended it by this change, at the position m
abbrev pub Executes : OnceFlag → Pass once.Once → Pass once.Once → ℕ → Entry → ℕ → Type 0
Executes f p q n e m = (v : View once.Once) → IsOncePassWith f p v → (u w : View once.Once) × IsOncePassWith f q w × Makes executing v u (change p.number ops.Begin (pos 0) (pos 0) replies.Ok) n × Makes executing u w e m

-- what a call came to: the function was called, and returned or threw, or it wasn't called
abbrev pub CallsOnce : OnceFlag → Pass once.Once → Pass once.Once → (Result (Unit {0}) ℕ → Type 0) → Once3 → Type 0
CallsOnce f p q post (onces.Returned n m) = (q.left + 2 ≡ p.left) × post (Ok tt) × Executes f p q n (change p.number ops.Finish (pos 0) (pos 0) replies.Ok) m
CallsOnce f p q post (onces.Threw e n m) = (q.left + 2 ≡ p.left) × post (Err e) × Executes f p q n (change p.number ops.Fail (pos e) (pos 0) replies.Ok) m
CallsOnce f p q post (onces.Passive k) = (q.left ≡ p.left) × OnceLooks f p q (look_of p.number ops.Passive (pos 0) (pos 0) replies.Ok k)
