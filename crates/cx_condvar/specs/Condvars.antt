-- What a clause says of a condition and its passes.
use Rattle.std.specs.Prelude.{◌≡◌, ◌||◌, ℕ, Bool, true, false}
use Rattle.cx_machine.specs.declared.kind.Entry.{Entry}
use Rattle.cx_machine.specs.Condition.{Condition}
use Rattle.cx_machine.specs.States.{condition_of}
use Rattle.cx_machine.specs.Words.{has}
use Rattle.cx_turn.specs.declared.view.View.{View}
use Rattle.cx_turn.specs.declared.pass.Pass.{Pass}
use Rattle.cx_turn.specs.Acts.{Makes}
use Rattle.cx_cell.specs.Cells.{IsCellPassWith, cell_seats}
use Rattle.cx_cell.specs.Seen.{At}
use Rattle.cx_condvar.specs.declared.condvar.CondvarAny.{CondvarAny}
use Rattle.cx_condvar.specs.declared.acts.Entered.{Entered}
use Rattle.cx_condvar.specs.Kinds.{waiting}

-- it is an idle pass of this condition, and knows v
abbrev pub IsCondPassWith : CondvarAny → Pass Condition → View Condition → Type 0
IsCondPassWith x p v = IsCellPassWith condition_of waiting x.cell p v

abbrev pub IsCondPass : CondvarAny → Pass Condition → Type 0
IsCondPass x p = (v : View Condition) × IsCondPassWith x p v

-- how many passes there may be
abbrev pub cond_seats : CondvarAny → ℕ
cond_seats x = cell_seats condition_of x.cell

-- the thread has entered and not left: it waits, or it was notified
abbrev pub is_in : Condition → ℕ → Bool
is_in c n = has c.waiting n || has c.notified n

-- whether the thread has entered
abbrev pub Stands : Bool → Condition → ℕ → Type 0
Stands b c n = is_in c n ≡ b

-- after what the pass has seen, whether its thread has entered
abbrev pub IsStanding : Bool → CondvarAny → Pass Condition → Type 0
IsStanding b x p = (v : View Condition) → IsCondPassWith x p v → At waiting.step (Stands b) v

-- the thread of the pass hasn't entered
abbrev pub IsOut : CondvarAny → Pass Condition → Type 0
IsOut x p = IsStanding false x p

-- the thread of the pass has entered, and this is what it has
abbrev pub IsIn : CondvarAny → Pass Condition → Entered → Type 0
IsIn x p e = (e.by ≡ p.number) × IsStanding true x p

-- whether its thread has entered stays as it was
abbrev pub StaysAsItWas : CondvarAny → Pass Condition → Pass Condition → Type 0
StaysAsItWas x p q = (b : Bool) → IsStanding b x p → IsStanding b x q

-- the pass went on by this change alone, at the position n
abbrev pub CondMakes : CondvarAny → Pass Condition → Pass Condition → Entry → ℕ → Type 0
CondMakes x p q e n = (v : View Condition) → IsCondPassWith x p v → (w : View Condition) × IsCondPassWith x q w × Makes waiting v w e n
