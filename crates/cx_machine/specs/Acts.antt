-- A machine's table at an entry and at a look.
use Rattle.std.specs.Prelude.{ℕ, ℤ, Bool, Option}
use Rattle.cx_names.specs.declared.Reply.{Reply}
use Rattle.cx_machine.specs.declared.kind.Entry.{Entry}
use Rattle.cx_machine.specs.declared.kind.Look.{Look}
use Rattle.cx_machine.specs.declared.kind.Op.{Op}
use Rattle.cx_machine.specs.Words.{small_of}

abbrev pub at_entry : {S : Type 0} → (S → ℕ → Op → Option ℕ → ℤ → Reply → Option S) → S → Entry → Option S
at_entry step s e = step s e.by.0 e.op (small_of e.a) e.b e.reply

abbrev pub at_look : {S : Type 0} → (S → ℕ → Op → Option ℕ → ℤ → Reply → Bool) → S → Look → Bool
at_look shows s l = shows s l.by.0 l.op (small_of l.a) l.b l.reply
