-- The phase in which a thread last arrived.
use Rattle.std.specs.Prelude.{ℕ, ℤ, List, [], ◌∷◌, Option, Some, None, nat_eq, if◌then◌else◌}
use Rattle.cx_names.specs.declared.Reply.{Reply}
use Rattle.cx_names.specs.declared.Reply.TheVariants as replies
use Rattle.cx_machine.specs.declared.kind.Entry.{Entry}
use Rattle.cx_machine.specs.declared.kind.Op.{Op}
use Rattle.cx_machine.specs.declared.kind.Op.TheVariants as ops

-- the phase that a change names, where it is an arrival
abbrev pub phase_named : Op → Reply → Option ℤ
phase_named ops.Arrive (replies.Number p) = Some p
phase_named ops.Drop (replies.Number p) = Some p
phase_named _ _ = None

-- this one, or else that one
abbrev pub later_or : Option ℤ → Option ℤ → Option ℤ
later_or None p = p
later_or (Some q) p = Some q

-- the phase of the last of this thread's arrivals, if there is one
abbrev pub last_phase : ℕ → List Entry → Option ℤ
last_phase n [] = None
last_phase n (e ∷ es) = later_or (last_phase n es) (if nat_eq e.by.0 n then phase_named e.op e.reply else None)
