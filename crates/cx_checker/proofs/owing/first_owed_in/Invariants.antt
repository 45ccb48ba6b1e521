use Rattle.std.proofs.Common.{◌≡◌, drop}
use Rattle.cx_history.specs.declared.flaw.Cause.TheVariants as causes
use Rattle.cx_history.specs.Legal.{is_at_least}
use Rattle.cx_history.specs.Flaw.{first_in}
use Rattle.cx_checker.specs.Knowledge.{place_in}
use Rattle.cx_checker.proofs.owing.first_owed_in.Given as goal

abbrev pub invariant-loop-i : goal.invariant-loop-i
invariant-loop-i l = first_in causes.Order (λ u i x. is_at_least (place_in l.owed) x) l.t 0 l.list ≡ first_in causes.Order (λ u i x. is_at_least (place_in l.owed) x) l.t l.i (drop l.i l.list)
