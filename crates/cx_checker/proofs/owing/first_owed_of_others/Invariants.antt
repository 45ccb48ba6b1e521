use Rattle.std.proofs.Common.{◌≡◌, drop}
use Rattle.cx_history.specs.declared.flaw.Cause.TheVariants as causes
use Rattle.cx_history.specs.Histories.{owed}
use Rattle.cx_history.specs.Legal.{is_at_least}
use Rattle.cx_history.specs.Flaw.{first_of_items}
use Rattle.cx_history.specs.Views.{recorded_of}
use Rattle.cx_checker.proofs.owing.first_owed_of_others.Given as goal

abbrev pub invariant-loop-t : goal.invariant-loop-t
invariant-loop-t l =
    first_of_items causes.Order (λ t i x. is_at_least (owed (recorded_of l.record) t i) x) 0 (recorded_of l.record).lists
    ≡ first_of_items causes.Order (λ t i x. is_at_least (owed (recorded_of l.record) t i) x) l.t (drop l.t (recorded_of l.record).lists)
