use Rattle.std.proofs.Common.{◌≡◌, ℕ, drop}
use Rattle.cx_history.specs.declared.flaw.Cause.TheVariants as causes
use Rattle.cx_history.specs.Histories.{list_of, knowing, owed}
use Rattle.cx_history.specs.Legal.{is_at_least}
use Rattle.cx_history.specs.Flaw.{first_in}
use Rattle.cx_history.specs.Views.{recorded_of}
use Rattle.cx_checker.specs.Knowledge.{knowing_at}
use Rattle.cx_checker.proofs.owing.follow_main.Given as goal

abbrev pub invariant-loop-i : goal.invariant-loop-i
invariant-loop-i l = record {
  knows : (o : ℕ) → knowing_at o l.known ≡ knowing (recorded_of l.record) l.i o;
  same : first_in causes.Order (λ t i x. is_at_least (owed (recorded_of l.record) t i) x) 0 0 (list_of (recorded_of l.record) 0) ≡ first_in causes.Order (λ t i x. is_at_least (owed (recorded_of l.record) t i) x) 0 l.i (drop l.i (list_of (recorded_of l.record) 0));
}
