use Rattle.std.proofs.Common.{◌≡◌, ℕ, take, drop}
use Rattle.cx_history.specs.declared.flaw.Cause.TheVariants as causes
use Rattle.cx_history.specs.Histories.{place_from}
use Rattle.cx_history.specs.Legal.{is_at_least}
use Rattle.cx_history.specs.Flaw.{first_in}
use Rattle.cx_checker.specs.Knowledge.{place_in}
use Rattle.cx_checker.proofs.falling.first_fall_in.Given as goal

abbrev pub invariant-loop-i : goal.invariant-loop-i
invariant-loop-i l = record {
  seen : (o : ℕ) → place_in l.places o ≡ place_from o 0 (take l.i l.list);
  same : first_in causes.Fell (λ u i x. is_at_least (λ o. place_from o 0 (take i l.list)) x) l.t 0 l.list ≡ first_in causes.Fell (λ u i x. is_at_least (λ o. place_from o 0 (take i l.list)) x) l.t l.i (drop l.i l.list);
}
