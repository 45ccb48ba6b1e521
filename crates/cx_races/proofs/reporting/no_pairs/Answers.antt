use Rattle.std.proofs.Common.{◌≡◌, ℕ, ◌∙◌, ap, sym, subst, length, length-append, ◌∷◌, [], List, Option, Some, None, arith}
use Rattle.std.specs.Prelude.{slice_get}
use Rattle.cx_races.specs.declared.reporting.Pair.{Pair}
use Rattle.cx_races.proofs.Pairs.{none_pushed}
use Rattle.cx_races.proofs.reporting.no_pairs.Goals as goal

pub loop-variable-preserved : goal.loop-variable-preserved
loop-variable-preserved c = record {
  count = ap length c.in_ok-push.ensures.items ∙ (length-append c.loop-variable.entries.items (None ∷ []) ∙ omega (arith, c.loop-variable.invariant.count));
  none = subst (λ (es : List (Option Pair)). (k : ℕ) (e : Option Pair) → slice_get es k ≡ Some e → e ≡ None) (sym c.in_ok-push.ensures.items) (none_pushed c.loop-variable.entries.items c.loop-variable.invariant.none);
}
