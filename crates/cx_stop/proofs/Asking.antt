-- Each state shows one of two looks.
use Rattle.std.proofs.Common.{◌≡◌, ℕ, Bool, true, false, not, refl}
use Rattle.cx_names.specs.declared.Reply.{Reply}
use Rattle.cx_names.specs.declared.Reply.TheVariants as replies
use Rattle.cx_machine.specs.declared.kind.Op.TheVariants as ops
use Rattle.cx_machine.specs.Acts.{at_look}
use Rattle.cx_machine.specs.Values.{truth}
use Rattle.cx_machine.specs.Stop.{Stop, shows, is_requested, is_possible}
use Rattle.cx_stop.specs.Acts.{IsAlwaysShown, seen_at}

both : (b : Bool) → b ≡ false → not b ≡ false → ⊥
both true e f = cc
both false e f = cc

pub always_stop_requested : IsAlwaysShown ops.StopRequested
always_stop_requested m by dark = both (is_requested m) (dark replies.True 0) (dark replies.False 0)

pub always_stop_possible : IsAlwaysShown ops.StopPossible
always_stop_possible m by dark = both (is_possible m) (dark replies.True 0) (dark replies.False 0)

-- the reply of such a look is true or false
pub truth_stop_requested : (m : Stop) (n k : ℕ) (r : Reply) → at_look shows m (seen_at n ops.StopRequested 0 r k) ≡ true → (b : Bool) × (r ≡ truth b)
truth_stop_requested m n k replies.True e = (true, refl)
truth_stop_requested m n k replies.False e = (false, refl)
truth_stop_requested m n k _ e = cc e

pub truth_stop_possible : (m : Stop) (n k : ℕ) (r : Reply) → at_look shows m (seen_at n ops.StopPossible 0 r k) ≡ true → (b : Bool) × (r ≡ truth b)
truth_stop_possible m n k replies.True e = (true, refl)
truth_stop_possible m n k replies.False e = (false, refl)
truth_stop_possible m n k _ e = cc e

pub false_of : (b : Bool) (r : Reply) → r ≡ truth b → (r ≡ replies.True → ⊥) → r ≡ replies.False
false_of true r e f = absurd (f e)
false_of false r e f = e
