-- What a write through a loan makes of what a taker holds.
use Rattle.std.specs.Prelude.{Option}
use Rattle.cx_turn.specs.declared.held.Held.{Held}

abbrev pub with_hand : {M S H : Type 0} → Held M S H → Option H → Held M S H
with_hand h x = record h { hand = x }

abbrev pub with_state : {M S H : Type 0} → Held M S H → S → Held M S H
with_state h x = record h { state = x }
