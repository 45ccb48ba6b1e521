use Rattle.std.proofs.Common.{◌∙◌, ap}
use Rattle.cx_turn.proofs.turn.Turn.take_in.Goals as goal

pub into_seat-place-requires : goal.into_seat-place-requires
into_seat-place-requires g c = (c.requires.pass.0, ap (λ b. b.views) c.replace.ensures.value ∙ c.requires.pass.1.views)
