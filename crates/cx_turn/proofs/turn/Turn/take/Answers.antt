use Rattle.std.proofs.Common.{◌∙◌, ap}
use Rattle.cx_turn.proofs.turn.Turn.take.Goals as goal

pub into_seat-place-requires : goal.into_seat-place-requires
into_seat-place-requires g c = (c.requires.0, ap (λ b. b.views) c.replace-badge.ensures.value ∙ c.requires.1.views)
