use Rattle.std.proofs.Common.{ap}
use Rattle.cx_replay.proofs.draws.draw.Goals as goal

pub returns-clause-value : goal.returns-clause-value
returns-clause-value c = ap (λ p. p.0) c.next_word-word.ensures

pub returns-clause-state : goal.returns-clause-state
returns-clause-state c = ap (λ p. p.1) c.next_word-word.ensures
