use Rattle.cx_asks.proofs.Replies.{changes_answer}
use Rattle.cx_asks.proofs.changes_answer.Goals as goal

pub returns : goal.returns
returns c = changes_answer
