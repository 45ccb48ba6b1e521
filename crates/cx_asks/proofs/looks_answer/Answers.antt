use Rattle.cx_asks.proofs.Replies.{looks_answer}
use Rattle.cx_asks.proofs.looks_answer.Goals as goal

pub returns : goal.returns
returns c = looks_answer
