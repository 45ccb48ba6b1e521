use Rattle.std.proofs.Common.{◌∙◌}
use Rattle.cx_text.proofs.Digits.{one_of_is}
use Rattle.cx_text.proofs.value.is_one_of.Goals as goal

pub returns : goal.returns
returns c = c.contains.ensures.value ∙ one_of_is c.args.words.now c.args.word.now
