use Rattle.cx_text.specs.Words.{scenario_lines}
use Rattle.cx_text.specs.Views.{now_all}
use Rattle.cx_text.proofs.Telling.{by_head}
use Rattle.cx_text.proofs.choosing.forms_for.Goals as goal

pub returns : goal.returns
returns c = by_head _ scenario_lines c.args.head.now (now_all c.args.after.now) c.first_byte.result c.forms_by.result.now c.first_byte.ensures c.forms_by.ensures
