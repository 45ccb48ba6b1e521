use Rattle.std.proofs.Common.{◌∙◌}
use Rattle.cx_text.specs.Words.{fields_in}
use Rattle.cx_scenario.specs.Views.{filled}
use Rattle.cx_scenario.proofs.Ending.{outside_by_same}
use Rattle.cx_scenario.proofs.reader.Reader.is_outside.Goals as goal

pub returns : goal.returns
returns c =
    c.has_outside.ensures
    ∙ outside_by_same c.args.self.now.kept c.deref.result.now (fields_in (filled c.args.line.now)) c.deref-2.result.now c.args.line.now.values.items
    (c.deref.ensures.value ∙ c.requires) c.deref-2.ensures.value
