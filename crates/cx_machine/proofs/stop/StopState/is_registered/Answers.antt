use Rattle.std.proofs.Common.{◌∙◌}
use Rattle.cx_machine.proofs.Counts.{index_has}
use Rattle.cx_machine.proofs.stop.StopState.is_registered.Goals as goal

pub returns : goal.returns
returns c = c.has.ensures ∙ index_has c.args.self.now.index.rising.items c.args.self.now.registered.items c.args.id c.args.self.now.indexed
