use Rattle.std.proofs.Common.{sym, ap, length, ◌<◌, arith}
use Rattle.cx_scenario.proofs.Short.{no_reader}
use Rattle.cx_scenario.proofs.said.Said.is_reader.Goals as goal

pub returns-in_default : goal.returns-in_default
returns-in_default c =
    let short : length c.args.self.now.values.items < 2 = omega (arith, ap length c.as_slice.ensures.value) in
    sym (no_reader c.args.self.now.form c.args.self.now.values.items c.args.name.now short)
