use Rattle.std.proofs.Common.{sym, ◌∙◌}
use Rattle.cx_checker.specs.Marks.{marked}
use Rattle.cx_checker.proofs.Shows.{verdict_set, verdict_past}
use Rattle.cx_checker.proofs.showing.show_one.Goals as goal

pub returns-then-stamped-clause-set : goal.returns-then-stamped-clause-set
returns-then-stamped-clause-set c = λ i l got.
    verdict_set c.args.looks.now c.args.verdicts.now.items c.args.j c.args.k i c.look_at-look.result l c.shows.result c.args.state.now c.look_at-look.ensures c.requires (sym c.has_stamp-stamped.ensures ∙ c.if-stamped.true) c.shows.ensures got

pub returns-else-n-looks-clause-set : goal.returns-else-n-looks-clause-set
returns-else-n-looks-clause-set c = λ i l got. verdict_past c.args.looks.now (marked c.args.verdicts.now.items i) c.args.j c.args.k i l c.args.state.now c.if-n-looks.false got
