use Rattle.std.proofs.Common.{sym, ◌∙◌, subst}
use Rattle.cx_races.specs.declared.access.Access.{Access}
use Rattle.cx_races.specs.Sheets.{NoneRaces}
use Rattle.cx_races.proofs.Pairs.{free_partner, points_in, some_is}
use Rattle.cx_races.proofs.reporting.partner_of.Goals as goal

pub returns-then-free : goal.returns-then-free
returns-then-free c = λ s r a is are there.
    let xs = c.args.sheet.now.accesses.items in
    let same = some_is c.access_at.result a (sym c.access_at.ensures ∙ there) in
    free_partner s r c.args.accesses.now xs c.args.i a c.requires.sheet there
    (subst (λ (x : Access). NoneRaces s r xs x) same (c.is_free-free.ensures c.if-free.true s r (record { order = is; point = are c.args.i c.access_at.result c.access_at.ensures; points = points_in r c.args.accesses.now xs c.requires.sheet are })))
