use Rattle.std.proofs.Common.{◌∙◌, arith, ap, sym, ◌∷◌}
use Rattle.atomic_table.specs.Table.{rest}
use Rattle.cx_turn.specs.declared.view.Desk.TheVariants.{Home}
use Rattle.cx_turn.proofs.Keeps.{taking}
use Rattle.cx_turn.proofs.steps.try_enter.Goals as goal

pub fetch_or-found-requires : goal.fetch_or-found-requires
fetch_or-found-requires g c = (
  c.requires.table.0,
  c.requires.table.1,
  taking g.S.Machine.meaning g.S.Machine.fits g.M.Meaning _ _ _ _ c.args.place.now.me.0 c.args.place.now.me.1 c.requires.idle.0 c.requires.idle.1 c.requires.idle.2 c.requires.idle.3,
)

pub exchange-requires : goal.exchange-requires
exchange-requires g c =
    let t = c.fetch_or-found.ensures.2.1 (let f = c.if-found-eq1.false in omega arith) in
    (c.fetch_or-found.ensures.0 ∙ c.requires.table.0, (Home t.0, ap (λ m. m.1) t.2 ∙ ap (λ m. (0, Home t.0) ∷ rest m.1) (sym t.2)))
