use Rattle.std.proofs.Common.{◌∙◌, ◌∷◌, [], refl, ap}
use Rattle.cx_turn.proofs.Known.{known_outside}
use Rattle.cx_turn.proofs.held.Held.leave.Goals as goal

pub returns : goal.returns
returns g c =
    let h = c.requires.held in record {
      table = c.into_badge.ensures.0 ∙ (c.leave.ensures.place.0 ∙ h.table);
      views = c.into_badge.ensures.2 ∙ ap (λ m. m.0 ∷ []) c.leave.ensures.view;
      live = h.out.1;
      counts = h.out.2;
      idle = refl;
      started = h.started;
      seated = h.seated;
      numbered = h.numbered;
      splits = h.splits;
      counted = record { counted = h.counted.counted; may = h.counted.may; part = h.counted.part };
      known = known_outside g.M.Meaning c.args.self.place.me.0 h.known;
    }
