use Rattle.std.proofs.Common.{◌≡◌, ◌∙◌, ◌∷◌, [], ◌++◌, ◌+◌, length, length-append, refl, ap, subst, arith}
use Rattle.cx_turn.specs.declared.view.View.{View}
use Rattle.cx_turn.specs.Views.{IsKnown}
use Rattle.cx_turn.proofs.held.Held.leave_with.Goals as goal

pub returns-clause-left : goal.returns-clause-left
returns-clause-left g c =
    let m = c.requires.made in
    let l = c.leave_with-at.ensures in
    let f = c.args.self.place.me.0.front in
    let e = c.args.made.entry.value in
    let more : length (f ++ e ∷ []) ≡ length f + 1 = length-append f (e ∷ []) ∙ refl in record {
      table = c.into_badge.ensures.0 ∙ (l.place.0 ∙ m.table);
      views = c.into_badge.ensures.2 ∙ ap (λ m. m.0 ∷ []) l.view;
      live = m.out.1;
      counts = m.out.2;
      idle = refl;
      started = m.started;
      seated = m.seated;
      numbered = m.numbered;
      splits = m.splits;
      counted = record { counted = omega (arith, more, l.position); may = m.may; part = m.part };
      known = subst (λ (v : View g.row.M.Denot). IsKnown g.M.Meaning v) (ap (λ m. m.0) l.view) l.known;
    }
