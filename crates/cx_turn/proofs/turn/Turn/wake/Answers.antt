use Rattle.std.proofs.Common.{◌∙◌, ◌≡◌, ◌∷◌, [], sym, ap}
use Rattle.cx_turn.specs.declared.view.View.{View}
use Rattle.cx_turn.proofs.Histories.{head_is}
use Rattle.cx_turn.proofs.turn.Turn.wake.Goals as goal

pub into_seat-place-requires : goal.into_seat-place-requires
into_seat-place-requires g c = (c.requires.pass.0, ap (λ b. b.views) c.replace.ensures.value ∙ c.requires.pass.1.views)

pub returns : goal.returns
returns g c v p =
    let same : ◌≡◌ {A = View g.row.M.Denot} c.into_seat-place.result.me.0 v = head_is c.into_seat-place.result.me.0 v (sym c.into_seat-place.ensures.2 ∙ (ap (λ b. b.views) c.replace.ensures.value ∙ p.views)) in record {
      table = c.into_badge.ensures.0 ∙ (c.rouse.ensures.0 ∙ (c.into_seat-place.ensures.0 ∙ (ap (λ b. b.table_id) c.replace.ensures.value ∙ p.table)));
      views = c.into_badge.ensures.2 ∙ (ap (λ m. m.0 ∷ []) c.rouse.ensures.2 ∙ ap (λ (x : View g.row.M.Denot). x ∷ []) same);
      live = p.live;
      counts = p.counts;
      idle = p.idle;
      started = p.started;
      seated = p.seated;
      numbered = p.numbered;
      splits = p.splits;
      counted = p.counted;
      known = p.known;
    }
