use Rattle.std.proofs.Common.{◌∙◌, ◌≡◌, ◌∷◌, [], refl, sym, ap, arith}
use Rattle.cx_turn.specs.declared.view.View.{View}
use Rattle.cx_turn.specs.Views.{note_left, note_right}
use Rattle.cx_turn.proofs.Histories.{head_is}
use Rattle.cx_turn.proofs.Known.{known_rest, known_note}
use Rattle.cx_turn.proofs.turn.Turn.note.Goals as goal

pub into_seat-place-requires : goal.into_seat-place-requires
into_seat-place-requires g c = (c.requires.pass.0, ap (λ b. b.views) c.replace.ensures.value ∙ c.requires.pass.1.views)

pub returns-clause-rest : goal.returns-clause-rest
returns-clause-rest g c v p =
    let same : ◌≡◌ {A = View g.row.M.Denot} c.into_seat-place.result.me.0 v = head_is c.into_seat-place.result.me.0 v (sym c.into_seat-place.ensures.2 ∙ (ap (λ b. b.views) c.replace.ensures.value ∙ p.views)) in record {
      table = c.into_badge.ensures.0 ∙ (c.note-other.ensures.left.0 ∙ (c.into_seat-place.ensures.0 ∙ (ap (λ b. b.table_id) c.replace.ensures.value ∙ p.table)));
      views = c.into_badge.ensures.2 ∙ (ap (λ m. m.0 ∷ []) c.note-other.ensures.left.2 ∙ ap (λ (x : View g.row.M.Denot). note_left x c.args.calls c.args.share c.args.id ∷ []) same);
      live = p.live;
      counts = p.counts;
      idle = p.idle;
      started = p.started;
      seated = p.seated;
      numbered = p.numbered;
      splits = p.splits;
      counted = record { counted = p.counted.counted; may = (let e = p.counted.may in omega arith); part = (let e = p.counted.part in omega arith) };
      known = known_rest g.M.Meaning v c.args.calls c.args.share c.args.id (c.requires.id v p) p.known;
    }

pub returns-clause-note : goal.returns-clause-note
returns-clause-note g c v p =
    let same : ◌≡◌ {A = View g.row.M.Denot} c.into_seat-place.result.me.0 v = head_is c.into_seat-place.result.me.0 v (sym c.into_seat-place.ensures.2 ∙ (ap (λ b. b.views) c.replace.ensures.value ∙ p.views)) in record {
      table = c.into_badge-2.ensures.0 ∙ (c.note-other.ensures.right.0 ∙ (c.into_seat-place.ensures.0 ∙ (ap (λ b. b.table_id) c.replace.ensures.value ∙ p.table)));
      views = c.into_badge-2.ensures.2 ∙ (ap (λ m. m.0 ∷ []) c.note-other.ensures.right.1 ∙ ap (λ (x : View g.row.M.Denot). note_right x c.args.calls c.args.share c.args.id ∷ []) same);
      live = refl;
      note = refl;
      idle = refl;
      started = p.started;
      seated = p.seated;
      counted = record { counted = p.counted.counted; may = refl; part = refl };
      known = known_note g.M.Meaning v c.args.calls c.args.share c.args.id (let e = p.counted.may in let q = c.requires.parts in omega arith) (let e = p.counted.part in let q = c.requires.parts in omega arith) (c.requires.id v p) p.known;
    }
