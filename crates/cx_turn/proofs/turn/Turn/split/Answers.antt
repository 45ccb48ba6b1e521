use Rattle.std.proofs.Common.{◌∙◌, ◌≡◌, ◌∷◌, [], refl, sym, ap, arith}
use Rattle.cx_turn.specs.declared.view.View.{View}
use Rattle.cx_turn.specs.Views.{split_left, split_right}
use Rattle.cx_turn.proofs.Histories.{head_is}
use Rattle.cx_turn.proofs.Known.{known_left, known_right}
use Rattle.cx_turn.proofs.turn.Turn.split.Goals as goal

pub into_seat-place-requires : goal.into_seat-place-requires
into_seat-place-requires g c = (c.requires.pass.0, ap (λ b. b.views) c.replace.ensures.value ∙ c.requires.pass.1.views)

pub overflow_add-first : goal.overflow_add-first
overflow_add-first g c = omega (arith, c.requires.seats, c.args.self.now.few)

pub returns-clause-first : goal.returns-clause-first
returns-clause-first g c v p =
    let same : ◌≡◌ {A = View g.row.M.Denot} c.into_seat-place.result.me.0 v = head_is c.into_seat-place.result.me.0 v (sym c.into_seat-place.ensures.2 ∙ (ap (λ b. b.views) c.replace.ensures.value ∙ p.views)) in record {
      table = c.into_badge.ensures.0 ∙ (c.split-other.ensures.left.0 ∙ (c.into_seat-place.ensures.0 ∙ (ap (λ b. b.table_id) c.replace.ensures.value ∙ p.table)));
      views = c.into_badge.ensures.2 ∙ (ap (λ m. m.0 ∷ []) c.split-other.ensures.left.2 ∙ ap (λ (x : View g.row.M.Denot). split_left x c.args.calls ∷ []) same);
      live = p.live;
      counts = p.counts;
      idle = p.idle;
      started = p.started;
      seated = p.seated;
      numbered = p.numbered;
      splits = (let e = p.splits in omega arith);
      counted = record { counted = p.counted.counted; may = (let e = p.counted.may in omega arith); part = (let e = p.counted.part in omega arith) };
      known = known_left g.M.Meaning v c.args.calls (let e = p.counted.may in let q = c.requires.calls in omega arith) (let a = p.splits in let b = p.seated in let r = c.requires.seats in omega arith) p.known;
    }

pub returns-clause-second : goal.returns-clause-second
returns-clause-second g c v p =
    let same : ◌≡◌ {A = View g.row.M.Denot} c.into_seat-place.result.me.0 v = head_is c.into_seat-place.result.me.0 v (sym c.into_seat-place.ensures.2 ∙ (ap (λ b. b.views) c.replace.ensures.value ∙ p.views)) in record {
      table = c.into_badge-2.ensures.0 ∙ (c.split-other.ensures.right.0 ∙ (c.into_seat-place.ensures.0 ∙ (ap (λ b. b.table_id) c.replace.ensures.value ∙ p.table)));
      views = c.into_badge-2.ensures.2 ∙ (ap (λ m. m.0 ∷ []) c.split-other.ensures.right.1 ∙ ap (λ (x : View g.row.M.Denot). split_right x c.args.calls ∷ []) same);
      live = refl;
      counts = refl;
      idle = refl;
      started = p.started;
      seated = p.seated;
      numbered = (let e = p.splits in omega arith);
      splits = refl;
      counted = record { counted = p.counted.counted; may = refl; part = refl };
      known = known_right g.M.Meaning v c.args.calls p.counts (p.numbered ∙ c.requires.first) (let e = p.counted.may in let q = c.requires.calls in omega arith) (let a = p.splits in let b = p.seated in let r = c.requires.seats in omega arith) p.known;
    }
