use Rattle.std.proofs.Common.{rules, ◌≡◌, ◌-◌, ap, sym, subst, refl, arith, ℕ, None}
use Rattle.cx_machine.specs.Stop.{Stop, opening}
use Rattle.cx_turn.specs.declared.view.View.{View}
use Rattle.cx_turn.specs.Views.{opening_view, note_left, note_right}
use Rattle.cx_turn.proofs.Histories.{some_is}
use Rattle.cx_stop.specs.declared.kept.Kept.{Kept}
use Rattle.cx_turn.specs.Passes.{IsPassWith}
use Rattle.cx_stop.specs.Kinds.{means, stopping}
use Rattle.cx_stop.specs.Stops.{FreshFrom}
use Rattle.cx_stop.proofs.Others.{fresh_bare}
use Rattle.cx_stop.proofs.state.StopState.new.Goals as goal

-- the first pass, once all sources are split off
bare_view : (m : Stop) (sources seats calls : ℕ) → m ≡ opening sources → note_left (opening_view m seats calls m.sources) 0 sources None ≡ opening_view (opening sources) seats calls 0
bare_view m sources seats calls e =
    let a : calls - 0 ≡ calls = omega arith in
    let s = ap (λ (x : Stop). x.sources) e in
    let b : m.sources - sources ≡ 0 = omega (arith, s) in
    λ i. record (opening_view (e i) seats calls 0) { left = a i; share = b i }

pub returns-clause-pass : goal.returns-clause-pass
returns-clause-pass g c =
    let value : Kept g.row.C.Denot = record { at = c.in_ok-at.at } in
    let m : means value ≡ opening c.args.sources = search rules in
    let v0 = opening_view (means value) c.args.seats c.args.calls (means value).sources in
    let rest = c.note-note.ensures.rest v0 c.in_ok-turn.ensures.pass in
    let e = bare_view (means value) c.args.sources c.args.seats c.args.calls m in
    record {
      pass = subst (λ (z : View Stop). IsPassWith means stopping c.in_ok-turn.turn c.note-note.new.pass z) e rest;
      fresh = λ s leads. subst (λ (x : Stop). FreshFrom 0 0 x) (some_is (opening c.args.sources) s leads) (fresh_bare 0 (opening c.args.sources) refl);
    }

pub returns-clause-source : goal.returns-clause-source
returns-clause-source g c =
    let value : Kept g.row.C.Denot = record { at = c.in_ok-at.at } in
    let v0 = opening_view (means value) c.args.seats c.args.calls (means value).sources in
    let note = c.note-note.ensures.note v0 c.in_ok-turn.ensures.pass in
    ((note_right v0 0 c.args.sources None, record { note = note; calls = refl; ids = refl }), sym note.counted.part)
