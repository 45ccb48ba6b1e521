use Rattle.std.proofs.Common.{◌∙◌, ◌≡◌, sym, subst}
use Rattle.cx_turn.specs.declared.view.Desk.{Desk}
use Rattle.cx_turn.specs.declared.view.Desk.TheVariants.{Home}
use Rattle.cx_turn.specs.declared.view.View.{View}
use Rattle.cx_turn.specs.Views.{IsNow}
use Rattle.cx_turn.specs.Passes.{IsPassWith}
use Rattle.cx_turn.proofs.Histories.{head_is}
use Rattle.cx_turn.proofs.Partings.{ends}
use Rattle.cx_turn.proofs.turn.Turn.close.Goals.{After-take-desk}
use Rattle.cx_turn.proofs.turn.Turn.close.Given.{Over}
use Rattle.cx_turn.proofs.turn.Turn.close.Goals as goal

home : (g : Over) (c : After-take-desk g) → (x : g.row.S.Denot) × ◌≡◌ {A = Desk g.row.S.Denot} c.take-desk.result (Home x) × IsNow g.M.Meaning c.into_seat.result.me.0 c.into_seat.result.me.0.front (g.S.Machine.meaning x) × g.S.Machine.fits x
home g c =
    let v = c.into_seat.result.me.0 in
    let same : ◌≡◌ {A = View g.row.M.Denot} c.requires.pass.0 v = head_is c.requires.pass.0 v (sym c.requires.pass.1.views ∙ c.into_seat.ensures.2) in
    let p : IsPassWith g.S.Machine.meaning g.M.Meaning c.args.self c.args.pass v = subst (IsPassWith g.S.Machine.meaning g.M.Meaning c.args.self c.args.pass) same c.requires.pass.1 in
    let a = c.requires.all v p in
    ends g.S.Machine.meaning g.S.Machine.fits g.M.Meaning (g.S.Machine.meaning c.args.self.board.shared.key.state.value) c.args.self.board.shared.key.seats c.into_seat.result.id v p.live p.counts p.idle (p.numbered ∙ c.requires.first) a _ _ c.close_with-closed.ensures.values.2 c.take-desk.result
    c.take-desk.ensures.value

pub unreachable-requires : goal.unreachable-requires
unreachable-requires g c = let h = home g (goal.at.unreachable-requires g c).After-take-desk in c.in_default.not-Home h.0 h.1

pub returns-clause-whole : goal.returns-clause-whole
returns-clause-whole g c v p = let h = home g (goal.at.returns-clause-whole g c).After-take-desk in
    let same : ◌≡◌ {A = View g.row.M.Denot} v c.into_seat.result.me.0 = head_is v c.into_seat.result.me.0 (sym p.views ∙ c.into_seat.ensures.2) in
    let q : ◌≡◌ {A = Desk g.row.S.Denot} (Home h.0) (Home c.in-Home.state) = sym h.1 ∙ c.in-Home.is in
    let e : h.0 ≡ c.in-Home.state = cc in
    subst (λ (w : View g.row.M.Denot). IsNow g.M.Meaning w w.front (g.S.Machine.meaning c.in-Home.state)) (sym same) (subst (λ x. IsNow g.M.Meaning c.into_seat.result.me.0 c.into_seat.result.me.0.front (g.S.Machine.meaning x)) e h.2)

pub returns-clause-fits : goal.returns-clause-fits
returns-clause-fits g c = let h = home g (goal.at.returns-clause-fits g c).After-take-desk in
    let q : ◌≡◌ {A = Desk g.row.S.Denot} (Home h.0) (Home c.in-Home.state) = sym h.1 ∙ c.in-Home.is in
    let e : h.0 ≡ c.in-Home.state = cc in
    subst g.S.Machine.fits e h.3
