use Rattle.std.proofs.Common.{◌≡◌, ◌∙◌, sym, subst, Option}
use Rattle.cx_names.specs.declared.ThreadNo.{ThreadNo}
use Rattle.cx_machine.specs.declared.kind.Op.{Op}
use Rattle.cx_turn.specs.declared.view.View.{View}
use Rattle.cx_turn.proofs.Histories.{head_is}
use Rattle.cx_turn.specs.declared.either.Either.{Either}
use Rattle.cx_cell.specs.Cells.{IsCellPassWith}
use Rattle.cx_turn.specs.Acts.{Sees}
use Rattle.cx_cell.specs.Acts.{Attempts, Does, Denies, Pays}
use Rattle.cx_turn.proofs.Moves.{sees_self, finds_on}
use Rattle.cx_cell.proofs.Attempting.{does_on, pays_seen, if_some_map, same_pass}
use Rattle.cx_cell.proofs.cell.Cell.fulfil.Goals as goal

pub loop-init : goal.loop-init
loop-init g c = (tt, tt, λ v is. (v, is, sees_self v))

pub act-done-requires-clause-pass : goal.act-done-requires-clause-pass
act-done-requires-clause-pass g c = let p = c.requires.pass in let t = c.loop.invariant.2 p.0 p.1 in (t.0, t.1)

pub act-done-requires-clause-pays : goal.act-done-requires-clause-pays
act-done-requires-clause-pays g c =
    let m = g.S.Machine.meaning in let p = c.requires.pass in let w = c.args.wish.now in
    let t = c.loop.invariant.2 p.0 p.1 in
    let number : c.loop.pass.number ≡ c.args.pass.now.number = same_pass g.S.Machine.meaning g.M.Meaning c.args.self.now.turn c.args.pass.now c.loop.pass p.0 t.0 p.1 t.1 t.2 in
    if_some_map (λ (o : Op). (v : View g.row.M.Denot) → IsCellPassWith m g.M.Meaning c.args.self.now c.args.pass.now v → Pays g.M.Meaning c.args.pass.now.number o w.a w.b v)
    (λ (o : Op). (v : View g.row.M.Denot) → IsCellPassWith m g.M.Meaning c.args.self.now c.loop.pass v → Pays g.M.Meaning c.loop.pass.number o w.a w.b v)
    w.change
    (λ o pays u is.
    let same : ◌≡◌ {A = View g.row.M.Denot} t.0 u = head_is t.0 u (sym t.1.views ∙ is.views) in
    let sees : Sees p.0 u = subst (λ (x : View g.row.M.Denot). Sees p.0 x) same t.2 in
    subst (λ (n : ThreadNo). Pays g.M.Meaning n o w.a w.b u) (sym number) (pays_seen g.M.Meaning c.args.pass.now.number o w.a w.b p.0 u sees (pays p.0 p.1)))
    c.requires.pays

pub returns-in-Some-done : goal.returns-in-Some-done
returns-in-Some-done g c v is =
    let w = c.args.wish.now in
    let t = c.loop.invariant.2 v is in
    let q = c.act-done.ensures t.0 t.1 in
    let number : c.loop.pass.number ≡ c.args.pass.now.number = same_pass g.S.Machine.meaning g.M.Meaning c.args.self.now.turn c.args.pass.now c.loop.pass v t.0 is t.1 t.2 in
    let d : Does g.M.Meaning c.loop.pass.number w t.0 q.0 c.in-Some-done.done = subst (λ (o : Option Either). Attempts g.M.Meaning c.loop.pass.number w t.0 q.0 o) c.in-Some-done.is q.2 in
    let e : Does g.M.Meaning c.args.pass.now.number w t.0 q.0 c.in-Some-done.done = subst (λ (n : ThreadNo). Does g.M.Meaning n w t.0 q.0 c.in-Some-done.done) number d in
    (q.0, q.1, does_on g.M.Meaning c.args.pass.now.number w v t.0 q.0 c.in-Some-done.done t.2 e)

pub rest-tries-requires : goal.rest-tries-requires
rest-tries-requires g c = let p = c.requires.pass in let t = c.loop.invariant.2 p.0 p.1 in let q = c.act-done.ensures t.0 t.1 in (q.0, q.1)

pub loop-preserved : goal.loop-preserved
loop-preserved g c = (
  tt,
  tt,
  λ v is.
      let w = c.args.wish.now in
      let t = c.loop.invariant.2 v is in
      let q = c.act-done.ensures t.0 t.1 in
      let f = subst (λ (o : Option Either). Attempts g.M.Meaning c.loop.pass.number w t.0 q.0 o) c.in_default.is q.2 in
      (q.0, c.rest-tries.ensures q.0 q.1, finds_on g.M.Meaning (Denies g.M.Meaning c.loop.pass.number w) v t.0 q.0 t.2 f),
)
