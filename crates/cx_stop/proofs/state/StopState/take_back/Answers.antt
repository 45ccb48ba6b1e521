use Rattle.std.proofs.Common.{◌≡◌, ◌∙◌, sym, ap, subst, ℕ, arith, Some}
use Rattle.cx_machine.specs.declared.kind.Op.TheVariants as ops
use Rattle.cx_machine.specs.Stop.{Stop}
use Rattle.cx_turn.specs.declared.view.View.{View}
use Rattle.cx_turn.specs.Views.{Has}
use Rattle.cx_turn.proofs.Moves.{sees_self}
use Rattle.cx_turn.proofs.Histories.{head_is}
use Rattle.cx_stop.specs.Acts.{act, Changed}
use Rattle.cx_stop.proofs.Removing.{sees_more, changed_on}
use Rattle.cx_stop.proofs.state.StopState.take_back.Goals as goal

pub loop-init : goal.loop-init
loop-init g c = (tt, tt, λ v is. (v, is, sees_self v))

pub try_back-requires-clause-pass : goal.try_back-requires-clause-pass
try_back-requires-clause-pass g c = let p = c.requires.pass in let t = c.loop.invariant.2 p.0 p.1 in (t.0, t.1)

pub try_back-requires-clause-left : goal.try_back-requires-clause-left
try_back-requires-clause-left g c =
    let p = c.requires.pass in let t = c.loop.invariant.2 p.0 p.1 in
    let a = p.1.counted.may in let b = t.1.counted.may in
    let s = ap (λ (z : View Stop). z.left) t.2.same in
    let l = c.requires.left in
    omega (arith, a, b, s, l)

pub try_back-requires-clause-holds : goal.try_back-requires-clause-holds
try_back-requires-clause-holds g c x ix =
    let p = c.requires.pass in let t = c.loop.invariant.2 p.0 p.1 in
    let same : ◌≡◌ {A = View Stop} t.0 x = head_is t.0 x (sym t.1.views ∙ ix.views) in
    subst (λ (z : View Stop). Has z.holds (Some c.args.id)) (sym t.2.same ∙ same) (c.requires.holds p.0 p.1)

pub returns-in-Ok-clause-back : goal.returns-in-Ok-clause-back
returns-in-Ok-clause-back g c v is =
    let t = c.loop.invariant.2 v is in
    let b = c.in-Ok.back in
    let q = c.in-Ok.ensures.back t.0 t.1 in
    let number : t.0.number ≡ v.number = ap (λ (z : View Stop). z.number) t.2.same in
    let d : Changed t.0 q.0 (act v.number ops.Deregister c.args.id b.reply) b.at = subst (λ (n : ℕ). Changed t.0 q.0 (act n ops.Deregister c.args.id b.reply) b.at) number q.2 in
    (q.0, q.1, changed_on v t.0 q.0 (act v.number ops.Deregister c.args.id b.reply) b.at t.2 d)

pub loop-preserved : goal.loop-preserved
loop-preserved g c = (
  tt,
  tt,
  λ v is.
      let t = c.loop.invariant.2 v is in
      let q = c.in-Err.ensures.none t.0 t.1 in
      (q.0, c.rest.ensures q.0 q.1, sees_more v t.0 q.0 t.2 q.2),
)
