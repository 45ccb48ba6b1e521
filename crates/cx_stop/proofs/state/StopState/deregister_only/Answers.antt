use Rattle.std.proofs.Common.{◌≤◌, refl, sym, subst, ℕ, arith, Some}
use Rattle.cx_names.specs.declared.Reply.{Reply}
use Rattle.cx_machine.specs.declared.kind.Op.TheVariants as ops
use Rattle.cx_machine.specs.Stop.{Stop}
use Rattle.cx_turn.specs.declared.view.View.{View}
use Rattle.cx_stop.specs.Stops.{stop_id, StopMakes}
use Rattle.cx_stop.specs.declared.pass.StopPass.{StopPass}
use Rattle.cx_stop.proofs.Passing.{made, makes, of_view, left_is}
use Rattle.cx_turn.specs.Views.{Has}
use Rattle.cx_stop.proofs.Removing.{back_left}
use Rattle.cx_stop.proofs.state.StopState.deregister_only.Goals as goal

pub take_back-requires-clause-pass : goal.take_back-requires-clause-pass
take_back-requires-clause-pass g c = let p = c.requires.pass in (p.0, p.1.pass)

pub take_back-requires-clause-holds : goal.take_back-requires-clause-holds
take_back-requires-clause-holds g c x ix = let p = c.requires.pass in of_view (stop_id c.args.self.now) (λ (z : View Stop). Has z.holds (Some c.args.id)) c.args.pass.now.pass p.0 x p.1.pass ix (c.requires.holds p.0 p.1)

pub outcome-requires : goal.outcome-requires
outcome-requires g c = (c.args.id, c.take_back.ensures.value)

pub returns-clause-idle : goal.returns-clause-idle
returns-clause-idle g c = let p = c.requires.pass in let d = made (stop_id c.args.self.now) c.args.pass.now c.take_back.new.pass ops.Deregister c.args.id c.take_back.result.reply c.take_back.result.at refl c.take_back.ensures.back p.0 p.1 in (d.0, d.1)

pub returns-clause-left : goal.returns-clause-left
returns-clause-left g c =
    let p = c.requires.pass in
    let d = made (stop_id c.args.self.now) c.args.pass.now c.take_back.new.pass ops.Deregister c.args.id c.take_back.result.reply c.take_back.result.at refl c.take_back.ensures.back p.0 p.1 in
    let may : 1 ≤ p.0.left = (let x = p.1.pass.counted.may in let l = c.requires.left in omega (arith, x, l)) in
    left_is (stop_id c.args.self.now) 1 c.args.pass.now.pass c.take_back.new.pass p.0 d.0 p.1.pass d.1.pass (back_left p.0 d.0 c.args.id c.take_back.result.at c.take_back.result.reply c.ranges.id.fits may d.2)

pub returns-clause-made : goal.returns-clause-made
returns-clause-made g c =
    let o = c.outcome.ensures.came in
    let q : StopPass = record { pass = c.take_back.new.pass; next_tag = c.args.pass.now.next_tag } in
    subst (λ (y : Reply × ℕ). StopMakes c.args.self.now c.args.pass.now q ops.Deregister c.args.id y.0 y.1) (λ i. (sym o.0 i, sym o.1 i)) (makes (stop_id c.args.self.now) c.args.pass.now c.take_back.new.pass ops.Deregister c.args.id c.take_back.result.reply c.take_back.result.at refl c.take_back.ensures.back)

pub returns-clause-value : goal.returns-clause-value
returns-clause-value g c = c.outcome.ensures.value c.args.id c.take_back.ensures.value
