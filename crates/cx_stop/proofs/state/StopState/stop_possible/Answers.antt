use Rattle.std.proofs.Common.{◌≡◌, refl, subst}
use Rattle.cx_names.specs.declared.Reply.{Reply}
use Rattle.cx_names.specs.declared.Reply.TheVariants as replies
use Rattle.cx_machine.specs.declared.kind.Op.TheVariants as ops
use Rattle.cx_stop.specs.Stops.{stop_id, StopLooks}
use Rattle.cx_stop.specs.declared.pass.StopPass.{StopPass}
use Rattle.cx_stop.proofs.Passing.{looked, looks, look_left}
use Rattle.cx_stop.proofs.Asking.{always_stop_possible, truth_stop_possible, false_of}
use Rattle.cx_stop.proofs.state.StopState.stop_possible.Given.{Over}
use Rattle.cx_stop.proofs.state.StopState.stop_possible.Goals.{After-ask-reply}
use Rattle.cx_stop.proofs.state.StopState.stop_possible.Goals as goal

pub ask-reply-requires-clause-shown : goal.ask-reply-requires-clause-shown
ask-reply-requires-clause-shown g c = always_stop_possible

pub ask-reply-requires-clause-pass : goal.ask-reply-requires-clause-pass
ask-reply-requires-clause-pass g c = let p = c.requires in (p.0, p.1.pass)

-- the pass after the look
abbrev after : (g : Over) (c : After-ask-reply g) → StopPass
after g c = record { pass = c.ask-reply.new.pass; next_tag = c.args.pass.now.next_tag }

answers : (g : Over) (c : After-ask-reply g) (r : Reply) → c.ask-reply.result.0 ≡ r → StopLooks c.args.self.now c.args.pass.now (after g c) ops.StopPossible 0 r c.ask-reply.result.1
answers g c r e = subst (λ (x : Reply). StopLooks c.args.self.now c.args.pass.now (after g c) ops.StopPossible 0 x c.ask-reply.result.1) e (looks (stop_id c.args.self.now) c.args.pass.now c.ask-reply.new.pass ops.StopPossible 0 c.ask-reply.result.0 c.ask-reply.result.1 c.ask-reply.ensures)

-- the reply that isn't true is false
not_true : (g : Over) (c : After-ask-reply g) → (c.ask-reply.result.0 ≡ replies.True → ⊥) → c.ask-reply.result.0 ≡ replies.False
not_true g c other =
    let p = c.requires in
    let d = looked (stop_id c.args.self.now) c.args.pass.now c.ask-reply.new.pass ops.StopPossible 0 c.ask-reply.result.0 c.ask-reply.result.1 c.ask-reply.ensures p.0 p.1 in
    let t = truth_stop_possible d.2.now p.0.number c.ask-reply.result.1 c.ask-reply.result.0 d.2.shown in
    false_of t.0 c.ask-reply.result.0 t.1 other

pub returns-in-True-clause-idle : goal.returns-in-True-clause-idle
returns-in-True-clause-idle g c =
    let p = c.requires in
    let d = looked (stop_id c.args.self.now) c.args.pass.now c.ask-reply.new.pass ops.StopPossible 0 c.ask-reply.result.0 c.ask-reply.result.1 c.ask-reply.ensures p.0 p.1 in
    (d.0, d.1)

pub returns-in-True-clause-same : goal.returns-in-True-clause-same
returns-in-True-clause-same g c = let p = c.requires in (look_left (stop_id c.args.self.now) c.args.pass.now c.ask-reply.new.pass ops.StopPossible 0 c.ask-reply.result.0 c.ask-reply.result.1 c.ask-reply.ensures p.0 p.1, refl)

pub returns-in-True-clause-seen : goal.returns-in-True-clause-seen
returns-in-True-clause-seen g c = let a = (goal.at.returns-in-True-clause-seen g c).After-ask-reply in answers g a replies.True c.in-True.is

pub returns-in_default-clause-idle : goal.returns-in_default-clause-idle
returns-in_default-clause-idle g c =
    let p = c.requires in
    let d = looked (stop_id c.args.self.now) c.args.pass.now c.ask-reply.new.pass ops.StopPossible 0 c.ask-reply.result.0 c.ask-reply.result.1 c.ask-reply.ensures p.0 p.1 in
    (d.0, d.1)

pub returns-in_default-clause-same : goal.returns-in_default-clause-same
returns-in_default-clause-same g c = let p = c.requires in (look_left (stop_id c.args.self.now) c.args.pass.now c.ask-reply.new.pass ops.StopPossible 0 c.ask-reply.result.0 c.ask-reply.result.1 c.ask-reply.ensures p.0 p.1, refl)

pub returns-in_default-clause-seen : goal.returns-in_default-clause-seen
returns-in_default-clause-seen g c = let a = (goal.at.returns-in_default-clause-seen g c).After-ask-reply in answers g a replies.False (not_true g a c.in_default.not-True)
