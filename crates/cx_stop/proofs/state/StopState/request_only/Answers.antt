use Rattle.std.proofs.Common.{◌≤◌, refl, arith}
use Rattle.cx_names.specs.declared.Reply.TheVariants as replies
use Rattle.cx_machine.specs.declared.kind.Op.TheVariants as ops
use Rattle.cx_stop.specs.Acts.{IsRequester}
use Rattle.cx_stop.specs.Stops.{stop_id}
use Rattle.cx_stop.proofs.Going.{request_is, request_left}
use Rattle.cx_stop.proofs.Passing.{made, makes, looked, looks, look_left, of_view, left_is}
use Rattle.cx_stop.proofs.state.StopState.request_only.Goals as goal

pub request-requires-clause-pass : goal.request-requires-clause-pass
request-requires-clause-pass g c = let p = c.requires.pass in (p.0, p.1.pass)

pub returns-in-Ok-clause-idle : goal.returns-in-Ok-clause-idle
returns-in-Ok-clause-idle g c = let p = c.requires.pass in let d = made (stop_id c.args.self.now) c.args.pass.now c.request.new.pass ops.Request 0 replies.Ok c.in-Ok.at refl c.in-Ok.ensures.made p.0 p.1 in (d.0, d.1)

pub returns-in-Ok-clause-left : goal.returns-in-Ok-clause-left
returns-in-Ok-clause-left g c =
    let p = c.requires.pass in
    let d = made (stop_id c.args.self.now) c.args.pass.now c.request.new.pass ops.Request 0 replies.Ok c.in-Ok.at refl c.in-Ok.ensures.made p.0 p.1 in
    let may : 1 ≤ p.0.left = (let x = p.1.pass.counted.may in let l = c.requires.left in omega (arith, x, l)) in
    left_is (stop_id c.args.self.now) 1 c.args.pass.now.pass c.request.new.pass p.0 d.0 p.1.pass d.1.pass (request_left p.0 d.0 c.in-Ok.at may d.2)

pub returns-in-Ok-clause-made : goal.returns-in-Ok-clause-made
returns-in-Ok-clause-made g c = makes (stop_id c.args.self.now) c.args.pass.now c.request.new.pass ops.Request 0 replies.Ok c.in-Ok.at refl c.in-Ok.ensures.made

pub returns-in-Ok-clause-requester : goal.returns-in-Ok-clause-requester
returns-in-Ok-clause-requester g c x ix =
    let p = c.requires.pass in
    let d = made (stop_id c.args.self.now) c.args.pass.now c.request.new.pass ops.Request 0 replies.Ok c.in-Ok.at refl c.in-Ok.ensures.made p.0 p.1 in
    of_view (stop_id c.args.self.now) IsRequester c.request.new.pass d.0 x d.1.pass ix.pass (request_is p.0 d.0 c.in-Ok.at d.2)

pub returns-in-Err-clause-idle : goal.returns-in-Err-clause-idle
returns-in-Err-clause-idle g c = let p = c.requires.pass in let d = looked (stop_id c.args.self.now) c.args.pass.now c.request.new.pass ops.Already 0 replies.Ok c.in-Err.at c.in-Err.ensures.already p.0 p.1 in (d.0, d.1)

pub returns-in-Err-clause-unspent : goal.returns-in-Err-clause-unspent
returns-in-Err-clause-unspent g c = let p = c.requires.pass in look_left (stop_id c.args.self.now) c.args.pass.now c.request.new.pass ops.Already 0 replies.Ok c.in-Err.at c.in-Err.ensures.already p.0 p.1

pub returns-in-Err-clause-already : goal.returns-in-Err-clause-already
returns-in-Err-clause-already g c = looks (stop_id c.args.self.now) c.args.pass.now c.request.new.pass ops.Already 0 replies.Ok c.in-Err.at c.in-Err.ensures.already
