use Rattle.std.proofs.Common.{◌<◌, ◌^◌, refl, ap, rules}
use Rattle.cx_names.specs.declared.Reply.TheVariants as replies
use Rattle.cx_machine.specs.declared.kind.Op.TheVariants as ops
use Rattle.cx_machine.specs.Stop.{Stop}
use Rattle.cx_turn.specs.declared.view.View.{View}
use Rattle.cx_stop.specs.Acts.{IsRequester, IsRunning}
use Rattle.cx_stop.specs.Stops.{stop_id}
use Rattle.cx_stop.proofs.Going.{begin_free, begun_runs, requester_later}
use Rattle.cx_stop.proofs.Passing.{made, makes, looked, looks, look_left, of_view, same_left}
use Rattle.cx_turn.proofs.Moves.{stands_at}
use Rattle.cx_stop.specs.Kinds.{stopping}
use Rattle.cx_stop.specs.Acts.{act}
use Rattle.cx_stop.proofs.Going.{makes_of}
use Rattle.cx_stop.proofs.state.StopState.begin_next.Goals as goal

pub begin_first-requires-clause-pass : goal.begin_first-requires-clause-pass
begin_first-requires-clause-pass g c = let p = c.requires.pass in (p.0, p.1.pass)

pub begin_first-requires-clause-requester : goal.begin_first-requires-clause-requester
begin_first-requires-clause-requester g c y iy = let p = c.requires.pass in of_view (stop_id c.args.self.now) IsRequester c.args.pass.now.pass p.0 y p.1.pass iy (c.requires.requester p.0 p.1)

pub returns-in-Ok-clause-idle : goal.returns-in-Ok-clause-idle
returns-in-Ok-clause-idle g c = let p = c.requires.pass in let d = made (stop_id c.args.self.now) c.args.pass.now c.begin_first.new.pass ops.Begin c.in-Ok.begun.id replies.Ok c.in-Ok.begun.at refl c.in-Ok.ensures.begun p.0 p.1 in (d.0, d.1)

pub returns-in-Ok-clause-left : goal.returns-in-Ok-clause-left
returns-in-Ok-clause-left g c =
    let p = c.requires.pass in
    let d = made (stop_id c.args.self.now) c.args.pass.now c.begin_first.new.pass ops.Begin c.in-Ok.begun.id replies.Ok c.in-Ok.begun.at refl c.in-Ok.ensures.begun p.0 p.1 in
    let low : c.in-Ok.begun.id < 2 ^ 32 = search rules in
    same_left (stop_id c.args.self.now) c.args.pass.now.pass c.begin_first.new.pass p.0 d.0 p.1.pass d.1.pass (begin_free p.0 d.0 c.in-Ok.begun.id c.in-Ok.begun.at low d.2)

pub returns-in-Ok-clause-begun : goal.returns-in-Ok-clause-begun
returns-in-Ok-clause-begun g c = makes (stop_id c.args.self.now) c.args.pass.now c.begin_first.new.pass ops.Begin c.in-Ok.begun.id replies.Ok c.in-Ok.begun.at refl c.in-Ok.ensures.begun

pub returns-in-Ok-clause-requester : goal.returns-in-Ok-clause-requester
returns-in-Ok-clause-requester g c x ix =
    let p = c.requires.pass in
    let d = made (stop_id c.args.self.now) c.args.pass.now c.begin_first.new.pass ops.Begin c.in-Ok.begun.id replies.Ok c.in-Ok.begun.at refl c.in-Ok.ensures.begun p.0 p.1 in
    let e = act p.0.number ops.Begin c.in-Ok.begun.id replies.Ok in
    let later = (stands_at stopping p.0 d.0 e c.in-Ok.begun.at (makes_of p.0 d.0 e c.in-Ok.begun.at d.2)).0 in
    let k = p.1.pass.known.legal in
    of_view (stop_id c.args.self.now) IsRequester c.begin_first.new.pass d.0 x d.1.pass ix.pass (requester_later p.0 d.0 later (ap (λ (z : View Stop). z.start) d.2.view) (ap (λ (z : View Stop). z.number) d.2.view) k.0 k.1 (c.requires.requester p.0 p.1))

pub returns-in-Ok-clause-running : goal.returns-in-Ok-clause-running
returns-in-Ok-clause-running g c x ix =
    let p = c.requires.pass in
    let d = made (stop_id c.args.self.now) c.args.pass.now c.begin_first.new.pass ops.Begin c.in-Ok.begun.id replies.Ok c.in-Ok.begun.at refl c.in-Ok.ensures.begun p.0 p.1 in
    let low : c.in-Ok.begun.id < 2 ^ 32 = search rules in
    of_view (stop_id c.args.self.now) (IsRunning c.in-Ok.begun.id) c.begin_first.new.pass d.0 x d.1.pass ix.pass (begun_runs p.0 d.0 c.in-Ok.begun.id c.in-Ok.begun.at low d.2)

pub returns-in-Ok-clause-value : goal.returns-in-Ok-clause-value
returns-in-Ok-clause-value g c = c.in-Ok.ensures.value

pub returns-in-Err-clause-idle : goal.returns-in-Err-clause-idle
returns-in-Err-clause-idle g c = let p = c.requires.pass in let d = looked (stop_id c.args.self.now) c.args.pass.now c.begin_first.new.pass ops.Drained 0 replies.Ok c.in-Err.at c.in-Err.ensures.drained p.0 p.1 in (d.0, d.1)

pub returns-in-Err-clause-left : goal.returns-in-Err-clause-left
returns-in-Err-clause-left g c = let p = c.requires.pass in look_left (stop_id c.args.self.now) c.args.pass.now c.begin_first.new.pass ops.Drained 0 replies.Ok c.in-Err.at c.in-Err.ensures.drained p.0 p.1

pub returns-in-Err-clause-requester : goal.returns-in-Err-clause-requester
returns-in-Err-clause-requester g c x ix =
    let p = c.requires.pass in
    let d = looked (stop_id c.args.self.now) c.args.pass.now c.begin_first.new.pass ops.Drained 0 replies.Ok c.in-Err.at c.in-Err.ensures.drained p.0 p.1 in
    let k = p.1.pass.known.legal in
    of_view (stop_id c.args.self.now) IsRequester c.begin_first.new.pass d.0 x d.1.pass ix.pass (requester_later p.0 d.0 d.2.at_.later (ap (λ (z : View Stop). z.start) d.2.view) (ap (λ (z : View Stop). z.number) d.2.view) k.0 k.1 (c.requires.requester p.0 p.1))

pub returns-in-Err-clause-drained : goal.returns-in-Err-clause-drained
returns-in-Err-clause-drained g c = looks (stop_id c.args.self.now) c.args.pass.now c.begin_first.new.pass ops.Drained 0 replies.Ok c.in-Err.at c.in-Err.ensures.drained
