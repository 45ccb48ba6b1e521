use Rattle.std.proofs.Common.{refl}
use Rattle.cx_names.specs.declared.Reply.TheVariants as replies
use Rattle.cx_machine.specs.declared.kind.Op.TheVariants as ops
use Rattle.cx_stop.specs.Acts.{IsRunning}
use Rattle.cx_stop.specs.Stops.{stop_id}
use Rattle.cx_stop.proofs.Others.{running_found}
use Rattle.cx_stop.proofs.Open.{open_finish}
use Rattle.cx_stop.proofs.Going.{finish_free}
use Rattle.cx_stop.proofs.Passing.{made, makes, of_view, same_left}
use Rattle.cx_stop.proofs.state.StopState.finish.Goals as goal

pub make-requires-clause-pass : goal.make-requires-clause-pass
make-requires-clause-pass g c = let p = c.requires.pass in (p.0, p.1.pass)

pub make-requires-clause-open : goal.make-requires-clause-open
make-requires-clause-open g c x ix f now fnd =
    let p = c.requires.pass in let id = c.args.id in
    let runs : IsRunning id x = of_view (stop_id c.args.self.now) (IsRunning id) c.args.pass.now.pass p.0 x p.1.pass ix (c.requires.running p.0 p.1) in
    open_finish x f now id c.ranges.id.fits fnd (running_found x id f ix.known.legal.0 now (ix.known.own ix.counts) ix.known.legal.1 runs fnd)

pub returns-clause-idle : goal.returns-clause-idle
returns-clause-idle g c = let p = c.requires.pass in let d = made (stop_id c.args.self.now) c.args.pass.now c.make.new.pass ops.Finish c.args.id replies.Ok c.make.result refl c.make.ensures p.0 p.1 in (d.0, d.1)

pub returns-clause-left : goal.returns-clause-left
returns-clause-left g c =
    let p = c.requires.pass in
    let d = made (stop_id c.args.self.now) c.args.pass.now c.make.new.pass ops.Finish c.args.id replies.Ok c.make.result refl c.make.ensures p.0 p.1 in
    same_left (stop_id c.args.self.now) c.args.pass.now.pass c.make.new.pass p.0 d.0 p.1.pass d.1.pass (finish_free p.0 d.0 c.args.id c.make.result c.ranges.id.fits d.2)

pub returns-clause-made : goal.returns-clause-made
returns-clause-made g c = makes (stop_id c.args.self.now) c.args.pass.now c.make.new.pass ops.Finish c.args.id replies.Ok c.make.result refl c.make.ensures
