use Rattle.std.proofs.Common.{◌∙◌, refl, ap}
use Rattle.cx_names.specs.declared.Reply.TheVariants as replies
use Rattle.cx_machine.specs.declared.kind.Op.TheVariants as ops
use Rattle.cx_machine.specs.Stop.{Stop}
use Rattle.cx_turn.specs.declared.view.View.{View}
use Rattle.cx_stop.specs.Acts.{IsRunning}
use Rattle.cx_stop.specs.Stops.{stop_id}
use Rattle.cx_stop.proofs.Others.{running_found}
use Rattle.cx_stop.proofs.Open.{open_finish}
use Rattle.cx_stop.proofs.Going.{running_later, finishes_of, finish_free, one_runs}
use Rattle.cx_stop.proofs.Passing.{made, of_view, same_left}
use Rattle.cx_stop.proofs.state.StopState.run_one.Goals as goal

pub make-finish-requires-clause-pass : goal.make-finish-requires-clause-pass
make-finish-requires-clause-pass g c = let p = c.requires.pass in let r = c.run.ensures.at (stop_id c.args.self.now) p.0 p.1 p.2 p.3 in (r.0, r.1.pass)

pub make-finish-requires-clause-open : goal.make-finish-requires-clause-open
make-finish-requires-clause-open g c x ix f now fnd =
    let p = c.requires.pass in
    let r = c.run.ensures.at (stop_id c.args.self.now) p.0 p.1 p.2 p.3 in
    let id = c.args.begun.id in
    let l = r.2 in
    let k = p.2.pass.known in
    let runs : IsRunning id r.0 = running_later p.1 r.0 id l.went.later (ap (λ (z : View Stop). z.start) l.went.same) (ap (λ (z : View Stop). z.number) l.went.same) l.only k.legal.0 k.legal.1 p.3.running in
    let runs' : IsRunning id x = of_view (stop_id c.args.self.now) (IsRunning id) c.run.new.at.pass r.0 x r.1.pass ix runs in
    open_finish x f now id c.requires.low fnd (running_found x id f ix.known.legal.0 now (ix.known.own ix.counts) ix.known.legal.1 runs' fnd)

pub returns-clause-left : goal.returns-clause-left
returns-clause-left g c =
    let p = c.requires.pass in
    let r = c.run.ensures.at (stop_id c.args.self.now) p.0 p.1 p.2 p.3 in
    let q = c.make-finish.ensures r.0 r.1.pass in
    same_left (stop_id c.args.self.now) c.args.pass.now.pass c.make-finish.new.pass p.1 q.0 p.2.pass q.1 (finish_free r.0 q.0 c.args.begun.id c.make-finish.result c.requires.low q.2 ∙ r.2.left)

pub returns-clause-pass : goal.returns-clause-pass
returns-clause-pass g c u v paid is b spent =
    let id = c.args.begun.id in let low = c.requires.low in
    let r = c.run.ensures.at (stop_id c.args.self.now) u v is b in
    let x = r.0 in
    let n = c.make-finish.result in
    let d = made (stop_id c.args.self.now) c.run.new.at c.make-finish.new.pass ops.Finish id replies.Ok n refl c.make-finish.ensures x r.1 in
    let w = d.0 in
    let f = finishes_of x w id n low d.2 in (
      w,
      d.1,
      one_runs u v x w id c.args.begun.at n paid low (is.pass.known.own is.pass.counts) (r.1.pass.known.own r.1.pass.counts) (d.1.pass.known.own d.1.pass.counts) spent b r.2 f,
      g.met.U.Runs.since_on c.args.runner.now c.run.new.self c.finished.new.self u x w r.3 (c.finished.ensures.since x w f),
    )
