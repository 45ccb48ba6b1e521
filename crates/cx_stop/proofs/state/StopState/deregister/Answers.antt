use Rattle.std.proofs.Common.{◌<◌, ◌^◌, ◌++◌, List, sym, subst, ℕ, arith, rules, Some, IsTrue}
use Rattle.cx_names.specs.declared.Reply.{Reply}
use Rattle.cx_machine.specs.declared.kind.Op.TheVariants as ops
use Rattle.cx_machine.specs.Stop.{Stop}
use Rattle.cx_turn.specs.declared.view.View.{View}
use Rattle.cx_machine.specs.Words.{has}
use Rattle.cx_turn.specs.Views.{Has, both_of}
use Rattle.cx_stop.specs.Acts.{act}
use Rattle.cx_stop.specs.Stops.{stop_id}
use Rattle.cx_stop.specs.Went.{Did}
use Rattle.cx_stop.proofs.Passing.{of_view, same_left}
use Rattle.cx_stop.proofs.Removing.{last_has, deregistered}
use Rattle.cx_stop.proofs.state.StopState.deregister.Goals as goal

pub take_in-requires-clause-pass : goal.take_in-requires-clause-pass
take_in-requires-clause-pass g c = let p = c.requires.pass in (p.0, p.1.pass)

pub take_in-requires-clause-note : goal.take_in-requires-clause-note
take_in-requires-clause-note g c = let x = c.requires.callback in (x.0, x.1.note)

pub take_back-requires-clause-pass : goal.take_back-requires-clause-pass
take_back-requires-clause-pass g c = let p = c.requires.pass in let x = c.requires.callback in (both_of p.0 x.0, c.take_in.ensures p.0 x.0 p.1.pass x.1.note)

pub take_back-requires-clause-left : goal.take_back-requires-clause-left
take_back-requires-clause-left g c =
    let p = c.requires.pass in let x = c.requires.callback in
    let b = c.take_in.ensures p.0 x.0 p.1.pass x.1.note in
    let m = b.counted.may in let one = x.1.call in omega (arith, m, one)

pub take_back-requires-clause-holds : goal.take_back-requires-clause-holds
take_back-requires-clause-holds g c v is =
    let p = c.requires.pass in let x = c.requires.callback in
    let b = c.take_in.ensures p.0 x.0 p.1.pass x.1.note in
    let has_it = subst (λ (l : List ℕ). IsTrue (has (p.0.holds ++ l) c.args.cb.id)) (sym x.1.id) (last_has p.0.holds c.args.cb.id) in
    of_view (stop_id c.args.self.now) (λ (z : View Stop). Has z.holds (Some c.args.cb.id)) c.take_in.new.pass (both_of p.0 x.0) v b is has_it

pub outcome-requires : goal.outcome-requires
outcome-requires g c = (c.args.cb.id, c.take_back.ensures.value)

pub returns-clause-idle : goal.returns-clause-idle
returns-clause-idle g c =
    let p = c.requires.pass in let x = c.requires.callback in
    let low : c.args.cb.id < 2 ^ 32 = search rules in
    let d = deregistered (stop_id c.args.self.now) c.args.pass.now c.take_in.new.pass c.take_back.new.pass p.0 x.0 c.args.cb p.1 x.1 (c.take_in.ensures p.0 x.0 p.1.pass x.1.note) c.take_back.result.reply c.take_back.result.at low c.take_back.ensures.back in
    (d.0, d.1)

pub returns-clause-left : goal.returns-clause-left
returns-clause-left g c =
    let p = c.requires.pass in let x = c.requires.callback in
    let low : c.args.cb.id < 2 ^ 32 = search rules in
    let d = deregistered (stop_id c.args.self.now) c.args.pass.now c.take_in.new.pass c.take_back.new.pass p.0 x.0 c.args.cb p.1 x.1 (c.take_in.ensures p.0 x.0 p.1.pass x.1.note) c.take_back.result.reply c.take_back.result.at low c.take_back.ensures.back in
    same_left (stop_id c.args.self.now) c.args.pass.now.pass c.take_back.new.pass p.0 d.0 p.1.pass d.1.pass d.3

pub returns-clause-did : goal.returns-clause-did
returns-clause-did g c v is =
    let x = c.requires.callback in
    let low : c.args.cb.id < 2 ^ 32 = search rules in
    let d = deregistered (stop_id c.args.self.now) c.args.pass.now c.take_in.new.pass c.take_back.new.pass v x.0 c.args.cb is x.1 (c.take_in.ensures v x.0 is.pass x.1.note) c.take_back.result.reply c.take_back.result.at low c.take_back.ensures.back in
    let o = c.outcome.ensures.came in
    (d.0, d.1, subst (λ (y : Reply × ℕ). Did v d.0 (act v.number ops.Deregister c.args.cb.id y.0) y.1) (λ i. (sym o.0 i, sym o.1 i)) d.2)

pub returns-clause-value : goal.returns-clause-value
returns-clause-value g c = c.outcome.ensures.value c.args.cb.id c.take_back.ensures.value
