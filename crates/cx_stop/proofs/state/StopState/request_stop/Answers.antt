use Rattle.std.proofs.Common.{◌≡◌, ◌∙◌, ◌+◌, refl, sym, ap, subst, ℕ, arith}
use Rattle.cx_names.specs.declared.Reply.TheVariants as replies
use Rattle.cx_machine.specs.declared.kind.Op.TheVariants as ops
use Rattle.cx_machine.specs.Stop.{Stop}
use Rattle.cx_turn.specs.declared.view.View.{View}
use Rattle.cx_turn.specs.Acts.{Looks}
use Rattle.cx_stop.specs.Kinds.{stopping}
use Rattle.cx_stop.specs.Acts.{seen_at}
use Rattle.cx_stop.specs.Stops.{stop_id}
use Rattle.cx_stop.proofs.state.StopState.request_stop.Goals as goal

pub request_only-requires-clause-pass : goal.request_only-requires-clause-pass
request_only-requires-clause-pass g c = let p = c.requires.pass in (p.0, p.1)

pub run_all-requires-clause-pass : goal.run_all-requires-clause-pass
run_all-requires-clause-pass g c =
    let p = c.requires.pass in
    let q = c.in-Ok.ensures.made p.0 p.1 in
    let number : p.0.number ≡ q.0.number = sym (ap (λ (z : View Stop). z.number) q.2.view) in
    (q.0, q.1, subst (λ (n : ℕ). g.U.Runs.serves c.args.runner.now (stop_id c.args.self.now) n) number p.2)

pub run_all-requires-clause-requester : goal.run_all-requires-clause-requester
run_all-requires-clause-requester g c = c.in-Ok.ensures.requester

pub returns-in-Ok-clause-idle : goal.returns-in-Ok-clause-idle
returns-in-Ok-clause-idle g c =
    let p = c.requires.pass in
    let q = c.in-Ok.ensures.made p.0 p.1 in
    let t = c.run_all.ensures.pass q.0 q.1 in
    (t.1, t.3)

pub returns-in-Ok-clause-left : goal.returns-in-Ok-clause-left
returns-in-Ok-clause-left g c = ap (λ (n : ℕ). n + 1) c.run_all.ensures.left ∙ c.in-Ok.ensures.left

pub returns-in-Ok-clause-requested : goal.returns-in-Ok-clause-requested
returns-in-Ok-clause-requested g c v is =
    let q = c.in-Ok.ensures.made v is in
    let number : q.0.number ≡ v.number = ap (λ (z : View Stop). z.number) q.2.view in
    let t = c.run_all.ensures.pass q.0 q.1 in
    (t.1, t.3, (q.0, t.0, t.2, q.2, t.4, t.6, t.5, subst (λ (n : ℕ). Looks stopping t.0 t.1 (seen_at n ops.Drained 0 replies.Ok c.run_all.result)) number t.7))

pub returns-in-Err-clause-left : goal.returns-in-Err-clause-left
returns-in-Err-clause-left g c = let u = c.in-Err.ensures.unspent in omega (arith, u)

pub returns-in-Err-clause-requested : goal.returns-in-Err-clause-requested
returns-in-Err-clause-requested g c v is = let q = c.in-Err.ensures.already v is in (q.0, q.1, (q.2, refl))
