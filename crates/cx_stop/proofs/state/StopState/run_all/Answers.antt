use Rattle.std.proofs.Common.{◌≡◌, ◌∙◌, ◌<◌, ◌+◌, ◌^◌, ◌++◌, [], ◌∷◌, refl, sym, ap, subst, ℕ, arith, rules, inl}
use Rattle.cx_names.specs.declared.Reply.TheVariants as replies
use Rattle.cx_machine.specs.declared.kind.Op.TheVariants as ops
use Rattle.cx_machine.specs.Stop.{Stop}
use Rattle.cx_turn.specs.declared.view.View.{View}
use Rattle.cx_turn.specs.Acts.{Looks}
use Rattle.cx_stop.specs.Kinds.{stopping}
use Rattle.cx_stop.specs.Acts.{seen_at, IsRequester}
use Rattle.cx_stop.specs.Stops.{stop_id, IsStopPassWith}
use Rattle.cx_stop.specs.Runs.{Begins, RunsOn}
use Rattle.cx_stop.proofs.Going.{requester_later, runs_none, runs_compose, tells_none, tells_on, went_none}
use Rattle.cx_stop.proofs.Passing.{of_view}
use Rattle.cx_stop.proofs.state.StopState.run_all.Goals as goal

pub loop-init : goal.loop-init
loop-init g c = (tt, tt, refl, refl, λ i n s. s, c.requires.requester, λ v is. (v, [], is, runs_none v, g.met.U.Runs.since_self c.args.runner.now v v (went_none v), tells_none (g.U.Runs.ran c.args.runner.now)))

pub begin_next-requires-clause-pass : goal.begin_next-requires-clause-pass
begin_next-requires-clause-pass g c = let p = c.requires.pass in let t = c.loop.invariant.6 p.0 p.1 in (t.0, t.2)

pub begin_next-requires-clause-requester : goal.begin_next-requires-clause-requester
begin_next-requires-clause-requester g c = c.loop.invariant.5

pub run_one-requires-clause-pass : goal.run_one-requires-clause-pass
run_one-requires-clause-pass g c =
    let p = c.requires.pass in
    let t = c.loop.invariant.6 p.0 p.1 in
    let x = t.0 in
    let q = c.in-Ok.ensures.begun x t.2 in
    let b : Begins x q.0 c.in-Ok.begun.id c.in-Ok.begun.at = record { made = inl q.2; own = t.2.pass.known.own t.2.pass.counts; running = c.in-Ok.ensures.running q.0 q.1 } in
    let number : p.0.number ≡ q.0.number = sym (ap (λ (z : View Stop). z.number) q.2.view ∙ ap (λ (z : View Stop). z.number) t.3.went.same) in
    (x, q.0, q.1, b, subst (λ (n : ℕ). g.U.Runs.serves c.loop.runner (stop_id c.args.self.now) n) number (c.loop.invariant.4 (stop_id c.args.self.now) p.0.number p.2))

pub run_one-requires-clause-low : goal.run_one-requires-clause-low
run_one-requires-clause-low g c = let low : c.in-Ok.begun.id < 2 ^ 32 = search rules in low

pub run_one-requires-clause-suits : goal.run_one-requires-clause-suits
run_one-requires-clause-suits g c = c.in-Ok.ensures.value

pub loop-preserved : goal.loop-preserved
loop-preserved g c =
    let at : (v : View Stop) → IsStopPassWith c.args.self.now c.args.pass.now v → (x w : View Stop) × IsStopPassWith c.args.self.now c.loop.pass x × IsStopPassWith c.args.self.now c.run_one.new.pass w × RunsOn x w 0 ((c.in-Ok.begun.id, c.in-Ok.begun.at) ∷ ((c.in-Ok.begun.id, c.run_one.result) ∷ [])) × g.U.Runs.since c.loop.runner x c.run_one.new.runner w = λ v is.
    let t = c.loop.invariant.6 v is in
    let x = t.0 in
    let q = c.in-Ok.ensures.begun x t.2 in
    let b : Begins x q.0 c.in-Ok.begun.id c.in-Ok.begun.at = record { made = inl q.2; own = t.2.pass.known.own t.2.pass.counts; running = c.in-Ok.ensures.running q.0 q.1 } in
    let spent : q.0.left + 0 ≡ x.left = (let l = c.begin_next.ensures.left in let m = q.1.pass.counted.may in let k = t.2.pass.counted.may in omega (arith, l, m, k)) in
    let d = c.run_one.ensures.pass x q.0 0 q.1 b spent in
    (x, d.0, t.2, d.1, d.2, d.3) in (
      tt,
      tt,
      c.run_one.ensures.tag ∙ (c.begin_next.ensures.tag ∙ c.loop.invariant.2),
      c.run_one.ensures.left ∙ (c.begin_next.ensures.left ∙ c.loop.invariant.3),
      λ i n s. c.run_one.ensures.serves i n (c.loop.invariant.4 i n s),
      λ y iy.
          let p = c.requires.pass in let d = at p.0 p.1 in
          let k = d.2.pass.known.legal in
          let on = d.4 in
          of_view (stop_id c.args.self.now) IsRequester c.run_one.new.pass.pass d.1 y d.3.pass iy.pass (requester_later d.0 d.1 on.went.later (ap (λ (z : View Stop). z.start) on.went.same) (ap (λ (z : View Stop). z.number) on.went.same) k.0 k.1 (c.loop.invariant.5 d.0 d.2)),
      λ v is.
          let t = c.loop.invariant.6 v is in
          let d = at v is in
          let acts = (c.in-Ok.begun.id, c.in-Ok.begun.at) ∷ ((c.in-Ok.begun.id, c.run_one.result) ∷ []) in (
            d.1,
            t.1 ++ acts,
            d.3,
            runs_compose v t.0 d.1 t.1 acts t.3 d.4,
            g.met.U.Runs.since_on c.args.runner.now c.loop.runner c.run_one.new.runner v t.0 d.1 t.4 d.5,
            tells_on (g.U.Runs.ran c.args.runner.now) (g.U.Runs.ran c.loop.runner) (g.U.Runs.ran c.run_one.new.runner) t.1 acts t.5 c.run_one.ensures.ran,
          ),
    )

pub returns-in-Err-clause-left : goal.returns-in-Err-clause-left
returns-in-Err-clause-left g c = c.begin_next.ensures.left ∙ c.loop.invariant.3

pub returns-in-Err-clause-pass : goal.returns-in-Err-clause-pass
returns-in-Err-clause-pass g c v is =
    let t = c.loop.invariant.6 v is in
    let x = t.0 in
    let q = c.in-Err.ensures.drained x t.2 in
    let number : x.number ≡ v.number = ap (λ (z : View Stop). z.number) t.3.went.same in
    (x, q.0, t.1, q.1, t.3, t.4, t.5, subst (λ (n : ℕ). Looks stopping x q.0 (seen_at n ops.Drained 0 replies.Ok c.in-Err.at)) number q.2)
