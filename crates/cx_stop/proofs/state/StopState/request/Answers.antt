use Rattle.std.proofs.Common.{rules, ◌≡◌, ◌∙◌, length, refl, sym, ap, subst, pos, true}
use Rattle.cx_names.specs.declared.Reply.TheVariants as replies
use Rattle.cx_machine.specs.declared.kind.Op.TheVariants as ops
use Rattle.cx_machine.specs.declared.kind.Look.{Look}
use Rattle.cx_machine.specs.Meaning.{change, look_of}
use Rattle.cx_machine.specs.Stop.{Stop, is_requested}
use Rattle.cx_turn.specs.declared.view.View.{View}
use Rattle.cx_turn.specs.declared.pass.Pass.{Pass}
use Rattle.cx_stop.specs.Kinds.{means}
use Rattle.cx_stop.specs.Acts.{Changed, Looked, act, seen_at}
use Rattle.cx_stop.specs.Stops.{IsInnerWith}
use Rattle.cx_stop.proofs.Taking.{taker, changed, looked}
use Rattle.cx_stop.proofs.Open.{requested_else}
use Rattle.cx_stop.proofs.state.StopState.request.Given.{Over}
use Rattle.cx_stop.proofs.state.StopState.request.Goals.{After-leave, After-leave_with}
use Rattle.cx_stop.proofs.state.StopState.request.Goals as goal

pub look-at-requires-clause-shown : goal.look-at-requires-clause-shown
look-at-requires-clause-shown g c = (λ i. is_requested (means (sym c.state.ensures i))) ∙ requested_else (means c.state.result.now) c.number-by.result (c.in-None.ensures.none)

made_at : (g : Over) (c : After-leave_with g) (q : Pass Stop) → q ≡ c.leave_with.new.self.1.0 → (v : View Stop) → IsInnerWith c.args.self.now c.args.pass.now v
    → (w : View Stop) × IsInnerWith c.args.self.now q w × Changed v w (act v.number ops.Request 0 replies.Ok) c.leave_with.result
made_at g c q back v is =
    let k = c.take-held.ensures in let t = c.args.self.now.turn in let h = c.take-held.result in
    let m = c.make-made.ensures in let l = c.leave_with in
    let number = c.number-by.ensures ∙ taker t c.args.pass.now c.args.pass.now h h v is k.known k.held in
    let e = m.of.1 ∙ (c.entry.ensures ∙ (λ i. change (number i) ops.Request (pos 0) (pos 0) replies.Ok)) in
    let d = changed t c.args.pass.now l.new.self.1.0 h c.make-made.new.self v is k.known k.held c.make-made.result l.result (act v.number ops.Request 0 replies.Ok) h.state.at.value.state.state.once m.of.0 e m.made l.ensures.left (ap (λ x. x.now) m.same.0.top ∙ k.top) m.same.1 l.ensures.position in (
      d.0,
      subst (λ (x : Pass Stop). IsInnerWith c.args.self.now x d.0) (sym back) d.1,
      d.2,
    )

pub returns-in-Some-clause-made : goal.returns-in-Some-clause-made
returns-in-Some-clause-made g c v is = made_at g (goal.at.returns-in-Some-clause-made g c).After-leave_with _ (search rules) v is

look_at : (g : Over) (c : After-leave g) (q : Pass Stop) → q ≡ c.leave.new.self.1.0 → (v : View Stop) → IsInnerWith c.args.self.now c.args.pass.now v
    → (w : View Stop) × IsInnerWith c.args.self.now q w × Looked v w (seen_at v.number ops.Already 0 replies.Ok c.look-at.result)
look_at g c q back v is =
    let k = c.take-held.ensures in let t = c.args.self.now.turn in let h = c.take-held.result in
    let f = length h.place.me.0.front in
    let number = taker t c.args.pass.now c.args.pass.now h h v is k.known k.held in
    let shown : is_requested (means h.state) ≡ true = (λ i. is_requested (means (sym c.state.ensures i))) ∙ requested_else (means c.state.result.now) c.number-by.result (c.in-None.ensures.none) in
    let d = looked t c.args.pass.now c.leave.new.self.1.0 h c.look-at.new.self v is k.known k.held (look_of h.number ops.Already (pos 0) (pos 0) replies.Ok f) h.state.at.value.state.state.once c.leave.ensures (ap (λ x. x.now) c.look-at.ensures.same.top ∙ k.top) c.look-at.ensures.view shown refl in (
      d.0,
      subst (λ (x : Pass Stop). IsInnerWith c.args.self.now x d.0) (sym back) d.1,
      subst (λ (x : Look). Looked v d.0 x) (λ i. look_of (number i) ops.Already (pos 0) (pos 0) replies.Ok (sym c.look-at.ensures.stamp i)) d.2,
    )

pub returns-in-None-clause-already : goal.returns-in-None-clause-already
returns-in-None-clause-already g c v is = look_at g (goal.at.returns-in-None-clause-already g c).After-leave _ (search rules) v is
