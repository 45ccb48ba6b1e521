use Rattle.std.proofs.Common.{rules, ◌≡◌, ◌∙◌, sym, ap, subst, pos, IsSome}
use Rattle.cx_names.specs.declared.Reply.TheVariants as replies
use Rattle.cx_machine.specs.declared.kind.Entry.{Entry}
use Rattle.cx_machine.specs.Acts.{at_entry}
use Rattle.cx_machine.specs.Meaning.{change}
use Rattle.cx_machine.specs.Stop.{Stop, step}
use Rattle.cx_turn.specs.declared.view.View.{View}
use Rattle.cx_turn.specs.declared.pass.Pass.{Pass}
use Rattle.cx_turn.specs.Passes.{CanPay}
use Rattle.cx_turn.specs.Lending.{with_state}
use Rattle.cx_stop.specs.Kinds.{means, stopping}
use Rattle.cx_stop.specs.Acts.{Changed, IsOpen, act}
use Rattle.cx_stop.specs.Stops.{IsInnerWith}
use Rattle.cx_stop.proofs.Taking.{taker, found, changed, made_state, pays_on}
use Rattle.cx_stop.proofs.Open.{open_some, open_room, open_pays}
use Rattle.cx_stop.proofs.state.StopState.make.Given.{Over}
use Rattle.cx_stop.proofs.state.StopState.make.Goals.{After-entry, After-leave_with-at, After-rouse}
use Rattle.cx_stop.proofs.state.StopState.make.Goals as goal

opens : (g : Over) (c : After-entry g) → let p = c.requires.pass in (c.entry.result ≡ act p.0.number c.args.op c.args.id replies.Ok) × IsOpen p.0 (act p.0.number c.args.op c.args.id replies.Ok) (means c.take-held.result.state)
opens g c =
    let p = c.requires.pass in let k = c.take-held.ensures in let h = c.take-held.result in
    let t = c.args.self.now.turn in
    let f = found t c.args.pass.now c.args.pass.now h h p.0 p.1 k.known k.held h.state.at.value.state.state.once in
    let number = c.number-by.ensures ∙ taker t c.args.pass.now c.args.pass.now h h p.0 p.1 k.known k.held in
    (c.entry.ensures ∙ (λ i. change (number i) c.args.op (pos c.args.id) (pos 0) replies.Ok), c.requires.open p.0 p.1 h.place.me.0.front (means h.state) f)

pub make-made-requires-clause-enabled : goal.make-made-requires-clause-enabled
make-made-requires-clause-enabled g c = let p = c.requires.pass in let o = opens g c in subst (λ (x : Entry). IsSome (at_entry step (means c.take-held.result.state) x)) (sym o.0) (open_some p.0 (act p.0.number c.args.op c.args.id replies.Ok) (means c.take-held.result.state) o.1)

pub make-made-requires-clause-room : goal.make-made-requires-clause-room
make-made-requires-clause-room g c after is =
    let p = c.requires.pass in let o = opens g c in let now = means c.take-held.result.state in
    open_room p.0 (act p.0.number c.args.op c.args.id replies.Ok) now o.1 c.take-held.result.state.at.value.state.state.room after ((λ i. at_entry step now (sym o.0 i)) ∙ is)

pub make-made-requires-clause-pays : goal.make-made-requires-clause-pays
make-made-requires-clause-pays g c after is =
    let p = c.requires.pass in let o = opens g c in let h = c.take-held.result in let now = means h.state in let k = c.take-held.ensures in
    let e = act p.0.number c.args.op c.args.id replies.Ok in
    let can = open_pays p.0 e now o.1 after ((λ i. at_entry step now (sym o.0 i)) ∙ is) in
    subst (λ (x : Entry). CanPay stopping h.place.me.0 x now after) (sym o.0) (pays_on c.args.self.now.turn c.args.pass.now c.args.pass.now h h p.0 p.1 k.known k.held e now after can)

made_at : (g : Over) (c : After-leave_with-at g) (q : Pass Stop) → q ≡ c.leave_with-at.new.self.1.0 → (v : View Stop) → IsInnerWith c.args.self.now c.args.pass.now v
    → (w : View Stop) × IsInnerWith c.args.self.now q w × Changed v w (act v.number c.args.op c.args.id replies.Ok) c.leave_with-at.result
made_at g c q back v is =
    let k = c.take-held.ensures in let t = c.args.self.now.turn in let h = c.take-held.result in
    let m = c.make-made.ensures in let l = c.leave_with-at in
    let number = c.number-by.ensures ∙ taker t c.args.pass.now c.args.pass.now h h v is k.known k.held in
    let e = m.of.1 ∙ (c.entry.ensures ∙ (λ i. change (number i) c.args.op (pos c.args.id) (pos 0) replies.Ok)) in
    let same : c.take_joiner-joiner.new.kept.at.value.state ≡ c.make-made.new.self.state.at.value.state = c.take_joiner-joiner.ensures ∙ ap (λ q. q.at.value.state) c.state_mut.ensures.value in
    let d = changed t c.args.pass.now l.new.self.1.0 h (with_state c.make-made.new.self c.take_joiner-joiner.new.kept) v is k.known k.held c.make-made.result l.result (act v.number c.args.op c.args.id replies.Ok) h.state.at.value.state.state.once m.of.0 e (made_state c.make-made.new.self c.take_joiner-joiner.new.kept c.make-made.result same m.made) l.ensures.left (ap (λ x. x.now) m.same.0.top ∙ k.top) m.same.1 l.ensures.position in (
      d.0,
      subst (λ (x : Pass Stop). IsInnerWith c.args.self.now x d.0) (sym back) d.1,
      d.2,
    )

pub rouse-requires : goal.rouse-requires
rouse-requires g c = let p = c.requires.pass in let d = made_at g (goal.at.rouse-requires g c).After-leave_with-at _ (search rules) p.0 p.1 in (d.0, d.1)

made_on : (g : Over) (c : After-rouse g) (q : Pass Stop) → q ≡ c.leave_with-at.new.self.1.0 → ((v : View Stop) → IsInnerWith c.args.self.now q v → IsInnerWith c.args.self.now c.rouse.new.pass v) → (v : View Stop) → IsInnerWith c.args.self.now c.args.pass.now v
    → (w : View Stop) × IsInnerWith c.args.self.now c.rouse.new.pass w × Changed v w (act v.number c.args.op c.args.id replies.Ok) c.leave_with-at.result
made_on g c q back on v is = let d = made_at g (goal.at.returns g c).After-leave_with-at q back v is in (d.0, on d.0 d.1, d.2)

pub returns : goal.returns
returns g c = made_on g c _ (search rules) c.rouse.ensures
