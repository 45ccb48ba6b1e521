use Rattle.std.proofs.Common.{rules, ◌≡◌, ◌∙◌, ℕ, ◌≤◌, sym, ap, subst, pos, Option, Some, None, arith}
use Rattle.cx_machine.specs.declared.kind.Op.TheVariants as ops
use Rattle.cx_machine.specs.declared.kind.Entry.{Entry}
use Rattle.cx_machine.specs.Acts.{at_entry}
use Rattle.cx_machine.specs.Meaning.{change}
use Rattle.cx_machine.specs.Values.{Moves}
use Rattle.cx_machine.specs.Words.{small_of}
use mir.Syntax.{w64}
use mir.Val.{to_z}
use Rattle.cx_machine.specs.Stop.{Stop, step}
use Rattle.cx_turn.specs.declared.view.View.{View}
use Rattle.cx_turn.specs.declared.pass.Pass.{Pass}
use Rattle.cx_turn.specs.Passes.{CanPay}
use Rattle.cx_turn.specs.Lending.{with_hand}
use Rattle.cx_stop.specs.Kinds.{means, stopping}
use Rattle.cx_stop.specs.Acts.{Changed, IsOpen, act}
use Rattle.cx_stop.specs.Stops.{IsInnerWith}
use Rattle.cx_stop.proofs.Taking.{taker, found, changed, made_hand, pays_on}
use Rattle.cx_stop.proofs.Open.{open_back, open_room, open_pays, small_is, back_reply}
use Rattle.cx_stop.proofs.Fitting.{back_suits, back_value}
use Rattle.cx_stop.proofs.state.StopState.try_back.Given.{Over}
use Rattle.cx_stop.proofs.state.StopState.try_back.Goals.{After-entry, After-make-made, After-leave_with-at}
use Rattle.cx_stop.proofs.state.StopState.try_back.Goals as goal

opens : (g : Over) (c : After-entry g) (after : Stop) → at_entry step (means c.take-held.result.state) c.entry.result ≡ Some after → let p = c.requires.pass in (c.entry.result ≡ act p.0.number ops.Deregister c.args.id c.in-Some.reply) × IsOpen p.0 (act p.0.number ops.Deregister c.args.id c.in-Some.reply) (means c.take-held.result.state)
opens g c after is =
    let p = c.requires.pass in let k = c.take-held.ensures in let h = c.take-held.result in
    let t = c.args.self.now.turn in
    let f = found t c.args.pass.now c.args.pass.now h h p.0 p.1 k.known k.held h.state.at.value.state.state.once in
    let number = c.number-by.ensures ∙ taker t c.args.pass.now c.args.pass.now h h p.0 p.1 k.known k.held in
    let e : c.entry.result ≡ act p.0.number ops.Deregister c.args.id c.in-Some.reply = c.entry.ensures ∙ (λ i. change (number i) ops.Deregister (pos c.args.id) (pos 0) c.in-Some.reply) in
    let may : 1 ≤ p.0.left = (let a = p.1.counted.may in let b = c.requires.left in omega (arith, a, b)) in
    (e, open_back p.0 h.place.me.0.front (means h.state) c.args.id c.in-Some.reply after c.ranges.id.fits f may (c.requires.holds p.0 p.1) ((λ i. at_entry step (means h.state) (sym e i)) ∙ is))

pub make-made-requires-clause-room : goal.make-made-requires-clause-room
make-made-requires-clause-room g c after is =
    let p = c.requires.pass in let o = opens g c after is in let now = means c.take-held.result.state in
    open_room p.0 (act p.0.number ops.Deregister c.args.id c.in-Some.reply) now o.1 c.take-held.result.state.at.value.state.state.room after ((λ i. at_entry step now (sym o.0 i)) ∙ is)

pub make-made-requires-clause-pays : goal.make-made-requires-clause-pays
make-made-requires-clause-pays g c after is =
    let p = c.requires.pass in let o = opens g c after is in let h = c.take-held.result in let now = means h.state in let k = c.take-held.ensures in
    let e = act p.0.number ops.Deregister c.args.id c.in-Some.reply in
    let can = open_pays p.0 e now o.1 after ((λ i. at_entry step now (sym o.0 i)) ∙ is) in
    subst (λ (x : Entry). CanPay stopping h.place.me.0 x now after) (sym o.0) (pays_on c.args.self.now.turn c.args.pass.now c.args.pass.now h h p.0 p.1 k.known k.held e now after can)

back_at : (g : Over) (c : After-leave_with-at g) (q : Pass Stop) → q ≡ c.leave_with-at.new.self.1.0 → (v : View Stop) → IsInnerWith c.args.self.now c.args.pass.now v
    → (w : View Stop) × IsInnerWith c.args.self.now q w × Changed v w (act v.number ops.Deregister c.args.id c.in-Some.reply) c.leave_with-at.result
back_at g c q back v is =
    let k = c.take-held.ensures in let t = c.args.self.now.turn in let h = c.take-held.result in
    let m = c.make-made.ensures in let l = c.leave_with-at in
    let number = c.number-by.ensures ∙ taker t c.args.pass.now c.args.pass.now h h v is k.known k.held in
    let e = m.of.1 ∙ (c.entry.ensures ∙ (λ i. change (number i) ops.Deregister (pos c.args.id) (pos 0) c.in-Some.reply)) in
    let d = changed t c.args.pass.now l.new.self.1.0 h (with_hand c.make-made.new.self None) v is k.known k.held c.make-made.result l.result (act v.number ops.Deregister c.args.id c.in-Some.reply) h.state.at.value.state.state.once m.of.0 e (made_hand c.make-made.new.self None c.make-made.result m.made) l.ensures.left (ap (λ x. x.now) m.same.0.top ∙ k.top) m.same.1 l.ensures.position in (
      d.0,
      subst (λ (x : Pass Stop). IsInnerWith c.args.self.now x d.0) (sym back) d.1,
      d.2,
    )

pub returns-in-Some-clause-back : goal.returns-in-Some-clause-back
returns-in-Some-clause-back g c v is = back_at g (goal.at.returns-in-Some-clause-back g c).After-leave_with-at _ (search rules) v is

moved : (g : Over) (c : After-make-made g) → Moves c.take-held.result.state.at.value.state.values.items c.take-held.result.hand ops.Deregister (Some c.args.id) c.in-Some.reply c.make-made.new.self.state.at.value.state.values.items c.make-made.new.self.hand
moved g c =
    let h = c.take-held.result in
    let old = h.state.at.value.state.values.items in
    let new = c.make-made.new.self.state.at.value.state.values.items in
    let rest = c.make-made.new.self.hand in
    subst (λ (o : Option ℕ). Moves old h.hand ops.Deregister o c.in-Some.reply new rest) (small_is c.args.id c.ranges.id.fits) (subst (λ (e : Entry). Moves old h.hand e.op (small_of e.a) e.reply new rest) c.entry.ensures c.make-made.ensures.hand)

pub leave_with-at-requires-clause-fits : goal.leave_with-at-requires-clause-fits
leave_with-at-requires-clause-fits g c =
    let a = (goal.at.leave_with-at-requires-clause-fits g c).After-make-made in let h = c.take-held.result in
    back_suits g.C.Action.suits c.in-Some.reply h.state.at.value.state.values.items c.make-made.new.self.state.at.value.state.values.items c.args.id h.hand c.make-made.new.self.hand (moved g a) c.take-held.ensures.fits

pub returns-in-Some-clause-value : goal.returns-in-Some-clause-value
returns-in-Some-clause-value g c =
    let a = (goal.at.returns-in-Some-clause-value g c).After-make-made in let h = c.take-held.result in
    let same : c.take-value.result ≡ c.make-made.new.self.hand = search rules in record {
      one = back_reply (means c.state.result.now) c.number-by.result.0 (small_of (to_z w64 c.args.id)) c.in-Some.reply c.in-Some.ensures.enabled;
      value = λ e.
          let x = back_value g.C.Action.suits c.in-Some.reply h.state.at.value.state.values.items c.make-made.new.self.state.at.value.state.values.items c.args.id h.hand c.make-made.new.self.hand (moved g a) c.take-held.ensures.fits e in
          (x.0, same ∙ x.1, x.2);
    }
