use Rattle.std.proofs.Common.{rules, ◌≡◌, ◌∙◌, ℕ, ◌<◌, ◌^◌, length, refl, sym, ap, subst, pos, IsSome, Option, None, Some, true, slice_get}
use Rattle.cx_names.specs.declared.Reply.TheVariants as replies
use Rattle.cx_machine.specs.declared.kind.Op.TheVariants as ops
use Rattle.cx_machine.specs.declared.kind.Entry.{Entry}
use Rattle.cx_machine.specs.declared.kind.Look.{Look}
use Rattle.cx_machine.specs.Acts.{at_entry}
use Rattle.cx_machine.specs.Values.{TakesOut, Moves}
use Rattle.cx_machine.specs.Words.{is_thread, small_of}
use Rattle.cx_machine.specs.Meaning.{change, look_of}
use Rattle.cx_machine.specs.Stop.{Stop, step, is_drained}
use Rattle.cx_turn.specs.declared.view.View.{View}
use Rattle.cx_turn.specs.declared.pass.Pass.{Pass}
use Rattle.cx_turn.specs.Passes.{CanPay}
use Rattle.cx_turn.specs.Lending.{with_hand}
use Rattle.cx_stop.specs.Kinds.{means, stopping}
use Rattle.cx_stop.specs.Acts.{Changed, Looked, Found, IsOpen, act, seen_at}
use Rattle.cx_stop.specs.Stops.{IsInnerWith}
use Rattle.cx_stop.proofs.Taking.{taker, found, changed, looked, made_hand, pays_on}
use Rattle.cx_stop.proofs.Others.{requester_found}
use Rattle.cx_stop.proofs.Open.{drained, open_begin, open_some, open_room, open_pays, first_has, small_is}
use Rattle.cx_stop.proofs.Fitting.{suit_taken, suit_out}
use Rattle.cx_stop.proofs.state.StopState.begin_first.Given.{Over}
use Rattle.cx_stop.proofs.state.StopState.begin_first.Goals.{After-first_registered, After-entry, After-make-made, After-leave, After-leave_with-at}
use Rattle.cx_stop.proofs.state.StopState.begin_first.Goals as goal

-- who has the turn made the request
requests : (g : Over) (c : After-first_registered g) → let p = c.requires.pass in (Found p.0 c.take-held.result.place.me.0.front (means c.take-held.result.state)) × (is_thread (means c.take-held.result.state).requester p.0.number ≡ true)
requests g c =
    let p = c.requires.pass in let k = c.take-held.ensures in let h = c.take-held.result in
    let f = found c.args.self.now.turn c.args.pass.now c.args.pass.now h h p.0 p.1 k.known k.held h.state.at.value.state.state.once in
    (f, requester_found p.0 h.place.me.0.front p.1.known.legal.0 (means h.state) (p.1.known.own p.1.counts) p.1.known.legal.1 (c.requires.requester p.0 p.1) f)

opens : (g : Over) (c : After-entry g) → let p = c.requires.pass in (c.entry.result ≡ act p.0.number ops.Begin c.in-Some.id replies.Ok) × IsOpen p.0 (act p.0.number ops.Begin c.in-Some.id replies.Ok) (means c.take-held.result.state)
opens g c =
    let p = c.requires.pass in let k = c.take-held.ensures in let h = c.take-held.result in
    let r = requests g (goal.at.make-made-requires-clause-enabled g c).After-first_registered in
    let kept : c.deref.result.now ≡ h.state.at.value = c.deref.ensures ∙ ap (λ q. q.at.value) c.state.ensures in
    let first : slice_get (means h.state).registered 0 ≡ Some c.in-Some.id = (λ i. slice_get (sym kept i).state.state.registered.items 0) ∙ (sym c.first_registered.ensures ∙ c.in-Some.is) in
    let number = c.number-by.ensures ∙ taker c.args.self.now.turn c.args.pass.now c.args.pass.now h h p.0 p.1 k.known k.held in
    let low : c.in-Some.id < 2 ^ 32 = search rules in
    (c.entry.ensures ∙ (λ i. change (number i) ops.Begin (pos c.in-Some.id) (pos 0) replies.Ok), open_begin p.0 h.place.me.0.front (means h.state) c.in-Some.id low r.0 r.1 (first_has (means h.state).registered c.in-Some.id first))

pub make-made-requires-clause-enabled : goal.make-made-requires-clause-enabled
make-made-requires-clause-enabled g c = let p = c.requires.pass in let o = opens g c in subst (λ (x : Entry). IsSome (at_entry step (means c.take-held.result.state) x)) (sym o.0) (open_some p.0 (act p.0.number ops.Begin c.in-Some.id replies.Ok) (means c.take-held.result.state) o.1)

pub make-made-requires-clause-room : goal.make-made-requires-clause-room
make-made-requires-clause-room g c after is =
    let p = c.requires.pass in let o = opens g c in let now = means c.take-held.result.state in
    open_room p.0 (act p.0.number ops.Begin c.in-Some.id replies.Ok) now o.1 c.take-held.result.state.at.value.state.state.room after ((λ i. at_entry step now (sym o.0 i)) ∙ is)

pub make-made-requires-clause-pays : goal.make-made-requires-clause-pays
make-made-requires-clause-pays g c after is =
    let p = c.requires.pass in let o = opens g c in let h = c.take-held.result in let now = means h.state in let k = c.take-held.ensures in
    let e = act p.0.number ops.Begin c.in-Some.id replies.Ok in
    let can = open_pays p.0 e now o.1 after ((λ i. at_entry step now (sym o.0 i)) ∙ is) in
    subst (λ (x : Entry). CanPay stopping h.place.me.0 x now after) (sym o.0) (pays_on c.args.self.now.turn c.args.pass.now c.args.pass.now h h p.0 p.1 k.known k.held e now after can)

begun_at : (g : Over) (c : After-leave_with-at g) (q : Pass Stop) → q ≡ c.leave_with-at.new.self.1.0 → (v : View Stop) → IsInnerWith c.args.self.now c.args.pass.now v
    → (w : View Stop) × IsInnerWith c.args.self.now q w × Changed v w (act v.number ops.Begin c.in-Some.id replies.Ok) c.leave_with-at.result
begun_at g c q back v is =
    let k = c.take-held.ensures in let t = c.args.self.now.turn in let h = c.take-held.result in
    let m = c.make-made.ensures in let l = c.leave_with-at in
    let number = c.number-by.ensures ∙ taker t c.args.pass.now c.args.pass.now h h v is k.known k.held in
    let e = m.of.1 ∙ (c.entry.ensures ∙ (λ i. change (number i) ops.Begin (pos c.in-Some.id) (pos 0) replies.Ok)) in
    let d = changed t c.args.pass.now l.new.self.1.0 h (with_hand c.make-made.new.self None) v is k.known k.held c.make-made.result l.result (act v.number ops.Begin c.in-Some.id replies.Ok) h.state.at.value.state.state.once m.of.0 e (made_hand c.make-made.new.self None c.make-made.result m.made) l.ensures.left (ap (λ x. x.now) m.same.0.top ∙ k.top) m.same.1 l.ensures.position in (
      d.0,
      subst (λ (x : Pass Stop). IsInnerWith c.args.self.now x d.0) (sym back) d.1,
      d.2,
    )

pub returns-in-Some-take-clause-begun : goal.returns-in-Some-take-clause-begun
returns-in-Some-take-clause-begun g c v is = begun_at g (goal.at.returns-in-Some-take-clause-begun g c).After-leave_with-at _ (search rules) v is

shown : (g : Over) (c : After-first_registered g) → c.first_registered.result ≡ None → is_drained (means c.take-held.result.state) ≡ true
shown g c none =
    let p = c.requires.pass in let h = c.take-held.result in
    let r = requests g c in
    let kept : c.deref.result.now ≡ h.state.at.value = c.deref.ensures ∙ ap (λ q. q.at.value) c.state.ensures in
    drained (means h.state) p.0.number r.1 ((λ i. slice_get (sym kept i).state.state.registered.items 0) ∙ (sym c.first_registered.ensures ∙ none))

pub look-at-requires-clause-shown : goal.look-at-requires-clause-shown
look-at-requires-clause-shown g c = shown g (goal.at.look-at-requires-clause-shown g c).After-first_registered c.in-None.is

look_at : (g : Over) (c : After-leave g) (q : Pass Stop) → q ≡ c.leave.new.self.1.0 → (is : is_drained (means c.take-held.result.state) ≡ true) → (v : View Stop) → IsInnerWith c.args.self.now c.args.pass.now v
    → (w : View Stop) × IsInnerWith c.args.self.now q w × Looked v w (seen_at v.number ops.Drained 0 replies.Ok c.look-at.result)
look_at g c q back is_so v is =
    let k = c.take-held.ensures in let t = c.args.self.now.turn in let h = c.take-held.result in
    let f = length h.place.me.0.front in
    let number = taker t c.args.pass.now c.args.pass.now h h v is k.known k.held in
    let d = looked t c.args.pass.now c.leave.new.self.1.0 h c.look-at.new.self v is k.known k.held (look_of h.number ops.Drained (pos 0) (pos 0) replies.Ok f) h.state.at.value.state.state.once c.leave.ensures (ap (λ x. x.now) c.look-at.ensures.same.top ∙ k.top) c.look-at.ensures.view is_so refl in (
      d.0,
      subst (λ (x : Pass Stop). IsInnerWith c.args.self.now x d.0) (sym back) d.1,
      subst (λ (x : Look). Looked v d.0 x) (λ i. look_of (number i) ops.Drained (pos 0) (pos 0) replies.Ok (sym c.look-at.ensures.stamp i)) d.2,
    )

pub returns-in-None-clause-drained : goal.returns-in-None-clause-drained
returns-in-None-clause-drained g c v is = let a = goal.at.returns-in-None-clause-drained g c in look_at g a.After-leave _ (search rules) (shown g a.After-first_registered c.in-None.is) v is

-- the value of the callback is taken out
taken : (g : Over) (c : After-make-made g) → TakesOut c.take-held.result.state.at.value.state.values.items c.in-Some.id c.make-made.new.self.state.at.value.state.values.items c.make-made.new.self.hand
taken g c =
    let id = c.in-Some.id in let h = c.take-held.result in
    let old = h.state.at.value.state.values.items in
    let new = c.make-made.new.self.state.at.value.state.values.items in
    let rest = c.make-made.new.self.hand in
    let low : id < 2 ^ 32 = search rules in
    subst (λ (o : Option ℕ). Moves old h.hand ops.Begin o replies.Ok new rest) (small_is id low) (subst (λ (e : Entry). Moves old h.hand e.op (small_of e.a) e.reply new rest) c.entry.ensures c.make-made.ensures.hand)

pub leave_with-at-requires-clause-fits : goal.leave_with-at-requires-clause-fits
leave_with-at-requires-clause-fits g c =
    let a = (goal.at.leave_with-at-requires-clause-fits g c).After-make-made in
    suit_taken g.C.Action.suits c.take-held.result.state.at.value.state.values.items c.make-made.new.self.state.at.value.state.values.items c.in-Some.id c.make-made.new.self.hand (taken g a) c.take-held.ensures.fits

pub returns-in-Some-take-clause-value : goal.returns-in-Some-take-clause-value
returns-in-Some-take-clause-value g c =
    let a = (goal.at.returns-in-Some-take-clause-value g c).After-make-made in
    let e : c.make-made.new.self.hand ≡ Some c.in-Some-take.value = search rules in
    suit_out g.C.Action.suits c.take-held.result.state.at.value.state.values.items c.make-made.new.self.state.at.value.state.values.items c.in-Some.id c.make-made.new.self.hand c.in-Some-take.value (taken g a) e c.take-held.ensures.fits
