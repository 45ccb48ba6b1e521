use Rattle.std.proofs.Common.{rules, ◌≡◌, ◌∙◌, length, refl, sym, ap, subst, arith, Some, None, IfSome, IsTrue}
use mir.Syntax.{w64}
use mir.Val.{to_z, of_z}
use Rattle.cx_names.specs.declared.ThreadNo.{ThreadNo}
use Rattle.cx_machine.specs.declared.kind.Entry.{Entry}
use Rattle.cx_machine.specs.declared.kind.Op.{Op}
use Rattle.cx_machine.specs.Meaning.{change, look_of, run}
use Rattle.cx_turn.specs.declared.view.View.{View}
use Rattle.cx_turn.specs.declared.pass.Pass.{Pass}
use Rattle.cx_turn.specs.Passes.{CanPay}
use Rattle.cx_turn.specs.Lending.{with_hand, with_state}
use Rattle.cx_cell.specs.Cells.{IsCellPassWith}
use Rattle.cx_cell.specs.Queue.{HasRoom, inner}
use Rattle.cx_turn.specs.Acts.{Makes, Looks, Finds}
use Rattle.cx_cell.specs.Acts.{Denies, Pays}
use Rattle.cx_cell.proofs.Room.{room_for, room_on}
use Rattle.cx_cell.specs.Seen.{Allows, Tells}
use Rattle.cx_cell.proofs.Attempting.{taker, low_number, made, made_on, looked, found, pays_on}
use Rattle.cx_cell.proofs.Telling.{left_at, tells_at}
use Rattle.cx_turn.specs.Views.{with_change}
use Rattle.cx_turn.proofs.Histories.{leads_on}
use Rattle.cx_cell.proofs.cell.Cell.attempt_then.Given.{Over}
use Rattle.cx_cell.proofs.cell.Cell.attempt_then.Goals.{After-leave_with-at, After-leave, After-leave-in-Nothing}
use Rattle.cx_cell.proofs.cell.Cell.attempt_then.Goals as goal

pub make-made-requires-clause-room : goal.make-made-requires-clause-room
make-made-requires-clause-room g c after enabled =
    let k = c.take-held.ensures in let p = c.requires.pass in let t = c.args.self.now.turn in let h = c.take-held.result in
    let m = g.S.Machine.meaning in
    let low = low_number m g.M.Meaning t c.args.pass.now c.args.pass.now h h p.0 p.1 k.known k.held k.top t.few in
    let by : c.entry.result.by.0 ≡ h.number.0 = ap (λ (x : Entry). x.by.0) c.entry.ensures ∙ ap (λ (x : ThreadNo). x.0) c.number-by.ensures in
    room_for g.M.Meaning g.met.S.Machine.most_holds (m h.state.kept.value.state) after c.entry.result (g.S.Machine.spare h.state.kept.value.state) k.fits.1 (omega arith) enabled

pub make-made-requires-clause-pays : goal.make-made-requires-clause-pays
make-made-requires-clause-pays g c after enabled =
    let k = c.take-held.ensures in let p = c.requires.pass in let t = c.args.self.now.turn in let h = c.take-held.result in
    let m = g.S.Machine.meaning in
    let w = c.args.wish.now in
    let op = c.in-Change.op in let r = c.in-Change.reply in
    let number : c.number-by.result ≡ c.args.pass.now.number = c.number-by.ensures ∙ taker m g.M.Meaning t c.args.pass.now c.args.pass.now h h p.0 p.1 k.known k.held in
    let e : c.entry.result ≡ change c.args.pass.now.number op w.a w.b r = c.entry.ensures ∙ (λ i. change (number i) op w.a w.b r) in
    let pays : (v : View g.row.M.Denot) → IsCellPassWith m g.M.Meaning c.args.self.now c.args.pass.now v → Pays g.M.Meaning c.args.pass.now.number op w.a w.b v = subst (λ x. IfSome x (λ (o : Op). (v : View g.row.M.Denot) → IsCellPassWith m g.M.Meaning c.args.self.now c.args.pass.now v → Pays g.M.Meaning c.args.pass.now.number o w.a w.b v)) c.in-Change.ensures.0 c.requires.pays in
    let can = pays p.0 p.1 (m h.state.kept.value.state) after r (ap (λ (x : Entry). g.M.Meaning.step (m h.state.kept.value.state) x) (sym e) ∙ enabled) in
    subst (λ (x : Entry). CanPay g.M.Meaning h.place.me.0 x (m h.state.kept.value.state) after) (sym e) (pays_on m g.M.Meaning t c.args.pass.now c.args.pass.now h h p.0 p.1 k.known k.held (change c.args.pass.now.number op w.a w.b r) (m h.state.kept.value.state) after can)

pub leave_with-at-requires-clause-fits : goal.leave_with-at-requires-clause-fits
leave_with-at-requires-clause-fits g c =
    let k = c.take-held.ensures in let p = c.requires.pass in let t = c.args.self.now.turn in let h = c.take-held.result in
    let m = g.S.Machine.meaning in
    let d = c.make-made.ensures in
    let n = c.make-made.new.self.state.kept.value.state in
    let low = low_number m g.M.Meaning t c.args.pass.now c.args.pass.now h h p.0 p.1 k.known k.held k.top t.few in
    let by : c.entry.result.by.0 ≡ h.number.0 = ap (λ (x : Entry). x.by.0) c.entry.ensures ∙ ap (λ (x : ThreadNo). x.0) c.number-by.ensures in
    let step : g.M.Meaning.step (m h.state.kept.value.state) c.entry.result ≡ Some (m n) = (λ i. g.M.Meaning.step (m (sym d.of.0 i).kept.value.state) (sym d.of.1 i)) ∙ d.made.enabled in
    let room = room_on g.M.Meaning (m h.state.kept.value.state) (m n) c.entry.result (g.S.Machine.spare h.state.kept.value.state) (g.S.Machine.spare n) k.fits.1 (omega arith) step d.room in
    let same : c.settle.new.queued.kept.value.state ≡ n = c.settle.ensures.state ∙ ap (λ q. q.kept.value.state) c.state_mut.ensures.value in
    (c.settle.ensures.marked, subst (λ s. HasRoom g.M.Meaning (m s) (g.S.Machine.spare s)) (sym same) room)

pub look-at-requires-clause-shown : goal.look-at-requires-clause-shown
look-at-requires-clause-shown g c =
    let h = c.take-held.result in
    let kept : c.deref.result.now ≡ h.state.kept.value = c.deref.ensures ∙ ap (λ q. q.kept.value) c.state.ensures in
    let w = c.args.wish.now in
    let a : to_z w64 (of_z w64 w.a) ≡ w.a = search rules in
    let b : to_z w64 (of_z w64 w.b) ≡ w.b = search rules in
    (λ i. g.M.Meaning.shows (g.S.Machine.meaning (sym kept i).state) (look_of (sym c.number-by.ensures i) c.in-Look.op (a i) (b i) c.in-Look.reply (length h.place.me.0.front))) ∙ c.in-Look.ensures.1 (length h.place.me.0.front)

change_at : (g : Over) (c : After-leave_with-at g) (q : Pass g.row.M.Denot) → q ≡ c.leave_with-at.new.self.1.0 → (v : View g.row.M.Denot) → IsCellPassWith g.S.Machine.meaning g.M.Meaning c.args.self.now c.args.pass.now v
    → (w : View g.row.M.Denot) × IsCellPassWith g.S.Machine.meaning g.M.Meaning c.args.self.now q w × ((op : Op) × (c.args.wish.now.change ≡ Some op) × Makes g.M.Meaning v w (change c.args.pass.now.number op c.args.wish.now.a c.args.wish.now.b c.in-Change.reply) c.leave_with-at.result) × Tells g.M.Meaning.step c.args.pass.now.number c.args.next c.allows-more.result w
change_at g c q back v is =
    let k = c.take-held.ensures in let t = c.args.self.now.turn in let h = c.take-held.result in
    let m = g.S.Machine.meaning in
    let kept : c.deref.result.now ≡ h.state.kept.value = c.deref.ensures ∙ ap (λ q. q.kept.value) c.state.ensures in
    let w = c.args.wish.now in
    let op = c.in-Change.op in let r = c.in-Change.reply in
    let o = c.in-Change.ensures in
    let made_it = c.make-made.ensures in
    let l = c.leave_with-at in
    let same : c.settle.new.queued.kept.value.state ≡ c.make-made.new.self.state.kept.value.state = c.settle.ensures.state ∙ ap (λ q. q.kept.value.state) c.state_mut.ensures.value in
    let number : c.number-by.result ≡ c.args.pass.now.number = c.number-by.ensures ∙ taker m g.M.Meaning t c.args.pass.now c.args.pass.now h h v is k.known k.held in
    let e : c.make-made.result.entry.value ≡ change c.args.pass.now.number op w.a w.b r = made_it.of.1 ∙ (c.entry.ensures ∙ (λ i. change (number i) op w.a w.b r)) in
    let picked : g.M.Meaning.picks (m c.make-made.result.before.value.kept.value.state) c.make-made.result.entry.value = subst (λ (x : g.row.M.Denot × Entry). g.M.Meaning.picks x.0 x.1) (λ i. (m ((kept ∙ ap (λ q. q.kept.value) (sym made_it.of.0)) i).state, sym (made_it.of.1 ∙ c.entry.ensures) i)) o.2 in
    let h2 = with_state (with_hand c.make-made.new.self None) c.settle.new.queued in
    let on = made_on m g.M.Meaning c.make-made.new.self None c.settle.new.queued c.make-made.result same made_it.made in
    let kept2 : c.deref-in-Change.result.now ≡ c.settle.new.queued.kept.value = c.deref-in-Change.ensures ∙ ap (λ q. q.kept.value) c.state-in-Change.ensures in
    let d = made m g.M.Meaning t c.args.pass.now l.new.self.1.0 h h2 v is k.known k.held c.make-made.result l.result on l.ensures.left (ap (λ x. x.now) made_it.same.0.top ∙ k.top) made_it.same.1 picked l.ensures.position in (
      d.0,
      subst (λ (x : Pass g.row.M.Denot). IsCellPassWith m g.M.Meaning c.args.self.now x d.0) (sym back) d.1,
      (op, o.0, subst (λ (x : Entry). Makes g.M.Meaning v d.0 x l.result) e d.2),
      (let leads = left_at g.M.Meaning l.new.self.1.0 (with_change g.M.Meaning h2.place.me.0 c.make-made.result.entry.value (inner m c.make-made.result.before.value) (m c.settle.new.queued.kept.value.state)) d.0 (m c.settle.new.queued.kept.value.state) l.ensures.left.views d.1.views (leads_on g.M.Meaning.step h2.place.me.0.start h2.place.me.0.front c.make-made.result.entry.value (inner m c.make-made.result.before.value) (m c.settle.new.queued.kept.value.state) on.leads on.enabled) in
          let told : Allows g.M.Meaning.step c.args.pass.now.number c.args.next c.allows-more.result (m c.settle.new.queued.kept.value.state) = subst (λ (z : ThreadNo × g.row.M.Denot). Allows g.M.Meaning.step z.0 c.args.next c.allows-more.result z.1) (λ i. (number i, m (kept2 i).state)) c.allows-more.ensures in
          tells_at g.M.Meaning c.args.pass.now.number c.args.next c.allows-more.result d.0 (m c.settle.new.queued.kept.value.state) leads told),
    )

pub returns-in-Change : goal.returns-in-Change
returns-in-Change g c v is = change_at g (goal.at.returns-in-Change g c).After-leave_with-at _ (search rules) v is

look_at : (g : Over) (c : After-leave g) (q : Pass g.row.M.Denot) → q ≡ c.leave.new.self.1.0 → (v : View g.row.M.Denot) → IsCellPassWith g.S.Machine.meaning g.M.Meaning c.args.self.now c.args.pass.now v
    → (w : View g.row.M.Denot) × IsCellPassWith g.S.Machine.meaning g.M.Meaning c.args.self.now q w × ((op : Op) × (c.args.wish.now.look ≡ Some op) × Looks g.M.Meaning v w (look_of c.args.pass.now.number op c.args.wish.now.a c.args.wish.now.b c.in-Look.reply c.look-at.result)) × Tells g.M.Meaning.step c.args.pass.now.number c.args.next c.allows-more-in-Look.result w
look_at g c q back v is =
    let kept : c.deref.result.now ≡ c.take-held.result.state.kept.value = c.deref.ensures ∙ ap (λ q. q.kept.value) c.state.ensures in
    let k = c.take-held.ensures in let t = c.args.self.now.turn in let h = c.take-held.result in
    let m = g.S.Machine.meaning in
    let w = c.args.wish.now in
    let op = c.in-Look.op in let r = c.in-Look.reply in
    let f = length h.place.me.0.front in
    let a : to_z w64 (of_z w64 w.a) ≡ w.a = search rules in
    let b : to_z w64 (of_z w64 w.b) ≡ w.b = search rules in
    let number : h.number ≡ c.args.pass.now.number = taker m g.M.Meaning t c.args.pass.now c.args.pass.now h h v is k.known k.held in
    let shown : IsTrue (g.M.Meaning.shows (m h.state.kept.value.state) (look_of h.number op (to_z w64 (of_z w64 w.a)) (to_z w64 (of_z w64 w.b)) r f)) = (λ i. g.M.Meaning.shows (m (sym kept i).state) (look_of (sym c.number-by.ensures i) op (a i) (b i) r f)) ∙ c.in-Look.ensures.1 f in
    let kept2 : c.deref-in-Look.result.now.state ≡ h.state.kept.value.state = ap (λ q. q.state) (c.deref-in-Look.ensures ∙ ap (λ q. q.kept.value) c.state-in-Look.ensures) ∙ (c.settle-in-Look.ensures.state ∙ (ap (λ q. q.kept.value.state) c.state_mut-in-Look.ensures.value ∙ ap (λ q. q.kept.value.state) c.look-at.ensures.state.0)) in
    let d = looked m g.M.Meaning t c.args.pass.now c.leave.new.self.1.0 h c.look-at.new.self v is k.known k.held (look_of h.number op (to_z w64 (of_z w64 w.a)) (to_z w64 (of_z w64 w.b)) r f) (m h.state.kept.value.state) c.leave.ensures (ap (λ x. x.now) c.look-at.ensures.same.top ∙ k.top) c.look-at.ensures.view k.held.now.leads shown refl in (
      d.0,
      subst (λ (x : Pass g.row.M.Denot). IsCellPassWith m g.M.Meaning c.args.self.now x d.0) (sym back) d.1,
      (op, c.in-Look.ensures.0, subst (λ x. Looks g.M.Meaning v d.0 x) (λ i. look_of (number i) op (a i) (b i) r (sym c.look-at.ensures.stamp i)) d.2),
      (let leads = left_at g.M.Meaning c.leave.new.self.1.0 c.look-at.new.self.place.me.0 d.0 (m h.state.kept.value.state) c.leave.ensures.views d.1.views (subst (λ (x : View g.row.M.Denot). run g.M.Meaning.step (Some x.start) x.front ≡ Some (m h.state.kept.value.state)) (sym c.look-at.ensures.view) k.held.now.leads) in
          let told : Allows g.M.Meaning.step c.args.pass.now.number c.args.next c.allows-more-in-Look.result (m h.state.kept.value.state) = subst (λ (z : ThreadNo × g.row.M.Denot). Allows g.M.Meaning.step z.0 c.args.next c.allows-more-in-Look.result z.1) (λ i. ((c.number-by.ensures ∙ number) i, m (kept2 i))) c.allows-more-in-Look.ensures in
          tells_at g.M.Meaning c.args.pass.now.number c.args.next c.allows-more-in-Look.result d.0 (m h.state.kept.value.state) leads told),
    )

pub returns-in-Look : goal.returns-in-Look
returns-in-Look g c v is = look_at g (goal.at.returns-in-Look g c).After-leave _ (search rules) v is

nothing_at : (g : Over) (c : After-leave-in-Nothing g) (q : Pass g.row.M.Denot) → q ≡ c.leave-in-Nothing.new.self.1.0 → (v : View g.row.M.Denot) → IsCellPassWith g.S.Machine.meaning g.M.Meaning c.args.self.now c.args.pass.now v
    → (w : View g.row.M.Denot) × IsCellPassWith g.S.Machine.meaning g.M.Meaning c.args.self.now q w × Finds g.M.Meaning (Denies g.M.Meaning c.args.pass.now.number c.args.wish.now) v w × Tells g.M.Meaning.step c.args.pass.now.number c.args.next c.allows-more-in-Nothing.result w
nothing_at g c q back v is =
    let kept : c.deref.result.now ≡ c.take-held.result.state.kept.value = c.deref.ensures ∙ ap (λ q. q.kept.value) c.state.ensures in
    let k = c.take-held.ensures in let t = c.args.self.now.turn in let h = c.take-held.result in
    let m = g.S.Machine.meaning in
    let number : c.number-by.result ≡ c.args.pass.now.number = c.number-by.ensures ∙ taker m g.M.Meaning t c.args.pass.now c.args.pass.now h h v is k.known k.held in
    let denies : Denies g.M.Meaning c.args.pass.now.number c.args.wish.now (m h.state.kept.value.state) = subst (λ (x : ThreadNo × g.row.M.Denot). Denies g.M.Meaning x.0 c.args.wish.now x.1) (λ i. (number i, m (kept i).state)) c.in-Nothing.ensures in
    let kept2 : c.deref-in-Nothing.result.now ≡ h.state.kept.value = c.deref-in-Nothing.ensures ∙ ap (λ q. q.kept.value) c.state-in-Nothing.ensures in
    let d = found m g.M.Meaning t c.args.pass.now c.leave-in-Nothing.new.self.1.0 h h v is k.known k.held (Denies g.M.Meaning c.args.pass.now.number c.args.wish.now) (m h.state.kept.value.state) c.leave-in-Nothing.ensures k.top refl k.held.now.leads denies in (
      d.0,
      subst (λ (x : Pass g.row.M.Denot). IsCellPassWith m g.M.Meaning c.args.self.now x d.0) (sym back) d.1,
      d.2,
      (let leads = left_at g.M.Meaning c.leave-in-Nothing.new.self.1.0 h.place.me.0 d.0 (m h.state.kept.value.state) c.leave-in-Nothing.ensures.views d.1.views k.held.now.leads in
          let told : Allows g.M.Meaning.step c.args.pass.now.number c.args.next c.allows-more-in-Nothing.result (m h.state.kept.value.state) = subst (λ (z : ThreadNo × g.row.M.Denot). Allows g.M.Meaning.step z.0 c.args.next c.allows-more-in-Nothing.result z.1) (λ i. (number i, m (kept2 i).state)) c.allows-more-in-Nothing.ensures in
          tells_at g.M.Meaning c.args.pass.now.number c.args.next c.allows-more-in-Nothing.result d.0 (m h.state.kept.value.state) leads told),
    )

pub returns-in-Nothing : goal.returns-in-Nothing
returns-in-Nothing g c v is = nothing_at g (goal.at.returns-in-Nothing g c).After-leave-in-Nothing _ (search rules) v is
