use Rattle.std.proofs.Common.{rules, ◌≡◌, ◌∙◌, ℕ, ◌≤◌, length, refl, sym, ap, subst, pos, Option, Some, true, arith}
use mir.Syntax.{w64}
use mir.Val.{to_z}
use Rattle.cx_names.specs.declared.ThreadNo.{ThreadNo}
use Rattle.cx_names.specs.declared.Reply.TheVariants as replies
use Rattle.cx_machine.specs.declared.kind.Op.TheVariants as ops
use Rattle.cx_machine.specs.declared.kind.Op.{Op}
use Rattle.cx_machine.specs.declared.kind.Entry.{Entry}
use Rattle.cx_machine.specs.declared.kind.Look.{Look}
use Rattle.cx_machine.specs.Acts.{at_entry, at_look}
use Rattle.cx_machine.specs.Callbacks.{members}
use Rattle.cx_machine.specs.Meaning.{change, look_of}
use Rattle.cx_machine.specs.Stop.{Stop, step, shows, is_fresh}
use Rattle.cx_turn.specs.declared.view.View.{View}
use Rattle.cx_turn.specs.declared.pass.Pass.{Pass}
use Rattle.cx_turn.specs.Passes.{CanPay, Enters}
use Rattle.cx_turn.proofs.Histories.{some_is}
use Rattle.cx_stop.specs.declared.kept.Kept.{Kept}
use Rattle.cx_stop.specs.declared.steps.Way.{Way}
use Rattle.cx_stop.specs.declared.steps.Way.TheVariants as ways
use Rattle.cx_stop.specs.Kinds.{means, stopping}
use Rattle.cx_stop.specs.Acts.{Changed, Looked, Found, act, seen_at}
use Rattle.cx_stop.specs.Puts.{IsWay}
use Rattle.cx_stop.specs.Stops.{IsInnerWith}
use Rattle.cx_stop.proofs.Taking.{taker, found, changed, looked, pays_on, enters_on}
use Rattle.cx_machine.specs.Values.{PutsIn, Moves}
use Rattle.cx_machine.specs.Words.{small_of}
use Rattle.cx_stop.proofs.Fitting.{suit_same, suit_put}
use Rattle.cx_stop.proofs.Open.{small_is}
use Rattle.cx_stop.proofs.Ways.{OpensNew, open_register, open_now, never_shown}
use Rattle.cx_stop.proofs.state.StopState.put.Given.{Over}
use Rattle.cx_stop.proofs.state.StopState.put.Goals.{After-reserve, After-way_of, After-leave_with, After-leave_with-in-Run, After-leave-in-Never}
use Rattle.cx_stop.proofs.state.StopState.put.Goals as goal

-- the taker after it made room
entered : (g : Over) (c : After-reserve g) → Enters means stopping c.args.self.now.turn c.args.pass.now c.reserve.new.self
entered g c = enters_on c.args.self.now.turn c.args.pass.now c.take-held.result c.reserve.new.self c.reserve.ensures.same.1 c.take-held.ensures.known

number_is : (g : Over) (c : After-reserve g) (v : View Stop) → IsInnerWith c.args.self.now c.args.pass.now v → c.number-by.result ≡ record { 0 = v.number }
number_is g c v is = let h = c.take-held.result in let k = c.take-held.ensures in c.number-by.ensures ∙ taker c.args.self.now.turn c.args.pass.now c.args.pass.now h h v is k.known k.held

finds : (g : Over) (c : After-reserve g) → let p = c.requires.pass in Found p.0 c.reserve.new.self.place.me.0.front (means c.reserve.new.self.state)
finds g c = let p = c.requires.pass in let h = c.reserve.new.self in found c.args.self.now.turn c.args.pass.now c.args.pass.now h h p.0 p.1 (entered g c) c.reserve.ensures.held h.state.at.value.state.state.once

fresh : (g : Over) (c : After-reserve g) → is_fresh (means c.reserve.new.self.state) c.number-by.result.0 c.args.id ≡ true
fresh g c =
    let p = c.requires.pass in let h = c.reserve.new.self in
    ap (λ (t : ThreadNo). is_fresh (means h.state) t.0 c.args.id) (number_is g c p.0 p.1) ∙ c.requires.fresh p.0 p.1 h.place.me.0.front (means h.state) (finds g c)

pub way_of-requires : goal.way_of-requires
way_of-requires g c = record { fresh = (λ i. is_fresh (means (c.state.ensures i)) c.number-by.result.0 c.args.id) ∙ fresh g (goal.at.way_of-requires g c).After-reserve }

-- what the way says of the state, for the pass's own number
way_is : (g : Over) (c : After-reserve g) (kept : Kept g.row.C.Denot) → kept ≡ c.reserve.new.self.state → (w x : Way) → w ≡ x → IsWay (means kept) c.number-by.result.0 c.args.id w → let p = c.requires.pass in IsWay (means c.reserve.new.self.state) p.0.number c.args.id x
way_is g c kept same w x e is =
    let p = c.requires.pass in
    let number = number_is g c p.0 p.1 in
    subst (λ (y : Stop × (ThreadNo × Way)). IsWay y.0 y.1.0.0 c.args.id y.1.1) (λ i. (means (same i), (number i, e i))) is

may : (g : Over) (c : After-reserve g) → let p = c.requires.pass in 3 ≤ p.0.left
may g c = let p = c.requires.pass in let a = p.1.counted.may in let b = c.requires.left in omega (arith, a, b)

queues : (g : Over) (c : After-reserve g) (kept : Kept g.row.C.Denot) → kept ≡ c.reserve.new.self.state → (w : Way) → w ≡ ways.Queue → IsWay (means kept) c.number-by.result.0 c.args.id w → let p = c.requires.pass in OpensNew p.0 (act p.0.number ops.Register c.args.id replies.Ok) (means c.reserve.new.self.state)
queues g c kept same w e is = let p = c.requires.pass in open_register p.0 c.reserve.new.self.place.me.0.front (means c.reserve.new.self.state) c.args.id c.ranges.id.fits (finds g c) (may g c) (way_is g c kept same w ways.Queue e is)

runs_it : (g : Over) (c : After-reserve g) (kept : Kept g.row.C.Denot) → kept ≡ c.reserve.new.self.state → (w : Way) → w ≡ ways.Run → IsWay (means kept) c.number-by.result.0 c.args.id w → let p = c.requires.pass in OpensNew p.0 (act p.0.number ops.RegisterNow c.args.id replies.Ok) (means c.reserve.new.self.state)
runs_it g c kept same w e is = let p = c.requires.pass in open_now p.0 c.reserve.new.self.place.me.0.front (means c.reserve.new.self.state) c.args.id c.ranges.id.fits (finds g c) (may g c) (way_is g c kept same w ways.Run e is)

-- what is open to the pass, the taker can pay
pays_it : (g : Over) (c : After-reserve g) (e x : Entry) → x ≡ e → let p = c.requires.pass in OpensNew p.0 e (means c.reserve.new.self.state) → (after : Stop) → at_entry step (means c.reserve.new.self.state) x ≡ Some after → CanPay stopping c.reserve.new.self.place.me.0 x (means c.reserve.new.self.state) after
pays_it g c e x same o after is =
    let p = c.requires.pass in let h = c.reserve.new.self in let now = means h.state in
    let a : o.after ≡ after = some_is o.after after (sym o.enabled ∙ ((λ i. at_entry step now (sym same i)) ∙ is)) in
    let can = subst (λ (s : Stop). CanPay stopping p.0 e now s) a o.pays in
    subst (λ (y : Entry). CanPay stopping h.place.me.0 y now after) (sym same) (pays_on c.args.self.now.turn c.args.pass.now c.args.pass.now h h p.0 p.1 (entered g c) c.reserve.ensures.held e now after can)

entry_is : (g : Over) (c : After-reserve g) (op : Op) (x : Entry) → x ≡ change c.number-by.result op (pos c.args.id) (pos 0) replies.Ok → (v : View Stop) → IsInnerWith c.args.self.now c.args.pass.now v → x ≡ act v.number op c.args.id replies.Ok
entry_is g c op x e v is = e ∙ (λ i. change (number_is g c v is i) op (pos c.args.id) (pos 0) replies.Ok)

pub make-made-requires-clause-pays : goal.make-made-requires-clause-pays
make-made-requires-clause-pays g c after is =
    let r = (goal.at.make-made-requires-clause-pays g c).After-reserve in let p = c.requires.pass in
    pays_it g r (act p.0.number ops.Register c.args.id replies.Ok) c.entry.result (entry_is g r ops.Register c.entry.result c.entry.ensures p.0 p.1) (queues g r c.state.result.now c.state.ensures c.way_of.result c.in-Queue.is c.way_of.ensures) after is

pub make-made-requires-in-Run-clause-room : goal.make-made-requires-in-Run-clause-room
make-made-requires-in-Run-clause-room g c after is =
    let r = (goal.at.make-made-requires-in-Run-clause-room g c).After-reserve in let p = c.requires.pass in
    let h = c.reserve.new.self in let now = means h.state in
    let o = runs_it g r c.state.result.now c.state.ensures c.way_of.result c.in-Run.is c.way_of.ensures in
    let e = entry_is g r ops.RegisterNow c.entry-in-Run.result c.entry-in-Run.ensures p.0 p.1 in
    let same : o.after ≡ after = some_is o.after after (sym o.enabled ∙ ((λ i. at_entry step now (sym e i)) ∙ is)) in
    let spare : 1 ≤ h.state.at.value.state.state.room = search rules in
    let l = ap (λ (s : Stop). length (members s)) same in
    let room = o.room in
    omega (arith, spare, l, room)

pub make-made-requires-in-Run-clause-pays : goal.make-made-requires-in-Run-clause-pays
make-made-requires-in-Run-clause-pays g c after is =
    let r = (goal.at.make-made-requires-in-Run-clause-pays g c).After-reserve in let p = c.requires.pass in
    pays_it g r (act p.0.number ops.RegisterNow c.args.id replies.Ok) c.entry-in-Run.result (entry_is g r ops.RegisterNow c.entry-in-Run.result c.entry-in-Run.ensures p.0 p.1) (runs_it g r c.state.result.now c.state.ensures c.way_of.result c.in-Run.is c.way_of.ensures) after is

-- the taker's number, after it made room
taker_is : (g : Over) (c : After-reserve g) (v : View Stop) → IsInnerWith c.args.self.now c.args.pass.now v → c.reserve.new.self.number ≡ record { 0 = v.number }
taker_is g c v is = let h = c.take-held.result in let k = c.take-held.ensures in c.reserve.ensures.same.0.number ∙ taker c.args.self.now.turn c.args.pass.now c.args.pass.now h h v is k.known k.held

never_seen : (g : Over) (c : After-reserve g) (kept : Kept g.row.C.Denot) → kept ≡ c.reserve.new.self.state → (w : Way) → w ≡ ways.Never → IsWay (means kept) c.number-by.result.0 c.args.id w → (k : ℕ) → at_look shows (means c.reserve.new.self.state) (look_of c.reserve.new.self.number ops.Never (to_z w64 c.args.id) (pos 0) replies.Ok k) ≡ true
never_seen g c kept same w e is k =
    let p = c.requires.pass in
    let a : to_z w64 c.args.id ≡ pos c.args.id = search rules in
    (λ i. at_look shows (means c.reserve.new.self.state) (look_of (taker_is g c p.0 p.1 i) ops.Never (to_z w64 c.args.id) (pos 0) replies.Ok k)) ∙ never_shown (means c.reserve.new.self.state) p.0.number c.args.id (to_z w64 c.args.id) k a c.ranges.id.fits (way_is g c kept same w ways.Never e is)

pub look-at-requires-clause-shown : goal.look-at-requires-clause-shown
look-at-requires-clause-shown g c = let r = (goal.at.look-at-requires-clause-shown g c).After-reserve in never_seen g r c.state.result.now c.state.ensures c.way_of.result c.in-Never.is c.way_of.ensures (length c.reserve.new.self.place.me.0.front)

queued_at : (g : Over) (c : After-leave_with g) (r : After-reserve g) (q : Pass Stop) → q ≡ c.leave_with.new.self.1.0 → (v : View Stop) → IsInnerWith c.args.self.now c.args.pass.now v
    → c.entry.result ≡ act v.number ops.Register c.args.id replies.Ok → Enters means stopping c.args.self.now.turn c.args.pass.now c.reserve.new.self
    → (w : View Stop) × IsInnerWith c.args.self.now q w × Changed v w (act v.number ops.Register c.args.id replies.Ok) c.leave_with.result
queued_at g c r q back v is e enters =
    let k = c.take-held.ensures in let t = c.args.self.now.turn in let h = c.reserve.new.self in
    let m = c.make-made.ensures in let l = c.leave_with in
    let d = changed t c.args.pass.now l.new.self.1.0 h c.make-made.new.self v is enters c.reserve.ensures.held c.make-made.result l.result (act v.number ops.Register c.args.id replies.Ok) h.state.at.value.state.state.once m.of.0 (m.of.1 ∙ e) m.made l.ensures.left (ap (λ x. x.now) (m.same.0.top ∙ c.reserve.ensures.same.0.top) ∙ k.top) m.same.1 l.ensures.position in (
      d.0,
      subst (λ (x : Pass Stop). IsInnerWith c.args.self.now x d.0) (sym back) d.1,
      d.2,
    )

pub returns-in-Queue-clause-put : goal.returns-in-Queue-clause-put
returns-in-Queue-clause-put g c v is =
    let a = goal.at.returns-in-Queue-clause-put g c in let r = a.After-reserve in
    queued_at g a.After-leave_with r _ (search rules) v is (entry_is g r ops.Register c.entry.result c.entry.ensures v is) (entered g r)

now_at : (g : Over) (c : After-leave_with-in-Run g) (r : After-reserve g) (q : Pass Stop) → q ≡ c.leave_with-in-Run.new.self.1.0 → (v : View Stop) → IsInnerWith c.args.self.now c.args.pass.now v
    → c.entry-in-Run.result ≡ act v.number ops.RegisterNow c.args.id replies.Ok → Enters means stopping c.args.self.now.turn c.args.pass.now c.reserve.new.self
    → (w : View Stop) × IsInnerWith c.args.self.now q w × Changed v w (act v.number ops.RegisterNow c.args.id replies.Ok) c.leave_with-in-Run.result
now_at g c r q back v is e enters =
    let k = c.take-held.ensures in let t = c.args.self.now.turn in let h = c.reserve.new.self in
    let m = c.make-made-in-Run.ensures in let l = c.leave_with-in-Run in
    let d = changed t c.args.pass.now l.new.self.1.0 h c.make-made-in-Run.new.self v is enters c.reserve.ensures.held c.make-made-in-Run.result l.result (act v.number ops.RegisterNow c.args.id replies.Ok) h.state.at.value.state.state.once m.of.0 (m.of.1 ∙ e) m.made l.ensures.left (ap (λ x. x.now) (m.same.0.top ∙ c.reserve.ensures.same.0.top) ∙ k.top) m.same.1 l.ensures.position in (
      d.0,
      subst (λ (x : Pass Stop). IsInnerWith c.args.self.now x d.0) (sym back) d.1,
      d.2,
    )

pub returns-in-Run-clause-put : goal.returns-in-Run-clause-put
returns-in-Run-clause-put g c v is =
    let a = goal.at.returns-in-Run-clause-put g c in let r = a.After-reserve in
    let d = now_at g a.After-leave_with-in-Run r _ (search rules) v is (entry_is g r ops.RegisterNow c.entry-in-Run.result c.entry-in-Run.ensures v is) (entered g r) in
    (d.0, d.1, (d.2, refl))

never_at : (g : Over) (c : After-leave-in-Never g) (q : Pass Stop) → q ≡ c.leave-in-Never.new.self.1.0 → (v : View Stop) → IsInnerWith c.args.self.now c.args.pass.now v
    → Enters means stopping c.args.self.now.turn c.args.pass.now c.reserve.new.self → c.reserve.new.self.number ≡ record { 0 = v.number }
    → at_look shows (means c.reserve.new.self.state) (look_of c.reserve.new.self.number ops.Never (to_z w64 c.args.id) (pos 0) replies.Ok (length c.reserve.new.self.place.me.0.front)) ≡ true
    → (w : View Stop) × IsInnerWith c.args.self.now q w × Looked v w (seen_at v.number ops.Never c.args.id replies.Ok c.look-at.result)
never_at g c q back v is enters number shown =
    let k = c.take-held.ensures in let t = c.args.self.now.turn in let h = c.reserve.new.self in
    let a : to_z w64 c.args.id ≡ pos c.args.id = search rules in
    let l = look_of h.number ops.Never (to_z w64 c.args.id) (pos 0) replies.Ok (length h.place.me.0.front) in
    let d = looked t c.args.pass.now c.leave-in-Never.new.self.1.0 h c.look-at.new.self v is enters c.reserve.ensures.held l h.state.at.value.state.state.once c.leave-in-Never.ensures (ap (λ x. x.now) (c.look-at.ensures.same.top ∙ c.reserve.ensures.same.0.top) ∙ k.top) c.look-at.ensures.view shown refl in (
      d.0,
      subst (λ (x : Pass Stop). IsInnerWith c.args.self.now x d.0) (sym back) d.1,
      subst (λ (x : Look). Looked v d.0 x) (λ i. look_of (number i) ops.Never (a i) (pos 0) replies.Ok (sym c.look-at.ensures.stamp i)) d.2,
    )

pub returns-in-Never-clause-put : goal.returns-in-Never-clause-put
returns-in-Never-clause-put g c v is =
    let b = goal.at.returns-in-Never-clause-put g c in let r = b.After-reserve in
    let d = never_at g b.After-leave-in-Never _ (search rules) v is (entered g r) (taker_is g r v is) (never_seen g r c.state.result.now c.state.ensures c.way_of.result c.in-Never.is c.way_of.ensures (length c.reserve.new.self.place.me.0.front)) in
    (d.0, d.1, (d.2, refl))

-- the new value comes last, and those that were there stay
pub leave_with-requires-clause-fits : goal.leave_with-requires-clause-fits
leave_with-requires-clause-fits g c =
    let suits = g.C.Action.suits in let id = c.args.id in let x = c.args.value in
    let old = c.reserve.new.self.state.at.value.state.values.items in
    let new = c.make-made.new.self.state.at.value.state.values.items in
    let rest = c.make-made.new.self.hand in
    let had = suit_same suits c.take-held.result.state.at.value.state.values.items old (sym c.reserve.ensures.alike.1) c.take-held.ensures.fits in
    let p : PutsIn old id (Some x) new rest = subst (λ (o : Option ℕ). Moves old (Some x) ops.Register o replies.Ok new rest) (small_is id c.ranges.id.fits) (subst (λ (e : Entry). Moves old (Some x) e.op (small_of e.a) e.reply new rest) c.entry.ensures c.make-made.ensures.hand) in
    suit_put suits old new id x (Some x) rest refl p c.requires.suits had
