use Rattle.std.proofs.Common.{◌≡◌, ◌∙◌, ◌≤◌, ◌-◌, refl, sym, subst, arith, None}
use Rattle.cx_names.specs.declared.Reply.TheVariants as replies
use Rattle.cx_machine.specs.declared.kind.Op.TheVariants as ops
use Rattle.cx_machine.specs.Stop.{Stop}
use Rattle.cx_turn.specs.declared.view.View.{View}
use Rattle.cx_turn.specs.declared.pass.Note.{Note}
use Rattle.cx_turn.specs.Passes.{IsNoteWith, IsPassWith}
use Rattle.cx_turn.specs.Views.{both_of, note_right}
use Rattle.cx_stop.specs.Kinds.{means, stopping}
use Rattle.cx_stop.specs.Acts.{act, MayMake}
use Rattle.cx_stop.specs.Stops.{stop_id, IsStopPassWith}
use Rattle.cx_stop.proofs.Sourcing.{may_drop, share_left, with_fewer}
use Rattle.cx_stop.proofs.Passing.{of_view, left_is}
use Rattle.cx_stop.proofs.state.StopState.drop_one.Given.{Over}
use Rattle.cx_stop.proofs.state.StopState.drop_one.Goals.{After-take_in}
use Rattle.cx_stop.proofs.state.StopState.drop_one.Goals as goal

-- the pass once it has taken the source in
taken : (g : Over) (c : After-take_in g) (v : View Stop) → IsStopPassWith c.args.self.now c.args.pass.now v → IsPassWith means stopping c.args.self.now.turn c.take_in.new.pass (both_of v c.requires.source.0.0)
taken g c v is =
    let s = c.requires.source.0 in
    let note = subst (λ (n : Note Stop). IsNoteWith means stopping c.args.self.now.turn n s.0) (sym c.replace-note.ensures.value) s.1.note in
    c.take_in.ensures v s.0 is.pass note

-- the source's share is what it held
held : (g : Over) (c : After-take_in g) → c.requires.source.0.0.share ≡ c.held-held.result
held g c = let s = c.requires.source.0 in s.1.note.counted.part ∙ sym c.held-held.ensures

pub take_in-requires-clause-pass : goal.take_in-requires-clause-pass
take_in-requires-clause-pass g c = let p = c.requires.pass in (p.0, p.1.pass)

pub make-at-requires-clause-pass : goal.make-at-requires-clause-pass
make-at-requires-clause-pass g c =
    let r = (goal.at.make-at-requires-clause-pass g c).After-take_in in let p = c.requires.pass in
    (both_of p.0 c.requires.source.0.0, taken g r p.0 p.1)

pub make-at-requires-clause-open : goal.make-at-requires-clause-open
make-at-requires-clause-open g c z iz =
    let r = (goal.at.make-at-requires-clause-open g c).After-take_in in let p = c.requires.pass in
    let y = c.requires.source.0.0 in
    let h = held g r ∙ c.held-held.ensures in let o = c.requires.source.1 in
    let a = p.1.pass.counted.may in let l = c.requires.left in
    of_view (stop_id c.args.self.now) (λ (x : View Stop). MayMake x (act x.number ops.Drop 0 replies.Ok)) c.take_in.new.pass (both_of p.0 y) z (taken g r p.0 p.1) iz (may_drop (both_of p.0 y) (omega (arith, h, o)) (omega (arith, a, l)))

pub one_less-requires : goal.one_less-requires
one_less-requires g c = let h = c.held-held.ensures in let o = c.requires.source.1 in omega (arith, h, o)

pub note-requires-clause-pass : goal.note-requires-clause-pass
note-requires-clause-pass g c =
    let r = (goal.at.note-requires-clause-pass g c).After-take_in in let p = c.requires.pass in
    let q = c.make-at.ensures (both_of p.0 c.requires.source.0.0) (taken g r p.0 p.1) in
    (q.0, q.1)

pub note-requires-clause-parts : goal.note-requires-clause-parts
note-requires-clause-parts g c =
    let r = (goal.at.note-requires-clause-parts g c).After-take_in in let p = c.requires.pass in
    let s = c.requires.source.0 in let y = s.0 in
    let b = taken g r p.0 p.1 in
    let q = c.make-at.ensures (both_of p.0 y) b in
    let h = held g r in let e = c.held-held.ensures in let o : 1 ≤ c.held-held.result = (let x = c.requires.source.1 in omega (arith, x, e)) in
    let there = share_left p.0 y q.0 c.make-at.result s.1.note.note s.1.calls s.1.ids (omega (arith, h, o)) b.known q.2 in
    let part = q.1.counted.part in let n = c.one_less.ensures in
    (omega (arith, there, part, n, h), omega arith)

pub returns-clause-source : goal.returns-clause-source
returns-clause-source g c =
    let r = (goal.at.returns-clause-source g c).After-take_in in let p = c.requires.pass in
    let q = c.make-at.ensures (both_of p.0 c.requires.source.0.0) (taken g r p.0 p.1) in
    let note = c.note.ensures.note q.0 q.1 in
    let a = note.counted.part in let n = c.one_less.ensures in let h = c.held-held.ensures in let o = c.requires.source.1 in
    ((note_right q.0 0 c.one_less.result None, record { note = note; calls = refl; ids = refl }), omega (arith, a, n, h, o))

pub returns-clause-idle : goal.returns-clause-idle
returns-clause-idle g c =
    let r = (goal.at.returns-clause-idle g c).After-take_in in let p = c.requires.pass in let s = c.requires.source.0 in
    let may : 1 ≤ p.0.left = (let a = p.1.pass.counted.may in let l = c.requires.left in omega (arith, a, l)) in
    let h = held g r in let e = c.held-held.ensures in let o : 1 ≤ c.held-held.result = (let x = c.requires.source.1 in omega (arith, x, e)) in
    let same : s.0.share - 1 ≡ c.one_less.result = (let x = c.one_less.ensures in omega (arith, x, h)) in
    let d = with_fewer (stop_id c.args.self.now) c.args.pass.now c.take_in.new.pass c.make-at.new.pass c.note.new.pass p.0 s.0 c.args.src.now p.1 s.1 (taken g r p.0 p.1) c.make-at.result c.one_less.result same (omega (arith, h, o)) may c.make-at.ensures c.note.ensures.rest in
    (d.0, d.1)

pub returns-clause-left : goal.returns-clause-left
returns-clause-left g c =
    let r = (goal.at.returns-clause-left g c).After-take_in in let p = c.requires.pass in let s = c.requires.source.0 in
    let may : 1 ≤ p.0.left = (let a = p.1.pass.counted.may in let l = c.requires.left in omega (arith, a, l)) in
    let h = held g r in let e = c.held-held.ensures in let o : 1 ≤ c.held-held.result = (let x = c.requires.source.1 in omega (arith, x, e)) in
    let same : s.0.share - 1 ≡ c.one_less.result = (let x = c.one_less.ensures in omega (arith, x, h)) in
    let d = with_fewer (stop_id c.args.self.now) c.args.pass.now c.take_in.new.pass c.make-at.new.pass c.note.new.pass p.0 s.0 c.args.src.now p.1 s.1 (taken g r p.0 p.1) c.make-at.result c.one_less.result same (omega (arith, h, o)) may c.make-at.ensures c.note.ensures.rest in
    left_is (stop_id c.args.self.now) 1 c.args.pass.now.pass c.note.new.pass p.0 d.0 p.1.pass d.1.pass d.3

pub returns-clause-did : goal.returns-clause-did
returns-clause-did g c v is =
    let r = (goal.at.returns-clause-did g c).After-take_in in let s = c.requires.source.0 in
    let may : 1 ≤ v.left = (let a = is.pass.counted.may in let l = c.requires.left in omega (arith, a, l)) in
    let h = held g r in let e = c.held-held.ensures in let o : 1 ≤ c.held-held.result = (let x = c.requires.source.1 in omega (arith, x, e)) in
    let same : s.0.share - 1 ≡ c.one_less.result = (let x = c.one_less.ensures in omega (arith, x, h)) in
    let d = with_fewer (stop_id c.args.self.now) c.args.pass.now c.take_in.new.pass c.make-at.new.pass c.note.new.pass v s.0 c.args.src.now is s.1 (taken g r v is) c.make-at.result c.one_less.result same (omega (arith, h, o)) may c.make-at.ensures c.note.ensures.rest in
    (d.0, d.1, d.2)
