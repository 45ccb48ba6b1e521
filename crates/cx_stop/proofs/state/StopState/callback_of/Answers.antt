use Rattle.std.proofs.Common.{◌≡◌, ◌+◌, ◌-◌, refl, arith, Some}
use Rattle.cx_machine.specs.Stop.{Stop}
use Rattle.cx_turn.specs.declared.view.View.{View}
use Rattle.cx_turn.specs.Views.{Has, note_left}
use Rattle.cx_turn.proofs.Histories.{prefix_refl}
use Rattle.cx_stop.specs.declared.pass.StopPass.{StopPass}
use Rattle.cx_stop.specs.Stops.{stop_id}
use Rattle.cx_stop.proofs.Passing.{sees_on, of_view, left_is}
use Rattle.cx_stop.proofs.state.StopState.callback_of.Goals as goal

pub note-note-requires-clause-pass : goal.note-note-requires-clause-pass
note-note-requires-clause-pass g c = let p = c.requires.pass in (p.0, p.1.pass)

pub note-note-requires-clause-id : goal.note-note-requires-clause-id
note-note-requires-clause-id g c x ix = let p = c.requires.pass in of_view (stop_id c.args.self.now) (λ (z : View Stop). Has z.holds (Some c.args.id)) c.args.pass.now.pass p.0 x p.1.pass ix (c.requires.holds p.0 p.1)

pub returns-clause-rest : goal.returns-clause-rest
returns-clause-rest g c v is =
    let q : StopPass = record { pass = c.note-note.new.pass; next_tag = c.args.pass.now.next_tag } in
    sees_on (stop_id c.args.self.now) c.args.pass.now q v (note_left v 1 0 (Some c.args.id)) is (c.note-note.ensures.rest v is.pass) (prefix_refl v.front) refl refl refl (omega arith)

pub returns-clause-idle : goal.returns-clause-idle
returns-clause-idle g c =
    let p = c.requires.pass in
    let q : StopPass = record { pass = c.note-note.new.pass; next_tag = c.args.pass.now.next_tag } in
    (note_left p.0 1 0 (Some c.args.id), sees_on (stop_id c.args.self.now) c.args.pass.now q p.0 (note_left p.0 1 0 (Some c.args.id)) p.1 (c.note-note.ensures.rest p.0 p.1.pass) (prefix_refl p.0.front) refl refl refl (omega arith))

pub returns-clause-left : goal.returns-clause-left
returns-clause-left g c =
    let p = c.requires.pass in
    let a = p.1.pass.counted.may in let l = c.requires.left in
    let less : (p.0.left - 1) + 1 ≡ p.0.left = omega (arith, a, l) in
    left_is (stop_id c.args.self.now) 1 c.args.pass.now.pass c.note-note.new.pass p.0 (note_left p.0 1 0 (Some c.args.id)) p.1.pass (c.note-note.ensures.rest p.0 p.1.pass) less

pub returns-clause-note : goal.returns-clause-note
returns-clause-note g c v is = record { note = c.note-note.ensures.note v is.pass; call = refl; share = refl; id = refl }
