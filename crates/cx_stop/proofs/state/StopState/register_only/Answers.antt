use Rattle.std.proofs.Common.{◌≡◌, ◌∙◌, ◌+◌, ◌*◌, refl, ap, subst, ℕ, arith, Some}
use Rattle.cx_machine.specs.Stop.{Stop}
use Rattle.cx_turn.specs.declared.view.View.{View}
use Rattle.cx_names.specs.declared.ThreadNo.{ThreadNo}
use Rattle.cx_machine.specs.Acts.{at_entry}
use Rattle.cx_machine.specs.Meaning.{run}
use Rattle.cx_machine.specs.Stop.{step, is_fresh}
use Rattle.cx_stop.specs.declared.pass.StopPass.{StopPass}
use Rattle.cx_stop.specs.Stops.{stop_id, FreshFrom, IsInnerWith}
use Rattle.cx_stop.proofs.Others.{fresh_found}
use Rattle.cx_stop.proofs.Going.{sees_of}
use Rattle.cx_stop.proofs.Passing.{of_view, same_left, passes_on}
use Rattle.cx_stop.specs.Puts.{IsUnder}
use Rattle.cx_stop.proofs.Registering.{puts_of, under_of}
use Rattle.cx_stop.proofs.state.StopState.register_only.Given.{Over}
use Rattle.cx_stop.proofs.state.StopState.register_only.Goals.{After-id_of-id}
use Rattle.cx_stop.proofs.state.StopState.register_only.Goals as goal

pub id_of-id-requires : goal.id_of-id-requires
id_of-id-requires g c =
    let p = c.requires.pass in
    let a = p.1.pass.known.below p.1.pass.counts in
    let b = p.1.pass.seated in
    let d = p.1.pass.numbered in
    let e = ap (λ (t : ThreadNo). t.0) c.number.ensures in
    let f = c.args.self.now.turn.few in
    let t = c.requires.tag.1 in
    (omega (arith, a, b, d, e, f), t)

pub put-requires-clause-pass : goal.put-requires-clause-pass
put-requires-clause-pass g c = let p = c.requires.pass in (p.0, p.1.pass)

-- the ID, by the pass's number and by that of its view
by_pass : (g : Over) (c : After-id_of-id g) → c.args.pass.now.pass.number.0 * 4096 + c.args.tag ≡ c.id_of-id.result
by_pass g c = let a = c.id_of-id.ensures in let e = ap (λ (t : ThreadNo). t.0) c.number.ensures in omega (arith, a, e)

by_view : (g : Over) (c : After-id_of-id g) (v : View Stop) → IsInnerWith c.args.self.now c.args.pass.now.pass v → c.id_of-id.result ≡ v.number * 4096 + c.args.tag
by_view g c v is = let a = by_pass g c in let d = is.numbered in omega (arith, a, d)

pub put-requires-clause-suits : goal.put-requires-clause-suits
put-requires-clause-suits g c = let r = (goal.at.put-requires-clause-suits g c).After-id_of-id in subst (λ (n : ℕ). g.C.Action.suits c.args.cb n) (by_pass g r) c.requires.suits

pub put-requires-clause-fresh : goal.put-requires-clause-fresh
put-requires-clause-fresh g c v iv f now fnd =
    let r = (goal.at.put-requires-clause-fresh g c).After-id_of-id in
    let p = c.requires.pass in
    let next = c.args.pass.now.next_tag in
    let fr : (m : Stop) → run (at_entry step) (Some v.start) v.front ≡ Some m → FreshFrom v.number next m = of_view (stop_id c.args.self.now) (λ (z : View Stop). (m : Stop) → run (at_entry step) (Some z.start) z.front ≡ Some m → FreshFrom z.number next m) c.args.pass.now.pass p.0 v p.1.pass iv p.1.fresh in
    let k = iv.known in
    let a = fresh_found v next f k.legal.0 now (k.own iv.counts) k.legal.1 (fr k.legal.0 k.legal.1) fnd in
    (λ i. is_fresh now v.number (by_view g r v iv i)) ∙ a c.args.tag c.requires.tag.0 c.requires.tag.1

pub returns-in-Ok-clause-idle : goal.returns-in-Ok-clause-idle
returns-in-Ok-clause-idle g c =
    let r = (goal.at.returns-in-Ok-clause-idle g c).After-id_of-id in let p = c.requires.pass in
    let q = c.in-Ok.ensures.put p.0 p.1.pass in
    let d = puts_of (stop_id c.args.self.now) c.args.pass.now c.put.new.pass p.0 q.0 p.1 q.1 c.args.tag c.id_of-id.result c.id_of-id.type_inv (by_view g r p.0 p.1.pass) c.requires.tag.0 c.args.cb c.in-Ok.put c.requires.left q.2 in
    (q.0, d.0)

pub returns-in-Ok-clause-left : goal.returns-in-Ok-clause-left
returns-in-Ok-clause-left g c =
    let r = (goal.at.returns-in-Ok-clause-left g c).After-id_of-id in let p = c.requires.pass in
    let q = c.in-Ok.ensures.put p.0 p.1.pass in
    (puts_of (stop_id c.args.self.now) c.args.pass.now c.put.new.pass p.0 q.0 p.1 q.1 c.args.tag c.id_of-id.result c.id_of-id.type_inv (by_view g r p.0 p.1.pass) c.requires.tag.0 c.args.cb c.in-Ok.put c.requires.left q.2).1

pub returns-in-Ok-clause-put : goal.returns-in-Ok-clause-put
returns-in-Ok-clause-put g c v is =
    let r = (goal.at.returns-in-Ok-clause-put g c).After-id_of-id in
    let q = c.in-Ok.ensures.put v is.pass in
    let d = puts_of (stop_id c.args.self.now) c.args.pass.now c.put.new.pass v q.0 is q.1 c.args.tag c.id_of-id.result c.id_of-id.type_inv (by_view g r v is.pass) c.requires.tag.0 c.args.cb c.in-Ok.put c.requires.left q.2 in
    (q.0, d.0, d.2)

pub returns-in-Err-clause-idle : goal.returns-in-Err-clause-idle
returns-in-Err-clause-idle g c =
    let p = c.requires.pass in
    let q = c.in-Err.ensures.refused p.0 p.1.pass in
    let s : StopPass = record { pass = c.put.new.pass; next_tag = c.args.pass.now.next_tag } in
    (q.0, passes_on (stop_id c.args.self.now) c.args.pass.now s p.0 q.0 p.1 q.1 q.2 (omega arith))

pub returns-in-Err-clause-same : goal.returns-in-Err-clause-same
returns-in-Err-clause-same g c =
    let p = c.requires.pass in
    let q = c.in-Err.ensures.refused p.0 p.1.pass in
    (same_left (stop_id c.args.self.now) c.args.pass.now.pass c.put.new.pass p.0 q.0 p.1.pass q.1 (ap (λ (z : View Stop). z.left) q.2.view), refl, c.in-Err.ensures.value)

pub returns-in-Err-clause-refused : goal.returns-in-Err-clause-refused
returns-in-Err-clause-refused g c v is =
    let q = c.in-Err.ensures.refused v is.pass in
    let s : StopPass = record { pass = c.put.new.pass; next_tag = c.args.pass.now.next_tag } in
    (q.0, passes_on (stop_id c.args.self.now) c.args.pass.now s v q.0 is q.1 q.2 (omega arith), sees_of v q.0 q.2)

pub returns-in-Ok-clause-under : goal.returns-in-Ok-clause-under
returns-in-Ok-clause-under g c =
    let r = (goal.at.returns-in-Ok-clause-under g c).After-id_of-id in let p = c.requires.pass in
    let q = c.in-Ok.ensures.put p.0 p.1.pass in
    let d = puts_of (stop_id c.args.self.now) c.args.pass.now c.put.new.pass p.0 q.0 p.1 q.1 c.args.tag c.id_of-id.result c.id_of-id.type_inv (by_view g r p.0 p.1.pass) c.requires.tag.0 c.args.cb c.in-Ok.put c.requires.left q.2 in
    let s : StopPass = record { pass = c.put.new.pass; next_tag = c.args.tag + 1 } in
    let id : p.0.number * 4096 + c.args.tag ≡ c.args.pass.now.pass.number.0 * 4096 + c.args.tag = ap (λ (n : ℕ). n * 4096 + c.args.tag) p.1.pass.numbered in
    subst (λ (k : ℕ). IsUnder c.args.self.now s k c.in-Ok.put) id (under_of c.args.self.now s p.0 q.0 d.0 (p.0.number * 4096 + c.args.tag) c.args.cb c.in-Ok.put d.2)
