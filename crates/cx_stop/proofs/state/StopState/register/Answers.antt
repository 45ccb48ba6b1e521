use Rattle.std.proofs.Common.{◌≡◌, ◌∙◌, ◌<◌, ◌+◌, ◌*◌, ◌^◌, [], ◌∷◌, refl, sym, ap, subst, ℕ, arith, Some, IsTrue}
use Rattle.cx_machine.specs.Stop.{Stop}
use Rattle.cx_turn.specs.declared.view.View.{View}
use Rattle.cx_names.specs.declared.ThreadNo.{ThreadNo}
use Rattle.cx_machine.specs.Words.{has}
use Rattle.cx_turn.specs.Views.{Has, note_left, note_right}
use Rattle.cx_stop.specs.declared.steps.Put.{Put}
use Rattle.cx_stop.specs.declared.steps.Put.TheVariants as puts
use Rattle.cx_stop.specs.Puts.{Puts, put_cost}
use Rattle.cx_stop.specs.Runs.{Tells, Begins, RunsOn}
use Rattle.cx_stop.specs.Stops.{stop_id, IsStopPassWith}
use Rattle.cx_stop.proofs.Going.{begins_number}
use Rattle.cx_stop.proofs.Passing.{of_view}
use Rattle.cx_stop.proofs.Registering.{did_queue}
use Rattle.cx_stop.proofs.state.StopState.register.Given.{Over}
use Rattle.cx_stop.proofs.state.StopState.register.Goals.{After-id_of-id}
use Rattle.cx_stop.proofs.state.StopState.register.Goals as goal

pub id_of-id-requires : goal.id_of-id-requires
id_of-id-requires g c =
    let p = c.requires.pass in
    let a = p.1.pass.known.below p.1.pass.counts in
    let b = p.1.pass.seated in
    let d = p.1.pass.numbered in
    let e = ap (λ (t : ThreadNo). t.0) c.number.ensures in
    let f = c.args.self.now.turn.few in
    let t = c.requires.tag.1 in
    (omega (arith, a, b, d, e, f), t)

pub register_only-requires-clause-pass : goal.register_only-requires-clause-pass
register_only-requires-clause-pass g c = let p = c.requires.pass in (p.0, p.1)

-- the ID, by the pass's number and by that of its view
by_pass : (g : Over) (c : After-id_of-id g) → c.args.pass.now.pass.number.0 * 4096 + c.args.tag ≡ c.id_of-id.result
by_pass g c = let a = c.id_of-id.ensures in let e = ap (λ (t : ThreadNo). t.0) c.number.ensures in omega (arith, a, e)

by_view : (g : Over) (c : After-id_of-id g) (v : View Stop) → IsStopPassWith c.args.self.now c.args.pass.now v → c.id_of-id.result ≡ v.number * 4096 + c.args.tag
by_view g c v is = let a = by_pass g c in let d = is.pass.numbered in omega (arith, a, d)

low : (g : Over) (c : After-id_of-id g) (v : View Stop) → IsStopPassWith c.args.self.now c.args.pass.now v → v.number * 4096 + c.args.tag < 2 ^ 32
low g c v is = let t = c.id_of-id.type_inv in let e = by_view g c v is in omega (arith, t, e)

-- what was put, once it is known which
which : (g : Over) (c : After-id_of-id g) (v w : View Stop) (put z : Put g.row.C.Denot) → put ≡ z → Puts v w (v.number * 4096 + c.args.tag) c.args.cb put → Puts v w (v.number * 4096 + c.args.tag) c.args.cb z
which g c v w put z e h = subst (λ (y : Put g.row.C.Denot). Puts v w (v.number * 4096 + c.args.tag) c.args.cb y) e h

pub callback_of-requires-clause-left : goal.callback_of-requires-clause-left
callback_of-requires-clause-left g c =
    let l = c.in-Ok.ensures.left in
    let k = ap (λ (z : Put g.row.C.Denot). put_cost z) c.in-Queued.is in
    let f = c.requires.left in
    omega (arith, l, k, f)

pub callback_of-requires-clause-holds : goal.callback_of-requires-clause-holds
callback_of-requires-clause-holds g c x ix =
    let r = (goal.at.callback_of-requires-clause-holds g c).After-id_of-id in let p = c.requires.pass in
    let q = c.in-Ok.ensures.put p.0 p.1 in
    let h = which g r p.0 q.0 c.in-Ok.put (puts.Queued c.in-Queued.at) c.in-Queued.is q.2 in
    of_view (stop_id c.args.self.now) (λ (z : View Stop). Has z.holds (Some c.id_of-id.result)) c.register_only.new.pass.pass q.0 x q.1.pass ix.pass (subst (λ (k : ℕ). IsTrue (has q.0.holds k)) (sym (by_view g r p.0 p.1)) h.1)

-- the callback that is begun, by its ID
begun : (g : Over) (c : After-id_of-id g) (v w : View Stop) (n : ℕ) → IsStopPassWith c.args.self.now c.args.pass.now v → Begins v w (v.number * 4096 + c.args.tag) n → Begins v w c.id_of-id.result n
begun g c v w n is b = subst (λ (k : ℕ). Begins v w k n) (sym (by_view g c v is)) b

pub run_one-requires-clause-pass : goal.run_one-requires-clause-pass
run_one-requires-clause-pass g c =
    let r = (goal.at.run_one-requires-clause-pass g c).After-id_of-id in let p = c.requires.pass in
    let q = c.in-Ok.ensures.put p.0 p.1 in
    let h = which g r p.0 q.0 c.in-Ok.put (puts.Now c.in-Now.at c.in-Now.value) c.in-Now.is q.2 in
    let number : p.0.number ≡ q.0.number = sym (begins_number p.0 q.0 (p.0.number * 4096 + c.args.tag) c.in-Now.at h.0) in
    (p.0, q.0, q.1, begun g r p.0 q.0 c.in-Now.at p.1 h.0, subst (λ (n : ℕ). g.U.Runs.serves c.args.runner.now (stop_id c.args.self.now) n) number p.2)

pub run_one-requires-clause-suits : goal.run_one-requires-clause-suits
run_one-requires-clause-suits g c =
    let r = (goal.at.run_one-requires-clause-suits g c).After-id_of-id in let p = c.requires.pass in
    let q = c.in-Ok.ensures.put p.0 p.1 in
    let h = which g r p.0 q.0 c.in-Ok.put (puts.Now c.in-Now.at c.in-Now.value) c.in-Now.is q.2 in
    subst (λ (y : g.row.C.Denot × ℕ). g.C.Action.suits y.0 y.1) (λ i. (sym h.1 i, by_pass g r i)) c.requires.suits

pub returns-in-Queued-clause-left : goal.returns-in-Queued-clause-left
returns-in-Queued-clause-left g c =
    let l = c.in-Ok.ensures.left in
    let k = ap (λ (z : Put g.row.C.Denot). put_cost z) c.in-Queued.is in
    let m = c.callback_of.ensures.left in
    omega (arith, l, k, m)

pub returns-in-Queued-clause-registered : goal.returns-in-Queued-clause-registered
returns-in-Queued-clause-registered g c v is =
    let r = (goal.at.returns-in-Queued-clause-registered g c).After-id_of-id in
    let q = c.in-Ok.ensures.put v is in
    let h = which g r v q.0 c.in-Ok.put (puts.Queued c.in-Queued.at) c.in-Queued.is q.2 in
    let idr = c.id_of-id.result in
    let id = v.number * 4096 + c.args.tag in
    let same = by_view g r v is in
    let rest = subst (λ (k : ℕ). IsStopPassWith c.args.self.now c.callback_of.new.pass (note_left q.0 1 0 (Some k))) same (c.callback_of.ensures.rest q.0 q.1) in (
      note_left q.0 1 0 (Some id),
      rest,
      (
        record {
          did = did_queue v q.0 id c.in-Queued.at (low g r v is) (q.1.pass.known.own q.1.pass.counts) q.1.pass.known h.0;
          known = note_right q.0 1 0 (Some idr);
          note = c.callback_of.ensures.note q.0 q.1;
          number = c.callback_of.ensures.id ∙ same;
        },
        refl,
      ),
    )

pub returns-in-Now-clause-left : goal.returns-in-Now-clause-left
returns-in-Now-clause-left g c =
    let l = c.in-Ok.ensures.left in
    let k = ap (λ (z : Put g.row.C.Denot). put_cost z) c.in-Now.is in
    let m = c.run_one.ensures.left in
    omega (arith, l, k, m)

-- the callback that was run at once
ran : (g : Over) (c : After-id_of-id g) (v w : View Stop) (put : Put g.row.C.Denot) (at : ℕ) (value : g.row.C.Denot) → IsStopPassWith c.args.self.now c.args.pass.now v → put ≡ puts.Now at value → (now before : ℕ) → now + put_cost put ≡ before → w.left ≡ now → v.left ≡ before → w.left + 2 ≡ v.left
ran g c v w put at value is e now before l m k = let z = ap (λ (y : Put g.row.C.Denot). put_cost y) e in omega (arith, l, m, k, z)

pub returns-in-Now-clause-registered : goal.returns-in-Now-clause-registered
returns-in-Now-clause-registered g c v is =
    let r = (goal.at.returns-in-Now-clause-registered g c).After-id_of-id in
    let q = c.in-Ok.ensures.put v is in
    let h = which g r v q.0 c.in-Ok.put (puts.Now c.in-Now.at c.in-Now.value) c.in-Now.is q.2 in
    let spent = ran g r v q.0 c.in-Ok.put c.in-Now.at c.in-Now.value is c.in-Now.is c.register_only.new.pass.pass.left c.args.pass.now.pass.left c.in-Ok.ensures.left q.1.pass.counted.may is.pass.counted.may in
    let d = c.run_one.ensures.pass v q.0 2 q.1 (begun g r v q.0 c.in-Now.at is h.0) spent in (
      d.0,
      d.1,
      subst (λ (k : ℕ). RunsOn v d.0 2 ((k, c.in-Now.at) ∷ ((k, c.run_one.result) ∷ [])) × Tells (g.U.Runs.ran c.args.runner.now) ((k, c.in-Now.at) ∷ ((k, c.run_one.result) ∷ [])) (g.U.Runs.ran c.run_one.new.runner) × g.U.Runs.since c.args.runner.now v c.run_one.new.runner d.0) (by_view g r v is) (d.2, c.run_one.ensures.ran, d.3),
    )

pub returns-in-Now-clause-idle : goal.returns-in-Now-clause-idle
returns-in-Now-clause-idle g c =
    let r = (goal.at.returns-in-Now-clause-idle g c).After-id_of-id in let p = c.requires.pass in
    let q = c.in-Ok.ensures.put p.0 p.1 in
    let h = which g r p.0 q.0 c.in-Ok.put (puts.Now c.in-Now.at c.in-Now.value) c.in-Now.is q.2 in
    let spent = ran g r p.0 q.0 c.in-Ok.put c.in-Now.at c.in-Now.value p.1 c.in-Now.is c.register_only.new.pass.pass.left c.args.pass.now.pass.left c.in-Ok.ensures.left q.1.pass.counted.may p.1.pass.counted.may in
    let d = c.run_one.ensures.pass p.0 q.0 2 q.1 (begun g r p.0 q.0 c.in-Now.at p.1 h.0) spent in
    (d.0, d.1)

pub returns-in-Never-clause-left : goal.returns-in-Never-clause-left
returns-in-Never-clause-left g c = let l = c.in-Ok.ensures.left in let k = ap (λ (z : Put g.row.C.Denot). put_cost z) c.in-Never.is in omega (arith, l, k)

pub returns-in-Never-clause-registered : goal.returns-in-Never-clause-registered
returns-in-Never-clause-registered g c v is =
    let r = (goal.at.returns-in-Never-clause-registered g c).After-id_of-id in
    let q = c.in-Ok.ensures.put v is in
    let h = which g r v q.0 c.in-Ok.put (puts.Never c.in-Never.at c.in-Never.value) c.in-Never.is q.2 in
    (q.0, q.1, (h.0, h.1, refl))

pub returns-in-Err-clause-same : goal.returns-in-Err-clause-same
returns-in-Err-clause-same g c = let s = c.in-Err.ensures.same in (s.0, s.1, refl, s.2)

pub returns-in-Err-clause-refused : goal.returns-in-Err-clause-refused
returns-in-Err-clause-refused g c = c.in-Err.ensures.refused
