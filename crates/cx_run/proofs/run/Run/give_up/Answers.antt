use Rattle.std.proofs.Common.{◌≡◌, slice_set, refl, ap, ◌∙◌, arith}
use Rattle.cx_run.specs.declared.place.Place.{Place}
use Rattle.cx_run.specs.declared.place.Place.TheVariants as places
use Rattle.cx_run.specs.Runs.{running_in}
use Rattle.cx_run.proofs.Joined.{left_out, out_end, none_runs}
use Rattle.cx_run.proofs.Keeping.{below, length_set}
use Rattle.cx_run.proofs.Parts.{idle_may, may_set, place_was}
use Rattle.cx_run.proofs.Stepped.{come_more}
use Rattle.cx_run.proofs.run.Run.give_up.Goals as goal

pub loop-i-init : goal.loop-i-init
loop-i-init g c = record { many = refl; may = c.requires.kept.may_run; out = λ a b h. h; come = λ j p low at_p. absurd (omega (arith, low)) }

pub await_place-requires-clause-may : goal.await_place-requires-clause-may
await_place-requires-clause-may g c κs within =
    let low = c.loop-i-test.true in
    let end = c.len-i-end.ensures in
    let long = c.args.self.others.ok.0 in
    let many = c.loop-i.invariant.many in
    c.loop-i.invariant.may c.loop-i.i c.replace-place.result (place_was c.loop-i.others.items c.loop-i.i c.index_mut.result.now c.replace-place.result c.replace-place.result (omega (arith, low, end, long, many)) c.index_mut.ensures.value c.replace-place.ensures.value refl)

pub loop-i-preserved : goal.loop-i-preserved
loop-i-preserved g c =
    let ps = c.loop-i.others.items in
    let i = c.loop-i.i in
    let q = c.replace-place.new.dest in
    let low = c.loop-i-test.true in
    let end = c.len-i-end.ensures in
    let long = c.args.self.others.ok.0 in
    let before = c.loop-i.invariant in
    let many = before.many in
    let at_p = place_was ps i c.index_mut.result.now c.replace-place.result c.replace-place.result (omega (arith, low, end, long, many)) c.index_mut.ensures.value c.replace-place.ensures.value refl in
    let set_ : slice_set ps i q ≡ slice_set ps i places.Idle = ap (λ (z : Place g.row.G.Denot). slice_set ps i z) c.replace-place.ensures.after in
    record {
      many = length_set ps i q ∙ before.many;
      may = may_set ps i q (idle_may q c.replace-place.ensures.after) before.may;
      out = λ a b h. c.await_place.ensures.out a b (running_in (slice_set ps i q)) (left_out ps (slice_set ps i q) i c.replace-place.result a b _ _ at_p set_ (before.out a b h));
      come = come_more ps (slice_set ps i q) i places.Idle set_ refl before.come;
    }

pub returns : goal.returns
returns g c = record {
  joined = λ a b h.
      let ps = c.loop-i.others.items in
      let end = c.len-i-end.ensures in
      let long = c.args.self.others.ok.0 in
      let many = c.loop-i.invariant.many in
      let done = c.loop-i-test.false in
      out_end ps a b _ _ (none_runs ps (λ j p at_p. let low = below ps j p at_p in c.loop-i.invariant.come j p (omega (arith, low, many, end, long, done)) at_p)) (c.loop-i.invariant.out a b h);
}
