use Rattle.std.proofs.Common.{map, length, sym, ◌∙◌, ◌+◌, ◌≡◌, ◌<◌, ap, subst, arith, ℕ}
use Rattle.std.proofs.lemmas.List.{length-map}
use Rattle.cx_checker.specs.Views.{placed_of}
use Rattle.cx_checker.specs.Marks.{marked}
use Rattle.cx_checker.specs.Buckets.{bucket_at}
use Rattle.cx_checker.proofs.Shows.{Stood, told_below, stands, stands_on, never_refused, never_stops, told_none, told_more, told_all}
use Rattle.cx_checker.proofs.showing.verdicts_on.Goals as goal

pub loop-k-init : goal.loop-k-init
loop-k-init c = record {
  stood = stands c.args.kind c.in_ok-state.state (map placed_of c.args.changes.now) c.in_ok-state.ensures c.requires.gapless c.requires.stepwise;
  count = c.in_ok-verdicts.ensures.count;
  each = λ i m got. told_none c.args.kind (map placed_of c.args.changes.now) m (marked c.in_ok-verdicts.verdicts.items i) (c.in_ok-verdicts.ensures.none i);
}

pub returns-in-None : goal.returns-in-None
returns-in-None c = absurd (never_stops c.args.kind c.loop-k.state (map placed_of c.args.changes.now) c.loop-k.k (length c.args.changes.now) c.in-None.ensures c.loop-k-test.true (sym (length-map c.args.changes.now placed_of)) c.loop-k.invariant.stood)

pub returns-then-not-made : goal.returns-then-not-made
returns-then-not-made c = absurd (never_refused c.args.kind c.loop-k.state c.apply.new.self (map placed_of c.args.changes.now) c.loop-k.k (placed_of c.in-Some.change) c.in_ok-made-in-Some.made c.in-Some.ensures c.in_ok-made-in-Some.ensures.made c.if-not-made.true c.loop-k.invariant.stood)

pub loop-k-preserved : goal.loop-k-preserved
loop-k-preserved c =
    let low : c.loop-k.k < length c.args.changes.now + 1 = omega (arith, c.loop-k-test.true) in
    let long : length c.args.changes.now + 1 ≡ length (map placed_of c.args.changes.now) + 1 = ap (λ n. n + 1) (sym (length-map c.args.changes.now placed_of)) in
    let bucket_is = c.bucket_of-bucket.ensures ∙ ap (λ b. bucket_at b c.loop-k.k) c.deref.ensures.value in
    record {
      stood = stands_on c.args.kind c.loop-k.state c.apply.new.self (map placed_of c.args.changes.now) c.loop-k.k (placed_of c.in-Some.change) c.in_ok-made-in-Some.made c.in-Some.ensures c.in_ok-made-in-Some.ensures.made c.if-not-made.false c.loop-k.invariant.stood;
      count = c.show_all.ensures.count ∙ c.loop-k.invariant.count;
      each = λ i m got.
          told_more c.args.kind c.loop-k.state (map placed_of c.args.changes.now) c.loop-k.k (length c.args.changes.now + 1) c.in_ok-buckets.buckets.items c.bucket_of-bucket.result.now c.args.looks.now i m (marked c.loop-k.verdicts.items i) (marked c.show_all.new.verdicts.items i)
          c.loop-k.invariant.stood low long bucket_is c.in_ok-buckets.ensures.all got (c.show_all.ensures.set i m got) (c.loop-k.invariant.each i m got);
    }

pub returns : goal.returns
returns c =
    let same : c.loop-k.k ≡ length c.args.changes.now = omega (arith, c.loop-k-test.false, c.loop-k.auto.k-end) in
    let low : length c.args.changes.now < length c.args.changes.now + 1 = omega arith in
    let long : length c.args.changes.now + 1 ≡ length (map placed_of c.args.changes.now) + 1 = ap (λ n. n + 1) (sym (length-map c.args.changes.now placed_of)) in
    let bucket_is = c.bucket_of-bucket-2.ensures ∙ ap (λ b. bucket_at b (length c.args.changes.now)) c.deref-2.ensures.value in
    told_all c.args.kind (map placed_of c.args.changes.now) c.args.looks.now c.show_all-2.new.verdicts.items (length c.args.changes.now + 1) long (c.show_all-2.ensures.count ∙ c.loop-k.invariant.count)
    (λ i m got.
    told_more c.args.kind c.loop-k.state (map placed_of c.args.changes.now) (length c.args.changes.now) (length c.args.changes.now + 1) c.in_ok-buckets.buckets.items c.bucket_of-bucket-2.result.now c.args.looks.now i m (marked c.loop-k.verdicts.items i) (marked c.show_all-2.new.verdicts.items i)
    (subst (Stood c.args.kind c.loop-k.state (map placed_of c.args.changes.now)) same c.loop-k.invariant.stood) low long bucket_is c.in_ok-buckets.ensures.all got (c.show_all-2.ensures.set i m got)
    (subst (λ (n : ℕ). marked c.loop-k.verdicts.items i ≡ told_below c.args.kind (map placed_of c.args.changes.now) n m) same (c.loop-k.invariant.each i m got)))
