use Rattle.std.proofs.Common.{◌∙◌, ◌==◌, take, ◌+◌, ap, sym, ◌&&◌, if◌then◌else◌}
use Rattle.cx_machine.specs.Machine.{shows}
use Rattle.cx_machine.specs.Words.{has}
use Rattle.cx_checker.specs.Marks.{marked}
use Rattle.cx_checker.proofs.Shows.{show_more, has_more, taken_all}
use Rattle.cx_checker.proofs.showing.show_all.Goals as goal

pub loop-b-preserved : goal.loop-b-preserved
loop-b-preserved c = record {
  count = c.show_one.ensures.count ∙ c.loop-b.invariant.count;
  set_ = λ i m got.
      show_more (has (take c.loop-b.b c.args.bucket.now) i) (c.index_at-j.result == i) (m.at == c.args.k) (marked c.show_one.new.verdicts.items i) (marked c.loop-b.verdicts.items i) _ (shows c.args.state.now m) (has (take (c.loop-b.b + 1) c.args.bucket.now) i)
      (has_more c.args.bucket.now c.loop-b.b c.index_at-j.result i c.index_at-j.ensures) (c.show_one.ensures.set i m got) (c.loop-b.invariant.set_ i m got);
}

pub returns : goal.returns
returns c = record {
  count = c.loop-b.invariant.count;
  set = λ i m got. c.loop-b.invariant.set_ i m got ∙ ap (λ ns. if has ns i && (m.at == c.args.k) then shows c.args.state.now m else marked c.args.verdicts.now.items i) (taken_all c.args.bucket.now c.loop-b.b c.loop-b-test.false);
}
