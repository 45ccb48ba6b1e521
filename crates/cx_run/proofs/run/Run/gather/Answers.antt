use Rattle.std.proofs.Common.{length, ap, ◌∙◌, arith}
use Rattle.cx_run.proofs.Keeping.{below, length_set}
use Rattle.cx_run.proofs.Stepped.{come_more, own_run, back_run, back_kept}
use Rattle.cx_run.proofs.run.Run.gather.Goals as goal

pub loop-i-preserved : goal.loop-i-preserved
loop-i-preserved g c =
    let before = c.loop-i.invariant in
    let one = c.in_ok-gather_one.ensures in
    record {
      run = back_run c.loop-i.self c.gather_one.new.self before.run one.run;
      objects = one.objects ∙ before.objects;
      list = one.main.0 ∙ before.list;
      local = one.main.1 ∙ before.local;
      many = ap length one.come.1 ∙ (length_set c.loop-i.self.others.items c.loop-i.i one.come.0 ∙ before.many);
      counts = λ base h. one.tally base (before.counts base h);
      out = λ a b h. one.out a b (before.out a b h);
      come = come_more c.loop-i.self.others.items c.gather_one.new.self.others.items c.loop-i.i one.come.0 one.come.1 one.come.2 before.come;
    }

pub gather_one-requires-clause-run : goal.gather_one-requires-clause-run
gather_one-requires-clause-run g c κs within = own_run c.loop-i.self c.loop-i.invariant.run

pub returns-clause-come : goal.returns-clause-come
returns-clause-come g c = λ i p at_p.
    let low = below c.loop-i.self.others.items i p at_p in
    let many = c.loop-i.invariant.many in
    let end = c.len-i-end.ensures in
    let long = c.args.self.now.others.ok.0 in
    let done = c.loop-i-test.false in
    c.loop-i.invariant.come i p (omega (arith, low, many, end, long, done)) at_p

pub returns-in_err-gather_one-clause-kept : goal.returns-in_err-gather_one-clause-kept
returns-in_err-gather_one-clause-kept g c = back_kept c.loop-i.self c.gather_one.new.self c.loop-i.invariant.run c.gather_one.ensures.kept

pub returns-in_err-gather_one-clause-out : goal.returns-in_err-gather_one-clause-out
returns-in_err-gather_one-clause-out g c = λ a b h. c.gather_one.ensures.out a b (c.loop-i.invariant.out a b h)
