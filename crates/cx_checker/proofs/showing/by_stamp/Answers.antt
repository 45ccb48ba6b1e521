use Rattle.std.proofs.Common.{◌∙◌}
use Rattle.cx_checker.proofs.Shows.{all_more, all_looks}
use Rattle.cx_checker.proofs.showing.by_stamp.Goals as goal

pub loop-j-preserved : goal.loop-j-preserved
loop-j-preserved c = record {
  count = c.in_ok-put_index.ensures.count ∙ c.loop-j.invariant.count;
  all = all_more c.args.looks.now c.loop-j.j c.in_ok-n.n c.args.stamps c.look_at-look.result c.loop-j.buckets.items c.put_index.new.buckets.items c.look_at-look.ensures c.in_ok-n.ensures c.loop-j.invariant.count c.in_ok-put_index.ensures.put c.loop-j.invariant.all;
}

pub returns-clause-all : goal.returns-clause-all
returns-clause-all c = λ i l got below. c.loop-j.invariant.all i l (all_looks c.args.looks.now c.loop-j.j i l c.loop-j-test.false got) got below
