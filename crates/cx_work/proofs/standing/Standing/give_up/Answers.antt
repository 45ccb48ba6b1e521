use Rattle.std.proofs.Common.{refl, arith}
use Rattle.cx_work.proofs.Giving.{none_free, all_free, written_seen, written_accesses, written_free}
use Rattle.cx_work.proofs.standing.Standing.give_up.Goals as goal

pub loop-i-init : goal.loop-i-init
loop-i-init g c = (refl, refl, c.requires, none_free c.args.self.now.accesses.items)

pub give_up-requires : goal.give_up-requires
give_up-requires g c = record { seen = written_seen _ c.args.self.now.thread.0 c.args.self.now.accesses c.loop-i.self.accesses.items c.loop-i.i c.len-i-end.result c.index_mut.result.now c.loop-i.invariant.2 c.requires.count c.len-i-end.ensures c.loop-i-test.true c.index_mut.ensures.value }

pub loop-i-preserved : goal.loop-i-preserved
loop-i-preserved g c = (
  c.loop-i.invariant.0,
  c.loop-i.invariant.1,
  written_accesses _ c.args.self.now.thread.0 c.args.self.now.accesses c.loop-i.self.accesses.items c.loop-i.i c.len-i-end.result c.index_mut.result.now c.give_up.new.self c.loop-i.invariant.2 c.requires.count c.len-i-end.ensures c.loop-i-test.true c.index_mut.ensures.value c.give_up.ensures.object c.give_up.ensures.seen,
  written_free _ c.args.self.now.thread.0 c.args.self.now.accesses c.loop-i.self.accesses.items c.loop-i.i c.len-i-end.result c.give_up.new.self c.loop-i.invariant.2 c.requires.count c.len-i-end.ensures c.loop-i-test.true c.give_up.ensures.free c.loop-i.invariant.3,
)

pub returns-clause-free : goal.returns-clause-free
returns-clause-free g c =
    let end = c.loop-i-test.false in
    let len = c.len-i-end.ensures in
    let long = c.args.self.now.accesses.ok.0 in
    let a = c.loop-i.invariant.2.count in
    let b = c.requires.count in
    all_free c.loop-i.self.accesses.items c.loop-i.i (omega (arith, end, len, long, a, b)) c.loop-i.invariant.3
