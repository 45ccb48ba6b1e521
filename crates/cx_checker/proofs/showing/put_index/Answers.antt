use Rattle.std.proofs.Common.{arith}
use Rattle.cx_checker.proofs.Shows.{index_put, index_not_put}
use Rattle.cx_checker.proofs.showing.put_index.Goals as goal

pub returns-in_ok-push-clause-put : goal.returns-in_ok-push-clause-put
returns-in_ok-push-clause-put c = λ k i low.
    index_put c.args.buckets.now.items c.args.at c.args.j k i c.index_mut.result.now (record { indexes = c.push.new.self }) (omega arith) c.index_mut.ensures.value c.in_ok-push.ensures.items
