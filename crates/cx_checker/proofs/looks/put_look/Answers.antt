use Rattle.std.proofs.Common.{arith}
use Rattle.cx_checker.proofs.Looking.{look_there}
use Rattle.cx_checker.proofs.looks.put_look.Goals as goal

pub returns-in_ok-push-clause-put : goal.returns-in_ok-push-clause-put
returns-in_ok-push-clause-put c = λ q h.
    look_there c.args.by_object.now.items c.args.o.0 q c.index_mut.result.now (record { looks = c.push.new.self }) c.args.look (omega arith) c.index_mut.ensures.value c.in_ok-push.ensures.items
