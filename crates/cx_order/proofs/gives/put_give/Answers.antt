use Rattle.std.proofs.Common.{Option, subst}
use Rattle.cx_graph.specs.declared.give.Give.{Give}
use Rattle.cx_order.specs.Gives.{MayBeSmall}
use Rattle.cx_order.proofs.Given.{small_push}
use Rattle.cx_order.proofs.gives.put_give.Goals as goal

pub returns-in_ok-push-in-Some-clause-after : goal.returns-in_ok-push-in-Some-clause-after
returns-in_ok-push-in-Some-clause-after c = small_push c.args.gives.now.items c.push.new.self.items c.in-Some.give c.requires.before (subst (λ (g : Option Give). MayBeSmall g) c.in-Some.is c.requires.small) c.in_ok-push-in-Some.ensures.items
