use Rattle.std.proofs.Common.{◌≡◌, ◌⊎◌, sym, subst, false}
use Rattle.cx_cell.specs.declared.queued.Kept.{Kept}
use Rattle.cx_cell.specs.declared.wish.Waiter.{Waiter}
use Rattle.cx_cell.specs.Acts.{Denies}
use Rattle.cx_cell.specs.Queue.{AreMarked, StandsIn}
use Rattle.cx_cell.proofs.Queues.{marked_with}
use Rattle.cx_cell.proofs.queued.put_off.Goals as goal

pub returns-then-waits-clause-marked : goal.returns-then-waits-clause-marked
returns-then-waits-clause-marked g c =
    let k = c.deref_mut-kept.result.now in
    let same = c.deref_mut-kept.ensures.value in
    let w : Waiter = record { seat = c.args.seat; wish = c.args.wish.now; woken = false } in
    let were : AreMarked g.M.Meaning (g.S.Machine.meaning k.state) k.queue.items = subst (λ (z : Kept g.row.S.Denot). AreMarked g.M.Meaning (g.S.Machine.meaning z.state) z.queue.items) (sym same) c.requires.marked in
    let denied : Denies g.M.Meaning w.seat w.wish (g.S.Machine.meaning k.state) = subst (λ (z : Kept g.row.S.Denot). Denies g.M.Meaning w.seat w.wish (g.S.Machine.meaning z.state)) (sym same) c.requires.denied in
    marked_with g.M.Meaning (g.S.Machine.meaning k.state) k.queue.items c.enter.new.queue.items w were denied c.enter.ensures.no_more

pub returns-then-waits-clause-no_more : goal.returns-then-waits-clause-no_more
returns-then-waits-clause-no_more g c = subst (λ (z : Kept g.row.S.Denot). (x : Waiter) → StandsIn c.enter.new.queue.items x → StandsIn z.queue.items x ⊎ (x ≡ record { seat = c.args.seat; wish = c.args.wish.now; woken = false })) c.deref_mut-kept.ensures.value c.enter.ensures.no_more
