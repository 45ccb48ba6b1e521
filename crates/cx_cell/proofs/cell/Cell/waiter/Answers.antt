use Rattle.std.proofs.Common.{rules, ◌≡◌, ◌<◌, List, length, slice_get, refl, subst, Some, Option, IfSome}
use Rattle.cx_turn.specs.declared.pass.Pass.{Pass}
use Rattle.cx_cell.specs.declared.wish.Waiter.{Waiter}
use Rattle.cx_cell.specs.Cells.{IsCellPassWith}
use Rattle.cx_cell.specs.Queue.{IsMarked, StandsIn}
use Rattle.cx_turn.proofs.Moves.{finds_map}
use Rattle.cx_cell.proofs.Attempting.{found, if_some_map}
use Rattle.cx_cell.proofs.cell.Cell.waiter.Goals as goal

pub returns-clause-marked : goal.returns-clause-marked
returns-clause-marked g c v is =
    let k = c.take-held.ensures in let t = c.args.self.now.turn in let h = c.take-held.result in
    let m = g.S.Machine.meaning in
    let o = c.waiter_of-found.result in
    let queue : c.deref-2.result.now ≡ h.state.kept.value.queue.items = search rules in
    let marked : IfSome o (IsMarked g.M.Meaning (m h.state.kept.value.state)) = if_some_map (λ (w : Waiter). (w.seat ≡ c.args.seat) × StandsIn c.deref-2.result.now w) (IsMarked g.M.Meaning (m h.state.kept.value.state)) o
    (λ w s. k.fits.0 s.1.0 (subst (λ (ws : List Waiter). s.1.0 < length ws) queue s.1.1) w (subst (λ (ws : List Waiter). slice_get ws s.1.0 ≡ Some w) queue s.1.2)) c.waiter_of-found.ensures in
    let d = found m g.M.Meaning t c.args.pass.now c.leave.new.self.1.0 h h v is k.known k.held (λ n. IfSome o (IsMarked g.M.Meaning n)) (m h.state.kept.value.state) c.leave.ensures k.top refl k.held.now.leads marked in (
      d.0,
      subst (λ (x : Pass g.row.M.Denot). IsCellPassWith m g.M.Meaning c.args.self.now x d.0) (search rules) d.1,
      finds_map g.M.Meaning (λ n. IfSome o (IsMarked g.M.Meaning n)) _ v d.0 (λ n p. subst (λ (x : Option Waiter). IfSome x (IsMarked g.M.Meaning n)) (search rules) p) d.2,
    )
