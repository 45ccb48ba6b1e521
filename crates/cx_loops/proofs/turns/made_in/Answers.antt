use Rattle.std.proofs.Common.{◌≡◌, ◌+◌, ◌%◌, ◌==◌, length, arith, false}
use Rattle.cx_turn.proofs.Histories.{prefix_trans}
use Rattle.cx_loops.specs.Turns.{IsRefusedAt}
use Rattle.cx_loops.proofs.turns.made_in.Goals as goal

pub returns-then-not-act : goal.returns-then-not-act
returns-then-not-act g c v is =
    let w = c.loop-i.invariant.made v is in
    let x = c.act.ensures w.0 w.1 in
    let no : c.act.result ≡ false = c.if-not-act.true in
    let mine : length x.0.mine ≡ length w.0.mine + 0 = rw no at x.2.mine in
    let refused : IsRefusedAt x.0 (c.loop-i.i % 2 == 0) = rw no at x.2.refused in
    (x.0, x.1, record { later = prefix_trans v.front w.0.front x.0.front w.2 x.2.later; mine = omega (arith, mine, w.3); within = omega arith; refused = λ _. (c.loop-i.i % 2 == 0, refused) })
