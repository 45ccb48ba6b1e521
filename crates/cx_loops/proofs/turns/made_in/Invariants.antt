use Rattle.std.proofs.Common.{◌≡◌, ◌+◌, ◌≤◌, length}
use mathlib.Core.List.{IsPrefix}
use Rattle.cx_machine.specs.Semaphore.{Semaphore}
use Rattle.cx_turn.specs.declared.view.View.{View}
use Rattle.cx_turn.specs.Passes.{IsPassOf, IsPassWith}
use Rattle.cx_loops.specs.Turns.{counting, means}
use Rattle.cx_loops.proofs.turns.made_in.Given as goal

abbrev pub invariant-loop-i : goal.invariant-loop-i
invariant-loop-i g l = record {
  is : IsPassOf counting means l.gate l.pass;
  left : l.n ≤ l.pass.left + l.i;
  made : (v : View Semaphore) → IsPassWith counting means l.gate l.fn.pass v → (w : View Semaphore) × IsPassWith counting means l.gate l.pass w × IsPrefix v.front w.front × (length w.mine ≡ length v.mine + l.i);
}
