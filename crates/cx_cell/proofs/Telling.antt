-- What a pass learns of the state that it leaves.
use Rattle.std.proofs.Common.{◌≡◌, ◌∙◌, ◌∷◌, [], Bool, Some, sym, subst}
use Rattle.cx_names.specs.declared.ThreadNo.{ThreadNo}
use Rattle.cx_machine.specs.declared.kind.Op.{Op}
use Rattle.cx_machine.specs.declared.machine.Meaning.{Ghosts}
use Rattle.cx_machine.specs.Meaning.{run}
use Rattle.cx_turn.specs.declared.view.View.{View}
use Rattle.cx_turn.specs.declared.pass.Pass.{Pass}
use Rattle.cx_turn.specs.Views.{outside}
use Rattle.cx_turn.proofs.Histories.{head_is, some_is}
use Rattle.cx_cell.specs.Seen.{Allows, Tells}

module _ {M : Type 0} (K : Ghosts M) where
  -- the pass's view, as the taker left it, leads to this state
  pub left_at : (p : Pass M) (x w : View M) (now : M) → p.badge.views ≡ outside x ∷ [] → p.badge.views ≡ w ∷ [] → run K.step (Some x.start) x.front ≡ Some now → run K.step (Some w.start) w.front ≡ Some now
  left_at p x w now left views leads = subst (λ (u : View M). run K.step (Some u.start) u.front ≡ Some now) (head_is (outside x) w (sym left ∙ views)) leads

  -- so what this state allows is told
  pub tells_at : (by : ThreadNo) (op : Op) (told : Bool) (w : View M) (now : M) → run K.step (Some w.start) w.front ≡ Some now → Allows K.step by op told now → Tells K.step by op told w
  tells_at by op told w now leads allows m leads' = subst (λ (s : M). Allows K.step by op told s) (some_is now m (sym leads ∙ leads')) allows
