-- What a caller learns who takes a turn and gives it up.
use Rattle.std.proofs.Common.{◌≡◌, ◌∙◌, ap, sym, subst}
use Rattle.cx_machine.specs.declared.machine.Meaning.{Ghosts}
use Rattle.cx_turn.specs.declared.view.View.{View}
use Rattle.cx_turn.specs.declared.turn.Turn.{Turn}
use Rattle.cx_turn.specs.declared.pass.Pass.{Pass}
use Rattle.cx_turn.specs.declared.held.Held.{Held}
use Rattle.cx_turn.specs.Views.{outside}
use Rattle.cx_turn.specs.Passes.{IsPassAt, IsPassWith, IsLeft, Enters, IsHeld}

module _ {M S H : Type 0} (meaning : S → M) (K : Ghosts M) where
  -- a pass that was left is a pass of its turn
  pub left_of : (t : Turn M S H) (h : Held M S H) (p : Pass M) → h.top.now ≡ t.board.shared → IsLeft meaning K h p → IsPassWith meaning K t p (outside h.place.me.0)
  left_of t h p top left = subst (λ x. IsPassAt K x.table_id (meaning x.key.state.value) x.key.seats p (outside h.place.me.0)) top left

  -- the numbers of a pass are those of its taker
  pub numbers_of : (t : Turn M S H) (p : Pass M) (h : Held M S H) (v : View M) → IsPassWith meaning K t p v → Enters meaning K t p h → IsHeld meaning K h → (h.number.0 ≡ v.number) × (h.place.me.0.left ≡ p.left) × (h.place.me.0.share ≡ p.share)
  numbers_of t p h v is enters held =
      let e = (enters v is).0 in (
        sym held.numbered ∙ ap (λ (x : View M). x.number) e,
        ap (λ (x : View M). x.left) e ∙ is.counted.may,
        ap (λ (x : View M). x.share) e ∙ is.counted.part,
      )
