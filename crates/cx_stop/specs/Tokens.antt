-- What a clause says of a token, which may refer to a stop state.
use Rattle.std.specs.Prelude.{◌≡◌, ℕ, Bool, false, MatchOption}
use Rattle.cx_machine.specs.declared.kind.Op.{Op}
use Rattle.cx_machine.specs.Values.{truth}
use Rattle.cx_stop.specs.declared.pass.StopPass.{StopPass}
use Rattle.cx_stop.specs.declared.token.StopToken.{StopToken}
use Rattle.cx_stop.specs.Stops.{IsStopPass, StopLooks}

module _ {C : Type 0} where
  -- the pass is one of the token's state, where there is one
  abbrev pub IsTokenPass : StopToken C → StopPass → Type 0
  IsTokenPass t p = MatchOption t.state (Unit {0}) (λ s. IsStopPass s.now p)

  -- the token's state answered so, or there is none: then the answer is no, its stamp is the length last seen, and the pass is as it was
  abbrev pub TokenAnswers : StopToken C → StopPass → StopPass → Op → Bool → ℕ → Type 0
  TokenAnswers t p q op b k = MatchOption t.state ((b ≡ false) × (k ≡ p.pass.len) × (q ≡ p)) (λ s. StopLooks s.now p q op 0 (truth b) k)
