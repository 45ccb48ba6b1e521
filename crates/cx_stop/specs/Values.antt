-- The values of the registered callbacks, each of which suits its ID.
use Rattle.std.specs.Prelude.{ℕ, List, [], ◌∷◌}
use Rattle.cx_machine.specs.declared.registry.Callback.{Callback}

abbrev pub AllSuit : {C : Type 0} → (C → ℕ → Type 0) → List (Callback C) → Type 0
AllSuit suits [] = Unit {0}
AllSuit suits (c ∷ cs) = suits c.value c.id × AllSuit suits cs
