-- How often a completion was made.
use Rattle.std.specs.Prelude.{◌≡◌, ℕ, ◌+◌, ◌-◌, ◌^◌, nat_lt, Option, Some, None, if◌then◌else◌}

-- one more, up to the last value of a counter
abbrev pub raised : ℕ → ℕ
raised n = if nat_lt n (2 ^ 64 - 1) then n + 1 else n

-- one completion was made where a phase was completed, and else none
abbrev pub Completed : {C : Type 0} → (C → ℕ) → (C → C → Type 0) → Option ℕ → C → C → Type 0
Completed runs since (Some at) old new = (runs new ≡ raised (runs old)) × since new old
Completed runs since None old new = new ≡ old
