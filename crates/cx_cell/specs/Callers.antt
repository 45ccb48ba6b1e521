-- Who is to be woken once the turn is free.
use Rattle.std.specs.Prelude.{ℕ, ◌-◌, ◌==◌, Bool, nat_lt, if◌then◌else◌}
use Rattle.std.specs.Int.{bit_at}
use Rattle.cx_cell.specs.declared.called.Called.{Called}

-- the caller of this number, below 256, is to be woken
abbrev pub is_called : Called → ℕ → Bool
is_called c n = if nat_lt n 128 then bit_at c.low n == 1 else bit_at c.high (n - 128) == 1
