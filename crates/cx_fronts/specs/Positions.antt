-- Where a thread's changes stand in a front.
use Rattle.std.specs.Prelude.{ℕ, ◌+◌, List, [], ◌∷◌, nat_eq, if◌then◌else◌}
use Rattle.cx_machine.specs.declared.kind.Entry.{Entry}

-- the positions of the changes by this thread, in a front whose first position is k
abbrev pub positions : ℕ → ℕ → List Entry → List ℕ
positions by k [] = []
positions by k (e ∷ es) = if nat_eq e.by.0 by then k ∷ positions by (k + 1) es else positions by (k + 1) es
