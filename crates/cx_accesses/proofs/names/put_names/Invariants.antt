use Rattle.std.proofs.Common.{◌≡◌, ◌++◌, map, take}
use Rattle.cx_accesses.proofs.names.put_names.Given as goal

abbrev pub invariant-loop-name : goal.invariant-loop-name
invariant-loop-name l = l.index ≡ l.fn.index ++ map (λ n. n.items) (take l.name-index l.names)
