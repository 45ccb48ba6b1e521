-- Reading line by line, with what the lines before said at hand.
use Rattle.std.specs.Prelude.{ℕ, zero, suc, List, [], ◌∷◌, ◌++◌, Option, Some, None}
use Rattle.cx_text.specs.declared.fault.FaultKind.{FaultKind}
use Rattle.cx_text.specs.declared.fault.FaultKind.TheVariants as faults
use Rattle.cx_text.specs.declared.fault.Fault.{Fault}
use Rattle.cx_text.specs.Words.{Filled}
use Rattle.cx_script.specs.Earlier.{place_after}
use Rattle.cx_script.specs.Faults.{Read, fault_on, unended, said_by}

-- where line n is the end of the text
abbrev pub end_fault : ℕ → List Filled → Option FaultKind
end_fault zero earlier = Some faults.BadVersion
end_fault (suc n) earlier = unended (place_after earlier)

-- a fault at line n
abbrev pub fault_at : ℕ → Option FaultKind → Option Fault
fault_at n None = None
fault_at n (Some kind) = Some (record { line = suc n; kind = kind })

-- the fault of line n, or else the rest
abbrev pub goes_on : ℕ → Option FaultKind → Option Fault → Option Fault
goes_on n (Some kind) rest = Some (record { line = suc n; kind = kind })
goes_on n None rest = rest

-- from line n on, where `earlier` is what the lines before said
unfoldable pub walk : ℕ → ℕ → List Filled → List Read → Option Fault
walk version n earlier [] = fault_at n (end_fault n earlier)
walk version n earlier (r ∷ rs) = goes_on n (fault_on version earlier r) (walk version (suc n) (earlier ++ said_by (r ∷ [])) rs)
