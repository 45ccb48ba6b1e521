-- The first fault is the least: no line before it has one, and where there is none no line has.
use Rattle.std.proofs.Common.{◌≡◌, ℕ, zero, suc, ◌+◌, ◌<◌, List, length, map, Option, Some, None, refl, arith, inl, inr}
use Rattle.std.proofs.lemmas.Bool.{cases_lt}
use Rattle.cx_text.specs.declared.fault.FaultKind.{FaultKind}
use Rattle.cx_text.specs.declared.fault.Fault.{Fault}
use Rattle.cx_text.specs.Lines.{Line as TextLine}
use Rattle.cx_record.specs.Roster.{Roster}
use Rattle.cx_record.specs.RecordFaults.{Read, read_line, fault_on_line, fault_from, on_line, first_fault, IsFirstFault}

-- no fault on the lines below n
abbrev IsClean : Roster → List Read → ℕ → Type 0
IsClean r reads n = (m : ℕ) → m < n → fault_on_line r reads m ≡ None

-- a fault at some line, with none below
record Finds (r : Roster) (first : ℕ) (reads : List Read) (f : Fault) : Type 0 where
  line : ℕ
  kind : FaultKind
  is : f ≡ record { line = first + line; kind = kind }
  here : fault_on_line r reads line ≡ Some kind
  before : IsClean r reads line

module _ (r : Roster) (first : ℕ) (reads : List Read) where
  one_more : (n : ℕ) → IsClean r reads n → fault_on_line r reads n ≡ None → IsClean r reads (suc n)
  one_more n h e m lt = elim (cases_lt m n) [
    | inl l ↦ h m l
    | inr l ↦ let same : m ≡ n = omega arith in rw same e
  ]

  found_at : (n : ℕ) (f : Fault) (rest : ℕ → Option Fault) (o : Option FaultKind) → fault_on_line r reads n ≡ o → IsClean r reads n
      → (IsClean r reads (suc n) → rest (suc n) ≡ Some f → Finds r first reads f) → on_line first n o rest ≡ Some f → Finds r first reads f
  found_at n f rest (Some kind) is h later e = record { line = n; kind = kind; is = cc; here = is; before = h }
  found_at n f rest None is h later e = later (one_more n h is) e

  finds_least : (more n : ℕ) (f : Fault) → IsClean r reads n → fault_from r first reads more n ≡ Some f → Finds r first reads f
  finds_least zero n f h e = absurd cc
  finds_least (suc more) n f h e =
      found_at n f (λ k. fault_from r first reads more k) (fault_on_line r reads n) refl h (λ h' e'. finds_least more (suc n) f h' e') e

  clean_at : (n : ℕ) (m : ℕ) (rest : ℕ → Option Fault) (o : Option FaultKind) → fault_on_line r reads n ≡ o → IsClean r reads n
      → (IsClean r reads (suc n) → rest (suc n) ≡ None → IsClean r reads m) → on_line first n o rest ≡ None → IsClean r reads m
  clean_at n m rest (Some kind) is h later e = absurd cc
  clean_at n m rest None is h later e = later (one_more n h is) e

  finds_none : (more n : ℕ) → IsClean r reads n → fault_from r first reads more n ≡ None → IsClean r reads (n + more)
  finds_none zero n h e = λ m lt. h m (omega arith)
  finds_none (suc more) n h e =
      let all : IsClean r reads (suc n + more) = clean_at n (suc n + more) (λ k. fault_from r first reads more k) (fault_on_line r reads n) refl h (λ h' e'. finds_none more (suc n) h' e') e in
      λ m lt. all m (omega arith)

none_below : (r : Roster) (reads : List Read) → IsClean r reads 0
none_below r reads m lt = absurd (omega arith)

pub is_first : (r : Roster) (first : ℕ) (lines : List TextLine) (f : Fault) → first_fault r first lines ≡ Some f → (n : ℕ) × (kind : FaultKind) × (f ≡ record { line = first + n; kind = kind }) × IsFirstFault r lines n kind
unfolding first_fault
is_first r first lines f e =
    let found = finds_least r first (map read_line lines) (suc (length lines)) 0 f (none_below r (map read_line lines)) e in
    (found.line, found.kind, found.is, record { holds_here = found.here; none_before = found.before })

pub is_clean : (r : Roster) (first : ℕ) (lines : List TextLine) → first_fault r first lines ≡ None → IsClean r (map read_line lines) (suc (length lines))
unfolding first_fault
is_clean r first lines e = let all = finds_none r first (map read_line lines) (suc (length lines)) 0 (none_below r (map read_line lines)) e in λ m lt. all m (omega arith)
