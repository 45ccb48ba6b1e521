-- The first fault is the least: no line before it has one, and where there is none no line has.
use Rattle.std.proofs.Common.{◌≡◌, ℕ, zero, suc, ◌+◌, ◌<◌, List, length, Option, Some, None, refl, arith, inl, inr}
use Rattle.std.proofs.lemmas.Bool.{cases_lt}
use Rattle.cx_text.specs.declared.fault.FaultKind.{FaultKind}
use Rattle.cx_text.specs.declared.fault.Fault.{Fault}
use Rattle.cx_text.specs.Lines.{Line}
use Rattle.cx_script.specs.Faults.{Read, fault_on_line, fault_from, on_line, first_fault, version_of, read_all, IsFirstFault}

-- no fault on the lines below n
abbrev pub IsClean : ℕ → List Read → ℕ → Type 0
IsClean version reads n = (m : ℕ) → m < n → fault_on_line version reads m ≡ None

-- a fault at some line, with none below
pub record Finds (version : ℕ) (reads : List Read) (f : Fault) : Type 0 where
  pub line : ℕ
  pub kind : FaultKind
  pub is : f ≡ record { line = suc line; kind = kind }
  pub here : fault_on_line version reads line ≡ Some kind
  pub before : IsClean version reads line

module _ (version : ℕ) (reads : List Read) where
  one_more : (n : ℕ) → IsClean version reads n → fault_on_line version reads n ≡ None → IsClean version reads (suc n)
  one_more n h e m lt = elim (cases_lt m n) [
    | inl l ↦ h m l
    | inr l ↦ let same : m ≡ n = omega arith in rw same e
  ]

  found_at : (n : ℕ) (f : Fault) (rest : ℕ → Option Fault) (o : Option FaultKind) → fault_on_line version reads n ≡ o → IsClean version reads n
      → (IsClean version reads (suc n) → rest (suc n) ≡ Some f → Finds version reads f) → on_line n o rest ≡ Some f → Finds version reads f
  found_at n f rest (Some kind) is h later e = record { line = n; kind = kind; is = cc; here = is; before = h }
  found_at n f rest None is h later e = later (one_more n h is) e

  pub finds_least : (more n : ℕ) (f : Fault) → IsClean version reads n → fault_from version reads more n ≡ Some f → Finds version reads f
  finds_least zero n f h e = absurd cc
  finds_least (suc more) n f h e =
      found_at n f (λ k. fault_from version reads more k) (fault_on_line version reads n) refl h (λ h' e'. finds_least more (suc n) f h' e') e

  clean_at : (n : ℕ) (m : ℕ) (rest : ℕ → Option Fault) (o : Option FaultKind) → fault_on_line version reads n ≡ o → IsClean version reads n
      → (IsClean version reads (suc n) → rest (suc n) ≡ None → IsClean version reads m) → on_line n o rest ≡ None → IsClean version reads m
  clean_at n m rest (Some kind) is h later e = absurd cc
  clean_at n m rest None is h later e = later (one_more n h is) e

  pub finds_none : (more n : ℕ) → IsClean version reads n → fault_from version reads more n ≡ None → IsClean version reads (n + more)
  finds_none zero n h e = λ m lt. h m (omega arith)
  finds_none (suc more) n h e =
      let all : IsClean version reads (suc n + more) = clean_at n (suc n + more) (λ k. fault_from version reads more k) (fault_on_line version reads n) refl h (λ h' e'. finds_none more (suc n) h' e') e in
      λ m lt. all m (omega arith)

none_below : (version : ℕ) (reads : List Read) → IsClean version reads 0
none_below version reads m lt = absurd (omega arith)

pub is_first : (lines : List Line) (f : Fault) → first_fault lines ≡ Some f → (n : ℕ) × (kind : FaultKind) × (f ≡ record { line = suc n; kind = kind }) × IsFirstFault lines n kind
unfolding first_fault
is_first lines f e =
    let found = finds_least (version_of lines) (read_all lines) (suc (length lines)) 0 f (none_below (version_of lines) (read_all lines)) e in
    (found.line, found.kind, found.is, record { holds_here = found.here; none_before = found.before })

pub is_clean : (lines : List Line) → first_fault lines ≡ None → IsClean (version_of lines) (read_all lines) (suc (length lines))
unfolding first_fault
is_clean lines e = let all = finds_none (version_of lines) (read_all lines) (suc (length lines)) 0 (none_below (version_of lines) (read_all lines)) e in λ m lt. all m (omega arith)
