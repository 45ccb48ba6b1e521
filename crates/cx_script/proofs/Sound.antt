-- A text without a fault is a list of lines each of which is fine after the earlier ones, and the other way round.
use Rattle.std.proofs.Common.{◌≡◌, ℕ, suc, ◌+◌, Bool, true, false, cond, ◌&&◌, not, List, [], ◌∷◌, ◌++◌, length, map, Option, Some, None, refl, subst, arith, append_assoc}
use Rattle.std.specs.Prelude.{find, nat_lt}
use Rattle.std.proofs.lemmas.List.{append-nil}
use Rattle.std.proofs.lemmas.Bool.{not-false, lt-ltb}
use Rattle.cx_text.specs.declared.fault.FaultKind.{FaultKind}
use Rattle.cx_text.specs.declared.fault.FaultKind.TheVariants as faults
use Rattle.cx_text.specs.declared.fault.Fault.{Fault}
use Rattle.cx_text.specs.Lines.{Line, words_of}
use Rattle.cx_text.specs.Words.{Filled, filled_by, line_by, scenario_lines}
use Rattle.cx_text.proofs.Rows.{IsWellFilled}
use Rattle.cx_script.specs.Earlier.{place_after, may_stand, part_of}
use Rattle.cx_script.specs.Faults.{Read, read_line, said_by, fault_on, holds, is_too_many, has_unknown, has_wrong_kind, has_outside, is_twice, is_over_latch, is_bad_order}
use Rattle.cx_script.specs.Walk.{walk, goes_on, fault_at, end_fault}
use Rattle.cx_script.proofs.Parsed.{filled_is}

-- a line with no fault after the earlier ones
pub record IsFine (version : ℕ) (earlier : List Filled) (l : Filled) : Type 0 where
  pub filled : IsWellFilled scenario_lines version l
  pub stands : may_stand (place_after earlier) (part_of l.form) ≡ true
  pub few : is_too_many version earlier l ≡ false
  pub known : has_unknown earlier l ≡ false
  pub kind : has_wrong_kind earlier l ≡ false
  pub inside : has_outside earlier l ≡ false
  pub once : is_twice earlier l ≡ false
  pub latch : is_over_latch earlier l ≡ false
  pub order : is_bad_order earlier l ≡ false

-- lines that are fine one after the other
abbrev pub AreFine : ℕ → List Filled → List Filled → Type 0
AreFine version earlier [] = Unit {0}
AreFine version earlier (l ∷ ls) = IsFine version earlier l × AreFine version (earlier ++ l ∷ []) ls

first_none : (test : FaultKind → Bool) (k : FaultKind) (ks : List FaultKind) → find test (k ∷ ks) ≡ None → (test k ≡ false) × (find test ks ≡ None)
first_none test k ks e = elim (test k) as (λ b. cond b (Some k) (find test ks) ≡ None → (b ≡ false) × (find test ks ≡ None)) [
  | true ↦ λ h. absurd cc
  | false ↦ λ h. (refl, h)
] e

goes_none : (n : ℕ) (o : Option FaultKind) (rest : Option Fault) → goes_on n o rest ≡ None → (o ≡ None) × (rest ≡ None)
goes_none n None rest e = (refl, e)
goes_none n (Some kind) rest e = absurd cc

nothing : (version : ℕ) (l : Filled) → filled_by version [] ≡ Some l → ⊥
unfolding line_by
nothing version l e = cc

kept_stands : (n : ℕ) (b : Bool) → (nat_lt 0 (suc n) && not b) ≡ false → b ≡ true
kept_stands n b h = let some : nat_lt 0 (suc n) ≡ true = lt-ltb 0 (suc n) (omega arith) in not-false b (rw some at h)

fine_on : (version : ℕ) (earlier : List Filled) (line : Line) (ws : List (List ℕ)) (l : Filled) → filled_by version ws ≡ Some l
    → fault_on version earlier (record { line = line; words = ws; said = Some l }) ≡ None → IsFine version earlier l
fine_on version earlier line [] l f e = absurd (nothing version l f)
fine_on version earlier line (w ∷ ws) l f e =
    let r : Read = record { line = line; words = w ∷ ws; said = Some l } in
    let t : FaultKind → Bool = λ kind. holds version kind earlier r in
    let a = first_none t faults.NotAscii (faults.TooLong ∷ faults.BadVersion ∷ faults.BadWord ∷ faults.TooMany ∷ faults.UnknownName ∷ faults.WrongKind ∷ faults.OutOfRange ∷ faults.Twice ∷ faults.LatchOver ∷ faults.BadOrder ∷ []) e in
    let b = first_none t faults.TooLong (faults.BadVersion ∷ faults.BadWord ∷ faults.TooMany ∷ faults.UnknownName ∷ faults.WrongKind ∷ faults.OutOfRange ∷ faults.Twice ∷ faults.LatchOver ∷ faults.BadOrder ∷ []) a.1 in
    let c = first_none t faults.BadVersion (faults.BadWord ∷ faults.TooMany ∷ faults.UnknownName ∷ faults.WrongKind ∷ faults.OutOfRange ∷ faults.Twice ∷ faults.LatchOver ∷ faults.BadOrder ∷ []) b.1 in
    let d = first_none t faults.BadWord (faults.TooMany ∷ faults.UnknownName ∷ faults.WrongKind ∷ faults.OutOfRange ∷ faults.Twice ∷ faults.LatchOver ∷ faults.BadOrder ∷ []) c.1 in
    let few = first_none t faults.TooMany (faults.UnknownName ∷ faults.WrongKind ∷ faults.OutOfRange ∷ faults.Twice ∷ faults.LatchOver ∷ faults.BadOrder ∷ []) d.1 in
    let known = first_none t faults.UnknownName (faults.WrongKind ∷ faults.OutOfRange ∷ faults.Twice ∷ faults.LatchOver ∷ faults.BadOrder ∷ []) few.1 in
    let kind = first_none t faults.WrongKind (faults.OutOfRange ∷ faults.Twice ∷ faults.LatchOver ∷ faults.BadOrder ∷ []) known.1 in
    let inside = first_none t faults.OutOfRange (faults.Twice ∷ faults.LatchOver ∷ faults.BadOrder ∷ []) kind.1 in
    let once = first_none t faults.Twice (faults.LatchOver ∷ faults.BadOrder ∷ []) inside.1 in
    let latch = first_none t faults.LatchOver (faults.BadOrder ∷ []) once.1 in
    let order = first_none t faults.BadOrder ([]) latch.1 in
    record { filled = filled_is version (w ∷ ws) l f; stands = kept_stands (length ws) _ d.0; few = few.0; known = known.0; kind = kind.0; inside = inside.0; once = once.0; latch = latch.0; order = order.0 }

-- what a text says, where reading line by line finds no fault
sound_rest : (version n : ℕ) (earlier : List Filled) (line : Line) (ws : List (List ℕ)) (o : Option Filled) (rs : List Read) → filled_by version ws ≡ o
    → walk version n earlier (record { line = line; words = ws; said = o } ∷ rs) ≡ None
    → ((e : List Filled) → walk version (suc n) e rs ≡ None → AreFine version e (said_by rs) × (end_fault (suc n + length rs) (e ++ said_by rs) ≡ None))
    → AreFine version earlier (said_by (record { line = line; words = ws; said = o } ∷ rs)) × (end_fault (n + suc (length rs)) (earlier ++ said_by (record { line = line; words = ws; said = o } ∷ rs)) ≡ None)
unfolding walk
sound_rest version n earlier line ws None rs f e later =
    let g = goes_none n (fault_on version earlier (record { line = line; words = ws; said = None })) _ e in
    let k : walk version (suc n) earlier rs ≡ None = subst (λ x. walk version (suc n) x rs ≡ None) (append-nil earlier) g.1 in
    let rest = later earlier k in
    (rest.0, subst (λ m. end_fault m (earlier ++ said_by rs) ≡ None) (omega arith) rest.1)
sound_rest version n earlier line ws (Some l) rs f e later =
    let g = goes_none n (fault_on version earlier (record { line = line; words = ws; said = Some l })) _ e in
    let rest = later (earlier ++ l ∷ []) g.1 in
    let there : end_fault (n + suc (length rs)) ((earlier ++ l ∷ []) ++ said_by rs) ≡ None = subst (λ m. end_fault m ((earlier ++ l ∷ []) ++ said_by rs) ≡ None) (omega arith) rest.1 in
    ((fine_on version earlier line ws l f g.0, rest.0), subst (λ x. end_fault (n + suc (length rs)) x ≡ None) (append_assoc earlier (l ∷ []) (said_by rs)) there)

at_none : (n : ℕ) (o : Option FaultKind) → fault_at n o ≡ None → o ≡ None
at_none n None e = refl
at_none n (Some kind) e = absurd cc

ended : (version n : ℕ) (earlier : List Filled) → walk version n earlier [] ≡ None → end_fault (n + 0) (earlier ++ []) ≡ None
unfolding walk
ended version n earlier e = rw (append-nil earlier) (subst (λ m. end_fault m earlier ≡ None) (omega arith) (at_none n (end_fault n earlier) e))

pub sound : (version n : ℕ) (lines : List Line) (earlier : List Filled) → walk version n earlier (map (read_line version) lines) ≡ None
    → AreFine version earlier (said_by (map (read_line version) lines)) × (end_fault (n + length (map (read_line version) lines)) (earlier ++ said_by (map (read_line version) lines)) ≡ None)
sound version n [] earlier e = (tt, ended version n earlier e)
sound version n (line ∷ lines) earlier e =
    sound_rest version n earlier line (words_of line.bytes) (filled_by version (words_of line.bytes)) (map (read_line version) lines) refl e (λ x k. sound version (suc n) lines x k)
