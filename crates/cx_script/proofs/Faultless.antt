-- A text of which each line is fine after the earlier ones, and which ends after main, has no fault.
use Rattle.std.proofs.Common.{◌≡◌, ℕ, suc, Bool, List, [], ◌∷◌, ◌++◌, length, map, Option, Some, None, refl, sym, subst, append_assoc}
use Rattle.std.specs.Prelude.{find}
use Rattle.std.specs.List.{AllByRecursion, join_with_byte}
use Rattle.std.proofs.lemmas.Bool.{and_right, le-ltb, not_from_true, or_from}
use Rattle.std.proofs.lemmas.List.{append-nil}
use Rattle.std.specs.Prelude.{false}
use Rattle.cx_text.specs.declared.fault.FaultKind.{FaultKind}
use Rattle.cx_text.specs.declared.fault.FaultKind.TheVariants as faults
use Rattle.cx_text.specs.declared.fault.Fault.{Fault}
use Rattle.cx_text.specs.Words.{Filled, words_for}
use Rattle.cx_script.specs.Earlier.{Over, place_after}
use Rattle.cx_script.specs.Faults.{fault_on, holds}
use Rattle.cx_script.specs.Walk.{walk, goes_on, fault_at, end_fault}
use Rattle.cx_script.proofs.Sound.{IsFine, AreFine}
use Rattle.cx_script.proofs.ReadBack.{read_as}
use Rattle.cx_script.proofs.Canonical.{IsShown}

none_cons : (test : FaultKind → Bool) (k : FaultKind) (ks : List FaultKind) → test k ≡ false → find test ks ≡ None → find test (k ∷ ks) ≡ None
none_cons test k ks h e = rw h e

-- no kind of fault holds on a line that is fine, as it is written
no_fault : (e : List Filled) (l : Filled) → IsFine 1 e l → IsShown l → fault_on 1 e (read_as l) ≡ None
no_fault e l fine shown =
    let t : FaultKind → Bool = λ kind. holds 1 kind e (read_as l) in
    let long : t faults.TooLong ≡ false = or_from _ _ (le-ltb 120 (length (join_with_byte 32 (words_for l))) shown.short) refl in
    let text : t faults.NotAscii ≡ false = not_from_true _ shown.text in
    let version : t faults.BadVersion ≡ false = and_right _ _ (not_from_true _ fine.stands) in
    let word : t faults.BadWord ≡ false = and_right _ _ (not_from_true _ fine.stands) in
    let a : find t (faults.BadOrder ∷ []) ≡ None = none_cons t faults.BadOrder [] fine.order refl in
    let b : find t (faults.LatchOver ∷ faults.BadOrder ∷ []) ≡ None = none_cons t faults.LatchOver (faults.BadOrder ∷ []) fine.latch a in
    let c : find t (faults.Twice ∷ faults.LatchOver ∷ faults.BadOrder ∷ []) ≡ None = none_cons t faults.Twice (faults.LatchOver ∷ faults.BadOrder ∷ []) fine.once b in
    let d : find t (faults.OutOfRange ∷ faults.Twice ∷ faults.LatchOver ∷ faults.BadOrder ∷ []) ≡ None = none_cons t faults.OutOfRange (faults.Twice ∷ faults.LatchOver ∷ faults.BadOrder ∷ []) fine.inside c in
    let f : find t (faults.WrongKind ∷ faults.OutOfRange ∷ faults.Twice ∷ faults.LatchOver ∷ faults.BadOrder ∷ []) ≡ None = none_cons t faults.WrongKind (faults.OutOfRange ∷ faults.Twice ∷ faults.LatchOver ∷ faults.BadOrder ∷ []) fine.kind d in
    let g : find t (faults.UnknownName ∷ faults.WrongKind ∷ faults.OutOfRange ∷ faults.Twice ∷ faults.LatchOver ∷ faults.BadOrder ∷ []) ≡ None =
    none_cons t faults.UnknownName (faults.WrongKind ∷ faults.OutOfRange ∷ faults.Twice ∷ faults.LatchOver ∷ faults.BadOrder ∷ []) fine.known f in
    let h : find t (faults.TooMany ∷ faults.UnknownName ∷ faults.WrongKind ∷ faults.OutOfRange ∷ faults.Twice ∷ faults.LatchOver ∷ faults.BadOrder ∷ []) ≡ None =
    none_cons t faults.TooMany (faults.UnknownName ∷ faults.WrongKind ∷ faults.OutOfRange ∷ faults.Twice ∷ faults.LatchOver ∷ faults.BadOrder ∷ []) fine.few g in
    let i : find t (faults.BadWord ∷ faults.TooMany ∷ faults.UnknownName ∷ faults.WrongKind ∷ faults.OutOfRange ∷ faults.Twice ∷ faults.LatchOver ∷ faults.BadOrder ∷ []) ≡ None =
    none_cons t faults.BadWord (faults.TooMany ∷ faults.UnknownName ∷ faults.WrongKind ∷ faults.OutOfRange ∷ faults.Twice ∷ faults.LatchOver ∷ faults.BadOrder ∷ []) word h in
    let j : find t (faults.BadVersion ∷ faults.BadWord ∷ faults.TooMany ∷ faults.UnknownName ∷ faults.WrongKind ∷ faults.OutOfRange ∷ faults.Twice ∷ faults.LatchOver ∷ faults.BadOrder ∷ []) ≡ None =
    none_cons t faults.BadVersion (faults.BadWord ∷ faults.TooMany ∷ faults.UnknownName ∷ faults.WrongKind ∷ faults.OutOfRange ∷ faults.Twice ∷ faults.LatchOver ∷ faults.BadOrder ∷ []) version i in
    let k : find t (faults.TooLong ∷ faults.BadVersion ∷ faults.BadWord ∷ faults.TooMany ∷ faults.UnknownName ∷ faults.WrongKind ∷ faults.OutOfRange ∷ faults.Twice ∷ faults.LatchOver ∷ faults.BadOrder ∷ []) ≡ None =
    none_cons t faults.TooLong (faults.BadVersion ∷ faults.BadWord ∷ faults.TooMany ∷ faults.UnknownName ∷ faults.WrongKind ∷ faults.OutOfRange ∷ faults.Twice ∷ faults.LatchOver ∷ faults.BadOrder ∷ []) long j in
    none_cons t faults.NotAscii (faults.TooLong ∷ faults.BadVersion ∷ faults.BadWord ∷ faults.TooMany ∷ faults.UnknownName ∷ faults.WrongKind ∷ faults.OutOfRange ∷ faults.Twice ∷ faults.LatchOver ∷ faults.BadOrder ∷ []) text k

-- ---- line by line

abbrev pub AreShown : List Filled → Type 0
AreShown ls = AllByRecursion IsShown ls

goes_clear : (n : ℕ) (o : Option FaultKind) (rest : Option Fault) → o ≡ None → rest ≡ None → goes_on n o rest ≡ None
goes_clear n None rest h k = k
goes_clear n (Some kind) rest h k = absurd cc

ended_clear : (n : ℕ) (e : List Filled) → place_after e ≡ Over → fault_at (suc n) (end_fault (suc n) e) ≡ None
ended_clear n e over = rw over refl

walk_on : (n : ℕ) (e ls : List Filled) → AreFine 1 e ls → AreShown ls → place_after (e ++ ls) ≡ Over → walk 1 (suc n) e (map read_as ls) ≡ None
unfolding walk
walk_on n e [] fine shown over = ended_clear n e (subst (λ (t : List Filled). place_after t ≡ Over) (append-nil e) over)
walk_on n e (l ∷ ls) fine shown over =
    let rest : walk 1 (suc (suc n)) (e ++ l ∷ []) (map read_as ls) ≡ None =
    walk_on (suc n) (e ++ l ∷ []) ls fine.1 shown.1 (subst (λ (t : List Filled). place_after t ≡ Over) (sym (append_assoc e (l ∷ []) ls)) over) in
    goes_clear (suc n) (fault_on 1 e (read_as l)) (walk 1 (suc (suc n)) (e ++ l ∷ []) (map read_as ls)) (no_fault e l fine.0 shown.0) rest

-- reading line by line finds no fault
pub walk_clear : (ls : List Filled) → AreFine 1 [] ls → AreShown ls → place_after ls ≡ Over → walk 1 0 [] (map read_as ls) ≡ None
unfolding walk
walk_clear [] fine shown over = absurd cc
walk_clear (l ∷ ls) fine shown over =
    goes_clear 0 (fault_on 1 [] (read_as l)) (walk 1 1 (l ∷ []) (map read_as ls)) (no_fault [] l fine.0 shown.0) (walk_on 0 (l ∷ []) ls fine.1 shown.1 over)
