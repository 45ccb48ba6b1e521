-- Reading line by line finds the first fault.
use Rattle.std.proofs.Common.{◌≡◌, ℕ, suc, List, [], ◌∷◌, ◌++◌, map, length, Option, Some, None, refl, sym, ap, ◌∙◌, arith}
use Rattle.std.specs.Prelude.{slice_get}
use Rattle.std.proofs.lemmas.List.{append-nil}
use Rattle.std.proofs.lemmas.Grind.{flat_map-append}
use Rattle.std.proofs.lemmas.Bool.{eq-eqb}
use Rattle.std.proofs.Math.Seq.{take-append_seam}
use Rattle.std.proofs.lemmas.Option.{slice_get_past}
use Rattle.cx_text.specs.declared.fault.FaultKind.{FaultKind}
use Rattle.cx_text.specs.declared.fault.Fault.{Fault}
use Rattle.cx_text.specs.Lines.{Line}
use Rattle.cx_text.specs.Words.{Filled}
use Rattle.cx_script.specs.Faults.{Read, fault_on, fault_on_line, fault_at_end, fault_from, on_line, said_by, first_fault, version_of, read_all}
use Rattle.cx_script.specs.Walk.{walk, goes_on, fault_at, end_fault}

at_middle : (xs : List Read) (r : Read) (ys : List Read) → slice_get (xs ++ r ∷ ys) (length xs) ≡ Some r
at_middle [] r ys = refl
at_middle (x ∷ xs) r ys = at_middle xs r ys

on_read : (version : ℕ) (before : List Read) (r : Read) (rs : List Read) → fault_on_line version (before ++ r ∷ rs) (length before) ≡ fault_on version (said_by before) r
on_read version before r rs = rw (at_middle before r rs, take-append_seam before (r ∷ rs)) refl

on_end : (version : ℕ) (reads : List Read) → fault_on_line version reads (length reads) ≡ fault_at_end reads
on_end version reads = rw (slice_get_past reads (length reads) (omega arith), eq-eqb (length reads) (length reads) refl) refl

same_end : (reads : List Read) → fault_at_end reads ≡ end_fault (length reads) (said_by reads)
same_end [] = refl
same_end (r ∷ rs) = refl

alone : (n : ℕ) (o : Option FaultKind) → fault_at n o ≡ on_line n o (λ k. None)
alone n None = refl
alone n (Some kind) = refl

goes : (n : ℕ) (o : Option FaultKind) (rest : ℕ → Option Fault) → goes_on n o (rest (suc n)) ≡ on_line n o rest
goes n None rest = refl
goes n (Some kind) rest = refl

one_longer : (xs : List Read) (r : Read) → length (xs ++ r ∷ []) ≡ suc (length xs)
one_longer [] r = refl
one_longer (x ∷ xs) r = ap suc (one_longer xs r)

pushed : (xs : List Read) (r : Read) (ys : List Read) → (xs ++ r ∷ []) ++ ys ≡ xs ++ r ∷ ys
pushed [] r ys = refl
pushed (x ∷ xs) r ys = ap (λ (t : List Read). x ∷ t) (pushed xs r ys)

said_more : (xs : List Read) (r : Read) → said_by (xs ++ r ∷ []) ≡ said_by xs ++ said_by (r ∷ [])
said_more xs r = flat_map-append _ xs (r ∷ [])

pub walks : (version : ℕ) (before rs : List Read) → walk version (length before) (said_by before) rs ≡ fault_from version (before ++ rs) (suc (length rs)) (length before)
unfolding walk
walks version before [] =
    let here : fault_on_line version (before ++ []) (length before) ≡ end_fault (length before) (said_by before) = rw append-nil (on_end version before ∙ same_end before) in
    alone (length before) (end_fault (length before) (said_by before)) ∙ ap (λ (o : Option FaultKind). on_line (length before) o (λ k. None)) (sym here)
walks version before (r ∷ rs) =
    let later : walk version (suc (length before)) (said_by before ++ said_by (r ∷ [])) rs ≡ fault_from version (before ++ r ∷ rs) (suc (length rs)) (suc (length before)) =
    sym (ap (λ (k : ℕ). walk version k (said_by before ++ said_by (r ∷ [])) rs) (one_longer before r))
    ∙ sym (ap (λ (t : List Filled). walk version (length (before ++ r ∷ [])) t rs) (said_more before r))
    ∙ walks version (before ++ r ∷ []) rs
    ∙ ap (λ (k : ℕ). fault_from version ((before ++ r ∷ []) ++ rs) (suc (length rs)) k) (one_longer before r)
    ∙ ap (λ (t : List Read). fault_from version t (suc (length rs)) (suc (length before))) (pushed before r rs) in
    let n = length before in
    ap (goes_on n (fault_on version (said_by before) r)) later
    ∙ goes n (fault_on version (said_by before) r) (λ k. fault_from version (before ++ r ∷ rs) (suc (length rs)) k)
    ∙ ap (λ (o : Option FaultKind). on_line n o (λ k. fault_from version (before ++ r ∷ rs) (suc (length rs)) k)) (sym (on_read version before r rs))

length_read : (f : Line → Read) (lines : List Line) → length (map f lines) ≡ length lines
length_read f [] = refl
length_read f (l ∷ ls) = ap suc (length_read f ls)

-- the line-by-line reader's law
pub walk_is_first : (lines : List Line) → walk (version_of lines) 0 [] (read_all lines) ≡ first_fault lines
unfolding first_fault
walk_is_first lines = walks (version_of lines) [] (read_all lines) ∙ ap (λ (n : ℕ). fault_from (version_of lines) (read_all lines) (suc n) 0) (length_read _ lines)
