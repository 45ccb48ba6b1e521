-- Reading the lines of a record one by one finds the first fault.
use Rattle.std.proofs.Common.{◌≡◌, ℕ, suc, ◌+◌, Bool, true, false, cond, List, [], ◌∷◌, ◌++◌, map, length, filter, Option, Some, None, refl, sym, ap, ◌∙◌, arith, length-append}
use Rattle.std.specs.Prelude.{slice_get}
use Rattle.std.proofs.lemmas.List.{append-nil}
use Rattle.std.proofs.lemmas.Grind.{flat_map-append}
use Rattle.std.proofs.lemmas.Bool.{eq-eqb}
use Rattle.std.proofs.Math.Seq.{take-append_seam}
use Rattle.std.proofs.lemmas.Option.{slice_get_past}
use Rattle.cx_text.specs.declared.fault.FaultKind.{FaultKind}
use Rattle.cx_text.specs.declared.fault.Fault.{Fault}
use Rattle.cx_text.specs.Lines.{Line as TextLine}
use Rattle.cx_record.specs.Roster.{Roster}
use Rattle.cx_record.specs.ItemLines.{Line, as_list, part_of}
use Rattle.cx_record.specs.RecordFaults.{Read, read_line, said_by, fault_on, fault_on_line, fault_at_end, fault_from, on_line, first_fault, last_of, completes, behind, Place, Stage, stage_after}
use Rattle.cx_record.specs.RecordSteps.{walk, goes_on, fault_at, stage_behind, stage_with, opening_stage}

at_middle : (xs : List Read) (r : Read) (ys : List Read) → slice_get (xs ++ r ∷ ys) (length xs) ≡ Some r
at_middle [] r ys = refl
at_middle (x ∷ xs) r ys = at_middle xs r ys

on_read : (r : Roster) (before : List Read) (read : Read) (reads : List Read) → fault_on_line r (before ++ read ∷ reads) (length before) ≡ fault_on r (stage_after (said_by before)) read
on_read r before read reads = rw (at_middle before read reads, take-append_seam before (read ∷ reads)) refl

on_end : (r : Roster) (reads : List Read) → fault_on_line r reads (length reads) ≡ fault_at_end (stage_after (said_by reads)).place
on_end r reads = rw (slice_get_past reads (length reads) (omega arith), eq-eqb (length reads) (length reads) refl) refl

alone : (first n : ℕ) (o : Option FaultKind) → fault_at (first + n) o ≡ on_line first n o (λ k. None)
alone first n None = refl
alone first n (Some kind) = refl

goes : (first n : ℕ) (o : Option FaultKind) (rest : ℕ → Option Fault) → goes_on (first + n) o (rest (suc n)) ≡ on_line first n o rest
goes first n None rest = refl
goes first n (Some kind) rest = refl

one_longer : (xs : List Read) (r : Read) → length (xs ++ r ∷ []) ≡ suc (length xs)
one_longer [] r = refl
one_longer (x ∷ xs) r = ap suc (one_longer xs r)

pushed : (xs : List Read) (r : Read) (ys : List Read) → (xs ++ r ∷ []) ++ ys ≡ xs ++ r ∷ ys
pushed [] r ys = refl
pushed (x ∷ xs) r ys = ap (λ (t : List Read). x ∷ t) (pushed xs r ys)

said_more : (xs : List Read) (r : Read) → said_by (xs ++ r ∷ []) ≡ said_by xs ++ as_list r.said
said_more xs r = flat_map-append _ xs (r ∷ []) ∙ ap (λ (t : List Line). said_by xs ++ t) (append-nil (as_list r.said))

last_more : (e : List Line) (l : Line) → last_of (e ++ l ∷ []) ≡ Some l
last_more [] l = refl
last_more (m ∷ []) l = refl
last_more (m ∷ k ∷ e) l = last_more (k ∷ e) l

completed : (e : List Line) (l : Line) → length (filter completes (e ++ l ∷ [])) ≡ cond (completes l) (suc (length (filter completes e))) (length (filter completes e))
completed [] l = elim (completes l) as (λ b. length (cond b (l ∷ []) []) ≡ cond b (suc 0) 0) [
  | true ↦ refl
  | false ↦ refl
]
completed (m ∷ e) l = elim (completes m) as (λ b. length (cond b (m ∷ filter completes (e ++ l ∷ [])) (filter completes (e ++ l ∷ []))) ≡ cond (completes l) (suc (length (cond b (m ∷ filter completes e) (filter completes e)))) (length (cond b (m ∷ filter completes e) (filter completes e)))) [
  | true ↦ ap suc (completed e l) ∙ inside (completes l) (length (filter completes e))
  | false ↦ completed e l
]
  where
    inside : (b : Bool) (n : ℕ) → suc (cond b (suc n) n) ≡ cond b (suc (suc n)) (suc n)
    inside true n = refl
    inside false n = refl

stage_more : (e : List Line) (o : Option Line) → stage_after (e ++ as_list o) ≡ stage_behind (stage_after e) o
stage_more e None = ap stage_after (append-nil e)
stage_more e (Some l) = rw (last_more e l, completed e l) refl

stage_read : (before : List Read) (read : Read) → stage_after (said_by (before ++ read ∷ [])) ≡ stage_behind (stage_after (said_by before)) read.said
stage_read before read = ap stage_after (said_more before read) ∙ stage_more (said_by before) read.said

longer : (first : ℕ) (before : List Read) (read : Read) → first + length (before ++ read ∷ []) ≡ suc (first + length before)
longer first before read = ap (λ (n : ℕ). first + n) (one_longer before read) ∙ omega arith

pub walks : (r : Roster) (first : ℕ) (before reads : List Read) → walk r (first + length before) (stage_after (said_by before)) reads ≡ fault_from r first (before ++ reads) (suc (length reads)) (length before)
unfolding walk
walks r first before [] =
    let here : fault_on_line r (before ++ []) (length before) ≡ fault_at_end (stage_after (said_by before)).place = rw append-nil (on_end r before) in
    alone first (length before) (fault_at_end (stage_after (said_by before)).place) ∙ ap (λ (o : Option FaultKind). on_line first (length before) o (λ k. None)) (sym here)
walks r first before (read ∷ reads) =
    let n = length before in
    let later : walk r (suc (first + n)) (stage_behind (stage_after (said_by before)) read.said) reads ≡ fault_from r first (before ++ read ∷ reads) (suc (length reads)) (suc n) =
    sym (ap (λ (k : ℕ). walk r k (stage_behind (stage_after (said_by before)) read.said) reads) (longer first before read))
    ∙ sym (ap (λ (g : Stage). walk r (first + length (before ++ read ∷ [])) g reads) (stage_read before read))
    ∙ walks r first (before ++ read ∷ []) reads
    ∙ ap (λ (k : ℕ). fault_from r first ((before ++ read ∷ []) ++ reads) (suc (length reads)) k) (one_longer before read)
    ∙ ap (λ (t : List Read). fault_from r first t (suc (length reads)) (suc n)) (pushed before read reads) in
    ap (goes_on (first + n) (fault_on r (stage_after (said_by before)) read)) later
    ∙ goes first n (fault_on r (stage_after (said_by before)) read) (λ k. fault_from r first (before ++ read ∷ reads) (suc (length reads)) k)
    ∙ ap (λ (o : Option FaultKind). on_line first n o (λ k. fault_from r first (before ++ read ∷ reads) (suc (length reads)) k)) (sym (on_read r before read reads))

length_read : (lines : List TextLine) → length (map read_line lines) ≡ length lines
length_read [] = refl
length_read (l ∷ ls) = ap suc (length_read ls)

-- the line-by-line reader's law
pub walk_is_first : (r : Roster) (first : ℕ) (lines : List TextLine) → walk r first opening_stage (map read_line lines) ≡ first_fault r first lines
unfolding first_fault
walk_is_first r first lines =
    let none_yet : first ≡ first + 0 = omega arith in
    ap (λ (n : ℕ). walk r n opening_stage (map read_line lines)) none_yet
    ∙ walks r first [] (map read_line lines) ∙ ap (λ (n : ℕ). fault_from r first (map read_line lines) (suc n) 0) (length_read lines)
