-- Lines of accesses are read one by one.
use Rattle.std.proofs.Common.{◌≡◌, ◌⊎◌, inl, inr, ℕ, zero, suc, ◌+◌, ◌<◌, ◌≤◌, Bool, true, false, cond, List, [], ◌∷◌, ◌++◌, map, length, take, Option, Some, None, refl, sym, ap, subst, ◌∙◌, arith, append_assoc, length-append}
use Rattle.std.specs.Prelude.{slice_get}
use Rattle.std.specs.List.{flat_map}
use Rattle.std.proofs.lemmas.List.{append-nil}
use Rattle.std.proofs.lemmas.Grind.{flat_map-append}
use Rattle.std.proofs.lemmas.Bool.{eq-eqb}
use Rattle.std.proofs.lemmas.Option.{slice_get_past}
use Rattle.std.proofs.Math.Seq.{take-append_seam}
use Rattle.cx_text.specs.declared.fault.FaultKind.{FaultKind}
use Rattle.cx_text.specs.declared.fault.Fault.{Fault}
use Rattle.cx_text.specs.Lines.{Line as TextLine}
use Rattle.cx_history.specs.Histories.{Recorded}
use Rattle.cx_script.specs.Script.{Names}
use Rattle.cx_graph.proofs.Numbers.{dec_eq}
use Rattle.cx_accesses.specs.AccessLines.{Said, Read, read_line, as_list, said_by, State, opening, with_said, with_all, fault_on, fault_at_end}
use Rattle.cx_accesses.specs.AccessesMeant.{state_at, fault_on_line, AreClean, IsFirstFault, AreMeant}
use Rattle.cx_accesses.specs.AccessSteps.{fault_in, state_after, GoesBy}
use Rattle.cx_accesses.specs.AccessesSeen.{ReadsTo}
use Rattle.cx_accesses.proofs.AccessFaults.{fault_same}

-- these lines are read, without a fault, and this is what they say
pub record IsGoing (o : Names) (r : Recorded) (first : ℕ) (all : List TextLine) (n : ℕ) (left : List TextLine) (st : State) : Type 0 where
  pub front : List TextLine
  pub is : all ≡ front ++ left
  pub number : n ≡ first + length front
  pub clean : AreClean o r (map read_line all) (length front)
  pub state : st ≡ with_all o opening (said_by (map read_line front))

at_middle : (xs : List Read) (x : Read) (ys : List Read) → slice_get (xs ++ x ∷ ys) (length xs) ≡ Some x
at_middle [] x ys = refl
at_middle (y ∷ xs) x ys = at_middle xs x ys

map_append : (xs ys : List TextLine) → map read_line (xs ++ ys) ≡ map read_line xs ++ map read_line ys
map_append [] ys = refl
map_append (x ∷ xs) ys = ap (λ (zs : List Read). read_line x ∷ zs) (map_append xs ys)

length_map : (xs : List TextLine) → length (map read_line xs) ≡ length xs
length_map [] = refl
length_map (x ∷ xs) = ap suc (length_map xs)

with_all_append : (o : Names) (st : State) (xs ys : List Said) → with_all o st (xs ++ ys) ≡ with_all o (with_all o st xs) ys
with_all_append o st [] ys = refl
with_all_append o st (x ∷ xs) ys = with_all_append o (with_said o st x) xs ys

with_one : (o : Names) (st : State) (x : Option Said) → with_all o st (as_list x ++ []) ≡ state_after o st x
with_one o st None = refl
with_one o st (Some x) = refl

pub going_start : (o : Names) (r : Recorded) (first : ℕ) (all : List TextLine) → IsGoing o r first all first all opening
going_start o r first all = record { front = []; is = refl; number = omega arith; clean = λ m low. absurd (omega arith); state = refl }

-- the fault of the line that comes next
on_read : (o : Names) (r : Recorded) (before : List Read) (read : Read) (reads : List Read) → fault_on_line o r (before ++ read ∷ reads) (length before) ≡ fault_on o r (with_all o opening (said_by before)) read
on_read o r before read reads = rw (at_middle before read reads, take-append_seam before (read ∷ reads)) refl

on_end : (o : Names) (r : Recorded) (reads : List Read) → fault_on_line o r reads (length reads) ≡ fault_at_end (state_at o reads (length reads)).place
on_end o r reads = rw (slice_get_past reads (length reads) (omega arith), eq-eqb (length reads) (length reads) refl) refl

module _ (o : Names) (r : Recorded) (first : ℕ) (all : List TextLine) (n : ℕ) (left rest : List TextLine) (line : TextLine) (st next : State) (fault : Option FaultKind)
    (g : IsGoing o r first all n left st) (split : left ≡ line ∷ rest) (goes : GoesBy o st (fault_in o r st (read_line line)) (read_line line).said fault next) where
  front : List TextLine
  front = g.front

  whole : all ≡ g.front ++ line ∷ rest
  whole = g.is ∙ ap (λ (x : List TextLine). g.front ++ x) split

  reads_are : map read_line all ≡ map read_line g.front ++ read_line line ∷ map read_line rest
  reads_are = ap (map read_line) whole ∙ map_append g.front (line ∷ rest)

  here : fault_on_line o r (map read_line all) (length g.front) ≡ fault_in o r st (read_line line)
  here =
      ap (λ (xs : List Read). fault_on_line o r xs (length g.front)) reads_are
      ∙ ap (λ (k : ℕ). fault_on_line o r (map read_line g.front ++ read_line line ∷ map read_line rest) k) (sym (length_map g.front))
      ∙ on_read o r (map read_line g.front) (read_line line) (map read_line rest)
      ∙ ap (λ (s : State). fault_on o r s (read_line line)) (sym g.state)
      ∙ sym (fault_same o r st line)

  pub line_fault : (kind : FaultKind) → fault ≡ Some kind → IsFirstFault o r first (map read_line all) (record { line = n; kind = kind })
  line_fault kind e = record {
    place = length g.front;
    line_is = g.number;
    here = here ∙ (subst (λ (f : Option FaultKind). GoesBy o st (fault_in o r st (read_line line)) (read_line line).said f next) e goes);
    before = g.clean;
  }

  went : fault ≡ None → (fault_in o r st (read_line line) ≡ None) × (next ≡ state_after o st (read_line line).said)
  went e = subst (λ (f : Option FaultKind). GoesBy o st (fault_in o r st (read_line line)) (read_line line).said f next) e goes

  clean_more : fault ≡ None → AreClean o r (map read_line all) (length g.front + 1)
  clean_more e m low = by (dec_eq m (length g.front))
    where
      by : (m ≡ length g.front) ⊎ (m ≡ length g.front → ⊥) → fault_on_line o r (map read_line all) m ≡ None
      by (inl same) = ap (λ (k : ℕ). fault_on_line o r (map read_line all) k) same ∙ here ∙ (went e).0
      by (inr other) = g.clean m (omega (arith, low, other))

  said_more : with_all o opening (said_by (map read_line (g.front ++ line ∷ []))) ≡ state_after o st (read_line line).said
  said_more =
      ap (λ (xs : List Read). with_all o opening (said_by xs)) (map_append g.front (line ∷ []))
      ∙ ap (λ (xs : List Said). with_all o opening xs) (flat_map-append (λ (x : Read). as_list x.said) (map read_line g.front) (read_line line ∷ []))
      ∙ with_all_append o opening (said_by (map read_line g.front)) (said_by (read_line line ∷ []))
      ∙ ap (λ (s : State). with_all o s (said_by (read_line line ∷ []))) (sym g.state)
      ∙ with_one o st (read_line line).said

  pub line_taken : (m : ℕ) → m ≡ n + 1 → fault ≡ None → IsGoing o r first all m rest next
  line_taken m more e = record {
    front = g.front ++ line ∷ [];
    is = whole ∙ sym (append_assoc g.front (line ∷ []) rest);
    number = omega (arith, more, g.number, length-append g.front (line ∷ []));
    clean = subst (λ (k : ℕ). AreClean o r (map read_line all) k) (sym (length-append g.front (line ∷ []))) (clean_more e);
    state = (went e).1 ∙ sym said_more;
  }

module _ (o : Names) (r : Recorded) (first : ℕ) (all : List TextLine) (n : ℕ) (left : List TextLine) (st : State) (fault : Option FaultKind)
    (g : IsGoing o r first all n left st) (none : left ≡ []) (is : fault ≡ fault_at_end st.place) where
  all_front : all ≡ g.front
  all_front = g.is ∙ ap (λ (x : List TextLine). g.front ++ x) none ∙ append-nil g.front

  size : length (map read_line all) ≡ length g.front
  size = length_map all ∙ ap (λ (x : List TextLine). length x) all_front

  take_whole : (xs : List Read) → take (length xs) xs ≡ xs
  take_whole [] = refl
  take_whole (x ∷ xs) = ap (λ (ys : List Read). x ∷ ys) (take_whole xs)

  end_state : st ≡ state_at o (map read_line all) (length (map read_line all))
  end_state = g.state ∙ ap (λ (x : List TextLine). with_all o opening (said_by (map read_line x))) (sym all_front) ∙ ap (λ (x : List Read). with_all o opening (said_by x)) (sym (take_whole (map read_line all)))

  at_end : fault_on_line o r (map read_line all) (length (map read_line all)) ≡ fault
  at_end = on_end o r (map read_line all) ∙ ap (λ (s : State). fault_at_end s.place) (sym end_state) ∙ sym is

  pub end_fault : (kind : FaultKind) → fault ≡ Some kind → IsFirstFault o r first (map read_line all) (record { line = n; kind = kind })
  end_fault kind e = record {
    place = length (map read_line all);
    line_is = omega (arith, g.number, size);
    here = at_end ∙ e;
    before = subst (λ (k : ℕ). AreClean o r (map read_line all) k) (sym size) g.clean;
  }

  pub end_fine : fault ≡ None → ReadsTo o r first (map read_line all) None st
  end_fine e = (clean_all, end_state)
    where
      clean_all : AreClean o r (map read_line all) (length (map read_line all) + 1)
      clean_all m low = by (dec_eq m (length (map read_line all)))
        where
          by : (m ≡ length (map read_line all)) ⊎ (m ≡ length (map read_line all) → ⊥) → fault_on_line o r (map read_line all) m ≡ None
          by (inl same) = ap (λ (k : ℕ). fault_on_line o r (map read_line all) k) same ∙ at_end ∙ e
          by (inr other) = g.clean m (omega (arith, low, other, size))

-- the same under the names and the record that the reader began with
pub goes_same : (o p : Names) (r q : Recorded) (st next : State) (line : TextLine) (fault : Option FaultKind) → o ≡ p → r ≡ q → GoesBy o st (fault_in o r st (read_line line)) (read_line line).said fault next → GoesBy p st (fault_in p q st (read_line line)) (read_line line).said fault next
goes_same o p r q st next line fault e f goes =
    subst (λ (x : Names). GoesBy x st (fault_in x q st (read_line line)) (read_line line).said fault next) e
    (subst (λ (x : Recorded). GoesBy o st (fault_in o x st (read_line line)) (read_line line).said fault next) f goes)

-- and under these names, this record and these lines
pub read_as : (o p : Names) (r q : Recorded) (first : ℕ) (reads all : List Read) (fault : Option Fault) (st : State) → o ≡ p → r ≡ q → reads ≡ all → ReadsTo o r first reads fault st → ReadsTo p q first all fault st
read_as o p r q first reads all fault st e f g reads_to =
    subst (λ (x : Names). ReadsTo x q first all fault st) e
    (subst (λ (x : Recorded). ReadsTo o x first all fault st) f
    (subst (λ (xs : List Read). ReadsTo o r first xs fault st) g reads_to))

-- lines without a fault mean what they say
pub meant_of : (o : Names) (r : Recorded) (first : ℕ) (reads : List Read) (st : State) → ReadsTo o r first reads None st → AreMeant o r reads st.accesses st.names
meant_of o r first reads st reads_to = record { clean = reads_to.0; accesses_are = ap (λ (x : State). x.accesses) reads_to.1; names_are = ap (λ (x : State). x.names) reads_to.1 }
