-- An access without a fault stands at a point of the record.
use Rattle.std.proofs.Common.{◌≡◌, ◌⊎◌, inl, inr, ℕ, zero, suc, ◌+◌, ◌<◌, ◌≤◌, Bool, true, false, cond, not, List, [], ◌∷◌, ◌++◌, length, slice_get, Option, Some, None, ℤ, pos, negsuc, refl, sym, ap, subst, ◌∙◌, arith}
use Rattle.std.specs.Prelude.{nat_le, is_some}
use Rattle.std.specs.Option.{unwrap_or, option_and_then}
use Rattle.std.proofs.lemmas.Bool.{leb-true}
use Rattle.cx_text.specs.declared.fault.FaultKind.{FaultKind}
use Rattle.cx_text.specs.declared.fault.FaultKind.TheVariants as faults
use Rattle.cx_text.specs.Lines.{Line as TextLine, words_of}
use Rattle.cx_text.specs.Words.{or_some}
use Rattle.cx_items.specs.declared.item.Item.{Item}
use Rattle.cx_history.specs.Histories.{Recorded}
use Rattle.cx_script.specs.Script.{Names}
use Rattle.cx_accesses.specs.AccessLines.{thread_called, is_known}
use Rattle.cx_order.specs.Points.{point, IsPoint}
use Rattle.cx_races.specs.declared.access.Access.{Access}
use Rattle.cx_races.specs.Races.{at, AreAccesses}
use Rattle.cx_accesses.specs.AccessLines.{access_limit, Said, AVersion, AnAccess, TheLast, read_line, said_by_words, State, count_in, length_in, list_length, is_within, stands_at}
use Rattle.cx_accesses.specs.AccessSteps.{access_fault, placed_fault, said_fault, words_fault, fault_in, state_after, GoesBy}

or_none : (a b : Option FaultKind) → or_some a b ≡ None → b ≡ None
or_none None b e = e
or_none (Some x) b e = cc

last_holds : (a b c d : Bool) (w x y z : FaultKind) → cond a (Some w) (cond (not b) (Some x) (cond (not c) (Some y) (cond (not d) (Some z) None))) ≡ None → d ≡ true
last_holds a b c true w x y z e = refl
last_holds true b c false w x y z e = cc
last_holds false false c false w x y z e = cc
last_holds false true false false w x y z e = cc
last_holds false true true false w x y z e = cc

stood : (b : Bool) (x : Option FaultKind) (m : FaultKind) → cond b x (Some m) ≡ None → x ≡ None
stood true x m e = e
stood false x m e = cc

is_point : (r : Recorded) (t : Option ℕ) (i : ℤ) → is_within (list_length r t) i ≡ true → IsPoint r (point (unwrap_or t 0) (count_in i))
is_point r None i e = cc
is_point r (Some t) i e = by (slice_get r.lists t) refl e
  where
    by : (l : Option (Option (List Item))) → slice_get r.lists t ≡ l → is_within (option_and_then length_in l) i ≡ true → IsPoint r (point t (count_in i))
    by None at_ h = cc
    by (Some None) at_ h = cc
    by (Some (Some xs)) at_ h = within i h
      where
        within : (i : ℤ) → is_within (Some (length xs)) i ≡ true → IsPoint r (point t (count_in i))
        within (pos n) h = record { list = xs; has_list = at_; within = leb-true n (length xs) h }
        within (negsuc n) h = cc

one_more : (r : Recorded) (as_ : List Access) (a : Access) → AreAccesses r as_ → IsPoint r (at a) → AreAccesses r (as_ ++ a ∷ [])
one_more r [] a before here zero b at_ = subst (λ (x : Access). IsPoint r (at x)) (some_is a b at_) here
  where
    some_is : (a b : Access) → Some a ≡ Some b → a ≡ b
    some_is a b e = cc
one_more r [] a before here (suc k) b at_ = cc
one_more r (x ∷ xs) a before here zero b at_ = before 0 b at_
one_more r (x ∷ xs) a before here (suc k) b at_ = one_more r xs a (λ m c at_c. before (suc m) c at_c) here k b at_

said_kept : (o : Names) (r : Recorded) (st : State) (x : Said) → said_fault o r st (Some x) ≡ None → AreAccesses r st.accesses → AreAccesses r (state_after o st (Some x)).accesses
said_kept o r st AVersion none are = are
said_kept o r st TheLast none are = are
said_kept o r st (AnAccess name i var write) none are =
    let placed : access_fault o r st name i ≡ None = stood (stands_at st.place (Some (AnAccess name i var write))) _ _ none in
    let within : is_within (list_length r (thread_called o name)) i ≡ true = last_holds (nat_le access_limit (length st.accesses)) (is_known o name) (is_some (thread_called o name)) (is_within (list_length r (thread_called o name)) i) faults.TooMany faults.UnknownName faults.WrongKind faults.OutOfRange placed in
    one_more r st.accesses _ are (is_point r (thread_called o name) i within)

words_kept : (o : Names) (r : Recorded) (st : State) (ws : List (List ℕ)) → words_fault o r st ws (said_by_words ws) ≡ None → AreAccesses r st.accesses → AreAccesses r (state_after o st (said_by_words ws)).accesses
words_kept o r st [] none are = are
words_kept o r st (w ∷ ws) none are = by (said_by_words (w ∷ ws)) none
  where
    by : (x : Option Said) → said_fault o r st x ≡ None → AreAccesses r (state_after o st x).accesses
    by None none = are
    by (Some x) none = said_kept o r st x none are

-- one line more leaves each access at a point
pub points_kept : (o : Names) (r : Recorded) (st next : State) (line : TextLine) (fault : Option FaultKind) → GoesBy o st (fault_in o r st (read_line line)) (read_line line).said fault next → fault ≡ None → AreAccesses r st.accesses → AreAccesses r next.accesses
points_kept o r st next line None goes e are =
    subst (λ (s : State). AreAccesses r s.accesses) (sym goes.1) (words_kept o r st (words_of line.bytes) (or_none _ _ goes.0) are)
points_kept o r st next line (Some kind) goes e are = cc

pub none_at_first : (r : Recorded) → AreAccesses r []
none_at_first r k a at_ = cc
