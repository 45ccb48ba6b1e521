-- A record read line by line: what holds after some lines, and in the end.
use Rattle.std.proofs.Common.{◌≡◌, ℕ, suc, ◌+◌, Bool, true, false, cond, List, [], ◌∷◌, ◌++◌, map, Option, Some, None, refl, sym, ap, subst, ◌∙◌, length, arith}
use Rattle.std.proofs.lemmas.List.{append-nil}
use Rattle.cx_text.specs.declared.fault.FaultKind.{FaultKind}
use Rattle.cx_text.specs.declared.fault.Fault.{Fault}
use Rattle.cx_text.specs.Items.{items}
use Rattle.cx_text.specs.Lines.{Line as TextLine, words_of, lines_of}
use Rattle.cx_text.specs.Words.{line_by, or_some}
use Rattle.std.specs.Borrow.{Bor}
use Rattle.cx_text.specs.Views.{now_all}
use Rattle.cx_items.specs.declared.item.Item.{Item}
use Rattle.cx_text.specs.declared.item.ItemForm.{ItemForm}
use Rattle.cx_text.specs.declared.value.Value.{Value as ValueOf}
use Rattle.std.specs.Prelude.{Ok, Err}
use Rattle.cx_script.specs.Script.{Script}
use Rattle.cx_record.specs.Parsed.{record_meaning, meaning_of, by_fault}
use Rattle.cx_record.specs.Roster.{Roster, roster_of}
use Rattle.cx_record.specs.RosterSeen.{line_seen}
use Rattle.cx_record.specs.ItemLines.{Line, as_list, lists_from, part_of}
use Rattle.cx_record.specs.RecordFaults.{Read, read_line, said_by, fault_on, fault_at_end, first_fault, Place, Opening, Between, Inside, Over, Stage, stands_at}
use Rattle.cx_record.specs.RecordSteps.{walk, goes_on, fault_at, State, state_after, stage_behind, opening_state, fault_in, bytes_fault, words_fault, said_fault, named_fault, misplaced, GoesBy, ReadsTo}
use Rattle.cx_record.proofs.Walked.{walk_is_first}
use Rattle.cx_record.proofs.FaultOf.{fault_same, nothing_said}
use Rattle.cx_record.proofs.Content.{content, content_at, content_next}

-- after some of the lines, with n the number of the next and `left` those still to come
pub record IsGoing (r : Roster) (first : ℕ) (lines : List TextLine) (n : ℕ) (left : List TextLine) (s : State) : Type 0 where
  pub roster : s.roster ≡ r
  pub fault : walk r n s.stage (map read_line left) ≡ first_fault r first lines
  pub lists : content s (said_by (map read_line left)) ≡ lists_from r 0 (said_by (map read_line lines))

pub going_start : (r : Roster) (first : ℕ) (lines : List TextLine) → IsGoing r first lines first lines (opening_state r)
going_start r first lines = record { roster = refl; fault = walk_is_first r first lines; lists = refl }

-- ---- a line that has a fault

faulty_walk : (r : Roster) (n : ℕ) (g : Stage) (read : Read) (reads : List Read) (kind : FaultKind) → fault_on r g read ≡ Some kind → walk r n g (read ∷ reads) ≡ Some (record { line = n; kind = kind })
unfolding walk
faulty_walk r n g read reads kind h = rw h refl

pub going_fault : (r : Roster) (first : ℕ) (lines : List TextLine) (n : ℕ) (line : TextLine) (rest : List TextLine) (s : State) (kind : FaultKind)
    → IsGoing r first lines n (line ∷ rest) s → fault_in r s.stage (read_line line) ≡ Some kind → first_fault r first lines ≡ Some (record { line = n; kind = kind })
going_fault r first lines n line rest s kind g h =
    sym g.fault ∙ faulty_walk r n s.stage (read_line line) (map read_line rest) kind (sym (fault_same r s.stage line) ∙ h)

-- ---- a line that has none

clean_walk : (r : Roster) (n : ℕ) (g : Stage) (read : Read) (reads : List Read) → fault_on r g read ≡ None → walk r n g (read ∷ reads) ≡ walk r (suc n) (stage_behind g read.said) reads
unfolding walk
clean_walk r n g read reads h = rw h refl

rest_none : (a b : Option FaultKind) → or_some a b ≡ None → b ≡ None
rest_none (Some k) b h = absurd cc
rest_none None b h = h

stands_where : (b : Bool) (o : Option FaultKind) (k : FaultKind) → cond b o (Some k) ≡ None → b ≡ true
stands_where true o k h = refl
stands_where false o k h = absurd cc

stage_of : (s : State) (o : Option Line) → (state_after s o).stage ≡ stage_behind s.stage o
stage_of s None = refl
stage_of s (Some l) = refl

roster_after : (s : State) (o : Option Line) → (state_after s o).roster ≡ s.roster
roster_after s None = refl
roster_after s (Some l) = refl

said_stands : (r : Roster) (g : Stage) (ws : List (List ℕ)) (o : Option Line) (l : Line) → (ws ≡ [] → o ≡ None) → o ≡ Some l → words_fault r g ws o ≡ None → stands_at r g l g.place (part_of l.form) ≡ true
said_stands r g [] o l h e f = absurd (let z : Some l ≡ None = sym e ∙ h refl in cc)
said_stands r g (w ∷ ws) o l h e f = stands_where (stands_at r g l g.place (part_of l.form)) (named_fault r l) (misplaced g.place) (sym (ap (λ (x : Option Line). said_fault r g x) e) ∙ f)

content_after : (s : State) (o : Option Line) (rest : List Line) → ((l : Line) → o ≡ Some l → stands_at s.roster s.stage l s.stage.place (part_of l.form) ≡ true) → content (state_after s o) rest ≡ content s (as_list o ++ rest)
content_after s None rest h = refl
content_after s (Some l) rest h = content_next s l rest (h l refl)

pub going_on : (r : Roster) (first : ℕ) (lines : List TextLine) (n : ℕ) (line : TextLine) (rest : List TextLine) (s : State)
    → IsGoing r first lines n (line ∷ rest) s → fault_in r s.stage (read_line line) ≡ None → IsGoing r first lines (suc n) rest (state_after s (read_line line).said)
going_on r first lines n line rest s g h = record {
  roster = roster_after s said ∙ g.roster;
  fault = ap (λ (x : Stage). walk r (suc n) x (map read_line rest)) (stage_of s said) ∙ sym (clean_walk r n s.stage (read_line line) (map read_line rest) (sym (fault_same r s.stage line) ∙ h)) ∙ g.fault;
  lists = content_after s said (said_by (map read_line rest)) stands ∙ g.lists;
}
  where
    said : Option Line
    said = (read_line line).said

    stands : (l : Line) → said ≡ Some l → stands_at s.roster s.stage l s.stage.place (part_of l.form) ≡ true
    stands l e = subst (λ (x : Roster). stands_at x s.stage l s.stage.place (part_of l.form) ≡ true) (sym g.roster)
        (said_stands r s.stage (words_of line.bytes) said l (nothing_said (words_of line.bytes)) e (rest_none (bytes_fault line) _ h))

-- ---- the end

end_walk : (r : Roster) (n : ℕ) (g : Stage) → walk r n g [] ≡ fault_at n (fault_at_end g.place)
unfolding walk
end_walk r n g = refl

ended : (s : State) (p : Place) → fault_at_end p ≡ None → content_at s [] p ≡ s.done
ended s Over h = append-nil s.done
ended s Opening h = absurd cc
ended s Between h = absurd cc
ended s Inside h = absurd cc

at_end : (r : Roster) (first : ℕ) (lines : List TextLine) (n : ℕ) (s : State) → IsGoing r first lines n [] s → (o : Option FaultKind) → fault_at_end s.stage.place ≡ o → ReadsTo r first lines (fault_at n o) s
at_end r first lines n s g None e = (sym g.fault ∙ end_walk r n s.stage ∙ ap (fault_at n) e, sym g.lists ∙ ended s s.stage.place e, g.roster)
at_end r first lines n s g (Some kind) e = sym g.fault ∙ end_walk r n s.stage ∙ ap (fault_at n) e

-- what is known where no line is left
pub end_fine : (r : Roster) (first : ℕ) (lines : List TextLine) (n : ℕ) (left : List TextLine) (s : State) (o : Option FaultKind) → IsGoing r first lines n left s → left ≡ [] → o ≡ fault_at_end s.stage.place → o ≡ None → ReadsTo r first lines None s
end_fine r first lines n left s o g e h k = at_end r first lines n s (subst (λ (x : List TextLine). IsGoing r first lines n x s) e g) None (sym h ∙ k)

pub end_fault : (r : Roster) (first : ℕ) (lines : List TextLine) (n : ℕ) (left : List TextLine) (s : State) (o : Option FaultKind) (kind : FaultKind) → IsGoing r first lines n left s → left ≡ [] → o ≡ fault_at_end s.stage.place → o ≡ Some kind
    → first_fault r first lines ≡ Some (record { line = n; kind = kind })
end_fault r first lines n left s o kind g e h k = at_end r first lines n s (subst (λ (x : List TextLine). IsGoing r first lines n x s) e g) (Some kind) (sym h ∙ k)

module _ (r : Roster) (first : ℕ) (lines : List TextLine) (n : ℕ) (line : TextLine) (left rest : List TextLine) (s t : State) (fault : Option FaultKind)
    (g : IsGoing r first lines n left s) (split : left ≡ line ∷ rest) (goes : GoesBy s (fault_in s.roster s.stage (read_line line)) (read_line line).said fault t) where
  there : IsGoing r first lines n (line ∷ rest) s
  there = subst (λ (x : List TextLine). IsGoing r first lines n x s) split g

  here : (o : Option FaultKind) → fault_in s.roster s.stage (read_line line) ≡ o → fault_in r s.stage (read_line line) ≡ o
  here o e = sym (ap (λ (x : Roster). fault_in x s.stage (read_line line)) g.roster) ∙ e

  -- a line with a fault is the first
  pub line_fault_is : (kind : FaultKind) → fault ≡ Some kind → first_fault r first lines ≡ Some (record { line = n; kind = kind })
  line_fault_is kind e = going_fault r first lines n line rest s kind there (here (Some kind) (subst (λ (f : Option FaultKind). GoesBy s (fault_in s.roster s.stage (read_line line)) (read_line line).said f t) e goes))

  -- a line without one is taken
  pub line_taken : (m : ℕ) → m ≡ n + 1 → fault ≡ None → IsGoing r first lines m rest t
  line_taken m next e =
      let p : GoesBy s (fault_in s.roster s.stage (read_line line)) (read_line line).said None t = subst (λ (f : Option FaultKind). GoesBy s (fault_in s.roster s.stage (read_line line)) (read_line line).said f t) e goes in
      let one : suc n ≡ m = omega arith in
      subst (λ (k : ℕ). IsGoing r first lines k rest t) one (subst (λ (x : State). IsGoing r first lines (suc n) rest x) (sym p.1) (going_on r first lines n line rest s there (here None p.0)))

-- ---- for the functions of the reader

pub dropped_words : (s : State) (ws : List (Bor (List ℕ))) → length ws ≡ 0 → GoesBy s (words_fault s.roster s.stage (now_all ws) (line_by items 1 (now_all ws))) (line_by items 1 (now_all ws)) None s
unfolding line_by
dropped_words s [] h = (refl, refl)
dropped_words s (w ∷ ws) h = absurd (omega arith)

pub said_goes : (s t : State) (ws : List (List ℕ)) (l : Line) (fault : Option FaultKind) → Some l ≡ line_by items 1 ws
    → GoesBy s (said_fault s.roster s.stage (Some l)) (Some l) fault t → GoesBy s (words_fault s.roster s.stage ws (line_by items 1 ws)) (line_by items 1 ws) fault t
said_goes s t [] l fault e h = absurd (let z : Some l ≡ None = e ∙ nothing_said [] refl in cc)
said_goes s t (w ∷ ws) l fault e h = subst (λ (o : Option Line). GoesBy s (words_fault s.roster s.stage (w ∷ ws) o) o fault t) e h

pub said_goes_by : (s t : State) (ws : List (List ℕ)) (form : ItemForm) (us vs : List ValueOf) (fault : Option FaultKind) → us ≡ vs → Some (line_seen form vs) ≡ line_by items 1 ws
    → GoesBy s (said_fault s.roster s.stage (Some (line_seen form us))) (Some (line_seen form us)) fault t → GoesBy s (words_fault s.roster s.stage ws (line_by items 1 ws)) (line_by items 1 ws) fault t
said_goes_by s t ws form us vs fault same e h =
    said_goes s t ws (line_seen form vs) fault e (subst (λ (x : List ValueOf). GoesBy s (said_fault s.roster s.stage (Some (line_seen form x))) (Some (line_seen form x)) fault t) same h)

-- ---- what the text means

pub meaning_ok : (x : Script) (first room : ℕ) (text : List ℕ) (lines : List TextLine) (r : Roster) (s : State) → lines ≡ lines_of room text → r ≡ roster_of x → ReadsTo r first lines None s
    → record_meaning x first room text ≡ Ok (record { version = s.roster.version; lists = s.done })
unfolding record_meaning
meaning_ok x first room text lines r s same of h =
    ap (λ (ls : List TextLine). meaning_of (roster_of x) first ls) (sym same)
    ∙ ap (λ (q : Roster). meaning_of q first lines) (sym of)
    ∙ ap (by_fault r lines) h.0
    ∙ ap (λ (ls : List (Option (List Item))). Ok (record { version = r.version; lists = ls })) h.1
    ∙ ap (λ (q : Roster). Ok (record { version = q.version; lists = s.done })) (sym h.2)

pub meaning_bad : (x : Script) (first room : ℕ) (text : List ℕ) (lines : List TextLine) (r : Roster) (s : State) (f : Fault) → lines ≡ lines_of room text → r ≡ roster_of x → ReadsTo r first lines (Some f) s
    → record_meaning x first room text ≡ Err f
unfolding record_meaning
meaning_bad x first room text lines r s f same of h =
    ap (λ (ls : List TextLine). meaning_of (roster_of x) first ls) (sym same)
    ∙ ap (λ (q : Roster). meaning_of q first lines) (sym of)
    ∙ ap (by_fault r lines) h
