-- Where no count of faults rises, the status of a race report is that of what the text means, or memory ran out.
use Rattle.std.proofs.Common.{◌≡◌, ◌≢◌, inl, inr, ℕ, ◌+◌, ◌<◌, ◌≤◌, List, length, take, Option, Some, None, Bool, true, false, nat_lt, refl, sym, ap, subst, ◌∙◌, arith, eqb-true}
use Rattle.std.specs.Prelude.{IfSome, Result, Ok, Err, ◌==◌, if◌then◌else◌}
use Rattle.std.proofs.lemmas.Bool.{cases_Bool, ltb-true, ltb-false}
use Rattle.std.proofs.lemmas.Option.{slice_get_past}
use Rattle.cx_io.specs.Edge.{IsRead}
use Rattle.cx_text.specs.declared.fault.FaultKind.{FaultKind}
use Rattle.cx_text.specs.declared.fault.Fault.{Fault}
use Rattle.cx_text.specs.Lines.{Line as TextLine, lines_of}
use Rattle.cx_script.specs.Script.{Script, Names, names_in}
use Rattle.cx_script.specs.Numbered.{numbered}
use Rattle.cx_history.specs.Histories.{Recorded}
use Rattle.cx_history.specs.Flaw.{first_flaw}
use Rattle.cx_record.specs.Roster.{roster_of}
use Rattle.cx_order.specs.Edges.{HasNoCycle}
use Rattle.cx_accesses.specs.RecordPart.{part_meaning}
use Rattle.cx_accesses.specs.AccessLines.{Read, fault_at_end}
use Rattle.cx_accesses.specs.AccessesMeant.{state_at, fault_at, fault_on_line, AreClean, IsFirstFault}
use Rattle.cx_commands.specs.Top.{OfRead}
use Rattle.cx_commands.specs.Racing.{races_limit, record_lines, record_from, access_lines, accesses_from, IsScenario, IsRecorded, Raced, AreRaced, HaveFault, in_scenario, in_record, in_accesses, IsFoundReport, IsFoundWrong, IsFoundFault, IsWrong, IsStatusOf, CompletesRaces, CompletesRacesFault}
use Rattle.cx_commands.specs.declared.status.Status.{Status}
use Rattle.cx_commands.specs.declared.status.Status.TheVariants as status

-- ---- lines have one meaning, or a first fault

one_scenario : (lines : List TextLine) (s t : Script) → IsScenario lines s → IsScenario lines t → s ≡ t
one_scenario lines s t h k = sym h.says ∙ k.says

abbrev ok_of : Recorded → Result Recorded Fault
ok_of r = Ok r

abbrev err_of : Fault → Result Recorded Fault
err_of f = Err f

ok_is : (r u : Recorded) → ok_of r ≡ ok_of u → r ≡ u
ok_is r u e = cc

ok_err : (r : Recorded) (f : Fault) → ok_of r ≡ err_of f → ⊥
ok_err r f e = cc

none_some : {A : Type 0} (x : A) (o : Option A) → o ≡ None → o ≡ Some x → ⊥
none_some x o e f = let q : None ≡ Some x = sym e ∙ f in cc

part_as : (lines : List TextLine) (s t : Script) (v : Result Recorded Fault) → s ≡ t → part_meaning (roster_of s) (record_from lines) (record_lines lines) ≡ v → part_meaning (roster_of t) (record_from lines) (record_lines lines) ≡ v
part_as lines s t v e h = subst (λ (x : Script). part_meaning (roster_of x) (record_from lines) (record_lines lines) ≡ v) e h

one_record : (lines : List TextLine) (s t : Script) (r u : Recorded) → s ≡ t → IsRecorded lines s r → IsRecorded lines t u → r ≡ u
one_record lines s t r u e h k = ok_is r u (sym (part_as lines s t (Ok r) e h.recorded) ∙ k.recorded)

-- a fault stands on a line or right behind the last
past_end : (o : Names) (r : Recorded) (reads : List Read) (n : ℕ) → length reads < n → fault_on_line o r reads n ≡ None
past_end o r reads n h = ap (fault_at o r reads n) (slice_get_past reads n (omega arith)) ∙ behind (length reads == n) refl
  where
    behind : (b : Bool) → (length reads == n) ≡ b → (if b then fault_at_end (state_at o reads n).place else None) ≡ None
    behind true e = absurd (let same = eqb-true (length reads) n e in omega (arith, h, same))
    behind false e = refl

within_end : (o : Names) (r : Recorded) (reads : List Read) (n : ℕ) (kind : FaultKind) → fault_on_line o r reads n ≡ Some kind → n < length reads + 1
within_end o r reads n kind h = elim (cases_Bool (nat_lt (length reads) n)) [
  | inl e ↦ absurd (none_some kind (fault_on_line o r reads n) (past_end o r reads n (ltb-true (length reads) n e)) h)
  | inr e ↦ let le : n ≤ length reads = ltb-false (length reads) n e in omega (arith, le)
]

never_clean : (o : Names) (r : Recorded) (first : ℕ) (reads : List Read) (f : Fault) → IsFirstFault o r first reads f → AreClean o r reads (length reads + 1) → ⊥
never_clean o r first reads f h clean = none_some f.kind (fault_on_line o r reads h.place) (clean h.place (within_end o r reads h.place f.kind h.here)) h.here

never_both : (lines : List TextLine) (x : Raced) (f : Fault) → AreRaced lines x → HaveFault lines f → ⊥
never_both lines x f h (in_scenario e) = none_some f _ h.parts.scenario.clear e
never_both lines x f h (in_record s k e) = ok_err x.recorded f (sym h.parts.recorded ∙ part_as lines s x.script (Err f) (one_scenario lines s x.script k h.parts.scenario) e)
never_both lines x f h (in_accesses s r k e) =
    let scripts : s ≡ x.script = one_scenario lines s x.script k.scenario h.parts.scenario in
    let records : r ≡ x.recorded = one_record lines s x.script r x.recorded scripts k h.parts in
    let here : IsFirstFault (names_in x.script) x.recorded (accesses_from lines) (access_lines lines) f =
    subst (λ (y : Script). IsFirstFault (names_in y) x.recorded (accesses_from lines) (access_lines lines) f) scripts
    (subst (λ (u : Recorded). IsFirstFault (names_in s) u (accesses_from lines) (access_lines lines) f) records e) in
    never_clean (names_in x.script) x.recorded (accesses_from lines) (access_lines lines) f here h.accesses_are.clean

-- ---- the bytes that are told

bytes_are : (left : Option (List ℕ)) (bytes all : List ℕ) → left ≡ Some all → IsRead races_limit left bytes → bytes ≡ take (races_limit + 1) all
bytes_are left bytes all told read = subst (λ (o : Option (List ℕ)). IfSome o (λ x. bytes ≡ take (races_limit + 1) x)) told read.told

abbrev told_lines : List ℕ → List TextLine
told_lines all = lines_of races_limit (take (races_limit + 1) all)

same_lines : (left : Option (List ℕ)) (bytes all : List ℕ) → left ≡ Some all → IsRead races_limit left bytes → lines_of races_limit bytes ≡ told_lines all
same_lines left bytes all told read = ap (lines_of races_limit) (bytes_are left bytes all told read)

-- what holds of the script and the record of these lines holds of those of the same lines
moved : (P : Script → Recorded → Type 0) (here there : List TextLine) (x y : Raced) → here ≡ there → AreRaced here x → AreRaced there y → P y.script y.recorded → P x.script x.recorded
moved P here there x y e h k p =
    let mine : AreRaced there x = subst (λ (l : List TextLine). AreRaced l x) e h in
    let scripts : y.script ≡ x.script = one_scenario there y.script x.script k.parts.scenario mine.parts.scenario in
    let records : y.recorded ≡ x.recorded = one_record there y.script x.script y.recorded x.recorded scripts k.parts mine.parts in
    subst (λ (s : Script). P s x.recorded) scripts (subst (λ (r : Recorded). P y.script r) records p)

-- ---- the status

abbrev HasNoFlaw : Script → Recorded → Type 0
HasNoFlaw s r = first_flaw (numbered s) r ≡ None

-- neither a flaw nor a cycle
abbrev IsGood : Script → Recorded → Type 0
IsGood s r = HasNoFlaw s r × HasNoCycle (numbered s) r

never_wrong : (s : Script) (r : Recorded) → IsGood s r → IsWrong s r → ⊥
never_wrong s r g (inl w) = none_some w.0 (first_flaw (numbered s) r) g.0 w.1
never_wrong s r g (inr w) = g.1 w.0 w.1.reaches_itself

-- the status Illegal says that the record is wrong
is_wrong : (bytes text : List ℕ) → IsFoundWrong bytes text → (x : Raced) × AreRaced (lines_of races_limit bytes) x × IsWrong x.script x.recorded
is_wrong bytes text (inl h) = (h.raced, h.means, inl (h.names.flaw, h.names.first))
is_wrong bytes text (inr h) = (h.raced, h.means, inr (h.names.point, h.names.first))

wrong_never : (left : Option (List ℕ)) (W : List ℕ → Type 0) (text : List ℕ) (x : Raced) → left ≡ Some text → AreRaced (told_lines text) x → IsGood x.script x.recorded → OfRead races_limit left IsFoundWrong W → ⊥
wrong_never left W text x told means good h =
    let w = is_wrong h.bytes h.text h.says in
    let here : IsGood w.0.script w.0.recorded = moved IsGood (lines_of races_limit h.bytes) (told_lines text) w.0 x (same_lines left h.bytes text told h.read) w.1 means good in
    never_wrong w.0.script w.0.recorded here w.2

report_never : (left : Option (List ℕ)) (W : List ℕ → Type 0) (text : List ℕ) (x : Raced) → left ≡ Some text → AreRaced (told_lines text) x → IsWrong x.script x.recorded → OfRead races_limit left IsFoundReport W → ⊥
report_never left W text x told means wrong h =
    let y : Raced = h.says.raced in
    let here : IsWrong y.script y.recorded = moved IsWrong (lines_of races_limit h.bytes) (told_lines text) y x (same_lines left h.bytes text told h.read) h.says.means means wrong in
    never_wrong y.script y.recorded (h.says.flawless.flawless, h.says.no_cycle) here

fault_never : (left : Option (List ℕ)) (W : List ℕ → Type 0) (text : List ℕ) (x : Raced) → left ≡ Some text → AreRaced (told_lines text) x → OfRead races_limit left IsFoundFault W → ⊥
fault_never left W text x told means h =
    never_both (told_lines text) x h.says.fault means (subst (λ (l : List TextLine). HaveFault l h.says.fault) (same_lines left h.bytes text told h.read) h.says.has)

raced_never : (left : Option (List ℕ)) (bytes text : List ℕ) (x : Raced) (f : Fault) → left ≡ Some text → IsRead races_limit left bytes → AreRaced (lines_of races_limit bytes) x → HaveFault (told_lines text) f → ⊥
raced_never left bytes text x f told read means h = never_both (told_lines text) x f (subst (λ (l : List TextLine). AreRaced l x) (same_lines left bytes text told read) means) h

report_faultless : (left : Option (List ℕ)) (W : List ℕ → Type 0) (text : List ℕ) (f : Fault) → left ≡ Some text → HaveFault (told_lines text) f → OfRead races_limit left IsFoundReport W → ⊥
report_faultless left W text f told has h = raced_never left h.bytes text h.says.raced f told h.read h.says.means has

wrong_faultless : (left : Option (List ℕ)) (W : List ℕ → Type 0) (text : List ℕ) (f : Fault) → left ≡ Some text → HaveFault (told_lines text) f → OfRead races_limit left IsFoundWrong W → ⊥
wrong_faultless left W text f told has h = let w = is_wrong h.bytes h.text h.says in raced_never left h.bytes text w.0 f told h.read w.1 has

of_record : (left : Option (List ℕ)) (W V U : List ℕ → Type 0) (r : Status) → (r ≡ status.Done → OfRead races_limit left IsFoundReport W) → (r ≡ status.Illegal → OfRead races_limit left IsFoundWrong V)
    → (r ≡ status.BadScenario → OfRead races_limit left IsFoundFault U) → (r ≡ status.ReadFault → ⊥) → (r ≡ status.WriteFault → ⊥) → (r ≢ status.BadWords) → (r ≢ status.Stuck) → (r ≢ status.NotBuilt)
    → (text : List ℕ) (x : Raced) → left ≡ Some text → AreRaced (told_lines text) x → IsStatusOf x.script x.recorded r
of_record left W V U status.Done done wrong faulty rf wf bw st nb text x told means = record { free = λ flaw cycle. inl refl; wrong = λ w. absurd (report_never left W text x told means w (done refl)) }
of_record left W V U status.Illegal done wrong faulty rf wf bw st nb text x told means = record { free = λ flaw cycle. absurd (wrong_never left V text x told means (flaw, cycle) (wrong refl)); wrong = λ w. inl refl }
of_record left W V U status.BadScenario done wrong faulty rf wf bw st nb text x told means = absurd (fault_never left U text x told means (faulty refl))
of_record left W V U status.NoMemory done wrong faulty rf wf bw st nb text x told means = record { free = λ flaw cycle. inr refl; wrong = λ w. inr refl }
of_record left W V U status.ReadFault done wrong faulty rf wf bw st nb text x told means = absurd (rf refl)
of_record left W V U status.WriteFault done wrong faulty rf wf bw st nb text x told means = absurd (wf refl)
of_record left W V U status.BadWords done wrong faulty rf wf bw st nb text x told means = absurd (bw refl)
of_record left W V U status.Stuck done wrong faulty rf wf bw st nb text x told means = absurd (st refl)
of_record left W V U status.NotBuilt done wrong faulty rf wf bw st nb text x told means = absurd (nb refl)

pub completes_races : (left : Option (List ℕ)) (W V U : List ℕ → Type 0) (r : Status) → (r ≡ status.Done → OfRead races_limit left IsFoundReport W) → (r ≡ status.Illegal → OfRead races_limit left IsFoundWrong V)
    → (r ≡ status.BadScenario → OfRead races_limit left IsFoundFault U) → (r ≡ status.ReadFault → ⊥) → (r ≡ status.WriteFault → ⊥) → (r ≢ status.BadWords) → (r ≢ status.Stuck) → (r ≢ status.NotBuilt) → CompletesRaces left r
completes_races left W V U r done wrong faulty rf wf bw st nb = λ text x told means. of_record left W V U r done wrong faulty rf wf bw st nb text x told means

pub completes_races_fault : (left : Option (List ℕ)) (W V U : List ℕ → Type 0) (r : Status) → (r ≡ status.Done → OfRead races_limit left IsFoundReport W) → (r ≡ status.WriteFault → OfRead races_limit left IsFoundReport V)
    → (r ≡ status.Illegal → OfRead races_limit left IsFoundWrong U) → (r ≡ status.ReadFault → ⊥) → (r ≢ status.BadWords) → (r ≢ status.Stuck) → (r ≢ status.NotBuilt) → CompletesRacesFault left r
completes_races_fault left W V U status.Done done written wrong rf bw st nb = λ text f told has. absurd (report_faultless left W text f told has (done refl))
completes_races_fault left W V U status.WriteFault done written wrong rf bw st nb = λ text f told has. absurd (report_faultless left V text f told has (written refl))
completes_races_fault left W V U status.Illegal done written wrong rf bw st nb = λ text f told has. absurd (wrong_faultless left U text f told has (wrong refl))
completes_races_fault left W V U status.BadScenario done written wrong rf bw st nb = λ text f told has. inl refl
completes_races_fault left W V U status.NoMemory done written wrong rf bw st nb = λ text f told has. inr refl
completes_races_fault left W V U status.ReadFault done written wrong rf bw st nb = absurd (rf refl)
completes_races_fault left W V U status.BadWords done written wrong rf bw st nb = absurd (bw refl)
completes_races_fault left W V U status.Stuck done written wrong rf bw st nb = absurd (st refl)
completes_races_fault left W V U status.NotBuilt done written wrong rf bw st nb = absurd (nb refl)
