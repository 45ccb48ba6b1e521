-- What a race report finds of a text, from what is found of its parts.
use Rattle.std.proofs.Common.{◌≡◌, ℕ, ◌+◌, ◌-◌, List, length, map, take, drop, Option, Some, None, refl, sym, ap, ap₂, subst, ◌∙◌}
use Rattle.std.specs.Prelude.{IfOk, Result, Ok, Err}
use Rattle.cx_names.specs.declared.errors.NoMemory.{NoMemory}
use Rattle.cx_text.specs.declared.fault.Fault.{Fault}
use Rattle.cx_text.specs.Lines.{Line as TextLine, lines_of}
use Rattle.cx_script.specs.Faults.{first_fault}
use Rattle.cx_script.specs.Script.{Script, names_in}
use Rattle.cx_script.proofs.Whole.{meaning_of, meaning_is}
use Rattle.cx_scene.specs.Scene.{Scene}
use Rattle.cx_scenario.specs.Front.{front_lines, IsFront}
use Rattle.cx_history.specs.Histories.{Recorded}
use Rattle.cx_history.specs.IsRecord.{IsRecord}
use Rattle.cx_history.specs.Legal.{LegalRecord}
use Rattle.cx_history.specs.Follows.{Follows}
use Rattle.cx_record.specs.Roster.{roster_of}
use Rattle.cx_record.specs.Checked.{script_in}
use Rattle.cx_order.specs.declared.ordered.Ordered.{Ordered}
use Rattle.cx_order.specs.Order.{IsOrdered}
use Rattle.cx_races.specs.declared.access.Access.{Access}
use Rattle.cx_accesses.specs.RecordPart.{part_lines, part_meaning, IsRecordPart}
use Rattle.cx_accesses.specs.AccessLines.{Read, read_line}
use Rattle.cx_accesses.specs.AccessesMeant.{reads_of, AreMeant, IsFirstFault}
use Rattle.cx_commands.specs.FaultLine.{fault_line}
use Rattle.cx_commands.specs.Findings.{IsFlawless}
use Rattle.cx_commands.specs.Racing.{races_limit, behind_scenario, record_lines, record_from, access_lines, accesses_from, IsScenario, IsRecorded, AreRaced, HaveFault, in_scenario, in_record, in_accesses, IsFoundFault}
use Rattle.cx_commands.specs.RacesFound.{FindsOrder, FindsJudged, Means, FindsAccesses, FindsRaces}
use Rattle.cx_commands.specs.declared.racing.Racing.{Racing}
use Rattle.cx_commands.specs.declared.racing.Racing.TheVariants as racings

-- ---- the scenario's lines

-- lines that mean a scenario have no fault, and say it
record Says (lines : List TextLine) (s : Script) : Type 0 where
  clear : first_fault lines ≡ None
  says : script_in lines ≡ s

said_of : (lines : List TextLine) (s : Script) (o : Option Fault) → first_fault lines ≡ o → meaning_of lines o ≡ Ok s → Says lines s
said_of lines s (Some f) e h = absurd cc
said_of lines s None e h = record { clear = e; says = cc }

front_says : (room : ℕ) (text : List ℕ) (s : Script) (len next : ℕ) → IsFront room text s len next → Says (front_lines (lines_of room text)) s
front_says room text s len next h =
    let lines : List TextLine = lines_of room (take len text) in
    subst (λ (x : List TextLine). Says x s) h.lines
    (said_of lines s (first_fault lines) refl (sym (meaning_is room (take len text) (first_fault lines) refl) ∙ h.means))

is_scenario : (room : ℕ) (text : List ℕ) (s : Script) (len next : ℕ) → IsFront room text s len next → IsScenario (lines_of room text) s
is_scenario room text s len next h = let p = front_says room text s len next h in record { clear = p.clear; says = p.says }

-- ---- the record's

part_is : (lines rest : List TextLine) (s : Script) (next : ℕ) (v : Result Recorded Fault) → rest ≡ behind_scenario lines → next ≡ record_from lines
    → part_meaning (roster_of s) next (part_lines rest) ≡ v → part_meaning (roster_of s) (record_from lines) (record_lines lines) ≡ v
part_is lines rest s next v e f h =
    subst (λ (n : ℕ). part_meaning (roster_of s) n (record_lines lines) ≡ v) f
    (subst (λ (x : List TextLine). part_meaning (roster_of s) next (part_lines x) ≡ v) e h)

-- what stands behind the bytes of a scenario are the lines behind it
rest_is : (text rest : List ℕ) (s : Script) (len next room : ℕ) → IsFront races_limit text s len next → rest ≡ drop len text → room ≡ races_limit - len → lines_of room rest ≡ behind_scenario (lines_of races_limit text)
rest_is text rest s len next room h e k = ap₂ lines_of k e ∙ h.rest

-- ---- the accesses'

-- a text's first two parts, and the lines of the third with the number of the first
pub record Behind (lines : List TextLine) (s : Script) (r : Recorded) (first : ℕ) (reads : List Read) : Type 0 where
  pub parts : IsRecorded lines s r
  pub reads_are : reads ≡ access_lines lines
  pub first_is : first ≡ accesses_from lines

reads_in : (lines rest last : List TextLine) → rest ≡ behind_scenario lines → last ≡ drop (length (part_lines rest)) rest → map read_line last ≡ access_lines lines
reads_in lines rest last e k = ap (map read_line) (k ∙ ap (λ (x : List TextLine). drop (length (part_lines x)) x) e)

first_in : (lines rest : List TextLine) (next after : ℕ) → rest ≡ behind_scenario lines → next ≡ record_from lines → after ≡ next + length (part_lines rest) → after ≡ accesses_from lines
first_in lines rest next after e f k = k ∙ ap₂ (λ (n : ℕ) (x : List TextLine). n + length (part_lines x)) f e

pub behind_part : (text rest last : List ℕ) (s : Script) (r : Recorded) (len next room used after left : ℕ) → IsFront races_limit text s len next → rest ≡ drop len text → room ≡ races_limit - len
    → IsRecordPart s next room rest r used after → last ≡ drop used rest → left ≡ room - used → Behind (lines_of races_limit text) s r after (reads_of left last)
behind_part text rest last s r len next room used after left h e k p le lk =
    let lines : List TextLine = lines_of races_limit text in
    let here : lines_of room rest ≡ behind_scenario lines = rest_is text rest s len next room h e k in
    record {
      parts = record { scenario = is_scenario races_limit text s len next h; recorded = part_is lines (lines_of room rest) s next (Ok r) here h.next_is p.means };
      reads_are = reads_in lines (lines_of room rest) (lines_of left last) here (ap₂ lines_of lk le ∙ p.rest);
      first_is = first_in lines (lines_of room rest) next after here h.next_is p.next_is;
    }

-- ---- of a record

pub ordered_as : (s t : Scene) (r : Recorded) (o : Ordered) → s ≡ t → IsOrdered s r o → IsOrdered t r o
ordered_as s t r o e h = subst (λ (x : Scene). IsOrdered x r o) e h

pub formed_as : (s t : Scene) (r : Recorded) → s ≡ t → IsRecord t r → IsRecord s r
formed_as s t r e h = subst (λ (x : Scene). IsRecord x r) (sym e) h

pub legal_as : (s t : Scene) (r : Recorded) → s ≡ t → LegalRecord t r → LegalRecord s r
legal_as s t r e h = subst (λ (x : Scene). LegalRecord x r) (sym e) h

pub follows_as : (s t : Scene) (r : Recorded) → s ≡ t → Follows t r → Follows s r
follows_as s t r e h = subst (λ (x : Scene). Follows x r) (sym e) h

-- of a record without a flaw
judged : (x : Racing) (s : Script) (r : Recorded) (accesses : List Access) (names : List (List ℕ)) → IsFlawless s r → FindsOrder x s r accesses names → FindsJudged x s r accesses names
judged (racings.Reported text) s r accesses names g h = (g, h)
judged (racings.Cyclic line) s r accesses names g h = (g, h)
judged (racings.Illegal line) s r accesses names g h = absurd h
judged (racings.Faulty line) s r accesses names g h = absurd h

pub judged_so : (x : Result Racing NoMemory) (s : Script) (r : Recorded) (accesses : List Access) (names : List (List ℕ)) → IsFlawless s r → IfOk x (λ f. FindsOrder f s r accesses names) → IfOk x (λ f. FindsJudged f s r accesses names)
judged_so (Ok f) s r accesses names g h = judged f s r accesses names g h
judged_so (Err e) s r accesses names g h = tt

-- ---- of accesses

meant : (x : Racing) (s : Script) (r : Recorded) (first room : ℕ) (rest : List ℕ) (accesses : List Access) (names : List (List ℕ)) → AreMeant (names_in s) r (reads_of room rest) accesses names
    → FindsJudged x s r accesses names → FindsAccesses x s r first room rest
meant (racings.Reported text) s r first room rest accesses names a h = record { accesses = accesses; names = names; are = a; holds = h }
meant (racings.Cyclic line) s r first room rest accesses names a h = record { accesses = accesses; names = names; are = a; holds = h }
meant (racings.Illegal line) s r first room rest accesses names a h = record { accesses = accesses; names = names; are = a; holds = h }
meant (racings.Faulty line) s r first room rest accesses names a h = absurd h

pub meant_so : (x : Result Racing NoMemory) (s : Script) (r : Recorded) (first room : ℕ) (rest : List ℕ) (accesses : List Access) (names : List (List ℕ)) → AreMeant (names_in s) r (reads_of room rest) accesses names
    → IfOk x (λ f. FindsJudged f s r accesses names) → IfOk x (λ f. FindsAccesses f s r first room rest)
meant_so (Ok f) s r first room rest accesses names a h = meant f s r first room rest accesses names a h
meant_so (Err e) s r first room rest accesses names a h = tt

-- ---- of a text

-- all that the lines mean
raced : (lines : List TextLine) (s : Script) (r : Recorded) (first room : ℕ) (rest : List ℕ) (Of : List Access → List (List ℕ) → Type 0) (m : Means s r room rest Of) → Behind lines s r first (reads_of room rest)
    → AreRaced lines (record { script = s; recorded = r; accesses = m.accesses; names = m.names })
raced lines s r first room rest Of m b = record { parts = b.parts; accesses_are = subst (λ (x : List Read). AreMeant (names_in s) r x m.accesses m.names) b.reads_are m.are }

faulty : (lines : List TextLine) (s : Script) (r : Recorded) (first : ℕ) (reads : List Read) (f : Fault) → Behind lines s r first reads → IsFirstFault (names_in s) r first reads f → HaveFault lines f
faulty lines s r first reads f b h =
    in_accesses s r b.parts
    (subst (λ (n : ℕ). IsFirstFault (names_in s) r n (access_lines lines) f) b.first_is
    (subst (λ (x : List Read). IsFirstFault (names_in s) r first x f) b.reads_are h))

found : (x : Racing) (text : List ℕ) (s : Script) (r : Recorded) (first room : ℕ) (rest : List ℕ) → Behind (lines_of races_limit text) s r first (reads_of room rest) → FindsAccesses x s r first room rest → FindsRaces x text
found (racings.Reported t) text s r first room rest b h =
    record {
      raced = record { script = s; recorded = r; accesses = h.accesses; names = h.names };
      means = raced (lines_of races_limit text) s r first room rest _ h b;
      flawless = h.holds.0;
      no_cycle = h.holds.1.no_cycle;
      reports = h.holds.1.reports;
    }
found (racings.Cyclic line) text s r first room rest b h =
    record {
      raced = record { script = s; recorded = r; accesses = h.accesses; names = h.names };
      means = raced (lines_of races_limit text) s r first room rest _ h b;
      flawless = h.holds.0;
      names = h.holds.1;
    }
found (racings.Illegal line) text s r first room rest b h =
    record {
      raced = record { script = s; recorded = r; accesses = h.accesses; names = h.names };
      means = raced (lines_of races_limit text) s r first room rest _ h b;
      names = h.holds;
    }
found (racings.Faulty line) text s r first room rest b h =
    record { fault = h.fault; has = faulty (lines_of races_limit text) s r first (reads_of room rest) h.fault b h.is; text_is = h.line_is }

pub found_so : (x : Result Racing NoMemory) (text : List ℕ) (s : Script) (r : Recorded) (first room : ℕ) (rest : List ℕ) → Behind (lines_of races_limit text) s r first (reads_of room rest)
    → IfOk x (λ f. FindsAccesses f s r first room rest) → IfOk x (λ f. FindsRaces f text)
found_so (Ok f) text s r first room rest b h = found f text s r first room rest b h
found_so (Err e) text s r first room rest b h = tt

-- the record has a fault
pub bad_record : {f : Fault} (text rest line : List ℕ) (s : Script) (len next room : ℕ) → line ≡ fault_line f → IsFront races_limit text s len next → rest ≡ drop len text → room ≡ races_limit - len
    → part_meaning (roster_of s) next (part_lines (lines_of room rest)) ≡ Err f → IsFoundFault text line
bad_record {f} text rest line s len next room l h e k p =
    let here : lines_of room rest ≡ behind_scenario (lines_of races_limit text) = rest_is text rest s len next room h e k in
    record { fault = f; has = in_record s (is_scenario races_limit text s len next h) (part_is (lines_of races_limit text) (lines_of room rest) s next (Err f) here h.next_is p); text_is = l }

-- the scenario has a fault
pub bad_scenario : (text line : List ℕ) (f : Fault) → first_fault (front_lines (lines_of races_limit text)) ≡ Some f → line ≡ fault_line f → IsFoundFault text line
bad_scenario text line f h l = record { fault = f; has = in_scenario h; text_is = l }
