-- What the program promises of a run on real threads.
use Rattle.std.specs.Prelude.{◌≡◌, ◌⊎◌, ℕ, ◌+◌, Bool, true, false, List, [], take, Option, Some, None, Ok}
use Rattle.cx_io.specs.Edge.{IsRead, Rose}
use Rattle.cx_script.specs.Script.{Script, meaning}
use Rattle.cx_script.specs.Numbered.{numbered}
use Rattle.cx_history.specs.Histories.{Recorded, list_of}
use Rattle.cx_history.specs.IsRecord.{IsRecord}
use Rattle.cx_history.specs.Legal.{LegalRecord}
use Rattle.cx_history.specs.Follows.{Follows}
use Rattle.cx_record.specs.Printed.{printed}
use Rattle.cx_kinds.specs.Accesses.{RunObject}
use Rattle.cx_work.specs.Accesses.{AreMadeAs}
use Rattle.cx_run.specs.declared.scenario.Fronts.{Fronts}
use Rattle.cx_run.specs.Runs.{Tally, IsTallied, refusals_in}
use Rattle.cx_run.specs.Results.{AreWhole, changes_elsewhere}
use Rattle.cx_commands.specs.Top.{limit, IsFaulty, Took, TookFront, OfRead}
use Rattle.cx_commands.specs.Built.{is_built}
use Rattle.cx_commands.specs.declared.running.RunAnswer.{RunAnswer}
use Rattle.cx_commands.specs.declared.running.RunAnswer.TheVariants as answers
use Rattle.cx_commands.specs.declared.status.Status.{Status}
use Rattle.cx_commands.specs.declared.status.Status.TheVariants as status

-- ---- a run

-- A run of the scenario, on objects that open as it declares them, gave one record; the text is that of both. The record is
-- legal, follows the scenario and is well formed. From one tally to the other the spawner's counts rose by its starts, by the
-- changes in the lists other than main's, and by at least its refused starts; where no fault was counted, no start
-- was refused. Main's accesses have taken in those of the other threads, as many as were made, and show each object's history in the record.
pub record Ran (s : Script) (old new : Tally) (fronts : Fronts) (text : List ℕ) : Type 0 where
  pub recorded : Recorded
  pub legal : LegalRecord (numbered s) recorded
  pub follows : Follows (numbered s) recorded
  pub formed : IsRecord (numbered s) recorded
  pub tallied : IsTallied old new (list_of recorded 0) (changes_elsewhere recorded)
  pub all_started : (Rose old.faults new.faults → ⊥) → refusals_in (list_of recorded 0) ≡ 0
  pub objects : List RunObject
  pub made : AreMadeAs (numbered s).objects objects
  pub whole : AreWhole (numbered s) objects fronts.accesses.items recorded
  pub text_is : text ≡ printed s recorded []

-- the bytes mean a scenario that was run
pub record IsRun (old new : Tally) (fronts : Fronts) (bytes text : List ℕ) : Type 0 where
  pub script : Script
  pub means : meaning limit bytes ≡ Ok script
  pub built : is_built script ≡ true
  pub ran : Ran script old new fronts text

-- the bytes mean a scenario that `run` isn't built for
pub record IsUnbuilt (bytes : List ℕ) : Type 0 where
  pub script : Script
  pub means : meaning limit bytes ≡ Ok script
  pub unbuilt : is_built script ≡ false

-- what comes of a text before anything is written
abbrev pub AnswersRun : RunAnswer → Tally → Tally → List ℕ → Type 0
AnswersRun (answers.Ran text fronts) old new bytes = IsRun old new fronts bytes text.items
AnswersRun answers.Unbuilt old new bytes = IsUnbuilt bytes
AnswersRun (answers.Faulty line) old new bytes = IsFaulty bytes line.items

abbrev pub is_run : RunAnswer → Bool
is_run (answers.Ran text fronts) = true
is_run _ = false

-- ---- what each status says

-- main's accesses are there, and all was written of the run that gave them
abbrev pub RunsDone : Option Fronts → Option (List ℕ) → Option (List ℕ) → Option (List ℕ) → Tally → Tally → Type 0
RunsDone None left before after old new = ⊥
RunsDone (Some fronts) left before after old new = OfRead limit left (IsRun old new fronts) (Took before after)

-- a front of the text was written of a run, whose accesses are not given
abbrev pub RunsUnwritten : Option (List ℕ) → Option (List ℕ) → Option (List ℕ) → Tally → Tally → Type 0
RunsUnwritten left before after old new = (fronts : Fronts) × OfRead limit left (IsRun old new fronts) (TookFront before after)

-- the bytes read mean a scenario that `run` isn't built for
pub record IsNotBuilt (left : Option (List ℕ)) : Type 0 where
  pub bytes : List ℕ
  pub read : IsRead limit left bytes
  pub says : IsUnbuilt bytes

-- a status that comes before any thread is started
abbrev pub is_before_starts : Status → Bool
is_before_starts status.BadWords = true
is_before_starts status.ReadFault = true
is_before_starts status.BadScenario = true
is_before_starts status.NotBuilt = true
is_before_starts _ = false

-- ---- where a run may not give up

-- The status is Done where runs are built for the scenario that is told, or memory ran out.
abbrev pub CompletesRun : Option (List ℕ) → Status → Type 0
CompletesRun left answer = (text : List ℕ) (s : Script) → left ≡ Some text → meaning limit (take (limit + 1) text) ≡ Ok s → is_built s ≡ true
    → (answer ≡ status.Done) ⊎ (answer ≡ status.NoMemory)

-- The status is NotBuilt where runs aren't built for the scenario that is told, or memory ran out.
abbrev pub CompletesUnbuilt : Option (List ℕ) → Status → Type 0
CompletesUnbuilt left answer = (text : List ℕ) (s : Script) → left ≡ Some text → meaning limit (take (limit + 1) text) ≡ Ok s → is_built s ≡ false
    → (answer ≡ status.NotBuilt) ⊎ (answer ≡ status.NoMemory)
