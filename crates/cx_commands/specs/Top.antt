-- What the program promises of its replay.
use Rattle.std.specs.Prelude.{◌≡◌, ◌≢◌, ◌⊎◌, ℕ, List, [], ◌++◌, Option, IfSome, Ok, Err, codes}
use Rattle.cx_io.specs.Edge.{IsRead, Extends, Rose}
use Rattle.cx_text.specs.declared.fault.Fault.{Fault}
use Rattle.cx_script.specs.Script.{Script, meaning}
use Rattle.cx_script.specs.Numbered.{numbered}
use Rattle.cx_history.specs.Histories.{Recorded}
use Rattle.cx_history.specs.Legal.{LegalRecord}
use Rattle.cx_history.specs.Follows.{Follows, FollowsSoFar}
use Rattle.cx_record.specs.Printed.{printed}
use Rattle.cx_replay.specs.Schedule.{Replays}
use Rattle.cx_replay.specs.Standing.{ListsCanEnd}
use Rattle.cx_commands.specs.FaultLine.{fault_line}

-- how many bytes a scenario's text has at most
abbrev pub limit : ℕ
limit = 8388608

abbrev pub usage : List ℕ
usage = codes "usage: cxthread run | replay [SEED] | check | make N | trial N | races\n"

-- ---- what is written of a text

-- The replay of the scenario ends with a record, the record is legal and follows the scenario, and the text is that
-- of both.
pub record Ends (s : Script) (seed : Option ℕ) (text : List ℕ) : Type 0 where
  pub recorded : Recorded
  pub ends : Replays (numbered s) seed (record { recorded = recorded; live = [] })
  pub legal : LegalRecord (numbered s) recorded
  pub follows : Follows (numbered s) recorded
  pub text_is : text ≡ printed s recorded []

-- The replay of the scenario comes to where threads are live and none can go on; the record so far is legal and
-- follows the scenario as far as it goes, each of its lists is a prefix of one that follows, and the text is that of
-- both, with the live threads.
pub record GetsStuck (s : Script) (seed : Option ℕ) (text : List ℕ) : Type 0 where
  pub recorded : Recorded
  pub live : List ℕ
  pub some_live : live ≢ []
  pub ends : Replays (numbered s) seed (record { recorded = recorded; live = live })
  pub legal : LegalRecord (numbered s) recorded
  pub follows : FollowsSoFar (numbered s) recorded
  pub can_end : ListsCanEnd (numbered s) recorded
  pub text_is : text ≡ printed s recorded live

-- the bytes mean a scenario whose replay ends
pub record IsReplayed (seed : Option ℕ) (bytes text : List ℕ) : Type 0 where
  pub script : Script
  pub means : meaning limit bytes ≡ Ok script
  pub ends : Ends script seed text

-- the bytes mean a scenario whose replay gets stuck
pub record IsStuck (seed : Option ℕ) (bytes text : List ℕ) : Type 0 where
  pub script : Script
  pub means : meaning limit bytes ≡ Ok script
  pub stuck : GetsStuck script seed text

-- the bytes mean no scenario, and the text names their first fault
pub record IsFaulty (bytes text : List ℕ) : Type 0 where
  pub fault : Fault
  pub means : meaning limit bytes ≡ Err fault
  pub text_is : text ≡ fault_line fault

-- ---- what a sink took

-- all of the text was taken, where that is told
abbrev pub Took : Option (List ℕ) → Option (List ℕ) → List ℕ → Type 0
Took before after text = IfSome after (λ now. Extends before text now)

-- a front of the text was taken, where that is told
abbrev pub TookFront : Option (List ℕ) → Option (List ℕ) → List ℕ → Type 0
TookFront before after text = IfSome after (λ now. (front rest : List ℕ) × (text ≡ front ++ rest) × Extends before front now)

-- all of the text was taken, or a front of it where the count of faults rose
abbrev pub TookWhatItCould : Option (List ℕ) → Option (List ℕ) → ℕ → ℕ → List ℕ → Type 0
TookWhatItCould before after faults now text = Took before after text ⊎ (Rose faults now × TookFront before after text)

-- ---- of the bytes read

-- The bytes that were read, at most so many and one more, stand in this relation to a text, and of the text this holds.
pub record OfRead (most : ℕ) (left : Option (List ℕ)) (Says : List ℕ → List ℕ → Type 0) (Wrote : List ℕ → Type 0) : Type 0 where
  pub bytes : List ℕ
  pub text : List ℕ
  pub read : IsRead most left bytes
  pub says : Says bytes text
  pub wrote : Wrote text
