-- What a race report finds in a text before anything is written.
use Rattle.std.specs.Prelude.{ℕ, List}
use Rattle.cx_script.specs.Script.{Script, names_in}
use Rattle.cx_script.specs.Numbered.{numbered}
use Rattle.cx_history.specs.Histories.{Recorded}
use Rattle.cx_order.specs.Edges.{HasNoCycle}
use Rattle.cx_races.specs.declared.access.Access.{Access}
use Rattle.cx_accesses.specs.AccessesMeant.{reads_of, AreMeant, IsFirstFault}
use Rattle.cx_commands.specs.Findings.{IsFlawless, IsBad}
use Rattle.cx_commands.specs.Racing.{IsReportText, NamesCycle, NamesFlaw, IsFoundReport, IsFoundCycle, IsFoundFlaw, IsFoundFault}
use Rattle.cx_commands.specs.declared.racing.Racing.{Racing}
use Rattle.cx_commands.specs.declared.racing.Racing.TheVariants as racings

-- a report of accesses to a record without a cycle
pub record Reports (s : Script) (r : Recorded) (accesses : List Access) (names : List (List ℕ)) (text : List ℕ) : Type 0 where
  pub no_cycle : HasNoCycle (numbered s) r
  pub reports : IsReportText s r accesses names text

-- of a record that is legal and follows, with accesses to it
abbrev pub FindsOrder : Racing → Script → Recorded → List Access → List (List ℕ) → Type 0
FindsOrder (racings.Reported text) s r accesses names = Reports s r accesses names text.items
FindsOrder (racings.Cyclic line) s r accesses names = NamesCycle s r line.items
FindsOrder (racings.Illegal line) s r accesses names = ⊥
FindsOrder (racings.Faulty line) s r accesses names = ⊥

-- of a record, with accesses to it
abbrev pub FindsJudged : Racing → Script → Recorded → List Access → List (List ℕ) → Type 0
FindsJudged (racings.Reported text) s r accesses names = IsFlawless s r × Reports s r accesses names text.items
FindsJudged (racings.Cyclic line) s r accesses names = IsFlawless s r × NamesCycle s r line.items
FindsJudged (racings.Illegal line) s r accesses names = NamesFlaw s r line.items
FindsJudged (racings.Faulty line) s r accesses names = ⊥

-- the text behind a record means accesses to it, of which this holds
pub record Means (s : Script) (r : Recorded) (room : ℕ) (rest : List ℕ) (Of : List Access → List (List ℕ) → Type 0) : Type 0 where
  pub accesses : List Access
  pub names : List (List ℕ)
  pub are : AreMeant (names_in s) r (reads_of room rest) accesses names
  pub holds : Of accesses names

-- of a record and the text behind it
abbrev pub FindsAccesses : Racing → Script → Recorded → ℕ → ℕ → List ℕ → Type 0
FindsAccesses (racings.Reported text) s r first room rest = Means s r room rest (FindsJudged (racings.Reported text) s r)
FindsAccesses (racings.Cyclic line) s r first room rest = Means s r room rest (FindsJudged (racings.Cyclic line) s r)
FindsAccesses (racings.Illegal line) s r first room rest = Means s r room rest (FindsJudged (racings.Illegal line) s r)
FindsAccesses (racings.Faulty line) s r first room rest = IsBad (λ f. IsFirstFault (names_in s) r first (reads_of room rest) f) line.items

-- of a whole text, with what is written of it
abbrev pub FindsRaces : Racing → List ℕ → Type 0
FindsRaces (racings.Reported text) bytes = IsFoundReport bytes text.items
FindsRaces (racings.Cyclic line) bytes = IsFoundCycle bytes line.items
FindsRaces (racings.Illegal line) bytes = IsFoundFlaw bytes line.items
FindsRaces (racings.Faulty line) bytes = IsFoundFault bytes line.items
