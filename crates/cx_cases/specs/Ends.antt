-- How a replay ends.
use Rattle.std.specs.Prelude.{ℕ, List, []}
use Rattle.cx_history.specs.Histories.{Recorded}
use Rattle.cx_replay.specs.Schedule.{Replayed}

-- with no thread live
abbrev pub ended : Recorded → Replayed
ended r = record { recorded = r; live = [] }

-- with these threads still live
abbrev pub stuck : Recorded → List ℕ → Replayed
stuck r live = record { recorded = r; live = live }
