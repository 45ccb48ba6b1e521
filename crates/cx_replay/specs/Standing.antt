-- What a replay of a scenario answers.
use Rattle.std.specs.Prelude.{◌≡◌, ◌≢◌, ℕ, IsTrue, List, [], ◌++◌, slice_get, Option, Some}
use Rattle.cx_scene.specs.Scene.{Scene}
use Rattle.cx_items.specs.declared.item.Item.{Item}
use Rattle.cx_history.specs.Histories.{Recorded}
use Rattle.cx_history.specs.Views.{recorded_of, numbers_of}
use Rattle.cx_history.specs.Legal.{LegalRecord}
use Rattle.cx_history.specs.Follows.{Follows, FollowsSoFar, list_follows}
use Rattle.cx_history.specs.IsRecord.{IsRecord}
use Rattle.cx_replay.specs.Schedule.{Replays}
use Rattle.cx_replay.specs.declared.outcome.Replayed.{Replayed}
use Rattle.cx_replay.specs.declared.outcome.Replayed.TheVariants as replayed

-- the schedule ends so: with no thread live, or with these
abbrev pub IsReplayOf : Replayed → Scene → Option ℕ → Type 0
IsReplayOf (replayed.Ended r) s seed = Replays s seed (record { recorded = recorded_of r; live = [] })
IsReplayOf (replayed.Stuck r t) s seed = Replays s seed (record { recorded = recorded_of r; live = numbers_of t }) × (numbers_of t ≢ [])

-- the record is legal and follows the scenario, or follows it so far
abbrev pub IsRight : Replayed → Scene → Type 0
IsRight (replayed.Ended r) s = LegalRecord s (recorded_of r) × Follows s (recorded_of r)
IsRight (replayed.Stuck r t) s = LegalRecord s (recorded_of r) × FollowsSoFar s (recorded_of r)

-- the record is well formed
abbrev pub IsWellFormed : Replayed → Scene → Type 0
IsWellFormed (replayed.Ended r) s = IsRecord s (recorded_of r)
IsWellFormed (replayed.Stuck r t) s = IsRecord s (recorded_of r)

-- each list is a prefix of one that follows
pub record ListsCanEnd (s : Scene) (r : Recorded) : Type 0 where
  pub each : (t : ℕ) (xs : List Item) → slice_get r.lists t ≡ Some (Some xs) → (more : List Item) × IsTrue (list_follows s r t (Some (xs ++ more)))

-- where the replay is stuck, each list of its record can go on to its end
abbrev pub CanEndWhereStuck : Replayed → Scene → Type 0
CanEndWhereStuck (replayed.Ended r) s = Unit {0}
CanEndWhereStuck (replayed.Stuck r t) s = ListsCanEnd s (recorded_of r)
