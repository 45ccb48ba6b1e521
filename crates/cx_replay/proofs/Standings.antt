-- How a replay ends, by its scenario.
use Rattle.std.proofs.Common.{◌≡◌, ◌≢◌, ◌<◌, ◌&&◌, ℕ, Bool, true, false, List, [], ◌∷◌, length, Option, Some, refl, arith}
use Rattle.std.specs.Prelude.{is_some}
use Rattle.std.proofs.lemmas.Bool.{and_parts}
use Rattle.cx_scene.specs.Scene.{Scene}
use Rattle.cx_script.specs.Script.{Script}
use Rattle.cx_script.specs.Numbered.{IsScript, numbered}
use Rattle.cx_items.specs.Next.{local_at_start}
use Rattle.cx_history.specs.Histories.{Recorded}
use Rattle.cx_history.specs.Follows.{FollowsSoFar, has_started, after_items, completes}
use Rattle.cx_history.specs.Views.{recorded_of, numbers_of}
use Rattle.cx_weights.proofs.Ending.{so_far_can_end}
use Rattle.cx_replay.specs.Schedule.{Replays, IsLight}
use Rattle.cx_replay.specs.Starting.{OnlyMainStarts}
use Rattle.cx_replay.specs.Views.{replayed_of, IsLiveWhereStuck}
use Rattle.cx_replay.specs.Standing.{IsReplayOf, IsRight, ListsCanEnd, CanEndWhereStuck, IsWellFormed}
use Rattle.cx_replay.specs.declared.outcome.Replayed.{Replayed}
use Rattle.cx_replay.specs.declared.outcome.Replayed.TheVariants.{Ended, Stuck}
use Rattle.cx_replay.proofs.Apt.{AptScene}
use Rattle.cx_replay.proofs.Counting.{few_changes}
use Rattle.cx_replay.proofs.Formed.{formed_record}
use Rattle.cx_replay.proofs.Replaying.{replay_is_legal, replay_follows, stuck_follows_so_far}

some_live : (ts : List ℕ) → 0 < length ts → ts ≢ []
some_live [] live e = omega (arith, live)
some_live (t ∷ ts) live e = cc

pub standing : (r : Replayed) (s : Scene) (seed : Option ℕ) → Replays s seed (replayed_of r) → IsLiveWhereStuck r → IsReplayOf r s seed
standing (Ended x) s seed is live = is
standing (Stuck x t) s seed is live = (is, some_live (numbers_of t) live)

pub right : (r : Replayed) (s : Scene) (seed : Option ℕ) → OnlyMainStarts s → Replays s seed (replayed_of r) → IsRight r s
right (Ended x) s seed only is = (replay_is_legal s seed _ only is, replay_follows s seed _ only is refl)
right (Stuck x t) s seed only is = (replay_is_legal s seed _ only is, stuck_follows_so_far s seed _ only is)

pub formed : (r : Replayed) (s : Scene) (seed : Option ℕ) → AptScene s → OnlyMainStarts s → Replays s seed (replayed_of r) → IsLight s → IsWellFormed r s
formed (Ended x) s seed apt only is light = formed_record s seed _ apt only is (few_changes s seed _ light is)
formed (Stuck x t) s seed apt only is light = formed_record s seed _ apt only is (few_changes s seed _ light is)

both_so : (a b : Bool) → a ≡ true → b ≡ true → (a && b) ≡ true
both_so true b h k = k
both_so false b h k = cc

lists_can_end : (x : Script) (r : Recorded) → IsScript x → FollowsSoFar (numbered x) r → ListsCanEnd (numbered x) r
lists_can_end x r is so_far = record {
  each = λ t xs e.
      let h = and_parts (has_started r t) (is_some (after_items (numbered x) (completes (numbered x) r) t (local_at_start (numbered x) t) xs)) (so_far.each t (Some xs) e) in
      let g = so_far_can_end x (completes (numbered x) r) t xs is h.1 in
      (g.more, both_so (has_started r t) _ h.0 g.whole);
}

pub can_end : (r : Replayed) (x : Script) → IsScript x → IsRight r (numbered x) → CanEndWhereStuck r (numbered x)
can_end (Ended r) x is right_ = tt
can_end (Stuck r t) x is right_ = lists_can_end x (recorded_of r) is right_.1
