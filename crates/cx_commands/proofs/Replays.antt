-- The parts of a replay, put together.
use Rattle.std.proofs.Common.{◌≡◌, ℕ, List, [], Option}
use Rattle.cx_script.specs.Script.{Script}
use Rattle.cx_script.specs.Numbered.{numbered}
use Rattle.cx_history.specs.declared.record.Record.{Record}
use Rattle.cx_history.specs.declared.record.Threads.{Threads}
use Rattle.cx_record.specs.Printed.{printed}
use Rattle.cx_history.specs.Views.{recorded_of, numbers_of}
use Rattle.cx_replay.specs.Standing.{IsReplayOf, IsRight, CanEndWhereStuck}
use Rattle.cx_replay.specs.declared.outcome.Replayed.TheVariants as replayed
use Rattle.cx_commands.specs.Top.{Ends, GetsStuck}

pub ends : (s : Script) (seed : Option ℕ) (r : Record) (text : List ℕ) → IsReplayOf (replayed.Ended r) (numbered s) seed → IsRight (replayed.Ended r) (numbered s)
    → text ≡ printed s (recorded_of r) [] → Ends s seed text
ends s seed r text answer right text_is = record {
  recorded = recorded_of r;
  ends = answer;
  legal = right.0;
  follows = right.1;
  text_is = text_is;
}

pub gets_stuck : (s : Script) (seed : Option ℕ) (r : Record) (t : Threads) (text : List ℕ) → IsReplayOf (replayed.Stuck r t) (numbered s) seed → IsRight (replayed.Stuck r t) (numbered s) → CanEndWhereStuck (replayed.Stuck r t) (numbered s)
    → text ≡ printed s (recorded_of r) (numbers_of t) → GetsStuck s seed text
gets_stuck s seed r t text answer right can_end text_is = record {
  recorded = recorded_of r;
  live = numbers_of t;
  some_live = answer.1;
  ends = answer.0;
  legal = right.0;
  follows = right.1;
  can_end = can_end;
  text_is = text_is;
}
