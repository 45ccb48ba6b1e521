-- A stop state [thread.stoptoken]: of callbacks, which are registered, in the order of their registration, which run, which ended, and which are gone.
use Rattle.std.specs.Prelude.{ℕ, zero, ◌+◌, ◌-◌, ◌/◌, ◌^◌, ◌==◌, ◌&&◌, ◌||◌, not, ℤ, pos, Bool, false, List, [], ◌∷◌, ◌++◌, length, filter, Option, Some, None, is_some, nat_lt}
use Rattle.std.specs.List.{list_any}
use Rattle.cx_names.specs.declared.Reply.{Reply}
use Rattle.cx_names.specs.declared.Reply.TheVariants as replies
use Rattle.cx_machine.specs.declared.kind.Op.{Op}
use Rattle.cx_machine.specs.declared.kind.Op.TheVariants as ops
use Rattle.cx_machine.specs.declared.stop.Running.{Running}
use Rattle.cx_machine.specs.Words.{when, is_thread, has, without, inserted}

pub record Stop : Type 0 where
  pub requester : Option ℕ
  pub sources : ℕ
  pub registered : List ℕ
  pub running : List Running
  pub ended : List ℕ
  pub gone : List ℕ

abbrev pub opening : ℕ → Stop
opening sources = record { requester = None; sources = sources; registered = []; running = []; ended = []; gone = [] }

abbrev pub is_requested : Stop → Bool
is_requested s = is_some s.requester

abbrev pub is_possible : Stop → Bool
is_possible s = is_requested s || nat_lt 0 s.sources

abbrev pub can_add : Stop → Bool
can_add s = nat_lt 0 s.sources && nat_lt s.sources (2 ^ 32 - 1)

abbrev pub is_pair : ℕ → ℕ → Running → Bool
is_pair by id r = (r.thread == by) && (r.id == id)

-- this thread runs this callback
abbrev pub runs : List Running → ℕ → ℕ → Bool
runs rs by id = list_any (λ r. is_pair by id r) rs

-- some thread does
abbrev pub is_running : List Running → ℕ → Bool
is_running rs id = list_any (λ (r : Running). r.id == id) rs

abbrev pub ended_by : List Running → ℕ → ℕ → List Running
ended_by rs by id = filter (λ r. not (is_pair by id r)) rs

-- the id is this thread's, and in none of the four sets
abbrev pub is_fresh : Stop → ℕ → ℕ → Bool
is_fresh s by id = (id / 4096 == by) && not (has s.registered id || is_running s.running id || has s.ended id || has s.gone id)

abbrev pub can_register : Stop → ℕ → ℕ → Bool
can_register s by id = not (is_requested s) && nat_lt 0 s.sources && is_fresh s by id

abbrev pub can_register_now : Stop → ℕ → ℕ → Bool
can_register_now s by id = is_requested s && is_fresh s by id

abbrev pub can_begin : Stop → ℕ → ℕ → Bool
can_begin s by id = is_thread s.requester by && has s.registered id

-- nothing can come of a registration
abbrev pub is_never : Stop → ℕ → ℕ → Bool
is_never s by id = not (is_requested s) && (s.sources == 0) && is_fresh s by id

abbrev pub is_drained : Stop → Bool
is_drained s = is_requested s && (length s.registered == 0)

abbrev pub requested : Stop → ℕ → Stop
requested s by = record s { requester = Some by }

abbrev pub with_another : Stop → Stop
with_another s = record s { sources = s.sources + 1 }

abbrev pub without_one : Stop → Stop
without_one s = record s { sources = s.sources - 1 }

-- registered, after those that are
abbrev pub registered_too : Stop → ℕ → Stop
registered_too s id = record s { registered = s.registered ++ id ∷ [] }

-- this thread runs it now
abbrev pub began : Stop → ℕ → ℕ → Stop
began s by id = record s { registered = without s.registered id; running = s.running ++ record { thread = by; id = id } ∷ [] }

abbrev pub finished : Stop → ℕ → ℕ → Stop
finished s by id = record s { running = ended_by s.running by id; ended = inserted s.ended id }

-- gone before it ran, and after
abbrev pub removed : Stop → ℕ → Stop
removed s id = record s { registered = without s.registered id; gone = inserted s.gone id }

abbrev pub ran : Stop → ℕ → Stop
ran s id = record s { ended = without s.ended id; gone = inserted s.gone id }

-- change: needs, then
abbrev pub step : Stop → ℕ → Op → Option ℕ → ℤ → Reply → Option Stop
step s by ops.Request (Some zero) (pos zero) replies.Ok = when (not (is_requested s)) (requested s by)
step s by ops.Another (Some zero) (pos zero) replies.Ok = when (can_add s) (with_another s)
step s by ops.Drop (Some zero) (pos zero) replies.Ok = when (nat_lt 0 s.sources) (without_one s)
step s by ops.Register (Some id) (pos zero) replies.Ok = when (can_register s by id) (registered_too s id)
step s by ops.RegisterNow (Some id) (pos zero) replies.Ok = when (can_register_now s by id) (began s by id)
step s by ops.Begin (Some id) (pos zero) replies.Ok = when (can_begin s by id) (began s by id)
step s by ops.Finish (Some id) (pos zero) replies.Ok = when (runs s.running by id) (finished s by id)
step s by ops.Deregister (Some id) (pos zero) replies.Removed = when (has s.registered id) (removed s id)
step s by ops.Deregister (Some id) (pos zero) replies.Ran = when (has s.ended id) (ran s id)
step s by ops.Deregister (Some id) (pos zero) replies.Inside = when (runs s.running by id) s
step s by _ _ _ _ = None

-- look: shown where
abbrev pub shows : Stop → ℕ → Op → Option ℕ → ℤ → Reply → Bool
shows s by ops.Already (Some zero) (pos zero) replies.Ok = is_requested s
shows s by ops.StopRequested (Some zero) (pos zero) replies.True = is_requested s
shows s by ops.StopRequested (Some zero) (pos zero) replies.False = not (is_requested s)
shows s by ops.StopPossible (Some zero) (pos zero) replies.True = is_possible s
shows s by ops.StopPossible (Some zero) (pos zero) replies.False = not (is_possible s)
shows s by ops.Never (Some id) (pos zero) replies.Ok = is_never s by id
shows s by ops.Drained (Some zero) (pos zero) replies.Ok = is_drained s
shows s by _ _ _ _ = false
