-- What came of a registration and a deregistration, each by itself.
use Rattle.std.specs.Prelude.{◌≡◌, ◌⊎◌, ℕ, true, Some}
use Rattle.cx_names.specs.declared.Reply.TheVariants as replies
use Rattle.cx_machine.specs.declared.kind.Op.TheVariants as ops
use Rattle.cx_machine.specs.Stop.{Stop, can_register, can_register_now, is_never}
use Rattle.cx_turn.specs.declared.view.View.{View}
use Rattle.cx_turn.specs.Acts.{Makes, Looks}
use Rattle.cx_turn.specs.Views.{Has}
use Rattle.cx_stop.specs.declared.steps.Put.{Put}
use Rattle.cx_stop.specs.declared.steps.Put.TheVariants as puts
use Rattle.cx_stop.specs.declared.steps.Way.{Way}
use Rattle.cx_stop.specs.declared.steps.Way.TheVariants as ways
use Rattle.cx_stop.specs.declared.steps.Back.{Back}
use Rattle.cx_stop.specs.Kinds.{stopping}
use Rattle.cx_stop.specs.Acts.{act, seen_at, Changed, Looked}
use Rattle.cx_stop.specs.Runs.{Begins}
use Rattle.cx_stop.specs.declared.pass.StopPass.{StopPass}
use Rattle.cx_stop.specs.declared.state.StopState.{StopState}
use Rattle.cx_stop.specs.Stops.{HoldsId, RunsId}

-- what a registration comes to at this state
abbrev pub IsWay : Stop → ℕ → ℕ → Way → Type 0
IsWay m by id ways.Queue = can_register m by id ≡ true
IsWay m by id ways.Run = can_register_now m by id ≡ true
IsWay m by id ways.Never = is_never m by id ≡ true

module _ {C : Type 0} where
  -- under the turn
  abbrev pub PutUnder : View Stop → View Stop → ℕ → C → Put C → Type 0
  PutUnder v w id x (puts.Queued n) = Changed v w (act v.number ops.Register id replies.Ok) n
  PutUnder v w id x (puts.Now n c) = Changed v w (act v.number ops.RegisterNow id replies.Ok) n × (c ≡ x)
  PutUnder v w id x (puts.Never k c) = Looked v w (seen_at v.number ops.Never id replies.Ok k) × (c ≡ x)

  -- the callback is registered, and the pass holds its ID; or its thread runs it; or nothing can come of it. Where the value isn't kept it is given back
  abbrev pub Puts : View Stop → View Stop → ℕ → C → Put C → Type 0
  Puts v w id x (puts.Queued n) = Makes stopping v w (act v.number ops.Register id replies.Ok) n × Has w.holds (Some id)
  Puts v w id x (puts.Now n c) = Begins v w id n × (c ≡ x)
  Puts v w id x (puts.Never k c) = Looks stopping v w (seen_at v.number ops.Never id replies.Ok k) × (c ≡ x)

  -- the pass holds this ID, or its thread runs the callback
  abbrev pub IsUnder : StopState C → StopPass → ℕ → Put C → Type 0
  IsUnder s p id (puts.Queued n) = HoldsId s p id
  IsUnder s p id (puts.Now n c) = RunsId s p id
  IsUnder s p id (puts.Never k c) = Unit {0}

  -- how many changes it is charged
  abbrev pub put_cost : Put C → ℕ
  put_cost (puts.Queued n) = 3
  put_cost (puts.Now n c) = 2
  put_cost (puts.Never k c) = 0

  -- the reply is one of the three, and where the callback didn't begin there is a value that suits its ID
  pub record IsBack (suits : C → ℕ → Type 0) (id : ℕ) (b : Back C) : Type 0 where
    pub one : (b.reply ≡ replies.Removed) ⊎ ((b.reply ≡ replies.Ran) ⊎ (b.reply ≡ replies.Inside))
    pub value : b.reply ≡ replies.Removed → (x : C) × (b.value ≡ Some x) × suits x id
