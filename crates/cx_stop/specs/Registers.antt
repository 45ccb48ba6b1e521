-- What a registration came to.
use Rattle.std.specs.Prelude.{◌≡◌, ℕ, List, [], ◌∷◌, Option}
use Rattle.cx_names.specs.declared.Reply.TheVariants as replies
use Rattle.cx_machine.specs.declared.kind.Op.TheVariants as ops
use Rattle.cx_machine.specs.Stop.{Stop}
use Rattle.cx_turn.specs.declared.view.View.{View}
use Rattle.cx_turn.specs.Acts.{Looks}
use Rattle.cx_stop.specs.declared.register.Registered.{Registered}
use Rattle.cx_stop.specs.declared.register.Registered.TheVariants as registereds
use Rattle.cx_stop.specs.declared.pass.StopCallback.{StopCallback}
use Rattle.cx_stop.specs.Kinds.{stopping}
use Rattle.cx_stop.specs.Acts.{act, seen_at}
use Rattle.cx_stop.specs.Runs.{Tells, RunsOn}
use Rattle.cx_stop.specs.Stops.{StopId, IsCallbackAt}
use Rattle.cx_stop.specs.Went.{Did}

-- the callback is registered, and its note holds its ID and the change that deregisters it
pub record Queues (i : StopId) (v w : View Stop) (id : ℕ) (c : StopCallback) (n : ℕ) : Type 0 where
  pub did : Did v w (act v.number ops.Register id replies.Ok) n
  pub known : View Stop
  pub note : IsCallbackAt i c known
  pub number : c.id ≡ id

module _ {C : Type 0} where
  -- how many changes it is charged: a callback that is registered has paid for its deregistration too
  abbrev pub register_cost : Registered C → ℕ
  register_cost (registereds.Queued c n) = 4
  register_cost (registereds.RanNow n k) = 2
  register_cost (registereds.NeverStops c k) = 0

  -- the callback is registered, and the runner is as it was; or it was run at once; or nothing came of it, and its value is given back
  abbrev pub Registers : {U : Type 0} → StopId → (U → Option (List (ℕ × ℕ))) → (U → View Stop → U → View Stop → Type 0) → U → U → View Stop → View Stop → ℕ → C → Registered C → Type 0
  Registers i ran since r r' v w id x (registereds.Queued c n) = Queues i v w id c n × (r' ≡ r)
  Registers i ran since r r' v w id x (registereds.RanNow n k) = RunsOn v w 2 ((id, n) ∷ ((id, k) ∷ [])) × Tells (ran r) ((id, n) ∷ ((id, k) ∷ [])) (ran r') × since r v r' w
  Registers i ran since r r' v w id x (registereds.NeverStops c k) = Looks stopping v w (seen_at v.number ops.Never id replies.Ok k) × (c ≡ x) × (r' ≡ r)
