-- What a request came to.
use Rattle.std.specs.Prelude.{◌≡◌, ℕ, List, Option}
use Rattle.cx_names.specs.declared.Reply.TheVariants as replies
use Rattle.cx_machine.specs.declared.kind.Op.TheVariants as ops
use Rattle.cx_machine.specs.Stop.{Stop}
use Rattle.cx_turn.specs.declared.view.View.{View}
use Rattle.cx_turn.specs.Acts.{Makes, Looks}
use Rattle.cx_stop.specs.declared.request.Requested.{Requested}
use Rattle.cx_stop.specs.declared.request.Requested.TheVariants as requesteds
use Rattle.cx_stop.specs.Kinds.{stopping}
use Rattle.cx_stop.specs.Acts.{act, seen_at}
use Rattle.cx_stop.specs.Runs.{Tells, RunsOn}

-- how many changes it is charged
abbrev pub request_cost : Requested → ℕ
request_cost (requesteds.Made n k) = 1
request_cost (requesteds.Already k) = 0

-- it was made: the pass then ran callbacks, of which the runner was told, until none was registered. Or it was made before, and nothing became of the runner
abbrev pub Requests : {U : Type 0} → (U → Option (List (ℕ × ℕ))) → (U → View Stop → U → View Stop → Type 0) → U → U → View Stop → View Stop → Requested → Type 0
Requests ran since r r' v w (requesteds.Made n k) =
    (u x : View Stop) × (acts : List (ℕ × ℕ)) × Makes stopping v u (act v.number ops.Request 0 replies.Ok) n × RunsOn u x 0 acts × Tells (ran r) acts (ran r') × since r u r' x × Looks stopping x w (seen_at v.number ops.Drained 0 replies.Ok k)
Requests ran since r r' v w (requesteds.Already k) = Looks stopping v w (seen_at v.number ops.Already 0 replies.Ok k) × (r' ≡ r)
