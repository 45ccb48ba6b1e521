-- What a clause says of a stop state, its passes, sources and registered callbacks.
use Rattle.std.specs.Prelude.{◌≡◌, ℕ, ◌+◌, ◌*◌, ◌<◌, ◌≤◌, [], ◌∷◌, Some, true}
use Rattle.atomic_table.specs.Seated.{TableId}
use Rattle.cx_machine.specs.Acts.{at_entry}
use Rattle.cx_machine.specs.Meaning.{run}
use Rattle.cx_machine.specs.Stop.{Stop, step, is_fresh}
use Rattle.cx_machine.specs.declared.kind.Op.{Op}
use Rattle.cx_names.specs.declared.Reply.{Reply}
use Rattle.cx_turn.specs.declared.view.View.{View}
use Rattle.cx_turn.specs.declared.pass.Pass.{Pass}
use Rattle.cx_turn.specs.Passes.{IsPassAt, IsNoteAt, IsPassWith, seats_of}
use Rattle.cx_turn.specs.Acts.{Makes, Looks}
use Rattle.cx_turn.specs.Views.{Has}
use Rattle.cx_stop.specs.Kinds.{stopping, means, opens}
use Rattle.cx_stop.specs.Acts.{act, seen_at, IsRequester, IsRunning}
use Rattle.cx_stop.specs.Went.{Did}
use Rattle.cx_stop.specs.declared.pass.StopPass.{StopPass}
use Rattle.cx_stop.specs.declared.pass.StopSource.{StopSource}
use Rattle.cx_stop.specs.declared.pass.StopCallback.{StopCallback}
use Rattle.cx_stop.specs.declared.state.StopState.{StopState}

-- which stop state it is
pub record StopId : Type 0 where
  pub table : TableId
  pub start : Stop
  pub seats : ℕ

-- this thread has registered no callback with this tag or a greater one
abbrev pub FreshFrom : ℕ → ℕ → Stop → Type 0
FreshFrom by next m = (tag : ℕ) → next ≤ tag → tag < 4096 → is_fresh m by (by * 4096 + tag) ≡ true

-- it is an idle pass of this stop state, and knows v
pub record IsStopPassAt (i : StopId) (p : StopPass) (v : View Stop) : Type 0 where
  pub pass : IsPassAt stopping i.table i.start i.seats p.pass v
  pub fresh : (m : Stop) → run (at_entry step) (Some v.start) v.front ≡ Some m → FreshFrom v.number p.next_tag m

-- they are sources of this stop state
pub record IsSourceAt (i : StopId) (s : StopSource) (v : View Stop) : Type 0 where
  pub note : IsNoteAt stopping i.table i.start i.seats s.note v
  pub calls : v.left ≡ 0
  pub ids : v.holds ≡ []

-- it is a registration with this stop state: it holds its ID, and one change is paid for
pub record IsCallbackAt (i : StopId) (c : StopCallback) (v : View Stop) : Type 0 where
  pub note : IsNoteAt stopping i.table i.start i.seats c.note v
  pub call : v.left ≡ 1
  pub share : v.share ≡ 0
  pub id : v.holds ≡ c.id ∷ []

module _ {C : Type 0} where
  abbrev pub stop_id : StopState C → StopId
  stop_id s = record { table = s.turn.board.shared.table_id; start = opens s.turn; seats = seats_of means s.turn }

  -- how many passes there may be
  abbrev pub stop_seats : StopState C → ℕ
  stop_seats s = seats_of means s.turn

  -- of the pass alone, without its tags
  abbrev pub IsInnerWith : StopState C → Pass Stop → View Stop → Type 0
  IsInnerWith s p v = IsPassWith means stopping s.turn p v

  abbrev pub IsInner : StopState C → Pass Stop → Type 0
  IsInner s p = (v : View Stop) × IsInnerWith s p v

  abbrev pub IsStopPassWith : StopState C → StopPass → View Stop → Type 0
  IsStopPassWith s p v = IsStopPassAt (stop_id s) p v

  abbrev pub IsStopPass : StopState C → StopPass → Type 0
  IsStopPass s p = (v : View Stop) × IsStopPassWith s p v

  abbrev pub IsSourceWith : StopState C → StopSource → View Stop → Type 0
  IsSourceWith s x v = IsSourceAt (stop_id s) x v

  abbrev pub IsSource : StopState C → StopSource → Type 0
  IsSource s x = (v : View Stop) × IsSourceWith s x v

  abbrev pub IsCallbackWith : StopState C → StopCallback → View Stop → Type 0
  IsCallbackWith s c v = IsCallbackAt (stop_id s) c v

  abbrev pub IsCallback : StopState C → StopCallback → Type 0
  IsCallback s c = (v : View Stop) × IsCallbackWith s c v

  -- the pass holds this ID: the callback is registered, runs or has ended
  abbrev pub HoldsId : StopState C → StopPass → ℕ → Type 0
  HoldsId s p id = (v : View Stop) → IsStopPassWith s p v → Has v.holds (Some id)

  -- the pass's thread made the request
  abbrev pub HasRequested : StopState C → StopPass → Type 0
  HasRequested s p = (v : View Stop) → IsStopPassWith s p v → IsRequester v

  -- the pass's thread runs this callback
  abbrev pub RunsId : StopState C → StopPass → ℕ → Type 0
  RunsId s p id = (v : View Stop) → IsStopPassWith s p v → IsRunning id v

  -- the pass went on by this change alone, at the position n
  abbrev pub StopMakes : StopState C → StopPass → StopPass → Op → ℕ → Reply → ℕ → Type 0
  StopMakes s p q op id r n = (v : View Stop) → IsStopPassWith s p v → (w : View Stop) × IsStopPassWith s q w × Makes stopping v w (act v.number op id r) n

  -- the same, beside a note that came to the pass or left it
  abbrev pub StopDid : StopState C → StopPass → StopPass → Op → ℕ → Reply → ℕ → Type 0
  StopDid s p q op id r n = (v : View Stop) → IsStopPassWith s p v → (w : View Stop) × IsStopPassWith s q w × Did v w (act v.number op id r) n

  -- the pass went on by this look alone, after the first k changes
  abbrev pub StopLooks : StopState C → StopPass → StopPass → Op → ℕ → Reply → ℕ → Type 0
  StopLooks s p q op id r k = (v : View Stop) → IsStopPassWith s p v → (w : View Stop) × IsStopPassWith s q w × Looks stopping v w (seen_at v.number op id r k)
