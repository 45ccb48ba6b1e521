-- The changes and looks of a stop state, and what a pass must know before it makes them.
use Rattle.std.specs.Prelude.{◌≡◌, ℕ, ◌^◌, ◌<◌, ◌≤◌, pos, true, IsTrue, List, length, Some}
use mathlib.Core.List.{IsPrefix}
use Rattle.cx_names.specs.declared.ThreadNo.{ThreadNo}
use Rattle.cx_names.specs.declared.Reply.{Reply}
use Rattle.cx_machine.specs.Acts.{at_entry, at_look}
use Rattle.cx_machine.specs.Words.{is_thread}
use Rattle.cx_machine.specs.Meaning.{run, change, look_of, ShowsNone, IsOnceEach}
use Rattle.cx_machine.specs.Callbacks.{members}
use Rattle.cx_machine.specs.Stop.{Stop, step, shows, runs, is_fresh}
use Rattle.cx_machine.specs.declared.kind.Op.{Op}
use Rattle.cx_machine.specs.declared.kind.Op.TheVariants as ops
use Rattle.cx_machine.specs.declared.kind.Entry.{Entry}
use Rattle.cx_machine.specs.declared.kind.Look.{Look}
use Rattle.cx_turn.specs.declared.view.View.{View}
use Rattle.cx_turn.specs.Positions.{positions}
use Rattle.cx_turn.specs.Passes.{CanPay}
use Rattle.cx_turn.specs.Views.{with_change, with_look}
use Rattle.cx_turn.specs.Acts.{seen}
use Rattle.cx_stop.specs.Kinds.{stopping}

-- the change with this word and ID, and the look with this word
abbrev pub act : ℕ → Op → ℕ → Reply → Entry
act by op id r = change (record { 0 = by }) op (pos id) (pos 0) r

abbrev pub seen_at : ℕ → Op → ℕ → Reply → ℕ → Look
seen_at by op id r at = look_of (record { 0 = by }) op (pos id) (pos 0) r at

-- the history that a pass finds goes on from what it has seen, by changes of others alone
pub record Found (v : View Stop) (f : List Entry) (now : Stop) : Type 0 where
  pub later : IsPrefix v.front f
  pub own : positions v.number 0 f ≡ v.mine
  pub leads : run (at_entry step) (Some v.start) f ≡ Some now
  pub once : IsOnceEach (members now)
  pub share : v.share ≤ now.sources
  pub few : length f < 2 ^ 28

-- the change is enabled at this state, asks for no room and no value, and the pass can pay for it
pub record IsOpen (v : View Stop) (e : Entry) (now : Stop) : Type 0 where
  pub after : Stop
  pub enabled : at_entry step now e ≡ Some after
  pub room : length (members after) ≤ length (members now)
  pub pays : CanPay stopping v e now after

-- whatever others do, the change stays open to the pass
abbrev pub MayMake : View Stop → Entry → Type 0
MayMake v e = (f : List Entry) (now : Stop) → Found v f now → IsOpen v e now

-- the pass's thread made the request
abbrev pub IsRequester : View Stop → Type 0
IsRequester v = (m : Stop) → run (at_entry step) (Some v.start) v.front ≡ Some m → is_thread m.requester v.number ≡ true

-- the pass's thread runs the callback
abbrev pub IsRunning : ℕ → View Stop → Type 0
IsRunning id v = (m : Stop) → run (at_entry step) (Some v.start) v.front ≡ Some m → runs m.running v.number id ≡ true

-- one change was made, after the history found and at its end
pub record Changed (v w : View Stop) (e : Entry) (n : ℕ) : Type 0 where
  pub found : List Entry
  pub now : Stop
  pub after : Stop
  pub at_ : Found v found now
  pub position : n ≡ length found
  pub enabled : at_entry step now e ≡ Some after
  pub view : w ≡ with_change stopping (seen v found) e now after

-- one look was made, at the state after the whole history found
pub record Looked (v w : View Stop) (l : Look) : Type 0 where
  pub now : Stop
  pub at_ : Found v w.front now
  pub stamp : l.at ≡ length w.front
  pub shown : IsTrue (at_look shows now l)
  pub view : w ≡ with_look (seen v w.front) l

-- nothing was made
pub record Passed (v w : View Stop) : Type 0 where
  pub now : Stop
  pub at_ : Found v w.front now
  pub view : w ≡ seen v w.front

-- a change that leaves the values of the callbacks where they are
abbrev pub MovesNothing : Op → Type 0
MovesNothing ops.Request = Unit {0}
MovesNothing ops.Another = Unit {0}
MovesNothing ops.Drop = Unit {0}
MovesNothing ops.Finish = Unit {0}
MovesNothing _ = ⊥

-- each state shows one of the looks with this word
abbrev pub IsAlwaysShown : Op → Type 0
IsAlwaysShown op = (m : Stop) (by : ThreadNo) → ShowsNone (at_look shows) m by op (pos 0) (pos 0) → ⊥

-- whatever others do, no callback has this ID
abbrev pub MayRegister : View Stop → ℕ → Type 0
MayRegister v id = (f : List Entry) (now : Stop) → Found v f now → is_fresh now v.number id ≡ true
