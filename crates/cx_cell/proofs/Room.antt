-- There is room for each change by callers below 256.
use Rattle.std.proofs.Common.{◌≡◌, ℕ, ◌+◌, ◌<◌, ◌≤◌, List, [], ◌∷◌, ◌++◌, length, Some, refl, arith}
use Rattle.cx_machine.specs.declared.kind.Entry.{Entry}
use Rattle.cx_machine.specs.declared.machine.Meaning.{Ghosts}
use Rattle.cx_machine.specs.Meaning.{run, AreBelow}
use Rattle.cx_turn.proofs.Histories.{leads_on}
use Rattle.cx_cell.specs.Queue.{HasRoom}

below_more : (es : List Entry) (e : Entry) → AreBelow 256 es → e.by.0 < 256 → AreBelow 256 (es ++ e ∷ [])
below_more [] e all low = (low, tt)
below_more (x ∷ xs) e all low = (all.0, below_more xs e all.1 low)

module _ {M : Type 0} (K : Ghosts M) where
  -- before any change
  pub room_first : (m : M) (spare : ℕ) → K.members m ≡ [] → K.most m 256 ≤ spare → HasRoom K m spare
  room_first m spare bare room = record { first = m; history = []; bare = bare; below = tt; leads = refl; room = omega arith }

  abbrev MostHolds : Type 0
  MostHolds = (m m' : M) (seats : ℕ) (es : List Entry) → K.members m ≡ [] → AreBelow seats es → run K.step (Some m) es ≡ Some m' → length (K.members m') ≤ K.most m seats

  -- a change finds room
  pub room_for : MostHolds → (now after : M) (e : Entry) (spare : ℕ) → HasRoom K now spare → e.by.0 < 256 → K.step now e ≡ Some after → length (K.members after) ≤ length (K.members now) + spare
  room_for holds now after e spare r low enabled =
      let a = holds r.first after 256 (r.history ++ e ∷ []) r.bare (below_more r.history e r.below low) (leads_on K.step r.first r.history e now after r.leads enabled) in
      let b = r.room in omega arith

  -- and leaves as much
  pub room_on : (now after : M) (e : Entry) (spare spare' : ℕ) → HasRoom K now spare → e.by.0 < 256 → K.step now e ≡ Some after → length (K.members after) + spare' ≡ length (K.members now) + spare → HasRoom K after spare'
  room_on now after e spare spare' r low enabled same = record {
    first = r.first;
    history = r.history ++ e ∷ [];
    bare = r.bare;
    below = below_more r.history e r.below low;
    leads = leads_on K.step r.first r.history e now after r.leads enabled;
    room = (let a = r.room in omega arith);
  }
