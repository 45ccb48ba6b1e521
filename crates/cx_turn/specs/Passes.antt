-- What a clause says of a turn, a pass, a note, and what a taker holds.
use Rattle.std.specs.Prelude.{◌≡◌, ℕ, ◌+◌, ◌^◌, ◌<◌, ◌≤◌, List, [], ◌∷◌, length, Some, true, false}
use mathlib.Core.List.{IsPrefix}
use Rattle.atomic_table.specs.Seated.{TableId}
use Rattle.cx_machine.specs.declared.kind.Entry.{Entry}
use Rattle.cx_machine.specs.declared.machine.Meaning.{Ghosts}
use Rattle.cx_turn.specs.declared.view.View.{View}
use Rattle.cx_turn.specs.declared.turn.Turn.{Turn}
use Rattle.cx_turn.specs.declared.pass.Pass.{Pass}
use Rattle.cx_turn.specs.declared.pass.Note.{Note}
use Rattle.cx_turn.specs.declared.held.Held.{Held}
use Rattle.cx_turn.specs.declared.held.Made.{Made}
use Rattle.cx_machine.specs.Meaning.{run}
use Rattle.cx_turn.specs.Views.{IsKnown, IsNow, Has, cost_of, entered, outside, with_change}
use Rattle.cx_turn.specs.Turning.{IsOut}

-- the numbers that a pass keeps are those of its view
pub record IsCounted {M : Type 0} (v : View M) (len left share : ℕ) : Type 0 where
  pub counted : length v.front ≡ len
  pub may : v.left ≡ left
  pub part : v.share ≡ share

-- it is an idle pass of this table, whose history begins at start, and knows v
pub record IsPassAt {M : Type 0} (K : Ghosts M) (z : TableId) (start : M) (seats : ℕ) (p : Pass M) (v : View M) : Type 0 where
  pub table : p.badge.table_id ≡ z
  pub views : p.badge.views ≡ v ∷ []
  pub live : v.live ≡ true
  pub counts : v.counts ≡ true
  pub idle : v.inside ≡ false
  pub started : v.start ≡ start
  pub seated : v.seats ≡ seats
  pub numbered : v.number ≡ p.number.0
  pub splits : v.splits ≡ p.splits
  pub counted : IsCounted v p.len p.left p.share
  pub known : IsKnown K v

-- it is a note of this table, whose history begins at start, and knows v
pub record IsNoteAt {M : Type 0} (K : Ghosts M) (z : TableId) (start : M) (seats : ℕ) (n : Note M) (v : View M) : Type 0 where
  pub table : n.badge.table_id ≡ z
  pub views : n.badge.views ≡ v ∷ []
  pub live : v.live ≡ true
  pub note : v.counts ≡ false
  pub idle : v.inside ≡ false
  pub started : v.start ≡ start
  pub seated : v.seats ≡ seats
  pub counted : IsCounted v n.len n.left n.share
  pub known : IsKnown K v

module _ {S M H : Type 0} (meaning : S → M) where
  -- the state before the first change
  abbrev pub start_of : Turn M S H → M
  start_of t = meaning t.board.shared.key.state.value

  -- how many passes there may be
  abbrev pub seats_of : Turn M S H → ℕ
  seats_of t = t.board.shared.key.seats

  module _ (K : Ghosts M) where
    -- it is an idle pass of this turn, and knows v
    abbrev pub IsPassWith : Turn M S H → Pass M → View M → Type 0
    IsPassWith t p v = IsPassAt K t.board.shared.table_id (start_of t) (seats_of t) p v

    abbrev pub IsPassOf : Turn M S H → Pass M → Type 0
    IsPassOf t p = (v : View M) × IsPassWith t p v

    -- it is a note of this turn, and knows v
    abbrev pub IsNoteWith : Turn M S H → Note M → View M → Type 0
    IsNoteWith t n v = IsNoteAt K t.board.shared.table_id (start_of t) (seats_of t) n v

    abbrev pub IsNoteOf : Turn M S H → Note M → Type 0
    IsNoteOf t n = (v : View M) × IsNoteWith t n v

    -- the taker knows what the pass knew, and the whole history, which begins with what the pass had seen
    abbrev pub Enters : Turn M S H → Pass M → Held M S H → Type 0
    Enters t p h = (v : View M) → IsPassWith t p v → (h.place.me.0 ≡ entered v h.place.me.0.front) × IsPrefix v.front h.place.me.0.front

-- what a change from one state to the other asks of the pass that makes it: enough changes left, a share of what the pool loses, and the ID that is taken back
pub record CanPay {M : Type 0} (K : Ghosts M) (v : View M) (e : Entry) (now after : M) : Type 0 where
  pub paid : cost_of (K.debt now) (K.debt after) ≤ v.left
  pub shared : K.pool now ≤ v.share + K.pool after
  pub has : Has v.holds (K.takes now e)

module _ {M S H : Type 0} where
  abbrev pub held_view : Held M S H → View M
  held_view h = h.place.me.0

  abbrev pub held_front : Held M S H → List Entry
  held_front h = h.place.me.0.front

  -- the taker's history is the whole one, and leads to the state in its hand
  pub record IsHeld (meaning : S → M) (K : Ghosts M) (h : Held M S H) : Type 0 where
    pub table : h.place.table_id ≡ h.top.now.table_id
    pub words : 0 < h.top.now.table_id.words
    pub out : IsOut h.place
    pub started : h.place.me.0.start ≡ meaning h.top.now.key.state.value
    pub seated : h.place.me.0.seats ≡ h.top.now.key.seats
    pub numbered : h.place.me.0.number ≡ h.number.0
    pub splits : h.place.me.0.splits ≡ h.splits
    pub counted : IsCounted h.place.me.0 h.len h.left h.share
    pub known : IsKnown K h.place.me.0
    pub now : IsNow K h.place.me.0 h.place.me.0.front (meaning h.state)

  -- the same pass, on the same turn
  pub record SamePlace (h h' : Held M S H) : Type 0 where
    pub pass : h'.pass.ghost_name ≡ h.pass.ghost_name
    pub top : h'.top ≡ h.top
    pub number : h'.number ≡ h.number

  -- the pass as the taker leaves it
  abbrev pub IsLeft : (S → M) → Ghosts M → Held M S H → Pass M → Type 0
  IsLeft meaning K h p = IsPassAt K h.top.now.table_id (meaning h.top.now.key.state.value) h.top.now.key.seats p (outside h.place.me.0)

  -- the taker has made the change in the state in its hand, and is to count it when it gives the turn up
  pub record IsMade (meaning : S → M) (K : Ghosts M) (h : Held M S H) (d : Made S) : Type 0 where
    pub table : h.place.table_id ≡ h.top.now.table_id
    pub words : 0 < h.top.now.table_id.words
    pub out : IsOut h.place
    pub started : h.place.me.0.start ≡ meaning h.top.now.key.state.value
    pub seated : h.place.me.0.seats ≡ h.top.now.key.seats
    pub numbered : h.place.me.0.number ≡ h.number.0
    pub splits : h.place.me.0.splits ≡ h.splits
    pub leads : run K.step (Some h.place.me.0.start) h.place.me.0.front ≡ Some (meaning d.before.value)
    pub enabled : K.step (meaning d.before.value) d.entry.value ≡ Some (meaning h.state)
    pub own : d.entry.value.by ≡ h.number
    pub pays : CanPay K h.place.me.0 d.entry.value (meaning d.before.value) (meaning h.state)
    pub pool : K.pool (meaning h.state) < 2 ^ 32
    pub may : (with_change K h.place.me.0 d.entry.value (meaning d.before.value) (meaning h.state)).left ≡ h.left
    pub part : (with_change K h.place.me.0 d.entry.value (meaning d.before.value) (meaning h.state)).share ≡ h.share

  -- the pass as the taker leaves it, who counts the change that it has made
  abbrev pub IsLeftWith : (S → M) → Ghosts M → Held M S H → Made S → Pass M → Type 0
  IsLeftWith meaning K h d p = IsPassAt K h.top.now.table_id (meaning h.top.now.key.state.value) h.top.now.key.seats p (outside (with_change K h.place.me.0 d.entry.value (meaning d.before.value) (meaning h.state)))
