-- What a clause says of a cell and its passes.
use Rattle.std.specs.Prelude.{ℕ}
use Rattle.cx_machine.specs.declared.machine.Meaning.{Ghosts}
use Rattle.cx_turn.specs.declared.view.View.{View}
use Rattle.cx_turn.specs.declared.pass.Pass.{Pass}
use Rattle.cx_turn.specs.Passes.{IsPassWith, start_of, seats_of}
use Rattle.cx_cell.specs.declared.cell.Cell.{Cell}
use Rattle.cx_cell.specs.Queue.{inner}

module _ {S M H : Type 0} (meaning : S → M) where
  -- the state before the first change
  abbrev pub cell_start : Cell M S H → M
  cell_start c = start_of (inner meaning) c.turn

  -- how many passes there may be
  abbrev pub cell_seats : Cell M S H → ℕ
  cell_seats c = seats_of (inner meaning) c.turn

  module _ (K : Ghosts M) where
    -- it is an idle pass of this cell, and knows v
    abbrev pub IsCellPassWith : Cell M S H → Pass M → View M → Type 0
    IsCellPassWith c p v = IsPassWith (inner meaning) K c.turn p v

    abbrev pub IsCellPass : Cell M S H → Pass M → Type 0
    IsCellPass c p = (v : View M) × IsCellPassWith c p v
