-- What a call made of a pass: how its view differs from that before.
use Rattle.std.specs.Prelude.{◌≡◌, ℕ, List, [], ◌∷◌, ◌++◌, length}
use mathlib.Core.List.{IsPrefix}
use Rattle.cx_machine.specs.Stop.{Stop}
use Rattle.cx_machine.specs.declared.kind.Entry.{Entry}
use Rattle.cx_machine.specs.declared.kind.Look.{Look}
use Rattle.cx_turn.specs.declared.view.View.{View}
use Rattle.cx_turn.specs.Positions.{positions}

-- the same pass, further on
abbrev pub on_to : View Stop → View Stop → View Stop
on_to v w = record v { front = w.front; mine = w.mine; looks = w.looks; left = w.left; met = w.met }

-- the pass went on, with these own positions and looks alone; its number, its share, what it took in and the IDs that it holds are as they were
pub record Went (v w : View Stop) (own : List ℕ) (ls : List Look) : Type 0 where
  pub later : IsPrefix v.front w.front
  pub mine : w.mine ≡ v.mine ++ own
  pub looks : w.looks ≡ v.looks ++ ls
  pub same : w ≡ on_to v w

-- it made this change alone, at this position: the change comes last in what the pass has seen
pub record Did (v w : View Stop) (e : Entry) (n : ℕ) : Type 0 where
  pub went : Went v w (n ∷ []) []
  pub found : List Entry
  pub from : IsPrefix v.front found
  pub others : positions v.number 0 found ≡ v.mine
  pub ends : w.front ≡ found ++ e ∷ []
  pub position : n ≡ length found
