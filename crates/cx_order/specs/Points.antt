-- The points of a record's lists.
use Rattle.std.specs.Prelude.{◌≡◌, ℕ, ◌≤◌, List, length, slice_get, Some}
use Rattle.cx_items.specs.declared.item.Item.{Item}
use Rattle.cx_history.specs.Histories.{Recorded}

-- a place in a thread's list: right before the item of this number, or behind the last one
pub record Point : Type 0 where
  pub thread : ℕ
  pub item : ℕ

abbrev pub point : ℕ → ℕ → Point
point t i = record { thread = t; item = i }

-- a list of n items has the points 0 to n
pub record IsPoint (r : Recorded) (p : Point) : Type 0 where
  pub list : List Item
  pub has_list : slice_get r.lists p.thread ≡ Some (Some list)
  pub within : p.item ≤ length list
