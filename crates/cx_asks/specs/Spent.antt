-- What a thread's list has taken, started and changed.
use Rattle.std.specs.Prelude.{ℕ, ◌+◌, ◌==◌, List, [], ◌∷◌, Some, if◌then◌else◌}
use Rattle.cx_machine.specs.Meaning.{bit}
use Rattle.cx_items.specs.declared.item.Item.{Item}
use Rattle.cx_items.specs.declared.item.Item.TheVariants as items
use Rattle.cx_history.specs.Follows.{starts}
use Rattle.cx_asks.specs.Offers.{counted_by}

-- how much of the counter of latch o an item takes
abbrev pub takes_by : ℕ → Item → ℕ
takes_by o (items.Change q p e) = if q.0 == o then counted_by (Some e.op) e.a else 0
takes_by o _ = 0

-- 1 where the item starts thread u
abbrev pub starts_by : ℕ → Item → ℕ
starts_by u x = bit (starts u x)

-- 1 where the item is a change of object o
abbrev pub changes_by : ℕ → Item → ℕ
changes_by o (items.Change q p e) = if q.0 == o then 1 else 0
changes_by o _ = 0

-- what these items are together
abbrev pub spent : (Item → ℕ) → List Item → ℕ
spent by [] = 0
spent by (x ∷ xs) = by x + spent by xs
