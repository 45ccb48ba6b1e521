-- What the kept changes stand for.
use Rattle.std.specs.Prelude.{◌≡◌, ℕ, List, [], ◌∷◌, map, length, slice_get, Option, Some, None}
use Rattle.cx_history.specs.Histories.{Recorded, Placed, changes_of}
use Rattle.cx_checker.specs.declared.by_object.Change.{Change}
use Rattle.cx_checker.specs.declared.by_object.Changes.{Changes}

abbrev pub placed_of : Change → Placed
placed_of c = record { position = c.position; thread = c.thread; item = c.item; entry = c.entry }

abbrev pub placed_in : Option Changes → List Placed
placed_in None = []
placed_in (Some cs) = map placed_of cs.changes.items

-- the changes that are kept of an object, none of one that isn't there
abbrev pub changes_at : List Changes → ℕ → List Placed
changes_at all o = placed_in (slice_get all o)

-- the changes of one object
abbrev pub kept_in : Changes → List Placed
kept_in cs = map placed_of cs.changes.items

-- these are the changes of so many objects, by their numbers
pub record AreHistories (r : Recorded) (count : ℕ) (histories : List (List Placed)) : Type 0 where
  pub count_is : length histories ≡ count
  pub each : (o : ℕ) (changes : List Placed) → slice_get histories o ≡ Some changes → changes ≡ changes_of r o
