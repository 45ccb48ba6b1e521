-- The `complete`s of a record as numbers, by object and position.
use Rattle.std.specs.Prelude.{◌≡◌, ℕ, ◌+◌, ◌*◌, ◌<◌, List, [], ◌∷◌, ◌++◌, Option, if◌then◌else◌}
use Rattle.cx_items.specs.declared.item.Item.{Item}
use Rattle.cx_items.specs.declared.item.Item.TheVariants as items
use Rattle.cx_history.specs.Histories.{Recorded, items_of}
use Rattle.cx_history.specs.Legal.{EachItem}
use Rattle.cx_graph.specs.declared.tally.Tally.{Tally}
use Rattle.cx_graph.specs.Tally.{count_below}
use Rattle.cx_order.specs.Edges.{completes}

abbrev pub complete_of : Item → List ℕ
complete_of (items.Change o p e) = if completes e.op then (o.0 * 4294967296 + p) ∷ [] else []
complete_of _ = []

abbrev pub completes_in : List Item → List ℕ
completes_in [] = []
completes_in (x ∷ xs) = complete_of x ++ completes_in xs

abbrev pub completes_from : List (Option (List Item)) → List ℕ
completes_from [] = []
completes_from (l ∷ ls) = completes_in (items_of l) ++ completes_from ls

-- it counts these
abbrev pub IsTallyOf : Recorded → Tally → Type 0
IsTallyOf r t = (bound : ℕ) → count_below bound t.sorted.items ≡ count_below bound (completes_from r.lists)

-- positions and stamps are numbers of 32 bits, and so are the next two
abbrev pub has_small_place : Item → Type 0
has_small_place (items.Change o p e) = p < 4294967294
has_small_place (items.Look o l) = l.at < 4294967294
has_small_place _ = Unit {0}

abbrev pub ArePlacesSmall : Recorded → Type 0
ArePlacesSmall r = EachItem r (λ t i x. has_small_place x)
