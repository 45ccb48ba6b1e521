-- A record: the history of each object, and how far each thread has seen it.
use Rattle.std.specs.Prelude.{ℕ, ◌+◌, ◌==◌, Bool, true, false, List, [], ◌∷◌, ◌++◌, map, length, take, filter, slice_get, Option, Some, None, nat_le, max, if◌then◌else◌, option_and_then}
use Rattle.cx_names.specs.declared.ThreadNo.{ThreadNo}
use Rattle.cx_items.specs.declared.item.Control.{Control}
use Rattle.cx_items.specs.declared.item.Control.TheVariants as controls
use Rattle.cx_items.specs.declared.item.Item.{Item}
use Rattle.cx_items.specs.declared.item.Item.TheVariants as items
use Rattle.cx_machine.specs.declared.kind.Entry.{Entry}

-- for each thread its list, or none where it wasn't started
pub record Recorded : Type 0 where
  pub version : ℕ
  pub lists : List (Option (List Item))

abbrev pub items_of : Option (List Item) → List Item
items_of None = []
items_of (Some xs) = xs

abbrev pub list_of : Recorded → ℕ → List Item
list_of r t = items_of (option_and_then (λ l. l) (slice_get r.lists t))

abbrev pub item_at : Recorded → ℕ → ℕ → Option Item
item_at r t i = slice_get (list_of r t) i

-- ---- histories

-- a change, its position, and where it stands in the record
pub record Placed : Type 0 where
  pub position : ℕ
  pub thread : ℕ
  pub item : ℕ
  pub entry : Entry

abbrev pub change_on : ℕ → ℕ → ℕ → Item → List Placed
change_on o t i (items.Change q p e) = if q.0 == o then record { position = p; thread = t; item = i; entry = e } ∷ [] else []
change_on o t i _ = []

abbrev pub changes_in : ℕ → ℕ → ℕ → List Item → List Placed
changes_in o t i [] = []
changes_in o t i (x ∷ xs) = change_on o t i x ++ changes_in o t (i + 1) xs

abbrev pub changes_from : ℕ → ℕ → List (Option (List Item)) → List Placed
changes_from o t [] = []
changes_from o t (l ∷ ls) = changes_in o t 0 (items_of l) ++ changes_from o (t + 1) ls

-- the changes on an object, in order of thread and item
abbrev pub changes_of : Recorded → ℕ → List Placed
changes_of r o = changes_from o 0 r.lists

-- a change put in before those of greater positions
abbrev pub put_in : Placed → List Placed → List Placed
put_in c [] = c ∷ []
put_in c (d ∷ ds) = if nat_le c.position d.position then c ∷ d ∷ ds else d ∷ put_in c ds

abbrev pub in_order : List Placed → List Placed
in_order [] = []
in_order (c ∷ cs) = put_in c (in_order cs)

abbrev pub sequence : Recorded → ℕ → List Placed
sequence r o = in_order (changes_of r o)

abbrev pub entries : List Placed → List Entry
entries cs = map (λ c. c.entry) cs

-- H(o): the changes on an object in order of position
abbrev pub history : Recorded → ℕ → List Entry
history r o = entries (sequence r o)

abbrev pub is_at : ℕ → Placed → Bool
is_at k c = c.position == k

-- how many changes on an object hold a position
abbrev pub holders : Recorded → ℕ → ℕ → ℕ
holders r o k = length (filter (is_at k) (changes_of r o))

-- ---- places

-- what a thread has seen of an object after an item: the changes below its own last one and that one, or those below its look's stamp
abbrev pub place_after : ℕ → ℕ → Item → ℕ
place_after o place (items.Change q p e) = if q.0 == o then p + 1 else place
place_after o place (items.Look q l) = if q.0 == o then l.at else place
place_after o place _ = place

abbrev pub place_from : ℕ → ℕ → List Item → ℕ
place_from o place [] = place
place_from o place (x ∷ xs) = place_from o (place_after o place x) xs

abbrev pub place : Recorded → ℕ → ℕ → ℕ → ℕ
place r t i o = place_from o 0 (take i (list_of r t))

abbrev pub place_at_end : Recorded → ℕ → ℕ → ℕ
place_at_end r t o = place_from o 0 (list_of r t)

-- ---- what a thread owes to starts and joins

-- a thread, and what main knew when it started it
pub record Begun : Type 0 where
  pub thread : ℕ
  pub known : ℕ

-- what main has seen of an object, what it owes to those it joined, and what it knew at each start
pub record Knowing : Type 0 where
  pub place : ℕ
  pub owed : ℕ
  pub begun : List Begun

abbrev pub known_at_start : List Begun → ℕ → ℕ
known_at_start [] t = 0
known_at_start (b ∷ bs) t = if b.thread == t then b.known else known_at_start bs t

abbrev pub begins : Knowing → ThreadNo → Bool → Knowing
begins k t true = record k { begun = k.begun ++ record { thread = t.0; known = max k.place k.owed } ∷ [] }
begins k t false = k

abbrev pub controls_known : Recorded → ℕ → Knowing → Control → Knowing
controls_known r o k (controls.Start t ok) = begins k t ok
controls_known r o k (controls.Launch t ok) = begins k t ok
controls_known r o k (controls.Join t) = record k { owed = max k.owed (max (place_at_end r t.0 o) (known_at_start k.begun t.0)) }

abbrev pub knows_after : Recorded → ℕ → Knowing → Item → Knowing
knows_after r o k (items.Control c) = controls_known r o k c
knows_after r o k x = record k { place = place_after o k.place x }

abbrev pub knows_from : Recorded → ℕ → Knowing → List Item → Knowing
knows_from r o k [] = k
knows_from r o k (x ∷ xs) = knows_from r o (knows_after r o k x) xs

-- what main knows before its item i
abbrev pub knowing : Recorded → ℕ → ℕ → Knowing
knowing r i o = knows_from r o (record { place = 0; owed = 0; begun = [] }) (take i (list_of r 0))

abbrev pub owed : Recorded → ℕ → ℕ → ℕ → ℕ
owed r t i o = if t == 0 then (knowing r i o).owed else known_at_start (knowing r (length (list_of r 0)) o).begun t
