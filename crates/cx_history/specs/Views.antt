-- What a record and a list of threads stand for.
use Rattle.std.specs.Prelude.{ℕ, List, map, Option, Some, None, if◌then◌else◌}
use Rattle.cx_names.specs.declared.ThreadNo.{ThreadNo}
use Rattle.cx_items.specs.declared.item.Item.{Item}
use Rattle.cx_history.specs.declared.record.Record.{Record}
use Rattle.cx_history.specs.declared.record.List.{List as ThreadList}
use Rattle.cx_history.specs.declared.record.Threads.{Threads}
use Rattle.cx_history.specs.Histories.{Recorded}

-- the items of a thread that was started
abbrev pub listed : ThreadList → Option (List Item)
listed l = if l.started then Some l.items.items.items else None

abbrev pub recorded_of : Record → Recorded
recorded_of r = record { version = r.version; lists = map listed r.lists.items }

abbrev pub number_of : ThreadNo → ℕ
number_of t = t.0

abbrev pub numbers_of : Threads → List ℕ
numbers_of ts = map number_of ts.threads.items
