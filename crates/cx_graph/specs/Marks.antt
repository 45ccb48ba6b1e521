-- What a search has marked.
use Rattle.std.specs.Prelude.{◌≡◌, ◌⊎◌, ℕ, ◌+◌, ◌<◌, ◌≤◌, zero, suc, List, [], ◌∷◌, length, slice_index}
use Rattle.std.specs.List.{Contains}
use Rattle.cx_graph.specs.declared.graph.Node.{Node}
use Rattle.cx_graph.specs.declared.marks.Marks.{Marks}
use Rattle.cx_graph.specs.Graph.{Arc, Path}

-- the mark of a node; 0 where it has none
abbrev pub mark_of : Marks → ℕ → ℕ
mark_of m b = slice_index m.values.items b

abbrev pub IsWaiting : Marks → ℕ → Type 0
IsWaiting m a = Contains m.waiting.items a

abbrev pub unmarked : List ℕ → ℕ
unmarked [] = 0
unmarked (zero ∷ vs) = suc (unmarked vs)
unmarked (suc v ∷ vs) = unmarked vs

-- how many nodes have no mark, or are waiting
abbrev pub left : Marks → ℕ
left m = unmarked m.values.items + length m.waiting.items

-- those of these nodes that had no mark have this one now, and wait
pub record Spreads (old new : Marks) (among : ℕ → Type 0) (value : ℕ) : Type 0 where
  pub size : length new.values.items ≡ length old.values.items
  pub kept : (b : ℕ) → 0 < mark_of old b → mark_of new b ≡ mark_of old b
  pub marked : (b : ℕ) → among b → 0 < mark_of new b
  pub newly : (b : ℕ) → mark_of old b ≡ 0 → 0 < mark_of new b → among b × (mark_of new b ≡ value) × IsWaiting new b
  pub still : (b : ℕ) → IsWaiting old b → IsWaiting new b
  pub waits : (b : ℕ) → IsWaiting new b → IsWaiting old b ⊎ (mark_of new b ≡ value)
  pub as_many : left new ≡ left old

-- of a chain, the nodes from `low` on are searched, but for what is waiting
pub record Searching (g : List Node) (first count low : ℕ) (m : Marks) : Type 0 where
  pub size : length m.values.items ≡ length g
  pub closed : (a b : ℕ) → Arc g a b → (mark_of m a ≤ mark_of m b) ⊎ IsWaiting m a
  pub sound : (b i : ℕ) → mark_of m b ≡ i + 1 → Path g (first + i) b × (low ≤ i) × (i < count)
  pub waiting : (a : ℕ) → IsWaiting m a → mark_of m a ≡ low + 1
  pub sources : (i b : ℕ) → low ≤ i → i < count → Arc g (first + i) b → i < mark_of m b

-- and nothing is waiting
pub record Searched (g : List Node) (first count low : ℕ) (m : Marks) : Type 0 where
  pub searching : Searching g first count low m
  pub none_waits : m.waiting.items ≡ []
