-- Graphs: nodes by their numbers, arcs and paths.
use Rattle.std.specs.Prelude.{◌≡◌, ◌⊎◌, ℕ, ◌+◌, ◌<◌, ◌≤◌, List, [], length, slice_get, slice_index, Option, Some, None}
use Rattle.std.specs.List.{Contains}
use Rattle.cx_graph.specs.declared.graph.Node.{Node}

abbrev pub nodes_in : Option Node → List ℕ
nodes_in None = []
nodes_in (Some n) = n.next.items

-- the nodes to which arcs lead from node a
abbrev pub next_of : List Node → ℕ → List ℕ
next_of g a = nodes_in (slice_get g a)

-- an arc leads from a to b
abbrev pub Arc : List Node → ℕ → ℕ → Type 0
Arc g a b = Contains (next_of g a) b

-- each arc leads to a node
abbrev pub IsGraph : List Node → Type 0
IsGraph g = (a b : ℕ) → Arc g a b → b < length g

-- at least one arc, each from where the one before leads
pub data Path (g : List Node) : ℕ → ℕ → Type 0 where
  one : (a b : ℕ) → Arc g a b → Path g a b
  more : (a b c : ℕ) → Path g a b → Arc g b c → Path g a c

-- these are so many nodes from `first` on, each with an arc to the next
pub record IsChain (g : List Node) (first count : ℕ) : Type 0 where
  pub within : first + count ≤ length g
  pub arcs : (i : ℕ) → i + 1 < count → Arc g (first + i) (first + i + 1)

-- HOW FAR ALONG A CHAIN THE NODES GO THAT REACH A NODE
pub record IsClock (g : List Node) (first count : ℕ) (values : List ℕ) : Type 0 where
  pub size : length values ≡ length g
  pub reached : (i b : ℕ) → i < count → i < slice_index values b → Path g (first + i) b
  pub reaches : (i b : ℕ) → i < count → Path g (first + i) b → i < slice_index values b

-- the same nodes, with these arcs more
pub record Adds (old new : List Node) (arcs : ℕ → ℕ → Type 0) : Type 0 where
  pub count : length new ≡ length old
  pub kept : (a b : ℕ) → Arc old a b → Arc new a b
  pub added : (a b : ℕ) → arcs a b → Arc new a b
  pub only : (a b : ℕ) → Arc new a b → Arc old a b ⊎ arcs a b

-- one arc
abbrev pub OneArc : ℕ → ℕ → ℕ → ℕ → Type 0
OneArc a b x y = (x ≡ a) × (y ≡ b)

-- no arc
abbrev pub NoArc : ℕ → ℕ → Type 0
NoArc a b = ⊥

-- the arcs of one of the first so many
abbrev pub ArcOf : (ℕ → ℕ → ℕ → Type 0) → ℕ → ℕ → ℕ → Type 0
ArcOf each count a b = (k : ℕ) × (k < count) × each k a b

-- from each of so many nodes to the one after it
abbrev pub ChainArc : ℕ → ℕ → ℕ → ℕ → Type 0
ChainArc first count = ArcOf (λ i. OneArc (first + i) (first + i + 1)) count
