-- The graph of a record's edges, and the clocks that are read off it.
use Rattle.std.specs.Prelude.{◌≡◌, ◌⊎◌, ℕ, suc, ◌+◌, ◌<◌, List, [], length, slice_get, slice_index, Option, Some, None}
use Rattle.cx_history.specs.Histories.{Recorded, list_of}
use Rattle.cx_history.specs.Views.{recorded_of}
use Rattle.cx_graph.specs.declared.give.Give.{Give}
use Rattle.cx_graph.specs.declared.graph.Node.{Node}
use Rattle.cx_graph.specs.Graph.{Arc, IsClock}
use Rattle.cx_order.specs.declared.parts.Parts.{Parts}
use Rattle.cx_order.specs.declared.clocks.Clock.{Clock}
use Rattle.cx_order.specs.Arcs.{OwnArc, HandArc, first_of}
use Rattle.cx_order.specs.Parts.{HasRoom}

-- what is given is given at nodes of points
abbrev pub AreNodesLow : Parts → Type 0
AreNodesLow p = (k : ℕ) (g : Give) → slice_get p.hubs.now.gives.items k ≡ Some g → g.node < p.base

-- its arcs are those of the record
pub record IsGraphOf (p : Parts) (g : List Node) : Type 0 where
  pub room : HasRoom p g
  pub arcs : (a b : ℕ) → Arc g a b → OwnArc (recorded_of p.record.now) a b ⊎ HandArc (recorded_of p.record.now) p.hubs.now.gives.items p.base a b
  pub all : (a b : ℕ) → OwnArc (recorded_of p.record.now) a b ⊎ HandArc (recorded_of p.record.now) p.hubs.now.gives.items p.base a b → Arc g a b

-- there is a clock for each list, of the points of that list
abbrev pub values_in : Option Clock → List ℕ
values_in None = []
values_in (Some c) = c.values.items

pub record AreClocks (r : Recorded) (g : List Node) (clocks : List Clock) : Type 0 where
  pub count : length clocks ≡ length r.lists
  pub each : (t : ℕ) (c : Clock) → slice_get clocks t ≡ Some c → IsClock g (first_of r t) (suc (length (list_of r t))) c.values.items

-- the first of so many nodes of a chain whose value is above its place
abbrev pub PastIn : List ℕ → ℕ → ℕ → Type 0
PastIn values first i = i < slice_index values (first + i)

abbrev pub FirstIn : List ℕ → ℕ → ℕ → Option ℕ → Type 0
FirstIn values first count (Some i) = (i < count) × PastIn values first i × ((j : ℕ) → j < i → PastIn values first j → ⊥)
FirstIn values first count None = (j : ℕ) → j < count → PastIn values first j → ⊥

-- point i of thread t is before itself
abbrev pub IsPast : Recorded → List Clock → ℕ → ℕ → Type 0
IsPast r clocks t i = (i < suc (length (list_of r t))) × PastIn (values_in (slice_get clocks t)) (first_of r t) i

-- the first list among those of the first n with such a point, and its first
pub record IsFirstPast (r : Recorded) (clocks : List Clock) (t i : ℕ) : Type 0 where
  pub is_list : t < length r.lists
  pub is_past : IsPast r clocks t i
  pub before_it : (j : ℕ) → j < i → IsPast r clocks t j → ⊥
  pub lists_before : (u j : ℕ) → u < t → IsPast r clocks u j → ⊥

abbrev pub FirstPast : Recorded → List Clock → Option (ℕ × ℕ) → Type 0
FirstPast r clocks (Some p) = IsFirstPast r clocks p.0 p.1
FirstPast r clocks None = (u j : ℕ) → u < length r.lists → IsPast r clocks u j → ⊥
