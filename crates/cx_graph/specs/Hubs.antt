-- Nodes that lead to others over hubs: each give has one, and the hubs of a group lead from one to the next.
use Rattle.std.specs.Prelude.{◌≡◌, ◌⊎◌, ℕ, ◌+◌, ◌*◌, ◌<◌, ◌≤◌, List, slice_get, Option, Some, None}
use Rattle.cx_graph.specs.declared.give.Give.{Give}
use Rattle.cx_graph.specs.Graph.{OneArc}

-- the number of a class and a key, which is below 2 ^ 32
abbrev pub group_of : ℕ → ℕ → ℕ
group_of class key = class * 4294967296 + key

abbrev pub group_in : Give → ℕ
group_in g = group_of g.class g.key

-- it is of this class and key
abbrev pub IsOf : Give → ℕ → ℕ → Type 0
IsOf g class key = (g.class ≡ class) × (g.key ≡ key)

-- where it stands in order of class, key and place
abbrev pub rank_of : Give → ℕ
rank_of g = group_of g.class g.key * 4294967296 + g.place

-- the last hub of the group below a bound leads to the taker
pub record IsLast (gives : List Give) (class key bound x : ℕ) : Type 0 where
  pub give : Give
  pub there : slice_get gives x ≡ Some give
  pub in_group : IsOf give class key
  pub below : give.place < bound
  pub is_last : (y : ℕ) (h : Give) → slice_get gives y ≡ Some h → IsOf h class key → h.place < bound → y ≤ x

-- none of the group is below the bound
abbrev pub NoneBelow : List Give → ℕ → ℕ → ℕ → Type 0
NoneBelow gives class key bound = (y : ℕ) (h : Give) → slice_get gives y ≡ Some h → IsOf h class key → h.place < bound → ⊥

abbrev pub LastIs : List Give → ℕ → ℕ → ℕ → Option ℕ → Type 0
LastIs gives class key bound (Some x) = IsLast gives class key bound x
LastIs gives class key bound None = NoneBelow gives class key bound

-- from the last hub of a group below a bound to its taker
abbrev pub TakeArc : List Give → ℕ → ℕ → ℕ → ℕ → ℕ → ℕ → ℕ → Type 0
TakeArc gives base class key bound target a b = (x : ℕ) × IsLast gives class key bound x × (a ≡ base + x) × (b ≡ target)

-- from a hub to the next, where both are of one group
abbrev pub NextHub : List Give → ℕ → ℕ → Give → ℕ → ℕ → Type 0
NextHub gives base x g a b = (h : Give) × (slice_get gives (x + 1) ≡ Some h) × IsOf h g.class g.key × OneArc (base + x) (base + x + 1) a b

abbrev pub NextOf : List Give → ℕ → ℕ → ℕ → ℕ → Type 0
NextOf gives base x a b = (g : Give) × (slice_get gives x ≡ Some g) × NextHub gives base x g a b

-- the arcs of the give at place x: to its hub, and from there to the next of its group
abbrev pub HubArcs : List Give → ℕ → ℕ → ℕ → ℕ → Type 0
HubArcs gives base x a b = ((g : Give) × (slice_get gives x ≡ Some g) × OneArc g.node (base + x) a b) ⊎ NextOf gives base x a b
