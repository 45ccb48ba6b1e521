-- What the arcs of a record are made from.
use Rattle.std.specs.Prelude.{◌≡◌, ℕ, suc, ◌+◌, ◌<◌, ◌≤◌, ◌^◌, List, length, slice_get, Some}
use Rattle.cx_items.specs.declared.item.Control.{Control}
use Rattle.cx_items.specs.declared.item.Control.TheVariants as controls
use Rattle.cx_items.specs.declared.item.Item.{Item}
use Rattle.cx_items.specs.declared.item.Item.TheVariants as items
use Rattle.cx_history.specs.Histories.{Recorded}
use Rattle.cx_history.specs.Legal.{EachItem}
use Rattle.cx_history.specs.Views.{recorded_of}
use Rattle.cx_graph.specs.declared.graph.Node.{Node}
use Rattle.cx_order.specs.declared.parts.Parts.{Parts}
use Rattle.cx_order.specs.Arcs.{AreFirsts, first_of}
use Rattle.cx_order.specs.Counts.{IsTallyOf, ArePlacesSmall}

-- a control names a thread that has a place among the lists
abbrev pub names_list : Recorded → Control → Type 0
names_list r (controls.Start t ok) = t.0 < length r.lists
names_list r (controls.Launch t ok) = t.0 < length r.lists
names_list r (controls.Join t) = t.0 < length r.lists

abbrev pub is_apt : Recorded → Item → Type 0
is_apt r (items.Control c) = names_list r c
is_apt r _ = Unit {0}

pub record IsParts (p : Parts) : Type 0 where
  pub tally : IsTallyOf (recorded_of p.record.now) p.tally.now
  pub small : ArePlacesSmall (recorded_of p.record.now)
  pub controls_apt : EachItem (recorded_of p.record.now) (λ t i x. is_apt (recorded_of p.record.now) x)
  pub firsts : AreFirsts (recorded_of p.record.now) p.firsts.now
  pub base : p.base ≡ first_of (recorded_of p.record.now) (length (recorded_of p.record.now).lists)

-- a graph has the nodes of the points and of the hubs
pub record HasRoom (p : Parts) (g : List Node) : Type 0 where
  pub within : p.base + length p.hubs.now.gives.items ≤ length g
  pub small : length g < 2 ^ 32
