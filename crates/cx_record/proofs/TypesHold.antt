-- The numbers of a record are those of their types where those of each list are.
use Rattle.std.proofs.Common.{◌≡◌, ℕ, zero, suc, Bool, true, false, cond, List, [], ◌∷◌, map, Option, Some, None, All, subst}
use Rattle.std.specs.Prelude.{slice_get}
use Rattle.std.specs.Option.{option_and_then}
use Rattle.std.specs.List.{AllByRecursion}
use Rattle.std.proofs.lemmas.List.Elements.{recursion_from_All}
use Rattle.cx_items.specs.declared.item.Item.{Item}
use Rattle.cx_history.specs.declared.record.List.{List as ThreadList}
use Rattle.cx_history.specs.declared.record.Record.{Record}
use Rattle.cx_history.specs.Histories.{items_of}
use Rattle.cx_history.specs.Views.{listed, recorded_of}
use Rattle.cx_record.specs.Laws.{HasTypes, item_fits}

-- the numbers of a list's items are those of their types
abbrev pub ListHasTypes : ThreadList → Type 0
ListHasTypes l = All (λ x. item_fits x ≡ true) l.items.items.items

item_at : (xs : List Item) → AllByRecursion (λ x. item_fits x ≡ true) xs → (i : ℕ) (x : Item) → slice_get xs i ≡ Some x → item_fits x ≡ true
item_at [] h i x e = absurd cc
item_at (y ∷ xs) h zero x e = let same : y ≡ x = cc in subst (λ (z : Item). item_fits z ≡ true) same h.0
item_at (y ∷ xs) h (suc i) x e = item_at xs h.1 i x e

in_list : (b : Bool) (xs : List Item) → AllByRecursion (λ x. item_fits x ≡ true) xs → (i : ℕ) (x : Item) → slice_get (items_of (cond b (Some xs) None)) i ≡ Some x → item_fits x ≡ true
in_list true xs h i x e = item_at xs h i x e
in_list false xs h i x e = absurd cc

lists_at : (ls : List ThreadList) → AllByRecursion ListHasTypes ls → (t i : ℕ) (x : Item) → slice_get (items_of (option_and_then (λ l. l) (slice_get (map listed ls) t))) i ≡ Some x → item_fits x ≡ true
lists_at [] h t i x e = absurd cc
lists_at (l ∷ ls) h zero i x e = in_list l.started l.items.items.items (recursion_from_All (λ x. item_fits x ≡ true) l.items.items.items h.0) i x e
lists_at (l ∷ ls) h (suc t) i x e = lists_at ls h.1 t i x e

pub all_types : (r : Record) → All ListHasTypes r.lists.items → HasTypes (recorded_of r)
all_types r h t i x e = lists_at r.lists.items (recursion_from_All ListHasTypes r.lists.items h) t i x e
