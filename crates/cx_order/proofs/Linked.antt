-- Arcs that are added element by element.
use Rattle.std.proofs.Common.{◌≡◌, ◌∙◌, ◌+◌, ◌<◌, ◌≤◌, ℕ, List, [], ◌∷◌, length, get_or, slice_get, Option, Some, None, refl, sym, ap, subst, arith}
use Rattle.std.specs.Prelude.{option_and_then}
use Rattle.std.proofs.lemmas.Option.{slice_get_read}
use Rattle.cx_items.specs.declared.item.Item.{Item}
use Rattle.cx_history.specs.Histories.{Recorded, items_of, list_of}
use Rattle.cx_graph.specs.declared.graph.Node.{Node}
use Rattle.cx_graph.specs.Graph.{Adds, ArcOf}
use Rattle.cx_graph.proofs.Adding.{adds_as, adds_of_more}
use Rattle.cx_order.proofs.Walks.{some_is}

-- the arcs of the element at a place
abbrev pub ArcAt : {X : Type 0} → (X → ℕ → ℕ → Type 0) → List X → ℕ → ℕ → ℕ → Type 0
ArcAt {X} each xs i a b = (x : X) × (slice_get xs i ≡ Some x) × each x a b

pub adds_at : {X : Type 0} (each : X → ℕ → ℕ → Type 0) (xs : List X) (i : ℕ) (x : X) (old new : List Node) → slice_get xs i ≡ Some x → Adds old new (each x) → Adds old new (ArcAt each xs i)
adds_at {X} each xs i x old new there adds = adds_as old new (each x) (ArcAt each xs i) adds (λ a b in_. subst (λ (y : X). each y a b) (some_is in_.0 x (sym in_.1 ∙ there)) in_.2) (λ a b is. (x, there, is))

-- the arcs of so many are those of all, once there are no more
pub adds_all : (each : ℕ → ℕ → ℕ → Type 0) (n m : ℕ) (old new : List Node) → n ≡ m → Adds old new (ArcOf each n) → Adds old new (ArcOf each m)
adds_all each n m old new same adds = subst (λ (k : ℕ). Adds old new (ArcOf each k)) same adds

-- main has no list where there is none
pub no_list : (r : Recorded) → length r.lists ≡ 0 → length (list_of r 0) ≡ 0
no_list r none = by r.lists none
  where
    by : (ls : List (Option (List Item))) → length ls ≡ 0 → length (items_of (option_and_then (λ y. y) (slice_get ls 0))) ≡ 0
    by [] h = refl
    by (l ∷ ls) h = absurd (omega arith)
