-- The arcs of a graph that grows.
use Rattle.std.proofs.Common.{◌≡◌, ℕ, zero, suc, ◌<◌, ◌==◌, List, [], ◌∷◌, ◌++◌, length, slice_get, slice_set, get_or, Some, if◌then◌else◌, refl, sym, ap, ◌∙◌, subst, arith, append-nil, eqb-true, eq-eqb, false, true, Bool}
use Rattle.std.proofs.lemmas.Option.{slice_get_read}
use Rattle.cx_graph.specs.declared.graph.Node.{Node}
use Rattle.cx_graph.specs.Graph.{nodes_in, next_of}

get_set_same : {X : Type 0} (xs : List X) (i : ℕ) (x : X) → i < length xs → slice_get (slice_set xs i x) i ≡ Some x
get_set_same [] i x h = absurd (omega arith)
get_set_same (y ∷ ys) zero x h = refl
get_set_same (y ∷ ys) (suc i) x h = get_set_same ys i x (omega arith)

get_set_other : {X : Type 0} (xs : List X) (i k : ℕ) (x : X) → (i ≡ k → ⊥) → slice_get (slice_set xs i x) k ≡ slice_get xs k
get_set_other [] i k x h = refl
get_set_other (y ∷ ys) zero zero x h = absurd (h refl)
get_set_other (y ∷ ys) zero (suc k) x h = refl
get_set_other (y ∷ ys) (suc i) zero x h = refl
get_set_other (y ∷ ys) (suc i) (suc k) x h = get_set_other ys i k x (λ e. h (ap suc e))

-- an arc is put behind the others of its node
pub one_more_arc : (g : List Node) (a x b : ℕ) (old new : Node) → a < length g → old ≡ get_or g a old → new.next.items ≡ old.next.items ++ b ∷ [] → next_of (slice_set g a new) x ≡ next_of g x ++ (if a == x then b ∷ [] else [])
one_more_arc g a x b old new low at_ put = go (a == x) refl
  where
    go : (e : Bool) → (a == x) ≡ e → next_of (slice_set g a new) x ≡ next_of g x ++ (if e then b ∷ [] else [])
    go true e =
        let same : a ≡ x = eqb-true a x e in
        let now_ : slice_get (slice_set g a new) x ≡ Some new = subst (λ (n : ℕ). slice_get (slice_set g a new) n ≡ Some new) same (get_set_same g a new low) in
        let was : slice_get g x ≡ Some old = subst (λ (n : ℕ). slice_get g n ≡ Some old) same (slice_get_read g (length g) a old refl low at_) in
        ap nodes_in now_ ∙ (put ∙ ap (λ ns. ns ++ b ∷ []) (sym (ap nodes_in was)))
    go false e =
        let other : a ≡ x → ⊥ = λ same. not_eq a x same e in
        ap nodes_in (get_set_other g a x new other) ∙ sym (append-nil (next_of g x))
      where
        not_eq : (m n : ℕ) → m ≡ n → (m == n) ≡ false → ⊥
        not_eq m n same h = let yes_ : (m == n) ≡ true = eq-eqb m n same in cc

-- one more node without an arc
pub no_arcs_more : (g : List Node) (new : Node) (x : ℕ) → new.next.items ≡ [] → ((a : ℕ) → next_of g a ≡ []) → next_of (g ++ new ∷ []) x ≡ []
no_arcs_more [] new zero h none = h
no_arcs_more [] new (suc x) h none = refl
no_arcs_more (n ∷ ns) new zero h none = none zero
no_arcs_more (n ∷ ns) new (suc x) h none = no_arcs_more ns new x h (λ a. none (suc a))

-- the nodes to which arcs lead from the node that is read
pub next_is : (g : List Node) (a : ℕ) (n : Node) → a < length g → n ≡ get_or g a n → next_of g a ≡ n.next.items
next_is g a n low at_ = ap nodes_in (slice_get_read g (length g) a n refl low at_)
