-- What all items give, in one list, and in order.
use Rattle.std.proofs.Common.{◌≡◌, ◌⊎◌, inl, inr, ℕ, zero, suc, ◌+◌, ◌<◌, ◌≤◌, List, [], ◌∷◌, ◌++◌, length, take, slice_get, get_or, Option, Some, None, refl, sym, ap, ◌∙◌, subst, arith}
use Rattle.std.specs.Prelude.{option_and_then}
use Rattle.std.specs.Option.{option_to_list}
use Rattle.std.specs.List.{Contains}
use Rattle.std.specs.List.Sorted.{IsPermutation}
use Rattle.std.proofs.lemmas.Option.{slice_get_read}
use Rattle.std.proofs.lemmas.List.Sorted.{Contains-permutation, IsPermutation-sym}
use Rattle.cx_scene.specs.Scene.{Scene}
use Rattle.cx_items.specs.declared.item.Item.{Item}
use Rattle.cx_history.specs.Histories.{Recorded, items_of, list_of, item_at}
use Rattle.cx_graph.specs.declared.give.Give.{Give}
use Rattle.cx_graph.proofs.Hubbing.{reads}
use Rattle.cx_order.specs.Arcs.{points_in, first_of, node_of, give_of, gives_in, gives_from}
use Rattle.cx_order.specs.Gives.{IsOrigin, AreGives, IsSmall, AreSmall}
use Rattle.cx_order.proofs.Walks.{some_is, is_within}
use Rattle.cx_order.proofs.Positions.{In, in_head, in_tail, in_cases, in_nothing, in_left, in_right, in_parts}

-- ---- numbers of 32 bits

pub small_none : AreSmall []
small_none k g at_ = cc

pub small_push : (gs new : List Give) (g : Give) → AreSmall gs → IsSmall g → new ≡ gs ++ g ∷ [] → AreSmall new
small_push gs new g before small put k h at_ = by (in_parts gs (g ∷ []) h (k, subst (λ (hs : List Give). slice_get hs k ≡ Some h) put at_))
  where
    last : (g ≡ h) ⊎ In [] h → IsSmall h
    last (inl same) = subst (λ (j : Give). IsSmall j) same small
    last (inr in_) = absurd (in_nothing h in_)

    by : In gs h ⊎ In (g ∷ []) h → IsSmall h
    by (inl (j, there)) = before j h there
    by (inr in_) = last (in_cases g h [] in_)

-- ---- in another order

in_permuted : (xs ys : List Give) (g : Give) → IsPermutation xs ys → In xs g → In ys g
in_permuted xs ys g same (k, at_) =
    let r = reads xs k g g at_ in
    let c = Contains-permutation xs ys g same (k, r.0, r.1) in
    (c.0, slice_get_read ys (length ys) c.0 g refl c.1 (sym c.2))

-- ---- where each comes from

one_given : (o : Option Give) (g : Give) → In (option_to_list o) g → o ≡ Some g
one_given None g in_ = absurd (in_nothing g in_)
one_given (Some h) g in_ = by (in_cases h g [] in_)
  where
    by : (h ≡ g) ⊎ In [] g → Some h ≡ Some g
    by (inl same) = ap (λ (x : Give). Some x) same
    by (inr none) = absurd (in_nothing g none)

list_origin : (s : Scene) (r : Recorded) (n : ℕ) (xs : List Item) (g : Give) → In (gives_in s r n xs) g → (i : ℕ) × (x : Item) × (slice_get xs i ≡ Some x) × (give_of s r (n + i) x ≡ Some g)
list_origin s r n [] g in_ = absurd (in_nothing g in_)
list_origin s r n (x ∷ xs) g in_ = by (in_parts (option_to_list (give_of s r n x)) (gives_in s r (n + 1) xs) g in_) (λ h. list_origin s r (n + 1) xs g h)
  where
    by : In (option_to_list (give_of s r n x)) g ⊎ In (gives_in s r (n + 1) xs) g → (In (gives_in s r (n + 1) xs) g → (i : ℕ) × (y : Item) × (slice_get xs i ≡ Some y) × (give_of s r (n + 1 + i) y ≡ Some g)) → (i : ℕ) × (y : Item) × (slice_get (x ∷ xs) i ≡ Some y) × (give_of s r (n + i) y ≡ Some g)
    by (inl here) ih = (zero, x, refl, ap (λ (m : ℕ). give_of s r m x) (omega arith) ∙ one_given (give_of s r n x) g here)
    by (inr later) ih = let w = ih later in (suc w.0, w.1, w.2, ap (λ (m : ℕ). give_of s r m w.1) (omega arith) ∙ w.3)

lists_origin : (s : Scene) (r : Recorded) (n : ℕ) (ls : List (Option (List Item))) (g : Give) → In (gives_from s r n ls) g → (u i : ℕ) × (l : Option (List Item)) × (x : Item) × (slice_get ls u ≡ Some l) × (slice_get (items_of l) i ≡ Some x) × (give_of s r (n + points_in (take u ls) + i) x ≡ Some g)
lists_origin s r n [] g in_ = absurd (in_nothing g in_)
lists_origin s r n (l ∷ ls) g in_ = by (in_parts (gives_in s r n (items_of l)) (gives_from s r (n + suc (length (items_of l))) ls) g in_) (λ h. lists_origin s r (n + suc (length (items_of l))) ls g h)
  where
    by : In (gives_in s r n (items_of l)) g ⊎ In (gives_from s r (n + suc (length (items_of l))) ls) g
        → (In (gives_from s r (n + suc (length (items_of l))) ls) g → (u i : ℕ) × (m : Option (List Item)) × (x : Item) × (slice_get ls u ≡ Some m) × (slice_get (items_of m) i ≡ Some x) × (give_of s r (n + suc (length (items_of l)) + points_in (take u ls) + i) x ≡ Some g))
        → (u i : ℕ) × (m : Option (List Item)) × (x : Item) × (slice_get (l ∷ ls) u ≡ Some m) × (slice_get (items_of m) i ≡ Some x) × (give_of s r (n + points_in (take u (l ∷ ls)) + i) x ≡ Some g)
    by (inl here) ih = let w = list_origin s r n (items_of l) g here in (zero, w.0, l, w.1, refl, w.2, ap (λ (m : ℕ). give_of s r m w.1) (omega arith) ∙ w.3)
    by (inr later) ih = let w = ih later in (suc w.0, w.1, w.2, w.3, w.4, w.5, ap (λ (m : ℕ). give_of s r m w.3) (omega arith) ∙ w.6)

origin : (s : Scene) (r : Recorded) (g : Give) → In (gives_from s r 0 r.lists) g → IsOrigin s r g
origin s r g in_ =
    let w = lists_origin s r 0 r.lists g in_ in
    record {
      thread = w.0;
      place = w.1;
      item = w.3;
      there = ap (λ (m : Option (Option (List Item))). slice_get (items_of (option_and_then (λ y. y) m)) w.1) w.4 ∙ w.5;
      gives = ap (λ (m : ℕ). give_of s r m w.3) (omega arith) ∙ w.6;
    }

-- ---- and that none is missing

given_in : (s : Scene) (r : Recorded) (n i : ℕ) (xs : List Item) (x : Item) (g : Give) → slice_get xs i ≡ Some x → give_of s r (n + i) x ≡ Some g → In (gives_in s r n xs) g
given_in s r n i [] x g at_ gives = cc
given_in s r n zero (y ∷ xs) x g at_ gives =
    let same : y ≡ x = some_is y x at_ in
    let here : give_of s r n y ≡ Some g = ap (give_of s r n) same ∙ (ap (λ (m : ℕ). give_of s r m x) (omega arith) ∙ gives) in
    in_left (option_to_list (give_of s r n y)) (gives_in s r (n + 1) xs) g (subst (λ (o : Option Give). In (option_to_list o) g) (sym here) (in_head g []))
given_in s r n (suc i) (y ∷ xs) x g at_ gives = in_right (option_to_list (give_of s r n y)) (gives_in s r (n + 1) xs) g (given_in s r (n + 1) i xs x g at_ (ap (λ (m : ℕ). give_of s r m x) (omega arith) ∙ gives))

given_from : (s : Scene) (r : Recorded) (n u i : ℕ) (ls : List (Option (List Item))) (l : Option (List Item)) (x : Item) (g : Give) → slice_get ls u ≡ Some l → slice_get (items_of l) i ≡ Some x → give_of s r (n + points_in (take u ls) + i) x ≡ Some g → In (gives_from s r n ls) g
given_from s r n u i [] l x g at_l at_ gives = cc
given_from s r n zero i (m ∷ ls) l x g at_l at_ gives =
    let same : m ≡ l = some_is m l at_l in
    in_left (gives_in s r n (items_of m)) (gives_from s r (n + suc (length (items_of m))) ls) g (given_in s r n i (items_of m) x g (subst (λ (k : Option (List Item)). slice_get (items_of k) i ≡ Some x) (sym same) at_) (ap (λ (k : ℕ). give_of s r k x) (omega arith) ∙ gives))
given_from s r n (suc u) i (m ∷ ls) l x g at_l at_ gives = in_right (gives_in s r n (items_of m)) (gives_from s r (n + suc (length (items_of m))) ls) g (given_from s r (n + suc (length (items_of m))) u i ls l x g at_l at_ (ap (λ (k : ℕ). give_of s r k x) (omega arith) ∙ gives))

all_given : (s : Scene) (r : Recorded) (t i : ℕ) (x : Item) (g : Give) → item_at r t i ≡ Some x → give_of s r (node_of r t i) x ≡ Some g → In (gives_from s r 0 r.lists) g
all_given s r t i x g there gives = by (slice_get r.lists t) refl there
  where
    by : (m : Option (Option (List Item))) → slice_get r.lists t ≡ m → slice_get (items_of (option_and_then (λ y. y) m)) i ≡ Some x → In (gives_from s r 0 r.lists) g
    by None none here = cc
    by (Some l) at_l here = given_from s r 0 t i r.lists l x g at_l here (ap (λ (k : ℕ). give_of s r k x) (omega arith) ∙ gives)

-- sorted, they are what all items give
pub are_gives : (s : Scene) (r : Recorded) (gs hs : List Give) → gs ≡ gives_from s r 0 r.lists → IsPermutation gs hs → AreGives s r hs
are_gives s r gs hs is same = record {
  from_items = λ k g at_. origin s r g (subst (λ (xs : List Give). In xs g) is (in_permuted hs gs g (IsPermutation-sym gs hs same) (k, at_)));
  of_all = λ t i x g there gives. in_permuted gs hs g same (subst (λ (xs : List Give). In xs g) (sym is) (all_given s r t i x g there gives));
}

pub are_small : (gs hs : List Give) → AreSmall gs → IsPermutation gs hs → AreSmall hs
are_small gs hs small same k g at_ = let w = in_permuted hs gs g (IsPermutation-sym gs hs same) (k, at_) in small w.0 g w.1
