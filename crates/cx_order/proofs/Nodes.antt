-- The nodes of points.
use Rattle.std.proofs.Common.{◌≡◌, ◌⊎◌, inl, inr, ℕ, zero, suc, ◌+◌, ◌-◌, ◌<◌, ◌≤◌, List, [], ◌∷◌, ◌++◌, length, take, drop, slice_get, get_or, Option, Some, None, refl, sym, ap, ◌∙◌, subst, arith, add-one, append_assoc, append-nil}
use Rattle.cx_items.specs.declared.item.Item.{Item}
use Rattle.cx_scene.specs.Scene.{Scene}
use Rattle.std.specs.Option.{option_to_list}
use Rattle.std.proofs.lemmas.Bool.{cases_eq}
use Rattle.cx_history.specs.Histories.{Recorded, items_of, list_of}
use Rattle.cx_graph.specs.declared.give.Give.{Give}
use Rattle.cx_order.specs.Arcs.{points_in, first_of, node_of, AreFirsts, give_of, gives_in, gives_from}
use Rattle.cx_order.proofs.Walks.{list_there, drop_at, drop_past, some_is}

points_suc : (ls : List (Option (List Item))) (t : ℕ) (l : Option (List Item)) → slice_get ls t ≡ Some l → points_in (take (suc t) ls) ≡ points_in (take t ls) + suc (length (items_of l))
points_suc [] t l h = cc
points_suc (m ∷ ls) zero l h = let same : m ≡ l = some_is m l h in let e : length (items_of m) ≡ length (items_of l) = ap (λ k. length (items_of k)) same in omega (arith, e)
points_suc (m ∷ ls) (suc t) l h = let rest = points_suc ls t l h in omega (arith, rest)

pub first_more : (r : Recorded) (t : ℕ) → t < length r.lists → first_of r (t + 1) ≡ first_of r t + suc (length (list_of r t))
first_more r t low =
    let w = list_there r t low in
    let e = points_suc r.lists t w.0 w.1 in
    let l : length (list_of r t) ≡ length (items_of w.0) = ap length w.2 in
    rw add-one (omega (arith, e, l))

-- they rise
first_rises : (r : Recorded) (t k : ℕ) → t + k ≤ length r.lists → first_of r t ≤ first_of r (t + k)
first_rises r t zero within = let e : first_of r (t + 0) ≡ first_of r t = ap (first_of r) (omega arith) in omega (arith, e)
first_rises r t (suc k) within =
    let rest = first_rises r t k (omega arith) in
    let e = first_more r (t + k) (omega arith) in
    let s : first_of r (t + suc k) ≡ first_of r (t + k + 1) = ap (first_of r) (omega arith) in
    omega (arith, rest, e, s)

pub first_up : (r : Recorded) (t u : ℕ) → t ≤ u → u ≤ length r.lists → first_of r t ≤ first_of r u
first_up r t u le within =
    let gap : t + (u - t) ≡ u = omega arith in
    subst (λ (n : ℕ). first_of r t ≤ first_of r n) gap (first_rises r t (u - t) (omega arith))

-- a point's node is below that of the next list's first point
pub node_below : (r : Recorded) (t i : ℕ) → t < length r.lists → i ≤ length (list_of r t) → node_of r t i < first_of r (t + 1)
node_below r t i low within = let e = first_more r t low in omega (arith, e)

pub node_within : (r : Recorded) (t i : ℕ) → t < length r.lists → i ≤ length (list_of r t) → node_of r t i < first_of r (length r.lists)
node_within r t i low within = let b = node_below r t i low within in let u = first_up r (t + 1) (length r.lists) (omega arith) (omega arith) in omega (arith, b, u)

-- and two points have two nodes
pub nodes_apart : (r : Recorded) (t i u j : ℕ) → t < length r.lists → i ≤ length (list_of r t) → u < length r.lists → j ≤ length (list_of r u) → node_of r t i ≡ node_of r u j → (t ≡ u) × (i ≡ j)
nodes_apart r t i u j low_t within_i low_u within_j same = by (tri t u)
  where
    tri : (m n : ℕ) → (m ≡ n) ⊎ ((m < n) ⊎ (n < m))
    tri zero zero = inl refl
    tri zero (suc n) = inr (inl (omega arith))
    tri (suc m) zero = inr (inr (omega arith))
    tri (suc m) (suc n) = up (tri m n)
      where
        up : (m ≡ n) ⊎ ((m < n) ⊎ (n < m)) → (suc m ≡ suc n) ⊎ ((suc m < suc n) ⊎ (suc n < suc m))
        up (inl e) = inl (ap suc e)
        up (inr (inl lt)) = inr (inl (omega arith))
        up (inr (inr lt)) = inr (inr (omega arith))

    by : (t ≡ u) ⊎ ((t < u) ⊎ (u < t)) → (t ≡ u) × (i ≡ j)
    by (inl e) = let f : first_of r t ≡ first_of r u = ap (first_of r) e in (e, omega (arith, f, same))
    by (inr (inl lt)) = let b = node_below r t i low_t within_i in let f = first_up r (t + 1) u (omega arith) (omega arith) in absurd (omega (arith, b, f, same))
    by (inr (inr lt)) = let b = node_below r u j low_u within_j in let f = first_up r (u + 1) t (omega arith) (omega arith) in absurd (omega (arith, b, f, same))

-- ---- the list of first nodes

push_at : {A : Type 0} (xs : List A) (x : A) (u : ℕ) → u ≡ length xs → slice_get (xs ++ x ∷ []) u ≡ Some x
push_at [] x zero e = refl
push_at [] x (suc u) e = absurd (omega arith)
push_at (y ∷ ys) x zero e = absurd (omega arith)
push_at (y ∷ ys) x (suc u) e = push_at ys x u (omega arith)

push_before : {A : Type 0} (xs : List A) (x : A) (u : ℕ) → u < length xs → slice_get (xs ++ x ∷ []) u ≡ slice_get xs u
push_before [] x u low = absurd (omega arith)
push_before (y ∷ ys) x zero low = refl
push_before (y ∷ ys) x (suc u) low = push_before ys x u (omega arith)

pub one_first_more : (r : Recorded) (xs ys : List ℕ) (t node : ℕ) → length xs ≡ t → ((u : ℕ) → u < t → slice_get xs u ≡ Some (first_of r u)) → node ≡ first_of r t → ys ≡ xs ++ node ∷ [] → (u : ℕ) → u < t + 1 → slice_get ys u ≡ Some (first_of r u)
one_first_more r xs ys t node size each is put u low = ap (λ (zs : List ℕ). slice_get zs u) put ∙ by (cases_eq u t)
  where
    by : (u ≡ t) ⊎ (u ≡ t → ⊥) → slice_get (xs ++ node ∷ []) u ≡ Some (first_of r u)
    by (inl e) = push_at xs node u (e ∙ sym size) ∙ ap (λ (n : ℕ). Some n) (is ∙ ap (first_of r) (sym e))
    by (inr ne) = push_before xs node u (omega (arith, low, ne, size)) ∙ each u (omega (arith, low, ne))

-- ---- what the items give

pub item_gives : (s : Scene) (r : Recorded) (first node i : ℕ) (xs : List Item) (x : Item) (now new total : List Give) → slice_get xs i ≡ Some x → now ++ gives_in s r node (drop i xs) ≡ total → new ≡ now ++ option_to_list (give_of s r node x) → new ++ gives_in s r (node + 1) (drop (i + 1) xs) ≡ total
item_gives s r first node i xs x now new total at_ so_far put =
    ap (λ gs. gs ++ gives_in s r (node + 1) (drop (i + 1) xs)) put
    ∙ (append_assoc now (option_to_list (give_of s r node x)) (gives_in s r (node + 1) (drop (i + 1) xs))
    ∙ (ap (λ ys. now ++ gives_in s r node ys) (sym (drop_at xs i x at_)) ∙ so_far))

pub list_gives : (s : Scene) (r : Recorded) (t : ℕ) (now new total : List Give) → t < length r.lists → now ++ gives_from s r (first_of r t) (drop t r.lists) ≡ total → new ≡ now ++ gives_in s r (first_of r t) (list_of r t) → new ++ gives_from s r (first_of r (t + 1)) (drop (t + 1) r.lists) ≡ total
list_gives s r t now new total low so_far put =
    let w = list_there r t low in
    let rest : ℕ → List Give = λ n. gives_from s r n (drop (t + 1) r.lists) in
    let is : gives_in s r (first_of r t) (list_of r t) ≡ gives_in s r (first_of r t) (items_of w.0) = ap (gives_in s r (first_of r t)) w.2 in
    let on_ : first_of r (t + 1) ≡ first_of r t + suc (length (items_of w.0)) = first_more r t low ∙ ap (λ (ys : List Item). first_of r t + suc (length ys)) w.2 in
    ap (λ gs. gs ++ rest (first_of r (t + 1))) (put ∙ ap (λ gs. now ++ gs) is)
    ∙ (append_assoc now (gives_in s r (first_of r t) (items_of w.0)) (rest (first_of r (t + 1)))
    ∙ (ap (λ n. now ++ (gives_in s r (first_of r t) (items_of w.0) ++ rest n)) on_
    ∙ (ap (λ ls. now ++ gives_from s r (first_of r t) ls) (sym (drop_at r.lists t w.0 w.1)) ∙ so_far)))

-- the first node of a list, read
pub first_read : (r : Recorded) (firsts : List ℕ) (t : ℕ) → AreFirsts r firsts → t < suc (length r.lists) → get_or firsts t 0 ≡ first_of r t
first_read r firsts t are low = read firsts t (first_of r t) (are.each t low)
  where
    read : (xs : List ℕ) (i x : ℕ) → slice_get xs i ≡ Some x → get_or xs i 0 ≡ x
    read [] i x at_ = cc
    read (y ∷ ys) zero x at_ = some_is y x at_
    read (y ∷ ys) (suc i) x at_ = read ys i x at_
