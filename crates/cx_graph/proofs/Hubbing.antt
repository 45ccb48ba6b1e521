-- Gives in order of class, key and place.
use Rattle.std.proofs.Common.{◌≡◌, ◌⊎◌, inl, inr, ℕ, zero, suc, ◌+◌, ◌*◌, ◌<◌, ◌≤◌, List, [], ◌∷◌, length, get_or, slice_get, ltb, Bool, Some, sym, ap, ◌∙◌, subst, arith}
use Rattle.std.specs.List.Sorted.{IsNonDecreasingBy}
use Rattle.cx_graph.specs.declared.give.Give.{Give}
use Rattle.cx_graph.specs.Hubs.{group_of, group_in, rank_of, IsOf, IsLast, NoneBelow, NextOf, HubArcs, TakeArc}
use Rattle.cx_graph.specs.declared.graph.Node.{Node}
use Rattle.cx_graph.specs.Graph.{Adds, OneArc}
use Rattle.cx_graph.proofs.Adding.{adds_none, adds_then, adds_as}
use Rattle.cx_graph.proofs.Numbers.{le_or_lt}

some_is : {A : Type 0} (x y : A) → Some x ≡ Some y → x ≡ y
some_is x y e = cc

-- an element that is there, read with any default
pub reads : {A : Type 0} (xs : List A) (i : ℕ) (x d : A) → slice_get xs i ≡ Some x → (i < length xs) × (get_or xs i d ≡ x)
reads [] i x d at_ = cc
reads (y ∷ ys) zero x d at_ = (omega arith, some_is y x at_)
reads (y ∷ ys) (suc i) x d at_ = let r = reads ys i x d at_ in (omega (arith, r.0), r.1)

-- what a test says of the elements of a list, for those of an equal list
pub tested : (xs gs : List Give) (k : ℕ) (g : Give) (rank : ℕ) (b : Bool) → xs ≡ gs → slice_get gs k ≡ Some g → ltb (rank_of (get_or xs k g)) rank ≡ b → ltb (rank_of g) rank ≡ b
tested xs gs k g rank b same there says =
    let at_ : get_or xs k g ≡ g = ap (λ (ys : List Give). get_or ys k g) same ∙ (reads gs k g g there).1 in
    ap (λ (x : Give). ltb (rank_of x) rank) (sym at_) ∙ says

-- a class and a key make one group
group_same : (g : Give) (class key : ℕ) → IsOf g class key → group_in g ≡ group_of class key
group_same g class key is = ap (λ (c : ℕ). group_of c g.key) is.0 ∙ ap (group_of class) is.1

-- and only these, of keys below 2 ^ 32
pub group_apart : (g : Give) (class key : ℕ) → g.key < 4294967296 → key < 4294967296 → group_in g ≡ group_of class key → IsOf g class key
group_apart g class key small_g small same = let e : g.class ≡ class = omega (arith, small_g, small, same) in (e, omega (arith, e, same))

-- of two, the later has no lesser rank
pub ranks_rise : (gs : List Give) (i j : ℕ) (g h : Give) → IsNonDecreasingBy rank_of gs → i ≤ j → slice_get gs i ≡ Some g → slice_get gs j ≡ Some h → rank_of g ≤ rank_of h
ranks_rise gs i j g h rising le at_i at_j =
    let a = reads gs i g g at_i in
    let b = reads gs j h g at_j in
    let up : rank_of (get_or gs i g) ≤ rank_of (get_or gs j g) = rising i j g le b.0 in
    subst (λ (y : Give). rank_of g ≤ rank_of y) b.1 (subst (λ (x : Give). rank_of x ≤ rank_of (get_or gs j g)) a.1 up)

module _ (gs : List Give) (rising : IsNonDecreasingBy rank_of gs) (class key bound : ℕ) (n : ℕ) (low : (k : ℕ) (g : Give) → k < n → slice_get gs k ≡ Some g → rank_of g < group_of class key * 4294967296 + bound) (high : (k : ℕ) (g : Give) → n ≤ k → slice_get gs k ≡ Some g → group_of class key * 4294967296 + bound ≤ rank_of g) where
  -- one of the group below the bound is among the first n
  among : (y : ℕ) (h : Give) → slice_get gs y ≡ Some h → IsOf h class key → h.place < bound → n ≤ y → ⊥
  among y h there same below past =
      let up = high y h past there in
      let at_ : rank_of h ≡ group_of class key * 4294967296 + h.place = ap (λ (m : ℕ). m * 4294967296 + h.place) (group_same h class key same) in
      plain (rank_of h) (group_of class key * 4294967296) h.place bound at_ up below
    where
      plain : (r g p b : ℕ) → r ≡ g + p → g + b ≤ r → p < b → ⊥
      plain r g p b e up below = omega arith

  pub last_found : (x : ℕ) (g : Give) → g.key < 4294967296 → key < 4294967296 → n ≡ x + 1 → slice_get gs x ≡ Some g → group_in g ≡ group_of class key → IsLast gs class key bound x
  last_found x g small_g small last there same = record {
    give = g;
    there = there;
    in_group = group_apart g class key small_g small same;
    below =
        let down = low x g (omega arith) there in
        let at_ : rank_of g ≡ group_of class key * 4294967296 + g.place = ap (λ (m : ℕ). m * 4294967296 + g.place) same in
        plain (rank_of g) (group_of class key * 4294967296) g.place bound at_ down;
    is_last = λ y h at_y in_group below. within y (λ past. among y h at_y in_group below past);
  }
    where
      plain : (r g p b : ℕ) → r ≡ g + p → r < g + b → p < b
      plain r g p b e down = omega arith

      within : (y : ℕ) → (n ≤ y → ⊥) → y ≤ x
      within y never = by (le_or_lt n y)
        where
          by : (n ≤ y) ⊎ (y < n) → y ≤ x
          by (inl past) = absurd (never past)
          by (inr less) = omega arith

  pub none_found : n ≡ 0 → NoneBelow gs class key bound
  none_found none y h there same below = among y h there same below (omega arith)

  -- the last one below the rank is of another group
  pub other_found : bound < 4294967296 → (x : ℕ) (g : Give) → g.place < 4294967296 → n ≡ x + 1 → slice_get gs x ≡ Some g → (group_in g ≡ group_of class key → ⊥) → NoneBelow gs class key bound
  other_found bounded x g small last there other y h at_y same below = by (le_or_lt n y)
    where
      between : (gg gp hp b m : ℕ) → m * 4294967296 + hp ≤ gg * 4294967296 + gp → gp < 4294967296 → gg * 4294967296 + gp < m * 4294967296 + b → b < 4294967296 → gg ≡ m
      between gg gp hp b m up few down bounded = omega arith

      by : (n ≤ y) ⊎ (y < n) → ⊥
      by (inl past) = among y h at_y same below past
      by (inr less) =
          let up : rank_of h ≤ rank_of g = ranks_rise gs y x h g rising (omega arith) at_y there in
          let down = low x g (omega arith) there in
          let at_ : rank_of h ≡ group_of class key * 4294967296 + h.place = ap (λ (m : ℕ). m * 4294967296 + h.place) (group_same h class key same) in
          other (between (group_in g) g.place h.place bound (group_of class key) (subst (λ (m : ℕ). m ≤ rank_of g) at_ up) small down bounded)

-- ---- arcs of hubs

-- there is no next hub
pub none_past : (gs : List Give) (base x : ℕ) → length gs ≤ x + 1 → (a b : ℕ) → NextOf gs base x a b → ⊥
none_past gs base x past a b (k, at_, (h, at_next, same, arc)) = let r = (reads gs (x + 1) h h at_next).0 in omega arith

module _ (gs : List Give) (base x : ℕ) (g : Give) (there : slice_get gs x ≡ Some g) where
  same_give : (h : Give) → slice_get gs x ≡ Some h → h ≡ g
  same_give h at_ = some_is h g (sym at_ ∙ there)

  -- the next hub is of another group, or of the same
  pub next_other : (h : Give) → slice_get gs (x + 1) ≡ Some h → (group_in g ≡ group_in h → ⊥) → (a b : ℕ) → NextOf gs base x a b → ⊥
  next_other h next other a b (k, at_, (j, at_next, same, arc)) =
      other (ap group_in (sym (same_give k at_)) ∙ (sym (group_same j k.class k.key same) ∙ ap group_in (some_is j h (sym at_next ∙ next))))

  pub next_alike : (old new : List Node) (h : Give) → slice_get gs (x + 1) ≡ Some h → IsOf h g.class g.key → Adds old new (OneArc (base + x) (base + x + 1)) → Adds old new (NextOf gs base x)
  next_alike old new h next same adds = adds_as old new (OneArc (base + x) (base + x + 1)) (NextOf gs base x) adds (λ a b in_. in_.2.3) (λ a b is. (g, there, (h, next, same, is)))

  pub adds_hub : (old mid new : List Node) → Adds old mid (OneArc g.node (base + x)) → Adds mid new (NextOf gs base x) → Adds old new (HubArcs gs base x)
  adds_hub old mid new f t = adds_then old mid new (OneArc g.node (base + x)) (NextOf gs base x) (HubArcs gs base x) f t cases (λ a b is. inl (g, there, is)) (λ a b in_. inr in_)
    where
      cases : (a b : ℕ) → HubArcs gs base x a b → OneArc g.node (base + x) a b ⊎ NextOf gs base x a b
      cases a b (inl (h, at_, is)) = inl (is.0 ∙ ap (λ (k : Give). k.node) (same_give h at_), is.1)
      cases a b (inr in_) = inr in_

pub adds_taker : (gs : List Give) (base class key bound target x : ℕ) (old new : List Node) → IsLast gs class key bound x → Adds old new (OneArc (base + x) target) → Adds old new (TakeArc gs base class key bound target)
adds_taker gs base class key bound target x old new last adds = adds_as old new (OneArc (base + x) target) (TakeArc gs base class key bound target) adds into_ (λ a b is. (x, last, is.0, is.1))
  where
    into_ : (a b : ℕ) → TakeArc gs base class key bound target a b → OneArc (base + x) target a b
    into_ a b (y, also, from_, to_) =
        let up = last.is_last y also.give also.there also.in_group also.below in
        let down = also.is_last x last.give last.there last.in_group last.below in
        let same : y ≡ x = omega arith in
        (from_ ∙ ap (λ (n : ℕ). base + n) same, to_)

pub adds_no_taker : (gs : List Give) (base class key bound target : ℕ) (old : List Node) → NoneBelow gs class key bound → Adds old old (TakeArc gs base class key bound target)
adds_no_taker gs base class key bound target old none = adds_none old (TakeArc gs base class key bound target) (λ a b in_. none in_.0 in_.1.give in_.1.there in_.1.in_group in_.1.below)
