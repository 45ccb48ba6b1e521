-- A search along a chain, from its last node back to its first.
use Rattle.std.proofs.Common.{◌≡◌, ◌⊎◌, inl, inr, ℕ, zero, suc, ◌+◌, ◌-◌, ◌<◌, ◌≤◌, List, [], ◌∷◌, ◌++◌, length, get_or, refl, sym, ap, ◌∙◌, subst, arith}
use Rattle.std.specs.List.{Contains}
use Rattle.std.proofs.lemmas.List.Elements.{Contains-push, Contains-push_cases, Contains-append_left}
use Rattle.cx_graph.specs.declared.graph.Node.{Node}
use Rattle.cx_graph.specs.declared.marks.Marks.{Marks}
use Rattle.cx_graph.specs.Graph.{Arc, Path, one, more, IsChain, IsClock}
use Rattle.cx_graph.specs.Marks.{mark_of, IsWaiting, Spreads, Searching, Searched}
use Rattle.cx_graph.proofs.Numbers.{dec_eq}
use Rattle.cx_graph.proofs.Spreading.{some_of}

-- a mark is one more than some number
under : (n : ℕ) → 0 < n → (i : ℕ) × (n ≡ i + 1)
under zero h = absurd (omega arith)
under (suc n) h = (n, omega arith)

nothing_waits : (m : Marks) (a : ℕ) → m.waiting.items ≡ [] → IsWaiting m a → ⊥
nothing_waits m a none in_ = let w = subst (λ (ws : List ℕ). Contains ws a) none in_ in nil a w
  where
    nil : (x : ℕ) → Contains [] x → ⊥
    nil x (k, low, at_) = omega arith

-- before the first step
pub searched_none : (g : List Node) (first count : ℕ) (m : Marks) → length m.values.items ≡ length g → ((b : ℕ) → mark_of m b ≡ 0) → m.waiting.items ≡ [] → Searched g first count count m
searched_none g first count m size none empty = record {
  searching = record {
    size = size;
    closed = λ a b arc. let z = none a in inl (omega (arith, z));
    sound = λ b i e. let z = none b in absurd (omega arith);
    waiting = λ a in_. absurd (nothing_waits m a empty in_);
    sources = λ i b low high arc. absurd (omega arith);
  };
  none_waits = empty;
}

module _ (g : List Node) (first count low : ℕ) (old new : Marks) where
  -- marks don't fall
  rises : (among : ℕ → Type 0) → Spreads old new among (low + 1) → (b : ℕ) → mark_of old b ≤ mark_of new b
  rises among s b = by (dec_eq (mark_of old b) 0)
    where
      by : (mark_of old b ≡ 0) ⊎ (mark_of old b ≡ 0 → ⊥) → mark_of old b ≤ mark_of new b
      by (inl none) = omega arith
      by (inr has) = let e = s.kept b (some_of (mark_of old b) has) in omega arith

  -- what has a mark reaches: by its old mark, or as one of those to which the marks spread
  sound_on : (among : ℕ → Type 0) → low < count → Spreads old new among (low + 1) → ((b i : ℕ) → mark_of old b ≡ i + 1 → Path g (first + i) b × (low ≤ i) × (i < count)) → ((b : ℕ) → among b → Path g (first + low) b) → (b i : ℕ) → mark_of new b ≡ i + 1 → Path g (first + i) b × (low ≤ i) × (i < count)
  sound_on among in_chain s was now_ b i is = by (dec_eq (mark_of old b) 0)
    where
      by : (mark_of old b ≡ 0) ⊎ (mark_of old b ≡ 0 → ⊥) → Path g (first + i) b × (low ≤ i) × (i < count)
      by (inl none) =
          let w = s.newly b none (omega arith) in
          let same : low ≡ i = omega (arith, w.1) in
          (subst (λ (n : ℕ). Path g (first + n) b) same (now_ b w.0), omega arith, omega arith)
      by (inr has) = let e = s.kept b (some_of (mark_of old b) has) in was b i (sym e ∙ is)

  -- an arc rises, or its beginning is waiting
  closed_on : (among : ℕ → Type 0) → Spreads old new among (low + 1) → (a b : ℕ) → ((mark_of old a ≤ mark_of old b) ⊎ IsWaiting new a) → (mark_of new a ≤ mark_of new b) ⊎ IsWaiting new a
  closed_on among s a b (inr in_) = inr in_
  closed_on among s a b (inl le) = by (dec_eq (mark_of old a) 0) (dec_eq (mark_of new a) 0)
    where
      by : (mark_of old a ≡ 0) ⊎ (mark_of old a ≡ 0 → ⊥) → (mark_of new a ≡ 0) ⊎ (mark_of new a ≡ 0 → ⊥) → (mark_of new a ≤ mark_of new b) ⊎ IsWaiting new a
      by (inr has) e = let k = s.kept a (some_of (mark_of old a) has) in let up = rises among s b in inl (omega arith)
      by (inl none) (inl still) = inl (omega arith)
      by (inl none) (inr now_) = inr (s.newly a none (some_of (mark_of new a) now_)).2

  -- the marks spread from the next node of the chain
  pub from_source : low < count → Searched g first count (low + 1) old → Spreads old new (Arc g (first + low)) (low + 1) → Searching g first count low new
  from_source in_chain done s = record {
    size = s.size ∙ done.searching.size;
    closed = λ a b arc. closed_on (Arc g (first + low)) s a b (was a b arc (done.searching.closed a b arc));
    sound = sound_now;
    waiting = λ a in_. marked_now a (s.waits a in_);
    sources = sources_now;
  }
    where
      was : (a b : ℕ) → Arc g a b → (mark_of old a ≤ mark_of old b) ⊎ IsWaiting old a → (mark_of old a ≤ mark_of old b) ⊎ IsWaiting new a
      was a b arc (inl le) = inl le
      was a b arc (inr in_) = absurd (nothing_waits old a done.none_waits in_)

      sound_was : (b i : ℕ) → mark_of old b ≡ i + 1 → Path g (first + i) b × (low ≤ i) × (i < count)
      sound_was b i is = let w = done.searching.sound b i is in (w.0, omega (arith, w.1), w.2)

      sound_now : (b i : ℕ) → mark_of new b ≡ i + 1 → Path g (first + i) b × (low ≤ i) × (i < count)
      sound_now = sound_on (Arc g (first + low)) in_chain s sound_was (λ b arc. one (first + low) b arc)

      marked_now : (a : ℕ) → IsWaiting old a ⊎ (mark_of new a ≡ low + 1) → mark_of new a ≡ low + 1
      marked_now a (inl in_) = absurd (nothing_waits old a done.none_waits in_)
      marked_now a (inr e) = e

      own : (b : ℕ) → Arc g (first + low) b → low < mark_of new b
      own b arc = let u = under (mark_of new b) (s.marked b arc) in let w = sound_now b u.0 u.1 in omega (arith, u.1, w.1)

      sources_now : (i b : ℕ) → low ≤ i → i < count → Arc g (first + i) b → i < mark_of new b
      sources_now i b least high arc = by (dec_eq i low)
        where
          by : (i ≡ low) ⊎ (i ≡ low → ⊥) → i < mark_of new b
          by (inl same) = let o = own b (subst (λ (n : ℕ). Arc g (first + n) b) same arc) in omega arith
          by (inr other) = let w = done.searching.sources i b (omega arith) high arc in let up = rises (Arc g (first + low)) s b in omega arith

  -- the marks spread from a node that was waiting
  pub from_waiting : (before : Marks) (a : ℕ) → before.values.items ≡ old.values.items → before.waiting.items ≡ old.waiting.items ++ a ∷ [] → Searching g first count low before → Spreads old new (Arc g a) (low + 1) → Searching g first count low new
  from_waiting before a same last was s = record {
    size = s.size ∙ (ap length (sym same) ∙ was.size);
    closed = closed_now;
    sound = sound_now;
    waiting = λ c in_. marked_now c (s.waits c in_);
    sources = λ i b least high arc. let w = was.sources i b least high arc in let up = rises (Arc g a) s b in let e = is_old b in omega arith;
  }
    where
      is_old : (b : ℕ) → mark_of before b ≡ mark_of old b
      is_old b = ap (λ vs. get_or vs b 0) same

      waits_in : (c : ℕ) → IsWaiting old c → IsWaiting before c
      waits_in c in_ = subst (λ (ws : List ℕ). Contains ws c) (sym last) (Contains-append_left old.waiting.items (a ∷ []) c in_)

      a_marked : mark_of old a ≡ low + 1
      a_marked = sym (is_old a) ∙ was.waiting a (subst (λ (ws : List ℕ). Contains ws a) (sym last) (Contains-push old.waiting.items a))

      reached : Path g (first + low) a
      reached = (was.sound a low (is_old a ∙ a_marked)).0

      sound_now : (b i : ℕ) → mark_of new b ≡ i + 1 → Path g (first + i) b × (low ≤ i) × (i < count)
      sound_now = sound_on (Arc g a) (was.sound a low (is_old a ∙ a_marked)).2 s (λ b i is. was.sound b i (is_old b ∙ is)) (λ b arc. more (first + low) a b reached arc)

      marked_now : (c : ℕ) → IsWaiting old c ⊎ (mark_of new c ≡ low + 1) → mark_of new c ≡ low + 1
      marked_now c (inl in_) = let e = sym (is_old c) ∙ was.waiting c (waits_in c in_) in s.kept c (omega arith) ∙ e
      marked_now c (inr e) = e

      closed_now : (c b : ℕ) → Arc g c b → (mark_of new c ≤ mark_of new b) ⊎ IsWaiting new c
      closed_now c b arc = by (was.closed c b arc)
        where
          popped : Contains old.waiting.items c ⊎ (a ≡ c) → (mark_of new c ≤ mark_of new b) ⊎ IsWaiting new c
          popped (inl in_) = inr (s.still c in_)
          popped (inr is_a) =
              let m = s.kept a (omega (arith, a_marked)) in
              let u = under (mark_of new b) (s.marked b (subst (λ (n : ℕ). Arc g n b) (sym is_a) arc)) in
              let w = sound_now b u.0 u.1 in
              let at_c : mark_of new a ≡ mark_of new c = ap (mark_of new) is_a in
              inl (omega (arith, m, a_marked, at_c, u.1, w.1))

          by : (mark_of before c ≤ mark_of before b) ⊎ IsWaiting before c → (mark_of new c ≤ mark_of new b) ⊎ IsWaiting new c
          by (inl le) = let e = is_old c in let f = is_old b in let up : mark_of old c ≤ mark_of old b = omega arith in closed_on (Arc g a) s c b (inl up)
          by (inr in_) = popped (Contains-push_cases old.waiting.items a c (subst (λ (ws : List ℕ). Contains ws c) last in_))

-- nothing waits any more
pub searched : (g : List Node) (first count low : ℕ) (m : Marks) → m.waiting.items ≡ [] → Searching g first count low m → Searched g first count low m
searched g first count low m none s = record { searching = s; none_waits = none }

pub empty : {A : Type 0} (xs : List A) → length xs ≡ 0 → xs ≡ []
empty [] none = refl
empty (x ∷ xs) none = absurd (omega arith)

-- the same marks, and the same that wait
pub stays : (g : List Node) (first count low : ℕ) (m n : Marks) → n.values.items ≡ m.values.items → m.waiting.items ≡ n.waiting.items → Searching g first count low m → Searching g first count low n
stays g first count low m n same waits s = record {
  size = ap length same ∙ s.size;
  closed = λ a b arc. by a b (s.closed a b arc);
  sound = λ b i is. s.sound b i (sym (is_same b) ∙ is);
  waiting = λ a in_. is_same a ∙ s.waiting a (subst (λ (ws : List ℕ). Contains ws a) (sym waits) in_);
  sources = λ i b least high arc. let w = s.sources i b least high arc in let e = is_same b in omega arith;
}
  where
    is_same : (b : ℕ) → mark_of n b ≡ mark_of m b
    is_same b = ap (λ vs. get_or vs b 0) same

    by : (a b : ℕ) → (mark_of m a ≤ mark_of m b) ⊎ IsWaiting m a → (mark_of n a ≤ mark_of n b) ⊎ IsWaiting n a
    by a b (inl le) = let e = is_same a in let f = is_same b in inl (omega arith)
    by a b (inr in_) = inr (subst (λ (ws : List ℕ). Contains ws a) waits in_)

-- what waits is a node
pub waits_within : (g : List Node) (first count low : ℕ) (m : Marks) (rest : List ℕ) (a : ℕ) → m.waiting.items ≡ rest ++ a ∷ [] → Searching g first count low m → a < length g
waits_within g first count low m rest a last s =
    let in_ : IsWaiting m a = subst (λ (ws : List ℕ). Contains ws a) (sym last) (Contains-push rest a) in
    let e = s.waiting a in_ in
    omega (arith, s.size, within m.values.items a (omega (arith, e)))
  where
    within : (vs : List ℕ) (k : ℕ) → 0 < get_or vs k 0 → k < length vs
    within [] k some = absurd (omega arith)
    within (v ∷ vs) zero some = omega arith
    within (v ∷ vs) (suc k) some = omega (arith, within vs k some)

-- ---- at the end

-- along the chain
chain_from : (g : List Node) (first count : ℕ) → IsChain g first count → (i k b : ℕ) → i + k < count → Path g (first + (i + k)) b → Path g (first + i) b
chain_from g first count chain i zero b low path = subst (λ (n : ℕ). Path g (first + n) b) (omega arith) path
chain_from g first count chain i (suc k) b low path =
    let inner : Path g (first + (i + k)) b = before (subst (λ (n : ℕ). Path g n b) (omega arith) path) in
    chain_from g first count chain i k b (omega arith) inner
  where
    step : Arc g (first + (i + k)) (first + (i + k) + 1)
    step = chain.arcs (i + k) (omega arith)

    lead : (a b c : ℕ) → Arc g a b → Path g b c → Path g a c
    lead a b c arc (one x y second) = more a b c (one a b arc) second
    lead a b c arc (more x y z path second) = more a y c (lead a b y arc path) second

    before : Path g (first + (i + k) + 1) b → Path g (first + (i + k)) b
    before path = lead (first + (i + k)) (first + (i + k) + 1) b step path

pub is_clock : (g : List Node) (first count : ℕ) (m : Marks) → IsChain g first count → Searched g first count 0 m → IsClock g first count m.values.items
is_clock g first count m chain done = record {
  size = done.searching.size;
  reached = λ i b in_chain less.
      let u = under (mark_of m b) (omega arith) in
      let w = done.searching.sound b u.0 u.1 in
      let far : i ≤ u.0 = omega (arith, u.1, less) in
      let gap : i + (u.0 - i) ≡ u.0 = omega arith in
      chain_from g first count chain i (u.0 - i) b (omega (arith, w.2)) (subst (λ (n : ℕ). Path g (first + n) b) (sym gap) w.0);
  reaches = λ i b in_chain path. up i in_chain (first + i) b refl path;
}
  where
    up : (i : ℕ) → i < count → (a b : ℕ) → a ≡ first + i → Path g a b → i < mark_of m b
    up i in_chain a b is (one x y arc) = done.searching.sources i b (omega arith) in_chain (subst (λ (n : ℕ). Arc g n b) is arc)
    up i in_chain a b is (more x c y path arc) = let before = up i in_chain a c is path in by c (done.searching.closed c b arc) before
      where
        by : (d : ℕ) → (mark_of m d ≤ mark_of m b) ⊎ IsWaiting m d → i < mark_of m d → i < mark_of m b
        by d (inl le) before = omega arith
        by d (inr in_) before = absurd (nothing_waits m d done.none_waits in_)
