-- Arcs that are added to a graph.
use Rattle.std.proofs.Common.{◌≡◌, ◌⊎◌, inl, inr, ℕ, zero, suc, ◌+◌, ◌<◌, ◌==◌, Bool, true, false, List, [], ◌∷◌, ◌++◌, length, if◌then◌else◌, refl, sym, ap, ◌∙◌, subst, arith, eqb-true, eq-eqb}
use Rattle.std.specs.List.{Contains}
use Rattle.std.proofs.lemmas.List.Elements.{Contains-append_left, Contains-append_cases, Contains-push}
use Rattle.cx_graph.specs.declared.graph.Node.{Node}
use Rattle.cx_graph.specs.Graph.{next_of, Arc, Adds, OneArc, ArcOf}
use Rattle.cx_graph.proofs.Numbers.{dec_eq}

-- nothing is added
pub adds_none : (g : List Node) (arcs : ℕ → ℕ → Type 0) → ((a b : ℕ) → arcs a b → ⊥) → Adds g g arcs
adds_none g arcs never = record { count = refl; kept = λ a b arc. arc; added = λ a b arc. absurd (never a b arc); only = λ a b arc. inl arc }

-- one arc is added
pub adds_one : (old new : List Node) (a b : ℕ) → length new ≡ length old → ((x : ℕ) → next_of new x ≡ next_of old x ++ (if a == x then b ∷ [] else [])) → Adds old new (OneArc a b)
adds_one old new a b same arcs = record {
  count = same;
  kept = λ x y arc. subst (λ (ns : List ℕ). Contains ns y) (sym (arcs x)) (Contains-append_left (next_of old x) (if a == x then b ∷ [] else []) y arc);
  added = λ x y is. put x y is;
  only = λ x y arc. by x y (a == x) refl (Contains-append_cases (next_of old x) (if a == x then b ∷ [] else []) y (subst (λ (ns : List ℕ). Contains ns y) (arcs x) arc));
}
  where
    put : (x y : ℕ) → OneArc a b x y → Arc new x y
    put x y is =
        let yes_ : (a == x) ≡ true = eq-eqb a x (sym is.0) in
        let grown : next_of new x ≡ next_of old x ++ b ∷ [] = arcs x ∙ ap (λ (e : Bool). next_of old x ++ (if e then b ∷ [] else [])) yes_ in
        subst (λ (ns : List ℕ). Contains ns y) (sym grown) (subst (λ (z : ℕ). Contains (next_of old x ++ b ∷ []) z) (sym is.1) (Contains-push (next_of old x) b))

    single : (y : ℕ) → Contains (b ∷ []) y → y ≡ b
    single y (zero, low, at_) = sym at_
    single y (suc k, low, at_) = absurd (omega arith)

    none : (y : ℕ) → Contains [] y → ⊥
    none y (k, low, at_) = omega arith

    by : (x y : ℕ) (e : Bool) → (a == x) ≡ e → Arc old x y ⊎ Contains (if e then b ∷ [] else []) y → Arc old x y ⊎ OneArc a b x y
    by x y e is (inl arc) = inl arc
    by x y true is (inr in_) = inr (sym (eqb-true a x is), single y in_)
    by x y false is (inr in_) = absurd (none y in_)

-- some are added, and then others
pub adds_then : (old mid new : List Node) (first then_ all : ℕ → ℕ → Type 0) → Adds old mid first → Adds mid new then_ → ((a b : ℕ) → all a b → first a b ⊎ then_ a b) → ((a b : ℕ) → first a b → all a b) → ((a b : ℕ) → then_ a b → all a b) → Adds old new all
adds_then old mid new first then_ all f t cases from_first from_then = record {
  count = t.count ∙ f.count;
  kept = λ a b arc. t.kept a b (f.kept a b arc);
  added = λ a b in_. add a b (cases a b in_);
  only = λ a b arc. by a b (t.only a b arc);
}
  where
    add : (a b : ℕ) → first a b ⊎ then_ a b → Arc new a b
    add a b (inl in_) = t.kept a b (f.added a b in_)
    add a b (inr in_) = t.added a b in_

    was : (a b : ℕ) → Arc old a b ⊎ first a b → Arc old a b ⊎ all a b
    was a b (inl arc) = inl arc
    was a b (inr in_) = inr (from_first a b in_)

    by : (a b : ℕ) → Arc mid a b ⊎ then_ a b → Arc old a b ⊎ all a b
    by a b (inl arc) = was a b (f.only a b arc)
    by a b (inr in_) = inr (from_then a b in_)

-- both of two
pub adds_both : (old mid new : List Node) (first then_ : ℕ → ℕ → Type 0) → Adds old mid first → Adds mid new then_ → Adds old new (λ a b. first a b ⊎ then_ a b)
adds_both old mid new first then_ f t = adds_then old mid new first then_ (λ a b. first a b ⊎ then_ a b) f t (λ a b in_. in_) (λ a b in_. inl in_) (λ a b in_. inr in_)

-- the arcs of the first so many, of none of them at first
pub adds_of_none : (g : List Node) (each : ℕ → ℕ → ℕ → Type 0) → Adds g g (ArcOf each 0)
adds_of_none g each = adds_none g (ArcOf each 0) (λ a b in_. never in_.0 in_.1)
  where
    never : (k : ℕ) → k < 0 → ⊥
    never k low = omega arith

-- and of one more
pub adds_of_more : (old mid new : List Node) (each : ℕ → ℕ → ℕ → Type 0) (i : ℕ) → Adds old mid (ArcOf each i) → Adds mid new (each i) → Adds old new (ArcOf each (i + 1))
adds_of_more old mid new each i f t = adds_then old mid new (ArcOf each i) (each i) (ArcOf each (i + 1)) f t cases (λ a b in_. (in_.0, omega (arith, in_.1), in_.2)) (λ a b in_. (i, omega arith, in_))
  where
    cases : (a b : ℕ) → ArcOf each (i + 1) a b → ArcOf each i a b ⊎ each i a b
    cases a b in_ = by (dec_eq in_.0 i)
      where
        by : (in_.0 ≡ i) ⊎ (in_.0 ≡ i → ⊥) → ArcOf each i a b ⊎ each i a b
        by (inl same) = inr (subst (λ (k : ℕ). each k a b) same in_.2)
        by (inr other) = inl (in_.0, omega (arith, in_.1, other), in_.2)

-- the same arcs in other words
pub adds_as : (old new : List Node) (first all : ℕ → ℕ → Type 0) → Adds old new first → ((a b : ℕ) → all a b → first a b) → ((a b : ℕ) → first a b → all a b) → Adds old new all
adds_as old new first all f into_ out = record {
  count = f.count;
  kept = f.kept;
  added = λ a b in_. f.added a b (into_ a b in_);
  only = λ a b arc. by a b (f.only a b arc);
}
  where
    by : (a b : ℕ) → Arc old a b ⊎ first a b → Arc old a b ⊎ all a b
    by a b (inl arc) = inl arc
    by a b (inr in_) = inr (out a b in_)
