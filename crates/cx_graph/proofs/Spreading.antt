-- Marks that spread to nodes.
use Rattle.std.proofs.Common.{◌≡◌, ◌⊎◌, inl, inr, ℕ, zero, suc, ◌+◌, ◌<◌, List, [], ◌∷◌, ◌++◌, length, get_or, set, refl, sym, ap, ◌∙◌, subst, arith, length-set, length-append, get_or-set_same, get_or-set_other, take, ◌≤◌}
use Rattle.cx_graph.proofs.Numbers.{take_more, take_all}
use Rattle.std.specs.List.{Contains}
use Rattle.std.proofs.lemmas.List.Elements.{Contains-append_left, Contains-push, Contains-push_cases}
use Rattle.std.proofs.lemmas.Grind.{get_or_default_zero}
use Rattle.cx_graph.proofs.Numbers.{dec_eq}
use Rattle.cx_graph.specs.declared.marks.Marks.{Marks}
use Rattle.cx_graph.specs.Marks.{mark_of, IsWaiting, unmarked, left, Spreads}

pub some_of : (n : ℕ) → (n ≡ 0 → ⊥) → 0 < n
some_of zero h = absurd (h refl)
some_of (suc n) h = omega arith

-- one number that was 0 is 0 no more
fewer : (vs : List ℕ) (b v : ℕ) → b < length vs → get_or vs b 0 ≡ 0 → 0 < v → unmarked vs ≡ suc (unmarked (set vs b v))
fewer [] b v low was new = absurd (omega arith)
fewer (zero ∷ us) zero (suc v) low was new = refl
fewer (zero ∷ us) zero zero low was new = absurd (omega arith)
fewer (suc u ∷ us) zero v low was new = absurd (omega arith)
fewer (zero ∷ us) (suc b) v low was new = ap suc (fewer us b v (omega arith) was new)
fewer (suc u ∷ us) (suc b) v low was new = fewer us b v (omega arith) was new

module _ (old new : Marks) (b v : ℕ) (within : b < length old.values.items) (fresh : mark_of old b ≡ 0) (some : 0 < v) (values : new.values.items ≡ set old.values.items b v) (waiting : new.waiting.items ≡ old.waiting.items ++ b ∷ []) where
  at_b : mark_of new b ≡ v
  at_b = ap (λ vs. get_or vs b 0) values ∙ get_or-set_same old.values.items b v 0 within

  elsewhere : (x : ℕ) → (x ≡ b → ⊥) → mark_of new x ≡ mark_of old x
  elsewhere x other = ap (λ vs. get_or vs x 0) values ∙ get_or-set_other old.values.items b x v 0 other

  in_waiting : IsWaiting new b
  in_waiting = subst (λ (ws : List ℕ). Contains ws b) (sym waiting) (Contains-push old.waiting.items b)

  pub marks_one : Spreads old new (λ x. x ≡ b) v
  marks_one = record {
    size = ap length values ∙ length-set old.values.items b v;
    kept = λ x has. elsewhere x (λ same. let z : mark_of old x ≡ 0 = ap (mark_of old) same ∙ fresh in omega arith);
    marked = λ x same. let e : mark_of new x ≡ v = ap (mark_of new) same ∙ at_b in omega arith;
    newly = λ x none now_. here x none now_ (dec_eq x b);
    still = λ x in_. subst (λ (ws : List ℕ). Contains ws x) (sym waiting) (Contains-append_left old.waiting.items (b ∷ []) x in_);
    waits = λ x in_. or_here x (Contains-push_cases old.waiting.items b x (subst (λ (ws : List ℕ). Contains ws x) waiting in_));
    as_many = counted;
  }
    where
      here : (x : ℕ) → mark_of old x ≡ 0 → 0 < mark_of new x → (x ≡ b) ⊎ (x ≡ b → ⊥) → (x ≡ b) × (mark_of new x ≡ v) × IsWaiting new x
      here x none now_ (inl same) = (same, ap (mark_of new) same ∙ at_b, subst (λ (y : ℕ). IsWaiting new y) (sym same) in_waiting)
      here x none now_ (inr other) = let e = elsewhere x other in absurd (omega arith)

      or_here : (x : ℕ) → Contains old.waiting.items x ⊎ (b ≡ x) → IsWaiting old x ⊎ (mark_of new x ≡ v)
      or_here x (inl in_) = inl in_
      or_here x (inr same) = inr (ap (mark_of new) (sym same) ∙ at_b)

      counted : left new ≡ left old
      counted =
          let c = fewer old.values.items b v within fresh some in
          let l : length new.waiting.items ≡ length old.waiting.items + 1 = ap length waiting ∙ length-append old.waiting.items (b ∷ []) in
          let n : unmarked new.values.items ≡ unmarked (set old.values.items b v) = ap unmarked values in
          omega (arith, c, l, n)

-- nothing is marked
pub marks_none : (m : Marks) (among : ℕ → Type 0) (v : ℕ) → ((x : ℕ) → among x → 0 < mark_of m x) → Spreads m m among v
marks_none m among v all = record {
  size = refl;
  kept = λ b has. refl;
  marked = all;
  newly = λ b none now_. absurd (omega arith);
  still = λ b in_. in_;
  waits = λ b in_. inl in_;
  as_many = refl;
}

-- first to some, then to others
pub spreads_on : (old mid new : Marks) (first then_ all : ℕ → Type 0) (v : ℕ) → 0 < v → Spreads old mid first v → Spreads mid new then_ v → ((x : ℕ) → first x → all x) → ((x : ℕ) → then_ x → all x) → ((x : ℕ) → all x → first x ⊎ then_ x) → Spreads old new all v
spreads_on old mid new first then_ all v some f t into_first into_then cases = record {
  size = t.size ∙ f.size;
  kept = λ b has. let e = f.kept b has in t.kept b (omega arith) ∙ e;
  marked = λ b in_. by_case b (cases b in_);
  newly = λ b none now_. new_one b none now_ (dec_eq (mark_of mid b) 0);
  still = λ b in_. t.still b (f.still b in_);
  waits = λ b in_. or_new b (t.waits b in_);
  as_many = t.as_many ∙ f.as_many;
}
  where
    by_case : (b : ℕ) → first b ⊎ then_ b → 0 < mark_of new b
    by_case b (inl in_) = let m = f.marked b in_ in let e = t.kept b m in omega arith
    by_case b (inr in_) = t.marked b in_

    new_one : (b : ℕ) → mark_of old b ≡ 0 → 0 < mark_of new b → (mark_of mid b ≡ 0) ⊎ (mark_of mid b ≡ 0 → ⊥) → all b × (mark_of new b ≡ v) × IsWaiting new b
    new_one b none now_ (inl still_none) = let w = t.newly b still_none now_ in (into_then b w.0, w.1, w.2)
    new_one b none now_ (inr has) = let p : 0 < mark_of mid b = some_of (mark_of mid b) has in let w = f.newly b none p in (into_first b w.0, t.kept b p ∙ w.1, t.still b w.2)

    or_new : (b : ℕ) → IsWaiting mid b ⊎ (mark_of new b ≡ v) → IsWaiting old b ⊎ (mark_of new b ≡ v)
    or_new b (inr e) = inr e
    or_new b (inl in_) = old_or b (f.waits b in_)
      where
        old_or : (x : ℕ) → IsWaiting old x ⊎ (mark_of mid x ≡ v) → IsWaiting old x ⊎ (mark_of new x ≡ v)
        old_or x (inl was) = inl was
        old_or x (inr e) = let p : 0 < mark_of mid x = omega arith in inr (t.kept x p ∙ e)

-- to one node more of a list
pub spreads_more : (old mid new : Marks) (next : List ℕ) (i b v : ℕ) → 0 < v → i < length next → b ≡ get_or next i b → Spreads old mid (Contains (take i next)) v → Spreads mid new (λ x. x ≡ b) v → Spreads old new (Contains (take (i + 1) next)) v
spreads_more old mid new next i b v some within at_ f t =
    let grows : take (i + 1) next ≡ take i next ++ b ∷ [] = take_more next i b within at_ in
    spreads_on old mid new (Contains (take i next)) (λ x. x ≡ b) (Contains (take (i + 1) next)) v some f t
    (λ x in_. subst (λ (ns : List ℕ). Contains ns x) (sym grows) (Contains-append_left (take i next) (b ∷ []) x in_))
    (λ x same. subst (λ (ns : List ℕ). Contains ns x) (sym grows) (subst (λ (y : ℕ). Contains (take i next ++ b ∷ []) y) (sym same) (Contains-push (take i next) b)))
    (λ x in_. cases x (Contains-push_cases (take i next) b x (subst (λ (ns : List ℕ). Contains ns x) grows in_)))
  where
    cases : (x : ℕ) → Contains (take i next) x ⊎ (b ≡ x) → Contains (take i next) x ⊎ (x ≡ b)
    cases x (inl in_) = inl in_
    cases x (inr same) = inr (sym same)

-- to all of them
pub spreads_all : (old new : Marks) (next : List ℕ) (n v : ℕ) → length next ≤ n → Spreads old new (Contains (take n next)) v → Spreads old new (Contains next) v
spreads_all old new next n v past f = subst (λ (ns : List ℕ). Spreads old new (Contains ns) v) (take_all next n past) f

-- to none of them
pub spreads_none : (m : Marks) (next : List ℕ) (v : ℕ) → Spreads m m (Contains (take 0 next)) v
spreads_none m next v = marks_none m (Contains (take 0 next)) v (λ x in_. absurd (nothing x in_))
  where
    nothing : (x : ℕ) → Contains [] x → ⊥
    nothing x (k, low, at_) = omega arith

-- an element is read the same by any default
pub get_zero : (ns : List ℕ) (i : ℕ) → i < length ns → get_or ns i 0 ≡ get_or ns i (get_or ns i 0)
get_zero ns i low = sym (get_or_default_zero ns i (get_or ns i 0) low)
