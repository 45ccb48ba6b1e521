-- One name more.
use Rattle.std.proofs.Common.{◌≡◌, ℕ, suc, Bool, true, false, cond, List, [], ◌∷◌, ◌++◌, map, length, Option, Some, None, refl, sym, ap, subst, ◌∙◌, inl, inr}
use Rattle.std.specs.Prelude.{is_some}
use Rattle.std.specs.Option.{option_map}
use Rattle.std.specs.Str.{bytes_eq}
use Rattle.std.specs.Global.{Vec}
use Rattle.std.specs.Ordering.{nat_cmp, is_eq}
use Rattle.std.specs.Cmp.Lexicographic.{slice_cmp}
use Rattle.std.specs.Map.{KeepsOthers, IsKeyTest, AreApart, lookup}
use Rattle.std.specs.BTreeMap.{BTreeMap, get_by, UpdatesBy}
use Rattle.std.proofs.lemmas.Bool.{cases_Bool, true≢false}
use Rattle.std.proofs.lemmas.List.{map-append, length-map}
use Rattle.std.proofs.lemmas.Cmp.{nat_list_cmp_total, eq_by_cmp_equiv}
use Rattle.std.proofs.lemmas.Map.Text.{is_eq-slice_cmp}
use Rattle.std.proofs.lemmas.Slice.Eq.{bytes_eq-Decides}
use Rattle.cx_index.specs.Places.{place_of, IsIndex}

-- ---- a list

-- the first of two values that is there
abbrev pub or_else : Option ℕ → Option ℕ → Option ℕ
or_else (Some i) o = Some i
or_else None o = o

map_or_else : (o p : Option ℕ) → option_map suc (or_else o p) ≡ or_else (option_map suc o) (option_map suc p)
map_or_else (Some i) p = refl
map_or_else None p = refl

map_if : (b : Bool) (i : ℕ) → option_map suc (cond b (Some i) None) ≡ cond b (Some (suc i)) None
map_if true i = refl
map_if false i = refl

place_more : (ns : List (List ℕ)) (n q : List ℕ) → place_of (ns ++ n ∷ []) q ≡ or_else (place_of ns q) (cond (bytes_eq n q) (Some (length ns)) None)
place_more [] n q = refl
place_more (m ∷ ms) n q = elim (bytes_eq m q) as (λ b. cond b (Some 0) (option_map suc (place_of (ms ++ n ∷ []) q)) ≡ or_else (cond b (Some 0) (option_map suc (place_of ms q))) (cond (bytes_eq n q) (Some (suc (length ms))) None)) [
  | true ↦ refl
  | false ↦
      ap (λ (o : Option ℕ). option_map suc o) (place_more ms n q)
      ∙ map_or_else (place_of ms q) (cond (bytes_eq n q) (Some (length ms)) None)
      ∙ ap (λ (o : Option ℕ). or_else (option_map suc (place_of ms q)) o) (map_if (bytes_eq n q) (length ms))
]

some_first : (o p : Option ℕ) → is_some o ≡ true → or_else o p ≡ o
some_first (Some i) p h = refl
some_first None p h = absurd (true≢false (sym h))

pub none_from : (o : Option ℕ) → is_some o ≡ false → o ≡ None
none_from (Some i) h = absurd (true≢false h)
none_from None h = refl

or_none : (o : Option ℕ) → or_else o None ≡ o
or_none (Some i) = refl
or_none None = refl

-- a name that is among the others already
known_more : (ns : List (List ℕ)) (n q : List ℕ) → is_some (place_of ns n) ≡ true → place_of (ns ++ n ∷ []) q ≡ place_of ns q
known_more ns n q h = place_more ns n q ∙ elim (cases_Bool (bytes_eq n q)) [
  | inl y ↦ some_first (place_of ns q) _ (subst (λ (l : List ℕ). is_some (place_of ns l) ≡ true) ((bytes_eq-Decides n q).0 y) h)
  | inr e ↦ rw e (or_none (place_of ns q))
]

-- a name that is not among the others
new_more : (ns : List (List ℕ)) (n q : List ℕ) → place_of ns n ≡ None → place_of (ns ++ n ∷ []) q ≡ cond (bytes_eq n q) (Some (length ns)) (place_of ns q)
new_more ns n q h = place_more ns n q ∙ elim (cases_Bool (bytes_eq n q)) [
  | inl y ↦ let none : place_of ns q ≡ None = subst (λ (l : List ℕ). place_of ns l ≡ None) ((bytes_eq-Decides n q).0 y) h in rw (y, none) refl
  | inr e ↦ rw e (or_none (place_of ns q))
]

-- ---- a map whose keys are bytes

other_entries : {X : Type 0} (eq : Vec ℕ → Vec ℕ → Bool) (test : Vec ℕ → Bool) (old new : List (Vec ℕ × X)) → KeepsOthers eq test old new → (other : Vec ℕ → Bool) → IsKeyTest eq other → AreApart test other → lookup other new ≡ lookup other old
unfolding KeepsOthers
other_entries eq test old new h = h

apart : (bs cs ks : List ℕ) → bytes_eq bs cs ≡ false → is_eq (slice_cmp nat_cmp bs ks) ≡ true → is_eq (slice_cmp nat_cmp cs ks) ≡ false
apart bs cs ks n y =
    let same : bs ≡ ks = (bytes_eq-Decides bs ks).0 (sym (is_eq-slice_cmp bs ks) ∙ y) in
    is_eq-slice_cmp cs ks ∙ elim (cases_Bool (bytes_eq cs ks)) [
      | inl e ↦ absurd (true≢false (sym ((bytes_eq-Decides bs cs).1 (same ∙ sym ((bytes_eq-Decides cs ks).0 e))) ∙ n))
      | inr e ↦ e
    ]

-- what a map has at any bytes, after the value at these bytes is another
pub updates_bytes : {X : Type 0} (bs : List ℕ) (m n : BTreeMap (Vec ℕ) X) (w : Option X) → UpdatesBy (λ x y. slice_cmp nat_cmp x.items y.items) (λ k. slice_cmp nat_cmp bs k.items) m n w
    → (cs : List ℕ) → get_by (λ k. slice_cmp nat_cmp cs k.items) n ≡ cond (bytes_eq bs cs) w (get_by (λ k. slice_cmp nat_cmp cs k.items) m)
updates_bytes bs m n w h cs = elim (cases_Bool (bytes_eq bs cs)) [
  | inl y ↦ rw y (subst (λ (l : List ℕ). get_by (λ k. slice_cmp nat_cmp l k.items) n ≡ w) ((bytes_eq-Decides bs cs).0 y) h.1)
  | inr e ↦ rw e (other_entries _ _ _ _ h.3 _ (λ x y. (eq_by_cmp_equiv nat_list_cmp_total).congr cs x.items y.items) (λ k. apart bs cs k.items e))
]

-- ---- an index, one name further

module _ (vs ws : List (Vec ℕ)) (v : Vec ℕ) (m : BTreeMap (Vec ℕ) ℕ) (index : IsIndex vs m) (more : ws ≡ vs ++ v ∷ []) where
  names_more : map (λ n. n.items) ws ≡ map (λ n. n.items) vs ++ v.items ∷ []
  names_more = ap (λ (l : List (Vec ℕ)). map (λ n. n.items) l) more ∙ map-append (λ n. n.items) vs (v ∷ [])

  pub index_known : is_some (get_by (λ k. slice_cmp nat_cmp v.items k.items) m) ≡ true → IsIndex ws m
  index_known h = λ q. index q ∙ sym (ap (λ (l : List (List ℕ)). place_of l q) names_more ∙ known_more (map (λ n. n.items) vs) v.items q (ap (λ (o : Option ℕ). is_some o) (sym (index v.items)) ∙ h))

  pub index_new : (bs : List ℕ) (p : ℕ) (m' : BTreeMap (Vec ℕ) ℕ) → v.items ≡ bs → p ≡ length vs → get_by (λ k. slice_cmp nat_cmp bs k.items) m ≡ None
      → UpdatesBy (λ x y. slice_cmp nat_cmp x.items y.items) (λ k. slice_cmp nat_cmp bs k.items) m m' (Some p) → IsIndex ws m'
  index_new bs p m' same count h u = λ q.
      let ns : List (List ℕ) = map (λ n. n.items) vs in
      let none : place_of ns v.items ≡ None = sym (index v.items) ∙ ap (λ (l : List ℕ). get_by (λ k. slice_cmp nat_cmp l k.items) m) same ∙ h in
      let long : length ns ≡ p = length-map vs _ ∙ sym count in
      let left : get_by (λ k. slice_cmp nat_cmp q k.items) m' ≡ cond (bytes_eq bs q) (Some p) (place_of ns q) = updates_bytes bs m m' (Some p) u q ∙ ap (λ (o : Option ℕ). cond (bytes_eq bs q) (Some p) o) (index q) in
      let right : place_of (map (λ n. n.items) ws) q ≡ cond (bytes_eq bs q) (Some p) (place_of ns q) = ap (λ (l : List (List ℕ)). place_of l q) names_more ∙ new_more ns v.items q none ∙ rw (same, long) refl in
      left ∙ sym right
