-- A run whose threads have all come gives a record that is right.
use Rattle.std.proofs.Common.{◌≡◌, ℕ, zero, suc, ◌<◌, ◌≤◌, ◌==◌, Bool, true, false, List, [], ◌∷◌, ◌++◌, map, length, slice_get, Option, Some, None, option_and_then, refl, sym, ap, ◌∙◌, subst, arith, if◌then◌else◌, eqb-true}
use Rattle.std.proofs.lemmas.Bool.{eqb-false}
use Rattle.cx_scene.specs.Scene.{Scene}
use Rattle.cx_items.specs.declared.item.Item.{Item}
use Rattle.cx_history.specs.Histories.{items_of, list_of}
use Rattle.cx_history.specs.Follows.{any_starts, has_started}
use Rattle.cx_fronts.specs.Positions.{positions}
use Rattle.cx_fronts.specs.Paths.{Fronts, nothing, none_own, Moved, Path, AreItems}
use Rattle.cx_fronts.specs.Growing.{any_joins}
use Rattle.cx_fronts.specs.Mains.{Joined, Finished, Ending}
use Rattle.cx_fronts.specs.Runs.{FromPasses, IsRight, KeepsText}
use Rattle.cx_fronts.proofs.Lists.{not_equal}
use Rattle.cx_fronts.proofs.Heart.{stays, no_more}
use Rattle.cx_fronts.proofs.Mained.{path-same}
use Rattle.cx_fronts.proofs.Right.{runs_are_right, items_none}
use Rattle.cx_kinds.specs.Accesses.{RunObject}
use Rattle.cx_kinds.specs.declared.access.Access.{Access}
use Rattle.cx_run.specs.declared.place.Place.{Place}
use Rattle.cx_run.specs.declared.place.Place.TheVariants as places
use Rattle.cx_run.specs.Handing.{HaveTaken}
use Rattle.cx_run.specs.Runs.{HasCome, IsPlace, IsWholeList, RunOf, AreSettled, has_come, list_at, record_of}

list_there : {G : Type 0} (others : List (Place G)) (i : ℕ) (p : Place G) → slice_get others i ≡ Some p → slice_get (map list_at others) i ≡ Some (list_at p)
list_there [] i p h = cc h
list_there (q ∷ others) zero p h = let same : q ≡ p = cc in ap (λ z. Some (list_at z)) same
list_there (q ∷ others) (suc i) p h = list_there others i p h

list_gone : {G : Type 0} (others : List (Place G)) (i : ℕ) → slice_get others i ≡ None → slice_get (map list_at others) i ≡ None
list_gone [] i h = refl
list_gone (q ∷ others) zero h = cc h
list_gone (q ∷ others) (suc i) h = list_gone others i h

low : {A : Type 0} (xs : List A) (i : ℕ) → slice_get xs i ≡ None → length xs ≤ i
low [] i h = omega arith
low (x ∷ xs) zero h = cc h
low (x ∷ xs) (suc i) h = omega (arith, low xs i h)

pub high : {A : Type 0} (xs : List A) (i : ℕ) → i < length xs → (x : A) × (slice_get xs i ≡ Some x)
high [] i h = absurd (omega (arith, h))
high (x ∷ xs) zero h = (x, refl)
high (x ∷ xs) (suc i) h = high xs i (omega (arith, h))

module _ {G : Type 0} (s : Scene) (xs : List RunObject) (list : List Item) (accesses : List Access) (others : List (Place G)) (r : RunOf s xs list accesses others) (come : (i : ℕ) (p : Place G) → slice_get others i ≡ Some p → has_come p ≡ true) (settled : AreSettled s accesses r.f (length others)) where
  list_in : (i : ℕ) (p : Place G) → slice_get others i ≡ Some p → list_of (record_of s list others) (suc i) ≡ items_of (list_at p)
  list_in i p at = ap (λ (o : Option (Option (List Item))). items_of (option_and_then (λ l. l) o)) (list_there others i p at)

  empty_in : (i : ℕ) → slice_get others i ≡ None → list_of (record_of s list others) (suc i) ≡ []
  empty_in i at = ap (λ (o : Option (Option (List Item))). items_of (option_and_then (λ l. l) o)) (list_gone others i at)

  never : (i : ℕ) → length others ≤ i → (b : Bool) → any_starts (suc i) list ≡ b → b ≡ false
  never i above false k = refl
  never i above true k = let was = r.started (suc i) k in absurd (omega (arith, above, was.1))

  unmoved : (u : ℕ) (h : Fronts) → ((o : ℕ) → positions u 0 (r.f o) ≡ positions u 0 (h o)) → (o : ℕ) → positions u 0 (r.f o) ≡ positions u 0 (h o) ++ none_own o
  unmoved u h same o = same o ∙ sym (no_more (positions u 0 (h o)))

  -- where a thread ended that main's list doesn't join, with the list of its whole body
  record Closing (t : ℕ) (started joined : Bool) (ys : List Item) : Type 0 where
    ending : Ending s t started joined ys (r.first t) r.f
    whole : joined ≡ false → started ≡ true → IsWholeList s t ending.ended ys

  -- where a thread that has come ended
  come_end : (i : ℕ) (ys : List Item) (b : Bool) → any_starts (suc i) list ≡ true → HasCome s (suc i) b (r.first (suc i)) (r.last (suc i)) (r.lists (suc i)) ys accesses r.f → Closing (suc i) true b ys
  come_end i ys true started c = record { ending = record { begun = r.f; ended = r.f; finished = λ ne k. cc k }; whole = λ k. cc k }
  come_end i ys false started c = record {
    ending = record {
      begun = r.f;
      ended = c.0;
      finished = λ ne k. record { unused = r.main.clean (suc i) started; made = c.1.made; taken = record { grows = c.1.grows; mine = unmoved (suc i) c.0 (settled.gone (suc i) c.0 c.1.grows c.1.taken) } };
    };
    whole = λ k st. c.1.list;
  }

  place_end : (i : ℕ) (p : Place G) → has_come p ≡ true → IsPlace s xs r.first r.last r.lists list accesses r.f (suc i) p → Closing (suc i) (any_starts (suc i) list) (any_joins (suc i) list) (items_of (list_at p))
  place_end i (places.Waiting w) h q = cc h
  place_end i (places.Running thread) h q = cc h
  place_end i (places.Ended ys) h q = subst (λ (b : Bool). Closing (suc i) b (any_joins (suc i) list) ys.items) (sym q.0) (come_end i ys.items (any_joins (suc i) list) q.0 q.1)
  place_end i places.Idle h q = subst (λ (b : Bool). Closing (suc i) b (any_joins (suc i) list) []) (sym q.0) (record {
    ending = record {
      begun = q.1.h;
      ended = q.1.h;
      finished = λ ne k. record { unused = q.1.fresh; made = λ firsts lasts. stays (suc i) q.1.h; taken = record { grows = q.1.grows; mine = unmoved (suc i) q.1.h (settled.gone (suc i) q.1.h q.1.grows q.1.taken) } };
    };
    whole = λ k st. cc st;
  })

  closing : (t : ℕ) → Closing t (any_starts t list) (any_joins t list) (list_of (record_of s list others) t)
  closing zero = record { ending = record { begun = r.f; ended = r.f; finished = λ ne. absurd (ne refl) }; whole = λ k st. let was = r.started 0 st in absurd (omega (arith, was.0)) }
  closing (suc i) = go (slice_get others i) refl
    where
      go : (p : Option (Place G)) → slice_get others i ≡ p → Closing (suc i) (any_starts (suc i) list) (any_joins (suc i) list) (list_of (record_of s list others) (suc i))
      go None at =
          let far = low others i at in
          subst (λ (ys : List Item). Closing (suc i) (any_starts (suc i) list) (any_joins (suc i) list) ys) (sym (empty_in i at))
          (subst (λ (b : Bool). Closing (suc i) b (any_joins (suc i) list) []) (sym (never i far (any_starts (suc i) list) refl))
          (record {
            ending = record { begun = r.f; ended = r.f; finished = λ ne k. record { unused = settled.above (suc i) (omega (arith, far)); made = λ firsts lasts. stays (suc i) r.f; taken = stays (suc i) r.f } };
            whole = λ k st. cc st;
          }))
      go (Some p) at = subst (λ (ys : List Item). Closing (suc i) (any_starts (suc i) list) (any_joins (suc i) list) ys) (sym (list_in i p at)) (place_end i p (come i p at) (r.places i p at))

  ending : (t : ℕ) → Ending s t (any_starts t list) (any_joins t list) (list_of (record_of s list others) t) (r.first t) r.f
  ending t = (closing t).ending

  -- main's list tells of the join of a thread that ended
  record AtJoin (i : ℕ) : Type 0 where
    ys : List Item
    list_is : list_of (record_of s list others) (suc i) ≡ ys
    kept : r.lists (suc i) ≡ ys
    taken : HaveTaken accesses (suc i) (r.last (suc i))
    whole : IsWholeList s (suc i) (r.last (suc i)) ys

  at_join : (t : ℕ) → any_joins t list ≡ true → (i : ℕ) → t ≡ suc i → AtJoin i
  at_join t joined i is = go (high others i (omega (arith, (r.started t (r.main.started t joined)).1, is)))
    where
      yes_ : any_joins (suc i) list ≡ true
      yes_ = subst (λ n. any_joins n list ≡ true) is joined

      started_ : any_starts (suc i) list ≡ true
      started_ = r.main.started (suc i) yes_

      at_place : (p : Place G) → slice_get others i ≡ Some p → has_come p ≡ true → IsPlace s xs r.first r.last r.lists list accesses r.f (suc i) p → AtJoin i
      at_place (places.Waiting w) at h q = cc h
      at_place (places.Running thread) at h q = cc h
      at_place (places.Ended ys) at h q =
          let c : HasCome s (suc i) true (r.first (suc i)) (r.last (suc i)) (r.lists (suc i)) ys.items accesses r.f = subst (λ (b : Bool). HasCome s (suc i) b (r.first (suc i)) (r.last (suc i)) (r.lists (suc i)) ys.items accesses r.f) yes_ q.1 in
          record { ys = ys.items; list_is = list_in i (places.Ended ys) at; kept = c.0; taken = c.1; whole = c.2 }
      at_place places.Idle at h q = let no_ = q.0 in cc (no_, started_)

      go : (p : Place G) × (slice_get others i ≡ Some p) → AtJoin i
      go p = at_place p.0 p.1 (come i p.0 p.1) (r.places i p.0 p.1)

  gone_ : (t : ℕ) → any_joins t list ≡ true → (o : ℕ) → positions t 0 (r.f o) ≡ positions t 0 (r.last t o)
  gone_ zero joined o = let was = r.started 0 (r.main.started 0 joined) in absurd (omega (arith, was.0))
  gone_ (suc i) joined o = settled.gone (suc i) (r.last (suc i)) (r.main.joined (suc i) joined).taken (at_join (suc i) joined i refl).taken o

  joined_ : (t : ℕ) → any_joins t list ≡ true → Joined s t (r.first t) (r.last t) (list_of (record_of s list others) t) r.f
  joined_ zero joined = let was = r.started 0 (r.main.started 0 joined) in absurd (omega (arith, was.0))
  joined_ (suc i) joined =
      let j = at_join (suc i) joined i refl in
      subst (λ (ys : List Item). Joined s (suc i) (r.first (suc i)) (r.last (suc i)) ys r.f) (j.kept ∙ sym j.list_is) (r.main.joined (suc i) joined)

  -- what threads begin and end with
  abbrev firsts : ℕ → Fronts
  firsts t = if t == 0 then nothing else (if any_starts t list then r.first t else (ending t).begun)

  abbrev lasts : ℕ → Fronts
  lasts t = if t == 0 then r.f else (if any_joins t list then r.last t else (ending t).ended)

  first_same : (u : ℕ) → any_starts u list ≡ true → r.first u ≡ firsts u
  first_same u h =
      let was = r.started u h in
      let apart : (u == 0) ≡ false = not_equal u 0 (λ e. omega (arith, e, was.0)) in
      rw (apart, h) refl

  last_same : (u : ℕ) → any_joins u list ≡ true → r.last u ≡ lasts u
  last_same u h =
      let was = r.started u (r.main.started u h) in
      let apart : (u == 0) ≡ false = not_equal u 0 (λ e. omega (arith, e, was.0)) in
      rw (apart, h) refl

  finished : (t : ℕ) → (t ≡ 0 → ⊥) → Finished s t (list_of (record_of s list others) t) (if any_starts t list then r.first t else (ending t).begun) (if any_joins t list then r.last t else (ending t).ended) r.f
  finished t ne = go (any_joins t list) refl
    where
      go : (b : Bool) → any_joins t list ≡ b → Finished s t (list_of (record_of s list others) t) (if any_starts t list then r.first t else (ending t).begun) (if b then r.last t else (ending t).ended) r.f
      go true q =
          let j = joined_ t q in
          subst (λ (b : Bool). Finished s t (list_of (record_of s list others) t) (if b then r.first t else (ending t).begun) (r.last t) r.f) (sym (r.main.started t q))
          (record { unused = r.main.clean t (r.main.started t q); made = j.made; taken = record { grows = j.taken; mine = λ o. gone_ t q o ∙ sym (no_more (positions t 0 (r.last t o))) } })
      go false q = (ending t).finished ne q

  pub passes : FromPasses s (record_of s list others)
  passes = record {
    first = firsts;
    last = lasts;
    legal = settled.legal;
    paths = λ t. path_ t (t == 0) refl;
    unused = λ t o. unused_ t o (t == 0) refl;
    taken = λ t. taken_ t (t == 0) refl;
  }
    where
      path_ : (t : ℕ) (b : Bool) → (t == 0) ≡ b → Path s firsts lasts t (if b then nothing else (if any_starts t list then r.first t else (ending t).begun)) (list_of (record_of s list others) t) (if b then r.f else (if any_joins t list then r.last t else (ending t).ended))
      path_ t true k = subst (λ n. Path s firsts lasts n nothing (list_of (record_of s list others) n) r.f) (sym (eqb-true t 0 k)) (path-same s r.first r.last firsts lasts 0 nothing r.f list first_same last_same r.main.path)
      path_ t false k = (finished t (eqb-false t 0 k)).made firsts lasts

      unused_ : (t o : ℕ) (b : Bool) → (t == 0) ≡ b → positions t 0 ((if b then nothing else (if any_starts t list then r.first t else (ending t).begun)) o) ≡ []
      unused_ t o true k = refl
      unused_ t o false k = (finished t (eqb-false t 0 k)).unused o

      taken_ : (t : ℕ) (b : Bool) → (t == 0) ≡ b → Moved t (if b then r.f else (if any_joins t list then r.last t else (ending t).ended)) r.f none_own
      taken_ t true k = stays t r.f
      taken_ t false k = (finished t (eqb-false t 0 k)).taken

  -- ---- the texts

  none_there : (i : ℕ) (l : Option (List Item)) → slice_get (map list_at others) i ≡ Some l → (p : Place G) × (slice_get others i ≡ Some p) × (l ≡ list_at p)
  none_there i l h = go others i h
    where
      go : (ps : List (Place G)) (i : ℕ) → slice_get (map list_at ps) i ≡ Some l → (p : Place G) × (slice_get ps i ≡ Some p) × (l ≡ list_at p)
      go [] i k = cc k
      go (p ∷ ps) zero k = let same : list_at p ≡ l = cc in (p, refl, sym same)
      go (p ∷ ps) (suc i) k = go ps i k

  has_it : (i : ℕ) (b : Bool) → any_starts (suc i) list ≡ b → has_started (record_of s list others) (suc i) ≡ b
  has_it i b h = let apart : (suc i == 0) ≡ false = not_equal (suc i) 0 (λ e. omega (arith, e)) in rw apart h

  -- the list of a thread that was started, by what it had seen at its end
  whole_last : (i : ℕ) (b : Bool) → any_joins (suc i) list ≡ b → any_starts (suc i) list ≡ true → IsWholeList s (suc i) (if b then r.last (suc i) else (ending (suc i)).ended) (list_of (record_of s list others) (suc i))
  unfolding ending
  whole_last i true joined started = let j = at_join (suc i) joined i refl in subst (λ (ys : List Item). IsWholeList s (suc i) (r.last (suc i)) ys) (sym j.list_is) j.whole
  whole_last i false joined started = (closing (suc i)).whole joined started

  whole_in : (i : ℕ) (ys : List Item) → list_of (record_of s list others) (suc i) ≡ ys → any_starts (suc i) list ≡ true → IsWholeList s (suc i) (lasts (suc i)) ys
  whole_in i ys is started =
      let apart : (suc i == 0) ≡ false = not_equal (suc i) 0 (λ e. omega (arith, e)) in
      rw apart (subst (λ (zs : List Item). IsWholeList s (suc i) (if any_joins (suc i) list then r.last (suc i) else (ending (suc i)).ended) zs) is (whole_last i (any_joins (suc i) list) refl started))

  text_of : (i : ℕ) (p : Place G) → slice_get others i ≡ Some p → has_come p ≡ true → IsPlace s xs r.first r.last r.lists list accesses r.f (suc i) p → KeepsText s (record_of s list others) (suc i) (lasts (suc i)) (list_at p)
  text_of i (places.Waiting w) at h q = cc h
  text_of i (places.Running thread) at h q = cc h
  text_of i (places.Ended ys) at h q = (has_it i true q.0, (whole_in i ys.items (list_in i (places.Ended ys) at) q.0).whole)
  text_of i places.Idle at h q = has_it i false q.0

  formed_of : (i : ℕ) (p : Place G) → slice_get others i ≡ Some p → has_come p ≡ true → IsPlace s xs r.first r.last r.lists list accesses r.f (suc i) p → AreItems s (suc i) (items_of (list_at p))
  formed_of i (places.Waiting w) at h q = cc h
  formed_of i (places.Running thread) at h q = cc h
  formed_of i (places.Ended ys) at h q = (whole_in i ys.items (list_in i (places.Ended ys) at) q.0).formed
  formed_of i places.Idle at h q = items_none s (suc i)

  module _ (own : IsWholeList s 0 r.f list) where
    text_in : (t : ℕ) (l : Option (List Item)) → slice_get (Some list ∷ map list_at others) t ≡ Some l → KeepsText s (record_of s list others) t (lasts t) l
    text_in zero l h =
        let same : Some list ≡ l = cc in
        subst (λ (v : Option (List Item)). KeepsText s (record_of s list others) 0 (lasts 0) v) same (refl, own.whole)
    text_in (suc i) l h =
        let p = none_there i l h in
        subst (λ (v : Option (List Item)). KeepsText s (record_of s list others) (suc i) (lasts (suc i)) v) (sym p.2) (text_of i p.0 p.1 (come i p.0 p.1) (r.places i p.0 p.1))

    formed_in : (t : ℕ) → AreItems s t (list_of (record_of s list others) t)
    formed_in zero = own.formed
    formed_in (suc i) = go (slice_get others i) refl
      where
        go : (p : Option (Place G)) → slice_get others i ≡ p → AreItems s (suc i) (list_of (record_of s list others) (suc i))
        go None at = subst (λ (ys : List Item). AreItems s (suc i) ys) (sym (empty_in i at)) (items_none s (suc i))
        go (Some p) at = subst (λ (ys : List Item). AreItems s (suc i) ys) (sym (list_in i p at)) (formed_of i p at (come i p at) (r.places i p at))

    count_in : length (Some list ∷ map list_at others) ≡ length s.threads
    count_in = ap suc (long others) ∙ r.count
      where
        long : (ps : List (Place G)) → length (map list_at ps) ≡ length ps
        long [] = refl
        long (p ∷ ps) = ap suc (long ps)

    -- the record of such a run is right, and main's fronts are its histories
    pub run_is_right : IsRight s (record_of s list others) r.f
    unfolding passes
    run_is_right = runs_are_right s (record_of s list others) (record { passes = passes; version = refl; count = count_in; texts = text_in; formed = formed_in })
