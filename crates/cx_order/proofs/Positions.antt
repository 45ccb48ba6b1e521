-- The changes of an object by their positions.
use Rattle.std.proofs.Common.{◌≡◌, ◌⊎◌, inl, inr, ℕ, zero, suc, ◌+◌, ◌-◌, ◌<◌, ◌≤◌, ◌==◌, ◌&&◌, ◌||◌, Bool, true, false, cond, List, [], ◌∷◌, ◌++◌, length, filter, slice_get, Option, Some, None, refl, sym, ap, ◌∙◌, subst, arith, eqb-true, eq-eqb, length-append, add-one}
use Rattle.std.specs.Prelude.{nat_lt, option_and_then}
use Rattle.std.specs.List.{list_any}
use Rattle.std.proofs.lemmas.Bool.{ltb-true, ltb-false, eqb-false, cases_eq}
use Rattle.cx_names.specs.declared.ObjectNo.{ObjectNo}
use Rattle.cx_machine.specs.declared.kind.Entry.{Entry}
use Rattle.cx_items.specs.declared.item.Item.{Item}
use Rattle.cx_items.specs.declared.item.Item.TheVariants as items
use Rattle.cx_history.specs.Histories.{Recorded, Placed, is_at, items_of, list_of, item_at, change_on, changes_in, changes_from, changes_of}
use Rattle.cx_order.specs.Edges.{completes, arrives, has_at, completed_before}
use Rattle.cx_order.proofs.Walks.{some_is, is_within, there_is}

-- ---- elements

abbrev pub In : {A : Type 0} → List A → A → Type 0
In xs x = (k : ℕ) × (slice_get xs k ≡ Some x)

pub in_head : {A : Type 0} (x : A) (xs : List A) → In (x ∷ xs) x
in_head x xs = (zero, refl)

pub in_tail : {A : Type 0} (y x : A) (xs : List A) → In xs x → In (y ∷ xs) x
in_tail y x xs (k, at_) = (suc k, at_)

pub in_cases : {A : Type 0} (y x : A) (xs : List A) → In (y ∷ xs) x → (y ≡ x) ⊎ In xs x
in_cases y x xs (zero, at_) = inl (some_is y x at_)
in_cases y x xs (suc k, at_) = inr (k, at_)

pub in_nothing : {A : Type 0} (x : A) → In [] x → ⊥
in_nothing x (k, at_) = cc

pub in_left : {A : Type 0} (xs ys : List A) (x : A) → In xs x → In (xs ++ ys) x
in_left [] ys x in_ = absurd (in_nothing x in_)
in_left {A} (z ∷ xs) ys x in_ = by (in_cases z x xs in_) (λ h. in_left xs ys x h)
  where
    by : (z ≡ x) ⊎ In xs x → (In xs x → In (xs ++ ys) x) → In (z ∷ (xs ++ ys)) x
    by (inl e) ih = subst (λ (w : A). In (z ∷ (xs ++ ys)) w) e (in_head z (xs ++ ys))
    by (inr later) ih = in_tail z x (xs ++ ys) (ih later)

pub in_right : {A : Type 0} (xs ys : List A) (x : A) → In ys x → In (xs ++ ys) x
in_right [] ys x in_ = in_
in_right (z ∷ xs) ys x in_ = in_tail z x (xs ++ ys) (in_right xs ys x in_)

pub in_parts : {A : Type 0} (xs ys : List A) (x : A) → In (xs ++ ys) x → In xs x ⊎ In ys x
in_parts [] ys x in_ = inr in_
in_parts {A} (z ∷ xs) ys x in_ = by (in_cases z x (xs ++ ys) in_) (λ h. in_parts xs ys x h)
  where
    later : In xs x ⊎ In ys x → In (z ∷ xs) x ⊎ In ys x
    later (inl l) = inl (in_tail z x xs l)
    later (inr r) = inr r

    by : (z ≡ x) ⊎ In (xs ++ ys) x → (In (xs ++ ys) x → In xs x ⊎ In ys x) → In (z ∷ xs) x ⊎ In ys x
    by (inl e) ih = inl (subst (λ (w : A). In (z ∷ xs) w) e (in_head z xs))
    by (inr rest) ih = later (ih rest)

pub in_at : {A : Type 0} (xs : List A) (k : ℕ) (x : A) → slice_get xs k ≡ Some x → In xs x
in_at xs k x at_ = (k, at_)

pub at_in : {A : Type 0} (xs : List A) (x : A) → In xs x → (k : ℕ) × (slice_get xs k ≡ Some x)
at_in xs x in_ = in_

-- some element passes a test
pub any_in : {A : Type 0} (f : A → Bool) (xs : List A) → list_any f xs ≡ true → (x : A) × In xs x × (f x ≡ true)
any_in f [] h = cc
any_in {A} f (y ∷ ys) h = by (f y) refl h (λ k. any_in f ys k)
  where
    by : (b : Bool) → f y ≡ b → b || list_any f ys ≡ true → (list_any f ys ≡ true → (x : A) × In ys x × (f x ≡ true)) → (x : A) × In (y ∷ ys) x × (f x ≡ true)
    by true e k ih = (y, in_head y ys, e)
    by false e k ih = let w = ih k in (w.0, in_tail y w.0 ys w.1, w.2)

pub in_any : {A : Type 0} (f : A → Bool) (xs : List A) (x : A) → In xs x → f x ≡ true → list_any f xs ≡ true
in_any f [] x in_ h = absurd (in_nothing x in_)
in_any f (y ∷ ys) x in_ h = by (in_cases y x ys in_) (λ k. in_any f ys x k h)
  where
    or_true : (b : Bool) → b || true ≡ true
    or_true true = refl
    or_true false = refl

    by : (y ≡ x) ⊎ In ys x → (In ys x → list_any f ys ≡ true) → f y || list_any f ys ≡ true
    by (inl e) ih = let t : f y ≡ true = ap f e ∙ h in rw t refl
    by (inr later) ih = let t = ih later in rw t (or_true (f y))

-- ---- the changes are the items that change the object

change_in : (o t i : ℕ) (x : Item) (c : Placed) → In (change_on o t i x) c → (q : ObjectNo) × (x ≡ items.Change q c.position c.entry) × (q.0 ≡ o) × (c.thread ≡ t) × (c.item ≡ i)
change_in o t i (items.Change q p e) c in_ = by (q.0 == o) refl in_
  where
    by : (b : Bool) → (q.0 == o) ≡ b → In (cond b (record { position = p; thread = t; item = i; entry = e } ∷ []) []) c → (w : ObjectNo) × (items.Change q p e ≡ items.Change w c.position c.entry) × (w.0 ≡ o) × (c.thread ≡ t) × (c.item ≡ i)
    by true same in_ = one (in_cases (record { position = p; thread = t; item = i; entry = e }) c [] in_)
      where
        one : (record { position = p; thread = t; item = i; entry = e } ≡ c) ⊎ In [] c → (w : ObjectNo) × (items.Change q p e ≡ items.Change w c.position c.entry) × (w.0 ≡ o) × (c.thread ≡ t) × (c.item ≡ i)
        one (inl is) = (q, ap (λ (d : Placed). items.Change q d.position d.entry) is, eqb-true q.0 o same, ap (λ (d : Placed). d.thread) (sym is), ap (λ (d : Placed). d.item) (sym is))
        one (inr in_) = absurd (in_nothing c in_)
    by false same in_ = absurd (in_nothing c in_)
change_in o t i (items.Look q l) c in_ = absurd (in_nothing c in_)
change_in o t i (items.Control d) c in_ = absurd (in_nothing c in_)
change_in o t i (items.Said d) c in_ = absurd (in_nothing c in_)

-- an item of a list by the number of its change
list_change : (o t i : ℕ) (xs : List Item) (c : Placed) → In (changes_in o t i xs) c → (k : ℕ) × (q : ObjectNo) × (slice_get xs k ≡ Some (items.Change q c.position c.entry)) × (q.0 ≡ o) × (c.thread ≡ t)
list_change o t i [] c in_ = absurd (in_nothing c in_)
list_change o t i (x ∷ xs) c in_ = by (in_parts (change_on o t i x) (changes_in o t (i + 1) xs) c in_) (λ h. list_change o t (i + 1) xs c h)
  where
    by : In (change_on o t i x) c ⊎ In (changes_in o t (i + 1) xs) c → (In (changes_in o t (i + 1) xs) c → (k : ℕ) × (q : ObjectNo) × (slice_get xs k ≡ Some (items.Change q c.position c.entry)) × (q.0 ≡ o) × (c.thread ≡ t)) → (k : ℕ) × (q : ObjectNo) × (slice_get (x ∷ xs) k ≡ Some (items.Change q c.position c.entry)) × (q.0 ≡ o) × (c.thread ≡ t)
    by (inl here) ih = let w = change_in o t i x c here in (zero, w.0, ap (λ (y : Item). Some y) w.1, w.2, w.3)
    by (inr later) ih = let w = ih later in (suc w.0, w.1, w.2, w.3, w.4)

lists_change : (o t : ℕ) (ls : List (Option (List Item))) (c : Placed) → In (changes_from o t ls) c → (u k : ℕ) × (l : Option (List Item)) × (q : ObjectNo) × (slice_get ls u ≡ Some l) × (slice_get (items_of l) k ≡ Some (items.Change q c.position c.entry)) × (q.0 ≡ o)
lists_change o t [] c in_ = absurd (in_nothing c in_)
lists_change o t (l ∷ ls) c in_ = by (in_parts (changes_in o t 0 (items_of l)) (changes_from o (t + 1) ls) c in_) (λ h. lists_change o (t + 1) ls c h)
  where
    by : In (changes_in o t 0 (items_of l)) c ⊎ In (changes_from o (t + 1) ls) c → (In (changes_from o (t + 1) ls) c → (u k : ℕ) × (m : Option (List Item)) × (q : ObjectNo) × (slice_get ls u ≡ Some m) × (slice_get (items_of m) k ≡ Some (items.Change q c.position c.entry)) × (q.0 ≡ o)) → (u k : ℕ) × (m : Option (List Item)) × (q : ObjectNo) × (slice_get (l ∷ ls) u ≡ Some m) × (slice_get (items_of m) k ≡ Some (items.Change q c.position c.entry)) × (q.0 ≡ o)
    by (inl here) ih = let w = list_change o t 0 (items_of l) c here in (zero, w.0, l, w.1, refl, w.2, w.3)
    by (inr later) ih = let w = ih later in (suc w.0, w.1, w.2, w.3, w.4, w.5, w.6)

-- a change of an object is an item of the record
pub change_item : (r : Recorded) (o : ℕ) (c : Placed) → In (changes_of r o) c → (t i : ℕ) × (q : ObjectNo) × (item_at r t i ≡ Some (items.Change q c.position c.entry)) × (q.0 ≡ o)
change_item r o c in_ =
    let w = lists_change o 0 r.lists c in_ in
    (w.0, w.1, w.3, ap (λ (m : Option (Option (List Item))). slice_get (items_of (option_and_then (λ y. y) m)) w.1) w.4 ∙ w.5, w.6)

-- and the other way round
item_in_list : (o t i k : ℕ) (xs : List Item) (q : ObjectNo) (p : ℕ) (e : Entry) → q.0 ≡ o → slice_get xs k ≡ Some (items.Change q p e) → (c : Placed) × In (changes_in o t i xs) c × (c.position ≡ p) × (c.entry ≡ e)
item_in_list o t i k [] q p e same at_ = cc
item_in_list o t i zero (x ∷ xs) q p e same at_ =
    let is : x ≡ items.Change q p e = some_is x (items.Change q p e) at_ in
    let put : change_on o t i (items.Change q p e) ≡ record { position = p; thread = t; item = i; entry = e } ∷ [] = let y : (q.0 == o) ≡ true = eq-eqb q.0 o same in rw y refl in
    let c : Placed = record { position = p; thread = t; item = i; entry = e } in
    (c, in_left (change_on o t i x) (changes_in o t (i + 1) xs) c (subst (λ (y : Item). In (change_on o t i y) c) (sym is) (subst (λ (cs : List Placed). In cs c) (sym put) (in_head c []))), refl, refl)
item_in_list o t i (suc k) (x ∷ xs) q p e same at_ =
    let w = item_in_list o t (i + 1) k xs q p e same at_ in
    (w.0, in_right (change_on o t i x) (changes_in o t (i + 1) xs) w.0 w.1, w.2, w.3)

item_in_lists : (o t u k : ℕ) (ls : List (Option (List Item))) (l : Option (List Item)) (q : ObjectNo) (p : ℕ) (e : Entry) → q.0 ≡ o → slice_get ls u ≡ Some l → slice_get (items_of l) k ≡ Some (items.Change q p e) → (c : Placed) × In (changes_from o t ls) c × (c.position ≡ p) × (c.entry ≡ e)
item_in_lists o t u k [] l q p e same at_l at_ = cc
item_in_lists o t zero k (m ∷ ls) l q p e same at_l at_ =
    let is : m ≡ l = some_is m l at_l in
    let w = item_in_list o t 0 k (items_of m) q p e same (subst (λ (n : Option (List Item)). slice_get (items_of n) k ≡ Some (items.Change q p e)) (sym is) at_) in
    (w.0, in_left (changes_in o t 0 (items_of m)) (changes_from o (t + 1) ls) w.0 w.1, w.2, w.3)
item_in_lists o t (suc u) k (m ∷ ls) l q p e same at_l at_ =
    let w = item_in_lists o (t + 1) u k ls l q p e same at_l at_ in
    (w.0, in_right (changes_in o t 0 (items_of m)) (changes_from o (t + 1) ls) w.0 w.1, w.2, w.3)

pub item_change : (r : Recorded) (o t i : ℕ) (q : ObjectNo) (p : ℕ) (e : Entry) → q.0 ≡ o → item_at r t i ≡ Some (items.Change q p e) → (c : Placed) × In (changes_of r o) c × (c.position ≡ p) × (c.entry ≡ e)
item_change r o t i q p e same at_ = by (slice_get r.lists t) refl at_
  where
    by : (m : Option (Option (List Item))) → slice_get r.lists t ≡ m → slice_get (items_of (option_and_then (λ y. y) m)) i ≡ Some (items.Change q p e) → (c : Placed) × In (changes_of r o) c × (c.position ≡ p) × (c.entry ≡ e)
    by None none here = cc
    by (Some l) there here = item_in_lists o 0 t i r.lists l q p e same there here

-- ---- positions

abbrev below : ℕ → List Placed → ℕ
below m cs = length (filter (λ c. nat_lt c.position m) cs)

abbrev held : ℕ → List Placed → ℕ
held m cs = length (filter (is_at m) cs)

below_suc : (m : ℕ) (cs : List Placed) → below (suc m) cs ≡ below m cs + held m cs
below_suc m [] = omega arith
below_suc m (c ∷ cs) = let rest = below_suc m cs in by (nat_lt c.position m) (c.position == m) (nat_lt c.position (suc m)) refl refl refl rest
  where
    by : (a b d : Bool) → nat_lt c.position m ≡ a → (c.position == m) ≡ b → nat_lt c.position (suc m) ≡ d → length (filter (λ e. nat_lt e.position (suc m)) cs) ≡ length (filter (λ e. nat_lt e.position m) cs) + length (filter (is_at m) cs)
        → length (filter (λ e. nat_lt e.position (suc m)) (c ∷ cs)) ≡ length (filter (λ e. nat_lt e.position m) (c ∷ cs)) + length (filter (is_at m) (c ∷ cs))
    by true true d ha hb hd rest = let x = ltb-true c.position m ha in let y = eqb-true c.position m hb in absurd (omega arith)
    by true false true ha hb hd rest = rw hd (rw ha (rw hb (omega (arith, rest))))
    by true false false ha hb hd rest = let x = ltb-true c.position m ha in let y = ltb-false c.position (suc m) hd in absurd (omega arith)
    by false true true ha hb hd rest = rw hd (rw ha (rw hb (omega (arith, rest))))
    by false true false ha hb hd rest = let x = eqb-true c.position m hb in let y = ltb-false c.position (suc m) hd in absurd (omega arith)
    by false false true ha hb hd rest = let x = ltb-false c.position m ha in let y = eqb-false c.position m hb in let z = ltb-true c.position (suc m) hd in absurd (omega arith)
    by false false false ha hb hd rest = rw hd (rw ha (rw hb rest))

none_below : (ds : List Placed) → length (filter (λ c. nat_lt c.position 0) ds) ≡ 0
none_below [] = refl
none_below (d ∷ ds) = by (nat_lt d.position 0) refl (none_below ds)
  where
    by : (b : Bool) → nat_lt d.position 0 ≡ b → length (filter (λ c. nat_lt c.position 0) ds) ≡ 0 → length (cond b (d ∷ filter (λ c. nat_lt c.position 0) ds) (filter (λ c. nat_lt c.position 0) ds)) ≡ 0
    by true h ih = let x = ltb-true d.position 0 h in absurd (omega arith)
    by false h ih = ih

below_all : (cs : List Placed) → ((k : ℕ) → k < length cs → held k cs ≡ 1) → (m : ℕ) → m ≤ length cs → below m cs ≡ m
below_all cs once zero within = none_below cs
below_all cs once (suc m) within = let a = below_suc m cs in let b = below_all cs once m (omega arith) in let c = once m (omega arith) in omega (arith, a, b, c)

at_most : (f : Placed → Bool) (es : List Placed) → length (filter f es) ≤ length es
at_most f [] = omega arith
at_most f (e ∷ es) = let rest = at_most f es in go (f e) rest
  where
    go : (b : Bool) → length (filter f es) ≤ length es → length (cond b (e ∷ filter f es) (filter f es)) ≤ suc (length es)
    go true rest = omega arith
    go false rest = omega arith

all_pass : (f : Placed → Bool) (cs : List Placed) (c : Placed) → length (filter f cs) ≡ length cs → In cs c → f c ≡ true
all_pass f [] c full in_ = absurd (in_nothing c in_)
all_pass f (d ∷ ds) c full in_ = by (f d) refl full (λ k h. all_pass f ds c k h)
  where
    here : f d ≡ true → length (filter f ds) ≡ length ds → (d ≡ c) ⊎ In ds c → (length (filter f ds) ≡ length ds → In ds c → f c ≡ true) → f c ≡ true
    here t full (inl e) ih = ap f (sym e) ∙ t
    here t full (inr later) ih = ih full later

    by : (b : Bool) → f d ≡ b → length (cond b (d ∷ filter f ds) (filter f ds)) ≡ suc (length ds) → (length (filter f ds) ≡ length ds → In ds c → f c ≡ true) → f c ≡ true
    by true t h ih = here t (omega arith) (in_cases d c ds in_) ih
    by false t h ih = let m = at_most f ds in absurd (omega arith)

-- where each number below the number of changes is held once, no change stands further
pub positions_below : (cs : List Placed) → ((k : ℕ) → k < length cs → length (filter (is_at k) cs) ≡ 1) → (c : Placed) → In cs c → c.position < length cs
positions_below cs once c in_ = let full = below_all cs once (length cs) (omega arith) in ltb-true c.position (length cs) (all_pass (λ d. nat_lt d.position (length cs)) cs c full in_)

-- and some change holds each number before it
pub held_by : (cs : List Placed) (k : ℕ) → length (filter (is_at k) cs) ≡ 1 → (c : Placed) × In cs c × (c.position ≡ k)
held_by [] k once = absurd (omega arith)
held_by (d ∷ ds) k once = by (d.position == k) refl once (λ h. held_by ds k h)
  where
    by : (b : Bool) → (d.position == k) ≡ b → length (cond b (d ∷ filter (is_at k) ds) (filter (is_at k) ds)) ≡ 1 → (length (filter (is_at k) ds) ≡ 1 → (c : Placed) × In ds c × (c.position ≡ k)) → (c : Placed) × In (d ∷ ds) c × (c.position ≡ k)
    by true h one ih = (d, in_head d ds, eqb-true d.position k h)
    by false h one ih = let w = ih one in (w.0, in_tail d w.0 ds w.1, w.2)

-- ---- how many completed

abbrev cnt : List Placed → ℕ → ℕ
cnt cs p = length (filter (λ c. completes c.entry.op && nat_lt c.position p) cs)

abbrev has : List Placed → ℕ → Bool
has cs p = list_any (λ c. completes c.entry.op && (c.position == p)) cs

cnt_suc : (cs : List Placed) (p : ℕ) → has cs p ≡ false → cnt cs (suc p) ≡ cnt cs p
cnt_suc [] p h = refl
cnt_suc (c ∷ cs) p h = by (completes c.entry.op) (nat_lt c.position p) (c.position == p) (nat_lt c.position (suc p)) refl refl refl refl h (λ k. cnt_suc cs p k)
  where
    by : (a b d e : Bool) → completes c.entry.op ≡ a → nat_lt c.position p ≡ b → (c.position == p) ≡ d → nat_lt c.position (suc p) ≡ e → (completes c.entry.op && (c.position == p)) || list_any (λ x. completes x.entry.op && (x.position == p)) cs ≡ false
        → (list_any (λ x. completes x.entry.op && (x.position == p)) cs ≡ false → length (filter (λ x. completes x.entry.op && nat_lt x.position (suc p)) cs) ≡ length (filter (λ x. completes x.entry.op && nat_lt x.position p) cs))
        → length (filter (λ x. completes x.entry.op && nat_lt x.position (suc p)) (c ∷ cs)) ≡ length (filter (λ x. completes x.entry.op && nat_lt x.position p) (c ∷ cs))
    by false b d e ha hb hd he h ih = rw ha (ih (rw ha at h))
    by true b true e ha hb hd he h ih = absurd (let k = rw (ha, hd) at h in true_not_false k)
      where
        true_not_false : true ≡ false → ⊥
        true_not_false q = cc
    by true true false true ha hb hd he h ih = rw ha (rw (hb, he) (ap suc (ih (rw (ha, hd) at h))))
    by true true false false ha hb hd he h ih = let x = ltb-true c.position p hb in let y = ltb-false c.position (suc p) he in absurd (omega arith)
    by true false false true ha hb hd he h ih = let x = ltb-false c.position p hb in let y = eqb-false c.position p hd in let z = ltb-true c.position (suc p) he in absurd (omega arith)
    by true false false false ha hb hd he h ih = rw ha (rw (hb, he) (ih (rw (ha, hd) at h)))

cnt_up : (cs : List Placed) (p : ℕ) → cnt cs p ≤ cnt cs (suc p)
cnt_up [] p = omega arith
cnt_up (c ∷ cs) p = let rest = cnt_up cs p in by (completes c.entry.op) (nat_lt c.position p) (nat_lt c.position (suc p)) refl refl refl rest
  where
    by : (a b e : Bool) → completes c.entry.op ≡ a → nat_lt c.position p ≡ b → nat_lt c.position (suc p) ≡ e → length (filter (λ x. completes x.entry.op && nat_lt x.position p) cs) ≤ length (filter (λ x. completes x.entry.op && nat_lt x.position (suc p)) cs)
        → length (filter (λ x. completes x.entry.op && nat_lt x.position p) (c ∷ cs)) ≤ length (filter (λ x. completes x.entry.op && nat_lt x.position (suc p)) (c ∷ cs))
    by false b e ha hb he rest = rw ha rest
    by true true true ha hb he rest = rw ha (rw (hb, he) (omega (arith, rest)))
    by true true false ha hb he rest = let x = ltb-true c.position p hb in let y = ltb-false c.position (suc p) he in absurd (omega arith)
    by true false true ha hb he rest = rw ha (rw (hb, he) (omega (arith, rest)))
    by true false false ha hb he rest = rw ha (rw (hb, he) rest)

cnt_more : (cs : List Placed) (p : ℕ) → has cs p ≡ true → cnt cs p < cnt cs (suc p)
cnt_more [] p h = cc
cnt_more (c ∷ cs) p h = let up = cnt_up cs p in by (completes c.entry.op) (nat_lt c.position p) (c.position == p) (nat_lt c.position (suc p)) refl refl refl refl h up (λ k. cnt_more cs p k)
  where
    by : (a b d e : Bool) → completes c.entry.op ≡ a → nat_lt c.position p ≡ b → (c.position == p) ≡ d → nat_lt c.position (suc p) ≡ e → (completes c.entry.op && (c.position == p)) || list_any (λ x. completes x.entry.op && (x.position == p)) cs ≡ true
        → length (filter (λ x. completes x.entry.op && nat_lt x.position p) cs) ≤ length (filter (λ x. completes x.entry.op && nat_lt x.position (suc p)) cs)
        → (list_any (λ x. completes x.entry.op && (x.position == p)) cs ≡ true → length (filter (λ x. completes x.entry.op && nat_lt x.position p) cs) < length (filter (λ x. completes x.entry.op && nat_lt x.position (suc p)) cs))
        → length (filter (λ x. completes x.entry.op && nat_lt x.position p) (c ∷ cs)) < length (filter (λ x. completes x.entry.op && nat_lt x.position (suc p)) (c ∷ cs))
    by false b d e ha hb hd he h up ih = rw ha (ih (rw ha at h))
    by true true true e ha hb hd he h up ih = let x = ltb-true c.position p hb in let y = eqb-true c.position p hd in absurd (omega arith)
    by true false true true ha hb hd he h up ih = rw ha (rw (hb, he) (omega (arith, up)))
    by true false true false ha hb hd he h up ih = let x = eqb-true c.position p hd in let y = ltb-false c.position (suc p) he in absurd (omega arith)
    by true true false true ha hb hd he h up ih = let i = ih (rw (ha, hd) at h) in rw ha (rw (hb, he) (omega (arith, i)))
    by true true false false ha hb hd he h up ih = let x = ltb-true c.position p hb in let y = ltb-false c.position (suc p) he in absurd (omega arith)
    by true false false true ha hb hd he h up ih = let x = ltb-false c.position p hb in let y = eqb-false c.position p hd in let z = ltb-true c.position (suc p) he in absurd (omega arith)
    by true false false false ha hb hd he h up ih = let i = ih (rw (ha, hd) at h) in rw ha (rw (hb, he) i)

module _ (r : Recorded) (o : ℕ) where
  pub completed_suc : (p : ℕ) → has_at r o completes p ≡ false → completed_before r o (p + 1) ≡ completed_before r o p
  completed_suc p h = rw add-one (cnt_suc (changes_of r o) p h)

  pub completed_more : (p : ℕ) → has_at r o completes p ≡ true → completed_before r o p < completed_before r o (p + 1)
  completed_more p h = rw add-one (cnt_more (changes_of r o) p h)

  pub completed_rises : (p d : ℕ) → completed_before r o p ≤ completed_before r o (p + d)
  completed_rises p zero = let e : completed_before r o (p + 0) ≡ completed_before r o p = ap (completed_before r o) (omega arith) in omega (arith, e)
  completed_rises p (suc d) =
      let rest = completed_rises p d in
      let up : completed_before r o (p + d) ≤ completed_before r o (suc (p + d)) = cnt_up (changes_of r o) (p + d) in
      let e : completed_before r o (p + suc d) ≡ completed_before r o (suc (p + d)) = ap (completed_before r o) (omega arith) in
      omega (arith, rest, up, e)

  pub completed_up : (p q : ℕ) → p ≤ q → completed_before r o p ≤ completed_before r o q
  completed_up p q le = let gap : p + (q - p) ≡ q = omega arith in subst (λ (n : ℕ). completed_before r o p ≤ completed_before r o n) gap (completed_rises p (q - p))

  -- none in between: the same number
  pub completed_same : (p d : ℕ) → ((k : ℕ) → p ≤ k → k < p + d → has_at r o completes k ≡ false) → completed_before r o p ≡ completed_before r o (p + d)
  completed_same p zero none = ap (completed_before r o) (omega arith)
  completed_same p (suc d) none =
      let rest = completed_same p d (λ k low high. none k low (omega arith)) in
      let one = completed_suc (p + d) (none (p + d) (omega arith) (omega arith)) in
      let e : completed_before r o (p + suc d) ≡ completed_before r o (p + d + 1) = ap (completed_before r o) (omega arith) in
      omega (arith, rest, one, e)
