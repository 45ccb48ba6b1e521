-- What a report says of a variable, access by access.
use Rattle.std.proofs.Common.{◌≡◌, ◌⊎◌, inl, inr, ℕ, zero, suc, ◌+◌, ◌<◌, ◌≤◌, ◌-◌, ◌&&◌, not, Bool, true, false, List, [], ◌∷◌, ◌++◌, length, set, slice_get, Option, Some, None, refl, sym, ap, ◌∙◌, subst, arith}
use Rattle.std.specs.List.Sorted.{IsPermutation}
use Rattle.std.proofs.lemmas.List.Sorted.{IsPermutation-sym}
use Rattle.cx_scene.specs.Scene.{Scene}
use Rattle.cx_history.specs.Histories.{Recorded}
use Rattle.cx_graph.proofs.Numbers.{dec_eq}
use Rattle.cx_order.specs.Edges.{Tells}
use Rattle.cx_races.specs.declared.access.Access.{Access}
use Rattle.cx_races.specs.declared.reporting.Pair.{Pair}
use Rattle.cx_races.specs.Races.{at, may_race, AreUnordered, Races, RacingPair, IsLeastPair, IsPartner, SaysOf, IsReport, AreAccesses, is_open, NoneBefore, SaysTo, SaysSoFar}
use Rattle.cx_races.specs.Sheets.{NoneRaces}
use Rattle.cx_races.proofs.Lanes.{among}

-- what two answers tell of two accesses
pub unordered_tells : (P Q : Type 0) (p q : Bool) → Tells p P → Tells q Q → Tells (not p && not q) ((P → ⊥) × (Q → ⊥))
unordered_tells P Q true q tp tq = λ h. h.0 tp
unordered_tells P Q false true tp tq = λ h. h.1 tq
unordered_tells P Q false false tp tq = (tp, tq)

pub race_tells : (s : Scene) (r : Recorded) (a b : Access) (u : Bool) → may_race a b ≡ true → Tells u (AreUnordered s r (at a) (at b)) → Tells u (Races s r a b)
race_tells s r a b true may t = record { conflict = may; unordered = t }
race_tells s r a b false may t = λ h. t h.unordered

pub no_race : (s : Scene) (r : Recorded) (a b : Access) → may_race a b ≡ false → Races s r a b → ⊥
no_race s r a b may h = wrong (may_race a b) h.conflict may
  where
    wrong : (x : Bool) → x ≡ true → x ≡ false → ⊥
    wrong true e f = cc
    wrong false e f = cc

pub some_is : (a b : Access) → Some a ≡ Some b → a ≡ b
some_is a b e = cc

some_entry : (x e : Option Pair) → Some x ≡ Some e → e ≡ x
some_entry x e h = cc

-- the two accesses of a pair are those at its places
pub pair_races : (s : Scene) (r : Recorded) (as_ : List Access) (v i j : ℕ) (a b : Access) → RacingPair s r as_ v i j → slice_get as_ i ≡ Some a → slice_get as_ j ≡ Some b → Races s r a b
pair_races s r as_ v i j a b p at_a at_b =
    let e : p.first ≡ a = some_is p.first a (sym p.at_first ∙ at_a) in
    let f : p.second ≡ b = some_is p.second b (sym p.at_second ∙ at_b) in
    subst (λ (x : Access). Races s r x b) e (subst (λ (x : Access). Races s r p.first x) f p.race)

pub racing : (s : Scene) (r : Recorded) (as_ : List Access) (i j : ℕ) (a b : Access) → slice_get as_ i ≡ Some a → slice_get as_ j ≡ Some b → i < j → Races s r a b → RacingPair s r as_ a.var i j
racing s r as_ i j a b at_a at_b less races = record { first = a; second = b; at_first = at_a; at_second = at_b; in_order = less; of_variable = refl; race = races }

within : (as_ : List Access) (k : ℕ) (a : Access) → slice_get as_ k ≡ Some a → k < length as_
within [] k a at_ = cc
within (x ∷ xs) zero a at_ = omega arith
within (x ∷ xs) (suc k) a at_ = let w = within xs k a at_ in omega arith

pub pair_within : (s : Scene) (r : Recorded) (as_ : List Access) (v i j : ℕ) → RacingPair s r as_ v i j → j < length as_
pair_within s r as_ v i j p = within as_ j p.second p.at_second

-- no access below this one behind access i races with it
abbrev pub NoneBelow : Scene → Recorded → List Access → ℕ → ℕ → ℕ → Type 0
NoneBelow s r as_ v i j = (k : ℕ) → k < j → RacingPair s r as_ v i k → ⊥

pub none_more : (s : Scene) (r : Recorded) (as_ : List Access) (i j : ℕ) (a b : Access) → slice_get as_ i ≡ Some a → slice_get as_ j ≡ Some b → NoneBelow s r as_ a.var i j → (Races s r a b → ⊥) → NoneBelow s r as_ a.var i (j + 1)
none_more s r as_ i j a b at_a at_b before none k low p = by (dec_eq k j)
  where
    by : (k ≡ j) ⊎ (k ≡ j → ⊥) → ⊥
    by (inl same) = none (pair_races s r as_ a.var i j a b (subst (λ (n : ℕ). RacingPair s r as_ a.var i n) same p) at_a at_b)
    by (inr other) = before k (omega (arith, low, other)) p

at_least : (j k : ℕ) → (k < j → ⊥) → j ≤ k
at_least j k h = by (dec_eq (j - k) 0)
  where
    by : (j - k ≡ 0) ⊎ (j - k ≡ 0 → ⊥) → j ≤ k
    by (inl e) = omega (arith, e)
    by (inr e) = absurd (h (omega (arith, e)))

pub is_partner : (s : Scene) (r : Recorded) (as_ : List Access) (i j : ℕ) (a b : Access) → slice_get as_ i ≡ Some a → slice_get as_ j ≡ Some b → i < j → NoneBelow s r as_ a.var i j → Races s r a b → IsPartner s r as_ a.var i (Some j)
is_partner s r as_ i j a b at_a at_b less before races = (racing s r as_ i j a b at_a at_b less races, λ k p. at_least j k (λ low. before k low p))

pub no_partner : (s : Scene) (r : Recorded) (as_ : List Access) (v i j : ℕ) → length as_ ≤ j → NoneBelow s r as_ v i j → IsPartner s r as_ v i None
no_partner s r as_ v i j all before k p = let w = pair_within s r as_ v i k p in before k (omega (arith, w, all)) p

pub none_before_more : (s : Scene) (r : Recorded) (as_ : List Access) (v i : ℕ) → NoneBefore s r as_ v i → ((l : ℕ) → RacingPair s r as_ v i l → ⊥) → NoneBefore s r as_ v (i + 1)
none_before_more s r as_ v i before none k l low p = by (dec_eq k i)
  where
    by : (k ≡ i) ⊎ (k ≡ i → ⊥) → ⊥
    by (inl same) = none l (subst (λ (n : ℕ). RacingPair s r as_ v n l) same p)
    by (inr other) = before k l (omega (arith, low, other)) p

-- the first of a pair is to its variable
pub variable_of : (s : Scene) (r : Recorded) (as_ : List Access) (v i l : ℕ) (a : Access) → slice_get as_ i ≡ Some a → RacingPair s r as_ v i l → a.var ≡ v
variable_of s r as_ v i l a at_a p = ap (λ (x : Access). x.var) (sym (some_is p.first a (sym p.at_first ∙ at_a))) ∙ p.of_variable

pub is_least : (s : Scene) (r : Recorded) (as_ : List Access) (v i j : ℕ) → NoneBefore s r as_ v i → IsPartner s r as_ v i (Some j) → IsLeastPair s r as_ v i j
is_least s r as_ v i j before (pair, least) = record { pair = pair; is_least = λ k l p. by k l p (dec_eq k i) }
  where
    by : (k l : ℕ) → RacingPair s r as_ v k l → (k ≡ i) ⊎ (k ≡ i → ⊥) → (i < k) ⊎ ((i ≡ k) × (j ≤ l))
    by k l p (inl same) = inr (sym same, least l (subst (λ (n : ℕ). RacingPair s r as_ v n l) same p))
    by k l p (inr other) = inl (let up = at_least i k (λ low. before k l low p) in omega (arith, up, other))

pub free_of : (s : Scene) (r : Recorded) (as_ : List Access) (v i : ℕ) → length as_ ≤ i → NoneBefore s r as_ v i → SaysOf s r as_ v None
free_of s r as_ v i all before k l p = let w = within as_ k p.first p.at_first in before k l (omega (arith, w, all)) p

-- ---- the entries so far

pub none_yet : (s : Scene) (r : Recorded) (as_ : List Access) (es : List (Option Pair)) → ((k : ℕ) (e : Option Pair) → slice_get es k ≡ Some e → e ≡ None) → SaysSoFar s r as_ 0 es
none_yet s r as_ es none v e there = subst (λ (x : Option Pair). SaysTo s r as_ v 0 x) (sym (none v e there)) (λ k l low p. omega (arith, low))

pub says_at_end : (s : Scene) (r : Recorded) (as_ : List Access) (i variables : ℕ) (es : List (Option Pair)) → length as_ ≤ i → length es ≡ variables → SaysSoFar s r as_ i es → IsReport s r as_ variables es
says_at_end s r as_ i variables es all count says = record { count = count; each = λ v e there. by v e (says v e there) }
  where
    by : (v : ℕ) (e : Option Pair) → SaysTo s r as_ v i e → SaysOf s r as_ v e
    by v None before = free_of s r as_ v i all before
    by v (Some p) least = least

-- one access more, where nothing is put down: each entry that has no pair and is its variable's says that it has no partner
pub says_on : (s : Scene) (r : Recorded) (as_ : List Access) (i : ℕ) (a : Access) (es : List (Option Pair)) → slice_get as_ i ≡ Some a → (slice_get es a.var ≡ Some None → (l : ℕ) → RacingPair s r as_ a.var i l → ⊥) → SaysSoFar s r as_ i es → SaysSoFar s r as_ (i + 1) es
says_on s r as_ i a es at_a none says v e there = by e there (says v e there)
  where
    at_v : slice_get es v ≡ Some None → (l : ℕ) → RacingPair s r as_ v i l → ⊥
    at_v here l p =
        let same : a.var ≡ v = variable_of s r as_ v i l a at_a p in
        none (subst (λ (n : ℕ). slice_get es n ≡ Some None) (sym same) here) l (subst (λ (n : ℕ). RacingPair s r as_ n i l) (sym same) p)

    by : (e : Option Pair) → slice_get es v ≡ Some e → SaysTo s r as_ v i e → SaysTo s r as_ v (i + 1) e
    by None here before = none_before_more s r as_ v i before (at_v here)
    by (Some p) here least = least

not_open : (o : Option (Option Pair)) → is_open o ≡ false → o ≡ Some None → ⊥
not_open None closed here = cc
not_open (Some None) closed here = cc
not_open (Some (Some p)) closed here = cc

pub says_closed : (s : Scene) (r : Recorded) (as_ : List Access) (i : ℕ) (a : Access) (es : List (Option Pair)) → slice_get as_ i ≡ Some a → is_open (slice_get es a.var) ≡ false → SaysSoFar s r as_ i es → SaysSoFar s r as_ (i + 1) es
says_closed s r as_ i a es at_a closed says = says_on s r as_ i a es at_a (λ here l p. not_open (slice_get es a.var) closed here) says

pub says_alone : (s : Scene) (r : Recorded) (as_ : List Access) (i : ℕ) (a : Access) (es : List (Option Pair)) → slice_get as_ i ≡ Some a → IsPartner s r as_ a.var i None → SaysSoFar s r as_ i es → SaysSoFar s r as_ (i + 1) es
says_alone s r as_ i a es at_a none says = says_on s r as_ i a es at_a (λ here l p. none l p) says

-- or where the pair is put into the entry of its variable, which had none
pub says_pair : (s : Scene) (r : Recorded) (as_ : List Access) (i j : ℕ) (a : Access) (es new : List (Option Pair)) (p : Pair) → slice_get as_ i ≡ Some a → is_open (slice_get es a.var) ≡ true → IsPartner s r as_ a.var i (Some j) → (p.first ≡ i) × (p.second ≡ j)
    → ((v : ℕ) (e : Option Pair) → slice_get new v ≡ Some e → ((v ≡ a.var) × (e ≡ Some p)) ⊎ ((v ≡ a.var → ⊥) × (slice_get es v ≡ Some e))) → SaysSoFar s r as_ i es → SaysSoFar s r as_ (i + 1) new
says_pair s r as_ i j a es new p at_a empty partner (first_is, second_is) put says v e there = by (put v e there)
  where
    was_none : (o : Option (Option Pair)) → is_open o ≡ true → o ≡ Some None
    was_none None h = cc
    was_none (Some None) h = refl
    was_none (Some (Some q)) h = cc

    before : NoneBefore s r as_ a.var i
    before = says a.var None (was_none (slice_get es a.var) empty)

    least : IsLeastPair s r as_ a.var p.first p.second
    least = subst (λ (n : ℕ). IsLeastPair s r as_ a.var n p.second) (sym first_is) (subst (λ (n : ℕ). IsLeastPair s r as_ a.var i n) (sym second_is) (is_least s r as_ a.var i j before partner))

    other : (v ≡ a.var → ⊥) → (e : Option Pair) → SaysTo s r as_ v i e → SaysTo s r as_ v (i + 1) e
    other differs None none = none_before_more s r as_ v i none (λ l q. differs (sym (variable_of s r as_ v i l a at_a q)))
    other differs (Some q) least = least

    by : ((v ≡ a.var) × (e ≡ Some p)) ⊎ ((v ≡ a.var → ⊥) × (slice_get es v ≡ Some e)) → SaysTo s r as_ v (i + 1) e
    by (inl (same, is)) = subst (λ (n : ℕ). SaysTo s r as_ n (i + 1) e) (sym same) (subst (λ (x : Option Pair). SaysTo s r as_ a.var (i + 1) x) (sym is) least)
    by (inr (differs, here)) = other differs e (says v e here)

-- what is read of a list in which one element was set
pub set_one : (es : List (Option Pair)) (n : ℕ) (x : Option Pair) (v : ℕ) (e : Option Pair) → slice_get (set es n x) v ≡ Some e → ((v ≡ n) × (e ≡ x)) ⊎ ((v ≡ n → ⊥) × (slice_get es v ≡ Some e))
set_one [] n x v e there = cc
set_one (y ∷ ys) zero x zero e there = inl (refl, some_entry x e there)
set_one (y ∷ ys) zero x (suc v) e there = inr (λ same. omega (arith, same), there)
set_one (y ∷ ys) (suc n) x zero e there = inr (λ same. omega (arith, same), there)
set_one (y ∷ ys) (suc n) x (suc v) e there = up (set_one ys n x v e there)
  where
    up : ((v ≡ n) × (e ≡ x)) ⊎ ((v ≡ n → ⊥) × (slice_get ys v ≡ Some e)) → ((suc v ≡ suc n) × (e ≡ x)) ⊎ ((suc v ≡ suc n → ⊥) × (slice_get ys v ≡ Some e))
    up (inl here) = inl (ap suc here.0, here.1)
    up (inr other) = inr (λ same. other.0 (omega (arith, same)), other.1)

pub none_pushed : (es : List (Option Pair)) → ((k : ℕ) (e : Option Pair) → slice_get es k ≡ Some e → e ≡ None) → (k : ℕ) (e : Option Pair) → slice_get (es ++ None ∷ []) k ≡ Some e → e ≡ None
none_pushed [] none zero e there = some_entry None e there
none_pushed [] none (suc k) e there = cc
none_pushed (x ∷ xs) none zero e there = none zero e there
none_pushed (x ∷ xs) none (suc k) e there = none_pushed xs (λ m y at_. none (suc m) y at_) k e there

-- ---- an access that is found free among all in order

pub free_partner : (s : Scene) (r : Recorded) (as_ xs : List Access) (i : ℕ) (a : Access) → IsPermutation as_ xs → slice_get as_ i ≡ Some a → NoneRaces s r xs a → IsPartner s r as_ a.var i None
free_partner s r as_ xs i a same at_a none k p =
    let w = among as_ xs k p.second same p.at_second in
    none w.0 p.second w.1 (pair_races s r as_ a.var i k a p.second p at_a p.at_second)

pub points_in : (r : Recorded) (as_ xs : List Access) → IsPermutation as_ xs → AreAccesses r as_ → AreAccesses r xs
points_in r as_ xs same are k x there = let w = among xs as_ k x (IsPermutation-sym as_ xs same) there in are w.0 x w.1

pub open_within : (es : List (Option Pair)) (v : ℕ) → is_open (slice_get es v) ≡ true → v < length es
open_within [] v h = cc
open_within (e ∷ es) zero h = omega arith
open_within (e ∷ es) (suc v) h = let w = open_within es v h in omega (arith, w)
