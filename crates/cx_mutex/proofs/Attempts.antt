-- What one attempt, one lock or one back-off adds to what came before it or after it.
use Rattle.std.proofs.Common.{◌≡◌, ◌≢◌, ◌∙◌, ℕ, suc, ◌+◌, ◌<◌, ◌≤◌, inl, inr, List, [], ◌∷◌, ◌++◌, get_or, map, reverse, length, take, drop, set, slice_get, Option, Some, MatchOption, refl, sym, ap, subst, arith, append_assoc, if◌then◌else◌}
use mathlib.Core.Logic.{dite}
use native.Mathlib.Decide.{ℕ_discrete}
use Rattle.std.proofs.lemmas.Bool.{cases_lt, lt-ltb, le-ltb}
use Rattle.std.proofs.lemmas.List.{map-append, reverse-append}
use Rattle.std.proofs.lemmas.Option.{slice_get_within, slice_get-get_or, get_or_from_slice_get}
use Rattle.cx_machine.specs.Mutex as machine
use Rattle.cx_turn.specs.declared.pass.Pass.{Pass}
use Rattle.cx_turn.proofs.Histories.{some_is}
use Rattle.cx_mutex.specs.declared.mutex.Mutex.{Mutex}
use Rattle.cx_mutex.specs.declared.mutex.Hold.{Hold}
use Rattle.cx_mutex.specs.declared.several.Holds.{Holds}
use Rattle.cx_mutex.specs.Mutexes.{IsMutexPass, IsBare, IsHeldBy}
use Rattle.cx_mutex.specs.Together.{Act, Locks, Gets, Misses, Unlocks, index_of, Acted, Step, Went, hold_at, AreDistinct, IsNamed, turned, IsReady, AreReady, locking_acts, unlocking_acts, missing_acts, OthersKept, two_before}
use Rattle.cx_mutex.specs.Trying.{Taken, Freed, TakenFrom, FreedFrom, MissedFrom, HoldsKept, RoundBacksOff}
use Rattle.cx_mutex.proofs.Orders.{set_here, set_else, drop_at, turned_low, distinct_turned}

abbrev pub P : Type 0
P = Pass machine.Mutex

-- ---- what an index finds

-- the mutex and the pass of an index, and that the pass is ready
pub record Found (all : List Mutex) (passes : List P) (i calls : ℕ) (x : Mutex) (o : P) : Type 0 where
  pub at_x : slice_get all i ≡ Some x
  pub at_o : slice_get passes i ≡ Some o
  pub ready : IsReady calls x o

module _ (all : List Mutex) (passes : List P) (ns : List ℕ) (from calls i : ℕ) (ready : AreReady all passes ns from calls) (named : IsNamed ns from i) where
  pub all_within : i < length all
  all_within = let r = ready i named in slice_get_within all i r.0 r.2

  pub passes_within : i < length passes
  passes_within = let r = ready i named in slice_get_within passes i r.1 r.3

  pub found : (x : Mutex) (d : P) → x ≡ get_or all i x → Found all passes i calls x (get_or passes i d)
  found x d is =
      let r = ready i named in
      let x_is : r.0 ≡ x = sym (get_or_from_slice_get all i r.0 x r.2) ∙ sym is in
      let o_is : r.1 ≡ get_or passes i d = sym (get_or_from_slice_get passes i r.1 d r.3) in
      record { at_x = r.2 ∙ ap (λ (z : Mutex). Some z) x_is; at_o = r.3 ∙ ap (λ (z : P). Some z) o_is; ready = subst (λ (z : Mutex × P). IsReady calls z.0 z.1) (λ j. (x_is j, o_is j)) r.4 }

pub place_at : (w : List ℕ) (p : ℕ) → p < length w → slice_get w p ≡ Some (get_or w p 0)
place_at w p within = slice_get-get_or w p 0 within

pub order_at : (w : List ℕ) (s f p : ℕ) → p < length w → slice_get w p ≡ slice_get (turned s w) f → slice_get (turned s w) f ≡ Some (get_or w p 0)
order_at w s f p within named = sym named ∙ place_at w p within

pub named_at : (w : List ℕ) (s f p : ℕ) → p < length w → slice_get w p ≡ slice_get (turned s w) f → IsNamed (turned s w) f (get_or w p 0)
named_at w s f p within named = (f, omega arith, order_at w s f p within named)

-- what the index finds later is the same
pub found_again : (all : List Mutex) (passes : List P) (i : ℕ) (x y : Mutex) (q d : P) → slice_get all i ≡ Some x → slice_get passes i ≡ Some q → y ≡ get_or all i y → ◌≡◌ {A = Mutex × P} (x, q) (y, get_or passes i d)
found_again all passes i x y q d at_x at_q is =
    let x_is : x ≡ y = sym (get_or_from_slice_get all i x y at_x) ∙ sym is in
    let q_is : q ≡ get_or passes i d = sym (get_or_from_slice_get passes i q d at_q) in
    λ j. (x_is j, q_is j)

-- the pass gave the mutex up, by one change
pub record Gave (i : ℕ) (q' : P) (x : Mutex) (q : P) : Type 0 where
  pub idle : IsMutexPass x q'
  pub bare : IsBare x q'
  pub left : q'.left + 1 ≡ q.left
  pub acted : Acted x q q' (Unlocks i)

-- ---- acts

pub make_step : (all : List Mutex) (old : List P) (act : Act) (x : Mutex) (o q : P) → slice_get all (index_of act) ≡ Some x → slice_get old (index_of act) ≡ Some o → Acted x o q act → Step all old (set old (index_of act) q) act
make_step all old act x o q at_x at_o acted = record { mutex = x; before = o; after = q; is_mutex = at_x; is_before = at_o; acted = acted; changed = refl }

pub went_on : (all : List Mutex) (old mid new : List P) (one two : List Act) → Went all old mid one → Went all mid new two → Went all old new (one ++ two)
went_on all old mid new [] two e w = subst (λ (z : List P). Went all z new two) e w
went_on all old mid new (a ∷ one) two e w = (e.0, e.1, went_on all e.0 mid new one two e.2 w)

unlocks_more : (i : ℕ) (t : List ℕ) → unlocking_acts (i ∷ t) ≡ unlocking_acts t ++ Unlocks i ∷ []
unlocks_more i t = ap (map Unlocks) (reverse-append (i ∷ []) t) ∙ map-append Unlocks (reverse t) (i ∷ [])

unlocked_last : (acts : List Act) (m i : ℕ) (t : List ℕ) → (acts ++ Misses m ∷ unlocking_acts t) ++ Unlocks i ∷ [] ≡ acts ++ Misses m ∷ unlocking_acts (i ∷ t)
unlocked_last acts m i t = append_assoc acts (Misses m ∷ unlocking_acts t) (Unlocks i ∷ []) ∙ ap (λ (u : List Act). acts ++ Misses m ∷ u) (sym (unlocks_more i t))

-- ---- numbers

two_yes : (place p : ℕ) → p < place → two_before place p ≡ 2
two_yes place p lt = ap (λ b. if b then 2 else 0) (lt-ltb p place lt)

two_no : (place p : ℕ) → place ≤ p → two_before place p ≡ 0
two_no place p le = ap (λ b. if b then 2 else 0) (le-ltb p place le)

pub two_most : (place p : ℕ) → two_before place p ≤ 2
two_most place p = elim (cases_lt p place) as (λ c. two_before place p ≤ 2) [
  | inl lt ↦ (let e = two_yes place p lt in omega arith)
  | inr ge ↦ (let e = two_no place p ge in omega arith)
]

module _ (all : List Mutex) (which : List ℕ) (s : ℕ) (low : s < length which) (distinct : AreDistinct which) where
  os : List ℕ
  os = turned s which

  module _ (old : List P) (f i place : ℕ) (x : Mutex) (o : P) (at : slice_get (turned s which) f ≡ Some i) (at_place : slice_get which place ≡ Some i) (at_x : slice_get all i ≡ Some x) (at_o : slice_get old i ≡ Some o) where
    -- what is named later is another
    later_else : (p k : ℕ) → f + 1 ≤ p → slice_get (turned s which) p ≡ Some k → k ≢ i
    later_else p k le at_p e = let same : p ≡ f = distinct_turned which s low distinct p f i (at_p ∙ ap (λ (z : ℕ). Some z) e) at in omega arith

    not_here : (k : ℕ) → (IsNamed (turned s which) f k → ⊥) → k ≢ i
    not_here k none e = none (f, omega arith, at ∙ ap (λ (z : ℕ). Some z) (sym e))

    within : i < length old
    within = slice_get_within old i o at_o

    -- those named later are ready still
    pub ready_still : (q : P) → AreReady all old (turned s which) f 2 → AreReady all (set old i q) (turned s which) (f + 1) 2
    ready_still q ready k named = let r = ready k (named.0, (let l = named.1 in omega arith), named.2) in (r.0, r.1, r.2, set_else old i k q (later_else named.0 k named.1 named.2) ∙ r.3, r.4)

    pub others_once : (q : P) → OthersKept old (set old i q) (turned s which) f
    others_once q k none = set_else old i k q (not_here k none)

    pub others_then : (q : P) (new : List P) → OthersKept (set old i q) new (turned s which) (f + 1) → OthersKept old new (turned s which) f
    others_then q new rest k none = rest k (λ named. none (named.0, (let l = named.1 in omega arith), named.2)) ∙ set_else old i k q (not_here k none)

    pub others_back : (q q' : P) (mid : List P) → OthersKept (set old i q) mid (turned s which) (f + 1) → OthersKept old (set mid i q') (turned s which) f
    others_back q q' mid rest k none = set_else mid i k q' (not_here k none) ∙ others_then q mid rest k none

    -- the later acts leave this pass
    pub rest_leaves : (q : P) (mid : List P) → OthersKept (set old i q) mid (turned s which) (f + 1) → slice_get mid i ≡ Some q
    rest_leaves q mid rest = rest i (λ named. later_else named.0 i named.1 named.2 refl) ∙ set_here old i q within

    -- this one was locked by an attempt, and so were the later ones
    pub went_locked : (q : P) (new : List P) → Acted x o q (Gets i) → Went all (set old i q) new (map Gets (drop (f + 1) (turned s which))) → Went all old new (map Gets (drop f (turned s which)))
    went_locked q new acted rest = subst (λ (l : List ℕ). Went all old new (map Gets l)) (sym (drop_at (turned s which) f i at)) (set old i q, make_step all old (Gets i) x o q at_x at_o acted, rest)

    pub taken_too : (q : P) (new : List P) (holds holds' : Holds) (hold : Hold) → OthersKept (set old i q) new (turned s which) (f + 1) → TakenFrom all (set old i q) new which s (f + 1) holds → IsMutexPass x q → IsHeldBy x q hold → q.left + 1 ≡ o.left → hold_at holds' place ≡ Some hold → ((p : ℕ) → p ≢ place → hold_at holds' p ≡ hold_at holds p) → TakenFrom all old new which s f holds'
    taken_too q new holds holds' hold kept rest idle held left here same_holds k y r named at_y at_r = dite (ℕ_discrete named.0 f)
        (λ e.
        let same : k ≡ i = some_is k i (sym named.2 ∙ (ap (slice_get (turned s which)) e ∙ at)) in
        let y_is : x ≡ y = some_is x y (sym at_x ∙ (ap (slice_get all) (sym same) ∙ at_y)) in
        let r_is : o ≡ r = some_is o r (sym at_o ∙ (ap (slice_get old) (sym same) ∙ at_r)) in
        let mine : Taken (hold_at holds' place) x o q = record { idle = idle; holds = subst (λ (h : Option Hold). MatchOption h ⊥ (λ h. IsHeldBy x q h)) (sym here) held; left = left } in
        (q, ap (slice_get new) same ∙ rest_leaves q new kept, (place, at_place ∙ ap (λ (z : ℕ). Some z) (sym same), subst (λ (z : Mutex × P). Taken (hold_at holds' place) z.0 z.1 q) (λ j. (y_is j, r_is j)) mine)))
        (λ ne.
        let later : f + 1 ≤ named.0 = (let l = named.1 in omega arith) in
        let else_ = later_else named.0 k later named.2 in
        let b = rest k y r (named.0, later, named.2) at_y (set_else old i k q else_ ∙ at_r) in
        let p = b.2.0 in
        let apart : p ≢ place = λ e. else_ (some_is k i (sym b.2.1 ∙ (ap (slice_get which) e ∙ at_place))) in
        (b.0, b.1, (p, b.2.1, subst (λ (h : Option Hold). Taken h y r b.0) (sym (same_holds p apart)) b.2.2)))

    pub holds_too : (h0 h1 h2 : Holds) → HoldsKept which s (f + 1) h0 h1 → ((p : ℕ) → p ≢ place → hold_at h2 p ≡ hold_at h1 p) → HoldsKept which s f h0 h2
    holds_too h0 h1 h2 rest same p none = same p (λ e. none i (f, omega arith, at) (ap (slice_get which) e ∙ at_place)) ∙ rest p (λ k named. none k (named.0, (let l = named.1 in omega arith), named.2))

    -- this one had an owner
    pub missed_here : (q : P) → Acted x o q (Misses i) → AreReady all old (turned s which) f 2 → IsMutexPass x q → IsBare x q → q.left ≡ o.left → MissedFrom all old (set old i q) which s f place
    missed_here q acted ready idle bare left =
        let e = drop_at (turned s which) f i at in
        let start : (l : List ℕ) → i ∷ drop (f + 1) (turned s which) ≡ l → (slice_get l 0 ≡ Some i) × Went all old (set old i q) (missing_acts l 0 i) = λ l is. subst (λ (l : List ℕ). (slice_get l 0 ≡ Some i) × Went all old (set old i q) (missing_acts l 0 i)) is (refl, (set old i q, make_step all old (Misses i) x o q at_x at_o acted, refl)) in
        let both = start (drop f (turned s which)) (sym e) in
        (0, i, both.0, at_place, both.1, freed)
      where
        freed : FreedFrom all old (set old i q) (turned s which) f (f + 0)
        freed p k y r le at_p at_y at_r = dite (ℕ_discrete p f)
            (λ e.
            let same : k ≡ i = some_is k i (sym at_p ∙ (ap (slice_get (turned s which)) e ∙ at)) in
            let y_is : x ≡ y = some_is x y (sym at_x ∙ (ap (slice_get all) (sym same) ∙ at_y)) in
            let r_is : o ≡ r = some_is o r (sym at_o ∙ (ap (slice_get old) (sym same) ∙ at_r)) in
            let mine : Freed (two_before (f + 0) p) x o q = record { idle = idle; bare = bare; left = (let t = two_no (f + 0) p (omega arith) in omega arith) } in
            (q, ap (slice_get (set old i q)) same ∙ set_here old i q within, subst (λ (z : Mutex × P). Freed (two_before (f + 0) p) z.0 z.1 q) (λ j. (y_is j, r_is j)) mine))
            (λ ne.
            let ready_k = ready k (p, le, at_p) in
            let y_is : ready_k.0 ≡ y = some_is ready_k.0 y (sym ready_k.2 ∙ at_y) in
            let r_is : ready_k.1 ≡ r = some_is ready_k.1 r (sym ready_k.3 ∙ at_r) in
            let is : IsReady 2 y r = subst (λ (z : Mutex × P). IsReady 2 z.0 z.1) (λ j. (y_is j, r_is j)) ready_k.4 in
            (r, set_else old i k q (later_else p k (omega arith) at_p) ∙ at_r, record { idle = is.idle; bare = is.bare; left = (let t = two_no (f + 0) p (omega arith) in omega arith) }))

    -- this one was locked, a later one had an owner, and this one was unlocked again
    pub freed_too : (q q' : P) (mid : List P) (j : ℕ) → FreedFrom all (set old i q) mid (turned s which) (f + 1) (f + 1 + j) → OthersKept (set old i q) mid (turned s which) (f + 1) → IsMutexPass x q' → IsBare x q' → q'.left + 2 ≡ o.left → FreedFrom all old (set mid i q') (turned s which) f (f + suc j)
    freed_too q q' mid j rest kept idle bare left p k y r le at_p at_y at_r = dite (ℕ_discrete p f)
        (λ e.
        let same : k ≡ i = some_is k i (sym at_p ∙ (ap (slice_get (turned s which)) e ∙ at)) in
        let y_is : x ≡ y = some_is x y (sym at_x ∙ (ap (slice_get all) (sym same) ∙ at_y)) in
        let r_is : o ≡ r = some_is o r (sym at_o ∙ (ap (slice_get old) (sym same) ∙ at_r)) in
        let mine : Freed (two_before (f + suc j) p) x o q' = record { idle = idle; bare = bare; left = (let t = two_yes (f + suc j) p (omega arith) in omega arith) } in
        (q', ap (slice_get (set mid i q')) same ∙ set_here mid i q' (slice_get_within mid i q (rest_leaves q mid kept)), subst (λ (z : Mutex × P). Freed (two_before (f + suc j) p) z.0 z.1 q') (λ j. (y_is j, r_is j)) mine))
        (λ ne.
        let later : f + 1 ≤ p = omega arith in
        let else_ = later_else p k later at_p in
        let b = rest p k y r later at_p at_y (set_else old i k q else_ ∙ at_r) in
        let more : f + 1 + j ≡ f + suc j = omega arith in
        (b.0, set_else mid i k q' else_ ∙ b.1, subst (λ (n : ℕ). Freed (two_before n p) y r b.0) more b.2))

    pub missed_later : (q q' : P) (mid : List P) (place' : ℕ) → MissedFrom all (set old i q) mid which s (f + 1) place' → OthersKept (set old i q) mid (turned s which) (f + 1) → Acted x o q (Gets i) → Acted x q q' (Unlocks i) → IsMutexPass x q' → IsBare x q' → q'.left + 2 ≡ o.left → MissedFrom all old (set mid i q') which s f place'
    missed_later q q' mid place' rest kept got gave idle bare left =
        let l : List ℕ = drop (f + 1) (turned s which) in
        let j = rest.0 in
        let m = rest.1 in
        let back : Went all mid (set mid i q') (Unlocks i ∷ []) = (set mid i q', make_step all mid (Unlocks i) x q q' at_x (rest_leaves q mid kept) gave, refl) in
        let went : Went all (set old i q) (set mid i q') ((map Gets (take j l) ++ Misses m ∷ unlocking_acts (take j l)) ++ Unlocks i ∷ []) = went_on all (set old i q) mid (set mid i q') (missing_acts l j m) (Unlocks i ∷ []) rest.4 back in
        let whole : Went all old (set mid i q') (missing_acts (i ∷ l) (suc j) m) = (set old i q, make_step all old (Gets i) x o q at_x at_o got, subst (λ (acts : List Act). Went all (set old i q) (set mid i q') acts) (unlocked_last (map Gets (take j l)) m i (take j l)) went) in
        let both : (slice_get (drop f (turned s which)) (suc j) ≡ Some m) × Went all old (set mid i q') (missing_acts (drop f (turned s which)) (suc j) m) = subst (λ (z : List ℕ). (slice_get z (suc j) ≡ Some m) × Went all old (set mid i q') (missing_acts z (suc j) m)) (sym (drop_at (turned s which) f i at)) (rest.2, whole) in
        (suc j, m, both.0, rest.3, both.1, freed_too q q' mid j rest.5 kept idle bare left)

  module _ (old : List P) (i : ℕ) (x : Mutex) (o : P) (at : slice_get which s ≡ Some i) (at_x : slice_get all i ≡ Some x) (at_o : slice_get old i ≡ Some o) where
    -- the first of the round
    pub first_at : slice_get (turned s which) 0 ≡ Some i
    first_at = let e : s + 0 ≡ s = omega arith in turned_low which s low 0 (omega arith) ∙ (ap (slice_get which) e ∙ at)

    list_is : turned s which ≡ i ∷ drop 1 (turned s which)
    list_is = drop_at (turned s which) 0 i first_at

    -- it was locked, and so were the others
    pub round_locks : (q : P) (new : List P) → Acted x o q (Locks i) → Went all (set old i q) new (map Gets (drop 1 (turned s which))) → Went all old new (locking_acts (turned s which))
    round_locks q new acted rest = subst (λ (l : List ℕ). Went all old new (locking_acts l)) (sym list_is) (set old i q, make_step all old (Locks i) x o q at_x at_o acted, rest)

    -- it was locked, another had an owner, and it was unlocked again
    pub round_backs_off : (q q' : P) (mid : List P) (place' : ℕ) → MissedFrom all (set old i q) mid which s 1 place' → slice_get mid i ≡ Some q → Acted x o q (Locks i) → Acted x q q' (Unlocks i) → RoundBacksOff all old (set mid i q') which s place'
    round_backs_off q q' mid place' rest leaves got gave =
        let l : List ℕ = drop 1 (turned s which) in
        let j = rest.0 in
        let m = rest.1 in
        let back : Went all mid (set mid i q') (Unlocks i ∷ []) = (set mid i q', make_step all mid (Unlocks i) x q q' at_x leaves gave, refl) in
        let went : Went all (set old i q) (set mid i q') ((map Gets (take j l) ++ Misses m ∷ unlocking_acts (take j l)) ++ Unlocks i ∷ []) = went_on all (set old i q) mid (set mid i q') (missing_acts l j m) (Unlocks i ∷ []) rest.4 back in
        let acts : List Act = locking_acts (take (suc j) (i ∷ l)) ++ Misses m ∷ unlocking_acts (take (suc j) (i ∷ l)) in
        let whole : Went all old (set mid i q') acts = (set old i q, make_step all old (Locks i) x o q at_x at_o got, subst (λ (acts : List Act). Went all (set old i q) (set mid i q') acts) (unlocked_last (map Gets (take j l)) m i (take j l)) went) in (
          acts,
          record {
            held = suc j;
            index = m;
            some = omega arith;
            missed = ap (λ (z : List ℕ). slice_get z (suc j)) list_is ∙ rest.2;
            again = rest.3;
            acts_are = ap (λ (z : List ℕ). locking_acts (take (suc j) z) ++ Misses m ∷ unlocking_acts (take (suc j) z)) (sym list_is);
          },
          whole,
        )
