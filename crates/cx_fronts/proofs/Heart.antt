-- From what a run's passes give to a legal record.
use Rattle.std.proofs.Common.{◌≡◌, ℕ, zero, suc, ◌+◌, ◌<◌, ◌≤◌, ◌==◌, ◌&&◌, Bool, true, false, List, [], ◌∷◌, ◌++◌, length, filter, take, max, Option, Some, None, option_and_then, slice_get, nat_le, nat_lt, if◌then◌else◌, refl, sym, ap, ◌∙◌, subst, arith, ltb-true, eqb-true, eq-eqb, le-leb, add-zero, zero-add, append_assoc, append-nil}
use Rattle.std.proofs.lemmas.Bool.{ltb-false}
use Rattle.std.proofs.lemmas.Grind.{common_steps}
use mathlib.Core.List.{IsPrefix}
use Rattle.cx_names.specs.declared.ObjectNo.{ObjectNo}
use Rattle.cx_machine.specs.declared.kind.Entry.{Entry}
use Rattle.cx_machine.specs.declared.kind.Look.{Look}
use Rattle.cx_machine.specs.Machine.{run, opening, IsLegal}
use Rattle.cx_scene.specs.declared.declared.Object.{Object}
use Rattle.cx_scene.specs.Scene.{Scene, kind_of}
use Rattle.cx_items.specs.declared.item.Control.TheVariants as controls
use Rattle.cx_items.specs.declared.item.Item.{Item}
use Rattle.cx_items.specs.declared.item.Item.TheVariants as items
use Rattle.cx_history.specs.Histories.{Recorded, Placed, Begun, Knowing, items_of, list_of, change_on, changes_in, changes_from, changes_of, in_order, entries, history, place_after, place_from, place, place_at_end, known_at_start, is_at, knows_after, knows_from, knowing, owed}
use Rattle.cx_history.specs.Legal.{LegalRecord, is_shown, is_at_least, shows_to}
use Rattle.cx_history.proofs.Appending.{length-in_order}
use Rattle.cx_history.specs.Flaw.{gap_from}
use Rattle.cx_history.specs.Follows.{completes, completes_by, is_completing, no_gap_from}
use Rattle.cx_fronts.specs.Positions.{positions}
use Rattle.cx_fronts.specs.Paths.{Fronts, Grows, position_on, own_in, none_own, shown_in, Moved, Goes, Path}
use Rattle.cx_fronts.specs.Runs.{FromPasses, is_barrier, OnlyBarriersComplete, AgreesWith}
use Rattle.cx_fronts.proofs.Lists.{prefix_refl, prefix_trans, prefix_length, prefix_get, prefix_take, get-below, get-there, holders-tally, tally, tally-in_order, count-own, count, count-append, not_le, owned, tally-once, AreOf, AreOf-append, AreOf-in_order, Climbs-in_order, IsSequence, is_sequence}

-- ---- paths

pub no_more : (ns : List ℕ) → ns ++ [] ≡ ns
no_more ns = append-nil ns

pub stays : (t : ℕ) (f : Fronts) → Moved t f f none_own
stays t f = record { grows = λ o. prefix_refl (f o); mine = λ o. sym (no_more (positions t 0 (f o))) }

pub path-grows : (s : Scene) (first last : ℕ → Fronts) (t : ℕ) (f h : Fronts) (xs : List Item) → Path s first last t f xs h → Grows f h
path-grows s first last t f h [] p = p.grows
path-grows s first last t f h (x ∷ xs) p = λ o. prefix_trans (f o) (p.1.moved.grows o) (path-grows s first last t p.0 h xs p.2 o)

pub path-own : (s : Scene) (first last : ℕ → Fronts) (t : ℕ) (f h : Fronts) (xs : List Item) → Path s first last t f xs h → (o : ℕ) → positions t 0 (h o) ≡ positions t 0 (f o) ++ own_in o xs
path-own s first last t f h [] p o = p.mine o
path-own s first last t f h (x ∷ xs) p o = path-own s first last t p.0 h xs p.2 o ∙ (ap (λ ns. ns ++ own_in o xs) (p.1.moved.mine o) ∙ append_assoc (positions t 0 (f o)) (position_on o x) (own_in o xs))

-- an item of a path, and the fronts before and after it
pub record At (s : Scene) (first last : ℕ → Fronts) (t : ℕ) (f h : Fronts) (xs : List Item) (i : ℕ) (x : Item) : Type 0 where
  pub pre : Fronts
  pub post : Fronts
  pub upto : Path s first last t f (take i xs) pre
  pub goes : Goes s first last t pre post x
  pub onwards : Grows post h

pub path-at : (s : Scene) (first last : ℕ → Fronts) (t : ℕ) (f h : Fronts) (xs : List Item) (i : ℕ) (x : Item) → Path s first last t f xs h → slice_get xs i ≡ Some x → At s first last t f h xs i x
path-at s first last t f h [] i x p e = cc
path-at s first last t f h (y ∷ ys) zero x p e =
    let same : y ≡ x = cc in
    record { pre = f; post = p.0; upto = stays t f; goes = subst (λ (v : Item). Goes s first last t f p.0 v) same p.1; onwards = path-grows s first last t p.0 h ys p.2 }
path-at s first last t f h (y ∷ ys) (suc i) x p e =
    let a = path-at s first last t p.0 h ys i x p.2 e in
    record { pre = a.pre; post = a.post; upto = (p.0, p.1, a.upto); goes = a.goes; onwards = a.onwards }

-- ---- places

place-step : (s : Scene) (first last : ℕ → Fronts) (t : ℕ) (f g : Fronts) (x : Item) (o m : ℕ) → Goes s first last t f g x → m ≤ length (f o) → place_after o m x ≤ length (g o)
place-step s first last t f g (items.Change q p e) o m a h = go (q.0 == o) refl
  where
    kept : m ≤ length (g o)
    kept = omega (arith, h, prefix_length (f o) (a.moved.grows o))

    go : (b : Bool) → (q.0 == o) ≡ b → (if b then p + 1 else m) ≤ length (g o)
    go true k = subst (λ n. p + 1 ≤ length (g n)) (eqb-true q.0 o k) (omega (arith, get-below (g q.0) p e a.seen.there))
    go false k = kept
place-step s first last t f g (items.Look q l) o m a h = go (q.0 == o) refl
  where
    kept : m ≤ length (g o)
    kept = omega (arith, h, prefix_length (f o) (a.moved.grows o))

    go : (b : Bool) → (q.0 == o) ≡ b → (if b then l.at else m) ≤ length (g o)
    go true k = subst (λ n. l.at ≤ length (g n)) (eqb-true q.0 o k) a.seen.to
    go false k = kept
place-step s first last t f g (items.Control c) o m a h = omega (arith, h, prefix_length (f o) (a.moved.grows o))
place-step s first last t f g (items.Said r) o m a h = omega (arith, h, prefix_length (f o) (a.moved.grows o))

pub place-bound : (s : Scene) (first last : ℕ → Fronts) (t : ℕ) (f h : Fronts) (xs : List Item) (o m : ℕ) → Path s first last t f xs h → m ≤ length (f o) → place_from o m xs ≤ length (h o)
place-bound s first last t f h [] o m p low = omega (arith, low, prefix_length (f o) (p.grows o))
place-bound s first last t f h (x ∷ xs) o m p low = place-bound s first last t p.0 h xs o (place_after o m x) p.2 (place-step s first last t f p.0 x o m p.1 low)

-- an item's number is at least whatever is at most what was seen before it
pub at_least : (s : Scene) (first last : ℕ → Fronts) (t : ℕ) (f g : Fronts) (x : Item) (least : ℕ → ℕ) → Goes s first last t f g x → ((o : ℕ) → least o ≤ length (f o)) → is_at_least least x ≡ true
at_least s first last t f g (items.Change q p e) least a h = le-leb (least q.0) p (omega (arith, h q.0, a.seen.from))
at_least s first last t f g (items.Look q l) least a h = le-leb (least q.0) l.at (omega (arith, h q.0, a.seen.from))
at_least s first last t f g (items.Control c) least a h = refl
at_least s first last t f g (items.Said r) least a h = refl

-- ---- what main knows is at most what it has seen

max-below : (a b n : ℕ) → a ≤ n → b ≤ n → max a b ≤ n
max-below a b n h k = grind (arith, common_steps)

known-more : (N : ℕ → ℕ) (bs : List Begun) (b : Begun) (v : ℕ) → known_at_start bs v ≤ N v → b.known ≤ N b.thread → known_at_start (bs ++ b ∷ []) v ≤ N v
known-more N [] b v h k = go (b.thread == v) refl
  where
    go : (c : Bool) → (b.thread == v) ≡ c → (if c then b.known else 0) ≤ N v
    go true q = subst (λ n. b.known ≤ N n) (eqb-true b.thread v q) k
    go false q = h
known-more N (c ∷ cs) b v h k = go (c.thread == v) h (λ low. known-more N cs b v low k)
  where
    go : (d : Bool) → (if d then c.known else known_at_start cs v) ≤ N v → (known_at_start cs v ≤ N v → known_at_start (cs ++ b ∷ []) v ≤ N v) → (if d then c.known else known_at_start (cs ++ b ∷ []) v) ≤ N v
    go true low ih = low
    go false low ih = ih low

pub record Bounded (first : ℕ → Fronts) (o : ℕ) (f : Fronts) (k : Knowing) : Type 0 where
  pub place : k.place ≤ length (f o)
  pub owed : k.owed ≤ length (f o)
  pub begun : (u : ℕ) → known_at_start k.begun u ≤ length (first u o)

bounded-more : (first : ℕ → Fronts) (o : ℕ) (f g : Fronts) (k : Knowing) → Grows f g → Bounded first o f k → Bounded first o g k
bounded-more first o f g k grows b = record {
  place = omega (arith, b.place, prefix_length (f o) (grows o));
  owed = omega (arith, b.owed, prefix_length (f o) (grows o));
  begun = b.begun;
}

-- what a joined thread knows at its end is in its last fronts
pub record Ends (r : Recorded) (first last : ℕ → Fronts) (o : ℕ) : Type 0 where
  pub places : (u : ℕ) → place_at_end r u o ≤ length (last u o)
  pub grown : (u : ℕ) → length (first u o) ≤ length (last u o)

begins-bounded : (first : ℕ → Fronts) (o u : ℕ) (f g : Fronts) (k : Knowing) → Grows f g → Grows f (first u) → Bounded first o f k → Bounded first o g (record k { begun = k.begun ++ record { thread = u; known = max k.place k.owed } ∷ [] })
begins-bounded first o u f g k grows handed b = record {
  place = omega (arith, b.place, prefix_length (f o) (grows o));
  owed = omega (arith, b.owed, prefix_length (f o) (grows o));
  begun = λ v. known-more (λ n. length (first n o)) k.begun (record { thread = u; known = max k.place k.owed }) v (b.begun v) (omega (arith, prefix_length (f o) (handed o), max-below k.place k.owed (length (f o)) b.place b.owed));
}

knows-step : (s : Scene) (r : Recorded) (first last : ℕ → Fronts) (t : ℕ) (f g : Fronts) (x : Item) (o : ℕ) (k : Knowing) → Ends r first last o → Goes s first last t f g x → Bounded first o f k → Bounded first o g (knows_after r o k x)
knows-step s r first last t f g (items.Change q p e) o k ends a b = record { place = place-step s first last t f g (items.Change q p e) o k.place a b.place; owed = omega (arith, b.owed, prefix_length (f o) (a.moved.grows o)); begun = b.begun }
knows-step s r first last t f g (items.Look q l) o k ends a b = record { place = place-step s first last t f g (items.Look q l) o k.place a b.place; owed = omega (arith, b.owed, prefix_length (f o) (a.moved.grows o)); begun = b.begun }
knows-step s r first last t f g (items.Said w) o k ends a b = bounded-more first o f g k a.moved.grows b
knows-step s r first last t f g (items.Control (controls.Start u true)) o k ends a b = begins-bounded first o u.0 f g k a.moved.grows a.seen b
knows-step s r first last t f g (items.Control (controls.Start u false)) o k ends a b = bounded-more first o f g k a.moved.grows b
knows-step s r first last t f g (items.Control (controls.Launch u true)) o k ends a b = begins-bounded first o u.0 f g k a.moved.grows a.seen b
knows-step s r first last t f g (items.Control (controls.Launch u false)) o k ends a b = bounded-more first o f g k a.moved.grows b
knows-step s r first last t f g (items.Control (controls.Join u)) o k ends a b =
    let reached = prefix_length (last u.0 o) (a.seen o) in
    let place_ : place_at_end r u.0 o ≤ length (g o) = omega (arith, ends.places u.0, reached) in
    let begun_ : known_at_start k.begun u.0 ≤ length (g o) = omega (arith, b.begun u.0, ends.grown u.0, reached) in
    let owed_ : k.owed ≤ length (g o) = omega (arith, b.owed, prefix_length (f o) (a.moved.grows o)) in
    record {
      place = omega (arith, b.place, prefix_length (f o) (a.moved.grows o));
      owed = max-below k.owed (max (place_at_end r u.0 o) (known_at_start k.begun u.0)) (length (g o)) owed_ (max-below (place_at_end r u.0 o) (known_at_start k.begun u.0) (length (g o)) place_ begun_);
      begun = b.begun;
    }

pub knows-bound : (s : Scene) (r : Recorded) (first last : ℕ → Fronts) (t : ℕ) (f h : Fronts) (xs : List Item) (o : ℕ) (k : Knowing) → Ends r first last o → Path s first last t f xs h → Bounded first o f k → Bounded first o h (knows_from r o k xs)
knows-bound s r first last t f h [] o k ends p b = bounded-more first o f h k p.grows b
knows-bound s r first last t f h (x ∷ xs) o k ends p b = knows-bound s r first last t p.0 h xs o (knows_after r o k x) ends p.2 (knows-step s r first last t f p.0 x o k ends p.1 b)

-- ---- the history is the front

of-item : (s : Scene) (first last : ℕ → Fronts) (t : ℕ) (f g : Fronts) (x : Item) (o i : ℕ) (F : List Entry) → Goes s first last t f g x → IsPrefix (g o) F → AreOf F (change_on o t i x)
of-item s first last t f g (items.Change q p e) o i F a b = go (q.0 == o) refl
  where
    go : (c : Bool) → (q.0 == o) ≡ c → AreOf F (if c then record { position = p; thread = t; item = i; entry = e } ∷ [] else [])
    go true k = (prefix_get (g o) b p e (subst (λ n. slice_get (g n) p ≡ Some e) (eqb-true q.0 o k) a.seen.there), tt)
    go false k = tt
of-item s first last t f g (items.Look q l) o i F a b = tt
of-item s first last t f g (items.Control c) o i F a b = tt
of-item s first last t f g (items.Said r) o i F a b = tt

of-path : (s : Scene) (first last : ℕ → Fronts) (t : ℕ) (f h : Fronts) (xs : List Item) (o i : ℕ) (F : List Entry) → Path s first last t f xs h → IsPrefix (h o) F → AreOf F (changes_in o t i xs)
of-path s first last t f h [] o i F p b = tt
of-path s first last t f h (x ∷ xs) o i F p b = AreOf-append F (change_on o t i x) (changes_in o t (i + 1) xs) (of-item s first last t f p.0 x o i F p.1 (prefix_trans (p.0 o) (path-grows s first last t p.0 h xs p.2 o) b)) (of-path s first last t p.0 h xs o (i + 1) F p.2 b)

of-lists : (o : ℕ) (F : List Entry) (u : ℕ) (ls : List (Option (List Item))) → ((i : ℕ) → AreOf F (changes_in o (u + i) 0 (items_of (option_and_then (λ l. l) (slice_get ls i))))) → AreOf F (changes_from o u ls)
of-lists o F u [] all = tt
of-lists o F u (l ∷ ls) all = AreOf-append F (changes_in o u 0 (items_of l)) (changes_from o (u + 1) ls) (subst (λ n. AreOf F (changes_in o n 0 (items_of l))) (add-zero u) (first_ l (all 0))) (of-lists o F (u + 1) ls (λ i. subst (λ n. AreOf F (changes_in o n 0 (items_of (option_and_then (λ l. l) (slice_get ls i))))) (next i) (all (suc i))))
  where
    next : (i : ℕ) → u + suc i ≡ (u + 1) + i
    next i = omega arith

    first_ : (l : Option (List Item)) → AreOf F (changes_in o (u + 0) 0 (items_of (option_and_then (λ l. l) (Some l)))) → AreOf F (changes_in o (u + 0) 0 (items_of l))
    first_ l h = h

no_list : (ls : List (Option (List Item))) (t : ℕ) → length ls ≤ t → slice_get ls t ≡ None
no_list [] t h = refl
no_list (l ∷ ls) zero h = absurd (omega (arith, h))
no_list (l ∷ ls) (suc t) h = no_list ls t (omega (arith, h))

-- what is so of an object
pub record Whole (r : Recorded) (o : ℕ) (F : List Entry) : Type 0 where
  pub is : history r o ≡ F
  pub long : length (changes_of r o) ≡ length F
  pub once : (k : ℕ) → k < length F → tally k (changes_of r o) ≡ 1
  pub sequence : IsSequence 0 (in_order (changes_of r o)) F

length-entries : (cs : List Placed) → length (entries cs) ≡ length cs
length-entries [] = refl
length-entries (c ∷ cs) = ap suc (length-entries cs)

own-in-whole : (s : Scene) (r : Recorded) (given : FromPasses s r) (t o : ℕ) → positions t 0 (given.last 0 o) ≡ own_in o (list_of r t)
own-in-whole s r given t o =
    let at_end : positions t 0 (given.last 0 o) ≡ positions t 0 (given.last t o) ++ [] = (given.taken t).mine o in
    let made = path-own s given.first given.last t (given.first t) (given.last t) (list_of r t) (given.paths t) o in
    at_end ∙ (no_more (positions t 0 (given.last t o)) ∙ (made ∙ ap (λ ns. ns ++ own_in o (list_of r t)) (given.unused t o)))

by_list : (s : Scene) (r : Recorded) (given : FromPasses s r) (o k : ℕ) (e : Entry) → slice_get (given.last 0 o) k ≡ Some e → e.by.0 < length r.lists
by_list s r given o k e h = go (nat_lt e.by.0 (length r.lists)) refl
  where
    go : (b : Bool) → nat_lt e.by.0 (length r.lists) ≡ b → e.by.0 < length r.lists
    go true q = ltb-true e.by.0 (length r.lists) q
    go false q =
        let none_ : slice_get r.lists e.by.0 ≡ None = no_list r.lists e.by.0 (ltb-false e.by.0 (length r.lists) q) in
        let nothing : positions e.by.0 0 (given.last 0 o) ≡ [] = own-in-whole s r given e.by.0 o ∙ ap (λ v. own_in o (items_of (option_and_then (λ l. l) v))) none_ in
        let zero_ : count k (positions e.by.0 0 (given.last 0 o)) ≡ 0 = ap (count k) nothing in
        let one_ : count k (positions e.by.0 0 (given.last 0 o)) ≡ 1 = count-own k e.by.0 (given.last 0 o) e h ∙ ap (λ b. if b then 1 else 0) (eq-eqb e.by.0 e.by.0 refl) in
        absurd (omega (arith, zero_, one_))

pub whole : (s : Scene) (r : Recorded) (given : FromPasses s r) (o : ℕ) → Whole r o (given.last 0 o)
whole s r given o = record {
  is = sequence_.is;
  long = sym (length-in_order (changes_of r o)) ∙ (sym (length-entries (in_order (changes_of r o))) ∙ ap length sequence_.is);
  once = once_;
  sequence = sequence_;
}
  where
    once_ : (k : ℕ) → k < length (given.last 0 o) → tally k (changes_of r o) ≡ 1
    once_ k h =
        let there = get-there (given.last 0 o) k h in
        let own_ = owned o (given.last 0 o) 0 r.lists (λ i. subst (λ n. positions n 0 (given.last 0 o) ≡ own_in o (list_of r i)) (sym (zero-add i)) (own-in-whole s r given i o)) in
        tally-once k o 0 there.0.by.0 (given.last 0 o) there.0 r.lists there.1 own_ (sym (zero-add there.0.by.0)) (by_list s r given o k there.0 there.1)

    of_ : AreOf (given.last 0 o) (changes_of r o)
    of_ = of-lists o (given.last 0 o) 0 r.lists (λ i. subst (λ n. AreOf (given.last 0 o) (changes_in o n 0 (list_of r i))) (sym (zero-add i)) (of-path s given.first given.last i (given.first i) (given.last i) (list_of r i) o 0 (given.last 0 o) (given.paths i) ((given.taken i).grows o)))

    sequence_ : IsSequence 0 (in_order (changes_of r o)) (given.last 0 o)
    sequence_ = is_sequence 0 (in_order (changes_of r o)) (given.last 0 o) (given.last 0 o) (λ k. ap (slice_get (given.last 0 o)) (zero-add k)) (sym (zero-add (length (given.last 0 o)))) (Climbs-in_order (changes_of r o)) (AreOf-in_order (given.last 0 o) (changes_of r o) of_) (λ k low h. tally-in_order k (changes_of r o) ∙ once_ k h)

-- ---- the five parts

both : (a b : Bool) → a ≡ true → b ≡ true → (a && b) ≡ true
both true b h k = k
both false b h k = cc

pub shown-later : (s : Scene) (f g : List Entry) (q : ObjectNo) (l : Look) → IsPrefix f g → l.at ≤ length f → shown_in s f q l ≡ true → shown_in s g q l ≡ true
shown-later s f g q l b h shows = ap (λ es. shows_to (option_and_then (λ d. run (opening (kind_of d)) es) (slice_get s.objects q.0)) l) (prefix_take f b l.at h) ∙ shows

shown-item : (s : Scene) (r : Recorded) (given : FromPasses s r) (t : ℕ) (f g : Fronts) (x : Item) → Goes s given.first given.last t f g x → Grows g (given.last t) → is_shown s r x ≡ true
shown-item s r given t f g (items.Look q l) a onwards =
    let all = prefix_trans (g q.0) (onwards q.0) ((given.taken t).grows q.0) in
    let w = whole s r given q.0 in
    let to_ : l.at ≤ length (given.last 0 q.0) = omega (arith, a.seen.to, prefix_length (g q.0) all) in
    let low : nat_le l.at (length (given.last 0 q.0)) ≡ true = le-leb l.at (length (given.last 0 q.0)) to_ in
    let shows_ = shown-later s (g q.0) (given.last 0 q.0) q l all a.seen.to a.seen.shows in
    subst (λ F. (nat_le l.at (length F) && shown_in s F q l) ≡ true) (sym w.is) (both (nat_le l.at (length (given.last 0 q.0))) (shown_in s (given.last 0 q.0) q l) low shows_)
shown-item s r given t f g (items.Change q p e) a onwards = refl
shown-item s r given t f g (items.Control c) a onwards = refl
shown-item s r given t f g (items.Said w) a onwards = refl

pub item-at : (s : Scene) (r : Recorded) (given : FromPasses s r) (t i : ℕ) (x : Item) → slice_get (list_of r t) i ≡ Some x → At s given.first given.last t (given.first t) (given.last t) (list_of r t) i x
item-at s r given t i x e = path-at s given.first given.last t (given.first t) (given.last t) (list_of r t) i x (given.paths t) e

ends_of : (s : Scene) (r : Recorded) (given : FromPasses s r) (o : ℕ) → Ends r given.first given.last o
ends_of s r given o = record {
  places = λ u. place-bound s given.first given.last u (given.first u) (given.last u) (list_of r u) o 0 (given.paths u) (omega arith);
  grown = λ u. prefix_length (given.first u o) (path-grows s given.first given.last u (given.first u) (given.last u) (list_of r u) (given.paths u) o);
}

knowing-bound : (s : Scene) (r : Recorded) (given : FromPasses s r) (o : ℕ) (h : Fronts) (i : ℕ) → Path s given.first given.last 0 (given.first 0) (take i (list_of r 0)) h → Bounded given.first o h (knowing r i o)
knowing-bound s r given o h i p =
    let none_ : Bounded given.first o (given.first 0) (record { place = 0; owed = 0; begun = [] }) = record { place = omega arith; owed = omega arith; begun = λ u. omega arith } in
    knows-bound s r given.first given.last 0 (given.first 0) h (take i (list_of r 0)) o (record { place = 0; owed = 0; begun = [] }) (ends_of s r given o) p none_

take-all : (xs : List Item) → take (length xs) xs ≡ xs
take-all [] = refl
take-all (x ∷ xs) = ap (λ ys. x ∷ ys) (take-all xs)

owed-bound : (s : Scene) (r : Recorded) (given : FromPasses s r) (t i o : ℕ) (pre : Fronts) → Path s given.first given.last t (given.first t) (take i (list_of r t)) pre → owed r t i o ≤ length (pre o)
owed-bound s r given t i o pre p = go (t == 0) refl
  where
    all_main : Path s given.first given.last 0 (given.first 0) (take (length (list_of r 0)) (list_of r 0)) (given.last 0)
    all_main = subst (λ xs. Path s given.first given.last 0 (given.first 0) xs (given.last 0)) (sym (take-all (list_of r 0))) (given.paths 0)

    go : (b : Bool) → (t == 0) ≡ b → (if b then (knowing r i o).owed else known_at_start (knowing r (length (list_of r 0)) o).begun t) ≤ length (pre o)
    go true q =
        let is_main : t ≡ 0 = eqb-true t 0 q in
        let p0 = subst (λ n. Path s given.first given.last n (given.first n) (take i (list_of r n)) pre) is_main p in
        (knowing-bound s r given o pre i p0).owed
    go false q =
        let b = knowing-bound s r given o (given.last 0) (length (list_of r 0)) all_main in
        omega (arith, b.begun t, prefix_length (given.first t o) (path-grows s given.first given.last t (given.first t) pre (take i (list_of r t)) p o))

pub passes_are_legal : (s : Scene) (r : Recorded) → FromPasses s r → LegalRecord s r
passes_are_legal s r given = record {
  gapless = λ o d there k h. let w = whole s r given o in holders-tally k (changes_of r o) ∙ w.once k (omega (arith, h, w.long));
  stepwise = λ o d there. subst (λ es. IsLegal (kind_of d) es) (sym (whole s r given o).is) (given.legal o d there);
  shown = λ t i x e. let a = item-at s r given t i x e in shown-item s r given t a.pre a.post x a.goes a.onwards;
  never_falling = λ t i x e. let a = item-at s r given t i x e in
      at_least s given.first given.last t a.pre a.post x (place r t i) a.goes (λ o. place-bound s given.first given.last t (given.first t) a.pre (take i (list_of r t)) o 0 a.upto (omega arith));
  ordered = λ t i x e. let a = item-at s r given t i x e in
      at_least s given.first given.last t a.pre a.post x (owed r t i) a.goes (λ o. owed-bound s r given t i o a.pre a.upto);
}

pub fronts_are_histories : (s : Scene) (r : Recorded) (given : FromPasses s r) (o : ℕ) → history r o ≡ given.last 0 o
fronts_are_histories s r given o = (whole s r given o).is

-- ---- completions

if_gap : (b : Bool) (o : Option Placed) (c : Placed) → (if b then o else Some c) ≡ None → (b ≡ true) × (o ≡ None)
if_gap true o c h = (refl, h)
if_gap false o c h = cc

filter-none : (i p : ℕ) (ds : List Placed) → gap_from i ds ≡ None → p < i → filter (λ c. nat_le c.position p) ds ≡ []
filter-none i p [] h low = refl
filter-none i p (d ∷ ds) h low =
    let q = if_gap (is_at i d) (gap_from (i + 1) ds) d h in
    let here : d.position ≡ i = eqb-true d.position i q.0 in
    let later : nat_le d.position p ≡ false = not_le d.position p (omega (arith, here, low)) in
    rw later (filter-none (i + 1) p ds q.1 (omega (arith, low)))

filter-take : (m i p : ℕ) (ds : List Placed) → gap_from i ds ≡ None → i + m ≡ p + 1 → filter (λ c. nat_le c.position p) ds ≡ take m ds
filter-take zero i p ds h fits = filter-none i p ds h (omega (arith, fits))
filter-take (suc m) i p [] h fits = refl
filter-take (suc m) i p (d ∷ ds) h fits =
    let q = if_gap (is_at i d) (gap_from (i + 1) ds) d h in
    let here : d.position ≡ i = eqb-true d.position i q.0 in
    let early : nat_le d.position p ≡ true = le-leb d.position p (omega (arith, here, fits)) in
    rw early (ap (λ cs. d ∷ cs) (filter-take m (i + 1) p ds q.1 (omega (arith, fits))))

no_gap-take : (m i : ℕ) (ds : List Placed) → gap_from i ds ≡ None → no_gap_from i (take m ds) ≡ true
no_gap-take zero i ds h = refl
no_gap-take (suc m) i [] h = refl
no_gap-take (suc m) i (d ∷ ds) h = let q = if_gap (is_at i d) (gap_from (i + 1) ds) d h in rw (q.0, no_gap-take m (i + 1) ds q.1) refl

entries-take : (m : ℕ) (ds : List Placed) → entries (take m ds) ≡ take m (entries ds)
entries-take zero ds = refl
entries-take (suc m) [] = refl
entries-take (suc m) (d ∷ ds) = ap (λ es. d.entry ∷ es) (entries-take m ds)

pub completions_are_seen : (s : Scene) (r : Recorded) (given : FromPasses s r) (o p : ℕ) (d : Object) (G : List Entry) → slice_get s.objects o ≡ Some d → IsPrefix G (given.last 0 o) → p < length G → completes s r o p ≡ is_completing (run (opening (kind_of d)) (take (p + 1) G))
completions_are_seen s r given o p d G there begins low =
    let ds = in_order (changes_of r o) in
    let w = (whole s r given o).sequence in
    let kept : filter (λ c. nat_le c.position p) ds ≡ take (p + 1) ds = filter-take (p + 1) 0 p ds w.gapless (zero-add (p + 1)) in
    let full : no_gap_from 0 (take (p + 1) ds) ≡ true = no_gap-take (p + 1) 0 ds w.gapless in
    let seen_ : entries (take (p + 1) ds) ≡ take (p + 1) G = entries-take (p + 1) ds ∙ (ap (take (p + 1)) w.is ∙ prefix_take G begins (p + 1) (omega (arith, low))) in
    let by_ : completes_by (opening (kind_of d)) (changes_of r o) p ≡ is_completing (run (opening (kind_of d)) (take (p + 1) G)) = rw (kept, full, seen_) refl in
    rw (there, completes) by_

-- ---- changes are by their thread

counted : (o p i : ℕ) (q : ObjectNo) (e : Entry) (xs : List Item) → slice_get xs i ≡ Some (items.Change q p e) → q.0 ≡ o → 0 < count p (own_in o xs)
counted o p i q e [] h is_o = cc
counted o p zero q e (x ∷ xs) h is_o =
    let same : x ≡ items.Change q p e = cc in
    let here : (q.0 == o) ≡ true = eq-eqb q.0 o is_o in
    let again : (p == p) ≡ true = eq-eqb p p refl in
    let one_ : position_on o (items.Change q p e) ≡ p ∷ [] = rw here refl in
    let all : count p (own_in o (x ∷ xs)) ≡ suc (count p (own_in o xs)) = ap (λ v. count p (position_on o v ++ own_in o xs)) same ∙ (ap (λ ns. count p (ns ++ own_in o xs)) one_ ∙ rw again refl) in
    omega (arith, all)
counted o p (suc i) q e (x ∷ xs) h is_o = omega (arith, count-append p (position_on o x) (own_in o xs), counted o p i q e xs h is_o)

pub changes_are_own : (s : Scene) (r : Recorded) → FromPasses s r → (t i p : ℕ) (q : ObjectNo) (e : Entry) → slice_get (list_of r t) i ≡ Some (items.Change q p e) → e.by.0 ≡ t
changes_are_own s r given t i p q e h = go (e.by.0 == t) refl
  where
    some_ : 0 < count p (positions t 0 (given.last 0 q.0))
    some_ = subst (λ ns. 0 < count p ns) (sym (own-in-whole s r given t q.0)) (counted q.0 p i q e (list_of r t) h refl)

    there : slice_get (given.last 0 q.0) p ≡ Some e
    there =
        let a = item-at s r given t i (items.Change q p e) h in
        prefix_get (a.post q.0) (prefix_trans (a.post q.0) (a.onwards q.0) ((given.taken t).grows q.0)) p e a.goes.seen.there

    go : (b : Bool) → (e.by.0 == t) ≡ b → e.by.0 ≡ t
    go true k = eqb-true e.by.0 t k
    go false k =
        let none_ : count p (positions t 0 (given.last 0 q.0)) ≡ 0 = count-own p t (given.last 0 q.0) e there ∙ ap (λ b. if b then 1 else 0) k in
        absurd (omega (arith, some_, none_))
