-- A history with one more change, and a record with one more item.
use Rattle.std.proofs.Common.{◌≡◌, ℕ, suc, ◌+◌, ◌<◌, ◌≤◌, Bool, true, false, List, [], ◌∷◌, ◌++◌, length, Option, Some, None, option_and_then, nat_le, if◌then◌else◌, refl, ap, ◌∙◌, arith}
use Rattle.std.proofs.lemmas.Grind.{common_steps}
use Rattle.std.proofs.Common.{ltb-true, eqb-true, eq-eqb, add-zero, nat_lt, ◌&&◌}
use Rattle.std.specs.List.{list_all}
use Rattle.cx_machine.specs.declared.kind.Entry.{Entry}
use Rattle.cx_machine.specs.Machine.{State, run, step}
use Rattle.cx_history.specs.Histories.{Placed, put_in, in_order, entries, is_at}
use Rattle.std.proofs.Common.{filter, cond, le-leb}
use Rattle.cx_scene.specs.Scene.{Scene}
use Rattle.cx_items.specs.declared.item.Item.{Item}
use Rattle.cx_items.specs.Next.{Local, after_item}
use Rattle.cx_history.specs.Follows.{completes_by, is_completing, no_gap_from, after_items}
use Rattle.cx_history.specs.Flaw.{gap_from, IsSoFar}

ends_there : (o : Option State) → option_and_then (λ t. Some t) o ≡ o
ends_there None = refl
ends_there (Some t) = refl

-- one more change is one more step
pub run-append : (s : State) (es : List Entry) (e : Entry) → run s (es ++ e ∷ []) ≡ option_and_then (λ t. step t e) (run s es)
run-append s [] e = ends_there (step s e)
run-append s (f ∷ es) e = go (step s f) (λ t. run-append t es e)
  where
    go : (o : Option State) → ((t : State) → run t (es ++ e ∷ []) ≡ option_and_then (λ u. step u e) (run t es)) → option_and_then (λ t. run t (es ++ e ∷ [])) o ≡ option_and_then (λ u. step u e) (option_and_then (λ t. run t es) o)
    go None h = refl
    go (Some t) h = h t

-- each of these has a position below p
pub data AreBelow (p : ℕ) : List Placed → Type 0 where
  none : AreBelow p []
  more : (c : Placed) (cs : List Placed) → c.position < p → AreBelow p cs → AreBelow p (c ∷ cs)

not_le : (m n : ℕ) → n < m → nat_le m n ≡ false
not_le m n h = grind (arith, common_steps)

is_le : (m n : ℕ) → m < n → nat_le m n ≡ true
is_le m n h = grind (arith, common_steps)

-- the greatest position comes last
pub put_in-last : (c : Placed) (ds : List Placed) → AreBelow c.position ds → put_in c ds ≡ ds ++ c ∷ []
put_in-last c [] none = refl
put_in-last c (d ∷ ds) (more d' ds' h below) = rw (not_le c.position d.position h) (ap (λ xs. d ∷ xs) (put_in-last c ds below))

pub put_in-before : (d c : Placed) (ds : List Placed) → d.position < c.position → put_in d (ds ++ c ∷ []) ≡ put_in d ds ++ c ∷ []
put_in-before d c [] h = rw (is_le d.position c.position h) refl
put_in-before d c (e ∷ ds) h = go (nat_le d.position e.position) (put_in-before d c ds h)
  where
    go : (b : Bool) → put_in d (ds ++ c ∷ []) ≡ put_in d ds ++ c ∷ [] → (if b then d ∷ e ∷ (ds ++ c ∷ []) else e ∷ put_in d (ds ++ c ∷ [])) ≡ (if b then d ∷ e ∷ ds else e ∷ put_in d ds) ++ c ∷ []
    go true ih = refl
    go false ih = ap (λ xs. e ∷ xs) ih

AreBelow-put_in : (p : ℕ) (d : Placed) (ds : List Placed) → d.position < p → AreBelow p ds → AreBelow p (put_in d ds)
AreBelow-put_in p d [] h none = more d [] h none
AreBelow-put_in p d (e ∷ ds) h (more e' ds' k below) = go (nat_le d.position e.position) (AreBelow-put_in p d ds h below)
  where
    go : (b : Bool) → AreBelow p (put_in d ds) → AreBelow p (if b then d ∷ e ∷ ds else e ∷ put_in d ds)
    go true ih = more d (e ∷ ds) h (more e ds k below)
    go false ih = more e (put_in d ds) k ih

pub AreBelow-in_order : (p : ℕ) (cs : List Placed) → AreBelow p cs → AreBelow p (in_order cs)
AreBelow-in_order p [] none = none
AreBelow-in_order p (c ∷ cs) (more c' cs' h below) = AreBelow-put_in p c (in_order cs) h (AreBelow-in_order p cs below)

-- a change with the greatest position is the last of the sequence, wherever it stands in the record
pub in_order-append : (c : Placed) (xs ys : List Placed) → AreBelow c.position xs → AreBelow c.position ys → in_order (xs ++ c ∷ ys) ≡ in_order (xs ++ ys) ++ c ∷ []
in_order-append c [] ys none below = put_in-last c (in_order ys) (AreBelow-in_order c.position ys below)
in_order-append c (x ∷ xs) ys (more x' xs' h before) below = rw (in_order-append c xs ys before below) (put_in-before x c (in_order (xs ++ ys)) h)

and-left : (a b : Bool) → (a && b) ≡ true → a ≡ true
and-left true b h = refl
and-left false b h = h

and-right : (a b : Bool) → (a && b) ≡ true → b ≡ true
and-right true b h = h
and-right false true h = refl
and-right false false h = h

AreBelow-of_all : (p : ℕ) (cs : List Placed) → list_all (λ d. nat_lt d.position p) cs ≡ true → AreBelow p cs
AreBelow-of_all p [] h = none
AreBelow-of_all p (c ∷ cs) h = more c cs (ltb-true c.position p (and-left _ _ h)) (AreBelow-of_all p cs (and-right _ _ h))

pub AreBelow-front : (p : ℕ) (xs ys : List Placed) → AreBelow p (xs ++ ys) → AreBelow p xs
AreBelow-front p [] ys h = none
AreBelow-front p (x ∷ xs) ys (more x' xs' h below) = more x xs h (AreBelow-front p xs ys below)

pub AreBelow-back : (p : ℕ) (xs ys : List Placed) → AreBelow p (xs ++ ys) → AreBelow p ys
AreBelow-back p [] ys h = h
AreBelow-back p (x ∷ xs) ys (more x' xs' h below) = AreBelow-back p xs ys below

pub greatest_is_last : (c : Placed) (xs ys : List Placed) → list_all (λ d. nat_lt d.position c.position) (xs ++ ys) ≡ true → in_order (xs ++ c ∷ ys) ≡ in_order (xs ++ ys) ++ c ∷ []
greatest_is_last c xs ys h =
    let below = AreBelow-of_all c.position (xs ++ ys) h in
    in_order-append c xs ys (AreBelow-front c.position xs ys below) (AreBelow-back c.position xs ys below)

-- ---- one more change, at the next position, that its machine allows

below-put_in : (p : ℕ) (c : Placed) (ds : List Placed) → AreBelow p (put_in c ds) → (c.position < p) × AreBelow p ds
below-put_in p c [] (more c' ds' h below) = (h, none)
below-put_in p c (d ∷ ds) all = go (nat_le c.position d.position) all (below-put_in p c ds)
  where
    go : (b : Bool) → AreBelow p (if b then c ∷ d ∷ ds else d ∷ put_in c ds) → (AreBelow p (put_in c ds) → (c.position < p) × AreBelow p ds) → (c.position < p) × AreBelow p (d ∷ ds)
    go true (more c' ds' h below) ih = (h, below)
    go false (more d' ds' h below) ih = let q = ih below in (q.0, more d ds h q.1)

pub below-in_order : (p : ℕ) (cs : List Placed) → AreBelow p (in_order cs) → AreBelow p cs
below-in_order p [] all = none
below-in_order p (c ∷ cs) all = let q = below-put_in p c (in_order cs) all in more c cs q.0 (below-in_order p cs q.1)

if_gap : (b : Bool) (o : Option Placed) (c : Placed) → (if b then o else Some c) ≡ None → (b ≡ true) × (o ≡ None)
if_gap true o c h = (refl, h)
if_gap false o c h = cc

pub gap-below : (i p : ℕ) (ds : List Placed) → i + length ds ≤ p → gap_from i ds ≡ None → AreBelow p ds
gap-below i p [] fits h = none
gap-below i p (d ∷ ds) fits h =
    let q = if_gap (is_at i d) (gap_from (i + 1) ds) d h in
    let here : d.position ≡ i = eqb-true d.position i q.0 in
    let low : d.position < p = omega arith in
    more d ds low (gap-below (i + 1) p ds (omega arith) q.1)

gap_from-append : (i : ℕ) (ds : List Placed) (c : Placed) → c.position ≡ i + length ds → gap_from i ds ≡ None → gap_from i (ds ++ c ∷ []) ≡ None
gap_from-append i [] c at_ h =
    let here : is_at i c ≡ true = eq-eqb c.position i (at_ ∙ add-zero i) in
    rw here refl
gap_from-append i (d ∷ ds) c at_ h =
    let q = if_gap (is_at i d) (gap_from (i + 1) ds) d h in
    let at_next : c.position ≡ (i + 1) + length ds = omega arith in
    rw q.0 (gap_from-append (i + 1) ds c at_next q.1)

length-put_in : (c : Placed) (ds : List Placed) → length (put_in c ds) ≡ suc (length ds)
length-put_in c [] = refl
length-put_in c (d ∷ ds) = go (nat_le c.position d.position) (length-put_in c ds)
  where
    go : (b : Bool) → length (put_in c ds) ≡ suc (length ds) → length (if b then c ∷ d ∷ ds else d ∷ put_in c ds) ≡ suc (suc (length ds))
    go true ih = refl
    go false ih = ap suc ih

pub length-in_order : (cs : List Placed) → length (in_order cs) ≡ length cs
length-in_order [] = refl
length-in_order (c ∷ cs) = length-put_in c (in_order cs) ∙ ap suc (length-in_order cs)

pub entries-append : (cs : List Placed) (c : Placed) → entries (cs ++ c ∷ []) ≡ entries cs ++ c.entry ∷ []
entries-append [] c = refl
entries-append (d ∷ ds) c = ap (λ xs. d.entry ∷ xs) (entries-append ds c)

-- a change at the next position is the last of the sequence
pub sequence_grows : (from state : State) (xs ys : List Placed) (c : Placed) → IsSoFar from (xs ++ ys) state → c.position ≡ length (xs ++ ys) → in_order (xs ++ c ∷ ys) ≡ in_order (xs ++ ys) ++ c ∷ []
sequence_grows from state xs ys c so_far at_ =
    let cs = xs ++ ys in
    let room : 0 + length (in_order cs) ≤ c.position = omega (arith, length-in_order cs, at_) in
    let below = below-in_order c.position cs (gap-below 0 c.position (in_order cs) room so_far.gapless) in
    in_order-append c xs ys (AreBelow-front c.position xs ys below) (AreBelow-back c.position xs ys below)

-- what holds of an object in a record that a replay has made so far
pub one_step_more : (from state next : State) (xs ys : List Placed) (c : Placed) → IsSoFar from (xs ++ ys) state → c.position ≡ length (xs ++ ys) → step state c.entry ≡ Some next → IsSoFar from (xs ++ c ∷ ys) next
one_step_more from state next xs ys c so_far at_ enabled =
    let seq = in_order (xs ++ ys) in
    let room : c.position ≡ 0 + length seq = omega (arith, length-in_order (xs ++ ys), at_) in
    let grown = sequence_grows from state xs ys c so_far at_ in
    record {
      gapless = rw grown (gap_from-append 0 seq c room so_far.gapless);
      reaches = rw (grown, entries-append seq c, run-append from (entries seq) c.entry, so_far.reaches) enabled;
    }

-- ---- completions

-- all of these are at p or before
filter-all : (p : ℕ) (cs : List Placed) → AreBelow (p + 1) cs → filter (λ c. nat_le c.position p) cs ≡ cs
filter-all p [] none = refl
filter-all p (c ∷ cs) (more c' cs' h below) =
    let low : nat_le c.position p ≡ true = le-leb c.position p (omega arith) in
    rw low (ap (λ xs. c ∷ xs) (filter-all p cs below))

-- one that comes later is left out
filter-later : (p : ℕ) (cs : List Placed) (c : Placed) → p < c.position → filter (λ d. nat_le d.position p) (cs ++ c ∷ []) ≡ filter (λ d. nat_le d.position p) cs
filter-later p [] c h = rw (not_le c.position p h) refl
filter-later p (d ∷ ds) c h = go (nat_le d.position p) (filter-later p ds c h)
  where
    go : (b : Bool) → filter (λ e. nat_le e.position p) (ds ++ c ∷ []) ≡ filter (λ e. nat_le e.position p) ds → cond b (d ∷ filter (λ e. nat_le e.position p) (ds ++ c ∷ [])) (filter (λ e. nat_le e.position p) (ds ++ c ∷ [])) ≡ cond b (d ∷ filter (λ e. nat_le e.position p) ds) (filter (λ e. nat_le e.position p) ds)
    go true ih = ap (λ xs. d ∷ xs) ih
    go false ih = ih

no_gap : (i : ℕ) (cs : List Placed) → gap_from i cs ≡ None → no_gap_from i cs ≡ true
no_gap i [] h = refl
no_gap i (c ∷ cs) h = let q = if_gap (is_at i c) (gap_from (i + 1) cs) c h in rw (q.0, no_gap (i + 1) cs q.1) refl

pub completion_is_known : (from state : State) (changes : List Placed) (p : ℕ) → IsSoFar from changes state → p + 1 ≡ length changes → completes_by from changes p ≡ is_completing (Some state)
completion_is_known from state changes p so_far last =
    let below = gap-below 0 (p + 1) (in_order changes) (omega (arith, length-in_order changes)) so_far.gapless in
    rw (filter-all p (in_order changes) below, no_gap 0 (in_order changes) so_far.gapless, so_far.reaches) refl

pub completion_stays : (from state : State) (xs ys : List Placed) (c : Placed) (p : ℕ) → IsSoFar from (xs ++ ys) state → c.position ≡ length (xs ++ ys) → p < c.position → completes_by from (xs ++ c ∷ ys) p ≡ completes_by from (xs ++ ys) p
completion_stays from state xs ys c p so_far at_ before =
    let cs = xs ++ ys in
    let grown = sequence_grows from state xs ys c so_far at_ in
    rw (grown, filter-later p (in_order cs) c before) refl

-- ---- one more item

stops_there : (o : Option Local) → option_and_then (λ k. Some k) o ≡ o
stops_there None = refl
stops_there (Some k) = refl

pub one_item_more : (s : Scene) (leaves_completing : ℕ → ℕ → Bool) (t : ℕ) (l : Local) (xs : List Item) (x : Item) → after_items s leaves_completing t l (xs ++ x ∷ []) ≡ option_and_then (λ k. after_item s leaves_completing t k x) (after_items s leaves_completing t l xs)
one_item_more s leaves_completing t l [] x = stops_there (after_item s leaves_completing t l x)
one_item_more s leaves_completing t l (y ∷ ys) x = go (after_item s leaves_completing t l y) (λ k. one_item_more s leaves_completing t k ys x)
  where
    go : (o : Option Local) → ((k : Local) → after_items s leaves_completing t k (ys ++ x ∷ []) ≡ option_and_then (λ m. after_item s leaves_completing t m x) (after_items s leaves_completing t k ys)) → option_and_then (λ k. after_items s leaves_completing t k (ys ++ x ∷ [])) o ≡ option_and_then (λ m. after_item s leaves_completing t m x) (option_and_then (λ k. after_items s leaves_completing t k ys) o)
    go None h = refl
    go (Some k) h = h k
