-- Fronts, own positions, and the order of changes.
use Rattle.std.proofs.Common.{◌≡◌, ℕ, zero, suc, ◌+◌, ◌<◌, ◌≤◌, ◌==◌, Bool, true, false, List, [], ◌∷◌, ◌++◌, length, filter, take, cond, Option, Some, None, option_and_then, slice_get, nat_le, if◌then◌else◌, refl, sym, ap, ◌∙◌, subst, arith, leb-true, eqb-true, eq-eqb, add-zero, zero-add, append_assoc, append-nil}
use Rattle.std.proofs.lemmas.Bool.{eqb-false}
use Rattle.std.proofs.lemmas.Grind.{common_steps}
use mathlib.Core.List.{IsPrefix}
use Rattle.cx_machine.specs.declared.kind.Entry.{Entry}
use Rattle.cx_items.specs.declared.item.Item.{Item}
use Rattle.cx_items.specs.declared.item.Item.TheVariants as items
use Rattle.cx_history.specs.Histories.{Placed, items_of, change_on, changes_in, changes_from, put_in, in_order, entries, is_at}
use Rattle.cx_history.specs.Flaw.{gap_from}
use Rattle.cx_fronts.specs.Positions.{positions}
use Rattle.cx_fronts.specs.Paths.{position_on, own_in}

-- ---- fronts

pub prefix_refl : (f : List Entry) → IsPrefix f f
prefix_refl f = ([], append-nil f)

pub prefix_trans : (f : List Entry) {g h : List Entry} → IsPrefix f g → IsPrefix g h → IsPrefix f h
prefix_trans f a b = (a.0 ++ b.0, sym (append_assoc f a.0 b.0) ∙ (ap (λ xs. xs ++ b.0) a.1 ∙ b.1))

length-more : (f rest : List Entry) → length f ≤ length (f ++ rest)
length-more [] rest = omega arith
length-more (e ∷ f) rest = omega (arith, length-more f rest)

pub prefix_length : (f : List Entry) {g : List Entry} → IsPrefix f g → length f ≤ length g
prefix_length f a = subst (λ xs. length f ≤ length xs) a.1 (length-more f a.0)

get-more : (f rest : List Entry) (k : ℕ) (e : Entry) → slice_get f k ≡ Some e → slice_get (f ++ rest) k ≡ Some e
get-more [] rest k e h = cc
get-more (d ∷ f) rest zero e h = h
get-more (d ∷ f) rest (suc k) e h = get-more f rest k e h

pub prefix_get : (f : List Entry) {g : List Entry} → IsPrefix f g → (k : ℕ) (e : Entry) → slice_get f k ≡ Some e → slice_get g k ≡ Some e
prefix_get f a k e h = subst (λ xs. slice_get xs k ≡ Some e) a.1 (get-more f a.0 k e h)

take-more : (f rest : List Entry) (k : ℕ) → k ≤ length f → take k (f ++ rest) ≡ take k f
take-more f rest zero h = refl
take-more [] rest (suc k) h = absurd (omega (arith, h))
take-more (d ∷ f) rest (suc k) h = ap (λ xs. d ∷ xs) (take-more f rest k (omega (arith, h)))

pub prefix_take : (f : List Entry) {g : List Entry} → IsPrefix f g → (k : ℕ) → k ≤ length f → take k g ≡ take k f
prefix_take f a k h = subst (λ xs. take k xs ≡ take k f) a.1 (take-more f a.0 k h)

pub get-below : (f : List Entry) (k : ℕ) (e : Entry) → slice_get f k ≡ Some e → k < length f
get-below [] k e h = cc
get-below (d ∷ f) zero e h = omega arith
get-below (d ∷ f) (suc k) e h = omega (arith, get-below f k e h)

pub get-there : (f : List Entry) (k : ℕ) → k < length f → (e : Entry) × (slice_get f k ≡ Some e)
get-there [] k h = absurd (omega (arith, h))
get-there (d ∷ f) zero h = (d, refl)
get-there (d ∷ f) (suc k) h = get-there f k (omega (arith, h))

pub not_equal : (m n : ℕ) → (m ≡ n → ⊥) → (m == n) ≡ false
not_equal m n ne = go (m == n) refl
  where
    go : (b : Bool) → (m == n) ≡ b → b ≡ false
    go true p = absurd (ne (eqb-true m n p))
    go false p = refl

pub not_le : (m n : ℕ) → n < m → nat_le m n ≡ false
not_le m n h = grind (arith, common_steps)

-- ---- how often a number stands in a list

abbrev pub count : ℕ → List ℕ → ℕ
count k [] = 0
count k (n ∷ ns) = if n == k then suc (count k ns) else count k ns

abbrev pub tally : ℕ → List Placed → ℕ
tally k [] = 0
tally k (c ∷ cs) = if c.position == k then suc (tally k cs) else tally k cs

pub holders-tally : (k : ℕ) (cs : List Placed) → length (filter (is_at k) cs) ≡ tally k cs
holders-tally k [] = refl
holders-tally k (c ∷ cs) = go (c.position == k) (holders-tally k cs)
  where
    go : (b : Bool) → length (filter (is_at k) cs) ≡ tally k cs → length (cond b (c ∷ filter (is_at k) cs) (filter (is_at k) cs)) ≡ (if b then suc (tally k cs) else tally k cs)
    go true ih = ap suc ih
    go false ih = ih

pub count-append : (k : ℕ) (xs ys : List ℕ) → count k (xs ++ ys) ≡ count k xs + count k ys
count-append k [] ys = omega arith
count-append k (x ∷ xs) ys = go (x == k) (count-append k xs ys)
  where
    go : (b : Bool) → count k (xs ++ ys) ≡ count k xs + count k ys → (if b then suc (count k (xs ++ ys)) else count k (xs ++ ys)) ≡ (if b then suc (count k xs) else count k xs) + count k ys
    go true ih = omega (arith, ih)
    go false ih = ih

tally-append : (k : ℕ) (xs ys : List Placed) → tally k (xs ++ ys) ≡ tally k xs + tally k ys
tally-append k [] ys = omega arith
tally-append k (x ∷ xs) ys = go (x.position == k) (tally-append k xs ys)
  where
    go : (b : Bool) → tally k (xs ++ ys) ≡ tally k xs + tally k ys → (if b then suc (tally k (xs ++ ys)) else tally k (xs ++ ys)) ≡ (if b then suc (tally k xs) else tally k xs) + tally k ys
    go true ih = omega (arith, ih)
    go false ih = ih

tally-put_in : (k : ℕ) (c : Placed) (ds : List Placed) → tally k (put_in c ds) ≡ tally k (c ∷ ds)
tally-put_in k c [] = refl
tally-put_in k c (d ∷ ds) = go (nat_le c.position d.position) (tally-put_in k c ds)
  where
    swap : (a b : Bool) (P T : ℕ) → P ≡ (if b then suc T else T) → (if a then suc P else P) ≡ (if b then suc (if a then suc T else T) else (if a then suc T else T))
    swap true true P T h = ap suc h
    swap true false P T h = ap suc h
    swap false true P T h = h
    swap false false P T h = h

    go : (b : Bool) → tally k (put_in c ds) ≡ tally k (c ∷ ds) → tally k (if b then c ∷ d ∷ ds else d ∷ put_in c ds) ≡ tally k (c ∷ d ∷ ds)
    go true ih = refl
    go false ih = swap (d.position == k) (c.position == k) (tally k (put_in c ds)) (tally k ds) ih

pub tally-in_order : (k : ℕ) (cs : List Placed) → tally k (in_order cs) ≡ tally k cs
tally-in_order k [] = refl
tally-in_order k (c ∷ cs) = tally-put_in k c (in_order cs) ∙ ap (λ n. if c.position == k then suc n else n) (tally-in_order k cs)

tally-change_on : (k o t i : ℕ) (x : Item) → tally k (change_on o t i x) ≡ count k (position_on o x)
tally-change_on k o t i (items.Change q p e) = go (q.0 == o)
  where
    go : (b : Bool) → tally k (if b then record { position = p; thread = t; item = i; entry = e } ∷ [] else []) ≡ count k (if b then p ∷ [] else [])
    go true = refl
    go false = refl
tally-change_on k o t i (items.Look q l) = refl
tally-change_on k o t i (items.Control c) = refl
tally-change_on k o t i (items.Said r) = refl

pub tally-changes_in : (k o t i : ℕ) (xs : List Item) → tally k (changes_in o t i xs) ≡ count k (own_in o xs)
tally-changes_in k o t i [] = refl
tally-changes_in k o t i (x ∷ xs) =
    tally-append k (change_on o t i x) (changes_in o t (i + 1) xs)
    ∙ (ap (λ n. n + tally k (changes_in o t (i + 1) xs)) (tally-change_on k o t i x)
    ∙ (ap (λ n. count k (position_on o x) + n) (tally-changes_in k o t (i + 1) xs)
    ∙ sym (count-append k (position_on o x) (own_in o xs))))

-- ---- own positions of a front

count-low : (k t i : ℕ) (F : List Entry) → k < i → count k (positions t i F) ≡ 0
count-low k t i [] h = refl
count-low k t i (e ∷ F) h = go (e.by.0 == t) (count-low k t (i + 1) F (omega (arith, h)))
  where
    apart : (i == k) ≡ false
    apart = not_equal i k (λ same. omega (arith, same, h))

    go : (b : Bool) → count k (positions t (i + 1) F) ≡ 0 → count k (if b then i ∷ positions t (i + 1) F else positions t (i + 1) F) ≡ 0
    go true ih = rw apart ih
    go false ih = ih

count-there : (j t i : ℕ) (F : List Entry) (e : Entry) → slice_get F j ≡ Some e → count (i + j) (positions t i F) ≡ (if e.by.0 == t then 1 else 0)
count-there j t i [] e h = cc
count-there zero t i (d ∷ F) e h =
    let same : d ≡ e = cc in
    subst (λ (v : Entry). count (i + 0) (positions t i (d ∷ F)) ≡ (if v.by.0 == t then 1 else 0)) same (go (d.by.0 == t))
  where
    low : count (i + 0) (positions t (i + 1) F) ≡ 0
    low = count-low (i + 0) t (i + 1) F (omega arith)

    here : (i == (i + 0)) ≡ true
    here = eq-eqb i (i + 0) (sym (add-zero i))

    go : (b : Bool) → count (i + 0) (if b then i ∷ positions t (i + 1) F else positions t (i + 1) F) ≡ (if b then 1 else 0)
    go true = rw here (ap suc low)
    go false = low
count-there (suc j) t i (d ∷ F) e h =
    let next : (i + 1) + j ≡ i + suc j = omega arith in
    go (d.by.0 == t) (subst (λ n. count n (positions t (i + 1) F) ≡ (if e.by.0 == t then 1 else 0)) next (count-there j t (i + 1) F e h))
  where
    apart : (i == (i + suc j)) ≡ false
    apart = not_equal i (i + suc j) (λ same. omega (arith, same))

    go : (b : Bool) → count (i + suc j) (positions t (i + 1) F) ≡ (if e.by.0 == t then 1 else 0) → count (i + suc j) (if b then i ∷ positions t (i + 1) F else positions t (i + 1) F) ≡ (if e.by.0 == t then 1 else 0)
    go true ih = rw apart ih
    go false ih = ih

pub count-own : (k t : ℕ) (F : List Entry) (e : Entry) → slice_get F k ≡ Some e → count k (positions t 0 F) ≡ (if e.by.0 == t then 1 else 0)
count-own k t F e h = subst (λ n. count n (positions t 0 F) ≡ (if e.by.0 == t then 1 else 0)) (zero-add k) (count-there k t 0 F e h)

-- ---- each position stands once among the lists

-- the own positions of each list are those of its thread in the front
abbrev pub Owned : ℕ → List Entry → ℕ → List (Option (List Item)) → Type 0
Owned o F u [] = Unit {0}
Owned o F u (l ∷ ls) = (positions u 0 F ≡ own_in o (items_of l)) × Owned o F (u + 1) ls

pub owned : (o : ℕ) (F : List Entry) (u : ℕ) (ls : List (Option (List Item))) → ((i : ℕ) → positions (u + i) 0 F ≡ own_in o (items_of (option_and_then (λ l. l) (slice_get ls i)))) → Owned o F u ls
owned o F u [] all = tt
owned o F u (l ∷ ls) all = (subst (λ n. positions n 0 F ≡ own_in o (items_of l)) (add-zero u) (first_ l (all 0)), owned o F (u + 1) ls (λ i. subst (λ n. positions n 0 F ≡ own_in o (items_of (option_and_then (λ l. l) (slice_get ls i)))) (next i) (all (suc i))))
  where
    next : (i : ℕ) → u + suc i ≡ (u + 1) + i
    next i = omega arith

    first_ : (l : Option (List Item)) → positions (u + 0) 0 F ≡ own_in o (items_of (option_and_then (λ l. l) (Some l))) → positions (u + 0) 0 F ≡ own_in o (items_of l)
    first_ None h = h
    first_ (Some xs) h = h

one_list : (k o u : ℕ) (F : List Entry) (e : Entry) (xs : List Item) → slice_get F k ≡ Some e → positions u 0 F ≡ own_in o xs → tally k (changes_in o u 0 xs) ≡ (if e.by.0 == u then 1 else 0)
one_list k o u F e xs at_ own = tally-changes_in k o u 0 xs ∙ (ap (count k) (sym own) ∙ count-own k u F e at_)

tally-before : (k o u : ℕ) (F : List Entry) (e : Entry) (ls : List (Option (List Item))) → slice_get F k ≡ Some e → Owned o F u ls → e.by.0 < u → tally k (changes_from o u ls) ≡ 0
tally-before k o u F e [] at_ own h = refl
tally-before k o u F e (l ∷ ls) at_ own h =
    let apart : (e.by.0 == u) ≡ false = not_equal e.by.0 u (λ same. omega (arith, same, h)) in
    let here : tally k (changes_in o u 0 (items_of l)) ≡ 0 = one_list k o u F e (items_of l) at_ own.0 ∙ ap (λ b. if b then 1 else 0) apart in
    let later = tally-before k o (u + 1) F e ls at_ own.1 (omega (arith, h)) in
    tally-append k (changes_in o u 0 (items_of l)) (changes_from o (u + 1) ls) ∙ omega (arith, here, later)

pub tally-once : (k o u j : ℕ) (F : List Entry) (e : Entry) (ls : List (Option (List Item))) → slice_get F k ≡ Some e → Owned o F u ls → e.by.0 ≡ u + j → j < length ls → tally k (changes_from o u ls) ≡ 1
tally-once k o u j F e [] at_ own by_ h = absurd (omega (arith, h))
tally-once k o u zero F e (l ∷ ls) at_ own by_ h =
    let is_u : (e.by.0 == u) ≡ true = eq-eqb e.by.0 u (by_ ∙ add-zero u) in
    let here : tally k (changes_in o u 0 (items_of l)) ≡ 1 = one_list k o u F e (items_of l) at_ own.0 ∙ ap (λ b. if b then 1 else 0) is_u in
    let later = tally-before k o (u + 1) F e ls at_ own.1 (omega (arith, by_)) in
    tally-append k (changes_in o u 0 (items_of l)) (changes_from o (u + 1) ls) ∙ omega (arith, here, later)
tally-once k o u (suc j) F e (l ∷ ls) at_ own by_ h =
    let apart : (e.by.0 == u) ≡ false = not_equal e.by.0 u (λ same. omega (arith, same, by_)) in
    let here : tally k (changes_in o u 0 (items_of l)) ≡ 0 = one_list k o u F e (items_of l) at_ own.0 ∙ ap (λ b. if b then 1 else 0) apart in
    let later = tally-once k o (u + 1) j F e ls at_ own.1 (omega (arith, by_)) (omega (arith, h)) in
    tally-append k (changes_in o u 0 (items_of l)) (changes_from o (u + 1) ls) ∙ omega (arith, here, later)

-- ---- a list of changes that holds each position of a front once, in order

-- each change is the entry at its position
abbrev pub AreOf : List Entry → List Placed → Type 0
AreOf F [] = Unit {0}
AreOf F (c ∷ cs) = (slice_get F c.position ≡ Some c.entry) × AreOf F cs

pub AreOf-append : (F : List Entry) (cs ds : List Placed) → AreOf F cs → AreOf F ds → AreOf F (cs ++ ds)
AreOf-append F [] ds a b = b
AreOf-append F (c ∷ cs) ds a b = (a.0, AreOf-append F cs ds a.1 b)

AreOf-put_in : (F : List Entry) (c : Placed) (ds : List Placed) → slice_get F c.position ≡ Some c.entry → AreOf F ds → AreOf F (put_in c ds)
AreOf-put_in F c [] h a = (h, tt)
AreOf-put_in F c (d ∷ ds) h a = go (nat_le c.position d.position) (AreOf-put_in F c ds h a.1)
  where
    go : (b : Bool) → AreOf F (put_in c ds) → AreOf F (if b then c ∷ d ∷ ds else d ∷ put_in c ds)
    go true ih = (h, a)
    go false ih = (a.0, ih)

pub AreOf-in_order : (F : List Entry) (cs : List Placed) → AreOf F cs → AreOf F (in_order cs)
AreOf-in_order F [] a = tt
AreOf-in_order F (c ∷ cs) a = AreOf-put_in F c (in_order cs) a.0 (AreOf-in_order F cs a.1)

-- positions don't fall, from p on
abbrev pub Climbs : ℕ → List Placed → Type 0
Climbs p [] = Unit {0}
Climbs p (c ∷ cs) = (p ≤ c.position) × Climbs c.position cs

Climbs-put_in : (p : ℕ) (c : Placed) (ds : List Placed) → p ≤ c.position → Climbs p ds → Climbs p (put_in c ds)
Climbs-put_in p c [] h a = (h, tt)
Climbs-put_in p c (d ∷ ds) h a = go (nat_le c.position d.position) refl (λ k. Climbs-put_in d.position c ds k a.1)
  where
    go : (b : Bool) → nat_le c.position d.position ≡ b → (d.position ≤ c.position → Climbs d.position (put_in c ds)) → Climbs p (if b then c ∷ d ∷ ds else d ∷ put_in c ds)
    go true q ih = (h, (leb-true c.position d.position q, a.1))
    go false q ih = (a.0, ih (grind (arith, common_steps, q)))

pub Climbs-in_order : (cs : List Placed) → Climbs 0 (in_order cs)
Climbs-in_order [] = tt
Climbs-in_order (c ∷ cs) = Climbs-put_in 0 c (in_order cs) (omega arith) (Climbs-in_order cs)

tally-low : (k p : ℕ) (ds : List Placed) → Climbs p ds → k < p → tally k ds ≡ 0
tally-low k p [] a h = refl
tally-low k p (d ∷ ds) a h =
    let apart : (d.position == k) ≡ false = not_equal d.position k (λ same. omega (arith, same, h, a.0)) in
    rw apart (tally-low k d.position ds a.1 (omega (arith, h, a.0)))

Climbs-next : (p : ℕ) (ds : List Placed) → Climbs p ds → tally p ds ≡ 0 → Climbs (p + 1) ds
Climbs-next p [] a h = tt
Climbs-next p (d ∷ ds) a h = go (d.position == p) refl h
  where
    go : (b : Bool) → (d.position == p) ≡ b → (if b then suc (tally p ds) else tally p ds) ≡ 0 → Climbs (p + 1) (d ∷ ds)
    go true q k = absurd (omega (arith, k))
    go false q k = (let ne : d.position ≡ p → ⊥ = eqb-false d.position p q in omega (arith, ne, a.0), a.1)

pub record IsSequence (i : ℕ) (ds : List Placed) (G : List Entry) : Type 0 where
  pub gapless : gap_from i ds ≡ None
  pub is : entries ds ≡ G

-- in a list that climbs from i, is of a front, and has each position of the front from i on once, the changes are the front from i on
pub is_sequence : (i : ℕ) (ds : List Placed) (F G : List Entry) → ((k : ℕ) → slice_get F (i + k) ≡ slice_get G k) → length F ≡ i + length G → Climbs i ds → AreOf F ds → ((k : ℕ) → i ≤ k → k < length F → tally k ds ≡ 1) → IsSequence i ds G
is_sequence i [] F [] same long climbs of_ once = record { gapless = refl; is = refl }
is_sequence i [] F (g ∷ G) same long climbs of_ once =
    let bad : 0 ≡ 1 = once i (omega arith) (omega (arith, long)) in
    absurd (omega (arith, bad))
is_sequence i (d ∷ ds) F [] same long climbs of_ once =
    let low = get-below F d.position d.entry of_.0 in
    absurd (omega (arith, long, low, climbs.0))
is_sequence i (d ∷ ds) F (g ∷ G) same long climbs of_ once = go (d.position == i) refl (is_sequence (i + 1) ds F G (λ k. ap (slice_get F) (next k) ∙ same (suc k)) (omega (arith, long)))
  where
    next : (k : ℕ) → (i + 1) + k ≡ i + suc k
    next k = omega arith

    room : i < length F
    room = omega (arith, long)

    go : (b : Bool) → (d.position == i) ≡ b → (Climbs (i + 1) ds → AreOf F ds → ((k : ℕ) → i + 1 ≤ k → k < length F → tally k ds ≡ 1) → IsSequence (i + 1) ds G) → IsSequence i (d ∷ ds) (g ∷ G)
    go false q again =
        let ne : d.position ≡ i → ⊥ = eqb-false d.position i q in
        let above : i < d.position = omega (arith, ne, climbs.0) in
        let none_ : tally i ds ≡ 0 = tally-low i d.position ds climbs.1 above in
        let one_ : tally i (d ∷ ds) ≡ 1 = once i (omega arith) room in
        let is_none_ : tally i (d ∷ ds) ≡ 0 = rw q none_ in
        absurd (omega (arith, one_, is_none_))
    go true q again =
        let here : d.position ≡ i = eqb-true d.position i q in
        let one_ : tally i (d ∷ ds) ≡ 1 = once i (omega arith) room in
        let one_more : tally i (d ∷ ds) ≡ suc (tally i ds) = rw q refl in
        let none_ : tally i ds ≡ 0 = omega (arith, one_, one_more) in
        let climbs_i : Climbs i ds = subst (λ n. Climbs n ds) here climbs.1 in
        let later : (k : ℕ) → i + 1 ≤ k → k < length F → tally k ds ≡ 1 = λ k low high.
        let apart : (d.position == k) ≡ false = not_equal d.position k (λ e. omega (arith, e, here, low)) in
        let at_k : tally k (d ∷ ds) ≡ 1 = once k (omega (arith, low)) high in
        let skip : tally k (d ∷ ds) ≡ tally k ds = rw apart refl in
        sym skip ∙ at_k in
        let rest = again (Climbs-next i ds climbs_i none_) of_.1 later in
        let first_ : slice_get F (i + 0) ≡ Some g = same 0 in
        let at_i : slice_get F (i + 0) ≡ Some d.entry = subst (λ n. slice_get F n ≡ Some d.entry) (here ∙ sym (add-zero i)) of_.0 in
        let is_g : d.entry ≡ g = cc in
        record {
          gapless = rw q rest.gapless;
          is = ap (λ e. e ∷ entries ds) is_g ∙ ap (λ es. g ∷ es) rest.is;
        }
