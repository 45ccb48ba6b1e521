-- What is known and owed, item by item.
use Rattle.std.proofs.Common.{◌≡◌, ℕ, zero, suc, ◌+◌, ◌<◌, ◌≤◌, ◌==◌, Bool, true, false, List, [], ◌∷◌, ◌++◌, length, map, drop, take, slice_get, get_or, max, nat_lt, Option, Some, None, option_map, option_and_then, if◌then◌else◌, refl, sym, ap, ◌∙◌, subst, arith, add-one, eqb-true, eq-eqb}
use Rattle.std.proofs.lemmas.Bool.{eqb-false, ltb-true, ltb-false}
use Rattle.std.proofs.lemmas.Option.{slice_get-map, slice_get_read, slice_get_past}
use Rattle.cx_items.specs.declared.item.Item.{Item}
use Rattle.cx_history.specs.declared.record.Record.{Record}
use Rattle.cx_history.specs.declared.record.List.{List as ThreadList}
use Rattle.cx_history.specs.declared.flaw.Flaw.{Flaw}
use Rattle.cx_history.specs.declared.flaw.Cause.{Cause}
use Rattle.cx_history.specs.declared.flaw.Cause.TheVariants as causes
use Rattle.cx_history.specs.Histories.{Recorded, Knowing, Begun as BegunAt, items_of, list_of, place_after, place_from, place_at_end, known_at_start, knows_after, knows_from, knowing, owed}
use Rattle.cx_history.specs.Legal.{is_at_least}
use Rattle.cx_history.specs.Flaw.{flaw, first_in, first_of_items}
use Rattle.cx_history.specs.Views.{listed, recorded_of}
use Rattle.cx_checker.specs.declared.places.Places.{Places}
use Rattle.cx_checker.specs.declared.known.Begun.{Begun}
use Rattle.cx_checker.specs.declared.known.Known.{Known}
use Rattle.cx_checker.specs.Knowledge.{place_in, place_of, begun_at, knowing_at, AreEnds}
use Rattle.cx_checker.proofs.Gathering.{drop_at, drop_past}
use Rattle.cx_checker.proofs.ByObjects.{there}
use Rattle.cx_checker.proofs.Firsts.{list_there, good_list, bad_list, agree, at_least_agree}

-- ---- raising

-- below i it is raised
abbrev pub raised_below : ℕ → ℕ → ℕ → ℕ → ℕ
raised_below i q old other = if nat_lt q i then max old other else old

pub raise_more : (i q old other now new n most : ℕ) → n ≡ i → (i ≡ q → most ≡ max now other) → now ≡ raised_below i q old other → new ≡ (if n == q then most else now) → new ≡ raised_below (i + 1) q old other
raise_more i q old other now new n most same is so_far put = go (n == q) (nat_lt q i) (nat_lt q (i + 1)) refl refl refl so_far put
  where
    go : (b c d : Bool) → (n == q) ≡ b → nat_lt q i ≡ c → nat_lt q (i + 1) ≡ d → now ≡ (if c then max old other else old) → new ≡ (if b then most else now) → new ≡ (if d then max old other else old)
    go true true d eb ec ed k p =
        let e : n ≡ q = eqb-true n q eb in
        let l : q < i = ltb-true q i ec in
        absurd (omega arith)
    go true false true eb ec ed k p =
        let e : n ≡ q = eqb-true n q eb in
        p ∙ (is (sym same ∙ e) ∙ ap (λ m. max m other) k)
    go true false false eb ec ed k p =
        let e : n ≡ q = eqb-true n q eb in
        let l : i + 1 ≤ q = ltb-false q (i + 1) ed in
        absurd (omega arith)
    go false true true eb ec ed k p = p ∙ k
    go false true false eb ec ed k p =
        let l : q < i = ltb-true q i ec in
        let m : i + 1 ≤ q = ltb-false q (i + 1) ed in
        absurd (omega arith)
    go false false true eb ec ed k p =
        let l : q < i + 1 = ltb-true q (i + 1) ed in
        let m : i ≤ q = ltb-false q i ec in
        let ne : n ≡ q → ⊥ = eqb-false n q eb in
        absurd (ne (omega (arith, same, l, m)))
    go false false false eb ec ed k p = p ∙ k

get_past : (xs : List ℕ) (q : ℕ) → length xs ≤ q → get_or xs q 0 ≡ 0
get_past [] zero h = refl
get_past [] (suc q) h = refl
get_past (x ∷ xs) zero h = absurd (omega arith)
get_past (x ∷ xs) (suc q) h = get_past xs q (omega arith)

pub raise_end : (i q old new : ℕ) (others : List ℕ) → length others ≤ i → new ≡ raised_below i q old (get_or others q 0) → new ≡ max old (get_or others q 0)
raise_end i q old new others past so_far = go (nat_lt q i) refl so_far
  where
    go : (c : Bool) → nat_lt q i ≡ c → new ≡ (if c then max old (get_or others q 0) else old) → new ≡ max old (get_or others q 0)
    go true e k = k
    go false e k =
        let l : i ≤ q = ltb-false q i e in
        let none : get_or others q 0 ≡ 0 = get_past others q (omega arith) in
        let still : old ≡ max old 0 = omega arith in
        k ∙ (still ∙ ap (max old) (sym none))

pub raise_begin : (q old : ℕ) (other : ℕ) → old ≡ raised_below 0 q old other
raise_begin q old other = go (nat_lt q 0) refl
  where
    go : (c : Bool) → nat_lt q 0 ≡ c → old ≡ (if c then max old other else old)
    go true e = let l : q < 0 = ltb-true q 0 e in absurd (omega arith)
    go false e = refl

-- ---- what was known at a start

pub start_here : (o t i : ℕ) (bs : List Begun) (b : Begun) (known : ℕ) → slice_get bs i ≡ Some b → b.thread ≡ t → known ≡ known_at_start (drop i (map (begun_at o) bs)) t → known ≡ place_in b.known o
start_here o t i bs b known at_ is so_far =
    let there_ : slice_get (map (begun_at o) bs) i ≡ Some (begun_at o b) = slice_get-map (begun_at o) bs i ∙ ap (option_map (begun_at o)) at_ in
    let yes_ : (b.thread == t) ≡ true = eq-eqb b.thread t is in
    so_far ∙ (ap (λ ys. known_at_start ys t) (drop_at (map (begun_at o) bs) i (begun_at o b) there_) ∙ ap (λ c. if c then place_in b.known o else known_at_start (drop (i + 1) (map (begun_at o) bs)) t) yes_)

pub start_later : (o t i : ℕ) (bs : List Begun) (b : Begun) (known : ℕ) → slice_get bs i ≡ Some b → (b.thread ≡ t → ⊥) → known ≡ known_at_start (drop i (map (begun_at o) bs)) t → known ≡ known_at_start (drop (i + 1) (map (begun_at o) bs)) t
start_later o t i bs b known at_ is so_far =
    let there_ : slice_get (map (begun_at o) bs) i ≡ Some (begun_at o b) = slice_get-map (begun_at o) bs i ∙ ap (option_map (begun_at o)) at_ in
    so_far ∙ (ap (λ ys. known_at_start ys t) (drop_at (map (begun_at o) bs) i (begun_at o b) there_) ∙ ap (λ c. if c then place_in b.known o else known_at_start (drop (i + 1) (map (begun_at o) bs)) t) (away (b.thread == t) refl))
  where
    away : (c : Bool) → (b.thread == t) ≡ c → c ≡ false
    away true e = absurd (is (eqb-true b.thread t e))
    away false e = refl

length_map : {X Y : Type 0} (f : X → Y) (xs : List X) → length (map f xs) ≡ length xs
length_map f [] = refl
length_map f (x ∷ xs) = ap suc (length_map f xs)

-- ---- main's list

knows_more_suc : (r : Recorded) (o i : ℕ) (k : Knowing) (xs : List Item) (x : Item) → slice_get xs i ≡ Some x → knows_from r o k (take (suc i) xs) ≡ knows_after r o (knows_from r o k (take i xs)) x
knows_more_suc r o i k [] x h = cc
knows_more_suc r o zero k (y ∷ ys) x h = let same : y ≡ x = cc in ap (knows_after r o k) same
knows_more_suc r o (suc i) k (y ∷ ys) x h = knows_more_suc r o i (knows_after r o k y) ys x h

pub knows_more : (r : Recorded) (o i : ℕ) (x : Item) → slice_get (list_of r 0) i ≡ Some x → knowing r (i + 1) o ≡ knows_after r o (knowing r i o) x
knows_more r o i x h = rw add-one (knows_more_suc r o i (record { place = 0; owed = 0; begun = [] }) (list_of r 0) x h)

-- ---- threads

pub list_found : (r : Record) (t : ℕ) → t < length r.lists.items → (l : Option (List Item)) × (slice_get (recorded_of r).lists t ≡ Some l) × (list_of (recorded_of r) t ≡ items_of l)
list_found r t low = let l = there r.lists.items t low in let q = list_there r t l.0 l.1 in (listed l.0, q.0, q.1)

pub good_list_at : (cause : Cause) (good : ℕ → ℕ → Item → Bool) (t : ℕ) (r : Record) (all : Option Flaw) → t < length r.lists.items → first_in cause good t 0 (list_of (recorded_of r) t) ≡ None → all ≡ first_of_items cause good t (drop t (recorded_of r).lists) → all ≡ first_of_items cause good (t + 1) (drop (t + 1) (recorded_of r).lists)
good_list_at cause good t r all low is so_far =
    let l = list_found r t low in
    good_list cause good t (recorded_of r).lists l.0 all l.1 (ap (first_in cause good t 0) (sym l.2) ∙ is) so_far

pub bad_list_at : (cause : Cause) (good : ℕ → ℕ → Item → Bool) (t : ℕ) (r : Record) (all : Option Flaw) (f : Flaw) → t < length r.lists.items → first_in cause good t 0 (list_of (recorded_of r) t) ≡ Some f → all ≡ first_of_items cause good t (drop t (recorded_of r).lists) → Some f ≡ all
bad_list_at cause good t r all f low is so_far =
    let l = list_found r t low in
    bad_list cause good t (recorded_of r).lists l.0 all f l.1 (ap (first_in cause good t 0) (sym l.2) ∙ is) so_far

-- what another thread than main owes
pub owed_there : (r : Recorded) (t i o : ℕ) → 0 < t → owed r t i o ≡ known_at_start (knowing r (length (list_of r 0)) o).begun t
owed_there r t i o h = go (t == 0) refl
  where
    go : (b : Bool) → (t == 0) ≡ b → (if b then (knowing r i o).owed else known_at_start (knowing r (length (list_of r 0)) o).begun t) ≡ known_at_start (knowing r (length (list_of r 0)) o).begun t
    go true e = let z : t ≡ 0 = eqb-true t 0 e in absurd (omega arith)
    go false e = refl

pub owed_in : (r : Recorded) (t n : ℕ) (xs : List Item) (k : Known) (p old : Places) (found : Option Flaw) → 0 < t → n ≡ t → xs ≡ list_of r t → ((o : ℕ) → knowing_at o k ≡ knowing r (length (list_of r 0)) o) → ((o : ℕ) → place_in old o ≡ 0) → ((o : ℕ) → place_in p o ≡ max (place_in old o) (known_at_start (map (begun_at o) k.begun.items) n)) → found ≡ first_in causes.Order (λ u i x. is_at_least (place_in p) x) n 0 xs → first_in causes.Order (λ u i x. is_at_least (owed r u i) x) t 0 (list_of r t) ≡ found
owed_in r t n xs k p old found later same is knows none raised first =
    agree causes.Order (λ u i x. is_at_least (owed r u i) x) (λ u i x. is_at_least (place_in p) x) t 0 (list_of r t)
    (λ j x. at_least_agree (owed r t j) (place_in p) x (λ o. owed_there r t j o later ∙ sym (seen o)))
    ∙ (ap (first_in causes.Order (λ u i x. is_at_least (place_in p) x) t 0) (sym is)
    ∙ (ap (λ m. first_in causes.Order (λ u i x. is_at_least (place_in p) x) m 0 xs) (sym same) ∙ sym first))
  where
    seen : (o : ℕ) → place_in p o ≡ known_at_start (knowing r (length (list_of r 0)) o).begun t
    seen o =
        let zero_ : max 0 (known_at_start (map (begun_at o) k.begun.items) n) ≡ known_at_start (map (begun_at o) k.begun.items) n = omega arith in
        raised o ∙ (ap (λ m. max m (known_at_start (map (begun_at o) k.begun.items) n)) (none o) ∙ (zero_ ∙ (ap (λ m. known_at_start (map (begun_at o) k.begun.items) m) same ∙ ap (λ (q : Knowing). known_at_start q.begun t) (knows o))))

-- ---- ends

pub ends_more : (r : Recorded) (ends : List Places) (t o : ℕ) (p : Places) → t ≡ length ends → ((o : ℕ) → place_in p o ≡ place_at_end r t o) → ((u : ℕ) → u < t → place_of (slice_get ends u) o ≡ place_at_end r u o) → (u : ℕ) → u < t + 1 → place_of (slice_get (ends ++ p ∷ []) u) o ≡ place_at_end r u o
ends_more r ends t o p long is each u low = go (nat_lt u t) refl
  where
    before : (es : List Places) (n : ℕ) → n < length es → slice_get (es ++ p ∷ []) n ≡ slice_get es n
    before [] n h = absurd (omega arith)
    before (e ∷ es) zero h = refl
    before (e ∷ es) (suc n) h = before es n (omega arith)

    last_ : (es : List Places) → slice_get (es ++ p ∷ []) (length es) ≡ Some p
    last_ [] = refl
    last_ (e ∷ es) = last_ es

    go : (b : Bool) → nat_lt u t ≡ b → place_of (slice_get (ends ++ p ∷ []) u) o ≡ place_at_end r u o
    go true e =
        let l : u < t = ltb-true u t e in
        ap (λ x. place_of x o) (before ends u (omega arith)) ∙ each u l
    go false e =
        let l : t ≤ u = ltb-false u t e in
        let same : length ends ≡ u = omega (arith, long, l, low) in
        let same_t : t ≡ u = long ∙ same in
        ap (λ x. place_of x o) (subst (λ n. slice_get (ends ++ p ∷ []) n ≡ Some p) same (last_ ends)) ∙ (is o ∙ ap (λ n. place_at_end r n o) same_t)

pub ends_all : (r : Record) (ends : List Places) (t : ℕ) → length r.lists.items ≤ t → length ends ≡ t → ((u o : ℕ) → u < t → place_of (slice_get ends u) o ≡ place_at_end (recorded_of r) u o) → AreEnds (recorded_of r) ends
ends_all r ends t past long each u o = go (nat_lt u t) refl
  where
    go : (b : Bool) → nat_lt u t ≡ b → place_of (slice_get ends u) o ≡ place_at_end (recorded_of r) u o
    go true e = each u o (ltb-true u t e)
    go false e =
        let l : t ≤ u = ltb-false u t e in
        let none : slice_get ends u ≡ None = slice_get_past ends u (omega arith) in
        let no_list : slice_get (map listed r.lists.items) u ≡ None = slice_get_past (map listed r.lists.items) u (omega (arith, length_map listed r.lists.items, past, l)) in
        ap (λ x. place_of x o) none ∙ sym (ap (λ (x : Option (Option (List Item))). place_from o 0 (items_of (option_and_then (λ k. k) x))) no_list)

-- ---- the first start of a thread

pub start_found : (o t i : ℕ) (bs : List Begun) (start b : Begun) (known : ℕ) → i < length bs → start ≡ get_or bs i start → start.thread ≡ t → slice_get bs i ≡ Some b → known ≡ known_at_start (drop i (map (begun_at o) bs)) t → known ≡ place_in b.known o
start_found o t i bs start b known low read is got so_far =
    let here : slice_get bs i ≡ Some start = slice_get_read bs (length bs) i start refl low read in
    let same : start ≡ b = cc in
    start_here o t i bs b known got (ap (λ (x : Begun). x.thread) (sym same) ∙ is) so_far

pub start_later_at : (o t i : ℕ) (bs : List Begun) (start : Begun) (known : ℕ) → i < length bs → start ≡ get_or bs i start → (start.thread ≡ t → ⊥) → known ≡ known_at_start (drop i (map (begun_at o) bs)) t → known ≡ known_at_start (drop (i + 1) (map (begun_at o) bs)) t
start_later_at o t i bs start known low read is so_far = start_later o t i bs start known (slice_get_read bs (length bs) i start refl low read) is so_far

pub start_past : (bs : List Begun) (b : Begun) → slice_get bs (length bs) ≡ Some b → ⊥
start_past [] b h = cc
start_past (c ∷ cs) b h = start_past cs b h

pub start_none : (o t i : ℕ) (bs : List Begun) (known : ℕ) → length bs ≤ i → known ≡ known_at_start (drop i (map (begun_at o) bs)) t → known ≡ 0
start_none o t i bs known past so_far =
    let end : length (map (begun_at o) bs) ≤ i = omega (arith, length_map (begun_at o) bs, past) in
    so_far ∙ ap (λ ys. known_at_start ys t) (drop_past (map (begun_at o) bs) i end)

pub raised_there : (o : ℕ) (bs : List Begun) (i : ℕ) (start : Begun) (new old known : ℕ) → i < length bs → start ≡ get_or bs i start → new ≡ max old (place_in start.known o) → ((b : Begun) → slice_get bs i ≡ Some b → known ≡ place_in b.known o) → new ≡ max old known
raised_there o bs i start new old known low read put is = put ∙ ap (max old) (sym (is start (slice_get_read bs (length bs) i start refl low read)))

pub nothing_raised : (old known : ℕ) → known ≡ 0 → old ≡ max old known
nothing_raised old known none = let still : old ≡ max old 0 = omega arith in still ∙ ap (max old) (sym none)
