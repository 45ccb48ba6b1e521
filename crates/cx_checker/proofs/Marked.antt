-- The marks of the objects and the flags of the threads.
use Rattle.std.proofs.Common.{◌≡◌, ℕ, zero, suc, ◌+◌, ◌<◌, ◌≤◌, ◌==◌, ◌&&◌, ◌||◌, Bool, true, false, List, [], ◌∷◌, ◌++◌, length, map, drop, filter, cond, slice_get, slice_set, get_or, nat_lt, Option, Some, None, unwrap_or, if◌then◌else◌, refl, sym, ap, ◌∙◌, subst, arith, eqb-true, eq-eqb, length-append}
use Rattle.std.proofs.lemmas.Bool.{eqb-false, ltb-true, ltb-false}
use Rattle.std.proofs.lemmas.Option.{slice_get_read, slice_get_within, slice_get_past}
use Rattle.std.proofs.lemmas.List.Elements.{filter-append}
use Rattle.cx_names.specs.declared.ObjectNo.{ObjectNo}
use Rattle.cx_machine.specs.Machine.{State, opening}
use Rattle.cx_machine.specs.declared.kind.Kind.{Kind}
use Rattle.cx_machine.specs.declared.kind.Entry.{Entry}
use Rattle.cx_scene.specs.declared.declared.Object.{Object}
use Rattle.cx_scene.specs.Scene.{Scene, kind_of}
use Rattle.cx_items.specs.declared.item.Item.{Item}
use Rattle.cx_items.specs.declared.item.Item.TheVariants as items
use Rattle.cx_items.specs.Next.{is_due}
use Rattle.cx_history.specs.Histories.{Recorded, Placed, items_of, list_of, is_at, change_on, changes_in, changes_from, changes_of}
use Rattle.cx_history.specs.Follows.{completes, completes_by, starts, any_starts, has_started}
use Rattle.cx_checker.specs.declared.marking.Marks.{Marks}
use Rattle.cx_checker.specs.Marks.{marked, marked_at, IsHeldAt, AreCompletions, AreMarks, AreStarted}
use Rattle.cx_checker.specs.Views.{AreHistories}
use Rattle.cx_checker.proofs.Gathering.{drop_at, drop_past, get_set_same, get_set_other}

-- ---- an item of the record holds its position

count : ℕ → List Placed → ℕ
count p cs = length (filter (is_at p) cs)

count_append : (p : ℕ) (xs ys : List Placed) → count p (xs ++ ys) ≡ count p xs + count p ys
unfolding count
count_append p xs ys = ap length (filter-append (is_at p) xs ys) ∙ length-append (filter (is_at p) xs) (filter (is_at p) ys)

held_on : (o : ObjectNo) (t i p : ℕ) (e : Entry) → 0 < count p (change_on o.0 t i (items.Change o p e))
unfolding count
held_on o t i p e = go (o.0 == o.0) (eq-eqb o.0 o.0 refl) (p == p) (eq-eqb p p refl)
  where
    go : (b : Bool) → b ≡ true → (a : Bool) → a ≡ true → 0 < length (filter (is_at p) (if b then record { position = p; thread = t; item = i; entry = e } ∷ [] else []))
    go false h a k = cc
    go true h a k = let yes_ : (p == p) ≡ true = eq-eqb p p refl in rw yes_ (omega arith)

held_in : (o : ObjectNo) (t i j p : ℕ) (e : Entry) (xs : List Item) → slice_get xs j ≡ Some (items.Change o p e) → 0 < count p (changes_in o.0 t i xs)
held_in o t i j p e [] h = cc
held_in o t i zero p e (x ∷ xs) h =
    let same : x ≡ items.Change o p e = cc in
    omega (arith, count_append p (change_on o.0 t i x) (changes_in o.0 t (i + 1) xs), subst (λ (y : Item). 0 < count p (change_on o.0 t i y)) (sym same) (held_on o t i p e))
held_in o t i (suc j) p e (x ∷ xs) h = omega (arith, count_append p (change_on o.0 t i x) (changes_in o.0 t (i + 1) xs), held_in o t (i + 1) j p e xs h)

held_from : (o : ObjectNo) (u t j p : ℕ) (e : Entry) (ls : List (Option (List Item))) (l : Option (List Item)) → slice_get ls t ≡ Some l → slice_get (items_of l) j ≡ Some (items.Change o p e) → 0 < count p (changes_from o.0 u ls)
held_from o u t j p e [] l h k = cc
held_from o u zero j p e (m ∷ ms) l h k =
    let same : l ≡ m = cc in
    omega (arith, count_append p (changes_in o.0 u 0 (items_of m)) (changes_from o.0 (u + 1) ms), held_in o u 0 j p e (items_of m) (subst (λ (n : Option (List Item)). slice_get (items_of n) j ≡ Some (items.Change o p e)) same k))
held_from o u (suc t) j p e (m ∷ ms) l h k = omega (arith, count_append p (changes_in o.0 u 0 (items_of m)) (changes_from o.0 (u + 1) ms), held_from o (u + 1) t j p e ms l h k)

pub item_held : (r : Recorded) (o : ObjectNo) (t j p : ℕ) (e : Entry) (l : Option (List Item)) → slice_get r.lists t ≡ Some l → slice_get (items_of l) j ≡ Some (items.Change o p e) → IsHeldAt p (changes_of r o.0)
unfolding count
item_held r o t j p e l h k = held_from o 0 t j p e r.lists l h k

-- ---- the marks say when a completion is due

pub due_is : (s : Scene) (r : Recorded) (marks : List Marks) (t j : ℕ) (l : Option (List Item)) (x : Item) → AreMarks s r marks → slice_get r.lists t ≡ Some l → slice_get (items_of l) j ≡ Some x → is_due (marked_at marks) x ≡ is_due (completes s r) x
due_is s r marks t j l (items.Look o k) are there_ at_ = refl
due_is s r marks t j l (items.Control k) are there_ at_ = refl
due_is s r marks t j l (items.Said k) are there_ at_ = refl
due_is s r marks t j l (items.Change o p e) are there_ at_ = go (slice_get s.objects o.0) (slice_get marks o.0) refl refl
  where
    past : {X : Type 0} (xs : List X) (n : ℕ) → slice_get xs n ≡ None → length xs ≤ n
    past [] n h = omega arith
    past (y ∷ ys) zero h = cc
    past (y ∷ ys) (suc n) h = omega (arith, past ys n h)

    go : (d : Option Object) (m : Option Marks) → slice_get s.objects o.0 ≡ d → slice_get marks o.0 ≡ m → (let w : Bool = elim m [ None ↦ false | Some n ↦ marked n.marks.items p ] in let v : Bool = elim d [ None ↦ false | Some b ↦ completes_by (opening (kind_of b)) (changes_of r o.0) p ] in w ≡ v)
    go None None ed em = refl
    go None (Some m) ed em =
        let far = past s.objects o.0 ed in
        let near = slice_get_within marks o.0 m em in
        absurd (omega (arith, far, near, are.count_is))
    go (Some d) None ed em =
        let far = past marks o.0 em in
        let near = slice_get_within s.objects o.0 d ed in
        absurd (omega (arith, far, near, are.count_is))
    go (Some d) (Some m) ed em = are.each o.0 d m ed em p (item_held r o t j p e l there_ at_)

-- ---- one object more

before : {X : Type 0} (xs : List X) (y : X) (n : ℕ) → n < length xs → slice_get (xs ++ y ∷ []) n ≡ slice_get xs n
before [] y n h = absurd (omega arith)
before (x ∷ xs) y zero h = refl
before (x ∷ xs) y (suc n) h = before xs y n (omega arith)

last_ : {X : Type 0} (xs : List X) (y : X) → slice_get (xs ++ y ∷ []) (length xs) ≡ Some y
last_ [] y = refl
last_ (x ∷ xs) y = last_ xs y

pub marks_more : (s : Scene) (r : Recorded) (all : List Marks) (new : Marks) (o : ℕ) (hs : List (List Placed)) (h : List Placed) (d : Object) (kind : Kind) → AreHistories r (length s.objects) hs → o < length hs → h ≡ get_or hs o h → d ≡ get_or s.objects o d → kind ≡ kind_of d → AreCompletions (opening kind) h new.marks.items → length all ≡ o → ((q : ℕ) (b : Object) (m : Marks) → slice_get s.objects q ≡ Some b → slice_get all q ≡ Some m → AreCompletions (opening (kind_of b)) (changes_of r q) m.marks.items) → (q : ℕ) (b : Object) (m : Marks) → slice_get s.objects q ≡ Some b → slice_get (all ++ new ∷ []) q ≡ Some m → AreCompletions (opening (kind_of b)) (changes_of r q) m.marks.items
marks_more s r all new o hs h d kind are low at_h at_d is marks long each q b m got_b got_m = go (nat_lt q o) refl
  where
    go : (c : Bool) → nat_lt q o ≡ c → AreCompletions (opening (kind_of b)) (changes_of r q) m.marks.items
    go true e =
        let l : q < o = ltb-true q o e in
        each q b m got_b (sym (before all new q (omega (arith, long, l))) ∙ got_m)
    go false e =
        let l : o ≤ q = ltb-false q o e in
        let high : q < length (all ++ new ∷ []) = slice_get_within (all ++ new ∷ []) q m got_m in
        let same : o ≡ q = omega (arith, l, high, long, length-append all (new ∷ [])) in
        let new_is : new ≡ m = let there_ : slice_get (all ++ new ∷ []) q ≡ Some new = subst (λ n. slice_get (all ++ new ∷ []) n ≡ Some new) (long ∙ same) (last_ all new) in cc in
        let there_d : slice_get s.objects o ≡ Some d = slice_get_read s.objects (length hs) o d are.count_is low at_d in
        let d_is : d ≡ b = let got : slice_get s.objects o ≡ Some b = ap (slice_get s.objects) same ∙ got_b in cc in
        let h_is : h ≡ changes_of r q = are.each o h (slice_get_read hs (length hs) o h refl low at_h) ∙ ap (changes_of r) same in
        subst (λ (n : Marks). AreCompletions (opening (kind_of b)) (changes_of r q) n.marks.items) new_is
        (subst (λ (cs : List Placed). AreCompletions (opening (kind_of b)) cs new.marks.items) h_is
        (subst (λ (k : Kind). AreCompletions (opening k) h new.marks.items) (is ∙ ap kind_of d_is) marks))

-- ---- flags

pub flag_more : (flags : List Bool) (b : Bool) (n : ℕ) → length flags ≡ n → b ≡ (n == 0) → ((t : ℕ) → t < length flags → marked flags t ≡ (t == 0)) → (t : ℕ) → t < length (flags ++ b ∷ []) → marked (flags ++ b ∷ []) t ≡ (t == 0)
flag_more flags b n long is each t low = go (nat_lt t n) refl
  where
    go : (c : Bool) → nat_lt t n ≡ c → marked (flags ++ b ∷ []) t ≡ (t == 0)
    go true e =
        let l : t < n = ltb-true t n e in
        let short : t < length flags = omega (arith, long, l) in
        ap (λ o. unwrap_or o false) (before flags b t short) ∙ each t short
    go false e =
        let l : n ≤ t = ltb-false t n e in
        let same : length flags ≡ t = omega (arith, long, l, low, length-append flags (b ∷ [])) in
        let same_n : n ≡ t = sym long ∙ same in
        ap (λ o. unwrap_or o false) (subst (λ m. slice_get (flags ++ b ∷ []) m ≡ Some b) same (last_ flags b)) ∙ (is ∙ ap (λ m. m == 0) same_n)

or_false : (b : Bool) → b ≡ (b || false)
or_false true = refl
or_false false = refl

or_true : (b : Bool) → true ≡ (b || true)
or_true true = refl
or_true false = refl

pub flag_set : (flags : List Bool) (u t : ℕ) → u < length flags → t < length flags → marked (slice_set flags u true) t ≡ (marked flags t || (true && (u == t)))
flag_set flags u t low low_t = go (u == t) refl
  where
    go : (b : Bool) → (u == t) ≡ b → marked (slice_set flags u true) t ≡ (marked flags t || b)
    go true e =
        let same : u ≡ t = eqb-true u t e in
        ap (λ o. unwrap_or o false) (subst (λ n. slice_get (slice_set flags u true) n ≡ Some true) same (get_set_same flags u true low)) ∙ or_true (marked flags t)
    go false e = ap (λ o. unwrap_or o false) (get_set_other flags u t true (eqb-false u t e)) ∙ or_false (marked flags t)

pub flag_kept : (flags : List Bool) (u t : ℕ) → length flags ≤ u → t < length flags → marked flags t ≡ (marked flags t || (true && (u == t)))
flag_kept flags u t past low = go (u == t) refl
  where
    go : (b : Bool) → (u == t) ≡ b → marked flags t ≡ (marked flags t || b)
    go true e = let same : u ≡ t = eqb-true u t e in absurd (omega arith)
    go false e = or_false (marked flags t)

pub flag_not : (b : Bool) → b ≡ (b || false)
flag_not b = or_false b

or_assoc : (a b c : Bool) → ((a || b) || c) ≡ (a || (b || c))
or_assoc true b c = refl
or_assoc false b c = refl

pub started_more : (r : Recorded) (t i : ℕ) (xs : List Item) (x : Item) (old new : Bool) → slice_get xs i ≡ Some x → new ≡ (old || starts t x) → (old || any_starts t (drop i xs)) ≡ has_started r t → (new || any_starts t (drop (i + 1) xs)) ≡ has_started r t
started_more r t i xs x old new at_ is so_far =
    ap (λ b. b || any_starts t (drop (i + 1) xs)) is
    ∙ (or_assoc old (starts t x) (any_starts t (drop (i + 1) xs))
    ∙ (ap (λ ys. old || any_starts t ys) (sym (drop_at xs i x at_)) ∙ so_far))

pub started_all : (r : Recorded) (t i : ℕ) (xs : List Item) (flag : Bool) → length xs ≤ i → (flag || any_starts t (drop i xs)) ≡ has_started r t → flag ≡ has_started r t
started_all r t i xs flag past so_far = or_false flag ∙ (ap (λ ys. flag || any_starts t ys) (sym (drop_past xs i past)) ∙ so_far)

pub started_first : (r : Recorded) (t : ℕ) (xs : List Item) (flag : Bool) → xs ≡ list_of r 0 → flag ≡ (t == 0) → (flag || any_starts t xs) ≡ has_started r t
started_first r t xs flag is main = ap (λ b. b || any_starts t xs) main ∙ ap (λ ys. (t == 0) || any_starts t ys) is
