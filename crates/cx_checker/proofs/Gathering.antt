-- What is gathered item by item, and list by list.
use Rattle.std.proofs.Common.{◌≡◌, ℕ, zero, suc, ◌+◌, ◌<◌, ◌≤◌, ◌==◌, Bool, true, false, List, [], ◌∷◌, ◌++◌, length, map, drop, take, filter, cond, slice_get, slice_set, get_or, Option, Some, None, option_map, if◌then◌else◌, refl, sym, ap, ◌∙◌, subst, arith, append_assoc, append-nil, add-one, eqb-true, eq-eqb}
use Rattle.std.proofs.lemmas.Option.{slice_get-map}
use Rattle.cx_items.specs.declared.item.Item.{Item}
use Rattle.cx_history.specs.declared.record.List.{List as ThreadList}
use Rattle.cx_history.specs.Histories.{Placed, items_of, change_on, changes_in, changes_from}
use Rattle.cx_history.specs.Views.{listed}
use Rattle.std.proofs.lemmas.Option.{slice_get_read}
use Rattle.cx_checker.specs.declared.by_object.Change.{Change}
use Rattle.cx_checker.specs.declared.by_object.Changes.{Changes}
use Rattle.cx_checker.specs.Views.{placed_of, placed_in, changes_at}

-- the first of what is left
drop_at_suc : {X : Type 0} (xs : List X) (i : ℕ) (x : X) → slice_get xs i ≡ Some x → drop i xs ≡ x ∷ drop (suc i) xs
drop_at_suc [] i x h = cc
drop_at_suc (y ∷ ys) zero x h = let same : y ≡ x = cc in ap (λ z. z ∷ ys) same
drop_at_suc (y ∷ ys) (suc i) x h = drop_at_suc ys i x h

pub drop_at : {X : Type 0} (xs : List X) (i : ℕ) (x : X) → slice_get xs i ≡ Some x → drop i xs ≡ x ∷ drop (i + 1) xs
drop_at xs i x h = rw add-one (drop_at_suc xs i x h)

pub drop_past : {X : Type 0} (xs : List X) (i : ℕ) → length xs ≤ i → drop i xs ≡ []
drop_past [] zero h = refl
drop_past [] (suc i) h = refl
drop_past (x ∷ xs) zero h = absurd (omega arith)
drop_past (x ∷ xs) (suc i) h = drop_past xs i (omega arith)

pub get_set_same : {X : Type 0} (xs : List X) (i : ℕ) (x : X) → i < length xs → slice_get (slice_set xs i x) i ≡ Some x
get_set_same [] i x h = absurd (omega arith)
get_set_same (y ∷ ys) zero x h = refl
get_set_same (y ∷ ys) (suc i) x h = get_set_same ys i x (omega arith)

pub get_set_other : {X : Type 0} (xs : List X) (i k : ℕ) (x : X) → (i ≡ k → ⊥) → slice_get (slice_set xs i x) k ≡ slice_get xs k
get_set_other [] i k x h = refl
get_set_other (y ∷ ys) zero zero x h = absurd (h refl)
get_set_other (y ∷ ys) zero (suc k) x h = refl
get_set_other (y ∷ ys) (suc i) zero x h = refl
get_set_other (y ∷ ys) (suc i) (suc k) x h = get_set_other ys i k x (λ e. h (ap suc e))

pub item_more : (q t i : ℕ) (xs : List Item) (x : Item) (now new total : List Placed) → slice_get xs i ≡ Some x → now ++ changes_in q t i (drop i xs) ≡ total → new ≡ now ++ change_on q t i x → new ++ changes_in q t (i + 1) (drop (i + 1) xs) ≡ total
item_more q t i xs x now new total at_ so_far put =
    ap (λ cs. cs ++ changes_in q t (i + 1) (drop (i + 1) xs)) put
    ∙ (append_assoc now (change_on q t i x) (changes_in q t (i + 1) (drop (i + 1) xs))
    ∙ (ap (λ ys. now ++ changes_in q t i ys) (sym (drop_at xs i x at_)) ∙ so_far))

pub items_done : (q t i : ℕ) (xs : List Item) (now total : List Placed) → length xs ≤ i → now ++ changes_in q t i (drop i xs) ≡ total → now ≡ total
items_done q t i xs now total past so_far = sym (append-nil now) ∙ (ap (λ ys. now ++ changes_in q t i ys) (sym (drop_past xs i past)) ∙ so_far)

pub list_more : (q t : ℕ) (ls : List ThreadList) (l : ThreadList) (now new total : List Placed) → slice_get ls t ≡ Some l → now ++ changes_from q t (drop t (map listed ls)) ≡ total → new ≡ now ++ changes_in q t 0 (items_of (listed l)) → new ++ changes_from q (t + 1) (drop (t + 1) (map listed ls)) ≡ total
list_more q t ls l now new total at_ so_far put =
    let there : slice_get (map listed ls) t ≡ Some (listed l) = slice_get-map listed ls t ∙ ap (option_map listed) at_ in
    ap (λ cs. cs ++ changes_from q (t + 1) (drop (t + 1) (map listed ls))) put
    ∙ (append_assoc now (changes_in q t 0 (items_of (listed l))) (changes_from q (t + 1) (drop (t + 1) (map listed ls)))
    ∙ (ap (λ ys. now ++ changes_from q t ys) (sym (drop_at (map listed ls) t (listed l) there)) ∙ so_far))

length_map : {X Y : Type 0} (f : X → Y) (xs : List X) → length (map f xs) ≡ length xs
length_map f [] = refl
length_map f (x ∷ xs) = ap suc (length_map f xs)

pub lists_done : (q t : ℕ) (ls : List ThreadList) (now total : List Placed) → length ls ≤ t → now ++ changes_from q t (drop t (map listed ls)) ≡ total → now ≡ total
lists_done q t ls now total past so_far =
    let end : length (map listed ls) ≤ t = omega (arith, length_map listed ls, past) in
    sym (append-nil now) ∙ (ap (λ ys. now ++ changes_from q t ys) (sym (drop_past (map listed ls) t end)) ∙ so_far)

map_push : {X Y : Type 0} (f : X → Y) (xs : List X) (x : X) → map f (xs ++ x ∷ []) ≡ map f xs ++ f x ∷ []
map_push f [] x = refl
map_push f (y ∷ ys) x = ap (λ zs. f y ∷ zs) (map_push f ys x)

-- a change is put behind the others of its object
pub put_there : (xs : List Changes) (o q : ℕ) (old new : Changes) (c : Change) → o < length xs → old ≡ get_or xs o old → new.changes.items ≡ old.changes.items ++ c ∷ [] → changes_at (slice_set xs o new) q ≡ changes_at xs q ++ (if o == q then placed_of c ∷ [] else [])
put_there xs o q old new c low at_ put = go (o == q) refl
  where
    go : (b : Bool) → (o == q) ≡ b → changes_at (slice_set xs o new) q ≡ changes_at xs q ++ (if b then placed_of c ∷ [] else [])
    go true e =
        let same : o ≡ q = eqb-true o q e in
        let now_ : slice_get (slice_set xs o new) q ≡ Some new = subst (λ (n : ℕ). slice_get (slice_set xs o new) n ≡ Some new) same (get_set_same xs o new low) in
        let was : slice_get xs q ≡ Some old = subst (λ (n : ℕ). slice_get xs n ≡ Some old) same (slice_get_read xs (length xs) o old refl low at_) in
        ap placed_in now_ ∙ (ap (map placed_of) put ∙ (map_push placed_of old.changes.items c ∙ ap (λ cs. cs ++ placed_of c ∷ []) (sym (ap placed_in was))))
    go false e =
        let other : o ≡ q → ⊥ = λ same. not_eq o q same e in
        ap placed_in (get_set_other xs o q new other) ∙ sym (append-nil (changes_at xs q))
      where
        not_eq : (m n : ℕ) → m ≡ n → (m == n) ≡ false → ⊥
        not_eq m n same h = let yes_ : (m == n) ≡ true = eq-eqb m n same in cc

-- one more object without a change
pub none_more : (xs : List Changes) (new : Changes) (q : ℕ) → new.changes.items ≡ [] → ((p : ℕ) → changes_at xs p ≡ []) → changes_at (xs ++ new ∷ []) q ≡ []
none_more [] new zero h none = ap (map placed_of) h
none_more [] new (suc q) h none = refl
none_more (x ∷ xs) new zero h none = none zero
none_more (x ∷ xs) new (suc q) h none = none_more xs new q h (λ p. none (suc p))

pub list_more_at : (q t : ℕ) (ls : List ThreadList) (l : ThreadList) (n : ℕ) (xs : List Item) (now new total : List Placed) → t < length ls → l ≡ get_or ls t l → n ≡ t → xs ≡ items_of (listed l) → now ++ changes_from q t (drop t (map listed ls)) ≡ total → new ≡ now ++ changes_in q n 0 xs → new ++ changes_from q (t + 1) (drop (t + 1) (map listed ls)) ≡ total
list_more_at q t ls l n xs now new total low at_ same is so_far put =
    list_more q t ls l now new total (slice_get_read ls (length ls) t l refl low at_) so_far (put ∙ (ap (λ m. now ++ changes_in q m 0 xs) same ∙ ap (λ ys. now ++ changes_in q t 0 ys) is))
