-- What is gathered element by element.
use Rattle.std.proofs.Common.{◌≡◌, ℕ, zero, suc, ◌+◌, ◌<◌, ◌≤◌, List, [], ◌∷◌, ◌++◌, length, map, drop, slice_get, Option, Some, None, option_map, refl, sym, ap, ◌∙◌, subst, arith, append_assoc, append-nil, add-one}
use Rattle.std.specs.Prelude.{option_and_then}
use Rattle.cx_items.specs.declared.item.Item.{Item}
use Rattle.cx_history.specs.declared.record.Record.{Record}
use Rattle.cx_history.specs.Views.{listed, recorded_of}
use Rattle.cx_history.specs.Histories.{Recorded, items_of, list_of}

drop_suc : {X : Type 0} (xs : List X) (i : ℕ) (x : X) → slice_get xs i ≡ Some x → drop i xs ≡ x ∷ drop (suc i) xs
drop_suc [] i x h = cc
drop_suc (y ∷ ys) zero x h = let same : y ≡ x = cc in ap (λ z. z ∷ ys) same
drop_suc (y ∷ ys) (suc i) x h = drop_suc ys i x h

pub drop_at : {X : Type 0} (xs : List X) (i : ℕ) (x : X) → slice_get xs i ≡ Some x → drop i xs ≡ x ∷ drop (i + 1) xs
drop_at xs i x h = rw add-one (drop_suc xs i x h)

pub drop_past : {X : Type 0} (xs : List X) (i : ℕ) → length xs ≤ i → drop i xs ≡ []
drop_past [] zero h = refl
drop_past [] (suc i) h = refl
drop_past (x ∷ xs) zero h = absurd (omega arith)
drop_past (x ∷ xs) (suc i) h = drop_past xs i (omega arith)

pub some_is : {A : Type 0} (x y : A) → Some x ≡ Some y → x ≡ y
some_is x y e = cc

-- an element that is there, by its place
pub is_within : {A : Type 0} (xs : List A) (i : ℕ) (x : A) → slice_get xs i ≡ Some x → i < length xs
is_within [] i x h = cc
is_within (y ∷ ys) zero x h = omega arith
is_within (y ∷ ys) (suc i) x h = let w = is_within ys i x h in omega arith

-- and one that must be there
pub there_is : {A : Type 0} (xs : List A) (i : ℕ) → i < length xs → (x : A) × (slice_get xs i ≡ Some x)
there_is [] i h = absurd (omega arith)
there_is (y ∷ ys) zero h = (y, refl)
there_is (y ∷ ys) (suc i) h = there_is ys i (omega arith)

-- f of each, behind one another
module _ {X Y : Type 0} (f : X → List Y) (all : List X → List Y) where
  pub walk_more : ((x : X) (xs : List X) → all (x ∷ xs) ≡ f x ++ all xs) → (xs : List X) (i : ℕ) (x : X) (now new total : List Y) → slice_get xs i ≡ Some x → now ++ all (drop i xs) ≡ total → new ≡ now ++ f x → new ++ all (drop (i + 1) xs) ≡ total
  walk_more each xs i x now new total at_ so_far put =
      ap (λ ys. ys ++ all (drop (i + 1) xs)) put
      ∙ (append_assoc now (f x) (all (drop (i + 1) xs))
      ∙ (ap (λ ys. now ++ ys) (sym (each x (drop (i + 1) xs))) ∙ (ap (λ zs. now ++ all zs) (sym (drop_at xs i x at_)) ∙ so_far)))

  pub walk_done : all [] ≡ [] → (xs : List X) (i : ℕ) (now total : List Y) → length xs ≤ i → now ++ all (drop i xs) ≡ total → now ≡ total
  walk_done none xs i now total past so_far = sym (append-nil now) ∙ (ap (λ ys. now ++ ys) (sym none) ∙ (ap (λ zs. now ++ all zs) (sym (drop_past xs i past)) ∙ so_far))

-- ---- the lists of a record

pub length_lists : (r : Record) → length (recorded_of r).lists ≡ length r.lists.items
length_lists r = length_map listed r.lists.items
  where
    length_map : {A B : Type 0} (f : A → B) (xs : List A) → length (map f xs) ≡ length xs
    length_map f [] = refl
    length_map f (x ∷ xs) = ap suc (length_map f xs)

-- a thread's list, by its number
pub list_there : (r : Recorded) (t : ℕ) → t < length r.lists → (l : Option (List Item)) × (slice_get r.lists t ≡ Some l) × (list_of r t ≡ items_of l)
list_there r t low = let w = there_is r.lists t low in (w.0, w.1, ap (λ (m : Option (Option (List Item))). items_of (option_and_then (λ y. y) m)) w.1)
