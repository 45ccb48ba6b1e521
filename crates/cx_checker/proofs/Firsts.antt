-- The first item at fault, and how far a thread has seen each object.
use Rattle.std.proofs.Common.{◌≡◌, ℕ, zero, suc, ◌+◌, ◌<◌, ◌≤◌, ◌==◌, Bool, true, false, List, [], ◌∷◌, ◌++◌, length, map, drop, take, slice_get, get_or, Option, Some, None, option_map, option_and_then, nat_le, if◌then◌else◌, refl, sym, ap, ◌∙◌, subst, arith, add-one}
use Rattle.std.proofs.lemmas.Option.{slice_get-map, slice_get_read}
use Rattle.cx_items.specs.declared.item.Item.{Item}
use Rattle.cx_items.specs.declared.item.Item.TheVariants as items
use Rattle.cx_history.specs.declared.record.Record.{Record}
use Rattle.cx_history.specs.declared.record.List.{List as ThreadList}
use Rattle.cx_history.specs.declared.flaw.Flaw.{Flaw}
use Rattle.cx_history.specs.declared.flaw.Cause.{Cause}
use Rattle.cx_history.specs.Histories.{Recorded, items_of, list_of, place_after, place_from, place}
use Rattle.cx_history.specs.Legal.{is_at_least}
use Rattle.cx_history.specs.Flaw.{flaw, or_flaw, first_in, first_of_items}
use Rattle.cx_history.specs.Views.{listed, recorded_of}
use Rattle.cx_checker.proofs.Gathering.{drop_at, drop_past}

-- ---- items one after the other

pub good_item : (cause : Cause) (good : ℕ → ℕ → Item → Bool) (t i : ℕ) (xs : List Item) (x : Item) (all : Option Flaw) → slice_get xs i ≡ Some x → good t i x ≡ true → all ≡ first_in cause good t i (drop i xs) → all ≡ first_in cause good t (i + 1) (drop (i + 1) xs)
good_item cause good t i xs x all at_ is so_far =
    so_far ∙ (ap (first_in cause good t i) (drop_at xs i x at_) ∙ ap (λ b. if b then first_in cause good t (i + 1) (drop (i + 1) xs) else Some (flaw cause t i)) is)

pub bad_item : (cause : Cause) (good : ℕ → ℕ → Item → Bool) (t i : ℕ) (xs : List Item) (x : Item) (all : Option Flaw) → slice_get xs i ≡ Some x → good t i x ≡ false → all ≡ first_in cause good t i (drop i xs) → Some (flaw cause t i) ≡ all
bad_item cause good t i xs x all at_ is so_far =
    sym (so_far ∙ (ap (first_in cause good t i) (drop_at xs i x at_) ∙ ap (λ b. if b then first_in cause good t (i + 1) (drop (i + 1) xs) else Some (flaw cause t i)) is))

pub good_items : (cause : Cause) (good : ℕ → ℕ → Item → Bool) (t i : ℕ) (xs : List Item) (all : Option Flaw) → length xs ≤ i → all ≡ first_in cause good t i (drop i xs) → None ≡ all
good_items cause good t i xs all past so_far = sym (so_far ∙ ap (first_in cause good t i) (drop_past xs i past))

pub agree : (cause : Cause) (good other : ℕ → ℕ → Item → Bool) (t i : ℕ) (xs : List Item) → ((j : ℕ) (x : Item) → good t j x ≡ other t j x) → first_in cause good t i xs ≡ first_in cause other t i xs
agree cause good other t i [] h = refl
agree cause good other t i (x ∷ xs) h =
    ap (λ b. if b then first_in cause good t (i + 1) xs else Some (flaw cause t i)) (h i x)
    ∙ ap (λ f. if other t i x then f else Some (flaw cause t i)) (agree cause good other t (i + 1) xs h)

pub at_least_agree : (f g : ℕ → ℕ) (x : Item) → ((o : ℕ) → f o ≡ g o) → is_at_least f x ≡ is_at_least g x
at_least_agree f g (items.Change o p e) h = ap (λ n. nat_le n p) (h o.0)
at_least_agree f g (items.Look o l) h = ap (λ n. nat_le n l.at) (h o.0)
at_least_agree f g (items.Control c) h = refl
at_least_agree f g (items.Said r) h = refl

-- ---- lists one after the other

pub list_there : (r : Record) (t : ℕ) (l : ThreadList) → slice_get r.lists.items t ≡ Some l → (slice_get (recorded_of r).lists t ≡ Some (listed l)) × (list_of (recorded_of r) t ≡ items_of (listed l))
list_there r t l at_ =
    let there : slice_get (map listed r.lists.items) t ≡ Some (listed l) = slice_get-map listed r.lists.items t ∙ ap (option_map listed) at_ in
    (there, ap (λ o. items_of (option_and_then (λ k. k) o)) there)

pub good_list : (cause : Cause) (good : ℕ → ℕ → Item → Bool) (t : ℕ) (ls : List (Option (List Item))) (l : Option (List Item)) (all : Option Flaw) → slice_get ls t ≡ Some l → first_in cause good t 0 (items_of l) ≡ None → all ≡ first_of_items cause good t (drop t ls) → all ≡ first_of_items cause good (t + 1) (drop (t + 1) ls)
good_list cause good t ls l all at_ is so_far =
    so_far ∙ (ap (first_of_items cause good t) (drop_at ls t l at_) ∙ ap (λ f. or_flaw f (first_of_items cause good (t + 1) (drop (t + 1) ls))) is)

pub bad_list : (cause : Cause) (good : ℕ → ℕ → Item → Bool) (t : ℕ) (ls : List (Option (List Item))) (l : Option (List Item)) (all : Option Flaw) (f : Flaw) → slice_get ls t ≡ Some l → first_in cause good t 0 (items_of l) ≡ Some f → all ≡ first_of_items cause good t (drop t ls) → Some f ≡ all
bad_list cause good t ls l all f at_ is so_far =
    sym (so_far ∙ (ap (first_of_items cause good t) (drop_at ls t l at_) ∙ ap (λ g. or_flaw g (first_of_items cause good (t + 1) (drop (t + 1) ls))) is))

length_map : {X Y : Type 0} (f : X → Y) (xs : List X) → length (map f xs) ≡ length xs
length_map f [] = refl
length_map f (x ∷ xs) = ap suc (length_map f xs)

pub good_lists : (cause : Cause) (good : ℕ → ℕ → Item → Bool) (t : ℕ) (r : Record) (all : Option Flaw) → length r.lists.items ≤ t → all ≡ first_of_items cause good t (drop t (recorded_of r).lists) → None ≡ all
good_lists cause good t r all past so_far =
    let end : length (map listed r.lists.items) ≤ t = omega (arith, length_map listed r.lists.items, past) in
    sym (so_far ∙ ap (first_of_items cause good t) (drop_past (map listed r.lists.items) t end))

-- ---- places

place_more_suc : (o p i : ℕ) (xs : List Item) (x : Item) → slice_get xs i ≡ Some x → place_from o p (take (suc i) xs) ≡ place_after o (place_from o p (take i xs)) x
place_more_suc o p i [] x h = cc
place_more_suc o p zero (y ∷ ys) x h = let same : y ≡ x = cc in ap (place_after o p) same
place_more_suc o p (suc i) (y ∷ ys) x h = place_more_suc o (place_after o p y) i ys x h

pub place_more : (o i : ℕ) (xs : List Item) (x : Item) → slice_get xs i ≡ Some x → place_from o 0 (take (i + 1) xs) ≡ place_after o (place_from o 0 (take i xs)) x
place_more o i xs x h = rw add-one (place_more_suc o 0 i xs x h)

-- the places of a thread's list are those of its items
pub fall_there : (cause : Cause) (r : Record) (t : ℕ) (l : ThreadList) → slice_get r.lists.items t ≡ Some l → first_in cause (λ u i x. is_at_least (place (recorded_of r) u i) x) t 0 (items_of (listed l)) ≡ first_in cause (λ u i x. is_at_least (λ o. place_from o 0 (take i (items_of (listed l)))) x) t 0 (items_of (listed l))
fall_there cause r t l at_ =
    agree cause (λ u i x. is_at_least (place (recorded_of r) u i) x) (λ u i x. is_at_least (λ o. place_from o 0 (take i (items_of (listed l)))) x) t 0 (items_of (listed l))
    (λ j x. at_least_agree (place (recorded_of r) t j) (λ o. place_from o 0 (take j (items_of (listed l)))) x (λ o. ap (λ xs. place_from o 0 (take j xs)) (list_there r t l at_).1))

pub fell_in : (cause : Cause) (r : Record) (t n : ℕ) (l : ThreadList) (xs : List Item) (fall : Option Flaw) → slice_get r.lists.items t ≡ Some l → n ≡ t → xs ≡ items_of (listed l) → fall ≡ first_in cause (λ u i x. is_at_least (λ o. place_from o 0 (take i xs)) x) n 0 xs → first_in cause (λ u i x. is_at_least (place (recorded_of r) u i) x) t 0 (items_of (listed l)) ≡ fall
fell_in cause r t n l xs fall at_ same is found =
    fall_there cause r t l at_
    ∙ (ap (λ (ys : List Item). first_in cause (λ u i x. is_at_least (λ o. place_from o 0 (take i ys)) x) t 0 ys) (sym is)
    ∙ (ap (λ (m : ℕ). first_in cause (λ u i x. is_at_least (λ o. place_from o 0 (take i xs)) x) m 0 xs) (sym same) ∙ sym found))

take_all : {X : Type 0} (xs : List X) (i : ℕ) → length xs ≤ i → take i xs ≡ xs
take_all [] zero h = refl
take_all [] (suc i) h = refl
take_all (x ∷ xs) zero h = absurd (omega arith)
take_all (x ∷ xs) (suc i) h = ap (λ ys. x ∷ ys) (take_all xs i (omega arith))

pub whole_place : (o i : ℕ) (xs : List Item) → length xs ≤ i → place_from o 0 (take i xs) ≡ place_from o 0 xs
whole_place o i xs past = ap (place_from o 0) (take_all xs i past)
