-- How many times an object has completed before a position, counted in a sorted list.
use Rattle.std.proofs.Common.{◌≡◌, ◌⊎◌, inl, inr, ℕ, zero, suc, ◌+◌, ◌-◌, ◌*◌, ◌<◌, ◌≤◌, ◌==◌, ◌&&◌, Bool, true, false, cond, List, [], ◌∷◌, ◌++◌, length, filter, map, slice_get, Option, Some, None, refl, sym, ap, ◌∙◌, subst, arith, length-append, eqb-true, eq-eqb}
use Rattle.std.specs.Prelude.{nat_lt, option_and_then}
use Rattle.std.proofs.lemmas.Bool.{ltb-true, ltb-false, eqb-false}
use Rattle.std.proofs.lemmas.List.Elements.{filter-append}
use Rattle.cx_names.specs.declared.ObjectNo.{ObjectNo}
use Rattle.cx_machine.specs.declared.kind.Entry.{Entry}
use Rattle.cx_items.specs.declared.item.Item.{Item}
use Rattle.cx_items.specs.declared.item.Item.TheVariants as items
use Rattle.cx_history.specs.Histories.{Recorded, Placed, items_of, list_of, item_at, change_on, changes_in, changes_from, changes_of}
use Rattle.cx_graph.specs.declared.tally.Tally.{Tally}
use Rattle.cx_graph.specs.Tally.{count_below}
use Rattle.cx_order.specs.Edges.{completes, completed_before}
use Rattle.cx_order.specs.Counts.{complete_of, completes_in, completes_from, IsTallyOf, has_small_place, ArePlacesSmall}

pub count_append : (bound : ℕ) (xs ys : List ℕ) → count_below bound (xs ++ ys) ≡ count_below bound xs + count_below bound ys
count_append bound [] ys = omega arith
count_append bound (x ∷ xs) ys = let rest = count_append bound xs ys in omega (arith, rest)

is_counted : ℕ → Placed → Bool
is_counted p c = completes c.entry.op && nat_lt c.position p

-- one number, against the positions of object o
one_number : (o q n p : ℕ) → n < 4294967296 → p ≤ 4294967296 → cond (nat_lt (q * 4294967296 + n) (o * 4294967296 + p)) 1 0 ≡ cond (nat_lt (q * 4294967296 + n) (o * 4294967296)) 1 0 + cond (q == o && nat_lt n p) 1 0
one_number o q n p small within = by (nat_lt (q * 4294967296 + n) (o * 4294967296 + p)) (nat_lt (q * 4294967296 + n) (o * 4294967296)) (q == o) (nat_lt n p) refl refl refl refl
  where
    by : (a b e l : Bool) → nat_lt (q * 4294967296 + n) (o * 4294967296 + p) ≡ a → nat_lt (q * 4294967296 + n) (o * 4294967296) ≡ b → (q == o) ≡ e → nat_lt n p ≡ l → cond a 1 0 ≡ cond b 1 0 + cond (e && l) 1 0
    by true true true true ha hb he hl = let s = eqb-true q o he in let x = ltb-true (q * 4294967296 + n) (o * 4294967296) hb in absurd (omega arith)
    by true true true false ha hb he hl = refl
    by true true false l ha hb he hl = refl
    by true false true true ha hb he hl = refl
    by true false true false ha hb he hl = let s = eqb-true q o he in let x = ltb-true (q * 4294967296 + n) (o * 4294967296 + p) ha in let y = ltb-false n p hl in absurd (omega arith)
    by true false false l ha hb he hl = let s = eqb-false q o he in let x = ltb-true (q * 4294967296 + n) (o * 4294967296 + p) ha in let y = ltb-false (q * 4294967296 + n) (o * 4294967296) hb in absurd (omega arith)
    by false true e l ha hb he hl = let x = ltb-false (q * 4294967296 + n) (o * 4294967296 + p) ha in let y = ltb-true (q * 4294967296 + n) (o * 4294967296) hb in absurd (omega arith)
    by false false true true ha hb he hl = let s = eqb-true q o he in let x = ltb-false (q * 4294967296 + n) (o * 4294967296 + p) ha in let y = ltb-true n p hl in absurd (omega arith)
    by false false true false ha hb he hl = refl
    by false false false l ha hb he hl = refl

-- of an item
item_counts : (o t i p : ℕ) (x : Item) → p ≤ 4294967296 → has_small_place x → count_below (o * 4294967296 + p) (complete_of x) ≡ count_below (o * 4294967296) (complete_of x) + length (filter (λ c. completes c.entry.op && nat_lt c.position p) (change_on o t i x))
item_counts o t i p (items.Change q n e) within small = go (completes e.op) refl
  where
    go : (b : Bool) → completes e.op ≡ b → count_below (o * 4294967296 + p) (complete_of (items.Change q n e)) ≡ count_below (o * 4294967296) (complete_of (items.Change q n e)) + length (filter (λ c. completes c.entry.op && nat_lt c.position p) (change_on o t i (items.Change q n e)))
    go true is =
        let c = one_number o q.0 n p (omega (arith, small)) within in
        let l = kept (q.0 == o) (nat_lt n p) refl refl is in
        let a : count_below (o * 4294967296 + p) (complete_of (items.Change q n e)) ≡ cond (nat_lt (q.0 * 4294967296 + n) (o * 4294967296 + p)) 1 0 = rw is (omega arith) in
        let b : count_below (o * 4294967296) (complete_of (items.Change q n e)) ≡ cond (nat_lt (q.0 * 4294967296 + n) (o * 4294967296)) 1 0 = rw is (omega arith) in
        omega (arith, a, b, c, l)
      where
        kept : (b c : Bool) → (q.0 == o) ≡ b → nat_lt n p ≡ c → completes e.op ≡ true → length (filter (λ d. completes d.entry.op && nat_lt d.position p) (change_on o t i (items.Change q n e))) ≡ cond (b && c) 1 0
        kept true true hb hc is = rw hb (rw is (rw hc refl))
        kept true false hb hc is = rw hb (rw is (rw hc refl))
        kept false c hb hc is = rw hb refl
    go false is = rw is (none (q.0 == o))
      where
        none : (b : Bool) → 0 ≡ 0 + length (filter (λ (d : Placed). completes d.entry.op && nat_lt d.position p) (cond b (record { position = n; thread = t; item = i; entry = e } ∷ []) []))
        none true = rw is refl
        none false = refl
item_counts o t i p (items.Look q l) within small = omega arith
item_counts o t i p (items.Control c) within small = omega arith
item_counts o t i p (items.Said r) within small = omega arith

list_counts : (o t i p : ℕ) (xs : List Item) → p ≤ 4294967296 → ((k : ℕ) (x : Item) → slice_get xs k ≡ Some x → has_small_place x) → count_below (o * 4294967296 + p) (completes_in xs) ≡ count_below (o * 4294967296) (completes_in xs) + length (filter (λ c. completes c.entry.op && nat_lt c.position p) (changes_in o t i xs))
list_counts o t i p [] within small = omega arith
list_counts o t i p (x ∷ xs) within small =
    let here = item_counts o t i p x within (small zero x refl) in
    let rest = list_counts o t (i + 1) p xs within (λ k y at_. small (suc k) y at_) in
    let a = count_append (o * 4294967296 + p) (complete_of x) (completes_in xs) in
    let b = count_append (o * 4294967296) (complete_of x) (completes_in xs) in
    let c = ap length (filter-append (λ d. completes d.entry.op && nat_lt d.position p) (change_on o t i x) (changes_in o t (i + 1) xs)) ∙ length-append (filter (λ d. completes d.entry.op && nat_lt d.position p) (change_on o t i x)) (filter (λ d. completes d.entry.op && nat_lt d.position p) (changes_in o t (i + 1) xs)) in
    omega (arith, here, rest, a, b, c)

lists_count : (o t p : ℕ) (ls : List (Option (List Item))) → p ≤ 4294967296 → ((u k : ℕ) (l : Option (List Item)) (x : Item) → slice_get ls u ≡ Some l → slice_get (items_of l) k ≡ Some x → has_small_place x) → count_below (o * 4294967296 + p) (completes_from ls) ≡ count_below (o * 4294967296) (completes_from ls) + length (filter (λ c. completes c.entry.op && nat_lt c.position p) (changes_from o t ls))
lists_count o t p [] within small = omega arith
lists_count o t p (l ∷ ls) within small =
    let here = list_counts o t 0 p (items_of l) within (λ k x at_. small zero k l x refl at_) in
    let rest = lists_count o (t + 1) p ls within (λ u k m x at_l at_. small (suc u) k m x at_l at_) in
    let a = count_append (o * 4294967296 + p) (completes_in (items_of l)) (completes_from ls) in
    let b = count_append (o * 4294967296) (completes_in (items_of l)) (completes_from ls) in
    let c = ap length (filter-append (λ d. completes d.entry.op && nat_lt d.position p) (changes_in o t 0 (items_of l)) (changes_from o (t + 1) ls)) ∙ length-append (filter (λ d. completes d.entry.op && nat_lt d.position p) (changes_in o t 0 (items_of l))) (filter (λ d. completes d.entry.op && nat_lt d.position p) (changes_from o (t + 1) ls)) in
    omega (arith, here, rest, a, b, c)

-- the two counts differ by what has completed
pub tally_counts : (r : Recorded) (t : Tally) (o p : ℕ) → IsTallyOf r t → ArePlacesSmall r → p ≤ 4294967296 → count_below (o * 4294967296 + p) t.sorted.items ≡ count_below (o * 4294967296) t.sorted.items + completed_before r o p
tally_counts r t o p is small within =
    let a = is (o * 4294967296 + p) in
    let b = is (o * 4294967296) in
    let c = lists_count o 0 p r.lists within (λ u k l x at_l at_. small u k x (reach u k l x at_l at_)) in
    omega (arith, a, b, c)
  where
    reach : (u k : ℕ) (l : Option (List Item)) (x : Item) → slice_get r.lists u ≡ Some l → slice_get (items_of l) k ≡ Some x → item_at r u k ≡ Some x
    reach u k l x at_l at_ = ap (λ (m : Option (Option (List Item))). slice_get (items_of (option_and_then (λ y. y) m)) k) at_l ∙ at_
