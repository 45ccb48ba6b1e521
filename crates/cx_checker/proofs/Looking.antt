-- The looks, gathered item by item, list by list.
use Rattle.std.proofs.Common.{◌≡◌, ℕ, zero, suc, ◌+◌, ◌<◌, ◌≤◌, ◌==◌, Bool, true, false, List, [], ◌∷◌, ◌++◌, length, map, drop, slice_get, slice_set, get_or, Option, Some, None, option_map, if◌then◌else◌, refl, sym, ap, ◌∙◌, subst, arith, append_assoc, append-nil, eqb-true, eq-eqb}
use Rattle.std.proofs.lemmas.Bool.{eqb-false}
use Rattle.std.proofs.lemmas.Option.{slice_get-map, slice_get_read}
use Rattle.cx_machine.specs.declared.kind.Look.{Look}
use Rattle.cx_items.specs.declared.item.Item.{Item}
use Rattle.cx_history.specs.declared.record.List.{List as ThreadList}
use Rattle.cx_history.specs.Histories.{items_of}
use Rattle.cx_history.specs.Views.{listed}
use Rattle.cx_checker.specs.declared.looks.Looks.{Looks}
use Rattle.cx_checker.specs.Looks.{look_on, looks_in, looks_from, looked, looks_at}
use Rattle.cx_checker.proofs.Gathering.{drop_at, drop_past, get_set_same, get_set_other}

pub look_there : (xs : List Looks) (o q : ℕ) (old new : Looks) (l : Look) → o < length xs → old ≡ get_or xs o old → new.looks.items ≡ old.looks.items ++ l ∷ [] → looks_at (slice_set xs o new) q ≡ looks_at xs q ++ (if o == q then l ∷ [] else [])
look_there xs o q old new l low at_ put = go (o == q) refl
  where
    go : (b : Bool) → (o == q) ≡ b → looks_at (slice_set xs o new) q ≡ looks_at xs q ++ (if b then l ∷ [] else [])
    go true e =
        let same : o ≡ q = eqb-true o q e in
        let now_ : slice_get (slice_set xs o new) q ≡ Some new = subst (λ (n : ℕ). slice_get (slice_set xs o new) n ≡ Some new) same (get_set_same xs o new low) in
        let was : slice_get xs q ≡ Some old = subst (λ (n : ℕ). slice_get xs n ≡ Some old) same (slice_get_read xs (length xs) o old refl low at_) in
        ap looked now_ ∙ (put ∙ ap (λ ls. ls ++ l ∷ []) (sym (ap looked was)))
    go false e = ap looked (get_set_other xs o q new (eqb-false o q e)) ∙ sym (append-nil (looks_at xs q))

pub look_list_more : (q t : ℕ) (ls : List ThreadList) (l : ThreadList) (xs : List Item) (now new total : List Look) → t < length ls → l ≡ get_or ls t l → xs ≡ items_of (listed l) → now ++ looks_from q (drop t (map listed ls)) ≡ total → new ≡ now ++ looks_in q xs → new ++ looks_from q (drop (t + 1) (map listed ls)) ≡ total
look_list_more q t ls l xs now new total low at_ is so_far put =
    let there : slice_get (map listed ls) t ≡ Some (listed l) = slice_get-map listed ls t ∙ ap (option_map listed) (slice_get_read ls (length ls) t l refl low at_) in
    ap (λ cs. cs ++ looks_from q (drop (t + 1) (map listed ls))) (put ∙ ap (λ ys. now ++ looks_in q ys) is)
    ∙ (append_assoc now (looks_in q (items_of (listed l))) (looks_from q (drop (t + 1) (map listed ls)))
    ∙ (ap (λ ys. now ++ looks_from q ys) (sym (drop_at (map listed ls) t (listed l) there)) ∙ so_far))
