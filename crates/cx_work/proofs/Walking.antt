-- Where a thread stands once it has made one item more, and once it has seen more.
use Rattle.std.proofs.Common.{◌≡◌, ℕ, ◌+◌, ◌<◌, ◌||◌, Bool, true, false, List, [], ◌∷◌, ◌++◌, map, length, take, Option, Some, None, is_some, option_map, option_and_then, refl, sym, ap, ◌∙◌, subst, arith}
use Rattle.cx_names.specs.declared.Reply.{Reply}
use Rattle.cx_machine.specs.Machine.{after, opening, run}
use Rattle.cx_scene.specs.Scene.{Scene, kind_of}
use Rattle.cx_items.specs.declared.item.Item.{Item}
use Rattle.cx_items.specs.Next.{Local, Alternative, or_then, reached, offered, local_at_start, moved, after_item, with_item}
use Rattle.cx_items.specs.declared.local.Local.{Local as Place}
use Rattle.cx_items.specs.Form.{fits}
use Rattle.cx_items.specs.Steps.{local_of, IsMove, form_of}
use Rattle.cx_history.specs.IsRecord.{is_item}
use Rattle.cx_history.specs.Follows.{is_completing}
use Rattle.cx_history.proofs.Appending.{one_item_more}
use Rattle.cx_fronts.specs.Paths.{Fronts, Grows}
use Rattle.cx_fronts.specs.Runs.{AgreesWith}
use Rattle.cx_fronts.proofs.Lists.{prefix_length, prefix_take}
use Rattle.cx_fronts.proofs.Right.{items_more}
use Rattle.cx_asks.specs.Forms.{is_of_one}
use Rattle.cx_kinds.specs.declared.access.Access.{Access}
use Rattle.cx_work.specs.Accesses.{AreShown}
use Rattle.cx_work.specs.Acting.{LeavesIt}
use Rattle.cx_work.specs.Reserves.{AreEnough}
use Rattle.cx_work.specs.Steps.{LeadsTo, StandsAt, HasMade, forms_at}
use Rattle.cx_asks.proofs.Offering.{settled_among}
use Rattle.cx_work.proofs.Stepping.{same_fronts}

-- where a thread stands at its start
pub stands_first : (s : Scene) (t : ℕ) (ks : List Access) (xs : List Item) (l : Place) → xs ≡ [] → local_of s t l ≡ local_at_start s t → AreEnough s t ks [] → StandsAt s t ks xs l
stands_first s t ks xs l none is enough = subst (λ (ys : List Item). StandsAt s t ks ys l) (sym none) (record { stands = λ f shown leaves_completing agrees. ap Some (sym is); formed = λ i x h. cc h; enough = enough })

-- ---- one item more

-- an item of one of the forms is reached
reaches : (s : Scene) (others : List Alternative) (x : Item) → is_of_one s (map form_of others) x ≡ true → (k : Local) × (reached s others x ≡ Some k)
reaches s [] x h = cc
reaches s (a ∷ others) x h = go (fits s a.form x) refl h (λ k. reaches s others x k)
  where
    go : (o : Option Reply) → fits s a.form x ≡ o → (is_some o || is_of_one s (map form_of others) x) ≡ true → (is_of_one s (map form_of others) x ≡ true → (k : Local) × (reached s others x ≡ Some k)) → (k : Local) × (reached s (a ∷ others) x ≡ Some k)
    go None p w later = let r = later w in (r.0, ap (λ o. or_then (option_map a.next o) (reached s others x)) p ∙ r.1)
    go (Some r) p w later = (a.next r, ap (λ o. or_then (option_map a.next o) (reached s others x)) p)

-- so it moves the thread
has_moved : (s : Scene) (completing : Bool) (t : ℕ) (l l' : Local) (x : Item) (made : Bool) → is_of_one s (map form_of (offered s t l)) x ≡ true → IsMove made (moved s completing t l x) l l' → moved s completing t l x ≡ Some l'
has_moved s completing t l l' x true h move = move
has_moved s completing t l l' x false h move =
    let r = reaches s (offered s t l) x h in
    let some : moved s completing t l x ≡ Some (with_item s completing x r.0) = ap (option_map (with_item s completing x)) r.1 in
    let none : moved s completing t l x ≡ None = move.0 in
    cc (some, none)

-- where a thread stands once an item that it made is in its list
pub stands_on : (s : Scene) (t : ℕ) (ks : List Access) (xs ys : List Item) (l l' : Place) (x : Item) (completing made : Bool) → HasMade s t ks xs x l → is_of_one s (forms_at s t l) x ≡ true → is_item s t x ≡ true → LeavesIt s ks x completing → IsMove made (moved s completing t (local_of s t l) x) (local_of s t l) (local_of s t l') → ys ≡ xs ++ x ∷ [] → StandsAt s t ks ys l'
stands_on s t ks xs ys l l' x completing made at_ fits_ formed leaves move grown = subst (λ (zs : List Item). StandsAt s t ks zs l') (sym grown) (record {
  stands = λ f shown leaves_completing agrees.
      let among = settled_among s t (local_of s t l) x fits_ in
      let step : after_item s leaves_completing t (local_of s t l) x ≡ Some (local_of s t l') = ap (λ b. moved s b t (local_of s t l) x) (leaves f shown leaves_completing agrees) ∙ has_moved s completing t (local_of s t l) (local_of s t l') x made among move in
      one_item_more s leaves_completing t (local_at_start s t) xs x ∙ (ap (option_and_then (λ k. after_item s leaves_completing t k x)) (at_.stands f shown leaves_completing agrees) ∙ step);
  formed = items_more s t xs x at_.formed formed;
  enough = at_.enough;
})

-- ---- more is seen

-- what agrees with fronts agrees with those that they began with
pub agrees_before : (s : Scene) (f g : Fronts) (leaves_completing : ℕ → ℕ → Bool) → Grows f g → AgreesWith s g leaves_completing → AgreesWith s f leaves_completing
agrees_before s f g leaves_completing grows agrees o p d at_d low =
    let long = prefix_length (f o) (grows o) in
    let same : take (p + 1) (g o) ≡ take (p + 1) (f o) = prefix_take (f o) (grows o) (p + 1) (omega (arith, low)) in
    agrees o p d at_d (omega (arith, low, long)) ∙ ap (λ es. is_completing (run (opening (kind_of d)) es)) same

agrees_same : (s : Scene) (f g : Fronts) (leaves_completing : ℕ → ℕ → Bool) → ((o : ℕ) → f o ≡ g o) → AgreesWith s g leaves_completing → AgreesWith s f leaves_completing
agrees_same s f g leaves_completing same agrees o p d at_d low = agrees o p d at_d (subst (λ es. p < length es) (same o) low) ∙ ap (λ es. is_completing (after (kind_of d) es (p + 1))) (sym (same o))

-- the list leads where it led once the accesses show more
pub leads_later : (s : Scene) (t : ℕ) (ks ks' : List Access) (xs : List Item) (l : Place) → (f : Fronts) × AreShown ks f → ((f : Fronts) → AreShown ks f → (g : Fronts) × AreShown ks' g × Grows f g) → LeadsTo s t ks xs l → LeadsTo s t ks' xs l
leads_later s t ks ks' xs l some later leads h shown leaves_completing agrees =
    let g = later some.0 some.1 in
    let agrees_g = agrees_same s g.0 h leaves_completing (same_fronts ks' g.0 h g.1 shown) agrees in
    leads some.0 some.1 leaves_completing (agrees_before s some.0 g.0 leaves_completing g.2 agrees_g)

-- a thread stands where it stood once its accesses show more, and hold as much and have as much left
pub stands_later : (s : Scene) (t : ℕ) (ks ks' : List Access) (xs : List Item) (l : Place) → (f : Fronts) × AreShown ks f → ((f : Fronts) → AreShown ks f → (g : Fronts) × AreShown ks' g × Grows f g) → (AreEnough s t ks xs → AreEnough s t ks' xs) → StandsAt s t ks xs l → StandsAt s t ks' xs l
stands_later s t ks ks' xs l some later still at_ = record {
  stands = leads_later s t ks ks' xs l some later at_.stands;
  formed = at_.formed;
  enough = still at_.enough;
}
