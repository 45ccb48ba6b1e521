-- A body goes on by an item, and ends.
use Rattle.std.proofs.Common.{◌≡◌, ◌<◌, ℕ, Bool, true, false, List, [], ◌∷◌, ◌++◌, refl, sym, ap, ◌∙◌, subst, arith}
use Rattle.std.specs.Global.{Vec}
use Rattle.cx_names.specs.declared.ThreadNo.{ThreadNo}
use Rattle.cx_scene.specs.Scene.{Scene}
use Rattle.cx_items.specs.declared.form.Form.{Form}
use Rattle.cx_items.specs.declared.form.Form.TheVariants as forms
use Rattle.cx_items.specs.declared.item.Control.TheVariants as controls
use Rattle.cx_items.specs.declared.item.Item.{Item}
use Rattle.cx_items.specs.declared.item.Item.TheVariants as items
use Rattle.cx_items.specs.declared.local.Local.{Local as Place}
use Rattle.cx_items.specs.Next.{Local, settled_local, is_ended}
use Rattle.cx_items.specs.Steps.{local_of}
use Rattle.cx_history.specs.Follows.{is_whole}
use Rattle.cx_history.specs.IsRecord.{is_item}
use Rattle.cx_fronts.specs.Paths.{Fronts, Grows, nothing}
use Rattle.cx_fronts.specs.Promises.{Promised}
use Rattle.cx_asks.specs.Forms.{is_of_one}
use Rattle.cx_asks.specs.Offers.{IsOffer}
use Rattle.cx_asks.specs.Scenes.{IsAskable}
use Rattle.cx_fronts.proofs.Heart.{stays}
use Rattle.cx_fronts.proofs.Promised.{promises_compose, one_is_promised}
use Rattle.cx_kinds.specs.declared.access.Access.{Access}
use Rattle.cx_kinds.specs.Accesses.{RunObject}
use Rattle.cx_work.specs.Accesses.{AreMadeAs, AreAccesses, AreShown, objects_of}
use Rattle.cx_work.specs.declared.standing.Standing.{Standing}
use Rattle.cx_work.specs.Acting.{LeavesIt}
use Rattle.cx_work.specs.Reserves.{AreEnough}
use Rattle.cx_work.specs.Steps.{StepsOn, StandsAt, HasMade, IsNext, begins_control, forms_at, is_made_alone}
use Rattle.cx_work.specs.Bodies.{Goes, IsBody, IsUnderway}
use Rattle.cx_work.proofs.Promising.{steps_promise}
use Rattle.cx_work.proofs.Stepping.{objects_are, some_fronts}
use Rattle.cx_work.proofs.Asking.{offer_at}
use Rattle.cx_work.proofs.Sufficing.{control_enough, are_seated}
use Rattle.cx_work.proofs.Walking.{leads_later}

-- at its start a body has gone nowhere
pub goes_first : (s : Scene) (t : ℕ) (ks : List Access) (list : List Item) (l : Place) → list ≡ [] → AreAccesses (objects_of ks) t ks → StandsAt s t ks list l → Goes s ks t ks list l
goes_first s t ks list l none are stands = record {
  accesses = are;
  at_ = stands;
  promised = subst (λ (ys : List Item). Promised s t (AreShown ks) ys (AreShown ks)) (sym none) (λ f shown. (f, shown, λ first last. stays t f));
}

-- what is so of the accesses by the objects of those before is so by their own
pub own_made : (s : Scene) (before : List Access) (t : ℕ) (ks : List Access) → AreAccesses (objects_of before) t ks → AreMadeAs s.objects (objects_of before) → AreMadeAs s.objects (objects_of ks)
own_made s before t ks are made = subst (λ (xs : List RunObject). AreMadeAs s.objects xs) (sym (objects_are (objects_of before) t ks are)) made

pub own_accesses : (before : List Access) (t : ℕ) (ks : List Access) → AreAccesses (objects_of before) t ks → AreAccesses (objects_of ks) t ks
own_accesses before t ks are = subst (λ (xs : List RunObject). AreAccesses xs t ks) (sym (objects_are (objects_of before) t ks are)) are

pub before_accesses : (before : List Access) (t t' : ℕ) (ks ks' : List Access) → AreAccesses (objects_of before) t ks → AreAccesses (objects_of ks) t' ks' → AreAccesses (objects_of before) t' ks'
before_accesses before t t' ks ks' are are' = subst (λ (xs : List RunObject). AreAccesses xs t' ks') (objects_are (objects_of before) t ks are) are'

pub given_up : (before ks : List Access) (t t' t'' : ThreadNo) (ks' ks'' : Vec Access) → t' ≡ t → t'' ≡ t' → ks'' ≡ ks' → AreAccesses (objects_of before) t.0 ks → AreAccesses (objects_of ks) t.0 ks'.items → AreAccesses (objects_of before) t''.0 ks''.items
given_up before ks t t' t'' ks' ks'' a b c are are' = rw (c, b, a) (before_accesses before t.0 t.0 ks ks'.items are are')

goes_on : (s : Scene) (before : List Access) (t : ℕ) (ks ks' : List Access) (list : List Item) (l l' : Place) (x : Item) → AreMadeAs s.objects (objects_of before) → Goes s before t ks list l → AreAccesses (objects_of ks) t ks' → StandsAt s t ks' (list ++ x ∷ []) l' → StepsOn ks ks' x → is_made_alone x ≡ true → Goes s before t ks' (list ++ x ∷ []) l'
goes_on s before t ks ks' list l l' x made goes are stands steps alone =
    let made' = own_made s before t ks goes.accesses made in
    let own = own_accesses before t ks goes.accesses in
    record {
      accesses = before_accesses before t t ks ks' goes.accesses are;
      at_ = stands;
      promised = promises_compose s t (AreShown before) (AreShown ks) (AreShown ks') list (x ∷ []) goes.promised (one_is_promised s t (AreShown ks) (AreShown ks') x (steps_promise s t ks ks' x made' own steps alone));
    }

-- a body that has ended is whole
is_body : (s : Scene) (before : List Access) (t : ℕ) (ks : List Access) (list : List Item) (l : Place) → Goes s before t ks list l → is_ended (local_of s t l) ≡ true → IsBody s t before list ks
is_body s before t ks list l goes ended = record {
  promised = goes.promised;
  whole = λ f shown leaves_completing agrees. ap is_whole (goes.at_.stands f shown leaves_completing agrees) ∙ ended;
  formed = goes.at_.formed;
  seated = are_seated s t ks list goes.at_.enough;
}

-- ---- a turn of the loop

-- what stays as it was is as far as it was
pub stays_so_far : (s : Scene) (before : List Access) (t t' : ThreadNo) (ks ks' : Vec Access) (list list' : Vec Item) (l l' : Place) → t' ≡ t → ks' ≡ ks → list' ≡ list → l' ≡ l → Goes s before t.0 ks.items list.items l → Goes s before t'.0 ks'.items list'.items l'
stays_so_far s before t t' ks ks' list list' l l' same_t same_ks same_list same_l goes = rw (same_t, same_ks, same_list, same_l) goes

pub still_underway : (s : Scene) (before : List Access) (v w : Standing) → (w.thread ≡ v.thread) × (w.accesses ≡ v.accesses) × (w.list ≡ v.list) × (w.local ≡ v.local) → IsUnderway s before v → IsUnderway s before w
still_underway s before v w same goes = stays_so_far s before v.thread w.thread v.accesses w.accesses v.list w.list v.local w.local same.0 same.1 same.2 same.3 goes

-- what is next is so where it still stands
pub next_still : (s : Scene) (t t' : ThreadNo) (l l' : Place) (there : Bool) (fs : List Form) → there ≡ true → t' ≡ t → l' ≡ l → IsNext s t.0 l there fs → IsNext s t'.0 l' true fs
next_still s t t' l l' there fs is a b next = rw (a, b) (subst (λ (u : Bool). IsNext s t.0 l u fs) is next)

offered_no_control : (s : Scene) (t : ℕ) (l : Local) (fs : List Form) → 0 < t → IsOffer s t l fs → begins_control fs ≡ false
offered_no_control s t l [] other offer = refl
offered_no_control s t l (forms.Does (controls.Start u ok) ∷ fs) other offer = let main = offer.2.main in absurd (omega (arith, other, main))
offered_no_control s t l (forms.Does (controls.Launch u ok) ∷ fs) other offer = absurd offer
offered_no_control s t l (forms.Does (controls.Join u) ∷ fs) other offer = let main = offer.1.main in absurd (omega (arith, other, main))
offered_no_control s t l (f ∷ fs) other offer = refl

-- main alone starts and joins
pub no_control_next : (s : Scene) (t : ℕ) (ks : List Access) (xs : List Item) (l : Place) (fs : List Form) → IsAskable s → 0 < t → AreAccesses (objects_of ks) t ks → StandsAt s t ks xs l → fs ≡ forms_at s t l → begins_control fs ≡ false
no_control_next s t ks xs l fs asks other are at_ is = offered_no_control s t (settled_local (local_of s t l)) fs other (subst (λ (gs : List Form). IsOffer s t (settled_local (local_of s t l)) gs) (sym is) (offer_at s t ks xs l asks are at_))

-- one item more that the thread made
pub makes_one_more : (s : Scene) (before : List Access) (t t' : ThreadNo) (ks ks' : Vec Access) (list list' : Vec Item) (l l' : Place) (x : Item) → AreMadeAs s.objects (objects_of before) → Goes s before t.0 ks.items list.items l → t' ≡ t → AreAccesses (objects_of ks.items) t'.0 ks'.items → list'.items ≡ list.items ++ x ∷ [] → StepsOn ks.items ks'.items x → is_made_alone x ≡ true → StandsAt s t'.0 ks'.items list'.items l' → Goes s before t'.0 ks'.items list'.items l'
makes_one_more s before t t' ks ks' list list' l l' x made goes same are grown steps alone stands =
    let are' = subst (λ (n : ThreadNo). AreAccesses (objects_of ks.items) n.0 ks'.items) same are in
    let stands' = subst (λ (n : ThreadNo). StandsAt s n.0 ks'.items (list.items ++ x ∷ []) l') same (subst (λ (ys : List Item). StandsAt s t'.0 ks'.items ys l') grown stands) in
    rw (grown, same) (goes_on s before t.0 ks.items ks'.items list.items l l' x made goes are' stands' steps alone)

-- a body that has ended is whole, by equal parts
pub body_of : (s : Scene) (before : List Access) (t t' : ThreadNo) (ks ks' : Vec Access) (list list' : Vec Item) (l : Place) → t' ≡ t → ks' ≡ ks → list' ≡ list → Goes s before t.0 ks.items list.items l → is_ended (local_of s t.0 l) ≡ true → IsBody s t'.0 before list'.items ks'.items
body_of s before t t' ks ks' list list' l same_t same_ks same_list goes ended = rw (same_t, same_ks, same_list) (is_body s before t.0 ks.items list.items l goes ended)

-- ---- an item that was made

-- a thread whose accesses have made an item, which isn't in its list yet
made_at : (s : Scene) (t : ℕ) (ks ks' : List Access) (list : List Item) (l : Place) (x : Item) → AreMadeAs s.objects (objects_of ks) → AreAccesses (objects_of ks) t ks → StepsOn ks ks' x → is_made_alone x ≡ true → AreEnough s t ks' (list ++ x ∷ []) → StandsAt s t ks list l → HasMade s t ks' list x l
made_at s t ks ks' list l x made are steps alone enough at_ = record { stands = leads_later s t ks ks' list l (some_fronts t ks are) later at_.stands; formed = at_.formed; enough = enough }
  where
    later : (f : Fronts) → AreShown ks f → (g : Fronts) × AreShown ks' g × Grows f g
    later f shown = let p = steps_promise s t ks ks' x made are steps alone f shown in (p.0, p.1, (p.2 (λ u. nothing) (λ u. nothing)).moved.grows)

pub made_stands : (s : Scene) (t t' : ThreadNo) (ks ks' : List Access) (list list' : Vec Item) (l l' : Place) (x : Item) → AreMadeAs s.objects (objects_of ks) → AreAccesses (objects_of ks) t.0 ks → StepsOn ks ks' x → is_made_alone x ≡ true → AreEnough s t.0 ks' (list.items ++ x ∷ []) → StandsAt s t.0 ks list.items l → t' ≡ t → list' ≡ list → l' ≡ l → HasMade s t'.0 ks' list'.items x l'
made_stands s t t' ks ks' list list' l l' x made are steps alone enough at_ a b c = rw (a, b, c) (made_at s t.0 ks ks' list.items l x made are steps alone enough at_)

-- a start or a join, which no access makes
pub control_made : (s : Scene) (t : ℕ) (ks : List Access) (list : List Item) (l : Place) (x : Item) → is_made_alone x ≡ false → StandsAt s t ks list l → HasMade s t ks list x l
control_made s t ks list l x control at_ = record { stands = at_.stands; formed = at_.formed; enough = control_enough s t ks list x control at_.enough }

-- it leaves no completion due
pub control_undue : (s : Scene) (ks : List Access) (x : Item) → is_made_alone x ≡ false → LeavesIt s ks x false
control_undue s ks (items.Control c) control f shown leaves_completing agrees = refl
control_undue s ks _ control f shown leaves_completing agrees = cc control

pub fits_still : (s : Scene) (t t' : ThreadNo) (l l' : Place) (x : Item) → t' ≡ t → l' ≡ l → is_of_one s (forms_at s t.0 l) x ≡ true → is_of_one s (forms_at s t'.0 l') x ≡ true
fits_still s t t' l l' x a c h = rw (a, c) h

pub formed_still : (s : Scene) (t t' : ThreadNo) (x : Item) → t' ≡ t → is_item s t.0 x ≡ true → is_item s t'.0 x ≡ true
formed_still s t t' x a h = rw a h
