-- Before main's end every thread that has come was joined by main's list, so the text's starts and joins find their threads.
use Rattle.std.proofs.Common.{◌≡◌, ℕ, suc, ◌+◌, ◌-◌, ◌<◌, ◌≤◌, ◌==◌, ◌||◌, ◌&&◌, not, Bool, true, false, List, [], ◌∷◌, ◌++◌, slice_set, Option, Some, None, MatchOption, IsSome, Result, Ok, Err, IfOk, OnOk, Vec, Global, refl, sym, ap, ◌∙◌, subst, arith, eq-eqb}
use Rattle.std.specs.Prelude.{vec_len}
use Rattle.cx_names.specs.declared.ThreadNo.{ThreadNo}
use Rattle.cx_names.specs.declared.errors.NoMemory.{NoMemory}
use Rattle.cx_scene.specs.Scene.{Scene}
use Rattle.cx_items.specs.declared.form.Form.{Form}
use Rattle.cx_items.specs.declared.form.Form.TheVariants as forms
use Rattle.cx_items.specs.declared.item.Control.TheVariants as controls
use Rattle.cx_items.specs.declared.item.Item.{Item}
use Rattle.cx_items.specs.declared.item.Item.TheVariants as items
use Rattle.cx_items.specs.Next.{settled_local, local_at_start}
use Rattle.cx_items.specs.Steps.{local_of}
use Rattle.cx_history.specs.Follows.{any_starts, after_items}
use Rattle.cx_fronts.specs.Paths.{Fronts}
use Rattle.cx_fronts.specs.Growing.{joins, any_joins}
use Rattle.cx_asks.specs.Offers.{IsOffer}
use Rattle.cx_asks.proofs.Joining.{joinable_is}
use Rattle.cx_asks.proofs.Starting.{starts_once_now}
use Rattle.cx_jthread.specs.declared.thread.Thread.{Thread}
use Rattle.cx_kinds.specs.Accesses.{RunObject}
use Rattle.cx_kinds.specs.declared.access.Access.{Access}
use Rattle.cx_work.specs.declared.work.Work.{Work}
use Rattle.cx_work.specs.declared.work.Ended.{Ended}
use Rattle.cx_work.specs.Accesses.{AreAccesses, objects_of}
use Rattle.cx_work.specs.Bodies.{scene_in}
use Rattle.cx_work.specs.Steps.{forms_at}
use Rattle.cx_work.proofs.Asking.{completing_by, agrees_itself, offer_at}
use Rattle.cx_work.proofs.Stepping.{some_fronts}
use Rattle.cx_run.specs.declared.place.Place.{Place}
use Rattle.cx_run.specs.declared.place.Place.TheVariants as places
use Rattle.cx_run.specs.declared.run.Run.{Run}
use Rattle.cx_run.specs.Runs.{IsPlace, IsRun, IsHere, IsBegun, IsMains, AreMains, is_waiting, is_running}
use Rattle.cx_run.proofs.Keeping.{Stands, here, elsewhere, get_set, joins_more, or_one}
use Rattle.cx_run.proofs.Parts.{at_zero, set_twice}
use Rattle.cx_run.proofs.Stepped.{own_as}

-- ---- the threads that have come were joined

or_still : (a b : Bool) → a ≡ true → (a || b) ≡ true
or_still true b h = refl
or_still false b h = cc h

module _ {G : Type 0} where
  one_mains : (list : List Item) (x : Item) (u : ℕ) (p : Place G) → IsMains list u p → IsMains (list ++ x ∷ []) u p
  one_mains list x u (places.Waiting w) h = tt
  one_mains list x u (places.Running thread) h = tt
  one_mains list x u (places.Ended ys) h = joins_more u list x ∙ or_still (any_joins u list) (joins u x) h
  one_mains list x u places.Idle h = h

  -- main's list has one item more
  pub more_mains : (list list' : List Item) (x : Item) (ps ps' : List (Place G)) → list' ≡ list ++ x ∷ [] → ps' ≡ ps → AreMains list ps → AreMains list' ps'
  more_mains list list' x ps ps' grown same all_ = rw (grown, same) (λ i p at_p. one_mains list x (suc i) p (all_ i p at_p))

  pub made_mains : (list list' : List Item) (ps : List (Place G)) (result : Result Item NoMemory) → IfOk result (λ x. list' ≡ list ++ x ∷ []) → AreMains list ps → OnOk result (AreMains list' ps)
  made_mains list list' ps (Ok x) grown all_ = more_mains list list' x ps ps grown refl all_
  made_mains list list' ps (Err e) grown all_ = tt

  pub same_mains : (list list' : List Item) (ps ps' : List (Place G)) → list' ≡ list → ps' ≡ ps → AreMains list ps → AreMains list' ps'
  same_mains list list' ps ps' a b all_ = rw (a, b) all_

  -- and one place is another
  set_mains : (list : List Item) (x : Item) (ps : List (Place G)) (i : ℕ) (q : Place G) → AreMains list ps → IsMains (list ++ x ∷ []) (suc i) q → AreMains (list ++ x ∷ []) (slice_set ps i q)
  set_mains list x ps i q all_ new j p at_p = go (get_set ps i q j p at_p)
    where
      go : Stands ps i q j p → IsMains (list ++ x ∷ []) (suc j) p
      go (here same is) = subst (λ n. IsMains (list ++ x ∷ []) (suc n) p) (sym same) (subst (λ (z : Place G). IsMains (list ++ x ∷ []) (suc i) z) is new)
      go (elsewhere apart still) = one_mains list x (suc j) p (all_ j p still)

  begun_is : (list : List Item) (u : ThreadNo) (w : Work G) (ok : Bool) (v : ℕ) (p : Place G) → IsBegun u w ok p → IsMains list v p
  begun_is list u w true v (places.Running thread) begun = tt
  begun_is list u w false v (places.Waiting kept) begun = tt
  begun_is list u w ok v p begun = absurd begun

  pub begun_mains : (list list' : List Item) (u : ThreadNo) (w : Work G) (ok : Bool) (a p : Place G) (ps mid ps' : List (Place G)) → AreMains list ps → IsHere u.0 a ps mid → IsBegun u w ok p → ps' ≡ slice_set mid (u.0 - 1) p → list' ≡ list ++ items.Control (controls.Start u ok) ∷ [] → AreMains list' ps'
  begun_mains list list' u w ok a p ps mid ps' all_ h begun others grown =
      let set_ : ps' ≡ slice_set ps (u.0 - 1) p = others ∙ (ap (λ (l : List (Place G)). slice_set l (u.0 - 1) p) h.is ∙ set_twice ps (u.0 - 1) places.Idle p) in
      rw (set_, grown) (set_mains list (items.Control (controls.Start u ok)) ps (u.0 - 1) p all_ (begun_is (list ++ items.Control (controls.Start u ok) ∷ []) u w ok (suc (u.0 - 1)) p begun))

  pub joined_mains : (list list' : List Item) (u : ThreadNo) (a : Place G) (ys : Vec Item Global) (ps mid ps' : List (Place G)) → AreMains list ps → IsHere u.0 a ps mid → ps' ≡ slice_set mid (u.0 - 1) (places.Ended ys) → list' ≡ list ++ items.Control (controls.Join u) ∷ [] → AreMains list' ps'
  joined_mains list list' u a ys ps mid ps' all_ h others grown =
      let set_ : ps' ≡ slice_set ps (u.0 - 1) (places.Ended ys) = others ∙ (ap (λ (l : List (Place G)). slice_set l (u.0 - 1) (places.Ended ys)) h.is ∙ set_twice ps (u.0 - 1) places.Idle (places.Ended ys)) in
      let above = h.above in
      let number : u.0 ≡ suc (u.0 - 1) = omega (arith, above) in
      let joined_ : any_joins (suc (u.0 - 1)) (list ++ items.Control (controls.Join u) ∷ []) ≡ true = joins_more (suc (u.0 - 1)) list (items.Control (controls.Join u)) ∙ or_one (any_joins (suc (u.0 - 1)) list) (u.0 == suc (u.0 - 1)) (eq-eqb u.0 (suc (u.0 - 1)) number) in
      rw (set_, grown) (set_mains list (items.Control (controls.Join u)) ps (u.0 - 1) (places.Ended ys) all_ joined_)

  -- ---- where a thread is that is started or joined

  waits_there : (s : Scene) (xs : List RunObject) (first last : ℕ → Fronts) (lists : ℕ → List Item) (list : List Item) (ks : List Access) (f : Fronts) (u : ℕ) (p : Place G) → IsPlace s xs first last lists list ks f u p → IsMains list u p → any_starts u list ≡ false → is_waiting p ≡ true
  waits_there s xs first last lists list ks f u (places.Waiting w) is mains new = refl
  waits_there s xs first last lists list ks f u (places.Running thread) is mains new = let old = is.0 in cc (old, new)
  waits_there s xs first last lists list ks f u (places.Ended ys) is mains new = let old = is.0 in cc (old, new)
  waits_there s xs first last lists list ks f u places.Idle is mains new = absurd mains

  runs_there : (s : Scene) (xs : List RunObject) (first last : ℕ → Fronts) (lists : ℕ → List Item) (list : List Item) (ks : List Access) (f : Fronts) (u : ℕ) (p : Place G) → IsPlace s xs first last lists list ks f u p → IsMains list u p → any_starts u list ≡ true → any_joins u list ≡ false → is_running p ≡ true
  runs_there s xs first last lists list ks f u (places.Waiting w) is mains old open_ = let new = is.0 in cc (old, new)
  runs_there s xs first last lists list ks f u (places.Running thread) is mains old open_ = refl
  runs_there s xs first last lists list ks f u (places.Ended ys) is mains old open_ = cc (mains, open_)
  runs_there s xs first last lists list ks f u places.Idle is mains old open_ = absurd mains

  -- what a place that waits, or runs, has
  pub waits_some : (p : Place G) (r : Option (Work G)) → is_waiting p ≡ true → MatchOption r (is_waiting p ≡ false) (λ w. p ≡ places.Waiting w) → IsSome r
  waits_some p (Some w) waits told = refl
  waits_some p None waits told = cc (waits, told)

  pub waits_as : (p : Place G) (r : Option (Work G)) (w : Work G) → r ≡ Some w → MatchOption r (is_waiting p ≡ false) (λ v. p ≡ places.Waiting v) → p ≡ places.Waiting w
  waits_as p r w is told = rw is at told

  pub runs_some : (p : Place G) (r : Option (Thread (Work G) Ended)) → is_running p ≡ true → MatchOption r (is_running p ≡ false) (λ t. p ≡ places.Running t) → IsSome r
  runs_some p (Some t) runs told = refl
  runs_some p None runs told = cc (runs, told)

  pub runs_as : (p : Place G) (r : Option (Thread (Work G) Ended)) (t : Thread (Work G) Ended) → r ≡ Some t → MatchOption r (is_running p ≡ false) (λ u. p ≡ places.Running u) → p ≡ places.Running t
  runs_as p r t is told = rw is at told

both_so : (a b : Bool) → true ≡ (a && not b) → (a ≡ true) × (b ≡ false)
both_so true false h = (refl, refl)
both_so true true h = cc h
both_so false b h = cc h

module _ {G : Type 0} {xs : List RunObject} (r : Run G) (run : IsRun xs r) where
  main_own : AreAccesses (objects_of r.main.accesses.items) 0 r.main.accesses.items
  main_own = own_as xs r.main.accesses.items r.main.accesses.items 0 refl run.kept.accesses

  -- what main's list leads to, by some of the fronts that its accesses show
  main_after : (c : ℕ → ℕ → Bool) × (after_items (scene_in r.objects) c 0 (local_at_start (scene_in r.objects) 0) r.main.list.items ≡ Some (local_of (scene_in r.objects) 0 r.main.local))
  main_after =
      let f = some_fronts 0 r.main.accesses.items main_own in
      let c = completing_by (scene_in r.objects) f.0 in
      (c, (at_zero run).stands f.0 f.1 c (agrees_itself (scene_in r.objects) f.0))

  main_offered : (fs : List Form) → forms_at (scene_in r.objects) 0 r.main.local ≡ fs → IsOffer (scene_in r.objects) 0 (settled_local (local_of (scene_in r.objects) 0 r.main.local)) fs
  main_offered fs is = subst (λ (gs : List Form). IsOffer (scene_in r.objects) 0 (settled_local (local_of (scene_in r.objects) 0 r.main.local)) gs) is (offer_at (scene_in r.objects) 0 r.main.accesses.items r.main.list.items r.main.local run.runs_now.asks main_own (at_zero run))

  -- a start that is next is of another thread of the scenario, which waits
  pub start_within : (u : ThreadNo) (fs : List Form) → forms_at (scene_in r.objects) 0 r.main.local ≡ forms.Does (controls.Start u true) ∷ fs → (0 < u.0) × (u.0 ≤ vec_len r.others)
  start_within u fs is =
      let may = (main_offered (forms.Does (controls.Start u true) ∷ fs) is).2 in
      let other = may.other in
      let there = may.there in
      let count = run.goes.count in
      let long = r.others.ok.0 in
      (other, omega (arith, there, count, long))

  pub starts_waiting : (u : ThreadNo) (fs : List Form) (p : Place G) (mid : List (Place G)) → forms_at (scene_in r.objects) 0 r.main.local ≡ forms.Does (controls.Start u true) ∷ fs → AreMains r.main.list.items r.others.items → IsHere u.0 p r.others.items mid → is_waiting p ≡ true
  starts_waiting u fs p mid is mains h =
      let after = main_after in
      let new = starts_once_now (scene_in r.objects) after.0 r.main.list.items (local_of (scene_in r.objects) 0 r.main.local) u fs run.runs_now.asks after.1 is in
      let above = h.above in
      let number : u.0 ≡ suc (u.0 - 1) = omega (arith, above) in
      waits_there (scene_in r.objects) xs run.goes.first run.goes.last run.goes.lists r.main.list.items r.main.accesses.items run.goes.f (suc (u.0 - 1)) p (run.goes.places (u.0 - 1) p h.was) (mains (u.0 - 1) p h.was) (subst (λ n. any_starts n r.main.list.items ≡ false) number new)

  -- a join that is next is of another thread of the scenario, which runs
  pub join_within : (u : ThreadNo) → forms_at (scene_in r.objects) 0 r.main.local ≡ forms.Does (controls.Join u) ∷ [] → (0 < u.0) × (u.0 ≤ vec_len r.others)
  join_within u is =
      let may = (main_offered (forms.Does (controls.Join u) ∷ []) is).1 in
      let other = may.other in
      let there = may.there in
      let count = run.goes.count in
      let long = r.others.ok.0 in
      (other, omega (arith, there, count, long))

  pub joins_running : (u : ThreadNo) (p : Place G) (mid : List (Place G)) → forms_at (scene_in r.objects) 0 r.main.local ≡ forms.Does (controls.Join u) ∷ [] → AreMains r.main.list.items r.others.items → IsHere u.0 p r.others.items mid → is_running p ≡ true
  joins_running u p mid is mains h =
      let after = main_after in
      let may = (main_offered (forms.Does (controls.Join u) ∷ []) is).1 in
      let told = joinable_is (scene_in r.objects) after.0 r.main.list.items (local_of (scene_in r.objects) 0 r.main.local) u run.runs_now.asks after.1 in
      let both = both_so (any_starts u.0 r.main.list.items) (any_joins u.0 r.main.list.items) (sym may.joinable ∙ told) in
      let above = h.above in
      let number : u.0 ≡ suc (u.0 - 1) = omega (arith, above) in
      runs_there (scene_in r.objects) xs run.goes.first run.goes.last run.goes.lists r.main.list.items r.main.accesses.items run.goes.f (suc (u.0 - 1)) p (run.goes.places (u.0 - 1) p h.was) (mains (u.0 - 1) p h.was) (subst (λ n. any_starts n r.main.list.items ≡ true) number both.0) (subst (λ n. any_joins n r.main.list.items ≡ false) number both.1)
