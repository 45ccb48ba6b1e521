-- Facts of main's steps, by the parts that its functions have at hand.
use Rattle.std.proofs.Common.{◌≡◌, ℕ, zero, suc, ◌+◌, ◌-◌, ◌<◌, ◌≤◌, ◌&&◌, Bool, true, false, ◌==◌, eq-eqb, IsTrue, List, [], ◌∷◌, ◌++◌, length, slice_get, slice_set, Option, Some, None, Result, Ok, Err, IfOk, OnOk, ltb, lt-ltb, refl, sym, ap, ◌∙◌, subst, arith}
use Rattle.std.specs.List.{list_all}
use Rattle.cx_names.specs.declared.ThreadNo.{ThreadNo}
use Rattle.cx_names.specs.declared.errors.NoMemory.{NoMemory}
use Rattle.cx_scene.specs.declared.declared.Thread.{Thread as Declared}
use Rattle.cx_scene.specs.declared.declared.Thread.TheVariants as threads
use Rattle.cx_scene.specs.declared.plan.Plan.{Plan}
use Rattle.cx_scene.specs.Scene.{Scene, scene_of}
use Rattle.cx_items.specs.declared.form.Form.{Form}
use Rattle.cx_items.specs.declared.form.Form.TheVariants as forms
use Rattle.cx_items.specs.declared.item.Control.{Control}
use Rattle.cx_items.specs.declared.item.Control.TheVariants as controls
use Rattle.cx_items.specs.declared.item.Item.{Item}
use Rattle.cx_items.specs.declared.item.Item.TheVariants as items
use Rattle.cx_items.specs.declared.local.Local.{Local as Place_}
use Rattle.cx_items.specs.Next.{Local, settled_local, is_ended}
use Rattle.cx_items.specs.Steps.{local_of}
use Rattle.cx_asks.specs.Forms.{is_of_one}
use Rattle.cx_asks.specs.Offers.{IsOffer}
use Rattle.cx_work.proofs.Asking.{offer_at}
use Rattle.cx_history.specs.IsRecord.{can_start}
use Rattle.cx_kinds.specs.Accesses.{RunObject}
use Rattle.cx_work.specs.declared.standing.Standing.{Standing}
use Rattle.cx_kinds.specs.declared.access.Access.{Access}
use Rattle.cx_work.specs.Bodies.{scene_in}
use Rattle.cx_asks.specs.Scenes.{is_thread_now}
use Rattle.cx_work.specs.RunNow.{IsRunNow}
use Rattle.cx_work.specs.Steps.{IsAt, IsNext, StepsOn, begins_control, forms_at, is_made_alone}
use Rattle.cx_work.specs.Accesses.{AreAccesses, objects_of}
use Rattle.cx_work.proofs.Stepping.{objects_are}
use Rattle.cx_run.specs.declared.place.Place.{Place}
use Rattle.cx_run.specs.declared.place.Place.TheVariants as places
use Rattle.cx_run.specs.declared.run.Run.{Run}
use Rattle.cx_run.specs.Handing.{AllAsBefore, AllMet}
use Rattle.cx_run.specs.Runs.{Tally, IsTallied, IsKept, IsRun, objects_at, IsControlIn, IsHere, has_come, steps_in}
use Rattle.cx_run.proofs.Keeping.{Stands, here, elsewhere, get_set, length_set, below}
use Rattle.cx_run.proofs.Parts.{at_zero, same_run, made_item, made_tally}

pub own_as : (xs : List RunObject) (ks0 ks : List Access) (t : ℕ) → ks0 ≡ ks → AreAccesses xs t ks → AreAccesses (objects_of ks0) t ks0
own_as xs ks0 ks t a are = let is = objects_are xs t ks are in rw (a, is) are

pub others_as : (xs : List RunObject) (ks0 ks os0 os : List Access) (t u : ℕ) → ks0 ≡ ks → os0 ≡ os → AreAccesses xs t ks → AreAccesses xs u os → AreAccesses (objects_of ks0) u os0
others_as xs ks0 ks os0 os t u a b are theirs = let is = objects_are xs t ks are in rw (a, b, is) theirs

pub before_as : (ks0 ks ks' : List Access) → ks0 ≡ ks → AllAsBefore ks0 ks' → AllAsBefore ks ks'
before_as ks0 ks ks' b goes = subst (λ (l : List Access). AllAsBefore l ks') b goes

pub meets_as : (others0 others ks0 ks ks' : List Access) → others0 ≡ others → ks0 ≡ ks → AllMet others0 ks0 ks' → AllMet others ks ks'
meets_as others0 others ks0 ks ks' b d goes = subst (λ (l : List Access). AllMet l ks ks') b (subst (λ (l : List Access). AllMet others0 l ks') d goes)

-- ---- threads of the scenario

plain_starts : (ds : List Declared) (k : ℕ) → k < length ds → list_all is_thread_now ds ≡ true → can_start (slice_get ds k) ≡ true
plain_starts [] k low now = absurd (omega (arith, low))
plain_starts (threads.Plain ∷ ds) zero low now = refl
plain_starts (threads.Plain ∷ ds) (suc k) low now = plain_starts ds k (omega (arith, low)) now
plain_starts (d ∷ ds) k low now = cc now

pub names_thread : (s : Scene) (u n : ℕ) → IsRunNow s → 0 < u → u ≤ n → suc n ≡ length s.threads → IsTrue (ltb 0 u && can_start (slice_get s.threads u))
names_thread s u n now above low count =
    let first : ltb 0 u ≡ true = lt-ltb 0 u above in
    let starts : can_start (slice_get s.threads u) ≡ true = plain_starts s.threads u (omega (arith, low, count)) now.asks.threads in
    rw (first, starts) refl

module _ {G : Type 0} where
  pub here_as : (u : ℕ) (p q : Place G) (old new : List (Place G)) → p ≡ q → IsHere u p old new → IsHere u q old new
  here_as u p q old new same h = subst (λ (z : Place G). IsHere u z old new) same h

  pub here_low : (u : ℕ) (p : Place G) (old new : List (Place G)) → IsHere u p old new → u - 1 < length new
  here_low u p old new h =
      let low = below old (u - 1) p h.was in
      let long : length new ≡ length old = ap length h.is ∙ length_set old (u - 1) places.Idle in
      omega (arith, low, long)

  pub names_here : {xs : List RunObject} (r : Run G) (u : ThreadNo) (p : Place G) (new : List (Place G)) → IsRun xs r → IsHere u.0 p r.others.items new → IsTrue (ltb 0 u.0 && can_start (slice_get (scene_in r.objects).threads u.0))
  names_here {xs} r u p new run h =
      let low = below r.others.items (u.0 - 1) p h.was in
      let above = h.above in
      names_thread (scene_in r.objects) u.0 (length r.others.items) run.runs_now above (omega (arith, low, above)) run.goes.count

  -- the run with the parts that leaving a place kept
  pub left_run : {xs : List RunObject} (r l : Run G) → IsRun xs r → (l.objects ≡ r.objects) × (l.main ≡ r.main) → IsRun xs (record { objects = l.objects; main = l.main; others = r.others })
  left_run {xs} r l run same = same_run r (record { objects = l.objects; main = l.main; others = r.others }) same.0 (ap (λ (x : Standing). x.thread) same.1) (ap (λ (x : Standing). x.accesses.items) same.1) (ap (λ (x : Standing). x.list.items) same.1) (ap (λ (x : Standing). x.local) same.1) refl run

  -- ---- main's own items

  -- a run by main's own objects, and back
  pub own_run : {xs : List RunObject} (r : Run G) → IsRun xs r → IsRun (objects_at r) r
  own_run {xs} r run = subst (λ (ys : List RunObject). IsRun ys r) (sym (objects_are xs 0 r.main.accesses.items run.kept.accesses)) run

  pub own_kept : {xs : List RunObject} (r : Run G) → IsKept xs r → IsKept (objects_at r) r
  own_kept {xs} r kept = subst (λ (ys : List RunObject). IsKept ys r) (sym (objects_are xs 0 r.main.accesses.items kept.accesses)) kept

  pub kept_objects : {xs : List RunObject} (r : Run G) → IsKept xs r → objects_at r ≡ xs
  kept_objects {xs} r kept = objects_are xs 0 r.main.accesses.items kept.accesses

  pub back_kept : {xs : List RunObject} (r r' : Run G) → IsRun xs r → IsKept (objects_at r) r' → IsKept xs r'
  back_kept {xs} r r' run kept = subst (λ (ys : List RunObject). IsKept ys r') (objects_are xs 0 r.main.accesses.items run.kept.accesses) kept

  pub back_run : {xs : List RunObject} (r r' : Run G) → IsRun xs r → IsRun (objects_at r) r' → IsRun xs r'
  back_run {xs} r r' run next = subst (λ (ys : List RunObject). IsRun ys r') (objects_are xs 0 r.main.accesses.items run.kept.accesses) next

  pub made_run : (r r' : Run G) (result : Result Item NoMemory) (plan : Plan) → IsRun (objects_at r) r → scene_of plan ≡ scene_in r.objects → r'.objects ≡ r.objects → r'.main.thread ≡ r.main.thread → r'.others ≡ r.others → AreAccesses (objects_at r) r'.main.thread.0 r'.main.accesses.items → IfOk result (λ x. r'.main.list.items ≡ r.main.list.items ++ x ∷ []) → IfOk result (λ x. StepsOn r.main.accesses.items r'.main.accesses.items x) → IfOk result (λ x. is_made_alone x ≡ true) → OnOk result (IsAt (scene_of plan) r'.main) → OnOk result (IsRun (objects_at r) r')
  made_run r r' (Ok x) plan run is_plan a b d are grown steps alone at_ = made_item r r' x run a b d are grown steps alone (subst (λ (s : Scene). IsAt s r'.main) is_plan at_)
  made_run r r' (Err e) plan run is_plan a b d are grown steps alone at_ = tt

  pub made_counts : (now : Tally) (list list' : List Item) (ps : List (Place G)) (result : Result Item NoMemory) → IfOk result (λ x. list' ≡ list ++ x ∷ []) → IfOk result (λ x. is_made_alone x ≡ true) → OnOk result ((base : Tally) → IsTallied base now list (steps_in ps) → IsTallied base now list' (steps_in ps))
  made_counts now list list' ps (Ok x) grown alone = made_tally now list list' ps ps x refl grown alone
  made_counts now list list' ps (Err e) grown alone = tt

  -- ---- places that have come

  pub come_more : (old new : List (Place G)) (i : ℕ) (q : Place G) → new ≡ slice_set old i q → has_come q ≡ true → ((j : ℕ) (p : Place G) → j < i → slice_get old j ≡ Some p → has_come p ≡ true) → (j : ℕ) (p : Place G) → j < i + 1 → slice_get new j ≡ Some p → has_come p ≡ true
  come_more old new i q is come before j p low at_p = go (get_set old i q j p (ap (λ (l : List (Place G)). slice_get l j) (sym is) ∙ at_p))
    where
      go : Stands old i q j p → has_come p ≡ true
      go (here same is_p) = ap has_come (sym is_p) ∙ come
      go (elsewhere apart still) = before j p (omega (arith, low, apart)) still

pub on_ok : {T E : Type 0} {A B : Type 0} (result : Result T E) → OnOk result A → (A → B) → OnOk result B
on_ok (Ok x) a f = f a
on_ok (Err e) a f = tt

-- ---- what main is offered

start_offered : (s : Scene) (t : ℕ) (l : Local) (fs : List Form) (u : ThreadNo) (ok : Bool) → IsControlIn fs (Some (controls.Start u ok)) → IsOffer s t l fs → fs ≡ forms.Does (controls.Start u true) ∷ forms.Does (controls.Start u false) ∷ []
start_offered s t l [] u ok is offer = cc is
start_offered s t l (forms.Does (controls.Start v b) ∷ fs) u ok is offer =
    let same : v ≡ u = cc in
    subst (λ (w : ThreadNo). forms.Does (controls.Start v b) ∷ fs ≡ forms.Does (controls.Start w true) ∷ forms.Does (controls.Start w false) ∷ []) same (rw (offer.0, offer.1) refl)
start_offered s t l (forms.Does (controls.Launch v b) ∷ fs) u ok is offer = absurd offer
start_offered s t l (forms.Does (controls.Join v) ∷ fs) u ok is offer = cc is
start_offered s t l (f ∷ fs) u ok is offer = cc is

join_offered : (s : Scene) (t : ℕ) (l : Local) (fs : List Form) (u : ThreadNo) → IsControlIn fs (Some (controls.Join u)) → IsOffer s t l fs → fs ≡ forms.Does (controls.Join u) ∷ []
join_offered s t l [] u is offer = cc is
join_offered s t l (forms.Does (controls.Join v) ∷ fs) u is offer =
    let same : v ≡ u = cc in
    subst (λ (w : ThreadNo). forms.Does (controls.Join v) ∷ fs ≡ forms.Does (controls.Join w) ∷ []) same (rw offer.0 refl)
join_offered s t l (forms.Does (controls.Launch v b) ∷ fs) u is offer = absurd offer
join_offered s t l (forms.Does (controls.Start v b) ∷ fs) u is offer = cc is
join_offered s t l (f ∷ fs) u is offer = cc is

launch_not_offered : (s : Scene) (t : ℕ) (l : Local) (fs : List Form) (u : ThreadNo) (ok : Bool) → IsControlIn fs (Some (controls.Launch u ok)) → IsOffer s t l fs → ⊥
launch_not_offered s t l [] u ok is offer = cc is
launch_not_offered s t l (forms.Does (controls.Launch v b) ∷ fs) u ok is offer = offer
launch_not_offered s t l (forms.Does (controls.Start v b) ∷ fs) u ok is offer = cc is
launch_not_offered s t l (forms.Does (controls.Join v) ∷ fs) u ok is offer = cc is
launch_not_offered s t l (f ∷ fs) u ok is offer = cc is

module _ {G : Type 0} {xs : List RunObject} (r : Run G) (run : IsRun xs r) where
  main_offer : IsOffer (scene_in r.objects) 0 (settled_local (local_of (scene_in r.objects) 0 r.main.local)) (forms_at (scene_in r.objects) 0 r.main.local)
  main_offer = offer_at (scene_in r.objects) 0 r.main.accesses.items r.main.list.items r.main.local run.runs_now.asks (own_as xs r.main.accesses.items r.main.accesses.items 0 refl run.kept.accesses) (at_zero run)

  offered_so : (fs : List Form) → fs ≡ forms_at (scene_in r.objects) 0 r.main.local → IsOffer (scene_in r.objects) 0 (settled_local (local_of (scene_in r.objects) 0 r.main.local)) fs
  offered_so fs is = subst (λ (gs : List Form). IsOffer (scene_in r.objects) 0 (settled_local (local_of (scene_in r.objects) 0 r.main.local)) gs) (sym is) main_offer

  -- a start that comes next, or a join, is offered so
  pub start_is : (fs gs : List Form) (u : ThreadNo) (ok : Bool) (o : Option Control) → fs ≡ forms_at (scene_in r.objects) 0 r.main.local → gs ≡ fs → IsControlIn gs o → o ≡ Some (controls.Start u ok) → forms_at (scene_in r.objects) 0 r.main.local ≡ forms.Does (controls.Start u true) ∷ forms.Does (controls.Start u false) ∷ []
  start_is fs gs u ok o is same first is_o = sym is ∙ start_offered (scene_in r.objects) 0 (settled_local (local_of (scene_in r.objects) 0 r.main.local)) fs u ok (subst (λ (hs : List Form). IsControlIn hs (Some (controls.Start u ok))) same (subst (λ (q : Option Control). IsControlIn gs q) is_o first)) (offered_so fs is)

  pub join_is : (fs gs : List Form) (u : ThreadNo) (o : Option Control) → fs ≡ forms_at (scene_in r.objects) 0 r.main.local → gs ≡ fs → IsControlIn gs o → o ≡ Some (controls.Join u) → forms_at (scene_in r.objects) 0 r.main.local ≡ forms.Does (controls.Join u) ∷ []
  join_is fs gs u o is same first is_o = sym is ∙ join_offered (scene_in r.objects) 0 (settled_local (local_of (scene_in r.objects) 0 r.main.local)) fs u (subst (λ (hs : List Form). IsControlIn hs (Some (controls.Join u))) same (subst (λ (q : Option Control). IsControlIn gs q) is_o first)) (offered_so fs is)

  pub launch_is_not : (fs gs : List Form) (u : ThreadNo) (ok : Bool) (o : Option Control) → fs ≡ forms_at (scene_in r.objects) 0 r.main.local → gs ≡ fs → IsControlIn gs o → o ≡ Some (controls.Launch u ok) → ⊥
  launch_is_not fs gs u ok o is same first is_o = launch_not_offered (scene_in r.objects) 0 (settled_local (local_of (scene_in r.objects) 0 r.main.local)) fs u ok (subst (λ (hs : List Form). IsControlIn hs (Some (controls.Launch u ok))) same (subst (λ (q : Option Control). IsControlIn gs q) is_o first)) (offered_so fs is)

-- no start and no join comes first
pub no_control : (fs gs : List Form) (o : Option Control) → gs ≡ fs → IsControlIn gs o → o ≡ None → begins_control fs ≡ false
no_control fs gs o same first is = go fs (subst (λ (hs : List Form). IsControlIn hs None) same (subst (λ (q : Option Control). IsControlIn gs q) is first))
  where
    go : (hs : List Form) → IsControlIn hs None → begins_control hs ≡ false
    go [] h = refl
    go (forms.Does c ∷ hs) h = cc h
    go (f ∷ hs) h = refl

-- ---- by the plan that is at hand

control_itself : (n : ℕ) → (n == n) ≡ true
control_itself n = eq-eqb n n refl

pub start_fits : (s : Scene) (u : ThreadNo) (b : Bool) → is_of_one s (forms.Does (controls.Start u true) ∷ forms.Does (controls.Start u false) ∷ []) (items.Control (controls.Start u b)) ≡ true
start_fits s u true = rw (control_itself u.0) refl
start_fits s u false = rw (control_itself u.0) refl

pub join_fits : (s : Scene) (u : ThreadNo) → is_of_one s (forms.Does (controls.Join u) ∷ []) (items.Control (controls.Join u)) ≡ true
join_fits s u = rw (control_itself u.0) refl

pub taken_fits : (p q : Plan) (t : ThreadNo) (l l' : Place_) (fs : List Form) (x : Item) → p ≡ q → t.0 ≡ 0 → l' ≡ l → forms_at (scene_of q) 0 l ≡ fs → is_of_one (scene_of q) fs x ≡ true → is_of_one (scene_of p) (forms_at (scene_of p) t.0 l') x ≡ true
taken_fits p q t l l' fs x is_p is_t is_l offered fits = rw (is_p, is_t, is_l, offered) fits

-- what is next is so where main still stands
pub main_next : (p q : Plan) (t : ThreadNo) (l l' : Place_) (there : Bool) (fs : List Form) → there ≡ true → p ≡ q → t.0 ≡ 0 → l' ≡ l → IsNext (scene_of p) t.0 l there fs → IsNext (scene_of q) 0 l' true fs
main_next p q t l l' there fs is is_p is_t is_l next =
    subst (λ n. IsNext (scene_of q) n l' true fs) is_t
    (subst (λ (z : Plan). IsNext (scene_of z) t.0 l' true fs) is_p
    (subst (λ (k : Place_). IsNext (scene_of p) t.0 k true fs) (sym is_l)
    (subst (λ (b : Bool). IsNext (scene_of p) t.0 l b fs) is next)))

-- the same by the plan and the number of main
pub next_as : (p q : Plan) (t : ThreadNo) (l : Place_) (fs : List Form) → p ≡ q → t.0 ≡ 0 → IsNext (scene_of q) 0 l true fs → IsNext (scene_of p) t.0 l true fs
next_as p q t l fs is_p is_t next = subst (λ n. IsNext (scene_of p) n l true fs) (sym is_t) (subst (λ (z : Plan). IsNext (scene_of z) 0 l true fs) (sym is_p) next)

pub main_ended : (p q : Plan) (t : ThreadNo) (l l' : Place_) (there : Bool) (fs : List Form) → there ≡ false → p ≡ q → t.0 ≡ 0 → l' ≡ l → IsNext (scene_of p) t.0 l there fs → IsTrue (is_ended (local_of (scene_of q) 0 l'))
main_ended p q t l l' there fs is is_p is_t is_l next =
    let here : IsTrue (is_ended (local_of (scene_of p) t.0 l)) = subst (λ (b : Bool). IsNext (scene_of p) t.0 l b fs) is next in
    rw is_l (subst (λ n. IsTrue (is_ended (local_of (scene_of q) n l))) is_t (subst (λ (z : Plan). IsTrue (is_ended (local_of (scene_of z) t.0 l))) is_p here))
