-- What is so of a run stays so, by its parts.
use Rattle.std.proofs.Common.{◌≡◌, ℕ, zero, suc, ◌+◌, ◌-◌, ◌<◌, Bool, true, false, List, [], ◌∷◌, ◌++◌, length, slice_get, slice_set, Option, Some, Result, Err, IfSome, IsSome, IsOk, get_or, refl, sym, ap, ◌∙◌, subst, arith}
use Rattle.std.specs.Global.{Vec}
use Rattle.std.specs.Vec.{with_items}
use Rattle.std.proofs.lemmas.List.{with_items_is}
use Rattle.cx_names.specs.declared.ThreadNo.{ThreadNo}
use Rattle.cx_scene.specs.declared.plan.Plan.{Plan}
use Rattle.cx_scene.specs.Scene.{Scene, scene_of}
use Rattle.cx_items.specs.declared.item.Control.TheVariants as controls
use Rattle.cx_items.specs.declared.item.Item.{Item}
use Rattle.cx_items.specs.declared.local.Local.{Local}
use Rattle.cx_items.specs.declared.item.Item.TheVariants as items
use Rattle.cx_fronts.specs.Paths.{Fronts, Grows}
use Rattle.cx_fronts.specs.Counts.{change_count}
use Rattle.cx_io.specs.Spawning.{Raised}
use Rattle.cx_io.proofs.Counts.{raised_none, at_least_none}
use Rattle.cx_jthread.specs.declared.thread.Thread.{Thread}
use Rattle.cx_jthread.specs.Threads.{job_to_join}
use Rattle.cx_kinds.specs.Accesses.{RunObject}
use Rattle.cx_work.specs.declared.standing.Standing.{Standing}
use Rattle.cx_kinds.specs.declared.access.Access.{Access}
use Rattle.cx_work.specs.declared.work.Work.{Work}
use Rattle.cx_work.specs.declared.work.Ended.{Ended}
use Rattle.cx_work.specs.Bodies.{Needs, Gives, IsBody, scene_in, objects_in}
use Rattle.cx_work.specs.Steps.{StandsAt, IsAt, StepsOn, is_made_alone}
use Rattle.cx_work.specs.Accesses.{AreMadeAs, AreAccesses, AreShown, objects_of}
use Rattle.cx_work.proofs.Stepping.{objects_are, some_fronts}
use Rattle.cx_work.proofs.Walking.{stands_later}
use Rattle.cx_run.specs.declared.place.Place.{Place}
use Rattle.cx_run.specs.declared.place.Place.TheVariants as places
use Rattle.cx_run.specs.declared.run.Run.{Run}
use Rattle.cx_run.specs.Handing.{AllAsBefore, AllMet, AllTakeIn}
use Rattle.cx_run.specs.Runs.{Tally, IsTallied, IsReady, IsOff, IsBegun, MayJoin, MayRun, MayAwait, IsOfJob, RunOf, IsAwaited, IsKept, IsRun, IsHere, steps_at, steps_in}
use Rattle.cx_run.proofs.Going.{made_alone}
use Rattle.cx_run.proofs.Keeping.{Stands, here, elsewhere, get_set, start_goes, refusal_goes, join_goes, idle_goes, late_goes}
use Rattle.cx_run.proofs.Lasting.{same_enough, met_enough, took_enough}
use Rattle.cx_run.proofs.Passed.{read_at}
use Rattle.cx_run.proofs.Tallying.{tallied_more, tallied_alone, steps_set}
use Rattle.cx_run.proofs.Accesses.{same_accesses, met_accesses, met_shown, took_accesses, same_later, took_later}

-- ---- lists

pub set_twice : {A : Type 0} (xs : List A) (i : ℕ) (a b : A) → slice_set (slice_set xs i a) i b ≡ slice_set xs i b
set_twice [] i a b = refl
set_twice (x ∷ xs) zero a b = refl
set_twice (x ∷ xs) (suc i) a b = ap (λ ys. x ∷ ys) (set_twice xs i a b)

pub set_back : {A : Type 0} (xs : List A) (i : ℕ) (a b : A) → slice_get xs i ≡ Some a → slice_set (slice_set xs i b) i a ≡ xs
set_back [] i a b h = refl
set_back (x ∷ xs) zero a b h = let same : x ≡ a = cc in ap (λ y. y ∷ xs) (sym same)
set_back (x ∷ xs) (suc i) a b h = ap (λ ys. x ∷ ys) (set_back xs i a b h)

pub from_some : {A : Type 0} (P : A → Type 0) (o : Option A) (x : A) → o ≡ Some x → IfSome o P → P x
from_some P o x is h = rw is at h

before_one : (u : ThreadNo) → 0 < u.0 → u.0 ≡ suc (u.0 - 1)
before_one u h = omega (arith, h)

same_thread : (t u : ThreadNo) → t.0 ≡ 0 → u.0 ≡ 0 → t ≡ u
same_thread t u h k = ap (λ n. let v : ThreadNo = record { 0 = n } in v) (h ∙ sym k)

pub vec_is : (v : Vec Access) (ws : List Access) → length ws ≡ length v.items → (with_items v ws).items ≡ ws
vec_is v ws h = with_items_is v ws (h ∙ sym v.ok.0)

join_counts : (before now : Tally) (u : ThreadNo) (n : ℕ) → now.faults ≡ before.faults → now.started ≡ before.started → Raised before.carried now.carried n → IsTallied before now (items.Control (controls.Join u) ∷ []) n
join_counts before now u n a b c = record { faults = rw a (at_least_none before.faults); started = rw b (raised_none before.started); carried = c }

none_counts : (before now : Tally) (n : ℕ) → now.faults ≡ before.faults → now.started ≡ before.started → Raised before.carried now.carried n → IsTallied before now [] n
none_counts before now n a b c = record { faults = rw a (at_least_none before.faults); started = rw b (raised_none before.started); carried = c }

append_none : {A : Type 0} (xs : List A) → xs ++ [] ≡ xs
append_none [] = refl
append_none (x ∷ xs) = ap (λ ys. x ∷ ys) (append_none xs)

pub takes_as : (others ks0 ks ks' : List Access) → ks0 ≡ ks → AllTakeIn others ks0 ks' → AllTakeIn others ks ks'
takes_as others ks0 ks ks' b takes = subst (λ (l : List Access). AllTakeIn others l ks') b takes

-- ---- where main stands once its accesses show more

own_of : (xs : List RunObject) (t : ℕ) (ks : List Access) → AreAccesses xs t ks → AreAccesses (objects_of ks) t ks
own_of xs t ks are = subst (λ (ys : List RunObject). AreAccesses ys t ks) (sym (objects_are xs t ks are)) are

fronts_of : (xs : List RunObject) (t : ℕ) (ks : List Access) → AreAccesses xs t ks → (f : Fronts) × AreShown ks f
fronts_of xs t ks are = some_fronts t ks (own_of xs t ks are)

pub same_at : (s : Scene) (xs : List RunObject) (t : ℕ) (ks ks' : List Access) (list : List Item) (l : Local) → AreAccesses xs t ks → AllAsBefore ks ks' → StandsAt s t ks list l → StandsAt s t ks' list l
same_at s xs t ks ks' list l are same at_ = stands_later s t ks ks' list l (fronts_of xs t ks are) (λ f shown. same_later ks ks' f same shown) (same_enough s xs t ks ks' list are same) at_

pub took_at : (s : Scene) (xs : List RunObject) (t u : ℕ) (others ks ks' : List Access) (list : List Item) (l : Local) → AreAccesses xs t ks → AreAccesses xs u others → AllTakeIn others ks ks' → StandsAt s t ks list l → StandsAt s t ks' list l
took_at s xs t u others ks ks' list l are theirs takes at_ =
    let other = fronts_of xs u others theirs in
    stands_later s t ks ks' list l (fronts_of xs t ks are) (λ f shown. took_later xs others ks ks' t u other.0 f theirs are takes other.1 shown) (took_enough s xs t u others ks ks' list are theirs takes) at_

-- where main stands, by equal parts
pub met_stands : (p : Plan) (t : ThreadNo) (ks : Vec Access) (ws : List Access) (list : List Item) (l : Local) (q : Plan) → p ≡ q → t.0 ≡ 0 → (with_items ks ws).items ≡ ws → StandsAt (scene_of q) 0 ws list l → StandsAt (scene_of p) t.0 (with_items ks ws).items list l
met_stands p t ks ws list l q is_p is_t is_ks at_ = rw (is_p, is_t, is_ks) at_

pub joined_stands : (p q : Plan) (t : ThreadNo) (ks : List Access) (list list' : List Item) (l l' : Local) → p ≡ q → t.0 ≡ 0 → list' ≡ list → l' ≡ l → StandsAt (scene_of q) 0 ks list l → StandsAt (scene_of p) t.0 ks list' l'
joined_stands p q t ks list list' l l' is_p is_t is_list is_l at_ = rw (is_p, is_t, is_list, is_l) at_

met_at : (s : Scene) (xs : List RunObject) (t u : ℕ) (others ks ks' : List Access) (list : List Item) (l : Local) → AreAccesses xs t others → AreAccesses xs u ks → AllMet others ks ks' → StandsAt s u ks list l → StandsAt s u ks' list l
met_at s xs t u others ks ks' list l theirs are meets at_ =
    stands_later s u ks ks' list l (fronts_of xs u ks are) later (met_enough s xs t u others ks ks' list theirs are meets) at_
  where
    later : (f : Fronts) → AreShown ks f → (g : Fronts) × AreShown ks' g × Grows f g
    later f shown =
        let other = fronts_of xs t others theirs in
        let m = met_shown xs others ks ks' t u other.0 f theirs are meets other.1 shown in
        (m.g, m.shown, λ o. (m.both o).two)

module _ {G : Type 0} where
  pub may_set : (ps : List (Place G)) (i : ℕ) (q : Place G) → MayRun q → ((j : ℕ) (p : Place G) → slice_get ps j ≡ Some p → MayRun p) → (j : ℕ) (p : Place G) → slice_get (slice_set ps i q) j ≡ Some p → MayRun p
  may_set ps i q new old j p at_p = go (get_set ps i q j p at_p)
    where
      go : Stands ps i q j p → MayRun p
      go (here same is) = subst (λ (z : Place G). MayRun z) is new
      go (elsewhere apart still) = old j p still

  -- a thread that runs at a place may be joined
  pub runs_may : (p : Place G) (thread : Thread (Work G) Ended) → p ≡ places.Running thread → MayRun p → MayJoin thread
  runs_may p thread is may = subst (λ (q : Place G). MayRun q) is may

  -- the job of a thread that may be joined may be run
  pub may_run_job : (thread : Thread (Work G) Ended) → MayJoin thread → IfSome (job_to_join thread) Needs
  may_run_job thread may = subst (λ (o : Option (Work G)). IfSome o Needs) (sym may.to_join) may.needs

  -- it is joined
  pub may_be_joined : {O E : Type 0} (thread : Thread (Work G) Ended) (t : ThreadNo) (result : Result O E) → MayJoin thread → t.0 ≡ 0 → (IsSome (job_to_join thread) → (t ≡ thread.number → ⊥) → IsOk result) → IsOk result
  may_be_joined thread t result may main joined =
      let some : IsSome (job_to_join thread) = subst (λ (o : Option (Work G)). IsSome o) (sym may.to_join) refl in
      joined some (λ same. let other = may.other in let number = ap (λ (u : ThreadNo). u.0) same in omega (arith, other, number, main))

  -- so no join of it is refused
  pub never_refused : {O E : Type 0} (thread : Thread (Work G) Ended) (t : ThreadNo) (result : Result O E) (e : E) → MayJoin thread → t.0 ≡ 0 → (IsSome (job_to_join thread) → (t ≡ thread.number → ⊥) → IsOk result) → result ≡ Err e → ⊥
  never_refused {O} {E} thread t result e may main joined is = let ok : IsOk {T = O} (Err e) = subst (λ (r : Result O E). IsOk r) is (may_be_joined thread t result may main joined) in cc ok

  -- ---- runs of the same parts

  pub same_kept : {xs : List RunObject} (r r' : Run G) → r'.objects ≡ r.objects → r'.main.thread ≡ r.main.thread → r'.main.accesses.items ≡ r.main.accesses.items → r'.others.items ≡ r.others.items → IsKept xs r → IsKept xs r'
  same_kept {xs} r r' a b c d kept = record {
    made = rw a kept.made;
    accesses = rw c kept.accesses;
    thread = rw b kept.thread;
    may_run = λ i p at_p. kept.may_run i p (ap (λ (l : List (Place G)). slice_get l i) (sym d) ∙ at_p);
  }

  pub same_run : {xs : List RunObject} (r r' : Run G) → r'.objects ≡ r.objects → r'.main.thread ≡ r.main.thread → r'.main.accesses.items ≡ r.main.accesses.items → r'.main.list.items ≡ r.main.list.items → r'.main.local ≡ r.main.local → r'.others.items ≡ r.others.items → IsRun xs r → IsRun xs r'
  same_run {xs} r r' a b c d e f run = record {
    kept = same_kept r r' a b c f run.kept;
    runs_now = rw a run.runs_now;
    at_ = rw (a, b, c, d, e) run.at_;
    goes = rw (a, c, d, f) run.goes;
  }

  -- main stands as thread 0
  pub at_zero : {xs : List RunObject} {r : Run G} → IsRun xs r → StandsAt (scene_in r.objects) 0 r.main.accesses.items r.main.list.items r.main.local
  at_zero {xs} {r} run = subst (λ n. StandsAt (scene_in r.objects) n r.main.accesses.items r.main.list.items r.main.local) run.kept.thread run.at_

  -- what went on by parts
  pub kept_of : {xs : List RunObject} (r r' : Run G) → r'.objects ≡ r.objects → r'.main.thread ≡ r.main.thread → AreAccesses xs 0 r'.main.accesses.items → ((i : ℕ) (p : Place G) → slice_get r'.others.items i ≡ Some p → MayRun p) → IsKept xs r → IsKept xs r'
  kept_of {xs} r r' a b accesses may kept = record { made = rw a kept.made; accesses = accesses; thread = rw b kept.thread; may_run = may }

  pub run_of : {xs : List RunObject} (r r' : Run G) (list : List Item) (ks : List Access) (ps : List (Place G)) → IsRun xs r → r'.objects ≡ r.objects → IsKept xs r' → IsAt (scene_in r.objects) r'.main → r'.main.list.items ≡ list → r'.main.accesses.items ≡ ks → r'.others.items ≡ ps → RunOf (scene_in r.objects) xs list ks ps → IsRun xs r'
  run_of {xs} r r' list ks ps run a kept at_ b c d goes = record {
    kept = kept;
    runs_now = rw a run.runs_now;
    at_ = rw a at_;
    goes = rw (a, b, c, d) goes;
  }

  -- ---- main's own items

  pub made_item : {xs : List RunObject} (r r' : Run G) (x : Item) → IsRun xs r → r'.objects ≡ r.objects → r'.main.thread ≡ r.main.thread → r'.others ≡ r.others → AreAccesses xs r'.main.thread.0 r'.main.accesses.items → r'.main.list.items ≡ r.main.list.items ++ x ∷ [] → StepsOn r.main.accesses.items r'.main.accesses.items x → is_made_alone x ≡ true → IsAt (scene_in r.objects) r'.main → IsRun xs r'
  made_item {xs} r r' x run a b c are grown steps alone at_ =
      let zero_ : r'.main.thread.0 ≡ 0 = ap (λ (t : ThreadNo). t.0) b ∙ run.kept.thread in
      let are' : AreAccesses xs 0 r'.main.accesses.items = subst (λ n. AreAccesses xs n r'.main.accesses.items) zero_ are in
      let is : objects_of r.main.accesses.items ≡ xs = objects_are xs 0 r.main.accesses.items run.kept.accesses in
      run_of r r' (r.main.list.items ++ x ∷ []) r'.main.accesses.items r.others.items run a
      (kept_of r r' a b are' (λ i p at_p. run.kept.may_run i p (ap (λ (v : Vec (Place G)). slice_get v.items i) (sym c) ∙ at_p)) run.kept)
      at_ grown refl (ap (λ (v : Vec (Place G)). v.items) c)
      (subst (λ (ys : List RunObject). RunOf (scene_in r.objects) ys (r.main.list.items ++ x ∷ []) r'.main.accesses.items r.others.items) is
      (made_alone (scene_in r.objects) r.main.list.items r.main.accesses.items r'.main.accesses.items r.others.items x (subst (λ (ys : List RunObject). AreMadeAs (scene_in r.objects).objects ys) (sym is) run.kept.made) (own_of xs 0 r.main.accesses.items run.kept.accesses) steps alone (subst (λ (ys : List RunObject). RunOf (scene_in r.objects) ys r.main.list.items r.main.accesses.items r.others.items) (sym is) run.goes)))

  pub made_tally : (now : Tally) (list list' : List Item) (ps ps' : List (Place G)) (x : Item) → ps' ≡ ps → list' ≡ list ++ x ∷ [] → is_made_alone x ≡ true → (base : Tally) → IsTallied base now list (steps_in ps) → IsTallied base now list' (steps_in ps')
  made_tally now list list' ps ps' x c grown alone base h =
      let more : IsTallied base now (list ++ x ∷ []) (steps_in ps + 0) = tallied_more base now now list (x ∷ []) (steps_in ps) 0 h (tallied_alone now x alone) in
      rw (c, grown) (subst (λ n. IsTallied base now (list ++ x ∷ []) n) (add_none (steps_in ps)) more)
    where
      add_none : (n : ℕ) → n + 0 ≡ n
      add_none n = omega arith

  -- the same list and places
  pub same_tally : (now : Tally) (list list' : List Item) (ps ps' : List (Place G)) → list' ≡ list → ps' ≡ ps → (base : Tally) → IsTallied base now list (steps_in ps) → IsTallied base now list' (steps_in ps')
  same_tally now list list' ps ps' a b base h = rw (a, b) h

  -- ---- a place that was left

  pub thread_above : (u : ThreadNo) (p : Place G) (old new : List (Place G)) → IsHere u.0 p old new → u.0 ≡ suc (u.0 - 1)
  thread_above u p old new h = before_one u h.above

  -- the place of thread u, as the run has it
  pub waits_here : {xs : List RunObject} (r : Run G) (u : ThreadNo) (w : Work G) (new : List (Place G)) → IsRun xs r → IsHere u.0 (places.Waiting w) r.others.items new → IsReady (scene_in r.objects) xs (suc (u.0 - 1)) w
  waits_here {xs} r u w new run h = (run.goes.places (u.0 - 1) (places.Waiting w) h.was).1

  pub runs_here : {xs : List RunObject} (r : Run G) (i : ℕ) (thread : Thread (Work G) Ended) (run : IsRun xs r) → slice_get r.others.items i ≡ Some (places.Running thread) → IsOff (scene_in r.objects) xs (suc i) (run.goes.first (suc i)) thread
  runs_here {xs} r i thread run at_p = (run.goes.places i (places.Running thread) at_p).2

  pub ready_accesses : (s : Scene) (xs : List RunObject) (u : ℕ) (w : Work G) → IsReady s xs u w → AreAccesses xs u w.standing.accesses.items
  ready_accesses s xs u w ready = subst (λ (os : List RunObject). AreAccesses os u w.standing.accesses.items) ready.objects (subst (λ n. AreAccesses (objects_in w) n w.standing.accesses.items) ready.number ready.needs.accesses)

  -- a thread that runs may be joined, and its job is of this scene on these objects
  pub off_may : (s : Scene) (xs : List RunObject) (u : ℕ) (first : Fronts) (thread : Thread (Work G) Ended) → 0 < u → IsOff s xs u first thread → MayAwait s xs thread
  off_may s xs u first thread above off = record { may = record { other = let n = off.number in omega (arith, n, above); job = off.job; to_join = off.to_join; needs = off.needs }; scene = off.scene; objects = off.objects }

  -- ---- starts

  -- the same work, with accesses that have met main's
  pub record IsRenewed (w w' : Work G) (theirs : List Access) : Type 0 where
    pub objects : w'.objects ≡ w.objects
    pub thread : w'.standing.thread ≡ w.standing.thread
    pub list : w'.standing.list ≡ w.standing.list
    pub local : w'.standing.local ≡ w.standing.local
    pub accesses : w'.standing.accesses.items ≡ theirs

  renewed_needs : (w w' : Work G) (theirs : List Access) → Needs w → IsRenewed w w' theirs → AreAccesses (objects_in w) w.standing.thread.0 theirs → StandsAt (scene_in w.objects) w.standing.thread.0 theirs w.standing.list.items w.standing.local → Needs w'
  renewed_needs w w' theirs needs n are at_ =
      let is : objects_of theirs ≡ objects_in w = objects_are (objects_in w) w.standing.thread.0 theirs are in
      record {
        asks = rw n.objects needs.asks;
        other = rw n.thread needs.other;
        made = rw (n.objects, n.accesses, is) needs.made;
        accesses = rw (n.thread, n.accesses, is) are;
        at_ = rw (n.objects, n.thread, n.accesses, n.list, n.local) at_;
        fresh = rw n.list needs.fresh;
      }

  renewed_objects : (xs : List RunObject) (u : ℕ) (w w' : Work G) (theirs : List Access) → AreAccesses xs u theirs → IsRenewed w w' theirs → objects_in w' ≡ xs
  renewed_objects xs u w w' theirs are n = ap objects_of n.accesses ∙ objects_are xs u theirs are

  pub met_needs : (s : Scene) (xs : List RunObject) (u : ℕ) (ks theirs : List Access) (w w' : Work G) → IsReady s xs u w → AreAccesses xs 0 ks → AllMet ks w.standing.accesses.items theirs → IsRenewed w w' theirs → Needs w'
  met_needs s xs u ks theirs w w' ready mine meets n =
      let own = ready_accesses s xs u w ready in
      let are : AreAccesses xs u theirs = met_accesses xs ks w.standing.accesses.items theirs 0 u mine meets own in
      let stands : StandsAt (scene_in w.objects) u w.standing.accesses.items w.standing.list.items w.standing.local = subst (λ m. StandsAt (scene_in w.objects) m w.standing.accesses.items w.standing.list.items w.standing.local) ready.number ready.needs.at_ in
      let at_ = met_at (scene_in w.objects) xs 0 u ks w.standing.accesses.items theirs w.standing.list.items w.standing.local mine own meets stands in
      renewed_needs w w' theirs ready.needs n
      (subst (λ m. AreAccesses (objects_in w) m theirs) (sym ready.number) (subst (λ (os : List RunObject). AreAccesses os u theirs) (sym ready.objects) are))
      (subst (λ m. StandsAt (scene_in w.objects) m theirs w.standing.list.items w.standing.local) (sym ready.number) at_)

  begun_goes : (s : Scene) (xs : List RunObject) (list : List Item) (ks ks' theirs : List Access) (others : List (Place G)) (i : ℕ) (u : ThreadNo) (w w' : Work G) (ok : Bool) (p : Place G) → u.0 ≡ suc i → RunOf s xs list ks others → slice_get others i ≡ Some (places.Waiting w) → AreAccesses xs 0 ks → IsReady s xs (suc i) w → AllAsBefore ks ks' → AllMet ks w.standing.accesses.items theirs → IsRenewed w w' theirs → Needs w' → objects_in w' ≡ xs → IsBegun u w' ok p → RunOf s xs (list ++ items.Control (controls.Start u ok) ∷ []) ks' (slice_set others i p)
  begun_goes s xs list ks ks' theirs others i u w w' true (places.Running thread) u_is r at_p mine ready same meets n needs is begun =
      start_goes s xs list ks ks' theirs others i u w thread u_is r at_p mine (ready_accesses s xs (suc i) w ready) same meets
      (λ h shown. record {
        number = ap (λ (t : ThreadNo). t.0) begun.0 ∙ u_is;
        job = w';
        to_join = begun.1;
        is_of = ap (λ (t : ThreadNo). t.0) n.thread ∙ ready.number;
        scene = ap scene_in n.objects ∙ ready.scene;
        objects = is;
        needs = needs;
        shown = subst (λ (l : List Access). AreShown l h) (sym n.accesses) shown;
      })
  begun_goes s xs list ks ks' theirs others i u w w' false (places.Waiting kept) u_is r at_p mine ready same meets n needs is begun =
      refusal_goes s xs list ks ks' theirs others i u w kept r at_p mine (ready_accesses s xs (suc i) w ready) same meets
      (λ h shown fresh. subst (λ (v : Work G). IsReady s xs (suc i) v) (sym begun) (record {
        number = ap (λ (t : ThreadNo). t.0) n.thread ∙ ready.number;
        scene = ap scene_in n.objects ∙ ready.scene;
        objects = is;
        needs = needs;
        h = h;
        shown = subst (λ (l : List Access). AreShown l h) (sym n.accesses) shown;
        fresh = fresh;
      }))
  begun_goes s xs list ks ks' theirs others i u w w' ok p u_is r at_p mine ready same meets n needs is begun = absurd begun

  begun_may : (u : ThreadNo) (w : Work G) (ok : Bool) (p : Place G) → 0 < u.0 → Needs w → IsBegun u w ok p → MayRun p
  begun_may u w true (places.Running thread) above needs begun = record { other = subst (λ (t : ThreadNo). 0 < t.0) (sym begun.0) above; job = w; to_join = begun.1; needs = needs }
  begun_may u w false (places.Waiting kept) above needs begun = tt
  begun_may u w ok p above needs begun = absurd begun

  begun_steps : (u : ThreadNo) (w : Work G) (ok : Bool) (p : Place G) → IsBegun u w ok p → steps_at p ≡ 0
  begun_steps u w true (places.Running thread) begun = refl
  begun_steps u w false (places.Waiting kept) begun = refl
  begun_steps u w ok p begun = absurd begun

  pub begun_kept : {xs : List RunObject} (r r' : Run G) (u : ThreadNo) (w w' : Work G) (theirs : List Access) (mid : List (Place G)) (ok : Bool) (p : Place G) → IsRun xs r → IsHere u.0 (places.Waiting w) r.others.items mid → AllAsBefore r.main.accesses.items r'.main.accesses.items → AllMet r.main.accesses.items w.standing.accesses.items theirs → IsRenewed w w' theirs → IsBegun u w' ok p → r'.objects ≡ r.objects → r'.main.thread ≡ r.main.thread → r'.others.items ≡ slice_set mid (u.0 - 1) p → IsKept xs r'
  begun_kept {xs} r r' u w w' theirs mid ok p run h same meets n begun a b others =
      let ready = waits_here r u w mid run h in
      let needs = met_needs (scene_in r.objects) xs (suc (u.0 - 1)) r.main.accesses.items theirs w w' ready run.kept.accesses meets n in
      let set_ : r'.others.items ≡ slice_set r.others.items (u.0 - 1) p = others ∙ (ap (λ (l : List (Place G)). slice_set l (u.0 - 1) p) h.is ∙ set_twice r.others.items (u.0 - 1) places.Idle p) in
      kept_of r r' a b (same_accesses xs r.main.accesses.items r'.main.accesses.items 0 same run.kept.accesses)
      (λ i q at_q. may_set r.others.items (u.0 - 1) p (begun_may u w' ok p h.above needs begun) run.kept.may_run i q (ap (λ (l : List (Place G)). slice_get l i) (sym set_) ∙ at_q))
      run.kept

  pub begun_run : {xs : List RunObject} (r r' : Run G) (u : ThreadNo) (w w' : Work G) (theirs : List Access) (mid : List (Place G)) (ok : Bool) (p : Place G) → IsRun xs r → IsHere u.0 (places.Waiting w) r.others.items mid → AllAsBefore r.main.accesses.items r'.main.accesses.items → AllMet r.main.accesses.items w.standing.accesses.items theirs → IsRenewed w w' theirs → IsBegun u w' ok p → r'.objects ≡ r.objects → r'.main.thread ≡ r.main.thread → r'.others.items ≡ slice_set mid (u.0 - 1) p → r'.main.list.items ≡ r.main.list.items ++ items.Control (controls.Start u ok) ∷ [] → IsAt (scene_in r.objects) r'.main → IsRun xs r'
  begun_run {xs} r r' u w w' theirs mid ok p run h same meets n begun a b others grown at_ =
      let ready = waits_here r u w mid run h in
      let needs = met_needs (scene_in r.objects) xs (suc (u.0 - 1)) r.main.accesses.items theirs w w' ready run.kept.accesses meets n in
      let set_ : r'.others.items ≡ slice_set r.others.items (u.0 - 1) p = others ∙ (ap (λ (l : List (Place G)). slice_set l (u.0 - 1) p) h.is ∙ set_twice r.others.items (u.0 - 1) places.Idle p) in
      run_of r r' (r.main.list.items ++ items.Control (controls.Start u ok) ∷ []) r'.main.accesses.items (slice_set r.others.items (u.0 - 1) p) run a
      (begun_kept r r' u w w' theirs mid ok p run h same meets n begun a b others)
      at_ grown refl set_
      (begun_goes (scene_in r.objects) xs r.main.list.items r.main.accesses.items r'.main.accesses.items theirs r.others.items (u.0 - 1) u w w' ok p (before_one u h.above) run.goes h.was run.kept.accesses ready same meets n needs (renewed_objects xs (suc (u.0 - 1)) w w' theirs (met_accesses xs r.main.accesses.items w.standing.accesses.items theirs 0 (suc (u.0 - 1)) run.kept.accesses meets (ready_accesses (scene_in r.objects) xs (suc (u.0 - 1)) w ready)) n) begun)

  -- one place goes on, by the steps that it adds
  set_tally : (before now : Tally) (list list' : List Item) (ps ps' : List (Place G)) (i n : ℕ) (p q : Place G) (xs : List Item) → slice_get ps i ≡ Some p → ps' ≡ slice_set ps i q → list' ≡ list ++ xs → steps_at p ≡ 0 → steps_at q ≡ n → IsTallied before now xs n → (base : Tally) → IsTallied base before list (steps_in ps) → IsTallied base now list' (steps_in ps')
  set_tally before now list list' ps ps' i n p q xs at_p set_ grown none_ some_ more base h =
      let all_ : IsTallied base now (list ++ xs) (steps_in ps + n) = tallied_more base before now list xs (steps_in ps) n h more in
      let steps : steps_in (slice_set ps i q) + steps_at p ≡ steps_in ps + steps_at q = steps_set ps i p q at_p in
      let same : steps_in ps + n ≡ steps_in (slice_set ps i q) = omega (arith, steps, none_, some_) in
      rw (set_, grown) (subst (λ k. IsTallied base now (list ++ xs) k) same all_)

  pub begun_tally : (before now : Tally) (list list' : List Item) (ps mid ps' : List (Place G)) (u : ThreadNo) (w w' : Work G) (ok : Bool) (p : Place G) → IsHere u.0 (places.Waiting w) ps mid → IsBegun u w' ok p → ps' ≡ slice_set mid (u.0 - 1) p → list' ≡ list ++ items.Control (controls.Start u ok) ∷ [] → IsTallied before now (items.Control (controls.Start u ok) ∷ []) 0 → (base : Tally) → IsTallied base before list (steps_in ps) → IsTallied base now list' (steps_in ps')
  begun_tally before now list list' ps mid ps' u w w' ok p h begun others grown more =
      let set_ : ps' ≡ slice_set ps (u.0 - 1) p = others ∙ (ap (λ (l : List (Place G)). slice_set l (u.0 - 1) p) h.is ∙ set_twice ps (u.0 - 1) places.Idle p) in
      set_tally before now list list' ps ps' (u.0 - 1) 0 (places.Waiting w) p (items.Control (controls.Start u ok) ∷ []) h.was set_ grown refl (begun_steps u w' ok p begun) more

  -- ---- joins

  -- what a thread that was awaited has ended with
  record IsDone (s : Scene) (xs : List RunObject) (u : ℕ) (thread : Thread (Work G) Ended) (ys : List Item) (ks ks' : List Access) : Type 0 where
    ended : List Access
    theirs : AreAccesses xs u ended
    body : (job : Work G) → job_to_join thread ≡ Some job → IsBody s u job.standing.accesses.items ys ended
    takes : AllTakeIn ended ks ks'

  done_of : (s : Scene) (xs : List RunObject) (u : ℕ) (first : Fronts) (thread : Thread (Work G) Ended) (ys : List Item) (ks ks' : List Access) → IsOff s xs u first thread → IsAwaited s xs thread ys ks ks' → IsDone s xs u thread ys ks ks'
  done_of s xs u first thread ys ks ks' off a = record {
    ended = a.ended;
    theirs = subst (λ n. AreAccesses xs n a.ended) number a.theirs;
    body = λ job is. subst (λ (w : Work G). IsBody s u w.standing.accesses.items ys a.ended) (same_job a.job job a.to_join is) (subst (λ n. IsBody s n a.job.standing.accesses.items ys a.ended) number a.body);
    takes = a.takes;
  }
    where
      same_job : (v w : Work G) → job_to_join thread ≡ Some v → job_to_join thread ≡ Some w → v ≡ w
      same_job v w h k = let same : Some v ≡ Some w = sym h ∙ k in cc

      number : a.job.standing.thread.0 ≡ u
      number = ap (λ (w : Work G). w.standing.thread.0) (same_job a.job off.job a.to_join off.to_join) ∙ off.is_of

  took_kept : (s : Scene) (xs : List RunObject) (u : ℕ) (thread : Thread (Work G) Ended) (ys : List Item) (ks ks' : List Access) → AreAccesses xs 0 ks → IsDone s xs u thread ys ks ks' → AreAccesses xs 0 ks'
  took_kept s xs u thread ys ks ks' mine d = took_accesses xs d.ended ks ks' 0 u d.theirs d.takes mine

  -- main stands where it stood once it has taken in what a thread ended with
  pub awaited_at : {xs : List RunObject} (r : Run G) (u : ThreadNo) (thread : Thread (Work G) Ended) (ys : List Item) (ks' : List Access) (mid : List (Place G)) → IsRun xs r → IsHere u.0 (places.Running thread) r.others.items mid → IsAwaited (scene_in r.objects) xs thread ys r.main.accesses.items ks' → StandsAt (scene_in r.objects) 0 ks' r.main.list.items r.main.local
  awaited_at {xs} r u thread ys ks' mid run h awaited =
      let d = done_of (scene_in r.objects) xs (suc (u.0 - 1)) (run.goes.first (suc (u.0 - 1))) thread ys r.main.accesses.items ks' (runs_here r (u.0 - 1) thread run h.was) awaited in
      took_at (scene_in r.objects) xs 0 (suc (u.0 - 1)) d.ended r.main.accesses.items ks' r.main.list.items r.main.local run.kept.accesses d.theirs d.takes (at_zero run)

  pub joined_run : {xs : List RunObject} (r r' : Run G) (u : ThreadNo) (thread : Thread (Work G) Ended) (ys : Vec Item) (mid : List (Place G)) → IsRun xs r → IsHere u.0 (places.Running thread) r.others.items mid → IsAwaited (scene_in r.objects) xs thread ys.items r.main.accesses.items r'.main.accesses.items → r'.objects ≡ r.objects → IsKept xs r' → r'.others.items ≡ slice_set mid (u.0 - 1) (places.Ended ys) → r'.main.list.items ≡ r.main.list.items ++ items.Control (controls.Join u) ∷ [] → IsAt (scene_in r.objects) r'.main → IsRun xs r'
  joined_run {xs} r r' u thread ys mid run h awaited a kept others grown at_ =
      let set_ : r'.others.items ≡ slice_set r.others.items (u.0 - 1) (places.Ended ys) = others ∙ (ap (λ (l : List (Place G)). slice_set l (u.0 - 1) (places.Ended ys)) h.is ∙ set_twice r.others.items (u.0 - 1) places.Idle (places.Ended ys)) in
      let d = done_of (scene_in r.objects) xs (suc (u.0 - 1)) (run.goes.first (suc (u.0 - 1))) thread ys.items r.main.accesses.items r'.main.accesses.items (runs_here r (u.0 - 1) thread run h.was) awaited in
      run_of r r' (r.main.list.items ++ items.Control (controls.Join u) ∷ []) r'.main.accesses.items (slice_set r.others.items (u.0 - 1) (places.Ended ys)) run a kept at_ grown refl set_
      (join_goes (scene_in r.objects) xs r.main.list.items r.main.accesses.items r'.main.accesses.items r.others.items (u.0 - 1) u thread ys d.ended (before_one u h.above) run.goes h.was run.kept.accesses d.theirs d.body d.takes)

  pub joined_tally : (before now : Tally) (list list' : List Item) (ps mid ps' : List (Place G)) (u : ThreadNo) (thread : Thread (Work G) Ended) (ys : Vec Item) → IsHere u.0 (places.Running thread) ps mid → ps' ≡ slice_set mid (u.0 - 1) (places.Ended ys) → list' ≡ list ++ items.Control (controls.Join u) ∷ [] → now.faults ≡ before.faults → now.started ≡ before.started → Raised before.carried now.carried (change_count ys.items) → (base : Tally) → IsTallied base before list (steps_in ps) → IsTallied base now list' (steps_in ps')
  joined_tally before now list list' ps mid ps' u thread ys h others grown a b c =
      let set_ : ps' ≡ slice_set ps (u.0 - 1) (places.Ended ys) = others ∙ (ap (λ (l : List (Place G)). slice_set l (u.0 - 1) (places.Ended ys)) h.is ∙ set_twice ps (u.0 - 1) places.Idle (places.Ended ys)) in
      set_tally before now list list' ps ps' (u.0 - 1) (change_count ys.items) (places.Running thread) (places.Ended ys) (items.Control (controls.Join u) ∷ []) h.was set_ grown refl refl (join_counts before now u (change_count ys.items) a b c)

  -- ---- after main's end

  pub idle_run : {xs : List RunObject} (r r' : Run G) (i : ℕ) (w : Work G) (ws : List Access) → IsRun xs r → slice_get r.others.items i ≡ Some (places.Waiting w) → AllTakeIn w.standing.accesses.items r.main.accesses.items ws → r'.main.accesses.items ≡ ws → r'.objects ≡ r.objects → r'.main.thread ≡ r.main.thread → r'.main.list ≡ r.main.list → r'.main.local ≡ r.main.local → r'.others.items ≡ slice_set r.others.items i places.Idle → IsRun xs r'
  idle_run {xs} r r' i w ws run at_p takes is a b c d others =
      let ready : IsReady (scene_in r.objects) xs (suc i) w = (run.goes.places i (places.Waiting w) at_p).1 in
      let theirs = ready_accesses (scene_in r.objects) xs (suc i) w ready in
      let mine = took_accesses xs w.standing.accesses.items r.main.accesses.items ws 0 (suc i) theirs takes run.kept.accesses in
      let kept : IsKept xs r' = kept_of r r' a b (subst (λ (l : List Access). AreAccesses xs 0 l) (sym is) mine)
      (λ j q at_q. may_set r.others.items i places.Idle tt run.kept.may_run j q (ap (λ (l : List (Place G)). slice_get l j) (sym others) ∙ at_q)) run.kept in
      let at_ws = took_at (scene_in r.objects) xs 0 (suc i) w.standing.accesses.items r.main.accesses.items ws r.main.list.items r.main.local run.kept.accesses theirs takes (at_zero run) in
      let zero_ : r'.main.thread.0 ≡ 0 = ap (λ (t : ThreadNo). t.0) b ∙ run.kept.thread in
      let at_ : IsAt (scene_in r.objects) r'.main = rw (zero_, is, c, d) at_ws in
      run_of r r' r.main.list.items ws (slice_set r.others.items i places.Idle) run a kept at_ (ap (λ (v : Vec Item). v.items) c) is others
      (idle_goes (scene_in r.objects) xs r.main.list.items r.main.accesses.items ws r.others.items i w run.goes at_p run.kept.accesses theirs takes)

  pub late_run : {xs : List RunObject} (r r' : Run G) (i : ℕ) (thread : Thread (Work G) Ended) (ys : Vec Item) → IsRun xs r → slice_get r.others.items i ≡ Some (places.Running thread) → IsAwaited (scene_in r.objects) xs thread ys.items r.main.accesses.items r'.main.accesses.items → r'.objects ≡ r.objects → IsKept xs r' → r'.main.list ≡ r.main.list → r'.main.local ≡ r.main.local → r'.others.items ≡ slice_set r.others.items i (places.Ended ys) → IsRun xs r'
  late_run {xs} r r' i thread ys run at_p awaited a kept c d others =
      let b = same_thread r'.main.thread r.main.thread kept.thread run.kept.thread in
      let e = done_of (scene_in r.objects) xs (suc i) (run.goes.first (suc i)) thread ys.items r.main.accesses.items r'.main.accesses.items (runs_here r i thread run at_p) awaited in
      let at_ks = took_at (scene_in r.objects) xs 0 (suc i) e.ended r.main.accesses.items r'.main.accesses.items r.main.list.items r.main.local run.kept.accesses e.theirs e.takes (at_zero run) in
      let zero_ : r'.main.thread.0 ≡ 0 = ap (λ (t : ThreadNo). t.0) b ∙ run.kept.thread in
      let at_ : IsAt (scene_in r.objects) r'.main = rw (zero_, c, d) at_ks in
      run_of r r' r.main.list.items r'.main.accesses.items (slice_set r.others.items i (places.Ended ys)) run a kept at_ (ap (λ (v : Vec Item). v.items) c) refl others
      (late_goes (scene_in r.objects) xs r.main.list.items r.main.accesses.items r'.main.accesses.items r.others.items i thread ys e.ended run.goes at_p run.kept.accesses e.theirs e.body e.takes)

  -- a place that had no steps has so many now, and main's list is as it was
  pub later_tally : (before now : Tally) (list list' : List Item) (ps ps' : List (Place G)) (i n : ℕ) (p q : Place G) → slice_get ps i ≡ Some p → ps' ≡ slice_set ps i q → list' ≡ list → steps_at p ≡ 0 → steps_at q ≡ n → now.faults ≡ before.faults → now.started ≡ before.started → Raised before.carried now.carried n → (base : Tally) → IsTallied base before list (steps_in ps) → IsTallied base now list' (steps_in ps')
  later_tally before now list list' ps ps' i n p q at_p others list_is none_ some_ a b c =
      set_tally before now list list' ps ps' i n p q [] at_p others (list_is ∙ sym (append_none list)) none_ some_ (none_counts before now n a b c)

  -- ---- a thread that has ended

  -- the job that it was started with, and what that gave
  pub record HasGiven (s : Scene) (xs : List RunObject) (thread : Thread (Work G) Ended) (e : Ended) : Type 0 where
    pub job : Work G
    pub to_join : job_to_join thread ≡ Some job
    pub theirs : AreAccesses xs job.standing.thread.0 e.accesses.items
    pub body : e.failed ≡ false → IsBody s job.standing.thread.0 job.standing.accesses.items e.list.items e.accesses.items

  given_by : (s : Scene) (xs : List RunObject) (thread : Thread (Work G) Ended) (e : Ended) (w : Work G) → job_to_join thread ≡ Some w → (scene_in w.objects ≡ s) × (objects_in w ≡ xs) → Gives w e → HasGiven s xs thread e
  given_by s xs thread e w is same g =
      let number : e.thread.0 ≡ w.standing.thread.0 = ap (λ (t : ThreadNo). t.0) g.thread in
      record {
        job = w;
        to_join = is;
        theirs = subst (λ (os : List RunObject). AreAccesses os w.standing.thread.0 e.accesses.items) same.1 (subst (λ n. AreAccesses (objects_in w) n e.accesses.items) number g.accesses);
        body = λ whole. subst (λ (z : Scene). IsBody z w.standing.thread.0 w.standing.accesses.items e.list.items e.accesses.items) same.0 (subst (λ n. IsBody (scene_in w.objects) n w.standing.accesses.items e.list.items e.accesses.items) number (g.body whole));
      }

  pub given_of : (s : Scene) (xs : List RunObject) (thread : Thread (Work G) Ended) (e : Ended) → MayAwait s xs thread → IsOfJob thread e → HasGiven s xs thread e
  given_of s xs thread e a gives = given_by s xs thread e a.may.job a.may.to_join (a.scene, a.objects) (gives a.may.job a.may.to_join)

  -- main has taken in what the thread gave
  pub given_kept : {xs : List RunObject} (r r' : Run G) (thread : Thread (Work G) Ended) (e : Ended) (ws : List Access) → IsKept xs r → HasGiven (scene_in r.objects) xs thread e → AllTakeIn e.accesses.items r.main.accesses.items ws → r'.main.accesses.items ≡ ws → r'.objects ≡ r.objects → r'.main.thread ≡ r.main.thread → r'.others.items ≡ r.others.items → IsKept xs r'
  given_kept {xs} r r' thread e ws kept g takes is a b d =
      kept_of r r' a b (subst (λ (l : List Access). AreAccesses xs 0 l) (sym is) (took_accesses xs e.accesses.items r.main.accesses.items ws 0 g.job.standing.thread.0 g.theirs takes kept.accesses))
      (λ i p at_p. kept.may_run i p (ap (λ (l : List (Place G)). slice_get l i) (sym d) ∙ at_p)) kept

  pub given_awaited : (s : Scene) (xs : List RunObject) (thread : Thread (Work G) Ended) (e : Ended) (ks ks' ws : List Access) → HasGiven s xs thread e → e.failed ≡ false → AllTakeIn e.accesses.items ks ws → ks' ≡ ws → IsAwaited s xs thread e.list.items ks ks'
  given_awaited s xs thread e ks ks' ws g whole takes is = record { job = g.job; to_join = g.to_join; ended = e.accesses.items; theirs = g.theirs; body = g.body whole; takes = subst (λ (l : List Access). AllTakeIn e.accesses.items ks l) (sym is) takes }

  -- ---- places by their index

  pub place_was : (ps : List (Place G)) (i : ℕ) (a b p : Place G) → i < length ps → a ≡ get_or ps i a → b ≡ a → b ≡ p → slice_get ps i ≡ Some p
  place_was ps i a b p low is same known = subst (λ (z : Place G). slice_get ps i ≡ Some z) (sym same ∙ known) (read_at ps i a low is)

  -- one place was set
  pub set_kept : {xs : List RunObject} (r r' : Run G) (i : ℕ) (q : Place G) → IsKept xs r → MayRun q → r'.objects ≡ r.objects → r'.main.thread ≡ r.main.thread → r'.main.accesses.items ≡ r.main.accesses.items → r'.others.items ≡ slice_set r.others.items i q → IsKept xs r'
  set_kept {xs} r r' i q kept may a b c d =
      kept_of r r' a b (subst (λ (l : List Access). AreAccesses xs 0 l) (sym c) kept.accesses)
      (λ j p at_p. may_set r.others.items i q may kept.may_run j p (ap (λ (l : List (Place G)). slice_get l j) (sym d) ∙ at_p)) kept

  pub idle_may : (q : Place G) → q ≡ places.Idle → MayRun q
  idle_may q is = subst (λ (z : Place G). MayRun z) (sym is) tt

  pub left_kept : {xs : List RunObject} (r r' : Run G) (i : ℕ) (q : Place G) → IsKept xs r → q ≡ places.Idle → r'.objects ≡ r.objects → r'.main.thread ≡ r.main.thread → r'.main.accesses.items ≡ r.main.accesses.items → r'.others.items ≡ slice_set r.others.items i q → IsKept xs r'
  left_kept {xs} r r' i q kept is = set_kept r r' i q kept (idle_may q is)

  -- the place of a thread was left, whichever it was
  pub any_left_kept : {xs : List RunObject} (r r' : Run G) (u : ThreadNo) (p : Place G) → IsKept xs r → (r'.objects ≡ r.objects) × (r'.main ≡ r.main) → IsHere u.0 p r.others.items r'.others.items → IsKept xs r'
  any_left_kept {xs} r r' u p kept same h = set_kept r r' (u.0 - 1) places.Idle kept tt same.0 (ap (λ (x : Standing). x.thread) same.1) (ap (λ (x : Standing). x.accesses.items) same.1) h.is

  pub waits_at : {xs : List RunObject} (r : Run G) (i : ℕ) (w : Work G) → IsRun xs r → slice_get r.others.items i ≡ Some (places.Waiting w) → IsReady (scene_in r.objects) xs (suc i) w
  waits_at {xs} r i w run at_p = (run.goes.places i (places.Waiting w) at_p).1

  pub waiting_accesses : {xs : List RunObject} (r : Run G) (i : ℕ) (w : Work G) → IsRun xs r → slice_get r.others.items i ≡ Some (places.Waiting w) → AreAccesses xs (suc i) w.standing.accesses.items
  waiting_accesses {xs} r i w run at_p = ready_accesses (scene_in r.objects) xs (suc i) w (waits_at r i w run at_p)

  -- a place that was set back
  pub set_same : (ps : List (Place G)) (i : ℕ) (a b : Place G) → slice_get ps i ≡ Some a → b ≡ a → slice_set ps i b ≡ ps
  set_same [] i a b h is = refl
  set_same (p ∷ ps) zero a b h is = let same : p ≡ a = cc in ap (λ (z : Place G). z ∷ ps) (is ∙ sym same)
  set_same (p ∷ ps) (suc i) a b h is = ap (λ (l : List (Place G)). p ∷ l) (set_same ps i a b h is)
