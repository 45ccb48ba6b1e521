-- What is so of a run stays so with each item of main, each start and each join.
use Rattle.std.proofs.Common.{◌≡◌, ℕ, zero, suc, ◌<◌, ◌≤◌, ◌==◌, ◌||◌, Bool, true, false, List, [], ◌∷◌, ◌++◌, length, slice_get, slice_set, Some, Vec, Global, refl, sym, ap, ◌∙◌, subst, arith, eqb-true, eq-eqb, append-nil, if◌then◌else◌}
use Rattle.cx_names.specs.declared.ThreadNo.{ThreadNo}
use Rattle.cx_scene.specs.Scene.{Scene}
use Rattle.cx_items.specs.declared.item.Control.TheVariants as controls
use Rattle.cx_items.specs.declared.item.Item.{Item}
use Rattle.cx_items.specs.declared.item.Item.TheVariants as items
use Rattle.cx_history.specs.Follows.{starts, any_starts}
use Rattle.cx_fronts.specs.Positions.{positions}
use Rattle.cx_fronts.specs.Paths.{Fronts, Grows, none_own, Moved, Path}
use Rattle.cx_fronts.specs.Growing.{with_thread, joins, any_joins}
use Rattle.cx_fronts.specs.Mains.{Main, with_list}
use Rattle.cx_fronts.specs.Promises.{PromisesOne}
use Rattle.cx_fronts.proofs.Lists.{prefix_refl, prefix_trans, not_equal}
use Rattle.cx_fronts.proofs.Heart.{stays, path-grows, no_more as nothing_more}
use Rattle.cx_fronts.proofs.Grown.{refusal_goes as refusal_item}
use Rattle.cx_fronts.proofs.Mained.{main_goes, main_starts, main_joins}
use Rattle.cx_jthread.specs.declared.thread.Thread.{Thread}
use Rattle.cx_jthread.specs.Threads.{job_to_join}
use Rattle.cx_kinds.specs.Accesses.{RunObject}
use Rattle.cx_kinds.specs.declared.access.Access.{Access}
use Rattle.cx_work.specs.declared.work.Work.{Work}
use Rattle.cx_work.specs.declared.work.Ended.{Ended}
use Rattle.cx_work.specs.Bodies.{IsBody}
use Rattle.cx_work.specs.Steps.{is_made_alone}
use Rattle.cx_work.specs.Accesses.{AreAccesses, AreShown}
use Rattle.cx_run.specs.declared.place.Place.{Place}
use Rattle.cx_run.specs.declared.place.Place.TheVariants as places
use Rattle.cx_run.specs.Handing.{IsSplit, AllAsBefore, AllMet, AllTakeIn, HaveTaken}
use Rattle.cx_run.specs.Runs.{IsWholeList, IsReady, IsOff, HasCome, WasIdle, IsPlace, RunOf}
use Rattle.cx_run.proofs.Accesses.{Meets, same_shown, same_taken, same_splits, met_shown, took_shown, took_them, took_more, took_splits}

-- ---- lists

or_none : (a b : Bool) → b ≡ false → (a || b) ≡ a
or_none true b h = refl
or_none false b h = h

pub or_one : (a b : Bool) → b ≡ true → (a || b) ≡ true
or_one true b h = refl
or_one false b h = h

or_assoc : (a b c : Bool) → (a || (b || c)) ≡ ((a || b) || c)
or_assoc true b c = refl
or_assoc false b c = refl

no_more : (a : Bool) → (a || false) ≡ a
no_more true = refl
no_more false = refl

starts_more : (v : ℕ) (xs : List Item) (x : Item) → any_starts v (xs ++ x ∷ []) ≡ (any_starts v xs || starts v x)
starts_more v [] x = no_more (starts v x)
starts_more v (y ∷ xs) x = ap (λ b. starts v y || b) (starts_more v xs x) ∙ or_assoc (starts v y) (any_starts v xs) (starts v x)

pub joins_more : (v : ℕ) (xs : List Item) (x : Item) → any_joins v (xs ++ x ∷ []) ≡ (any_joins v xs || joins v x)
joins_more v [] x = no_more (joins v x)
joins_more v (y ∷ xs) x = ap (λ b. joins v y || b) (joins_more v xs x) ∙ or_assoc (joins v y) (any_joins v xs) (joins v x)

pub same_starts : (v : ℕ) (xs : List Item) (x : Item) → starts v x ≡ false → any_starts v (xs ++ x ∷ []) ≡ any_starts v xs
same_starts v xs x h = starts_more v xs x ∙ or_none (any_starts v xs) (starts v x) h

pub same_joins : (v : ℕ) (xs : List Item) (x : Item) → joins v x ≡ false → any_joins v (xs ++ x ∷ []) ≡ any_joins v xs
same_joins v xs x h = joins_more v xs x ∙ or_none (any_joins v xs) (joins v x) h

alone_starts : (v : ℕ) (x : Item) → is_made_alone x ≡ true → starts v x ≡ false
alone_starts v (items.Change q p e) h = refl
alone_starts v (items.Look q l) h = refl
alone_starts v (items.Said r) h = refl
alone_starts v (items.Control c) h = cc h

alone_joins : (v : ℕ) (x : Item) → is_made_alone x ≡ true → joins v x ≡ false
alone_joins v (items.Change q p e) h = refl
alone_joins v (items.Look q l) h = refl
alone_joins v (items.Said r) h = refl
alone_joins v (items.Control c) h = cc h

pub below : {A : Type 0} (xs : List A) (o : ℕ) (x : A) → slice_get xs o ≡ Some x → o < length xs
below [] o x h = cc h
below (y ∷ xs) zero x h = omega arith
below (y ∷ xs) (suc o) x h = omega (arith, below xs o x h)

pub length_set : {A : Type 0} (xs : List A) (i : ℕ) (x : A) → length (slice_set xs i x) ≡ length xs
length_set [] i x = refl
length_set (y ∷ xs) zero x = refl
length_set (y ∷ xs) (suc i) x = ap suc (length_set xs i x)

-- what stands in a list of which the place i holds x now: x there, and elsewhere what stood there
pub data Stands {A : Type 0} (xs : List A) (i : ℕ) (x : A) (j : ℕ) (p : A) : Type 0 where
  here : j ≡ i → x ≡ p → Stands xs i x j p
  elsewhere : (j ≡ i → ⊥) → slice_get xs j ≡ Some p → Stands xs i x j p

further : {A : Type 0} (y : A) (xs : List A) (i : ℕ) (x : A) (j : ℕ) (p : A) → Stands xs i x j p → Stands (y ∷ xs) (suc i) x (suc j) p
further y xs i x j p (here same is) = here (ap suc same) is
further y xs i x j p (elsewhere apart at) = elsewhere (λ e. apart (omega (arith, e))) at

pub get_set : {A : Type 0} (xs : List A) (i : ℕ) (x : A) (j : ℕ) (p : A) → slice_get (slice_set xs i x) j ≡ Some p → Stands xs i x j p
get_set [] i x j p h = cc h
get_set (y ∷ xs) zero x zero p h = let is : x ≡ p = cc in here refl is
get_set (y ∷ xs) zero x (suc j) p h = elsewhere (λ e. omega (arith, e)) h
get_set (y ∷ xs) (suc i) x zero p h = elsewhere (λ e. omega (arith, e)) h
get_set (y ∷ xs) (suc i) x (suc j) p h = further y xs i x j p (get_set xs i x j p h)

pub split_set : (k : Access) {m n : ℕ} → m ≡ n → IsSplit k n → IsSplit k m
split_set k e split v a = split v a ∙ sym e

-- ---- the other threads stay where they were

come_goes : (s : Scene) (u : ℕ) (b : Bool) (first last : Fronts) (list ys : List Item) (accesses accesses' : List Access) (f f' : Fronts) → Grows f f' → ((v : ℕ) (h : Fronts) → HaveTaken accesses v h → HaveTaken accesses' v h) → HasCome s u b first last list ys accesses f → HasCome s u b first last list ys accesses' f'
come_goes s u true first last list ys accesses accesses' f f' grows more come = (come.0, more u last come.1, come.2)
come_goes s u false first last list ys accesses accesses' f f' grows more come = (come.0, record { list = come.1.list; made = come.1.made; grows = λ o. prefix_trans (come.0 o) (come.1.grows o) (grows o); taken = more u come.0 come.1.taken })

pub place_goes : {G : Type 0} (s : Scene) (xs : List RunObject) (first last first' last' : ℕ → Fronts) (lists lists' : ℕ → List Item) (list list' : List Item) (accesses accesses' : List Access) (f f' : Fronts) (u : ℕ) (p : Place G) → any_starts u list' ≡ any_starts u list → any_joins u list' ≡ any_joins u list → first u ≡ first' u → last u ≡ last' u → lists u ≡ lists' u → Grows f f' → ((v : ℕ) (h : Fronts) → HaveTaken accesses v h → HaveTaken accesses' v h) → IsPlace s xs first last lists list accesses f u p → IsPlace s xs first' last' lists' list' accesses' f' u p
place_goes s xs first last first' last' lists lists' list list' accesses accesses' f f' u (places.Waiting w) a b c d e grows more p = (a ∙ p.0, p.1)
place_goes s xs first last first' last' lists lists' list list' accesses accesses' f f' u (places.Running thread) a b c d e grows more p = (a ∙ p.0, b ∙ p.1, subst (λ (h : Fronts). IsOff s xs u h thread) c p.2)
place_goes s xs first last first' last' lists lists' list list' accesses accesses' f f' u (places.Ended ys) a b c d e grows more p = (
  a ∙ p.0,
  subst (λ (j : Bool). HasCome s u j (first' u) (last' u) (lists' u) ys.items accesses' f') (sym b)
      (subst (λ (h : Fronts). HasCome s u (any_joins u list) h (last' u) (lists' u) ys.items accesses' f') c
      (subst (λ (h : Fronts). HasCome s u (any_joins u list) (first u) h (lists' u) ys.items accesses' f') d
      (subst (λ (l : List Item). HasCome s u (any_joins u list) (first u) (last u) l ys.items accesses' f') e
      (come_goes s u (any_joins u list) (first u) (last u) (lists u) ys.items accesses accesses' f f' grows more p.1)))),
)
place_goes s xs first last first' last' lists lists' list list' accesses accesses' f f' u places.Idle a b c d e grows more p = (a ∙ p.0, record { h = p.1.h; fresh = p.1.fresh; grows = λ o. prefix_trans (p.1.h o) (p.1.grows o) (grows o); taken = more u p.1.h p.1.taken })

-- ---- an item of main's own

pub act_goes : {G : Type 0} (s : Scene) (xs : List RunObject) (list : List Item) (accesses accesses' : List Access) (others : List (Place G)) (x : Item) → RunOf s xs list accesses others → PromisesOne s 0 (AreShown accesses) x (AreShown accesses') → is_made_alone x ≡ true → ((v : ℕ) (h : Fronts) → HaveTaken accesses v h → HaveTaken accesses' v h) → ((o : ℕ) (k : Access) → slice_get accesses' o ≡ Some k → IsSplit k (length others)) → RunOf s xs (list ++ x ∷ []) accesses' others
act_goes s xs list accesses accesses' others x r promise alone more split =
    let p = promise r.f r.shown in
    let one : Path s r.first r.last 0 r.f (x ∷ []) p.0 = (p.0, p.2 r.first r.last, stays 0 p.0) in
    record {
      count = r.count;
      splits = split;
      first = r.first;
      last = r.last;
      lists = r.lists;
      f = p.0;
      shown = p.1;
      main = main_goes s r.first r.last r.lists list (x ∷ []) r.f p.0 r.main (λ u. no_more (starts u x) ∙ alone_starts u x alone) (λ u. no_more (joins u x) ∙ alone_joins u x alone) one;
      started = λ u h. r.started u (sym (same_starts u list x (alone_starts u x alone)) ∙ h);
      places = λ i q at. place_goes s xs r.first r.last r.first r.last r.lists r.lists list (list ++ x ∷ []) accesses accesses' r.f p.0 (suc i) q (same_starts (suc i) list x (alone_starts (suc i) x alone)) (same_joins (suc i) list x (alone_joins (suc i) x alone)) refl refl refl (path-grows s r.first r.last 0 r.f p.0 (x ∷ []) one) more (r.places i q at);
    }

-- ---- starts

other_first : (fs : ℕ → Fronts) (u v : ℕ) (h : Fronts) → (v ≡ u → ⊥) → fs v ≡ with_thread fs u h v
other_first fs u v h apart = let k : (v == u) ≡ false = not_equal v u apart in rw k refl

this_first : (fs : ℕ → Fronts) (u : ℕ) (h : Fronts) → h ≡ with_thread fs u h u
this_first fs u h = let k : (u == u) ≡ true = eq-eqb u u refl in rw k refl

-- a thread that waited was started with what main has seen
pub start_goes : {G : Type 0} (s : Scene) (xs : List RunObject) (list : List Item) (accesses accesses' theirs : List Access) (others : List (Place G)) (i : ℕ) (u : ThreadNo) (w : Work G) (thread : Thread (Work G) Ended) → u.0 ≡ suc i → RunOf s xs list accesses others → slice_get others i ≡ Some (places.Waiting w) → AreAccesses xs 0 accesses → AreAccesses xs (suc i) w.standing.accesses.items → AllAsBefore accesses accesses' → AllMet accesses w.standing.accesses.items theirs → ((h : Fronts) → AreShown theirs h → IsOff s xs (suc i) h thread) → RunOf s xs (list ++ items.Control (controls.Start u true) ∷ []) accesses' (slice_set others i (places.Running thread))
start_goes {G} s xs list accesses accesses' theirs others i u w thread u_is r at mine yours same meets off = record {
  count = ap suc (length_set others i (places.Running thread)) ∙ r.count;
  splits = λ o k at_k. split_set k (length_set others i (places.Running thread)) (same_splits xs accesses accesses' 0 (length others) mine same r.splits o k at_k);
  first = with_thread r.first u.0 met.g;
  last = r.last;
  lists = r.lists;
  f = r.f;
  shown = same_shown accesses accesses' r.f same r.shown;
  main = main_starts s r.first r.last r.lists list r.f r.f met.g u r.main new (stays 0 r.f) (λ o. (met.both o).one) (λ o. subst (λ n. positions n 0 (met.g o) ≡ []) (sym u_is) ((met.both o).own ∙ ready.fresh o));
  started = λ v h. bounded v (starts_more v list (items.Control (controls.Start u true))) h;
  places = λ j q h. place_ j q (get_set others i (places.Running thread) j q h);
}
  where
    waits : (any_starts (suc i) list ≡ false) × IsReady s xs (suc i) w
    waits = r.places i (places.Waiting w) at

    ready : IsReady s xs (suc i) w
    ready = waits.1

    new : any_starts u.0 list ≡ false
    new = subst (λ n. any_starts n list ≡ false) (sym u_is) waits.0

    met : Meets theirs (suc i) r.f ready.h
    met = met_shown xs accesses w.standing.accesses.items theirs 0 (suc i) r.f ready.h mine yours meets r.shown ready.shown

    low : i < length others
    low = below others i (places.Waiting w) at

    not_joined : (b : Bool) → any_joins (suc i) list ≡ b → b ≡ false
    not_joined false k = refl
    not_joined true k = let yes_ = r.main.started (suc i) k in let no_ = waits.0 in cc (yes_, no_)

    bounded : (v : ℕ) → any_starts v (list ++ items.Control (controls.Start u true) ∷ []) ≡ (any_starts v list || (u.0 == v)) → any_starts v (list ++ items.Control (controls.Start u true) ∷ []) ≡ true → (0 < v) × (v ≤ length (slice_set others i (places.Running thread)))
    bounded v is h = go (any_starts v list) refl (sym is ∙ h)
      where
        go : (b : Bool) → any_starts v list ≡ b → (b || (u.0 == v)) ≡ true → (0 < v) × (v ≤ length (slice_set others i (places.Running thread)))
        go true k j = let was = r.started v k in (was.0, omega (arith, was.1, length_set others i (places.Running thread)))
        go false k j =
            let same_ : u.0 ≡ v = eqb-true u.0 v j in
            (omega (arith, same_, u_is), omega (arith, same_, u_is, low, length_set others i (places.Running thread)))

    place_ : (j : ℕ) (q : Place G) → Stands others i (places.Running thread) j q → IsPlace s xs (with_thread r.first u.0 met.g) r.last r.lists (list ++ items.Control (controls.Start u true) ∷ []) accesses' r.f (suc j) q
    place_ j q (here at_i is) =
        let starts_ : any_starts (suc i) (list ++ items.Control (controls.Start u true) ∷ []) ≡ true = starts_more (suc i) list (items.Control (controls.Start u true)) ∙ or_one (any_starts (suc i) list) (u.0 == suc i) (eq-eqb u.0 (suc i) u_is) in
        let joins_ : any_joins (suc i) (list ++ items.Control (controls.Start u true) ∷ []) ≡ false = same_joins (suc i) list (items.Control (controls.Start u true)) refl ∙ not_joined (any_joins (suc i) list) refl in
        let first_ : met.g ≡ with_thread r.first u.0 met.g (suc i) = subst (λ n. met.g ≡ with_thread r.first u.0 met.g n) u_is (this_first r.first u.0 met.g) in
        subst (λ n. IsPlace s xs (with_thread r.first u.0 met.g) r.last r.lists (list ++ items.Control (controls.Start u true) ∷ []) accesses' r.f (suc n) q) (sym at_i)
        (subst (λ (z : Place G). IsPlace s xs (with_thread r.first u.0 met.g) r.last r.lists (list ++ items.Control (controls.Start u true) ∷ []) accesses' r.f (suc i) z) is
        (starts_, joins_, subst (λ (h : Fronts). IsOff s xs (suc i) h thread) first_ (off met.g met.shown)))
    place_ j q (elsewhere apart at_j) =
        let other : (u.0 == suc j) ≡ false = not_equal u.0 (suc j) (λ e. apart (omega (arith, e, u_is))) in
        place_goes s xs r.first r.last (with_thread r.first u.0 met.g) r.last r.lists r.lists list (list ++ items.Control (controls.Start u true) ∷ []) accesses accesses' r.f r.f (suc j) q
        (same_starts (suc j) list (items.Control (controls.Start u true)) other)
        (same_joins (suc j) list (items.Control (controls.Start u true)) refl)
        (other_first r.first u.0 (suc j) met.g (λ e. apart (omega (arith, e, u_is))))
        refl refl (λ o. prefix_refl (r.f o)) (λ v h. same_taken xs accesses accesses' 0 v h mine same) (r.places j q at_j)

-- no thread was to be had: the thread waits on, and has seen what main has seen
pub refusal_goes : {G : Type 0} (s : Scene) (xs : List RunObject) (list : List Item) (accesses accesses' theirs : List Access) (others : List (Place G)) (i : ℕ) (u : ThreadNo) (w w' : Work G) → RunOf s xs list accesses others → slice_get others i ≡ Some (places.Waiting w) → AreAccesses xs 0 accesses → AreAccesses xs (suc i) w.standing.accesses.items → AllAsBefore accesses accesses' → AllMet accesses w.standing.accesses.items theirs → ((h : Fronts) → AreShown theirs h → ((o : ℕ) → positions (suc i) 0 (h o) ≡ []) → IsReady s xs (suc i) w') → RunOf s xs (list ++ items.Control (controls.Start u false) ∷ []) accesses' (slice_set others i (places.Waiting w'))
refusal_goes {G} s xs list accesses accesses' theirs others i u w w' r at mine yours same meets ready' = record {
  count = ap suc (length_set others i (places.Waiting w')) ∙ r.count;
  splits = λ o k at_k. split_set k (length_set others i (places.Waiting w')) (same_splits xs accesses accesses' 0 (length others) mine same r.splits o k at_k);
  first = r.first;
  last = r.last;
  lists = r.lists;
  f = r.f;
  shown = same_shown accesses accesses' r.f same r.shown;
  main = main_goes s r.first r.last r.lists list (items.Control (controls.Start u false) ∷ []) r.f r.f r.main (λ v. refl) (λ v. refl) (r.f, (refusal_item s r.first r.last 0 r.f u).0, stays 0 r.f);
  started = λ v h. let was = r.started v (sym (same_starts v list (items.Control (controls.Start u false)) refl) ∙ h) in (was.0, omega (arith, was.1, length_set others i (places.Waiting w')));
  places = λ j q h. place_ j q (get_set others i (places.Waiting w') j q h);
}
  where
    waits : (any_starts (suc i) list ≡ false) × IsReady s xs (suc i) w
    waits = r.places i (places.Waiting w) at

    met : Meets theirs (suc i) r.f waits.1.h
    met = met_shown xs accesses w.standing.accesses.items theirs 0 (suc i) r.f waits.1.h mine yours meets r.shown waits.1.shown

    place_ : (j : ℕ) (q : Place G) → Stands others i (places.Waiting w') j q → IsPlace s xs r.first r.last r.lists (list ++ items.Control (controls.Start u false) ∷ []) accesses' r.f (suc j) q
    place_ j q (here at_i is) =
        subst (λ n. IsPlace s xs r.first r.last r.lists (list ++ items.Control (controls.Start u false) ∷ []) accesses' r.f (suc n) q) (sym at_i)
        (subst (λ (z : Place G). IsPlace s xs r.first r.last r.lists (list ++ items.Control (controls.Start u false) ∷ []) accesses' r.f (suc i) z) is
        (same_starts (suc i) list (items.Control (controls.Start u false)) refl ∙ waits.0, ready' met.g met.shown (λ o. (met.both o).own ∙ waits.1.fresh o)))
    place_ j q (elsewhere apart at_j) =
        place_goes s xs r.first r.last r.first r.last r.lists r.lists list (list ++ items.Control (controls.Start u false) ∷ []) accesses accesses' r.f r.f (suc j) q
        (same_starts (suc j) list (items.Control (controls.Start u false)) refl)
        (same_joins (suc j) list (items.Control (controls.Start u false)) refl)
        refl refl refl (λ o. prefix_refl (r.f o)) (λ v h. same_taken xs accesses accesses' 0 v h mine same) (r.places j q at_j)

-- ---- joins

other_last : {A : Type 0} (fs : ℕ → A) (u v : ℕ) (h : A) → (v ≡ u → ⊥) → fs v ≡ (if v == u then h else fs v)
other_last fs u v h apart = let k : (v == u) ≡ false = not_equal v u apart in rw k refl

this_last : {A : Type 0} (fs : ℕ → A) (u v : ℕ) (h : A) → v ≡ u → (if v == u then h else fs v) ≡ h
this_last fs u v h same = let k : (v == u) ≡ true = eq-eqb v u same in rw k refl

-- a thread that ran has ended with its whole list, and main has taken its accesses in
pub join_goes : {G : Type 0} (s : Scene) (xs : List RunObject) (list : List Item) (accesses accesses' : List Access) (others : List (Place G)) (i : ℕ) (u : ThreadNo) (thread : Thread (Work G) Ended) (ys : Vec Item Global) (ended : List Access) → u.0 ≡ suc i → RunOf s xs list accesses others → slice_get others i ≡ Some (places.Running thread) → AreAccesses xs 0 accesses → AreAccesses xs (suc i) ended → ((job : Work G) → job_to_join thread ≡ Some job → IsBody s (suc i) job.standing.accesses.items ys.items ended) → AllTakeIn ended accesses accesses' → RunOf s xs (list ++ items.Control (controls.Join u) ∷ []) accesses' (slice_set others i (places.Ended ys))
join_goes {G} s xs list accesses accesses' others i u thread ys ended u_is r at mine theirs body takes = record {
  count = ap suc (length_set others i (places.Ended ys)) ∙ r.count;
  splits = λ o k at_k. split_set k (length_set others i (places.Ended ys)) (took_splits xs ended accesses accesses' 0 (suc i) (length others) theirs mine takes r.splits o k at_k);
  first = r.first;
  last = with_thread r.last u.0 came.0;
  lists = with_list r.lists u.0 ys.items;
  f = met.g;
  shown = met.shown;
  main = main_joins s r.first r.last r.lists list ys.items r.f met.g came.0 u r.main
      (subst (λ n. any_starts n list ≡ true) (sym u_is) runs.0)
      (subst (λ n. any_joins n list ≡ false) (sym u_is) runs.1)
      (record { grows = λ o. (met.both o).two; mine = λ o. (met.both o).own ∙ sym (nothing_more (positions 0 0 (r.f o))) })
      (λ first' last'. subst (λ n. Path s first' last' n (r.first n) ys.items came.0) (sym u_is) (came.2 first' last'))
      (λ o. (met.both o).one);
  started = λ v h. let was = r.started v (sym (same_starts v list (items.Control (controls.Join u)) refl) ∙ h) in (was.0, omega (arith, was.1, length_set others i (places.Ended ys)));
  places = λ j q h. place_ j q (get_set others i (places.Ended ys) j q h);
}
  where
    runs : (any_starts (suc i) list ≡ true) × (any_joins (suc i) list ≡ false) × IsOff s xs (suc i) (r.first (suc i)) thread
    runs = r.places i (places.Running thread) at

    done : IsBody s (suc i) runs.2.job.standing.accesses.items ys.items ended
    done = body runs.2.job runs.2.to_join

    came : (k : Fronts) × AreShown ended k × ((first' last' : ℕ → Fronts) → Path s first' last' (suc i) (r.first (suc i)) ys.items k)
    came = done.promised (r.first (suc i)) runs.2.shown

    met : Meets accesses' 0 came.0 r.f
    met = took_shown xs ended accesses accesses' 0 (suc i) came.0 r.f theirs mine takes came.1 r.shown

    place_ : (j : ℕ) (q : Place G) → Stands others i (places.Ended ys) j q → IsPlace s xs r.first (with_thread r.last u.0 came.0) (with_list r.lists u.0 ys.items) (list ++ items.Control (controls.Join u) ∷ []) accesses' met.g (suc j) q
    place_ j q (here at_i is) =
        let starts_ : any_starts (suc i) (list ++ items.Control (controls.Join u) ∷ []) ≡ true = same_starts (suc i) list (items.Control (controls.Join u)) refl ∙ runs.0 in
        let joins_ : any_joins (suc i) (list ++ items.Control (controls.Join u) ∷ []) ≡ true = joins_more (suc i) list (items.Control (controls.Join u)) ∙ or_one (any_joins (suc i) list) (u.0 == suc i) (eq-eqb u.0 (suc i) u_is) in
        let taken_ : HaveTaken accesses' (suc i) came.0 = took_them xs ended accesses accesses' 0 (suc i) came.0 theirs mine takes came.1 in
        let last_ : came.0 ≡ with_thread r.last u.0 came.0 (suc i) = sym (this_last r.last u.0 (suc i) came.0 (sym u_is)) in
        let whole_ : IsWholeList s (suc i) came.0 ys.items = record { whole = done.whole came.0 came.1; formed = done.formed } in
        let come : HasCome s (suc i) true (r.first (suc i)) (with_thread r.last u.0 came.0 (suc i)) (with_list r.lists u.0 ys.items (suc i)) ys.items accesses' met.g = (this_last r.lists u.0 (suc i) ys.items (sym u_is), subst (λ (h : Fronts). HaveTaken accesses' (suc i) h) last_ taken_, subst (λ (h : Fronts). IsWholeList s (suc i) h ys.items) last_ whole_) in
        subst (λ n. IsPlace s xs r.first (with_thread r.last u.0 came.0) (with_list r.lists u.0 ys.items) (list ++ items.Control (controls.Join u) ∷ []) accesses' met.g (suc n) q) (sym at_i)
        (subst (λ (z : Place G). IsPlace s xs r.first (with_thread r.last u.0 came.0) (with_list r.lists u.0 ys.items) (list ++ items.Control (controls.Join u) ∷ []) accesses' met.g (suc i) z) is
        (starts_, subst (λ (b : Bool). HasCome s (suc i) b (r.first (suc i)) (with_thread r.last u.0 came.0 (suc i)) (with_list r.lists u.0 ys.items (suc i)) ys.items accesses' met.g) (sym joins_) come))
    place_ j q (elsewhere apart at_j) =
        let other : (u.0 == suc j) ≡ false = not_equal u.0 (suc j) (λ e. apart (omega (arith, e, u_is))) in
        place_goes s xs r.first r.last r.first (with_thread r.last u.0 came.0) r.lists (with_list r.lists u.0 ys.items) list (list ++ items.Control (controls.Join u) ∷ []) accesses accesses' r.f met.g (suc j) q
        (same_starts (suc j) list (items.Control (controls.Join u)) refl)
        (same_joins (suc j) list (items.Control (controls.Join u)) other)
        refl
        (other_last r.last u.0 (suc j) came.0 (λ e. apart (omega (arith, e, u_is))))
        (other_last r.lists u.0 (suc j) ys.items (λ e. apart (omega (arith, e, u_is))))
        (λ o. (met.both o).two)
        (λ v h. took_more xs ended accesses accesses' 0 (suc i) v h theirs mine takes)
        (r.places j q at_j)

-- ---- after main's end

-- main's list stays as it is, and its fronts grow by others' changes
drift : (s : Scene) (first last : ℕ → Fronts) (lists : ℕ → List Item) (list : List Item) (f g : Fronts) → Main s first last lists list f → Moved 0 f g none_own → Main s first last lists list g
drift s first last lists list f g m moved = subst (λ (l : List Item). Main s first last lists l g) (append-nil list) (main_goes s first last lists list [] f g m (λ u. refl) (λ u. refl) moved)

-- a thread that was never started: main has taken its accesses in
pub idle_goes : {G : Type 0} (s : Scene) (xs : List RunObject) (list : List Item) (accesses accesses' : List Access) (others : List (Place G)) (i : ℕ) (w : Work G) → RunOf s xs list accesses others → slice_get others i ≡ Some (places.Waiting w) → AreAccesses xs 0 accesses → AreAccesses xs (suc i) w.standing.accesses.items → AllTakeIn w.standing.accesses.items accesses accesses' → RunOf s xs list accesses' (slice_set others i places.Idle)
idle_goes {G} s xs list accesses accesses' others i w r at mine theirs takes = record {
  count = ap suc (length_set others i places.Idle) ∙ r.count;
  splits = λ o k at_k. split_set k (length_set others i places.Idle) (took_splits xs w.standing.accesses.items accesses accesses' 0 (suc i) (length others) theirs mine takes r.splits o k at_k);
  first = r.first;
  last = r.last;
  lists = r.lists;
  f = met.g;
  shown = met.shown;
  main = drift s r.first r.last r.lists list r.f met.g r.main (record { grows = λ o. (met.both o).two; mine = λ o. (met.both o).own ∙ sym (nothing_more (positions 0 0 (r.f o))) });
  started = λ v h. let was = r.started v h in (was.0, omega (arith, was.1, length_set others i places.Idle));
  places = λ j q h. place_ j q (get_set others i places.Idle j q h);
}
  where
    waits : (any_starts (suc i) list ≡ false) × IsReady s xs (suc i) w
    waits = r.places i (places.Waiting w) at

    met : Meets accesses' 0 waits.1.h r.f
    met = took_shown xs w.standing.accesses.items accesses accesses' 0 (suc i) waits.1.h r.f theirs mine takes waits.1.shown r.shown

    place_ : (j : ℕ) (q : Place G) → Stands others i places.Idle j q → IsPlace s xs r.first r.last r.lists list accesses' met.g (suc j) q
    place_ j q (here at_i is) =
        let idle : WasIdle (suc i) accesses' met.g = record { h = waits.1.h; fresh = waits.1.fresh; grows = λ o. (met.both o).one; taken = took_them xs w.standing.accesses.items accesses accesses' 0 (suc i) waits.1.h theirs mine takes waits.1.shown } in
        subst (λ n. IsPlace s xs r.first r.last r.lists list accesses' met.g (suc n) q) (sym at_i)
        (subst (λ (z : Place G). IsPlace s xs r.first r.last r.lists list accesses' met.g (suc i) z) is (waits.0, idle))
    place_ j q (elsewhere apart at_j) =
        place_goes s xs r.first r.last r.first r.last r.lists r.lists list list accesses accesses' r.f met.g (suc j) q refl refl refl refl refl (λ o. (met.both o).two) (λ v h. took_more xs w.standing.accesses.items accesses accesses' 0 (suc i) v h theirs mine takes) (r.places j q at_j)

-- a thread that main's list doesn't join: it has ended, and main has taken its accesses in
pub late_goes : {G : Type 0} (s : Scene) (xs : List RunObject) (list : List Item) (accesses accesses' : List Access) (others : List (Place G)) (i : ℕ) (thread : Thread (Work G) Ended) (ys : Vec Item Global) (ended : List Access) → RunOf s xs list accesses others → slice_get others i ≡ Some (places.Running thread) → AreAccesses xs 0 accesses → AreAccesses xs (suc i) ended → ((job : Work G) → job_to_join thread ≡ Some job → IsBody s (suc i) job.standing.accesses.items ys.items ended) → AllTakeIn ended accesses accesses' → RunOf s xs list accesses' (slice_set others i (places.Ended ys))
late_goes {G} s xs list accesses accesses' others i thread ys ended r at mine theirs body takes = record {
  count = ap suc (length_set others i (places.Ended ys)) ∙ r.count;
  splits = λ o k at_k. split_set k (length_set others i (places.Ended ys)) (took_splits xs ended accesses accesses' 0 (suc i) (length others) theirs mine takes r.splits o k at_k);
  first = r.first;
  last = r.last;
  lists = r.lists;
  f = met.g;
  shown = met.shown;
  main = drift s r.first r.last r.lists list r.f met.g r.main (record { grows = λ o. (met.both o).two; mine = λ o. (met.both o).own ∙ sym (nothing_more (positions 0 0 (r.f o))) });
  started = λ v h. let was = r.started v h in (was.0, omega (arith, was.1, length_set others i (places.Ended ys)));
  places = λ j q h. place_ j q (get_set others i (places.Ended ys) j q h);
}
  where
    runs : (any_starts (suc i) list ≡ true) × (any_joins (suc i) list ≡ false) × IsOff s xs (suc i) (r.first (suc i)) thread
    runs = r.places i (places.Running thread) at

    done : IsBody s (suc i) runs.2.job.standing.accesses.items ys.items ended
    done = body runs.2.job runs.2.to_join

    came : (k : Fronts) × AreShown ended k × ((first' last' : ℕ → Fronts) → Path s first' last' (suc i) (r.first (suc i)) ys.items k)
    came = done.promised (r.first (suc i)) runs.2.shown

    met : Meets accesses' 0 came.0 r.f
    met = took_shown xs ended accesses accesses' 0 (suc i) came.0 r.f theirs mine takes came.1 r.shown

    place_ : (j : ℕ) (q : Place G) → Stands others i (places.Ended ys) j q → IsPlace s xs r.first r.last r.lists list accesses' met.g (suc j) q
    place_ j q (here at_i is) =
        let come : HasCome s (suc i) false (r.first (suc i)) (r.last (suc i)) (r.lists (suc i)) ys.items accesses' met.g = (came.0, record { list = record { whole = done.whole came.0 came.1; formed = done.formed }; made = came.2; grows = λ o. (met.both o).one; taken = took_them xs ended accesses accesses' 0 (suc i) came.0 theirs mine takes came.1 }) in
        subst (λ n. IsPlace s xs r.first r.last r.lists list accesses' met.g (suc n) q) (sym at_i)
        (subst (λ (z : Place G). IsPlace s xs r.first r.last r.lists list accesses' met.g (suc i) z) is
        (runs.0, subst (λ (b : Bool). HasCome s (suc i) b (r.first (suc i)) (r.last (suc i)) (r.lists (suc i)) ys.items accesses' met.g) (sym runs.1) come))
    place_ j q (elsewhere apart at_j) =
        place_goes s xs r.first r.last r.first r.last r.lists r.lists list list accesses accesses' r.f met.g (suc j) q refl refl refl refl refl (λ o. (met.both o).two) (λ v h. took_more xs ended accesses accesses' 0 (suc i) v h theirs mine takes) (r.places j q at_j)
