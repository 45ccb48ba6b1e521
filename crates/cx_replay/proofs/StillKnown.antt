-- What is known of a thread stays so while others make steps.
use Rattle.std.proofs.Common.{◌≡◌, ℕ, zero, suc, ◌+◌, ◌<◌, ◌≤◌, ◌==◌, ◌&&◌, ℤ, pos, Bool, true, false, List, [], ◌∷◌, map, length, replicate, Option, Some, None, is_some, is_none, option_and_then, option_map, unwrap_or, get_or, slice_get, slice_set, if◌then◌else◌, refl, sym, ap, ◌∙◌, subst, arith, eqb-true, eq-eqb}
use Rattle.std.specs.List.{list_all}
use Rattle.cx_names.specs.declared.ObjectNo.{ObjectNo}
use Rattle.cx_names.specs.declared.ThreadNo.{ThreadNo}
use Rattle.cx_names.specs.declared.Reply.{Reply}
use Rattle.cx_names.specs.declared.Reply.TheVariants as replies
use Rattle.cx_machine.specs.declared.kind.Entry.{Entry}
use Rattle.cx_machine.specs.declared.kind.Look.{Look}
use Rattle.cx_machine.specs.declared.kind.Op.{Op}
use Rattle.cx_machine.specs.declared.kind.Op.TheVariants as ops
use Rattle.cx_machine.specs.Machine.{State, Mutex, Shared, Semaphore, Latch, Barrier, Once, Condition, Stop, Future, step, shows}
use Rattle.cx_machine.specs.Now.{reply_now, first_registered}
use Rattle.cx_scene.specs.Scene.{Scene}
use Rattle.cx_items.specs.declared.item.Control.{Control}
use Rattle.cx_items.specs.declared.item.Control.TheVariants as controls
use Rattle.cx_items.specs.declared.item.Item.{Item}
use Rattle.cx_items.specs.declared.item.Item.TheVariants as items
use Rattle.cx_items.specs.declared.form.Wanted.{Wanted}
use Rattle.cx_items.specs.declared.form.Form.{Form}
use Rattle.cx_items.specs.declared.form.Form.TheVariants.{Change, Look as ALook, Begin, Does, Says}
use Rattle.cx_items.specs.Form.{is_registered_on}
use Rattle.cx_replay.specs.declared.knowing.Known.{Known}
use Rattle.cx_replay.specs.declared.knowing.Known.TheVariants.{Nothing, While, Awaits, Acquires, Over}
use Rattle.cx_replay.specs.declared.runner.RunnerNow.{RunnerNow}
use Rattle.cx_replay.specs.Schedule.{Thing, Runner, World, Made, thing_at, changed_to, made_change, seen_as, made_look, reply_of, given_reply, change_by, look_by, replied_change, replied_look, made_begin, can_do, made, or_made, first_made, forms_at, after_made, beginner, begun_at, with_beginner, stepped_to, after_step, stepped, step_of}
use Rattle.cx_replay.specs.declared.objects.ObjectNow.{ObjectNow}
use Rattle.cx_replay.specs.Views.{thing_of, runner_of, world_of, forms_there, Steps}
use Rattle.cx_replay.proofs.Trying.{something_there}
use Rattle.cx_replay.proofs.Advancing.{at_number, at_or, length-runners, stands}
use Rattle.cx_replay.specs.Knowing.{is_on, acquire, is_free, Holds, IsKnown, Knows, Notes, Noted}
use Rattle.cx_replay.proofs.Enabling.{is_some_map, when_some, stepped_some}
use Rattle.cx_replay.proofs.Kept.{slice_get-set_same, slice_get-set_other, Moves, changed, looked, controlled, replied, first_made_moves}
use Rattle.cx_replay.proofs.Followed.{apart}

-- ---- an item can be made by its object alone

change_some : (w v : World) (o : ObjectNo) (e : Entry) (x : Option Thing) → is_some (made_change w o e x) ≡ is_some (made_change v o e x)
change_some w v o e None = refl
change_some w v o e (Some x) = sym (is_some_map (changed_to w o e x) (step x.state e)) ∙ is_some_map (changed_to v o e x) (step x.state e)

look_some : (w v : World) (o : ObjectNo) (l : Look) (x : Option Thing) → is_some (made_look w o l x) ≡ is_some (made_look v o l x)
look_some w v o l None = refl
look_some w v o l (Some x) = sym (when_some (shows x.state l) (seen_as w o l x)) ∙ when_some (shows x.state l) (seen_as v o l x)

module _ (s : Scene) (w v : World) (t : ℕ) (o : ObjectNo) (same : thing_at w o ≡ thing_at v o) where
  same_change : (e : Entry) → is_some (made_change w o e (thing_at w o)) ≡ is_some (made_change v o e (thing_at v o))
  same_change e = change_some w v o e (thing_at w o) ∙ ap (λ x. is_some (made_change v o e x)) same

  same_look : (l : Look) → is_some (made_look w o l (thing_at w o)) ≡ is_some (made_look v o l (thing_at v o))
  same_look l = look_some w v o l (thing_at w o) ∙ ap (λ x. is_some (made_look v o l x)) same

  same_reply : (op : Op) (a b : ℤ) (wanted : Wanted) → reply_of w t o op a b wanted ≡ reply_of v t o op a b wanted
  same_reply op a b wanted = ap (λ x. given_reply wanted (unwrap_or (option_map (λ (y : Thing). reply_now y.state t op a b) x) replies.Ok)) same

  replied_changes : (op : Op) (a b : ℤ) (r : Option Reply) → is_some (replied_change w t o op a b r) ≡ is_some (replied_change v t o op a b r)
  replied_changes op a b None = refl
  replied_changes op a b (Some r) = same_change (change_by t op a b r)

  replied_looks : (op : Op) (a b : ℤ) (r : Option Reply) → is_some (replied_look w t o op a b r) ≡ is_some (replied_look v t o op a b r)
  replied_looks op a b None = refl
  replied_looks op a b (Some r) = same_look (look_by t op a b r)

  begins : (id : Option ℕ) → is_some (made_begin s w t o id) ≡ is_some (made_begin s v t o id)
  begins None = refl
  begins (Some id) = go (is_registered_on s o (pos id))
    where
      go : (b : Bool) → is_some (if b then made_change w o (change_by t ops.Begin (pos id) (pos 0) replies.Ok) (thing_at w o) else None) ≡ is_some (if b then made_change v o (change_by t ops.Begin (pos id) (pos 0) replies.Ok) (thing_at v o) else None)
      go true = same_change (change_by t ops.Begin (pos id) (pos 0) replies.Ok)
      go false = refl

same_at : (w v : World) (o p : ObjectNo) → (p.0 == o.0) ≡ true → thing_at w o ≡ thing_at v o → thing_at w p ≡ thing_at v p
same_at w v o p h same = subst (λ n. slice_get w.things n ≡ slice_get v.things n) (sym (eqb-true p.0 o.0 h)) same

made_on : (s : Scene) (w v : World) (t : ℕ) (o : ObjectNo) (f : Form) → is_on o f ≡ true → thing_at w o ≡ thing_at v o → is_some (made s w t f) ≡ is_some (made s v t f)
made_on s w v t o (Change p op a b wanted) h same =
    let here = same_at w v o p h same in
    ap (λ r. is_some (replied_change w t p op a b r)) (same_reply s w v t p here op a b wanted) ∙ replied_changes s w v t p here op a b (reply_of v t p op a b wanted)
made_on s w v t o (ALook p op a b wanted) h same =
    let here = same_at w v o p h same in
    ap (λ r. is_some (replied_look w t p op a b r)) (same_reply s w v t p here op a b wanted) ∙ replied_looks s w v t p here op a b (reply_of v t p op a b wanted)
made_on s w v t o (Begin p) h same =
    let here = same_at w v o p h same in
    ap (λ (x : Option Thing). is_some (made_begin s w t p (first_registered (option_map (λ (y : Thing). y.state) x)))) here ∙ begins s w v t p here (first_registered (option_map (λ (y : Thing). y.state) (thing_at v p)))
made_on s w v t o (Does c) h same = cc
made_on s w v t o (Says r) h same = cc

or_some : (a b m n : Option Made) → is_some a ≡ is_some b → is_some m ≡ is_some n → is_some (or_made a m) ≡ is_some (or_made b n)
or_some None None m n h k = k
or_some (Some x) (Some y) m n h k = refl
or_some None (Some y) m n h k = cc
or_some (Some x) None m n h k = cc

both : (a b : Bool) → (a && b) ≡ true → (a ≡ true) × (b ≡ true)
both true b h = (refl, h)
both false b h = cc

first_on : (s : Scene) (w v : World) (t : ℕ) (o : ObjectNo) (fs : List Form) → list_all (is_on o) fs ≡ true → thing_at w o ≡ thing_at v o → is_some (first_made s w t fs) ≡ is_some (first_made s v t fs)
first_on s w v t o [] h same = refl
first_on s w v t o (f ∷ fs) h same =
    let p = both (is_on o f) (list_all (is_on o) fs) h in
    or_some (made s w t f) (made s v t f) (first_made s w t fs) (first_made s v t fs) (made_on s w v t o f p.0 same) (first_on s w v t o fs p.1 same)

-- ---- what an item leaves of an object

data Left (things things' : List Thing) (o : ℕ) (y : Thing) : Type 0 where
  untouched : slice_get things' o ≡ slice_get things o → Left things things' o y
  counted : (x : Thing) → slice_get things o ≡ Some x → y.changes ≡ x.changes + 1 → Left things things' o y

left_by : (things things' : List Thing) (x : Item) (o : ℕ) (y : Thing) → Moves things x things' → slice_get things' o ≡ Some y → Left things things' o y
left_by things things' x o y (looked q l th at_ shown) e = untouched refl
left_by things things' x o y (controlled c) e = untouched refl
left_by things things' x o y (replied r) e = untouched refl
left_by things things' x o y (changed q en th next at_ enabled) e = go (q.0 == o) refl
  where
    new : Thing
    new = record { state = next; changes = th.changes + 1 }

    one_there : {z : Option Thing} {a b : Thing} → z ≡ Some a → z ≡ Some b → b.changes ≡ a.changes
    one_there p r = cc

    go : (b : Bool) → (q.0 == o) ≡ b → Left things (slice_set things q.0 (record { state = next; changes = th.changes + 1 })) o y
    go false no_ = untouched (slice_get-set_other things q.0 o new (λ same. apart (q.0 == o) (eq-eqb q.0 o same) no_))
    go true yes_ =
        let is : q.0 ≡ o = eqb-true q.0 o yes_ in
        let put : slice_get (slice_set things q.0 new) q.0 ≡ Some new = slice_get-set_same things q.0 th new at_ in
        let there : slice_get (slice_set things q.0 new) q.0 ≡ Some y = subst (λ n. slice_get (slice_set things q.0 new) n ≡ Some y) (sym is) e in
        counted th (subst (λ n. slice_get things n ≡ Some th) is at_) (one_there put there)

-- what is known of a thread that stands where it stood
holds_on : (s : Scene) (w v : World) (x : Item) (t : ℕ) (fs : List Form) (k : Known) → Moves w.things x v.things → Holds s w t fs k → Holds s v t fs k
holds_on s w v x t fs Nothing moves h = h
holds_on s w v x t fs (Awaits u) moves h = h
holds_on s w v x t fs (Acquires o) moves h = h
holds_on s w v x t fs Over moves h = h
holds_on s w v x t fs (While o n can) moves h = (h.0, λ y e. go y e (left_by w.things v.things x o.0 y moves e))
  where
    go : (y : Thing) → thing_at v o ≡ Some y → Left w.things v.things o.0 y → (n ≤ y.changes) × (y.changes ≡ n → is_some (first_made s v t fs) ≡ can)
    go y e (untouched same) =
        let old = h.1 y (sym same ∙ e) in
        (old.0, λ now. first_on s v w t o fs h.0 same ∙ old.1 now)
    go y e (counted z at_ more) =
        let old = h.1 z at_ in
        let low = old.0 in
        (omega (arith, low, more), λ now. absurd (omega (arith, low, more, now)))

-- ---- where the other threads stand after a step

data Stood (rs rs' : List (Option Runner)) (u : ℕ) : Type 0 where
  stayed : slice_get rs' u ≡ slice_get rs u → Stood rs rs' u
  begins_now : slice_get rs u ≡ Some None → Stood rs rs' u

set_nowhere : {X : Type 0} (xs : List X) (i : ℕ) (v : X) → slice_get xs i ≡ None → slice_get (slice_set xs i v) i ≡ slice_get xs i
set_nowhere [] i v h = refl
set_nowhere (x ∷ xs) zero v h = cc
set_nowhere (x ∷ xs) (suc i) v h = set_nowhere xs i v h

stands_after_begin : (s : Scene) (n u : ℕ) (rs : List (Option Runner)) → Stood rs (begun_at s n rs) u
stands_after_begin s n u rs = go (slice_get rs n) refl
  where
    here : (b : Bool) → (n == u) ≡ b → (slice_get rs n ≡ None → Stood rs (slice_set rs n (beginner s n)) u)
    here true yes_ none =
        let is : n ≡ u = eqb-true n u yes_ in
        stayed (subst (λ i. slice_get (slice_set rs n (beginner s n)) i ≡ slice_get rs i) is (set_nowhere rs n (beginner s n) none))
    here false no_ none = stayed (slice_get-set_other rs n u (beginner s n) (λ same. apart (n == u) (eq-eqb n u same) no_))

    there : (b : Bool) → (n == u) ≡ b → (slice_get rs n ≡ Some None → Stood rs (slice_set rs n (beginner s n)) u)
    there true yes_ idle = begins_now (subst (λ i. slice_get rs i ≡ Some None) (eqb-true n u yes_) idle)
    there false no_ idle = stayed (slice_get-set_other rs n u (beginner s n) (λ same. apart (n == u) (eq-eqb n u same) no_))

    go : (o : Option (Option Runner)) → slice_get rs n ≡ o → Stood rs (if is_none (option_and_then (λ r. r) o) then slice_set rs n (beginner s n) else rs) u
    go None e = here (n == u) refl e
    go (Some None) e = there (n == u) refl e
    go (Some (Some r)) e = stayed refl

stands_with : (s : Scene) (x : Item) (rs : List (Option Runner)) (u : ℕ) → Stood rs (with_beginner s x rs) u
stands_with s (items.Control (controls.Start n true)) rs u = stands_after_begin s n.0 u rs
stands_with s (items.Control (controls.Launch n true)) rs u = stands_after_begin s n.0 u rs
stands_with s (items.Control (controls.Start n false)) rs u = stayed refl
stands_with s (items.Control (controls.Launch n false)) rs u = stayed refl
stands_with s (items.Control (controls.Join n)) rs u = stayed refl
stands_with s (items.Change o n e) rs u = stayed refl
stands_with s (items.Look o l) rs u = stayed refl
stands_with s (items.Said r) rs u = stayed refl

stands_aside : (s : Scene) (x : Item) (rs : List (Option Runner)) (t u : ℕ) (r : Option Runner) → (t ≡ u → ⊥) → Stood rs (with_beginner s x (slice_set rs t r)) u
stands_aside s x rs t u r ne = go (stands_with s x (slice_set rs t r) u)
  where
    other : slice_get (slice_set rs t r) u ≡ slice_get rs u
    other = slice_get-set_other rs t u r ne

    go : Stood (slice_set rs t r) (with_beginner s x (slice_set rs t r)) u → Stood rs (with_beginner s x (slice_set rs t r)) u
    go (stayed e) = stayed (e ∙ other)
    go (begins_now e) = begins_now (sym other ∙ e)

-- ---- what is known of all threads

nothing_known : (s : Scene) (w : World) (t : ℕ) (r : Option Runner) → IsKnown s w t r Nothing
nothing_known s w t None = refl
nothing_known s w t (Some r) = tt

pub none_known : (s : Scene) (w : World) (n : ℕ) → n ≡ length w.runners → Knows s w (replicate n Nothing)
none_known s w n e = record { count = length-replicate n ∙ e; each = λ t r k at_ known. subst (λ (x : Known). IsKnown s w t r x) (all n t k known) (nothing_known s w t r) }
  where
    length-replicate : (n : ℕ) → length (replicate n Nothing) ≡ n
    length-replicate zero = refl
    length-replicate (suc n) = ap suc (length-replicate n)

    all : (n t : ℕ) (k : Known) → slice_get (replicate n Nothing) t ≡ Some k → Nothing ≡ k
    all zero t k h = cc
    all (suc n) zero k h = cc
    all (suc n) (suc t) k h = all n t k h

length-set : {X : Type 0} (xs : List X) (i : ℕ) (v : X) → length (slice_set xs i v) ≡ length xs
length-set [] i v = refl
length-set (x ∷ xs) zero v = refl
length-set (x ∷ xs) (suc i) v = ap suc (length-set xs i v)

-- what is known anew of one thread
pub known_anew : (s : Scene) (w : World) (t : ℕ) (ks : List Known) (k : Known) → Knows s w ks → ((r : Option Runner) → slice_get w.runners t ≡ Some r → IsKnown s w t r k) → Knows s w (slice_set ks t k)
known_anew s w t ks k knows new = record { count = length-set ks t k ∙ knows.count; each = λ u r j at_ known. go u r j at_ known (t == u) refl }
  where
    put : (xs : List Known) (i : ℕ) (j : Known) → slice_get (slice_set xs i k) i ≡ Some j → k ≡ j
    put [] i j h = cc
    put (x ∷ xs) zero j h = cc
    put (x ∷ xs) (suc i) j h = put xs i j h

    go : (u : ℕ) (r : Option Runner) (j : Known) → slice_get w.runners u ≡ Some r → slice_get (slice_set ks t k) u ≡ Some j → (b : Bool) → (t == u) ≡ b → IsKnown s w u r j
    go u r j at_ known true yes_ =
        let is : t ≡ u = eqb-true t u yes_ in
        let same : k ≡ j = put ks t j (subst (λ i. slice_get (slice_set ks t k) i ≡ Some j) (sym is) known) in
        subst (λ (x : Known). IsKnown s w u r x) same (subst (λ i. IsKnown s w i r k) is (new r (subst (λ i. slice_get w.runners i ≡ Some r) (sym is) at_)))
    go u r j at_ known false no_ = knows.each u r j at_ (sym (slice_get-set_other ks t u k (λ same. apart (t == u) (eq-eqb t u same) no_)) ∙ known)

-- after a step of thread t nothing is known of it, and of the others what was known
pub known_after : (s : Scene) (w v : World) (t : ℕ) (ks : List Known) → step_of s w t ≡ Some v → length v.runners ≡ length w.runners → Knows s w ks → Knows s v (slice_set ks t Nothing)
known_after s w v t ks made_ many knows = from (slice_get w.runners t) refl made_
  where
    others : (m : Made) (r : Runner) → Moves w.things m.item m.things → stepped_to s w t m r ≡ v → (u : ℕ) (q : Option Runner) (k : Known) → slice_get v.runners u ≡ Some q → slice_get ks u ≡ Some k → (t ≡ u → ⊥) → IsKnown s v u q k
    others m r moves is u q k at_ known ne = stand (subst (λ (x : World). Stood w.runners x.runners u) is (stands_aside s m.item w.runners t u (Some r) ne)) q at_
      where
        moved_ : Moves w.things m.item v.things
        moved_ = subst (λ (x : World). Moves w.things m.item x.things) is moves

        idle : (q : Option Runner) → IsKnown s w u None k → IsKnown s v u q k
        idle q none = subst (λ (x : Known). IsKnown s v u q x) (sym none) (nothing_known s v u q)

        stand : Stood w.runners v.runners u → (q : Option Runner) → slice_get v.runners u ≡ Some q → IsKnown s v u q k
        stand (begins_now e) q h = idle q (knows.each u None k e known)
        stand (stayed e) None h = idle None (knows.each u None k (sym e ∙ h) known)
        stand (stayed e) (Some p) h = holds_on s w v m.item u (forms_at s u p.local) k moved_ (knows.each u (Some p) k (sym e ∙ h) known)

    all : (m : Made) (r : Runner) → Moves w.things m.item m.things → stepped_to s w t m r ≡ v → Knows s v (slice_set ks t Nothing)
    all m r moves is = record { count = length-set ks t Nothing ∙ (knows.count ∙ sym many); each = λ u q k at_ known. go u q k at_ known (t == u) refl }
      where
        put : (xs : List Known) (i : ℕ) (j : Known) → slice_get (slice_set xs i Nothing) i ≡ Some j → Nothing ≡ j
        put [] i j h = cc
        put (x ∷ xs) zero j h = cc
        put (x ∷ xs) (suc i) j h = put xs i j h

        go : (u : ℕ) (q : Option Runner) (k : Known) → slice_get v.runners u ≡ Some q → slice_get (slice_set ks t Nothing) u ≡ Some k → (b : Bool) → (t == u) ≡ b → IsKnown s v u q k
        go u q k at_ known true yes_ =
            let same : Nothing ≡ k = put ks t k (subst (λ i. slice_get (slice_set ks t Nothing) i ≡ Some k) (sym (eqb-true t u yes_)) known) in
            subst (λ (x : Known). IsKnown s v u q x) same (nothing_known s v u q)
        go u q k at_ known false no_ =
            let ne : t ≡ u → ⊥ = λ same. apart (t == u) (eq-eqb t u same) no_ in
            others m r moves is u q k at_ (sym (slice_get-set_other ks t u Nothing ne) ∙ known) ne

    to_world : (r : Runner) (m : Made) → first_made s w t (forms_at s t r.local) ≡ Some m → (o : Option Runner) → option_map (stepped_to s w t m) o ≡ Some v → Knows s v (slice_set ks t Nothing)
    to_world r m first None h = cc
    to_world r m first (Some q) h =
        let is : stepped_to s w t m q ≡ v = cc in
        all m q (first_made_moves s w t (forms_at s t r.local) m first) is

    by_form : (r : Runner) (o : Option Made) → first_made s w t (forms_at s t r.local) ≡ o → option_and_then (after_step s w t r) o ≡ Some v → Knows s v (slice_set ks t Nothing)
    by_form r None e h = cc
    by_form r (Some m) e h = to_world r m e (after_made s m.things t r m.item) h

    from : (o : Option (Option Runner)) → slice_get w.runners t ≡ o → stepped s w t (option_and_then (λ r. r) o) ≡ Some v → Knows s v (slice_set ks t Nothing)
    from None e h = cc
    from (Some None) e h = cc
    from (Some (Some r)) e h = by_form r (first_made s w t (forms_at s t r.local)) refl h

-- ---- what is answered from it

pub answers_while : (s : Scene) (w : World) (t : ℕ) (o : ObjectNo) (n : ℕ) (can : Bool) (x : Thing) → thing_at w o ≡ Some x → x.changes ≡ n → (fs : List Form) → Holds s w t fs (While o n can) → can ≡ is_some (first_made s w t fs)
answers_while s w t o n can x at_ now fs h = sym ((h.1 x at_).1 now)

or_none : (m : Option Made) → is_some m ≡ is_some (or_made m None)
or_none None = refl
or_none (Some m) = refl

pub answers_awaits : (s : Scene) (w : World) (t : ℕ) (u : ThreadNo) (can : Bool) → can ≡ can_do w (controls.Join u) → (fs : List Form) → Holds s w t fs (Awaits u) → can ≡ is_some (first_made s w t fs)
answers_awaits s w t u can e fs h =
    e ∙ (when_some (can_do w (controls.Join u)) (record { item = items.Control (controls.Join u); things = w.things }) ∙ (or_none (made s w t (Does (controls.Join u))) ∙ ap (λ gs. is_some (first_made s w t gs)) (sym h)))

abbrev acquired_by : ℕ → Entry
acquired_by t = change_by t ops.Acquire (pos 0) (pos 0) replies.Ok

-- a semaphore can be acquired by each thread or by none, and nothing else can be
acquires_alike : (x : State) (t u : ℕ) → is_some (step x (acquired_by t)) ≡ is_some (step x (acquired_by u))
acquires_alike (Semaphore s) t u = refl
acquires_alike (Mutex m) t u = refl
acquires_alike (Shared m) t u = refl
acquires_alike (Latch l) t u = refl
acquires_alike (Barrier b) t u = refl
acquires_alike (Once o) t u = refl
acquires_alike (Condition c) t u = refl
acquires_alike (Stop s) t u = refl
acquires_alike (Future f) t u = refl

pub free_is : (w : World) (o : ObjectNo) (t : ℕ) (x : Option Thing) → is_some (made_change w o (acquired_by t) x) ≡ is_free x
free_is w o t None = refl
free_is w o t (Some x) = sym (is_some_map (changed_to w o (acquired_by t) x) (step x.state (acquired_by t))) ∙ acquires_alike x.state t 0

pub answers_acquires : (s : Scene) (w : World) (t : ℕ) (o : ObjectNo) (can : Bool) → can ≡ is_free (slice_get w.things o.0) → (fs : List Form) → Holds s w t fs (Acquires o) → can ≡ is_some (first_made s w t fs)
answers_acquires s w t o can e fs h =
    e ∙ (sym (free_is w o t (thing_at w o)) ∙ (or_none (made s w t (acquire o)) ∙ ap (λ gs. is_some (first_made s w t gs)) (sym h)))

pub answers_over : (s : Scene) (w : World) (t : ℕ) (fs : List Form) → Holds s w t fs Over → false ≡ is_some (first_made s w t fs)
answers_over s w t fs h = ap (λ gs. is_some (first_made s w t gs)) (sym h)

-- where nothing is known there is no answer
no_answer : (s : Scene) (w : World) (t : ℕ) (can : Bool) → ((fs : List Form) → Holds s w t fs Nothing → can ≡ is_some (first_made s w t fs)) → ⊥
no_answer s w t true says = let none : true ≡ false = says [] tt in cc
no_answer s w t false says = let some : false ≡ true = says (Says replies.Ok ∷ []) tt in cc

-- a thread of which an answer is known is enabled or not by it
pub enabled_by : (s : Scene) (w : World) (t : ℕ) (k : Known) (can : Bool) → t < length w.runners → ((n : ℕ) (fs : List Form) → Holds s w n fs k → can ≡ is_some (first_made s w n fs)) → ((r : Option Runner) → slice_get w.runners t ≡ Some r → IsKnown s w t r k) → can ≡ is_some (step_of s w t)
enabled_by s w t k can lt says known = go (get_or w.runners t None) (at_or w.runners t None lt)
  where
    go : (r : Option Runner) → slice_get w.runners t ≡ Some r → can ≡ is_some (step_of s w t)
    go None e = absurd (no_answer s w t can (subst (λ (j : Known). (fs : List Form) → Holds s w t fs j → can ≡ is_some (first_made s w t fs)) (known None e) (says t)))
    go (Some r) e =
        says t (forms_at s t r.local) (known (Some r) e) ∙ (stepped_some s w t r ∙ ap (λ o. is_some (stepped s w t (option_and_then (λ q. q) o))) (sym e))

is_none_by : {X : Type 0} (o : Option X) → false ≡ is_some o → o ≡ None
is_none_by None e = refl
is_none_by (Some x) e = cc

-- a thread that is known not to be enabled makes no step
pub makes_none : (s : Scene) (w : World) (t : ℕ) (k : Known) → t < length w.runners → ((n : ℕ) (fs : List Form) → Holds s w n fs k → false ≡ is_some (first_made s w n fs)) → ((r : Option Runner) → slice_get w.runners t ≡ Some r → IsKnown s w t r k) → Steps false (step_of s w t) w w
makes_none s w t k lt says known = (is_none_by (step_of s w t) (enabled_by s w t k false lt says known), refl)

-- ---- what is noted

one_there : {X : Type 0} {z : Option X} {a b : X} → z ≡ Some a → z ≡ Some b → a ≡ b
one_there p q = cc

noted_holds : (s : Scene) (w : World) (t : ℕ) (fs : List Form) (can : Bool) (k : Known) → Notes w.things fs can k → can ≡ is_some (first_made s w t fs) → Holds s w t fs k
noted_holds s w t fs can Nothing n h = tt
noted_holds s w t fs can (Awaits u) n h = n
noted_holds s w t fs can (Acquires o) n h = n
noted_holds s w t fs can Over n h = n
noted_holds s w t fs can (While o c is) n h = (n.0, λ x at_. (let same = n.1.1 x at_ in omega (arith, same), λ now. sym h ∙ sym n.1.0))

pub noted_known : (s : Scene) (w : World) (t : ℕ) (old : Option RunnerNow) (fs : List Form) (can : Bool) (k : Known) → slice_get w.runners t ≡ Some (option_map (runner_of s t) old) → fs ≡ forms_there s t (option_map (runner_of s t) old) → can ≡ is_some (step_of s w t) → Noted w.things old fs can k → (r : Option Runner) → slice_get w.runners t ≡ Some r → IsKnown s w t r k
noted_known s w t None fs can k at_ e is noted r h =
    subst (λ (x : Option Runner). IsKnown s w t x k) (one_there at_ h) noted
noted_known s w t (Some q) fs can k at_ e is noted r h =
    let forms = forms_at s t (runner_of s t q).local in
    let n : Notes w.things forms can k = subst (λ gs. Notes w.things gs can k) e noted in
    let now : can ≡ is_some (first_made s w t forms) = is ∙ (ap (λ o. is_some (stepped s w t (option_and_then (λ r. r) o))) at_ ∙ sym (stepped_some s w t (runner_of s t q))) in
    subst (λ (x : Option Runner). IsKnown s w t x k) (one_there at_ h) (noted_holds s w t forms can k n now)

-- how many changes an object had
pub changes_at : (xs : List ObjectNow) (o : ObjectNo) (x : ObjectNow) (y : Thing) → slice_get xs o.0 ≡ Some x → slice_get (map thing_of xs) o.0 ≡ Some y → y.changes ≡ x.changes
changes_at xs o x y at_ h = so_many (something_there xs o.0 x at_) h
  where
    so_many : {z : Option Thing} {a b : Thing} → z ≡ Some a → z ≡ Some b → b.changes ≡ a.changes
    so_many p q = cc

-- ---- a thread that was tried

-- what is noted of a thread with these forms, found enabled or not
pub found_known : (s : Scene) (xs : List ObjectNow) (rs : List (Option RunnerNow)) (t : ℕ) (q : Option RunnerNow) (fs : List Form) (can : Bool) (k : Known) → slice_get rs t ≡ Some q → ((r : Option RunnerNow) → slice_get rs t ≡ Some r → fs ≡ forms_there s t (option_map (runner_of s t) r)) → can ≡ is_some (step_of s (world_of s xs rs) t) → Noted (map thing_of xs) q fs can k → (r : Option Runner) → slice_get (world_of s xs rs).runners t ≡ Some r → IsKnown s (world_of s xs rs) t r k
found_known s xs rs t q fs can k at_ forms is noted = noted_known s (world_of s xs rs) t q fs can k (at_number s rs t q at_) (forms q at_) is noted

-- what is noted of a thread whose step wasn't made
pub tried_known : (s : Scene) (xs ys : List ObjectNow) (rs qs : List (Option RunnerNow)) (t : ℕ) (q : Option RunnerNow) (fs : List Form) (made_ : Bool) (k : Known) → t < length rs → slice_get qs t ≡ Some q → Steps made_ (step_of s (world_of s xs rs) t) (world_of s xs rs) (world_of s ys qs) → (made_ ≡ false → (r : Option RunnerNow) → slice_get rs t ≡ Some r → (slice_get qs t ≡ Some r) × (fs ≡ forms_there s t (option_map (runner_of s t) r))) → (made_ ≡ false → Noted (map thing_of ys) q fs false k) → made_ ≡ false → (r : Option Runner) → slice_get (world_of s xs rs).runners t ≡ Some r → IsKnown s (world_of s xs rs) t r k
tried_known s xs ys rs qs t q fs made_ k lt at_ moved tried noted refused =
    let old = get_or rs t None in
    let there : slice_get rs t ≡ Some old = at_or rs t None lt in
    let same = tried refused old there in
    let m : Steps false (step_of s (world_of s xs rs) t) (world_of s xs rs) (world_of s ys qs) = subst (λ (b : Bool). Steps b (step_of s (world_of s xs rs) t) (world_of s xs rs) (world_of s ys qs)) refused moved in
    let things : map thing_of ys ≡ map thing_of xs = ap (λ (w : World). w.things) m.1 in
    let n : Noted (map thing_of xs) q fs false k = subst (λ ts. Noted ts q fs false k) things (noted refused) in
    let is : q ≡ old = one_there at_ same.0 in
    noted_known s (world_of s xs rs) t old fs false k (at_number s rs t old there) same.1 (sym (ap is_some m.0)) (subst (λ r. Noted (map thing_of xs) r fs false k) is n)

-- ---- what is known of all threads

pub knows_all : (s : Scene) (xs : List ObjectNow) (rs : List (Option RunnerNow)) (n : ℕ) (ks : List Known) → n ≡ length rs → ks ≡ replicate n Nothing → Knows s (world_of s xs rs) ks
knows_all s xs rs n ks many e = subst (λ all. Knows s (world_of s xs rs) all) (sym e) (none_known s (world_of s xs rs) n (many ∙ sym (length-runners s 0 rs)))

pub known_length : (s : Scene) (xs : List ObjectNow) (rs : List (Option RunnerNow)) (ks : List Known) → Knows s (world_of s xs rs) ks → length ks ≡ length rs
known_length s xs rs ks knows = knows.count ∙ length-runners s 0 rs

-- of the thread at this place
pub known_here : (s : Scene) (w : World) (ks : List Known) (t : ℕ) (k : Known) → Knows s w ks → t < length ks → k ≡ get_or ks t k → (r : Option Runner) → slice_get w.runners t ≡ Some r → IsKnown s w t r k
known_here s w ks t k knows lt at_ r h = knows.each t r k h (stands ks t k lt at_)

-- whether or not a step of thread t was made, with nothing known of it the rest is known
pub known_then : (s : Scene) (xs ys : List ObjectNow) (rs qs : List (Option RunnerNow)) (t : ℕ) (ks : List Known) (made_ : Bool) → Steps made_ (step_of s (world_of s xs rs) t) (world_of s xs rs) (world_of s ys qs) → length qs ≡ length rs → Knows s (world_of s xs rs) ks → Knows s (world_of s ys qs) (slice_set ks t Nothing)
known_then s xs ys rs qs t ks true moved many knows = known_after s (world_of s xs rs) (world_of s ys qs) t ks moved (length-runners s 0 qs ∙ (many ∙ sym (length-runners s 0 rs))) knows
known_then s xs ys rs qs t ks false moved many knows = known_anew s (world_of s ys qs) t ks Nothing (subst (λ w. Knows s w ks) (sym moved.1) knows) (λ r h. nothing_known s (world_of s ys qs) t r)

pub knows_kept : (s : Scene) (xs ys : List ObjectNow) (rs qs : List (Option RunnerNow)) (ks : List Known) → ys ≡ xs → qs ≡ rs → Knows s (world_of s xs rs) ks → Knows s (world_of s ys qs) ks
knows_kept s xs ys rs qs ks e f h = subst (λ v. Knows s (world_of s ys v) ks) (sym f) (subst (λ v. Knows s (world_of s v rs) ks) (sym e) h)

-- the step of thread t was tried, and this is known of it now
pub tried_all : (s : Scene) (xs ys : List ObjectNow) (rs qs : List (Option RunnerNow)) (t : ℕ) (ks : List Known) (made_ : Bool) (k : Known) → Steps made_ (step_of s (world_of s xs rs) t) (world_of s xs rs) (world_of s ys qs) → length qs ≡ length rs → Knows s (world_of s xs rs) ks → ((made_ ≡ true → k ≡ Nothing) × (made_ ≡ false → (r : Option Runner) → slice_get (world_of s xs rs).runners t ≡ Some r → IsKnown s (world_of s xs rs) t r k)) → Knows s (world_of s ys qs) (slice_set ks t k)
tried_all s xs ys rs qs t ks true k moved many knows new = subst (λ j. Knows s (world_of s ys qs) (slice_set ks t j)) (sym (new.0 refl)) (known_then s xs ys rs qs t ks true moved many knows)
tried_all s xs ys rs qs t ks false k moved many knows new = subst (λ w. Knows s w (slice_set ks t k)) (sym moved.1) (known_anew s (world_of s xs rs) t ks k knows (new.1 refl))
