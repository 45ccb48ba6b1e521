-- What a step of a thread promises of its accesses.
use Rattle.std.proofs.Common.{◌≡◌, ℕ, zero, suc, ◌<◌, ◌==◌, Bool, true, false, List, [], ◌∷◌, length, Option, Some, None, slice_get, slice_set, if◌then◌else◌, refl, sym, ap, ◌∙◌, subst, arith, eqb-true}
use Rattle.std.proofs.lemmas.Bool.{eqb-false}
use Rattle.cx_names.specs.declared.ObjectNo.{ObjectNo}
use Rattle.cx_names.specs.declared.Reply.{Reply}
use Rattle.cx_machine.specs.declared.kind.Entry.{Entry}
use Rattle.cx_machine.specs.Machine.{State}
use Rattle.cx_turn.specs.declared.view.View.{View}
use Rattle.cx_scene.specs.declared.declared.Object.{Object}
use Rattle.cx_scene.specs.Scene.{Scene}
use Rattle.cx_items.specs.declared.item.Item.{Item}
use Rattle.cx_items.specs.declared.item.Item.TheVariants as items
use Rattle.cx_fronts.specs.Paths.{Fronts, nothing, put}
use Rattle.cx_fronts.specs.Promises.{PromisesOne}
use Rattle.cx_fronts.proofs.Grown.{reply_goes}
use Rattle.cx_kinds.specs.declared.access.Access.{Access}
use Rattle.cx_kinds.specs.Accesses.{RunObject, object_of, Knows}
use Rattle.cx_work.specs.Accesses.{AreMadeAs, IsAccess, AreAccesses, Shows, AreShown, Made, objects_of}
use Rattle.cx_work.specs.Steps.{ActsOn}
use Rattle.cx_work.proofs.Going.{IsOn, same_view, remains, item_path}

-- ---- lists

pub at_index : {A : Type 0} (xs : List A) (k : ℕ) → k < length xs → (x : A) × (slice_get xs k ≡ Some x)
at_index [] k h = absurd (omega (arith, h))
at_index (x ∷ xs) zero h = (x, refl)
at_index (x ∷ xs) (suc k) h = at_index xs k (omega (arith, h))

pub is_within : {A : Type 0} (xs : List A) (k : ℕ) (x : A) → slice_get xs k ≡ Some x → k < length xs
is_within [] k x h = cc
is_within (y ∷ ys) zero x h = omega arith
is_within (y ∷ ys) (suc k) x h = let rest = is_within ys k x h in omega (arith, rest)

pub set_same : {A : Type 0} (xs : List A) (i : ℕ) (x v : A) → slice_get xs i ≡ Some x → slice_get (slice_set xs i v) i ≡ Some v
set_same [] i x v e = cc
set_same (y ∷ ys) zero x v e = refl
set_same (y ∷ ys) (suc i) x v e = set_same ys i x v e

pub set_other : {A : Type 0} (xs : List A) (i j : ℕ) (v : A) → (i ≡ j → ⊥) → slice_get (slice_set xs i v) j ≡ slice_get xs j
set_other [] i j v ne = refl
set_other (y ∷ ys) zero zero v ne = absurd (ne refl)
set_other (y ∷ ys) zero (suc j) v ne = refl
set_other (y ∷ ys) (suc i) zero v ne = refl
set_other (y ∷ ys) (suc i) (suc j) v ne = set_other ys i j v (λ e. ne (ap suc e))

pub set_length : {A : Type 0} (xs : List A) (i : ℕ) (v : A) → length (slice_set xs i v) ≡ length xs
set_length [] i v = refl
set_length (x ∷ xs) zero v = refl
set_length (x ∷ xs) (suc i) v = ap suc (set_length xs i v)

pub same_some : {A : Type 0} (x y : A) (o : Option A) → o ≡ Some x → o ≡ Some y → x ≡ y
same_some x y o a b = cc

-- ---- objects

-- the object of an access stands at its place
pub object_there : (ks : List Access) (o : ℕ) (k : Access) → slice_get ks o ≡ Some k → slice_get (objects_of ks) o ≡ Some (object_of k)
object_there [] o k h = cc h
object_there (j ∷ ks) zero k h = let same : j ≡ k = cc in ap (λ v. Some (object_of v)) same
object_there (j ∷ ks) (suc o) k h = object_there ks o k h

pub objects_length : (ks : List Access) → length (objects_of ks) ≡ length ks
objects_length [] = refl
objects_length (k ∷ ks) = ap suc (objects_length ks)

-- accesses to these objects have these objects
pub objects_are : (xs : List RunObject) (t : ℕ) (ks : List Access) → AreAccesses xs t ks → objects_of ks ≡ xs
objects_are xs t ks are = go xs ks are.count (λ o x k at_x at_k. (are.each o x k at_x at_k).object)
  where
    go : (ys : List RunObject) (js : List Access) → length js ≡ length ys → ((o : ℕ) (x : RunObject) (k : Access) → slice_get ys o ≡ Some x → slice_get js o ≡ Some k → object_of k ≡ x) → objects_of js ≡ ys
    go [] [] long each = refl
    go [] (j ∷ js) long each = absurd (omega (arith, long))
    go (y ∷ ys) [] long each = absurd (omega (arith, long))
    go (y ∷ ys) (j ∷ js) long each =
        let first = each 0 y j refl refl in
        let rest = go ys js (omega (arith, long)) (λ o. each (suc o)) in
        ap (λ v. v ∷ objects_of js) first ∙ ap (λ vs. y ∷ vs) rest

pub object_made : (s : Scene) (ks : List Access) (o : ℕ) (k : Access) → AreMadeAs s.objects (objects_of ks) → slice_get ks o ≡ Some k → (d : Object) × (slice_get s.objects o ≡ Some d)
object_made s ks o k made at_k =
    let low = is_within ks o k at_k in
    let long = objects_length ks in
    let count = made.count in
    at_index s.objects o (omega (arith, low, long, count))

-- ---- one access

-- the access at a place
pub access_at : (t : ℕ) (ks : List Access) (o : ℕ) (k : Access) → AreAccesses (objects_of ks) t ks → slice_get ks o ≡ Some k → IsAccess (object_of k) t k
access_at t ks o k are at_k = are.each o (object_of k) k (object_there ks o k at_k) at_k

-- each view of it is of thread t
pub number_of : (x : RunObject) (t : ℕ) (k : Access) (v : View State) → IsAccess x t k → Knows k v → v.number ≡ t
number_of x t k v is a = ap (λ (u : View State). u.number) (same_view k v is.view a is.seen) ∙ is.thread

pub made_access : (x : RunObject) (t : ℕ) (k k' : Access) (item : Item) → IsAccess x t k → Made k k' item → IsAccess x t k'
made_access x t k k' item is made =
    let r = made.goes is.view is.seen in
    record { object = made.object ∙ is.object; view = r.0; seen = r.1; thread = (remains item is.view r.0 r.2).number ∙ is.thread }

-- ---- all accesses

-- accesses of which one is another one to its object
pub set_access : (xs : List RunObject) (t : ℕ) (ks : List Access) (i : ℕ) (x : RunObject) (k : Access) → AreAccesses xs t ks → slice_get xs i ≡ Some x → IsAccess x t k → AreAccesses xs t (slice_set ks i k)
set_access xs t ks i x k are at_x is = record { count = set_length ks i k ∙ are.count; each = λ o y v at_y at_v. go o y v at_y at_v (i == o) refl }
  where
    go : (o : ℕ) (y : RunObject) (v : Access) → slice_get xs o ≡ Some y → slice_get (slice_set ks i k) o ≡ Some v → (b : Bool) → (i == o) ≡ b → IsAccess y t v
    go o y v at_y at_v true e =
        let same : i ≡ o = eqb-true i o e in
        let object : x ≡ y = same_some x y (slice_get xs o) (subst (λ n. slice_get xs n ≡ Some x) same at_x) at_y in
        let low = is_within xs o y at_y in
        let count = are.count in
        let old = at_index ks i (omega (arith, low, count, same)) in
        let there : slice_get (slice_set ks i k) o ≡ Some k = subst (λ n. slice_get (slice_set ks i k) n ≡ Some k) same (set_same ks i old.0 k old.1) in
        let access : k ≡ v = same_some k v (slice_get (slice_set ks i k) o) there at_v in
        subst (λ (z : RunObject). IsAccess z t v) object (subst (λ (z : Access). IsAccess x t z) access is)
    go o y v at_y at_v false e = are.each o y v at_y (sym (set_other ks i o k (eqb-false i o e)) ∙ at_v)

-- accesses that made an item are still the thread's
pub acts_are : (t : ℕ) (ks ks' : List Access) (o : ℕ) (x : Item) → AreAccesses (objects_of ks) t ks → ActsOn ks ks' o x → AreAccesses (objects_of ks) t ks'
acts_are t ks ks' o x are a =
    let is = made_access (object_of a.old) t a.old a.new x (access_at t ks o a.old are a.was) a.made in
    subst (λ (vs : List Access). AreAccesses (objects_of ks) t vs) (sym a.is) (set_access (objects_of ks) t ks o (object_of a.old) a.new are (object_there ks o a.old a.was) is)

-- each access has seen something, so there are fronts that they show
more_shown : (j : Access) (ks : List Access) → (v : View State) × Knows j v → (f : Fronts) × AreShown ks f → (f : Fronts) × AreShown (j ∷ ks) f
more_shown j ks first rest = (front_of, record { each = each_; none = none_ })
  where
    front_of : Fronts
    front_of zero = first.0.front
    front_of (suc o) = rest.0 o

    each_ : (o : ℕ) (k : Access) → slice_get (j ∷ ks) o ≡ Some k → Shows k (front_of o)
    each_ zero k h = let same : j ≡ k = cc in subst (λ (z : Access). Shows z first.0.front) same (first.0, first.1, refl)
    each_ (suc o) k h = rest.1.each o k h

    none_ : (o : ℕ) → slice_get (j ∷ ks) o ≡ None → front_of o ≡ []
    none_ zero h = cc h
    none_ (suc o) h = rest.1.none o h

some_shown : (ks : List Access) → ((o : ℕ) (k : Access) → slice_get ks o ≡ Some k → (v : View State) × Knows k v) → (f : Fronts) × AreShown ks f
some_shown [] all_ = (nothing, record { each = λ o k h. cc h; none = λ o h. refl })
some_shown (j ∷ ks) all_ = more_shown j ks (all_ 0 j refl) (some_shown ks (λ o. all_ (suc o)))

pub some_fronts : (t : ℕ) (ks : List Access) → AreAccesses (objects_of ks) t ks → (f : Fronts) × AreShown ks f
some_fronts t ks are = some_shown ks (λ o k at_k. let is = access_at t ks o k are at_k in (is.view, is.seen))

-- there are no others
pub same_fronts : (ks : List Access) (f g : Fronts) → AreShown ks f → AreShown ks g → (o : ℕ) → f o ≡ g o
same_fronts ks f g a b o = go (slice_get ks o) refl
  where
    go : (r : Option Access) → slice_get ks o ≡ r → f o ≡ g o
    go None h = a.none o h ∙ sym (b.none o h)
    go (Some k) h =
        let v = a.each o k h in
        let w = b.each o k h in
        sym v.2 ∙ (ap (λ (u : View State). u.front) (same_view k v.0 w.0 v.1 w.1) ∙ w.2)

pub acts_promise : (s : Scene) (t : ℕ) (ks ks' : List Access) (q : ObjectNo) (x : Item) → IsOn q x → AreMadeAs s.objects (objects_of ks) → AreAccesses (objects_of ks) t ks → ActsOn ks ks' q.0 x → PromisesOne s t (AreShown ks) x (AreShown ks')
acts_promise s t ks ks' q x on made are a f shown =
    let d = object_made s ks q.0 a.old made a.was in
    let was = shown.each q.0 a.old a.was in
    let v = was.0 in
    let r = a.made.goes v was.1 in
    let object = made.each q.0 d.0 (object_of a.old) d.1 (object_there ks q.0 a.old a.was) in
    let numbered = number_of (object_of a.old) t a.old v (access_at t ks q.0 a.old are a.was) was.1 in
    (put f q.0 r.0.front, record { each = λ o k at_k. shown_at r.0.front (r.0, r.1, refl) o k at_k (q.0 == o) refl; none = λ o beyond. none_at r.0.front o beyond (q.0 == o) refl }, item_path s t d.0 q a.old a.new x v r.0 on d.1 object numbered was.1 r.1 r.2 f (sym was.2))
  where
    now_there : slice_get ks' q.0 ≡ Some a.new
    now_there = ap (λ vs. slice_get vs q.0) a.is ∙ set_same ks q.0 a.old a.new a.was

    shown_at : (H : List Entry) → Shows a.new H → (o : ℕ) (k : Access) → slice_get ks' o ≡ Some k → (b : Bool) → (q.0 == o) ≡ b → Shows k (if b then H else f o)
    shown_at H now o k at_k true e =
        let there : slice_get ks' o ≡ Some a.new = subst (λ n. slice_get ks' n ≡ Some a.new) (eqb-true q.0 o e) now_there in
        subst (λ (v : Access). Shows v H) (same_some a.new k (slice_get ks' o) there at_k) now
    shown_at H now o k at_k false e =
        let still : slice_get ks o ≡ Some k = sym (ap (λ vs. slice_get vs o) a.is ∙ set_other ks q.0 o a.new (eqb-false q.0 o e)) ∙ at_k in
        shown.each o k still

    none_at : (H : List Entry) (o : ℕ) → slice_get ks' o ≡ None → (b : Bool) → (q.0 == o) ≡ b → (if b then H else f o) ≡ []
    none_at H o beyond true e =
        let there : slice_get ks' o ≡ Some a.new = subst (λ n. slice_get ks' n ≡ Some a.new) (eqb-true q.0 o e) now_there in
        cc (there, beyond)
    none_at H o beyond false e = shown.none o (sym (ap (λ vs. slice_get vs o) a.is ∙ set_other ks q.0 o a.new (eqb-false q.0 o e)) ∙ beyond)

pub reply_promise : (s : Scene) (t : ℕ) (ks ks' : List Access) (r : Reply) → ks' ≡ ks → PromisesOne s t (AreShown ks) (items.Said r) (AreShown ks')
reply_promise s t ks ks' r steps f shown = (f, subst (λ (v : List Access). AreShown v f) (sym steps) shown, λ first last. reply_goes s first last t f r)
