-- A run goes on with each item that main makes alone.
use Rattle.std.proofs.Common.{◌≡◌, ℕ, true, List, [], ◌∷◌, ◌++◌, length, slice_get, Some, sym, ap, ◌∙◌, subst}
use Rattle.cx_machine.specs.Machine.{State}
use Rattle.cx_turn.specs.declared.view.View.{View}
use Rattle.cx_scene.specs.Scene.{Scene}
use Rattle.cx_items.specs.declared.item.Item.{Item}
use Rattle.cx_items.specs.declared.item.Item.TheVariants as items
use Rattle.cx_fronts.specs.Positions.{positions}
use Rattle.cx_fronts.specs.Paths.{Fronts}
use Rattle.cx_kinds.specs.declared.access.Access.{Access}
use Rattle.cx_kinds.specs.Accesses.{RunObject, object_of}
use Rattle.cx_work.specs.Accesses.{AreMadeAs, IsAccess, AreAccesses, Made, objects_of}
use Rattle.cx_work.specs.Steps.{ActsOn, StepsOn, is_made_alone}
use Rattle.cx_work.proofs.Going.{same_view, remains}
use Rattle.cx_work.proofs.Stepping.{access_at}
use Rattle.cx_work.proofs.Promising.{steps_promise}
use Rattle.cx_run.specs.declared.place.Place.{Place}
use Rattle.cx_run.specs.Handing.{IsTaken, HasTaken, IsSplit, HaveTaken}
use Rattle.cx_run.specs.Runs.{RunOf}
use Rattle.cx_run.proofs.Keeping.{Stands, here, elsewhere, get_set, act_goes}

-- ---- one access

-- an access that made an item has taken in those that it had
made_taken : (x : RunObject) (t u : ℕ) (k k' : Access) (item : Item) (ps : List ℕ) → IsAccess x t k → Made k k' item → HasTaken k u ps → HasTaken k' u ps
made_taken x t u k k' item ps is made taken z knows =
    let r = made.goes is.view is.seen in
    let same : is.view.taken ≡ z.taken = sym (remains item is.view r.0 r.2).taken ∙ ap (λ (v : View State). v.taken) (same_view k' r.0 z r.1 knows) in
    subst (λ gs. IsTaken gs u ps) same (taken is.view is.seen)

-- and as many were split off
made_split : (x : RunObject) (t n : ℕ) (k k' : Access) (item : Item) → IsAccess x t k → Made k k' item → IsSplit k n → IsSplit k' n
made_split x t n k k' item is made split z knows =
    let r = made.goes is.view is.seen in
    sym (ap (λ (v : View State). v.splits) (same_view k' r.0 z r.1 knows)) ∙ ((remains item is.view r.0 r.2).splits ∙ split is.view is.seen)

-- ---- all accesses

module _ (t : ℕ) (ks ks' : List Access) (are : AreAccesses (objects_of ks) t ks) where
  acts_taken : (q : ℕ) (item : Item) (a : ActsOn ks ks' q item) (u : ℕ) (h : Fronts) → HaveTaken ks u h → HaveTaken ks' u h
  acts_taken q item a u h taken o k' at_ = go (get_set ks q a.new o k' (ap (λ vs. slice_get vs o) (sym a.is) ∙ at_))
    where
      go : Stands ks q a.new o k' → HasTaken k' u (positions u 0 (h o))
      go (here same is) = subst (λ (z : Access). HasTaken z u (positions u 0 (h o))) is (subst (λ n. HasTaken a.new u (positions u 0 (h n))) (sym same) (made_taken (object_of a.old) t u a.old a.new item (positions u 0 (h q)) (access_at t ks q a.old are a.was) a.made (taken q a.old a.was)))
      go (elsewhere apart still) = taken o k' still

  acts_splits : (q n : ℕ) (item : Item) (a : ActsOn ks ks' q item) → ((o : ℕ) (k : Access) → slice_get ks o ≡ Some k → IsSplit k n) → (o : ℕ) (k : Access) → slice_get ks' o ≡ Some k → IsSplit k n
  acts_splits q n item a split o k' at_ = go (get_set ks q a.new o k' (ap (λ vs. slice_get vs o) (sym a.is) ∙ at_))
    where
      go : Stands ks q a.new o k' → IsSplit k' n
      go (here same is) = subst (λ (z : Access). IsSplit z n) is (made_split (object_of a.old) t n a.old a.new item (access_at t ks q a.old are a.was) a.made (split q a.old a.was))
      go (elsewhere apart still) = split o k' still

  steps_taken : (x : Item) → StepsOn ks ks' x → (u : ℕ) (h : Fronts) → HaveTaken ks u h → HaveTaken ks' u h
  steps_taken (items.Change q n e) steps u h taken = acts_taken q.0 (items.Change q n e) steps u h taken
  steps_taken (items.Look q l) steps u h taken = acts_taken q.0 (items.Look q l) steps u h taken
  steps_taken (items.Control c) steps u h taken = subst (λ (js : List Access). HaveTaken js u h) (sym steps) taken
  steps_taken (items.Said r) steps u h taken = subst (λ (js : List Access). HaveTaken js u h) (sym steps) taken

  steps_splits : (n : ℕ) (x : Item) → StepsOn ks ks' x → ((o : ℕ) (k : Access) → slice_get ks o ≡ Some k → IsSplit k n) → (o : ℕ) (k : Access) → slice_get ks' o ≡ Some k → IsSplit k n
  steps_splits n (items.Change q i e) steps split = acts_splits q.0 n (items.Change q i e) steps split
  steps_splits n (items.Look q l) steps split = acts_splits q.0 n (items.Look q l) steps split
  steps_splits n (items.Control c) steps split = subst (λ (js : List Access). (o : ℕ) (k : Access) → slice_get js o ≡ Some k → IsSplit k n) (sym steps) split
  steps_splits n (items.Said r) steps split = subst (λ (js : List Access). (o : ℕ) (k : Access) → slice_get js o ≡ Some k → IsSplit k n) (sym steps) split

pub made_alone : {G : Type 0} (s : Scene) (list : List Item) (ks ks' : List Access) (others : List (Place G)) (x : Item) → AreMadeAs s.objects (objects_of ks) → AreAccesses (objects_of ks) 0 ks → StepsOn ks ks' x → is_made_alone x ≡ true → RunOf s (objects_of ks) list ks others → RunOf s (objects_of ks) (list ++ x ∷ []) ks' others
made_alone s list ks ks' others x made are steps alone r = act_goes s (objects_of ks) list ks ks' others x r (steps_promise s 0 ks ks' x made are steps alone) alone (steps_taken 0 ks ks' are x steps) (steps_splits 0 ks ks' are (length others) x steps r.splits)
