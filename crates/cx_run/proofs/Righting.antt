-- A run whose threads have all come gives what is promised.
use Rattle.std.proofs.Common.{◌≡◌, ℕ, zero, suc, ◌<◌, Bool, true, false, IsTrue, Result, Ok, Err, is_err, OnOk, List, length, slice_get, Option, Some, refl, ap, ◌∙◌, subst, arith}
use Rattle.cx_turn.specs.Views.{IsIn}
use Rattle.cx_scene.specs.Scene.{Scene}
use Rattle.cx_items.specs.declared.item.Item.{Item}
use Rattle.cx_items.specs.declared.local.Local.{Local}
use Rattle.cx_items.specs.Next.{is_ended}
use Rattle.cx_items.specs.Steps.{local_of}
use Rattle.cx_history.specs.Follows.{is_whole}
use Rattle.cx_history.specs.Histories.{Recorded}
use Rattle.cx_fronts.specs.Positions.{positions}
use Rattle.cx_fronts.specs.Paths.{Fronts}
use Rattle.cx_fronts.specs.Runs.{IsRight}
use Rattle.cx_fronts.specs.Growing.{any_joins}
use Rattle.cx_kinds.specs.Accesses.{RunObject, Knows}
use Rattle.cx_kinds.specs.declared.access.Access.{Access}
use Rattle.cx_work.specs.Steps.{StandsAt}
use Rattle.cx_work.specs.Accesses.{AreMadeAs, AreAccesses, AreShown}
use Rattle.cx_machine.specs.Machine.{State}
use Rattle.cx_turn.specs.declared.view.View.{View}
use Rattle.cx_run.specs.declared.place.Place.{Place}
use Rattle.cx_run.specs.declared.place.Place.TheVariants as places
use Rattle.cx_run.specs.Handing.{HaveTaken}
use Rattle.cx_run.specs.Runs.{HasCome, IsPlace, IsWholeList, RunOf, AreSettled, has_come, record_of}
use Rattle.cx_run.specs.Results.{IsRightRun}
use Rattle.cx_run.proofs.Settled.{taken_is_in, settled}
use Rattle.cx_run.proofs.Ending.{high, run_is_right}

come_taken : (s : Scene) (u : ℕ) (b : Bool) (first last : Fronts) (list ys : List Item) (ks : List Access) (f : Fronts) → HasCome s u b first last list ys ks f → (h : Fronts) × HaveTaken ks u h
come_taken s u true first last list ys ks f c = (last, c.1)
come_taken s u false first last list ys ks f c = (c.0, c.1.taken)

module _ {G : Type 0} (s : Scene) (xs : List RunObject) (list : List Item) (ks : List Access) (others : List (Place G)) (r : RunOf s xs list ks others) (come : (i : ℕ) (p : Place G) → slice_get others i ≡ Some p → has_come p ≡ true) (made : AreMadeAs s.objects xs) (are : AreAccesses xs 0 ks) where
  place_taken : (i : ℕ) (p : Place G) → has_come p ≡ true → IsPlace s xs r.first r.last r.lists list ks r.f (suc i) p → (h : Fronts) × HaveTaken ks (suc i) h
  place_taken i (places.Waiting w) h q = cc h
  place_taken i (places.Running thread) h q = cc h
  place_taken i (places.Ended ys) h q = come_taken s (suc i) (any_joins (suc i) list) (r.first (suc i)) (r.last (suc i)) (r.lists (suc i)) ys.items ks r.f q.1
  place_taken i places.Idle h q = (q.1.h, q.1.taken)

  all_in : (o : ℕ) (k : Access) → slice_get ks o ≡ Some k → (v : View State) → Knows k v → (n : ℕ) → 0 < n → n < length s.threads → IsIn n v.taken
  all_in o k at_k v knows zero above low = absurd (omega (arith, above))
  all_in o k at_k v knows (suc i) above low =
      let count = r.count in
      let p = high others i (omega (arith, low, count)) in
      let t = place_taken i p.0 (come i p.0 p.1) (r.places i p.0 p.1) in
      taken_is_in v.taken (suc i) (positions (suc i) 0 (t.0 o)) (t.1 o k at_k v knows)

  settled_ : AreSettled s ks r.f (length others)
  settled_ = settled s xs ks r.f (length others) made are r.shown r.splits

  pub right_run : IsWholeList s 0 r.f list → IsRightRun s xs (record_of s list others) ks
  right_run own =
      let right : IsRight s (record_of s list others) r.f = run_is_right s xs list ks others r come settled_ own in
      record {
        legal = right.legal;
        follows = right.follows;
        formed = right.formed;
        fronts = record { are = are; all_in = all_in; split = λ o k at_k v knows. ap suc (r.splits o k at_k v knows) ∙ r.count; f = r.f; shown = r.shown; histories = right.histories };
      }

-- main's list is that of its whole body, where it stands at the body's end
pub whole_list : (s : Scene) (t : ℕ) (ks : List Access) (f : Fronts) (list : List Item) (l : Local) → t ≡ 0 → StandsAt s t ks list l → AreShown ks f → IsTrue (is_ended (local_of s 0 l)) → IsWholeList s 0 f list
whole_list s t ks f list l zero_ at_ shown ended =
    let at_0 : StandsAt s 0 ks list l = subst (λ n. StandsAt s n ks list l) zero_ at_ in
    record { whole = λ leaves_completing agrees. ap is_whole (at_0.stands f shown leaves_completing agrees) ∙ ended; formed = at_0.formed }

pub recorded_is : (v w : ℕ) (ls ms : List (Option (List Item))) → v ≡ w → ls ≡ ms → (let r : Recorded = record { version = v; lists = ls } in r) ≡ record { version = w; lists = ms }
recorded_is v w ls ms a b = rw (a, b) refl

pub from_ok : {T E : Type 0} {A : Type 0} (result : Result T E) (b : Bool) → b ≡ false → b ≡ is_err result → OnOk result A → A
from_ok (Ok x) b no_ is a = a
from_ok (Err e) b no_ is a = cc (no_, is)

-- by the scene and the objects that were given
pub right_as : (s s' : Scene) (xs xs' : List RunObject) (r : Recorded) (ks : List Access) → s' ≡ s → xs' ≡ xs → IsRightRun s' xs' r ks → IsRightRun s xs r ks
right_as s s' xs xs' r ks a b right = subst (λ (z : Scene). IsRightRun z xs r ks) a (subst (λ (os : List RunObject). IsRightRun s' os r ks) b right)
