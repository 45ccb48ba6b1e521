-- New accesses are accesses, and have seen nothing.
use Rattle.std.proofs.Common.{◌≡◌, ◌≤◌, ◌-◌, ℕ, zero, suc, min, List, [], ◌∷◌, length, slice_get, Some, refl, sym, ap, ◌∙◌, subst, arith}
use Rattle.std.specs.Global.{Vec}
use Rattle.cx_machine.specs.Machine.{State}
use Rattle.cx_turn.specs.declared.view.View.{View}
use Rattle.cx_scene.specs.Scene.{Scene}
use Rattle.cx_fronts.specs.Paths.{nothing}
use Rattle.cx_asks.specs.Scenes.{IsAskable, taken_in, left_with_main}
use Rattle.cx_asks.proofs.Latches.{shares_are}
use Rattle.cx_kinds.specs.declared.access.Access.{Access}
use Rattle.cx_kinds.specs.Accesses.{RunObject, share_of}
use Rattle.cx_work.specs.Accesses.{IsAccess, AreAccesses, AreShown, objects_of}
use Rattle.cx_work.specs.Reserves.{AreEnough}
use Rattle.cx_work.specs.RunNow.{IsNewAccess, AreNew, AreShared, share_at}
use Rattle.cx_work.proofs.Going.{same_view}
use Rattle.cx_work.proofs.Stepping.{at_index, is_within, objects_are}

pub new_is_access : (x : RunObject) (seats t left splits : ℕ) (k : Access) → IsNewAccess x seats t left splits k → IsAccess x t k
new_is_access x seats t left splits k new = record { object = new.object; view = new.view; seen = new.seen; thread = new.new.numbered }

pub new_are_accesses : (xs : List RunObject) (seats t left splits : ℕ) (ks : List Access) → AreNew xs seats t left splits ks → AreAccesses xs t ks
new_are_accesses xs seats t left splits ks new = record { count = new.count; each = λ o x k at_x at_k. new_is_access x seats t left splits k (new.each o x k at_x at_k) }

pub new_show_nothing : (xs : List RunObject) (seats t left splits : ℕ) (ks : List Access) → AreNew xs seats t left splits ks → AreShown ks nothing
new_show_nothing xs seats t left splits ks new = record {
  each = λ o k at_k.
      let low = is_within ks o k at_k in
      let count = new.count in
      let x = at_index xs o (omega (arith, low, count)) in
      let n = new.each o x.0 k x.1 at_k in
      (n.view, n.seen, n.new.front);
  none = λ o beyond. refl;
}

-- new accesses to these objects have these objects
pub new_objects : (xs : List RunObject) (seats t left splits : ℕ) (ks : List Access) → AreNew xs seats t left splits ks → objects_of ks ≡ xs
new_objects xs seats t left splits ks new = objects_are xs t ks (new_are_accesses xs seats t left splits ks new)

-- ---- new accesses suffice for a thread's text

share_there : (ks : List Access) (o : ℕ) (k : Access) → slice_get ks o ≡ Some k → share_at ks o ≡ share_of k
share_there [] o k h = cc h
share_there (j ∷ ks) zero k h = let same : j ≡ k = cc in ap share_of same
share_there (j ∷ ks) (suc o) k h = share_there ks o k h

pub new_are_enough : (s : Scene) (xs : List RunObject) (seats t splits : ℕ) (ks : List Access) → seats ≡ length s.threads → AreNew xs seats t 131072 splits ks → ((o : ℕ) → taken_in s t o ≤ share_at ks o) → AreEnough s t ks []
new_are_enough s xs seats t splits ks all_ new shares o k at_k =
    let low = is_within ks o k at_k in
    let count = new.count in
    let x = at_index xs o (omega (arith, low, count)) in
    let n = new.each o x.0 k x.1 at_k in
    record {
      seats = λ v a. ap (λ (u : View State). u.seats) (sym (same_view k n.view v n.seen a)) ∙ (n.new.seated ∙ all_);
      holds = n.free;
      left = λ v a. let is : v.left ≡ 131072 = ap (λ (u : View State). u.left) (sym (same_view k n.view v n.seen a)) ∙ n.new.may in omega (arith, is);
      share = let takes = shares o in let has = share_there ks o k at_k in omega (arith, takes, has);
    }

least_of : (a b n : ℕ) → n ≡ min a b → a ≤ b → a ≤ n
least_of a b n is le = omega (arith, is, le)

-- each thread's share of a latch is what its text takes
pub shares_suffice : (s : Scene) (all : List (Vec Access)) (t : ℕ) (ks : Vec Access) → IsAskable s → length all ≡ length s.threads → AreShared s all → slice_get all t ≡ Some ks → (o : ℕ) → taken_in s t o ≤ share_at ks.items o
shares_suffice s all zero ks asks count shared at_ks o =
    let low = is_within all 0 ks at_ks in
    let are = shares_are s o asks (omega (arith, low, count)) in
    subst (λ n. taken_in s 0 o ≤ n) (sym (shared.main ks at_ks o)) (subst (λ n. taken_in s 0 o ≤ left_with_main s (n - 1) o) (sym count) are.main)
shares_suffice s all (suc t) ks asks count shared at_ks o =
    let low = is_within all (suc t) ks at_ks in
    let are = shares_are s o asks (omega (arith, low, count)) in
    least_of (taken_in s (suc t) o) (left_with_main s t o) (share_at ks.items o) (shared.others t ks at_ks o) (are.others t (omega (arith, low, count)))
