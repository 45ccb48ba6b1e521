-- The accesses of the thread that main isn't, as a scenario of two is made.
use Rattle.std.proofs.Common.{◌≡◌, ◌<◌, ◌≤◌, ℕ, zero, suc, List, [], ◌∷◌, length, slice_get, get_or, Some, refl, sym, ap, subst, arith}
use Rattle.std.specs.Global.{Vec}
use Rattle.cx_scene.specs.Scene.{Scene}
use Rattle.cx_asks.specs.Scenes.{IsAskable}
use Rattle.cx_kinds.specs.declared.access.Access.{Access}
use Rattle.cx_kinds.specs.Accesses.{RunObject}
use Rattle.cx_work.specs.Accesses.{AreMadeAs, AreAccesses, objects_of}
use Rattle.cx_work.specs.Reserves.{AreEnough}
use Rattle.cx_work.specs.RunNow.{AreAllNew, AreShared, objects_of_all}
use Rattle.cx_work.proofs.Newness.{new_are_accesses, new_objects, new_are_enough, shares_suffice}

place_is : (all : List (Vec Access)) (i : ℕ) (ks : Vec Access) → i < length all → ks ≡ get_or all i ks → slice_get all i ≡ Some ks
place_is [] i ks low is = absurd (omega (arith, low))
place_is (k ∷ all) zero ks low is = ap Some (sym is)
place_is (k ∷ all) (suc i) ks low is = place_is all i ks (omega (arith, low)) is

-- the same by another count of the threads
pub all_new : (all : List (Vec Access)) (m n : ℕ) → m ≡ n → AreAllNew (objects_of_all all) m all → AreAllNew (objects_of_all all) n all
all_new all m n is new = subst (λ (k : ℕ). AreAllNew (objects_of_all all) k all) is new

module _ (s : Scene) (all : List (Vec Access)) (ks : Vec Access) (new : AreAllNew (objects_of_all all) (length s.threads) all) (two : 2 ≤ length s.threads) (is : ks ≡ get_or all 1 ks) where
  there : slice_get all 1 ≡ Some ks
  there = let count = new.count in place_is all 1 ks (omega (arith, count, two)) is

  objects_are : objects_of ks.items ≡ objects_of_all all
  objects_are = new_objects (objects_of_all all) (length s.threads) 1 131072 0 ks.items (new.others 1 ks (omega arith) there)

  pub second_accesses : AreAccesses (objects_of ks.items) 1 ks.items
  second_accesses = subst (λ (xs : List RunObject). AreAccesses xs 1 ks.items) (sym objects_are) (new_are_accesses (objects_of_all all) (length s.threads) 1 131072 0 ks.items (new.others 1 ks (omega arith) there))

  pub second_made : AreMadeAs s.objects (objects_of_all all) → AreMadeAs s.objects (objects_of ks.items)
  second_made made = subst (λ (xs : List RunObject). AreMadeAs s.objects xs) (sym objects_are) made

  pub second_enough : IsAskable s → AreShared s all → AreEnough s 1 ks.items []
  second_enough asks shared = new_are_enough s (objects_of_all all) (length s.threads) 1 0 ks.items refl (new.others 1 ks (omega arith) there) (shares_suffice s all 1 ks asks new.count shared there)
