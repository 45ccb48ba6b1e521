-- What a run comes to.
use Rattle.std.specs.Prelude.{◌≡◌, ℕ, suc, ◌+◌, ◌<◌, List, [], ◌∷◌, length, slice_get, Option, Some}
use Rattle.cx_turn.specs.Views.{IsIn}
use Rattle.cx_scene.specs.Scene.{Scene}
use Rattle.cx_items.specs.declared.item.Item.{Item}
use Rattle.cx_history.specs.Legal.{LegalRecord}
use Rattle.cx_history.specs.Follows.{Follows}
use Rattle.cx_history.specs.IsRecord.{IsRecord}
use Rattle.cx_history.specs.Histories.{Recorded, items_of, history}
use Rattle.cx_fronts.specs.Paths.{Fronts}
use Rattle.cx_fronts.specs.Counts.{change_count}
use Rattle.cx_kinds.specs.Accesses.{RunObject, Knows}
use Rattle.cx_machine.specs.Machine.{State}
use Rattle.cx_turn.specs.declared.view.View.{View}
use Rattle.cx_kinds.specs.declared.access.Access.{Access}
use Rattle.cx_work.specs.Accesses.{AreAccesses, AreShown}

-- how many changes these lists have
abbrev pub changes_in_all : List (Option (List Item)) → ℕ
changes_in_all [] = 0
changes_in_all (l ∷ ls) = change_count (items_of l) + changes_in_all ls

-- how many changes the lists other than main's have
abbrev pub changes_elsewhere : Recorded → ℕ
changes_elsewhere r = after_main r.lists
  where
    after_main : List (Option (List Item)) → ℕ
    after_main [] = 0
    after_main (l ∷ ls) = changes_in_all ls

-- main's accesses have taken in those of every other thread of the scenario, as many passes were split off as there are such threads, and what
-- main's show of each object is the record's history of it
pub record AreWhole (s : Scene) (xs : List RunObject) (accesses : List Access) (r : Recorded) : Type 0 where
  pub are : AreAccesses xs 0 accesses
  pub all_in : (o : ℕ) (k : Access) → slice_get accesses o ≡ Some k → (v : View State) → Knows k v → (n : ℕ) → 0 < n → n < length s.threads → IsIn n v.taken
  pub split : (o : ℕ) (k : Access) → slice_get accesses o ≡ Some k → (v : View State) → Knows k v → suc v.splits ≡ length s.threads
  pub f : Fronts
  pub shown : AreShown accesses f
  pub histories : (o : ℕ) → history r o ≡ f o

-- the record is legal, follows the scenario and is well formed, and main's accesses show its histories
pub record IsRightRun (s : Scene) (xs : List RunObject) (r : Recorded) (accesses : List Access) : Type 0 where
  pub legal : LegalRecord s r
  pub follows : Follows s r
  pub formed : IsRecord s r
  pub fronts : AreWhole s xs accesses r
