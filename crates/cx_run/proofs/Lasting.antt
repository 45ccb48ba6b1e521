-- What a thread's accesses hold and have left stays enough where threads meet, and where one takes another's in.
use Rattle.std.proofs.Common.{◌≡◌, ℕ, ◌+◌, ◌≤◌, List, refl, sym, ap, ◌∙◌, arith}
use Rattle.cx_machine.specs.Machine.{State}
use Rattle.cx_turn.specs.declared.view.View.{View}
use Rattle.cx_turn.specs.Views.{both_of, having_met}
use Rattle.cx_scene.specs.Scene.{Scene}
use Rattle.cx_items.specs.declared.item.Item.{Item}
use Rattle.cx_kinds.specs.declared.access.Access.{Access}
use Rattle.cx_kinds.specs.Accesses.{RunObject, Knows, kept_of}
use Rattle.cx_work.specs.Accesses.{IsAccess, AreAccesses}
use Rattle.cx_work.specs.Reserves.{IsEnough, AreEnough}
use Rattle.cx_work.proofs.Going.{same_view}
use Rattle.cx_run.specs.Handing.{IsAsBefore, HasMet, TakesIn, AllAsBefore, AllMet, AllTakeIn}
use Rattle.cx_run.proofs.Accesses.{at_same}

-- ---- one access

-- it holds the same, and has no less left
record HasNoLess (k k' : Access) : Type 0 where
  kept : kept_of k' ≡ kept_of k
  old : View State
  had : Knows k old
  new : View State
  has : Knows k' new
  seats : new.seats ≡ old.seats
  left : old.left ≤ new.left
  share : old.share ≤ new.share

lasts : (s : Scene) (t o : ℕ) (k k' : Access) (xs : List Item) → HasNoLess k k' → IsEnough s t o k xs → IsEnough s t o k' xs
lasts s t o k k' xs m e = record {
  seats = λ v a. ap (λ (w : View State). w.seats) (sym (same_view k' m.new v m.has a)) ∙ (m.seats ∙ e.seats m.old m.had);
  holds = m.kept ∙ e.holds;
  left = λ v a.
      let is : m.new.left ≡ v.left = ap (λ (w : View State). w.left) (same_view k' m.new v m.has a) in
      let had = e.left m.old m.had in
      let more = m.left in
      omega (arith, is, had, more);
  share =
      let before = m.had.shared in
      let after = m.has.shared in
      let more = m.share in
      let had = e.share in
      omega (arith, before, after, more, had);
}

same_le : (n : ℕ) → n ≤ n
same_le n = omega arith

more_le : (n m : ℕ) → n ≤ n + m
more_le n m = omega arith

before_has : (x : RunObject) (t : ℕ) (k k' : Access) → IsAccess x t k → IsAsBefore k k' → HasNoLess k k'
before_has x t k k' is p = record { kept = p.kept; old = is.view; had = is.seen; new = is.view; has = p.stays.stays is.view is.seen; seats = refl; left = same_le is.view.left; share = same_le is.view.share }

met_has : (x y : RunObject) (t u : ℕ) (other k k' : Access) → IsAccess x t k → IsAccess y u other → HasMet other k k' → HasNoLess k k'
met_has x y t u other k k' is theirs p = record { kept = p.kept; old = is.view; had = is.seen; new = having_met is.view theirs.view; has = p.met.sees theirs.view is.view theirs.seen is.seen; seats = refl; left = same_le is.view.left; share = same_le is.view.share }

took_has : (x y : RunObject) (t u : ℕ) (other k k' : Access) → IsAccess x t k → IsAccess y u other → TakesIn other k k' → HasNoLess k k'
took_has x y t u other k k' is theirs p = record { kept = p.kept; old = is.view; had = is.seen; new = both_of is.view theirs.view; has = p.joined.sees is.view theirs.view is.seen theirs.seen; seats = refl; left = more_le is.view.left theirs.view.left; share = more_le is.view.share theirs.view.share }

-- ---- all accesses

pub same_enough : (s : Scene) (xs : List RunObject) (t : ℕ) (ks ks' : List Access) (list : List Item) → AreAccesses xs t ks → AllAsBefore ks ks' → AreEnough s t ks list → AreEnough s t ks' list
same_enough s xs t ks ks' list are goes enough o k' at_k =
    let k = at_same ks' ks o k' goes.count at_k in
    let x = at_same ks xs o k.0 are.count k.1 in
    lasts s t o k.0 k' list (before_has x.0 t k.0 k' (are.each o x.0 k.0 x.1 k.1) (goes.each o k.0 k' k.1 at_k)) (enough o k.0 k.1)

pub met_enough : (s : Scene) (xs : List RunObject) (t u : ℕ) (others ks ks' : List Access) (list : List Item) → AreAccesses xs t others → AreAccesses xs u ks → AllMet others ks ks' → AreEnough s u ks list → AreEnough s u ks' list
met_enough s xs t u others ks ks' list theirs are goes enough o k' at_k =
    let k = at_same ks' ks o k' goes.count at_k in
    let x = at_same ks xs o k.0 are.count k.1 in
    let other = at_same xs others o x.0 (sym theirs.count) x.1 in
    lasts s u o k.0 k' list (met_has x.0 x.0 u t other.0 k.0 k' (are.each o x.0 k.0 x.1 k.1) (theirs.each o x.0 other.0 x.1 other.1) (goes.each o k.0 k' k.1 at_k other.0 other.1)) (enough o k.0 k.1)

pub took_enough : (s : Scene) (xs : List RunObject) (t u : ℕ) (others ks ks' : List Access) (list : List Item) → AreAccesses xs t ks → AreAccesses xs u others → AllTakeIn others ks ks' → AreEnough s t ks list → AreEnough s t ks' list
took_enough s xs t u others ks ks' list are theirs goes enough o k' at_k =
    let k = at_same ks' ks o k' goes.count at_k in
    let x = at_same ks xs o k.0 are.count k.1 in
    let other = at_same xs others o x.0 (sym theirs.count) x.1 in
    lasts s t o k.0 k' list (took_has x.0 x.0 t u other.0 k.0 k' (are.each o x.0 k.0 x.1 k.1) (theirs.each o x.0 other.0 x.1 other.1) (goes.each o k.0 k' k.1 at_k other.0 other.1)) (enough o k.0 k.1)
