-- What main's accesses know of their fronts.
use Rattle.std.proofs.Common.{◌≡◌, inl, inr, ℕ, zero, suc, ◌<◌, List, [], ◌∷◌, ◌++◌, slice_get, Option, Some, None, is_some, refl, sym, ap, ◌∙◌, subst, arith}
use mathlib.Core.List.{IsPrefix}
use Rattle.cx_machine.specs.declared.kind.Entry.{Entry}
use Rattle.cx_machine.specs.Meaning.{run as runs}
use Rattle.cx_machine.specs.Machine.{State, opening, step, IsLegal}
use Rattle.cx_turn.specs.declared.view.View.{View}
use Rattle.cx_turn.specs.declared.view.Gone.{Gone}
use Rattle.cx_turn.specs.Positions.{positions as turn_positions}
use Rattle.cx_turn.specs.Views.{Each, IsIn, gone_of}
use Rattle.cx_scene.specs.declared.declared.Object.{Object}
use Rattle.cx_scene.specs.Scene.{Scene, kind_of}
use Rattle.cx_fronts.specs.Positions.{positions}
use Rattle.cx_fronts.specs.Paths.{Fronts, Grows}
use Rattle.cx_kinds.specs.declared.access.Access.{Access}
use Rattle.cx_kinds.specs.Accesses.{RunObject, object_of, Knows}
use Rattle.cx_work.specs.Accesses.{IsMadeAs, AreMadeAs, AreAccesses, AreShown}
use Rattle.cx_work.proofs.Going.{same_positions, run_is}
use Rattle.cx_work.proofs.Stepping.{number_of}
use Rattle.cx_run.specs.Handing.{IsTaken, IsSplit, HaveTaken}
use Rattle.cx_run.specs.Runs.{AreSettled}
use Rattle.cx_run.proofs.Accesses.{at_same}

-- ---- one access

each_of : (P : Gone → Type 0) (gs : List Gone) (i : ℕ) (g : Gone) → Each P gs → slice_get gs i ≡ Some g → P g
each_of P [] i g all_ h = cc h
each_of P (e ∷ gs) zero g all_ h = let same : e ≡ g = cc in subst P same all_.0
each_of P (e ∷ gs) (suc i) g all_ h = each_of P gs i g all_.1 h

pub taken_is_in : (gs : List Gone) (n : ℕ) (ps : List ℕ) → IsTaken gs n ps → IsIn n gs
taken_is_in gs n ps t = go gs t.0 t.1
  where
    go : (gs : List Gone) (i : ℕ) → slice_get gs i ≡ Some (gone_of n ps) → IsIn n gs
    go [] i h = cc h
    go (g ∷ gs) zero h = let same : g ≡ gone_of n ps = cc in inl (ap (λ (e : Gone). e.number) same)
    go (g ∷ gs) (suc i) h = inr (go gs i h)

module _ (k : Access) (v : View State) (knows : Knows k v) where
  access_legal : (d : Object) → IsMadeAs d (object_of k) → IsLegal (kind_of d) v.front
  access_legal d made =
      let m = knows.known.legal in
      let leads : runs step (Some (opening (kind_of d))) v.front ≡ Some m.0 = subst (λ (s : State). runs step (Some s) v.front ≡ Some m.0) (knows.started ∙ made.opens_so) m.1 in
      ap is_some (run_is v.front (opening (kind_of d)) ∙ leads)

  access_gone : (u : ℕ) (ps : List ℕ) → IsTaken v.taken u ps → positions u 0 v.front ≡ ps
  access_gone u ps t = same_positions u 0 v.front ∙ each_of (λ g. turn_positions g.number 0 v.front ≡ g.mine) v.taken t.0 (gone_of u ps) (knows.known.gone knows.counts) t.1

  access_above : v.number ≡ 0 → (n : ℕ) → v.splits < n → positions n 0 v.front ≡ []
  access_above main n above = same_positions n 0 v.front ∙ knows.known.above knows.counts main n above

-- ---- all accesses

none_before : (es fs : List Entry) → IsPrefix es fs → fs ≡ [] → es ≡ []
none_before [] fs p h = refl
none_before (e ∷ es) fs p h = let there : e ∷ (es ++ p.0) ≡ fs = p.1 in cc

pub settled : (s : Scene) (xs : List RunObject) (ks : List Access) (f : Fronts) (n : ℕ) → AreMadeAs s.objects xs → AreAccesses xs 0 ks → AreShown ks f → ((o : ℕ) (k : Access) → slice_get ks o ≡ Some k → IsSplit k n) → AreSettled s ks f n
settled s xs ks f n made are shown split = record {
  legal = λ o d at_d.
      let x = at_same s.objects xs o d (sym made.count) at_d in
      let k = at_same xs ks o x.0 (sym are.count) x.1 in
      let v = shown.each o k.0 k.1 in
      let is = are.each o x.0 k.0 x.1 k.1 in
      subst (λ es. IsLegal (kind_of d) es) v.2 (access_legal k.0 v.0 v.1 d (subst (λ (y : RunObject). IsMadeAs d y) (sym is.object) (made.each o d x.0 at_d x.1)));
  gone = λ u h grows taken o. gone_at u h grows taken o (slice_get ks o) refl;
  above = λ u high o. above_at u high o (slice_get ks o) refl;
}
  where
    gone_at : (u : ℕ) (h : Fronts) → Grows h f → HaveTaken ks u h → (o : ℕ) (r : Option Access) → slice_get ks o ≡ r → positions u 0 (f o) ≡ positions u 0 (h o)
    gone_at u h grows taken o None at_k =
        let none_f : f o ≡ [] = shown.none o at_k in
        let none_h : h o ≡ [] = none_before (h o) (f o) (grows o) none_f in
        ap (positions u 0) (none_f ∙ sym none_h)
    gone_at u h grows taken o (Some k) at_k =
        let v = shown.each o k at_k in
        ap (positions u 0) (sym v.2) ∙ access_gone k v.0 v.1 u (positions u 0 (h o)) (taken o k at_k v.0 v.1)

    above_at : (u : ℕ) → n < u → (o : ℕ) (r : Option Access) → slice_get ks o ≡ r → positions u 0 (f o) ≡ []
    above_at u high o None at_k = ap (positions u 0) (shown.none o at_k)
    above_at u high o (Some k) at_k =
        let v = shown.each o k at_k in
        let x = at_same ks xs o k are.count at_k in
        let is = split o k at_k v.0 v.1 in
        ap (positions u 0) (sym v.2) ∙ access_above k v.0 v.1 (number_of x.0 0 k v.0 (are.each o x.0 k x.1 at_k) v.1) u (omega (arith, high, is))
