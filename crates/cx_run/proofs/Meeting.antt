-- What an access shows that has met another's, and once it has taken another in.
use Rattle.std.proofs.Common.{◌≡◌, ℕ, zero, suc, true, List, [], ◌∷◌, ◌++◌, length, slice_get, Some, refl, sym, ap, ◌∙◌, subst}
use mathlib.Core.List.{IsPrefix}
use Rattle.cx_machine.specs.declared.kind.Entry.{Entry}
use Rattle.cx_machine.specs.Machine.{State}
use Rattle.cx_turn.specs.declared.view.View.{View}
use Rattle.cx_turn.specs.declared.view.Gone.{Gone}
use Rattle.cx_turn.specs.Views.{having_met, both_of, gone_of, taken_in}
use Rattle.cx_fronts.specs.Positions.{positions}
use Rattle.cx_kinds.specs.declared.access.Access.{Access}
use Rattle.cx_kinds.specs.Accesses.{RunObject, Knows}
use Rattle.cx_work.specs.Accesses.{IsAccess, Shows}
use Rattle.cx_work.proofs.Going.{same_view, own_at}
use Rattle.cx_work.proofs.Stepping.{number_of}
use Rattle.cx_run.specs.Handing.{IsTaken, HasTaken, IsSplit, IsBoth, IsAsBefore, HasMet, TakesIn}

slice_push : {A : Type 0} (xs : List A) (x : A) → slice_get (xs ++ x ∷ []) (length xs) ≡ Some x
slice_push [] x = refl
slice_push (y ∷ xs) x = slice_push xs x

-- ---- an access that goes on as it was

pub same_access : (x : RunObject) (t : ℕ) (k k' : Access) → IsAsBefore k k' → IsAccess x t k → IsAccess x t k'
same_access x t k k' b is = record { object = b.object ∙ is.object; view = is.view; seen = b.stays.stays is.view is.seen; thread = is.thread }

pub same_shows : (k k' : Access) (F : List Entry) → IsAsBefore k k' → Shows k F → Shows k' F
same_shows k k' F b s = (s.0, b.stays.stays s.0 s.1, s.2)

same_sight : (x : RunObject) (t : ℕ) (k k' : Access) (w : View State) → IsAsBefore k k' → IsAccess x t k → Knows k' w → (v : View State) × Knows k v × (v ≡ w)
same_sight x t k k' w b is a = (is.view, is.seen, same_view k' is.view w (b.stays.stays is.view is.seen) a)

pub same_has_taken : (x : RunObject) (t u : ℕ) (k k' : Access) (ps : List ℕ) → IsAccess x t k → IsAsBefore k k' → HasTaken k u ps → HasTaken k' u ps
same_has_taken x t u k k' ps is b taken w a = let v = same_sight x t k k' w b is a in subst (λ (z : View State). IsTaken z.taken u ps) v.2 (taken v.0 v.1)

pub same_split : (x : RunObject) (t n : ℕ) (k k' : Access) → IsAccess x t k → IsAsBefore k k' → IsSplit k n → IsSplit k' n
same_split x t n k k' is b split w a = let v = same_sight x t k k' w b is a in subst (λ (z : View State). z.splits ≡ n) v.2 (split v.0 v.1)

-- ---- an access that has met another

pub met_access : (x y : RunObject) (t u : ℕ) (other k k' : Access) → HasMet other k k' → IsAccess y u other → IsAccess x t k → IsAccess x t k'
met_access x y t u other k k' m theirs is = record { object = m.object ∙ is.object; view = having_met is.view theirs.view; seen = m.met.sees theirs.view is.view theirs.seen is.seen; thread = is.thread }

pub met : (x : RunObject) (t : ℕ) (other k k' : Access) (F H : List Entry) → HasMet other k k' → IsAccess x t k → Shows other F → Shows k H → (G : List Entry) × Shows k' G × IsBoth t F H G
met x t other k k' F H m is a b =
    let v = a.0 in
    let w = b.0 in
    let u = having_met w v in
    let knows = m.met.sees v w a.1 b.1 in
    let number : w.number ≡ t = number_of x t k w is b.1 in
    let mine : positions t 0 u.front ≡ w.mine = own_at k' t u number knows in
    let old : positions t 0 w.front ≡ w.mine = own_at k t w number b.1 in (
      u.front,
      (u, knows, refl),
      record {
        one = subst (λ es. IsPrefix es u.front) a.2 knows.known.met.1.0;
        two = subst (λ es. IsPrefix es u.front) b.2 knows.known.met.0;
        own = mine ∙ (sym old ∙ ap (positions t 0) b.2);
      },
    )

-- ---- an access that has taken another in

taken_is : (v w : View State) → w.counts ≡ true → taken_in v w ≡ v.taken ++ (w.taken ++ gone_of w.number w.mine ∷ [])
taken_is v w h = rw h refl

assoc : (xs ys zs : List Gone) → (xs ++ ys) ++ zs ≡ xs ++ (ys ++ zs)
assoc [] ys zs = refl
assoc (x ∷ xs) ys zs = ap (λ es. x ∷ es) (assoc xs ys zs)

more_of : (gs hs : List Gone) (i : ℕ) (g : Gone) → slice_get gs i ≡ Some g → slice_get (gs ++ hs) i ≡ Some g
more_of [] hs i g k = cc k
more_of (e ∷ es) hs zero g k = k
more_of (e ∷ es) hs (suc i) g k = more_of es hs i g k

pub took_access : (x y : RunObject) (t u : ℕ) (other k k' : Access) → TakesIn other k k' → IsAccess y u other → IsAccess x t k → IsAccess x t k'
took_access x y t u other k k' takes theirs is = record { object = takes.object ∙ is.object; view = both_of is.view theirs.view; seen = takes.joined.sees is.view theirs.view is.seen theirs.seen; thread = is.thread }

pub took : (x y : RunObject) (t n : ℕ) (other k k' : Access) (F H : List Entry) → TakesIn other k k' → IsAccess x t k → IsAccess y n other → Shows other F → Shows k H → (G : List Entry) × Shows k' G × IsBoth t F H G
took x y t n other k k' F H takes is theirs a b =
    let w = a.0 in
    let v = b.0 in
    let u = both_of v w in
    let knows = takes.joined.sees v w b.1 a.1 in
    let number : v.number ≡ t = number_of x t k v is b.1 in
    let mine : positions t 0 u.front ≡ v.mine = own_at k' t u number knows in
    let old : positions t 0 v.front ≡ v.mine = own_at k t v number b.1 in (
      u.front,
      (u, knows, refl),
      record {
        one = subst (λ es. IsPrefix es u.front) a.2 knows.known.met.1.0;
        two = subst (λ es. IsPrefix es u.front) b.2 knows.known.met.0;
        own = mine ∙ (sym old ∙ ap (positions t 0) b.2);
      },
    )

-- it has taken the other in
pub took_it : (x y : RunObject) (t n : ℕ) (other k k' : Access) (F : List Entry) → TakesIn other k k' → IsAccess x t k → IsAccess y n other → Shows other F → HasTaken k' n (positions n 0 F)
took_it x y t n other k k' F takes is theirs a z knows =
    let v = is.view in
    let w = theirs.view in
    let same_w : a.0 ≡ w = same_view other a.0 w a.1 theirs.seen in
    let front : F ≡ w.front = sym a.2 ∙ ap (λ (u : View State). u.front) same_w in
    let mine : positions n 0 F ≡ w.mine = ap (positions n 0) front ∙ own_at other n w theirs.thread theirs.seen in
    let gone : gone_of w.number w.mine ≡ gone_of n (positions n 0 F) = ap (λ m. gone_of m w.mine) theirs.thread ∙ ap (gone_of n) (sym mine) in
    let told : taken_in v w ≡ (v.taken ++ w.taken) ++ gone_of w.number w.mine ∷ [] = taken_is v w theirs.seen.counts ∙ sym (assoc v.taken w.taken (gone_of w.number w.mine ∷ [])) in
    let here : IsTaken (taken_in v w) n (positions n 0 F) = (
      length (v.taken ++ w.taken),
      subst (λ gs. slice_get gs (length (v.taken ++ w.taken)) ≡ Some (gone_of n (positions n 0 F))) (sym told) (slice_push (v.taken ++ w.taken) (gone_of w.number w.mine) ∙ ap (λ (g : Gone). Some g) gone),
    ) in
    subst (λ (u : View State). IsTaken u.taken n (positions n 0 F)) (same_view k' (both_of v w) z (takes.joined.sees v w is.seen theirs.seen) knows) here

-- and keeps those that it had taken in
pub took_more_of : (x y : RunObject) (t n u : ℕ) (other k k' : Access) (ps : List ℕ) → TakesIn other k k' → IsAccess x t k → IsAccess y n other → HasTaken k u ps → HasTaken k' u ps
took_more_of x y t n u other k k' ps takes is theirs taken z knows =
    let v = is.view in
    let w = theirs.view in
    let old = taken v is.seen in
    let here : IsTaken (taken_in v w) u ps = (old.0, subst (λ gs. slice_get gs old.0 ≡ Some (gone_of u ps)) (sym (taken_is v w theirs.seen.counts)) (more_of v.taken (w.taken ++ gone_of w.number w.mine ∷ []) old.0 (gone_of u ps) old.1)) in
    subst (λ (q : View State). IsTaken q.taken u ps) (same_view k' (both_of v w) z (takes.joined.sees v w is.seen theirs.seen) knows) here

pub took_split : (x y : RunObject) (t n m : ℕ) (other k k' : Access) → TakesIn other k k' → IsAccess x t k → IsAccess y n other → IsSplit k m → IsSplit k' m
took_split x y t n m other k k' takes is theirs split z knows =
    let v = is.view in
    let w = theirs.view in
    subst (λ (q : View State). q.splits ≡ m) (same_view k' (both_of v w) z (takes.joined.sees v w is.seen theirs.seen) knows) (split v is.seen)
