-- What all accesses of a thread show that have met another's, or have taken them in.
use Rattle.std.proofs.Common.{◌≡◌, ℕ, zero, suc, ◌<◌, List, [], ◌∷◌, ◌++◌, length, slice_get, Option, Some, None, refl, sym, ap, ◌∙◌, subst, arith}
use mathlib.Core.List.{IsPrefix}
use Rattle.cx_machine.specs.declared.kind.Entry.{Entry}
use Rattle.cx_fronts.specs.Positions.{positions}
use Rattle.cx_fronts.specs.Paths.{Fronts, Grows}
use Rattle.cx_kinds.specs.declared.access.Access.{Access}
use Rattle.cx_kinds.specs.Accesses.{RunObject}
use Rattle.cx_work.specs.Accesses.{IsAccess, Shows, AreAccesses, AreShown}
use Rattle.cx_run.specs.Handing.{IsSplit, IsBoth, IsAsBefore, HasMet, TakesIn, EachGoes, AllAsBefore, AllMet, AllTakeIn, HaveTaken}
use Rattle.cx_run.proofs.Meeting.{same_access, same_shows, same_has_taken, same_split, met_access, met, took_access, took, took_it, took_more_of, took_split}

below : {A : Type 0} (xs : List A) (o : ℕ) (x : A) → slice_get xs o ≡ Some x → o < length xs
below [] o x h = cc h
below (y ∷ xs) zero x h = omega arith
below (y ∷ xs) (suc o) x h = omega (arith, below xs o x h)

there : {A : Type 0} (xs : List A) (o : ℕ) → o < length xs → (x : A) × (slice_get xs o ≡ Some x)
there [] o h = absurd (omega (arith, h))
there (y ∷ xs) zero h = (y, refl)
there (y ∷ xs) (suc o) h = there xs o (omega (arith, h))

-- what stands at a place of a list as long
pub at_same : {A B : Type 0} (xs : List A) (ys : List B) (o : ℕ) (x : A) → length xs ≡ length ys → slice_get xs o ≡ Some x → (y : B) × (slice_get ys o ≡ Some y)
at_same xs ys o x long h = let low = below xs o x h in there ys o (omega (arith, low, long))

-- and nothing stands there where nothing does
pub none_same : {A B : Type 0} (xs : List A) (ys : List B) (o : ℕ) → length xs ≡ length ys → slice_get xs o ≡ None → slice_get ys o ≡ None
none_same [] [] o long h = refl
none_same [] (y ∷ ys) o long h = absurd (omega (arith, long))
none_same (x ∷ xs) [] o long h = refl
none_same (x ∷ xs) (y ∷ ys) zero long h = cc h
none_same (x ∷ xs) (y ∷ ys) (suc o) long h = none_same xs ys o (omega (arith, long)) h

accesses_go : (xs : List RunObject) (ks ks' : List Access) (P : ℕ → Access → Access → Type 0) (t : ℕ) → EachGoes ks ks' P → ((o : ℕ) (x : RunObject) (k k' : Access) → slice_get xs o ≡ Some x → slice_get ks o ≡ Some k → P o k k' → IsAccess x t k → IsAccess x t k') → AreAccesses xs t ks → AreAccesses xs t ks'
accesses_go xs ks ks' P t goes keeps are = record {
  count = goes.count ∙ are.count;
  each = λ o x k' at_x at_k. let k = at_same ks' ks o k' goes.count at_k in keeps o x k.0 k' at_x k.1 (goes.each o k.0 k' k.1 at_k) (are.each o x k.0 at_x k.1);
}

-- ---- accesses that go on as they were

pub same_accesses : (xs : List RunObject) (ks ks' : List Access) (t : ℕ) → AllAsBefore ks ks' → AreAccesses xs t ks → AreAccesses xs t ks'
same_accesses xs ks ks' t goes are = accesses_go xs ks ks' (λ o k k'. IsAsBefore k k') t goes (λ o x k k' at_x at p is. same_access x t k k' p is) are

pub same_shown : (ks ks' : List Access) (f : Fronts) → AllAsBefore ks ks' → AreShown ks f → AreShown ks' f
same_shown ks ks' f goes shown = record {
  each = λ o k' at_k. let k = at_same ks' ks o k' goes.count at_k in same_shows k.0 k' (f o) (goes.each o k.0 k' k.1 at_k) (shown.each o k.0 k.1);
  none = λ o beyond. shown.none o (none_same ks' ks o goes.count beyond);
}

pub same_taken : (xs : List RunObject) (ks ks' : List Access) (t u : ℕ) (f : Fronts) → AreAccesses xs t ks → AllAsBefore ks ks' → HaveTaken ks u f → HaveTaken ks' u f
same_taken xs ks ks' t u f are goes taken o k' at_k =
    let k = at_same ks' ks o k' goes.count at_k in
    let x = at_same ks xs o k.0 are.count k.1 in
    same_has_taken x.0 t u k.0 k' (positions u 0 (f o)) (are.each o x.0 k.0 x.1 k.1) (goes.each o k.0 k' k.1 at_k) (taken o k.0 k.1)

pub same_splits : (xs : List RunObject) (ks ks' : List Access) (t n : ℕ) → AreAccesses xs t ks → AllAsBefore ks ks' → ((o : ℕ) (k : Access) → slice_get ks o ≡ Some k → IsSplit k n) → (o : ℕ) (k : Access) → slice_get ks' o ≡ Some k → IsSplit k n
same_splits xs ks ks' t n are goes split o k' at_k =
    let k = at_same ks' ks o k' goes.count at_k in
    let x = at_same ks xs o k.0 are.count k.1 in
    same_split x.0 t n k.0 k' (are.each o x.0 k.0 x.1 k.1) (goes.each o k.0 k' k.1 at_k) (split o k.0 k.1)

-- ---- accesses that have met others

pub met_accesses : (xs : List RunObject) (others ks ks' : List Access) (t u : ℕ) → AreAccesses xs t others → AllMet others ks ks' → AreAccesses xs u ks → AreAccesses xs u ks'
met_accesses xs others ks ks' t u are goes mine =
    accesses_go xs ks ks' (λ o k k'. (other : Access) → slice_get others o ≡ Some other → HasMet other k k') u goes
    (λ o x k k' at_x at p is. let other = at_same ks others o k (mine.count ∙ sym are.count) at in met_access x x u t other.0 k k' (p other.0 other.1) (are.each o x other.0 at_x other.1) is)
    mine

both_nothing : (u : ℕ) (F H : List Entry) → F ≡ [] → H ≡ [] → IsBoth u F H []
both_nothing u F H no_F no_H = record {
  one = subst (λ es. IsPrefix es []) (sym no_F) ([], refl);
  two = subst (λ es. IsPrefix es []) (sym no_H) ([], refl);
  own = ap (positions u 0) (sym no_H);
}

-- what a front of one object is then
record Shown (ks : List Access) (o u : ℕ) (F H : List Entry) : Type 0 where
  G : List Entry
  each : (k : Access) → slice_get ks o ≡ Some k → Shows k G
  none : slice_get ks o ≡ None → G ≡ []
  both : IsBoth u F H G

is_one : {A : Type 0} (o : Option A) (x y : A) → o ≡ Some x → o ≡ Some y → x ≡ y
is_one o x y h k = let same : Some x ≡ Some y = sym h ∙ k in cc

pub record Meets (ks : List Access) (u : ℕ) (f h : Fronts) : Type 0 where
  pub g : Fronts
  pub shown : AreShown ks g
  pub both : (o : ℕ) → IsBoth u (f o) (h o) (g o)

-- fronts of all objects, by those of each
gathered : (ks : List Access) (u : ℕ) (f h : Fronts) → ((o : ℕ) → Shown ks o u (f o) (h o)) → Meets ks u f h
gathered ks u f h each_ = record {
  g = λ o. (each_ o).G;
  shown = record { each = λ o k. (each_ o).each k; none = λ o. (each_ o).none };
  both = λ o. (each_ o).both;
}

-- one front, where both have seen something, and where neither has
one_shown : (ks ks' : List Access) (o u : ℕ) (F H : List Entry) (k' : Access) → slice_get ks' o ≡ Some k' → (G : List Entry) × Shows k' G × IsBoth u F H G → Shown ks' o u F H
one_shown ks ks' o u F H k' at_k' seen = record {
  G = seen.0;
  each = λ l at_l. subst (λ (z : Access). Shows z seen.0) (is_one (slice_get ks' o) k' l at_k' at_l) seen.1;
  none = λ gone. cc (gone, at_k');
  both = seen.2;
}

none_shown : (ks' : List Access) (o u : ℕ) (F H : List Entry) → slice_get ks' o ≡ None → F ≡ [] → H ≡ [] → Shown ks' o u F H
none_shown ks' o u F H gone no_F no_H = record { G = []; each = λ k at_k. cc (gone, at_k); none = λ still. refl; both = both_nothing u F H no_F no_H }

pub met_shown : (xs : List RunObject) (others ks ks' : List Access) (t u : ℕ) (f h : Fronts) → AreAccesses xs t others → AreAccesses xs u ks → AllMet others ks ks' → AreShown others f → AreShown ks h → Meets ks' u f h
met_shown xs others ks ks' t u f h theirs mine goes shown_f shown_h = gathered ks' u f h (λ o. go o (slice_get ks o) refl)
  where
    go : (o : ℕ) (r : Option Access) → slice_get ks o ≡ r → Shown ks' o u (f o) (h o)
    go o None gone = none_shown ks' o u (f o) (h o) (none_same ks ks' o (sym goes.count) gone) (shown_f.none o (none_same ks others o (mine.count ∙ sym theirs.count) gone)) (shown_h.none o gone)
    go o (Some k) at_k =
        let x = at_same ks xs o k mine.count at_k in
        let other = at_same ks others o k (mine.count ∙ sym theirs.count) at_k in
        let k' = at_same ks ks' o k (sym goes.count) at_k in
        let m = goes.each o k k'.0 at_k k'.1 other.0 other.1 in
        one_shown ks ks' o u (f o) (h o) k'.0 k'.1 (met x.0 u other.0 k k'.0 (f o) (h o) m (mine.each o x.0 k x.1 at_k) (shown_f.each o other.0 other.1) (shown_h.each o k at_k))

-- ---- accesses that have taken others in

pub took_accesses : (xs : List RunObject) (others ks ks' : List Access) (t u : ℕ) → AreAccesses xs u others → AllTakeIn others ks ks' → AreAccesses xs t ks → AreAccesses xs t ks'
took_accesses xs others ks ks' t u theirs goes mine =
    accesses_go xs ks ks' (λ o k k'. (other : Access) → slice_get others o ≡ Some other → TakesIn other k k') t goes
    (λ o x k k' at_x at p is. let other = at_same ks others o k (mine.count ∙ sym theirs.count) at in took_access x x t u other.0 k k' (p other.0 other.1) (theirs.each o x other.0 at_x other.1) is)
    mine

pub took_shown : (xs : List RunObject) (others ks ks' : List Access) (t u : ℕ) (f h : Fronts) → AreAccesses xs u others → AreAccesses xs t ks → AllTakeIn others ks ks' → AreShown others f → AreShown ks h → Meets ks' t f h
took_shown xs others ks ks' t u f h theirs mine goes shown_f shown_h = gathered ks' t f h (λ o. go o (slice_get ks o) refl)
  where
    go : (o : ℕ) (r : Option Access) → slice_get ks o ≡ r → Shown ks' o t (f o) (h o)
    go o None gone = none_shown ks' o t (f o) (h o) (none_same ks ks' o (sym goes.count) gone) (shown_f.none o (none_same ks others o (mine.count ∙ sym theirs.count) gone)) (shown_h.none o gone)
    go o (Some k) at_k =
        let x = at_same ks xs o k mine.count at_k in
        let other = at_same ks others o k (mine.count ∙ sym theirs.count) at_k in
        let k' = at_same ks ks' o k (sym goes.count) at_k in
        let takes = goes.each o k k'.0 at_k k'.1 other.0 other.1 in
        one_shown ks ks' o t (f o) (h o) k'.0 k'.1 (took x.0 x.0 t u other.0 k k'.0 (f o) (h o) takes (mine.each o x.0 k x.1 at_k) (theirs.each o x.0 other.0 x.1 other.1) (shown_f.each o other.0 other.1) (shown_h.each o k at_k))

-- the others are then among those taken in
pub took_them : (xs : List RunObject) (others ks ks' : List Access) (t u : ℕ) (f : Fronts) → AreAccesses xs u others → AreAccesses xs t ks → AllTakeIn others ks ks' → AreShown others f → HaveTaken ks' u f
took_them xs others ks ks' t u f theirs mine goes shown_f o k' at_k =
    let k = at_same ks' ks o k' goes.count at_k in
    let x = at_same ks xs o k.0 mine.count k.1 in
    let other = at_same xs others o x.0 (sym theirs.count) x.1 in
    took_it x.0 x.0 t u other.0 k.0 k' (f o) (goes.each o k.0 k' k.1 at_k other.0 other.1) (mine.each o x.0 k.0 x.1 k.1) (theirs.each o x.0 other.0 x.1 other.1) (shown_f.each o other.0 other.1)

pub took_more : (xs : List RunObject) (others ks ks' : List Access) (t u v : ℕ) (f : Fronts) → AreAccesses xs u others → AreAccesses xs t ks → AllTakeIn others ks ks' → HaveTaken ks v f → HaveTaken ks' v f
took_more xs others ks ks' t u v f theirs mine goes taken o k' at_k =
    let k = at_same ks' ks o k' goes.count at_k in
    let x = at_same ks xs o k.0 mine.count k.1 in
    let other = at_same xs others o x.0 (sym theirs.count) x.1 in
    took_more_of x.0 x.0 t u v other.0 k.0 k' (positions v 0 (f o)) (goes.each o k.0 k' k.1 at_k other.0 other.1) (mine.each o x.0 k.0 x.1 k.1) (theirs.each o x.0 other.0 x.1 other.1) (taken o k.0 k.1)

pub took_splits : (xs : List RunObject) (others ks ks' : List Access) (t u n : ℕ) → AreAccesses xs u others → AreAccesses xs t ks → AllTakeIn others ks ks' → ((o : ℕ) (k : Access) → slice_get ks o ≡ Some k → IsSplit k n) → (o : ℕ) (k : Access) → slice_get ks' o ≡ Some k → IsSplit k n
took_splits xs others ks ks' t u n theirs mine goes split o k' at_k =
    let k = at_same ks' ks o k' goes.count at_k in
    let x = at_same ks xs o k.0 mine.count k.1 in
    let other = at_same xs others o x.0 (sym theirs.count) x.1 in
    took_split x.0 x.0 t u n other.0 k.0 k' (goes.each o k.0 k' k.1 at_k other.0 other.1) (mine.each o x.0 k.0 x.1 k.1) (theirs.each o x.0 other.0 x.1 other.1) (split o k.0 k.1)

-- ---- what they show grows

pub same_later : (ks ks' : List Access) (f : Fronts) → AllAsBefore ks ks' → AreShown ks f → (g : Fronts) × AreShown ks' g × Grows f g
same_later ks ks' f goes shown = (f, same_shown ks ks' f goes shown, λ o. ([], append_none (f o)))
  where
    append_none : (es : List Entry) → es ++ [] ≡ es
    append_none [] = refl
    append_none (e ∷ es) = ap (λ hs. e ∷ hs) (append_none es)

pub took_later : (xs : List RunObject) (others ks ks' : List Access) (t u : ℕ) (f h : Fronts) → AreAccesses xs u others → AreAccesses xs t ks → AllTakeIn others ks ks' → AreShown others f → AreShown ks h → (g : Fronts) × AreShown ks' g × Grows h g
took_later xs others ks ks' t u f h theirs mine goes shown_f shown_h = let m = took_shown xs others ks ks' t u f h theirs mine goes shown_f shown_h in (m.g, m.shown, λ o. (m.both o).two)
