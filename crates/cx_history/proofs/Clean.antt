-- A record that is legal and follows its text has no flaw.
use Rattle.std.proofs.Common.{◌≡◌, ℕ, zero, suc, ◌+◌, ◌<◌, ◌≤◌, ◌&&◌, Bool, true, false, IsTrue, IsSome, List, [], ◌∷◌, length, filter, Option, Some, None, option_and_then, option_map, slice_get, nat_le, not, if◌then◌else◌, refl, sym, ap, ◌∙◌, subst, arith, eqb-true, eq-eqb, leb-true, leb-false, cond}
use Rattle.cx_machine.specs.Machine.{State, run, step, opening}
use Rattle.cx_scene.specs.declared.declared.Object.{Object}
use Rattle.cx_scene.specs.Scene.{Scene, kind_of}
use Rattle.cx_items.specs.declared.item.Item.{Item}
use Rattle.cx_items.specs.Next.{Local, after_item, is_ended, local_at_start}
use Rattle.cx_history.specs.declared.flaw.Flaw.{Flaw}
use Rattle.cx_history.specs.declared.flaw.Cause.{Cause}
use Rattle.cx_history.specs.declared.flaw.Cause.TheVariants as causes
use Rattle.cx_history.specs.Histories.{Recorded, Placed, items_of, item_at, put_in, in_order, entries, is_at, changes_of, sequence, place, owed}
use Rattle.cx_history.specs.Legal.{LegalRecord, EachItem, is_shown, is_at_least}
use Rattle.cx_history.specs.Follows.{Follows, after_items, is_whole, list_follows, completes, has_started}
use Rattle.cx_history.specs.Flaw.{flaw, or_flaw, stop_at, text_flaw, text_flaw_from, placed_flaw, gap_from, bad_step_from, gap_of, bad_step_of, first_of_objects, first_in, first_of_items, first_flaw}
use Rattle.cx_history.proofs.Sound.{length-in_order, count_at, count_at-cons, count_at-in_order}

-- ---- none of two

none_of_both : (f g : Option Flaw) → f ≡ None → g ≡ None → or_flaw f g ≡ None
none_of_both None g e h = h
none_of_both (Some x) g e h = cc

map_none : {X Y : Type 0} (f : X → Y) (o : Option X) → o ≡ None → option_map f o ≡ None
map_none f None h = refl
map_none f (Some x) h = cc

-- ---- items

first_in-clean : (cause : Cause) (good : ℕ → ℕ → Item → Bool) (t i : ℕ) (xs : List Item) → ((j : ℕ) (x : Item) → slice_get xs j ≡ Some x → good t (i + j) x ≡ true) → first_in cause good t i xs ≡ None
first_in-clean cause good t i [] h = refl
first_in-clean cause good t i (y ∷ ys) h =
    let start : i + 0 ≡ i = omega arith in
    let here : good t i y ≡ true = subst (λ n. good t n y ≡ true) start (h 0 y refl) in
    let rest : first_in cause good t (i + 1) ys ≡ None = first_in-clean cause good t (i + 1) ys (λ j x e. later j x e) in
    rw here rest
  where
    later : (j : ℕ) (x : Item) → slice_get ys j ≡ Some x → good t ((i + 1) + j) x ≡ true
    later j x e = let same : i + suc j ≡ (i + 1) + j = omega arith in subst (λ n. good t n x ≡ true) same (h (suc j) x e)

first_of_items-clean : (cause : Cause) (good : ℕ → ℕ → Item → Bool) (t : ℕ) (ls : List (Option (List Item))) → ((u : ℕ) (l : Option (List Item)) → slice_get ls u ≡ Some l → first_in cause good (t + u) 0 (items_of l) ≡ None)
    → first_of_items cause good t ls ≡ None
first_of_items-clean cause good t [] h = refl
first_of_items-clean cause good t (k ∷ ks) h =
    let start : t + 0 ≡ t = omega arith in
    none_of_both (first_in cause good t 0 (items_of k)) (first_of_items cause good (t + 1) ks)
    (subst (λ n. first_in cause good n 0 (items_of k) ≡ None) start (h 0 k refl))
    (first_of_items-clean cause good (t + 1) ks (λ u l e. later u l e))
  where
    later : (u : ℕ) (l : Option (List Item)) → slice_get ks u ≡ Some l → first_in cause good ((t + 1) + u) 0 (items_of l) ≡ None
    later u l e = let same : t + suc u ≡ (t + 1) + u = omega arith in subst (λ n. first_in cause good n 0 (items_of l) ≡ None) same (h (suc u) l e)

each_clean : (cause : Cause) (good : ℕ → ℕ → Item → Bool) (r : Recorded) → EachItem r (λ t i x. IsTrue (good t i x)) → first_of_items cause good 0 r.lists ≡ None
each_clean cause good r h = first_of_items-clean cause good 0 r.lists (λ u l e. of_list u l e)
  where
    of_item : (u j : ℕ) (l : Option (List Item)) (x : Item) → slice_get r.lists u ≡ Some l → slice_get (items_of l) j ≡ Some x → good u j x ≡ true
    of_item u j l x e k = h u j x (subst (λ (o : Option (Option (List Item))). slice_get (items_of (option_and_then (λ m. m) o)) j ≡ Some x) (sym e) k)

    of_list : (u : ℕ) (l : Option (List Item)) → slice_get r.lists u ≡ Some l → first_in cause good (0 + u) 0 (items_of l) ≡ None
    of_list u l e =
        let same : u ≡ 0 + u = omega arith in
        first_in-clean cause good (0 + u) 0 (items_of l) (λ j x k. (let there : j ≡ 0 + j = omega arith in subst (λ n. good n (0 + j) x ≡ true) same (subst (λ n. good u n x ≡ true) there (of_item u j l x e k))))

-- ---- objects

first_of_objects-clean : (f : ℕ → Object → Option Flaw) (o : ℕ) (ds : List Object) → ((j : ℕ) (d : Object) → slice_get ds j ≡ Some d → f (o + j) d ≡ None) → first_of_objects f o ds ≡ None
first_of_objects-clean f o [] h = refl
first_of_objects-clean f o (c ∷ cs) h =
    let start : o + 0 ≡ o = omega arith in
    none_of_both (f o c) (first_of_objects f (o + 1) cs) (subst (λ n. f n c ≡ None) start (h 0 c refl)) (first_of_objects-clean f (o + 1) cs (λ j d e. later j d e))
  where
    later : (j : ℕ) (d : Object) → slice_get cs j ≡ Some d → f ((o + 1) + j) d ≡ None
    later j d e = let same : o + suc j ≡ (o + 1) + j = omega arith in subst (λ n. f n d ≡ None) same (h (suc j) d e)

objects_clean : (f : ℕ → Object → Option Flaw) (ds : List Object) → ((o : ℕ) (d : Object) → slice_get ds o ≡ Some d → f o d ≡ None) → first_of_objects f 0 ds ≡ None
objects_clean f ds h = first_of_objects-clean f 0 ds (λ j d e. (let same : j ≡ 0 + j = omega arith in subst (λ n. f n d ≡ None) same (h j d e)))

-- ---- steps

bad_step-clean : (state : State) (cs : List Placed) → IsSome (run state (entries cs)) → bad_step_from state cs ≡ None
bad_step-clean state [] h = refl
bad_step-clean state (c ∷ cs) h = go (step state c.entry) h (λ next. bad_step-clean next cs)
  where
    go : (o : Option State) → IsSome (option_and_then (λ t. run t (entries cs)) o) → ((next : State) → IsSome (run next (entries cs)) → bad_step_from next cs ≡ None)
        → (let w : Option Placed = elim o [ None ↦ Some c | Some next ↦ bad_step_from next cs ] in w ≡ None)
    go None k ih = cc
    go (Some next) k ih = ih next k

-- ---- gaps: changes in order of position, all from some position on

abbrev AllFrom : ℕ → List Placed → Type 0
AllFrom k [] = Unit {0}
AllFrom k (c ∷ cs) = (k ≤ c.position) × AllFrom k cs

abbrev IsSorted : List Placed → Type 0
IsSorted [] = Unit {0}
IsSorted (c ∷ cs) = AllFrom c.position cs × IsSorted cs

from_lower : (j k : ℕ) (cs : List Placed) → j ≤ k → AllFrom k cs → AllFrom j cs
from_lower j k [] h a = tt
from_lower j k (c ∷ cs) h a = let low : k ≤ c.position = a.0 in (omega arith, from_lower j k cs h a.1)

from_zero : (cs : List Placed) → AllFrom 0 cs
from_zero [] = tt
from_zero (c ∷ cs) = (omega arith, from_zero cs)

put_in-from : (k : ℕ) (c : Placed) (ds : List Placed) → k ≤ c.position → AllFrom k ds → AllFrom k (put_in c ds)
put_in-from k c [] h a = (h, tt)
put_in-from k c (d ∷ ds) h a = go (nat_le c.position d.position) (put_in-from k c ds h a.1)
  where
    go : (b : Bool) → AllFrom k (put_in c ds) → AllFrom k (if b then c ∷ d ∷ ds else d ∷ put_in c ds)
    go true ih = (h, a)
    go false ih = (a.0, ih)

put_in-sorted : (c : Placed) (ds : List Placed) → IsSorted ds → IsSorted (put_in c ds)
put_in-sorted c [] s = (tt, tt)
put_in-sorted c (d ∷ ds) s = go (nat_le c.position d.position) refl (put_in-sorted c ds s.1)
  where
    go : (b : Bool) → nat_le c.position d.position ≡ b → IsSorted (put_in c ds) → IsSorted (if b then c ∷ d ∷ ds else d ∷ put_in c ds)
    go true e ih = let low : c.position ≤ d.position = leb-true c.position d.position e in ((low, from_lower c.position d.position ds low s.0), s)
    go false e ih = let less : d.position < c.position = leb-false c.position d.position e in let low : d.position ≤ c.position = omega arith in (put_in-from d.position c ds low s.0, ih)

in_order-sorted : (cs : List Placed) → IsSorted (in_order cs)
in_order-sorted [] = tt
in_order-sorted (c ∷ cs) = put_in-sorted c (in_order cs) (in_order-sorted cs)

none_at : (k : ℕ) (cs : List Placed) → AllFrom (k + 1) cs → count_at k cs ≡ 0
unfolding count_at
none_at k [] a = refl
none_at k (c ∷ cs) a = go (is_at k c) refl (none_at k cs a.1)
  where
    go : (b : Bool) → is_at k c ≡ b → count_at k cs ≡ 0 → count_at k (c ∷ cs) ≡ 0
    go true e ih = let here : c.position ≡ k = eqb-true c.position k e in let low : k + 1 ≤ c.position = a.0 in absurd (omega arith)
    go false e ih = let zero_ : 0 + count_at k cs ≡ 0 = omega (arith, ih) in count_at-cons k c cs ∙ rw e zero_

all_later : (k : ℕ) (cs : List Placed) → AllFrom k cs → count_at k cs ≡ 0 → AllFrom (k + 1) cs
all_later k [] a h = tt
all_later k (c ∷ cs) a h = go (is_at k c) refl (sym (count_at-cons k c cs) ∙ h) (λ none. all_later k cs a.1 none)
  where
    go : (b : Bool) → is_at k c ≡ b → cond (is_at k c) 1 0 + count_at k cs ≡ 0 → (count_at k cs ≡ 0 → AllFrom (k + 1) cs) → AllFrom (k + 1) (c ∷ cs)
    go true e z ih = absurd (let bad : 1 + count_at k cs ≡ 0 = rw e at z in omega arith)
    go false e z ih =
        let rest : 0 + count_at k cs ≡ 0 = rw e at z in
        let none : count_at k cs ≡ 0 = omega arith in
        let away : c.position ≡ k → ⊥ = λ same. let yes_ : is_at k c ≡ true = eq-eqb c.position k same in cc in
        let low : k ≤ c.position = a.0 in
        (omega arith, ih none)

gap-clean : (k : ℕ) (cs : List Placed) → IsSorted cs → AllFrom k cs → ((j : ℕ) → k ≤ j → j < k + length cs → count_at j cs ≡ 1) → gap_from k cs ≡ None
gap-clean k [] s a once = refl
gap-clean k (c ∷ cs) s a once = go (is_at k c) refl (λ all others. gap-clean (k + 1) cs s.1 all others)
  where
    here : cond (is_at k c) 1 0 + count_at k cs ≡ 1
    here = sym (count_at-cons k c cs) ∙ once k (omega arith) (omega arith)

    later : is_at k c ≡ true → (j : ℕ) → k + 1 ≤ j → j < (k + 1) + length cs → count_at j cs ≡ 1
    later e j low high =
        let at : c.position ≡ k = eqb-true c.position k e in
        let all : cond (is_at j c) 1 0 + count_at j cs ≡ 1 = sym (count_at-cons j c cs) ∙ once j (omega arith) (omega arith) in
        of_other (is_at j c) refl all at
      where
        of_other : (b : Bool) → is_at j c ≡ b → cond b 1 0 + count_at j cs ≡ 1 → c.position ≡ k → count_at j cs ≡ 1
        of_other true f z at = let same : c.position ≡ j = eqb-true c.position j f in absurd (omega arith)
        of_other false f z at = omega arith

    go : (b : Bool) → is_at k c ≡ b → (AllFrom (k + 1) cs → ((j : ℕ) → k + 1 ≤ j → j < (k + 1) + length cs → count_at j cs ≡ 1) → gap_from (k + 1) cs ≡ None)
        → (if is_at k c then gap_from (k + 1) cs else Some c) ≡ None
    go true e ih =
        let one : 1 + count_at k cs ≡ 1 = rw e at here in
        let none : count_at k cs ≡ 0 = omega arith in
        rw e (ih (all_later k cs a.1 none) (later e))
    go false e ih =
        let one : 0 + count_at k cs ≡ 1 = rw e at here in
        let away : c.position ≡ k → ⊥ = λ same. let yes_ : is_at k c ≡ true = eq-eqb c.position k same in cc in
        let low : k ≤ c.position = a.0 in
        let high : k + 1 ≤ c.position = omega arith in
        let none : count_at k cs ≡ 0 = none_at k cs (from_lower (k + 1) c.position cs high s.0) in
        absurd (omega arith)

gapless-clean : (cs : List Placed) → ((k : ℕ) → k < length cs → length (filter (is_at k) cs) ≡ 1) → gap_from 0 (in_order cs) ≡ None
unfolding count_at
gapless-clean cs h = gap-clean 0 (in_order cs) (in_order-sorted cs) (from_zero (in_order cs)) (λ j low high. (let many : length (in_order cs) ≡ length cs = length-in_order cs in let room : j < length cs = omega arith in count_at-in_order j cs ∙ h j room))

-- ---- the text

stop-clean : (s : Scene) (leaves_completing : ℕ → ℕ → Bool) (t i : ℕ) (l : Local) (xs : List Item) → is_whole (after_items s leaves_completing t l xs) ≡ true → stop_at s leaves_completing t i l xs ≡ None
stop-clean s leaves_completing t i l [] h = rw h refl
stop-clean s leaves_completing t i l (x ∷ xs) h = go (after_item s leaves_completing t l x) h (λ k. stop-clean s leaves_completing t (i + 1) k xs)
  where
    go : (o : Option Local) → is_whole (option_and_then (λ k. after_items s leaves_completing t k xs) o) ≡ true
        → ((k : Local) → is_whole (after_items s leaves_completing t k xs) ≡ true → stop_at s leaves_completing t (i + 1) k xs ≡ None)
        → (let w : Option ℕ = elim o [ None ↦ Some i | Some k ↦ stop_at s leaves_completing t (i + 1) k xs ] in w ≡ None)
    go None k ih = cc
    go (Some next) k ih = ih next k

both_true : (a b : Bool) → a && b ≡ true → (a ≡ true) × (b ≡ true)
both_true true b h = (refl, h)
both_true false b h = cc

text-clean : (s : Scene) (r : Recorded) (t : ℕ) (l : Option (List Item)) → list_follows s r t l ≡ true → text_flaw s r t l ≡ None
text-clean s r t None h = go (has_started r t) h
  where
    go : (b : Bool) → not b ≡ true → (if b then Some (flaw causes.Text t 0) else None) ≡ None
    go true k = cc
    go false k = refl
text-clean s r t (Some xs) h =
    let p = both_true (has_started r t) (is_whole (after_items s (completes s r) t (local_at_start s t) xs)) h in
    let stops : stop_at s (completes s r) t 0 (local_at_start s t) xs ≡ None = stop-clean s (completes s r) t 0 (local_at_start s t) xs p.1 in
    rw p.0 (map_none (flaw causes.Text t) (stop_at s (completes s r) t 0 (local_at_start s t) xs) stops)

text_from-clean : (s : Scene) (r : Recorded) (t : ℕ) (ls : List (Option (List Item))) → ((u : ℕ) (l : Option (List Item)) → slice_get ls u ≡ Some l → list_follows s r (t + u) l ≡ true) → text_flaw_from s r t ls ≡ None
text_from-clean s r t [] h = refl
text_from-clean s r t (k ∷ ks) h =
    let start : t + 0 ≡ t = omega arith in
    none_of_both (text_flaw s r t k) (text_flaw_from s r (t + 1) ks) (text-clean s r t k (subst (λ n. list_follows s r n k ≡ true) start (h 0 k refl))) (text_from-clean s r (t + 1) ks (λ u l e. later u l e))
  where
    later : (u : ℕ) (l : Option (List Item)) → slice_get ks u ≡ Some l → list_follows s r ((t + 1) + u) l ≡ true
    later u l e = let same : t + suc u ≡ (t + 1) + u = omega arith in subst (λ n. list_follows s r n l ≡ true) same (h (suc u) l e)

-- ---- the record

pub clean : (s : Scene) (r : Recorded) → LegalRecord s r → Follows s r → first_flaw s r ≡ None
clean s r legal follows =
    let shown_ = first_of_items causes.Shown (λ t i x. is_shown s r x) 0 r.lists in
    let fell = first_of_items causes.Fell (λ t i x. is_at_least (place r t i) x) 0 r.lists in
    let order = first_of_items causes.Order (λ t i x. is_at_least (owed r t i) x) 0 r.lists in
    let text = text_flaw_from s r 0 r.lists in
    let gap = first_of_objects (gap_of r) 0 s.objects in
    let bad = first_of_objects (bad_step_of r) 0 s.objects in
    none_of_both text (or_flaw gap (or_flaw bad (or_flaw shown_ (or_flaw fell order))))
    (text_from-clean s r 0 r.lists (λ u l e. (let same : u ≡ 0 + u = omega arith in subst (λ n. list_follows s r n l ≡ true) same (follows.each u l e))))
    (none_of_both gap (or_flaw bad (or_flaw shown_ (or_flaw fell order)))
    (objects_clean (gap_of r) s.objects (λ o d e. map_none (placed_flaw causes.Gap) (gap_from 0 (sequence r o)) (gapless-clean (changes_of r o) (legal.gapless o d e))))
    (none_of_both bad (or_flaw shown_ (or_flaw fell order))
    (objects_clean (bad_step_of r) s.objects (λ o d e. map_none (placed_flaw causes.Step) (bad_step_from (opening (kind_of d)) (sequence r o)) (bad_step-clean (opening (kind_of d)) (sequence r o) (legal.stepwise o d e))))
    (none_of_both shown_ (or_flaw fell order) (each_clean causes.Shown (λ t i x. is_shown s r x) r legal.shown)
    (none_of_both fell order (each_clean causes.Fell (λ t i x. is_at_least (place r t i) x) r legal.never_falling)
    (each_clean causes.Order (λ t i x. is_at_least (owed r t i) x) r legal.ordered)))))
