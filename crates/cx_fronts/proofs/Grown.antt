-- One item more, a start, a join, and the end of a run.
use Rattle.std.proofs.Common.{◌≡◌, ◌≢◌, ℕ, ◌≤◌, ◌==◌, ◌||◌, Bool, true, false, IsTrue, List, [], ◌∷◌, ◌++◌, length, Some, slice_get, if◌then◌else◌, refl, sym, ap, ◌∙◌, subst, arith, eqb-true, eq-eqb}
use Rattle.std.proofs.lemmas.Bool.{eqb-false}
use mathlib.Core.List.{IsPrefix}
use Rattle.cx_names.specs.declared.ObjectNo.{ObjectNo}
use Rattle.cx_names.specs.declared.ThreadNo.{ThreadNo}
use Rattle.cx_names.specs.declared.Reply.{Reply}
use Rattle.cx_machine.specs.declared.kind.Entry.{Entry}
use Rattle.cx_machine.specs.declared.kind.Look.{Look}
use Rattle.cx_machine.specs.Machine.{IsLegal}
use Rattle.cx_scene.specs.declared.declared.Object.{Object}
use Rattle.cx_scene.specs.Scene.{Scene, kind_of}
use Rattle.cx_items.specs.declared.item.Control.{Control}
use Rattle.cx_items.specs.declared.item.Control.TheVariants as controls
use Rattle.cx_items.specs.declared.item.Item.{Item}
use Rattle.cx_items.specs.declared.item.Item.TheVariants as items
use Rattle.cx_history.specs.Histories.{Recorded, list_of}
use Rattle.cx_history.specs.Follows.{starts, any_starts}
use Rattle.cx_fronts.specs.Positions.{positions}
use Rattle.cx_fronts.specs.Paths.{Fronts, Grows, nothing, put, none_own, position_on, shown_in, Handed, Seen, Moved, Goes, Path}
use Rattle.cx_fronts.specs.Growing.{with_thread, joins, any_joins}
use Rattle.cx_fronts.specs.Mains.{Finished}
use Rattle.cx_fronts.specs.Runs.{FromPasses}
use Rattle.cx_fronts.proofs.Lists.{prefix_refl, prefix_trans, prefix_length}
use Rattle.cx_fronts.proofs.Heart.{stays, no_more}

-- ---- composing

moved-trans : (t : ℕ) (f g h : Fronts) (own : ℕ → List ℕ) → Moved t f g own → Moved t g h none_own → Moved t f h own
moved-trans t f g h own a b = record {
  grows = λ o. prefix_trans (f o) (a.grows o) (b.grows o);
  mine = λ o. b.mine o ∙ (no_more (positions t 0 (g o)) ∙ a.mine o);
}

moved-before : (t : ℕ) (f g h : Fronts) (own : ℕ → List ℕ) → Moved t f g none_own → Moved t g h own → Moved t f h own
moved-before t f g h own a b = record {
  grows = λ o. prefix_trans (f o) (a.grows o) (b.grows o);
  mine = λ o. b.mine o ∙ ap (λ ns. ns ++ own o) (a.mine o ∙ no_more (positions t 0 (f o)));
}

handed-before : (first last : ℕ → Fronts) (f g h : Fronts) (c : Control) → Grows f g → Handed first last g h c → Handed first last f h c
handed-before first last f g h (controls.Start u true) a b = λ o. prefix_trans (f o) (a o) (b o)
handed-before first last f g h (controls.Start u false) a b = tt
handed-before first last f g h (controls.Launch u true) a b = λ o. prefix_trans (f o) (a o) (b o)
handed-before first last f g h (controls.Launch u false) a b = tt
handed-before first last f g h (controls.Join u) a b = b

seen-before : (s : Scene) (first last : ℕ → Fronts) (t : ℕ) (f g h : Fronts) (x : Item) → Grows f g → Seen s first last t g h x → Seen s first last t f h x
seen-before s first last t f g h (items.Change q p e) a b = record { from = omega (arith, b.from, prefix_length (f q.0) (a q.0)); there = b.there }
seen-before s first last t f g h (items.Look q l) a b = record { own = b.own; from = omega (arith, b.from, prefix_length (f q.0) (a q.0)); to = b.to; shows = b.shows }
seen-before s first last t f g h (items.Control c) a b = handed-before first last f g h c a b
seen-before s first last t f g h (items.Said w) a b = tt

pub path-before : (s : Scene) (first last : ℕ → Fronts) (t : ℕ) (f g h : Fronts) (ys : List Item) → Moved t f g none_own → Path s first last t g ys h → Path s first last t f ys h
path-before s first last t f g h [] a p = moved-trans t f g h none_own a p
path-before s first last t f g h (y ∷ ys) a p = (p.0, record { moved = moved-before t f g p.0 (λ o. position_on o y) a p.1.moved; seen = seen-before s first last t f g p.0 y a.grows p.1.seen }, p.2)

pub paths_compose : (s : Scene) (first last : ℕ → Fronts) (t : ℕ) (f g h : Fronts) (xs ys : List Item) → Path s first last t f xs g → Path s first last t g ys h → Path s first last t f (xs ++ ys) h
paths_compose s first last t f g h [] ys p p' = path-before s first last t f g h ys p p'
paths_compose s first last t f g h (x ∷ xs) ys p p' = (p.0, p.1, paths_compose s first last t p.0 g h xs ys p.2 p')

pub paths_drift : (s : Scene) (first last : ℕ → Fronts) (t : ℕ) (f g h : Fronts) (xs : List Item) → Path s first last t f xs g → Moved t g h none_own → Path s first last t f xs h
paths_drift s first last t f g h [] p m = moved-trans t f g h none_own p m
paths_drift s first last t f g h (x ∷ xs) p m = (p.0, p.1, paths_drift s first last t p.0 g h xs p.2 m)

pub one_more : (s : Scene) (first last : ℕ → Fronts) (t : ℕ) (f g h : Fronts) (xs : List Item) (x : Item) → Path s first last t f xs g → Goes s first last t g h x → Path s first last t f (xs ++ x ∷ []) h
one_more s first last t f g h xs x p a = paths_compose s first last t f g h xs (x ∷ []) p (h, a, stays t h)

-- ---- an act

pub put-moved : (t : ℕ) (g : Fronts) (q : ℕ) (F : List Entry) (own : ℕ → List ℕ) → IsPrefix (g q) F → positions t 0 F ≡ positions t 0 (g q) ++ own q → ((o : ℕ) → (q == o) ≡ false → own o ≡ []) → Moved t g (put g q F) own
put-moved t g q F own begins mine_ elsewhere = record { grows = λ o. grows_ o (q == o) refl; mine = λ o. same o (q == o) refl }
  where
    grows_ : (o : ℕ) (b : Bool) → (q == o) ≡ b → IsPrefix (g o) (if b then F else g o)
    grows_ o true k = subst (λ n. IsPrefix (g n) F) (eqb-true q o k) begins
    grows_ o false k = prefix_refl (g o)

    same : (o : ℕ) (b : Bool) → (q == o) ≡ b → positions t 0 (if b then F else g o) ≡ positions t 0 (g o) ++ own o
    same o true k = subst (λ n. positions t 0 F ≡ positions t 0 (g n) ++ own n) (eqb-true q o k) mine_
    same o false k = sym (ap (λ ns. positions t 0 (g o) ++ ns) (elsewhere o k) ∙ no_more (positions t 0 (g o)))

pub put-there : (g : Fronts) (q : ℕ) (F : List Entry) → put g q F q ≡ F
put-there g q F = let same : (q == q) ≡ true = eq-eqb q q refl in rw same refl

pub change_goes : (s : Scene) (first last : ℕ → Fronts) (t : ℕ) (f : Fronts) (q : ObjectNo) (F : List Entry) (n : ℕ) (e : Entry) → IsPrefix (f q.0) F → length (f q.0) ≤ n → slice_get F n ≡ Some e → positions t 0 F ≡ positions t 0 (f q.0) ++ n ∷ [] → Goes s first last t f (put f q.0 F) (items.Change q n e)
change_goes s first last t f q F n e begins from_ there_ mine_ =
    let here : position_on q.0 (items.Change q n e) ≡ n ∷ [] = (let same : (q.0 == q.0) ≡ true = eq-eqb q.0 q.0 refl in rw same refl) in
    record {
      moved = put-moved t f q.0 F (λ o. position_on o (items.Change q n e)) begins (mine_ ∙ ap (λ ns. positions t 0 (f q.0) ++ ns) (sym here)) (λ o k. rw k refl);
      seen = record { from = from_; there = subst (λ es. slice_get es n ≡ Some e) (sym (put-there f q.0 F)) there_ };
    }

pub look_goes : (s : Scene) (first last : ℕ → Fronts) (t : ℕ) (f : Fronts) (q : ObjectNo) (F : List Entry) (l : Look) → l.by.0 ≡ t → IsPrefix (f q.0) F → length (f q.0) ≤ l.at → l.at ≤ length F → IsTrue (shown_in s F q l) → positions t 0 F ≡ positions t 0 (f q.0) → Goes s first last t f (put f q.0 F) (items.Look q l)
look_goes s first last t f q F l own_ begins from_ to_ shows_ mine_ = record {
  moved = put-moved t f q.0 F (λ o. []) begins (mine_ ∙ sym (no_more (positions t 0 (f q.0)))) (λ o k. refl);
  seen = record {
    own = own_;
    from = from_;
    to = subst (λ es. l.at ≤ length es) (sym (put-there f q.0 F)) to_;
    shows = subst (λ es. shown_in s es q l ≡ true) (sym (put-there f q.0 F)) shows_;
  };
}

pub reply_goes : (s : Scene) (first last : ℕ → Fronts) (t : ℕ) (f : Fronts) (r : Reply) → Goes s first last t f f (items.Said r)
reply_goes s first last t f r = record { moved = stays t f; seen = tt }

-- ---- starts and joins

or-false : (a b : Bool) → (a || b) ≡ false → (a ≡ false) × (b ≡ false)
or-false true b h = cc
or-false false b h = (refl, h)

pub with-other : (fs : ℕ → Fronts) (u v : ℕ) (h : Fronts) → (v == u) ≡ false → with_thread fs u h v ≡ fs v
with-other fs u v h k = rw k refl

with-same : (fs : ℕ → Fronts) (u : ℕ) (h : Fronts) → with_thread fs u h u ≡ h
with-same fs u h = let same : (u == u) ≡ true = eq-eqb u u refl in rw same refl

seen-first : (s : Scene) (first last : ℕ → Fronts) (t : ℕ) (f g : Fronts) (x : Item) (u : ℕ) (h : Fronts) → starts u x ≡ false → Seen s first last t f g x → Seen s (with_thread first u h) last t f g x
seen-first s first last t f g (items.Change q p e) u h k a = record { from = a.from; there = a.there }
seen-first s first last t f g (items.Look q l) u h k a = record { own = a.own; from = a.from; to = a.to; shows = a.shows }
seen-first s first last t f g (items.Said w) u h k a = tt
seen-first s first last t f g (items.Control (controls.Start v true)) u h k a = subst (λ w. Grows f w) (sym (with-other first u v.0 h k)) a
seen-first s first last t f g (items.Control (controls.Start v false)) u h k a = tt
seen-first s first last t f g (items.Control (controls.Launch v true)) u h k a = subst (λ w. Grows f w) (sym (with-other first u v.0 h k)) a
seen-first s first last t f g (items.Control (controls.Launch v false)) u h k a = tt
seen-first s first last t f g (items.Control (controls.Join v)) u h k a = a

pub path-first : (s : Scene) (first last : ℕ → Fronts) (t : ℕ) (f g : Fronts) (xs : List Item) (u : ℕ) (h : Fronts) → any_starts u xs ≡ false → Path s first last t f xs g → Path s (with_thread first u h) last t f xs g
path-first s first last t f g [] u h k p = p
path-first s first last t f g (x ∷ xs) u h k p =
    let q = or-false (starts u x) (any_starts u xs) k in
    (p.0, record { moved = p.1.moved; seen = seen-first s first last t f p.0 x u h q.0 p.1.seen }, path-first s first last t p.0 g xs u h q.1 p.2)

seen-last : (s : Scene) (first last : ℕ → Fronts) (t : ℕ) (f g : Fronts) (x : Item) (u : ℕ) (h : Fronts) → joins u x ≡ false → Seen s first last t f g x → Seen s first (with_thread last u h) t f g x
seen-last s first last t f g (items.Change q p e) u h k a = record { from = a.from; there = a.there }
seen-last s first last t f g (items.Look q l) u h k a = record { own = a.own; from = a.from; to = a.to; shows = a.shows }
seen-last s first last t f g (items.Said w) u h k a = tt
seen-last s first last t f g (items.Control (controls.Start v true)) u h k a = a
seen-last s first last t f g (items.Control (controls.Start v false)) u h k a = tt
seen-last s first last t f g (items.Control (controls.Launch v true)) u h k a = a
seen-last s first last t f g (items.Control (controls.Launch v false)) u h k a = tt
seen-last s first last t f g (items.Control (controls.Join v)) u h k a = subst (λ w. Grows w g) (sym (with-other last u v.0 h k)) a

pub path-last : (s : Scene) (first last : ℕ → Fronts) (t : ℕ) (f g : Fronts) (xs : List Item) (u : ℕ) (h : Fronts) → any_joins u xs ≡ false → Path s first last t f xs g → Path s first (with_thread last u h) t f xs g
path-last s first last t f g [] u h k p = p
path-last s first last t f g (x ∷ xs) u h k p =
    let q = or-false (joins u x) (any_joins u xs) k in
    (p.0, record { moved = p.1.moved; seen = seen-last s first last t f p.0 x u h q.0 p.1.seen }, path-last s first last t p.0 g xs u h q.1 p.2)

pub one_start_more : (s : Scene) (first last : ℕ → Fronts) (t : ℕ) (f g g' h : Fronts) (xs : List Item) (u : ThreadNo) → Path s first last t f xs g → any_starts u.0 xs ≡ false → Moved t g g' none_own → Grows g h → Path s (with_thread first u.0 h) last t f (xs ++ items.Control (controls.Start u true) ∷ []) g'
one_start_more s first last t f g g' h xs u p new m handed =
    one_more s (with_thread first u.0 h) last t f g g' xs (items.Control (controls.Start u true)) (path-first s first last t f g xs u.0 h new p) (record { moved = m; seen = subst (λ w. Grows g w) (sym (with-same first u.0 h)) handed })

pub one_launch_more : (s : Scene) (first last : ℕ → Fronts) (t : ℕ) (f g g' h : Fronts) (xs : List Item) (u : ThreadNo) → Path s first last t f xs g → any_starts u.0 xs ≡ false → Moved t g g' none_own → Grows g h → Path s (with_thread first u.0 h) last t f (xs ++ items.Control (controls.Launch u true) ∷ []) g'
one_launch_more s first last t f g g' h xs u p new m handed =
    one_more s (with_thread first u.0 h) last t f g g' xs (items.Control (controls.Launch u true)) (path-first s first last t f g xs u.0 h new p) (record { moved = m; seen = subst (λ w. Grows g w) (sym (with-same first u.0 h)) handed })

pub refusal_goes : (s : Scene) (first last : ℕ → Fronts) (t : ℕ) (f : Fronts) (u : ThreadNo) → Goes s first last t f f (items.Control (controls.Start u false)) × Goes s first last t f f (items.Control (controls.Launch u false))
refusal_goes s first last t f u = (record { moved = stays t f; seen = tt }, record { moved = stays t f; seen = tt })

pub one_join_more : (s : Scene) (first last : ℕ → Fronts) (t : ℕ) (f g g' k : Fronts) (xs : List Item) (u : ThreadNo) → Path s first last t f xs g → any_joins u.0 xs ≡ false → Moved t g g' none_own → Grows k g' → Path s first (with_thread last u.0 k) t f (xs ++ items.Control (controls.Join u) ∷ []) g'
one_join_more s first last t f g g' k xs u p new m took =
    one_more s first (with_thread last u.0 k) t f g g' xs (items.Control (controls.Join u)) (path-last s first last t f g xs u.0 k new p) (record { moved = m; seen = subst (λ w. Grows w g') (sym (with-same last u.0 k)) took })

-- ---- the end

unfoldable pub runs_end : (s : Scene) (r : Recorded) (first last : ℕ → Fronts) (F : Fronts) → Path s first last 0 nothing (list_of r 0) F → any_starts 0 (list_of r 0) ≡ false → any_joins 0 (list_of r 0) ≡ false → ((o : ℕ) (d : Object) → slice_get s.objects o ≡ Some d → IsLegal (kind_of d) (F o)) → ((t : ℕ) → t ≢ 0 → Finished s t (list_of r t) (first t) (last t) F) → FromPasses s r
runs_end s r first last F p no_start no_join legal_ others = record {
  first = with_thread first 0 nothing;
  last = with_thread last 0 F;
  legal = legal_;
  paths = λ t. path_ t (t == 0) refl;
  unused = λ t o. unused_ t o (t == 0) refl;
  taken = λ t. taken_ t (t == 0) refl;
}
  where
    path_ : (t : ℕ) (b : Bool) → (t == 0) ≡ b → Path s (with_thread first 0 nothing) (with_thread last 0 F) t (if b then nothing else first t) (list_of r t) (if b then F else last t)
    path_ t true k = subst (λ n. Path s (with_thread first 0 nothing) (with_thread last 0 F) n nothing (list_of r n) F) (sym (eqb-true t 0 k)) (path-last s (with_thread first 0 nothing) last 0 nothing F (list_of r 0) 0 F no_join (path-first s first last 0 nothing F (list_of r 0) 0 nothing no_start p))
    path_ t false k = (others t (eqb-false t 0 k)).made (with_thread first 0 nothing) (with_thread last 0 F)

    unused_ : (t o : ℕ) (b : Bool) → (t == 0) ≡ b → positions t 0 ((if b then nothing else first t) o) ≡ []
    unused_ t o true k = refl
    unused_ t o false k = (others t (eqb-false t 0 k)).unused o

    taken_ : (t : ℕ) (b : Bool) → (t == 0) ≡ b → Moved t (if b then F else last t) F (λ o. [])
    taken_ t true k = stays t F
    taken_ t false k = (others t (eqb-false t 0 k)).taken
