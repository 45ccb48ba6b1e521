-- Main's invariant is kept by its calls, starts and joins.
use Rattle.std.proofs.Common.{◌≡◌, ◌≢◌, ℕ, Some, slice_get, ◌==◌, ◌||◌, Bool, true, false, List, [], ◌∷◌, ◌++◌, if◌then◌else◌, refl, sym, ap, ◌∙◌, subst, eqb-true, eq-eqb}
use Rattle.std.proofs.lemmas.Bool.{eqb-false}
use Rattle.cx_names.specs.declared.ThreadNo.{ThreadNo}
use Rattle.cx_machine.specs.Machine.{IsLegal}
use Rattle.cx_scene.specs.declared.declared.Object.{Object}
use Rattle.cx_scene.specs.Scene.{Scene, kind_of}
use Rattle.cx_history.specs.Histories.{Recorded, list_of}
use Rattle.cx_items.specs.declared.item.Control.TheVariants as controls
use Rattle.cx_items.specs.declared.item.Item.{Item}
use Rattle.cx_items.specs.declared.item.Item.TheVariants as items
use Rattle.cx_history.specs.Follows.{starts, any_starts}
use Rattle.cx_fronts.specs.Positions.{positions}
use Rattle.cx_fronts.specs.Paths.{Fronts, Grows, nothing, none_own, Seen, Moved, Path}
use Rattle.cx_fronts.specs.Growing.{with_thread, joins, any_joins}
use Rattle.cx_fronts.specs.Mains.{with_list, Joined, Main, Finished, Ending}
use Rattle.cx_fronts.specs.Runs.{FromPasses}
use Rattle.cx_fronts.proofs.Lists.{prefix_trans, not_equal}
use Rattle.cx_fronts.proofs.Heart.{path-grows, no_more}
use Rattle.cx_fronts.proofs.Grown.{paths_compose, one_start_more, one_launch_more, one_join_more, runs_end}

or-assoc : (a b c : Bool) → (a || (b || c)) ≡ ((a || b) || c)
or-assoc true b c = refl
or-assoc false b c = refl

starts-append : (v : ℕ) (xs ys : List Item) → any_starts v (xs ++ ys) ≡ (any_starts v xs || any_starts v ys)
starts-append v [] ys = refl
starts-append v (x ∷ xs) ys = ap (λ b. starts v x || b) (starts-append v xs ys) ∙ or-assoc (starts v x) (any_starts v xs) (any_starts v ys)

joins-append : (v : ℕ) (xs ys : List Item) → any_joins v (xs ++ ys) ≡ (any_joins v xs || any_joins v ys)
joins-append v [] ys = refl
joins-append v (x ∷ xs) ys = ap (λ b. joins v x || b) (joins-append v xs ys) ∙ or-assoc (joins v x) (any_joins v xs) (any_joins v ys)

or-none : (a b : Bool) → b ≡ false → (a || b) ≡ true → a ≡ true
or-none true b h k = refl
or-none false b h k = cc

or-some : (a b : Bool) → a ≡ true → (a || b) ≡ true
or-some true b h = refl
or-some false b h = cc

-- a call of main that starts and joins nobody
pub main_goes : (s : Scene) (first last : ℕ → Fronts) (lists : ℕ → List Item) (xs ys : List Item) (f g : Fronts) → Main s first last lists xs f → ((u : ℕ) → any_starts u ys ≡ false) → ((u : ℕ) → any_joins u ys ≡ false) → Path s first last 0 f ys g → Main s first last lists (xs ++ ys) g
main_goes s first last lists xs ys f g m no_start no_join p = record {
  path = paths_compose s first last 0 nothing f g xs ys m.path p;
  clean = λ u h. m.clean u (was_started u h);
  started = λ u h. starts-append u xs ys ∙ or-some (any_starts u xs) (any_starts u ys) (m.started u (was_joined u h));
  joined = λ u h. let j = m.joined u (was_joined u h) in record { made = j.made; taken = λ o. prefix_trans (last u o) (j.taken o) (path-grows s first last 0 f g ys p o) };
}
  where
    was_started : (u : ℕ) → any_starts u (xs ++ ys) ≡ true → any_starts u xs ≡ true
    was_started u h = or-none (any_starts u xs) (any_starts u ys) (no_start u) (sym (starts-append u xs ys) ∙ h)

    was_joined : (u : ℕ) → any_joins u (xs ++ ys) ≡ true → any_joins u xs ≡ true
    was_joined u h = or-none (any_joins u xs) (any_joins u ys) (no_join u) (sym (joins-append u xs ys) ∙ h)

-- a start of a thread that was not started, with passes that have none of its changes
pub main_starts : (s : Scene) (first last : ℕ → Fronts) (lists : ℕ → List Item) (xs : List Item) (f g h : Fronts) (u : ThreadNo) → Main s first last lists xs f → any_starts u.0 xs ≡ false → Moved 0 f g none_own → Grows f h → ((o : ℕ) → positions u.0 0 (h o) ≡ []) → Main s (with_thread first u.0 h) last lists (xs ++ items.Control (controls.Start u true) ∷ []) g
main_starts s first last lists xs f g h u m new moved handed none_ = record {
  path = one_start_more s first last 0 nothing f g h xs u m.path new moved handed;
  clean = λ v k o. clean_ v o (v == u.0) refl k;
  started = λ v k. starts-append v xs (items.Control (controls.Start u true) ∷ []) ∙ or-some (any_starts v xs) (any_starts v (items.Control (controls.Start u true) ∷ [])) (m.started v (was_joined v k));
  joined = λ v k. joined_ v (was_joined v k) (v == u.0) refl;
}
  where
    was_joined : (v : ℕ) → any_joins v (xs ++ items.Control (controls.Start u true) ∷ []) ≡ true → any_joins v xs ≡ true
    was_joined v k = or-none (any_joins v xs) false refl (sym (joins-append v xs (items.Control (controls.Start u true) ∷ [])) ∙ k)

    clean_ : (v o : ℕ) (b : Bool) → (v == u.0) ≡ b → any_starts v (xs ++ items.Control (controls.Start u true) ∷ []) ≡ true → positions v 0 ((if b then h else first v) o) ≡ []
    clean_ v o true q k = subst (λ n. positions n 0 (h o) ≡ []) (sym (eqb-true v u.0 q)) (none_ o)
    clean_ v o false q k =
        let other : (u.0 == v) ≡ false = not_equal u.0 v (λ e. eqb-false v u.0 q (sym e)) in
        let none_here : any_starts v (items.Control (controls.Start u true) ∷ []) ≡ false = rw other refl in
        m.clean v (or-none (any_starts v xs) (any_starts v (items.Control (controls.Start u true) ∷ [])) none_here (sym (starts-append v xs (items.Control (controls.Start u true) ∷ [])) ∙ k)) o

    joined_ : (v : ℕ) → any_joins v xs ≡ true → (b : Bool) → (v == u.0) ≡ b → Joined s v (if b then h else first v) (last v) (lists v) g
    joined_ v k true q =
        let yes_ : any_starts u.0 xs ≡ true = subst (λ n. any_starts n xs ≡ true) (eqb-true v u.0 q) (m.started v k) in
        cc
    joined_ v k false q = let j = m.joined v k in record { made = j.made; taken = λ o. prefix_trans (last v o) (j.taken o) (moved.grows o) }

-- a launch of an async that was not started, with passes that have none of its changes
pub main_launches : (s : Scene) (first last : ℕ → Fronts) (lists : ℕ → List Item) (xs : List Item) (f g h : Fronts) (u : ThreadNo) → Main s first last lists xs f → any_starts u.0 xs ≡ false → Moved 0 f g none_own → Grows f h → ((o : ℕ) → positions u.0 0 (h o) ≡ []) → Main s (with_thread first u.0 h) last lists (xs ++ items.Control (controls.Launch u true) ∷ []) g
main_launches s first last lists xs f g h u m new moved handed none_ = record {
  path = one_launch_more s first last 0 nothing f g h xs u m.path new moved handed;
  clean = λ v k o. clean_ v o (v == u.0) refl k;
  started = λ v k. starts-append v xs (items.Control (controls.Launch u true) ∷ []) ∙ or-some (any_starts v xs) (any_starts v (items.Control (controls.Launch u true) ∷ [])) (m.started v (was_joined v k));
  joined = λ v k. joined_ v (was_joined v k) (v == u.0) refl;
}
  where
    was_joined : (v : ℕ) → any_joins v (xs ++ items.Control (controls.Launch u true) ∷ []) ≡ true → any_joins v xs ≡ true
    was_joined v k = or-none (any_joins v xs) false refl (sym (joins-append v xs (items.Control (controls.Launch u true) ∷ [])) ∙ k)

    clean_ : (v o : ℕ) (b : Bool) → (v == u.0) ≡ b → any_starts v (xs ++ items.Control (controls.Launch u true) ∷ []) ≡ true → positions v 0 ((if b then h else first v) o) ≡ []
    clean_ v o true q k = subst (λ n. positions n 0 (h o) ≡ []) (sym (eqb-true v u.0 q)) (none_ o)
    clean_ v o false q k =
        let other : (u.0 == v) ≡ false = not_equal u.0 v (λ e. eqb-false v u.0 q (sym e)) in
        let none_here : any_starts v (items.Control (controls.Launch u true) ∷ []) ≡ false = rw other refl in
        m.clean v (or-none (any_starts v xs) (any_starts v (items.Control (controls.Launch u true) ∷ [])) none_here (sym (starts-append v xs (items.Control (controls.Launch u true) ∷ [])) ∙ k)) o

    joined_ : (v : ℕ) → any_joins v xs ≡ true → (b : Bool) → (v == u.0) ≡ b → Joined s v (if b then h else first v) (last v) (lists v) g
    joined_ v k true q =
        let yes_ : any_starts u.0 xs ≡ true = subst (λ n. any_starts n xs ≡ true) (eqb-true v u.0 q) (m.started v k) in
        cc
    joined_ v k false q = let j = m.joined v k in record { made = j.made; taken = λ o. prefix_trans (last v o) (j.taken o) (moved.grows o) }

-- a join of a thread that was started and not joined
pub main_joins : (s : Scene) (first last : ℕ → Fronts) (lists : ℕ → List Item) (xs ys : List Item) (f g k : Fronts) (u : ThreadNo) → Main s first last lists xs f → any_starts u.0 xs ≡ true → any_joins u.0 xs ≡ false → Moved 0 f g none_own → ((first' last' : ℕ → Fronts) → Path s first' last' u.0 (first u.0) ys k) → Grows k g → Main s first (with_thread last u.0 k) (with_list lists u.0 ys) (xs ++ items.Control (controls.Join u) ∷ []) g
main_joins s first last lists xs ys f g k u m is_started new moved made_ took = record {
  path = one_join_more s first last 0 nothing f g k xs u m.path new moved took;
  clean = λ v h. m.clean v (was_started v h);
  started = λ v h. starts-append v xs (items.Control (controls.Join u) ∷ []) ∙ or-some (any_starts v xs) false (started_ v (v == u.0) refl h);
  joined = λ v h. joined_ v (v == u.0) refl h;
}
  where
    was_started : (v : ℕ) → any_starts v (xs ++ items.Control (controls.Join u) ∷ []) ≡ true → any_starts v xs ≡ true
    was_started v h = or-none (any_starts v xs) false refl (sym (starts-append v xs (items.Control (controls.Join u) ∷ [])) ∙ h)

    was_joined : (v : ℕ) → (v == u.0) ≡ false → any_joins v (xs ++ items.Control (controls.Join u) ∷ []) ≡ true → any_joins v xs ≡ true
    was_joined v q h =
        let other : (u.0 == v) ≡ false = not_equal u.0 v (λ e. eqb-false v u.0 q (sym e)) in
        let none_here : any_joins v (items.Control (controls.Join u) ∷ []) ≡ false = rw other refl in
        or-none (any_joins v xs) (any_joins v (items.Control (controls.Join u) ∷ [])) none_here (sym (joins-append v xs (items.Control (controls.Join u) ∷ [])) ∙ h)

    started_ : (v : ℕ) (b : Bool) → (v == u.0) ≡ b → any_joins v (xs ++ items.Control (controls.Join u) ∷ []) ≡ true → any_starts v xs ≡ true
    started_ v true q h = subst (λ n. any_starts n xs ≡ true) (sym (eqb-true v u.0 q)) is_started
    started_ v false q h = m.started v (was_joined v q h)

    joined_ : (v : ℕ) (b : Bool) → (v == u.0) ≡ b → any_joins v (xs ++ items.Control (controls.Join u) ∷ []) ≡ true → Joined s v (first v) (if b then k else last v) (if b then ys else lists v) g
    joined_ v true q h = subst (λ n. Joined s n (first n) k ys g) (sym (eqb-true v u.0 q)) (record { made = made_; taken = took })
    joined_ v false q h = let j = m.joined v (was_joined v q h) in record { made = j.made; taken = λ o. prefix_trans (last v o) (j.taken o) (moved.grows o) }

-- at the end: no more changes of those that were joined, and the others have ended too
pub main_ends : (s : Scene) (r : Recorded) (first last : ℕ → Fronts) (F : Fronts) → Main s first last (list_of r) (list_of r 0) F → any_starts 0 (list_of r 0) ≡ false → any_joins 0 (list_of r 0) ≡ false → ((o : ℕ) (d : Object) → slice_get s.objects o ≡ Some d → IsLegal (kind_of d) (F o)) → ((t : ℕ) → any_joins t (list_of r 0) ≡ true → (o : ℕ) → positions t 0 (F o) ≡ positions t 0 (last t o)) → ((t : ℕ) → t ≢ 0 → any_joins t (list_of r 0) ≡ false → Finished s t (list_of r t) (first t) (last t) F) → FromPasses s r
main_ends s r first last F m no_start no_join legal_ gone others = runs_end s r first last F m.path no_start no_join legal_ (λ t ne. go t ne (any_joins t (list_of r 0)) refl)
  where
    go : (t : ℕ) → t ≢ 0 → (b : Bool) → any_joins t (list_of r 0) ≡ b → Finished s t (list_of r t) (first t) (last t) F
    go t ne true q =
        let j = m.joined t q in
        record { unused = m.clean t (m.started t q); made = j.made; taken = record { grows = j.taken; mine = λ o. gone t q o ∙ sym (no_more (positions t 0 (last t o))) } }
    go t ne false q = others t ne q

-- ---- other firsts and lasts where nobody is started or joined

or-left : (a b : Bool) → a ≡ true → (a || b) ≡ true
or-left true b h = refl
or-left false b h = cc h

or-right : (a b : Bool) → b ≡ true → (a || b) ≡ true
or-right true b h = refl
or-right false b h = h

seen-same : (s : Scene) (first last first' last' : ℕ → Fronts) (t : ℕ) (f g : Fronts) (x : Item) → ((u : ℕ) → starts u x ≡ true → first u ≡ first' u) → ((u : ℕ) → joins u x ≡ true → last u ≡ last' u) → Seen s first last t f g x → Seen s first' last' t f g x
seen-same s first last first' last' t f g (items.Change q p e) a b h = record { from = h.from; there = h.there }
seen-same s first last first' last' t f g (items.Look q l) a b h = record { own = h.own; from = h.from; to = h.to; shows = h.shows }
seen-same s first last first' last' t f g (items.Said w) a b h = tt
seen-same s first last first' last' t f g (items.Control (controls.Start v true)) a b h = subst (λ k. Grows f k) (a v.0 (eq-eqb v.0 v.0 refl)) h
seen-same s first last first' last' t f g (items.Control (controls.Start v false)) a b h = tt
seen-same s first last first' last' t f g (items.Control (controls.Launch v true)) a b h = subst (λ k. Grows f k) (a v.0 (eq-eqb v.0 v.0 refl)) h
seen-same s first last first' last' t f g (items.Control (controls.Launch v false)) a b h = tt
seen-same s first last first' last' t f g (items.Control (controls.Join v)) a b h = subst (λ k. Grows k g) (b v.0 (eq-eqb v.0 v.0 refl)) h

pub path-same : (s : Scene) (first last first' last' : ℕ → Fronts) (t : ℕ) (f g : Fronts) (xs : List Item) → ((u : ℕ) → any_starts u xs ≡ true → first u ≡ first' u) → ((u : ℕ) → any_joins u xs ≡ true → last u ≡ last' u) → Path s first last t f xs g → Path s first' last' t f xs g
path-same s first last first' last' t f g [] a b p = p
path-same s first last first' last' t f g (x ∷ xs) a b p = (
  p.0,
  record {
    moved = p.1.moved;
    seen = seen-same s first last first' last' t f p.0 x (λ u k. a u (or-left (starts u x) (any_starts u xs) k)) (λ u k. b u (or-left (joins u x) (any_joins u xs) k)) p.1.seen;
  },
  path-same s first last first' last' t p.0 g xs (λ u k. a u (or-right (starts u x) (any_starts u xs) k)) (λ u k. b u (or-right (joins u x) (any_joins u xs) k)) p.2,
)

-- what threads begin and end with, where those that were not started or joined began and ended so
abbrev firsts : List Item → (ℕ → Fronts) → (ℕ → Fronts) → ℕ → Fronts
firsts xs first begun t = if any_starts t xs then first t else begun t

abbrev lasts : List Item → (ℕ → Fronts) → (ℕ → Fronts) → ℕ → Fronts
lasts xs last ended t = if any_joins t xs then last t else ended t

same_first : (xs : List Item) (first begun : ℕ → Fronts) (t : ℕ) → any_starts t xs ≡ true → first t ≡ firsts xs first begun t
same_first xs first begun t q = rw q refl

same_last : (xs : List Item) (last ended : ℕ → Fronts) (t : ℕ) → any_joins t xs ≡ true → last t ≡ lasts xs last ended t
same_last xs last ended t q = rw q refl

other_last : (xs : List Item) (last ended : ℕ → Fronts) (t : ℕ) → any_joins t xs ≡ false → ended t ≡ lasts xs last ended t
other_last xs last ended t q = rw q refl

main_same : (s : Scene) (first last begun ended : ℕ → Fronts) (lists : ℕ → List Item) (xs : List Item) (f : Fronts) → Main s first last lists xs f → Main s (firsts xs first begun) (lasts xs last ended) lists xs f
main_same s first last begun ended lists xs f m = record {
  path = path-same s first last (firsts xs first begun) (lasts xs last ended) 0 nothing f xs (same_first xs first begun) (same_last xs last ended) m.path;
  clean = λ u q o. subst (λ (k : Fronts). positions u 0 (k o) ≡ []) (same_first xs first begun u q) (m.clean u q o);
  started = m.started;
  joined = λ u q. subst (λ (h : Fronts). Joined s u h (lasts xs last ended u) (lists u) f) (same_first xs first begun u (m.started u q)) (subst (λ (k : Fronts). Joined s u (first u) k (lists u) f) (same_last xs last ended u q) (m.joined u q));
}

-- at the end, where those that weren't joined by an item began and ended somewhere
pub mains_end : (s : Scene) (r : Recorded) (first last : ℕ → Fronts) (F : Fronts) → Main s first last (list_of r) (list_of r 0) F → any_starts 0 (list_of r 0) ≡ false → any_joins 0 (list_of r 0) ≡ false → ((o : ℕ) (d : Object) → slice_get s.objects o ≡ Some d → IsLegal (kind_of d) (F o)) → ((t : ℕ) → any_joins t (list_of r 0) ≡ true → (o : ℕ) → positions t 0 (F o) ≡ positions t 0 (last t o)) → ((t : ℕ) → Ending s t (any_starts t (list_of r 0)) (any_joins t (list_of r 0)) (list_of r t) (first t) F) → FromPasses s r
mains_end s r first last F m no_start no_join legal_ gone others =
    main_ends s r (firsts (list_of r 0) first (λ t. (others t).begun)) (lasts (list_of r 0) last (λ t. (others t).ended)) F
    (main_same s first last (λ t. (others t).begun) (λ t. (others t).ended) (list_of r) (list_of r 0) F m)
    no_start no_join legal_
    (λ t q o. gone t q o ∙ ap (λ (k : Fronts). positions t 0 (k o)) (same_last (list_of r 0) last (λ v. (others v).ended) t q))
    (λ t ne q. subst (λ (k : Fronts). Finished s t (list_of r t) (firsts (list_of r 0) first (λ v. (others v).begun) t) k F) (other_last (list_of r 0) last (λ v. (others v).ended) t q) ((others t).finished ne q))
