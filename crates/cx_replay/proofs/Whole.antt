-- What each turn of a replay keeps of the whole record.
use Rattle.std.proofs.Common.{◌≡◌, ◌⊎◌, inl, inr, ℕ, zero, suc, ◌<◌, ◌≤◌, ◌==◌, ◌&&◌, ◌||◌, Bool, true, false, List, [], ◌∷◌, ◌++◌, map, length, take, Option, Some, None, option_and_then, option_map, slice_get, slice_set, is_none, if◌then◌else◌, refl, sym, ap, ◌∙◌, subst, arith, eqb-true, eq-eqb}
use Rattle.std.proofs.lemmas.Option.{slice_get-map}
use Rattle.std.proofs.lemmas.List.{map-set}
use Rattle.cx_scene.specs.declared.declared.Thread.{Thread}
use Rattle.cx_scene.specs.Scene.{Scene}
use Rattle.cx_items.specs.declared.item.Control.TheVariants as controls
use Rattle.cx_items.specs.declared.item.Item.{Item}
use Rattle.cx_items.specs.declared.item.Item.TheVariants as items
use Rattle.cx_items.specs.Next.{Local, offered_by, reached, with_item as item_done, is_due, after_item, is_ended, local_at_start}
use Rattle.cx_history.specs.Histories.{items_of, changes_from, place_from, place, known_at_start, knows_from, knowing, owed}
use Rattle.cx_history.specs.Follows.{starts, any_starts, has_started}
use Rattle.cx_replay.specs.Starting.{OnlyMainStarts}
use Rattle.cx_replay.specs.Schedule.{Thing, Runner, World, Turn, has_ended, is_completing_now, moved_to, with_reply, after_made, beginner, begun_at, with_beginner, turns, opening_runners, opening_world, done_of, start}
use Rattle.cx_replay.proofs.Kept.{slice_get-set_same, slice_get-set_other, begun-same}
use Rattle.cx_replay.proofs.Stepping.{ItemKeeps, StepKeeps, joins_ended, made_keeps, turns_keep, Grown, alone, replying, after_made-grown}
use Rattle.cx_replay.proofs.Followed.{apart, past_end, Good, GoodWorld, good_item, good_begun, opening_good, moved_by}
use Rattle.cx_replay.proofs.Quiet.{IsQuiet, quiet_item, quiet_item_after, quiet_at_start}
use Rattle.cx_replay.proofs.Places.{Lists, of_lists, with_item, list_in, ListAfter, its_own, another, list_after, many, same_history, still_shown, same_number, joins, any_joins, knows_nothing, knows_same, KnowsBelow}
use Rattle.cx_replay.proofs.Sane.{Sane, sane_item}

abbrev nobody_there : Option Runner
nobody_there = None

abbrev pub runner_in : List (Option Runner) → ℕ → Option Runner
runner_in rs u = option_and_then (λ r. r) (slice_get rs u)

pub record Whole (s : Scene) (things : List Thing) (rs : List (Option Runner)) : Type 0 where
  pub good : Good s things rs
  pub sane : Sane s (map done_of rs)
  -- who was joined has ended
  pub joined : (u : ℕ) → any_joins u (list_in (map done_of rs) 0) ≡ true → has_ended (runner_in rs u) ≡ true
  -- nobody but main can start another
  pub quiet : (u : ℕ) (r : Runner) → 0 < u → slice_get rs u ≡ Some (Some r) → IsQuiet r.local

-- ---- who has ended makes no item

and_true : (a b : Bool) → (a && b) ≡ true → (a ≡ true) × (b ≡ true)
and_true true b h = (refl, h)
and_true false b h = cc

nothing_left : {X : Type 0} (xs : List X) → length xs ≡ 0 → xs ≡ []
nothing_left [] h = refl
nothing_left (x ∷ xs) h = absurd (omega (arith, h))

no_item : (s : Scene) (completes : ℕ → ℕ → Bool) (t : ℕ) (l k : Local) (x : Item) → is_ended l ≡ true → after_item s completes t l x ≡ Some k → ⊥
no_item s completes t l k x ended h =
    let empty : l.agenda ≡ [] = nothing_left l.agenda (eqb-true (length l.agenda) 0 (and_true (length l.agenda == 0) (length l.calls == 0) ended).0) in
    let none : after_item s completes t l x ≡ None = ap (λ ts. option_map (item_done s (is_due completes x) x) (reached s (offered_by s t l ts) x)) empty in
    cc (none, h)

-- the thread that makes an item hasn't ended
not_ended : (s : Scene) (completes : ℕ → ℕ → Bool) (rs : List (Option Runner)) (t u : ℕ) (r : Runner) (k : Local) (x : Item) → slice_get rs t ≡ Some (Some r) → after_item s completes t r.local x ≡ Some k → has_ended (runner_in rs u) ≡ true → t ≡ u → ⊥
not_ended s completes rs t u r k x e h ended same =
    let at_t : has_ended (runner_in rs t) ≡ true = subst (λ n. has_ended (runner_in rs n) ≡ true) (sym same) ended in
    let mine : is_ended r.local ≡ true = subst (λ o. has_ended (option_and_then (λ q. q) o) ≡ true) e at_t in
    no_item s completes t r.local k x mine h

any_joins-split : (u : ℕ) (xs : List Item) (x : Item) → any_joins u (xs ++ x ∷ []) ≡ true → (any_joins u xs ≡ true) ⊎ (joins u x ≡ true)
any_joins-split u [] x h = go (joins u x) h
  where
    go : (b : Bool) → (b || false) ≡ true → (false ≡ true) ⊎ (b ≡ true)
    go true k = inr refl
    go false k = cc
any_joins-split u (y ∷ ys) x h = go (joins u y) h (λ k. any_joins-split u ys x k)
  where
    go : (b : Bool) → (b || any_joins u (ys ++ x ∷ [])) ≡ true → (any_joins u (ys ++ x ∷ []) ≡ true → (any_joins u ys ≡ true) ⊎ (joins u x ≡ true)) → ((b || any_joins u ys) ≡ true) ⊎ (joins u x ≡ true)
    go true k ih = inl refl
    go false k ih = ih k

joined_is_ended : (rs : List (Option Runner)) (x : Item) (u : ℕ) → joins_ended rs x ≡ true → joins u x ≡ true → has_ended (runner_in rs u) ≡ true
joined_is_ended rs (items.Control (controls.Join v)) u h k = subst (λ n. has_ended (runner_in rs n) ≡ true) (eqb-true v.0 u k) h
joined_is_ended rs (items.Control (controls.Start v ok)) u h k = cc
joined_is_ended rs (items.Control (controls.Launch v ok)) u h k = cc
joined_is_ended rs (items.Change q p e) u h k = cc
joined_is_ended rs (items.Look q l) u h k = cc
joined_is_ended rs (items.Said q) u h k = cc

-- ---- one item

pub whole_item : (s : Scene) → ItemKeeps s (Whole s)
whole_item s things things' rs t r r1 x whole e moves ended h = record {
  good = good_item s things things' rs t r r1 x whole.good e moves ended h;
  sane = subst (Sane s) (sym same_lists) (sane_item s things things' (map done_of rs) t r.done x whole.good.known whole.good.kept whole.sane there_ moves (λ u k. mine u (whole.joined u k)));
  joined = λ u k. joined_after u (subst (λ ls. any_joins u (list_in ls 0) ≡ true) same_lists k);
  quiet = λ u q other k. quiet_after u q other k (t == u) refl;
}
  where
    there_ : slice_get (map done_of rs) t ≡ Some (Some r.done)
    there_ = slice_get-map done_of rs t ∙ ap (option_map done_of) e

    went : (after_item s (is_completing_now things') t r.local x ≡ Some r1.local) × (r1.done ≡ r.done ++ x ∷ [])
    went = moved_by (r.done ++ x ∷ []) (after_item s (is_completing_now things') t r.local x) r1 h

    same_lists : map done_of (slice_set rs t (Some r1)) ≡ with_item (map done_of rs) t r.done x
    same_lists = map-set done_of rs t (Some r1) ∙ ap (λ xs. slice_set (map done_of rs) t (Some xs)) went.1

    mine : (u : ℕ) → has_ended (runner_in rs u) ≡ true → t ≡ u → ⊥
    mine u k = not_ended s (is_completing_now things') rs t u r r1.local x e went.0 k

    stays_ended : (u : ℕ) → has_ended (runner_in rs u) ≡ true → has_ended (runner_in (slice_set rs t (Some r1)) u) ≡ true
    stays_ended u k = subst (λ o. has_ended (option_and_then (λ q. q) o) ≡ true) (sym (slice_get-set_other rs t u (Some r1) (mine u k))) k

    joined_after : (u : ℕ) → any_joins u (list_in (with_item (map done_of rs) t r.done x) 0) ≡ true → has_ended (runner_in (slice_set rs t (Some r1)) u) ≡ true
    joined_after u k = go (list_after (map done_of rs) t r.done x 0 there_)
      where
        one_way : list_in (map done_of rs) 0 ≡ r.done → (any_joins u r.done ≡ true) ⊎ (joins u x ≡ true) → has_ended (runner_in (slice_set rs t (Some r1)) u) ≡ true
        one_way old (inl before) = stays_ended u (whole.joined u (subst (λ xs. any_joins u xs ≡ true) (sym old) before))
        one_way old (inr now) = stays_ended u (joined_is_ended rs x u ended.0 now)

        go : ListAfter (map done_of rs) t r.done x 0 → has_ended (runner_in (slice_set rs t (Some r1)) u) ≡ true
        go (another ne same) = stays_ended u (whole.joined u (subst (λ xs. any_joins u xs ≡ true) same k))
        go (its_own same old new) = one_way old (any_joins-split u r.done x (subst (λ xs. any_joins u xs ≡ true) new k))

    quiet_after : (u : ℕ) (q : Runner) → 0 < u → slice_get (slice_set rs t (Some r1)) u ≡ Some (Some q) → (b : Bool) → (t == u) ≡ b → IsQuiet q.local
    quiet_after u q other k true yes_ =
        let same : t ≡ u = eqb-true t u yes_ in
        let at_t : slice_get (slice_set rs t (Some r1)) t ≡ Some (Some q) = subst (λ n. slice_get (slice_set rs t (Some r1)) n ≡ Some (Some q)) (sym same) k in
        let set_there = slice_get-set_same rs t (Some r) (Some r1) e in
        let same_runner : r1 ≡ q = cc (set_there, at_t) in
        let was = whole.quiet t r (subst (λ n. 0 < n) (sym same) other) e in
        subst (λ (v : Runner). IsQuiet v.local) same_runner (quiet_item_after s (is_completing_now things') t r.local r1.local x was went.0).0
    quiet_after u q other k false no_ = whole.quiet u q other (sym (slice_get-set_other rs t u (Some r1) (λ same. apart (t == u) (eq-eqb t u same) no_)) ∙ k)

-- ---- a thread begins

list_begun : (s : Scene) (v u n : ℕ) (rs : List (Option Runner)) → is_none (runner_in rs n) ≡ true → list_in (map done_of (slice_set rs n (beginner s u))) v ≡ list_in (map done_of rs) v
list_begun s v u n [] h = refl
list_begun s zero u zero (None ∷ rs) h = refl
list_begun s (suc v) u zero (None ∷ rs) h = refl
list_begun s v u zero (Some r ∷ rs) h = cc
list_begun s zero u (suc n) (r ∷ rs) h = refl
list_begun s (suc v) u (suc n) (r ∷ rs) h = list_begun s v u n rs h

-- the same items of the same threads
sane_same : (s : Scene) (lists lists' : Lists) → ((v : ℕ) → list_in lists' v ≡ list_in lists v) → ((o : ℕ) → changes_from o 0 lists' ≡ changes_from o 0 lists) → ((u : ℕ) (k : List Item) → slice_get lists' u ≡ Some (Some k) → has_started (of_lists s lists') u ≡ true) → Sane s lists → Sane s lists'
sane_same s lists lists' same changes started sane = record {
  shown = λ u i y h. still_shown s lists lists' (λ o. same_history s lists lists' o (changes o)) y (sane.shown u i y (there u i y h));
  rising = λ u i y h. same_number (place (of_lists s lists) u i) (place (of_lists s lists') u i) y (λ o. ap (λ xs. place_from o 0 (take i xs)) (sym (same u))) (sane.rising u i y (there u i y h));
  ordered = λ u i y h. same_number (owed (of_lists s lists) u i) (owed (of_lists s lists') u i) y (owed_same u i) (sane.ordered u i y (there u i y h));
  places = λ u o. subst (λ n. place_from o 0 (list_in lists' u) ≤ n) (sym (ap length (changes o))) (subst (λ xs. place_from o 0 xs ≤ many lists o) (sym (same u)) (sane.places u o));
  knows = λ o. subst (λ n. KnowsBelow n (knows_from (of_lists s lists') o knows_nothing (list_in lists' 0))) (sym (ap length (changes o))) (subst (KnowsBelow (many lists o)) (knows o (λ xs. xs)) (sane.knows o));
  started = started;
}
  where
    there : (u i : ℕ) (y : Item) → slice_get (list_in lists' u) i ≡ Some y → slice_get (list_in lists u) i ≡ Some y
    there u i y h = subst (λ xs. slice_get xs i ≡ Some y) (same u) h

    knows : (o : ℕ) (f : List Item → List Item) → knows_from (of_lists s lists) o knows_nothing (f (list_in lists 0)) ≡ knows_from (of_lists s lists') o knows_nothing (f (list_in lists' 0))
    knows o f = knows_same (of_lists s lists) (of_lists s lists') o knows_nothing (f (list_in lists 0)) (λ u h. ap (place_from o 0) (sym (same u))) ∙ ap (λ xs. knows_from (of_lists s lists') o knows_nothing (f xs)) (sym (same 0))

    owed_same : (u i o : ℕ) → owed (of_lists s lists) u i o ≡ owed (of_lists s lists') u i o
    owed_same u i o = go (u == 0)
      where
        go : (b : Bool) → (if b then (knowing (of_lists s lists) i o).owed else known_at_start (knowing (of_lists s lists) (length (list_in lists 0)) o).begun u) ≡ (if b then (knowing (of_lists s lists') i o).owed else known_at_start (knowing (of_lists s lists') (length (list_in lists' 0)) o).begun u)
        go true = ap (λ k. k.owed) (knows o (take i))
        go false = ap (λ k. known_at_start k.begun u) (knows o (λ xs. take (length xs) xs))

-- the runner that is put where nobody was
new_runner : (s : Scene) (rs : List (Option Runner)) (u : ℕ) (q : Runner) → is_none (runner_in rs u) ≡ true → slice_get (slice_set rs u (beginner s u)) u ≡ Some (Some q) → beginner s u ≡ Some q
new_runner s rs u q h k = go (slice_get rs u) refl h
  where
    go : (o : Option (Option Runner)) → slice_get rs u ≡ o → is_none (option_and_then (λ r. r) o) ≡ true → beginner s u ≡ Some q
    go None p n = let away = past_end rs u (beginner s u) p in cc (away, k)
    go (Some None) p n = let put = slice_get-set_same rs u None (beginner s u) p in cc (put, k)
    go (Some (Some r)) p n = cc

started_same : (s : Scene) (lists lists' : Lists) (u : ℕ) → list_in lists' 0 ≡ list_in lists 0 → has_started (of_lists s lists') u ≡ has_started (of_lists s lists) u
started_same s lists lists' u same = ap (λ xs. (u == 0) || any_starts u xs) same

whole_begun : (s : Scene) (things : List Thing) (u : ℕ) (rs : List (Option Runner)) → OnlyMainStarts s → Whole s things rs → has_started (of_lists s (map done_of rs)) u ≡ true → Whole s things (begun_at s u rs)
whole_begun s things u rs only whole here = go (is_none (runner_in rs u)) refl (good_begun s things u rs whole.good)
  where
    go : (b : Bool) → is_none (runner_in rs u) ≡ b → Good s things (if b then slice_set rs u (beginner s u) else rs) → Whole s things (if b then slice_set rs u (beginner s u) else rs)
    go false h good = whole
    go true h good = record {
      good = good;
      sane = sane_same s (map done_of rs) (map done_of (slice_set rs u (beginner s u))) lists_same (λ o. begun-same s o 0 u u rs h) started whole.sane;
      joined = λ v k. joined v (whole.joined v (subst (λ xs. any_joins v xs ≡ true) (lists_same 0) k));
      quiet = λ v q other k. quiet v q other k (u == v) refl;
    }
      where
        lists_same : (v : ℕ) → list_in (map done_of (slice_set rs u (beginner s u))) v ≡ list_in (map done_of rs) v
        lists_same v = list_begun s v u u rs h

        started : (v : ℕ) (k : List Item) → slice_get (map done_of (slice_set rs u (beginner s u))) v ≡ Some (Some k) → has_started (of_lists s (map done_of (slice_set rs u (beginner s u)))) v ≡ true
        started v k m = by (u == v) refl
          where
            by : (b : Bool) → (u == v) ≡ b → has_started (of_lists s (map done_of (slice_set rs u (beginner s u)))) v ≡ true
            by true yes_ = started_same s (map done_of rs) (map done_of (slice_set rs u (beginner s u))) v (lists_same 0) ∙ subst (λ n. has_started (of_lists s (map done_of rs)) n ≡ true) (eqb-true u v yes_) here
            by false no_ =
                let ne : u ≡ v → ⊥ = λ same. apart (u == v) (eq-eqb u v same) no_ in
                let was : slice_get (map done_of rs) v ≡ Some (Some k) = slice_get-map done_of rs v ∙ (ap (option_map done_of) (sym (slice_get-set_other rs u v (beginner s u) ne)) ∙ (sym (slice_get-map done_of (slice_set rs u (beginner s u)) v) ∙ m)) in
                started_same s (map done_of rs) (map done_of (slice_set rs u (beginner s u))) v (lists_same 0) ∙ whole.sane.started v k was

        joined : (v : ℕ) → has_ended (runner_in rs v) ≡ true → has_ended (runner_in (slice_set rs u (beginner s u)) v) ≡ true
        joined v ended =
            let ne : u ≡ v → ⊥ = λ same. nobody_ended (runner_in rs u) h (subst (λ n. has_ended (runner_in rs n) ≡ true) (sym same) ended) in
            subst (λ o. has_ended (option_and_then (λ q. q) o) ≡ true) (sym (slice_get-set_other rs u v (beginner s u) ne)) ended
          where
            nobody_ended : (o : Option Runner) → is_none o ≡ true → has_ended o ≡ true → ⊥
            nobody_ended None p k = cc
            nobody_ended (Some r) p k = cc

        quiet : (v : ℕ) (q : Runner) → 0 < v → slice_get (slice_set rs u (beginner s u)) v ≡ Some (Some q) → (b : Bool) → (u == v) ≡ b → IsQuiet q.local
        quiet v q other k true yes_ =
            let same : u ≡ v = eqb-true u v yes_ in
            let at_u = subst (λ n. slice_get (slice_set rs u (beginner s u)) n ≡ Some (Some q)) (sym same) k in
            let new : Runner = record { local = local_at_start s u; done = [] } in
            let put : Some new ≡ Some q = new_runner s rs u q h at_u in
            let is_new : new ≡ q = cc in
            subst (λ (w : Runner). IsQuiet w.local) is_new (quiet_at_start s u only (subst (λ n. 0 < n) (sym same) other))
        quiet v q other k false no_ = whole.quiet v q other (sym (slice_get-set_other rs u v (beginner s u) (λ same. apart (u == v) (eq-eqb u v same) no_)) ∙ k)

-- ---- an item begins a thread where it starts one

begins_whole : (s : Scene) (things : List Thing) (x : Item) (rs : List (Option Runner)) → OnlyMainStarts s → Whole s things rs → ((u : ℕ) → starts u x ≡ true → has_started (of_lists s (map done_of rs)) u ≡ true) → Whole s things (with_beginner s x rs)
begins_whole s things (items.Change q p e) rs only whole started = whole
begins_whole s things (items.Look q l) rs only whole started = whole
begins_whole s things (items.Said q) rs only whole started = whole
begins_whole s things (items.Control (controls.Join u)) rs only whole started = whole
begins_whole s things (items.Control (controls.Start u true)) rs only whole started = whole_begun s things u.0 rs only whole (started u.0 (eq-eqb u.0 u.0 refl))
begins_whole s things (items.Control (controls.Start u false)) rs only whole started = whole
begins_whole s things (items.Control (controls.Launch u true)) rs only whole started = whole_begun s things u.0 rs only whole (started u.0 (eq-eqb u.0 u.0 refl))
begins_whole s things (items.Control (controls.Launch u false)) rs only whole started = whole

-- ---- nobody else was started

abbrev pub NobodyElse : Scene → List (Option Runner) → Type 0
NobodyElse s rs = (u : ℕ) → slice_get rs u ≡ Some None → has_started (of_lists s (map done_of rs)) u ≡ false

-- with u begun
begun_alone : (s : Scene) (v : ℕ) (rs : List (Option Runner)) → ((u : ℕ) → slice_get rs u ≡ Some None → (v == u) ≡ false → has_started (of_lists s (map done_of rs)) u ≡ false) → NobodyElse s (begun_at s v rs)
begun_alone s v rs nobody = go (is_none (runner_in rs v)) refl
  where
    there : {X : Type 0} (o : Option (Option X)) → o ≡ Some None → is_none (option_and_then (λ r. r) o) ≡ true
    there o e = ap (λ p. is_none (option_and_then (λ r. r) p)) e

    go : (b : Bool) → is_none (runner_in rs v) ≡ b → NobodyElse s (if b then slice_set rs v (beginner s v) else rs)
    go false h u e = nobody u e (away (v == u) refl)
      where
        away : (c : Bool) → (v == u) ≡ c → (v == u) ≡ false
        away false no_ = no_
        away true yes_ = absurd (apart (is_none (runner_in rs v)) (there (slice_get rs v) (subst (λ n. slice_get rs n ≡ Some None) (sym (eqb-true v u yes_)) e)) h)
    go true h u e = by (v == u) refl
      where
        lists_same : list_in (map done_of (slice_set rs v (beginner s v))) 0 ≡ list_in (map done_of rs) 0
        lists_same = list_begun s 0 v v rs h

        at_v : (o : Option (Option Runner)) → slice_get rs v ≡ o → slice_get (slice_set rs v (beginner s v)) v ≡ Some None → ⊥
        at_v None p k = let gone = past_end rs v (beginner s v) p in cc (gone, k)
        at_v (Some o) p k = let put = slice_get-set_same rs v o (beginner s v) p in cc (put, k)

        by : (c : Bool) → (v == u) ≡ c → has_started (of_lists s (map done_of (slice_set rs v (beginner s v)))) u ≡ false
        by true yes_ = absurd (at_v (slice_get rs v) refl (subst (λ n. slice_get (slice_set rs v (beginner s v)) n ≡ Some None) (sym (eqb-true v u yes_)) e))
        by false no_ =
            let ne : v ≡ u → ⊥ = λ same. apart (v == u) (eq-eqb v u same) no_ in
            started_same s (map done_of rs) (map done_of (slice_set rs v (beginner s v))) u lists_same ∙ nobody u (sym (slice_get-set_other rs v u (beginner s v) ne) ∙ e) no_

begins_alone : (s : Scene) (x : Item) (rs : List (Option Runner)) → ((u : ℕ) → slice_get rs u ≡ Some None → starts u x ≡ false → has_started (of_lists s (map done_of rs)) u ≡ false) → NobodyElse s (with_beginner s x rs)
begins_alone s (items.Change q p e) rs nobody = λ u k. nobody u k refl
begins_alone s (items.Look q l) rs nobody = λ u k. nobody u k refl
begins_alone s (items.Said q) rs nobody = λ u k. nobody u k refl
begins_alone s (items.Control (controls.Join v)) rs nobody = λ u k. nobody u k refl
begins_alone s (items.Control (controls.Start v true)) rs nobody = begun_alone s v.0 rs nobody
begins_alone s (items.Control (controls.Start v false)) rs nobody = λ u k. nobody u k refl
begins_alone s (items.Control (controls.Launch v true)) rs nobody = begun_alone s v.0 rs nobody
begins_alone s (items.Control (controls.Launch v false)) rs nobody = λ u k. nobody u k refl

starts_in : (u : ℕ) (xs : List Item) (x : Item) → starts u x ≡ true → any_starts u (xs ++ x ∷ []) ≡ true
starts_in u [] x h = rw h refl
starts_in u (y ∷ ys) x h = go (starts u y) (starts_in u ys x h)
  where
    go : (b : Bool) → any_starts u (ys ++ x ∷ []) ≡ true → (b || any_starts u (ys ++ x ∷ [])) ≡ true
    go true k = refl
    go false k = k

starts_none : (u : ℕ) (xs : List Item) (x : Item) → any_starts u xs ≡ false → starts u x ≡ false → any_starts u (xs ++ x ∷ []) ≡ false
starts_none u [] x h k = rw k refl
starts_none u (y ∷ ys) x h k = go (starts u y) h (λ n. starts_none u ys x n k)
  where
    go : (b : Bool) → (b || any_starts u ys) ≡ false → (any_starts u ys ≡ false → any_starts u (ys ++ x ∷ []) ≡ false) → (b || any_starts u (ys ++ x ∷ [])) ≡ false
    go true n ih = cc
    go false n ih = ih n

-- the list with the item, and with the reply that stands with it
grown_starts : (u : ℕ) (r r' : Runner) (x : Item) → Grown r x r' → starts u x ≡ true → any_starts u r'.done ≡ true
grown_starts u r r' x (alone done) h = subst (λ xs. any_starts u xs ≡ true) (sym done) (starts_in u r.done x h)
grown_starts u r r' x (replying q done) h = subst (λ xs. any_starts u xs ≡ true) (sym done) (once_more (r.done ++ x ∷ []) (starts_in u r.done x h))
  where
    once_more : (xs : List Item) → any_starts u xs ≡ true → any_starts u (xs ++ items.Said q ∷ []) ≡ true
    once_more [] k = cc
    once_more (y ∷ ys) k = go (starts u y) k (λ n. once_more ys n)
      where
        go : (b : Bool) → (b || any_starts u ys) ≡ true → (any_starts u ys ≡ true → any_starts u (ys ++ items.Said q ∷ []) ≡ true) → (b || any_starts u (ys ++ items.Said q ∷ [])) ≡ true
        go true n ih = refl
        go false n ih = ih n

grown_none : (u : ℕ) (r r' : Runner) (x : Item) → Grown r x r' → any_starts u r.done ≡ false → starts u x ≡ false → any_starts u r'.done ≡ false
grown_none u r r' x (alone done) h k = subst (λ xs. any_starts u xs ≡ false) (sym done) (starts_none u r.done x h k)
grown_none u r r' x (replying q done) h k = subst (λ xs. any_starts u xs ≡ false) (sym done) (starts_none u (r.done ++ x ∷ []) (items.Said q) (starts_none u r.done x h k) refl)

-- the item was allowed where the thread stood
went_on : (s : Scene) (things : List Thing) (t : ℕ) (r r' : Runner) (x : Item) → after_made s things t r x ≡ Some r' → (k : Local) × (after_item s (is_completing_now things) t r.local x ≡ Some k)
went_on s things t r r' x h = go x h
  where
    local_of : (y : Item) (o : Option Local) → after_item s (is_completing_now things) t r.local y ≡ o → option_and_then (with_reply s things t) (option_map (moved_to (r.done ++ y ∷ [])) o) ≡ Some r' → (k : Local) × (after_item s (is_completing_now things) t r.local y ≡ Some k)
    local_of y None e k = cc
    local_of y (Some l) e k = (l, e)

    said : (y : Item) (o : Option Local) → after_item s (is_completing_now things) t r.local y ≡ o → option_map (moved_to (r.done ++ y ∷ [])) o ≡ Some r' → (k : Local) × (after_item s (is_completing_now things) t r.local y ≡ Some k)
    said y None e k = cc
    said y (Some l) e k = (l, e)

    go : (y : Item) → after_made s things t r y ≡ Some r' → (k : Local) × (after_item s (is_completing_now things) t r.local y ≡ Some k)
    go (items.Said q) k = said (items.Said q) (after_item s (is_completing_now things) t r.local (items.Said q)) refl k
    go (items.Change q p e) k = local_of (items.Change q p e) (after_item s (is_completing_now things) t r.local (items.Change q p e)) refl k
    go (items.Look q l) k = local_of (items.Look q l) (after_item s (is_completing_now things) t r.local (items.Look q l)) refl k
    go (items.Control c) k = local_of (items.Control c) (after_item s (is_completing_now things) t r.local (items.Control c)) refl k

quiet_starts : (u : ℕ) (x : Item) → quiet_item x ≡ true → starts u x ≡ false
quiet_starts u (items.Change q p e) h = refl
quiet_starts u (items.Look q l) h = refl
quiet_starts u (items.Said q) h = refl
quiet_starts u (items.Control (controls.Join v)) h = refl
quiet_starts u (items.Control (controls.Start v ok)) h = cc
quiet_starts u (items.Control (controls.Launch v ok)) h = cc

-- ---- a step

length-slice_set : {X : Type 0} (xs : List X) (i : ℕ) (x : X) → length (slice_set xs i x) ≡ length xs
length-slice_set [] i x = refl
length-slice_set (y ∷ ys) zero x = refl
length-slice_set (y ∷ ys) (suc i) x = ap suc (length-slice_set ys i x)

length-begun : (s : Scene) (u : ℕ) (rs : List (Option Runner)) → length (begun_at s u rs) ≡ length rs
length-begun s u rs = go (is_none (runner_in rs u))
  where
    go : (b : Bool) → length (if b then slice_set rs u (beginner s u) else rs) ≡ length rs
    go true = length-slice_set rs u (beginner s u)
    go false = refl

length-with_beginner : (s : Scene) (x : Item) (rs : List (Option Runner)) → length (with_beginner s x rs) ≡ length rs
length-with_beginner s (items.Change q p e) rs = refl
length-with_beginner s (items.Look q l) rs = refl
length-with_beginner s (items.Said q) rs = refl
length-with_beginner s (items.Control (controls.Join u)) rs = refl
length-with_beginner s (items.Control (controls.Start u true)) rs = length-begun s u.0 rs
length-with_beginner s (items.Control (controls.Start u false)) rs = refl
length-with_beginner s (items.Control (controls.Launch u true)) rs = length-begun s u.0 rs
length-with_beginner s (items.Control (controls.Launch u false)) rs = refl

pub record WholeWorld (s : Scene) (w : World) : Type 0 where
  pub whole : Whole s w.things w.runners
  pub nobody : NobodyElse s w.runners
  pub count : length w.runners ≡ length s.threads

whole_step : (s : Scene) → OnlyMainStarts s → StepKeeps s (WholeWorld s)
whole_step s only w t r r' m world at_ moves ended h = record {
  whole = begins_whole s m.things m.item (slice_set w.runners t (Some r')) only after started;
  nobody = begins_alone s m.item (slice_set w.runners t (Some r')) (λ u k n. nobody u k n (t == u) refl);
  count = length-with_beginner s m.item (slice_set w.runners t (Some r')) ∙ (length-slice_set w.runners t (Some r') ∙ world.count);
}
  where
    after : Whole s m.things (slice_set w.runners t (Some r'))
    after = made_keeps s (Whole s) (whole_item s) w.things m.things w.runners t r r' m.item world.whole at_ moves ended h

    grown : Grown r m.item r'
    grown = after_made-grown s m.things t r r' m.item h

    -- a thread other than main starts nobody
    only_main : (u : ℕ) → starts u m.item ≡ true → t ≡ 0
    only_main u k = go (t == 0) refl
      where
        go : (b : Bool) → (t == 0) ≡ b → t ≡ 0
        go true yes_ = eqb-true t 0 yes_
        go false no_ =
            let other : t ≡ 0 → ⊥ = λ e. apart (t == 0) (eq-eqb t 0 e) no_ in
            let went = went_on s m.things t r r' m.item h in
            let quiet = quiet_item_after s (is_completing_now m.things) t r.local went.0 m.item (world.whole.quiet t r (omega (arith, other)) at_) went.1 in
            absurd (apart (starts u m.item) k (quiet_starts u m.item quiet.1))

    done_there : list_in (map done_of (slice_set w.runners t (Some r'))) t ≡ r'.done
    done_there = ap (λ o. items_of (option_and_then (λ l. l) o)) (slice_get-map done_of (slice_set w.runners t (Some r')) t ∙ ap (option_map done_of) (slice_get-set_same w.runners t (Some r) (Some r') at_))

    done_before : list_in (map done_of w.runners) t ≡ r.done
    done_before = ap (λ o. items_of (option_and_then (λ l. l) o)) (slice_get-map done_of w.runners t ∙ ap (option_map done_of) at_)

    started : (u : ℕ) → starts u m.item ≡ true → has_started (of_lists s (map done_of (slice_set w.runners t (Some r')))) u ≡ true
    started u k =
        let main = only_main u k in
        let in_main : any_starts u (list_in (map done_of (slice_set w.runners t (Some r'))) 0) ≡ true = subst (λ n. any_starts u (list_in (map done_of (slice_set w.runners t (Some r'))) n) ≡ true) main (subst (λ xs. any_starts u xs ≡ true) (sym done_there) (grown_starts u r r' m.item grown k)) in
        go (u == 0) in_main
      where
        go : (b : Bool) → any_starts u (list_in (map done_of (slice_set w.runners t (Some r'))) 0) ≡ true → (b || any_starts u (list_in (map done_of (slice_set w.runners t (Some r'))) 0)) ≡ true
        go true k = refl
        go false k = k

    nobody : (u : ℕ) → slice_get (slice_set w.runners t (Some r')) u ≡ Some None → starts u m.item ≡ false → (b : Bool) → (t == u) ≡ b → has_started (of_lists s (map done_of (slice_set w.runners t (Some r')))) u ≡ false
    nobody u k n true yes_ =
        let at_t : slice_get (slice_set w.runners t (Some r')) t ≡ Some None = subst (λ v. slice_get (slice_set w.runners t (Some r')) v ≡ Some None) (sym (eqb-true t u yes_)) k in
        let put = slice_get-set_same w.runners t (Some r) (Some r') at_ in
        cc (put, at_t)
    nobody u k n false no_ = go (u == 0) was (t == 0) refl
      where
        was : ((u == 0) || any_starts u (list_in (map done_of w.runners) 0)) ≡ false
        was = world.nobody u (sym (slice_get-set_other w.runners t u (Some r') (λ same. apart (t == u) (eq-eqb t u same) no_)) ∙ k)

        go : (b : Bool) → (b || any_starts u (list_in (map done_of w.runners) 0)) ≡ false → (c : Bool) → (t == 0) ≡ c → (b || any_starts u (list_in (map done_of (slice_set w.runners t (Some r'))) 0)) ≡ false
        go true m1 c e = cc
        go false m1 true yes_ =
            let main : t ≡ 0 = eqb-true t 0 yes_ in
            let old : any_starts u r.done ≡ false = subst (λ xs. any_starts u xs ≡ false) done_before (subst (λ v. any_starts u (list_in (map done_of w.runners) v) ≡ false) (sym main) m1) in
            subst (λ v. any_starts u (list_in (map done_of (slice_set w.runners t (Some r'))) v) ≡ false) main (subst (λ xs. any_starts u xs ≡ false) (sym done_there) (grown_none u r r' m.item grown old n))
        go false m1 false not_main =
            let ne : t ≡ 0 → ⊥ = λ same. apart (t == 0) (eq-eqb t 0 same) not_main in
            let same : list_in (map done_of (slice_set w.runners t (Some r'))) 0 ≡ list_in (map done_of w.runners) 0 = ap (λ o. items_of (option_and_then (λ l. l) o)) (slice_get-map done_of (slice_set w.runners t (Some r')) 0 ∙ (ap (option_map done_of) (slice_get-set_other w.runners t 0 (Some r') ne) ∙ sym (slice_get-map done_of w.runners 0))) in
            subst (λ xs. any_starts u xs ≡ false) (sym same) m1

-- ---- the opening

nothing_done : (ts : List Thread) (u : ℕ) → list_in (map done_of (map (λ (v : Thread). nobody_there) ts)) u ≡ []
nothing_done [] u = refl
nothing_done (t ∷ ts) zero = refl
nothing_done (t ∷ ts) (suc u) = nothing_done ts u

opening_list : (s : Scene) (ts : List Thread) (u : ℕ) → list_in (map done_of (opening_runners s ts)) u ≡ []
opening_list s [] u = refl
opening_list s (t ∷ ts) zero = refl
opening_list s (t ∷ ts) (suc u) = nothing_done ts u

no_runner : (ts : List Thread) (i : ℕ) (r : Runner) → slice_get (map (λ (u : Thread). nobody_there) ts) i ≡ Some (Some r) → ⊥
no_runner [] i r e = cc
no_runner (t ∷ ts) zero r e = cc
no_runner (t ∷ ts) (suc i) r e = no_runner ts i r e

-- only main is there
opening_main : (s : Scene) (ts : List Thread) (u : ℕ) (r : Runner) → slice_get (opening_runners s ts) u ≡ Some (Some r) → u ≡ 0
opening_main s [] u r e = cc
opening_main s (t ∷ ts) zero r e = refl
opening_main s (t ∷ ts) (suc u) r e = absurd (no_runner ts u r e)

opening_count : (s : Scene) (ts : List Thread) → length (opening_runners s ts) ≡ length ts
opening_count s [] = refl
opening_count s (t ∷ ts) = ap suc (go ts)
  where
    go : (us : List Thread) → length (map (λ (v : Thread). nobody_there) us) ≡ length us
    go [] = refl
    go (u ∷ us) = ap suc (go us)

opening_is_good : (s : Scene) → Good s (opening_world s).things (opening_world s).runners
unfolding GoodWorld
opening_is_good s = opening_good s

opening_whole : (s : Scene) → WholeWorld s (opening_world s)
opening_whole s = record {
  whole = record {
    good = opening_is_good s;
    sane = record {
      shown = λ u i y h. absurd (nothing u i y h);
      rising = λ u i y h. absurd (nothing u i y h);
      ordered = λ u i y h. absurd (nothing u i y h);
      places = λ u o. subst (λ xs. place_from o 0 xs ≤ many lists o) (sym (opening_list s s.threads u)) (omega arith);
      knows = λ o. subst (λ xs. KnowsBelow (many lists o) (knows_from (of_lists s lists) o knows_nothing xs)) (sym (opening_list s s.threads 0)) (record { place = omega arith; owed = omega arith; begun = λ u. omega arith });
      started = λ u k h. started u k h;
    };
    joined = λ u h. absurd (no_joins u h);
    quiet = λ u r other h. absurd (omega (arith, other, opening_main s s.threads u r h));
  };
  nobody = λ u h. nobody u h;
  count = opening_count s s.threads;
}
  where
    lists : Lists
    lists = map done_of (opening_runners s s.threads)

    nothing : (u i : ℕ) (y : Item) → slice_get (list_in (map done_of (opening_runners s s.threads)) u) i ≡ Some y → ⊥
    nothing u i y h = let none : List Item = [] in let gone : slice_get none i ≡ Some y = subst (λ xs. slice_get xs i ≡ Some y) (opening_list s s.threads u) h in cc

    no_joins : (u : ℕ) → any_joins u (list_in (map done_of (opening_runners s s.threads)) 0) ≡ true → ⊥
    no_joins u h = let gone : any_joins u [] ≡ true = subst (λ xs. any_joins u xs ≡ true) (opening_list s s.threads 0) h in cc

    started : (u : ℕ) (k : List Item) → slice_get (map done_of (opening_runners s s.threads)) u ≡ Some (Some k) → has_started (of_lists s (map done_of (opening_runners s s.threads))) u ≡ true
    started u k h = go (slice_get (opening_runners s s.threads) u) refl (sym (slice_get-map done_of (opening_runners s s.threads) u) ∙ h)
      where
        main : u ≡ 0 → has_started (of_lists s (map done_of (opening_runners s s.threads))) u ≡ true
        main e = rw e refl

        go : (o : Option (Option Runner)) → slice_get (opening_runners s s.threads) u ≡ o → option_map done_of o ≡ Some (Some k) → has_started (of_lists s (map done_of (opening_runners s s.threads))) u ≡ true
        go None p m = cc
        go (Some None) p m = cc
        go (Some (Some r)) p m = main (opening_main s s.threads u r p)

    nobody : (u : ℕ) → slice_get (opening_runners s s.threads) u ≡ Some None → has_started (of_lists s (map done_of (opening_runners s s.threads))) u ≡ false
    nobody u h = subst (λ xs. ((u == 0) || any_starts u xs) ≡ false) (sym (opening_list s s.threads 0)) (go s.threads u h)
      where
        go : (ts : List Thread) (v : ℕ) → slice_get (opening_runners s ts) v ≡ Some None → ((v == 0) || false) ≡ false
        go [] v e = cc
        go (t ∷ ts) zero e = cc
        go (t ∷ ts) (suc v) e = other (suc v == 0) refl
          where
            other : (b : Bool) → (suc v == 0) ≡ b → (b || false) ≡ false
            other true yes_ = absurd (omega (arith, eqb-true (suc v) 0 yes_))
            other false no_ = refl

pub turns_whole : (n : ℕ) (s : Scene) (seed : Option ℕ) (x : Turn) → OnlyMainStarts s → turns n s (start s seed) ≡ Some x → WholeWorld s x.world
turns_whole n s seed x only h = turns_keep s (WholeWorld s) (whole_step s only) n (start s seed) x (opening_whole s) h
