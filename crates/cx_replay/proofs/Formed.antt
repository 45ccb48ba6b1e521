-- Each item of a replay is one that a line of a record may hold.
use Rattle.std.proofs.Common.{◌≡◌, ℕ, zero, suc, ◌+◌, ◌^◌, ◌<◌, ◌≤◌, ◌==◌, Bool, true, false, List, [], ◌∷◌, ◌++◌, map, length, Option, Some, None, option_and_then, option_map, is_none, slice_get, slice_set, nat_lt, nat_le, if◌then◌else◌, refl, sym, ap, ◌∙◌, subst, arith, eqb-true, eq-eqb, lt-ltb, leb-true}
use Rattle.std.proofs.lemmas.Option.{slice_get-map}
use Rattle.std.proofs.lemmas.List.{length-map}
use Rattle.std.proofs.lemmas.Bool.{and_parts}
use Rattle.cx_names.specs.declared.ObjectNo.{ObjectNo}
use Rattle.cx_names.specs.declared.Reply.{Reply}
use Rattle.cx_names.specs.declared.Reply.TheVariants as replies
use Rattle.cx_machine.specs.declared.kind.Entry.{Entry}
use Rattle.cx_scene.specs.declared.declared.Object.{Object}
use Rattle.cx_scene.specs.declared.declared.Thread.{Thread}
use Rattle.cx_scene.specs.Scene.{Scene, kind_of}
use Rattle.cx_items.specs.declared.item.Control.TheVariants as controls
use Rattle.cx_items.specs.declared.item.Item.{Item}
use Rattle.cx_items.specs.declared.item.Item.TheVariants as items
use Rattle.cx_items.specs.Next.{after_item, local_at_start}
use Rattle.cx_history.specs.Histories.{Placed, changes_from, in_order, history, items_of, item_at}
use Rattle.cx_history.specs.IsRecord.{is_item, IsRecord}
use Rattle.cx_history.specs.Legal.{shows_to, state_after}
use Rattle.cx_history.proofs.Appending.{length-in_order}
use Rattle.cx_replay.specs.Starting.{OnlyMainStarts}
use Rattle.cx_replay.specs.Schedule.{Thing, Runner, World, Turn, Replayed, Replays, is_completing_now, beginner, begun_at, with_beginner, turns, opening_runners, opening_thing, opening_world, done_of, recorded_in, start}
use Rattle.cx_replay.specs.Views.{HasFewChanges}
use Rattle.cx_replay.proofs.Kept.{slice_get-set_same, slice_get-set_other, Moves, changed, looked, controlled, replied}
use Rattle.cx_replay.proofs.Stepping.{ItemKeeps, StepKeeps, MayBe, made_keeps, turns_keep}
use Rattle.cx_replay.proofs.Followed.{past_end, apart, moved_by, known_moves, Known, HasChange, here, there, is_below, in_list, all_below}
use Rattle.cx_replay.proofs.Whole.{WholeWorld, turns_whole}
use Rattle.cx_replay.proofs.Acting.{Fit, fit_opens, fit_steps, change_words, look_words}
use Rattle.cx_replay.proofs.Apt.{AptScene, IsApt, fine, apt_item, tells_fine, apt_after, apt_at_start}

-- ---- items

-- the item may stand in thread t's list, if its number is below the bound of numbers
abbrev pub IsFormed : Scene → ℕ → Item → Type 0
IsFormed s t (items.Change o p e) = (d : Object) × (slice_get s.objects o.0 ≡ Some d) × (p < 2 ^ 28 → is_item s t (items.Change o p e) ≡ true)
IsFormed s t (items.Look o l) = (d : Object) × (slice_get s.objects o.0 ≡ Some d) × (l.at < 2 ^ 28 → is_item s t (items.Look o l) ≡ true)
IsFormed s t (items.Control c) = is_item s t (items.Control c) ≡ true
IsFormed s t (items.Said r) = is_item s t (items.Said r) ≡ true

abbrev pub AreFormed : Scene → ℕ → List Item → Type 0
AreFormed s t xs = (i : ℕ) (x : Item) → slice_get xs i ≡ Some x → IsFormed s t x

one_more_formed : (s : Scene) (t : ℕ) (xs : List Item) (x : Item) → AreFormed s t xs → IsFormed s t x → AreFormed s t (xs ++ x ∷ [])
one_more_formed s t [] x all one zero y e = let same : x ≡ y = cc in subst (IsFormed s t) same one
one_more_formed s t [] x all one (suc i) y e = cc
one_more_formed s t (z ∷ zs) x all one zero y e = all zero y e
one_more_formed s t (z ∷ zs) x all one (suc i) y e = one_more_formed s t zs x (λ j v k. all (suc j) v k) one i y e

-- ---- what is kept

pub record Formed (s : Scene) (things : List Thing) (rs : List (Option Runner)) : Type 0 where
  pub known : Known s things
  pub fits : (o : ℕ) (d : Object) (x : Thing) → slice_get s.objects o ≡ Some d → slice_get things o ≡ Some x → Fit (length s.threads) x.changes (kind_of d) x.state
  pub lists : (t : ℕ) (r : Runner) → slice_get rs t ≡ Some (Some r) → AreFormed s t r.done
  pub places : (t : ℕ) (r : Runner) → slice_get rs t ≡ Some (Some r) → IsApt s r.local
  pub count : length rs ≡ length s.threads

within : {X : Type 0} (xs : List X) (i : ℕ) (x : X) → slice_get xs i ≡ Some x → i < length xs
within [] i x e = cc
within (y ∷ ys) zero x e = omega arith
within (y ∷ ys) (suc i) x e = let rest = within ys i x e in omega (arith, rest)

same_length : {X : Type 0} (xs : List X) (i : ℕ) (x : X) → length (slice_set xs i x) ≡ length xs
same_length [] i x = refl
same_length (y ∷ ys) zero x = refl
same_length (y ∷ ys) (suc i) x = ap suc (same_length ys i x)

said_item : (s : Scene) (t : ℕ) (r : Reply) → fine s r ≡ true → is_item s t (items.Said r) ≡ true
said_item s t (replies.Thread u) h = h
said_item s t _ h = refl

-- an act of one of the threads, on a state of its object
act_formed : (s : Scene) (things things' : List Thing) (t : ℕ) (x : Item) → Known s things → ((o : ℕ) (d : Object) (y : Thing) → slice_get s.objects o ≡ Some d → slice_get things o ≡ Some y → Fit (length s.threads) y.changes (kind_of d) y.state)
    → (rs : List (Option Runner)) → Moves things x things' → MayBe t rs x → apt_item s x ≡ true → IsFormed s t x × (tells_fine s x ≡ true)
act_formed s things things' t x known fits rs (changed q e y next at_ enabled) own apt =
    let d = known q.0 y at_ in
    let words = change_words (length s.threads) y.changes (kind_of d.0) y.state next e (fits q.0 d.0 y d.1 at_) apt enabled in
    ((d.0, d.1, λ few. (let low : nat_lt y.changes (2 ^ 28) ≡ true = lt-ltb y.changes (2 ^ 28) few in rw (own.1, low, d.1, words.0 few) refl)), words.1)
act_formed s things things' t x known fits rs (looked q l y at_ shown) own apt =
    let d = known q.0 y at_ in
    let words = look_words (length s.threads) y.changes (kind_of d.0) y.state l (fits q.0 d.0 y d.1 at_) apt shown in
    ((d.0, d.1, λ few. (let low : nat_lt y.changes (2 ^ 28) ≡ true = lt-ltb y.changes (2 ^ 28) few in rw (own.1, low, d.1, words.0) refl)), words.1)
act_formed s things things' t x known fits rs (controlled c) own apt = (apt, refl)
act_formed s things things' t x known fits rs (replied r) own apt = (said_item s t r apt, refl)

-- the states after it
states_fit : (s : Scene) (things things' : List Thing) (t : ℕ) (x : Item) (rs : List (Option Runner)) → Known s things → ((o : ℕ) (d : Object) (y : Thing) → slice_get s.objects o ≡ Some d → slice_get things o ≡ Some y → Fit (length s.threads) y.changes (kind_of d) y.state)
    → t < length s.threads → Moves things x things' → MayBe t rs x → (o : ℕ) (d : Object) (y : Thing) → slice_get s.objects o ≡ Some d → slice_get things' o ≡ Some y → Fit (length s.threads) y.changes (kind_of d) y.state
states_fit s things things' t x rs known fits lt (looked q l th at_ shown) own o d y e k = fits o d y e k
states_fit s things things' t x rs known fits lt (controlled c) own o d y e k = fits o d y e k
states_fit s things things' t x rs known fits lt (replied r) own o d y e k = fits o d y e k
states_fit s things things' t x rs known fits lt (changed q en th next at_ enabled) own o d y e k = go (q.0 == o) refl
  where
    new : Thing
    new = record { state = next; changes = th.changes + 1 }

    go : (b : Bool) → (q.0 == o) ≡ b → Fit (length s.threads) y.changes (kind_of d) y.state
    go false no_ = fits o d y e (sym (slice_get-set_other things q.0 o (record { state = next; changes = th.changes + 1 }) (λ same. apart (q.0 == o) (eq-eqb q.0 o same) no_)) ∙ k)
    go true yes_ =
        let same : q.0 ≡ o = eqb-true q.0 o yes_ in
        let put : slice_get (slice_set things q.0 (record { state = next; changes = th.changes + 1 })) q.0 ≡ Some (record { state = next; changes = th.changes + 1 }) = slice_get-set_same things q.0 th (record { state = next; changes = th.changes + 1 }) at_ in
        let k' : slice_get (slice_set things q.0 (record { state = next; changes = th.changes + 1 })) q.0 ≡ Some y = subst (λ n. slice_get (slice_set things q.0 (record { state = next; changes = th.changes + 1 })) n ≡ Some y) (sym same) k in
        let is : new ≡ y = one_there put k' in
        let at_o : slice_get things o ≡ Some th = subst (λ n. slice_get things n ≡ Some th) same at_ in
        let mine : en.by.0 < length s.threads = (let by = eqb-true en.by.0 t own.1 in omega (arith, by, lt)) in
        subst (λ (v : Thing). Fit (length s.threads) v.changes (kind_of d) v.state) is (fit_steps (length s.threads) th.changes (kind_of d) th.state next en (fits o d th e at_o) mine enabled)
      where
        one_there : {o : Option Thing} {a b : Thing} → o ≡ Some a → o ≡ Some b → a ≡ b
        one_there p q = cc

-- ---- one item

formed_item : (s : Scene) → AptScene s → ItemKeeps s (Formed s)
formed_item s scene things things' rs t r r1 x f e moves own h = record {
  known = known_moves s things things' x f.known moves;
  fits = states_fit s things things' t x rs f.known f.fits lt moves own;
  lists = λ u q k. list_after u q k (t == u) refl;
  places = λ u q k. place_after u q k (t == u) refl;
  count = same_length rs t (Some r1) ∙ f.count;
}
  where
    went : (after_item s (is_completing_now things') t r.local x ≡ Some r1.local) × (r1.done ≡ r.done ++ x ∷ [])
    went = moved_by (r.done ++ x ∷ []) (after_item s (is_completing_now things') t r.local x) r1 h

    lt : t < length s.threads
    lt = subst (λ n. t < n) f.count (within rs t (Some r) e)

    apt : (apt_item s x ≡ true) × (tells_fine s x ≡ true → IsApt s r1.local)
    apt = apt_after s (is_completing_now things') t r.local r1.local x scene (f.places t r e) went.0

    act : IsFormed s t x × (tells_fine s x ≡ true)
    act = act_formed s things things' t x f.known f.fits rs moves own apt.0

    -- the runner that was put
    put_there : (u : ℕ) (q : Runner) → slice_get (slice_set rs t (Some r1)) u ≡ Some (Some q) → (t == u) ≡ true → (t ≡ u) × (r1 ≡ q)
    put_there u q k yes_ =
        let same : t ≡ u = eqb-true t u yes_ in
        let at_t : slice_get (slice_set rs t (Some r1)) t ≡ Some (Some q) = subst (λ n. slice_get (slice_set rs t (Some r1)) n ≡ Some (Some q)) (sym same) k in
        let put = slice_get-set_same rs t (Some r) (Some r1) e in
        let is : r1 ≡ q = cc (put, at_t) in
        (same, is)

    old_there : (u : ℕ) (q : Runner) → slice_get (slice_set rs t (Some r1)) u ≡ Some (Some q) → (t == u) ≡ false → slice_get rs u ≡ Some (Some q)
    old_there u q k no_ = sym (slice_get-set_other rs t u (Some r1) (λ same. apart (t == u) (eq-eqb t u same) no_)) ∙ k

    list_after : (u : ℕ) (q : Runner) → slice_get (slice_set rs t (Some r1)) u ≡ Some (Some q) → (b : Bool) → (t == u) ≡ b → AreFormed s u q.done
    list_after u q k true yes_ =
        let is = put_there u q k yes_ in
        let now : AreFormed s t r1.done = subst (AreFormed s t) (sym went.1) (one_more_formed s t r.done x (f.lists t r e) act.0) in
        subst (λ n. AreFormed s n q.done) is.0 (subst (λ (v : Runner). AreFormed s t v.done) is.1 now)
    list_after u q k false no_ = f.lists u q (old_there u q k no_)

    place_after : (u : ℕ) (q : Runner) → slice_get (slice_set rs t (Some r1)) u ≡ Some (Some q) → (b : Bool) → (t == u) ≡ b → IsApt s q.local
    place_after u q k true yes_ = let is = put_there u q k yes_ in subst (λ (v : Runner). IsApt s v.local) is.1 (apt.1 act.1)
    place_after u q k false no_ = f.places u q (old_there u q k no_)

-- ---- a thread begins

new_there : (s : Scene) (rs : List (Option Runner)) (u : ℕ) (q : Runner) → is_none (option_and_then (λ r. r) (slice_get rs u)) ≡ true → slice_get (slice_set rs u (beginner s u)) u ≡ Some (Some q) → beginner s u ≡ Some q
new_there s rs u q h k = go (slice_get rs u) refl h
  where
    go : (o : Option (Option Runner)) → slice_get rs u ≡ o → is_none (option_and_then (λ r. r) o) ≡ true → beginner s u ≡ Some q
    go None p n = let away = past_end rs u (beginner s u) p in cc (away, k)
    go (Some None) p n = let put = slice_get-set_same rs u None (beginner s u) p in cc (put, k)
    go (Some (Some r)) p n = cc

none_formed : (s : Scene) (t : ℕ) → AreFormed s t []
none_formed s t i x e = cc

-- a beginner has made nothing
begins_formed : (s : Scene) (u v : ℕ) (q : Runner) → AptScene s → u ≡ v → beginner s u ≡ Some q → AreFormed s v q.done × IsApt s q.local
begins_formed s u v q scene same e =
    let new : Runner = record { local = local_at_start s u; done = [] } in
    let is : new ≡ q = cc in
    subst (λ (w : Runner). AreFormed s v w.done × IsApt s w.local) is (none_formed s v, apt_at_start s u scene)

formed_begun : (s : Scene) (things : List Thing) (u : ℕ) (rs : List (Option Runner)) → AptScene s → Formed s things rs → Formed s things (begun_at s u rs)
formed_begun s things u rs scene f = go (is_none (option_and_then (λ r. r) (slice_get rs u))) refl
  where
    each : is_none (option_and_then (λ r. r) (slice_get rs u)) ≡ true → (v : ℕ) (q : Runner) → slice_get (slice_set rs u (beginner s u)) v ≡ Some (Some q) → (b : Bool) → (u == v) ≡ b → AreFormed s v q.done × IsApt s q.local
    each h v q k true yes_ =
        let same : u ≡ v = eqb-true u v yes_ in
        let at_u : slice_get (slice_set rs u (beginner s u)) u ≡ Some (Some q) = subst (λ n. slice_get (slice_set rs u (beginner s u)) n ≡ Some (Some q)) (sym same) k in
        begins_formed s u v q scene same (new_there s rs u q h at_u)
    each h v q k false no_ =
        let at_v = sym (slice_get-set_other rs u v (beginner s u) (λ same. apart (u == v) (eq-eqb u v same) no_)) ∙ k in
        (f.lists v q at_v, f.places v q at_v)

    go : (b : Bool) → is_none (option_and_then (λ r. r) (slice_get rs u)) ≡ b → Formed s things (if b then slice_set rs u (beginner s u) else rs)
    go false h = f
    go true h = record {
      known = f.known;
      fits = f.fits;
      lists = λ v q k. (each h v q k (u == v) refl).0;
      places = λ v q k. (each h v q k (u == v) refl).1;
      count = same_length rs u (beginner s u) ∙ f.count;
    }

formed_if_begun : (s : Scene) (things : List Thing) (u : ℕ) (ok : Bool) (rs : List (Option Runner)) → AptScene s → Formed s things rs → Formed s things (if ok then begun_at s u rs else rs)
formed_if_begun s things u true rs scene f = formed_begun s things u rs scene f
formed_if_begun s things u false rs scene f = f

formed_with_beginner : (s : Scene) (things : List Thing) (x : Item) (rs : List (Option Runner)) → AptScene s → Formed s things rs → Formed s things (with_beginner s x rs)
formed_with_beginner s things (items.Change q p e) rs scene f = f
formed_with_beginner s things (items.Look q l) rs scene f = f
formed_with_beginner s things (items.Said r) rs scene f = f
formed_with_beginner s things (items.Control (controls.Start u ok)) rs scene f = formed_if_begun s things u.0 ok rs scene f
formed_with_beginner s things (items.Control (controls.Launch u ok)) rs scene f = formed_if_begun s things u.0 ok rs scene f
formed_with_beginner s things (items.Control (controls.Join u)) rs scene f = f

-- ---- all turns

unfoldable pub FormedWorld : Scene → World → Type 0
FormedWorld s w = Formed s w.things w.runners

formed_step : (s : Scene) → AptScene s → StepKeeps s (FormedWorld s)
unfolding FormedWorld
formed_step s scene w t r r' m f at_ moves own h = formed_with_beginner s m.things m.item (slice_set w.runners t (Some r')) scene (made_keeps s (Formed s) (formed_item s scene) w.things m.things w.runners t r r' m.item f at_ moves own h)

abbrev none_there : Thread → Option Runner
none_there u = None

no_runner : (ts : List Thread) (i : ℕ) (r : Runner) → slice_get (map none_there ts) i ≡ Some (Some r) → ⊥
no_runner [] i r e = cc
no_runner (t ∷ ts) zero r e = cc
no_runner (t ∷ ts) (suc i) r e = no_runner ts i r e

opening_formed : (s : Scene) → AptScene s → FormedWorld s (opening_world s)
unfolding FormedWorld
opening_formed s scene = record {
  known = known;
  fits = fits;
  lists = λ t r e. (each s.threads t r e).0;
  places = λ t r e. (each s.threads t r e).1;
  count = counted s.threads;
}
  where
    known : Known s (map opening_thing s.objects)
    known o x e = go (slice_get s.objects o) refl (sym (slice_get-map opening_thing s.objects o) ∙ e)
      where
        go : (od : Option Object) → slice_get s.objects o ≡ od → option_map opening_thing od ≡ Some x → (d : Object) × (slice_get s.objects o ≡ Some d)
        go None p k = cc
        go (Some d) p k = (d, p)

    fits : (o : ℕ) (d : Object) (x : Thing) → slice_get s.objects o ≡ Some d → slice_get (map opening_thing s.objects) o ≡ Some x → Fit (length s.threads) x.changes (kind_of d) x.state
    fits o d x e k =
        let put : slice_get (map opening_thing s.objects) o ≡ Some (opening_thing d) = slice_get-map opening_thing s.objects o ∙ ap (option_map opening_thing) e in
        let is : opening_thing d ≡ x = cc (put, k) in
        subst (λ (v : Thing). Fit (length s.threads) v.changes (kind_of d) v.state) is (fit_opens (length s.threads) (kind_of d))

    each : (ts : List Thread) (t : ℕ) (r : Runner) → slice_get (opening_runners s ts) t ≡ Some (Some r) → AreFormed s t r.done × IsApt s r.local
    each [] t r e = cc
    each (u ∷ us) zero r e =
        let new : Runner = record { local = local_at_start s 0; done = [] } in
        let is : new ≡ r = cc in
        subst (λ (w : Runner). AreFormed s 0 w.done × IsApt s w.local) is (none_formed s 0, apt_at_start s 0 scene)
    each (u ∷ us) (suc t) r e = absurd (no_runner us t r e)

    counted : (ts : List Thread) → length (opening_runners s ts) ≡ length ts
    counted [] = refl
    counted (u ∷ us) = ap suc (length-map us none_there)

pub turns_formed : (n : ℕ) (s : Scene) (seed : Option ℕ) (x : Turn) → AptScene s → turns n s (start s seed) ≡ Some x → Formed s x.world.things x.world.runners
unfolding FormedWorld
turns_formed n s seed x scene h = turns_keep s (FormedWorld s) (formed_step s scene) n (start s seed) x (opening_formed s scene) h

-- ---- the record

-- a change in a list
has_change : (o : ObjectNo) (p : ℕ) (e : Entry) (xs : List Item) (i : ℕ) → slice_get xs i ≡ Some (items.Change o p e) → HasChange o.0 p xs
has_change o p e [] i k = cc
has_change o p e (y ∷ ys) zero k = let is : items.Change o p e ≡ y = cc in subst (λ (z : Item). HasChange o.0 p (z ∷ ys)) is (here o e ys refl)
has_change o p e (y ∷ ys) (suc i) k = there y ys (has_change o p e ys i k)

formed_is_item : (s : Scene) (w : World) → WholeWorld s w → Formed s w.things w.runners → HasFewChanges s (recorded_in s w) → (t i : ℕ) (x : Item) → item_at (recorded_in s w) t i ≡ Some x → is_item s t x ≡ true
formed_is_item s w whole f few t i x h = go (slice_get w.runners t) refl (slice_get-map done_of w.runners t)
  where
    low : (r : Runner) → slice_get w.runners t ≡ Some (Some r) → (y : Item) → slice_get r.done i ≡ Some y → IsFormed s t y → item_at (recorded_in s w) t i ≡ Some y → is_item s t y ≡ true
    low r e (items.Change o p k) at_ formed there_ =
        let d = formed.0 in
        let here_ : slice_get (map done_of w.runners) t ≡ Some (Some r.done) = slice_get-map done_of w.runners t ∙ ap (option_map done_of) e in
        let so_far = (whole.whole.good.kept o.0 d formed.1).so_far in
        let below : p < length (changes_from o.0 0 (map done_of w.runners)) = is_below (length (changes_from o.0 0 (map done_of w.runners))) o.0 p (0 + t) 0 r.done (has_change o p k r.done i at_) (in_list (length (changes_from o.0 0 (map done_of w.runners))) o.0 0 t (map done_of w.runners) r.done here_ (all_below _ _ (changes_from o.0 0 (map done_of w.runners)) so_far)) in
        let most = few o.0 d formed.1 in
        formed.2 (omega (arith, below, most))
    low r e (items.Look o l) at_ formed there_ =
        let shown = whole.whole.sane.shown t i (items.Look o l) there_ in
        let long : length (history (recorded_in s w) o.0) ≡ length (changes_from o.0 0 (map done_of w.runners)) = length-map (in_order (changes_from o.0 0 (map done_of w.runners))) (λ (c : Placed). c.entry) ∙ length-in_order (changes_from o.0 0 (map done_of w.runners)) in
        let seen : l.at ≤ length (history (recorded_in s w) o.0) = leb-true l.at (length (history (recorded_in s w) o.0)) (and_parts (nat_le l.at (length (history (recorded_in s w) o.0))) (shows_to (state_after s (recorded_in s w) o l.at) l) shown).0 in
        let most = few o.0 formed.0 formed.1 in
        formed.2 (omega (arith, long, seen, most))
    low r e (items.Control c) at_ formed there_ = formed
    low r e (items.Said q) at_ formed there_ = formed

    go : (o : Option (Option Runner)) → slice_get w.runners t ≡ o → slice_get (map done_of w.runners) t ≡ option_map done_of o → is_item s t x ≡ true
    go None e k = let none : item_at (recorded_in s w) t i ≡ slice_get [] i = ap (λ l. slice_get (items_of (option_and_then (λ v. v) l)) i) k in cc (none, h)
    go (Some None) e k = let none : item_at (recorded_in s w) t i ≡ slice_get [] i = ap (λ l. slice_get (items_of (option_and_then (λ v. v) l)) i) k in cc (none, h)
    go (Some (Some r)) e k =
        let same : item_at (recorded_in s w) t i ≡ slice_get r.done i = ap (λ l. slice_get (items_of (option_and_then (λ v. v) l)) i) k in
        low r e x (sym same ∙ h) (f.lists t r e i x (sym same ∙ h)) h

pub formed_record : (s : Scene) (seed : Option ℕ) (outcome : Replayed) → AptScene s → OnlyMainStarts s → Replays s seed outcome → HasFewChanges s outcome.recorded → IsRecord s outcome.recorded
formed_record s seed outcome scene only run few =
    let whole = turns_whole run.count s seed run.last only run.run in
    let formed = turns_formed run.count s seed run.last scene run.run in
    let few_ : HasFewChanges s (recorded_in s run.last.world) = subst (λ (v : Replayed). HasFewChanges s v.recorded) run.result few in
    let is : IsRecord s (recorded_in s run.last.world) = record {
      version = refl;
      count = length-map run.last.world.runners done_of ∙ whole.count;
      each = λ t i x h. formed_is_item s run.last.world whole formed few_ t i x h;
    } in
    subst (λ (v : Replayed). IsRecord s v.recorded) (sym run.result) is
