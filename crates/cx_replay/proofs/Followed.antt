-- What each turn of a replay keeps of the lists: each leads, by the items that the text allows, to the place where its thread stands.
use Rattle.std.proofs.Common.{◌≡◌, ℕ, zero, suc, ◌+◌, ◌<◌, ◌≤◌, ◌==◌, Bool, true, false, List, [], ◌∷◌, ◌++◌, map, length, Option, Some, None, option_and_then, option_map, slice_get, slice_set, is_none, if◌then◌else◌, refl, sym, ap, ◌∙◌, subst, arith, eqb-true, eq-eqb, add-zero}
use Rattle.std.proofs.lemmas.Option.{slice_get-map}
use Rattle.std.proofs.lemmas.List.{map-set}
use Rattle.cx_names.specs.declared.ObjectNo.{ObjectNo}
use Rattle.cx_machine.specs.declared.kind.Entry.{Entry}
use Rattle.cx_machine.specs.Machine.{State, opening}
use Rattle.cx_scene.specs.declared.declared.Object.{Object}
use Rattle.cx_scene.specs.Scene.{Scene, kind_of}
use Rattle.cx_items.specs.declared.item.Control.TheVariants as controls
use Rattle.cx_items.specs.declared.item.Item.{Item}
use Rattle.cx_items.specs.declared.item.Item.TheVariants as items
use Rattle.cx_items.specs.Next.{Local, is_due, moved, after_item, local_at_start}
use Rattle.cx_history.specs.Histories.{changes_of, Placed, items_of, change_on, changes_in, changes_from, in_order}
use Rattle.cx_history.specs.Follows.{after_items, completes_by, completes, is_completing}
use Rattle.cx_history.specs.Flaw.{IsSoFar}
use Rattle.cx_history.proofs.Appending.{AreBelow, more, AreBelow-front, AreBelow-back, below-in_order, gap-below, length-in_order, completion_is_known, completion_stays, one_item_more}
use Rattle.cx_scene.specs.declared.declared.Thread.{Thread}
use Rattle.cx_replay.specs.Schedule.{Thing, Runner, World, Turn, is_completing_now, moved_to, goes_on, beginner, begun_at, with_beginner, turns, opening_runners, opening_thing, opening_world, done_of, recorded_in, start}
use Rattle.cx_replay.proofs.Stepping.{ItemKeeps, StepKeeps, made_keeps, turns_keep}
use Rattle.cx_replay.proofs.Kept.{slice_get-set_same, slice_get-set_other, split, Kept, Moves, changed, looked, controlled, replied, kept_item, unchanged, begun-same, opening_kept}

abbrev nobody : Option Runner
nobody = None

pub past_end : {X : Type 0} (xs : List X) (i : ℕ) (v : X) → slice_get xs i ≡ None → slice_get (slice_set xs i v) i ≡ None
past_end [] i v e = refl
past_end (y ∷ ys) zero v e = cc
past_end (y ∷ ys) (suc i) v e = past_end ys i v e

-- the condition on completions, of lists
abbrev pub completes_in : Scene → List (Option (List Item)) → ℕ → ℕ → Bool
completes_in s lists o p = elim (slice_get s.objects o) [ None ↦ false | Some d ↦ completes_by (opening (kind_of d)) (changes_from o 0 lists) p ]

pub apart : (b : Bool) → b ≡ true → b ≡ false → ⊥
apart b h k = cc

-- ---- a list has a change on o at p

pub data HasChange (o p : ℕ) : List Item → Type 0 where
  here : (q : ObjectNo) (e : Entry) (xs : List Item) → q.0 ≡ o → HasChange o p (items.Change q p e ∷ xs)
  there : (x : Item) (xs : List Item) → HasChange o p xs → HasChange o p (x ∷ xs)

pub is_below : (n o p t i : ℕ) (xs : List Item) → HasChange o p xs → AreBelow n (changes_in o t i xs) → p < n
is_below n o p t i xs (there x ys h) all = is_below n o p t (i + 1) ys h (AreBelow-back n (change_on o t i x) (changes_in o t (i + 1) ys) all)
is_below n o p t i xs (here q e ys same) all = go (q.0 == o) refl all
  where
    rest : List Placed
    rest = changes_in o t (i + 1) ys

    go : (b : Bool) → (q.0 == o) ≡ b → AreBelow n ((if b then record { position = p; thread = t; item = i; entry = e } ∷ [] else []) ++ changes_in o t (i + 1) ys) → p < n
    go true yes_ (more c cs h below) = h
    go false no_ below = let yes_ : (q.0 == o) ≡ true = eq-eqb q.0 o same in absurd (apart (q.0 == o) yes_ no_)

pub in_list : (n o v t : ℕ) (ls : List (Option (List Item))) (l : List Item) → slice_get ls t ≡ Some (Some l) → AreBelow n (changes_from o v ls) → AreBelow n (changes_in o (v + t) 0 l)
in_list n o v t [] l e all = cc
in_list n o v zero (k ∷ ks) l e all =
    let same : k ≡ Some l = cc in
    let front = AreBelow-front n (changes_in o v 0 (items_of k)) (changes_from o (v + 1) ks) all in
    subst (λ m. AreBelow n (changes_in o m 0 l)) (sym (add-zero v)) (subst (λ m. AreBelow n (changes_in o v 0 (items_of m))) same front)
in_list n o v (suc t) (k ∷ ks) l e all =
    let back = AreBelow-back n (changes_in o v 0 (items_of k)) (changes_from o (v + 1) ks) all in
    let same : (v + 1) + t ≡ v + suc t = omega arith in
    subst (λ m. AreBelow n (changes_in o m 0 l)) same (in_list n o (v + 1) t ks l e back)

pub all_below : (from state : State) (changes : List Placed) → IsSoFar from changes state → AreBelow (length changes) changes
all_below from state changes so_far = below-in_order (length changes) changes (gap-below 0 (length changes) (in_order changes) (fits (length (in_order changes)) (length changes) (length-in_order changes)) so_far.gapless)
  where
    fits : (m n : ℕ) → m ≡ n → 0 + m ≤ n
    fits m n h = omega arith

-- ---- where a list leads depends on completions only at its own changes

due_same : (c c' : ℕ → ℕ → Bool) (x : Item) (xs : List Item) → ((o p : ℕ) → HasChange o p (x ∷ xs) → c o p ≡ c' o p) → is_due c x ≡ is_due c' x
due_same c c' (items.Change q p e) xs same = same q.0 p (here q e xs refl)
due_same c c' (items.Look q l) xs same = refl
due_same c c' (items.Control k) xs same = refl
due_same c c' (items.Said r) xs same = refl

item_same : (s : Scene) (c c' : ℕ → ℕ → Bool) (t : ℕ) (l : Local) (x : Item) → is_due c x ≡ is_due c' x → after_item s c t l x ≡ after_item s c' t l x
item_same s c c' t l x same = ap (λ b. moved s b t l x) same

list_same : (s : Scene) (c c' : ℕ → ℕ → Bool) (t : ℕ) (l : Local) (xs : List Item) → ((o p : ℕ) → HasChange o p xs → c o p ≡ c' o p) → after_items s c t l xs ≡ after_items s c' t l xs
list_same s c c' t l [] same = refl
list_same s c c' t l (x ∷ xs) same = ap (λ o. option_and_then (λ k. after_items s c t k xs) o) (item_same s c c' t l x (due_same c c' x xs same)) ∙ go (after_item s c' t l x) (λ k. list_same s c c' t k xs (λ o p h. same o p (there x xs h)))
  where
    go : (o : Option Local) → ((k : Local) → after_items s c t k xs ≡ after_items s c' t k xs) → option_and_then (λ k. after_items s c t k xs) o ≡ option_and_then (λ k. after_items s c' t k xs) o
    go None h = refl
    go (Some k) h = h k

-- ---- one more item alters no completion before it

completes_at : (s : Scene) (o p : ℕ) (lists lists' : List (Option (List Item))) → ((d : Object) → slice_get s.objects o ≡ Some d → completes_by (opening (kind_of d)) (changes_from o 0 lists) p ≡ completes_by (opening (kind_of d)) (changes_from o 0 lists') p) → completes_in s lists o p ≡ completes_in s lists' o p
completes_at s o p lists lists' same = go (slice_get s.objects o) refl
  where
    go : (od : Option Object) → slice_get s.objects o ≡ od → (let a : Bool = elim od [ None ↦ false | Some d ↦ completes_by (opening (kind_of d)) (changes_from o 0 lists) p ] in let b : Bool = elim od [ None ↦ false | Some d ↦ completes_by (opening (kind_of d)) (changes_from o 0 lists') p ] in a ≡ b)
    go None e = refl
    go (Some d) e = same d e

by_changes : (from : State) (p : ℕ) (cs ds : List Placed) → cs ≡ ds → completes_by from cs p ≡ completes_by from ds p
by_changes from p cs ds e = ap (λ xs. completes_by from xs p) e

aside_same : (from : State) (o p t : ℕ) (lists : List (Option (List Item))) (l : List Item) (x : Item) → slice_get lists t ≡ Some (Some l) → change_on o (0 + t) (length l) x ≡ [] → completes_by from (changes_from o 0 lists) p ≡ completes_by from (changes_from o 0 (slice_set lists t (Some (l ++ x ∷ [])))) p
aside_same from o p t lists l x e none_here =
    let sp = split o 0 t lists l x e in
    by_changes from p (changes_from o 0 lists) (changes_from o 0 (slice_set lists t (Some (l ++ x ∷ [])))) (sp.old ∙ (ap (λ cs. sp.pre ++ (cs ++ sp.post)) (sym none_here) ∙ sym sp.new))

-- at a position that is taken already
stays : (s : Scene) (things things' : List Thing) (lists : List (Option (List Item))) (t : ℕ) (l : List Item) (x : Item) → Kept s things lists → slice_get lists t ≡ Some (Some l) → Moves things x things' → (o p : ℕ) (d : Object) → slice_get s.objects o ≡ Some d → p < length (changes_from o 0 lists) → completes_by (opening (kind_of d)) (changes_from o 0 lists) p ≡ completes_by (opening (kind_of d)) (changes_from o 0 (slice_set lists t (Some (l ++ x ∷ [])))) p
stays s things things' lists t l x kept e (looked q k th there_ shown) o p d at_ low = aside_same (opening (kind_of d)) o p t lists l (items.Look q (record k { at = th.changes })) e refl
stays s things things' lists t l x kept e (controlled c) o p d at_ low = aside_same (opening (kind_of d)) o p t lists l (items.Control c) e refl
stays s things things' lists t l x kept e (replied r) o p d at_ low = aside_same (opening (kind_of d)) o p t lists l (items.Said r) e refl
stays s things things' lists t l x kept e (changed q en th next there_ enabled) o p d at_ low = go (q.0 == o) refl
  where
    go : (b : Bool) → (q.0 == o) ≡ b → completes_by (opening (kind_of d)) (changes_from o 0 lists) p ≡ completes_by (opening (kind_of d)) (changes_from o 0 (slice_set lists t (Some (l ++ items.Change q th.changes en ∷ [])))) p
    go false no_ =
        let none_here : change_on o (0 + t) (length l) (items.Change q th.changes en) ≡ [] = rw no_ refl in
        aside_same (opening (kind_of d)) o p t lists l (items.Change q th.changes en) e none_here
    go true yes_ =
        let from = opening (kind_of d) in
        let k = kept o d at_ in
        let same : q.0 ≡ o = eqb-true q.0 o yes_ in
        let there_o : slice_get things o ≡ Some th = subst (λ n. slice_get things n ≡ Some th) same there_ in
        let same_thing : k.thing ≡ th = cc (there_o, k.there) in
        let sp = split o 0 t lists l (items.Change q th.changes en) e in
        let c : Placed = record { position = th.changes; thread = 0 + t; item = length l; entry = en } in
        let one : change_on o (0 + t) (length l) (items.Change q th.changes en) ≡ c ∷ [] = rw yes_ refl in
        let new : changes_from o 0 (slice_set lists t (Some (l ++ items.Change q th.changes en ∷ []))) ≡ sp.pre ++ (c ∷ sp.post) = sp.new ∙ ap (λ cs. sp.pre ++ (cs ++ sp.post)) one in
        let before : IsSoFar from (sp.pre ++ sp.post) k.thing.state = subst (λ cs. IsSoFar from cs k.thing.state) sp.old k.so_far in
        let place : th.changes ≡ length (changes_from o 0 lists) = ap (λ (v : Thing). v.changes) (sym same_thing) ∙ k.count in
        let first : p < th.changes = subst (λ n. p < n) (sym place) low in
        let kept_ = completion_stays from k.thing.state sp.pre sp.post c p before (place ∙ ap length sp.old) first in
        by_changes from p (changes_from o 0 lists) (sp.pre ++ sp.post) sp.old ∙ (sym kept_ ∙ sym (by_changes from p (changes_from o 0 (slice_set lists t (Some (l ++ items.Change q th.changes en ∷ [])))) (sp.pre ++ (c ∷ sp.post)) new))

-- a list that is in the record leads where it led
still : (s : Scene) (things things' : List Thing) (lists : List (Option (List Item))) (t u : ℕ) (l xs : List Item) (x : Item) (from : Local) → Kept s things lists → slice_get lists t ≡ Some (Some l) → Moves things x things' → slice_get lists u ≡ Some (Some xs) → after_items s (completes_in s lists) u from xs ≡ after_items s (completes_in s (slice_set lists t (Some (l ++ x ∷ [])))) u from xs
still s things things' lists t u l xs x from kept e moves e_u = list_same s (completes_in s lists) (completes_in s (slice_set lists t (Some (l ++ x ∷ [])))) u from xs same
  where
    same : (o p : ℕ) → HasChange o p xs → completes_in s lists o p ≡ completes_in s (slice_set lists t (Some (l ++ x ∷ []))) o p
    same o p h = completes_at s o p lists (slice_set lists t (Some (l ++ x ∷ []))) (λ d at_. stays s things things' lists t l x kept e moves o p d at_ (is_below (length (changes_from o 0 lists)) o p (0 + u) 0 xs h (in_list (length (changes_from o 0 lists)) o 0 u lists xs e_u (all_below (opening (kind_of d)) (kept o d at_).thing.state (changes_from o 0 lists) (kept o d at_).so_far))))

-- ---- the item that is made: the record's condition on its completion is what the machine's state says

abbrev pub Known : Scene → List Thing → Type 0
Known s things = (o : ℕ) (x : Thing) → slice_get things o ≡ Some x → (d : Object) × (slice_get s.objects o ≡ Some d)

completes_declared : (s : Scene) (lists : List (Option (List Item))) (o p : ℕ) (d : Object) → slice_get s.objects o ≡ Some d → completes_in s lists o p ≡ completes_by (opening (kind_of d)) (changes_from o 0 lists) p
completes_declared s lists o p d at_ = ap (λ (od : Option Object). let a : Bool = elim od [ None ↦ false | Some c ↦ completes_by (opening (kind_of c)) (changes_from o 0 lists) p ] in a) at_

now_same : (s : Scene) (things things' : List Thing) (lists : List (Option (List Item))) (t : ℕ) (l : List Item) (x : Item) → Known s things → Kept s things lists → slice_get lists t ≡ Some (Some l) → Moves things x things' → is_due (completes_in s (slice_set lists t (Some (l ++ x ∷ [])))) x ≡ is_due (is_completing_now things') x
now_same s things things' lists t l x known kept e (looked q k th there_ shown) = refl
now_same s things things' lists t l x known kept e (controlled c) = refl
now_same s things things' lists t l x known kept e (replied r) = refl
now_same s things things' lists t l x known kept e (changed q en th next there_ enabled) =
    let grown : Thing = record { state = next; changes = th.changes + 1 } in
    let after = slice_set lists t (Some (l ++ items.Change q th.changes en ∷ [])) in
    let declared = known q.0 th there_ in
    let k = kept_item s things (slice_set things q.0 grown) lists t l (items.Change q th.changes en) kept e (changed q en th next there_ enabled) q.0 declared.0 declared.1 in
    let set_there = slice_get-set_same things q.0 th grown there_ in
    let same_thing : k.thing ≡ grown = cc (set_there, k.there) in
    let place : th.changes + 1 ≡ length (changes_from q.0 0 after) = ap (λ (v : Thing). v.changes) (sym same_thing) ∙ k.count in
    let by_record = completion_is_known (opening (kind_of declared.0)) k.thing.state (changes_from q.0 0 after) th.changes k.so_far place in
    let by_state : is_completing (option_map (λ (v : Thing). v.state) (slice_get (slice_set things q.0 grown) q.0)) ≡ is_completing (Some k.thing.state) = ap (λ o. is_completing (option_map (λ (v : Thing). v.state) o)) k.there in
    completes_declared s after q.0 th.changes declared.0 declared.1 ∙ (by_record ∙ sym by_state)

pub known_moves : (s : Scene) (things things' : List Thing) (x : Item) → Known s things → Moves things x things' → Known s things'
known_moves s things things' x known (looked q k th there_ shown) o y at_ = known o y at_
known_moves s things things' x known (controlled c) o y at_ = known o y at_
known_moves s things things' x known (replied r) o y at_ = known o y at_
known_moves s things things' x known (changed q en th next there_ enabled) o y at_ = go (q.0 == o) refl
  where
    go : (b : Bool) → (q.0 == o) ≡ b → (d : Object) × (slice_get s.objects o ≡ Some d)
    go true yes_ = known o th (subst (λ n. slice_get things n ≡ Some th) (eqb-true q.0 o yes_) there_)
    go false no_ = known o y (sym (slice_get-set_other things q.0 o (record { state = next; changes = th.changes + 1 }) (λ same. apart (q.0 == o) (eq-eqb q.0 o same) no_)) ∙ at_)

-- ---- what is kept of the runners

abbrev pub Followed : Scene → List (Option Runner) → Type 0
Followed s rs = (u : ℕ) (r : Runner) → slice_get rs u ≡ Some (Some r) → after_items s (completes_in s (map done_of rs)) u (local_at_start s u) r.done ≡ Some r.local

pub record Good (s : Scene) (things : List Thing) (rs : List (Option Runner)) : Type 0 where
  pub kept : Kept s things (map done_of rs)
  pub known : Known s things
  pub followed : Followed s rs

pub moved_by : (xs : List Item) (o : Option Local) (r : Runner) → option_map (moved_to xs) o ≡ Some r → (o ≡ Some r.local) × (r.done ≡ xs)
moved_by xs None r h = cc
moved_by xs (Some l) r h =
    let same : moved_to xs l ≡ r = cc in
    (ap (λ (v : Runner). Some v.local) same, ap (λ (v : Runner). v.done) (sym same))

good_move : (s : Scene) (things things' : List Thing) (rs : List (Option Runner)) (t : ℕ) (r r1 : Runner) (x : Item) → Good s things rs → slice_get rs t ≡ Some (Some r) → Moves things x things' → goes_on s things' t r x ≡ Some r1 → Good s things' (slice_set rs t (Some r1))
good_move s things things' rs t r r1 x good e moves h = record {
  kept = subst (λ ls. Kept s things' ls) (sym same_lists) (kept_item s things things' lists t r.done x good.kept there_ moves);
  known = known_moves s things things' x good.known moves;
  followed = λ u q at_. subst (λ ls. after_items s (completes_in s ls) u (local_at_start s u) q.done ≡ Some q.local) (sym same_lists) (each u q at_ (t == u) refl);
}
  where
    lists : List (Option (List Item))
    lists = map done_of rs

    there_ : slice_get (map done_of rs) t ≡ Some (Some r.done)
    there_ = slice_get-map done_of rs t ∙ ap (option_map done_of) e

    went : (after_item s (is_completing_now things') t r.local x ≡ Some r1.local) × (r1.done ≡ r.done ++ x ∷ [])
    went = moved_by (r.done ++ x ∷ []) (after_item s (is_completing_now things') t r.local x) r1 h

    same_lists : map done_of (slice_set rs t (Some r1)) ≡ slice_set (map done_of rs) t (Some (r.done ++ x ∷ []))
    same_lists = map-set done_of rs t (Some r1) ∙ ap (λ xs. slice_set (map done_of rs) t (Some xs)) went.1

    after : ℕ → ℕ → Bool
    after = completes_in s (slice_set (map done_of rs) t (Some (r.done ++ x ∷ [])))

    mine : after_items s (completes_in s (slice_set (map done_of rs) t (Some (r.done ++ x ∷ [])))) t (local_at_start s t) (r.done ++ x ∷ []) ≡ Some r1.local
    mine =
        let c = completes_in s (slice_set (map done_of rs) t (Some (r.done ++ x ∷ []))) in
        let old = sym (still s things things' (map done_of rs) t t r.done r.done x (local_at_start s t) good.kept there_ moves there_) ∙ good.followed t r e in
        let last = item_same s c (is_completing_now things') t r.local x (now_same s things things' (map done_of rs) t r.done x good.known good.kept there_ moves) in
        one_item_more s c t (local_at_start s t) r.done x ∙ (ap (λ o. option_and_then (λ k. after_item s c t k x) o) old ∙ (last ∙ went.0))

    each : (u : ℕ) (q : Runner) → slice_get (slice_set rs t (Some r1)) u ≡ Some (Some q) → (b : Bool) → (t == u) ≡ b → after_items s (completes_in s (slice_set (map done_of rs) t (Some (r.done ++ x ∷ [])))) u (local_at_start s u) q.done ≡ Some q.local
    each u q at_ true yes_ =
        let same : t ≡ u = eqb-true t u yes_ in
        let at_t : slice_get (slice_set rs t (Some r1)) t ≡ Some (Some q) = subst (λ n. slice_get (slice_set rs t (Some r1)) n ≡ Some (Some q)) (sym same) at_ in
        let set_there = slice_get-set_same rs t (Some r) (Some r1) e in
        let same_runner : r1 ≡ q = cc (set_there, at_t) in
        let at_r1 : after_items s (completes_in s (slice_set (map done_of rs) t (Some (r.done ++ x ∷ [])))) t (local_at_start s t) r1.done ≡ Some r1.local = subst (λ xs. after_items s (completes_in s (slice_set (map done_of rs) t (Some (r.done ++ x ∷ [])))) t (local_at_start s t) xs ≡ Some r1.local) (sym went.1) mine in
        subst (λ n. after_items s (completes_in s (slice_set (map done_of rs) t (Some (r.done ++ x ∷ [])))) n (local_at_start s n) q.done ≡ Some q.local) same (subst (λ (v : Runner). after_items s (completes_in s (slice_set (map done_of rs) t (Some (r.done ++ x ∷ [])))) t (local_at_start s t) v.done ≡ Some v.local) same_runner at_r1)
    each u q at_ false no_ =
        let at_u = sym (slice_get-set_other rs t u (Some r1) (λ same. apart (t == u) (eq-eqb t u same) no_)) ∙ at_ in
        let there_u = slice_get-map done_of rs u ∙ ap (option_map done_of) at_u in
        sym (still s things things' (map done_of rs) t u r.done q.done x (local_at_start s u) good.kept there_ moves there_u) ∙ good.followed u q at_u

pub good_item : (s : Scene) → ItemKeeps s (Good s)
good_item s things things' rs t r r1 x good e moves ended h = good_move s things things' rs t r r1 x good e moves h

-- ---- a thread begins

pub good_begun : (s : Scene) (things : List Thing) (u : ℕ) (rs : List (Option Runner)) → Good s things rs → Good s things (begun_at s u rs)
good_begun s things u rs good = go (is_none (option_and_then (λ r. r) (slice_get rs u))) refl
  where
    begun : List (Option Runner)
    begun = slice_set rs u (beginner s u)

    same_c : is_none (option_and_then (λ r. r) (slice_get rs u)) ≡ true → (o p : ℕ) → completes_in s (map done_of rs) o p ≡ completes_in s (map done_of (slice_set rs u (beginner s u))) o p
    same_c h o p = completes_at s o p (map done_of rs) (map done_of (slice_set rs u (beginner s u))) (λ d at_. by_changes (opening (kind_of d)) p (changes_from o 0 (map done_of rs)) (changes_from o 0 (map done_of (slice_set rs u (beginner s u)))) (sym (begun-same s o 0 u u rs h)))

    was_empty : (o : Option (Option Runner)) → slice_get rs u ≡ o → is_none (option_and_then (λ r. r) o) ≡ true → (v : ℕ) (q : Runner) → u ≡ v → slice_get (slice_set rs u (beginner s u)) v ≡ Some (Some q) → q ≡ record { local = local_at_start s u; done = [] }
    was_empty None p h v q same at_ =
        let at_u : slice_get (slice_set rs u (beginner s u)) u ≡ Some (Some q) = subst (λ n. slice_get (slice_set rs u (beginner s u)) n ≡ Some (Some q)) (sym same) at_ in
        let away = past_end rs u (beginner s u) p in
        cc (away, at_u)
    was_empty (Some None) p h v q same at_ =
        let at_u : slice_get (slice_set rs u (beginner s u)) u ≡ Some (Some q) = subst (λ n. slice_get (slice_set rs u (beginner s u)) n ≡ Some (Some q)) (sym same) at_ in
        let put = slice_get-set_same rs u None (beginner s u) p in
        cc (put, at_u)
    was_empty (Some (Some r)) p h v q same at_ = cc

    each : is_none (option_and_then (λ r. r) (slice_get rs u)) ≡ true → (v : ℕ) (q : Runner) → slice_get (slice_set rs u (beginner s u)) v ≡ Some (Some q) → (b : Bool) → (u == v) ≡ b → after_items s (completes_in s (map done_of (slice_set rs u (beginner s u)))) v (local_at_start s v) q.done ≡ Some q.local
    each h v q at_ true yes_ =
        let same : u ≡ v = eqb-true u v yes_ in
        let new = was_empty (slice_get rs u) refl h v q same at_ in
        let start_ : Runner = record { local = local_at_start s u; done = [] } in
        let at_start : after_items s (completes_in s (map done_of (slice_set rs u (beginner s u)))) u (local_at_start s u) start_.done ≡ Some start_.local = refl in
        subst (λ n. after_items s (completes_in s (map done_of (slice_set rs u (beginner s u)))) n (local_at_start s n) q.done ≡ Some q.local) same (subst (λ (w : Runner). after_items s (completes_in s (map done_of (slice_set rs u (beginner s u)))) u (local_at_start s u) w.done ≡ Some w.local) (sym new) at_start)
    each h v q at_ false no_ =
        let at_v = sym (slice_get-set_other rs u v (beginner s u) (λ same. apart (u == v) (eq-eqb u v same) no_)) ∙ at_ in
        sym (list_same s (completes_in s (map done_of rs)) (completes_in s (map done_of (slice_set rs u (beginner s u)))) v (local_at_start s v) q.done (λ o p k. same_c h o p)) ∙ good.followed v q at_v

    go : (b : Bool) → is_none (option_and_then (λ r. r) (slice_get rs u)) ≡ b → Good s things (if b then slice_set rs u (beginner s u) else rs)
    go false h = good
    go true h = record {
      kept = λ o d at_. unchanged things things (map done_of rs) (map done_of (slice_set rs u (beginner s u))) o d refl (begun-same s o 0 u u rs h) (good.kept o d at_);
      known = good.known;
      followed = λ v q at_. each h v q at_ (u == v) refl;
    }

good_if_begun : (s : Scene) (things : List Thing) (u : ℕ) (ok : Bool) (rs : List (Option Runner)) → Good s things rs → Good s things (if ok then begun_at s u rs else rs)
good_if_begun s things u true rs good = good_begun s things u rs good
good_if_begun s things u false rs good = good

good_with_beginner : (s : Scene) (things : List Thing) (x : Item) (rs : List (Option Runner)) → Good s things rs → Good s things (with_beginner s x rs)
good_with_beginner s things (items.Change q p e) rs good = good
good_with_beginner s things (items.Look q l) rs good = good
good_with_beginner s things (items.Said r) rs good = good
good_with_beginner s things (items.Control (controls.Start u ok)) rs good = good_if_begun s things u.0 ok rs good
good_with_beginner s things (items.Control (controls.Launch u ok)) rs good = good_if_begun s things u.0 ok rs good
good_with_beginner s things (items.Control (controls.Join u)) rs good = good

-- ---- one step, one turn, all turns

unfoldable pub GoodWorld : Scene → World → Type 0
GoodWorld s w = Good s w.things w.runners

good_step : (s : Scene) → StepKeeps s (GoodWorld s)
unfolding GoodWorld
good_step s w t r r' m good at_ moves ended h = good_with_beginner s m.things m.item (slice_set w.runners t (Some r')) (made_keeps s (Good s) (good_item s) w.things m.things w.runners t r r' m.item good at_ moves ended h)

-- ---- the opening

no_runner : (ts : List Thread) (i : ℕ) (r : Runner) → slice_get (map (λ (u : Thread). nobody) ts) i ≡ Some (Some r) → ⊥
no_runner [] i r e = cc
no_runner (t ∷ ts) zero r e = cc
no_runner (t ∷ ts) (suc i) r e = no_runner ts i r e

opening_followed : (s : Scene) (ts : List Thread) → Followed s (opening_runners s ts)
opening_followed s [] u r e = cc
opening_followed s (t ∷ ts) zero r e =
    let start_ : Runner = record { local = local_at_start s 0; done = [] } in
    let same : start_ ≡ r = cc in
    subst (λ (v : Runner). after_items s (completes_in s (map done_of (opening_runners s (t ∷ ts)))) 0 (local_at_start s 0) v.done ≡ Some v.local) same refl
opening_followed s (t ∷ ts) (suc u) r e = absurd (no_runner ts u r e)

opening_known : (s : Scene) → Known s (map opening_thing s.objects)
opening_known s o x e = go (slice_get s.objects o) refl (sym (slice_get-map opening_thing s.objects o) ∙ e)
  where
    go : (od : Option Object) → slice_get s.objects o ≡ od → option_map opening_thing od ≡ Some x → (d : Object) × (slice_get s.objects o ≡ Some d)
    go None p k = cc
    go (Some d) p k = (d, p)

pub opening_good : (s : Scene) → GoodWorld s (opening_world s)
unfolding GoodWorld
opening_good s = record { kept = opening_kept s; known = opening_known s; followed = opening_followed s s.threads }

pub turns_good : (n : ℕ) (s : Scene) (seed : Option ℕ) (x : Turn) → turns n s (start s seed) ≡ Some x → Good s x.world.things x.world.runners
unfolding GoodWorld
turns_good n s seed x h = turns_keep s (GoodWorld s) (good_step s) n (start s seed) x (opening_good s) h

pub each_turn_is_legal : (n : ℕ) (s : Scene) (seed : Option ℕ) (x : Turn) → turns n s (start s seed) ≡ Some x → (o : ℕ) (d : Object) → slice_get s.objects o ≡ Some d → (state : State) × IsSoFar (opening (kind_of d)) (changes_of (recorded_in s x.world) o) state
each_turn_is_legal n s seed x h o d at_ =
    let k = (turns_good n s seed x h).kept o d at_ in
    (k.thing.state, k.so_far)

pub each_turn_follows : (n : ℕ) (s : Scene) (seed : Option ℕ) (x : Turn) → turns n s (start s seed) ≡ Some x → (t : ℕ) (r : Runner) → slice_get x.world.runners t ≡ Some (Some r) → after_items s (completes s (recorded_in s x.world)) t (local_at_start s t) r.done ≡ Some r.local
each_turn_follows n s seed x h t r e = (turns_good n s seed x h).followed t r e
