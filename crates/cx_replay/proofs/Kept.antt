-- What each turn of a replay keeps: the changes on each object have no gap, and lead by its machine to the state that the replay keeps.
use Rattle.std.proofs.Common.{◌≡◌, ℕ, zero, suc, ◌+◌, ◌==◌, ℤ, pos, Bool, true, false, List, [], ◌∷◌, ◌++◌, map, length, Option, Some, None, option_and_then, option_map, slice_get, slice_set, is_none, if◌then◌else◌, refl, sym, ap, ◌∙◌, subst, arith, eqb-true, eq-eqb, add-zero, zero-add, append_assoc, append-nil}
use Rattle.std.proofs.lemmas.Option.{slice_get-map}
use Rattle.cx_names.specs.declared.Reply.{Reply}
use Rattle.cx_names.specs.declared.Reply.TheVariants as replies
use Rattle.cx_machine.specs.declared.kind.Op.{Op}
use Rattle.cx_machine.specs.declared.kind.Op.TheVariants as ops
use Rattle.cx_items.specs.Form.{is_registered_on}
use Rattle.cx_names.specs.declared.ObjectNo.{ObjectNo}
use Rattle.cx_machine.specs.declared.kind.Entry.{Entry}
use Rattle.cx_machine.specs.declared.kind.Look.{Look}
use Rattle.cx_machine.specs.Words.{when}
use Rattle.cx_machine.specs.Machine.{State, opening, step, shows}
use Rattle.cx_scene.specs.declared.declared.Object.{Object}
use Rattle.cx_scene.specs.declared.declared.Thread.{Thread}
use Rattle.cx_scene.specs.Scene.{Scene, kind_of}
use Rattle.cx_items.specs.declared.item.Control.{Control}
use Rattle.cx_items.specs.declared.item.Item.{Item}
use Rattle.cx_items.specs.declared.item.Item.TheVariants as items
use Rattle.cx_items.specs.declared.form.Form.{Form}
use Rattle.cx_items.specs.declared.form.Form.TheVariants.{Change, Look as ALook, Begin, Does, Says}
use Rattle.cx_history.specs.Histories.{Placed, items_of, change_on, changes_in, changes_from}
use Rattle.cx_history.specs.Flaw.{IsSoFar}
use Rattle.cx_history.proofs.Appending.{one_step_more}
use Rattle.cx_replay.specs.Schedule.{Thing, Runner, World, Made, thing_at, changed_to, made_change, seen_as, made_look, made_begin, reply_of, change_by, look_by, replied_change, replied_look, can_do, made, or_made, first_made, beginner, opening_runners, opening_thing, opening_world, done_of, lists_of}

-- ---- lists

pub slice_get-set_same : {X : Type 0} (xs : List X) (i : ℕ) (x v : X) → slice_get xs i ≡ Some x → slice_get (slice_set xs i v) i ≡ Some v
slice_get-set_same [] i x v e = cc
slice_get-set_same (y ∷ ys) zero x v e = refl
slice_get-set_same (y ∷ ys) (suc i) x v e = slice_get-set_same ys i x v e

pub slice_get-set_other : {X : Type 0} (xs : List X) (i j : ℕ) (v : X) → (i ≡ j → ⊥) → slice_get (slice_set xs i v) j ≡ slice_get xs j
slice_get-set_other [] i j v ne = refl
slice_get-set_other (y ∷ ys) zero zero v ne = absurd (ne refl)
slice_get-set_other (y ∷ ys) zero (suc j) v ne = refl
slice_get-set_other (y ∷ ys) (suc i) zero v ne = refl
slice_get-set_other (y ∷ ys) (suc i) (suc j) v ne = slice_get-set_other ys i j v (λ e. ne (ap suc e))

pub set_there : {X : Type 0} (xs : List X) (i : ℕ) (x : X) → slice_get xs i ≡ Some x → slice_set xs i x ≡ xs
set_there [] i x e = refl
set_there (y ∷ ys) zero x e = let same : y ≡ x = cc in ap (λ v. v ∷ ys) (sym same)
set_there (y ∷ ys) (suc i) x e = ap (λ zs. y ∷ zs) (set_there ys i x e)

pub changes_in-append : (o t i : ℕ) (xs : List Item) (x : Item) → changes_in o t i (xs ++ x ∷ []) ≡ changes_in o t i xs ++ change_on o t (i + length xs) x
changes_in-append o t i [] x = rw (append-nil, add-zero i) refl
changes_in-append o t i (y ∷ ys) x =
    let same : (i + 1) + length ys ≡ i + suc (length ys) = omega arith in
    rw (changes_in-append o t (i + 1) ys x, same) (sym (append_assoc (change_on o t i y) (changes_in o t (i + 1) ys) (change_on o t (i + suc (length ys)) x)))

-- where one more item of thread t stands among the changes on an object
pub record Split (o u t : ℕ) (ls : List (Option (List Item))) (l : List Item) (x : Item) : Type 0 where
  pub pre : List Placed
  pub post : List Placed
  pub old : changes_from o u ls ≡ pre ++ post
  pub new : changes_from o u (slice_set ls t (Some (l ++ x ∷ []))) ≡ pre ++ (change_on o (u + t) (length l) x ++ post)

pub split : (o u t : ℕ) (ls : List (Option (List Item))) (l : List Item) (x : Item) → slice_get ls t ≡ Some (Some l) → Split o u t ls l x
split o u t [] l x e = cc
split o u zero (k ∷ ks) l x e =
    let same : k ≡ Some l = cc in
    record {
      pre = changes_in o u 0 l;
      post = changes_from o (u + 1) ks;
      old = ap (λ v. changes_in o u 0 (items_of v) ++ changes_from o (u + 1) ks) same;
      new = rw (changes_in-append o u 0 l x, zero-add (length l), add-zero u) (append_assoc (changes_in o u 0 l) (change_on o u (length l) x) (changes_from o (u + 1) ks));
    }
split o u (suc t) (k ∷ ks) l x e =
    let h = split o (u + 1) t ks l x e in
    let same : (u + 1) + t ≡ u + suc t = omega arith in
    let front = changes_in o u 0 (items_of k) in
    record {
      pre = front ++ h.pre;
      post = h.post;
      old = rw h.old (sym (append_assoc front h.pre h.post));
      new = rw (h.new, same) (sym (append_assoc front h.pre (change_on o (u + suc t) (length l) x ++ h.post)));
    }

-- ---- what is kept of an object

pub record ObjectKept (things : List Thing) (lists : List (Option (List Item))) (o : ℕ) (d : Object) : Type 0 where
  pub thing : Thing
  pub there : slice_get things o ≡ Some thing
  pub so_far : IsSoFar (opening (kind_of d)) (changes_from o 0 lists) thing.state
  pub count : thing.changes ≡ length (changes_from o 0 lists)

abbrev pub Kept : Scene → List Thing → List (Option (List Item)) → Type 0
Kept s things lists = (o : ℕ) (d : Object) → slice_get s.objects o ≡ Some d → ObjectKept things lists o d

pub unchanged : (things things' : List Thing) (lists lists' : List (Option (List Item))) (o : ℕ) (d : Object) → slice_get things' o ≡ slice_get things o → changes_from o 0 lists' ≡ changes_from o 0 lists → ObjectKept things lists o d → ObjectKept things' lists' o d
unchanged things things' lists lists' o d same_thing same_changes k = record {
  thing = k.thing;
  there = same_thing ∙ k.there;
  so_far = subst (λ cs. IsSoFar (opening (kind_of d)) cs k.thing.state) (sym same_changes) k.so_far;
  count = k.count ∙ ap length (sym same_changes);
}

length_more : (xs ys : List Placed) (c : Placed) → length (xs ++ (c ∷ ys)) ≡ length (xs ++ ys) + 1
length_more [] ys c = omega arith
length_more (x ∷ xs) ys c = omega (arith, length_more xs ys c)

pub after_one : (t i : ℕ) → t + suc i ≡ (t + 1) + i
after_one t i = omega arith

one_more : (n : ℕ) (cs ds : List Placed) → n ≡ length cs → length ds ≡ length cs + 1 → n + 1 ≡ length ds
one_more n cs ds h k = omega arith

-- what an item leaves of the objects
pub data Moves (things : List Thing) : Item → List Thing → Type 0 where
  changed : (q : ObjectNo) (e : Entry) (x : Thing) (next : State) → slice_get things q.0 ≡ Some x → step x.state e ≡ Some next → Moves things (items.Change q x.changes e) (slice_set things q.0 (record { state = next; changes = x.changes + 1 }))
  looked : (q : ObjectNo) (l : Look) (x : Thing) → slice_get things q.0 ≡ Some x → shows x.state l ≡ true → Moves things (items.Look q (record l { at = x.changes })) things
  controlled : (c : Control) → Moves things (items.Control c) things
  replied : (r : Reply) → Moves things (items.Said r) things

-- an item that is no change on this object leaves it as it is
aside : (s : Scene) (things things' : List Thing) (lists : List (Option (List Item))) (t : ℕ) (l : List Item) (x : Item) (o : ℕ) (d : Object) → slice_get lists t ≡ Some (Some l) → change_on o (0 + t) (length l) x ≡ [] → slice_get things' o ≡ slice_get things o → ObjectKept things lists o d → ObjectKept things' (slice_set lists t (Some (l ++ x ∷ []))) o d
aside s things things' lists t l x o d e none_here same k =
    let sp = split o 0 t lists l x e in
    let same_changes : changes_from o 0 (slice_set lists t (Some (l ++ x ∷ []))) ≡ changes_from o 0 lists = sp.new ∙ (ap (λ cs. sp.pre ++ (cs ++ sp.post)) none_here ∙ sym sp.old) in
    unchanged things things' lists (slice_set lists t (Some (l ++ x ∷ []))) o d same same_changes k

pub kept_item : (s : Scene) (things things' : List Thing) (lists : List (Option (List Item))) (t : ℕ) (l : List Item) (x : Item) → Kept s things lists → slice_get lists t ≡ Some (Some l) → Moves things x things' → Kept s things' (slice_set lists t (Some (l ++ x ∷ [])))
kept_item s things things' lists t l x kept e (looked q k th there shown) o d at_ = aside s things things lists t l (items.Look q (record k { at = th.changes })) o d e refl refl (kept o d at_)
kept_item s things things' lists t l x kept e (controlled c) o d at_ = aside s things things lists t l (items.Control c) o d e refl refl (kept o d at_)
kept_item s things things' lists t l x kept e (replied r) o d at_ = aside s things things lists t l (items.Said r) o d e refl refl (kept o d at_)
kept_item s things things' lists t l x kept e (changed q en th next there enabled) o d at_ = go (q.0 == o) refl
  where
    go : (b : Bool) → (q.0 == o) ≡ b → ObjectKept (slice_set things q.0 (record { state = next; changes = th.changes + 1 })) (slice_set lists t (Some (l ++ items.Change q th.changes en ∷ []))) o d
    go false no_ =
        let ne : q.0 ≡ o → ⊥ = λ same. let yes_ : (q.0 == o) ≡ true = eq-eqb q.0 o same in cc in
        let none_here : change_on o (0 + t) (length l) (items.Change q th.changes en) ≡ [] = rw no_ refl in
        aside s things (slice_set things q.0 (record { state = next; changes = th.changes + 1 })) lists t l (items.Change q th.changes en) o d e none_here (slice_get-set_other things q.0 o (record { state = next; changes = th.changes + 1 }) ne) (kept o d at_)
    go true yes_ =
        let k = kept o d at_ in
        let same : q.0 ≡ o = eqb-true q.0 o yes_ in
        let there_o : slice_get things o ≡ Some th = subst (λ n. slice_get things n ≡ Some th) same there in
        let same_thing : k.thing ≡ th = cc (there_o, k.there) in
        let sp = split o 0 t lists l (items.Change q th.changes en) e in
        let c : Placed = record { position = th.changes; thread = 0 + t; item = length l; entry = en } in
        let here : change_on o (0 + t) (length l) (items.Change q th.changes en) ≡ c ∷ [] = rw yes_ refl in
        let new : changes_from o 0 (slice_set lists t (Some (l ++ items.Change q th.changes en ∷ []))) ≡ sp.pre ++ (c ∷ sp.post) = sp.new ∙ ap (λ cs. sp.pre ++ (cs ++ sp.post)) here in
        let before : IsSoFar (opening (kind_of d)) (sp.pre ++ sp.post) k.thing.state = subst (λ cs. IsSoFar (opening (kind_of d)) cs k.thing.state) sp.old k.so_far in
        let place : th.changes ≡ length (sp.pre ++ sp.post) = ap (λ (x : Thing). x.changes) (sym same_thing) ∙ (k.count ∙ ap length sp.old) in
        let enabled_k : step k.thing.state en ≡ Some next = subst (λ (v : Thing). step v.state en ≡ Some next) (sym same_thing) enabled in
        record {
          thing = record { state = next; changes = th.changes + 1 };
          there = subst (λ n. slice_get (slice_set things q.0 (record { state = next; changes = th.changes + 1 })) n ≡ Some (record { state = next; changes = th.changes + 1 })) same (slice_get-set_same things q.0 th (record { state = next; changes = th.changes + 1 }) there);
          so_far = subst (λ cs. IsSoFar (opening (kind_of d)) cs next) (sym new) (one_step_more (opening (kind_of d)) k.thing.state next sp.pre sp.post c before place enabled_k);
          count = one_more th.changes (sp.pre ++ sp.post) (sp.pre ++ (c ∷ sp.post)) place (length_more sp.pre sp.post c) ∙ ap length (sym new);
        }

-- ---- an item that can be made moves the objects so

change_moves : (w : World) (o : ObjectNo) (e : Entry) (ox : Option Thing) (m : Made) → slice_get w.things o.0 ≡ ox → made_change w o e ox ≡ Some m → Moves w.things m.item m.things
change_moves w o e None m at_ h = cc
change_moves w o e (Some x) m at_ h = go (step x.state e) refl h
  where
    go : (on : Option State) → step x.state e ≡ on → option_map (changed_to w o e x) on ≡ Some m → Moves w.things m.item m.things
    go None p k = cc
    go (Some next) p k =
        let same : changed_to w o e x next ≡ m = cc in
        subst (λ (v : Made). Moves w.things v.item v.things) same (changed o e x next at_ p)

look_moves : (w : World) (o : ObjectNo) (l : Look) (ox : Option Thing) (m : Made) → slice_get w.things o.0 ≡ ox → made_look w o l ox ≡ Some m → Moves w.things m.item m.things
look_moves w o l None m at_ h = cc
look_moves w o l (Some x) m at_ h = go (shows x.state l) refl h
  where
    go : (b : Bool) → shows x.state l ≡ b → when b (seen_as w o l x) ≡ Some m → Moves w.things m.item m.things
    go true p k =
        let same : seen_as w o l x ≡ m = cc in
        subst (λ (v : Made). Moves w.things v.item v.things) same (looked o l x at_ p)
    go false p k = cc

replied_change_moves : (w : World) (t : ℕ) (o : ObjectNo) (op : Op) (a b : ℤ) (r : Option Reply) (m : Made) → replied_change w t o op a b r ≡ Some m → Moves w.things m.item m.things
replied_change_moves w t o op a b None m h = cc
replied_change_moves w t o op a b (Some r) m h = change_moves w o (change_by t op a b r) (thing_at w o) m refl h

replied_look_moves : (w : World) (t : ℕ) (o : ObjectNo) (op : Op) (a b : ℤ) (r : Option Reply) (m : Made) → replied_look w t o op a b r ≡ Some m → Moves w.things m.item m.things
replied_look_moves w t o op a b None m h = cc
replied_look_moves w t o op a b (Some r) m h = look_moves w o (look_by t op a b r) (thing_at w o) m refl h

begin_moves : (s : Scene) (w : World) (t : ℕ) (st : ObjectNo) (id : Option ℕ) (m : Made) → made_begin s w t st id ≡ Some m → Moves w.things m.item m.things
begin_moves s w t st None m h = cc
begin_moves s w t st (Some id) m h = go (is_registered_on s st (pos id)) h
  where
    go : (b : Bool) → (if b then made_change w st (change_by t ops.Begin (pos id) (pos 0) replies.Ok) (thing_at w st) else None) ≡ Some m → Moves w.things m.item m.things
    go true k = change_moves w st (change_by t ops.Begin (pos id) (pos 0) replies.Ok) (thing_at w st) m refl k
    go false k = cc

control_moves : (w : World) (c : Control) (b : Bool) (m : Made) → when b (record { item = items.Control c; things = w.things }) ≡ Some m → Moves w.things m.item m.things
control_moves w c true m h =
    let made_ : Made = record { item = items.Control c; things = w.things } in
    let same : made_ ≡ m = cc in
    subst (λ (v : Made). Moves w.things v.item v.things) same (controlled c)
control_moves w c false m h = cc

reply_moves : (w : World) (r : Reply) (m : Made) → Some (record { item = items.Said r; things = w.things }) ≡ Some m → Moves w.things m.item m.things
reply_moves w r m h =
    let made_ : Made = record { item = items.Said r; things = w.things } in
    let same : made_ ≡ m = cc in
    subst (λ (v : Made). Moves w.things v.item v.things) same (replied r)

made_moves : (s : Scene) (w : World) (t : ℕ) (f : Form) (m : Made) → made s w t f ≡ Some m → Moves w.things m.item m.things
made_moves s w t (Change o op a b wanted) m h = replied_change_moves w t o op a b (reply_of w t o op a b wanted) m h
made_moves s w t (ALook o op a b wanted) m h = replied_look_moves w t o op a b (reply_of w t o op a b wanted) m h
made_moves s w t (Begin st) m h = begin_moves s w t st _ m h
made_moves s w t (Does c) m h = control_moves w c (can_do w c) m h
made_moves s w t (Says r) m h = reply_moves w r m h

pub first_made_moves : (s : Scene) (w : World) (t : ℕ) (fs : List Form) (m : Made) → first_made s w t fs ≡ Some m → Moves w.things m.item m.things
first_made_moves s w t [] m h = cc
first_made_moves s w t (f ∷ fs) m h = go (made s w t f) refl h (λ k. first_made_moves s w t fs m k)
  where
    go : (o : Option Made) → made s w t f ≡ o → or_made o (first_made s w t fs) ≡ Some m → (first_made s w t fs ≡ Some m → Moves w.things m.item m.things) → Moves w.things m.item m.things
    go None p k ih = ih k
    go (Some n) p k ih =
        let same : made s w t f ≡ Some m = p ∙ k in
        made_moves s w t f m same

-- ---- a thread that begins has made nothing

pub begun-same : (s : Scene) (o v u n : ℕ) (rs : List (Option Runner)) → is_none (option_and_then (λ r. r) (slice_get rs n)) ≡ true → changes_from o v (map done_of (slice_set rs n (beginner s u))) ≡ changes_from o v (map done_of rs)
begun-same s o v u n [] h = refl
begun-same s o v u zero (None ∷ rs) h = refl
begun-same s o v u zero (Some r ∷ rs) h = cc
begun-same s o v u (suc n) (r ∷ rs) h = ap (λ cs. changes_in o v 0 (items_of (done_of r)) ++ cs) (begun-same s o (v + 1) u n rs h)

-- ---- the opening

no_changes : (o v : ℕ) (ts : List Thread) → changes_from o v (map done_of (map (λ (u : Thread). None) ts)) ≡ []
no_changes o v [] = refl
no_changes o v (t ∷ ts) = no_changes o (v + 1) ts

pub opening_changes : (s : Scene) (o : ℕ) (ts : List Thread) → changes_from o 0 (map done_of (opening_runners s ts)) ≡ []
opening_changes s o [] = refl
opening_changes s o (t ∷ ts) = no_changes o 1 ts

pub opening_kept : (s : Scene) → Kept s (opening_world s).things (lists_of (opening_world s))
opening_kept s o d at_ =
    let nothing = opening_changes s o s.threads in
    let so_far : IsSoFar (opening (kind_of d)) [] (opening (kind_of d)) = record { gapless = refl; reaches = refl } in
    record {
      thing = opening_thing d;
      there = slice_get-map opening_thing s.objects o ∙ ap (option_map opening_thing) at_;
      so_far = subst (λ cs. IsSoFar (opening (kind_of d)) cs (opening (kind_of d))) (sym nothing) so_far;
      count = ap length (sym nothing);
    }
