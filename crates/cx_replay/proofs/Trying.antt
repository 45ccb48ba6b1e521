-- A change that is tried on the kept objects is the change of the schedule.
use Rattle.std.proofs.Common.{◌≡◌, ℕ, zero, suc, ◌+◌, ◌^◌, ◌<◌, Bool, true, false, List, [], ◌∷◌, ℤ, ◌≤◌, ltb, ltb-true, arith, unwrap_or, map, length, get_or, Option, Some, None, option_map, slice_get, slice_set, refl, sym, ap, subst, ◌∙◌, add-zero, zero-add}
use Rattle.std.proofs.lemmas.Option.{slice_get-map, slice_get_read}
use Rattle.std.proofs.lemmas.List.{map-set}
use Rattle.cx_names.specs.declared.ObjectNo.{ObjectNo}
use Rattle.cx_machine.specs.declared.kind.Entry.{Entry}
use Rattle.cx_machine.specs.Machine.{shows}
use Rattle.cx_machine.specs.Now.{reply_now}
use Rattle.cx_machine.specs.declared.kind.Op.{Op}
use Rattle.cx_machine.specs.declared.kind.Look.{Look}
use Rattle.cx_names.specs.declared.Reply.TheVariants as replies
use Rattle.cx_items.specs.declared.item.Item.TheVariants as items
use Rattle.cx_replay.specs.declared.objects.ObjectNow.{ObjectNow}
use Rattle.cx_names.specs.declared.ThreadNo.{ThreadNo}
use Rattle.cx_names.specs.declared.Reply.{Reply}
use Rattle.cx_items.specs.declared.item.Control.{Control}
use Rattle.cx_items.specs.declared.item.Control.TheVariants as controls
use Rattle.cx_scene.specs.Scene.{Scene}
use Rattle.cx_replay.specs.declared.runner.RunnerNow.{RunnerNow}
use Rattle.cx_replay.specs.Schedule.{Thing, thing_at, made_change, made_look, replied_change, replied_look, change_by, look_by, can_do, has_ended}
use Rattle.cx_replay.specs.Views.{thing_of, of_objects, runner_of, runners_from, world_of, Changes, HasRoom}
use Rattle.cx_replay.proofs.Kept.{set_there}

module _ (objects : List ObjectNow) (o : ObjectNo) (e : Entry) (old new : ObjectNow) (made : Bool) (lt : o.0 < length objects) (at_ : old ≡ get_or objects o.0 old) (did : Changes made (thing_of old) e (thing_of new)) where
  there : slice_get (map thing_of objects) o.0 ≡ Some (thing_of old)
  there = slice_get-map thing_of objects o.0 ∙ ap (option_map thing_of) (slice_get_read objects (length objects) o.0 old refl lt at_)

  pub change_is_made : made ≡ true → made_change (of_objects objects) o e (thing_at (of_objects objects) o) ≡ Some (record { item = items.Change o old.changes e; things = map thing_of (slice_set objects o.0 new) })
  change_is_made is_made =
      let d = subst (λ (b : Bool). Changes b (thing_of old) e (thing_of new)) is_made did in
      let news : record { state = new.state; changes = old.changes + 1 } ≡ thing_of new = ap (λ (n : ℕ). record { state = new.state; changes = n }) (sym d.1) in
      rw (there, d.0, map-set thing_of objects o.0 new) (ap (λ (t : Thing). Some (record { item = items.Change o old.changes e; things = slice_set (map thing_of objects) o.0 t })) news)

  pub change_is_refused : made ≡ false → (made_change (of_objects objects) o e (thing_at (of_objects objects) o) ≡ None) × (map thing_of (slice_set objects o.0 new) ≡ map thing_of objects)
  change_is_refused not_made =
      let d = subst (λ (b : Bool). Changes b (thing_of old) e (thing_of new)) not_made did in
      (rw (there, d.0) refl, map-set thing_of objects o.0 new ∙ (ap (λ (t : Thing). slice_set (map thing_of objects) o.0 t) d.1 ∙ set_there (map thing_of objects) o.0 (thing_of old) there))

-- what `get` finds
pub found : {X : Type 0} (xs : List X) (i : ℕ) (x : X) → true ≡ ltb i (length xs) → x ≡ get_or xs i x → slice_get xs i ≡ Some x
found xs i x low at_ = slice_get_read xs (length xs) i x refl (ltb-true i (length xs) (sym low)) at_

pub missing : {X : Type 0} (xs : List X) (i : ℕ) → length xs ≤ i → slice_get xs i ≡ None
missing [] i h = refl
missing (x ∷ xs) zero h = absurd (omega (arith, h))
missing (x ∷ xs) (suc i) h = missing xs i (omega (arith, h))

-- an object that isn't there
pub nothing_there : (objects : List ObjectNow) (o : ℕ) → slice_get objects o ≡ None → slice_get (map thing_of objects) o ≡ None
nothing_there objects o e = slice_get-map thing_of objects o ∙ ap (option_map thing_of) e

pub something_there : (objects : List ObjectNow) (o : ℕ) (x : ObjectNow) → slice_get objects o ≡ Some x → slice_get (map thing_of objects) o ≡ Some (thing_of x)
something_there objects o x e = slice_get-map thing_of objects o ∙ ap (option_map thing_of) e

-- ---- replies and looks

pub reply_here : (objects : List ObjectNow) (o : ObjectNo) (x : ObjectNow) (t : ℕ) (op : Op) (a b : ℤ) → slice_get objects o.0 ≡ Some x → reply_now x.state t op a b ≡ unwrap_or (option_map (λ (y : Thing). reply_now y.state t op a b) (thing_at (of_objects objects) o)) replies.Ok
reply_here objects o x t op a b e = rw (something_there objects o.0 x e) refl

pub no_reply_here : (objects : List ObjectNow) (o : ObjectNo) (t : ℕ) (op : Op) (a b : ℤ) → slice_get objects o.0 ≡ None → replies.Ok ≡ unwrap_or (option_map (λ (y : Thing). reply_now y.state t op a b) (thing_at (of_objects objects) o)) replies.Ok
no_reply_here objects o t op a b e = rw (nothing_there objects o.0 e) refl

pub look_is_shown : (objects : List ObjectNow) (o : ObjectNo) (l : Look) (x : ObjectNow) → slice_get objects o.0 ≡ Some x → shows x.state l ≡ true → made_look (of_objects objects) o l (thing_at (of_objects objects) o) ≡ Some (record { item = items.Look o (record l { at = x.changes }); things = map thing_of objects })
look_is_shown objects o l x e h = rw (something_there objects o.0 x e, h) refl

pub look_is_not : (objects : List ObjectNow) (o : ObjectNo) (l : Look) (x : ObjectNow) → slice_get objects o.0 ≡ Some x → shows x.state l ≡ false → made_look (of_objects objects) o l (thing_at (of_objects objects) o) ≡ None
look_is_not objects o l x e h = rw (something_there objects o.0 x e, h) refl

pub no_look : (objects : List ObjectNow) (o : ObjectNo) (l : Look) → slice_get objects o.0 ≡ None → made_look (of_objects objects) o l (thing_at (of_objects objects) o) ≡ None
no_look objects o l e = rw (nothing_there objects o.0 e) refl

-- ---- a form

pub change_made : (xs : List ObjectNow) (t : ℕ) (o : ObjectNo) (op : Op) (a b : ℤ) (r : Option Reply) (q : Reply) → r ≡ Some q → replied_change (of_objects xs) t o op a b r ≡ made_change (of_objects xs) o (change_by t op a b q) (thing_at (of_objects xs) o)
change_made xs t o op a b r q e = rw e refl

pub look_made : (xs : List ObjectNow) (t : ℕ) (o : ObjectNo) (op : Op) (a b : ℤ) (r : Option Reply) (q : Reply) → r ≡ Some q → replied_look (of_objects xs) t o op a b r ≡ made_look (of_objects xs) o (look_by t op a b q) (thing_at (of_objects xs) o)
look_made xs t o op a b r q e = rw e refl

-- ---- runners

pub runner_there : (s : Scene) (v : ℕ) (rs : List (Option RunnerNow)) (i : ℕ) (r : Option RunnerNow) → slice_get rs i ≡ Some r → slice_get (runners_from s v rs) i ≡ Some (option_map (runner_of s (v + i)) r)
runner_there s v [] i r e = cc
runner_there s v (q ∷ qs) zero r e =
    let same : q ≡ r = cc in
    ap (λ n. Some (option_map (runner_of s n) q)) (sym (add-zero v)) ∙ ap (λ p. Some (option_map (runner_of s (v + 0)) p)) same
runner_there s v (q ∷ qs) (suc i) r e =
    let same : (v + 1) + i ≡ v + suc i = omega arith in
    subst (λ n. slice_get (runners_from s (v + 1) qs) i ≡ Some (option_map (runner_of s n) r)) same (runner_there s (v + 1) qs i r e)

pub no_runner_there : (s : Scene) (v : ℕ) (rs : List (Option RunnerNow)) (i : ℕ) → slice_get rs i ≡ None → slice_get (runners_from s v rs) i ≡ None
no_runner_there s v [] i e = refl
no_runner_there s v (q ∷ qs) zero e = cc
no_runner_there s v (q ∷ qs) (suc i) e = no_runner_there s (v + 1) qs i e

pub runner_put : (s : Scene) (v : ℕ) (rs : List (Option RunnerNow)) (i : ℕ) (r : Option RunnerNow) → runners_from s v (slice_set rs i r) ≡ slice_set (runners_from s v rs) i (option_map (runner_of s (v + i)) r)
runner_put s v [] i r = refl
runner_put s v (q ∷ qs) zero r = ap (λ n. option_map (runner_of s n) r ∷ runners_from s (v + 1) qs) (sym (add-zero v))
runner_put s v (q ∷ qs) (suc i) r =
    let same : (v + 1) + i ≡ v + suc i = omega arith in
    ap (λ rest. option_map (runner_of s v) q ∷ rest) (subst (λ n. runners_from s (v + 1) (slice_set qs i r) ≡ slice_set (runners_from s (v + 1) qs) i (option_map (runner_of s n) r)) same (runner_put s (v + 1) qs i r))

pub join_here : (s : Scene) (rs : List (Option RunnerNow)) (u : ThreadNo) (r : Option RunnerNow) (c : Control) → c ≡ controls.Join u → slice_get rs u.0 ≡ Some r → has_ended (option_map (runner_of s u.0) r) ≡ can_do (world_of s [] rs) c
join_here s rs u r c is e = rw (is, runner_there s 0 rs u.0 r e, zero-add u.0) refl

pub no_join_here : (s : Scene) (rs : List (Option RunnerNow)) (u : ThreadNo) (c : Control) → c ≡ controls.Join u → slice_get rs u.0 ≡ None → false ≡ can_do (world_of s [] rs) c
no_join_here s rs u c is e = rw (is, no_runner_there s 0 rs u.0 e) refl

-- an object has the room that each has
pub room_there : (objects : List ObjectNow) (o : ℕ) (x : ObjectNow) → o < length objects → x ≡ get_or objects o x → HasRoom (map thing_of objects) → x.changes < 2 ^ 28
room_there objects o x lt at_ room = room o (thing_of x) (something_there objects o x (slice_get_read objects (length objects) o x refl lt at_))
