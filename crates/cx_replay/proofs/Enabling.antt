-- Whether a thread is enabled, without its step.
use Rattle.std.proofs.Common.{◌≡◌, ℕ, ◌+◌, ◌<◌, Bool, true, false, List, [], ◌∷◌, ◌++◌, length, get_or, drop, Option, Some, None, is_some, option_map, option_and_then, slice_get, refl, sym, ap, ◌∙◌}
use Rattle.cx_names.specs.declared.ObjectNo.{ObjectNo}
use Rattle.cx_names.specs.declared.Reply.{Reply}
use Rattle.cx_machine.specs.declared.kind.Entry.{Entry}
use Rattle.cx_machine.specs.Machine.{step}
use Rattle.cx_machine.specs.Words.{when}
use Rattle.cx_scene.specs.Scene.{Scene}
use Rattle.cx_items.specs.declared.item.Item.{Item}
use Rattle.cx_items.specs.declared.item.Item.TheVariants as items
use Rattle.cx_items.specs.declared.form.Form.{Form}
use Rattle.cx_items.specs.Next.{Local, reached, offered, with_item, is_due, due_reply, undue}
use Rattle.cx_replay.specs.declared.objects.ObjectNow.{ObjectNow}
use Rattle.cx_replay.specs.declared.runner.RunnerNow.{RunnerNow}
use Rattle.cx_replay.specs.Schedule.{Thing, Runner, World, Made, thing_at, changed_to, made_change, made, or_made, first_made, is_completing_now, moved_to, goes_on, replies_with, with_reply, after_made, stepped_to, after_step, stepped, step_of}
use Rattle.cx_replay.specs.Views.{thing_of, of_objects, runner_of, world_of, forms_there, Makes}
use Rattle.cx_replay.proofs.Trying.{something_there, nothing_there}
use Rattle.cx_replay.proofs.Fitting.{made_is_reached, reply_is_reached}
use Rattle.cx_replay.proofs.Firsts.{here}
use Rattle.cx_replay.proofs.Advancing.{at_number}

pub is_some_map : {A B : Type 0} (f : A → B) (o : Option A) → is_some o ≡ is_some (option_map f o)
is_some_map f None = refl
is_some_map f (Some x) = refl

pub change_enabled : (xs : List ObjectNow) (o : ObjectNo) (e : Entry) (x : ObjectNow) → slice_get xs o.0 ≡ Some x → is_some (step x.state e) ≡ is_some (made_change (of_objects xs) o e (thing_at (of_objects xs) o))
change_enabled xs o e x h = is_some_map (changed_to (of_objects xs) o e (thing_of x)) (step x.state e) ∙ ap (λ v. is_some (made_change (of_objects xs) o e v)) (sym (something_there xs o.0 x h))

pub change_missing : (xs : List ObjectNow) (o : ObjectNo) (e : Entry) → slice_get xs o.0 ≡ None → false ≡ is_some (made_change (of_objects xs) o e (thing_at (of_objects xs) o))
change_missing xs o e h = ap (λ v. is_some (made_change (of_objects xs) o e v)) (sym (nothing_there xs o.0 h))

pub makes_some : (o : Option Item) (next : Option Made) (old new : List Thing) → Makes o next old new → is_some o ≡ is_some next
makes_some None next old new h = ap is_some (sym h.0)
makes_some (Some x) next old new h = ap is_some (sym h)

pub when_some : {X : Type 0} (b : Bool) (x : X) → b ≡ is_some (when b x)
when_some true x = refl
when_some false x = refl

-- ---- one of the forms

is_some_or : (k m : Option Made) (b : Bool) → b ≡ is_some k → is_some (or_made k m) ≡ elim b [ true ↦ true | false ↦ is_some m ]
is_some_or None m b h = rw h refl
is_some_or (Some x) m b h = rw h refl

module _ (s : Scene) (w : World) (t : ℕ) (fs : List Form) (i : ℕ) (d : Form) (b : Bool) (lt : i < length fs) (can : b ≡ is_some (made s w t (get_or fs i d))) (so_far : is_some (first_made s w t (drop i fs)) ≡ is_some (first_made s w t fs)) where
  pub any_here : b ≡ true → true ≡ is_some (first_made s w t fs)
  any_here is =
      let one = is_some_or (made s w t (get_or fs i d)) (first_made s w t (drop (i + 1) fs)) true (sym is ∙ can) in
      sym (ap is_some (here s w t fs i d lt) ∙ one) ∙ so_far

  pub any_later : b ≡ false → is_some (first_made s w t (drop (i + 1) fs)) ≡ is_some (first_made s w t fs)
  any_later is =
      let one = is_some_or (made s w t (get_or fs i d)) (first_made s w t (drop (i + 1) fs)) false (sym is ∙ can) in
      sym (ap is_some (here s w t fs i d lt) ∙ one) ∙ so_far

-- ---- the thread goes on where its item is made

goes_some : (s : Scene) (things : List Thing) (t : ℕ) (r : Runner) (x : Item) → is_some (reached s (offered s t r.local) x) ≡ true → is_some (goes_on s things t r x) ≡ true
goes_some s things t r x h = go (reached s (offered s t r.local) x) h
  where
    go : (o : Option Local) → is_some o ≡ true → is_some (option_map (moved_to (r.done ++ x ∷ [])) (option_map (with_item s (is_due (is_completing_now things) x) x) o)) ≡ true
    go None p = cc
    go (Some l) p = refl

reply_some : (s : Scene) (things : List Thing) (t : ℕ) (r : Runner) → is_some (with_reply s things t r) ≡ true
reply_some s things t r = go (due_reply (undue r.local.agenda)) refl
  where
    go : (o : Option Reply) → due_reply (undue r.local.agenda) ≡ o → is_some (replies_with s things t r o) ≡ true
    go None e = refl
    go (Some q) e = goes_some s things t r (items.Said q) (reply_is_reached s t r.local q e)

then_reply : (s : Scene) (things : List Thing) (t : ℕ) (o : Option Runner) → is_some o ≡ true → is_some (option_and_then (with_reply s things t) o) ≡ true
then_reply s things t None h = cc
then_reply s things t (Some r) h = reply_some s things t r

after_some : (s : Scene) (things : List Thing) (t : ℕ) (r : Runner) (x : Item) → is_some (reached s (offered s t r.local) x) ≡ true → is_some (after_made s things t r x) ≡ true
after_some s things t r (items.Said q) h = goes_some s things t r (items.Said q) h
after_some s things t r (items.Change o p e) h = then_reply s things t (goes_on s things t r (items.Change o p e)) (goes_some s things t r (items.Change o p e) h)
after_some s things t r (items.Look o l) h = then_reply s things t (goes_on s things t r (items.Look o l)) (goes_some s things t r (items.Look o l) h)
after_some s things t r (items.Control c) h = then_reply s things t (goes_on s things t r (items.Control c)) (goes_some s things t r (items.Control c) h)

-- a started thread that can make an item is enabled
pub stepped_some : (s : Scene) (w : World) (t : ℕ) (r : Runner) → is_some (first_made s w t (forms_there s t (Some r))) ≡ is_some (stepped s w t (Some r))
stepped_some s w t r = go (first_made s w t (forms_there s t (Some r))) refl
  where
    go : (o : Option Made) → first_made s w t (forms_there s t (Some r)) ≡ o → is_some o ≡ is_some (option_and_then (after_step s w t r) o)
    go None e = refl
    go (Some m) e = sym (sym (is_some_map (stepped_to s w t m) (after_made s m.things t r m.item)) ∙ after_some s m.things t r m.item (made_is_reached s w t r.local m e))

pub enabled_is : (s : Scene) (xs : List ObjectNow) (rs : List (Option RunnerNow)) (t : ℕ) (old : Option RunnerNow) (fs : List Form)
    → slice_get rs t ≡ Some old
    → fs ≡ forms_there s t (option_map (runner_of s t) old)
    → is_some (first_made s (world_of s xs rs) t fs) ≡ is_some (step_of s (world_of s xs rs) t)
enabled_is s xs rs t None fs at e = ap (λ v. is_some (first_made s (world_of s xs rs) t v)) e ∙ ap (λ o. is_some (stepped s (world_of s xs rs) t (option_and_then (λ r. r) o))) (sym (at_number s rs t None at))
enabled_is s xs rs t (Some r) fs at e =
    ap (λ v. is_some (first_made s (world_of s xs rs) t v)) e
    ∙ (stepped_some s (world_of s xs rs) t (runner_of s t r)
    ∙ ap (λ o. is_some (stepped s (world_of s xs rs) t (option_and_then (λ r. r) o))) (sym (at_number s rs t (Some r) at)))
