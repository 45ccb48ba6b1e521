-- A step of a thread, by its item.
use Rattle.std.proofs.Common.{◌≡◌, ◌⊎◌, inl, inr, ℕ, true, List, refl, sym, subst}
use Rattle.cx_names.specs.declared.ObjectNo.{ObjectNo}
use Rattle.cx_names.specs.declared.Reply.{Reply}
use Rattle.cx_scene.specs.Scene.{Scene}
use Rattle.cx_items.specs.declared.item.Item.{Item}
use Rattle.cx_items.specs.declared.item.Item.TheVariants as items
use Rattle.cx_fronts.specs.Promises.{PromisesOne}
use Rattle.cx_kinds.specs.declared.access.Access.{Access}
use Rattle.cx_work.specs.Accesses.{AreMadeAs, AreAccesses, AreShown, objects_of}
use Rattle.cx_work.specs.Steps.{ActsOn, StepsOn, is_made_alone}
use Rattle.cx_work.proofs.Going.{IsOn}
use Rattle.cx_work.proofs.Stepping.{acts_promise, reply_promise}

-- an access made it, or it is a reply
acts_or_says : (ks ks' : List Access) (x : Item) → StepsOn ks ks' x → is_made_alone x ≡ true → ((q : ObjectNo) × IsOn q x × ActsOn ks ks' q.0 x) ⊎ ((r : Reply) × (x ≡ items.Said r) × (ks' ≡ ks))
acts_or_says ks ks' (items.Change q n e) steps alone = inl (q, refl, steps)
acts_or_says ks ks' (items.Look q l) steps alone = inl (q, refl, steps)
acts_or_says ks ks' (items.Said r) steps alone = inr (r, refl, steps)
acts_or_says ks ks' (items.Control c) steps alone = cc alone

pub steps_promise : (s : Scene) (t : ℕ) (ks ks' : List Access) (x : Item) → AreMadeAs s.objects (objects_of ks) → AreAccesses (objects_of ks) t ks → StepsOn ks ks' x → is_made_alone x ≡ true → PromisesOne s t (AreShown ks) x (AreShown ks')
steps_promise s t ks ks' x made are steps alone = go (acts_or_says ks ks' x steps alone)
  where
    go : ((q : ObjectNo) × IsOn q x × ActsOn ks ks' q.0 x) ⊎ ((r : Reply) × (x ≡ items.Said r) × (ks' ≡ ks)) → PromisesOne s t (AreShown ks) x (AreShown ks')
    go (inl a) = acts_promise s t ks ks' a.0 x a.1 made are a.2
    go (inr b) = subst (λ (y : Item). PromisesOne s t (AreShown ks) y (AreShown ks')) (sym b.1) (reply_promise s t ks ks' b.0 b.2)
