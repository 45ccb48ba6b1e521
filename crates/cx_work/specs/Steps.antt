-- What a step of a thread makes of its accesses, and where the thread stands.
use Rattle.std.specs.Prelude.{◌≡◌, ℕ, Bool, true, false, IsTrue, List, [], ◌∷◌, ◌++◌, map, slice_get, slice_set, Some}
use Rattle.cx_scene.specs.Scene.{Scene}
use Rattle.cx_items.specs.declared.form.Form.{Form}
use Rattle.cx_items.specs.declared.form.Form.TheVariants.{Does}
use Rattle.cx_items.specs.declared.item.Item.{Item}
use Rattle.cx_items.specs.declared.item.Item.TheVariants as items
use Rattle.cx_items.specs.declared.local.Local.{Local as Place}
use Rattle.cx_items.specs.Next.{offered, settled_local, local_at_start, is_ended}
use Rattle.cx_items.specs.Steps.{local_of, form_of}
use Rattle.cx_history.specs.Follows.{after_items}
use Rattle.cx_fronts.specs.Paths.{Fronts, AreItems}
use Rattle.cx_fronts.specs.Runs.{AgreesWith}
use Rattle.cx_kinds.specs.declared.access.Access.{Access}
use Rattle.cx_work.specs.declared.standing.Standing.{Standing}
use Rattle.cx_work.specs.Accesses.{AreShown, Made}
use Rattle.cx_work.specs.Reserves.{AreEnough}

-- the access to object o made the item, and the others are as they were
pub record ActsOn (ks ks' : List Access) (o : ℕ) (x : Item) : Type 0 where
  pub old : Access
  pub new : Access
  pub was : slice_get ks o ≡ Some old
  pub is : ks' ≡ slice_set ks o new
  pub made : Made old new x

-- what the item makes of the accesses: a change and a look go to that of their object
abbrev pub StepsOn : List Access → List Access → Item → Type 0
StepsOn ks ks' (items.Change q n e) = ActsOn ks ks' q.0 (items.Change q n e)
StepsOn ks ks' (items.Look q l) = ActsOn ks ks' q.0 (items.Look q l)
StepsOn ks ks' (items.Control c) = ks' ≡ ks
StepsOn ks ks' (items.Said r) = ks' ≡ ks

-- no other thread is started or joined
abbrev pub is_made_alone : Item → Bool
is_made_alone (items.Control c) = false
is_made_alone _ = true

-- ---- where a thread stands

-- what thread t may do next, from this place; a completion that isn't due is left out
abbrev pub forms_at : Scene → ℕ → Place → List Form
forms_at s t l = map form_of (offered s t (settled_local (local_of s t l)))

-- whether something is next: these are its forms then, and the body has not ended
abbrev pub IsNext : Scene → ℕ → Place → Bool → List Form → Type 0
IsNext s t l true fs = (fs ≡ forms_at s t l) × (is_ended (local_of s t l) ≡ false)
IsNext s t l false fs = IsTrue (is_ended (local_of s t l))

-- a start or a join comes first
abbrev pub begins_control : List Form → Bool
begins_control (Does c ∷ fs) = true
begins_control _ = false

-- by what the accesses show, the thread's text allows the list, which leads to this place
abbrev pub LeadsTo : Scene → ℕ → List Access → List Item → Place → Type 0
LeadsTo s t ks xs l = (f : Fronts) → AreShown ks f → (leaves_completing : ℕ → ℕ → Bool) → AgreesWith s f leaves_completing → after_items s leaves_completing t (local_at_start s t) xs ≡ Some (local_of s t l)

-- the list leads to where the thread stands, and the accesses suffice for the rest of its text
pub record StandsAt (s : Scene) (t : ℕ) (ks : List Access) (xs : List Item) (l : Place) : Type 0 where
  pub stands : LeadsTo s t ks xs l
  pub formed : AreItems s t xs
  pub enough : AreEnough s t ks xs

-- the same, once the accesses have made an item that isn't in the list yet
pub record HasMade (s : Scene) (t : ℕ) (ks : List Access) (xs : List Item) (x : Item) (l : Place) : Type 0 where
  pub stands : LeadsTo s t ks xs l
  pub formed : AreItems s t xs
  pub enough : AreEnough s t ks (xs ++ x ∷ [])

abbrev pub IsAt : Scene → Standing → Type 0
IsAt s x = StandsAt s x.thread.0 x.accesses.items x.list.items x.local
