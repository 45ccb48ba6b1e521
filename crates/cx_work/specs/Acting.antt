-- What is asked of an object, and made.
use Rattle.std.specs.Prelude.{◌≡◌, ◌≤◌, ℕ, Bool, false, List, [], ◌∷◌, slice_get, slice_set, Some}
use Rattle.cx_names.specs.declared.ObjectNo.{ObjectNo}
use Rattle.cx_names.specs.declared.Reply.{Reply}
use Rattle.cx_machine.specs.Machine.{State}
use Rattle.cx_turn.specs.declared.view.View.{View}
use Rattle.cx_scene.specs.Scene.{Scene}
use Rattle.cx_items.specs.declared.form.Form.{Form}
use Rattle.cx_items.specs.declared.form.Form.TheVariants.{Says}
use Rattle.cx_items.specs.declared.item.Item.{Item}
use Rattle.cx_items.specs.declared.item.Item.TheVariants as items
use Rattle.cx_items.specs.Next.{is_due}
use Rattle.cx_fronts.specs.Paths.{Fronts}
use Rattle.cx_fronts.specs.Runs.{AgreesWith}
use Rattle.cx_asks.specs.declared.ask.Ask.{Ask}
use Rattle.cx_asks.specs.Forms.{IsAskOf}
use Rattle.cx_kinds.specs.declared.access.Access.{Access}
use Rattle.cx_kinds.specs.Accesses.{object_of, Knows, kept_of, Serves}
use Rattle.cx_kinds.specs.Acts.{IsKeptBy}
use Rattle.cx_kinds.specs.Sights.{Acted, IsCompleting}
use Rattle.cx_work.specs.Accesses.{AreShown}

-- the item is of what these forms ask of one object, by the access to it; the others are as they were
pub record AsksOn (fs : List Form) (ks ks' : List Access) (x : Item) : Type 0 where
  pub object : ObjectNo
  pub ask : Ask
  pub asked : IsAskOf fs object ask
  pub old : Access
  pub new : Access
  pub was : slice_get ks object.0 ≡ Some old
  pub is : ks' ≡ slice_set ks object.0 new
  pub same : object_of new ≡ object_of old
  pub did : Acted object ask (Knows old) (Knows new) (Some x)
  pub kept : IsKeptBy (kept_of old) (Some x) (kept_of new)

-- the forms are an ask of one of these accesses, which serves it
pub record AreServed (fs : List Form) (ks : List Access) : Type 0 where
  pub object : ObjectNo
  pub ask : Ask
  pub asked : IsAskOf fs object ask
  pub access : Access
  pub there : slice_get ks object.0 ≡ Some access
  pub may : (v : View State) → Knows access v → (1 ≤ v.left) × Serves access v.share ask

-- they are not a reply alone
abbrev pub IsNoReply : List Form → Type 0
IsNoReply fs = (r : Reply) → fs ≡ Says r ∷ [] → ⊥

-- whether the state that is seen last of the item's object is that of a barrier which completes; not so after what is no change
abbrev pub IsLeft : List Access → Item → Bool → Type 0
IsLeft ks (items.Change q n e) b = (k : Access) → slice_get ks q.0 ≡ Some k → IsCompleting (Knows k) b
IsLeft ks _ b = b ≡ false

-- by what these accesses show, a completion is due after the item, or none
abbrev pub LeavesIt : Scene → List Access → Item → Bool → Type 0
LeavesIt s ks x b = (f : Fronts) → AreShown ks f → (leaves_completing : ℕ → ℕ → Bool) → AgreesWith s f leaves_completing → is_due leaves_completing x ≡ b
