-- What a thread is offered where it stands.
use Rattle.std.specs.Prelude.{◌≡◌, ℕ, ◌<◌, ◌≤◌, ℤ, pos, Bool, true, false, List, [], ◌∷◌, length, slice_get, Option, Some}
use Rattle.cx_names.specs.declared.ObjectNo.{ObjectNo}
use Rattle.cx_names.specs.declared.ThreadNo.{ThreadNo}
use Rattle.cx_names.specs.declared.Reply.{Reply}
use Rattle.cx_names.specs.declared.Reply.TheVariants as replies
use Rattle.cx_machine.specs.declared.kind.Op.{Op}
use Rattle.cx_machine.specs.declared.kind.Op.TheVariants as ops
use Rattle.cx_scene.specs.declared.declared.Object.{Object}
use Rattle.cx_scene.specs.Scene.{Scene, kind_of}
use Rattle.cx_items.specs.declared.form.Form.{Form}
use Rattle.cx_items.specs.declared.form.Form.TheVariants as forms
use Rattle.cx_items.specs.declared.item.Control.TheVariants as controls
use Rattle.cx_items.specs.Memory.{Memory, of, is_joinable}
use Rattle.cx_items.specs.Next.{Local, is_ended}
use Rattle.cx_asks.specs.declared.ask.Ask.{Ask}
use Rattle.cx_asks.specs.Asks.{serves}
use Rattle.cx_asks.specs.Forms.{asked_forms}

-- how much of a latch's counter a change of this word takes
abbrev pub counted_by : Option Op → ℤ → ℕ
counted_by (Some ops.CountDown) (pos n) = n
counted_by _ _ = 0

-- how much of its latch's counter an ask takes
abbrev pub takes : Ask → ℕ
takes k = counted_by k.change k.a

-- the forms are those of an ask of a declared object, which is served by what the memory keeps of it and by a share of no less than the ask takes
pub record IsServed (s : Scene) (m : Memory) (fs : List Form) : Type 0 where
  pub object : ObjectNo
  pub ask : Ask
  pub declared : Object
  pub there : slice_get s.objects object.0 ≡ Some declared
  pub forms : fs ≡ asked_forms (kind_of declared) object ask
  pub served : (share : ℕ) → takes ask ≤ share → serves (kind_of declared) (of m object) share ask

-- a reply that names no thread
abbrev pub names_nobody : Reply → Bool
names_nobody (replies.Thread u) = false
names_nobody _ = true

-- main may start thread u, another of the scenario
pub record MayStart (s : Scene) (t : ℕ) (u : ThreadNo) : Type 0 where
  pub main : t ≡ 0
  pub other : 0 < u.0
  pub there : u.0 < length s.threads

-- main may join thread u, another of the scenario, which it has started and not joined
pub record MayJoin (s : Scene) (t : ℕ) (m : Memory) (u : ThreadNo) : Type 0 where
  pub main : t ≡ 0
  pub other : 0 < u.0
  pub there : u.0 < length s.threads
  pub joinable : is_joinable m u ≡ true

-- the forms are those of a start, of a join, of a reply, or of an ask that is served, by the first of them; or none, where nothing is left
abbrev pub IsOffer : Scene → ℕ → Local → List Form → Type 0
IsOffer s t l [] = is_ended l ≡ true
IsOffer s t l (forms.Does (controls.Start u ok) ∷ fs) = (ok ≡ true) × (fs ≡ forms.Does (controls.Start u false) ∷ []) × MayStart s t u
IsOffer s t l (forms.Does (controls.Launch u ok) ∷ fs) = ⊥
IsOffer s t l (forms.Does (controls.Join u) ∷ fs) = (fs ≡ []) × MayJoin s t l.memory u
IsOffer s t l (forms.Says r ∷ fs) = (fs ≡ []) × (names_nobody r ≡ true)
IsOffer s t l (f ∷ fs) = IsServed s l.memory (f ∷ fs)
