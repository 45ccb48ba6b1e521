-- The forms of a task's alternatives, and where they lead.
use Rattle.std.specs.Prelude.{◌≡◌, ℕ, ◌+◌, ◌<◌, not, Bool, true, false, List, [], ◌∷◌, map, length, drop, slice_get, Option, Some, None}
use Rattle.cx_names.specs.declared.Reply.{Reply}
use Rattle.cx_scene.specs.Scene.{Scene, body_of}
use Rattle.cx_items.specs.declared.item.Item.{Item}
use Rattle.cx_items.specs.declared.form.Form.{Form}
use Rattle.cx_items.specs.declared.fit.Which.{Which}
use Rattle.cx_items.specs.declared.fit.Which.TheVariants.{First, Second, Third}
use Rattle.cx_items.specs.declared.fit.Fit.{Fit}
use Rattle.cx_items.specs.declared.fit.Found.{Found}
use Rattle.cx_items.specs.declared.task.Task.{Task}
use Rattle.cx_items.specs.declared.task.Task.TheVariants.{Completes}
use Rattle.cx_items.specs.declared.local.Local.{Local as Place}
use Rattle.cx_items.specs.Form.{fits}
use Rattle.cx_items.specs.Next.{Local, Alternative, alternatives, offered, reached}

-- a kept place, with the scene and the number of its thread
abbrev pub local_of : Scene → ℕ → Place → Local
local_of s t p = record { memory = p.memory; agenda = p.agenda; calls = drop p.next_call (body_of s t); number = p.next_call }

-- a place is the next one where there is one, and else as it was
abbrev pub IsMove : Bool → Option Local → Local → Local → Type 0
IsMove true next old new = next ≡ Some new
IsMove false next old new = (next ≡ None) × (new ≡ old)

abbrev pub form_of : Alternative → Form
form_of a = a.form

-- the forms of a task are the same wherever the thread stands
abbrev pub forms_of : Scene → Task → List Form
forms_of s task = map form_of (alternatives s 0 (record { memory = record { kept = []; held = []; joinable = []; turns = 0 }; agenda = []; calls = []; number = 0 }) task)

-- the first of these forms that the item is of
abbrev pub fit_at : Which → Option Reply → Option Fit → Option Fit
fit_at w (Some r) others = Some (record { which = w; reply = r })
fit_at w None others = others

abbrev pub first_fit : Scene → List Form → Item → Option Fit
first_fit s (f ∷ g ∷ h ∷ fs) x = fit_at First (fits s f x) (fit_at Second (fits s g x) (fit_at Third (fits s h x) None))
first_fit s (f ∷ g ∷ []) x = fit_at First (fits s f x) (fit_at Second (fits s g x) None)
first_fit s (f ∷ []) x = fit_at First (fits s f x) None
first_fit s [] x = None

-- where the alternative at this place leads, or the last one where there are fewer
abbrev pub next_at : List Alternative → Fit → Local → Local
next_at [] w l = l
next_at (a ∷ []) w l = a.next w.reply
next_at (a ∷ b ∷ []) w l = second a b w.which w.reply
  where
    second : Alternative → Alternative → Which → Reply → Local
    second a b First r = a.next r
    second a b _ r = b.next r
next_at (a ∷ b ∷ c ∷ others) w l = third a b c w.which w.reply
  where
    third : Alternative → Alternative → Alternative → Which → Reply → Local
    third a b c First r = a.next r
    third a b c Second r = b.next r
    third a b c Third r = c.next r

-- a completion that isn't due may be skipped
abbrev pub may_be_skipped : Task → Bool
may_be_skipped (Completes b must) = not must
may_be_skipped _ = false

-- the place after the task is done by a form of this fit
abbrev pub Steps : Scene → ℕ → Place → Task → Fit → Place → Type 0
Steps s t old task fit new = local_of s t new ≡ next_at (alternatives s t (local_of s t old) task) fit (local_of s t old)

-- where the item leads, if it is of a form of this task; the others come after it
abbrev pub stepped : Scene → ℕ → Local → List Task → Option Task → Fit → Option Local
stepped s t l others None fit = None
stepped s t l others (Some task) fit = Some (next_at (alternatives s t (record l { agenda = others }) task) fit (record l { agenda = others }))

-- the task that the item is of a form of, or that it is of none
abbrev pub Finds : Scene → ℕ → Local → Item → Option Found → Type 0
Finds s t l x None = reached s (offered s t l) x ≡ None
Finds s t l x (Some f) = (f.skipped < length l.agenda) × (reached s (offered s t l) x ≡ stepped s t l (drop (f.skipped + 1) l.agenda) (slice_get l.agenda f.skipped) f.fit)
