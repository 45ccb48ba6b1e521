-- Each item makes the weight smaller.
use Rattle.std.proofs.Common.{◌≡◌, ℕ, ◌+◌, ◌-◌, ◌*◌, ◌≤◌, nat_lt, Bool, true, false, List, [], ◌∷◌, length, drop, Option, Some, None, option_map, if◌then◌else◌, refl, ◌∙◌, subst, arith}
use Rattle.cx_names.specs.declared.Reply.{Reply}
use Rattle.cx_scene.specs.Scene.{Scene}
use Rattle.cx_items.specs.declared.item.Item.{Item}
use Rattle.cx_items.specs.declared.task.Task.{Task}
use Rattle.cx_items.specs.declared.task.Task.TheVariants.{Completes, AsksStop}
use Rattle.cx_items.specs.Form.{fits}
use Rattle.cx_items.specs.Memory.{Memory, remembering}
use Rattle.cx_items.specs.Next.{Local, Alternative, offered, or_then, reached, due, with_due, with_item, moved}
use Rattle.cx_weights.specs.Weights.{paid_by, earned_by, form_weight, task_weight, is_replying, agenda_weight, levels, end_weight, later_weight, weight, is_sized, IsSized, is_true_item}
use Rattle.cx_weights.specs.Laws.{Falls}
use Rattle.cx_weights.proofs.Memory.{gained_by, Keeps, keeps_remembering}
use Rattle.cx_weights.proofs.Tasks.{form_earns, AllLess, and_more, less_offered}
use Rattle.cx_weights.proofs.Fitting.{fitted}

-- ---- what is remembered

nothing_more : (g : ℕ) → 0 ≤ 0 + g
nothing_more g = omega arith

more_last : (w x y g : ℕ) → x ≤ y + g → w + x ≤ (w + y) + g
more_last w x y g h = omega arith

more_later : (asked : ℕ → Bool) (more : Bool) (x y g : ℕ) (ts : List Task) → x ≤ y + g → agenda_weight asked more x ts ≤ agenda_weight asked more y ts + g
more_later asked more x y g [] h = nothing_more g
more_later asked more x y g (task ∷ ts) h = go (is_replying task) (more_later asked more x y g ts h)
  where
    go : (b : Bool) → agenda_weight asked more x ts ≤ agenda_weight asked more y ts + g → task_weight asked more task + (if b then x else agenda_weight asked more x ts) ≤ (task_weight asked more task + (if b then y else agenda_weight asked more y ts)) + g
    go true k = more_last (task_weight asked more task) x y g h
    go false k = more_last (task_weight asked more task) (agenda_weight asked more x ts) (agenda_weight asked more y ts) g k

later_more : (t v w r g : ℕ) → w ≤ v + g → t + (w + r) ≤ (t + (v + r)) + g
later_more t v w r g h = omega arith

kept_light : (s : Scene) (asked : ℕ → Bool) (k : Local) (m : Memory) (g : ℕ) → Keeps k.memory m g → weight s asked (record k { memory = m }) ≤ weight s asked k + g
kept_light s asked k m g h =
    let r = end_weight s + 19 * length (drop 1 k.calls) in
    rw h.turns (more_later asked (nat_lt k.memory.turns 16384) ((16384 - k.memory.turns) * 16 + (levels m.kept + r)) (later_weight s k) g k.agenda (later_more ((16384 - k.memory.turns) * 16) (levels k.memory.kept) (levels m.kept) r g h.more))

due_weight : (asked : ℕ → Bool) (more : Bool) (later : ℕ) (ts : List Task) → agenda_weight asked more later (due ts) ≡ agenda_weight asked more later ts
due_weight asked more later [] = refl
due_weight asked more later (Completes b must ∷ ts) = refl
due_weight asked more later (task ∷ ts) = refl

due_sized : (ts : List Task) → is_sized (due ts) ≡ is_sized ts
due_sized [] = refl
due_sized (Completes b must ∷ ts) = refl
due_sized (task ∷ ts) = refl

with_due_weight : (s : Scene) (asked : ℕ → Bool) (b : Bool) (k : Local) → weight s asked (with_due b k) ≡ weight s asked k
with_due_weight s asked true k = due_weight asked (nat_lt k.memory.turns 16384) (later_weight s k) k.agenda
with_due_weight s asked false k = refl

with_due_sized : (b : Bool) (k : Local) → IsSized k → IsSized (with_due b k)
with_due_sized true k h = record { agenda = due_sized k.agenda ∙ h.agenda; calls = h.calls }
with_due_sized false k h = record { agenda = h.agenda; calls = h.calls }

-- ---- what is reached

record Reaches (s : Scene) (asked : ℕ → Bool) (n : ℕ) (x : Item) (k : Local) : Type 0 where
  pub less : weight s asked k + (1 + paid_by x + gained_by x) ≤ n + earned_by x
  pub sized : IsSized k

by_form : (w c f n e d : ℕ) → w + f ≤ n + e → c ≤ f → e ≤ d → w + c ≤ n + d
by_form w c f n e d h k m = omega arith

reaches : (s : Scene) (asked : ℕ → Bool) (n : ℕ) (others : List Alternative) (x : Item) (k : Local) → is_true_item asked x ≡ true → AllLess s asked n others → reached s others x ≡ Some k → Reaches s asked n x k
reaches s asked n [] x k h all e = cc
reaches s asked n (a ∷ others) x k h (and_more a' rest f all) e = go (fits s a.form x) refl e (λ w. reaches s asked n others x k h all w)
  where
    go : (o : Option Reply) → fits s a.form x ≡ o → or_then (option_map a.next o) (reached s others x) ≡ Some k → (reached s others x ≡ Some k → Reaches s asked n x k) → Reaches s asked n x k
    go None p w later = later w
    go (Some r) p w later =
        let same : a.next r ≡ k = cc in
        let fit = fitted s asked a.form x r h p in
        let less = f r fit.suited in
        let here : Reaches s asked n x (a.next r) = record { less = by_form (weight s asked (a.next r)) (1 + paid_by x + gained_by x) (form_weight a.form) n (form_earns a.form) (earned_by x) less.less fit.cost fit.earned; sized = less.sized } in
        subst (λ v. Reaches s asked n x v) same here

-- ---- one item

all_told : (v w g p n e : ℕ) → v ≤ w + g → w + (1 + p + g) ≤ n + e → v + (1 + p) ≤ n + e
all_told v w g p n e h k = omega arith

pub each_item_weighs : (s : Scene) (asked : ℕ → Bool) (completing : Bool) (t : ℕ) (l k : Local) (x : Item) → IsSized l → is_true_item asked x ≡ true → moved s completing t l x ≡ Some k → Falls s asked l k x
each_item_weighs s asked completing t l k x sized true_ h = go (reached s (offered s t l) x) refl h
  where
    go : (o : Option Local) → reached s (offered s t l) x ≡ o → option_map (with_item s completing x) o ≡ Some k → Falls s asked l k x
    go None p w = cc
    go (Some m) p w =
        let r = reaches s asked (weight s asked l) (offered s t l) x m true_ (less_offered s asked t l l.agenda sized.agenda sized.calls) p in
        let kept : Local = record m { memory = remembering s m.memory x } in
        let light = kept_light s asked m (remembering s m.memory x) (gained_by x) (keeps_remembering s m.memory x) in
        let same : with_item s completing x m ≡ k = cc in
        let there : weight s asked (with_item s completing x m) ≤ weight s asked m + gained_by x = rw (with_due_weight s asked completing kept) light in
        let here : Falls s asked l (with_item s completing x m) x = record { less = all_told (weight s asked (with_item s completing x m)) (weight s asked m) (gained_by x) (paid_by x) (weight s asked l) (earned_by x) there r.less; sized = with_due_sized completing kept (record { agenda = r.sized.agenda; calls = r.sized.calls }) } in
        subst (λ v. Falls s asked l v x) same here

-- ---- a stop that is requested

stop_lighter : (a b : Bool) → (a ≡ true → b ≡ true) → (if b then 5 else 14) ≤ (if a then 5 else 14)
stop_lighter true true h = omega arith
stop_lighter true false h = let no_ : false ≡ true = h refl in cc
stop_lighter false true h = omega arith
stop_lighter false false h = omega arith

task_lighter : (asked asked' : ℕ → Bool) (more : Bool) (task : Task) → ((o : ℕ) → asked o ≡ true → asked' o ≡ true) → task_weight asked' more task ≤ task_weight asked more task
task_lighter asked asked' more (AsksStop w) h = stop_lighter (asked w.stop.0) (asked' w.stop.0) (h w.stop.0)
task_lighter asked asked' more task h = omega arith

pub both_lighter : (a b c d : ℕ) → a ≤ b → c ≤ d → a + c ≤ b + d
both_lighter a b c d h k = omega arith

agenda_lighter : (asked asked' : ℕ → Bool) (more : Bool) (later : ℕ) (ts : List Task) → ((o : ℕ) → asked o ≡ true → asked' o ≡ true) → agenda_weight asked' more later ts ≤ agenda_weight asked more later ts
agenda_lighter asked asked' more later [] h = omega arith
agenda_lighter asked asked' more later (task ∷ ts) h = go (is_replying task) (agenda_lighter asked asked' more later ts h)
  where
    go : (b : Bool) → agenda_weight asked' more later ts ≤ agenda_weight asked more later ts → task_weight asked' more task + (if b then later else agenda_weight asked' more later ts) ≤ task_weight asked more task + (if b then later else agenda_weight asked more later ts)
    go true k = both_lighter (task_weight asked' more task) (task_weight asked more task) later later (task_lighter asked asked' more task h) (omega arith)
    go false k = both_lighter (task_weight asked' more task) (task_weight asked more task) (agenda_weight asked' more later ts) (agenda_weight asked more later ts) (task_lighter asked asked' more task h) k

pub requested_is_lighter : (s : Scene) (asked asked' : ℕ → Bool) (l : Local) → ((o : ℕ) → asked o ≡ true → asked' o ≡ true) → weight s asked' l ≤ weight s asked l
requested_is_lighter s asked asked' l h = agenda_lighter asked asked' (nat_lt l.memory.turns 16384) (later_weight s l) l.agenda h
