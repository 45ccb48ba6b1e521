-- What the unlocks at the end of a body spend.
use Rattle.std.proofs.Common.{◌≡◌, ℕ, zero, suc, ◌+◌, ◌≤◌, Bool, true, false, List, [], ◌∷◌, ◌++◌, replicate, if◌then◌else◌, refl, sym, ap, ◌∙◌, subst, arith, append_assoc}
use Rattle.cx_names.specs.declared.ObjectNo.{ObjectNo}
use Rattle.cx_names.specs.declared.Reply.TheVariants as replies
use Rattle.cx_machine.specs.declared.kind.Op.TheVariants as ops
use Rattle.cx_scene.specs.declared.declared.Object.{Object}
use Rattle.cx_scene.specs.Scene.{Scene}
use Rattle.cx_items.specs.declared.task.Task.{Task}
use Rattle.cx_items.specs.Memory.{Memory}
use Rattle.cx_items.specs.Form.{change}
use Rattle.cx_items.specs.Calls.{one, unlock as unlock_task, unshares, each_object, gives_up, end_tasks}
use Rattle.cx_asks.specs.Scenes.{IsAskable}
use Rattle.cx_asks.proofs.Kept.{levels, reads, IsKept}
use Rattle.cx_asks.proofs.Calls.{end_is}
use Rattle.cx_asks.proofs.Weighing.{Measure, unlock_cost, agenda_cost}

-- so often so much
abbrev pub repeated : ℕ → ℕ → ℕ
repeated zero u = 0
repeated (suc n) u = u + repeated n u

module _ (w : Measure) where
  -- the end of sharing a mutex, and all of giving one up
  abbrev pub unshare_cost : ℕ → ℕ
  unshare_cost o = w.form (change (record { 0 = o }) ops.UnlockShared 0 replies.Ok)

  abbrev pub gives_up_cost : Memory → ℕ → ℕ
  gives_up_cost m o = repeated (levels m o) (unlock_cost w o) + (if reads m o then unshare_cost o else 0)

  module _ (later : ℕ) where
    none_first : (a : ℕ) → a ≡ 0 + a
    none_first a = omega arith

    one_first : (u r t a : ℕ) → a ≡ r + t → (u + 0) + a ≡ (u + r) + t
    one_first u r t a h = omega (arith, h)

    only_first : (u t : ℕ) → (u + 0) + t ≡ u + t
    only_first u t = omega arith

    repeats : (n : ℕ) (o : ObjectNo) (ts : List Task) → agenda_cost w later (replicate n (unlock_task o) ++ ts) ≡ repeated n (unlock_cost w o.0) + agenda_cost w later ts
    repeats zero o ts = none_first (agenda_cost w later ts)
    repeats (suc n) o ts = one_first (unlock_cost w o.0) (repeated n (unlock_cost w o.0)) (agenda_cost w later ts) (agenda_cost w later (replicate n (unlock_task o) ++ ts)) (repeats n o ts)

    unshares_cost : (b : Bool) (o : ObjectNo) (ts : List Task) → agenda_cost w later ((if b then one (change o ops.UnlockShared 0 replies.Ok) ∷ [] else []) ++ ts) ≡ (if b then unshare_cost o.0 else 0) + agenda_cost w later ts
    unshares_cost false o ts = none_first (agenda_cost w later ts)
    unshares_cost true o ts = only_first (unshare_cost o.0) (agenda_cost w later ts)

    both_first : (a r u t c : ℕ) → a ≡ r + c → c ≡ u + t → a ≡ (r + u) + t
    both_first a r u t c h k = omega (arith, h, k)

    together : (c r t b b' : ℕ) → c ≡ r + t → t ≤ b' → r + b' ≤ b → c ≤ b
    together c r t b b' h k e = omega (arith, h, k, e)

    none_less : (n : ℕ) → 0 ≤ n
    none_less n = omega arith

    -- no more than a bound that what is given up of each object makes smaller
    gives_cost : (s : Scene) (m : Memory) (bound : ℕ → ℕ) → ((i : ℕ) → gives_up_cost m i + bound (i + 1) ≤ bound i) → (i : ℕ) (ds : List Object) → agenda_cost w later (each_object (gives_up m) i ds) ≤ bound i
    gives_cost s m bound falls i [] = none_less (bound i)
    gives_cost s m bound falls i (d ∷ ds) =
        let o : ObjectNo = record { 0 = i } in
        let rest : List Task = each_object (gives_up m) (i + 1) ds in
        let apart : agenda_cost w later (gives_up m o d ++ rest) ≡ repeated (levels m i) (unlock_cost w i) + agenda_cost w later (unshares m o ++ rest) = ap (agenda_cost w later) (append_assoc (replicate (levels m i) (unlock_task o)) (unshares m o) rest) ∙ repeats (levels m i) o (unshares m o ++ rest) in
        let whole : agenda_cost w later (gives_up m o d ++ rest) ≡ gives_up_cost m i + agenda_cost w later rest = both_first (agenda_cost w later (gives_up m o d ++ rest)) (repeated (levels m i) (unlock_cost w i)) (if reads m i then unshare_cost i else 0) (agenda_cost w later rest) (agenda_cost w later (unshares m o ++ rest)) apart (unshares_cost (reads m i) o rest) in
        together (agenda_cost w later (gives_up m o d ++ rest)) (gives_up_cost m i) (agenda_cost w later rest) (bound i) (bound (i + 1)) whole (gives_cost s m bound falls (i + 1) ds) (falls i)

    pub ends_cost : (s : Scene) (t : ℕ) (m : Memory) (bound : ℕ → ℕ) → IsAskable s → IsKept s m → ((i : ℕ) → gives_up_cost m i + bound (i + 1) ≤ bound i) → agenda_cost w later (end_tasks s t m) ≤ bound 0
    ends_cost s t m bound a k falls = subst (λ (ts : List Task). agenda_cost w later ts ≤ bound 0) (sym (end_is s t m a k)) (gives_cost s m bound falls 0 s.objects)

pub repeated_none : (n u : ℕ) → u ≡ 0 → repeated n u ≡ 0
repeated_none zero u h = refl
repeated_none (suc n) u h = let rest = repeated_none n u h in omega (arith, rest, h)

pub repeated_one : (n u : ℕ) → u ≡ 1 → repeated n u ≡ n
repeated_one zero u h = refl
repeated_one (suc n) u h = let rest = repeated_one n u h in omega (arith, rest, h)

-- nothing is spent where neither an unlock nor the end of sharing spends anything
pub gives_nothing : (w : Measure) (m : Memory) (i : ℕ) → unlock_cost w i ≡ 0 → unshare_cost w i ≡ 0 → gives_up_cost w m i + 0 ≤ 0
gives_nothing w m i h k = both_none (repeated (levels m i) (unlock_cost w i)) (if reads m i then unshare_cost w i else 0) (repeated_none (levels m i) (unlock_cost w i) h) (none_shared (reads m i))
  where
    none_shared : (b : Bool) → (if b then unshare_cost w i else 0) ≡ 0
    none_shared true = k
    none_shared false = refl

    both_none : (a b : ℕ) → a ≡ 0 → b ≡ 0 → (a + b) + 0 ≤ 0
    both_none a b h k = omega (arith, h, k)
