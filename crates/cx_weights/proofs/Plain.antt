-- Tasks that don't reply, and what they weigh before others.
use Rattle.std.proofs.Common.{◌≡◌, ℕ, zero, suc, ◌+◌, ◌*◌, ◌≤◌, ◌==◌, ◌&&◌, not, ℤ, pos, negsuc, Bool, true, false, List, [], ◌∷◌, ◌++◌, length, drop, replicate, slice_get, Option, Some, None, if◌then◌else◌, unwrap_or, refl, ◌∙◌, append_assoc, subst, arith}
use Rattle.cx_names.specs.declared.ObjectNo.{ObjectNo}
use Rattle.cx_names.specs.declared.Outcome.TheVariants as outcomes
use Rattle.cx_names.specs.declared.Reply.TheVariants as replies
use Rattle.cx_machine.specs.declared.kind.Op.TheVariants as ops
use Rattle.cx_machine.specs.Words.{has}
use Rattle.cx_scene.specs.declared.declared.Object.{Object}
use Rattle.cx_scene.specs.declared.declared.Thread.{Thread}
use Rattle.cx_scene.specs.declared.declared.Thread.TheVariants as threads
use Rattle.cx_scene.specs.declared.declared.Small.TheVariants as smalls
use Rattle.cx_scene.specs.declared.declared.Callback.{Callback}
use Rattle.cx_scene.specs.declared.declared.Action.{Action}
use Rattle.cx_scene.specs.declared.declared.Action.TheVariants as actions
use Rattle.cx_scene.specs.declared.declared.Registration.{Registration}
use Rattle.cx_scene.specs.declared.declared.Registration.TheVariants.{OfCallback, OfWait}
use Rattle.cx_scene.specs.Scene.{Scene, registration}
use Rattle.cx_items.specs.declared.kept.Kept.{Kept}
use Rattle.cx_items.specs.declared.item.Control.TheVariants as controls
use Rattle.cx_items.specs.declared.form.Wanted.TheVariants.{AnOutcome}
use Rattle.cx_items.specs.declared.form.Form.TheVariants.{Look, Does}
use Rattle.cx_items.specs.declared.form.Forms.{Forms}
use Rattle.cx_items.specs.declared.task.Task.{Task}
use Rattle.cx_items.specs.declared.task.Task.TheVariants.{Makes, Requests}
use Rattle.cx_items.specs.Form.{change}
use Rattle.cx_items.specs.Memory.{Memory, of, nothing}
use Rattle.cx_items.specs.Calls.{one, unlock, unshares, gives_up, each_object, each_thread, breaks, is_number_of, owner_of, awaits, stops, end_tasks, set_form}
use Rattle.cx_items.specs.Next.{action_tasks, declared_tasks, registered_tasks, callback_tasks, unlocks}
use Rattle.cx_weights.specs.Weights.{forms_weight, agenda_weight, levels, end_weight, is_sized}

pub record Plain (ts : List Task) (m : ℕ) : Type 0 where
  pub weighs : (asked : ℕ → Bool) (more : Bool) (later : ℕ) (rest : List Task) → agenda_weight asked more later (ts ++ rest) ≤ m + agenda_weight asked more later rest
  pub sizes : (rest : List Task) → is_sized (ts ++ rest) ≡ is_sized rest

at_most : (m x : ℕ) → x ≤ m + x
at_most m x = omega arith

no_less : (w m x : ℕ) → w ≤ m → w + x ≤ m + x
no_less w m x h = omega arith

in_all : (a b c m n : ℕ) → a ≤ m + b → b ≤ n + c → a ≤ (m + n) + c
in_all a b c m n h k = omega arith

no_more : (a x m n : ℕ) → m ≤ n → a ≤ m + x → a ≤ n + x
no_more a x m n h k = omega arith

pub plain_none : (m : ℕ) → Plain [] m
plain_none m = record { weighs = λ asked more later rest. at_most m (agenda_weight asked more later rest); sizes = λ rest. refl }

pub plain_makes : (fs : Forms) (m : ℕ) → forms_weight fs ≤ m → Plain (Makes fs ∷ []) m
plain_makes fs m h = record { weighs = λ asked more later rest. no_less (forms_weight fs) m (agenda_weight asked more later rest) h; sizes = λ rest. refl }

pub plain_join : (xs ys : List Task) (m n : ℕ) → Plain xs m → Plain ys n → Plain (xs ++ ys) (m + n)
plain_join xs ys m n p q = record {
  weighs = λ asked more later rest. rw (append_assoc xs ys rest) (in_all (agenda_weight asked more later (xs ++ (ys ++ rest))) (agenda_weight asked more later (ys ++ rest)) (agenda_weight asked more later rest) m n (p.weighs asked more later (ys ++ rest)) (q.weighs asked more later rest));
  sizes = λ rest. rw (append_assoc xs ys rest) (p.sizes (ys ++ rest) ∙ q.sizes rest);
}

pub plain_up : (ts : List Task) (m n : ℕ) → m ≤ n → Plain ts m → Plain ts n
plain_up ts m n h p = record { weighs = λ asked more later rest. no_more (agenda_weight asked more later (ts ++ rest)) (agenda_weight asked more later rest) m n h (p.weighs asked more later rest); sizes = p.sizes }

pub plain_if : (b : Bool) (ts us : List Task) (m : ℕ) → Plain ts m → Plain us m → Plain (if b then ts else us) m
plain_if true ts us m p q = p
plain_if false ts us m p q = q

-- ---- the end of a body

one_more : (n : ℕ) → 1 + n ≤ suc n
one_more n = omega arith

plain_levels : (n : ℕ) (o : ObjectNo) → Plain (replicate n (unlock o)) n
plain_levels zero o = plain_none 0
plain_levels (suc n) o = plain_up (unlock o ∷ replicate n (unlock o)) (1 + n) (suc n) (one_more n) (plain_join (unlock o ∷ []) (replicate n (unlock o)) 1 n (plain_makes _ 1 (omega arith)) (plain_levels n o))

plain_gives_up : (m : Memory) (o : ObjectNo) (d : Object) → Plain (gives_up m o d) ((of m o).levels + 1)
plain_gives_up m o d = plain_join (replicate (of m o).levels (unlock o)) (unshares m o) (of m o).levels 1 (plain_levels (of m o).levels o) (plain_if (of m o).reads (one (change o ops.UnlockShared 0 replies.Ok) ∷ []) [] 1 (plain_makes _ 1 (omega arith)) (plain_none 1))

level_from : (ks : List Kept) (i : ℕ) → (unwrap_or (slice_get ks i) nothing).levels + levels (drop (suc i) ks) ≤ levels (drop i ks)
level_from [] zero = omega arith
level_from [] (suc i) = omega arith
level_from (k ∷ ks) zero = omega arith
level_from (k ∷ ks) (suc i) = level_from ks i

level_first : (ks : List Kept) (i : ℕ) → (unwrap_or (slice_get ks i) nothing).levels + levels (drop (i + 1) ks) ≤ levels (drop i ks)
level_first ks i = let e : suc i ≡ i + 1 = omega arith in subst (λ j. (unwrap_or (slice_get ks i) nothing).levels + levels (drop j ks) ≤ levels (drop i ks)) e (level_from ks i)

next_object : (a b c n : ℕ) → a + b ≤ c → (a + 1) + (b + n) ≤ c + suc n
next_object a b c n h = omega arith

plain_gives : (m : Memory) (i : ℕ) (ds : List Object) → Plain (each_object (gives_up m) i ds) (levels (drop i m.kept) + length ds)
plain_gives m i [] = plain_none (levels (drop i m.kept) + 0)
plain_gives m i (d ∷ ds) =
    let o : ObjectNo = record { 0 = i } in
    plain_up (gives_up m o d ++ each_object (gives_up m) (i + 1) ds) (((of m o).levels + 1) + (levels (drop (i + 1) m.kept) + length ds)) (levels (drop i m.kept) + suc (length ds))
    (next_object (of m o).levels (levels (drop (i + 1) m.kept)) (levels (drop i m.kept)) (length ds) (level_first m.kept i))
    (plain_join (gives_up m o d) (each_object (gives_up m) (i + 1) ds) ((of m o).levels + 1) (levels (drop (i + 1) m.kept) + length ds) (plain_gives_up m o d) (plain_gives m (i + 1) ds))

plain_objects : (f : ObjectNo → Object → List Task) → ((o : ObjectNo) (d : Object) → Plain (f o d) 1) → (i : ℕ) (ds : List Object) → Plain (each_object f i ds) (length ds)
plain_objects f h i [] = plain_none 0
plain_objects f h i (d ∷ ds) = plain_up (f (record { 0 = i }) d ++ each_object f (i + 1) ds) (1 + length ds) (suc (length ds)) (one_more (length ds)) (plain_join (f (record { 0 = i }) d) (each_object f (i + 1) ds) 1 (length ds) (h (record { 0 = i }) d) (plain_objects f h (i + 1) ds))

four_more : (n : ℕ) → 4 * n + 4 ≤ 4 * suc n
four_more n = omega arith

plain_threads : (f : ℕ → Thread → List Task) → ((u : ℕ) (d : Thread) → Plain (f u d) 4) → (i : ℕ) (us : List Thread) → Plain (each_thread f i us) (4 * length us)
plain_threads f h i [] = plain_none (4 * 0)
plain_threads f h i (u ∷ us) = plain_up (each_thread f (i + 1) us ++ f i u) (4 * length us + 4) (4 * suc (length us)) (four_more (length us)) (plain_join (each_thread f (i + 1) us) (f i u) (4 * length us) 4 (plain_threads f h (i + 1) us) (h i u))

plain_breaks : (t : ℕ) (m : Memory) (o : ObjectNo) (d : Object) → Plain (breaks t m o d) 1
plain_breaks t m o d = plain_if (is_number_of t (owner_of d) && not (of m o).is_set && not (of m o).is_dropped) (one (set_form o outcomes.Broken) ∷ []) [] 1 (plain_makes _ 1 (omega arith)) (plain_none 1)

plain_awaits : (m : Memory) (o : ObjectNo) (d : Object) → Plain (awaits m o d) 1
plain_awaits m o d = plain_if ((of m o).is_launched && (of m o).is_valid) (one (Look o ops.Ready (pos 0) (pos 0) AnOutcome) ∷ []) [] 1 (plain_makes _ 1 (omega arith)) (plain_none 1)

plain_request : (st : ObjectNo) → Plain (Requests st false ∷ []) 3
plain_request st = record { weighs = λ asked more later rest. no_less 3 3 (agenda_weight asked more later rest) (omega arith); sizes = λ rest. refl }

plain_stops : (m : Memory) (u : ℕ) (d : Thread) → Plain (stops m u d) 4
plain_stops m u threads.Plain = plain_none 4
plain_stops m u (threads.Launched o) = plain_none 4
plain_stops m u (threads.Stoppable st) =
    let joins = one (Does (controls.Join (record { 0 = u }))) ∷ [] in
    plain_if (has m.joinable u) (Requests st false ∷ joins) [] 4 (plain_join (Requests st false ∷ []) joins 3 1 (plain_request st) (plain_makes _ 1 (omega arith))) (plain_none 4)

whole_end : (a n k : ℕ) → (a + n) + (n + (n + 4 * k)) ≤ a + (3 * n + 4 * k)
whole_end a n k = omega arith

pub plain_end : (s : Scene) (t : ℕ) (m : Memory) → Plain (end_tasks s t m) (levels m.kept + end_weight s)
plain_end s t m =
    let n = length s.objects in
    let k = length s.threads in
    let mains = each_object (awaits m) 0 s.objects ++ each_thread (stops m) 0 s.threads in
    let main = plain_if (t == 0) mains [] (n + 4 * k) (plain_join (each_object (awaits m) 0 s.objects) (each_thread (stops m) 0 s.threads) n (4 * k) (plain_objects (awaits m) (plain_awaits m) 0 s.objects) (plain_threads (stops m) (plain_stops m) 0 s.threads)) (plain_none (n + 4 * k)) in
    let broken = plain_join (each_object (breaks t m) 0 s.objects) (if t == 0 then mains else []) n (n + 4 * k) (plain_objects (breaks t m) (plain_breaks t m) 0 s.objects) main in
    plain_up (end_tasks s t m) ((levels m.kept + n) + (n + (n + 4 * k))) (levels m.kept + end_weight s) (whole_end (levels m.kept) n k)
    (plain_join (each_object (gives_up m) 0 s.objects) (each_object (breaks t m) 0 s.objects ++ (if t == 0 then mains else [])) (levels m.kept + n) (n + (n + 4 * k)) (plain_gives m 0 s.objects) broken)

-- ---- callbacks, and unlocks

plain_action : (m : Memory) (id : ℕ) (st : ObjectNo) (a : Action) → Plain (action_tasks m id st a) 2
plain_action m id st (actions.Small (smalls.Release q n)) = plain_makes _ 2 (omega arith)
plain_action m id st (actions.Small (smalls.NotifyOne q)) = plain_makes _ 2 (omega arith)
plain_action m id st (actions.Small (smalls.NotifyAll q)) = plain_makes _ 2 (omega arith)
plain_action m id st actions.Deregister = plain_if (has m.held id) (one (change st ops.Deregister id replies.Inside) ∷ []) [] 2 (plain_makes _ 2 (omega arith)) (plain_none 2)

plain_declared : (m : Memory) (id : ℕ) (c : Option Callback) → Plain (declared_tasks m id c) 2
plain_declared m id None = plain_none 2
plain_declared m id (Some c) = plain_action m id c.stop c.action

plain_registered : (s : Scene) (m : Memory) (id : ℕ) (r : Option Registration) → Plain (registered_tasks s m id r) 2
plain_registered s m id None = plain_none 2
plain_registered s m id (Some (OfWait c st)) = plain_makes _ 2 (omega arith)
plain_registered s m id (Some (OfCallback k)) = plain_declared m id (slice_get s.callbacks k.0)

pub plain_callback : (s : Scene) (m : Memory) (id : ℤ) → Plain (callback_tasks s m id) 2
plain_callback s m (negsuc n) = plain_none 2
plain_callback s m (pos id) = plain_registered s m id (registration s id)

pub plain_unlocks : (os : List ℕ) → Plain (unlocks os) (length os)
plain_unlocks [] = plain_none 0
plain_unlocks (o ∷ os) = plain_up (unlocks (o ∷ os)) (1 + length os) (suc (length os)) (one_more (length os)) (plain_join (unlock (record { 0 = o }) ∷ []) (unlocks os) 1 (length os) (plain_makes _ 1 (omega arith)) (plain_unlocks os))

-- ---- before others

pub plain_then : (xs ys rest : List Task) (m : ℕ) → Plain xs m → (asked : ℕ → Bool) (more : Bool) (later : ℕ) → agenda_weight asked more later ((xs ++ ys) ++ rest) ≤ m + agenda_weight asked more later (ys ++ rest)
plain_then xs ys rest m p asked more later = rw (append_assoc xs ys rest) (p.weighs asked more later (ys ++ rest))

pub sized_then : (xs ys rest : List Task) (m : ℕ) → Plain xs m → is_sized ((xs ++ ys) ++ rest) ≡ is_sized (ys ++ rest)
sized_then xs ys rest m p = rw (append_assoc xs ys rest) (p.sizes (ys ++ rest))
