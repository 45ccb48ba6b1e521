-- A measure of forms that each item spends, of what a thread may still do.
use Rattle.std.proofs.Common.{◌≡◌, ℕ, suc, ◌+◌, ◌-◌, ◌*◌, ◌<◌, ◌≤◌, ◌==◌, Bool, true, false, ℤ, pos, negsuc, List, [], ◌∷◌, ◌++◌, map, length, take, drop, Option, Some, None, option_map, option_and_then, get_or, if◌then◌else◌, refl, sym, ap, ◌∙◌, subst, arith, append_assoc, take-append-drop, mul-suc}
use Rattle.std.specs.Prelude.{reverse}
use Rattle.std.specs.List.{list_all}
use Rattle.std.proofs.lemmas.Bool.{and_parts, ltb-true}
use Rattle.std.proofs.lemmas.List.{map-append, take_more, drop_more, reverse-append}
use Rattle.std.proofs.lemmas.Option.{unwrap_or-slice_get}
use Rattle.cx_names.specs.declared.ObjectNo.{ObjectNo}
use Rattle.cx_names.specs.declared.Reply.{Reply}
use Rattle.cx_names.specs.declared.Reply.TheVariants as replies
use Rattle.cx_machine.specs.declared.kind.Op.{Op}
use Rattle.cx_machine.specs.declared.kind.Op.TheVariants as ops
use Rattle.cx_machine.specs.Meaning.{IsOnceEach}
use Rattle.cx_scene.specs.declared.declared.Object.{Object}
use Rattle.cx_scene.specs.declared.declared.Object.TheVariants as objects
use Rattle.cx_scene.specs.declared.declared.Small.{Small}
use Rattle.cx_scene.specs.declared.call.Call.{Call}
use Rattle.cx_scene.specs.Scene.{Scene, body_of}
use Rattle.cx_items.specs.declared.kept.Kept.{Kept}
use Rattle.cx_items.specs.declared.item.Item.{Item}
use Rattle.cx_items.specs.declared.form.Form.{Form}
use Rattle.cx_items.specs.declared.form.Form.TheVariants.{Change, Look, Says as SaysForm}
use Rattle.cx_items.specs.declared.form.Forms.TheVariants.{One}
use Rattle.cx_items.specs.declared.task.Task.{Task}
use Rattle.cx_items.specs.declared.task.Task.TheVariants.{Makes, Answers, Says, Arrives, ArrivesAndWaits, ArrivesAndDrops, Completes, CallsOnce, LocksFrom, LocksRest, TriesAll}
use Rattle.cx_items.specs.declared.form.Wanted.{Wanted}
use Rattle.cx_items.specs.declared.form.Wanted.TheVariants.{Just, ANumber}
use Rattle.cx_items.specs.Form.{forms_in, change, look, fits}
use Rattle.cx_items.specs.Memory.{Memory, memory_at_start, remembering, settled}
use Rattle.cx_items.specs.Calls.{one, small_forms, opened, end_tasks}
use Rattle.cx_items.specs.Next.{completion, number_of, undue, settled_local, Local, Alternative, goes, to, says, has_turns, turned, next_call, past, replied, mutex_at, unlocks, backs_off, alternatives, offered_by, offered, or_then, reached, due, with_due, with_item, moved, after_item, is_due, local_at_start, start_of_body}
use Rattle.cx_history.specs.Follows.{after_items}
use Rattle.cx_asks.specs.Scenes.{is_completion_now, is_fit, IsAskable}
use Rattle.cx_asks.specs.Spent.{spent}
use Rattle.cx_asks.proofs.Forms.{form_after, is_begin, form_of_item}
use Rattle.cx_asks.proofs.Kept.{Keeps, IsKept, kept_keeps}
use Rattle.cx_asks.proofs.Arriving.{IsBarrier}
use Rattle.cx_asks.proofs.Standing.{Good}
use Rattle.cx_items.specs.Steps.{form_of}
use Rattle.cx_asks.proofs.Going.{is_last, IsStanding, settles, AllStand, and_more, stand_offered, stands_moved}
use Rattle.cx_asks.proofs.Offering.{kept_first, starts_body, stands_first, offered_any}

-- what each form spends, what is still to be spent by what is kept, by a turn of a call on several mutexes, by the completion of a phase, and by a call
pub record Measure : Type 0 where
  pub form : Form → ℕ
  pub item : Item → ℕ
  pub later : List Kept → ℕ
  pub turn : ℕ
  pub completion : ℕ
  pub call : Call → ℕ

module _ (w : Measure) where
  -- ---- tasks

  abbrev pub forms_cost : List Form → ℕ
  forms_cost [] = 0
  forms_cost (f ∷ fs) = w.form f + forms_cost fs

  -- a lock of this mutex, and its unlock
  abbrev pub unlock_cost : ℕ → ℕ
  unlock_cost o = w.form (change (record { 0 = o }) ops.Unlock 0 replies.Ok)

  abbrev pub lock_cost : ℕ → ℕ
  lock_cost o = w.form (change (record { 0 = o }) ops.TryLock 0 replies.True) + unlock_cost o

  abbrev pub unlocks_cost : List ℕ → ℕ
  unlocks_cost [] = 0
  unlocks_cost (o ∷ os) = unlock_cost o + unlocks_cost os

  abbrev pub locks_cost : List ℕ → ℕ
  locks_cost [] = 0
  locks_cost (o ∷ os) = lock_cost o + locks_cost os

  -- of these the first k are locked
  abbrev pub rest_cost : List ℕ → ℕ → ℕ
  rest_cost os k = unlocks_cost (take k os) + locks_cost (drop k os)

  -- an arrival, and the completion that it may bring
  abbrev pub arrival_cost : ObjectNo → ℕ → ℕ
  arrival_cost b n = w.form (Change b ops.Arrive (pos n) (pos 0) ANumber) + w.completion

  abbrev pub drop_cost : ObjectNo → ℕ
  drop_cost b = w.form (Change b ops.Drop (pos 0) (pos 0) ANumber) + w.completion

  abbrev pub task_cost : Task → ℕ
  task_cost (Makes fs) = forms_cost (forms_in fs)
  task_cost (Answers fs) = forms_cost (forms_in fs)
  task_cost (Arrives b n) = arrival_cost b n
  task_cost (ArrivesAndWaits b) = arrival_cost b 1
  task_cost (ArrivesAndDrops b) = drop_cost b
  task_cost (Completes b must) = w.completion
  task_cost (CallsOnce o f r) = w.form (change o ops.Begin 0 replies.Ok) + w.form f
  task_cost (LocksFrom os) = locks_cost os
  task_cost (LocksRest os k) = rest_cost os k
  task_cost (TriesAll os k) = rest_cost os k
  task_cost _ = 0

  -- what stands behind a task that leads to the reply is never done: the rest of the text comes after it
  abbrev pub is_replying : Task → Bool
  is_replying (Makes fs) = false
  is_replying (Completes b must) = false
  is_replying _ = true

  -- the act of a completion
  abbrev pub small_cost : Option Small → ℕ
  small_cost None = 0
  small_cost (Some x) = forms_cost (forms_in (small_forms x))

  abbrev pub agenda_cost : ℕ → List Task → ℕ
  agenda_cost later [] = 0
  agenda_cost later (task ∷ ts) = task_cost task + (if is_replying task then later else agenda_cost later ts)

  abbrev pub calls_cost : List Call → ℕ
  calls_cost [] = 0
  calls_cost (c ∷ cs) = w.call c + calls_cost cs

  abbrev pub turns_cost : ℕ → ℕ
  turns_cost turns = w.turn * (16384 - turns)

  -- what comes after the reply
  abbrev pub later_cost : Local → ℕ
  later_cost l = w.later l.memory.kept + (turns_cost l.memory.turns + calls_cost (drop 1 l.calls))

  abbrev pub cost : Local → ℕ
  cost l = agenda_cost (later_cost l) l.agenda

  -- ---- what a measure must keep

  -- an item of the form spends what the form does, but for what it adds to what is kept
  pub record Spends (s : Scene) (f : Form) (x : Item) : Type 0 where
    pub more : ℕ
    pub item : w.item x + more ≤ w.form f
    pub kept : (m : Memory) → w.later (form_after s f m).kept ≤ w.later m.kept + more
    pub turns : (m : Memory) → (form_after s f m).turns ≡ m.turns

  pub record IsMeasure (s : Scene) : Type 0 where
    pub spends : (f : Form) (x : Item) (r : Reply) → is_begin f ≡ false → fits s f x ≡ Some r → Spends s f x
    pub locks : (o : ObjectNo) → w.form (change o ops.Lock 0 replies.Ok) ≤ w.form (change o ops.TryLock 0 replies.True)
    pub looks : (o : ObjectNo) (op : Op) (a b : ℤ) (wanted : Wanted) → w.form (Look o op a b wanted) ≡ 0
    pub completes : (b : ObjectNo) (x : Option Small) → is_completion_now x ≡ true → small_cost x + w.form (change b ops.Complete 0 replies.Ok) ≤ w.completion
    pub alike : (m m' : Memory) → Keeps m m' → w.later m'.kept ≤ w.later m.kept
    pub says : (r : Reply) → w.form (SaysForm r) ≡ 0
    pub turn : (os : List ℕ) → IsOnceEach os → locks_cost os ≤ w.turn
    pub opens : (t n : ℕ) (m : Memory) (c : Call) (later : ℕ) → is_fit s t c ≡ true → agenda_cost later (opened s t n m c) ≤ w.call c + later
    pub ends : (t : ℕ) (m : Memory) (later : ℕ) → IsKept s m → agenda_cost later (end_tasks s t m) ≤ w.later m.kept

  -- ---- sums

  zero_less : (n : ℕ) → 0 ≤ n
  zero_less n = omega arith

  keep_less : (a b c g : ℕ) → b ≤ c + g → a + b ≤ (a + c) + g
  keep_less a b c g h = omega (arith, h)

  cost_more : (a b g : ℕ) (ts : List Task) → a ≤ b + g → agenda_cost a ts ≤ agenda_cost b ts + g
  cost_more a b g [] h = zero_less (0 + g)
  cost_more a b g (task ∷ ts) h = go (is_replying task) (cost_more a b g ts h)
    where
      go : (r : Bool) → agenda_cost a ts ≤ agenda_cost b ts + g → task_cost task + (if r then a else agenda_cost a ts) ≤ (task_cost task + (if r then b else agenda_cost b ts)) + g
      go true k = keep_less (task_cost task) a b g h
      go false k = keep_less (task_cost task) (agenda_cost a ts) (agenda_cost b ts) g k

  unlocks_agenda : (later : ℕ) (os : List ℕ) (ts : List Task) → agenda_cost later (unlocks os ++ ts) ≡ unlocks_cost os + agenda_cost later ts
  unlocks_agenda later [] ts = omega arith
  unlocks_agenda later (o ∷ os) ts = let rest = unlocks_agenda later os ts in unlock_and (unlock_cost o) (unlocks_cost os) (agenda_cost later ts) (agenda_cost later (unlocks os ++ ts)) rest
    where
      unlock_and : (a b c d : ℕ) → d ≡ b + c → (a + 0) + d ≡ (a + b) + c
      unlock_and a b c d h = omega (arith, h)

  unlocks-append : (xs ys : List ℕ) → unlocks_cost (xs ++ ys) ≡ unlocks_cost xs + unlocks_cost ys
  unlocks-append [] ys = omega arith
  unlocks-append (x ∷ xs) ys = let rest = unlocks-append xs ys in omega (arith, rest)

  locks-append : (xs ys : List ℕ) → locks_cost (xs ++ ys) ≡ locks_cost xs + locks_cost ys
  locks-append [] ys = omega arith
  locks-append (x ∷ xs) ys = let rest = locks-append xs ys in omega (arith, rest)

  unlocks-reverse : (xs : List ℕ) → unlocks_cost (reverse xs) ≡ unlocks_cost xs
  unlocks-reverse [] = refl
  unlocks-reverse (x ∷ xs) =
      let step : reverse (x ∷ xs) ≡ reverse xs ++ x ∷ [] = reverse-append (x ∷ []) xs in
      let sum = unlocks-append (reverse xs) (x ∷ []) in
      let rest = unlocks-reverse xs in
      ap unlocks_cost step ∙ (sum ∙ swapped (unlocks_cost (reverse xs)) (unlock_cost x) (unlocks_cost xs) rest)
    where
      swapped : (a b c : ℕ) → a ≡ c → a + (b + 0) ≡ b + c
      swapped a b c h = omega (arith, h)

  -- the next of them is locked
  rest_more : (os : List ℕ) (k : ℕ) → k < length os → rest_cost os (k + 1) + w.form (change (mutex_at os k) ops.TryLock 0 replies.True) ≡ rest_cost os k
  rest_more os k h =
      let head : get_or os k 0 ≡ (mutex_at os k).0 = sym (unwrap_or-slice_get os k 0) in
      let front : take (k + 1) os ≡ take k os ++ (mutex_at os k).0 ∷ [] = take_more os k 0 h ∙ ap (λ (x : ℕ). take k os ++ x ∷ []) head in
      let back : drop k os ≡ (mutex_at os k).0 ∷ drop (k + 1) os = drop_more os k 0 h ∙ ap (λ (x : ℕ). x ∷ drop (k + 1) os) head in
      let a : unlocks_cost (take (k + 1) os) ≡ unlocks_cost (take k os) + (unlock_cost (mutex_at os k).0 + 0) = ap unlocks_cost front ∙ unlocks-append (take k os) ((mutex_at os k).0 ∷ []) in
      let b : locks_cost (drop k os) ≡ lock_cost (mutex_at os k).0 + locks_cost (drop (k + 1) os) = ap locks_cost back in
      one_moved (unlocks_cost (take (k + 1) os)) (unlocks_cost (take k os)) (unlock_cost (mutex_at os k).0) (locks_cost (drop k os)) (locks_cost (drop (k + 1) os)) (w.form (change (mutex_at os k) ops.TryLock 0 replies.True)) a b
    where
      one_moved : (a b u c d f : ℕ) → a ≡ b + (u + 0) → c ≡ (f + u) + d → (a + d) + f ≡ b + c
      one_moved a b u c d f h k = omega (arith, h, k)

  turned_round : (os : List ℕ) (k : ℕ) → locks_cost (drop k os ++ take k os) ≡ locks_cost os
  turned_round os k =
      let a = locks-append (drop k os) (take k os) in
      let b = locks-append (take k os) (drop k os) in
      let c : locks_cost (take k os ++ drop k os) ≡ locks_cost os = ap locks_cost (take-append-drop k os) in
      omega (arith, a, b, c)

  -- ---- where alternatives lead

  pub data AllSpend (n : ℕ) : List Alternative → Type 0 where
    all_spent : AllSpend n []
    spend_more : (a : Alternative) (rest : List Alternative) → ((r : Reply) → cost (a.next r) + w.form a.form ≤ n) → AllSpend n rest → AllSpend n (a ∷ rest)

  spend_one : {n : ℕ} (a : Alternative) → ((r : Reply) → cost (a.next r) + w.form a.form ≤ n) → AllSpend n (a ∷ [])
  spend_one a h = spend_more a [] h all_spent

  spend_two : {n : ℕ} (a b : Alternative) → ((r : Reply) → cost (a.next r) + w.form a.form ≤ n) → ((r : Reply) → cost (b.next r) + w.form b.form ≤ n) → AllSpend n (a ∷ b ∷ [])
  spend_two a b h k = spend_more a (b ∷ []) h (spend_one b k)

  spend_all : {n : ℕ} (xs ys : List Alternative) → AllSpend n xs → AllSpend n ys → AllSpend n (xs ++ ys)
  spend_all [] ys all_spent later = later
  spend_all (x ∷ xs) ys (spend_more x' xs' next rest) later = spend_more x (xs ++ ys) next (spend_all xs ys rest later)

  spend_within : (n n' : ℕ) (xs : List Alternative) → n ≤ n' → AllSpend n xs → AllSpend n' xs
  spend_within n n' [] h all_spent = all_spent
  spend_within n n' (x ∷ xs) h (spend_more x' xs' next rest) = spend_more x xs (λ r. within_more (cost (x.next r)) (w.form x.form) n n' (next r) h) (spend_within n n' xs h rest)
    where
      within_more : (c f n n' : ℕ) → c + f ≤ n → n ≤ n' → c + f ≤ n'
      within_more c f n n' h k = omega (arith, h, k)

  cost_either : (b : Bool) (k l : Local) (f n : ℕ) → cost k + f ≤ n → (b ≡ false → cost l + f ≤ n) → cost (if b then k else l) + f ≤ n
  cost_either true k l f n p q = p
  cost_either false k l f n p q = q refl

  one_form : (f c : ℕ) → c + f ≤ (f + 0) + c
  one_form f c = omega arith

  first_form : (f rest total later : ℕ) → f + rest ≤ total → (0 + later) + f ≤ total + later
  first_form f rest total later h = omega (arith, h)

  other_forms : (f rest total : ℕ) → f + rest ≤ total → rest ≤ total
  other_forms f rest total h = omega (arith, h)

  spend_answers : (l : Local) (fs : List Form) (total : ℕ) → forms_cost fs ≤ total → AllSpend (total + later_cost l) (map (λ f. record { form = f; next = says l }) fs)
  spend_answers l [] total h = all_spent
  spend_answers l (f ∷ fs) total h = spend_more (record { form = f; next = says l }) (map (λ g. record { form = g; next = says l }) fs) (λ r. first_form (w.form f) (forms_cost fs) total (later_cost l) h) (spend_answers l fs total (other_forms (w.form f) (forms_cost fs) total h))

  -- each of the forms spends no more than so much
  abbrev pub AllWithin : ℕ → List Form → Type 0
  AllWithin n [] = Unit {0}
  AllWithin n (f ∷ fs) = (w.form f ≤ n) × AllWithin n fs

  form_within : (c f n : ℕ) → c + f ≤ n → f ≤ n
  form_within c f n h = omega (arith, h)

  within : (n : ℕ) (others : List Alternative) → AllSpend n others → AllWithin n (map form_of others)
  within n [] h = tt
  within n (a ∷ others) (spend_more a' rest next h) = (form_within (cost (a.next replies.Ok)) (w.form a.form) n (next replies.Ok), within n others h)

  module _ (s : Scene) (is : IsMeasure s) where
    -- ---- replies

    ended : (a k t c : ℕ) → a ≤ k → a + 0 ≤ 0 + (k + (t + c))
    ended a k t c h = omega (arith, h)

    begun : (a c k t cs : ℕ) → a ≤ c + (k + (t + cs)) → a + 0 ≤ 0 + (k + (t + (c + cs)))
    begun a c k t cs h = omega (arith, h)

    -- the next of these calls, or the end of the body
    next_costs : (t n : ℕ) (m : Memory) (ts : List Task) (cs : List Call) → IsKept s m → list_all (is_fit s t) cs ≡ true → cost (next_call s t (record { memory = m; agenda = ts; calls = cs; number = n })) + 0 ≤ 0 + (w.later m.kept + (turns_cost m.turns + calls_cost cs))
    next_costs t n m ts [] kept h = ended (agenda_cost (w.later m.kept + (turns_cost m.turns + 0)) (end_tasks s t m)) (w.later m.kept) (turns_cost m.turns) 0 (is.ends t m (w.later m.kept + (turns_cost m.turns + 0)) kept)
    next_costs t n m ts (c ∷ cs) kept h =
        let p = and_parts (is_fit s t c) (list_all (is_fit s t) cs) h in
        begun (agenda_cost (w.later m.kept + (turns_cost m.turns + calls_cost cs)) (opened s t n m c)) (w.call c) (w.later m.kept) (turns_cost m.turns) (calls_cost cs) (is.opens t n m c (w.later m.kept + (turns_cost m.turns + calls_cost cs)) p.0)

    settled_less : (c k k' t t' cs : ℕ) → c + 0 ≤ 0 + (k' + (t' + cs)) → k' ≤ k → t' ≡ t → c + 0 ≤ 0 + (k + (t + cs))
    settled_less c k k' t t' cs h le e = omega (arith, h, le, e)

    replied_costs : (t : ℕ) (l : Local) (r : Reply) → IsKept s l.memory → list_all (is_fit s t) l.calls ≡ true → cost (replied s t l r) + 0 ≤ 0 + later_cost l
    replied_costs t l r kept h = go l.calls refl h
      where
        go : (cs : List Call) → l.calls ≡ cs → list_all (is_fit s t) cs ≡ true → cost (next_call s t (past l r cs)) + 0 ≤ 0 + (w.later l.memory.kept + (turns_cost l.memory.turns + calls_cost (drop 1 cs)))
        go [] e g = subst (λ (cs : List Call). cost (next_call s t l) + 0 ≤ 0 + (w.later l.memory.kept + (turns_cost l.memory.turns + calls_cost cs))) e (next_costs t l.number l.memory l.agenda l.calls kept h)
        go (c ∷ cs) e g =
            let p = and_parts (is_fit s t c) (list_all (is_fit s t) cs) g in
            let m' : Memory = settled c r l.memory in
            let q = settles s t c r l.memory p.0 in
            settled_less (cost (next_call s t (record { memory = m'; agenda = l.agenda; calls = cs; number = l.number + 1 }))) (w.later l.memory.kept) (w.later m'.kept) (turns_cost l.memory.turns) (turns_cost m'.turns) (calls_cost cs)
            (next_costs t (l.number + 1) m' l.agenda cs (kept_keeps s l.memory m' q.keeps kept) p.1)
            (is.alike l.memory m' q.keeps)
            (ap turns_cost q.turns)

    -- ---- locks of several mutexes

    first_locked : (a f g b c : ℕ) → a + g ≡ b → f ≤ g → (a + c) + f ≤ b + c
    first_locked a f g b c h k = omega (arith, h, k)

    all_rest : (os : List ℕ) → rest_cost os 0 ≡ locks_cost os
    all_rest os = omega arith

    last_locked : (a f b c : ℕ) → a + f ≡ b → (0 + c) + f ≤ b + c
    last_locked a f b c h = omega (arith, h)

    next_locked : (a f b c : ℕ) → a + f ≡ b → (a + c) + f ≤ b + c
    next_locked a f b c h = omega (arith, h)

    one_turn : (turns : ℕ) → turns < 16384 → turns_cost turns ≡ turns_cost (turns + 1) + w.turn
    one_turn turns h = let e : 16384 - turns ≡ suc (16384 - (turns + 1)) = omega (arith, h) in ap (λ (n : ℕ). w.turn * n) e ∙ mul-suc w.turn (16384 - (turns + 1))

    backed : (a u r lk b t t' k c f : ℕ) → a ≡ u + (lk + (k + (t' + c))) → lk ≤ b → t ≡ t' + b → f ≡ 0 → a + f ≤ (u + r) + (k + (t + c))
    backed a u r lk b t t' k c f h le e z = omega (arith, h, le, e, z)

    gave_up : (a u r x f : ℕ) → a ≡ u + (0 + x) → f ≡ 0 → a + f ≤ (u + r) + x
    gave_up a u r x f h z = omega (arith, h, z)

    -- after the first k are unlocked, another task
    unlocked_then : (later : ℕ) (os : List ℕ) (k : ℕ) (task : Task) (ts : List Task) → agenda_cost later ((unlocks (reverse (take k os)) ++ task ∷ []) ++ ts) ≡ unlocks_cost (take k os) + agenda_cost later (task ∷ ts)
    unlocked_then later os k task ts =
        ap (agenda_cost later) (append_assoc (unlocks (reverse (take k os))) (task ∷ []) ts)
        ∙ (unlocks_agenda later (reverse (take k os)) (task ∷ ts)
        ∙ ap (λ (n : ℕ). n + agenda_cost later (task ∷ ts)) (unlocks-reverse (take k os)))

    backs_cost : (l : Local) (os : List ℕ) (k : ℕ) (f : ℕ) → IsOnceEach os → f ≡ 0 → cost (backs_off l os k) + f ≤ rest_cost os k + later_cost l
    backs_cost l os k f once z = go (has_turns l) refl
      where
        rot : List ℕ
        rot = drop k os ++ take k os

        go : (b : Bool) → has_turns l ≡ b → cost (if b then goes (turned l) (unlocks (reverse (take k os)) ++ LocksFrom (drop k os ++ take k os) ∷ []) else goes l (unlocks (reverse (take k os)) ++ Says replies.Spent ∷ [])) + f ≤ rest_cost os k + later_cost l
        go true e =
            let all = unlocked_then (later_cost (turned l)) os k (LocksFrom (drop k os ++ take k os)) l.agenda in
            let locks : locks_cost (drop k os ++ take k os) ≤ w.turn = subst (λ (n : ℕ). n ≤ w.turn) (sym (turned_round os k)) (is.turn os once) in
            backed (cost (goes (turned l) (unlocks (reverse (take k os)) ++ LocksFrom (drop k os ++ take k os) ∷ []))) (unlocks_cost (take k os)) (locks_cost (drop k os)) (locks_cost (drop k os ++ take k os)) w.turn (turns_cost l.memory.turns) (turns_cost (l.memory.turns + 1)) (w.later l.memory.kept) (calls_cost (drop 1 l.calls)) f all locks (one_turn l.memory.turns (ltb-true l.memory.turns 16384 e)) z
        go false e = gave_up (cost (goes l (unlocks (reverse (take k os)) ++ Says replies.Spent ∷ []))) (unlocks_cost (take k os)) (locks_cost (drop k os)) (later_cost l) f (unlocked_then (later_cost l) os k (Says replies.Spent) l.agenda) z

    -- ---- barriers and once flags

    -- the arrival's part is spent, and the completion and the reply are left
    arrived : (f c a later : ℕ) → a ≤ c + later → a + f ≤ (f + c) + later
    arrived f c a later h = omega (arith, h)

    over : (x f later : ℕ) → f ≡ 0 → (0 + later) + f ≤ x + later
    over x f later z = omega (arith, z)

    then_waits : (c f later : ℕ) → f ≡ 0 → c + ((f + 0) + (0 + later)) ≤ c + later
    then_waits c f later z = omega (arith, z)

    spend_arrives : (l : Local) (b : ObjectNo) (n : ℕ) → AllSpend (arrival_cost b n + later_cost l) (alternatives s 0 l (Arrives b n))
    spend_arrives l b n = spend_two _ _
        (λ p. arrived (w.form (Change b ops.Arrive (pos n) (pos 0) ANumber)) w.completion (w.completion + (0 + later_cost l)) (later_cost l) (omega arith))
        (λ r. over (arrival_cost b n) (w.form (look b ops.Arrive n replies.OverExpected)) (later_cost l) (is.looks b ops.Arrive (pos n) (pos 0) (Just replies.OverExpected)))

    spend_waits : (l : Local) (b : ObjectNo) → AllSpend (arrival_cost b 1 + later_cost l) (alternatives s 0 l (ArrivesAndWaits b))
    spend_waits l b = spend_two _ _
        (λ p. arrived (w.form (Change b ops.Arrive (pos 1) (pos 0) ANumber)) w.completion (w.completion + ((w.form (Look b ops.Wait (number_of p) (pos 0) (Just replies.Ok)) + 0) + (0 + later_cost l))) (later_cost l) (then_waits w.completion (w.form (Look b ops.Wait (number_of p) (pos 0) (Just replies.Ok))) (later_cost l) (is.looks b ops.Wait (number_of p) (pos 0) (Just replies.Ok))))
        (λ r. over (arrival_cost b 1) (w.form (look b ops.Arrive 1 replies.OverExpected)) (later_cost l) (is.looks b ops.Arrive (pos 1) (pos 0) (Just replies.OverExpected)))

    spend_drops : (l : Local) (b : ObjectNo) → AllSpend (drop_cost b + later_cost l) (alternatives s 0 l (ArrivesAndDrops b))
    spend_drops l b = spend_two _ _
        (λ p. arrived (w.form (Change b ops.Drop (pos 0) (pos 0) ANumber)) w.completion (w.completion + (0 + later_cost l)) (later_cost l) (omega arith))
        (λ r. over (drop_cost b) (w.form (look b ops.Drop 0 replies.OverExpected)) (later_cost l) (is.looks b ops.Drop (pos 0) (pos 0) (Just replies.OverExpected)))

    called : (b f later : ℕ) → ((f + 0) + (0 + later)) + b ≤ (b + f) + later
    called b f later = omega arith

    spend_calls : (l : Local) (o : ObjectNo) (f : Form) (r : Reply) → AllSpend ((w.form (change o ops.Begin 0 replies.Ok) + w.form f) + later_cost l) (alternatives s 0 l (CallsOnce o f r))
    spend_calls l o f r = spend_two _ _
        (λ p. called (w.form (change o ops.Begin 0 replies.Ok)) (w.form f) (later_cost l))
        (λ p. over (w.form (change o ops.Begin 0 replies.Ok) + w.form f) (w.form (look o ops.Passive 0 replies.Ok)) (later_cost l) (is.looks o ops.Passive (pos 0) (pos 0) (Just replies.Ok)))

    phase_ended : (f c a : ℕ) → 0 + f ≤ c → a + f ≤ c + a
    phase_ended f c a h = omega (arith, h)

    small_done : (g f c a rest total : ℕ) → f + rest ≤ total → total + g ≤ c → ((g + 0) + a) + f ≤ c + a
    small_done g f c a rest total h k = omega (arith, h, k)

    -- the act of a completion, and what comes after it
    spend_small : (l : Local) (b : ObjectNo) (fs : List Form) (total : ℕ) → forms_cost fs ≤ total → total + w.form (change b ops.Complete 0 replies.Ok) ≤ w.completion → AllSpend (w.completion + cost l) (map (λ f. to f (goes l (one (change b ops.Complete 0 replies.Ok) ∷ []))) fs)
    spend_small l b [] total h k = all_spent
    spend_small l b (f ∷ fs) total h k = spend_more _ _ (λ r. small_done (w.form (change b ops.Complete 0 replies.Ok)) (w.form f) w.completion (cost l) (forms_cost fs) total h k) (spend_small l b fs total (other_forms (w.form f) (forms_cost fs) total h) k)

    spend_completes : (l : Local) (b : ObjectNo) (must : Bool) → IsBarrier s b → AllSpend (w.completion + cost l) (alternatives s 0 l (Completes b must))
    spend_completes l b must q = subst (λ (d : Option Object). AllSpend (w.completion + cost l) (completion l b d)) (sym q.there) (go q.small (is.completes b q.small q.now))
      where
        go : (small : Option Small) → small_cost small + w.form (change b ops.Complete 0 replies.Ok) ≤ w.completion → AllSpend (w.completion + cost l) (completion l b (Some (objects.Barrier q.count small)))
        go None h = spend_one _ (λ r. phase_ended (w.form (change b ops.Complete 0 replies.Ok)) w.completion (cost l) h)
        go (Some x) h = spend_small l b (forms_in (small_forms x)) (forms_cost (forms_in (small_forms x))) (omega arith) h

    -- ---- every task

    spend : (t : ℕ) (l : Local) (task : Task) → IsKept s l.memory → Good s t (is_last l.calls) l.memory (task ∷ l.agenda) → list_all (is_fit s t) l.calls ≡ true → AllSpend (agenda_cost (later_cost l) (task ∷ l.agenda)) (alternatives s t l task)
    spend t l (Makes (One f)) k g h = spend_one (to f l) (λ r. one_form (w.form f) (cost l))
    spend t l (Answers fs) k g h = spend_answers l (forms_in fs) (forms_cost (forms_in fs)) (omega arith)
    spend t l (Says r) k g h = spend_one _ (λ q. subst (λ (n : ℕ). cost (replied s t l q) + n ≤ 0 + later_cost l) (sym (is.says r)) (replied_costs t l q k h))
    spend t l (Arrives b n) k g h = spend_arrives l b n
    spend t l (ArrivesAndWaits b) k g h = spend_waits l b
    spend t l (ArrivesAndDrops b) k g h = spend_drops l b
    spend t l (Completes b must) k g h = spend_completes l b must g.0
    spend t l (CallsOnce o f r) k g h = spend_calls l o f r
    spend t l (LocksFrom os) k g h = spend_one _ (λ r. first_locked (rest_cost os 1) (w.form (change (mutex_at os 0) ops.Lock 0 replies.Ok)) (w.form (change (mutex_at os 0) ops.TryLock 0 replies.True)) (locks_cost os) (later_cost l) (rest_more os 0 g.1.below ∙ all_rest os) (is.locks (mutex_at os 0)))
    spend t l (LocksRest os n) k g h = spend_two _ _
        (λ r. cost_either (n + 1 == length os) (says l replies.Ok) (goes l (LocksRest os (n + 1) ∷ [])) (w.form (change (mutex_at os n) ops.TryLock 0 replies.True)) (rest_cost os n + later_cost l)
        (last_locked (rest_cost os (n + 1)) (w.form (change (mutex_at os n) ops.TryLock 0 replies.True)) (rest_cost os n) (later_cost l) (rest_more os n g.1.below))
        (λ e. next_locked (rest_cost os (n + 1)) (w.form (change (mutex_at os n) ops.TryLock 0 replies.True)) (rest_cost os n) (later_cost l) (rest_more os n g.1.below)))
        (λ r. backs_cost l os n (w.form (look (mutex_at os n) ops.TryLock 0 replies.False)) g.1.once (is.looks (mutex_at os n) ops.TryLock (pos 0) (pos 0) (Just replies.False)))
    spend t l (TriesAll os n) k g h = spend_two _ _
        (λ r. cost_either (n + 1 == length os) (says l (replies.Number (negsuc 0))) (goes l (TriesAll os (n + 1) ∷ [])) (w.form (change (mutex_at os n) ops.TryLock 0 replies.True)) (rest_cost os n + later_cost l)
        (last_locked (rest_cost os (n + 1)) (w.form (change (mutex_at os n) ops.TryLock 0 replies.True)) (rest_cost os n) (later_cost l) (rest_more os n g.below))
        (λ e. next_locked (rest_cost os (n + 1)) (w.form (change (mutex_at os n) ops.TryLock 0 replies.True)) (rest_cost os n) (later_cost l) (rest_more os n g.below)))
        (λ r. gave_up (cost (goes l (unlocks (reverse (take n os)) ++ Says (replies.Number (pos n)) ∷ []))) (unlocks_cost (take n os)) (locks_cost (drop n os)) (later_cost l) (w.form (look (mutex_at os n) ops.TryLock 0 replies.False)) (unlocked_then (later_cost l) os n (Says (replies.Number (pos n))) l.agenda) (is.looks (mutex_at os n) ops.TryLock (pos 0) (pos 0) (Just replies.False)))
    spend t l _ k g h = absurd g

    spend_offered : (t : ℕ) (l : Local) (ts : List Task) → IsKept s l.memory → Good s t (is_last l.calls) l.memory ts → list_all (is_fit s t) l.calls ≡ true → AllSpend (agenda_cost (later_cost l) ts) (offered_by s t l ts)
    spend_offered t l [] k g h = all_spent
    spend_offered t l (Completes b false ∷ ts) k g h = spend_all (alternatives s t (record l { agenda = ts }) (Completes b false)) (offered_by s t l ts) (spend t (record l { agenda = ts }) (Completes b false) k g h) (spend_within (agenda_cost (later_cost l) ts) (w.completion + agenda_cost (later_cost l) ts) (offered_by s t l ts) (omega arith) (spend_offered t l ts k (g.2 l.memory) h))
    spend_offered t l (task ∷ ts) k g h = spend t (record l { agenda = ts }) task k g h

    -- ---- one item

    all_told : (c' c more item form n : ℕ) → c' ≤ c + more → item + more ≤ form → c + form ≤ n → c' + item ≤ n
    all_told c' c more item form n h k e = omega (arith, h, k, e)

    later_more : (k k' t c more : ℕ) → k' ≤ k + more → k' + (t + c) ≤ (k + (t + c)) + more
    later_more k k' t c more h = omega (arith, h)

    cost_kept : (l : Local) (m : Memory) (more : ℕ) → m.turns ≡ l.memory.turns → w.later m.kept ≤ w.later l.memory.kept + more → cost (record l { memory = m }) ≤ cost l + more
    cost_kept l m more e h = cost_more (w.later m.kept + (turns_cost m.turns + calls_cost (drop 1 l.calls))) (later_cost l) more l.agenda
        (subst (λ (n : ℕ). w.later m.kept + (turns_cost n + calls_cost (drop 1 l.calls)) ≤ later_cost l + more) (sym e) (later_more (w.later l.memory.kept) (w.later m.kept) (turns_cost l.memory.turns) (calls_cost (drop 1 l.calls)) more h))

    spends_reached : (t n : ℕ) (js : List ℕ) (others : List Alternative) (x : Item) (k : Local) → AllStand s t js others → AllSpend n others → reached s others x ≡ Some k → cost (record k { memory = remembering s k.memory x }) + w.item x ≤ n
    spends_reached t n js [] x k stands h e = cc
    spends_reached t n js (a ∷ others) x k (and_more a' rest fine later) (spend_more a'' rest' next h) e = go (fits s a.form x) refl e (λ v. spends_reached t n js others x k later h v)
      where
        go : (o : Option Reply) → fits s a.form x ≡ o → or_then (option_map a.next o) (reached s others x) ≡ Some k → (reached s others x ≡ Some k → cost (record k { memory = remembering s k.memory x }) + w.item x ≤ n) → cost (record k { memory = remembering s k.memory x }) + w.item x ≤ n
        go None p v then_ = then_ v
        go (Some r) p v then_ =
            let same : a.next r ≡ k = cc in
            let f = form_of_item s a.form x r fine.plain p in
            let sp = is.spends a.form x r fine.plain p in
            let l = a.next r in
            subst (λ (q : Local). cost (record q { memory = remembering s q.memory x }) + w.item x ≤ n) same
            (subst (λ (m : Memory). cost (record l { memory = m }) + w.item x ≤ n) (sym (f.remembers l.memory))
            (all_told (cost (record l { memory = form_after s a.form l.memory })) (cost l) sp.more (w.item x) (w.form a.form) n (cost_kept l (form_after s a.form l.memory) sp.more (sp.turns l.memory) (sp.kept l.memory)) sp.item (next r)))

    due_cost : (later : ℕ) (ts : List Task) → agenda_cost later (due ts) ≡ agenda_cost later ts
    due_cost later [] = refl
    due_cost later (Completes b must ∷ ts) = refl
    due_cost later (task ∷ ts) = refl

    with_due_cost : (b : Bool) (l : Local) → cost (with_due b l) ≡ cost l
    with_due_cost true l = due_cost (later_cost l) l.agenda
    with_due_cost false l = refl

    pub spent_moved : (completing : Bool) (t : ℕ) (l k : Local) (x : Item) → IsAskable s → IsStanding s t l → moved s completing t l x ≡ Some k → cost k + w.item x ≤ cost l
    spent_moved completing t l k x a q h = go (reached s (offered s t l) x) refl h
      where
        go : (o : Option Local) → reached s (offered s t l) x ≡ o → option_map (with_item s completing x) o ≡ Some k → cost k + w.item x ≤ cost l
        go None p v = cc
        go (Some m) p v =
            let r = spends_reached t (cost l) l.memory.joinable (offered s t l) x m (stand_offered s t l l.agenda a q.memory q.agenda q.calls) (spend_offered t l l.agenda q.memory q.agenda q.calls) p in
            let same : with_item s completing x m ≡ k = cc in
            subst (λ (y : Local). cost y + w.item x ≤ cost l) same (subst (λ (n : ℕ). n + w.item x ≤ cost l) (sym (with_due_cost completing (record m { memory = remembering s m.memory x }))) r)

    -- ---- some items

    none_spent : (n : ℕ) → n + 0 ≤ n
    none_spent n = omega arith

    both_spent : (c d e i r : ℕ) → d + i ≤ c → e + r ≤ d → e + (i + r) ≤ c
    both_spent c d e i r h k = omega (arith, h, k)

    pub spent_after : (completes : ℕ → ℕ → Bool) (t : ℕ) (l k : Local) (xs : List Item) → IsAskable s → IsStanding s t l → after_items s completes t l xs ≡ Some k → cost k + spent w.item xs ≤ cost l
    spent_after completes t l k [] a q h = let same : l ≡ k = cc in subst (λ (y : Local). cost y + 0 ≤ cost l) same (none_spent (cost l))
    spent_after completes t l k (x ∷ xs) a q h = go (after_item s completes t l x) refl h (λ m one rest. both_spent (cost l) (cost m) (cost k) (w.item x) (spent w.item xs) (spent_moved (is_due completes x) t l m x a q one) (spent_after completes t m k xs a (stands_moved s (is_due completes x) t l m x a q one) rest))
      where
        go : (o : Option Local) → after_item s completes t l x ≡ o → option_and_then (λ m. after_items s completes t m xs) o ≡ Some k → ((m : Local) → after_item s completes t l x ≡ Some m → after_items s completes t m xs ≡ Some k → cost k + spent w.item (x ∷ xs) ≤ cost l) → cost k + spent w.item (x ∷ xs) ≤ cost l
        go None e v then_ = cc
        go (Some m) e v then_ = then_ m e v

    -- ---- the start

    at_first : (a k t c : ℕ) → a + 0 ≤ 0 + (k + (t + c)) → a ≤ k + (t + c)
    at_first a k t c h = omega (arith, h)

    pub cost_first : (t : ℕ) → IsAskable s → cost (local_at_start s t) ≤ w.later (memory_at_start s t).kept + (w.turn * 16384 + calls_cost (body_of s t))
    cost_first t a = subst (λ (l : Local). cost l ≤ w.later (memory_at_start s t).kept + (w.turn * 16384 + calls_cost (body_of s t))) (sym (starts_body s t a)) (at_first (cost (start_of_body s t)) (w.later (memory_at_start s t).kept) (w.turn * 16384) (calls_cost (body_of s t)) (next_costs t 0 (memory_at_start s t) [] (body_of s t) (kept_first s t) (a.calls t)))

    pub spent_in_all : (completes : ℕ → ℕ → Bool) (t : ℕ) (k : Local) (xs : List Item) → IsAskable s → after_items s completes t (local_at_start s t) xs ≡ Some k → cost k + spent w.item xs ≤ w.later (memory_at_start s t).kept + (w.turn * 16384 + calls_cost (body_of s t))
    spent_in_all completes t k xs a h =
        let one = spent_after completes t (local_at_start s t) k xs a (stands_first s t a) h in
        let first = cost_first t a in
        trans_le (cost k + spent w.item xs) (cost (local_at_start s t)) (w.later (memory_at_start s t).kept + (w.turn * 16384 + calls_cost (body_of s t))) one first
      where
        trans_le : (a b c : ℕ) → a ≤ b → b ≤ c → a ≤ c
        trans_le a b c h k = omega (arith, h, k)

    pub offered_within : (t : ℕ) (l : Local) → IsStanding s t l → AllWithin (cost l) (map form_of (offered s t l))
    offered_within t l q = within (cost l) (offered s t l) (spend_offered t l l.agenda q.memory q.agenda q.calls)

    all_later : (n : ℕ) (fs gs : List Form) → AllWithin n (fs ++ gs) → AllWithin n gs
    all_later n [] gs h = h
    all_later n (f ∷ fs) gs h = all_later n fs gs h.1

    -- so does each form where a completion that isn't due is left out
    pub settled_within : (t : ℕ) (l : Local) → IsStanding s t l → AllWithin (cost l) (map form_of (offered s t (settled_local l)))
    settled_within t l q = subst (λ (ys : List Alternative). AllWithin (cost l) (map form_of ys)) (sym (offered_any s t l (undue l.agenda) (undue l.agenda))) (undue_within l.agenda (offered_within t l q))
      where
        undue_within : (ts : List Task) → AllWithin (cost l) (map form_of (offered_by s t l ts)) → AllWithin (cost l) (map form_of (offered_by s t l (undue ts)))
        undue_within [] h = h
        undue_within (Completes b false ∷ ts) h = all_later (cost l) (map form_of (alternatives s t (record l { agenda = ts }) (Completes b false))) (map form_of (offered_by s t l ts)) (subst (λ (fs : List Form). AllWithin (cost l) fs) (map-append form_of (alternatives s t (record l { agenda = ts }) (Completes b false)) (offered_by s t l ts)) h)
        undue_within (task ∷ ts) h = h
