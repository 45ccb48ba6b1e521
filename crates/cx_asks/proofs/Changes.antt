-- How often a thread may change one object.
use Rattle.std.proofs.Common.{◌≡◌, ℕ, zero, suc, ◌+◌, ◌-◌, ◌*◌, ◌≤◌, ◌==◌, ◌&&◌, inl, inr, Bool, true, false, List, [], ◌∷◌, length, Option, Some, None, slice_get, slice_set, if◌then◌else◌, refl, ap, ◌∙◌, subst, arith, eqb-true}
use Rattle.std.specs.Prelude.{nat_lt, nat_le, nat_eq}
use Rattle.std.specs.List.{list_all}
use Rattle.std.proofs.lemmas.Bool.{cases_Bool, and_parts, le-leb, leb-true, eqb-false}
use Rattle.cx_names.specs.declared.ObjectNo.{ObjectNo}
use Rattle.cx_names.specs.declared.Reply.{Reply}
use Rattle.cx_names.specs.declared.Reply.TheVariants as replies
use Rattle.cx_machine.specs.declared.kind.Op.{Op}
use Rattle.cx_machine.specs.declared.kind.Op.TheVariants as ops
use Rattle.cx_machine.specs.Meaning.{bit, times, IsOnceEach}
use Rattle.cx_scene.specs.declared.declared.Small.{Small}
use Rattle.cx_scene.specs.declared.declared.Small.TheVariants as smalls
use Rattle.cx_scene.specs.declared.declared.Thread.{Thread}
use Rattle.cx_scene.specs.declared.declared.Thread.TheVariants as threads
use Rattle.cx_scene.specs.declared.call.Call.{Call}
use Rattle.cx_scene.specs.declared.call.Call.TheVariants as calls
use Rattle.cx_scene.specs.Scene.{Scene, body_of}
use Rattle.cx_items.specs.declared.kept.Kept.{Kept}
use Rattle.cx_items.specs.declared.item.Item.{Item}
use Rattle.cx_items.specs.declared.item.Item.TheVariants as items
use Rattle.cx_items.specs.declared.item.Control.{Control}
use Rattle.cx_items.specs.declared.item.Control.TheVariants as controls
use Rattle.cx_items.specs.declared.form.Form.{Form}
use Rattle.cx_items.specs.declared.form.Form.TheVariants.{Change, Look, Does, Says}
use Rattle.cx_items.specs.Form.{change, fits}
use Rattle.cx_items.specs.Memory.{Memory, of, keep, kept_after, launched, controlled, memory_at_start}
use Rattle.cx_items.specs.Calls.{refusal, tasks, opened, end_tasks}
use Rattle.cx_items.specs.Next.{Local, local_at_start}
use Rattle.cx_history.specs.Follows.{after_items}
use Rattle.cx_asks.specs.Scenes.{are_apart, are_plain, is_plain, is_completion_now, is_fit, IsAskable}
use Rattle.cx_asks.specs.Spent.{changes_by, spent}
use Rattle.cx_asks.proofs.Forms.{is_begin, IsAlike, form_of_item, form_turns}
use Rattle.cx_asks.proofs.Kept.{kept_at, levels, reads, Keeps, set_other, set_like, IsKept}
use Rattle.cx_asks.proofs.Calls.{once_each}
use Rattle.cx_asks.proofs.Offering.{level_first, reads_first}
use Rattle.cx_asks.proofs.Weighing.{Measure, Spends, IsMeasure, locks_cost, agenda_cost, small_cost, calls_cost, cost, spent_in_all}
use Rattle.cx_asks.proofs.Ending.{repeated, repeated_none, repeated_one, gives_up_cost, ends_cost}

-- how many unlocks give all of it back
abbrev held : Kept → ℕ
held k = k.levels + bit k.reads

-- each level, and each share, is one more unlock at the end of the body
abbrev gained : Op → ℕ
gained ops.Lock = 1
gained ops.TryLock = 1
gained ops.LockShared = 1
gained ops.TryLockShared = 1
gained _ = 0

more : (n b : ℕ) → (n + 1) + b ≤ (n + b) + 1
more n b = omega arith

fewer : (n b : ℕ) → (n - 1) + b ≤ (n + b) + 0
fewer n b = omega arith

shared : (n b : ℕ) → n + 1 ≤ (n + b) + 1
shared n b = omega arith

unshared : (n b : ℕ) → n + 0 ≤ (n + b) + 0
unshared n b = omega arith

as_held : (n : ℕ) → n ≤ n + 0
as_held n = omega arith

held_after : (op : Op) (k : Kept) → held (kept_after op k) ≤ held k + gained op
held_after ops.Lock k = more k.levels (bit k.reads)
held_after ops.TryLock k = more k.levels (bit k.reads)
held_after ops.Unlock k = fewer k.levels (bit k.reads)
held_after ops.LockShared k = shared k.levels (bit k.reads)
held_after ops.TryLockShared k = shared k.levels (bit k.reads)
held_after ops.UnlockShared k = unshared k.levels (bit k.reads)
held_after _ k = as_held (held k)

set_most : (ks : List Kept) (i : ℕ) (k : Kept) (g : ℕ) → held k ≤ held (kept_at ks i) + g → held (kept_at (slice_set ks i k) i) ≤ held (kept_at ks i) + g
set_most [] i k g h = omega arith
set_most (x ∷ xs) zero k g h = h
set_most (x ∷ xs) (suc i) k g h = set_most xs i k g h

at_most : (b : Bool) (x : ℕ) → (if b then x else 0) ≤ x
at_most true x = omega arith
at_most false x = omega arith

module _ (o : ℕ) where
  abbrev form_changes : Form → ℕ
  form_changes (Change q op a b w) = if q.0 == o then 1 + gained op else 0
  form_changes _ = 0

  abbrev changes_so_many : Measure
  changes_so_many = record { form = form_changes; item = changes_by o; later = λ ks. held (kept_at ks o); turn = 3; completion = 2; call = λ c. 3 }

  -- ---- items

  changes_level : (s : Scene) (q : ObjectNo) (op : Op) (m : Memory) → held (kept_at (keep m q (kept_after op (of m q))).kept o) ≤ held (kept_at m.kept o) + (if q.0 == o then gained op else 0)
  changes_level s q op m = go (q.0 == o) refl
    where
      go : (b : Bool) → (q.0 == o) ≡ b → held (kept_at (keep m q (kept_after op (of m q))).kept o) ≤ held (kept_at m.kept o) + (if b then gained op else 0)
      go true e =
          let same : q.0 ≡ o = eqb-true q.0 o e in
          subst (λ (n : ℕ). held (kept_at (slice_set m.kept q.0 (kept_after op (of m q))) n) ≤ held (kept_at m.kept n) + gained op) same (set_most m.kept q.0 (kept_after op (of m q)) (gained op) (held_after op (of m q)))
      go false e =
          let other = set_other m.kept q.0 o (kept_after op (of m q)) (eqb-false q.0 o e) in
          let same : held (kept_at (slice_set m.kept q.0 (kept_after op (of m q))) o) ≡ held (kept_at m.kept o) = ap held other in
          omega (arith, same)

  one_change : (b : Bool) (g : ℕ) → (if b then 1 else 0) + (if b then g else 0) ≤ (if b then 1 + g else 0)
  one_change true g = omega arith
  one_change false g = omega arith

  as_before : (n : ℕ) → n ≤ n + 0
  as_before n = omega arith

  launched_level : (m : Memory) (d : Option Thread) → held (kept_at (launched m d).kept o) ≤ held (kept_at m.kept o) + 0
  launched_level m (Some (threads.Launched a)) =
      let same : held (kept_at (keep m a (record (of m a) { is_valid = true; is_launched = true })).kept o) ≡ held (kept_at m.kept o) = set_like held m.kept a.0 o (record (of m a) { is_valid = true; is_launched = true }) refl in
      omega (arith, same)
  launched_level m _ = as_before (held (kept_at m.kept o))

  controlled_level : (s : Scene) (m : Memory) (c : Control) → held (kept_at (controlled s m c).kept o) ≤ held (kept_at m.kept o) + 0
  controlled_level s m (controls.Start t true) = as_before (held (kept_at m.kept o))
  controlled_level s m (controls.Start t false) = as_before (held (kept_at m.kept o))
  controlled_level s m (controls.Launch t true) = launched_level m (slice_get s.threads t.0)
  controlled_level s m (controls.Launch t false) = as_before (held (kept_at m.kept o))
  controlled_level s m (controls.Join t) = as_before (held (kept_at m.kept o))

  spends_alike : (s : Scene) (f : Form) (x : Item) → is_begin f ≡ false → IsAlike f x → Spends changes_so_many s f x
  spends_alike s (Change q op a b w) (items.Change p n e) h k = record {
    more = if q.0 == o then gained op else 0;
    item = subst (λ (i : ObjectNo). (if i.0 == o then 1 else 0) + (if q.0 == o then gained op else 0) ≤ (if q.0 == o then 1 + gained op else 0)) k.0 (one_change (q.0 == o) (gained op));
    kept = λ m. changes_level s q op m;
    turns = form_turns s (Change q op a b w);
  }
  spends_alike s (Look q op a b w) (items.Look p l) h k = record { more = 0; item = omega arith; kept = λ m. as_before (held (kept_at m.kept o)); turns = form_turns s (Look q op a b w) }
  spends_alike s (Does c) (items.Control d) h k = record { more = 0; item = omega arith; kept = λ m. controlled_level s m c; turns = form_turns s (Does c) }
  spends_alike s (Says r) (items.Said r') h k = record { more = 0; item = omega arith; kept = λ m. as_before (held (kept_at m.kept o)); turns = form_turns s (Says r) }
  spends_alike s _ _ h k = absurd k

  spends_changes : (s : Scene) (f : Form) (x : Item) (r : Reply) → is_begin f ≡ false → fits s f x ≡ Some r → Spends changes_so_many s f x
  spends_changes s f x r plain h = let k = form_of_item s f x r plain h in spends_alike s f x plain k.alike

  -- ---- locks of several mutexes

  three_each : (b : Bool) (l t : ℕ) → l ≡ 3 * t → ((if b then 2 else 0) + (if b then 1 else 0)) + l ≡ 3 * (bit b + t)
  three_each true l t h = omega (arith, h)
  three_each false l t h = omega (arith, h)

  locks_are : (os : List ℕ) → locks_cost changes_so_many os ≡ 3 * times o os
  locks_are [] = refl
  locks_are (n ∷ os) = three_each (nat_eq n o) (locks_cost changes_so_many os) (times o os) (locks_are os)

  once_changed : (os : List ℕ) → IsOnceEach os → locks_cost changes_so_many os ≤ 3
  once_changed os once = let a = locks_are os in let b = once o in omega (arith, a, b)

  -- ---- calls

  one_later : (a x l : ℕ) → a ≤ x → x ≤ 3 → (a + 0) + l ≤ 3 + l
  one_later a x l h k = omega (arith, h, k)

  two_later : (a x l : ℕ) → a ≤ x → x ≤ 3 → (a + (0 + 0)) + l ≤ 3 + l
  two_later a x l h k = omega (arith, h, k)

  later_alone : (l : ℕ) → 0 + l ≤ 3 + l
  later_alone l = omega arith

  waits_later : (a x l : ℕ) → a ≤ x → x ≤ 3 → (a + 0) + ((0 + 0) + l) ≤ 3 + l
  waits_later a x l h k = omega (arith, h, k)

  arrives_later : (a l : ℕ) → a ≤ 1 → (a + 2) + l ≤ 3 + l
  arrives_later a l h = omega (arith, h)

  calls_later : (a b l : ℕ) → a ≤ 1 → b ≤ 1 → (a + b) + l ≤ 3 + l
  calls_later a b l h k = omega (arith, h, k)

  locks_later : (a l : ℕ) → a ≤ 3 → a + l ≤ 3 + l
  locks_later a l h = omega (arith, h)

  tries_later : (a l : ℕ) → a ≤ 3 → (0 + a) + l ≤ 3 + l
  tries_later a l h = omega (arith, h)

  apart_each : (s : Scene) (n : ℕ) (os : List ℕ) → (nat_lt n (length os) && are_plain s os) ≡ true → IsOnceEach os
  apart_each s n os h = let p = and_parts (nat_lt n (length os)) (are_plain s os) h in once_each os (and_parts (list_all (λ q. is_plain (slice_get s.objects q)) os) (are_apart os) p.1).1

  opens_tasks : (s : Scene) (t n : ℕ) (m : Memory) (c : Call) (later : ℕ) → is_fit s t c ≡ true → agenda_cost changes_so_many later (tasks s t n m c) ≤ 3 + later
  opens_tasks s t n m (calls.Lock q) later h = one_later (if q.0 == o then 2 else 0) 2 later (at_most (q.0 == o) 2) (omega arith)
  opens_tasks s t n m (calls.LockRecursive q) later h = two_later (if q.0 == o then 2 else 0) 2 later (at_most (q.0 == o) 2) (omega arith)
  opens_tasks s t n m (calls.TryLock q) later h = two_later (if q.0 == o then 2 else 0) 2 later (at_most (q.0 == o) 2) (omega arith)
  opens_tasks s t n m (calls.TryLockRecursive q) later h = two_later (if q.0 == o then 2 else 0) 2 later (at_most (q.0 == o) 2) (omega arith)
  opens_tasks s t n m (calls.Unlock q) later h = one_later (if q.0 == o then 1 else 0) 1 later (at_most (q.0 == o) 1) (omega arith)
  opens_tasks s t n m (calls.LockShared q) later h = one_later (if q.0 == o then 2 else 0) 2 later (at_most (q.0 == o) 2) (omega arith)
  opens_tasks s t n m (calls.TryLockShared q) later h = two_later (if q.0 == o then 2 else 0) 2 later (at_most (q.0 == o) 2) (omega arith)
  opens_tasks s t n m (calls.UnlockShared q) later h = one_later (if q.0 == o then 1 else 0) 1 later (at_most (q.0 == o) 1) (omega arith)
  opens_tasks s t n m (calls.LockAll os) later h = locks_later (locks_cost changes_so_many os) later (once_changed os (apart_each s 1 os h))
  opens_tasks s t n m (calls.TryLockAll os) later h = tries_later (locks_cost changes_so_many os) later (once_changed os (apart_each s 0 os h))
  opens_tasks s t n m (calls.Release q k) later h = two_later (if q.0 == o then 1 else 0) 1 later (at_most (q.0 == o) 1) (omega arith)
  opens_tasks s t n m (calls.Acquire q) later h = one_later (if q.0 == o then 1 else 0) 1 later (at_most (q.0 == o) 1) (omega arith)
  opens_tasks s t n m (calls.TryAcquire q) later h = two_later (if q.0 == o then 1 else 0) 1 later (at_most (q.0 == o) 1) (omega arith)
  opens_tasks s t n m (calls.CountDown l k) later h = one_later (if l.0 == o then 1 else 0) 1 later (at_most (l.0 == o) 1) (omega arith)
  opens_tasks s t n m (calls.WaitLatch l) later h = later_alone later
  opens_tasks s t n m (calls.TryWait l) later h = later_alone later
  opens_tasks s t n m (calls.ArriveAndWaitLatch l) later h = waits_later (if l.0 == o then 1 else 0) 1 later (at_most (l.0 == o) 1) (omega arith)
  opens_tasks s t n m (calls.Arrive b k) later h = arrives_later (if b.0 == o then 1 else 0) later (at_most (b.0 == o) 1)
  opens_tasks s t n m (calls.WaitBarrier b) later h = later_alone later
  opens_tasks s t n m (calls.ArriveAndWait b) later h = arrives_later (if b.0 == o then 1 else 0) later (at_most (b.0 == o) 1)
  opens_tasks s t n m (calls.ArriveAndDrop b) later h = arrives_later (if b.0 == o then 1 else 0) later (at_most (b.0 == o) 1)
  opens_tasks s t n m (calls.CallOnceReturn q) later h = calls_later (if q.0 == o then 1 else 0) (if q.0 == o then 1 else 0) later (at_most (q.0 == o) 1) (at_most (q.0 == o) 1)
  opens_tasks s t n m (calls.CallOnceThrow q e) later h = calls_later (if q.0 == o then 1 else 0) (if q.0 == o then 1 else 0) later (at_most (q.0 == o) 1) (at_most (q.0 == o) 1)
  opens_tasks s t n m (calls.Start u) later h = later_alone later
  opens_tasks s t n m (calls.Join u) later h = later_alone later
  opens_tasks s t n m _ later h = cc

  opens_changes : (s : Scene) (t n : ℕ) (m : Memory) (c : Call) (later : ℕ) → is_fit s t c ≡ true → agenda_cost changes_so_many later (opened s t n m c) ≤ 3 + later
  opens_changes s t n m c later h = go (refusal s m c) refl
    where
      go : (r : Option Reply) → refusal s m c ≡ r → agenda_cost changes_so_many later (opened s t n m c) ≤ 3 + later
      go None e = rw e (opens_tasks s t n m c later h)
      go (Some r) e = rw e (later_alone later)

  -- ---- the end of a body

  -- what is held of o, before and at its place
  abbrev bound : Memory → ℕ → ℕ
  bound m i = if nat_le i o then held (kept_at m.kept o) else 0

  not_below : (i : ℕ) → i ≡ o → nat_le (i + 1) o ≡ false
  not_below i e = elim (cases_Bool (nat_le (i + 1) o)) [ inr h ↦ h | inl h ↦ absurd (let le = leb-true (i + 1) o h in let no : ⊥ = omega (arith, le, e) in no) ]

  all_given : (n : ℕ) (b : Bool) → repeated n 1 + (if b then 1 else 0) ≡ n + bit b
  all_given n true = let e = repeated_one n 1 refl in omega (arith, e)
  all_given n false = let e = repeated_one n 1 refl in omega (arith, e)

  none_given : (n : ℕ) (b : Bool) → repeated n 0 + (if b then 0 else 0) ≡ 0
  none_given n true = let e = repeated_none n 0 refl in omega (arith, e)
  none_given n false = let e = repeated_none n 0 refl in omega (arith, e)

  falls : (m : Memory) (i : ℕ) → gives_up_cost changes_so_many m i + bound m (i + 1) ≤ bound m i
  falls m i = go (i == o) refl
    where
      all_here : (r l : ℕ) → r ≡ l → r + 0 ≤ l
      all_here r l h = omega (arith, h)

      further : (r : ℕ) (b : Bool) → r ≡ 0 → nat_le (i + 1) o ≡ b → r + (if b then held (kept_at m.kept o) else 0) ≤ bound m i
      further r true z e =
          let le = leb-true (i + 1) o e in
          let here : nat_le i o ≡ true = le-leb i o (omega (arith, le)) in
          rw here (all_here_too r (held (kept_at m.kept o)) z)
        where
          all_here_too : (x l : ℕ) → x ≡ 0 → x + l ≤ l
          all_here_too x l h = omega (arith, h)
      further r false z e = let sum : r + 0 ≤ bound m i = omega (arith, z) in sum

      go : (b : Bool) → (i == o) ≡ b → (repeated (levels m i) (if b then 1 else 0) + (if reads m i then (if b then 1 else 0) else 0)) + bound m (i + 1) ≤ bound m i
      go true e =
          let same : i ≡ o = eqb-true i o e in
          let here : nat_le i o ≡ true = le-leb i o (omega (arith, same)) in
          let all : repeated (levels m i) 1 + (if reads m i then 1 else 0) ≡ held (kept_at m.kept o) = all_given (levels m i) (reads m i) ∙ ap (λ (j : ℕ). held (kept_at m.kept j)) same in
          rw (not_below i same, here) (all_here (repeated (levels m i) 1 + (if reads m i then 1 else 0)) (held (kept_at m.kept o)) all)
      go false e = further (repeated (levels m i) 0 + (if reads m i then 0 else 0)) (nat_le (i + 1) o) (none_given (levels m i) (reads m i)) refl

  ends_changes : (s : Scene) (t : ℕ) (m : Memory) (later : ℕ) → IsAskable s → IsKept s m → agenda_cost changes_so_many later (end_tasks s t m) ≤ held (kept_at m.kept o)
  ends_changes s t m later a k =
      let le = ends_cost changes_so_many later s t m (bound m) a k (falls m) in
      let here : nat_le 0 o ≡ true = le-leb 0 o (omega arith) in
      let whole : bound m 0 ≡ held (kept_at m.kept o) = rw here refl in
      subst (λ (n : ℕ). agenda_cost changes_so_many later (end_tasks s t m) ≤ n) whole le

  -- a completion changes what it releases, and the barrier
  completes_twice : (b : ObjectNo) (x : Option Small) → is_completion_now x ≡ true → small_cost changes_so_many x + form_changes (change b ops.Complete 0 replies.Ok) ≤ 2
  completes_twice b None now = no_act (if b.0 == o then 1 else 0) (at_most (b.0 == o) 1)
    where
      no_act : (a : ℕ) → a ≤ 1 → 0 + a ≤ 2
      no_act a h = omega (arith, h)
  completes_twice b (Some (smalls.Release q n)) now = one_act (if q.0 == o then 1 else 0) (if b.0 == o then 1 else 0) (at_most (q.0 == o) 1) (at_most (b.0 == o) 1)
    where
      one_act : (a c : ℕ) → a ≤ 1 → c ≤ 1 → (a + (0 + 0)) + c ≤ 2
      one_act a c h k = omega (arith, h, k)
  completes_twice b _ now = cc

  held_alike : (m m' : Memory) → Keeps m m' → held (kept_at m'.kept o) ≤ held (kept_at m.kept o)
  held_alike m m' k = sum_alike (levels m' o) (levels m o) (bit (reads m' o)) (bit (reads m o)) (k.levels_are o) (ap bit (k.alike.reads_are o))
    where
      sum_alike : (a a' b b' : ℕ) → a ≡ a' → b ≡ b' → a + b ≤ a' + b'
      sum_alike a a' b b' h r = omega (arith, h, r)

  changes_measure : (s : Scene) → IsAskable s → IsMeasure changes_so_many s
  changes_measure s a = record {
    spends = spends_changes s;
    locks = λ q. omega arith;
    looks = λ q op a b wanted. refl;
    completes = completes_twice;
    alike = held_alike;
    says = λ r. refl;
    turn = λ os once. once_changed os once;
    opens = opens_changes s;
    ends = λ t m later k. ends_changes s t m later a k;
  }

  all_calls : (cs : List Call) → calls_cost changes_so_many cs ≡ 3 * length cs
  all_calls [] = refl
  all_calls (c ∷ cs) = let rest = all_calls cs in omega (arith, rest)

-- three for each turn and each call
pub changes_few : (s : Scene) (completes : ℕ → ℕ → Bool) (t : ℕ) (xs : List Item) (l : Local) (o : ℕ) → IsAskable s → after_items s completes t (local_at_start s t) xs ≡ Some l → spent (changes_by o) xs ≤ 61440
changes_few s completes t xs l o a h =
    let all = spent_in_all (changes_so_many o) s (changes_measure o s a) completes t l xs a h in
    let none : held (kept_at (memory_at_start s t).kept o) ≡ 0 = none_held (kept_at (memory_at_start s t).kept o) (level_first s t o) (reads_first s t o) in
    let calls_ = all_calls o (body_of s t) in
    let few = a.few t in
    in_all (cost (changes_so_many o) l) (spent (changes_by o) xs) (held (kept_at (memory_at_start s t).kept o)) (calls_cost (changes_so_many o) (body_of s t)) (length (body_of s t)) all none calls_ few
  where
    none_held : (k : Kept) → k.levels ≡ 0 → k.reads ≡ false → held k ≡ 0
    none_held k h r = none_sum k.levels (bit k.reads) h (ap bit r)
      where
        none_sum : (a b : ℕ) → a ≡ 0 → b ≡ 0 → a + b ≡ 0
        none_sum a b e z = omega (arith, e, z)

    in_all : (c sp k cs n : ℕ) → c + sp ≤ k + (3 * 16384 + cs) → k ≡ 0 → cs ≡ 3 * n → n ≤ 4096 → sp ≤ 61440
    in_all c sp k cs n h z e few = omega (arith, h, z, e, few)
