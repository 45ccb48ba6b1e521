-- What a thread takes from a latch is within what its text takes.
use Rattle.std.proofs.Common.{◌≡◌, ℕ, zero, suc, ◌+◌, ◌-◌, ◌*◌, ◌<◌, ◌≤◌, ◌==◌, ℤ, pos, Bool, true, false, List, [], ◌∷◌, ◌++◌, length, map, Option, Some, None, if◌then◌else◌, refl, ap, subst, arith, ◌⊎◌, inl, inr, eq-eqb}
use Rattle.std.specs.Prelude.{nat_le}
use Rattle.std.proofs.lemmas.Bool.{cases_Bool, leb-true, leb-false}
use Rattle.cx_names.specs.declared.ObjectNo.{ObjectNo}
use Rattle.cx_names.specs.declared.Reply.{Reply}
use Rattle.cx_names.specs.declared.Reply.TheVariants as replies
use Rattle.cx_machine.specs.declared.kind.Kind.TheVariants as kinds
use Rattle.cx_machine.specs.declared.kind.Op.{Op}
use Rattle.cx_machine.specs.declared.kind.Op.TheVariants as ops
use Rattle.cx_scene.specs.declared.declared.Object.{Object}
use Rattle.cx_scene.specs.declared.declared.Object.TheVariants as objects
use Rattle.cx_scene.specs.declared.declared.Small.{Small}
use Rattle.cx_scene.specs.declared.declared.Small.TheVariants as smalls
use Rattle.cx_scene.specs.declared.call.Call.{Call}
use Rattle.cx_scene.specs.declared.call.Call.TheVariants as calls
use Rattle.cx_scene.specs.Scene.{Scene, kind_of, body_of}
use Rattle.cx_items.specs.declared.kept.Kept.{Kept}
use Rattle.cx_items.specs.declared.item.Item.{Item}
use Rattle.cx_items.specs.declared.item.Item.TheVariants as items
use Rattle.cx_items.specs.declared.form.Form.{Form}
use Rattle.cx_items.specs.declared.form.Form.TheVariants.{Change, Look, Does, Says}
use Rattle.cx_items.specs.Form.{change, fits}
use Rattle.cx_items.specs.Memory.{Memory, of}
use Rattle.cx_items.specs.Calls.{refusal, tasks, opened}
use Rattle.cx_items.specs.Next.{Local, offered, settled_local, local_at_start}
use Rattle.cx_items.specs.Steps.{form_of}
use Rattle.cx_history.specs.Follows.{after_items}
use Rattle.cx_asks.specs.declared.ask.Ask.{Ask}
use Rattle.cx_asks.specs.Asks.{asks_mutex, asks_recursive, asks_semaphore, asks_latch, asks_shared, asks_once, asks_barrier, serves}
use Rattle.cx_asks.specs.Forms.{change_forms, look_forms, asked_forms}
use Rattle.cx_asks.specs.Scenes.{takes_of, takings, taken_in, taken_below, count_at, left_with_main, is_completion_now, is_fit, SharesAre, IsAskable}
use Rattle.cx_asks.specs.Offers.{counted_by, takes, IsServed}
use Rattle.cx_asks.specs.Spent.{takes_by, spent}
use Rattle.cx_asks.proofs.Forms.{is_begin, IsAlike, form_of_item, form_turns}
use Rattle.cx_asks.proofs.Offering.{stands_first, stands_after}
use Rattle.cx_asks.proofs.Weighing.{Measure, Spends, IsMeasure, locks_cost, agenda_cost, small_cost, calls_cost, cost, AllWithin, settled_within, spent_in_all}
use Rattle.cx_asks.proofs.Ending.{ends_cost, gives_nothing}

module _ (o : ℕ) where
  abbrev pub form_takes : Form → ℕ
  form_takes (Change q op a b w) = if q.0 == o then counted_by (Some op) a else 0
  form_takes _ = 0

  abbrev pub takes_so_much : Measure
  takes_so_much = record { form = form_takes; item = takes_by o; later = λ ks. 0; turn = 0; completion = 0; call = takes_of o }

  abbrev zero_if : Bool → ℕ
  zero_if b = if b then 0 else 0

  nothing_if : (b : Bool) → zero_if b ≡ 0
  nothing_if true = refl
  nothing_if false = refl

  no_more : (n : ℕ) → n ≡ 0 → n + 0 ≤ 0
  no_more n h = omega (arith, h)

  same_taken : (n m : ℕ) → n ≡ m → n + 0 ≤ m
  same_taken n m h = omega (arith, h)

  alike_takes : (f : Form) (x : Item) → is_begin f ≡ false → IsAlike f x → takes_by o x ≡ form_takes f
  alike_takes (Change q op a b w) (items.Change p n e) h k = rw (k.0, k.1, k.2) refl
  alike_takes (Look q op a b w) (items.Look p l) h k = refl
  alike_takes (Does c) (items.Control d) h k = refl
  alike_takes (Says r) (items.Said r') h k = refl
  alike_takes _ _ h k = absurd k

  spends_taken : (s : Scene) (f : Form) (x : Item) (r : Reply) → is_begin f ≡ false → fits s f x ≡ Some r → Spends takes_so_much s f x
  spends_taken s f x r plain h =
      let k = form_of_item s f x r plain h in
      record { more = 0; item = same_taken (takes_by o x) (form_takes f) (alike_takes f x plain k.alike); kept = λ m. omega arith; turns = form_turns s f }

  no_locks : (os : List ℕ) → locks_cost takes_so_much os ≡ 0
  no_locks [] = refl
  no_locks (n ∷ os) = sum_none (zero_if (n == o)) (zero_if (n == o)) (locks_cost takes_so_much os) (nothing_if (n == o)) (no_locks os)
    where
      sum_none : (a b c : ℕ) → a ≡ 0 → c ≡ 0 → (a + a) + c ≡ 0
      sum_none a b c h k = omega (arith, h, k)

  only_later : (a l : ℕ) → a ≡ 0 → (a + 0) + l ≤ 0 + l
  only_later a l h = omega (arith, h)

  two_later : (a l : ℕ) → a ≡ 0 → (a + (0 + 0)) + l ≤ 0 + l
  two_later a l h = omega (arith, h)

  both_later : (a b l : ℕ) → a ≡ 0 → b ≡ 0 → (a + b) + l ≤ 0 + l
  both_later a b l h k = omega (arith, h, k)

  locks_later : (a l : ℕ) → a ≡ 0 → a + l ≤ 0 + l
  locks_later a l h = omega (arith, h)

  tries_later : (a l : ℕ) → a ≡ 0 → (0 + a) + l ≤ 0 + l
  tries_later a l h = omega (arith, h)

  later_alone : (c l : ℕ) → 0 + l ≤ c + l
  later_alone c l = omega arith

  counts : (a l : ℕ) → (a + 0) + l ≤ a + l
  counts a l = omega arith

  counts_and_waits : (a l : ℕ) → (a + 0) + ((0 + 0) + l) ≤ a + l
  counts_and_waits a l = omega arith

  opens_tasks : (s : Scene) (t n : ℕ) (m : Memory) (c : Call) (later : ℕ) → is_fit s t c ≡ true → agenda_cost takes_so_much later (tasks s t n m c) ≤ takes_of o c + later
  opens_tasks s t n m (calls.Lock q) later h = only_later (zero_if (q.0 == o)) later (nothing_if (q.0 == o))
  opens_tasks s t n m (calls.LockRecursive q) later h = two_later (zero_if (q.0 == o)) later (nothing_if (q.0 == o))
  opens_tasks s t n m (calls.TryLock q) later h = two_later (zero_if (q.0 == o)) later (nothing_if (q.0 == o))
  opens_tasks s t n m (calls.TryLockRecursive q) later h = two_later (zero_if (q.0 == o)) later (nothing_if (q.0 == o))
  opens_tasks s t n m (calls.Unlock q) later h = only_later (zero_if (q.0 == o)) later (nothing_if (q.0 == o))
  opens_tasks s t n m (calls.LockShared q) later h = only_later (zero_if (q.0 == o)) later (nothing_if (q.0 == o))
  opens_tasks s t n m (calls.TryLockShared q) later h = two_later (zero_if (q.0 == o)) later (nothing_if (q.0 == o))
  opens_tasks s t n m (calls.UnlockShared q) later h = only_later (zero_if (q.0 == o)) later (nothing_if (q.0 == o))
  opens_tasks s t n m (calls.LockAll os) later h = locks_later (locks_cost takes_so_much os) later (no_locks os)
  opens_tasks s t n m (calls.TryLockAll os) later h = tries_later (locks_cost takes_so_much os) later (no_locks os)
  opens_tasks s t n m (calls.Release q k) later h = two_later (zero_if (q.0 == o)) later (nothing_if (q.0 == o))
  opens_tasks s t n m (calls.Acquire q) later h = only_later (zero_if (q.0 == o)) later (nothing_if (q.0 == o))
  opens_tasks s t n m (calls.TryAcquire q) later h = two_later (zero_if (q.0 == o)) later (nothing_if (q.0 == o))
  opens_tasks s t n m (calls.CountDown l k) later h = counts (if l.0 == o then k else 0) later
  opens_tasks s t n m (calls.WaitLatch l) later h = later_alone 0 later
  opens_tasks s t n m (calls.TryWait l) later h = later_alone 0 later
  opens_tasks s t n m (calls.ArriveAndWaitLatch l) later h = counts_and_waits (if l.0 == o then 1 else 0) later
  opens_tasks s t n m (calls.Arrive b k) later h = only_later (zero_if (b.0 == o)) later (nothing_if (b.0 == o))
  opens_tasks s t n m (calls.WaitBarrier b) later h = later_alone 0 later
  opens_tasks s t n m (calls.ArriveAndWait b) later h = only_later (zero_if (b.0 == o)) later (nothing_if (b.0 == o))
  opens_tasks s t n m (calls.ArriveAndDrop b) later h = only_later (zero_if (b.0 == o)) later (nothing_if (b.0 == o))
  opens_tasks s t n m (calls.CallOnceReturn q) later h = both_later (zero_if (q.0 == o)) (zero_if (q.0 == o)) later (nothing_if (q.0 == o)) (nothing_if (q.0 == o))
  opens_tasks s t n m (calls.CallOnceThrow q e) later h = both_later (zero_if (q.0 == o)) (zero_if (q.0 == o)) later (nothing_if (q.0 == o)) (nothing_if (q.0 == o))
  opens_tasks s t n m (calls.Start u) later h = later_alone 0 later
  opens_tasks s t n m (calls.Join u) later h = later_alone 0 later
  opens_tasks s t n m _ later h = cc

  opens_taken : (s : Scene) (t n : ℕ) (m : Memory) (c : Call) (later : ℕ) → is_fit s t c ≡ true → agenda_cost takes_so_much later (opened s t n m c) ≤ takes_of o c + later
  opens_taken s t n m c later h = go (refusal s m c) refl
    where
      go : (r : Option Reply) → refusal s m c ≡ r → agenda_cost takes_so_much later (opened s t n m c) ≤ takes_of o c + later
      go None e = rw e (opens_tasks s t n m c later h)
      go (Some r) e = rw e (later_alone (takes_of o c) later)

  -- a completion takes nothing from a latch
  completes_free : (b : ObjectNo) (x : Option Small) → is_completion_now x ≡ true → small_cost takes_so_much x + form_takes (change b ops.Complete 0 replies.Ok) ≤ 0
  completes_free b None now = none_done (zero_if (b.0 == o)) (nothing_if (b.0 == o))
    where
      none_done : (a : ℕ) → a ≡ 0 → 0 + a ≤ 0
      none_done a h = omega (arith, h)
  completes_free b (Some (smalls.Release q n)) now = all_done (zero_if (q.0 == o)) (zero_if (b.0 == o)) (nothing_if (q.0 == o)) (nothing_if (b.0 == o))
    where
      all_done : (a c : ℕ) → a ≡ 0 → c ≡ 0 → (a + (0 + 0)) + c ≤ 0
      all_done a c h k = omega (arith, h, k)
  completes_free b _ now = cc

  none_or_less : (n : ℕ) → n ≡ 0 → n ≤ 0
  none_or_less n h = omega (arith, h)

  pub takes_measure : (s : Scene) → IsAskable s → IsMeasure takes_so_much s
  takes_measure s a = record {
    spends = spends_taken s;
    locks = λ q. omega arith;
    looks = λ q op a b wanted. refl;
    completes = completes_free;
    alike = λ m m' k. omega arith;
    says = λ r. refl;
    turn = λ os once. none_or_less (locks_cost takes_so_much os) (no_locks os);
    opens = opens_taken s;
    ends = λ t m later k. ends_cost takes_so_much later s t m (λ i. 0) a k (λ i. gives_nothing takes_so_much m i (nothing_if (i == o)) (nothing_if (i == o)));
  }

  all_calls : (cs : List Call) → calls_cost takes_so_much cs ≡ takings o cs
  all_calls [] = refl
  all_calls (c ∷ cs) = ap (λ (n : ℕ). takes_of o c + n) (all_calls cs)

-- ---- what is asked of a latch

same : (n : ℕ) → (n == n) ≡ true
same n = eq-eqb n n refl

plain_takes : (n : ℕ) (c k : Option Op) (a b : ℤ) → asks_mutex n c k a b → counted_by c a ≡ 0
plain_takes zero (Some ops.Lock) None (pos zero) (pos zero) h = refl
plain_takes zero (Some ops.TryLock) (Some ops.TryLock) (pos zero) (pos zero) h = refl
plain_takes (suc n) (Some ops.Unlock) None (pos zero) (pos zero) h = refl
plain_takes _ _ _ _ _ h = absurd h

recursive_takes : (n : ℕ) (c k : Option Op) (a b : ℤ) → asks_recursive n c k a b → counted_by c a ≡ 0
recursive_takes n (Some ops.Lock) (Some ops.Lock) (pos zero) (pos zero) h = refl
recursive_takes n (Some ops.TryLock) (Some ops.TryLock) (pos zero) (pos zero) h = refl
recursive_takes (suc n) (Some ops.Unlock) None (pos zero) (pos zero) h = refl
recursive_takes _ _ _ _ _ h = absurd h

semaphore_takes : (c k : Option Op) (a b : ℤ) → asks_semaphore c k a b → counted_by c a ≡ 0
semaphore_takes (Some ops.Release) (Some ops.Release) (pos n) (pos zero) h = refl
semaphore_takes (Some ops.Acquire) None (pos zero) (pos zero) h = refl
semaphore_takes (Some ops.TryAcquire) (Some ops.TryAcquire) (pos zero) (pos zero) h = refl
semaphore_takes _ _ _ _ h = absurd h

shared_takes : (n : ℕ) (reads : Bool) (c k : Option Op) (a b : ℤ) → asks_shared n reads c k a b → counted_by c a ≡ 0
shared_takes zero false (Some ops.Lock) None (pos zero) (pos zero) h = refl
shared_takes zero false (Some ops.TryLock) (Some ops.TryLock) (pos zero) (pos zero) h = refl
shared_takes zero false (Some ops.LockShared) None (pos zero) (pos zero) h = refl
shared_takes zero false (Some ops.TryLockShared) (Some ops.TryLockShared) (pos zero) (pos zero) h = refl
shared_takes (suc n) reads (Some ops.Unlock) None (pos zero) (pos zero) h = refl
shared_takes n true (Some ops.UnlockShared) None (pos zero) (pos zero) h = refl
shared_takes _ _ _ _ _ _ h = absurd h

once_takes : (c k : Option Op) (a b : ℤ) → asks_once c k a b → counted_by c a ≡ 0
once_takes (Some ops.Begin) (Some ops.Passive) (pos zero) (pos zero) h = refl
once_takes (Some ops.Finish) None (pos zero) (pos zero) h = refl
once_takes (Some ops.Fail) None (pos e) (pos zero) h = refl
once_takes _ _ _ _ h = absurd h

barrier_takes : (c k : Option Op) (a b : ℤ) → asks_barrier c k a b → counted_by c a ≡ 0
barrier_takes (Some ops.Arrive) (Some ops.Arrive) (pos n) (pos zero) h = refl
barrier_takes (Some ops.Drop) (Some ops.Drop) (pos zero) (pos zero) h = refl
barrier_takes (Some ops.Complete) None (pos zero) (pos zero) h = refl
barrier_takes None (Some ops.Wait) phase (pos zero) h = refl
barrier_takes _ _ _ _ h = absurd h

none_within : (a n : ℕ) → a ≡ 0 → a ≤ n
none_within a n h = omega (arith, h)

latch_takes : (q : ObjectNo) (count share n : ℕ) (c k : Option Op) (a b : ℤ) → asks_latch share c k a b → AllWithin (takes_so_much q.0) n (change_forms (kinds.Latch count) q c a b ++ look_forms (kinds.Latch count) q k a b) → counted_by c a ≤ n
latch_takes q count share n (Some ops.CountDown) None (pos m) (pos zero) ask h = let e = same q.0 in rw e at h.0
latch_takes q count share n None (Some ops.Wait) (pos zero) (pos zero) ask h = none_within 0 n refl
latch_takes q count share n None (Some ops.TryWait) (pos zero) (pos zero) ask h = none_within 0 n refl
latch_takes q count share n _ _ _ _ ask h = absurd ask

any_takes : (d : Object) (q : ObjectNo) (h : Kept) (share n : ℕ) (k : Ask) → serves (kind_of d) h share k → AllWithin (takes_so_much q.0) n (asked_forms (kind_of d) q k) → takes k ≤ n
any_takes (objects.Mutex numbers) q h share n k ask all = none_within (takes k) n (plain_takes h.levels k.change k.look k.a k.b ask)
any_takes objects.Recursive q h share n k ask all = none_within (takes k) n (recursive_takes h.levels k.change k.look k.a k.b ask)
any_takes (objects.Semaphore count max) q h share n k ask all = none_within (takes k) n (semaphore_takes k.change k.look k.a k.b ask)
any_takes (objects.Latch count) q h share n k ask all = latch_takes q count share n k.change k.look k.a k.b ask all
any_takes objects.Shared q h share n k ask all = none_within (takes k) n (shared_takes h.levels h.reads k.change k.look k.a k.b ask)
any_takes (objects.Barrier count small) q h share n k ask all = none_within (takes k) n (barrier_takes k.change k.look k.a k.b ask)
any_takes objects.Once q h share n k ask all = none_within (takes k) n (once_takes k.change k.look k.a k.b ask)
any_takes _ q h share n k ask all = absurd ask

in_all : (c k sp whole cs : ℕ) → k ≤ c → c + sp ≤ 0 + (0 * 16384 + cs) → cs ≡ whole → sp + k ≤ whole
in_all c k sp whole cs h e is = omega (arith, h, e, is)

-- what an offered ask takes, with what was taken before, is within what the text takes
pub shares_suffice : (s : Scene) (completes : ℕ → ℕ → Bool) (t : ℕ) (xs : List Item) (l : Local) → IsAskable s → after_items s completes t (local_at_start s t) xs ≡ Some l → (q : IsServed s l.memory (map form_of (offered s t (settled_local l)))) → spent (takes_by q.object.0) xs + takes q.ask ≤ taken_in s t q.object.0
shares_suffice s completes t xs l a h q =
    let o = q.object.0 in
    let is = takes_measure o s a in
    let stands = stands_after s completes t (local_at_start s t) l xs a (stands_first s t a) h in
    let all = spent_in_all (takes_so_much o) s is completes t l xs a h in
    let within = settled_within (takes_so_much o) s is t l stands in
    let here : AllWithin (takes_so_much o) (cost (takes_so_much o) l) (asked_forms (kind_of q.declared) q.object q.ask) = subst (λ (fs : List Form). AllWithin (takes_so_much o) (cost (takes_so_much o) l) fs) q.forms within in
    let ask = q.served (takes q.ask) (omega arith) in
    in_all (cost (takes_so_much o) l) (takes q.ask) (spent (takes_by o) xs) (taken_in s t o) (calls_cost (takes_so_much o) (body_of s t)) (any_takes q.declared q.object (of l.memory q.object) (takes q.ask) (cost (takes_so_much o) l) q.ask ask here) all (all_calls o (body_of s t))

-- ---- shares

less_below : (a b c : ℕ) → a ≤ b → a ≤ b + c
less_below a b c h = omega (arith, h)

at_most : (m n : ℕ) → n ≤ suc m → nat_le n m ≡ false → n ≡ suc m
at_most m n h e = let k = leb-false n m e in omega (arith, h, k)

below_grows : (s : Scene) (o m n : ℕ) → n ≤ m → taken_below s n o ≤ taken_below s m o
below_grows s o zero n h = let e : n ≡ 0 = omega (arith, h) in rw e (omega arith)
below_grows s o (suc m) n h = go (cases_Bool (nat_le n m)) (λ le. below_grows s o m n le)
  where
    go : ((nat_le n m ≡ true) ⊎ (nat_le n m ≡ false)) → (n ≤ m → taken_below s n o ≤ taken_below s m o) → taken_below s n o ≤ taken_below s (suc m) o
    go (inl e) rest = less_below (taken_below s n o) (taken_below s m o) (taken_in s m o) (rest (leb-true n m e))
    go (inr e) rest = let k : n ≡ suc m = at_most m n h e in rw k (omega arith)

left_sum : (l b c t x : ℕ) → l + b ≡ c + x → b + t ≤ c → (l - t) + (b + t) ≡ c + x
left_sum l b c t x h k = omega (arith, h, k)

before_sum : (b t c : ℕ) → b + t ≤ c → b ≤ c
before_sum b t c h = omega (arith, h)

-- main has what the others have not got
left_is : (s : Scene) (o n : ℕ) → taken_below s (suc n) o ≤ count_at s.objects o → left_with_main s n o + taken_below s (suc n) o ≡ count_at s.objects o + taken_in s 0 o
left_is s o zero h = omega arith
left_is s o (suc n) h = left_sum (left_with_main s n o) (taken_below s (suc n) o) (count_at s.objects o) (taken_in s (suc n) o) (taken_in s 0 o) (left_is s o n (before_sum (taken_below s (suc n) o) (taken_in s (suc n) o) (count_at s.objects o) h)) h

enough : (l b c t x : ℕ) → l + b ≡ c + x → b + t ≤ c → t ≤ l
enough l b c t x h k = omega (arith, h, k)

main_enough : (l b c x : ℕ) → l + b ≡ c + x → b ≤ c → x ≤ l
main_enough l b c x h k = omega (arith, h, k)

le_trans : (a b c : ℕ) → a ≤ b → b ≤ c → a ≤ c
le_trans a b c h k = omega (arith, h, k)

pub shares_are : (s : Scene) (o : ℕ) → IsAskable s → 0 < length s.threads → SharesAre s o
shares_are s o a some = record {
  main =
      let n = length s.threads - 1 in
      let whole : length s.threads ≡ suc n = omega (arith, some) in
      let fits_all : taken_below s (suc n) o ≤ count_at s.objects o = subst (λ (k : ℕ). taken_below s k o ≤ count_at s.objects o) whole (a.latches o) in
      main_enough (left_with_main s n o) (taken_below s (suc n) o) (count_at s.objects o) (taken_in s 0 o) (left_is s o n fits_all) fits_all;
  others = λ t h.
      let fits_these : taken_below s (suc (suc t)) o ≤ count_at s.objects o = le_trans (taken_below s (suc (suc t)) o) (taken_below s (length s.threads) o) (count_at s.objects o) (below_grows s o (length s.threads) (suc (suc t)) h) (a.latches o) in
      let left = left_is s o t (before_sum (taken_below s (suc t) o) (taken_in s (suc t) o) (count_at s.objects o) fits_these) in
      enough (left_with_main s t o) (taken_below s (suc t) o) (count_at s.objects o) (taken_in s (suc t) o) (taken_in s 0 o) left fits_these;
}
