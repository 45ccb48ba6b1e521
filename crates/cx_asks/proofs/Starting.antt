-- A thread that may be started was not started before.
use Rattle.std.proofs.Common.{◌≡◌, ℕ, ◌+◌, ◌*◌, ◌≤◌, ◌==◌, ◌||◌, Bool, true, false, List, [], ◌∷◌, map, Option, Some, None, refl, sym, ap, subst, arith, eq-eqb}
use Rattle.cx_names.specs.declared.ThreadNo.{ThreadNo}
use Rattle.cx_names.specs.declared.ObjectNo.{ObjectNo}
use Rattle.cx_names.specs.declared.Reply.{Reply}
use Rattle.cx_names.specs.declared.Reply.TheVariants as replies
use Rattle.cx_machine.specs.declared.kind.Op.TheVariants as ops
use Rattle.cx_machine.specs.Meaning.{bit}
use Rattle.cx_scene.specs.declared.declared.Small.{Small}
use Rattle.cx_scene.specs.declared.declared.Small.TheVariants as smalls
use Rattle.cx_scene.specs.declared.call.Call.{Call}
use Rattle.cx_scene.specs.declared.call.Call.TheVariants as calls
use Rattle.cx_scene.specs.Scene.{Scene, body_of}
use Rattle.cx_items.specs.declared.item.Item.{Item}
use Rattle.cx_items.specs.declared.item.Item.TheVariants as items
use Rattle.cx_items.specs.declared.item.Control.{Control}
use Rattle.cx_items.specs.declared.item.Control.TheVariants as controls
use Rattle.cx_items.specs.declared.form.Form.{Form}
use Rattle.cx_items.specs.declared.form.Form.TheVariants.{Change, Look, Does, Says}
use Rattle.cx_items.specs.Form.{change, fits}
use Rattle.cx_items.specs.Memory.{Memory}
use Rattle.cx_items.specs.Calls.{refusal, tasks, opened}
use Rattle.cx_items.specs.Next.{Local, offered, settled_local, local_at_start}
use Rattle.cx_items.specs.Steps.{form_of}
use Rattle.cx_history.specs.Follows.{starts, any_starts, after_items}
use Rattle.cx_asks.specs.Scenes.{starts_of, startings, is_completion_now, is_fit, IsAskable}
use Rattle.cx_asks.specs.Spent.{starts_by, spent}
use Rattle.cx_asks.proofs.Forms.{is_begin, IsAlike, form_of_item, form_turns}
use Rattle.cx_asks.proofs.Offering.{stands_first, stands_after}
use Rattle.cx_asks.proofs.Weighing.{Measure, Spends, IsMeasure, locks_cost, agenda_cost, small_cost, calls_cost, cost, AllWithin, settled_within, spent_in_all}
use Rattle.cx_asks.proofs.Ending.{ends_cost, gives_nothing}

module _ (u : ℕ) where
  abbrev pub form_starts : Form → ℕ
  form_starts (Does c) = bit (starts u (items.Control c))
  form_starts _ = 0

  abbrev pub starts_so_often : Measure
  starts_so_often = record { form = form_starts; item = starts_by u; later = λ ks. 0; turn = 0; completion = 0; call = starts_of u }

  same_starts : (n m : ℕ) → n ≡ m → n + 0 ≤ m
  same_starts n m h = omega (arith, h)

  alike_starts : (f : Form) (x : Item) → is_begin f ≡ false → IsAlike f x → starts_by u x ≡ form_starts f
  alike_starts (Change q op a b w) (items.Change p n e) h k = refl
  alike_starts (Look q op a b w) (items.Look p l) h k = refl
  alike_starts (Does c) (items.Control d) h k = ap (λ (y : Control). bit (starts u (items.Control y))) (sym k)
  alike_starts (Says r) (items.Said r') h k = refl
  alike_starts _ _ h k = absurd k

  spends_starts : (s : Scene) (f : Form) (x : Item) (r : Reply) → is_begin f ≡ false → fits s f x ≡ Some r → Spends starts_so_often s f x
  spends_starts s f x r plain h =
      let k = form_of_item s f x r plain h in
      record { more = 0; item = same_starts (starts_by u x) (form_starts f) (alike_starts f x plain k.alike); kept = λ m. omega arith; turns = form_turns s f }

  no_locks : (os : List ℕ) → locks_cost starts_so_often os ≡ 0
  no_locks [] = refl
  no_locks (n ∷ os) = sum_none (locks_cost starts_so_often os) (no_locks os)
    where
      sum_none : (c : ℕ) → c ≡ 0 → (0 + 0) + c ≡ 0
      sum_none c h = omega (arith, h)

  locks_later : (a l : ℕ) → a ≡ 0 → a + l ≤ 0 + l
  locks_later a l h = omega (arith, h)

  tries_later : (a l : ℕ) → a ≡ 0 → (0 + a) + l ≤ 0 + l
  tries_later a l h = omega (arith, h)

  later_alone : (c l : ℕ) → 0 + l ≤ c + l
  later_alone c l = omega arith

  waits_later : (l : ℕ) → (0 + 0) + ((0 + 0) + l) ≤ 0 + l
  waits_later l = omega arith

  starts_later : (a l : ℕ) → (a + (0 + 0)) + l ≤ a + l
  starts_later a l = omega arith

  opens_tasks : (s : Scene) (t n : ℕ) (m : Memory) (c : Call) (later : ℕ) → is_fit s t c ≡ true → agenda_cost starts_so_often later (tasks s t n m c) ≤ starts_of u c + later
  opens_tasks s t n m (calls.Lock q) later h = later_alone 0 later
  opens_tasks s t n m (calls.LockRecursive q) later h = later_alone 0 later
  opens_tasks s t n m (calls.TryLock q) later h = later_alone 0 later
  opens_tasks s t n m (calls.TryLockRecursive q) later h = later_alone 0 later
  opens_tasks s t n m (calls.Unlock q) later h = later_alone 0 later
  opens_tasks s t n m (calls.LockShared q) later h = later_alone 0 later
  opens_tasks s t n m (calls.TryLockShared q) later h = later_alone 0 later
  opens_tasks s t n m (calls.UnlockShared q) later h = later_alone 0 later
  opens_tasks s t n m (calls.LockAll os) later h = locks_later (locks_cost starts_so_often os) later (no_locks os)
  opens_tasks s t n m (calls.TryLockAll os) later h = tries_later (locks_cost starts_so_often os) later (no_locks os)
  opens_tasks s t n m (calls.Release q k) later h = later_alone 0 later
  opens_tasks s t n m (calls.Acquire q) later h = later_alone 0 later
  opens_tasks s t n m (calls.TryAcquire q) later h = later_alone 0 later
  opens_tasks s t n m (calls.CountDown l k) later h = later_alone 0 later
  opens_tasks s t n m (calls.WaitLatch l) later h = later_alone 0 later
  opens_tasks s t n m (calls.TryWait l) later h = later_alone 0 later
  opens_tasks s t n m (calls.ArriveAndWaitLatch l) later h = waits_later later
  opens_tasks s t n m (calls.Arrive b k) later h = later_alone 0 later
  opens_tasks s t n m (calls.WaitBarrier b) later h = later_alone 0 later
  opens_tasks s t n m (calls.ArriveAndWait b) later h = later_alone 0 later
  opens_tasks s t n m (calls.ArriveAndDrop b) later h = later_alone 0 later
  opens_tasks s t n m (calls.CallOnceReturn q) later h = later_alone 0 later
  opens_tasks s t n m (calls.CallOnceThrow q e) later h = later_alone 0 later
  opens_tasks s t n m (calls.Start v) later h = starts_later (bit (v.0 == u)) later
  opens_tasks s t n m (calls.Join v) later h = later_alone 0 later
  opens_tasks s t n m _ later h = cc

  opens_starts : (s : Scene) (t n : ℕ) (m : Memory) (c : Call) (later : ℕ) → is_fit s t c ≡ true → agenda_cost starts_so_often later (opened s t n m c) ≤ starts_of u c + later
  opens_starts s t n m c later h = go (refusal s m c) refl
    where
      go : (r : Option Reply) → refusal s m c ≡ r → agenda_cost starts_so_often later (opened s t n m c) ≤ starts_of u c + later
      go None e = rw e (opens_tasks s t n m c later h)
      go (Some r) e = rw e (later_alone (starts_of u c) later)

  -- a completion starts nothing
  completes_free : (b : ObjectNo) (x : Option Small) → is_completion_now x ≡ true → small_cost starts_so_often x + form_starts (change b ops.Complete 0 replies.Ok) ≤ 0
  completes_free b None now = omega arith
  completes_free b (Some (smalls.Release q n)) now = omega arith
  completes_free b _ now = cc

  none_or_less : (n : ℕ) → n ≡ 0 → n ≤ 0
  none_or_less n h = omega (arith, h)

  pub starts_measure : (s : Scene) → IsAskable s → IsMeasure starts_so_often s
  starts_measure s a = record {
    spends = spends_starts s;
    locks = λ q. omega arith;
    looks = λ q op a b wanted. refl;
    completes = completes_free;
    alike = λ m m' k. omega arith;
    says = λ r. refl;
    turn = λ os once. none_or_less (locks_cost starts_so_often os) (no_locks os);
    opens = opens_starts s;
    ends = λ t m later k. ends_cost starts_so_often later s t m (λ i. 0) a k (λ i. gives_nothing starts_so_often m i refl refl);
  }

  pub all_calls : (cs : List Call) → calls_cost starts_so_often cs ≡ startings u cs
  all_calls [] = refl
  all_calls (c ∷ cs) = ap (λ (n : ℕ). starts_of u c + n) (all_calls cs)

  none_started : (xs : List Item) → spent (starts_by u) xs ≡ 0 → any_starts u xs ≡ false
  none_started [] h = refl
  none_started (x ∷ xs) h = go (starts u x) h (none_started xs)
    where
      go : (b : Bool) → bit b + spent (starts_by u) xs ≡ 0 → (spent (starts_by u) xs ≡ 0 → any_starts u xs ≡ false) → (b || any_starts u xs) ≡ false
      go true k then_ = absurd (let no : ⊥ = omega (arith, k) in no)
      go false k then_ = then_ (let z : spent (starts_by u) xs ≡ 0 = omega (arith, k) in z)

-- main's calls start a thread once at most, and so do its items so far
pub started_once : (s : Scene) (completes : ℕ → ℕ → Bool) (u : ℕ) (xs : List Item) (l : Local) → IsAskable s → after_items s completes 0 (local_at_start s 0) xs ≡ Some l → cost (starts_so_often u) l + spent (starts_by u) xs ≤ 1
started_once s completes u xs l a h =
    let all = spent_in_all (starts_so_often u) s (starts_measure u s a) completes 0 l xs a h in
    let calls_ : calls_cost (starts_so_often u) (body_of s 0) ≡ startings u (body_of s 0) = all_calls u (body_of s 0) in
    let once = a.started u in
    at_most_one (cost (starts_so_often u) l) (spent (starts_by u) xs) (calls_cost (starts_so_often u) (body_of s 0)) (startings u (body_of s 0)) all calls_ once
  where
    at_most_one : (c sp cs st : ℕ) → c + sp ≤ 0 + (0 * 16384 + cs) → cs ≡ st → st ≤ 1 → c + sp ≤ 1
    at_most_one c sp cs st h e k = omega (arith, h, e, k)

none_before : (c f sp : ℕ) → f ≡ 1 → f ≤ c → c + sp ≤ 1 → sp ≡ 0
none_before c f sp h e k = omega (arith, h, e, k)

pub starts_once_now : (s : Scene) (completes : ℕ → ℕ → Bool) (xs : List Item) (l : Local) (u : ThreadNo) (fs : List Form) → IsAskable s → after_items s completes 0 (local_at_start s 0) xs ≡ Some l → map form_of (offered s 0 (settled_local l)) ≡ Does (controls.Start u true) ∷ fs → any_starts u.0 xs ≡ false
starts_once_now s completes xs l u fs a h e =
    let w = starts_so_often u.0 in
    let stands = stands_after s completes 0 (local_at_start s 0) l xs a (stands_first s 0 a) h in
    let within = settled_within w s (starts_measure u.0 s a) 0 l stands in
    let here : AllWithin w (cost w l) (Does (controls.Start u true) ∷ fs) = subst (λ (gs : List Form). AllWithin w (cost w l) gs) e within in
    let one : bit (u.0 == u.0) ≡ 1 = bit_one u.0 in
    none_started u.0 xs (none_before (cost w l) (bit (u.0 == u.0)) (spent (starts_by u.0) xs) one here.0 (started_once s completes u.0 xs l a h))
  where
    bit_one : (n : ℕ) → bit (n == n) ≡ 1
    bit_one n = let k : (n == n) ≡ true = eq-eqb n n refl in rw k refl
