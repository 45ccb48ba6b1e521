-- A semaphore's counter is what was there and was released, less what was acquired.
use Rattle.std.proofs.Common.{◌≡◌, ℕ, zero, ◌+◌, ◌-◌, ◌≤◌, ℤ, pos, true, List, Option, Some, refl, subst, arith, ◌∙◌}
use Rattle.std.proofs.lemmas.Bool.{eqb-true, leb-true, ltb-true}
use Rattle.cx_names.specs.declared.Reply.{Reply}
use Rattle.cx_names.specs.declared.Reply.TheVariants as replies
use Rattle.cx_machine.specs.declared.kind.Kind.TheVariants as kinds
use Rattle.cx_machine.specs.declared.kind.Entry.{Entry}
use Rattle.cx_machine.specs.declared.kind.Look.{Look}
use Rattle.cx_machine.specs.declared.kind.Op.{Op}
use Rattle.cx_machine.specs.declared.kind.Op.TheVariants as ops
use Rattle.cx_machine.specs.Acts.{at_entry}
use Rattle.cx_machine.specs.Kept.{made}
use Rattle.cx_machine.specs.Meaning.{run, bit}
use Rattle.cx_machine.specs.Words.{small_of}
use Rattle.cx_machine.specs.Machine.{State, IsLegal, Semaphore as ASemaphore}
use Rattle.cx_machine.specs.Machine as machine
use Rattle.cx_machine.specs.Semaphore.{Semaphore, opening, can_release, released, can_acquire, acquired, step, shows}
use Rattle.cx_laws.specs.History.{IsShownAfter, amount, amount_of}
use Rattle.cx_laws.specs.Semaphore.{is_acquire, is_release, released as all_released, acquired as all_acquired}
use Rattle.cx_laws.proofs.Along.{balanced, reaches, reaches_at}

abbrev Kept : ℕ → Semaphore → Type 0
Kept max s = (s.max ≡ max) × (s.counter ≤ s.max)

abbrev Counts : Semaphore → Op → Option ℕ → Semaphore → Type 0
Counts s op a t = (s.counter + amount (is_release op) a ≡ bit (is_acquire op) + t.counter) × (t.max ≡ s.max) × (s.counter ≤ s.max → t.counter ≤ t.max)

less : (s : Semaphore) → can_acquire s ≡ true → (s.counter + 0 ≡ 1 + (s.counter - 1)) × (s.max ≡ s.max) × (s.counter ≤ s.max → s.counter - 1 ≤ s.max)
less s c = let l = ltb-true 0 s.counter c in (omega (arith, l), refl, λ h. omega (arith, h))

one : (s t : Semaphore) (by : ℕ) (op : Op) (a : Option ℕ) (b : ℤ) (r : Reply) → step s by op a b r ≡ Some t → Counts s op a t
one s t by ops.Release (Some n) (pos zero) replies.Ok e = made (Counts s ops.Release (Some n)) (can_release s n) (released s n) t (λ c. (omega arith, refl, λ h. leb-true (s.counter + n) s.max c)) e
one s t by ops.Acquire (Some zero) (pos zero) replies.Ok e = made (Counts s ops.Acquire (Some zero)) (can_acquire s) (acquired s) t (less s) e
one s t by ops.TryAcquire (Some zero) (pos zero) replies.True e = made (Counts s ops.TryAcquire (Some zero)) (can_acquire s) (acquired s) t (less s) e
one s t by _ _ _ _ e = cc e

counted : (desired max : ℕ) (h : List Entry) (t : Semaphore) → run (at_entry step) (Some (opening desired max)) h ≡ Some t → desired + all_released h ≡ all_acquired h + t.counter
counted desired max h t is = (balanced (at_entry step) (λ s. Unit {0}) (λ s. s.counter) (λ e. amount_of (is_release e.op) e) (λ e. bit (is_acquire e.op)) (λ s u e _ on. (tt, (one s u e.by.0 e.op (small_of e.a) e.b e.reply on).0)) h (opening desired max) t tt is).1

kept : (desired max : ℕ) (h : List Entry) (t : Semaphore) → desired ≤ max → run (at_entry step) (Some (opening desired max)) h ≡ Some t → Kept max t
kept desired max h t le is = (balanced (at_entry step) (Kept max) (λ s. 0) (λ e. 0) (λ e. 0) (λ s u e k on. (let o = one s u e.by.0 e.op (small_of e.a) e.b e.reply on in (o.1 ∙ k.0, o.2 k.1), omega arith)) h (opening desired max) t (refl, le) is).0

legal : (desired max : ℕ) (h : List Entry) → IsLegal (kinds.Semaphore desired max) h → (t : Semaphore) × (run (at_entry step) (Some (opening desired max)) h ≡ Some t)
legal desired max h is = reaches ASemaphore (at_entry step) (λ m e. refl) h (opening desired max) is

pub counter_is_there : (desired max : ℕ) (h : List Entry) → IsLegal (kinds.Semaphore desired max) h → all_acquired h ≤ desired + all_released h
counter_is_there desired max h is =
    let t = legal desired max h is in
    let c = counted desired max h t.0 t.1 in
    omega (arith, c)

pub counter_is_within_max : (desired max : ℕ) (h : List Entry) → desired ≤ max → IsLegal (kinds.Semaphore desired max) h → desired + all_released h ≤ max + all_acquired h
counter_is_within_max desired max h le is =
    let t = legal desired max h is in
    let c = counted desired max h t.0 t.1 in
    let k = kept desired max h t.0 le t.1 in
    let same = k.0 in
    let most = k.1 in
    omega (arith, c, same, most)

failing : (s : Semaphore) (by : ℕ) (op : Op) (a : Option ℕ) (b : ℤ) (r : Reply) → is_acquire op ≡ true → shows s by op a b r ≡ true → s.counter ≡ 0
failing s by ops.TryAcquire (Some zero) (pos zero) replies.False w e = eqb-true s.counter 0 e
failing s by ops.Release (Some n) (pos zero) replies.Over w e = cc w
failing s by _ _ _ _ w e = cc e

pub fails_at_zero : (desired max : ℕ) (h : List Entry) (l : Look) → IsShownAfter (kinds.Semaphore desired max) h l → is_acquire l.op ≡ true → all_acquired h ≡ desired + all_released h
fails_at_zero desired max h l is w =
    let t = reaches_at ASemaphore (at_entry step) (λ m e. refl) h (opening desired max) is.0 is.1 in
    let c = counted desired max h t.0 t.1 in
    let shown : machine.shows (ASemaphore t.0) l ≡ true = subst (λ s. machine.shows s l ≡ true) t.2 is.2 in
    let z = failing t.0 l.by.0 l.op (small_of l.a) l.b l.reply w shown in
    omega (arith, c, z)
