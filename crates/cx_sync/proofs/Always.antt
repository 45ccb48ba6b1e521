-- A state always allows one of the two.
use Rattle.std.proofs.Common.{◌≡◌, ◌∙◌, ℕ, ℤ, pos, ◌^◌, ◌<◌, Option, Some, None, Bool, true, false, not, ap, subst, if◌then◌else◌, nat_lt, ◌==◌, zero, suc, arith}
use Rattle.std.proofs.lemmas.Bool.{lt-ltb}
use Rattle.cx_names.specs.declared.ThreadNo.{ThreadNo}
use Rattle.cx_names.specs.declared.Reply.TheVariants as replies
use Rattle.cx_machine.specs.declared.kind.Op.TheVariants as ops
use Rattle.cx_machine.specs.Acts.{at_entry, at_look}
use Rattle.cx_machine.specs.Meaning.{IsShut, ShowsNone}
use Rattle.cx_machine.specs.Words.{small_of, when}
use Rattle.cx_machine.specs.Semaphore as semaphore
use Rattle.cx_machine.specs.Latch as latch

never_both : {A : Type 0} (b : Bool) (x : A) → ◌≡◌ {A = Option A} (when b x) None → not b ≡ false → ⊥
never_both true x e f = cc
never_both false x e f = cc

pub small_is : (n : ℤ) (k : ℕ) → n ≡ pos k → k < 2 ^ 32 → small_of n ≡ Some k
small_is n k e low = ap small_of e ∙ ap (λ (b : Bool). if b then Some k else None) (lt-ltb k (2 ^ 32) low)

pub releases_or_not : (s : semaphore.Semaphore) (by : ThreadNo) (n : ℤ) (k : ℕ) → n ≡ pos k → k < 2 ^ 32 → IsShut (at_entry semaphore.step) s by ops.Release n (pos 0) → ShowsNone (at_look semaphore.shows) s by ops.Release n (pos 0) → ⊥
releases_or_not s by n k e low shut dark =
    let small = small_is n k e low in
    let a : semaphore.step s by.0 ops.Release (Some k) (pos 0) replies.Ok ≡ None = subst (λ (x : Option ℕ). semaphore.step s by.0 ops.Release x (pos 0) replies.Ok ≡ None) small (shut replies.Ok) in
    let b : semaphore.shows s by.0 ops.Release (Some k) (pos 0) replies.Over ≡ false = subst (λ (x : Option ℕ). semaphore.shows s by.0 ops.Release x (pos 0) replies.Over ≡ false) small (dark replies.Over 0) in
    never_both (semaphore.can_release s k) (semaphore.released s k) a b

pub acquires_or_not : (s : semaphore.Semaphore) (by : ThreadNo) → IsShut (at_entry semaphore.step) s by ops.TryAcquire (pos 0) (pos 0) → ShowsNone (at_look semaphore.shows) s by ops.TryAcquire (pos 0) (pos 0) → ⊥
acquires_or_not s by shut dark =
    let a : when (semaphore.can_acquire s) (semaphore.acquired s) ≡ None = shut replies.True in
    let b : (s.counter == 0) ≡ false = dark replies.False 0 in
    counts s.counter (semaphore.acquired s) a b
  where
    counts : {A : Type 0} (n : ℕ) (x : A) → ◌≡◌ {A = Option A} (when (nat_lt 0 n) x) None → (n == 0) ≡ false → ⊥
    counts zero x e f = cc
    counts {A} (suc n) x e f = let some : nat_lt 0 (suc n) ≡ true = lt-ltb 0 (suc n) (omega arith) in let g : ◌≡◌ {A = Option A} (Some x) None = subst (λ b. ◌≡◌ {A = Option A} (when b x) None) some e in cc

pub waits_or_not : (l : latch.Latch) (by : ThreadNo) → ShowsNone (at_look latch.shows) l by ops.TryWait (pos 0) (pos 0) → ⊥
waits_or_not l by dark =
    let a : (l.counter == 0) ≡ false = dark replies.True 0 in
    let b : not (l.counter == 0) ≡ false = dark replies.False 0 in
    both (l.counter == 0) a b
  where
    both : (b : Bool) → b ≡ false → not b ≡ false → ⊥
    both true e f = cc
    both false e f = cc
