-- An active execution of a once flag stays active while others act, and what begins and ends one.
use Rattle.std.proofs.Common.{◌≡◌, ◌≢◌, ◌∙◌, ℕ, zero, ℤ, pos, ◌^◌, ◌<◌, Option, Some, None, Bool, true, false, refl, sym, subst, eq-eqb}
use Rattle.std.proofs.lemmas.Bool.{eqb-true}
use Rattle.cx_names.specs.declared.ThreadNo.{ThreadNo}
use Rattle.cx_names.specs.declared.Reply.{Reply}
use Rattle.cx_names.specs.declared.Reply.TheVariants as replies
use Rattle.cx_machine.specs.declared.kind.Entry.{Entry}
use Rattle.cx_machine.specs.declared.kind.Op.{Op}
use Rattle.cx_machine.specs.declared.kind.Op.TheVariants as ops
use Rattle.cx_machine.specs.Acts.{at_entry, at_look}
use Rattle.cx_machine.specs.Kept.{made}
use Rattle.cx_machine.specs.Meaning.{change, look_of, IsShut}
use Rattle.cx_machine.specs.Words.{small_of, when}
use Rattle.cx_machine.specs.Once.{Once, Idle, Active, Done, is_idle, is_active, step, shows}
use Rattle.cx_sync.specs.Onces.{IsRunning}
use Rattle.cx_sync.proofs.Always.{small_is}

-- of one thread at most an execution is active
only_one : (m : Once) (by n : ℕ) → by ≢ n → is_active m by ≡ true → is_active m n ≡ true → ⊥
only_one Idle by n ne c is = cc c
only_one (Active t) by n ne c is = ne (sym (eqb-true t by c) ∙ eqb-true t n is)
only_one Done by n ne c is = cc c

-- and then the flag isn't idle
not_idle : (m : Once) (n : ℕ) → is_idle m ≡ true → is_active m n ≡ true → ⊥
not_idle Idle n c is = cc is
not_idle (Active t) n c is = cc c
not_idle Done n c is = cc c

running_step : (n : ℕ) (m m' : Once) (by : ℕ) (op : Op) (a : Option ℕ) (v : ℤ) (r : Reply) → by ≢ n → IsRunning m n → step m by op a v r ≡ Some m' → IsRunning m' n
running_step n m m' by ops.Begin (Some zero) (pos zero) replies.Ok ne is e = made (λ x. IsRunning x n) (is_idle m) (Active by) m' (λ c. absurd (not_idle m n c is)) e
running_step n m m' by ops.Finish (Some zero) (pos zero) replies.Ok ne is e = made (λ x. IsRunning x n) (is_active m by) Done m' (λ c. absurd (only_one m by n ne c is)) e
running_step n m m' by ops.Fail (Some error) (pos zero) replies.Ok ne is e = made (λ x. IsRunning x n) (is_active m by) Idle m' (λ c. absurd (only_one m by n ne c is)) e
running_step n m m' by _ _ _ _ ne is e = cc e

pub runs_on : (n : ℕ) (m m' : Once) (e : Entry) → e.by.0 ≢ n → IsRunning m n → at_entry step m e ≡ Some m' → IsRunning m' n
runs_on n m m' e ne is on = running_step n m m' e.by.0 e.op (small_of e.a) e.b e.reply ne is on

-- who begins is active, and the replies of the acts
pub begins_so : (now after : Once) (by : ThreadNo) (r : Reply) → at_entry step now (change by ops.Begin (pos 0) (pos 0) r) ≡ Some after → (r ≡ replies.Ok) × IsRunning after by.0
begins_so now after by replies.Ok e = (refl, made (λ x. IsRunning x by.0) (is_idle now) (Active by.0) after (λ c. eq-eqb by.0 by.0 refl) e)
begins_so now after by _ e = cc e

pub passive_so : (now : Once) (by : ThreadNo) (r : Reply) (k : ℕ) → at_look shows now (look_of by ops.Passive (pos 0) (pos 0) r k) ≡ true → r ≡ replies.Ok
passive_so now by replies.Ok k e = refl
passive_so now by _ k e = cc e

pub finishes_so : (now after : Once) (by : ThreadNo) (r : Reply) → at_entry step now (change by ops.Finish (pos 0) (pos 0) r) ≡ Some after → r ≡ replies.Ok
finishes_so now after by replies.Ok e = refl
finishes_so now after by _ e = cc e

failed_so : (now after : Once) (by : ℕ) (a : Option ℕ) (r : Reply) → step now by ops.Fail a (pos 0) r ≡ Some after → r ≡ replies.Ok
failed_so now after by (Some error) replies.Ok e = refl
failed_so now after by _ _ e = cc e

pub fails_so : (now after : Once) (by : ThreadNo) (a : ℤ) (r : Reply) → at_entry step now (change by ops.Fail a (pos 0) r) ≡ Some after → r ≡ replies.Ok
fails_so now after by a r e = failed_so now after by.0 (small_of a) r e

-- who is active can end its execution
ended : {A : Type 0} (b : Bool) (x : A) → b ≡ true → ◌≡◌ {A = Option A} (when b x) None → ⊥
ended true x is e = cc e
ended false x is e = cc is

pub finishes_or_not : (m : Once) (by : ThreadNo) → IsRunning m by.0 → IsShut (at_entry step) m by ops.Finish (pos 0) (pos 0) → ⊥
finishes_or_not m by is shut = ended (is_active m by.0) Done is (shut replies.Ok)

pub fails_or_not : (m : Once) (by : ThreadNo) (a : ℤ) (error : ℕ) → a ≡ pos error → error < 2 ^ 32 → IsRunning m by.0 → IsShut (at_entry step) m by ops.Fail a (pos 0) → ⊥
fails_or_not m by a error e low is shut =
    let shut_so : step m by.0 ops.Fail (Some error) (pos 0) replies.Ok ≡ None = subst (λ (x : Option ℕ). step m by.0 ops.Fail x (pos 0) replies.Ok ≡ None) (small_is a error e low) (shut replies.Ok) in
    ended (is_active m by.0) Idle is shut_so
