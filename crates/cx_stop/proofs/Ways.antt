-- What a registration comes to.
use Rattle.std.proofs.Common.{◌≡◌, ◌∙◌, ℕ, zero, suc, ◌+◌, ◌<◌, ◌≤◌, ◌^◌, ◌==◌, ◌&&◌, not, Bool, true, false, ℤ, pos, length, Option, Some, None, IsSome, refl, sym, ap, subst, arith, nat_lt, List}
use Rattle.std.proofs.lemmas.Bool.{lt-ltb, and_parts}
use Rattle.cx_names.specs.declared.ThreadNo.{ThreadNo}
use Rattle.cx_names.specs.declared.Reply.{Reply}
use Rattle.cx_names.specs.declared.Reply.TheVariants as replies
use Rattle.cx_machine.specs.declared.kind.Op.TheVariants as ops
use Rattle.cx_machine.specs.declared.kind.Entry.{Entry}
use Rattle.cx_machine.specs.Acts.{at_entry, at_look}
use Rattle.cx_machine.specs.Words.{small_of, when}
use Rattle.cx_machine.specs.Kept.{when_some}
use Rattle.cx_machine.specs.Meaning.{change, look_of, IsShut}
use Rattle.cx_machine.specs.Callbacks.{members, debt}
use Rattle.cx_machine.specs.Stop.{Stop, step, shows, is_requested, is_fresh, can_register, can_register_now, is_never, registered_too, began}
use Rattle.cx_turn.specs.declared.view.View.{View}
use Rattle.cx_turn.specs.Passes.{CanPay}
use Rattle.cx_stop.specs.Kinds.{stopping}
use Rattle.cx_stop.specs.Acts.{act, Found}
use Rattle.cx_stop.proofs.Members.{registered_moves, now_moves, cost_is}
use Rattle.cx_stop.proofs.Open.{small_is}

reg_true : (m : Stop) (n id : ℕ) (r : Reply) → IsSome (step m n ops.Register (Some id) (pos 0) r) → can_register m n id ≡ true
reg_true m n id replies.Ok h = (when_some (can_register m n id) (registered_too m id) h).0
reg_true m n id _ h = cc h

now_true : (m : Stop) (n id : ℕ) (r : Reply) → IsSome (step m n ops.RegisterNow (Some id) (pos 0) r) → can_register_now m n id ≡ true
now_true m n id replies.Ok h = (when_some (can_register_now m n id) (began m n id) h).0
now_true m n id _ h = cc h

pub reg_can : (m : Stop) (by : ThreadNo) (id : ℕ) (a : ℤ) (r : Reply) → a ≡ pos id → id < 2 ^ 32 → IsSome (at_entry step m (change by ops.Register a (pos 0) r)) → can_register m by.0 id ≡ true
reg_can m by id a r e low h = reg_true m by.0 id r (subst (λ (x : Option ℕ). IsSome (step m by.0 ops.Register x (pos 0) r)) (ap small_of e ∙ small_is id low) h)

pub now_can : (m : Stop) (by : ThreadNo) (id : ℕ) (a : ℤ) (r : Reply) → a ≡ pos id → id < 2 ^ 32 → IsSome (at_entry step m (change by ops.RegisterNow a (pos 0) r)) → can_register_now m by.0 id ≡ true
now_can m by id a r e low h = now_true m by.0 id r (subst (λ (x : Option ℕ). IsSome (step m by.0 ops.RegisterNow x (pos 0) r)) (ap small_of e ∙ small_is id low) h)

when_none : {A : Type 0} (b : Bool) (x : A) → ◌≡◌ {A = Option A} (when b x) None → b ≡ false
when_none true x e = cc e
when_none false x e = refl

no_sources : (n : ℕ) → nat_lt 0 n ≡ false → (n == 0) ≡ true
no_sources zero e = refl
no_sources (suc n) e = let f : nat_lt 0 (suc n) ≡ true = lt-ltb 0 (suc n) (omega arith) in absurd (let g : true ≡ false = sym f ∙ e in cc)

never_of : (q l z f : Bool) → (q && f) ≡ false → (not q && l && f) ≡ false → f ≡ true → (l ≡ false → z ≡ true) → (not q && z && f) ≡ true
never_of true l z true a b e g = cc a
never_of false true z true a b e g = cc b
never_of false false z true a b e g = let h = g refl in rw h refl
never_of q l z false a b e g = cc e

pub never_is : (m : Stop) (by : ThreadNo) (id : ℕ) (a b : ℤ) → a ≡ pos id → b ≡ pos id → id < 2 ^ 32 → is_fresh m by.0 id ≡ true → IsShut (at_entry step) m by ops.Register a (pos 0) → IsShut (at_entry step) m by ops.RegisterNow b (pos 0) → is_never m by.0 id ≡ true
never_is m by id a b ea eb low fresh one two =
    let c = when_none (can_register m by.0 id) (registered_too m id) (ap (λ (x : Option ℕ). step m by.0 ops.Register x (pos 0) replies.Ok) (sym (ap small_of ea ∙ small_is id low)) ∙ one replies.Ok) in
    let d = when_none (can_register_now m by.0 id) (began m by.0 id) (ap (λ (x : Option ℕ). step m by.0 ops.RegisterNow x (pos 0) replies.Ok) (sym (ap small_of eb ∙ small_is id low)) ∙ two replies.Ok) in
    never_of (is_requested m) (nat_lt 0 m.sources) (m.sources == 0) (is_fresh m by.0 id) d c fresh (no_sources m.sources)

-- a change that brings in one ID
pub record OpensNew (v : View Stop) (e : Entry) (now : Stop) : Type 0 where
  pub after : Stop
  pub enabled : at_entry step now e ≡ Some after
  pub room : length (members after) ≤ length (members now) + 1
  pub pays : CanPay stopping v e now after

pub open_register : (v : View Stop) (f : List Entry) (now : Stop) (id : ℕ) → id < 2 ^ 32 → Found v f now → 3 ≤ v.left → can_register now v.number id ≡ true → OpensNew v (act v.number ops.Register id replies.Ok) now
open_register v f now id low found may c =
    let m = registered_moves now id in
    let cost = cost_is (debt now) (debt (registered_too now id)) (λ x. (let a = m.1 in omega (arith, x, a))) in
    let a = m.1 in record {
      after = registered_too now id;
      enabled = ap (λ (x : Option ℕ). step now v.number ops.Register x (pos 0) replies.Ok) (small_is id low) ∙ ap (λ b. when b (registered_too now id)) c;
      room = m.0;
      pays = record { paid = omega (arith, cost, a, may); shared = omega arith; has = tt };
    }

pub open_now : (v : View Stop) (f : List Entry) (now : Stop) (id : ℕ) → id < 2 ^ 32 → Found v f now → 3 ≤ v.left → can_register_now now v.number id ≡ true → OpensNew v (act v.number ops.RegisterNow id replies.Ok) now
open_now v f now id low found may c =
    let m = now_moves now v.number id (and_parts (is_requested now) (is_fresh now v.number id) c).1 in
    let cost = cost_is (debt now) (debt (began now v.number id)) (λ x. (let a = m.1 in omega (arith, x, a))) in
    let a = m.1 in record {
      after = began now v.number id;
      enabled = ap (λ (x : Option ℕ). step now v.number ops.RegisterNow x (pos 0) replies.Ok) (small_is id low) ∙ ap (λ b. when b (began now v.number id)) c;
      room = m.0;
      pays = record { paid = omega (arith, cost, a, may); shared = omega arith; has = tt };
    }

pub never_shown : (m : Stop) (n id : ℕ) (a : ℤ) (k : ℕ) → a ≡ pos id → id < 2 ^ 32 → is_never m n id ≡ true → at_look shows m (look_of (record { 0 = n }) ops.Never a (pos 0) replies.Ok k) ≡ true
never_shown m n id a k e low h = ap (λ (x : Option ℕ). shows m n ops.Never x (pos 0) replies.Ok) (ap small_of e ∙ small_is id low) ∙ h
