-- Which changes a state enables, what they bring in and what they cost.
use Rattle.std.proofs.Common.{◌≡◌, ◌∙◌, ℕ, ◌+◌, ◌-◌, ◌<◌, ◌≤◌, ◌^◌, ◌==◌, not, Bool, true, false, pos, List, [], ◌∷◌, length, Option, Some, None, IsSome, is_some, refl, sym, ap, subst, arith, nat_lt, eq-eqb, slice_get, if◌then◌else◌, ◌⊎◌, inl, inr}
use Rattle.std.proofs.lemmas.Bool.{lt-ltb}
use Rattle.cx_names.specs.declared.Reply.TheVariants as replies
use Rattle.cx_names.specs.declared.Reply.{Reply}
use Rattle.cx_machine.specs.declared.kind.Op.TheVariants as ops
use Rattle.cx_machine.specs.declared.kind.Entry.{Entry}
use Rattle.cx_names.specs.declared.ThreadNo.{ThreadNo}
use Rattle.cx_machine.specs.Meaning.{IsShut}
use Rattle.cx_machine.specs.Acts.{at_entry}
use Rattle.cx_machine.specs.Words.{is_thread, has, small_of, when}
use Rattle.cx_machine.specs.Callbacks.{members, debt, taken_back}
use Rattle.cx_machine.specs.Stop.{Stop, step, requested, is_requested, is_drained, runs, began, finished, with_another, without_one}
use Rattle.cx_turn.specs.declared.view.View.{View}
use Rattle.cx_turn.specs.Passes.{CanPay}
use Rattle.cx_turn.specs.Views.{Has}
use Rattle.cx_turn.proofs.Histories.{some_is}
use Rattle.cx_stop.specs.Kinds.{stopping}
use Rattle.cx_stop.specs.Acts.{act, Found, IsOpen}
use Rattle.cx_stop.proofs.Members.{began_moves, finished_moves, cost_paid, cost_one, back_moves}

pub small_is : (k : ℕ) → k < 2 ^ 32 → small_of (pos k) ≡ Some k
small_is k low = ap (λ (b : Bool). if b then Some k else None) (lt-ltb k (2 ^ 32) low)

some_there : {A : Type 0} (o : Option A) (x : A) → o ≡ Some x → IsSome o
some_there o x e = subst IsSome (sym e) refl

module _ (v : View Stop) (e : Entry) (now : Stop) (o : IsOpen v e now) where
  pub open_some : IsSome (at_entry step now e)
  open_some = some_there (at_entry step now e) o.after o.enabled

  pub open_room : (spare : ℕ) (after : Stop) → at_entry step now e ≡ Some after → length (members after) ≤ length (members now) + spare
  open_room spare after is = let same : o.after ≡ after = some_is o.after after (sym o.enabled ∙ is) in let l = ap (λ (s : Stop). length (members s)) same in let r = o.room in omega (arith, l, r)

  pub open_pays : (after : Stop) → at_entry step now e ≡ Some after → CanPay stopping v e now after
  open_pays after is = subst (λ (s : Stop). CanPay stopping v e now s) (some_is o.after after (sym o.enabled ∙ is)) o.pays

-- ---- begin and finish

pub first_has : (ms : List ℕ) (id : ℕ) → slice_get ms 0 ≡ Some id → has ms id ≡ true
first_has [] id e = cc e
first_has (m ∷ ms) id e = let same : m ≡ id = some_is m id e in rw (eq-eqb m id same) refl

pub first_none : (ms : List ℕ) → slice_get ms 0 ≡ None → (length ms == 0) ≡ true
first_none [] e = refl
first_none (m ∷ ms) e = cc e

pub thread_some : (o : Option ℕ) (n : ℕ) → is_thread o n ≡ true → is_some o ≡ true
thread_some None n h = cc h
thread_some (Some t) n h = refl

-- who made the request, where nothing is registered
pub drained : (m : Stop) (n : ℕ) → is_thread m.requester n ≡ true → slice_get m.registered 0 ≡ None → is_drained m ≡ true
drained m n h e = let a = thread_some m.requester n h in let b = first_none m.registered e in rw (a, b) refl

pub open_begin : (v : View Stop) (f : List Entry) (now : Stop) (id : ℕ) → id < 2 ^ 32 → Found v f now → is_thread now.requester v.number ≡ true → has now.registered id ≡ true → IsOpen v (act v.number ops.Begin id replies.Ok) now
open_begin v f now id low found r h =
    let m = began_moves now v.number id found.once h in
    let cost = cost_paid (debt now) (debt (began now v.number id)) m.1 in record {
      after = began now v.number id;
      enabled = ap (λ (x : Option ℕ). step now v.number ops.Begin x (pos 0) replies.Ok) (small_is id low) ∙ (rw (r, h) refl);
      room = m.0;
      pays = record { paid = omega (arith, cost); shared = omega arith; has = tt };
    }

pub open_finish : (v : View Stop) (f : List Entry) (now : Stop) (id : ℕ) → id < 2 ^ 32 → Found v f now → runs now.running v.number id ≡ true → IsOpen v (act v.number ops.Finish id replies.Ok) now
open_finish v f now id low found h =
    let m = finished_moves now v.number id found.once h in
    let cost = cost_paid (debt now) (debt (finished now v.number id)) m.1 in record {
      after = finished now v.number id;
      enabled = ap (λ (x : Option ℕ). step now v.number ops.Finish x (pos 0) replies.Ok) (small_is id low) ∙ (rw h refl);
      room = m.0;
      pays = record { paid = omega (arith, cost); shared = omega arith; has = tt };
    }

-- ---- sources

pub open_another : (v : View Stop) (f : List Entry) (now : Stop) → Found v f now → 1 ≤ v.share → 1 ≤ v.left → now.sources < 2 ^ 32 - 1 → IsOpen v (act v.number ops.Another 0 replies.Ok) now
open_another v f now found some may few =
    let a : nat_lt 0 now.sources ≡ true = lt-ltb 0 now.sources (let s = found.share in omega (arith, s, some)) in
    let b : nat_lt now.sources (2 ^ 32 - 1) ≡ true = lt-ltb now.sources (2 ^ 32 - 1) few in
    let cost = cost_one (debt now) (debt now) (omega arith) (λ e. omega (arith, e)) in record {
      after = with_another now;
      enabled = rw (a, b) refl;
      room = omega arith;
      pays = record { paid = omega (arith, cost, may); shared = omega arith; has = tt };
    }

pub open_drop : (v : View Stop) (f : List Entry) (now : Stop) → Found v f now → 1 ≤ v.share → 1 ≤ v.left → IsOpen v (act v.number ops.Drop 0 replies.Ok) now
open_drop v f now found some may =
    let s = found.share in
    let a : nat_lt 0 now.sources ≡ true = lt-ltb 0 now.sources (omega (arith, s, some)) in
    let cost = cost_one (debt now) (debt now) (omega arith) (λ e. omega (arith, e)) in record {
      after = without_one now;
      enabled = rw a refl;
      room = omega arith;
      pays = record { paid = omega (arith, cost, may); shared = omega (arith, some); has = tt };
    }

-- ---- the request

not_both : {A : Type 0} (b : Bool) (x : A) → ◌≡◌ {A = Option A} (when (not b) x) None → b ≡ true
not_both true x e = refl
not_both false x e = cc e

-- where no request can be made, one was made
pub requested_else : (m : Stop) (by : ThreadNo) → IsShut (at_entry step) m by ops.Request (pos 0) (pos 0) → is_requested m ≡ true
requested_else m by shut = not_both (is_requested m) (requested m by.0) (shut replies.Ok)

-- ---- deregistration

taken_has : (v : View Stop) (o o' : Option ℕ) → o ≡ o' → Has v.holds o' → Has v.holds o
taken_has v o o' e h = subst (λ (x : Option ℕ). Has v.holds x) (sym e) h

pub open_back : (v : View Stop) (f : List Entry) (now : Stop) (id : ℕ) (r : Reply) (after : Stop) → id < 2 ^ 32 → Found v f now → 1 ≤ v.left → Has v.holds (Some id) → at_entry step now (act v.number ops.Deregister id r) ≡ Some after → IsOpen v (act v.number ops.Deregister id r) now
open_back v f now id r after low found may has_it is =
    let e : step now v.number ops.Deregister (Some id) (pos 0) r ≡ Some after = ap (λ (x : Option ℕ). step now v.number ops.Deregister x (pos 0) r) (sym (small_is id low)) ∙ is in
    let b = back_moves now v.number id r after found.once e in
    let cost = cost_one (debt now) (debt after) b.debts b.more in
    let s = b.sources in record {
      after = after;
      enabled = is;
      room = b.room;
      pays = record { paid = omega (arith, cost, may); shared = omega (arith, s); has = taken_has v (taken_back ops.Deregister (small_of (pos id))) (Some id) (small_is id low) has_it };
    }

-- a deregistration has one of three replies
pub back_reply : (m : Stop) (by : ℕ) (o : Option ℕ) (r : Reply) → IsSome (step m by ops.Deregister o (pos 0) r) → (r ≡ replies.Removed) ⊎ ((r ≡ replies.Ran) ⊎ (r ≡ replies.Inside))
back_reply m by o replies.Removed h = inl refl
back_reply m by o replies.Ran h = inr (inl refl)
back_reply m by o replies.Inside h = inr (inr refl)
back_reply m by None _ h = cc h
back_reply m by (Some id) _ h = cc h
