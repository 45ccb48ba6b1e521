-- Whether an execution of a thread is active: it stays so while others act, and what begins and ends one tells it.
use Rattle.std.proofs.Common.{◌≡◌, ◌≢◌, ◌∙◌, ℕ, zero, ℤ, pos, Bool, true, false, [], Option, Some, None, MatchOption, is_some, refl, sym, ap, subst, ne_eqb}
use Rattle.std.proofs.lemmas.Bool.{eqb-true}
use mathlib.Core.List.{IsPrefix}
use Rattle.cx_names.specs.declared.ThreadNo.{ThreadNo}
use Rattle.cx_names.specs.declared.Reply.{Reply}
use Rattle.cx_names.specs.declared.Reply.TheVariants as replies
use Rattle.cx_machine.specs.declared.kind.Entry.{Entry}
use Rattle.cx_machine.specs.declared.kind.Op.{Op}
use Rattle.cx_machine.specs.declared.kind.Op.TheVariants as ops
use Rattle.cx_machine.specs.Kept.{made}
use Rattle.cx_machine.specs.Meaning.{run, change, look_of}
use Rattle.cx_machine.specs.Words.{small_of}
use Rattle.cx_machine.specs.Once.{Once, Idle, Active, Done, is_idle, is_active, is_done, step}
use Rattle.cx_machine.proofs.Owners.{kept_by}
use Rattle.cx_turn.specs.declared.view.View.{View}
use Rattle.cx_turn.specs.declared.pass.Pass.{Pass}
use Rattle.cx_turn.specs.Positions.{positions}
use Rattle.cx_turn.specs.Acts.{Makes, Looks}
use Rattle.cx_turn.proofs.Histories.{head_is, some_is}
use Rattle.cx_cell.specs.Seen.{At}
use Rattle.cx_cell.proofs.Lasting.{none_own, lasts, so_after}
use Rattle.cx_sync.specs.Kinds.{executing}
use Rattle.cx_sync.specs.Onces.{IsOncePassWith, IsActive, OnceMakes, OnceLooks}
use Rattle.cx_sync.specs.declared.once.OnceFlag.{OnceFlag}
use Rattle.cx_sync.specs.declared.once.Active.{Active as Execution}
use Rattle.cx_sync.proofs.Running.{begins_so}
use Rattle.cx_kinds.specs.Sights.{IsOfSame}
use Rattle.cx_kinds.specs.Tokens.{Running, IsOnceToken}
use Rattle.cx_kinds.proofs.Holding.{same_thread}

-- where the execution of another is active, none of this thread is
other_active : (o : Once) (by n : ℕ) → by ≢ n → is_active o by ≡ true → is_active o n ≡ false
other_active Idle by n ne e = refl
other_active (Active t) by n ne e = let same : t ≡ by = eqb-true t by e in ne_eqb t n (λ f. ne (sym same ∙ f))
other_active Done by n ne e = refl

-- nor where none is, or one has returned
none_idle : (o : Once) (n : ℕ) → is_idle o ≡ true → is_active o n ≡ false
none_idle Idle n e = refl
none_idle (Active t) n e = cc e
none_idle Done n e = refl

none_done : (o : Once) (n : ℕ) → is_done o ≡ true → is_active o n ≡ false
none_done Idle n e = refl
none_done (Active t) n e = cc e
none_done Done n e = refl

running_step : (due : Bool) (n : ℕ) (o o' : Once) (by : ℕ) (op : Op) (a : Option ℕ) (x : ℤ) (r : Reply) → by ≢ n → Running due o n → step o by op a x r ≡ Some o' → Running due o' n
running_step due n o o' by ops.Begin (Some zero) (pos zero) replies.Ok ne is e = made (λ s. Running due s n) (is_idle o) (Active by) o' (λ c. ne_eqb by n ne ∙ (sym (none_idle o n c) ∙ is)) e
running_step due n o o' by ops.Finish (Some zero) (pos zero) replies.Ok ne is e = made (λ s. Running due s n) (is_active o by) Done o' (λ c. sym (other_active o by n ne c) ∙ is) e
running_step due n o o' by ops.Fail (Some error) (pos zero) replies.Ok ne is e = made (λ s. Running due s n) (is_active o by) Idle o' (λ c. sym (other_active o by n ne c) ∙ is) e
running_step due n o o' by _ _ _ _ ne is e = cc e

-- who ends its execution has none
finished_none : (now after : Once) (by : ThreadNo) → executing.step now (change by ops.Finish (pos 0) (pos 0) replies.Ok) ≡ Some after → is_active after by.0 ≡ false
finished_none now after by e = made (λ s. is_active s by.0 ≡ false) (is_active now by.0) Done after (λ c. refl) e

failed_step : (now after : Once) (by : ℕ) (a : Option ℕ) → step now by ops.Fail a (pos 0) replies.Ok ≡ Some after → is_active after by ≡ false
failed_step now after by None e = cc e
failed_step now after by (Some error) e = made (λ s. is_active s by ≡ false) (is_active now by) Idle after (λ c. refl) e

-- ---- views

running_on : (due : Bool) (n : ℕ) (o o' : Once) (e : Entry) → e.by.0 ≢ n → Running due o n → executing.step o e ≡ Some o' → Running due o' n
running_on due n o o' e ne is s = running_step due n o o' e.by.0 e.op (small_of e.a) e.b e.reply ne is s

-- a pass that made no change has no active execution
pub never_running : (v : View Once) → v.start ≡ Idle → positions v.number 0 v.front ≡ [] → At executing.step (Running false) v
never_running v opened none m leads = kept_by executing.step (λ e. e.by.0 ≢ v.number) (λ o. Running false o v.number) (λ o o' e ne is s. running_on false v.number o o' e ne is s) v.front v.start m (none_own v.number v.front none) (ap (λ o. is_active o v.number) opened) leads

-- ---- tokens

-- the pass of the same thread, with what the token has
pub with_running : (f : OnceFlag) (p q : Pass Once) (o : Option Execution) (v w : View Once) → IsOnceToken f (record { pass = p; active = o }) v → IsOncePassWith f q w → IsPrefix v.front w.front → w.start ≡ v.start → w.number ≡ v.number → w.mine ≡ v.mine → IsOnceToken f (record { pass = q; active = o }) w
with_running f p q o v w t pass later start number mine = record {
  pass = pass;
  own = owned o t.own;
  running = lasts executing (Running (is_some o)) (running_on (is_some o)) v w later t.pass.known pass.known t.pass.counts pass.counts start number mine t.running;
  opened = start ∙ t.opened;
}
  where
    same : p.number ≡ q.number
    same = same_thread p.number q.number (sym t.pass.numbered ∙ (sym number ∙ pass.numbered))

    owned : (x : Option Execution) → MatchOption x (Unit {0}) (λ a. a.by ≡ p.number) → MatchOption x (Unit {0}) (λ a. a.by ≡ q.number)
    owned None h = tt
    owned (Some a) h = h ∙ same

-- the pass of the thread that made this change
changed_running : (f : OnceFlag) (p q : Pass Once) (o o' : Option Execution) (v w : View Once) (e : Entry) (n : ℕ) → IsOnceToken f (record { pass = p; active = o }) v → IsOncePassWith f q w → (is : Makes executing v w e n) → e.by ≡ p.number → is_active is.after e.by.0 ≡ is_some o' → MatchOption o' (Unit {0}) (λ a. a.by ≡ q.number) → IsOnceToken f (record { pass = q; active = o' }) w
changed_running f p q o o' v w e n t pass is by tells own =
    let mine : e.by.0 ≡ v.number = ap (λ (u : ThreadNo). u.0) by ∙ sym t.pass.numbered in
    record {
      pass = pass;
      own = own;
      running = so_after executing (Running (is_some o')) v w e n is mine tells;
      opened = ap (λ (x : View Once). x.start) is.view ∙ t.opened;
    }

-- who begins an execution has an active one
pub begun_running : (f : OnceFlag) (p q : Pass Once) (o : Option Execution) (a : Execution) (n : ℕ) → IsActive f q a → OnceMakes f p q (change p.number ops.Begin (pos 0) (pos 0) replies.Ok) n → (v : View Once) → IsOnceToken f (record { pass = p; active = o }) v → (w : View Once) × IsOnceToken f (record { pass = q; active = Some a }) w × Makes executing v w (change p.number ops.Begin (pos 0) (pos 0) replies.Ok) n
begun_running f p q o a n active is v t =
    let d = is v t.pass in
    let m = d.2 in
    (d.0, changed_running f p q o (Some a) v d.0 (change p.number ops.Begin (pos 0) (pos 0) replies.Ok) n t d.1 m refl (begins_so m.now m.after p.number replies.Ok m.enabled).1 active.0, m)

-- who sees that one had returned has none
pub passive_running : (f : OnceFlag) (p q : Pass Once) (o : Option Execution) (k : ℕ) → OnceLooks f p q (look_of p.number ops.Passive (pos 0) (pos 0) replies.Ok k) → (v : View Once) → IsOnceToken f (record { pass = p; active = o }) v → (w : View Once) × IsOnceToken f (record { pass = q; active = None }) w × Looks executing v w (look_of p.number ops.Passive (pos 0) (pos 0) replies.Ok k)
passive_running f p q o k is v t =
    let d = is v t.pass in
    let l = d.2 in
    let start : d.0.start ≡ v.start = ap (λ (x : View Once). x.start) l.view in
    let leads = ap (λ (s : Once). run executing.step (Some s) d.0.front) start ∙ l.leads in
    let none = none_done l.now d.0.number l.shown in
    (d.0, record { pass = d.1; own = tt; running = λ m on. subst (λ (s : Once). Running false s d.0.number) (some_is l.now m (sym leads ∙ on)) none; opened = start ∙ t.opened }, l)

-- an active execution
pub running_active : (f : OnceFlag) (p : Pass Once) (o : Option Execution) (a : Execution) (v : View Once) → o ≡ Some a → IsOnceToken f (record { pass = p; active = o }) v → IsActive f p a
running_active f p o a v is token = active (subst (λ (x : Option Execution). IsOnceToken f (record { pass = p; active = x }) v) is token)
  where
    active : IsOnceToken f (record { pass = p; active = Some a }) v → IsActive f p a
    active t = (t.own, λ w is' m leads. subst (λ (u : View Once). At executing.step (Running true) u) (head_is v w (sym t.pass.views ∙ is'.views)) t.running m leads)

-- once it returns or fails its thread has none
pub finished_running : (f : OnceFlag) (p q : Pass Once) (o : Option Execution) (n : ℕ) → OnceMakes f p q (change p.number ops.Finish (pos 0) (pos 0) replies.Ok) n → (v : View Once) → IsOnceToken f (record { pass = p; active = o }) v → (w : View Once) × IsOnceToken f (record { pass = q; active = None }) w × Makes executing v w (change p.number ops.Finish (pos 0) (pos 0) replies.Ok) n
finished_running f p q o n is v t =
    let d = is v t.pass in
    let m = d.2 in
    (d.0, changed_running f p q o None v d.0 (change p.number ops.Finish (pos 0) (pos 0) replies.Ok) n t d.1 m refl (finished_none m.now m.after p.number m.enabled) tt, m)

pub failed_running : (f : OnceFlag) (p q : Pass Once) (o : Option Execution) (error n : ℕ) → OnceMakes f p q (change p.number ops.Fail (pos error) (pos 0) replies.Ok) n → (v : View Once) → IsOnceToken f (record { pass = p; active = o }) v → (w : View Once) × IsOnceToken f (record { pass = q; active = None }) w × Makes executing v w (change p.number ops.Fail (pos error) (pos 0) replies.Ok) n
failed_running f p q o error n is v t =
    let d = is v t.pass in
    let m = d.2 in
    (d.0, changed_running f p q o None v d.0 (change p.number ops.Fail (pos error) (pos 0) replies.Ok) n t d.1 m refl (failed_step m.now m.after p.number.0 (small_of (pos error)) m.enabled) tt, m)

-- what a change leaves of a pass
same_pass : (v w : View Once) (e : Entry) (n : ℕ) → Makes executing v w e n → IsOfSame v w
same_pass v w e n is = record { number = ap (λ (x : View Once). x.number) is.view; seats = ap (λ (x : View Once). x.seats) is.view; start = ap (λ (x : View Once). x.start) is.view; splits = ap (λ (x : View Once). x.splits) is.view }

-- the token once its execution fails without an item
pub given_up_running : (f : OnceFlag) (p q : Pass Once) (o : Option Execution) (error n : ℕ) → OnceMakes f p q (change p.number ops.Fail (pos error) (pos 0) replies.Ok) n → (v : View Once) → IsOnceToken f (record { pass = p; active = o }) v → (w : View Once) × IsOnceToken f (record { pass = q; active = None }) w × IsOfSame v w
given_up_running f p q o error n is v t = let d = failed_running f p q o error n is v t in (d.0, d.1, same_pass v d.0 (change p.number ops.Fail (pos error) (pos 0) replies.Ok) n d.2)
