-- A shared state becomes ready once, and stays so.
use Rattle.std.proofs.Common.{◌≡◌, ℕ, zero, ◌+◌, ◌≤◌, ◌||◌, ℤ, pos, true, List, [], ◌∷◌, ◌++◌, Option, Some, None, refl, sym, ap, subst, arith, ◌∙◌}
use Rattle.cx_names.specs.declared.Outcome.{Outcome}
use Rattle.cx_names.specs.declared.Reply.{Reply}
use Rattle.cx_names.specs.declared.Reply.TheVariants as replies
use Rattle.cx_names.proofs.Equal.{replies_are_equal}
use Rattle.cx_machine.specs.declared.kind.Kind.TheVariants as kinds
use Rattle.cx_machine.specs.declared.kind.Entry.{Entry}
use Rattle.cx_machine.specs.declared.kind.Look.{Look}
use Rattle.cx_machine.specs.declared.kind.Op.{Op}
use Rattle.cx_machine.specs.declared.kind.Op.TheVariants as ops
use Rattle.cx_machine.specs.Acts.{at_entry}
use Rattle.cx_machine.specs.Kept.{made}
use Rattle.cx_machine.specs.Meaning.{run, bit}
use Rattle.cx_machine.specs.Words.{small_of, outcome_of}
use Rattle.cx_machine.specs.Machine.{State, IsLegal, Future as AFuture}
use Rattle.cx_machine.specs.Machine as machine
use Rattle.cx_machine.specs.Future.{Future, Fresh, Deferred, Running, Ready, is_fresh, is_deferred, runs as runs_by, set, is_ready, step, shows}
use Rattle.cx_laws.specs.History.{IsShownAfter, count}
use Rattle.cx_laws.specs.Future.{is_set, is_run, sets, runs, Stores}
use Rattle.cx_laws.proofs.Along.{some_is, bounded, reaches, reaches_at, run-append, ends_there, last}

-- how often it has been made ready, and how often its function was run or can be no more
made_ready : Future → ℕ
made_ready Fresh = 0
made_ready Deferred = 0
made_ready (Running t) = 0
made_ready (Ready o) = 1

taken_up : Future → ℕ
taken_up Fresh = 0
taken_up Deferred = 0
taken_up (Running t) = 1
taken_up (Ready o) = 1

abbrev Counts : Future → Op → Future → Type 0
Counts f op g = (made_ready f + bit (is_set op) ≤ made_ready g) × (taken_up f + bit (is_run op) ≤ taken_up g)

deferred : (f : Future) → is_fresh f ≡ true → Counts f ops.Defer Deferred
unfolding made_ready taken_up
deferred Fresh e = (omega arith, omega arith)
deferred Deferred e = cc e
deferred (Running t) e = cc e
deferred (Ready o) e = cc e

taken : (f : Future) (by : ℕ) → is_deferred f ≡ true → Counts f ops.Run (Running by)
unfolding made_ready taken_up
taken Fresh by e = cc e
taken Deferred by e = (omega arith, omega arith)
taken (Running t) by e = cc e
taken (Ready o) by e = cc e

stored : (f : Future) (by : ℕ) (o : Outcome) → (is_fresh f || runs_by f by) ≡ true → Counts f ops.Set (Ready o)
unfolding made_ready taken_up
stored Fresh by o e = (omega arith, omega arith)
stored Deferred by o e = cc e
stored (Running t) by o e = (omega arith, omega arith)
stored (Ready p) by o e = cc e

one : (f g : Future) (by : ℕ) (op : Op) (a : Option ℕ) (b : ℤ) (r : Reply) → step f by op a b r ≡ Some g → Counts f op g
one f g by ops.Defer (Some zero) (pos zero) replies.Ok e = made (Counts f ops.Defer) (is_fresh f) Deferred g (deferred f) e
one f g by ops.Run (Some zero) (pos zero) replies.Ok e = made (Counts f ops.Run) (is_deferred f) (Running by) g (taken f by) e
one f g by ops.Set a b replies.Ok e = at (outcome_of a b) e
  where
    at : (o : Option Outcome) → set (is_fresh f || runs_by f by) o ≡ Some g → Counts f ops.Set g
    at None h = cc h
    at (Some o) h = made (Counts f ops.Set) (is_fresh f || runs_by f by) (Ready o) g (stored f by o) h
one f g by _ _ _ _ e = cc e

legal : (h : List Entry) → IsLegal kinds.Future h → (t : Future) × (run (at_entry step) (Some Fresh) h ≡ Some t)
legal h is = reaches AFuture (at_entry step) (λ m e. refl) h Fresh is

ready_most : (f : Future) → made_ready f ≤ 1
unfolding made_ready
ready_most Fresh = omega arith
ready_most Deferred = omega arith
ready_most (Running t) = omega arith
ready_most (Ready o) = omega arith

taken_most : (f : Future) → taken_up f ≤ 1
unfolding taken_up
taken_most Fresh = omega arith
taken_most Deferred = omega arith
taken_most (Running t) = omega arith
taken_most (Ready o) = omega arith

pub ready_once : (h : List Entry) → IsLegal kinds.Future h → count sets h ≤ 1
ready_once h is =
    let t = legal h is in
    let b = (bounded (at_entry step) (λ s. Unit {0}) made_ready (λ e. bit (sets e)) (λ s u e _ on. (tt, (one s u e.by.0 e.op (small_of e.a) e.b e.reply on).0)) h Fresh t.0 tt t.1).1 in
    let l = ready_most t.0 in
    omega (arith, b, l)

pub deferred_runs_once : (h : List Entry) → IsLegal kinds.Future h → count runs h ≤ 1
deferred_runs_once h is =
    let t = legal h is in
    let b = (bounded (at_entry step) (λ s. Unit {0}) taken_up (λ e. bit (runs e)) (λ s u e _ on. (tt, (one s u e.by.0 e.op (small_of e.a) e.b e.reply on).1)) h Fresh t.0 tt t.1).1 in
    let l = taken_most t.0 in
    omega (arith, b, l)

-- ---- looks

ready_at : (f : Future) (by : ℕ) (op : Op) (a : Option ℕ) (b : ℤ) (r : Reply) → shows f by op a b r ≡ true → (o : Outcome) × (f ≡ Ready o) × (r ≡ replies.Outcome o)
ready_at f by ops.Ready (Some zero) (pos zero) r e = at f e
  where
    at : (g : Future) → is_ready g r ≡ true → (o : Outcome) × (g ≡ Ready o) × (r ≡ replies.Outcome o)
    at Fresh h = cc h
    at Deferred h = cc h
    at (Running t) h = cc h
    at (Ready o) h = (o, refl, sym ((replies_are_equal (replies.Outcome o) r).0 h))
ready_at f by _ _ _ _ e = cc e

-- a shown look finds the state ready with its outcome
record Seen (h : List Entry) (l : Look) : Type 0 where
  outcome : Outcome
  leads : run (at_entry step) (Some Fresh) h ≡ Some (Ready outcome)
  reply : l.reply ≡ replies.Outcome outcome

seen : (h : List Entry) (l : Look) → IsShownAfter kinds.Future h l → Seen h l
seen h l is =
    let t = reaches_at AFuture (at_entry step) (λ m e. refl) h Fresh is.0 is.1 in
    let shown : machine.shows (AFuture t.0) l ≡ true = subst (λ s. machine.shows s l ≡ true) t.2 is.2 in
    let r = ready_at t.0 l.by.0 l.op (small_of l.a) l.b l.reply shown in
    record { outcome = r.0; leads = t.1 ∙ ap (λ x. Some x) r.1; reply = r.2 }

same_outcome : (o p : Outcome) → Ready o ≡ Ready p → o ≡ p
same_outcome o p e = cc

storing : (f : Future) (o : Outcome) (by : ℕ) (op : Op) (a : Option ℕ) (b : ℤ) (r : Reply) → step f by op a b r ≡ Some (Ready o) → (is_set op ≡ true) × (outcome_of a b ≡ Some o)
storing f o by ops.Defer (Some zero) (pos zero) replies.Ok e = made (λ x. (x ≡ Ready o) → (is_set ops.Defer ≡ true) × (outcome_of (Some zero) (pos zero) ≡ Some o)) (is_fresh f) Deferred (Ready o) (λ _ h. cc h) e refl
storing f o by ops.Run (Some zero) (pos zero) replies.Ok e = made (λ x. (x ≡ Ready o) → (is_set ops.Run ≡ true) × (outcome_of (Some zero) (pos zero) ≡ Some o)) (is_deferred f) (Running by) (Ready o) (λ _ h. cc h) e refl
storing f o by ops.Set a b replies.Ok e = (refl, at (outcome_of a b) e)
  where
    at : (p : Option Outcome) → set (is_fresh f || runs_by f by) p ≡ Some (Ready o) → p ≡ Some o
    at None h = cc h
    at (Some p) h = made (λ x. x ≡ Ready o → Some p ≡ Some o) (is_fresh f || runs_by f by) (Ready p) (Ready o) (λ _ g. ap (λ y. Some y) (same_outcome p o g)) h refl
storing f o by _ _ _ _ e = cc e

pub sees_what_was_stored : (h : List Entry) (l : Look) → IsShownAfter kinds.Future h l → (before : List Entry) × (e : Entry) × (o : Outcome) × (h ≡ before ++ e ∷ []) × Stores e o × (l.reply ≡ replies.Outcome o)
sees_what_was_stored h l is = let s = seen h l is in at h s.leads s.reply
  where
    at : (xs : List Entry) {o : Outcome} → run (at_entry step) (Some Fresh) xs ≡ Some (Ready o) → l.reply ≡ replies.Outcome o → (before : List Entry) × (e : Entry) × (p : Outcome) × (xs ≡ before ++ e ∷ []) × Stores e p × (l.reply ≡ replies.Outcome p)
    at [] e r = absurd (let f : Fresh ≡ Ready _ = some_is Fresh (Ready _) e in cc f)
    at (x ∷ xs) {o} e r =
        let p = last (at_entry step) xs Fresh (Ready o) x e in
        (p.before, p.entry, o, p.is, storing p.now o p.entry.by.0 p.entry.op (small_of p.entry.a) p.entry.b p.entry.reply p.one, r)

shut : (o : Outcome) (by : ℕ) (op : Op) (a : Option ℕ) (b : ℤ) (r : Reply) → step (Ready o) by op a b r ≡ None
shut o by ops.Defer (Some zero) (pos zero) replies.Ok = refl
shut o by ops.Run (Some zero) (pos zero) replies.Ok = refl
shut o by ops.Set a b replies.Ok = at (outcome_of a b)
  where
    at : (p : Option Outcome) → set (is_fresh (Ready o) || runs_by (Ready o) by) p ≡ None
    at None = refl
    at (Some p) = refl
shut o by _ _ _ _ = refl

pub outcome_stays : (h more : List Entry) (l k : Look) → IsShownAfter kinds.Future h l → IsShownAfter kinds.Future (h ++ more) k → l.reply ≡ k.reply
outcome_stays h more l k is on =
    let s = seen h l is in
    let t = seen (h ++ more) k on in
    let goes : run (at_entry step) (Some (Ready s.outcome)) more ≡ Some (Ready t.outcome) = subst (λ x. run (at_entry step) x more ≡ Some (Ready t.outcome)) s.leads (sym (run-append (at_entry step) (Some Fresh) h more) ∙ t.leads) in
    let none = ends_there (at_entry step) (Ready s.outcome) (Ready t.outcome) (λ x. shut s.outcome x.by.0 x.op (small_of x.a) x.b x.reply) more goes in
    let same : Ready s.outcome ≡ Ready t.outcome = some_is (Ready s.outcome) (Ready t.outcome) (subst (λ xs. run (at_entry step) (Some (Ready s.outcome)) xs ≡ Some (Ready t.outcome)) none goes) in
    s.reply ∙ (ap replies.Outcome (same_outcome s.outcome t.outcome same) ∙ sym t.reply)
