-- The executions of a once flag's function: begun, and ended.
use Rattle.std.proofs.Common.{◌≡◌, ℕ, zero, ◌+◌, ◌≤◌, ◌==◌, ◌&&◌, ℤ, pos, Bool, true, false, List, [], ◌∷◌, ◌++◌, Option, Some, None, refl, ap, subst, arith, ◌∙◌}
use Rattle.std.proofs.lemmas.Bool.{eqb-true}
use Rattle.cx_names.specs.declared.Reply.{Reply}
use Rattle.cx_names.specs.declared.Reply.TheVariants as replies
use Rattle.cx_machine.specs.declared.kind.Kind.TheVariants as kinds
use Rattle.cx_machine.specs.declared.kind.Entry.{Entry}
use Rattle.cx_machine.specs.declared.kind.Look.{Look}
use Rattle.cx_machine.specs.declared.kind.Op.{Op}
use Rattle.cx_machine.specs.declared.kind.Op.TheVariants as ops
use Rattle.cx_machine.specs.Acts.{at_entry}
use Rattle.cx_machine.specs.Kept.{made}
use Rattle.cx_machine.specs.Meaning.{run, bit}
use Rattle.cx_machine.specs.Distinct.{bit_le}
use Rattle.cx_machine.specs.Words.{small_of}
use Rattle.cx_machine.specs.Machine.{State, IsLegal, Once as AOnce}
use Rattle.cx_machine.specs.Machine as machine
use Rattle.cx_machine.specs.Once.{Once, Idle, Active, Done, is_idle, is_active, is_done, step, shows}
use Rattle.cx_laws.specs.History.{IsShownAfter, count}
use Rattle.cx_laws.specs.Once.{is_begin, is_finish, is_end, begins, ends, finishes, Runs}
use Rattle.cx_laws.proofs.Along.{balanced, reaches, reaches_at, parted, total_none, ends_there}

abbrev Counts : ℕ → Once → Op → ℕ → Once → Type 0
Counts n o op by t = (bit (is_active o n) + bit (is_begin op && (by == n)) ≡ bit (is_end op && (by == n)) + bit (is_active t n)) × (bit (is_done o) + bit (is_finish op) ≡ bit (is_done t))

begun : (n : ℕ) (o : Once) (by : ℕ) → is_idle o ≡ true → Counts n o ops.Begin by (Active by)
begun n Idle by e = (omega arith, refl)
begun n (Active t) by e = cc e
begun n Done by e = cc e

ended : (n : ℕ) (o : Once) (by : ℕ) → is_active o by ≡ true → (bit (is_active o n) + 0 ≡ bit (by == n) + 0) × (bit (is_done o) ≡ 0)
ended n Idle by e = cc e
ended n (Active t) by e = (ap (λ x. bit (x == n) + 0) (eqb-true t by e), refl)
ended n Done by e = cc e

one : (n : ℕ) (o t : Once) (by : ℕ) (op : Op) (a : Option ℕ) (b : ℤ) (r : Reply) → step o by op a b r ≡ Some t → Counts n o op by t
one n o t by ops.Begin (Some zero) (pos zero) replies.Ok e = made (Counts n o ops.Begin by) (is_idle o) (Active by) t (begun n o by) e
one n o t by ops.Finish (Some zero) (pos zero) replies.Ok e = made (Counts n o ops.Finish by) (is_active o by) Done t (λ c. (let p = ended n o by c in let q = p.1 in (p.0, omega (arith, q)))) e
one n o t by ops.Fail (Some x) (pos zero) replies.Ok e = made (Counts n o ops.Fail by) (is_active o by) Idle t (λ c. (let p = ended n o by c in let q = p.1 in (p.0, omega (arith, q)))) e
one n o t by _ _ _ _ e = cc e

counted : (n : ℕ) (h : List Entry) (t : Once) → run (at_entry step) (Some Idle) h ≡ Some t → count (begins n) h ≡ count (ends n) h + bit (is_active t n)
counted n h t is =
    let b = (balanced (at_entry step) (λ s. Unit {0}) (λ s. bit (is_active s n)) (λ e. bit (begins n e)) (λ e. bit (ends n e)) (λ s u e _ on. (tt, (one n s u e.by.0 e.op (small_of e.a) e.b e.reply on).0)) h Idle t tt is).1 in
    omega (arith, b)

returned : (h : List Entry) (t : Once) → run (at_entry step) (Some Idle) h ≡ Some t → count finishes h ≡ bit (is_done t)
returned h t is =
    let b = (balanced (at_entry step) (λ s. Unit {0}) (λ s. bit (is_done s)) (λ e. bit (finishes e)) (λ e. 0) (λ s u e _ on. (tt, (let q = (one 0 s u e.by.0 e.op (small_of e.a) e.b e.reply on).1 in omega (arith, q)))) h Idle t tt is).1 in
    let z = total_none h in
    omega (arith, b, z)

legal : (h : List Entry) → IsLegal kinds.Once h → (t : Once) × (run (at_entry step) (Some Idle) h ≡ Some t)
legal h is = reaches AOnce (at_entry step) (λ m e. refl) h Idle is

pub returns_once : (h : List Entry) → IsLegal kinds.Once h → count finishes h ≤ 1
returns_once h is =
    let t = legal h is in
    let r = returned h t.0 t.1 in
    let l = bit_le (is_done t.0) in
    omega (arith, r, l)

done_at : (o : Once) (by : ℕ) (op : Op) (a : Option ℕ) (b : ℤ) (r : Reply) → shows o by op a b r ≡ true → is_done o ≡ true
done_at o by ops.Passive (Some zero) (pos zero) replies.Ok e = e
done_at o by _ _ _ _ e = cc e

pub passive_after_return : (h : List Entry) (l : Look) → IsShownAfter kinds.Once h l → count finishes h ≡ 1
passive_after_return h l is =
    let t = reaches_at AOnce (at_entry step) (λ m e. refl) h Idle is.0 is.1 in
    let shown : machine.shows (AOnce t.0) l ≡ true = subst (λ s. machine.shows s l ≡ true) t.2 is.2 in
    let d = done_at t.0 l.by.0 l.op (small_of l.a) l.b l.reply shown in
    returned h t.0 t.1 ∙ ap bit d

shut : (by : ℕ) (op : Op) (a : Option ℕ) (b : ℤ) (r : Reply) → step Done by op a b r ≡ None
shut by ops.Begin (Some zero) (pos zero) replies.Ok = refl
shut by ops.Finish (Some zero) (pos zero) replies.Ok = refl
shut by ops.Fail (Some e) (pos zero) replies.Ok = refl
shut by _ _ _ _ = refl

finished : (o t : Once) (by : ℕ) (op : Op) (a : Option ℕ) (b : ℤ) (r : Reply) → is_finish op ≡ true → step o by op a b r ≡ Some t → t ≡ Done
finished o t by ops.Finish (Some zero) (pos zero) replies.Ok w e = made (λ x. x ≡ Done) (is_active o by) Done t (λ _. refl) e
finished o t by ops.Finish _ _ _ w e = cc e
finished o t by _ _ _ _ w e = cc w

pub nothing_after_return : (before rest : List Entry) (e : Entry) → IsLegal kinds.Once (before ++ e ∷ rest) → finishes e ≡ true → rest ≡ []
nothing_after_return before rest e is w =
    let t = legal (before ++ e ∷ rest) is in
    let p = parted (at_entry step) Idle t.0 before e rest t.1 in
    let d = finished p.now p.next e.by.0 e.op (small_of e.a) e.b e.reply w p.one in
    ends_there (at_entry step) Done t.0 (λ x. shut x.by.0 x.op (small_of x.a) x.b x.reply) rest (subst (λ s. run (at_entry step) (Some s) rest ≡ Some t.0) d p.follows)

runner : (o : Once) (n : ℕ) → 1 ≤ bit (is_active o n) → o ≡ Active n
runner Idle n l = absurd (omega (arith, l))
runner (Active t) n l = at (t == n) refl l
  where
    at : (b : Bool) → (t == n) ≡ b → 1 ≤ bit b → Active t ≡ Active n
    at true e l_ = ap Active (eqb-true t n e)
    at false e l_ = absurd (omega (arith, l_))
runner Done n l = absurd (omega (arith, l))

pub one_runs : (h : List Entry) (t u : ℕ) → IsLegal kinds.Once h → Runs t h → Runs u h → t ≡ u
one_runs h t u is own other =
    let s = legal h is in
    let a = counted t h s.0 s.1 in
    let b = counted u h s.0 s.1 in
    let p = runner s.0 t (omega (arith, a, own)) in
    let q = runner s.0 u (omega (arith, b, other)) in
    cc (p, q)

pub ends_what_it_began : (h : List Entry) (t : ℕ) → IsLegal kinds.Once h → count (ends t) h ≤ count (begins t) h
ends_what_it_began h t is =
    let s = legal h is in
    let a = counted t h s.0 s.1 in
    omega (arith, a)
