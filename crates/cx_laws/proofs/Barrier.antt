-- The phases of a barrier: arrivals, and completions.
use Rattle.std.proofs.Common.{◌≡◌, ℕ, zero, ◌+◌, ◌-◌, ◌^◌, ◌<◌, ◌≤◌, ◌==◌, ◌&&◌, ℤ, pos, Bool, true, false, List, [], ◌∷◌, ◌++◌, Option, Some, None, is_none, refl, sym, ap, subst, arith, nat_lt, nat_le, if◌then◌else◌, ◌∙◌}
use Rattle.std.proofs.lemmas.Bool.{eqb-true, and_parts, leb-true, ltb-true}
use Rattle.std.proofs.lemmas.Bool.Decides.{Decides-int_eq}
use Rattle.cx_names.specs.Replies.{int_eq}
use Rattle.cx_names.specs.declared.Reply.{Reply}
use Rattle.cx_names.specs.declared.Reply.TheVariants as replies
use Rattle.cx_machine.specs.declared.kind.Kind.TheVariants as kinds
use Rattle.cx_machine.specs.declared.kind.Entry.{Entry}
use Rattle.cx_machine.specs.declared.kind.Look.{Look}
use Rattle.cx_machine.specs.declared.kind.Op.{Op}
use Rattle.cx_machine.specs.declared.kind.Op.TheVariants as ops
use Rattle.cx_machine.specs.Acts.{at_entry}
use Rattle.cx_machine.specs.Kept.{made}
use Rattle.cx_machine.specs.Meaning.{run, bit}
use Rattle.cx_machine.specs.Words.{small_of, is_thread}
use Rattle.cx_machine.specs.Machine.{State, IsLegal, Barrier as ABarrier}
use Rattle.cx_machine.specs.Machine as machine
use Rattle.cx_machine.specs.Barrier.{Barrier, opening, can_arrive, arrived, dropped, completed, step, shows}
use Rattle.cx_laws.specs.History.{IsShownAfter, count, amount, amount_of}
use Rattle.cx_laws.specs.Barrier.{is_arrive, is_drop, is_arrival, is_complete, is_wait, drops, completes, arrived as all_arrived, EndsAPhase}
use Rattle.cx_laws.proofs.Along.{some_is, balanced, balanced_while, reaches, reaches_at, parted, last, Last, run-append, stops, total_none}

-- no more remain than are expected from the next phase on and drop out in this one; who completes does so when none remain
record Sound (b : Barrier) : Type 0 where
  within : b.remaining ≤ b.initial
  full : (t : ℕ) → b.completing ≡ Some t → b.remaining ≡ 0

last_of : (n m by t : ℕ) → (if n - m == 0 then Some by else None) ≡ Some t → (n - m ≡ 0) × (by ≡ t)
last_of n m by t e = at (n - m == 0) refl e
  where
    at : (c : Bool) → (n - m == 0) ≡ c → (if c then Some by else None) ≡ Some t → (n - m ≡ 0) × (by ≡ t)
    at true is f = (eqb-true (n - m) 0 is, some_is by t f)
    at false is f = cc f

abbrev Counts : Barrier → Op → Option ℕ → Barrier → Type 0
Counts b op a c = Sound c × (b.phase + bit (is_complete op) ≡ c.phase) × (c.initial + bit (is_drop op) ≡ b.initial) × (is_complete op ≡ false → c.remaining + (amount (is_arrive op) a + bit (is_drop op)) ≡ b.remaining)

one : (b c : Barrier) (by : ℕ) (op : Op) (a : Option ℕ) (v : ℤ) (r : Reply) → Sound b → step b by op a v r ≡ Some c → Counts b op a c
one b c by ops.Arrive (Some n) (pos zero) (replies.Number p) s e = made (Counts b ops.Arrive (Some n)) (nat_le 1 n && can_arrive b n && int_eq p (pos b.phase)) (arrived b by n) c (λ can. arrives (and_parts (nat_le 1 n && can_arrive b n) (int_eq p (pos b.phase)) can).0) e
  where
    arrives : (nat_le 1 n && can_arrive b n) ≡ true → Counts b ops.Arrive (Some n) (arrived b by n)
    arrives can =
        let l = leb-true n b.remaining (and_parts (is_none b.completing) (nat_le n b.remaining) (and_parts (nat_le 1 n) (can_arrive b n) can).1).1 in
        let w = s.within in
        (record { within = omega (arith, w); full = λ t f. (last_of b.remaining n by t f).0 }, omega arith, omega arith, λ _. omega (arith, l))
one b c by ops.Drop (Some zero) (pos zero) (replies.Number p) s e = made (Counts b ops.Drop (Some zero)) (can_arrive b 1 && int_eq p (pos b.phase)) (dropped b by) c (λ can. leaves (and_parts (can_arrive b 1) (int_eq p (pos b.phase)) can).0) e
  where
    leaves : can_arrive b 1 ≡ true → Counts b ops.Drop (Some zero) (dropped b by)
    leaves can =
        let l = leb-true 1 b.remaining (and_parts (is_none b.completing) (nat_le 1 b.remaining) can).1 in
        let w = s.within in
        (record { within = omega (arith, w, l); full = λ t f. (last_of b.remaining 1 by t f).0 }, omega arith, omega (arith, w, l), λ _. omega (arith, l))
one b c by ops.Complete (Some zero) (pos zero) replies.Ok s e = made (Counts b ops.Complete (Some zero)) (is_thread b.completing by && nat_lt b.phase (2 ^ 32 - 1)) (completed b) c (λ _. (record { within = omega arith; full = λ t f. cc f }, refl, omega arith, λ f. cc f)) e
one b c by _ _ _ _ s e = cc e

first : (expected : ℕ) → Sound (opening expected)
first expected = record { within = omega arith; full = λ t f. cc f }

abbrev Leads : ℕ → List Entry → Barrier → Type 0
Leads expected h b = run (at_entry step) (Some (opening expected)) h ≡ Some b

legal : (expected : ℕ) (h : List Entry) → IsLegal (kinds.Barrier expected) h → (b : Barrier) × Leads expected h b
legal expected h is = reaches ABarrier (at_entry step) (λ m e. refl) h (opening expected) is

phases : (expected : ℕ) (h : List Entry) (b : Barrier) → Leads expected h b → Sound b × (b.phase ≡ count completes h)
phases expected h b is =
    let k = balanced (at_entry step) Sound (λ x. x.phase) (λ e. bit (completes e)) (λ e. 0) (λ x y e s on. (let o = one x y e.by.0 e.op (small_of e.a) e.b e.reply s on in (o.0, (let q = o.1 in omega (arith, q))))) h (opening expected) b (first expected) is in
    let z = total_none h in
    (k.0, let q = k.1 in omega (arith, q, z))

expecting : (expected : ℕ) (h : List Entry) (b : Barrier) → Leads expected h b → b.initial + count drops h ≡ expected
expecting expected h b is =
    let k = (balanced (at_entry step) Sound (λ x. x.initial) (λ e. 0) (λ e. bit (drops e)) (λ x y e s on. (let o = one x y e.by.0 e.op (small_of e.a) e.b e.reply s on in (o.0, (let q = o.2 in omega (arith, q))))) h (opening expected) b (first expected) is).1 in
    let z = total_none h in
    omega (arith, k, z)

-- ---- a phase

completing : (b c : Barrier) (by : ℕ) (op : Op) (a : Option ℕ) (v : ℤ) (r : Reply) → is_complete op ≡ true → step b by op a v r ≡ Some c → (is_thread b.completing by ≡ true) × (c ≡ completed b)
completing b c by ops.Complete (Some zero) (pos zero) replies.Ok w e = made (λ x. (is_thread b.completing by ≡ true) × (x ≡ completed b)) (is_thread b.completing by && nat_lt b.phase (2 ^ 32 - 1)) (completed b) c (λ can. ((and_parts (is_thread b.completing by) (nat_lt b.phase (2 ^ 32 - 1)) can).0, refl)) e
completing b c by ops.Complete _ _ _ w e = cc e
completing b c by _ _ _ _ w e = cc w

thread_is : (o : Option ℕ) (by : ℕ) → is_thread o by ≡ true → o ≡ Some by
thread_is None by e = cc e
thread_is (Some t) by e = ap (λ x. Some x) (eqb-true t by e)

last_completes : (h : List Entry) (d : Entry) → EndsAPhase (d ∷ h) → (m end : Barrier) → (l : Last (at_entry step) m end (d ∷ h)) → completes l.entry ≡ true
last_completes h d ends m end l = subst (λ xs. EndsAPhase xs → completes l.entry ≡ true) (sym l.is) (at l.before) ends
  where
    at : (xs : List Entry) → EndsAPhase (xs ++ l.entry ∷ []) → completes l.entry ≡ true
    at [] e = e
    at (x ∷ []) e = e
    at (x ∷ (y ∷ ys)) e = at (y ∷ ys) e

-- where a phase begins all that are expected remain
fresh : (expected : ℕ) (h : List Entry) (b : Barrier) → EndsAPhase h → Leads expected h b → b.remaining ≡ b.initial
fresh expected [] b ends is = let same = some_is (opening expected) b is in subst (λ x. x.remaining ≡ x.initial) same refl
fresh expected (d ∷ h) b ends is =
    let l = last (at_entry step) h (opening expected) b d is in
    let w = last_completes h d ends (opening expected) b l in
    let c = (completing l.now b l.entry.by.0 l.entry.op (small_of l.entry.a) l.entry.b l.entry.reply w l.one).1 in
    subst (λ x. x.remaining ≡ x.initial) (sym c) refl

pub completes_when_full : (expected : ℕ) (earlier phase rest : List Entry) (e : Entry) → IsLegal (kinds.Barrier expected) (earlier ++ (phase ++ e ∷ rest)) → EndsAPhase earlier → count completes phase ≡ 0 → completes e ≡ true → all_arrived phase + count drops earlier ≡ expected
completes_when_full expected earlier phase rest e is ends none w =
    let b = legal expected (earlier ++ (phase ++ e ∷ rest)) is in
    let all = sym (run-append (at_entry step) (Some (opening expected)) earlier (phase ++ e ∷ rest)) ∙ b.1 in
    let m = stops (at_entry step) (run (at_entry step) (Some (opening expected)) earlier) (phase ++ e ∷ rest) b.0 all in
    let s = (phases expected earlier m.0 m.1).0 in
    let on : run (at_entry step) (Some m.0) (phase ++ e ∷ rest) ≡ Some b.0 = subst (λ o. run (at_entry step) o (phase ++ e ∷ rest) ≡ Some b.0) m.1 all in
    let p = parted (at_entry step) m.0 b.0 phase e rest on in
    let k = balanced_while (at_entry step) completes Sound (λ x. x.remaining) (λ x. 0) (λ x. amount_of (is_arrive x.op) x + bit (drops x)) (λ x y d not_it g step_. (let o = one x y d.by.0 d.op (small_of d.a) d.b d.reply g step_ in (o.0, (let q = o.3 not_it in omega (arith, q))))) phase m.0 p.now none s p.leads in
    let t = thread_is p.now.completing e.by.0 (completing p.now p.next e.by.0 e.op (small_of e.a) e.b e.reply w p.one).0 in
    let zero_left = k.0.full e.by.0 t in
    let gone = k.1 in
    let z = total_none phase in
    let f = fresh expected earlier m.0 ends m.1 in
    let x = expecting expected earlier m.0 m.1 in
    omega (arith, zero_left, gone, z, f, x)

-- who completes arrived right before
arriving : (b c : Barrier) (t by : ℕ) (op : Op) (a : Option ℕ) (v : ℤ) (r : Reply) → c.completing ≡ Some t → step b by op a v r ≡ Some c → (is_arrival op ≡ true) × (by ≡ t)
arriving b c t by ops.Arrive (Some n) (pos zero) (replies.Number p) w e = made (λ x. x.completing ≡ Some t → (is_arrival ops.Arrive ≡ true) × (by ≡ t)) (nat_le 1 n && can_arrive b n && int_eq p (pos b.phase)) (arrived b by n) c (λ _ f. (refl, (last_of b.remaining n by t f).1)) e w
arriving b c t by ops.Drop (Some zero) (pos zero) (replies.Number p) w e = made (λ x. x.completing ≡ Some t → (is_arrival ops.Drop ≡ true) × (by ≡ t)) (can_arrive b 1 && int_eq p (pos b.phase)) (dropped b by) c (λ _ f. (refl, (last_of b.remaining 1 by t f).1)) e w
arriving b c t by ops.Complete (Some zero) (pos zero) replies.Ok w e = made (λ x. x.completing ≡ Some t → (is_arrival ops.Complete ≡ true) × (by ≡ t)) (is_thread b.completing by && nat_lt b.phase (2 ^ 32 - 1)) (completed b) c (λ _ f. cc f) e w
arriving b c t by _ _ _ _ w e = cc e

pub last_to_arrive_completes : (expected : ℕ) (before rest : List Entry) (e : Entry) → IsLegal (kinds.Barrier expected) (before ++ e ∷ rest) → completes e ≡ true → (earlier : List Entry) × (last : Entry) × (before ≡ earlier ++ last ∷ []) × (is_arrival last.op ≡ true) × (last.by.0 ≡ e.by.0)
last_to_arrive_completes expected before rest e is w =
    let b = legal expected (before ++ e ∷ rest) is in
    let p = parted (at_entry step) (opening expected) b.0 before e rest b.1 in
    let t = thread_is p.now.completing e.by.0 (completing p.now p.next e.by.0 e.op (small_of e.a) e.b e.reply w p.one).0 in
    at before p.now p.leads t
  where
    at : (xs : List Entry) (now : Barrier) → Leads expected xs now → now.completing ≡ Some e.by.0 → (earlier : List Entry) × (last : Entry) × (xs ≡ earlier ++ last ∷ []) × (is_arrival last.op ≡ true) × (last.by.0 ≡ e.by.0)
    at [] now f t = absurd (let g : None ≡ Some e.by.0 = subst (λ x. x.completing ≡ Some e.by.0) (sym (some_is (opening expected) now f)) t in cc g)
    at (x ∷ xs) now f t =
        let l = last (at_entry step) xs (opening expected) now x f in
        let a = arriving l.now now e.by.0 l.entry.by.0 l.entry.op (small_of l.entry.a) l.entry.b l.entry.reply t l.one in
        (l.before, l.entry, l.is, a.0, a.1)

-- ---- tokens and waits

token : (b c : Barrier) (by : ℕ) (op : Op) (a : Option ℕ) (v : ℤ) (r : Reply) → is_arrival op ≡ true → step b by op a v r ≡ Some c → r ≡ replies.Number (pos b.phase)
token b c by ops.Arrive (Some n) (pos zero) (replies.Number p) w e = made (λ _. replies.Number p ≡ replies.Number (pos b.phase)) (nat_le 1 n && can_arrive b n && int_eq p (pos b.phase)) (arrived b by n) c (λ can. ap replies.Number ((Decides-int_eq p (pos b.phase)).0 (and_parts (nat_le 1 n && can_arrive b n) (int_eq p (pos b.phase)) can).1)) e
token b c by ops.Drop (Some zero) (pos zero) (replies.Number p) w e = made (λ _. replies.Number p ≡ replies.Number (pos b.phase)) (can_arrive b 1 && int_eq p (pos b.phase)) (dropped b by) c (λ can. ap replies.Number ((Decides-int_eq p (pos b.phase)).0 (and_parts (can_arrive b 1) (int_eq p (pos b.phase)) can).1)) e
token b c by ops.Complete (Some zero) (pos zero) replies.Ok w e = cc w
token b c by _ _ _ _ w e = cc e

pub token_is_the_phase : (expected : ℕ) (before rest : List Entry) (e : Entry) → IsLegal (kinds.Barrier expected) (before ++ e ∷ rest) → is_arrival e.op ≡ true → e.reply ≡ replies.Number (pos (count completes before))
token_is_the_phase expected before rest e is w =
    let b = legal expected (before ++ e ∷ rest) is in
    let p = parted (at_entry step) (opening expected) b.0 before e rest b.1 in
    let r = token p.now p.next e.by.0 e.op (small_of e.a) e.b e.reply w p.one in
    let f = (phases expected before p.now p.leads).1 in
    r ∙ ap (λ n. replies.Number (pos n)) f

waited : (b : Barrier) (by : ℕ) (op : Op) (a : Option ℕ) (v : ℤ) (r : Reply) (p : ℕ) → is_wait op ≡ true → a ≡ Some p → shows b by op a v r ≡ true → p < b.phase
waited b by ops.Wait (Some q) (pos zero) replies.Ok p w is e = let l = ltb-true q b.phase e in let same = some_is q p is in omega (arith, l, same)
waited b by ops.Arrive (Some n) (pos zero) replies.OverExpected p w is e = cc w
waited b by ops.Drop (Some zero) (pos zero) replies.OverExpected p w is e = cc w
waited b by _ _ _ _ p w is e = cc e

pub waits_for_completion : (expected : ℕ) (h : List Entry) (l : Look) (p : ℕ) → IsShownAfter (kinds.Barrier expected) h l → is_wait l.op ≡ true → small_of l.a ≡ Some p → p < count completes h
waits_for_completion expected h l p is w a =
    let t = reaches_at ABarrier (at_entry step) (λ m e. refl) h (opening expected) is.0 is.1 in
    let shown : machine.shows (ABarrier t.0) l ≡ true = subst (λ s. machine.shows s l ≡ true) t.2 is.2 in
    let q = waited t.0 l.by.0 l.op (small_of l.a) l.b l.reply p w a shown in
    let f = (phases expected h t.0 t.1).1 in
    omega (arith, q, f)
