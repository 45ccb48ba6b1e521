-- Who waits, and who was notified, by the history.
use Rattle.std.proofs.Common.{◌≡◌, ℕ, zero, ◌≤◌, ◌==◌, ◌||◌, ℤ, pos, Bool, true, false, List, [], ◌∷◌, ◌++◌, length, Option, Some, refl, sym, ap, subst, arith, ◌∙◌, ◌⊎◌, inl, inr, append_assoc, eq-eqb}
use Rattle.std.proofs.lemmas.Bool.{eqb-true, cases_Bool, or_parts, not-true}
use Rattle.cx_names.specs.declared.ThreadNo.{ThreadNo}
use Rattle.cx_names.specs.declared.Reply.{Reply}
use Rattle.cx_names.specs.declared.Reply.TheVariants as replies
use Rattle.cx_names.specs.Replies.{int_eq}
use Rattle.cx_machine.specs.declared.kind.Kind.TheVariants as kinds
use Rattle.cx_machine.specs.declared.kind.Entry.{Entry}
use Rattle.cx_machine.specs.declared.kind.Op.{Op}
use Rattle.cx_machine.specs.declared.kind.Op.TheVariants as ops
use Rattle.cx_machine.specs.Acts.{at_entry}
use Rattle.cx_machine.specs.Kept.{made}
use Rattle.cx_machine.specs.Meaning.{run, change, bit, times, IsOnceEach}
use Rattle.cx_machine.specs.Words.{small_of, has, without}
use Rattle.cx_machine.specs.Distinct.{times-append}
use Rattle.cx_machine.specs.Waiters.{times_some, once_turned, once_entered, once_moved, once_withdrawn, once_unblocked}
use Rattle.cx_machine.specs.Machine.{IsLegal, Condition as ACondition}
use Rattle.cx_machine.specs.Condition.{Condition, opening, is_away, entered, moved, all_moved, unblocked, withdrawn, step}
use Rattle.cx_laws.specs.History.{count}
use Rattle.cx_laws.specs.Condition.{is_unblock, is_withdraw, enters, moves, notifies, Waits, WasNotified}
use Rattle.cx_laws.proofs.Along.{along, reaches, parted, count-append}

-- ---- lists

has_push : (ms : List ℕ) (n t : ℕ) → has (ms ++ n ∷ []) t ≡ true → ((n == t) ≡ true) ⊎ (has ms t ≡ true)
has_push [] n t h = at (n == t) refl h
  where
    at : (b : Bool) → (n == t) ≡ b → (b || false) ≡ true → ((n == t) ≡ true) ⊎ (has [] t ≡ true)
    at true is e = inl is
    at false is e = cc e
has_push (m ∷ ms) n t h = at (cases_Bool (m == t)) (λ q. has_push ms n t q)
  where
    at : ((m == t) ≡ true) ⊎ ((m == t) ≡ false) → (has (ms ++ n ∷ []) t ≡ true → ((n == t) ≡ true) ⊎ (has ms t ≡ true)) → ((n == t) ≡ true) ⊎ (has (m ∷ ms) t ≡ true)
    at (inl e) rest = inr (rw e refl)
    at (inr e) rest = let h' : has (ms ++ n ∷ []) t ≡ true = rw e at h in on (rest h')
      where
        on : ((n == t) ≡ true) ⊎ (has ms t ≡ true) → ((n == t) ≡ true) ⊎ (has (m ∷ ms) t ≡ true)
        on (inl f) = inl f
        on (inr f) = inr (rw e f)

has_both : (ms ns : List ℕ) (t : ℕ) → has (ms ++ ns) t ≡ true → (has ms t ≡ true) ⊎ (has ns t ≡ true)
has_both [] ns t h = inr h
has_both (m ∷ ms) ns t h = at (cases_Bool (m == t)) (λ q. has_both ms ns t q)
  where
    at : ((m == t) ≡ true) ⊎ ((m == t) ≡ false) → (has (ms ++ ns) t ≡ true → (has ms t ≡ true) ⊎ (has ns t ≡ true)) → (has (m ∷ ms) t ≡ true) ⊎ (has ns t ≡ true)
    at (inl e) rest = inl (rw e refl)
    at (inr e) rest = let h' : has (ms ++ ns) t ≡ true = rw e at h in on (rest h')
      where
        on : (has ms t ≡ true) ⊎ (has ns t ≡ true) → (has (m ∷ ms) t ≡ true) ⊎ (has ns t ≡ true)
        on (inl f) = inl (rw e f)
        on (inr f) = inr f

turn : (a b : ℕ) → (a == b) ≡ false → (b == a) ≡ false
turn a b e = at (cases_Bool (b == a))
  where
    at : ((b == a) ≡ true) ⊎ ((b == a) ≡ false) → (b == a) ≡ false
    at (inl g) = let z : true ≡ false = sym (eq-eqb a b (sym (eqb-true b a g))) ∙ e in cc z
    at (inr g) = g

-- who stands in the list without n is another, and stood in the list
has_without : (ms : List ℕ) (n t : ℕ) → has (without ms n) t ≡ true → ((n == t) ≡ false) × (has ms t ≡ true)
has_without [] n t h = cc h
has_without (m ∷ ms) n t h = at (cases_Bool (m == n)) (cases_Bool (m == t)) (λ q. has_without ms n t q)
  where
    at : ((m == n) ≡ true) ⊎ ((m == n) ≡ false) → ((m == t) ≡ true) ⊎ ((m == t) ≡ false) → (has (without ms n) t ≡ true → ((n == t) ≡ false) × (has ms t ≡ true)) → ((n == t) ≡ false) × (has (m ∷ ms) t ≡ true)
    at (inl e) f rest =
        let h' : has (without ms n) t ≡ true = rw e at h in
        let r = rest h' in
        (r.0, elim (m == t) as (λ b. (b || has ms t) ≡ true) [ true ↦ refl | false ↦ r.1 ])
    at (inr e) (inl f) rest = (subst (λ x. (n == x) ≡ false) (eqb-true m t f) (turn m n e), rw f refl)
    at (inr e) (inr f) rest =
        let h' : has (without ms n) t ≡ true = rw f at (rw e at h) in
        let r = rest h' in
        (r.0, rw f r.1)

-- nobody stands in both lists
apart : (ms ns : List ℕ) (n t : ℕ) → IsOnceEach (ms ++ ns) → has ms n ≡ true → has ns t ≡ true → (n == t) ≡ false
apart ms ns n t once h k = at (cases_Bool (n == t))
  where
    at : ((n == t) ≡ true) ⊎ ((n == t) ≡ false) → (n == t) ≡ false
    at (inl e) =
        let same = eqb-true n t e in
        let a : 1 ≤ times t ms = subst (λ x. 1 ≤ times x ms) same (times_some n ms h) in
        let b = times_some t ns k in
        let o = once t in
        let s = times-append t ms ns in
        absurd (omega (arith, a, b, o, s))
    at (inr e) = e

-- ---- one change more

none_more : (is_so : Entry → Bool) (es : List Entry) (e : Entry) → count is_so es ≡ 0 → is_so e ≡ false → count is_so (es ++ e ∷ []) ≡ 0
none_more is_so es e before last =
    let a = count-append is_so es (e ∷ []) in
    let b : bit (is_so e) ≡ 0 = ap bit last in
    omega (arith, a, b, before)

waits_on : (t : ℕ) (h : List Entry) (e : Entry) → moves t e ≡ false → notifies t e ≡ false → Waits t h → Waits t (h ++ e ∷ [])
waits_on t h e m n w = record {
  earlier = w.earlier;
  entry = w.entry;
  since = w.since ++ e ∷ [];
  is = ap (λ xs. xs ++ e ∷ []) w.is ∙ append_assoc w.earlier (w.entry ∷ w.since) (e ∷ []);
  enter = w.enter;
  stays = none_more (moves t) w.since e w.stays m;
  unnotified = none_more (notifies t) w.since e w.unnotified n;
}

notified_on : (t : ℕ) (h : List Entry) (e : Entry) → moves t e ≡ false → WasNotified t h → WasNotified t (h ++ e ∷ [])
notified_on t h e m w = record {
  earlier = w.earlier;
  notice = w.notice;
  since = w.since ++ e ∷ [];
  is = ap (λ xs. xs ++ e ∷ []) w.is ∙ append_assoc w.earlier (w.notice ∷ w.since) (e ∷ []);
  waited = w.waited;
  notifies_it = w.notifies_it;
  stays = none_more (moves t) (w.notice ∷ w.since) e w.stays m;
}

waits_from : (t : ℕ) (h : List Entry) (e : Entry) → enters t e ≡ true → Waits t (h ++ e ∷ [])
waits_from t h e en = record { earlier = h; entry = e; since = []; is = refl; enter = en; stays = refl; unnotified = refl }

notified_by : (t : ℕ) (h : List Entry) (e : Entry) → Waits t h → notifies t e ≡ true → moves t e ≡ false → WasNotified t (h ++ e ∷ [])
notified_by t h e w n m = record { earlier = h; notice = e; since = []; is = refl; waited = w; notifies_it = n; stays = none_more (moves t) [] e refl m }

-- what the state says the history tells
record Told (h : List Entry) (c : Condition) : Type 0 where
  once : IsOnceEach (c.waiting ++ c.notified)
  waits : (t : ℕ) → has c.waiting t ≡ true → Waits t h
  told : (t : ℕ) → has c.notified t ≡ true → WasNotified t h

abbrev enter : ThreadNo → ℤ → Entry
enter by a = change by ops.Enter a (pos 0) replies.Ok

enter_tells : (h : List Entry) (c : Condition) (by : ThreadNo) (a : ℤ) → Told h c → is_away c by.0 ≡ true → Told (h ++ enter by a ∷ []) (entered c by.0)
enter_tells h c by a g away = record {
  once = once_entered c.waiting c.notified by.0 g.once away;
  waits = λ t k. at t (has_push c.waiting by.0 t k);
  told = λ t k. notified_on t h (enter by a) (other t k) (g.told t k);
}
  where
    at : (t : ℕ) → ((by.0 == t) ≡ true) ⊎ (has c.waiting t ≡ true) → Waits t (h ++ enter by a ∷ [])
    at t (inl e) = waits_from t h (enter by a) e
    at t (inr k) = on (cases_Bool (by.0 == t))
      where
        on : ((by.0 == t) ≡ true) ⊎ ((by.0 == t) ≡ false) → Waits t (h ++ enter by a ∷ [])
        on (inl e) = waits_from t h (enter by a) e
        on (inr e) = waits_on t h (enter by a) e refl (g.waits t k)

    other : (t : ℕ) → has c.notified t ≡ true → (by.0 == t) ≡ false
    other t k = on (cases_Bool (by.0 == t))
      where
        on : ((by.0 == t) ≡ true) ⊎ ((by.0 == t) ≡ false) → (by.0 == t) ≡ false
        on (inl e) =
            let lacks : has c.notified by.0 ≡ false = (or_parts (has c.waiting by.0) (has c.notified by.0) (not-true _ away)).1 in
            let z : true ≡ false = sym k ∙ subst (λ x. has c.notified x ≡ false) (eqb-true by.0 t e) lacks in
            cc z
        on (inr e) = e

abbrev one_told : ThreadNo → ThreadNo → ℤ → Entry
one_told by u a = change by ops.NotifyOne a (pos 0) (replies.Thread u)

one_tells : (h : List Entry) (c : Condition) (by u : ThreadNo) (a : ℤ) → Told h c → has c.waiting u.0 ≡ true → Told (h ++ one_told by u a ∷ []) (moved c u.0)
one_tells h c by u a g k = record {
  once = once_moved c.waiting c.notified u.0 g.once k;
  waits = λ t w. (let p = has_without c.waiting u.0 t w in waits_on t h (one_told by u a) refl p.0 (g.waits t p.1));
  told = λ t w. at t (has_push c.notified u.0 t w);
}
  where
    at : (t : ℕ) → ((u.0 == t) ≡ true) ⊎ (has c.notified t ≡ true) → WasNotified t (h ++ one_told by u a ∷ [])
    at t (inl e) = notified_by t h (one_told by u a) (subst (λ x. Waits x h) (eqb-true u.0 t e) (g.waits u.0 k)) e refl
    at t (inr w) = notified_on t h (one_told by u a) refl (g.told t w)

abbrev nobody_told : ThreadNo → ℤ → Entry
nobody_told by a = change by ops.NotifyOne a (pos 0) replies.Nobody

nobody_tells : (h : List Entry) (c : Condition) (by : ThreadNo) (a : ℤ) → Told h c → Told (h ++ nobody_told by a ∷ []) c
nobody_tells h c by a g = record { once = g.once; waits = λ t w. waits_on t h (nobody_told by a) refl refl (g.waits t w); told = λ t w. notified_on t h (nobody_told by a) refl (g.told t w) }

abbrev all_told : ThreadNo → ℤ → ℤ → Entry
all_told by k a = change by ops.NotifyAll a (pos 0) (replies.Number k)

all_tells : (h : List Entry) (c : Condition) (by : ThreadNo) (k a : ℤ) → Told h c → Told (h ++ all_told by k a ∷ []) (all_moved c)
all_tells h c by k a g = record { once = once_turned c.waiting c.notified g.once; waits = λ t w. cc w; told = λ t w. at t (has_both c.notified c.waiting t w) }
  where
    at : (t : ℕ) → (has c.notified t ≡ true) ⊎ (has c.waiting t ≡ true) → WasNotified t (h ++ all_told by k a ∷ [])
    at t (inl w) = notified_on t h (all_told by k a) refl (g.told t w)
    at t (inr w) = notified_by t h (all_told by k a) (g.waits t w) refl refl

abbrev unblock : ThreadNo → ℤ → Entry
unblock by a = change by ops.Unblock a (pos 0) replies.Ok

unblock_tells : (h : List Entry) (c : Condition) (by : ThreadNo) (a : ℤ) → Told h c → has c.notified by.0 ≡ true → Told (h ++ unblock by a ∷ []) (unblocked c by.0)
unblock_tells h c by a g k = record {
  once = once_unblocked c.waiting c.notified by.0 g.once;
  waits = λ t w. waits_on t h (unblock by a) (turn t by.0 (apart c.waiting c.notified t by.0 g.once w k)) refl (g.waits t w);
  told = λ t w. (let p = has_without c.notified by.0 t w in notified_on t h (unblock by a) p.0 (g.told t p.1));
}

abbrev withdraw : ThreadNo → ℤ → Entry
withdraw by a = change by ops.Withdraw a (pos 0) replies.Ok

withdraw_tells : (h : List Entry) (c : Condition) (by : ThreadNo) (a : ℤ) → Told h c → has c.waiting by.0 ≡ true → Told (h ++ withdraw by a ∷ []) (withdrawn c by.0)
withdraw_tells h c by a g k = record {
  once = once_withdrawn c.waiting c.notified by.0 g.once;
  waits = λ t w. (let p = has_without c.waiting by.0 t w in waits_on t h (withdraw by a) p.0 refl (g.waits t p.1));
  told = λ t w. notified_on t h (withdraw by a) (apart c.waiting c.notified by.0 t g.once k w) (g.told t w);
}

one : (h : List Entry) (c d : Condition) (by : ThreadNo) (op : Op) (a : ℤ) (x : Option ℕ) (b : ℤ) (r : Reply) → Told h c → step c by.0 op x b r ≡ Some d → Told (h ++ change by op a b r ∷ []) d
one h c d by ops.Enter a (Some zero) (pos zero) replies.Ok g e = made (Told (h ++ enter by a ∷ [])) (is_away c by.0) (entered c by.0) d (enter_tells h c by a g) e
one h c d by ops.NotifyOne a (Some zero) (pos zero) (replies.Thread u) g e = made (Told (h ++ one_told by u a ∷ [])) (has c.waiting u.0) (moved c u.0) d (one_tells h c by u a g) e
one h c d by ops.NotifyOne a (Some zero) (pos zero) replies.Nobody g e = made (Told (h ++ nobody_told by a ∷ [])) (length c.waiting == 0) c d (λ _. nobody_tells h c by a g) e
one h c d by ops.NotifyAll a (Some zero) (pos zero) (replies.Number k) g e = made (Told (h ++ all_told by k a ∷ [])) (int_eq k (pos (length c.waiting))) (all_moved c) d (λ _. all_tells h c by k a g) e
one h c d by ops.Unblock a (Some zero) (pos zero) replies.Ok g e = made (Told (h ++ unblock by a ∷ [])) (has c.notified by.0) (unblocked c by.0) d (unblock_tells h c by a g) e
one h c d by ops.Withdraw a (Some zero) (pos zero) replies.Ok g e = made (Told (h ++ withdraw by a ∷ [])) (has c.waiting by.0) (withdrawn c by.0) d (withdraw_tells h c by a g) e
one h c d by _ a _ _ _ g e = cc e

first : Told [] opening
first = record { once = λ k. omega arith; waits = λ t w. cc w; told = λ t w. cc w }

told_by : (h : List Entry) (c : Condition) → run (at_entry step) (Some opening) h ≡ Some c → Told h c
told_by h c is = along (at_entry step) Told (λ xs m t e g on. one xs m t e.by e.op e.a (small_of e.a) e.b e.reply g on) h [] opening c first is

-- ---- laws

-- the change stands where the state allows it
record Stands (before : List Entry) (e : Entry) : Type 0 where
  now : Condition
  next : Condition
  tells : Told before now
  one_more : at_entry step now e ≡ Some next

stands : (before rest : List Entry) (e : Entry) → IsLegal kinds.Condition (before ++ e ∷ rest) → Stands before e
stands before rest e is =
    let c = reaches ACondition (at_entry step) (λ m e. refl) (before ++ e ∷ rest) opening is in
    let p = parted (at_entry step) opening c.0 before e rest c.1 in
    record { now = p.now; next = p.next; tells = told_by before p.now p.leads; one_more = p.one }

unblocks : (c d : Condition) (by : ℕ) (op : Op) (a : Option ℕ) (b : ℤ) (r : Reply) → is_unblock op ≡ true → step c by op a b r ≡ Some d → has c.notified by ≡ true
unblocks c d by ops.Unblock (Some zero) (pos zero) replies.Ok w e = made (λ _. has c.notified by ≡ true) (has c.notified by) (unblocked c by) d (λ h. h) e
unblocks c d by ops.Unblock _ _ _ w e = cc e
unblocks c d by _ _ _ _ w e = cc w

pub unblocked_was_notified : (before rest : List Entry) (e : Entry) → IsLegal kinds.Condition (before ++ e ∷ rest) → is_unblock e.op ≡ true → WasNotified e.by.0 before
unblocked_was_notified before rest e is w = let s = stands before rest e is in s.tells.told e.by.0 (unblocks s.now s.next e.by.0 e.op (small_of e.a) e.b e.reply w s.one_more)

withdraws : (c d : Condition) (by : ℕ) (op : Op) (a : Option ℕ) (b : ℤ) (r : Reply) → is_withdraw op ≡ true → step c by op a b r ≡ Some d → has c.waiting by ≡ true
withdraws c d by ops.Withdraw (Some zero) (pos zero) replies.Ok w e = made (λ _. has c.waiting by ≡ true) (has c.waiting by) (withdrawn c by) d (λ h. h) e
withdraws c d by ops.Withdraw _ _ _ w e = cc e
withdraws c d by _ _ _ _ w e = cc w

pub withdrawn_waits : (before rest : List Entry) (e : Entry) → IsLegal kinds.Condition (before ++ e ∷ rest) → is_withdraw e.op ≡ true → Waits e.by.0 before
withdrawn_waits before rest e is w = let s = stands before rest e is in s.tells.waits e.by.0 (withdraws s.now s.next e.by.0 e.op (small_of e.a) e.b e.reply w s.one_more)

notified_one : (c d : Condition) (by : ℕ) (u : ThreadNo) (a : Option ℕ) (b : ℤ) → step c by ops.NotifyOne a b (replies.Thread u) ≡ Some d → has c.waiting u.0 ≡ true
notified_one c d by u (Some zero) (pos zero) e = made (λ _. has c.waiting u.0 ≡ true) (has c.waiting u.0) (moved c u.0) d (λ h. h) e
notified_one c d by u _ _ e = cc e

pub notified_waits : (before rest : List Entry) (e : Entry) (t : ThreadNo) → IsLegal kinds.Condition (before ++ e ∷ rest) → e.op ≡ ops.NotifyOne → e.reply ≡ replies.Thread t → Waits t.0 before
notified_waits before rest e t is op r =
    let s = stands before rest e is in
    let one_ : step s.now e.by.0 ops.NotifyOne (small_of e.a) e.b (replies.Thread t) ≡ Some s.next = subst (λ x. step s.now e.by.0 ops.NotifyOne (small_of e.a) e.b x ≡ Some s.next) r (subst (λ o. step s.now e.by.0 o (small_of e.a) e.b e.reply ≡ Some s.next) op s.one_more) in
    s.tells.waits t.0 (notified_one s.now s.next e.by.0 t (small_of e.a) e.b one_)
