-- Whether a thread is to complete the phase of a barrier: it stays so while others act, and an arrival tells it.
use Rattle.std.proofs.Common.{◌≡◌, ◌≢◌, ℕ, zero, ◌-◌, ◌==◌, ◌&&◌, ◌∙◌, ℤ, pos, Bool, true, false, [], Option, Some, None, MatchOption, is_some, is_none, refl, sym, ap, subst, nat_le, nat_lt, ◌^◌, if◌then◌else◌, ne_eqb}
use Rattle.std.proofs.lemmas.Bool.{and_parts, eqb-true}
use mathlib.Core.List.{IsPrefix}
use Rattle.cx_names.specs.Replies.{int_eq}
use Rattle.cx_names.specs.declared.Reply.{Reply}
use Rattle.cx_names.specs.declared.Reply.TheVariants as replies
use Rattle.cx_machine.specs.declared.kind.Entry.{Entry}
use Rattle.cx_machine.specs.declared.kind.Look.{Look}
use Rattle.cx_machine.specs.declared.kind.Op.{Op}
use Rattle.cx_machine.specs.declared.kind.Op.TheVariants as ops
use Rattle.cx_names.specs.declared.ThreadNo.{ThreadNo}
use Rattle.cx_machine.specs.Meaning.{change}
use Rattle.cx_machine.specs.Words.{is_thread, small_of, when}
use Rattle.cx_machine.specs.Barrier.{Barrier, can_arrive, arrived, dropped, completed, step}
use Rattle.cx_machine.proofs.Owners.{kept_by, only_owner}
use Rattle.cx_turn.specs.declared.view.View.{View}
use Rattle.cx_turn.specs.Positions.{positions}
use Rattle.cx_turn.specs.Acts.{Makes, Looks}
use Rattle.cx_turn.proofs.Histories.{head_is}
use Rattle.cx_cell.specs.Seen.{At}
use Rattle.cx_cell.proofs.Lasting.{none_own, lasts, so_after}
use Rattle.cx_barrier.specs.Kinds.{meeting}
use Rattle.cx_barrier.specs.Barriers.{IsBarrierPassWith, IsCompleting, IsDueBy, BarrierMakes, Counts}
use Rattle.cx_barrier.specs.declared.barrier.Barrier.{Barrier as Meetings}
use Rattle.cx_barrier.specs.declared.pass.BarrierPass.{BarrierPass}
use Rattle.cx_barrier.specs.declared.acts.Completing.{Completing}
use Rattle.cx_barrier.specs.declared.acts.Counted.{Counted}
use Rattle.cx_kinds.specs.Sights.{IsOfSame}
use Rattle.cx_kinds.specs.Tokens.{Owing, IsBarrierToken}
use Rattle.cx_kinds.proofs.Completing.{IsOwn, own_step}
use Rattle.cx_kinds.proofs.Holding.{same_thread}

-- the next state, where its needs are met
met_needs : {S : Type 0} (c : Bool) (s t : S) → when c s ≡ Some t → (c ≡ true) × (s ≡ t)
met_needs true s t e = (refl, cc)
met_needs false s t e = absurd (let no : ◌≡◌ {A = Option _} None (Some t) = e in cc)

-- where nobody is to complete the phase, this thread isn't
nobody : (o : Option ℕ) (n : ℕ) → is_none o ≡ true → is_thread o n ≡ false
nobody None n e = refl
nobody (Some t) n e = absurd (let no : false ≡ true = e in cc)

-- nor is it after the arrival of another
other_last : (by n : ℕ) (last : Bool) → by ≢ n → is_thread (if last then Some by else None) n ≡ false
other_last by n true ne = ne_eqb by n ne
other_last by n false ne = refl

arrived_other : (b : Barrier) (by n k : ℕ) (due : Bool) → by ≢ n → is_none b.completing ≡ true → Owing due b n → Owing due (arrived b by k) n
arrived_other b by n k due ne none owing = other_last by n (b.remaining - k == 0) ne ∙ (sym (nobody b.completing n none) ∙ owing)

owing_step : (b b' : Barrier) (by n : ℕ) (due : Bool) (op : Op) (a : Option ℕ) (x : ℤ) (r : Reply) → by ≢ n → Owing due b n → step b by op a x r ≡ Some b' → Owing due b' n
owing_step b b' by n due ops.Arrive (Some k) (pos zero) (replies.Number p) ne owing e =
    let d = met_needs (nat_le 1 k && can_arrive b k && int_eq p (pos b.phase)) (arrived b by k) b' e in
    let can = and_parts (nat_le 1 k) (can_arrive b k) (and_parts (nat_le 1 k && can_arrive b k) (int_eq p (pos b.phase)) d.0).0 in
    subst (λ (c : Barrier). Owing due c n) d.1 (arrived_other b by n k due ne (and_parts (is_none b.completing) (nat_le k b.remaining) can.1).0 owing)
owing_step b b' by n due ops.Drop (Some zero) (pos zero) (replies.Number p) ne owing e =
    let d = met_needs (can_arrive b 1 && int_eq p (pos b.phase)) (dropped b by) b' e in
    let can = and_parts (can_arrive b 1) (int_eq p (pos b.phase)) d.0 in
    subst (λ (c : Barrier). Owing due c n) d.1 (arrived_other b by n 1 due ne (and_parts (is_none b.completing) (nat_le 1 b.remaining) can.0).0 owing)
owing_step b b' by n due ops.Complete (Some zero) (pos zero) replies.Ok ne owing e =
    let d = met_needs (is_thread b.completing by && nat_lt b.phase (2 ^ 32 - 1)) (completed b) b' e in
    subst (λ (c : Barrier). Owing due c n) d.1 (sym (only_owner b.completing by n ne (and_parts (is_thread b.completing by) (nat_lt b.phase (2 ^ 32 - 1)) d.0).0) ∙ owing)
owing_step b b' by n due _ _ _ _ ne owing e = absurd (let no : ◌≡◌ {A = Option Barrier} None (Some b') = e in cc)

-- ---- views

owing_on : (due : Bool) (n : ℕ) (b b' : Barrier) (e : Entry) → e.by.0 ≢ n → Owing due b n → meeting.step b e ≡ Some b' → Owing due b' n
owing_on due n b b' e ne owing s = owing_step b b' e.by.0 n due e.op (small_of e.a) e.b e.reply ne owing s

-- a pass that made no change is to complete nothing
pub never_owing : (v : View Barrier) → v.start.completing ≡ None → positions v.number 0 v.front ≡ [] → At meeting.step (Owing false) v
never_owing v opened none m leads = kept_by meeting.step (λ e. e.by.0 ≢ v.number) (λ b. Owing false b v.number) (λ b b' e ne o s. owing_on false v.number b b' e ne o s) v.front v.start m (none_own v.number v.front none) (ap (λ o. is_thread o v.number) opened) leads

-- ---- tokens

-- the pass of the same thread, with what the token has
pub with_owing : (b : Meetings) (p q : BarrierPass) (o : Option Completing) (v w : View Barrier) → IsBarrierToken b (record { pass = p; completing = o }) v → IsBarrierPassWith b q w → IsPrefix v.front w.front → w.start ≡ v.start → w.number ≡ v.number → w.mine ≡ v.mine → IsBarrierToken b (record { pass = q; completing = o }) w
with_owing b p q o v w t pass later start number mine = record {
  pass = pass;
  own = owned o t.own;
  owing = lasts meeting (Owing (is_some o)) (owing_on (is_some o)) v w later t.pass.pass.known pass.pass.known t.pass.pass.counts pass.pass.counts start number mine t.owing;
  opened = ap (λ (s : Barrier). s.completing) start ∙ t.opened;
}
  where
    same : p.pass.number ≡ q.pass.number
    same = same_thread p.pass.number q.pass.number (sym t.pass.pass.numbered ∙ (sym number ∙ pass.pass.numbered))

    owned : (x : Option Completing) → MatchOption x (Unit {0}) (λ c. c.by ≡ p.pass.number) → MatchOption x (Unit {0}) (λ c. c.by ≡ q.pass.number)
    owned None h = tt
    owned (Some c) h = h ∙ same

pub looked_owing : (b : Meetings) (p q : BarrierPass) (o : Option Completing) (v w : View Barrier) (l : Look) → IsBarrierToken b (record { pass = p; completing = o }) v → IsBarrierPassWith b q w → Looks meeting v w l → IsBarrierToken b (record { pass = q; completing = o }) w
looked_owing b p q o v w l t pass is = with_owing b p q o v w t pass is.later (ap (λ (x : View Barrier). x.start) is.view) (ap (λ (x : View Barrier). x.number) is.view) (ap (λ (x : View Barrier). x.mine) is.view)

-- the pass of the thread that made this change
changed_owing : (b : Meetings) (p q : BarrierPass) (o o' : Option Completing) (v w : View Barrier) (e : Entry) (n : ℕ) → IsBarrierToken b (record { pass = p; completing = o }) v → IsBarrierPassWith b q w → (is : Makes meeting v w e n) → e.by ≡ p.pass.number → is_some is.after.completing ≡ is_some o' → MatchOption o' (Unit {0}) (λ c. c.by ≡ q.pass.number) → IsBarrierToken b (record { pass = q; completing = o' }) w
changed_owing b p q o o' v w e n t pass is by tells own =
    let mine : e.by.0 ≡ v.number = ap (λ (u : ThreadNo). u.0) by ∙ sym t.pass.pass.numbered in
    let one : is_some is.after.completing ≡ is_thread is.after.completing e.by.0 = subst (λ (x : Option Barrier). IsOwn e.by.0 x) is.enabled (own_step is.now e.by.0 e.op (small_of e.a) e.b e.reply) in
    record {
      pass = pass;
      own = own;
      owing = so_after meeting (Owing (is_some o')) v w e n is mine (sym one ∙ tells);
      opened = ap (λ (x : View Barrier). x.start.completing) is.view ∙ t.opened;
    }

-- an arrival tells whether its thread is to complete the phase
pub counted_owing : (b : Meetings) (p q : BarrierPass) (o : Option Completing) (e : Entry) (c : Counted) → e.by ≡ p.pass.number → Counts b p q e c → (v : View Barrier) → IsBarrierToken b (record { pass = p; completing = o }) v → (w : View Barrier) × IsBarrierToken b (record { pass = q; completing = c.completing }) w × Makes meeting v w e c.at
counted_owing b p q o e c by is v t =
    let d = is.1 v t.pass in
    (d.0, changed_owing b p q o c.completing v d.0 e c.at t d.1 d.2.0 by d.2.1 (own_of c.completing is.0), d.2.0)
  where
    own_of : (x : Option Completing) → IsDueBy b q x → MatchOption x (Unit {0}) (λ k. k.by ≡ q.pass.number)
    own_of None h = tt
    own_of (Some k) h = h.0

-- a phase that the thread is to complete
pub owed_phase : (b : Meetings) (p : BarrierPass) (o : Option Completing) (c : Completing) (v : View Barrier) → o ≡ Some c → IsBarrierToken b (record { pass = p; completing = o }) v → IsCompleting b p c
owed_phase b p o c v is token = owed (subst (λ (x : Option Completing). IsBarrierToken b (record { pass = p; completing = x }) v) is token)
  where
    only_it : (x : Option ℕ) (n : ℕ) → is_thread x n ≡ true → x ≡ Some n
    only_it None n e = absurd (let no : false ≡ true = e in cc)
    only_it (Some k) n e = ap Some (eqb-true k n e)

    owed : IsBarrierToken b (record { pass = p; completing = Some c }) v → IsCompleting b p c
    owed t = (t.own, λ w is' m leads. only_it m.completing w.number (subst (λ (u : View Barrier). At meeting.step (Owing true) u) (head_is v w (sym t.pass.pass.views ∙ is'.pass.views)) t.owing m leads))

none_due : (b b' : Barrier) (by : ℕ) (a : Option ℕ) (x : ℤ) (r : Reply) → step b by ops.Complete a x r ≡ Some b' → is_some b'.completing ≡ false
none_due b b' by (Some zero) (pos zero) replies.Ok e = let d = met_needs (is_thread b.completing by && nat_lt b.phase (2 ^ 32 - 1)) (completed b) b' e in sym (ap (λ (c : Barrier). is_some c.completing) d.1)
none_due b b' by _ _ _ e = absurd (let no : ◌≡◌ {A = Option Barrier} None (Some b') = e in cc)

-- once the phase is completed its thread is to complete none
pub completed_owing : (b : Meetings) (p q : BarrierPass) (o : Option Completing) (n : ℕ) → BarrierMakes b p q (change p.pass.number ops.Complete (pos 0) (pos 0) replies.Ok) n → (v : View Barrier) → IsBarrierToken b (record { pass = p; completing = o }) v → (w : View Barrier) × IsBarrierToken b (record { pass = q; completing = None }) w × Makes meeting v w (change p.pass.number ops.Complete (pos 0) (pos 0) replies.Ok) n
completed_owing b p q o n is v t =
    let d = is v t.pass in
    let m = d.2 in
    (d.0, changed_owing b p q o None v d.0 (change p.pass.number ops.Complete (pos 0) (pos 0) replies.Ok) n t d.1 m refl (none_due m.now m.after p.pass.number.0 (small_of (pos 0)) (pos 0) replies.Ok m.enabled) tt, m)

-- what a change leaves of a pass
pub same_pass : (v w : View Barrier) (e : Entry) (n : ℕ) → Makes meeting v w e n → IsOfSame v w
same_pass v w e n is = record { number = ap (λ (x : View Barrier). x.number) is.view; seats = ap (λ (x : View Barrier). x.seats) is.view; start = ap (λ (x : View Barrier). x.start) is.view; splits = ap (λ (x : View Barrier). x.splits) is.view }

-- the token once its phase is completed without an item
pub given_up_owing : (b : Meetings) (p q : BarrierPass) (o : Option Completing) (n : ℕ) → BarrierMakes b p q (change p.pass.number ops.Complete (pos 0) (pos 0) replies.Ok) n → (v : View Barrier) → IsBarrierToken b (record { pass = p; completing = o }) v → (w : View Barrier) × IsBarrierToken b (record { pass = q; completing = None }) w × IsOfSame v w
given_up_owing b p q o n is v t = let d = completed_owing b p q o n is v t in (d.0, d.1, same_pass v d.0 (change p.pass.number ops.Complete (pos 0) (pos 0) replies.Ok) n d.2)
