-- A pass of a barrier, and the phase that it is to complete, through each of its calls.
use Rattle.std.proofs.Common.{◌≡◌, ◌∙◌, ℕ, ◌+◌, ◌-◌, ◌<◌, ◌≤◌, ◌^◌, ℤ, pos, List, ◌∷◌, ◌++◌, [], length, Option, Some, None, is_some, option_map, Bool, true, false, refl, sym, ap, subst, arith, length-append}
use mathlib.Core.List.{IsPrefix}
use Rattle.cx_names.specs.declared.ThreadNo.{ThreadNo}
use Rattle.cx_names.specs.declared.Reply.{Reply}
use Rattle.cx_names.specs.declared.Reply.TheVariants as replies
use Rattle.cx_machine.specs.declared.kind.Entry.{Entry}
use Rattle.cx_machine.specs.declared.kind.Look.{Look}
use Rattle.cx_machine.specs.declared.kind.Op.{Op}
use Rattle.cx_machine.specs.declared.kind.Op.TheVariants as ops
use Rattle.cx_machine.specs.Meaning.{change, run}
use Rattle.cx_machine.specs.Barrier as machine
use Rattle.cx_turn.specs.declared.view.View.{View}
use Rattle.cx_turn.specs.declared.pass.Pass.{Pass}
use Rattle.cx_turn.specs.Acts.{Makes, Looks, Finds}
use Rattle.cx_turn.proofs.Histories.{head_is}
use Rattle.cx_cell.specs.Cells.{IsCellPassWith}
use Rattle.cx_cell.specs.Seen.{At, Tells}
use Rattle.cx_cell.proofs.Lasting.{others_since, others_found, lasts, lasts_found, leads_after, so_after}
use Rattle.cx_barrier.specs.declared.barrier.Barrier.{Barrier}
use Rattle.cx_barrier.specs.declared.pass.BarrierPass.{BarrierPass}
use Rattle.cx_barrier.specs.declared.acts.Completing.{Completing}
use Rattle.cx_barrier.specs.Kinds.{meeting, kept}
use Rattle.cx_barrier.specs.Phases.{phase_named, last_phase}
use Rattle.cx_barrier.specs.Barriers.{IsBarrierPassWith, Completes, IsCompleting, KeepsCompleting, IsDueBy, IsArrival}
use Rattle.cx_barrier.proofs.Arrivals.{due_on, IsCounted, counts_so, due_told}
use Rattle.cx_barrier.proofs.Bounds.{phase_low}
use Rattle.cx_barrier.proofs.LastPhases.{last_on, last_own, last_kept, arrival_names}

-- a pass knows one view alone
pub same_view : (b : Barrier) (q : BarrierPass) (w u : View machine.Barrier) → IsCellPassWith kept meeting b.cell q.pass w → IsBarrierPassWith b q u → w ≡ u
same_view b q w u is isu = head_is w u (sym is.views ∙ isu.pass.views)

-- what a call on the cell made of the pass within
module _ (b : Barrier) (p : BarrierPass) (o : Pass machine.Barrier) (v w : View machine.Barrier) (is : IsBarrierPassWith b p v) (is' : IsCellPassWith kept meeting b.cell o w) where
  within : (q : BarrierPass) → q.pass ≡ o → IsCellPassWith kept meeting b.cell q.pass w
  within q same = subst (λ (x : Pass machine.Barrier). IsCellPassWith kept meeting b.cell x w) (sym same) is'

  same_number : (q : BarrierPass) → q.pass ≡ o → w.number ≡ v.number → p.pass.number ≡ q.pass.number
  same_number q same number =
      let e : p.pass.number.0 ≡ q.pass.number.0 = sym is.pass.numbered ∙ (sym number ∙ (within q same).numbered) in
      λ i. record { 0 = e i }

  -- ---- the phase of its last arrival

  -- of a pass that has seen more, and made nothing
  pub sees_on : (q : BarrierPass) → q.pass ≡ o → IsPrefix v.front w.front → w.number ≡ v.number → w.mine ≡ v.mine → q.phase ≡ p.phase → IsBarrierPassWith b q w
  sees_on q same more number mine phase = record {
    pass = within q same;
    phase = (λ i. last_phase (number i) (sym more.1 i)) ∙ (last_on v.number v.front more.0 (others_since meeting v w more is.pass.known is'.known is.pass.counts is'.counts number mine) ∙ (is.phase ∙ ap (option_map pos) (sym phase)));
  }

  pub looks_on : (q : BarrierPass) → q.pass ≡ o → (l : Look) → Looks meeting v w l → q.phase ≡ p.phase → IsBarrierPassWith b q w
  looks_on q same l look = sees_on q same look.later (ap (λ (x : View machine.Barrier). x.number) look.view) (ap (λ (x : View machine.Barrier). x.mine) look.view)

  module _ (e : Entry) (n : ℕ) (made : Makes meeting v w e n) (by : e.by ≡ p.pass.number) where
    own : e.by.0 ≡ v.number
    own = ap (λ (t : ThreadNo). t.0) by ∙ sym is.pass.numbered

    at_last : last_phase w.number w.front ≡ last_phase v.number (made.found ++ e ∷ [])
    at_last = λ i. last_phase ((ap (λ (x : View machine.Barrier). x.number) made.view) i) ((ap (λ (x : View machine.Barrier). x.front) made.view) i)

    -- of one that arrived
    pub arrives_on : (q : BarrierPass) → q.pass ≡ o → (k : ℕ) → phase_named e.op e.reply ≡ Some (pos k) → q.phase ≡ Some k → IsBarrierPassWith b q w
    arrives_on q same k named phase = record { pass = within q same; phase = at_last ∙ (last_own v.number made.found e (pos k) own named ∙ ap (option_map pos) (sym phase)) }

    -- of one that made another change
    pub changes_on : (q : BarrierPass) → q.pass ≡ o → phase_named e.op e.reply ≡ None → q.phase ≡ p.phase → IsBarrierPassWith b q w
    changes_on q same named phase =
        let found : last_phase v.number made.found ≡ last_phase v.number v.front = ap (last_phase v.number) (sym (made.later).1) ∙ last_on v.number v.front (made.later).0 (others_found meeting v w e n made is.pass.known is'.known is.pass.counts is'.counts own) in
        record { pass = within q same; phase = at_last ∙ (last_kept v.number made.found e own named ∙ (found ∙ (is.phase ∙ ap (option_map pos) (sym phase)))) }

    -- and it has one change less
    pub less_left : (q : BarrierPass) → q.pass ≡ o → 1 ≤ p.pass.left → q.pass.left + 1 ≡ p.pass.left
    less_left q same one =
        let less : w.left ≡ v.left - 1 = ap (λ (x : View machine.Barrier). x.left) made.view in
        let had = is.pass.counted.may in
        let has = (within q same).counted.may in
        omega (arith, less, had, has, one)

  -- after a look it has as many
  pub same_left : (q : BarrierPass) → q.pass ≡ o → (l : Look) → Looks meeting v w l → q.pass.left ≡ p.pass.left
  same_left q same l look =
      let less : w.left ≡ v.left = ap (λ (x : View machine.Barrier). x.left) look.view in
      let had = is.pass.counted.may in
      let has = (within q same).counted.may in
      omega (arith, less, had, has)

  -- ---- the phase that it is to complete

  -- stays so where it has seen more, and made nothing
  pub keeps_due : (q : BarrierPass) → q.pass ≡ o → IsPrefix v.front w.front → w.start ≡ v.start → w.number ≡ v.number → w.mine ≡ v.mine → KeepsCompleting b p q
  keeps_due q same more start number mine c due =
      let at = lasts meeting Completes due_on v w more is.pass.known is'.known is.pass.counts is'.counts start number mine (due.1 v is) in
      (due.0 ∙ same_number q same number, λ u isu. subst (λ (z : View machine.Barrier). At meeting.step Completes z) (same_view b q w u (within q same) isu) at)

  -- no phase is as high as a counter's last value
  low_at : (es : List Entry) (m : machine.Barrier) → length es ≤ length w.front → run meeting.step (Some w.start) es ≡ Some m → m.phase < 2 ^ 28
  low_at es m = phase_low w es m is'.known (ap (λ (x : machine.Barrier). x.phase) is'.started ∙ b.opened)

  -- it is completed where it is found to be due
  pub due_found : (P : machine.Barrier → Type 0) (found : Finds meeting P v w) (c : Completing) → IsCompleting b p c → Completes found.now p.pass.number.0 × (found.now.phase < 2 ^ 32 - 1)
  due_found P found c due =
      let at = lasts_found meeting Completes due_on P v w found is.pass.known is'.known is.pass.counts is'.counts (due.1 v is) in
      let number : w.number ≡ p.pass.number.0 = ap (λ (x : View machine.Barrier). x.number) found.view ∙ is.pass.numbered in
      let start : w.start ≡ v.start = ap (λ (x : View machine.Barrier). x.start) found.view in
      let leads : run meeting.step (Some w.start) w.front ≡ Some found.now = ap (λ (s : machine.Barrier). run meeting.step (Some s) w.front) start ∙ found.leads in
      let low = low_at w.front found.now (omega arith) leads in
      (subst (λ (n : ℕ). Completes found.now n) number (at found.now leads), omega (arith, low))

  -- ---- arrivals

  module _ (op : Op) (a : ℤ) (r : Reply) (n : ℕ) (arrival : IsArrival op a) (made : Makes meeting v w (change p.pass.number op a (pos 0) r) n) where
    -- what an arrival tells
    pub counted : IsCounted made.now made.after p.pass.number.0 r
    counted = counts_so made.now made.after p.pass.number op a r arrival made.enabled

    pub low_now : made.now.phase < 2 ^ 28
    low_now =
        let front : length w.front ≡ length (made.found ++ change p.pass.number op a (pos 0) r ∷ []) = ap (λ (x : View machine.Barrier). length x.front) made.view in
        let long = length-append made.found (change p.pass.number op a (pos 0) r ∷ []) in
        let start : w.start ≡ v.start = ap (λ (x : View machine.Barrier). x.start) made.view in
        low_at made.found made.now (omega (arith, front, long)) (ap (λ (s : machine.Barrier). run meeting.step (Some s) made.found) start ∙ made.leads)

    after_told : (told : Bool) → Tells meeting.step p.pass.number ops.Complete told w → (told ≡ true → made.after.completing ≡ Some p.pass.number.0) × (told ≡ false → made.after.completing ≡ None)
    after_told told tells =
        let low = low_now in let stays = counted.stays in
        due_told made.after p.pass.number told (omega (arith, low, stays)) counted.due (tells made.after (leads_after meeting v w (change p.pass.number op a (pos 0) r) n made))

    -- the pass that made it
    pub arrived_pass : (k : ℕ) → r ≡ replies.Number (pos k) → (q : BarrierPass) → q.pass ≡ o → q.phase ≡ Some k → IsBarrierPassWith b q w
    arrived_pass k reply q same phase = arrives_on (change p.pass.number op a (pos 0) r) n made refl q same k (ap (phase_named op) reply ∙ arrival_names op a (pos k) arrival) phase

    module _ (told : Bool) (t : Option Completing) (tells : Tells meeting.step p.pass.number ops.Complete told w) (last : told ≡ true → t ≡ Some (record { by = o.number })) (early : told ≡ false → t ≡ None) where
      -- the phase is to be completed exactly where that was told
      due_exactly : is_some made.after.completing ≡ is_some t
      due_exactly = by_cases told refl
        where
          by_cases : (x : Bool) → told ≡ x → is_some made.after.completing ≡ is_some t
          by_cases true e = ap is_some ((after_told told tells).0 e) ∙ sym (ap is_some (last e))
          by_cases false e = ap is_some ((after_told told tells).1 e) ∙ sym (ap is_some (early e))

      pub counts_it : (k at : ℕ) → r ≡ replies.Number (pos k) → at ≡ n → (m : Makes meeting v w (change p.pass.number op a (pos 0) (replies.Number (pos k))) at) × (is_some m.after.completing ≡ is_some t)
      counts_it k at reply place = subst (λ (x : Reply × ℕ). (m : Makes meeting v w (change p.pass.number op a (pos 0) x.0) x.1) × (is_some m.after.completing ≡ is_some t)) (λ i. (reply i, sym place i)) (made, due_exactly)

      -- and then by this thread
      pub due_after : (q : BarrierPass) → q.pass ≡ o → IsDueBy b q t
      due_after q same = by_cases told refl
        where
          by_cases : (x : Bool) → told ≡ x → IsDueBy b q t
          by_cases true e =
              let at : At meeting.step Completes w = so_after meeting Completes v w (change p.pass.number op a (pos 0) r) n made (sym is.pass.numbered) ((after_told told tells).0 e) in
              subst (λ (x : Option Completing). IsDueBy b q x) (sym (last e)) (ap (λ (x : Pass machine.Barrier). x.number) (sym same), λ u isu. subst (λ (z : View machine.Barrier). At meeting.step Completes z) (same_view b q w u (within q same) isu) at)
          by_cases false e = subst (λ (x : Option Completing). IsDueBy b q x) (sym (early e)) tt
