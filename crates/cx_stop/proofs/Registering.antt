-- What a registration makes of a pass.
use Rattle.std.proofs.Common.{◌≡◌, ◌∙◌, ℕ, ◌+◌, ◌-◌, ◌*◌, ◌<◌, ◌≤◌, ◌^◌, ◌&&◌, pos, true, List, [], ◌∷◌, ◌++◌, Option, Some, IsTrue, refl, sym, ap, subst, arith, append-nil, ne_eqb, inr}
use Rattle.std.proofs.lemmas.Bool.{and_parts}
use mathlib.Core.List.{IsPrefix}
use Rattle.cx_names.specs.declared.Reply.TheVariants as replies
use Rattle.cx_machine.specs.declared.kind.Op.{Op}
use Rattle.cx_machine.specs.declared.kind.Op.TheVariants as ops
use Rattle.cx_machine.specs.Words.{has, without, small_of}
use Rattle.cx_machine.specs.Kept.{made}
use Rattle.cx_machine.specs.Meaning.{names, times, bit}
use Rattle.cx_machine.specs.Callbacks.{debt, lives}
use Rattle.cx_machine.specs.Distinct.{bit_le}
use Rattle.cx_machine.specs.Stop.{Stop, step, runs, is_requested, is_fresh, began, registered_too}
use Rattle.cx_turn.specs.declared.view.View.{View}
use Rattle.cx_turn.specs.Positions.{positions}
use Rattle.cx_turn.specs.Passes.{IsPassAt}
use Rattle.cx_turn.specs.Views.{IsKnown, with_change, note_left, more}
use Rattle.cx_turn.proofs.Histories.{prefix_more}
use Rattle.cx_stop.specs.Kinds.{stopping}
use Rattle.cx_stop.specs.declared.pass.StopPass.{StopPass}
use Rattle.cx_turn.specs.Acts.{seen, Makes}
use Rattle.cx_turn.proofs.Moves.{found_own}
use Rattle.cx_turn.specs.declared.pass.Pass.{Pass}
use Rattle.cx_stop.specs.declared.steps.Put.{Put}
use Rattle.cx_stop.specs.declared.steps.Put.TheVariants as puts
use Rattle.cx_stop.specs.Puts.{PutUnder, Puts, IsUnder, put_cost}
use Rattle.cx_stop.specs.declared.state.StopState.{StopState}
use Rattle.cx_turn.specs.Views.{Has}
use Rattle.cx_stop.specs.Acts.{act, seen_at, Changed, IsRunning}
use Rattle.cx_stop.specs.Stops.{stop_id, IsStopPassWith, StopId, IsStopPassAt}
use Rattle.cx_stop.specs.Went.{Did, on_to}
use Rattle.cx_stop.specs.Runs.{Begins}
use Rattle.cx_stop.proofs.Members.{brought, registered_moves, now_moves, cost_is, runs_last}
use Rattle.cx_stop.proofs.Open.{small_is}
use Rattle.cx_stop.proofs.Going.{state_is, makes_of, looks_of}
use Rattle.cx_stop.proofs.Passing.{makes_on, looks_on, left_is, of_view}
use Rattle.cx_stop.proofs.Removing.{last_out, last_has}

-- an ID that is brought in is not one with a greater tag
other_tag : (n tag t : ℕ) → tag + 1 ≤ t → names (Some (n * 4096 + tag)) (n * 4096 + t) ≡ 0
other_tag n tag t le = ap bit (ne_eqb (n * 4096 + tag) (n * 4096 + t) (λ e. omega (arith, e, le)))

-- a registration brings in the ID of its tag alone
pub brings_tag : (n tag : ℕ) (op : Op) → n * 4096 + tag < 2 ^ 32 → brought op (Some (n * 4096 + tag)) ≡ Some (n * 4096 + tag) → (t : ℕ) → tag + 1 ≤ t → t < 4096 → names (brought op (small_of (pos (n * 4096 + tag)))) (n * 4096 + t) ≡ 0
brings_tag n tag op low one t more_ low_ = ap (λ (o : Option ℕ). names (brought op o) (n * 4096 + t)) (small_is (n * 4096 + tag) low) ∙ (ap (λ (o : Option ℕ). names o (n * 4096 + t)) one ∙ other_tag n tag t more_)

module _ (v w : View Stop) (tag n : ℕ) (low : v.number * 4096 + tag < 2 ^ 32) (ch : Changed v w (act v.number ops.Register (v.number * 4096 + tag) replies.Ok) n) where
  abbrev id : ℕ
  id = v.number * 4096 + tag

  en : step ch.now v.number ops.Register (Some id) (pos 0) replies.Ok ≡ Some ch.after
  en = ap (λ (o : Option ℕ). step ch.now v.number ops.Register o (pos 0) replies.Ok) (sym (small_is id low)) ∙ ch.enabled

  debt_is : debt ch.after ≡ debt ch.now + 2
  debt_is = made (λ t. debt t ≡ debt ch.now + 2) _ (registered_too ch.now id) ch.after (λ c. (registered_moves ch.now id).1) en

  pub holds_new : w.holds ≡ v.holds ++ id ∷ []
  holds_new = ap (λ (x : View Stop). x.holds) ch.view ∙ (λ i. more v.holds (small_is id low i))

  pub left_queue : 3 ≤ v.left → w.left + 3 ≡ v.left
  left_queue may =
      let d = debt_is in
      let c = cost_is (debt ch.now) (debt ch.after) (λ x. omega (arith, x, d)) in
      let l = ap (λ (x : View Stop). x.left) ch.view in
      omega (arith, d, c, l, may)

module _ (v w : View Stop) (tag n : ℕ) (low : v.number * 4096 + tag < 2 ^ 32) (ch : Changed v w (act v.number ops.RegisterNow (v.number * 4096 + tag) replies.Ok) n) where
  abbrev now_id : ℕ
  now_id = v.number * 4096 + tag

  now_en : step ch.now v.number ops.RegisterNow (Some now_id) (pos 0) replies.Ok ≡ Some ch.after
  now_en = ap (λ (o : Option ℕ). step ch.now v.number ops.RegisterNow o (pos 0) replies.Ok) (sym (small_is now_id low)) ∙ ch.enabled

  now_debt : debt ch.after ≡ debt ch.now + 1
  now_debt = made (λ t. debt t ≡ debt ch.now + 1) (is_requested ch.now && is_fresh ch.now v.number now_id) (began ch.now v.number now_id) ch.after (λ c. (now_moves ch.now v.number now_id (and_parts (is_requested ch.now) (is_fresh ch.now v.number now_id) c).1).1) now_en

  pub begins_now : positions v.number 0 v.front ≡ v.mine → Begins v w now_id n
  begins_now own =
      let e = act v.number ops.RegisterNow now_id replies.Ok in record {
        made = inr (makes_of v w e n ch);
        own = own;
        running = λ m leads.
            let at_after : runs ch.after.running v.number now_id ≡ true = made (λ x. runs x.running v.number now_id ≡ true) _ (began ch.now v.number now_id) ch.after (λ c. runs_last ch.now.running v.number now_id) now_en in
            let number : w.number ≡ v.number = ap (λ (x : View Stop). x.number) ch.view in
            (λ i. runs (state_is v w e n ch m leads i).running (number i) now_id) ∙ at_after;
      }

  pub left_now : 3 ≤ v.left → w.left + 2 ≡ v.left
  left_now may =
      let d = now_debt in
      let c = cost_is (debt ch.now) (debt ch.after) (λ x. omega (arith, x, d)) in
      let l = ap (λ (x : View Stop). x.left) ch.view in
      omega (arith, d, c, l, may)

-- once the note is split off
pub did_queue : (v w : View Stop) (id n : ℕ) → id < 2 ^ 32 → positions w.number 0 w.front ≡ w.mine → IsKnown stopping w → Makes stopping v w (act v.number ops.Register id replies.Ok) n → Did v (note_left w 1 0 (Some id)) (act v.number ops.Register id replies.Ok) n
did_queue v w id n low own known m =
    let e = act v.number ops.Register id replies.Ok in
    let en : step m.now v.number ops.Register (Some id) (pos 0) replies.Ok ≡ Some m.after = ap (λ (o : Option ℕ). step m.now v.number ops.Register o (pos 0) replies.Ok) (sym (small_is id low)) ∙ m.enabled in
    let s : m.after.sources ≡ m.now.sources = made (λ t. t.sources ≡ m.now.sources) _ (registered_too m.now id) m.after (λ c. refl) en in
    let share : ((v.share + m.after.sources) - m.now.sources) - 0 ≡ v.share = omega (arith, s) in
    let h = known.present.3.held id in
    let b = bit_le (lives known.present.1 id) in
    let front : w.front ≡ m.found ++ e ∷ [] = ap (λ (x : View Stop). x.front) m.view in
    let more_is : w.holds ≡ v.holds ++ id ∷ [] = ap (λ (x : View Stop). x.holds) m.view ∙ (λ i. more v.holds (small_is id low i)) in
    let h' : times id (v.holds ++ id ∷ []) ≤ bit (lives known.present.1 id) = subst (λ (l : List ℕ). times id l ≤ bit (lives known.present.1 id)) more_is h in
    let holds : without (more v.holds (small_of (pos id))) id ≡ v.holds = (λ i. without (more v.holds (small_is id low i)) id) ∙ last_out v.holds id (omega (arith, h', b)) in
    let x = note_left (with_change stopping (seen v m.found) e m.now m.after) 1 0 (Some id) in
    let view : note_left w 1 0 (Some id) ≡ x = ap (λ (z : View Stop). note_left z 1 0 (Some id)) m.view in record {
      went = record {
        later = subst (λ g. IsPrefix v.front g) (sym front) (prefix_more v.front m.found (e ∷ []) m.later);
        mine = ap (λ (z : View Stop). z.mine) m.view ∙ ap (λ (k : ℕ). v.mine ++ k ∷ []) (sym m.position);
        looks = ap (λ (z : View Stop). z.looks) m.view ∙ sym (append-nil v.looks);
        same = view ∙ ((λ i. record x { share = share i; holds = holds i }) ∙ sym (ap (λ (z : View Stop). on_to v z) view));
      };
      found = m.found;
      from = m.later;
      others = found_own stopping v w e n m refl own;
      ends = front;
      position = m.position;
    }

-- a registration under the turn, of the pass with its tags
module _ (i : StopId) {C : Type 0} where
  pub puts_of : (p : StopPass) (r : Pass Stop) (v w : View Stop) → IsStopPassAt i p v → IsPassAt stopping i.table i.start i.seats r w → (tag id : ℕ) → id < 2 ^ 32 → id ≡ v.number * 4096 + tag → p.next_tag ≤ tag → (x : C) (put : Put C) → 3 ≤ p.pass.left → PutUnder v w id x put
      → let q : StopPass = record { pass = r; next_tag = tag + 1 } in IsStopPassAt i q w × (r.left + put_cost put ≡ p.pass.left) × Puts v w (v.number * 4096 + tag) x put
  puts_of p r v w is at tag id low same le x put may u = by_put put (subst (λ (k : ℕ). PutUnder v w k x put) same u)
    where
      q : StopPass
      q = record { pass = r; next_tag = tag + 1 }

      small : v.number * 4096 + tag < 2 ^ 32
      small = omega (arith, low, same)

      more_tags : p.next_tag ≤ q.next_tag
      more_tags = omega (arith, le)

      has_left : 3 ≤ v.left
      has_left = let a = is.pass.counted.may in omega (arith, a, may)

      own : positions v.number 0 v.front ≡ v.mine
      own = is.pass.known.own is.pass.counts

      by_put : (z : Put C) → PutUnder v w (v.number * 4096 + tag) x z → IsStopPassAt i q w × (r.left + put_cost z ≡ p.pass.left) × Puts v w (v.number * 4096 + tag) x z
      by_put (puts.Queued n) ch = (
        makes_on i p q v w is at (act v.number ops.Register (v.number * 4096 + tag) replies.Ok) n ch more_tags (brings_tag v.number tag ops.Register small refl),
        left_is i 3 p.pass r v w is.pass at (left_queue v w tag n small ch has_left),
        (makes_of v w (act v.number ops.Register (v.number * 4096 + tag) replies.Ok) n ch, subst (λ (l : List ℕ). IsTrue (has l (v.number * 4096 + tag))) (sym (holds_new v w tag n small ch)) (last_has v.holds (v.number * 4096 + tag))),
      )
      by_put (puts.Now n c) (ch, e) = (
        makes_on i p q v w is at (act v.number ops.RegisterNow (v.number * 4096 + tag) replies.Ok) n ch more_tags (brings_tag v.number tag ops.RegisterNow small refl),
        left_is i 2 p.pass r v w is.pass at (left_now v w tag n small ch has_left),
        (begins_now v w tag n small ch own, e),
      )
      by_put (puts.Never k c) (lk, e) =
          let l = seen_at v.number ops.Never (v.number * 4096 + tag) replies.Ok k in (
            looks_on i p q v w is at l lk more_tags,
            left_is i 0 p.pass r v w is.pass at (let z = ap (λ (y : View Stop). y.left) lk.view in omega (arith, z)),
            (looks_of v w l lk, e),
          )

-- what a registration leaves with the pass, whichever view it has
module _ {C : Type 0} (s : StopState C) where
  pub under_of : (q : StopPass) (v w : View Stop) → IsStopPassWith s q w → (id : ℕ) (x : C) (put : Put C) → Puts v w id x put → IsUnder s q id put
  under_of q v w is id x (puts.Queued n) (m, h) = λ y iy. of_view (stop_id s) (λ (z : View Stop). Has z.holds (Some id)) q.pass w y is.pass iy.pass h
  under_of q v w is id x (puts.Now n c) (b, e) = λ y iy. of_view (stop_id s) (IsRunning id) q.pass w y is.pass iy.pass b.running
  under_of q v w is id x (puts.Never k c) h = tt
