-- What a change of the sources makes of a pass and a source.
use Rattle.std.proofs.Common.{◌≡◌, ◌∙◌, ℕ, ◌+◌, ◌-◌, ◌<◌, ◌≤◌, ◌^◌, Bool, false, List, [], ◌∷◌, ◌++◌, None, refl, sym, ap, subst, arith, cond, append-nil, nat_lt}
use mathlib.Core.List.{IsPrefix}
use Rattle.cx_names.specs.declared.Reply.TheVariants as replies
use Rattle.cx_machine.specs.declared.kind.Op.TheVariants as ops
use Rattle.cx_machine.specs.declared.kind.Entry.{Entry}
use Rattle.cx_machine.specs.Kept.{made}
use Rattle.cx_machine.specs.Callbacks.{debt}
use Rattle.cx_machine.specs.Stop.{Stop, can_add, with_another, without_one}
use Rattle.cx_turn.specs.declared.view.View.{View}
use Rattle.cx_turn.specs.Views.{IsKnown, with_change, both_of, taken_in, note_left, gone_of}
use Rattle.cx_turn.proofs.Histories.{prefix_refl, prefix_trans, prefix_more}
use Rattle.cx_stop.specs.Kinds.{stopping}
use Rattle.cx_turn.specs.Acts.{seen}
use Rattle.cx_stop.specs.Acts.{act, MayMake, Changed}
use Rattle.cx_stop.specs.Went.{Did, on_to}
use Rattle.cx_stop.proofs.Members.{cost_one}
use Rattle.cx_stop.proofs.Others.{sources_run}
use Rattle.cx_turn.specs.declared.pass.Pass.{Pass}
use Rattle.cx_turn.specs.Passes.{IsPassAt}
use Rattle.cx_stop.specs.declared.pass.StopPass.{StopPass}
use Rattle.cx_stop.specs.declared.pass.StopSource.{StopSource}
use Rattle.cx_stop.specs.Stops.{StopId, IsStopPassAt, IsSourceAt}
use Rattle.cx_stop.proofs.Passing.{sees_on, made as made_by}
use Rattle.cx_stop.proofs.Open.{open_another, open_drop}

-- no seat has more sources than there can be
pub share_small : (v : View Stop) → IsKnown stopping v → v.start.sources < 2 ^ 28 → v.share < 2 ^ 31
share_small v k few =
    let p = k.present.3 in
    let a = sources_run k.present.0 v.start k.present.1 p.leads in
    let b = p.bounded in
    let s = p.share in
    omega (arith, a, b, s, few)

pub may_another : (z : View Stop) → z.start.sources < 2 ^ 28 → 1 ≤ z.share → 1 ≤ z.left → MayMake z (act z.number ops.Another 0 replies.Ok)
may_another z few some may f now fnd =
    let a = sources_run f z.start now fnd.leads in
    let b = fnd.few in
    open_another z f now fnd some may (omega (arith, a, b, few))

pub may_drop : (z : View Stop) → 1 ≤ z.share → 1 ≤ z.left → MayMake z (act z.number ops.Drop 0 replies.Ok)
may_drop z some may f now fnd = open_drop z f now fnd some may

module _ (v y w : View Stop) (n : ℕ) (note : y.counts ≡ false) (calls : y.left ≡ 0) (ids : y.holds ≡ []) (known : IsKnown stopping (both_of v y)) (ch : Changed (both_of v y) w (act v.number ops.Another 0 replies.Ok) n) where
  abbrev e : Entry
  e = act v.number ops.Another 0 replies.Ok

  more_is : ch.after.sources ≡ ch.now.sources + 1
  more_is = made (λ t. t.sources ≡ ch.now.sources + 1) (can_add ch.now) (with_another ch.now) ch.after (λ c. refl) ch.enabled

  debt_is : debt ch.after ≡ debt ch.now
  debt_is = made (λ t. debt t ≡ debt ch.now) (can_add ch.now) (with_another ch.now) ch.after (λ c. refl) ch.enabled

  from : IsPrefix v.front ch.found
  from = prefix_trans v.front (both_of v y).front ch.found known.met.0 ch.at_.later

  front_is : w.front ≡ ch.found ++ e ∷ []
  front_is = ap (λ (z : View Stop). z.front) ch.view

  -- the pass has the share for the note
  pub share_there : y.share + 1 ≤ w.share
  share_there = let s = more_is in let a = ap (λ (z : View Stop). z.share) ch.view in omega (arith, s, a)

  pub did_another : Did v (note_left w 0 (y.share + 1) None) e n
  did_another =
      let s = more_is in
      let x = note_left (with_change stopping (seen (both_of v y) ch.found) e ch.now ch.after) 0 (y.share + 1) None in
      let view : note_left w 0 (y.share + 1) None ≡ x = ap (λ (z : View Stop). note_left z 0 (y.share + 1) None) ch.view in
      let share : (((v.share + y.share) + ch.after.sources) - ch.now.sources) - (y.share + 1) ≡ v.share = omega (arith, s) in
      let holds : v.holds ++ y.holds ≡ v.holds = ap (λ (l : List ℕ). v.holds ++ l) ids ∙ append-nil v.holds in
      let taken : taken_in v y ≡ v.taken = ap (λ (b : Bool). cond b (v.taken ++ (y.taken ++ gone_of y.number y.mine ∷ [])) v.taken) note in record {
        went = record {
          later = subst (λ g. IsPrefix v.front g) (sym front_is) (prefix_more v.front ch.found (e ∷ []) from);
          mine = ap (λ (z : View Stop). z.mine) ch.view ∙ ap (λ (k : ℕ). v.mine ++ k ∷ []) (sym ch.position);
          looks = ap (λ (z : View Stop). z.looks) ch.view ∙ sym (append-nil v.looks);
          same = view ∙ ((λ i. record x { share = share i; holds = holds i; taken = taken i }) ∙ sym (ap (λ (z : View Stop). on_to v z) view));
        };
        found = ch.found;
        from = from;
        others = ch.at_.own;
        ends = front_is;
        position = ch.position;
      }

  pub left_another : 1 ≤ v.left → (w.left - 0) + 1 ≡ v.left
  left_another may =
      let d = debt_is in
      let c = cost_one (debt ch.now) (debt ch.after) (omega (arith, d)) (λ x. omega (arith, x, d)) in
      let l = ap (λ (z : View Stop). z.left) ch.view in
      omega (arith, c, l, may, calls)

module _ (v y w : View Stop) (n : ℕ) (note : y.counts ≡ false) (calls : y.left ≡ 0) (ids : y.holds ≡ []) (some : 1 ≤ y.share) (known : IsKnown stopping (both_of v y)) (ch : Changed (both_of v y) w (act v.number ops.Drop 0 replies.Ok) n) where
  abbrev de : Entry
  de = act v.number ops.Drop 0 replies.Ok

  less_is : ch.after.sources ≡ ch.now.sources - 1
  less_is = made (λ t. t.sources ≡ ch.now.sources - 1) (nat_lt 0 ch.now.sources) (without_one ch.now) ch.after (λ c. refl) ch.enabled

  drop_debt : debt ch.after ≡ debt ch.now
  drop_debt = made (λ t. debt t ≡ debt ch.now) (nat_lt 0 ch.now.sources) (without_one ch.now) ch.after (λ c. refl) ch.enabled

  drop_from : IsPrefix v.front ch.found
  drop_from = prefix_trans v.front (both_of v y).front ch.found known.met.0 ch.at_.later

  drop_front : w.front ≡ ch.found ++ de ∷ []
  drop_front = ap (λ (z : View Stop). z.front) ch.view

  -- the pass has the share for the note
  pub share_left : y.share - 1 ≤ w.share
  share_left = let s = less_is in let h = ch.at_.share in let a = ap (λ (z : View Stop). z.share) ch.view in omega (arith, s, a, h, some)

  pub did_drop : Did v (note_left w 0 (y.share - 1) None) de n
  did_drop =
      let s = less_is in let h = ch.at_.share in
      let x = note_left (with_change stopping (seen (both_of v y) ch.found) de ch.now ch.after) 0 (y.share - 1) None in
      let view : note_left w 0 (y.share - 1) None ≡ x = ap (λ (z : View Stop). note_left z 0 (y.share - 1) None) ch.view in
      let share : (((v.share + y.share) + ch.after.sources) - ch.now.sources) - (y.share - 1) ≡ v.share = omega (arith, s, h, some) in
      let holds : v.holds ++ y.holds ≡ v.holds = ap (λ (l : List ℕ). v.holds ++ l) ids ∙ append-nil v.holds in
      let taken : taken_in v y ≡ v.taken = ap (λ (b : Bool). cond b (v.taken ++ (y.taken ++ gone_of y.number y.mine ∷ [])) v.taken) note in record {
        went = record {
          later = subst (λ g. IsPrefix v.front g) (sym drop_front) (prefix_more v.front ch.found (de ∷ []) drop_from);
          mine = ap (λ (z : View Stop). z.mine) ch.view ∙ ap (λ (k : ℕ). v.mine ++ k ∷ []) (sym ch.position);
          looks = ap (λ (z : View Stop). z.looks) ch.view ∙ sym (append-nil v.looks);
          same = view ∙ ((λ i. record x { share = share i; holds = holds i; taken = taken i }) ∙ sym (ap (λ (z : View Stop). on_to v z) view));
        };
        found = ch.found;
        from = drop_from;
        others = ch.at_.own;
        ends = drop_front;
        position = ch.position;
      }

  pub left_drop : 1 ≤ v.left → (w.left - 0) + 1 ≡ v.left
  left_drop may =
      let d = drop_debt in
      let c = cost_one (debt ch.now) (debt ch.after) (omega (arith, d)) (λ x. omega (arith, x, d)) in
      let l = ap (λ (z : View Stop). z.left) ch.view in
      omega (arith, c, l, may, calls)

-- ---- of the pass with its tags

module _ (i : StopId) where
  pub with_more : (p : StopPass) (r r' r'' : Pass Stop) (v y : View Stop) (x : StopSource) → IsStopPassAt i p v → IsSourceAt i x y → IsPassAt stopping i.table i.start i.seats r (both_of v y) → (n next : ℕ) → y.share + 1 ≡ next → 1 ≤ v.left
      → ((z : View Stop) → IsPassAt stopping i.table i.start i.seats r z → (w : View Stop) × IsPassAt stopping i.table i.start i.seats r' w × Changed z w (act z.number ops.Another 0 replies.Ok) n)
      → ((z : View Stop) → IsPassAt stopping i.table i.start i.seats r' z → IsPassAt stopping i.table i.start i.seats r'' (note_left z 0 next None))
      → let q : StopPass = record { pass = r''; next_tag = p.next_tag } in (w : View Stop) × IsStopPassAt i q w × Did v w (act v.number ops.Another 0 replies.Ok) n × (w.left + 1 ≡ v.left)
  with_more p r r' r'' v y x is src both n next same may make rest =
      let m : StopPass = record { pass = r; next_tag = p.next_tag } in
      let m' : StopPass = record { pass = r'; next_tag = p.next_tag } in
      let q : StopPass = record { pass = r''; next_tag = p.next_tag } in
      let met = sees_on i p m v (both_of v y) is both both.known.met.0 refl refl refl (omega arith) in
      let d = made_by i m r' ops.Another 0 replies.Ok n refl make (both_of v y) met in
      let w = note_left d.0 0 next None in (
        w,
        sees_on i m' q d.0 w d.1 (rest d.0 d.1.pass) (prefix_refl d.0.front) refl refl refl (omega arith),
        subst (λ (k : ℕ). Did v (note_left d.0 0 k None) (act v.number ops.Another 0 replies.Ok) n) same (did_another v y d.0 n src.note.note src.calls src.ids both.known d.2),
        left_another v y d.0 n src.note.note src.calls src.ids both.known d.2 may,
      )

  pub with_fewer : (p : StopPass) (r r' r'' : Pass Stop) (v y : View Stop) (x : StopSource) → IsStopPassAt i p v → IsSourceAt i x y → IsPassAt stopping i.table i.start i.seats r (both_of v y) → (n next : ℕ) → y.share - 1 ≡ next → 1 ≤ y.share → 1 ≤ v.left
      → ((z : View Stop) → IsPassAt stopping i.table i.start i.seats r z → (w : View Stop) × IsPassAt stopping i.table i.start i.seats r' w × Changed z w (act z.number ops.Drop 0 replies.Ok) n)
      → ((z : View Stop) → IsPassAt stopping i.table i.start i.seats r' z → IsPassAt stopping i.table i.start i.seats r'' (note_left z 0 next None))
      → let q : StopPass = record { pass = r''; next_tag = p.next_tag } in (w : View Stop) × IsStopPassAt i q w × Did v w (act v.number ops.Drop 0 replies.Ok) n × (w.left + 1 ≡ v.left)
  with_fewer p r r' r'' v y x is src both n next same some may make rest =
      let m : StopPass = record { pass = r; next_tag = p.next_tag } in
      let m' : StopPass = record { pass = r'; next_tag = p.next_tag } in
      let q : StopPass = record { pass = r''; next_tag = p.next_tag } in
      let met = sees_on i p m v (both_of v y) is both both.known.met.0 refl refl refl (omega arith) in
      let d = made_by i m r' ops.Drop 0 replies.Ok n refl make (both_of v y) met in
      let w = note_left d.0 0 next None in (
        w,
        sees_on i m' q d.0 w d.1 (rest d.0 d.1.pass) (prefix_refl d.0.front) refl refl refl (omega arith),
        subst (λ (k : ℕ). Did v (note_left d.0 0 k None) (act v.number ops.Drop 0 replies.Ok) n) same (did_drop v y d.0 n src.note.note src.calls src.ids some both.known d.2),
        left_drop v y d.0 n src.note.note src.calls src.ids some both.known d.2 may,
      )
