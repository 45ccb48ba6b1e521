-- What a deregistration makes of a pass that took the registration's note in.
use Rattle.std.proofs.Common.{◌≡◌, ◌∙◌, ℕ, ◌+◌, ◌-◌, ◌<◌, ◌≤◌, ◌^◌, ◌==◌, ◌||◌, pos, Bool, true, false, List, [], ◌∷◌, ◌++◌, Option, Some, refl, sym, ap, subst, arith, nat_eq, cond, append-nil, eq-eqb}
use Rattle.std.proofs.lemmas.Bool.{or_parts}
use mathlib.Core.List.{IsPrefix}
use Rattle.cx_names.specs.declared.Reply.{Reply}
use Rattle.cx_machine.specs.declared.kind.Op.TheVariants as ops
use Rattle.cx_machine.specs.declared.kind.Entry.{Entry}
use Rattle.cx_machine.specs.Words.{has, without, small_of}
use Rattle.cx_machine.specs.Meaning.{times, bit}
use Rattle.cx_machine.specs.Callbacks.{debt, given, taken_back, lives}
use Rattle.cx_machine.specs.Distinct.{times-append, bit_le}
use Rattle.cx_machine.specs.Stop.{Stop, step}
use Rattle.cx_machine.proofs.Counts.{lacks}
use Rattle.cx_turn.specs.declared.view.View.{View}
use Rattle.cx_turn.specs.Views.{IsKnown, with_change, both_of, taken_in, less, more, gone_of}
use Rattle.cx_turn.proofs.Histories.{prefix_trans, prefix_more}
use Rattle.cx_stop.specs.Kinds.{stopping}
use Rattle.cx_turn.specs.Acts.{seen, Sees}
use Rattle.cx_stop.specs.Acts.{act, Changed, Passed}
use Rattle.cx_stop.specs.Went.{Did, on_to}
use Rattle.cx_stop.proofs.Members.{Backs, back_moves, cost_one}
use Rattle.cx_stop.proofs.Open.{small_is}
use Rattle.cx_stop.proofs.Passing.{sees_on, made}
use Rattle.cx_turn.specs.declared.pass.Pass.{Pass}
use Rattle.cx_turn.specs.Passes.{IsPassAt}
use Rattle.cx_stop.specs.declared.pass.StopPass.{StopPass}
use Rattle.cx_stop.specs.declared.pass.StopCallback.{StopCallback}
use Rattle.cx_stop.specs.Stops.{StopId, IsStopPassAt, IsCallbackAt}

-- an ID that stands once in all is gone from the others
pub last_out : (hs : List ℕ) (id : ℕ) → times id (hs ++ id ∷ []) ≤ 1 → without (hs ++ id ∷ []) id ≡ hs
last_out hs id once =
    let a = times-append id hs (id ∷ []) in
    let b : bit (nat_eq id id) ≡ 1 = ap bit (eq-eqb id id refl) in
    let none : times id hs ≡ 0 = omega (arith, a, b, once) in
    drops hs (lacks hs id none)
  where
    drops : (ms : List ℕ) → has ms id ≡ false → without (ms ++ id ∷ []) id ≡ ms
    drops [] h = let e = eq-eqb id id refl in rw e refl
    drops (m ∷ ms) h =
        let p = or_parts (m == id) (has ms id) h in
        let rest = drops ms p.1 in
        rw p.0 (ap (λ (l : List ℕ). m ∷ l) rest)

module _ (v x w : View Stop) (id n : ℕ) (r : Reply) (low : id < 2 ^ 32) (note : x.counts ≡ false) (call : x.left ≡ 1) (nothing : x.share ≡ 0) (ids : x.holds ≡ id ∷ []) (known : IsKnown stopping (both_of v x)) (ch : Changed (both_of v x) w (act v.number ops.Deregister id r) n) where
  abbrev e : Entry
  e = act v.number ops.Deregister id r

  en : step ch.now v.number ops.Deregister (Some id) (pos 0) r ≡ Some ch.after
  en = ap (λ (o : Option ℕ). step ch.now v.number ops.Deregister o (pos 0) r) (sym (small_is id low)) ∙ ch.enabled

  moves : Backs ch.now ch.after
  moves = back_moves ch.now v.number id r ch.after ch.at_.once en

  from : IsPrefix v.front ch.found
  from = prefix_trans v.front (both_of v x).front ch.found known.met.0 ch.at_.later

  front_is : w.front ≡ ch.found ++ e ∷ []
  front_is = ap (λ (z : View Stop). z.front) ch.view

  holds_is : more (less (v.holds ++ x.holds) (taken_back ops.Deregister (small_of (pos id)))) (given ops.Deregister (small_of (pos id))) ≡ v.holds
  holds_is =
      let h = known.present.3.held id in
      let b = bit_le (lives known.present.1 id) in
      let same : v.holds ++ x.holds ≡ v.holds ++ id ∷ [] = ap (λ (l : List ℕ). v.holds ++ l) ids in
      let h' : times id (v.holds ++ id ∷ []) ≤ bit (lives known.present.1 id) = subst (λ (l : List ℕ). times id l ≤ bit (lives known.present.1 id)) same h in
      (λ i. less (same i) (small_is id low i)) ∙ last_out v.holds id (omega (arith, h', b))

  taken_is : taken_in v x ≡ v.taken
  taken_is = ap (λ (b : Bool). cond b (v.taken ++ (x.taken ++ gone_of x.number x.mine ∷ [])) v.taken) note

  share_is : ((v.share + x.share) + ch.after.sources) - ch.now.sources ≡ v.share
  share_is = let s = moves.sources in omega (arith, s, nothing)

  pub did_back : Did v w (act v.number ops.Deregister id r) n
  did_back = record {
    went = record {
      later = subst (λ g. IsPrefix v.front g) (sym front_is) (prefix_more v.front ch.found (e ∷ []) from);
      mine = ap (λ (z : View Stop). z.mine) ch.view ∙ ap (λ (k : ℕ). v.mine ++ k ∷ []) (sym ch.position);
      looks = ap (λ (z : View Stop). z.looks) ch.view ∙ sym (append-nil v.looks);
      same = ch.view ∙ ((λ i. record (with_change stopping (seen (both_of v x) ch.found) e ch.now ch.after) { share = share_is i; holds = holds_is i; taken = taken_is i }) ∙ sym (ap (λ (z : View Stop). on_to v z) ch.view));
    };
    found = ch.found;
    from = from;
    others = ch.at_.own;
    ends = front_is;
    position = ch.position;
  }

  pub left_back : w.left ≡ v.left
  left_back =
      let c = cost_one (debt ch.now) (debt ch.after) moves.debts moves.more in
      ap (λ (z : View Stop). z.left) ch.view ∙ (omega (arith, c, call))

-- a deregistration alone uses one change
pub back_left : (v w : View Stop) (id n : ℕ) (r : Reply) → id < 2 ^ 32 → 1 ≤ v.left → Changed v w (act v.number ops.Deregister id r) n → w.left + 1 ≡ v.left
back_left v w id n r low may ch =
    let en : step ch.now v.number ops.Deregister (Some id) (pos 0) r ≡ Some ch.after = ap (λ (o : Option ℕ). step ch.now v.number ops.Deregister o (pos 0) r) (sym (small_is id low)) ∙ ch.enabled in
    let b = back_moves ch.now v.number id r ch.after ch.at_.once en in
    let c = cost_one (debt ch.now) (debt ch.after) b.debts b.more in
    let l = ap (λ (z : View Stop). z.left) ch.view in
    omega (arith, c, l, may)

-- ---- who waits

pub sees_more : (v u w : View Stop) → Sees v u → Passed u w → Sees v w
sees_more v u w s p = record { later = prefix_trans v.front u.front w.front s.later p.at_.later; same = p.view ∙ ap (λ (z : View Stop). seen z w.front) s.same }

pub changed_on : (v u w : View Stop) (e : Entry) (n : ℕ) → Sees v u → Changed u w e n → Changed v w e n
changed_on v u w e n s ch = at u.front s.later (subst (λ (z : View Stop). Changed z w e n) s.same ch)
  where
    at : (f : List Entry) → IsPrefix v.front f → Changed (seen v f) w e n → Changed v w e n
    at f p c = record {
      found = c.found;
      now = c.now;
      after = c.after;
      at_ = record { later = prefix_trans v.front f c.found p c.at_.later; own = c.at_.own; leads = c.at_.leads; once = c.at_.once; share = c.at_.share; few = c.at_.few };
      position = c.position;
      enabled = c.enabled;
      view = c.view;
    }

pub last_has : (hs : List ℕ) (id : ℕ) → has (hs ++ id ∷ []) id ≡ true
last_has [] id = let e = eq-eqb id id refl in rw e refl
last_has (m ∷ ms) id = let rest = last_has ms id in elim (m == id) as (λ b. (b || has (ms ++ id ∷ []) id) ≡ true) [ true ↦ refl | false ↦ rest ]

-- a deregistration with the registration's note, of the pass with its tags
module _ (i : StopId) where
  pub deregistered : (p : StopPass) (r r' : Pass Stop) (v x : View Stop) (c : StopCallback) → IsStopPassAt i p v → IsCallbackAt i c x → IsPassAt stopping i.table i.start i.seats r (both_of v x) → (reply : Reply) (n : ℕ) → c.id < 2 ^ 32
      → ((y : View Stop) → IsPassAt stopping i.table i.start i.seats r y → (w : View Stop) × IsPassAt stopping i.table i.start i.seats r' w × Changed y w (act y.number ops.Deregister c.id reply) n)
      → let q : StopPass = record { pass = r'; next_tag = p.next_tag } in (w : View Stop) × IsStopPassAt i q w × Did v w (act v.number ops.Deregister c.id reply) n × (w.left ≡ v.left)
  deregistered p r r' v x c is call both reply n low back =
      let m : StopPass = record { pass = r; next_tag = p.next_tag } in
      let met = sees_on i p m v (both_of v x) is both both.known.met.0 refl refl refl (omega arith) in
      let d = made i m r' ops.Deregister c.id reply n refl back (both_of v x) met in
      (d.0, d.1, did_back v x d.0 c.id n reply low call.note.note call.call call.share call.id both.known d.2, left_back v x d.0 c.id n reply low call.note.note call.call call.share call.id both.known d.2)
