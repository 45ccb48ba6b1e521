-- A pass of a stop state, through each thing that it does.
use Rattle.std.proofs.Common.{◌≡◌, ◌≢◌, ◌∙◌, ℕ, ◌+◌, ◌*◌, ◌<◌, ◌≤◌, pos, Option, None, sym, ap, subst, arith}
use mathlib.Core.List.{IsPrefix}
use Rattle.cx_names.specs.declared.Reply.{Reply}
use Rattle.cx_machine.specs.declared.kind.Op.{Op}
use Rattle.cx_machine.specs.declared.kind.Entry.{Entry}
use Rattle.cx_machine.specs.declared.kind.Look.{Look}
use Rattle.cx_machine.specs.Words.{small_of}
use Rattle.cx_machine.specs.Meaning.{names}
use Rattle.cx_machine.specs.Stop.{Stop}
use Rattle.cx_turn.specs.declared.view.View.{View}
use Rattle.cx_turn.specs.declared.pass.Pass.{Pass}
use Rattle.cx_turn.specs.Positions.{positions}
use Rattle.cx_turn.specs.Passes.{IsPassAt}
use Rattle.cx_turn.proofs.Histories.{head_is}
use Rattle.cx_stop.specs.Kinds.{stopping}
use Rattle.cx_stop.specs.declared.pass.StopPass.{StopPass}
use Rattle.cx_turn.specs.Acts.{Makes, Looks}
use Rattle.cx_stop.specs.Acts.{act, seen_at, Changed, Looked, Passed}
use Rattle.cx_stop.specs.Stops.{StopId, IsStopPassAt, FreshFrom}
use Rattle.cx_stop.proofs.Members.{brought}
use Rattle.cx_stop.proofs.Others.{fresh_others, fresh_own, fresh_found, later_keeps, rest_others}
use Rattle.cx_stop.proofs.Going.{state_is, makes_of, looks_of}

pub fresh_more : (n a b : ℕ) (m : Stop) → a ≤ b → FreshFrom n a m → FreshFrom n b m
fresh_more n a b m le f tag t low = f tag (omega (arith, le, t)) low

module _ (i : StopId) where
  abbrev Inner : Pass Stop → View Stop → Type 0
  Inner p v = IsPassAt stopping i.table i.start i.seats p v

  -- a pass knows one view alone
  pub same_view : (p : Pass Stop) (v w : View Stop) → Inner p v → Inner p w → v ≡ w
  same_view p v w a b = head_is v w (sym a.views ∙ b.views)

  -- what is known of the view of a pass
  pub of_view : (P : View Stop → Type 0) (p : Pass Stop) (v w : View Stop) → Inner p v → Inner p w → P v → P w
  of_view P p v w a b h = subst P (same_view p v w a b) h

  -- what a pass has left, by its views
  pub left_is : (n : ℕ) (p q : Pass Stop) (v w : View Stop) → Inner p v → Inner q w → w.left + n ≡ v.left → q.left + n ≡ p.left
  left_is n p q v w a b e = let x = a.counted.may in let y = b.counted.may in omega (arith, x, y, e)

  pub same_left : (p q : Pass Stop) (v w : View Stop) → Inner p v → Inner q w → w.left ≡ v.left → q.left ≡ p.left
  same_left p q v w a b e = let x = a.counted.may in let y = b.counted.may in omega (arith, x, y, e)

  module _ (p q : StopPass) (v w : View Stop) (is : IsStopPassAt i p v) (at : Inner q.pass w) where
    -- who has seen more, and made nothing
    pub sees_on : IsPrefix v.front w.front → w.start ≡ v.start → w.number ≡ v.number → w.mine ≡ v.mine → p.next_tag ≤ q.next_tag → IsStopPassAt i q w
    sees_on later start number mine le = record {
      pass = at;
      fresh = λ m leads.
          let k = is.pass.known in
          let own = k.own is.pass.counts in
          let there : positions v.number 0 w.front ≡ v.mine = (λ j. positions (sym number j) 0 w.front) ∙ (at.known.own at.counts ∙ mine) in
          let a = later_keeps (FreshFrom v.number p.next_tag) (λ e. e.by.0 ≢ v.number) (λ s t e ne f st. fresh_others v.number p.next_tag s t e ne f st) v w later start k.legal.0 m k.legal.1 leads (rest_others v w.front later own there) (is.fresh k.legal.0 k.legal.1) in
          subst (λ (n : ℕ). FreshFrom n q.next_tag m) (sym number) (fresh_more v.number p.next_tag q.next_tag m le a);
    }

    pub looks_on : (l : Look) → Looked v w l → p.next_tag ≤ q.next_tag → IsStopPassAt i q w
    looks_on l lk = sees_on lk.at_.later (ap (λ (x : View Stop). x.start) lk.view) (ap (λ (x : View Stop). x.number) lk.view) (ap (λ (x : View Stop). x.mine) lk.view)

    pub passes_on : Passed v w → p.next_tag ≤ q.next_tag → IsStopPassAt i q w
    passes_on ps = sees_on ps.at_.later (ap (λ (x : View Stop). x.start) ps.view) (ap (λ (x : View Stop). x.number) ps.view) (ap (λ (x : View Stop). x.mine) ps.view)

    -- who made a change, which brought in no ID that is fresh from then on
    pub makes_on : (e : Entry) (n : ℕ) → Changed v w e n → p.next_tag ≤ q.next_tag → ((tag : ℕ) → q.next_tag ≤ tag → tag < 4096 → names (brought e.op (small_of e.a)) (v.number * 4096 + tag) ≡ 0) → IsStopPassAt i q w
    makes_on e n ch le new = record {
      pass = at;
      fresh = λ m leads.
          let k = is.pass.known in
          let a = fresh_found v p.next_tag ch.found k.legal.0 ch.now (k.own is.pass.counts) k.legal.1 (is.fresh k.legal.0 k.legal.1) ch.at_ in
          let b = fresh_own v.number p.next_tag q.next_tag ch.now ch.after e le new a ch.enabled in
          let number : v.number ≡ w.number = ap (λ (x : View Stop). x.number) (sym ch.view) in
          subst (λ (x : ℕ × Stop). FreshFrom x.0 q.next_tag x.1) (λ j. (number j, sym (state_is v w e n ch m leads) j)) b;
    }

  -- what was done under the turn, of the pass with its tags
  pub made : (p : StopPass) (r : Pass Stop) (op : Op) (id : ℕ) (reply : Reply) (n : ℕ) → brought op (small_of (pos id)) ≡ None → ((v : View Stop) → Inner p.pass v → (w : View Stop) × Inner r w × Changed v w (act v.number op id reply) n) → (v : View Stop) → IsStopPassAt i p v
      → let q : StopPass = record { pass = r; next_tag = p.next_tag } in (w : View Stop) × IsStopPassAt i q w × Changed v w (act v.number op id reply) n
  made p r op id reply n new f v is =
      let d = f v is.pass in
      let q : StopPass = record { pass = r; next_tag = p.next_tag } in
      (d.0, makes_on p q v d.0 is d.1 (act v.number op id reply) n d.2 (omega arith) (λ tag le low. ap (λ (o : Option ℕ). names o (v.number * 4096 + tag)) new), d.2)

  pub looked : (p : StopPass) (r : Pass Stop) (op : Op) (id : ℕ) (reply : Reply) (k : ℕ) → ((v : View Stop) → Inner p.pass v → (w : View Stop) × Inner r w × Looked v w (seen_at v.number op id reply k)) → (v : View Stop) → IsStopPassAt i p v
      → let q : StopPass = record { pass = r; next_tag = p.next_tag } in (w : View Stop) × IsStopPassAt i q w × Looked v w (seen_at v.number op id reply k)
  looked p r op id reply k f v is =
      let d = f v is.pass in
      let q : StopPass = record { pass = r; next_tag = p.next_tag } in
      (d.0, looks_on p q v d.0 is d.1 (seen_at v.number op id reply k) d.2 (omega arith), d.2)

  -- as callers see it
  pub makes : (p : StopPass) (r : Pass Stop) (op : Op) (id : ℕ) (reply : Reply) (n : ℕ) → brought op (small_of (pos id)) ≡ None → ((v : View Stop) → Inner p.pass v → (w : View Stop) × Inner r w × Changed v w (act v.number op id reply) n) → (v : View Stop) → IsStopPassAt i p v
      → let q : StopPass = record { pass = r; next_tag = p.next_tag } in (w : View Stop) × IsStopPassAt i q w × Makes stopping v w (act v.number op id reply) n
  makes p r op id reply n new f v is = let d = made p r op id reply n new f v is in (d.0, d.1, makes_of v d.0 (act v.number op id reply) n d.2)

  pub looks : (p : StopPass) (r : Pass Stop) (op : Op) (id : ℕ) (reply : Reply) (k : ℕ) → ((v : View Stop) → Inner p.pass v → (w : View Stop) × Inner r w × Looked v w (seen_at v.number op id reply k)) → (v : View Stop) → IsStopPassAt i p v
      → let q : StopPass = record { pass = r; next_tag = p.next_tag } in (w : View Stop) × IsStopPassAt i q w × Looks stopping v w (seen_at v.number op id reply k)
  looks p r op id reply k f v is = let d = looked p r op id reply k f v is in (d.0, d.1, looks_of v d.0 (seen_at v.number op id reply k) d.2)

  -- a look costs nothing
  pub look_left : (p : StopPass) (r : Pass Stop) (op : Op) (id : ℕ) (reply : Reply) (k : ℕ) → ((v : View Stop) → Inner p.pass v → (w : View Stop) × Inner r w × Looked v w (seen_at v.number op id reply k)) → (v : View Stop) → IsStopPassAt i p v → r.left ≡ p.pass.left
  look_left p r op id reply k f v is = let d = f v is.pass in same_left p.pass r v d.0 is.pass d.1 (ap (λ (x : View Stop). x.left) d.2.view)
