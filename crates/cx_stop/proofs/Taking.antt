-- What a call makes of a pass that takes the turn, acts and gives it up.
use Rattle.std.proofs.Common.{◌≡◌, ℕ, ◌^◌, ◌<◌, List, length, Option, Some, IsTrue, sym, ap, ◌∙◌, subst, arith}
use mathlib.Core.List.{IsPrefix}
use Rattle.cx_machine.specs.declared.kind.Entry.{Entry}
use Rattle.cx_machine.specs.declared.kind.Look.{Look}
use Rattle.cx_machine.specs.declared.registry.StopRegistry.{StopRegistry}
use Rattle.cx_machine.specs.Acts.{at_entry, at_look}
use Rattle.cx_machine.specs.Meaning.{run, IsOnceEach}
use Rattle.cx_machine.specs.Callbacks.{members}
use Rattle.cx_machine.specs.Stop.{Stop, step, shows}
use Rattle.cx_turn.specs.declared.view.View.{View}
use Rattle.cx_turn.specs.declared.turn.Turn.{Turn}
use Rattle.cx_turn.specs.declared.pass.Pass.{Pass}
use Rattle.cx_turn.specs.declared.held.Held.{Held}
use Rattle.cx_turn.specs.declared.held.Made.{Made}
use Rattle.cx_turn.specs.Positions.{positions}
use Rattle.cx_turn.specs.Views.{IsNow, with_change, with_look, outside, entered}
use Rattle.cx_turn.specs.Passes.{IsPassAt, IsPassWith, IsLeft, IsLeftWith, Enters, IsHeld, IsMade, CanPay}
use Rattle.cx_turn.specs.Lending.{with_hand, with_state}
use Rattle.cx_turn.proofs.Calls.{left_of}
use Rattle.cx_stop.specs.declared.kept.Kept.{Kept}
use Rattle.cx_stop.specs.Kinds.{stopping, means}
use Rattle.cx_machine.specs.Registries.{registry_of}
use Rattle.cx_turn.specs.Acts.{seen}
use Rattle.cx_stop.specs.Acts.{Found, Changed, Looked, Passed}

module _ {C H : Type 0} where
  -- a write to the hand leaves what the taker holds
  pub held_on : (h : Held Stop (Kept C) H) (hand : Option H) → IsHeld means stopping h → IsHeld means stopping (with_hand h hand)
  held_on h hand held = record { table = held.table; words = held.words; out = held.out; started = held.started; seated = held.seated; numbered = held.numbered; splits = held.splits; counted = held.counted; known = held.known; now = held.now }

  -- a write beside the state too
  pub state_on : (h : Held Stop (Kept C) H) (x : Kept C) → x.at.value.state ≡ h.state.at.value.state → IsHeld means stopping h → IsHeld means stopping (with_state h x)
  state_on h x same held = record {
    table = held.table;
    words = held.words;
    out = held.out;
    started = held.started;
    seated = held.seated;
    numbered = held.numbered;
    splits = held.splits;
    counted = held.counted;
    known = held.known;
    now = subst (λ (s : StopRegistry C). IsNow stopping h.place.me.0 h.place.me.0.front (registry_of s)) (sym same) held.now;
  }

  pub made_hand : (h : Held Stop (Kept C) H) (hand : Option H) (d : Made (Kept C)) → IsMade means stopping h d → IsMade means stopping (with_hand h hand) d
  made_hand h hand d made = record { table = made.table; words = made.words; out = made.out; started = made.started; seated = made.seated; numbered = made.numbered; splits = made.splits; leads = made.leads; enabled = made.enabled; own = made.own; pays = made.pays; pool = made.pool; may = made.may; part = made.part }

  pub made_state : (h : Held Stop (Kept C) H) (x : Kept C) (d : Made (Kept C)) → x.at.value.state ≡ h.state.at.value.state → IsMade means stopping h d → IsMade means stopping (with_state h x) d
  made_state h x d same made =
      let now : Stop = means d.before.value in
      let e = d.entry.value in record {
        table = made.table;
        words = made.words;
        out = made.out;
        started = made.started;
        seated = made.seated;
        numbered = made.numbered;
        splits = made.splits;
        leads = made.leads;
        enabled = subst (λ (s : StopRegistry C). at_entry step now e ≡ Some (registry_of s)) (sym same) made.enabled;
        own = made.own;
        pays = subst (λ (s : StopRegistry C). CanPay stopping h.place.me.0 e now (registry_of s)) (sym same) made.pays;
        pool = subst (λ (s : StopRegistry C). (registry_of s).sources < 2 ^ 32) (sym same) made.pool;
        may = subst (λ (s : StopRegistry C). (with_change stopping h.place.me.0 e now (registry_of s)).left ≡ h.left) (sym same) made.may;
        part = subst (λ (s : StopRegistry C). (with_change stopping h.place.me.0 e now (registry_of s)).share ≡ h.share) (sym same) made.part;
      }

  module _ (t : Turn Stop (Kept C) H) (p p' : Pass Stop) (h h' : Held Stop (Kept C) H) (v : View Stop) (is : IsPassWith means stopping t p v) (enters : Enters means stopping t p h) (held : IsHeld means stopping h) where
    same_number : h.number.0 ≡ v.number
    same_number = sym held.numbered ∙ ap (λ (x : View Stop). x.number) (enters v is).0

    -- the taker is who the pass is
    pub taker : h.number ≡ record { 0 = v.number }
    taker = λ i. record { 0 = same_number i }

    -- what the taker finds
    pub found : IsOnceEach (members (means h.state)) → Found v h.place.me.0.front (means h.state)
    found once =
        let f = h.place.me.0.front in
        let e = (enters v is).0 in record {
          later = (enters v is).1;
          own = (λ i. positions (sym (ap (λ (x : View Stop). x.number) e) i) 0 f) ∙ (held.known.own held.out.2 ∙ ap (λ (x : View Stop). x.mine) e);
          leads = subst (λ (m : Stop). run (at_entry step) (Some m) f ≡ Some (means h.state)) (ap (λ (x : View Stop). x.start) e) held.now.leads;
          once = once;
          share = (let a = held.now.share in let b = ap (λ (x : View Stop). x.share) e in omega (arith, a, b));
          few = (let a = held.now.bounded in omega (arith, a));
        }

    pub changed : (d : Made (Kept C)) (n : ℕ) (e : Entry) → IsOnceEach (members (means h.state)) → d.before.value ≡ h.state → d.entry.value ≡ e → IsMade means stopping h' d → IsLeftWith means stopping h' d p' → h'.top.now ≡ t.board.shared → h'.place.me.0 ≡ h.place.me.0 → n ≡ length h'.place.me.0.front
        → (w : View Stop) × IsPassWith means stopping t p' w × Changed v w e n
    changed d n e once before entry is_made left top view position =
        let f = h.place.me.0.front in
        let now : Stop = means d.before.value in
        let after : Stop = means h'.state in
        let x = d.entry.value in
        let fnd = found once in (
          outside (with_change stopping h'.place.me.0 x now after),
          subst (λ y. IsPassAt stopping y.table_id (means y.key.state.value) y.key.seats p' (outside (with_change stopping h'.place.me.0 x now after))) top left,
          record {
            found = f;
            now = now;
            after = after;
            at_ = subst (λ (q : Kept C). Found v f (means q)) (sym before) fnd;
            position = position ∙ ap (λ (y : View Stop). length y.front) view;
            enabled = (λ i. at_entry step now (sym entry i)) ∙ is_made.enabled;
            view = ap (λ (y : View Stop). outside (with_change stopping y x now after)) view ∙ (ap (λ (y : View Stop). outside (with_change stopping y x now after)) (enters v is).0 ∙ ((λ i. record (with_change stopping (seen v f) x now after) { inside = sym is.idle i }) ∙ ap (λ (y : Entry). with_change stopping (seen v f) y now after) entry));
          },
        )

    pub looked : (l : Look) → IsOnceEach (members (means h.state)) → IsLeft means stopping h' p' → h'.top.now ≡ t.board.shared → h'.place.me.0 ≡ with_look h.place.me.0 l → IsTrue (at_look shows (means h.state) l) → l.at ≡ length h.place.me.0.front
        → (w : View Stop) × IsPassWith means stopping t p' w × Looked v w l
    looked l once left top view shown stamp =
        let f = h.place.me.0.front in
        let front : h'.place.me.0.front ≡ f = ap (λ (x : View Stop). x.front) view in (
          outside h'.place.me.0,
          left_of means stopping t h' p' top left,
          record {
            now = means h.state;
            at_ = subst (λ g. Found v g (means h.state)) (sym front) (found once);
            stamp = stamp ∙ ap (λ (g : List Entry). length g) (sym front);
            shown = shown;
            view = ap (λ (x : View Stop). outside x) view ∙ (ap (λ (x : View Stop). outside (with_look x l)) (enters v is).0 ∙ ((λ i. record (with_look (seen v f) l) { inside = sym is.idle i }) ∙ ap (λ g. with_look (seen v g) l) (sym front)));
          },
        )

    pub passed : IsOnceEach (members (means h.state)) → IsLeft means stopping h' p' → h'.top.now ≡ t.board.shared → h'.place.me.0 ≡ h.place.me.0
        → (w : View Stop) × IsPassWith means stopping t p' w × Passed v w
    passed once left top view =
        let f = h.place.me.0.front in
        let front : h'.place.me.0.front ≡ f = ap (λ (x : View Stop). x.front) view in (
          outside h'.place.me.0,
          left_of means stopping t h' p' top left,
          record {
            now = means h.state;
            at_ = subst (λ g. Found v g (means h.state)) (sym front) (found once);
            view = ap (λ (x : View Stop). outside x) view ∙ (ap (λ (x : View Stop). outside x) (enters v is).0 ∙ ((λ i. record (seen v f) { inside = sym is.idle i }) ∙ ap (λ g. seen v g) (sym front)));
          },
        )

    -- what the pass can pay, the taker can
    pub pays_on : (e : Entry) (now after : Stop) → CanPay stopping v e now after → CanPay stopping h.place.me.0 e now after
    pays_on e now after can = subst (λ (x : View Stop). CanPay stopping x e now after) (sym (enters v is).0) record { paid = can.paid; shared = can.shared; has = can.has }

  -- who makes room is still who took the turn
  pub enters_on : (t : Turn Stop (Kept C) H) (p : Pass Stop) (h h' : Held Stop (Kept C) H) → h'.place.me.0 ≡ h.place.me.0 → Enters means stopping t p h → Enters means stopping t p h'
  enters_on t p h h' same enters v is = subst (λ (x : View Stop). (x ≡ entered v x.front) × IsPrefix v.front x.front) (sym same) (enters v is)
