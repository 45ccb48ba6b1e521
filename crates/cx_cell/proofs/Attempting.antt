-- What an attempt under a turn makes of a pass.
use Rattle.std.proofs.Common.{◌≡◌, ℕ, ℤ, ◌^◌, ◌<◌, ◌≤◌, List, length, Option, Some, None, IfSome, IfNone, IsTrue, refl, sym, ap, ◌∙◌, subst, arith}
use mathlib.Core.List.{IsPrefix}
use Rattle.cx_names.specs.declared.ThreadNo.{ThreadNo}
use Rattle.cx_names.specs.declared.Reply.{Reply}
use Rattle.cx_machine.specs.declared.kind.Op.{Op}
use Rattle.cx_machine.specs.declared.kind.Entry.{Entry}
use Rattle.cx_machine.specs.declared.kind.Look.{Look}
use Rattle.cx_machine.specs.declared.machine.Meaning.{Ghosts}
use Rattle.cx_machine.specs.Meaning.{run, change, look_of, IsShut, ShowsNone}
use Rattle.cx_turn.specs.declared.view.View.{View}
use Rattle.cx_turn.specs.declared.turn.Turn.{Turn}
use Rattle.cx_turn.specs.declared.pass.Pass.{Pass}
use Rattle.cx_turn.specs.declared.held.Held.{Held}
use Rattle.cx_turn.specs.declared.held.Made.{Made}
use Rattle.cx_turn.specs.Views.{IsNow, with_change, with_look, outside}
use Rattle.cx_turn.specs.Passes.{IsPassAt, IsPassWith, IsLeft, IsLeftWith, Enters, IsHeld, IsMade, CanPay}
use Rattle.cx_turn.specs.Lending.{with_hand, with_state}
use Rattle.cx_turn.proofs.Calls.{left_of}
use Rattle.cx_turn.proofs.Histories.{prefix_trans, some_is}
use Rattle.cx_cell.specs.declared.queued.Queued.{Queued}
use Rattle.cx_cell.specs.declared.wish.Wish.{Wish}
use Rattle.cx_turn.specs.declared.either.Either.{Either}
use Rattle.cx_turn.specs.declared.either.Either.TheVariants as eithers
use Rattle.cx_cell.specs.Queue.{inner}
use Rattle.cx_turn.specs.Acts.{seen, Sees, Makes, Looks, Finds, DoesEither}
use Rattle.cx_cell.specs.Acts.{Denies, Pays, Does}

module _ {M S H : Type 0} (meaning : S → M) (K : Ghosts M) where
  -- a write beside the state leaves what the taker holds
  pub held_on : (h : Held M (Queued S) H) (hand : Option H) (x : Queued S) → x.kept.value.state ≡ h.state.kept.value.state → IsHeld (inner meaning) K h → IsHeld (inner meaning) K (with_state (with_hand h hand) x)
  held_on h hand x same held = record {
    table = held.table;
    words = held.words;
    out = held.out;
    started = held.started;
    seated = held.seated;
    numbered = held.numbered;
    splits = held.splits;
    counted = held.counted;
    known = held.known;
    now = subst (λ (s : S). IsNow K h.place.me.0 h.place.me.0.front (meaning s)) (sym same) held.now;
  }

  -- and what it has made
  pub made_on : (h : Held M (Queued S) H) (hand : Option H) (x : Queued S) (d : Made (Queued S)) → x.kept.value.state ≡ h.state.kept.value.state → IsMade (inner meaning) K h d → IsMade (inner meaning) K (with_state (with_hand h hand) x) d
  made_on h hand x d same made =
      let now : M = inner meaning d.before.value in
      let e = d.entry.value in record {
        table = made.table;
        words = made.words;
        out = made.out;
        started = made.started;
        seated = made.seated;
        numbered = made.numbered;
        splits = made.splits;
        leads = made.leads;
        enabled = subst (λ (s : S). K.step now e ≡ Some (meaning s)) (sym same) made.enabled;
        own = made.own;
        pays = subst (λ (s : S). CanPay K h.place.me.0 e now (meaning s)) (sym same) made.pays;
        pool = subst (λ (s : S). K.pool (meaning s) < 2 ^ 32) (sym same) made.pool;
        may = subst (λ (s : S). (with_change K h.place.me.0 e now (meaning s)).left ≡ h.left) (sym same) made.may;
        part = subst (λ (s : S). (with_change K h.place.me.0 e now (meaning s)).share ≡ h.share) (sym same) made.part;
      }

  module _ (t : Turn M (Queued S) H) (p p' : Pass M) (h h' : Held M (Queued S) H) (v : View M) (is : IsPassWith (inner meaning) K t p v) (enters : Enters (inner meaning) K t p h) (held : IsHeld (inner meaning) K h) where
    same_number : h.number.0 ≡ p.number.0
    same_number = sym held.numbered ∙ (ap (λ (x : View M). x.number) (enters v is).0 ∙ is.numbered)

    -- the taker is who the pass is
    pub taker : h.number ≡ p.number
    taker = λ i. record { 0 = same_number i }

    -- its number is below 256
    pub low_number : h.top.now ≡ t.board.shared → t.board.shared.key.seats ≤ 256 → h.number.0 < 256
    low_number top few = let a = held.known.below held.out.2 in let b = held.seated in let d = held.numbered in let e = ap (λ x. x.key.seats) top in omega arith

    start_leads : (now : M) → run K.step (Some h.place.me.0.start) h.place.me.0.front ≡ Some now → run K.step (Some v.start) h.place.me.0.front ≡ Some now
    start_leads now leads = subst (λ (m : M). run K.step (Some m) h.place.me.0.front ≡ Some now) (ap (λ (x : View M). x.start) (enters v is).0) leads

    pub made : (d : Made (Queued S)) (n : ℕ) → IsMade (inner meaning) K h' d → IsLeftWith (inner meaning) K h' d p' → h'.top.now ≡ t.board.shared → h'.place.me.0 ≡ h.place.me.0 → K.picks (inner meaning d.before.value) d.entry.value → n ≡ length h'.place.me.0.front
        → (w : View M) × IsPassWith (inner meaning) K t p' w × Makes K v w d.entry.value n
    made d n is_made left top view picked position =
        let f = h.place.me.0.front in
        let e = d.entry.value in
        let now : M = inner meaning d.before.value in
        let after : M = inner meaning h'.state in (
          outside (with_change K h'.place.me.0 e now after),
          subst (λ x. IsPassAt K x.table_id (meaning x.key.state.value.kept.value.state) x.key.seats p' (outside (with_change K h'.place.me.0 e now after))) top left,
          record {
            found = f;
            now = now;
            after = after;
            later = (enters v is).1;
            position = position ∙ ap (λ (x : View M). length x.front) view;
            leads = start_leads now (subst (λ (x : View M). run K.step (Some x.start) x.front ≡ Some now) view is_made.leads);
            enabled = is_made.enabled;
            picked = picked;
            view = ap (λ (x : View M). outside (with_change K x e now after)) view ∙ (ap (λ (x : View M). outside (with_change K x e now after)) (enters v is).0 ∙ (λ i. record (with_change K (seen v f) e now after) { inside = sym is.idle i }));
          },
        )

    pub looked : (l : Look) (now : M) → IsLeft (inner meaning) K h' p' → h'.top.now ≡ t.board.shared → h'.place.me.0 ≡ with_look h.place.me.0 l → run K.step (Some h.place.me.0.start) h.place.me.0.front ≡ Some now → IsTrue (K.shows now l)
        → l.at ≡ length h.place.me.0.front → (w : View M) × IsPassWith (inner meaning) K t p' w × Looks K v w l
    looked l now left top view leads shown stamp =
        let f = h.place.me.0.front in
        let front : h'.place.me.0.front ≡ f = ap (λ (x : View M). x.front) view in (
          outside h'.place.me.0,
          left_of (inner meaning) K t h' p' top left,
          record {
            now = now;
            later = subst (λ g. IsPrefix v.front g) (sym front) (enters v is).1;
            stamp = stamp ∙ ap (λ (g : List Entry). length g) (sym front);
            leads = subst (λ g. run K.step (Some v.start) g ≡ Some now) (sym front) (start_leads now leads);
            shown = shown;
            view = ap (λ (x : View M). outside x) view ∙ (ap (λ (x : View M). outside (with_look x l)) (enters v is).0 ∙ ((λ i. record (with_look (seen v f) l) { inside = sym is.idle i }) ∙ ap (λ g. with_look (seen v g) l) (sym front)));
          },
        )

    pub found : (P : M → Type 0) (now : M) → IsLeft (inner meaning) K h' p' → h'.top.now ≡ t.board.shared → h'.place.me.0 ≡ h.place.me.0 → run K.step (Some h.place.me.0.start) h.place.me.0.front ≡ Some now → P now
        → (w : View M) × IsPassWith (inner meaning) K t p' w × Finds K P v w
    found P now left top view leads holds =
        let f = h.place.me.0.front in
        let front : h'.place.me.0.front ≡ f = ap (λ (x : View M). x.front) view in (
          outside h'.place.me.0,
          left_of (inner meaning) K t h' p' top left,
          record {
            now = now;
            later = subst (λ g. IsPrefix v.front g) (sym front) (enters v is).1;
            leads = subst (λ g. run K.step (Some v.start) g ≡ Some now) (sym front) (start_leads now leads);
            holds = holds;
            view = ap (λ (x : View M). outside x) view ∙ (ap (λ (x : View M). outside x) (enters v is).0 ∙ ((λ i. record (seen v f) { inside = sym is.idle i }) ∙ ap (λ g. seen v g) (sym front)));
          },
        )

    -- what the pass can pay, the taker can
    pub pays_on : (e : Entry) (now after : M) → CanPay K v e now after → CanPay K h.place.me.0 e now after
    pays_on e now after can = subst (λ (x : View M). CanPay K x e now after) (sym (enters v is).0) record { paid = can.paid; shared = can.shared; has = can.has }

module _ {M : Type 0} (K : Ghosts M) where
  -- what was done by who had seen more
  pub does_on : (by : ThreadNo) (wish : Wish) (v u w : View M) (d : Either) → Sees v u → Does K by wish u w d → Does K by wish v w d
  does_on by wish v u w d s is = at u.front s.later (subst (λ (x : View M). Does K by wish x w d) s.same is)
    where
      at : (f : List Entry) → IsPrefix v.front f → Does K by wish (seen v f) w d → Does K by wish v w d
      at f p = by_cases d
        where
          by_cases : (d' : Either) → Does K by wish (seen v f) w d' → Does K by wish v w d'
          by_cases (eithers.Made r n) (op, e, m) = (op, e, record { found = m.found; now = m.now; after = m.after; later = prefix_trans v.front f m.found p m.later; position = m.position; leads = m.leads; enabled = m.enabled; picked = m.picked; view = m.view })
          by_cases (eithers.Seen r k) (op, e, l) = (op, e, record { now = l.now; later = prefix_trans v.front f w.front p l.later; stamp = l.stamp; leads = l.leads; shown = l.shown; view = l.view })

  -- who had seen more can pay as much
  pub pays_seen : (by : ThreadNo) (op : Op) (a b : ℤ) (v u : View M) → Sees v u → Pays K by op a b v → Pays K by op a b u
  pays_seen by op a b v u s pays = subst (λ (x : View M). Pays K by op a b x) (sym s.same) (λ now after r enabled. let can = pays now after r enabled in record { paid = can.paid; shared = can.shared; has = can.has })

  module _ (by : ThreadNo) (wish : Wish) (op : Op) (a b : ℤ) (ea : wish.a ≡ a) (eb : wish.b ≡ b) where
    pub pays_wish : (Q : View M → Type 0) → wish.change ≡ Some op → ((v : View M) → Q v → Pays K by op a b v) → IfSome wish.change (λ o. (v : View M) → Q v → Pays K by o wish.a wish.b v)
    pays_wish Q is pays = subst (λ x. IfSome x (λ o. (v : View M) → Q v → Pays K by o wish.a wish.b v)) (sym is) (λ v q. subst (λ (z : ℤ × ℤ). Pays K by op z.0 z.1 v) (λ i. (sym ea i, sym eb i)) (pays v q))

    pub makes_wish : (o : Op) (v w : View M) (r : Reply) (n : ℕ) → wish.change ≡ Some op → wish.change ≡ Some o → Makes K v w (change by o wish.a wish.b r) n → Makes K v w (change by op a b r) n
    makes_wish o v w r n is is' = subst (λ (x : Entry). Makes K v w x n) (λ i. change by (some_is o op (sym is' ∙ is) i) (ea i) (eb i) r)

    pub looks_wish : (o : Op) (v w : View M) (r : Reply) (k : ℕ) → wish.look ≡ Some op → wish.look ≡ Some o → Looks K v w (look_of by o wish.a wish.b r k) → Looks K v w (look_of by op a b r k)
    looks_wish o v w r k is is' = subst (λ (x : Look). Looks K v w x) (λ i. look_of by (some_is o op (sym is' ∙ is) i) (ea i) (eb i) r k)

    pub shut_wish : wish.change ≡ Some op → (m : M) → Denies K by wish m → IsShut K.step m by op a b
    shut_wish is m d = subst (λ (z : ℤ × ℤ). IsShut K.step m by op z.0 z.1) (λ i. (ea i, eb i)) (subst (λ x. IfSome x (λ o. IsShut K.step m by o wish.a wish.b)) is d.shut)

    pub dark_wish : wish.look ≡ Some op → (m : M) → Denies K by wish m → ShowsNone K.shows m by op a b
    dark_wish is m d = subst (λ (z : ℤ × ℤ). ShowsNone K.shows m by op z.0 z.1) (λ i. (ea i, eb i)) (subst (λ x. IfSome x (λ o. ShowsNone K.shows m by o wish.a wish.b)) is d.dark)

  -- what was done is the change or the look that was wished for
  pub does_either : (by : ThreadNo) (wish : Wish) (one two : Op) (a b : ℤ) → wish.a ≡ a → wish.b ≡ b → wish.change ≡ Some one → wish.look ≡ Some two → (v w : View M) (d : Either) → Does K by wish v w d → DoesEither K by one two a b v w d
  does_either by wish one two a b ea eb is is' v w (eithers.Made r n) (o, e, m) = makes_wish by wish one a b ea eb o v w r n is e m
  does_either by wish one two a b ea eb is is' v w (eithers.Seen r k) (o, e, l) = looks_wish by wish two a b ea eb o v w r k is' e l

-- what is so of an option's value, or where there is none
pub if_some_of : {A : Type 0} (P : A → Type 0) (o : Option A) → ((x : A) → o ≡ Some x → P x) → IfSome o P
if_some_of P None f = tt
if_some_of P (Some x) f = f x refl

pub if_none_of : {A : Type 0} (P : Type 0) (o : Option A) → (o ≡ None → P) → IfNone o P
if_none_of P None f = f refl
if_none_of P (Some x) f = tt

pub if_some_map : {A : Type 0} (P Q : A → Type 0) (o : Option A) → ((x : A) → P x → Q x) → IfSome o P → IfSome o Q
if_some_map P Q None f is = tt
if_some_map P Q (Some x) f is = f x is

-- a pass that saw more is who it was
pub same_pass : {S M H : Type 0} (meaning : S → M) (K : Ghosts M) (t : Turn M (Queued S) H) (p q : Pass M) (v u : View M) → IsPassWith (inner meaning) K t p v → IsPassWith (inner meaning) K t q u → Sees v u → q.number ≡ p.number
same_pass {S} {M} meaning K t p q v u is is' s = let e : q.number.0 ≡ p.number.0 = sym is'.numbered ∙ (ap (λ (x : View M). x.number) s.same ∙ is.numbered) in λ i. record { 0 = e i }
