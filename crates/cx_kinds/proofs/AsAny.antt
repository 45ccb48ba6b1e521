-- What a pass has seen, and what it made, by the machine of all kinds.
use Rattle.std.proofs.Common.{◌≡◌, ◌≤◌, ◌+◌, ◌-◌, ℕ, List, [], ◌∷◌, ◌++◌, length, take, Option, Some, None, option_map, refl, sym, ap, ◌∙◌, subst, arith}
use Rattle.cx_names.specs.declared.ObjectNo.{ObjectNo}
use Rattle.cx_names.specs.declared.ThreadNo.{ThreadNo}
use Rattle.cx_machine.specs.declared.kind.Entry.{Entry}
use Rattle.cx_machine.specs.declared.kind.Look.{Look}
use Rattle.cx_machine.specs.declared.machine.Meaning.{Ghosts}
use Rattle.cx_machine.specs.Machine as all
use Rattle.cx_machine.specs.Meaning.{run, bit, times}
use Rattle.cx_turn.specs.declared.view.View.{View}
use Rattle.cx_turn.specs.Views.{IsShown, IsNow, IsKnown, cost_of, more, less, with_change}
use Rattle.cx_turn.proofs.Histories.{each_map}
use Rattle.cx_turn.specs.Acts.{seen, Makes, Looks}
use Rattle.cx_turn.specs.declared.either.Either.{Either}
use Rattle.cx_turn.specs.declared.either.Either.TheVariants as eithers
use Rattle.cx_items.specs.declared.item.Item.{Item}
use Rattle.cx_asks.specs.declared.ask.Ask.{Ask}
use Rattle.cx_kinds.specs.AnyKind.{any_kind, IsKindOf, erase}
use Rattle.cx_kinds.specs.Acts.{DoesAsk, IsItemOf, StepsIf}

module _ {M : Type 0} (K : Ghosts M) (f : M → all.State) (kind : IsKindOf K f) where
  -- ---- histories

  runs_as : (es : List Entry) (o : Option M) → run all.step (option_map f o) es ≡ option_map f (run K.step o es)
  runs_as [] o = refl
  runs_as (e ∷ es) None = runs_as es None
  runs_as (e ∷ es) (Some m) = ap (λ o. run all.step o es) (kind.steps m e) ∙ runs_as es (K.step m e)

  pub leads_as : (es : List Entry) (m n : M) → run K.step (Some m) es ≡ Some n → run all.step (Some (f m)) es ≡ Some (f n)
  leads_as es m n e = runs_as es (Some m) ∙ ap (option_map f) e

  -- ---- what is known

  shown_as : (start : M) (number : ℕ) (front : List Entry) (l : Look) → IsShown K start number front l → IsShown any_kind (f start) number front l
  shown_as start number front l h = record { own = h.own; within = h.within; shown = (f h.shown.0, leads_as (take l.at front) start h.shown.0 h.shown.1, kind.shown h.shown.0 l ∙ h.shown.2) }

  now_as : (v : View M) (log : List Entry) (now : M) → IsNow K v log now → IsNow any_kind (erase f v) log (f now)
  now_as v log now h =
      let pool = kind.pooled now in
      let debt = kind.owed now in
      let bounded = h.bounded in
      let share = h.share in
      let small = h.pool in
      record {
        leads = leads_as log v.start now h.leads;
        bounded = omega (arith, debt, bounded);
        share = omega (arith, pool, share);
        pool = omega (arith, pool, small);
        held = λ id. subst (λ b. times id v.holds ≤ bit b) (sym (kind.lived now id)) (h.held id);
      }

  pub known_as : (v : View M) → IsKnown K v → IsKnown any_kind (erase f v)
  known_as v h = record {
    legal = (f h.legal.0, leads_as v.front v.start h.legal.0 h.legal.1);
    own = h.own;
    looks = each_map (IsShown K v.start v.number v.front) (IsShown any_kind (f v.start) v.number v.front) (λ l s. shown_as v.start v.number v.front l s) v.looks h.looks;
    met = h.met;
    gone = h.gone;
    above = h.above;
    seated = h.seated;
    below = h.below;
    few = h.few;
    present = (h.present.0, f h.present.1, h.present.2, now_as v h.present.0 h.present.1 h.present.3);
  }

  -- ---- what was made

  change_as : (v : View M) (found : List Entry) (e : Entry) (now after : M) → erase f (with_change K (seen v found) e now after) ≡ with_change any_kind (seen (erase f v) found) e (f now) (f after)
  change_as v found e now after = λ i. record (erase f v) {
    front = found ++ e ∷ [];
    mine = v.mine ++ length found ∷ [];
    left = v.left - cost_of (sym (kind.owed now) i) (sym (kind.owed after) i);
    share = (v.share + sym (kind.pooled after) i) - sym (kind.pooled now) i;
    holds = more (less v.holds (sym (kind.taken now e) i)) (sym (kind.given now e) i);
  }

  makes_as : (v w : View M) (e : Entry) (n : ℕ) → Makes K v w e n → Makes any_kind (erase f v) (erase f w) e n
  makes_as v w e n m = record {
    found = m.found;
    now = f m.now;
    after = f m.after;
    later = m.later;
    position = m.position;
    leads = leads_as m.found v.start m.now m.leads;
    enabled = kind.steps m.now e ∙ ap (option_map f) m.enabled;
    picked = kind.picked m.now e m.picked;
    view = ap (erase f) m.view ∙ change_as v m.found e m.now m.after;
  }

  looks_as : (v w : View M) (l : Look) → Looks K v w l → Looks any_kind (erase f v) (erase f w) l
  looks_as v w l m = record {
    now = f m.now;
    later = m.later;
    stamp = m.stamp;
    leads = leads_as w.front v.start m.now m.leads;
    shown = kind.shown m.now l ∙ m.shown;
    view = ap (erase f) m.view;
  }

  pub steps_as : (o : ObjectNo) (by : ThreadNo) (ask : Ask) (v w : View M) (done : Either) (x : Option Item) → by.0 ≡ v.number → DoesAsk K by ask v w (Some done) → IsItemOf o by ask done x → StepsIf o ask (erase f v) (erase f w) x
  steps_as o by ask v w (eithers.Made r n) x own does is = subst (λ (i : Option Item). StepsIf o ask (erase f v) (erase f w) i) (sym (is does.0 does.1)) (refl, own, (does.0, does.1, refl), makes_as v w _ n does.2)
  steps_as o by ask v w (eithers.Seen r k) x own does is = subst (λ (i : Option Item). StepsIf o ask (erase f v) (erase f w) i) (sym (is does.0 does.1)) (refl, own, (does.0, does.1, refl), looks_as v w _ does.2)
