-- What is made of an ask is an item of the forms that were offered.
use Rattle.std.proofs.Common.{◌≡◌, ℕ, ◌+◌, ◌<◌, Bool, true, false, List, [], ◌∷◌, length, take, slice_get, slice_set, Option, Some, None, refl, sym, ap, ◌∙◌, subst, arith}
use Rattle.std.proofs.Math.Seq.{take-length}
use Rattle.cx_names.specs.declared.ObjectNo.{ObjectNo}
use Rattle.cx_names.specs.declared.Reply.{Reply}
use Rattle.cx_names.specs.declared.Reply.TheVariants as replies
use Rattle.cx_names.specs.Replies.{reply_eq}
use Rattle.cx_names.proofs.Equal.{replies_are_equal}
use Rattle.cx_machine.specs.declared.kind.Entry.{Entry}
use Rattle.cx_machine.specs.declared.kind.Look.{Look}
use Rattle.cx_machine.specs.Machine.{State, opening, after, run, step}
use Rattle.cx_machine.specs.Meaning.{run as runs}
use Rattle.cx_turn.specs.declared.view.View.{View}
use Rattle.cx_scene.specs.declared.declared.Object.{Object}
use Rattle.cx_scene.specs.Scene.{Scene, kind_of}
use Rattle.cx_items.specs.declared.form.Form.{Form}
use Rattle.cx_items.specs.declared.form.Form.TheVariants.{Says}
use Rattle.cx_items.specs.declared.item.Item.{Item}
use Rattle.cx_items.specs.declared.item.Item.TheVariants as items
use Rattle.cx_items.specs.declared.local.Local.{Local as Place}
use Rattle.cx_items.specs.Next.{Local, settled_local}
use Rattle.cx_items.specs.Steps.{local_of}
use Rattle.cx_history.specs.IsRecord.{is_item}
use Rattle.cx_history.specs.Follows.{is_completing}
use Rattle.cx_fronts.specs.Paths.{Fronts}
use Rattle.cx_fronts.specs.Runs.{AgreesWith}
use Rattle.cx_asks.specs.Forms.{is_of_one}
use Rattle.cx_asks.specs.Laws.{Answers}
use Rattle.cx_asks.specs.Offers.{IsOffer, names_nobody}
use Rattle.cx_asks.specs.Scenes.{IsAskable}
use Rattle.cx_asks.proofs.Answering.{asked_is_declared, change_is_of, look_is_of}
use Rattle.cx_asks.proofs.Offering.{offered_now_is_served}
use Rattle.cx_kinds.specs.declared.access.Access.{Access}
use Rattle.cx_kinds.specs.Accesses.{object_of, Knows}
use Rattle.cx_kinds.proofs.Completing.{completing_after}
use Rattle.cx_work.specs.Accesses.{AreMadeAs, AreAccesses, objects_of}
use Rattle.cx_work.specs.Acting.{AsksOn, IsLeft, LeavesIt}
use Rattle.cx_work.specs.Steps.{StepsOn, StandsAt, forms_at, is_made_alone}
use Rattle.cx_work.proofs.Going.{same_view, run_is, change_remains, change_end, change_below, look_below}
use Rattle.cx_work.proofs.Stepping.{object_there, object_made, access_at, set_same, some_fronts}

-- ---- asks

-- what the changes in these fronts leave
abbrev pub completing_by : Scene → Fronts → ℕ → ℕ → Bool
completing_by s f o p = elim (slice_get s.objects o) [ None ↦ false | Some d ↦ is_completing (after (kind_of d) (f o) (p + 1)) ]

pub agrees_itself : (s : Scene) (f : Fronts) → AgreesWith s f (completing_by s f)
agrees_itself s f o p d at_d low = ap (λ (r : Option Object). elim r [ None ↦ false | Some c ↦ is_completing (after (kind_of c) (f o) (p + 1)) ]) at_d

-- what is offered where a thread stands
pub offer_at : (s : Scene) (t : ℕ) (ks : List Access) (xs : List Item) (l : Place) → IsAskable s → AreAccesses (objects_of ks) t ks → StandsAt s t ks xs l → IsOffer s t (settled_local (local_of s t l)) (forms_at s t l)
offer_at s t ks xs l asks are at_ =
    let f = some_fronts t ks are in
    offered_now_is_served s (completing_by s f.0) t xs (local_of s t l) asks (at_.stands f.0 f.1 (completing_by s f.0) (agrees_itself s f.0))

-- what is so of an item that was made of an ask
pub record IsGood (s : Scene) (t : ℕ) (fs : List Form) (ks ks' : List Access) (x : Item) : Type 0 where
  pub steps : StepsOn ks ks' x
  pub alone : is_made_alone x ≡ true
  pub fits : is_of_one s fs x ≡ true
  pub formed : is_item s t x ≡ true

-- the same view as the object's declaration opens it
opens_as : (s : Scene) (ks : List Access) (o : ℕ) (d : Object) (k : Access) (v : View State) → AreMadeAs s.objects (objects_of ks) → slice_get s.objects o ≡ Some d → slice_get ks o ≡ Some k → Knows k v → v.start ≡ opening (kind_of d)
opens_as s ks o d k v made at_d at_k a = a.started ∙ (made.each o d (object_of k) at_d (object_there ks o k at_k)).opens_so

module _ (s : Scene) (t : ℕ) (l : Local) (fs : List Form) (ks ks' : List Access) (made : AreMadeAs s.objects (objects_of ks)) (are : AreAccesses (objects_of ks) t ks) (offer : IsOffer s t l fs) where
  asked_change : (q : ObjectNo) (n : ℕ) (e : Entry) (a : AsksOn fs ks ks' (items.Change q n e)) → IsGood s t fs ks ks' (items.Change q n e)
  asked_change q n e a =
      let is = access_at t ks a.object.0 a.old are a.was in
      let v = is.view in
      let d = a.did.does v is.seen in
      let w = d.0 in
      let word = d.2.2 in
      let m = d.2.3 in
      let o = asked_is_declared s t l fs a.object a.ask offer a.asked in
      let began = opens_as s ks a.object.0 o.0 a.old v made o.1 a.was is.seen in
      let leads : runs step (Some (opening (kind_of o.0))) m.found ≡ Some m.now = subst (λ (u : State). runs step (Some u) m.found ≡ Some m.now) began m.leads in
      let answers = change_is_of s t l fs a.object o.0 a.ask word.0 m.found m.now m.after e n offer a.asked o.1 leads m.enabled word.1 word.2 (d.2.1 ∙ is.thread) (change_below a.new v w e n d.1 m) in
      let there : Answers s t fs (items.Change q n e) = subst (λ (i : ObjectNo). Answers s t fs (items.Change i n e)) (sym d.2.0) answers in
      record {
        steps = record {
          old = a.old;
          new = a.new;
          was = subst (λ (i : ObjectNo). slice_get ks i.0 ≡ Some a.old) (sym d.2.0) a.was;
          is = subst (λ (i : ObjectNo). ks' ≡ slice_set ks i.0 a.new) (sym d.2.0) a.is;
          made = record { object = a.same; goes = λ u knows. let r = a.did.does u knows in (r.0, r.1, (r.2.1, r.2.3)) };
        };
        alone = refl;
        fits = there.of_one;
        formed = there.formed;
      }

  asked_look : (q : ObjectNo) (x : Look) (a : AsksOn fs ks ks' (items.Look q x)) → IsGood s t fs ks ks' (items.Look q x)
  asked_look q x a =
      let is = access_at t ks a.object.0 a.old are a.was in
      let v = is.view in
      let d = a.did.does v is.seen in
      let w = d.0 in
      let word = d.2.2 in
      let m = d.2.3 in
      let o = asked_is_declared s t l fs a.object a.ask offer a.asked in
      let began = opens_as s ks a.object.0 o.0 a.old v made o.1 a.was is.seen in
      let leads : runs step (Some (opening (kind_of o.0))) w.front ≡ Some m.now = subst (λ (u : State). runs step (Some u) w.front ≡ Some m.now) began m.leads in
      let answers = look_is_of s t l fs a.object o.0 a.ask word.0 w.front m.now x offer a.asked o.1 leads m.shown word.1 word.2 (d.2.1 ∙ is.thread) (look_below a.new v w x d.1 m) in
      let there : Answers s t fs (items.Look q x) = subst (λ (i : ObjectNo). Answers s t fs (items.Look i x)) (sym d.2.0) answers in
      record {
        steps = record {
          old = a.old;
          new = a.new;
          was = subst (λ (i : ObjectNo). slice_get ks i.0 ≡ Some a.old) (sym d.2.0) a.was;
          is = subst (λ (i : ObjectNo). ks' ≡ slice_set ks i.0 a.new) (sym d.2.0) a.is;
          made = record { object = a.same; goes = λ u knows. let r = a.did.does u knows in (r.0, r.1, (r.2.1, r.2.3)) };
        };
        alone = refl;
        fits = there.of_one;
        formed = there.formed;
      }

  -- what was made of an ask is good
  pub asked_good : (x : Item) → AsksOn fs ks ks' x → IsGood s t fs ks ks' x
  asked_good (items.Change q n e) a = asked_change q n e a
  asked_good (items.Look q x) a = asked_look q x a
  asked_good (items.Control c) a = let is = access_at t ks a.object.0 a.old are a.was in absurd (a.did.does is.view is.seen).2
  asked_good (items.Said r) a = let is = access_at t ks a.object.0 a.old are a.was in absurd (a.did.does is.view is.seen).2

-- ---- replies

-- a reply that names no thread may stand in a list
pub reply_formed : (s : Scene) (t : ℕ) (r : Reply) → names_nobody r ≡ true → is_item s t (items.Said r) ≡ true
reply_formed s t (replies.Thread u) h = cc
reply_formed s t _ h = refl

pub reply_fits : (s : Scene) (r : Reply) → is_of_one s (Says r ∷ []) (items.Said r) ≡ true
reply_fits s r = let same : reply_eq r r ≡ true = (replies_are_equal r r).1 refl in rw same refl

-- a reply that alone is offered is good
pub says_good : (s : Scene) (t : ℕ) (ks : List Access) (xs : List Item) (l : Place) (fs : List Form) (r : Reply) → IsAskable s → AreAccesses (objects_of ks) t ks → StandsAt s t ks xs l → fs ≡ forms_at s t l → fs ≡ Says r ∷ [] → (is_of_one s (forms_at s t l) (items.Said r) ≡ true) × (is_item s t (items.Said r) ≡ true)
says_good s t ks xs l fs r asks are at_ is says =
    let forms : forms_at s t l ≡ Says r ∷ [] = sym is ∙ says in
    let offer : IsOffer s t (settled_local (local_of s t l)) (Says r ∷ []) = subst (λ (gs : List Form). IsOffer s t (settled_local (local_of s t l)) gs) forms (offer_at s t ks xs l asks are at_) in
    (subst (λ (gs : List Form). is_of_one s gs (items.Said r) ≡ true) (sym forms) (reply_fits s r), reply_formed s t r offer.1)

-- what was made of the forms that are offered is good
pub made_good : (s : Scene) (t : ℕ) (ks ks' : List Access) (xs : List Item) (l : Place) (fs gs : List Form) (x : Item) → AreMadeAs s.objects (objects_of ks) → AreAccesses (objects_of ks) t ks → IsAskable s → StandsAt s t ks xs l → fs ≡ forms_at s t l → gs ≡ fs → AsksOn gs ks ks' x → IsGood s t (forms_at s t l) ks ks' x
made_good s t ks ks' xs l fs gs x made are asks at_ is same asked = asked_good s t (settled_local (local_of s t l)) (forms_at s t l) ks ks' made are (offer_at s t ks xs l asks are at_) x (subst (λ (hs : List Form). AsksOn hs ks ks' x) (same ∙ is) asked)

-- ---- completions

-- what is left after an item that these accesses have just made
pub leaves_it : (s : Scene) (t : ℕ) (ks ks' : List Access) (x : Item) (b : Bool) → AreMadeAs s.objects (objects_of ks) → AreAccesses (objects_of ks) t ks → StepsOn ks ks' x → IsLeft ks' x b → LeavesIt s ks' x b
leaves_it s t ks ks' (items.Change q n e) b made are a left f shown c agrees =
    let d = object_made s ks q.0 a.old made a.was in
    let is = access_at t ks q.0 a.old are a.was in
    let r = a.made.goes is.view is.seen in
    let v = is.view in
    let w = r.0 in
    let m = r.2.1 in
    let there : slice_get ks' q.0 ≡ Some a.new = ap (λ vs. slice_get vs q.0) a.is ∙ set_same ks q.0 a.old a.new a.was in
    let now = shown.each q.0 a.new there in
    let front : f q.0 ≡ w.front = sym now.2 ∙ ap (λ (u : View State). u.front) (same_view a.new now.0 w now.1 r.1) in
    let end = change_end v w e n m in
    let low : n < length (f q.0) = subst (λ es. n < length es) (sym front) (omega (arith, end)) in
    let whole : take (n + 1) (f q.0) ≡ w.front = ap (take (n + 1)) front ∙ (ap (λ i. take i w.front) (sym end) ∙ take-length w.front) in
    let began : w.start ≡ opening (kind_of d.0) = (change_remains v w e n m).start ∙ opens_as s ks q.0 d.0 a.old v made d.1 a.was is.seen in
    let state : run (opening (kind_of d.0)) (take (n + 1) (f q.0)) ≡ runs step (Some w.start) w.front = ap (run (opening (kind_of d.0))) whole ∙ (ap (λ u. run u w.front) (sym began) ∙ run_is w.front w.start) in
    agrees q.0 n d.0 d.1 low ∙ (ap is_completing state ∙ sym (completing_after v w e n b r.2.0 m ((left a.new there).told w r.1)))
leaves_it s t ks ks' (items.Look q l) b made are a left f shown c agrees = sym left
leaves_it s t ks ks' (items.Control k) b made are a left f shown c agrees = sym left
leaves_it s t ks ks' (items.Said r) b made are a left f shown c agrees = sym left
