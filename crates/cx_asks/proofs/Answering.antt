-- What is made of an ask of the offered forms is an item of one of them.
use Rattle.std.proofs.Common.{◌≡◌, ℕ, ◌+◌, ◌^◌, ◌<◌, ◌≤◌, Bool, true, List, ◌∷◌, map, Some, slice_get, sym, ◌∙◌, subst, arith, false, [], refl}
use Rattle.cx_names.specs.declared.ObjectNo.{ObjectNo}
use Rattle.cx_machine.specs.declared.kind.Entry.{Entry}
use Rattle.cx_machine.specs.declared.kind.Look.{Look}
use Rattle.cx_machine.specs.declared.kind.Op.{Op}
use Rattle.cx_machine.specs.Machine.{State, opening, step, shows}
use Rattle.cx_machine.specs.Meaning.{run, change, look_of}
use Rattle.cx_scene.specs.declared.declared.Object.{Object}
use Rattle.cx_scene.specs.Scene.{Scene, kind_of}
use Rattle.cx_items.specs.declared.item.Control.TheVariants as controls
use Rattle.cx_items.specs.declared.item.Item.{Item}
use Rattle.cx_items.specs.declared.item.Item.TheVariants as items
use Rattle.cx_items.specs.declared.form.Form.{Form}
use Rattle.cx_items.specs.declared.form.Form.TheVariants as forms
use Rattle.cx_items.specs.Memory.{Memory, of}
use Rattle.cx_items.specs.Next.{Local, offered, settled_local, local_at_start}
use Rattle.cx_items.specs.Steps.{form_of}
use Rattle.cx_history.specs.Follows.{after_items}
use Rattle.cx_asks.specs.declared.ask.Ask.{Ask}
use Rattle.cx_asks.specs.Asks.{serves}
use Rattle.cx_asks.specs.Forms.{IsAskOf, IsNoAsk, asked_forms}
use Rattle.cx_asks.specs.Scenes.{taken_in, IsAskable}
use Rattle.cx_asks.specs.Offers.{takes, IsServed, IsOffer}
use Rattle.cx_asks.specs.Spent.{takes_by, spent}
use Rattle.cx_asks.specs.Laws.{Answers}
use Rattle.cx_asks.proofs.Asking.{one_ask, served_asks}
use Rattle.cx_asks.proofs.Latches.{shares_suffice}
use Rattle.cx_asks.proofs.Offering.{offered_now_is_served}
use Rattle.cx_asks.proofs.Replies.{changes_answer, looks_answer}

-- an ask of the offered forms is served
pub record IsServedAsk (s : Scene) (m : Memory) (fs : List Form) (o : ObjectNo) (k : Ask) : Type 0 where
  pub offer : IsServed s m fs
  pub object : offer.object ≡ o
  pub asked : offer.ask ≡ k

pub served_is : (s : Scene) (m : Memory) (fs : List Form) (o : ObjectNo) (k : Ask) → IsServed s m fs → IsAskOf fs o k → IsServedAsk s m fs o k
served_is s m fs o k q h = let e = one_ask fs q.object o q.ask k (served_asks s m fs q) h in record { offer = q; object = e.0; asked = e.1 }

pub ask_served : (s : Scene) (t : ℕ) (l : Local) (fs : List Form) (o : ObjectNo) (k : Ask) → IsOffer s t l fs → IsAskOf fs o k → IsServedAsk s l.memory fs o k
ask_served s t l (forms.Change p op a b w ∷ fs) o k q h = served_is s l.memory (forms.Change p op a b w ∷ fs) o k q h
ask_served s t l (forms.Look p op a b w ∷ fs) o k q h = served_is s l.memory (forms.Look p op a b w ∷ fs) o k q h
ask_served s t l _ o k q h = absurd h

same_object : (a b : Object) → Some a ≡ Some b → a ≡ b
same_object a b e = cc

-- ---- what is no ask

-- a start, a join, a reply, or nothing
abbrev pub is_other : List Form → Bool
is_other [] = true
is_other (forms.Does (controls.Start u true) ∷ fs) = true
is_other (forms.Does (controls.Join u) ∷ fs) = true
is_other (forms.Says r ∷ fs) = true
is_other _ = false

pub no_ask_is_other : (s : Scene) (t : ℕ) (l : Local) (fs : List Form) → IsOffer s t l fs → IsNoAsk fs → is_other fs ≡ true
no_ask_is_other s t l [] q h = refl
no_ask_is_other s t l (forms.Does (controls.Start u true) ∷ fs) q h = refl
no_ask_is_other s t l (forms.Does (controls.Start u false) ∷ fs) q h = absurd (let no : false ≡ true = q.0 in cc)
no_ask_is_other s t l (forms.Does (controls.Launch u ok) ∷ fs) q h = absurd q
no_ask_is_other s t l (forms.Does (controls.Join u) ∷ fs) q h = refl
no_ask_is_other s t l (forms.Says r ∷ fs) q h = refl
no_ask_is_other s t l (f ∷ fs) q h = absurd (h q.object q.ask (served_asks s l.memory (f ∷ fs) q))

-- ---- what is served, at the object as it is declared

-- the forms are those of the ask, and what is kept serves it with each share that is enough
pub record IsServedBy (s : Scene) (m : Memory) (fs : List Form) (o : ObjectNo) (k : Ask) (d : Object) : Type 0 where
  pub forms : fs ≡ asked_forms (kind_of d) o k
  pub served : (share : ℕ) → takes k ≤ share → serves (kind_of d) (of m o) share k

served_at : (s : Scene) (m : Memory) (fs : List Form) (o : ObjectNo) (k : Ask) (d : Object) → IsServedAsk s m fs o k → slice_get s.objects o.0 ≡ Some d → IsServedBy s m fs o k d
served_at s m fs o k d q there =
    let at_o : slice_get s.objects o.0 ≡ Some q.offer.declared = subst (λ (p : ObjectNo). slice_get s.objects p.0 ≡ Some q.offer.declared) q.object q.offer.there in
    let same = same_object q.offer.declared d (sym at_o ∙ there) in
    let first : IsServedBy s m fs q.offer.object q.offer.ask q.offer.declared = record { forms = q.offer.forms; served = q.offer.served } in
    subst (λ (y : Object). IsServedBy s m fs o k y) same
    (subst (λ (j : Ask). IsServedBy s m fs o j q.offer.declared) q.asked
    (subst (λ (p : ObjectNo). IsServedBy s m fs p q.offer.ask q.offer.declared) q.object first))

pub asked_is_served : (s : Scene) (t : ℕ) (l : Local) (fs : List Form) (o : ObjectNo) (k : Ask) (d : Object) → IsOffer s t l fs → IsAskOf fs o k → slice_get s.objects o.0 ≡ Some d → IsServedBy s l.memory fs o k d
asked_is_served s t l fs o k d q h there = served_at s l.memory fs o k d (ask_served s t l fs o k q h) there

-- the object of an ask is declared
pub asked_is_declared : (s : Scene) (t : ℕ) (l : Local) (fs : List Form) (o : ObjectNo) (k : Ask) → IsOffer s t l fs → IsAskOf fs o k → (d : Object) × (slice_get s.objects o.0 ≡ Some d)
asked_is_declared s t l fs o k q h =
    let r = ask_served s t l fs o k q h in
    (r.offer.declared, subst (λ (p : ObjectNo). slice_get s.objects p.0 ≡ Some r.offer.declared) r.object r.offer.there)

-- ---- items

pub change_is_of : (s : Scene) (t : ℕ) (l : Local) (fs : List Form) (o : ObjectNo) (d : Object) (k : Ask) (op : Op) (found : List Entry) (now after : State) (e : Entry) (n : ℕ) → IsOffer s t l fs → IsAskOf fs o k → slice_get s.objects o.0 ≡ Some d → run step (Some (opening (kind_of d))) found ≡ Some now → step now e ≡ Some after → k.change ≡ Some op → e ≡ change e.by op k.a k.b e.reply → e.by.0 ≡ t → n < 2 ^ 28 → Answers s t fs (items.Change o n e)
change_is_of s t l fs o d k op found now after e n q h there leads on word is own few =
    let may = asked_is_served s t l fs o k d q h there in
    let made : step now (change e.by op k.a k.b e.reply) ≡ Some after = subst (λ (x : Entry). step now x ≡ Some after) is on in
    let a = changes_answer s d o k (of l.memory o) (takes k) found now after e.by op e.reply n there (may.served (takes k) (omega arith)) word leads made few in
    subst (λ (u : ℕ). Answers s u fs (items.Change o n e)) own
    (subst (λ (x : Entry). Answers s e.by.0 fs (items.Change o n x)) (sym is)
    (subst (λ (gs : List Form). Answers s e.by.0 gs (items.Change o n (change e.by op k.a k.b e.reply))) (sym may.forms) a))

pub look_is_of : (s : Scene) (t : ℕ) (l : Local) (fs : List Form) (o : ObjectNo) (d : Object) (k : Ask) (op : Op) (found : List Entry) (now : State) (x : Look) → IsOffer s t l fs → IsAskOf fs o k → slice_get s.objects o.0 ≡ Some d → run step (Some (opening (kind_of d))) found ≡ Some now → shows now x ≡ true → k.look ≡ Some op → x ≡ look_of x.by op k.a k.b x.reply x.at → x.by.0 ≡ t → x.at < 2 ^ 28 → Answers s t fs (items.Look o x)
look_is_of s t l fs o d k op found now x q h there leads on word is own few =
    let may = asked_is_served s t l fs o k d q h there in
    let seen : shows now (look_of x.by op k.a k.b x.reply x.at) ≡ true = subst (λ (y : Look). shows now y ≡ true) is on in
    let a = looks_answer s d o k (of l.memory o) (takes k) found now x.by op x.reply x.at there (may.served (takes k) (omega arith)) word leads seen few in
    subst (λ (u : ℕ). Answers s u fs (items.Look o x)) own
    (subst (λ (y : Look). Answers s x.by.0 fs (items.Look o y)) (sym is)
    (subst (λ (gs : List Form). Answers s x.by.0 gs (items.Look o (look_of x.by op k.a k.b x.reply x.at))) (sym may.forms) a))

-- what an ask takes from a latch, with what the list has taken so far, is within what the text takes
pub asked_takes_now : (s : Scene) (completes : ℕ → ℕ → Bool) (t : ℕ) (xs : List Item) (l : Local) (o : ObjectNo) (k : Ask) → IsAskable s → after_items s completes t (local_at_start s t) xs ≡ Some l → IsAskOf (map form_of (offered s t (settled_local l))) o k → spent (takes_by o.0) xs + takes k ≤ taken_in s t o.0
asked_takes_now s completes t xs l o k a h asked =
    let q = ask_served s t (settled_local l) (map form_of (offered s t (settled_local l))) o k (offered_now_is_served s completes t xs l a h) asked in
    let le = shares_suffice s completes t xs l a h q.offer in
    subst (λ (j : Ask). spent (takes_by o.0) xs + takes j ≤ taken_in s t o.0) q.asked
    (subst (λ (p : ObjectNo). spent (takes_by p.0) xs + takes q.offer.ask ≤ taken_in s t p.0) q.object le)
