-- What is held and left goes on with each item, and serves what the text asks next.
use Rattle.std.proofs.Common.{◌≡◌, ℕ, zero, ◌+◌, ◌-◌, ◌≤◌, ◌==◌, ◌^◌, ℤ, pos, negsuc, Bool, true, false, List, [], ◌∷◌, ◌++◌, length, Option, Some, None, slice_get, option_map, if◌then◌else◌, nat_lt, nat_le, refl, sym, ap, ◌∙◌, subst, arith, eqb-true, eq-eqb}
use Rattle.std.proofs.lemmas.Bool.{eqb-false}
use Rattle.cx_names.specs.declared.ObjectNo.{ObjectNo}
use Rattle.cx_names.specs.declared.Reply.{Reply}
use Rattle.cx_names.specs.declared.Reply.TheVariants as replies
use Rattle.cx_machine.specs.declared.kind.Entry.{Entry}
use Rattle.cx_machine.specs.declared.kind.Look.{Look}
use Rattle.cx_machine.specs.declared.kind.Op.{Op}
use Rattle.cx_machine.specs.declared.kind.Op.TheVariants as ops
use Rattle.cx_machine.specs.Latch as latch
use Rattle.cx_machine.specs.Machine.{State, step}
use Rattle.cx_machine.specs.Machine as all
use Rattle.cx_machine.specs.Meaning.{run}
use Rattle.cx_machine.specs.Words.{small_of, when}
use Rattle.cx_turn.specs.declared.view.View.{View}
use Rattle.cx_turn.specs.Acts.{Makes, Looks}
use Rattle.cx_turn.specs.Views.{cost_of}
use Rattle.cx_scene.specs.Scene.{Scene}
use Rattle.cx_items.specs.declared.form.Form.{Form}
use Rattle.cx_items.specs.declared.form.Form.TheVariants as forms
use Rattle.cx_items.specs.declared.item.Control.TheVariants as controls
use Rattle.cx_items.specs.declared.item.Item.{Item}
use Rattle.cx_items.specs.declared.item.Item.TheVariants as items
use Rattle.cx_items.specs.declared.kept.Kept.{Kept}
use Rattle.cx_items.specs.declared.local.Local.{Local as Place}
use Rattle.cx_items.specs.Memory.{nothing, of, kept_after}
use Rattle.cx_items.specs.Next.{Local, settled_local, is_ended}
use Rattle.cx_items.specs.Steps.{local_of}
use Rattle.cx_asks.specs.Forms.{IsAskOf}
use Rattle.cx_asks.specs.Offers.{counted_by, takes, IsServed, IsOffer}
use Rattle.cx_asks.specs.Scenes.{taken_in, IsAskable}
use Rattle.cx_asks.specs.Spent.{spent, changes_by, takes_by}
use Rattle.cx_asks.proofs.Answering.{asked_takes_now}
use Rattle.cx_asks.proofs.Asking.{served_asks}
use Rattle.cx_asks.proofs.Changes.{changes_few}
use Rattle.cx_asks.proofs.Offering.{ended_now}
use Rattle.cx_kinds.specs.AnyKind.{any_kind, pool, debt}
use Rattle.cx_kinds.specs.declared.access.Access.{Access}
use Rattle.cx_kinds.specs.Accesses.{RunObject, AMutex, object_of, opens, Knows, kept_of, share_of}
use Rattle.cx_kinds.specs.Holding.{in_hand}
use Rattle.cx_kinds.proofs.Serving.{serves_here}
use Rattle.cx_work.specs.Accesses.{AreMadeAs, AreAccesses, AreSeated, objects_of}
use Rattle.cx_work.specs.Acting.{AsksOn, AreServed, IsNoReply}
use Rattle.cx_work.specs.Reserves.{held_after, held_by, IsEnough, AreEnough}
use Rattle.cx_work.specs.Steps.{StandsAt, forms_at, begins_control, is_made_alone}
use Rattle.cx_work.proofs.Asking.{completing_by, agrees_itself, offer_at}
use Rattle.cx_work.proofs.Going.{same_positions, same_view}
use Rattle.cx_work.proofs.Remembering.{hands_are}
use Rattle.cx_work.proofs.Stepping.{at_index, is_within, set_same, set_other, same_some, object_there, objects_length, access_at, some_fronts}

-- ---- states of objects that owe no change

-- it is no stop state, which alone counts changes to come
abbrev is_free : State → Bool
is_free (all.Stop s) = false
is_free _ = true

mapped : {A : Type 0} (f : A → State) (o : Option A) (n : State) → option_map f o ≡ Some n → ((x : A) → is_free (f x) ≡ true) → is_free n ≡ true
mapped f None n e free = cc
mapped f (Some x) n e free = let same : f x ≡ n = cc in ap is_free (sym same) ∙ free x

step_free : (m n : State) (e : Entry) → step m e ≡ Some n → is_free m ≡ true → is_free n ≡ true
step_free (all.Mutex m) n e h free = mapped all.Mutex _ n h (λ x. refl)
step_free (all.Shared m) n e h free = mapped all.Shared _ n h (λ x. refl)
step_free (all.Semaphore m) n e h free = mapped all.Semaphore _ n h (λ x. refl)
step_free (all.Latch m) n e h free = mapped all.Latch _ n h (λ x. refl)
step_free (all.Barrier m) n e h free = mapped all.Barrier _ n h (λ x. refl)
step_free (all.Once m) n e h free = mapped all.Once _ n h (λ x. refl)
step_free (all.Condition m) n e h free = mapped all.Condition _ n h (λ x. refl)
step_free (all.Future m) n e h free = mapped all.Future _ n h (λ x. refl)
step_free (all.Stop m) n e h free = cc free

no_run : (es : List Entry) (n : State) → run step None es ≡ Some n → ⊥
no_run [] n h = cc h
no_run (e ∷ es) n h = no_run es n h

run_free : (es : List Entry) (m n : State) → run step (Some m) es ≡ Some n → is_free m ≡ true → is_free n ≡ true
run_free [] m n h free = let same : m ≡ n = cc in ap is_free (sym same) ∙ free
run_free (e ∷ es) m n h free = go (step m e) refl h (λ k one rest. run_free es k n rest (step_free m k e one free))
  where
    go : (o : Option State) → step m e ≡ o → run step o es ≡ Some n → ((k : State) → step m e ≡ Some k → run step (Some k) es ≡ Some n → is_free n ≡ true) → is_free n ≡ true
    go None p w later = absurd (no_run es n w)
    go (Some k) p w later = later k p w

opens_free : (x : RunObject) → is_free (opens x) ≡ true
opens_free (AMutex m) = refl
opens_free _ = refl

owes_none : (m : State) → is_free m ≡ true → debt m ≡ 0
owes_none (all.Stop s) free = cc free
owes_none _ free = refl

-- ---- what a change takes of what is shared out

counted : (c k : ℕ) (l : latch.Latch) (n : State) → option_map all.Latch (when (nat_le k c) l) ≡ Some n → l.counter ≡ c - k → c ≤ pool n + k
counted c k l n e is = go (nat_le k c) e
  where
    go : (b : Bool) → option_map all.Latch (when b l) ≡ Some n → c ≤ pool n + k
    go true w = let same : all.Latch l ≡ n = cc in let now : l.counter ≡ pool n = ap pool same in omega (arith, now, is)
    go false w = cc

small_is : (a : ℤ) (k : ℕ) → small_of a ≡ Some k → counted_by (Some ops.CountDown) a ≡ k
small_is (pos j) k h = go (nat_lt j (2 ^ 32)) h
  where
    go : (b : Bool) → (if b then Some j else None) ≡ Some k → j ≡ k
    go true w = cc w
    go false w = cc w
small_is (negsuc j) k h = cc h

latch_takes : (m : latch.Latch) (by : ℕ) (op : Op) (small : Option ℕ) (b : ℤ) (r : Reply) (n : State) → option_map all.Latch (latch.step m by op small b r) ≡ Some n → (k : ℕ) × (small ≡ Some k) × (op ≡ ops.CountDown) × (m.counter ≤ pool n + k)
latch_takes m by ops.CountDown (Some k) (pos zero) replies.Ok n h = (k, refl, refl, counted m.counter k (latch.counted_down m k) n h refl)
latch_takes m by _ _ _ _ n h = cc h

takes_latch : (m : latch.Latch) (by : ℕ) (op : Op) (a b : ℤ) (r : Reply) (n : State) → option_map all.Latch (latch.step m by op (small_of a) b r) ≡ Some n → m.counter ≤ pool n + counted_by (Some op) a
takes_latch m by op a b r n h =
    let t = latch_takes m by op (small_of a) b r n h in
    subst (λ (w : Op). m.counter ≤ pool n + counted_by (Some w) a) (sym t.2) (subst (λ i. m.counter ≤ pool n + i) (sym (small_is a t.0 t.1)) t.3)

step_takes : (m n : State) (e : Entry) → step m e ≡ Some n → is_free m ≡ true → pool m ≤ pool n + counted_by (Some e.op) e.a
step_takes (all.Latch m) n e h free = takes_latch m e.by.0 e.op e.a e.b e.reply n h
step_takes (all.Stop m) n e h free = cc free
step_takes _ n e h free = omega arith

-- ---- what is spent and held by one item more

spent_more : (by : Item → ℕ) (xs : List Item) (x : Item) → spent by (xs ++ x ∷ []) ≡ spent by xs + by x
spent_more by [] x = omega arith
spent_more by (y ∷ xs) x = let rest = spent_more by xs x in omega (arith, rest)

held_more : (o : ℕ) (k : Kept) (xs : List Item) (x : Item) → held_by o k (xs ++ x ∷ []) ≡ held_after o (held_by o k xs) x
held_more o k [] x = refl
held_more o k (y ∷ xs) x = held_more o (held_after o k y) xs x

-- an item of which the access sees nothing
pub same_enough : (s : Scene) (t o : ℕ) (k : Access) (xs : List Item) (x : Item) → changes_by o x ≡ 0 → takes_by o x ≡ 0 → ((h : Kept) → held_after o h x ≡ h) → IsEnough s t o k xs → IsEnough s t o k (xs ++ x ∷ [])
same_enough s t o k xs x no_change no_take no_hold e = record {
  seats = e.seats;
  holds = e.holds ∙ sym (held_more o nothing xs x ∙ no_hold (held_by o nothing xs));
  left = λ v a. let more = spent_more (changes_by o) xs x in let left = e.left v a in omega (arith, more, no_change, left);
  share = let more = spent_more (takes_by o) xs x in let share = e.share in omega (arith, more, no_take, share);
}

pub reply_enough : (s : Scene) (t : ℕ) (ks : List Access) (xs : List Item) (r : Reply) → AreEnough s t ks xs → AreEnough s t ks (xs ++ items.Said r ∷ [])
reply_enough s t ks xs r enough o k at_k = same_enough s t o k xs (items.Said r) refl refl (λ h. refl) (enough o k at_k)

pub control_enough : (s : Scene) (t : ℕ) (ks : List Access) (xs : List Item) (x : Item) → is_made_alone x ≡ false → AreEnough s t ks xs → AreEnough s t ks (xs ++ x ∷ [])
control_enough s t ks xs (items.Control c) control enough o k at_k = same_enough s t o k xs (items.Control c) refl refl (λ h. refl) (enough o k at_k)
control_enough s t ks xs _ control enough o k at_k = cc control

-- what the accesses have seen was made by threads of the scenario
pub are_seated : (s : Scene) (t : ℕ) (ks : List Access) (xs : List Item) → AreEnough s t ks xs → AreSeated (length s.threads) ks
are_seated s t ks xs enough o k at_k v a n past = same_positions n 0 v.front ∙ a.known.seated n (subst (λ m. m ≤ n) (sym ((enough o k at_k).seats v a)) past)

-- ---- acts

if_one : (b : Bool) (n : ℕ) → b ≡ true → (if b then n else 0) ≡ n
if_one true n e = refl
if_one false n e = cc e

if_none : (b : Bool) (n : ℕ) → b ≡ false → (if b then n else 0) ≡ 0
if_none true n e = cc e
if_none false n e = refl

if_kept : (b : Bool) (h k : Kept) → b ≡ false → (if b then h else k) ≡ k
if_kept true h k e = cc e
if_kept false h k e = refl

if_changed : (b : Bool) (h k : Kept) → b ≡ true → (if b then h else k) ≡ h
if_changed true h k e = refl
if_changed false h k e = cc e

one_left : (v w c spent_ more b : ℕ) → w ≡ v - c → c ≡ 1 → more ≡ spent_ + b → b ≡ 1 → 131072 ≤ v + spent_ → 131072 ≤ w + more
one_left v w c spent_ more b is cost grown one left = omega (arith, is, cost, grown, one, left)

as_much_left : (v w spent_ more b : ℕ) → w ≡ v → more ≡ spent_ + b → b ≡ 0 → 131072 ≤ v + spent_ → 131072 ≤ w + more
as_much_left v w spent_ more b is grown none left = omega (arith, is, grown, none, left)

share_left : (taken v w before after c spent_ more b : ℕ) → w ≡ (v + after) - before → before ≤ after + c → more ≡ spent_ + b → b ≡ c → taken ≤ v + spent_ → taken ≤ w + more
share_left taken v w before after c spent_ more b is took grown one share = omega (arith, is, took, grown, one, share)

as_much_share : (taken v w had has spent_ more b : ℕ) → w ≡ v → v ≡ had → w ≡ has → more ≡ spent_ + b → b ≡ 0 → taken ≤ had + spent_ → taken ≤ has + more
as_much_share taken v w had has spent_ more b is before after grown none share = omega (arith, is, before, after, grown, none, share)

-- the access that made a change of its own object
module _ (s : Scene) (t o : ℕ) (old new : Access) (xs : List Item) (q : ObjectNo) (n : ℕ) (e : Entry) (here : (q.0 == o) ≡ true) where
  change_left : (v w : View State) → is_free v.start ≡ true → Makes any_kind v w e n → 131072 ≤ v.left + spent (changes_by o) xs → 131072 ≤ w.left + spent (changes_by o) (xs ++ items.Change q n e ∷ [])
  change_left v w free m left =
      let free_now = run_free m.found v.start m.now m.leads free in
      let now = owes_none m.now free_now in
      let later = owes_none m.after (step_free m.now m.after e m.enabled free_now) in
      let cost : cost_of (debt m.now) (debt m.after) ≡ 1 = rw (now, later) refl in
      one_left v.left w.left (cost_of (debt m.now) (debt m.after)) (spent (changes_by o) xs) (spent (changes_by o) (xs ++ items.Change q n e ∷ [])) (changes_by o (items.Change q n e)) (ap (λ (u : View State). u.left) m.view) cost (spent_more (changes_by o) xs (items.Change q n e)) (if_one (q.0 == o) 1 here) left

  change_share : (v w : View State) → is_free v.start ≡ true → Makes any_kind v w e n → taken_in s t o ≤ v.share + spent (takes_by o) xs → taken_in s t o ≤ w.share + spent (takes_by o) (xs ++ items.Change q n e ∷ [])
  change_share v w free m share =
      let took = step_takes m.now m.after e m.enabled (run_free m.found v.start m.now m.leads free) in
      share_left (taken_in s t o) v.share w.share (pool m.now) (pool m.after) (counted_by (Some e.op) e.a) (spent (takes_by o) xs) (spent (takes_by o) (xs ++ items.Change q n e ∷ [])) (takes_by o (items.Change q n e)) (ap (λ (u : View State). u.share) m.view) took (spent_more (takes_by o) xs (items.Change q n e)) (if_one (q.0 == o) (counted_by (Some e.op) e.a) here) share

  change_enough : (v w : View State) → is_free v.start ≡ true → Knows old v → Knows new w → Makes any_kind v w e n → kept_of new ≡ in_hand (kept_after e.op (kept_of old)) → IsEnough s t o old xs → IsEnough s t o new (xs ++ items.Change q n e ∷ [])
  change_enough v w free a b m kept enough = record {
    seats = λ u c. ap (λ (z : View State). z.seats) (sym (same_view new w u b c)) ∙ (ap (λ (z : View State). z.seats) m.view ∙ enough.seats v a);
    holds = kept ∙ (ap (λ (h : Kept). in_hand (kept_after e.op h)) enough.holds ∙ sym (held_more o nothing xs (items.Change q n e) ∙ if_changed (q.0 == o) (in_hand (kept_after e.op (held_by o nothing xs))) (held_by o nothing xs) here));
    left = λ u c. change_left v u free (subst (λ (z : View State). Makes any_kind v z e n) (same_view new w u b c) m) (enough.left v a);
    share =
        let had : taken_in s t o ≤ v.share + spent (takes_by o) xs = subst (λ i. taken_in s t o ≤ i + spent (takes_by o) xs) (sym a.shared) enough.share in
        subst (λ i. taken_in s t o ≤ i + spent (takes_by o) (xs ++ items.Change q n e ∷ [])) b.shared (change_share v w free m had);
  }

-- and one that made a look
look_enough : (s : Scene) (t o : ℕ) (old new : Access) (xs : List Item) (q : ObjectNo) (x : Look) (v w : View State) → Knows old v → Knows new w → Looks any_kind v w x → kept_of new ≡ kept_of old → IsEnough s t o old xs → IsEnough s t o new (xs ++ items.Look q x ∷ [])
look_enough s t o old new xs q x v w a b m kept enough = record {
  seats = λ u c. ap (λ (z : View State). z.seats) (sym (same_view new w u b c)) ∙ (ap (λ (z : View State). z.seats) m.view ∙ enough.seats v a);
  holds = kept ∙ (enough.holds ∙ sym (held_more o nothing xs (items.Look q x)));
  left = λ u c. as_much_left v.left u.left (spent (changes_by o) xs) (spent (changes_by o) (xs ++ items.Look q x ∷ [])) 0 (ap (λ (z : View State). z.left) (sym (same_view new w u b c)) ∙ ap (λ (z : View State). z.left) m.view) (spent_more (changes_by o) xs (items.Look q x)) refl (enough.left v a);
  share = as_much_share (taken_in s t o) v.share w.share (share_of old) (share_of new) (spent (takes_by o) xs) (spent (takes_by o) (xs ++ items.Look q x ∷ [])) 0 (ap (λ (z : View State). z.share) m.view) a.shared b.shared (spent_more (takes_by o) xs (items.Look q x)) refl enough.share;
}

module _ (s : Scene) (t : ℕ) (fs : List Form) (ks ks' : List Access) (xs : List Item) (are : AreAccesses (objects_of ks) t ks) (enough : AreEnough s t ks xs) where
  acted_here : (x : Item) (a : AsksOn fs ks ks' x) → IsEnough s t a.object.0 a.new (xs ++ x ∷ [])
  acted_here (items.Change q n e) a =
      let is = access_at t ks a.object.0 a.old are a.was in
      let d = a.did.does is.view is.seen in
      let free : is_free is.view.start ≡ true = ap is_free is.seen.started ∙ opens_free (object_of a.old) in
      let same : q.0 ≡ a.object.0 = ap (λ (i : ObjectNo). i.0) d.2.0 in
      let here : (q.0 == a.object.0) ≡ true = subst (λ i. (q.0 == i) ≡ true) same (eq-eqb q.0 q.0 refl) in
      change_enough s t a.object.0 a.old a.new xs q n e here is.view d.0 free is.seen d.1 d.2.3 a.kept (enough a.object.0 a.old a.was)
  acted_here (items.Look q x) a =
      let is = access_at t ks a.object.0 a.old are a.was in
      let d = a.did.does is.view is.seen in
      look_enough s t a.object.0 a.old a.new xs q x is.view d.0 is.seen d.1 d.2.3 a.kept (enough a.object.0 a.old a.was)
  acted_here (items.Control c) a = let is = access_at t ks a.object.0 a.old are a.was in absurd (a.did.does is.view is.seen).2
  acted_here (items.Said r) a = let is = access_at t ks a.object.0 a.old are a.was in absurd (a.did.does is.view is.seen).2

  acted_elsewhere : (x : Item) (a : AsksOn fs ks ks' x) (o : ℕ) (k : Access) → (a.object.0 == o) ≡ false → slice_get ks o ≡ Some k → IsEnough s t o k (xs ++ x ∷ [])
  acted_elsewhere (items.Change q n e) a o k apart at_k =
      let is = access_at t ks a.object.0 a.old are a.was in
      let d = a.did.does is.view is.seen in
      let other : (q.0 == o) ≡ false = ap (λ (i : ObjectNo). i.0 == o) d.2.0 ∙ apart in
      same_enough s t o k xs (items.Change q n e) (if_none (q.0 == o) 1 other) (if_none (q.0 == o) (counted_by (Some e.op) e.a) other) (λ h. if_kept (q.0 == o) (in_hand (kept_after e.op h)) h other) (enough o k at_k)
  acted_elsewhere (items.Look q x) a o k apart at_k = same_enough s t o k xs (items.Look q x) refl refl (λ h. refl) (enough o k at_k)
  acted_elsewhere (items.Control c) a o k apart at_k = same_enough s t o k xs (items.Control c) refl refl (λ h. refl) (enough o k at_k)
  acted_elsewhere (items.Said r) a o k apart at_k = same_enough s t o k xs (items.Said r) refl refl (λ h. refl) (enough o k at_k)

  -- the accesses suffice still, once one of them has acted
  pub asked_enough : (x : Item) → AsksOn fs ks ks' x → AreEnough s t ks' (xs ++ x ∷ [])
  asked_enough x a o k at_k = go (a.object.0 == o) refl
    where
      go : (b : Bool) → (a.object.0 == o) ≡ b → IsEnough s t o k (xs ++ x ∷ [])
      go true e =
          let same : a.object.0 ≡ o = eqb-true a.object.0 o e in
          let there : slice_get ks' a.object.0 ≡ Some a.new = ap (λ vs. slice_get vs a.object.0) a.is ∙ set_same ks a.object.0 a.old a.new a.was in
          let access : a.new ≡ k = same_some a.new k (slice_get ks' o) (subst (λ i. slice_get ks' i ≡ Some a.new) same there) at_k in
          subst (λ (j : Access). IsEnough s t o j (xs ++ x ∷ [])) access (subst (λ i. IsEnough s t i a.new (xs ++ x ∷ [])) same (acted_here x a))
      go false e = acted_elsewhere x a o k e (sym (ap (λ vs. slice_get vs o) a.is ∙ set_other ks a.object.0 o a.new (eqb-false a.object.0 o e)) ∙ at_k)

-- ---- what is asked next

-- the forms of what is next, where it is no control and no reply, are an ask that is served
offer_served : (s : Scene) (t : ℕ) (l : Local) (fs : List Form) → IsOffer s t l fs → is_ended l ≡ false → begins_control fs ≡ false → IsNoReply fs → IsServed s l.memory fs
offer_served s t l [] offer going alone none = cc (offer, going)
offer_served s t l (forms.Does (controls.Start u ok) ∷ fs) offer going alone none = cc alone
offer_served s t l (forms.Does (controls.Launch u ok) ∷ fs) offer going alone none = cc alone
offer_served s t l (forms.Does (controls.Join u) ∷ fs) offer going alone none = cc alone
offer_served s t l (forms.Says r ∷ fs) offer going alone none = absurd (none r (ap (λ (gs : List Form). forms.Says r ∷ gs) offer.0))
offer_served s t l (f ∷ fs) offer going alone none = offer

some_change_left : (left spent_ : ℕ) → 131072 ≤ left + spent_ → spent_ ≤ 61440 → 1 ≤ left
some_change_left left spent_ h k = omega (arith, h, k)

takes_within : (takes_ spent_ taken share : ℕ) → spent_ + takes_ ≤ taken → taken ≤ share + spent_ → takes_ ≤ share
takes_within takes_ spent_ taken share h k = omega (arith, h, k)

-- what is next is served
pub serves_next : (s : Scene) (t : ℕ) (ks : List Access) (xs : List Item) (l : Place) (fs : List Form) → IsAskable s → AreMadeAs s.objects (objects_of ks) → AreAccesses (objects_of ks) t ks → StandsAt s t ks xs l → fs ≡ forms_at s t l → is_ended (local_of s t l) ≡ false → begins_control fs ≡ false → IsNoReply fs → AreServed fs ks
serves_next s t ks xs l fs asks made are at_ is going alone none =
    let f = some_fronts t ks are in
    let c = completing_by s f.0 in
    let after = at_.stands f.0 f.1 c (agrees_itself s f.0) in
    let place = local_of s t l in
    let offer : IsOffer s t (settled_local place) fs = subst (λ (gs : List Form). IsOffer s t (settled_local place) gs) (sym is) (offer_at s t ks xs l asks are at_) in
    let q = offer_served s t (settled_local place) fs offer (ended_now s c t xs place asks after ∙ going) alone none in
    let asked = served_asks s place.memory fs q in
    let low = is_within s.objects q.object.0 q.declared q.there in
    let long = objects_length ks in
    let count = made.count in
    let k = at_index ks q.object.0 (omega (arith, low, long, count)) in
    let is_made = made.each q.object.0 q.declared (object_of k.0) q.there (object_there ks q.object.0 k.0 k.1) in
    let enough = at_.enough q.object.0 k.0 k.1 in
    let few = changes_few s c t xs place q.object.0 asks after in
    let takes_ = asked_takes_now s c t xs place q.object q.ask asks after (subst (λ (gs : List Form). IsAskOf gs q.object q.ask) is asked) in
    let holds : kept_of k.0 ≡ in_hand (of place.memory q.object) = enough.holds ∙ sym (hands_are s c t xs place q.object asks after low) in
    record {
      object = q.object;
      ask = q.ask;
      asked = asked;
      access = k.0;
      there = k.1;
      may = λ v a.
          let within : takes q.ask ≤ v.share = subst (λ i. takes q.ask ≤ i) (sym a.shared) (takes_within (takes q.ask) (spent (takes_by q.object.0) xs) (taken_in s t q.object.0) (share_of k.0) takes_ enough.share) in
          (some_change_left v.left (spent (changes_by q.object.0) xs) (enough.left v a) few, serves_here q.declared k.0 is_made.is_of (of place.memory q.object) holds v.share q.ask (q.served v.share within));
    }
