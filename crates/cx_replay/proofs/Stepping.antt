-- What each item of each thread keeps, a replay keeps.
use Rattle.std.proofs.Common.{◌≡◌, ◌%◌, ℕ, zero, suc, ◌+◌, ◌==◌, eq-eqb, ℤ, pos, if◌then◌else◌, Bool, true, false, List, [], ◌∷◌, ◌++◌, length, Option, Some, None, option_and_then, option_map, option_to_list, slice_get, slice_set, refl, sym, ap, ◌∙◌, subst, add-zero, zero-add, set-set}
use Rattle.cx_names.specs.declared.Reply.{Reply}
use Rattle.cx_names.specs.declared.Reply.TheVariants as replies
use Rattle.cx_machine.specs.declared.kind.Op.{Op}
use Rattle.cx_machine.specs.declared.kind.Op.TheVariants as ops
use Rattle.cx_items.specs.Form.{is_registered_on}
use Rattle.cx_names.specs.declared.ObjectNo.{ObjectNo}
use Rattle.cx_machine.specs.declared.kind.Entry.{Entry}
use Rattle.cx_machine.specs.declared.kind.Look.{Look}
use Rattle.cx_machine.specs.Words.{when}
use Rattle.cx_machine.specs.Machine.{State, step, shows}
use Rattle.cx_scene.specs.Scene.{Scene}
use Rattle.cx_items.specs.declared.item.Control.{Control}
use Rattle.cx_items.specs.declared.item.Control.TheVariants as controls
use Rattle.cx_items.specs.declared.item.Item.{Item}
use Rattle.cx_items.specs.declared.item.Item.TheVariants as items
use Rattle.cx_items.specs.declared.form.Form.{Form}
use Rattle.cx_items.specs.declared.form.Form.TheVariants.{Change, Look as ALook, Begin, Does, Says}
use Rattle.cx_items.specs.Next.{Local, after_item}
use Rattle.cx_replay.specs.SplitMix.{next_seed, word}
use Rattle.cx_replay.specs.Schedule.{Thing, Runner, World, Made, Turn, thing_at, changed_to, made_change, seen_as, made_look, made_begin, reply_of, change_by, look_by, replied_change, replied_look, forms_at, can_do, has_ended, made, or_made, first_made, settled_local, is_completing_now, moved_to, goes_on, due_reply, replies_with, with_reply, after_made, stepped_to, after_step, stepped, steps_from, steps, drawn, chosen, turn, turns}
use Rattle.cx_replay.proofs.Kept.{slice_get-set_same, set_there, Moves, replied, first_made_moves, after_one}

-- ---- the thread's list grows by the item, and by the reply where that stands with it

pub data Grown (r : Runner) (x : Item) (r' : Runner) : Type 0 where
  alone : r'.done ≡ r.done ++ x ∷ [] → Grown r x r'
  replying : (q : Reply) → r'.done ≡ (r.done ++ x ∷ []) ++ items.Said q ∷ [] → Grown r x r'

pub done_by : (xs : List Item) (o : Option Local) (r' : Runner) → option_map (moved_to xs) o ≡ Some r' → r'.done ≡ xs
done_by xs None r' h = cc
done_by xs (Some l) r' h = let same : moved_to xs l ≡ r' = cc in ap (λ (v : Runner). v.done) (sym same)

replied_by : (s : Scene) (things : List Thing) (t : ℕ) (r r1 r' : Runner) (x : Item) → r1.done ≡ r.done ++ x ∷ [] → (o : Option Reply) → replies_with s things t r1 o ≡ Some r' → Grown r x r'
replied_by s things t r r1 r' x e None h = let same : r1 ≡ r' = cc in alone (ap (λ (v : Runner). v.done) (sym same) ∙ e)
replied_by s things t r r1 r' x e (Some q) h = replying q (done_by (r1.done ++ items.Said q ∷ []) (after_item s (is_completing_now things) t r1.local (items.Said q)) r' h ∙ ap (λ xs. xs ++ items.Said q ∷ []) e)

acted : (s : Scene) (things : List Thing) (t : ℕ) (r r' : Runner) (x : Item) → option_and_then (with_reply s things t) (goes_on s things t r x) ≡ Some r' → Grown r x r'
acted s things t r r' x h = go (goes_on s things t r x) refl h
  where
    go : (o : Option Runner) → goes_on s things t r x ≡ o → option_and_then (with_reply s things t) o ≡ Some r' → Grown r x r'
    go None p k = cc
    go (Some r1) p k = replied_by s things t r r1 r' x (done_by (r.done ++ x ∷ []) (after_item s (is_completing_now things) t r.local x) r1 p) (due_reply (settled_local r1.local).agenda) k

pub after_made-grown : (s : Scene) (things : List Thing) (t : ℕ) (r r' : Runner) (x : Item) → after_made s things t r x ≡ Some r' → Grown r x r'
after_made-grown s things t r r' (items.Said q) h = alone (done_by (r.done ++ items.Said q ∷ []) (after_item s (is_completing_now things) t r.local (items.Said q)) r' h)
after_made-grown s things t r r' (items.Change q p e) h = acted s things t r r' (items.Change q p e) h
after_made-grown s things t r r' (items.Look q l) h = acted s things t r r' (items.Look q l) h
after_made-grown s things t r r' (items.Control c) h = acted s things t r r' (items.Control c) h

-- ---- a thread is joined only where it has ended

abbrev pub joins_ended : List (Option Runner) → Item → Bool
joins_ended rs (items.Control (controls.Join u)) = has_ended (option_and_then (λ r. r) (slice_get rs u.0))
joins_ended rs _ = true

change_joins : (w : World) (o : ObjectNo) (e : Entry) (ox : Option Thing) (m : Made) → made_change w o e ox ≡ Some m → joins_ended w.runners m.item ≡ true
change_joins w o e None m h = cc
change_joins w o e (Some x) m h = go (step x.state e) h
  where
    go : (on : Option State) → option_map (changed_to w o e x) on ≡ Some m → joins_ended w.runners m.item ≡ true
    go None k = cc
    go (Some next) k =
        let same : changed_to w o e x next ≡ m = cc in
        subst (λ (v : Made). joins_ended w.runners v.item ≡ true) same refl

look_joins : (w : World) (o : ObjectNo) (l : Look) (ox : Option Thing) (m : Made) → made_look w o l ox ≡ Some m → joins_ended w.runners m.item ≡ true
look_joins w o l None m h = cc
look_joins w o l (Some x) m h = go (shows x.state l) h
  where
    go : (b : Bool) → when b (seen_as w o l x) ≡ Some m → joins_ended w.runners m.item ≡ true
    go true k =
        let same : seen_as w o l x ≡ m = cc in
        subst (λ (v : Made). joins_ended w.runners v.item ≡ true) same refl
    go false k = cc

replied_change_joins : (w : World) (t : ℕ) (o : ObjectNo) (op : Op) (a b : ℤ) (r : Option Reply) (m : Made) → replied_change w t o op a b r ≡ Some m → joins_ended w.runners m.item ≡ true
replied_change_joins w t o op a b None m h = cc
replied_change_joins w t o op a b (Some r) m h = change_joins w o (change_by t op a b r) (thing_at w o) m h

replied_look_joins : (w : World) (t : ℕ) (o : ObjectNo) (op : Op) (a b : ℤ) (r : Option Reply) (m : Made) → replied_look w t o op a b r ≡ Some m → joins_ended w.runners m.item ≡ true
replied_look_joins w t o op a b None m h = cc
replied_look_joins w t o op a b (Some r) m h = look_joins w o (look_by t op a b r) (thing_at w o) m h

begin_joins : (s : Scene) (w : World) (t : ℕ) (st : ObjectNo) (id : Option ℕ) (m : Made) → made_begin s w t st id ≡ Some m → joins_ended w.runners m.item ≡ true
begin_joins s w t st None m h = cc
begin_joins s w t st (Some id) m h = go (is_registered_on s st (pos id)) h
  where
    go : (b : Bool) → (if b then made_change w st (change_by t ops.Begin (pos id) (pos 0) replies.Ok) (thing_at w st) else None) ≡ Some m → joins_ended w.runners m.item ≡ true
    go true k = change_joins w st (change_by t ops.Begin (pos id) (pos 0) replies.Ok) (thing_at w st) m k
    go false k = cc

control_joins : (w : World) (c : Control) (m : Made) → when (can_do w c) (record { item = items.Control c; things = w.things }) ≡ Some m → joins_ended w.runners m.item ≡ true
control_joins w c m h = go (can_do w c) refl h
  where
    allowed : (d : Control) → can_do w d ≡ true → joins_ended w.runners (items.Control d) ≡ true
    allowed (controls.Start u ok) e = refl
    allowed (controls.Launch u ok) e = refl
    allowed (controls.Join u) e = e

    go : (b : Bool) → can_do w c ≡ b → when b (record { item = items.Control c; things = w.things }) ≡ Some m → joins_ended w.runners m.item ≡ true
    go true e k =
        let made_ : Made = record { item = items.Control c; things = w.things } in
        let same : made_ ≡ m = cc in
        subst (λ (v : Made). joins_ended w.runners v.item ≡ true) same (allowed c e)
    go false e k = cc

reply_joins : (w : World) (r : Reply) (m : Made) → Some (record { item = items.Said r; things = w.things }) ≡ Some m → joins_ended w.runners m.item ≡ true
reply_joins w r m h =
    let made_ : Made = record { item = items.Said r; things = w.things } in
    let same : made_ ≡ m = cc in
    subst (λ (v : Made). joins_ended w.runners v.item ≡ true) same refl

made_joins : (s : Scene) (w : World) (t : ℕ) (f : Form) (m : Made) → made s w t f ≡ Some m → joins_ended w.runners m.item ≡ true
made_joins s w t (Change o op a b wanted) m h = replied_change_joins w t o op a b (reply_of w t o op a b wanted) m h
made_joins s w t (ALook o op a b wanted) m h = replied_look_joins w t o op a b (reply_of w t o op a b wanted) m h
made_joins s w t (Begin st) m h = begin_joins s w t st _ m h
made_joins s w t (Does c) m h = control_joins w c m h
made_joins s w t (Says r) m h = reply_joins w r m h

first_made_joins : (s : Scene) (w : World) (t : ℕ) (fs : List Form) (m : Made) → first_made s w t fs ≡ Some m → joins_ended w.runners m.item ≡ true
first_made_joins s w t [] m h = cc
first_made_joins s w t (f ∷ fs) m h = go (made s w t f) refl h (λ k. first_made_joins s w t fs m k)
  where
    go : (o : Option Made) → made s w t f ≡ o → or_made o (first_made s w t fs) ≡ Some m → (first_made s w t fs ≡ Some m → joins_ended w.runners m.item ≡ true) → joins_ended w.runners m.item ≡ true
    go None p k ih = ih k
    go (Some n) p k ih =
        let same : made s w t f ≡ Some m = p ∙ k in
        made_joins s w t f m same

-- ---- an item is its thread's own

abbrev pub is_by : ℕ → Item → Bool
is_by t (items.Change q p e) = e.by.0 == t
is_by t (items.Look q l) = l.by.0 == t
is_by t _ = true

change_own : (t : ℕ) (w : World) (o : ObjectNo) (e : Entry) (ox : Option Thing) (m : Made) → (e.by.0 == t) ≡ true → made_change w o e ox ≡ Some m → is_by t m.item ≡ true
change_own t w o e None m own h = cc
change_own t w o e (Some x) m own h = go (step x.state e) h
  where
    go : (on : Option State) → option_map (changed_to w o e x) on ≡ Some m → is_by t m.item ≡ true
    go None k = cc
    go (Some next) k =
        let same : changed_to w o e x next ≡ m = cc in
        subst (λ (v : Made). is_by t v.item ≡ true) same own

look_own : (t : ℕ) (w : World) (o : ObjectNo) (l : Look) (ox : Option Thing) (m : Made) → (l.by.0 == t) ≡ true → made_look w o l ox ≡ Some m → is_by t m.item ≡ true
look_own t w o l None m own h = cc
look_own t w o l (Some x) m own h = go (shows x.state l) h
  where
    go : (b : Bool) → when b (seen_as w o l x) ≡ Some m → is_by t m.item ≡ true
    go true k =
        let same : seen_as w o l x ≡ m = cc in
        subst (λ (v : Made). is_by t v.item ≡ true) same own
    go false k = cc

replied_change_own : (w : World) (t : ℕ) (o : ObjectNo) (op : Op) (a b : ℤ) (r : Option Reply) (m : Made) → replied_change w t o op a b r ≡ Some m → is_by t m.item ≡ true
replied_change_own w t o op a b None m h = cc
replied_change_own w t o op a b (Some r) m h = change_own t w o (change_by t op a b r) (thing_at w o) m (eq-eqb t t refl) h

replied_look_own : (w : World) (t : ℕ) (o : ObjectNo) (op : Op) (a b : ℤ) (r : Option Reply) (m : Made) → replied_look w t o op a b r ≡ Some m → is_by t m.item ≡ true
replied_look_own w t o op a b None m h = cc
replied_look_own w t o op a b (Some r) m h = look_own t w o (look_by t op a b r) (thing_at w o) m (eq-eqb t t refl) h

begin_own : (s : Scene) (w : World) (t : ℕ) (st : ObjectNo) (id : Option ℕ) (m : Made) → made_begin s w t st id ≡ Some m → is_by t m.item ≡ true
begin_own s w t st None m h = cc
begin_own s w t st (Some id) m h = go (is_registered_on s st (pos id)) h
  where
    go : (b : Bool) → (if b then made_change w st (change_by t ops.Begin (pos id) (pos 0) replies.Ok) (thing_at w st) else None) ≡ Some m → is_by t m.item ≡ true
    go true k = change_own t w st (change_by t ops.Begin (pos id) (pos 0) replies.Ok) (thing_at w st) m (eq-eqb t t refl) k
    go false k = cc

control_own : (w : World) (t : ℕ) (c : Control) (b : Bool) (m : Made) → when b (record { item = items.Control c; things = w.things }) ≡ Some m → is_by t m.item ≡ true
control_own w t c false m h = cc
control_own w t c true m h =
    let made_ : Made = record { item = items.Control c; things = w.things } in
    let same : made_ ≡ m = cc in
    subst (λ (v : Made). is_by t v.item ≡ true) same refl

reply_own : (w : World) (t : ℕ) (r : Reply) (m : Made) → Some (record { item = items.Said r; things = w.things }) ≡ Some m → is_by t m.item ≡ true
reply_own w t r m h =
    let made_ : Made = record { item = items.Said r; things = w.things } in
    let same : made_ ≡ m = cc in
    subst (λ (v : Made). is_by t v.item ≡ true) same refl

made_own : (s : Scene) (w : World) (t : ℕ) (f : Form) (m : Made) → made s w t f ≡ Some m → is_by t m.item ≡ true
made_own s w t (Change o op a b wanted) m h = replied_change_own w t o op a b (reply_of w t o op a b wanted) m h
made_own s w t (ALook o op a b wanted) m h = replied_look_own w t o op a b (reply_of w t o op a b wanted) m h
made_own s w t (Begin st) m h = begin_own s w t st _ m h
made_own s w t (Does c) m h = control_own w t c (can_do w c) m h
made_own s w t (Says r) m h = reply_own w t r m h

first_made_own : (s : Scene) (w : World) (t : ℕ) (fs : List Form) (m : Made) → first_made s w t fs ≡ Some m → is_by t m.item ≡ true
first_made_own s w t [] m h = cc
first_made_own s w t (f ∷ fs) m h = go (made s w t f) refl h (λ k. first_made_own s w t fs m k)
  where
    go : (o : Option Made) → made s w t f ≡ o → or_made o (first_made s w t fs) ≡ Some m → (first_made s w t fs ≡ Some m → is_by t m.item ≡ true) → is_by t m.item ≡ true
    go None p k ih = ih k
    go (Some n) p k ih =
        let same : made s w t f ≡ Some m = p ∙ k in
        made_own s w t f m same

-- ---- an item, and the reply that stands with it

-- an item that thread t may make beside these threads
abbrev pub MayBe : ℕ → List (Option Runner) → Item → Type 0
MayBe t rs x = (joins_ended rs x ≡ true) × (is_by t x ≡ true)

-- an item leads from what P says to what Q says
abbrev pub ItemLeads : Scene → (List Thing → List (Option Runner) → Type 0) → (List Thing → List (Option Runner) → Type 0) → Type 0
ItemLeads s P Q = (things things' : List Thing) (rs : List (Option Runner)) (t : ℕ) (r r1 : Runner) (x : Item) → P things rs → slice_get rs t ≡ Some (Some r) → Moves things x things' → MayBe t rs x → goes_on s things' t r x ≡ Some r1 → Q things' (slice_set rs t (Some r1))

abbrev pub ItemKeeps : Scene → (List Thing → List (Option Runner) → Type 0) → Type 0
ItemKeeps s P = ItemLeads s P P

reply_keeps : (s : Scene) (P : List Thing → List (Option Runner) → Type 0) → ItemKeeps s P → (things : List Thing) (rs : List (Option Runner)) (t : ℕ) (r1 r' : Runner) (o : Option Reply) → P things rs → slice_get rs t ≡ Some (Some r1) → replies_with s things t r1 o ≡ Some r' → P things (slice_set rs t (Some r'))
reply_keeps s P item things rs t r1 r' None good e h =
    let same : r1 ≡ r' = cc in
    subst (λ (v : Runner). P things (slice_set rs t (Some v))) same (subst (λ ls. P things ls) (sym (set_there rs t (Some r1) e)) good)
reply_keeps s P item things rs t r1 r' (Some q) good e h = item things things rs t r1 r' (items.Said q) good e (replied q) (refl, refl) h

act_leads : (s : Scene) (P Q : List Thing → List (Option Runner) → Type 0) → ItemLeads s P Q → ItemKeeps s Q → (things things' : List Thing) (rs : List (Option Runner)) (t : ℕ) (r r' : Runner) (x : Item) → P things rs → slice_get rs t ≡ Some (Some r) → Moves things x things' → MayBe t rs x → option_and_then (with_reply s things' t) (goes_on s things' t r x) ≡ Some r' → Q things' (slice_set rs t (Some r'))
act_leads s P Q item more things things' rs t r r' x good e moves own h = go (goes_on s things' t r x) refl h
  where
    go : (o : Option Runner) → goes_on s things' t r x ≡ o → option_and_then (with_reply s things' t) o ≡ Some r' → Q things' (slice_set rs t (Some r'))
    go None p k = cc
    go (Some r1) p k =
        let first = item things things' rs t r r1 x good e moves own p in
        let there_ = slice_get-set_same rs t (Some r) (Some r1) e in
        let second = reply_keeps s Q more things' (slice_set rs t (Some r1)) t r1 r' (due_reply (settled_local r1.local).agenda) first there_ k in
        subst (λ ls. Q things' ls) (set-set rs t (Some r1) (Some r')) second

-- an item leads to what Q says, and the reply that stands with it keeps that
pub made_leads : (s : Scene) (P Q : List Thing → List (Option Runner) → Type 0) → ItemLeads s P Q → ItemKeeps s Q → (things things' : List Thing) (rs : List (Option Runner)) (t : ℕ) (r r' : Runner) (x : Item) → P things rs → slice_get rs t ≡ Some (Some r) → Moves things x things' → MayBe t rs x → after_made s things' t r x ≡ Some r' → Q things' (slice_set rs t (Some r'))
made_leads s P Q item more things things' rs t r r' (items.Said q) good e moves own h = item things things' rs t r r' (items.Said q) good e moves own h
made_leads s P Q item more things things' rs t r r' (items.Change q p k) good e moves own h = act_leads s P Q item more things things' rs t r r' (items.Change q p k) good e moves own h
made_leads s P Q item more things things' rs t r r' (items.Look q l) good e moves own h = act_leads s P Q item more things things' rs t r r' (items.Look q l) good e moves own h
made_leads s P Q item more things things' rs t r r' (items.Control c) good e moves own h = act_leads s P Q item more things things' rs t r r' (items.Control c) good e moves own h

pub made_keeps : (s : Scene) (P : List Thing → List (Option Runner) → Type 0) → ItemKeeps s P → (things things' : List Thing) (rs : List (Option Runner)) (t : ℕ) (r r' : Runner) (x : Item) → P things rs → slice_get rs t ≡ Some (Some r) → Moves things x things' → MayBe t rs x → after_made s things' t r x ≡ Some r' → P things' (slice_set rs t (Some r'))
made_keeps s P item = made_leads s P P item item

-- ---- a step, a turn, all turns

-- a step leads from what P says to what Q says
abbrev pub StepLeads : Scene → (World → Type 0) → (World → Type 0) → Type 0
StepLeads s P Q = (w : World) (t : ℕ) (r r' : Runner) (m : Made) → P w → slice_get w.runners t ≡ Some (Some r) → Moves w.things m.item m.things → MayBe t w.runners m.item → after_made s m.things t r m.item ≡ Some r' → Q (stepped_to s w t m r')

abbrev pub StepKeeps : Scene → (World → Type 0) → Type 0
StepKeeps s P = StepLeads s P P

stepped_leads : (s : Scene) (P Q : World → Type 0) → StepLeads s P Q → (w w' : World) (t : ℕ) (r : Option Runner) → P w → slice_get w.runners t ≡ Some r → stepped s w t r ≡ Some w' → Q w'
stepped_leads s P Q step w w' t None good at_ h = cc
stepped_leads s P Q step w w' t (Some r) good at_ h = go (first_made s w t (forms_at s t r.local)) refl h
  where
    to_world : (m : Made) → first_made s w t (forms_at s t r.local) ≡ Some m → (o : Option Runner) → after_made s m.things t r m.item ≡ o → option_map (stepped_to s w t m) o ≡ Some w' → Q w'
    to_world m first None p k = cc
    to_world m first (Some r') p k =
        let same : stepped_to s w t m r' ≡ w' = cc in
        subst Q same (step w t r r' m good at_ (first_made_moves s w t (forms_at s t r.local) m first) (first_made_joins s w t (forms_at s t r.local) m first, first_made_own s w t (forms_at s t r.local) m first) p)

    go : (o : Option Made) → first_made s w t (forms_at s t r.local) ≡ o → option_and_then (after_step s w t r) o ≡ Some w' → Q w'
    go None p k = cc
    go (Some m) p k = to_world m p (after_made s m.things t r m.item) refl k

-- each world of a list
data Each (P : World → Type 0) : List World → Type 0 where
  no_world : Each P []
  a_world : (w : World) (ws : List World) → P w → Each P ws → Each P (w ∷ ws)

steps_lead : (s : Scene) (P Q : World → Type 0) → StepLeads s P Q → (w : World) → P w → (t : ℕ) (rs : List (Option Runner)) → ((i : ℕ) (r : Option Runner) → slice_get rs i ≡ Some r → slice_get w.runners (t + i) ≡ Some r) → Each Q (steps_from s w t rs)
steps_lead s P Q step w good t [] at_ = no_world
steps_lead s P Q step w good t (r ∷ rs) at_ = go (stepped s w t r) refl (steps_lead s P Q step w good (t + 1) rs (λ i q e. subst (λ n. slice_get w.runners n ≡ Some q) (after_one t i) (at_ (suc i) q e)))
  where
    at_t : slice_get w.runners t ≡ Some r
    at_t = subst (λ n. slice_get w.runners n ≡ Some r) (add-zero t) (at_ zero r refl)

    go : (o : Option World) → stepped s w t r ≡ o → Each Q (steps_from s w (t + 1) rs) → Each Q (option_to_list o ++ steps_from s w (t + 1) rs)
    go None p ih = ih
    go (Some v) p ih = a_world v (steps_from s w (t + 1) rs) (stepped_leads s P Q step w v t r good at_t p) ih

one_of : (P : World → Type 0) (ws : List World) (i : ℕ) (v : World) → Each P ws → slice_get ws i ≡ Some v → P v
one_of P [] i v all e = cc
one_of P (w ∷ ws) zero v (a_world w' ws' good all) e = let same : w ≡ v = cc in subst P same good
one_of P (w ∷ ws) (suc i) v (a_world w' ws' good all) e = one_of P ws i v all e

drawn_keeps : (P : World → Type 0) (seed : ℕ) (o : Option World) (y : Turn) → ((v : World) → o ≡ Some v → P v) → option_map (drawn seed) o ≡ Some y → P y.world
drawn_keeps P seed None y good h = cc
drawn_keeps P seed (Some v) y good h = let same : drawn seed v ≡ y = cc in subst (λ (u : Turn). P u.world) same (good v refl)

kept_at : (P : World → Type 0) (w : World) (seed : Option ℕ) (y : Turn) → P w → Some (record { world = w; seed = seed }) ≡ Some y → P y.world
kept_at P w seed y good h =
    let x : Turn = record { world = w; seed = seed } in
    let same : x ≡ y = cc in
    subst (λ (u : Turn). P u.world) same good

chosen_keeps : (P : World → Type 0) (ws : List World) (seed : Option ℕ) (y : Turn) → Each P ws → chosen ws seed ≡ Some y → P y.world
chosen_keeps P [] seed y all h = cc
chosen_keeps P (w ∷ []) seed y (a_world w' ws' good all) h = kept_at P w seed y good h
chosen_keeps P (w ∷ v ∷ vs) None y (a_world w' ws' good all) h = kept_at P w None y good h
chosen_keeps P (w ∷ v ∷ vs) (Some x) y all h = drawn_keeps P (next_seed x) (slice_get (w ∷ v ∷ vs) (word (next_seed x) % length (w ∷ v ∷ vs))) y (λ u e. one_of P (w ∷ v ∷ vs) (word (next_seed x) % length (w ∷ v ∷ vs)) u all e) h

pub turn_leads : (s : Scene) (P Q : World → Type 0) → StepLeads s P Q → (x y : Turn) → P x.world → turn s x ≡ Some y → Q y.world
turn_leads s P Q step x y good h = chosen_keeps Q (steps s x.world) x.seed y (steps_lead s P Q step x.world good 0 x.world.runners (λ i r e. subst (λ n. slice_get x.world.runners n ≡ Some r) (sym (zero-add i)) e)) h

-- what each step keeps, any number of turns keep
pub turns_keep : (s : Scene) (P : World → Type 0) → StepKeeps s P → (n : ℕ) (x y : Turn) → P x.world → turns n s x ≡ Some y → P y.world
turns_keep s P step zero x y good h = let same : x ≡ y = cc in subst (λ (u : Turn). P u.world) same good
turns_keep s P step (suc n) x y good h = go (turn s x) refl h (λ z after e. turns_keep s P step n z y after e)
  where
    go : (o : Option Turn) → turn s x ≡ o → option_and_then (turns n s) o ≡ Some y → ((z : Turn) → P z.world → turns n s z ≡ Some y → P y.world) → P y.world
    go None p k ih = cc
    go (Some z) p k ih = ih z (turn_leads s P P step x z good p) k
