-- An item that a thread can make is one that it may make where it stands.
use Rattle.std.proofs.Common.{◌≡◌, ℕ, ◌==◌, ◌||◌, ℤ, pos, Bool, true, false, List, [], ◌∷◌, ◌++◌, map, Option, Some, None, option_map, is_some, if◌then◌else◌, ◌⊎◌, inl, inr, refl, sym, ap, ◌∙◌, eq-eqb}
use Rattle.std.proofs.lemmas.List.{map-append}
use Rattle.std.proofs.lemmas.Bool.Decides.{Decides-int_eq}
use Rattle.cx_names.specs.declared.ObjectNo.{ObjectNo}
use Rattle.cx_names.specs.declared.Reply.{Reply}
use Rattle.cx_names.specs.declared.Reply.TheVariants as replies
use Rattle.cx_names.specs.Replies.{int_eq, reply_eq}
use Rattle.cx_names.proofs.Equal.{replies_are_equal}
use Rattle.cx_machine.specs.declared.kind.Op.{Op}
use Rattle.cx_machine.specs.declared.kind.Op.TheVariants as ops
use Rattle.cx_machine.specs.declared.kind.Entry.{Entry}
use Rattle.cx_machine.specs.declared.kind.Look.{Look}
use Rattle.cx_machine.specs.Words.{when}
use Rattle.cx_machine.specs.Machine.{State, step, shows}
use Rattle.cx_machine.specs.Now.{first_registered}
use Rattle.cx_scene.specs.Scene.{Scene}
use Rattle.cx_items.specs.declared.item.Control.{Control}
use Rattle.cx_items.specs.declared.item.Control.TheVariants as controls
use Rattle.cx_items.specs.declared.item.Item.{Item}
use Rattle.cx_items.specs.declared.item.Item.TheVariants as items
use Rattle.cx_items.specs.declared.form.Wanted.{Wanted}
use Rattle.cx_items.specs.declared.form.Wanted.TheVariants.{Just, ANumber, AThread, AnOutcome}
use Rattle.cx_items.specs.declared.form.Form.{Form}
use Rattle.cx_items.specs.declared.form.Form.TheVariants.{Change, Look as ALook, Begin, Does, Says as SaysForm}
use Rattle.cx_items.specs.declared.task.Task.{Task}
use Rattle.cx_items.specs.declared.task.Task.TheVariants.{Completes, Says}
use Rattle.cx_items.specs.Form.{fits, op_number, bool_eq, control_eq, is_wanted, is_number, is_thread_or_none, is_outcome, is_registered_on}
use Rattle.cx_items.specs.Next.{Local, Alternative, alternatives, offered, offered_by, reached, or_then, undue, settled_local, due_reply}
use Rattle.cx_items.specs.Steps.{form_of}
use Rattle.cx_items.proofs.Offers.{few_forms, last_or_skipped, IsLast, IsSkipped}
use Rattle.cx_replay.specs.Schedule.{Thing, World, Made, thing_at, given_reply, reply_of, changed_to, made_change, seen_as, made_look, change_by, look_by, replied_change, replied_look, made_begin, can_do, made, or_made, first_made, forms_at}

reply_same : (r : Reply) → reply_eq r r ≡ true
reply_same r = (replies_are_equal r r).1 refl

int_same : (n : ℤ) → int_eq n n ≡ true
int_same n = (Decides-int_eq n n).1 refl

same : (n : ℕ) → (n == n) ≡ true
same n = eq-eqb n n refl

-- ---- the reply that is given is wanted

when_true : (f : Reply → Bool) (now r : Reply) → when (f now) now ≡ Some r → f r ≡ true
when_true f now r e = go (f now) refl e
  where
    go : (b : Bool) → f now ≡ b → when b now ≡ Some r → f r ≡ true
    go true p w = let is : now ≡ r = cc in ap f (sym is) ∙ p
    go false p w = cc

wanted_given : (w : Wanted) (now r : Reply) → given_reply w now ≡ Some r → is_wanted w r ≡ true
wanted_given (Just q) now r e = let is : q ≡ r = cc in ap (reply_eq q) (sym is) ∙ reply_same q
wanted_given ANumber now r e = when_true is_number now r e
wanted_given AThread now r e = when_true is_thread_or_none now r e
wanted_given AnOutcome now r e = when_true is_outcome now r e

-- ---- the item is of its form

made_change_item : (w : World) (o : ObjectNo) (e : Entry) (x : Option Thing) (m : Made) → made_change w o e x ≡ Some m → (p : ℕ) × (m.item ≡ items.Change o p e)
made_change_item w o e None m h = cc
made_change_item w o e (Some x) m h = go (step x.state e) h
  where
    go : (n : Option State) → option_map (changed_to w o e x) n ≡ Some m → (p : ℕ) × (m.item ≡ items.Change o p e)
    go None k = cc
    go (Some next) k = let is : changed_to w o e x next ≡ m = cc in (x.changes, ap (λ (v : Made). v.item) (sym is))

made_look_item : (w : World) (o : ObjectNo) (l : Look) (x : Option Thing) (m : Made) → made_look w o l x ≡ Some m → (p : ℕ) × (m.item ≡ items.Look o (record l { at = p }))
made_look_item w o l None m h = cc
made_look_item w o l (Some x) m h = go (shows x.state l) h
  where
    go : (b : Bool) → when b (seen_as w o l x) ≡ Some m → (p : ℕ) × (m.item ≡ items.Look o (record l { at = p }))
    go false k = cc
    go true k = let is : seen_as w o l x ≡ m = cc in (x.changes, ap (λ (v : Made). v.item) (sym is))

change_fits : (s : Scene) (w : World) (t : ℕ) (o : ObjectNo) (op : Op) (a b : ℤ) (wanted : Wanted) (m : Made) → made s w t (Change o op a b wanted) ≡ Some m → is_some (fits s (Change o op a b wanted) m.item) ≡ true
change_fits s w t o op a b wanted m h = go (reply_of w t o op a b wanted) refl h
  where
    go : (r : Option Reply) → reply_of w t o op a b wanted ≡ r → replied_change w t o op a b r ≡ Some m → is_some (fits s (Change o op a b wanted) m.item) ≡ true
    go None p k = cc
    go (Some q) p k =
        let i = made_change_item w o (change_by t op a b q) (thing_at w o) m k in
        rw (i.1, same o.0, same (op_number op), int_same a, int_same b, wanted_given wanted _ q p) refl

look_fits : (s : Scene) (w : World) (t : ℕ) (o : ObjectNo) (op : Op) (a b : ℤ) (wanted : Wanted) (m : Made) → made s w t (ALook o op a b wanted) ≡ Some m → is_some (fits s (ALook o op a b wanted) m.item) ≡ true
look_fits s w t o op a b wanted m h = go (reply_of w t o op a b wanted) refl h
  where
    go : (r : Option Reply) → reply_of w t o op a b wanted ≡ r → replied_look w t o op a b r ≡ Some m → is_some (fits s (ALook o op a b wanted) m.item) ≡ true
    go None p k = cc
    go (Some q) p k =
        let i = made_look_item w o (look_by t op a b q) (thing_at w o) m k in
        rw (i.1, same o.0, same (op_number op), int_same a, int_same b, wanted_given wanted _ q p) refl

begin_fits : (s : Scene) (w : World) (t : ℕ) (o : ObjectNo) (m : Made) (id : Option ℕ) → made_begin s w t o id ≡ Some m → is_some (fits s (Begin o) m.item) ≡ true
begin_fits s w t o m None h = cc
begin_fits s w t o m (Some id) h = go (is_registered_on s o (pos id)) refl h
  where
    go : (b : Bool) → is_registered_on s o (pos id) ≡ b → (if b then made_change w o (change_by t ops.Begin (pos id) (pos 0) replies.Ok) (thing_at w o) else None) ≡ Some m → is_some (fits s (Begin o) m.item) ≡ true
    go false p k = cc
    go true p k =
        let i = made_change_item w o (change_by t ops.Begin (pos id) (pos 0) replies.Ok) (thing_at w o) m k in
        rw (i.1, same o.0, int_same (pos id), p) refl

bool_same : (b : Bool) → bool_eq b b ≡ true
bool_same true = refl
bool_same false = refl

control_same : (c : Control) → control_eq c c ≡ true
control_same (controls.Start u b) = rw (same u.0, bool_same b) refl
control_same (controls.Launch u b) = rw (same u.0, bool_same b) refl
control_same (controls.Join u) = same u.0

control_fits : (s : Scene) (w : World) (c : Control) (m : Made) (b : Bool) → when b (record { item = items.Control c; things = w.things }) ≡ Some m → is_some (fits s (Does c) m.item) ≡ true
control_fits s w c m false h = cc
control_fits s w c m true h =
    let is : record { item = items.Control c; things = w.things } ≡ m = cc in
    let item : m.item ≡ items.Control c = ap (λ (v : Made). v.item) (sym is) in
    rw (item, control_same c) refl

said_item : (s : Scene) (r : Reply) → is_some (fits s (SaysForm r) (items.Said r)) ≡ true
said_item s r = rw (reply_same r) refl

said_fits : (s : Scene) (w : World) (r : Reply) (m : Made) → Some (record { item = items.Said r; things = w.things }) ≡ Some m → is_some (fits s (SaysForm r) m.item) ≡ true
said_fits s w r m h =
    let is : record { item = items.Said r; things = w.things } ≡ m = cc in
    let item : m.item ≡ items.Said r = ap (λ (v : Made). v.item) (sym is) in
    rw (item, reply_same r) refl

made_fits : (s : Scene) (w : World) (t : ℕ) (f : Form) (m : Made) → made s w t f ≡ Some m → is_some (fits s f m.item) ≡ true
made_fits s w t (Change o op a b wanted) m h = change_fits s w t o op a b wanted m h
made_fits s w t (ALook o op a b wanted) m h = look_fits s w t o op a b wanted m h
made_fits s w t (Begin o) m h = begin_fits s w t o m (first_registered (option_map (λ (x : Thing). x.state) (thing_at w o))) h
made_fits s w t (Does c) m h = control_fits s w c m (can_do w c) h
made_fits s w t (SaysForm r) m h = said_fits s w r m h

-- ---- and of one of the forms that are offered

abbrev any_fits : Scene → List Form → Item → Bool
any_fits s [] x = false
any_fits s (f ∷ fs) x = is_some (fits s f x) || any_fits s fs x

or_true : (b c : Bool) → c ≡ true → (b || c) ≡ true
or_true true c h = refl
or_true false c h = h

first_made_fits : (s : Scene) (w : World) (t : ℕ) (fs : List Form) (m : Made) → first_made s w t fs ≡ Some m → any_fits s fs m.item ≡ true
first_made_fits s w t [] m h = cc
first_made_fits s w t (f ∷ fs) m h = go (made s w t f) refl h (first_made_fits s w t fs m)
  where
    go : (k : Option Made) → made s w t f ≡ k → or_made k (first_made s w t fs) ≡ Some m → (first_made s w t fs ≡ Some m → any_fits s fs m.item ≡ true) → any_fits s (f ∷ fs) m.item ≡ true
    go None p e later = or_true (is_some (fits s f m.item)) (any_fits s fs m.item) (later e)
    go (Some k) p e later = rw (made_fits s w t f m (p ∙ e)) refl

reached_any : (s : Scene) (others : List Alternative) (x : Item) → is_some (reached s others x) ≡ any_fits s (map form_of others) x
reached_any s [] x = refl
reached_any s (a ∷ others) x = go (fits s a.form x) (reached_any s others x)
  where
    go : (o : Option Reply) → is_some (reached s others x) ≡ any_fits s (map form_of others) x → is_some (or_then (option_map a.next o) (reached s others x)) ≡ (is_some o || any_fits s (map form_of others) x)
    go None h = h
    go (Some r) h = refl

any_append : (s : Scene) (fs gs : List Form) (x : Item) → any_fits s gs x ≡ true → any_fits s (fs ++ gs) x ≡ true
any_append s [] gs x h = h
any_append s (f ∷ fs) gs x h = or_true (is_some (fits s f x)) (any_fits s (fs ++ gs) x) (any_append s fs gs x h)

forms_anywhere : (s : Scene) (t : ℕ) (k l : Local) (ts : List Task) → map form_of (offered_by s t k ts) ≡ map form_of (offered_by s t l ts)
forms_anywhere s t k l [] = refl
forms_anywhere s t k l (task ∷ ts) = go (last_or_skipped task) (forms_anywhere s t k l ts)
  where
    one_task : map form_of (alternatives s t (record k { agenda = ts }) task) ≡ map form_of (alternatives s t (record l { agenda = ts }) task)
    one_task = (few_forms s t (record k { agenda = ts }) task).forms_are ∙ sym (few_forms s t (record l { agenda = ts }) task).forms_are

    go : IsLast task ⊎ IsSkipped task → map form_of (offered_by s t k ts) ≡ map form_of (offered_by s t l ts) → map form_of (offered_by s t k (task ∷ ts)) ≡ map form_of (offered_by s t l (task ∷ ts))
    go (inl p) rest = ap (λ all. map form_of all) (p.last s t k ts) ∙ (one_task ∙ ap (λ all. map form_of all) (sym (p.last s t l ts)))
    go (inr p) rest =
        ap (λ all. map form_of all) (p.more s t k ts)
        ∙ (map-append form_of (alternatives s t (record k { agenda = ts }) task) (offered_by s t k ts)
        ∙ (ap (λ fs. fs ++ map form_of (offered_by s t k ts)) one_task
        ∙ (ap (λ fs. map form_of (alternatives s t (record l { agenda = ts }) task) ++ fs) rest
        ∙ (sym (map-append form_of (alternatives s t (record l { agenda = ts }) task) (offered_by s t l ts))
        ∙ ap (λ all. map form_of all) (sym (p.more s t l ts))))))

-- what is left where a completion that isn't due is left out
undue_fits : (s : Scene) (t : ℕ) (l k : Local) (x : Item) (ts : List Task) → any_fits s (map form_of (offered_by s t k (undue ts))) x ≡ true → any_fits s (map form_of (offered_by s t l ts)) x ≡ true
undue_fits s t l k x [] h = h
undue_fits s t l k x (Completes b false ∷ ts) h =
    let done = alternatives s t (record l { agenda = ts }) (Completes b false) in
    ap (λ fs. any_fits s fs x) (map-append form_of done (offered_by s t l ts))
    ∙ any_append s (map form_of done) (map form_of (offered_by s t l ts)) x (ap (λ fs. any_fits s fs x) (forms_anywhere s t l k ts) ∙ h)
undue_fits s t l k x (task ∷ ts) h = ap (λ fs. any_fits s fs x) (forms_anywhere s t l k (task ∷ ts)) ∙ h

-- AN ITEM THAT CAN BE MADE IS ONE THAT MAY BE
pub made_is_reached : (s : Scene) (w : World) (t : ℕ) (l : Local) (m : Made) → first_made s w t (forms_at s t l) ≡ Some m → is_some (reached s (offered s t l) m.item) ≡ true
made_is_reached s w t l m h = reached_any s (offered s t l) m.item ∙ undue_fits s t l (settled_local l) m.item l.agenda (first_made_fits s w t (forms_at s t l) m h)

due_first : (s : Scene) (t : ℕ) (k : Local) (ts : List Task) (r : Reply) → due_reply ts ≡ Some r → any_fits s (map form_of (offered_by s t k ts)) (items.Said r) ≡ true
due_first s t k [] r h = cc
due_first s t k (Says q ∷ ts) r h =
    let is : q ≡ r = cc in
    let here : is_some (fits s (SaysForm q) (items.Said r)) ≡ true = ap (λ v. is_some (fits s (SaysForm q) (items.Said v))) (sym is) ∙ said_item s q in
    rw here refl
due_first s t k (task ∷ ts) r h = cc

-- and so is the reply that is due
pub reply_is_reached : (s : Scene) (t : ℕ) (l : Local) (r : Reply) → due_reply (undue l.agenda) ≡ Some r → is_some (reached s (offered s t l) (items.Said r)) ≡ true
reply_is_reached s t l r h = reached_any s (offered s t l) (items.Said r) ∙ undue_fits s t l (settled_local l) (items.Said r) l.agenda (due_first s t (settled_local l) (undue l.agenda) r h)
