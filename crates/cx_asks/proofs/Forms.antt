-- What an item of a form leaves in the memory, and which reply it has.
use Rattle.std.proofs.Common.{◌≡◌, ℕ, ◌==◌, ◌&&◌, ℤ, Bool, true, false, Option, Some, None, slice_get, if◌then◌else◌, refl, sym, ap, ap₂, ◌∙◌, subst, eqb-true}
use Rattle.std.proofs.lemmas.Bool.{and_parts}
use Rattle.std.proofs.lemmas.Bool.Decides.{Decides-int_eq}
use Rattle.cx_names.specs.declared.ObjectNo.{ObjectNo}
use Rattle.cx_names.specs.declared.ThreadNo.{ThreadNo}
use Rattle.cx_names.specs.declared.Reply.{Reply}
use Rattle.cx_names.specs.Replies.{int_eq, reply_eq}
use Rattle.cx_names.proofs.Equal.{replies_are_equal}
use Rattle.cx_machine.specs.declared.kind.Op.{Op}
use Rattle.cx_machine.specs.declared.kind.Entry.{Entry}
use Rattle.cx_machine.specs.declared.kind.Look.{Look as LookAt}
use Rattle.cx_scene.specs.declared.declared.Thread.{Thread}
use Rattle.cx_scene.specs.declared.declared.Thread.TheVariants as threads
use Rattle.cx_scene.specs.Scene.{Scene}
use Rattle.cx_items.specs.declared.item.Control.{Control}
use Rattle.cx_items.specs.declared.item.Control.TheVariants as controls
use Rattle.cx_items.specs.declared.item.Item.{Item}
use Rattle.cx_items.specs.declared.item.Item.TheVariants as items
use Rattle.cx_items.specs.declared.form.Wanted.{Wanted}
use Rattle.cx_items.specs.declared.form.Form.{Form}
use Rattle.cx_items.specs.declared.form.Form.TheVariants.{Change, Look, Begin, Does, Says}
use Rattle.cx_items.specs.Form.{op_eq, bool_eq, same_words, is_wanted, control_eq, control_reply, fits}
use Rattle.cx_items.specs.Memory.{Memory, of, keep, kept_after, held_after, launched, controlled, remembering}
use Rattle.cx_asks.proofs.Ops.{same_op}

-- what an item of the form leaves in the memory
abbrev pub form_after : Scene → Form → Memory → Memory
form_after s (Change o op a b w) m = record (keep m o (kept_after op (of m o))) { held = held_after op a m.held }
form_after s (Does c) m = controlled s m c
form_after s _ m = m

abbrev pub is_begin : Form → Bool
is_begin (Begin o) = true
is_begin _ = false

-- the word that an item of the form leaves open
abbrev pub is_word_of : Form → Reply → Bool
is_word_of (Change o op a b w) r = is_wanted w r
is_word_of (Look o op a b w) r = is_wanted w r
is_word_of (Does c) r = reply_eq (control_reply c) r
is_word_of (Says q) r = reply_eq q r
is_word_of (Begin o) r = true

four : (x y z v : Bool) → (x && y && z && v) ≡ true → (x ≡ true) × (y ≡ true) × (v ≡ true)
four true true true v h = (refl, refl, h)
four true true false v h = cc
four true false z v h = cc
four false y z v h = cc

same_object : (o q : ObjectNo) → (o.0 == q.0) ≡ true → o ≡ q
same_object o q h = ap (λ (n : ℕ). record { 0 = n }) (eqb-true o.0 q.0 h)

same_thread : (t u : ThreadNo) → (t.0 == u.0) ≡ true → t ≡ u
same_thread t u h = ap (λ (n : ℕ). record { 0 = n }) (eqb-true t.0 u.0 h)

same_flag : (b c : Bool) → bool_eq b c ≡ true → b ≡ c
same_flag true true h = refl
same_flag true false h = cc
same_flag false true h = cc
same_flag false false h = refl

-- ---- what is remembered

-- the item has the form's words
abbrev pub IsAlike : Form → Item → Type 0
IsAlike (Change o op a b w) (items.Change q p e) = (o ≡ q) × (op ≡ e.op) × (a ≡ e.a)
IsAlike (Look o op a b w) (items.Look q l) = Unit {0}
IsAlike (Does c) (items.Control d) = c ≡ d
IsAlike (Says q) (items.Said r) = Unit {0}
IsAlike _ _ = ⊥

pub record IsForm (s : Scene) (f : Form) (x : Item) (r : Reply) : Type 0 where
  pub remembers : (m : Memory) → remembering s m x ≡ form_after s f m
  pub word : is_word_of f r ≡ true
  pub alike : IsAlike f x

changes : (s : Scene) (o : ObjectNo) (op : Op) (a b : ℤ) (w : Wanted) (q : ObjectNo) (p : ℕ) (e : Entry) (r : Reply) (c : Bool) → ((o.0 == q.0) && same_words op a b w e.op e.a e.b e.reply) ≡ c → (if c then Some e.reply else None) ≡ Some r → IsForm s (Change o op a b w) (items.Change q p e) r
changes s o op a b w q p e r false h k = cc
changes s o op a b w q p e r true h k =
    let u = and_parts (o.0 == q.0) (same_words op a b w e.op e.a e.b e.reply) h in
    let v = four (op_eq op e.op) (int_eq a e.a) (int_eq b e.b) (is_wanted w e.reply) u.1 in
    let object : o ≡ q = same_object o q u.0 in
    let word : op ≡ e.op = same_op op e.op v.0 in
    let first : a ≡ e.a = (Decides-int_eq a e.a).0 v.1 in
    let reply : e.reply ≡ r = cc in
    record {
      remembers = λ m. ap₂ (λ (i : ObjectNo) (y : Op). record (keep m i (kept_after y (of m i))) { held = held_after y e.a m.held }) (sym object) (sym word) ∙ ap (λ (n : ℤ). record (keep m o (kept_after op (of m o))) { held = held_after op n m.held }) (sym first);
      word = subst (λ (y : Reply). is_wanted w y ≡ true) reply v.2;
      alike = (object, word, first);
    }

looks : (s : Scene) (o : ObjectNo) (op : Op) (a b : ℤ) (w : Wanted) (q : ObjectNo) (l : LookAt) (r : Reply) (c : Bool) → ((o.0 == q.0) && same_words op a b w l.op l.a l.b l.reply) ≡ c → (if c then Some l.reply else None) ≡ Some r → IsForm s (Look o op a b w) (items.Look q l) r
looks s o op a b w q l r false h k = cc
looks s o op a b w q l r true h k =
    let u = and_parts (o.0 == q.0) (same_words op a b w l.op l.a l.b l.reply) h in
    let v = four (op_eq op l.op) (int_eq a l.a) (int_eq b l.b) (is_wanted w l.reply) u.1 in
    let reply : l.reply ≡ r = cc in
    record { remembers = λ m. refl; word = subst (λ (y : Reply). is_wanted w y ≡ true) reply v.2; alike = tt }

same_control : (c d : Control) → control_eq c d ≡ true → c ≡ d
same_control (controls.Start t b) (controls.Start u b') h = let p = and_parts (t.0 == u.0) (bool_eq b b') h in ap₂ controls.Start (same_thread t u p.0) (same_flag b b' p.1)
same_control (controls.Launch t b) (controls.Launch u b') h = let p = and_parts (t.0 == u.0) (bool_eq b b') h in ap₂ controls.Launch (same_thread t u p.0) (same_flag b b' p.1)
same_control (controls.Join t) (controls.Join u) h = ap controls.Join (same_thread t u h)
same_control c d h = cc

reply_itself : (r : Reply) → reply_eq r r ≡ true
reply_itself r = (replies_are_equal r r).1 refl

controls_do : (s : Scene) (c d : Control) (r : Reply) (b : Bool) → control_eq c d ≡ b → (if b then Some (control_reply c) else None) ≡ Some r → IsForm s (Does c) (items.Control d) r
controls_do s c d r false h k = cc
controls_do s c d r true h k =
    let reply : control_reply c ≡ r = cc in
    record { remembers = λ m. ap (λ (y : Control). controlled s m y) (sym (same_control c d h)); word = subst (λ (y : Reply). reply_eq (control_reply c) y ≡ true) reply (reply_itself (control_reply c)); alike = same_control c d h }

says_so : (s : Scene) (q y r : Reply) (b : Bool) → reply_eq q y ≡ b → (if b then Some q else None) ≡ Some r → IsForm s (Says q) (items.Said y) r
says_so s q y r false h k = cc
says_so s q y r true h k =
    let reply : q ≡ r = cc in
    record { remembers = λ m. refl; word = subst (λ (z : Reply). reply_eq q z ≡ true) reply (reply_itself q); alike = tt }

-- an item that is of a form, other than that of a callback that begins
pub form_of_item : (s : Scene) (f : Form) (x : Item) (r : Reply) → is_begin f ≡ false → fits s f x ≡ Some r → IsForm s f x r
form_of_item s (Change o op a b w) (items.Change q p e) r n h = changes s o op a b w q p e r ((o.0 == q.0) && same_words op a b w e.op e.a e.b e.reply) refl h
form_of_item s (Look o op a b w) (items.Look q l) r n h = looks s o op a b w q l r ((o.0 == q.0) && same_words op a b w l.op l.a l.b l.reply) refl h
form_of_item s (Begin o) (items.Change q p e) r n h = cc
form_of_item s (Does c) (items.Control d) r n h = controls_do s c d r (control_eq c d) refl h
form_of_item s (Says q) (items.Said y) r n h = says_so s q y r (reply_eq q y) refl h
form_of_item s f x r n h = cc

-- ---- turns are counted by calls alone

launched_turns : (m : Memory) (d : Option Thread) → (launched m d).turns ≡ m.turns
launched_turns m (Some (threads.Launched o)) = refl
launched_turns m _ = refl

controlled_turns : (s : Scene) (m : Memory) (c : Control) → (controlled s m c).turns ≡ m.turns
controlled_turns s m (controls.Start t true) = refl
controlled_turns s m (controls.Start t false) = refl
controlled_turns s m (controls.Launch t true) = launched_turns m (slice_get s.threads t.0)
controlled_turns s m (controls.Launch t false) = refl
controlled_turns s m (controls.Join t) = refl

pub form_turns : (s : Scene) (f : Form) (m : Memory) → (form_after s f m).turns ≡ m.turns
form_turns s (Change o op a b w) m = refl
form_turns s (Look o op a b w) m = refl
form_turns s (Begin o) m = refl
form_turns s (Does c) m = controlled_turns s m c
form_turns s (Says r) m = refl
