-- An item that is of a form costs no more than the form weighs.
use Rattle.std.proofs.Common.{◌≡◌, ℕ, ◌+◌, ◌≤◌, ◌==◌, ◌&&◌, ◌||◌, ℤ, pos, Bool, true, false, Some, None, if◌then◌else◌, refl, sym, ap, arith, eqb-true}
use Rattle.std.proofs.lemmas.Bool.{and_parts}
use Rattle.cx_names.specs.declared.ObjectNo.{ObjectNo}
use Rattle.cx_names.specs.declared.Reply.{Reply}
use Rattle.cx_names.specs.declared.Reply.TheVariants as replies
use Rattle.cx_names.specs.Replies.{int_eq}
use Rattle.cx_names.proofs.Equal.{replies_are_equal}
use Rattle.cx_machine.specs.declared.kind.Op.{Op}
use Rattle.cx_machine.specs.declared.kind.Op.TheVariants as ops
use Rattle.cx_machine.specs.declared.kind.Entry.{Entry}
use Rattle.cx_machine.specs.declared.kind.Look.{Look as LookAt}
use Rattle.cx_scene.specs.Scene.{Scene}
use Rattle.cx_items.specs.declared.item.Item.{Item}
use Rattle.cx_items.specs.declared.item.Item.TheVariants as items
use Rattle.cx_items.specs.declared.form.Wanted.{Wanted}
use Rattle.cx_items.specs.declared.form.Wanted.TheVariants.{Just, ANumber, AThread, AnOutcome}
use Rattle.cx_items.specs.declared.form.Form.{Form}
use Rattle.cx_items.specs.declared.form.Form.TheVariants.{Change, Look, Begin, Does, Says}
use Rattle.cx_items.specs.Form.{op_number, op_eq, same_words, is_wanted, is_number, is_registered_on, fits}
use Rattle.cx_weights.specs.Weights.{pays, earns, gains, paid_by, earned_by, form_weight, is_true_look, is_true_item}
use Rattle.cx_weights.proofs.Memory.{gained_by}
use Rattle.cx_weights.proofs.Tasks.{form_earns, suits}

pub record Fitted (asked : ℕ → Bool) (f : Form) (x : Item) (q : Reply) : Type 0 where
  pub cost : 1 + paid_by x + gained_by x ≤ form_weight f
  pub earned : form_earns f ≤ earned_by x
  pub suited : suits asked f q ≡ true

four : (x y z v : Bool) → (x && y && z && v) ≡ true → (x ≡ true) × (v ≡ true)
four true true true v h = (refl, h)
four true true false v h = cc
four true false z v h = cc
four false y z v h = cc

second : (x y z : Bool) → (x && y && z) ≡ true → y ≡ true
second true true z h = refl
second true false z h = cc
second false y z h = cc

words : (op op' : Op) (a b a' b' : ℤ) (w : Wanted) (r : Reply) → same_words op a b w op' a' b' r ≡ true → (op_number op ≡ op_number op') × (is_wanted w r ≡ true)
words op op' a b a' b' w r h = let p = four (op_eq op op') (int_eq a a') (int_eq b b') (is_wanted w r) h in (eqb-true (op_number op) (op_number op') p.0, p.1)

pays_same : (op op' : Op) → op_number op ≡ op_number op' → pays op ≡ pays op'
pays_same op op' e = ap (λ n. if (n == 30) || (n == 20) then 4 else 0) e

gains_same : (op op' : Op) → op_number op ≡ op_number op' → gains op ≡ gains op'
gains_same op op' e = ap (λ n. if (n == 0) || (n == 1) then 1 else 0) e

earns_same : (op op' : Op) → op_number op ≡ op_number op' → earns op ≡ earns op'
earns_same op op' e = ap (λ n. if n == 18 then 4 else 0) e

same_cost : (p g p' g' : ℕ) → p ≡ p' → g ≡ g' → 1 + p' + g' ≤ 1 + p + g
same_cost p g p' g' h k = omega arith

no_earning : (n : ℕ) → 0 ≤ n
no_earning n = omega arith

free : (p g : ℕ) → 0 ≡ p → 0 ≡ g → 1 + p + g ≤ 1
free p g h k = omega arith

four_earned : (n : ℕ) → 4 ≡ n → 4 ≤ n
four_earned n h = omega arith

change_fitted : (s : Scene) (asked : ℕ → Bool) (o q : ObjectNo) (op : Op) (a b : ℤ) (w : Wanted) (p : ℕ) (e : Entry) (r : Reply) (c : Bool) → ((o.0 == q.0) && same_words op a b w e.op e.a e.b e.reply) ≡ c → (if c then Some e.reply else None) ≡ Some r → Fitted asked (Change o op a b w) (items.Change q p e) r
change_fitted s asked o q op a b w p e r false h k = cc
change_fitted s asked o q op a b w p e r true h k =
    let v = words op e.op a b e.a e.b w e.reply (and_parts (o.0 == q.0) (same_words op a b w e.op e.a e.b e.reply) h).1 in
    record { cost = same_cost (pays op) (gains op) (pays e.op) (gains e.op) (pays_same op e.op v.0) (gains_same op e.op v.0); earned = no_earning (earns e.op); suited = refl }

true_too : (asked : ℕ → Bool) (o q : ObjectNo) (op op' : Op) (r r' : Reply) → o.0 ≡ q.0 → op_number op ≡ op_number op' → r ≡ r' → is_true_look op' r' (asked q.0) ≡ true → is_true_look op r (asked o.0) ≡ true
true_too asked o q op op' r r' same_object same_op same_reply h = rw (same_op, same_reply, same_object) h

look_suits : (asked : ℕ → Bool) (o q : ObjectNo) (op : Op) (a b : ℤ) (w : Wanted) (l : LookAt) (r : Reply) → o.0 ≡ q.0 → op_number op ≡ op_number l.op → is_wanted w l.reply ≡ true → is_true_look l.op l.reply (asked q.0) ≡ true → suits asked (Look o op a b w) r ≡ true
look_suits asked o q op a b (Just y) l r h e k true_ = true_too asked o q op l.op y l.reply h e ((replies_are_equal y l.reply).0 k) true_
look_suits asked o q op a b ANumber l r h e k true_ = refl
look_suits asked o q op a b AThread l r h e k true_ = refl
look_suits asked o q op a b AnOutcome l r h e k true_ = refl

look_fitted : (s : Scene) (asked : ℕ → Bool) (o q : ObjectNo) (op : Op) (a b : ℤ) (w : Wanted) (l : LookAt) (r : Reply) (c : Bool) → is_true_look l.op l.reply (asked q.0) ≡ true → ((o.0 == q.0) && same_words op a b w l.op l.a l.b l.reply) ≡ c → (if c then Some l.reply else None) ≡ Some r → Fitted asked (Look o op a b w) (items.Look q l) r
look_fitted s asked o q op a b w l r false true_ h k = cc
look_fitted s asked o q op a b w l r true true_ h k =
    let u = and_parts (o.0 == q.0) (same_words op a b w l.op l.a l.b l.reply) h in
    let v = words op l.op a b l.a l.b w l.reply u.1 in
    record { cost = omega arith; earned = omega arith; suited = look_suits asked o q op a b w l r (eqb-true o.0 q.0 u.0) v.0 v.1 true_ }

begin_fitted : (s : Scene) (asked : ℕ → Bool) (o q : ObjectNo) (p : ℕ) (e : Entry) (r : Reply) (c : Bool) → ((o.0 == q.0) && same_words ops.Begin e.a (pos 0) (Just replies.Ok) e.op e.a e.b e.reply && is_registered_on s o e.a) ≡ c → (if c then Some (replies.Number e.a) else None) ≡ Some r → Fitted asked (Begin o) (items.Change q p e) r
begin_fitted s asked o q p e r false h k = cc
begin_fitted s asked o q p e r true h k =
    let u = second (o.0 == q.0) (same_words ops.Begin e.a (pos 0) (Just replies.Ok) e.op e.a e.b e.reply) (is_registered_on s o e.a) h in
    let v = words ops.Begin e.op e.a (pos 0) e.a e.b (Just replies.Ok) e.reply u in
    let same : replies.Number e.a ≡ r = cc in
    record { cost = free (pays e.op) (gains e.op) (pays_same ops.Begin e.op v.0) (gains_same ops.Begin e.op v.0); earned = four_earned (earns e.op) (earns_same ops.Begin e.op v.0); suited = ap is_number (sym same) }

pub fitted : (s : Scene) (asked : ℕ → Bool) (f : Form) (x : Item) (r : Reply) → is_true_item asked x ≡ true → fits s f x ≡ Some r → Fitted asked f x r
fitted s asked (Change o op a b w) (items.Change q p e) r h k = change_fitted s asked o q op a b w p e r ((o.0 == q.0) && same_words op a b w e.op e.a e.b e.reply) refl k
fitted s asked (Look o op a b w) (items.Look q l) r h k = look_fitted s asked o q op a b w l r ((o.0 == q.0) && same_words op a b w l.op l.a l.b l.reply) h refl k
fitted s asked (Begin o) (items.Change q p e) r h k = begin_fitted s asked o q p e r ((o.0 == q.0) && same_words ops.Begin e.a (pos 0) (Just replies.Ok) e.op e.a e.b e.reply && is_registered_on s o e.a) refl k
fitted s asked (Does c) (items.Control d) r h k = record { cost = omega arith; earned = omega arith; suited = refl }
fitted s asked (Says y) (items.Said z) r h k = record { cost = omega arith; earned = omega arith; suited = refl }
fitted s asked f x r h k = cc
