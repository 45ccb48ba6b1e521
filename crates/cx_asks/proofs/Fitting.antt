-- An item with the words of a form is of that form, and may stand in a list.
use Rattle.std.proofs.Common.{◌≡◌, ℕ, ◌^◌, ◌<◌, ◌==◌, ◌||◌, ℤ, pos, Bool, true, false, List, [], ◌∷◌, Some, slice_get, nat_lt, refl, ap, eq-eqb, lt-ltb, length}
use Rattle.std.specs.Prelude.{is_some}
use Rattle.std.proofs.lemmas.Bool.Decides.{Decides-int_eq}
use Rattle.cx_names.specs.declared.ThreadNo.{ThreadNo}
use Rattle.cx_names.specs.declared.ObjectNo.{ObjectNo}
use Rattle.cx_names.specs.declared.Reply.{Reply}
use Rattle.cx_names.specs.declared.Reply.TheVariants as replies
use Rattle.cx_names.specs.Replies.{int_eq, reply_eq}
use Rattle.cx_names.proofs.Equal.{replies_are_equal}
use Rattle.cx_machine.specs.declared.kind.Op.{Op}
use Rattle.cx_machine.specs.Meaning.{change, look_of}
use Rattle.cx_scene.specs.declared.declared.Object.{Object}
use Rattle.cx_scene.specs.Scene.{Scene, kind_of}
use Rattle.cx_items.specs.declared.item.Item.{Item}
use Rattle.cx_items.specs.declared.item.Item.TheVariants as items
use Rattle.cx_items.specs.declared.form.Form.{Form}
use Rattle.cx_items.specs.declared.form.Form.TheVariants.{Change, Look as ALook}
use Rattle.cx_items.specs.declared.form.Wanted.TheVariants.{Just, ANumber}
use Rattle.cx_items.specs.Form.{fits, op_number}
use Rattle.cx_history.specs.IsRecord.{is_change, is_look, is_item}
use Rattle.cx_asks.specs.Forms.{is_of_one}

same : (n : ℕ) → (n == n) ≡ true
same n = eq-eqb n n refl

int_same : (n : ℤ) → int_eq n n ≡ true
int_same n = (Decides-int_eq n n).1 refl

reply_same : (r : Reply) → reply_eq r r ≡ true
reply_same r = (replies_are_equal r r).1 refl

-- ---- it is of one of these forms

change_fits : (s : Scene) (o : ObjectNo) (by : ThreadNo) (op : Op) (a : ℤ) (r : Reply) (n : ℕ) → fits s (Change o op a (pos 0) (Just r)) (items.Change o n (change by op a (pos 0) r)) ≡ Some r
change_fits s o by op a r n = rw (same o.0, same (op_number op), int_same a, reply_same r) refl

look_fits : (s : Scene) (o : ObjectNo) (by : ThreadNo) (op : Op) (a : ℤ) (r : Reply) (k : ℕ) → fits s (ALook o op a (pos 0) (Just r)) (items.Look o (look_of by op a (pos 0) r k)) ≡ Some r
look_fits s o by op a r k = rw (same o.0, same (op_number op), int_same a, reply_same r) refl

first_fits : (s : Scene) (f : Form) (fs : List Form) (x : Item) (r : Reply) → fits s f x ≡ Some r → is_of_one s (f ∷ fs) x ≡ true
first_fits s f fs x r e = ap (λ o. is_some o || is_of_one s fs x) e

second_fits : (s : Scene) (f g : Form) (x : Item) (r : Reply) → fits s g x ≡ Some r → is_of_one s (f ∷ g ∷ []) x ≡ true
second_fits s f g x r e = go (is_some (fits s f x)) (first_fits s g [] x r e)
  where
    go : (b : Bool) → is_of_one s (g ∷ []) x ≡ true → (b || is_of_one s (g ∷ []) x) ≡ true
    go true h = refl
    go false h = h

pub first_change : (s : Scene) (fs : List Form) (o : ObjectNo) (by : ThreadNo) (op : Op) (a : ℤ) (r : Reply) (n : ℕ) → is_of_one s (Change o op a (pos 0) (Just r) ∷ fs) (items.Change o n (change by op a (pos 0) r)) ≡ true
first_change s fs o by op a r n = first_fits s (Change o op a (pos 0) (Just r)) fs (items.Change o n (change by op a (pos 0) r)) r (change_fits s o by op a r n)

number_fits : (s : Scene) (o : ObjectNo) (by : ThreadNo) (op : Op) (a p : ℤ) (n : ℕ) → fits s (Change o op a (pos 0) ANumber) (items.Change o n (change by op a (pos 0) (replies.Number p))) ≡ Some (replies.Number p)
number_fits s o by op a p n = rw (same o.0, same (op_number op), int_same a) refl

-- any number answers where one is wanted
pub first_number : (s : Scene) (fs : List Form) (o : ObjectNo) (by : ThreadNo) (op : Op) (a p : ℤ) (n : ℕ) → is_of_one s (Change o op a (pos 0) ANumber ∷ fs) (items.Change o n (change by op a (pos 0) (replies.Number p))) ≡ true
first_number s fs o by op a p n = first_fits s (Change o op a (pos 0) ANumber) fs (items.Change o n (change by op a (pos 0) (replies.Number p))) (replies.Number p) (number_fits s o by op a p n)

pub first_look : (s : Scene) (fs : List Form) (o : ObjectNo) (by : ThreadNo) (op : Op) (a : ℤ) (r : Reply) (k : ℕ) → is_of_one s (ALook o op a (pos 0) (Just r) ∷ fs) (items.Look o (look_of by op a (pos 0) r k)) ≡ true
first_look s fs o by op a r k = first_fits s (ALook o op a (pos 0) (Just r)) fs (items.Look o (look_of by op a (pos 0) r k)) r (look_fits s o by op a r k)

pub second_look : (s : Scene) (f : Form) (o : ObjectNo) (by : ThreadNo) (op : Op) (a : ℤ) (r : Reply) (k : ℕ) → is_of_one s (f ∷ ALook o op a (pos 0) (Just r) ∷ []) (items.Look o (look_of by op a (pos 0) r k)) ≡ true
second_look s f o by op a r k = second_fits s f (ALook o op a (pos 0) (Just r)) (items.Look o (look_of by op a (pos 0) r k)) r (look_fits s o by op a r k)

-- ---- it may stand in a list

pub change_formed : (s : Scene) (d : Object) (o : ObjectNo) (by : ThreadNo) (op : Op) (a b : ℤ) (r : Reply) (n : ℕ) → slice_get s.objects o.0 ≡ Some d → n < 2 ^ 28 → is_change (length s.threads) (kind_of d) op a b r ≡ true → is_item s by.0 (items.Change o n (change by op a b r)) ≡ true
change_formed s d o by op a b r n declared few words = let low : nat_lt n (2 ^ 28) ≡ true = lt-ltb n (2 ^ 28) few in rw (same by.0, low, declared, words) refl

pub look_formed : (s : Scene) (d : Object) (o : ObjectNo) (by : ThreadNo) (op : Op) (a b : ℤ) (r : Reply) (k : ℕ) → slice_get s.objects o.0 ≡ Some d → k < 2 ^ 28 → is_look (kind_of d) op a b r ≡ true → is_item s by.0 (items.Look o (look_of by op a b r k)) ≡ true
look_formed s d o by op a b r k declared few words = let low : nat_lt k (2 ^ 28) ≡ true = lt-ltb k (2 ^ 28) few in rw (same by.0, low, declared, words) refl
