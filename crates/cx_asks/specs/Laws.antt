-- What is proved of asks.
use Rattle.std.specs.Prelude.{◌≡◌, ℕ, ◌+◌, ◌^◌, ◌<◌, ◌≤◌, Bool, true, false, ◌&&◌, not, List, ◌∷◌, length, map, slice_get, Some}
use Rattle.cx_names.specs.declared.ThreadNo.{ThreadNo}
use Rattle.cx_names.specs.declared.ObjectNo.{ObjectNo}
use Rattle.cx_names.specs.declared.Reply.{Reply}
use Rattle.cx_machine.specs.declared.kind.Op.{Op}
use Rattle.cx_machine.specs.declared.kind.Entry.{Entry}
use Rattle.cx_machine.specs.Machine.{State, opening, step, shows}
use Rattle.cx_machine.specs.Meaning.{run, change, look_of}
use Rattle.cx_scene.specs.declared.declared.Object.{Object}
use Rattle.cx_scene.specs.Scene.{Scene, kind_of}
use Rattle.cx_items.specs.declared.form.Form.{Form}
use Rattle.cx_items.specs.declared.form.Form.TheVariants as forms
use Rattle.cx_items.specs.declared.item.Control.TheVariants as controls
use Rattle.cx_items.specs.declared.item.Item.{Item}
use Rattle.cx_items.specs.declared.item.Item.TheVariants as items
use Rattle.cx_items.specs.declared.kept.Kept.{Kept}
use Rattle.cx_items.specs.Memory.{is_joinable}
use Rattle.cx_items.specs.Next.{Local, offered, settled_local, local_at_start}
use Rattle.cx_items.specs.Steps.{form_of}
use Rattle.cx_history.specs.IsRecord.{is_item}
use Rattle.cx_history.specs.Follows.{any_starts, after_items}
use Rattle.cx_fronts.specs.Growing.{any_joins}
use Rattle.cx_asks.specs.declared.ask.Ask.{Ask}
use Rattle.cx_asks.specs.Asks.{serves}
use Rattle.cx_asks.specs.Forms.{IsAskOf, is_of_one, asked_forms}
use Rattle.cx_asks.specs.Scenes.{taken_in, SharesAre, IsAskable}
use Rattle.cx_asks.specs.Offers.{takes, IsOffer}
use Rattle.cx_asks.specs.Spent.{takes_by, changes_by, spent}

-- the item is of one of the forms that were offered, and one that thread t may have in its list
pub record Answers (s : Scene) (t : ℕ) (fs : List Form) (x : Item) : Type 0 where
  pub of_one : is_of_one s fs x ≡ true
  pub formed : is_item s t x ≡ true

-- A CHANGE THAT IS ASKED FOR AND ENABLED ANSWERS THE FORMS OF THE ASK
abbrev pub ChangesAnswer : Type 0
ChangesAnswer = (s : Scene) (d : Object) (o : ObjectNo) (k : Ask) (h : Kept) (share : ℕ) (es : List Entry) (now after : State) (by : ThreadNo) (op : Op) (r : Reply) (n : ℕ) → slice_get s.objects o.0 ≡ Some d → serves (kind_of d) h share k → k.change ≡ Some op → run step (Some (opening (kind_of d))) es ≡ Some now → step now (change by op k.a k.b r) ≡ Some after → n < 2 ^ 28 → Answers s by.0 (asked_forms (kind_of d) o k) (items.Change o n (change by op k.a k.b r))

-- A LOOK THAT IS ASKED FOR AND SHOWN ANSWERS THE FORMS OF THE ASK
abbrev pub LooksAnswer : Type 0
LooksAnswer = (s : Scene) (d : Object) (o : ObjectNo) (k : Ask) (h : Kept) (share : ℕ) (es : List Entry) (now : State) (by : ThreadNo) (op : Op) (r : Reply) (n : ℕ) → slice_get s.objects o.0 ≡ Some d → serves (kind_of d) h share k → k.look ≡ Some op → run step (Some (opening (kind_of d))) es ≡ Some now → shows now (look_of by op k.a k.b r n) ≡ true → n < 2 ^ 28 → Answers s by.0 (asked_forms (kind_of d) o k) (items.Look o (look_of by op k.a k.b r n))

-- WHAT A THREAD IS OFFERED WHEREVER ITS TEXT LEADS IT IS SERVED, whichever completions are due, where one that isn't due is left out
abbrev pub OfferedIsServed : Type 0
OfferedIsServed = (s : Scene) (completes : ℕ → ℕ → Bool) (t : ℕ) (xs : List Item) (l : Local) → IsAskable s → after_items s completes t (local_at_start s t) xs ≡ Some l → IsOffer s t (settled_local l) (map form_of (offered s t (settled_local l)))

-- what an offered ask takes from a latch, with what the thread has taken so far, is within what its text takes
abbrev pub AsksTakeWithin : Type 0
AsksTakeWithin = (s : Scene) (completes : ℕ → ℕ → Bool) (t : ℕ) (xs : List Item) (l : Local) (o : ObjectNo) (k : Ask) → IsAskable s → after_items s completes t (local_at_start s t) xs ≡ Some l → IsAskOf (map form_of (offered s t (settled_local l))) o k → spent (takes_by o.0) xs + takes k ≤ taken_in s t o.0

-- what each thread's text takes of a latch is left for it
abbrev pub SharesAreLeft : Type 0
SharesAreLeft = (s : Scene) (o : ℕ) → IsAskable s → 0 < length s.threads → SharesAre s o

-- a thread that main may start was not started before
abbrev pub StartsAreFirst : Type 0
StartsAreFirst = (s : Scene) (completes : ℕ → ℕ → Bool) (xs : List Item) (l : Local) (u : ThreadNo) (fs : List Form) → IsAskable s → after_items s completes 0 (local_at_start s 0) xs ≡ Some l → map form_of (offered s 0 (settled_local l)) ≡ forms.Does (controls.Start u true) ∷ fs → any_starts u.0 xs ≡ false

-- main may join each thread that it has started and not joined
abbrev pub StartedMayBeJoined : Type 0
StartedMayBeJoined = (s : Scene) (completes : ℕ → ℕ → Bool) (xs : List Item) (l : Local) (u : ThreadNo) → IsAskable s → after_items s completes 0 (local_at_start s 0) xs ≡ Some l → is_joinable l.memory u ≡ (any_starts u.0 xs && not (any_joins u.0 xs))

-- A THREAD CHANGES ONE OBJECT AT MOST 61,440 TIMES: three times for each of its 16,384 turns and its 4,096 calls
abbrev pub ChangesAreFew : Type 0
ChangesAreFew = (s : Scene) (completes : ℕ → ℕ → Bool) (t : ℕ) (xs : List Item) (l : Local) (o : ℕ) → IsAskable s → after_items s completes t (local_at_start s t) xs ≡ Some l → spent (changes_by o) xs ≤ 61440
