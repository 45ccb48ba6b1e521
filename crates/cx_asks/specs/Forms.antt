-- Which ask the forms are that a thread is offered.
use Rattle.std.specs.Prelude.{◌≡◌, ℤ, Bool, true, false, List, [], ◌∷◌, ◌++◌, map, Option, Some, None, is_some}
use Rattle.std.specs.List.{list_any}
use Rattle.cx_names.specs.declared.ObjectNo.{ObjectNo}
use Rattle.cx_names.specs.declared.Reply.TheVariants as replies
use Rattle.cx_machine.specs.declared.kind.Kind.{Kind}
use Rattle.cx_machine.specs.declared.kind.Kind.TheVariants as kinds
use Rattle.cx_machine.specs.declared.kind.Op.{Op}
use Rattle.cx_machine.specs.declared.kind.Op.TheVariants as ops
use Rattle.cx_scene.specs.Scene.{Scene}
use Rattle.cx_items.specs.declared.form.Wanted.{Wanted}
use Rattle.cx_items.specs.declared.form.Wanted.TheVariants.{Just, ANumber}
use Rattle.cx_items.specs.declared.form.Form.{Form}
use Rattle.cx_items.specs.declared.form.Form.TheVariants as forms
use Rattle.cx_items.specs.declared.item.Item.{Item}
use Rattle.cx_items.specs.Form.{fits}
use Rattle.cx_asks.specs.declared.ask.Ask.{Ask}

-- a test says whether this is so
abbrev pub Tells : Bool → Type 0 → Type 0
Tells true is = is
Tells false is = is → ⊥

-- the ask of a change alone
abbrev pub change_alone : Op → ℤ → ℤ → Ask
change_alone op a b = record { change = Some op; look = None; a = a; b = b }

-- the ask of a look alone
abbrev pub look_alone : Op → ℤ → ℤ → Ask
look_alone op a b = record { change = None; look = Some op; a = a; b = b }

-- the ask of a change or a look
abbrev pub either_of : Op → Op → ℤ → ℤ → Ask
either_of op op' a b = record { change = Some op; look = Some op'; a = a; b = b }

-- both forms are of one object, with the same numbers
pub record AreAlike (p : ObjectNo) (a b : ℤ) (q : ObjectNo) (a' b' : ℤ) : Type 0 where
  pub object : q ≡ p
  pub first : a' ≡ a
  pub second : b' ≡ b

-- the ask has the words of the forms: one form, a change and a look with the same numbers, or two changes or two looks of one word with the same numbers
abbrev pub IsAskOf : List Form → ObjectNo → Ask → Type 0
IsAskOf (forms.Change p op a b w ∷ []) o k = (o ≡ p) × (k ≡ change_alone op a b)
IsAskOf (forms.Look p op a b w ∷ []) o k = (o ≡ p) × (k ≡ look_alone op a b)
IsAskOf (forms.Change p op a b w ∷ forms.Look q op' a' b' w' ∷ []) o k = (o ≡ p) × (k ≡ either_of op op' a b) × AreAlike p a b q a' b'
IsAskOf (forms.Change p op a b w ∷ forms.Change q op' a' b' w' ∷ []) o k = (o ≡ p) × (k ≡ change_alone op a b) × AreAlike p a b q a' b' × (op' ≡ op)
IsAskOf (forms.Look p op a b w ∷ forms.Look q op' a' b' w' ∷ []) o k = (o ≡ p) × (k ≡ look_alone op a b) × AreAlike p a b q a' b' × (op' ≡ op)
IsAskOf _ o k = ⊥

-- no ask has their words
abbrev pub IsNoAsk : List Form → Type 0
IsNoAsk fs = (o : ObjectNo) (k : Ask) → IsAskOf fs o k → ⊥

-- the item is of one of these forms
abbrev pub is_of_one : Scene → List Form → Item → Bool
is_of_one s fs x = list_any (λ f. is_some (fits s f x)) fs

-- ---- the forms of an ask

-- the replies that a change of this word may have
abbrev pub change_replies : Kind → Op → List Wanted
change_replies (kinds.Mutex recursive numbers) ops.Lock = Just replies.Ok ∷ []
change_replies (kinds.Mutex recursive numbers) ops.TryLock = Just replies.True ∷ []
change_replies (kinds.Mutex recursive numbers) ops.Unlock = Just replies.Ok ∷ []
change_replies (kinds.Semaphore count max) ops.Release = Just replies.Ok ∷ []
change_replies (kinds.Semaphore count max) ops.Acquire = Just replies.Ok ∷ []
change_replies (kinds.Semaphore count max) ops.TryAcquire = Just replies.True ∷ []
change_replies (kinds.Latch count) ops.CountDown = Just replies.Ok ∷ []
change_replies kinds.Shared ops.Lock = Just replies.Ok ∷ []
change_replies kinds.Shared ops.TryLock = Just replies.True ∷ []
change_replies kinds.Shared ops.Unlock = Just replies.Ok ∷ []
change_replies kinds.Shared ops.LockShared = Just replies.Ok ∷ []
change_replies kinds.Shared ops.TryLockShared = Just replies.True ∷ []
change_replies kinds.Shared ops.UnlockShared = Just replies.Ok ∷ []
change_replies (kinds.Barrier count) ops.Arrive = ANumber ∷ []
change_replies (kinds.Barrier count) ops.Drop = ANumber ∷ []
change_replies (kinds.Barrier count) ops.Complete = Just replies.Ok ∷ []
change_replies kinds.Once ops.Begin = Just replies.Ok ∷ []
change_replies kinds.Once ops.Finish = Just replies.Ok ∷ []
change_replies kinds.Once ops.Fail = Just replies.Ok ∷ []
change_replies _ _ = []

-- the replies that a look of this word may have
abbrev pub look_replies : Kind → Op → List Wanted
look_replies (kinds.Mutex recursive numbers) ops.Lock = Just replies.MaxLevels ∷ []
look_replies (kinds.Mutex recursive numbers) ops.TryLock = Just replies.False ∷ []
look_replies (kinds.Semaphore count max) ops.Release = Just replies.Over ∷ []
look_replies (kinds.Semaphore count max) ops.TryAcquire = Just replies.False ∷ []
look_replies (kinds.Latch count) ops.Wait = Just replies.Ok ∷ []
look_replies (kinds.Latch count) ops.TryWait = Just replies.True ∷ Just replies.False ∷ []
look_replies kinds.Shared ops.TryLock = Just replies.False ∷ []
look_replies kinds.Shared ops.TryLockShared = Just replies.False ∷ []
look_replies (kinds.Barrier count) ops.Arrive = Just replies.OverExpected ∷ []
look_replies (kinds.Barrier count) ops.Drop = Just replies.OverExpected ∷ []
look_replies (kinds.Barrier count) ops.Wait = Just replies.Ok ∷ []
look_replies kinds.Once ops.Passive = Just replies.Ok ∷ []
look_replies _ _ = []

-- the forms of the change that is asked
abbrev pub change_forms : Kind → ObjectNo → Option Op → ℤ → ℤ → List Form
change_forms kind o None a b = []
change_forms kind o (Some op) a b = map (λ w. forms.Change o op a b w) (change_replies kind op)

-- the forms of the look that is asked
abbrev pub look_forms : Kind → ObjectNo → Option Op → ℤ → ℤ → List Form
look_forms kind o None a b = []
look_forms kind o (Some op) a b = map (λ w. forms.Look o op a b w) (look_replies kind op)

-- the forms that a thread is offered where it asks this of an object of this kind: with each reply that the object may give
abbrev pub asked_forms : Kind → ObjectNo → Ask → List Form
asked_forms kind o k = change_forms kind o k.change k.a k.b ++ look_forms kind o k.look k.a k.b
