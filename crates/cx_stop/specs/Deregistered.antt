-- What a legal history of a stop state says of its callbacks: each begins at most once, and one that was deregistered never does.
use Rattle.std.specs.Prelude.{◌≡◌, ◌⊎◌, ℕ, true, false, List, [], ◌∷◌, ◌++◌, Some}
use Rattle.cx_names.specs.declared.Reply.{Reply}
use Rattle.cx_names.specs.declared.Reply.TheVariants as replies
use Rattle.cx_machine.specs.Acts.{at_entry}
use Rattle.cx_machine.specs.Meaning.{run}
use Rattle.cx_machine.specs.Words.{has, small_of}
use Rattle.cx_machine.specs.Callbacks.{members}
use Rattle.cx_machine.specs.Stop.{Stop, step, runs}
use Rattle.cx_machine.specs.declared.kind.Op.TheVariants as ops
use Rattle.cx_machine.specs.declared.kind.Entry.{Entry}

-- the callback isn't registered, and runs on no thread but this one, which deregistered it from inside
pub record IsSettled (t id : ℕ) (r : Reply) (m : Stop) : Type 0 where
  pub out : has m.registered id ≡ false
  pub own : (u : ℕ) → runs m.running u id ≡ true → (u ≡ t) × (r ≡ replies.Inside)

-- in each state after a deregistration
abbrev pub Deregistered : Stop → List Entry → Type 0
Deregistered start h = (xs zs ys : List Entry) (e : Entry) (id : ℕ) (m : Stop) → h ≡ xs ++ e ∷ (zs ++ ys) → e.op ≡ ops.Deregister → small_of e.a ≡ Some id → run (at_entry step) (Some start) (xs ++ e ∷ zs) ≡ Some m → IsSettled e.by.0 id e.reply m

-- a change that starts this callback
abbrev pub Starts : ℕ → Entry → Type 0
Starts id e = (small_of e.a ≡ Some id) × ((e.op ≡ ops.Begin) ⊎ (e.op ≡ ops.RegisterNow))

-- no callback is started after it was started, or was deregistered
abbrev pub StartsOnce : Stop → List Entry → Type 0
StartsOnce start h = (xs zs ys : List Entry) (e f : Entry) (id : ℕ) → h ≡ xs ++ e ∷ (zs ++ f ∷ ys) → Starts id e ⊎ ((e.op ≡ ops.Deregister) × (small_of e.a ≡ Some id)) → Starts id f → ⊥

-- so it is of every legal history that begins without callbacks
abbrev pub CallbacksSettle : Type 0
CallbacksSettle = (start now : Stop) (h : List Entry) → members start ≡ [] → run (at_entry step) (Some start) h ≡ Some now → Deregistered start h × StartsOnce start h
