-- The shared state of a future in the standard's words [futures.state].
use Rattle.std.specs.Prelude.{◌≡◌, ◌≤◌, Bool, true, false, List, [], ◌∷◌, ◌++◌, Some}
use Rattle.cx_names.specs.declared.Outcome.{Outcome}
use Rattle.cx_names.specs.declared.Reply.TheVariants as replies
use Rattle.cx_machine.specs.declared.kind.Kind.TheVariants as kinds
use Rattle.cx_machine.specs.declared.kind.Entry.{Entry}
use Rattle.cx_machine.specs.declared.kind.Look.{Look}
use Rattle.cx_machine.specs.declared.kind.Op.{Op}
use Rattle.cx_machine.specs.declared.kind.Op.TheVariants as ops
use Rattle.cx_machine.specs.Words.{small_of, outcome_of}
use Rattle.cx_machine.specs.Machine.{IsLegal}
use Rattle.cx_laws.specs.History.{count, IsShownAfter}

abbrev pub is_set : Op → Bool
is_set ops.Set = true
is_set _ = false

abbrev pub is_run : Op → Bool
is_run ops.Run = true
is_run _ = false

abbrev pub sets : Entry → Bool
sets e = is_set e.op

abbrev pub runs : Entry → Bool
runs e = is_run e.op

-- the change makes the state ready with this outcome
abbrev pub Stores : Entry → Outcome → Type 0
Stores e o = (sets e ≡ true) × (outcome_of (small_of e.a) e.b ≡ Some o)

-- A SHARED STATE IS MADE READY AT MOST ONCE
abbrev pub ReadyOnce : Type 0
ReadyOnce = (h : List Entry) → IsLegal kinds.Future h → count sets h ≤ 1

-- WHO SEES IT READY SEES THE OUTCOME THAT WAS STORED
abbrev pub SeesWhatWasStored : Type 0
SeesWhatWasStored = (h : List Entry) (l : Look) → IsShownAfter kinds.Future h l → (before : List Entry) × (e : Entry) × (o : Outcome) × (h ≡ before ++ e ∷ []) × Stores e o × (l.reply ≡ replies.Outcome o)

-- THE OUTCOME NEVER CHANGES
abbrev pub OutcomeStays : Type 0
OutcomeStays = (h more : List Entry) (l k : Look) → IsShownAfter kinds.Future h l → IsShownAfter kinds.Future (h ++ more) k → l.reply ≡ k.reply

-- a deferred function is run at most once
abbrev pub DeferredRunsOnce : Type 0
DeferredRunsOnce = (h : List Entry) → IsLegal kinds.Future h → count runs h ≤ 1
