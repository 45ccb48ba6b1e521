-- A once flag in the standard's words [thread.once.callonce].
use Rattle.std.specs.Prelude.{◌≡◌, ℕ, ◌<◌, ◌≤◌, ◌&&◌, Bool, true, false, List, [], ◌∷◌, ◌++◌}
use Rattle.cx_machine.specs.declared.kind.Kind.TheVariants as kinds
use Rattle.cx_machine.specs.declared.kind.Entry.{Entry}
use Rattle.cx_machine.specs.declared.kind.Look.{Look}
use Rattle.cx_machine.specs.declared.kind.Op.{Op}
use Rattle.cx_machine.specs.declared.kind.Op.TheVariants as ops
use Rattle.cx_machine.specs.Machine.{IsLegal}
use Rattle.cx_laws.specs.History.{count, is_by, IsShownAfter}

abbrev pub is_begin : Op → Bool
is_begin ops.Begin = true
is_begin _ = false

-- the function returns
abbrev pub is_finish : Op → Bool
is_finish ops.Finish = true
is_finish _ = false

-- the function returns or throws
abbrev pub is_end : Op → Bool
is_end ops.Finish = true
is_end ops.Fail = true
is_end _ = false

abbrev pub begins : ℕ → Entry → Bool
begins t e = is_begin e.op && is_by t e

abbrev pub ends : ℕ → Entry → Bool
ends t e = is_end e.op && is_by t e

abbrev pub finishes : Entry → Bool
finishes e = is_finish e.op

-- the thread runs the function: an active execution
abbrev pub Runs : ℕ → List Entry → Type 0
Runs t h = count (ends t) h < count (begins t) h

-- THE FUNCTION RETURNS AT MOST ONCE
abbrev pub ReturnsOnce : Type 0
ReturnsOnce = (h : List Entry) → IsLegal kinds.Once h → count finishes h ≤ 1

-- AN EXECUTION IS PASSIVE ONLY AFTER THE ONE THAT RETURNED
abbrev pub PassiveAfterReturn : Type 0
PassiveAfterReturn = (h : List Entry) (l : Look) → IsShownAfter kinds.Once h l → count finishes h ≡ 1

-- after it no further execution is active
abbrev pub NothingAfterReturn : Type 0
NothingAfterReturn = (before rest : List Entry) (e : Entry) → IsLegal kinds.Once (before ++ e ∷ rest) → finishes e ≡ true → rest ≡ []

-- no two executions are active at once
abbrev pub OneRuns : Type 0
OneRuns = (h : List Entry) (t u : ℕ) → IsLegal kinds.Once h → Runs t h → Runs u h → t ≡ u

-- a thread ends only what it has begun
abbrev pub EndsWhatItBegan : Type 0
EndsWhatItBegan = (h : List Entry) (t : ℕ) → IsLegal kinds.Once h → count (ends t) h ≤ count (begins t) h
