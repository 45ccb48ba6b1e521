-- A barrier in the standard's words [thread.barrier.class].
use Rattle.std.specs.Prelude.{◌≡◌, ℕ, ◌+◌, ◌<◌, Bool, true, false, pos, List, [], ◌∷◌, ◌++◌, Some}
use Rattle.cx_names.specs.declared.Reply.TheVariants as replies
use Rattle.cx_machine.specs.declared.kind.Kind.TheVariants as kinds
use Rattle.cx_machine.specs.declared.kind.Entry.{Entry}
use Rattle.cx_machine.specs.declared.kind.Look.{Look}
use Rattle.cx_machine.specs.declared.kind.Op.{Op}
use Rattle.cx_machine.specs.declared.kind.Op.TheVariants as ops
use Rattle.cx_machine.specs.Words.{small_of}
use Rattle.cx_machine.specs.Machine.{IsLegal}
use Rattle.cx_machine.specs.Meaning.{bit}
use Rattle.cx_laws.specs.History.{count, total, amount_of, IsShownAfter}

abbrev pub is_arrive : Op → Bool
is_arrive ops.Arrive = true
is_arrive _ = false

abbrev pub is_drop : Op → Bool
is_drop ops.Drop = true
is_drop _ = false

abbrev pub is_arrival : Op → Bool
is_arrival ops.Arrive = true
is_arrival ops.Drop = true
is_arrival _ = false

abbrev pub is_complete : Op → Bool
is_complete ops.Complete = true
is_complete _ = false

abbrev pub is_wait : Op → Bool
is_wait ops.Wait = true
is_wait _ = false

abbrev pub drops : Entry → Bool
drops e = is_drop e.op

-- the completion step of a phase has run
abbrev pub completes : Entry → Bool
completes e = is_complete e.op

-- how many have arrived, those that drop out among them
abbrev pub arrived : List Entry → ℕ
arrived h = total (λ e. amount_of (is_arrive e.op) e + bit (drops e)) h

-- the history before a phase: nothing, or a completion as its last change
abbrev pub EndsAPhase : List Entry → Type 0
EndsAPhase [] = Unit {0}
EndsAPhase (e ∷ []) = completes e ≡ true
EndsAPhase (e ∷ (d ∷ es)) = EndsAPhase (d ∷ es)

-- A PHASE COMPLETES ONLY WHEN ALL HAVE ARRIVED: in it arrive all that were expected, less those that dropped out in the phases before
abbrev pub CompletesWhenFull : Type 0
CompletesWhenFull = (expected : ℕ) (earlier phase rest : List Entry) (e : Entry) → IsLegal (kinds.Barrier expected) (earlier ++ (phase ++ e ∷ rest)) → EndsAPhase earlier → count completes phase ≡ 0 → completes e ≡ true → arrived phase + count drops earlier ≡ expected

-- THE LAST TO ARRIVE COMPLETES IT, before anybody arrives for the next
abbrev pub LastCompletes : Type 0
LastCompletes = (expected : ℕ) (before rest : List Entry) (e : Entry) → IsLegal (kinds.Barrier expected) (before ++ e ∷ rest) → completes e ≡ true → (earlier : List Entry) × (last : Entry) × (before ≡ earlier ++ last ∷ []) × (is_arrival last.op ≡ true) × (last.by.0 ≡ e.by.0)

-- the token of an arrival is its phase: the number of completions so far
abbrev pub TokenIsThePhase : Type 0
TokenIsThePhase = (expected : ℕ) (before rest : List Entry) (e : Entry) → IsLegal (kinds.Barrier expected) (before ++ e ∷ rest) → is_arrival e.op ≡ true → e.reply ≡ replies.Number (pos (count completes before))

-- A WAIT RETURNS ONLY AFTER THE COMPLETION OF ITS PHASE
abbrev pub WaitsForCompletion : Type 0
WaitsForCompletion = (expected : ℕ) (h : List Entry) (l : Look) (p : ℕ) → IsShownAfter (kinds.Barrier expected) h l → is_wait l.op ≡ true → small_of l.a ≡ Some p → p < count completes h
