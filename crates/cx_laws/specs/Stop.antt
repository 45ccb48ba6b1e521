-- A stop state and its callbacks in the standard's words [stoptoken, stopsource, stopcallback.cons].
use Rattle.std.specs.Prelude.{◌≡◌, ℕ, ◌<◌, ◌≤◌, ◌==◌, ◌&&◌, ◌⊎◌, Bool, true, false, List, ◌∷◌, ◌++◌, Option, Some, None}
use Rattle.cx_machine.specs.declared.kind.Kind.TheVariants as kinds
use Rattle.cx_machine.specs.declared.kind.Entry.{Entry}
use Rattle.cx_machine.specs.declared.kind.Op.{Op}
use Rattle.cx_machine.specs.declared.kind.Op.TheVariants as ops
use Rattle.cx_machine.specs.Words.{small_of}
use Rattle.cx_machine.specs.Machine.{IsLegal}
use Rattle.cx_laws.specs.History.{count, is_by}

abbrev pub is_request : Op → Bool
is_request ops.Request = true
is_request _ = false

-- a callback begins: among those that the request runs, or at once as it is made
abbrev pub is_begin : Op → Bool
is_begin ops.Begin = true
is_begin ops.RegisterNow = true
is_begin _ = false

abbrev pub is_finish : Op → Bool
is_finish ops.Finish = true
is_finish _ = false

abbrev pub is_deregister : Op → Bool
is_deregister ops.Deregister = true
is_deregister _ = false

abbrev pub is_id : Option ℕ → ℕ → Bool
is_id None id = false
is_id (Some n) id = n == id

abbrev pub requests : Entry → Bool
requests e = is_request e.op

-- the callback begins, returns, or is destroyed
abbrev pub begins : ℕ → Entry → Bool
begins id e = is_begin e.op && is_id (small_of e.a) id

abbrev pub finishes : ℕ → Entry → Bool
finishes id e = is_finish e.op && is_id (small_of e.a) id

abbrev pub deregisters : ℕ → Entry → Bool
deregisters id e = is_deregister e.op && is_id (small_of e.a) id

-- by this thread
abbrev pub begins_on : ℕ → ℕ → Entry → Bool
begins_on t id e = begins id e && is_by t e

abbrev pub finishes_on : ℕ → ℕ → Entry → Bool
finishes_on t id e = finishes id e && is_by t e

-- A STOP IS REQUESTED AT MOST ONCE
abbrev pub RequestedOnce : Type 0
RequestedOnce = (sources : ℕ) (h : List Entry) → IsLegal (kinds.Stop sources) h → count requests h ≤ 1

-- A CALLBACK BEGINS AT MOST ONCE
abbrev pub BeginsOnce : Type 0
BeginsOnce = (sources : ℕ) (h : List Entry) (id : ℕ) → IsLegal (kinds.Stop sources) h → count (begins id) h ≤ 1

-- AND NEVER AFTER ITS DEREGISTRATION
abbrev pub NeverAfterDeregistration : Type 0
NeverAfterDeregistration = (sources : ℕ) (before rest : List Entry) (e : Entry) (id : ℕ) → IsLegal (kinds.Stop sources) (before ++ e ∷ rest) → deregisters id e ≡ true → count (begins id) rest ≡ 0

-- no callback begins before the stop is requested
abbrev pub BeginsAfterRequest : Type 0
BeginsAfterRequest = (sources : ℕ) (before rest : List Entry) (e : Entry) → IsLegal (kinds.Stop sources) (before ++ e ∷ rest) → is_begin e.op ≡ true → count requests before ≡ 1

-- the callback runs on this thread
abbrev pub RunsOn : ℕ → ℕ → List Entry → Type 0
RunsOn t id h = count (finishes_on t id) h < count (begins_on t id) h

-- A DEREGISTRATION RETURNS ONLY WHERE THE CALLBACK DOESN'T RUN, OR RUNS ON THE VERY THREAD
abbrev pub WaitsForItsReturn : Type 0
WaitsForItsReturn = (sources : ℕ) (before rest : List Entry) (e : Entry) (id : ℕ) → IsLegal (kinds.Stop sources) (before ++ e ∷ rest) → deregisters id e ≡ true → (count (begins id) before ≡ count (finishes id) before) ⊎ RunsOn e.by.0 id before
