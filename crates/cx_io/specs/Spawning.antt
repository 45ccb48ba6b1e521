-- What a start and a join do to the counts of a spawner, and which job is running.
use Rattle.std.specs.Prelude.{◌≡◌, ℕ, ◌+◌, ◌-◌, ◌^◌, ◌≤◌, ◌⊎◌, List, Contains, Result, MatchResult}
use Rattle.cx_io.specs.declared.running.Running.{Running}
use Rattle.cx_io.specs.declared.running.Running.TheVariants as running

-- A count rose by a number: it is that much greater, or it stopped on the way, at the last value of a counter.
abbrev pub Raised : ℕ → ℕ → ℕ → Type 0
Raised before now by = (now ≡ before + by) ⊎ ((2 ^ 64 - 1 ≤ now) × (now ≤ before + by))

-- A count rose by at least a number, or stands at the last value of a counter.
abbrev pub RaisedAtLeast : ℕ → ℕ → ℕ → Type 0
RaisedAtLeast before now by = (before + by ≤ now) ⊎ (2 ^ 64 - 1 ≤ now)

-- a start that succeeds is counted once, and a refused one not at all
abbrev pub CountsStart : {A B : Type 0} → Result A B → ℕ → ℕ → Type 0
CountsStart result before now = MatchResult result (λ _. Raised before now 1) (λ _. now ≡ before)

-- the job that was started
abbrev pub job_of : {J O : Type 0} → Running J O → J
job_of (running.There handle) = handle.promise.job.value
job_of (running.Here job) = job

-- the start of this number is one of those to be refused
abbrev pub IsListed : List ℕ → ℕ → Type 0
IsListed refused number = Contains refused number
