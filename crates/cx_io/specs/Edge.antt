-- What a pull and a push do to the bytes on either side, and when a fault has a cause.
use Rattle.std.specs.Prelude.{◌≡◌, Bool, true, false, ℕ, ◌+◌, ◌-◌, ◌^◌, ◌<◌, ◌≤◌, ◌⊎◌, List, [], ◌++◌, length, take, drop, Option, Some, IfSome}
use Rattle.cx_io.specs.declared.source.Pulled.{Pulled}
use Rattle.cx_io.specs.declared.source.Pulled.TheVariants as pulled
use Rattle.cx_io.specs.declared.sink.Pushed.{Pushed}
use Rattle.cx_io.specs.declared.sink.Pushed.TheVariants as pushed

-- A count of faults rose: it is greater, or stands at the last value of a counter.
abbrev pub Rose : ℕ → ℕ → Type 0
Rose before now = (before < now) ⊎ (2 ^ 64 - 1 ≤ now)

-- How many bytes a pull put in front of its buffer
abbrev pub Fits : Pulled → ℕ → Type 0
Fits (pulled.Got n) room = (0 < n) × (n ≤ room)
Fits pulled.End room = Unit {0}
Fits pulled.Failed room = Unit {0}

-- Where what is left was told before the pull, it is told after it.
abbrev pub Pulls : Pulled → List ℕ → List ℕ → Option (List ℕ) → Type 0
Pulls (pulled.Got n) left out after = (n ≤ length left) × (take n out ≡ take n left) × (after ≡ Some (drop n left))
Pulls pulled.End left out after = (left ≡ []) × (after ≡ Some [])
Pulls pulled.Failed left out after = after ≡ Some left

abbrev pub PullsOf : Pulled → Option (List ℕ) → List ℕ → Option (List ℕ) → Type 0
PullsOf p before out after = IfSome before (λ left. Pulls p left out after)

-- a failed pull has a cause
abbrev pub PullCause : Pulled → ℕ → ℕ → Type 0
PullCause (pulled.Got n) before now = before ≤ now
PullCause pulled.End before now = before ≤ now
PullCause pulled.Failed before now = (before ≤ now) × Rose before now

abbrev pub FitsPush : Pushed → ℕ → Type 0
FitsPush (pushed.Took n) room = (0 < n) × (n ≤ room)
FitsPush pushed.Failed room = Unit {0}

-- what a push adds
abbrev pub added : Pushed → List ℕ → List ℕ
added (pushed.Took n) piece = take n piece
added pushed.Failed piece = []

-- now is what was taken before, with these bytes at its end
abbrev pub Extends : Option (List ℕ) → List ℕ → List ℕ → Type 0
Extends before more now = (old : List ℕ) × (before ≡ Some old) × (now ≡ old ++ more)

-- Where what was taken is told after the push, it was told before it.
abbrev pub Pushes : Pushed → Option (List ℕ) → List ℕ → Option (List ℕ) → Type 0
Pushes p before piece after = IfSome after (λ now. Extends before (added p piece) now)

abbrev pub PushCause : Pushed → ℕ → ℕ → Type 0
PushCause (pushed.Took n) before now = before ≤ now
PushCause pushed.Failed before now = (before ≤ now) × Rose before now

-- The bytes read: all that the source had left, or the first limit + 1 of them where there were more.
-- Where the source tells nothing, there is one list of at most limit + 1 bytes.
pub record IsRead (limit : ℕ) (left : Option (List ℕ)) (bytes : List ℕ) : Type 0 where
  pub short : length bytes ≤ limit + 1
  pub told : IfSome left (λ all. bytes ≡ take (limit + 1) all)

-- A whole text was taken, or a front of it where the count of faults rose.
abbrev pub WritesTo : Bool → Option (List ℕ) → Option (List ℕ) → ℕ → ℕ → List ℕ → Type 0
WritesTo true before after faults now text = (faults ≤ now) × IfSome after (λ taken. Extends before text taken)
WritesTo false before after faults now text = (faults ≤ now) × Rose faults now × IfSome after (λ taken. (front rest : List ℕ) × (text ≡ front ++ rest) × Extends before front taken)
