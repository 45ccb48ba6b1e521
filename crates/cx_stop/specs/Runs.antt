-- What is said of the callbacks that a call runs.
use Rattle.std.specs.Prelude.{◌≡◌, ◌⊎◌, ℕ, ◌+◌, ◌<◌, ◌&&◌, Bool, true, false, List, [], ◌∷◌, ◌++◌, Option, Some, None, nat_eq, if◌then◌else◌}
use Rattle.cx_names.specs.declared.Reply.TheVariants as replies
use Rattle.cx_machine.specs.declared.kind.Op.{Op}
use Rattle.cx_machine.specs.declared.kind.Op.TheVariants as ops
use Rattle.cx_machine.specs.declared.kind.Entry.{Entry}
use Rattle.cx_machine.specs.declared.kind.Look.{Look}
use Rattle.cx_machine.specs.Words.{small_of}
use Rattle.cx_machine.specs.Stop.{Stop}
use Rattle.cx_turn.specs.declared.view.View.{View}
use Rattle.cx_turn.specs.Positions.{positions}
use Rattle.cx_turn.specs.Views.{Each}
use Rattle.cx_turn.specs.Acts.{Makes}
use Rattle.cx_stop.specs.Kinds.{stopping}
use Rattle.cx_stop.specs.Acts.{act, IsRunning}
use Rattle.cx_stop.specs.Went.{Went}

-- the list of pairs of an ID and a position grew by these, where it is still told; where it is told it was told before
abbrev pub Tells : Option (List (ℕ × ℕ)) → List (ℕ × ℕ) → Option (List (ℕ × ℕ)) → Type 0
Tells old more None = Unit {0}
Tells old more (Some new) = (was : List (ℕ × ℕ)) × (old ≡ Some was) × (new ≡ was ++ more)

-- a change that starts a callback, or ends one
abbrev pub is_run : Op → Bool
is_run ops.Begin = true
is_run ops.RegisterNow = true
is_run ops.Finish = true
is_run _ = false

abbrev pub number_or_none : Option ℕ → ℕ
number_or_none None = 0
number_or_none (Some id) = id

abbrev pub id_in : Entry → ℕ
id_in e = number_or_none (small_of e.a)

-- the IDs and positions of the changes by this number that start and end callbacks, in a history whose first position is k
abbrev pub run_pairs : ℕ → ℕ → List Entry → List (ℕ × ℕ)
run_pairs by k [] = []
run_pairs by k (e ∷ es) = if nat_eq e.by.0 by && is_run e.op then (id_in e, k) ∷ run_pairs by (k + 1) es else run_pairs by (k + 1) es

-- a change by this number deregisters a callback
abbrev pub OnlyDeregisters : ℕ → Entry → Type 0
OnlyDeregisters by e = e.by.0 ≡ by → e.op ≡ ops.Deregister

-- who was lent the pass looked and deregistered through it alone
pub record Lent (v w : View Stop) : Type 0 where
  pub own : List ℕ
  pub looks : List Look
  pub went : Went v w own looks
  pub left : w.left ≡ v.left
  pub only : Each (OnlyDeregisters v.number) went.later.0

-- the pass's last change began the callback, which its thread then runs
pub record Begins (u v : View Stop) (id begin : ℕ) : Type 0 where
  pub made : Makes stopping u v (act u.number ops.Begin id replies.Ok) begin ⊎ Makes stopping u v (act u.number ops.RegisterNow id replies.Ok) begin
  pub own : positions u.number 0 u.front ≡ u.mine
  pub running : IsRunning id v

-- it ended it, for which nothing is charged
pub record Finishes (u w : View Stop) (id finish : ℕ) : Type 0 where
  pub made : Makes stopping u w (act u.number ops.Finish id replies.Ok) finish
  pub left : w.left ≡ u.left

-- one callback after the other: each pair of a start is followed by that of its end
abbrev pub AreRuns : List (ℕ × ℕ) → Type 0
AreRuns [] = Unit {0}
AreRuns (b ∷ []) = ⊥
AreRuns (b ∷ (f ∷ ps)) = (b.0 ≡ f.0) × (b.1 < f.1) × AreRuns ps

-- these callbacks were run, one after the other, for which so many changes were charged
pub record RunsOn (u w : View Stop) (paid : ℕ) (acts : List (ℕ × ℕ)) : Type 0 where
  pub own : List ℕ
  pub looks : List Look
  pub went : Went u w own looks
  pub left : w.left + paid ≡ u.left
  pub pairs : run_pairs u.number 0 w.front ≡ run_pairs u.number 0 u.front ++ acts
  pub runs : AreRuns acts
