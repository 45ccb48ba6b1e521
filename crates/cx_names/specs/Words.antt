-- How scenarios and records write a reply.
use Rattle.std.specs.Prelude.{ℕ, List, [], ◌++◌, codes}
use Rattle.std.specs.Fmt.{decimal, signed_decimal}
use Rattle.cx_names.specs.declared.Outcome.{Outcome}
use Rattle.cx_names.specs.declared.Outcome.TheVariants as outcomes
use Rattle.cx_names.specs.declared.Reply.{Reply}
use Rattle.cx_names.specs.declared.Reply.TheVariants as replies

abbrev pub outcome_text : Outcome → List ℕ
outcome_text (outcomes.Value v) = codes "value " ++ signed_decimal v
outcome_text (outcomes.Exception e) = codes "exception " ++ decimal e
outcome_text outcomes.Broken = codes "broken_promise"

-- the words that stand for themselves
abbrev pub fixed_word : Reply → List ℕ
fixed_word replies.Ok = codes "ok"
fixed_word replies.True = codes "true"
fixed_word replies.False = codes "false"
fixed_word replies.Over = codes "over"
fixed_word replies.OverExpected = codes "over-expected"
fixed_word replies.MaxLevels = codes "max-levels"
fixed_word replies.Overflow = codes "overflow"
fixed_word replies.Made = codes "made"
fixed_word replies.Already = codes "already"
fixed_word replies.Queued = codes "queued"
fixed_word replies.Ran = codes "ran"
fixed_word replies.Never = codes "never"
fixed_word replies.Removed = codes "removed"
fixed_word replies.Inside = codes "inside"
fixed_word replies.NotHeld = codes "not-held"
fixed_word replies.Returned = codes "returned"
fixed_word replies.Passive = codes "passive"
fixed_word replies.NoToken = codes "no-token"
fixed_word replies.Spent = codes "spent"
fixed_word replies.NoThread = codes "no-thread"
fixed_word replies.Launched = codes "launched"
fixed_word replies.Deferred = codes "deferred"
fixed_word replies.Nobody = codes "none"
fixed_word replies.NoState = codes "no_state"
fixed_word replies.PromiseAlreadySatisfied = codes "promise_already_satisfied"
fixed_word replies.FutureAlreadyRetrieved = codes "future_already_retrieved"
fixed_word replies.OperationNotPermitted = codes "operation_not_permitted"
fixed_word replies.ResourceDeadlockWouldOccur = codes "resource_deadlock_would_occur"
fixed_word replies.InvalidArgument = codes "invalid_argument"
fixed_word _ = []

-- a reply, with the name of the thread where it is one
abbrev pub reply_text : Reply → List ℕ → List ℕ
reply_text (replies.Number n) name = signed_decimal n
reply_text (replies.Thread t) name = name
reply_text (replies.Threw e) name = codes "threw " ++ decimal e
reply_text (replies.Outcome o) name = outcome_text o
reply_text fixed name = fixed_word fixed
