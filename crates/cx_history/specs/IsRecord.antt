-- Well-formed records: the items are those that a line of a record may hold.
use Rattle.std.specs.Prelude.{◌≡◌, ℕ, ◌^◌, ◌==◌, ◌&&◌, ◌||◌, ℤ, pos, negsuc, Bool, true, false, IsTrue, length, slice_get, Option, Some, is_some, nat_lt, nat_le, max, option_and_then}
use Rattle.cx_names.specs.declared.Reply.{Reply}
use Rattle.cx_names.specs.declared.Reply.TheVariants as replies
use Rattle.cx_names.specs.Replies.{int_eq, reply_eq}
use Rattle.cx_machine.specs.declared.kind.Kind.{Kind}
use Rattle.cx_machine.specs.declared.kind.Kind.TheVariants as kinds
use Rattle.cx_machine.specs.declared.kind.Op.{Op}
use Rattle.cx_machine.specs.declared.kind.Op.TheVariants as ops
use Rattle.cx_machine.specs.Words.{when, is_small}
use Rattle.cx_scene.specs.declared.declared.Thread.{Thread}
use Rattle.cx_scene.specs.declared.declared.Thread.TheVariants as threads
use Rattle.cx_scene.specs.Scene.{Scene, kind_of}
use Rattle.cx_items.specs.declared.item.Control.{Control}
use Rattle.cx_items.specs.declared.item.Control.TheVariants as controls
use Rattle.cx_items.specs.declared.item.Item.{Item}
use Rattle.cx_items.specs.declared.item.Item.TheVariants as items
use Rattle.cx_machine.specs.Words.{small_of, outcome_of as outcome_in}
use Rattle.cx_items.specs.Form.{is_number, is_outcome}
use Rattle.cx_history.specs.Histories.{Recorded}
use Rattle.cx_history.specs.Legal.{EachItem}

abbrev pub is_within : ℕ → ℕ → ℤ → Bool
is_within low high (pos n) = nat_le low n && nat_le n high
is_within low high (negsuc n) = false

-- no number, one number in a range, and a reply with a number of 32 bits
abbrev pub bare : ℤ → ℤ → Bool
bare a b = int_eq a (pos 0) && int_eq b (pos 0)

abbrev pub one_number : ℕ → ℕ → ℤ → ℤ → Bool
one_number low high a b = is_within low high a && int_eq b (pos 0)

abbrev pub word : ℤ → ℤ → Bool
word a b = is_small a && int_eq b (pos 0)

-- a number below this many
abbrev pub index : ℕ → ℤ → Bool
index many (pos i) = nat_lt i many
index many (negsuc n) = false

abbrev pub is_u32_reply : Reply → Bool
is_u32_reply (replies.Number n) = is_small n
is_u32_reply _ = false

abbrev pub is_thread_reply : ℕ → Reply → Bool
is_thread_reply count (replies.Thread t) = nat_lt t.0 count
is_thread_reply count replies.Nobody = true
is_thread_reply count _ = false

abbrev pub is_deregistered : Reply → Bool
is_deregistered r = reply_eq r replies.Removed || reply_eq r replies.Ran || reply_eq r replies.Inside

-- the words of a change on an object of this kind, among so many threads
abbrev pub is_change : ℕ → Kind → Op → ℤ → ℤ → Reply → Bool
is_change n (kinds.Mutex recursive many) ops.Lock a b r = bare a b && reply_eq r replies.Ok
is_change n (kinds.Mutex recursive many) ops.TryLock a b r = bare a b && reply_eq r replies.True
is_change n (kinds.Mutex recursive many) ops.Unlock a b r = bare a b && reply_eq r replies.Ok
is_change n (kinds.Mutex recursive many) ops.Set a b r = index many a && reply_eq r replies.Ok
is_change n (kinds.Mutex recursive many) ops.Add a b r = index many a && is_number r
is_change n kinds.Shared ops.Lock a b r = bare a b && reply_eq r replies.Ok
is_change n kinds.Shared ops.TryLock a b r = bare a b && reply_eq r replies.True
is_change n kinds.Shared ops.Unlock a b r = bare a b && reply_eq r replies.Ok
is_change n kinds.Shared ops.LockShared a b r = bare a b && reply_eq r replies.Ok
is_change n kinds.Shared ops.TryLockShared a b r = bare a b && reply_eq r replies.True
is_change n kinds.Shared ops.UnlockShared a b r = bare a b && reply_eq r replies.Ok
is_change n (kinds.Semaphore count max) ops.Release a b r = one_number 0 65535 a b && reply_eq r replies.Ok
is_change n (kinds.Semaphore count max) ops.Acquire a b r = bare a b && reply_eq r replies.Ok
is_change n (kinds.Semaphore count max) ops.TryAcquire a b r = bare a b && reply_eq r replies.True
is_change n (kinds.Latch count) ops.CountDown a b r = one_number 0 65535 a b && reply_eq r replies.Ok
is_change n (kinds.Barrier count) ops.Arrive a b r = one_number 1 4096 a b && is_u32_reply r
is_change n (kinds.Barrier count) ops.Drop a b r = bare a b && is_u32_reply r
is_change n (kinds.Barrier count) ops.Complete a b r = bare a b && reply_eq r replies.Ok
is_change n kinds.Once ops.Begin a b r = bare a b && reply_eq r replies.Ok
is_change n kinds.Once ops.Finish a b r = bare a b && reply_eq r replies.Ok
is_change n kinds.Once ops.Fail a b r = word a b && reply_eq r replies.Ok
is_change n kinds.Condition ops.Enter a b r = bare a b && reply_eq r replies.Ok
is_change n kinds.Condition ops.NotifyOne a b r = bare a b && is_thread_reply n r
is_change n kinds.Condition ops.NotifyAll a b r = bare a b && is_u32_reply r
is_change n kinds.Condition ops.Unblock a b r = bare a b && reply_eq r replies.Ok
is_change n kinds.Condition ops.Withdraw a b r = bare a b && reply_eq r replies.Ok
is_change n (kinds.Stop sources) ops.Request a b r = bare a b && reply_eq r replies.Ok
is_change n (kinds.Stop sources) ops.Another a b r = bare a b && reply_eq r replies.Ok
is_change n (kinds.Stop sources) ops.Drop a b r = bare a b && reply_eq r replies.Ok
is_change n (kinds.Stop sources) ops.Register a b r = word a b && reply_eq r replies.Ok
is_change n (kinds.Stop sources) ops.RegisterNow a b r = word a b && reply_eq r replies.Ok
is_change n (kinds.Stop sources) ops.Begin a b r = word a b && reply_eq r replies.Ok
is_change n (kinds.Stop sources) ops.Finish a b r = word a b && reply_eq r replies.Ok
is_change n (kinds.Stop sources) ops.Deregister a b r = word a b && is_deregistered r
is_change n kinds.Future ops.Defer a b r = bare a b && reply_eq r replies.Ok
is_change n kinds.Future ops.Run a b r = bare a b && reply_eq r replies.Ok
is_change n kinds.Future ops.Set a b r = is_some (outcome_in (small_of a) b) && reply_eq r replies.Ok
is_change n _ _ a b r = false

abbrev pub is_answer : Reply → Bool
is_answer r = reply_eq r replies.True || reply_eq r replies.False

-- the words of a look
abbrev pub is_look : Kind → Op → ℤ → ℤ → Reply → Bool
is_look (kinds.Mutex recursive many) ops.TryLock a b r = bare a b && reply_eq r replies.False
is_look (kinds.Mutex recursive many) ops.Lock a b r = bare a b && reply_eq r replies.MaxLevels
is_look (kinds.Mutex recursive many) ops.Get a b r = index many a && int_eq b (pos 0) && is_number r
is_look (kinds.Mutex recursive many) ops.Add a b r = index many a && reply_eq r replies.Overflow
is_look kinds.Shared ops.TryLock a b r = bare a b && reply_eq r replies.False
is_look kinds.Shared ops.TryLockShared a b r = bare a b && reply_eq r replies.False
is_look (kinds.Semaphore count max) ops.Release a b r = one_number 0 65535 a b && reply_eq r replies.Over
is_look (kinds.Semaphore count max) ops.TryAcquire a b r = bare a b && reply_eq r replies.False
is_look (kinds.Latch count) ops.Wait a b r = bare a b && reply_eq r replies.Ok
is_look (kinds.Latch count) ops.TryWait a b r = bare a b && is_answer r
is_look (kinds.Barrier count) ops.Arrive a b r = one_number 1 4096 a b && reply_eq r replies.OverExpected
is_look (kinds.Barrier count) ops.Drop a b r = bare a b && reply_eq r replies.OverExpected
is_look (kinds.Barrier count) ops.Wait a b r = word a b && reply_eq r replies.Ok
is_look kinds.Once ops.Passive a b r = bare a b && reply_eq r replies.Ok
is_look (kinds.Stop sources) ops.Already a b r = bare a b && reply_eq r replies.Ok
is_look (kinds.Stop sources) ops.StopRequested a b r = bare a b && is_answer r
is_look (kinds.Stop sources) ops.StopPossible a b r = bare a b && is_answer r
is_look (kinds.Stop sources) ops.Never a b r = word a b && reply_eq r replies.Ok
is_look (kinds.Stop sources) ops.Drained a b r = bare a b && reply_eq r replies.Ok
is_look kinds.Future ops.Ready a b r = bare a b && is_outcome r
is_look _ _ a b r = false

-- a control names a thread or a jthread, or an async
abbrev pub can_launch : Option Thread → Bool
can_launch (Some (threads.Launched o)) = true
can_launch _ = false

abbrev pub can_start : Option Thread → Bool
can_start (Some threads.Plain) = true
can_start (Some (threads.Stoppable o)) = true
can_start _ = false

abbrev pub is_control : Scene → Control → Bool
is_control s (controls.Start t ok) = nat_lt 0 t.0 && can_start (slice_get s.threads t.0)
is_control s (controls.Launch t ok) = can_launch (slice_get s.threads t.0)
is_control s (controls.Join t) = nat_lt 0 t.0 && can_start (slice_get s.threads t.0)

-- an item that may stand in thread t's list; the range of a reply's number is that of its type
abbrev pub is_item : Scene → ℕ → Item → Bool
is_item s t (items.Change o p e) = (e.by.0 == t) && nat_lt p (2 ^ 28) && is_some (option_and_then (λ d. when (is_change (length s.threads) (kind_of d) e.op e.a e.b e.reply) d) (slice_get s.objects o.0))
is_item s t (items.Look o l) = (l.by.0 == t) && nat_lt l.at (2 ^ 28) && is_some (option_and_then (λ d. when (is_look (kind_of d) l.op l.a l.b l.reply) d) (slice_get s.objects o.0))
is_item s t (items.Control c) = is_control s c
is_item s t (items.Said (replies.Thread u)) = nat_lt u.0 (length s.threads)
is_item s t (items.Said r) = true

pub record IsRecord (s : Scene) (r : Recorded) : Type 0 where
  pub version : r.version ≡ s.version
  pub count : length r.lists ≡ length s.threads
  pub each : EachItem r (λ t i x. IsTrue (is_item s t x))
