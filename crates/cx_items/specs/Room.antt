-- How many tasks a thread may have left at once.
use Rattle.std.specs.Prelude.{ℕ, ◌+◌, length}
use Rattle.std.specs.List.{sum_by, count_by}
use Rattle.cx_scene.specs.declared.call.Call.{Call}
use Rattle.cx_scene.specs.declared.call.Call.TheVariants as calls
use Rattle.cx_scene.specs.Scene.{Scene, body_of}
use Rattle.cx_items.specs.Calls.{owner_of, is_number_of}

-- how many tasks a call may leave for the end of its body: one for each level of a mutex, for each share of one and for
-- each outcome that it launches, and two for a thread that it starts
abbrev pub left_by : Call → ℕ
left_by (calls.Lock o) = 1
left_by (calls.LockRecursive o) = 1
left_by (calls.LockShared o) = 1
left_by (calls.TryLock o) = 1
left_by (calls.TryLockRecursive o) = 1
left_by (calls.TryLockShared o) = 1
left_by (calls.LockAll os) = length os
left_by (calls.TryLockAll os) = length os
left_by (calls.Launch a) = 1
left_by (calls.Start u) = 2
left_by _ = 0

-- how many promises and tasks of a scene a thread owns, each of which its end may break
abbrev pub owned_by : ℕ → Scene → ℕ
owned_by t s = count_by (λ o. is_number_of t (owner_of o)) s.objects

-- what a thread's calls and its promises may leave for its end, and five tasks of one call
abbrev pub room_for : Scene → ℕ → ℕ
room_for s t = sum_by left_by (body_of s t) + owned_by t s + 5
