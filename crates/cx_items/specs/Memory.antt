-- What a thread remembers of its earlier items: what it owns, holds and may join.
use Rattle.std.specs.Prelude.{ℕ, ◌+◌, ◌-◌, ◌==◌, ◌||◌, ℤ, pos, Bool, true, false, List, [], ◌∷◌, map, slice_get, slice_set, Option, Some, None, nat_lt, if◌then◌else◌, unwrap_or}
use Rattle.cx_names.specs.declared.ThreadNo.{ThreadNo}
use Rattle.cx_names.specs.declared.ObjectNo.{ObjectNo}
use Rattle.cx_names.specs.declared.Reply.{Reply}
use Rattle.cx_names.specs.declared.Reply.TheVariants as replies
use Rattle.cx_machine.specs.declared.kind.Op.{Op}
use Rattle.cx_machine.specs.declared.kind.Op.TheVariants as ops
use Rattle.cx_machine.specs.Words.{has, without}
use Rattle.cx_scene.specs.declared.declared.Object.{Object}
use Rattle.cx_scene.specs.declared.declared.Object.TheVariants as objects
use Rattle.cx_scene.specs.declared.declared.Thread.{Thread}
use Rattle.cx_scene.specs.declared.declared.Thread.TheVariants as threads
use Rattle.cx_scene.specs.declared.call.Call.{Call}
use Rattle.cx_scene.specs.declared.call.Call.TheVariants as calls
use Rattle.cx_scene.specs.Scene.{Scene}
pub use Rattle.cx_items.specs.declared.kept.Kept.{Kept}
use Rattle.cx_items.specs.declared.item.Control.{Control}
use Rattle.cx_items.specs.declared.item.Control.TheVariants as controls
use Rattle.cx_items.specs.declared.item.Item.{Item}
use Rattle.cx_items.specs.declared.item.Item.TheVariants as items

-- what it keeps by the objects' numbers, the IDs that it has registered, whom it may join, and its turns
pub record Memory : Type 0 where
  pub kept : List Kept
  pub held : List ℕ
  pub joinable : List ℕ
  pub turns : ℕ

abbrev pub nothing : Kept
nothing = record { levels = 0; reads = false; arrival = None; sources = 0; is_set = false; is_dropped = false; is_retrieved = false; is_valid = false; is_shared = false; is_launched = false; is_unrun = false }

abbrev pub of : Memory → ObjectNo → Kept
of m o = unwrap_or (slice_get m.kept o.0) nothing

abbrev pub keep : Memory → ObjectNo → Kept → Memory
keep m o k = record m { kept = slice_set m.kept o.0 k }

abbrev pub owns : Memory → ObjectNo → Bool
owns m o = nat_lt 0 (of m o).levels

abbrev pub has_any : Memory → ObjectNo → Bool
has_any m o = owns m o || (of m o).reads

abbrev pub is_joinable : Memory → ThreadNo → Bool
is_joinable m t = has m.joinable t.0

-- ---- the opening: one source for each holder of a stop, and the futures of shared promises

abbrev pub count_if : Bool → ℕ
count_if is_holder = if is_holder then 1 else 0

abbrev pub kept_at_start : ℕ → Object → Kept
kept_at_start t (objects.Stop holders) = record nothing { sources = count_if (has holders t) }
kept_at_start t objects.StopOfThread = record nothing { sources = count_if (t == 0) }
kept_at_start t (objects.SharedPromise owner readers) = record nothing { is_retrieved = true; is_valid = has readers t; is_shared = has readers t }
kept_at_start t _ = nothing

abbrev pub memory_at_start : Scene → ℕ → Memory
memory_at_start s t = record { kept = map (kept_at_start t) s.objects; held = []; joinable = []; turns = 0 }

-- ---- what an act leaves

abbrev pub kept_after : Op → Kept → Kept
kept_after ops.Lock k = record k { levels = k.levels + 1 }
kept_after ops.TryLock k = record k { levels = k.levels + 1 }
kept_after ops.Unlock k = record k { levels = k.levels - 1 }
kept_after ops.LockShared k = record k { reads = true }
kept_after ops.TryLockShared k = record k { reads = true }
kept_after ops.UnlockShared k = record k { reads = false }
kept_after ops.Another k = record k { sources = k.sources + 1 }
kept_after ops.Drop k = record k { sources = k.sources - 1 }
kept_after ops.Set k = record k { is_set = true }
kept_after ops.Defer k = record k { is_valid = true; is_unrun = true }
kept_after ops.Run k = record k { is_unrun = false }
kept_after _ k = k

abbrev pub held_after : Op → ℤ → List ℕ → List ℕ
held_after ops.Register (pos id) ids = id ∷ ids
held_after ops.Deregister (pos id) ids = without ids id
held_after _ _ ids = ids

-- a launched async has a future, which is valid
abbrev pub launched : Memory → Option Thread → Memory
launched m (Some (threads.Launched o)) = keep m o (record (of m o) { is_valid = true; is_launched = true })
launched m _ = m

abbrev pub controlled : Scene → Memory → Control → Memory
controlled s m (controls.Start t ok) = if ok then record m { joinable = t.0 ∷ m.joinable } else m
controlled s m (controls.Launch t ok) = if ok then launched m (slice_get s.threads t.0) else m
controlled s m (controls.Join t) = record m { joinable = without m.joinable t.0 }

abbrev pub remembering : Scene → Memory → Item → Memory
remembering s m (items.Change o p e) = record (keep m o (kept_after e.op (of m o))) { held = held_after e.op e.a m.held }
remembering s m (items.Look o l) = m
remembering s m (items.Control c) = controlled s m c
remembering s m (items.Said r) = m

-- ---- what a call and its reply leave

abbrev pub settled : Call → Reply → Memory → Memory
settled (calls.Arrive b n) (replies.Number p) m = keep m b (record (of m b) { arrival = Some p })
settled (calls.WaitBarrier b) replies.Ok m = keep m b (record (of m b) { arrival = None })
settled (calls.DropPromise p) replies.Ok m = keep m p (record (of m p) { is_dropped = true })
settled (calls.GetFuture p) replies.Ok m = keep m p (record (of m p) { is_retrieved = true; is_valid = true })
settled (calls.Share p) replies.Ok m = keep m p (record (of m p) { is_shared = true })
settled (calls.GetOutcome p) (replies.Outcome o) m = keep m p (record (of m p) { is_valid = (of m p).is_shared })
settled (calls.DropAsync a) replies.Ok m = keep m a (record (of m a) { is_valid = false })
settled _ _ m = m
