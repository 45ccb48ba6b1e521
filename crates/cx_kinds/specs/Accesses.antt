-- What a thread has seen of one object, of whichever kind, and what it holds of it.
use Rattle.std.specs.Prelude.{ℕ, ◌&&◌, Bool, true, false, is_some, nat_le}
use Rattle.std.specs.Arc.{arc_value}
use Rattle.crossbeam_utils.specs.Padded.{padded_value}
use Rattle.crossbeam_utils.specs.declared.cache_padded.CachePadded.{CachePadded}
use Rattle.cx_machine.specs.Machine as all
use Rattle.cx_cell.specs.Cells.{cell_start}
use Rattle.cx_mutex.specs.Kinds.{kept as kept_mutex}
use Rattle.cx_mutex.specs.declared.mutex.Mutex.{Mutex}
use Rattle.cx_mutex.specs.declared.recursive.RecursiveMutex.{RecursiveMutex}
use Rattle.cx_machine.specs.States.{shared_of}
use Rattle.cx_shared_mutex.specs.declared.shared_mutex.SharedMutex.{SharedMutex}
use Rattle.cx_barrier.specs.declared.barrier.Barrier.{Barrier}
use Rattle.cx_barrier.specs.Kinds.{kept as kept_barrier}
use Rattle.cx_sync.specs.declared.once.OnceFlag.{OnceFlag}
use Rattle.cx_sync.specs.Kinds.{kept as kept_sync}
use Rattle.cx_sync.specs.declared.semaphore.Semaphore.{Semaphore}
use Rattle.cx_sync.specs.declared.latch.Latch.{Latch}
use Rattle.cx_sync.specs.Sync.{IsSemaphorePassWith, IsLatchPassWith}
use Rattle.cx_scene.specs.declared.declared.Object.{Object}
use Rattle.cx_scene.specs.declared.declared.Object.TheVariants as objects
use Rattle.cx_items.specs.declared.kept.Kept.{Kept}
use Rattle.cx_items.specs.Memory.{nothing}
use Rattle.cx_asks.specs.declared.ask.Ask.{Ask}
use Rattle.cx_asks.specs.Asks.{asks_mutex, asks_recursive, asks_shared, asks_semaphore, asks_latch, asks_barrier, asks_once}
use Rattle.cx_kinds.specs.Holding.{levelled, kept_by, kept_shared}
use Rattle.cx_kinds.specs.Seats.{Sight, Sees, IsSight}
use Rattle.cx_kinds.specs.Tokens.{IsMutexToken, IsLevelToken, IsSharedToken, IsBarrierToken, IsOnceToken}
use Rattle.cx_kinds.specs.declared.access.Access.{Access}
use Rattle.cx_kinds.specs.declared.access.Access.TheVariants as accesses

-- an object, of whichever kind
pub data RunObject : Type 0 where
  AMutex : CachePadded Mutex → RunObject
  ARecursive : CachePadded RecursiveMutex → RunObject
  AShared : CachePadded SharedMutex → RunObject
  ASemaphore : CachePadded Semaphore → RunObject
  ALatch : CachePadded Latch → RunObject
  ABarrier : CachePadded Barrier → RunObject
  AOnce : CachePadded OnceFlag → RunObject

abbrev pub object_of : Access → RunObject
object_of (accesses.Mutex s) = AMutex (arc_value s.object)
object_of (accesses.Recursive s) = ARecursive (arc_value s.object)
object_of (accesses.SharedMutex s) = AShared (arc_value s.object)
object_of (accesses.Semaphore s) = ASemaphore (arc_value s.object)
object_of (accesses.Latch s) = ALatch (arc_value s.object)
object_of (accesses.Barrier s) = ABarrier (arc_value s.object)
object_of (accesses.Once s) = AOnce (arc_value s.object)

-- the object is one of this declaration
abbrev pub IsOf : Object → RunObject → Type 0
IsOf (objects.Mutex numbers) (AMutex m) = Unit {0}
IsOf objects.Recursive (ARecursive m) = Unit {0}
IsOf objects.Shared (AShared m) = Unit {0}
IsOf (objects.Semaphore count max) (ASemaphore q) = Unit {0}
IsOf (objects.Latch count) (ALatch l) = Unit {0}
IsOf (objects.Barrier count small) (ABarrier b) = Unit {0}
IsOf objects.Once (AOnce f) = Unit {0}
IsOf _ _ = ⊥

-- the state that it opens in
abbrev pub opens : RunObject → all.State
opens (AMutex m) = all.Mutex (cell_start kept_mutex (padded_value m).cell)
opens (ARecursive m) = all.Mutex (cell_start kept_mutex (padded_value m).cell)
opens (AShared m) = all.Shared (cell_start shared_of (padded_value m).cell)
opens (ASemaphore q) = all.Semaphore (cell_start kept_sync (padded_value q).cell)
opens (ALatch l) = all.Latch (cell_start kept_sync (padded_value l).cell)
opens (ABarrier b) = all.Barrier (cell_start kept_barrier (padded_value b).cell)
opens (AOnce f) = all.Once (cell_start kept_sync (padded_value f).cell)

-- the thread's token has seen so much of the object
abbrev pub saw : Access → Sight
saw (accesses.Mutex s) = Sees IsMutexToken (λ k. k.pass.share) (λ x. cell_start kept_mutex x.cell) all.Mutex (padded_value (arc_value s.object)) s.token
saw (accesses.Recursive s) = Sees IsLevelToken (λ k. k.pass.share) (λ x. cell_start kept_mutex x.cell) all.Mutex (padded_value (arc_value s.object)) s.token
saw (accesses.SharedMutex s) = Sees IsSharedToken (λ k. k.pass.share) (λ x. cell_start shared_of x.cell) all.Shared (padded_value (arc_value s.object)) s.token
saw (accesses.Semaphore s) = Sees IsSemaphorePassWith (λ k. k.share) (λ x. cell_start kept_sync x.cell) all.Semaphore (padded_value (arc_value s.object)) s.token
saw (accesses.Latch s) = Sees IsLatchPassWith (λ k. k.share) (λ x. cell_start kept_sync x.cell) all.Latch (padded_value (arc_value s.object)) s.token
saw (accesses.Barrier s) = Sees IsBarrierToken (λ k. k.pass.pass.share) (λ x. cell_start kept_barrier x.cell) all.Barrier (padded_value (arc_value s.object)) s.token
saw (accesses.Once s) = Sees IsOnceToken (λ k. k.pass.share) (λ x. cell_start kept_sync x.cell) all.Once (padded_value (arc_value s.object)) s.token

-- the thread's part of what the object shares out
abbrev pub share_of : Access → ℕ
share_of (accesses.Mutex s) = s.token.pass.share
share_of (accesses.Recursive s) = s.token.pass.share
share_of (accesses.SharedMutex s) = s.token.pass.share
share_of (accesses.Semaphore s) = s.token.share
share_of (accesses.Latch s) = s.token.share
share_of (accesses.Barrier s) = s.token.pass.pass.share
share_of (accesses.Once s) = s.token.pass.share

-- the access has seen so much
abbrev pub Knows : Access → Sight
Knows a V = IsSight (saw a) (opens (object_of a)) (share_of a) V

-- what its thread holds of the object, as it remembers it
abbrev pub kept_of : Access → Kept
kept_of (accesses.Mutex s) = kept_by s.token.hold
kept_of (accesses.Recursive s) = levelled s.token.levels.count
kept_of (accesses.SharedMutex s) = kept_shared s.token.owned
kept_of (accesses.Semaphore s) = nothing
kept_of (accesses.Latch s) = nothing
kept_of (accesses.Barrier s) = nothing
kept_of (accesses.Once s) = nothing

-- whether its thread has begun what others wait for
abbrev pub begun_of : Access → Bool
begun_of (accesses.Mutex s) = false
begun_of (accesses.Recursive s) = false
begun_of (accesses.SharedMutex s) = false
begun_of (accesses.Semaphore s) = false
begun_of (accesses.Latch s) = false
begun_of (accesses.Barrier s) = is_some s.token.completing
begun_of (accesses.Once s) = is_some s.token.active

-- with this share, this may be asked with it
abbrev pub Serves : Access → ℕ → Ask → Type 0
Serves (accesses.Mutex s) share k = asks_mutex (kept_by s.token.hold).levels k.change k.look k.a k.b
Serves (accesses.Recursive s) share k = asks_recursive s.token.levels.count k.change k.look k.a k.b
Serves (accesses.SharedMutex s) share k = asks_shared (kept_shared s.token.owned).levels (kept_shared s.token.owned).reads k.change k.look k.a k.b
Serves (accesses.Semaphore s) share k = asks_semaphore k.change k.look k.a k.b
Serves (accesses.Latch s) share k = asks_latch share k.change k.look k.a k.b
Serves (accesses.Barrier s) share k = asks_barrier k.change k.look k.a k.b
Serves (accesses.Once s) share k = asks_once k.change k.look k.a k.b

-- an object of a kind that is made, with its numbers in their ranges
abbrev pub is_made : Object → Bool
is_made (objects.Mutex numbers) = nat_le numbers 8
is_made objects.Recursive = true
is_made objects.Shared = true
is_made (objects.Semaphore count max) = nat_le count max && nat_le 1 max && nat_le max 65535
is_made (objects.Latch count) = nat_le count 65535
is_made (objects.Barrier count small) = nat_le 1 count && nat_le count 4096
is_made objects.Once = true
is_made _ = false
