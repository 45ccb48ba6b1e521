-- What an object of a declaration may be asked is what its access serves.
use Rattle.std.proofs.Common.{◌≡◌, ℕ, sym, ap, subst}
use Rattle.cx_scene.specs.declared.declared.Object.{Object}
use Rattle.cx_scene.specs.declared.declared.Object.TheVariants as objects
use Rattle.cx_scene.specs.Scene.{kind_of}
use Rattle.cx_items.specs.declared.kept.Kept.{Kept}
use Rattle.cx_asks.specs.declared.ask.Ask.{Ask}
use Rattle.cx_asks.specs.Asks.{serves, asks_mutex, asks_recursive, asks_shared}
use Rattle.cx_kinds.specs.Holding.{in_hand}
use Rattle.cx_kinds.specs.Accesses.{object_of, IsOf, kept_of, Serves}
use Rattle.cx_kinds.specs.declared.access.Access.{Access}
use Rattle.cx_kinds.specs.declared.access.Access.TheVariants as accesses

pub serves_here : (d : Object) (a : Access) → IsOf d (object_of a) → (k : Kept) → kept_of a ≡ in_hand k → (share : ℕ) (ask : Ask) → serves (kind_of d) k share ask → Serves a share ask
serves_here (objects.Mutex numbers) (accesses.Mutex s) is k e share ask may = subst (λ n. asks_mutex n ask.change ask.look ask.a ask.b) (sym (ap (λ (h : Kept). h.levels) e)) may
serves_here objects.Recursive (accesses.Recursive s) is k e share ask may = subst (λ n. asks_recursive n ask.change ask.look ask.a ask.b) (sym (ap (λ (h : Kept). h.levels) e)) may
serves_here objects.Shared (accesses.SharedMutex s) is k e share ask may = subst (λ (h : Kept). asks_shared h.levels h.reads ask.change ask.look ask.a ask.b) (sym e) may
serves_here (objects.Semaphore count max) (accesses.Semaphore s) is k e share ask may = may
serves_here (objects.Latch count) (accesses.Latch s) is k e share ask may = may
serves_here (objects.Barrier count small) (accesses.Barrier s) is k e share ask may = may
serves_here objects.Once (accesses.Once s) is k e share ask may = may
serves_here _ (accesses.Mutex s) is k e share ask may = absurd is
serves_here _ (accesses.Recursive s) is k e share ask may = absurd is
serves_here _ (accesses.SharedMutex s) is k e share ask may = absurd is
serves_here _ (accesses.Semaphore s) is k e share ask may = absurd is
serves_here _ (accesses.Latch s) is k e share ask may = absurd is
serves_here _ (accesses.Barrier s) is k e share ask may = absurd is
serves_here _ (accesses.Once s) is k e share ask may = absurd is
