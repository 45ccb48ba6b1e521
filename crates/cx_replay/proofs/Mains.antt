-- Only main starts threads: a call that starts one fits main alone.
use Rattle.std.proofs.Common.{◌≡◌, ℕ, zero, suc, ◌==◌, true, false, List, [], ◌∷◌, Option, Some, None, slice_get, refl, arith}
use Rattle.std.proofs.lemmas.Bool.{and_parts, ne_eqb}
use Rattle.cx_script.proofs.Scenes.{script_is_scene}
use Rattle.std.specs.List.{list_all, list_any}
use Rattle.cx_scene.specs.declared.declared.Object.{Object}
use Rattle.cx_scene.specs.declared.declared.Object.TheVariants as objects
use Rattle.cx_scene.specs.declared.call.Call.{Call}
use Rattle.cx_scene.specs.declared.call.Call.TheVariants as calls
use Rattle.cx_scene.specs.Scene.{Scene, body_of}
use Rattle.cx_text.specs.declared.form.Sort.TheVariants as sorts
use Rattle.cx_script.specs.Script.{Script}
use Rattle.cx_script.specs.Numbered.{numbered, IsScript}
use Rattle.cx_script.specs.WellFormed.{object_fits, fits_call, IsScene}
use Rattle.cx_replay.specs.Starting.{starts_a_thread, OnlyMainStarts}

not_zero : (n : ℕ) → (suc n == 0) ≡ false
not_zero n = ne_eqb (suc n) 0 (λ e. omega (arith, e))

-- no object may be launched by another thread than main
not_launched : (n : ℕ) (x : Option Object) → object_fits (suc n) sorts.Launched x ≡ false
not_launched n None = refl
not_launched n (Some (objects.Mutex numbers)) = refl
not_launched n (Some objects.Recursive) = refl
not_launched n (Some objects.Shared) = refl
not_launched n (Some (objects.Semaphore count max)) = refl
not_launched n (Some (objects.Latch count)) = refl
not_launched n (Some (objects.Barrier count small)) = refl
not_launched n (Some objects.Once) = refl
not_launched n (Some objects.Condition) = refl
not_launched n (Some (objects.Stop holders)) = refl
not_launched n (Some objects.StopOfThread) = refl
not_launched n (Some (objects.Promise owner reader)) = refl
not_launched n (Some (objects.SharedPromise owner readers)) = refl
not_launched n (Some (objects.Task owner reader function)) = refl
not_launched n (Some (objects.Async policy function thread)) = not_zero n

main_starts : (s : Scene) (n : ℕ) (c : Call) → fits_call s (suc n) c ≡ true → starts_a_thread c ≡ false
main_starts s n (calls.Lock x0) fits = refl
main_starts s n (calls.LockRecursive x0) fits = refl
main_starts s n (calls.LockShared x0) fits = refl
main_starts s n (calls.TryLock x0) fits = refl
main_starts s n (calls.TryLockRecursive x0) fits = refl
main_starts s n (calls.TryLockShared x0) fits = refl
main_starts s n (calls.Unlock x0) fits = refl
main_starts s n (calls.UnlockShared x0) fits = refl
main_starts s n (calls.Get x0 x1) fits = refl
main_starts s n (calls.Set x0 x1 x2) fits = refl
main_starts s n (calls.Add x0 x1 x2) fits = refl
main_starts s n (calls.LockAll x0) fits = refl
main_starts s n (calls.TryLockAll x0) fits = refl
main_starts s n (calls.Release x0 x1) fits = refl
main_starts s n (calls.Acquire x0) fits = refl
main_starts s n (calls.TryAcquire x0) fits = refl
main_starts s n (calls.CountDown x0 x1) fits = refl
main_starts s n (calls.WaitLatch x0) fits = refl
main_starts s n (calls.TryWait x0) fits = refl
main_starts s n (calls.ArriveAndWaitLatch x0) fits = refl
main_starts s n (calls.Arrive x0 x1) fits = refl
main_starts s n (calls.WaitBarrier x0) fits = refl
main_starts s n (calls.ArriveAndWait x0) fits = refl
main_starts s n (calls.ArriveAndDrop x0) fits = refl
main_starts s n (calls.CallOnceReturn x0) fits = refl
main_starts s n (calls.CallOnceThrow x0 x1) fits = refl
main_starts s n (calls.WaitCondition x0 x1) fits = refl
main_starts s n (calls.WaitPredicate x0 x1 x2) fits = refl
main_starts s n (calls.WaitStop x0 x1 x2 x3) fits = refl
main_starts s n (calls.NotifyOne x0) fits = refl
main_starts s n (calls.NotifyAll x0) fits = refl
main_starts s n (calls.RequestStop x0) fits = refl
main_starts s n (calls.StopRequested x0) fits = refl
main_starts s n (calls.StopPossible x0) fits = refl
main_starts s n (calls.Another x0) fits = refl
main_starts s n (calls.DropSource x0) fits = refl
main_starts s n (calls.Register x0) fits = refl
main_starts s n (calls.Deregister x0) fits = refl
main_starts s n (calls.SetValue x0 x1) fits = refl
main_starts s n (calls.SetException x0 x1) fits = refl
main_starts s n (calls.Invoke x0) fits = refl
main_starts s n (calls.DropPromise x0) fits = refl
main_starts s n (calls.GetFuture x0) fits = refl
main_starts s n (calls.Share x0) fits = refl
main_starts s n (calls.WaitFuture x0) fits = refl
main_starts s n (calls.GetOutcome x0) fits = refl
main_starts s n (calls.DropAsync x0) fits = refl
main_starts s n (calls.Start x0) fits = let bad : false ≡ true = rw (not_zero n) at fits in cc
main_starts s n (calls.Join x0) fits = refl
main_starts s n (calls.Launch x0) fits = let bad : false ≡ true = rw (not_launched n (slice_get s.objects x0.0)) at fits in cc

all_start_none : (s : Scene) (n : ℕ) (cs : List Call) → list_all (fits_call s (suc n)) cs ≡ true → list_any starts_a_thread cs ≡ false
all_start_none s n [] fits = refl
all_start_none s n (c ∷ cs) fits =
    let p = and_parts (fits_call s (suc n) c) (list_all (fits_call s (suc n)) cs) fits in
    rw (main_starts s n c p.0, all_start_none s n cs p.1) refl

only_main_starts : (s : Scene) → IsScene s → OnlyMainStarts s
only_main_starts s fits zero lt = absurd (omega (arith, lt))
only_main_starts s fits (suc n) lt = all_start_none s n (body_of s (suc n)) (fits.calls (suc n))

-- in a scenario that a text means main alone starts threads
pub script_starts : (s : Script) → IsScript s → OnlyMainStarts (numbered s)
script_starts s is = only_main_starts (numbered s) (script_is_scene s is)
