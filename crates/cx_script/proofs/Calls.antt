-- The line of a call says that call.
use Rattle.std.proofs.Common.{◌≡◌, ℕ, zero, suc, ◌<◌, true, false, List, [], ◌∷◌, length, map, Option, Some, refl, ap, arith}
use Rattle.std.specs.List.{AllByRecursion}
use Rattle.std.specs.Str.{bytes_eq}
use Rattle.cx_names.specs.declared.ThreadNo.{ThreadNo}
use Rattle.cx_names.specs.declared.ObjectNo.{ObjectNo}
use Rattle.cx_names.specs.declared.CallbackNo.{CallbackNo}
use Rattle.cx_scene.specs.declared.call.Call.{Call}
use Rattle.cx_scene.specs.declared.call.Call.TheVariants as calls
use Rattle.cx_scene.specs.declared.call.Relation.{Relation}
use Rattle.cx_scene.specs.declared.call.Relation.TheVariants as relations
use Rattle.cx_text.specs.declared.form.Made.{Made}
use Rattle.cx_script.specs.Earlier.{word_in}
use Rattle.cx_script.specs.Script.{Names, place_in, name_at, object, relation_of, relation_word, call_of, line_of_call, if_recursive, waits_on, meets_at, drops_of}

-- ---- names that are found again

-- no name of a list stands in it twice
abbrev pub AreApart : List (List ℕ) → Type 0
AreApart [] = Unit {0}
AreApart (n ∷ ns) = ((i : ℕ) → i < length ns → bytes_eq n (name_at ns i) ≡ false) × (bytes_eq n n ≡ true) × AreApart ns

pub place_back : (ns : List (List ℕ)) (i : ℕ) → AreApart ns → i < length ns → place_in ns (name_at ns i) ≡ i
place_back [] i h lt = absurd (omega arith)
place_back (n ∷ ns) zero h lt = rw h.1 refl
place_back (n ∷ ns) (suc i) h lt = rw (h.0 i (omega arith)) (ap suc (place_back ns i h.2 (omega arith)))

abbrev pub IsObject : Names → ObjectNo → Type 0
IsObject names o = place_in names.objects (name_at names.objects o.0) ≡ o.0

abbrev pub IsThread : Names → ThreadNo → Type 0
IsThread names t = place_in names.threads (name_at names.threads t.0) ≡ t.0

abbrev pub IsCallback : Names → CallbackNo → Type 0
IsCallback names c = place_in names.callbacks (name_at names.callbacks c.0) ≡ c.0

relation_back : (r : Relation) → relation_of (relation_word r) ≡ r
relation_back relations.Less = refl
relation_back relations.AtMost = refl
relation_back relations.Equal = refl
relation_back relations.Unequal = refl
relation_back relations.AtLeast = refl
relation_back relations.Greater = refl

all_back : (names : Names) (os : List ℕ) → AllByRecursion (λ i. place_in names.objects (name_at names.objects i) ≡ i) os
    → map (place_in names.objects) (map (λ v. word_in (Some v)) (map (λ o. object names (record { 0 = o })) os)) ≡ os
all_back names [] h = refl
all_back names (o ∷ os) h = rw h.0 (ap (λ (t : List ℕ). o ∷ t) (all_back names os h.1))

-- what a call names is there, and its subject is of the kind that the call is for
abbrev pub IsNamed : Names → Option Made → Call → Type 0
IsNamed names k (calls.Lock o0) = IsObject names o0 × ((x y : Call) → if_recursive k x y ≡ y)
IsNamed names k (calls.LockShared o0) = IsObject names o0
IsNamed names k (calls.TryLock o0) = IsObject names o0 × ((x y : Call) → if_recursive k x y ≡ y)
IsNamed names k (calls.TryLockShared o0) = IsObject names o0
IsNamed names k (calls.Unlock o0) = IsObject names o0
IsNamed names k (calls.UnlockShared o0) = IsObject names o0
IsNamed names k (calls.Get o0 n1) = IsObject names o0
IsNamed names k (calls.Set o0 n1 v2) = IsObject names o0
IsNamed names k (calls.Add o0 n1 v2) = IsObject names o0
IsNamed names k (calls.LockAll os) = AllByRecursion (λ i. place_in names.objects (name_at names.objects i) ≡ i) os
IsNamed names k (calls.TryLockAll os) = AllByRecursion (λ i. place_in names.objects (name_at names.objects i) ≡ i) os
IsNamed names k (calls.Release o0 n1) = IsObject names o0
IsNamed names k (calls.Acquire o0) = IsObject names o0
IsNamed names k (calls.TryAcquire o0) = IsObject names o0
IsNamed names k (calls.CountDown o0 n1) = IsObject names o0
IsNamed names k (calls.WaitFuture o0) = IsObject names o0 × ((o : ObjectNo) → waits_on k o ≡ calls.WaitFuture o)
IsNamed names k (calls.TryWait o0) = IsObject names o0
IsNamed names k (calls.ArriveAndWait o0) = IsObject names o0 × ((o : ObjectNo) → meets_at k o ≡ calls.ArriveAndWait o)
IsNamed names k (calls.Arrive o0 n1) = IsObject names o0
IsNamed names k (calls.ArriveAndDrop o0) = IsObject names o0
IsNamed names k (calls.CallOnceReturn o0) = IsObject names o0
IsNamed names k (calls.CallOnceThrow o0 n1) = IsObject names o0
IsNamed names k (calls.WaitCondition o0 o1) = IsObject names o0 × IsObject names o1
IsNamed names k (calls.WaitPredicate o0 o1 p) = IsObject names o0 × IsObject names o1
IsNamed names k (calls.WaitStop o0 o1 o2 p) = IsObject names o0 × IsObject names o1 × IsObject names o2
IsNamed names k (calls.NotifyOne o0) = IsObject names o0
IsNamed names k (calls.NotifyAll o0) = IsObject names o0
IsNamed names k (calls.RequestStop o0) = IsObject names o0
IsNamed names k (calls.StopRequested o0) = IsObject names o0
IsNamed names k (calls.StopPossible o0) = IsObject names o0
IsNamed names k (calls.Another o0) = IsObject names o0
IsNamed names k (calls.DropPromise o0) = IsObject names o0 × ((o : ObjectNo) → drops_of k o ≡ calls.DropPromise o)
IsNamed names k (calls.Register c0) = IsCallback names c0
IsNamed names k (calls.Deregister c0) = IsCallback names c0
IsNamed names k (calls.SetValue o0 v1) = IsObject names o0
IsNamed names k (calls.SetException o0 n1) = IsObject names o0
IsNamed names k (calls.Invoke o0) = IsObject names o0
IsNamed names k (calls.GetFuture o0) = IsObject names o0
IsNamed names k (calls.Share o0) = IsObject names o0
IsNamed names k (calls.GetOutcome o0) = IsObject names o0
IsNamed names k (calls.Start t0) = IsThread names t0
IsNamed names k (calls.Join t0) = IsThread names t0
IsNamed names k (calls.Launch o0) = IsObject names o0
IsNamed names k (calls.LockRecursive o0) = IsObject names o0 × ((x y : Call) → if_recursive k x y ≡ x)
IsNamed names k (calls.TryLockRecursive o0) = IsObject names o0 × ((x y : Call) → if_recursive k x y ≡ x)
IsNamed names k (calls.WaitLatch o0) = IsObject names o0 × ((o : ObjectNo) → waits_on k o ≡ calls.WaitLatch o)
IsNamed names k (calls.WaitBarrier o0) = IsObject names o0 × ((o : ObjectNo) → waits_on k o ≡ calls.WaitBarrier o)
IsNamed names k (calls.ArriveAndWaitLatch o0) = IsObject names o0 × ((o : ObjectNo) → meets_at k o ≡ calls.ArriveAndWaitLatch o)
IsNamed names k (calls.DropSource o0) = IsObject names o0 × ((o : ObjectNo) → drops_of k o ≡ calls.DropSource o)
IsNamed names k (calls.DropAsync o0) = IsObject names o0 × ((o : ObjectNo) → drops_of k o ≡ calls.DropAsync o)

pub call_back : (names : Names) (k : Option Made) (c : Call) → IsNamed names k c → call_of names k (line_of_call names c) (line_of_call names c).form ≡ Some c
call_back names k (calls.Lock o0) h = rw (h.0, h.1 (calls.LockRecursive o0) (calls.Lock o0)) refl
call_back names k (calls.LockShared o0) h = rw (h) refl
call_back names k (calls.TryLock o0) h = rw (h.0, h.1 (calls.TryLockRecursive o0) (calls.TryLock o0)) refl
call_back names k (calls.TryLockShared o0) h = rw (h) refl
call_back names k (calls.Unlock o0) h = rw (h) refl
call_back names k (calls.UnlockShared o0) h = rw (h) refl
call_back names k (calls.Get o0 n1) h = rw (h) refl
call_back names k (calls.Set o0 n1 v2) h = rw (h) refl
call_back names k (calls.Add o0 n1 v2) h = rw (h) refl
call_back names k (calls.LockAll os) h = rw (all_back names os h) refl
call_back names k (calls.TryLockAll os) h = rw (all_back names os h) refl
call_back names k (calls.Release o0 n1) h = rw (h) refl
call_back names k (calls.Acquire o0) h = rw (h) refl
call_back names k (calls.TryAcquire o0) h = rw (h) refl
call_back names k (calls.CountDown o0 n1) h = rw (h) refl
call_back names k (calls.WaitFuture o0) h = rw (h.0, h.1 o0) refl
call_back names k (calls.TryWait o0) h = rw (h) refl
call_back names k (calls.ArriveAndWait o0) h = rw (h.0, h.1 o0) refl
call_back names k (calls.Arrive o0 n1) h = rw (h) refl
call_back names k (calls.ArriveAndDrop o0) h = rw (h) refl
call_back names k (calls.CallOnceReturn o0) h = rw (h) refl
call_back names k (calls.CallOnceThrow o0 n1) h = rw (h) refl
call_back names k (calls.WaitCondition o0 o1) h = rw (h.0, h.1) refl
call_back names k (calls.WaitPredicate o0 o1 p) h = rw (h.0, h.1, relation_back p.relation) refl
call_back names k (calls.WaitStop o0 o1 o2 p) h = rw (h.0, h.1, h.2, relation_back p.relation) refl
call_back names k (calls.NotifyOne o0) h = rw (h) refl
call_back names k (calls.NotifyAll o0) h = rw (h) refl
call_back names k (calls.RequestStop o0) h = rw (h) refl
call_back names k (calls.StopRequested o0) h = rw (h) refl
call_back names k (calls.StopPossible o0) h = rw (h) refl
call_back names k (calls.Another o0) h = rw (h) refl
call_back names k (calls.DropPromise o0) h = rw (h.0, h.1 o0) refl
call_back names k (calls.Register c0) h = rw (h) refl
call_back names k (calls.Deregister c0) h = rw (h) refl
call_back names k (calls.SetValue o0 v1) h = rw (h) refl
call_back names k (calls.SetException o0 n1) h = rw (h) refl
call_back names k (calls.Invoke o0) h = rw (h) refl
call_back names k (calls.GetFuture o0) h = rw (h) refl
call_back names k (calls.Share o0) h = rw (h) refl
call_back names k (calls.GetOutcome o0) h = rw (h) refl
call_back names k (calls.Start t0) h = rw (h) refl
call_back names k (calls.Join t0) h = rw (h) refl
call_back names k (calls.Launch o0) h = rw (h) refl
call_back names k (calls.LockRecursive o0) h = rw (h.0, h.1 (calls.LockRecursive o0) (calls.Lock o0)) refl
call_back names k (calls.TryLockRecursive o0) h = rw (h.0, h.1 (calls.TryLockRecursive o0) (calls.TryLock o0)) refl
call_back names k (calls.WaitLatch o0) h = rw (h.0, h.1 o0) refl
call_back names k (calls.WaitBarrier o0) h = rw (h.0, h.1 o0) refl
call_back names k (calls.ArriveAndWaitLatch o0) h = rw (h.0, h.1 o0) refl
call_back names k (calls.DropSource o0) h = rw (h.0, h.1 o0) refl
call_back names k (calls.DropAsync o0) h = rw (h.0, h.1 o0) refl
