-- What holds of each element of a list holds of the one at a place.
use Rattle.std.proofs.Common.{◌≡◌, ◌<◌, ℕ, zero, suc, ◌&&◌, Bool, true, false, List, [], ◌∷◌, Some, length, map, get_or, slice_get, refl, ap, ◌∙◌, subst, arith}
use Rattle.std.specs.Global.{Vec}
use Rattle.std.specs.List.{list_all}
use Rattle.cx_scene.specs.declared.call.Call.{Call}
use Rattle.cx_scene.specs.declared.call.Call.TheVariants as calls
use Rattle.cx_scene.specs.Scene.{Scene, body_of}
use Rattle.cx_asks.specs.Scenes.{IsAskable, is_fit}
use Rattle.cx_work.specs.RunNow.{is_call_now}

both : (a b : Bool) → (a && b) ≡ true → (a ≡ true) × (b ≡ true)
both true b h = (refl, h)
both false b h = cc

pub all_here : {A : Type 0} (p : A → Bool) (xs : List A) (i : ℕ) (d : A) → list_all p xs ≡ true → i < length xs → p (get_or xs i d) ≡ true
all_here p [] i d h low = absurd (omega (arith, low))
all_here p (x ∷ xs) zero d h low = (both (p x) (list_all p xs) h).0
all_here p (x ∷ xs) (suc i) d h low = all_here p xs i d (both (p x) (list_all p xs) h).1 (omega (arith, low))

pub all_of_mapped : {A B : Type 0} (f : A → B) (p : B → Bool) (xs : List A) (i : ℕ) (d : A) → list_all p (map f xs) ≡ true → i < length xs → p (f (get_or xs i d)) ≡ true
all_of_mapped f p [] i d h low = absurd (omega (arith, low))
all_of_mapped f p (x ∷ xs) zero d h low = (both (p (f x)) (list_all p (map f xs)) h).0
all_of_mapped f p (x ∷ xs) (suc i) d h low = all_of_mapped f p xs i d (both (p (f x)) (list_all p (map f xs)) h).1 (omega (arith, low))

-- the same of the elements of the list at a place
pub all_inside : {A : Type 0} (p : A → Bool) (rows : List (Vec A)) (i : ℕ) (row : Vec A) (xs : List A) → list_all (λ ys. list_all p ys) (map (λ (r : Vec A). r.items) rows) ≡ true → i < length rows → row ≡ get_or rows i row → xs ≡ row.items → list_all p xs ≡ true
all_inside {A} p rows i row xs h low is same =
    let here : list_all p (get_or rows i row).items ≡ true = all_of_mapped (λ (r : Vec A). r.items) (λ ys. list_all p ys) rows i row h low in
    ap (list_all p) (same ∙ ap (λ (r : Vec A). r.items) is) ∙ here

-- ---- calls of a scenario that asks what is served

all_as : {A : Type 0} (p q : A → Bool) (xs : List A) → ((x : A) → p x ≡ true → q x ≡ true) → list_all p xs ≡ true → list_all q xs ≡ true
all_as p q [] as_ h = refl
all_as p q (x ∷ xs) as_ h =
    let parts = both (p x) (list_all p xs) h in
    let first = as_ x parts.0 in
    let rest = all_as p q xs as_ parts.1 in
    rw (first, rest) refl

all_by : {A : Type 0} (p : A → Bool) (xs : List A) → ((i : ℕ) (x : A) → slice_get xs i ≡ Some x → p x ≡ true) → list_all p xs ≡ true
all_by p [] each = refl
all_by p (x ∷ xs) each =
    let first = each 0 x refl in
    let rest = all_by p xs (λ i. each (suc i)) in
    rw (first, rest) refl

fit_is_now : (s : Scene) (t : ℕ) (c : Call) → is_fit s t c ≡ true → is_call_now c ≡ true
fit_is_now s t (calls.Lock o) h = refl
fit_is_now s t (calls.LockRecursive o) h = refl
fit_is_now s t (calls.TryLock o) h = refl
fit_is_now s t (calls.TryLockRecursive o) h = refl
fit_is_now s t (calls.Unlock o) h = refl
fit_is_now s t (calls.LockAll os) h = refl
fit_is_now s t (calls.TryLockAll os) h = refl
fit_is_now s t (calls.Release q n) h = refl
fit_is_now s t (calls.Acquire q) h = refl
fit_is_now s t (calls.TryAcquire q) h = refl
fit_is_now s t (calls.CountDown l n) h = refl
fit_is_now s t (calls.WaitLatch l) h = refl
fit_is_now s t (calls.TryWait l) h = refl
fit_is_now s t (calls.ArriveAndWaitLatch l) h = refl
fit_is_now s t (calls.LockShared o) h = refl
fit_is_now s t (calls.TryLockShared o) h = refl
fit_is_now s t (calls.UnlockShared o) h = refl
fit_is_now s t (calls.CallOnceReturn o) h = refl
fit_is_now s t (calls.CallOnceThrow o n) h = refl
fit_is_now s t (calls.Arrive b n) h = refl
fit_is_now s t (calls.WaitBarrier b) h = refl
fit_is_now s t (calls.ArriveAndWait b) h = refl
fit_is_now s t (calls.ArriveAndDrop b) h = refl
fit_is_now s t (calls.Start u) h = refl
fit_is_now s t (calls.Join u) h = refl
fit_is_now s t _ h = cc h

body_at : (s : Scene) (i : ℕ) (b : List Call) → slice_get s.bodies i ≡ Some b → body_of s i ≡ b
body_at s i b e = rw e refl

pub fit_calls : (s : Scene) → IsAskable s → list_all (λ calls. list_all is_call_now calls) s.bodies ≡ true
fit_calls s asks = all_by (λ calls. list_all is_call_now calls) s.bodies (λ i b at_b. all_as (is_fit s i) is_call_now b (fit_is_now s i) (subst (λ (cs : List Call). list_all (is_fit s i) cs ≡ true) (body_at s i b at_b) (asks.calls i)))
