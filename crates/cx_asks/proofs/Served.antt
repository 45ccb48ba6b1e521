-- The forms of each call are those of an ask that is served.
use Rattle.std.proofs.Common.{◌≡◌, ℕ, suc, ◌<◌, ◌≤◌, pos, Bool, true, false, List, [], ◌∷◌, length, Option, Some, None, slice_get, refl, sym, subst, arith}
use Rattle.std.proofs.lemmas.Option.{slice_get_within}
use Rattle.cx_names.specs.declared.ObjectNo.{ObjectNo}
use Rattle.cx_names.specs.declared.Reply.{Reply}
use Rattle.cx_names.specs.declared.Reply.TheVariants as replies
use Rattle.cx_names.specs.Replies.{reply_eq}
use Rattle.cx_names.proofs.Equal.{replies_are_equal}
use Rattle.cx_machine.specs.declared.kind.Op.{Op}
use Rattle.cx_machine.specs.declared.kind.Op.TheVariants as ops
use Rattle.cx_scene.specs.declared.declared.Object.{Object}
use Rattle.cx_scene.specs.declared.declared.Object.TheVariants as objects
use Rattle.cx_scene.specs.Scene.{Scene, kind_of}
use Rattle.cx_items.specs.declared.form.Form.{Form}
use Rattle.cx_items.specs.declared.form.Form.TheVariants.{Change, Look}
use Rattle.cx_items.specs.Form.{change, look}
use Rattle.cx_items.specs.Memory.{Memory, of}
use Rattle.cx_asks.specs.declared.ask.Ask.{Ask}
use Rattle.cx_asks.specs.Asks.{asks_mutex, asks_recursive, asks_shared, serves}
use Rattle.cx_asks.specs.Forms.{change_alone, look_alone, either_of, asked_forms}
use Rattle.cx_asks.specs.Scenes.{is_plain, is_recursive, is_shared, is_lockable, is_semaphore, is_latch}
use Rattle.cx_asks.specs.Offers.{takes, IsServed, names_nobody}
use Rattle.cx_asks.proofs.Forms.{form_after, is_word_of}
use Rattle.cx_asks.proofs.Kept.{levels, reads, acted, gains_lock, gains_try, loses_unlock, keeps_same, IsKept, kept_gains, kept_loses, kept_keeps}

-- ---- what is declared

pub plain_there : (d : Option Object) → is_plain d ≡ true → (numbers : ℕ) × (d ≡ Some (objects.Mutex numbers))
plain_there (Some (objects.Mutex numbers)) h = (numbers, refl)
plain_there _ h = cc

recursive_there : (d : Option Object) → is_recursive d ≡ true → d ≡ Some objects.Recursive
recursive_there (Some objects.Recursive) h = refl
recursive_there _ h = cc

semaphore_there : (d : Option Object) → is_semaphore d ≡ true → (count : ℕ) × (max : ℕ) × (d ≡ Some (objects.Semaphore count max))
semaphore_there (Some (objects.Semaphore count max)) h = (count, max, refl)
semaphore_there _ h = cc

latch_there : (d : Option Object) → is_latch d ≡ true → (count : ℕ) × (d ≡ Some (objects.Latch count))
latch_there (Some (objects.Latch count)) h = (count, refl)
latch_there _ h = cc

pub plain_lockable : (d : Option Object) → is_plain d ≡ true → is_lockable d ≡ true
plain_lockable (Some (objects.Mutex numbers)) h = refl
plain_lockable _ h = cc

recursive_lockable : (d : Option Object) → is_recursive d ≡ true → is_lockable d ≡ true
recursive_lockable (Some objects.Recursive) h = refl
recursive_lockable _ h = cc

-- ---- what a form leaves

-- a change or a look
abbrev pub is_act : Form → Bool
is_act (Change o op a b w) = true
is_act (Look o op a b w) = true
is_act _ = false

-- an item of the form, which is a change or a look, leaves the thread with what it may keep, and its reply names no thread
pub record IsSound (s : Scene) (m : Memory) (f : Form) : Type 0 where
  pub act : is_act f ≡ true
  pub keeps : IsKept s m → IsKept s (form_after s f m)
  pub nobody : (r : Reply) → is_word_of f r ≡ true → names_nobody r ≡ true

abbrev pub AllSound : Scene → Memory → List Form → Type 0
AllSound s m [] = Unit {0}
AllSound s m (f ∷ fs) = IsSound s m f × AllSound s m fs

-- an ask that is served, of which each form is sound
pub record Offered (s : Scene) (m : Memory) (fs : List Form) : Type 0 where
  pub served : IsServed s m fs
  pub sound : AllSound s m fs

pub nobody_is : (q r : Reply) → names_nobody q ≡ true → reply_eq q r ≡ true → names_nobody r ≡ true
nobody_is q r h e = subst (λ (x : Reply). names_nobody x ≡ true) ((replies_are_equal q r).0 e) h

is_there : (s : Scene) (m : Memory) (o : ObjectNo) (d : Object) → slice_get s.objects o.0 ≡ Some d → IsKept s m → o.0 < length m.kept
is_there s m o d h k = let under = slice_get_within s.objects o.0 d h in let count = k.count in omega (arith, under, count)

pub shared_lockable : (d : Option Object) → is_shared d ≡ true → is_lockable d ≡ true
shared_lockable (Some objects.Shared) h = refl
shared_lockable _ h = cc

lockable_within : (s : Scene) (o : ObjectNo) (d : Option Object) → slice_get s.objects o.0 ≡ d → is_lockable d ≡ true → o.0 < length s.objects
lockable_within s o None e h = cc
lockable_within s o (Some d) e h = slice_get_within s.objects o.0 d e

pub kept_within : (s : Scene) (m : Memory) (o : ObjectNo) → is_lockable (slice_get s.objects o.0) ≡ true → IsKept s m → o.0 < length m.kept
kept_within s m o h k = let under = lockable_within s o (slice_get s.objects o.0) refl h in let count = k.count in omega (arith, under, count)

module _ (s : Scene) (m : Memory) (o : ObjectNo) where
  pub sound_lock : is_lockable (slice_get s.objects o.0) ≡ true → IsSound s m (change o ops.Lock 0 replies.Ok)
  sound_lock h = record { act = refl; keeps = λ k. kept_gains s m (acted m o ops.Lock) o.0 (gains_lock m o (kept_within s m o h k)) h k; nobody = λ r e. nobody_is replies.Ok r refl e }

  pub sound_try : is_lockable (slice_get s.objects o.0) ≡ true → IsSound s m (change o ops.TryLock 0 replies.True)
  sound_try h = record { act = refl; keeps = λ k. kept_gains s m (acted m o ops.TryLock) o.0 (gains_try m o (kept_within s m o h k)) h k; nobody = λ r e. nobody_is replies.True r refl e }

  pub sound_unlock : is_lockable (slice_get s.objects o.0) ≡ true → IsSound s m (change o ops.Unlock 0 replies.Ok)
  sound_unlock h = record { act = refl; keeps = λ k. kept_loses s m (acted m o ops.Unlock) o.0 (loses_unlock m o (kept_within s m o h k)) k; nobody = λ r e. nobody_is replies.Ok r refl e }

  pub sound_look : (op : Op) (a : ℕ) (q : Reply) → names_nobody q ≡ true → IsSound s m (look o op a q)
  sound_look op a q h = record { act = refl; keeps = λ k. k; nobody = λ r e. nobody_is q r h e }

  -- a change that leaves the thread with what it may keep
  pub sound_change : (op : Op) (a : ℕ) (q : Reply) → names_nobody q ≡ true → (IsKept s m → IsKept s (form_after s (change o op a q) m)) → IsSound s m (change o op a q)
  sound_change op a q h keeps = record { act = refl; keeps = keeps; nobody = λ r e. nobody_is q r h e }

  sound_release : (n : ℕ) → IsSound s m (change o ops.Release n replies.Ok)
  sound_release n = record { act = refl; keeps = λ k. kept_keeps s m (acted m o ops.Release) (keeps_same m o) k; nobody = λ r e. nobody_is replies.Ok r refl e }

  sound_acquire : IsSound s m (change o ops.Acquire 0 replies.Ok)
  sound_acquire = record { act = refl; keeps = λ k. kept_keeps s m (acted m o ops.Acquire) (keeps_same m o) k; nobody = λ r e. nobody_is replies.Ok r refl e }

  sound_try_acquire : IsSound s m (change o ops.TryAcquire 0 replies.True)
  sound_try_acquire = record { act = refl; keeps = λ k. kept_keeps s m (acted m o ops.TryAcquire) (keeps_same m o) k; nobody = λ r e. nobody_is replies.True r refl e }

  sound_count_down : (n : ℕ) → IsSound s m (change o ops.CountDown n replies.Ok)
  sound_count_down n = record { act = refl; keeps = λ k. kept_keeps s m (acted m o ops.CountDown) (keeps_same m o) k; nobody = λ r e. nobody_is replies.Ok r refl e }

  -- ---- asks

  abbrev pub Serves : Ask → Object → Type 0
  Serves k d = (share : ℕ) → takes k ≤ share → serves (kind_of d) (of m o) share k

  pub served : (fs : List Form) (k : Ask) (d : Object) → slice_get s.objects o.0 ≡ Some d → fs ≡ asked_forms (kind_of d) o k → Serves k d → IsServed s m fs
  served fs k d there is may = record { object = o; ask = k; declared = d; there = there; forms = is; served = may }

  pub plain_lock : is_plain (slice_get s.objects o.0) ≡ true → levels m o.0 ≡ 0 → Offered s m (change o ops.Lock 0 replies.Ok ∷ [])
  plain_lock h free =
      let p = plain_there (slice_get s.objects o.0) h in
      record {
        served = served (change o ops.Lock 0 replies.Ok ∷ []) (change_alone ops.Lock (pos 0) (pos 0)) (objects.Mutex p.0) p.1 refl (λ share le. subst (λ (n : ℕ). asks_mutex n (Some ops.Lock) None (pos 0) (pos 0)) (sym free) tt);
        sound = (sound_lock (plain_lockable (slice_get s.objects o.0) h), tt);
      }

  pub plain_try : is_plain (slice_get s.objects o.0) ≡ true → levels m o.0 ≡ 0 → Offered s m (change o ops.TryLock 0 replies.True ∷ look o ops.TryLock 0 replies.False ∷ [])
  plain_try h free =
      let p = plain_there (slice_get s.objects o.0) h in
      record {
        served = served (change o ops.TryLock 0 replies.True ∷ look o ops.TryLock 0 replies.False ∷ []) (either_of ops.TryLock ops.TryLock (pos 0) (pos 0)) (objects.Mutex p.0) p.1 refl (λ share le. subst (λ (n : ℕ). asks_mutex n (Some ops.TryLock) (Some ops.TryLock) (pos 0) (pos 0)) (sym free) tt);
        sound = (sound_try (plain_lockable (slice_get s.objects o.0) h), (sound_look ops.TryLock 0 replies.False refl, tt));
      }

  pub recursive_lock : is_recursive (slice_get s.objects o.0) ≡ true → Offered s m (change o ops.Lock 0 replies.Ok ∷ look o ops.Lock 0 replies.MaxLevels ∷ [])
  recursive_lock h =
      record {
        served = served (change o ops.Lock 0 replies.Ok ∷ look o ops.Lock 0 replies.MaxLevels ∷ []) (either_of ops.Lock ops.Lock (pos 0) (pos 0)) objects.Recursive (recursive_there (slice_get s.objects o.0) h) refl (λ share le. tt);
        sound = (sound_lock (recursive_lockable (slice_get s.objects o.0) h), (sound_look ops.Lock 0 replies.MaxLevels refl, tt));
      }

  pub recursive_try : is_recursive (slice_get s.objects o.0) ≡ true → Offered s m (change o ops.TryLock 0 replies.True ∷ look o ops.TryLock 0 replies.False ∷ [])
  recursive_try h =
      record {
        served = served (change o ops.TryLock 0 replies.True ∷ look o ops.TryLock 0 replies.False ∷ []) (either_of ops.TryLock ops.TryLock (pos 0) (pos 0)) objects.Recursive (recursive_there (slice_get s.objects o.0) h) refl (λ share le. tt);
        sound = (sound_try (recursive_lockable (slice_get s.objects o.0) h), (sound_look ops.TryLock 0 replies.False refl, tt));
      }

  unlock_served : (n : ℕ) (d : Option Object) → slice_get s.objects o.0 ≡ d → is_lockable d ≡ true → levels m o.0 ≡ suc n → IsServed s m (change o ops.Unlock 0 replies.Ok ∷ [])
  unlock_served n (Some (objects.Mutex numbers)) there h own = served (change o ops.Unlock 0 replies.Ok ∷ []) (change_alone ops.Unlock (pos 0) (pos 0)) (objects.Mutex numbers) there refl (λ share le. subst (λ (k : ℕ). asks_mutex k (Some ops.Unlock) None (pos 0) (pos 0)) (sym own) tt)
  unlock_served n (Some objects.Recursive) there h own = served (change o ops.Unlock 0 replies.Ok ∷ []) (change_alone ops.Unlock (pos 0) (pos 0)) objects.Recursive there refl (λ share le. subst (λ (k : ℕ). asks_recursive k (Some ops.Unlock) None (pos 0) (pos 0)) (sym own) tt)
  unlock_served n (Some objects.Shared) there h own = served (change o ops.Unlock 0 replies.Ok ∷ []) (change_alone ops.Unlock (pos 0) (pos 0)) objects.Shared there refl (λ share le. subst (λ (k : ℕ). asks_shared k (reads m o.0) (Some ops.Unlock) None (pos 0) (pos 0)) (sym own) tt)
  unlock_served n _ there h own = cc

  pub unlock : (n : ℕ) → is_lockable (slice_get s.objects o.0) ≡ true → levels m o.0 ≡ suc n → Offered s m (change o ops.Unlock 0 replies.Ok ∷ [])
  unlock n h own = record { served = unlock_served n (slice_get s.objects o.0) refl h own; sound = (sound_unlock h, tt) }

  pub release : (n : ℕ) → is_semaphore (slice_get s.objects o.0) ≡ true → n ≤ 65535 → Offered s m (change o ops.Release n replies.Ok ∷ look o ops.Release n replies.Over ∷ [])
  release n h small =
      let p = semaphore_there (slice_get s.objects o.0) h in
      record {
        served = served (change o ops.Release n replies.Ok ∷ look o ops.Release n replies.Over ∷ []) (either_of ops.Release ops.Release (pos n) (pos 0)) (objects.Semaphore p.0 p.1) p.2 refl (λ share le. small);
        sound = (sound_release n, (sound_look ops.Release n replies.Over refl, tt));
      }

  pub acquire : is_semaphore (slice_get s.objects o.0) ≡ true → Offered s m (change o ops.Acquire 0 replies.Ok ∷ [])
  acquire h =
      let p = semaphore_there (slice_get s.objects o.0) h in
      record {
        served = served (change o ops.Acquire 0 replies.Ok ∷ []) (change_alone ops.Acquire (pos 0) (pos 0)) (objects.Semaphore p.0 p.1) p.2 refl (λ share le. tt);
        sound = (sound_acquire, tt);
      }

  pub try_acquire : is_semaphore (slice_get s.objects o.0) ≡ true → Offered s m (change o ops.TryAcquire 0 replies.True ∷ look o ops.TryAcquire 0 replies.False ∷ [])
  try_acquire h =
      let p = semaphore_there (slice_get s.objects o.0) h in
      record {
        served = served (change o ops.TryAcquire 0 replies.True ∷ look o ops.TryAcquire 0 replies.False ∷ []) (either_of ops.TryAcquire ops.TryAcquire (pos 0) (pos 0)) (objects.Semaphore p.0 p.1) p.2 refl (λ share le. tt);
        sound = (sound_try_acquire, (sound_look ops.TryAcquire 0 replies.False refl, tt));
      }

  pub count_down : (n : ℕ) → is_latch (slice_get s.objects o.0) ≡ true → n ≤ 65535 → Offered s m (change o ops.CountDown n replies.Ok ∷ [])
  count_down n h small =
      let p = latch_there (slice_get s.objects o.0) h in
      record {
        served = served (change o ops.CountDown n replies.Ok ∷ []) (change_alone ops.CountDown (pos n) (pos 0)) (objects.Latch p.0) p.1 refl (λ share le. (small, le));
        sound = (sound_count_down n, tt);
      }

  pub wait : is_latch (slice_get s.objects o.0) ≡ true → Offered s m (look o ops.Wait 0 replies.Ok ∷ [])
  wait h =
      let p = latch_there (slice_get s.objects o.0) h in
      record {
        served = served (look o ops.Wait 0 replies.Ok ∷ []) (look_alone ops.Wait (pos 0) (pos 0)) (objects.Latch p.0) p.1 refl (λ share le. tt);
        sound = (sound_look ops.Wait 0 replies.Ok refl, tt);
      }

  pub try_wait : is_latch (slice_get s.objects o.0) ≡ true → Offered s m (look o ops.TryWait 0 replies.True ∷ look o ops.TryWait 0 replies.False ∷ [])
  try_wait h =
      let p = latch_there (slice_get s.objects o.0) h in
      record {
        served = served (look o ops.TryWait 0 replies.True ∷ look o ops.TryWait 0 replies.False ∷ []) (look_alone ops.TryWait (pos 0) (pos 0)) (objects.Latch p.0) p.1 refl (λ share le. tt);
        sound = (sound_look ops.TryWait 0 replies.True refl, (sound_look ops.TryWait 0 replies.False refl, tt));
      }
