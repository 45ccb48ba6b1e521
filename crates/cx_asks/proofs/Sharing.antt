-- The forms of each call on a shared mutex are those of an ask that is served.
use Rattle.std.proofs.Common.{◌≡◌, ℕ, zero, suc, pos, Bool, true, false, [], ◌∷◌, Option, Some, None, slice_get, refl, sym, subst}
use Rattle.cx_names.specs.declared.ObjectNo.{ObjectNo}
use Rattle.cx_names.specs.declared.Reply.TheVariants as replies
use Rattle.cx_machine.specs.declared.kind.Op.{Op}
use Rattle.cx_machine.specs.declared.kind.Op.TheVariants as ops
use Rattle.cx_scene.specs.declared.declared.Object.{Object}
use Rattle.cx_scene.specs.declared.declared.Object.TheVariants as objects
use Rattle.cx_scene.specs.Scene.{Scene}
use Rattle.cx_items.specs.Form.{change, look}
use Rattle.cx_items.specs.Memory.{Memory, of, kept_after}
use Rattle.cx_asks.specs.Asks.{asks_shared}
use Rattle.cx_asks.specs.Forms.{change_alone, either_of}
use Rattle.cx_asks.specs.Scenes.{is_shared}
use Rattle.cx_asks.proofs.Kept.{levels, reads, acted, shares_set, kept_shares}
use Rattle.cx_asks.proofs.Served.{IsSound, Offered, nobody_is, shared_lockable, sound_lock, sound_try, sound_look, served}

shared_there : (d : Option Object) → is_shared d ≡ true → d ≡ Some objects.Shared
shared_there (Some objects.Shared) h = refl
shared_there _ h = cc

module _ (s : Scene) (m : Memory) (o : ObjectNo) where
  sound_lock_shared : is_shared (slice_get s.objects o.0) ≡ true → IsSound s m (change o ops.LockShared 0 replies.Ok)
  sound_lock_shared h = record { act = refl; keeps = kept_shares s m (acted m o ops.LockShared) o.0 (shares_set m o (kept_after ops.LockShared (of m o)) refl refl) h; nobody = λ r e. nobody_is replies.Ok r refl e }

  sound_try_shared : is_shared (slice_get s.objects o.0) ≡ true → IsSound s m (change o ops.TryLockShared 0 replies.True)
  sound_try_shared h = record { act = refl; keeps = kept_shares s m (acted m o ops.TryLockShared) o.0 (shares_set m o (kept_after ops.TryLockShared (of m o)) refl refl) h; nobody = λ r e. nobody_is replies.True r refl e }

  sound_unlock_shared : is_shared (slice_get s.objects o.0) ≡ true → IsSound s m (change o ops.UnlockShared 0 replies.Ok)
  sound_unlock_shared h = record { act = refl; keeps = kept_shares s m (acted m o ops.UnlockShared) o.0 (shares_set m o (kept_after ops.UnlockShared (of m o)) refl refl) h; nobody = λ r e. nobody_is replies.Ok r refl e }

  -- what is asked of a shared mutex that the thread doesn't hold
  free_asks : (change look : Option Op) → levels m o.0 ≡ 0 → reads m o.0 ≡ false → asks_shared 0 false change look (pos 0) (pos 0) → asks_shared (levels m o.0) (reads m o.0) change look (pos 0) (pos 0)
  free_asks change look free unread ask = subst (λ (n : ℕ). asks_shared n (reads m o.0) change look (pos 0) (pos 0)) (sym free) (subst (λ (b : Bool). asks_shared 0 b change look (pos 0) (pos 0)) (sym unread) ask)

  pub shared_lock : is_shared (slice_get s.objects o.0) ≡ true → levels m o.0 ≡ 0 → reads m o.0 ≡ false → Offered s m (change o ops.Lock 0 replies.Ok ∷ [])
  shared_lock h free unread = record {
    served = served s m o (change o ops.Lock 0 replies.Ok ∷ []) (change_alone ops.Lock (pos 0) (pos 0)) objects.Shared (shared_there (slice_get s.objects o.0) h) refl (λ share le. free_asks (Some ops.Lock) None free unread tt);
    sound = (sound_lock s m o (shared_lockable (slice_get s.objects o.0) h), tt);
  }

  pub shared_try : is_shared (slice_get s.objects o.0) ≡ true → levels m o.0 ≡ 0 → reads m o.0 ≡ false → Offered s m (change o ops.TryLock 0 replies.True ∷ look o ops.TryLock 0 replies.False ∷ [])
  shared_try h free unread = record {
    served = served s m o (change o ops.TryLock 0 replies.True ∷ look o ops.TryLock 0 replies.False ∷ []) (either_of ops.TryLock ops.TryLock (pos 0) (pos 0)) objects.Shared (shared_there (slice_get s.objects o.0) h) refl (λ share le. free_asks (Some ops.TryLock) (Some ops.TryLock) free unread tt);
    sound = (sound_try s m o (shared_lockable (slice_get s.objects o.0) h), (sound_look s m o ops.TryLock 0 replies.False refl, tt));
  }

  pub lock_shared : is_shared (slice_get s.objects o.0) ≡ true → levels m o.0 ≡ 0 → reads m o.0 ≡ false → Offered s m (change o ops.LockShared 0 replies.Ok ∷ [])
  lock_shared h free unread = record {
    served = served s m o (change o ops.LockShared 0 replies.Ok ∷ []) (change_alone ops.LockShared (pos 0) (pos 0)) objects.Shared (shared_there (slice_get s.objects o.0) h) refl (λ share le. free_asks (Some ops.LockShared) None free unread tt);
    sound = (sound_lock_shared h, tt);
  }

  pub try_lock_shared : is_shared (slice_get s.objects o.0) ≡ true → levels m o.0 ≡ 0 → reads m o.0 ≡ false → Offered s m (change o ops.TryLockShared 0 replies.True ∷ look o ops.TryLockShared 0 replies.False ∷ [])
  try_lock_shared h free unread = record {
    served = served s m o (change o ops.TryLockShared 0 replies.True ∷ look o ops.TryLockShared 0 replies.False ∷ []) (either_of ops.TryLockShared ops.TryLockShared (pos 0) (pos 0)) objects.Shared (shared_there (slice_get s.objects o.0) h) refl (λ share le. free_asks (Some ops.TryLockShared) (Some ops.TryLockShared) free unread tt);
    sound = (sound_try_shared h, (sound_look s m o ops.TryLockShared 0 replies.False refl, tt));
  }

  -- a thread that shares it may end that, however often it owns it
  unread_asks : (n : ℕ) → asks_shared n true (Some ops.UnlockShared) None (pos 0) (pos 0)
  unread_asks zero = tt
  unread_asks (suc n) = tt

  pub unlock_shared : is_shared (slice_get s.objects o.0) ≡ true → reads m o.0 ≡ true → Offered s m (change o ops.UnlockShared 0 replies.Ok ∷ [])
  unlock_shared h shares = record {
    served = served s m o (change o ops.UnlockShared 0 replies.Ok ∷ []) (change_alone ops.UnlockShared (pos 0) (pos 0)) objects.Shared (shared_there (slice_get s.objects o.0) h) refl (λ share le. subst (λ (b : Bool). asks_shared (levels m o.0) b (Some ops.UnlockShared) None (pos 0) (pos 0)) (sym shares) (unread_asks (levels m o.0)));
    sound = (sound_unlock_shared h, tt);
  }
