-- The forms of each act on a barrier are those of an ask that is served.
use Rattle.std.proofs.Common.{◌≡◌, ℕ, zero, suc, ◌≤◌, ℤ, pos, Bool, true, false, ◌&&◌, List, [], ◌∷◌, Option, Some, None, slice_get, refl, ap, sym, ◌∙◌}
use Rattle.std.specs.Prelude.{nat_le}
use Rattle.std.specs.List.{list_all}
use Rattle.std.proofs.lemmas.Bool.{and_parts, leb-true}
use Rattle.cx_names.specs.declared.ObjectNo.{ObjectNo}
use Rattle.cx_names.specs.declared.Reply.{Reply}
use Rattle.cx_names.specs.declared.Reply.TheVariants as replies
use Rattle.cx_machine.specs.declared.kind.Op.{Op}
use Rattle.cx_machine.specs.declared.kind.Op.TheVariants as ops
use Rattle.cx_scene.specs.declared.declared.Object.{Object}
use Rattle.cx_scene.specs.declared.declared.Object.TheVariants as objects
use Rattle.cx_scene.specs.declared.declared.Small.{Small}
use Rattle.cx_scene.specs.declared.declared.Small.TheVariants as smalls
use Rattle.cx_scene.specs.Scene.{Scene}
use Rattle.cx_items.specs.declared.form.Form.TheVariants.{Change, Look}
use Rattle.cx_items.specs.declared.form.Wanted.TheVariants.{Just, ANumber}
use Rattle.cx_items.specs.Form.{change, look, forms_in, is_number}
use Rattle.cx_items.specs.Calls.{small_forms}
use Rattle.cx_items.specs.Memory.{Memory, of, kept_after}
use Rattle.cx_asks.specs.Forms.{change_alone, look_alone, either_of}
use Rattle.cx_asks.specs.Scenes.{is_object_now, is_completion_now, is_barrier, completes_on, is_completed_on, IsAskable}
use Rattle.cx_asks.specs.Offers.{names_nobody}
use Rattle.cx_asks.proofs.Forms.{form_after}
use Rattle.cx_asks.proofs.Kept.{acted, IsKept, keeps_set, kept_keeps, keeps_same}
use Rattle.cx_asks.proofs.Served.{IsSound, AllSound, Offered, sound_change, sound_look, nobody_is, served, release}

-- the object is a barrier, whose completion, if it has one, releases a semaphore
pub record IsBarrier (s : Scene) (b : ObjectNo) : Type 0 where
  pub count : ℕ
  pub small : Option Small
  pub there : slice_get s.objects b.0 ≡ Some (objects.Barrier count small)
  pub now : is_completion_now small ≡ true
  pub on : completes_on s small ≡ true

all_at : (test : Object → Bool) (ds : List Object) (i : ℕ) (d : Object) → list_all test ds ≡ true → slice_get ds i ≡ Some d → test d ≡ true
all_at test [] i d h e = cc
all_at test (x ∷ ds) zero d h e = let same : x ≡ d = cc in ap test (sym same) ∙ (and_parts (test x) (list_all test ds) h).0
all_at test (x ∷ ds) (suc i) d h e = all_at test ds i d (and_parts (test x) (list_all test ds) h).1 e

barrier_there : (d : Option Object) → is_barrier d ≡ true → (count : ℕ) × (small : Option Small) × (d ≡ Some (objects.Barrier count small))
barrier_there (Some (objects.Barrier count small)) h = (count, small, refl)
barrier_there _ h = cc

last_of : (a b c : Bool) → (a && b && c) ≡ true → c ≡ true
last_of true true c h = h
last_of true false c h = cc
last_of false b c h = cc

pub barrier_is : (s : Scene) (b : ObjectNo) → IsAskable s → is_barrier (slice_get s.objects b.0) ≡ true → IsBarrier s b
barrier_is s b a h =
    let p = barrier_there (slice_get s.objects b.0) h in
    record {
      count = p.0;
      small = p.1;
      there = p.2;
      now = last_of (nat_le 1 p.0) (nat_le p.0 4096) (is_completion_now p.1) (all_at is_object_now s.objects b.0 (objects.Barrier p.0 p.1) a.objects p.2);
      on = all_at (is_completed_on s) s.objects b.0 (objects.Barrier p.0 p.1) a.completions p.2;
    }

-- a number names no thread
number_nobody : (r : Reply) → is_number r ≡ true → names_nobody r ≡ true
number_nobody (replies.Number n) h = refl
number_nobody _ h = cc

module _ (s : Scene) (m : Memory) (b : ObjectNo) where
  -- an arrival of which the reply is left open
  sound_arrival : (op : Op) (a : ℤ) → (IsKept s m → IsKept s (form_after s (Change b op a (pos 0) ANumber) m)) → IsSound s m (Change b op a (pos 0) ANumber)
  sound_arrival op a keeps = record { act = refl; keeps = keeps; nobody = number_nobody }

  pub arrive : (n : ℕ) → IsBarrier s b → 1 ≤ n → n ≤ 4096 → Offered s m (Change b ops.Arrive (pos n) (pos 0) ANumber ∷ look b ops.Arrive n replies.OverExpected ∷ [])
  arrive n h some few = record {
    served = served s m b (Change b ops.Arrive (pos n) (pos 0) ANumber ∷ look b ops.Arrive n replies.OverExpected ∷ []) (either_of ops.Arrive ops.Arrive (pos n) (pos 0)) (objects.Barrier h.count h.small) h.there refl (λ share le. (some, few));
    sound = (sound_arrival ops.Arrive (pos n) (kept_keeps s m (acted m b ops.Arrive) (keeps_same m b)), (sound_look s m b ops.Arrive n replies.OverExpected refl, tt));
  }

  pub drop_ : IsBarrier s b → Offered s m (Change b ops.Drop (pos 0) (pos 0) ANumber ∷ look b ops.Drop 0 replies.OverExpected ∷ [])
  drop_ h = record {
    served = served s m b (Change b ops.Drop (pos 0) (pos 0) ANumber ∷ look b ops.Drop 0 replies.OverExpected ∷ []) (either_of ops.Drop ops.Drop (pos 0) (pos 0)) (objects.Barrier h.count h.small) h.there refl (λ share le. tt);
    sound = (sound_arrival ops.Drop (pos 0) (kept_keeps s m (acted m b ops.Drop) (keeps_set m b (kept_after ops.Drop (of m b)) refl refl refl)), (sound_look s m b ops.Drop 0 replies.OverExpected refl, tt));
  }

  pub complete : IsBarrier s b → Offered s m (change b ops.Complete 0 replies.Ok ∷ [])
  complete h = record {
    served = served s m b (change b ops.Complete 0 replies.Ok ∷ []) (change_alone ops.Complete (pos 0) (pos 0)) (objects.Barrier h.count h.small) h.there refl (λ share le. tt);
    sound = (sound_change s m b ops.Complete 0 replies.Ok refl (kept_keeps s m (acted m b ops.Complete) (keeps_same m b)), tt);
  }

  pub wait_phase : (phase : ℤ) → IsBarrier s b → Offered s m (Look b ops.Wait phase (pos 0) (Just replies.Ok) ∷ [])
  wait_phase phase h = record {
    served = served s m b (Look b ops.Wait phase (pos 0) (Just replies.Ok) ∷ []) (look_alone ops.Wait phase (pos 0)) (objects.Barrier h.count h.small) h.there refl (λ share le. tt);
    sound = (record { act = refl; keeps = λ k. k; nobody = λ r e. nobody_is replies.Ok r refl e }, tt);
  }

-- each form of the act of a completion is sound
abbrev pub SmallSound : Scene → Memory → Option Small → Type 0
SmallSound s m None = Unit {0}
SmallSound s m (Some x) = AllSound s m (forms_in (small_forms x))

-- the completion's one act
pub small_offered : (s : Scene) (m : Memory) (x : Small) → is_completion_now (Some x) ≡ true → completes_on s (Some x) ≡ true → Offered s m (forms_in (small_forms x))
small_offered s m (smalls.Release q n) now on = release s m q n on (leb-true n 65535 now)
small_offered s m _ now on = cc

pub small_sound : (s : Scene) (m : Memory) (small : Option Small) → is_completion_now small ≡ true → completes_on s small ≡ true → SmallSound s m small
small_sound s m None now on = tt
small_sound s m (Some x) now on = (small_offered s m x now on).sound
