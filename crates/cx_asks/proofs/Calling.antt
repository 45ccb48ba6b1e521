-- The forms of a call of a once flag's function are those of an ask that is served.
use Rattle.std.proofs.Common.{◌≡◌, ℕ, ◌^◌, ◌<◌, pos, true, [], ◌∷◌, Option, Some, slice_get, refl}
use Rattle.cx_names.specs.declared.ObjectNo.{ObjectNo}
use Rattle.cx_names.specs.declared.Reply.TheVariants as replies
use Rattle.cx_machine.specs.declared.kind.Op.TheVariants as ops
use Rattle.cx_scene.specs.declared.declared.Object.{Object}
use Rattle.cx_scene.specs.declared.declared.Object.TheVariants as objects
use Rattle.cx_scene.specs.Scene.{Scene}
use Rattle.cx_items.specs.Form.{change, look}
use Rattle.cx_items.specs.Memory.{Memory}
use Rattle.cx_asks.specs.Forms.{change_alone, either_of}
use Rattle.cx_asks.specs.Scenes.{is_once}
use Rattle.cx_asks.proofs.Kept.{acted, keeps_same, kept_keeps}
use Rattle.cx_asks.proofs.Served.{Offered, sound_change, sound_look, served}

once_there : (d : Option Object) → is_once d ≡ true → d ≡ Some objects.Once
once_there (Some objects.Once) h = refl
once_there _ h = cc

module _ (s : Scene) (m : Memory) (o : ObjectNo) where
  pub begin : is_once (slice_get s.objects o.0) ≡ true → Offered s m (change o ops.Begin 0 replies.Ok ∷ look o ops.Passive 0 replies.Ok ∷ [])
  begin h = record {
    served = served s m o (change o ops.Begin 0 replies.Ok ∷ look o ops.Passive 0 replies.Ok ∷ []) (either_of ops.Begin ops.Passive (pos 0) (pos 0)) objects.Once (once_there (slice_get s.objects o.0) h) refl (λ share le. tt);
    sound = (sound_change s m o ops.Begin 0 replies.Ok refl (kept_keeps s m (acted m o ops.Begin) (keeps_same m o)), (sound_look s m o ops.Passive 0 replies.Ok refl, tt));
  }

  pub finish : is_once (slice_get s.objects o.0) ≡ true → Offered s m (change o ops.Finish 0 replies.Ok ∷ [])
  finish h = record {
    served = served s m o (change o ops.Finish 0 replies.Ok ∷ []) (change_alone ops.Finish (pos 0) (pos 0)) objects.Once (once_there (slice_get s.objects o.0) h) refl (λ share le. tt);
    sound = (sound_change s m o ops.Finish 0 replies.Ok refl (kept_keeps s m (acted m o ops.Finish) (keeps_same m o)), tt);
  }

  pub fail : (e : ℕ) → is_once (slice_get s.objects o.0) ≡ true → e < 2 ^ 32 → Offered s m (change o ops.Fail e replies.Ok ∷ [])
  fail e h small = record {
    served = served s m o (change o ops.Fail e replies.Ok ∷ []) (change_alone ops.Fail (pos e) (pos 0)) objects.Once (once_there (slice_get s.objects o.0) h) refl (λ share le. small);
    sound = (sound_change s m o ops.Fail e replies.Ok refl (kept_keeps s m (acted m o ops.Fail) (keeps_same m o)), tt);
  }
