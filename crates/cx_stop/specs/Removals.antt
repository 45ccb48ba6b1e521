-- What a deregistration came to.
use Rattle.std.specs.Prelude.{◌≡◌, ℕ}
use Rattle.cx_names.specs.declared.Reply.{Reply}
use Rattle.cx_names.specs.declared.Reply.TheVariants as replies
use Rattle.cx_stop.specs.declared.deregister.Deregistered.{Deregistered}
use Rattle.cx_stop.specs.declared.deregister.Deregistered.TheVariants as founds

module _ {C : Type 0} where
  abbrev pub reply_of : Deregistered C → Reply
  reply_of (founds.Removed c n) = replies.Removed
  reply_of (founds.Ran n) = replies.Ran
  reply_of (founds.Inside n) = replies.Inside

  abbrev pub place_of : Deregistered C → ℕ
  place_of (founds.Removed c n) = n
  place_of (founds.Ran n) = n
  place_of (founds.Inside n) = n

  abbrev pub IsOutcome : Reply → ℕ → Deregistered C → Type 0
  IsOutcome r n d = (reply_of d ≡ r) × (place_of d ≡ n)

  -- a value that comes back suits the ID of the callback
  abbrev pub GivesBack : (C → ℕ → Type 0) → ℕ → Deregistered C → Type 0
  GivesBack suits id (founds.Removed c n) = suits c id
  GivesBack suits id (founds.Ran n) = Unit {0}
  GivesBack suits id (founds.Inside n) = Unit {0}
