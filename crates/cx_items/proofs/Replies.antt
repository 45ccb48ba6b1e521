-- A task that is no reply leaves none due.
use Rattle.std.proofs.Common.{◌≡◌, List, ◌∷◌, None, refl}
use Rattle.cx_names.specs.declared.Reply.{Reply}
use Rattle.cx_items.specs.declared.task.Task.{Task}
use Rattle.cx_items.specs.declared.task.Task.TheVariants.{Says}
use Rattle.cx_items.specs.Next.{due_reply}

pub no_reply : (task : Task) (others : List Task) → ((r : Reply) → task ≡ Says r → ⊥) → due_reply (task ∷ others) ≡ None
no_reply (Says r) others h = absurd (h r refl)
no_reply task others h = refl
