use Rattle.std.proofs.Common.{◌≡◌, ℕ, ◌*◌, take}
use Rattle.cx_asks.specs.Scenes.{count_at}
use Rattle.cx_work.specs.RunNow.{share_at}
use Rattle.cx_work.proofs.Rows.{SomeMade}
use Rattle.cx_work.proofs.making.all_of.Given as goal

abbrev pub invariant-loop-object : goal.invariant-loop-object
invariant-loop-object l = SomeMade l.declared l.object-index l.threads (131072 * l.threads) l.all.items × ((o : ℕ) → share_at l.all.items o ≡ count_at (take l.object-index l.declared) o)
