use Rattle.std.proofs.Common.{◌≡◌, ◌∙◌, sym, ap}
use Rattle.cx_machine.specs.Shared.{Shared}
use Rattle.cx_turn.specs.declared.view.View.{View}
use Rattle.cx_shared_mutex.proofs.lockable.SharedMutexLockable.release.Goals as goal

pub returns-clause-number : goal.returns-clause-number
returns-clause-number g c =
    let p = c.requires.key in
    let d = c.unlock.ensures.made p.0 p.1 in
    let same : c.unlock.new.pass.number.0 ≡ c.args.key.now.number.0 = sym d.1.numbered ∙ (ap (λ (x : View Shared). x.number) d.2.view ∙ p.1.numbered) in
    λ i. record { 0 = same i }
