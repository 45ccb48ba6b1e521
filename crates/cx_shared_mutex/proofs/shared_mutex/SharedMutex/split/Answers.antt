use Rattle.std.proofs.Common.{refl}
use Rattle.cx_turn.specs.Views.{split_right}
use Rattle.cx_shared_mutex.proofs.Passes.{owns_nothing}
use Rattle.cx_shared_mutex.proofs.shared_mutex.SharedMutex.split.Goals as goal

pub returns-clause-bare : goal.returns-clause-bare
returns-clause-bare c =
    let p = c.requires.pass in
    owns_nothing c.args.self.now c.split.result (split_right p.0 c.args.calls) (c.split.ensures.second p.0 p.1) refl
